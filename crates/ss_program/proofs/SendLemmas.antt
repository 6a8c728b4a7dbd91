-- What puts one after another leave, and fronts of a text.
use Rattle.ss_program.proofs.Common.{◌≡◌, ℕ, ◌+◌, ◌++◌, ◌-◌, ◌<◌, ◌≤◌, List, [], length, min, take, drop, take_all, Option, Some, None, Ok, Err, Result, refl}
use Rattle.ss_program.proofs.Common.{sym, ap, ◌∙◌, append_assoc, length-drop, inl, inr, arith, take-add, take-append-add, cases_lt, append-nil, length-append}
use Rattle.ss_program.proofs.Common.{take-append-le, Failed, appended, AppendsFront, AppendsLess, Puts, SaysLine}
use Rattle.ss_outside.specs.Sink.{Appends}

appends : (held after : Option (List ℕ)) (piece : List ℕ) (k : ℕ) → Appends held after (Ok k) piece → after ≡ appended held (take k piece)
appends None after piece k is = is
appends (Some bytes) after piece k is = is

pub appended-nil : (held : Option (List ℕ)) → appended held [] ≡ held
appended-nil None = refl
appended-nil (Some bytes) = ap (λ s. Some s) (append-nil bytes)

pub appended-appended : (held : Option (List ℕ)) (a b : List ℕ) → appended (appended held a) b ≡ appended held (a ++ b)
appended-appended None a b = refl
appended-appended (Some bytes) a b = ap (λ s. Some s) (append_assoc bytes a b)

-- what is left of a text, as a slice of it
pub rest-slice : (text : List ℕ) (sent : ℕ) → take (length text - sent) (drop sent text) ≡ drop sent text
rest-slice text sent = take_all (length text - sent) (drop sent text) (simp length-drop (omega arith))

-- what a put of the rest appends comes after what was sent
pub appended_more : (before held after : Option (List ℕ)) (text : List ℕ) (sent k : ℕ) → held ≡ appended before (take sent text) →
    Appends held after (Ok k) (take (length text - sent) (drop sent text)) → after ≡ appended before (take (sent + k) text)
appended_more before held after text sent k is more =
    appends held after (take (length text - sent) (drop sent text)) k more
    ∙ ap (λ rest. appended held (take k rest)) (rest-slice text sent)
    ∙ ap (λ o. appended o (take k (drop sent text))) is
    ∙ appended-appended before (take sent text) (take k (drop sent text))
    ∙ ap (λ s. appended before s) (sym (take-add sent k text))

-- and it is no longer than the rest
pub fits_more : (text : List ℕ) (sent k : ℕ) → sent ≤ length text → k ≤ length (take (length text - sent) (drop sent text)) →
    sent + k ≤ length text
fits_more text sent k within part = let short = ap (λ (s : List ℕ). length s) (rest-slice text sent) in omega (arith, length-drop sent text)

-- taking more than there is takes all
take-min : (k : ℕ) (a : List ℕ) → take k a ≡ take (min k (length a)) a
take-min k a = elim (cases_lt (length a) k) [
  | inl more ↦ (let all : min k (length a) ≡ length a = omega arith in
      take_all k a (omega arith) ∙ sym (ap (λ i. take i a) all ∙ take_all (length a) a (omega arith)))
  | inr fits ↦ (let same : min k (length a) ≡ k = omega arith in sym (ap (λ i. take i a) same))
]

-- the whole is a front
pub AppendsFront-all : (before after : Option (List ℕ)) (a : List ℕ) → after ≡ appended before a → AppendsFront before after a
AppendsFront-all before after a is = (length a, is ∙ ap (λ bs. appended before bs) (sym (take_all (length a) a (omega arith))))

-- a front is a front of what is longer
pub AppendsFront-longer : (before after : Option (List ℕ)) (a b : List ℕ) → AppendsFront before after a → AppendsFront before after (a ++ b)
AppendsFront-longer before after a b part = (
  min part.0 (length a),
  part.1 ∙ ap (λ bs. appended before bs) (take-min part.0 a ∙ sym (take-append-le (min part.0 (length a)) a b (omega arith))),
)

-- what sending a line leaves, whatever it answers
pub SaysLine-sent : (before after : Option (List ℕ)) (line : List ℕ) (had has : ℕ) (result : Result (Unit {0}) Failed) →
    Puts line before had after has result → SaysLine line before after had has
SaysLine-sent before after line had has (Ok u) puts = record { front = AppendsFront-all before after line puts.sends; whole = λ _. puts.sends }
SaysLine-sent before after line had has (Err e) puts = record { front = (puts.sends.0, puts.sends.2); whole = λ calm. absurd (calm puts.counted.1) }

-- nothing was sent of a text that isn't empty
pub AppendsLess-none : (held : Option (List ℕ)) (text : List ℕ) → 0 < length text → AppendsLess held held text
AppendsLess-none held text some = (0, some, sym (appended-nil held))

-- less than a text that comes after others was sent
pub AppendsLess-after : (before held after : Option (List ℕ)) (a b c : List ℕ) → held ≡ appended before a → AppendsLess held after b →
    AppendsLess before after (a ++ (b ++ c))
AppendsLess-after before held after a b c is less = (
  length a + less.0,
  omega (arith, less.1, length-append a (b ++ c), length-append b c),
  less.2 ∙ ap (λ o. appended o (take less.0 b)) is ∙ appended-appended before a (take less.0 b)
      ∙ ap (λ bs. appended before bs) (ap (λ bs. a ++ bs) (sym (take-append-le less.0 b c (omega (arith, less.1))))
      ∙ sym (take-append-add a (b ++ c) less.0)),
)
