-- Which events are accepted of lines, and which of them are acknowledged by so many bytes of the report.
use Rattle.ss_program.proofs.Common.{◌≡◌, ◌⊎◌, inl, inr, ℕ, ◌+◌, ◌-◌, ◌<◌, ◌≤◌, ◌++◌, List, [], ◌∷◌, length, take, take_all, Option, Some, None, IsSome, refl}
use Rattle.ss_program.proofs.Common.{sym, ap, ◌∙◌, append_assoc, arith, nat_le, cases_lt, cond-true, cond-false, le-leb, lt-leb, length-append}
use Rattle.ss_program.proofs.Common.{length-take-le, take-append-le, Event, StandsShort, Happened, StandsForFirst, StandsShortForFirst, acks, the_event}
use Rattle.ss_program.proofs.Common.{HoldsTalk, StandsWithin, appended, accepted, after_line, after_lines, text_of, Talk, turn_of}
use Rattle.ss_program.proofs.LeftLemmas.{left_short}
use Rattle.ss_program.proofs.ReportLemmas.{after_lines-accepted, says-some}

-- the events accepted of more lines
pub accepted-append : (talk : Talk) (ls ms : List (List ℕ)) → accepted talk (ls ++ ms) ≡ accepted talk ls ++ accepted (after_lines talk ls) ms
accepted-append talk [] ms = refl
accepted-append talk (l ∷ ls) ms =
    ap (λ es. the_event (turn_of talk l).event ++ es) (accepted-append (after_line talk l) ls ms)
    ∙ sym (append_assoc (the_event (turn_of talk l).event) (accepted (after_line talk l) ls) (accepted (after_lines (after_line talk l) ls) ms))

-- the history after some first lines is the one before and the first events that are accepted of all
take-front : {X : Type 0} (a b : List X) → take (length a) (a ++ b) ≡ a
take-front a b = take-append-le (length a) a b (omega arith) ∙ take_all (length a) a (omega arith)

pub first-events : (talk : Talk) (done others : List (List ℕ)) →
    talk.history ++ take (length (accepted talk done)) (accepted talk (done ++ others)) ≡ (after_lines talk done).history
first-events talk done others =
    ap (λ es. talk.history ++ take (length (accepted talk done)) es) (accepted-append talk done others)
    ∙ ap (λ es. talk.history ++ es) (take-front (accepted talk done) (accepted (after_lines talk done) others))
    ∙ sym (after_lines-accepted talk done)

pub few-events : (talk : Talk) (done others : List (List ℕ)) → length (accepted talk done) ≤ length (accepted talk (done ++ others))
few-events talk done others =
    omega (
      arith,
      length-append (accepted talk done) (accepted (after_lines talk done) others),
      ap (λ (es : List Happened). length es)
          (accepted-append talk done others),
    )

-- an image of the history after some first lines is one of the first events
pub first-short : (talk : Talk) (done others : List (List ℕ)) (image : List ℕ) → HoldsTalk (after_lines talk done) image →
    StandsShort talk.used (talk.history ++ take (length (accepted talk done)) (accepted talk (done ++ others))) image
first-short talk done others image stands = rw first-events (left_short talk done image stands)

pub StandsShortForFirst-within : (talk : Talk) (ls : List (List ℕ)) (image : List ℕ) → StandsWithin talk ls image →
    StandsShortForFirst talk.used talk.history (accepted talk ls) image
StandsShortForFirst-within talk ls image within =
    rw within.2 (length (accepted talk within.0), few-events talk within.0 within.1, first-short talk within.0 within.1 image within.3)

pub StandsForFirst-within : (talk : Talk) (ls : List (List ℕ)) (image : List ℕ) → StandsWithin talk ls image →
    StandsForFirst talk.history (accepted talk ls) image
StandsForFirst-within talk ls image within =
    let first = StandsShortForFirst-within talk ls image within in
    (first.0, first.1, first.2.0)

-- so many bytes of the text of what comes next are less than that of its first line, or none
abbrev pub Cuts : Talk → List (List ℕ) → ℕ → Type 0
Cuts talk [] k = k ≡ 0
Cuts talk (line ∷ ls) k = (k ≡ 0) ⊎ (k < length (turn_of talk line).says)

pub none-cut : (talk : Talk) (ls : List (List ℕ)) → Cuts talk ls 0
none-cut talk [] = refl
none-cut talk (line ∷ ls) = inl refl

-- a line whose text is empty brings no event
none-brought : (event : Option Event) (n : ℕ) → (IsSome event → 0 < n) → n ≤ 0 → length (the_event event) ≡ 0
none-brought None n some none = refl
none-brought (Some event) n some none = absurd (omega (arith, some refl, none))

acks-none : (talk : Talk) (ls : List (List ℕ)) (n : ℕ) → n ≡ 0 → acks talk ls n ≡ 0
acks-none talk [] n zero = refl
acks-none talk (line ∷ ls) n zero =
    let text = length (turn_of talk line).says in
    let more = length (the_event (turn_of talk line).event) + acks (after_line talk line) ls (n - text) in
    elim (cases_lt 0 text) [
      | inl some ↦ cond-false (nat_le text n) more 0 (lt-leb text n (omega (arith, some, zero)))
      | inr none ↦ cond-true (nat_le text n) more 0 (le-leb text n (omega (arith, none)))
          ∙ (let event = none-brought (turn_of talk line).event text (says-some talk line) none in
          let rest = acks-none (after_line talk line) ls (n - text) (omega (arith, zero)) in
          omega (arith, event, rest))
    ]

acks-cut : (talk : Talk) (ls : List (List ℕ)) (k : ℕ) → Cuts talk ls k → acks talk ls k ≡ 0
acks-cut talk [] k cuts = refl
acks-cut talk (line ∷ ls) k (inl zero) = acks-none talk (line ∷ ls) k zero
acks-cut talk (line ∷ ls) k (inr less) =
    let text = length (turn_of talk line).says in
    cond-false (nat_le text k) (length (the_event (turn_of talk line).event) + acks (after_line talk line) ls (k - text)) 0 (lt-leb text k less)

-- the text of one line and of others
text_of-cons : (talk : Talk) (line : List ℕ) (ls : List (List ℕ)) →
    length (text_of talk (line ∷ ls)) ≡ length (turn_of talk line).says + length (text_of (after_line talk line) ls)
text_of-cons talk line ls =
    omega (arith, length-append (turn_of talk line).says (text_of (after_line talk line) ls))

-- the acknowledged events are those of the lines whose text was taken
pub acks-done : (talk : Talk) (done others : List (List ℕ)) (k bytes : ℕ) → Cuts (after_lines talk done) others k →
    bytes ≡ length (text_of talk done) + k → acks talk (done ++ others) bytes ≡ length (accepted talk done)
acks-done talk [] others k bytes cuts is = ap (acks talk others) (omega (arith, is)) ∙ acks-cut talk others k cuts
acks-done talk (line ∷ done) others k bytes cuts is =
    let text = length (turn_of talk line).says in
    let event = the_event (turn_of talk line).event in
    let rest = after_line talk line in
    let both = text_of-cons talk line done in
    cond-true (nat_le text bytes) (length event + acks rest (done ++ others) (bytes - text)) 0 (le-leb text bytes (omega (arith, is, both)))
    ∙ ap (λ n. length event + n) (acks-done rest done others k (bytes - text) cuts (omega (arith, is, both)))
    ∙ sym (length-append event (accepted rest done))

-- no more are acknowledged than are accepted of lines whose text has as many bytes
pub acks-few : (talk : Talk) (done others : List (List ℕ)) (bytes : ℕ) → bytes ≤ length (text_of talk done) →
    acks talk (done ++ others) bytes ≤ length (accepted talk done)
acks-few talk [] others bytes few = omega (arith, acks-none talk others bytes (omega (arith, few)))
acks-few talk (line ∷ done) others bytes few =
    let text = length (turn_of talk line).says in
    let event = the_event (turn_of talk line).event in
    let rest = after_line talk line in
    let more = length event + acks rest (done ++ others) (bytes - text) in
    let all = length-append event (accepted rest done) in
    elim (cases_lt bytes text) [
      | inl less ↦ (let none = cond-false (nat_le text bytes) more 0 (lt-leb text bytes less) in omega (arith, none))
      | inr whole ↦ (let some = cond-true (nat_le text bytes) more 0 (le-leb text bytes whole) in
          let few_more = acks-few rest done others (bytes - text) (omega (arith, few, whole, text_of-cons talk line done)) in
          omega (arith, some, few_more, all))
    ]

-- how many bytes are new
pub new_bytes : (had has a b : List ℕ) (k : ℕ) → Some has ≡ appended (appended (Some had) a) (take k b) → k ≤ length b →
    length has - length had ≡ length a + k
new_bytes had has a b k is within =
    let same : has ≡ (had ++ a) ++ take k b = cc in
    omega (arith, ap (λ (bs : List ℕ). length bs) same, length-append (had ++ a) (take k b), length-append had a, length-take-le k b within)
