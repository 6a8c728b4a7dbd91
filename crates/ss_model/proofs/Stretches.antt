-- What the windows cut after each boundary hold.
use Rattle.ss_model.proofs.Common.{◌≡◌, ℕ, ◌+◌, ◌-◌, ◌<◌, ◌≤◌, List, [], ◌∷◌, ◌++◌, length, take, drop, Some, refl, ap, sym, ◌∙◌, arith, drop-append-le}
use Rattle.ss_model.proofs.Common.{take-append-drop, sum_by-cons, summary_of, Point, boundaries, Rule, stretches, windows, taken, newest_time, time_at}
use Rattle.ss_model.proofs.Common.{time_of_last, Window}
use Rattle.std.proofs.Common.{length-drop, length-take}
use Rattle.std.proofs.lemmas.List.{take-append-le, take_at, drop_at}
use Rattle.ss_summary.proofs.SummaryLemmas.{time_at_end-append}
use Rattle.ss_model.proofs.Rises.{Rises, Rises-low, Rises-boundaries}

pub count-summary_of : (xs : List Point) → (summary_of xs).count ≡ length xs
count-summary_of [] = refl
count-summary_of (p ∷ ps) = refl

pub taken-cons : (w : Window) (ws : List Window) → taken (w ∷ ws) ≡ w.summary.count + taken ws
taken-cons w ws = sum_by-cons (λ (w : Window). w.summary.count) w ws

-- how many values stand from after `before` to b, and after b
pub length-front : (before b end : ℕ) (values : List Point) → before + length values ≡ end → before < b → b < end →
    length (take (b + 1 - (before + 1)) values) ≡ b - before
length-front before b end values count above below = omega (arith, length-take (b + 1 - (before + 1)) values)

pub length-back : (before b end : ℕ) (values : List Point) → before + length values ≡ end → before < b → b < end →
    b + length (drop (b + 1 - (before + 1)) values) ≡ end
length-back before b end values count above below = omega (arith, length-drop (b + 1 - (before + 1)) values)

taken-stretches : (before end : ℕ) (bs : List ℕ) (values : List Point) → before + length values ≡ end → Rises before bs end →
    taken (stretches (before + 1) bs values) ≡ length values
taken-stretches before end bs [] count rising = refl
taken-stretches before end [] (p ∷ ps) count rising = omega arith
taken-stretches before end (b ∷ bs) (p ∷ ps) count rising =
    let k = b + 1 - (before + 1) in
    let above = rising.0 in
    let below = Rises-low b bs end rising.1 in
    let front = length-front before b end (p ∷ ps) count above below in
    let back = length-back before b end (p ∷ ps) count above below in
    let later = taken-stretches b end bs (drop k (p ∷ ps)) back rising.1 in
    let w : Window = record { first = before + 1; summary = summary_of (take k (p ∷ ps)) } in
    omega (arith, taken-cons w (stretches (b + 1) bs (drop k (p ∷ ps))), count-summary_of (take k (p ∷ ps)))

pub taken-windows : (rule : Rule) (values : List Point) → taken (windows rule values) ≡ length values
taken-windows rule [] = refl
taken-windows rule (p ∷ ps) = taken-stretches 0 (length (p ∷ ps)) (boundaries rule (time_at (p ∷ ps)) (length (p ∷ ps))) (p ∷ ps) (omega arith)
    (Rises-boundaries rule (time_at (p ∷ ps)) (length (p ∷ ps)) (omega arith))

time_of_last-append : (xs ys : List Point) → 0 < length ys → time_of_last (xs ++ ys) ≡ time_of_last ys
time_of_last-append xs [] some = absurd (omega arith)
time_of_last-append [] (q ∷ qs) some = refl
time_of_last-append (p ∷ ps) (q ∷ qs) some = ap Some (time_at_end-append p.0 ps q qs)

newest_time_behind : (w : Window) (first : ℕ) (bs : List ℕ) (values : List Point) → 0 < length values →
    newest_time (w ∷ stretches first bs values) ≡ newest_time (stretches first bs values)
newest_time_behind w first bs [] some = absurd (omega arith)
newest_time_behind w first [] (p ∷ ps) some = refl
newest_time_behind w first (b ∷ bs) (p ∷ ps) some = refl

newest_time-stretches : (before end : ℕ) (bs : List ℕ) (values : List Point) → before + length values ≡ end → Rises before bs end →
    newest_time (stretches (before + 1) bs values) ≡ time_of_last values
newest_time-stretches before end bs [] count rising = refl
newest_time-stretches before end [] (p ∷ ps) count rising = refl
newest_time-stretches before end (b ∷ bs) (p ∷ ps) count rising =
    let k = b + 1 - (before + 1) in
    let front : List Point = take k (p ∷ ps) in
    let rest : List Point = drop k (p ∷ ps) in
    let below = Rises-low b bs end rising.1 in
    let back = length-back before b end (p ∷ ps) count rising.0 below in
    let later = newest_time-stretches b end bs rest back rising.1 in
    newest_time_behind (record { first = before + 1; summary = summary_of front }) (b + 1) bs rest (omega arith)
    ∙ later ∙ sym (time_of_last-append front rest (omega arith)) ∙ ap time_of_last (take-append-drop k (p ∷ ps))

pub newest_time-windows : (rule : Rule) (values : List Point) → newest_time (windows rule values) ≡ time_of_last values
newest_time-windows rule [] = refl
newest_time-windows rule (p ∷ ps) = newest_time-stretches 0 (length (p ∷ ps)) (boundaries rule (time_at (p ∷ ps)) (length (p ∷ ps))) (p ∷ ps) (omega arith)
    (Rises-boundaries rule (time_at (p ∷ ps)) (length (p ∷ ps)) (omega arith))

pub stretches_none : (first : ℕ) (values : List Point) → 0 < length values →
    stretches first [] values ≡ record { first = first; summary = summary_of values } ∷ []
stretches_none first [] some = absurd (omega arith)
stretches_none first (p ∷ ps) some = refl

-- a boundary cuts the windows in two
pub stretches_at : (before b : ℕ) (bs : List ℕ) (xs ys : List Point) → before + length xs ≡ b → before < b →
    stretches (before + 1) (b ∷ bs) (xs ++ ys) ≡ record { first = before + 1; summary = summary_of xs } ∷ stretches (b + 1) bs ys
stretches_at before b bs [] ys count above = absurd (omega arith)
stretches_at before b bs (x ∷ xs) ys count above =
    let k = b + 1 - (before + 1) in
    let all : length (x ∷ xs) ≡ k = omega arith in
    let front = take_at (x ∷ xs) ys k all in
    let back = drop_at (x ∷ xs) ys k all in
    rw (front, back)

-- one more value is a window of its own, where a boundary is put in front of it
pub stretches_push : (before end : ℕ) (bs : List ℕ) (values : List Point) (p : Point) → before + length values ≡ end → Rises before bs end →
    stretches (before + 1) bs values ++ record { first = end + 1; summary = summary_of (p ∷ []) } ∷ []
    ≡ stretches (before + 1) (bs ++ end ∷ []) (values ++ p ∷ [])
stretches_push before end bs [] p count rising = let low = Rises-low before bs end rising in absurd (omega arith)
stretches_push before end [] (q ∷ qs) p count rising = sym (stretches_at before end [] (q ∷ qs) (p ∷ []) count rising)
stretches_push before end (b ∷ bs) (q ∷ qs) p count rising =
    let k = b + 1 - (before + 1) in
    let below = Rises-low b bs end rising.1 in
    let back = length-back before b end (q ∷ qs) count rising.0 below in
    let above = rising.0 in
    let short : k ≤ length (q ∷ qs) = omega arith in
    let later = stretches_push b end bs (drop k (q ∷ qs)) p back rising.1 in
    rw (take-append-le k (q ∷ qs) (p ∷ []) short, drop-append-le k (q ∷ qs) (p ∷ []) short)
    (ap (λ ws. record { first = before + 1; summary = summary_of (take k (q ∷ qs)) } ∷ ws) later)
