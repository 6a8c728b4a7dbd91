-- The windows of a list of values are of these values, piece by piece.
use Rattle.ss_model.proofs.Common.{◌≡◌, ℕ, suc, ◌+◌, ◌-◌, List, [], ◌∷◌, ◌++◌, length, take, drop, refl, ap, sym, ◌∙◌, arith, take-append-drop, append-nil}
use Rattle.ss_model.proofs.Common.{summary_of, Point, boundaries, Rule, stretches, time_at, windows}
use Rattle.ss_model.proofs.Rises.{Rises, Rises-low, Rises-boundaries}
use Rattle.ss_model.proofs.Stretches.{length-back}
use Rattle.ss_model.proofs.IntervalLemmas.{AreExactlyOf, AreOf, AreOf-exactly}

AreExactlyOf-stretches : (before end : ℕ) (bs : List ℕ) (values : List Point) → before + length values ≡ end → Rises before bs end
    → AreExactlyOf (stretches (before + 1) bs values) values
AreExactlyOf-stretches before end bs [] count rising = refl
AreExactlyOf-stretches before end [] (p ∷ ps) count rising = (p, ps, [], sym (append-nil (p ∷ ps)), refl, refl)
AreExactlyOf-stretches before end (b ∷ bs) (p ∷ ps) count rising =
    let k = b + 1 - (before + 1) in
    let above = rising.0 in
    let below = Rises-low b bs end rising.1 in
    let back = length-back before b end (p ∷ ps) count above below in
    let later = AreExactlyOf-stretches b end bs (drop k (p ∷ ps)) back rising.1 in
    let some : k ≡ suc (k - 1) = omega arith in
    let front : take k (p ∷ ps) ≡ p ∷ take (k - 1) ps = ap (λ n. take n (p ∷ ps)) some in (
      p,
      take (k - 1) ps,
      drop k (p ∷ ps),
      sym (take-append-drop k (p ∷ ps)) ∙ ap (λ xs. xs ++ drop k (p ∷ ps)) front,
      ap summary_of front,
      later,
    )

pub AreExactlyOf-windows : (rule : Rule) (values : List Point) → AreExactlyOf (windows rule values) values
AreExactlyOf-windows rule [] = refl
AreExactlyOf-windows rule (p ∷ ps) = AreExactlyOf-stretches 0 (length (p ∷ ps)) (boundaries rule (time_at (p ∷ ps)) (length (p ∷ ps))) (p ∷ ps) (omega arith)
    (Rises-boundaries rule (time_at (p ∷ ps)) (length (p ∷ ps)) (omega arith))

pub AreOf-windows : (rule : Rule) (values : List Point) → AreOf (windows rule values) values
AreOf-windows rule values = AreOf-exactly (windows rule values) values (AreExactlyOf-windows rule values)
