-- Runs and their values.
use Rattle.std.specs.Prelude.{◌≡◌, ℕ, zero, suc, ◌+◌, ◌*◌, ◌^◌, ◌<◌, ◌≤◌, ◌-◌, ℤ, pos, negsuc, ◌+ℤ◌, ◌*ℤ◌}
use Rattle.std.specs.Prelude.{FitsSigned, List, [], ◌∷◌, ◌++◌, length, replicate, take, drop, unsigned_abs}
use Rattle.std.specs.Int.{w64, w128}
use Rattle.std.proofs.Common.{ap, arith, refl, subst, sym, ◌∙◌, get_or, length-append}
use Rattle.std.proofs.lemmas.Int.{ints}
use Rattle.std.proofs.lemmas.List.{length-replicate, take_more, take-append-drop}
use Rattle.ss_bounds.specs.Truth.{total}
use Rattle.ss_bounds.proofs.Held.{held, held64, held-is, held-times}
use Rattle.ss_summary.proofs.Bounds.{times-le-times}
use Rattle.ss_certify.specs.Runs.{values_of_runs, run_count, run_total}
use Rattle.ss_model.specs.declared.types.Run.{Run}

-- sums of joined lists
pub total-append : (vs ws : List ℤ) → total (vs ++ ws) ≡ (total vs +ℤ total ws)
total-append [] ws = omega (arith, ints)
total-append (v ∷ vs) ws = let rest = total-append vs ws in omega (arith, ints)

pub total-replicate : (n : ℕ) (v : ℤ) → total (replicate n v) ≡ (pos n *ℤ v)
total-replicate zero v = omega (arith, ints)
total-replicate (suc n) v = let rest = total-replicate n v in omega (arith, ints)

-- the values of runs: how many, and what they add up to
pub length-values_of_runs : (runs : List Run) → length (values_of_runs runs) ≡ run_count runs
length-values_of_runs [] = refl
length-values_of_runs (r ∷ rs) =
    let rest = length-values_of_runs rs in
    let first = length-replicate r.times r.value in
    omega (arith, length-append (replicate r.times r.value) (values_of_runs rs))

pub total-values_of_runs : (runs : List Run) → total (values_of_runs runs) ≡ run_total runs
total-values_of_runs [] = refl
total-values_of_runs (r ∷ rs) =
    let rest = total-values_of_runs rs in
    let first = total-replicate r.times r.value in
    let both = total-append (replicate r.times r.value) (values_of_runs rs) in
    omega (arith, ints)

-- sums of joined runs
pub run_count-append : (rs ss : List Run) → run_count (rs ++ ss) ≡ run_count rs + run_count ss
run_count-append [] ss = omega arith
run_count-append (r ∷ rs) ss = let rest = run_count-append rs ss in omega arith

pub run_total-append : (rs ss : List Run) → run_total (rs ++ ss) ≡ (run_total rs +ℤ run_total ss)
run_total-append [] ss = omega (arith, ints)
run_total-append (r ∷ rs) ss = let rest = run_total-append rs ss in omega (arith, ints)

-- one run more
pub run_count-more : (runs : List Run) (i : ℕ) (d : Run) → i < length runs
    → run_count (take (i + 1) runs) ≡ run_count (take i runs) + (get_or runs i d).times
run_count-more runs i d below =
    rw (take_more runs i d below) (run_count-append (take i runs) (get_or runs i d ∷ []) ∙ omega arith)

pub run_total-more : (runs : List Run) (i : ℕ) (d : Run) → i < length runs
    → run_total (take (i + 1) runs) ≡ (run_total (take i runs) +ℤ (pos (get_or runs i d).times *ℤ (get_or runs i d).value))
run_total-more runs i d below =
    let both = run_total-append (take i runs) (get_or runs i d ∷ []) in
    rw (take_more runs i d below) (omega (arith, ints))

-- the first runs have no more values than all
pub run_count-take : (i : ℕ) (runs : List Run) → run_count (take i runs) ≤ run_count runs
run_count-take i runs =
    let all = ap run_count (take-append-drop i runs) in
    omega (arith, run_count-append (take i runs) (drop i runs))

-- so many values of 64 bits add up to no more than that many times 2^63
pub times-near : (n : ℕ) (v : ℤ) → FitsSigned w64 v → unsigned_abs (pos n *ℤ v) ≤ n * 2 ^ 63
times-near n v fits =
    let high = times-le-times n v (pos (2 ^ 63)) (omega (arith, ints)) in
    let low = times-le-times n (negsuc (2 ^ 63 - 1)) v (omega (arith, ints)) in
    omega (arith, ints)

pub near-more : (n k : ℕ) (z v : ℤ) → FitsSigned w64 v → unsigned_abs z ≤ k * 2 ^ 63 → unsigned_abs (z +ℤ (pos n *ℤ v)) ≤ (k + n) * 2 ^ 63
near-more n k z v fits near = let one = times-near n v fits in omega (arith, ints)

-- what the code computes of one run more
pub computed-more : (runs : List Run) (i : ℕ) (d : Run) (z times value : ℤ) → i < length runs → FitsSigned w64 (get_or runs i d).value
    → run_count runs ≤ 2 ^ 40 → z ≡ run_total (take i runs) → unsigned_abs z ≤ run_count (take i runs) * 2 ^ 63
    → times ≡ pos (get_or runs i d).times → value ≡ held64 (get_or runs i d).value
    → FitsSigned w128 (z +ℤ held (held times *ℤ held value)) × (held (z +ℤ held (held times *ℤ held value)) ≡ run_total (take (i + 1) runs))
    × (unsigned_abs (held (z +ℤ held (held times *ℤ held value))) ≤ run_count (take (i + 1) runs) * 2 ^ 63)
computed-more runs i d z times value below fits few z_is near times_is value_is =
    let count = run_count-more runs i d below in
    let sum = run_total-more runs i d below in
    let most = run_count-take (i + 1) runs in
    let product = held-times times value (get_or runs i d).times (get_or runs i d).value times_is value_is (omega arith) fits in
    let next = near-more (get_or runs i d).times (run_count (take i runs)) z (get_or runs i d).value fits near in
    let made = ap (λ w. z +ℤ w) product in
    let made_fits : FitsSigned w128 (z +ℤ (pos (get_or runs i d).times *ℤ (get_or runs i d).value)) = omega (arith, ints) in
    let whole = held-is _ _ made made_fits in (
      subst (λ w. FitsSigned w128 w) (sym made) made_fits,
      whole ∙ ap (λ w. w +ℤ (pos (get_or runs i d).times *ℤ (get_or runs i d).value)) z_is ∙ sym sum,
      rw (whole, count) next,
    )
