-- How look-ups tell whether two positions lie in one target window, and when they first do.
use Rattle.std.proofs.Common.{◌≡◌, ℕ, ◌+◌, ◌-◌, ◌<◌, ◌≤◌, true, false, leb, inl, inr, sym, arith}
use Rattle.std.proofs.lemmas.Bool.{cases_lt}
use Rattle.std.proofs.lemmas.Bool.Decides.{nat_tests}
use Rattle.ss_targets.specs.FirstFit.{IsFirstFit, FindsOfLength, NoneOfLength}
use Rattle.ss_targets.specs.Windowing.{cut, Holds, ArePositive, Fits, fits}
use Rattle.ss_targets.specs.declared.decay.Spot.{Spot}
use Rattle.ss_base.specs.declared.limits.TheConstants.{MOST_VALUES}
use Rattle.ss_targets.proofs.FirstFitLemmas.{IsFirstFit-now, IsFirstFit-later, Fits-past}
use Rattle.ss_targets.proofs.WindowingLemmas.{window_index-holds, holds-window_index, fits-one_window}

-- positions lie in one target window where the newest isn't too young for that of the oldest
pub leb-cut : (len : ℕ → ℕ) (i l r n : ℕ) → ArePositive len → l ≤ r → Holds len i (n - l) →
    leb (cut len i) (n - r) ≡ fits len l r n
leb-cut len i l r n positive order holds =
    let old = window_index-holds len i (n - l) positive holds in
    let young = holds-window_index len (n - r) positive in
    elim (cases_lt (n - r) (cut len i)) [
      | inl apart ↦ grind (arith, nat_tests)
      | inr together ↦
          (let same = window_index-holds len i (n - r) positive (record { start = together; end = omega arith }) in
          grind (arith, nat_tests))
    ]

pub IsFirstFit-fits : (len : ℕ → ℕ) (l r n : ℕ) → ArePositive len → l ≤ r → fits len l r n ≡ true → IsFirstFit len l r n n
IsFirstFit-fits len l r n positive order fit = IsFirstFit-now len l r n ((fits-one_window len l r n positive order).0 fit)

-- positions that lie apart now, and the target window that holds the newest of them
module _ (len : ℕ → ℕ) (i l r n : ℕ) (positive : ArePositive len) (order : l ≤ r) (taken : r ≤ n) (unfit : fits len l r n ≡ false)
    (holds : Holds len i (n - r)) where
  apart : Fits len l r n → ⊥
  apart now = let fit = (fits-one_window len l r n positive order).1 now in cc

  pub IsFirstFit-found : (next : Spot) → FindsOfLength len (i + 1) (r - l + 1) next → IsFirstFit len l r n (r + next.start)
  IsFirstFit-found next finds =
      let newest = sym (window_index-holds len i (n - r) positive holds) in
      rw finds.window.start (IsFirstFit-later len l r n next.index positive order taken apart (rw newest at finds.first))

  -- where that count is past the greatest, no count fits
  pub Fits-found : (next : Spot) → FindsOfLength len (i + 1) (r - l + 1) next → MOST_VALUES < r + next.start →
      (m : ℕ) → n ≤ m → m ≤ MOST_VALUES → Fits len l r m → ⊥
  Fits-found next finds past m later few fit = omega (arith, (IsFirstFit-found next finds).least m later fit)

  pub Fits-none : NoneOfLength len (i + 1) (r - l + 1) → (m : ℕ) → n ≤ m → m ≤ MOST_VALUES → Fits len l r m → ⊥
  Fits-none none m later few fit =
      let newest = window_index-holds len i (n - r) positive holds in
      omega (
        arith,
        Fits-past len l r n m MOST_VALUES positive order taken apart
            (λ k after long. omega (arith, none k (omega (arith, newest)) long)) later fit,
      )
