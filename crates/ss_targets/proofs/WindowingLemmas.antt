-- Which window holds an age, over any sequence of window lengths.
use Rattle.std.proofs.Common.{ℕ, zero, suc, ◌≡◌, ◌-◌, ◌<◌, ◌≤◌, ◌↔◌, inl, inr, true, refl, sym, ◌∙◌, arith}
use Rattle.std.proofs.lemmas.Bool.{cases_lt, eq-eqb, eqb-true}
use Rattle.std.proofs.lemmas.Bool.Decides.{nat_tests}
use Rattle.ss_targets.specs.Windowing.{cut, Holds, ended_windows, window_index, ArePositive, Fits, fits}

-- no window starts before an earlier one
pub cut-monotone : (len : ℕ → ℕ) (i j : ℕ) → i ≤ j → cut len i ≤ cut len j
cut-monotone len i zero order = let same : i ≡ 0 = omega arith in rw same (omega arith)
cut-monotone len i (suc j) order = elim (cases_lt j i) [
  | inl late ↦ (let same : i ≡ suc j = omega arith in rw same (omega arith))
  | inr early ↦ omega (arith, cut-monotone len i j early)
]

-- where no window is empty, a window starts no earlier than its index
pub index_le_cut : (len : ℕ → ℕ) (i : ℕ) → ArePositive len → i ≤ cut len i
index_le_cut len zero full = omega arith
index_le_cut len (suc i) full = omega (arith, index_le_cut len i full, full i)

-- the windows before the one that holds an age have ended
ended_windows-all : (len : ℕ → ℕ) (age k : ℕ) → cut len k ≤ age → ended_windows len age k ≡ k
ended_windows-all len age zero begun = refl
ended_windows-all len age (suc k) begun =
    let before = ended_windows-all len age k (omega arith) in
    grind (arith, nat_tests, before)

-- none of the later windows has ended
ended_windows-past : (len : ℕ → ℕ) (age i k : ℕ) → i ≤ k → age < cut len (suc i) → ended_windows len age k ≡ ended_windows len age i
ended_windows-past len age i zero order young = let same : i ≡ 0 = omega arith in rw same refl
ended_windows-past len age i (suc k) order young = elim (cases_lt k i) [
  | inl late ↦ (let same : i ≡ suc k = omega arith in rw same refl)
  | inr early ↦
      (let before = ended_windows-past len age i k early young in
      let later = cut-monotone len (suc i) (suc k) (omega arith) in
      grind (arith, nat_tests, before, later))
]

pub window_index-holds : (len : ℕ → ℕ) (i age : ℕ) → ArePositive len → Holds len i age → window_index len age ≡ i
unfolding window_index
window_index-holds len i age full holds =
    let before = index_le_cut len i full in
    ended_windows-past len age i age (omega arith) holds.end ∙ ended_windows-all len age i holds.start

-- among windows that reach past an age, one holds it
window_of : (len : ℕ → ℕ) (age k : ℕ) → age < cut len k → (i : ℕ) × Holds len i age
window_of len age zero reaches = absurd (omega arith)
window_of len age (suc k) reaches = elim (cases_lt age (cut len k)) [
  | inl before ↦ window_of len age k before
  | inr after ↦ (k, record { start = after; end = reaches })
]

pub holds-window_index : (len : ℕ → ℕ) (age : ℕ) → ArePositive len → Holds len (window_index len age) age
holds-window_index len age full =
    let found = window_of len age (suc age) (omega (arith, index_le_cut len (suc age) full)) in
    rw (window_index-holds len found.0 age full found.1) found.1

-- the test is exact: the first part takes it to the window, the second the window to it
pub fits-one_window : (len : ℕ → ℕ) (l r n : ℕ) → ArePositive len → l ≤ r → (fits len l r n ≡ true) ↔ Fits len l r n
fits-one_window len l r n full order =
    let young = holds-window_index len (n - r) full in
    let old = holds-window_index len (n - l) full in (
      λ same. (window_index len (n - r), young.start, (rw (eqb-true _ _ same) at old).end),
      λ one. eq-eqb _ _
          (window_index-holds len one.0 (n - l) full (record { start = omega arith; end = one.2 })
          ∙ sym (window_index-holds len one.0 (n - r) full (record { start = one.1; end = omega arith }))),
    )
