-- An older age lies in no earlier window.
use Rattle.std.proofs.Common.{ℕ, zero, suc, ◌≡◌, ◌≤◌, inl, inr, arith}
use Rattle.std.proofs.lemmas.Bool.{cases_lt}
use Rattle.std.proofs.lemmas.Bool.Decides.{nat_tests}
use Rattle.ss_targets.specs.Windowing.{ended_windows, window_index}

-- more windows have ended by a greater age
ended_windows-age : (len : ℕ → ℕ) (a b k : ℕ) → a ≤ b → ended_windows len a k ≤ ended_windows len b k
ended_windows-age len a b zero order = omega arith
ended_windows-age len a b (suc k) order =
    let before = ended_windows-age len a b k order in
    grind (arith, nat_tests, before)

ended_windows-count : (len : ℕ → ℕ) (age j k : ℕ) → j ≤ k → ended_windows len age j ≤ ended_windows len age k
ended_windows-count len age j zero order = let same : j ≡ 0 = omega arith in rw same (omega arith)
ended_windows-count len age j (suc k) order = elim (cases_lt k j) [
  | inl late ↦ (let same : j ≡ suc k = omega arith in rw same (omega arith))
  | inr early ↦ omega (arith, ended_windows-count len age j k early)
]

pub window_index-monotone : (len : ℕ → ℕ) (a b : ℕ) → a ≤ b → window_index len a ≤ window_index len b
unfolding window_index
window_index-monotone len a b order =
    omega (arith, ended_windows-age len a b a order, ended_windows-count len b a b order)
