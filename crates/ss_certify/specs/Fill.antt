-- Values of which the number, the sum, the least and the greatest are given.
use Rattle.std.specs.Prelude.{◌≡◌, ℕ, zero, suc, ◌-◌, ◌/◌, ◌%◌, ◌≤◌, ℤ, pos, ◌+ℤ◌, ◌-ℤ◌, ◌*ℤ◌, ◌≤ℤ◌, unsigned_abs, List, [], ◌∷◌, length}
use Rattle.ss_bounds.specs.Truth.{total, AllBetween}
use Rattle.ss_certify.specs.Runs.{values_of_runs}
use Rattle.ss_model.specs.declared.types.Run.{Run}

-- n times the value v
abbrev pub run : ℤ → ℕ → Run
run v n = record { value = v; times = n }

-- n times v before other runs, left out where n is 0
abbrev pub run_before : ℤ → ℕ → List Run → List Run
run_before v zero runs = runs
run_before v (suc n) runs = run v (suc n) ∷ runs

-- k values: `most` times M, one that is `rest` more than m where there is a rest, and otherwise m
abbrev pub raised : ℕ → ℤ → ℤ → ℕ → ℕ → List Run
raised k m M most zero = run_before m (k - most) (run_before M most [])
raised k m M most (suc rest) = run_before m (k - most - 1) (run (m +ℤ pos (suc rest)) 1 ∷ run_before M most [])

-- k values that together are `above` more than k times m, where M is `apart` more than m: as many times M as `apart` goes into
-- `above`, and one value for the rest
abbrev pub filled : ℕ → ℕ → ℤ → ℤ → ℕ → List Run
filled k above m M zero = run m k ∷ []
filled k above m M (suc apart) = raised k m M (above / suc apart) (above % suc apart)

-- k values from m to M with the sum s, none of them between m and M but one
unfoldable pub fill : ℕ → ℤ → ℤ → ℤ → List Run
fill zero s m M = []
fill (suc k) s m M = filled (suc k) (unsigned_abs (s -ℤ (pos (suc k) *ℤ m))) m M (unsigned_abs (M -ℤ m))

-- each run has a value, and the values rise, from m to M
abbrev pub RiseBetween : ℤ → ℤ → List Run → Type 0
RiseBetween m M [] = Unit {0}
RiseBetween m M (r ∷ rs) = (m ≤ℤ r.value) × (r.value ≤ℤ M) × (1 ≤ r.times) × RiseBetween (r.value +ℤ pos 1) M rs

-- some runs are k values from m to M with the sum s
pub record Fills (k : ℕ) (s m M : ℤ) (runs : List Run) : Type 0 where
  -- at most three runs, in order
  pub few : length runs ≤ 3
  pub rising : RiseBetween m M runs
  pub count : length (values_of_runs runs) ≡ k
  pub sum : total (values_of_runs runs) ≡ s
  pub between : AllBetween m M (values_of_runs runs)
