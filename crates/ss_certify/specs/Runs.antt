-- Values as runs: each run stands for equal values side by side.
use Rattle.std.specs.Prelude.{◌≡◌, ℕ, ◌+◌, ◌≤◌, ℤ, pos, ◌+ℤ◌, ◌*ℤ◌, ◌≤ℤ◌, List, [], ◌∷◌, replicate, All, Any}
use Rattle.std.specs.List.{flat_map}
use Rattle.ss_model.specs.declared.types.Run.{Run}

-- the values of some runs, one by one
abbrev pub values_of_runs : List Run → List ℤ
values_of_runs runs = flat_map (λ (r : Run). replicate r.times r.value) runs

-- how many values they are
abbrev pub run_count : List Run → ℕ
run_count [] = 0
run_count (r ∷ rs) = r.times + run_count rs

-- what these add up to
abbrev pub run_total : List Run → ℤ
run_total [] = pos 0
run_total (r ∷ rs) = (pos r.times *ℤ r.value) +ℤ run_total rs

-- each run has a value
abbrev pub HaveValues : List Run → Type 0
HaveValues runs = All (λ (run : Run). 1 ≤ run.times) runs

-- each run is of a value from m to M
abbrev pub LieBetween : ℤ → ℤ → List Run → Type 0
LieBetween m M runs = All (λ (run : Run). (m ≤ℤ run.value) × (run.value ≤ℤ M)) runs

-- a run is of this value
abbrev pub Occurs : ℤ → List Run → Type 0
Occurs v runs = Any (λ (run : Run). run.value ≡ v) runs
