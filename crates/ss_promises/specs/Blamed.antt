-- What a run leaves of its source, as clauses of `run` say it.
use Rattle.std.specs.Prelude.{◌≡◌, ℕ, IsSome, List, None, Option, Some}
use Rattle.ss_arguments.specs.declared.mode.Mode.{Mode}
use Rattle.ss_program.specs.Ending.{Feeds, Unfed, served_by}
use Rattle.ss_program.specs.Outcome.{Reads}
use Rattle.ss_program.specs.Status.{EndsAs}
use Rattle.ss_program.specs.declared.status.Status.{Status}

-- Whatever its arguments ask for, by the source's counts of faults and of bytes taken, before and after. `same` says that the source is as it was.
abbrev pub FeedsBy : Type 0 → ℕ → ℕ → ℕ → ℕ → ℕ → Type 0
FeedsBy same faults_before faults taken_before taken number =
    (status : Status) → EndsAs number status → Feeds same faults_before faults taken_before taken status

-- where they ask for a run over the source, by what this tells before and after
abbrev pub ReadsBy : Option Mode → Option (List ℕ) → Option (List ℕ) → ℕ → Type 0
ReadsBy mode left rest number =
    IsSome (served_by mode) → (status : Status) → EndsAs number status → (input : List ℕ) → left ≡ Some input → Reads input rest status

-- and where they ask for none, by what the sink holds before and after
abbrev pub UnfedBy : Option Mode → Type 0 → Option (List ℕ) → Option (List ℕ) → ℕ → Type 0
UnfedBy mode same held holds number = served_by mode ≡ None → (status : Status) → EndsAs number status → Unfed same held holds status
