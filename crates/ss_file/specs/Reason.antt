-- Why a call failed, and what it comes of.
use Rattle.std.specs.Prelude.{◌≡◌, ◌⊎◌, ℕ, List, [], IsSome, Option, Some, None}
use Rattle.ss_outside.specs.Verdict.{Rose}
use Rattle.ss_file.specs.Opening.{IsNative}
use Rattle.ss_file.specs.System.{Fact, Absent, Found, GoesInto, InUse}
use Rattle.ss_file.specs.declared.opening.Opened.{Opened}
use Rattle.ss_file.specs.declared.opening.Opened.TheVariants.{Nothing, ReadOnly}
use Rattle.ss_file.specs.declared.reason.Reason.{Reason}
use Rattle.ss_file.specs.declared.reason.Trouble.{Trouble}
use Rattle.ss_file.specs.declared.reason.Trouble.TheVariants as trouble
use Rattle.ss_file.specs.declared.system.Kind.TheVariants.{Regular}

-- a reason that the system didn't give
abbrev pub own : Trouble → Reason
own trouble = record { trouble = trouble; error = None }

-- What is wrong with the file where no call of the system failed, by its path, by what stands open, and by what the system answered. Nothing
-- else is a reason without an error.
abbrev pub IsOwn : List ℕ → Option Opened → (Fact → Type 0) → (List ℕ → Type 0) → Trouble → Type 0
IsOwn path opened holds fits trouble.NoName = path ≡ []
IsOwn path opened holds fits (trouble.Irregular kind) = holds (Found kind) × (kind ≡ Regular → ⊥)
IsOwn path opened holds fits (trouble.Stream stream) = holds (GoesInto stream)
IsOwn path opened holds fits trouble.InUse = holds InUse
IsOwn path opened holds fits trouble.NoFile = holds Absent ⊎ (opened ≡ Some Nothing)
IsOwn path opened holds fits trouble.ReadOnly = opened ≡ Some ReadOnly
IsOwn path opened holds fits trouble.ReadOnlyWithWork = opened ≡ Some ReadOnly
IsOwn path opened holds fits trouble.Foreign = (image : List ℕ) → fits image → IsNative image → ⊥
IsOwn path opened holds fits other = ⊥

-- What a reason comes of: one that has an error of the system of a call that failed since the count of faults was taken, and any other of what
-- is wrong with the file.
abbrev pub IsCaused : List ℕ → Option Opened → (Fact → Type 0) → (List ℕ → Type 0) → ℕ → ℕ → Reason → Type 0
IsCaused path opened holds fits before now reason =
    (IsSome reason.error → Rose before now) × (reason.error ≡ None → IsOwn path opened holds fits reason.trouble)
