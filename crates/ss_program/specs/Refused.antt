-- What is said of a store that is refused.
use Rattle.std.specs.Prelude.{◌≡◌, ℕ, List, [], ◌∷◌, ◌++◌, codes, Option, Some, None}
use Rattle.std.specs.Fmt.{decimal}
use Rattle.ss_outside.specs.Crash.{OnlyReads}
use Rattle.ss_outside.specs.Disk.{Told}
use Rattle.ss_store.specs.Recover.{Recovered, recover, no_store, damaged_entry, damaged_slot, damaged_stream, recovers}
use Rattle.ss_store.specs.declared.error.OpenError.{OpenError}
use Rattle.ss_store.specs.declared.error.OpenError.TheVariants as opening
use Rattle.ss_program.specs.Sent.{SaysLine}
use Rattle.ss_program.specs.declared.status.Status.{Status}
use Rattle.ss_program.specs.declared.status.Status.TheVariants.{RefusedStore, DiskFault, OutOfMemory, RecordChanged}

-- what is damaged, with its number
abbrev pub damage_line : List ℕ → ℕ → List ℕ
damage_line what number = what ++ 32 ∷ decimal number ++ 10 ∷ []

-- the line that is said of an image that is no store or is damaged; none of one that recovers
abbrev pub refusal_line : Recovered → Option (List ℕ)
refusal_line no_store = Some (codes "not a store" ++ 10 ∷ [])
refusal_line (damaged_entry n) = Some (damage_line (codes "damaged entry") n)
refusal_line (damaged_slot n) = Some (damage_line (codes "damaged slot") n)
refusal_line (damaged_stream number) = Some (damage_line (codes "damaged stream") number)
refusal_line (recovers streams) = None

-- A content is refused: the line of the first failing step was said, and nothing was written.
pub record RefusesStore (old new : Told) (before after : Option (List ℕ)) (faults_before faults : ℕ) : Type 0 where
  pub line : List ℕ
  pub is_line : refusal_line (recover old.content) ≡ Some line
  pub said : SaysLine line before after faults_before faults
  pub unwritten : OnlyReads old new

-- One of the four lines is said, whole unless the sink's count of faults rose: that of something for which a content is refused.
pub record SaysRefusal (before after : Option (List ℕ)) (faults_before faults : ℕ) : Type 0 where
  pub found : Recovered
  pub line : List ℕ
  pub is_line : refusal_line found ≡ Some line
  pub said : SaysLine line before after faults_before faults

-- the status of a run whose store was not opened
abbrev pub status_of_open : OpenError → Status
status_of_open opening.Disk = DiskFault
status_of_open opening.NotAStore = RefusedStore
status_of_open (opening.BadEntry n) = RefusedStore
status_of_open (opening.BadSlot n) = RefusedStore
status_of_open (opening.BadStream id) = RefusedStore
status_of_open opening.OutOfMemory = OutOfMemory
status_of_open (opening.Changed slot) = RecordChanged

-- and what was said of it: its line where it is refused, and else nothing
abbrev pub AsRefused : OpenError → Option (List ℕ) → Option (List ℕ) → ℕ → ℕ → Type 0
AsRefused opening.NotAStore before after had has = SaysLine (codes "not a store" ++ 10 ∷ []) before after had has
AsRefused (opening.BadEntry n) before after had has = SaysLine (damage_line (codes "damaged entry") n) before after had has
AsRefused (opening.BadSlot n) before after had has = SaysLine (damage_line (codes "damaged slot") n) before after had has
AsRefused (opening.BadStream id) before after had has = SaysLine (damage_line (codes "damaged stream") id) before after had has
AsRefused error before after had has = (after ≡ before) × (has ≡ had)
