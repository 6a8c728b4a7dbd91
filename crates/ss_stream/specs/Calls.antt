-- What a call makes of what a disk stands for, also in a crash, and at which cost.
use Rattle.std.specs.Prelude.{ℕ, ◌≤◌, List, Result, OnOk, ◌≡◌, ◌⊎◌, ◌+◌, ◌*◌}
use Rattle.ss_outside.specs.Crash.{LeavesOnly}
use Rattle.ss_outside.specs.Disk.{Told, NothingPending, SyncsAtMost}
use Rattle.ss_journal.specs.Redo.{SlotMap, StandsFor}
use Rattle.ss_journal.specs.declared.format.TheConstants.{ENTRIES}
use Rattle.ss_records.specs.Kept.{RecordsState, shown_by, AreKept}

-- the image uses at most so many slots
pub record UsesAtMost (n : ℕ) (image : List ℕ) : Type 0 where
  pub found : SlotMap
  pub map : StandsFor image found
  pub few : found.extent ≤ n

-- The triple of a call: where this was so before it, that is so at Ok. With nothing pending at the call, a crash at any moment of it
-- leaves only images that have M, and at Ok nothing is pending.
pub record CrashTriple {T E : Type 0} (before : Type 0) (M : List ℕ → Type 0) (after : Type 0) (old new : Told) (result : Result T E) : Type 0 where
  pub content : before → OnOk result after
  pub any_moment : NothingPending old → before → LeavesOnly old new M
  pub durable : NothingPending old → OnOk result (NothingPending new)

-- A call turns a content that has P into one that has Q, and a crash leaves what has M.
abbrev pub Turns : {T E : Type 0} → (List ℕ → Type 0) → (List ℕ → Type 0) → (List ℕ → Type 0) → Told → Told → Result T E → Type 0
Turns P M Q old new result = CrashTriple (P old.content) M (Q new.content) old new result

-- the image stands for the map of an image that has P
abbrev pub StandsLike : (List ℕ → Type 0) → List ℕ → Type 0
StandsLike P image = (was : List ℕ) × P was × ((found : SlotMap) → StandsFor was found → StandsFor image found)

-- what a crash leaves of a call that stages: images that stand for what the content stood for, or for what has M
abbrev pub StaysOr : Told → (List ℕ → Type 0) → List ℕ → Type 0
StaysOr old M = StandsLike (λ image. (image ≡ old.content) ⊎ M image)

-- Records, which are others then, turn what they show from P into Q. A crash leaves images that stand for what the content stood for, or
-- for what has M.
abbrev pub TurnsShown : {T E : Type 0} → RecordsState → RecordsState → (List ℕ → Type 0) → (List ℕ → Type 0) → (List ℕ → Type 0) → Told → Told →
    Result T E → Type 0
TurnsShown was is P M Q old new result = CrashTriple (P (shown_by was old.content)) (StaysOr old M) (Q (shown_by is new.content)) old new result

-- A call that stages uses no more slots than so many, where no more were used, and none of the images does that a crash leaves.
pub record StaysWithin {T E : Type 0} (used : ℕ) (was is : RecordsState) (result : Result T E) (old new : Told) : Type 0 where
  pub turns : (n : ℕ) → used ≤ n → TurnsShown was is (UsesAtMost n) (UsesAtMost n) (UsesAtMost n) old new result

-- and so does one that leaves nothing staged
abbrev pub KeepsWithin : {T E : Type 0} → ℕ → Result T E → Told → Told → Type 0
KeepsWithin used result old new = (n : ℕ) → used ≤ n → Turns (UsesAtMost n) (UsesAtMost n) (UsesAtMost n) old new result

-- A call that stages so many transactions at most makes room so often, by four syncs each time at most. It does so only where the entries
-- are used up, and each transaction uses one at most.
pub record SyncsToStage {T E : Type 0} (most : ℕ) (was is : RecordsState) (result : Result T E) (old new : Told) : Type 0 where
  pub rooms : ℕ
  pub syncs : SyncsAtMost (4 * rooms) old new
  pub used : ENTRIES * rooms ≤ was.journal.in_use + most
  pub left : OnOk result (ENTRIES * rooms + is.journal.in_use ≤ was.journal.in_use + most)

-- A call that stages makes this of what a disk holds, by records that are others then, at a cost: it uses no more slots than so many,
-- and makes room for so many transactions at most.
pub record StagesAtCost {T E : Type 0} (change : Told → Told → Type 0) (used most : ℕ) (was is : RecordsState) (result : Result T E)
    (old new : Told) : Type 0 where
  pub changes : change old new
  pub kept : OnOk result (AreKept is new.content)
  pub within : StaysWithin used was is result old new
  pub syncs : SyncsToStage most was is result old new
