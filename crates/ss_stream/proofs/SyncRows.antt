-- How often calls sync, on both sides of where the entries are used up.
use Rattle.ss_stream.proofs.Common.{◌≡◌, ◌≤◌, Ok, Result, arith, Told, RecordsState, SyncsToStage}
use Rattle.ss_outside.specs.Disk.{SyncsAtMost}

module _ {T E : Type 0} (was is : RecordsState) (old new : Told) where
  -- with 60 entries in use three more transactions need no room
  SyncsToStage-free : (result : Result T E) → was.journal.in_use ≡ 60 → SyncsToStage 3 was is result old new → SyncsAtMost 0 old new
  SyncsToStage-free result free stages = omega (arith, free, stages.used, stages.syncs)

  -- a fourth may need it once
  SyncsToStage-full : (result : Result T E) → was.journal.in_use ≡ 60 → SyncsToStage 4 was is result old new → SyncsAtMost 4 old new
  SyncsToStage-full result full stages = omega (arith, full, stages.used, stages.syncs)

  -- each uses an entry at most
  SyncsToStage-left : (value : T) → was.journal.in_use ≡ 60 → SyncsToStage {T = T} {E = E} 3 was is (Ok value) old new → is.journal.in_use ≤ 63
  SyncsToStage-left value free stages = omega (arith, free, stages.left)
