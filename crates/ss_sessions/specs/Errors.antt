-- Why a cursor is refused, and the verdict of its opening.
use Rattle.std.specs.Prelude.{Result, Ok, Err}
use Rattle.ss_catalog.specs.declared.refusal.Refusal.{Refusal}
use Rattle.ss_catalog.specs.declared.refusal.Refusal.TheVariants as refusals
use Rattle.ss_outside.specs.Verdict as verdicts
use Rattle.ss_outside.specs.Verdict.{Verdict}
use Rattle.ss_sessions.specs.declared.error.CursorError.{CursorError}
use Rattle.ss_sessions.specs.declared.error.CursorError.TheVariants as errors
use Rattle.ss_sessions.specs.declared.error.CursorRefusal.{CursorRefusal}
use Rattle.ss_sessions.specs.declared.error.CursorRefusal.TheVariants.{Unknown, Busy}

-- why a cursor is refused, as a refusal of a line
abbrev pub refusal_of : CursorRefusal → Refusal
refusal_of Unknown = refusals.Unknown
refusal_of Busy = refusals.Busy

-- the verdict of the opening of a cursor
abbrev pub verdict_of_cursor : {T : Type 0} → Result T CursorError → Verdict
verdict_of_cursor (Ok value) = verdicts.fine
verdict_of_cursor (Err (errors.Refused r)) = verdicts.refused
verdict_of_cursor (Err errors.Disk) = verdicts.failed
verdict_of_cursor (Err (errors.Changed slot)) = verdicts.changed slot
verdict_of_cursor (Err errors.OutOfMemory) = verdicts.no_memory
