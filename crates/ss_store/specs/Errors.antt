-- Errors of the crates below, as a store answers them, and the verdict of each answer.
use Rattle.std.specs.Prelude.{Bool, true, Result, Ok, Err}
use Rattle.ss_outside.specs.Verdict as verdicts
use Rattle.ss_outside.specs.Verdict.{Verdict}
use Rattle.ss_journal.specs.declared.journal_error.JournalError.{JournalError}
use Rattle.ss_journal.specs.declared.journal_error.JournalError.TheVariants as journal
use Rattle.ss_recover.specs.declared.recover_error.RecoverError.{RecoverError}
use Rattle.ss_recover.specs.declared.recover_error.RecoverError.TheVariants as recover
use Rattle.ss_store.specs.declared.error.ApplyError.{ApplyError}
use Rattle.ss_store.specs.declared.error.ApplyError.TheVariants as apply
use Rattle.ss_store.specs.declared.error.AskError.{AskError}
use Rattle.ss_store.specs.declared.error.AskError.TheVariants as ask
use Rattle.ss_store.specs.declared.error.OpenError.{OpenError}
use Rattle.ss_store.specs.declared.error.OpenError.TheVariants as opening
use Rattle.ss_parts.specs.declared.read_error.ReadError.TheVariants as fault
use Rattle.ss_parts.specs.declared.read_error.ReadError.{ReadError}

abbrev pub open_of_journal : JournalError → OpenError
open_of_journal journal.Disk = opening.Disk
open_of_journal journal.NotAStore = opening.NotAStore
open_of_journal (journal.BadEntry n) = opening.BadEntry n
open_of_journal journal.OutOfMemory = opening.OutOfMemory

abbrev pub open_of_recover : RecoverError → OpenError
open_of_recover (recover.BadSlot n) = opening.BadSlot n
open_of_recover (recover.BadStream id) = opening.BadStream id
open_of_recover recover.Disk = opening.Disk
open_of_recover recover.OutOfMemory = opening.OutOfMemory

abbrev pub open_of_fault : ReadError → OpenError
open_of_fault fault.Disk = opening.Disk
open_of_fault (fault.Changed slot) = opening.Changed slot

abbrev pub apply_of_fault : ReadError → ApplyError
apply_of_fault fault.Disk = apply.Disk
apply_of_fault (fault.Changed slot) = apply.Changed slot

abbrev pub ask_of_fault : ReadError → AskError
ask_of_fault fault.Disk = ask.Disk
ask_of_fault (fault.Changed slot) = ask.Changed slot

-- the verdicts of a store's calls
abbrev pub verdict_of_opening : {T : Type 0} → Result T OpenError → Verdict
verdict_of_opening (Ok value) = verdicts.fine
verdict_of_opening (Err opening.Disk) = verdicts.failed
verdict_of_opening (Err opening.NotAStore) = verdicts.refused
verdict_of_opening (Err (opening.BadEntry n)) = verdicts.refused
verdict_of_opening (Err (opening.BadSlot n)) = verdicts.refused
verdict_of_opening (Err (opening.BadStream id)) = verdicts.refused
verdict_of_opening (Err opening.OutOfMemory) = verdicts.no_memory
verdict_of_opening (Err (opening.Changed slot)) = verdicts.changed slot

abbrev pub verdict_of_apply : {T : Type 0} → Result T ApplyError → Verdict
verdict_of_apply (Ok value) = verdicts.fine
verdict_of_apply (Err (apply.Refused r)) = verdicts.refused
verdict_of_apply (Err apply.Disk) = verdicts.failed
verdict_of_apply (Err apply.Stopped) = verdicts.stopped
verdict_of_apply (Err apply.OutOfMemory) = verdicts.no_memory
verdict_of_apply (Err (apply.Changed slot)) = verdicts.changed slot

abbrev pub verdict_of_ask : {T : Type 0} → Result T AskError → Verdict
verdict_of_ask (Ok value) = verdicts.fine
verdict_of_ask (Err (ask.Refused r)) = verdicts.refused
verdict_of_ask (Err ask.Disk) = verdicts.failed
verdict_of_ask (Err ask.Stopped) = verdicts.stopped
verdict_of_ask (Err (ask.Changed slot)) = verdicts.changed slot

-- whether a store has stopped after a call: where it had before, or the disk failed or a record changed
abbrev pub stopped_after : Bool → Verdict → Bool
stopped_after before verdicts.fine = before
stopped_after before verdicts.refused = before
stopped_after before verdicts.no_memory = before
stopped_after before verdicts.stopped = before
stopped_after before verdicts.failed = true
stopped_after before (verdicts.changed slot) = true
