-- What opening a cursor does.
use Rattle.std.specs.Prelude.{◌≡◌, ◌∷◌, [], IfOk, IsTrue, OnErr, Result}
use Rattle.ss_outside.specs.Crash.{OnlyReads}
use Rattle.ss_outside.specs.Disk.{Told}
use Rattle.ss_records.specs.Kept.{RecordsState, shown_by}
use Rattle.ss_report.specs.declared.reply.Reply.{Reply}
use Rattle.ss_sessions.specs.Cursors.{Cursors}
use Rattle.ss_store.specs.Recover.{Stands}
use Rattle.ss_program.specs.Cursor.{Ordered}
use Rattle.ss_program.specs.Line.{History}
use Rattle.ss_program.specs.declared.status.Status.{Status}

-- A cursor is opened, over what records show. Content and images stay. The run stops only at one that isn't refused.
pub record OpensBrought (was : RecordsState) (ordered : History → Ordered) (after : Cursors) (result : Result Reply Status) (old new : Told) : Type 0 where
  pub reply : (history : History) → Stands history (shown_by was old.content) →
      IfOk result (λ reply. ((ordered history).brought.replies ≡ reply ∷ []) × ((ordered history).cursors ≡ after))
  pub accepted : (history : History) → Stands history (shown_by was old.content) → OnErr result (IsTrue (ordered history).wants_memory)
  pub reads : OnlyReads old new
