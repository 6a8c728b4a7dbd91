-- What opening a connection does.
use Rattle.std.specs.Prelude.{[], List, IfOk, Result, Ok, Err}
use Rattle.ss_connection.specs.Holds.{ConnectionState, Holds}
use Rattle.ss_outside.specs.Crash.{LeavesOnly, OnlyReads}
use Rattle.ss_outside.specs.Disk.{NothingPending, Told}
use Rattle.ss_outside.specs.Verdict.{IfUndone}
use Rattle.ss_model.specs.State.{Stream}
use Rattle.ss_program.specs.Line.{History}
use Rattle.ss_store.specs.Causes.{OpensAs}
use Rattle.ss_store.specs.Errors.{verdict_of_opening}
use Rattle.ss_store.specs.Kept.{StoreState}
use Rattle.ss_store.specs.Recover.{Recovers, Stands}
use Rattle.ss_store.specs.declared.error.OpenError.{OpenError}

-- the store that a connection has, or why there is none
abbrev pub store_of : Result ConnectionState OpenError → Result StoreState OpenError
store_of (Ok connection) = Ok connection.store
store_of (Err error) = Err error

-- A connection is opened to a store of the streams to which the content recovers: it holds each history that the content stands for, which
-- stays in a crash at any moment. Or it is told why the content recovers to none, and nothing is written, also where the disk failed.
pub record OpensHeld (result : Result ConnectionState OpenError) (old new : Told) : Type 0 where
  pub holds : NothingPending old → (history : History) → Stands history old.content →
      IfOk result (λ connection. Holds history [] connection.store.records new)
  pub any_moment : NothingPending old → (history : History) → Stands history old.content → LeavesOnly old new (Stands history)
  pub opens : OpensAs old.content (store_of result)
  pub judged : ((streams : List Stream) → Recovers streams old.content → ⊥) → OnlyReads old new
  pub unwritten : IfUndone (verdict_of_opening result) (OnlyReads old new)
