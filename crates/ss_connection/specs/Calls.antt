-- What the calls of a connection do, for each history that it holds, and to each disk.
use Rattle.std.specs.Prelude.{◌≡◌, ◌++◌, ◌∷◌, [], ◌-◌, ◌==◌, ℕ, Bool, List, Option, None, Some, Result, Ok, Err, IfErr, IfOk, IfSome, IsSome, OnOk, length, slice_index}
use Rattle.std.specs.Prelude.{take, if◌then◌else◌}
use Rattle.ss_command.specs.Lines.{without_return}
use Rattle.ss_command.specs.declared.TheConstants.{LINE_END}
use Rattle.ss_connection.specs.Holds.{ConnectionState, Holds, IsUsable, text_left}
use Rattle.ss_model.specs.History.{Happened}
use Rattle.ss_outside.specs.Crash.{LeavesOnly, OnlyReads}
use Rattle.ss_outside.specs.Disk.{DiskView, Told}
use Rattle.ss_outside.specs.Step.{Step}
use Rattle.ss_program.specs.Held.{StandsForFirst}
use Rattle.ss_program.specs.Line.{Brought, History, history_after, text_brought, the_event}
use Rattle.ss_program.specs.Status.{disk_verdict, ended}
use Rattle.ss_program.specs.declared.rows.Rows.{Rows}
use Rattle.ss_program.specs.declared.status.Status.{Status}
use Rattle.ss_program.specs.declared.status.Status.TheVariants.{OutOfMemory}
use Rattle.ss_records.specs.Kept.{RecordsState}
use Rattle.ss_report.specs.declared.reply.Reply.{Reply}
use Rattle.ss_store.specs.Kept.{StoreState}

-- why a call ends the connection, where it does
abbrev pub stop_of : {T : Type 0} → Result T Status → Option Status
stop_of (Ok value) = None
stop_of (Err status) = Some status

-- A call of a connection. One that has ended answers why, and nothing is done. Else the disk makes this step, and a call that stops says
-- so with one of these causes, and ends the connection. Then it can be called again.
pub record Called {T : Type 0} (stops : Bool → Status → Type 0) (was is : ConnectionState) (untouched : Type 0) (result : Result T Status) (old new : DiskView)
    (R : Told → Told → Type 0) : Type 0 where
  pub over : IfSome was.ended (λ status. (result ≡ Err status) × untouched)
  pub goes : was.ended ≡ None → Step (disk_verdict (ended result)) old new R
  pub cause : was.ended ≡ None → IfErr result (stops old.tells)
  pub ends : is.ended ≡ stop_of result
  pub usable : IsUsable new is

-- A typed call leaves what was said, and lets rows go that are left of the line before.
pub record IsSilent (was is : ConnectionState) : Type 0 where
  pub said : is.said ≡ was.said
  pub rows : was.ended ≡ None → is.rows ≡ None

-- what a call says of each history, with the events that are staged behind it, that the connection holds when it is called
abbrev pub OfHeld : RecordsState → Told → (History → List Happened → Type 0) → Type 0
OfHeld was old P = (history : History) (staged : List Happened) → Holds history staged was old → P history staged

-- what is so where memory ran out
abbrev pub OnStarved : {T : Type 0} → Result T Status → Type 0 → Type 0
OnStarved result P = IfErr result (λ status. status ≡ OutOfMemory → P)

-- Memory runs out only at an event that would be accepted: it isn't, and all that was before it is on the disk.
pub record Starves (here : Brought) (history : History) (is : RecordsState) (new : Told) : Type 0 where
  pub wants : IsSome here.event
  pub holds : Holds history [] is new

-- the same after each history
abbrev pub StarvesHeld : {T : Type 0} → (History → Brought) → RecordsState → RecordsState → Result T Status → Told → Told → Type 0
StarvesHeld brought was is result old new =
    OfHeld was old (λ history staged. OnStarved result (Starves (brought (history ++ staged)) (history ++ staged) is new))

-- Events are staged behind those that are, and a crash meanwhile leaves the history with some first of all.
pub record Adds {T : Type 0} (history : History) (staged more : List Happened) (is : RecordsState) (old new : Told) (result : Result T Status) : Type 0
  where
    pub holds : OnOk result (Holds history (staged ++ more) is new)
    pub any_moment : LeavesOnly old new (StandsForFirst history (staged ++ more))

-- Events come to the disk behind a history, and a crash meanwhile leaves the history with some first of them.
pub record Brings {T : Type 0} (history : History) (events : List Happened) (is : RecordsState) (old new : Told) (result : Result T Status) : Type 0
  where
    pub holds : OnOk result (Holds (history ++ events) [] is new)
    pub any_moment : LeavesOnly old new (StandsForFirst history events)

-- a reply is all that is brought
abbrev pub IsWhole : Brought → Result Reply Status → Type 0
IsWhole brought result = IfOk result (λ reply. brought.replies ≡ reply ∷ [])

-- What is brought is staged: its event, if it has one. Its reply is answered.
pub record StagesHeld (brought : History → Brought) (was is : RecordsState) (result : Result Reply Status) (old new : Told) : Type 0 where
  pub each : OfHeld was old (λ history staged. let here = brought (history ++ staged) in
      Adds history staged (the_event here.event) is old new result × IsWhole here result)
  pub starves : StarvesHeld brought was is result old new

-- What is brought adds no event. Its reply is answered, and nothing is written.
pub record AsksHeld (brought : History → Brought) (was is : RecordsState) (result : Result Reply Status) (old new : Told) : Type 0 where
  pub each : OfHeld was old (λ history staged. Adds history staged [] is old new result × IsWhole (brought (history ++ staged)) result)
  pub reads : OnlyReads old new

-- What is staged comes to the disk.
pub record SealsHeld (was is : RecordsState) (result : Result Unit Status) (old new : Told) : Type 0 where
  pub each : OfHeld was old (λ history staged. Brings history staged is old new result)

-- What is brought comes to the disk behind what is staged. Its reply is answered.
pub record AppliesHeld (brought : History → Brought) (was is : RecordsState) (result : Result Reply Status) (old new : Told) : Type 0 where
  pub each : OfHeld was old (λ history staged. let here = brought (history ++ staged) in
      Brings history (staged ++ the_event here.event) is old new result × IsWhole here result)
  pub starves : StarvesHeld brought was is result old new

-- What is brought comes to the disk behind what is staged. Its text is said, or the first part of it: the rest are rows that are left.
pub record SaysHeld (brought : History → Brought) (was is : StoreState) (said : List ℕ) (result : Result (Option Rows) Status) (old new : Told) : Type 0
  where
    pub each : OfHeld was.records old (λ history staged. let here = brought (history ++ staged) in
        Brings history (staged ++ the_event here.event) is.records old new result
        × IfOk result (λ rows. text_brought here ≡ said ++ text_left rows is.streams (history_after (history ++ staged) here)))
    pub starves : StarvesHeld brought was.records is.records result old new

-- The same over records with nothing staged.
pub record SaysOpen (brought : History → Brought) (was is : StoreState) (said : List ℕ) (result : Result (Option Rows) Status) (old new : Told) : Type 0
  where
    pub each : (history : History) → Holds history [] was.records old → let here = brought history in
        Brings history (the_event here.event) is.records old new result
        × IfOk result (λ rows. text_brought here ≡ said ++ text_left rows is.streams (history_after history here))
    pub starves : (history : History) → Holds history [] was.records old → OnStarved result (Starves (brought history) history is.records new)

-- Of rows that are left the first are said, and the rest are left. Nothing is written.
pub record SaysFurther (before : Option Rows) (was is : StoreState) (said : List ℕ) (result : Result (Option Rows) Status) (old new : Told) : Type 0
  where
    pub each : OfHeld was.records old (λ history staged. Adds history staged [] is.records old new result
        × IfOk result (λ rows. text_left before was.streams (history ++ staged) ≡ said ++ text_left rows is.streams (history ++ staged)))
    pub reads : OnlyReads old new

-- the rows that are left, and the answer without them
abbrev pub rows_of : Result (Option Rows) Status → Option Rows
rows_of (Ok rows) = rows
rows_of (Err status) = None

abbrev pub plain_of : Result (Option Rows) Status → Result Unit Status
plain_of (Ok rows) = Ok tt
plain_of (Err status) = Err status

-- what a call leaves of rows, where it doesn't stop
abbrev pub with_rows : Option Rows → Result Unit Status → Result (Option Rows) Status
with_rows rows (Ok u) = Ok rows
with_rows rows (Err status) = Err status

-- a line without one line end at its end
abbrev pub without_end : List ℕ → List ℕ
without_end line = if slice_index line (length line - 1) == LINE_END then take (length line - 1) line else line

-- a line as it is read: without its line end, and then without a carriage return
abbrev pub bare : List ℕ → List ℕ
bare line = without_return (without_end line)
