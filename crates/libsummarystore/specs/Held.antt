-- A connection with its disk.
use Rattle.std.specs.Prelude.{◌≡◌, ◌⊎◌, ℕ, Bool, List, Result, Ok, Err, IsTrue, IsFalse, length, min, take}
use Rattle.ss_catalog.specs.declared.event.Event.{Event}
use Rattle.ss_connection.specs.Calls.{AppliesHeld, AsksHeld, Called, SaysFurther, SaysHeld, StagesHeld, bare, with_rows}
use Rattle.ss_connection.specs.Holds.{IsUsable}
use Rattle.ss_connection.specs.Many.{AppliesMany, StagesMany}
use Rattle.ss_connection.specs.declared.connection.many.Taken.{Taken}
use Rattle.ss_model.specs.declared.newest.Newest.{Newest}
use Rattle.ss_connection.specs.Typed.{event_brings}
use Rattle.ss_model.specs.declared.types.Ack.{Ack}
use Rattle.ss_outside.specs.Disk.{DiskView, Told}
use Rattle.ss_program.specs.Line.{brings, command_brings}
use Rattle.ss_program.specs.Status.{IsApplyStop, IsDiskStop}
use Rattle.ss_program.specs.declared.status.Status.{Status}
use Rattle.ss_report.specs.declared.reply.Reply.{Reply}
use Rattle.ss_model.specs.declared.outcome.Outcome.{Outcome}
use Rattle.ss_program.specs.Answer.{question_command}
use Rattle.ss_program.specs.declared.answer.Question.{Question}
use Rattle.ss_program.specs.declared.answer.Question.TheVariants as questions
use Rattle.ss_catalog.specs.declared.query.Query.{Query}
use Rattle.libsummarystore.specs.Answer.{ack_of, newest_of, outcome_of}
use Rattle.libsummarystore.specs.declared.answer.Why.{Why}
use Rattle.libsummarystore.specs.declared.answer.Why.TheVariants.{ReadOnly, Stopped}
use Rattle.libsummarystore.specs.declared.held.Held.{Held}

-- The front of a text is handed out, as much of it as there is room for; or why the connection has stopped is answered.
abbrev pub HandsOut : Result Unit Status → List ℕ → List ℕ → Result ℕ Why → Type 0
HandsOut (Ok u) text room result = let count = min (length text) (length room) in (result ≡ Ok count) × (take count room ≡ take count text)
HandsOut (Err status) text room result = result ≡ Err (Stopped status)

module _ {D : Type 0} (seen : D → DiskView) where
  -- the connection can be called
  abbrev pub IsReady : Held D → Type 0
  IsReady held = IsUsable (seen held.disk) held.connection

  -- nothing is done
  abbrev pub IsStill : Held D → Held D → Type 0
  IsStill was is = (is.connection ≡ was.connection) × (is.disk ≡ was.disk)

  -- the connection is called once, and answers this
  abbrev pub CalledOnce : {T : Type 0} → (Bool → Status → Type 0) → Held D → Held D → Result T Status → (Told → Told → Type 0) → Type 0
  CalledOnce stops was is result R = Called stops was.connection is.connection (IsStill was is) result (seen was.disk) (seen is.disk) R

  -- An event is staged in a batch, and else it is on the disk when its reply is answered.
  pub record RepliesTo (event : Event) (was is : Held D) (reply : Result Reply Status) : Type 0 where
    pub staged : IsTrue was.is_batch →
        CalledOnce IsApplyStop was is reply (StagesHeld (λ history. event_brings history event) was.connection.store.records is.connection.store.records reply)
    pub applied : IsFalse was.is_batch →
        CalledOnce IsApplyStop was is reply (AppliesHeld (λ history. event_brings history event) was.connection.store.records is.connection.store.records reply)

  -- So an event is taken.
  abbrev pub Takes : Event → Held D → Held D → Result Ack Why → Type 0
  Takes event was is result = (reply : Result Reply Status) × (result ≡ ack_of reply) × RepliesTo event was is reply

  -- Values are staged in a batch, and else some first of them come to the disk.
  pub record TakesMany (name : List ℕ) (events : List Event) (was is : Held D) (taken : Result Taken Status) : Type 0 where
    pub staged : IsTrue was.is_batch →
        CalledOnce IsApplyStop was is taken (StagesMany name events was.connection.store.records is.connection.store.records taken)
    pub applied : IsFalse was.is_batch →
        CalledOnce IsApplyStop was is taken (AppliesMany name events was.connection.store.records is.connection.store.records taken)

  -- A line is done, and the front of its reply is handed out; or it is an event, and the connection only looks.
  abbrev pub Says : List ℕ → Held D → Held D → List ℕ → Result ℕ Why → Type 0
  Says line was is room result = ((result ≡ Err ReadOnly) × IsTrue was.only_looks × IsStill was is)
      ⊎ ((said : Result Unit Status) × HandsOut said is.connection.said room result × CalledOnce IsApplyStop was is said
      (SaysHeld (λ history. brings history (bare line)) was.connection.store is.connection.store is.connection.said
      (with_rows is.connection.rows said)))

  -- Further rows are said, and the front of them is handed out.
  abbrev pub SaysMore : Held D → Held D → List ℕ → Result ℕ Why → Type 0
  SaysMore was is room result = (said : Result Unit Status) × HandsOut said is.connection.said room result × CalledOnce IsDiskStop was is said
      (SaysFurther was.connection.rows was.connection.store is.connection.store is.connection.said (with_rows is.connection.rows said))

  -- A question is asked. Nothing is staged or written.
  abbrev pub Asks : Question → Held D → Held D → Result Reply Status → Type 0
  Asks question was is reply =
      CalledOnce IsDiskStop was is reply
      (AsksHeld (λ history. command_brings history (question_command question)) was.connection.store.records is.connection.store.records reply)

  -- So a query is answered.
  pub record Knows (query : Query) (was is : Held D) (result : Result Outcome Why) : Type 0 where
    pub reply : Result Reply Status
    pub answers : result ≡ outcome_of reply
    pub asks : Asks (questions.Query query) was is reply

  -- So is the question how far a stream has come.
  pub record KnowsNewest (name : List ℕ) (was is : Held D) (result : Result Newest Why) : Type 0 where
    pub reply : Result Reply Status
    pub answers : result ≡ newest_of reply
    pub asks : Asks (questions.Newest name) was is reply
