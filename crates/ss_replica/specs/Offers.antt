-- What is said to a frame that is offered to a replica, and which event it adds.
use Rattle.std.specs.Prelude.{ℕ, ◌+◌, nat_le, nat_lt, List, [], ◌∷◌, ◌++◌, length, if◌then◌else◌, Option, Some, None, Result, Ok, Err}
use Rattle.ss_catalog.specs.Events.{event_name}
use Rattle.ss_catalog.specs.declared.event.Event.{Event}
use Rattle.ss_catalog.specs.declared.refusal.Refusal.{Refusal}
use Rattle.ss_model.specs.History.{Happened, added}
use Rattle.ss_model.specs.Refusals.{refuses}
use Rattle.ss_model.specs.State.{state}
use Rattle.ss_model.specs.Steps.{ack_of}
use Rattle.ss_frames.specs.Frame.{FrameState}
use Rattle.ss_replica.specs.Own.{own}
use Rattle.ss_replica.specs.declared.judging.Due.{Due}
use Rattle.ss_replica.specs.declared.judging.Due.TheVariants as due
use Rattle.ss_model.specs.declared.types.Ack.{Ack}

-- what is said to a frame that isn't refused: its event was added, the stream has it already, or events are missing before it, where the
-- stream has so many
pub data Offered : Type 0 where
  Done : Ack → Offered
  Old : Offered
  Gap : ℕ → Offered

-- what the number of a frame says after so many events of its stream: it is one of these, it is the next, or some are missing before it
abbrev pub due_after : ℕ → ℕ → Due
due_after events number = if nat_le number events then due.Old else if nat_lt (events + 1) number then due.Gap events else due.Next

-- the same after a history: none, where no stream of the name stands
abbrev pub due_in : List Happened → FrameState → Due
due_in history frame = due_after (length (own history (event_name frame.event))) frame.number

-- what comes of a frame: what is said to it, or why it is refused, and the event that it adds, or none
pub record Outcome : Type 0 where
  pub reply : Result Offered Refusal
  pub event : Option Event

-- a frame that adds nothing
abbrev pub adds_nothing : Result Offered Refusal → Outcome
adds_nothing reply = record { reply = reply; event = None }

-- the next event of its stream: it is refused, or it is added, and the reply says what its stream has then
abbrev pub next_offered : Option Refusal → List Happened → Event → Outcome
next_offered (Some refusal) history event = adds_nothing (Err refusal)
next_offered None history event = record {
  reply = Ok (Done (ack_of (event_name event) (state (history ++ added event ∷ []))));
  event = Some event;
}

-- what comes of a frame by what its number says
abbrev pub offered_as : Due → List Happened → Event → Outcome
offered_as due.Old history event = adds_nothing (Ok Old)
offered_as (due.Gap events) history event = adds_nothing (Ok (Gap events))
offered_as due.Next history event = next_offered (refuses (state history) event) history event

-- what comes of a frame that is offered after a history
abbrev pub offered : List Happened → FrameState → Outcome
offered history frame = offered_as (due_in history frame) history frame.event

-- an event by itself, as it is added, where there is one
abbrev pub added_event : Option Event → List Happened
added_event None = []
added_event (Some event) = added event ∷ []

-- the history after a frame that is offered
abbrev pub after_offer : List Happened → FrameState → List Happened
after_offer history frame = history ++ added_event (offered history frame).event

-- the history after some frames that are offered in order
abbrev pub after_offers : List Happened → List FrameState → List Happened
after_offers history [] = history
after_offers history (frame ∷ frames) = after_offers (after_offer history frame) frames

-- what is said to each of them
abbrev pub offers : List Happened → List FrameState → List (Result Offered Refusal)
offers history [] = []
offers history (frame ∷ frames) = (offered history frame).reply ∷ offers (after_offer history frame) frames
