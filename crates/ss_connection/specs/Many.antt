-- Values that are appended together.
use Rattle.std.specs.Prelude.{◌≡◌, ◌++◌, ◌∷◌, ◌<◌, ◌≤◌, [], ℕ, ℤ, List, Option, None, Some, Result, IfOk, IfSome, IsSome, length, map, slice_get, take, drop, ⊤}
use Rattle.ss_catalog.specs.declared.event.Event.{Event}
use Rattle.ss_catalog.specs.declared.event.Event.TheVariants.{Value}
use Rattle.ss_catalog.specs.declared.refusal.Refusal.{Refusal}
use Rattle.ss_connection.specs.Calls.{OfHeld, OnStarved}
use Rattle.ss_connection.specs.Holds.{Holds}
use Rattle.ss_connection.specs.Typed.{event_brings}
use Rattle.ss_connection.specs.declared.connection.many.Taken.{Taken}
use Rattle.ss_model.specs.History.{added}
use Rattle.ss_model.specs.State.{state}
use Rattle.ss_model.specs.Steps.{ack_of}
use Rattle.ss_outside.specs.Crash.{LeavesOnly}
use Rattle.ss_outside.specs.Disk.{Told}
use Rattle.ss_program.specs.Held.{StandsForFirst}
use Rattle.ss_program.specs.Line.{History, refused}
use Rattle.ss_program.specs.declared.status.Status.{Status}
use Rattle.ss_records.specs.Kept.{RecordsState}

-- the events of values at times of the stream of a name, as many as there are both of
abbrev pub values_at : List ℕ → List ℕ → List ℤ → List Event
values_at name [] values = []
values_at name (t ∷ times) [] = []
values_at name (t ∷ times) (v ∷ values) = Value name t v ∷ values_at name times values

-- this event is the one at a place of these, and of the stream of their name
abbrev pub IsEventAt : List Event → ℕ → Event → Type 0
IsEventAt events place event = slice_get events place ≡ Some event

-- each event is accepted after a history and those before it
abbrev pub AreAccepted : History → List Event → Type 0
AreAccepted history [] = ⊤
AreAccepted history (event ∷ events) = ((event_brings history event).event ≡ Some event) × AreAccepted (history ++ added event ∷ []) events

-- the first of these events is refused after a history, with this refusal, or there is none
abbrev pub IsRefusedNext : History → List Event → Option Refusal → Type 0
IsRefusedNext history [] refusal = refusal ≡ None
IsRefusedNext history (event ∷ events) None = ⊥
IsRefusedNext history (event ∷ events) (Some r) = event_brings history event ≡ refused r

-- the history after some first of these events
abbrev pub after_first : History → List Event → ℕ → History
after_first history events count = history ++ map added (take count events)

-- Of these events so many first ones were accepted, one after another, and the next one was refused, if there is one. The reply to the last
-- one is what its stream has then.
pub record TakesFirst (history : History) (name : List ℕ) (events : List Event) (taken : Taken) : Type 0 where
  pub few : taken.count ≤ length events
  pub accepted : AreAccepted history (take taken.count events)
  pub next : IsRefusedNext (after_first history events taken.count) (drop taken.count events) taken.refusal
  pub first : taken.count ≡ 0 → taken.last ≡ None
  pub last : 0 < taken.count → taken.last ≡ Some (ack_of name (state (after_first history events taken.count)))

-- Memory runs out only at an event that would be accepted: it isn't, and all that was before it is on the disk.
pub record StarvesAmong (history : History) (events : List Event) (is : RecordsState) (new : Told) : Type 0 where
  pub taken : ℕ
  pub inside : taken < length events
  pub accepted : AreAccepted history (take taken events)
  pub wants : IfSome (slice_get events taken) (λ event. IsSome (event_brings (after_first history events taken) event).event)
  pub holds : Holds (after_first history events taken) [] is new

-- Some first of these values are staged behind what is, and a crash meanwhile leaves the history with some first of all.
pub record StagesMany (name : List ℕ) (events : List Event) (was is : RecordsState) (result : Result Taken Status) (old new : Told) : Type 0 where
  pub takes : OfHeld was old (λ history staged. IfOk result (TakesFirst (history ++ staged) name events))
  pub holds : OfHeld was old (λ history staged. IfOk result (λ taken.
      Holds history (staged ++ map added (take taken.count events)) is new))
  pub any_moment : OfHeld was old (λ history staged. LeavesOnly old new (StandsForFirst history (staged ++ map added events)))
  pub starves : OfHeld was old (λ history staged. OnStarved result (StarvesAmong (history ++ staged) events is new))

-- Some first of these values come to the disk together, behind what is staged.
pub record AppliesMany (name : List ℕ) (events : List Event) (was is : RecordsState) (result : Result Taken Status) (old new : Told) : Type 0 where
  pub takes : OfHeld was old (λ history staged. IfOk result (TakesFirst (history ++ staged) name events))
  pub holds : OfHeld was old (λ history staged. IfOk result (λ taken.
      Holds (history ++ (staged ++ map added (take taken.count events))) [] is new))
  pub any_moment : OfHeld was old (λ history staged. LeavesOnly old new (StandsForFirst history (staged ++ map added events)))
  pub starves : OfHeld was old (λ history staged. OnStarved result (StarvesAmong (history ++ staged) events is new))
