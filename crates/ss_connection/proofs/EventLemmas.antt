-- Events that come as values.
use Rattle.ss_base.specs.declared.limits.TheConstants.{LAST_TIME}
use Rattle.ss_catalog.specs.Events.{IsInTime}
use Rattle.ss_catalog.specs.declared.refusal.Refusal.TheVariants.{Number}
use Rattle.ss_connection.proofs.HoldsLemmas.{Adds-read, first-more}
use Rattle.ss_connection.specs.Calls.{Adds, Brings, IsWhole, OnStarved, SealsHeld, StagesHeld}
use Rattle.ss_connection.specs.Typed.{event_brings, is_in_time}
use Rattle.ss_program.proofs.Common.{◌≡◌, ◌++◌, Ok, refl, cond-false, cond-true, false, le-leb, reads-none, Brought, Create, Close, Do, Drop, Event, History}
use Rattle.ss_program.proofs.Common.{KnowsNow, Open, RecordsState, Refusal, Refused, Reply, Result, Told, Value, command_brings, refused}
use Rattle.ss_program.proofs.Common.{DiskView, Err, Happened, IsTrue, List, StandsForFirst, the_event, weaker}
use Rattle.ss_program.specs.Amid.{BringsEvent}
use Rattle.ss_program.specs.declared.status.Status.TheVariants.{OutOfMemory}
use Rattle.std.proofs.Common.{true}
use Rattle.std.proofs.lemmas.Bool.{leb-true}
use Rattle.ss_program.specs.declared.status.Status.{Status}

-- one whose time can be said brings what its command does
pub event-in-time : (history : History) (event : Event) → IsInTime event → event_brings history event ≡ command_brings history (Do event)
event-in-time history (Create name params) fits = refl
event-in-time history (Value name t v) fits = cond-true _ _ _ (le-leb t LAST_TIME fits)
event-in-time history (Open name t) fits = cond-true _ _ _ (le-leb t LAST_TIME fits)
event-in-time history (Close name t) fits = cond-true _ _ _ (le-leb t LAST_TIME fits)
event-in-time history (Drop name) fits = refl

-- the test says so
pub in-time-tested : (event : Event) → is_in_time event ≡ true → IsInTime event
in-time-tested (Create name params) is = tt
in-time-tested (Value name t v) is = leb-true t LAST_TIME is
in-time-tested (Open name t) is = leb-true t LAST_TIME is
in-time-tested (Close name t) is = leb-true t LAST_TIME is
in-time-tested (Drop name) is = tt

-- one whose time can't be said is refused
pub event-refused : (history : History) (event : Event) → is_in_time event ≡ false → event_brings history event ≡ refused Number
event-refused history event late = cond-false _ _ _ late

abbrev stopped : Status → Result Reply Status
stopped status = Err status

-- a call that stops after what was staged came to the disk, or didn't
starved-each : {is : RecordsState} {old new : Told} (sealed : Result (Unit {0}) Status) (status : Status) (history : History) (staged : List Happened)
    (here : Brought) → Brings history staged is old new sealed →
    Adds history staged (the_event here.event) is old new (stopped status) × IsWhole here (stopped status)
starved-each {old = old} {new = new} sealed status history staged here brings =
    let more = the_event here.event in (
      record {
        holds = tt;
        any_moment = weaker old new (StandsForFirst history staged) (StandsForFirst history (staged ++ more))
            (λ image some. first-more history staged more image some) brings.any_moment;
      },
      tt,
    )

-- what is brought by another name
pub Stages-as : {a b : History → Brought} {was is : RecordsState} {old new : Told} (result : Result Reply Status) → ((history : History) → a history ≡ b history) →
    StagesHeld a was is result old new → StagesHeld b was is result old new
Stages-as result same stages = record {
  each = λ history staged held. rw (same (history ++ staged)) at (stages.each history staged held);
  starves = λ history staged held. rw (same (history ++ staged)) at (stages.starves history staged held);
}

-- where memory ran out what was staged was brought to the disk
module _ {brought : History → Brought} {was is : RecordsState} {old new : Told} where
  pub Stages-starved : (disk : DiskView) → IsTrue disk.tells → disk.told ≡ old → BringsEvent brought was disk → SealsHeld was is (Ok tt) old new →
      StagesHeld brought was is (Err OutOfMemory) old new
  Stages-starved disk tells same wants seals = record {
    each = λ history staged held. starved-each (Ok tt) OutOfMemory history staged (brought (history ++ staged)) (seals.each history staged held);
    starves = λ history staged held _. record {
      wants = wants tells (history ++ staged) (rw same held.shown);
      holds = (seals.each history staged held).holds;
    };
  }

  pub Stages-unsealed : (status : Status) → ((P : Type 0) → OnStarved {T = Reply} (Err status) P) → SealsHeld was is (Err status) old new →
      StagesHeld brought was is (Err status) old new
  Stages-unsealed status unstarved seals = record {
    each = λ history staged held. starved-each (Err status) status history staged (brought (history ++ staged)) (seals.each history staged held);
    starves = λ history staged held. unstarved _;
  }

-- a refusal stages nothing
pub Stages-refused : {brought : History → Brought} {records : RecordsState} {disk : Told} (refusal : Refusal) → KnowsNow disk →
    ((history : History) → brought history ≡ refused refusal) → StagesHeld brought records records (Ok (Refused refusal)) disk disk
Stages-refused {brought = brought} {records = records} {disk = disk} refusal knows same = record {
  each = λ history staged held.
      let result : Result Reply Status = Ok (Refused refusal) in
      rw (same (history ++ staged)) (Adds-read result knows held refl (reads-none disk), refl);
  starves = λ history staged held. tt;
}
