-- Values that are appended together, one after another.
use Rattle.std.proofs.lemmas.Bool.{cases_Bool}
use Rattle.std.proofs.lemmas.List.{take_more}
use Rattle.std.proofs.lemmas.Option.{slice_get-get_or}
use Rattle.std.specs.Prelude.{Bool, slice_get}
use Rattle.std.proofs.Math.ListN.{get_or}
use Rattle.ss_connection.proofs.CallLemmas.{unstarved}
use Rattle.ss_connection.proofs.EventLemmas.{event-in-time, event-refused, in-time-tested}
use Rattle.ss_connection.proofs.HoldsLemmas.{first-more}
use Rattle.ss_connection.specs.Calls.{Adds, OfHeld, OnStarved, SealsHeld, Starves}
use Rattle.ss_connection.specs.Holds.{Holds}
use Rattle.ss_connection.specs.Many.{AppliesMany, AreAccepted, StagesMany, StarvesAmong, TakesFirst, after_first, values_at}
use Rattle.ss_connection.specs.Typed.{event_brings, is_in_time}
use Rattle.ss_connection.specs.declared.connection.many.Taken.{Taken}
use Rattle.ss_program.proofs.AnswerLemmas.{brings-accepted, brings-refused}
use Rattle.ss_program.proofs.Common.{◌≡◌, ◌∙◌, ◌⊎◌, ⊎_elim, inl, inr, ◌+◌, ◌<◌, ◌++◌, ◌∷◌, [], ℕ, ℤ, List, None, Some, Ok, Err, Option, Result, ap, append_assoc, append-nil}
use Rattle.ss_program.proofs.Common.{arith, at_start, drop, drop-cons, drop_all, joined, length, map, map-append, min, of_content, refl, sym, suc, take, take-append-drop, weaker, zero}
use Rattle.ss_program.proofs.Common.{Ack, Brought, Event, Happened, History, KnowsNow, LeavesOnly, RecordsState, Refusal, Refused, Reply, StandsForFirst, Told, Value}
use Rattle.ss_program.proofs.Common.{ack_of, added, command_brings, event_name, refused, refuses, state, the_event}
use Rattle.ss_program.specs.declared.status.Status.{Status}
use Rattle.ss_program.specs.Status.{IsDiskStop}
use Rattle.ss_report.specs.declared.reply.Reply.TheVariants.{Done}
use Rattle.ss_catalog.specs.declared.refusal.Refusal.TheVariants.{Number}
use Rattle.ss_command.specs.declared.command.Command.TheVariants.{Do}
use Rattle.std.proofs.Common.{false}

-- as many events as there are both times and values, each at its place
pub length-values : (name times : List ℕ) (values : List ℤ) → length (values_at name times values) ≡ min (length times) (length values)
length-values name [] values = omega arith
length-values name (t ∷ times) [] = omega arith
length-values name (t ∷ times) (v ∷ values) = omega (arith, length-values name times values)

pub value-at : (name times : List ℕ) (values : List ℤ) (k : ℕ) (e : Event) (d : ℕ) (z : ℤ) → k < length (values_at name times values) →
    get_or (values_at name times values) k e ≡ Value name (get_or times k d) (get_or values k z)
value-at name [] values k e d z inside = absurd (omega (arith, inside))
value-at name (t ∷ times) [] k e d z inside = absurd (omega (arith, inside))
value-at name (t ∷ times) (v ∷ values) zero e d z inside = refl
value-at name (t ∷ times) (v ∷ values) (suc k) e d z inside = value-at name times values k e d z (omega (arith, inside))

pub event-at : (name times : List ℕ) (values : List ℤ) (k d : ℕ) (z : ℤ) → k < length times → k < length values →
    slice_get (values_at name times values) k ≡ Some (Value name (get_or times k d) (get_or values k z))
event-at name times values k d z early few =
    let e = Value name d z in
    let inside : k < length (values_at name times values) = omega (arith, early, few, length-values name times values) in
    slice_get-get_or (values_at name times values) k e inside ∙ ap (λ x. Some x) (value-at name times values k e d z inside)

-- and it is of the stream of the name
pub name-at : (name times : List ℕ) (values : List ℤ) (k : ℕ) (event : Event) (z : ℤ) → k < length (values_at name times values) →
    get_or (values_at name times values) k event ≡ event → event_name event ≡ name
name-at name times values k event z inside at = ap (λ e. event_name e) (sym at ∙ value-at name times values k event 0 z inside)

-- An event is refused, and brings nothing else, or it is accepted, with what its stream has then.
abbrev Accepts : History → Event → Type 0
Accepts history event = ((event_brings history event).event ≡ Some event)
    × ((event_brings history event).replies ≡ Done (ack_of (event_name event) (state (history ++ added event ∷ []))) ∷ [])

by-refusal : (history : History) (event : Event) (why : Option Refusal) → event_brings history event ≡ command_brings history (Do event) →
    refuses (state history) event ≡ why → ((r : Refusal) × (event_brings history event ≡ refused r)) ⊎ Accepts history event
by-refusal history event (Some r) same is = inl (r, same ∙ brings-refused false history event r is)
by-refusal history event None same is =
    let brings = same ∙ brings-accepted false history event is in inr (ap (λ (b : Brought). b.event) brings, ap (λ (b : Brought). b.replies) brings)

pub brings-either : (history : History) (event : Event) → ((r : Refusal) × (event_brings history event ≡ refused r)) ⊎ Accepts history event
brings-either history event = ⊎_elim
    (λ yes. by-refusal history event (refuses (state history) event) (event-in-time history event (in-time-tested event yes)) refl)
    (λ no. inl (Number, event-refused history event no)) (cases_Bool (is_in_time event))

-- so it is where its reply is known
pub done-accepted : (history : History) (event : Event) (ack : Ack) → (event_brings history event).replies ≡ Done ack ∷ [] →
    ((event_brings history event).event ≡ Some event) × (ack ≡ ack_of (event_name event) (state (history ++ added event ∷ [])))
done-accepted history event ack is =
    ⊎_elim (λ no. let wrong : Refused no.0 ∷ [] ≡ Done ack ∷ [] = sym (ap (λ (b : Brought). b.replies) no.1) ∙ is in cc)
    (λ yes. (yes.0, let same = sym yes.1 ∙ is in cc)) (brings-either history event)

pub refused-brings : (history : History) (event : Event) (r : Refusal) → (event_brings history event).replies ≡ Refused r ∷ [] →
    event_brings history event ≡ refused r
refused-brings history event r is =
    ⊎_elim (λ no. let same : Refused no.0 ∷ [] ≡ Refused r ∷ [] = sym (ap (λ (b : Brought). b.replies) no.1) ∙ is in
    let one : no.0 ≡ r = cc in no.1 ∙ ap (λ x. refused x) one)
    (λ yes. let wrong = sym yes.1 ∙ is in cc) (brings-either history event)

pub other-reply : (history : History) (event : Event) (reply : Reply) → (event_brings history event).replies ≡ reply ∷ [] →
    ((ack : Ack) → reply ≡ Done ack → ⊥) → ((r : Refusal) → reply ≡ Refused r → ⊥) → ⊥
other-reply history event reply is undone unrefused =
    ⊎_elim (λ no. let same : Refused no.0 ∷ [] ≡ reply ∷ [] = sym (ap (λ (b : Brought). b.replies) no.1) ∙ is in
    let one : reply ≡ Refused no.0 = cc in unrefused no.0 one)
    (λ yes. let same = sym yes.1 ∙ is in
    let one : reply ≡ Done (ack_of (event_name event) (state (history ++ added event ∷ []))) = cc in undone _ one) (brings-either history event)

-- one more is accepted
accepted-push : (history : History) (events : List Event) (event : Event) → AreAccepted history events →
    (event_brings (history ++ map added events) event).event ≡ Some event → AreAccepted history (events ++ event ∷ [])
accepted-push history [] event are is = (rw append-nil at is, tt)
accepted-push history (e ∷ events) event are is =
    (are.0, accepted-push (history ++ added e ∷ []) events event are.1 (rw append_assoc is))

-- So many first events were staged behind what is, one after another.
pub record HasStaged (history : History) (staged : List Happened) (name : List ℕ) (events : List Event) (is : RecordsState) (count : ℕ)
    (last : Option Ack) (old new : Told) : Type 0 where
  pub holds : Holds history (staged ++ map added (take count events)) is new
  pub accepted : AreAccepted (history ++ staged) (take count events)
  pub first : count ≡ 0 → last ≡ None
  pub last_is : 0 < count → last ≡ Some (ack_of name (state (after_first (history ++ staged) events count)))
  pub any_moment : LeavesOnly old new (StandsForFirst history (staged ++ map added events))

pub record StagesSome (name : List ℕ) (events : List Event) (was is : RecordsState) (taken : Taken) (old new : Told) : Type 0 where
  pub each : OfHeld was old (λ history staged. HasStaged history staged name events is taken.count taken.last old new)

-- before the first
pub HasStaged-none : {history : History} {staged : List Happened} {name : List ℕ} {events : List Event} {was : RecordsState} {old : Told} →
    KnowsNow old → Holds history staged was old → HasStaged history staged name events was 0 None old old
HasStaged-none {history = history} {staged = staged} {events = events} {old = old} knows held =
    let P = StandsForFirst history (staged ++ map added events) in
    record {
      holds = rw append-nil held;
      accepted = tt;
      first = λ none. refl;
      last_is = λ some. absurd (omega (arith, some));
      any_moment = at_start old P knows
          (of_content old P held.durable (first-more history staged (map added events) old.content held.within));
    }

-- a reply, and no reply
abbrev pub replied : Reply → Result Reply Status
replied reply = Ok reply

abbrev pub stopped : Status → Result Reply Status
stopped status = Err status

abbrev pub halted : Status → Result Taken Status
halted status = Err status

-- all events are some first of them and the rest
pub front-rest : (staged : List Happened) (events : List Event) (count : ℕ) →
    staged ++ map added events ≡ (staged ++ map added (take count events)) ++ map added (drop count events)
front-rest staged events count =
    ap (λ es. staged ++ map added es) (sym (take-append-drop count events))
    ∙ ap (λ (hs : List Happened). staged ++ hs) (map-append added (take count events) (drop count events))
    ∙ sym (append_assoc staged (map added (take count events)) (map added (drop count events)))

module _ (events : List Event) (count : ℕ) (event : Event) (inside : count < length events) (at : get_or events count event ≡ event) where
  -- the event comes behind those before it
  next-front : take (count + 1) events ≡ take count events ++ event ∷ []
  next-front = take_more events count event inside ∙ ap (λ e. take count events ++ e ∷ []) at

  next-behind : drop count events ≡ event ∷ drop (suc count) events
  next-behind = drop-cons events count event inside ∙ ap (λ e. e ∷ drop (suc count) events) at

  added-next : map added (take (count + 1) events) ≡ map added (take count events) ++ added event ∷ []
  added-next = ap (λ es. map added es) next-front ∙ map-append added (take count events) (event ∷ [])

  front-next : (staged : List Happened) →
      staged ++ map added events ≡ (staged ++ map added (take count events)) ++ (added event ∷ map added (drop (suc count) events))
  front-next staged = front-rest staged events count ∙ ap (λ es. (staged ++ map added (take count events)) ++ map added es) next-behind

module _ {history : History} {staged : List Happened} {name : List ℕ} {events : List Event} {was is : RecordsState} {count : ℕ} {last : Option Ack}
    {old mid new : Told} (event : Event) (before : HasStaged history staged name events was count last old mid) (inside : count < length events)
    (at : get_or events count event ≡ event) where
  -- a crash meanwhile leaves some first of all
  goes-all : {T : Type 0} (result : Result T Status) (more : List Happened) → (more ≡ []) ⊎ (more ≡ added event ∷ []) →
      Adds history (staged ++ map added (take count events)) more is mid new result →
      LeavesOnly old new (StandsForFirst history (staged ++ map added events))
  goes-all result more which adds =
      let front = staged ++ map added (take count events) in
      let rest = map added (drop (suc count) events) in
      let P = StandsForFirst history (staged ++ map added events) in
      let same = front-next events count event inside at staged in
      joined old mid new P before.any_moment (weaker mid new (StandsForFirst history (front ++ more)) P
      (λ image some. ⊎_elim (λ (none : more ≡ []).
      rw same (first-more history front (added event ∷ rest) image (rw (none, append-nil) at some)))
      (λ (one : more ≡ added event ∷ []).
      rw (same ∙ sym (append_assoc front (added event ∷ []) rest)) (first-more history (front ++ added event ∷ []) rest image (rw one at some))) which)
      adds.any_moment)

  -- it was accepted
  pub HasStaged-more : (ack : Ack) → event_name event ≡ name → (let here = event_brings (history ++ (staged ++ map added (take count events))) event in
      Adds history (staged ++ map added (take count events)) (the_event here.event) is mid new (replied (Done ack))
      × (here.replies ≡ Done ack ∷ [])) → HasStaged history staged name events is (count + 1) (Some ack) old new
  HasStaged-more ack named did =
      let xs = map added (take count events) in
      let from = history ++ (staged ++ xs) in
      let done = done-accepted from event ack did.1 in
      let adds : Adds history (staged ++ xs) (added event ∷ []) is mid new (replied (Done ack)) =
      rw (ap (λ (e : Option Event). the_event e) done.0) at did.0 in
      let next = added-next events count event inside at in
      let from_same : (history ++ staged) ++ xs ≡ from = append_assoc history staged xs in
      let same : (history ++ staged) ++ map added (take (count + 1) events) ≡ from ++ added event ∷ [] =
      ap (λ (hs : List Happened). (history ++ staged) ++ hs) next ∙ sym (append_assoc (history ++ staged) xs (added event ∷ []))
      ∙ ap (λ (h : History). h ++ added event ∷ []) from_same in
      let shown : staged ++ map added (take (count + 1) events) ≡ (staged ++ xs) ++ added event ∷ [] =
      ap (λ (hs : List Happened). staged ++ hs) next ∙ sym (append_assoc staged xs (added event ∷ [])) in
      record {
        holds = rw shown adds.holds;
        accepted = rw (next-front events count event inside at)
            (accepted-push (history ++ staged) (take count events) event before.accepted (rw from_same done.0));
        first = λ none. absurd (omega (arith, none));
        last_is = λ some. ap (λ (a : Ack). Some a) (done.1 ∙ ap (λ n. ack_of n (state (from ++ added event ∷ []))) named
            ∙ ap (λ (h : History). ack_of name (state h)) (sym same));
        any_moment = goes-all (replied (Done ack)) (added event ∷ []) (inr refl) adds;
      }

  -- it was refused: those before it are staged
  pub StagesMany-refused : (taken : Taken) (r : Refusal) → taken.count ≡ count → taken.last ≡ last → taken.refusal ≡ Some r →
      (let here = event_brings (history ++ (staged ++ map added (take count events))) event in
      Adds history (staged ++ map added (take count events)) (the_event here.event) is mid new (replied (Refused r))
      × (here.replies ≡ Refused r ∷ [])) →
      TakesFirst (history ++ staged) name events taken × Holds history (staged ++ map added (take taken.count events)) is new
      × LeavesOnly old new (StandsForFirst history (staged ++ map added events))
  StagesMany-refused taken r counts lasts is_refused did =
      let xs = map added (take count events) in
      let from = history ++ (staged ++ xs) in
      let no = refused-brings from event r did.1 in
      let none : (event_brings from event).event ≡ None = ap (λ (b : Brought). b.event) no in
      let adds : Adds history (staged ++ xs) [] is mid new (replied (Refused r)) = rw (ap (λ (e : Option Event). the_event e) none) at did.0 in
      let from_same : (history ++ staged) ++ xs ≡ from = append_assoc history staged xs in
      let held : Holds history (staged ++ xs) is new = rw append-nil at adds.holds in (
        record {
          few = omega (arith, counts, inside);
          accepted = rw counts before.accepted;
          next = rw (counts, is_refused, next-behind events count event inside at, from_same) no;
          first = λ none. lasts ∙ before.first (sym counts ∙ none);
          last = λ some. lasts ∙ rw counts (before.last_is (rw counts at some));
        },
        rw counts held,
        goes-all (replied (Refused r)) [] (inl refl) adds,
      )

  -- the run stopped at it
  pub StagesMany-stopped : (status : Status) → (let here = event_brings (history ++ (staged ++ map added (take count events))) event in
      Adds history (staged ++ map added (take count events)) (the_event here.event) is mid new (stopped status)) →
      LeavesOnly old new (StandsForFirst history (staged ++ map added events))
  StagesMany-stopped status adds =
      let from = history ++ (staged ++ map added (take count events)) in
      goes-all (stopped status) (the_event (event_brings from event).event)
      (⊎_elim (λ no. inl (ap (λ (b : Brought). the_event b.event) no.1)) (λ yes. inr (ap (λ (e : Option Event). the_event e) yes.0))
      (brings-either from event)) adds

  -- memory ran out at it
  pub StagesMany-starved : (status : Status) → (let from = history ++ (staged ++ map added (take count events)) in
      OnStarved (stopped status) (Starves (event_brings from event) from is new)) →
      OnStarved (halted status) (StarvesAmong (history ++ staged) events is new)
  StagesMany-starved status starves = λ memory.
      let xs = map added (take count events) in
      let from_same : (history ++ staged) ++ xs ≡ history ++ (staged ++ xs) = append_assoc history staged xs in
      let found : slice_get events count ≡ Some event = slice_get-get_or events count event inside ∙ ap (λ e. Some e) at in
      let starved = starves memory in
      record {
        taken = count;
        inside = inside;
        accepted = before.accepted;
        wants = rw (found, from_same) starved.wants;
        holds = rw from_same starved.holds;
      }

-- all were accepted
pub TakesFirst-all : {history : History} {staged : List Happened} {name : List ℕ} {events : List Event} {is : RecordsState} {old new : Told} (taken : Taken) →
    taken.count ≡ length events → taken.refusal ≡ None → HasStaged history staged name events is taken.count taken.last old new →
    TakesFirst (history ++ staged) name events taken
TakesFirst-all {events = events} taken all none staged = record {
  few = omega (arith, all);
  accepted = staged.accepted;
  next = rw (drop_all taken.count events (omega (arith, all))) none;
  first = staged.first;
  last = staged.last_is;
}

-- a crash on the way leaves some first of all
sealed-all : (events : List Event) {old then new : Told} (taken : Taken) (history : History) (staged : List Happened) →
    LeavesOnly old then (StandsForFirst history (staged ++ map added events)) →
    LeavesOnly then new (StandsForFirst history (staged ++ map added (take taken.count events))) →
    LeavesOnly old new (StandsForFirst history (staged ++ map added events))
sealed-all events {old = old} {then = then} {new = new} taken history staged first second =
    let P = StandsForFirst history (staged ++ map added events) in
    let front = staged ++ map added (take taken.count events) in
    joined old then new P first (weaker then new (StandsForFirst history front) P
    (λ image some. rw (front-rest staged events taken.count) (first-more history front (map added (drop taken.count events)) image some)) second)

-- what was staged together came to the disk
module _ {name : List ℕ} {events : List Event} {was mid is : RecordsState} {old then new : Told} (taken : Taken) where
  pub Applies-sealed : StagesMany name events was mid (Ok taken) old then → SealsHeld mid is (Ok tt) then new →
      AppliesMany name events was is (Ok taken) old new
  Applies-sealed stages seals = record {
    starves = λ history staged held. tt;
    takes = stages.takes;
    holds = λ history staged held. (seals.each history (staged ++ map added (take taken.count events)) (stages.holds history staged held)).holds;
    any_moment = λ history staged held. sealed-all events taken history staged (stages.any_moment history staged held)
        (seals.each history (staged ++ map added (take taken.count events)) (stages.holds history staged held)).any_moment;
  }

  pub Applies-stopped : (tells : Bool) (status : Status) → IsDiskStop tells status → StagesMany name events was mid (Ok taken) old then → SealsHeld mid is (Err status) then new →
      AppliesMany name events was is (Err status) old new
  Applies-stopped tells status stop stages seals = record {
    starves = λ history staged held. unstarved _ tells (halted status) stop;
    takes = λ history staged held. tt;
    holds = λ history staged held. tt;
    any_moment = λ history staged held. sealed-all events taken history staged (stages.any_moment history staged held)
        (seals.each history (staged ++ map added (take taken.count events)) (stages.holds history staged held)).any_moment;
  }
