-- A replica owns fronts of what its primary owns, whatever frames of it are offered.
use Rattle.std.proofs.Common.{◌≡◌, ◌∙◌, ℕ, ◌+◌, ◌≤◌, Bool, true, false, List, [], ◌∷◌, ◌++◌, length, refl, ap, sym, subst, arith, inl, inr}
use Rattle.std.proofs.Common.{None, Some, Option, Err, append_assoc}
use Rattle.std.specs.Prelude.{◌⊎◌, All, nat_le, nat_lt}
use Rattle.std.specs.List.{list_all}
use Rattle.std.proofs.lemmas.Bool.{and_parts, cases_Bool}
use Rattle.std.proofs.lemmas.Bool.Decides.{nat_tests}
use Rattle.std.proofs.lemmas.List.{append-nil, length_push}
use Rattle.std.proofs.lemmas.List.Elements.{All-head, All-tail}
use Rattle.std.proofs.lemmas.List.Folds.{list_all-append}
use Rattle.ss_catalog.specs.Events.{event_name}
use Rattle.ss_catalog.specs.declared.event.Event.{Event}
use Rattle.ss_catalog.specs.declared.event.Event.TheVariants.{Create, Value, Open, Close, Drop}
use Rattle.ss_catalog.specs.declared.refusal.Refusal.{Refusal}
use Rattle.ss_summary.specs.Points.{New, Old, Origin}
use Rattle.ss_model.specs.History.{Happened, added, is_for}
use Rattle.ss_model.specs.Refusals.{IsHistory, refuses, stands}
use Rattle.ss_model.specs.State.{Stream, state, stream_named}
use Rattle.ss_model.proofs.HistoryLemmas.{GoesOn, GoesOn-push, IsHistory_push, by_pushes}
use Rattle.ss_model.proofs.NameLemmas.{same_name-Decides, same_name-same}
use Rattle.ss_model.proofs.StepLemmas.{CanAppend-refuses, CanCloseAt-refuses, CanCreate-refuses, CanOpenAt-refuses}
use Rattle.ss_store.proofs.EventCounts.{named-state}
use Rattle.ss_store.proofs.Refusals.{none_is_some}
use Rattle.ss_frames.specs.Frame.{FrameState}
use Rattle.ss_replica.specs.Fronts.{AreFronts, IsFrameOf, IsFront, IsOfFront, IsPrimary, comes_last, drops_none, is_new_value}
use Rattle.ss_replica.specs.Offers.{added_event, after_offer, after_offers, due_after, due_in, next_offered, offered, offered_as}
use Rattle.ss_replica.specs.Own.{counted, frame_of, own}
use Rattle.ss_replica.specs.declared.judging.Due.{Due}
use Rattle.ss_replica.specs.declared.judging.Due.TheVariants as due
use Rattle.ss_replica.proofs.AlikeLemmas.{IsOfRoom, alike-own, found-own, refuses-alike}
use Rattle.ss_replica.proofs.OwnLemmas.{length-own, own-created, own-last, own-none, own-other, own-some}

-- ---- fronts of lists

IsFront-trans : {X : Type 0} (xs ys zs : List X) → IsFront xs ys → IsFront ys zs → IsFront xs zs
IsFront-trans xs ys zs first second =
    (first.0 ++ second.0, second.1 ∙ ap (λ l. l ++ second.0) first.1 ∙ append_assoc xs first.0 second.0)

same-fronts : {X : Type 0} (xs ys rest other : List X) → xs ++ rest ≡ ys ++ other → length xs ≡ length ys → xs ≡ ys
same-fronts [] [] rest other is same = refl
same-fronts [] (y ∷ ys) rest other is same = absurd (omega arith)
same-fronts (x ∷ xs) [] rest other is same = absurd (omega arith)
same-fronts (x ∷ xs) (y ∷ ys) rest other is same =
    let first : x ≡ y = cc in
    let behind : xs ++ rest ≡ ys ++ other = cc in
    let later = same-fronts xs ys rest other behind (omega arith) in
    cc

-- a front of a list with one more is a front of the list, or all of it
front-push : {X : Type 0} (ys : List X) (y : X) (xs rest : List X) → ys ++ y ∷ [] ≡ xs ++ rest → IsFront xs ys ⊎ (xs ≡ ys ++ y ∷ [])
front-push ys y [] rest is = inl (ys, refl)
front-push [] y (x ∷ []) rest is = let same : y ≡ x = cc in inr (ap (λ z. z ∷ []) (sym same))
front-push [] y (x ∷ z ∷ xs) rest is = cc
front-push (u ∷ us) y (x ∷ xs) rest is =
    let first : u ≡ x = cc in
    let behind : us ++ y ∷ [] ≡ xs ++ rest = cc in
    elim (front-push us y xs rest behind) [
      | inl front ↦ inl (front.0, rw (first, front.1) refl)
      | inr whole ↦ inr (rw (first, whole) refl)
    ]

-- ---- fronts of histories

history-front : (front rest : List Happened) → IsHistory (front ++ rest) → IsHistory front
history-front front rest whole = record {
  said = λ before after e is. whole.said before (after ++ rest) e (ap (λ l. l ++ rest) is ∙ append_assoc before (e ∷ after) rest);
  accepted = λ before after e is. whole.accepted before (after ++ rest) e (ap (λ l. l ++ rest) is ∙ append_assoc before (e ∷ after) rest);
}

abbrev drop_none : List Happened → Bool
drop_none history = list_all (λ (e : Happened). drops_none e.0) history

-- an event of a stream that isn't dropped comes last of what the stream owns
own-comes : (history : List Happened) (event : Event) (origin : Origin) → drops_none event ≡ true → GoesOn history (event, origin) →
    own (history ++ (event, origin) ∷ []) (event_name event) ≡ own history (event_name event) ++ counted origin event ∷ []
own-comes history (Create name params) origin kept on =
    let can = CanCreate-refuses (state history) name params on.accepted in
    let nothing = own-none history name on.before (none_is_some (stream_named name (state history)) can.new) in
    own-created history name params origin ∙ ap (λ owned. owned ++ added (Create name params) ∷ []) (sym nothing)
own-comes history (Value name t v) origin kept on = own-last history (Value name t v) origin name (same_name-same name) refl
own-comes history (Open name t) origin kept on = own-last history (Open name t) origin name (same_name-same name) refl
own-comes history (Close name t) origin kept on = own-last history (Close name t) origin name (same_name-same name) refl
own-comes history (Drop name) origin kept on = cc

-- what a stream owns grows with each event that drops none
own-grows : (history : List Happened) (event : Event) (origin : Origin) (name : List ℕ) → drops_none event ≡ true → GoesOn history (event, origin) →
    IsFront (own history name) (own (history ++ (event, origin) ∷ []) name)
own-grows history event origin name kept on = elim (cases_Bool (is_for name event)) [
  | inl for_it ↦
      (let same : name ≡ event_name event = (same_name-Decides name (event_name event)).0 for_it in
      subst (λ n. IsFront (own history n) (own (history ++ (event, origin) ∷ []) n)) (sym same)
      (counted origin event ∷ [], own-comes history event origin kept on))
  | inr other ↦ ([], own-other history event origin name other ∙ sym (append-nil (own history name)))
]

own-front : (history rest : List Happened) (name : List ℕ) → IsHistory (history ++ rest) → drop_none rest ≡ true →
    IsFront (own history name) (own (history ++ rest) name)
own-front history [] name whole kept = ([], ap (λ h. own h name) (append-nil history) ∙ sym (append-nil (own history name)))
own-front history (e ∷ es) name whole kept =
    let parts = and_parts (drops_none e.0) (drop_none es) kept in
    let regroup : (history ++ e ∷ []) ++ es ≡ history ++ e ∷ es = append_assoc history (e ∷ []) es in
    let then : IsHistory ((history ++ e ∷ []) ++ es) = subst IsHistory (sym regroup) whole in
    let on = GoesOn-push history e (history-front (history ++ e ∷ []) es then) in
    IsFront-trans (own history name) (own (history ++ e ∷ []) name) (own (history ++ e ∷ es) name) (own-grows history e.0 e.1 name parts.0 on)
    (subst (λ h. IsFront (own (history ++ e ∷ []) name) (own h name)) regroup (own-front (history ++ e ∷ []) es name then parts.1))

-- ---- the event of a frame in its primary

-- an event that is new, if it is a value, counts as one that is added
counted-new : (origin : Origin) (event : Event) → is_new_value origin event ≡ true → counted New event ≡ counted origin event
counted-new origin (Create name params) new = refl
counted-new New (Value name t v) new = refl
counted-new Old (Value name t v) new = cc
counted-new origin (Open name t) new = refl
counted-new origin (Close name t) new = refl
counted-new origin (Drop name) new = refl

-- a frame of a primary: its event came to what its stream owned before
record IsPlaced (primary : List Happened) (frame : FrameState) (before : List Happened) (origin : Origin) : Type 0 where
  on : GoesOn before (frame.event, origin)
  kept : drops_none frame.event ≡ true
  new : is_new_value origin frame.event ≡ true
  comes : own (before ++ (frame.event, origin) ∷ []) (event_name frame.event) ≡ own before (event_name frame.event) ++ counted origin frame.event ∷ []
  front : IsFront (own (before ++ (frame.event, origin) ∷ []) (event_name frame.event)) (own primary (event_name frame.event))

placed : (primary : List Happened) (frame : FrameState) (is : IsPrimary primary) (of : IsFrameOf primary frame) → IsPlaced primary frame of.before of.origin
placed primary frame is of =
    let e : Happened = (frame.event, of.origin) in
    let name = event_name frame.event in
    let regroup : (of.before ++ e ∷ []) ++ of.after ≡ of.before ++ e ∷ of.after = append_assoc of.before (e ∷ []) of.after in
    let whole : IsHistory ((of.before ++ e ∷ []) ++ of.after) = subst IsHistory (of.is ∙ sym regroup) is.is_history in
    let on = GoesOn-push of.before e (history-front (of.before ++ e ∷ []) of.after whole) in
    let kept = and_parts (drop_none of.before) (drop_none (e ∷ of.after))
    (sym (list_all-append (λ (x : Happened). drops_none x.0) of.before (e ∷ of.after)) ∙ ap drop_none (sym of.is) ∙ is.undropped) in
    let here = and_parts (drops_none frame.event) (drop_none of.after) kept.1 in
    let news = and_parts (list_all (λ (x : Happened). is_new_value x.1 x.0) of.before) (list_all (λ (x : Happened). is_new_value x.1 x.0) (e ∷ of.after))
    (sym (list_all-append (λ (x : Happened). is_new_value x.1 x.0) of.before (e ∷ of.after))
    ∙ ap (list_all (λ (x : Happened). is_new_value x.1 x.0)) (sym of.is) ∙ is.values) in
    let new = and_parts (is_new_value of.origin frame.event) (list_all (λ (x : Happened). is_new_value x.1 x.0) of.after) news.1 in
    record {
      on = on;
      kept = here.0;
      new = new.0;
      comes = own-comes of.before frame.event of.origin here.0 on;
      front = subst (λ h. IsFront (own (of.before ++ e ∷ []) name) (own h name)) (regroup ∙ sym of.is)
          (own-front (of.before ++ e ∷ []) of.after name whole here.1);
    }

-- the number of the next frame
due-next : (events number : ℕ) → due_after events number ≡ due.Next → number ≡ events + 1
due-next events number is = elim (cases_Bool (nat_le number events)) [
  | inl old ↦ (let wrong : due.Old ≡ due.Next = rw old at is in cc)
  | inr later ↦ elim (cases_Bool (nat_lt (events + 1) number)) [
    | inl gap ↦ (let wrong : due.Gap events ≡ due.Next = rw (later, gap) at is in cc)
    | inr next ↦ grind (arith, nat_tests)
  ]
]

-- ---- a replica, with one more frame

-- a history that owns fronts of what another one does
pub record IsReplica (primary history : List Happened) : Type 0 where
  pub is_history : IsHistory history
  pub fronts : (name : List ℕ) → IsFront (own history name) (own primary name)

-- a stream that doesn't stand owns nothing, which is a front of everything
pub IsReplica-fronts : (primary history : List Happened) → IsHistory history → AreFronts history primary → IsReplica primary history
IsReplica-fronts primary history whole fronts = record {
  is_history = whole;
  fronts = λ name. elim (cases_Bool (stands name (state history))) [
    | inl known ↦ fronts name known
    | inr none ↦
        (let nothing = own-none history name whole (none_is_some (stream_named name (state history)) none) in
        (own primary name, ap (λ owned. owned ++ own primary name) (sym nothing)))
  ];
}

-- the stream of the next frame owns what it owned in the primary before the frame's event
own-before : (primary history : List Happened) (frame : FrameState) (is : IsPrimary primary) (of : IsFrameOf primary frame) → IsReplica primary history →
    due_in history frame ≡ due.Next → own history (event_name frame.event) ≡ own of.before (event_name frame.event)
own-before primary history frame is of replica next =
    let name = event_name frame.event in
    let at = placed primary frame is of in
    let number = due-next (length (own history name)) frame.number next in
    let place = of.number ∙ ap length at.comes in
    let more = length_push (own of.before name) (counted of.origin frame.event) in
    let mine = replica.fronts name in
    let its = IsFront-trans (own of.before name) (own (of.before ++ (frame.event, of.origin) ∷ []) name) (own primary name)
    (counted of.origin frame.event ∷ [], at.comes) at.front in
    same-fronts (own history name) (own of.before name) mine.0 its.0 (sym mine.1 ∙ its.1) (omega (arith, number, place, more))

-- it is refused for room alone
pub refused-room : (primary history : List Happened) (frame : FrameState) → IsPrimary primary → IsFrameOf primary frame → IsReplica primary history →
    due_in history frame ≡ due.Next → (r : Refusal) → refuses (state history) frame.event ≡ Some r → IsOfRoom r
refused-room primary history frame is of replica next r why =
    let at = placed primary frame is of in
    refuses-alike (state history) (state of.before) frame.event at.kept
    (found-own history of.before (event_name frame.event) replica.is_history at.on.before (own-before primary history frame is of replica next))
    at.on.accepted r why

-- where it isn't refused, the replica goes on
replica-goes_on : (primary history : List Happened) (frame : FrameState) → IsPrimary primary → IsFrameOf primary frame → IsReplica primary history →
    due_in history frame ≡ due.Next → refuses (state history) frame.event ≡ None → IsReplica primary (history ++ added frame.event ∷ [])
replica-goes_on primary history frame is of replica next none =
    let at = placed primary frame is of in
    let event = frame.event in
    let on : GoesOn history (added event) = record { before = replica.is_history; said = at.on.said; accepted = none } in
    let mine : own (history ++ added event ∷ []) (event_name event) ≡ own (of.before ++ (event, of.origin) ∷ []) (event_name event) =
    own-comes history event New at.kept on
    ∙ ap (λ owned. owned ++ counted New event ∷ []) (own-before primary history frame is of replica next)
    ∙ ap (λ e. own of.before (event_name event) ++ e ∷ []) (counted-new of.origin event at.new) ∙ sym at.comes in
    record {
      is_history = IsHistory_push history (added event) on;
      fronts = λ name. elim (cases_Bool (is_for name event)) [
        | inl for_it ↦
            (let same : name ≡ event_name event = (same_name-Decides name (event_name event)).0 for_it in
            subst (λ n. IsFront (own (history ++ added event ∷ []) n) (own primary n)) (sym same)
            (subst (λ owned. IsFront owned (own primary (event_name event))) (sym mine) at.front))
        | inr other ↦ subst (λ owned. IsFront owned (own primary name)) (sym (own-other history event New name other)) (replica.fronts name)
      ];
    }

replica-same : (primary history : List Happened) → IsReplica primary history → IsReplica primary (history ++ [])
replica-same primary history replica = subst (IsReplica primary) (sym (append-nil history)) replica

module _ (primary history : List Happened) (frame : FrameState) (is : IsPrimary primary) (of : IsFrameOf primary frame)
    (replica : IsReplica primary history) where
  replica-next : due_in history frame ≡ due.Next → (o : Option Refusal) → refuses (state history) frame.event ≡ o →
      IsReplica primary (history ++ added_event (next_offered o history frame.event).event)
  replica-next next None none = replica-goes_on primary history frame is of replica next none
  replica-next next (Some r) why = replica-same primary history replica

  replica-due : (d : Due) → due_in history frame ≡ d → IsReplica primary (history ++ added_event (offered_as d history frame.event).event)
  replica-due due.Old next = replica-same primary history replica
  replica-due (due.Gap events) next = replica-same primary history replica
  replica-due due.Next next = replica-next next (refuses (state history) frame.event) refl

  pub replica-offer : IsReplica primary (after_offer history frame)
  replica-offer = replica-due (due_in history frame) refl

pub replica-offers : (primary history : List Happened) (frames : List FrameState) → IsPrimary primary → All (IsFrameOf primary) frames →
    IsReplica primary history → IsReplica primary (after_offers history frames)
replica-offers primary history [] is of replica = replica
replica-offers primary history (frame ∷ frames) is of replica =
    replica-offers primary (after_offer history frame) frames is (All-tail (IsFrameOf primary) frame frames of)
    (replica-offer primary history frame is (All-head (IsFrameOf primary) frame frames of) replica)

-- ---- what is said to it

-- a frame is refused where it is the next, and its event is
record IsRefusedNext (history : List Happened) (frame : FrameState) (r : Refusal) : Type 0 where
  next : due_in history frame ≡ due.Next
  why : refuses (state history) frame.event ≡ Some r

refused-as : (history : List Happened) (frame : FrameState) (r : Refusal) (d : Due) (o : Option Refusal) → due_in history frame ≡ d →
    refuses (state history) frame.event ≡ o → (offered_as d history frame.event).reply ≡ Err r → IsRefusedNext history frame r
refused-as history frame r due.Old o is why said = cc
refused-as history frame r (due.Gap events) o is why said = cc
refused-as history frame r due.Next None is why said =
    (let wrong : (next_offered None history frame.event).reply ≡ Err r = ap (λ x. (next_offered x history frame.event).reply) (sym why) ∙ said in cc)
refused-as history frame r due.Next (Some q) is why said =
    let here : (next_offered (Some q) history frame.event).reply ≡ Err r = ap (λ x. (next_offered x history frame.event).reply) (sym why) ∙ said in
    let same : q ≡ r = cc in
    record { next = is; why = why ∙ ap Some same }

pub refused-offer : (primary history : List Happened) (frame : FrameState) (r : Refusal) → IsPrimary primary → IsFrameOf primary frame →
    IsReplica primary history → (offered history frame).reply ≡ Err r → IsOfRoom r
refused-offer primary history frame r is of replica said =
    let why = refused-as history frame r (due_in history frame) (refuses (state history) frame.event) refl refl said in
    refused-room primary history frame is of replica why.next r why.why

-- ---- the streams of a replica

-- a front of a history where a stream owns this
record IsOwnedAt (history : List Happened) (name : List ℕ) (owned : List Happened) : Type 0 where
  front : List Happened
  is_front : IsFront front history
  owns : own front name ≡ owned

abbrev HasFronts : List Happened → Type 0
HasFronts history = IsHistory history → drop_none history ≡ true → (name : List ℕ) (owned : List Happened) → IsFront owned (own history name) →
    IsOwnedAt history name owned

further : (history : List Happened) (e : Happened) (name : List ℕ) (owned : List Happened) → IsOwnedAt history name owned →
    IsOwnedAt (history ++ e ∷ []) name owned
further history e name owned at = record {
  front = at.front;
  is_front = IsFront-trans at.front history (history ++ e ∷ []) at.is_front (e ∷ [], refl);
  owns = at.owns;
}

fronts-own : (history : List Happened) (e : Happened) (owned : List Happened) → drops_none e.0 ≡ true → GoesOn history e →
    ((front : IsFront owned (own history (event_name e.0))) → IsOwnedAt history (event_name e.0) owned) →
    IsFront owned (own (history ++ e ∷ []) (event_name e.0)) → IsOwnedAt (history ++ e ∷ []) (event_name e.0) owned
fronts-own history e owned kept on before front =
    let name = event_name e.0 in
    elim (front-push (own history name) (counted e.1 e.0) owned front.0 (sym (own-comes history e.0 e.1 kept on) ∙ front.1)) [
      | inl earlier ↦ further history e name owned (before earlier)
      | inr whole ↦
          record {
            front = history ++ e ∷ [];
            is_front = ([], sym (append-nil (history ++ e ∷ [])));
            owns = own-comes history e.0 e.1 kept on ∙ sym whole;
          }
    ]

fronts-push : (history : List Happened) (e : Happened) → HasFronts history → HasFronts (history ++ e ∷ [])
fronts-push history e before whole kept name owned front =
    let on = GoesOn-push history e whole in
    let parts = and_parts (drop_none history) (drop_none (e ∷ [])) (sym (list_all-append (λ (x : Happened). drops_none x.0) history (e ∷ [])) ∙ kept) in
    let last = and_parts (drops_none e.0) true parts.1 in
    elim (cases_Bool (is_for name e.0)) [
      | inl for_it ↦
          (let same : name ≡ event_name e.0 = (same_name-Decides name (event_name e.0)).0 for_it in
          subst (λ n. IsOwnedAt (history ++ e ∷ []) n owned) (sym same)
          (fronts-own history e owned last.0 on (before on.before parts.0 (event_name e.0) owned)
          (subst (λ n. IsFront owned (own (history ++ e ∷ []) n)) same front)))
      | inr other ↦
          further history e name owned
          (before on.before parts.0 name owned (subst (λ l. IsFront owned l) (own-other history e.0 e.1 name other) front))
    ]

none-front : (owned : List Happened) → IsFront owned [] → [] ≡ owned
none-front [] front = refl
none-front (e ∷ es) front = let wrong : [] ≡ e ∷ (es ++ front.0) = front.1 in cc

has-fronts : (history : List Happened) → HasFronts history
has-fronts history =
    by_pushes HasFronts fronts-push [] history
    (λ whole kept name owned front. record { front = []; is_front = ([], refl); owns = none-front owned front })

-- a stream that owns something stands
stands-own : (history : List Happened) (name : List ℕ) (e : Happened) (es : List Happened) → IsHistory history → own history name ≡ e ∷ es →
    (o : Option Stream) → stream_named name (state history) ≡ o → stands name (state history) ≡ true
stands-own history name e es whole owns None is = let wrong : [] ≡ e ∷ es = sym (own-none history name whole is) ∙ owns in cc
stands-own history name e es whole owns (Some s) is = rw is refl

-- each stream of a replica is like that of its name after a front of the primary
pub of_front : (primary history : List Happened) (name : List ℕ) (s : Stream) → IsPrimary primary → IsReplica primary history →
    stream_named name (state history) ≡ Some s → IsOfFront primary name s
of_front primary history name s is replica found =
    let at = has-fronts primary is.is_history is.undropped name (own history name) (replica.fronts name) in
    let whole : IsHistory at.front = history-front at.front at.is_front.0 (subst IsHistory at.is_front.1 is.is_history) in
    let known = stands-own at.front name (added _) (_) whole (at.owns ∙ own-some history name s replica.is_history found)
    (stream_named name (state at.front)) refl in
    let there = named-state at.front name whole known in
    record {
      front = at.front;
      is_front = at.is_front;
      stream = there.stream;
      stands = there.found;
      alike = alike-own history at.front name replica.is_history whole (sym at.owns) s there.stream found there.found;
    }

-- ---- the frames of events

pub number-frame : (history : List Happened) (event : Event) → drops_none event ≡ true → IsHistory (history ++ added event ∷ []) →
    (frame_of history event).number ≡ length (own history (event_name event)) + 1
number-frame history event kept whole =
    ap length (own-comes history event New kept (GoesOn-push history (added event) whole))
    ∙ length_push (own history (event_name event)) (counted New event)

next-due : (events number : ℕ) → number ≡ events + 1 → due_after events number ≡ due.Next
next-due events number is =
    let later : nat_le number events ≡ false = grind (arith, nat_tests) in
    let next : nat_lt (events + 1) number ≡ false = grind (arith, nat_tests) in
    rw (later, next) refl

pub due-frame : (history : List Happened) (event : Event) → drops_none event ≡ true → IsHistory (history ++ added event ∷ []) →
    due_in history (frame_of history event) ≡ due.Next
due-frame history event kept whole =
    next-due (length (own history (event_name event))) (frame_of history event).number (number-frame history event kept whole)

-- an event that comes last is one of a stream that stands
known-last : (history : List Happened) (event : Event) → comes_last event ≡ true → GoesOn history (added event) →
    stands (event_name event) (state history) ≡ true
known-last history (Create name params) last on = cc
known-last history (Value name t v) last on = (CanAppend-refuses (state history) name t v on.accepted).known
known-last history (Open name t) last on = (CanOpenAt-refuses (state history) name t on.accepted).known
known-last history (Close name t) last on = (CanCloseAt-refuses (state history) name t on.accepted).known
known-last history (Drop name) last on = cc

drops_none-last : (event : Event) → comes_last event ≡ true → drops_none event ≡ true
drops_none-last (Create name params) last = refl
drops_none-last (Value name t v) last = refl
drops_none-last (Open name t) last = refl
drops_none-last (Close name t) last = refl
drops_none-last (Drop name) last = cc

pub later-frame : (history : List Happened) (event : Event) → comes_last event ≡ true → IsHistory (history ++ added event ∷ []) →
    2 ≤ (frame_of history event).number
later-frame history event last whole =
    let on = GoesOn-push history (added event) whole in
    let name = event_name event in
    let at = named-state history name on.before (known-last history event last on) in
    let some = length-own history name at.stream on.before at.found in
    let number = number-frame history event (drops_none-last event last) whole in
    omega (arith, some, number)
