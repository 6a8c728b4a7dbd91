use Rattle.ss_stream.proofs.OpenMarks.{CanMark-accepted}
use Rattle.ss_store.proofs.Common.{◌≡◌, ◌∙◌, true, List, ℕ, Option, refl, ap, arith, slice_get, Refusal, has_open, StreamParts, StoreState, held_parts}
use Rattle.ss_store.proofs.Common.{has_all_records, live_held}
use Rattle.ss_store.proofs.Common.{of_part, refuses_held, IsInOpen, event_of, mark_refusal, slot_refusal, Mark}
use Rattle.ss_store.proofs.Among.{Marks-at}
use Rattle.ss_store.proofs.Found.{IsAtPlace-found, inside-found, none-found}
use Rattle.ss_store.proofs.LiveCounts.{few-marks, live_count-slots}
use Rattle.ss_store.proofs.Named.{IsAtPlace}
use Rattle.ss_store.proofs.Refusals.{or_else, refuses_held-mark, refuses_held-unmarked}
use Rattle.ss_store.proofs.store.Store.marker.Goals as goal

pub returns-in_default-clause-refused : goal.returns-in_default-clause-refused
returns-in_default-clause-refused c =
    refuses_held-unmarked c.args.self.now.streams c.args.name.now c.args.t c.args.mark
    (none-found c.args.self.now.streams c.args.name.now c.in_default.is c.requires.found)

pub index-requires : goal.index-requires
index-requires c =
    let inside = inside-found c.self.inside.streams.items c.args.name.now (ap (λ (s : StoreState). s.streams) c.self.view_is) c.in-Some.is c.requires.found in
    omega (arith, inside)

-- a landmark of the stream is open where a value is the open one's
begun-part : (store : StoreState) (name : List ℕ) (mark : Mark) (place : ℕ) (part : StreamParts) → IsAtPlace name place store.streams part →
    (IsInOpen mark → of_part name store.streams (λ part. has_open part.landmarks.landmarks) ≡ true) → IsInOpen mark → has_open part.landmarks.landmarks ≡ true
begun-part store name mark place part at marked own = rw at.named at (marked own)

-- what is judged of the stream of the name
judged : (store : StoreState) (name : List ℕ) (t : ℕ) (mark : Mark) (place : ℕ) (part : StreamParts) (why : Option Refusal) →
    IsAtPlace name place store.streams part → (IsInOpen mark → of_part name store.streams (λ part. has_open part.landmarks.landmarks) ≡ true) →
    or_else (mark_refusal part t mark) (slot_refusal mark (has_all_records (live_held store.streams))) ≡ why →
    refuses_held store.streams (event_of name t mark) ≡ why
judged store name t mark place part why at marked is =
    refuses_held-mark store.streams name t mark part (has_all_records (live_held store.streams)) at.named
    (λ own. begun-part store name mark place part at marked own) refl ∙ is

pub returns-in-Some-refuses-clause-refused : goal.returns-in-Some-refuses-clause-refused
returns-in-Some-refuses-clause-refused c =
    let is = IsAtPlace-found c.self.inside.streams.items c.args.name.now
    (ap (λ (s : StoreState). s.streams) c.self.view_is) c.in-Some.is c.requires.found c.index.ensures in
    judged c.args.self.now c.args.name.now c.args.t c.args.mark c.in-Some.place c.index.result.now.part _ is c.requires.marked
    (ap (λ o. or_else o (slot_refusal c.args.mark (has_all_records (live_held c.args.self.now.streams)))) c.in-Some-refuses.ensures.some)

pub returns-in-Some-slot_for-clause-accepted : goal.returns-in-Some-slot_for-clause-accepted
returns-in-Some-slot_for-clause-accepted c =
    let is = IsAtPlace-found c.self.inside.streams.items c.args.name.now
    (ap (λ (s : StoreState). s.streams) c.self.view_is) c.in-Some.is c.requires.found c.index.ensures in
    judged c.args.self.now c.args.name.now c.args.t c.args.mark c.in-Some.place c.index.result.now.part _ is c.requires.marked
    (ap (λ o. or_else o (slot_refusal c.args.mark (has_all_records (live_held c.args.self.now.streams)))) c.in_default-refuses.ensures.none
    ∙ c.in-Some-slot_for.ensures.some)

pub returns-in-None-clause-refused : goal.returns-in-None-clause-refused
returns-in-None-clause-refused c =
    let is = IsAtPlace-found c.self.inside.streams.items c.args.name.now
    (ap (λ (s : StoreState). s.streams) c.self.view_is) c.in-Some.is c.requires.found c.index.ensures in
    judged c.args.self.now c.args.name.now c.args.t c.args.mark c.in-Some.place c.index.result.now.part _ is c.requires.marked
    (ap (λ o. or_else o (slot_refusal c.args.mark (has_all_records (live_held c.args.self.now.streams)))) c.in_default-refuses.ensures.none
    ∙ c.in-None.ensures.none refl)

pub returns-in-Some-slot_for-clause-marker : goal.returns-in-Some-slot_for-clause-marker
returns-in-Some-slot_for-clause-marker c =
    let parts = held_parts c.self.inside.streams.items in
    let part = c.index.result.now.part in
    let streams = ap (λ (s : StoreState). s.streams) c.self.view_is in
    let is = IsAtPlace-found c.self.inside.streams.items c.args.name.now streams c.in-Some.is c.requires.found c.index.ensures in
    let at = ap (λ l. slice_get l c.in-Some.place) streams ∙ is.at in
    let whole = c.self.invariant.0.whole (ap (λ (s : StoreState). s.stopped) c.self.view_is ∙ c.requires.runs) in
    let ends = (Marks-at parts c.self.inside.records.live c.in-Some.place part whole at).1 in
    let all = live_count-slots parts c.self.inside.records.live whole in
    record {
      part = part;
      named = is.named;
      at = is.at;
      accepted = c.in_default-refuses.ensures.none;
      can = CanMark-accepted part c.args.t c.args.mark ends
          (λ own. begun-part c.args.self.now c.args.name.now c.args.mark c.in-Some.place part is c.requires.marked own) c.in_default-refuses.ensures.none;
      in_slot = c.in-Some-slot_for.ensures.in_slot;
      low = c.in-Some-slot_for.ensures.low;
      few = few-marks parts c.in-Some.place part at (omega (arith, all, c.live-live.ensures.most, c.live-live.ensures.value));
    }
