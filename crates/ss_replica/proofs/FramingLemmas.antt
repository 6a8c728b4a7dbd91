-- The frame of the event that comes last in a history is a valid one.
use Rattle.std.proofs.Common.{◌≡◌, ◌^◌, ◌<◌, ◌≤◌, true, List, [], ◌∷◌, ◌++◌, length, None, Some, refl, ap, arith}
use Rattle.std.proofs.lemmas.Bool.{cond-true}
use Rattle.std.proofs.lemmas.List.{length-append}
use Rattle.ss_catalog.specs.Events.{event_name}
use Rattle.ss_catalog.specs.Names.{is_name}
use Rattle.ss_catalog.specs.Params.{step_number}
use Rattle.ss_catalog.specs.declared.event.Event.{Event}
use Rattle.ss_catalog.specs.declared.event.Event.TheVariants.{Create, Value, Open, Close, Drop}
use Rattle.ss_codec.proofs.RecordLemmas.{test-small}
use Rattle.ss_frames.specs.Frame.{FrameState, IsValidFrame, checked_frame, is_valid_frame}
use Rattle.ss_frames.proofs.FrameLemmas.{test-IsValidFrame}
use Rattle.ss_model.specs.History.{Happened, added}
use Rattle.ss_model.specs.Refusals.{IsHistory}
use Rattle.ss_model.specs.State.{state}
use Rattle.ss_model.proofs.HistoryLemmas.{GoesOn-push}
use Rattle.ss_model.proofs.NameLemmas.{same_name-same}
use Rattle.ss_model.proofs.StepLemmas.{CanCreate-refuses}
use Rattle.ss_summary.specs.Points.{New}
use Rattle.ss_replica.specs.Own.{counted, event_frame, frame_of, own, step_of_event}
use Rattle.ss_replica.specs.Fronts.{comes_last}
use Rattle.ss_replica.proofs.OwnLemmas.{named-changed, own-created, own-last, own-some}

-- an event that neither creates nor drops its stream comes after the create
two-owned : (history : List Happened) (event : Event) → IsHistory (history ++ added event ∷ []) → comes_last event ≡ true →
    2 ≤ length (own (history ++ added event ∷ []) (event_name event))
two-owned history event whole last =
    let name = event_name event in
    let on = GoesOn-push history (added event) whole in
    let changed = named-changed history event New last on in
    let is = ap length (own-last history event New name (same_name-same name) last) in
    let was = ap length (own-some history name changed.was on.before changed.found_was) in
    omega (arith, is, was, length-append (own history name) (counted New event ∷ []))

checked-valid : (f : FrameState) → IsValidFrame f.number f.event → checked_frame f ≡ Some f
checked-valid f valid = cond-true (is_valid_frame f.number f.event) (Some f) None (test-IsValidFrame f.number f.event valid)

-- so it is the one that its event has
pub checked-last : (history : List Happened) (event : Event) → IsHistory (history ++ added event ∷ []) → is_name (event_name event) ≡ true →
    step_of_event event < 2 ^ 32 → length (own (history ++ added event ∷ []) (event_name event)) < 2 ^ 64 →
    checked_frame (frame_of history event) ≡ event_frame history event
unfolding is_valid_frame
checked-last history (Create name params) whole named small few =
    let can = CanCreate-refuses (state history) name params (GoesOn-push history (added (Create name params)) whole).accepted in
    checked-valid (frame_of history (Create name params))
    (ap length (own-created history name params New), named, can.target, test-small (step_number params.within) small)
checked-last history (Value name t v) whole named small few =
    let said = (GoesOn-push history (added (Value name t v)) whole).said in
    checked-valid (frame_of history (Value name t v)) ((two-owned history (Value name t v) whole refl, few), named, said.0, said.1)
checked-last history (Open name t) whole named small few =
    let said = (GoesOn-push history (added (Open name t)) whole).said in
    checked-valid (frame_of history (Open name t)) ((two-owned history (Open name t) whole refl, few), named, said)
checked-last history (Close name t) whole named small few =
    let said = (GoesOn-push history (added (Close name t)) whole).said in
    checked-valid (frame_of history (Close name t)) ((two-owned history (Close name t) whole refl, few), named, said)
checked-last history (Drop name) whole named small few = refl
