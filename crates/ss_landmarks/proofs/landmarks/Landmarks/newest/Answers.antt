use Rattle.std.proofs.Common.{◌≡◌, ◌∙◌, ◌-◌, List, length, slice_get, Some, None, ap, sym, ℕ, ℤ}
use Rattle.std.specs.Option.{option_copied}
use Rattle.std.specs.Prelude.{option_map}
use Rattle.std.proofs.lemmas.Option.{slice_get_within}
use Rattle.ss_landmarks.specs.Landmark.{LandmarkValue}
use Rattle.ss_landmarks.specs.Newest.{newest_value}
use Rattle.ss_landmarks.specs.Landmarks.{LandmarksState}
use Rattle.ss_landmarks.specs.declared.stored.StoredValue.{StoredValue}
use Rattle.ss_landmarks.proofs.PlaceLemmas.{newest_value-none, newest_value-seen, slice_get-seen}
use Rattle.ss_landmarks.proofs.landmarks.Landmarks.newest.Goals as goal

abbrev pair : LandmarkValue → ℕ × ℤ
pair value = (value.t, value.v)

pub returns-in_err-value : goal.returns-in_err-value
returns-in_err-value c =
    let held = c.self.inside in
    let none : slice_get held.values.items (length held.values.items - 1) ≡ None =
    ap (λ (values : List StoredValue). slice_get values (length values - 1)) (sym c.deref.ensures.value) ∙ sym c.last.ensures.value ∙
    ap option_copied c.in_err-value.was in
    c.from_residual.ensures
    ∙ sym (ap (option_map pair) (newest_value-none held.closed.items held.current held.values.items c.self.invariant.0 none))
    ∙ ap (λ (state : LandmarksState). option_map pair (newest_value state.landmarks)) c.self.view_is

pub returns : goal.returns
returns c =
    let held = c.self.inside in
    let values = held.values.items in
    let some : slice_get values (length values - 1) ≡ Some c.in_ok-value.value.now =
    ap (λ (values : List StoredValue). slice_get values (length values - 1)) (sym c.deref.ensures.value) ∙ sym c.last.ensures.value ∙
    ap option_copied c.in_ok-value.was in
    let below = slice_get_within values (length values - 1) c.in_ok-value.value.now some in
    let newest = newest_value-seen held.closed.items held.current values c.self.invariant.0
    ∙ slice_get-seen held.closed.items held.current values c.self.invariant.0 (length values - 1) c.in_ok-value.value.now below some in
    sym (ap (option_map pair) newest) ∙ ap (λ (state : LandmarksState). option_map pair (newest_value state.landmarks)) c.self.view_is
