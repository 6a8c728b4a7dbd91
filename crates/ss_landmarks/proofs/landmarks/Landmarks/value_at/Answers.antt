use Rattle.std.proofs.Common.{◌∙◌, ◌<◌, length, Some, ap, sym, arith}
use Rattle.std.proofs.lemmas.Option.{slice_get-get_or}
use Rattle.ss_landmarks.specs.Landmark.{all_values}
use Rattle.ss_landmarks.specs.Landmarks.{LandmarksState}
use Rattle.ss_landmarks.proofs.PlaceLemmas.{length-seen, slice_get-seen}
use Rattle.ss_landmarks.proofs.landmarks.Landmarks.value_at.Goals as goal

pub index-value-requires : goal.index-value-requires
index-value-requires c =
    let held = c.self.inside in
    omega (
      arith,
      c.requires,
      length-seen held.closed.items held.current held.values.items c.self.invariant.0,
      ap (λ (state : LandmarksState). length (all_values state.landmarks)) c.self.view_is,
    )

pub returns : goal.returns
returns c =
    let held = c.self.inside in
    let value = c.index-value.result.now in
    let inside : c.args.place < length held.values.items =
    omega (
      arith,
      c.requires,
      length-seen held.closed.items held.current held.values.items c.self.invariant.0,
      ap (λ (state : LandmarksState). length (all_values state.landmarks)) c.self.view_is,
    ) in
    let is = slice_get-get_or held.values.items c.args.place value inside ∙ ap Some (sym c.index-value.ensures) in
    rw (← c.self.view_is) (slice_get-seen held.closed.items held.current held.values.items c.self.invariant.0 c.args.place value inside is)
