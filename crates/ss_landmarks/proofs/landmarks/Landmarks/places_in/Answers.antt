use Rattle.std.proofs.Common.{◌≡◌, ◌∙◌, ◌+◌, ◌-◌, ◌≤◌, length, take, drop, ap, arith}
use Rattle.ss_landmarks.specs.Landmark.{all_values}
use Rattle.ss_landmarks.specs.Landmarks.{LandmarksState}
use Rattle.ss_landmarks.specs.ValuesIn.{values_between}
use Rattle.ss_landmarks.proofs.PlaceLemmas.{length-between, length-seen, stored-rises, values_between-seen}
use Rattle.ss_landmarks.proofs.landmarks.Landmarks.places_in.Goals as goal

pub places_in-from-requires : goal.places_in-from-requires
places_in-from-requires c =
    let held = c.self.inside in
    rw c.deref.ensures.value (stored-rises held.closed.items held.current held.values.items c.self.invariant.0)

between : (c : goal.After-places_in-from) → values_between c.args.self.now.landmarks c.args.a c.args.b ≡
    take (c.places_in-from.result.1 - c.places_in-from.result.0) (drop c.places_in-from.result.0 (all_values c.args.self.now.landmarks))
between c =
    let held = c.self.inside in
    let from = c.places_in-from.result.0 in
    let count = c.places_in-from.result.1 - from in
    rw (← c.self.view_is) (values_between-seen held.closed.items held.current held.values.items c.self.invariant.0 c.args.a c.args.b from count
    (rw c.deref.ensures.value at c.places_in-from.ensures.values))

pub returns-clause-values : goal.returns-clause-values
returns-clause-values c = between c

pub returns-clause-count : goal.returns-clause-count
returns-clause-count c =
    let held = c.self.inside in
    let from = c.places_in-from.result.0 in
    let count = c.places_in-from.result.1 - from in
    let within : from + count ≤ length held.values.items =
    omega (arith, c.places_in-from.ensures.order, c.places_in-from.ensures.within, c.deref.ensures.len) in
    let seen = rw (← c.self.view_is) at (between c) in
    length-between held.closed.items held.current held.values.items c.self.invariant.0 c.args.a c.args.b from count within seen
    ∙ ap (λ (state : LandmarksState). length (values_between state.landmarks c.args.a c.args.b)) c.self.view_is

pub returns-clause-within : goal.returns-clause-within
returns-clause-within c =
    let held = c.self.inside in
    omega (
      arith,
      c.places_in-from.ensures.order,
      c.places_in-from.ensures.within,
      c.deref.ensures.len,
      length-seen held.closed.items held.current held.values.items c.self.invariant.0,
      ap (λ (state : LandmarksState). length (all_values state.landmarks)) c.self.view_is,
    )
