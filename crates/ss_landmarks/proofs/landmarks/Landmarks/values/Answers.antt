use Rattle.std.proofs.Common.{ap, length, map, arith}
use Rattle.std.proofs.lemmas.List.{length-map}
use Rattle.ss_landmarks.specs.Landmark.{all_values}
use Rattle.ss_landmarks.specs.Landmarks.{LandmarksState}
use Rattle.ss_landmarks.specs.Stored.{bare_value}
use Rattle.ss_landmarks.specs.declared.stored.StoredValue.{StoredValue}
use Rattle.ss_landmarks.proofs.HeldLemmas.{all_values-landmarks_from}
use Rattle.ss_landmarks.proofs.StepLemmas.{AreKnown-stored}
use Rattle.ss_landmarks.proofs.landmarks.Landmarks.values.Goals as goal

pub returns-clause-value : goal.returns-clause-value
returns-clause-value c =
    let held = c.self.inside in
    let all = ap length (all_values-landmarks_from held.closed.items held.current (map bare_value held.values.items) c.self.invariant.0.shared) in
    omega (
      arith,
      c.len.ensures,
      all,
      length-map held.values.items bare_value,
      ap (λ (state : LandmarksState). length (all_values state.landmarks))
          c.self.view_is,
    )

pub returns-clause-state : goal.returns-clause-state
returns-clause-state c =
    let held = c.self.inside in
    rw c.self.view_is at
    (AreKnown-stored held.closed.items held.current (map bare_value held.values.items) (map (λ (value : StoredValue). value.slot) held.values.items)
    held.room held.value_room c.self.invariant.0
    (omega (arith, length-map held.values.items (λ (value : StoredValue). value.slot), length-map held.values.items bare_value))
    (omega (arith, c.self.invariant.1.most)) (omega (arith, c.self.invariant.2.most, length-map held.values.items bare_value)))
