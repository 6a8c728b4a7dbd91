use Rattle.std.proofs.Common.{ap, length, map, arith}
use Rattle.std.proofs.lemmas.List.{length-map}
use Rattle.ss_landmarks.specs.Landmarks.{LandmarksState}
use Rattle.ss_landmarks.specs.Landmark.{all_values}
use Rattle.ss_landmarks.specs.Stored.{bare_value, AreStored}
use Rattle.ss_landmarks.proofs.HeldLemmas.{length-landmarks_from, all_values-landmarks_from}
use Rattle.ss_landmarks.proofs.landmarks.Landmarks.reserve.Goals as goal

pub invariant_of-self-2 : goal.invariant_of-self-2
invariant_of-self-2 c =
    let held = c.self.inside in
    let values = map bare_value held.values.items in
    let stored = c.self.invariant.0 in
    let kept : AreStored c.reserve.new.self.items held.current (map bare_value c.reserve-2.new.self.items) =
    rw (c.reserve-2.ensures.items, c.reserve.ensures.items) stored in
    let count = ap (λ (state : LandmarksState). length state.landmarks) c.self.view_is in
    let value_count = ap (λ (state : LandmarksState). length (all_values state.landmarks)) c.self.view_is in
    let all = ap length (all_values-landmarks_from held.closed.items held.current values stored.shared) in (
      kept,
      record {
        fits = omega (arith, c.in_ok-reserve.ensures.ok, c.one_open.ensures, c.reserve.ensures.len);
        most = omega (
          arith,
          c.self.invariant.1.most,
          c.max-room.ensures,
          c.requires.landmarks,
          count,
          length-landmarks_from held.closed.items
              held.current values,
          c.reserve.ensures.len,
        );
      },
      record {
        fits = omega (arith, c.in_ok-reserve-2.ensures.ok, c.reserve-2.ensures.len);
        most = omega (
          arith,
          c.self.invariant.2.most,
          c.max-value_room.ensures,
          c.requires.values,
          value_count,
          all,
          length-map held.values.items
              bare_value,
          c.reserve-2.ensures.len,
        );
      },
    )
