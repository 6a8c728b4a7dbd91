use Rattle.std.proofs.Common.{◌≡◌, ◌∙◌, ap, ℤ, [], ◌∷◌, ◌++◌, length, map, is_ok, arith}
use Rattle.std.proofs.lemmas.Bool.{cond-true}
use Rattle.std.proofs.lemmas.List.{map_push, length_push}
use Rattle.std.specs.Int.{w64}
use Rattle.std.proofs.lemmas.Int.{to_z-of_z}
use mir.Val.{to_z, of_z}
use Rattle.ss_landmarks.specs.Landmark.{LandmarkValue, with_value, change_last}
use Rattle.ss_landmarks.specs.Landmarks.{LandmarksState}
use Rattle.ss_landmarks.specs.Stored.{bare_value, landmarks_from}
use Rattle.ss_landmarks.proofs.StepLemmas.{AreStored-take, landmarks_of_push}
use Rattle.ss_landmarks.proofs.landmarks.Landmarks.add.Goals as goal

pub invariant_of-self : goal.invariant_of-self
invariant_of-self c =
    let held = c.self.inside in
    let values = map bare_value held.values.items in
    let value : LandmarkValue = record { t = c.args.t; v = c.args.v } in
    let can = rw (← c.self.view_is) at c.requires.after in
    let pushed = c.push.ensures.items ∙ cond-true (is_ok c.push.result) _ _ (ap is_ok c.unwrap.ensures) in
    let same : to_z w64 (of_z w64 c.args.v) ≡ c.args.v = to_z-of_z w64 c.args.v c.ranges.v in
    let seen : map bare_value c.push.new.self.items ≡ values ++ value ∷ [] =
    ap (map bare_value) pushed ∙ map_push bare_value held.values.items _ ∙
    ap (λ (v : ℤ). let new : LandmarkValue = record { t = c.args.t; v = v } in values ++ new ∷ []) same in
    let room = ap (λ (state : LandmarksState). state.value_room) c.self.view_is in (
      rw seen (AreStored-take held.closed.items held.current values value c.self.invariant.0 can c.requires.time c.ranges.v),
      c.self.invariant.1,
      record {
        fits = omega (
          arith,
          ap length pushed,
          length_push held.values.items
              (record { t = c.args.t; v = to_z w64 (of_z w64 c.args.v); slot = c.args.slot }),
          c.self.invariant.2.fits,
          c.requires.room,
          room,
          c.push.ensures.capacity,
        );
        most = omega (
          arith,
          ap length pushed,
          length_push held.values.items
              (record { t = c.args.t; v = to_z w64 (of_z w64 c.args.v); slot = c.args.slot }),
          c.self.invariant.2.most,
          c.requires.room,
          room,
        );
      },
    )

pub returns-clause-landmarks : goal.returns-clause-landmarks
returns-clause-landmarks c =
    let held = c.self.inside in
    let values = map bare_value held.values.items in
    let value : LandmarkValue = record { t = c.args.t; v = c.args.v } in
    let can = rw (← c.self.view_is) at c.requires.after in
    let pushed = c.push.ensures.items ∙ cond-true (is_ok c.push.result) _ _ (ap is_ok c.unwrap.ensures) in
    let same : to_z w64 (of_z w64 c.args.v) ≡ c.args.v = to_z-of_z w64 c.args.v c.ranges.v in
    let seen : map bare_value c.push.new.self.items ≡ values ++ value ∷ [] =
    ap (map bare_value) pushed ∙ map_push bare_value held.values.items _ ∙
    ap (λ (v : ℤ). let new : LandmarkValue = record { t = c.args.t; v = v } in values ++ new ∷ []) same in
    ap (landmarks_from held.closed.items held.current) seen
    ∙ landmarks_of_push held.closed.items held.current values value c.self.invariant.0 can
    ∙ ap (λ (state : LandmarksState). change_last (with_value value) state.landmarks) c.self.view_is
