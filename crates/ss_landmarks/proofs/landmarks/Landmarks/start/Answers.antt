use Rattle.std.proofs.Common.{◌≡◌, ◌∙◌, ap, sym, List, [], ◌∷◌, ◌++◌, length, map, Option, None, arith}
use Rattle.std.proofs.lemmas.List.{length-map}
use Rattle.ss_landmarks.specs.Landmark.{opened_at}
use Rattle.ss_landmarks.specs.Landmarks.{LandmarksState}
use Rattle.ss_landmarks.specs.Stored.{bare_value, landmarks_from, slots_of, one_open, free_before}
use Rattle.ss_landmarks.specs.declared.stored.Closed.{Closed}
use Rattle.ss_landmarks.specs.declared.stored.Opened.{Opened}
use Rattle.ss_landmarks.proofs.HeldLemmas.{landmarks_from-open}
use Rattle.ss_landmarks.proofs.StepLemmas.{CanOpen-none, AreStored-open, slots_of-open}
use Rattle.ss_landmarks.proofs.landmarks.Landmarks.start.Goals as goal

pub free_before-free_before-requires : goal.free_before-free_before-requires
free_before-free_before-requires c = rw c.deref.ensures.value c.self.invariant.0.know

pub invariant_of-self : goal.invariant_of-self
invariant_of-self c =
    let held = c.self.inside in
    let cs = held.closed.items in
    let values = map bare_value held.values.items in
    let can = rw (← c.self.view_is) at c.requires.after in
    let none = CanOpen-none c.args.t cs held.current values can in
    let o : Opened = record { start = c.args.t; slot = c.args.slot; values_before = c.len.result; free_before = c.free_before-free_before.result } in
    let count : o.values_before ≡ length values = omega (arith, c.len.ensures, length-map held.values.items bare_value) in
    let free : o.free_before ≡ free_before (landmarks_from cs None []) c.args.t =
    c.free_before-free_before.ensures ∙ ap (λ (closed : List Closed). free_before (landmarks_from closed held.current []) c.args.t)
    c.deref.ensures.value ∙ ap (λ (current : Option Opened). free_before (landmarks_from cs current []) c.args.t) none in
    let room = ap (λ (state : LandmarksState). state.room) c.self.view_is in (
      AreStored-open cs o values (rw none at c.self.invariant.0) (rw none at can) c.requires.time count free,
      record {
        fits = omega (arith, c.self.invariant.1.fits, ap one_open none, c.requires.room, room);
        most = omega (arith, c.self.invariant.1.most, ap one_open none, c.requires.room, room);
      },
      c.self.invariant.2,
    )

pub returns-clause-landmarks : goal.returns-clause-landmarks
returns-clause-landmarks c =
    let held = c.self.inside in
    let cs = held.closed.items in
    let values = map bare_value held.values.items in
    let can = rw (← c.self.view_is) at c.requires.after in
    let none = CanOpen-none c.args.t cs held.current values can in
    let o : Opened = record { start = c.args.t; slot = c.args.slot; values_before = c.len.result; free_before = c.free_before-free_before.result } in
    landmarks_from-open cs o values (rw none at c.self.invariant.0).shared
    ∙ ap (λ (current : Option Opened). landmarks_from cs current values ++ opened_at c.args.t ∷ []) (sym none)
    ∙ ap (λ (state : LandmarksState). state.landmarks ++ opened_at c.args.t ∷ []) c.self.view_is

pub returns-clause-slots : goal.returns-clause-slots
returns-clause-slots c =
    let held = c.self.inside in
    let cs = held.closed.items in
    let can = rw (← c.self.view_is) at c.requires.after in
    let none = CanOpen-none c.args.t cs held.current (map bare_value held.values.items) can in
    let o : Opened = record { start = c.args.t; slot = c.args.slot; values_before = c.len.result; free_before = c.free_before-free_before.result } in
    slots_of-open cs o
    ∙ ap (λ (current : Option Opened). slots_of cs current ++ c.args.slot ∷ []) (sym none)
    ∙ ap (λ (state : LandmarksState). state.slots ++ c.args.slot ∷ []) c.self.view_is
