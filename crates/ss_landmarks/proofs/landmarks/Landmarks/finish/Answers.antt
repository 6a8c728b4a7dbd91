use Rattle.std.proofs.Common.{◌≡◌, ◌∙◌, ap, sym, refl, ◌-◌, ◌+◌, List, [], ◌∷◌, ◌++◌, length, map, is_ok, Option, None, arith}
use Rattle.std.proofs.lemmas.Bool.{cond-true}
use Rattle.std.proofs.lemmas.List.{length-map, length_push}
use Rattle.ss_landmarks.specs.Landmark.{closed_at, change_last}
use Rattle.ss_landmarks.specs.Landmarks.{LandmarksState}
use Rattle.ss_landmarks.specs.Stored.{bare_value, landmarks_from, slots_of, closed_values, one_open}
use Rattle.ss_landmarks.specs.declared.stored.Closed.{Closed}
use Rattle.ss_landmarks.specs.declared.stored.Opened.{Opened}
use Rattle.ss_landmarks.proofs.HeldLemmas.{landmarks_from-close}
use Rattle.ss_landmarks.proofs.StepLemmas.{AreStored-close, CanClose-none, slots_of-close}
use Rattle.ss_landmarks.proofs.landmarks.Landmarks.finish.Goals as goal

pub invariant_of-self : goal.invariant_of-self
invariant_of-self c =
    let held = c.self.inside in
    let cs = held.closed.items in
    let o = c.in-Some.opened in
    let values = map bare_value held.values.items in
    let new : Closed = record { start = o.start; finish = c.args.t; slot = o.slot; values = c.len.result - o.values_before; free_before = o.free_before } in
    let stored = rw c.in-Some.is at c.self.invariant.0 in
    let can = rw (← c.self.view_is, c.in-Some.is) at c.requires.after in
    let pushed : c.push.new.self.items ≡ cs ++ new ∷ [] = c.push.ensures.items ∙ cond-true (is_ok c.push.result) _ _ (ap is_ok c.unwrap.ensures) in
    let all : closed_values cs + new.values ≡ length values =
    omega (arith, stored.shared.0, stored.shared.1, c.len.ensures, length-map held.values.items bare_value) in (
      rw pushed (AreStored-close cs o new refl values stored all can c.requires.time refl),
      record {
        fits = omega (arith, ap length pushed, length_push cs new, c.self.invariant.1.fits, ap one_open c.in-Some.is, c.push.ensures.capacity);
        most = omega (arith, ap length pushed, length_push cs new, c.self.invariant.1.most, ap one_open c.in-Some.is);
      },
      c.self.invariant.2,
    )

pub returns-in-Some-clause-landmarks : goal.returns-in-Some-clause-landmarks
returns-in-Some-clause-landmarks c =
    let held = c.self.inside in
    let cs = held.closed.items in
    let o = c.in-Some.opened in
    let values = map bare_value held.values.items in
    let new : Closed = record { start = o.start; finish = c.args.t; slot = o.slot; values = c.len.result - o.values_before; free_before = o.free_before } in
    let stored = rw c.in-Some.is at c.self.invariant.0 in
    let pushed : c.push.new.self.items ≡ cs ++ new ∷ [] = c.push.ensures.items ∙ cond-true (is_ok c.push.result) _ _ (ap is_ok c.unwrap.ensures) in
    let all : closed_values cs + new.values ≡ length values =
    omega (arith, stored.shared.0, stored.shared.1, c.len.ensures, length-map held.values.items bare_value) in
    ap (λ (closed : List Closed). landmarks_from closed None values) pushed
    ∙ landmarks_from-close o new refl cs values all
    ∙ ap (λ (current : Option Opened). change_last (closed_at c.args.t) (landmarks_from cs current values)) (sym c.in-Some.is)
    ∙ ap (λ (state : LandmarksState). change_last (closed_at c.args.t) state.landmarks) c.self.view_is

pub returns-in-Some-clause-slots : goal.returns-in-Some-clause-slots
returns-in-Some-clause-slots c =
    let held = c.self.inside in
    let cs = held.closed.items in
    let o = c.in-Some.opened in
    let new : Closed = record { start = o.start; finish = c.args.t; slot = o.slot; values = c.len.result - o.values_before; free_before = o.free_before } in
    let pushed : c.push.new.self.items ≡ cs ++ new ∷ [] = c.push.ensures.items ∙ cond-true (is_ok c.push.result) _ _ (ap is_ok c.unwrap.ensures) in
    ap (λ (closed : List Closed). slots_of closed None) pushed
    ∙ slots_of-close cs o new refl
    ∙ ap (slots_of cs) (sym c.in-Some.is)
    ∙ ap (λ (state : LandmarksState). state.slots) c.self.view_is

pub returns-in_default-clause-landmarks : goal.returns-in_default-clause-landmarks
returns-in_default-clause-landmarks c =
    absurd (CanClose-none c.args.t c.self.inside.closed.items (map bare_value c.self.inside.values.items)
    (rw (← c.self.view_is, c.in_default.is) at c.requires.after))
