use Rattle.std.proofs.Common.{◌≡◌, ◌∙◌, ap, sym, refl, ℕ, ◌-◌, length, map, Option, Some, None, arith}
use Rattle.std.proofs.lemmas.List.{length-map}
use Rattle.std.specs.Option.{is_some, option_map}
use Rattle.ss_landmarks.specs.Landmark.{Landmark, open_landmark}
use Rattle.ss_landmarks.specs.Landmarks.{opened}
use Rattle.ss_landmarks.specs.Stored.{bare_value, landmarks_from, slots_of, closed_values}
use Rattle.ss_landmarks.specs.declared.stored.Opened.{Opened}
use Rattle.ss_landmarks.specs.declared.stored.StoredValue.{StoredValue}
use Rattle.ss_landmarks.proofs.StepLemmas.{opened-none, opened-some}
use Rattle.ss_landmarks.proofs.landmarks.Landmarks.opened.Goals as goal

pub returns-in-None-clause-value : goal.returns-in-None-clause-value
returns-in-None-clause-value c =
    let held = c.self.inside in
    let values = map bare_value held.values.items in
    sym (opened-none held.closed.items values (slots_of held.closed.items held.current))
    ∙ ap (λ (current : Option Opened). opened
    (record {
      landmarks = landmarks_from held.closed.items current values;
      slots = slots_of held.closed.items held.current;
      value_slots =
          map (λ (value : StoredValue). value.slot) held.values.items;
      room = held.room;
      value_room = held.value_room;
    })) (sym c.in-None.is)
    ∙ ap opened c.self.view_is

pub returns-in-Some-clause-value : goal.returns-in-Some-clause-value
returns-in-Some-clause-value c =
    let held = c.self.inside in
    let cs = held.closed.items in
    let o = c.in-Some.opened in
    let values = map bare_value held.values.items in
    let shared = rw c.in-Some.is at c.self.invariant.0.shared in
    let count : c.len.result - o.values_before ≡ length values - closed_values cs =
    omega (arith, shared.0, c.len.ensures, length-map held.values.items bare_value) in
    ap (λ (n : ℕ). Some (o.start, o.slot, n)) count
    ∙ sym (opened-some cs o values)
    ∙ ap (λ (current : Option Opened). opened
    (record {
      landmarks = landmarks_from cs current values;
      slots = slots_of cs current;
      value_slots =
          map (λ (value : StoredValue). value.slot) held.values.items;
      room = held.room;
      value_room = held.value_room;
    })) (sym c.in-Some.is)
    ∙ ap opened c.self.view_is

is_some-map : (f : Landmark → ℕ × ℕ × ℕ) (o : Option Landmark) → is_some (option_map f o) ≡ is_some o
is_some-map f None = refl
is_some-map f (Some l) = refl

pub returns-in-None-clause-none : goal.returns-in-None-clause-none
returns-in-None-clause-none c =
    let same = ap is_some (returns-in-None-clause-value c) ∙ is_some-map _ (open_landmark c.args.self.now.landmarks) in
    (λ none. sym same ∙ none, λ none. same ∙ none)

pub returns-in-Some-clause-none : goal.returns-in-Some-clause-none
returns-in-Some-clause-none c =
    let same = ap is_some (returns-in-Some-clause-value c) ∙ is_some-map _ (open_landmark c.args.self.now.landmarks) in
    (λ none. sym same ∙ none, λ none. same ∙ none)
