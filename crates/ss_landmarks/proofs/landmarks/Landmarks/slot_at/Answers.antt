use Rattle.std.proofs.Common.{◌≡◌, ◌∙◌, ◌+◌, ◌-◌, ℕ, length, get_or, ap, arith}
use Rattle.std.proofs.lemmas.List.{length-map}
use Rattle.ss_landmarks.specs.Landmarks.{LandmarksState}
use Rattle.ss_landmarks.specs.Stored.{one_open, slots_of}
use Rattle.ss_landmarks.specs.declared.stored.StoredValue.{StoredValue}
use Rattle.ss_landmarks.proofs.HeldLemmas.{length-slots_of}
use Rattle.ss_landmarks.proofs.SlotLemmas.{slot_at-open, slot_at-value, value_slots_of}
use Rattle.ss_landmarks.proofs.landmarks.Landmarks.slot_at.Goals as goal

pub returns-in-None : goal.returns-in-None
returns-in-None c =
    let held = c.self.inside in
    let cs = held.closed.items in
    let values = held.values.items in
    let slots = length-slots_of cs held.current in
    let all = ap (λ (state : LandmarksState). length state.slots + length state.value_slots) c.self.view_is in
    let none = ap one_open c.in-None.is in
    rw (← c.self.view_is) (slot_at-value (slots_of cs held.current) values c.args.place c.len-closed.result c.index-in-None.result.now
    (omega (arith, slots, none, c.len-closed.ensures)) c.if-place-closed.false
    (omega (arith, slots, none, all, c.len-closed.ensures, c.requires, length-map values (λ (value : StoredValue). value.slot))) c.index-in-None.ensures)

pub returns-then-place-closed-2 : goal.returns-then-place-closed-2
returns-then-place-closed-2 c =
    let held = c.self.inside in
    let cs = held.closed.items in
    rw (← c.self.view_is, c.in-Some.is) (slot_at-open cs c.in-Some.opened (value_slots_of held.values.items) c.args.place (omega (arith, c.len-closed.ensures)))

pub returns-else-place-closed-2 : goal.returns-else-place-closed-2
returns-else-place-closed-2 c =
    let held = c.self.inside in
    let cs = held.closed.items in
    let values = held.values.items in
    let slots = length-slots_of cs held.current in
    let all = ap (λ (state : LandmarksState). length state.slots + length state.value_slots) c.self.view_is in
    let one = ap one_open c.in-Some.is in
    let past : c.args.place - c.len-closed.result - 1 ≡ c.args.place - (c.len-closed.result + 1) = omega arith in
    rw (← c.self.view_is) (slot_at-value (slots_of cs held.current) values c.args.place (c.len-closed.result + 1) c.index-else-place-closed-2.result.now
    (omega (arith, slots, one, c.len-closed.ensures)) (omega (arith, c.if-place-closed.false, c.if-place-closed-2.false))
    (omega (arith, slots, one, all, c.len-closed.ensures, c.requires, length-map values (λ (value : StoredValue). value.slot)))
    (c.index-else-place-closed-2.ensures ∙ ap (λ (k : ℕ). get_or values k c.index-else-place-closed-2.result.now) past))
