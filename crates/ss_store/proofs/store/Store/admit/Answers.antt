use Rattle.ss_store.proofs.Common.{◌≡◌, true, false, refl, ap, sym, ◌∙◌, length, flat_map, is_some, nat_le, has_target}
use Rattle.ss_store.proofs.Common.{next_number, MOST_RECORDS, slots_held, StoreState, held_parts, has_all_streams, numbers_held, part_named}
use Rattle.ss_store.proofs.Named.{is_some-listed}
use Rattle.ss_store.proofs.Refusals.{not-true, none_is_some, refuses_held-create}
use Rattle.ss_store.proofs.store.Store.admit.Goals as goal

pub returns-in_default-clause-refused : goal.returns-in_default-clause-refused
returns-in_default-clause-refused c =
    let target : has_target c.args.params ≡ false = not-true _ (λ yes. let wrong : false ≡ true = c.in_default.ensures.exactly.1 yes in cc) in
    refuses_held-create c.args.self.now.streams c.args.name.now c.args.params false _ _ _ target refl refl refl

pub returns-then-is_some-clause-refused : goal.returns-then-is_some-clause-refused
returns-then-is_some-clause-refused c =
    let parts = held_parts c.self.inside.streams.items in
    let target : has_target c.args.params ≡ true = c.in-Ok.ensures.exactly.0 refl in
    let listed = is_some-listed c.args.name.now parts c.self.inside.catalog c.self.invariant.0.listed in
    let known : is_some (part_named c.args.name.now parts) ≡ true = cc in
    rw (← c.self.view_is) (refuses_held-create parts c.args.name.now c.args.params true true _ _ target known refl refl)

pub returns-in_default-next_id-clause-refused : goal.returns-in_default-next_id-clause-refused
returns-in_default-next_id-clause-refused c =
    let parts = held_parts c.self.inside.streams.items in
    let target : has_target c.args.params ≡ true = c.in-Ok.ensures.exactly.0 refl in
    let listed = is_some-listed c.args.name.now parts c.self.inside.catalog c.self.invariant.0.listed in
    let new : is_some (part_named c.args.name.now parts) ≡ false = cc in
    let full : has_all_streams (numbers_held parts) ≡ true = rw (← c.deref.ensures.value) (c.in_default-next_id.ensures.none.0 refl) in
    rw (← c.self.view_is) (refuses_held-create parts c.args.name.now c.args.params true false true _ target new full refl)

pub returns-in-Some-free_slot-clause-accepted : goal.returns-in-Some-free_slot-clause-accepted
returns-in-Some-free_slot-clause-accepted c =
    let parts = held_parts c.self.inside.streams.items in
    let target : has_target c.args.params ≡ true = c.in-Ok.ensures.exactly.0 refl in
    let listed = is_some-listed c.args.name.now parts c.self.inside.catalog c.self.invariant.0.listed in
    let new : is_some (part_named c.args.name.now parts) ≡ false = cc in
    let free : has_all_streams (numbers_held parts) ≡ false =
    rw (← c.deref.ensures.value) (not-true _ (λ yes. let wrong : true ≡ false = c.in-Some.ensures.none.1 yes in cc)) in
    let stored : nat_le MOST_RECORDS (length (flat_map slots_held parts)) ≡ false =
    ap (λ (s : StoreState). nat_le MOST_RECORDS (length (flat_map slots_held s.streams))) c.self.view_is
    ∙ not-true _ (λ full. let wrong : true ≡ false = c.in-Some-free_slot.ensures.full.1 full in cc) in
    rw (← c.self.view_is) (refuses_held-create parts c.args.name.now c.args.params true false false false target new free stored)

pub returns-in-None-clause-refused : goal.returns-in-None-clause-refused
returns-in-None-clause-refused c =
    let parts = held_parts c.self.inside.streams.items in
    let target : has_target c.args.params ≡ true = c.in-Ok.ensures.exactly.0 refl in
    let listed = is_some-listed c.args.name.now parts c.self.inside.catalog c.self.invariant.0.listed in
    let new : is_some (part_named c.args.name.now parts) ≡ false = cc in
    let free : has_all_streams (numbers_held parts) ≡ false =
    rw (← c.deref.ensures.value) (not-true _ (λ yes. let wrong : true ≡ false = c.in-Some.ensures.none.1 yes in cc)) in
    let stored : nat_le MOST_RECORDS (length (flat_map slots_held parts)) ≡ true =
    ap (λ (s : StoreState). nat_le MOST_RECORDS (length (flat_map slots_held s.streams))) c.self.view_is ∙ c.in-None.ensures.full.0 refl in
    rw (← c.self.view_is) (refuses_held-create parts c.args.name.now c.args.params true false false true target new free stored)

pub returns-in-Some-free_slot-clause-new : goal.returns-in-Some-free_slot-clause-new
returns-in-Some-free_slot-clause-new c =
    let parts = held_parts c.self.inside.streams.items in
    let listed = is_some-listed c.args.name.now parts c.self.inside.catalog c.self.invariant.0.listed in
    let unknown : is_some (part_named c.args.name.now parts) ≡ false = cc in
    let numbers : has_all_streams (numbers_held parts) ≡ false =
    rw (← c.deref.ensures.value) (not-true _ (λ yes. let wrong : true ≡ false = c.in-Some.ensures.none.1 yes in cc)) in
    let next : c.in-Some.id.0 ≡ next_number (numbers_held parts) = rw (← c.deref.ensures.value) c.in-Some.ensures.value in
    record {
      target = c.in-Ok.ensures.exactly.0 refl;
      named = ap (λ (s : StoreState). part_named c.args.name.now s.streams) (sym c.self.view_is) ∙ none_is_some (part_named c.args.name.now parts) unknown;
      next = next ∙ ap (λ (s : StoreState). next_number (numbers_held s.streams)) c.self.view_is;
      room = ap (λ (s : StoreState). has_all_streams (numbers_held s.streams)) (sym c.self.view_is) ∙ numbers;
      free = sym c.in-Some-free_slot.ensures.least;
      low = c.in-Some-free_slot.ensures.low;
    }
