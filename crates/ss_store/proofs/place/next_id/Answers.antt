use Rattle.ss_store.proofs.Common.{◌≡◌, ◌∙◌, true, false, length, refl, arith, nat_le, ◌==◌, ne_eqb, nat_tests, length-map, MOST_STREAMS, LAST_STREAM}
use Rattle.ss_store.proofs.Common.{HeldStream, StreamParts, has_all_streams, numbers_held, held_parts}
use Rattle.ss_store.proofs.IndexedStreams.{parts-read}
use Rattle.ss_store.proofs.PlaceLemmas.{TellsNext-last}
use Rattle.ss_store.proofs.place.next_id.Goals as goal

pub returns-else-number-clause-none : goal.returns-else-number-clause-none
returns-else-number-clause-none c =
    let item = c.in-Some.ensures.item in
    let w = c.in-Some.last.now.part in
    let parts = held_parts c.args.streams.now in
    let held = length-map c.args.streams.now (λ (h : HeldStream). h.part) in
    let tells = TellsNext-last parts w c.requires (rw held item.3.0) (rw held (parts-read c.args.streams.now _ item.1)) (omega arith) in
    let all = length-map parts (λ (s : StreamParts). s.id.0) in
    let room : nat_le MOST_STREAMS (length (numbers_held parts)) ≡ false = grind (arith, nat_tests) in
    let free : (w.id.0 == LAST_STREAM) ≡ false = ne_eqb _ _ (λ same. c.if-number.false (c.number_of-number.ensures ∙ same)) in
    let none : has_all_streams (numbers_held parts) ≡ false = rw (room, tells.taken, free) refl in
    ((λ wrong. cc), (λ yes. let wrong : false ≡ true = rw none at yes in cc))

pub returns-else-number-clause-value : goal.returns-else-number-clause-value
returns-else-number-clause-value c =
    let item = c.in-Some.ensures.item in
    let held = length-map c.args.streams.now (λ (h : HeldStream). h.part) in
    let tells = TellsNext-last (held_parts c.args.streams.now) c.in-Some.last.now.part c.requires (rw held item.3.0)
    (rw held (parts-read c.args.streams.now _ item.1)) (omega arith) in
    omega (arith, tells.next, c.number_of-number.ensures)
