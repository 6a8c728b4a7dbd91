use Rattle.ss_store.proofs.Common.{◌≡◌, ◌+◌, ◌-◌, ap, sym, ◌∙◌, arith, slice_get, ◌==◌, find_at, length-map, HeldStream, StreamParts, held_parts}
use Rattle.std.proofs.Common.{◌/◌}
use Rattle.std.proofs.Math.ListN.{get_or-map}
use Rattle.ss_store.proofs.PlaceLemmas.{place_in, place_in-inside, place_in-after, place_in-before}
use Rattle.ss_store.proofs.place.place_of.Goals as goal

pub loop-high-init : goal.loop-high-init
loop-high-init c = record {
  low = omega arith;
  high = rw (← length-map c.args.streams.now (λ (h : HeldStream). h.part)) (place_in-inside c.args.id.0 (held_parts c.args.streams.now) c.requires.stands);
  inside = omega arith;
}

pub loop-high-preserved-then-number_of-id : goal.loop-high-preserved-then-number_of-id
loop-high-preserved-then-number_of-id c =
    let parts = held_parts c.args.streams.now in
    let before = c.loop-high.invariant in
    let middle = c.loop-high.low + (c.loop-high.high - c.loop-high.low) / 2 in
    let read = c.index-streams-middle.result.part in
    let here = ap (λ (s : StreamParts). s.id.0) (get_or-map (λ (h : HeldStream). h.part) c.args.streams.now middle c.index-streams-middle.result) in
    let all = length-map c.args.streams.now (λ (h : HeldStream). h.part) in
    record {
      low = place_in-after c.args.id.0 parts middle read c.requires.rising
          (place_in-inside c.args.id.0 parts c.requires.stands) (omega arith) (omega arith);
      high = before.high;
      inside = before.inside;
    }

pub loop-high-preserved : goal.loop-high-preserved
loop-high-preserved c =
    let parts = held_parts c.args.streams.now in
    let before = c.loop-high.invariant in
    let middle = c.loop-high.low + (c.loop-high.high - c.loop-high.low) / 2 in
    let read = c.index-streams-middle.result.part in
    let here = ap (λ (s : StreamParts). s.id.0) (get_or-map (λ (h : HeldStream). h.part) c.args.streams.now middle c.index-streams-middle.result) in
    let all = length-map c.args.streams.now (λ (h : HeldStream). h.part) in
    record {
      low = before.low;
      high = place_in-before c.args.id.0 parts middle read c.requires.rising
          (place_in-inside c.args.id.0 parts c.requires.stands) (omega arith) (omega arith);
      inside = omega arith;
    }

pub returns-clause-at : goal.returns-clause-at
returns-clause-at c =
    let parts = held_parts c.args.streams.now in
    let before = c.loop-high.invariant in
    let place : c.loop-high.low ≡ place_in c.args.id.0 parts = omega arith in
    ap (λ k. slice_get parts k) place ∙ sym (find_at (λ (s : StreamParts). c.args.id.0 == s.id.0) parts)
