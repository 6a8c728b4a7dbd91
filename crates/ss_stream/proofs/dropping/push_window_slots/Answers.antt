use Rattle.ss_stream.proofs.Common.{◌≡◌, ◌∙◌, ◌+◌, ◌++◌, Some, ap, arith, sym, take, append-nil, length-map, index_of, At, Entry, entries_in}
use Rattle.ss_stream.proofs.Common.{index_of-first, index_of-next, slice_get-entry}
use Rattle.ss_stream.proofs.dropping.push_window_slots.Goals as goal
use Rattle.ss_stream.proofs.KeyedWindows.{none_past, take-all, take-none}
use Rattle.ss_stream.proofs.WindowSlots.{slots-more, entry_slots}

pub loop-next-init : goal.loop-next-init
loop-next-init g c =
    let entries = c.args.line.now.entries in
    let es = entries_in entries in
    let was = c.args.slots.now.items in
    let k = index_of entries c.in-Some.at in
    let first : k ≡ 0 = index_of-first entries (Some c.in-Some.at) (sym c.in-Some.is ∙ c.first.ensures.value) in
    let none : was ≡ was ++ entry_slots (take k es) =
    sym (ap (λ n. was ++ entry_slots (take n es)) first ∙ ap (λ l. was ++ entry_slots l) (take-none es) ∙ append-nil was) in
    record {
      stands = c.in-Some.ensures.stands;
      put = c.in_ok-push.ensures.items ∙ slots-more was was es k c.get.result none (slice_get-entry entries c.in-Some.at c.get.result c.get.ensures.entry);
    }

pub loop-next-smaller : goal.loop-next-smaller
loop-next-smaller g c =
    let next = index_of-next c.args.line.now (index_of c.args.line.now.entries c.loop-next.at + 1) (Some c.in-Some-1₀.next)
    c.len-len.ensures.line (sym c.in-Some-1₀.is ∙ c.neighbours.ensures.behind) in
    omega (arith, next, c.loop-next.invariant.stands)

pub loop-next-preserved : goal.loop-next-preserved
loop-next-preserved g c =
    let entries = c.args.line.now.entries in
    let es = entries_in entries in
    let was = c.args.slots.now.items in
    let next : index_of entries c.in-Some-1₀.next ≡ index_of entries c.loop-next.at + 1 =
    index_of-next c.args.line.now (index_of entries c.loop-next.at + 1) (Some c.in-Some-1₀.next) c.len-len.ensures.line
    (sym c.in-Some-1₀.is ∙ c.neighbours.ensures.behind) in
    record {
      stands = rw c.in-Some-1₀.is at c.neighbours.ensures.stand.1;
      put = c.in_ok-push-2.ensures.items ∙ slots-more was c.loop-next.slots.items es (index_of entries c.in-Some-1₀.next) c.get-in-Some-1₀.result
          (rw next c.loop-next.invariant.put) (slice_get-entry entries c.in-Some-1₀.next c.get-in-Some-1₀.result c.get-in-Some-1₀.ensures.entry);
    }

pub returns : goal.returns
returns g c =
    let entries = c.args.line.now.entries in
    let es = entries_in entries in
    let was = c.args.slots.now.items in
    let none = none_past entries (index_of entries c.loop-next.at + 1) (sym c.in_default-1₀.is ∙ c.neighbours.ensures.behind) in
    c.loop-next.invariant.put
    ∙ ap (λ l. was ++ entry_slots l)
    (take-all es (index_of entries c.loop-next.at + 1) (omega (arith, none, length-map entries (λ (e : At × Entry). e.1))))
