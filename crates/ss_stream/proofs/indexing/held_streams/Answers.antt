use Rattle.ss_stream.proofs.Common.{[], ◌∷◌, All-push, All-tail, map-append, HeldStream, IsKeyedFor, IsOrdered}
use Rattle.std.proofs.lemmas.List.{append_assoc}
use Rattle.ss_stream.proofs.indexing.held_streams.Goals as goal

pub loop-part-preserved : goal.loop-part-preserved
loop-part-preserved g c =
    let before = c.loop-part.invariant in
    let made = c.in_ok-held_with_index in
    let rest = c.in-Some.ensures.steps.0 in
    let held = c.loop-part.streams.items in
    record {
      taken = rw (
        c.in_ok-push.ensures.items,
        map-append (λ (h : HeldStream). h.part) held (made.field-0 ∷ []),
        made.ensures.part,
        append_assoc,
      ) (rw rest at before.taken);
      ordered = All-tail IsOrdered c.in-Some.part _ (rw rest at before.ordered);
      keyed = rw c.in_ok-push.ensures.items (All-push IsKeyedFor held made.field-0 before.keyed made.ensures.keyed);
    }
