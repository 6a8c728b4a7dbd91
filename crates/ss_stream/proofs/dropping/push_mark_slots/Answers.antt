use Rattle.ss_stream.proofs.Common.{◌∙◌, ◌++◌}
use Rattle.ss_stream.proofs.dropping.push_mark_slots.Goals as goal
use Rattle.ss_stream.proofs.WindowSlots.{number-more}

pub loop-place-preserved : goal.loop-place-preserved
loop-place-preserved c =
    c.in_ok-push.ensures.items
    ∙ number-more c.args.slots.now.items c.loop-place.slots.items (c.args.landmarks.now.slots ++ c.args.landmarks.now.value_slots) c.loop-place.place
    c.slot_at.result c.loop-place.invariant c.slot_at.ensures
