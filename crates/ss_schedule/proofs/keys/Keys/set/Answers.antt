use Rattle.std.proofs.Common.{◌≡◌, ◌<◌, arith, length, ap}
use Rattle.ss_schedule.proofs.HeapLemmas.{AreHeldKeys-set, written_back}
use Rattle.ss_schedule.proofs.keys.Keys.set.Goals as goal

pub invariant_of-self : goal.invariant_of-self
invariant_of-self c =
    let len : length c.restore.new.heap ≡ length c.self.inside.heap.items = omega (arith, c.restore.ensures.heap.all) in
    let room : c.args.at.0 < length c.self.inside.keys.items = omega (arith, c.requires.room, ap length c.self.view_is) in
    let order = rw c.deref.ensures.value at c.restore.ensures.heap.order in
    let held = AreHeldKeys-set c.self.inside.keys.items c.self.inside.heap.items c.self.inside.positions.items c.self.invariant.0 c.args.at.0 c.args.key
    c.restore.new.heap c.restore.new.positions room c.requires.early c.restore.ensures.heap.inverse len order in
    let heap = written_back c.self.inside.heap.items c.restore.new.heap c.self.inside.heap.len (omega arith) in
    let positions = written_back c.self.inside.positions.items c.restore.new.positions c.self.inside.positions.len (omega arith) in
    (rw (heap, positions) held, c.self.invariant.1)
