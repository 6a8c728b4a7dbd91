use mir.Val.{to_z, of_z}
use Rattle.std.proofs.Common.{◌≡◌, arith, pos}
use Rattle.std.proofs.Math.ListN.{get_or}
use Rattle.std.proofs.lemmas.Int.{ints, to_z-of_z}
use Rattle.std.specs.Int.{w64}
use Rattle.ss_connection.proofs.ManyLemmas.{event-at}
use Rattle.ss_connection.proofs.connection.many.event_at.Goals as goal

pub returns : goal.returns
returns c =
    let values = c.args.values.now in
    let k = c.args.place in
    let fits : to_z w64 (of_z w64 (get_or values k (pos 0))) ≡ get_or values k (pos 0) = grind (arith, ints, to_z-of_z) in
    rw fits (event-at c.args.name.now c.args.times.now values k 0 (pos 0) c.requires.times c.requires.values)
