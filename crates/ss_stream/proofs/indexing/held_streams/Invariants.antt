use Rattle.ss_stream.proofs.Common.{◌≡◌, ◌++◌, All, IsKeyedFor, IsOrdered, held_parts}
use Rattle.std.specs.Vec.Iter.{into_iter_items}
use Rattle.ss_stream.proofs.indexing.held_streams.Given as goal

abbrev pub invariant-loop-part : goal.invariant-loop-part
invariant-loop-part g l = record {
  taken : held_parts l.streams.items ++ into_iter_items l.part-iterator ≡ l.fn.parts.items;
  ordered : All IsOrdered (into_iter_items l.part-iterator);
  keyed : All IsKeyedFor l.streams.items;
}
