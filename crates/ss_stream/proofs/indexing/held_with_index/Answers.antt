use Rattle.ss_stream.proofs.Common.{[], entries_of}
use Rattle.ss_stream.proofs.indexing.held_with_index.Goals as goal
use Rattle.ss_stream.proofs.KeyedWindows.{held-few}

pub add_windows-requires-clause-fresh : goal.add_windows-requires-clause-fresh
add_windows-requires-clause-fresh g c =
    c.reserve_places.ensures.keyed c.values_held-n.result []
    (c.new-index.ensures.keyed c.values_held-n.result (rw c.values_held-n.ensures.value (held-few (entries_of c.args.part) c.requires.tiles)))

pub returns-clause-keyed : goal.returns-clause-keyed
returns-clause-keyed g c = rw c.values_held-n.ensures.value at c.in_ok-add_windows.ensures
