use Rattle.ss_store.proofs.Common.{◌≡◌, map, take, entry_of}
use Rattle.ss_store.proofs.opening.catalog_of.Given as goal

abbrev pub invariant-loop-stream : goal.invariant-loop-stream
invariant-loop-stream l = l.catalog ≡ map entry_of (take l.stream-index l.streams)
