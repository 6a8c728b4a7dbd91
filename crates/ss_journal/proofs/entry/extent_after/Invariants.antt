use Rattle.ss_journal.proofs.Common.{◌≡◌, ◌+◌, ◌≤◌, drop, extent_after}
use Rattle.ss_journal.proofs.entry.extent_after.Given as goal

abbrev pub invariant-loop-put : goal.invariant-loop-put
invariant-loop-put l =
    (extent_after (drop l.put-index l.puts) l.extent ≡ extent_after l.puts l.fn.extent) × (l.extent ≤ l.fn.extent + l.put-index)
