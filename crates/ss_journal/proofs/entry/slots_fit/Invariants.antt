use Rattle.ss_journal.proofs.Common.{◌≡◌, ◌+◌, ◌≤◌, drop, slots_fit}
use Rattle.ss_journal.proofs.entry.slots_fit.Given as goal

abbrev pub invariant-loop-put : goal.invariant-loop-put
invariant-loop-put l =
    (slots_fit (drop l.put-index l.puts) l.extent ≡ slots_fit l.puts l.fn.extent) × (l.extent ≤ l.fn.extent + l.put-index)
