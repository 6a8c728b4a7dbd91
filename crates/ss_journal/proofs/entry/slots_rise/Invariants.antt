use Rattle.ss_journal.proofs.Common.{◌≡◌, drop, slots_rise_from}
use Rattle.ss_journal.proofs.entry.slots_rise.Given as goal

abbrev pub invariant-loop-put : goal.invariant-loop-put
invariant-loop-put l = slots_rise_from l.least (drop l.put-index l.puts) ≡ slots_rise_from 0 l.puts
