use Rattle.ss_journal.proofs.Common.{◌≤◌, ◌<◌, ◌^◌, ◌*◌, length, Step, fine, Finds}
use Rattle.std.proofs.Common.{All}
use Rattle.ss_journal.proofs.OpenLemmas.{IsReadTo}
use Rattle.ss_journal.proofs.opening.read_entries.Given as goal

abbrev pub invariant-loop-n : goal.invariant-loop-n
invariant-loop-n g l = record {
  few : length l.waiting ≤ 4 * l.n;
  extent : l.extent ≤ 2 ^ 20;
  waiting : All (λ put. put.slot < l.extent) l.waiting;
  step : Step fine (g.D.Disk.seen l.fn.disk) (g.D.Disk.seen l.disk) (Finds (λ content. IsReadTo content l.n l.extent l.waiting));
}
