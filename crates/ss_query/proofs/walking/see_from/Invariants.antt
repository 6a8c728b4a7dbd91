use Rattle.std.proofs.Common.{◌+◌, ◌*◌, ◌≤◌}
use Rattle.ss_query.proofs.AskedWindows.{IsAsking}
use Rattle.ss_query.proofs.Looks.{begun_by, entries_from}
use Rattle.ss_query.proofs.NextWindow.{left_from}
use Rattle.ss_query.proofs.walking.see_from.Given as goal

abbrev pub invariant-loop-next : goal.invariant-loop-next
invariant-loop-next g l = record {
  asking : IsAsking (g.D.Disk.seen l.fn.disk) (g.D.Disk.seen l.disk) l.fn.records l.records l.part l.query l.seen l.next;
  looks : l.steps + 2 * begun_by l.query.to (entries_from l.part.line.entries l.next)
      ≤ l.initial.steps + 2 * begun_by l.query.to (entries_from l.part.line.entries l.fn.start);
  reads : l.reads + begun_by l.query.to (entries_from l.part.line.entries l.next)
      ≤ l.initial.reads + begun_by l.query.to (entries_from l.part.line.entries l.fn.start);
  searches : l.searches + 7 * l.initial.reads ≤ l.initial.searches + 7 * l.reads;
}

abbrev pub decreases-loop-next : goal.decreases-loop-next
decreases-loop-next g l = left_from l.part.line.entries l.next
