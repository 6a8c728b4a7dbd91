use Rattle.ss_connection.specs.Holds.{text_left}
use Rattle.ss_connection.specs.declared.text.TheConstants.{MOST_SAID}
use Rattle.ss_program.proofs.Common.{◌≡◌, ◌≤◌, ◌++◌, length, Some, OnlyReads, OfContent, Step, fine, Stands, IsOpen, History}
use Rattle.ss_program.specs.Rows.{RowsStand, count_left}
use Rattle.ss_connection.proofs.connection.showing.fill.Given as goal

-- the rows before those that are left stand behind the text, and the disk was only read
abbrev pub invariant-loop-rows : goal.invariant-loop-rows
invariant-loop-rows g l = record {
  fits : length l.text ≤ MOST_SAID;
  is_open : IsOpen (g.D.Disk.seen l.disk) l.store;
  stand : RowsStand l.store.streams l.rows;
  streams : l.store.streams ≡ l.fn.store.streams;
  reads : Step fine (g.D.Disk.seen l.fn.disk) (g.D.Disk.seen l.disk) OnlyReads;
  says : OfContent (g.D.Disk.seen l.fn.disk) (λ content. (history : History) → Stands history content →
      l.fn.text ++ text_left (Some l.fn.rows) l.fn.store.streams history ≡ l.text ++ text_left (Some l.rows) l.fn.store.streams history);
}

abbrev pub decreases-loop-rows : goal.decreases-loop-rows
decreases-loop-rows g l = count_left l.rows l.store.streams
