use Rattle.ss_program.proofs.Common.{◌≡◌, state, OnlyReads, OfContent, Step, fine, Stands, IsOpen, History, command_brings}
use Rattle.ss_program.proofs.ShowLemmas.{IsSaidBefore}
use Rattle.ss_program.specs.Rows.{RowsStand, count_left, rows_left}
use Rattle.ss_program.proofs.answer.show.Given as goal

-- the replies before the rows that are left were sent, and the disk was only read
abbrev pub invariant-loop-row : goal.invariant-loop-row
invariant-loop-row g l = record {
  is_open : IsOpen (g.D.Disk.seen l.disk) l.store;
  stand : RowsStand l.store.streams l.rows;
  reads : Step fine (g.D.Disk.seen l.fn.disk) (g.D.Disk.seen l.disk) OnlyReads;
  held : OfContent (g.D.Disk.seen l.fn.disk) (λ content. (history : History) → Stands history content →
      IsSaidBefore l.speaker (command_brings history l.command).replies (rows_left l.rows l.store.streams (state history))
      (g.K.Sink.held l.fn.sink) (g.K.Sink.held l.sink));
  faults : g.K.Sink.faults l.sink ≡ g.K.Sink.faults l.fn.sink;
}

abbrev pub decreases-loop-row : goal.decreases-loop-row
decreases-loop-row g l = count_left l.rows l.store.streams
