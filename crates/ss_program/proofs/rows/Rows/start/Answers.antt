use Rattle.ss_program.proofs.Common.{Values, Windows}
use Rattle.ss_command.specs.declared.command.Command.TheVariants.{Series as AskRows, List as ListAll}
use Rattle.ss_program.proofs.RowsLemmas.{Begins-read}
use Rattle.ss_program.proofs.rows.Rows.start.Goals as goal

pub returns-in-Series-clause-begins : goal.returns-in-Series-clause-begins
returns-in-Series-clause-begins g c =
    rw c.in-Series.is (Begins-read (g.D.Disk.seen c.args.disk.now) c.args.store.now c.requires.open (AskRows c.in-Series.series) c.begin_series.result
    c.begin_series.ensures)

pub returns-in-Values-clause-begins : goal.returns-in-Values-clause-begins
returns-in-Values-clause-begins g c =
    rw c.in-Values.is (Begins-read (g.D.Disk.seen c.args.disk.now) c.args.store.now c.requires.open
    (Values c.in-Values.name c.in-Values.from c.in-Values.to) c.begin_values.result c.begin_values.ensures)

pub returns-in-Windows-clause-begins : goal.returns-in-Windows-clause-begins
returns-in-Windows-clause-begins g c =
    rw c.in-Windows.is (Begins-read (g.D.Disk.seen c.args.disk.now) c.args.store.now c.requires.open (Windows c.in-Windows.name) c.begin_windows.result
    c.begin_windows.ensures)

pub returns-in-List-clause-begins : goal.returns-in-List-clause-begins
returns-in-List-clause-begins g c =
    rw c.in-List.is (Begins-read (g.D.Disk.seen c.args.disk.now) c.args.store.now c.requires.open ListAll c.begin_list.result
    c.begin_list.ensures)
