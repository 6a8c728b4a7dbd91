use Rattle.ss_program.proofs.Common.{[], Stands-unformed}
use Rattle.ss_promises.proofs.ChainLemmas.{extends-front, extends-linked, extends-split, length-linked}
use Rattle.ss_promises.proofs.chain_laws.chains_of_runs_hold_one_history.Goals as goal

pub returns-clause-one_history : goal.returns-clause-one_history
returns-clause-one_history g c = extends-linked g.D.Disk.seen g.met.D.Disk.knows_now

pub returns-clause-from_nothing : goal.returns-clause-from_nothing
returns-clause-from_nothing g c links first last unborn linked =
    extends-linked g.D.Disk.seen g.met.D.Disk.knows_now links first last [] (Stands-unformed first unborn) linked

pub returns-clause-short : goal.returns-clause-short
returns-clause-short g c = length-linked g.D.Disk.seen g.met.D.Disk.knows_now

pub returns-clause-stays : goal.returns-clause-stays
returns-clause-stays g c = extends-front

pub returns-clause-holds : goal.returns-clause-holds
returns-clause-holds g c = extends-split
