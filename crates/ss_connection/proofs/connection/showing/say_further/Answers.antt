use Rattle.ss_connection.proofs.RowLemmas.{Says-further, can-be-taken, filled-piece, shows-opened}
use Rattle.ss_program.proofs.StepLemmas.{step-given}
use Rattle.ss_connection.proofs.connection.showing.say_further.Goals as goal

pub returns-clause-says : goal.returns-clause-says
returns-clause-says g c =
    let filled = c.fill.ensures in
    step-given filled.fills (λ told fills.
    Says-further c.args.rows c.fill.result (g.met.D.Disk.knows_now c.args.disk.now told) filled.streams c.requires.stand.sealed
    (shows-opened (g.D.Disk.seen c.fill.new.disk) c.fill.new.store c.fill.result filled.open) (rw c.clear.ensures at fills))

pub returns-clause-stand : goal.returns-clause-stand
returns-clause-stand g c =
    can-be-taken (g.D.Disk.seen c.fill.new.disk) c.fill.new.store c.args.store.now.streams c.fill.new.text c.fill.result c.fill.ensures.streams c.fill.ensures.open
    c.fill.ensures.filled

pub returns-clause-piece : goal.returns-clause-piece
returns-clause-piece g c = filled-piece c.args.store.now.streams c.fill.new.text c.fill.result c.fill.ensures.filled
