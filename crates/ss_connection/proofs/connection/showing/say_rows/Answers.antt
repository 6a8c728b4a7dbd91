use Rattle.ss_connection.proofs.RowLemmas.{Says-begun, can-be-taken, filled-piece, shows-opened}
use Rattle.ss_connection.proofs.SaysLemmas.{Says-read}
use Rattle.ss_program.proofs.AnswerLemmas.{rows-event}
use Rattle.ss_program.proofs.Common.{◌≡◌, ◌∙◌, Err, rules, sym}
use Rattle.ss_program.proofs.StepLemmas.{step-given, step-told}
use Rattle.ss_connection.proofs.connection.showing.say_rows.Goals as goal

pub returns-in_err-head-clause-says : goal.returns-in_err-head-clause-says
returns-in_err-head-clause-says g c =
    let status = c.in_err-head.field-0.0 in
    let same : c.from_residual.result ≡ Err status = search rules in
    rw same (step-given c.in_err-head.ensures.begins (λ told begins.
    Says-read (g.D.Disk.seen c.args.disk.now).tells (Err status) c.in_err-head.ensures.status (g.met.D.Disk.knows_now c.args.disk.now told) (λ history. rows-event history c.args.command.now c.requires.rows) tt
    begins.reads (λ history held. tt)))

pub returns-clause-says : goal.returns-clause-says
returns-clause-says g c =
    let begun = c.in_ok-head.ensures in
    let filled = c.fill.ensures in
    step-told begun.begins filled.fills (λ told begins fills.
    Says-begun c.args.command.now c.in_ok-head.head c.in_ok-head.rows (g.D.Disk.seen c.start.new.disk).tells c.fill.result filled.status c.requires.rows
    (g.met.D.Disk.knows_now c.args.disk.now (sym begun.begins.tells ∙ told)) (filled.streams ∙ begun.streams)
    (shows-opened (g.D.Disk.seen c.fill.new.disk) c.fill.new.store c.fill.result filled.open) begins (rw (begun.streams, c.say.ensures.text) at fills))

pub returns-clause-stand : goal.returns-clause-stand
returns-clause-stand g c =
    can-be-taken (g.D.Disk.seen c.fill.new.disk) c.fill.new.store c.start.new.store.streams c.fill.new.text c.fill.result c.fill.ensures.streams c.fill.ensures.open
    c.fill.ensures.filled

pub returns-clause-piece : goal.returns-clause-piece
returns-clause-piece g c = filled-piece c.start.new.store.streams c.fill.new.text c.fill.result c.fill.ensures.filled
