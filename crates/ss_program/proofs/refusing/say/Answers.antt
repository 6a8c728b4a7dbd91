use Rattle.ss_program.proofs.SendLemmas.{SaysLine-sent}
use Rattle.ss_program.proofs.refusing.say.Goals as goal

pub returns : goal.returns
returns g c =
    SaysLine-sent (g.K.Sink.held c.args.sink.now) (g.K.Sink.held c.send.new.sink) c.args.line.now (g.K.Sink.faults c.args.sink.now)
    (g.K.Sink.faults c.send.new.sink) c.send.result c.send.ensures
