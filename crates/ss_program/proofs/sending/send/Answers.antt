use Rattle.ss_program.proofs.Common.{◌∙◌}
use Rattle.ss_program.proofs.SendLemmas.{appended_more, fits_more}
use Rattle.ss_program.proofs.sending.send.Goals as goal

pub loop-sent-preserved : goal.loop-sent-preserved
loop-sent-preserved g c = record {
  fits = fits_more c.args.text.now c.loop-sent.sent c.in_ok-sent.field-0 c.loop-sent.invariant.fits c.in_ok-sent.ensures.bound.1;
  held = appended_more (g.K.Sink.held c.args.sink.now) (g.K.Sink.held c.loop-sent.sink) (g.K.Sink.held c.put.new.self) c.args.text.now c.loop-sent.sent
      c.in_ok-sent.field-0 c.loop-sent.invariant.held c.in_ok-sent.ensures.appends;
  faults = c.in_ok-sent.ensures.cause ∙ c.loop-sent.invariant.faults;
}
