use Rattle.ss_program.proofs.Common.{step_under_way, step-then}
use Rattle.ss_program.proofs.InputLemmas.{TakesLast-then}
use Rattle.ss_program.proofs.taking.end_lines.Goals as goal

pub returns-clause-takes : goal.returns-clause-takes
returns-clause-takes g c =
    step-then c.in_ok-take_last.ensures.takes c.flush.ensures.takes (λ first second.
    TakesLast-then c.args.reader.now.form (step_under_way c.args.reader.now) c.flush.result first second)
