use Rattle.ss_recover.proofs.Common.{◌≡◌, drop, keep_step, rule_of}
use Rattle.ss_targets.specs.Targets.{params_of}
use Rattle.ss_recover.proofs.WindowLaws.{windows_at}
use Rattle.ss_recover.proofs.windows.keep_step.Given as goal

abbrev pub invariant-loop-one : goal.invariant-loop-one
invariant-loop-one l =
    keep_step (rule_of (params_of l.target)).step (windows_at l.id l.found)
    ≡ keep_step (rule_of (params_of l.target)).step (windows_at l.id (drop l.one-index l.found))
