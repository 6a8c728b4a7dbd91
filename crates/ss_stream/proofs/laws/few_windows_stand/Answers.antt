use Rattle.ss_stream.proofs.laws.few_windows_stand.Goals as goal
use Rattle.ss_stream.proofs.FewWindows.{length-none_due, length-none_due-without_step}

pub returns-clause-rule : goal.returns-clause-rule
returns-clause-rule c = length-none_due

pub returns-clause-without_step : goal.returns-clause-without_step
returns-clause-without_step c = length-none_due-without_step
