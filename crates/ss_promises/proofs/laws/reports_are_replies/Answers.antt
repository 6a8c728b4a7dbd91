use Rattle.ss_program.proofs.ReportLemmas.{text_of-replies}
use Rattle.ss_promises.proofs.laws.reports_are_replies.Goals as goal

pub returns : goal.returns
returns c = text_of-replies
