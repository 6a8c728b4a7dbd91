use Rattle.ss_recover.proofs.Common.{◌∙◌, sym}
use Rattle.ss_recover.proofs.WindowLaws.{stands-none, stands-some}
use Rattle.ss_recover.proofs.walking.may_stand.Goals as goal

pub returns-in-None : goal.returns-in-None
returns-in-None c = stands-none c.args.names.now c.args.name.now c.len.result (sym c.find.ensures ∙ c.in-None.is) c.len.ensures.value

pub returns-in-Some : goal.returns-in-Some
returns-in-Some c = stands-some c.args.names.now c.args.name.now _ (sym c.find.ensures ∙ c.in-Some.is)
