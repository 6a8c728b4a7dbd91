use Rattle.ss_program.proofs.Common.{◌∙◌, StoreState}
use Rattle.ss_program.proofs.EndLemmas.{Ends-opened, Ends-unopened, judged-refused, serving-stop, unfed-unopened}
use Rattle.ss_program.proofs.GenerateLemmas.{Generates-opened, Generates-unopened}
use Rattle.ss_program.proofs.LeftLemmas.{opened_left, opened_moments}
use Rattle.ss_program.proofs.generate.generate.Goals as goal

pub returns-in-Ok-clause-ends : goal.returns-in-Ok-clause-ends
returns-in-Ok-clause-ends g c =
    Ends-opened c.summarize.result c.in-Ok.ensures.opens (λ opened. (opened.opens.0, opened.opens.1)) c.summarize.ensures.generates
    (rw c.in-Ok.ensures.opens.tells at
    (serving-stop (g.D.Disk.seen c.open.new.disk).tells c.summarize.result c.summarize.ensures.status)) c.summarize.ensures.counted

pub returns-in-Ok-clause-unfed : goal.returns-in-Ok-clause-unfed
returns-in-Ok-clause-unfed g c = c.summarize.ensures.unfed

pub returns-in-Ok-clause-generates : goal.returns-in-Ok-clause-generates
returns-in-Ok-clause-generates g c told none used history stands =
    let opens = c.in-Ok.ensures.opens in
    let opened = (opens.told told).history history in
    Generates-opened (opened_moments opened (opens.told told).within used none stands)
    (c.summarize.ensures.generates.told (opens.tells ∙ told) (opened.durable none) used history (opened_left opened (opens.told told).within used stands))

pub returns-in-Err-clause-ends : goal.returns-in-Err-clause-ends
returns-in-Err-clause-ends g c =
    let opens = c.in-Err.ensures.opens in
    rw c.refuse.ensures.status
    (Ends-unopened StoreState c.in-Err.error opens.tells opens.counted (λ told. (opens.told told).opens)
    (λ told refused. (opens.told told).judged (judged-refused (g.D.Disk.seen c.args.disk.now).told.content refused)) c.refuse.ensures.says)

pub returns-in-Err-clause-unfed : goal.returns-in-Err-clause-unfed
returns-in-Err-clause-unfed g c = rw c.refuse.ensures.status (unfed-unopened c.in-Err.error _ _ _ _ c.refuse.ensures.says)

pub returns-in-Err-clause-generates : goal.returns-in-Err-clause-generates
returns-in-Err-clause-generates g c told none used history stands =
    let opens = c.in-Err.ensures.opens in
    rw c.refuse.ensures.status
    (Generates-unopened used history c.args.seed c.args.count _ _ c.in-Err.error (opens.told told).opens stands.0 c.refuse.ensures.says
    (g.met.D.Disk.knows_now c.open.new.disk (opens.tells ∙ told))
    (opened_moments ((opens.told told).history history) (opens.told told).within used none stands))
