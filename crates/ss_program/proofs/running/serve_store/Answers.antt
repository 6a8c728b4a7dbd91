use Rattle.ss_program.proofs.Common.{◌∙◌, inr, refl, StoreState, status_of_open, begun_over, OutOfMemory, arith, rules, common_steps}
use Rattle.ss_program.proofs.TakesLemmas.{still}
use Rattle.ss_program.proofs.EndLemmas.{Ends-opened, Ends-unopened, judged-refused, unfed-unopened}
use Rattle.ss_program.proofs.LeftLemmas.{opened_left, opened_moments}
use Rattle.ss_program.proofs.OpeningLemmas.{Reads-none, Reads-refused, Serves-opened, Serves-refused, Serves-unopened}
use Rattle.ss_program.proofs.TakenLemmas.{Feeds-unfed}
use Rattle.ss_program.proofs.running.serve_store.Goals as goal

pub serve-requires-clause-front : goal.serve-requires-clause-front
serve-requires-clause-front g c = record {
  rests = first_of (search rules, grind (arith, common_steps));
  line = first_of (search rules, grind (arith, common_steps));
  cursors = first_of (search rules, grind (arith, common_steps));
}

pub returns-in-Ok-start-clause-ends : goal.returns-in-Ok-start-clause-ends
returns-in-Ok-start-clause-ends g c =
    Ends-opened c.serve.result c.in-Ok.ensures.opens (λ opened. (opened.opens.0, opened.opens.1)) c.serve.ensures.serves
    (rw c.in-Ok.ensures.opens.tells at c.serve.ensures.known) c.serve.ensures.sink

pub returns-in-Ok-start-clause-serves : goal.returns-in-Ok-start-clause-serves
returns-in-Ok-start-clause-serves g c input is told none used history stands =
    let opens = c.in-Ok.ensures.opens in
    let opened = (opens.told told).history history in
    let within = (opens.told told).within in
    let session = c.in-Ok-start.session in
    let left = g.S.Source.left c.serve.new.source in
    let before = g.K.Sink.held c.args.sink.now in
    let after = g.K.Sink.held c.serve.new.sink in
    let old = (g.D.Disk.seen c.args.disk.now).told in
    let new = (g.D.Disk.seen c.serve.new.disk).told in
    rw (c.in-Ok-start.ensures.sealing.0, c.in-Ok-start.ensures.form.0) at (Serves-opened (opened_moments opened within used none stands)
    (c.serve.ensures.serves.told (opens.tells ∙ told) input is (opened.durable none) used history (opened_left opened within used stands)))

pub returns-in-Ok-start-clause-feeds : goal.returns-in-Ok-start-clause-feeds
returns-in-Ok-start-clause-feeds g c = record {
  counted = c.serve.ensures.source;
  takes = c.serve.ensures.taken;
  unserved = λ is. absurd (rw is at c.serve.ensures.known);
}

-- there was no memory for a session
pub returns-in-Err-start-clause-ends : goal.returns-in-Err-start-clause-ends
returns-in-Err-start-clause-ends g c =
    Ends-opened OutOfMemory c.in-Ok.ensures.opens (λ opened. (opened.opens.0, opened.opens.1)) (still (g.D.Disk.seen c.open.new.disk)) tt refl

pub returns-in-Err-start-clause-feeds : goal.returns-in-Err-start-clause-feeds
returns-in-Err-start-clause-feeds g c =
    Feeds-unfed (g.S.Source.faults c.args.source.now) (g.S.Source.taken c.args.source.now) (g.K.Sink.held c.args.sink.now)
    (g.K.Sink.held c.args.sink.now) OutOfMemory refl refl

pub returns-in-Err-start-clause-reads : goal.returns-in-Err-start-clause-reads
returns-in-Err-start-clause-reads g c input is = Reads-none input (g.S.Source.left c.args.source.now) is

pub returns-in-Err-start-clause-serves : goal.returns-in-Err-start-clause-serves
returns-in-Err-start-clause-serves g c input is told none used history stands =
    let opens = c.in-Ok.ensures.opens in
    Serves-unopened (inr refl) is refl (g.met.D.Disk.knows_now c.open.new.disk (opens.tells ∙ told))
    (opened_moments ((opens.told told).history history) (opens.told told).within used none stands)

pub returns-in-Err-clause-ends : goal.returns-in-Err-clause-ends
returns-in-Err-clause-ends g c =
    let opens = c.in-Err.ensures.opens in
    rw c.refuse.ensures.status
    (Ends-unopened StoreState c.in-Err.error opens.tells opens.counted (λ told. (opens.told told).opens)
    (λ told refused. (opens.told told).judged (judged-refused (g.D.Disk.seen c.args.disk.now).told.content refused)) c.refuse.ensures.says)

pub returns-in-Err-clause-feeds : goal.returns-in-Err-clause-feeds
returns-in-Err-clause-feeds g c =
    rw c.refuse.ensures.status (Feeds-unfed (g.S.Source.faults c.args.source.now) (g.S.Source.taken c.args.source.now) (g.K.Sink.held c.args.sink.now)
    (g.K.Sink.held c.refuse.new.sink) (status_of_open c.in-Err.error) refl (unfed-unopened c.in-Err.error _ _ _ _ c.refuse.ensures.says))

pub returns-in-Err-clause-reads : goal.returns-in-Err-clause-reads
returns-in-Err-clause-reads g c input is = rw c.refuse.ensures.status (Reads-refused input (g.S.Source.left c.args.source.now) c.in-Err.error is)

pub returns-in-Err-clause-serves : goal.returns-in-Err-clause-serves
returns-in-Err-clause-serves g c input is told none used history stands =
    let opens = c.in-Err.ensures.opens in
    rw c.refuse.ensures.status
    (Serves-refused {talk = begun_over used c.args.form history} _ _ c.in-Err.error (opens.told told).opens stands.0 c.refuse.ensures.says is
    (g.met.D.Disk.knows_now c.open.new.disk (opens.tells ∙ told))
    (opened_moments ((opens.told told).history history) (opens.told told).within used none stands))
