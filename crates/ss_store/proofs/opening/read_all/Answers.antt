use Rattle.ss_store.proofs.Common.{err_from_is_err_and, reads-joined, step-then, after-step}
use Rattle.ss_outside.proofs.StepLemmas.{step-verdict}
use Rattle.ss_store.proofs.Opens.{IsRebuilt-from, OpensAs-journal, OpensAs-recover, StandsFor-kept, firm-journal, firm-recover, verdict-journal}
use Rattle.ss_store.proofs.Opens.{verdict-recover}
use Rattle.ss_store.proofs.Steps.{step-handed}
use Rattle.ss_store.proofs.opening.read_all.Goals as goal

pub returns-in_err-journal-clause-reads : goal.returns-in_err-journal-clause-reads
returns-in_err-journal-clause-reads g c =
    let why = c.in_err-journal.field-0.0 in
    let p = err_from_is_err_and c.from_residual.result c.from_residual.ensures.1 in
    rw (p.1, p.2)
    (step-verdict (verdict-journal (Unit {0}) (Unit {0}) why) c.in_err-journal.ensures.opens (λ opened. record {
      rebuilt = tt;
      opens = OpensAs-journal _ why opened.opens;
      kept = tt;
      reads = opened.reads;
    }))

pub returns-in_err-journal-clause-unchanged : goal.returns-in_err-journal-clause-unchanged
returns-in_err-journal-clause-unchanged g c =
    let p = err_from_is_err_and c.from_residual.result c.from_residual.ensures.1 in
    rw (p.1, p.2) (firm-journal (Unit {0}) c.in_err-journal.field-0.0)

pub rebuild-requires-clause-one_disk : goal.rebuild-requires-clause-one_disk
rebuild-requires-clause-one_disk g c = after-step c.in_ok-journal.ensures.opens (λ told has. rw has.reads.same.content has.opens)

pub returns-in_err-read-clause-reads : goal.returns-in_err-read-clause-reads
returns-in_err-read-clause-reads g c =
    let why = c.in_err-read.field-0.0 in
    let p = err_from_is_err_and c.from_residual-in_err-read.result c.from_residual-in_err-read.ensures.1 in
    rw (p.1, p.2)
    (step-handed (verdict-recover (Unit {0}) (Unit {0}) why) c.in_ok-journal.ensures.opens c.in_err-read.ensures.rebuilds (λ told first second.
    let found = first.opens.shown.found in
    let is = StandsFor-kept c.in_ok-journal.journal _ first.opens c.in_ok-journal.ensures.sealed in
    record {
      rebuilt = tt;
      opens = OpensAs-recover _ found why is (second.carried found (rw first.reads.same.content is));
      kept = tt;
      reads = reads-joined _ _ _ first.reads second.reads;
    }))

pub returns-in_err-read-clause-unchanged : goal.returns-in_err-read-clause-unchanged
returns-in_err-read-clause-unchanged g c =
    let p = err_from_is_err_and c.from_residual-in_err-read.result c.from_residual-in_err-read.ensures.1 in
    rw (p.1, p.2) (firm-recover (Unit {0}) c.in_err-read.field-0.0)

pub returns-clause-reads : goal.returns-clause-reads
returns-clause-reads g c =
    step-then c.in_ok-journal.ensures.opens c.in_ok-read.ensures.rebuilds (λ first second. record {
      rebuilt = IsRebuilt-from c.in_ok-journal.journal c.in_ok-read.read.1 _ c.in_ok-journal.ensures.sealed first.opens
          (λ found is. second.carried found (rw first.reads.same.content is));
      opens = tt;
      kept = second.kept;
      reads = reads-joined _ _ _ first.reads second.reads;
    })
