use Rattle.ss_program.proofs.Common.{◌∙◌, ◌∷◌, sym, head_of, ap, state, reads-none, step-none, Brought}
use Rattle.ss_program.proofs.AnswerLemmas.{StoreIsIn-open, refuses_query-kept}
use Rattle.ss_program.proofs.CertifyLemmas.{brings-certified, brings-refused_certify}
use Rattle.ss_program.proofs.StepLemmas.{step-given}
use Rattle.ss_program.specs.Certifying.{sides_told}
use Rattle.ss_program.proofs.certifying.begin_certificate.Goals as goal

pub returns-in-Some-clause-begins : goal.returns-in-Some-clause-begins
returns-in-Some-clause-begins g c =
    let store = c.args.store.now in
    let query = c.args.query.now in
    let disk = g.D.Disk.seen c.args.disk.now in
    step-none disk _ (λ told. record {
      answer = λ history stands. ap (λ (b : Brought). b.replies) (brings-refused_certify history query c.args.end c.in-Some.refusal
          (refuses_query-kept store disk.told.content history query (StoreIsIn-open disk store c.requires.open told) stands ∙ sym c.in-Some.ensures));
      reads = reads-none disk.told;
    })

pub returns-clause-begins : goal.returns-clause-begins
returns-clause-begins g c =
    let store = c.args.store.now in
    let query = c.args.query.now in
    let disk = g.D.Disk.seen c.args.disk.now in
    let w = c.in_ok-evidence.evidence in
    step-given c.in_ok-evidence.ensures.finds (λ told finds. record {
      answer = λ history stands. ap (λ (b : Brought). b.replies) (brings-certified history query c.args.end w
          (refuses_query-kept store disk.told.content history query (StoreIsIn-open disk store c.requires.open told) stands ∙ sym c.in_default.ensures)
          (finds.answer (state history) stands.state))
          ∙ ap (λ r. r ∷ sides_told w) (sym c.head.ensures) ∙ ap (λ rs. c.head.result ∷ rs) (sym c.sides_of-lines.ensures);
      reads = finds.reads;
    })

pub returns-clause-right : goal.returns-clause-right
returns-clause-right g c taken =
    let w = c.in_ok-evidence.evidence in (
      w,
      c.in_ok-evidence.ensures.right,
      λ parts streams. ap (λ r. r ∷ c.sides_of-lines.result.items) c.head.ensures
          ∙ ap (λ rs. head_of w ∷ rs) c.sides_of-lines.ensures,
    )
