use Rattle.ss_program.proofs.Common.{◌∙◌, Err, Ok, ap, state, shown_by, refuses_query_held, refuses_reading_held, Brought}
use Rattle.ss_program.proofs.AnswerLemmas.{brings-answer_replies, brings-unanswered, not_unanswered, refuses_query-kept}
use Rattle.ss_program.proofs.NewestLemmas.{brings-newest, brings-unlooked, refuses_reading-kept}
use Rattle.ss_program.proofs.StepLemmas.{step-given}
use Rattle.ss_program.proofs.answer.ask.Goals as goal

pub returns-in-Ok-clause-asks : goal.returns-in-Ok-clause-asks
returns-in-Ok-clause-asks g c =
    let query = c.in-Query.query in
    let store = c.args.store.now in
    rw c.in-Query.is (step-given c.in-Ok.ensures.answers (λ told answers. record {
      answer = λ history stands.
          let image = shown_by store.records (g.D.Disk.seen c.args.disk.now).told.content in
          let none = refuses_query-kept store image history query (c.requires.serves.kept told).shown stands
          ∙ not_unanswered (Ok c.in-Ok.outcome) (refuses_query_held store.streams query) (c.in-Ok.ensures.refused c.requires.serves.runs) (λ r is. cc) in
          ap (λ (b : Brought). b.replies) (brings-answer_replies history query c.in-Ok.outcome none (answers.answer (state history) stands.state));
      reads = answers.reads;
    }))

pub returns-in-Err-Refused-clause-asks : goal.returns-in-Err-Refused-clause-asks
returns-in-Err-Refused-clause-asks g c =
    let query = c.in-Query.query in
    let store = c.args.store.now in
    let e = c.in-Err-Refused.field-0-is in
    let answers = rw e at c.in-Err-Refused.ensures.answers in
    rw c.in-Query.is (record {
      tells = answers.tells;
      counted = answers.counted;
      told = λ told. record {
        answer = λ history stands.
            let image = shown_by store.records (g.D.Disk.seen c.args.disk.now).told.content in
            ap (λ (b : Brought). b.replies) (brings-unanswered history query c.in-Err-Refused.refusal
            (refuses_query-kept store image history query (c.requires.serves.kept told).shown stands
            ∙ (c.in-Err-Refused.ensures.refused c.requires.serves.runs c.in-Err-Refused.refusal).0 (ap (λ e. Err e) e)));
        reads = (answers.told told).reads;
      };
    })

pub returns-in-Ok-newest-clause-asks : goal.returns-in-Ok-newest-clause-asks
returns-in-Ok-newest-clause-asks g c =
    let name = c.in-Newest.name in
    let store = c.args.store.now in
    rw c.in-Newest.is (step-given c.in-Ok-newest.ensures.tells (λ told tells. record {
      answer = λ history stands.
          let image = shown_by store.records (g.D.Disk.seen c.args.disk.now).told.content in
          let none = refuses_reading-kept store image history name (c.requires.serves.kept told).shown stands
          ∙ not_unanswered (Ok c.in-Ok-newest.newest) (refuses_reading_held store.streams name)
          (c.in-Ok-newest.ensures.refused c.requires.serves.runs) (λ r is. cc) in
          ap (λ (b : Brought). b.replies) (brings-newest history name c.in-Ok-newest.newest none (tells.newest (state history) stands.state));
      reads = tells.reads;
    }))

pub returns-in-Err-Refused-newest-clause-asks : goal.returns-in-Err-Refused-newest-clause-asks
returns-in-Err-Refused-newest-clause-asks g c =
    let name = c.in-Newest.name in
    let store = c.args.store.now in
    let e = c.in-Err-Refused-newest.field-0-is in
    let tells = rw e at c.in-Err-Refused-newest.ensures.tells in
    rw c.in-Newest.is (record {
      tells = tells.tells;
      counted = tells.counted;
      told = λ told. record {
        answer = λ history stands.
            let image = shown_by store.records (g.D.Disk.seen c.args.disk.now).told.content in
            ap (λ (b : Brought). b.replies) (brings-unlooked history name c.in-Err-Refused-newest.refusal
            (refuses_reading-kept store image history name (c.requires.serves.kept told).shown stands
            ∙ (c.in-Err-Refused-newest.ensures.refused c.requires.serves.runs c.in-Err-Refused-newest.refusal).0 (ap (λ e. Err e) e)));
        reads = (tells.told told).reads;
      };
    })
