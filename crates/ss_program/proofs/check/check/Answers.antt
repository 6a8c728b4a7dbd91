use Rattle.ss_program.proofs.Common.{◌∙◌, refl, sym, survey_of, Survey, survey_line, Done, SinkFault}
use Rattle.ss_program.proofs.EndLemmas.{Ends-opened, Ends-unopened, surveys-opens, unfed-unopened}
use Rattle.ss_program.proofs.OpeningLemmas.{surveyed, unopened}
use Rattle.ss_program.proofs.SendLemmas.{AppendsFront-all, appended-nil}
use Rattle.ss_program.proofs.TakesLemmas.{still}
use Rattle.ss_program.proofs.check.check.Goals as goal

pub returns-in-Ok-send_survey-clause-ends : goal.returns-in-Ok-send_survey-clause-ends
returns-in-Ok-send_survey-clause-ends g c =
    Ends-opened Done c.in-Ok.ensures.surveys (λ found. (found.surveys.0, found.surveys.1)) (still (g.D.Disk.seen c.survey.new.disk)) tt
    c.in-Ok-send_survey.ensures.counted

pub returns-in-Ok-send_survey-clause-checks : goal.returns-in-Ok-send_survey-clause-checks
returns-in-Ok-send_survey-clause-checks g c told =
    let before = g.K.Sink.held c.args.sink.now in
    let after = g.K.Sink.held c.send_survey.new.sink in
    let found = c.in-Ok.ensures.surveys.told told in
    record {
      unwritten = found.reads;
      says = λ streams is.
          let same = surveyed (g.D.Disk.seen c.args.disk.now).told.content streams c.in-Ok.survey found.surveys is in
          let sent = rw same at c.in-Ok-send_survey.ensures.sends in
          record {
            front = AppendsFront-all before after (survey_line (survey_of streams)) sent;
            whole = λ _. sent;
            silent = λ going. absurd (going refl);
          };
    }

pub returns-in-Err-send_survey-clause-ends : goal.returns-in-Err-send_survey-clause-ends
returns-in-Err-send_survey-clause-ends g c =
    Ends-opened SinkFault c.in-Ok.ensures.surveys (λ found. (found.surveys.0, found.surveys.1)) (still (g.D.Disk.seen c.survey.new.disk)) tt
    c.in-Err-send_survey.ensures.counted

pub returns-in-Err-send_survey-clause-checks : goal.returns-in-Err-send_survey-clause-checks
returns-in-Err-send_survey-clause-checks g c told =
    let before = g.K.Sink.held c.args.sink.now in
    let after = g.K.Sink.held c.send_survey.new.sink in
    let found = c.in-Ok.ensures.surveys.told told in
    record {
      unwritten = found.reads;
      says = λ streams is.
          let same = surveyed (g.D.Disk.seen c.args.disk.now).told.content streams c.in-Ok.survey found.surveys is in
          let less = rw same at c.in-Err-send_survey.ensures.sends in
          record { front = (less.0, less.2); whole = λ w. cc; silent = λ _ other. absurd (other refl) };
    }

pub returns-in-Err-clause-ends : goal.returns-in-Err-clause-ends
returns-in-Err-clause-ends g c =
    let surveys = c.in-Err.ensures.surveys in
    rw c.refuse.ensures.status
    (Ends-unopened Survey c.in-Err.error surveys.tells surveys.counted
    (λ told. surveys-opens (g.D.Disk.seen c.args.disk.now).told.content c.in-Err.error (surveys.told told).surveys)
    (λ told refused. (surveys.told told).reads) c.refuse.ensures.says)

pub returns-in-Err-clause-unfed : goal.returns-in-Err-clause-unfed
returns-in-Err-clause-unfed g c = rw c.refuse.ensures.status (unfed-unopened c.in-Err.error _ _ _ _ c.refuse.ensures.says)

pub returns-in-Err-clause-checks : goal.returns-in-Err-clause-checks
returns-in-Err-clause-checks g c told =
    let content = (g.D.Disk.seen c.args.disk.now).told.content in
    let before = g.K.Sink.held c.args.sink.now in
    let found = c.in-Err.ensures.surveys.told told in
    record {
      unwritten = found.reads;
      says = λ streams is.
          let un = unopened content streams _ _ c.in-Err.error is (surveys-opens content c.in-Err.error found.surveys) c.refuse.ensures.says in
          rw c.refuse.ensures.status (record { front = (0, un.0 ∙ sym (appended-nil before)); whole = λ done. absurd (un.1 done); silent = λ _ _. un.0 });
    }
