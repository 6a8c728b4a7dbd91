use Rattle.ss_program.proofs.Common.{◌≡◌, ◌∙◌, ◌<◌, None, Err, IsTrue, ap, arith, rules, row_count, whole_query, refuses_query_held, refuses_series, Series}
use Rattle.ss_program.proofs.Common.{state, DiskView, reads-none, step-none, Stands, StoreState, IsOpen, History}
use Rattle.ss_program.proofs.AnswerLemmas.{StoreIsIn-open, refuses_query-kept}
use Rattle.ss_program.proofs.SeriesLemmas.{row-taken_held, series-ended, series-taken, series-unread}
use Rattle.ss_program.proofs.StepLemmas.{step-given}
use Rattle.ss_program.proofs.series.next_answer.Goals as goal

-- no history for which the content stands refuses the series
unrefused : (store : StoreState) (disk : DiskView) (series : Series) → IsOpen disk store → refuses_query_held store.streams (whole_query series) ≡ None →
    IsTrue disk.tells → (history : History) → Stands history disk.told.content → refuses_series (state history) series ≡ None
unrefused store disk series opens taken told history stands =
    refuses_query-kept store disk.told.content history (whole_query series) (StoreIsIn-open disk store opens told) stands ∙ taken

pub returns-then-next-rows-clause-takes : goal.returns-then-next-rows-clause-takes
returns-then-next-rows-clause-takes g c =
    let disk = g.D.Disk.seen c.args.disk.now in
    let series = c.args.series.now in
    step-none disk _ (λ told. record {
      row = λ history stands.
          let none = series-ended (state history) series (unrefused c.args.store.now disk series c.requires.open c.requires.stands.taken told history stands)
          c.args.next.now (omega (arith, c.rows.ensures)) in
          (none, none);
      reads = reads-none disk.told;
    })

pub answer_query-requires-clause-taken : goal.answer_query-requires-clause-taken
answer_query-requires-clause-taken g c =
    let store = c.args.store.now in
    let series = c.args.series.now in
    let inside : c.args.next.now < row_count series = omega (arith, c.rows.ensures) in
    ap (λ q. refuses_query_held store.streams q) c.row-query.ensures
    ∙ row-taken_held store series c.args.next.now c.requires.stands.range.some inside c.requires.stands.taken

pub returns-in_err-outcome-clause-takes : goal.returns-in_err-outcome-clause-takes
returns-in_err-outcome-clause-takes g c =
    let disk = g.D.Disk.seen c.args.disk.now in
    let series = c.args.series.now in
    let status = c.in_err-outcome.field-0.0 in
    let same : c.from_residual.result ≡ Err status = search rules in
    rw same
    (step-given c.in_err-outcome.ensures.answers (λ told answers. record {
      row = λ history stands.
          series-unread (state history) series (unrefused c.args.store.now disk series c.requires.open c.requires.stands.taken told history stands)
          c.args.next.now (omega (arith, c.rows.ensures));
      reads = answers.reads;
    }))

pub returns-clause-takes : goal.returns-clause-takes
returns-clause-takes g c =
    let disk = g.D.Disk.seen c.args.disk.now in
    let series = c.args.series.now in
    step-given c.in_ok-outcome.ensures.answers (λ told answers. record {
      row = λ history stands.
          series-taken (state history) series (unrefused c.args.store.now disk series c.requires.open c.requires.stands.taken told history stands)
          c.args.next.now c.row-query.result c.in_ok-outcome.outcome (omega (arith, c.rows.ensures)) c.row-query.ensures (answers.answer history stands);
      reads = answers.reads;
    })
