use Rattle.ss_program.proofs.Common.{◌∙◌, ◌∷◌, sym, ap, SeriesHead, state, series_rows, whole_query, refuses_query_held, Brought}
use Rattle.ss_program.proofs.AnswerLemmas.{refuses_query-kept}
use Rattle.ss_program.proofs.SeriesLemmas.{brings-refused_series, brings-series}
use Rattle.ss_program.proofs.series.begin_series.Goals as goal

pub returns-in-Some : goal.returns-in-Some
returns-in-Some c =
    let store = c.args.store.now in
    let series = c.args.series.now in
    let judged = c.in-Some.ensures ∙ ap (λ q. refuses_query_held store.streams q) c.whole_query.ensures in
    record {
      brings = λ content kept history stands. ap (λ (b : Brought). b.replies) (brings-refused_series history series c.in-Some.refusal
          (refuses_query-kept store content history (whole_query series) kept stands ∙ sym judged));
      stand = tt;
    }

pub returns : goal.returns
returns c =
    let store = c.args.store.now in
    let series = c.args.series.now in
    let judged = c.in_default.ensures ∙ ap (λ q. refuses_query_held store.streams q) c.whole_query.ensures in
    record {
      brings = λ content kept history stands. ap (λ (b : Brought). b.replies)
          (brings-series history series (refuses_query-kept store content history (whole_query series) kept stands ∙ sym judged))
          ∙ ap (λ n. SeriesHead series.kind n ∷ series_rows (state history) series) (sym c.rows.ensures);
      stand = record { range = c.requires; taken = sym judged };
    }
