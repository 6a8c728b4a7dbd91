use Rattle.std.specs.Prelude.{FitsSigned}
use Rattle.std.specs.Int.{w64, w128}
use Rattle.std.proofs.Common.{◌≡◌, cond, Some, None, rules, subst}
use Rattle.std.proofs.lemmas.Int.{to_z-of_z}
use Rattle.ss_summary.specs.Figures.{Figures}
use Rattle.ss_summary.specs.Possible.{is_possible}
use Rattle.ss_codec.specs.Decoded.{figures_in}
use Rattle.ss_codec.proofs.RecordLemmas.{tested_figures}
use Rattle.ss_codec.proofs.decoding.summary_in.Goals as goal

pub returns : goal.returns
returns c =
    let sum_fits : FitsSigned w128 c.get_i128-sum.result = search rules in
    let min_fits : FitsSigned w64 c.get_i64-min.result = search rules in
    let max_fits : FitsSigned w64 c.get_i64-max.result = search rules in
    let sum_is = to_z-of_z w128 c.get_i128-sum.result sum_fits in
    let min_is = to_z-of_z w64 c.get_i64-min.result min_fits in
    let max_is = to_z-of_z w64 c.get_i64-max.result max_fits in
    let found : Figures = record {
      count = c.get_u64-count.result;
      sum = c.get_i128-sum.result;
      min = c.get_i64-min.result;
      max = c.get_i64-max.result;
      t_first = c.get_u64-t_first.result;
      t_last = c.get_u64-t_last.result;
      filter = c.filter_in-filter.result;
    } in
    let same : found ≡ figures_in c.args.bytes.now = λ i. record {
      count = c.get_u64-count.ensures i;
      sum = c.get_i128-sum.ensures i;
      min = c.get_i64-min.ensures i;
      max = c.get_i64-max.ensures i;
      t_first = c.get_u64-t_first.ensures i;
      t_last = c.get_u64-t_last.ensures i;
      filter = c.filter_in-filter.ensures i;
    } in
    let possible = rw (sum_is, min_is, max_is) at c.of.ensures.possible in
    let figures = rw (sum_is, min_is, max_is) at c.of.ensures.figures in
    subst (λ (f : Figures). c.of.result ≡ cond (is_possible f) (Some f) None) same (tested_figures c.of.result found possible figures)
