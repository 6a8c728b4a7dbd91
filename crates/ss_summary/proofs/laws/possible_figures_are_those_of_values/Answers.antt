use Rattle.ss_summary.specs.Summaries.{summary_of}
use Rattle.ss_summary.proofs.Values.{alike-IsPossible, values-IsPossible, IsPossible-summary_of}
use Rattle.ss_summary.proofs.laws.possible_figures_are_those_of_values.Goals as goal

pub returns-clause-values : goal.returns-clause-values
returns-clause-values c = IsPossible-summary_of

pub returns-clause-possible : goal.returns-clause-possible
returns-clause-possible c f = (
  λ possible.
      let are = values-IsPossible f possible in
      (are.0, are.1, are.2, possible.words, possible.min_bit, possible.max_bit),
  λ has. alike-IsPossible f (summary_of has.0) has.2 has.3 has.4 has.5 (IsPossible-summary_of has.0 has.1),
)
