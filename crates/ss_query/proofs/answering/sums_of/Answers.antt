use Rattle.std.proofs.Common.{◌∙◌, ap, sym}
use Rattle.ss_bounds.specs.Split.{sum_interval}
use Rattle.ss_query.proofs.NearSums.{sums-near}
use Rattle.ss_query.proofs.answering.sums_of.Goals as goal

pub returns-in-Some-clause-near : goal.returns-in-Some-clause-near
returns-in-Some-clause-near c = rw (c.sum_bounds.ensures ∙ ap sum_interval (sym c.split.view_is)) (sums-near _ c.split.invariant)
