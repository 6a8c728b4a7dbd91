use Rattle.std.proofs.Common.{ap, arith, sym, ◌∙◌}
use Rattle.std.proofs.lemmas.Int.{ints, to_z-of_z}
use Rattle.std.specs.Int.{w128}
use Rattle.ss_bounds.specs.Means.{so_many}
use Rattle.ss_certify.specs.Runs.{run_count, run_total}
use Rattle.ss_certify.proofs.RunLemmas.{total-values_of_runs}
use Rattle.ss_certify.proofs.values.certified.Goals as goal

pub returns-clause-value : goal.returns-clause-value
returns-clause-value c =
    let is = c.total.ensures.value ∙ ap run_total c.as_slice.ensures.value ∙ sym (total-values_of_runs c.args.cert.now.inside.items) in
    let count = ap run_count c.as_slice.ensures.value in
    let near = c.total.ensures.near in
    ap (λ z. so_many (λ n. z) c.args.cert.now.x) (to_z-of_z w128 c.total.result (omega (arith, ints, c.requires.0)) ∙ is)
