use Rattle.std.proofs.Common.{rules, FitsSigned, w64, pos, get_or, to_z}
use Rattle.std.specs.Int.{w128}
use Rattle.ss_model.specs.declared.types.Run.{Run}
use Rattle.ss_certify.proofs.RunLemmas.{computed-more}
use Rattle.ss_certify.proofs.runs.total.Goals as goal

pub overflow_add-total : goal.overflow_add-total
overflow_add-total c =
    let d : Run = record { value = pos 0; times = 0 } in
    let fits : FitsSigned w64 (get_or c.args.runs.now c.loop-run.run-index d).value = search rules in
    (computed-more c.args.runs.now c.loop-run.run-index d (to_z w128 c.loop-run.total-bits) c.from.result c.from-in-loop-run.result
    c.loop-run-test.true fits c.requires c.loop-run.invariant.is c.loop-run.invariant.near c.from.ensures c.from-in-loop-run.ensures).0

pub loop-run-preserved : goal.loop-run-preserved
loop-run-preserved c =
    let d : Run = record { value = pos 0; times = 0 } in
    let fits : FitsSigned w64 (get_or c.args.runs.now c.loop-run.run-index d).value = search rules in
    let more = computed-more c.args.runs.now c.loop-run.run-index d (to_z w128 c.loop-run.total-bits) c.from.result c.from-in-loop-run.result
    c.loop-run-test.true fits c.requires c.loop-run.invariant.is c.loop-run.invariant.near c.from.ensures c.from-in-loop-run.ensures in
    record { is = more.1; near = more.2 }
