use Rattle.std.proofs.Common.{rules, arith, pos, ◌<◌, ◌^◌, get_or}
use Rattle.ss_model.specs.declared.types.Run.{Run}
use Rattle.ss_certify.proofs.RunLemmas.{run_count-more}
use Rattle.ss_certify.proofs.runs.count.Goals as goal

pub loop-run-preserved : goal.loop-run-preserved
loop-run-preserved c =
    let blank : Run = record { value = pos 0; times = 0 } in
    let small : (get_or c.args.runs.now c.loop-run.run-index blank).times < 2 ^ 64 = search rules in
    let more = run_count-more c.args.runs.now c.loop-run.run-index blank c.loop-run-test.true in
    record { is = omega arith; few = omega arith }
