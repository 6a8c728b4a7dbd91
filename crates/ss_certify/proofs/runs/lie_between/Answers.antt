use Rattle.std.proofs.Common.{rules, arith, ◌≤ℤ◌, All, pos, to_z, of_z, w64}
use Rattle.std.proofs.lemmas.Int.{to_z-of_z, ints}
use Rattle.std.proofs.lemmas.List.Elements.{All-more, All-weaker}
use Rattle.std.proofs.lemmas.List.{take_all}
use Rattle.ss_model.specs.declared.types.Run.{Run}
use Rattle.ss_certify.proofs.runs.lie_between.Goals as goal

pub loop-run-preserved : goal.loop-run-preserved
loop-run-preserved c =
    let blank : Run = record { value = pos 0; times = 0 } in
    let P : Run → Type 0 = λ r. (to_z w64 (of_z w64 c.args.min) ≤ℤ r.value) × (r.value ≤ℤ to_z w64 (of_z w64 c.args.max)) in
    All-more P c.args.runs.now c.loop-run.run-index blank c.loop-run-test.true c.loop-run.invariant
    (c.lies_between.ensures.0 (rw c.if-not-lies_between.false (search rules)))

pub returns : goal.returns
returns c =
    let P : Run → Type 0 = λ r. (to_z w64 (of_z w64 c.args.min) ≤ℤ r.value) × (r.value ≤ℤ to_z w64 (of_z w64 c.args.max)) in
    let Q : Run → Type 0 = λ r. (c.args.min ≤ℤ r.value) × (r.value ≤ℤ c.args.max) in
    let min_is = to_z-of_z w64 c.args.min c.ranges.min in
    let max_is = to_z-of_z w64 c.args.max c.ranges.max in
    let all : All P c.args.runs.now = rw (take_all _ c.args.runs.now c.loop-run-test.false) at c.loop-run.invariant in
    ((λ _. All-weaker P Q (λ r h. (omega (arith, ints, h.0), omega (arith, ints, h.1))) c.args.runs.now all), λ _. search rules)
