use Rattle.std.proofs.Common.{◌≡◌, ◌==◌, ◌^◌, ◌<◌, nat_lt, ◌&&◌, Bool, true, false, rules, refl, subst}
use Rattle.ss_catalog.specs.Names.{is_name}
use Rattle.ss_catalog.specs.Params.{in_range}
use Rattle.ss_codec.specs.Record.{has_small_step}
use Rattle.ss_codec.proofs.RecordLemmas.{test-small}
use Rattle.ss_frames.proofs.frame.is_first.Goals as goal

and_true : (b : Bool) → b ≡ (b && true)
and_true true = refl
and_true false = refl

pub returns-then-number-eq1 : goal.returns-then-number-eq1
returns-then-number-eq1 c =
    let first : (c.args.number == 1) ≡ true = search rules in
    let named : is_name c.args.name.now ≡ true = search rules in
    let fits : c.step_number-step.result < 2 ^ 32 = search rules in
    let small : has_small_step c.args.params.now ≡ true =
    subst (λ n. nat_lt n (2 ^ 32) ≡ true) c.step_number-step.ensures (test-small c.step_number-step.result fits) in
    rw (first, named, small, c.in_range.ensures) (and_true (in_range c.args.params.now))
