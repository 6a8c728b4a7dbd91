use Rattle.std.proofs.Common.{◌/◌, ◌%◌, arith, inl, inr}
use Rattle.std.proofs.lemmas.Cmp.{ranked}
use Rattle.ss_bounds.proofs.RatioLemmas.{compare-whole, compare-rest, compare-none, compare-turned}
use Rattle.ss_bounds.proofs.ratio.+compare.Goals as goal

pub returns-then-whole-other : goal.returns-then-whole-other
returns-then-whole-other t c =
    compare-whole c.args.a c.args.b c.args.c c.args.d (c.args.a / c.args.b) (c.args.a % c.args.b) (c.args.c / c.args.d) (c.args.c % c.args.d)
    (omega arith) (omega arith) (omega arith) (omega arith) c.cmp.result
    (ranked (c.args.a / c.args.b) (c.args.c / c.args.d) c.cmp.result c.cmp.ensures) (λ same. absurd (omega arith))

pub returns-then-other_rest-eq0 : goal.returns-then-other_rest-eq0
returns-then-other_rest-eq0 t c =
    compare-rest c.args.a c.args.b c.args.c c.args.d (c.args.a / c.args.b) (c.args.a % c.args.b) (c.args.c / c.args.d) (c.args.c % c.args.d)
    (omega arith) (omega arith) (omega arith) (omega arith) (omega arith) c.cmp-then-other_rest-eq0.result
    (compare-none c.args.b c.args.d (c.args.a % c.args.b) (c.args.c % c.args.d) c.requires.first c.requires.second
    (elim c.if-other_rest-eq0.either [ inl none ↦ inl none | inr none ↦ inr none.1 ]) c.cmp-then-other_rest-eq0.result
    (ranked (c.args.a % c.args.b) (c.args.c % c.args.d) c.cmp-then-other_rest-eq0.result c.cmp-then-other_rest-eq0.ensures))

pub returns-else-other_rest-eq0 : goal.returns-else-other_rest-eq0
returns-else-other_rest-eq0 t c =
    compare-rest c.args.a c.args.b c.args.c c.args.d (c.args.a / c.args.b) (c.args.a % c.args.b) (c.args.c / c.args.d) (c.args.c % c.args.d)
    (omega arith) (omega arith) (omega arith) (omega arith) (omega arith) c.compare.result
    (compare-turned c.args.b c.args.d (c.args.a % c.args.b) (c.args.c % c.args.d) c.compare.result c.compare.ensures)
