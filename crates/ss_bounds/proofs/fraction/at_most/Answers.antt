use Rattle.std.proofs.Common.{◌≡◌, rules, FitsSigned, arith, sym, ◌∙◌}
use Rattle.std.specs.Int.{w128}
use Rattle.std.proofs.lemmas.Int.{ints, to_z-of_z}
use Rattle.ss_bounds.proofs.FractionLemmas.{compare-rests, compare-wholes}
use Rattle.ss_bounds.proofs.fraction.at_most.Goals as goal

pub returns-then-whole-other : goal.returns-then-whole-other
returns-then-whole-other c =
    let whole : FitsSigned w128 c.parted-whole.result.0 = search rules in
    let other : FitsSigned w128 c.parted-other.result.0 = search rules in
    let first : FitsSigned w128 c.args.a.over = search rules in
    let second : FitsSigned w128 c.args.b.over = search rules in
    let same : c.parted-whole.result.0 ≡ c.parted-other.result.0 = omega (arith, ints) in
    rw (c.from.ensures, c.from-2.ensures, c.from-3.ensures, c.from-4.ensures)
    (compare-rests c.args.a c.args.b c.parted-whole.result.0 c.parted-other.result.0 c.parted-whole.result.1 c.parted-other.result.1
    (sym (to_z-of_z w128 c.args.a.over first) ∙ c.parted-whole.ensures.whole) (sym (to_z-of_z w128 c.args.b.over second) ∙ c.parted-other.ensures.whole)
    c.parted-whole.ensures.proper c.parted-other.ensures.proper same)

pub returns-else-whole-other : goal.returns-else-whole-other
returns-else-whole-other c =
    let whole : FitsSigned w128 c.parted-whole.result.0 = search rules in
    let other : FitsSigned w128 c.parted-other.result.0 = search rules in
    let first : FitsSigned w128 c.args.a.over = search rules in
    let second : FitsSigned w128 c.args.b.over = search rules in
    let apart : c.parted-whole.result.0 ≡ c.parted-other.result.0 → ⊥ = λ same. absurd (omega (arith, ints)) in
    rw (to_z-of_z w128 c.parted-whole.result.0 whole, to_z-of_z w128 c.parted-other.result.0 other)
    (compare-wholes c.args.a c.args.b c.parted-whole.result.0 c.parted-other.result.0 c.parted-whole.result.1 c.parted-other.result.1
    (sym (to_z-of_z w128 c.args.a.over first) ∙ c.parted-whole.ensures.whole) (sym (to_z-of_z w128 c.args.b.over second) ∙ c.parted-other.ensures.whole)
    c.parted-whole.ensures.proper c.parted-other.ensures.proper apart)
