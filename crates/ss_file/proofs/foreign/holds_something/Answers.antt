use Rattle.std.proofs.Common.{◌≡◌, ◌∙◌, ◌+◌, ◌-◌, ◌*◌, ◌<◌, ℕ, length, take, min, ap, subst, sym, rules}
use Rattle.std.proofs.Common.{arith, lit<, length-take}
use Rattle.std.proofs.lemmas.Grind.{div_ceil_times}
use Rattle.std.specs.Int.{div_ceil}
use Rattle.ss_file.proofs.BlankLemmas.{zeros_more}
use Rattle.ss_file.proofs.foreign.holds_something.Goals as goal

pub loop-n-preserved : goal.loop-n-preserved
loop-n-preserved g c = record {
  counts = search rules;
  keeps = search rules;
  fits = search rules;
  zeros = λ image fits whole place from below.
      let at = c.saturating_add-at.result in
      let count = c.min-count.result in
      let rest = c.saturating_sub.result in
      let pieces : c.div_ceil-pieces.result * 4096 < rest + 4096 =
      let P : ℕ → Type 0 = λ p. p * 4096 < rest + 4096 in
      subst P {x = div_ceil rest 4096} (sym c.div_ceil-pieces.ensures) (div_ceil_times rest 4096 (lit< tt)).1 in
      let before : c.loop-n.n * 4096 < rest = omega (arith, pieces, c.loop-n-test.true) in
      let here : at ≡ 36864 + c.loop-n.n * 4096 =
      omega (arith, before, c.saturating_sub.ensures, c.saturating_mul.ensures, c.saturating_add-at.ensures, c.ranges.size.fits) in
      let few : count ≡ min (length image - at) 4096 =
      c.min-count.ensures ∙ ap (λ s. min s 4096) (c.saturating_sub-in-loop-n.ensures ∙ ap (λ l. l - at) whole) in
      let room : length c.loop-n.piece ≡ 4096 = search rules in
      let taken : length (take count c.loop-n.piece) ≡ count = omega (arith, length-take count c.loop-n.piece, room, few) in
      let finds = (c.in_ok-reads_zeros.ensures.finds (omega (arith, here, few, whole, taken, before)) image fits).0 c.if-not-branch.false in
      zeros_more image 36864 c.loop-n.n 4096 at count here few
      (c.loop-n.invariant.zeros image (c.reads_zeros.ensures.fits image fits) whole)
      (λ k lt. finds k (omega (arith, taken, lt))) place from below;
}
