use Rattle.std.proofs.Common.{arith, ◌≡◌, ◌∙◌, ap, sym, ℤ, ◌<◌, length, ◌+◌, ◌+ℤ◌, ◌++◌, ◌∷◌, [], Some, get_or, take, map, pos}
use Rattle.std.specs.Prelude.{FitsSigned}
use Rattle.std.specs.Int.{w64, w128}
use Rattle.std.proofs.lemmas.Int.{ints, to_z-of_z}
use Rattle.std.proofs.lemmas.List.{map_more}
use Rattle.std.proofs.lemmas.List.Elements.{All-get_or}
use mir.Val.{to_z, of_z}
use Rattle.ss_landmarks.specs.Stored.{bare_value}
use Rattle.ss_landmarks.specs.ValuesIn.{total, least, greatest, least_with, greatest_with}
use Rattle.ss_landmarks.specs.declared.stored.StoredValue.{StoredValue}
use Rattle.ss_landmarks.proofs.ValueLemmas.{total_push, least_push, greatest_push, sum_low, sum_high, sum_fits}
use Rattle.ss_landmarks.proofs.tally.tally_of.Goals as goal

pub loop-value-preserved : goal.loop-value-preserved
loop-value-preserved c =
    let values = c.args.values.now in
    let i = c.loop-value.value-index in
    let d : StoredValue = record { t = 0; v = pos 0; slot = 0 } in
    let below : i < length values = c.loop-value-test.true in
    let v = (get_or values i d).v in
    let fits : FitsSigned w64 v = All-get_or (λ (value : StoredValue). FitsSigned w64 value.v) values i d below c.requires in
    let same : to_z w64 (of_z w64 v) ≡ v = to_z-of_z w64 v fits in
    let more : map bare_value (take (i + 1) values) ≡ map bare_value (take i values) ++ bare_value (get_or values i d)
    ∷ [] = map_more bare_value values i d below in
    let done = map bare_value (take i values) in
    let sum : total (map bare_value (take (i + 1) values)) ≡ total done +ℤ v = ap total more ∙ total_push done (bare_value (get_or values i d)) in
    let least_more : least (map bare_value (take (i + 1) values)) ≡ Some (least_with v (least done)) = ap least more ∙
    least_push done (bare_value (get_or values i d)) in
    let greatest_more : greatest (map bare_value (take (i + 1) values)) ≡ Some (greatest_with v (greatest done)) = ap greatest more ∙
    greatest_push done (bare_value (get_or values i d)) in
    let taken : c.from-sum.result ≡ v = c.from-sum.ensures ∙ same in
    let taken_fits : to_z w128 (of_z w128 c.from-sum.result) ≡ c.from-sum.result = to_z-of_z w128 c.from-sum.result (omega (arith, ints)) in
    let before : ℤ = to_z w128 c.loop-value.sum-bits in
    let added : before +ℤ to_z w128 (of_z w128 c.from-sum.result) ≡ before +ℤ v = ap (λ (x : ℤ). before +ℤ x) (taken_fits ∙ taken) in
    let whole : to_z w128 (of_z w128 (before +ℤ to_z w128 (of_z w128 c.from-sum.result))) ≡ before +ℤ v =
    ap (λ (x : ℤ). to_z w128 (of_z w128 x)) added
    ∙ to_z-of_z w128 (before +ℤ v)
    (sum_fits i before v c.loop-value.invariant.low c.loop-value.invariant.high fits (omega (arith, below, c.well_formed.0.1))) in
    let least_is : c.least_with.result ≡ least_with v (least done) = c.least_with.ensures ∙ ap (λ (x : ℤ). least_with x c.loop-value.least) same ∙
    ap (least_with v) c.loop-value.invariant.least in
    let greatest_is : c.greatest_with.result ≡ greatest_with v (greatest done) = c.greatest_with.ensures ∙
    ap (λ (x : ℤ). greatest_with x c.loop-value.greatest) same ∙
    ap (greatest_with v) c.loop-value.invariant.greatest in
    record {
      count = omega arith;
      sum = whole ∙ ap (λ (x : ℤ). x +ℤ v) c.loop-value.invariant.sum ∙ sym sum;
      low = rw whole (sum_low i before v c.loop-value.invariant.low c.loop-value.invariant.high fits);
      high = rw whole (sum_high i before v c.loop-value.invariant.low c.loop-value.invariant.high fits);
      least = ap Some (to_z-of_z w64 c.least_with.result (omega (arith, ints)) ∙ least_is) ∙ sym least_more;
      greatest = ap Some (to_z-of_z w64 c.greatest_with.result (omega (arith, ints)) ∙ greatest_is) ∙ sym greatest_more;
    }
