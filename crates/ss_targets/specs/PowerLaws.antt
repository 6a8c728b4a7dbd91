-- No window of a power-law target is empty, and none is shorter than the one before it.
use Rattle.std.proofs.Common.{ℕ, ◌+◌, arith}
use Rattle.std.proofs.Math.Nat.{mul-pos, one-le-pow, mul-le-mul_left, pow-le-pow_left}
use Rattle.ss_targets.specs.Windowing.{window_index, ArePositive, NeverFall}
use Rattle.ss_targets.specs.WindowingLaws.{window_index-monotone}
use Rattle.ss_targets.specs.Power.{group_size, power_length, IsPower}

pub power_length-positive : {p q r s : ℕ} → IsPower p q r s → ArePositive (power_length p q r s)
unfolding power_length
power_length-positive {p} {q} {r} {s} h i =
    let g = window_index (group_size p r) i in
    mul-pos h.scale_low (one-le-pow q (g + 1) (omega arith))

pub power_length-never_falls : {p q r s : ℕ} → IsPower p q r s → NeverFall (power_length p q r s)
unfolding power_length
power_length-never_falls {p} {q} {r} {s} h i =
    mul-le-mul_left s (pow-le-pow_left (omega (arith, window_index-monotone (group_size p r) i (i + 1) (omega arith))) q)
