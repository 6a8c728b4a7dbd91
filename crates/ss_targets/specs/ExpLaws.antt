-- No window of an exponential target is empty, and none is shorter than the one before it.
use Rattle.std.proofs.Common.{ℕ, ◌+◌, ◌/◌, lit≤, arith}
use Rattle.std.proofs.Math.Nat.{le_trans, mul-pos, one-le-pow, mul-le-mul_left, div-mul-le_self, pow-le-pow_right}
use Rattle.std.proofs.lemmas.Nat.{le-div}
use Rattle.ss_targets.specs.Exp.{exp_length, IsExp}
use Rattle.ss_targets.specs.Windowing.{ArePositive, NeverFall}

pub exp_length-positive : {b r s : ℕ} → IsExp b r s → ArePositive (exp_length b r s)
exp_length-positive {b} {r} h i = mul-pos h.scale_low (one-le-pow (i / r) b (le_trans (lit≤ tt) h.base_low))

pub exp_length-never_falls : {b r s : ℕ} → IsExp b r s → NeverFall (exp_length b r s)
exp_length-never_falls {b} {r} {s} h i =
    mul-le-mul_left s (pow-le-pow_right (omega arith) (le-div (i / r) (i + 1) r h.repeat_low (omega (arith, div-mul-le_self i r))))
