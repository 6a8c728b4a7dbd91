-- How long the windows of an exponential target are by their age, and how many of them hold so many values.
use Rattle.std.proofs.Common.{ℕ, zero, suc, ◌≡◌, ◌+◌, ◌-◌, ◌*◌, ◌/◌, ◌^◌, ◌<◌, ◌≤◌, inl, inr, refl, lit≤, arith}
use Rattle.std.proofs.Math.Nat.{mul_comm, mul-le-mul_left, div-mul-le_self, one-le-pow, pow-suc, pow-zero, le_trans}
use Rattle.std.proofs.lemmas.Bool.{cases_lt}
use Rattle.std.proofs.lemmas.Nat.{div_below}
use Rattle.ss_targets.specs.Exp.{exp_length, IsExp}
use Rattle.ss_targets.specs.ExpLaws.{exp_length-positive}
use Rattle.ss_targets.specs.Windowing.{cut, window_index}
use Rattle.ss_targets.proofs.WindowingLemmas.{cut-monotone, holds-window_index, index_le_cut}
use Rattle.ss_targets.proofs.ExpLemmas.{cut-group}
use Rattle.ss_model.specs.Decay.{cover}
use Rattle.ss_model.proofs.DecayLemmas.{cover_le}

-- the lengths of the first groups, times b - 1, are those of the next group without the first one's
line : (d x y z : ℕ) → d * x + y ≡ z → d * (x + z) + y ≡ z * (d + 1)
line d x y z before = omega (arith, before)

pub cut-line : (b r s g : ℕ) → IsExp b r s → (b - 1) * cut (exp_length b r s) (r * g) + r * s ≡ r * (s * b ^ g)
cut-line b r s zero h =
    let none : r * 0 ≡ 0 = omega arith in
    let one : s * b ^ 0 ≡ s = rw pow-zero (omega arith) in
    rw (none, one) (omega arith)
cut-line b r s (suc g) h =
    let next : r * suc g ≡ r * g + r = omega arith in
    let base : b - 1 + 1 ≡ b = omega (arith, h.base_low) in
    let power : r * (s * b ^ suc g) ≡ r * (s * b ^ g) * b = rw pow-suc (omega arith) in
    let before = line (b - 1) (cut (exp_length b r s) (r * g)) (r * s) (r * (s * b ^ g)) (cut-line b r s g h) in
    rw (next, cut-group b r s g r (omega arith), power) (rw base at before)

pub length-line : (b r s age : ℕ) → IsExp b r s → r * exp_length b r s (window_index (exp_length b r s) age) ≤ (b - 1) * age + r * s
length-line b r s age h =
    let len = exp_length b r s in
    let i = window_index len age in
    let g = i / r in
    let begun = (holds-window_index len age (exp_length-positive h)).start in
    let group : r * g ≤ i = omega (arith, div-mul-le_self i r, mul_comm r g) in
    let early : cut len (r * g) ≤ age = le_trans (cut-monotone len (r * g) i group) begun in
    omega (arith, cut-line b r s g h, mul-le-mul_left (b - 1) early)

pub length-newest : (b r age : ℕ) → IsExp b r 1 → age < r → exp_length b r 1 (window_index (exp_length b r 1) age) ≡ 1
length-newest b r age h young =
    let len = exp_length b r 1 in
    let i = window_index len age in
    let begun = (holds-window_index len age (exp_length-positive h)).start in
    let early = index_le_cut len i (exp_length-positive h) in
    let first : i / r ≡ 0 = omega (arith, div_below i r 1 (omega arith) (omega arith)) in
    rw (first, pow-zero) refl

mul-sub-one : (x y : ℕ) → 1 ≤ y → x * (y - 1) + x ≡ x * y
mul-sub-one x zero some = absurd (omega arith)
mul-sub-one x (suc y) some = let same : suc y - 1 ≡ y = omega arith in rw same (omega arith)

pub cover-exp : (b r s n g : ℕ) → IsExp b r s → (b - 1) * n ≤ r * s * (b ^ g - 1) → cover (exp_length b r s) n ≤ r * g
cover-exp b r s n g h enough =
    let len = exp_length b r s in
    let spread : r * (s * b ^ g) ≡ r * s * b ^ g = omega arith in
    let whole = cut-line b r s g h in
    let parted = mul-sub-one (r * s) (b ^ g) (one-le-pow g b (le_trans (lit≤ tt) h.base_low)) in
    let all : (b - 1) * n ≤ (b - 1) * cut len (r * g) = omega (arith, enough, whole, parted, spread) in
    cover_le len n (r * g) (exp_length-positive h) (elim (cases_lt (cut len (r * g)) n) [
      | inl more ↦ absurd (omega (arith, all, h.base_low, mul-le-mul_left (b - 1) more))
      | inr enough ↦ enough
    ])
