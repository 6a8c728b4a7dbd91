-- The numbers that are rules of more than one crate, and what is near within 128 bits.
use Rattle.std.proofs.Common.{◌≡◌, ◌^◌, ◌-◌, pos, refl, lit≤, arith}
use Rattle.ss_base.specs.Near.{IsNear}
use Rattle.ss_base.specs.declared.limits.TheConstants.{LAST_TIME, MOST_SESSIONS, MOST_VALUES, SLOT_SIZE}

most_values : MOST_VALUES ≡ 2 ^ 40
most_values = refl

last_time : LAST_TIME ≡ 2 ^ 62
last_time = refl

slot_size : SLOT_SIZE ≡ 128
slot_size = refl

most_sessions : MOST_SESSIONS ≡ 8
most_sessions = refl

-- the greatest number that is near, and the next one
near-greatest : IsNear (pos (2 ^ 120 - 1))
near-greatest = lit≤ tt

near-past : IsNear (pos (2 ^ 120)) → ⊥
near-past near = omega (arith, near)
