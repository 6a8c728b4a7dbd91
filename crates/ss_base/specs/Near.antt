-- Numbers of which sums and products are within 128 bits.
use Rattle.std.specs.Prelude.{◌^◌, ◌<◌, ℤ, unsigned_abs}

-- far within 128 bits
abbrev pub IsNear : ℤ → Type 0
IsNear z = unsigned_abs z < 2 ^ 120
