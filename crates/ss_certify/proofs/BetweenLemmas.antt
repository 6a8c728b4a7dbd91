-- Values from a least one to a greatest one.
use Rattle.std.specs.Prelude.{ℕ, zero, suc, ℤ, ◌≤ℤ◌, List, [], ◌∷◌, ◌++◌, replicate}
use Rattle.std.proofs.Common.{arith}
use Rattle.std.proofs.lemmas.Int.{ints}
use Rattle.ss_bounds.specs.Truth.{AllBetween}

-- values between m and M, one after another
pub between-append : (m M : ℤ) (vs ws : List ℤ) → AllBetween m M vs → AllBetween m M ws → AllBetween m M (vs ++ ws)
between-append m M [] ws first last = last
between-append m M (v ∷ vs) ws first last = (first.0, first.1, between-append m M vs ws first.2 last)

pub between-replicate : (m M : ℤ) (n : ℕ) (v : ℤ) → m ≤ℤ v → v ≤ℤ M → AllBetween m M (replicate n v)
between-replicate m M zero v low high = tt
between-replicate m M (suc n) v low high = (low, high, between-replicate m M n v low high)

pub between-lower : (m n M : ℤ) (vs : List ℤ) → m ≤ℤ n → AllBetween n M vs → AllBetween m M vs
between-lower m n M [] lower between = tt
between-lower m n M (v ∷ vs) lower between = (omega (arith, ints, between.0), between.1, between-lower m n M vs lower between.2)

pub between-first : (m M : ℤ) (vs ws : List ℤ) → AllBetween m M (vs ++ ws) → AllBetween m M vs
between-first m M [] ws between = tt
between-first m M (v ∷ vs) ws between = (between.0, between.1, between-first m M vs ws between.2)

pub between-last : (m M : ℤ) (vs ws : List ℤ) → AllBetween m M (vs ++ ws) → AllBetween m M ws
between-last m M [] ws between = between
between-last m M (v ∷ vs) ws between = between-last m M vs ws between.2
