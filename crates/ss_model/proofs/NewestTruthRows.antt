-- Rows of when what is told of the newest value of a stream is true: what each part of it says.
use Rattle.ss_model.proofs.Common.{ℤ, ◌≤ℤ◌, All, Contains, Option, refl, Point, New, HoldsNewest, IsNewest, NewestLiesWithin, kept_point, Nothing, Time}
use Rattle.std.specs.Prelude.{◌≡◌, ℕ, ◌≤◌, pos, List, [], Some, None}
use Rattle.ss_model.specs.declared.newest.Newest.TheVariants.{Value}

-- the newest of some values is one of them, and none of them is later
module _ {p : Point} {values : List Point} (newest : IsNewest p values) where
  newest-among : Contains values p
  newest-among = newest.among

  newest-latest : All (λ (q : Point). q.0 ≤ p.0) values
  newest-latest = newest.latest

-- the newest of some values lies within what is told
module _ {at : ℕ} {lo hi : ℤ} {values : List Point} (lies : NewestLiesWithin at lo hi values) where
  within-newest : IsNewest lies.value values
  within-newest = lies.newest

  within-time : lies.value.0 ≡ at
  within-time = lies.time

  within-low : lo ≤ℤ lies.value.1
  within-low = lies.low

  within-high : lies.value.1 ≤ℤ hi
  within-high = lies.high

-- the last time is the one that is told, and where no value is told there is none
module _ {last : Option ℕ} {values : List Point} where
  nothing-last : HoldsNewest Nothing last values → last ≡ None
  nothing-last holds = holds.0

  nothing-values : HoldsNewest Nothing last values → values ≡ []
  nothing-values holds = holds.1

module _ {t : ℕ} {last : Option ℕ} {values : List Point} where
  time-last : HoldsNewest (Time t) last values → last ≡ Some t
  time-last holds = holds.0

  time-values : HoldsNewest (Time t) last values → values ≡ []
  time-values holds = holds.1

module _ {t at : ℕ} {lo hi : ℤ} {last : Option ℕ} {values : List Point} where
  value-last : HoldsNewest (Value t at lo hi) last values → last ≡ Some t
  value-last holds = holds.0

  value-within : HoldsNewest (Value t at lo hi) last values → NewestLiesWithin at lo hi values
  value-within holds = holds.1

-- a value of a landmark as a point
kept-point : kept_point (record { t = 5; v = pos 1 }) ≡ (5, pos 1, New)
kept-point = refl
