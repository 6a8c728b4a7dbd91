-- When what is told of the newest value of a stream is true.
use Rattle.std.specs.Prelude.{◌≡◌, ℕ, ◌≤◌, ℤ, ◌≤ℤ◌, List, [], All, Contains, Option, Some, None}
use Rattle.ss_landmarks.specs.Landmark.{LandmarkValue}
use Rattle.ss_summary.specs.Points.{Point, New}
use Rattle.ss_model.specs.declared.newest.Newest.{Newest}
use Rattle.ss_model.specs.declared.newest.Newest.TheVariants.{Nothing, Time, Value}

-- a value is the newest of some: it is one of them, and none of them is later
pub record IsNewest (p : Point) (values : List Point) : Type 0 where
  pub among : Contains values p
  pub latest : All (λ (q : Point). q.0 ≤ p.0) values

-- the newest of some values has this time, and lies from one value to another
pub record NewestLiesWithin (at : ℕ) (lo hi : ℤ) (values : List Point) : Type 0 where
  pub value : Point
  pub newest : IsNewest value values
  pub time : value.0 ≡ at
  pub low : lo ≤ℤ value.1
  pub high : value.1 ≤ℤ hi

-- what is told is true of a stream with this last time and all of these values
abbrev pub HoldsNewest : Newest → Option ℕ → List Point → Type 0
HoldsNewest Nothing last values = (last ≡ None) × (values ≡ [])
HoldsNewest (Time t) last values = (last ≡ Some t) × (values ≡ [])
HoldsNewest (Value t at lo hi) last values = (last ≡ Some t) × NewestLiesWithin at lo hi values

-- a value of a landmark as a point. It counts as new.
abbrev pub kept_point : LandmarkValue → Point
kept_point value = (value.t, value.v, New)
