-- What leaves it open whether there is a mean.
use Rattle.std.specs.Prelude.{◌≡◌, ℕ, List, [], ◌∷◌}
use Rattle.std.specs.List.{filter}
use Rattle.ss_summary.specs.Points.{Point}
use Rattle.ss_bounds.specs.declared.fraction.Fraction.{Fraction}
use Rattle.ss_bounds.specs.Guess.{whole}
use Rattle.ss_model.specs.Interval.{is_split, known_count}
use Rattle.ss_model.specs.declared.types.Window.{Window}

-- one window alone does: the range splits it and no other, no value is known beside it, and the ends are its least and its greatest value
pub record IsOpenByOne (from to : ℕ) (windows : List Window) (marked : List Point) (lo hi : Fraction) : Type 0 where
  pub window : Window
  pub split : filter (is_split from to) windows ≡ window ∷ []
  pub alone : known_count from to windows marked ≡ 0
  pub least : lo ≡ whole window.summary.min
  pub greatest : hi ≡ whole window.summary.max
