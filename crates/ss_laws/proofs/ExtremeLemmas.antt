-- What is known of the least or the greatest value of a window, where some of its values must lie in the range or can.
use Rattle.std.specs.Prelude.{◌≡◌, ℕ, ◌+◌, ◌≤◌, Bool, true, false, nat_le, ℤ, List, [], ◌∷◌, map, if◌then◌else◌}
use Rattle.std.specs.List.{filter}
use Rattle.std.proofs.Common.{arith, refl}
use Rattle.std.proofs.lemmas.Bool.{le-leb, leb-false, leb-true}
use Rattle.std.proofs.lemmas.Int.{ints}
use Rattle.ss_bounds.specs.declared.extreme.Extreme.{Extreme}
use Rattle.ss_bounds.specs.declared.extreme.Extreme.TheVariants.{Nothing, Sure, Maybe}
use Rattle.ss_bounds.specs.Extremes.{can_hold, must_hold}
use Rattle.ss_bounds.specs.Split.{SplitFigures, greatest_count, least_count}
use Rattle.ss_landmarks.specs.Free.{is_free}
use Rattle.ss_landmarks.specs.Landmark.{Landmark}
use Rattle.ss_model.specs.Interval.{is_split, split_figures, split_windows}
use Rattle.ss_model.specs.declared.types.Window.{Window}
use Rattle.ss_laws.specs.Parts.{IsExtremeWithin}
use Rattle.ss_laws.proofs.PartLemmas.{AllStand, pick}
use Rattle.ss_laws.proofs.SideLemmas.{split-order}

pub within-same : (x : Extreme) → IsExtremeWithin x x
within-same Nothing = tt
within-same (Sure a b) = (omega (arith, ints), omega (arith, ints))
within-same (Maybe a b) = (omega (arith, ints), omega (arith, ints))

pub within-follows : (x y z : Extreme) → IsExtremeWithin x y → IsExtremeWithin y z → IsExtremeWithin x z
within-follows Nothing Nothing Nothing one two = tt
within-follows Nothing Nothing (Sure a3 b3) one two = absurd two
within-follows Nothing Nothing (Maybe a3 b3) one two = absurd two
within-follows Nothing (Sure a2 b2) Nothing one two = absurd one
within-follows Nothing (Sure a2 b2) (Sure a3 b3) one two = absurd one
within-follows Nothing (Sure a2 b2) (Maybe a3 b3) one two = absurd one
within-follows Nothing (Maybe a2 b2) Nothing one two = absurd one
within-follows Nothing (Maybe a2 b2) (Sure a3 b3) one two = absurd one
within-follows Nothing (Maybe a2 b2) (Maybe a3 b3) one two = absurd one
within-follows (Sure a1 b1) Nothing Nothing one two = absurd one
within-follows (Sure a1 b1) Nothing (Sure a3 b3) one two = absurd one
within-follows (Sure a1 b1) Nothing (Maybe a3 b3) one two = absurd one
within-follows (Sure a1 b1) (Sure a2 b2) Nothing one two = absurd two
within-follows (Sure a1 b1) (Sure a2 b2) (Sure a3 b3) one two = (omega (arith, ints, one.0, two.0), omega (arith, ints, one.1, two.1))
within-follows (Sure a1 b1) (Sure a2 b2) (Maybe a3 b3) one two = (omega (arith, ints, one.0, two.0), omega (arith, ints, one.1, two.1))
within-follows (Sure a1 b1) (Maybe a2 b2) Nothing one two = absurd two
within-follows (Sure a1 b1) (Maybe a2 b2) (Sure a3 b3) one two = absurd two
within-follows (Sure a1 b1) (Maybe a2 b2) (Maybe a3 b3) one two = (omega (arith, ints, one.0, two.0), omega (arith, ints, one.1, two.1))
within-follows (Maybe a1 b1) Nothing Nothing one two = absurd one
within-follows (Maybe a1 b1) Nothing (Sure a3 b3) one two = absurd one
within-follows (Maybe a1 b1) Nothing (Maybe a3 b3) one two = absurd one
within-follows (Maybe a1 b1) (Sure a2 b2) Nothing one two = absurd one
within-follows (Maybe a1 b1) (Sure a2 b2) (Sure a3 b3) one two = absurd one
within-follows (Maybe a1 b1) (Sure a2 b2) (Maybe a3 b3) one two = absurd one
within-follows (Maybe a1 b1) (Maybe a2 b2) Nothing one two = absurd two
within-follows (Maybe a1 b1) (Maybe a2 b2) (Sure a3 b3) one two = absurd two
within-follows (Maybe a1 b1) (Maybe a2 b2) (Maybe a3 b3) one two = (omega (arith, ints, one.0, two.0), omega (arith, ints, one.1, two.1))

-- what is known of a window by its least and its greatest value, where a value of it must lie in the range or can
abbrev pub split_known : ℤ → ℤ → Bool → Bool → Extreme
split_known m M must can = pick must can (Sure m M) (Maybe m M) Nothing

abbrev pub split_extreme : SplitFigures → Extreme
split_extreme s = split_known s.min s.max (must_hold s) (can_hold s)

-- some of fewer are some of more, and some of two numbers are some of one of them
pub some-more : (x y : ℕ) → x ≤ y → nat_le 1 x ≡ true → nat_le 1 y ≡ true
some-more x y order some = let one = leb-true 1 x some in le-leb 1 y (omega arith)

pub some-either : (x y z : ℕ) → x ≤ y + z → nat_le 1 x ≡ true → nat_le 1 y ≡ false → nat_le 1 z ≡ true
some-either x y z order some none = let one = leb-true 1 x some in let first = leb-false 1 y none in le-leb 1 z (omega arith)

has-next : (x y : Bool) (s : SplitFigures) (can must : List SplitFigures) → (x ≡ true → y ≡ true) → (can ≡ [] → must ≡ [])
    → (if y then s ∷ can else can) ≡ [] → (if x then s ∷ must else must) ≡ []
has-next false false s can must order has none = has none
has-next false true s can must order has none = cc
has-next true false s can must order has none = (let wrong : false ≡ true = order refl in cc)
has-next true true s can must order has none = cc

module _ (ls : List Landmark) (p q : ℕ) where
  abbrev F : Window → SplitFigures
  F = split_figures (is_free ls) p q

  abbrev splits : List Window → List SplitFigures
  splits ws = split_windows (is_free ls) p q ws

  pub order-of : (w : Window) → AllStand ls (w ∷ []) → must_hold (F w) ≡ true → can_hold (F w) ≡ true
  order-of w stand = some-more (least_count (F w)) (greatest_count (F w)) (split-order ls w stand.0.possible stand.0.lies p q)

  has-step : (b : Bool) (w : Window) (rest : List Window) → AllStand ls (w ∷ [])
      → (filter can_hold (map F rest) ≡ [] → filter must_hold (map F rest) ≡ [])
      → filter can_hold (map F (if b then w ∷ rest else rest)) ≡ [] → filter must_hold (map F (if b then w ∷ rest else rest)) ≡ []
  has-step true w rest stand has =
      has-next (must_hold (F w)) (can_hold (F w)) (F w) (filter can_hold (map F rest)) (filter must_hold (map F rest)) (order-of w stand) has
  has-step false w rest stand has = has

  -- where none can have a value in the range, none must
  pub has-all : (ws : List Window) → AllStand ls ws → filter can_hold (splits ws) ≡ [] → filter must_hold (splits ws) ≡ []
  has-all [] stand = λ none. refl
  has-all (w ∷ ws) stand = has-step (is_split p q w) w (filter (is_split p q) ws) (stand.0, tt) (has-all ws stand.1)
