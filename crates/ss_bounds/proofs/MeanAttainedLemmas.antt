-- How many values of a split window attain an end of a mean: what the code finds, and what it means.
use Rattle.std.specs.Prelude.{◌≡◌, ◌⊎◌, ℕ, zero, suc, ◌+◌, ◌-◌, ◌<◌, ◌≤◌, Bool, true, false, ◌&&◌, if◌then◌else◌, ℤ}
use Rattle.std.specs.Prelude.{List, ◌∷◌, Option, None, Some, IfSome}
use Rattle.std.specs.Option.{option_map}
use Rattle.std.proofs.Common.{ap, arith, inl, inr, refl, subst, sym, ◌∙◌}
use Rattle.std.proofs.lemmas.Bool.{cases_lt, false≢true}
use Rattle.std.proofs.lemmas.Int.{ints}
use Rattle.ss_bounds.specs.declared.corners.Corners.{Corners}
use Rattle.ss_bounds.specs.declared.fraction.Fraction.{Fraction}
use Rattle.ss_bounds.specs.declared.side.Side.{Side}
use Rattle.ss_bounds.specs.declared.side.Side.TheVariants as side
use Rattle.ss_bounds.specs.Corners.{AreCorners, AreCornersOf, AreSame, best_of_corners, order_of, sum_at}
use Rattle.ss_bounds.specs.Extremes.{listed}
use Rattle.ss_bounds.specs.Fractions.{IsAtMost, at_most, lowest}
use Rattle.ss_bounds.specs.Guess.{AreAllSplit}
use Rattle.ss_bounds.specs.MeanAttained.{attains, first_corner, first_passing, greatest_mean_at, is_same_mean, least_mean_at, sooner}
use Rattle.ss_bounds.specs.Means.{AddsUpTo, best_mean, greatest_mean, least_mean, so_many, with_values}
use Rattle.ss_bounds.specs.Split.{SplitFigures, least_count, greatest_count, low_sum, high_sum}
use Rattle.ss_bounds.proofs.BestLemmas.{AreAllSplit-ordered, AreOrdered, IsBest, IsBest-best_mean}
use Rattle.ss_bounds.proofs.CornerLemmas.{AreSame-lowest, AtCorners, found-at}
use Rattle.ss_bounds.proofs.FractionLemmas.{IsAtMost-IsSame, IsOrder, IsOrder-at_least, IsOrder-at_most, IsSame-both, IsSame-sym, IsSame-trans}
use Rattle.ss_bounds.proofs.MeanTruthLemmas.{as-many}
use Rattle.ss_bounds.proofs.ReachedLemmas.{IsAttained, IsLevel, IsLevel-at_least, IsLevel-at_most, all-best, attained-sooner}
use Rattle.ss_bounds.proofs.ReachedLemmas.{best_with, of_all, some-attained, with-best}

-- ---- the search

-- x is the first of a to b that passes
record IsFirst (test : ℕ → Bool) (a b x : ℕ) : Type 0 where
  pub from : a ≤ x
  pub to : x ≤ b
  pub passes : test x ≡ true
  pub first : (y : ℕ) → a ≤ y → test y ≡ true → x ≤ y

first_passing-next : (test : ℕ → Bool) (a n y : ℕ) (b : Bool) → test a ≡ b → a ≤ y → y ≤ a + suc n → test y ≡ true
    → (suc a ≤ y → IsFirst test (suc a) (suc a + n) (first_passing test (suc a) n))
    → IsFirst test a (a + suc n) (if b then a else first_passing test (suc a) n)
first_passing-next test a n y true is from to passes rest =
    record { from = omega arith; to = omega arith; passes = is; first = λ z start yes. start }
first_passing-next test a n y false is from to passes rest = elim (cases_lt a y) [
  | inl later ↦
      (let first = rest later in
      record {
        from = omega (arith, first.from);
        to = omega (arith, first.to);
        passes = first.passes;
        first = λ z start yes. elim (cases_lt a z) [
          | inl more ↦ first.first z more yes
          | inr here ↦ (let same : a ≡ z = omega arith in absurd (false≢true (sym is ∙ ap test same ∙ yes)))
        ];
      })
  | inr here ↦ (let same : a ≡ y = omega arith in absurd (false≢true (sym is ∙ ap test same ∙ passes)))
]

IsFirst-first_passing : (test : ℕ → Bool) (a n y : ℕ) → a ≤ y → y ≤ a + n → test y ≡ true → IsFirst test a (a + n) (first_passing test a n)
IsFirst-first_passing test a zero y from to passes =
    let same : y ≡ a = omega arith in
    record { from = omega arith; to = omega arith; passes = ap test (sym same) ∙ passes; first = λ z start yes. start }
IsFirst-first_passing test a (suc n) y from to passes =
    first_passing-next test a n y (test a) refl from to passes
    (λ later. IsFirst-first_passing test (suc a) n y later (omega arith) passes)

-- ---- the corners

sooner-least : (p : Bool) (v : Fraction) (x : ℕ) → (sooner p v x ≤ x) × (p ≡ true → sooner p v x ≤ v.under)
sooner-least true v x = (omega arith, λ yes. omega arith)
sooner-least false v x = (omega arith, λ yes. absurd (false≢true yes))

sooner-some : (P : ℕ → Type 0) (p : Bool) (v : Fraction) (x : ℕ) → P x → (p ≡ true → P v.under) → P (sooner p v x)
sooner-some P true v x at other = elim (cases_lt v.under x) [
  | inl less ↦ (let same : v.under ≡ sooner true v x = omega arith in subst P same (other refl))
  | inr more ↦ (let same : x ≡ sooner true v x = omega arith in subst P same at)
]
sooner-some P false v x at other = at

module _ (test : Fraction → Bool) (c : Corners) where
  abbrev last : ℕ
  last = sooner (test c.after) c.after c.most.under

  abbrev middle : ℕ
  middle = sooner (test c.before) c.before last

  abbrev early : ℕ
  early = sooner (test c.some) c.some middle

  -- it is no more than any that passes
  first_corner-least : (x : ℕ) → AtCorners (λ v. (v.under ≤ x) × (test v ≡ true)) c → first_corner test c ≤ x
  first_corner-least x at =
      let one = sooner-least (test c.fewest) c.fewest early in
      let two = sooner-least (test c.some) c.some middle in
      let three = sooner-least (test c.before) c.before last in
      let four = sooner-least (test c.after) c.after c.most.under in
      let down : first_corner test c ≤ middle = omega (arith, one.0, two.0) in
      let further_down : first_corner test c ≤ last = omega (arith, down, three.0) in
      elim at [
        | inl (inl (inl v)) ↦ omega (arith, v.0, one.1 v.1)
        | inl (inl (inr v)) ↦ omega (arith, v.0, one.0, two.1 v.1)
        | inl (inr (inl v)) ↦ omega (arith, v.0, down, three.1 v.1)
        | inl (inr (inr v)) ↦ omega (arith, v.0, further_down, four.1 v.1)
        | inr v ↦ omega (arith, v.0, further_down, four.0)
      ]

  -- and one of them, or the most
  first_corner-some : (P : ℕ → Type 0) → P c.most.under → (test c.fewest ≡ true → P c.fewest.under) → (test c.some ≡ true → P c.some.under)
      → (test c.before ≡ true → P c.before.under) → (test c.after ≡ true → P c.after.under) → P (first_corner test c)
  first_corner-some P most fewest some before after =
      sooner-some P (test c.fewest) c.fewest early
      (sooner-some P (test c.some) c.some middle
      (sooner-some P (test c.before) c.before last (sooner-some P (test c.after) c.after c.most.under most after) before) some)
      fewest

-- ---- means that are the same number

AreSame-sym : (a b : Option Fraction) → AreSame a b → AreSame b a
AreSame-sym None None same = tt
AreSame-sym None (Some b) same = absurd same
AreSame-sym (Some a) None same = absurd same
AreSame-sym (Some a) (Some b) same = (same.1, same.0, IsSame-sym a b same.2)

AreSame-trans : (a b c : Option Fraction) → AreSame a b → AreSame b c → AreSame a c
AreSame-trans None None c first second = second
AreSame-trans None (Some b) c first second = absurd first
AreSame-trans (Some a) None c first second = absurd first
AreSame-trans (Some a) (Some b) None first second = absurd second
AreSame-trans (Some a) (Some b) (Some c) first second = (first.0, second.1, IsSame-trans a b c first.1 first.2 second.2)

abbrev IsProperMean : Option Fraction → Type 0
IsProperMean a = IfSome a (λ f. 0 < f.under)

AreSame-proper : (a b : Option Fraction) → AreSame a b → IsProperMean a × IsProperMean b
AreSame-proper None None same = (tt, tt)
AreSame-proper None (Some b) same = absurd same
AreSame-proper (Some a) None same = absurd same
AreSame-proper (Some a) (Some b) same = (same.0, same.1)

both-true : (p q : Bool) → (p && q) ≡ true → (p ≡ true) × (q ≡ true)
both-true true q is = (refl, is)
both-true false q is = absurd (false≢true is)

true-both : (p q : Bool) → p ≡ true → q ≡ true → (p && q) ≡ true
true-both true q first second = second
true-both false q first second = absurd (false≢true first)

at_most-true : (a b : Fraction) → IsAtMost a b → at_most a b ≡ true
at_most-true a b is = let less = is.crosswise in grind (arith, ints)

same-decided : (a b : Option Fraction) → IsProperMean a → IsProperMean b → is_same_mean a b ≡ true → AreSame a b
same-decided None None first second is = tt
same-decided None (Some b) first second is = false≢true is
same-decided (Some a) None first second is = false≢true is
same-decided (Some a) (Some b) first second is =
    let both = both-true (at_most a b) (at_most b a) is in
    (first, second, IsSame-both a b (IsOrder-at_most.yes a b both.0) (IsOrder-at_most.yes b a both.1))

decided-same : (a b : Option Fraction) → AreSame a b → is_same_mean a b ≡ true
decided-same None None same = refl
decided-same None (Some b) same = absurd same
decided-same (Some a) None same = absurd same
decided-same (Some a) (Some b) same =
    true-both (at_most a b) (at_most b a) (at_most-true a b (IsAtMost-IsSame a b same.2)) (at_most-true b a (IsAtMost-IsSame b a (IsSame-sym a b same.2)))

IsBest-proper : {test : Fraction → Fraction → Bool} {Better : Fraction → Fraction → Type 0} (order : IsOrder test Better) (P : Fraction → Type 0)
    (r : Option Fraction) → IsBest order P r → IsProperMean r
IsBest-proper order P None best = tt
IsBest-proper order P (Some r) best = best.some

-- ---- the first number of values

module _ {test : Fraction → Fraction → Bool} {Better : Fraction → Fraction → Type 0} (order : IsOrder test Better) (level : IsLevel Better)
    (sum : SplitFigures → ℕ → ℤ) (known : Fraction) (s : SplitFigures) (splits : List SplitFigures) (ordered : AreOrdered (s ∷ splits)) where
  abbrev all : Option Fraction
  all = of_all order level sum known s splits ordered

  abbrev beside : Fraction → Option Fraction
  beside v = best_with order level sum known s splits ordered v

  abbrev passes : ℕ → Bool
  passes = attains test sum known s splits

  abbrev first : ℕ
  first = first_passing passes (least_count s) (greatest_count s - least_count s)

  yes : (x : ℕ) → passes x ≡ true → AreSame (beside (so_many (sum s) x)) all
  yes x is =
      same-decided (beside (so_many (sum s) x)) all
      (IsBest-proper order _ (beside (so_many (sum s) x)) (with-best order level sum known s splits ordered (so_many (sum s) x)))
      (IsBest-proper order _ all (all-best order level sum known s splits ordered)) is

  first-is : IsFirst passes (least_count s) (greatest_count s) first
  first-is =
      let some = some-attained order level sum known s splits ordered in
      let end : least_count s + (greatest_count s - least_count s) ≡ greatest_count s = omega (arith, ordered.0) in
      subst (λ b. IsFirst passes (least_count s) b first) end
      (IsFirst-first_passing passes (least_count s) (greatest_count s - least_count s) some.0 some.1.from (omega (arith, some.1.to))
      (decided-same (beside (so_many (sum s) some.0)) all some.1.same))

  -- it may lie there, and with it the best mean is the best one of all
  pub IsAttained-first : IsAttained order level sum known s splits ordered first
  IsAttained-first = let is = first-is in record { from = is.from; to = is.to; same = yes first is.passes }

  -- it is the least of the corners that a test takes to attain the best mean
  module _ (c : Corners) (is : AreCorners (sum s) (least_count s) (greatest_count s) c) (found : Fraction → Bool)
      (found-yes : (v : Fraction) → found v ≡ true → AreSame (beside v) all) (found-no : (v : Fraction) → AreSame (beside v) all → found v ≡ true) where
    abbrev IsFine : ℕ → Type 0
    IsFine y = (y ≡ c.most.under) ⊎ (passes y ≡ true)

    at-corner : (v : Fraction) (y : ℕ) → v ≡ so_many (sum s) y → found v ≡ true → IsFine v.under
    at-corner v y same yes_there =
        let under = ap (λ (f : Fraction). f.under) same in
        let there : v ≡ so_many (sum s) v.under = same ∙ ap (so_many (sum s)) (sym under) in
        inr (decided-same (beside (so_many (sum s) v.under)) all (subst (λ z. AreSame (beside z) all) there (found-yes v yes_there)))

    fine : IsFine (first_corner found c)
    fine =
        first_corner-some found c IsFine (inl refl)
        (at-corner c.fewest (least_count s) is.fewest) (at-corner c.some _ is.some)
        (at-corner c.before c.before.under is.before) (at-corner c.after c.after.under is.after)

    -- no more than any number that attains it
    no-more : (x : ℕ) → least_count s ≤ x → x ≤ greatest_count s → passes x ≡ true → first_corner found c ≤ x
    no-more x from to attained =
        let at = attained-sooner order level sum known s splits ordered c is x from to (yes x attained) in
        first_corner-least found c x (elim at [
          | inl (inl (inl v)) ↦ inl (inl (inl (v.0, found-no c.fewest v.1)))
          | inl (inl (inr v)) ↦ inl (inl (inr (v.0, found-no c.some v.1)))
          | inl (inr (inl v)) ↦ inl (inr (inl (v.0, found-no c.before v.1)))
          | inl (inr (inr v)) ↦ inl (inr (inr (v.0, found-no c.after v.1)))
          | inr v ↦ inr (v.0, found-no c.most v.1)
        ])

    from-least : least_count s ≤ first_corner found c
    from-least =
        let bends = is.bends in
        let fewest_is = ap (λ (f : Fraction). f.under) is.fewest in
        let some_is = ap (λ (f : Fraction). f.under) is.some in
        let most_is = ap (λ (f : Fraction). f.under) is.most in
        first_corner-some found c (λ y. least_count s ≤ y) (omega (arith, is.order, most_is)) (λ t. omega (arith, fewest_is))
        (λ t. omega (arith, some_is, is.order)) (λ t. bends.from) (λ t. omega (arith, bends.from, bends.order))

    pub first-corner : first_corner found c ≡ first
    first-corner =
        let least = first-is in
        let down = no-more first least.from least.to least.passes in
        let most_is = ap (λ (f : Fraction). f.under) is.most in
        elim fine [
          | inl most ↦ omega (arith, least.to, most_is)
          | inr attained ↦ omega (arith, least.first (first_corner found c) from-least attained)
        ]

-- ---- what the code finds

AreAllSplit-listed : (side : Side) (s : SplitFigures) (t : Option SplitFigures) (c : Corners) (d : Option Corners)
    → AreCornersOf side (Some s) (Some c) → AreCornersOf side t d → AreAllSplit (s ∷ listed None t)
AreAllSplit-listed side s None c None here there = (here.0, tt)
AreAllSplit-listed side s (Some t) c (Some d) here there = (here.0, (there.0, tt))
AreAllSplit-listed side s None c (Some d) here there = absurd there
AreAllSplit-listed side s (Some t) c None here there = absurd there

listed-first : (s : SplitFigures) (t : Option SplitFigures) → listed (Some s) t ≡ s ∷ listed None t
listed-first s None = refl
listed-first s (Some t) = refl

module _ (side : Side) {Better : Fraction → Fraction → Type 0} (order : IsOrder (order_of side) Better) (level : IsLevel Better) (known : Fraction)
    (s : SplitFigures) (t : Option SplitFigures) (c : Corners) (d : Option Corners)
    (first : AreCornersOf side (Some s) (Some c)) (second : AreCornersOf side t d) where
  abbrev rest : List SplitFigures
  rest = listed None t

  abbrev ordered : AreOrdered (s ∷ rest)
  ordered = AreAllSplit-ordered (s ∷ rest) (AreAllSplit-listed side s t c d first second)

  abbrev with_corner : Fraction → Option Fraction
  with_corner v = best_of_corners side (with_values known v) None d

  abbrev at_corners : Option Fraction
  at_corners = best_of_corners side known (Some c) d

  with-found : (v : Fraction) → AreSame (best_mean (order_of side) (sum_at side) (with_values known v) rest) (with_corner v)
  with-found v = found-at side order (with_values known v) None t None d tt second

  all-found : AreSame (best_mean (order_of side) (sum_at side) known (s ∷ rest)) at_corners
  all-found =
      subst (λ l. AreSame (best_mean (order_of side) (sum_at side) known l) at_corners) (listed-first s t)
      (found-at side order known (Some s) t (Some c) d first second)

  found-first : first_corner (λ v. is_same_mean (with_corner v) at_corners) c
      ≡ first_passing (attains (order_of side) (sum_at side) known s rest) (least_count s) (greatest_count s - least_count s)
  found-first =
      let every = best_mean (order_of side) (sum_at side) known (s ∷ rest) in
      let some = λ (v : Fraction). best_mean (order_of side) (sum_at side) (with_values known v) rest in
      first-corner order level (sum_at side) known s rest ordered c first.1 (λ v. is_same_mean (with_corner v) at_corners)
      (λ v is. AreSame-trans (some v) (with_corner v) every (with-found v)
      (AreSame-trans (with_corner v) at_corners every
      (same-decided (with_corner v) at_corners (AreSame-proper (some v) (with_corner v) (with-found v)).1 (AreSame-proper every at_corners all-found).1 is)
      (AreSame-sym every at_corners all-found)))
      (λ v same. decided-same (with_corner v) at_corners
      (AreSame-trans (with_corner v) (some v) at_corners (AreSame-sym (some v) (with_corner v) (with-found v))
      (AreSame-trans (some v) every at_corners same all-found)))

pub computed-least : (known : Fraction) (s : SplitFigures) (t : Option SplitFigures) (c : Corners) (d : Option Corners)
    → AreCornersOf side.Least (Some s) (Some c) → AreCornersOf side.Least t d
    → first_corner (λ v. is_same_mean (best_of_corners side.Least (with_values known v) None d) (best_of_corners side.Least known (Some c) d)) c
    ≡ least_mean_at known s (listed None t)
unfolding least_mean_at
computed-least known s t c d first second = found-first side.Least IsOrder-at_most IsLevel-at_most known s t c d first second

pub computed-greatest : (known : Fraction) (s : SplitFigures) (t : Option SplitFigures) (c : Corners) (d : Option Corners)
    → AreCornersOf side.Greatest (Some s) (Some c) → AreCornersOf side.Greatest t d
    → first_corner (λ v. is_same_mean (best_of_corners side.Greatest (with_values known v) None d) (best_of_corners side.Greatest known (Some c) d)) c
    ≡ greatest_mean_at known s (listed None t)
unfolding greatest_mean_at
computed-greatest known s t c d first second = found-first side.Greatest IsOrder-at_least IsLevel-at_least known s t c d first second

-- ---- what it means: so many values may lie there, and the end with them is the end of all

pub record AttainsLowest (best : Fraction → List SplitFigures → Option Fraction) (sum : SplitFigures → ℕ → ℤ) (known : Fraction) (s : SplitFigures)
    (splits : List SplitFigures) (x : ℕ) : Type 0 where
  pub from : least_count s ≤ x
  pub to : x ≤ greatest_count s
  pub same : option_map lowest (best (with_values known (so_many (sum s) x)) splits) ≡ option_map lowest (best known (s ∷ splits))

pub least_mean_at-attains : (known : Fraction) (s : SplitFigures) (splits : List SplitFigures) → AreAllSplit (s ∷ splits)
    → AttainsLowest least_mean low_sum known s splits (least_mean_at known s splits)
unfolding least_mean_at
least_mean_at-attains known s splits all =
    let is = IsAttained-first IsOrder-at_most IsLevel-at_most low_sum known s splits (AreAllSplit-ordered (s ∷ splits) all) in
    record { from = is.from; to = is.to; same = AreSame-lowest _ _ is.same }

pub greatest_mean_at-attains : (known : Fraction) (s : SplitFigures) (splits : List SplitFigures) → AreAllSplit (s ∷ splits)
    → AttainsLowest greatest_mean high_sum known s splits (greatest_mean_at known s splits)
unfolding greatest_mean_at
greatest_mean_at-attains known s splits all =
    let is = IsAttained-first IsOrder-at_least IsLevel-at_least high_sum known s splits (AreAllSplit-ordered (s ∷ splits) all) in
    record { from = is.from; to = is.to; same = AreSame-lowest _ _ is.same }

-- ---- a mean has both ends or none

abbrev pub AreBoth : Option Fraction → Option Fraction → Type 0
AreBoth None None = Unit {0}
AreBoth None (Some b) = ⊥
AreBoth (Some a) None = ⊥
AreBoth (Some a) (Some b) = Unit {0}

both-from : (known : Fraction) (splits : List SplitFigures) (lo hi : Option Fraction) → IsBest IsOrder-at_most (AddsUpTo low_sum known splits) lo
    → IsBest IsOrder-at_least (AddsUpTo high_sum known splits) hi → AreBoth (option_map lowest lo) (option_map lowest hi)
both-from known splits None None low high = tt
both-from known splits None (Some h) low high =
    let other = as-many high_sum low_sum known known splits h refl high.reached in
    absurd (omega (arith, other.2, low.none other.0 other.1, high.some))
both-from known splits (Some l) None low high =
    let other = as-many low_sum high_sum known known splits l refl low.reached in
    absurd (omega (arith, other.2, high.none other.0 other.1, low.some))
both-from known splits (Some l) (Some h) low high = tt

pub both-ends : (known : Fraction) (splits : List SplitFigures) → AreAllSplit splits
    → AreBoth (option_map lowest (least_mean known splits)) (option_map lowest (greatest_mean known splits))
both-ends known splits all =
    let ordered = AreAllSplit-ordered splits all in
    both-from known splits (least_mean known splits) (greatest_mean known splits)
    (IsBest-best_mean IsOrder-at_most low_sum known splits ordered) (IsBest-best_mean IsOrder-at_least high_sum known splits ordered)
