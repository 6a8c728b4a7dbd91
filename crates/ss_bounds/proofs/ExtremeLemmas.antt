-- What the tables say of the least and the greatest value is true.
use Rattle.std.specs.Prelude.{◌≡◌, Bool, true, false, if◌then◌else◌, ℤ, ◌≤ℤ◌, List, [], ◌∷◌, map, Option, None, Some, MatchOption}
use Rattle.std.specs.List.{filter}
use Rattle.std.specs.Option.{option_zip}
use Rattle.std.specs.Int.{int_min, int_max}
use Rattle.std.proofs.Common.{ap, arith, refl, sym, ◌∙◌}
use Rattle.std.proofs.lemmas.Bool.Decides.{nat_tests}
use Rattle.std.proofs.lemmas.Int.{ints, clamps}
use Rattle.std.proofs.lemmas.Option.{none-some}
use Rattle.ss_bounds.specs.Split.{SplitFigures}
use Rattle.ss_bounds.specs.Extremes.{can_hold, must_hold, chosen, min_of, max_of, min_interval, max_interval}
use Rattle.ss_bounds.specs.Either.{either, choice_in, lesser, greater, least_in, greatest_in, extreme_of}
use Rattle.ss_bounds.specs.Truth.{AllBetween, MayLieThere, MayAllLieThere, windows_alone, values_of_all, HoldsExtreme}
use Rattle.ss_bounds.proofs.ChoiceLemmas.{IsChoice, IsChoice-min, IsChoice-max, AtMost, AtLeast, IsBetter, IsBetter-either, IsBetter-choice_of}
use Rattle.ss_bounds.proofs.ChoiceLemmas.{choice_of, choice_of-flat_map, choice_in-cons}
use Rattle.ss_bounds.proofs.EitherLemmas.{min_table-found, max_table-found}

-- one of the values of a window that passes a test
abbrev single : (SplitFigures → ℤ) → (SplitFigures → Bool) → SplitFigures → Option ℤ
single f test s = if test s then Some (f s) else None

module _ {choice : ℤ → ℤ → ℤ} {Better : ℤ → ℤ → Type 0} (is : IsChoice choice Better) (f : SplitFigures → ℤ) (test : SplitFigures → Bool) where
  next-single : (s : SplitFigures) (ss : List SplitFigures) (b : Bool)
      → either choice (if b then Some (f s) else None) (choice_in choice (map f ss)) ≡ choice_in choice (map f (if b then s ∷ ss else ss))
  next-single s ss true = sym (choice_in-cons choice (f s) (map f ss))
  next-single s ss false = refl

  choice_of-single : (ws : List (SplitFigures × List ℤ))
      → choice_of is (λ w. single f test w.0) ws ≡ choice_in choice (map f (filter test (windows_alone ws)))
  choice_of-single [] = refl
  choice_of-single (w ∷ ws) =
      ap (either choice (single f test w.0)) (choice_of-single ws) ∙ next-single w.0 (filter test (windows_alone ws)) (test w.0)

-- the least and the greatest of values from m to M
chosen-between : (m M v : ℤ) (vs : List ℤ) → AllBetween m M (v ∷ vs)
    → (m ≤ℤ chosen int_min v vs) × (chosen int_min v vs ≤ℤ M) × (m ≤ℤ chosen int_max v vs) × (chosen int_max v vs ≤ℤ M)
chosen-between m M v [] between = (between.0, between.1, between.0, between.1)
chosen-between m M v (w ∷ ws) between =
    let rest = chosen-between m M w ws between.2 in (
      omega (arith, ints, clamps, rest, between),
      omega (arith, ints, clamps, rest, between),
      omega (arith, ints, clamps, rest, between),
      omega
          (arith, ints, clamps, rest, between),
    )

least-greatest : (v : ℤ) (vs : List ℤ) → chosen int_min v vs ≤ℤ chosen int_max v vs
least-greatest v [] = omega (arith, ints)
least-greatest v (w ∷ ws) = let rest = least-greatest w ws in omega (arith, ints, clamps)

-- what one window says of its values in the range
module _ (s : SplitFigures) where
  can-min : (vs : List ℤ) → MayLieThere s vs → (b : Bool) → can_hold s ≡ b → IsBetter AtMost (if b then Some s.min else None) (least_in vs)
  can-min [] may b is = tt
  can-min (v ∷ vs) may true is = (chosen-between s.min s.max v vs may.between).0
  can-min (v ∷ vs) may false is = let most = may.most in grind (arith, nat_tests)

  can-max : (vs : List ℤ) → MayLieThere s vs → (b : Bool) → can_hold s ≡ b → IsBetter AtLeast (if b then Some s.max else None) (greatest_in vs)
  can-max [] may b is = tt
  can-max (v ∷ vs) may true is = (chosen-between s.min s.max v vs may.between).3
  can-max (v ∷ vs) may false is = let most = may.most in grind (arith, nat_tests)

  must-min : (vs : List ℤ) → MayLieThere s vs → (b : Bool) → must_hold s ≡ b → IsBetter AtMost (least_in vs) (if b then Some s.max else None)
  must-min vs may false is = tt
  must-min [] may true is = let fewest = may.fewest in grind (arith, nat_tests)
  must-min (v ∷ vs) may true is = (chosen-between s.min s.max v vs may.between).1

  must-max : (vs : List ℤ) → MayLieThere s vs → (b : Bool) → must_hold s ≡ b → IsBetter AtLeast (greatest_in vs) (if b then Some s.min else None)
  must-max vs may false is = tt
  must-max [] may true is = let fewest = may.fewest in grind (arith, nat_tests)
  must-max (v ∷ vs) may true is = (chosen-between s.min s.max v vs may.between).2

-- and what all of them say
IsBetter-same : (Better : ℤ → ℤ → Type 0) (a b c d : Option ℤ) → a ≡ c → b ≡ d → IsBetter Better a b → IsBetter Better c d
IsBetter-same Better a b c d first second better = rw (second, first) at better

module _ {choice : ℤ → ℤ → ℤ} {Better : ℤ → ℤ → Type 0} (is : IsChoice choice Better) (f : SplitFigures → ℤ) (test : SplitFigures → Bool)
    (ws : List (SplitFigures × List ℤ)) (may : MayAllLieThere ws) where
  -- of the windows that pass a test, one value each is better than all values in the range, or the other way round
  windows-better : ((s : SplitFigures) (vs : List ℤ) → MayLieThere s vs → IsBetter Better (single f test s) (choice_in choice vs))
      → IsBetter Better (choice_in choice (map f (filter test (windows_alone ws)))) (choice_in choice (values_of_all ws))
  windows-better each = IsBetter-same Better _ _ _ _ (choice_of-single is f test ws) (choice_of-flat_map is (λ w. w.1) ws)
      (IsBetter-choice_of is (λ w. single f test w.0) (λ w. choice_in choice w.1) MayAllLieThere (λ w rest all. (each w.0 w.1 all.0, all.1)) ws may)

  values-better : ((s : SplitFigures) (vs : List ℤ) → MayLieThere s vs → IsBetter Better (choice_in choice vs) (single f test s))
      → IsBetter Better (choice_in choice (values_of_all ws)) (choice_in choice (map f (filter test (windows_alone ws))))
  values-better each = IsBetter-same Better _ _ _ _ (choice_of-flat_map is (λ w. w.1) ws) (choice_of-single is f test ws)
      (IsBetter-choice_of is (λ w. choice_in choice w.1) (λ w. single f test w.0) MayAllLieThere (λ w rest all. (each w.0 w.1 all.0, all.1)) ws may)

IsBetter-refl : {choice : ℤ → ℤ → ℤ} {Better : ℤ → ℤ → Type 0} → IsChoice choice Better → ((a : ℤ) → Better a a) → (e : Option ℤ) → IsBetter Better e e
IsBetter-refl is same None = tt
IsBetter-refl is same (Some a) = same a

-- where values stand, the least is at most the greatest
least_in-greatest_in : (vs : List ℤ) → MatchOption (least_in vs) (greatest_in vs ≡ None)
    (λ v. MatchOption (greatest_in vs) ⊥ (λ w. v ≤ℤ w))
least_in-greatest_in [] = refl
least_in-greatest_in (v ∷ vs) = least-greatest v vs

-- the least value, from one at most it, one at least it if that is sure, and one at least it in any case
holds-min : (truth lo sure hi : Option ℤ) → IsBetter AtMost lo truth → IsBetter AtMost truth sure
    → MatchOption sure (MatchOption truth (Unit {0}) (λ v. MatchOption hi ⊥ (λ w. v ≤ℤ w))) (λ _. Unit {0})
    → HoldsExtreme (extreme_of (option_zip lo sure) (option_zip lo hi)) truth
holds-min None None sure hi above below upper = tt
holds-min (Some v) None sure hi above below upper = absurd above
holds-min None (Some l) None None above below upper = tt
holds-min None (Some l) None (Some h) above below upper = tt
holds-min None (Some l) (Some u) hi above below upper = absurd below
holds-min (Some v) (Some l) None None above below upper = absurd upper
holds-min (Some v) (Some l) None (Some h) above below upper = (above, upper)
holds-min (Some v) (Some l) (Some u) hi above below upper = (above, below)

holds-max : (truth hi sure lo : Option ℤ) → IsBetter AtLeast hi truth → IsBetter AtLeast truth sure
    → MatchOption sure (MatchOption truth (Unit {0}) (λ v. MatchOption lo ⊥ (λ w. w ≤ℤ v))) (λ _. Unit {0})
    → HoldsExtreme (extreme_of (option_zip sure hi) (option_zip lo hi)) truth
holds-max None None None None below above lower = tt
holds-max None None None (Some l) below above lower = tt
holds-max None None (Some u) lo below above lower = absurd above
holds-max (Some v) None sure lo below above lower = absurd below
holds-max None (Some h) None None below above lower = tt
holds-max None (Some h) None (Some l) below above lower = tt
holds-max None (Some h) (Some u) lo below above lower = absurd above
holds-max (Some v) (Some h) None None below above lower = absurd lower
holds-max (Some v) (Some h) None (Some l) below above lower = (lower, below)
holds-max (Some v) (Some h) (Some u) lo below above lower = (above, below)

-- one at least the greatest value is at least the least one, and one at most the least is at most the greatest
upper-of : (least greatest hi : Option ℤ) → MatchOption least (greatest ≡ None) (λ v. MatchOption greatest ⊥ (λ w. v ≤ℤ w))
    → IsBetter AtLeast hi greatest → MatchOption least (Unit {0}) (λ v. MatchOption hi ⊥ (λ w. v ≤ℤ w))
upper-of None greatest hi both better = tt
upper-of (Some v) None hi both better = absurd both
upper-of (Some v) (Some w) None both better = absurd better
upper-of (Some v) (Some w) (Some h) both better = omega (arith, ints)

lower-of : (least greatest lo : Option ℤ) → MatchOption least (greatest ≡ None) (λ v. MatchOption greatest ⊥ (λ w. v ≤ℤ w))
    → IsBetter AtMost lo least → MatchOption greatest (Unit {0}) (λ v. MatchOption lo ⊥ (λ w. w ≤ℤ v))
lower-of None None lo both better = tt
lower-of None (Some w) lo both better = elim (none-some w (sym both)) [ ]
lower-of (Some v) None lo both better = absurd both
lower-of (Some v) (Some w) None both better = absurd better
lower-of (Some v) (Some w) (Some l) both better = omega (arith, ints)

-- what holds of the values of split windows matters where nothing is sure, and so nothing is known exactly
unless-sure : (choice : ℤ → ℤ → ℤ) (exact sure truth : Option ℤ) (P : ℤ → Type 0) → MatchOption truth (Unit {0}) P
    → MatchOption (either choice exact sure) (MatchOption (either choice exact truth) (Unit {0}) P) (λ _. Unit {0})
unless-sure choice None None truth P known = known
unless-sure choice None (Some u) truth P known = tt
unless-sure choice (Some e) None truth P known = tt
unless-sure choice (Some e) (Some u) truth P known = tt

-- the choice among all values in the range, from what is known exactly and from the split windows
choice-better : {choice : ℤ → ℤ → ℤ} {Better : ℤ → ℤ → Type 0} → IsChoice choice Better → ((a : ℤ) → Better a a) → (e a b : Option ℤ)
    → IsBetter Better a b → IsBetter Better (either choice e a) (either choice e b)
choice-better is same e a b better = IsBetter-either is e e a b (IsBetter-refl is same e) better

module _ (ws : List (SplitFigures × List ℤ)) (may : MayAllLieThere ws) where
  abbrev can : List SplitFigures
  can = filter can_hold (windows_alone ws)

  abbrev must : List SplitFigures
  must = filter must_hold (windows_alone ws)

  least-low : IsBetter AtMost (least_in (map min_of can)) (least_in (values_of_all ws))
  least-low = windows-better IsChoice-min min_of can_hold ws may (λ s vs each. can-min s vs each (can_hold s) refl)

  least-sure : IsBetter AtMost (least_in (values_of_all ws)) (least_in (map max_of must))
  least-sure = values-better IsChoice-min max_of must_hold ws may (λ s vs each. must-min s vs each (must_hold s) refl)

  greatest-high : IsBetter AtLeast (greatest_in (map max_of can)) (greatest_in (values_of_all ws))
  greatest-high = windows-better IsChoice-max max_of can_hold ws may (λ s vs each. can-max s vs each (can_hold s) refl)

  greatest-sure : IsBetter AtLeast (greatest_in (values_of_all ws)) (greatest_in (map min_of must))
  greatest-sure = values-better IsChoice-max min_of must_hold ws may (λ s vs each. must-max s vs each (must_hold s) refl)

  pub min_interval-HoldsExtreme : (exact : Option ℤ) → HoldsExtreme (min_interval exact (windows_alone ws)) (lesser exact (least_in (values_of_all ws)))
  min_interval-HoldsExtreme exact =
      let all = values_of_all ws in
      rw min_table-found (holds-min (lesser exact (least_in all)) (lesser exact (least_in (map min_of can))) (lesser exact (least_in (map max_of must)))
      (greatest_in (map max_of can))
      (choice-better IsChoice-min (λ a. omega (arith, ints)) exact _ _ least-low)
      (choice-better IsChoice-min (λ a. omega (arith, ints)) exact _ _ least-sure)
      (unless-sure int_min exact (least_in (map max_of must)) (least_in all) (λ v. MatchOption (greatest_in (map max_of can)) ⊥ (λ w. v ≤ℤ w))
      (upper-of (least_in all) (greatest_in all) (greatest_in (map max_of can)) (least_in-greatest_in all) greatest-high)))

  pub max_interval-HoldsExtreme : (exact : Option ℤ) → HoldsExtreme (max_interval exact (windows_alone ws)) (greater exact (greatest_in (values_of_all ws)))
  max_interval-HoldsExtreme exact =
      let all = values_of_all ws in
      rw max_table-found
      (holds-max (greater exact (greatest_in all)) (greater exact (greatest_in (map max_of can))) (greater exact (greatest_in (map min_of must)))
      (least_in (map min_of can))
      (choice-better IsChoice-max (λ a. omega (arith, ints)) exact _ _ greatest-high)
      (choice-better IsChoice-max (λ a. omega (arith, ints)) exact _ _ greatest-sure)
      (unless-sure int_max exact (greatest_in (map min_of must)) (greatest_in all) (λ v. MatchOption (least_in (map min_of can)) ⊥ (λ w. w ≤ℤ v))
      (lower-of (least_in all) (greatest_in all) (least_in (map min_of can)) (least_in-greatest_in all) least-low)))
