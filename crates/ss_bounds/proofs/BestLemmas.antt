-- The best of some means, by an order of fractions, and that the definition gives the best one.
use Rattle.std.specs.Prelude.{◌≡◌, ◌⊎◌, ℕ, zero, suc, ◌+◌, ◌-◌, ◌<◌, ◌≤◌, ◌==◌, Bool, true, false, if◌then◌else◌, ℤ, pos, List, [], ◌∷◌, Option, None, Some}
use Rattle.std.proofs.Common.{ap, ap₂, arith, inl, inr, refl, subst, sym, ◌∙◌}
use Rattle.std.proofs.lemmas.Bool.{cases_lt}
use Rattle.std.proofs.lemmas.Bool.Decides.{nat_tests}
use Rattle.std.proofs.lemmas.Int.{ints}
use Rattle.ss_bounds.specs.declared.fraction.Fraction.{Fraction}
use Rattle.ss_bounds.specs.Corners.{AreSame}
use Rattle.ss_bounds.specs.Guess.{AreAllSplit}
use Rattle.ss_bounds.specs.Means.{AddsUpTo, better, best_of, best_mean, mean_of, so_many, with_values}
use Rattle.ss_bounds.specs.Split.{SplitFigures, least_count, greatest_count}
use Rattle.ss_bounds.proofs.AttainedLemmas.{least_count-order}
use Rattle.ss_bounds.proofs.FractionLemmas.{IsOrder}

pub fraction-is : (a b : Fraction) → a.over ≡ b.over → a.under ≡ b.under → a ≡ b
fraction-is a b over under = ap₂ (λ (o : ℤ) (u : ℕ). record { over = o; under = u }) over under

pub with_values-none : (a : Fraction) → a ≡ with_values a (record { over = pos 0; under = 0 })
with_values-none a = fraction-is _ _ (omega (arith, ints)) (omega arith)

pub with_values-assoc : (a b c : Fraction) → with_values (with_values a b) c ≡ with_values a (with_values b c)
with_values-assoc a b c = fraction-is _ _ (omega (arith, ints)) (omega arith)

pub with_values-swapped : (a b c : Fraction) → with_values (with_values a b) c ≡ with_values (with_values a c) b
with_values-swapped a b c = fraction-is _ _ (omega (arith, ints)) (omega arith)

-- each window may have some number of values in the range
abbrev pub AreOrdered : List SplitFigures → Type 0
AreOrdered [] = Unit {0}
AreOrdered (s ∷ splits) = (least_count s ≤ greatest_count s) × AreOrdered splits

pub AreAllSplit-ordered : (splits : List SplitFigures) → AreAllSplit splits → AreOrdered splits
AreAllSplit-ordered [] all = tt
AreAllSplit-ordered (s ∷ splits) all = (least_count-order s all.0, AreAllSplit-ordered splits all.1)

module _ {test : Fraction → Fraction → Bool} {Better : Fraction → Fraction → Type 0} (order : IsOrder test Better) where
  -- b is the best of those that meet P and aren't over 0
  pub record IsBestOne (P : Fraction → Type 0) (b : Fraction) : Type 0 where
    pub reached : P b
    pub some : 0 < b.under
    pub best : (a : Fraction) → P a → 0 < a.under → Better b a

  -- and none does
  pub record IsNone (P : Fraction → Type 0) : Type 0 where
    pub none : (a : Fraction) → P a → a.under ≡ 0

  abbrev pub IsBest : (Fraction → Type 0) → Option Fraction → Type 0
  IsBest P None = IsNone P
  IsBest P (Some b) = IsBestOne P b

  pub IsBest-same : (P : Fraction → Type 0) (r t : Option Fraction) → IsBest P r → IsBest P t → AreSame r t
  IsBest-same P None None first second = tt
  IsBest-same P None (Some b) first second = let zero_under = first.none b second.reached in absurd (omega (arith, second.some))
  IsBest-same P (Some a) None first second = let zero_under = second.none a first.reached in absurd (omega (arith, first.some))
  IsBest-same P (Some a) (Some b) first second = (
    first.some,
    second.some,
    order.same a b (first.best b second.reached second.some) (second.best a first.reached first.some),
  )

  -- the better of two is the best of both kinds
  module _ (P Q S : Fraction → Type 0) (left : (a : Fraction) → P a → S a) (right : (a : Fraction) → Q a → S a)
      (parts : (a : Fraction) → S a → P a ⊎ Q a) where
    better-chosen : (a b : Fraction) (first : Bool) → test a b ≡ first → IsBestOne P a → IsBestOne Q b
        → IsBest S (if first then Some a else Some b)
    better-chosen a b true is of_a of_b = record {
      reached = left a of_a.reached;
      some = of_a.some;
      best = λ x in_s more. elim (parts x in_s) [
        | inl p ↦ of_a.best x p more
        | inr q ↦ order.trans a b x of_b.some (order.yes a b is) (of_b.best x q more)
      ];
    }
    better-chosen a b false is of_a of_b = record {
      reached = right b of_b.reached;
      some = of_b.some;
      best = λ x in_s more. elim (parts x in_s) [
        | inl p ↦ order.trans b a x of_a.some (order.no a b is) (of_a.best x p more)
        | inr q ↦ of_b.best x q more
      ];
    }

    pub IsBest-better : (r t : Option Fraction) → IsBest P r → IsBest Q t → IsBest S (better test r t)
    IsBest-better None None first second = record {
      none = λ x in_s. elim (parts x in_s) [ inl p ↦ first.none x p | inr q ↦ second.none x q ];
    }
    IsBest-better None (Some b) first second = record {
      reached = right b second.reached;
      some = second.some;
      best = λ x in_s more. elim (parts x in_s) [
        | inl p ↦ (let none = first.none x p in absurd (omega arith))
        | inr q ↦ second.best x q more
      ];
    }
    IsBest-better (Some a) None first second = record {
      reached = left a first.reached;
      some = first.some;
      best = λ x in_s more. elim (parts x in_s) [
        | inl p ↦ first.best x p more
        | inr q ↦ (let none = second.none x q in absurd (omega arith))
      ];
    }
    IsBest-better (Some a) (Some b) first second = better-chosen a b (test a b) refl first second

  -- the best of some is the best of more, each of which is no better than one of them
  pub IsBest-more : (P S : Fraction → Type 0) → ((a : Fraction) → P a → S a)
      → ((a : Fraction) → S a → 0 < a.under → (u : Fraction) × P u × (0 < u.under) × Better u a)
      → (r : Option Fraction) → IsBest P r → IsBest S r
  IsBest-more P S into cover None is = record {
    none = λ a in_s. elim (cases_lt 0 a.under) [
      | inl more ↦ (let by = cover a in_s more in let none = is.none by.0 by.1 in absurd (omega (arith, by.2)))
      | inr none ↦ omega arith
    ];
  }
  IsBest-more P S into cover (Some b) is = record {
    reached = into b is.reached;
    some = is.some;
    best = λ a in_s more.
        let by = cover a in_s more in
        order.trans b by.0 a by.2 (is.best by.0 by.1 by.2) by.3;
  }

  IsBest-mean_of-tested : (known : Fraction) (none : Bool) → (known.under == 0) ≡ none → IsBest (λ a. known ≡ a) (if none then None else Some known)
  IsBest-mean_of-tested known true is = record { none = λ a same. ap (λ (f : Fraction). f.under) (sym same) ∙ grind (arith, nat_tests) }
  IsBest-mean_of-tested known false is = record {
    reached = refl;
    some = grind (arith, nat_tests);
    best = λ a same more. subst (λ x. Better known x) same (order.itself known);
  }

  pub IsBest-mean_of : (known : Fraction) → IsBest (λ a. known ≡ a) (mean_of known)
  IsBest-mean_of known = IsBest-mean_of-tested known (known.under == 0) refl

  -- ---- the definition

  abbrev FromTo : (ℕ → Fraction → Type 0) → ℕ → ℕ → Fraction → Type 0
  FromTo P a b m = (x : ℕ) × (a ≤ x) × (x ≤ b) × P x m

  IsBest-best_of : (P : ℕ → Fraction → Type 0) (f : ℕ → Option Fraction) → ((x : ℕ) → IsBest (P x) (f x)) → (a n : ℕ)
      → IsBest (FromTo P a (a + n)) (best_of test f a n)
  IsBest-best_of P f each a zero = IsBest-more (P a) (FromTo P a (a + 0))
      (λ m p. (a, omega arith, omega arith, p))
      (λ m (x, from, to, p) more.
      let same : x ≡ a = omega arith in
      (m, subst (λ y. P y m) same p, more, order.itself m))
      (f a) (each a)
  IsBest-best_of P f each a (suc n) = IsBest-better (FromTo P a (a + n)) (P (a + suc n)) (FromTo P a (a + suc n))
      (λ m (x, from, to, p). (x, from, omega arith, p))
      (λ m p. (a + suc n, omega arith, omega arith, p))
      (λ m (x, from, to, p). elim (cases_lt (a + n) x) [
        | inl last ↦ (let same : x ≡ a + suc n = omega arith in inr (subst (λ y. P y m) same p))
        | inr before ↦ inl (x, from, before, p)
      ])
      (best_of test f a n) (f (a + suc n)) (IsBest-best_of P f each a n) (each (a + suc n))

  pub IsBest-best_mean : (sum : SplitFigures → ℕ → ℤ) (known : Fraction) (splits : List SplitFigures) → AreOrdered splits
      → IsBest (AddsUpTo sum known splits) (best_mean test sum known splits)
  IsBest-best_mean sum known [] ordered = IsBest-mean_of known
  IsBest-best_mean sum known (s ∷ splits) ordered =
      let order_is = ordered.0 in
      let end : least_count s + (greatest_count s - least_count s) ≡ greatest_count s = omega arith in
      subst (λ b. IsBest (FromTo (λ x. AddsUpTo sum (with_values known (so_many (sum s) x)) splits) (least_count s) b)
      (best_mean test sum known (s ∷ splits))) end
      (IsBest-best_of (λ x. AddsUpTo sum (with_values known (so_many (sum s) x)) splits)
      (λ x. best_mean test sum (with_values known (so_many (sum s) x)) splits)
      (λ x. IsBest-best_mean sum (with_values known (so_many (sum s) x)) splits ordered.1)
      (least_count s) (greatest_count s - least_count s))
