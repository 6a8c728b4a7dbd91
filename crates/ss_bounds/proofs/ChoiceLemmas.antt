-- Choices among values that may be missing, by an order: `Better a b` says that a choice may leave a in place of b.
use Rattle.std.specs.Prelude.{◌≡◌, ℤ, ◌≤ℤ◌, List, [], ◌∷◌, ◌++◌, Option, None, Some, MatchOption}
use Rattle.std.specs.List.{flat_map}
use Rattle.std.specs.Int.{int_min, int_max}
use Rattle.std.proofs.Common.{ap, arith, refl, sym, ◌∙◌}
use Rattle.std.proofs.lemmas.Int.{ints, clamps}
use Rattle.ss_bounds.specs.Either.{either, choice_in}

-- what a choice between two keeps to
pub record IsChoice (choice : ℤ → ℤ → ℤ) (Better : ℤ → ℤ → Type 0) : Type 0 where
  pub assoc : (a b c : ℤ) → choice (choice a b) c ≡ choice a (choice b c)
  pub trans : (a b c : ℤ) → Better a b → Better b c → Better a c
  pub left : (a b : ℤ) → Better (choice a b) a
  pub right : (a b : ℤ) → Better (choice a b) b
  pub both : (a b c d : ℤ) → Better a b → Better c d → Better (choice a c) (choice b d)

abbrev pub AtMost : ℤ → ℤ → Type 0
AtMost a b = a ≤ℤ b

abbrev pub AtLeast : ℤ → ℤ → Type 0
AtLeast a b = b ≤ℤ a

pub IsChoice-min : IsChoice int_min AtMost
IsChoice-min = record {
  assoc = λ a b c. omega (arith, ints, clamps);
  trans = λ a b c first second. omega (arith, ints);
  left = λ a b. omega (arith, ints, clamps);
  right = λ a b. omega (arith, ints, clamps);
  both = λ a b c d first second. omega (arith, ints, clamps);
}

pub IsChoice-max : IsChoice int_max AtLeast
IsChoice-max = record {
  assoc = λ a b c. omega (arith, ints, clamps);
  trans = λ a b c first second. omega (arith, ints);
  left = λ a b. omega (arith, ints, clamps);
  right = λ a b. omega (arith, ints, clamps);
  both = λ a b c d first second. omega (arith, ints, clamps);
}

-- where there is a second, there is a first, and a better one
abbrev pub IsBetter : (ℤ → ℤ → Type 0) → Option ℤ → Option ℤ → Type 0
IsBetter Better a b = MatchOption b (Unit {0}) (λ y. MatchOption a ⊥ (λ x. Better x y))

pub choice_in-cons : (choice : ℤ → ℤ → ℤ) (v : ℤ) (vs : List ℤ) → choice_in choice (v ∷ vs) ≡ either choice (Some v) (choice_in choice vs)
choice_in-cons choice v [] = refl
choice_in-cons choice v (w ∷ ws) = refl

module _ {choice : ℤ → ℤ → ℤ} {Better : ℤ → ℤ → Type 0} (is : IsChoice choice Better) where
  pub IsBetter-either : (a b c d : Option ℤ) → IsBetter Better a b → IsBetter Better c d → IsBetter Better (either choice a c) (either choice b d)
  IsBetter-either a None c None first second = tt
  IsBetter-either None None c (Some y) first second = second
  IsBetter-either (Some x) None None (Some y) first second = absurd second
  IsBetter-either (Some x) None (Some z) (Some y) first second = is.trans _ _ _ (is.right x z) second
  IsBetter-either None (Some y) c d first second = absurd first
  IsBetter-either (Some x) (Some y) None None first second = first
  IsBetter-either (Some x) (Some y) (Some z) None first second = is.trans _ _ _ (is.left x z) first
  IsBetter-either (Some x) (Some y) None (Some w) first second = absurd second
  IsBetter-either (Some x) (Some y) (Some z) (Some w) first second = is.both _ _ _ _ first second

  pub either-assoc : (a b c : Option ℤ) → either choice (either choice a b) c ≡ either choice a (either choice b c)
  either-assoc None b c = refl
  either-assoc (Some a) None c = refl
  either-assoc (Some a) (Some b) None = refl
  either-assoc (Some a) (Some b) (Some c) = ap Some (is.assoc a b c)

  pub choice_in-append : (xs ys : List ℤ) → choice_in choice (xs ++ ys) ≡ either choice (choice_in choice xs) (choice_in choice ys)
  choice_in-append [] ys = refl
  choice_in-append (x ∷ xs) ys =
      choice_in-cons choice x (xs ++ ys) ∙ ap (either choice (Some x)) (choice_in-append xs ys)
      ∙ sym (either-assoc (Some x) (choice_in choice xs) (choice_in choice ys))
      ∙ ap (λ z. either choice z (choice_in choice ys)) (sym (choice_in-cons choice x xs))

  -- what is better in each place of a list is better in all
  module _ {W : Type 0} where
    abbrev pub choice_of : (W → Option ℤ) → List W → Option ℤ
    choice_of g [] = None
    choice_of g (w ∷ ws) = either choice (g w) (choice_of g ws)

    pub IsBetter-choice_of : (g h : W → Option ℤ) (Each : List W → Type 0) → ((w : W) (ws : List W) → Each (w ∷ ws) → IsBetter Better (g w) (h w) × Each ws)
        → (ws : List W) → Each ws → IsBetter Better (choice_of g ws) (choice_of h ws)
    IsBetter-choice_of g h Each step [] each = tt
    IsBetter-choice_of g h Each step (w ∷ ws) each =
        let next = step w ws each in
        IsBetter-either (g w) (h w) (choice_of g ws) (choice_of h ws) next.0 (IsBetter-choice_of g h Each step ws next.1)

    pub choice_of-flat_map : (f : W → List ℤ) (ws : List W) → choice_of (λ w. choice_in choice (f w)) ws ≡ choice_in choice (flat_map f ws)
    choice_of-flat_map f [] = refl
    choice_of-flat_map f (w ∷ ws) =
        ap (either choice (choice_in choice (f w))) (choice_of-flat_map f ws) ∙ sym (choice_in-append (f w) (flat_map f ws))
