-- Answers that are put together: where each answer lies within two put together, so do all of them.
use Rattle.std.specs.Prelude.{◌≡◌, List, [], ◌∷◌, map}
use Rattle.std.proofs.Common.{subst, sym}

-- answers are put together in any order, one that says nothing adds nothing, and what lies within stays within
pub record PutsTogether {X : Type 0} (none : X) (join : X → X → X) (Within : X → X → Type 0) : Type 0 where
  pub left : (x : X) → join none x ≡ x
  pub right : (x : X) → join x none ≡ x
  pub swap : (a b c d : X) → join (join a b) (join c d) ≡ join (join a c) (join b d)
  pub same : (x : X) → Within x x
  pub follows : (x y z : X) → Within x y → Within y z → Within x z
  pub joined : (x y v w : X) → Within x v → Within y w → Within (join x y) (join v w)

module _ {X : Type 0} (none : X) (join : X → X → X) where
  -- all of some answers
  abbrev pub together : List X → X
  together [] = none
  together (x ∷ xs) = join x (together xs)

  module _ (Within : X → X → Type 0) (puts : PutsTogether none join Within) where
    -- each answer lies within two, one of each kind
    abbrev pub EachWithin : {A : Type 0} → (A → X) → (A → X) → (A → X) → List A → Type 0
    EachWithin whole first second [] = Unit {0}
    EachWithin whole first second (a ∷ rest) = Within (whole a) (join (first a) (second a)) × EachWithin whole first second rest

    pub within-pairs : {A : Type 0} (whole first second : A → X) (items : List A) → EachWithin whole first second items
        → Within (together (map whole items)) (join (together (map first items)) (together (map second items)))
    within-pairs whole first second [] each = subst (Within none) (sym (puts.left none)) (puts.same none)
    within-pairs whole first second (a ∷ rest) each =
        subst (Within (together (map whole (a ∷ rest))))
        (puts.swap (first a) (second a) (together (map first rest)) (together (map second rest)))
        (puts.joined (whole a) (together (map whole rest)) _ _ each.0 (within-pairs whole first second rest each.1))

    -- two lists of them
    pub within-both : (a b c d e f : X) → Within a (join c e) → Within b (join d f) → Within (join a b) (join (join c d) (join e f))
    within-both a b c d e f one two = subst (Within (join a b)) (puts.swap c e d f) (puts.joined a b _ _ one two)

    pub within-alike : (x x' y y' z z' : X) → x ≡ x' → y ≡ y' → z ≡ z' → Within x' (join y' z') → Within x (join y z)
    within-alike x x' y y' z z' whole first second within = rw (whole, first, second) within
