-- The tables of the least and the greatest value, over at most two split windows.
use Rattle.std.specs.Prelude.{◌≡◌, Bool, true, false, if◌then◌else◌, ℤ, List, [], ◌∷◌, map, Option, None, Some}
use Rattle.std.specs.List.{filter}
use Rattle.std.specs.Option.{option_map, option_zip}
use Rattle.std.proofs.Common.{ap, refl, ◌∙◌, sym}
use Rattle.ss_bounds.specs.Split.{SplitFigures}
use Rattle.ss_bounds.specs.Extremes.{listed, min_table, max_table, min_interval, max_interval, can_hold, must_hold, min_of, max_of}
use Rattle.ss_bounds.specs.Either.{passing, lesser, greater, least_in, greatest_in, extremes_of, extreme_of}

-- those of two that pass a test are what passes of each
filter-one : {A : Type 0} (test : A → Bool) (a : A) (b : Bool) → (if b then a ∷ [] else []) ≡ listed (if b then Some a else None) None
filter-one test a true = refl
filter-one test a false = refl

filter-two : {A : Type 0} (a b : A) (first second : Bool)
    → (if first then a ∷ (if second then b ∷ [] else []) else (if second then b ∷ [] else []))
    ≡ listed (if first then Some a else None) (if second then Some b else None)
filter-two a b true true = refl
filter-two a b true false = refl
filter-two a b false true = refl
filter-two a b false false = refl

second-one : {A : Type 0} (b : A) (second : Bool) → (if second then b ∷ [] else []) ≡ listed None (if second then Some b else None)
second-one b true = refl
second-one b false = refl

pub filter-listed : {A : Type 0} (test : A → Bool) (left right : Option A)
    → filter test (listed left right) ≡ listed (passing test left) (passing test right)
filter-listed test None None = refl
filter-listed test None (Some b) = second-one b (test b)
filter-listed test (Some a) None = filter-one test a (test a)
filter-listed test (Some a) (Some b) = filter-two a b (test a) (test b)

lesser-listed : {A : Type 0} (f : A → ℤ) (a b : Option A) → lesser (option_map f a) (option_map f b) ≡ least_in (map f (listed a b))
lesser-listed f None None = refl
lesser-listed f None (Some b) = refl
lesser-listed f (Some a) None = refl
lesser-listed f (Some a) (Some b) = refl

greater-listed : {A : Type 0} (f : A → ℤ) (a b : Option A) → greater (option_map f a) (option_map f b) ≡ greatest_in (map f (listed a b))
greater-listed f None None = refl
greater-listed f None (Some b) = refl
greater-listed f (Some a) None = refl
greater-listed f (Some a) (Some b) = refl

-- the tables, row by row, from what the code finds
pub min_table-found : (exact : Option ℤ) (can must : List SplitFigures) → min_table exact can must
    ≡ extreme_of (option_zip (lesser exact (least_in (map min_of can))) (lesser exact (least_in (map max_of must))))
    (option_zip (lesser exact (least_in (map min_of can))) (greatest_in (map max_of can)))
min_table-found None [] must = refl
min_table-found None (s ∷ can) [] = refl
min_table-found None (s ∷ can) (t ∷ must) = refl
min_table-found (Some e) [] [] = refl
min_table-found (Some e) [] (t ∷ must) = refl
min_table-found (Some e) (s ∷ can) [] = refl
min_table-found (Some e) (s ∷ can) (t ∷ must) = refl

pub max_table-found : (exact : Option ℤ) (can must : List SplitFigures) → max_table exact can must
    ≡ extreme_of (option_zip (greater exact (greatest_in (map min_of must))) (greater exact (greatest_in (map max_of can))))
    (option_zip (least_in (map min_of can)) (greater exact (greatest_in (map max_of can))))
max_table-found None [] [] = refl
max_table-found None [] (t ∷ must) = refl
max_table-found None (s ∷ can) [] = refl
max_table-found None (s ∷ can) (t ∷ must) = refl
max_table-found (Some e) [] [] = refl
max_table-found (Some e) [] (t ∷ must) = refl
max_table-found (Some e) (s ∷ can) [] = refl
max_table-found (Some e) (s ∷ can) (t ∷ must) = refl

option_map-map : {A B C : Type 0} (g : B → C) (f : A → B) (a : Option A) → option_map g (option_map f a) ≡ option_map (λ x. g (f x)) a
option_map-map g f None = refl
option_map-map g f (Some a) = refl

-- the code's least and greatest values of the windows that can hold a value, or must
-- of two windows, those that pass a test, by one of their values
abbrev pub parts : (ℤ × ℤ → ℤ) → (SplitFigures → Bool) → Option SplitFigures → Option ℤ
parts part test split = option_map part (option_map extremes_of (passing test split))

module _ (part : ℤ × ℤ → ℤ) (test : SplitFigures → Bool) (left right : Option SplitFigures) where
  lesser-parts : lesser (parts part test left) (parts part test right) ≡ least_in (map (λ s. part (extremes_of s)) (filter test (listed left right)))
  lesser-parts =
      rw (option_map-map part extremes_of (passing test left), option_map-map part extremes_of (passing test right))
      (lesser-listed (λ s. part (extremes_of s)) (passing test left) (passing test right)
      ∙ ap (λ z. least_in (map (λ s. part (extremes_of s)) z)) (sym (filter-listed test left right)))

  greater-parts : greater (parts part test left) (parts part test right) ≡ greatest_in (map (λ s. part (extremes_of s)) (filter test (listed left right)))
  greater-parts =
      rw (option_map-map part extremes_of (passing test left), option_map-map part extremes_of (passing test right))
      (greater-listed (λ s. part (extremes_of s)) (passing test left) (passing test right)
      ∙ ap (λ z. greatest_in (map (λ s. part (extremes_of s)) z)) (sym (filter-listed test left right)))

abbrev pub first : ℤ × ℤ → ℤ
first v = v.0

abbrev pub second : ℤ × ℤ → ℤ
second v = v.1

-- what the code finds is the interval
module _ (exact : Option ℤ) (left right : Option SplitFigures) where
  pub found-min_interval : extreme_of
      (option_zip (lesser exact (lesser (parts first can_hold left) (parts first can_hold right)))
      (lesser exact (lesser (parts second must_hold left) (parts second must_hold right))))
      (option_zip (lesser exact (lesser (parts first can_hold left) (parts first can_hold right)))
      (greater (parts second can_hold left) (parts second can_hold right)))
      ≡ min_interval exact (listed left right)
  found-min_interval =
      rw (lesser-parts first can_hold left right, lesser-parts second must_hold left right, greater-parts second can_hold left right)
      (sym (min_table-found exact (filter can_hold (listed left right)) (filter must_hold (listed left right))))

  pub found-max_interval : extreme_of
      (option_zip (greater exact (greater (parts first must_hold left) (parts first must_hold right)))
      (greater exact (greater (parts second can_hold left) (parts second can_hold right))))
      (option_zip (lesser (parts first can_hold left) (parts first can_hold right))
      (greater exact (greater (parts second can_hold left) (parts second can_hold right))))
      ≡ max_interval exact (listed left right)
  found-max_interval =
      rw (greater-parts first must_hold left right, greater-parts second can_hold left right, lesser-parts first can_hold left right)
      (sym (max_table-found exact (filter can_hold (listed left right)) (filter must_hold (listed left right))))
