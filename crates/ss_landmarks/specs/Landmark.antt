-- A landmark: an interval of time whose values are kept one by one.
use Rattle.std.specs.Prelude.{ℕ, ℤ, ◌++◌, List, [], ◌∷◌, Option, Some, None, is_none}
use Rattle.std.specs.List.{find, flat_map}

-- a value in a landmark: its time, and what it is
pub record LandmarkValue : Type 0 where
  pub t : ℕ
  pub v : ℤ

-- a landmark: the time at which it opens, the time at which it closes if it is closed, and its values in order
pub record Landmark : Type 0 where
  pub start : ℕ
  pub finish : Option ℕ
  pub values : List LandmarkValue

-- a landmark that opens at this time
abbrev pub opened_at : ℕ → Landmark
opened_at t = record { start = t; finish = None; values = [] }

-- the landmark with one more value
abbrev pub with_value : LandmarkValue → Landmark → Landmark
with_value value l = record { start = l.start; finish = l.finish; values = l.values ++ value ∷ [] }

-- the landmark, closed at this time
abbrev pub closed_at : ℕ → Landmark → Landmark
closed_at t l = record { start = l.start; finish = Some t; values = l.values }

-- the list with its last landmark changed
abbrev pub change_last : (Landmark → Landmark) → List Landmark → List Landmark
change_last change [] = []
change_last change (l ∷ []) = change l ∷ []
change_last change (l ∷ next ∷ ls) = l ∷ change_last change (next ∷ ls)

-- the landmark that is open, if one is
abbrev pub open_landmark : List Landmark → Option Landmark
open_landmark landmarks = find (λ l. is_none l.finish) landmarks

-- the values of all landmarks, in order
abbrev pub all_values : List Landmark → List LandmarkValue
all_values landmarks = flat_map (λ l. l.values) landmarks
