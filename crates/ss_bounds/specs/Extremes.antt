-- The least and the greatest value in a range, from what is known exactly and from the windows that the range splits.
use Rattle.std.specs.Prelude.{Bool, nat_le, ℤ, List, [], ◌∷◌, map, Option, None, Some}
use Rattle.std.specs.List.{filter}
use Rattle.std.specs.Int.{int_min, int_max}
use Rattle.ss_bounds.specs.declared.extreme.Extreme.{Extreme}
use Rattle.ss_bounds.specs.declared.extreme.Extreme.TheVariants.{Nothing, Sure, Maybe}
use Rattle.ss_bounds.specs.Split.{SplitFigures, least_count, greatest_count}

-- a split window can hold a value in the range where one may lie there, and must where one lies there in any case
abbrev pub can_hold : SplitFigures → Bool
can_hold s = nat_le 1 (greatest_count s)

abbrev pub must_hold : SplitFigures → Bool
must_hold s = nat_le 1 (least_count s)

-- which one of a value and others a choice between two leaves in the end
abbrev pub chosen : (ℤ → ℤ → ℤ) → ℤ → List ℤ → ℤ
chosen choice v [] = v
chosen choice v (w ∷ ws) = choice v (chosen choice w ws)

-- the least of them, and the greatest
abbrev pub least : ℤ → List ℤ → ℤ
least = chosen int_min

abbrev pub greatest : ℤ → List ℤ → ℤ
greatest = chosen int_max

-- the least and the greatest value of a window
abbrev pub min_of : SplitFigures → ℤ
min_of s = s.min

abbrev pub max_of : SplitFigures → ℤ
max_of s = s.max

-- The least value in the range, from the least one known exactly, if there is one, the split windows that can hold a value
-- in the range, and those that must.
abbrev pub min_table : Option ℤ → List SplitFigures → List SplitFigures → Extreme
-- nothing can lie in the range
min_table None [] must = Nothing
-- some value may lie there, and none must
min_table None (s ∷ can) [] = Maybe (least s.min (map min_of can)) (greatest s.max (map max_of can))
-- some value lies there
min_table None (s ∷ can) (t ∷ must) = Sure (least s.min (map min_of can)) (least t.max (map max_of must))
min_table (Some e) can must = Sure (least e (map min_of can)) (least e (map max_of must))

-- the same of the greatest value
abbrev pub max_table : Option ℤ → List SplitFigures → List SplitFigures → Extreme
max_table None [] must = Nothing
max_table None (s ∷ can) [] = Maybe (least s.min (map min_of can)) (greatest s.max (map max_of can))
max_table None (s ∷ can) (t ∷ must) = Sure (greatest t.min (map min_of must)) (greatest s.max (map max_of can))
max_table (Some e) can must = Sure (greatest e (map min_of must)) (greatest e (map max_of can))

-- the interval of the least value, and that of the greatest, for any split windows
abbrev pub min_interval : Option ℤ → List SplitFigures → Extreme
min_interval exact splits = min_table exact (filter can_hold splits) (filter must_hold splits)

abbrev pub max_interval : Option ℤ → List SplitFigures → Extreme
max_interval exact splits = max_table exact (filter can_hold splits) (filter must_hold splits)

-- what stands of two, the first before the second
abbrev pub listed : {A : Type 0} → Option A → Option A → List A
listed None None = []
listed None (Some b) = b ∷ []
listed (Some a) None = a ∷ []
listed (Some a) (Some b) = a ∷ b ∷ []
