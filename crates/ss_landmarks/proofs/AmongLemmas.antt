-- Which values are among some landmark values.
use Rattle.std.proofs.Common.{◌≡◌, ◌∙◌, ap, sym, refl, ◌<◌, ℤ, Bool, ◌||◌, List, [], ◌∷◌, length, map, get_or, arith}
use Rattle.std.specs.Prelude.{IsTrue, Contains}
use Rattle.std.specs.List.{list_any}
use Rattle.std.specs.Ordering.{int_eq}
use Rattle.std.proofs.lemmas.Bool.Decides.{Decides-int_eq}
use Rattle.std.proofs.lemmas.List.{get_or-map, length-map}
use Rattle.std.proofs.lemmas.List.Folds.{list_any_at, Any-from_list_any}
use Rattle.ss_landmarks.specs.Landmark.{LandmarkValue}
use Rattle.ss_landmarks.specs.Stored.{bare_value}
use Rattle.ss_landmarks.specs.declared.stored.StoredValue.{StoredValue}
use Rattle.ss_landmarks.specs.ValuesIn.{is_among}

-- whether v is among values as they are held
pub is_among-bare : (v : ℤ) (values : List StoredValue) → is_among v (map bare_value values) ≡ list_any (λ (value : StoredValue). int_eq value.v v) values
is_among-bare v [] = refl
is_among-bare v (x ∷ values) = ap (λ (b : Bool). int_eq x.v v || b) (is_among-bare v values)

-- v is among the values exactly where one of them is v
module _ (v : ℤ) (values : List LandmarkValue) where
  abbrev bare : LandmarkValue → ℤ
  bare value = value.v

  abbrev is_v : LandmarkValue → Bool
  is_v value = int_eq value.v v

  pub Contains-is_among : IsTrue (is_among v values) → Contains (map (λ value. value.v) values) v
  Contains-is_among among =
      let (k, value, below, is, same) = Any-from_list_any is_v values among in
      let size : length (map (λ value. value.v) values) ≡ length values = length-map values bare in
      (k, omega (arith, below, size), get_or-map bare values k value v below ∙ ap bare is ∙ (Decides-int_eq value.v v).0 same)

  pub is_among-Contains : Contains (map (λ value. value.v) values) v → IsTrue (is_among v values)
  is_among-Contains (k, below, is) =
      let d : LandmarkValue = record { t = 0; v = v } in
      let size : length (map (λ value. value.v) values) ≡ length values = length-map values bare in
      let inside : k < length values = omega (arith, below, size) in
      list_any_at is_v values k d inside ((Decides-int_eq (get_or values k d).v v).1 (sym (get_or-map bare values k d v inside) ∙ is))
