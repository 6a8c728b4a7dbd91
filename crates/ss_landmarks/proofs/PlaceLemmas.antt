-- The newest of the values that are held, those at places, and those of a range of time.
use Rattle.std.proofs.Common.{◌≡◌, ◌∙◌, sym, ap, refl, ℕ, ◌+◌, ◌-◌, ◌<◌, ◌≤◌, ℤ, List, [], ◌∷◌, length, map, slice_get, get_or, take, drop, arith}
use Rattle.std.proofs.Common.{Option, Some, None}
use Rattle.std.specs.Prelude.{FitsSigned, option_map}
use Rattle.std.specs.Int.{w64}
use Rattle.std.specs.List.{filter, last_or}
use Rattle.std.proofs.lemmas.Int.{to_z-of_z}
use Rattle.std.proofs.lemmas.List.{drop-map, length-drop, length-map, length-take-le, take-map}
use Rattle.std.proofs.lemmas.Option.{get_or_from_slice_get, slice_get-map}
use mir.Val.{to_z, of_z}
use Rattle.ss_landmarks.specs.Landmark.{Landmark, LandmarkValue, all_values}
use Rattle.ss_landmarks.specs.Newest.{newest_value}
use Rattle.ss_landmarks.specs.Order.{RiseFrom}
use Rattle.ss_landmarks.specs.Stored.{bare_value, landmarks_from, AreStored}
use Rattle.ss_landmarks.specs.ValuesIn.{lies_in, values_between}
use Rattle.ss_landmarks.specs.declared.stored.Closed.{Closed}
use Rattle.ss_landmarks.specs.declared.stored.Opened.{Opened}
use Rattle.ss_landmarks.specs.declared.stored.StoredValue.{StoredValue}
use Rattle.ss_landmarks.proofs.HeldLemmas.{all_values-landmarks_from}
use Rattle.ss_landmarks.proofs.OrderLemmas.{RiseFrom-all_values}
use Rattle.ss_landmarks.proofs.ValueLemmas.{stored-fit}

-- the last of a list stands at its last place
last_or-cons : {A : Type 0} (x : A) (xs : List A) → last_or (Some x) xs ≡ slice_get (x ∷ xs) (length xs)
last_or-cons x [] = refl
last_or-cons x (y ∷ ys) = last_or-cons y ys

pub last_or-slice_get : {A : Type 0} (xs : List A) → last_or None xs ≡ slice_get xs (length xs - 1)
last_or-slice_get [] = refl
last_or-slice_get (x ∷ xs) = let before : length xs ≡ length (x ∷ xs) - 1 = omega arith in last_or-cons x xs ∙ ap (slice_get (x ∷ xs)) before

-- values as they are held, and the landmarks that are seen of them
module _ (cs : List Closed) (current : Option Opened) (values : List StoredValue) (stored : AreStored cs current (map bare_value values)) where
  abbrev seen : List Landmark
  seen = landmarks_from cs current (map bare_value values)

  pub all_values-seen : all_values seen ≡ map bare_value values
  all_values-seen = all_values-landmarks_from cs current (map bare_value values) stored.shared

  pub length-seen : length (all_values seen) ≡ length values
  length-seen = ap length all_values-seen ∙ length-map values bare_value

  pub stored-rises : RiseFrom 0 (map bare_value values)
  stored-rises = rw all_values-seen at (RiseFrom-all_values 0 _ stored.order)

  fits-at : (place : ℕ) (value : StoredValue) → place < length values → slice_get values place ≡ Some value → FitsSigned w64 value.v
  fits-at place value below is =
      let here : get_or values place value ≡ value = get_or_from_slice_get values place value value is in
      rw here at (stored-fit values stored-rises place value below)

  -- the value that is seen at a place
  pub slice_get-seen : (place : ℕ) (value : StoredValue) → place < length values → slice_get values place ≡ Some value
      → slice_get (all_values seen) place ≡ Some (record { t = value.t; v = to_z w64 (of_z w64 value.v) })
  slice_get-seen place value below is =
      let whole : ℤ → Option LandmarkValue = λ v. Some (record { t = value.t; v = v }) in
      ap (λ (vs : List LandmarkValue). slice_get vs place) all_values-seen
      ∙ slice_get-map bare_value values place
      ∙ ap (option_map bare_value) is
      ∙ sym (ap whole (to_z-of_z w64 value.v (fits-at place value below is)))

  -- the newest value that is seen
  pub newest_value-seen : newest_value seen ≡ slice_get (all_values seen) (length values - 1)
  newest_value-seen =
      last_or-slice_get (all_values seen) ∙ ap (λ (n : ℕ). slice_get (all_values seen) (n - 1)) length-seen

  pub newest_value-none : slice_get values (length values - 1) ≡ None → newest_value seen ≡ None
  newest_value-none none =
      newest_value-seen
      ∙ ap (λ (vs : List LandmarkValue). slice_get vs (length values - 1)) all_values-seen
      ∙ slice_get-map bare_value values (length values - 1)
      ∙ ap (option_map bare_value) none

  -- the values of a range of time stand together
  pub values_between-seen : (a b i n : ℕ) → map bare_value (take n (drop i values)) ≡ filter (lies_in a b) (map bare_value values)
      → values_between seen a b ≡ take n (drop i (all_values seen))
  values_between-seen a b i n found =
      let held : take n (drop i (map bare_value values)) ≡ map bare_value (take n (drop i values)) =
      ap (take n) (drop-map bare_value i values) ∙ take-map bare_value n (drop i values) in
      ap (filter (lies_in a b)) all_values-seen ∙ sym found ∙ sym held ∙ ap (λ (vs : List LandmarkValue). take n (drop i vs)) (sym all_values-seen)

  pub length-between : (a b i n : ℕ) → i + n ≤ length values → values_between seen a b ≡ take n (drop i (all_values seen))
      → n ≡ length (values_between seen a b)
  length-between a b i n within is =
      let rest = length-drop i (all_values seen) in
      sym (ap length is ∙ length-take-le n (drop i (all_values seen)) (omega (arith, length-seen, rest, within)))
