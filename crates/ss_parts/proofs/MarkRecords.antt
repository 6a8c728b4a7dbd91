-- The records of landmarks and of their values, one part after another, and how many there are.
use Rattle.std.proofs.Common.{[], ◌+◌, ◌∷◌, ◌≡◌, arith, length, List, refl, ℕ, length-append, ◌++◌, ap, ◌∙◌, append-nil, append_assoc, sym}
use Rattle.ss_landmarks.specs.Landmark.{LandmarkValue, Landmark, all_values}
use Rattle.ss_codec.specs.declared.record.Record.TheVariants as records
use Rattle.ss_parts.specs.Held.{value_records, landmark_records, all_value_records, landmark_record}

-- how many there are
pub length-value_records : (number n index : ℕ) (values : List LandmarkValue) → length (value_records number n index values) ≡ length values
length-value_records number n index [] = refl
length-value_records number n index (value ∷ values) = omega (arith, length-value_records number n (index + 1) values)

pub length-landmark_records : (number n : ℕ) (ls : List Landmark) → length (landmark_records number n ls) ≡ length ls
length-landmark_records number n [] = refl
length-landmark_records number n (l ∷ ls) = omega (arith, length-landmark_records number (n + 1) ls)

pub length-all_value_records : (number n : ℕ) (ls : List Landmark) → length (all_value_records number n ls) ≡ length (all_values ls)
length-all_value_records number n [] = refl
length-all_value_records number n (l ∷ ls) =
    omega (
      arith,
      length-append (value_records number n 1 l.values) (all_value_records number (n + 1) ls),
      length-append l.values (all_values ls),
      length-value_records number n 1 l.values,
      length-all_value_records number (n + 1) ls,
    )

-- one more value, and one more landmark
pub value_records-append : (number n index k : ℕ) (values : List LandmarkValue) (value : LandmarkValue) → k ≡ index + length values →
    value_records number n index (values ++ value ∷ []) ≡ value_records number n index values ++ value_records number n k (value ∷ [])
value_records-append number n index k [] value next = let same : k ≡ index = omega (arith, next) in rw same refl
value_records-append number n index k (x ∷ xs) value next =
    ap (λ rs. records.Value number n index x.t x.v ∷ rs) (value_records-append number n (index + 1) k xs value (omega (arith, next)))

pub landmark_records-append : (number n k : ℕ) (ls : List Landmark) (l : Landmark) → k ≡ n + length ls →
    landmark_records number n (ls ++ l ∷ []) ≡ landmark_records number n ls ++ landmark_record number k l ∷ []
landmark_records-append number n k [] l next = let same : k ≡ n = omega (arith, next) in rw same refl
landmark_records-append number n k (x ∷ xs) l next =
    ap (λ rs. landmark_record number n x ∷ rs) (landmark_records-append number (n + 1) k xs l (omega (arith, next)))

pub all_value_records-append : (number n k : ℕ) (ls : List Landmark) (l : Landmark) → k ≡ n + length ls →
    all_value_records number n (ls ++ l ∷ []) ≡ all_value_records number n ls ++ value_records number k 1 l.values
all_value_records-append number n k [] l next =
    let same : n ≡ k = omega (arith, next) in
    append-nil (value_records number n 1 l.values) ∙ ap (λ m. value_records number m 1 l.values) same
all_value_records-append number n k (x ∷ xs) l next =
    ap (λ rs. value_records number n 1 x.values ++ rs) (all_value_records-append number (n + 1) k xs l (omega (arith, next)))
    ∙ sym (append_assoc (value_records number n 1 x.values) (all_value_records number (n + 1) xs) (value_records number k 1 l.values))
