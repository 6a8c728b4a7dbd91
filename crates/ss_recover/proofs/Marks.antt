-- The records of landmarks in order, each landmark's before those of its values: the landmarks that they make, and the order of places.
use Rattle.ss_parts.proofs.MarkRecords.{length-value_records}
use Rattle.ss_recover.proofs.Common.{[], ◌*◌, ◌++◌, ◌+◌, ◌<◌, ◌==◌, ◌^◌, ◌||◌, ◌∙◌, ◌∷◌, ◌≡◌, ◌≤◌, All, all_value_records, all_values, AllByRecursion}
use Rattle.ss_recover.proofs.Common.{and_from, ap, append_assoc, are_counted, are_in_time, are_marks, are_numbered, AreLandmarks, arith, eq-eqb, filter}
use Rattle.ss_recover.proofs.Common.{FollowFrom, free_from, IfSome, in_order, is_mark_of, is_none, is_up_to, IsLandmark, IsPermutation}
use Rattle.ss_recover.proofs.Common.{IsPermutation-append_comm, IsPermutation-append_left, IsPermutation-append_right, IsPermutation-cons, IsPermutation-refl}
use Rattle.ss_recover.proofs.Common.{IsPermutation-trans, Landmark, landmark_record, landmark_records, landmarks_made, LandmarkValue, LAST_TIME, le-leb, length}
use Rattle.ss_recover.proofs.Common.{length-append, List, map, MatchOption, None, Option, option_map_or, place_of, Record, recursion_from_All, refl}
use Rattle.ss_recover.proofs.Common.{rise_within, RiseFrom, Some, Stream, stream_record, subst, true, value_records, values_first, values_said, window_record}
use Rattle.ss_recover.proofs.Common.{ℕ, ℤ}
use Rattle.ss_recover.proofs.InOrder.{in_order-IsPermutation, Rise}
use Rattle.ss_model.proofs.FoundLemmas.{each-append}
use Rattle.ss_codec.specs.declared.record.Record.TheVariants as records
use Rattle.ss_parts.proofs.Lists.{all-each, all_weaker, filter-all}

-- the records of landmarks numbered from here on, each followed by those of its values
abbrev pub marks_of : ℕ → ℕ → List Landmark → List Record
marks_of number n [] = []
marks_of number n (l ∷ ls) = landmark_record number n l ∷ value_records number n 1 l.values ++ marks_of number (n + 1) ls

pub length-marks_of : (number n : ℕ) (ls : List Landmark) → length (marks_of number n ls) ≡ length ls + length (all_values ls)
length-marks_of number n [] = refl
length-marks_of number n (l ∷ ls) =
    omega (
      arith,
      length-append (value_records number n 1 l.values) (marks_of number (n + 1) ls),
      length-append l.values (all_values ls),
      length-value_records number n 1 l.values,
      length-marks_of number (n + 1) ls,
    )

-- they are the records of the landmarks and those of all values, in another order
over : (xs ms ys zs : List Record) → IsPermutation ms (ys ++ zs) → IsPermutation (xs ++ ms) (ys ++ (xs ++ zs))
over xs ms ys zs moved =
    let turned : IsPermutation ((xs ++ ys) ++ zs) ((ys ++ xs) ++ zs) = IsPermutation-append_left zs (xs ++ ys) (ys ++ xs) (IsPermutation-append_comm xs ys) in
    IsPermutation-trans _ _ _ (IsPermutation-append_right xs ms (ys ++ zs) moved)
    (subst (λ l. IsPermutation l (ys ++ (xs ++ zs))) (append_assoc xs ys zs) (subst (λ l. IsPermutation ((xs ++ ys) ++ zs) l) (append_assoc ys xs zs) turned))

pub IsPermutation-marks_of : (number n : ℕ) (ls : List Landmark) →
    IsPermutation (marks_of number n ls) (landmark_records number n ls ++ all_value_records number n ls)
IsPermutation-marks_of number n [] = IsPermutation-refl []
IsPermutation-marks_of number n (l ∷ ls) =
    let values = value_records number n 1 l.values in
    let rest = landmark_records number (n + 1) ls in
    let others = all_value_records number (n + 1) ls in
    IsPermutation-cons (landmark_record number n l) (values ++ marks_of number (n + 1) ls) (rest ++ (values ++ others))
    (over values (marks_of number (n + 1) ls) rest others (IsPermutation-marks_of number (n + 1) ls))

-- what holds of each record of a landmark or a value holds of each of them
module _ (P : Record → Type 0) (number : ℕ)
    (landmark : (n values start : ℕ) (finish : Option ℕ) → P (records.Landmark number n values start finish))
    (value : (n index t : ℕ) (v : ℤ) → P (records.Value number n index t v)) where
  each-value_record : (n index : ℕ) (values : List LandmarkValue) → AllByRecursion P (value_records number n index values)
  each-value_record n index [] = tt
  each-value_record n index (v ∷ vs) = (value n index v.t v.v, each-value_record n (index + 1) vs)

  pub each-mark_of : (n : ℕ) (ls : List Landmark) → AllByRecursion P (marks_of number n ls)
  each-mark_of n [] = tt
  each-mark_of n (l ∷ ls) = (
    landmark n (values_said l) l.start l.finish,
    each-append P (value_records number n 1 l.values) (marks_of number (n + 1) ls) (each-value_record n 1 l.values) (each-mark_of (n + 1) ls),
  )

-- the records of a stream as a walk takes them, and as they are held
pub IsPermutation-walked : (s : Stream) →
    IsPermutation (stream_record s ∷ marks_of s.number 1 s.landmarks ++ map (window_record s.number) s.windows)
    (stream_record s ∷ map (window_record s.number) s.windows ++ (landmark_records s.number 1 s.landmarks ++ all_value_records s.number 1 s.landmarks))
IsPermutation-walked s =
    let marks = marks_of s.number 1 s.landmarks in
    let windows = map (window_record s.number) s.windows in
    let held = landmark_records s.number 1 s.landmarks ++ all_value_records s.number 1 s.landmarks in
    IsPermutation-cons (stream_record s) (marks ++ windows) (windows ++ held) (IsPermutation-trans _ _ _ (IsPermutation-append_comm marks windows)
    (IsPermutation-append_right windows marks held (IsPermutation-marks_of s.number 1 s.landmarks)))

-- ---- they make these landmarks, and meet the conditions, also after the records of values of a landmark before them

values-first : (number a b n : ℕ) (vs : List LandmarkValue) (ls : List Landmark) → values_first (value_records number a b vs ++ marks_of number n ls) ≡ vs
values-first number a b n [] [] = refl
values-first number a b n [] (l ∷ ls) = refl
values-first number a b n (v ∷ vs) ls = ap (λ us. v ∷ us) (values-first number a (b + 1) n vs ls)

made-marks : (number a b n : ℕ) (vs : List LandmarkValue) (ls : List Landmark) → landmarks_made (value_records number a b vs ++ marks_of number n ls) ≡ ls
made-marks number a b n [] [] = refl
made-marks number a b n [] (l ∷ ls) =
    let values = values-first number n 1 (n + 1) l.values ls in
    let rest = made-marks number n 1 (n + 1) l.values ls in
    λ i. record { start = l.start; finish = l.finish; values = values i } ∷ rest i
made-marks number a b n (v ∷ vs) ls = made-marks number a (b + 1) n vs ls

numbered-marks : (number a b : ℕ) (vs : List LandmarkValue) (ls : List Landmark) →
    are_numbered a b (value_records number a (b + 1) vs ++ marks_of number (a + 1) ls) ≡ true
numbered-marks number a b [] [] = refl
numbered-marks number a b [] (l ∷ ls) = and_from _ _ (eq-eqb (a + 1) (a + 1) refl) (numbered-marks number (a + 1) 0 l.values ls)
numbered-marks number a b (v ∷ vs) ls =
    and_from _ _ (and_from _ _ (eq-eqb a a refl) (eq-eqb (b + 1) (b + 1) refl)) (numbered-marks number a (b + 1) vs ls)

-- a landmark has as many values as its record says
counted-said : (l : Landmark) → (is_none l.finish || length l.values == values_said l) ≡ true
counted-said l =
    elim l.finish as (λ f. (is_none f || length l.values == option_map_or (λ finish. length l.values) f 0) ≡ true) [
      | None ↦ refl
      | Some f ↦ eq-eqb (length l.values) (length l.values) refl
    ]

counted-marks : (number a b n : ℕ) (vs : List LandmarkValue) (ls : List Landmark) → are_counted (value_records number a b vs ++ marks_of number n ls) ≡ true
counted-marks number a b n [] [] = refl
counted-marks number a b n [] (l ∷ ls) =
    and_from _ _ (ap (λ us. is_none l.finish || length us == values_said l) (values-first number n 1 (n + 1) l.values ls) ∙ counted-said l)
    (counted-marks number n 1 (n + 1) l.values ls)
counted-marks number a b n (v ∷ vs) ls = counted-marks number a (b + 1) n vs ls

ends_by : (l : Landmark) → IsLandmark l → AllByRecursion (λ v. is_up_to v.t l.finish ≡ true) l.values
ends_by l is =
    elim l.finish as (λ o. IfSome o (λ t. (l.start ≤ t) × (t ≤ LAST_TIME) × All (λ value. value.t ≤ t) l.values) →
    AllByRecursion (λ v. is_up_to v.t o ≡ true) l.values) [
      | None ↦ λ by. all-each (λ (v : LandmarkValue). is_up_to v.t None ≡ true) (λ v. refl) l.values
      | Some f ↦ λ by. all_weaker _ _ (λ v le. le-leb v.t f le) l.values (recursion_from_All (λ (v : LandmarkValue). v.t ≤ f) l.values by.2)
    ] is.finish

rise-is : (from : ℕ) (finish : Option ℕ) (vs : List LandmarkValue) → RiseFrom from vs → AllByRecursion (λ v. is_up_to v.t finish ≡ true) vs →
    rise_within from finish vs ≡ true
rise-is from finish [] rise ends = refl
rise-is from finish (v ∷ vs) rise ends = and_from _ _ (and_from _ _ (le-leb from v.t rise.0) ends.0) (rise-is (v.t + 1) finish vs rise.3 ends.1)

timed-marks : (from : Option ℕ) (number a b n : ℕ) (vs : List LandmarkValue) (ls : List Landmark) →
    MatchOption from (ls ≡ []) (λ t. FollowFrom t ls) → are_in_time from (value_records number a b vs ++ marks_of number n ls) ≡ true
timed-marks from number a b n [] [] follow = refl
timed-marks None number a b n [] (l ∷ ls) follow = absurd (cc)
timed-marks (Some from) number a b n [] (l ∷ ls) follow =
    let rises : rise_within l.start l.finish (values_first (value_records number n 1 l.values ++ marks_of number (n + 1) ls)) ≡ true =
    ap (rise_within l.start l.finish) (values-first number n 1 (n + 1) l.values ls)
    ∙ rise-is l.start l.finish l.values follow.1.values (ends_by l follow.1) in
    and_from _ _ (and_from _ _ (le-leb from l.start follow.0) rises) (timed-marks (free_from l.finish) number n 1 (n + 1) l.values ls (go l.finish follow.2))
  where
    go : (o : Option ℕ) → MatchOption o (ls ≡ []) (λ t. FollowFrom (t + 1) ls) → MatchOption (free_from o) (ls ≡ []) (λ t. FollowFrom t ls)
    go None is = is
    go (Some f) is = is
timed-marks from number a b n (v ∷ vs) ls follow = timed-marks from number a (b + 1) n vs ls follow

pub landmarks_made-marks_of : (number : ℕ) (ls : List Landmark) → landmarks_made (marks_of number 1 ls) ≡ ls
landmarks_made-marks_of number ls = made-marks number 0 0 1 [] ls

pub are_marks-marks_of : (number : ℕ) (ls : List Landmark) → AreLandmarks ls → are_marks (marks_of number 1 ls) ≡ true
are_marks-marks_of number ls are =
    and_from _ _ (and_from _ _ (numbered-marks number 0 0 [] ls) (counted-marks number 0 0 1 [] ls))
    (timed-marks (Some 0) number 0 0 1 [] ls are)

-- in the order of places
all-values-from : (number n index low : ℕ) (values : List LandmarkValue) → low ≤ n * 2 ^ 32 + index →
    AllByRecursion (λ r. low ≤ place_of r) (value_records number n index values)
all-values-from number n index low [] le = tt
all-values-from number n index low (value ∷ values) le = (omega (arith, le), all-values-from number n (index + 1) low values (omega (arith, le)))

all-marks-from : (number n low : ℕ) (ls : List Landmark) → low ≤ n * 2 ^ 32 → AllByRecursion (λ r. low ≤ place_of r) (marks_of number n ls)
all-marks-from number n low [] le = tt
all-marks-from number n low (l ∷ ls) le = (
  omega (arith, le),
  each-append _ (value_records number n 1 l.values) (marks_of number (n + 1) ls)
      (all-values-from number n 1 low l.values (omega (arith, le))) (all-marks-from number (n + 1) low ls (omega (arith, le))),
)

Rise-values : (number n index : ℕ) (values : List LandmarkValue) (rest : List Record) → index + length values ≤ 2 ^ 32 →
    AllByRecursion (λ r. (n + 1) * 2 ^ 32 ≤ place_of r) rest → Rise place_of rest → Rise place_of (value_records number n index values ++ rest)
Rise-values number n index [] rest few above rise = rise
Rise-values number n index (value ∷ values) rest few above rise = (
  each-append _ (value_records number n (index + 1) values) rest
      (all_weaker _ _ (λ r le. omega (arith, le))
      (value_records number n (index + 1) values) (all-values-from number n (index + 1) (n * 2 ^ 32 + (index + 1)) values (omega arith)))
      (all_weaker _ _ (λ r le. omega (arith, le, few)) rest above),
  Rise-values number n (index + 1) values rest (omega (arith, few)) above rise,
)

pub Rise-marks_of : (number n : ℕ) (ls : List Landmark) → length (marks_of number n ls) < 2 ^ 32 → Rise place_of (marks_of number n ls)
Rise-marks_of number n [] few = tt
Rise-marks_of number n (l ∷ ls) few =
    let values = value_records number n 1 l.values in
    let rest = marks_of number (n + 1) ls in
    let long = length-append values rest in
    let own = length-value_records number n 1 l.values in
    let above = all-marks-from number (n + 1) ((n + 1) * 2 ^ 32) ls (omega arith) in (
      each-append _ values rest
          (all_weaker _ _ (λ r le. omega (arith, le)) values (all-values-from number n 1 (n * 2 ^ 32 + 1) l.values (omega arith)))
          (all_weaker _ _ (λ r le. omega (arith, le)) rest above),
      Rise-values number n 1 l.values rest (omega (arith, few, long, own)) above (Rise-marks_of number (n + 1) ls (omega (arith, few, long))),
    )

pub in_order-marks_of : (number n : ℕ) (ls : List Landmark) (rs : List Record) → IsPermutation (marks_of number n ls) rs →
    length (marks_of number n ls) < 2 ^ 32 → in_order place_of rs ≡ marks_of number n ls
in_order-marks_of number n ls rs moved few = in_order-IsPermutation place_of rs (marks_of number n ls) moved (Rise-marks_of number n ls few)

-- each is one of the stream of its number
pub own-marks : (number n : ℕ) (ls : List Landmark) → filter (is_mark_of number) (marks_of number n ls) ≡ marks_of number n ls
own-marks number n ls =
    let same = eq-eqb number number refl in
    filter-all (is_mark_of number) (marks_of number n ls)
    (each-mark_of (λ r. is_mark_of number r ≡ true) number (λ n values start finish. same) (λ n index t v. same) n ls)
