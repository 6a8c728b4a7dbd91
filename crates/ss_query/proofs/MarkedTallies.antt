-- The tally of the values of landmarks in a range is that of the values that are asked for, one by one, and it is of few values.
use Rattle.std.proofs.Common.{◌≡◌, ◌∙◌, ℕ, ◌*◌, ◌^◌, ◌≤◌, List, [], ◌∷◌, map, length, refl, sym, ap, arith, inl, inr, Some}
use Rattle.std.specs.Prelude.{FitsSigned, ℤ, ◌+ℤ◌, unsigned_abs}
use Rattle.std.specs.Int.{w64}
use Rattle.std.specs.List.{All, filter}
use Rattle.std.proofs.lemmas.Bool.{cases_Bool}
use Rattle.std.proofs.lemmas.Int.{ints}
use Rattle.std.proofs.lemmas.List.{length-map}
use Rattle.std.proofs.lemmas.List.Elements.{All-filter, All-head, All-tail}
use Rattle.std.proofs.lemmas.List.Sums.{count_by-le-length, length-filter}
use Rattle.ss_bounds.specs.Either.{greatest_in, least_in}
use Rattle.ss_bounds.specs.Truth.{asked, total}
use Rattle.ss_landmarks.specs.Landmark.{Landmark, LandmarkValue, all_values}
use Rattle.ss_landmarks.specs.Landmarks.{AreKnown, LandmarksState}
use Rattle.ss_landmarks.specs.ValuesIn.{greatest, greatest_with, least, least_with, lies_in, tally_of, values_between}
use Rattle.ss_landmarks.specs.ValuesIn as marks
use Rattle.ss_landmarks.proofs.OrderLemmas.{RiseFrom-all_values}
use Rattle.ss_landmarks.proofs.ValueLemmas.{RiseFrom-fit}
use Rattle.ss_model.specs.Marks.{marked_values}
use Rattle.ss_summary.specs.Points.{New}
use Rattle.ss_query.specs.Asked.{IsFewMarked}

-- the values alone
abbrev pub alone : List LandmarkValue → List ℤ
alone values = map (λ (value : LandmarkValue). value.v) values

-- those that are asked for are those of the range
asked-pairs : (from to : ℕ) (values : List LandmarkValue) →
    asked from to (map (λ (value : LandmarkValue). (value.t, value.v, New)) values) ≡ alone (filter (lies_in from to) values)
asked-pairs from to [] = refl
asked-pairs from to (value ∷ values) = elim (cases_Bool (lies_in from to value)) [
  | inl is ↦ rw is (ap (λ zs. value.v ∷ zs) (asked-pairs from to values))
  | inr out ↦ rw out (asked-pairs from to values)
]

total-alone : (values : List LandmarkValue) → marks.total values ≡ total (alone values)
total-alone [] = refl
total-alone (value ∷ values) = ap (λ z. value.v +ℤ z) (total-alone values)

least-alone : (values : List LandmarkValue) → least values ≡ least_in (alone values)
least-alone [] = refl
least-alone (value ∷ []) = refl
least-alone (value ∷ next ∷ values) = ap (λ o. Some (least_with value.v o)) (least-alone (next ∷ values))

greatest-alone : (values : List LandmarkValue) → greatest values ≡ greatest_in (alone values)
greatest-alone [] = refl
greatest-alone (value ∷ []) = refl
greatest-alone (value ∷ next ∷ values) = ap (λ o. Some (greatest_with value.v o)) (greatest-alone (next ∷ values))

module _ (landmarks : List Landmark) (from to : ℕ) where
  pub asked-marked : asked from to (marked_values landmarks) ≡ alone (values_between landmarks from to)
  asked-marked = asked-pairs from to (all_values landmarks)

  pub length-asked : length (values_between landmarks from to) ≡ length (asked from to (marked_values landmarks))
  length-asked =
      sym (ap (λ zs. length zs) asked-marked ∙ length-map (values_between landmarks from to) (λ (value : LandmarkValue). value.v))

  pub total-asked : marks.total (values_between landmarks from to) ≡ total (asked from to (marked_values landmarks))
  total-asked = total-alone (values_between landmarks from to) ∙ ap (λ zs. total zs) (sym asked-marked)

  pub least-asked : least (values_between landmarks from to) ≡ least_in (asked from to (marked_values landmarks))
  least-asked = least-alone (values_between landmarks from to) ∙ ap (λ zs. least_in zs) (sym asked-marked)

  pub greatest-asked : greatest (values_between landmarks from to) ≡ greatest_in (asked from to (marked_values landmarks))
  greatest-asked = greatest-alone (values_between landmarks from to) ∙ ap (λ zs. greatest_in zs) (sym asked-marked)

-- a sum of values of 64 bits
total-near : (values : List LandmarkValue) → All (λ value. FitsSigned w64 value.v) values → unsigned_abs (marks.total values) ≤ 2 ^ 63 * length values
total-near [] fit = omega (arith, ints)
total-near (value ∷ values) fit =
    let rest = total-near values (All-tail (λ (x : LandmarkValue). FitsSigned w64 x.v) value values fit) in
    let here = All-head (λ (x : LandmarkValue). FitsSigned w64 x.v) value values fit in
    omega (arith, ints)

-- the values of landmarks that are kept are few, and so are those of a range
pub IsFewMarked-in : (state : LandmarksState) (from to : ℕ) → AreKnown state → IsFewMarked (tally_of (values_between state.landmarks from to))
IsFewMarked-in state from to is =
    let fit = RiseFrom-fit 0 (all_values state.landmarks) (RiseFrom-all_values 0 state.landmarks is.order) in
    let in_range = All-filter (lies_in from to) (λ value. FitsSigned w64 value.v) (all_values state.landmarks) fit in
    let near = total-near (values_between state.landmarks from to) in_range in
    let few = length-filter (lies_in from to) (all_values state.landmarks) in
    let most = count_by-le-length (lies_in from to) (all_values state.landmarks) in
    record {
      count = omega (arith, few, most, is.value_slots, is.most_values);
      sum = omega (arith, near, few, most, is.value_slots, is.most_values);
    }
