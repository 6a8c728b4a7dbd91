-- What holds of the figures of two lists, one after the other.
use Rattle.std.specs.Prelude.{◌≡◌, ℕ, ◌+◌, ◌-◌, ◌^◌, ◌<◌, ◌≤◌, true, ℤ, ◌+ℤ◌, int_lt, List, [], ◌∷◌, ◌++◌, length, unsigned_abs}
use Rattle.std.specs.Int.{w64, w128, int_min, int_max}
use Rattle.std.proofs.Common.{ap, ap₂, arith, refl, inl, inr, ◌∙◌}
use Rattle.std.proofs.lemmas.Bool.{cases_Bool}
use Rattle.std.proofs.lemmas.List.{length-append}
use Rattle.std.proofs.lemmas.Int.{ints, clamps, to_z-of_z}
use mir.Val.{to_z, of_z}
use Rattle.ss_summary.specs.Figures.{Figures, IsPossible}
use Rattle.ss_summary.specs.Filters.{filter_of_point, has, union}
use Rattle.ss_summary.specs.Points.{Point}
use Rattle.ss_summary.specs.declared.filter.Filter.{Filter}
use Rattle.ss_summary.proofs.FilterLemmas.{filter_with-append, has-left, has-right, union_assoc, IsFilter-union}
use Rattle.ss_summary.specs.Summaries.{total, least, greatest, time_at_end, summary_of, joined}
use Rattle.ss_base.specs.declared.limits.TheConstants.{MOST_VALUES}
use Rattle.ss_summary.proofs.Bounds.{max_times_min-le-sum, sum-le-min_times_max, unsigned_abs-lt}

int_min_assoc : (a b c : ℤ) → int_min (int_min a b) c ≡ int_min a (int_min b c)
int_min_assoc a b c = omega (arith, ints, clamps)

int_max_assoc : (a b c : ℤ) → int_max (int_max a b) c ≡ int_max a (int_max b c)
int_max_assoc a b c = omega (arith, ints, clamps)

total-append : (xs ys : List Point) → total (xs ++ ys) ≡ total xs +ℤ total ys
total-append [] ys = omega (arith, ints)
total-append (x ∷ xs) ys = let rest = total-append xs ys in omega (arith, ints)

least-append : (v : ℤ) (xs : List Point) (y : Point) (ys : List Point)
    → least v (xs ++ y ∷ ys) ≡ int_min (least v xs) (least y.1 ys)
least-append v [] y ys = refl
least-append v (x ∷ xs) y ys = rw (least-append x.1 xs y ys, int_min_assoc)

greatest-append : (v : ℤ) (xs : List Point) (y : Point) (ys : List Point)
    → greatest v (xs ++ y ∷ ys) ≡ int_max (greatest v xs) (greatest y.1 ys)
greatest-append v [] y ys = refl
greatest-append v (x ∷ xs) y ys = rw (greatest-append x.1 xs y ys, int_max_assoc)

pub time_at_end-append : (t : ℕ) (xs : List Point) (y : Point) (ys : List Point)
    → time_at_end t (xs ++ y ∷ ys) ≡ time_at_end y.0 ys
time_at_end-append t [] y ys = refl
time_at_end-append t (x ∷ xs) y ys = time_at_end-append x.0 xs y ys

-- the figures of two lists, joined, are those of the joined list
pub joined-summary_of : (xs ys : List Point) → 0 < length xs → 0 < length ys
    → joined (summary_of xs) (summary_of ys) ≡ summary_of (xs ++ ys)
joined-summary_of [] ys some_left some_right = absurd (omega arith)
joined-summary_of (x ∷ xs) [] some_left some_right = absurd (omega arith)
joined-summary_of (x ∷ xs) (y ∷ ys) some_left some_right =
    let filter = filter_with-append (filter_of_point x) xs y ys in
    let count = length-append (x ∷ xs) (y ∷ ys) in
    let sum = total-append (x ∷ xs) (y ∷ ys) in
    let min = least-append x.1 xs y ys in
    let max = greatest-append x.1 xs y ys in
    let last = time_at_end-append x.0 xs y ys in
    cc

-- in which order figures are joined has no effect
pub joined_assoc : (a b c : Figures) → joined (joined a b) c ≡ joined a (joined b c)
joined_assoc a b c =
    let count : (a.count + b.count) + c.count ≡ a.count + (b.count + c.count) = omega arith in
    let sum : (a.sum +ℤ b.sum) +ℤ c.sum ≡ a.sum +ℤ (b.sum +ℤ c.sum) = omega (arith, ints) in
    let min = int_min_assoc a.min b.min c.min in
    let max = int_max_assoc a.max b.max c.max in
    let filter = union_assoc a.filter b.filter c.filter in
    cc

-- the bits of the least and of the greatest value of two lists
least_bit : (a b : Filter) (m n : ℤ) → has a m ≡ true → has b n ≡ true → has (union a b) (int_min m n) ≡ true
least_bit a b m n left right = elim (cases_Bool (int_lt n m)) [
  | inl low ↦ (let is : int_min m n ≡ n = rw low refl in rw is (has-right a b n right))
  | inr high ↦ (let is : int_min m n ≡ m = rw high refl in rw is (has-left a b m left))
]

greatest_bit : (a b : Filter) (m n : ℤ) → has a m ≡ true → has b n ≡ true → has (union a b) (int_max m n) ≡ true
greatest_bit a b m n left right = elim (cases_Bool (int_lt n m)) [
  | inl low ↦ (let is : int_max m n ≡ m = rw low refl in rw is (has-left a b m left))
  | inr high ↦ (let is : int_max m n ≡ n = rw high refl in rw is (has-right a b n right))
]

-- possible figures, joined, are possible
pub IsPossible-joined : (a b : Figures) → IsPossible a → IsPossible b → a.t_last < b.t_first
    → a.count + b.count ≤ MOST_VALUES → IsPossible (joined a b)
IsPossible-joined a b left right behind few =
    let counts : a.count + b.count - 1 ≡ (a.count - 1) + (b.count - 1) + 1 = omega arith in
    record {
      count_low = omega arith;
      count_high = few;
      times = omega arith;
      last = right.last;
      one = λ single. absurd (omega arith);
      min_fits = omega (arith, ints, clamps);
      max_fits = omega (arith, ints, clamps);
      order = omega (arith, ints, clamps);
      sum_low = rw counts (max_times_min-le-sum _ _ left.order right.order left.sum_low right.sum_low);
      sum_high = rw counts (sum-le-min_times_max _ _ left.order right.order left.sum_high right.sum_high);
      words = IsFilter-union a.filter b.filter left.words right.words;
      min_bit = least_bit a.filter b.filter a.min b.min left.min_bit right.min_bit;
      max_bit = greatest_bit a.filter b.filter a.max b.max left.max_bit right.max_bit;
    }

-- the sum of possible figures is far within 128 bits
pub IsPossible-sum : (f : Figures) → IsPossible f → unsigned_abs f.sum < 2 ^ 105
IsPossible-sum f possible =
    unsigned_abs-lt (f.count - 1) possible.min_fits possible.max_fits (omega arith) possible.sum_low possible.sum_high

-- what the code computes of two possible figures, through the bits of their numbers, is their join
pub computed-joined : (a b : Figures) (min max : ℤ) (filter : Filter) → IsPossible a → IsPossible b → IsPossible (joined a b)
    → min ≡ int_min (to_z w64 (of_z w64 a.min)) (to_z w64 (of_z w64 b.min))
    → max ≡ int_max (to_z w64 (of_z w64 a.max)) (to_z w64 (of_z w64 b.max))
    → filter ≡ union a.filter b.filter
    → ◌≡◌ {A = Figures} (record {
      count = a.count + b.count;
      sum = to_z w128 (of_z w128 (to_z w128 (of_z w128 a.sum) +ℤ to_z w128 (of_z w128 b.sum)));
      min = to_z w64 (of_z w64 min);
      max = to_z w64 (of_z w64 max);
      t_first = a.t_first;
      t_last = b.t_last;
      filter = filter;
    }) (joined a b)
computed-joined a b min max filter left right both min_is max_is filter_is =
    let small_left = IsPossible-sum a left in
    let small_right = IsPossible-sum b right in
    let sum : to_z w128 (of_z w128 (to_z w128 (of_z w128 a.sum) +ℤ to_z w128 (of_z w128 b.sum))) ≡ (a.sum +ℤ b.sum) =
    rw (to_z-of_z w128 a.sum (omega (arith, ints)), to_z-of_z w128 b.sum (omega (arith, ints)))
    (to_z-of_z w128 (a.sum +ℤ b.sum) (omega (arith, ints))) in
    let least = min_is ∙ ap₂ int_min (to_z-of_z w64 a.min left.min_fits) (to_z-of_z w64 b.min right.min_fits) in
    let greatest = max_is ∙ ap₂ int_max (to_z-of_z w64 a.max left.max_fits) (to_z-of_z w64 b.max right.max_fits) in
    let min = ap (λ z. to_z w64 (of_z w64 z)) least ∙ to_z-of_z w64 (int_min a.min b.min) both.min_fits in
    let max = ap (λ z. to_z w64 (of_z w64 z)) greatest ∙ to_z-of_z w64 (int_max a.max b.max) both.max_fits in
    λ i. record {
      count = a.count + b.count;
      sum = sum i;
      min = min i;
      max = max i;
      t_first = a.t_first;
      t_last = b.t_last;
      filter = filter_is i;
    }
