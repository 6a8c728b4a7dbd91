-- The free times inside a range and outside it, by two counts of free times; and which windows a range splits.
use Rattle.std.specs.Prelude.{◌≡◌, ℕ, zero, suc, ◌+◌, ◌-◌, ◌<◌, ◌≤◌, min, max, Bool, true, false, ◌&&◌, not, ℤ, pos, ◌+ℤ◌, ◌*ℤ◌, ◌≤ℤ◌, FitsSigned}
use Rattle.std.specs.Prelude.{List, [], ◌∷◌}
use Rattle.std.specs.Int.{w64}
use Rattle.std.specs.List.{count_by, range_with_len}
use Rattle.std.proofs.Common.{ap, arith, inl, inr, refl, sym, ◌∙◌}
use Rattle.std.proofs.lemmas.Bool.{cases_lt}
use Rattle.std.proofs.lemmas.Bool.Decides.{nat_tests}
use Rattle.std.proofs.lemmas.List.FromFn.{length-range_with_len}
use Rattle.std.proofs.lemmas.List.Sums.{count_by-le-length}
use Rattle.ss_bounds.specs.Split.{IsSplit}
use Rattle.ss_bounds.specs.Times.{lies_in, times, times_inside, times_outside, split_of}
use Rattle.ss_base.specs.declared.limits.TheConstants.{LAST_TIME, MOST_VALUES}
use Rattle.ss_bounds.proofs.TimeLemmas.{one_if, count_by-cons}

-- a range of no times, and one of more
range-none : (test : ℕ → Bool) (a n : ℕ) → n ≡ 0 → count_by test (range_with_len a n) ≡ 0
range-none test a n none = rw none refl

range-more : (test : ℕ → Bool) (a n m : ℕ) → n ≡ suc m → count_by test (range_with_len a n) ≡ one_if (test a) + count_by test (range_with_len (a + 1) m)
range-more test a n m more = rw more (count_by-cons test a (range_with_len (a + 1) m))

-- where a time lies: before the range, in it, or after it
data Place (from to t : ℕ) : Type 0 where
  before : t < from → Place from to t
  within : from ≤ t → t ≤ to → Place from to t
  after : to < t → from ≤ t → Place from to t

place_of : (from to t : ℕ) → Place from to t
place_of from to t = elim (cases_lt t from) [
  | inl early ↦ before early
  | inr late ↦ elim (cases_lt to t) [
    | inl past ↦ after past late
    | inr here ↦ within late here
  ]
]

parted-one : (a b : Bool) → one_if (a && b) + one_if (a && not b) ≡ one_if a
parted-one true true = refl
parted-one true false = refl
parted-one false true = refl
parted-one false false = refl

module _ (free : ℕ → Bool) (from to : ℕ) where
  -- the times from p on that are free and lie in the range are the free ones from the later beginning to the earlier end
  inside-range : (n p : ℕ) → count_by (λ t. free t && lies_in from to t) (range_with_len p n)
      ≡ count_by free (range_with_len (max p from) (min (p + n) (to + 1) - max p from))
  inside-range zero p = sym (range-none free (max p from) (min (p + 0) (to + 1) - max p from) (omega arith))
  inside-range (suc n) p =
      let rest = inside-range n (p + 1) in
      let first = range-more (λ t. free t && lies_in from to t) p (suc n) n refl in
      elim (place_of from to p) [
        | before early ↦
            (let not_in : (free p && lies_in from to p) ≡ false = grind (arith, nat_tests) in
            let from_same : max (p + 1) from ≡ max p from = omega arith in
            let length_same : min (p + 1 + n) (to + 1) - max (p + 1) from ≡ min (p + suc n) (to + 1) - max p from = omega arith in
            let rest = rw (length_same, from_same) at rest in
            let first = rw not_in at first in
            omega (arith, first, rest))
        | within late here ↦
            (let is_in : (free p && lies_in from to p) ≡ free p = grind (arith, nat_tests) in
            let from_here : max p from ≡ p = omega arith in
            let from_next : max (p + 1) from ≡ p + 1 = omega arith in
            let more = range-more free p (min (p + suc n) (to + 1) - p) (min (p + 1 + n) (to + 1) - (p + 1)) (omega arith) in
            let rest = rw from_next at rest in
            let first = rw is_in at first in
            rw from_here (omega (arith, first, rest, more)))
        | after past late ↦
            (let not_in : (free p && lies_in from to p) ≡ false = grind (arith, nat_tests) in
            let none = range-none free (max p from) (min (p + suc n) (to + 1) - max p from) (omega arith) in
            let none_next = range-none free (max (p + 1) from) (min (p + 1 + n) (to + 1) - max (p + 1) from) (omega arith) in
            let first = rw not_in at first in
            omega (arith, first, rest, none, none_next))
      ]

  -- those inside and those outside are all free ones
  both-sides : (ts : List ℕ) → count_by (λ t. free t && lies_in from to t) ts + count_by (λ t. free t && not (lies_in from to t)) ts ≡ count_by free ts
  both-sides [] = refl
  both-sides (t ∷ ts) =
      let rest = both-sides ts in
      let inside = count_by-cons (λ z. free z && lies_in from to z) t ts in
      let outside = count_by-cons (λ z. free z && not (lies_in from to z)) t ts in
      let all = count_by-cons free t ts in
      omega (arith, inside, outside, all, rest, parted-one (free t) (lies_in from to t))

  module _ (first last : ℕ) where
    pub times_inside-times : times_inside free from to first last ≡ times free (max (first + 1) from) (min (last - 1) to)
    times_inside-times =
        let is = inside-range (last - 1 + 1 - (first + 1)) (first + 1) in
        let same : min (first + 1 + (last - 1 + 1 - (first + 1))) (to + 1) - max (first + 1) from
        ≡ min (last - 1) to + 1 - max (first + 1) from = omega arith in
        is ∙ ap (λ n. count_by free (range_with_len (max (first + 1) from) n)) same

    pub times_inside-times_outside : times_inside free from to first last + times_outside free from to first last ≡ times free (first + 1) (last - 1)
    times_inside-times_outside = both-sides (range_with_len (first + 1) (last - 1 + 1 - (first + 1)))

-- at most one of two times lies in a range that doesn't hold both
ends-one : (from to first last : ℕ) (a b : Bool) → lies_in from to first ≡ a → lies_in from to last ≡ b → first ≤ last
    → ¬ ((from ≤ first) × (last ≤ to)) → one_if a + one_if b ≤ 1
ends-one from to first last true true first_is last_is rising split =
    let begins : from ≤ first = grind (arith, nat_tests) in
    let ends : last ≤ to = grind (arith, nat_tests) in
    absurd (split (begins, ends))
ends-one from to first last true false first_is last_is rising split = omega arith
ends-one from to first last false true first_is last_is rising split = omega arith
ends-one from to first last false false first_is last_is rising split = omega arith

-- a window of two values or more is one that the range splits, where not both its ends lie in the range and there is a free
-- time for each value between them
pub IsSplit-split_of : (free : ℕ → Bool) (from to count : ℕ) (sum min max : ℤ) (first last : ℕ)
    → 2 ≤ count → count ≤ MOST_VALUES → FitsSigned w64 min → FitsSigned w64 max → min ≤ℤ max
    → (max +ℤ pos (count - 1) *ℤ min) ≤ℤ sum → sum ≤ℤ (min +ℤ pos (count - 1) *ℤ max)
    → first ≤ last → last ≤ LAST_TIME → ¬ ((from ≤ first) × (last ≤ to)) → count - 2 ≤ times free (first + 1) (last - 1)
    → IsSplit (split_of free from to count sum min max first last)
IsSplit-split_of free from to count sum min max first last more few min_fits max_fits order low high rising early split room =
    let parts = times_inside-times_outside free from to first last in
    let all = count_by-le-length free (range_with_len (first + 1) (last - 1 + 1 - (first + 1))) in
    let size = length-range_with_len (first + 1) (last - 1 + 1 - (first + 1)) in
    record {
      count_low = more;
      count_high = few;
      min_fits = min_fits;
      max_fits = max_fits;
      order = order;
      sum_low = low;
      sum_high = high;
      one_end = ends-one from to first last (lies_in from to first) (lies_in from to last) refl refl rising split;
      inside_high = omega (arith, parts, all, size);
      outside_high = omega (arith, parts, all, size);
      room = omega (arith, parts, room);
    }
