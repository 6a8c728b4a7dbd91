-- The test of possible figures tells which figures are possible.
use Rattle.std.specs.Prelude.{◌≡◌, ◌↔◌, ℕ, ◌+◌, ◌-◌, ◌^◌, ◌<◌, ◌≤◌, Bool, true, false, ◌&&◌, ◌==◌, nat_lt, length, FitsSigned, IsTrue}
use Rattle.std.specs.Prelude.{ℤ, pos, negsuc, ◌+ℤ◌, ◌*ℤ◌, ◌≤ℤ◌, int_le}
use Rattle.std.specs.Int.{w64}
use Rattle.std.specs.List.{list_all}
use Rattle.std.proofs.Common.{arith, eq-eqb, eqb-true, refl}
use Rattle.std.proofs.lemmas.List.Sums.{AllPass-from_list_all, list_all-from_AllPass}
use Rattle.std.proofs.lemmas.Bool.Decides.{nat_tests}
use Rattle.std.proofs.lemmas.Int.{ints}
use Rattle.ss_summary.specs.Figures.{Figures, IsPossible}
use Rattle.ss_summary.specs.Filters.{has, is_filter, IsFilter}
use Rattle.ss_summary.specs.Possible.{fits_i64, has_bits, has_times, has_sum, is_possible}
use Rattle.ss_summary.specs.declared.filter.Filter.{Filter}
use Rattle.ss_base.specs.declared.limits.TheConstants.{LAST_TIME, MOST_VALUES}

-- what the test of times says
record Times (count t_first t_last : ℕ) : Type 0 where
  low : 1 ≤ count
  high : count ≤ MOST_VALUES
  times : t_first + count ≤ t_last + 1
  last : t_last ≤ LAST_TIME
  one : count ≡ 1 → t_first ≡ t_last

times-true : (count t_first t_last : ℕ) → has_times count t_first t_last ≡ true → Times count t_first t_last
times-true count t_first t_last test = record {
  low = grind (arith, nat_tests);
  high = grind (arith, nat_tests);
  times = grind (arith, nat_tests);
  last = grind (arith, nat_tests);
  one = λ one. grind (arith, nat_tests);
}

true-times : (count t_first t_last : ℕ) → Times count t_first t_last → has_times count t_first t_last ≡ true
true-times count t_first t_last times = grind (arith, nat_tests)

-- what the test of a sum says
record Sum (count : ℕ) (sum min max : ℤ) : Type 0 where
  order : min ≤ℤ max
  low : (max +ℤ pos (count - 1) *ℤ min) ≤ℤ sum
  high : sum ≤ℤ (min +ℤ pos (count - 1) *ℤ max)

three : (a b c d e f : ℤ) → (int_le a b && int_le c d && int_le e f) ≡ true → (a ≤ℤ b) × (c ≤ℤ d) × (e ≤ℤ f)
three a b c d e f test = (grind (arith, ints), grind (arith, ints), grind (arith, ints))

three-true : (a b c d e f : ℤ) → a ≤ℤ b → c ≤ℤ d → e ≤ℤ f → (int_le a b && int_le c d && int_le e f) ≡ true
three-true a b c d e f first second third = grind (arith, ints)

sum-true : (count : ℕ) (sum min max : ℤ) → has_sum count sum min max ≡ true → Sum count sum min max
sum-true count sum min max test =
    let all = three min max (max +ℤ pos (count - 1) *ℤ min) sum sum (min +ℤ pos (count - 1) *ℤ max) test in
    record { order = all.0; low = all.1; high = all.2 }

true-sum : (count : ℕ) (sum min max : ℤ) → Sum count sum min max → has_sum count sum min max ≡ true
true-sum count sum min max s = three-true min max (max +ℤ pos (count - 1) *ℤ min) sum sum (min +ℤ pos (count - 1) *ℤ max) s.order s.low s.high

pub fits-true : (z : ℤ) → fits_i64 z ≡ true → FitsSigned w64 z
fits-true (pos n) test = let small : n < 2 ^ 63 = grind (arith, nat_tests) in record { sfits = small }
fits-true (negsuc n) test = let small : n < 2 ^ 63 = grind (arith, nat_tests) in record { sfits = small }

pub true-fits : (z : ℤ) → FitsSigned w64 z → fits_i64 z ≡ true
true-fits (pos n) fits = let small : n < 2 ^ 63 = fits.sfits in grind (arith, nat_tests)
true-fits (negsuc n) fits = let small : n < 2 ^ 63 = fits.sfits in grind (arith, nat_tests)

and-left : (a b : Bool) → (a && b) ≡ true → a ≡ true
and-left true b both = refl
and-left false b both = cc

and-right : (a b : Bool) → (a && b) ≡ true → b ≡ true
and-right true b both = both
and-right false b both = cc

-- the test of a filter's words
below : {n : ℕ} → nat_lt n (2 ^ 64) ≡ true → n < 2 ^ 64
below test = grind (arith, nat_tests)

above : {n : ℕ} → n < 2 ^ 64 → nat_lt n (2 ^ 64) ≡ true
above fits = grind (arith, nat_tests)

IsFilter-true : (filter : Filter) → is_filter filter ≡ true → IsFilter filter
IsFilter-true filter test =
    let words = and-left (length filter.words == 4) (list_all (λ word. nat_lt word (2 ^ 64)) filter.words) test in
    let each = and-right (length filter.words == 4) (list_all (λ word. nat_lt word (2 ^ 64)) filter.words) test in
    record {
      words = eqb-true (length filter.words) 4 words;
      fit = λ k d here. below (AllPass-from_list_all (λ word. nat_lt word (2 ^ 64)) filter.words each k d here);
    }

true-IsFilter : (filter : Filter) → IsFilter filter → is_filter filter ≡ true
true-IsFilter filter sound =
    let each : list_all (λ word. nat_lt word (2 ^ 64)) filter.words ≡ true =
    list_all-from_AllPass (λ word. nat_lt word (2 ^ 64)) filter.words (λ k d here. above (sound.fit k d here)) in
    rw (eq-eqb (length filter.words) 4 sound.words) each

-- figures are possible where their times, their numbers and their sum are
pub IsPossible-tests : (f : Figures) → has_times f.count f.t_first f.t_last ≡ true → FitsSigned w64 f.min → FitsSigned w64 f.max
    → has_sum f.count f.sum f.min f.max ≡ true → IsFilter f.filter → has_bits f.filter f.min f.max ≡ true → IsPossible f
IsPossible-tests f times min max sum words bits =
    let t = times-true f.count f.t_first f.t_last times in
    let s = sum-true f.count f.sum f.min f.max sum in
    record {
      count_low = t.low;
      count_high = t.high;
      times = t.times;
      last = t.last;
      one = t.one;
      min_fits = min;
      max_fits = max;
      order = s.order;
      sum_low = s.low;
      sum_high = s.high;
      words = words;
      min_bit = and-left (has f.filter f.min) (has f.filter f.max) bits;
      max_bit = and-right (has f.filter f.min) (has f.filter f.max) bits;
    }

pub is_possible-tells : (f : Figures) → IsTrue (is_possible f) ↔ IsPossible f
unfolding is_possible
is_possible-tells f = (
  λ test.
      let times : has_times f.count f.t_first f.t_last ≡ true = grind arith in
      let min : fits_i64 f.min ≡ true = grind arith in
      let max : fits_i64 f.max ≡ true = grind arith in
      let sum : has_sum f.count f.sum f.min f.max ≡ true = grind arith in
      let words : is_filter f.filter ≡ true = grind arith in
      let bits : has_bits f.filter f.min f.max ≡ true = grind arith in
      IsPossible-tests f times (fits-true f.min min) (fits-true f.max max) sum (IsFilter-true f.filter words) bits,
  λ possible.
      let times = true-times f.count f.t_first f.t_last
      (record { low = possible.count_low; high = possible.count_high; times = possible.times; last = possible.last; one = possible.one }) in
      let min = true-fits f.min possible.min_fits in
      let max = true-fits f.max possible.max_fits in
      let sum = true-sum f.count f.sum f.min f.max (record { order = possible.order; low = possible.sum_low; high = possible.sum_high }) in
      let words = true-IsFilter f.filter possible.words in
      rw (times, min, max, sum, words, possible.min_bit, possible.max_bit) refl,
)
