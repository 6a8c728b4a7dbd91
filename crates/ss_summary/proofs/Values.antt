-- Figures are possible exactly where some values at rising times have them.
use Rattle.std.specs.Prelude.{◌≡◌, ℕ, zero, suc, ◌+◌, ◌-◌, ◌≤◌, true, ℤ, pos, ◌+ℤ◌, ◌-ℤ◌, ◌*ℤ◌, ◌≤ℤ◌, FitsSigned, List, [], ◌∷◌, length}
use Rattle.std.specs.Int.{w64, int_min}
use Rattle.std.proofs.Common.{ap, arith, refl, sym, lit≤, subst, inl, inr}
use Rattle.std.proofs.lemmas.Bool.{cases_lt}
use Rattle.std.proofs.lemmas.Int.{ints, clamps}
use Rattle.ss_summary.specs.Figures.{AreAlike, Figures, IsPossible}
use Rattle.ss_summary.specs.Filters.{full, has, IsFilter}
use Rattle.ss_summary.specs.Points.{Point, Origin, New}
use Rattle.ss_summary.proofs.FilterLemmas.{has-point, IsFilter-point}
use Rattle.ss_summary.specs.Summaries.{total, least, greatest, time_at_end, summary_of, RiseFrom, AreValues}
use Rattle.ss_base.specs.declared.limits.TheConstants.{LAST_TIME, MOST_VALUES}
use Rattle.ss_summary.proofs.Bounds.{times-le-times}
use Rattle.ss_summary.proofs.SummaryLemmas.{joined-summary_of, IsPossible-joined}

pub IsPossible-one : (t : ℕ) (v : ℤ) (origin : Origin) → t ≤ LAST_TIME → FitsSigned w64 v → IsPossible (summary_of ((t, v, origin) ∷ []))
IsPossible-one t v origin early fits = record {
  count_low = lit≤ tt;
  count_high = lit≤ tt;
  times = omega arith;
  last = early;
  one = λ _. refl;
  min_fits = fits;
  max_fits = fits;
  order = omega (arith, ints);
  sum_low = omega (arith, ints);
  sum_high = omega (arith, ints);
  words = IsFilter-point (t, v, origin);
  min_bit = has-point (t, v, origin);
  max_bit = has-point (t, v, origin);
}

-- the figures of some values are possible
IsPossible-rising : (from : ℕ) (p : Point) (ps : List Point) → RiseFrom from (p ∷ ps) → length (p ∷ ps) ≤ MOST_VALUES → IsPossible (summary_of (p ∷ ps))
IsPossible-rising from p [] rising few = IsPossible-one p.0 p.1 p.2 rising.1 rising.2
IsPossible-rising from p (q ∷ qs) rising few =
    let rest = IsPossible-rising (p.0 + 1) q qs rising.3 (omega arith) in
    let one = IsPossible-one p.0 p.1 p.2 rising.1 rising.2 in
    let later = rising.3.0 in
    subst IsPossible (joined-summary_of (p ∷ []) (q ∷ qs) (omega arith) (omega arith))
    (IsPossible-joined (summary_of (p ∷ [])) (summary_of (q ∷ qs)) one rest (omega arith) (omega arith))

pub IsPossible-summary_of : (values : List Point) → AreValues values → IsPossible (summary_of values)
IsPossible-summary_of [] are = absurd (omega (arith, are.some))
IsPossible-summary_of (p ∷ ps) are = IsPossible-rising 0 p ps are.rising are.few

-- The other way: k values between m and M whose sum is S, one at each moment from t on, and a last one after them. Each is
-- as great as those after it allow.
abbrev spread : ℕ → ℤ → ℤ → ℤ → ℕ → Point → List Point
spread zero m M S t last = last ∷ []
spread (suc k) m M S t last = (t, int_min M (S -ℤ (pos k *ℤ m)), New) ∷ spread k m M (S -ℤ int_min M (S -ℤ (pos k *ℤ m))) (t + 1) last

-- the sum of k values between m and M may be S
record Allows (k : ℕ) (m M S : ℤ) : Type 0 where
  low : (pos k *ℤ m) ≤ℤ S
  high : S ≤ℤ (pos k *ℤ M)

times-suc : (k : ℕ) (a : ℤ) → (pos (suc k) *ℤ a) ≡ (a +ℤ (pos k *ℤ a))
times-suc k a = omega (arith, ints)

-- where the first of them is v
record Begins (k : ℕ) (m M S v : ℤ) : Type 0 where
  low : m ≤ℤ v
  high : v ≤ℤ M
  rest : Allows k m M (S -ℤ v)

Begins-first : (k : ℕ) (m M S : ℤ) → m ≤ℤ M → Allows (suc k) m M S → Begins k m M S (int_min M (S -ℤ (pos k *ℤ m)))
Begins-first k m M S order allows =
    let all_low = times-suc k m in
    let all_high = times-suc k M in
    let low = allows.low in
    let high = allows.high in
    let scaled = times-le-times k m M order in
    record {
      low = omega (arith, ints, clamps);
      high = omega (arith, ints, clamps);
      rest = record { low = omega (arith, ints, clamps); high = omega (arith, ints, clamps) };
    }

length-spread : (k : ℕ) (m M S : ℤ) (t : ℕ) (last : Point) → length (spread k m M S t last) ≡ k + 1
length-spread zero m M S t last = omega arith
length-spread (suc k) m M S t last = omega (arith, length-spread k m M (S -ℤ int_min M (S -ℤ (pos k *ℤ m))) (t + 1) last)

time_at_end-spread : (k : ℕ) (m M S : ℤ) (t before : ℕ) (last : Point) → time_at_end before (spread k m M S t last) ≡ last.0
time_at_end-spread zero m M S t before last = refl
time_at_end-spread (suc k) m M S t before last = time_at_end-spread k m M (S -ℤ int_min M (S -ℤ (pos k *ℤ m))) (t + 1) t last

least-first : (v : ℤ) (values : List Point) → least v values ≤ℤ v
least-first v [] = omega (arith, ints)
least-first v (p ∷ ps) = omega (arith, ints, clamps)

module _ (m M : ℤ) (order : m ≤ℤ M) (end : ℕ) where
  total-spread : (k : ℕ) (S : ℤ) (t : ℕ) → Allows k m M S → total (spread k m M S t (end, M, New)) ≡ (S +ℤ M)
  total-spread zero S t allows =
      let low = allows.low in
      let high = allows.high in
      omega (arith, ints)
  total-spread (suc k) S t allows =
      let v = int_min M (S -ℤ (pos k *ℤ m)) in
      let rest = total-spread k (S -ℤ v) (t + 1) (Begins-first k m M S order allows).rest in
      omega (arith, ints)

  least-spread : (k : ℕ) (S v : ℤ) (t : ℕ) → m ≤ℤ v → Allows k m M S → m ≤ℤ least v (spread k m M S t (end, M, New))
  least-spread zero S v t above allows = omega (arith, ints, clamps)
  least-spread (suc k) S v t above allows =
      let first = Begins-first k m M S order allows in
      let rest = least-spread k (S -ℤ int_min M (S -ℤ (pos k *ℤ m))) (int_min M (S -ℤ (pos k *ℤ m))) (t + 1) first.low first.rest in
      omega (arith, ints, clamps)

  greatest-spread : (k : ℕ) (S v : ℤ) (t : ℕ) → v ≤ℤ M → Allows k m M S → greatest v (spread k m M S t (end, M, New)) ≡ M
  greatest-spread zero S v t below allows = omega (arith, ints, clamps)
  greatest-spread (suc k) S v t below allows =
      let first = Begins-first k m M S order allows in
      let rest = greatest-spread k (S -ℤ int_min M (S -ℤ (pos k *ℤ m))) (int_min M (S -ℤ (pos k *ℤ m))) (t + 1) first.high first.rest in
      omega (arith, ints, clamps)

  module _ (early : end ≤ LAST_TIME) (min_fits : FitsSigned w64 m) (max_fits : FitsSigned w64 M) where
    RiseFrom-spread : (k : ℕ) (S : ℤ) (t : ℕ) → t + k ≤ end → Allows k m M S → RiseFrom t (spread k m M S t (end, M, New))
    RiseFrom-spread zero S t room allows = (omega arith, early, max_fits, tt)
    RiseFrom-spread (suc k) S t room allows =
        let first = Begins-first k m M S order allows in
        let low = first.low in
        let high = first.high in (
          omega arith,
          omega arith,
          omega (arith, ints),
          RiseFrom-spread k (S -ℤ int_min M (S -ℤ (pos k *ℤ m))) (t + 1) (omega arith) first.rest,
        )

same_figures : (f g : Figures) → f.count ≡ g.count → f.sum ≡ g.sum → f.min ≡ g.min → f.max ≡ g.max → f.t_first ≡ g.t_first → f.t_last ≡ g.t_last → AreAlike f g
same_figures f g count sum min max first last = λ i. record {
  count = count i;
  sum = sum i;
  min = min i;
  max = max i;
  t_first = first i;
  t_last = last i;
  filter = full;
}

one_value : (f : Figures) → IsPossible f → f.count ≡ 1 → (values : List Point) × AreValues values × AreAlike f (summary_of values)
one_value f possible single =
    let times = possible.one single in
    let low = possible.sum_low in
    let high = possible.sum_high in
    let order = possible.order in
    let none : f.count - 1 ≡ 0 = omega arith in
    let low : (f.max +ℤ pos 0 *ℤ f.min) ≤ℤ f.sum = rw none at possible.sum_low in
    let high : f.sum ≤ℤ (f.min +ℤ pos 0 *ℤ f.max) = rw none at possible.sum_high in (
      (f.t_first, f.min, New) ∷ [],
      record { some = omega arith; few = lit≤ tt; rising = (omega arith, omega (arith, possible.last), possible.min_fits, tt) },
      same_figures f (summary_of ((f.t_first, f.min, New) ∷ [])) single (omega (arith, ints)) refl (omega (arith, ints)) refl (omega arith),
    )

more_values : (f : Figures) (k : ℕ) → IsPossible f → f.count ≡ k + 2 → (values : List Point) × AreValues values × AreAlike f (summary_of values)
more_values f k possible more =
    let m = f.min in
    let M = f.max in
    let rest = f.sum -ℤ m -ℤ M in
    let counts : f.count - 1 ≡ suc k = omega arith in
    let low : (M +ℤ pos (suc k) *ℤ m) ≤ℤ f.sum = rw counts at possible.sum_low in
    let high : f.sum ≤ℤ (m +ℤ pos (suc k) *ℤ M) = rw counts at possible.sum_high in
    let all_low = times-suc k m in
    let all_high = times-suc k M in
    let allows : Allows k m M rest = record { low = omega (arith, ints); high = omega (arith, ints) } in
    let others = spread k m M rest (f.t_first + 1) (f.t_last, M, New) in
    let size = length-spread k m M rest (f.t_first + 1) (f.t_last, M, New) in
    let sum = total-spread m M possible.order f.t_last k rest (f.t_first + 1) allows in
    let above = least-spread m M possible.order f.t_last k rest m (f.t_first + 1) (omega (arith, ints)) allows in
    let below = least-first m others in
    let greatest_is = greatest-spread m M possible.order f.t_last k rest m (f.t_first + 1) possible.order allows in
    let last_is = time_at_end-spread k m M rest (f.t_first + 1) f.t_first (f.t_last, M, New) in
    let rising = RiseFrom-spread m M possible.order f.t_last possible.last possible.min_fits possible.max_fits k rest (f.t_first + 1)
    (omega (arith, possible.times)) allows in (
      (f.t_first, m, New) ∷ others,
      record {
        some = omega arith;
        few = omega (arith, possible.count_high);
        rising =
            (omega arith, omega (arith, possible.times, possible.last), possible.min_fits, rising);
      },
      same_figures f (summary_of ((f.t_first, m, New) ∷ others)) (omega arith) (omega (arith, ints)) (omega (arith, ints)) (sym greatest_is) refl (sym last_is),
    )

pub values-IsPossible : (f : Figures) → IsPossible f → (values : List Point) × AreValues values × AreAlike f (summary_of values)
values-IsPossible f possible = elim (cases_lt f.count 2) [
  | inl few ↦ one_value f possible (omega (arith, possible.count_low))
  | inr more ↦ more_values f (f.count - 2) possible (omega arith)
]

-- figures like possible ones are possible, where their filter has the bits of the least and of the greatest value
pub alike-IsPossible : (f g : Figures) → AreAlike f g → IsFilter f.filter → has f.filter f.min ≡ true → has f.filter f.max ≡ true → IsPossible g → IsPossible f
alike-IsPossible f g alike words min_bit max_bit possible =
    let count = ap (λ (h : Figures). h.count) alike in
    let sum = ap (λ (h : Figures). h.sum) alike in
    let min = ap (λ (h : Figures). h.min) alike in
    let max = ap (λ (h : Figures). h.max) alike in
    let first = ap (λ (h : Figures). h.t_first) alike in
    let last = ap (λ (h : Figures). h.t_last) alike in
    record {
      count_low = rw count possible.count_low;
      count_high = rw count possible.count_high;
      times = rw (count, first, last) possible.times;
      last = rw last possible.last;
      one = rw (count, first, last) possible.one;
      min_fits = rw min possible.min_fits;
      max_fits = rw max possible.max_fits;
      order = rw (min, max) possible.order;
      sum_low = rw (count, min, max, sum) possible.sum_low;
      sum_high = rw (count, min, max, sum) possible.sum_high;
      words = words;
      min_bit = min_bit;
      max_bit = max_bit;
    }
