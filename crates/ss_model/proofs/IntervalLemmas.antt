-- The answer to a query holds the truth, for any windows of some values.
use Rattle.ss_model.proofs.Common.{ℤ, ◌+ℤ◌, ◌≤ℤ◌, Option, int_min, int_max, ap, ap₂, arith, refl, sym, ◌∙◌, subst, ints, clamps, length-append, sum_by-cons}
use Rattle.ss_model.proofs.Common.{AreAlike, Figures, unfiltered, summary_of, SplitFigures, sum_interval, asked, values_alone, total, AreSplit, HoldsExtreme}
use Rattle.ss_model.proofs.Common.{asked-MayLieThere, Point, is_whole, is_split, split_windows, split_figures, interval_of_count, interval_of_sum}
use Rattle.ss_model.proofs.Common.{interval_of_least, interval_of_greatest, IsExact, true_count, true_sum, true_least, true_greatest, RiseAtFree, Window}
use Rattle.std.specs.Prelude.{◌≡◌, ℕ, suc, ◌+◌, ◌≤◌, Bool, true, false, List, [], ◌∷◌, ◌++◌, length, map, sum_by, None, Some}
use Rattle.ss_bounds.specs.Split.{least_count, greatest_count}
use Rattle.ss_bounds.specs.Either.{either, choice_in, lesser, greater, least_in, greatest_in}
use Rattle.ss_bounds.specs.Truth.{MayAllLieThere, windows_alone, values_of_all}
use Rattle.ss_bounds.proofs.ChoiceLemmas.{IsChoice, IsChoice-min, IsChoice-max, choice_in-append, choice_in-cons, either-assoc}
use Rattle.ss_bounds.specs.Extremes.{min_interval, max_interval}
use Rattle.ss_bounds.proofs.ExtremeLemmas.{min_interval-HoldsExtreme, max_interval-HoldsExtreme}
use Rattle.ss_bounds.specs.declared.fraction.Fraction.{Fraction}
use Rattle.ss_bounds.specs.MeanTruth.{MayHave}
use Rattle.ss_bounds.proofs.TruthLemmas.{asked-MayHave, asked-sum}
use Rattle.ss_model.specs.Interval.{whole_windows}
use Rattle.ss_model.proofs.AskedLemmas.{Asked, whole, apart, split, asked-of, asked-append, total-alone, least-alone, greatest-alone}

-- the windows are of these values, each window of some of them, whose figures the window has in some sense
abbrev pub ArePartsOf : (Figures → Figures → Type 0) → List Window → List Point → Type 0
ArePartsOf HasFigures [] values = values ≡ []
ArePartsOf HasFigures (w ∷ ws) values =
    (p : Point) × (ps : List Point) × (rest : List Point) × (values ≡ (p ∷ ps) ++ rest)
    × HasFigures w.summary (summary_of (p ∷ ps)) × ArePartsOf HasFigures ws rest

-- apart from filters, and with them
abbrev pub AreOf : List Window → List Point → Type 0
AreOf = ArePartsOf AreAlike

abbrev pub AreExactlyOf : List Window → List Point → Type 0
AreExactlyOf = ArePartsOf (λ f g. f ≡ g)

pub AreOf-exactly : (ws : List Window) (values : List Point) → AreExactlyOf ws values → AreOf ws values
AreOf-exactly [] values of = of
AreOf-exactly (w ∷ ws) values of = (of.0, of.1, of.2, of.3, ap unfiltered of.4, AreOf-exactly ws of.2 of.5)

-- each sum of values of a split window lies in its interval
abbrev SumsLie : List (SplitFigures × List ℤ) → Type 0
SumsLie [] = Unit {0}
SumsLie (w ∷ ws) = ((sum_interval w.0).0 ≤ℤ total w.1) × (total w.1 ≤ℤ (sum_interval w.0).1) × SumsLie ws

-- the sum and the count of some values, and so many with this sum may be those of each split window
abbrev pub amount : List ℤ → Fraction
amount values = record { over = total values; under = length values }

abbrev pub AllMayHave : List (SplitFigures × List ℤ) → Type 0
AllMayHave [] = Unit {0}
AllMayHave (w ∷ ws) = MayHave w.0 (amount w.1) × AllMayHave ws

abbrev sums_of : List Window → ℤ
sums_of ws = total (map (λ (w : Window). w.summary.sum) ws)

abbrev counts_of : List Window → ℕ
counts_of ws = sum_by (λ (w : Window). w.summary.count) ws

abbrev mins_of : List Window → List ℤ
mins_of ws = map (λ (w : Window). w.summary.min) ws

abbrev maxs_of : List Window → List ℤ
maxs_of ws = map (λ (w : Window). w.summary.max) ws

pub total-append : (xs ys : List ℤ) → total (xs ++ ys) ≡ (total xs +ℤ total ys)
total-append [] ys = omega (arith, ints)
total-append (x ∷ xs) ys = let rest = total-append xs ys in omega (arith, ints)

-- the order of two choices has no effect
either-comm : (choice : ℤ → ℤ → ℤ) → ((a b : ℤ) → choice a b ≡ choice b a) → (a b : Option ℤ) → either choice a b ≡ either choice b a
either-comm choice comm None None = refl
either-comm choice comm None (Some b) = refl
either-comm choice comm (Some a) None = refl
either-comm choice comm (Some a) (Some b) = ap Some (comm a b)

-- three choices in another order
either-swap : {choice : ℤ → ℤ → ℤ} {Better : ℤ → ℤ → Type 0} → IsChoice choice Better → ((a b : ℤ) → choice a b ≡ choice b a)
    → (a b c : Option ℤ) → either choice a (either choice b c) ≡ either choice b (either choice a c)
either-swap {choice} is comm a b c =
    sym (either-assoc is a b c) ∙ ap (λ z. either choice z c) (either-comm choice comm a b) ∙ either-assoc is b a c

min-comm : (a b : ℤ) → int_min a b ≡ int_min b a
min-comm a b = omega (arith, ints, clamps)

max-comm : (a b : ℤ) → int_max a b ≡ int_max b a
max-comm a b = omega (arith, ints, clamps)

-- the choice from the values of two lists, where that of the second is one of two parts
choice-beside : {choice : ℤ → ℤ → ℤ} {Better : ℤ → ℤ → Type 0} → IsChoice choice Better → ((a b : ℤ) → choice a b ≡ choice b a)
    → (front rest values : List ℤ) (known : Option ℤ) → choice_in choice rest ≡ either choice known (choice_in choice values)
    → choice_in choice (front ++ rest) ≡ either choice known (choice_in choice (front ++ values))
choice-beside {choice} is comm front rest values known later =
    choice_in-append is front rest ∙ ap (either choice (choice_in choice front)) later
    ∙ either-swap is comm (choice_in choice front) known (choice_in choice values)
    ∙ ap (either choice known) (sym (choice_in-append is front values))

choice-ahead : {choice : ℤ → ℤ → ℤ} {Better : ℤ → ℤ → Type 0} → IsChoice choice Better
    → (front rest known values : List ℤ) (v : ℤ) → choice_in choice front ≡ Some v
    → choice_in choice rest ≡ either choice (choice_in choice known) (choice_in choice values)
    → choice_in choice (front ++ rest) ≡ either choice (choice_in choice (v ∷ known)) (choice_in choice values)
choice-ahead {choice} is front rest known values v first later =
    choice_in-append is front rest ∙ ap₂ (either choice) first later
    ∙ sym (either-assoc is (Some v) (choice_in choice known) (choice_in choice values))
    ∙ ap (λ z. either choice z (choice_in choice values)) (sym (choice_in-cons choice v known))

-- a list after those of two parts
choice-last : {choice : ℤ → ℤ → ℤ} {Better : ℤ → ℤ → Type 0} → IsChoice choice Better → ((a b : ℤ) → choice a b ≡ choice b a)
    → (known last values : List ℤ) (front : Option ℤ) → front ≡ either choice (choice_in choice known) (choice_in choice values)
    → either choice front (choice_in choice last) ≡ either choice (choice_in choice (known ++ last)) (choice_in choice values)
choice-last {choice} is comm known last values front is_parted =
    ap (λ z. either choice z (choice_in choice last)) is_parted
    ∙ either-assoc is (choice_in choice known) (choice_in choice values) (choice_in choice last)
    ∙ ap (either choice (choice_in choice known)) (either-comm choice comm (choice_in choice values) (choice_in choice last))
    ∙ sym (either-assoc is (choice_in choice known) (choice_in choice last) (choice_in choice values))
    ∙ ap (λ z. either choice z (choice_in choice values)) (sym (choice_in-append is known last))

length-alone : (ps : List Point) → length (values_alone ps) ≡ length ps
length-alone [] = refl
length-alone (p ∷ ps) = ap suc (length-alone ps)

module _ (free : ℕ → Bool) where
  RiseAtFree-front : (start : ℕ) (xs ys : List Point) → RiseAtFree free start (xs ++ ys) → RiseAtFree free start xs
  RiseAtFree-front start [] ys rising = tt
  RiseAtFree-front start (x ∷ xs) ys rising = (rising.0, rising.1, RiseAtFree-front (x.0 + 1) xs ys rising.2)

  RiseAtFree-back : (start : ℕ) (xs ys : List Point) → RiseAtFree free start (xs ++ ys) → (later : ℕ) × RiseAtFree free later ys
  RiseAtFree-back start [] ys rising = (start, rising)
  RiseAtFree-back start (x ∷ xs) ys rising = RiseAtFree-back (x.0 + 1) xs ys rising.2

  -- what holds of no windows, and of one more of some of the values, holds of all
  pub over-windows : (HasFigures : Figures → Figures → Type 0) (Holds : List Window → List Point → Type 0) → Holds [] []
      → ((w : Window) (ws : List Window) (p : Point) (ps rest : List Point) → HasFigures w.summary (summary_of (p ∷ ps))
      → RiseAtFree free p.0 (p ∷ ps) → Holds ws rest → Holds (w ∷ ws) ((p ∷ ps) ++ rest))
      → (ws : List Window) (values : List Point) (start : ℕ) → ArePartsOf HasFigures ws values → RiseAtFree free start values → Holds ws values
  over-windows HasFigures Holds none next [] values start of rising = subst (λ z. Holds [] z) (sym of) none
  over-windows HasFigures Holds none next (w ∷ ws) values start of rising =
      let p = of.0 in
      let ps = of.1 in
      let rest = of.2 in
      let cut = of.3 in
      let rising = subst (λ z. RiseAtFree free start z) cut rising in
      let front = RiseAtFree-front start (p ∷ ps) rest rising in
      let back = RiseAtFree-back start (p ∷ ps) rest rising in
      subst (λ z. Holds (w ∷ ws) z) (sym cut)
      (next w ws p ps rest of.4 (omega arith, front.1, front.2) (over-windows HasFigures Holds none next ws rest back.0 of.5 back.1))

module _ (free : ℕ → Bool) (from to : ℕ) where
  -- the values asked for are those of the whole windows and those of each window that the range splits
  pub record Parted (ws : List Window) (values : List Point) : Type 0 where
    pub splits : List (SplitFigures × List ℤ)
    pub windows : windows_alone splits ≡ split_windows free from to ws
    pub may : MayAllLieThere splits
    pub have : AllMayHave splits
    pub sums : SumsLie splits
    pub count : length (asked from to values) ≡ counts_of (whole_windows from to ws) + length (values_of_all splits)
    pub sum : total (asked from to values) ≡ (sums_of (whole_windows from to ws) +ℤ total (values_of_all splits))
    pub least : least_in (asked from to values) ≡ lesser (least_in (mins_of (whole_windows from to ws))) (least_in (values_of_all splits))
    pub greatest : greatest_in (asked from to values) ≡ greater (greatest_in (maxs_of (whole_windows from to ws))) (greatest_in (values_of_all splits))

  parted-none : Parted [] []
  parted-none = record {
    splits = [];
    windows = refl;
    may = tt;
    have = tt;
    sums = tt;
    count = refl;
    sum = refl;
    least = refl;
    greatest = refl;
  }

  parted-apart : (w : Window) (ws : List Window) (front rest : List Point) → is_whole from to w ≡ false → is_split from to w ≡ false
      → asked from to front ≡ [] → Parted ws rest → Parted (w ∷ ws) (front ++ rest)
  parted-apart w ws front rest not_whole not_split none later =
      let values : asked from to (front ++ rest) ≡ asked from to rest = asked-append from to front rest ∙ ap (λ z. z ++ asked from to rest) none in
      record {
        splits = later.splits;
        windows = rw not_split later.windows;
        may = later.may;
        have = later.have;
        sums = later.sums;
        count = rw (values, not_whole) later.count;
        sum = rw (values, not_whole) later.sum;
        least = rw (values, not_whole) later.least;
        greatest = rw (values, not_whole) later.greatest;
      }

  parted-split : (w : Window) (ws : List Window) (p : Point) (ps rest : List Point) → is_whole from to w ≡ false → is_split from to w ≡ true
      → AreSplit free from to p ps (split_figures free from to w) → Parted ws rest → Parted (w ∷ ws) ((p ∷ ps) ++ rest)
  parted-split w ws p ps rest not_whole splits_it figures later =
      let front = asked from to (p ∷ ps) in
      let behind = asked from to rest in
      let inner = values_of_all later.splits in
      let values : asked from to ((p ∷ ps) ++ rest) ≡ front ++ behind = asked-append from to (p ∷ ps) rest in
      let sum = asked-sum free from to p ps (split_figures free from to w) figures in
      record {
        splits = (split_figures free from to w, front) ∷ later.splits;
        windows = rw splits_it (ap (λ z. split_figures free from to w ∷ z) later.windows);
        may = (asked-MayLieThere free from to p ps (split_figures free from to w) figures, later.may);
        have = (asked-MayHave free from to p ps (split_figures free from to w) figures, later.have);
        sums = (sum.0, sum.1, later.sums);
        count = rw (values, not_whole) (omega (arith, length-append front behind, length-append front inner, later.count));
        sum = rw (values, not_whole) (omega (arith, ints, total-append front behind, total-append front inner, later.sum));
        least = rw (values, not_whole) (choice-beside IsChoice-min min-comm front behind inner _ later.least);
        greatest = rw (values, not_whole) (choice-beside IsChoice-max max-comm front behind inner _ later.greatest);
      }

  parted-whole : (w : Window) (ws : List Window) (p : Point) (ps rest : List Point) → AreAlike w.summary (summary_of (p ∷ ps))
      → is_whole from to w ≡ true → is_split from to w ≡ false → asked from to (p ∷ ps) ≡ values_alone (p ∷ ps)
      → Parted ws rest → Parted (w ∷ ws) ((p ∷ ps) ++ rest)
  parted-whole w ws p ps rest is is_in not_split all later =
      let front = values_alone (p ∷ ps) in
      let behind = asked from to rest in
      let known = whole_windows from to ws in
      let inner = values_of_all later.splits in
      let values : asked from to ((p ∷ ps) ++ rest) ≡ front ++ behind = asked-append from to (p ∷ ps) rest ∙ ap (λ z. z ++ behind) all in
      let count = ap (λ (f : Figures). f.count) is in
      let sum = ap (λ (f : Figures). f.sum) is ∙ total-alone (p ∷ ps) in
      let min = ap (λ (f : Figures). f.min) is ∙ least-alone p.1 ps in
      let max = ap (λ (f : Figures). f.max) is ∙ greatest-alone p.1 ps in
      record {
        splits = later.splits;
        windows = rw not_split later.windows;
        may = later.may;
        have = later.have;
        sums = later.sums;
        count = rw (values, is_in)
            (omega (arith, length-append front behind, length-alone (p ∷ ps), sum_by-cons (λ (v : Window). v.summary.count) w known, later.count));
        sum = rw (values, is_in) (omega (arith, ints, total-append front behind, later.sum));
        least = rw (values, is_in) (choice-ahead IsChoice-min front behind (mins_of known) inner w.summary.min (ap Some (sym min)) later.least);
        greatest = rw (values, is_in) (choice-ahead IsChoice-max front behind (maxs_of known) inner w.summary.max (ap Some (sym max)) later.greatest);
      }

  parted-next : (w : Window) (ws : List Window) (p : Point) (ps rest : List Point) → AreAlike w.summary (summary_of (p ∷ ps))
      → Asked free from to w p ps → Parted ws rest → Parted (w ∷ ws) ((p ∷ ps) ++ rest)
  parted-next w ws p ps rest is (whole is_in not_split all) later = parted-whole w ws p ps rest is is_in not_split all later
  parted-next w ws p ps rest is (apart not_whole not_split none) later = parted-apart w ws (p ∷ ps) rest not_whole not_split none later
  parted-next w ws p ps rest is (split not_whole splits_it figures) later = parted-split w ws p ps rest not_whole splits_it figures later

  pub parted-all : (ws : List Window) (values : List Point) (start : ℕ) → AreOf ws values → RiseAtFree free start values → Parted ws values
  parted-all = over-windows free AreAlike Parted parted-none
      (λ w ws p ps rest is rising later. parted-next w ws p ps rest is (asked-of free from to w p ps is rising) later)

-- what the split windows say of all their values together
counts-lie : (splits : List (SplitFigures × List ℤ)) → MayAllLieThere splits
    → (sum_by least_count (windows_alone splits) ≤ length (values_of_all splits))
    × (length (values_of_all splits) ≤ sum_by greatest_count (windows_alone splits))
counts-lie [] may = (omega arith, omega arith)
counts-lie (w ∷ ws) may =
    let rest = counts-lie ws may.1 in
    let both = length-append w.1 (values_of_all ws) in
    let least = sum_by-cons least_count w.0 (windows_alone ws) in
    let greatest = sum_by-cons greatest_count w.0 (windows_alone ws) in
    (omega (arith, may.0.fewest, rest.0), omega (arith, may.0.most, rest.1))

sums-lie : (splits : List (SplitFigures × List ℤ)) → SumsLie splits
    → (total (map (λ (s : ℤ × ℤ). s.0) (map sum_interval (windows_alone splits))) ≤ℤ total (values_of_all splits))
    × (total (values_of_all splits) ≤ℤ total (map (λ (s : ℤ × ℤ). s.1) (map sum_interval (windows_alone splits))))
sums-lie [] lie = (omega (arith, ints), omega (arith, ints))
sums-lie (w ∷ ws) lie =
    let rest = sums-lie ws lie.2 in
    let both = total-append w.1 (values_of_all ws) in
    (omega (arith, ints, lie.0, rest.0), omega (arith, ints, lie.1, rest.1))

-- the answers hold the truth
module _ (free : ℕ → Bool) (from to : ℕ) (ws : List Window) (plain marked : List Point) (start : ℕ) (of : AreOf ws plain)
    (rising : RiseAtFree free start plain) where
  pub count-lies : ((interval_of_count free from to ws marked).0 ≤ true_count from to plain marked)
      × (true_count from to plain marked ≤ (interval_of_count free from to ws marked).1)
  count-lies =
      let parts = parted-all free from to ws plain start of rising in
      let lie = counts-lie parts.splits parts.may in
      let lie = rw parts.windows at lie in
      let all = length-append (asked from to plain) (asked from to marked) in
      (omega (arith, lie.0, parts.count, all), omega (arith, lie.1, parts.count, all))

  pub sum-lies : ((interval_of_sum free from to ws marked).0 ≤ℤ true_sum from to plain marked)
      × (true_sum from to plain marked ≤ℤ (interval_of_sum free from to ws marked).1)
  sum-lies =
      let parts = parted-all free from to ws plain start of rising in
      let lie = sums-lie parts.splits parts.sums in
      let lie = rw parts.windows at lie in
      let all = total-append (asked from to plain) (asked from to marked) in
      (omega (arith, ints, lie.0, parts.sum, all), omega (arith, ints, lie.1, parts.sum, all))

  pub least-HoldsExtreme : HoldsExtreme (interval_of_least free from to ws marked) (true_least from to plain marked)
  least-HoldsExtreme =
      let parts = parted-all free from to ws plain start of rising in
      let known = mins_of (whole_windows from to ws) in
      let inner = values_of_all parts.splits in
      let truth : true_least from to plain marked ≡ lesser (least_in (known ++ asked from to marked)) (least_in inner) =
      choice_in-append IsChoice-min (asked from to plain) (asked from to marked)
      ∙ choice-last IsChoice-min min-comm known (asked from to marked) inner (least_in (asked from to plain)) parts.least in
      let holds = min_interval-HoldsExtreme parts.splits parts.may (least_in (known ++ asked from to marked)) in
      subst (λ z. HoldsExtreme (interval_of_least free from to ws marked) z) (sym truth)
      (subst (λ z. HoldsExtreme (min_interval (least_in (known ++ asked from to marked)) z)
      (lesser (least_in (known ++ asked from to marked)) (least_in inner))) parts.windows holds)

  pub greatest-HoldsExtreme : HoldsExtreme (interval_of_greatest free from to ws marked) (true_greatest from to plain marked)
  greatest-HoldsExtreme =
      let parts = parted-all free from to ws plain start of rising in
      let known = maxs_of (whole_windows from to ws) in
      let inner = values_of_all parts.splits in
      let truth : true_greatest from to plain marked ≡ greater (greatest_in (known ++ asked from to marked)) (greatest_in inner) =
      choice_in-append IsChoice-max (asked from to plain) (asked from to marked)
      ∙ choice-last IsChoice-max max-comm known (asked from to marked) inner (greatest_in (asked from to plain)) parts.greatest in
      let holds = max_interval-HoldsExtreme parts.splits parts.may (greatest_in (known ++ asked from to marked)) in
      subst (λ z. HoldsExtreme (interval_of_greatest free from to ws marked) z) (sym truth)
      (subst (λ z. HoldsExtreme (max_interval (greatest_in (known ++ asked from to marked)) z)
      (greater (greatest_in (known ++ asked from to marked)) (greatest_in inner))) parts.windows holds)

min_table-exact : (e : Option ℤ) → IsExact (min_interval e [])
min_table-exact None = tt
min_table-exact (Some e) = refl

max_table-exact : (e : Option ℤ) → IsExact (max_interval e [])
max_table-exact None = tt
max_table-exact (Some e) = refl

-- where the range splits no window, nothing is left open
module _ (free : ℕ → Bool) (from to : ℕ) (ws : List Window) (marked : List Point) (unsplit : split_windows free from to ws ≡ []) where
  pub count-exact : (interval_of_count free from to ws marked).0 ≡ (interval_of_count free from to ws marked).1
  count-exact = rw unsplit refl

  pub sum-exact : (interval_of_sum free from to ws marked).0 ≡ (interval_of_sum free from to ws marked).1
  sum-exact = rw unsplit refl

  pub least-exact : IsExact (interval_of_least free from to ws marked)
  least-exact = rw unsplit (min_table-exact (least_in (mins_of (whole_windows from to ws) ++ asked from to marked)))

  pub greatest-exact : IsExact (interval_of_greatest free from to ws marked)
  greatest-exact = rw unsplit (max_table-exact (greatest_in (maxs_of (whole_windows from to ws) ++ asked from to marked)))
