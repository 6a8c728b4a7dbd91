-- What `replaced` makes of the values of some windows: other values of the same windows, with as many in the range as are put there.
use Rattle.std.specs.Prelude.{◌≡◌, ℕ, ◌+◌, ◌≤◌, ◌<◌, Bool, true, false, ◌&&◌, nat_le, if◌then◌else◌, ℤ, ◌+ℤ◌, List, [], ◌∷◌, ◌++◌, length, map, sum_by}
use Rattle.std.proofs.Common.{ap, ap₂, arith, refl, sym, ◌∙◌, subst}
use Rattle.std.proofs.lemmas.Int.{ints}
use Rattle.std.proofs.lemmas.List.{drop_at, length-append, length-map, take_at}
use Rattle.std.proofs.lemmas.List.Sums.{sum_by-cons}
use Rattle.ss_summary.specs.Figures.{AreAlike, Figures}
use Rattle.ss_summary.specs.Summaries.{summary_of, time_at_end}
use Rattle.ss_bounds.specs.Times.{ends_in}
use Rattle.ss_bounds.specs.Truth.{asked, total}
use Rattle.ss_summary.specs.Points.{Point}
use Rattle.ss_model.specs.Interval.{is_split, is_whole, split_figures, split_windows, whole_windows}
use Rattle.ss_model.specs.Truth.{RiseAtFree}
use Rattle.ss_model.specs.declared.types.Window.{Window}
use Rattle.ss_model.proofs.AskedLemmas.{Asked, apart, asked-append, asked-of, split, total-alone, whole}
use Rattle.ss_model.proofs.IntervalLemmas.{AreOf, total-append}
use Rattle.ss_laws.specs.Rebuilt.{placed, replaced}
use Rattle.ss_laws.specs.Sides.{Sides, FitSplit, AllFit, count_inside, sum_inside}
use Rattle.ss_laws.proofs.FilledLemmas.{RiseAtFree-earlier}
use Rattle.ss_laws.proofs.PieceLemmas.{RiseAtFree-append, RiseAtFree-behind, RiseAtFree-front, free-last, time_at_end-later}
use Rattle.ss_laws.proofs.PlacedLemmas.{AreOf-placed, RiseAtFree-placed, picked-placed}

-- a range that doesn't hold all times of a window holds one end at most
ends-few : (p q r s : Bool) → (p && s) ≡ false → (if p && q then 1 else 0) + (if r && s then 1 else 0) ≤ 1
ends-few true q r true wrong = cc
ends-few true true true false is = omega arith
ends-few true true false false is = omega arith
ends-few true false true false is = omega arith
ends-few true false false false is = omega arith
ends-few false q true true is = omega arith
ends-few false q true false is = omega arith
ends-few false q false s is = omega arith

abbrev counts_of : List Window → ℕ
counts_of ws = sum_by (λ (w : Window). w.summary.count) ws

abbrev sums_of : List Window → ℤ
sums_of ws = total (map (λ (w : Window). w.summary.sum) ws)

module _ (free : ℕ → Bool) (from to : ℕ) where
  -- other values of the same windows, of which so many lie in the range, and of this sum
  pub record AreReplaced (start : ℕ) (ws : List Window) (sides : List Sides) (values : List Point) : Type 0 where
    pub of : AreOf ws values
    pub rising : RiseAtFree free start values
    pub count : length (asked from to values) ≡ counts_of (whole_windows from to ws) + count_inside sides
    pub sum : total (asked from to values) ≡ (sums_of (whole_windows from to ws) +ℤ sum_inside sides)

  abbrev new : List Window → List Sides → List Point → List Point
  new ws sides values = replaced free from to ws sides values

  -- a window whose values stay
  replaced-kept : (start : ℕ) (w : Window) (ws : List Window) (sides : List Sides) (p : Point) (ps rest : List Point)
      → AreAlike w.summary (summary_of (p ∷ ps)) → RiseAtFree free start (p ∷ ps) → is_split from to w ≡ false
      → length (asked from to (p ∷ ps)) + counts_of (whole_windows from to ws) ≡ counts_of (whole_windows from to (w ∷ ws))
      → (total (asked from to (p ∷ ps)) +ℤ sums_of (whole_windows from to ws)) ≡ sums_of (whole_windows from to (w ∷ ws))
      → AreReplaced (time_at_end p.0 ps + 1) ws sides (new ws sides rest)
      → AreReplaced start (w ∷ ws) sides (new (w ∷ ws) sides ((p ∷ ps) ++ rest))
  replaced-kept start w ws sides p ps rest is rising not_split counts sums later =
      let front = p ∷ ps in
      let behind = new ws sides rest in
      let number : length front ≡ w.summary.count = sym (ap (λ (f : Figures). f.count) is) in
      let same : new (w ∷ ws) sides (front ++ rest) ≡ front ++ behind =
      rw not_split (ap₂ (λ xs ys. xs ++ new ws sides ys) (take_at front rest w.summary.count number) (drop_at front rest w.summary.count number)) in
      let values = asked-append from to front behind in
      subst (AreReplaced start (w ∷ ws) sides) (sym same)
      (record {
        of = (p, ps, behind, refl, is, later.of);
        rising = RiseAtFree-append free start p ps behind rising later.rising;
        count = omega (arith, ap length values, length-append (asked from to front) (asked from to behind), counts, later.count);
        sum = omega (arith, ints, ap total values, total-append (asked from to front) (asked from to behind), sums, later.sum);
      })

  -- a window whose values are others
  replaced-split : (start : ℕ) (w : Window) (ws : List Window) (v : Sides) (sides : List Sides) (p : Point) (ps rest : List Point)
      → AreAlike w.summary (summary_of (p ∷ ps)) → RiseAtFree free start (p ∷ ps) → 1 ≤ length ps → is_whole from to w ≡ false → is_split from to w ≡ true
      → FitSplit (split_figures free from to w) v
      → AreReplaced (time_at_end p.0 ps + 1) ws sides (new ws sides rest)
      → AreReplaced start (w ∷ ws) (v ∷ sides) (new (w ∷ ws) (v ∷ sides) ((p ∷ ps) ++ rest))
  replaced-split start w ws v sides p ps rest is rising more not_whole splits_it fit later =
      let f = w.summary in
      let old = p ∷ ps in
      let behind = new ws sides rest in
      let all = placed free from to f.t_first f.t_last v in
      let number : length old ≡ f.count = sym (ap (λ (f : Figures). f.count) is) in
      let first : f.t_first ≡ p.0 = ap (λ (f : Figures). f.t_first) is in
      let last : f.t_last ≡ time_at_end p.0 ps = ap (λ (f : Figures). f.t_last) is in
      let before : f.t_first < f.t_last = omega (arith, time_at_end-later free start p ps rising) in
      let is_first : free f.t_first ≡ true = ap free first ∙ rising.1 in
      let is_last : free f.t_last ≡ true = ap free last ∙ free-last free start p ps rising in
      let some : 2 ≤ f.count = omega arith in
      let one_end : ends_in from to f.t_first f.t_last ≤ 1 =
      ends-few (nat_le from f.t_first) (nat_le f.t_first to) (nat_le from f.t_last) (nat_le f.t_last to) not_whole in
      let of = AreOf-placed free from to f.t_first f.t_last f.count f.sum f.min f.max v before is_first is_last some one_end fit in
      let inside : asked from to all ≡ v.inside =
      picked-placed free from to f.t_first f.t_last f.count f.sum f.min f.max v before is_first is_last some one_end fit in
      let rises = RiseAtFree-placed free from to f.t_first f.t_last f.count f.sum f.min f.max v before is_first is_last some one_end fit behind
      (subst (λ t. RiseAtFree free (t + 1) behind) (sym last) later.rising) in
      let same : new (w ∷ ws) (v ∷ sides) (old ++ rest) ≡ all ++ behind =
      rw splits_it (ap (λ ys. all ++ new ws sides ys) (drop_at old rest f.count number)) in
      let values = asked-append from to all behind ∙ ap (λ xs. xs ++ asked from to behind) inside in
      let early : start ≤ f.t_first = omega (arith, rising.0) in
      subst (AreReplaced start (w ∷ ws) (v ∷ sides)) (sym same)
      (record {
        of = of w ws behind refl later.of;
        rising = RiseAtFree-earlier free start f.t_first (all ++ behind) early rises;
        count = rw not_whole
            (omega (
              arith,
              ap length values,
              length-append v.inside (asked from to behind),
              later.count,
              sum_by-cons (λ (u : Sides). length u.inside) v sides,
            ));
        sum = rw not_whole
            (omega (arith, ints, ap total values, total-append v.inside (asked from to behind), later.sum));
      })

  next : (start : ℕ) (w : Window) (ws : List Window) (sides : List Sides) (p : Point) (ps rest : List Point)
      → AreAlike w.summary (summary_of (p ∷ ps)) → RiseAtFree free start (p ∷ ps) → AllFit (split_windows free from to (w ∷ ws)) sides
      → ((others : List Sides) → AllFit (split_windows free from to ws) others → AreReplaced (time_at_end p.0 ps + 1) ws others (new ws others rest))
      → Asked free from to w p ps → AreReplaced start (w ∷ ws) sides (new (w ∷ ws) sides ((p ∷ ps) ++ rest))
  next start w ws sides p ps rest is rising fit later (whole is_in not_split all) =
      let count = ap (λ (f : Figures). f.count) is in
      let sum = ap (λ (f : Figures). f.sum) is ∙ total-alone (p ∷ ps) in
      replaced-kept start w ws sides p ps rest is rising not_split
      (rw (is_in, all)
      (omega (arith, length-map (p ∷ ps) (λ q. q.1), sum_by-cons (λ (u : Window). u.summary.count) w (whole_windows from to ws))))
      (rw (is_in, all) (ap (λ z. z +ℤ sums_of (whole_windows from to ws)) (sym sum)))
      (later sides (rw not_split at fit))
  next start w ws sides p ps rest is rising fit later (apart not_whole not_split none) =
      replaced-kept start w ws sides p ps rest is rising not_split
      (rw (not_whole, none) (omega arith)) (rw (not_whole, none) (omega (arith, ints))) (later sides (rw not_split at fit))
  next start w ws [] p ps rest is rising fit later (split not_whole splits_it figures) = (let wrong = rw splits_it at fit in absurd wrong)
  next start w ws (v ∷ sides) p ps rest is rising fit later (split not_whole splits_it figures) =
      let fit : FitSplit (split_figures free from to w) v × AllFit (split_windows free from to ws) sides = rw splits_it at fit in
      replaced-split start w ws v sides p ps rest is rising figures.more not_whole splits_it fit.0 (later sides fit.1)

  pub replaced-all : (start : ℕ) (ws : List Window) (sides : List Sides) (values : List Point) → AreOf ws values → RiseAtFree free start values
      → AllFit (split_windows free from to ws) sides → AreReplaced start ws sides (new ws sides values)
  replaced-all start [] [] values of rising fit =
      subst (AreReplaced start [] []) (sym of) (record { of = refl; rising = tt; count = refl; sum = refl })
  replaced-all start [] (v ∷ sides) values of rising fit = absurd fit
  replaced-all start (w ∷ ws) sides values of rising fit =
      let p = of.0 in
      let ps = of.1 in
      let rest = of.2 in
      let rising = subst (RiseAtFree free start) of.3 rising in
      let front = RiseAtFree-front free start p ps rest rising in
      let behind = RiseAtFree-behind free start p ps rest rising in
      subst (λ z. AreReplaced start (w ∷ ws) sides (new (w ∷ ws) sides z)) (sym of.3)
      (next start w ws sides p ps rest of.4 front fit
      (λ others fits. replaced-all (time_at_end p.0 ps + 1) ws others rest of.5 behind fits)
      (asked-of free from to w p ps of.4 (omega arith, front.1, front.2)))
