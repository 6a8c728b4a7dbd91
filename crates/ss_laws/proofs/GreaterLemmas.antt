-- The greatest values of ranges side by side: that of a range lies within what theirs say together.
use Rattle.std.specs.Prelude.{◌≡◌, ℕ, ◌+◌, Bool, true, false, ◌&&◌, not, ℤ, ◌≤ℤ◌, List, [], ◌∷◌, ◌++◌, map, if◌then◌else◌}
use Rattle.std.specs.Prelude.{Option, None, Some}
use Rattle.std.specs.Int.{int_max}
use Rattle.std.specs.List.{filter}
use Rattle.std.proofs.Common.{ap, ap₂, arith, refl, sym, ◌∙◌}
use Rattle.std.proofs.lemmas.Bool.{false≢true}
use Rattle.std.proofs.lemmas.Int.{ints, clamps}
use Rattle.ss_bounds.proofs.ChoiceLemmas.{choice_in-cons}
use Rattle.ss_bounds.specs.declared.extreme.Extreme.{Extreme}
use Rattle.ss_bounds.specs.declared.extreme.Extreme.TheVariants.{Nothing, Sure, Maybe}
use Rattle.ss_bounds.specs.Either.{either, greatest_in}
use Rattle.ss_bounds.specs.Extremes.{can_hold, max_table, must_hold}
use Rattle.ss_bounds.specs.Several.{greatest_of_all, greater_of}
use Rattle.ss_bounds.specs.Split.{SplitFigures, greatest_count, least_count}
use Rattle.ss_bounds.specs.Times.{lies_in}
use Rattle.ss_bounds.specs.Truth.{asked, values_alone}
use Rattle.ss_landmarks.specs.Free.{is_free}
use Rattle.ss_landmarks.specs.Landmark.{Landmark}
use Rattle.ss_model.specs.Interval.{interval_of_greatest, is_apart, is_split, is_whole, split_figures, whole_windows}
use Rattle.ss_model.specs.declared.types.Window.{Window}
use Rattle.ss_summary.specs.Points.{Point}
use Rattle.ss_laws.specs.Parts.{IsExtremeWithin}
use Rattle.ss_laws.proofs.FigureLemmas.{greatest_count-adds, least_count-adds}
use Rattle.ss_laws.proofs.PartLemmas.{AllStand, SplitsFurther, of_mark, of_range, of_window, pick}
use Rattle.ss_laws.proofs.ExtremeLemmas.{has-all, order-of, some-either, some-more, split_extreme, split_known, within-follows}
use Rattle.ss_laws.proofs.ExtremeLemmas.{within-same}
use Rattle.ss_laws.proofs.SideLemmas.{figures_of}
use Rattle.ss_laws.proofs.Together.{PutsTogether, together}

-- the order in which they are put together has no effect
greatest-comm : (x y : Extreme) → greater_of x y ≡ greater_of y x
greatest-comm Nothing Nothing = refl
greatest-comm Nothing (Sure a2 b2) = refl
greatest-comm Nothing (Maybe a2 b2) = refl
greatest-comm (Sure a1 b1) Nothing = refl
greatest-comm (Sure a1 b1) (Sure a2 b2) = ap₂ Sure (omega (arith, ints, clamps)) (omega (arith, ints, clamps))
greatest-comm (Sure a1 b1) (Maybe a2 b2) = ap₂ Sure (omega (arith, ints, clamps)) (omega (arith, ints, clamps))
greatest-comm (Maybe a1 b1) Nothing = refl
greatest-comm (Maybe a1 b1) (Sure a2 b2) = ap₂ Sure (omega (arith, ints, clamps)) (omega (arith, ints, clamps))
greatest-comm (Maybe a1 b1) (Maybe a2 b2) = ap₂ Maybe (omega (arith, ints, clamps)) (omega (arith, ints, clamps))

greatest-assoc : (x y z : Extreme) → greater_of (greater_of x y) z ≡ greater_of x (greater_of y z)
greatest-assoc Nothing y z = refl
greatest-assoc (Sure a1 b1) Nothing z = refl
greatest-assoc (Sure a1 b1) (Sure a2 b2) Nothing = refl
greatest-assoc (Sure a1 b1) (Sure a2 b2) (Sure a3 b3) = ap₂ Sure (omega (arith, ints, clamps)) (omega (arith, ints, clamps))
greatest-assoc (Sure a1 b1) (Sure a2 b2) (Maybe a3 b3) = ap₂ Sure (omega (arith, ints, clamps)) (omega (arith, ints, clamps))
greatest-assoc (Sure a1 b1) (Maybe a2 b2) Nothing = refl
greatest-assoc (Sure a1 b1) (Maybe a2 b2) (Sure a3 b3) = ap₂ Sure (omega (arith, ints, clamps)) (omega (arith, ints, clamps))
greatest-assoc (Sure a1 b1) (Maybe a2 b2) (Maybe a3 b3) = ap₂ Sure (omega (arith, ints, clamps)) (omega (arith, ints, clamps))
greatest-assoc (Maybe a1 b1) Nothing z = refl
greatest-assoc (Maybe a1 b1) (Sure a2 b2) Nothing = refl
greatest-assoc (Maybe a1 b1) (Sure a2 b2) (Sure a3 b3) = ap₂ Sure (omega (arith, ints, clamps)) (omega (arith, ints, clamps))
greatest-assoc (Maybe a1 b1) (Sure a2 b2) (Maybe a3 b3) = ap₂ Sure (omega (arith, ints, clamps)) (omega (arith, ints, clamps))
greatest-assoc (Maybe a1 b1) (Maybe a2 b2) Nothing = refl
greatest-assoc (Maybe a1 b1) (Maybe a2 b2) (Sure a3 b3) = ap₂ Sure (omega (arith, ints, clamps)) (omega (arith, ints, clamps))
greatest-assoc (Maybe a1 b1) (Maybe a2 b2) (Maybe a3 b3) = ap₂ Maybe (omega (arith, ints, clamps)) (omega (arith, ints, clamps))

greatest-swap : (x y z v : Extreme) → greater_of (greater_of x y) (greater_of z v) ≡ greater_of (greater_of x z) (greater_of y v)
greatest-swap x y z v =
    greatest-assoc x y (greater_of z v)
    ∙ ap (greater_of x) (sym (greatest-assoc y z v) ∙ ap (λ e. greater_of e v) (greatest-comm y z) ∙ greatest-assoc z y v)
    ∙ sym (greatest-assoc x z (greater_of y v))

greatest-right : (x : Extreme) → greater_of x Nothing ≡ x
greatest-right Nothing = refl
greatest-right (Sure a b) = refl
greatest-right (Maybe a b) = refl

within-joined : (x y v w : Extreme) → IsExtremeWithin x v → IsExtremeWithin y w → IsExtremeWithin (greater_of x y) (greater_of v w)
within-joined Nothing y Nothing w one two = two
within-joined Nothing y (Sure a3 b3) w one two = absurd one
within-joined Nothing y (Maybe a3 b3) w one two = absurd one
within-joined (Sure a1 b1) y Nothing w one two = absurd one
within-joined (Sure a1 b1) Nothing (Sure a3 b3) Nothing one two = one
within-joined (Sure a1 b1) Nothing (Sure a3 b3) (Sure a4 b4) one two = absurd two
within-joined (Sure a1 b1) Nothing (Sure a3 b3) (Maybe a4 b4) one two = absurd two
within-joined (Sure a1 b1) (Sure a2 b2) (Sure a3 b3) Nothing one two = absurd two
within-joined (Sure a1 b1) (Sure a2 b2) (Sure a3 b3) (Sure a4 b4) one two = (omega (arith, ints, clamps, one, two), omega (arith, ints, clamps, one, two))
within-joined (Sure a1 b1) (Sure a2 b2) (Sure a3 b3) (Maybe a4 b4) one two = (omega (arith, ints, clamps, one, two), omega (arith, ints, clamps, one, two))
within-joined (Sure a1 b1) (Maybe a2 b2) (Sure a3 b3) Nothing one two = absurd two
within-joined (Sure a1 b1) (Maybe a2 b2) (Sure a3 b3) (Sure a4 b4) one two = absurd two
within-joined (Sure a1 b1) (Maybe a2 b2) (Sure a3 b3) (Maybe a4 b4) one two = (omega (arith, ints, clamps, one, two), omega (arith, ints, clamps, one, two))
within-joined (Sure a1 b1) Nothing (Maybe a3 b3) Nothing one two = one
within-joined (Sure a1 b1) Nothing (Maybe a3 b3) (Sure a4 b4) one two = absurd two
within-joined (Sure a1 b1) Nothing (Maybe a3 b3) (Maybe a4 b4) one two = absurd two
within-joined (Sure a1 b1) (Sure a2 b2) (Maybe a3 b3) Nothing one two = absurd two
within-joined (Sure a1 b1) (Sure a2 b2) (Maybe a3 b3) (Sure a4 b4) one two = (omega (arith, ints, clamps, one, two), omega (arith, ints, clamps, one, two))
within-joined (Sure a1 b1) (Sure a2 b2) (Maybe a3 b3) (Maybe a4 b4) one two = (omega (arith, ints, clamps, one, two), omega (arith, ints, clamps, one, two))
within-joined (Sure a1 b1) (Maybe a2 b2) (Maybe a3 b3) Nothing one two = absurd two
within-joined (Sure a1 b1) (Maybe a2 b2) (Maybe a3 b3) (Sure a4 b4) one two = absurd two
within-joined (Sure a1 b1) (Maybe a2 b2) (Maybe a3 b3) (Maybe a4 b4) one two = (omega (arith, ints, clamps, one, two), omega (arith, ints, clamps, one, two))
within-joined (Maybe a1 b1) y Nothing w one two = absurd one
within-joined (Maybe a1 b1) y (Sure a3 b3) w one two = absurd one
within-joined (Maybe a1 b1) Nothing (Maybe a3 b3) Nothing one two = one
within-joined (Maybe a1 b1) Nothing (Maybe a3 b3) (Sure a4 b4) one two = absurd two
within-joined (Maybe a1 b1) Nothing (Maybe a3 b3) (Maybe a4 b4) one two = absurd two
within-joined (Maybe a1 b1) (Sure a2 b2) (Maybe a3 b3) Nothing one two = absurd two
within-joined (Maybe a1 b1) (Sure a2 b2) (Maybe a3 b3) (Sure a4 b4) one two = (omega (arith, ints, clamps, one, two), omega (arith, ints, clamps, one, two))
within-joined (Maybe a1 b1) (Sure a2 b2) (Maybe a3 b3) (Maybe a4 b4) one two = (omega (arith, ints, clamps, one, two), omega (arith, ints, clamps, one, two))
within-joined (Maybe a1 b1) (Maybe a2 b2) (Maybe a3 b3) Nothing one two = absurd two
within-joined (Maybe a1 b1) (Maybe a2 b2) (Maybe a3 b3) (Sure a4 b4) one two = absurd two
within-joined (Maybe a1 b1) (Maybe a2 b2) (Maybe a3 b3) (Maybe a4 b4) one two = (omega (arith, ints, clamps, one, two), omega (arith, ints, clamps, one, two))

pub greatest-put : PutsTogether Nothing greater_of IsExtremeWithin
greatest-put = record {
  left = λ x. refl;
  right = greatest-right;
  swap = greatest-swap;
  same = within-same;
  follows = within-follows;
  joined = within-joined;
}

abbrev pub whole_greatest : Window → Extreme
whole_greatest w = Sure w.summary.max w.summary.max

abbrev pub one_greatest : ℤ → Extreme
one_greatest v = Sure v v

split-split : (m M : ℤ) (a b a' b' a'' b'' : Bool) → m ≤ℤ M → (a' ≡ true → a ≡ true) → (a'' ≡ true → a ≡ true) → (a ≡ true → b ≡ true)
    → (b' ≡ true → b ≡ true) → (b'' ≡ true → b ≡ true) → (b ≡ true → b' ≡ false → b'' ≡ true)
    → IsExtremeWithin (split_known m M a b) (greater_of (split_known m M a' b') (split_known m M a'' b''))
split-split m M true b true b' true b'' order must must' both can can' some = (omega (arith, ints, clamps), omega (arith, ints, clamps))
split-split m M true b true b' false true order must must' both can can' some = (omega (arith, ints, clamps), omega (arith, ints, clamps))
split-split m M true b true b' false false order must must' both can can' some = (omega (arith, ints, clamps), omega (arith, ints, clamps))
split-split m M true b false true true b'' order must must' both can can' some = (omega (arith, ints, clamps), omega (arith, ints, clamps))
split-split m M true b false true false true order must must' both can can' some = (omega (arith, ints, clamps), omega (arith, ints, clamps))
split-split m M true b false true false false order must must' both can can' some = (omega (arith, ints, clamps), omega (arith, ints, clamps))
split-split m M true b false false true b'' order must must' both can can' some = (omega (arith, ints, clamps), omega (arith, ints, clamps))
split-split m M true b false false false true order must must' both can can' some = (omega (arith, ints, clamps), omega (arith, ints, clamps))
split-split m M true b false false false false order must must' both can can' some = absurd (false≢true (some (both refl) refl))
split-split m M false true true b' true b'' order must must' both can can' some = absurd (false≢true (must refl))
split-split m M false true true b' false true order must must' both can can' some = absurd (false≢true (must refl))
split-split m M false true true b' false false order must must' both can can' some = absurd (false≢true (must refl))
split-split m M false true false true true b'' order must must' both can can' some = absurd (false≢true (must' refl))
split-split m M false true false true false true order must must' both can can' some = (omega (arith, ints, clamps), omega (arith, ints, clamps))
split-split m M false true false true false false order must must' both can can' some = (omega (arith, ints, clamps), omega (arith, ints, clamps))
split-split m M false true false false true b'' order must must' both can can' some = absurd (false≢true (must' refl))
split-split m M false true false false false true order must must' both can can' some = (omega (arith, ints, clamps), omega (arith, ints, clamps))
split-split m M false true false false false false order must must' both can can' some = absurd (false≢true (some refl refl))
split-split m M false false true b' true b'' order must must' both can can' some = absurd (false≢true (must refl))
split-split m M false false true b' false true order must must' both can can' some = absurd (false≢true (must refl))
split-split m M false false true b' false false order must must' both can can' some = absurd (false≢true (must refl))
split-split m M false false false true true b'' order must must' both can can' some = absurd (false≢true (must' refl))
split-split m M false false false true false true order must must' both can can' some = absurd (false≢true (can refl))
split-split m M false false false true false false order must must' both can can' some = absurd (false≢true (can refl))
split-split m M false false false false true b'' order must must' both can can' some = absurd (false≢true (must' refl))
split-split m M false false false false false true order must must' both can can' some = absurd (false≢true (can' refl))
split-split m M false false false false false false order must must' both can can' some = tt

split-whole : (m M : ℤ) (a' b' a'' b'' : Bool) → m ≤ℤ M → (a' ≡ true → b' ≡ true) → (b' ≡ false → b'' ≡ true)
    → IsExtremeWithin (Sure M M) (greater_of (split_known m M a' b') (split_known m M a'' b''))
split-whole m M true b' true b'' order both some = (omega (arith, ints, clamps), omega (arith, ints, clamps))
split-whole m M true b' false true order both some = (omega (arith, ints, clamps), omega (arith, ints, clamps))
split-whole m M true b' false false order both some = (omega (arith, ints, clamps), omega (arith, ints, clamps))
split-whole m M false true true b'' order both some = (omega (arith, ints, clamps), omega (arith, ints, clamps))
split-whole m M false true false true order both some = (omega (arith, ints, clamps), omega (arith, ints, clamps))
split-whole m M false true false false order both some = (omega (arith, ints, clamps), omega (arith, ints, clamps))
split-whole m M false false true b'' order both some = (omega (arith, ints, clamps), omega (arith, ints, clamps))
split-whole m M false false false true order both some = (omega (arith, ints, clamps), omega (arith, ints, clamps))
split-whole m M false false false false order both some = absurd (false≢true (some refl))

pub greatest-further : SplitsFurther Nothing greater_of IsExtremeWithin greatest-put whole_greatest split_extreme one_greatest
greatest-further = record {
  of_split = λ w ea eb ia ib o values ends room.
      let s = figures_of w (ea + eb) (ia + ib) o in
      let a = figures_of w ea ia (o + ib) in
      let b = figures_of w eb ib (o + ia) in
      let fewer = least_count-adds _ _ _ _ values ea eb ia ib o ends room in
      split-split s.min s.max (must_hold s) (can_hold s) (must_hold a) (can_hold a) (must_hold b) (can_hold b) values.order
      (some-more (least_count a) (least_count s) (omega (arith, fewer))) (some-more (least_count b) (least_count s) (omega (arith, fewer)))
      (some-more (least_count s) (greatest_count s) (omega (arith, room)))
      (some-more (greatest_count a) (greatest_count s) (omega arith)) (some-more (greatest_count b) (greatest_count s) (omega arith))
      (some-either (greatest_count s) (greatest_count a) (greatest_count b) (greatest_count-adds _ _ _ _ values ea eb ia ib o ends room));
  of_whole = λ w ea eb ia ib o values room both none.
      let a = figures_of w ea ia (o + ib) in
      let b = figures_of w eb ib (o + ia) in
      split-whole w.summary.min w.summary.max (must_hold a) (can_hold a) (must_hold b) (can_hold b) values.order
      (some-more (least_count a) (greatest_count a) (omega (arith, room)))
      (some-either 1 (greatest_count a) (greatest_count b) (omega (arith, room, both)) refl);
}

-- the tables, with one more value that is known, and with one more window
whole-table : (v : ℤ) (e : Option ℤ) (can must : List SplitFigures) → (can ≡ [] → must ≡ [])
    → max_table (either int_max (Some v) e) can must ≡ greater_of (Sure v v) (max_table e can must)
whole-table v None [] [] has = refl
whole-table v None [] (t ∷ must) has = (let none : t ∷ must ≡ [] = has refl in cc)
whole-table v None (s ∷ can) [] has = refl
whole-table v None (s ∷ can) (t ∷ must) has = refl
whole-table v (Some e) [] [] has = refl
whole-table v (Some e) [] (t ∷ must) has = (let none : t ∷ must ≡ [] = has refl in cc)
whole-table v (Some e) (s ∷ can) [] has = ap₂ Sure (omega (arith, ints, clamps)) (omega (arith, ints, clamps))
whole-table v (Some e) (s ∷ can) (t ∷ must) has = ap₂ Sure (omega (arith, ints, clamps)) (omega (arith, ints, clamps))

split-table : (x y : Bool) (s : SplitFigures) (e : Option ℤ) (can must : List SplitFigures) → (x ≡ true → y ≡ true) → (can ≡ [] → must ≡ [])
    → max_table e (if y then s ∷ can else can) (if x then s ∷ must else must)
    ≡ greater_of (pick x y (Sure s.min s.max) (Maybe s.min s.max) Nothing) (max_table e can must)
split-table false false s e can must order has = refl
split-table true false s e can must order has = (let wrong : false ≡ true = order refl in cc)
split-table false true s None [] [] order has = ap₂ Maybe (omega (arith, ints, clamps)) (omega (arith, ints, clamps))
split-table false true s None [] (t ∷ must) order has = (let none : t ∷ must ≡ [] = has refl in cc)
split-table false true s None (c ∷ can) [] order has = ap₂ Maybe (omega (arith, ints, clamps)) (omega (arith, ints, clamps))
split-table false true s None (c ∷ can) (t ∷ must) order has = ap₂ Sure (omega (arith, ints, clamps)) (omega (arith, ints, clamps))
split-table false true s (Some e) [] [] order has = ap₂ Sure (omega (arith, ints, clamps)) (omega (arith, ints, clamps))
split-table false true s (Some e) [] (t ∷ must) order has = (let none : t ∷ must ≡ [] = has refl in cc)
split-table false true s (Some e) (c ∷ can) [] order has = ap₂ Sure (omega (arith, ints, clamps)) (omega (arith, ints, clamps))
split-table false true s (Some e) (c ∷ can) (t ∷ must) order has = ap₂ Sure (omega (arith, ints, clamps)) (omega (arith, ints, clamps))
split-table true true s None [] [] order has = ap₂ Sure (omega (arith, ints, clamps)) (omega (arith, ints, clamps))
split-table true true s None [] (t ∷ must) order has = (let none : t ∷ must ≡ [] = has refl in cc)
split-table true true s None (c ∷ can) [] order has = ap₂ Sure (omega (arith, ints, clamps)) (omega (arith, ints, clamps))
split-table true true s None (c ∷ can) (t ∷ must) order has = ap₂ Sure (omega (arith, ints, clamps)) (omega (arith, ints, clamps))
split-table true true s (Some e) [] [] order has = ap₂ Sure (omega (arith, ints, clamps)) (omega (arith, ints, clamps))
split-table true true s (Some e) [] (t ∷ must) order has = (let none : t ∷ must ≡ [] = has refl in cc)
split-table true true s (Some e) (c ∷ can) [] order has = ap₂ Sure (omega (arith, ints, clamps)) (omega (arith, ints, clamps))
split-table true true s (Some e) (c ∷ can) (t ∷ must) order has = ap₂ Sure (omega (arith, ints, clamps)) (omega (arith, ints, clamps))

module _ (ls : List Landmark) (p q : ℕ) where
  abbrev F : Window → SplitFigures
  F = split_figures (is_free ls) p q

  abbrev window_greatest : Window → Extreme
  window_greatest = of_window Nothing greater_of IsExtremeWithin greatest-put whole_greatest split_extreme one_greatest ls p q

  abbrev mark_greatest : Point → Extreme
  mark_greatest = of_mark Nothing greater_of IsExtremeWithin greatest-put whole_greatest split_extreme one_greatest p q

  -- the table of these values and windows
  abbrev table : List ℤ → List SplitFigures → Extreme
  table values ss = max_table (greatest_in values) (filter can_hold ss) (filter must_hold ss)

  -- the max of each window
  abbrev values_of : List Window → List ℤ
  values_of ws = map (λ (v : Window). v.summary.max) ws

  greatest-next : (a c : Bool) (w : Window) (wholes rest : List Window) (marks : List ℤ) → AllStand ls (w ∷ [])
      → (filter can_hold (map F rest) ≡ [] → filter must_hold (map F rest) ≡ [])
      → table (values_of (if a then w ∷ wholes else wholes) ++ marks) (map F (if not a && not c then w ∷ rest else rest))
      ≡ greater_of (pick a (not a && not c) (whole_greatest w) (split_extreme (F w)) Nothing) (table (values_of wholes ++ marks) (map F rest))
  greatest-next true c w wholes rest marks stand has =
      let known = values_of wholes ++ marks in
      ap (λ e. max_table e (filter can_hold (map F rest)) (filter must_hold (map F rest))) (choice_in-cons int_max w.summary.max known)
      ∙ whole-table w.summary.max (greatest_in known) (filter can_hold (map F rest)) (filter must_hold (map F rest)) has
  greatest-next false true w wholes rest marks stand has = refl
  greatest-next false false w wholes rest marks stand has =
      let known = values_of wholes ++ marks in
      split-table (must_hold (F w)) (can_hold (F w)) (F w) (greatest_in known) (filter can_hold (map F rest)) (filter must_hold (map F rest))
      (order-of ls p q w stand) has

  -- the values of landmarks alone
  greatest-mark : (b : Bool) (v : Point) (rest : List Point) → table (values_alone (if b then v ∷ rest else rest)) []
      ≡ greater_of (if b then one_greatest v.1 else Nothing) (table (values_alone rest) [])
  greatest-mark true v rest =
      ap (λ e. max_table e [] []) (choice_in-cons int_max v.1 (values_alone rest))
      ∙ whole-table v.1 (greatest_in (values_alone rest)) [] [] (λ none. refl)
  greatest-mark false v rest = refl

  greatest-marks : (marked : List Point) → table (asked p q marked) [] ≡ together Nothing greater_of (map mark_greatest marked)
  greatest-marks [] = refl
  greatest-marks (v ∷ marked) =
      greatest-mark (lies_in p q v.0) v (filter (λ z. lies_in p q z.0) marked) ∙ ap (greater_of (mark_greatest v)) (greatest-marks marked)

  pub interval_of_greatest-parts : (ws : List Window) (marked : List Point) → AllStand ls ws → interval_of_greatest (is_free ls) p q ws marked
      ≡ of_range Nothing greater_of IsExtremeWithin greatest-put whole_greatest split_extreme one_greatest ls ws marked p q
  interval_of_greatest-parts [] marked stand = greatest-marks marked
  interval_of_greatest-parts (w ∷ ws) marked stand =
      greatest-next (is_whole p q w) (is_apart p q w) w (whole_windows p q ws) (filter (is_split p q) ws) (asked p q marked) (stand.0, tt)
      (has-all ls p q ws stand.1)
      ∙ ap (greater_of (window_greatest w)) (interval_of_greatest-parts ws marked stand.1)
      ∙ sym (greatest-assoc (window_greatest w) (together Nothing greater_of (map window_greatest ws)) (together Nothing greater_of (map mark_greatest marked)))

-- all of them are what they say together
pub greatest_of_all-together : (all : List Extreme) → together Nothing greater_of all ≡ greatest_of_all all
greatest_of_all-together [] = refl
greatest_of_all-together (e ∷ all) = ap (greater_of e) (greatest_of_all-together all)
