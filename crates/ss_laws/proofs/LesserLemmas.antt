-- The least values of ranges side by side: that of a range lies within what theirs say together.
use Rattle.std.specs.Prelude.{◌≡◌, ℕ, ◌+◌, Bool, true, false, ◌&&◌, not, ℤ, ◌≤ℤ◌, List, [], ◌∷◌, ◌++◌, map, if◌then◌else◌}
use Rattle.std.specs.Prelude.{Option, None, Some}
use Rattle.std.specs.Int.{int_min}
use Rattle.std.specs.List.{filter}
use Rattle.std.proofs.Common.{ap, ap₂, arith, refl, sym, ◌∙◌}
use Rattle.std.proofs.lemmas.Bool.{false≢true}
use Rattle.std.proofs.lemmas.Int.{ints, clamps}
use Rattle.ss_bounds.proofs.ChoiceLemmas.{choice_in-cons}
use Rattle.ss_bounds.specs.declared.extreme.Extreme.{Extreme}
use Rattle.ss_bounds.specs.declared.extreme.Extreme.TheVariants.{Nothing, Sure, Maybe}
use Rattle.ss_bounds.specs.Either.{either, least_in}
use Rattle.ss_bounds.specs.Extremes.{can_hold, min_table, must_hold}
use Rattle.ss_bounds.specs.Several.{least_of_all, lesser_of}
use Rattle.ss_bounds.specs.Split.{SplitFigures, greatest_count, least_count}
use Rattle.ss_bounds.specs.Times.{lies_in}
use Rattle.ss_bounds.specs.Truth.{asked, values_alone}
use Rattle.ss_landmarks.specs.Free.{is_free}
use Rattle.ss_landmarks.specs.Landmark.{Landmark}
use Rattle.ss_model.specs.Interval.{interval_of_least, is_apart, is_split, is_whole, split_figures, whole_windows}
use Rattle.ss_model.specs.declared.types.Window.{Window}
use Rattle.ss_summary.specs.Points.{Point}
use Rattle.ss_laws.specs.Parts.{IsExtremeWithin}
use Rattle.ss_laws.proofs.FigureLemmas.{greatest_count-adds, least_count-adds}
use Rattle.ss_laws.proofs.PartLemmas.{AllStand, SplitsFurther, of_mark, of_range, of_window, pick}
use Rattle.ss_laws.proofs.ExtremeLemmas.{has-all, order-of, some-either, some-more, split_extreme, split_known, within-follows}
use Rattle.ss_laws.proofs.ExtremeLemmas.{within-same}
use Rattle.ss_laws.proofs.SideLemmas.{figures_of}
use Rattle.ss_laws.proofs.Together.{PutsTogether, together}

-- the order in which they are put together has no effect
least-comm : (x y : Extreme) → lesser_of x y ≡ lesser_of y x
least-comm Nothing Nothing = refl
least-comm Nothing (Sure a2 b2) = refl
least-comm Nothing (Maybe a2 b2) = refl
least-comm (Sure a1 b1) Nothing = refl
least-comm (Sure a1 b1) (Sure a2 b2) = ap₂ Sure (omega (arith, ints, clamps)) (omega (arith, ints, clamps))
least-comm (Sure a1 b1) (Maybe a2 b2) = ap₂ Sure (omega (arith, ints, clamps)) (omega (arith, ints, clamps))
least-comm (Maybe a1 b1) Nothing = refl
least-comm (Maybe a1 b1) (Sure a2 b2) = ap₂ Sure (omega (arith, ints, clamps)) (omega (arith, ints, clamps))
least-comm (Maybe a1 b1) (Maybe a2 b2) = ap₂ Maybe (omega (arith, ints, clamps)) (omega (arith, ints, clamps))

least-assoc : (x y z : Extreme) → lesser_of (lesser_of x y) z ≡ lesser_of x (lesser_of y z)
least-assoc Nothing y z = refl
least-assoc (Sure a1 b1) Nothing z = refl
least-assoc (Sure a1 b1) (Sure a2 b2) Nothing = refl
least-assoc (Sure a1 b1) (Sure a2 b2) (Sure a3 b3) = ap₂ Sure (omega (arith, ints, clamps)) (omega (arith, ints, clamps))
least-assoc (Sure a1 b1) (Sure a2 b2) (Maybe a3 b3) = ap₂ Sure (omega (arith, ints, clamps)) (omega (arith, ints, clamps))
least-assoc (Sure a1 b1) (Maybe a2 b2) Nothing = refl
least-assoc (Sure a1 b1) (Maybe a2 b2) (Sure a3 b3) = ap₂ Sure (omega (arith, ints, clamps)) (omega (arith, ints, clamps))
least-assoc (Sure a1 b1) (Maybe a2 b2) (Maybe a3 b3) = ap₂ Sure (omega (arith, ints, clamps)) (omega (arith, ints, clamps))
least-assoc (Maybe a1 b1) Nothing z = refl
least-assoc (Maybe a1 b1) (Sure a2 b2) Nothing = refl
least-assoc (Maybe a1 b1) (Sure a2 b2) (Sure a3 b3) = ap₂ Sure (omega (arith, ints, clamps)) (omega (arith, ints, clamps))
least-assoc (Maybe a1 b1) (Sure a2 b2) (Maybe a3 b3) = ap₂ Sure (omega (arith, ints, clamps)) (omega (arith, ints, clamps))
least-assoc (Maybe a1 b1) (Maybe a2 b2) Nothing = refl
least-assoc (Maybe a1 b1) (Maybe a2 b2) (Sure a3 b3) = ap₂ Sure (omega (arith, ints, clamps)) (omega (arith, ints, clamps))
least-assoc (Maybe a1 b1) (Maybe a2 b2) (Maybe a3 b3) = ap₂ Maybe (omega (arith, ints, clamps)) (omega (arith, ints, clamps))

least-swap : (x y z v : Extreme) → lesser_of (lesser_of x y) (lesser_of z v) ≡ lesser_of (lesser_of x z) (lesser_of y v)
least-swap x y z v =
    least-assoc x y (lesser_of z v)
    ∙ ap (lesser_of x) (sym (least-assoc y z v) ∙ ap (λ e. lesser_of e v) (least-comm y z) ∙ least-assoc z y v)
    ∙ sym (least-assoc x z (lesser_of y v))

least-right : (x : Extreme) → lesser_of x Nothing ≡ x
least-right Nothing = refl
least-right (Sure a b) = refl
least-right (Maybe a b) = refl

within-joined : (x y v w : Extreme) → IsExtremeWithin x v → IsExtremeWithin y w → IsExtremeWithin (lesser_of x y) (lesser_of v w)
within-joined Nothing y Nothing w one two = two
within-joined Nothing y (Sure a3 b3) w one two = absurd one
within-joined Nothing y (Maybe a3 b3) w one two = absurd one
within-joined (Sure a1 b1) y Nothing w one two = absurd one
within-joined (Sure a1 b1) Nothing (Sure a3 b3) Nothing one two = one
within-joined (Sure a1 b1) Nothing (Sure a3 b3) (Sure a4 b4) one two = absurd two
within-joined (Sure a1 b1) Nothing (Sure a3 b3) (Maybe a4 b4) one two = absurd two
within-joined (Sure a1 b1) (Sure a2 b2) (Sure a3 b3) Nothing one two = absurd two
within-joined (Sure a1 b1) (Sure a2 b2) (Sure a3 b3) (Sure a4 b4) one two = (omega (arith, ints, clamps, one, two), omega (arith, ints, clamps, one, two))
within-joined (Sure a1 b1) (Sure a2 b2) (Sure a3 b3) (Maybe a4 b4) one two = (omega (arith, ints, clamps, one, two), omega (arith, ints, clamps, one, two))
within-joined (Sure a1 b1) (Maybe a2 b2) (Sure a3 b3) Nothing one two = absurd two
within-joined (Sure a1 b1) (Maybe a2 b2) (Sure a3 b3) (Sure a4 b4) one two = absurd two
within-joined (Sure a1 b1) (Maybe a2 b2) (Sure a3 b3) (Maybe a4 b4) one two = (omega (arith, ints, clamps, one, two), omega (arith, ints, clamps, one, two))
within-joined (Sure a1 b1) Nothing (Maybe a3 b3) Nothing one two = one
within-joined (Sure a1 b1) Nothing (Maybe a3 b3) (Sure a4 b4) one two = absurd two
within-joined (Sure a1 b1) Nothing (Maybe a3 b3) (Maybe a4 b4) one two = absurd two
within-joined (Sure a1 b1) (Sure a2 b2) (Maybe a3 b3) Nothing one two = absurd two
within-joined (Sure a1 b1) (Sure a2 b2) (Maybe a3 b3) (Sure a4 b4) one two = (omega (arith, ints, clamps, one, two), omega (arith, ints, clamps, one, two))
within-joined (Sure a1 b1) (Sure a2 b2) (Maybe a3 b3) (Maybe a4 b4) one two = (omega (arith, ints, clamps, one, two), omega (arith, ints, clamps, one, two))
within-joined (Sure a1 b1) (Maybe a2 b2) (Maybe a3 b3) Nothing one two = absurd two
within-joined (Sure a1 b1) (Maybe a2 b2) (Maybe a3 b3) (Sure a4 b4) one two = absurd two
within-joined (Sure a1 b1) (Maybe a2 b2) (Maybe a3 b3) (Maybe a4 b4) one two = (omega (arith, ints, clamps, one, two), omega (arith, ints, clamps, one, two))
within-joined (Maybe a1 b1) y Nothing w one two = absurd one
within-joined (Maybe a1 b1) y (Sure a3 b3) w one two = absurd one
within-joined (Maybe a1 b1) Nothing (Maybe a3 b3) Nothing one two = one
within-joined (Maybe a1 b1) Nothing (Maybe a3 b3) (Sure a4 b4) one two = absurd two
within-joined (Maybe a1 b1) Nothing (Maybe a3 b3) (Maybe a4 b4) one two = absurd two
within-joined (Maybe a1 b1) (Sure a2 b2) (Maybe a3 b3) Nothing one two = absurd two
within-joined (Maybe a1 b1) (Sure a2 b2) (Maybe a3 b3) (Sure a4 b4) one two = (omega (arith, ints, clamps, one, two), omega (arith, ints, clamps, one, two))
within-joined (Maybe a1 b1) (Sure a2 b2) (Maybe a3 b3) (Maybe a4 b4) one two = (omega (arith, ints, clamps, one, two), omega (arith, ints, clamps, one, two))
within-joined (Maybe a1 b1) (Maybe a2 b2) (Maybe a3 b3) Nothing one two = absurd two
within-joined (Maybe a1 b1) (Maybe a2 b2) (Maybe a3 b3) (Sure a4 b4) one two = absurd two
within-joined (Maybe a1 b1) (Maybe a2 b2) (Maybe a3 b3) (Maybe a4 b4) one two = (omega (arith, ints, clamps, one, two), omega (arith, ints, clamps, one, two))

pub least-put : PutsTogether Nothing lesser_of IsExtremeWithin
least-put = record {
  left = λ x. refl;
  right = least-right;
  swap = least-swap;
  same = within-same;
  follows = within-follows;
  joined = within-joined;
}

abbrev pub whole_least : Window → Extreme
whole_least w = Sure w.summary.min w.summary.min

abbrev pub one_least : ℤ → Extreme
one_least v = Sure v v

split-split : (m M : ℤ) (a b a' b' a'' b'' : Bool) → m ≤ℤ M → (a' ≡ true → a ≡ true) → (a'' ≡ true → a ≡ true) → (a ≡ true → b ≡ true)
    → (b' ≡ true → b ≡ true) → (b'' ≡ true → b ≡ true) → (b ≡ true → b' ≡ false → b'' ≡ true)
    → IsExtremeWithin (split_known m M a b) (lesser_of (split_known m M a' b') (split_known m M a'' b''))
split-split m M true b true b' true b'' order must must' both can can' some = (omega (arith, ints, clamps), omega (arith, ints, clamps))
split-split m M true b true b' false true order must must' both can can' some = (omega (arith, ints, clamps), omega (arith, ints, clamps))
split-split m M true b true b' false false order must must' both can can' some = (omega (arith, ints, clamps), omega (arith, ints, clamps))
split-split m M true b false true true b'' order must must' both can can' some = (omega (arith, ints, clamps), omega (arith, ints, clamps))
split-split m M true b false true false true order must must' both can can' some = (omega (arith, ints, clamps), omega (arith, ints, clamps))
split-split m M true b false true false false order must must' both can can' some = (omega (arith, ints, clamps), omega (arith, ints, clamps))
split-split m M true b false false true b'' order must must' both can can' some = (omega (arith, ints, clamps), omega (arith, ints, clamps))
split-split m M true b false false false true order must must' both can can' some = (omega (arith, ints, clamps), omega (arith, ints, clamps))
split-split m M true b false false false false order must must' both can can' some = absurd (false≢true (some (both refl) refl))
split-split m M false true true b' true b'' order must must' both can can' some = absurd (false≢true (must refl))
split-split m M false true true b' false true order must must' both can can' some = absurd (false≢true (must refl))
split-split m M false true true b' false false order must must' both can can' some = absurd (false≢true (must refl))
split-split m M false true false true true b'' order must must' both can can' some = absurd (false≢true (must' refl))
split-split m M false true false true false true order must must' both can can' some = (omega (arith, ints, clamps), omega (arith, ints, clamps))
split-split m M false true false true false false order must must' both can can' some = (omega (arith, ints, clamps), omega (arith, ints, clamps))
split-split m M false true false false true b'' order must must' both can can' some = absurd (false≢true (must' refl))
split-split m M false true false false false true order must must' both can can' some = (omega (arith, ints, clamps), omega (arith, ints, clamps))
split-split m M false true false false false false order must must' both can can' some = absurd (false≢true (some refl refl))
split-split m M false false true b' true b'' order must must' both can can' some = absurd (false≢true (must refl))
split-split m M false false true b' false true order must must' both can can' some = absurd (false≢true (must refl))
split-split m M false false true b' false false order must must' both can can' some = absurd (false≢true (must refl))
split-split m M false false false true true b'' order must must' both can can' some = absurd (false≢true (must' refl))
split-split m M false false false true false true order must must' both can can' some = absurd (false≢true (can refl))
split-split m M false false false true false false order must must' both can can' some = absurd (false≢true (can refl))
split-split m M false false false false true b'' order must must' both can can' some = absurd (false≢true (must' refl))
split-split m M false false false false false true order must must' both can can' some = absurd (false≢true (can' refl))
split-split m M false false false false false false order must must' both can can' some = tt

split-whole : (m M : ℤ) (a' b' a'' b'' : Bool) → m ≤ℤ M → (a' ≡ true → b' ≡ true) → (b' ≡ false → b'' ≡ true)
    → IsExtremeWithin (Sure m m) (lesser_of (split_known m M a' b') (split_known m M a'' b''))
split-whole m M true b' true b'' order both some = (omega (arith, ints, clamps), omega (arith, ints, clamps))
split-whole m M true b' false true order both some = (omega (arith, ints, clamps), omega (arith, ints, clamps))
split-whole m M true b' false false order both some = (omega (arith, ints, clamps), omega (arith, ints, clamps))
split-whole m M false true true b'' order both some = (omega (arith, ints, clamps), omega (arith, ints, clamps))
split-whole m M false true false true order both some = (omega (arith, ints, clamps), omega (arith, ints, clamps))
split-whole m M false true false false order both some = (omega (arith, ints, clamps), omega (arith, ints, clamps))
split-whole m M false false true b'' order both some = (omega (arith, ints, clamps), omega (arith, ints, clamps))
split-whole m M false false false true order both some = (omega (arith, ints, clamps), omega (arith, ints, clamps))
split-whole m M false false false false order both some = absurd (false≢true (some refl))

pub least-further : SplitsFurther Nothing lesser_of IsExtremeWithin least-put whole_least split_extreme one_least
least-further = record {
  of_split = λ w ea eb ia ib o values ends room.
      let s = figures_of w (ea + eb) (ia + ib) o in
      let a = figures_of w ea ia (o + ib) in
      let b = figures_of w eb ib (o + ia) in
      let fewer = least_count-adds _ _ _ _ values ea eb ia ib o ends room in
      split-split s.min s.max (must_hold s) (can_hold s) (must_hold a) (can_hold a) (must_hold b) (can_hold b) values.order
      (some-more (least_count a) (least_count s) (omega (arith, fewer))) (some-more (least_count b) (least_count s) (omega (arith, fewer)))
      (some-more (least_count s) (greatest_count s) (omega (arith, room)))
      (some-more (greatest_count a) (greatest_count s) (omega arith)) (some-more (greatest_count b) (greatest_count s) (omega arith))
      (some-either (greatest_count s) (greatest_count a) (greatest_count b) (greatest_count-adds _ _ _ _ values ea eb ia ib o ends room));
  of_whole = λ w ea eb ia ib o values room both none.
      let a = figures_of w ea ia (o + ib) in
      let b = figures_of w eb ib (o + ia) in
      split-whole w.summary.min w.summary.max (must_hold a) (can_hold a) (must_hold b) (can_hold b) values.order
      (some-more (least_count a) (greatest_count a) (omega (arith, room)))
      (some-either 1 (greatest_count a) (greatest_count b) (omega (arith, room, both)) refl);
}

-- the tables, with one more value that is known, and with one more window
whole-table : (v : ℤ) (e : Option ℤ) (can must : List SplitFigures) → (can ≡ [] → must ≡ [])
    → min_table (either int_min (Some v) e) can must ≡ lesser_of (Sure v v) (min_table e can must)
whole-table v None [] [] has = refl
whole-table v None [] (t ∷ must) has = (let none : t ∷ must ≡ [] = has refl in cc)
whole-table v None (s ∷ can) [] has = refl
whole-table v None (s ∷ can) (t ∷ must) has = refl
whole-table v (Some e) [] [] has = refl
whole-table v (Some e) [] (t ∷ must) has = (let none : t ∷ must ≡ [] = has refl in cc)
whole-table v (Some e) (s ∷ can) [] has = ap₂ Sure (omega (arith, ints, clamps)) (omega (arith, ints, clamps))
whole-table v (Some e) (s ∷ can) (t ∷ must) has = ap₂ Sure (omega (arith, ints, clamps)) (omega (arith, ints, clamps))

split-table : (x y : Bool) (s : SplitFigures) (e : Option ℤ) (can must : List SplitFigures) → (x ≡ true → y ≡ true) → (can ≡ [] → must ≡ [])
    → min_table e (if y then s ∷ can else can) (if x then s ∷ must else must)
    ≡ lesser_of (pick x y (Sure s.min s.max) (Maybe s.min s.max) Nothing) (min_table e can must)
split-table false false s e can must order has = refl
split-table true false s e can must order has = (let wrong : false ≡ true = order refl in cc)
split-table false true s None [] [] order has = ap₂ Maybe (omega (arith, ints, clamps)) (omega (arith, ints, clamps))
split-table false true s None [] (t ∷ must) order has = (let none : t ∷ must ≡ [] = has refl in cc)
split-table false true s None (c ∷ can) [] order has = ap₂ Maybe (omega (arith, ints, clamps)) (omega (arith, ints, clamps))
split-table false true s None (c ∷ can) (t ∷ must) order has = ap₂ Sure (omega (arith, ints, clamps)) (omega (arith, ints, clamps))
split-table false true s (Some e) [] [] order has = ap₂ Sure (omega (arith, ints, clamps)) (omega (arith, ints, clamps))
split-table false true s (Some e) [] (t ∷ must) order has = (let none : t ∷ must ≡ [] = has refl in cc)
split-table false true s (Some e) (c ∷ can) [] order has = ap₂ Sure (omega (arith, ints, clamps)) (omega (arith, ints, clamps))
split-table false true s (Some e) (c ∷ can) (t ∷ must) order has = ap₂ Sure (omega (arith, ints, clamps)) (omega (arith, ints, clamps))
split-table true true s None [] [] order has = ap₂ Sure (omega (arith, ints, clamps)) (omega (arith, ints, clamps))
split-table true true s None [] (t ∷ must) order has = (let none : t ∷ must ≡ [] = has refl in cc)
split-table true true s None (c ∷ can) [] order has = ap₂ Sure (omega (arith, ints, clamps)) (omega (arith, ints, clamps))
split-table true true s None (c ∷ can) (t ∷ must) order has = ap₂ Sure (omega (arith, ints, clamps)) (omega (arith, ints, clamps))
split-table true true s (Some e) [] [] order has = ap₂ Sure (omega (arith, ints, clamps)) (omega (arith, ints, clamps))
split-table true true s (Some e) [] (t ∷ must) order has = (let none : t ∷ must ≡ [] = has refl in cc)
split-table true true s (Some e) (c ∷ can) [] order has = ap₂ Sure (omega (arith, ints, clamps)) (omega (arith, ints, clamps))
split-table true true s (Some e) (c ∷ can) (t ∷ must) order has = ap₂ Sure (omega (arith, ints, clamps)) (omega (arith, ints, clamps))

module _ (ls : List Landmark) (p q : ℕ) where
  abbrev F : Window → SplitFigures
  F = split_figures (is_free ls) p q

  abbrev window_least : Window → Extreme
  window_least = of_window Nothing lesser_of IsExtremeWithin least-put whole_least split_extreme one_least ls p q

  abbrev mark_least : Point → Extreme
  mark_least = of_mark Nothing lesser_of IsExtremeWithin least-put whole_least split_extreme one_least p q

  -- the table of these values and windows
  abbrev table : List ℤ → List SplitFigures → Extreme
  table values ss = min_table (least_in values) (filter can_hold ss) (filter must_hold ss)

  -- the min of each window
  abbrev values_of : List Window → List ℤ
  values_of ws = map (λ (v : Window). v.summary.min) ws

  least-next : (a c : Bool) (w : Window) (wholes rest : List Window) (marks : List ℤ) → AllStand ls (w ∷ [])
      → (filter can_hold (map F rest) ≡ [] → filter must_hold (map F rest) ≡ [])
      → table (values_of (if a then w ∷ wholes else wholes) ++ marks) (map F (if not a && not c then w ∷ rest else rest))
      ≡ lesser_of (pick a (not a && not c) (whole_least w) (split_extreme (F w)) Nothing) (table (values_of wholes ++ marks) (map F rest))
  least-next true c w wholes rest marks stand has =
      let known = values_of wholes ++ marks in
      ap (λ e. min_table e (filter can_hold (map F rest)) (filter must_hold (map F rest))) (choice_in-cons int_min w.summary.min known)
      ∙ whole-table w.summary.min (least_in known) (filter can_hold (map F rest)) (filter must_hold (map F rest)) has
  least-next false true w wholes rest marks stand has = refl
  least-next false false w wholes rest marks stand has =
      let known = values_of wholes ++ marks in
      split-table (must_hold (F w)) (can_hold (F w)) (F w) (least_in known) (filter can_hold (map F rest)) (filter must_hold (map F rest))
      (order-of ls p q w stand) has

  -- the values of landmarks alone
  least-mark : (b : Bool) (v : Point) (rest : List Point) → table (values_alone (if b then v ∷ rest else rest)) []
      ≡ lesser_of (if b then one_least v.1 else Nothing) (table (values_alone rest) [])
  least-mark true v rest =
      ap (λ e. min_table e [] []) (choice_in-cons int_min v.1 (values_alone rest))
      ∙ whole-table v.1 (least_in (values_alone rest)) [] [] (λ none. refl)
  least-mark false v rest = refl

  least-marks : (marked : List Point) → table (asked p q marked) [] ≡ together Nothing lesser_of (map mark_least marked)
  least-marks [] = refl
  least-marks (v ∷ marked) =
      least-mark (lies_in p q v.0) v (filter (λ z. lies_in p q z.0) marked) ∙ ap (lesser_of (mark_least v)) (least-marks marked)

  pub interval_of_least-parts : (ws : List Window) (marked : List Point) → AllStand ls ws → interval_of_least (is_free ls) p q ws marked
      ≡ of_range Nothing lesser_of IsExtremeWithin least-put whole_least split_extreme one_least ls ws marked p q
  interval_of_least-parts [] marked stand = least-marks marked
  interval_of_least-parts (w ∷ ws) marked stand =
      least-next (is_whole p q w) (is_apart p q w) w (whole_windows p q ws) (filter (is_split p q) ws) (asked p q marked) (stand.0, tt)
      (has-all ls p q ws stand.1)
      ∙ ap (lesser_of (window_least w)) (interval_of_least-parts ws marked stand.1)
      ∙ sym (least-assoc (window_least w) (together Nothing lesser_of (map window_least ws)) (together Nothing lesser_of (map mark_least marked)))

-- all of them are what they say together
pub least_of_all-together : (all : List Extreme) → together Nothing lesser_of all ≡ least_of_all all
least_of_all-together [] = refl
least_of_all-together (e ∷ all) = ap (lesser_of e) (least_of_all-together all)
