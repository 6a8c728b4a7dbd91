-- Whether a value is there: the answer holds the truth, for windows that are of some values with their filters.
use Rattle.ss_model.proofs.Common.{◌⊎◌, ◌||◌, if◌then◌else◌, ℤ, ◌≤ℤ◌, IsTrue, Contains, int_min, int_max, filter, list_any, ap, arith, inl, inr, refl, sym}
use Rattle.ss_model.proofs.Common.{◌∙◌, subst, and_from, and_parts, cases_Bool, le-leb, ints, clamps, Figures, unfiltered, has, Point, summary_of, least}
use Rattle.ss_model.proofs.Common.{greatest, chosen, lies_in, asked, values_alone, asked-MayLieThere, HoldsPresence, is_split, is_whole, presence_of}
use Rattle.ss_model.proofs.Common.{split_figures, true_presence, RiseAtFree, Absent, Present, Maybe, Window}
use Rattle.std.specs.Prelude.{◌≡◌, ℕ, ◌≤◌, Bool, true, false, ◌&&◌, int_le}
use Rattle.std.specs.Prelude.{List, [], ◌∷◌, ◌++◌, get_or, length}
use Rattle.std.specs.Ordering.{int_eq}
use Rattle.std.proofs.lemmas.Bool.{or_cases, or_left, or_right}
use Rattle.std.proofs.lemmas.Bool.Decides.{Decides-int_eq}
use Rattle.std.proofs.Math.Bool.{or-true}
use Rattle.std.proofs.lemmas.List.{get_or_default}
use Rattle.std.proofs.lemmas.List.Folds.{Any-from_list_any, list_any-append, list_any_at}
use Rattle.ss_summary.proofs.FilterLemmas.{has-value}
use Rattle.ss_model.specs.Interval.{is_extreme, may_have, may_reach}
use Rattle.ss_model.specs.Truth.{is_one_of}
use Rattle.ss_model.proofs.AskedLemmas.{Asked, whole, apart, split, asked-of, asked-append, greatest-alone, least-alone}
use Rattle.ss_model.proofs.IntervalLemmas.{AreExactlyOf, over-windows}

-- the first of some values is one of them
first-one : (v : ℤ) (vs : List ℤ) → is_one_of v (v ∷ vs) ≡ true
first-one v vs = or_left (int_eq v v) (is_one_of v vs) ((Decides-int_eq v v).1 refl)

-- the lesser of two is one of them, and the greater too
min-either : (a b : ℤ) → (int_min a b ≡ a) ⊎ (int_min a b ≡ b)
min-either a b = elim (cases_Bool (int_le a b)) [
  | inl low ↦ inl (omega (arith, ints, clamps))
  | inr high ↦ inr (omega (arith, ints, clamps))
]

max-either : (a b : ℤ) → (int_max a b ≡ a) ⊎ (int_max a b ≡ b)
max-either a b = elim (cases_Bool (int_le a b)) [
  | inl low ↦ inr (omega (arith, ints, clamps))
  | inr high ↦ inl (omega (arith, ints, clamps))
]

-- so a choice from some values is one of them
module _ (choice : ℤ → ℤ → ℤ) (is_either : (a b : ℤ) → (choice a b ≡ a) ⊎ (choice a b ≡ b)) where
  chosen-one : (v : ℤ) (vs : List ℤ) → is_one_of (chosen choice v vs) (v ∷ vs) ≡ true
  chosen-one v [] = first-one v []
  chosen-one v (w ∷ ws) = elim (is_either v (chosen choice w ws)) [
    | inl here ↦ subst (λ z. is_one_of z (v ∷ w ∷ ws) ≡ true) (sym here) (first-one v (w ∷ ws))
    | inr later ↦ subst (λ z. is_one_of z (v ∷ w ∷ ws) ≡ true) (sym later)
        (or_right (int_eq v (chosen choice w ws)) (is_one_of (chosen choice w ws) (w ∷ ws)) (chosen-one w ws))
  ]

-- a value that is an end of some points is one of them
ends-one : (v : ℤ) (p : Point) (ps : List Point) → (int_eq (least p.1 ps) v || int_eq (greatest p.1 ps) v) ≡ true
    → is_one_of v (values_alone (p ∷ ps)) ≡ true
ends-one v p ps end = elim (or_cases (int_eq (least p.1 ps) v) (int_eq (greatest p.1 ps) v) end) [
  | inl low ↦ subst (λ z. is_one_of z (values_alone (p ∷ ps)) ≡ true)
      (sym (least-alone p.1 ps) ∙ (Decides-int_eq (least p.1 ps) v).0 low) (chosen-one int_min min-either p.1 (values_alone ps))
  | inr high ↦ subst (λ z. is_one_of z (values_alone (p ∷ ps)) ≡ true)
      (sym (greatest-alone p.1 ps) ∙ (Decides-int_eq (greatest p.1 ps) v).0 high) (chosen-one int_max max-either p.1 (values_alone ps))
]

-- a value of some points isn't less than their least or greater than their greatest
one-between : (v : ℤ) (p : Point) (ps : List Point) → is_one_of v (values_alone (p ∷ ps)) ≡ true → (least p.1 ps ≤ℤ v) × (v ≤ℤ greatest p.1 ps)
one-between v p [] there = elim (or_cases (int_eq p.1 v) false there) [
  | inl here ↦ (let is = (Decides-int_eq p.1 v).0 here in (omega (arith, ints), omega (arith, ints)))
  | inr none ↦ cc
]
one-between v p (q ∷ qs) there = elim (or_cases (int_eq p.1 v) (is_one_of v (values_alone (q ∷ qs))) there) [
  | inl here ↦ (let is = (Decides-int_eq p.1 v).0 here in (omega (arith, ints, clamps), omega (arith, ints, clamps)))
  | inr later ↦ (let rest = one-between v q qs later in (omega (arith, ints, clamps, rest.0), omega (arith, ints, clamps, rest.1)))
]

int_le-true : (a b : ℤ) → a ≤ℤ b → int_le a b ≡ true
int_le-true a b low = grind (arith, ints)

-- so a window of these points may have it
one-may : (v : ℤ) (p : Point) (ps : List Point) → is_one_of v (values_alone (p ∷ ps)) ≡ true → may_have v (summary_of (p ∷ ps)) ≡ true
one-may v p ps there =
    let ends = one-between v p ps there in
    let both = and_from (int_le (least p.1 ps) v) (int_le v (greatest p.1 ps)) (int_le-true _ _ ends.0) (int_le-true _ _ ends.1) in
    and_from (int_le (least p.1 ps) v && int_le v (greatest p.1 ps)) (has (summary_of (p ∷ ps)).filter v) both (has-value v p ps there)

-- a value that is asked for is one of all
module _ (v : ℤ) (from to : ℕ) where
  one-next : (p : Point) (in_them all : List Point) → (is_one_of v (values_alone in_them) ≡ true → is_one_of v (values_alone all) ≡ true)
      → (b : Bool) → is_one_of v (values_alone (if b then p ∷ in_them else in_them)) ≡ true → is_one_of v (values_alone (p ∷ all)) ≡ true
  one-next p in_them all rest true there = elim (or_cases (int_eq p.1 v) (is_one_of v (values_alone in_them)) there) [
    | inl here ↦ or_left (int_eq p.1 v) (is_one_of v (values_alone all)) here
    | inr later ↦ or_right (int_eq p.1 v) (is_one_of v (values_alone all)) (rest later)
  ]
  one-next p in_them all rest false there = or_right (int_eq p.1 v) (is_one_of v (values_alone all)) (rest there)

  one-asked : (ps : List Point) → is_one_of v (asked from to ps) ≡ true → is_one_of v (values_alone ps) ≡ true
  one-asked [] there = there
  one-asked (p ∷ ps) there = one-next p (filter (λ q. lies_in from to q.0) ps) ps (one-asked ps) (lies_in from to p.0) there

  one-append : (xs ys : List Point) → is_one_of v (asked from to (xs ++ ys)) ≡ (is_one_of v (asked from to xs) || is_one_of v (asked from to ys))
  one-append xs ys =
      ap (is_one_of v) (asked-append from to xs ys) ∙ list_any-append (λ value. int_eq value v) (asked from to xs) (asked from to ys)

-- where a value is one of some, they are some
some-one : (v : ℤ) (vs : List ℤ) → is_one_of v vs ≡ true → 1 ≤ length vs
some-one v [] there = (let wrong : false ≡ true = there in cc)
some-one v (w ∷ ws) there = omega arith

module _ (v : ℤ) (free : ℕ → Bool) (from to : ℕ) where
  -- a window may give a value that is asked for
  abbrev may_give : Window → Bool
  may_give w = may_reach free from to w && may_have v w.summary

  -- one window, of some points
  module _ (w : Window) (p : Point) (ps : List Point) (is : w.summary ≡ summary_of (p ∷ ps)) where
    not-whole : is_whole from to w ≡ false → is_extreme from to v w ≡ true → ⊥
    not-whole not_whole end =
        let parts = and_parts (is_whole from to w) (int_eq w.summary.min v || int_eq w.summary.max v) end in
        let wrong : false ≡ true = sym not_whole ∙ parts.0 in
        cc

    -- where it lies whole in the range, its ends are asked for
    extreme-asked : Asked free from to w p ps → is_extreme from to v w ≡ true → is_one_of v (asked from to (p ∷ ps)) ≡ true
    extreme-asked (whole is_in not_split all) end =
        let parts = and_parts (is_whole from to w) (int_eq w.summary.min v || int_eq w.summary.max v) end in
        let ends = subst (λ (f : Figures). (int_eq f.min v || int_eq f.max v) ≡ true) is parts.1 in
        subst (λ z. is_one_of v z ≡ true) (sym all) (ends-one v p ps ends)
    extreme-asked (apart not_whole not_split none) end = absurd (not-whole not_whole end)
    extreme-asked (split not_whole splits_it figures) end = absurd (not-whole not_whole end)

    -- where a value of it is asked for, it lies whole in the range or is split with room for one
    asked-reach : Asked free from to w p ps → is_one_of v (asked from to (p ∷ ps)) ≡ true → may_reach free from to w ≡ true
    asked-reach (whole is_in not_split all) there = or_left (is_whole from to w) _ is_in
    asked-reach (apart not_whole not_split none) there =
        let wrong : false ≡ true = subst (λ z. is_one_of v z ≡ true) none there in
        cc
    asked-reach (split not_whole splits_it figures) there =
        let some = some-one v (asked from to (p ∷ ps)) there in
        let may = asked-MayLieThere free from to p ps (split_figures free from to w) figures in
        or_right (is_whole from to w) _ (and_from (is_split from to w) _ splits_it (le-leb 1 _ (omega (arith, may.most))))

    asked-give : Asked free from to w p ps → is_one_of v (asked from to (p ∷ ps)) ≡ true → may_give w ≡ true
    asked-give lies there =
        and_from (may_reach free from to w) (may_have v w.summary) (asked-reach lies there)
        (subst (λ (f : Figures). may_have v f ≡ true) (sym is) (one-may v p ps (one-asked v from to (p ∷ ps) there)))

  -- what windows tell of whether the value is one of those asked for
  record Tell (ws : List Window) (values : List Point) : Type 0 where
    sure : list_any (is_extreme from to v) ws ≡ true → is_one_of v (asked from to values) ≡ true
    some : is_one_of v (asked from to values) ≡ true → list_any may_give ws ≡ true

  tell-next : (w : Window) (ws : List Window) (p : Point) (ps rest : List Point) → w.summary ≡ summary_of (p ∷ ps)
      → RiseAtFree free p.0 (p ∷ ps) → Tell ws rest → Tell (w ∷ ws) ((p ∷ ps) ++ rest)
  tell-next w ws p ps rest is rising later =
      let lies = asked-of free from to w p ps (ap unfiltered is) rising in
      let here = is_one_of v (asked from to (p ∷ ps)) in
      let behind = is_one_of v (asked from to rest) in
      let parts = one-append v from to (p ∷ ps) rest in
      record {
        sure = λ end. parts ∙ (elim (or_cases (is_extreme from to v w) (list_any (is_extreme from to v) ws) end) [
          | inl first ↦ or_left here behind (extreme-asked w p ps is lies first)
          | inr others ↦ or_right here behind (later.sure others)
        ]);
        some = λ there. elim (or_cases here behind (sym parts ∙ there)) [
          | inl first ↦ or_left (may_give w) (list_any may_give ws) (asked-give w p ps is lies first)
          | inr others ↦ or_right (may_give w) (list_any may_give ws) (later.some others)
        ];
      }

  tell-all : (ws : List Window) (values : List Point) (start : ℕ) → AreExactlyOf ws values → RiseAtFree free start values → Tell ws values
  tell-all = over-windows free (λ f g. f ≡ g) Tell (record { sure = λ end. end; some = λ there. there }) tell-next

-- a value is one of some exactly where they contain it
module _ (v : ℤ) (values : List ℤ) where
  pub Contains-is_one_of : IsTrue (is_one_of v values) → Contains values v
  Contains-is_one_of among =
      let (k, value, below, is, same) = Any-from_list_any (λ value. int_eq value v) values among in
      (k, below, get_or_default values k v value below ∙ is ∙ (Decides-int_eq value v).0 same)

  pub is_one_of-Contains : Contains values v → IsTrue (is_one_of v values)
  is_one_of-Contains (k, below, is) = list_any_at (λ value. int_eq value v) values k v below ((Decides-int_eq (get_or values k v) v).1 is)

-- the answer is true where landmarks have the value or not, some window has it as an end, some window may give it, and some value
-- outside landmarks is it, each as it may be
table-holds : (in_landmark sure some plain : Bool) → (sure ≡ true → plain ≡ true) → (plain ≡ true → some ≡ true)
    → HoldsPresence (if in_landmark || sure then Present else if some then Maybe else Absent) (plain || in_landmark)
table-holds true sure some plain is_sure is_some = or-true plain
table-holds false true some plain is_sure is_some = or_left plain false (is_sure refl)
table-holds false false true plain is_sure is_some = tt
table-holds false false false true is_sure is_some = sym (is_some refl)
table-holds false false false false is_sure is_some = refl

-- the answer holds the truth
pub presence-holds : (v : ℤ) (free : ℕ → Bool) (from to : ℕ) (ws : List Window) (plain marked : List Point) (start : ℕ) → AreExactlyOf ws plain
    → RiseAtFree free start plain → HoldsPresence (presence_of v free from to ws marked) (true_presence v from to plain marked)
presence-holds v free from to ws plain marked start of rising =
    let tell = tell-all v free from to ws plain start of rising in
    subst (λ z. HoldsPresence (presence_of v free from to ws marked) z)
    (sym (list_any-append (λ value. int_eq value v) (asked from to plain) (asked from to marked)))
    (table-holds (is_one_of v (asked from to marked)) (list_any (is_extreme from to v) ws) (list_any (may_give v free from to) ws)
    (is_one_of v (asked from to plain)) tell.sure tell.some)
