-- Entries whose keys ascend: each key has one place.
use Rattle.std.proofs.Common.{◌≡◌, ◌≢◌, ◌∙◌, sym, ap, refl, ℕ, ◌<◌, ◌≤◌, true, false, cond, not, ◌&&◌, List, [], ◌∷◌, ◌++◌, All, None, Some, arith, inl, inr}
use Rattle.std.proofs.lemmas.Bool.{cases_lt, cases_eq}
use Rattle.std.proofs.lemmas.Cmp.{ranked}
use Rattle.std.proofs.lemmas.List.Elements.{All-cons, All-head, All-nil, All-tail}
use Rattle.std.proofs.lemmas.Map.Keys.{sorted_head, sorted_tail}
use Rattle.std.specs.BTreeMap.{insert_entry, is_at}
use Rattle.std.specs.BTreeMap.Range.{entries_between}
use Rattle.std.specs.Cmp.{nat_cmp_is}
use Rattle.std.specs.List.{AllByRecursion}
use Rattle.std.specs.List.Sorted.{IsStrictlySortedBy}
use Rattle.std.specs.Map.{keys_of, lookup, remove_entry, set_value}
use Rattle.std.specs.Ordering.{is_eq, is_lt, match_ordering, nat_cmp}
use Rattle.std.specs.declared.cmp.Ordering.TheVariants.{Less, Equal, Greater}
use Rattle.std.specs.declared.ops.Bound.TheVariants.{Included, Unbounded}
use Rattle.ss_line.specs.declared.entry.At.{At}
use Rattle.ss_schedule.specs.Times.{IsLastBy}

equal : (t : ℕ) → nat_cmp t t ≡ Equal
equal t = sym (nat_cmp_is t t Equal refl)

differs : (t k : ℕ) → k ≢ t → is_at (nat_cmp t) k ≡ false
differs t k differ =
    elim (cases_lt t k) [
      | inl lt ↦ ap is_eq (sym (nat_cmp_is t k Less lt))
      | inr le ↦ ap is_eq (sym (nat_cmp_is t k Greater (omega (arith, le, differ))))
    ]

later_keys : (t k : ℕ) (ks : List ℕ) → t < k → AllByRecursion (λ y. nat_cmp k y ≡ Less) ks → AllByRecursion (λ y. t < y) ks
later_keys t k [] lt all = tt
later_keys t k (y ∷ ks) lt all = let less : k < y = ranked k y Less (sym all.0) in (omega (arith, lt, less), later_keys t k ks lt all.1)

module _ {X : Type 0} where
  -- the keys ascend
  abbrev pub Ascend : List (ℕ × X) → Type 0
  Ascend es = IsStrictlySortedBy nat_cmp (keys_of es)

  passes : (P : ℕ → Type 0) (before : List (ℕ × X)) (t : ℕ) (was : X) (behind : List (ℕ × X)) →
      AllByRecursion P (keys_of (before ++ (t, was) ∷ behind)) → P t
  passes P [] t was behind all = all.0
  passes P (b ∷ before) t was behind all = passes P before t was behind all.1

  greater : (b : ℕ × X) (before : List (ℕ × X)) (t : ℕ) (was : X) (behind : List (ℕ × X)) → Ascend (b ∷ before ++ (t, was) ∷ behind) →
      nat_cmp t b.0 ≡ Greater
  greater b before t was behind ascend =
      let less = passes (λ k. nat_cmp b.0 k ≡ Less) before t was behind (sorted_head nat_cmp b.0 (keys_of (before ++ (t, was) ∷ behind)) ascend) in
      sym (nat_cmp_is t b.0 Greater (ranked b.0 t Less (sym less)))

  -- an entry with a key above all
  pub insert_entry-last : (es : List (ℕ × X)) (t : ℕ) (v : X) → All (λ e. e.0 < t) es → insert_entry nat_cmp es t v ≡ es ++ (t, v) ∷ []
  insert_entry-last [] t v all = refl
  insert_entry-last (e ∷ es) t v all =
      let above = sym (nat_cmp_is t e.0 Greater (All-head (λ e. e.0 < t) e es all)) in
      ap (λ o. match_ordering o ((t, v) ∷ e ∷ es) ((e.0, v) ∷ es) (e ∷ insert_entry nat_cmp es t v)) above ∙
      ap (λ fs. e ∷ fs) (insert_entry-last es t v (All-tail (λ e. e.0 < t) e es all))

  -- another value for a key that is there
  pub set_value-there : (before : List (ℕ × X)) (t : ℕ) (was v : X) (behind : List (ℕ × X)) → Ascend (before ++ (t, was) ∷ behind) →
      set_value (is_at (nat_cmp t)) (before ++ (t, was) ∷ behind) v ≡ before ++ (t, v) ∷ behind
  set_value-there [] t was v behind ascend =
      ap (λ o. cond (is_eq o) ((t, v) ∷ behind) ((t, was) ∷ set_value (is_at (nat_cmp t)) behind v)) (equal t)
  set_value-there (b ∷ before) t was v behind ascend =
      let es = before ++ (t, was) ∷ behind in
      let later = sorted_tail nat_cmp b.0 (keys_of es) ascend in
      ap (λ o. cond (is_eq o) ((b.0, v) ∷ es) (b ∷ set_value (is_at (nat_cmp t)) es v)) (greater b before t was behind ascend) ∙
      ap (λ fs. b ∷ fs) (set_value-there before t was v behind later)

  pub remove_entry-there : (before : List (ℕ × X)) (t : ℕ) (was : X) (behind : List (ℕ × X)) → Ascend (before ++ (t, was) ∷ behind) →
      remove_entry (is_at (nat_cmp t)) (before ++ (t, was) ∷ behind) ≡ before ++ behind
  remove_entry-there [] t was behind ascend =
      ap (λ o. cond (is_eq o) behind ((t, was) ∷ remove_entry (is_at (nat_cmp t)) behind)) (equal t)
  remove_entry-there (b ∷ before) t was behind ascend =
      let es = before ++ (t, was) ∷ behind in
      let later = sorted_tail nat_cmp b.0 (keys_of es) ascend in
      ap (λ o. cond (is_eq o) es (b ∷ remove_entry (is_at (nat_cmp t)) es)) (greater b before t was behind ascend) ∙
      ap (λ fs. b ∷ fs) (remove_entry-there before t was behind later)

  pub lookup-there : (before : List (ℕ × X)) (t : ℕ) (was : X) (behind : List (ℕ × X)) → Ascend (before ++ (t, was) ∷ behind) →
      lookup (is_at (nat_cmp t)) (before ++ (t, was) ∷ behind) ≡ Some was
  lookup-there [] t was behind ascend = ap (λ o. cond (is_eq o) (Some was) (lookup (is_at (nat_cmp t)) behind)) (equal t)
  lookup-there (b ∷ before) t was behind ascend =
      let es = before ++ (t, was) ∷ behind in
      let later = sorted_tail nat_cmp b.0 (keys_of es) ascend in
      ap (λ o. cond (is_eq o) (Some b.1) (lookup (is_at (nat_cmp t)) es)) (greater b before t was behind ascend) ∙
      lookup-there before t was behind later

  -- a key that none has
  pub lookup-absent : (es : List (ℕ × X)) (t : ℕ) → All (λ e. e.0 ≢ t) es → lookup (is_at (nat_cmp t)) es ≡ None
  lookup-absent [] t all = refl
  lookup-absent (e ∷ es) t all =
      ap (λ b. cond b (Some e.1) (lookup (is_at (nat_cmp t)) es)) (differs t e.0 (All-head (λ e. e.0 ≢ t) e es all)) ∙
      lookup-absent es t (All-tail (λ e. e.0 ≢ t) e es all)

  -- the entries up to a key
  abbrev pub up_to : ℕ → List (ℕ × X) → List (ℕ × X)
  up_to t es = entries_between nat_cmp Unbounded (Included t) es

  without : (t : ℕ) (e : ℕ × X) (es : List (ℕ × X)) → t < e.0 → up_to t (e ∷ es) ≡ up_to t es
  without t e es lt = ap (λ o. cond (true && not (is_lt o)) (e ∷ up_to t es) (up_to t es)) (sym (nat_cmp_is t e.0 Less lt))

  with : (t : ℕ) (e : ℕ × X) (es : List (ℕ × X)) → e.0 ≤ t → up_to t (e ∷ es) ≡ e ∷ up_to t es
  with t e es le =
      elim (cases_eq t e.0) [
        | inl same ↦ ap (λ o. cond (true && not (is_lt o)) (e ∷ up_to t es) (up_to t es)) (sym (nat_cmp_is t e.0 Equal same))
        | inr differ ↦ ap (λ o. cond (true && not (is_lt o)) (e ∷ up_to t es) (up_to t es)) (sym (nat_cmp_is t e.0 Greater (omega (arith, le, differ))))
      ]

  none_up_to : (t : ℕ) (es : List (ℕ × X)) → AllByRecursion (λ k. t < k) (keys_of es) → up_to t es ≡ []
  none_up_to t [] all = refl
  none_up_to t (e ∷ es) all = without t e es all.0 ∙ none_up_to t es all.1

  -- where there is none up to a key, all are behind it
  pub all_later : (t : ℕ) (es : List (ℕ × X)) → up_to t es ≡ [] → All (λ e. t < e.0) es
  all_later t [] none = All-nil (λ e. t < e.0)
  all_later t (e ∷ es) none =
      elim (cases_lt t e.0) [
        | inl lt ↦ All-cons (λ e. t < e.0) e es lt (all_later t es (sym (without t e es lt) ∙ none))
        | inr le ↦ absurd (let is = sym (with t e es le) ∙ none in cc)
      ]

not_last : {X : Type 0} (front : List X) (e : X) → [] ≡ front ++ e ∷ [] → ⊥
not_last [] e is = cc
not_last (f ∷ front) e is = cc

-- the last one up to a key, behind one entry more
is_last_by-cons : (t : ℕ) (x : ℕ × At) (xs : List (ℕ × At)) (at : At) → IsLastBy t xs at → IsLastBy t (x ∷ xs) at
is_last_by-cons t x xs at it = record {
  before = x ∷ it.before;
  time = it.time;
  behind = it.behind;
  is = ap (λ es. x ∷ es) it.is;
  begun = it.begun;
  later = it.later;
}

is_last_by-begun : (t : ℕ) (x : ℕ × At) (xs : List (ℕ × At)) (e : ℕ × At) → x.0 ≤ t →
    ((front : List (ℕ × At)) → up_to t xs ≡ front ++ e ∷ [] → IsLastBy t xs e.1) → (front : List (ℕ × At)) →
    x ∷ up_to t xs ≡ front ++ e ∷ [] → IsLastBy t (x ∷ xs) e.1
is_last_by-begun t x xs e le rest [] is =
    let same : x ≡ e = cc in
    let none : up_to t xs ≡ [] = cc in
    let it : IsLastBy t (x ∷ xs) x.1 = record { before = []; time = x.0; behind = xs; is = refl; begun = le; later = all_later t xs none } in
    rw (← same) it
is_last_by-begun t x xs e le rest (f ∷ front) is =
    let there : up_to t xs ≡ front ++ e ∷ [] = cc in
    is_last_by-cons t x xs e.1 (rest front there)

-- the last one up to a key
pub is_last_by : (t : ℕ) (es front : List (ℕ × At)) (e : ℕ × At) → Ascend es → up_to t es ≡ front ++ e ∷ [] → IsLastBy t es e.1
is_last_by t [] front e ascend is = absurd (not_last front e is)
is_last_by t (x ∷ xs) front e ascend is =
    elim (cases_lt t x.0) [
      | inl lt ↦ (
          let none = none_up_to t xs (later_keys t x.0 (keys_of xs) lt (sorted_head nat_cmp x.0 (keys_of xs) ascend)) in
          absurd (not_last front e (sym none ∙ sym (without t x xs lt) ∙ is)))
      | inr le ↦ is_last_by-begun t x xs e le (λ front is. is_last_by t xs front e (sorted_tail nat_cmp x.0 (keys_of xs) ascend) is)
          front (sym (with t x xs le) ∙ is)
    ]
