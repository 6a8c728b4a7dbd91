-- The streams of a state meet the conditions that records have to meet.
use Rattle.ss_parts.proofs.Lists.{all-from_map, all_weaker, each-list_all, filter-all, filter-none, list_all-each}
use Rattle.ss_parts.proofs.Permutations.{along_permutation}
use Rattle.ss_recover.proofs.Common.{[], ◌&&◌, ◌++◌, ◌+◌, ◌<◌, ◌==◌, ◌||◌, ◌∙◌, ◌∷◌, ◌≡◌, ◌≤◌, All, All-from_recursion, AllByRecursion, and-true, and_from}
use Rattle.ss_recover.proofs.Common.{and_left, and_parts, ap, append_assoc, ap₂, AreWindows, arith, Bool, cond, count_by, Created, each-behind, eq-eqb}
use Rattle.ss_recover.proofs.Common.{eqb-true, false, has_new_name, has_one_record, has_place, in_step, is_named_before, IsDistinct, IsDistinct-head}
use Rattle.ss_recover.proofs.Common.{IsDistinct-tail, IsInStep, IsPermutation, IsPossible, keep_own_step, keep_step, le-ltb, leb-true, length, length-append}
use Rattle.ss_recover.proofs.Common.{length-filter, List, list_all, list_all-append, list_any, list_any-append, list_any-IsPermutation, lt-ltb, ltb-true, map}
use Rattle.ss_recover.proofs.Common.{MOST_STREAMS, MOST_VALUES, nat_le, nat_lt, nat_tests, ne_eqb, not, or-false, or_from, or_left, Params, recursion_from_All}
use Rattle.ss_recover.proofs.Common.{refl, rule_of, same_name, same_name-swap, StandFrom, stands_alone, step_number, subst, sum_by-append, sum_by-IsPermutation}
use Rattle.ss_recover.proofs.Common.{sym, taken, tile, tile_from, times_rise, true, Window, ℕ}
use Rattle.ss_recover.proofs.InOrder.{Rise, Rise-split}

-- 1 where a test passes
abbrev pub digit : Bool → ℕ
digit b = cond b 1 0

abbrev is_at : ℕ → Created → Bool
is_at n c = c.number == n

abbrev is_below : ℕ → Created → Bool
is_below n c = nat_lt c.number n

-- how many pass a test that all pass, or none does
count-none : (p : Created → Bool) (cs : List Created) → AllByRecursion (λ c. p c ≡ false) cs → count_by p cs ≡ 0
count-none p cs none = sym (length-filter p cs) ∙ ap (λ (l : List Created). length l) (filter-none p cs none)

count-all : (p : Created → Bool) (cs : List Created) → AllByRecursion (λ c. p c ≡ true) cs → count_by p cs ≡ length cs
count-all p cs all = sym (length-filter p cs) ∙ ap (λ (l : List Created). length l) (filter-all p cs all)

pub none-passes : {X : Type 0} (p : X → Bool) (cs : List X) → AllByRecursion (λ c. p c ≡ false) cs → list_any p cs ≡ false
none-passes p [] all = refl
none-passes p (c ∷ cs) all = or_from _ _ all.0 (none-passes p cs all.1)

-- a stream of a number whose name one before it has, and one before it that has its name
abbrev named : ℕ → List Created → Created → Bool
named n all o = o.number == n && is_named_before all o

abbrev before : Created → Created → Bool
before c o = nat_lt o.number c.number && same_name o.name c.name

-- streams of lower numbers, those of a number, and those of greater ones
module _ (cs here later : List Created) (n : ℕ) (cs-below : AllByRecursion (λ c. c.number < n) cs) (here-own : AllByRecursion (λ c. c.number ≡ n) here)
    (later-above : AllByRecursion (λ c. n < c.number) later) where
  count-parts : (p : Created → Bool) → count_by p (cs ++ (here ++ later)) ≡ count_by p cs + count_by p here + count_by p later
  count-parts p =
      omega (
        arith,
        sum_by-append (λ (c : Created). digit (p c)) cs (here ++ later),
        sum_by-append (λ (c : Created). digit (p c)) here later,
      )

  pub count-at : count_by (is_at n) (cs ++ (here ++ later)) ≡ length here
  count-at =
      omega (
        arith,
        count-parts (is_at n),
        count-none (is_at n) cs
            (all_weaker _ _ (λ c lt. ne_eqb c.number n (λ e. absurd (omega (arith, e, lt)))) cs cs-below),
        count-all (is_at n) here (all_weaker _ _ (λ c is. eq-eqb c.number n is) here here-own),
        count-none (is_at n) later
            (all_weaker _ _ (λ c lt. ne_eqb c.number n (λ e. absurd (omega (arith, e, lt)))) later later-above),
      )

  pub count-below : count_by (is_below n) (cs ++ (here ++ later)) ≡ length cs
  count-below =
      omega (
        arith,
        count-parts (is_below n),
        count-all (is_below n) cs (all_weaker _ _ (λ c lt. lt-ltb c.number n lt) cs cs-below),
        count-none (is_below n) here (all_weaker _ _ (λ c is. le-ltb c.number n (omega (arith, is))) here here-own),
        count-none (is_below n) later
            (all_weaker _ _ (λ c lt. le-ltb c.number n (omega (arith, lt))) later later-above),
      )

  -- a name is new where no stream before has it
  pub new-name : (c : Created) → c.number ≡ n → has_new_name n (cs ++ (c ∷ later)) ≡ not (list_any (same_name c.name) (map (λ (o : Created). o.name) cs))
  new-name c is =
      let us = cs ++ (c ∷ later) in
      let first = none-passes (named n us) cs (all_weaker _ _ (λ o lt. and_left _ _ (ne_eqb o.number n (λ e. absurd (omega (arith, e, lt))))) cs cs-below) in
      let last = none-passes (named n us) later (all_weaker _ _
      (λ o lt. and_left _ _ (ne_eqb o.number n (λ e. absurd (omega (arith, e, lt))))) later later-above) in
      let rest : list_any (before c) (c ∷ later) ≡ false = none-passes (before c) (c ∷ later) (
        and_left _ _ (le-ltb c.number c.number (omega arith)),
        all_weaker _ _ (λ o lt. and_left _ _ (le-ltb o.number c.number (omega (arith, lt, is)))) later later-above,
      ) in
      ap not (list_any-append (named n us) cs (c ∷ later)
      ∙ (λ i. first i || (named n us c || last i)) ∙ or-false (named n us c) ∙ ap (λ b. b && is_named_before us c) (eq-eqb c.number n is)
      ∙ list_any-append (before c) cs (c ∷ later) ∙ (λ i. by-name cs cs-below i || rest i)
      ∙ or-false (list_any (same_name c.name) (map (λ (o : Created). o.name) cs)))
    where
      by-name : (us : List Created) → AllByRecursion (λ o. o.number < n) us →
          list_any (before c) us ≡ list_any (same_name c.name) (map (λ (o : Created). o.name) us)
      by-name [] lows = refl
      by-name (u ∷ us) lows =
          ap₂ (λ (x y : Bool). x || y)
          (ap (λ b. b && same_name u.name c.name) (lt-ltb u.number c.number (let lt = lows.0 in omega (arith, lt, is))) ∙ same_name-swap u.name c.name)
          (by-name us lows.1)

-- where numbers rise and names differ, each does
new-split : (xs : List Created) (y : Created) (ys : List Created) → IsDistinct same_name (map (λ c. c.name) (xs ++ y ∷ ys)) →
    list_any (same_name y.name) (map (λ c. c.name) xs) ≡ false
new-split [] y ys distinct = refl
new-split (x ∷ xs) y ys distinct =
    let names = map (λ (c : Created). c.name) (xs ++ y ∷ ys) in
    let others = all-from_map (λ name. same_name x.name name ≡ false) (λ (c : Created). c.name) (xs ++ y ∷ ys)
    (IsDistinct-head same_name x.name names distinct) in
    or_from _ _ (same_name-swap y.name x.name ∙ (each-behind _ xs (y ∷ ys) others).0) (new-split xs y ys (IsDistinct-tail same_name x.name names distinct))

alone-each : (xs ys : List Created) → Rise (λ c. c.number) (xs ++ ys) → IsDistinct same_name (map (λ c. c.name) (xs ++ ys)) →
    length (xs ++ ys) ≤ MOST_STREAMS → AllByRecursion (λ c. stands_alone c.number (xs ++ ys) ≡ true) ys
alone-each xs [] rise distinct few = tt
alone-each xs (y ∷ ys) rise distinct few =
    let parts = Rise-split (λ (c : Created). c.number) xs y ys rise in
    let one = count-at xs (y ∷ []) ys y.number parts.0 (refl, tt) parts.1 in
    let lower = count-below xs (y ∷ []) ys y.number parts.0 (refl, tt) parts.1 in
    let place = lt-ltb _ MOST_STREAMS (omega (arith, lower, few, length-append xs (y ∷ ys))) in
    let new = new-name xs (y ∷ []) ys y.number parts.0 (refl, tt) parts.1 y refl ∙ ap not (new-split xs y ys distinct) in
    let same : xs ++ y ∷ ys ≡ (xs ++ y ∷ []) ++ ys = sym (append_assoc xs (y ∷ []) ys) in (
      and_from _ _ (and_from _ _ (eq-eqb _ 1 one) place) new,
      subst (λ us. AllByRecursion (λ c. stands_alone c.number us ≡ true) ys) (sym same)
          (alone-each (xs ++ y ∷ []) ys (subst (Rise (λ c. c.number)) same rise)
          (subst (λ us. IsDistinct same_name (map (λ (c : Created). c.name) us)) same distinct)
          (subst (λ (us : List Created). length us ≤ MOST_STREAMS) same few)),
    )

pub stands_alone-each : (ss : List Created) → Rise (λ c. c.number) ss → IsDistinct same_name (map (λ c. c.name) ss) → length ss ≤ MOST_STREAMS →
    AllByRecursion (λ c. stands_alone c.number ss ≡ true) ss
stands_alone-each ss rise distinct few = alone-each [] ss rise distinct few

-- in any order too
pub stands_alone-moved : (n : ℕ) (us vs : List Created) → IsPermutation us vs → stands_alone n us ≡ stands_alone n vs
stands_alone-moved n us vs moved =
    let one : has_one_record n us ≡ has_one_record n vs =
    ap (λ (k : ℕ). k == 1) (sym (sum_by-IsPermutation (λ (c : Created). digit (is_at n c)) us vs moved)) in
    let place : has_place n us ≡ has_place n vs =
    ap (λ (k : ℕ). nat_lt k MOST_STREAMS) (sym (sum_by-IsPermutation (λ (c : Created). digit (is_below n c)) us vs moved)) in
    let before_same : (c : Created) → is_named_before us c ≡ is_named_before vs c = λ c. list_any-IsPermutation (before c) us vs moved in
    let new : has_new_name n us ≡ has_new_name n vs =
    ap not ((λ i. list_any (λ (c : Created). c.number == n && before_same c i) us) ∙ list_any-IsPermutation (named n vs) us vs moved) in
    λ i. one i && place i && new i

-- windows that stand tile, and their times rise
tile_from-StandFrom : (first time : ℕ) (ws : List Window) → StandFrom first time ws → tile_from first ws ≡ true
tile_from-StandFrom first time [] stand = refl
tile_from-StandFrom first time (w ∷ ws) stand =
    let start = stand.0 in
    let here : (w.first == first) ≡ true = grind (arith, nat_tests) in
    and_from _ _ here (tile_from-StandFrom (first + w.summary.count) (w.summary.t_last + 1) ws stand.3)

pub tile-AreWindows : (ws : List Window) → AreWindows ws → tile ws ≡ true
tile-AreWindows ws are =
    let few = are.few in
    let last : nat_le (taken ws) MOST_VALUES ≡ true = grind (arith, nat_tests) in
    and_from _ _ (tile_from-StandFrom 1 0 ws are.stand) last

times_rise-StandFrom : (first time : ℕ) (ws : List Window) → StandFrom first time ws → times_rise ws ≡ true
times_rise-StandFrom first time [] stand = refl
times_rise-StandFrom first time (w ∷ []) stand = refl
times_rise-StandFrom first time (w ∷ v ∷ ws) stand =
    let rest : StandFrom (first + w.summary.count) (w.summary.t_last + 1) (v ∷ ws) = stand.3 in
    let later = rest.2 in
    let here : nat_lt w.summary.t_last v.summary.t_first ≡ true = grind (arith, nat_tests) in
    and_from _ _ here (times_rise-StandFrom (first + w.summary.count) (w.summary.t_last + 1) (v ∷ ws) rest)

pub times_rise-AreWindows : (ws : List Window) → AreWindows ws → times_rise ws ≡ true
times_rise-AreWindows ws are = times_rise-StandFrom 1 0 ws are.stand

-- and back: windows that tile, at rising times, from a time on
abbrev BeginsFrom : ℕ → List Window → Type 0
BeginsFrom time [] = Unit
BeginsFrom time (w ∷ ws) = time ≤ w.summary.t_first

StandFrom-tile : (first time : ℕ) (ws : List Window) → tile_from first ws ≡ true → times_rise ws ≡ true →
    AllByRecursion (λ w. IsPossible w.summary) ws → BeginsFrom time ws → StandFrom first time ws
StandFrom-tile first time [] tiles rising possible late = tt
StandFrom-tile first time (w ∷ []) tiles rising possible late =
    let parts = and_parts _ _ tiles in
    (eqb-true w.first first parts.0, possible.0, late, tt)
StandFrom-tile first time (w ∷ v ∷ ws) tiles rising possible late =
    let parts = and_parts _ _ tiles in
    let times = and_parts _ _ rising in
    let next : w.summary.t_last < v.summary.t_first = ltb-true w.summary.t_last v.summary.t_first times.0 in (
      eqb-true w.first first parts.0,
      possible.0,
      late,
      StandFrom-tile (first + w.summary.count) (w.summary.t_last + 1) (v ∷ ws) parts.1 times.1 possible.1 (omega arith),
    )

BeginsFrom-zero : (ws : List Window) → BeginsFrom 0 ws
BeginsFrom-zero [] = tt
BeginsFrom-zero (w ∷ ws) = omega arith

pub AreWindows-tile : (ws : List Window) → tile ws ≡ true → times_rise ws ≡ true → AllByRecursion (λ w. IsPossible w.summary) ws → AreWindows ws
AreWindows-tile ws tiles rising possible =
    let parts = and_parts _ _ tiles in
    record { stand = StandFrom-tile 1 0 ws parts.0 rising possible (BeginsFrom-zero ws); few = leb-true (taken ws) MOST_VALUES parts.1 }

-- and their first positions rise
first-after : (first time : ℕ) (ws : List Window) → StandFrom first time ws → AllByRecursion (λ w. first ≤ w.first) ws
first-after first time [] stand = tt
first-after first time (w ∷ ws) stand =
    let start = stand.0 in (
      omega arith,
      all_weaker _ _ (λ v le. omega arith) ws
          (first-after (first + w.summary.count) (w.summary.t_last + 1) ws stand.3),
    )

Rise-StandFrom : (first time : ℕ) (ws : List Window) → StandFrom first time ws → Rise (λ w. w.first) ws
Rise-StandFrom first time [] stand = tt
Rise-StandFrom first time (w ∷ ws) stand =
    let start = stand.0 in
    let possible = stand.1 in
    let some = possible.count_low in
    let rest = stand.3 in (
      all_weaker _ _ (λ v le. omega arith) ws
          (first-after (first + w.summary.count) (w.summary.t_last + 1) ws rest),
      Rise-StandFrom (first + w.summary.count) (w.summary.t_last + 1) ws rest,
    )

pub Rise-AreWindows : (ws : List Window) → AreWindows ws → Rise (λ w. w.first) ws
Rise-AreWindows ws are = Rise-StandFrom 1 0 ws are.stand

-- ---- windows that keep to the step of their stream's own record

-- the test of one record
abbrev pub keeps : ℕ → List Window → Created → Bool
keeps n ws s = not (s.number == n) || keep_step (step_number s.params.within) ws

and_turn : (a b c : Bool) → (a && (b && c)) ≡ (b && (a && c))
and_turn true true c = refl
and_turn true false c = refl
and_turn false true c = refl
and_turn false false c = refl

-- all pass a test in another order
list_all-moved : {X : Type 0} (p : X → Bool) (xs ys : List X) → IsPermutation xs ys → list_all p xs ≡ list_all p ys
list_all-moved p =
    along_permutation (λ xs ys. list_all p xs ≡ list_all p ys) (λ xs. refl) (λ x xs ys same. ap (λ b. p x && b) same)
    (λ x y xs. and_turn (p x) (p y) (list_all p xs)) (λ xs ys zs first second. first ∙ second)

pub own_step-moved : (n : ℕ) (ws : List Window) (cs ds : List Created) → IsPermutation cs ds → keep_own_step n cs ws ≡ keep_own_step n ds ws
own_step-moved n ws = list_all-moved (keeps n ws)

-- where no stream has the number
pub own_step-apart : (n : ℕ) (ws : List Window) (cs : List Created) → AllByRecursion (λ c. c.number ≡ n → ⊥) cs → keep_own_step n cs ws ≡ true
own_step-apart n ws cs apart = list_all-each (keeps n ws) cs (all_weaker _ _ (λ c other. or_left _ _ (ap not (ne_eqb c.number n other))) cs apart)

-- streams of lower numbers, those of a number, and those of greater ones
pub own_step-parts : (n : ℕ) (ws : List Window) (cs here later : List Created) → AllByRecursion (λ c. c.number < n) cs →
    AllByRecursion (λ c. n < c.number) later → keep_own_step n (cs ++ (here ++ later)) ws ≡ keep_own_step n here ws
own_step-parts n ws cs here later below above =
    let front = own_step-apart n ws cs (all_weaker _ _ (λ c lt same. absurd (omega (arith, lt, same))) cs below) in
    let back = own_step-apart n ws later (all_weaker _ _ (λ c lt same. absurd (omega (arith, lt, same))) later above) in
    list_all-append (keeps n ws) cs (here ++ later)
    ∙ ap₂ ◌&&◌ front (list_all-append (keeps n ws) here later ∙ ap (λ b. keep_own_step n here ws && b) back ∙ and-true (keep_own_step n here ws))

-- the only stream with the number
pub own_step-one : (n : ℕ) (ws : List Window) (c : Created) → c.number ≡ n →
    keep_own_step n (c ∷ []) ws ≡ keep_step (step_number c.params.within) ws
own_step-one n ws c same =
    ap (λ b. (not b || keep_step (step_number c.params.within) ws) && true) (eq-eqb c.number n same) ∙ and-true (keep_step (step_number c.params.within) ws)

-- without one of them
pub own_step-fewer : (n : ℕ) (ws : List Window) (c : Created) (cs ds : List Created) → keep_own_step n (cs ++ c ∷ ds) ws ≡ true →
    keep_own_step n (cs ++ ds) ws ≡ true
own_step-fewer n ws c [] ds all = (and_parts _ _ all).1
own_step-fewer n ws c (d ∷ cs) ds all =
    let parts = and_parts _ _ all in
    and_from _ _ parts.0 (own_step-fewer n ws c cs ds parts.1)

-- windows of a stream that keep to its step, as a test and of each
pub IsInStep-keep_step : (params : Params) (ws : List Window) → keep_step (step_number params.within) ws ≡ true → All (IsInStep (rule_of params).step) ws
IsInStep-keep_step params ws keep =
    All-from_recursion (IsInStep (rule_of params).step) ws (each-list_all (λ w. in_step (step_number params.within) w.summary.t_first w.summary.t_last) ws keep)

pub keep_step-IsInStep : (params : Params) (ws : List Window) → All (IsInStep (rule_of params).step) ws → keep_step (step_number params.within) ws ≡ true
keep_step-IsInStep params ws each =
    list_all-each (λ w. in_step (step_number params.within) w.summary.t_first w.summary.t_last) ws (recursion_from_All (IsInStep (rule_of params).step) ws each)
