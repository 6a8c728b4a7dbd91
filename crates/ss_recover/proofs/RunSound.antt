-- The records of a number are sound, among those of others, where they are a run.
use Rattle.ss_recover.proofs.Common.{[], ◌&&◌, ◌*◌, ◌++◌, ◌+◌, ◌<◌, ◌==◌, ◌^◌, ◌||◌, ◌∙◌, ◌∷◌, ◌≡◌, ◌≤◌, AllByRecursion, and-true, and_right, ap, append-nil}
use Rattle.ss_recover.proofs.Common.{ap₂, are_sound, arith, Bool, cond_both, Created, created_by, drop, each-behind, each-front, eq-eqb, eqb-true, false}
use Rattle.ss_recover.proofs.Common.{filter-append, filter_map, filter_map-append, Found, found_key, found_number, has_new_name, has_sound_values_within}
use Rattle.ss_recover.proofs.Common.{is_drop_of, is_dropped, is_mark_of, is_own, is_run, is_sound_in_order, IsUsable, keep_own_step, keep_step, length}
use Rattle.ss_recover.proofs.Common.{length-map, List, list_any, list_any-append, map, map-append, marks_in, MOST_STREAMS, nat_lt, nat_tests, ne_eqb, not}
use Rattle.ss_recover.proofs.Common.{or-false, or_from, place_of, Record, refl, Rises, run_len, same_name, stands_alone, stands_sound, step_number, stream_of}
use Rattle.ss_recover.proofs.Common.{streams_created, subst, suc, sym, take, take-append-drop, true, Window, window_of, window_record, windows_in}
use Rattle.ss_recover.proofs.Common.{without_slots, ℕ}
use Rattle.ss_model.proofs.FoundLemmas.{each-append}
use Rattle.ss_codec.specs.declared.record.Record.TheVariants as records
use Rattle.ss_parts.proofs.Lists.{all_both, all_weaker, map-all}
use Rattle.ss_recover.proofs.SoundStreams.{own_step-one, own_step-parts, count-at, count-below, new-name}

-- places have 65 bits
place-below : (r : Record) → IsUsable r → place_of r < 2 ^ 65
place-below records.Free usable = absurd usable
place-below (records.Stream id name params dropped) usable = omega arith
place-below (records.Value id number index t v) usable = omega (arith, usable.1, usable.2)
place-below _ usable = omega (arith, usable.1)

key-le : (a b p q : ℕ) → p < 2 ^ 65 → q < 2 ^ 65 → a * 2 ^ 65 + p ≤ b * 2 ^ 65 + q → a ≤ b
key-le a b p q small_p small_q le = omega arith

key-place : (a b p q : ℕ) → a * 2 ^ 65 + p ≤ b * 2 ^ 65 + q → b ≡ a → p ≤ q
key-place a b p q le same = let same' : b * 2 ^ 65 ≡ a * 2 ^ 65 = ap (λ (n : ℕ). n * 2 ^ 65) same in omega (arith, le, same')

-- the numbers of the streams of sorted records rise, and so do their places in one stream
streams-rise : (fs : List Found) → Rises found_key fs → AllByRecursion (λ f. IsUsable f.holds) fs → Rises found_number fs
streams-rise [] rises usable = tt
streams-rise (f ∷ fs) rises usable = (
  all_both _ _ _ (λ g le small. key-le (found_number f) (found_number g) (place_of f.holds) (place_of g.holds) (place-below f.holds usable.0)
      (place-below g.holds small) le) fs rises.0 usable.1,
  streams-rise fs rises.1 usable.1,
)

places-rise : (n : ℕ) (fs : List Found) → Rises found_key fs → AllByRecursion (λ f. found_number f ≡ n) fs → Rises place_of (without_slots fs)
places-rise n [] rises own = tt
places-rise n (f ∷ fs) rises own = (
  map-all _ _ fs
      (all_both _ _ _ (λ g le is. key-place (found_number f) (found_number g) (place_of f.holds) (place_of g.holds) le (is ∙ sym own.0)) fs rises.0 own.1),
  places-rise n fs rises.1 own.1,
)

pub Rises-parts : {X : Type 0} (key : X → ℕ) (xs ys : List X) → Rises key (xs ++ ys) → Rises key xs × Rises key ys
Rises-parts key [] ys rises = (tt, rises)
Rises-parts key (x ∷ xs) ys rises = let rest = Rises-parts key xs ys rises.1 in ((each-front _ xs ys rises.0, rest.0), rest.1)

-- the first records that are of a number, and those behind them
module _ (n : ℕ) where
  pub own-taken : (fs : List Found) → AllByRecursion (λ f. found_number f ≡ n) (take (run_len n fs) fs)
  own-taken [] = tt
  own-taken (f ∷ fs) =
      cond_both (found_number f == n) (suc (run_len n fs)) 0 (λ (k : ℕ). AllByRecursion (λ g. found_number g ≡ n) (take k (f ∷ fs)))
      (λ is. (eqb-true _ _ is, own-taken fs)) (λ other. tt)

  above-dropped : (fs : List Found) → AllByRecursion (λ f. n ≤ found_number f) fs → Rises found_number fs →
      AllByRecursion (λ f. n < found_number f) (drop (run_len n fs) fs)
  above-dropped [] low rises = tt
  above-dropped (f ∷ fs) low rises =
      cond_both (found_number f == n) (suc (run_len n fs)) 0 (λ (k : ℕ). AllByRecursion (λ g. n < found_number g) (drop k (f ∷ fs)))
      (λ is. above-dropped fs low.1 rises.1) (λ other.
      let least = low.0 in
      let above : n < found_number f = grind (arith, nat_tests) in
      (above, all_weaker _ _ (λ g le. omega (arith, above, le)) fs rises.0))

  pub own-within : (fs : List Found) → run_len n fs ≤ length fs
  own-within [] = omega arith
  own-within (f ∷ fs) =
      cond_both (found_number f == n) (suc (run_len n fs)) 0 (λ (k : ℕ). k ≤ suc (length fs)) (λ is. omega (arith, own-within fs)) (λ other. omega arith)

-- ---- the records of a number are sound, among those of others, where they are a run

-- the names of the streams that records create
abbrev pub names_created : List Record → List (List ℕ)
names_created rs = map (λ (c : Created). c.name) (streams_created rs)

-- the windows and the records of landmarks of a number
abbrev windows : ℕ → List Record → List Window
windows n rs = windows_in n rs

abbrev marks : ℕ → List Record → List Record
marks n rs = marks_in n rs

-- what the records of some numbers create
created-of : (P : ℕ → Type 0) (rs : List Record) → AllByRecursion (λ r. P (stream_of r)) rs → AllByRecursion (λ c. P c.number) (filter_map created_by rs)
created-of P [] all = tt
created-of P (records.Stream id name params dropped ∷ rs) all = (all.0, created-of P rs all.1)
created-of P (_ ∷ rs) all = created-of P rs all.1

-- after the first place no stream is created
none-created : (rs : List Record) → AllByRecursion (λ r. 1 ≤ place_of r) rs → filter_map created_by rs ≡ []
none-created [] all = refl
none-created (records.Stream id name params dropped ∷ rs) all = absurd (let first = all.0 in omega (arith, first))
none-created (_ ∷ rs) all = none-created rs all.1

windows-apart : (n : ℕ) (rs : List Record) → AllByRecursion (λ r. stream_of r ≡ n → ⊥) rs → windows n rs ≡ []
windows-apart n [] apart = refl
windows-apart n (records.Window id first summary ∷ rs) apart = rw (ne_eqb id n apart.0) (windows-apart n rs apart.1)
windows-apart n (_ ∷ rs) apart = windows-apart n rs apart.1

marks-apart : (n : ℕ) (rs : List Record) → AllByRecursion (λ r. stream_of r ≡ n → ⊥) rs → marks n rs ≡ []
marks-apart n [] apart = refl
marks-apart n (records.Landmark id number values start finish ∷ rs) apart = rw (ne_eqb id n apart.0) (marks-apart n rs apart.1)
marks-apart n (records.Value id number index t v ∷ rs) apart = rw (ne_eqb id n apart.0) (marks-apart n rs apart.1)
marks-apart n (_ ∷ rs) apart = marks-apart n rs apart.1

-- what says that its stream was dropped is of its number
pub drops-apart : (n : ℕ) (rs : List Record) → AllByRecursion (λ r. stream_of r ≡ n → ⊥) rs → is_dropped n rs ≡ false
drops-apart n [] apart = refl
drops-apart n (records.Stream id name params dropped ∷ rs) apart = or_from _ _ (and_right _ _ (ne_eqb id n apart.0)) (drops-apart n rs apart.1)
drops-apart n (_ ∷ rs) apart = drops-apart n rs apart.1

-- some record is a stream's own where some stream is created. Where none is, none says that one was dropped.
own-any : (rs : List Record) → list_any is_own rs ≡ list_any (λ c. true) (streams_created rs)
own-any [] = refl
own-any (records.Stream id name params dropped ∷ rs) = refl
own-any (_ ∷ rs) = own-any rs

pub alone-drops : (n : ℕ) (rs : List Record) → filter_map created_by rs ≡ [] → is_dropped n rs ≡ false
alone-drops n [] none = refl
alone-drops n (records.Stream id name params dropped ∷ rs) none = cc
alone-drops n (_ ∷ rs) none = alone-drops n rs none

-- and the other way round
pub own-alone : (rs : List Record) → list_any is_own rs ≡ false → filter_map created_by rs ≡ []
own-alone [] none = refl
own-alone (records.Stream id name params dropped ∷ rs) none = cc
own-alone (_ ∷ rs) none = own-alone rs none

-- what is asked of a run whose first record alone is a stream's own
asked : (dropped same drops own values : Bool) → same ≡ true → drops ≡ false → own ≡ false →
    (((dropped && same) || drops) || values) ≡ (not own && (dropped || values))
asked dropped same drops own values a b c =
    (λ i. ((dropped && a i) || b i) || values) ∙ ap (λ x. x || values) (or-false (dropped && true) ∙ and-true dropped)
    ∙ ap (λ o. not o && (dropped || values)) (sym c)

-- Records of lower numbers, those of a number, and those of greater ones.
module _ (front run back : List Record) (n : ℕ) (lower : AllByRecursion (λ r. stream_of r < n) front) (own : AllByRecursion (λ r. stream_of r ≡ n) run)
    (above : AllByRecursion (λ r. n < stream_of r) back) where
  abbrev all : List Record
  all = front ++ (run ++ back)

  abbrev cs : List Created
  cs = streams_created front

  abbrev here : List Created
  here = streams_created run

  abbrev later : List Created
  later = streams_created back

  created-parts : streams_created all ≡ cs ++ (here ++ later)
  created-parts = filter_map-append created_by front (run ++ back) ∙ ap (λ l. cs ++ l) (filter_map-append created_by run back)

  front-apart : AllByRecursion (λ r. stream_of r ≡ n → ⊥) front
  front-apart = all_weaker _ _ (λ r lt same. absurd (omega (arith, lt, same))) front lower

  back-apart : AllByRecursion (λ r. stream_of r ≡ n → ⊥) back
  back-apart = all_weaker _ _ (λ r lt same. absurd (omega (arith, lt, same))) back above

  pub windows-own : windows n all ≡ windows n run
  windows-own =
      filter_map-append (window_of n) front (run ++ back) ∙ ap₂ ◌++◌ (windows-apart n front front-apart)
      (filter_map-append (window_of n) run back ∙ ap (λ l. windows n run ++ l) (windows-apart n back back-apart) ∙ append-nil (windows n run))

  pub marks-own : marks n all ≡ marks n run
  marks-own =
      filter-append (is_mark_of n) front (run ++ back) ∙ ap₂ ◌++◌ (marks-apart n front front-apart)
      (filter-append (is_mark_of n) run back ∙ ap (λ l. marks n run ++ l) (marks-apart n back back-apart) ∙ append-nil (marks n run))

  cs-below : AllByRecursion (λ c. c.number < n) cs
  cs-below = created-of (λ k. k < n) front lower

  here-own : AllByRecursion (λ c. c.number ≡ n) here
  here-own = created-of (λ k. k ≡ n) run own

  later-above : AllByRecursion (λ c. n < c.number) later
  later-above = created-of (λ k. n < k) back above

  dropped-own : is_dropped n all ≡ is_dropped n run
  dropped-own =
      list_any-append (is_drop_of n) front (run ++ back) ∙ ap (λ b. b || is_dropped n (run ++ back)) (drops-apart n front front-apart)
      ∙ list_any-append (is_drop_of n) run back ∙ ap (λ b. is_dropped n run || b) (drops-apart n back back-apart) ∙ or-false (is_dropped n run)

  -- they are sound where the streams, of which so many are of the number, and the other records are
  sound-parts : is_sound_in_order all n
      ≡ ((length here == 1) && nat_lt (length cs) MOST_STREAMS && has_new_name n (cs ++ (here ++ later))
      && (is_dropped n run || stands_sound n here (windows n run) (marks n run)))
  sound-parts =
      let one = count-at cs here later n cs-below here-own later-above in
      let place = count-below cs here later n cs-below here-own later-above in
      let keep = own_step-parts n (windows n run) cs here later cs-below later-above in
      (λ i. stands_alone n (created-parts i) && (dropped-own i || stands_sound n (created-parts i) (windows-own i) (marks-own i)))
      ∙ (λ i. (one i == 1) && nat_lt (place i) MOST_STREAMS && has_new_name n (cs ++ (here ++ later))
      && (is_dropped n run || (are_sound (windows n run) (marks n run) && keep i)))

  sound-never : (length here ≡ 1 → ⊥) → is_sound_in_order all n ≡ false
  sound-never other =
      sound-parts ∙ ap (λ b. b && nat_lt (length cs) MOST_STREAMS && has_new_name n (cs ++ (here ++ later))
      && (is_dropped n run || stands_sound n here (windows n run) (marks n run)))
      (ne_eqb (length here) 1 other)

-- the records of a number are sound where they are a run
is_run-sound : (front : List Record) (r : Record) (rest back : List Record) → AllByRecursion (λ q. stream_of q < stream_of r) front →
    AllByRecursion (λ q. stream_of q ≡ stream_of r) rest → AllByRecursion (λ q. stream_of r < stream_of q) back → AllByRecursion IsUsable (r ∷ rest) →
    Rises place_of (r ∷ rest) → is_sound_in_order (front ++ ((r ∷ rest) ++ back)) (stream_of r) ≡ is_run (names_created front) (r ∷ rest)
is_run-sound front records.Free rest back lower own above usable rises = absurd usable.0
is_run-sound front (records.Stream id name params dropped) rest back lower own above usable rises =
    let r = records.Stream id name params dropped in
    let c : Created = record { number = id; name = name; params = params } in
    let cs = streams_created front in
    let later = streams_created back in
    let names = names_created front in
    elim (streams_created rest) as (λ us. streams_created rest ≡ us → is_sound_in_order (front ++ ((r ∷ rest) ++ back)) id ≡ is_run names (r ∷ rest)) [
      | [] ↦ λ none.
          let few : length (c ∷ streams_created rest) ≡ 1 = ap (λ (l : List Created). length (c ∷ l)) none in
          let new : has_new_name id (cs ++ ((c ∷ streams_created rest) ++ later)) ≡ not (list_any (same_name name) names) =
          ap (λ us. has_new_name id (cs ++ ((c ∷ us) ++ later))) none
          ∙ new-name cs (c ∷ []) later id (cs-below front (r ∷ rest) back id lower (refl, own) above) (refl, tt)
          (later-above front (r ∷ rest) back id lower (refl, own) above) c refl in
          let keep : keep_own_step id (c ∷ streams_created rest) (windows id rest) ≡ keep_step (step_number params.within) (windows id rest) =
          ap (λ us. keep_own_step id (c ∷ us) (windows id rest)) none ∙ own_step-one id (windows id rest) c refl in
          sound-parts front (r ∷ rest) back id lower (refl, own) above
          ∙ (λ i. (few i == 1) && nat_lt (sym (length-map cs (λ (o : Created). o.name)) i) MOST_STREAMS && new i
          && (((dropped && eq-eqb id id refl i) || is_dropped id rest) || (are_sound (windows id rest) (marks id rest) && keep i)))
          ∙ ap (λ b. nat_lt (length names) MOST_STREAMS && not (list_any (same_name name) names) && b) (asked dropped true (is_dropped id rest)
          (list_any is_own rest) (has_sound_values_within (step_number params.within) rest id) refl (alone-drops id rest none)
          (own-any rest ∙ ap (list_any (λ c. true)) none))
      | u ∷ us ↦ λ is.
          sound-never front (r ∷ rest) back id lower (refl, own) above (λ one. absurd (omega (arith, one, ap (λ (l : List Created). length l) is)))
          ∙ sym (and_right _ _ (ap (λ b. not b && (dropped || has_sound_values_within (step_number params.within) rest id))
          (own-any rest ∙ ap (list_any (λ c. true)) is)))
    ] refl
is_run-sound front r rest back lower own above usable rises =
    let low = usable.0.0 in
    let none = none-created rest (all_weaker _ _ (λ q le. omega (arith, le, low)) rest rises.0) in
    sound-never front (r ∷ rest) back (stream_of r) lower (refl, own) above (λ one. absurd (omega (arith, one, ap (λ (l : List Created). length l) none)))

-- each record of a list is of a lower number than each of another one
abbrev pub AreBefore : List Found → List Found → Type 0
AreBefore front back = AllByRecursion (λ g. AllByRecursion (λ f. found_number f < found_number g) front) back

-- Among all records those of one number, from the first of them on, behind those of lower numbers and before those of greater ones.
pub record IsRun (all front : List Found) (f : Found) (rest back : List Found) : Type 0 where
  pub whole : all ≡ front ++ ((f ∷ rest) ++ back)
  pub lower : AllByRecursion (λ g. found_number g < found_number f) front
  pub own : AllByRecursion (λ g. found_number g ≡ found_number f) rest
  pub above : AllByRecursion (λ g. found_number f < found_number g) back
  pub usable : AllByRecursion (λ g. IsUsable g.holds) (f ∷ rest)
  pub rises : Rises place_of (without_slots (f ∷ rest))

-- the next ones, where records of lower numbers came
pub next-run : (all front : List Found) (f : Found) (tail rest back : List Found) → all ≡ front ++ f ∷ tail → AreBefore front (f ∷ tail) →
    AllByRecursion (λ g. IsUsable g.holds) all → Rises found_key all → rest ≡ take (run_len (found_number f) tail) tail →
    back ≡ drop (run_len (found_number f) tail) tail → IsRun all front f rest back
next-run all front f tail rest back whole before usable order rest_is back_is =
    let n = found_number f in
    let own = subst (AllByRecursion (λ g. found_number g ≡ n)) (sym rest_is) (own-taken n tail) in
    let split : rest ++ back ≡ tail = ap₂ ◌++◌ rest_is back_is ∙ take-append-drop (run_len n tail) tail in
    let parted : all ≡ front ++ ((f ∷ rest) ++ back) = whole ∙ ap (λ l. front ++ f ∷ l) (sym split) in
    let usable_left = each-behind _ front ((f ∷ rest) ++ back) (subst (AllByRecursion (λ g. IsUsable g.holds)) parted usable) in
    let order_left = (Rises-parts found_key front ((f ∷ rest) ++ back) (subst (Rises found_key) parted order)).1 in
    let rising = streams-rise ((f ∷ rest) ++ back) order_left usable_left in
    record {
      whole = parted;
      lower = before.0;
      own = own;
      above = subst (AllByRecursion (λ g. n < found_number g)) (sym back_is) (above-dropped n tail
          (subst (AllByRecursion (λ g. n ≤ found_number g)) split rising.0) (subst (Rises found_number) split rising.1));
      usable = each-front _ (f ∷ rest) back usable_left;
      rises = places-rise n (f ∷ rest) (Rises-parts found_key (f ∷ rest) back order_left).0 (refl, own);
    }

module _ (all front : List Found) (f : Found) (rest back : List Found) (is : IsRun all front f rest back) where
  abbrev n : ℕ
  n = found_number f

  abbrev us : List Record
  us = without_slots all

  abbrev rs : List Record
  rs = without_slots rest

  pub whole-run : us ≡ without_slots front ++ ((f.holds ∷ rs) ++ without_slots back)
  whole-run =
      ap without_slots is.whole ∙ map-append (λ (g : Found). g.holds) front ((f ∷ rest) ++ back)
      ∙ ap (λ l. without_slots front ++ l) (map-append (λ (g : Found). g.holds) (f ∷ rest) back)

  lower-run : AllByRecursion (λ q. stream_of q < n) (without_slots front)
  lower-run = map-all _ _ front is.lower

  own-run : AllByRecursion (λ q. stream_of q ≡ n) (f.holds ∷ rs)
  own-run = map-all (λ q. stream_of q ≡ n) (λ (g : Found). g.holds) (f ∷ rest) (refl, is.own)

  above-run : AllByRecursion (λ q. n < stream_of q) (without_slots back)
  above-run = map-all _ _ back is.above

  pub sound-run : is_sound_in_order us n ≡ is_run (names_created (without_slots front)) (f.holds ∷ rs)
  sound-run =
      ap (λ l. is_sound_in_order l n) whole-run
      ∙ is_run-sound (without_slots front) f.holds rs (without_slots back) lower-run own-run.1 above-run (map-all IsUsable _ (f ∷ rest) is.usable) is.rises

  pub dropped-run : is_dropped n us ≡ is_dropped n (f.holds ∷ rs)
  dropped-run = ap (is_dropped n) whole-run ∙ dropped-own (without_slots front) (f.holds ∷ rs) (without_slots back) n lower-run own-run above-run

  pub windows-run : windows_in n us ≡ windows_in n (f.holds ∷ rs)
  windows-run = ap (windows_in n) whole-run ∙ windows-own (without_slots front) (f.holds ∷ rs) (without_slots back) n lower-run own-run above-run

  pub marks-run : marks_in n us ≡ marks_in n (f.holds ∷ rs)
  marks-run = ap (marks_in n) whole-run ∙ marks-own (without_slots front) (f.holds ∷ rs) (without_slots back) n lower-run own-run above-run

  -- what comes before a run and the run itself come before what comes behind it
  pub before-back : AreBefore (front ++ f ∷ rest) back
  before-back =
      all_weaker _ _ (λ g more. each-append _ front (f ∷ rest) (all_weaker _ _ (λ p lt. omega (arith, lt, more)) front is.lower)
      (more, all_weaker _ _ (λ p same. omega (arith, same, more)) rest is.own)) back is.above

-- what comes at or after a window is no record of a landmark or of a value
no-marks : (n : ℕ) (rs : List Record) → AllByRecursion IsUsable rs → AllByRecursion (λ r. 2 ^ 64 ≤ place_of r) rs → marks n rs ≡ []
no-marks n [] usable behind = refl
no-marks n (records.Landmark id number values start finish ∷ rs) usable behind =
    absurd (let few = usable.0.1 in let late = behind.0 in omega (arith, few, late))
no-marks n (records.Value id number index t v ∷ rs) usable behind =
    absurd (let few = usable.0.1 in let short = usable.0.2 in let late = behind.0 in omega (arith, few, short, late))
no-marks n (_ ∷ rs) usable behind = no-marks n rs usable.1 behind.1

-- the records of a run are those of landmarks and their values, and then those of windows
pub run-order : (n : ℕ) (rs : List Record) → AllByRecursion (λ r. stream_of r ≡ n) rs → AllByRecursion IsUsable rs → Rises place_of rs →
    filter_map created_by rs ≡ [] → rs ≡ marks n rs ++ map (window_record n) (windows n rs)
run-order n [] own usable rises none = refl
run-order n (records.Free ∷ rs) own usable rises none = absurd usable.0
run-order n (records.Stream id name params dropped ∷ rs) own usable rises none = cc
run-order n (records.Window id first summary ∷ rs) own usable rises none =
    let late = all_weaker (λ q. 2 ^ 64 + first ≤ place_of q) (λ q. 2 ^ 64 ≤ place_of q) (λ q le. omega (arith, le)) rs rises.0 in
    let none_marks = no-marks n rs usable.1 late in
    let rest : rs ≡ map (window_record n) (windows n rs) =
    run-order n rs own.1 usable.1 rises.1 none ∙ ap (λ l. l ++ map (window_record n) (windows n rs)) none_marks in
    rw (eq-eqb id n own.0, none_marks) (λ i. records.Window (own.0 i) first summary ∷ rest i)
run-order n (r ∷ rs) own usable rises none = rw (eq-eqb (stream_of r) n own.0) (ap (λ l. r ∷ l) (run-order n rs own.1 usable.1 rises.1 none))
