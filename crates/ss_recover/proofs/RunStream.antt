-- Streams that records in order are of, one run after another.
use Rattle.ss_recover.proofs.Common.{[], ◌&&◌, ◌++◌, ◌+◌, ◌<◌, ◌||◌, ◌∙◌, ◌∷◌, ◌≡◌, ◌≤◌, All-from_recursion, AllByRecursion, and-true, and_parts, ap}
use Rattle.ss_recover.proofs.Common.{append_assoc, ap₂, are_marks, are_sound, arith, Bool, cond, count_by-le-length, Created, created_by, drop, each-behind}
use Rattle.ss_recover.proofs.Common.{eq-eqb, false, filter-append, filter_map, Found, found_key, found_number, is_dropped, is_mark_of, is_own, is_run}
use Rattle.ss_recover.proofs.Common.{is_sound_in_order, IsDistinct, IsDistinct-cons, IsDistinct-from_apart, IsState, IsStream, IsUsable, keep_step}
use Rattle.ss_recover.proofs.Common.{landmarks_made, length, length-append, length-drop, length-filter, length-map, lies_free, List, list_all, list_any}
use Rattle.ss_recover.proofs.Common.{list_any-append, live, ltb-true, map, map-append, marks_in, MOST_RECORDS, MOST_STREAMS, names_of, nat_lt, not, not-true}
use Rattle.ss_recover.proofs.Common.{or-false, or_parts, Record, refl, Rises, run_len, same_name, same_name-swap, step_number, Stream, stream_made, stream_of}
use Rattle.ss_recover.proofs.Common.{streams_made, streams_standing, subst, suc, sum_by-cons, sym, take, take-append-drop, tile, times_rise, true, Window}
use Rattle.ss_recover.proofs.Common.{window_record, windows_in, without_slots, zero, ℕ}
use Rattle.ss_recover.proofs.HeldRecords.{all_walked, walked}
use Rattle.ss_recover.proofs.InOrder.{increasing-Rise, Rise}
use Rattle.ss_recover.proofs.Marks.{length-marks_of, marks_of}
use Rattle.ss_recover.proofs.MarkConditions.{AreOf, AreOf-are_marks}
use Rattle.ss_recover.proofs.SoundStreams.{IsInStep-keep_step, AreWindows-tile}
use Rattle.ss_recover.proofs.RunSound.{AreBefore, alone-drops, before-back, dropped-run, IsRun, marks-run, names_created, next-run, own-alone}
use Rattle.ss_recover.proofs.RunSound.{run-order, sound-run, windows-run}
use Rattle.ss_recover.proofs.RunStanding.{filter-const, gone_found, names_created-append, own_found, standing_found, stands_in, streams_made-append}
use Rattle.ss_recover.proofs.SoundNumbers.{all-false}
use Rattle.ss_recover.proofs.WholeSlots.{all-window_of}
use Rattle.ss_codec.specs.declared.record.Record.TheVariants as records
use Rattle.ss_model.specs.State as Streams
use Rattle.ss_parts.proofs.Lists.{all-each, all-from_map, all-kept, all-passing, all_both, all_weaker, filter-none, map-all}

-- how many records streams have
length-records : (ss : List Stream) → length (all_walked ss) ≡ live ss
length-records [] = refl
length-records (s ∷ ss) =
    omega (
      arith,
      length-append (walked s) (all_walked ss),
      length-append (marks_of s.number 1 s.landmarks) (map (window_record s.number) s.windows),
      length-marks_of s.number 1 s.landmarks,
      length-map s.windows (window_record s.number),
      length-records ss,
      sum_by-cons Streams.records_of s ss,
    )

-- Records that come behind others are those of streams, in order, whose names none of the others creates. With what the others
-- create they are no more than can be.
record AreBehind (front : List Found) (kept : List Record) (streams : List Stream) : Type 0 where
  order : kept ≡ all_walked streams
  sound : AllByRecursion IsStream streams
  rise : Rise (λ s. s.number) streams
  apart : AllByRecursion (λ s. list_any (same_name s.name) (names_created (without_slots front)) ≡ false) streams
  distinct : IsDistinct same_name (names_of streams)
  few : length (names_created (without_slots front)) ≤ MOST_STREAMS → length (names_created (without_slots front)) + length streams ≤ MOST_STREAMS

IsState-behind : (rs : List Record) (streams : List Stream) → AreBehind [] rs streams → length rs ≤ MOST_RECORDS → IsState streams
IsState-behind rs streams are few = record {
  each = All-from_recursion IsStream streams are.sound;
  numbers = increasing-Rise (λ (s : Stream). s.number) streams are.rise;
  names = are.distinct;
  few = omega (arith, are.few (omega arith));
  room = omega (arith, few, length-records streams, ap (λ (us : List Record). length us) are.order);
}

-- what records of greater numbers create that stand
standing-above : (us : List Record) (n : ℕ) (fs : List Found) → AllByRecursion (λ f. n < found_number f) fs →
    AllByRecursion (λ s. n < s.number) (streams_made us (without_slots fs))
standing-above us n [] above = tt
standing-above us n (f ∷ fs) above = go f.holds above.0 (standing-above us n fs above.1)
  where
    go : (r : Record) → n < stream_of r → AllByRecursion (λ s. n < s.number) (streams_made us (without_slots fs)) →
        AllByRecursion (λ s. n < s.number) (streams_made us (r ∷ without_slots fs))
    go (records.Stream id name params false) here rest = (here, rest)
    go (records.Stream id name params true) here rest = rest
    go _ here rest = rest

-- where no stream is created, none stands
alone-stands : (rs : List Record) → filter_map created_by rs ≡ [] → streams_standing rs ≡ []
alone-stands [] none = refl
alone-stands (records.Stream id name params dropped ∷ rs) none = cc
alone-stands (_ ∷ rs) none = alone-stands rs none

-- A run whose first record is a stream's own.
module _ (all front : List Found) (slot : ℕ) (head : Created) (dropped : Bool) (rest back : List Found)
    (is : IsRun all front (own_found slot head dropped) rest back)
    (run : is_run (names_created (without_slots front)) (without_slots (own_found slot head dropped ∷ rest)) ≡ true) where
  abbrev us : List Record
  us = without_slots all

  abbrev x : Found
  x = own_found slot head dropped

  abbrev rs : List Record
  rs = without_slots rest

  none-own : list_any is_own rs ≡ false
  none-own = not-true (list_any is_own rs) (and_parts _ _ (and_parts _ _ run).1).0

  pub names-run : names_created (without_slots (x ∷ rest)) ≡ head.name ∷ []
  names-run = ap (λ (cs : List Created). head.name ∷ map (λ (c : Created). c.name) cs) (own-alone rs none-own)

  dropped-is : is_dropped head.number us ≡ dropped
  dropped-is =
      dropped-run all front x rest back is
      ∙ ap₂ (λ a b. (dropped && a) || b) (eq-eqb head.number head.number refl) (alone-drops head.number rs (own-alone rs none-own))
      ∙ or-false (dropped && true) ∙ and-true dropped

  pub made-run : streams_made us (without_slots (x ∷ rest)) ≡ cond dropped [] (stream_made rs head ∷ [])
  made-run =
      elim dropped as (λ d. streams_made us (records.Stream head.number head.name head.params d ∷ rs) ≡ cond d [] (stream_made rs head ∷ [])) [
        | true ↦ ap (map (stream_made us)) none
        | false ↦ (λ i. record {
          number = head.number;
          name = head.name;
          params = head.params;
          windows = windows-run all front x rest back is i;
          landmarks = landmarks_made (marks-run all front x rest back is i);
        } ∷ map (stream_made us) (none i))
      ]
    where
      none : streams_standing rs ≡ []
      none = alone-stands rs (own-alone rs none-own)

  -- its records stand, or are gone
  gone-each : AllByRecursion (λ (f : Found). is_dropped (found_number f) us ≡ dropped) (x ∷ rest)
  gone-each = all_weaker _ _ (λ f same. ap (λ k. is_dropped k us) same ∙ dropped-is) (x ∷ rest) (refl, is.own)

  pub others-each : AllByRecursion (λ (f : Found). is_own f.holds ≡ false) rest
  others-each = all-from_map (λ r. is_own r ≡ false) (λ (f : Found). f.holds) rest (all-false is_own rs none-own)

  pub stands-run : standing_found us (x ∷ rest) ≡ cond (not dropped) (x ∷ rest) []
  stands-run = filter-const (λ (f : Found). stands_in us f.holds) (not dropped) (x ∷ rest) (all_weaker _ _ (λ f gone. ap not gone) (x ∷ rest) gone-each)

  pub others-gone : gone_found us false (x ∷ rest) ≡ cond dropped rest []
  others-gone =
      filter-const (λ (f : Found). not (is_own f.holds) && is_dropped (found_number f) us) dropped rest
      (all_both _ _ _ (λ f other gone i. not (other i) && gone i) rest others-each gone-each.1)

  pub heads-gone : gone_found us true (x ∷ rest) ≡ cond dropped (x ∷ []) []
  heads-gone =
      ap₂ (λ (b : Bool) (l : List Found). cond b (x ∷ l) l) dropped-is
      (filter-none (λ (f : Found). is_own f.holds && is_dropped (found_number f) us) rest
      (all_weaker _ _ (λ f other. ap (λ b. b && is_dropped (found_number f) us) other) rest others-each))

-- One that stands is a stream of a state, and its records are those of the stream, in order.
module _ (all front : List Found) (slot : ℕ) (head : Created) (rest back : List Found) (is : IsRun all front (own_found slot head false) rest back)
    (run : is_run (names_created (without_slots front)) (without_slots (own_found slot head false ∷ rest)) ≡ true) where
  abbrev ms : List Record
  ms = marks_in head.number (without_slots rest)

  abbrev ws : List Window
  ws = windows_in head.number (without_slots rest)

  asked : (are_sound ws ms ≡ true) × (keep_step (step_number head.params.within) ws ≡ true)
  asked = and_parts _ _ (and_parts _ _ (and_parts _ _ run).1).1

  meets : ((tile ws && times_rise ws && are_marks ms) ≡ true) × (list_all (lies_free (landmarks_made ms)) ws ≡ true)
  meets = and_parts _ _ asked.0

  usable-rest : AllByRecursion IsUsable (without_slots rest)
  usable-rest = map-all IsUsable (λ (f : Found). f.holds) rest is.usable.1

  marks-are : AreOf head.number ms (landmarks_made ms)
  marks-are = AreOf-are_marks head.number ms (all-passing (is_mark_of head.number) (without_slots rest))
      (all-kept IsUsable (is_mark_of head.number) (without_slots rest) usable-rest)
      (and_parts (tile ws && times_rise ws) (are_marks ms) meets.0).1

  is-stream : IsStream (stream_made (without_slots rest) head)
  is-stream =
      let windows = and_parts (tile ws) (times_rise ws) (and_parts (tile ws && times_rise ws) (are_marks ms) meets.0).0 in
      record {
        target = is.usable.0.0;
        number = is.usable.0.1;
        windows = AreWindows-tile ws windows.0 windows.1
            (all-window_of head.number (without_slots rest) (all_weaker _ _ (λ r usable _. usable) (without_slots rest) usable-rest));
        steps = IsInStep-keep_step head.params ws asked.1;
        landmarks = marks-are.landmarks;
        free = meets.1;
      }

  pub rest-order : without_slots rest ≡ marks_of head.number 1 (landmarks_made ms) ++ map (window_record head.number) ws
  rest-order =
      run-order head.number (without_slots rest) (map-all _ (λ (f : Found). f.holds) rest is.own) usable-rest is.rises.1
      (own-alone (without_slots rest) (none-own all front slot head false rest back is run))
      ∙ ap (λ l. l ++ map (window_record head.number) ws) marks-are.records

-- A run comes before what is of streams.
module _ (all front : List Found) (slot : ℕ) (head : Created) (dropped : Bool) (rest back : List Found)
    (is : IsRun all front (own_found slot head dropped) rest back)
    (run : is_run (names_created (without_slots front)) (without_slots (own_found slot head dropped ∷ rest)) ≡ true) (kept : List Record) (ss : List Stream)
    (behind : AreBehind (front ++ own_found slot head dropped ∷ rest) kept ss) where
  abbrev names : List (List ℕ)
  names = names_created (without_slots front)

  more : names_created (without_slots (front ++ own_found slot head dropped ∷ rest)) ≡ names ++ head.name ∷ []
  more =
      ap names_created (map-append (λ (f : Found). f.holds) front (own_found slot head dropped ∷ rest))
      ∙ names_created-append (without_slots front) (without_slots (own_found slot head dropped ∷ rest))
      ∙ ap (λ l. names ++ l) (names-run all front slot head dropped rest back is run)

  may : (nat_lt (length names) MOST_STREAMS ≡ true) × (not (list_any (same_name head.name) names) ≡ true)
  may = and_parts _ _ (and_parts _ _ run).0

  apart-both : AllByRecursion (λ s. (list_any (same_name s.name) names ≡ false) × (list_any (same_name s.name) (head.name ∷ []) ≡ false)) ss
  apart-both =
      all_weaker _ _ (λ s none. or_parts _ _
      (sym (list_any-append (same_name s.name) names (head.name ∷ [])) ∙ ap (list_any (same_name s.name)) (sym more) ∙ none)) ss behind.apart

  room : length names + 1 + length ss ≤ MOST_STREAMS
  room =
      let long = ap (λ (l : List (List ℕ)). length l) more in
      let one = length-append names (head.name ∷ []) in
      let least = ltb-true (length names) MOST_STREAMS may.0 in
      let most = behind.few (omega (arith, long, one, least)) in
      omega (arith, most, long, one)

behind-step : (all front : List Found) (slot : ℕ) (head : Created) (dropped : Bool) (rest back : List Found) →
    IsRun all front (own_found slot head dropped) rest back →
    is_run (names_created (without_slots front)) (without_slots (own_found slot head dropped ∷ rest)) ≡ true → (kept : List Record) (ss : List Stream) →
    AllByRecursion (λ s. head.number < s.number) ss → AreBehind (front ++ own_found slot head dropped ∷ rest) kept ss →
    AreBehind front (without_slots (cond (not dropped) (own_found slot head dropped ∷ rest) []) ++ kept)
    (cond dropped [] (stream_made (without_slots rest) head ∷ []) ++ ss)
behind-step all front slot head true rest back is run kept ss above behind =
    let room = room all front slot head true rest back is run kept ss behind in
    record {
      order = behind.order;
      sound = behind.sound;
      rise = behind.rise;
      apart = all_weaker _ _ (λ s two. two.0) ss (apart-both all front slot head true rest back is run kept ss behind);
      distinct = behind.distinct;
      few = λ fits. omega (arith, room);
    }
behind-step all front slot head false rest back is run kept ss above behind =
    let both = apart-both all front slot head false rest back is run kept ss behind in
    let room = room all front slot head false rest back is run kept ss behind in
    record {
      order = λ i. records.Stream head.number head.name head.params false ∷ (rest-order all front slot head rest back is run i ++ behind.order i);
      sound = (is-stream all front slot head rest back is run, behind.sound);
      rise = (above, behind.rise);
      apart = (
        not-true (list_any (same_name head.name) _) (may all front slot head false rest back is run kept ss behind).1,
        all_weaker _ _ (λ s two. two.0) ss both,
      );
      distinct = IsDistinct-cons same_name head.name (names_of ss)
          (map-all _ (λ (s : Stream). s.name) ss (all_weaker _ _ (λ s two. same_name-swap head.name s.name ∙ (or_parts _ _ two.1).0) ss both)) behind.distinct;
      few = λ fits. omega (arith, room);
    }

-- those of some records that are of streams that stand, and the streams that they make
abbrev IsStandingAmong : List Found → List Found → List Found → Type 0
IsStandingAmong all front left =
    AreBehind front (without_slots (standing_found (without_slots all) left)) (streams_made (without_slots all) (without_slots left))

behind-run : (all front : List Found) (slot : ℕ) (r : Record) (rest back : List Found) → IsRun all front (record { slot = slot; holds = r }) rest back →
    is_run (names_created (without_slots front)) (r ∷ without_slots rest) ≡ true →
    IsStandingAmong all (front ++ record { slot = slot; holds = r } ∷ rest) back →
    IsStandingAmong all front ((record { slot = slot; holds = r } ∷ rest) ++ back)
behind-run all front slot (records.Stream id name params dropped) rest back is run behind =
    let us = without_slots all in
    let head : Created = record { number = id; name = name; params = params } in
    let x = own_found slot head dropped in
    let stands : without_slots (standing_found us ((x ∷ rest) ++ back))
    ≡ without_slots (cond (not dropped) (x ∷ rest) []) ++ without_slots (standing_found us back) =
    ap without_slots (filter-append (λ (f : Found). stands_in us f.holds) (x ∷ rest) back
    ∙ ap (λ l. l ++ standing_found us back) (stands-run all front slot head dropped rest back is run))
    ∙ map-append (λ (f : Found). f.holds) (cond (not dropped) (x ∷ rest) []) (standing_found us back) in
    let made : streams_made us (without_slots ((x ∷ rest) ++ back))
    ≡ cond dropped [] (stream_made (without_slots rest) head ∷ []) ++ streams_made us (without_slots back) =
    ap (streams_made us) (map-append (λ (f : Found). f.holds) (x ∷ rest) back) ∙ streams_made-append us (without_slots (x ∷ rest)) (without_slots back)
    ∙ ap (λ ss. ss ++ streams_made us (without_slots back)) (made-run all front slot head dropped rest back is run) in
    rw (stands, made) (behind-step all front slot head dropped rest back is run _ _ (standing-above us id back is.above) behind)
behind-run all front slot _ rest back is run behind = absurd (cc)

-- the walk goes on to the end where the number of each record that is left is sound
walk : (all : List Found) (most : ℕ) (front left : List Found) → all ≡ front ++ left → length left ≤ most → AreBefore front left →
    AllByRecursion (λ f. IsUsable f.holds) all → Rises found_key all →
    AllByRecursion (λ f. is_sound_in_order (without_slots all) (found_number f) ≡ true) left → IsStandingAmong all front left
walk all most front [] whole few before usable order sound = record {
  order = refl;
  sound = tt;
  rise = tt;
  apart = tt;
  distinct = IsDistinct-from_apart same_name [] (λ i j d less within. absurd (omega (arith, within)));
  few = λ fits. omega (arith, fits);
}
walk all zero front (f ∷ tail) whole few before usable order sound = absurd (omega (arith, few))
walk all (suc most) front (f ∷ tail) whole few before usable order sound =
    let k = run_len (found_number f) tail in
    let rest = take k tail in
    let back = drop k tail in
    let is = next-run all front f tail rest back whole before usable order refl refl in
    let sounds = each-behind _ rest back
    (subst (AllByRecursion (λ g. is_sound_in_order (without_slots all) (found_number g) ≡ true)) (sym (take-append-drop k tail)) sound.1) in
    let behind = walk all most (front ++ f ∷ rest) back (is.whole ∙ sym (append_assoc front (f ∷ rest) back)) (omega (arith, few, length-drop k tail))
    (before-back all front f rest back is) usable order sounds in
    subst (λ l. IsStandingAmong all front (f ∷ l)) (take-append-drop k tail)
    (behind-run all front f.slot f.holds rest back is (sym (sound-run all front f rest back is) ∙ sound.0) behind)

pub IsState-sound : (all : List Found) → AllByRecursion (λ f. IsUsable f.holds) all → Rises found_key all →
    AllByRecursion (λ r. is_sound_in_order (without_slots all) (stream_of r) ≡ true) (without_slots all) → length all ≤ MOST_RECORDS →
    IsState (streams_made (without_slots all) (without_slots all))
IsState-sound all usable order sound few =
    let kept = standing_found (without_slots all) all in
    IsState-behind (without_slots kept) _
    (walk all (length all) [] all refl (omega arith) (all-each _ (λ g. tt) all) usable order (all-from_map _ (λ (f : Found). f.holds) all sound)) (omega (
      arith,
      few,
      length-map kept (λ (f : Found). f.holds),
      length-filter (λ (f : Found). stands_in (without_slots all) f.holds) all,
      count_by-le-length (λ (f : Found). stands_in (without_slots all) f.holds) all,
    ))
