-- What is held is what the map carries.
use Rattle.ss_parts.proofs.Lists.{all-from_map, all_both, all_weaker, filter_map-kept, kept, position-none}
use Rattle.ss_recover.proofs.Common.{[], ◌<◌, ◌∙◌, ◌∷◌, ◌≡◌, ◌≤◌, All, All-from_recursion, All-permutation, AllByRecursion, and_from, ap, ap₂, AreHeld, arith}
use Rattle.ss_recover.proofs.Common.{carries, Created, created_by, filter, filter_map, Free, HasWholeSlots, is_mark_of, is_none, IsDistinct, IsInStep}
use Rattle.ss_recover.proofs.Common.{IsPermutation, IsState, IsStream, IsStrictlyIncreasing, judged, keep_own_step, landmarks_made, length, length-map}
use Rattle.ss_recover.proofs.Common.{lies_free, List, list_all, live, lowest_bad_slot, lowest_bad_stream, map, map-map, marks_carried, MOST_RECORDS}
use Rattle.ss_recover.proofs.Common.{MOST_STREAMS, ne_eqb, None, not, Option, or_left, or_right, Record, records_in, records_of, recursion_from_All, refl}
use Rattle.ss_recover.proofs.Common.{rule_of, same_name, SlotMap, stands_alone, stands_by, stands_sound, Stream, stream_carried, stream_number, StreamParts}
use Rattle.ss_recover.proofs.Common.{streams_carried, streams_created, streams_standing, subst, sum_by-cons, sym, true, Window, window_of, windows_carried, ℕ}
use Rattle.ss_recover.specs.Carried.{spelled}
use Rattle.ss_recover.specs.Conditions.{is_sound}
use Rattle.ss_recover.specs.Parts.{carried}
use Rattle.ss_recover.proofs.HeldRecords.{all-number_of, all_walked, created, created-all_walked, every_slot_spells, HasOwn, HasOwn-each, made_of_records}
use Rattle.ss_recover.proofs.HeldRecords.{standing-all_walked}
use Rattle.ss_recover.proofs.InOrder.{in_order-IsPermutation, Rise, Rise-increasing}
use Rattle.ss_recover.proofs.Marks.{are_marks-marks_of, in_order-marks_of, landmarks_made-marks_of, length-marks_of, marks_of}
use Rattle.ss_recover.proofs.SoundStreams.{keep_step-IsInStep, own_step-apart, own_step-moved, Rise-AreWindows, stands_alone-each}
use Rattle.ss_recover.proofs.SoundStreams.{stands_alone-moved, tile-AreWindows, times_rise-AreWindows}
use Rattle.ss_recover.proofs.SoundNumbers.{is_sound-from, none_bad-AreSound}

-- the streams of a state, and of each the windows and the landmarks that records carry
abbrev Carries : List Record → Stream → Type 0
Carries records s = (windows_carried s.number records ≡ s.windows) × (landmarks_made (marks_carried s.number records) ≡ s.landmarks)

map-stream_carried : (records : List Record) (ss : List Stream) → AllByRecursion (Carries records) ss →
    map (stream_carried records) (map created ss) ≡ ss
map-stream_carried records [] each = refl
map-stream_carried records (s ∷ ss) each =
    let rest = map-stream_carried records ss each.1 in
    λ i. record { number = s.number; name = s.name; params = s.params; windows = each.0.0 i; landmarks = each.0.1 i } ∷ rest i

-- no stream needs more records than all of them
each-records_of : (ss : List Stream) (most : ℕ) → live ss ≤ most → AllByRecursion (λ s. records_of s ≤ most) ss
each-records_of [] most room = tt
each-records_of (s ∷ ss) most room = let all = sum_by-cons records_of s ss in (omega (arith, all, room), each-records_of ss most (omega (arith, all, room)))

-- where the numbers of streams rise, each keeps to the step of its own record where its windows keep to its step
pub own_step-each : (streams : List Stream) → Rise (λ (c : Created). c.number) (map created streams) →
    AllByRecursion (λ (s : Stream). All (IsInStep (rule_of s.params).step) s.windows) streams →
    AllByRecursion (λ (s : Stream). keep_own_step s.number (map created streams) s.windows ≡ true) streams
own_step-each [] rise each = tt
own_step-each (s ∷ ss) rise each =
    let apart = own_step-apart s.number s.windows (map created ss) (all_weaker _ _ (λ c lt same. absurd (omega (arith, lt, same))) (map created ss)
    rise.0) in (
      and_from _ _
          (or_right _ _ (keep_step-IsInStep s.params s.windows each.0)) apart,
      all_both _ _ _ (λ t lt rest.
          and_from _ _ (or_left _ _ (ap not (ne_eqb s.number t.number (λ same. absurd (omega (arith, lt, same)))))) rest)
          ss (all-from_map (λ (c : Created). s.number < c.number) created ss rise.0) (own_step-each ss rise.1 each.1),
    )

-- the streams of a state, where whatever is made of their records is made of these
module _ (streams : List Stream) (records : List Record) (state : IsState streams)
    (made : (Y : Type 0) (f : Record → Option Y) → f Free ≡ None → IsPermutation (filter_map f (all_walked streams)) (filter_map f records)) where
  rise_created : Rise (λ (s : Created). s.number) (map created streams)
  rise_created =
      Rise-increasing (λ (s : Created). s.number) (map created streams)
      (subst IsStrictlyIncreasing (sym (map-map (λ (s : Created). s.number) created streams)) state.numbers)

  each_is : AllByRecursion IsStream streams
  each_is = recursion_from_All IsStream streams state.each

  own : AllByRecursion (HasOwn streams) streams
  own = HasOwn-each streams (Rise-increasing (λ (s : Stream). s.number) streams state.numbers)

  -- the windows and the landmarks of each stream
  windows_are : AllByRecursion (λ s. windows_carried s.number records ≡ s.windows) streams
  windows_are =
      all_both _ _ _ (λ s has is.
      in_order-IsPermutation (λ (w : Window). w.first) (filter_map (window_of s.number) records) s.windows
      (subst (λ l. IsPermutation l (filter_map (window_of s.number) records)) has.windows (made Window (window_of s.number) refl))
      (Rise-AreWindows s.windows is.windows)) streams own each_is

  abbrev MarksAre : Stream → Type 0
  MarksAre s = marks_carried s.number records ≡ marks_of s.number 1 s.landmarks

  marks_are : AllByRecursion MarksAre streams
  marks_are =
      all_both _ _ _ (λ s has room.
      let kept_own = filter_map-kept (is_mark_of s.number) (all_walked streams) ∙ has.marks in
      let moved = subst (λ l. IsPermutation l (filter_map (kept (is_mark_of s.number)) records)) kept_own (made Record (kept (is_mark_of s.number)) refl) in
      in_order-marks_of s.number 1 s.landmarks (filter (is_mark_of s.number) records)
      (subst (IsPermutation (marks_of s.number 1 s.landmarks)) (filter_map-kept (is_mark_of s.number) records) moved)
      (omega (arith, length-marks_of s.number 1 s.landmarks, room))) streams own (each-records_of streams MOST_RECORDS state.room)

  carries_each : AllByRecursion (Carries records) streams
  carries_each =
      let Windows : Stream → Type 0 = λ s. windows_carried s.number records ≡ s.windows in
      let Both : Stream → Type 0 = λ s. Windows s × MarksAre s in
      all_both _ _ _ (λ s both is. (both.0, ap landmarks_made both.1 ∙ landmarks_made-marks_of s.number s.landmarks)) streams
      (all_both Windows MarksAre Both (λ s windows marks. (windows, marks)) streams windows_are marks_are) each_is

  streams_are : streams_carried records ≡ streams
  streams_are =
      let standing = subst (λ l. IsPermutation l (streams_standing records)) (standing-all_walked streams) (made Created stands_by refl) in
      ap (map (stream_carried records))
      (in_order-IsPermutation (λ (s : Created). s.number) (streams_standing records) (map created streams) standing rise_created)
      ∙ map-stream_carried records streams carries_each

  moved : IsPermutation (map created streams) (streams_created records)
  moved = subst (λ l. IsPermutation l (streams_created records)) (created-all_walked streams) (made Created created_by refl)

  few : length (map created streams) ≤ MOST_STREAMS
  few = omega (arith, state.few, length-map streams created)

  -- the conditions
  alone : AllByRecursion (λ (s : Stream). stands_alone s.number (streams_created records) ≡ true) streams
  alone =
      let names = subst (IsDistinct same_name) (sym (map-map (λ (s : Created). s.name) created streams)) state.names in
      all-from_map (λ s. stands_alone s.number (streams_created records) ≡ true) created streams (all_weaker _ _
      (λ s is. sym (stands_alone-moved s.number (map created streams) (streams_created records) moved) ∙ is) (map created streams)
      (stands_alone-each (map created streams) rise_created names few))

  keep_each : AllByRecursion (λ (s : Stream). keep_own_step s.number (map created streams) s.windows ≡ true) streams
  keep_each =
      own_step-each streams rise_created (all_weaker _ _ (λ s is. is.steps) streams
      each_is)

  sound : AllByRecursion (λ s. is_sound records s.number ≡ true) streams
  sound =
      let Alone : Stream → Type 0 = λ s. stands_alone s.number (streams_created records) ≡ true in
      let Own : Stream → Type 0 = MarksAre in
      let Both : Stream → Type 0 = λ s. Carries records s × Own s in
      let Kept : Stream → Type 0 = λ s. IsStream s × (keep_own_step s.number (map created streams) s.windows ≡ true) in
      let All : Stream → Type 0 = λ s. Both s × Kept s in
      all_both _ _ _ (λ s one all.
      let windows = all.1.0.windows in
      let free = ap (λ ls. list_all (lies_free ls) s.windows) (landmarks_made-marks_of s.number s.landmarks) ∙ all.1.0.free in
      let steps = sym (own_step-moved s.number s.windows (map created streams) (streams_created records) moved) ∙ all.1.1 in
      is_sound-from records s.number one (or_right _ _ (ap₂ (stands_sound s.number (streams_created records)) all.0.0.0 all.0.1
      ∙ and_from _ _ (and_from _ _ (and_from _ _ (and_from _ _ (tile-AreWindows s.windows windows) (times_rise-AreWindows s.windows windows))
      (are_marks-marks_of s.number s.landmarks all.1.0.landmarks)) free) steps)))
      streams alone (all_both Both Kept All (λ s both is. (both, is)) streams
      (all_both _ _ _ (λ s carries marks. (carries, marks)) streams carries_each
      marks_are) (all_both _ _ _ (λ s is keep. (is, keep)) streams each_is keep_each))

  pub none_bad : lowest_bad_stream records ≡ None
  none_bad =
      let numbers = filter_map stream_number records in
      let P : ℕ → Type 0 = λ number. is_sound records number ≡ true in
      let all : AllByRecursion P numbers =
      recursion_from_All P numbers (All-permutation P (filter_map stream_number (all_walked streams)) numbers (made ℕ stream_number refl)
      (All-from_recursion P (filter_map stream_number (all_walked streams)) (all-number_of P streams sound))) in
      none_bad-AreSound records all

-- what is held over a map of whole slots
pub carried-AreHeld : (parts : List StreamParts) (streams : List Stream) (found : SlotMap) → HasWholeSlots found → AreHeld parts streams found →
    carried found ≡ carries streams
unfolding carried
carried-AreHeld parts streams found whole held =
    let rs = records_in (spelled found) in
    let slot : lowest_bad_slot (spelled found) ≡ None = position-none is_none (spelled found) (every_slot_spells parts streams found whole held) in
    ap (λ o. judged o (lowest_bad_stream rs) (streams_carried rs)) slot
    ∙ ap (λ o. judged None o (streams_carried rs)) (none_bad streams rs held.state (λ Y f free. made_of_records parts streams found whole held f free))
    ∙ ap (judged None None)
    (streams_are streams rs held.state (λ Y f free. made_of_records parts streams found whole held f free))
