-- A call that adds an event of landmarks: what it turns the disk into, and what is held after it.
use Rattle.ss_stream.proofs.Common.{◌≡◌, ◌∙◌, ℕ, ℤ, ◌+◌, ◌-◌, ◌≤◌, Bool, List, [], ◌∷◌, ◌++◌, length, refl, ap, sym, subst, arith, length-append}
use Rattle.ss_stream.proofs.Common.{IsPermutation, Option, None, Some, MatchOption, ⊎_elim, IsTrue, Result, option_map, slice_index}
use Rattle.ss_stream.proofs.Common.{IsPermutation-refl, IsPermutation-sym, Told, LAST_TIME, is_valid, Record, IsValue-is_valid, Landmark, LandmarkValue}
use Rattle.ss_stream.proofs.Common.{all_values, closed_at, open_landmark, opened_at, with_value, AreKnown, CanClose, all_values-close, all_values-open}
use Rattle.ss_stream.proofs.Common.{all_values-take, CanBeSaid, later, with_closed, IsStream, Stream, Agrees, all_value_records, in_slots, landmark_record}
use Rattle.ss_stream.proofs.Common.{landmark_records, mark_slots, marks_held, records_held, slots_held, window_slots, windows_held, StreamParts, RecordsState}
use Rattle.ss_stream.proofs.Common.{shown_by, TurnsShown, IsHeldIn, without_spare, CanMark, FitsMark, IsItsSlot, event_of, landmarks_after, mark_record}
use Rattle.ss_stream.proofs.Common.{mark_refusal, slots_after, value_slots_after, slots_used, values_open, with_mark, AreSomeLive, LiveSlotsGo, StagesRecord}
use Rattle.ss_stream.proofs.Common.{live_slots, HasRecords, Mark, Open, Close, HasRecords-permutation}
use Rattle.std.specs.Prelude.{◌⊎◌}
use Rattle.ss_codec.specs.declared.record.Record.TheVariants as records
use Rattle.ss_landmarks.specs.Landmarks.{opened}
use Rattle.ss_landmarks.proofs.OrderLemmas.{AreLandmarks-close, AreLandmarks-take, FollowFrom-open}
use Rattle.ss_model.proofs.StreamLemmas.{length-change_last}
use Rattle.ss_stream.specs.Slots.{StagesReplaced}
use Rattle.ss_stream.specs.declared.marking.Mark.TheVariants.{Value}
use Rattle.ss_stream.proofs.ShownCalls.{TurnsShown-weaker}
use Rattle.ss_stream.proofs.LiveSlots.{AreSomeLive-permutation, LiveSlotsGo-beside, LiveSlotsGo-permutation}
use Rattle.ss_stream.proofs.OpenMarks.{HasOpen, HasOpen-can, change-has, closes, count-has, start-has, takes, values-has}
use Rattle.ss_stream.proofs.Marked.{Agrees-mark, HaveSlots, IsAdding, IsMarked, IsStream-mark, last-slot, marks-added, marks-last}
use Rattle.ss_stream.proofs.Marked.{marks_after, moved-beside, moved-in, pushed-first, pushed-second, same_window_slots, same_windows}

-- ---- the call

module _ (part new : StreamParts) (slot t : ℕ) (mark : Mark) (marked : IsMarked part new slot t mark) (can : CanMark part.landmarks.landmarks t mark)
    (accepted : mark_refusal part t mark ≡ None) (early : t ≤ LAST_TIME) (valid : IsTrue (is_valid (mark_record part t mark)))
    (others : List (ℕ × Option Record)) (s : Stream) where
  IsHeldIn-mark : (image : List ℕ) → Agrees part s → IsStream s →
      HasRecords ((windows_held (part, s) ++ marks_held (new, with_mark s t mark)) ++ others) image →
      IsHeldIn others new (with_mark s t mark) image
  IsHeldIn-mark image agrees stream has = record {
    agrees = Agrees-mark part new slot t mark s marked can accepted agrees stream;
    stream = IsStream-mark part t mark s can accepted early valid agrees stream;
    records = subst (λ ws. HasRecords ((ws ++ marks_held (new, with_mark s t mark)) ++ others) image) (sym (same_windows part new slot t mark marked s)) has;
  }

  -- a call turns records into those of the stream afterwards
  Turns-mark : {T E : Type 0} (records_was records_is : RecordsState) (before now : List (ℕ × Option Record)) (old after : Told) (result : Result T E) →
      (Agrees part s → IsStream s → IsPermutation before (records_held (part, s) ++ others)) →
      (Agrees part s → IsStream s → IsPermutation now ((windows_held (part, s) ++ marks_held (new, with_mark s t mark)) ++ others)) →
      TurnsShown records_was records_is (HasRecords before) (HasRecords before) (HasRecords now) old after result →
      TurnsShown records_was records_is (IsHeldIn others part s) (IsHeldIn others part s) (IsHeldIn others new (with_mark s t mark)) old after result
  Turns-mark records_was records_is before now old after result was is turns =
      TurnsShown-weaker records_was records_is (HasRecords before) (IsHeldIn others part s) (HasRecords before) (IsHeldIn others part s)
      (HasRecords now) (IsHeldIn others new (with_mark s t mark)) old after result
      (λ held.
      HasRecords-permutation (records_held (part, s) ++ others) before (shown_by records_was old.content)
      (IsPermutation-sym before (records_held (part, s) ++ others) (was held.agrees held.stream)) held.records)
      (λ held image stays. record {
        agrees = held.agrees;
        stream = held.stream;
        records = HasRecords-permutation before (records_held (part, s) ++ others) image (was held.agrees held.stream) stays;
      })
      (λ held image has. IsHeldIn-mark image held.agrees held.stream (HasRecords-permutation now _ image (is held.agrees held.stream) has))
      turns

  -- a record that is put into a free slot
  pub Turns-added : {T E : Type 0} (records_was records_is : RecordsState) (old after : Told) (result : Result T E) → IsAdding mark →
      StagesRecord slot (mark_record part t mark) records_was records_is result old after →
      TurnsShown records_was records_is (IsHeldIn others part s) (IsHeldIn others part s) (IsHeldIn others new (with_mark s t mark)) old after result
  Turns-added records_was records_is old after result adding adds =
      let before = records_held (part, s) ++ others in
      let r = mark_record part t mark in
      Turns-mark records_was records_is before ((slot, Some r) ∷ before) old after result (λ agrees stream. IsPermutation-refl before)
      (λ agrees stream.
      rw (marks_after part new slot t mark marked s)
      (moved-in (windows_held (part, s)) (marks_held (part, s)) _ others (slot, Some r) (marks-added part slot t mark s adding can agrees stream)))
      (adds before)

-- the open landmark's slot is the last of those of landmarks
pub record IsLastSlot (part : StreamParts) (slot : ℕ) : Type 0 where
  pub has : HasOpen 0 part.landmarks.landmarks
  pub firsts : List ℕ
  pub is : part.landmarks.slots ≡ firsts ++ slot ∷ []

abbrev figures : StreamParts → Landmark → ℕ × ℕ × ℕ
figures part l = (l.start, slice_index part.landmarks.slots (length part.landmarks.slots - 1), length l.values)

slot-opened : (part : StreamParts) (slot : ℕ) (o : Option Landmark) → MatchOption (option_map (figures part) o) ⊥ (λ p. p.1 ≡ slot) →
    slice_index part.landmarks.slots (length part.landmarks.slots - 1) ≡ slot
slot-opened part slot None is = absurd is
slot-opened part slot (Some l) is = is

IsLastSlot-closing : (part : StreamParts) (slot t : ℕ) → AreKnown part.landmarks → CanClose part.landmarks.landmarks t →
    MatchOption (opened part.landmarks) ⊥ (λ o. o.1 ≡ slot) → IsLastSlot part slot
IsLastSlot-closing part slot t known can in_slot =
    let ls = part.landmarks.landmarks in
    let has = HasOpen-can (closes t) ls known.order can in
    let at = slot-opened part slot (open_landmark ls) in_slot in
    let split = last-slot part.landmarks.slots (length part.landmarks.slots - 1) slot (omega (arith, count-has ls has, known.slots)) at in
    record { has = has; firsts = split.0; is = split.1 }

-- a record that is put in place of the open landmark's
Turns-replaced : (part new : StreamParts) (slot t : ℕ) → IsMarked part new slot t Close → CanMark part.landmarks.landmarks t Close →
    mark_refusal part t Close ≡ None → t ≤ LAST_TIME → IsTrue (is_valid (mark_record part t Close)) → AreKnown part.landmarks → IsLastSlot part slot →
    (others : List (ℕ × Option Record)) (s : Stream) →
    {T E : Type 0} (records_was records_is : RecordsState) (old after : Told) (result : Result T E) →
    StagesReplaced slot (mark_record part t Close) records_was records_is result old after →
    TurnsShown records_was records_is (IsHeldIn others part s) (IsHeldIn others part s) (IsHeldIn others new (with_mark s t Close)) old after result
Turns-replaced part new slot t marked can accepted early valid known last others s records_was records_is old after result replaces =
    let ls = part.landmarks.landmarks in
    let has = last.has in
    let k = length has.before + 1 in
    let have : HaveSlots part.landmarks.slots part.landmarks.value_slots ls = record { own = known.slots; values = known.value_slots } in
    let ms = in_slots last.firsts (landmark_records s.number 1 has.before) ++ in_slots part.landmarks.value_slots (all_value_records s.number 1 ls) in
    let rest = (windows_held (part, s) ++ ms) ++ others in
    let was = landmark_record s.number k has.last in
    let r = mark_record part t Close in
    Turns-mark part new slot t Close marked can accepted early valid others s records_was records_is ((slot, Some was) ∷ rest) ((slot, Some r) ∷ rest)
    old after result
    (λ agrees stream.
    moved-in (windows_held (part, s)) ms (marks_held (part, s)) others (slot, Some was) (rw (← agrees.landmarks)
    (marks-last s.number part.landmarks.slots part.landmarks.value_slots ls have t has ls has.last last.firsts slot last.is has.is refl)))
    (λ agrees stream.
    let number = agrees.number in
    let count = count-has ls has in
    let values = values-has ls has in
    let start = start-has ls has in
    let is : r ≡ landmark_record s.number k (closed_at t has.last) = λ i. records.Landmark (number i) (count i) (values i) (start i) (Some t) in
    let closed = marks-last s.number part.landmarks.slots part.landmarks.value_slots ls have t has (with_closed ls t) (closed_at t has.last)
    last.firsts slot last.is
    (change-has (closed_at t) 0 ls has) refl in
    rw (marks_after part new slot t Close marked s) (moved-in (windows_held (part, s)) ms _ others (slot, Some r)
    (rw (← agrees.landmarks) (rw (← is) at closed)))) (replaces (Some was) rest)

-- ---- the slots afterwards

mark_slots-added : (part : StreamParts) (slot : ℕ) (mark : Mark) → IsAdding mark →
    IsPermutation (slot ∷ mark_slots part) (slots_after part.landmarks.slots slot mark ++ value_slots_after part.landmarks.value_slots slot mark)
mark_slots-added part slot Open adding = pushed-first part.landmarks.slots part.landmarks.value_slots slot
mark_slots-added part slot (Value v) adding = pushed-second part.landmarks.slots part.landmarks.value_slots slot
mark_slots-added part slot Close adding = absurd adding

-- a slot more
pub LiveSlotsGo-mark_added : (part new : StreamParts) (slot t : ℕ) (mark : Mark) → IsMarked part new slot t mark → IsAdding mark → (live live_now : List Bool) →
    LiveSlotsGo [] (slot ∷ []) live live_now → LiveSlotsGo (slots_held part) (slots_held new) live live_now
LiveSlotsGo-mark_added part new slot t mark marked adding live live_now go =
    let ws = window_slots part in
    let now = slots_after part.landmarks.slots slot mark ++ value_slots_after part.landmarks.value_slots slot mark in
    let windows = same_window_slots part new slot t mark marked in
    let own = marked.slots in
    let values = marked.value_slots in
    let is : slots_held new ≡ ws ++ now = λ i. windows i ++ (own i ++ values i) in
    LiveSlotsGo-permutation (slots_held part) (slots_held part) (slot ∷ slots_held part) (slots_held new) live live_now (IsPermutation-refl (slots_held part))
    (rw is (moved-beside ws (mark_slots part) now slot (mark_slots-added part slot mark adding)))
    (LiveSlotsGo-beside (slots_held part) [] (slot ∷ []) live live_now go)

-- the same slots
LiveSlotsGo-closed : (part new : StreamParts) (slot t : ℕ) → IsMarked part new slot t Close → (live live_now : List Bool) → live_now ≡ live →
    LiveSlotsGo (slots_held part) (slots_held new) live live_now
LiveSlotsGo-closed part new slot t marked live live_now same others is =
    let windows = same_window_slots part new slot t Close marked in
    let own = marked.slots in
    let values = marked.value_slots in
    let slots : slots_held new ≡ slots_held part = λ i. windows i ++ (own i ++ values i) in
    rw same (subst (λ l. IsPermutation (l ++ others) (live_slots live)) (sym slots) is)

-- the open landmark's slot is live
pub AreSomeLive-last : (part : StreamParts) (slot : ℕ) (live : List Bool) → IsLastSlot part slot → AreSomeLive (slots_held part) live →
    AreSomeLive (slot ∷ []) live
AreSomeLive-last part slot live last some =
    let ws = window_slots part in
    let rest = last.firsts ++ part.landmarks.value_slots in
    let marks : IsPermutation (slot ∷ rest) (mark_slots part) =
    rw last.is (pushed-first last.firsts part.landmarks.value_slots slot) in
    let moved : IsPermutation (slot ∷ (ws ++ rest)) (slots_held part) = moved-beside ws rest (mark_slots part) slot marks in
    let first = AreSomeLive-permutation (slots_held part) (slot ∷ (ws ++ rest)) live (IsPermutation-sym (slot ∷ (ws ++ rest)) (slots_held part) moved) some in
    ((ws ++ rest) ++ first.0, first.1)

-- ---- what is held afterwards, where the call fails

-- what would be held, with no room to spare
abbrev pub marked_part : StreamParts → ℕ → ℕ → Mark → StreamParts
marked_part part slot t mark =
    record part {
      last_time = later part.last_time (Some t);
      landmarks = record {
        landmarks = landmarks_after part.landmarks.landmarks t mark;
        slots = slots_after part.landmarks.slots slot mark;
        value_slots = value_slots_after part.landmarks.value_slots slot mark;
        room = 0;
        value_room = 0;
      };
    }

AreKnown-after : (part : StreamParts) (slot t : ℕ) (mark : Mark) → AreKnown part.landmarks → CanMark part.landmarks.landmarks t mark →
    IsTrue (is_valid (mark_record part t mark)) → t ≤ LAST_TIME → 1 ≤ part.landmarks.room → 1 ≤ part.landmarks.value_room →
    AreKnown (marked_part part slot t mark).landmarks
AreKnown-after part slot t Open known can valid early room value_room =
    let ls = part.landmarks.landmarks in
    let one = length-append ls (opened_at t ∷ []) in
    record {
      order = FollowFrom-open 0 t ls known.order can (omega arith) early;
      slots = omega (arith, known.slots, one, length-append part.landmarks.slots (slot ∷ []));
      value_slots = known.value_slots ∙ ap length (sym (all_values-open ls t));
      most = omega (arith, known.most, room, one);
      most_values = omega (arith, known.most_values, value_room);
    }
AreKnown-after part slot t (Value v) known can valid early room value_room =
    let ls = part.landmarks.landmarks in
    let value : LandmarkValue = record { t = t; v = v } in
    let has = HasOpen-can (takes t) ls known.order can in
    let r = IsValue-is_valid part.id.0 (length ls) (values_open ls + 1) t v valid in
    let same = length-change_last (with_value value) ls in
    let one = length-append part.landmarks.value_slots (slot ∷ []) in
    let values = ap length (all_values-take ls value (omega (arith, count-has ls has))) in
    record {
      order = AreLandmarks-take ls value known.order can early r.fits;
      slots = known.slots ∙ sym same;
      value_slots = omega (arith, known.value_slots, one, values, length-append (all_values ls) (value ∷ []));
      most = omega (arith, known.most, same);
      most_values = omega (arith, known.most_values, value_room, one);
    }
AreKnown-after part slot t Close known can valid early room value_room =
    let ls = part.landmarks.landmarks in
    let same = length-change_last (closed_at t) ls in
    record {
      order = AreLandmarks-close ls t known.order can early;
      slots = known.slots ∙ sym same;
      value_slots = known.value_slots ∙ ap length (sym (all_values-close ls t));
      most = omega (arith, known.most, same);
      most_values = omega (arith, known.most_values);
    }

pub IsMarked-marked_part : (part : StreamParts) (slot t : ℕ) (mark : Mark) → AreKnown part.landmarks → CanMark part.landmarks.landmarks t mark →
    IsTrue (is_valid (mark_record part t mark)) → t ≤ LAST_TIME → 1 ≤ part.landmarks.room → 1 ≤ part.landmarks.value_room →
    IsMarked part (marked_part part slot t mark) slot t mark
IsMarked-marked_part part slot t mark known can valid early room value_room = record {
  id = refl;
  name = refl;
  target = refl;
  own_slot = refl;
  entries = refl;
  last_time = refl;
  landmarks = refl;
  slots = refl;
  value_slots = refl;
  known = AreKnown-after part slot t mark known can valid early room value_room;
}

-- ---- by what the event is

pub IsAdding-is : (mark : Mark) → (mark ≡ Open) ⊎ ((v : ℤ) × (mark ≡ Value v)) → IsAdding mark
IsAdding-is mark is = ⊎_elim (λ same. rw same tt) (λ same. rw same.1 tt) is

-- a new record uses one slot more
pub slots_used-adding : (mark : Mark) (slot : ℕ) → IsAdding mark → slots_used mark slot ≡ slot + 1
slots_used-adding Open slot adding = refl
slots_used-adding (Value v) slot adding = refl
slots_used-adding Close slot adding = absurd adding

pub IsLastSlot-is : (part : StreamParts) (slot t : ℕ) (live : List Bool) (mark : Mark) → mark ≡ Close → AreKnown part.landmarks →
    CanMark part.landmarks.landmarks t mark → IsItsSlot live part mark slot → IsLastSlot part slot
IsLastSlot-is part slot t live Open is known can in_slot = cc
IsLastSlot-is part slot t live (Value v) is known can in_slot = cc
IsLastSlot-is part slot t live Close is known can in_slot = IsLastSlot-closing part slot t known can in_slot

pub Turns-closed : (part new : StreamParts) (slot t : ℕ) (mark : Mark) → mark ≡ Close → IsMarked part new slot t mark →
    CanMark part.landmarks.landmarks t mark → mark_refusal part t mark ≡ None → t ≤ LAST_TIME → IsTrue (is_valid (mark_record part t mark)) →
    AreKnown part.landmarks → IsLastSlot part slot → (others : List (ℕ × Option Record)) (s : Stream) →
    {T E : Type 0} (records_was records_is : RecordsState) (old after : Told) (result : Result T E) →
    StagesReplaced slot (mark_record part t mark) records_was records_is result old after →
    TurnsShown records_was records_is (IsHeldIn others part s) (IsHeldIn others part s) (IsHeldIn others new (with_mark s t mark)) old after result
Turns-closed part new slot t Open is marked can accepted early valid known last others s records_was records_is old after result replaces = cc
Turns-closed part new slot t (Value v) is marked can accepted early valid known last others s records_was records_is old after result replaces = cc
Turns-closed part new slot t Close is marked can accepted early valid known last others s records_was records_is old after result replaces =
    Turns-replaced part new slot t marked can accepted early valid known last others s records_was records_is old after result replaces

pub LiveSlotsGo-mark_closed : (part new : StreamParts) (slot t : ℕ) (mark : Mark) → mark ≡ Close → IsMarked part new slot t mark → (live live_now : List Bool) →
    live_now ≡ live → LiveSlotsGo (slots_held part) (slots_held new) live live_now
LiveSlotsGo-mark_closed part new slot t Open is marked live live_now same = cc
LiveSlotsGo-mark_closed part new slot t (Value v) is marked live live_now same = cc
LiveSlotsGo-mark_closed part new slot t Close is marked live live_now same = LiveSlotsGo-closed part new slot t marked live live_now same

-- a value that has a valid record is of 64 bits
pub FitsMark-valid : (part : StreamParts) (t : ℕ) (mark : Mark) → IsTrue (is_valid (mark_record part t mark)) → FitsMark mark
FitsMark-valid part t Open valid = tt
FitsMark-valid part t (Value v) valid =
    (IsValue-is_valid part.id.0 (length part.landmarks.landmarks) (values_open part.landmarks.landmarks + 1) t v valid).fits
FitsMark-valid part t Close valid = tt

-- and it can be said
pub CanBeSaid-mark : (name : List ℕ) (t : ℕ) (mark : Mark) → t ≤ LAST_TIME → FitsMark mark → CanBeSaid (event_of name t mark)
CanBeSaid-mark name t Open early fits = early
CanBeSaid-mark name t (Value v) early fits = (early, fits)
CanBeSaid-mark name t Close early fits = early

-- room to spare says nothing of what is refused
pub mark_refusal-same : (part other : StreamParts) (t : ℕ) (mark : Mark) → without_spare part ≡ without_spare other →
    mark_refusal part t mark ≡ mark_refusal other t mark
mark_refusal-same part other t mark same = ap (λ (p : StreamParts). mark_refusal p t mark) same
