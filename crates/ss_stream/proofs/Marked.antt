-- A stream whose landmarks take an event: what it is afterwards, and which records and slots it has.
use Rattle.ss_stream.proofs.Common.{◌≡◌, ◌∙◌, ℕ, zero, suc, ℤ, ◌+◌, ◌≤◌, true, not, ◌&&◌, List, [], ◌∷◌, ◌++◌, length, map, zip, refl, ap, ap₂, sym}
use Rattle.ss_stream.proofs.Common.{arith, append_assoc, length-append, IsPermutation, Option, None, Some, IsTrue, ⊤, slice_index, All-cons, All-head, All-nil}
use Rattle.ss_stream.proofs.Common.{All-tail, IsPermutation-append_left, IsPermutation-append_right, IsPermutation-middle, IsPermutation-sym}
use Rattle.ss_stream.proofs.Common.{IsPermutation-to_front, IsPermutation-trans, LAST_TIME, StreamId, is_valid, Record, IsValue-is_valid, Landmark}
use Rattle.ss_stream.proofs.Common.{LandmarkValue, all_values, change_last, opened_at, with_value, AreKnown, AllEndBy, EndsBy, Entry, params_of, has_open}
use Rattle.ss_stream.proofs.Common.{later, latest_in, latest_of, with_marked, with_opened, is_before, is_early, is_opening, is_past, IsStream, Stream}
use Rattle.ss_stream.proofs.Common.{newest_time, Agrees, all_value_records, entries_of, in_slots, landmark_record, landmark_records, marks_held, span_held}
use Rattle.ss_stream.proofs.Common.{stream_record, times_held, value_records, window_record, window_slots, windows_held, StreamParts, latest_of-last}
use Rattle.ss_stream.proofs.Common.{length-all_value_records, length-landmark_records, IsPermutation-same, outline_held, CanMark, landmarks_after}
use Rattle.ss_stream.proofs.Common.{mark_record, mark_refusal, slots_after, value_slots_after, values_open, with_mark, Mark, Open, Close}
use Rattle.std.proofs.Common.{is_some, max, append-nil}
use Rattle.ss_codec.specs.declared.record.Record.TheVariants as records
use Rattle.ss_model.proofs.StreamLemmas.{IsStream-closed, IsStream-marked, IsStream-opened, newest-past}
use Rattle.ss_parts.specs.Held.{values_said}
use Rattle.ss_model.specs.Outline.{outline_of}
use Rattle.ss_model.specs.Refusals.{has_most_values}
use Rattle.ss_parts.proofs.MarkRecords.{all_value_records-append, landmark_records-append, value_records-append}
use Rattle.ss_stream.specs.declared.marking.Mark.TheVariants.{Value}
use Rattle.ss_stream.proofs.OpenMarks.{AllEndBy-can, HasOpen, HasOpen-can, change-has, closes, count-has, later-last, latest_of-after, newest-open}
use Rattle.ss_stream.proofs.OpenMarks.{open-has, takes, two-passed, values-has}

-- ---- records in slots

in_slots-push : (slots : List ℕ) (held : List Record) (slot : ℕ) (r : Record) → length slots ≡ length held →
    in_slots (slots ++ slot ∷ []) (held ++ r ∷ []) ≡ in_slots slots held ++ (slot, Some r) ∷ []
in_slots-push [] [] slot r long = refl
in_slots-push [] (h ∷ hs) slot r long = absurd (omega (arith, long))
in_slots-push (s ∷ ss) [] slot r long = absurd (omega (arith, long))
in_slots-push (s ∷ ss) (h ∷ hs) slot r long = ap (λ l. (s, Some h) ∷ l) (in_slots-push ss hs slot r (omega (arith, long)))

-- the records of landmarks in these slots, and of their values in those
abbrev pub marks_in : ℕ → List ℕ → List ℕ → List Landmark → List (ℕ × Option Record)
marks_in number slots value_slots ls =
    in_slots slots (landmark_records number 1 ls) ++ in_slots value_slots (all_value_records number 1 ls)

-- each landmark has a slot, and each value
pub record HaveSlots (slots value_slots : List ℕ) (ls : List Landmark) : Type 0 where
  pub own : length slots ≡ length ls
  pub values : length value_slots ≡ length (all_values ls)

-- one more comes last in front of others
pub pushed-first : {X : Type 0} (xs ys : List X) (x : X) → IsPermutation (x ∷ (xs ++ ys)) ((xs ++ x ∷ []) ++ ys)
pushed-first xs ys x =
    IsPermutation-append_left ys (x ∷ xs) (xs ++ x ∷ []) (IsPermutation-sym (xs ++ x ∷ []) (x ∷ xs) (IsPermutation-to_front xs x))

-- or after them
pub pushed-second : {X : Type 0} (xs ys : List X) (x : X) → IsPermutation (x ∷ (xs ++ ys)) (xs ++ (ys ++ x ∷ []))
pushed-second xs ys x =
    IsPermutation-trans (x ∷ (xs ++ ys)) ((xs ++ ys) ++ x ∷ []) (xs ++ (ys ++ x ∷ []))
    (IsPermutation-sym ((xs ++ ys) ++ x ∷ []) (x ∷ (xs ++ ys)) (IsPermutation-to_front (xs ++ ys) x))
    (IsPermutation-same ((xs ++ ys) ++ x ∷ []) (xs ++ (ys ++ x ∷ [])) (append_assoc xs ys (x ∷ [])))

module _ (number : ℕ) (slots value_slots : List ℕ) (ls : List Landmark) (have : HaveSlots slots value_slots ls) (t : ℕ) where
  -- an opening puts its record last among those of landmarks
  marks-opened : (slot : ℕ) → IsPermutation ((slot, Some (records.Landmark number (length ls + 1) 0 t None)) ∷ marks_in number slots value_slots ls)
      (marks_in number (slots ++ slot ∷ []) value_slots (with_opened ls t))
  marks-opened slot =
      let r = records.Landmark number (length ls + 1) 0 t None in
      let first : in_slots (slots ++ slot ∷ []) (landmark_records number 1 (with_opened ls t))
      ≡ in_slots slots (landmark_records number 1 ls) ++ (slot, Some r) ∷ [] =
      ap (in_slots (slots ++ slot ∷ [])) (landmark_records-append number 1 (length ls + 1) ls (opened_at t) (omega arith))
      ∙ in_slots-push slots (landmark_records number 1 ls) slot r (omega (arith, have.own, length-landmark_records number 1 ls)) in
      let second : all_value_records number 1 (with_opened ls t) ≡ all_value_records number 1 ls =
      all_value_records-append number 1 (length ls + 1) ls (opened_at t) (omega arith) ∙ append-nil (all_value_records number 1 ls) in
      let is : marks_in number (slots ++ slot ∷ []) value_slots (with_opened ls t)
      ≡ (in_slots slots (landmark_records number 1 ls) ++ (slot, Some r) ∷ []) ++ in_slots value_slots (all_value_records number 1 ls) =
      λ i. first i ++ in_slots value_slots (second i) in
      rw is (pushed-first (in_slots slots (landmark_records number 1 ls)) (in_slots value_slots (all_value_records number 1 ls)) (slot, Some r))

  module _ (has : HasOpen 0 ls) where
    -- of the landmark that is open
    values-before : all_value_records number 1 ls ≡ all_value_records number 1 has.before ++ value_records number (length has.before + 1) 1 has.last.values
    values-before =
        ap (all_value_records number 1) has.is ∙ all_value_records-append number 1 (length has.before + 1) has.before has.last (omega arith)

    -- landmarks of which the last is changed
    records-changed : (change : Landmark → Landmark) → landmark_records number 1 (change_last change ls)
        ≡ landmark_records number 1 has.before ++ landmark_record number (length has.before + 1) (change has.last) ∷ []
    records-changed change =
        ap (landmark_records number 1) (change-has change 0 ls has)
        ∙ landmark_records-append number 1 (length has.before + 1) has.before (change has.last) (omega arith)

    records-last : landmark_records number 1 ls ≡ landmark_records number 1 has.before ++ landmark_record number (length has.before + 1) has.last ∷ []
    records-last = ap (landmark_records number 1) has.is ∙ landmark_records-append number 1 (length has.before + 1) has.before has.last (omega arith)

    -- an open landmark's record says no number of values
    said-none : (l : Landmark) → l.finish ≡ None → values_said l ≡ 0
    said-none l begun = rw begun refl

    -- a value puts its record last among those of values
    marks-valued : (slot : ℕ) (v : ℤ) →
        IsPermutation ((slot, Some (records.Value number (length ls) (length has.last.values + 1) t v)) ∷ marks_in number slots value_slots ls)
        (marks_in number slots (value_slots ++ slot ∷ []) (with_marked ls t v))
    marks-valued slot v =
        let value : LandmarkValue = record { t = t; v = v } in
        let k = length has.before + 1 in
        let r = records.Value number k (length has.last.values + 1) t v in
        let count : length ls ≡ k = count-has ls has in
        let same : landmark_record number k (with_value value has.last) ≡ landmark_record number k has.last =
        ap (λ said. records.Landmark number k said has.last.start has.last.finish)
        (said-none (with_value value has.last) has.begun ∙ sym (said-none has.last has.begun)) in
        let first : landmark_records number 1 (with_marked ls t v) ≡ landmark_records number 1 ls =
        records-changed (with_value value) ∙ ap (λ x. landmark_records number 1 has.before ++ x ∷ []) same ∙ sym records-last in
        let second : all_value_records number 1 (with_marked ls t v) ≡ all_value_records number 1 ls ++ r ∷ [] =
        ap (all_value_records number 1) (change-has (with_value value) 0 ls has)
        ∙ all_value_records-append number 1 k has.before (with_value value has.last) (omega arith)
        ∙ ap (λ l. all_value_records number 1 has.before ++ l)
        (value_records-append number k 1 (length has.last.values + 1) has.last.values value (omega arith))
        ∙ sym (append_assoc (all_value_records number 1 has.before) (value_records number k 1 has.last.values) (r ∷ []))
        ∙ ap (λ l. l ++ r ∷ []) (sym values-before) in
        let last : in_slots (value_slots ++ slot ∷ []) (all_value_records number 1 (with_marked ls t v))
        ≡ in_slots value_slots (all_value_records number 1 ls) ++ (slot, Some r) ∷ [] =
        ap (in_slots (value_slots ++ slot ∷ [])) second
        ∙ in_slots-push value_slots (all_value_records number 1 ls) slot r (omega (arith, have.values, length-all_value_records number 1 ls)) in
        let is : marks_in number slots (value_slots ++ slot ∷ []) (with_marked ls t v)
        ≡ in_slots slots (landmark_records number 1 ls) ++ (in_slots value_slots (all_value_records number 1 ls) ++ (slot, Some r) ∷ []) =
        λ i. in_slots slots (first i) ++ last i in
        rw (count, is) (pushed-second (in_slots slots (landmark_records number 1 ls)) (in_slots value_slots (all_value_records number 1 ls)) (slot, Some r))

    -- landmarks that differ in the last, with the same values: its record alone differs
    pub marks-last : (now : List Landmark) (l : Landmark) (firsts : List ℕ) (slot : ℕ) → slots ≡ firsts ++ slot ∷ [] → now ≡ has.before ++ l ∷ [] →
        l.values ≡ has.last.values →
        IsPermutation ((slot, Some (landmark_record number (length has.before + 1) l))
        ∷ (in_slots firsts (landmark_records number 1 has.before) ++ in_slots value_slots (all_value_records number 1 ls)))
        (marks_in number slots value_slots now)
    marks-last now l firsts slot is ends same =
        let k = length has.before + 1 in
        let r = landmark_record number k l in
        let front = in_slots firsts (landmark_records number 1 has.before) in
        let back = in_slots value_slots (all_value_records number 1 ls) in
        let long : length firsts ≡ length (landmark_records number 1 has.before) =
        omega (
          arith,
          have.own,
          count-has ls has,
          ap length is,
          length-append firsts (slot ∷ []),
          length-landmark_records number 1 has.before,
        ) in
        let own : landmark_records number 1 now ≡ landmark_records number 1 has.before ++ r ∷ [] =
        ap (landmark_records number 1) ends ∙ landmark_records-append number 1 k has.before l (omega arith) in
        let first : in_slots slots (landmark_records number 1 now) ≡ front ++ (slot, Some r) ∷ [] =
        ap₂ in_slots is own ∙ in_slots-push firsts (landmark_records number 1 has.before) slot r long in
        let second : all_value_records number 1 now ≡ all_value_records number 1 ls =
        ap (all_value_records number 1) ends ∙ all_value_records-append number 1 k has.before l (omega arith)
        ∙ ap (λ values. all_value_records number 1 has.before ++ value_records number k 1 values) same ∙ sym values-before in
        let whole : marks_in number slots value_slots now ≡ (front ++ (slot, Some r) ∷ []) ++ back =
        λ i. first i ++ in_slots value_slots (second i) in
        rw whole (pushed-first front back (slot, Some r))

-- the last of some slots
pub last-slot : (slots : List ℕ) (k slot : ℕ) → k + 1 ≡ length slots → slice_index slots k ≡ slot → (firsts : List ℕ) × (slots ≡ firsts ++ slot ∷ [])
last-slot [] k slot long is = absurd (omega (arith, long))
last-slot (x ∷ []) zero slot long is = ([], ap (λ y. y ∷ []) is)
last-slot (x ∷ []) (suc k) slot long is = absurd (omega (arith, long))
last-slot (x ∷ y ∷ ys) zero slot long is = absurd (omega (arith, long))
last-slot (x ∷ y ∷ ys) (suc k) slot long is =
    let rest = last-slot (y ∷ ys) k slot (omega (arith, long)) is in
    (x ∷ rest.0, ap (λ l. x ∷ l) rest.1)

-- ---- what is held of a stream

-- of what is held an event of landmarks changes the landmarks and the last time
pub record IsMarked (part new : StreamParts) (slot t : ℕ) (mark : Mark) : Type 0 where
  pub id : new.id ≡ part.id
  pub name : new.name ≡ part.name
  pub target : new.target ≡ part.target
  pub own_slot : new.slot ≡ part.slot
  pub entries : entries_of new ≡ entries_of part
  pub last_time : new.last_time ≡ later part.last_time (Some t)
  pub landmarks : new.landmarks.landmarks ≡ landmarks_after part.landmarks.landmarks t mark
  pub slots : new.landmarks.slots ≡ slots_after part.landmarks.slots slot mark
  pub value_slots : new.landmarks.value_slots ≡ value_slots_after part.landmarks.value_slots slot mark
  pub known : AreKnown new.landmarks

-- the event puts a record more
abbrev pub IsAdding : Mark → Type 0
IsAdding Open = ⊤
IsAdding (Value v) = ⊤
IsAdding Close = ⊥

-- one more that comes to what is after others, and among others still
pub moved-beside : {X : Type 0} (ws ms now : List X) (x : X) → IsPermutation (x ∷ ms) now → IsPermutation (x ∷ (ws ++ ms)) (ws ++ now)
moved-beside ws ms now x moved =
    IsPermutation-trans (x ∷ (ws ++ ms)) (ws ++ x ∷ ms) (ws ++ now) (IsPermutation-sym (ws ++ x ∷ ms) (x ∷ (ws ++ ms)) (IsPermutation-middle ws x ms))
    (IsPermutation-append_right ws (x ∷ ms) now moved)

pub moved-in : {X : Type 0} (ws ms now others : List X) (x : X) → IsPermutation (x ∷ ms) now →
    IsPermutation (x ∷ ((ws ++ ms) ++ others)) ((ws ++ now) ++ others)
moved-in ws ms now others x moved =
    IsPermutation-append_left others (x ∷ (ws ++ ms)) (ws ++ now) (moved-beside ws ms now x moved)

module _ (part new : StreamParts) (slot t : ℕ) (mark : Mark) (marked : IsMarked part new slot t mark) where
  pub same_windows : (s : Stream) → windows_held (new, with_mark s t mark) ≡ windows_held (part, s)
  same_windows s =
      ap₂ (λ (k : ℕ) (es : List Entry). (k, Some (stream_record s)) ∷ zip (map (λ (e : Entry). e.slot) es)
      (map (λ w. Some (window_record s.number w)) s.windows))
      marked.own_slot marked.entries

  pub same_window_slots : window_slots new ≡ window_slots part
  same_window_slots = ap₂ (λ (k : ℕ) (es : List Entry). k ∷ map (λ (e : Entry). e.slot) es) marked.own_slot marked.entries

  pub marks_after : (s : Stream) → marks_held (new, with_mark s t mark)
      ≡ marks_in s.number (slots_after part.landmarks.slots slot mark) (value_slots_after part.landmarks.value_slots slot mark)
      (landmarks_after s.landmarks t mark)
  marks_after s = ap₂ (λ own values. marks_in s.number own values (landmarks_after s.landmarks t mark)) marked.slots marked.value_slots

-- ---- the stream afterwards

begun-has : (ls : List Landmark) → HasOpen 0 ls → has_open ls ≡ true
begun-has ls has = ap is_some has.found

can-agrees : (part : StreamParts) (t : ℕ) (mark : Mark) (s : Stream) → Agrees part s → CanMark part.landmarks.landmarks t mark → CanMark s.landmarks t mark
can-agrees part t mark s agrees can = rw agrees.landmarks at can

have-agrees : (part : StreamParts) (s : Stream) → Agrees part s → HaveSlots part.landmarks.slots part.landmarks.value_slots s.landmarks
have-agrees part s agrees = record {
  own = agrees.known.slots ∙ ap length agrees.landmarks;
  values = agrees.known.value_slots ∙ ap (λ ls. length (all_values ls)) agrees.landmarks;
}

-- it is one
pub IsStream-mark : (part : StreamParts) (t : ℕ) (mark : Mark) (s : Stream) → CanMark part.landmarks.landmarks t mark → mark_refusal part t mark ≡ None →
    t ≤ LAST_TIME → IsTrue (is_valid (mark_record part t mark)) → Agrees part s → IsStream s → IsStream (with_mark s t mark)
IsStream-mark part t Open s can accepted early valid agrees stream =
    let passed = two-passed (has_open part.landmarks.landmarks) (is_past part.last_time t) _ _ accepted in
    IsStream-opened s t stream (ap has_open (sym agrees.landmarks) ∙ passed.0) (ap (λ o. is_past o t) (sym agrees.last_time) ∙ passed.1) early
IsStream-mark part t (Value v) s can accepted early valid agrees stream =
    let has = HasOpen-can (takes t) s.landmarks stream.landmarks (can-agrees part t (Value v) s agrees can) in
    let passed = two-passed (is_early (outline_held part) t) (has_most_values (outline_held part)) _ _ accepted in
    let last = agrees.last_time in
    let landmarks = agrees.landmarks in
    let same : is_early (outline_of s) t ≡ is_early (outline_held part) t = sym (λ i. is_past (last i) t && not (is_opening (landmarks i) t)) in
    let r = IsValue-is_valid part.id.0 (length part.landmarks.landmarks) (values_open part.landmarks.landmarks + 1) t v valid in
    IsStream-marked s t v stream (begun-has s.landmarks has) (same ∙ passed.0) early r.fits
IsStream-mark part t Close s can accepted early valid agrees stream =
    let has = HasOpen-can (closes t) s.landmarks stream.landmarks (can-agrees part t Close s agrees can) in
    let passed = two-passed (not (has_open part.landmarks.landmarks)) (is_before part.last_time t) _ _ accepted in
    IsStream-closed s t stream (begun-has s.landmarks has) (ap (λ o. is_before o t) (sym agrees.last_time) ∙ passed.1) early

-- its windows end by the time
newest-by : (part : StreamParts) (t : ℕ) (mark : Mark) (s : Stream) → CanMark part.landmarks.landmarks t mark → mark_refusal part t mark ≡ None →
    Agrees part s → IsStream s → (u : ℕ) → newest_time s.windows ≡ Some u → u ≤ t
newest-by part t Open s can accepted agrees stream u is =
    let passed = two-passed (has_open part.landmarks.landmarks) (is_past part.last_time t) _ _ accepted in
    let less = newest-past s t (ap (λ o. is_past o t) (sym agrees.last_time) ∙ passed.1) u is in
    omega (arith, less)
newest-by part t (Value v) s can accepted agrees stream u is =
    let can_stream = can-agrees part t (Value v) s agrees can in
    let has = HasOpen-can (takes t) s.landmarks stream.landmarks can_stream in
    let at = open-has (takes t) 0 s.landmarks has can_stream in
    omega (arith, newest-open s.landmarks has s.windows u stream.free is, at.0)
newest-by part t Close s can accepted agrees stream u is =
    let can_stream = can-agrees part t Close s agrees can in
    let has = HasOpen-can (closes t) s.landmarks stream.landmarks can_stream in
    let at = open-has (closes t) 0 s.landmarks has can_stream in
    omega (arith, newest-open s.landmarks has s.windows u stream.free is, at.0)

later-one : (a t : ℕ) (o : Option ℕ) → max a t ≡ t → later o (Some t) ≡ Some t → later (later (Some a) o) (Some t) ≡ Some t
later-one a t None first rest = ap Some first
later-one a t (Some u) first rest = let second : max u t ≡ t = cc in ap Some (omega (arith, first, second))

later-two : (o p : Option ℕ) (t : ℕ) → ((u : ℕ) → o ≡ Some u → u ≤ t) → later p (Some t) ≡ Some t → later (later o p) (Some t) ≡ Some t
later-two None p t by rest = rest
later-two (Some u) p t by rest = let low = by u refl in later-one u t p (omega (arith, low)) rest

-- landmarks that end by a time have no later one
latest-stays : (ls : List Landmark) (t : ℕ) → AllEndBy t ls → later (latest_of ls) (Some t) ≡ Some t
latest-stays [] t ends = refl
latest-stays (l ∷ ls) t ends =
    let one : AllEndBy t (l ∷ []) = All-cons (EndsBy t) l [] (All-head (EndsBy t) l ls ends) (All-nil (EndsBy t)) in
    let most : Some (max (latest_in l) t) ≡ Some t = latest_of-last (l ∷ []) (opened_at t) one in
    let first : max (latest_in l) t ≡ t = cc in
    later-one (latest_in l) t (latest_of ls) first (latest-stays ls t (All-tail (EndsBy t) l ls ends))

-- where the stream is held its last time is not after it
last-stays : (part : StreamParts) (t : ℕ) (mark : Mark) (s : Stream) → CanMark part.landmarks.landmarks t mark → mark_refusal part t mark ≡ None →
    Agrees part s → IsStream s → later part.last_time (Some t) ≡ Some t
last-stays part t mark s can accepted agrees stream =
    ap (λ (o : Option ℕ). later o (Some t)) agrees.last_time
    ∙ later-two (newest_time s.windows) (latest_of s.landmarks) t (newest-by part t mark s can accepted agrees stream)
    (latest-stays s.landmarks t (AllEndBy-can s.landmarks t mark stream.landmarks (can-agrees part t mark s agrees can)))

-- what is held agrees with it
pub Agrees-mark : (part new : StreamParts) (slot t : ℕ) (mark : Mark) (s : Stream) → IsMarked part new slot t mark → CanMark part.landmarks.landmarks t mark →
    mark_refusal part t mark ≡ None → Agrees part s → IsStream s → Agrees new (with_mark s t mark)
Agrees-mark part new slot t mark s marked can accepted agrees stream = record {
  number = ap (λ (i : StreamId). i.0) marked.id ∙ agrees.number;
  name = marked.name ∙ agrees.name;
  params = ap (λ target. params_of target) marked.target ∙ agrees.params;
  positions = ap (λ es. map span_held es) marked.entries ∙ agrees.positions;
  times = ap (λ es. map times_held es) marked.entries ∙ agrees.times;
  landmarks = marked.landmarks ∙ ap (λ ls. landmarks_after ls t mark) agrees.landmarks;
  known = marked.known;
  last_time = marked.last_time ∙ last-stays part t mark s can accepted agrees stream
      ∙ sym (later-last (newest_time s.windows) (latest_of (landmarks_after s.landmarks t mark)) t
      (latest_of-after s.landmarks t mark stream.landmarks (can-agrees part t mark s agrees can)) (newest-by part t mark s can accepted agrees stream));
}

-- a record comes to those of the landmarks
pub marks-added : (part : StreamParts) (slot t : ℕ) (mark : Mark) (s : Stream) → IsAdding mark → CanMark part.landmarks.landmarks t mark → Agrees part s →
    IsStream s →
    IsPermutation ((slot, Some (mark_record part t mark)) ∷ marks_held (part, s))
    (marks_in s.number (slots_after part.landmarks.slots slot mark) (value_slots_after part.landmarks.value_slots slot mark)
    (landmarks_after s.landmarks t mark))
marks-added part slot t Open s adding can agrees stream =
    let number = agrees.number in
    let landmarks = agrees.landmarks in
    let is : mark_record part t Open ≡ records.Landmark s.number (length s.landmarks + 1) 0 t None =
    λ i. records.Landmark (number i) (length (landmarks i) + 1) 0 t None in
    let now = marks_in s.number (part.landmarks.slots ++ slot ∷ []) part.landmarks.value_slots (with_opened s.landmarks t) in
    rw is (marks-opened s.number part.landmarks.slots part.landmarks.value_slots s.landmarks (have-agrees part s agrees) t slot)
marks-added part slot t (Value v) s adding can agrees stream =
    let has = HasOpen-can (takes t) s.landmarks stream.landmarks (can-agrees part t (Value v) s agrees can) in
    let number = agrees.number in
    let landmarks = agrees.landmarks in
    let values = values-has s.landmarks has in
    let same : mark_record part t (Value v) ≡ records.Value s.number (length s.landmarks) (values_open s.landmarks + 1) t v =
    λ i. records.Value (number i) (length (landmarks i)) (values_open (landmarks i) + 1) t v in
    let is : mark_record part t (Value v) ≡ records.Value s.number (length s.landmarks) (length has.last.values + 1) t v =
    same ∙ ap (λ n. records.Value s.number (length s.landmarks) (n + 1) t v) values in
    let now = marks_in s.number part.landmarks.slots (part.landmarks.value_slots ++ slot ∷ []) (with_marked s.landmarks t v) in
    rw is (marks-valued s.number part.landmarks.slots part.landmarks.value_slots s.landmarks (have-agrees part s agrees) t has slot v)
marks-added part slot t Close s adding can agrees stream = absurd adding
