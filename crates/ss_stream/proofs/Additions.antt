-- A value that is put after the windows of a stream, as a window of its own.
use Rattle.ss_stream.proofs.Common.{◌≡◌, ◌∙◌, inl, ℕ, ◌+◌, ◌-◌, ◌<◌, ℤ, Bool, false, List, [], ◌∷◌, ◌++◌, map, refl, sym, ap, ap₂, subst, arith, IsPermutation}
use Rattle.ss_stream.proofs.Common.{Option, None, Some, Result, nat_tests, map-append, IsPermutation-append_left, IsPermutation-sym, IsPermutation-to_front}
use Rattle.ss_stream.proofs.Common.{Told, MOST_VALUES, RecordsState, Record, LandmarksState, Entry, Figures, summary_of, params_of, New, closed}
use Rattle.ss_stream.proofs.Common.{closed_stream, has_open, later, latest_of, is_past, rule_of, IsStream, Stream, last_time, values_in, single_window}
use Rattle.ss_stream.proofs.Common.{with_plain_value, newest_time, taken, Window, IsStream-single, taken-append, Agrees, TileFrom, entries_of}
use Rattle.ss_stream.proofs.Common.{mark_slots, records_held, slots_held, span_held, span_of, stream_record, times_held, times_of, window_record, window_slots}
use Rattle.ss_stream.proofs.Common.{windows_held, StreamParts, TurnsShown, IsHalfway, IsOrdered, values_held, with_single, with_windows, IsHeldIn, LiveSlotsGo}
use Rattle.ss_stream.proofs.Common.{StagesRecord, HasRecords, HasRecords-permutation, zip-held, IsPermutation-same}
use Rattle.std.proofs.Common.{max}
use Rattle.std.specs.Prelude.{zip}
use Rattle.ss_codec.specs.declared.record.Record.TheVariants as records
use Rattle.ss_summary.specs.Figures.{IsPossible}
use Rattle.ss_model.proofs.Closes.{newest_time_push}
use Rattle.ss_stream.proofs.LiveSlots.{LiveSlotsGo-beside, LiveSlotsGo-permutation}
use Rattle.ss_stream.proofs.Pairs.{records_held-apart, records_held-changed}
use Rattle.ss_stream.proofs.Rising.{rise-added}
use Rattle.ss_stream.proofs.ShownCalls.{TurnsShown-weaker}
use Rattle.ss_stream.proofs.Spans.{TileFrom-push, values_held-seam, values_held-windows}

-- a time that isn't past is the later one
later-past : (o p : Option ℕ) (t : ℕ) → is_past (later o p) t ≡ false → later (Some t) p ≡ Some t
later-past o None t past = refl
later-past None (Some u) t past = let above : u < t = grind (arith, nat_tests) in ap Some (omega (arith, above))
later-past (Some old) (Some u) t past = let above : max old u < t = grind (arith, nat_tests) in ap Some (omega (arith, above))

-- an entry of one value at a time
abbrev pub single_entry : ℕ → ℕ → ℕ → Entry
single_entry position t slot = record { first = position; last = position; t_first = t; t_last = t; slot = slot }

-- a stream with one more entry, which is of a value at a time
pub record IsAdded (part new : StreamParts) (slot t : ℕ) : Type 0 where
  pub id : new.id ≡ part.id
  pub name : new.name ≡ part.name
  pub target : new.target ≡ part.target
  pub own_slot : new.slot ≡ part.slot
  pub landmarks : new.landmarks ≡ part.landmarks
  pub last_time : new.last_time ≡ Some t
  pub entries : entries_of new ≡ entries_of part ++ single_entry (values_held (entries_of part) + 1) t slot ∷ []

module _ (part new : StreamParts) (slot t : ℕ) (added : IsAdded part new slot t) where
  pub values_held-added : values_held (entries_of new) ≡ values_held (entries_of part) + 1
  values_held-added = ap (λ es. values_held es) added.entries ∙ values_held-seam (entries_of part) (single_entry (values_held (entries_of part) + 1) t slot) []

  pub TileFrom-added : TileFrom 1 (entries_of part) → values_held (entries_of part) < MOST_VALUES → TileFrom 1 (entries_of new)
  TileFrom-added tiles room =
      rw added.entries (TileFrom-push (entries_of part) (single_entry (values_held (entries_of part) + 1) t slot) tiles refl refl (omega arith))

  pub IsOrdered-added : IsOrdered part → values_held (entries_of part) < MOST_VALUES → is_past part.last_time t ≡ false → IsOrdered new
  IsOrdered-added ordered room later = record {
    tiles = TileFrom-added ordered.tiles room;
    times = rw (added.last_time, added.entries)
        (rise-added part.last_time t (entries_of part) (single_entry (values_held (entries_of part) + 1) t slot) later refl refl ordered.times);
  }

  pub LiveSlotsGo-added : (live live_now : List Bool) → LiveSlotsGo [] (slot ∷ []) live live_now → LiveSlotsGo (slots_held part) (slots_held new) live live_now
  LiveSlotsGo-added live live_now go =
      let marks : List ℕ = mark_slots part in
      let stay : mark_slots new ≡ marks = ap (λ (l : LandmarksState). l.slots ++ l.value_slots) added.landmarks in
      let now : window_slots new ≡ window_slots part ++ slot ∷ [] =
      ap₂ (λ (s : ℕ) (es : List Entry). s ∷ map (λ (e : Entry). e.slot) es) added.own_slot added.entries
      ∙ ap (λ l. part.slot ∷ l) (map-append (λ (e : Entry). e.slot) (entries_of part) (single_entry (values_held (entries_of part) + 1) t slot ∷ [])) in
      LiveSlotsGo-permutation (slots_held part) (slots_held part) (slot ∷ slots_held part) (slots_held new) live live_now
      (IsPermutation-same (slots_held part) (slots_held part) refl) (rw stay (subst (λ l. IsPermutation (slot ∷ slots_held part) (l ++ marks)) (sym now)
      (IsPermutation-append_left marks (slot ∷ window_slots part) (window_slots part ++ slot ∷ [])
      (IsPermutation-sym (window_slots part ++ slot ∷ []) (slot ∷ window_slots part) (IsPermutation-to_front (window_slots part) slot)))))
      (LiveSlotsGo-beside (slots_held part) [] (slot ∷ []) live live_now go)

  module _ (v : ℤ) (summary : Figures) (is : summary ≡ summary_of ((t, v, New) ∷ [])) (possible : IsPossible summary)
      (room : values_held (entries_of part) < MOST_VALUES)
      (plain : has_open part.landmarks.landmarks ≡ false) (past : is_past part.last_time t ≡ false) (s : Stream) (agrees : Agrees part s)
      (stream : IsStream s) where
    single : Window
    single = single_window (values_in s + 1) (t, v, New)

    held : values_held (entries_of part) ≡ values_in s
    held = values_held-windows s.windows (entries_of part) stream.windows agrees.positions

    past_all : is_past (last_time s) t ≡ false
    past_all = rw agrees.last_time at past

    IsStream-added : IsStream (with_single s t v)
    IsStream-added = IsStream-single s (t, v, New) stream (rw agrees.landmarks at plain) past_all (rw held at room) (rw is at possible)

    Agrees-single : Agrees new (with_single s t v)
    unfolding single
    Agrees-single = record {
      number = ap (λ (i : _). i.0) added.id ∙ agrees.number;
      name = added.name ∙ agrees.name;
      params = ap (λ target. params_of target) added.target ∙ agrees.params;
      positions =
          let position : values_held (entries_of part) + 1 ≡ values_in s + 1 = ap (λ n. n + 1) held in
          let last : values_held (entries_of part) + 1 ≡ values_in s + 1 + 1 - 1 = omega (arith, held) in
          let one : span_held (single_entry (values_held (entries_of part) + 1) t slot) ≡ span_of (single_window (values_in s + 1) (t, v, New)) =
          λ i. (position i, last i) in
          ap (λ es. map span_held es) added.entries ∙ map-append span_held (entries_of part) (single_entry (values_held (entries_of part) + 1) t slot ∷ [])
          ∙ ap₂ (λ (xs : List (ℕ × ℕ)) (p : ℕ × ℕ). xs ++ p ∷ []) agrees.positions one
          ∙ sym (map-append span_of s.windows (single_window (values_in s + 1) (t, v, New) ∷ []));
      times = ap (λ es. map times_held es) added.entries
          ∙ map-append times_held (entries_of part) (single_entry (values_held (entries_of part) + 1) t slot ∷ [])
          ∙ ap (λ (xs : List (ℕ × ℕ)). xs ++ (t, t) ∷ []) agrees.times ∙ sym (map-append times_of s.windows (single_window (values_in s + 1) (t, v, New) ∷ []));
      landmarks = ap (λ (l : LandmarksState). l.landmarks) added.landmarks ∙ agrees.landmarks;
      known = rw added.landmarks agrees.known;
      last_time =
          let newest = newest_time_push s.windows (single_window (values_in s + 1) (t, v, New)) in
          added.last_time ∙ sym (later-past (newest_time s.windows) (latest_of s.landmarks) t past_all)
          ∙ ap (λ o. later o (latest_of s.landmarks)) (sym newest);
    }

    records_single : windows_held (new, with_single s t v) ≡ windows_held (part, s) ++
        (slot, Some (records.Window part.id.0 (values_held (entries_of part) + 1) summary)) ∷ []
    records_single =
        let one : Window = single_window (values_in s + 1) (t, v, New) in
        let spelled : Some (window_record s.number one) ≡ Some (records.Window part.id.0 (values_held (entries_of part) + 1) summary) =
        λ i. Some (records.Window (sym agrees.number i) (sym (ap (λ n. n + 1) held) i) (sym is i)) in
        ap₂ (λ (k : ℕ) (es : List Entry). (k, Some (stream_record s)) ∷ zip (map (λ (e : Entry). e.slot) es)
        (map (λ x. Some (window_record s.number x)) (s.windows ++ one ∷ [])))
        added.own_slot added.entries
        ∙ ap (λ l. (part.slot, Some (stream_record s)) ∷ l)
        (zip-held s.number (entries_of part) (single_entry (values_held (entries_of part) + 1) t slot ∷ []) s.windows (one ∷ []) agrees.positions)
        ∙ ap (λ (r : Option Record). windows_held (part, s) ++ (slot, r) ∷ []) spelled

    IsHeldIn-single : (others : List (ℕ × Option Record)) (image : List ℕ) →
        HasRecords ((slot, Some (records.Window part.id.0 (values_held (entries_of part) + 1) summary)) ∷ (records_held (part, s) ++ others)) image →
        IsHeldIn others new (with_single s t v) image
    IsHeldIn-single others image has =
        let added_record : ℕ × Option Record = (slot, Some (records.Window part.id.0 (values_held (entries_of part) + 1) summary)) in
        record {
          agrees = Agrees-single;
          stream = IsStream-added;
          records = HasRecords-permutation (added_record ∷ (records_held (part, s) ++ others)) (records_held (new, with_single s t v) ++ others) image
              (rw records_held-apart
              (records_held-changed part new s (s.windows ++ single_window (values_in s + 1) (t, v, New) ∷ []) (added_record ∷ windows_held (part, s)) others
              added.landmarks (rw records_single (IsPermutation-sym (windows_held (part, s) ++ added_record ∷ []) (added_record ∷ windows_held (part, s))
              (IsPermutation-to_front (windows_held (part, s)) added_record))))) has;
        }

  -- a call that stages the record of the value
  pub TurnsShown-added : {T E : Type 0} (v : ℤ) (summary : Figures) → summary ≡ summary_of ((t, v, New) ∷ []) → IsPossible summary →
      values_held (entries_of part) < MOST_VALUES →
      has_open part.landmarks.landmarks ≡ false → is_past part.last_time t ≡ false →
      (others : List (ℕ × Option Record)) (s : Stream) (old_records new_records : RecordsState) (old after : Told) (result : Result T E) →
      StagesRecord slot (records.Window part.id.0 (values_held (entries_of part) + 1) summary) old_records new_records result old after →
      TurnsShown old_records new_records (IsHeldIn others part s) (IsHalfway others part s t v) (IsHeldIn others new (with_single s t v)) old after result
  TurnsShown-added v summary is possible room plain past others s old_records new_records old after result stages =
      let before = records_held (part, s) ++ others in
      let now : List (ℕ × Option Record) = (slot, Some (records.Window part.id.0 (values_held (entries_of part) + 1) summary)) ∷ before in
      TurnsShown-weaker old_records new_records (HasRecords before) (IsHeldIn others part s) (HasRecords before) (IsHalfway others part s t v) (HasRecords now)
      (IsHeldIn others new (with_single s t v)) old after result (λ held. held.records)
      (λ held image stays. inl (record { agrees = held.agrees; stream = held.stream; records = stays }))
      (λ held image has. IsHeldIn-single v summary is possible room plain past s held.agrees held.stream others image has)
      (stages before)

-- closing after a value was put is taking the value
pub closed-single : (s : Stream) (t : ℕ) (v : ℤ) → closed_stream (with_single s t v) ≡ with_plain_value s (t, v, New)
closed-single s t v =
    let one : Window = single_window (values_in s + 1) (t, v, New) in
    let count : taken (s.windows ++ one ∷ []) ≡ values_in s + 1 = taken-append s.windows (one ∷ []) in
    ap (λ n. with_windows s (closed (rule_of s.params) n (s.windows ++ one ∷ []))) count
