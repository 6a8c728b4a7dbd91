-- A transaction that joins two neighbours, in which a crash may come.
use Rattle.ss_stream.proofs.Common.{◌≡◌, ◌∙◌, ◌⊎◌, ⊎_elim, ℕ, ◌<◌, arith, ap, ap₂, map, Bool, List, [], ◌∷◌, ◌++◌, refl, sym, Option, Some, None, Err}
use Rattle.ss_stream.proofs.Common.{Ok, Result, Contains, IsErr, map-append, Contains-append_right, on_ok_weaker, IsPermutation-sym, KnowsNow, OnlyReads, Told}
use Rattle.ss_stream.proofs.Common.{weaker, shown, on_err, RecordsState, shown_by, Record, Landmark, At, Entry, Figures, joined, Rule, rule_of, params_of}
use Rattle.ss_stream.proofs.Common.{lies_free, Stream, Window, entries_of, records_held, slots_held, span_held, span_of, window_record, times_held, times_of}
use Rattle.ss_stream.proofs.Common.{CrashTriple, StreamParts, TurnsShown, IsRead, verdict_of_read, IfChanged, IsFirm, ChangedIsHeld, window_slots_of}
use Rattle.ss_stream.proofs.Common.{IsPartlyJoined}
use Rattle.ss_stream.proofs.Common.{values_held, with_windows, IsHeldIn, IsJoinedIn, AreSomeLive, LiveSlotsGo, HasRecords, ReadError, HasRecords-permutation}
use Rattle.ss_stream.proofs.Common.{StaysOr}
use Rattle.std.specs.Prelude.{IsTrue}
use Rattle.ss_codec.specs.declared.record.Record.TheVariants as records
use Rattle.ss_parts.specs.declared.read_error.ReadError.TheVariants as fault
use Rattle.ss_stream.specs.Slots.{StagesTwo}
use Rattle.ss_stream.proofs.Calls.{CrashTriple-failed}
use Rattle.ss_stream.proofs.ShownCalls.{StaysOr-weaker, TurnsShown-reads, TurnsShown-then}
use Rattle.ss_stream.proofs.LiveSlots.{AreSomeLive-part, AreSomeLive-permutation, LiveSlotsGo-beside, LiveSlotsGo-permutation}
use Rattle.ss_stream.proofs.Pairs.{AreJoined, AreSlots, JoinsHeld, JoinsHeld-pair, SameButLine}

-- a stream of which nothing was joined
pub IsPartlyJoined-none : (others : List (ℕ × Option Record)) (part : StreamParts) (s : Stream) (image : List ℕ) → IsHeldIn others part s image →
    IsPartlyJoined others s image
IsPartlyJoined-none others part s image held = record { part = part; windows = s.windows; joins = (0, refl); held = held }

pub IsJoinedIn-none : (others : List (ℕ × Option Record)) (part : StreamParts) (s : Stream) (image : List ℕ) → IsHeldIn others part s image →
    IsJoinedIn others part s image
IsJoinedIn-none others part s image held = record { windows = s.windows; joins = (0, refl); held = held }

-- where reading gave no failure of a record
pub IsFirm-read : (T : Type 0) (summary : Figures) (failure : ReadError) → IsRead summary (Err failure) → IsFirm (verdict_of_read {T = T} (Err failure))
IsFirm-read T summary fault.Disk read = tt
IsFirm-read T summary (fault.Changed slot) read = absurd read

-- what reading two records as one answers, for all records that may stand there
abbrev pub ReadsBoth : ℕ → List Landmark → Entry → Entry → List ℕ → (Figures → Type 0) → Type 0
ReadsBoth number landmarks w v content Reads =
    (others : List (ℕ × Option Record)) (one two : Window) →
    HasRecords ((w.slot, Some (window_record number one)) ∷ (v.slot, Some (window_record number two)) ∷ others) content →
    span_held w ≡ span_of one → span_held v ≡ span_of two → times_held w ≡ times_of one → times_held v ≡ times_of two →
    IsTrue (lies_free landmarks one) → IsTrue (lies_free landmarks two) →
    one.summary.t_last < two.summary.t_first → Reads (joined one.summary two.summary)

module _ (others : List (ℕ × Option Record)) (part new : StreamParts) (s : Stream) (w v : Entry) (same : SameButLine part new)
    (pair : AreJoined (rule_of (params_of part.target)) (values_held (entries_of part)) part.line.entries new.line.entries w v) where
  -- what is read where the stream is held
  pub read-held : (content : List ℕ) (Reads : Figures → Type 0) → ReadsBoth part.id.0 part.landmarks.landmarks w v content Reads →
      (held : IsHeldIn others part s content) →
      let j = JoinsHeld-pair others part new s w v same pair held.agrees held.stream in Reads (joined j.one.summary j.two.summary)
  read-held content Reads each held =
      let j = JoinsHeld-pair others part new s w v same pair held.agrees held.stream in
      each j.beside j.one j.two
      (HasRecords-permutation (records_held (part, s) ++ others)
      ((w.slot, Some (window_record part.id.0 j.one)) ∷ (v.slot, Some (window_record part.id.0 j.two)) ∷ j.beside)
      content j.was held.records)
      j.first j.second j.first_times j.second_times j.first_free j.second_free j.later

  module _ {T E : Type 0} (old_records new_records : RecordsState) (old after : Told) (summary : Figures) (result : Result T E)
      (read : ReadsBoth part.id.0 part.landmarks.landmarks w v (shown_by old_records old.content) (λ is. summary ≡ is))
      (stages : StagesTwo w.slot v.slot (records.Window part.id.0 w.first summary) old_records new_records result old after) where
    module _ (held : IsHeldIn others part s (shown_by old_records old.content)) where
      j : JoinsHeld others part new s w v
      j = JoinsHeld-pair others part new s w v same pair held.agrees held.stream

      was : List (ℕ × Option Record)
      was = (w.slot, Some (window_record part.id.0 j.one)) ∷ (v.slot, Some (window_record part.id.0 j.two)) ∷ j.beside

      is : List (ℕ × Option Record)
      is = (w.slot, Some (records.Window part.id.0 w.first summary)) ∷ j.beside

      turns : TurnsShown old_records new_records (HasRecords was) (HasRecords was) (HasRecords is) old after result
      unfolding was is
      turns = stages (Some (window_record part.id.0 j.one)) (Some (window_record part.id.0 j.two)) j.beside

      before : HasRecords was (shown_by old_records old.content)
      unfolding was
      before = HasRecords-permutation (records_held (part, s) ++ others) was (shown_by old_records old.content) j.was held.records

      summary_is : summary ≡ joined j.one.summary j.two.summary
      unfolding j
      summary_is = read-held (shown_by old_records old.content) (λ is. summary ≡ is) read held

      reached : (image : List ℕ) → HasRecords is image → IsJoinedIn others new s image
      unfolding is
      reached image has =
          let joint : List (ℕ × Option Record) = (w.slot, Some (records.Window part.id.0 w.first (joined j.one.summary j.two.summary))) ∷ j.beside in
          record {
            windows = j.windows;
            joins = j.joins;
            held = record {
              agrees = j.agrees;
              stream = j.stream;
              records = HasRecords-permutation joint (records_held (new, with_windows s j.windows) ++ others) image j.is (rw (← summary_is) has);
            };
          }

      stayed : (image : List ℕ) → HasRecords was image → IsPartlyJoined others s image
      unfolding was
      stayed image has =
          IsPartlyJoined-none others part s image
          (record {
            agrees = held.agrees;
            stream = held.stream;
            records = HasRecords-permutation was (records_held (part, s) ++ others) image
                (IsPermutation-sym (records_held (part, s) ++ others) was j.was) has;
          })

    -- one record is staged in the place of two
    TurnsShown-pair : TurnsShown old_records new_records (IsHeldIn others part s) (IsPartlyJoined others s) (IsJoinedIn others new s) old after result
    TurnsShown-pair = record {
      content = λ held. on_ok_weaker result (reached held (shown_by new_records after.content)) ((turns held).content (before held));
      any_moment = λ none held.
          weaker old after (StaysOr old (HasRecords (was held))) (StaysOr old (IsPartlyJoined others s))
          (StaysOr-weaker old (HasRecords (was held)) (IsPartlyJoined others s) (stayed held)) ((turns held).any_moment none (before held));
      durable = (stages None None []).durable;
    }

  -- two records are read, and one is staged in their place
  pub TurnsShown-join : {T E : Type 0} (old_records read_records new_records : RecordsState) (old mid after : Told) (summary : Figures) (result : Result T E) →
      KnowsNow old → KnowsNow mid → OnlyReads old mid → read_records.journal ≡ old_records.journal →
      ReadsBoth part.id.0 part.landmarks.landmarks w v (shown_by old_records old.content) (λ is. summary ≡ is) →
      StagesTwo w.slot v.slot (records.Window part.id.0 w.first summary) read_records new_records result mid after →
      TurnsShown old_records new_records (IsHeldIn others part s) (IsPartlyJoined others s) (IsJoinedIn others new s) old after result
  TurnsShown-join old_records read_records new_records old mid after summary result knows knows_mid reads journal read stages =
      let same_shown : shown_by read_records mid.content ≡ shown_by old_records old.content = ap₂ shown journal reads.same.content in
      TurnsShown-then {S = Figures} {F = ReadError} old_records read_records new_records (IsHeldIn others part s) (IsPartlyJoined others s)
      (IsHeldIn others part s) (IsPartlyJoined others s) (IsJoinedIn others new s) (IsPartlyJoined others s) old mid after summary result knows_mid
      (TurnsShown-reads old_records read_records (IsHeldIn others part s) (IsPartlyJoined others s) old mid (Ok summary) knows reads journal)
      (TurnsShown-pair read_records new_records mid after summary result (rw same_shown read) stages) (λ image left. left) (λ image left. left)

-- where the records weren't read nothing was staged
pub TurnsShown-not_read : {T E : Type 0} (others : List (ℕ × Option Record)) (part : StreamParts) (s : Stream) (after : Type 0)
    (old_records new_records : RecordsState) (old new : Told) (result : Result T E) →
    IsErr result → KnowsNow old → OnlyReads old new →
    CrashTriple (IsHeldIn others part s (shown_by old_records old.content)) (StaysOr old (IsPartlyJoined others s)) after old new result
TurnsShown-not_read others part s after old_records new_records old new result failed knows reads =
    CrashTriple-failed _ _ after _ old new result result failed
    (TurnsShown-reads old_records new_records (IsHeldIn others part s) (IsPartlyJoined others s) old new result knows reads
    (on_err result (new_records.journal ≡ old_records.journal) failed))

-- the slots of two neighbours are live, and the second goes
pub AreSomeLive-two : (part new : StreamParts) (w v : Entry) (live : List Bool) → AreSlots part new w v → AreSomeLive (slots_held part) live →
    AreSomeLive (w.slot ∷ v.slot ∷ []) live
AreSomeLive-two part new w v live slots some =
    AreSomeLive-part (w.slot ∷ v.slot ∷ []) slots.beside live
    (AreSomeLive-permutation (slots_held part) (w.slot ∷ v.slot ∷ slots.beside) live slots.was some)

pub LiveSlotsGo-two : (part new : StreamParts) (w v : Entry) (live live_now : List Bool) → AreSlots part new w v →
    LiveSlotsGo (w.slot ∷ v.slot ∷ []) (w.slot ∷ []) live live_now → LiveSlotsGo (slots_held part) (slots_held new) live live_now
LiveSlotsGo-two part new w v live live_now slots go =
    LiveSlotsGo-permutation (w.slot ∷ v.slot ∷ slots.beside) (slots_held part) (w.slot ∷ slots.beside) (slots_held new) live live_now
    (IsPermutation-sym (slots_held part) (w.slot ∷ v.slot ∷ slots.beside) slots.was) (IsPermutation-sym (slots_held new) (w.slot ∷ slots.beside) slots.is)
    (LiveSlotsGo-beside slots.beside (w.slot ∷ v.slot ∷ []) (w.slot ∷ []) live live_now go)

-- the slot that is named is that of one of the two windows
pub IfChanged-window : (T : Type 0) {rule : Rule} {n : ℕ} {now : List (At × Entry)} (part : StreamParts) (w v : Entry) →
    AreJoined rule n part.line.entries now w v →
    (failure : ReadError) → IfChanged (verdict_of_read {T = Figures} (Err failure)) (λ slot. (slot ≡ w.slot) ⊎ (slot ≡ v.slot)) →
    ChangedIsHeld (verdict_of_read {T = T} (Err failure)) part
IfChanged-window T part w v pair fault.Disk one = tt
IfChanged-window T part w v pair (fault.Changed slot) one =
    let slot_of : Entry → ℕ = λ e. e.slot in
    let after : List ℕ = w.slot ∷ v.slot ∷ map slot_of pair.rest in
    let held : window_slots_of part ≡ map slot_of pair.front ++ after =
    ap (λ es. map slot_of es) pair.was ∙ map-append slot_of pair.front (w ∷ v ∷ pair.rest) in
    let here : Contains after slot =
    ⊎_elim (λ first. (0, omega arith, sym first)) (λ second. (1, omega arith, sym second)) one in
    rw held (Contains-append_right (map slot_of pair.front) after slot here)
