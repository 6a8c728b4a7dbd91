-- A window that is read: its record among all, and the window that it is of.
use Rattle.ss_store.proofs.Common.{◌≡◌, ℕ, zero, suc, Bool, true, IsTrue, List, [], ◌∷◌, ◌++◌, map, remove, refl, ap, sym, ◌∙◌, subst, None, Some, Option, Ok}
use Rattle.ss_store.proofs.Common.{Err, slice_get, option_map, IfSome, list_all, and_parts, get_or_from_slice_get, none-some, same_Some, slice_get-map}
use Rattle.ss_store.proofs.Common.{slice_get_within, Record, entry_at, index_of, At, Entry, Figures, lengths_of, Happened, lies_free}
use Rattle.ss_store.proofs.Common.{IsReadWithinTarget, IsHistory, placed_of, Stream, state, stream_numbered, values_in, Placed, Window, Agrees, entries_of}
use Rattle.ss_store.proofs.Common.{marks_held, records_held, span_held, span_of, times_held, times_of, window_record, windows_held, StreamParts, DiskView}
use Rattle.ss_store.proofs.Common.{OfContent, Told, Step, IsFirm, fine, RecordsState, shown_by, IsRead, verdict_of_read, ReadError, ShowsWindow, StoreIsIn}
use Rattle.ss_store.proofs.Common.{StoreIsKept, StoreState, part_numbered, Recovers, HasRecords, HasRecords-permutation, slice_get-entry}
use Rattle.std.proofs.lemmas.List.Sorted.{IsPermutation-remove}
use Rattle.ss_model.proofs.WithinLemmas.{IsReadWithinTarget-read}
use Rattle.ss_parts.specs.declared.read_error.ReadError.TheVariants as error
use Rattle.ss_parts.specs.Reading.{ReadsWindow}
use Rattle.ss_store.proofs.Among.{IsHeldIn-at, others_of}
use Rattle.ss_store.proofs.KeptStates.{Recovers-StoreIsIn, Recovers-same}
use Rattle.ss_store.proofs.Named.{AreFound-numbered}
use Rattle.ss_store.proofs.OneOfMany.{slice_get-zip}
use Rattle.ss_store.proofs.WindowsHeld.{first_at}

-- a window of the state that the content stands for, and its record; it lies free among the landmarks
pub record IsKeptWindow (content : List ℕ) (streams : List Stream) (number place : ℕ) (e : Entry) (part : StreamParts) : Type 0 where
  pub stream : Stream
  pub found : stream_numbered number streams ≡ Some stream
  pub window : Window
  pub at : slice_get stream.windows place ≡ Some window
  pub span : span_held e ≡ span_of window
  pub times : times_held e ≡ times_of window
  pub others : List (ℕ × Option Record)
  pub has : HasRecords ((e.slot, Some (window_record part.id.0 window)) ∷ others) content
  pub free : IsTrue (lies_free part.landmarks.landmarks window)

-- the window of which an entry has this
some_window : (P : Entry → ℕ × ℕ) (Q : Window → ℕ × ℕ) (e : Entry) (o : Option Window) → Some (P e) ≡ option_map Q o → (w : Window) × (o ≡ Some w) × (P e ≡ Q w)
some_window P Q e None same = absurd (none-some (P e) (sym same))
some_window P Q e (Some w) same = (w, refl, same_Some (P e) (Q w) same)

window-with : (P : Entry → ℕ × ℕ) (Q : Window → ℕ × ℕ) (part : StreamParts) (s : Stream) (i : ℕ) (e : Entry) → map P (entries_of part) ≡ map Q s.windows →
    slice_get (entries_of part) i ≡ Some e → (w : Window) × (slice_get s.windows i ≡ Some w) × (P e ≡ Q w)
window-with P Q part s i e same at =
    some_window P Q e (slice_get s.windows i)
    (sym (ap (option_map P) at) ∙ sym (slice_get-map P (entries_of part) i) ∙ ap (λ l. slice_get l i) same ∙ slice_get-map Q s.windows i)

window-at : (part : StreamParts) (s : Stream) (i : ℕ) (e : Entry) → Agrees part s → slice_get (entries_of part) i ≡ Some e →
    (w : Window) × (slice_get s.windows i ≡ Some w) × (span_held e ≡ span_of w) × (times_held e ≡ times_of w)
window-at part s i e agrees at =
    let span = window-with span_held span_of part s i e agrees.positions at in
    let times = window-with times_held times_of part s i e agrees.times at in
    let same : times.0 ≡ span.0 = same_Some times.0 span.0 (sym times.1 ∙ span.1) in
    (span.0, span.1, span.2, times.2 ∙ ap times_of same)

record-at : (part : StreamParts) (s : Stream) (i : ℕ) (e : Entry) (w : Window) → slice_get (entries_of part) i ≡ Some e → slice_get s.windows i ≡ Some w →
    slice_get (records_held (part, s)) (suc i) ≡ Some (e.slot, Some (window_record s.number w))
record-at part s i e w at window =
    first_at (windows_held (part, s)) (marks_held (part, s)) (suc i) (e.slot, Some (window_record s.number w))
    (slice_get-zip (map (λ (x : Entry). x.slot) (entries_of part)) (map (λ x. Some (window_record s.number x)) s.windows) i e.slot
    (Some (window_record s.number w))
    (slice_get-map (λ (x : Entry). x.slot) (entries_of part) i ∙ ap (option_map (λ (x : Entry). x.slot)) at)
    (slice_get-map (λ x. Some (window_record s.number x)) s.windows i ∙ ap (option_map (λ x. Some (window_record s.number x))) window))

-- what each of some passes, the one at a place passes
list_all-at : {X : Type 0} (test : X → Bool) (xs : List X) (i : ℕ) (x : X) → slice_get xs i ≡ Some x → list_all test xs ≡ true → test x ≡ true
list_all-at test [] i x at all = absurd (none-some x at)
list_all-at test (y ∷ ys) zero x at all = rw (same_Some y x at) at (and_parts (test y) (list_all test ys) all).0
list_all-at test (y ∷ ys) (suc i) x at all = list_all-at test ys i x at (and_parts (test y) (list_all test ys) all).1

-- one record is first, and the others come after it
has-first : (all : List (ℕ × Option Record)) (i : ℕ) (r : ℕ × Option Record) (image : List ℕ) → slice_get all i ≡ Some r → HasRecords all image →
    HasRecords (r ∷ remove all i) image
has-first all i r image at has =
    HasRecords-permutation all (r ∷ remove all i) image
    (IsPermutation-remove all i r (slice_get_within all i r at) (sym (get_or_from_slice_get all i r r at))) has

pub IsKeptWindow-at : (store : StoreState) (content : List ℕ) (kept : StoreIsIn store content) (number : ℕ) (part : StreamParts) (at : At) (e : Entry) →
    part_numbered number store.streams ≡ Some part → entry_at part.line.entries at ≡ Some e →
    IsKeptWindow content kept.streams number (index_of part.line.entries at) e part
IsKeptWindow-at store content kept number part at e numbered is =
    let found = AreFound-numbered store.streams kept.streams number part kept.agree kept.state numbered in
    let s = found.stream in
    let i = index_of part.line.entries at in
    let others = others_of found.place store.streams kept.streams in
    let held = IsHeldIn-at store.streams kept.streams found.place part s content kept.agree kept.state found.at found.here kept.held in
    let read = slice_get-entry part.line.entries at e is in
    let window = window-at part s i e found.agrees read in
    let all = records_held (part, s) ++ others in
    let here = first_at (records_held (part, s)) others (suc i) (e.slot, Some (window_record s.number window.0))
    (record-at part s i e window.0 read window.1) in
    record {
      stream = s;
      found = found.found_is;
      window = window.0;
      at = window.1;
      span = window.2;
      times = window.3;
      others = remove all (suc i);
      has = subst (λ n. HasRecords ((e.slot, Some (window_record n window.0)) ∷ remove all (suc i)) content) (sym held.agrees.number)
          (has-first all (suc i) (e.slot, Some (window_record s.number window.0)) content here held.records);
      free = rw (← held.agrees.landmarks) at (list_all-at (lies_free s.landmarks) s.windows i window.0 window.1 held.stream.free);
    }

-- what is read of it
abbrev placed : Entry → Figures → Placed
placed e summary = record { first = e.first; last = e.last; summary = summary }

placed-is : (e : Entry) (w : Window) (summary : Figures) → span_held e ≡ span_of w → summary ≡ w.summary → placed_of w ≡ placed e summary
placed-is e w summary span is =
    let first : e.first ≡ w.first = ap (λ (p : ℕ × ℕ). p.0) span in
    let last : e.last ≡ (placed_of w).last = ap (λ (p : ℕ × ℕ). p.1) span in
    rw (first, last, is) refl

IsFirm-error : (summary : Figures) (why : ReadError) → IsRead summary (Err why) → IsFirm (verdict_of_read {T = Placed} (Err why))
IsFirm-error summary error.Disk read = tt
IsFirm-error summary (error.Changed slot) read = read

-- a window that is read again: what it is of the state that the content recovers to
module _ {part : StreamParts} {entry : Entry} (is : RecordsState) (store : StoreState) (number : ℕ) (at : At)
    (numbered : part_numbered number store.streams ≡ Some part) (read : entry_at part.line.entries at ≡ Some entry) where
  window-read : (old new : Told) (summary : Figures) → StoreIsIn store (shown_by store.records old.content) →
      ReadsWindow part entry store.records is (Ok summary) old new → (streams : List Stream) → Recovers streams (shown_by store.records old.content) →
      IfSome (part_numbered number store.streams) (λ p. IfSome (stream_numbered number streams) (λ s.
      slice_get (map placed_of s.windows) (index_of p.line.entries at) ≡ Some (placed entry summary)))
  window-read old new summary kept reads streams recovers =
      let window = IsKeptWindow-at store (shown_by store.records old.content) kept number part at entry numbered read in
      let same = Recovers-same kept.streams streams (shown_by store.records old.content)
      (Recovers-StoreIsIn store (shown_by store.records old.content) kept) recovers in
      let found : stream_numbered number streams ≡ Some window.stream = ap (λ l. stream_numbered number l) (sym same) ∙ window.found in
      let summary_is = reads.window window.others window.window window.has window.span window.times window.free in
      let here : slice_get (map placed_of window.stream.windows) (index_of part.line.entries at) ≡ Some (placed entry summary) =
      slice_get-map placed_of window.stream.windows (index_of part.line.entries at) ∙ ap (option_map placed_of) window.at
      ∙ ap (λ (p : Placed). Some p) (placed-is entry window.window summary window.span summary_is) in
      rw (numbered, found) here

  -- it keeps to the target
  within-read : (shown : Placed) (history : List Happened) → IsHistory history →
      IfSome (part_numbered number store.streams) (λ p. IfSome (stream_numbered number (state history)) (λ s.
      slice_get (map placed_of s.windows) (index_of p.line.entries at) ≡ Some shown)) →
      IfSome (stream_numbered number (state history)) (λ s. IsReadWithinTarget (lengths_of s.params) (values_in s) shown)
  within-read shown history whole shows =
      IsReadWithinTarget-read history (state history) number (index_of part.line.entries at) shown whole refl (rw numbered at shows)

  module _ {before after : DiskView} (kept : OfContent before (StoreIsKept store)) where
    pub shows-read : (summary : Figures) → Step fine before after (ReadsWindow part entry store.records is (Ok summary)) →
        Step fine before after (ShowsWindow number at store (Ok (record { first = entry.first; last = entry.last; summary = summary })))
    shows-read summary step = record {
      tells = step.tells;
      counted = step.counted;
      told = λ told.
          let reads = step.told told in
          let window = window-read before.told after.told summary (kept told).shown reads in
          record {
            window = window;
            within = λ history stands. within-read (placed entry summary) history stands.is_history (window (state history) stands.state);
            reads = reads.reads;
          };
    }

    -- no slot has changed on a disk that tells
    pub IsFirm-read : (why : ReadError) → Step (verdict_of_read {T = Figures} (Err why)) before after (ReadsWindow part entry store.records is (Err why)) →
        IsTrue before.tells → IsFirm (verdict_of_read {T = Placed} (Err why))
    IsFirm-read why step told =
        let window = IsKeptWindow-at store (shown_by store.records before.told.content) (kept told).shown number part at entry numbered read in
        IsFirm-error window.window.summary why ((step.told told).window window.others window.window window.has
        window.span window.times window.free)

-- the entry at a place, in the part that was read
pub entry-read : {o : Option StreamParts} {read : StreamParts} {e : Entry} (at : At) → o ≡ Some read →
    IfSome o (λ part. entry_at part.line.entries at ≡ Some e) → entry_at read.line.entries at ≡ Some e
entry-read {e = e} at same is = rw same at is
