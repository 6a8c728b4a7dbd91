-- A store in which the landmarks of a stream take a mark: what is known before the call, and what the store does then.
use Rattle.ss_store.proofs.Common.{◌≡◌, ◌∙◌, ℕ, ◌<◌, ◌≤◌, Bool, true, false, List, get_or, slice_set, length, map, ap, arith, inl, refl, sym, subst, Err, None}
use Rattle.ss_store.proofs.Common.{Ok, DiskView, OfContent, Step, failed, fine, Failed, LAST_TIME, StreamId, event_name, MOST_SLOTS, LandmarksState, has_open}
use Rattle.ss_store.proofs.Common.{RecordsState, shown_by, entries_of, mark_slots, HeldStream, StreamParts, held_parts, IsMarker, Applies, leaves_no_value}
use Rattle.ss_store.proofs.Common.{is_plain_value, StagesAtCost, KeepsWhole, values_held, IsHeldIn, IsSound, same_name, StoreIsIn, StoreIsKept, StoreState}
use Rattle.ss_store.proofs.Common.{of_part, refuses_held, without_spare, CanMark, FitsMark, IsInOpen, IsItsSlot, event_of, slots_used, with_mark, Disk, Mark}
use Rattle.ss_stream.specs.declared.marking.Mark.TheVariants as marks
use Rattle.ss_parts.specs.declared.read_error.ReadError.TheVariants as fault
use Rattle.ss_stream.specs.Changing.{CanTakeMark, HasNoLessRoom, HasSameWindows, TakesMark}
use Rattle.ss_stream.proofs.MarkedCalls.{CanBeSaid-mark, mark_refusal-same}
use Rattle.ss_store.proofs.IndexedStreams.{parts-read, stored}
use Rattle.ss_store.proofs.Refusals.{of_part-named, refuses_held-is}
use Rattle.ss_store.proofs.Spared.{IsSpared-marks, part-read, same_name-part}
use Rattle.ss_store.proofs.Taking.{IsTakingAt, applies-taken, applies-untaken, ordered-spared, pair, recovers-before, same-spared, taking, with_stream}
use Rattle.ss_store.proofs.Valued.{MayStep, MayStep-mark}

-- nor does a mark create a stream
not-creation : (name : List ℕ) (t : ℕ) (mark : Mark) → leaves_no_value (event_of name t mark) ≡ true → ⊥
not-creation name t marks.Open made = let wrong : false ≡ true = made in cc
not-creation name t (marks.Value v) made = let wrong : false ≡ true = made in cc
not-creation name t marks.Close made = let wrong : false ≡ true = made in cc

-- an event of landmarks is no value outside them
not-plain : (parts : List StreamParts) (name : List ℕ) (t : ℕ) (mark : Mark) →
    (IsInOpen mark → of_part name parts (λ part. has_open part.landmarks.landmarks) ≡ true) → is_plain_value parts (event_of name t mark) ≡ true → ⊥
not-plain parts name t marks.Open begun plain = (let wrong : false ≡ true = plain in cc)
not-plain parts name t (marks.Value v) begun plain = (let wrong : false ≡ true = rw (begun tt) at plain in cc)
not-plain parts name t marks.Close begun plain = (let wrong : false ≡ true = plain in cc)

-- its name
event_name-mark : (name : List ℕ) (t : ℕ) (mark : Mark) → event_name (event_of name t mark) ≡ name
event_name-mark name t marks.Open = refl
event_name-mark name t (marks.Value v) = refl
event_name-mark name t marks.Close = refl

-- room to spare says nothing of the slot of its record
in_slot-same : (live : List Bool) (part other : StreamParts) (slot : ℕ) (mark : Mark) → without_spare part ≡ without_spare other →
    IsItsSlot live other mark slot → IsItsSlot live part mark slot
in_slot-same live part other slot marks.Open same is = is
in_slot-same live part other slot (marks.Value v) same is = is
in_slot-same live part other slot marks.Close same is = subst (λ (p : StreamParts). IsItsSlot live p marks.Close slot) (sym same) is

-- What is known before: the landmarks of a stream of the store may take the mark, and were given room.
pub record IsTakingMark (store : StoreState) (catalog : List (List ℕ × StreamId)) (name : List ℕ) (t : ℕ) (mark : Mark) (place slot : ℕ)
    (was : StreamParts) (marks : LandmarksState) (disk : DiskView) : Type 0 where
  pub marker : IsMarker store name t mark place slot
  pub early : t ≤ LAST_TIME
  pub begun : IsInOpen mark → of_part name store.streams (λ part. has_open part.landmarks.landmarks) ≡ true
  pub is : IsTakingAt (event_of name t mark) store catalog place marker.part (record was { landmarks = marks }) disk

pub taking-mark : (held : List HeldStream) {records : RecordsState} {stopped : Bool} {view : StoreState} {catalog : List (List ℕ × StreamId)} {name : List ℕ}
    {t : ℕ} {mark : Mark} {place slot : ℕ} {stream : HeldStream} {marks : LandmarksState} (disk : DiskView) → stored held records stopped ≡ view →
    OfContent disk (StoreIsKept view) → IsSound (stored held records stopped) catalog → view.stopped ≡ false →
    IsMarker view name t mark place slot → refuses_held view.streams (event_of name t mark) ≡ None → t ≤ LAST_TIME →
    (IsInOpen mark → of_part name view.streams (λ part. has_open part.landmarks.landmarks) ≡ true) → stream ≡ get_or held place stream →
    HasNoLessRoom stream.part.landmarks marks → IsTakingMark (stored held records stopped) catalog name t mark place slot stream.part marks disk
taking-mark held {records} {stopped} {name = name} {t = t} {mark = mark} {place = place} {slot = slot} {stream = stream} {marks = marks} disk same
    one_disk sound runs marker none early begun read room =
    let its = rw (← same) at marker in
    let takes = taking held disk same one_disk sound runs none in
    let part = part-read (held_parts held) place its.part stream.part its.at (parts-read held place read) in
    record {
      marker = its;
      early = early;
      begun = λ own. ap (λ (s : StoreState). of_part name s.streams (λ part. has_open part.landmarks.landmarks)) same ∙ begun own;
      is = record {
        takes = takes;
        stands = rw event_name-mark (record { named = its.named; at = its.at });
        room = IsSpared-marks (stored held records stopped) place its.part stream.part part its.at (takes.sound.whole takes.runs) marks room.landmarks
            room.slots room.value_slots room.room_grows room.value_room_grows room.known;
      };
    }

module _ {store : StoreState} {catalog : List (List ℕ × StreamId)} {name : List ℕ} {t : ℕ} {mark : Mark} {place slot : ℕ} {was : StreamParts}
    {marks : LandmarksState} {before : DiskView} (it : IsTakingMark store catalog name t mark place slot was marks before) where
  pub can-mark : 1 ≤ marks.room → 1 ≤ marks.value_room → CanTakeMark store.records (record was { landmarks = marks }) slot t mark
  can-mark some some_values =
      let spared : StreamParts = record was { landmarks = marks } in
      let same = it.is.room.same in
      record {
        can = subst (λ (p : StreamParts). CanMark p.landmarks.landmarks t mark) (sym same) it.marker.can;
        accepted = mark_refusal-same spared it.marker.part t mark same ∙ it.marker.accepted;
        in_slot = in_slot-same store.records.live spared it.marker.part slot mark same it.marker.in_slot;
        few = subst (λ (p : StreamParts). length (mark_slots p) < MOST_SLOTS) (sym same) it.marker.few;
        room = some;
        value_room = some_values;
        ordered = ordered-spared it.is;
      }

  module _ (now : StreamParts) (records : RecordsState) (same : HasSameWindows (record was { landmarks = marks }) now) (fits : FitsMark mark) where
    may : (kept : StoreIsIn store (shown_by store.records before.told.content)) →
        MayStep kept.streams (event_of name t mark) place (with_mark (pair it.is kept).stream t mark)
    may kept =
        let its = pair it.is kept in
        MayStep-mark kept.streams name t mark place its.stream kept.state
        (sym (refuses_held-is store.streams kept.streams (event_of name t mark) kept.agree kept.state) ∙ it.is.takes.none)
        (CanBeSaid-mark name t mark it.early fits) its.here
        (ap (λ n. same_name name n) (sym its.agrees.name) ∙ same_name-part name store.streams it.marker.part it.marker.named)
        (λ own.
        ap has_open (sym its.agrees.landmarks)
        ∙ sym (of_part-named store.streams name it.marker.part (λ p. has_open p.landmarks.landmarks) it.marker.named) ∙ it.begun own)
        kept.closed

    -- the event is applied
    pub applies-marked : {used most : ℕ} (after : DiskView) (n k : ℕ) (done : Unit {0}) →
        KeepsWhole (record was { landmarks = marks }) now store.records records (slots_used mark slot) →
        Step fine before after
        (StagesAtCost {T = Unit {0}} {E = Failed} (TakesMark (record was { landmarks = marks }) now t mark store.records records (Ok done)) used most
        store.records records (Ok done)) →
        n ≡ values_held (entries_of now) → k ≡ length now.line.entries →
        Applies (event_of name t mark) store (with_stream it.is now records store.stopped) before after (Ok (record { n = n; k = k }))
    applies-marked after n k done whole step values windows =
        let extent = whole.extent in
        let low = it.marker.low in
        applies-taken it.is Failed (λ others s. IsHeldIn others (record was { landmarks = marks }) s) (λ s. with_mark s t mark)
        (λ kept image still. inl (recovers-before it.is kept image still)) may now records same.name after n k done step (omega (arith, extent, low)) values
        windows (not-creation name t mark) (λ plain. absurd (not-plain store.streams name t mark it.begun plain))

    -- the disk failed
    pub applies-unmarked : {used most : ℕ} (after : DiskView) (e : Failed) →
        Step failed before after
        (StagesAtCost {T = Unit {0}} {E = Failed} (TakesMark (record was { landmarks = marks }) now t mark store.records records (Err e)) used most
        store.records records (Err e)) →
        Applies (event_of name t mark) store (with_stream it.is now records true) before after (Err Disk)
    applies-unmarked after e step =
        applies-untaken it.is Failed (λ others s. IsHeldIn others (record was { landmarks = marks }) s) (λ s. with_mark s t mark)
        (λ kept image still. inl (recovers-before it.is kept image still)) may now records same.name after fault.Disk e step tt

    -- and the streams are what they were but for the room
    pub same-unmarked : now ≡ record was { landmarks = marks } → map without_spare (slice_set store.streams place now) ≡ map without_spare store.streams
    same-unmarked same_part = ap (λ (p : StreamParts). map without_spare (slice_set store.streams place p)) same_part ∙ (same-spared it.is).streams
