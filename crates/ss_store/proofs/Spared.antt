-- A stream that was given room, and what stands in the place of one.
use Rattle.ss_store.proofs.Common.{◌≡◌, zero, suc, ◌≤◌, ℕ, Bool, true, List, [], ◌∷◌, ◌++◌, length, map, get_or, slice_set, refl, ap, sym, ◌∙◌, subst, arith}
use Rattle.ss_store.proofs.Common.{Some, Option, AllZip, position_or_len, IsStrictlyIncreasing, find_at, get_or_from_slice_get, none-some, same_Some}
use Rattle.ss_store.proofs.Common.{slice_get_within, same_name, Record, Stream, Ack, AreKnown, LandmarksState, LineState, params_of, AreWhole, Agrees}
use Rattle.ss_store.proofs.Common.{entries_of, records_held, span_held, times_held, StreamParts, said_of_held, values_held, IsHeldIn, SameButSpare, StoreState}
use Rattle.ss_store.proofs.Common.{numbers_held, part_named, without_spare, HasRecords}
use Rattle.std.proofs.Common.{slice_get}
use Rattle.std.proofs.lemmas.List.Folds.{find-set}
use Rattle.ss_stream.specs.Held.{KeepsSpare}
use Rattle.ss_store.proofs.Among.{Marks-at}
use Rattle.ss_store.proofs.PlaceLemmas.{places-same}
use Rattle.ss_store.proofs.Removed.{find-passes}

-- the same part with room for more
pub record IsSpared (was now : StreamParts) : Type 0 where
  pub same : without_spare now ≡ without_spare was
  pub spare : KeepsSpare was now
  pub known : AreKnown now.landmarks

-- a part of a store whose line, or whose landmarks, were given room
module _ (store : StoreState) (place : ℕ) (part was : StreamParts) (is : part ≡ was) (at : slice_get store.streams place ≡ Some part)
    (whole : AreWhole store.streams store.records.live) where
  pub IsSpared-line : (line : LineState) → line.entries ≡ was.line.entries → was.line.spare ≤ line.spare → IsSpared part (record was { line = line })
  IsSpared-line line entries grows = rw is (record {
    same = rw entries refl;
    spare = record { line = grows; room = omega arith; value_room = omega arith };
    known = rw is at (Marks-at store.streams store.records.live place part whole at).0;
  })

  pub IsSpared-marks : (landmarks : LandmarksState) → landmarks.landmarks ≡ was.landmarks.landmarks → landmarks.slots ≡ was.landmarks.slots →
      landmarks.value_slots ≡ was.landmarks.value_slots → was.landmarks.room ≤ landmarks.room → was.landmarks.value_room ≤ landmarks.value_room →
      AreKnown landmarks → IsSpared part (record was { landmarks = landmarks })
  IsSpared-marks landmarks same slots value_slots room value_room known = rw is (record {
    same = rw (same, slots, value_slots) refl;
    spare = record { line = omega arith; room = room; value_room = value_room };
    known = known;
  })

Agrees-IsSpared : (was now : StreamParts) (s : Stream) → IsSpared was now → Agrees was s → Agrees now s
Agrees-IsSpared was now s spared agrees = record {
  number = ap (λ (p : StreamParts). p.id.0) spared.same ∙ agrees.number;
  name = ap (λ (p : StreamParts). p.name) spared.same ∙ agrees.name;
  params = ap (λ (p : StreamParts). params_of p.target) spared.same ∙ agrees.params;
  positions = ap (λ (p : StreamParts). map span_held (entries_of p)) spared.same ∙ agrees.positions;
  times = ap (λ (p : StreamParts). map times_held (entries_of p)) spared.same ∙ agrees.times;
  landmarks = ap (λ (p : StreamParts). p.landmarks.landmarks) spared.same ∙ agrees.landmarks;
  known = spared.known;
  last_time = ap (λ (p : StreamParts). p.last_time) spared.same ∙ agrees.last_time;
}

pub IsHeldIn-IsSpared : (others : List (ℕ × Option Record)) (was now : StreamParts) (s : Stream) (image : List ℕ) → IsSpared was now →
    IsHeldIn others was s image →
    IsHeldIn others now s image
IsHeldIn-IsSpared others was now s image spared held =
    let same : records_held (now, s) ≡ records_held (was, s) = ap (λ (p : StreamParts). records_held (p, s)) spared.same in
    record {
      agrees = Agrees-IsSpared was now s spared held.agrees;
      stream = held.stream;
      records = subst (λ l. HasRecords (l ++ others) image) (sym same) held.records;
    }

-- the stream of a name has the name
pub same_name-part : (name : List ℕ) (parts : List StreamParts) (part : StreamParts) → part_named name parts ≡ Some part → same_name name part.name ≡ true
same_name-part name parts part named = find-passes (λ (p : StreamParts). same_name name p.name) parts part named

-- and so has what stands in its place
pub part_named-set : (name : List ℕ) (parts : List StreamParts) (place : ℕ) (part now : StreamParts) → IsStrictlyIncreasing (numbers_held parts) →
    part_named name parts ≡ Some part → slice_get parts place ≡ Some part → now.name ≡ part.name → part_named name (slice_set parts place now) ≡ Some now
part_named-set name parts place part now rising named at same =
    let P : StreamParts → Bool = λ p. same_name name p.name in
    let first : slice_get parts (position_or_len P parts) ≡ Some part = sym (find_at P parts) ∙ named in
    let is : place ≡ position_or_len P parts = places-same parts place (position_or_len P parts) part rising at first in
    let passes : same_name name now.name ≡ true = rw same (same_name-part name parts part named) in
    find-set P parts place now is (slice_get_within parts place part at) passes

-- what is replied is read off the stream that took the event
pub said_of_set : (name : List ℕ) (parts : List StreamParts) (place : ℕ) (part now : StreamParts) (n k : ℕ) → IsStrictlyIncreasing (numbers_held parts) →
    part_named name parts ≡ Some part → slice_get parts place ≡ Some part → now.name ≡ part.name → n ≡ values_held (entries_of now) →
    k ≡ length now.line.entries → (let ack : Ack = record { n = n; k = k } in ack) ≡ said_of_held (part_named name (slice_set parts place now))
said_of_set name parts place part now n k rising named at same values windows =
    rw (part_named-set name parts place part now rising named at same, values, windows) refl

-- no room is given back
KeepsSpare-one : (part : StreamParts) → KeepsSpare part part
KeepsSpare-one part = record { line = omega arith; room = omega arith; value_room = omega arith }

pub KeepsSpare-same : (parts : List StreamParts) → AllZip KeepsSpare parts parts
KeepsSpare-same [] = tt
KeepsSpare-same (part ∷ parts) = (KeepsSpare-one part, KeepsSpare-same parts)

pub SameButSpare-same : (store : StoreState) → SameButSpare store store
SameButSpare-same store = record { streams = refl; spares = KeepsSpare-same store.streams; records = refl; stopped = refl }

pub KeepsSpare-set : (parts : List StreamParts) (place : ℕ) (was now : StreamParts) → slice_get parts place ≡ Some was → KeepsSpare was now →
    AllZip KeepsSpare parts (slice_set parts place now)
KeepsSpare-set [] place was now at keeps = absurd (none-some was at)
KeepsSpare-set (part ∷ parts) zero was now at keeps = (rw (same_Some part was at) keeps, KeepsSpare-same parts)
KeepsSpare-set (part ∷ parts) (suc place) was now at keeps = (KeepsSpare-one part, KeepsSpare-set parts place was now at keeps)

-- what was read at the place
pub part-read : (parts : List StreamParts) (place : ℕ) (part read : StreamParts) → slice_get parts place ≡ Some part → read ≡ get_or parts place read →
    part ≡ read
part-read parts place part read at is = sym (get_or_from_slice_get parts place part read at) ∙ sym is
