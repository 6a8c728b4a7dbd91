-- What is held of one stream among others.
use Rattle.ss_store.proofs.Common.{◌≡◌, ◌∙◌, ℕ, ◌<◌, Bool, List, [], ◌∷◌, ◌++◌, Some, sym, ap, get_or, length, map-append, map-set, option_map}
use Rattle.ss_store.proofs.Common.{remove, slice_get, slice_get-get_or, slice_get-map, slice_set, All, All-get_or, All-set, length-map, HeldStream, IsScheduled}
use Rattle.ss_store.proofs.Common.{Index, RecordsState, StoreState, held_parts}
use Rattle.std.proofs.Math.ListN.{get_or-map}
use Rattle.ss_stream.proofs.KeyedWindows.{IsScheduled-same}
use Rattle.ss_store.proofs.Removed.{map-remove}

-- what is seen of a store with these streams
abbrev pub stored : List HeldStream → RecordsState → Bool → StoreState
stored held records stopped = record { streams = held_parts held; records = records; stopped = stopped }

-- what is read at a place, and what is set there
pub parts-read : (held : List HeldStream) (place : ℕ) {stream : HeldStream} → stream ≡ get_or held place stream →
    stream.part ≡ get_or (held_parts held) place stream.part
parts-read held place {stream} read =
    ap (λ (h : HeldStream). h.part) read ∙ sym (get_or-map (λ (h : HeldStream). h.part) held place stream)

pub parts-set : (held : List HeldStream) (place : ℕ) (now : HeldStream) → held_parts (slice_set held place now) ≡ slice_set (held_parts held) place now.part
parts-set held place now = map-set (λ (h : HeldStream). h.part) held place now

pub parts-more : (held : List HeldStream) (now : HeldStream) → held_parts (held ++ now ∷ []) ≡ held_parts held ++ now.part ∷ []
parts-more held now = map-append (λ (h : HeldStream). h.part) held (now ∷ [])

pub parts-remove : (held : List HeldStream) (place : ℕ) → held_parts (remove held place) ≡ remove (held_parts held) place
parts-remove held place = map-remove (λ (h : HeldStream). h.part) held place

pub parts-at : (held : List HeldStream) (place : ℕ) (otherwise : HeldStream) → place < length held →
    slice_get (held_parts held) place ≡ Some (get_or held place otherwise).part
parts-at held place otherwise inside =
    slice_get-map (λ (h : HeldStream). h.part) held place
    ∙ ap (option_map (λ (h : HeldStream). h.part)) (slice_get-get_or held place otherwise inside)

-- the stream at a place has its index
pub IsScheduled-at : (held : List HeldStream) (place : ℕ) {stream : HeldStream} → All IsScheduled held → place < length (held_parts held) →
    stream ≡ get_or held place stream → IsScheduled stream
IsScheduled-at held place {stream} all inside read = rw read (All-get_or IsScheduled held place stream (rw length-map at inside) all)

-- a stream that changes, but for its target and the windows in its line, keeps its index
pub AreScheduled-other : (held : List HeldStream) (place : ℕ) {stream : HeldStream} (now : HeldStream) → All IsScheduled held →
    place < length (held_parts held) → stream ≡ get_or held place stream → now.part.target ≡ stream.part.target →
    now.part.line.entries ≡ stream.part.line.entries → now.index ≡ stream.index → All IsScheduled (slice_set held place now)
AreScheduled-other held place {stream} now all inside read target entries index =
    All-set IsScheduled held place now
    (IsScheduled-same stream now target entries (ap (λ (i : Index). i.schedule.target) index) (λ n es keyed. rw index keyed) (ap (λ (i : Index). i.times) index)
    (IsScheduled-at held place all inside read)) all
