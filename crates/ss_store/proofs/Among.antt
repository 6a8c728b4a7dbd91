-- One stream among others: its records beside theirs, and what stands in its place afterwards.
use Rattle.ss_stream.proofs.Rising.{IsNoEarlier}
use Rattle.ss_store.proofs.Common.{◌≡◌, ℕ, zero, suc, ◌<◌, Bool, List, [], ◌∷◌, ◌++◌, length, flat_map, remove, slice_set, zip, refl, ap, sym}
use Rattle.ss_store.proofs.Common.{◌∙◌, arith, IsPermutation, Option, None, Some, MatchOption, length-set, map-set, All-get_or, All-nil}
use Rattle.ss_store.proofs.Common.{All-set, IsPermutation-sym, IsPermutation-trans, get_or_from_slice_get, none-some, same_Some, slice_get_within, Record}
use Rattle.ss_store.proofs.Common.{SlotMap, StandsFor, Landmark, AreKnown, AllEndBy, EndsBy, AllEndBy-later, closed_state, closed_stream}
use Rattle.ss_store.proofs.Common.{rule_of, IsState, IsStream, Stream, values_in, IsStream-joined, AllAgree, AreWhole, Agrees, EndByLast, RiseToLast}
use Rattle.ss_store.proofs.Common.{TileFrom, entries_of, records_held, slots_held, StreamParts, carried, carried-AreHeld, HasWholeSlots-StandsFor, IsOrdered}
use Rattle.ss_store.proofs.Common.{IsPartlyJoined, IsSameStream, with_windows, IsHeldIn, Recovers, recovered_from, recovered_of, AreSomeLive, LiveSlotsGo}
use Rattle.ss_store.proofs.Common.{live_slots, HasRecords}
use Rattle.std.proofs.Common.{slice_get}
use Rattle.std.proofs.lemmas.List.{set-set}
use Rattle.ss_journal.proofs.RedoLemmas.{StandsFor-parts}
use Rattle.ss_parts.specs.Held.{AreHeld}
use Rattle.ss_recover.proofs.WholeSlots.{carried-same}
use Rattle.ss_store.specs.Recover.{recover}
use Rattle.ss_store.proofs.OneOfMany.{IsPermutation-parted, map-set_same, remove-set, slice_get-set, slice_get-zip, zip-set}
use Rattle.ss_store.proofs.ShorterStates.{IsState-shorter, closed_stream-joined, length-JoinsDue}

-- the records of the streams at all places but one
abbrev pub others_of : ℕ → List StreamParts → List Stream → List (ℕ × Option Record)
others_of place parts streams = flat_map records_held (remove (zip parts streams) place)

-- the records of all streams
abbrev pub all_held : List StreamParts → List Stream → List (ℕ × Option Record)
all_held parts streams = flat_map records_held (zip parts streams)

pub length-AllAgree : (parts : List StreamParts) (streams : List Stream) → AllAgree parts streams → length parts ≡ length streams
length-AllAgree [] [] each = refl
length-AllAgree [] (s ∷ ss) each = absurd each
length-AllAgree (part ∷ parts) [] each = absurd each
length-AllAgree (part ∷ parts) (s ∷ ss) each = ap suc (length-AllAgree parts ss each.1)

pub Agrees-at : (parts : List StreamParts) (streams : List Stream) (place : ℕ) (part : StreamParts) → AllAgree parts streams →
    slice_get parts place ≡ Some part → (s : Stream) × (slice_get streams place ≡ Some s) × Agrees part s
Agrees-at [] streams place part each at = absurd (none-some part at)
Agrees-at (p ∷ ps) [] place part each at = absurd each
Agrees-at (p ∷ ps) (s ∷ ss) zero part each at = (s, refl, rw (same_Some p part at) at each.0)
Agrees-at (p ∷ ps) (s ∷ ss) (suc place) part each at = Agrees-at ps ss place part each.1 at

-- the same where the stream is known
pub Agrees-both : (parts : List StreamParts) (streams : List Stream) (place : ℕ) (part : StreamParts) (s : Stream) → AllAgree parts streams →
    slice_get parts place ≡ Some part → slice_get streams place ≡ Some s → Agrees part s
Agrees-both parts streams place part s each at stream_at =
    let found = Agrees-at parts streams place part each at in
    rw (same_Some found.0 s (sym found.1 ∙ stream_at)) at found.2

pub IsStream-at : (streams : List Stream) (place : ℕ) (s : Stream) → IsState streams → slice_get streams place ≡ Some s → IsStream s
IsStream-at streams place s state at =
    rw (get_or_from_slice_get streams place s s at) at (All-get_or IsStream streams place s (slice_get_within streams place s at) state.each)

pub IsHeldIn-at : (parts : List StreamParts) (streams : List Stream) (place : ℕ) (part : StreamParts) (s : Stream) (image : List ℕ) →
    AllAgree parts streams → IsState streams → slice_get parts place ≡ Some part → slice_get streams place ≡ Some s →
    HasRecords (flat_map records_held (zip parts streams)) image → IsHeldIn (others_of place parts streams) part s image
IsHeldIn-at parts streams place part s image each state at stream_at has =
    let pair = slice_get-zip parts streams place part s at stream_at in
    record {
      agrees = Agrees-both parts streams place part s each at stream_at;
      stream = IsStream-at streams place s state stream_at;
      records = record {
        found = has.found;
        map = has.map;
        occupied = IsPermutation-trans (records_held (part, s) ++ others_of place parts streams) (all_held parts streams) _
            (IsPermutation-parted records_held (zip parts streams) place (part, s) pair) has.occupied;
      };
    }

pub AllAgree-set : (parts : List StreamParts) (streams : List Stream) (place : ℕ) (part : StreamParts) (s : Stream) →
    AllAgree parts streams → Agrees part s → AllAgree (slice_set parts place part) (slice_set streams place s)
AllAgree-set [] [] place part s each agrees = each
AllAgree-set [] (u ∷ us) place part s each agrees = absurd each
AllAgree-set (p ∷ ps) [] place part s each agrees = absurd each
AllAgree-set (p ∷ ps) (u ∷ us) zero part s each agrees = (agrees, each.1)
AllAgree-set (p ∷ ps) (u ∷ us) (suc place) part s each agrees = (each.0, AllAgree-set ps us place part s each.1 agrees)

-- the records of all, where one part and its stream were replaced
pub HasRecords-back : (parts : List StreamParts) (streams : List Stream) (place : ℕ) (part : StreamParts) (s : Stream) (image : List ℕ) →
    AllAgree parts streams → place < length parts → HasRecords (records_held (part, s) ++ others_of place parts streams) image →
    HasRecords (flat_map records_held (zip (slice_set parts place part) (slice_set streams place s))) image
HasRecords-back parts streams place part s image each inside has =
    let long = length-AllAgree parts streams each in
    let pairs = slice_set (zip parts streams) place (part, s) in
    let at : slice_get pairs place ≡ Some (part, s) =
    rw zip-set at (slice_get-zip (slice_set parts place part) (slice_set streams place s) place part s
    (slice_get-set parts place part inside) (slice_get-set streams place s (omega arith))) in
    let moved : IsPermutation (records_held (part, s) ++ others_of place parts streams) (flat_map records_held pairs) =
    rw remove-set at (IsPermutation-parted records_held pairs place (part, s) at) in
    record {
      found = has.found;
      map = has.map;
      occupied = rw (zip-set parts streams place part s)
          (IsPermutation-trans (flat_map records_held pairs) (records_held (part, s) ++ others_of place parts streams) _
          (IsPermutation-sym (records_held (part, s) ++ others_of place parts streams) (flat_map records_held pairs) moved) has.occupied);
    }

pub HasRecords-set : (parts : List StreamParts) (streams : List Stream) (place : ℕ) (part : StreamParts) (s : Stream) (image : List ℕ) →
    AllAgree parts streams → place < length parts → IsHeldIn (others_of place parts streams) part s image →
    AllAgree (slice_set parts place part) (slice_set streams place s)
    × HasRecords (flat_map records_held (zip (slice_set parts place part) (slice_set streams place s))) image
HasRecords-set parts streams place part s image each inside held =
    (AllAgree-set parts streams place part s each held.agrees, HasRecords-back parts streams place part s image each inside held.records)

-- an image that stands for a map recovers to what the map carries
pub recover-StandsFor : (image : List ℕ) (found : SlotMap) → StandsFor image found → recover image ≡ recovered_of (carried found)
unfolding recover
recover-StandsFor image found is =
    let parts = StandsFor-parts image found is in
    let whole = HasWholeSlots-StandsFor image found is in
    ap recovered_from parts.1
    ∙ ap recovered_of (carried-same parts.0 found (omega (arith, whole.few, parts.2.extent)) parts.2)

pub Recovers-held : (parts : List StreamParts) (streams : List Stream) (image : List ℕ) → AllAgree parts streams → IsState streams →
    HasRecords (flat_map records_held (zip parts streams)) image → Recovers (closed_state streams) image
Recovers-held parts streams image each state has =
    let held : AreHeld parts streams has.found = record { each = each; records = has.occupied; state = state } in
    recover-StandsFor image has.found has.map
    ∙ ap recovered_of (carried-AreHeld parts streams has.found (HasWholeSlots-StandsFor image has.found has.map) held)

-- of a stream in whose place this one stands some windows were joined that are due
pub Recovers-partly : (parts : List StreamParts) (streams : List Stream) (place : ℕ) (s : Stream) (image : List ℕ) →
    AllAgree parts streams → place < length parts → IsState (slice_set streams place s) →
    IsPartlyJoined (others_of place parts streams) s image → Recovers (closed_state (slice_set streams place s)) image
Recovers-partly parts streams place s image each inside state partly =
    let now = with_windows s partly.windows in
    let was = slice_set streams place s in
    let at : slice_get was place ≡ Some s = slice_get-set streams place s (omega (arith, length-AllAgree parts streams each)) in
    let stream = IsStream-at was place s state at in
    let rule = rule_of s.params in
    let n = values_in s in
    let joined = IsStream-joined n s partly.windows stream partly.joins in
    let few = length-JoinsDue rule n s.windows partly.windows partly.joins in
    let state_now : IsState (slice_set streams place now) =
    rw set-set at (IsState-shorter was place s partly.windows state at joined few) in
    let has = HasRecords-set parts streams place partly.part now image each inside partly.held in
    let closes : closed_state (slice_set streams place now) ≡ closed_state was =
    map-set closed_stream streams place now
    ∙ ap (slice_set (closed_state streams) place) (closed_stream-joined s partly.windows stream.windows partly.joins)
    ∙ sym (map-set closed_stream streams place s) in
    rw closes at (Recovers-held (slice_set parts place partly.part) (slice_set streams place now) image has.0 state_now has.1)

-- the slots of one part, and those of the others, are live
slots-parted : (parts : List StreamParts) (live : List Bool) (place : ℕ) (part : StreamParts) → AreWhole parts live → slice_get parts place ≡ Some part →
    IsPermutation (slots_held part ++ flat_map slots_held (remove parts place)) (live_slots live)
slots-parted parts live place part whole at =
    IsPermutation-trans (slots_held part ++ flat_map slots_held (remove parts place)) (flat_map slots_held parts) (live_slots live)
    (IsPermutation-parted slots_held parts place part at) whole.slots

pub AreWhole-at : (parts : List StreamParts) (live : List Bool) (place : ℕ) (part : StreamParts) → AreWhole parts live →
    slice_get parts place ≡ Some part → IsOrdered part × AreSomeLive (slots_held part) live
AreWhole-at parts live place part whole at =
    let tiles = rw (get_or_from_slice_get parts place part part at) at
    (All-get_or (λ (p : StreamParts). TileFrom 1 (entries_of p)) parts place part (slice_get_within parts place part at) whole.tiles) in
    let times = rw (get_or_from_slice_get parts place part part at) at
    (All-get_or RiseToLast parts place part (slice_get_within parts place part at) whole.times) in
    (record { tiles = tiles; times = times }, (flat_map slots_held (remove parts place), slots-parted parts live place part whole at))

-- the landmarks of one part are in order, and end by its last time
pub Marks-at : (parts : List StreamParts) (live : List Bool) (place : ℕ) (part : StreamParts) → AreWhole parts live →
    slice_get parts place ≡ Some part → AreKnown part.landmarks × EndByLast part
Marks-at parts live place part whole at =
    let P : StreamParts → Type 0 = λ p. AreKnown p.landmarks × EndByLast p in
    rw (get_or_from_slice_get parts place part part at) at (All-get_or P parts place part (slice_get_within parts place part at) whole.landmarks)

-- the same stream in its place, however its windows and landmarks have changed
pub AreWhole-changed : (parts : List StreamParts) (live live_now : List Bool) (place : ℕ) (part now : StreamParts) → AreWhole parts live →
    slice_get parts place ≡ Some part → now.id ≡ part.id → now.name ≡ part.name → IsOrdered now →
    AreKnown now.landmarks × EndByLast now → LiveSlotsGo (slots_held part) (slots_held now) live live_now →
    AreWhole (slice_set parts place now) live_now
AreWhole-changed parts live live_now place part now whole at same_id same_name ordered marks go =
    let inside = slice_get_within parts place part at in
    let others = flat_map slots_held (remove parts place) in
    let parted = slots-parted parts live place part whole at in
    let changed = slice_set parts place now in
    let moved : IsPermutation (slots_held now ++ others) (flat_map slots_held changed) =
    rw remove-set at (IsPermutation-parted slots_held changed place now (slice_get-set parts place now inside)) in
    record {
      few = omega (arith, whole.few, length-set parts place now);
      numbers = rw (map-set_same (λ (p : StreamParts). p.id.0) parts place part now at (ap (λ i. i.0) same_id)) whole.numbers;
      names = rw (map-set_same (λ (p : StreamParts). p.name) parts place part now at same_name) whole.names;
      tiles = All-set (λ (p : StreamParts). TileFrom 1 (entries_of p)) parts place now ordered.tiles whole.tiles;
      times = All-set RiseToLast parts place now ordered.times whole.times;
      landmarks = All-set (λ (p : StreamParts). AreKnown p.landmarks × EndByLast p) parts place now marks whole.landmarks;
      slots = IsPermutation-trans (flat_map slots_held changed) (slots_held now ++ others) (live_slots live_now)
          (IsPermutation-sym (slots_held now ++ others) (flat_map slots_held changed) moved) (go others parted);
    }

all_end-later : (was now : Option ℕ) (landmarks : List Landmark) → IsNoEarlier was now →
    MatchOption was (landmarks ≡ []) (λ last. AllEndBy last landmarks) → MatchOption now (landmarks ≡ []) (λ last. AllEndBy last landmarks)
all_end-later None None landmarks later end = end
all_end-later None (Some t) landmarks later end = rw end (All-nil (EndsBy t))
all_end-later (Some last) None landmarks later end = absurd later
all_end-later (Some last) (Some t) landmarks later end = AllEndBy-later landmarks last t later end

-- the landmarks end by the last time where they are as they were, and it is no earlier
pub EndByLast-later : (part now : StreamParts) → now.landmarks ≡ part.landmarks → IsNoEarlier part.last_time now.last_time → EndByLast part → EndByLast now
EndByLast-later part now same later end =
    all_end-later part.last_time now.last_time now.landmarks.landmarks later (rw same end)

-- with the same landmarks
pub AreWhole-set : (parts : List StreamParts) (live live_now : List Bool) (place : ℕ) (part now : StreamParts) → AreWhole parts live →
    slice_get parts place ≡ Some part → IsSameStream part now → IsNoEarlier part.last_time now.last_time → IsOrdered now →
    LiveSlotsGo (slots_held part) (slots_held now) live live_now → AreWhole (slice_set parts place now) live_now
AreWhole-set parts live live_now place part now whole at same later ordered go =
    let marks = Marks-at parts live place part whole at in
    AreWhole-changed parts live live_now place part now whole at same.id same.name ordered
    (rw same.landmarks marks.0, EndByLast-later part now same.landmarks later marks.1) go
