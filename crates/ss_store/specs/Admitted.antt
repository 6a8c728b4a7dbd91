-- What is known of an event that isn't refused, before it is applied.
use Rattle.std.specs.Prelude.{◌≡◌, ℕ, ◌+◌, ◌<◌, ◌≤◌, false, List, length, slice_get, Some, None, IsTrue}
use Rattle.ss_catalog.specs.declared.params.Params.{Params}
use Rattle.ss_journal.specs.declared.format.TheConstants.{MOST_SLOTS}
use Rattle.ss_records.specs.Live.{lowest_free}
use Rattle.ss_targets.specs.Lengths.{has_target}
use Rattle.ss_base.specs.declared.limits.TheConstants.{MOST_VALUES}
use Rattle.ss_model.specs.Marks.{has_open}
use Rattle.ss_model.specs.Refusals.{has_all_streams, is_past}
use Rattle.ss_model.specs.State.{next_number}
use Rattle.ss_parts.specs.Held.{entries_of, mark_slots}
use Rattle.ss_parts.specs.declared.parts.StreamParts.{StreamParts}
use Rattle.ss_stream.specs.Held.{values_held}
use Rattle.ss_stream.specs.Marking.{CanMark, IsItsSlot, mark_refusal, slots_used}
use Rattle.ss_stream.specs.declared.marking.Mark.{Mark}
use Rattle.ss_store.specs.Kept.{StoreState, live_held, numbers_held, part_named}

-- a name and parameters make a new stream, with this number, and its record comes into this slot
pub record IsNew (store : StoreState) (name : List ℕ) (params : Params) (number slot : ℕ) : Type 0 where
  pub target : IsTrue (has_target params)
  pub named : part_named name store.streams ≡ None
  pub next : number ≡ next_number (numbers_held store.streams)
  pub room : has_all_streams (numbers_held store.streams) ≡ false
  pub free : lowest_free store.records.live ≡ Some slot
  pub low : slot ≤ live_held store.streams

-- the stream of a name stands at a place and may take a value outside landmarks at a time, and a slot is free for its window
pub record IsTaker (store : StoreState) (name : List ℕ) (t place slot : ℕ) : Type 0 where
  pub part : StreamParts
  pub named : part_named name store.streams ≡ Some part
  pub at : slice_get store.streams place ≡ Some part
  pub plain : has_open part.landmarks.landmarks ≡ false
  pub later : is_past part.last_time t ≡ false
  pub room : values_held (entries_of part) < MOST_VALUES
  pub free : lowest_free store.records.live ≡ Some slot
  pub low : slot ≤ live_held store.streams
  pub few : length part.line.entries < MOST_SLOTS

-- the stream of a name stands at a place, its landmarks may take this at a time, and its record has a slot
pub record IsMarker (store : StoreState) (name : List ℕ) (t : ℕ) (mark : Mark) (place slot : ℕ) : Type 0 where
  pub part : StreamParts
  pub named : part_named name store.streams ≡ Some part
  pub at : slice_get store.streams place ≡ Some part
  pub accepted : mark_refusal part t mark ≡ None
  pub can : CanMark part.landmarks.landmarks t mark
  pub in_slot : IsItsSlot store.records.live part mark slot
  pub low : slots_used mark slot ≤ live_held store.streams + 1
  pub few : length (mark_slots part) < MOST_SLOTS
