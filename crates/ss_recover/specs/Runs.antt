-- The records of one stream after another, in order: which of them meet all conditions, and what is built of them.
use Rattle.std.specs.Prelude.{◌≡◌, ℕ, ◌<◌, Bool, true, false, not, ◌==◌, ◌&&◌, ◌||◌, nat_lt, List, [], ◌∷◌, length, filter, flat_map, zip}
use Rattle.std.specs.Prelude.{◌++◌}
use Rattle.std.specs.Prelude.{map, Result, Ok, Err, ⊤}
use Rattle.std.specs.List.{AllByRecursion, filter_map, list_any}
use Rattle.std.specs.List.Sorted.{IsPermutation}
use Rattle.ss_catalog.specs.Names.{same_name}
use Rattle.ss_catalog.specs.Params.{step_number}
use Rattle.ss_catalog.specs.declared.TheConstants.{MOST_STREAMS}
use Rattle.ss_codec.specs.declared.record.Record.{Record}
use Rattle.ss_codec.specs.declared.record.Record.TheVariants.{Stream}
use Rattle.ss_model.specs.Standing.{IsState}
use Rattle.ss_model.specs.State as Streams
use Rattle.ss_model.specs.declared.types.Window.{Window}
use Rattle.ss_recover.specs.Carried.{is_mark_of, streams_standing, window_of}
use Rattle.ss_recover.specs.Conditions.{are_sound, is_sound_with, keep_step}
use Rattle.ss_recover.specs.Doomed.{is_doomed, is_own}
use Rattle.ss_parts.specs.Held.{AllAgree, records_held}
use Rattle.ss_recover.specs.Marked.{landmarks_made}
use Rattle.ss_recover.specs.Order.{Rises, stream_of}
use Rattle.ss_recover.specs.Usable.{with_slot, slots_found, without_slots}
use Rattle.ss_recover.specs.declared.found.Found.{Found}
use Rattle.ss_recover.specs.declared.parts.Parts.{Parts}
use Rattle.ss_recover.specs.declared.recover_error.RecoverError.{RecoverError}
use Rattle.ss_recover.specs.declared.recover_error.RecoverError.TheVariants.{BadSlot, BadStream, Disk, OutOfMemory}

-- the windows and the records of landmarks of the stream of a number, in the order of the records
abbrev pub windows_in : ℕ → List Record → List Window
windows_in number records = filter_map (window_of number) records

abbrev pub marks_in : ℕ → List Record → List Record
marks_in number records = filter (is_mark_of number) records

-- they meet their conditions, and the windows keep to this step
abbrev pub has_sound_values_within : ℕ → List Record → ℕ → Bool
has_sound_values_within step records number =
    are_sound (windows_in number records) (marks_in number records) && keep_step step (windows_in number records)

-- a stream may stand beside those with these names: its name is new, and they aren't as many as can be
abbrev pub may_stand : List (List ℕ) → List ℕ → Bool
may_stand names name = nat_lt (length names) MOST_STREAMS && not (list_any (same_name name) names)

-- The records of one number after the streams with these names: the first one alone creates a stream, which may stand with a name
-- that is new. Of the others nothing more is asked where it says that the stream was dropped.
abbrev pub is_run : List (List ℕ) → List Record → Bool
is_run names [] = false
is_run names (Stream id name params dropped ∷ rest) =
    may_stand names name && (not (list_any is_own rest) && (dropped || has_sound_values_within (step_number params.within) rest id))
is_run names (_ ∷ rest) = false

-- the records of the number meet all conditions, where those of each stream come in order
abbrev pub is_sound_in_order : List Record → ℕ → Bool
is_sound_in_order records number = is_sound_with records number (windows_in number records) (marks_in number records)

-- the stream that records in order make of one that is created (`stream_carried` sorts them first), and what all records make of the
-- streams that some of them create and don't drop
abbrev pub stream_made : List Record → Streams.Created → Streams.Stream
stream_made records head = record {
  number = head.number;
  name = head.name;
  params = head.params;
  windows = windows_in head.number records;
  landmarks = landmarks_made (marks_in head.number records);
}

abbrev pub streams_made : List Record → List Record → List Streams.Stream
streams_made all some = map (stream_made all) (streams_standing some)

-- those of some records that are of dropped streams, their own or the others
abbrev pub doomed_found : Bool → List Found → List Found
doomed_found own all = filter (λ (f : Found). is_doomed own (without_slots all) f.holds) all

-- slots, rising, are those of these records
pub record AreSlotsOf (slots : List ℕ) (found : List Found) : Type 0 where
  pub rising : Rises (λ slot. slot) slots
  pub are : IsPermutation slots (slots_found found)

-- These parts are of some records, whose order is another: the streams agree with those of which the records are that aren't of
-- dropped ones, and the slots are those of the records of dropped ones, the streams' own last. The records of each number meet all
-- conditions.
pub record AreBuilt (parts : Parts) (streams : List Streams.Stream) (all : List Found) : Type 0 where
  pub each : AllAgree parts.streams.items streams
  pub records : IsPermutation (map with_slot (doomed_found false all ++ doomed_found true all) ++ flat_map records_held (zip parts.streams.items streams))
      (map with_slot all)
  pub state : IsState streams
  pub sound : AllByRecursion (λ r. is_sound_in_order (without_slots all) (stream_of r) ≡ true) (without_slots all)
  pub others : List ℕ
  pub heads : List ℕ
  pub doomed : parts.doomed.items ≡ others ++ heads
  pub of_others : AreSlotsOf others (doomed_found false all)
  pub of_heads : AreSlotsOf heads (doomed_found true all)

-- The number is that of some record, and the lowest whose records break a condition.
pub record IsLowestUnsound (number : ℕ) (records : List Record) : Type 0 where
  pub has : list_any (λ r. stream_of r == number) records ≡ true
  pub unsound : is_sound_in_order records number ≡ false
  pub lower : AllByRecursion (λ r. stream_of r < number → is_sound_in_order records (stream_of r) ≡ true) records

-- what a walk over records in order answers
abbrev pub WalksAs : List Found → Result Parts RecoverError → Type 0
WalksAs all (Ok parts) = AreBuilt parts (streams_made (without_slots all) (without_slots all)) all
WalksAs all (Err (BadStream number)) = IsLowestUnsound number (without_slots all)
WalksAs all (Err OutOfMemory) = ⊤
WalksAs all (Err (BadSlot n)) = ⊥
WalksAs all (Err Disk) = ⊥
