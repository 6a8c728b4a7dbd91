-- Worked images, whole, and what each recovers to.
use Rattle.ss_store.proofs.Common.{negsuc, replicate, refl, Figures, Event, Params, exp, Put, Plain, zeros}
use Rattle.ss_targets.specs.Windowing.{window_index}
use Rattle.ss_summary.specs.Filters.{union, has, full, filter_of, bit_of}
use Rattle.ss_store.proofs.Common.{Happened, added, Stream, Window, Recovers, no_store, damaged_entry, damaged_slot, damaged_stream, recovers}
use Rattle.std.specs.Prelude.{◌≡◌, ℕ, ℤ, false, true, ◌*◌, pos, List, [], ◌∷◌, ◌++◌, flat_map, map, slice_set, take, Some, None}
use Rattle.ss_fields.specs.Fields as Numbers
use Rattle.ss_summary.specs.Possible as Possible
use Rattle.ss_summary.specs.declared.filter.Filter.{Filter}
use Rattle.ss_catalog.specs.Names as Names
use Rattle.ss_catalog.specs.declared.event.Event.TheVariants as events
use Rattle.ss_catalog.specs.Params.{power}
use Rattle.ss_targets.specs.Power.{power_length}
use Rattle.ss_journal.specs.Checks.{entry_form, slot_form}
use Rattle.ss_journal.specs.Format.{is_born, is_unborn, kind_of, magic}
use Rattle.ss_journal.specs.Entries.{entries, entry_body, is_good, puts_of}
use Rattle.ss_journal.specs.Redo.{redo}
use Rattle.ss_codec.specs.Fields as Fields
use Rattle.ss_codec.specs.Record.{spelling, is_valid}
use Rattle.ss_codec.specs.Decoded.{decoded, finish_in, landmark_in, params_in, record_in, stream_in, value_in, window_in}
use Rattle.ss_codec.specs.declared.record.Record.TheVariants as records
use Rattle.ss_model.specs.Marks as Marks
use Rattle.ss_model.specs.State.{state}
use Rattle.ss_recover.specs.Carried.{spelled}
use Rattle.ss_recover.specs.Conditions.{is_sound}
use Rattle.ss_recover.specs.Parts.{carried}
use Rattle.ss_store.specs.Recover.{recover}

-- a formed file: its first two entries, and its slots
abbrev pub image_of : List ℕ → List ℕ → List (List ℕ) → List ℕ
image_of first second slots = 165 ∷ magic Plain ++ replicate 503 0 ++ first ++ second ++ replicate 35264 0 ++ flat_map (λ slot. slot) slots

-- an entry that isn't in use, and one that is, with these puts
abbrev pub no_entry : List ℕ
no_entry = replicate 544 0

abbrev entry_of : List Put → List ℕ
entry_of puts = 165 ∷ entry_body puts

abbrev put : ℕ → List ℕ → Put
put slot bytes = record { slot = slot; bytes = bytes }

-- the bytes of a stream's record and of a window's, and a slot that spells no record
abbrev stream_slot : ℕ → List ℕ → Params → List ℕ
stream_slot number name params = spelling (records.Stream number name params false)

abbrev pub window_slot : ℕ → ℕ → Figures → List ℕ
window_slot number first f = spelling (records.Window number first f)

abbrev damaged : List ℕ
damaged = slice_set zeros 0 9

-- the stream `a` with the number 0 and the target `exp 2 1 1`
abbrev pub a : List ℕ
a = 97 ∷ []

abbrev pub a_slot : List ℕ
a_slot = stream_slot 0 a (exp 2 1 1)

abbrev pub a_stream : List Window → List Stream
a_stream windows = record { number = 0; name = a; params = exp 2 1 1; windows = windows; landmarks = [] } ∷ []

abbrev pub window : ℕ → Figures → Window
window first f = record { first = first; summary = f }

-- one value at a time, with its filter, and so many values 5, the first and the last at these times, with all bits
abbrev pub value : ℕ → ℤ → Figures
value t v = record { count = 1; sum = v; min = v; max = v; t_first = t; t_last = t; filter = filter_of v }

abbrev fives : ℕ → ℕ → ℕ → Figures
fives count t_first t_last =
    record { count = count; sum = pos (5 * count); min = pos 5; max = pos 5; t_first = t_first; t_last = t_last; filter = full }

-- a file of length 0, and one that was formed without a slot
recover-no_byte : recover [] ≡ recovers []
unfolding recover redo is_born kind_of slot_form entry_form is_unborn carried spelled is_sound
recover-no_byte = refl

recover-no_slot : recover (image_of no_entry no_entry []) ≡ recovers []
unfolding recover redo is_born kind_of slot_form entry_form entries carried spelled is_sound decoded record_in stream_in window_in params_in is_valid spelling
    Names.is_name
    Possible.is_possible bit_of filter_of full has union Fields.with_field Numbers.number_at Numbers.number_bytes Marks.lies_free
recover-no_slot = refl

-- before the file is formed nothing in it counts: byte 0 is 0, or the birth gate is closed before the magic
recover-first_byte : recover (0 ∷ 83 ∷ 84 ∷ []) ≡ recovers []
unfolding recover redo is_born kind_of slot_form entry_form is_unborn carried spelled is_sound
recover-first_byte = refl

abbrev not_formed : List ℕ
not_formed = slice_set (image_of no_entry no_entry (damaged ∷ [])) 0 164

recover-not_formed : recover not_formed ≡ recovers []
unfolding recover redo is_born kind_of slot_form entry_form is_unborn carried spelled is_sound decoded record_in stream_in window_in params_in is_valid
    spelling Names.is_name
    Possible.is_possible bit_of filter_of full has union Fields.with_field Numbers.number_at Numbers.number_bytes Marks.lies_free
recover-not_formed = refl

-- a stream without values
recover-stream : recover (image_of no_entry no_entry (a_slot ∷ [])) ≡ recovers (a_stream [])
unfolding recover redo is_born kind_of slot_form entry_form entries carried spelled is_sound decoded record_in stream_in window_in params_in is_valid spelling
    Names.is_name
    Possible.is_possible bit_of filter_of full has union Fields.with_field Numbers.number_at Numbers.number_bytes Marks.lies_free
recover-stream = refl

-- three values: at 3 the first two windows lie together in one target window, and wait for their merge
abbrev first : List ℕ
first = window_slot 0 1 (fives 1 10 10)

abbrev second : List ℕ
second = window_slot 0 2 (fives 1 20 20)

abbrev third : List ℕ
third = window_slot 0 3 (fives 1 30 30)

abbrev both : List ℕ
both = window_slot 0 1 (fives 2 10 20)

-- they recover to the joined window
abbrev merged : List Stream
merged = a_stream (window 1 (fives 2 10 20) ∷ window 3 (fives 1 30 30) ∷ [])

recover-waiting : recover (image_of no_entry no_entry (a_slot ∷ first ∷ second ∷ third ∷ [])) ≡ recovers merged
unfolding recover redo is_born kind_of slot_form entry_form entries carried spelled is_sound decoded record_in stream_in window_in params_in is_valid spelling
    Names.is_name
    Possible.is_possible bit_of filter_of full has union Fields.with_field Numbers.number_at Numbers.number_bytes window_index Marks.lies_free
recover-waiting = refl

-- where the windows keep to a step, two that wait are joined within one alone: 10 and 20 lie in different steps of 20, and in one of 25
abbrev within : ℕ → Params
within step = record (exp 2 1 1) { within = Some step }

abbrev waiting_within : ℕ → List ℕ
waiting_within step = image_of no_entry no_entry (stream_slot 0 a (within step) ∷ first ∷ second ∷ third ∷ [])

abbrev stream_within : ℕ → List Window → List Stream
stream_within step windows = record { number = 0; name = a; params = within step; windows = windows; landmarks = [] } ∷ []

recover-two_steps : recover (waiting_within 20) ≡
    recovers (stream_within 20 (window 1 (fives 1 10 10) ∷ window 2 (fives 1 20 20) ∷ window 3 (fives 1 30 30) ∷ []))
unfolding recover redo is_born kind_of slot_form entry_form entries carried spelled is_sound decoded record_in stream_in window_in params_in is_valid spelling
    Names.is_name
    Possible.is_possible bit_of filter_of full has union Fields.with_field Numbers.number_at Numbers.number_bytes window_index Marks.lies_free
recover-two_steps = refl

recover-one_step : recover (waiting_within 25) ≡ recovers (stream_within 25 (window 1 (fives 2 10 20) ∷ window 3 (fives 1 30 30) ∷ []))
unfolding recover redo is_born kind_of slot_form entry_form entries carried spelled is_sound decoded record_in stream_in window_in params_in is_valid spelling
    Names.is_name
    Possible.is_possible bit_of filter_of full has union Fields.with_field Numbers.number_at Numbers.number_bytes window_index Marks.lies_free
recover-one_step = refl

-- a window that crosses a boundary is damage, unless its stream is dropped
recover-crossing : recover (image_of no_entry no_entry (stream_slot 0 a (within 20) ∷ both ∷ third ∷ [])) ≡ damaged_stream 0
unfolding recover redo is_born kind_of slot_form entry_form entries carried spelled is_sound decoded record_in stream_in window_in params_in is_valid spelling
    Names.is_name
    Possible.is_possible bit_of filter_of full has union Fields.with_field Numbers.number_at Numbers.number_bytes window_index Marks.lies_free
recover-crossing = refl

recover-crossing_dropped : recover (image_of no_entry no_entry (spelling (records.Stream 0 a (within 20) true) ∷ both ∷ third ∷ [])) ≡ recovers []
unfolding recover redo is_born kind_of slot_form entry_form entries carried spelled is_sound decoded record_in stream_in window_in params_in is_valid spelling
    Names.is_name
    Possible.is_possible bit_of filter_of full has union Fields.with_field Numbers.number_at Numbers.number_bytes window_index Marks.lies_free
recover-crossing_dropped = refl

-- so they do where a record stands in an entry that is in use, and its slot isn't in the file or is zeros
recover-window_in_entry : recover
    (image_of (entry_of (put 3 third ∷ [])) no_entry (a_slot ∷ first ∷ second ∷ []))
    ≡ recovers merged
unfolding recover redo is_born kind_of slot_form entry_form entries is_good puts_of entry_body carried spelled is_sound decoded record_in stream_in window_in
    params_in is_valid spelling
    Names.is_name Possible.is_possible bit_of filter_of full has union Fields.with_field Numbers.number_at Numbers.number_bytes window_index Marks.lies_free
recover-window_in_entry = refl

recover-stream_in_entry : recover
    (image_of (entry_of (put 0 a_slot ∷ [])) no_entry (zeros ∷ first ∷ second ∷ third ∷ []))
    ≡ recovers merged
unfolding recover redo is_born kind_of slot_form entry_form entries is_good puts_of entry_body carried spelled is_sound decoded record_in stream_in window_in
    params_in is_valid spelling
    Names.is_name Possible.is_possible bit_of filter_of full has union Fields.with_field Numbers.number_at Numbers.number_bytes window_index Marks.lies_free
recover-stream_in_entry = refl

-- and where the merge itself is in an entry, whatever is left of it in the slots
recover-merge_in_entry : recover
    (image_of (entry_of (put 1 both ∷ put 2 zeros ∷ [])) no_entry (a_slot ∷ first ∷ second ∷ third ∷ []))
    ≡ recovers merged
unfolding recover redo is_born kind_of slot_form entry_form entries is_good puts_of entry_body carried spelled is_sound decoded record_in stream_in window_in
    params_in is_valid spelling
    Names.is_name Possible.is_possible bit_of filter_of full has union Fields.with_field Numbers.number_at Numbers.number_bytes window_index Marks.lies_free
recover-merge_in_entry = refl

recover-merge_in_part : recover
    (image_of (entry_of (put 1 both ∷ put 2 zeros ∷ [])) no_entry (a_slot ∷ both ∷ damaged ∷ third ∷ []))
    ≡ recovers merged
unfolding recover redo is_born kind_of slot_form entry_form entries is_good puts_of entry_body carried spelled is_sound decoded record_in stream_in window_in
    params_in is_valid spelling
    Names.is_name Possible.is_possible bit_of filter_of full has union Fields.with_field Numbers.number_at Numbers.number_bytes window_index Marks.lies_free
recover-merge_in_part = refl

recover-merge_made : recover (image_of no_entry no_entry (a_slot ∷ both ∷ zeros ∷ third ∷ [])) ≡ recovers merged
unfolding recover redo is_born kind_of slot_form entry_form entries carried spelled is_sound decoded record_in stream_in window_in params_in is_valid spelling
    Names.is_name
    Possible.is_possible bit_of filter_of full has union Fields.with_field Numbers.number_at Numbers.number_bytes window_index Marks.lies_free
recover-merge_made = refl

-- of two entries the later counts
recover-two_entries : recover
    (image_of (entry_of (put 2 second ∷ [])) (entry_of (put 1 both ∷ put 2 zeros ∷ [])) (a_slot ∷ first ∷ damaged ∷ third ∷ []))
    ≡ recovers merged
unfolding recover redo is_born kind_of slot_form entry_form entries is_good puts_of entry_body carried spelled is_sound decoded record_in stream_in window_in
    params_in is_valid spelling
    Names.is_name Possible.is_possible bit_of filter_of full has union Fields.with_field Numbers.number_at Numbers.number_bytes window_index Marks.lies_free
recover-two_entries = refl

-- an entry after a closed gate isn't in use
recover-after_closed : recover
    (image_of no_entry (entry_of (put 0 zeros ∷ [])) (a_slot ∷ first ∷ second ∷ third ∷ []))
    ≡ recovers merged
unfolding recover redo is_born kind_of slot_form entry_form entries carried spelled is_sound decoded record_in stream_in window_in params_in is_valid spelling
    Names.is_name
    Possible.is_possible bit_of filter_of full has union Fields.with_field Numbers.number_at Numbers.number_bytes entry_body window_index Marks.lies_free
recover-after_closed = refl

-- a slot whose end is cut off isn't looked at
recover-cut : recover
    (image_of no_entry no_entry (a_slot ∷ first ∷ second ∷ third ∷ take 127 damaged ∷ []))
    ≡ recovers merged
unfolding recover redo is_born kind_of slot_form entry_form entries carried spelled is_sound decoded record_in stream_in window_in params_in is_valid spelling
    Names.is_name
    Possible.is_possible bit_of filter_of full has union Fields.with_field Numbers.number_at Numbers.number_bytes window_index Marks.lies_free
recover-cut = refl

-- the values 5, -3, 8, 1, 9, 2 and 7 at the times 10 to 70: where they were merged one by one as they came, and where no merge
-- was made, the image recovers to the state after these events
abbrev pub readings : List Event
readings =
    events.Create a (exp 2 1 1)
    ∷ events.Value a 10 (pos 5)
    ∷ events.Value a 20 (negsuc 2)
    ∷ events.Value a 30 (pos 8)
    ∷ events.Value a 40 (pos 1)
    ∷ events.Value a 50 (pos 9)
    ∷ events.Value a 60 (pos 2)
    ∷ events.Value a 70 (pos 7)
    ∷ []

abbrev pub filter_of_four : Filter
filter_of_four = record { words = 0x0000002000800000 ∷ 0 ∷ 0x0000000040000000 ∷ 0x0002000000000000 ∷ [] }

abbrev pub filter_of_two : Filter
filter_of_two = record { words = 0x1000000000000000 ∷ 0 ∷ 0x0000000000008000 ∷ 0 ∷ [] }

abbrev pub first_four : Filter → Figures
first_four filter = record { count = 4; sum = pos 11; min = negsuc 2; max = pos 8; t_first = 10; t_last = 40; filter = filter }

abbrev pub next_two : Filter → Figures
next_two filter = record { count = 2; sum = pos 11; min = pos 2; max = pos 9; t_first = 50; t_last = 60; filter = filter }

abbrev pub as_they_came : List ℕ
as_they_came = image_of no_entry no_entry
    (a_slot ∷ window_slot 0 1 (first_four filter_of_four) ∷ zeros ∷ zeros ∷ window_slot 0 5 (next_two filter_of_two)
    ∷ window_slot 0 7 (value 70 (pos 7)) ∷ [])

abbrev one_by_one : List ℕ
one_by_one = image_of no_entry no_entry
    (a_slot
    ∷ window_slot 0 1 (value 10 (pos 5))
    ∷ window_slot 0 2 (value 20 (negsuc 2))
    ∷ window_slot 0 3 (value 30 (pos 8))
    ∷ window_slot 0 4 (value 40 (pos 1))
    ∷ window_slot 0 5 (value 50 (pos 9))
    ∷ window_slot 0 6 (value 60 (pos 2))
    ∷ window_slot 0 7 (value 70 (pos 7))
    ∷ [])

recover-readings : recover
    as_they_came
    ≡ recovers (a_stream (window 1 (first_four filter_of_four) ∷ window 5 (next_two filter_of_two) ∷ window 7 (value 70 (pos 7)) ∷ []))
unfolding recover redo is_born kind_of slot_form entry_form entries carried spelled is_sound decoded record_in stream_in window_in params_in is_valid spelling
    Names.is_name
    Possible.is_possible bit_of filter_of full has union Fields.with_field Numbers.number_at Numbers.number_bytes window_index Marks.lies_free
recover-readings = refl

pub state-readings : Recovers (state (map added readings)) as_they_came
unfolding state recover redo is_born kind_of slot_form entry_form entries carried spelled is_sound decoded record_in stream_in window_in params_in is_valid
    spelling Names.is_name
    Possible.is_possible bit_of filter_of full has union Fields.with_field Numbers.number_at Numbers.number_bytes window_index Marks.lies_free
state-readings = refl

state-unmerged : Recovers (state (map added readings)) one_by_one
unfolding state recover redo is_born kind_of slot_form entry_form entries carried spelled is_sound decoded record_in stream_in window_in params_in is_valid
    spelling Names.is_name
    Possible.is_possible bit_of filter_of full has union Fields.with_field Numbers.number_at Numbers.number_bytes window_index Marks.lies_free
state-unmerged = refl

-- streams in the order of their numbers, of which one has a power-law target whose windows are all of two values
abbrev b : List ℕ
b = 98 ∷ []

abbrev two_streams : List ℕ
two_streams = image_of no_entry no_entry
    (window_slot 7 1 (fives 1 10 10)
    ∷ stream_slot 7 b (power 1 0 1 2)
    ∷ window_slot 7 2 (fives 1 20 20)
    ∷ a_slot
    ∷ window_slot 7 3 (fives 1 30 30)
    ∷ first
    ∷ second
    ∷ [])

abbrev b_stream : Stream
b_stream = record {
  number = 7;
  name = b;
  params = power 1 0 1 2;
  windows = window 1 (fives 1 10 10) ∷ window 2 (fives 2 20 30) ∷ [];
  landmarks = [];
}

recover-two_streams : recover
    two_streams
    ≡ recovers (a_stream (window 1 (fives 1 10 10) ∷ window 2 (fives 1 20 20) ∷ []) ++ b_stream ∷ [])
unfolding recover redo is_born kind_of slot_form entry_form entries carried spelled is_sound decoded record_in stream_in window_in params_in is_valid spelling
    Names.is_name
    Possible.is_possible bit_of filter_of full has union Fields.with_field Numbers.number_at Numbers.number_bytes window_index power_length Marks.lies_free
recover-two_streams = refl

-- no store: another first byte, a file too short for its open birth gate, and another magic
recover-other : recover (83 ∷ 83 ∷ []) ≡ no_store
unfolding recover redo is_born kind_of slot_form entry_form is_unborn
recover-other = refl

recover-short : recover (165 ∷ magic Plain) ≡ no_store
unfolding recover redo is_born kind_of slot_form entry_form is_unborn
recover-short = refl

recover-other_magic : recover (slice_set (image_of no_entry no_entry (a_slot ∷ [])) 8 51) ≡ no_store
unfolding recover redo is_born kind_of slot_form entry_form is_unborn carried spelled is_sound decoded record_in stream_in window_in params_in is_valid
    spelling Names.is_name
    Possible.is_possible bit_of filter_of full has union Fields.with_field Numbers.number_at Numbers.number_bytes Marks.lies_free
recover-other_magic = refl

-- a damaged entry: its slot isn't the next. It is told before a damaged slot
recover-damaged_entry : recover
    (image_of (entry_of (put 0 zeros ∷ [])) (entry_of (put 5 a_slot ∷ [])) (damaged ∷ []))
    ≡ damaged_entry 1
unfolding recover redo is_born kind_of slot_form entry_form entries is_good puts_of entry_body carried spelled is_sound decoded record_in stream_in window_in
    params_in is_valid spelling
    Names.is_name Possible.is_possible bit_of filter_of full has union Fields.with_field Numbers.number_at Numbers.number_bytes Marks.lies_free
recover-damaged_entry = refl

-- a damaged slot, which is told before a damaged stream
recover-damaged_slot : recover (image_of no_entry no_entry (second ∷ a_slot ∷ damaged ∷ [])) ≡ damaged_slot 2
unfolding recover redo is_born kind_of slot_form entry_form entries carried spelled is_sound decoded record_in stream_in window_in params_in is_valid spelling
    Names.is_name
    Possible.is_possible bit_of filter_of full has union Fields.with_field Numbers.number_at Numbers.number_bytes Marks.lies_free
recover-damaged_slot = refl

-- unless an entry in use mends it
recover-mended_slot : recover
    (image_of (entry_of (put 1 first ∷ [])) no_entry (a_slot ∷ damaged ∷ []))
    ≡ recovers (a_stream (window 1 (fives 1 10 10) ∷ []))
unfolding recover redo is_born kind_of slot_form entry_form entries is_good puts_of entry_body carried spelled is_sound decoded record_in stream_in window_in
    params_in is_valid spelling
    Names.is_name Possible.is_possible bit_of filter_of full has union Fields.with_field Numbers.number_at Numbers.number_bytes window_index Marks.lies_free
recover-mended_slot = refl

-- a damaged stream: its second window is missing, in the slots or by an entry in use
recover-damaged_stream : recover (image_of no_entry no_entry (a_slot ∷ first ∷ third ∷ [])) ≡ damaged_stream 0
unfolding recover redo is_born kind_of slot_form entry_form entries carried spelled is_sound decoded record_in stream_in window_in params_in is_valid spelling
    Names.is_name
    Possible.is_possible bit_of filter_of full has union Fields.with_field Numbers.number_at Numbers.number_bytes Marks.lies_free
recover-damaged_stream = refl

recover-damaged_by_entry : recover
    (image_of (entry_of (put 2 zeros ∷ [])) no_entry (a_slot ∷ first ∷ second ∷ third ∷ []))
    ≡ damaged_stream 0
unfolding recover redo is_born kind_of slot_form entry_form entries is_good puts_of entry_body carried spelled is_sound decoded record_in stream_in window_in
    params_in is_valid spelling
    Names.is_name Possible.is_possible bit_of filter_of full has union Fields.with_field Numbers.number_at Numbers.number_bytes Marks.lies_free
recover-damaged_by_entry = refl

-- a landmark that opens and closes at the time of its one value, in the bytes of its record and of the value's
abbrev mark_slot : List ℕ
mark_slot = 3 ∷ 2 ∷ replicate 6 0 ++ 0 ∷ 0 ∷ 0 ∷ 1 ∷ 0 ∷ 0 ∷ 0 ∷ 1 ∷ replicate 7 0 ++ 100 ∷ replicate 7 0 ++ 100 ∷ replicate 96 0

abbrev mark_value_slot : List ℕ
mark_value_slot = 4 ∷ replicate 7 0 ++ 0 ∷ 0 ∷ 0 ∷ 1 ∷ 0 ∷ 0 ∷ 0 ∷ 1 ∷ replicate 7 0 ++ 100 ∷ replicate 7 0 ++ 7 ∷ replicate 96 0

-- the same landmark while it is open
abbrev open_slot : List ℕ
open_slot = spelling (records.Landmark 0 1 0 100 None)

abbrev moment : List Happened
moment = map added (events.Create a (exp 2 1 1) ∷ events.Open a 100 ∷ events.Value a 100 (pos 7) ∷ events.Close a 100 ∷ [])

state-moment : Recovers (state moment) (image_of no_entry no_entry (a_slot ∷ mark_slot ∷ mark_value_slot ∷ []))
unfolding state recover redo is_born kind_of slot_form entry_form entries carried spelled is_sound decoded record_in stream_in window_in landmark_in value_in
    finish_in params_in is_valid
    spelling Names.is_name Possible.is_possible bit_of filter_of full has union Fields.with_field Numbers.number_at Numbers.number_bytes Marks.lies_free
state-moment = refl

-- so it is where the closing is in an entry that is in use
state-closing : Recovers (state moment)
    (image_of (entry_of (put 1 mark_slot ∷ [])) no_entry (a_slot ∷ open_slot ∷ mark_value_slot ∷ []))
unfolding state recover redo is_born kind_of slot_form entry_form entries is_good puts_of entry_body carried spelled is_sound decoded record_in stream_in
    window_in landmark_in value_in
    finish_in params_in is_valid spelling Names.is_name Possible.is_possible bit_of filter_of full has union Fields.with_field Numbers.number_at
    Numbers.number_bytes Marks.lies_free
state-closing = refl

-- and without that entry the landmark is open
abbrev opening : List Happened
opening = map added (events.Create a (exp 2 1 1) ∷ events.Open a 100 ∷ events.Value a 100 (pos 7) ∷ [])

state-opening : Recovers (state opening) (image_of no_entry no_entry (a_slot ∷ open_slot ∷ mark_value_slot ∷ []))
unfolding state recover redo is_born kind_of slot_form entry_form entries carried spelled is_sound decoded record_in stream_in window_in landmark_in value_in
    finish_in params_in is_valid
    spelling Names.is_name Possible.is_possible bit_of filter_of full has union Fields.with_field Numbers.number_at Numbers.number_bytes Marks.lies_free
state-opening = refl

-- a window may lie around a landmark, but none of its ends in it
abbrev landmark_slot : List ℕ
landmark_slot = spelling (records.Landmark 0 1 0 20 (Some 40))

recover-around : recover
    (image_of no_entry no_entry (a_slot ∷ landmark_slot ∷ window_slot 0 1 (fives 2 10 50) ∷ []))
    ≡ recovers (record {
      number = 0;
      name = a;
      params = exp 2 1 1;
      windows = window 1 (fives 2 10 50) ∷ [];
      landmarks = record { start = 20; finish = Some 40; values = [] } ∷ [];
    } ∷ [])
unfolding recover redo is_born kind_of slot_form entry_form entries carried spelled is_sound decoded record_in stream_in window_in landmark_in value_in
    finish_in params_in is_valid
    spelling Names.is_name Possible.is_possible bit_of filter_of full has union Fields.with_field Numbers.number_at Numbers.number_bytes Marks.lies_free
recover-around = refl

recover-covered_end : recover (image_of no_entry no_entry (a_slot ∷ landmark_slot ∷ window_slot 0 1 (fives 2 10 30) ∷ [])) ≡ damaged_stream 0
unfolding recover redo is_born kind_of slot_form entry_form entries carried spelled is_sound decoded record_in stream_in window_in landmark_in value_in
    finish_in params_in is_valid
    spelling Names.is_name Possible.is_possible bit_of filter_of full has union Fields.with_field Numbers.number_at Numbers.number_bytes Marks.lies_free
recover-covered_end = refl

-- a value of a landmark that has no record
recover-no_landmark : recover (image_of no_entry no_entry (a_slot ∷ zeros ∷ mark_value_slot ∷ [])) ≡ damaged_stream 0
unfolding recover redo is_born kind_of slot_form entry_form entries carried spelled is_sound decoded record_in stream_in window_in landmark_in value_in
    finish_in params_in is_valid
    spelling Names.is_name Possible.is_possible bit_of filter_of full has union Fields.with_field Numbers.number_at Numbers.number_bytes Marks.lies_free
recover-no_landmark = refl
