-- Worked maps of a few slots, and what each carries or where it is damaged.
use Rattle.ss_recover.proofs.Common.{[], ◌*◌, ◌+◌, ◌-◌, ◌^◌, ◌∙◌, ◌∷◌, ◌≡◌, ◌≤◌, AreKept, AreWhole, AreWholeBeside, bad_slot, bad_stream, BadSlot, BadStream}
use Rattle.ss_recover.proofs.Common.{Bool, Carried, carries, Created, Disk, doomed_slots, Err, failed, false, Figures, filter, filter_of, fine, full, has_place}
use Rattle.ss_recover.proofs.Common.{HasParts, is_live, IsPermutation, keep_step, Landmark, length, List, map, negsuc, no_memory, None, occupied, Ok, Option}
use Rattle.ss_recover.proofs.Common.{OutOfMemory, Params, Parts, pos, range_with_len, Rebuilds, RecordsState, RecoverError, refl, refused, replicate, Result}
use Rattle.ss_recover.proofs.Common.{slice_index_or, slice_set, SlotMap, Some, StandsFor, Stream, StreamParts, tile, true, verdict_of_rebuild, Window, zeros, ℕ}
use Rattle.ss_summary.specs.Points.{New}
use Rattle.ss_summary.specs.Summaries.{summary_of}
use Rattle.ss_catalog.specs.Params.{exp as Exp}
use Rattle.ss_codec.specs.Record.{is_valid, spelling}
use Rattle.ss_codec.specs.Decoded.{decoded, finish_in, landmark_in, params_in, record_in, stream_in, value_in, window_in}
use Rattle.ss_recover.specs.Carried.{spelled}
use Rattle.ss_recover.specs.Conditions.{is_sound}
use Rattle.ss_recover.specs.Parts.{carried}
use Rattle.ss_outside.specs.Crash.{OnlyReads}
use Rattle.ss_outside.specs.Disk.{Told}
use Rattle.ss_fields.specs.Fields as Numbers
use Rattle.ss_summary.specs.Filters as Filters
use Rattle.ss_summary.specs.Possible as Possible
use Rattle.ss_catalog.specs.Names as Names
use Rattle.ss_codec.specs.Fields as Fields
use Rattle.ss_codec.specs.declared.record.Record.TheVariants as records
use Rattle.ss_model.specs.Marks as Marks

-- a map of these slots, and none after them
abbrev pub map_of : List (List ℕ) → SlotMap
map_of slots = record { bytes = λ slot. slice_index_or slots slot zeros; extent = length slots }

-- the bytes of a stream's record, and the stream with these windows. Each stream here has the target `exp 2 1 1`.
abbrev stream_slot : ℕ → List ℕ → List ℕ
stream_slot number name = spelling (records.Stream number name (Exp 2 1 1) false)

abbrev marked_stream : ℕ → List ℕ → List Window → List Landmark → Stream
marked_stream number name windows landmarks = record { number = number; name = name; params = Exp 2 1 1; windows = windows; landmarks = landmarks }

abbrev stream : ℕ → List ℕ → List Window → Stream
stream number name windows = marked_stream number name windows []

-- so many values 5, the first and the last at these times, with a filter that has all bits
abbrev pub fives : ℕ → ℕ → ℕ → Figures
fives count t_first t_last = record { count = count; sum = pos (5 * count); min = pos 5; max = pos 5; t_first = t_first; t_last = t_last; filter = full }

-- the same with the filter of their values
abbrev filtered_fives : ℕ → ℕ → ℕ → Figures
filtered_fives count t_first t_last = record (fives count t_first t_last) { filter = filter_of (pos 5) }

-- the bytes of a window's record
abbrev pub window_slot : ℕ → ℕ → Figures → List ℕ
window_slot number first f = spelling (records.Window number first f)

abbrev pub window : ℕ → Figures → Window
window first f = record { first = first; summary = f }

-- the bytes of a landmark's record, and of a value's, which is a 7
abbrev landmark_slot : ℕ → ℕ → ℕ → ℕ → Option ℕ → List ℕ
landmark_slot number n values start finish = spelling (records.Landmark number n values start finish)

abbrev value_slot : ℕ → ℕ → ℕ → ℕ → List ℕ
value_slot number n index t = spelling (records.Value number n index t (pos 7))

-- a landmark, with values 7 at these times
abbrev landmark : ℕ → Option ℕ → List ℕ → Landmark
landmark start finish times = record { start = start; finish = finish; values = map (λ t. record { t = t; v = pos 7 }) times }

-- the bytes of the record of a stream that was dropped
abbrev dropped_slot : ℕ → List ℕ → List ℕ
dropped_slot number name = spelling (records.Stream number name (Exp 2 1 1) true)

-- the names `a` and `b`
abbrev pub a : List ℕ
a = 97 ∷ []

abbrev b : List ℕ
b = 98 ∷ []

-- the values 5, -3, 8, 1, 9, 2 and 7 at the times 10 to 70, where all that was due is joined
abbrev first_four : Figures
first_four = summary_of ((10, pos 5, New) ∷ (20, negsuc 2, New) ∷ (30, pos 8, New) ∷ (40, pos 1, New) ∷ [])

abbrev next_two : Figures
next_two = summary_of ((50, pos 9, New) ∷ (60, pos 2, New) ∷ [])

abbrev last_one : Figures
last_one = summary_of ((70, pos 7, New) ∷ [])

-- slots, and what a map of them carries
abbrev pub AreCarried : List (List (List ℕ) × Carried) → Type 0
AreCarried rows = map (λ row. carried (map_of row.0)) rows ≡ map (λ row. row.1) rows

-- what is sound, without landmarks, and which filters are
carried-sound : AreCarried (
    -- no slot, and slots that are free
    ([], carries [])
    ∷ (zeros ∷ zeros ∷ [], carries [])
    -- one stream without values
    ∷ (stream_slot 0 a ∷ [], carries (stream 0 a [] ∷ []))
    -- the values 5, -3, 8, 1, 9, 2 and 7 at the times 10 to 70, where all that was due is joined: two slots were freed
    ∷ (
      stream_slot 0 a ∷ window_slot 0 1 first_four ∷ zeros ∷ zeros ∷ window_slot 0 5 next_two ∷ window_slot 0 7 last_one ∷ [],
      carries (stream 0 a (window 1 first_four ∷ window 5 next_two ∷ window 7 last_one ∷ []) ∷ []),
    )
    -- at three values the first two windows wait for their merge: they are carried as they stand
    ∷ (
      stream_slot 0 a ∷ window_slot 0 1 (fives 1 10 10) ∷ window_slot 0 2 (fives 1 20 20) ∷ window_slot 0 3 (fives 1 30 30) ∷ [],
      carries (stream 0 a (window 1 (fives 1 10 10) ∷ window 2 (fives 1 20 20) ∷ window 3 (fives 1 30 30) ∷ []) ∷ []),
    )
    -- streams by their numbers, which may leave some out, and windows by their positions, whatever the slots
    ∷ (
      window_slot 7 2 (fives 1 20 20) ∷ stream_slot 7 b ∷ window_slot 0 1 (fives 2 10 11) ∷ window_slot 7 1 (fives 1 10 10) ∷ stream_slot 0 a ∷ [],
      carries (stream 0 a (window 1 (fives 2 10 11) ∷ []) ∷ stream 7 b (window 1 (fives 1 10 10) ∷ window 2 (fives 1 20 20) ∷ []) ∷ []),
    )
    -- windows whose filters have all bits, as stores without filters wrote them, beside ones with the filters of their values: each
    -- as it is
    -- in one stream
    ∷ (
      stream_slot 0 a ∷ window_slot 0 1 (fives 4 10 40) ∷ window_slot 0 5 (filtered_fives 2 50 60) ∷ [],
      carries (stream 0 a (window 1 (fives 4 10 40) ∷ window 5 (filtered_fives 2 50 60) ∷ []) ∷ []),
    )
    -- in two streams, and one with the bits of several values
    ∷ (
      window_slot 1 1 first_four ∷ window_slot 0 3 (fives 1 30 30) ∷ stream_slot 1 b ∷ window_slot 1 5 (fives 1 50 50) ∷
          window_slot 0 1 (filtered_fives 2 10 20) ∷ stream_slot 0 a ∷ [],
      carries (stream 0 a (window 1 (filtered_fives 2 10 20) ∷ window 3 (fives 1 30 30) ∷ []) ∷
          stream 1 b (window 1 first_four ∷ window 5 (fives 1 50 50) ∷ []) ∷ []),
    )
    -- no valid record: a filter whose byte 1 says that it has all bits, one that has none, and one that lacks the bit of a value
    ∷ (stream_slot 0 a ∷ slice_set (window_slot 0 1 (filtered_fives 1 10 10)) 1 0 ∷ [], bad_slot 1)
    ∷ (stream_slot 0 a ∷ slice_set (window_slot 0 1 (fives 1 10 10)) 1 1 ∷ [], bad_slot 1)
    ∷ (stream_slot 0 a ∷ window_slot 0 1 (record (fives 1 10 10) { filter = filter_of (pos 7) }) ∷ [], bad_slot 1)
    ∷ []
    )
unfolding carried spelled is_sound decoded record_in stream_in window_in landmark_in value_in finish_in params_in is_valid spelling
    Names.is_name Possible.is_possible Filters.bit_of Filters.filter_of Filters.full Filters.has Filters.union
    Fields.with_field Numbers.number_at Numbers.number_bytes Marks.lies_free
carried-sound = refl

-- what is damaged, without landmarks, and streams that were dropped
carried-damaged : AreCarried (
    -- a slot of another kind, also where a stream is damaged too: the slot is told, and the lowest of two
    (stream_slot 0 a ∷ slice_set zeros 0 9 ∷ [], bad_slot 1)
    ∷ (window_slot 6 1 (fives 1 10 10) ∷ zeros ∷ slice_set zeros 0 9 ∷ slice_set zeros 127 1 ∷ [], bad_slot 2)
    ∷ (zeros ∷ zeros ∷ zeros ∷ slice_set zeros 0 9 ∷ [], bad_slot 3)
    -- a window past position 2^40 is no valid record
    ∷ (stream_slot 0 a ∷ window_slot 0 (2 ^ 40) (fives 2 10 11) ∷ [], bad_slot 1)
    -- a window without its stream
    ∷ (stream_slot 0 a ∷ window_slot 6 1 (fives 1 10 10) ∷ [], bad_stream 6)
    -- two records of one number
    ∷ (stream_slot 0 a ∷ stream_slot 0 b ∷ [], bad_stream 0)
    -- the name of a lower number, in whichever slots: the higher number is told, and the lowest of two
    ∷ (stream_slot 3 a ∷ stream_slot 0 a ∷ [], bad_stream 3)
    ∷ (window_slot 9 1 (fives 1 10 10) ∷ stream_slot 3 a ∷ stream_slot 0 a ∷ window_slot 6 1 (fives 1 10 10) ∷ [], bad_stream 3)
    -- windows with a gap, that overlap, that begin at 2, and two with one first position
    ∷ (stream_slot 0 a ∷ window_slot 0 1 (fives 1 10 10) ∷ window_slot 0 3 (fives 1 20 20) ∷ [], bad_stream 0)
    ∷ (stream_slot 0 a ∷ window_slot 0 1 (fives 2 10 11) ∷ window_slot 0 2 (fives 1 20 20) ∷ [], bad_stream 0)
    ∷ (stream_slot 0 a ∷ window_slot 0 2 (fives 1 20 20) ∷ [], bad_stream 0)
    ∷ (stream_slot 0 a ∷ window_slot 0 1 (fives 1 10 10) ∷ window_slot 0 1 (fives 1 10 10) ∷ [], bad_stream 0)
    -- the last time of a window at the first time of the next, and one before it
    ∷ (stream_slot 0 a ∷ window_slot 0 1 (fives 2 10 20) ∷ window_slot 0 3 (fives 1 20 20) ∷ [], bad_stream 0)
    ∷ (
      stream_slot 0 a ∷ window_slot 0 1 (fives 2 10 20) ∷ window_slot 0 3 (fives 1 21 21) ∷ [],
      carries (stream 0 a (window 1 (fives 2 10 20) ∷ window 3 (fives 1 21 21) ∷ []) ∷ []),
    )
    -- streams that were dropped
    -- one with a window, and one that stands
    ∷ (dropped_slot 0 a ∷ window_slot 0 1 first_four ∷ stream_slot 1 b ∷ [], carries (stream 1 b [] ∷ []))
    ∷ (
      window_slot 1 1 (fives 1 10 10) ∷ stream_slot 1 b ∷ window_slot 0 1 first_four ∷ dropped_slot 0 a ∷ [],
      carries (stream 1 b (window 1 (fives 1 10 10) ∷ []) ∷ []),
    )
    -- nothing is asked of its windows and landmarks: windows with a gap, one twice, and a value of no landmark
    ∷ (
      dropped_slot 0 a ∷ window_slot 0 5 (fives 1 20 20) ∷ window_slot 0 5 (fives 1 20 20) ∷ value_slot 0 3 2 10 ∷ [],
      carries [],
    )
    -- two records of one number, whichever says that it was dropped
    ∷ (dropped_slot 0 a ∷ dropped_slot 0 b ∷ [], bad_stream 0)
    ∷ (dropped_slot 0 a ∷ stream_slot 0 b ∷ [], bad_stream 0)
    ∷ (stream_slot 0 b ∷ dropped_slot 0 a ∷ [], bad_stream 0)
    -- the name of a lower number, whichever of them was dropped
    ∷ (dropped_slot 0 a ∷ stream_slot 3 a ∷ [], bad_stream 3)
    ∷ (stream_slot 0 a ∷ dropped_slot 3 a ∷ [], bad_stream 3)
    ∷ (dropped_slot 3 a ∷ dropped_slot 0 a ∷ [], bad_stream 3)
    -- a window without its stream, and a stream that stands whose windows have a gap
    ∷ (dropped_slot 0 a ∷ window_slot 6 1 (fives 1 10 10) ∷ [], bad_stream 6)
    ∷ (dropped_slot 0 a ∷ stream_slot 1 b ∷ window_slot 1 2 (fives 1 20 20) ∷ [], bad_stream 1)
    -- a state that is neither is no valid record
    ∷ (slice_set (dropped_slot 0 a) 3 0 ∷ [], carries (stream 0 a [] ∷ []))
    ∷ (slice_set (dropped_slot 0 a) 3 2 ∷ [], bad_slot 0)
    ∷ []
    )
unfolding carried spelled is_sound decoded record_in stream_in window_in landmark_in value_in finish_in params_in is_valid spelling
    Names.is_name Possible.is_possible Filters.bit_of Filters.filter_of Filters.full Filters.has Filters.union
    Fields.with_field Numbers.number_at Numbers.number_bytes Marks.lies_free
carried-damaged = refl

-- maps with landmarks, and with windows among them
carried-landmarks : AreCarried (
    -- a closed landmark of one time with its value
    (
      stream_slot 0 a ∷ landmark_slot 0 1 1 100 (Some 100) ∷ value_slot 0 1 1 100 ∷ [],
      carries (marked_stream 0 a [] (landmark 100 (Some 100) (100 ∷ []) ∷ []) ∷ []),
    )
    -- one that is open, and one that has no values
    ∷ (
      stream_slot 0 a ∷ landmark_slot 0 1 0 20 None ∷ value_slot 0 1 1 20 ∷ value_slot 0 1 2 30 ∷ [],
      carries (marked_stream 0 a [] (landmark 20 None (20 ∷ 30 ∷ []) ∷ []) ∷ []),
    )
    ∷ (stream_slot 0 a ∷ landmark_slot 0 1 0 20 (Some 40) ∷ [], carries (marked_stream 0 a [] (landmark 20 (Some 40) [] ∷ []) ∷ []))
    -- landmarks by their numbers and values by their indexes, whatever the slots, with windows before, between and after
    ∷ (
      value_slot 0 2 1 80 ∷ window_slot 0 1 (fives 2 10 11) ∷ value_slot 0 1 2 30 ∷ landmark_slot 0 2 0 70 None ∷ stream_slot 0 a ∷
          landmark_slot 0 1 2 20 (Some 40) ∷ window_slot 0 3 (fives 1 50 50) ∷ value_slot 0 1 1 20 ∷ [],
      carries (marked_stream 0 a (window 1 (fives 2 10 11) ∷ window 3 (fives 1 50 50) ∷ []) (landmark 20 (Some 40) (20 ∷ 30 ∷ []) ∷
          landmark 70 None (80 ∷ []) ∷ []) ∷ []),
    )
    -- not as many values as the record says: one less, and one more
    ∷ (stream_slot 0 a ∷ landmark_slot 0 1 2 20 (Some 40) ∷ value_slot 0 1 1 20 ∷ [], bad_stream 0)
    ∷ (stream_slot 0 a ∷ landmark_slot 0 1 1 20 (Some 40) ∷ value_slot 0 1 1 20 ∷ value_slot 0 1 2 30 ∷ [], bad_stream 0)
    -- an index that is not the next: the first is 2, one is left out, and one comes twice
    ∷ (stream_slot 0 a ∷ landmark_slot 0 1 1 20 (Some 40) ∷ value_slot 0 1 2 20 ∷ [], bad_stream 0)
    ∷ (stream_slot 0 a ∷ landmark_slot 0 1 2 20 (Some 40) ∷ value_slot 0 1 1 20 ∷ value_slot 0 1 3 30 ∷ [], bad_stream 0)
    ∷ (stream_slot 0 a ∷ landmark_slot 0 1 2 20 (Some 40) ∷ value_slot 0 1 1 20 ∷ value_slot 0 1 1 30 ∷ [], bad_stream 0)
    -- the number of a landmark that is not the next: two have one, one is left out, and the first is 2
    ∷ (stream_slot 0 a ∷ landmark_slot 0 1 0 20 (Some 40) ∷ landmark_slot 0 1 0 60 (Some 70) ∷ [], bad_stream 0)
    ∷ (stream_slot 0 a ∷ landmark_slot 0 1 0 20 (Some 40) ∷ landmark_slot 0 3 0 60 (Some 70) ∷ [], bad_stream 0)
    ∷ (stream_slot 0 a ∷ landmark_slot 0 2 0 20 (Some 40) ∷ [], bad_stream 0)
    -- a landmark that opens as the one before it closes, and a time later; one after an open one
    ∷ (stream_slot 0 a ∷ landmark_slot 0 1 0 20 (Some 40) ∷ landmark_slot 0 2 0 40 (Some 50) ∷ [], bad_stream 0)
    ∷ (
      stream_slot 0 a ∷ landmark_slot 0 1 0 20 (Some 40) ∷ landmark_slot 0 2 0 41 (Some 50) ∷ [],
      carries (marked_stream 0 a [] (landmark 20 (Some 40) [] ∷ landmark 41 (Some 50) [] ∷ []) ∷ []),
    )
    ∷ (stream_slot 0 a ∷ landmark_slot 0 1 0 20 None ∷ landmark_slot 0 2 0 40 (Some 50) ∷ [], bad_stream 0)
    -- values before the opening, after the closing, at one time, and in falling order
    ∷ (stream_slot 0 a ∷ landmark_slot 0 1 1 20 (Some 40) ∷ value_slot 0 1 1 19 ∷ [], bad_stream 0)
    ∷ (stream_slot 0 a ∷ landmark_slot 0 1 1 20 (Some 40) ∷ value_slot 0 1 1 41 ∷ [], bad_stream 0)
    ∷ (stream_slot 0 a ∷ landmark_slot 0 1 2 20 (Some 40) ∷ value_slot 0 1 1 30 ∷ value_slot 0 1 2 30 ∷ [], bad_stream 0)
    ∷ (stream_slot 0 a ∷ landmark_slot 0 1 2 20 (Some 40) ∷ value_slot 0 1 1 30 ∷ value_slot 0 1 2 29 ∷ [], bad_stream 0)
    -- values at both ends
    ∷ (
      stream_slot 0 a ∷ landmark_slot 0 1 2 20 (Some 40) ∷ value_slot 0 1 1 20 ∷ value_slot 0 1 2 40 ∷ [],
      carries (marked_stream 0 a [] (landmark 20 (Some 40) (20 ∷ 40 ∷ []) ∷ []) ∷ []),
    )
    -- a value of no landmark, and a landmark and a value of no stream
    ∷ (stream_slot 0 a ∷ value_slot 0 1 1 20 ∷ [], bad_stream 0)
    ∷ (stream_slot 0 a ∷ landmark_slot 0 1 1 20 (Some 40) ∷ value_slot 0 2 1 20 ∷ [], bad_stream 0)
    ∷ (stream_slot 0 a ∷ landmark_slot 6 1 0 20 (Some 40) ∷ [], bad_stream 6)
    ∷ (stream_slot 0 a ∷ landmark_slot 0 1 0 20 (Some 40) ∷ value_slot 6 1 1 20 ∷ [], bad_stream 6)
    -- windows among landmarks
    -- an end of a window that a landmark covers: the last one, the first one, both, and neither
    ∷ (stream_slot 0 a ∷ window_slot 0 1 (fives 2 10 20) ∷ landmark_slot 0 1 0 20 (Some 40) ∷ [], bad_stream 0)
    ∷ (stream_slot 0 a ∷ window_slot 0 1 (fives 2 40 50) ∷ landmark_slot 0 1 0 20 (Some 40) ∷ [], bad_stream 0)
    ∷ (stream_slot 0 a ∷ window_slot 0 1 (fives 1 30 30) ∷ landmark_slot 0 1 0 20 (Some 40) ∷ [], bad_stream 0)
    ∷ (
      stream_slot 0 a ∷ window_slot 0 1 (fives 2 19 41) ∷ landmark_slot 0 1 0 20 (Some 40) ∷ [],
      carries (marked_stream 0 a (window 1 (fives 2 19 41) ∷ []) (landmark 20 (Some 40) [] ∷ []) ∷ []),
    )
    -- an open landmark before the end of a window, and after it
    ∷ (stream_slot 0 a ∷ window_slot 0 1 (fives 2 10 50) ∷ landmark_slot 0 1 0 40 None ∷ [], bad_stream 0)
    ∷ (
      stream_slot 0 a ∷ window_slot 0 1 (fives 2 10 39) ∷ landmark_slot 0 1 0 40 None ∷ [],
      carries (marked_stream 0 a (window 1 (fives 2 10 39) ∷ []) (landmark 40 None [] ∷ []) ∷ []),
    )
    -- between the ends of a window one time is free: it may have 3 values, and not 4
    ∷ (
      stream_slot 0 a ∷ window_slot 0 1 (fives 3 10 20) ∷ landmark_slot 0 1 0 11 (Some 18) ∷ [],
      carries (marked_stream 0 a (window 1 (fives 3 10 20) ∷ []) (landmark 11 (Some 18) [] ∷ []) ∷ []),
    )
    ∷ (stream_slot 0 a ∷ window_slot 0 1 (fives 4 10 20) ∷ landmark_slot 0 1 0 11 (Some 18) ∷ [], bad_stream 0)
    -- the free times around two landmarks, and the higher stream alone is damaged
    ∷ (
      stream_slot 0 a ∷ stream_slot 3 b ∷ window_slot 0 1 (fives 4 10 20) ∷ landmark_slot 0 1 0 11 (Some 13) ∷
          landmark_slot 0 2 0 16 (Some 19) ∷ window_slot 3 1 (fives 5 10 20) ∷ landmark_slot 3 1 0 11 (Some 13) ∷
          landmark_slot 3 2 0 16 (Some 19) ∷ [],
      bad_stream 3,
    )
    ∷ []
    )
unfolding carried spelled is_sound decoded record_in stream_in window_in landmark_in value_in finish_in params_in is_valid spelling
    Names.is_name Possible.is_possible Filters.bit_of Filters.filter_of Filters.full Filters.has Filters.union
    Fields.with_field Numbers.number_at Numbers.number_bytes Marks.lies_free
carried-landmarks = refl

-- the streams 0 and 2 were dropped, and 1 stands
abbrev dropped_map : SlotMap
dropped_map = map_of (
    window_slot 0 1 (fives 1 10 10) ∷ zeros ∷ dropped_slot 2 (99 ∷ []) ∷ stream_slot 1 b ∷ window_slot 1 1 (fives 1 10 10) ∷
    value_slot 2 1 1 20 ∷ dropped_slot 0 a ∷ landmark_slot 0 1 0 20 None ∷ landmark_slot 1 1 0 20 None ∷ []
    )

-- their slots: those of a window, a value and a landmark, and then those of the streams
doomed_slots-dropped : doomed_slots (occupied dropped_map) ≡ 0 ∷ 5 ∷ 7 ∷ 2 ∷ 6 ∷ []
unfolding decoded record_in stream_in window_in landmark_in value_in finish_in params_in is_valid spelling
    Names.is_name Possible.is_possible Filters.bit_of Filters.filter_of Filters.full Filters.has Filters.union
    Fields.with_field Numbers.number_at Numbers.number_bytes
doomed_slots-dropped = refl

-- the slots that parts of that map name
parts-dropped : (parts : Parts) → HasParts parts dropped_map → parts.doomed.items ≡ 0 ∷ 5 ∷ 7 ∷ 2 ∷ 6 ∷ []
parts-dropped parts has = has.ordered ∙ doomed_slots-dropped

-- the most streams: 4,095 lower numbers may have a record, and no more
abbrev lower : Created
lower = record { number = 0; name = a; params = Exp 2 1 1 }

has_place-last : has_place 1 (replicate 4095 lower) ≡ true
has_place-last = refl

has_place-none : has_place 1 (replicate 4096 lower) ≡ false
has_place-none = refl

-- the last position is 2^40
tile-most : tile (window 1 (fives (2 ^ 40 - 1) 0 (2 ^ 40)) ∷ window (2 ^ 40) (fives 1 (2 ^ 41) (2 ^ 41)) ∷ []) ≡ true
tile-most = refl

tile-more : tile (window 1 (fives (2 ^ 40) 0 (2 ^ 40)) ∷ window (2 ^ 40 + 1) (fives 1 (2 ^ 41) (2 ^ 41)) ∷ []) ≡ false
tile-more = refl

-- what each answer of rebuilding is
verdicts-rebuild : map (λ error. verdict_of_rebuild {T = ℕ} (Err error)) (BadSlot 7 ∷ BadStream 7 ∷ Disk ∷ OutOfMemory ∷ [])
    ≡ refused ∷ refused ∷ failed ∷ no_memory ∷ []
verdicts-rebuild = refl

verdict-Ok : verdict_of_rebuild {T = ℕ} (Ok 7) ≡ fine
verdict-Ok = refl

-- what is answered of a map, and that its records are kept
module _ (records : RecordsState) (parts : Parts) (found : SlotMap) (old new : Told) where
  rebuilds-Ok : Rebuilds (Ok (records, parts)) old new → StandsFor old.content found → HasParts parts found
  rebuilds-Ok rebuilds stands = rebuilds.carried found stands

  rebuilds-kept : Rebuilds (Ok (records, parts)) old new → AreKept records new.content
  rebuilds-kept rebuilds = rebuilds.kept

  rebuilds-reads : (result : Result (RecordsState × Parts) RecoverError) → Rebuilds result old new → OnlyReads old new
  rebuilds-reads result rebuilds = rebuilds.reads

-- no more streams are held than may stand
whole-few : (parts : List StreamParts) (live : List Bool) → AreWhole parts live → length parts ≤ 4096
whole-few parts live whole = whole.few

-- a slot of a dropped stream is live, and none other is beside those that are held
whole-doomed : (live : List Bool) → AreWholeBeside (1 ∷ []) [] live → IsPermutation (1 ∷ []) (filter (is_live live) (range_with_len 0 (length live)))
whole-doomed live whole = whole.slots

-- ---- worked maps of a stream whose windows keep to a step of the clock, and what each carries

-- the target `exp 2 1 1` within a step
abbrev params : Option ℕ → Params
params within = record (Exp 2 1 1) { within = within }

-- the bytes of the record of the stream with the number 0 and this target, and this stream with these windows
abbrev stepped_slot : Option ℕ → Bool → List ℕ
stepped_slot within dropped = spelling (records.Stream 0 a (params within) dropped)

abbrev carrying : Option ℕ → List Window → Carried
carrying within windows = carries (record { number = 0; name = a; params = params within; windows = windows; landmarks = [] } ∷ [])

-- two values 5 at these times, which are a stream's only window
abbrev alone : Option ℕ → ℕ → ℕ → List (List ℕ)
alone within t_first t_last = stepped_slot within false ∷ window_slot 0 1 (fives 2 t_first t_last) ∷ []

abbrev carried_alone : Option ℕ → ℕ → ℕ → Carried
carried_alone within t_first t_last = carrying within (window 1 (fives 2 t_first t_last) ∷ [])

carried-steps : AreCarried (
    -- a window that ends a second before a boundary of a minute, one that ends on it, and one that begins on it
    (alone (Some 60) 70 119, carried_alone (Some 60) 70 119)
    ∷ (alone (Some 60) 119 120, bad_stream 0)
    ∷ (alone (Some 60) 120 179, carried_alone (Some 60) 120 179)
    -- one that begins and ends a day apart, at the same time of the day
    ∷ (alone (Some 86400) 100 86500, bad_stream 0)
    -- without a step, and within one that has no boundary there
    ∷ (alone None 119 120, carried_alone None 119 120)
    ∷ (alone (Some 61) 119 120, carried_alone (Some 61) 119 120)
    -- a step of 1 leaves each time alone
    ∷ (alone (Some 1) 7 8, bad_stream 0)
    -- one of two windows crosses a boundary, the older or the newer, and neither, whatever the slots
    ∷ (stepped_slot (Some 60) false ∷ window_slot 0 1 (fives 2 50 60) ∷ window_slot 0 3 (fives 2 61 70) ∷ [], bad_stream 0)
    ∷ (window_slot 0 3 (fives 2 100 120) ∷ window_slot 0 1 (fives 2 60 70) ∷ stepped_slot (Some 60) false ∷ [], bad_stream 0)
    ∷ (
      window_slot 0 3 (fives 2 60 119) ∷ window_slot 0 1 (fives 2 50 59) ∷ stepped_slot (Some 60) false ∷ [],
      carrying (Some 60) (window 1 (fives 2 50 59) ∷ window 3 (fives 2 60 119) ∷ []),
    )
    -- of a dropped stream no step is asked
    ∷ (stepped_slot (Some 60) true ∷ window_slot 0 1 (fives 2 119 120) ∷ [], carries [])
    ∷ []
    )
unfolding carried spelled is_sound decoded record_in stream_in window_in landmark_in value_in finish_in params_in is_valid spelling
    Names.is_name Possible.is_possible Filters.bit_of Filters.filter_of Filters.full Filters.has Filters.union
    Fields.with_field Numbers.number_at Numbers.number_bytes Marks.lies_free
carried-steps = refl

-- windows that keep to a step
keeping : map (λ step. keep_step step (window 1 (fives 2 119 120) ∷ [])) (0 ∷ 1 ∷ 60 ∷ 61 ∷ 119 ∷ 120 ∷ 121 ∷ [])
    ≡ true ∷ false ∷ false ∷ true ∷ true ∷ false ∷ true ∷ []
keeping = refl
