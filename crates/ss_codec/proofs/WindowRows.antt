-- Worked records of windows, each computed.
use Rattle.std.specs.Prelude.{◌≡◌, ℕ, ℤ, pos, negsuc, List, [], ◌∷◌, ◌++◌, replicate, slice_set, Some, None}
use Rattle.std.proofs.Common.{refl}
use Rattle.ss_fields.specs.Fields as Numbers
use Rattle.ss_summary.specs.Filters.{bit_of, full, has}
use Rattle.ss_summary.specs.Possible as Possible
use Rattle.ss_summary.specs.declared.filter.Filter.{Filter}
use Rattle.ss_codec.specs.declared.record.TheConstants.{WINDOW, ALL_BITS, BY_WORDS}
use Rattle.ss_codec.specs.declared.record.Record.{Record}
use Rattle.ss_codec.specs.declared.record.Record.TheVariants.{Window}
use Rattle.ss_codec.specs.Fields as Fields
use Rattle.ss_codec.specs.Record.{spelling, is_valid}
use Rattle.ss_codec.specs.Decoded.{decoded, record_in, window_in}
use Rattle.ss_codec.proofs.Rows.{eight}

-- the numbers of the format
kind_of_windows : WINDOW ≡ 2
kind_of_windows = refl

state_of_all_bits : ALL_BITS ≡ 0
state_of_all_bits = refl

state_of_words : BY_WORDS ≡ 1
state_of_words = refl

-- the values 5, -3, 8 and 1 at the times 10, 20, 30 and 40, the first four of stream 0, with this sum and this filter
abbrev window : ℤ → Filter → Record
window sum filter = Window 0 1 (record { count = 4; sum = sum; min = negsuc 2; max = pos 8; t_first = 10; t_last = 40; filter = filter })

-- its first 72 bytes, with the byte of its filter's state
abbrev head : ℕ → List ℕ
head state =
    2 ∷ state ∷ 0 ∷ 0 ∷ []
    ++ replicate 4 0
    ++ eight 1
    ++ eight 4
    ++ replicate 8 0 ++ eight 11
    ++ replicate 7 255 ++ 253 ∷ []
    ++ eight 8
    ++ eight 10
    ++ eight 40

-- with all bits, as a store without filters wrote it too
abbrev window_bytes : List ℕ
window_bytes = head 0 ++ replicate 56 0

-- the filter of the four values, and its bytes
abbrev filter : Filter
filter = record { words = 0x0000002000800000 ∷ 0 ∷ 0x0000000040000000 ∷ 0x0002000000000000 ∷ [] }

abbrev words : List ℕ
words =
    0 ∷ 0 ∷ 0 ∷ 32 ∷ 0 ∷ 128 ∷ 0 ∷ 0 ∷ []
    ++ replicate 8 0
    ++ 0 ∷ 0 ∷ 0 ∷ 0 ∷ 64 ∷ 0 ∷ 0 ∷ 0 ∷ []
    ++ 0 ∷ 2 ∷ 0 ∷ 0 ∷ 0 ∷ 0 ∷ 0 ∷ 0 ∷ []

abbrev filtered_bytes : List ℕ
filtered_bytes = head 1 ++ words ++ replicate 24 0

-- how these are spelled, and read again
spelling-window : spelling (window (pos 11) full) ≡ window_bytes
unfolding spelling Fields.with_field Numbers.number_bytes full
spelling-window = refl

decoded-window : decoded window_bytes ≡ Some (window (pos 11) full)
unfolding decoded record_in window_in is_valid spelling Possible.is_possible Fields.with_field Numbers.number_at Numbers.number_bytes bit_of full has
decoded-window = refl

spelling-filtered : spelling (window (pos 11) filter) ≡ filtered_bytes
unfolding spelling Fields.with_field Numbers.number_bytes full
spelling-filtered = refl

decoded-filtered : decoded filtered_bytes ≡ Some (window (pos 11) filter)
unfolding decoded record_in window_in is_valid spelling Possible.is_possible Fields.with_field Numbers.number_at Numbers.number_bytes bit_of full has
decoded-filtered = refl

-- a window of no values, and those with the greatest sum and one that is too large
decoded-window_empty : decoded (slice_set window_bytes 23 0) ≡ None
unfolding decoded record_in window_in is_valid spelling Possible.is_possible Fields.with_field Numbers.number_at Numbers.number_bytes bit_of full has
decoded-window_empty = refl

decoded-window_greatest : decoded (slice_set window_bytes 39 21) ≡ Some (window (pos 21) full)
unfolding decoded record_in window_in is_valid spelling Possible.is_possible Fields.with_field Numbers.number_at Numbers.number_bytes bit_of full has
decoded-window_greatest = refl

decoded-window_too_large : decoded (slice_set window_bytes 39 22) ≡ None
unfolding decoded record_in window_in is_valid spelling Possible.is_possible Fields.with_field Numbers.number_at Numbers.number_bytes bit_of full has
decoded-window_too_large = refl

-- all bits but one, the lowest of the last word
abbrev all_but_one : Filter
all_but_one = record { words = 0xffffffffffffffff ∷ 0xffffffffffffffff ∷ 0xffffffffffffffff ∷ 0xfffffffffffffffe ∷ [] }

abbrev all_but_one_bytes : List ℕ
all_but_one_bytes = head 1 ++ replicate 31 255 ++ 254 ∷ replicate 24 0

spelling-all_but_one : spelling (window (pos 11) all_but_one) ≡ all_but_one_bytes
unfolding spelling Fields.with_field Numbers.number_bytes full
spelling-all_but_one = refl

decoded-all_but_one : decoded all_but_one_bytes ≡ Some (window (pos 11) all_but_one)
unfolding decoded record_in window_in is_valid spelling Possible.is_possible Fields.with_field Numbers.number_at Numbers.number_bytes bit_of full has
decoded-all_but_one = refl

-- all bits by their words
decoded-all_bits_by_words : decoded (head 1 ++ replicate 32 255 ++ replicate 24 0) ≡ None
unfolding decoded record_in window_in is_valid spelling Possible.is_possible Fields.with_field Numbers.number_at Numbers.number_bytes bit_of full has
decoded-all_bits_by_words = refl

-- another state of the filter
decoded-window_of_state_1 : decoded (slice_set window_bytes 1 1) ≡ None
unfolding decoded record_in window_in is_valid spelling Possible.is_possible Fields.with_field Numbers.number_at Numbers.number_bytes bit_of full has
decoded-window_of_state_1 = refl

decoded-window_of_state_2 : decoded (slice_set window_bytes 1 2) ≡ None
unfolding decoded record_in window_in is_valid spelling Possible.is_possible Fields.with_field Numbers.number_at Numbers.number_bytes bit_of full has
decoded-window_of_state_2 = refl

decoded-filtered_of_state_0 : decoded (slice_set filtered_bytes 1 0) ≡ None
unfolding decoded record_in window_in is_valid spelling Possible.is_possible Fields.with_field Numbers.number_at Numbers.number_bytes bit_of full has
decoded-filtered_of_state_0 = refl

decoded-filtered_of_state_2 : decoded (slice_set filtered_bytes 1 2) ≡ None
unfolding decoded record_in window_in is_valid spelling Possible.is_possible Fields.with_field Numbers.number_at Numbers.number_bytes bit_of full has
decoded-filtered_of_state_2 = refl

-- all bits, and a byte among the words
decoded-window_with_a_byte_72 : decoded (slice_set window_bytes 72 1) ≡ None
unfolding decoded record_in window_in is_valid spelling Possible.is_possible Fields.with_field Numbers.number_at Numbers.number_bytes bit_of full has
decoded-window_with_a_byte_72 = refl

decoded-window_with_a_byte_103 : decoded (slice_set window_bytes 103 1) ≡ None
unfolding decoded record_in window_in is_valid spelling Possible.is_possible Fields.with_field Numbers.number_at Numbers.number_bytes bit_of full has
decoded-window_with_a_byte_103 = refl

-- a byte where no field is
decoded-window_with_a_byte_2 : decoded (slice_set window_bytes 2 1) ≡ None
unfolding decoded record_in window_in is_valid spelling Possible.is_possible Fields.with_field Numbers.number_at Numbers.number_bytes bit_of full has
decoded-window_with_a_byte_2 = refl

decoded-window_with_a_byte_104 : decoded (slice_set window_bytes 104 1) ≡ None
unfolding decoded record_in window_in is_valid spelling Possible.is_possible Fields.with_field Numbers.number_at Numbers.number_bytes bit_of full has
decoded-window_with_a_byte_104 = refl

decoded-window_with_a_byte_127 : decoded (slice_set window_bytes 127 1) ≡ None
unfolding decoded record_in window_in is_valid spelling Possible.is_possible Fields.with_field Numbers.number_at Numbers.number_bytes bit_of full has
decoded-window_with_a_byte_127 = refl

decoded-filtered_with_a_byte_2 : decoded (slice_set filtered_bytes 2 1) ≡ None
unfolding decoded record_in window_in is_valid spelling Possible.is_possible Fields.with_field Numbers.number_at Numbers.number_bytes bit_of full has
decoded-filtered_with_a_byte_2 = refl

decoded-filtered_with_a_byte_104 : decoded (slice_set filtered_bytes 104 1) ≡ None
unfolding decoded record_in window_in is_valid spelling Possible.is_possible Fields.with_field Numbers.number_at Numbers.number_bytes bit_of full has
decoded-filtered_with_a_byte_104 = refl

decoded-filtered_with_a_byte_127 : decoded (slice_set filtered_bytes 127 1) ≡ None
unfolding decoded record_in window_in is_valid spelling Possible.is_possible Fields.with_field Numbers.number_at Numbers.number_bytes bit_of full has
decoded-filtered_with_a_byte_127 = refl

-- a filter without the bit of the least value, and without that of the greatest; that of another may be missing
decoded-filtered_without_least : decoded (slice_set filtered_bytes 75 0) ≡ None
unfolding decoded record_in window_in is_valid spelling Possible.is_possible Fields.with_field Numbers.number_at Numbers.number_bytes bit_of full has
decoded-filtered_without_least = refl

decoded-filtered_without_greatest : decoded (slice_set filtered_bytes 97 0) ≡ None
unfolding decoded record_in window_in is_valid spelling Possible.is_possible Fields.with_field Numbers.number_at Numbers.number_bytes bit_of full has
decoded-filtered_without_greatest = refl

decoded-filtered_without_5 : decoded (slice_set filtered_bytes 77 0) ≡ Some
    (window (pos 11) (record { words = 0x0000002000000000 ∷ 0 ∷ 0x0000000040000000 ∷ 0x0002000000000000 ∷ [] }))
unfolding decoded record_in window_in is_valid spelling Possible.is_possible Fields.with_field Numbers.number_at Numbers.number_bytes bit_of full has
decoded-filtered_without_5 = refl

-- one value 8, at the time 10, and at the times 10 and 40
abbrev one_value : ℕ → List ℕ
one_value t_last =
    2 ∷ replicate 7 0 ++ eight 1 ++ eight 1 ++ replicate 8 0 ++ eight 8 ++ eight 8 ++ eight 8 ++ eight 10 ++ eight t_last ++ replicate 56 0

decoded-one_value : decoded (one_value 10) ≡ Some
    (Window 0 1 (record { count = 1; sum = pos 8; min = pos 8; max = pos 8; t_first = 10; t_last = 10; filter = full }))
unfolding decoded record_in window_in is_valid spelling Possible.is_possible Fields.with_field Numbers.number_at Numbers.number_bytes bit_of full has
decoded-one_value = refl

decoded-one_value_twice : decoded (one_value 40) ≡ None
unfolding decoded record_in window_in is_valid spelling Possible.is_possible Fields.with_field Numbers.number_at Numbers.number_bytes bit_of full has
decoded-one_value_twice = refl
