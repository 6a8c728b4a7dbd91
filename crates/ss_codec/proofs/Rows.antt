-- Worked records, each computed: how it is spelled, and what is read from bytes.
use Rattle.std.specs.Prelude.{◌≡◌, ℕ, ◌-◌, ◌^◌, pos, negsuc, false, List, [], ◌∷◌, ◌++◌, replicate, slice_set, Some, None}
use Rattle.std.proofs.Common.{refl}
use Rattle.ss_fields.specs.Fields as Numbers
use Rattle.ss_catalog.specs.Names as Names
use Rattle.ss_base.specs.declared.limits.TheConstants.{LAST_TIME}
use Rattle.ss_catalog.specs.Params.{exp as Exp, power as Power}
use Rattle.ss_codec.specs.declared.record.TheConstants.{STREAM, LANDMARK, VALUE, EXPONENTIAL, POWER_LAW, OPEN, CLOSED, NAME}
use Rattle.ss_codec.specs.declared.record.Record.{Record}
use Rattle.ss_codec.specs.declared.record.Record.TheVariants.{Free, Stream, Landmark, Value}
use Rattle.ss_codec.specs.Fields as Fields
use Rattle.ss_codec.specs.Record.{spelling, is_valid}
use Rattle.ss_codec.specs.Decoded.{decoded, finish_in, landmark_in, params_in, record_in, stream_in, value_in}

-- the numbers of the format
place_of_name : NAME ≡ 24
place_of_name = refl

kinds : STREAM ∷ LANDMARK ∷ VALUE ∷ [] ≡ 1 ∷ 3 ∷ 4 ∷ []
kinds = refl

families : EXPONENTIAL ∷ POWER_LAW ∷ [] ≡ 1 ∷ 2 ∷ []
families = refl

states : OPEN ∷ CLOSED ∷ [] ≡ 1 ∷ 2 ∷ []
states = refl

-- a number below 256 in 8 bytes
abbrev pub eight : ℕ → List ℕ
eight n = replicate 7 0 ++ n ∷ []

-- the stream `a` with the target `exp 2 1 1` and the number 0
abbrev stream : Record
stream = Stream 0 (97 ∷ []) (Exp 2 1 1) false

abbrev pub stream_bytes : List ℕ
stream_bytes =
    1 ∷ 1 ∷ 1 ∷ 0 ∷ []
    ++ replicate 4 0
    ++ 0 ∷ 0 ∷ 0 ∷ 2 ∷ 0 ∷ 0 ∷ 0 ∷ 1 ∷ 0 ∷ 0 ∷ 0 ∷ 1 ∷ 0 ∷ 0 ∷ 0 ∷ 0 ∷ []
    ++ 97 ∷ replicate 31 0
    ++ replicate 72 0

-- how these are spelled
spelling-stream : spelling stream ≡ stream_bytes
unfolding spelling Fields.with_field Numbers.number_bytes
spelling-stream = refl

-- they are read again
decoded-free : decoded (replicate 128 0) ≡ Some Free
unfolding decoded record_in is_valid spelling
decoded-free = refl

decoded-stream : decoded stream_bytes ≡ Some stream
unfolding decoded record_in stream_in params_in is_valid spelling Names.is_name Fields.with_field Numbers.number_at Numbers.number_bytes
decoded-stream = refl

-- a kind that isn't there
decoded-kind : decoded (5 ∷ replicate 127 0) ≡ None
unfolding decoded record_in is_valid spelling
decoded-kind = refl

-- a free slot with a byte
decoded-free_with_a_byte : decoded (replicate 127 0 ++ 1 ∷ []) ≡ None
unfolding decoded record_in is_valid spelling
decoded-free_with_a_byte = refl

-- a stream with a byte after its name
decoded-stream_with_a_letter : decoded (slice_set stream_bytes 25 97) ≡ None
unfolding decoded record_in stream_in params_in is_valid spelling Names.is_name Fields.with_field Numbers.number_at Numbers.number_bytes
decoded-stream_with_a_letter = refl

-- the stream `p` with the target `power 1 1 4 2` and the number 1, and with P = 5
abbrev pub power_bytes : ℕ → List ℕ
power_bytes p =
    1 ∷ 2 ∷ 1 ∷ 0 ∷ 0 ∷ 0 ∷ 0 ∷ 1 ∷ []
    ++ 0 ∷ 0 ∷ 0 ∷ p ∷ 0 ∷ 0 ∷ 0 ∷ 1 ∷ 0 ∷ 0 ∷ 0 ∷ 4 ∷ 0 ∷ 0 ∷ 0 ∷ 2 ∷ []
    ++ 112 ∷ replicate 31 0
    ++ replicate 72 0

spelling-stream_power : spelling (Stream 1 (112 ∷ []) (Power 1 1 4 2) false) ≡ power_bytes 1
unfolding spelling Fields.with_field Numbers.number_bytes
spelling-stream_power = refl

decoded-stream_power : decoded (power_bytes 1) ≡ Some (Stream 1 (112 ∷ []) (Power 1 1 4 2) false)
unfolding decoded record_in stream_in params_in is_valid spelling Names.is_name Fields.with_field Numbers.number_at Numbers.number_bytes
decoded-stream_power = refl

decoded-stream_power_5 : decoded (power_bytes 5) ≡ None
unfolding decoded record_in stream_in params_in is_valid spelling Names.is_name Fields.with_field Numbers.number_at Numbers.number_bytes
decoded-stream_power_5 = refl

-- the landmark 1 of stream 0, which opened at the time 100, in 128 bytes: the byte of its state, its values, and its closing
-- time, each of these below 256
abbrev landmark_bytes : ℕ → ℕ → ℕ → List ℕ
landmark_bytes state values closing =
    3 ∷ state ∷ 0 ∷ 0 ∷ []
    ++ replicate 4 0
    ++ 0 ∷ 0 ∷ 0 ∷ 1 ∷ []
    ++ 0 ∷ 0 ∷ 0 ∷ values ∷ []
    ++ eight 100
    ++ eight closing
    ++ replicate 96 0

-- closed at the time 100 with one value, and still open
spelling-landmark : spelling (Landmark 0 1 1 100 (Some 100)) ≡ landmark_bytes 2 1 100
unfolding spelling Fields.with_field Numbers.number_bytes
spelling-landmark = refl

decoded-landmark : decoded (landmark_bytes 2 1 100) ≡ Some (Landmark 0 1 1 100 (Some 100))
unfolding decoded record_in landmark_in finish_in is_valid spelling Fields.with_field Numbers.number_at Numbers.number_bytes
decoded-landmark = refl

spelling-landmark_open : spelling (Landmark 0 1 0 100 None) ≡ landmark_bytes 1 0 0
unfolding spelling Fields.with_field Numbers.number_bytes
spelling-landmark_open = refl

decoded-landmark_open : decoded (landmark_bytes 1 0 0) ≡ Some (Landmark 0 1 0 100 None)
unfolding decoded record_in landmark_in finish_in is_valid spelling Fields.with_field Numbers.number_at Numbers.number_bytes
decoded-landmark_open = refl

-- neither open nor closed
decoded-landmark_stateless : decoded (landmark_bytes 0 1 100) ≡ None
unfolding decoded record_in landmark_in finish_in is_valid spelling Fields.with_field Numbers.number_at Numbers.number_bytes
decoded-landmark_stateless = refl

decoded-landmark_stateless_alone : decoded (landmark_bytes 0 0 0) ≡ None
unfolding decoded record_in landmark_in finish_in is_valid spelling Fields.with_field Numbers.number_at Numbers.number_bytes
decoded-landmark_stateless_alone = refl

decoded-landmark_of_state_3 : decoded (landmark_bytes 3 1 100) ≡ None
unfolding decoded record_in landmark_in finish_in is_valid spelling Fields.with_field Numbers.number_at Numbers.number_bytes
decoded-landmark_of_state_3 = refl

-- open with a closing time, and with a value
decoded-landmark_open_with_closing : decoded (landmark_bytes 1 0 100) ≡ None
unfolding decoded record_in landmark_in finish_in is_valid spelling Fields.with_field Numbers.number_at Numbers.number_bytes
decoded-landmark_open_with_closing = refl

decoded-landmark_open_with_value : decoded (landmark_bytes 1 1 0) ≡ None
unfolding decoded record_in landmark_in finish_in is_valid spelling Fields.with_field Numbers.number_at Numbers.number_bytes
decoded-landmark_open_with_value = refl

-- with the number 0
decoded-landmark_0 : decoded (slice_set (landmark_bytes 2 1 100) 11 0) ≡ None
unfolding decoded record_in landmark_in finish_in is_valid spelling Fields.with_field Numbers.number_at Numbers.number_bytes
decoded-landmark_0 = refl

-- closed before it opened
decoded-landmark_closed_early : decoded (landmark_bytes 2 1 99) ≡ None
unfolding decoded record_in landmark_in finish_in is_valid spelling Fields.with_field Numbers.number_at Numbers.number_bytes
decoded-landmark_closed_early = refl

-- with a byte where no field is
decoded-landmark_with_a_byte_2 : decoded (slice_set (landmark_bytes 2 1 100) 2 1) ≡ None
unfolding decoded record_in landmark_in finish_in is_valid spelling Fields.with_field Numbers.number_at Numbers.number_bytes
decoded-landmark_with_a_byte_2 = refl

decoded-landmark_with_a_byte_32 : decoded (slice_set (landmark_bytes 2 1 100) 32 1) ≡ None
unfolding decoded record_in landmark_in finish_in is_valid spelling Fields.with_field Numbers.number_at Numbers.number_bytes
decoded-landmark_with_a_byte_32 = refl

decoded-landmark_with_a_byte_127 : decoded (slice_set (landmark_bytes 2 1 100) 127 1) ≡ None
unfolding decoded record_in landmark_in finish_in is_valid spelling Fields.with_field Numbers.number_at Numbers.number_bytes
decoded-landmark_with_a_byte_127 = refl

-- the time 2^62 in 8 bytes, and the one after it
abbrev last_eight : ℕ → List ℕ
last_eight after = 64 ∷ replicate 6 0 ++ after ∷ []

-- the last landmark of the last stream, with as many values as can be, and these opening and closing times
abbrev last_landmark_bytes : ℕ → ℕ → List ℕ
last_landmark_bytes start finish =
    3 ∷ 2 ∷ 0 ∷ 0 ∷ replicate 12 255 ++ last_eight start ++ last_eight finish ++ replicate 96 0

-- the same, open
abbrev last_open_bytes : ℕ → List ℕ
last_open_bytes start = 3 ∷ 1 ∷ 0 ∷ 0 ∷ replicate 8 255 ++ replicate 4 0 ++ last_eight start ++ replicate 104 0

-- at the last time, and after it
spelling-last_landmark : spelling (Landmark (2 ^ 32 - 1) (2 ^ 32 - 1) (2 ^ 32 - 1) LAST_TIME (Some LAST_TIME)) ≡ last_landmark_bytes 0 0
unfolding spelling Fields.with_field Numbers.number_bytes
spelling-last_landmark = refl

decoded-last_landmark : decoded (last_landmark_bytes 0 0) ≡ Some (Landmark (2 ^ 32 - 1) (2 ^ 32 - 1) (2 ^ 32 - 1) LAST_TIME (Some LAST_TIME))
unfolding decoded record_in landmark_in finish_in is_valid spelling Fields.with_field Numbers.number_at Numbers.number_bytes
decoded-last_landmark = refl

decoded-last_landmark_closed_late : decoded (last_landmark_bytes 0 1) ≡ None
unfolding decoded record_in landmark_in finish_in is_valid spelling Fields.with_field Numbers.number_at Numbers.number_bytes
decoded-last_landmark_closed_late = refl

decoded-last_landmark_late : decoded (last_landmark_bytes 1 1) ≡ None
unfolding decoded record_in landmark_in finish_in is_valid spelling Fields.with_field Numbers.number_at Numbers.number_bytes
decoded-last_landmark_late = refl

decoded-last_open : decoded (last_open_bytes 0) ≡ Some (Landmark (2 ^ 32 - 1) (2 ^ 32 - 1) 0 LAST_TIME None)
unfolding decoded record_in landmark_in finish_in is_valid spelling Fields.with_field Numbers.number_at Numbers.number_bytes
decoded-last_open = refl

decoded-last_open_late : decoded (last_open_bytes 1) ≡ None
unfolding decoded record_in landmark_in finish_in is_valid spelling Fields.with_field Numbers.number_at Numbers.number_bytes
decoded-last_open_late = refl

-- the value 7 at the time 100, the first of the landmark 1 of stream 0
abbrev value_bytes : List ℕ
value_bytes =
    4 ∷ 0 ∷ 0 ∷ 0 ∷ []
    ++ replicate 4 0
    ++ 0 ∷ 0 ∷ 0 ∷ 1 ∷ []
    ++ 0 ∷ 0 ∷ 0 ∷ 1 ∷ []
    ++ eight 100
    ++ eight 7
    ++ replicate 96 0

spelling-value : spelling (Value 0 1 1 100 (pos 7)) ≡ value_bytes
unfolding spelling Fields.with_field Numbers.number_bytes
spelling-value = refl

decoded-value : decoded value_bytes ≡ Some (Value 0 1 1 100 (pos 7))
unfolding decoded record_in value_in is_valid spelling Fields.with_field Numbers.number_at Numbers.number_bytes
decoded-value = refl

-- of the landmark 0, and with the index 0
decoded-value_of_landmark_0 : decoded (slice_set value_bytes 11 0) ≡ None
unfolding decoded record_in value_in is_valid spelling Fields.with_field Numbers.number_at Numbers.number_bytes
decoded-value_of_landmark_0 = refl

decoded-value_0 : decoded (slice_set value_bytes 15 0) ≡ None
unfolding decoded record_in value_in is_valid spelling Fields.with_field Numbers.number_at Numbers.number_bytes
decoded-value_0 = refl

-- with a byte where no field is
decoded-value_with_a_byte_1 : decoded (slice_set value_bytes 1 1) ≡ None
unfolding decoded record_in value_in is_valid spelling Fields.with_field Numbers.number_at Numbers.number_bytes
decoded-value_with_a_byte_1 = refl

decoded-value_with_a_byte_32 : decoded (slice_set value_bytes 32 1) ≡ None
unfolding decoded record_in value_in is_valid spelling Fields.with_field Numbers.number_at Numbers.number_bytes
decoded-value_with_a_byte_32 = refl

decoded-value_with_a_byte_127 : decoded (slice_set value_bytes 127 1) ≡ None
unfolding decoded record_in value_in is_valid spelling Fields.with_field Numbers.number_at Numbers.number_bytes
decoded-value_with_a_byte_127 = refl

-- the last value of the last landmark of the last stream, at this time, with these 8 bytes
abbrev last_value_bytes : ℕ → List ℕ → List ℕ
last_value_bytes t v = 4 ∷ 0 ∷ 0 ∷ 0 ∷ replicate 12 255 ++ last_eight t ++ v ++ replicate 96 0

-- the greatest value and the least
spelling-last_value_greatest : spelling (Value (2 ^ 32 - 1) (2 ^ 32 - 1) (2 ^ 32 - 1) LAST_TIME (pos (2 ^ 63 - 1))) ≡ last_value_bytes 0 (127 ∷ replicate 7 255)
unfolding spelling Fields.with_field Numbers.number_bytes
spelling-last_value_greatest = refl

decoded-last_value_greatest : decoded (last_value_bytes 0 (127 ∷ replicate 7 255)) ≡ Some
    (Value (2 ^ 32 - 1) (2 ^ 32 - 1) (2 ^ 32 - 1) LAST_TIME (pos (2 ^ 63 - 1)))
unfolding decoded record_in value_in is_valid spelling Fields.with_field Numbers.number_at Numbers.number_bytes
decoded-last_value_greatest = refl

spelling-last_value_least : spelling (Value (2 ^ 32 - 1) (2 ^ 32 - 1) (2 ^ 32 - 1) LAST_TIME (negsuc (2 ^ 63 - 1))) ≡ last_value_bytes 0 (128 ∷ replicate 7 0)
unfolding spelling Fields.with_field Numbers.number_bytes
spelling-last_value_least = refl

decoded-last_value_least : decoded (last_value_bytes 0 (128 ∷ replicate 7 0)) ≡ Some
    (Value (2 ^ 32 - 1) (2 ^ 32 - 1) (2 ^ 32 - 1) LAST_TIME (negsuc (2 ^ 63 - 1)))
unfolding decoded record_in value_in is_valid spelling Fields.with_field Numbers.number_at Numbers.number_bytes
decoded-last_value_least = refl

-- after the last time
decoded-last_value_late : decoded (last_value_bytes 1 (replicate 8 0)) ≡ None
unfolding decoded record_in value_in is_valid spelling Fields.with_field Numbers.number_at Numbers.number_bytes
decoded-last_value_late = refl

-- the numbers of a stream, of a landmark and of a value each have a place of their own
spelling-value_apart : spelling (Value 3 2 5 100 (pos 7)) ≡
    4 ∷ 0 ∷ 0 ∷ 0 ∷ 0 ∷ 0 ∷ 0 ∷ 3 ∷ 0 ∷ 0 ∷ 0 ∷ 2 ∷ 0 ∷ 0 ∷ 0 ∷ 5 ∷ [] ++ eight 100 ++ eight 7 ++ replicate 96 0
unfolding spelling Fields.with_field Numbers.number_bytes
spelling-value_apart = refl

spelling-landmark_apart : spelling (Landmark 3 2 4 100 (Some 200)) ≡
    3 ∷ 2 ∷ 0 ∷ 0 ∷ 0 ∷ 0 ∷ 0 ∷ 3 ∷ 0 ∷ 0 ∷ 0 ∷ 2 ∷ 0 ∷ 0 ∷ 0 ∷ 4 ∷ [] ++ eight 100 ++ eight 200 ++ replicate 96 0
unfolding spelling Fields.with_field Numbers.number_bytes
spelling-landmark_apart = refl
