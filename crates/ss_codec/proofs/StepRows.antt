-- Worked records of streams whose windows keep to a step, each computed.
use Rattle.std.specs.Prelude.{◌≡◌, ℕ, ◌-◌, ◌^◌, Bool, true, false, List, [], ◌∷◌, ◌++◌, replicate, slice_set, take, Option, Some, None}
use Rattle.std.proofs.Common.{refl}
use Rattle.ss_fields.specs.Fields as Numbers
use Rattle.ss_catalog.specs.Names as Names
use Rattle.ss_catalog.specs.declared.params.Family.TheVariants.{Exp, Power}
use Rattle.ss_codec.specs.declared.record.TheConstants.{STEP}
use Rattle.ss_codec.specs.declared.record.Record.{Record}
use Rattle.ss_codec.specs.declared.record.Record.TheVariants.{Stream}
use Rattle.ss_codec.specs.Fields as Fields
use Rattle.ss_codec.specs.Record.{spelling, is_valid}
use Rattle.ss_codec.specs.Decoded.{decoded, params_in, record_in, stream_in}
use Rattle.ss_codec.proofs.Rows.{power_bytes, stream_bytes}

place_of_step : STEP ≡ 56
place_of_step = refl

-- the stream `a` with the target `exp 2 1 1` and the number 0, within a step
abbrev stream : Option ℕ → Bool → Record
stream within dropped = Stream 0 (97 ∷ []) (record { family = Exp 2 1 1; within = within }) dropped

-- the same in bytes, with the four of its step
abbrev step_bytes : List ℕ → List ℕ
step_bytes step = take 56 stream_bytes ++ step ++ replicate 68 0

-- within 86400
abbrev day : List ℕ
day = 0 ∷ 1 ∷ 81 ∷ 128 ∷ []

spelling-day : spelling (stream (Some 86400) false) ≡ step_bytes day
unfolding spelling Fields.with_field Numbers.number_bytes
spelling-day = refl

decoded-day : decoded (step_bytes day) ≡ Some (stream (Some 86400) false)
unfolding decoded record_in stream_in params_in is_valid spelling Names.is_name Fields.with_field Numbers.number_at Numbers.number_bytes
decoded-day = refl

-- the least and the greatest step
spelling-least : spelling (stream (Some 1) false) ≡ step_bytes (0 ∷ 0 ∷ 0 ∷ 1 ∷ [])
unfolding spelling Fields.with_field Numbers.number_bytes
spelling-least = refl

decoded-least : decoded (step_bytes (0 ∷ 0 ∷ 0 ∷ 1 ∷ [])) ≡ Some (stream (Some 1) false)
unfolding decoded record_in stream_in params_in is_valid spelling Names.is_name Fields.with_field Numbers.number_at Numbers.number_bytes
decoded-least = refl

spelling-greatest : spelling (stream (Some (2 ^ 32 - 1)) false) ≡ step_bytes (replicate 4 255)
unfolding spelling Fields.with_field Numbers.number_bytes
spelling-greatest = refl

decoded-greatest : decoded (step_bytes (replicate 4 255)) ≡ Some (stream (Some (2 ^ 32 - 1)) false)
unfolding decoded record_in stream_in params_in is_valid spelling Names.is_name Fields.with_field Numbers.number_at Numbers.number_bytes
decoded-greatest = refl

-- zeros are no step
decoded-none : decoded (step_bytes (replicate 4 0)) ≡ Some (stream None false)
unfolding decoded record_in stream_in params_in is_valid spelling Names.is_name Fields.with_field Numbers.number_at Numbers.number_bytes
decoded-none = refl

-- steps of 0 and of 2^32 are none that a record has
valid-greatest : is_valid (stream (Some (2 ^ 32 - 1)) false) ≡ true
unfolding is_valid Names.is_name
valid-greatest = refl

valid-past_the_greatest : is_valid (stream (Some (2 ^ 32)) false) ≡ false
unfolding is_valid Names.is_name
valid-past_the_greatest = refl

valid-0 : is_valid (stream (Some 0) false) ≡ false
unfolding is_valid Names.is_name
valid-0 = refl

-- with a byte before the step, and with one after it
decoded-day_with_a_byte_55 : decoded (slice_set (step_bytes day) 55 1) ≡ None
unfolding decoded record_in stream_in params_in is_valid spelling Names.is_name Fields.with_field Numbers.number_at Numbers.number_bytes
decoded-day_with_a_byte_55 = refl

decoded-day_with_a_byte_60 : decoded (slice_set (step_bytes day) 60 1) ≡ None
unfolding decoded record_in stream_in params_in is_valid spelling Names.is_name Fields.with_field Numbers.number_at Numbers.number_bytes
decoded-day_with_a_byte_60 = refl

decoded-day_with_a_byte_127 : decoded (slice_set (step_bytes day) 127 1) ≡ None
unfolding decoded record_in stream_in params_in is_valid spelling Names.is_name Fields.with_field Numbers.number_at Numbers.number_bytes
decoded-day_with_a_byte_127 = refl

-- the stream once it was dropped keeps its step
spelling-dropped : spelling (stream (Some 86400) true) ≡ slice_set (step_bytes day) 3 1
unfolding spelling Fields.with_field Numbers.number_bytes
spelling-dropped = refl

decoded-dropped : decoded (slice_set (step_bytes day) 3 1) ≡ Some (stream (Some 86400) true)
unfolding decoded record_in stream_in params_in is_valid spelling Names.is_name Fields.with_field Numbers.number_at Numbers.number_bytes
decoded-dropped = refl

-- the stream `p` with the target `power 1 1 4 2` and the number 1, within 86400
abbrev power_stream : Record
power_stream = Stream 1 (112 ∷ []) (record { family = Power 1 1 4 2; within = Some 86400 }) false

spelling-power : spelling power_stream ≡ take 56 (power_bytes 1) ++ day ++ replicate 68 0
unfolding spelling Fields.with_field Numbers.number_bytes
spelling-power = refl

decoded-power : decoded (take 56 (power_bytes 1) ++ day ++ replicate 68 0) ≡ Some power_stream
unfolding decoded record_in stream_in params_in is_valid spelling Names.is_name Fields.with_field Numbers.number_at Numbers.number_bytes
decoded-power = refl

-- the longest name ends where the step begins
spelling-longest : spelling (Stream 0 (replicate 32 97) (record { family = Exp 2 1 1; within = Some 86400 }) false)
    ≡ slice_set (take 24 stream_bytes) 2 32 ++ replicate 32 97 ++ day ++ replicate 68 0
unfolding spelling Fields.with_field Numbers.number_bytes
spelling-longest = refl

decoded-longest : decoded (slice_set (take 24 stream_bytes) 2 32 ++ replicate 32 97 ++ day ++ replicate 68 0)
    ≡ Some (Stream 0 (replicate 32 97) (record { family = Exp 2 1 1; within = Some 86400 }) false)
unfolding decoded record_in stream_in params_in is_valid spelling Names.is_name Fields.with_field Numbers.number_at Numbers.number_bytes
decoded-longest = refl
