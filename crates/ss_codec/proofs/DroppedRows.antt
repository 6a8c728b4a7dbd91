-- Worked records of streams that were dropped, each computed.
use Rattle.std.specs.Prelude.{◌≡◌, [], ◌∷◌, true, false, slice_set, Some, None}
use Rattle.std.proofs.Common.{refl}
use Rattle.ss_fields.specs.Fields as Numbers
use Rattle.ss_catalog.specs.Names as Names
use Rattle.ss_catalog.specs.Params.{exp as Exp, power as Power}
use Rattle.ss_codec.specs.declared.record.TheConstants.{STANDING, DROPPED}
use Rattle.ss_codec.specs.declared.record.Record.{Record}
use Rattle.ss_codec.specs.declared.record.Record.TheVariants.{Stream}
use Rattle.ss_codec.specs.Fields as Fields
use Rattle.ss_codec.specs.Record.{drop_number, spelling, is_valid}
use Rattle.ss_codec.specs.Decoded.{decoded, params_in, record_in, stream_in}
use Rattle.ss_codec.proofs.Rows.{power_bytes, stream_bytes}

state_of_the_standing : STANDING ≡ 0
state_of_the_standing = refl

state_of_the_dropped : DROPPED ≡ 1
state_of_the_dropped = refl

-- the stream once it was dropped
abbrev dropped_stream : Record
dropped_stream = Stream 0 (97 ∷ []) (Exp 2 1 1) true

drop_numbers : (drop_number true ≡ 1) × (drop_number false ≡ 0)
drop_numbers = (refl, refl)

spelling-dropped : spelling dropped_stream ≡ slice_set stream_bytes 3 1
unfolding spelling Fields.with_field Numbers.number_bytes
spelling-dropped = refl

decoded-dropped : decoded (slice_set stream_bytes 3 1) ≡ Some dropped_stream
unfolding decoded record_in stream_in params_in is_valid spelling Names.is_name Fields.with_field Numbers.number_at Numbers.number_bytes
decoded-dropped = refl

-- a dropped stream is no more valid than one that stands: without a name, and with a base that no target has
valid-dropped : is_valid dropped_stream ≡ true
unfolding is_valid Names.is_name
valid-dropped = refl

valid-dropped_nameless : is_valid (Stream 0 [] (Exp 2 1 1) true) ≡ false
unfolding is_valid Names.is_name
valid-dropped_nameless = refl

valid-dropped_of_base_1 : is_valid (Stream 0 (97 ∷ []) (Exp 1 1 1) true) ≡ false
unfolding is_valid Names.is_name
valid-dropped_of_base_1 = refl

-- a stream that neither stands nor was dropped
decoded-stream_of_state_2 : decoded (slice_set stream_bytes 3 2) ≡ None
unfolding decoded record_in stream_in params_in is_valid spelling Names.is_name Fields.with_field Numbers.number_at Numbers.number_bytes
decoded-stream_of_state_2 = refl

decoded-stream_of_state_255 : decoded (slice_set stream_bytes 3 255) ≡ None
unfolding decoded record_in stream_in params_in is_valid spelling Names.is_name Fields.with_field Numbers.number_at Numbers.number_bytes
decoded-stream_of_state_255 = refl

-- the power-law stream, once it was dropped
spelling-dropped_power : spelling (Stream 1 (112 ∷ []) (Power 1 1 4 2) true) ≡ slice_set (power_bytes 1) 3 1
unfolding spelling Fields.with_field Numbers.number_bytes
spelling-dropped_power = refl

decoded-dropped_power : decoded (slice_set (power_bytes 1) 3 1) ≡ Some (Stream 1 (112 ∷ []) (Power 1 1 4 2) true)
unfolding decoded record_in stream_in params_in is_valid spelling Names.is_name Fields.with_field Numbers.number_at Numbers.number_bytes
decoded-dropped_power = refl
