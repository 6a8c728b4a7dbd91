-- Worked frames of Creates whose streams have a step, each computed.
use Rattle.std.specs.Prelude.{◌≡◌, ℕ, ◌-◌, ◌^◌, List, [], ◌∷◌, ◌++◌, replicate, slice_set, take, drop, true, false, Option, Some, None}
use Rattle.std.proofs.Common.{refl}
use Rattle.ss_fields.specs.Fields as Numbers
use Rattle.ss_catalog.specs.Names as Names
use Rattle.ss_catalog.specs.declared.event.Event.TheVariants.{Create}
use Rattle.ss_catalog.specs.declared.params.Family.TheVariants.{Exp, Power}
use Rattle.ss_codec.specs.Fields as Fields
use Rattle.ss_codec.specs.Decoded.{params_in}
use Rattle.ss_frames.specs.declared.frame.TheConstants.{STEP}
use Rattle.ss_frames.specs.Frame.{FrameState, event_in, frame_in, frame_spelled, is_valid_frame}
use Rattle.ss_frames.proofs.Rows.{created_bytes, power_bytes}

place_of_step : STEP ≡ 4
place_of_step = refl

-- the stream `a` with the target `exp 2 1 1` is created within a step
abbrev created : Option ℕ → FrameState
created within = record { number = 1; event = Create (97 ∷ []) (record { family = Exp 2 1 1; within = within }) }

-- the bytes of a Create, with the four of its step
abbrev with_step : List ℕ → List ℕ → List ℕ
with_step step bytes = take 4 bytes ++ step ++ drop 8 bytes

-- within 86400
abbrev day_bytes : List ℕ
day_bytes = with_step (0 ∷ 1 ∷ 81 ∷ 128 ∷ []) (created_bytes 1)

spelling-day : frame_spelled (created (Some 86400)) ≡ day_bytes
unfolding frame_spelled Fields.with_field Numbers.number_bytes
spelling-day = refl

reading-day : frame_in day_bytes ≡ Some (created (Some 86400))
unfolding frame_in event_in params_in frame_spelled is_valid_frame Names.is_name Fields.with_field Numbers.number_at Numbers.number_bytes
reading-day = refl

-- the least step and the greatest, and none
reading-least : frame_in (slice_set (created_bytes 1) 7 1) ≡ Some (created (Some 1))
unfolding frame_in event_in params_in frame_spelled is_valid_frame Names.is_name Fields.with_field Numbers.number_at Numbers.number_bytes
reading-least = refl

spelling-greatest : frame_spelled (created (Some (2 ^ 32 - 1))) ≡ with_step (replicate 4 255) (created_bytes 1)
unfolding frame_spelled Fields.with_field Numbers.number_bytes
spelling-greatest = refl

reading-greatest : frame_in (with_step (replicate 4 255) (created_bytes 1)) ≡ Some (created (Some (2 ^ 32 - 1)))
unfolding frame_in event_in params_in frame_spelled is_valid_frame Names.is_name Fields.with_field Numbers.number_at Numbers.number_bytes
reading-greatest = refl

reading-none : frame_in (with_step (replicate 4 0) (created_bytes 1)) ≡ Some (created None)
unfolding frame_in event_in params_in frame_spelled is_valid_frame Names.is_name Fields.with_field Numbers.number_at Numbers.number_bytes
reading-none = refl

-- steps of 0 and of 2^32 are none that a frame has
valid-greatest : is_valid_frame 1 (created (Some (2 ^ 32 - 1))).event ≡ true
unfolding is_valid_frame Names.is_name
valid-greatest = refl

valid-past_the_greatest : is_valid_frame 1 (created (Some (2 ^ 32))).event ≡ false
unfolding is_valid_frame Names.is_name
valid-past_the_greatest = refl

valid-0 : is_valid_frame 1 (created (Some 0)).event ≡ false
unfolding is_valid_frame Names.is_name
valid-0 = refl

-- with a byte before the step, and with one in the number after it
reading-day_with_a_byte_3 : frame_in (slice_set day_bytes 3 1) ≡ None
unfolding frame_in event_in params_in frame_spelled is_valid_frame Names.is_name Fields.with_field Numbers.number_at Numbers.number_bytes
reading-day_with_a_byte_3 = refl

reading-day_with_a_byte_8 : frame_in (slice_set day_bytes 8 1) ≡ None
unfolding frame_in event_in params_in frame_spelled is_valid_frame Names.is_name Fields.with_field Numbers.number_at Numbers.number_bytes
reading-day_with_a_byte_8 = refl

-- the stream `p` with the target `power 1 1 4 2` within 86400
abbrev power_created : FrameState
power_created = record { number = 1; event = Create (112 ∷ []) (record { family = Power 1 1 4 2; within = Some 86400 }) }

spelling-power : frame_spelled power_created ≡ with_step (0 ∷ 1 ∷ 81 ∷ 128 ∷ []) (power_bytes 1)
unfolding frame_spelled Fields.with_field Numbers.number_bytes
spelling-power = refl

reading-power : frame_in (with_step (0 ∷ 1 ∷ 81 ∷ 128 ∷ []) (power_bytes 1)) ≡ Some power_created
unfolding frame_in event_in params_in frame_spelled is_valid_frame Names.is_name Fields.with_field Numbers.number_at Numbers.number_bytes
reading-power = refl
