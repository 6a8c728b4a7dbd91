-- Worked frames and what is none, and worked inputs and their pieces, each computed.
use Rattle.std.specs.Prelude.{◌≡◌, ℕ, ◌-◌, ◌^◌, List, [], ◌∷◌, ◌++◌, pos, negsuc, replicate, slice_set, false, true, Some, None}
use Rattle.std.proofs.Common.{refl}
use Rattle.ss_fields.specs.Fields as Numbers
use Rattle.ss_catalog.specs.Names as Names
use Rattle.ss_base.specs.declared.limits.TheConstants.{LAST_TIME}
use Rattle.ss_catalog.specs.declared.event.Event.TheVariants.{Create, Value, Open, Close, Drop}
use Rattle.ss_catalog.specs.Params.{exp as Exp, power as Power}
use Rattle.ss_codec.specs.Fields as Fields
use Rattle.ss_codec.specs.Decoded.{params_in}
use Rattle.ss_frames.specs.declared.frame.TheConstants.{FRAME_SIZE, CREATE, VALUE, OPEN, CLOSE, NUMBER, NAME, CONTENT}
use Rattle.ss_frames.specs.Frame.{event_in, frame_in, frame_spelled, is_valid_frame}
use Rattle.ss_frames.specs.Pieces.{pieces, pieces_so_far, unended_piece}
use Rattle.ss_frames.specs.PieceState.{HasReadPieces, PieceState, TellsPiece, piece_under_way}

-- the numbers of the format
frame_size : FRAME_SIZE ≡ 64
frame_size = refl

kind_of_creates : CREATE ≡ 1
kind_of_creates = refl

kind_of_values : VALUE ≡ 2
kind_of_values = refl

kind_of_opens : OPEN ≡ 3
kind_of_opens = refl

kind_of_closes : CLOSE ≡ 4
kind_of_closes = refl

place_of_number : NUMBER ≡ 8
place_of_number = refl

place_of_name : NAME ≡ 16
place_of_name = refl

place_of_content : CONTENT ≡ 48
place_of_content = refl

-- a number below 256 in 8 bytes, and in 4
abbrev eight : ℕ → List ℕ
eight n = replicate 7 0 ++ n ∷ []

abbrev four : ℕ → List ℕ
four n = 0 ∷ 0 ∷ 0 ∷ n ∷ []

-- a frame of 64 bytes: its kind, the family, the length of a name of one letter, a number below 256, this letter, and 16 bytes
abbrev pub bytes_of : ℕ → ℕ → ℕ → ℕ → List ℕ → List ℕ
bytes_of kind family number letter content =
    kind ∷ family ∷ 1 ∷ 0 ∷ 0 ∷ 0 ∷ 0 ∷ 0 ∷ [] ++ eight number ++ letter ∷ replicate 31 0 ++ content

-- the stream `a` with the target `exp 2 1 1` is created
abbrev pub created_bytes : ℕ → List ℕ
created_bytes number = bytes_of 1 1 number 97 (four 2 ++ four 1 ++ four 1 ++ four 0)

spelling-create : frame_spelled (record { number = 1; event = Create (97 ∷ []) (Exp 2 1 1) }) ≡ created_bytes 1
unfolding frame_spelled Fields.with_field Numbers.number_bytes
spelling-create = refl

reading-create : frame_in (created_bytes 1) ≡ Some (record { number = 1; event = Create (97 ∷ []) (Exp 2 1 1) })
unfolding frame_in event_in params_in frame_spelled is_valid_frame Names.is_name Fields.with_field Numbers.number_at Numbers.number_bytes
reading-create = refl

-- its first two values: 5 at the time 10, and -3 at 20
abbrev value_bytes : ℕ → List ℕ
value_bytes number = bytes_of 2 0 number 97 (eight 10 ++ eight 5)

spelling-value : frame_spelled (record { number = 2; event = Value (97 ∷ []) 10 (pos 5) }) ≡ value_bytes 2
unfolding frame_spelled Fields.with_field Numbers.number_bytes
spelling-value = refl

reading-value : frame_in (value_bytes 2) ≡ Some (record { number = 2; event = Value (97 ∷ []) 10 (pos 5) })
unfolding frame_in event_in frame_spelled is_valid_frame Names.is_name Fields.with_field Numbers.number_at Numbers.number_bytes
reading-value = refl

abbrev below_zero_bytes : List ℕ
below_zero_bytes = bytes_of 2 0 3 97 (eight 20 ++ replicate 7 255 ++ 253 ∷ [])

spelling-value_below_zero : frame_spelled (record { number = 3; event = Value (97 ∷ []) 20 (negsuc 2) }) ≡ below_zero_bytes
unfolding frame_spelled Fields.with_field Numbers.number_bytes
spelling-value_below_zero = refl

reading-value_below_zero : frame_in below_zero_bytes ≡ Some (record { number = 3; event = Value (97 ∷ []) 20 (negsuc 2) })
unfolding frame_in event_in frame_spelled is_valid_frame Names.is_name Fields.with_field Numbers.number_at Numbers.number_bytes
reading-value_below_zero = refl

-- the stream `p` with the target `power 1 1 4 2`, and with this P
abbrev pub power_bytes : ℕ → List ℕ
power_bytes p = bytes_of 1 2 1 112 (four p ++ four 1 ++ four 4 ++ four 2)

spelling-create_power : frame_spelled (record { number = 1; event = Create (112 ∷ []) (Power 1 1 4 2) }) ≡ power_bytes 1
unfolding frame_spelled Fields.with_field Numbers.number_bytes
spelling-create_power = refl

reading-create_power : frame_in (power_bytes 1) ≡ Some (record { number = 1; event = Create (112 ∷ []) (Power 1 1 4 2) })
unfolding frame_in event_in params_in frame_spelled is_valid_frame Names.is_name Fields.with_field Numbers.number_at Numbers.number_bytes
reading-create_power = refl

-- a landmark opens at the time 100, and closes
abbrev mark_bytes : ℕ → ℕ → List ℕ
mark_bytes kind number = bytes_of kind 0 number 97 (eight 100 ++ eight 0)

spelling-open : frame_spelled (record { number = 4; event = Open (97 ∷ []) 100 }) ≡ mark_bytes 3 4
unfolding frame_spelled Fields.with_field Numbers.number_bytes
spelling-open = refl

reading-open : frame_in (mark_bytes 3 4) ≡ Some (record { number = 4; event = Open (97 ∷ []) 100 })
unfolding frame_in event_in frame_spelled is_valid_frame Names.is_name Fields.with_field Numbers.number_at Numbers.number_bytes
reading-open = refl

spelling-close : frame_spelled (record { number = 5; event = Close (97 ∷ []) 100 }) ≡ mark_bytes 4 5
unfolding frame_spelled Fields.with_field Numbers.number_bytes
spelling-close = refl

reading-close : frame_in (mark_bytes 4 5) ≡ Some (record { number = 5; event = Close (97 ∷ []) 100 })
unfolding frame_in event_in frame_spelled is_valid_frame Names.is_name Fields.with_field Numbers.number_at Numbers.number_bytes
reading-close = refl

-- kinds that aren't there
reading-kind_0 : frame_in (mark_bytes 0 4) ≡ None
unfolding frame_in event_in frame_spelled is_valid_frame Names.is_name Fields.with_field Numbers.number_at Numbers.number_bytes
reading-kind_0 = refl

reading-kind_5 : frame_in (mark_bytes 5 4) ≡ None
unfolding frame_in event_in frame_spelled is_valid_frame Names.is_name Fields.with_field Numbers.number_at Numbers.number_bytes
reading-kind_5 = refl

reading-kind_9 : frame_in (mark_bytes 9 4) ≡ None
unfolding frame_in event_in frame_spelled is_valid_frame Names.is_name Fields.with_field Numbers.number_at Numbers.number_bytes
reading-kind_9 = refl

reading-zeros : frame_in (replicate 64 0) ≡ None
unfolding frame_in event_in frame_spelled is_valid_frame Names.is_name Fields.with_field Numbers.number_at Numbers.number_bytes
reading-zeros = refl

-- a Create is the first event of its stream and no other event is
reading-create_0 : frame_in (created_bytes 0) ≡ None
unfolding frame_in event_in params_in frame_spelled is_valid_frame Names.is_name Fields.with_field Numbers.number_at Numbers.number_bytes
reading-create_0 = refl

reading-create_2 : frame_in (created_bytes 2) ≡ None
unfolding frame_in event_in params_in frame_spelled is_valid_frame Names.is_name Fields.with_field Numbers.number_at Numbers.number_bytes
reading-create_2 = refl

reading-value_0 : frame_in (value_bytes 0) ≡ None
unfolding frame_in event_in frame_spelled is_valid_frame Names.is_name Fields.with_field Numbers.number_at Numbers.number_bytes
reading-value_0 = refl

reading-value_1 : frame_in (value_bytes 1) ≡ None
unfolding frame_in event_in frame_spelled is_valid_frame Names.is_name Fields.with_field Numbers.number_at Numbers.number_bytes
reading-value_1 = refl

reading-open_1 : frame_in (mark_bytes 3 1) ≡ None
unfolding frame_in event_in frame_spelled is_valid_frame Names.is_name Fields.with_field Numbers.number_at Numbers.number_bytes
reading-open_1 = refl

reading-open_2 : frame_in (mark_bytes 3 2) ≡ Some (record { number = 2; event = Open (97 ∷ []) 100 })
unfolding frame_in event_in frame_spelled is_valid_frame Names.is_name Fields.with_field Numbers.number_at Numbers.number_bytes
reading-open_2 = refl

reading-close_1 : frame_in (mark_bytes 4 1) ≡ None
unfolding frame_in event_in frame_spelled is_valid_frame Names.is_name Fields.with_field Numbers.number_at Numbers.number_bytes
reading-close_1 = refl

reading-close_2 : frame_in (mark_bytes 4 2) ≡ Some (record { number = 2; event = Close (97 ∷ []) 100 })
unfolding frame_in event_in frame_spelled is_valid_frame Names.is_name Fields.with_field Numbers.number_at Numbers.number_bytes
reading-close_2 = refl

-- a byte that isn't zero where no field is
reading-byte_3 : frame_in (slice_set (value_bytes 2) 3 1) ≡ None
unfolding frame_in event_in frame_spelled is_valid_frame Names.is_name Fields.with_field Numbers.number_at Numbers.number_bytes
reading-byte_3 = refl

reading-byte_4 : frame_in (slice_set (value_bytes 2) 4 1) ≡ None
unfolding frame_in event_in frame_spelled is_valid_frame Names.is_name Fields.with_field Numbers.number_at Numbers.number_bytes
reading-byte_4 = refl

reading-byte_7 : frame_in (slice_set (value_bytes 2) 7 1) ≡ None
unfolding frame_in event_in frame_spelled is_valid_frame Names.is_name Fields.with_field Numbers.number_at Numbers.number_bytes
reading-byte_7 = refl

reading-open_with_a_step : frame_in (slice_set (mark_bytes 3 4) 7 1) ≡ None
unfolding frame_in event_in frame_spelled is_valid_frame Names.is_name Fields.with_field Numbers.number_at Numbers.number_bytes
reading-open_with_a_step = refl

reading-close_with_a_step : frame_in (slice_set (mark_bytes 4 5) 4 1) ≡ None
unfolding frame_in event_in frame_spelled is_valid_frame Names.is_name Fields.with_field Numbers.number_at Numbers.number_bytes
reading-close_with_a_step = refl

reading-open_with_a_value : frame_in (slice_set (mark_bytes 3 4) 63 1) ≡ None
unfolding frame_in event_in frame_spelled is_valid_frame Names.is_name Fields.with_field Numbers.number_at Numbers.number_bytes
reading-open_with_a_value = refl

reading-close_with_a_value : frame_in (slice_set (mark_bytes 4 5) 56 1) ≡ None
unfolding frame_in event_in frame_spelled is_valid_frame Names.is_name Fields.with_field Numbers.number_at Numbers.number_bytes
reading-close_with_a_value = refl

-- a fourth parameter of a family that has three, a family that isn't there, and one of an event that isn't a Create
reading-exp_with_a_fourth : frame_in (slice_set (created_bytes 1) 63 1) ≡ None
unfolding frame_in event_in params_in frame_spelled is_valid_frame Names.is_name Fields.with_field Numbers.number_at Numbers.number_bytes
reading-exp_with_a_fourth = refl

reading-family_0 : frame_in (slice_set (created_bytes 1) 1 0) ≡ None
unfolding frame_in event_in params_in frame_spelled is_valid_frame Names.is_name Fields.with_field Numbers.number_at Numbers.number_bytes
reading-family_0 = refl

reading-family_3 : frame_in (slice_set (power_bytes 1) 1 3) ≡ None
unfolding frame_in event_in params_in frame_spelled is_valid_frame Names.is_name Fields.with_field Numbers.number_at Numbers.number_bytes
reading-family_3 = refl

reading-value_with_a_family : frame_in (slice_set (value_bytes 2) 1 1) ≡ None
unfolding frame_in event_in frame_spelled is_valid_frame Names.is_name Fields.with_field Numbers.number_at Numbers.number_bytes
reading-value_with_a_family = refl

-- parameters that no target has
reading-power_4 : frame_in (power_bytes 4) ≡ Some (record { number = 1; event = Create (112 ∷ []) (Power 4 1 4 2) })
unfolding frame_in event_in params_in frame_spelled is_valid_frame Names.is_name Fields.with_field Numbers.number_at Numbers.number_bytes
reading-power_4 = refl

reading-power_5 : frame_in (power_bytes 5) ≡ None
unfolding frame_in event_in params_in frame_spelled is_valid_frame Names.is_name Fields.with_field Numbers.number_at Numbers.number_bytes
reading-power_5 = refl

-- a name without bytes, one with a byte after it, and one of a byte that no name has
reading-nameless : frame_in (slice_set (value_bytes 2) 2 0) ≡ None
unfolding frame_in event_in frame_spelled is_valid_frame Names.is_name Fields.with_field Numbers.number_at Numbers.number_bytes
reading-nameless = refl

reading-byte_after_name : frame_in (slice_set (value_bytes 2) 17 98) ≡ None
unfolding frame_in event_in frame_spelled is_valid_frame Names.is_name Fields.with_field Numbers.number_at Numbers.number_bytes
reading-byte_after_name = refl

reading-no_letter : frame_in (slice_set (value_bytes 2) 16 47) ≡ None
unfolding frame_in event_in frame_spelled is_valid_frame Names.is_name Fields.with_field Numbers.number_at Numbers.number_bytes
reading-no_letter = refl

-- a value at this time, under the longest name of some length and with the greatest number
abbrev last_bytes : ℕ → ℕ → List ℕ → List ℕ
last_bytes size after value =
    2 ∷ 0 ∷ size ∷ 0 ∷ 0 ∷ 0 ∷ 0 ∷ 0 ∷ [] ++ replicate 8 255 ++ replicate 32 110 ++ 64 ∷ replicate 6 0 ++ after ∷ value

-- the least value, and the greatest
spelling-last_least : frame_spelled (record { number = 2 ^ 64 - 1; event = Value (replicate 32 110) LAST_TIME (negsuc (2 ^ 63 - 1)) })
    ≡ last_bytes 32 0 (128 ∷ replicate 7 0)
unfolding frame_spelled Fields.with_field Numbers.number_bytes
spelling-last_least = refl

reading-last_least : frame_in (last_bytes 32 0 (128 ∷ replicate 7 0))
    ≡ Some (record { number = 2 ^ 64 - 1; event = Value (replicate 32 110) LAST_TIME (negsuc (2 ^ 63 - 1)) })
unfolding frame_in event_in frame_spelled is_valid_frame Names.is_name Fields.with_field Numbers.number_at Numbers.number_bytes
reading-last_least = refl

reading-last_greatest : frame_in (last_bytes 32 0 (127 ∷ replicate 7 255))
    ≡ Some (record { number = 2 ^ 64 - 1; event = Value (replicate 32 110) LAST_TIME (pos (2 ^ 63 - 1)) })
unfolding frame_in event_in frame_spelled is_valid_frame Names.is_name Fields.with_field Numbers.number_at Numbers.number_bytes
reading-last_greatest = refl

-- after the last time, and a name of 33 bytes and of 255
reading-last_late : frame_in (last_bytes 32 1 (replicate 8 0)) ≡ None
unfolding frame_in event_in frame_spelled is_valid_frame Names.is_name Fields.with_field Numbers.number_at Numbers.number_bytes
reading-last_late = refl

reading-name_of_33 : frame_in (slice_set (last_bytes 33 0 (replicate 8 0)) 48 110) ≡ None
unfolding frame_in event_in frame_spelled is_valid_frame Names.is_name Fields.with_field Numbers.number_at Numbers.number_bytes
reading-name_of_33 = refl

reading-name_of_255 : frame_in (last_bytes 255 0 (replicate 8 0)) ≡ None
unfolding frame_in event_in frame_spelled is_valid_frame Names.is_name Fields.with_field Numbers.number_at Numbers.number_bytes
reading-name_of_255 = refl

-- a landmark at the last time, and after it
abbrev last_mark_bytes : ℕ → ℕ → List ℕ
last_mark_bytes kind after = bytes_of kind 0 2 97 (64 ∷ replicate 6 0 ++ after ∷ replicate 8 0)

reading-last_open : frame_in (last_mark_bytes 3 0) ≡ Some (record { number = 2; event = Open (97 ∷ []) LAST_TIME })
unfolding frame_in event_in frame_spelled is_valid_frame Names.is_name Fields.with_field Numbers.number_at Numbers.number_bytes
reading-last_open = refl

reading-last_open_late : frame_in (last_mark_bytes 3 1) ≡ None
unfolding frame_in event_in frame_spelled is_valid_frame Names.is_name Fields.with_field Numbers.number_at Numbers.number_bytes
reading-last_open_late = refl

reading-last_close : frame_in (last_mark_bytes 4 0) ≡ Some (record { number = 2; event = Close (97 ∷ []) LAST_TIME })
unfolding frame_in event_in frame_spelled is_valid_frame Names.is_name Fields.with_field Numbers.number_at Numbers.number_bytes
reading-last_close = refl

reading-last_close_late : frame_in (last_mark_bytes 4 1) ≡ None
unfolding frame_in event_in frame_spelled is_valid_frame Names.is_name Fields.with_field Numbers.number_at Numbers.number_bytes
reading-last_close_late = refl

-- a byte less, and a byte more
reading-short : frame_in (bytes_of 2 0 2 97 (eight 10 ++ replicate 7 0)) ≡ None
unfolding frame_in event_in frame_spelled is_valid_frame Names.is_name Fields.with_field Numbers.number_at Numbers.number_bytes
reading-short = refl

reading-long : frame_in (value_bytes 2 ++ 0 ∷ []) ≡ None
unfolding frame_in event_in frame_spelled is_valid_frame Names.is_name Fields.with_field Numbers.number_at Numbers.number_bytes
reading-long = refl

reading-nothing : frame_in [] ≡ None
unfolding frame_in event_in frame_spelled is_valid_frame Names.is_name Fields.with_field Numbers.number_at Numbers.number_bytes
reading-nothing = refl

-- a Drop is none, under no number
valid-drop : is_valid_frame 2 (Drop (97 ∷ [])) ≡ false
unfolding is_valid_frame
valid-drop = refl

-- numbers of more than 64 bits, and values
valid-number_past : is_valid_frame (2 ^ 64) (Open (97 ∷ []) 0) ≡ false
unfolding is_valid_frame Names.is_name
valid-number_past = refl

valid-value_past : is_valid_frame 2 (Value (97 ∷ []) 0 (pos (2 ^ 63))) ≡ false
unfolding is_valid_frame Names.is_name
valid-value_past = refl

valid-value_before : is_valid_frame 2 (Value (97 ∷ []) 0 (negsuc (2 ^ 63))) ≡ false
unfolding is_valid_frame Names.is_name
valid-value_before = refl

-- the pieces of an input (of none: `pieces-nil`): one that the input ends within, a whole one, and one and a byte
pieces-byte : pieces (7 ∷ []) ≡ (7 ∷ []) ∷ []
unfolding pieces_so_far unended_piece
pieces-byte = refl

pieces-63 : pieces (replicate 63 7) ≡ replicate 63 7 ∷ []
unfolding pieces_so_far unended_piece
pieces-63 = refl

pieces-64 : pieces (replicate 64 7) ≡ replicate 64 7 ∷ []
unfolding pieces_so_far unended_piece
pieces-64 = refl

pieces-65 : pieces (replicate 64 7 ++ 8 ∷ []) ≡ replicate 64 7 ∷ (8 ∷ []) ∷ []
unfolding pieces_so_far unended_piece
pieces-65 = refl

-- and of three whole ones
pieces-192 : pieces (created_bytes 1 ++ value_bytes 2 ++ below_zero_bytes) ≡ created_bytes 1 ∷ value_bytes 2 ∷ below_zero_bytes ∷ []
unfolding pieces_so_far unended_piece
pieces-192 = refl

-- those that have ended, and the bytes after them
pieces_so_far-63 : pieces_so_far (replicate 63 7) ≡ []
unfolding pieces_so_far
pieces_so_far-63 = refl

pieces_so_far-64 : pieces_so_far (replicate 64 7) ≡ replicate 64 7 ∷ []
unfolding pieces_so_far
pieces_so_far-64 = refl

unended_piece-63 : unended_piece (replicate 63 7) ≡ replicate 63 7
unfolding unended_piece
unended_piece-63 = refl

unended_piece-64 : unended_piece (replicate 64 7) ≡ []
unfolding unended_piece
unended_piece-64 = refl

-- what a piece reader answers: that no piece has ended, or which one has
module _ (before after : List (List ℕ)) (s : PieceState) where
  TellsPiece-none : TellsPiece before after false s → after ≡ before
  TellsPiece-none tells = tells

  TellsPiece-one : TellsPiece before after true s → after ≡ before ++ s.bytes ∷ []
  TellsPiece-one tells = tells

-- it keeps the bytes after the last whole piece, and none of a piece that has ended
HasReadPieces-is : (input : List ℕ) (s : PieceState) → HasReadPieces input s → piece_under_way s ≡ unended_piece input
HasReadPieces-is input s has = has

piece_under_way-some : piece_under_way (record { bytes = 7 ∷ []; ended = false }) ≡ 7 ∷ []
piece_under_way-some = refl

piece_under_way-ended : piece_under_way (record { bytes = 7 ∷ []; ended = true }) ≡ []
piece_under_way-ended = refl
