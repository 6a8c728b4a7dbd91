-- The digits of a frame are a text.
use Rattle.std.proofs.Common.{◌≡◌, ℕ, Bool, true, ◌&&◌, List, [], ◌∷◌, refl}
use Rattle.std.specs.Prelude.{nat_lt}
use Rattle.std.specs.Str.{IsAscii, IsUtf8}
use Rattle.std.proofs.lemmas.Bool.{and_parts, ltb-true}
use Rattle.std.proofs.lemmas.Str.{IsUtf8-from_ascii}
use Rattle.std.proofs.lemmas.Str.Ascii.{IsAscii-nil, IsAscii-cons}
use Rattle.hex.specs.Hex.{lower_digits}
use Rattle.hex.proofs.HexLemmas.{IsAscii-encode_with}
use Rattle.ss_frames.specs.Frame.{FrameState, frame_spelled}
use Rattle.ss_report.specs.Text.{frame_word}

-- whether each byte of a text is ASCII
abbrev are_ascii : List ℕ → Bool
are_ascii [] = true
are_ascii (byte ∷ bytes) = nat_lt byte 128 && are_ascii bytes

IsAscii-tested : (bytes : List ℕ) → are_ascii bytes ≡ true → IsAscii bytes
IsAscii-tested [] tested = IsAscii-nil
IsAscii-tested (byte ∷ bytes) tested =
    let parts = and_parts (nat_lt byte 128) (are_ascii bytes) tested in
    IsAscii-cons byte bytes (ltb-true byte 128 parts.0) (IsAscii-tested bytes parts.1)

pub IsUtf8-frame_word : (frame : FrameState) → IsUtf8 (frame_word frame)
IsUtf8-frame_word frame =
    IsUtf8-from_ascii _ (IsAscii-encode_with lower_digits (frame_spelled frame) (IsAscii-tested lower_digits refl))
