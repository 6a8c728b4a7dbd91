-- No frame of an event but a Drop is empty, however long its name is.
use Rattle.ss_program.proofs.Common.{◌≡◌, ℕ, ◌+◌, ◌<◌, ◌++◌, List, length, take, drop, cast_unsigned, w64, arith, refl, length-append, Event, Create, Value}
use Rattle.ss_program.proofs.Common.{Open, Close, Drop, FrameState}
use Rattle.ss_codec.specs.Fields.{Field, i64, u32, u64, with_field}
use Rattle.ss_codec.specs.Record.{parameters}
use Rattle.ss_fields.proofs.FieldLemmas.{length-number_bytes}
use Rattle.ss_frames.specs.Frame.{frame_spelled}

-- bytes with a field written over them
field-some : (bytes : List ℕ) (field : Field) → 0 < length field.bytes → 0 < length (with_field bytes field)
unfolding with_field
field-some bytes field some =
    let front = take field.place bytes in
    let back = drop (field.place + field.size) bytes in
    let whole : length (with_field bytes field) ≡ length (front ++ field.bytes) + length back = length-append (front ++ field.bytes) back in
    omega (arith, some, whole, length-append front field.bytes)

-- the last field of such a frame is a number
spelled-some : (number : ℕ) (event : Event) → ((name : List ℕ) → event ≡ Drop name → ⊥) →
    0 < length (frame_spelled (record { number = number; event = event }))
unfolding frame_spelled
spelled-some number (Create name params) other =
    field-some _ (u32 60 (parameters params.family).3) (omega (arith, length-number_bytes 4 (parameters params.family).3))
spelled-some number (Value name t v) other = field-some _ (i64 56 v) (omega (arith, length-number_bytes 8 (cast_unsigned w64 v)))
spelled-some number (Open name t) other = field-some _ (u64 48 t) (omega (arith, length-number_bytes 8 t))
spelled-some number (Close name t) other = field-some _ (u64 48 t) (omega (arith, length-number_bytes 8 t))
spelled-some number (Drop name) other = absurd (other name refl)

pub some-frame_spelled : (f : FrameState) → ((name : List ℕ) → f.event ≡ Drop name → ⊥) → 0 < length (frame_spelled f)
some-frame_spelled f other = spelled-some f.number f.event other
