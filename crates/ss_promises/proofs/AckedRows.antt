-- Worked rows of events that are acknowledged by their `ok`, whatever is said behind it, computed.
use Rattle.ss_program.proofs.Common.{◌≡◌, ◌⊎◌, ◌≤◌, ◌++◌, ℕ, List, [], ◌∷◌, take, zero, suc, arith, inl, inr, lit≤, refl, ap, map, true, false, Some, codes}
use Rattle.ss_program.proofs.Common.{flat_map, pos, append-nil, Lines, Sessions, Frames, Follow, Each, Create, Value, exp, Happened, added, Stands, acks}
use Rattle.ss_program.proofs.Common.{begun, sym, ◌∙◌, length, length-append, take-append-le, take_all, Shared}
use Rattle.hex.specs.Hex.{encode_with}
use Rattle.std.specs.Fmt.{digits}
use Rattle.ss_catalog.specs.Names.{is_name}
use Rattle.ss_codec.specs.Fields as Fields
use Rattle.ss_command.specs.Grammar.{meaning}
use Rattle.ss_command.specs.Lines.{ended_lines, unended}
use Rattle.ss_command.specs.Words.{words}
use Rattle.ss_fields.specs.Fields as Numbers
use Rattle.ss_fields.specs.Words.{is_number, number_of, number_up_to, signed_of}
use Rattle.ss_frames.specs.Frame.{frame_spelled}
use Rattle.ss_model.specs.Refusals.{refuses}
use Rattle.ss_model.specs.State.{state}
use Rattle.ss_targets.specs.Windowing.{window_index}
use Rattle.ss_program.specs.declared.status.Status.TheVariants.{Done, OutOfMemory, SinkFault}
use Rattle.ss_promises.specs.Acked.{HoldsOks, first_line, ok_of, oks}

-- lines, each with its line end
abbrev text : List (List ℕ) → List ℕ
text ls = flat_map (λ line. line ++ 10 ∷ []) ls

-- the first line ends with its line end, and where there is none with the text
first_line-two : first_line (text (codes "ok 0 0" ∷ codes "frame" ∷ [])) ≡ codes "ok 0 0" ++ 10 ∷ []
first_line-two = refl

first_line-one : first_line (codes "ok 0 0" ++ 10 ∷ []) ≡ codes "ok 0 0" ++ 10 ∷ []
first_line-one = refl

first_line-cut : first_line (codes "ok") ≡ codes "ok"
first_line-cut = refl

first_line-empty : first_line (10 ∷ codes "ok") ≡ 10 ∷ []
first_line-empty = refl

first_line-none : first_line [] ≡ []
first_line-none = refl

-- the `ok` of what is said, and the whole frame where frames are written, whatever its bytes are
ok_of-forms :
    map (λ form. ok_of form (1 ∷ 10 ∷ 2 ∷ [])) (Lines false ∷ Lines true ∷ Sessions false ∷ Sessions true ∷ Frames ∷ Follow ∷ [])
    ≡ (1 ∷ 10 ∷ []) ∷ (1 ∷ 10 ∷ []) ∷ (1 ∷ 10 ∷ []) ∷ (1 ∷ 10 ∷ []) ∷ (1 ∷ 10 ∷ 2 ∷ []) ∷ (1 ∷ 10 ∷ []) ∷ []
ok_of-forms = refl

-- a stream and its first value
abbrev pub created : Happened
created = added (Create (codes "a") (exp 2 1 1))

abbrev pub ten : Happened
ten = added (Value (codes "a") 10 (pos 5))

abbrev lines_of : List (List ℕ)
lines_of = codes "create a exp 2 1 1" ∷ codes "append a 10 5" ∷ []

-- To each its `ok` is said, of 7 bytes, and its frame behind it, of 135. An `ok` counts with its line end, and all that is said only with
-- the frame.
oks-framed : map (λ bytes. oks (begun (Lines true) []) lines_of bytes) (0 ∷ 6 ∷ 7 ∷ 141 ∷ 142 ∷ 148 ∷ 149 ∷ 284 ∷ [])
    ≡ 0 ∷ 0 ∷ 1 ∷ 1 ∷ 1 ∷ 1 ∷ 2 ∷ 2 ∷ []
unfolding meaning words is_number number_of number_up_to signed_of is_name state refuses window_index digits encode_with frame_spelled
    Fields.with_field Numbers.number_bytes
oks-framed = refl

acks-framed : map (λ bytes. acks (begun (Lines true) []) lines_of bytes) (0 ∷ 6 ∷ 7 ∷ 141 ∷ 142 ∷ 148 ∷ 149 ∷ 284 ∷ [])
    ≡ 0 ∷ 0 ∷ 0 ∷ 0 ∷ 1 ∷ 1 ∷ 1 ∷ 2 ∷ []
unfolding meaning words is_number number_of number_up_to signed_of is_name state refuses window_index digits encode_with frame_spelled
    Fields.with_field Numbers.number_bytes
acks-framed = refl

-- plain lines have one reply, and a frame that is written counts whole
oks-plain : map (λ bytes. oks (begun (Lines false) []) lines_of bytes) (6 ∷ 7 ∷ 13 ∷ 14 ∷ []) ≡ 0 ∷ 1 ∷ 1 ∷ 2 ∷ []
unfolding meaning words is_number number_of number_up_to signed_of is_name state refuses window_index digits
oks-plain = refl

oks-frames : map (λ bytes. oks (begun Frames []) lines_of bytes) (63 ∷ 64 ∷ 127 ∷ 128 ∷ []) ≡ 0 ∷ 1 ∷ 1 ∷ 2 ∷ []
unfolding meaning words is_number number_of number_up_to signed_of is_name state refuses window_index frame_spelled Fields.with_field Numbers.number_bytes
oks-frames = refl

-- the same of lines of sessions, whose `ok` has its session before it
oks-sessions : map (λ bytes. oks (begun (Sessions true) []) (codes "@3 create a exp 2 1 1" ∷ []) bytes) (9 ∷ 10 ∷ []) ≡ 0 ∷ 1 ∷ []
unfolding meaning words is_number number_of number_up_to signed_of is_name state refuses window_index digits encode_with frame_spelled
    Fields.with_field Numbers.number_bytes
oks-sessions = refl

-- some first of two, from one on
pub one-or_two : (j : ℕ) → 1 ≤ j → j ≤ 2 → (take j (created ∷ ten ∷ []) ≡ created ∷ []) ⊎ (take j (created ∷ ten ∷ []) ≡ created ∷ ten ∷ [])
one-or_two zero some few = absurd (omega (arith, some))
one-or_two (suc zero) some few = inl refl
one-or_two (suc (suc zero)) some few = inr refl
one-or_two (suc (suc (suc j))) some few = absurd (omega (arith, few))

none-or_one : (j : ℕ) → j ≤ 1 → (take j (created ∷ ten ∷ []) ≡ []) ⊎ (take j (created ∷ ten ∷ []) ≡ created ∷ [])
none-or_one zero few = inl refl
none-or_one (suc zero) few = inr refl
none-or_one (suc (suc j)) few = absurd (omega (arith, few))

-- what was read before the second line is the first
pub read-first : (read others : List ℕ) → read ++ others ≡ text lines_of → Some (codes "append a 10 5" ++ 10 ∷ []) ≡ Some others →
    (read ≡ codes "create a exp 2 1 1" ++ 10 ∷ []) × (others ≡ codes "append a 10 5" ++ 10 ∷ [])
read-first read others is rest =
    let same : others ≡ codes "append a 10 5" ++ 10 ∷ [] = cc in
    let few : length others ≡ 14 = ap (λ (bs : List ℕ). length bs) same in
    let all : length (read ++ others) ≡ 33 = ap (λ (bs : List ℕ). length bs) is in
    let size : length read ≡ 19 = omega (arith, few, all, length-append read others) in
    let front : take 19 (read ++ others) ≡ read = take-append-le 19 read others (omega (arith, size)) ∙ take_all 19 read (omega (arith, size)) in
    (sym front ∙ ap (λ bs. take 19 bs) is, same)

-- a framed run of these lines whose sink failed after 7 bytes, in the frame of the first: the image holds the first event
held-first : (image : List ℕ) → HoldsOks Each (begun (Lines true) []) (text lines_of) (Some []) 7 SinkFault image →
    Stands (created ∷ []) image ⊎ Stands (created ∷ ten ∷ []) image
unfolding ended_lines unended meaning words is_number number_of number_up_to signed_of is_name state refuses window_index digits encode_with
    frame_spelled Fields.with_field Numbers.number_bytes
held-first image holds =
    let some : 1 ≤ holds.j = holds.acked in
    let few : holds.j ≤ 2 = holds.few in
    elim (one-or_two holds.j some few) [
      | inl one ↦ inl (rw one at holds.stands.0)
      | inr both ↦ inr (rw both at holds.stands.0)
    ]

-- and an image with the first event alone does
first-held : (image : List ℕ) → Stands (created ∷ []) image → HoldsOks Each (begun (Lines true) []) (text lines_of) (Some []) 7 SinkFault image
unfolding ended_lines unended meaning words is_number number_of number_up_to signed_of is_name state refuses window_index digits encode_with
    frame_spelled Fields.with_field Numbers.number_bytes
first-held image stands = record {
  j = 1;
  stands = (stands, tt);
  few = lit≤ tt;
  acked = lit≤ tt;
  at_most = λ each. lit≤ tt;
  all = λ done. cc;
  starved = λ starved. cc;
  read = text lines_of;
  others = [];
  are = append-nil (text lines_of);
  rest = refl;
  within = lit≤ tt;
}

-- done, it holds both, and where memory ran out the first alone
held-done : (image : List ℕ) → HoldsOks Each (begun (Lines true) []) (text lines_of) (Some []) 7 Done image → Stands (created ∷ ten ∷ []) image
unfolding ended_lines unended meaning words is_number number_of number_up_to signed_of is_name state refuses window_index digits encode_with
    frame_spelled Fields.with_field Numbers.number_bytes
held-done image holds =
    let all : holds.j ≡ 2 = holds.all refl in
    rw (ap (λ j. take j (created ∷ ten ∷ [])) all) at holds.stands.0

held-starved : (image : List ℕ) → HoldsOks Each (begun (Lines true) []) (text lines_of) (Some []) 7 OutOfMemory image → Stands (created ∷ []) image
unfolding ended_lines unended meaning words is_number number_of number_up_to signed_of is_name state refuses window_index digits encode_with
    frame_spelled Fields.with_field Numbers.number_bytes
held-starved image holds =
    let one : holds.j ≡ 1 = holds.starved refl in
    rw (ap (λ j. take j (created ∷ ten ∷ [])) one) at holds.stands.0

-- before the first `ok` is whole it may hold none, or the first, where each event is sealed by itself
held-none : (image : List ℕ) → HoldsOks Each (begun (Lines true) []) (text lines_of) (Some []) 6 SinkFault image →
    Stands [] image ⊎ Stands (created ∷ []) image
unfolding ended_lines unended meaning words is_number number_of number_up_to signed_of is_name state refuses window_index digits encode_with
    frame_spelled Fields.with_field Numbers.number_bytes
held-none image holds =
    let most : holds.j ≤ 1 = holds.at_most refl in
    elim (none-or_one holds.j most) [
      | inl none ↦ inl (rw none at holds.stands.0)
      | inr one ↦ inr (rw one at holds.stands.0)
    ]

-- in a batch that read the first line alone none but the first
held-read : (image : List ℕ) → HoldsOks Shared (begun (Lines true) []) (text lines_of) (Some (codes "append a 10 5" ++ 10 ∷ [])) 7 SinkFault image →
    Stands (created ∷ []) image
unfolding ended_lines unended meaning words is_number number_of number_up_to signed_of is_name state refuses window_index digits encode_with
    frame_spelled Fields.with_field Numbers.number_bytes
held-read image holds =
    let some : 1 ≤ holds.j = holds.acked in
    let one = read-first holds.read holds.others holds.are holds.rest in
    let few : holds.j ≤ 1 = rw (one.0, one.1) at holds.within in
    let is_one : holds.j ≡ 1 = omega (arith, some, few) in
    rw (ap (λ j. take j (created ∷ ten ∷ [])) is_one) at holds.stands.0
