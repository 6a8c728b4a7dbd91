-- Worked rows of inputs of frames in which pieces are broken or cut, computed.
use Rattle.ss_program.proofs.Common.{◌≡◌, ◌++◌, ℕ, List, [], ◌∷◌, None, refl, inl, inr, flat_map, replicate, pos, codes, exp, Follow, Create, Value, Happened}
use Rattle.ss_program.proofs.Common.{added, FrameState, accepted, report, begun, steps, All, All-cons, All-head, All-nil, subst, sym, arith, length}
use Rattle.ss_promises.proofs.PrimaryRows.{primary-readings}
use Rattle.ss_replica.specs.Fronts.{IsFrameOf}
use Rattle.ss_replica.specs.Own.{own}
use Rattle.ss_summary.specs.Points.{New, Origin}
use Rattle.std.specs.Fmt.{digits}
use Rattle.ss_catalog.specs.Names as Names
use Rattle.ss_codec.specs.Decoded.{params_in}
use Rattle.ss_codec.specs.Fields as Fields
use Rattle.ss_fields.specs.Fields as Numbers
use Rattle.ss_frames.specs.Frame.{event_in, frame_in, frame_spelled, is_valid_frame}
use Rattle.ss_frames.specs.Pieces.{pieces_so_far, unended_piece}
use Rattle.ss_model.specs.Refusals.{refuses}
use Rattle.ss_model.specs.State.{state}
use Rattle.ss_targets.specs.Windowing.{window_index}
use Rattle.ss_promises.specs.Followed.{AreSomeOf, FollowsPrimary, frames_within, piece_reply}
use Rattle.ss_report.specs.declared.reply.Reply.TheVariants.{Refused}
use Rattle.ss_catalog.specs.declared.refusal.Refusal.TheVariants.{Frame}

-- lines, each with its line end
abbrev text : List (List ℕ) → List ℕ
text ls = flat_map (λ line. line ++ 10 ∷ []) ls

-- the frame of a create of the stream `a`, and that of its first value
abbrev first : FrameState
first = record { number = 1; event = Create (codes "a") (exp 2 1 1) }

abbrev second : FrameState
second = record { number = 2; event = Value (codes "a") 10 (pos 5) }

abbrev created : Happened
created = added (Create (codes "a") (exp 2 1 1))

-- a broken piece is refused, and isn't passed for an old one, and adds nothing
broken-reply : piece_reply [] None ≡ Refused Frame
broken-reply = refl

broken-piece : report (begun Follow []) (replicate 64 0) ≡ text (codes "refused FRAME" ∷ [])
unfolding pieces_so_far unended_piece frame_in event_in params_in frame_spelled is_valid_frame Names.is_name Fields.with_field
    Numbers.number_at Numbers.number_bytes state refuses window_index digits
broken-piece = refl

broken-adds : accepted (begun Follow []) (steps Follow (replicate 64 0)) ≡ []
unfolding pieces_so_far unended_piece frame_in event_in params_in frame_spelled is_valid_frame Names.is_name Fields.with_field
    Numbers.number_at Numbers.number_bytes state refuses window_index
broken-adds = refl

-- and so is what is cut at the end, be it one byte or all but one of a valid frame
cut-byte : report (begun Follow []) (1 ∷ []) ≡ text (codes "refused FRAME" ∷ [])
unfolding pieces_so_far unended_piece frame_in event_in params_in frame_spelled is_valid_frame Names.is_name Fields.with_field
    Numbers.number_at Numbers.number_bytes state refuses window_index digits
cut-byte = refl

-- nothing has no reply
empty : report (begun Follow []) [] ≡ []
unfolding pieces_so_far unended_piece
empty = refl

-- Valid frames between broken pieces and before a cut end: these are done, and the same one again is old.
abbrev mixed : List ℕ
mixed = replicate 64 7 ++ (frame_spelled first ++ (replicate 64 0 ++ (frame_spelled first ++ (frame_spelled second ++ codes "cut"))))

mixed-frames : frames_within mixed ≡ first ∷ first ∷ second ∷ []
unfolding pieces_so_far unended_piece frame_in event_in params_in frame_spelled is_valid_frame Names.is_name Fields.with_field
    Numbers.number_at Numbers.number_bytes
mixed-frames = refl

mixed-report : report (begun Follow []) mixed
    ≡ text (codes "refused FRAME" ∷ codes "ok 0 0" ∷ codes "refused FRAME" ∷ codes "old" ∷ codes "ok 1 1" ∷ codes "refused FRAME" ∷ [])
unfolding pieces_so_far unended_piece frame_in event_in params_in frame_spelled is_valid_frame Names.is_name Fields.with_field
    Numbers.number_at Numbers.number_bytes state refuses window_index digits
mixed-report = refl

mixed-adds : accepted (begun Follow []) (steps Follow mixed) ≡ created ∷ added (Value (codes "a") 10 (pos 5)) ∷ []
unfolding pieces_so_far unended_piece frame_in event_in params_in frame_spelled is_valid_frame Names.is_name Fields.with_field
    Numbers.number_at Numbers.number_bytes state refuses window_index
mixed-adds = refl

-- some of a list are so in its order, and only as often as they stand in it
abbrev AreSome : List ℕ → List ℕ → Type 0
AreSome some all = AreSomeOf some all

some-first : AreSome (1 ∷ 3 ∷ []) (1 ∷ 2 ∷ 3 ∷ [])
some-first = inr (3 ∷ [], refl, inl (inr ([], refl, refl)))

some-none : AreSome [] (1 ∷ [])
some-none = inl refl

some-order : AreSome (2 ∷ 1 ∷ []) (1 ∷ 2 ∷ []) → ⊥
some-order (inl (inl wrong)) = cc
some-order (inl (inr (rest, is, wrong))) = cc
some-order (inr (rest, is, behind)) = cc

some-twice : AreSome (1 ∷ 1 ∷ []) (1 ∷ []) → ⊥
some-twice (inl wrong) = cc
some-twice (inr (rest, is, wrong)) = cc

-- the primary of these two events is followed by the mixed input from nothing on, and not by one with its value at the number 3
abbrev ten : Happened
ten = added (Value (codes "a") 10 (pos 5))

first-of : IsFrameOf (created ∷ ten ∷ []) first
first-of = record { before = []; origin = New; after = ten ∷ []; is = refl; number = refl }

second-of : IsFrameOf (created ∷ ten ∷ []) second
second-of = record { before = created ∷ []; origin = New; after = []; is = refl; number = refl }

all-of : All (IsFrameOf (created ∷ ten ∷ [])) (first ∷ first ∷ second ∷ [])
all-of =
    let P = IsFrameOf (created ∷ ten ∷ []) in
    All-cons P first (first ∷ second ∷ []) first-of (All-cons P first (second ∷ []) first-of (All-cons P second [] second-of (All-nil P)))

follows-mixed : FollowsPrimary (created ∷ ten ∷ []) [] mixed
follows-mixed = record {
  is_primary = primary-readings;
  fronts = λ name known. (own (created ∷ ten ∷ []) name, refl);
  frames = subst (All (IsFrameOf (created ∷ ten ∷ []))) (sym mixed-frames) all-of;
}

abbrev third : FrameState
third = record { number = 3; event = Value (codes "a") 10 (pos 5) }

third-frames : frames_within (frame_spelled third) ≡ third ∷ []
unfolding pieces_so_far unended_piece frame_in event_in params_in frame_spelled is_valid_frame Names.is_name Fields.with_field
    Numbers.number_at Numbers.number_bytes
third-frames = refl

third-none : (before : List Happened) (origin : Origin) (after : List Happened) →
    created ∷ ten ∷ [] ≡ before ++ (Value (codes "a") 10 (pos 5), origin) ∷ after →
    3 ≡ length (own (before ++ (Value (codes "a") 10 (pos 5), origin) ∷ []) (codes "a")) → ⊥
third-none [] origin after is number = cc
third-none (e ∷ []) origin after is number =
    let one : e ≡ created = cc in
    let three : 3 ≡ 2 = rw one at number in
    omega (arith, three)
third-none (e ∷ f ∷ []) origin after is number = cc
third-none (e ∷ f ∷ g ∷ before) origin after is number = cc

follows-third : FollowsPrimary (created ∷ ten ∷ []) [] (frame_spelled third) → ⊥
follows-third follows =
    let of = All-head (IsFrameOf (created ∷ ten ∷ [])) third [] (subst (All (IsFrameOf (created ∷ ten ∷ []))) third-frames follows.frames) in
    third-none of.before of.origin of.after of.is of.number
