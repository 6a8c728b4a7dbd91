-- The frames of events that are added to a history one after another, what is replied to frames that are offered, and what comes of an input
-- of frames in which any bytes may be broken.
use Rattle.std.specs.Prelude.{◌≡◌, ◌⊎◌, ℕ, All, List, [], ◌∷◌, ◌++◌, flat_map, Option, Some, None, Result, Ok, Err}
use Rattle.ss_catalog.specs.declared.refusal.Refusal.{Refusal}
use Rattle.ss_catalog.specs.declared.refusal.Refusal.TheVariants.{Frame}
use Rattle.ss_frames.specs.Frame.{FrameState, frame_in}
use Rattle.ss_frames.specs.Pieces.{pieces}
use Rattle.ss_model.specs.History.{Happened}
use Rattle.ss_replica.specs.Fronts.{AreFronts, IsFrameOf, IsPrimary}
use Rattle.ss_replica.specs.Own.{frame_of}
use Rattle.ss_replica.specs.Offers.{Offered, after_offer}
use Rattle.ss_replica.specs.Offers as offered
use Rattle.ss_report.specs.declared.reply.Reply.{Reply}
use Rattle.ss_report.specs.declared.reply.Reply.TheVariants.{Done, Refused, Old, Gap}
use Rattle.ss_program.specs.Line.{History}

-- the frames of some events that are added to a history, in their order
abbrev pub frames_after : History → List Happened → List FrameState
frames_after history [] = []
frames_after history (e ∷ es) = frame_of history e.0 ∷ frames_after (history ++ e ∷ []) es

-- the reply to a frame that was offered
abbrev pub offer_reply : Result Offered Refusal → Reply
offer_reply (Ok (offered.Done ack)) = Done ack
offer_reply (Ok offered.Old) = Old
offer_reply (Ok (offered.Gap events)) = Gap events
offer_reply (Err refusal) = Refused refusal

-- the frame of a piece by itself, where it is that of a valid one
abbrev pub the_frame : Option FrameState → List FrameState
the_frame None = []
the_frame (Some frame) = frame ∷ []

-- the valid frames of some pieces, in their order
abbrev pub frames_of : List (List ℕ) → List FrameState
frames_of ps = flat_map (λ piece. the_frame (frame_in piece)) ps

-- and of an input, in which any piece may be broken, and the last one cut
abbrev pub frames_within : List ℕ → List FrameState
frames_within input = frames_of (pieces input)

-- the reply to a piece, by the frame in it: one that is broken or cut is refused
abbrev pub piece_reply : History → Option FrameState → Reply
piece_reply history None = Refused Frame
piece_reply history (Some frame) = offer_reply (offered.offered history frame).reply

-- and the history after it, which such a piece leaves
abbrev pub after_piece : History → Option FrameState → History
after_piece history None = history
after_piece history (Some frame) = after_offer history frame

-- the replies to some pieces, one to each
abbrev pub piece_replies : History → List (List ℕ) → List Reply
piece_replies history [] = []
piece_replies history (piece ∷ ps) = piece_reply history (frame_in piece) ∷ piece_replies (after_piece history (frame_in piece)) ps

-- some of a list, in their order
abbrev pub AreSomeOf : {X : Type 0} → List X → List X → Type 0
AreSomeOf some [] = some ≡ []
AreSomeOf {X} some (x ∷ all) = AreSomeOf some all ⊎ ((rest : List X) × (some ≡ x ∷ rest) × AreSomeOf rest all)

-- A store of this history is given an input in which each valid frame is that of an event of its primary, whatever else stands between
-- them; and its streams own fronts of what those of the primary own.
pub record FollowsPrimary (primary history : History) (input : List ℕ) : Type 0 where
  pub is_primary : IsPrimary primary
  pub fronts : AreFronts history primary
  pub frames : All (IsFrameOf primary) (frames_within input)
