-- What comes of an input of frames in which any bytes may be broken.
use Rattle.ss_program.proofs.Common.{◌≡◌, ◌∙◌, ◌++◌, ◌+◌, ℕ, List, [], ◌∷◌, Option, Some, None, true, false, refl, sym, ap, inl, inr, arith}
use Rattle.ss_program.proofs.Common.{append-nil, subst, length, All, All-cons, All-head, All-nil, All-tail, flat_map, flat_map-append, nat_le, nat_lt}
use Rattle.ss_program.proofs.Common.{Form, Lines, Sessions, Frames, Follow, Event, Create, Value, Open, Close, Drop, event_name}
use Rattle.ss_program.proofs.Common.{FrameState, IsValidFrame, frame_in}
use Rattle.ss_program.proofs.Common.{SpellsFrame-frame_in, pieces, Happened, added, IsHistory, state, Stream, after_offers, due_in, frame_of, Due, Next}
use Rattle.ss_program.proofs.Common.{reply_line, History, frame_brings, text_said, the_event, accepted, after_line, after_lines, text_of, Talk, begun, turn_in}
use Rattle.ss_program.proofs.Common.{Stands, StandsWithin, Recovers, stream_named, refuses, unless_refused, accepted_in, due_brings, Refusal}
use Rattle.ss_replica.proofs.FrontLemmas.{IsReplica, IsReplica-fronts, number-frame, of_front, replica-offers}
use Rattle.ss_replica.specs.Fronts.{AreFronts, IsFrameOf, IsOfFront, drops_none}
use Rattle.ss_replica.specs.Offers.{due_after}
use Rattle.ss_replica.specs.Own.{own}
use Rattle.ss_replica.specs.declared.judging.Due.TheVariants.{Old as OldFrame, Gap as GapBehind}
use Rattle.ss_store.specs.Recover.{recovers}
use Rattle.std.proofs.lemmas.Bool.{cases_Bool}
use Rattle.std.proofs.lemmas.Bool.Decides.{nat_tests}
use Rattle.ss_promises.specs.Followed.{AreSomeOf, FollowsPrimary, after_piece, frames_after, frames_of, piece_replies, piece_reply, the_frame}
use Rattle.ss_promises.proofs.ConversationLemmas.{talk-leaves}
use Rattle.ss_promises.proofs.FollowedLemmas.{due-said}

-- ---- what is said to pieces, and the history after them

-- of one piece, by the frame in it
found-said : (history : History) (found : Option FrameState) →
    (text_said None (frame_brings history found) ≡ reply_line (piece_reply history found))
    × (history ++ the_event (frame_brings history found).event ≡ after_piece history found)
found-said history None = (append-nil _, append-nil history)
found-said history (Some frame) = due-said history frame (due_in history frame)

piece-said : (form : Form) (talk : Talk) (piece : List ℕ) → form ≡ Follow →
    ((turn_in form talk piece).says ≡ reply_line (piece_reply talk.history (frame_in piece)))
    × (talk.history ++ the_event (turn_in form talk piece).event ≡ after_piece talk.history (frame_in piece))
piece-said Follow talk piece is = found-said talk.history (frame_in piece)
piece-said (Lines framed) talk piece is = absurd cc
piece-said (Sessions framed) talk piece is = absurd cc
piece-said Frames talk piece is = absurd cc

-- a broken piece is no frame that is offered
offers-found : (history : History) (found : Option FrameState) (frames : List FrameState) →
    after_offers (after_piece history found) frames ≡ after_offers history (the_frame found ++ frames)
offers-found history None frames = refl
offers-found history (Some frame) frames = refl

pub pieces-said : (talk : Talk) (history : History) (ps : List (List ℕ)) → talk.form ≡ Follow → talk.history ≡ history →
    (text_of talk ps ≡ flat_map reply_line (piece_replies history ps)) × ((after_lines talk ps).history ≡ after_offers history (frames_of ps))
pieces-said talk history [] is same = (refl, same)
pieces-said talk history (piece ∷ ps) is same =
    let found = frame_in piece in
    let first = piece-said talk.form talk piece is in
    let next = after_line talk piece in
    let rest = pieces-said next (after_piece history found) ps is (first.1 ∙ ap (λ h. after_piece h found) same) in (
      ap (λ says. says ++ text_of next ps) (first.0 ∙ ap (λ h. reply_line (piece_reply h found)) same)
          ∙ ap (λ text. reply_line (piece_reply history found) ++ text) rest.0,
      rest.1 ∙ offers-found history found (frames_of ps),
    )

-- ---- which events are added

-- the next frame of a stream has the number that the event's own frame would have
next-number : (events number : ℕ) → due_after events number ≡ Next → number ≡ events + 1
next-number events number is = elim (cases_Bool (nat_le number events)) [
  | inl old ↦ (let wrong : OldFrame ≡ Next = rw old at is in cc)
  | inr later ↦ elim (cases_Bool (nat_lt (events + 1) number)) [
    | inl gap ↦ (let wrong : GapBehind events ≡ Next = rw (later, gap) at is in cc)
    | inr next ↦ grind (arith, nat_tests)
  ]
]

valid-undropped : (number : ℕ) (event : Event) → IsValidFrame number event → drops_none event ≡ true
valid-undropped number (Create name params) valid = refl
valid-undropped number (Value name t v) valid = refl
valid-undropped number (Open name t) valid = refl
valid-undropped number (Close name t) valid = refl
valid-undropped number (Drop name) valid = absurd valid

abbrev with_number : Event → ℕ → FrameState
with_number event number = record { number = number; event = event }

-- the frame of the event of the next frame is this frame
own-frame : (history : History) (frame : FrameState) → IsValidFrame frame.number frame.event → due_in history frame ≡ Next →
    IsHistory (history ++ added frame.event ∷ []) → frame_of history frame.event ≡ frame
own-frame history frame valid next whole =
    let number = number-frame history frame.event (valid-undropped frame.number frame.event valid) whole in
    let due = next-number (length (own history (event_name frame.event))) frame.number next in
    ap (with_number frame.event) (number ∙ sym due)

-- a frame that is next adds its event, or is refused
next-some : (history : History) (frame : FrameState) (refusal : Option Refusal) (more : List Happened) (frames : List FrameState) →
    let event = (unless_refused refusal (accepted_in false history frame.event)).event in
    IsValidFrame frame.number frame.event → due_in history frame ≡ Next → IsHistory (history ++ the_event event) →
    AreSomeOf (frames_after (history ++ the_event event) more) frames → AreSomeOf (frames_after history (the_event event ++ more)) (frame ∷ frames)
next-some history frame None more frames valid next whole some =
    let rest = frames_after (history ++ added frame.event ∷ []) more in
    inr (rest, ap (λ f. f ∷ rest) (own-frame history frame valid next whole), some)
next-some history frame (Some refusal) more frames valid next whole some = inl (rw append-nil at some)

due-some : (history : History) (frame : FrameState) (due : Due) (more : List Happened) (frames : List FrameState) →
    let event = (due_brings history frame due).event in
    IsValidFrame frame.number frame.event → due_in history frame ≡ due → IsHistory (history ++ the_event event) →
    AreSomeOf (frames_after (history ++ the_event event) more) frames → AreSomeOf (frames_after history (the_event event ++ more)) (frame ∷ frames)
due-some history frame Next more frames valid is whole some =
    next-some history frame (refuses (state history) frame.event) more frames valid is whole some
due-some history frame OldFrame more frames valid is whole some = inl (rw append-nil at some)
due-some history frame (GapBehind events) more frames valid is whole some = inl (rw append-nil at some)

found-some : (history : History) (found : Option FrameState) (more : List Happened) (frames : List FrameState) →
    let event = (frame_brings history found).event in
    ((frame : FrameState) → found ≡ Some frame → IsValidFrame frame.number frame.event) → IsHistory (history ++ the_event event) →
    AreSomeOf (frames_after (history ++ the_event event) more) frames →
    AreSomeOf (frames_after history (the_event event ++ more)) (the_frame found ++ frames)
found-some history None more frames valid whole some = rw append-nil at some
found-some history (Some frame) more frames valid whole some =
    due-some history frame (due_in history frame) more frames (valid frame refl) refl whole some

piece-some : (form : Form) (talk : Talk) (piece : List ℕ) (more : List Happened) (frames : List FrameState) →
    let event = (turn_in form talk piece).event in
    form ≡ Follow → IsHistory (talk.history ++ the_event event) → AreSomeOf (frames_after (talk.history ++ the_event event) more) frames →
    AreSomeOf (frames_after talk.history (the_event event ++ more)) (the_frame (frame_in piece) ++ frames)
piece-some Follow talk piece more frames is whole some =
    found-some talk.history (frame_in piece) more frames (λ frame found. (SpellsFrame-frame_in piece frame found).valid) whole some
piece-some (Lines framed) talk piece more frames is whole some = absurd cc
piece-some (Sessions framed) talk piece more frames is whole some = absurd cc
piece-some Frames talk piece more frames is whole some = absurd cc

pub pieces-some : (talk : Talk) (ps : List (List ℕ)) → talk.form ≡ Follow → IsHistory talk.history →
    AreSomeOf (frames_after talk.history (accepted talk ps)) (frames_of ps)
pieces-some talk [] is whole = refl
pieces-some talk (piece ∷ ps) is whole =
    let next = after_line talk piece in
    let now = talk-leaves talk (piece ∷ []) whole in
    piece-some talk.form talk piece (accepted next ps) (frames_of ps) is now (pieces-some next ps is now)

-- ---- the frames of a primary, whatever stands between them

All-front : {X : Type 0} (P : X → Type 0) (xs ys : List X) → All P (xs ++ ys) → All P xs
All-front P [] ys all = All-nil P
All-front P (x ∷ xs) ys all = All-cons P x xs (All-head P x (xs ++ ys) all) (All-front P xs ys (All-tail P x (xs ++ ys) all))

-- after some first pieces
pub first-replica : (primary history : History) (input : List ℕ) (done others : List (List ℕ)) → FollowsPrimary primary history input →
    pieces input ≡ done ++ others → IsHistory history → IsReplica primary (after_lines (begun Follow history) done).history
first-replica primary history input done others follows are whole =
    let within = λ (ps : List (List ℕ)). All (IsFrameOf primary) (frames_of ps) in
    let both : All (IsFrameOf primary) (frames_of done ++ frames_of others) =
    subst (All (IsFrameOf primary)) (flat_map-append (λ piece. the_frame (frame_in piece)) done others) (subst within are follows.frames) in
    subst (IsReplica primary) (sym (pieces-said (begun Follow history) history done refl refl).1)
    (replica-offers primary history (frames_of done) follows.is_primary (All-front (IsFrameOf primary) (frames_of done) (frames_of others) both)
    (IsReplica-fronts primary history whole follows.fronts))

-- what an image stands for that a crash left
pub image-replica : (primary history : History) (input image : List ℕ) → FollowsPrimary primary history input → IsHistory history →
    StandsWithin (begun Follow history) (pieces input) image → (then : History) × Stands then image × IsReplica primary then
image-replica primary history input image follows whole within = (
  (after_lines (begun Follow history) within.0).history,
  within.3.0,
  first-replica primary history input within.0 within.1 follows within.2 whole,
)

pub replica-fronts : (primary history : History) → IsReplica primary history → AreFronts history primary
replica-fronts primary history replica name known = replica.fronts name

-- and the streams that it has
same-streams : (image : List ℕ) (streams others : List Stream) → Recovers streams image → Recovers others image → streams ≡ others
same-streams image streams others is also = let same : recovers streams ≡ recovers others = sym is ∙ also in cc

pub image-streams : (primary history : History) (input image : List ℕ) → FollowsPrimary primary history input → IsHistory history →
    StandsWithin (begun Follow history) (pieces input) image → (streams : List Stream) → Recovers streams image → (name : List ℕ) (s : Stream) →
    stream_named name streams ≡ Some s → IsOfFront primary name s
image-streams primary history input image follows whole within streams is name s found =
    let at = image-replica primary history input image follows whole within in
    of_front primary at.0 name s follows.is_primary at.2
    (ap (stream_named name) (same-streams image (state at.0) streams at.1.state is) ∙ found)
