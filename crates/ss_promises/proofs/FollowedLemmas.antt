-- What is written where frames are written, and what comes of it where it is followed.
use Rattle.ss_program.proofs.Common.{◌≡◌, ◌∙◌, ◌++◌, ◌<◌, ◌^◌, ℕ, List, [], ◌∷◌, Option, Some, None, Result, Ok, Bool, true, false, map, refl, sym, ap}
use Rattle.ss_program.proofs.Common.{common_steps, append_assoc, arith, All, flat_map, if◌then◌else◌, IfSome, flat_map-append, append-nil, All-cons}
use Rattle.ss_program.proofs.Common.{All-head, All-nil, All-tail, Form, Lines, Sessions, Frames, Follow, event_name, is_name, step_number, Event, Create, Value}
use Rattle.ss_program.proofs.Common.{Open, Close, Drop, Refusal, meant-sayable, meaning, IsSayable, IsStepOfNumber, Command, Do, IsValidFrame-test}
use Rattle.ss_program.proofs.Common.{frame_in-spelling, pieces-frames, FrameState, IsValidFrame, frame_in, frame_spelled, is_valid_frame, pieces, Happened}
use Rattle.ss_program.proofs.Common.{added, GoesOn-push, IsHistory, refuses, state, added_event, after_offer, after_offers, due_in, next_offered, offered}
use Rattle.ss_program.proofs.Common.{offered_as, offers, event_frame, frame_of, step_of_event, Due, Next, reply_line, History, accepted_frame, accepted_in}
use Rattle.ss_program.proofs.Common.{due_brings, frame_brings, text_said, the_event, unless_refused, accepted, after_line, after_lines, text_of, Talk, begun}
use Rattle.ss_program.proofs.Common.{meant_turn, turn_in, turn_of, writing, inl, inr}
use Rattle.ss_replica.proofs.FramingLemmas.{checked-last}
use Rattle.ss_replica.proofs.FrontLemmas.{due-frame}
use Rattle.ss_replica.specs.Fronts.{drops_none}
use Rattle.ss_replica.specs.Offers.{Outcome}
use Rattle.ss_replica.specs.declared.judging.Due.TheVariants.{Old as OldFrame, Gap as GapBehind}
use Rattle.ss_promises.specs.Followed.{frames_after, offer_reply}
use Rattle.ss_promises.proofs.ConversationLemmas.{talk-leaves}
use Rattle.ss_promises.proofs.OwnedLemmas.{own-few}
use Rattle.ss_program.proofs.ReportLemmas.{after_lines-accepted}
use Rattle.ss_program.proofs.MeantLemmas.{event-or-silent}

-- the frames of more events
frames_after-append : (history : History) (es fs : List Happened) →
    frames_after history (es ++ fs) ≡ frames_after history es ++ frames_after (history ++ es) fs
frames_after-append history [] fs = ap (λ h. frames_after h fs) (sym (append-nil history))
frames_after-append history (e ∷ es) fs =
    ap (λ more. frame_of history e.0 ∷ more)
    (frames_after-append (history ++ e ∷ []) es fs
    ∙ ap (λ h. frames_after (history ++ e ∷ []) es ++ frames_after h fs) (append_assoc history (e ∷ []) es))

-- ---- what is written to one line

-- the frame of the event that it brings, or nothing
abbrev IsWritten : Talk → List ℕ → Option Event → Type 0
IsWritten talk says event =
    (says ≡ flat_map frame_spelled (frames_after talk.history (the_event event))) × IfSome event (λ (e : Event). drops_none e ≡ true)

writing-frames : (talk : Talk) (event : Event) (refusal : Option Refusal) →
    IsWritten talk (writing talk event (accepted_frame refusal talk.history event)).says
    (writing talk event (accepted_frame refusal talk.history event)).event
writing-frames talk event (Some refusal) = (refl, tt)
writing-frames talk (Create name params) None = (sym (append-nil _), refl)
writing-frames talk (Value name t v) None = (sym (append-nil _), refl)
writing-frames talk (Open name t) None = (sym (append-nil _), refl)
writing-frames talk (Close name t) None = (sym (append-nil _), refl)
writing-frames talk (Drop name) None = (refl, tt)

meant-frames : (talk : Talk) (meant : Result (Option Command) Refusal) →
    IsWritten talk (meant_turn talk meant).says (meant_turn talk meant).event
meant-frames talk meant = elim (event-or-silent meant) [
  | inl is ↦ rw is.1 (writing-frames talk is.0 (refuses (state talk.history) is.0))
  | inr none ↦ rw none (refl, tt)
]

turn-frames : (form : Form) (talk : Talk) (line : List ℕ) → form ≡ Frames → IsWritten talk (turn_in form talk line).says (turn_in form talk line).event
turn-frames Frames talk line is = meant-frames talk (meaning line)
turn-frames (Lines framed) talk line is = absurd cc
turn-frames (Sessions framed) talk line is = absurd cc
turn-frames Follow talk line is = absurd cc

-- ---- and to some lines

pub text_of-frames : (talk : Talk) (ls : List (List ℕ)) → talk.form ≡ Frames →
    text_of talk ls ≡ flat_map frame_spelled (frames_after talk.history (accepted talk ls))
text_of-frames talk [] is = refl
text_of-frames talk (line ∷ ls) is =
    let turn = turn_of talk line in
    let es = the_event turn.event in
    let more = accepted (after_line talk line) ls in
    let frames = frames_after talk.history es in
    let rest = frames_after (talk.history ++ es) more in
    ap (λ says. says ++ text_of (after_line talk line) ls) (turn-frames talk.form talk line is).0
    ∙ ap (λ text. flat_map frame_spelled frames ++ text) (text_of-frames (after_line talk line) ls is)
    ∙ sym (flat_map-append frame_spelled frames rest)
    ∙ ap (flat_map frame_spelled) (sym (frames_after-append talk.history es more))

undropped-push : (event : Option Event) (more : List Happened) → IfSome event (λ (e : Event). drops_none e ≡ true) →
    All (λ (e : Happened). drops_none e.0 ≡ true) more → All (λ (e : Happened). drops_none e.0 ≡ true) (the_event event ++ more)
undropped-push None more none all = all
undropped-push (Some event) more none all = All-cons (λ (e : Happened). drops_none e.0 ≡ true) (added event) more none all

pub accepted-undropped : (talk : Talk) (ls : List (List ℕ)) → talk.form ≡ Frames → All (λ (e : Happened). drops_none e.0 ≡ true) (accepted talk ls)
accepted-undropped talk [] is = All-nil (λ (e : Happened). drops_none e.0 ≡ true)
accepted-undropped talk (line ∷ ls) is =
    undropped-push (turn_of talk line).event (accepted (after_line talk line) ls) (turn-frames talk.form talk line is).1
    (accepted-undropped (after_line talk line) ls is)

-- ---- what comes of a frame that is followed

-- its one reply, and the history then
abbrev IsSaid : History → Outcome → List ℕ → Option Event → Type 0
IsSaid history outcome says event =
    (says ≡ reply_line (offer_reply outcome.reply)) × (history ++ the_event event ≡ history ++ added_event outcome.event)

next-said : (history : History) (event : Event) (refusal : Option Refusal) → let brought = unless_refused refusal (accepted_in false history event) in
    IsSaid history (next_offered refusal history event) (text_said None brought) brought.event
next-said history event None = (append-nil _, refl)
next-said history event (Some refusal) = (append-nil _, refl)

pub due-said : (history : History) (frame : FrameState) (due : Due) →
    IsSaid history (offered_as due history frame.event) (text_said None (due_brings history frame due)) (due_brings history frame due).event
due-said history frame Next = next-said history frame.event (refuses (state history) frame.event)
due-said history frame OldFrame = (append-nil _, refl)
due-said history frame (GapBehind events) = (append-nil _, refl)

frame-said : (history : History) (frame : FrameState) (found : Option FrameState) → found ≡ Some frame →
    IsSaid history (offered history frame) (text_said None (frame_brings history found)) (frame_brings history found).event
frame-said history frame None is = absurd cc
frame-said history frame (Some other) is =
    let same : other ≡ frame = cc in
    rw (← same) (due-said history other (due_in history other))

turn-said : (form : Form) (talk : Talk) (frame : FrameState) → form ≡ Follow → IsValidFrame frame.number frame.event →
    IsSaid talk.history (offered talk.history frame) (turn_in form talk (frame_spelled frame)).says (turn_in form talk (frame_spelled frame)).event
turn-said Follow talk frame is valid = frame-said talk.history frame (frame_in (frame_spelled frame)) (frame_in-spelling frame valid)
turn-said (Lines framed) talk frame is valid = absurd cc
turn-said (Sessions framed) talk frame is valid = absurd cc
turn-said Frames talk frame is valid = absurd cc

-- ---- and of some

abbrev pub IsValid : FrameState → Type 0
IsValid f = IsValidFrame f.number f.event

pub followed : (talk : Talk) (history : History) (frames : List FrameState) → talk.form ≡ Follow → talk.history ≡ history → All IsValid frames →
    (text_of talk (map frame_spelled frames) ≡ flat_map (λ said. reply_line (offer_reply said)) (offers history frames))
    × ((after_lines talk (map frame_spelled frames)).history ≡ after_offers history frames)
followed talk history [] is same valid = (refl, same)
followed talk history (frame ∷ frames) is same valid =
    let turn = turn-said talk.form talk frame is (All-head IsValid frame frames valid) in
    let next = after_line talk (frame_spelled frame) in
    let rest = followed next (after_offer history frame) frames is (turn.1 ∙ ap (λ h. after_offer h frame) same)
    (All-tail IsValid frame frames valid) in (
      ap (λ says. says ++ text_of next (map frame_spelled frames))
          (turn.0 ∙ ap (λ h. reply_line (offer_reply (offered h frame).reply)) same)
          ∙ ap (λ text. reply_line (offer_reply (offered history frame).reply) ++ text) rest.0,
      rest.1,
    )

-- ---- what is written is followed

-- the events of lines have names, and the steps of streams are numbers of 32 bits
abbrev IsNamed : Event → Type 0
IsNamed event = (is_name (event_name event) ≡ true) × (step_of_event event < 2 ^ 32)

small-step : (within : Option ℕ) → IsStepOfNumber within → step_number within < 2 ^ 32
small-step None small = omega arith
small-step (Some step) small = small

sayable-named : (event : Event) → IsSayable (Do event) → IsNamed event
sayable-named (Create name params) sayable = (sayable.0, small-step params.within sayable.1.1)
sayable-named (Value name t v) sayable = (sayable.0, omega arith)
sayable-named (Open name t) sayable = (sayable.0, omega arith)
sayable-named (Close name t) sayable = (sayable.0, omega arith)
sayable-named (Drop name) sayable = (sayable, omega arith)

writing-named : (talk : Talk) (event : Event) (frame : Option FrameState) → IsNamed event → IfSome (writing talk event frame).event IsNamed
writing-named talk event None named = tt
writing-named talk event (Some frame) named = named

meant-named : (talk : Talk) (meant : Result (Option Command) Refusal) → ((command : Command) → meant ≡ Ok (Some command) → IsSayable command) →
    IfSome (meant_turn talk meant).event IsNamed
meant-named talk meant sayable = elim (event-or-silent meant) [
  | inl is ↦ rw is.1
      (writing-named talk is.0 (accepted_frame (refuses (state talk.history) is.0) talk.history is.0) (sayable-named is.0 (sayable (Do is.0) is.1)))
  | inr none ↦ rw none tt
]

turn-named : (form : Form) (talk : Talk) (line : List ℕ) → form ≡ Frames → IfSome (turn_in form talk line).event IsNamed
turn-named Frames talk line is = meant-named talk (meaning line) (meant-sayable line)
turn-named (Lines framed) talk line is = absurd cc
turn-named (Sessions framed) talk line is = absurd cc
turn-named Follow talk line is = absurd cc

-- the frame of such an event is valid, and the next one
some-frame : (history : History) (event : Event) → drops_none event ≡ true → event_frame history event ≡ Some (frame_of history event)
some-frame history event kept = grind (arith, common_steps)

tested : (valid : Bool) (f g : FrameState) → (if valid then Some f else None) ≡ Some g → valid ≡ true
tested true f g is = refl
tested false f g is = cc

valid-frame : (history : History) (event : Event) → IsNamed event → drops_none event ≡ true → IsHistory (history ++ added event ∷ []) →
    IsValid (frame_of history event)
valid-frame history event named kept whole =
    let frame = frame_of history event in
    let few = own-few (history ++ added event ∷ []) (event_name event) whole in
    IsValidFrame-test frame.number event
    (tested (is_valid_frame frame.number event) frame frame
    (checked-last history event whole named.0 named.1 (omega (arith, few)) ∙ some-frame history event kept))

after-frame : (history : History) (event : Event) → drops_none event ≡ true → IsHistory (history ++ added event ∷ []) →
    after_offer history (frame_of history event) ≡ history ++ added event ∷ []
after-frame history event kept whole =
    ap (λ due. history ++ added_event (offered_as due history event).event) (due-frame history event kept whole)
    ∙ ap (λ o. history ++ added_event (next_offered o history event).event) (GoesOn-push history (added event) whole).accepted

-- the frames of some events are offered after a history: they are valid, and the events are added to it
record AreFollowed (history : History) (es : List Happened) : Type 0 where
  pub valid : All IsValid (frames_after history es)
  pub adds : after_offers history (frames_after history es) ≡ history ++ es

AreFollowed-push : (history : History) (event : Option Event) (more : List Happened) → IfSome event IsNamed →
    IfSome event (λ (e : Event). drops_none e ≡ true) → IsHistory (history ++ the_event event) →
    AreFollowed (history ++ the_event event) more → AreFollowed history (the_event event ++ more)
AreFollowed-push history None more named kept whole rest = rw append-nil at rest
AreFollowed-push history (Some event) more named kept whole rest =
    let frames = frames_after (history ++ added event ∷ []) more in
    let frame = frame_of history event in record {
      valid = All-cons IsValid frame frames (valid-frame history event named kept whole) rest.valid;
      adds = ap (λ h. after_offers h frames) (after-frame history event kept whole) ∙ rest.adds ∙ append_assoc history (added event ∷ []) more;
    }

are-followed : (talk : Talk) (ls : List (List ℕ)) → talk.form ≡ Frames → IsHistory talk.history → AreFollowed talk.history (accepted talk ls)
are-followed talk [] is whole = record { valid = All-nil IsValid; adds = sym (append-nil talk.history) }
are-followed talk (line ∷ ls) is whole =
    let now = talk-leaves talk (line ∷ []) whole in
    AreFollowed-push talk.history (turn_of talk line).event (accepted (after_line talk line) ls) (turn-named talk.form talk line is)
    (turn-frames talk.form talk line is).1 now (are-followed (after_line talk line) ls is now)

pub follows-primary : (history : History) (ls : List (List ℕ)) → IsHistory history →
    (after_lines (begun Follow history) (pieces (text_of (begun Frames history) ls))).history ≡ (after_lines (begun Frames history) ls).history
follows-primary history ls whole =
    let talk = begun Frames history in
    let frames = frames_after history (accepted talk ls) in
    let are = are-followed talk ls refl whole in
    ap (λ ps. (after_lines (begun Follow history) ps).history) (ap pieces (text_of-frames talk ls refl) ∙ pieces-frames frames are.valid)
    ∙ (followed (begun Follow history) history frames refl refl are.valid).1
    ∙ are.adds
    ∙ sym (after_lines-accepted talk ls)
