-- What an event brings where its frame is said behind its reply, or written in place of it.
use Rattle.ss_program.proofs.Common.{◌⊎◌, ◌≡◌, ◌∙◌, ℕ, ◌<◌, Bool, true, false, ◌++◌, List, [], ◌∷◌, length, Option, Some, None, IsSome, Result, refl, sym, ap}
use Rattle.ss_program.proofs.Common.{IsTrue, OnOk, event_name, Event, Create, Value, Open, Close, Drop, Refusal, Do, FrameState, frame_spelled, added}
use Rattle.ss_program.proofs.Common.{refuses, state, ack_of, Ack, Told, RecordsState, shown_by, event_frame, frame_of, Reply, Refused, TurnsHistory, Stands}
use Rattle.ss_program.proofs.Common.{IsShort, History, accepted_frame, accepted_in, command_brings, command_in, frame_replies, the_event, unless_refused, Talk}
use Rattle.ss_program.proofs.Common.{event_turn, silent, writing}
use Rattle.ss_program.proofs.SpelledLemmas.{some-frame_spelled}
use Rattle.ss_report.specs.declared.reply.Reply.TheVariants.{Done}

-- ---- the event is the same, whether frames are said or not

event-unframed : (framed : Bool) (history : History) (event : Event) (refusal : Option Refusal) →
    (unless_refused refusal (accepted_in false history event)).event ≡ (unless_refused refusal (accepted_in framed history event)).event
event-unframed framed history event None = refl
event-unframed framed history event (Some r) = refl

pub same-event : (framed : Bool) (history : History) (event : Event) →
    (command_brings history (Do event)).event ≡ (command_in framed history (Do event)).event
same-event framed history event = event-unframed framed history event (refuses (state history) event)

pub IsSome-framed : (framed : Bool) (history : History) (event : Event) → IsSome (command_brings history (Do event)).event →
    IsSome (command_in framed history (Do event)).event
IsSome-framed framed history event some = rw (same-event framed history event) at some

-- what is brought to a history by an event, or by none
abbrev pub Around : History → Option Event → List ℕ → Type 0
Around history event image = Stands history image ⊎ Stands (history ++ the_event event) image

abbrev pub Adding : {T E : Type 0} → RecordsState → RecordsState → History → Option Event → Result T E → Told → Told → Type 0
Adding was is history event result old new = TurnsHistory was is history (Around history event) (history ++ the_event event) old new result

module _ (was is : RecordsState) (history : History) (old new : Told) where
  -- a call brings an event, and answers something else
  pub Turns-answered : {T S E F : Type 0} (event other : Option Event) (step : Result T E) (result : Result S F) → event ≡ other →
      ((X : Type 0) → OnOk step X → OnOk result X) → Adding was is history event step old new → Adding was is history other result old new
  Turns-answered event other step result same keeps turns = rw (← same) (record {
    content = λ has. keeps (Stands (history ++ the_event event) (shown_by is new.content)) (turns.content has);
    short = λ used has. keeps (IsShort used (history ++ the_event event) (shown_by is new.content)) (turns.short used has);
    any_moment = turns.any_moment;
    durable = λ durable. keeps _ (turns.durable durable);
  })

-- ---- what is replied to it

pub replies-framed : (framed : Bool) (history : History) (event : Event) (refusal : Option Refusal) (reply : Reply) (frame : Option FrameState) →
    (unless_refused refusal (accepted_in false history event)).replies ≡ reply ∷ [] → (framed ≡ true → frame ≡ accepted_frame refusal history event) →
    (framed ≡ false → frame ≡ None) →
    (unless_refused refusal (accepted_in framed history event)).replies ≡ reply ∷ frame_replies frame
replies-framed true history event None reply frame one has none =
    ap (λ (rs : List Reply). rs ++ frame_replies (event_frame history event)) one ∙ ap (λ f. reply ∷ frame_replies f) (sym (has refl))
replies-framed true history event (Some r) reply frame one has none = one ∙ ap (λ f. reply ∷ frame_replies f) (sym (has refl))
replies-framed false history event refusal reply frame one has none = one ∙ ap (λ f. reply ∷ frame_replies f) (sym (none refl))

-- the frame of an event that is acknowledged
pub frame-done : (history : History) (event : Event) (refusal : Option Refusal) (ack : Ack) (frame : Option FrameState) →
    (unless_refused refusal (accepted_in false history event)).replies ≡ Done ack ∷ [] → (refusal ≡ None → frame ≡ event_frame history event) →
    frame ≡ accepted_frame refusal history event
frame-done history event None ack frame one is = is refl
frame-done history event (Some r) ack frame one is = cc

-- and of one that isn't: none
pub frame-other : (history : History) (event : Event) (refusal : Option Refusal) (reply : Reply) (frame : Option FrameState) →
    (unless_refused refusal (accepted_in false history event)).replies ≡ reply ∷ [] → ((ack : Ack) → reply ≡ Done ack → ⊥) → frame ≡ None →
    frame ≡ accepted_frame refusal history event
frame-other history event None reply frame one other none =
    absurd (other (ack_of (event_name event) (state (history ++ added event ∷ []))) (let same = one in cc))
frame-other history event (Some r) reply frame one other none = none

-- ---- its frame in place of replies

-- an event that drops no stream
abbrev pub IsNoDrop : Event → Type 0
IsNoDrop event = (name : List ℕ) → event ≡ Drop name → ⊥

-- a drop is passed over
drop-passed : (talk : Talk) (name : List ℕ) (refusal : Option Refusal) →
    writing talk (Drop name) (accepted_frame refusal talk.history (Drop name)) ≡ silent talk
drop-passed talk name None = refl
drop-passed talk name (Some r) = refl

pub drop-silent : (talk : Talk) (name : List ℕ) → event_turn talk (Drop name) ≡ silent talk
drop-silent talk name = drop-passed talk name (refuses (state talk.history) (Drop name))

-- and so is an event that is refused
refused-passed : (talk : Talk) (event : Event) (refusal : Option Refusal) (r : Refusal) (rest : List Reply) →
    (unless_refused refusal (accepted_in true talk.history event)).replies ≡ Refused r ∷ rest →
    writing talk event (accepted_frame refusal talk.history event) ≡ silent talk
refused-passed talk event None r rest is = cc
refused-passed talk event (Some other) r rest is = refl

pub refused-silent : (talk : Talk) (event : Event) (r : Refusal) (rest : List Reply) →
    (command_in true talk.history (Do event)).replies ≡ Refused r ∷ rest → event_turn talk event ≡ silent talk
refused-silent talk event r rest is = refused-passed talk event (refuses (state talk.history) event) r rest is

-- each other event has a frame
has-frame : (history : History) (event : Event) → IsNoDrop event → event_frame history event ≡ Some (frame_of history event)
has-frame history (Create name params) other = refl
has-frame history (Value name t v) other = refl
has-frame history (Open name t) other = refl
has-frame history (Close name t) other = refl
has-frame history (Drop name) other = absurd (other name refl)

-- so it is added exactly where its frame is written
event-written : (talk : Talk) (event : Event) (refusal : Option Refusal) → IsNoDrop event →
    (unless_refused refusal (accepted_in true talk.history event)).event ≡ (writing talk event (accepted_frame refusal talk.history event)).event
event-written talk event None other = ap (λ o. (writing talk event o).event) (sym (has-frame talk.history event other))
event-written talk event (Some r) other = refl

pub same-written : (talk : Talk) (event : Event) → IsNoDrop event →
    (command_in true talk.history (Do event)).event ≡ (event_turn talk event).event
same-written talk event other = event-written talk event (refuses (state talk.history) event) other

accepted-some : (history : History) (event : Event) (refusal : Option Refusal) → IsNoDrop event →
    IsSome (unless_refused refusal (accepted_in false history event)).event → accepted_frame refusal history event ≡ Some (frame_of history event)
accepted-some history event None other some = has-frame history event other
accepted-some history event (Some r) other some = cc

-- one that is accepted wants memory, and something is written
pub written-wants : (talk : Talk) (event : Event) → IsNoDrop event → IsSome (command_brings talk.history (Do event)).event →
    IsTrue (event_turn talk event).wants_memory × (0 < length (event_turn talk event).says)
written-wants talk event other some =
    let is = accepted-some talk.history event (refuses (state talk.history) event) other some in
    let frame = frame_of talk.history event in (
      rw is,
      rw is (some-frame_spelled frame other),
    )

-- what is written where there is a frame
pub says-frame : (talk : Talk) (event : Event) (frame : FrameState) (found : Option FrameState) → found ≡ Some frame →
    found ≡ accepted_frame (refuses (state talk.history) event) talk.history event →
    ((event_turn talk event).says ≡ frame_spelled frame) × ((event_turn talk event).cursors ≡ talk.cursors)
says-frame talk event frame found some is =
    let same = sym is ∙ some in
    (ap (λ o. (writing talk event o).says) same, ap (λ o. (writing talk event o).cursors) same)

-- an event that isn't refused has one
framed-done : (history : History) (event : Event) (refusal : Option Refusal) (reply : Reply) → IsNoDrop event → ((r : Refusal) → reply ≡ Refused r → ⊥) →
    (unless_refused refusal (accepted_in true history event)).replies ≡ reply ∷ [] → None ≡ accepted_frame refusal history event → ⊥
framed-done history event None reply other done one none = let wrong = none ∙ has-frame history event other in cc
framed-done history event (Some r) reply other done one none = done r (let same = one in cc)

pub done-framed : (history : History) (event : Event) (reply : Reply) → IsNoDrop event → ((r : Refusal) → reply ≡ Refused r → ⊥) →
    (command_in true history (Do event)).replies ≡ reply ∷ [] → None ≡ accepted_frame (refuses (state history) event) history event → ⊥
done-framed history event reply other done one none = framed-done history event (refuses (state history) event) reply other done one none
