-- How a session goes on with further lines, and where it stops. Of what a line brings this rests only on that an event is never silent.
use Rattle.ss_program.proofs.Common.{Bool, false, Some, None, Ok, Err, Result, ◌≡◌, ℕ, ◌+◌, ◌<◌, ◌++◌, List, [], ◌∷◌, length, take, Option, IsSome, refl, sym}
use Rattle.ss_program.proofs.Common.{ap, ◌∙◌, subst, append_assoc, take-append-add, flat_map, flat_map-append, append-nil, Form, Lines, Sessions, Frames}
use Rattle.ss_program.proofs.Common.{Follow, Event, Create, Value, Open, Close, Drop, Refusal, meaning, Command, FrameState, frame_in, refuses, state, due_in}
use Rattle.ss_program.proofs.Common.{frame_of, Due, Next, Gap, unless_long, spoken_of, Order, Spoken, Nothing, Unaddressed, To, reply_line, Reply, History}
use Rattle.ss_program.proofs.Common.{accepted_frame, brings, due_brings, frame_brings, history_after, text_said, the_event, LeavesOnly, Told, weaker, HoldsTalk}
use Rattle.ss_program.proofs.Common.{StandsWithin, StopsAmong, StopsIn, appended, AppendsFront, accepted, after_line, after_lines, plain_after, replies, report}
use Rattle.ss_program.proofs.Common.{report_so_far, text_of, Talk, kept_spoken, meant_turn, plain_talk, turn_in, turn_of, turn_spoken, turn_to, writing}
use Rattle.ss_program.proofs.Common.{Sealing, Status, steps_so_far, inl, inr}
use Rattle.ss_replica.specs.declared.judging.Due.TheVariants.{Old as OldFrame}
use Rattle.ss_program.proofs.SpelledLemmas.{some-frame_spelled}
use Rattle.ss_program.proofs.StepsLemmas.{steps-front}
use Rattle.ss_program.proofs.AnswerLemmas.{event-some, meaning-some}
use Rattle.ss_program.proofs.CursorLemmas.{close-event, next-event, open-event}
use Rattle.ss_program.proofs.SendLemmas.{AppendsFront-longer}
use Rattle.ss_sessions.specs.declared.order.Order.TheVariants as orders
use Rattle.ss_program.proofs.MeantLemmas.{event-or-silent}

-- something is said to a line that brings an event
to-some : (framed : Bool) (session : ℕ) (talk : Talk) (said : Result (Option Order) Refusal) → IsSome (turn_to framed session talk said).event →
    0 < length (turn_to framed session talk said).says
to-some framed session talk (Err refusal) some = cc
to-some framed session talk (Ok None) some = cc
to-some framed session talk (Ok (Some (orders.Command command))) some = meaning-some (Some session) framed talk.history (Ok (Some command)) some
to-some framed session talk (Ok (Some (orders.Open name))) some = let none = open-event talk.history talk.cursors session name in cc
to-some framed session talk (Ok (Some (orders.Next count))) some = let none = next-event talk.cursors session count in cc
to-some framed session talk (Ok (Some orders.Close)) some = let none = close-event talk.cursors session in cc

spoken-some : (framed : Bool) (talk : Talk) (spoken : Spoken) → IsSome (turn_spoken framed talk spoken).event →
    0 < length (turn_spoken framed talk spoken).says
spoken-some framed talk Nothing some = cc
spoken-some framed talk Unaddressed some = cc
spoken-some framed talk (To session said) some = to-some framed session talk said some

kept-some : (framed : Bool) (talk : Talk) (line : Option (List ℕ)) → IsSome (kept_spoken framed talk line).event →
    0 < length (kept_spoken framed talk line).says
kept-some framed talk None some = cc
kept-some framed talk (Some line) some = spoken-some framed talk (spoken_of line) some

-- the frame of an event that is accepted isn't empty
written-some : (talk : Talk) (event : Event) (refusal : Option Refusal) → IsSome (writing talk event (accepted_frame refusal talk.history event)).event →
    0 < length (writing talk event (accepted_frame refusal talk.history event)).says
written-some talk event (Some refusal) some = cc
written-some talk (Drop name) None some = cc
written-some talk (Create name params) None some = some-frame_spelled (frame_of talk.history (Create name params)) (λ other is. cc)
written-some talk (Value name t v) None some = some-frame_spelled (frame_of talk.history (Value name t v)) (λ other is. cc)
written-some talk (Open name t) None some = some-frame_spelled (frame_of talk.history (Open name t)) (λ other is. cc)
written-some talk (Close name t) None some = some-frame_spelled (frame_of talk.history (Close name t)) (λ other is. cc)

meant-some : (talk : Talk) (meant : Result (Option Command) Refusal) → IsSome (meant_turn talk meant).event → 0 < length (meant_turn talk meant).says
meant-some talk meant some = elim (event-or-silent meant) [
  | inl is ↦ subst (λ (m : Result (Option Command) Refusal). IsSome (meant_turn talk m).event → 0 < length (meant_turn talk m).says) (sym is.1)
      (written-some talk is.0 (refuses (state talk.history) is.0)) some
  | inr none ↦ (let wrong = rw none at some in cc)
]

-- and what is said to a frame that is the next
due-some : (history : History) (frame : FrameState) (due : Due) → IsSome (due_brings history frame due).event →
    0 < length (text_said None (due_brings history frame due))
due-some history frame Next some = event-some None false history frame.event (refuses (state history) frame.event) some
due-some history frame OldFrame some = cc
due-some history frame (Gap last) some = cc

offered-some : (history : History) (frame : Option FrameState) → IsSome (frame_brings history frame).event →
    0 < length (text_said None (frame_brings history frame))
offered-some history None some = cc
offered-some history (Some frame) some = due-some history frame (due_in history frame) some

in-some : (form : Form) (talk : Talk) (line : List ℕ) → IsSome (turn_in form talk line).event → 0 < length (turn_in form talk line).says
in-some (Lines framed) talk line some = meaning-some None framed talk.history (meaning line) some
in-some (Sessions framed) talk line some = kept-some framed talk (unless_long line) some
in-some Frames talk line some = meant-some talk (meaning line) some
in-some Follow talk piece some = offered-some talk.history (frame_in piece) some

pub says-some : (talk : Talk) (line : List ℕ) → IsSome (turn_of talk line).event → 0 < length (turn_of talk line).says
says-some talk line some = in-some talk.form talk line some

-- the conversation after more lines
pub after_lines-append : (talk : Talk) (ls ms : List (List ℕ)) → after_lines talk (ls ++ ms) ≡ after_lines (after_lines talk ls) ms
after_lines-append talk [] ms = refl
after_lines-append talk (l ∷ ls) ms = after_lines-append (after_line talk l) ls ms

-- its form is the one before, and its history the one before with the events accepted since
pub after_lines-form : (talk : Talk) (ls : List (List ℕ)) → (after_lines talk ls).form ≡ talk.form
after_lines-form talk [] = refl
after_lines-form talk (l ∷ ls) = after_lines-form (after_line talk l) ls

pub after_lines-accepted : (talk : Talk) (ls : List (List ℕ)) → (after_lines talk ls).history ≡ talk.history ++ accepted talk ls
after_lines-accepted talk [] = sym (append-nil talk.history)
after_lines-accepted talk (l ∷ ls) =
    after_lines-accepted (after_line talk l) ls
    ∙ append_assoc talk.history (the_event (turn_of talk l).event) (accepted (after_line talk l) ls)

-- and it is as it was asked how many slots were used
pub after_lines-used : (talk : Talk) (ls : List (List ℕ)) → (after_lines talk ls).used ≡ talk.used
after_lines-used talk [] = refl
after_lines-used talk (l ∷ ls) = after_lines-used (after_line talk l) ls

-- what is said to more lines
pub text_of-append : (talk : Talk) (ls ms : List (List ℕ)) → text_of talk (ls ++ ms) ≡ text_of talk ls ++ text_of (after_lines talk ls) ms
text_of-append talk [] ms = refl
text_of-append talk (l ∷ ls) ms =
    ap (λ (text : List ℕ). (turn_of talk l).says ++ text) (text_of-append (after_line talk l) ls ms)
    ∙ sym (append_assoc (turn_of talk l).says (text_of (after_line talk l) ls) (text_of (after_lines (after_line talk l) ls) ms))

pub text_of-one : (talk : Talk) (l : List ℕ) → text_of talk (l ∷ []) ≡ (turn_of talk l).says
text_of-one talk l = append-nil (turn_of talk l).says

pub text_of-push : (talk : Talk) (ls : List (List ℕ)) (l : List ℕ) →
    text_of talk (ls ++ l ∷ []) ≡ text_of talk ls ++ (turn_of (after_lines talk ls) l).says
text_of-push talk ls l =
    text_of-append talk ls (l ∷ []) ∙ ap (λ (text : List ℕ). text_of talk ls ++ text) (text_of-one (after_lines talk ls) l)

-- the history after more plain lines, and after one more
pub plain_after-append : (history : History) (ls ms : List (List ℕ)) → plain_after history (ls ++ ms) ≡ plain_after (plain_after history ls) ms
plain_after-append history [] ms = refl
plain_after-append history (l ∷ ls) ms = plain_after-append (history_after history (brings history l)) ls ms

pub plain_after-push : (history : History) (ls : List (List ℕ)) (line : List ℕ) →
    plain_after history (ls ++ line ∷ []) ≡ history_after (plain_after history ls) (brings (plain_after history ls) line)
plain_after-push history ls line = plain_after-append history ls (line ∷ [])

-- the replies to more plain lines, and their text
pub replies-append : (history : History) (ls ms : List (List ℕ)) →
    replies history (ls ++ ms) ≡ replies history ls ++ replies (plain_after history ls) ms
replies-append history [] ms = refl
replies-append history (l ∷ ls) ms =
    let then = history_after history (brings history l) in
    ap (λ (rs : List Reply). (brings history l).replies ++ rs) (replies-append then ls ms)
    ∙ sym (append_assoc (brings history l).replies (replies then ls) (replies (plain_after then ls) ms))

pub text_of-replies : (history : History) (ls : List (List ℕ)) → text_of (plain_talk history) ls ≡ flat_map reply_line (replies history ls)
text_of-replies history [] = refl
text_of-replies history (l ∷ ls) =
    let then = history_after history (brings history l) in
    let first = (brings history l).replies in
    ap (λ (text : List ℕ). flat_map reply_line first ++ text) (text_of-replies then ls)
    ∙ sym (flat_map-append reply_line first (replies then ls))

-- what follows only adds to the report
front-lines : (talk : Talk) (before after : Option (List ℕ)) (ls ms : List (List ℕ)) → AppendsFront before after (text_of talk ls) →
    AppendsFront before after (text_of talk (ls ++ ms))
front-lines talk before after ls ms part = rw text_of-append (AppendsFront-longer before after (text_of talk ls) (text_of (after_lines talk ls) ms) part)

pub front-report : (talk : Talk) (before after : Option (List ℕ)) (xs ys : List ℕ) → AppendsFront before after (report_so_far talk xs) →
    AppendsFront before after (report talk (xs ++ ys))
front-report talk before after xs ys part =
    let more = steps-front talk.form xs ys in
    rw more.1 (front-lines talk before after (steps_so_far talk.form xs) more.0 part)

-- what was sent of what is said to the lines at which a run stopped is a front of what is said to all
pub StopsAmong-front : {sealing : Sealing} {talk : Talk} {ls : List (List ℕ)} {before after : Option (List ℕ)} {disk : Told} {status : Status} →
    StopsAmong sealing talk ls before after disk status → AppendsFront before after (text_of talk ls)
StopsAmong-front {talk = talk} {before = before} {after = after} at =
    let here = text_of talk at.out in
    let there = after_lines talk at.out in
    let text = text_of there at.now in
    let part : AppendsFront before after (text_of talk (at.out ++ at.now)) = (
      length here + at.bytes,
      at.sent ∙ ap (λ bs. appended before bs)
          (sym (ap (λ bs. take (length here + at.bytes) bs) (text_of-append talk at.out at.now) ∙ take-append-add here text at.bytes)),
    ) in
    rw (append_assoc at.out at.now at.others ∙ sym at.are) at (front-lines talk before after (at.out ++ at.now) at.others part)

-- the conversation after one more line
pub after_lines-push : (talk : Talk) (ls : List (List ℕ)) (line : List ℕ) →
    after_lines talk (ls ++ line ∷ []) ≡ after_line (after_lines talk ls) line
after_lines-push talk ls line = after_lines-append talk ls (line ∷ [])

-- An image of the history after some first lines. It is one of more lines, too.
pub StandsWithin-all : (talk : Talk) (ls : List (List ℕ)) (image : List ℕ) → HoldsTalk (after_lines talk ls) image → StandsWithin talk ls image
StandsWithin-all talk ls image stands = (ls, [], sym (append-nil ls), stands)

pub StandsWithin-more : (talk : Talk) (ls ms : List (List ℕ)) (image : List ℕ) → StandsWithin talk ls image → StandsWithin talk (ls ++ ms) image
StandsWithin-more talk ls ms image some =
    (some.0, some.1 ++ ms, ap (λ l. l ++ ms) some.2 ∙ append_assoc some.0 some.1 ms, some.3)

-- an image of the history before a line or after it
pub StandsWithin-before : (talk : Talk) (ls : List (List ℕ)) (line : List ℕ) (image : List ℕ) → HoldsTalk (after_lines talk ls) image →
    StandsWithin talk (ls ++ line ∷ []) image
StandsWithin-before talk ls line image stands = (ls, line ∷ [], refl, stands)

pub StandsWithin-after : (talk : Talk) (ls : List (List ℕ)) (line : List ℕ) (image : List ℕ) →
    HoldsTalk (after_line (after_lines talk ls) line) image → StandsWithin talk (ls ++ line ∷ []) image
StandsWithin-after talk ls line image stands = StandsWithin-all talk (ls ++ line ∷ []) image (rw after_lines-push stands)

-- the moments of more lines
pub moments-more : (talk : Talk) (old new : Told) (ls ms : List (List ℕ)) → LeavesOnly old new (StandsWithin talk ls) →
    LeavesOnly old new (StandsWithin talk (ls ++ ms))
moments-more talk old new ls ms run = weaker old new (StandsWithin talk ls) (StandsWithin talk (ls ++ ms)) (StandsWithin-more talk ls ms) run

-- a run that stopped among these lines stopped among these and others
pub StopsAmong-more : {sealing : Sealing} {talk : Talk} {ls : List (List ℕ)} {before after : Option (List ℕ)} {disk : Told} {status : Status}
    (ms : List (List ℕ)) → StopsAmong sealing talk ls before after disk status → StopsAmong sealing talk (ls ++ ms) before after disk status
StopsAmong-more ms at = record {
  out = at.out;
  now = at.now;
  others = at.others ++ ms;
  are = ap (λ l. l ++ ms) at.are ∙ append_assoc at.out (at.now ++ at.others) ms ∙ ap (λ l. at.out ++ l) (append_assoc at.now at.others ms);
  bytes = at.bytes;
  few = at.few;
  alone = at.alone;
  sent = at.sent;
  left = at.left;
  starved = at.starved;
}

pub StopsIn-more : (sealing : Sealing) (talk : Talk) (ls ms : List (List ℕ)) (old new : Told) (before after : Option (List ℕ)) (status : Status) →
    StopsIn sealing talk ls old new before after status → StopsIn sealing talk (ls ++ ms) old new before after status
StopsIn-more sealing talk ls ms old new before after status stops = record {
  at = StopsAmong-more ms stops.at;
  any_moment = moments-more talk old new ls ms stops.any_moment;
}
