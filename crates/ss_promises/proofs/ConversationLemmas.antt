-- What a line brings that asks for a command, whichever form the conversation has, and what lines leave of its history.
use Rattle.ss_program.proofs.Common.{◌≡◌, ◌∙◌, ◌++◌, ℕ, List, [], ◌∷◌, Option, Some, None, Result, Ok, Err, Bool, true, false, refl, sym, ap, append-nil, codes}
use Rattle.ss_program.proofs.Common.{if◌then◌else◌, option_map, Form, Lines, Sessions, Frames, Follow, Event, Create, Value, Open, Close, Drop, Refusal, ◌>>=◌}
use Rattle.ss_program.proofs.Common.{meaning, name_of, unless_long, first_word, is_word, rest_of, words, IsSayable, meant-sayable, Command, Do}
use Rattle.ss_program.proofs.Common.{SpellsFrame-frame_in, FrameState, IsValidFrame, frame_in, CanBeSaid, IsHistory, refuses, state, due_in, Due, Next, Gap}
use Rattle.ss_program.proofs.Common.{Cursors, asked_of, cursor_close_of, cursor_form_of, cursor_next_of, cursor_open_of, order_said, spoken_of, Order, Spoken}
use Rattle.ss_program.proofs.Common.{Nothing, Unaddressed, To, order_in, History, accepted_frame, brings, brings_in, command_brings, command_in}
use Rattle.ss_promises.specs.Asked.{IsAsked}
use Rattle.ss_program.proofs.Common.{due_brings, frame_brings, meaning_in, the_event, after_line, after_lines, Talk, is_framed, kept_spoken, meant_turn}
use Rattle.ss_program.proofs.Common.{turn_brought, turn_in, turn_of, turn_spoken, writing, inl, inr}
use Rattle.ss_replica.specs.declared.judging.Due.TheVariants.{Old as OldFrame}
use Rattle.ss_program.proofs.CursorLemmas.{close-event, next-event, open-event}
use Rattle.ss_promises.proofs.HeardLemmas.{kept-heard, kept-to}
use Rattle.ss_promises.proofs.LawLemmas.{event-leaves, meaning-leaves, sayable-said}
use Rattle.ss_catalog.specs.declared.refusal.Refusal.TheVariants as refusals
use Rattle.ss_sessions.specs.declared.order.Order.TheVariants as orders
use Rattle.ss_program.proofs.MeantLemmas.{event-or-silent}

-- ---- a session's command is what a line by itself means

-- a cursor form is no command
uncommanded : {N : Type 0} (read : Result N Refusal) (make : N → Order) (command : Command) → ((n : N) → make n ≡ orders.Command command → ⊥) →
    (read >>= (λ n. Ok (make n))) ≡ Ok (orders.Command command) → ⊥
uncommanded (Err refusal) make command other is = cc
uncommanded (Ok n) make command other is = other n (let same : make n ≡ orders.Command command = cc in same)

open-uncommanded : (rest : List (List ℕ)) (command : Command) → cursor_open_of rest ≡ Ok (orders.Command command) → ⊥
open-uncommanded [] command is = cc
open-uncommanded (name ∷ []) command is = uncommanded (name_of name) (λ stream. orders.Open stream) command (λ n same. cc) is
open-uncommanded (name ∷ more ∷ rest) command is = cc

next-uncommanded : (rest : List (List ℕ)) (command : Command) → cursor_next_of rest ≡ Ok (orders.Command command) → ⊥
next-uncommanded [] command is = cc
next-uncommanded (count ∷ []) command is = uncommanded (asked_of count) (λ rows. orders.Next rows) command (λ n same. cc) is
next-uncommanded (count ∷ more ∷ rest) command is = cc

close-uncommanded : (rest : List (List ℕ)) (command : Command) → cursor_close_of rest ≡ Ok (orders.Command command) → ⊥
close-uncommanded [] command is = cc
close-uncommanded (more ∷ rest) command is = cc

none-of : (a b c : Bool) (x y z : Result Order Refusal) (order : Order) → (x ≡ Ok order → ⊥) → (y ≡ Ok order → ⊥) → (z ≡ Ok order → ⊥) →
    (if a then x else (if b then y else (if c then z else Err refusals.Syntax))) ≡ Ok order → ⊥
none-of true b c x y z order first second third is = first is
none-of false true c x y z order first second third is = second is
none-of false false true x y z order first second third is = third is
none-of false false false x y z order first second third is = cc

form-uncommanded : (ws : List (List ℕ)) (command : Command) → cursor_form_of ws ≡ Ok (orders.Command command) → ⊥
form-uncommanded [] command is = cc
form-uncommanded (verb ∷ rest) command is =
    none-of (is_word verb (codes "open")) (is_word verb (codes "next")) (is_word verb (codes "close")) (cursor_open_of rest) (cursor_next_of rest)
    (cursor_close_of rest)
    (orders.Command command) (open-uncommanded rest command) (next-uncommanded rest command) (close-uncommanded rest command) is

said-choice : (cursor : Bool) (formed : Result Order Refusal) (meant : Result (Option Command) Refusal) (command : Command) →
    (formed ≡ Ok (orders.Command command) → ⊥) →
    (if cursor then (formed >>= (λ order. Ok (Some order))) else (meant >>= (λ c. Ok (option_map orders.Command c))))
    ≡ Ok (Some (orders.Command command)) → meant ≡ Ok (Some command)
said-choice true (Err refusal) meant command other is = cc
said-choice true (Ok order) meant command other is = absurd (other (let same : Ok order ≡ Ok (orders.Command command) = cc in same))
said-choice false formed (Err refusal) command other is = cc
said-choice false formed (Ok None) command other is = cc
said-choice false formed (Ok (Some c)) command other is = cc

said-command : (rest : List ℕ) (command : Command) → order_said rest ≡ Ok (Some (orders.Command command)) → meaning rest ≡ Ok (Some command)
said-command rest command is =
    said-choice (is_word (first_word rest) (codes "cursor")) (cursor_form_of (words (rest_of rest))) (meaning rest) command
    (form-uncommanded (words (rest_of rest)) command) is

-- so what it brings is what a plain line of the same meaning would
in-plain : (form : Form) (talk : Talk) (speaker : Option ℕ) (command : Command) (line : List ℕ) → IsAsked form speaker command line →
    (rest : List ℕ) × (meaning rest ≡ Ok (Some command)) × (turn_in form talk line ≡ turn_brought speaker talk (brings_in (is_framed form) talk.history rest))
in-plain (Lines framed) talk speaker command line asked =
    (line, asked.1, ap (λ who. turn_brought who talk (brings_in framed talk.history line)) (sym asked.0))
in-plain (Sessions framed) talk speaker command line asked =
    let session = asked.0 in
    let order = Ok (Some (orders.Command command)) in
    let said = (kept-to (unless_long line) session order asked.2).1 in
    let means = said-command said.0 command said.1 in (
      said.0,
      means,
      kept-heard framed talk (unless_long line) (To session order) asked.2
          ∙ ap (λ m. turn_brought (Some session) talk (meaning_in framed talk.history m)) (sym means)
          ∙ ap (λ who. turn_brought who talk (brings_in framed talk.history said.0)) (sym asked.1),
    )
in-plain Frames talk speaker command line asked = absurd asked
in-plain Follow talk speaker command line asked = absurd asked

-- a command that is no event brings the same, whether or not frames are said
pub asked-plain : (talk : Talk) (speaker : Option ℕ) (command : Command) (line : List ℕ) → IsAsked talk.form speaker command line →
    ((framed : Bool) → command_in framed talk.history command ≡ command_brings talk.history command) →
    (rest : List ℕ) × (meaning rest ≡ Ok (Some command)) × (turn_of talk line ≡ turn_brought speaker talk (brings talk.history rest))
asked-plain talk speaker command line asked alike =
    let framed = is_framed talk.form in
    let it = in-plain talk.form talk speaker command line asked in (
      it.0,
      it.1,
      it.2 ∙ ap (turn_brought speaker talk)
          (ap (meaning_in framed talk.history) it.1 ∙ alike framed ∙ sym (ap (meaning_in false talk.history) it.1)),
    )

pub asked-brings : (talk : Talk) (speaker : Option ℕ) (command : Command) (line : List ℕ) → IsAsked talk.form speaker command line →
    turn_of talk line ≡ turn_brought speaker talk (command_in (is_framed talk.form) talk.history command)
asked-brings talk speaker command line asked =
    let it = in-plain talk.form talk speaker command line asked in
    it.2 ∙ ap (λ m. turn_brought speaker talk (meaning_in (is_framed talk.form) talk.history m)) it.1

-- ---- what lines leave of a history

stays : (history : History) (event : Option Event) → event ≡ None → IsHistory history → IsHistory (history ++ the_event event)
stays history event none whole = rw (none, append-nil) whole

plain-leaves : (framed : Bool) (history : History) (line : List ℕ) → IsHistory history →
    IsHistory (history ++ the_event (brings_in framed history line).event)
plain-leaves framed history line whole = meaning-leaves framed history (meaning line) (meant-sayable line) whole

order-leaves : (framed : Bool) (history : History) (cursors : Cursors) (session : ℕ) (order : Order) →
    ((command : Command) → order ≡ orders.Command command → (rest : List ℕ) × (meaning rest ≡ Ok (Some command))) → IsHistory history →
    IsHistory (history ++ the_event (order_in framed history cursors session order).brought.event)
order-leaves framed history cursors session (orders.Command command) means whole =
    let it = means command refl in
    rw it.1 at (plain-leaves framed history it.0 whole)
order-leaves framed history cursors session (orders.Open name) means whole =
    stays history (order_in framed history cursors session (orders.Open name)).brought.event (open-event history cursors session name) whole
order-leaves framed history cursors session (orders.Next count) means whole =
    stays history (order_in framed history cursors session (orders.Next count)).brought.event (next-event cursors session count) whole
order-leaves framed history cursors session orders.Close means whole =
    stays history (order_in framed history cursors session orders.Close).brought.event (close-event cursors session) whole

spoken-leaves : (framed : Bool) (talk : Talk) (spoken : Spoken) →
    ((session : ℕ) (said : Result (Option Order) Refusal) → spoken ≡ To session said → (rest : List ℕ) × (order_said rest ≡ said)) →
    IsHistory talk.history → IsHistory (talk.history ++ the_event (turn_spoken framed talk spoken).event)
spoken-leaves framed talk Nothing says whole = stays talk.history None refl whole
spoken-leaves framed talk Unaddressed says whole = stays talk.history None refl whole
spoken-leaves framed talk (To session (Err refusal)) says whole = stays talk.history None refl whole
spoken-leaves framed talk (To session (Ok None)) says whole = stays talk.history None refl whole
spoken-leaves framed talk (To session (Ok (Some order))) says whole =
    order-leaves framed talk.history talk.cursors session order (λ command is.
    let it = says session (Ok (Some order)) refl in
    (it.0, said-command it.0 command (it.1 ∙ ap (λ (o : Order). Ok (Some o)) is))) whole

kept-leaves : (framed : Bool) (talk : Talk) (line : Option (List ℕ)) → IsHistory talk.history →
    IsHistory (talk.history ++ the_event (kept_spoken framed talk line).event)
kept-leaves framed talk None whole = stays talk.history None refl whole
kept-leaves framed talk (Some line) whole =
    spoken-leaves framed talk (spoken_of line) (λ session said is. (kept-to (Some line) session said (ap (λ s. Some s) is)).1) whole

-- what a valid frame says can be said
valid-said : (number : ℕ) (event : Event) → IsValidFrame number event → CanBeSaid event
valid-said number (Create name params) valid = tt
valid-said number (Value name t v) valid = (valid.2, valid.3)
valid-said number (Open name t) valid = valid.2
valid-said number (Close name t) valid = valid.2
valid-said number (Drop name) valid = absurd valid

-- an event whose frame is written is one that is accepted
written-leaves : (talk : Talk) (event : Event) (refusal : Option Refusal) → refuses (state talk.history) event ≡ refusal → CanBeSaid event →
    IsHistory talk.history → IsHistory (talk.history ++ the_event (writing talk event (accepted_frame refusal talk.history event)).event)
written-leaves talk event (Some refusal) is said whole = stays talk.history None refl whole
written-leaves talk (Drop name) None is said whole = stays talk.history None refl whole
written-leaves talk (Create name params) None is said whole = event-leaves false talk.history (Create name params) None is said whole
written-leaves talk (Value name t v) None is said whole = event-leaves false talk.history (Value name t v) None is said whole
written-leaves talk (Open name t) None is said whole = event-leaves false talk.history (Open name t) None is said whole
written-leaves talk (Close name t) None is said whole = event-leaves false talk.history (Close name t) None is said whole

meant-leaves : (talk : Talk) (meant : Result (Option Command) Refusal) → ((command : Command) → meant ≡ Ok (Some command) → IsSayable command) →
    IsHistory talk.history → IsHistory (talk.history ++ the_event (meant_turn talk meant).event)
meant-leaves talk meant sayable whole = elim (event-or-silent meant) [
  | inl is ↦ rw is.1 (written-leaves talk is.0 (refuses (state talk.history) is.0) refl (sayable-said is.0 (sayable (Do is.0) is.1)) whole)
  | inr none ↦ rw none (stays talk.history None refl whole)
]

-- the event of a frame can be said
frame-said : (piece : List ℕ) (frame : FrameState) → frame_in piece ≡ Some frame → CanBeSaid frame.event
frame-said piece frame is = valid-said frame.number frame.event (SpellsFrame-frame_in piece frame is).valid

due-leaves : (history : History) (frame : FrameState) (due : Due) → CanBeSaid frame.event → IsHistory history →
    IsHistory (history ++ the_event (due_brings history frame due).event)
due-leaves history frame Next said whole = event-leaves false history frame.event (refuses (state history) frame.event) refl said whole
due-leaves history frame OldFrame said whole = stays history None refl whole
due-leaves history frame (Gap last) said whole = stays history None refl whole

frame-leaves : (history : History) (frame : Option FrameState) → ((f : FrameState) → frame ≡ Some f → CanBeSaid f.event) → IsHistory history →
    IsHistory (history ++ the_event (frame_brings history frame).event)
frame-leaves history None said whole = stays history None refl whole
frame-leaves history (Some frame) said whole = due-leaves history frame (due_in history frame) (said frame refl) whole

in-leaves : (form : Form) (talk : Talk) (line : List ℕ) → IsHistory talk.history →
    IsHistory (talk.history ++ the_event (turn_in form talk line).event)
in-leaves (Lines framed) talk line whole = plain-leaves framed talk.history line whole
in-leaves (Sessions framed) talk line whole = kept-leaves framed talk (unless_long line) whole
in-leaves Frames talk line whole = meant-leaves talk (meaning line) (meant-sayable line) whole
in-leaves Follow talk piece whole = frame-leaves talk.history (frame_in piece) (frame-said piece) whole

pub talk-leaves : (talk : Talk) (ls : List (List ℕ)) → IsHistory talk.history → IsHistory (after_lines talk ls).history
talk-leaves talk [] whole = whole
talk-leaves talk (l ∷ ls) whole = talk-leaves (after_line talk l) ls (in-leaves talk.form talk l whole)
