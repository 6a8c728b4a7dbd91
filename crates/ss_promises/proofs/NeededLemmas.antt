-- What a command brings whose stream doesn't stand.
use Rattle.ss_program.proofs.Common.{◌≡◌, ◌∙◌, ℕ, Bool, false, List, [], ◌∷◌, ◌++◌, Option, Some, None, Ok, refl, ap, All, append-nil, Sessions}
use Rattle.ss_program.proofs.Common.{whole_query, Create, Value, Open, Close, Drop, Refusal, Unknown, meaning, Command, Do, Ask, Certify, Last, Values, Windows}
use Rattle.ss_program.proofs.Common.{Happened, creates, stands, state, cursor_of, To, New, Brought, History, brings, command_in}
use Rattle.ss_promises.specs.Asked.{IsAsked, IsOrder}
use Rattle.ss_program.proofs.Common.{meaning_brings, refused, the_event, unless_refused, accepted, after_line, after_lines, Talk, Turn, is_framed}
use Rattle.ss_promises.specs.Needed.{needed}
use Rattle.ss_program.proofs.Common.{turn_brought, turn_of, turn_said}
use Rattle.ss_command.specs.declared.command.Command.TheVariants.{Series as AskRows, List as ListAll}
use Rattle.ss_model.specs.Answers.{refuses_query}
use Rattle.ss_model.specs.Newest.{refuses_values}
use Rattle.ss_model.proofs.StepLemmas.{stands-outline}
use Rattle.ss_model.specs.Refusals.{refuses, refuses_reading}
use Rattle.ss_model.specs.State.{stream_named}
use Rattle.ss_sessions.specs.Cursors.{refuses_cursor}
use Rattle.ss_promises.proofs.AnewLemmas.{unknown-dropped, unknown-more}
use Rattle.ss_promises.proofs.ConversationLemmas.{asked-brings}
use Rattle.ss_program.proofs.CursorLemmas.{open-refused}
use Rattle.ss_promises.proofs.HeardLemmas.{turn-heard}
use Rattle.ss_program.proofs.ReportLemmas.{after_lines-accepted, after_lines-form, after_lines-push}
use Rattle.ss_sessions.specs.declared.order.Order.TheVariants as orders

refused-unknown : (refusal : Option Refusal) (brought : Brought) → refusal ≡ Some Unknown → unless_refused refusal brought ≡ refused Unknown
refused-unknown refusal brought is = ap (λ r. unless_refused r brought) is

-- the first reason for which an event, a query, a look at a stream or at the values of its landmarks is refused
command-unstood : (framed : Bool) (history : History) (command : Command) (name : List ℕ) → needed command ≡ Some name →
    ((other : List ℕ) → needed command ≡ Some other → stands other (state history) ≡ false) → command_in framed history command ≡ refused Unknown
unfolding refuses refuses_query refuses_reading refuses_values
command-unstood framed history (Do (Create other params)) name needs unknown = cc
command-unstood framed history (Do (Value other t v)) name needs unknown =
    let none = unknown other refl in refused-unknown (refuses (state history) (Value other t v)) _
    (rw (stands-outline (stream_named other (state history)) ∙ none) refl)
command-unstood framed history (Do (Open other t)) name needs unknown =
    let none = unknown other refl in refused-unknown (refuses (state history) (Open other t)) _
    (rw (stands-outline (stream_named other (state history)) ∙ none) refl)
command-unstood framed history (Do (Close other t)) name needs unknown =
    let none = unknown other refl in refused-unknown (refuses (state history) (Close other t)) _
    (rw (stands-outline (stream_named other (state history)) ∙ none) refl)
command-unstood framed history (Do (Drop other)) name needs unknown =
    let none = unknown other refl in refused-unknown (refuses (state history) (Drop other)) _
    (rw (stands-outline (stream_named other (state history)) ∙ none) refl)
command-unstood framed history (Ask query) name needs unknown =
    let none = unknown query.name refl in refused-unknown (refuses_query (state history) query) _ (rw none refl)
command-unstood framed history (Certify query end) name needs unknown =
    let none = unknown query.name refl in refused-unknown (refuses_query (state history) query) _ (rw none refl)
command-unstood framed history (AskRows series) name needs unknown =
    let none = unknown series.name refl in refused-unknown (refuses_query (state history) (whole_query series)) _ (rw none refl)
command-unstood framed history (Last other) name needs unknown =
    let none = unknown other refl in refused-unknown (refuses_reading (state history) other) _ (rw none refl)
command-unstood framed history (Values other from to) name needs unknown =
    let none = unknown other refl in refused-unknown (refuses_values (state history) other from to) _ (rw none refl)
command-unstood framed history (Windows other) name needs unknown =
    let none = unknown other refl in refused-unknown (refuses_reading (state history) other) _ (rw none refl)
command-unstood framed history ListAll name needs unknown = cc

pub command-unknown : (framed : Bool) (history : History) (command : Command) (name : List ℕ) → needed command ≡ Some name →
    stands name (state history) ≡ false → command_in framed history command ≡ refused Unknown
command-unknown framed history command name needs unknown =
    command-unstood framed history command name needs (λ other is. let same : name ≡ other = cc in rw same at unknown)

-- a plain line that says it
pub line-unknown : (history : History) (line : List ℕ) (command : Command) (name : List ℕ) → meaning line ≡ Ok (Some command) → needed command ≡ Some name →
    stands name (state history) ≡ false → brings history line ≡ refused Unknown
line-unknown history line command name means needs unknown =
    ap (meaning_brings history) means ∙ command-unknown false history command name needs unknown

-- a turn that is a refusal adds no event
turn-still : (talk : Talk) (line : List ℕ) (turn : Turn) → turn_of talk line ≡ turn → turn.event ≡ None → (after_line talk line).history ≡ talk.history
turn-still talk line turn is none =
    ap (λ (t : Turn). talk.history ++ the_event t.event) is ∙ ap (λ e. talk.history ++ the_event e) none ∙ append-nil talk.history

-- a line of either form that asks for it
pub turn-unknown : (talk : Talk) (speaker : Option ℕ) (command : Command) (line name : List ℕ) → IsAsked talk.form speaker command line →
    needed command ≡ Some name → stands name (state talk.history) ≡ false →
    (turn_of talk line ≡ turn_brought speaker talk (refused Unknown)) × ((after_line talk line).history ≡ talk.history)
turn-unknown talk speaker command line name asked needs unknown =
    let is = asked-brings talk speaker command line asked
    ∙ ap (turn_brought speaker talk) (command-unknown (is_framed talk.form) talk.history command name needs unknown) in
    (is, turn-still talk line (turn_brought speaker talk (refused Unknown)) is refl)

-- and one that opens a cursor
pub cursor-unknown : (framed : Bool) (talk : Talk) (session : ℕ) (line name : List ℕ) → talk.form ≡ Sessions framed →
    IsOrder session (orders.Open name) line → stands name (state talk.history) ≡ false →
    (turn_of talk line ≡ turn_brought (Some session) talk (refused Unknown)) × ((after_line talk line).history ≡ talk.history)
unfolding refuses_cursor
cursor-unknown framed talk session line name form opens unknown =
    let why : refuses_cursor (state talk.history) name (cursor_of talk.cursors session) ≡ Some Unknown = rw unknown refl in
    let is = turn-heard framed talk line (To session (Ok (Some (orders.Open name)))) form opens
    ∙ ap (turn_said (Some session)) (open-refused talk.history talk.cursors session name Unknown why) in
    (is, turn-still talk line (turn_brought (Some session) talk (refused Unknown)) is refl)

-- after a line that dropped a stream, until an event creates it, it doesn't stand
pub unknown-lines : (talk : Talk) (before between : List (List ℕ)) (dropping name : List ℕ) →
    let there = after_lines talk (before ++ dropping ∷ []) in
    (turn_of (after_lines talk before) dropping).event ≡ Some (Drop name) →
    All (λ (e : Happened). creates name e.0 ≡ false) (accepted there between) →
    stands name (state (after_lines there between).history) ≡ false
unknown-lines talk before between dropping name drops spared =
    let here = after_lines talk before in
    let there = after_lines talk (before ++ dropping ∷ []) in
    let dropped : there.history ≡ here.history ++ (Drop name, New) ∷ [] =
    ap (λ (t : Talk). t.history) (after_lines-push talk before dropping) ∙ ap (λ e. here.history ++ the_event e) drops in
    ap (λ h. stands name (state h)) (after_lines-accepted there between)
    ∙ unknown-more name there.history (accepted there between) spared (rw dropped (unknown-dropped name here.history New))

-- the form stays
pub form-lines : (talk : Talk) (before between : List (List ℕ)) → (after_lines (after_lines talk before) between).form ≡ talk.form
form-lines talk before between = after_lines-form (after_lines talk before) between ∙ after_lines-form talk before
