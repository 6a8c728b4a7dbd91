-- What frames bring that are written of lines, and what frames bring that are offered.
use Rattle.ss_program.proofs.Common.{◌≡◌, ◌∙◌, List, ℕ, Some, None, Result, Ok, Err, sym, ap, Event, Command, Do, Ask, Certify, Last, Values, arith}
use Rattle.ss_program.proofs.Common.{common_steps, Windows, FrameState, IsHistory, state, Told, shown_by, due_in, Due}
use Rattle.ss_program.proofs.Common.{AllAgree-recovered, StoreIsIn, StoreState, Stands, Amid, TakesTurn, History, due_brings, event_asked}
use Rattle.ss_program.proofs.Common.{frame_brings, after_lines, Talk, Turn, event_turn, meant_turn, silent, turn_brought, Status}
use Rattle.ss_command.specs.declared.command.Command.TheVariants.{Series as AskRows, List as ListAll}
use Rattle.ss_parts.specs.Held.{AllAgree}

-- a command that asks for an event brings its frame
pub meant-event : (talk : Talk) (command : Command) (event : Event) → Some event ≡ event_asked command →
    meant_turn talk (Ok (Some command)) ≡ event_turn talk event
meant-event talk (Do other) event is = let same : other ≡ event = cc in ap (event_turn talk) same
meant-event talk (Ask query) event is = cc
meant-event talk (Certify query end) event is = cc
meant-event talk (AskRows series) event is = cc
meant-event talk (Last name) event is = cc
meant-event talk (Values name from to) event is = cc
meant-event talk (Windows name) event is = cc
meant-event talk ListAll event is = cc

-- and any other brings nothing
pub meant-none : (talk : Talk) (command : Command) → None ≡ event_asked command → meant_turn talk (Ok (Some command)) ≡ silent talk
meant-none talk command is = grind (arith, common_steps)

-- a line is taken by any name of its turn
pub TakesTurn-alike : {from to : Amid} {result : Result (Unit {0}) Status} {old new : Told} (turn other : Talk → Turn) →
    ((talk : Talk) → other talk ≡ turn talk) → TakesTurn turn from to result old new → TakesTurn other from to result old new
TakesTurn-alike turn other alike takes sealing talk ls before line known =
    takes sealing talk ls before line (known ∙ alike (after_lines talk ls))

-- or by one that it has after each history that is shown
pub TakesTurn-where : {from to : Amid} {old new : Told} (result : Result (Unit {0}) Status) (turn other : Talk → Turn) →
    ((talk : Talk) → Stands talk.history (shown_by from.records old.content) → other talk ≡ turn talk) →
    TakesTurn turn from to result old new → TakesTurn other from to result old new
TakesTurn-where (Ok u) turn other alike takes sealing talk ls before line known = record {
  goes = λ at. (takes sealing talk ls before line (known ∙ alike (after_lines talk ls) at.shown.0)).goes at;
  stops = tt;
}
TakesTurn-where (Err status) turn other alike takes sealing talk ls before line known = record {
  goes = tt;
  stops = λ at. (takes sealing talk ls before line (known ∙ alike (after_lines talk ls) at.shown.0)).stops at;
}

-- what a frame brings that has this place beside what a store shows
pub frame-due : (frame now : FrameState) (due : Due) (store : StoreState) (image : List ℕ) (talk : Talk) → frame ≡ now → StoreIsIn store image →
    Stands talk.history image → ((history : History) → IsHistory history → AllAgree store.streams (state history) → due ≡ due_in history now) →
    turn_brought None talk (frame_brings talk.history (Some now)) ≡ turn_brought None talk (due_brings talk.history frame due)
frame-due frame now due store image talk same kept stands is =
    let agree = (AllAgree-recovered store image (state talk.history) kept stands.state).0 in
    ap (λ d. turn_brought None talk (due_brings talk.history now d)) (sym (is talk.history stands.is_history agree))
    ∙ ap (λ f. turn_brought None talk (due_brings talk.history f due)) (sym same)
