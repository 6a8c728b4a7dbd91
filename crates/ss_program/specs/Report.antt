-- The report of an input: what is said to it after a history, and which events are accepted of it.
use Rattle.std.specs.Prelude.{◌≢◌, ℕ, List, [], ◌∷◌, ◌++◌, All, Some, Ok}
use Rattle.ss_catalog.specs.declared.event.Event.TheVariants.{Create}
use Rattle.ss_catalog.specs.declared.params.Params.{Params}
use Rattle.ss_command.specs.Grammar.{meaning}
use Rattle.ss_command.specs.declared.command.Command.TheVariants.{Do}
use Rattle.ss_report.specs.declared.reply.Reply.{Reply}
use Rattle.ss_model.specs.History.{Happened}
use Rattle.ss_program.specs.Line.{History, brings, history_after, the_event}
use Rattle.ss_program.specs.Steps.{steps, steps_so_far}
use Rattle.ss_program.specs.Talk.{Talk, after_turn, plain_talk, turn_of}

-- the conversation after a line
abbrev pub after_line : Talk → List ℕ → Talk
after_line talk line = after_turn talk (turn_of talk line)

-- the conversation after some lines
abbrev pub after_lines : Talk → List (List ℕ) → Talk
after_lines talk [] = talk
after_lines talk (line ∷ ls) = after_lines (after_line talk line) ls

-- the events that are accepted of some lines
abbrev pub accepted : Talk → List (List ℕ) → List Happened
accepted talk [] = []
accepted talk (line ∷ ls) = the_event (turn_of talk line).event ++ accepted (after_line talk line) ls

-- the text that is said to some lines
abbrev pub text_of : Talk → List (List ℕ) → List ℕ
text_of talk [] = []
text_of talk (line ∷ ls) = (turn_of talk line).says ++ text_of (after_line talk line) ls

-- the report of an input
abbrev pub report : Talk → List ℕ → List ℕ
report talk input = text_of talk (steps talk.form input)

-- the report of the steps that have ended
abbrev pub report_so_far : Talk → List ℕ → List ℕ
report_so_far talk input = text_of talk (steps_so_far talk.form input)

-- the history after some plain lines
abbrev pub plain_after : History → List (List ℕ) → History
plain_after history ls = (after_lines (plain_talk history) ls).history

-- the replies to some plain lines
abbrev pub replies : History → List (List ℕ) → List Reply
replies history [] = []
replies history (line ∷ ls) = (brings history line).replies ++ replies (history_after history (brings history line)) ls

-- none of some lines creates the stream of a name
abbrev pub NoneCreates : List ℕ → List (List ℕ) → Type 0
NoneCreates name ls = All (λ line. (params : Params) → meaning line ≢ Ok (Some (Do (Create name params)))) ls
