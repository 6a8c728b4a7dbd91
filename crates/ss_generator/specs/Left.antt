-- Which commands a generator still has to give.
use Rattle.std.specs.Prelude.{ℕ, zero, suc, ◌+◌, List, [], ◌∷◌, ◌++◌, drop}
use Rattle.ss_catalog.specs.declared.event.Event.TheVariants.{Value, Open, Close}
use Rattle.ss_command.specs.declared.command.Command.{Command}
use Rattle.ss_command.specs.declared.command.Command.TheVariants as commands
use Rattle.ss_generator.specs.Commands.{closing, create, of_round, queries, stream}
use Rattle.ss_generator.specs.Numbers.{delay, number_after, generated_value}
use Rattle.ss_generator.specs.declared.phase.Phase.{Phase}
use Rattle.ss_generator.specs.declared.phase.Phase.TheVariants as phases
use Rattle.ss_generator.specs.declared.phase.Question.{Question}
use Rattle.ss_generator.specs.declared.phase.Question.TheVariants as questions
use Rattle.ss_generator.specs.declared.round.Round.{Round}

-- what comes after round i, which has the number x and the time t, where n more rounds come
abbrev pub after : ℕ → ℕ → ℕ → ℕ → List Command
after i x t zero = queries t
after i x t (suc n) =
    let y = number_after x in
    let u = t + delay y in
    of_round (suc i) u (generated_value y) ++ after (suc i) y u n

-- what comes after a round
abbrev pub after_round : Round → List Command
after_round round = after round.place round.number round.time round.left

-- a query and those after it
abbrev pub from_question : Question → ℕ → List Command
from_question questions.CountOfAll t = queries t
from_question questions.SumOfAll t = drop 1 (queries t)
from_question questions.Count t = drop 2 (queries t)
from_question questions.Sum t = drop 3 (queries t)
from_question questions.Min t = drop 4 (queries t)
from_question questions.Max t = drop 5 (queries t)

-- what comes from the value of a round on
abbrev pub from_value : Round → List Command
from_value round = commands.Do (Value stream round.time (generated_value round.number)) ∷ closing round.place round.time ++ after_round round

-- what comes from a phase of a round on
abbrev pub left : Round → Phase → List Command
left round phases.Create = create ∷ after_round round
left round phases.Open = commands.Do (Open stream round.time) ∷ from_value round
left round phases.Append = from_value round
left round phases.Close = commands.Do (Close stream round.time) ∷ after_round round
left round (phases.Ask question) = from_question question round.time
left round phases.Done = []
