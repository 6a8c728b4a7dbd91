-- The commands of a generated command file.
use Rattle.std.specs.Prelude.{ℕ, zero, suc, ◌+◌, ◌*◌, ◌/◌, ◌%◌, ◌==◌, ℤ, List, [], ◌∷◌, ◌++◌, codes, if◌then◌else◌}
use Rattle.ss_catalog.specs.declared.event.Event.TheVariants.{Create, Value, Open, Close}
use Rattle.ss_catalog.specs.Params.{power}
use Rattle.ss_catalog.specs.declared.query.Kind.{Kind}
use Rattle.ss_catalog.specs.declared.query.Kind.TheVariants as kinds
use Rattle.ss_command.specs.declared.command.Command.{Command}
use Rattle.ss_command.specs.declared.command.Command.TheVariants as command
use Rattle.ss_generator.specs.Numbers.{time, value}
use Rattle.ss_generator.specs.declared.TheConstants.{CLOSING_ROUND, LANDMARK_ROUNDS, OPENING_ROUND}

-- the stream of all commands
abbrev pub stream : List ℕ
stream = codes "g"

-- `create g power 1 1 4 1`
abbrev pub create : Command
create = command.Do (Create stream (power 1 1 4 1))

-- `landmark g open T`, where round i opens a landmark
abbrev pub opening : ℕ → ℕ → List Command
opening i t = if i % LANDMARK_ROUNDS == OPENING_ROUND then command.Do (Open stream t) ∷ [] else []

-- `landmark g close T`, where round i closes a landmark
abbrev pub closing : ℕ → ℕ → List Command
closing i t = if i % LANDMARK_ROUNDS == CLOSING_ROUND then command.Do (Close stream t) ∷ [] else []

-- the commands of round i: `append g T V`, with a landmark opened before it or closed after it
abbrev pub of_round : ℕ → ℕ → ℤ → List Command
of_round i t v = opening i t ++ command.Do (Value stream t v) ∷ closing i t

-- the commands of the rounds up to and with round i
abbrev pub of_rounds : ℕ → ℕ → List Command
of_rounds seed zero = []
of_rounds seed (suc i) = of_rounds seed i ++ of_round (suc i) (time seed (suc i)) (value seed (suc i))

-- a query for the values from the first time to the last
abbrev pub ask : Kind → ℕ → ℕ → Command
ask kind from to = command.Ask (record { name = stream; kind = kind; from = from; to = to })

-- the queries up to the time t: two of all values, and four of those in the middle third of the times
abbrev pub queries : ℕ → List Command
queries t =
    let a = t / 3 in
    let b = (2 * t) / 3 in
    ask kinds.Count 0 t ∷ ask kinds.Sum 0 t ∷ ask kinds.Count a b ∷ ask kinds.Sum a b ∷ ask kinds.Min a b ∷ ask kinds.Max a b ∷ []

-- all commands in order
unfoldable pub commands : ℕ → ℕ → List Command
commands seed count = create ∷ of_rounds seed count ++ queries (time seed count)

-- so many commands a file of so many rounds has at most: three in a round, and seven besides
abbrev pub most_commands : ℕ → ℕ
most_commands count = 3 * count + 7
