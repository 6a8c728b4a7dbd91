-- Which stream has to stand for a command.
use Rattle.std.specs.Prelude.{ℕ, List, Option, Some, None}
use Rattle.ss_catalog.specs.declared.event.Event.TheVariants.{Create, Value, Open, Close, Drop}
use Rattle.ss_command.specs.declared.command.Command.{Command}
use Rattle.ss_command.specs.declared.command.Command.TheVariants.{Do, Ask, Certify, Series as AskRows, Last, Values, Windows, List as ListAll}

-- the name of the stream that a command needs: all but a create, which makes one, and a list, which names none
abbrev pub needed : Command → Option (List ℕ)
needed (Do (Create name params)) = None
needed (Do (Value name t v)) = Some name
needed (Do (Open name t)) = Some name
needed (Do (Close name t)) = Some name
needed (Do (Drop name)) = Some name
needed (Ask query) = Some query.name
needed (Certify query end) = Some query.name
needed (AskRows series) = Some series.name
needed (Last name) = Some name
needed (Values name from to) = Some name
needed (Windows name) = Some name
needed ListAll = None
