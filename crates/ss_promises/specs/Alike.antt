-- Histories of the same events, whichever of their values are old, and lines whose replies may differ after them.
use Rattle.std.specs.Prelude.{◌≡◌, ℕ, ℤ, List, map, Some, Ok}
use Rattle.ss_catalog.specs.declared.query.Kind.TheVariants as kinds
use Rattle.ss_catalog.specs.declared.query.Query.{Query}
use Rattle.ss_command.specs.Grammar.{meaning}
use Rattle.ss_command.specs.declared.command.Command.TheVariants.{Ask}
use Rattle.ss_model.specs.Origins.{as_old}
use Rattle.ss_program.specs.Line.{History}

-- two histories have the same events
abbrev pub HaveSameEvents : History → History → Type 0
HaveSameEvents one other = map as_old one ≡ map as_old other

-- a line asks whether a value is there
abbrev pub AsksPresence : List ℕ → Type 0
AsksPresence line = (query : Query) × (value : ℤ) × (meaning line ≡ Ok (Some (Ask query))) × (query.kind ≡ kinds.Has value)
