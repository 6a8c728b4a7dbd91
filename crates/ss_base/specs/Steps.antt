-- What a counter begins with.
use Rattle.std.specs.Prelude.{◌≡◌, ℕ, ◌<◌}
use Rattle.std.specs.declared.sync.ledger.Blank.{Blank}

-- the blank is for a ledger of this name, which has these parts
pub record IsFresh (name parts : ℕ) (blank : Blank) : Type 0 where
  pub same_name : blank.name ≡ name
  pub same_parts : blank.parts ≡ parts
  pub some : 0 < parts
