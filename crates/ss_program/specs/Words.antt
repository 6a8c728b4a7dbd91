-- What is said where the arguments of the command line aren't known.
use Rattle.std.specs.Prelude.{ℕ, List, [], ◌∷◌, ◌++◌, codes}

-- what is said where the arguments aren't known
abbrev pub usage : List ℕ
usage = codes "usage: summarystore STORE [run | check | gen SEED COUNT | [sessions] [framed] [batch] | frames [batch] | follow [batch]]" ++ 10 ∷ []
