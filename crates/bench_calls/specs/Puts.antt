-- The puts of a commit.
use Rattle.std.specs.Prelude.{ℕ, zero, suc, ◌+◌, List, [], ◌∷◌, replicate}
use Rattle.ss_journal.specs.declared.put.Put.{Put}

-- puts into so many slots from the first on, each filled with the byte
abbrev pub puts_from : ℕ → ℕ → ℕ → List Put
puts_from first zero byte = []
puts_from first (suc count) byte = record { slot = first; bytes = replicate 128 byte } ∷ puts_from (first + 1) count byte
