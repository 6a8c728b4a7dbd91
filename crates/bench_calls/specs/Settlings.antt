-- How often commits in a row settle.
use Rattle.std.specs.Prelude.{ℕ, ◌+◌, ◌-◌, ◌/◌}

-- how often so many commits find all 64 entries in use
abbrev pub settlings : ℕ → ℕ
settlings commits = (commits - 1) / 64

-- how many of so many commits leave an entry free behind theirs, whose gate they close
abbrev pub closings : ℕ → ℕ
closings commits = commits - commits / 64

-- how many slots the entries in use put into: 64 commits in a row, of so many puts from the next slot on each
abbrev pub slots_settled : ℕ → ℕ
slots_settled puts = 63 + puts

-- by how many writes: of 32 neighbouring slots at the most
abbrev pub slot_writes : ℕ → ℕ
slot_writes puts = (slots_settled puts + 31) / 32
