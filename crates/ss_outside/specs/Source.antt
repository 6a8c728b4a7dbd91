-- What a read of a source moves, and how many bytes it takes.
use Rattle.std.specs.Prelude.{◌≡◌, ℕ, ◌+◌, ◌-◌, ◌^◌, ◌≤◌, min, List, [], take, drop, length, Option, Some, None, Result, Ok, Err}
use Rattle.ss_outside.specs.declared.source.Failed.{Failed}

-- a read moves the first bytes left to the front of `into`, none only at the end or where it fails; telling stays
abbrev pub Moves : Option (List ℕ) → Option (List ℕ) → Result ℕ Failed → List ℕ → Type 0
Moves None after result into = after ≡ None
Moves (Some left) after (Err e) into = after ≡ Some left
Moves (Some left) after (Ok k) into =
    (k ≤ length left) × (k ≡ 0 → left ≡ []) × (take k into ≡ take k left) × (after ≡ Some (drop k left))

-- a count rose by so many, or stands at the greatest number of 64 bits
abbrev pub RoseBy : ℕ → ℕ → ℕ → Type 0
RoseBy more before now = (min (before + more) (2 ^ 64 - 1) ≤ now) × (now ≤ before + more)

-- a read adds what it moved to the count of bytes taken, and nothing where it fails
abbrev pub Takes : ℕ → ℕ → Result ℕ Failed → Type 0
Takes before now (Ok k) = RoseBy k before now
Takes before now (Err e) = now ≡ before
