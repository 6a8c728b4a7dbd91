-- What a put into a sink appends.
use Rattle.std.specs.Prelude.{◌≡◌, ℕ, ◌++◌, List, take, Option, Some, None, Result, Ok, Err}
use Rattle.ss_outside.specs.declared.source.Failed.{Failed}

-- a put that answers k appends the first k bytes of the piece, and one that fails none; whether the sink tells stays
abbrev pub Appends : Option (List ℕ) → Option (List ℕ) → Result ℕ Failed → List ℕ → Type 0
Appends None after result piece = after ≡ None
Appends (Some held) after (Err e) piece = after ≡ Some held
Appends (Some held) after (Ok k) piece = after ≡ Some (held ++ take k piece)
