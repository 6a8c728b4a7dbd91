-- Where the stream of a name stands among those that are held.
use Rattle.std.specs.Prelude.{◌≡◌, ◌<◌, ℕ, List, length, slice_get, Option, Some, None}
use Rattle.ss_parts.specs.declared.parts.StreamParts.{StreamParts}
use Rattle.ss_store.specs.Kept.{part_named}

-- its place, or none exactly where no stream has the name
abbrev pub IsPlaceOf : List ℕ → List StreamParts → Option ℕ → Type 0
IsPlaceOf name parts None = part_named name parts ≡ None
IsPlaceOf name parts (Some place) = (place < length parts) × (slice_get parts place ≡ part_named name parts)
