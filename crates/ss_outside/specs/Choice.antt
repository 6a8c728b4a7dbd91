-- Which image a crash of a disk in memory leaves.
use Rattle.std.specs.Prelude.{◌≡◌, ◌⊎◌, ℕ, ◌+◌, ◌<◌, ◌≤◌, List, [], ◌∷◌, length, slice_index, EachIndex}
use Rattle.ss_outside.specs.Disk.{IsOutsideAll}
use Rattle.ss_outside.specs.MemDisk.{DiskState}
use Rattle.ss_outside.specs.declared.mem_disk.Choice.{Choice}
use Rattle.ss_outside.specs.declared.mem_disk.Choice.TheVariants.{Lost, Kept, Fill}

-- a place inside one of the ranges
abbrev pub IsInsideSome : List (ℕ × ℕ) → ℕ → Type 0
IsInsideSome [] place = ⊥
IsInsideSome (range ∷ ranges) place = ((range.0 ≤ place) × (place < range.0 + range.1)) ⊎ IsInsideSome ranges place

-- a place that a crash leaves free: past what was synced, or inside a range that is pending
abbrev pub IsFree : DiskState → ℕ → Type 0
IsFree s place = (length s.synced ≤ place) ⊎ IsInsideSome s.pending place

-- the greatest length, with this byte at each free place and what was synced at each other place
pub record IsFilled (s : DiskState) (byte : ℕ) (image : List ℕ) : Type 0 where
  pub longest : length image ≡ s.longest
  pub free : EachIndex image (λ place. IsFree s place → slice_index image place ≡ byte)
  pub kept : EachIndex s.synced (λ place. IsOutsideAll s.pending place → slice_index image place ≡ slice_index s.synced place)

-- the image that each choice takes
abbrev pub IsChosen : Choice → DiskState → List ℕ → Type 0
IsChosen Lost s image = image ≡ s.synced
IsChosen Kept s image = image ≡ s.content
IsChosen (Fill byte) s image = IsFilled s byte image
