-- What a run sees of its store's disk and of its sink.
use Rattle.std.specs.Prelude.{ℕ, List, Option}
use Rattle.ss_outside.specs.Disk.{DiskView}

-- The disk as it is to a contract, the bytes that the sink tells it holds, and how many of the sink's calls have failed.
pub record Devices : Type 1 where
  pub disk : DiskView
  pub held : Option (List ℕ)
  pub faults : ℕ

-- the same by what is known of each
abbrev pub over : DiskView → Option (List ℕ) → ℕ → Devices
over disk held faults = record { disk = disk; held = held; faults = faults }
