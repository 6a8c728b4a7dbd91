-- An image of a file, and what is to be done to the file.
use Rattle.std.specs.Prelude.{ℕ, [], false}
use Rattle.ss_outside.specs.Disk.{DiskView}

-- Of the file itself nothing is told, but how many calls have failed.
abbrev pub untold : ℕ → DiskView
untold faults = record {
  tells = false;
  told = record { content = []; may_leave = λ _. ⊥; moment = 0; left_since = λ _ _. ⊥; syncs = 0 };
  faults = faults;
}
