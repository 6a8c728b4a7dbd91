use Rattle.std.proofs.Common.{◌≡◌, ◌+◌, ◌*◌, ◌<◌, ◌≤◌, ℕ, List, length, get_or}
use Rattle.ss_file.specs.System.{KeepsAll}
use Rattle.ss_file.proofs.foreign.holds_something.Given as goal

abbrev pub invariant-loop-n : goal.invariant-loop-n
invariant-loop-n g l = record {
  counts : g.S.System.faults l.initial.system ≤ g.S.System.faults l.system;
  keeps : KeepsAll (g.S.System.holds l.initial.system) (g.S.System.holds l.system);
  fits : (image : List ℕ) → g.S.System.fits l.system image → g.S.System.fits l.initial.system image;
  zeros : (image : List ℕ) → g.S.System.fits l.system image → l.fn.size ≡ length image
      → (place : ℕ) → 36864 ≤ place → place < 36864 + l.n * 4096 → get_or image place 0 ≡ 0;
}
