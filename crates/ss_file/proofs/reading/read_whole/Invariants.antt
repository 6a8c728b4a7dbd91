use Rattle.std.proofs.Common.{◌-◌, ◌≡◌, ◌+◌, ◌<◌, ◌^◌, ℕ, List, length, ◌≤◌, get_or}
use Rattle.ss_file.specs.System.{KeepsAll}
use Rattle.ss_file.proofs.reading.read_whole.Given as goal

abbrev pub invariant-loop-done : goal.invariant-loop-done
invariant-loop-done g l = record {
  within : l.done ≤ length l.into;
  counts : g.S.System.faults l.initial.system ≤ g.S.System.faults l.system;
  keeps : KeepsAll (g.S.System.holds l.initial.system) (g.S.System.holds l.system);
  fits : (image : List ℕ) → g.S.System.fits l.system image → g.S.System.fits l.initial.system image;
  reads : l.at + length l.into < 2 ^ 64 → (image : List ℕ) → g.S.System.fits l.system image
      → (k : ℕ) → k < l.done → get_or l.into k 0 ≡ get_or image (l.at + k) 0;
}

-- each round moves a byte, or is one of few that may be interrupted
abbrev pub decreases-loop-done : goal.decreases-loop-done
decreases-loop-done g l = (length l.into - l.done) + (18446744073709551615 - l.interrupts)
