use Rattle.std.proofs.Common.{◌-◌, ◌+◌, ◌<◌, ◌^◌, length, take, ◌≤◌}
use Rattle.ss_file.specs.System.{Keeps, lasts_write}
use Rattle.ss_file.proofs.writing.write_whole.Given as goal

abbrev pub invariant-loop-done : goal.invariant-loop-done
invariant-loop-done g l = record {
  within : l.done ≤ length l.bytes;
  counts : g.S.System.faults l.initial.system ≤ g.S.System.faults l.system;
  keeps : Keeps lasts_write (g.S.System.holds l.initial.system) (g.S.System.holds l.system);
  writes : l.at + length l.bytes < 2 ^ 64 → g.S.System.has_written l.system l.at (take l.done l.bytes);
}

-- each round moves a byte, or is one of few that may be interrupted
abbrev pub decreases-loop-done : goal.decreases-loop-done
decreases-loop-done g l = (length l.bytes - l.done) + (18446744073709551615 - l.interrupts)
