use Rattle.ss_program.proofs.Common.{◌+◌, ◌*◌, ◌≤◌, ℕ, Option, length, NothingPending, Step, fine, StandsShort, IsOpen, History}
use Rattle.ss_program.proofs.GenerateLemmas.{AreSingle, IsAt}
use Rattle.ss_program.proofs.generate.run_all.Given as goal

-- some first commands were done, and the replies to them are counted
abbrev pub invariant-loop-command : goal.invariant-loop-command
invariant-loop-command g l = record {
  single : AreSingle l.generator;
  lines : l.tally.lines + length l.generator ≤ 3 * l.fn.count + 7;
  done : l.tally.done ≤ l.tally.lines;
  refused : l.tally.refused ≤ l.tally.lines;
  is_open : IsOpen (g.D.Disk.seen l.disk) l.store;
  at : Step fine (g.D.Disk.seen l.fn.disk) (g.D.Disk.seen l.disk) (λ old now. NothingPending old → (used : Option ℕ) (history : History) →
      StandsShort used history old.content →
      IsAt used history l.fn.seed l.fn.count l.generator l.store.records old now l.tally);
}

abbrev pub decreases-loop-command : goal.decreases-loop-command
decreases-loop-command g l = length l.generator
