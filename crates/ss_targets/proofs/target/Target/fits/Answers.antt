use Rattle.ss_targets.specs.Targets.{target_lengths, lengths-positive}
use Rattle.ss_targets.proofs.FitLemmas.{leb-cut}
use Rattle.ss_targets.proofs.target.Target.fits.Goals as goal

pub returns : goal.returns
returns c =
    rw c.window_at.ensures.start
    (leb-cut (target_lengths c.args.self.now) _ c.args.l c.args.r c.args.n (lengths-positive c.args.self.now) c.requires.order c.window_at.ensures.holds)
