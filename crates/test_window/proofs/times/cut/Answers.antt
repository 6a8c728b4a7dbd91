use Rattle.std.proofs.Common.{◌≤◌, ℕ}
use Rattle.test_window.proofs.TimesLemmas.{All-cut}
use Rattle.test_window.proofs.times.cut.Goals as goal

pub returns : goal.returns
returns c =
    All-cut (λ (k : ℕ). k ≤ c.args.last) c.args.t c.args.times.now c.cut_out.new.self c.cut_out.ensures.absent c.requires c.cut_out.ensures.rest
