use Rattle.std.proofs.Common.{◌≤◌, ℕ}
use Rattle.test_window.proofs.TimesLemmas.{All-put}
use Rattle.test_window.proofs.times.put.Goals as goal

pub returns : goal.returns
returns c =
    All-put (λ (k : ℕ). k ≤ c.args.last) c.args.t c.args.times.now c.put.new.self c.put.ensures.absent c.requires (record { 0 = c.args.at }) c.put.ensures.place
