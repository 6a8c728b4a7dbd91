use Rattle.std.proofs.Common.{arith}
use Rattle.ss_targets.proofs.FirstFitLemmas.{NoneOfLength-last, FindsOfLength-next, IfSome-skip}
use Rattle.ss_targets.proofs.decay.Decay.next_at_least.Goals as goal

pub returns-then-spot-clause-none : goal.returns-then-spot-clause-none
returns-then-spot-clause-none g c =
    NoneOfLength-last (g.Self.Decay.length_of c.args.self.now) c.args.spot c.args.len c.requires.window (omega arith)

pub returns-then-len-next-clause-some : goal.returns-then-len-next-clause-some
returns-then-len-next-clause-some g c =
    FindsOfLength-next (g.met.Self.Decay.positive c.args.self.now) c.requires.window c.window_at-next.ensures.holds
    (record { start = c.window_at-next.ensures.start; len = c.window_at-next.ensures.len }) c.args.len (omega arith) c.if-len-next.true

pub returns-else-len-next-clause-some : goal.returns-else-len-next-clause-some
returns-else-len-next-clause-some g c =
    IfSome-skip (g.met.Self.Decay.positive c.args.self.now) c.requires.window c.window_at-next.ensures.holds
    (record { start = c.window_at-next.ensures.start; len = c.window_at-next.ensures.len }) c.args.len c.first_at_least.result
    (g.met.Self.Decay.never_falls c.args.self.now) c.if-len-next.false c.first_at_least.ensures.some
