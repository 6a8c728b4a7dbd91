use Rattle.std.proofs.Common.{Option, Some, None, IfNone, sym, ◌∙◌}
use Rattle.ss_targets.specs.Targets.{target_lengths, lengths-positive}
use Rattle.ss_targets.proofs.FitLemmas.{IsFirstFit-fits, IsFirstFit-found, Fits-found, Fits-none}
use Rattle.ss_targets.proofs.target.Target.first_fit.Goals as goal

if_none : {A : Type 0} {P : Type 0} (found : Option A) → P → IfNone found P
if_none None p = p
if_none (Some x) p = tt

pub returns-then-fits-clause-some : goal.returns-then-fits-clause-some
returns-then-fits-clause-some c =
    IsFirstFit-fits (target_lengths c.args.self.now) c.args.l c.args.r c.args.n (lengths-positive c.args.self.now) c.requires.order
    (sym c.fits.ensures ∙ c.if-fits.true)

pub returns-in_err-next-clause-none : goal.returns-in_err-next-clause-none
returns-in_err-next-clause-none c =
    if_none c.from_residual.result
    (Fits-none (target_lengths c.args.self.now) c.window_at-newest.result.index c.args.l c.args.r c.args.n (lengths-positive c.args.self.now)
    c.requires.order c.requires.taken (sym c.fits.ensures ∙ c.if-fits.false) c.window_at-newest.ensures.holds c.in_err-next.ensures.none)

pub returns-then-count-le-MOST_VALUES-clause-some : goal.returns-then-count-le-MOST_VALUES-clause-some
returns-then-count-le-MOST_VALUES-clause-some c =
    IsFirstFit-found (target_lengths c.args.self.now) c.window_at-newest.result.index c.args.l c.args.r c.args.n (lengths-positive c.args.self.now)
    c.requires.order c.requires.taken (sym c.fits.ensures ∙ c.if-fits.false) c.window_at-newest.ensures.holds c.in_ok-next.next c.in_ok-next.ensures.some

pub returns-else-count-le-MOST_VALUES-clause-none : goal.returns-else-count-le-MOST_VALUES-clause-none
returns-else-count-le-MOST_VALUES-clause-none c =
    Fits-found (target_lengths c.args.self.now) c.window_at-newest.result.index c.args.l c.args.r c.args.n (lengths-positive c.args.self.now)
    c.requires.order c.requires.taken (sym c.fits.ensures ∙ c.if-fits.false) c.window_at-newest.ensures.holds c.in_ok-next.next
    c.in_ok-next.ensures.some c.if-count-le-MOST_VALUES.false
