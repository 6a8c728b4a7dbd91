use Rattle.std.proofs.Common.{◌∙◌, ap, refl, sym}
use Rattle.ss_targets.specs.Targets.{lengths-positive}
use Rattle.ss_schedule.specs.Keyed.{ScheduleState, key_at, merge_rule}
use Rattle.ss_schedule.specs.Pairs.{pair_may_join}
use Rattle.ss_schedule.proofs.KeyedLemmas.{IsPairIn-read, IsPairOfKey-keyed, NoPairFits-keyed, fits-by, read-is, split-stands}
use Rattle.ss_schedule.proofs.schedule.Schedule.due.Goals as goal

pub returns-in_err-right-clause-none : goal.returns-in_err-right-clause-none
returns-in_err-right-clause-none g c =
    let keys = ap (λ (s : ScheduleState). s.keys) c.self.view_is in
    rw c.from_residual.ensures
    (NoPairFits-keyed c.args.n c.args.line.now.entries c.args.self.now (lengths-positive c.args.self.now.target) c.len-len.ensures.line.apart c.requires
    (λ at. rw keys at (c.in_err-right.ensures.none at)))

pub get-window-requires : goal.get-window-requires
get-window-requires g c =
    let some = c.in_ok-right.ensures.some in
    let key = ap (λ (s : ScheduleState). key_at s.keys c.in_ok-right.right) (sym c.self.view_is) ∙ some.2 in
    let it = IsPairOfKey-keyed c.args.n c.args.line.now.entries c.args.self.now c.in_ok-right.right c.in_ok-right.left some.0 c.requires key in
    (split-stands c.args.line.now.entries c.len-len.ensures.line.apart c.in_ok-right.right it.pair it.split c.in_ok-right.left it.key.left).0

pub get-next-requires : goal.get-next-requires
get-next-requires g c =
    let some = c.in_ok-right.ensures.some in
    let key = ap (λ (s : ScheduleState). key_at s.keys c.in_ok-right.right) (sym c.self.view_is) ∙ some.2 in
    let it = IsPairOfKey-keyed c.args.n c.args.line.now.entries c.args.self.now c.in_ok-right.right c.in_ok-right.left some.0 c.requires key in
    (split-stands c.args.line.now.entries c.len-len.ensures.line.apart c.in_ok-right.right it.pair it.split c.in_ok-right.left it.key.left).1

pub returns-clause-pair : goal.returns-clause-pair
returns-clause-pair g c =
    let some = c.in_ok-right.ensures.some in
    let key = ap (λ (s : ScheduleState). key_at s.keys c.in_ok-right.right) (sym c.self.view_is) ∙ some.2 in
    let it = IsPairOfKey-keyed c.args.n c.args.line.now.entries c.args.self.now c.in_ok-right.right c.in_ok-right.left some.0 c.requires key in
    IsPairIn-read c.args.line.now.entries c.len-len.ensures.line.apart c.in_ok-right.right it.pair it.split _
    (read-is c.args.line.now.entries c.len-len.ensures.line.apart c.in_ok-right.right it.pair it.split c.in_ok-right.left c.get-window.result
    c.get-next.result it.key.left c.get-window.ensures.entry c.get-next.ensures.entry)

pub returns-clause-fits : goal.returns-clause-fits
returns-clause-fits g c =
    let some = c.in_ok-right.ensures.some in
    let key = ap (λ (s : ScheduleState). key_at s.keys c.in_ok-right.right) (sym c.self.view_is) ∙ some.2 in
    let it = IsPairOfKey-keyed c.args.n c.args.line.now.entries c.args.self.now c.in_ok-right.right c.in_ok-right.left some.0 c.requires key in
    ap (pair_may_join (merge_rule c.args.self.now) c.args.n)
    (read-is c.args.line.now.entries c.len-len.ensures.line.apart c.in_ok-right.right it.pair it.split c.in_ok-right.left c.get-window.result
    c.get-next.result it.key.left c.get-window.ensures.entry c.get-next.ensures.entry)
    ∙ fits-by (merge_rule c.args.self.now) c.args.n some.0 it.pair (c.in_ok-right.left, some.0) (lengths-positive c.args.self.now.target)
    it.span some.1 refl it.key
