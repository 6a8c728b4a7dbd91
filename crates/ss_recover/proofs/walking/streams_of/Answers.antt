use Rattle.ss_recover.proofs.Common.{◌∙◌, ap, arith, Err, err_from_is_err_and, subst, sym, TakesAs, WalksAs}
use Rattle.ss_recover.proofs.RunSound.{own-within}
use Rattle.ss_recover.proofs.RunsDone.{first-usable, IsDoneTo-more, IsDoneTo-none, rest-own, rest-usable, walk-refused, walks-end}
use Rattle.ss_recover.proofs.walking.streams_of.Goals as goal
use Rattle.std.proofs.lemmas.List.{nil_from_length}

pub loop-first-init : goal.loop-first-init
loop-first-init g c = IsDoneTo-none c.args.all.now c.new-walk.result c.new-walk.ensures

pub split_at-requires : goal.split_at-requires
split_at-requires g c = omega (arith, c.run_len.ensures, own-within c.stream_of-id.result c.in-Some.tail.now)

pub take-requires-clause-first : goal.take-requires-clause-first
take-requires-clause-first g c =
    first-usable c.args.all.now c.loop-first.left.now c.loop-first.walk c.loop-first.invariant c.requires.order c.requires.usable c.in-Some.first.now
    c.in-Some.tail.now c.in-Some.ensures.cases.0 c.stream_of-id.result c.run_len.result c.stream_of-id.ensures c.run_len.ensures c.split_at.result.0.now
    c.split_at.result.1.now c.split_at.ensures.front c.split_at.ensures.back

pub take-requires-clause-usable : goal.take-requires-clause-usable
take-requires-clause-usable g c =
    rest-usable c.args.all.now c.loop-first.left.now c.loop-first.walk c.loop-first.invariant c.requires.order c.requires.usable c.in-Some.first.now
    c.in-Some.tail.now c.in-Some.ensures.cases.0 c.stream_of-id.result c.run_len.result c.stream_of-id.ensures c.run_len.ensures c.split_at.result.0.now
    c.split_at.result.1.now c.split_at.ensures.front c.split_at.ensures.back

pub take-requires-clause-own : goal.take-requires-clause-own
take-requires-clause-own g c =
    rest-own c.args.all.now c.loop-first.left.now c.loop-first.walk c.loop-first.invariant c.requires.order c.requires.usable c.in-Some.first.now
    c.in-Some.tail.now c.in-Some.ensures.cases.0 c.stream_of-id.result c.run_len.result c.stream_of-id.ensures c.run_len.ensures c.split_at.result.0.now
    c.split_at.result.1.now c.split_at.ensures.front c.split_at.ensures.back

pub returns-in_err-take : goal.returns-in_err-take
returns-in_err-take g c =
    let gives = err_from_is_err_and c.from_residual.result c.from_residual.ensures.1 in
    subst (WalksAs c.args.all.now) (sym (gives.1 ∙ ap Err gives.2))
    (walk-refused c.args.all.now c.loop-first.left.now c.loop-first.walk c.loop-first.invariant c.requires.order c.requires.usable c.in-Some.first.now
    c.in-Some.tail.now c.in-Some.ensures.cases.0 c.stream_of-id.result c.run_len.result c.stream_of-id.ensures c.run_len.ensures c.split_at.result.0.now
    c.split_at.result.1.now c.split_at.ensures.front c.split_at.ensures.back
    c.take.new.self c.in_err-take.field-0.0
    (subst (TakesAs c.loop-first.walk c.take.new.self c.stream_of-id.result c.in-Some.first.now c.split_at.result.0.now) c.in_err-take.was c.take.ensures))

pub loop-first-preserved : goal.loop-first-preserved
loop-first-preserved g c =
    IsDoneTo-more c.args.all.now c.loop-first.left.now c.loop-first.walk c.loop-first.invariant c.requires.order c.requires.usable c.in-Some.first.now
    c.in-Some.tail.now c.in-Some.ensures.cases.0 c.stream_of-id.result c.run_len.result c.stream_of-id.ensures c.run_len.ensures c.split_at.result.0.now
    c.split_at.result.1.now c.split_at.ensures.front c.split_at.ensures.back
    c.take.new.self c.in_ok-take.ensures

pub returns : goal.returns
returns g c =
    walks-end c.loop-first.walk c.args.all.now c.loop-first.left.now c.loop-first.invariant (nil_from_length _ c.in_default.ensures.cases) c.requires.order
    c.requires.usable c.requires.few c.end.result c.end.ensures.ok c.end.ensures.err
