use Rattle.std.proofs.Common.{◌≡◌, ap, sym, subst, refl, true, arith, ◌+◌}
use Rattle.std.proofs.lemmas.Bool.{both_ways, true_from_ne_false}
use Rattle.std.specs.Option.{is_some}
use Rattle.ss_landmarks.specs.Landmark.{open_landmark}
use Rattle.ss_landmarks.specs.Order.{AllEndBy}
use Rattle.bench_calls.proofs.landmarks.take.Goals as goal

pub start-requires-clause-after : goal.start-requires-clause-after
start-requires-clause-after c =
    let none = c.opened.ensures.none.0 (ap is_some c.in-Open-None.is-1) in
    let ends = subst (AllEndBy c.args.last) (sym c.reserve.ensures.landmarks) c.requires.ends in
    c.times_may_follow.ensures.open c.reserve.new.self.landmarks c.args.last (c.args.last + 1) ends none (omega arith)

pub add-requires-clause-after : goal.add-requires-clause-after
add-requires-clause-after c =
    let told : is_some c.opened.result ≡ true = rw c.in-Add-Some.is-1 refl in
    let some = true_from_ne_false (is_some (open_landmark c.reserve.new.self.landmarks)) (λ none. both_ways _ (c.opened.ensures.none.1 none) told) in
    let ends = subst (AllEndBy c.args.last) (sym c.reserve.ensures.landmarks) c.requires.ends in
    c.times_may_follow.ensures.take c.reserve.new.self.landmarks c.args.last (c.args.last + 1) ends some (omega arith)
