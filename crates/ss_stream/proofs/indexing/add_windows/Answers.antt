use Rattle.ss_stream.proofs.Common.{◌∙◌, ◌+◌, ap, arith, map, sym, take, Some, StandsIn, index_of, index_of-first, index_of-next, none-first}
use Rattle.ss_stream.proofs.Common.{entries_of, begun_at}
use Rattle.ss_stream.proofs.indexing.add_windows.Goals as goal
use Rattle.ss_stream.proofs.KeyedWindows.{FollowUpTo-take, FollowUpTo-tiles, StandsIn-below, none_past, take-all, take-none}
use Rattle.ss_stream.proofs.Rising.{TimesRise-any}

pub returns-in_default : goal.returns-in_default
returns-in_default g c =
    let none = none-first c.args.part.now.line.entries (sym c.in_default.is ∙ c.first.ensures.value) in
    record {
      target = c.requires.target;
      keyed = rw none c.requires.fresh;
      timed = c.requires.none ∙ ap (λ es. map begun_at es) (sym none);
    }

pub push_window-requires-clause-room : goal.push_window-requires-clause-room
push_window-requires-clause-room g c =
    let below = StandsIn-below c.args.part.now.line.entries c.places-places.result c.in-Some.at c.places-places.ensures.below
    c.in-Some.ensures.stands in
    omega (arith, below, c.places-places.ensures.value, c.requires.room)

pub push_window-requires-clause-keyed : goal.push_window-requires-clause-keyed
push_window-requires-clause-keyed g c =
    let first = index_of-first c.args.part.now.line.entries (Some c.in-Some.at) (sym c.in-Some.is ∙ c.first.ensures.value) in
    rw (first, take-none c.args.part.now.line.entries) c.requires.fresh

pub push_window-requires-clause-timed : goal.push_window-requires-clause-timed
push_window-requires-clause-timed g c =
    let first = index_of-first c.args.part.now.line.entries (Some c.in-Some.at) (sym c.in-Some.is ∙ c.first.ensures.value) in
    c.requires.none
    ∙ sym (ap (λ k. map begun_at (take k c.args.part.now.line.entries)) first ∙ ap (λ es. map begun_at es) (take-none c.args.part.now.line.entries))

pub push_window-requires-clause-rise : goal.push_window-requires-clause-rise
push_window-requires-clause-rise g c = TimesRise-any c.args.part.now.last_time (entries_of c.args.part.now) c.requires.ordered.times

pub push_window-requires-clause-follow : goal.push_window-requires-clause-follow
push_window-requires-clause-follow g c =
    FollowUpTo-take c.args.n (index_of c.args.part.now.line.entries c.in-Some.at + 1) c.args.part.now.line.entries
    (FollowUpTo-tiles c.args.n c.args.part.now.line.entries c.requires.ordered.tiles (omega (arith, c.requires.all)))

pub loop-next-init : goal.loop-next-init
loop-next-init g c = record {
  target = c.in_ok-push_window.ensures.target ∙ c.requires.target;
  stands = c.in-Some.ensures.stands;
  keyed = c.in_ok-push_window.ensures.keyed;
  timed = c.in_ok-push_window.ensures.timed;
  room = omega (arith, c.requires.room, c.in_ok-push_window.ensures.room);
}

pub neighbours-requires : goal.neighbours-requires
neighbours-requires g c = c.loop-next.invariant.stands

pub push_window-requires-in-Some-1₀-clause-room : goal.push_window-requires-in-Some-1₀-clause-room
push_window-requires-in-Some-1₀-clause-room g c =
    let stands : StandsIn c.args.part.now.line.entries c.in-Some-1₀.next = rw c.in-Some-1₀.is at c.neighbours.ensures.stand.1 in
    let below = StandsIn-below c.args.part.now.line.entries c.places-places.result c.in-Some-1₀.next c.places-places.ensures.below stands in
    omega (arith, below, c.places-places.ensures.value, c.loop-next.invariant.room)

pub push_window-requires-in-Some-1₀-clause-keyed : goal.push_window-requires-in-Some-1₀-clause-keyed
push_window-requires-in-Some-1₀-clause-keyed g c =
    let next = index_of-next c.args.part.now.line (index_of c.args.part.now.line.entries c.loop-next.at + 1) (Some c.in-Some-1₀.next)
    c.places-places.ensures.line (sym c.in-Some-1₀.is ∙ c.neighbours.ensures.behind) in
    rw next c.loop-next.invariant.keyed

pub push_window-requires-in-Some-1₀-clause-timed : goal.push_window-requires-in-Some-1₀-clause-timed
push_window-requires-in-Some-1₀-clause-timed g c =
    let next = index_of-next c.args.part.now.line (index_of c.args.part.now.line.entries c.loop-next.at + 1) (Some c.in-Some-1₀.next)
    c.places-places.ensures.line (sym c.in-Some-1₀.is ∙ c.neighbours.ensures.behind) in
    rw next c.loop-next.invariant.timed

pub push_window-requires-in-Some-1₀-clause-rise : goal.push_window-requires-in-Some-1₀-clause-rise
push_window-requires-in-Some-1₀-clause-rise g c = TimesRise-any c.args.part.now.last_time (entries_of c.args.part.now) c.requires.ordered.times

pub push_window-requires-in-Some-1₀-clause-follow : goal.push_window-requires-in-Some-1₀-clause-follow
push_window-requires-in-Some-1₀-clause-follow g c =
    FollowUpTo-take c.args.n (index_of c.args.part.now.line.entries c.in-Some-1₀.next + 1) c.args.part.now.line.entries
    (FollowUpTo-tiles c.args.n c.args.part.now.line.entries c.requires.ordered.tiles (omega (arith, c.requires.all)))

pub loop-next-smaller : goal.loop-next-smaller
loop-next-smaller g c =
    let next = index_of-next c.args.part.now.line (index_of c.args.part.now.line.entries c.loop-next.at + 1) (Some c.in-Some-1₀.next)
    c.places-places.ensures.line (sym c.in-Some-1₀.is ∙ c.neighbours.ensures.behind) in
    omega (arith, next, c.loop-next.invariant.stands)

pub loop-next-preserved : goal.loop-next-preserved
loop-next-preserved g c = record {
  target = c.in_ok-push_window-2.ensures.target ∙ c.loop-next.invariant.target;
  stands = rw c.in-Some-1₀.is at c.neighbours.ensures.stand.1;
  keyed = c.in_ok-push_window-2.ensures.keyed;
  timed = c.in_ok-push_window-2.ensures.timed;
  room = omega (arith, c.loop-next.invariant.room, c.in_ok-push_window-2.ensures.room);
}

pub returns : goal.returns
returns g c =
    let none = none_past c.args.part.now.line.entries (index_of c.args.part.now.line.entries c.loop-next.at + 1)
    (sym c.in_default-1₀.is ∙ c.neighbours.ensures.behind) in
    record {
      target = c.loop-next.invariant.target;
      keyed = rw take-all at c.loop-next.invariant.keyed;
      timed = rw take-all at c.loop-next.invariant.timed;
    }
