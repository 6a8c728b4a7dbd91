use Rattle.ss_stream.proofs.Common.{◌∙◌, sym, ap, arith, rule_of, params_of, entries_of, values_held, entries_in, none-first}
use Rattle.ss_stream.proofs.counting.closed_windows.Goals as goal
use Rattle.ss_stream.proofs.Surveys.{IsCountedNext, IsCounted-first, IsCounted-next, StandsIn-counted, windows_left, windows_left-Agrees, windows_left-counted}

pub returns-in_default-clause-windows : goal.returns-in_default-clause-windows
returns-in_default-clause-windows g c s is agrees =
    let none = none-first c.args.part.now.line.entries (sym c.in_default.is ∙ c.first.ensures.value) in
    let rule = rule_of (params_of c.args.part.now.target) in
    sym (ap (λ es. windows_left rule (values_held (entries_of c.args.part.now)) (entries_in es)) none) ∙
    windows_left-Agrees c.args.part.now s is agrees

pub loop-next-init : goal.loop-next-init
loop-next-init g c =
    IsCounted-first (rule_of (params_of c.args.part.now.target)) c.values_held-n.result c.args.part.now.line.entries c.in-Some.at c.get-first.result
    (sym c.in-Some.is ∙ c.first.ensures.value) c.get-first.ensures.entry c.len-len.ensures.line.apart c.requires.tiles

pub neighbours-requires : goal.neighbours-requires
neighbours-requires g c =
    StandsIn-counted (rule_of (params_of c.args.part.now.target)) c.values_held-n.result c.args.part.now.line.entries c.loop-next.at c.loop-next.first
    c.loop-next.count c.loop-next.invariant

counted : (g : _) (c : goal.After-get-entry g) →
    IsCountedNext (rule_of (params_of c.args.part.now.target)) c.values_held-n.result c.args.part.now.line.entries c.loop-next.at c.in-Some-1₀.next
    c.loop-next.first c.loop-next.count c.get-entry.result
counted g c =
    IsCounted-next (rule_of (params_of c.args.part.now.target)) c.values_held-n.result c.args.part.now.line.entries c.loop-next.at c.in-Some-1₀.next
    c.loop-next.first c.loop-next.count c.get-entry.result c.loop-next.invariant c.len-len.ensures.line.apart c.requires.tiles
    (sym c.in-Some-1₀.is ∙ c.neighbours.ensures.behind) c.get-entry.ensures.entry

pub may_be_joined-requires-clause-order : goal.may_be_joined-requires-clause-order
may_be_joined-requires-clause-order g c = (counted g c).order

pub may_be_joined-requires-clause-taken : goal.may_be_joined-requires-clause-taken
may_be_joined-requires-clause-taken g c = let taken = (counted g c).taken in omega (arith, taken, c.values_held-n.ensures.value)

pub may_be_joined-requires-clause-few : goal.may_be_joined-requires-clause-few
may_be_joined-requires-clause-few g c = let few = (counted g c).few in omega (arith, few, c.values_held-n.ensures.value)

counted_apart : (g : _) (c : goal.Then-not-may_be_joined g) →
    IsCountedNext (rule_of (params_of c.args.part.now.target)) c.values_held-n.result c.args.part.now.line.entries c.loop-next.at c.in-Some-1₀.next
    c.loop-next.first c.loop-next.count c.get-entry.result
counted_apart g c =
    IsCounted-next (rule_of (params_of c.args.part.now.target)) c.values_held-n.result c.args.part.now.line.entries c.loop-next.at c.in-Some-1₀.next
    c.loop-next.first c.loop-next.count c.get-entry.result c.loop-next.invariant c.len-len.ensures.line.apart c.requires.tiles
    (sym c.in-Some-1₀.is ∙ c.neighbours.ensures.behind) c.get-entry.ensures.entry

pub loop-next-smaller-then-not-may_be_joined : goal.loop-next-smaller-then-not-may_be_joined
loop-next-smaller-then-not-may_be_joined g c = (counted_apart g c).further

pub loop-next-preserved-then-not-may_be_joined : goal.loop-next-preserved-then-not-may_be_joined
loop-next-preserved-then-not-may_be_joined g c = (counted_apart g c).apart (sym c.may_be_joined.ensures ∙ c.if-not-may_be_joined.true)

counted_joined : (g : _) (c : goal.Else-not-may_be_joined g) →
    IsCountedNext (rule_of (params_of c.args.part.now.target)) c.values_held-n.result c.args.part.now.line.entries c.loop-next.at c.in-Some-1₀.next
    c.loop-next.first c.loop-next.count c.get-entry.result
counted_joined g c =
    IsCounted-next (rule_of (params_of c.args.part.now.target)) c.values_held-n.result c.args.part.now.line.entries c.loop-next.at c.in-Some-1₀.next
    c.loop-next.first c.loop-next.count c.get-entry.result c.loop-next.invariant c.len-len.ensures.line.apart c.requires.tiles
    (sym c.in-Some-1₀.is ∙ c.neighbours.ensures.behind) c.get-entry.ensures.entry

pub loop-next-smaller : goal.loop-next-smaller
loop-next-smaller g c = (counted_joined g c).further

pub loop-next-preserved : goal.loop-next-preserved
loop-next-preserved g c = (counted_joined g c).joined (sym c.may_be_joined.ensures ∙ c.if-not-may_be_joined.false)

pub returns-clause-windows : goal.returns-clause-windows
returns-clause-windows g c s is agrees =
    let rule = rule_of (params_of c.args.part.now.target) in
    let all = windows_left-counted rule c.values_held-n.result c.args.part.now.line.entries c.loop-next.at c.loop-next.first c.loop-next.count
    c.loop-next.invariant (sym c.in_default-1₀.is ∙ c.neighbours.ensures.behind) in
    all.0 ∙ ap (λ n. windows_left rule n (entries_of c.args.part.now)) c.values_held-n.ensures.value ∙ windows_left-Agrees c.args.part.now s is agrees
