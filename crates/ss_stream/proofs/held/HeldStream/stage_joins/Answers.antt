use Rattle.ss_stream.proofs.Common.{◌∙◌, refl, sym, arith, Ok, err_from_is_err_and, step-as, step-none, after-step, step-next, rule_of, params_of}
use Rattle.ss_stream.proofs.Common.{entries_of, slots_held, NoEntriesAreDue}
use Rattle.ss_stream.proofs.held.HeldStream.stage_joins.Goals as goal
use Rattle.ss_stream.proofs.KeyedWindows.{NoEntriesAreDue-pairs}
use Rattle.ss_stream.proofs.Closings.{IsSameStream-more, TurnsShown-closes}
use Rattle.ss_stream.proofs.LiveSlots.{AreSomeLive-go}
use Rattle.ss_stream.proofs.Calls.{CrashTriple-failed}
use Rattle.ss_stream.proofs.Wholes.{JoinsWindows-more, JoinsWindows-none, StandsAfter-none, StandsAfter-then}
use Rattle.ss_stream.proofs.Costs.{StagesAtCost-answers, StagesAtCost-none, StagesAtCost-then}

pub loop-pair-init : goal.loop-pair-init
loop-pair-init g c = (
  record {
    step = step-none (g.D.Disk.seen c.args.disk.now) _ (λ told.
        let knows = g.met.D.Disk.knows_now c.args.disk.now told in
        StagesAtCost-none (Ok tt) knows refl (c.requires.one_disk told) (JoinsWindows-none c.args.self.now.part c.args.records.now _ knows));
    fewer = omega arith;
    same = record { id = refl; name = refl; target = refl; slot = refl; landmarks = refl };
    stands = StandsAfter-none c.args.self.now c.args.records.now c.requires.ordered c.requires.settled c.requires.keyed;
  },
  omega (arith, c.values_held-n.ensures.looks),
)

pub due-requires : goal.due-requires
due-requires g c = rw (c.loop-pair.invariant.0.stands.holds.values ∙ sym c.values_held-n.ensures.value) at c.loop-pair.invariant.0.stands.keyed.keyed

pub join-requires-clause-due : goal.join-requires-clause-due
join-requires-clause-due g c = record {
  ordered = c.loop-pair.invariant.0.stands.whole.ordered;
  keyed = c.loop-pair.invariant.0.stands.keyed;
  stands = c.in-Some.ensures.pair;
  due = rw (c.loop-pair.invariant.0.stands.holds.values, ← c.values_held-n.ensures.value, ← c.loop-pair.invariant.0.stands.keyed.target) c.in-Some.ensures.due;
}

pub join-requires-clause-live : goal.join-requires-clause-live
join-requires-clause-live g c =
    AreSomeLive-go (slots_held c.args.self.now.part) (slots_held c.loop-pair.self.part) c.args.records.now.live c.loop-pair.records.live c.requires.live
    c.loop-pair.invariant.0.stands.whole.live

pub join-requires-clause-one_disk : goal.join-requires-clause-one_disk
join-requires-clause-one_disk g c = after-step c.loop-pair.invariant.0.step (λ told has. has.kept)

pub loop-pair-preserved : goal.loop-pair-preserved
loop-pair-preserved g c =
    let before = c.loop-pair.invariant.0 in
    let after = c.in_ok-join.ensures in (
      record {
        step = step-next before.step after.joins (λ told then first second.
            let knows = g.met.D.Disk.knows_now c.loop-pair.disk then in
            StagesAtCost-then {first = 0} {second = 0} (Ok tt) knows (omega arith) (omega arith) (omega (arith, before.fewer, after.fewer)) first second
            (JoinsWindows-more (Ok tt) knows));
        fewer = omega (arith, before.fewer, after.fewer);
        same = IsSameStream-more c.args.self.now.part c.loop-pair.self.part c.join.new.self.part before.same c.join.ensures.same;
        stands = StandsAfter-then before.stands after.stands;
      },
      omega (arith, c.loop-pair.invariant.1, c.in-Some.ensures.looks, after.fewer, after.looks),
    )

pub returns-in_err-join-clause-closes : goal.returns-in_err-join-clause-closes
returns-in_err-join-clause-closes g c =
    let part = c.args.self.now.part in
    let p = err_from_is_err_and c.from_residual.result c.from_residual.ensures.1 in
    rw (p.1, p.2)
    (step-next c.loop-pair.invariant.0.step c.in_err-join.ensures.joins (λ told then first second.
    let knows = g.met.D.Disk.knows_now c.loop-pair.disk then in
    StagesAtCost-then {first = 0} {second = 0} _ knows (omega arith) (omega arith) (omega arith) first second (λ before joins.
    let all = JoinsWindows-more _ knows before joins in
    record {
      turns = λ others s.
          CrashTriple-failed _ _ _ _ _ _ _ _ refl (all.turns others s);
      firm = all.firm;
    })))

pub returns-in_err-join-clause-same : goal.returns-in_err-join-clause-same
returns-in_err-join-clause-same g c =
    IsSameStream-more c.args.self.now.part c.loop-pair.self.part c.join.new.self.part c.loop-pair.invariant.0.same c.join.ensures.same

pub returns-in_err-join-clause-changed : goal.returns-in_err-join-clause-changed
returns-in_err-join-clause-changed g c =
    let p = err_from_is_err_and c.from_residual.result c.from_residual.ensures.1 in
    rw (p.1, p.2, c.in_err-join.ensures.err) c.in_err-join.ensures.changed

-- at the end none is due
none_due : (g : _) (c : goal.In_default g) →
    NoEntriesAreDue (rule_of (params_of c.loop-pair.self.part.target)) c.values_held-n.result (entries_of c.loop-pair.self.part)
none_due g c =
    NoEntriesAreDue-pairs (rule_of (params_of c.loop-pair.self.part.target)) c.values_held-n.result c.loop-pair.self.part.line.entries
    (rw (← c.loop-pair.invariant.0.stands.keyed.target) c.in_default.ensures.none)

pub returns-clause-closes : goal.returns-clause-closes
returns-clause-closes g c =
    step-as c.loop-pair.invariant.0.step (λ joined. StagesAtCost-answers _ (omega arith) (omega arith) joined (λ joins. record {
      turns = λ others s.
          TurnsShown-closes c.args.records.now c.loop-pair.records others c.args.self.now.part c.loop-pair.self.part s c.values_held-n.result _ _
          (c.values_held-n.ensures.value ∙ sym c.loop-pair.invariant.0.stands.holds.values) (none_due g c) joins.turns;
      firm = λ others s held. tt;
    }))

pub returns-clause-none_due : goal.returns-clause-none_due
returns-clause-none_due g c = rw (c.values_held-n.ensures.value ∙ sym c.loop-pair.invariant.0.stands.holds.values) at (none_due g c)
