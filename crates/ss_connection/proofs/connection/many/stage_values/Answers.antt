use Rattle.ss_connection.proofs.ManyLemmas.{HasStaged-more, HasStaged-none, StagesMany-refused, StagesMany-starved, StagesMany-stopped, StagesSome, TakesFirst-all}
use Rattle.ss_connection.proofs.ManyLemmas.{length-values, name-at, other-reply}
use Rattle.ss_connection.specs.Calls.{OfHeld}
use Rattle.ss_connection.specs.Holds.{Holds}
use Rattle.ss_connection.specs.Many.{TakesFirst, values_at}
use Rattle.std.proofs.Common.{pos}
use Rattle.std.proofs.lemmas.Option.{get_or_from_slice_get}
use Rattle.ss_connection.specs.declared.connection.many.Taken.{Taken}
use Rattle.ss_program.proofs.Common.{◌≡◌, ◌∙◌, ◌<◌, ◌++◌, Err, arith, length, map, refl, rules, step-as, step-none, step-then, sym, take, added, LeavesOnly, Some, StandsForFirst}
use Rattle.ss_connection.proofs.connection.many.stage_values.Goals as goal

pub loop-taken-init : goal.loop-taken-init
loop-taken-init g c =
    let disk = g.D.Disk.seen c.args.disk.now in
    let name = c.args.name.now in
    let events = values_at name c.args.times.now c.args.values.now in
    record {
      serves = c.requires;
      most = c.min-most.ensures ∙ sym (length-values name c.args.times.now c.args.values.now);
      few = omega arith;
      refusal = refl;
      stages = step-none disk (StagesSome name events c.args.store.now.records c.args.store.now.records _) (λ told. record {
        each = λ history staged held. HasStaged-none (g.met.D.Disk.knows_now c.args.disk.now told) held;
      });
    }

pub loop-taken-preserved : goal.loop-taken-preserved
loop-taken-preserved g c =
    let name = c.args.name.now in
    let events = values_at name c.args.times.now c.args.values.now in
    let inv = c.loop-taken.invariant in
    let k = c.loop-taken.taken.count in
    let inside : k < length events = omega (arith, c.loop-taken-test.true, inv.most) in
    let event = c.event_at-event.result in
    let at = get_or_from_slice_get events k event event c.event_at-event.ensures in
    record {
      serves = c.in_ok-ack.ensures.serves;
      most = inv.most;
      few = omega (arith, inside, inv.most);
      refusal = inv.refusal;
      stages = step-then inv.stages c.in_ok-ack.ensures.stages (λ some stages. record {
        each = λ history staged held.
            let so_far = some.each history staged held in
            let did = rw c.in-Done.is at (stages.each history (staged ++ map added (take k events)) so_far.holds) in
            HasStaged-more event so_far inside at c.in-Done.ack
            (name-at name c.args.times.now c.args.values.now k event (pos 0) inside at) did;
      });
    }

pub returns-in_err-ack-clause-stages : goal.returns-in_err-ack-clause-stages
returns-in_err-ack-clause-stages g c =
    let name = c.args.name.now in
    let events = values_at name c.args.times.now c.args.values.now in
    let inv = c.loop-taken.invariant in
    let k = c.loop-taken.taken.count in
    let inside : k < length events = omega (arith, c.loop-taken-test.true, inv.most) in
    let event = c.event_at-event.result in
    let at = get_or_from_slice_get events k event event c.event_at-event.ensures in
    let status = c.in_err-ack.field-0.0 in
    let same : c.from_residual.result ≡ Err status = search rules in
    rw same (step-then inv.stages c.in_err-ack.ensures.stages (λ some stages. record {
      takes = λ history staged held. tt;
      holds = λ history staged held. tt;
      any_moment = λ history staged held.
          let so_far = some.each history staged held in
          let did = stages.each history (staged ++ map added (take k events)) so_far.holds in
          StagesMany-stopped event so_far inside at status did.0;
      starves = λ history staged held.
          let so_far = some.each history staged held in
          StagesMany-starved event so_far inside at status (stages.starves history (staged ++ map added (take k events)) so_far.holds);
    }))

pub returns-in-Refused-clause-stages : goal.returns-in-Refused-clause-stages
returns-in-Refused-clause-stages g c =
    let name = c.args.name.now in
    let events = values_at name c.args.times.now c.args.values.now in
    let inv = c.loop-taken.invariant in
    let k = c.loop-taken.taken.count in
    let inside : k < length events = omega (arith, c.loop-taken-test.true, inv.most) in
    let event = c.event_at-event.result in
    let at = get_or_from_slice_get events k event event c.event_at-event.ensures in
    let r = c.in-Refused.refusal in
    let taken : Taken = record { count = k; last = c.loop-taken.taken.last; refusal = Some r } in
    step-then inv.stages c.in_ok-ack.ensures.stages (λ some stages.
    let old = (g.D.Disk.seen c.args.disk.now).told in
    let new = (g.D.Disk.seen c.stage_event.new.disk).told in
    let all : OfHeld c.args.store.now.records old (λ history staged. TakesFirst (history ++ staged) name events taken
    × Holds history (staged ++ map added (take k events)) c.stage_event.new.store.records new
    × LeavesOnly old new (StandsForFirst history (staged ++ map added events))) = λ history staged held.
    let so_far = some.each history staged held in
    let did = rw c.in-Refused.is at (stages.each history (staged ++ map added (take k events)) so_far.holds) in
    StagesMany-refused event so_far inside at taken r refl refl refl did in
    record {
      takes = λ history staged held. (all history staged held).0;
      holds = λ history staged held. (all history staged held).1;
      any_moment = λ history staged held. (all history staged held).2;
      starves = λ history staged held. tt;
    })

pub returns-in_default : goal.returns-in_default
returns-in_default g c =
    let name = c.args.name.now in
    let events = values_at name c.args.times.now c.args.values.now in
    let inv = c.loop-taken.invariant in
    let k = c.loop-taken.taken.count in
    record {
      stages = step-then inv.stages c.in_ok-ack.ensures.stages (λ some stages.
          let wrong : OfHeld c.args.store.now.records (g.D.Disk.seen c.args.disk.now).told (λ history staged. ⊥) = λ history staged held.
          let did = stages.each history (staged ++ map added (take k events)) (some.each history staged held).holds in
          other-reply (history ++ (staged ++ map added (take k events))) c.event_at-event.result c.in_ok-ack.field-0 did.1 c.in_default.not-Done c.in_default.not-Refused in
          record {
            takes = λ history staged held. absurd (wrong history staged held);
            holds = λ history staged held. absurd (wrong history staged held);
            any_moment = λ history staged held. absurd (wrong history staged held);
            starves = λ history staged held. tt;
          });
      serves = c.in_ok-ack.ensures.serves;
      status = tt;
    }

pub returns-clause-stages : goal.returns-clause-stages
returns-clause-stages g c =
    let name = c.args.name.now in
    let events = values_at name c.args.times.now c.args.values.now in
    let inv = c.loop-taken.invariant in
    let taken = c.loop-taken.taken in
    let all : taken.count ≡ length events = omega (arith, c.loop-taken-test.false, inv.most, inv.few) in
    step-as inv.stages (λ some. record {
      takes = λ history staged held. TakesFirst-all taken all inv.refusal (some.each history staged held);
      holds = λ history staged held. (some.each history staged held).holds;
      any_moment = λ history staged held. (some.each history staged held).any_moment;
      starves = λ history staged held. tt;
    })
