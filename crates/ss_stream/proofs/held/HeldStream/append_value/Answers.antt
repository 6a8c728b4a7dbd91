use Rattle.ss_stream.proofs.Common.{◌≡◌, ℕ, ◌+◌, ◌*◌, ◌≤◌, Result, Ok, Err, length, refl, arith, w64, to_z-of_z, err_from_is_err_and, on_ok_weaker, step-as}
use Rattle.ss_stream.proofs.Common.{after-step, step-next, New, with_plain_value, slots_held, IsHeldIn, ReadError, IsHalfway, with_single}
use Rattle.std.proofs.Common.{OnOk}
use Rattle.ss_stream.proofs.held.HeldStream.append_value.Goals as goal
use Rattle.ss_stream.proofs.Closings.{IsSameStream-more}
use Rattle.ss_stream.proofs.Costs.{StagesAtCost-failed, StagesAtCost-then}
use Rattle.ss_stream.proofs.LiveSlots.{AreSomeLive-go}
use Rattle.ss_stream.proofs.Sealings.{StagesStream-valued}
use Rattle.ss_stream.proofs.ShownCalls.{TurnsShown-failed}
use Rattle.ss_stream.proofs.Wholes.{StandsAfter-then}

pub returns-in_err-put_value-clause-takes : goal.returns-in_err-put_value-clause-takes
returns-in_err-put_value-clause-takes g c =
    let part = c.args.self.now.part in
    let t = c.args.t in
    let v = c.args.v in
    let p = err_from_is_err_and c.from_residual.result c.from_residual.ensures.1 in
    rw (p.1, p.2)
    (step-as (rw (to_z-of_z w64 v c.ranges.v) at c.in_err-put_value.ensures.puts) (λ put.
    StagesAtCost-failed _ refl (omega arith) (omega arith) put (λ single. record {
      turns = λ others s.
          TurnsShown-failed c.args.records.now c.put_value.new.records c.put_value.new.records (IsHeldIn others part s) (IsHalfway others part s t v)
          (IsHeldIn others c.put_value.new.self.part (with_single s t v))
          (IsHeldIn others c.put_value.new.self.part (with_plain_value s (t, v, New))) _ _ _ _ refl
          (single.turns others s);
      firm = single.firm;
    })))

pub stage_joins-requires-clause-live : goal.stage_joins-requires-clause-live
stage_joins-requires-clause-live g c =
    AreSomeLive-go (slots_held c.args.self.now.part) (slots_held c.put_value.new.self.part) c.args.records.now.live c.put_value.new.records.live c.requires.live
    c.in_ok-put_value.ensures.stands.whole.live

pub stage_joins-requires-clause-one_disk : goal.stage_joins-requires-clause-one_disk
stage_joins-requires-clause-one_disk g c = after-step c.in_ok-put_value.ensures.puts (λ told has. has.kept)

pub returns-clause-takes : goal.returns-clause-takes
returns-clause-takes g c =
    let t = c.args.t in
    let v = c.args.v in
    step-next (rw (to_z-of_z w64 v c.ranges.v) at c.in_ok-put_value.ensures.puts) c.stage_joins.ensures.closes (λ told then put joins.
    let knows = g.met.D.Disk.knows_now c.put_value.new.disk then in
    StagesAtCost-then {first = c.args.slot + 1} {second = 0} _ knows (omega arith) (omega arith) (omega (arith, c.in_ok-put_value.ensures.one_more)) put joins
    (StagesStream-valued {t = t} {v = v} c.stage_joins.result knows))

pub returns-clause-same : goal.returns-clause-same
returns-clause-same g c =
    IsSameStream-more c.args.self.now.part c.put_value.new.self.part c.stage_joins.new.self.part c.put_value.ensures.same c.stage_joins.ensures.same

-- a value is one window more, and each join one less
looks-joins : (result : Result (Unit {0}) ReadError) (start mid end was between is : ℕ) → between ≡ was + 1 → mid ≤ start + 5 →
    OnOk result (end + 11 * is ≤ mid + 11 * between + 1) → OnOk result ((joins : ℕ) → is + joins ≡ was + 1 → end ≤ start + 6 + 11 * joins)
looks-joins (Ok u) start mid end was between is more first rest = λ joins all. omega (arith, more, first, rest, all)
looks-joins (Err e) start mid end was between is more first rest = tt

pub returns-clause-looks : goal.returns-clause-looks
returns-clause-looks g c =
    looks-joins c.stage_joins.result c.args.steps.now c.put_value.new.steps c.stage_joins.new.steps (length c.args.self.now.part.line.entries)
    (length c.put_value.new.self.part.line.entries) (length c.stage_joins.new.self.part.line.entries) c.in_ok-put_value.ensures.one_more
    c.in_ok-put_value.ensures.looks c.stage_joins.ensures.looks

pub returns-clause-stands : goal.returns-clause-stands
returns-clause-stands g c = on_ok_weaker c.stage_joins.result (StandsAfter-then c.in_ok-put_value.ensures.stands) c.stage_joins.ensures.stands
