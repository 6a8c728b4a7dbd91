use Rattle.ss_stream.proofs.Common.{refl, err_from_is_err_and, step-as, failed, fine, after-step, step-next, closed_stream, IsHeldIn, IsPartlyJoined}
use Rattle.ss_stream.proofs.held.HeldStream.close_windows.Goals as goal
use Rattle.ss_stream.proofs.Calls.{CrashTriple-failed, Turns-answers}
use Rattle.ss_stream.proofs.Joinings.{IsPartlyJoined-none}
use Rattle.ss_stream.proofs.Sealings.{IsHeldIn-of_map, IsPartlyJoined-closed, IsPartlyJoined-of_map, TurnsStream-not_sealed, TurnsStream-sealed}
use Rattle.ss_stream.proofs.Wholes.{KeepsAtRest-sealed}
use Rattle.ss_stream.proofs.Within.{KeepsWithin-answers, KeepsWithin-failed}

pub returns-in_err-stage_joins-clause-closes : goal.returns-in_err-stage_joins-clause-closes
returns-in_err-stage_joins-clause-closes g c =
    let part = c.args.self.now.part in
    let p = err_from_is_err_and c.from_residual.result c.from_residual.ensures.1 in
    rw (p.1, p.2)
    (step-as c.in_err-stage_joins.ensures.closes (λ joins.
    TurnsStream-not_sealed part IsPartlyJoined (λ others s. IsHeldIn others c.stage_joins.new.self.part (closed_stream s)) c.args.records.now _
    c.requires.at_rest.1 IsPartlyJoined-of_map (λ others s. IsPartlyJoined-none others part s) _ c.stage_joins.new.records c.stage_joins.new.records _ _
    (λ others s. IsHeldIn others c.stage_joins.new.self.part (closed_stream s)) refl joins))

pub seal-requires-clause-one_disk : goal.seal-requires-clause-one_disk
seal-requires-clause-one_disk g c = after-step c.in_ok-stage_joins.ensures.closes (λ told has. has.kept)

pub returns-in_err-seal-clause-closes : goal.returns-in_err-seal-clause-closes
returns-in_err-seal-clause-closes g c =
    let part = c.args.self.now.part in
    let now = c.stage_joins.new.self.part in
    let p = err_from_is_err_and c.from_residual-in_err-seal.result c.from_residual-in_err-seal.ensures.1 in
    rw (p.1, p.2)
    (step-next c.in_ok-stage_joins.ensures.closes c.in_err-seal.ensures.seals (λ told then staged seals.
    let all = TurnsStream-sealed part IsPartlyJoined (λ others s. IsHeldIn others now (closed_stream s)) c.args.records.now _ c.requires.at_rest.1
    IsPartlyJoined-of_map (λ others s. IsPartlyJoined-none others part s) failed c.stage_joins.new.records c.seal.new.self _ _ _
    (λ others s. IsHeldIn-of_map others now (closed_stream s)) (λ others s. IsPartlyJoined-closed others now s) tt
    (g.met.D.Disk.knows_now c.stage_joins.new.disk then) tt staged seals in
    record {
      turns = λ others s.
          CrashTriple-failed _ _ _ _ _ _ _ _ refl (all.turns others s);
      firm = all.firm;
      kept = tt;
      within = KeepsWithin-failed _ refl all.within;
    }))

pub returns-clause-closes : goal.returns-clause-closes
returns-clause-closes g c =
    let part = c.args.self.now.part in
    let now = c.stage_joins.new.self.part in
    step-next c.in_ok-stage_joins.ensures.closes c.in_ok-seal.ensures.seals (λ told then staged seals.
    let all = TurnsStream-sealed part IsPartlyJoined (λ others s. IsHeldIn others now (closed_stream s)) c.args.records.now _ c.requires.at_rest.1
    IsPartlyJoined-of_map (λ others s. IsPartlyJoined-none others part s) fine c.stage_joins.new.records c.seal.new.self _ _ _
    (λ others s. IsHeldIn-of_map others now (closed_stream s)) (λ others s. IsPartlyJoined-closed others now s) tt
    (g.met.D.Disk.knows_now c.stage_joins.new.disk then) c.in_ok-seal.ensures.sealed.sealed staged seals in
    record {
      turns = λ others s.
          Turns-answers (IsHeldIn others part s) (IsPartlyJoined others s) (IsHeldIn others now (closed_stream s)) _ _ c.in_ok-seal.field-0 _
          (all.turns others s);
      firm = all.firm;
      kept = all.kept;
      within = KeepsWithin-answers _ all.within;
    })

pub returns-clause-whole : goal.returns-clause-whole
returns-clause-whole g c = KeepsAtRest-sealed c.in_ok-stage_joins.ensures.stands.whole c.seal.ensures.live c.in_ok-seal.ensures.sealed
