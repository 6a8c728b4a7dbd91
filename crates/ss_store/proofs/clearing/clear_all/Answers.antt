use Rattle.ss_stream.proofs.Within.{KeepsWithin-not_sealed, KeepsWithin-sealed}
use Rattle.ss_store.proofs.Common.{◌∙◌, refl, err_from_is_err_and, on_ok_weaker, step-as, after-step, step-next}
use Rattle.ss_store.proofs.Clearings.{ClearsSlots-not_sealed, ClearsSlots-sealed}
use Rattle.ss_store.proofs.clearing.clear_all.Goals as goal

pub returns-in_err-stage_clearing-clause-clears : goal.returns-in_err-stage_clearing-clause-clears
returns-in_err-stage_clearing-clause-clears g c =
    let p = err_from_is_err_and c.from_residual.result c.from_residual.ensures.1 in
    rw (p.1, p.2)
    (step-as c.in_err-stage_clearing.ensures.clears (λ staged. record {
      changes = ClearsSlots-not_sealed c.args.doomed.now c.args.records.now _ c.requires.at_rest.1 c.stage_clearing.new.records _ _ _ refl staged.changes;
      kept = tt;
      within = KeepsWithin-not_sealed c.requires.at_rest.1 _ refl staged.within;
    }))

pub seal-requires-clause-one_disk : goal.seal-requires-clause-one_disk
seal-requires-clause-one_disk g c = after-step c.in_ok-stage_clearing.ensures.clears (λ told has. has.kept)

pub returns-clause-clears : goal.returns-clause-clears
returns-clause-clears g c =
    let sealed = on_ok_weaker c.seal.result (λ sealed. sealed.sealed) c.seal.ensures.sealed in
    step-next c.in_ok-stage_clearing.ensures.clears c.seal.ensures.seals (λ told then staged seals.
    let knows = g.met.D.Disk.knows_now c.stage_clearing.new.disk then in
    record {
      changes = ClearsSlots-sealed c.args.doomed.now c.args.records.now _ c.requires.at_rest.1 c.stage_clearing.new.records c.seal.new.self _ _ _ _ knows sealed
          staged.changes seals.keeps_shown;
      kept = seals.kept;
      within = KeepsWithin-sealed c.requires.at_rest.1 c.seal.new.self _ knows sealed staged.within seals.keeps_shown;
    })

pub returns-clause-extent : goal.returns-clause-extent
returns-clause-extent g c = on_ok_weaker c.seal.result (λ sealed. sealed.extent ∙ c.in_ok-stage_clearing.ensures.extent) c.seal.ensures.sealed
