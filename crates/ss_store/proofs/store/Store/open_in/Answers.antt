use Rattle.ss_store.proofs.Common.{◌≡◌, ◌∙◌, sym, ap, arith, false, length, map, refl, List, length-map, err_from_is_err_and, after-step, step-from}
use Rattle.ss_store.proofs.Common.{step-next, HeldStream, entry_of, held_parts}
use Rattle.ss_store.proofs.IndexedStreams.{stored}
use Rattle.std.proofs.Common.{vec_len, Vec}
use Rattle.std.specs.Global.{Global}
use Rattle.std.specs.Vec.{with_items}
use Rattle.std.proofs.lemmas.List.{with_items_is}
use Rattle.ss_stream.proofs.Rising.{ordered-all}
use Rattle.ss_store.specs.declared.error.OpenError.TheVariants.{OutOfMemory}
use Rattle.ss_store.proofs.Opens.{OpensStore-closed, OpensStore-read, OpensStore-unclosed, verdict-fault}
use Rattle.ss_store.proofs.Steps.{step-handed}
use Rattle.ss_store.proofs.store.Store.open_in.Goals as goal

-- the streams as closing left them, in their place
items_are : (v : Vec HeldStream Global) (now was : List HeldStream) → map entry_of (held_parts now) ≡ map entry_of (held_parts was) → length was ≡ vec_len v →
    (with_items v now).items ≡ now
items_are v now was entries long =
    let part = λ (h : HeldStream). h.part in
    with_items_is v now (omega (
      arith,
      length-map now part,
      length-map was part,
      length-map (held_parts now) entry_of,
      length-map (held_parts was) entry_of,
      ap length entries,
      long,
    ))

pub settle_all-requires-clause-whole : goal.settle_all-requires-clause-whole
settle_all-requires-clause-whole g c =
    let same_parts = ap held_parts c.deref_mut.ensures.value ∙ c.in_ok-streams.ensures.parts in
    rw (same_parts, c.deref-2.ensures.value) c.in_ok-records.ensures.whole

pub invariant_of-result : goal.invariant_of-result
invariant_of-result g c =
    let now = c.settle_all.new.streams in
    let done = c.in_ok-settle_all.ensures in
    let same_parts = ap held_parts c.deref_mut.ensures.value ∙ c.in_ok-streams.ensures.parts in
    let same = items_are c.in_ok-streams.streams now c.deref_mut.result.now done.entries c.deref_mut.ensures.len in
    let listed = c.in_ok-catalog.ensures ∙ ap (map entry_of) (c.deref.ensures.value ∙ sym same_parts) ∙ sym done.entries in (
      rw same (record { listed = listed; numbers = done.whole.numbers; settled = λ runs. done.at_rest.0; whole = λ runs. done.whole }),
      λ run. rw same done.scheduled,
    )

pub returns-in_err-records-clause-opens : goal.returns-in_err-records-clause-opens
returns-in_err-records-clause-opens g c =
    let p = err_from_is_err_and c.from_residual.result c.from_residual.ensures.1 in
    rw (p.1, p.2)
    (step-from c.in_err-records.ensures.reads (λ told read.
    OpensStore-read c.in_err-records.field-0.0 _ _ (g.met.D.Disk.knows_now c.args.disk.now told) read.reads read.opens))

pub held_streams-requires : goal.held_streams-requires
held_streams-requires g c =
    let whole = c.in_ok-records.ensures.whole in
    ordered-all c.in_ok-records.parts.streams.items whole.tiles whole.times

pub returns-in_err-catalog-clause-opens : goal.returns-in_err-catalog-clause-opens
returns-in_err-catalog-clause-opens g c =
    let p = err_from_is_err_and c.from_residual-in_err-catalog.result c.from_residual-in_err-catalog.ensures.1 in
    let step = c.in_ok-records.ensures.reads in
    rw (p.1, p.2)
    (record {
      tells = step.tells;
      counted = step.counted;
      told = λ told. OpensStore-read OutOfMemory _ _ (g.met.D.Disk.knows_now c.args.disk.now told) (step.told told).reads tt;
    })

pub returns-in_err-settle_all-clause-opens : goal.returns-in_err-settle_all-clause-opens
returns-in_err-settle_all-clause-opens g c =
    let parts = held_parts c.deref_mut.result.now in
    let same_parts = ap held_parts c.deref_mut.ensures.value ∙ c.in_ok-streams.ensures.parts in
    let why = c.in_err-settle_all.field-0.0 in
    let p = err_from_is_err_and c.from_residual-in_err-settle_all.result c.from_residual-in_err-settle_all.ensures.1 in
    rw (p.1, p.2)
    (step-handed (verdict-fault (Unit {0}) (Unit {0}) why) c.in_ok-records.ensures.reads c.in_err-settle_all.ensures.settles (λ told read closes.
    OpensStore-unclosed c.deref-2.result.now parts (held_parts c.settle_all.new.streams) _ _ _ (g.met.D.Disk.knows_now c.args.disk.now told)
    (rw (same_parts, c.deref-2.ensures.value) read.rebuilt) read.reads c.settle_all.new.records why closes))

pub settle_all-requires-clause-one_disk : goal.settle_all-requires-clause-one_disk
settle_all-requires-clause-one_disk g c = after-step c.in_ok-records.ensures.reads (λ told has. has.kept)

pub returns-clause-opens : goal.returns-clause-opens
returns-clause-opens g c =
    let parts = held_parts c.deref_mut.result.now in
    let same_parts = ap held_parts c.deref_mut.ensures.value ∙ c.in_ok-streams.ensures.parts in
    let now = c.settle_all.new.streams in
    let same = items_are c.in_ok-streams.streams now c.deref_mut.result.now c.in_ok-settle_all.ensures.entries c.deref_mut.ensures.len in
    let store = stored (with_items c.in_ok-streams.streams now).items c.settle_all.new.records false in
    step-next c.in_ok-records.ensures.reads c.in_ok-settle_all.ensures.settles (λ told told_read read closes.
    OpensStore-closed c.deref-2.result.now parts (held_parts now) _ _ _ (g.met.D.Disk.knows_now c.args.disk.now told)
    (rw (same_parts, c.deref-2.ensures.value) read.rebuilt) read.reads
    c.settle_all.new.records store closes (ap held_parts same) refl c.in_ok-settle_all.ensures.at_rest.1
    c.in_ok-records.records read.kept c.in_ok-records.ensures.sealed c.in_ok-settle_all.ensures.extent)

pub returns-in_err-streams-clause-opens : goal.returns-in_err-streams-clause-opens
returns-in_err-streams-clause-opens g c =
    let p = err_from_is_err_and c.from_residual-in_err-streams.result c.from_residual-in_err-streams.ensures.1 in
    let step = c.in_ok-records.ensures.reads in
    rw (p.1, p.2)
    (record {
      tells = step.tells;
      counted = step.counted;
      told = λ told. OpensStore-read OutOfMemory _ _ (g.met.D.Disk.knows_now c.args.disk.now told) (step.told told).reads tt;
    })
