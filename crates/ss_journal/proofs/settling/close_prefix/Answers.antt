use Rattle.ss_journal.proofs.Common.{arith}
use Rattle.ss_journal.proofs.InUseLemmas.{HasSlotsFor-in_use}
use Rattle.ss_journal.proofs.SettleSteps.{slots-applied, slots-failed, within-first_gate}
use Rattle.ss_journal.proofs.StepLemmas.{after-step, step-failed, step-next}
use Rattle.ss_journal.proofs.settling.close_prefix.Goals as goal

pub write_slots-requires-clause-places : goal.write_slots-requires-clause-places
write_slots-requires-clause-places g c told = let entries = c.requires.entries told in HasSlotsFor-in_use _ _ _ entries.kind entries.born entries.in_use

pub write_through-requires-clause-within : goal.write_through-requires-clause-within
write_through-requires-clause-within g c =
    after-step c.in_ok-write_slots.ensures.wrote (λ told wrote. within-first_gate c.args.kind c.args.puts.now _ _ (c.requires.entries told) _ wrote)

pub returns-in_err-write_slots-clause-shuts : goal.returns-in_err-write_slots-clause-shuts
returns-in_err-write_slots-clause-shuts g c =
    let failed = c.from_residual in
    step-failed failed.result failed.ensures.0 c.in_err-write_slots.ensures.wrote
    (λ told wrote. slots-failed c.args.kind c.args.puts.now _ _ (c.requires.entries told) failed.result failed.ensures.0 wrote)

pub returns-clause-shuts : goal.returns-clause-shuts
returns-clause-shuts g c =
    step-next c.in_ok-write_slots.ensures.wrote c.write_through.ensures.wrote
    (λ told then wrote closes. slots-applied c.args.kind c.args.puts.now _ _ (c.requires.entries told) _ wrote _ c.write_through.result c.requires.some closes)

pub returns-in_err-write_slots-clause-syncs : goal.returns-in_err-write_slots-clause-syncs
returns-in_err-write_slots-clause-syncs g c =
    step-failed c.from_residual.result c.from_residual.ensures.0 c.in_err-write_slots.ensures.syncs (λ told few. omega (arith, few))

pub returns-clause-syncs : goal.returns-clause-syncs
returns-clause-syncs g c =
    step-next c.in_ok-write_slots.ensures.syncs c.write_through.ensures.syncs (λ told then slots gate. omega (arith, slots, gate))
