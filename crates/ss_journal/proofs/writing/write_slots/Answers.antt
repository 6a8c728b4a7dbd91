use Rattle.ss_journal.proofs.Common.{List, [], ap, arith, drop, get_or, length, sym, take, ℕ, ◌-◌, ◌<◌, ◌≡◌, ◌≤◌, length-drop, length-take-le, take_all}
use Rattle.ss_journal.proofs.Common.{step-none, syncs-once, Put, run_length}
use Rattle.ss_journal.proofs.RunLemmas.{run_length-le, run_length-some}
use Rattle.ss_journal.proofs.WriteSteps.{WrittenTo-failed, WrittenTo-more, WrittenTo-none, WrittenTo-synced}
use Rattle.ss_journal.proofs.StepLemmas.{step-next, step-next_failed}
use Rattle.ss_journal.proofs.writing.write_slots.Goals as goal

-- the puts that are left, as the slice has them
module _ (puts : List Put) (k : ℕ) where
  abbrev rest : List Put
  rest = take (length puts - k) (drop k puts)

  left : rest ≡ drop k puts
  left = take_all (length puts - k) (drop k puts) (omega (arith, length-drop k puts))

  abbrev slot : ℕ
  slot = (get_or rest 0 (record { slot = 0; bytes = [] })).slot

  some : k < length puts → 0 < run_length slot rest
  some lt = run_length-some rest (record { slot = 0; bytes = [] }) (omega (arith, lt, ap length left, length-drop k puts))

pub loop-from-init : goal.loop-from-init
loop-from-init g c = record {
  high = omega arith;
  step = step-none _ _ (λ told. WrittenTo-none c.args.kind c.args.puts.now _ (g.met.D.Disk.knows_now c.args.disk.now told) (c.requires.places told));
  syncs = step-none _ _ (λ told. omega arith);
}

pub slice_bounds-write_run-end : goal.slice_bounds-write_run-end
slice_bounds-write_run-end g c =
    let puts = c.args.puts.now in
    let k = c.loop-from.from in
    let n = c.run_length-count.result in
    let few : n ≤ run_length (slot puts k) (rest puts k) = omega (arith, c.run_length-count.ensures) in
    sym (length-take-le n (rest puts k) (run_length-le (slot puts k) n (rest puts k) few))

pub returns-in_err-write_run-clause-wrote : goal.returns-in_err-write_run-clause-wrote
returns-in_err-write_run-clause-wrote g c =
    let puts = c.args.puts.now in
    let k = c.loop-from.from in
    let n = c.run_length-count.result in
    let few : n ≤ run_length (slot puts k) (rest puts k) = omega (arith, c.run_length-count.ensures) in
    let more : 0 < n = omega (arith, c.run_length-count.ensures, some puts k c.loop-from-test.true) in
    step-next_failed c.from_residual.result c.from_residual.ensures.0 c.loop-from.invariant.step c.in_err-write_run.ensures.run
    (λ told then so_far wrote. WrittenTo-failed c.args.kind puts (rest puts k) k n (slot puts k) _ _ _ (g.met.D.Disk.knows_now c.loop-from.disk then)
    (left puts k) more few c.write_run.ensures.whole so_far c.from_residual.result c.from_residual.ensures.0 wrote)

pub loop-from-preserved : goal.loop-from-preserved
loop-from-preserved g c =
    let puts = c.args.puts.now in
    let k = c.loop-from.from in
    let n = c.run_length-count.result in
    let few : n ≤ run_length (slot puts k) (rest puts k) = omega (arith, c.run_length-count.ensures) in
    let more : 0 < n = omega (arith, c.run_length-count.ensures, some puts k c.loop-from-test.true) in
    record {
      high = omega (arith, run_length-le (slot puts k) n (rest puts k) few, ap length (left puts k), length-drop k puts, c.loop-from-test.true);
      step = step-next c.loop-from.invariant.step c.in_ok-write_run.ensures.run
          (λ told then so_far wrote. WrittenTo-more c.args.kind puts (rest puts k) k n (slot puts k) _ _ _ (g.met.D.Disk.knows_now c.loop-from.disk then)
          (left puts k) more few c.write_run.ensures.whole so_far _ c.requires.slots wrote);
      syncs = step-next c.loop-from.invariant.syncs c.in_ok-write_run.ensures.syncs (λ told then so_far more. omega (arith, so_far, more));
    }

pub returns-clause-wrote : goal.returns-clause-wrote
returns-clause-wrote g c =
    step-next c.loop-from.invariant.step c.sync.ensures
    (λ told then so_far synced. WrittenTo-synced c.args.kind c.args.puts.now c.loop-from.from _ _ _ (g.met.D.Disk.knows_now c.loop-from.disk then)
    (omega arith) so_far c.sync.result synced)

pub returns-in_err-write_run-clause-syncs : goal.returns-in_err-write_run-clause-syncs
returns-in_err-write_run-clause-syncs g c =
    step-next_failed c.from_residual.result c.from_residual.ensures.0 c.loop-from.invariant.syncs c.in_err-write_run.ensures.syncs
    (λ told then so_far more. omega (arith, so_far, more))

pub returns-clause-syncs : goal.returns-clause-syncs
returns-clause-syncs g c =
    step-next c.loop-from.invariant.syncs c.sync.ensures (λ told then so_far synced. omega (arith, so_far, syncs-once c.sync.result synced))
