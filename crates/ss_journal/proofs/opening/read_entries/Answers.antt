use Rattle.ss_journal.proofs.Common.{◌≡◌, ◌<◌, [], length, ap, arith, All-nil, reads-none, step-none, Put, newest_after, extent_after}
use Rattle.std.proofs.lemmas.List.Elements.{All-same}
use Rattle.std.proofs.lemmas.Result.{err_from_is_err_and}
use Rattle.ss_journal.proofs.OpenLemmas.{IsReadTo-none, IsReadTo-next, IsReadTo-all, IsReadTo-shut, InUseAs-next, below-newest_after}
use Rattle.ss_journal.proofs.NewestLemmas.{few-newest_after}
use Rattle.ss_journal.proofs.PutLemmas.{AreSlots-rise, extent_after-most}
use Rattle.ss_journal.proofs.StepLemmas.{after-step, finds-joined, step-from, step-next}
use Rattle.ss_journal.proofs.opening.read_entries.Goals as goal

pub loop-n-init : goal.loop-n-init
loop-n-init g c =
    let none : c.in_ok-waiting.waiting ≡ [] = c.in_ok-waiting.ensures in
    record {
      few = omega (arith, ap length none);
      extent = c.requires.slots;
      waiting = All-same (λ (put : Put). put.slot < c.args.slots) _ [] none (All-nil (λ (put : Put). put.slot < c.args.slots));
      step = step-none _ _ (λ told. let content = (g.D.Disk.seen c.args.disk.now).told.content in record {
        found = rw none (IsReadTo-none content c.args.slots (c.requires.born told).0 (c.requires.born told).1);
        reads = reads-none _;
      });
    }

pub next_entry-requires-clause-born : goal.next_entry-requires-clause-born
next_entry-requires-clause-born g c = after-step c.loop-n.invariant.step (λ told before. rw before.reads.same.content (c.requires.born told).0)

pub returns-in_err-puts-clause-entries : goal.returns-in_err-puts-clause-entries
returns-in_err-puts-clause-entries g c =
    let error = err_from_is_err_and c.from_residual-in_err-puts.result c.from_residual-in_err-puts.ensures.1 in
    rw (error.1, error.2) (step-next c.loop-n.invariant.step c.in_err-puts.ensures.entry
    (λ told then before next. finds-joined before next
    (λ was is. InUseAs-next _ c.loop-n.n c.loop-n.extent c.loop-n.waiting c.loop-n-test.true was c.in_err-puts.field-0.0 is)))

pub returns-in-None-clause-entries : goal.returns-in-None-clause-entries
returns-in-None-clause-entries g c =
    let next = rw c.in-None.is at c.in_ok-puts.ensures.entry in
    step-next c.loop-n.invariant.step next
    (λ told then before next. finds-joined before next (λ was is. IsReadTo-shut _ c.loop-n.n c.loop-n.extent c.loop-n.waiting was c.loop-n-test.true is))

pub loop-n-preserved : goal.loop-n-preserved
loop-n-preserved g c =
    let before = c.loop-n.invariant in
    let puts = c.in-Some.puts.items in
    let extent = c.loop-n.extent in
    let more : c.add.new.self ≡ newest_after puts c.loop-n.waiting = rw (c.add.ensures.kept, c.deref-in-Some.ensures.0) in
    let whole = rw c.deref-in-Some.ensures.0 at c.add.ensures.whole in
    let last : c.extent_after-extent.result ≡ extent_after puts extent = rw (c.extent_after-extent.ensures, c.deref.ensures.0) in
    let sound = rw c.in-Some.is at c.in_ok-puts.ensures.sound in
    let next = rw c.in-Some.is at c.in_ok-puts.ensures.entry in
    record {
      few = omega (arith, ap length more, few-newest_after puts c.loop-n.waiting, sound.0.few, before.few);
      extent = rw last (extent_after-most puts extent sound.0 before.extent);
      waiting = rw (more, last) (below-newest_after c.loop-n.waiting puts extent sound.1 before.waiting);
      step = step-next before.step next
          (λ told then first next. finds-joined first next (λ was is. IsReadTo-next _ c.loop-n.n extent c.loop-n.waiting c.loop-n-test.true was c.in-Some.puts
          _ _ is c.add.ensures.rise whole last more));
    }

pub returns-clause-entries : goal.returns-clause-entries
returns-clause-entries g c =
    step-from c.loop-n.invariant.step (λ told before. record {
      found = IsReadTo-all _ c.loop-n.n c.loop-n.extent c.loop-n.waiting before.found (omega arith);
      reads = before.reads;
    })

pub add-requires-clause-slots : goal.add-requires-clause-slots
add-requires-clause-slots g c =
    let sound = rw c.in-Some.is at c.in_ok-puts.ensures.sound in
    AreSlots-rise 0 _ (rw c.deref-in-Some.ensures.0 sound.0.rise)

pub add-requires-clause-room : goal.add-requires-clause-room
add-requires-clause-room g c =
    let before = c.loop-n.invariant in
    let sound = rw c.in-Some.is at c.in_ok-puts.ensures.sound in
    omega (arith, before.few, sound.0.few, ap length c.deref-in-Some.ensures.0, c.loop-n-test.true)
