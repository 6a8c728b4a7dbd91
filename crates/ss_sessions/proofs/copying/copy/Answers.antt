use Rattle.std.proofs.Common.{◌≡◌, ◌∙◌, ◌+◌, ◌<◌, ◌^◌, ◌∷◌, [], length, Err, IfSome, arith, refl, sym, ap, subst, rules}
use Rattle.std.proofs.lemmas.List.{length-append}
use Rattle.std.specs.List.{Contains}
use Rattle.std.specs.VecDeque.{deque_capacity}
use Rattle.ss_model.specs.State.{stream_numbered}
use Rattle.ss_outside.proofs.CrashLemmas.{reads-joined, reads-none}
use Rattle.ss_outside.proofs.StepLemmas.{step-none, step-then}
use Rattle.ss_outside.specs.Crash.{OnlyReads}
use Rattle.ss_outside.specs.Step.{Step}
use Rattle.ss_outside.specs.Verdict.{IfChanged}
use Rattle.ss_records.specs.Kept.{shown_by}
use Rattle.ss_parts.specs.Held.{window_slots_of}
use Rattle.ss_store.specs.Applied.{Looks}
use Rattle.ss_store.specs.Kept.{part_numbered}
use Rattle.ss_store.specs.Recover.{Recovers}
use Rattle.ss_store.proofs.Named.{SomeAgree-numbered}
use Rattle.ss_store.proofs.KeptStates.{AllAgree-recovered}
use Rattle.ss_sessions.specs.Errors.{verdict_of_cursor}
use Rattle.ss_sessions.specs.Opened.{CopiesRows}
use Rattle.ss_sessions.proofs.CopyLemmas.{Looks-none, Looks-then, copied-first, copied-next, room-left, room-taken, row-copied, rows-copied}
use Rattle.ss_sessions.proofs.CopyLemmas.{shown-same, windows-copied}
use Rattle.ss_sessions.proofs.copying.copy.Goals as goal

pub loop-next-init : goal.loop-next-init
loop-next-init g c =
    let disk = g.D.Disk.seen c.args.disk.now in
    let o = part_numbered c.args.id.0 c.args.store.now.streams in
    let rows = c.in_ok-rows.ensures in
    let few = c.windows.type_inv in
    record {
      looks = Looks-none c.args.store.now disk c.requires.one_disk;
      reads = step-none disk OnlyReads (λ told. reads-none disk.told);
      at = c.window_first-next.ensures.stands;
      copied = copied-first o c.window_first-next.result c.in_ok-rows.rows.items rows.items c.window_first-next.ensures.at
          c.window_first-next.ensures.index;
      room = subst (λ n. IfSome o (λ part. n ≡ length part.line.entries)) (sym rows.exact) c.windows.ensures;
      few = omega (arith, few, rows.exact);
      len = rows.len ∙ sym (ap length rows.items);
      rows = λ told streams is s found. rw rows.items refl;
    }

pub copy_window-requires-clause-runs : goal.copy_window-requires-clause-runs
copy_window-requires-clause-runs g c = c.loop-next.invariant.looks.stops ∙ c.requires.runs

pub copy_window-requires-clause-one_disk : goal.copy_window-requires-clause-one_disk
copy_window-requires-clause-one_disk g c = c.loop-next.invariant.looks.stands (c.loop-next.invariant.looks.stops ∙ c.requires.runs)

pub copy_window-requires-clause-stands : goal.copy_window-requires-clause-stands
copy_window-requires-clause-stands g c = rw c.loop-next.invariant.looks.streams c.requires.stands

pub copy_window-requires-clause-at : goal.copy_window-requires-clause-at
copy_window-requires-clause-at g c = rw c.loop-next.invariant.looks.streams (rw c.in-Some.is at c.loop-next.invariant.at)

pub returns-in_err-copy_window-clause-copies : goal.returns-in_err-copy_window-clause-copies
returns-in_err-copy_window-clause-copies g c =
    let old = g.D.Disk.seen c.args.disk.now in
    let mid = g.D.Disk.seen c.loop-next.disk in
    let new = g.D.Disk.seen c.copy_window.new.disk in
    let e = c.in_err-copy_window.field-0.0 in
    let same : c.from_residual-in_err-copy_window.result ≡ Err e = search rules in
    subst (λ r. Step (verdict_of_cursor r) old new (CopiesRows c.args.id.0 c.args.store.now r)) (sym same)
    (step-then c.loop-next.invariant.reads c.in_err-copy_window.ensures.copies (λ first second. record {
      rows = λ streams is. tt;
      reads = reads-joined old.told mid.told new.told first second.reads;
    }))

pub returns-in_err-copy_window-clause-looks : goal.returns-in_err-copy_window-clause-looks
returns-in_err-copy_window-clause-looks g c =
    let old = g.D.Disk.seen c.args.disk.now in
    let mid = g.D.Disk.seen c.loop-next.disk in
    let new = g.D.Disk.seen c.copy_window.new.disk in
    let e = c.in_err-copy_window.field-0.0 in
    let inv = c.loop-next.invariant in
    let same : c.from_residual-in_err-copy_window.result ≡ Err e = search rules in
    subst (λ r. Looks (verdict_of_cursor r) c.args.store.now c.copy_window.new.store old new) (sym same)
    (Looks-then _ c.args.store.now c.loop-next.store c.copy_window.new.store old mid new inv.looks c.in_err-copy_window.ensures.looks inv.reads.tells)

pub returns-in_err-copy_window-clause-changed : goal.returns-in_err-copy_window-clause-changed
returns-in_err-copy_window-clause-changed g c =
    let e = c.in_err-copy_window.field-0.0 in
    let inv = c.loop-next.invariant in
    let same : c.from_residual-in_err-copy_window.result ≡ Err e = search rules in
    subst (λ r. IfChanged (verdict_of_cursor r) (λ slot. IfSome (part_numbered c.args.id.0 c.args.store.now.streams) (λ part.
    Contains (window_slots_of part) slot))) (sym same)
    (rw inv.looks.streams at c.in_err-copy_window.ensures.changed)

pub push_back_reserved-requires : goal.push_back_reserved-requires
push_back_reserved-requires g c =
    let o = part_numbered c.args.id.0 c.args.store.now.streams in
    let inv = c.loop-next.invariant in
    let left = room-left o c.in-Some.at c.loop-next.rows.items (deque_capacity c.loop-next.rows) c.requires.stands (rw c.in-Some.is at inv.copied)
    (rw c.in-Some.is at inv.at) inv.room in
    let len = inv.len in
    omega (arith, left, len)

pub window_after-next-requires-clause-stands : goal.window_after-next-requires-clause-stands
window_after-next-requires-clause-stands g c =
    rw (c.in_ok-copy_window.ensures.looks.streams, c.loop-next.invariant.looks.streams) c.requires.stands

pub window_after-next-requires-clause-at : goal.window_after-next-requires-clause-at
window_after-next-requires-clause-at g c =
    rw (c.in_ok-copy_window.ensures.looks.streams, c.loop-next.invariant.looks.streams) (rw c.in-Some.is at c.loop-next.invariant.at)

pub loop-next-smaller : goal.loop-next-smaller
loop-next-smaller g c =
    let o = part_numbered c.args.id.0 c.args.store.now.streams in
    let inv = c.loop-next.invariant in
    let left = room-left o c.in-Some.at c.loop-next.rows.items (deque_capacity c.loop-next.rows) c.requires.stands (rw c.in-Some.is at inv.copied)
    (rw c.in-Some.is at inv.at) inv.room in
    let len = inv.len in
    let grown = c.push_back_reserved.ensures.len in
    let same = c.push_back_reserved.ensures.capacity in
    omega (arith, left, len, grown, same)

pub loop-next-preserved : goal.loop-next-preserved
loop-next-preserved g c =
    let old = g.D.Disk.seen c.args.disk.now in
    let mid = g.D.Disk.seen c.loop-next.disk in
    let new = g.D.Disk.seen c.copy_window.new.disk in
    let o = part_numbered c.args.id.0 c.args.store.now.streams in
    let inv = c.loop-next.invariant in
    let read = c.in_ok-copy_window.ensures in
    let row = c.in_ok-copy_window.field-0 in
    let rows = c.loop-next.rows.items in
    let more = c.push_back_reserved.new.self.items in
    let next = c.window_after-next.result in
    let pushed = c.push_back_reserved.ensures in
    let streams = read.looks.streams ∙ inv.looks.streams in
    let at = rw c.in-Some.is at inv.at in
    let copied = rw c.in-Some.is at inv.copied in
    record {
      looks = Looks-then _ c.args.store.now c.loop-next.store c.copy_window.new.store old mid new inv.looks read.looks inv.reads.tells;
      reads = step-then inv.reads read.copies (λ first second. reads-joined old.told mid.told new.told first second.reads);
      at = rw streams at c.window_after-next.ensures.stands;
      copied = copied-next o c.in-Some.at next rows more row pushed.items copied at (rw streams at c.window_after-next.ensures.at)
          (rw streams at c.window_after-next.ensures.index);
      room = subst (λ n. IfSome o (λ part. n ≡ length part.line.entries)) (sym pushed.capacity) inv.room;
      few = subst (λ n. n < 2 ^ 32) (sym pushed.capacity) inv.few;
      len = pushed.len ∙ ap (λ n. n + 1) inv.len ∙ sym (ap length pushed.items ∙ length-append rows (row ∷ []));
      rows = λ told streams_then is s found.
          let reads = inv.reads.told told in
          let shown = shown-same c.args.store.now.records c.loop-next.store.records old.told.content mid.told.content inv.looks.journal reads.same.content in
          let here = (read.copies.told (inv.reads.tells ∙ told)).row streams_then (subst (Recovers streams_then) (sym shown) is) in
          row-copied o (stream_numbered c.args.id.0 streams_then) s c.in-Some.at rows more row c.requires.stands found copied
          (rw inv.looks.streams at here) (inv.rows told streams_then is s found) pushed.items;
    }

pub over-requires : goal.over-requires
over-requires g c =
    let o = part_numbered c.args.id.0 c.args.store.now.streams in
    let inv = c.loop-next.invariant in
    let taken = room-taken o c.loop-next.next c.loop-next.rows.items (deque_capacity c.loop-next.rows) c.requires.stands inv.copied inv.room in
    let few = inv.few in
    omega (arith, taken, few)

pub returns-clause-copies : goal.returns-clause-copies
returns-clause-copies g c =
    let old = g.D.Disk.seen c.args.disk.now in
    let new = g.D.Disk.seen c.loop-next.disk in
    let o = part_numbered c.args.id.0 c.args.store.now.streams in
    let inv = c.loop-next.invariant in
    record {
      tells = inv.reads.tells;
      counted = inv.reads.counted;
      told = λ told. record {
        rows = λ streams is.
            let image = shown_by c.args.store.now.records old.told.content in
            let agree = SomeAgree-numbered c.args.store.now.streams streams c.args.id.0
            (AllAgree-recovered c.args.store.now image streams (c.requires.one_disk told).shown is).0 in
            rw c.over.ensures
            (rows-copied o (stream_numbered c.args.id.0 streams) c.loop-next.next c.loop-next.rows.items c.requires.stands agree c.in_default.is inv.copied
            (λ s found. inv.rows told streams is s found));
        reads = inv.reads.told told;
      };
    }

pub returns-clause-looks : goal.returns-clause-looks
returns-clause-looks g c = c.loop-next.invariant.looks

pub returns-clause-windows : goal.returns-clause-windows
returns-clause-windows g c =
    rw c.over.ensures
    (windows-copied (part_numbered c.args.id.0 c.args.store.now.streams) c.loop-next.next c.loop-next.rows.items c.in_default.is
    c.loop-next.invariant.copied)
