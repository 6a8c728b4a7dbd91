use Rattle.std.proofs.Common.{◌≡◌, ◌<◌, ◌-◌, ◌^◌, List, length, take, Some, IfSome}
use Rattle.std.specs.VecDeque.{deque_capacity, deque_len}
use Rattle.ss_line.specs.Line.{StandsIn}
use Rattle.ss_model.specs.State.{Stream, stream_numbered}
use Rattle.ss_outside.specs.Crash.{OnlyReads}
use Rattle.ss_outside.specs.Disk.{OfContent}
use Rattle.ss_outside.specs.Step.{Step}
use Rattle.ss_outside.specs.Verdict.{fine}
use Rattle.ss_records.specs.Kept.{shown_by}
use Rattle.ss_store.specs.Applied.{Looks}
use Rattle.ss_store.specs.Kept.{part_numbered}
use Rattle.ss_store.specs.Recover.{Recovers}
use Rattle.ss_sessions.specs.Cursors.{cursor_rows}
use Rattle.ss_sessions.proofs.CopyLemmas.{AreCopied}
use Rattle.ss_sessions.proofs.copying.copy.Given as goal

-- the windows before the next one were copied, there is room for the others, and the disk was only read
abbrev pub invariant-loop-next : goal.invariant-loop-next
invariant-loop-next g l = record {
  looks : Looks fine l.fn.store l.store (g.D.Disk.seen l.fn.disk) (g.D.Disk.seen l.disk);
  reads : Step fine (g.D.Disk.seen l.fn.disk) (g.D.Disk.seen l.disk) OnlyReads;
  at : IfSome (part_numbered l.id.0 l.fn.store.streams) (λ part. IfSome l.next (StandsIn part.line.entries));
  copied : IfSome (part_numbered l.id.0 l.fn.store.streams) (λ part. AreCopied part.line.entries l.next (length l.rows.items));
  room : IfSome (part_numbered l.id.0 l.fn.store.streams) (λ part. deque_capacity l.rows ≡ length part.line.entries);
  few : deque_capacity l.rows < 2 ^ 32;
  len : deque_len l.rows ≡ length l.rows.items;
  rows : OfContent (g.D.Disk.seen l.fn.disk) (λ content. (streams : List Stream) → Recovers streams (shown_by l.fn.store.records content) →
      (s : Stream) → stream_numbered l.id.0 streams ≡ Some s → l.rows.items ≡ take (length l.rows.items) (cursor_rows s));
}

abbrev pub decreases-loop-next : goal.decreases-loop-next
decreases-loop-next g l = deque_capacity l.rows - deque_len l.rows
