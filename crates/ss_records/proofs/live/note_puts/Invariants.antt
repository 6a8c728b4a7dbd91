use Rattle.std.proofs.Common.{◌≡◌, drop, length}
use Rattle.ss_records.specs.Live.{live_after}
use Rattle.ss_records.proofs.live.note_puts.Given as goal

-- the puts that are left lead to what all puts lead to
abbrev pub invariant-loop-put : goal.invariant-loop-put
invariant-loop-put l =
    record {
      rest : live_after (drop l.put-index l.puts) l.live ≡ live_after l.puts l.fn.live;
      slots : length l.live ≡ length l.fn.live;
    }
