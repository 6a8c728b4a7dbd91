use Rattle.ss_journal.proofs.Common.{◌+◌, ◌≡◌, ◌≤◌, drop, length, take, newest_after, FillSlots}
use Rattle.ss_journal.proofs.newest.Newest.add.Given as goal

-- the newest of those to come, after those so far, are the newest of all
abbrev pub invariant-loop-put : goal.invariant-loop-put
invariant-loop-put l = record {
  kept : newest_after (drop l.put-index l.puts) l.self ≡ newest_after l.puts l.initial.self;
  few : length l.self ≤ length l.initial.self + l.put-index;
  whole : FillSlots (take l.put-index l.puts);
}
