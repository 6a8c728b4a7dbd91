use Rattle.std.proofs.Common.{◌≡◌, ℕ, List, take}
use Rattle.std.specs.Map.{keys_of}
use Rattle.ss_journal.specs.Puts.{with_puts}
use Rattle.ss_records.specs.Pages.{ArePages}
use Rattle.ss_records.proofs.pages.Pages.put_all.Given as goal

abbrev pub invariant-loop-put : goal.invariant-loop-put
invariant-loop-put l =
    record {
      pages : (map : ℕ → List ℕ) → ArePages l.fn.self map → ArePages l.self (with_puts (take l.put-index l.puts) map);
      numbers : keys_of l.self ≡ keys_of l.fn.self;
    }
