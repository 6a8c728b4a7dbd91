use Rattle.ss_journal.proofs.Common.{◌≡◌, ◌+◌, ◌*◌, ◌<◌, ℕ, take, slot_in_page, with_puts}
use Rattle.ss_journal.proofs.paging.lay_puts.Given as goal

abbrev pub invariant-loop-put : goal.invariant-loop-put
invariant-loop-put l = (k : ℕ) → k < 32
    → slot_in_page l.page k ≡ with_puts (take l.put-index l.puts) (λ _. slot_in_page l.initial.page k) (32 * l.number + k)
