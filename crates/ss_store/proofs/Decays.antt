-- How many windows stand after an event, by what is replied to it.
use Rattle.ss_stream.proofs.FewWindows.{length-none_due}
use Rattle.ss_store.proofs.Common.{◌≡◌, ℕ, ◌+◌, ◌-◌, ◌*◌, ◌<◌, ◌≤◌, List, length, slice_set, sym, ◌∙◌, Option, IfSome, length-map, StreamId, rule_of}
use Rattle.ss_store.proofs.Common.{params_of, cover, steps_met, TileFrom, entries_of, StreamParts, IsTaker, ends_held, values_held, NoEntriesAreDue, IsSound}
use Rattle.ss_store.proofs.Common.{StoreState, part_named}
use Rattle.ss_store.proofs.Spared.{part_named-set}

-- of a stream that is held: so many windows are few enough
abbrev pub KeepsToTarget : Option StreamParts → ℕ → ℕ → Type 0
KeepsToTarget o n k = IfSome o (λ part.
    let rule = rule_of (params_of part.target) in
    k + 1 ≤ 2 * (cover rule.lengths n + steps_met rule.step (ends_held (entries_of part)) - 1))

-- the stream that took a value keeps to its target
pub KeepsToTarget-taken : (store : StoreState) (catalog : List (List ℕ × StreamId)) (name : List ℕ) (t place slot : ℕ) (now : StreamParts) (n k : ℕ) →
    IsSound store catalog → (taker : IsTaker store name t place slot) → now.name ≡ taker.part.name → n ≡ values_held (entries_of now) →
    k ≡ length now.line.entries → TileFrom 1 (entries_of now) →
    NoEntriesAreDue (rule_of (params_of now.target)) (values_held (entries_of now)) (entries_of now) → 0 < n →
    KeepsToTarget (part_named name (slice_set store.streams place now)) n k
KeepsToTarget-taken store catalog name t place slot now n k sound taker same values windows tiles none some =
    let rule = rule_of (params_of now.target) in
    let steps = steps_met rule.step (ends_held (entries_of now)) in
    let count : length (entries_of now) ≡ k = length-map now.line.entries (λ e. e.1) ∙ sym windows in
    let bound : k + 1 ≤ 2 * (cover rule.lengths n + steps - 1) =
    rw values (rw count at (length-none_due rule (entries_of now) tiles none (rw values at some))) in
    rw (part_named-set name store.streams place taker.part now sound.numbers taker.named taker.at same) bound
