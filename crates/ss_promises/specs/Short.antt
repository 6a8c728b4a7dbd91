-- Histories that need few records at any time, and how long a file gets by so many.
use Rattle.std.specs.Prelude.{◌≡◌, ℕ, ◌+◌, ◌*◌, ◌<◌, ◌≤◌, max, All, List, length, ◌++◌}
use Rattle.ss_base.specs.declared.limits.TheConstants.{SLOT_SIZE}
use Rattle.ss_journal.specs.declared.format.TheConstants.{FIRST_SLOT, MOST_SLOTS}
use Rattle.ss_model.specs.State.{Stream, state}
use Rattle.ss_program.specs.Line.{History}

-- after each beginning of a history at most `count` streams stand, and each of them is so by that beginning
pub record AlwaysHas (count : ℕ) (P : History → Stream → Type 0) (history : History) : Type 0 where
  pub streams : (front rest : History) → history ≡ front ++ rest → length (state front) ≤ count
  pub each : (front rest : History) → history ≡ front ++ rest → All (P front) (state front)

-- a file is no longer than the slots that it used first, or so many records and one more, make it, and less than one slot beside
abbrev pub IsAsShort : ℕ → ℕ → List ℕ → Type 0
IsAsShort used records file =
    max used (records + 1) < MOST_SLOTS → length file < FIRST_SLOT + SLOT_SIZE * (max used (records + 1) + 1)
