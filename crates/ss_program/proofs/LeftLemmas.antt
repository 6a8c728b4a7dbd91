-- Images that stand for a history and are no longer than it allows.
use Rattle.ss_program.proofs.Common.{◌+◌, ℕ, List, None, Option, Some, Result, Ok, Err, arith, on_ok_weaker, OnOk, max, weaker, LeavesOnly, NothingPending}
use Rattle.ss_program.proofs.Common.{Told, KeepsWithin, Turns, Stands, IsShort, StandsShort, UsesAtMost, most_needed, both, History, HoldsTalk, after_lines}
use Rattle.ss_program.proofs.Common.{Talk}
use Rattle.ss_program.proofs.ReportLemmas.{after_lines-used}

-- of a conversation after some lines it is asked as of the one before
pub left_short : (talk : Talk) (ls : List (List ℕ)) (image : List ℕ) → HoldsTalk (after_lines talk ls) image →
    StandsShort talk.used (after_lines talk ls).history image
left_short talk ls image left = rw after_lines-used at left

pub short_left : (talk : Talk) (ls : List (List ℕ)) (image : List ℕ) → StandsShort talk.used (after_lines talk ls).history image →
    HoldsTalk (after_lines talk ls) image
short_left talk ls image short = rw after_lines-used short

-- both of two facts of what was answered
ok_both : {T E : Type 0} (A B : Type 0) (result : Result T E) → OnOk result A → OnOk result B → OnOk result (A × B)
ok_both A B (Ok value) a b = (a, b)
ok_both A B (Err e) a b = tt

-- opening a store keeps the history, and uses no more slots
module _ {T E : Type 0} {history : History} {old new : Told} {result : Result T E}
    (turns : Turns (Stands history) (Stands history) (Stands history) old new result) (within : KeepsWithin 0 result old new) where
  pub opened_left : (used : Option ℕ) → StandsShort used history old.content → OnOk result (StandsShort used history new.content)
  opened_left None has = on_ok_weaker result (λ (is : Stands history new.content). (is, tt)) (turns.content has.0)
  opened_left (Some n) has =
      ok_both (Stands history new.content) (IsShort (Some n) history new.content) result (turns.content has.0)
      ((within (max n (most_needed history + 1)) (omega arith)).content has.1)

  pub opened_moments : (used : Option ℕ) → NothingPending old → StandsShort used history old.content → LeavesOnly old new (StandsShort used history)
  opened_moments None none has = weaker old new (Stands history) (StandsShort None history) (λ image is. (is, tt)) (turns.any_moment none has.0)
  opened_moments (Some n) none has =
      let most = max n (most_needed history + 1) in
      both old new (Stands history) (UsesAtMost most) (turns.any_moment none has.0) ((within most (omega arith)).any_moment none has.1)
