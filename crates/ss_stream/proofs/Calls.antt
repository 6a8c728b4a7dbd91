-- What calls in a row make of what a disk stands for, also in a crash. In each lemma the disks are plain values: a caller
-- strips the premise that the disk tells.
use Rattle.ss_stream.proofs.Common.{List, Ok, Result, ℕ, on_ok_weaker, IsErr, of_content, read_leaves, reads-none, nothing_pending-same, weaker}
use Rattle.ss_stream.proofs.Common.{KnowsNow, OnlyReads, NothingPending, Told, on_err, on_ok, OnOk, LeavesOnly, CrashTriple, Turns}
use Rattle.ss_outside.proofs.CrashLemmas.{joined}

-- Two calls in a row, of which the first answered Ok. A crash leaves what one in either of them leaves.
pub CrashTriple-then : {S F T E : Type 0} (A B C : Type 0) (M N L : List ℕ → Type 0) (old mid new : Told) (value : S) (result : Result T E) →
    CrashTriple {T = S} {E = F} A M B old mid (Ok value) → CrashTriple B N C mid new result →
    ((image : List ℕ) → M image → L image) → (LeavesOnly old mid L → (image : List ℕ) → N image → L image) → CrashTriple A L C old new result
CrashTriple-then A B C M N L old mid new value result first second of_first of_second = record {
  content = λ has. second.content (first.content has);
  any_moment = λ none has.
      let before : LeavesOnly old mid L = weaker old mid M L of_first (first.any_moment none has) in
      joined old mid new L before (weaker mid new N L (of_second before) (second.any_moment (first.durable none) (first.content has)));
  durable = λ none. second.durable (first.durable none);
}

-- A step failed, and its failure is handed on: whatever the call was to reach at Ok.
pub CrashTriple-failed : {S F T E : Type 0} (A B C : Type 0) (M : List ℕ → Type 0) (old new : Told) (step : Result S F) (result : Result T E) → IsErr result →
    CrashTriple A M B old new step → CrashTriple A M C old new result
CrashTriple-failed A B C M old new step result failed moves = record {
  content = λ has. on_err result C failed;
  any_moment = moves.any_moment;
  durable = λ none. on_err result (NothingPending new) failed;
}

-- A step answered Ok, and the call answers whatever it answers without a further call of the disk.
pub CrashTriple-answers : {S F T E : Type 0} (A B : Type 0) (M : List ℕ → Type 0) (old new : Told) (value : S) (result : Result T E) →
    CrashTriple {T = S} {E = F} A M B old new (Ok value) → CrashTriple A M B old new result
CrashTriple-answers A B M old new value result moves = record {
  content = λ has. on_ok result (moves.content has);
  any_moment = moves.any_moment;
  durable = λ none. on_ok result (moves.durable none);
}

-- A call that only reads, whatever it answers.
pub CrashTriple-reads : {T E : Type 0} (A B : Type 0) (M : List ℕ → Type 0) (old new : Told) (result : Result T E) → KnowsNow old → OnlyReads old new →
    (A → OnOk result B) → (A → NothingPending old → (image : List ℕ) → old.may_leave image → M image) → CrashTriple A M B old new result
CrashTriple-reads A B M old new result knows reads reaches gives = record {
  content = reaches;
  any_moment = λ none has. weaker old new old.may_leave M (gives has none) (read_leaves old new knows reads);
  durable = λ none. on_ok result (nothing_pending-same old new reads.same none);
}

-- Of less before the call, more is left, and less reached. What was so before the call may be used.
pub CrashTriple-weaker : {T E : Type 0} (A A' B B' : Type 0) (M M' : List ℕ → Type 0) (old new : Told) (result : Result T E) → (A' → A) →
    (A' → (image : List ℕ) → M image → M' image) → (A' → B → B') → CrashTriple A M B old new result → CrashTriple A' M' B' old new result
CrashTriple-weaker A A' B B' M M' old new result before crash after moves = record {
  content = λ has. on_ok_weaker result (after has) (moves.content (before has));
  any_moment = λ none has. weaker old new M M' (crash has) (moves.any_moment none (before has));
  durable = moves.durable;
}

-- The same of contents.
pub Turns-then : {S F T E : Type 0} (P M Q N R L : List ℕ → Type 0) (old mid new : Told) (value : S) (result : Result T E) →
    Turns {T = S} {E = F} P M Q old mid (Ok value) → Turns Q N R mid new result →
    ((image : List ℕ) → M image → L image) → ((image : List ℕ) → N image → L image) → Turns P L R old new result
Turns-then P M Q N R L old mid new value result first second of_first of_second =
    CrashTriple-then (P old.content) (Q mid.content) (R new.content) M N L old mid new value result first second of_first (λ before. of_second)

-- and where a crash leaves the same of both
pub Turns-joined : {S F T E : Type 0} (P M Q R : List ℕ → Type 0) (old mid new : Told) (value : S) (result : Result T E) →
    Turns {T = S} {E = F} P M Q old mid (Ok value) → Turns Q M R mid new result → Turns P M R old new result
Turns-joined P M Q R old mid new value result first second =
    Turns-then P M Q M R M old mid new value result first second (λ image has. has) (λ image has. has)

pub Turns-failed : {S F T E : Type 0} (P M Q R : List ℕ → Type 0) (old new : Told) (step : Result S F) (result : Result T E) → IsErr result →
    Turns P M Q old new step → Turns P M R old new result
Turns-failed P M Q R old new = CrashTriple-failed (P old.content) (Q new.content) (R new.content) M old new

pub Turns-answers : {S F T E : Type 0} (P M Q : List ℕ → Type 0) (old new : Told) (value : S) (result : Result T E) →
    Turns {T = S} {E = F} P M Q old new (Ok value) → Turns P M Q old new result
Turns-answers P M Q old new = CrashTriple-answers (P old.content) (Q new.content) M old new

pub Turns-reads : {T E : Type 0} (P M : List ℕ → Type 0) (old new : Told) (result : Result T E) → KnowsNow old → OnlyReads old new →
    (P old.content → M old.content) → Turns P M P old new result
Turns-reads P M old new result knows reads gives =
    CrashTriple-reads (P old.content) (P new.content) M old new result knows reads
    (λ has. on_ok result (let e = reads.same.content in rw e has)) (λ has none. of_content old M none (gives has))

-- no call
pub Turns-same : {T E : Type 0} (P M : List ℕ → Type 0) (disk : Told) (result : Result T E) → KnowsNow disk → (P disk.content → M disk.content) →
    Turns P M P disk disk result
Turns-same P M disk result knows gives = Turns-reads P M disk disk result knows (reads-none disk) gives

pub Turns-weaker : {T E : Type 0} (P P' M M' Q Q' : List ℕ → Type 0) (old new : Told) (result : Result T E) → (P' old.content → P old.content) →
    (P' old.content → (image : List ℕ) → M image → M' image) → (P' old.content → (image : List ℕ) → Q image → Q' image) →
    Turns P M Q old new result → Turns P' M' Q' old new result
Turns-weaker P P' M M' Q Q' old new result before crash after =
    CrashTriple-weaker (P old.content) (P' old.content) (Q new.content) (Q' new.content) M M' old new result before crash (λ has. after has new.content)
