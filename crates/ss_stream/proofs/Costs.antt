-- What calls that stage make of a disk, one after another, and at which cost. In each lemma the disks are plain values.
use Rattle.ss_stream.proofs.Common.{◌≡◌, ◌+◌, ◌<◌, ◌≤◌, ℕ, Ok, Result, arith, IsErr, OnOk, max, KnowsNow, OnlyReads, Told, KeepsShown, SyncsForRoom}
use Rattle.ss_stream.proofs.Common.{entries_after, on_err, on_ok, AreKept, RecordsState, StagesAtCost}
use Rattle.ss_stream.proofs.Syncs.{SyncsToStage-answers, SyncsToStage-failed, SyncsToStage-no_room, SyncsToStage-none, SyncsToStage-reads}
use Rattle.ss_stream.proofs.Syncs.{SyncsToStage-staged, SyncsToStage-then}
use Rattle.ss_stream.proofs.Within.{StaysWithin-answers, StaysWithin-failed, StaysWithin-kept, StaysWithin-none, StaysWithin-reads}
use Rattle.ss_stream.proofs.Within.{StaysWithin-staged, StaysWithin-then}

module _ {S F T E : Type 0} {R Q : Told → Told → Type 0} {few used less most : ℕ} {was is : RecordsState} {old new : Told} where
  -- a step answered Ok, and the call answers whatever it answers
  pub StagesAtCost-answers : {value : S} (result : Result T E) → few ≤ used → less ≤ most →
      StagesAtCost {T = S} {E = F} R few less was is (Ok value) old new → (R old new → Q old new) → StagesAtCost Q used most was is result old new
  StagesAtCost-answers result slots times staged gives = record {
    changes = gives staged.changes;
    kept = on_ok result staged.kept;
    within = StaysWithin-answers result slots staged.within;
    syncs = SyncsToStage-answers result times staged.syncs;
  }

  -- a step failed, and its failure is handed on
  pub StagesAtCost-failed : {between : RecordsState} {step : Result S F} (result : Result T E) → IsErr result → few ≤ used → less ≤ most →
      StagesAtCost R few less was between step old new → (R old new → Q old new) → StagesAtCost Q used most was is result old new
  StagesAtCost-failed result failed slots times staged gives = record {
    changes = gives staged.changes;
    kept = on_err result _ failed;
    within = StaysWithin-failed result failed slots staged.within;
    syncs = SyncsToStage-failed result failed times staged.syncs;
  }

-- one call after another
pub StagesAtCost-then : {S F T E : Type 0} {R P Q : Told → Told → Type 0} {first second used few less most : ℕ} {was between is : RecordsState}
    {old mid new : Told} {value : S} (result : Result T E) → KnowsNow mid → first ≤ used → second ≤ used → few + less ≤ most →
    StagesAtCost {T = S} {E = F} R first few was between (Ok value) old mid → StagesAtCost P second less between is result mid new →
    (R old mid → P mid new → Q old new) → StagesAtCost Q used most was is result old new
StagesAtCost-then result knows slots also times one two gives = record {
  changes = gives one.changes two.changes;
  kept = two.kept;
  within = StaysWithin-then result knows slots also one.within two.within;
  syncs = SyncsToStage-then result times one.syncs two.syncs;
}

-- a call that only reads
pub StagesAtCost-reads : {T E : Type 0} {R : Told → Told → Type 0} {used most : ℕ} {was is : RecordsState} {old new : Told} (result : Result T E) →
    KnowsNow old → OnlyReads old new → OnOk result (is.journal ≡ was.journal) → OnOk result (AreKept is new.content) → R old new →
    StagesAtCost R used most was is result old new
StagesAtCost-reads result knows reads same kept change = record {
  changes = change;
  kept = kept;
  within = StaysWithin-reads result knows reads same;
  syncs = SyncsToStage-reads result reads same;
}

-- a call after one that only read
pub StagesAtCost-after_read : {T E : Type 0} {P : Told → Told → Type 0} {used most : ℕ} {was between is : RecordsState} {old mid new : Told}
    (result : Result T E) → KnowsNow old → KnowsNow mid → OnlyReads old mid → between.journal ≡ was.journal →
    StagesAtCost P used most between is result mid new → StagesAtCost (λ _ _. P mid new) used most was is result old new
StagesAtCost-after_read {E = E} {used = used} result knows then reads same staged = record {
  changes = staged.changes;
  kept = staged.kept;
  within = StaysWithin-then {first = 0} {second = used} result then (omega arith) (omega arith)
      (StaysWithin-reads {T = Unit {0}} {E = E} (Ok tt) knows reads same) staged.within;
  syncs = SyncsToStage-then {first = 0} result (omega arith) (SyncsToStage-reads {T = Unit {0}} {E = E} (Ok tt) reads same) staged.syncs;
}

-- no call
pub StagesAtCost-none : {T E : Type 0} {R : Told → Told → Type 0} {used most : ℕ} {was is : RecordsState} {disk : Told} (result : Result T E) →
    KnowsNow disk → OnOk result (is.journal ≡ was.journal) → OnOk result (AreKept is disk.content) → R disk disk →
    StagesAtCost R used most was is result disk disk
StagesAtCost-none result knows same kept change = record {
  changes = change;
  kept = kept;
  within = StaysWithin-none result knows same;
  syncs = SyncsToStage-none result same;
}

-- room is made, which fails
pub StagesAtCost-no_room : {S F T E : Type 0} {R : Told → Told → Type 0} {used most : ℕ} {was is : RecordsState} {old new : Told} {step : Result S F}
    (between : RecordsState) (result : Result T E) → IsErr result → AreKept was old.content → KeepsShown was.journal between.journal old new step →
    SyncsForRoom was.journal old new → (was.journal.in_use < 64 → new.syncs ≡ old.syncs) → R old new → StagesAtCost R used most was is result old new
StagesAtCost-no_room {step = step} between result failed kept keeps room idle change = record {
  changes = change;
  kept = on_err result _ failed;
  within = StaysWithin-failed {used = 0} result failed (omega arith) (StaysWithin-kept {is = between} step kept keeps);
  syncs = SyncsToStage-no_room result failed room idle;
}

-- room is made, and then puts are staged
pub StagesAtCost-staged : {S F T E : Type 0} {R : Told → Told → Type 0} {used : ℕ} {was is : RecordsState} {old mid : Told} {value : S}
    (between : RecordsState) (result : Result T E) → AreKept was old.content → AreKept is mid.content →
    is.journal.extent ≤ max was.journal.extent used → KeepsShown {T = S} {E = F} was.journal between.journal old mid (Ok value) →
    SyncsForRoom was.journal old mid → (was.journal.in_use < 64 → mid.syncs ≡ old.syncs) →
    between.journal.in_use + 1 ≡ entries_after was.journal.in_use → is.journal.in_use ≤ between.journal.in_use + 1 → R old mid →
    StagesAtCost R used 1 was is result old mid
StagesAtCost-staged between result kept then extent keeps room idle after staged change = record {
  changes = change;
  kept = on_ok result then;
  within = StaysWithin-staged between result kept then extent keeps;
  syncs = SyncsToStage-staged between result room idle after staged;
}
