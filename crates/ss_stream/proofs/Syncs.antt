-- How often calls in a row make room, and by how many syncs.
use Rattle.ss_stream.proofs.Common.{◌+◌, ◌<◌, ◌≡◌, ◌≤◌, Ok, Result, ap, arith, inl, inr, ℕ, cases_lt, cond-false, cond-true, on_ok_weaker, IsErr, OnOk, nat_lt}
use Rattle.ss_stream.proofs.Common.{reads-none, OnlyReads, Told, on_err, on_ok, SyncsForRoom, entries_after, JournalState, RecordsState, SyncsToStage}
use Rattle.std.proofs.lemmas.Bool.{le-ltb, lt-ltb}

module _ {S F T E : Type 0} {few most : ℕ} {was is : RecordsState} {old new : Told} where
  -- a step answered Ok, and the call answers whatever it answers
  pub SyncsToStage-answers : {value : S} (result : Result T E) → few ≤ most → SyncsToStage {T = S} {E = F} few was is (Ok value) old new →
      SyncsToStage most was is result old new
  SyncsToStage-answers result less stages = record {
    rooms = stages.rooms;
    syncs = stages.syncs;
    used = omega (arith, less, stages.used);
    left = on_ok result (omega (arith, less, stages.left));
  }

  -- a step failed, and its failure is handed on
  pub SyncsToStage-failed : {between : RecordsState} {step : Result S F} (result : Result T E) → IsErr result → few ≤ most →
      SyncsToStage few was between step old new → SyncsToStage most was is result old new
  SyncsToStage-failed result failed less stages = record {
    rooms = stages.rooms;
    syncs = stages.syncs;
    used = omega (arith, less, stages.used);
    left = on_err result _ failed;
  }

-- one call after another
pub SyncsToStage-then : {S F T E : Type 0} {first second most : ℕ} {was between is : RecordsState} {old mid new : Told} {value : S} (result : Result T E) →
    first + second ≤ most → SyncsToStage {T = S} {E = F} first was between (Ok value) old mid → SyncsToStage second between is result mid new →
    SyncsToStage most was is result old new
SyncsToStage-then result few one two = record {
  rooms = one.rooms + two.rooms;
  syncs = omega (arith, one.syncs, two.syncs);
  used = omega (arith, few, one.left, two.used);
  left = on_ok_weaker result (λ left. omega (arith, few, one.left, left)) two.left;
}

-- a call that only reads
pub SyncsToStage-reads : {T E : Type 0} {most : ℕ} {was is : RecordsState} {old new : Told} (result : Result T E) → OnlyReads old new →
    OnOk result (is.journal ≡ was.journal) → SyncsToStage most was is result old new
SyncsToStage-reads result reads same = record {
  rooms = 0;
  syncs = omega (arith, reads.same.syncs);
  used = omega arith;
  left = on_ok_weaker result (λ same. omega (arith, ap (λ (j : JournalState). j.in_use) same)) same;
}

-- no call
pub SyncsToStage-none : {T E : Type 0} {most : ℕ} {was is : RecordsState} {disk : Told} (result : Result T E) →
    OnOk result (is.journal ≡ was.journal) → SyncsToStage most was is result disk disk
SyncsToStage-none {disk = disk} result same = SyncsToStage-reads result (reads-none disk) same

-- room is made, which fails
pub SyncsToStage-no_room : {T E : Type 0} {most : ℕ} {was is : RecordsState} {old new : Told} (result : Result T E) → IsErr result →
    SyncsForRoom was.journal old new → (was.journal.in_use < 64 → new.syncs ≡ old.syncs) → SyncsToStage most was is result old new
SyncsToStage-no_room {was = was} result failed room idle = elim (cases_lt was.journal.in_use 64) [
  | inl free ↦ record { rooms = 0; syncs = omega (arith, idle free); used = omega arith; left = on_err result _ failed }
  | inr full ↦ record { rooms = 1; syncs = omega (arith, room.most); used = omega (arith, full); left = on_err result _ failed }
]

-- room is made, and then puts are staged
pub SyncsToStage-staged : {T E : Type 0} {was is : RecordsState} {old new : Told} (between : RecordsState) (result : Result T E) →
    SyncsForRoom was.journal old new → (was.journal.in_use < 64 → new.syncs ≡ old.syncs) →
    between.journal.in_use + 1 ≡ entries_after was.journal.in_use → is.journal.in_use ≤ between.journal.in_use + 1 →
    SyncsToStage 1 was is result old new
SyncsToStage-staged {was = was} between result room idle after staged = elim (cases_lt was.journal.in_use 64) [
  | inl free ↦
      let one = cond-true (nat_lt was.journal.in_use 64) (was.journal.in_use + 1) 1 (lt-ltb was.journal.in_use 64 free) in
      record { rooms = 0; syncs = omega (arith, idle free); used = omega arith; left = on_ok result (omega (arith, after, one, staged)) }
  | inr full ↦
      let one = cond-false (nat_lt was.journal.in_use 64) (was.journal.in_use + 1) 1 (le-ltb was.journal.in_use 64 full) in
      record { rooms = 1; syncs = omega (arith, room.most); used = omega (arith, full); left = on_ok result (omega (arith, after, one, staged, full)) }
]
