-- How many slots calls in a row use, also in a crash. In each lemma the disks are plain values: a caller strips the premise that the disk tells.
use Rattle.ss_stream.proofs.Common.{◌≡◌, ◌≤◌, ℕ, List, Ok, Result, arith, IsErr, OnOk, max, reads-none, KnowsNow, OnlyReads}
use Rattle.ss_stream.proofs.Common.{Told, KeepsMap, KeepsShown, IsSealed, SlotMap, StandsFor, SameMap-refl, StandsFor-also, StandsFor-from, StandsFor-same}
use Rattle.ss_stream.proofs.Common.{on_ok, AreKept, RecordsState, shown_by, KeepsWithin, StaysWithin, UsesAtMost}
use Rattle.ss_stream.proofs.Calls.{Turns-answers, Turns-failed, Turns-joined, Turns-reads}
use Rattle.ss_stream.proofs.Changes.{extent-kept}
use Rattle.ss_stream.proofs.ShownCalls.{IsOfMap, Turns-not_sealed, Turns-sealed, TurnsShown-answers, TurnsShown-failed, TurnsShown-kept}
use Rattle.ss_stream.proofs.ShownCalls.{TurnsShown-reads, TurnsShown-then}
use Rattle.ss_stream.proofs.Slots.{Turns-kept}

pub UsesAtMost-of_map : (n : ℕ) → IsOfMap (UsesAtMost n)
UsesAtMost-of_map n image uses = (uses.found, uses.map, λ other also. record { found = uses.found; map = also; few = uses.few })

pub UsesAtMost-more : (n m : ℕ) (image : List ℕ) → n ≤ m → UsesAtMost n image → UsesAtMost m image
UsesAtMost-more n m image less uses = record { found = uses.found; map = uses.map; few = omega (arith, less, uses.few) }

-- an image that stands for the same map uses no more
pub UsesAtMost-also : (n : ℕ) (content image : List ℕ) (its : SlotMap) → StandsFor content its → StandsFor image its → UsesAtMost n content → UsesAtMost n image
UsesAtMost-also n content image its is also uses = record {
  found = uses.found;
  map = StandsFor-also image its uses.found also (StandsFor-same content its uses.found is uses.map);
  few = uses.few;
}

-- what records show uses as many slots as their journal says
pub UsesAtMost-kept : (n : ℕ) (records : RecordsState) (content : List ℕ) → AreKept records content → records.journal.extent ≤ n →
    UsesAtMost n (shown_by records content)
UsesAtMost-kept n records content kept few =
    let its = kept.journal.shown in
    record {
      found = its.found;
      map = StandsFor-from (shown_by records content) its.found its.found its.map (SameMap-refl its.found);
      few = omega (arith, its.extent, few);
    }

pub extent-uses : (n : ℕ) (records : RecordsState) (content : List ℕ) → AreKept records content → UsesAtMost n (shown_by records content) →
    records.journal.extent ≤ n
extent-uses n records content kept uses = omega (arith, extent-kept records content uses.found kept uses.map, uses.few)

-- ---- what is staged

module _ {S F T E : Type 0} {used more : ℕ} {was is : RecordsState} {old new : Told} where
  -- a step answered Ok, and the call answers whatever it answers
  pub StaysWithin-answers : {value : S} (result : Result T E) → used ≤ more → StaysWithin {T = S} {E = F} used was is (Ok value) old new →
      StaysWithin more was is result old new
  StaysWithin-answers {value} result less stays = record {
    turns = λ n few.
        TurnsShown-answers was is (UsesAtMost n) (UsesAtMost n) (UsesAtMost n) old new value result (stays.turns n (omega (arith, less, few)));
  }

  -- a step failed, and its failure is handed on
  pub StaysWithin-failed : {between : RecordsState} {step : Result S F} (result : Result T E) → IsErr result → used ≤ more →
      StaysWithin used was between step old new → StaysWithin more was is result old new
  StaysWithin-failed {between} {step} result failed less stays = record {
    turns = λ n few.
        TurnsShown-failed was between is (UsesAtMost n) (UsesAtMost n) (UsesAtMost n) (UsesAtMost n) old new step result failed
        (stays.turns n (omega (arith, less, few)));
  }

-- one call after another
pub StaysWithin-then : {S F T E : Type 0} {first second used : ℕ} {was between is : RecordsState} {old mid new : Told} {value : S} (result : Result T E) →
    KnowsNow mid → first ≤ used → second ≤ used → StaysWithin {T = S} {E = F} first was between (Ok value) old mid →
    StaysWithin second between is result mid new → StaysWithin used was is result old new
StaysWithin-then {was = was} {between = between} {is = is} {old = old} {mid = mid} {new = new} {value = value} result knows less also one two = record {
  turns = λ n few.
      let uses = UsesAtMost n in
      TurnsShown-then was between is uses uses uses uses uses uses old mid new value result knows (one.turns n (omega (arith, less, few)))
      (two.turns n (omega (arith, also, few))) (λ image left. left) (λ image left. left);
}

-- a call that only reads
pub StaysWithin-reads : {T E : Type 0} {used : ℕ} {was is : RecordsState} {old new : Told} (result : Result T E) → KnowsNow old → OnlyReads old new →
    OnOk result (is.journal ≡ was.journal) → StaysWithin used was is result old new
StaysWithin-reads {was = was} {is = is} {old = old} {new = new} result knows reads same = record {
  turns = λ n few. TurnsShown-reads was is (UsesAtMost n) (UsesAtMost n) old new result knows reads same;
}

-- no call
pub StaysWithin-none : {T E : Type 0} {used : ℕ} {was is : RecordsState} {disk : Told} (result : Result T E) → KnowsNow disk →
    OnOk result (is.journal ≡ was.journal) → StaysWithin used was is result disk disk
StaysWithin-none {disk = disk} result knows same = StaysWithin-reads result knows (reads-none disk) same

-- room is made, or what is staged is sealed
pub StaysWithin-kept : {T E : Type 0} {used : ℕ} {was is : RecordsState} {old new : Told} (result : Result T E) → AreKept was old.content →
    KeepsShown was.journal is.journal old new result → StaysWithin used was is result old new
StaysWithin-kept {was = was} {is = is} {old = old} {new = new} result kept keeps = record {
  turns = λ n few. TurnsShown-kept was is (UsesAtMost n) old new result (UsesAtMost-of_map n) kept keeps;
}

-- room is made, and then puts are staged
pub StaysWithin-staged : {S F T E : Type 0} {used : ℕ} {was is : RecordsState} {old mid : Told} {value : S} (between : RecordsState) (result : Result T E) →
    AreKept was old.content → AreKept is mid.content → is.journal.extent ≤ max was.journal.extent used →
    KeepsShown {T = S} {E = F} was.journal between.journal old mid (Ok value) → StaysWithin used was is result old mid
StaysWithin-staged {F = F} {used = used} {was = was} {is = is} {old = old} {mid = mid} {value = value} between result kept then extent keeps = record {
  turns = λ n few.
      let stays = StaysWithin-kept {E = F} {used = used} {was = was} {is = between} {old = old} {new = mid} (Ok value) kept keeps in
      let room = stays.turns n few in
      record {
        content = λ uses. on_ok result (UsesAtMost-kept n is mid.content then (omega (arith, extent, few, extent-uses n was old.content kept uses)));
        any_moment = room.any_moment;
        durable = λ none. on_ok result (room.durable none);
      };
}

-- ---- and what comes to the disk

module _ {S F T E : Type 0} {used : ℕ} {old new : Told} where
  pub KeepsWithin-answers : {value : S} (result : Result T E) → KeepsWithin {T = S} {E = F} used (Ok value) old new → KeepsWithin used result old new
  KeepsWithin-answers {value} result keeps n few = Turns-answers (UsesAtMost n) (UsesAtMost n) (UsesAtMost n) old new value result (keeps n few)

  pub KeepsWithin-failed : {step : Result S F} (result : Result T E) → IsErr result → KeepsWithin used step old new → KeepsWithin used result old new
  KeepsWithin-failed {step} result failed keeps n few =
      Turns-failed (UsesAtMost n) (UsesAtMost n) (UsesAtMost n) (UsesAtMost n) old new step result failed (keeps n few)

pub KeepsWithin-then : {S F T E : Type 0} {used : ℕ} {old mid new : Told} {value : S} (result : Result T E) →
    KeepsWithin {T = S} {E = F} used (Ok value) old mid → KeepsWithin used result mid new → KeepsWithin used result old new
KeepsWithin-then {old = old} {mid = mid} {new = new} {value = value} result first second n few =
    Turns-joined (UsesAtMost n) (UsesAtMost n) (UsesAtMost n) (UsesAtMost n) old mid new value result (first n few) (second n few)

pub KeepsWithin-reads : {T E : Type 0} {used : ℕ} {old new : Told} (result : Result T E) → KnowsNow old → OnlyReads old new →
    KeepsWithin used result old new
KeepsWithin-reads {old = old} {new = new} result knows reads n few =
    Turns-reads (UsesAtMost n) (UsesAtMost n) old new result knows reads (λ uses. uses)

pub KeepsWithin-map : {T E : Type 0} {used : ℕ} {old new : Told} (result : Result T E) → KeepsMap old new result → KeepsWithin used result old new
KeepsWithin-map {old = old} {new = new} result keeps n few = Turns-kept (UsesAtMost n) old new result (UsesAtMost-of_map n) keeps

-- what was staged since nothing was is sealed, or it failed before
module _ {S F T E : Type 0} {used : ℕ} {was between : RecordsState} {old mid : Told} (at_rest : IsSealed was.journal) where
  pub KeepsWithin-not_sealed : {step : Result S F} (result : Result T E) → IsErr result → StaysWithin used was between step old mid →
      KeepsWithin used result old mid
  KeepsWithin-not_sealed {step} result failed stays n few =
      let uses = UsesAtMost n in
      Turns-not_sealed was uses uses uses old at_rest (λ image has. has) (λ image has. has) (UsesAtMost-of_map n) between between uses mid mid step result
      uses failed (stays.turns n few)

  pub KeepsWithin-sealed : {new : Told} {value : S} (is : RecordsState) (result : Result T E) → KnowsNow mid → OnOk result (IsSealed is.journal) →
      StaysWithin {T = S} {E = F} used was between (Ok value) old mid → KeepsShown between.journal is.journal mid new result →
      KeepsWithin used result old new
  KeepsWithin-sealed {new} {value} is result knows sealed stays keeps n few =
      let uses = UsesAtMost n in
      Turns-sealed was uses uses uses old at_rest (λ image has. has) (λ image has. has) (UsesAtMost-of_map n) between is uses mid new value result
      (UsesAtMost-of_map n) (λ image has. has) knows sealed (stays.turns n few) keeps
