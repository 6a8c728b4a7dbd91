-- What was staged of a stream is sealed: the value and the joins come to the disk together.
use Rattle.ss_stream.proofs.Common.{inr, ℕ, ℤ, List, ◌++◌, Ok, Option, Result, IsErr, OnOk, KnowsNow, Told, IsFirm, Verdict, fine, Failed}
use Rattle.ss_stream.proofs.Common.{IsSealed, shown-sealed, on_err, SealsRecords, AreKept, RecordsState, Record, New, closed, closed_stream, rule_of, Stream}
use Rattle.ss_stream.proofs.Common.{values_in, with_plain_value, JoinsDue-closed, records_held, StreamParts, IsHeldIn, verdict_of_read, ReadError}
use Rattle.ss_stream.proofs.Common.{StagesAtCost, IsHalfway, IsPartlyJoined, with_single, with_windows}
use Rattle.ss_stream.specs.Changing.{PutsValue, StagesJoins, StagesStream, TurnsStream}
use Rattle.ss_stream.proofs.Additions.{closed-single}
use Rattle.ss_stream.proofs.ShownCalls.{HasRecords-of_map, IsOfMap, Turns-not_sealed, Turns-sealed, TurnsShown-then}
use Rattle.ss_stream.proofs.Within.{KeepsWithin-not_sealed, KeepsWithin-sealed}

-- each of these is a property of maps
pub IsHeldIn-of_map : (others : List (ℕ × Option Record)) (part : StreamParts) (s : Stream) → IsOfMap (IsHeldIn others part s)
IsHeldIn-of_map others part s image held =
    let its = HasRecords-of_map (records_held (part, s) ++ others) image held.records in
    (its.0, its.1, λ other stands. record { agrees = held.agrees; stream = held.stream; records = its.2 other stands })

pub IsPartlyJoined-of_map : (others : List (ℕ × Option Record)) (s : Stream) → IsOfMap (IsPartlyJoined others s)
IsPartlyJoined-of_map others s image is =
    let its = IsHeldIn-of_map others is.part (with_windows s is.windows) image is.held in
    (its.0, its.1, λ other stands. record { part = is.part; windows = is.windows; joins = is.joins; held = its.2 other stands })

-- a stream of which all windows were joined that are due
pub IsPartlyJoined-closed : (others : List (ℕ × Option Record)) (part : StreamParts) (s : Stream) (image : List ℕ) →
    IsHeldIn others part (closed_stream s) image → IsPartlyJoined others s image
IsPartlyJoined-closed others part s image held = record {
  part = part;
  windows = closed (rule_of s.params) (values_in s) s.windows;
  joins = JoinsDue-closed (rule_of s.params) (values_in s) s.windows;
  held = held;
}

-- A change of a stream that is held was staged, since nothing was.
module _ (part : StreamParts) (during after : List (ℕ × Option Record) → Stream → List ℕ → Type 0) (was : RecordsState) (old : Told)
    (at_rest : IsSealed was.journal) (maps : (others : List (ℕ × Option Record)) (s : Stream) → IsOfMap (during others s))
    (of_before : (others : List (ℕ × Option Record)) (s : Stream) (image : List ℕ) → IsHeldIn others part s image → during others s image) where
  firm_shown : (v : Verdict) (between : RecordsState) (result : Result (Unit {0}) ReadError) (mid : Told) →
      StagesStream v part during after was between result old mid → (others : List (ℕ × Option Record)) (s : Stream) →
      IsHeldIn others part s old.content → IsFirm v
  firm_shown v between result mid stages others s held = stages.firm others s (rw shown-sealed held)

  -- it was not sealed, since the call failed
  pub TurnsStream-not_sealed : {most : ℕ} (v : Verdict) (between is : RecordsState) (result : Result (Unit {0}) ReadError) (mid : Told)
      (later : List (ℕ × Option Record) → Stream → List ℕ → Type 0) → IsErr result →
      StagesAtCost (StagesStream v part during after was between result) 0 most was between result old mid → TurnsStream v part during later is result old mid
  TurnsStream-not_sealed v between is result mid later failed stages = record {
    turns = λ others s.
        Turns-not_sealed was (IsHeldIn others part s) (during others s) (during others s) old at_rest (of_before others s) (λ image left. left)
        (maps others s) between is (after others s) mid mid result result (later others s) failed (stages.changes.turns others s);
    firm = firm_shown v between result mid stages.changes;
    kept = on_err result (AreKept is mid.content) failed;
    within = KeepsWithin-not_sealed at_rest result failed stages.within;
  }

  -- the seal, whatever it answers
  pub TurnsStream-sealed : {most : ℕ} (v : Verdict) (between is : RecordsState) (result : Result (Unit {0}) Failed) (mid new : Told) →
      ((others : List (ℕ × Option Record)) (s : Stream) → IsOfMap (after others s)) →
      ((others : List (ℕ × Option Record)) (s : Stream) (image : List ℕ) → after others s image → during others s image) → IsFirm v → KnowsNow mid →
      OnOk result (IsSealed is.journal) →
      StagesAtCost {T = Unit {0}} {E = ReadError} (StagesStream {T = Unit {0}} {E = ReadError} fine part during after was between (Ok tt)) 0 most was between
      (Ok tt) old mid → SealsRecords between is result mid new → TurnsStream v part during after is result old new
  TurnsStream-sealed v between is result mid new reached of_reached firm knows sealed stages seals = record {
    turns = λ others s.
        Turns-sealed was (IsHeldIn others part s) (during others s) (during others s) old at_rest (of_before others s) (λ image left. left)
        (maps others s) between is (after others s) mid new tt result (reached others s) (of_reached others s) knows sealed (stages.changes.turns others s)
        seals.keeps_shown;
    firm = λ others s held. firm;
    kept = seals.kept;
    within = KeepsWithin-sealed at_rest is result knows sealed stages.within seals.keeps_shown;
  }

-- A value was put, and then windows were joined until none is due.
pub StagesStream-valued : {part between_part now : StreamParts} {t : ℕ} {v : ℤ} {was between is : RecordsState} {old mid new : Told}
    (result : Result (Unit {0}) ReadError) → KnowsNow mid → PutsValue part between_part t v was between (Ok tt) old mid →
    StagesJoins between_part now between is result mid new →
    StagesStream (verdict_of_read result) part (λ others s. IsHalfway others part s t v) (λ others s. IsHeldIn others now (with_plain_value s (t, v, New)))
    was is result old new
StagesStream-valued {part} {between_part} {now} {t} {v} {was} {between} {is} {old} {mid} {new} result knows first second = record {
  turns = λ others s.
      let single = with_single s t v in
      rw (← closed-single s t v)
      (TurnsShown-then {S = Unit {0}} {F = ReadError} was between is (IsHeldIn others part s) (IsHalfway others part s t v)
      (IsHeldIn others between_part single) (IsPartlyJoined others single) (IsHeldIn others now (closed_stream single)) (IsHalfway others part s t v)
      old mid new tt result knows (first.turns others s) (second.turns others single) (λ image left. left) (λ image left. inr left));
  firm = λ others s held. second.firm others (with_single s t v) ((first.turns others s).content held);
}
