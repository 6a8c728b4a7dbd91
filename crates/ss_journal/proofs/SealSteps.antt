-- The steps of a journal: what is staged is sealed, and room is made.
use Rattle.ss_journal.proofs.Common.{ap, arith, ◌*◌, ◌+◌, ◌≤◌, List, Ok, Result, [], ◌∙◌, inr, length, sym, ℕ, ◌<◌, ◌≡◌, ◌⊎◌}
use Rattle.ss_journal.proofs.Common.{on_ok_weaker, IsErr, slice_index, joined, weaker, Told, overwrite, Failed, KeepsMap, KeepsShown, MakesRoom}
use Rattle.ss_journal.proofs.Common.{Seals, entry_place, entry_count, group_bytes, IsBounded, IsKept, IsSealed, IsShown, JournalState, closed_behind}
use Rattle.ss_journal.proofs.Common.{shown, staged_bytes, FillSlots, Kind, SlotMap, StandsFor, Enters, Reaches, StaysShut, Settled, Put}
use Rattle.ss_journal.proofs.GroupLemmas.{opens-closed_behind}
use Rattle.ss_journal.proofs.NewestLemmas.{entry_count-some}
use Rattle.ss_journal.proofs.KeptLemmas.{settled-kept}
use Rattle.ss_journal.proofs.ShownLemmas.{IfStaged-from, IsKept-sealed, IsShown-sealed, closed_behind-fits, length-group_bytes}
use Rattle.ss_journal.proofs.ShownLemmas.{shown-sealed, with_entries-some}
use Rattle.ss_journal.proofs.TearLemmas.{on_err}

-- once all is sealed the map of the content is kept
pub shown-joined : {T E S : Type 0} (was mid then : JournalState) (old between new : Told) (value : S) (result : Result T E) → IsSealed mid → IsSealed then
    → KeepsShown {T = S} {E = E} was mid old between (Ok value) → KeepsMap between new result → KeepsShown was then old new result
shown-joined was mid then old between new value result sealed also first second =
    let stands : (found : SlotMap) → StandsFor (shown was old.content) found → StandsFor between.content found =
    λ found gives. rw shown-sealed at (first.map found gives) in
    record {
      map = λ found gives. on_ok_weaker result (λ is. rw shown-sealed is) (second.map found (stands found gives));
      any_moment = λ only before found is gives.
          let P : List ℕ → Type 0 = λ image. StandsFor image before ⊎ StandsFor image found in
          joined old between new P (first.any_moment only before found is gives)
          (weaker between new (λ image. StandsFor image found) P (λ image stood. inr stood)
          (second.any_moment (first.durable only) found (stands found gives)));
      durable = λ only. second.durable (first.durable only);
    }

-- the same of a journal that is named otherwise
pub Seals-as : {was then journal : JournalState} {result : Result (Unit {0}) Failed} {old new : Told} → then ≡ journal → Seals was then result old new
    → Seals was journal result old new
Seals-as {was} {then} {journal} {result} {old} {new} same is = rw same at is

-- the same of a journal that was named otherwise
pub Seals-of : {was journal then : JournalState} {result : Result (Unit {0}) Failed} {old new : Told} → was ≡ journal → Seals was then result old new
    → Seals journal then result old new
Seals-of {was} {journal} {then} {result} {old} {new} same is = rw same at is

-- what is staged begins with an open gate, and has its place among the entries
pub gate-staged : (staged puts : List Put) → puts ≡ staged → (kind : Kind) (n : ℕ) → 0 < length staged → (bytes : List ℕ)
    → bytes ≡ closed_behind n (group_bytes kind n (entry_count (length puts)) puts) → slice_index bytes 0 ≡ 165
gate-staged staged puts same kind n some bytes all =
    let spelled : bytes ≡ closed_behind n (group_bytes kind n (entry_count (length staged)) staged) =
    rw (all, same) in
    let count : 0 < entry_count (length staged) = entry_count-some (length staged) some in
    rw (spelled, opens-closed_behind)

pub fits-staged : (journal : JournalState) → IsBounded journal → (puts : List Put) → puts ≡ journal.staged → (bytes : List ℕ)
    → bytes ≡ closed_behind journal.sealed (group_bytes journal.kind journal.sealed (entry_count (length puts)) puts)
    → 544 * journal.sealed + length bytes ≤ 34816
fits-staged journal bounded puts same bytes all =
    let spelled : bytes ≡ closed_behind journal.sealed (staged_bytes journal) =
    rw (all, same) in
    let size = length-group_bytes journal.kind journal.sealed (entry_count (length journal.staged)) journal.staged bounded.whole in
    omega (
      arith,
      ap (λ (list : List ℕ). length list) spelled,
      closed_behind-fits journal.sealed (staged_bytes journal) (omega (arith, size, bounded.number, bounded.in_use)),
    )

-- entries that came into the file are those that the journal showed
module _ (was is : JournalState) (n : ℕ) (first : n ≡ was.sealed) (bytes : List ℕ) (all : bytes ≡ closed_behind was.sealed (staged_bytes was)) (old new : Told)
    (kept : IsKept was old.content) (whole : FillSlots was.staged) (some : 0 < length was.staged) (value : Unit {0})
    (enters : Enters n bytes (Ok value) old new)
    (phase : was.phase ≡ is.phase) (extent : is.extent ≡ was.extent) (in_use : is.in_use ≡ was.in_use) (waiting : is.waiting ≡ was.waiting)
    (sealed : IsSealed is) (kind : is.kind ≡ was.kind) where
  same : overwrite old.content (entry_place n) bytes ≡ shown was old.content
  same = rw (first, all) (sym (with_entries-some was.sealed (staged_bytes was) old.content (omega (
    arith,
    entry_count-some (length was.staged) some,
    length-group_bytes was.kind was.sealed (entry_count (length was.staged)) was.staged whole,
  ))))

  content : new.content ≡ shown was old.content
  content = enters.written ∙ same

  shows : IsShown is (shown was old.content)
  shows = let before = kept.shown in record {
    kind = kind ∙ before.kind;
    phase = rw in_use (rw phase at before.phase);
    number = in_use ∙ before.number;
    waiting = rw waiting before.waiting;
    found = before.found;
    map = before.map;
    extent = before.extent ∙ sym extent;
  }

  pub seals-entered : Seals was is (Ok value) old new
  seals-entered = record {
    kept = IsKept-sealed is new.content sealed (rw content shows);
    keeps_shown = record {
      map = λ found gives. rw (shown-sealed is new.content sealed ∙ content) gives;
      any_moment = λ only before found stands gives. enters.any_moment only before found stands (rw same gives);
      durable = λ only. enters.durable;
    };
    durable = IfStaged-from was.staged enters.durable;
  }

-- all that is staged is sealed, and then the entries come into their slots
pub room-made : (was mid : JournalState) (old between new : Told) (value cleared done : Unit {0}) (waiting : List Put) → Seals was mid (Ok value) old between
    → IsSealed mid → waiting ≡ [] → Reaches StaysShut (Ok cleared) between new
    → MakesRoom was (record { phase = Settled; extent = mid.extent; in_use = 0; waiting = waiting; sealed = 0; staged = mid.staged; kind = mid.kind })
    (Ok done) old new
room-made was mid old between new value cleared done waiting seals sealed none reaches = record {
  kept = settled-kept mid between new (IsShown-sealed mid between.content sealed seals.kept) waiting mid.staged reaches.reached.1 reaches.reached.0.0
      reaches.reached.0.1
      reaches.keeps_map.map none sealed;
  keeps_shown = shown-joined was mid _ old between new value (Ok done) sealed sealed seals.keeps_shown
      (record { map = reaches.keeps_map.map; any_moment = reaches.keeps_map.any_moment; durable = reaches.keeps_map.durable });
}

-- the same where the entries didn't come there
pub room-uncleared : {step : Result (Unit {0}) Failed} (was mid left : JournalState) (old between new : Told) (value : Unit {0})
    (result : Result (Unit {0}) Failed) → IsErr result → Seals was mid (Ok value) old between → IsSealed mid
    → Reaches StaysShut step between new → MakesRoom was left result old new
room-uncleared {step} was mid left old between new value result failed seals sealed reaches =
    let keeps = shown-joined was mid mid old between new value step sealed sealed seals.keeps_shown reaches.keeps_map in
    record {
      kept = on_err result _ failed;
      keeps_shown = record { map = λ found is. on_err result _ failed; any_moment = keeps.any_moment; durable = λ only. on_err result _ failed };
    }
