-- What calls in a row make of what records show, of which some is staged, and what a seal makes of it. In each lemma the disks
-- are plain values: a caller strips the premise that the disk tells.
use Rattle.ss_stream.proofs.Common.{◌≡◌, ◌⊎◌, ⊎_elim, inl, inr, ℕ, List, [], ◌∷◌, Err, Ok, Option, Result, length, refl, IsPermutation, on_ok_weaker, IsErr}
use Rattle.ss_stream.proofs.Common.{OnOk, now, weaker, KnowsNow, LeavesOnly, OnlyReads, NothingPending, Told, KeepsShown, IsSealed, SlotMap, StandsFor, changed}
use Rattle.ss_stream.proofs.Common.{Put, SameMap-refl, StandsFor-also, StandsFor-from, StandsFor-same, shown-sealed, on_err, on_ok, AreKept, RecordsState}
use Rattle.ss_stream.proofs.Common.{shown_by, Record, occupied, HasRecords, StandsLike, StaysOr, Turns, TurnsShown}
use Rattle.ss_outside.proofs.CrashLemmas.{joined}
use Rattle.ss_journal.specs.Groups.{entry_count, group_bytes}
use Rattle.ss_journal.specs.declared.kind.Kind.{Kind}
use Rattle.ss_journal.specs.Kept.{HasRoomFor, IfStaged, with_entries}
use Rattle.ss_records.specs.Calls.{StagesPuts}
use Rattle.ss_stream.proofs.Calls.{CrashTriple-answers, CrashTriple-failed, CrashTriple-reads, CrashTriple-then, CrashTriple-weaker}

-- the content itself, and what has this
StaysOr-stays : (old : Told) (M : List ℕ → Type 0) (image : List ℕ) → image ≡ old.content → StaysOr old M image
StaysOr-stays old M image is = (image, inl is, λ found stands. stands)

pub StaysOr-has : (old : Told) (M : List ℕ → Type 0) (image : List ℕ) → M image → StaysOr old M image
StaysOr-has old M image has = (image, inr has, λ found stands. stands)

pub StaysOr-weaker : (old : Told) (M L : List ℕ → Type 0) → ((image : List ℕ) → M image → L image) → (image : List ℕ) → StaysOr old M image →
    StaysOr old L image
StaysOr-weaker old M L gives image left = (left.0, ⊎_elim (λ is. inl is) (λ has. inr (gives left.0 has)) left.1, left.2)

-- what is like the content of a moment that is itself like that of an earlier one
pub StaysOr-later : (old mid : Told) (M L : List ℕ → Type 0) → ((image : List ℕ) → M image → L image) → StaysOr old L mid.content → (image : List ℕ) →
    StaysOr mid M image → StaysOr old L image
StaysOr-later old mid M L gives between image left = elim left.1 [
  | inl is ↦
      let stays : (found : SlotMap) → StandsFor mid.content found → StandsFor image found =
      λ found stands. left.2 found (rw is stands) in
      (between.0, between.1, λ found stands. stays found (between.2 found stands))
  | inr has ↦ (left.0, inr (gives left.0 has), left.2)
]

-- Two calls in a row, of which the first answered Ok. A crash leaves what one in either of them leaves.
pub TurnsShown-then : {S F T E : Type 0} (was between is : RecordsState) (P M Q N R L : List ℕ → Type 0) (old mid new : Told) (value : S)
    (result : Result T E) → KnowsNow mid → TurnsShown {T = S} {E = F} was between P M Q old mid (Ok value) → TurnsShown between is Q N R mid new result →
    ((image : List ℕ) → M image → L image) → ((image : List ℕ) → N image → L image) → TurnsShown was is P L R old new result
TurnsShown-then was between is P M Q N R L old mid new value result knows first second of_first of_second =
    CrashTriple-then (P (shown_by was old.content)) (Q (shown_by between mid.content)) (R (shown_by is new.content)) (StaysOr old M) (StaysOr mid N)
    (StaysOr old L) old mid new value result first second (StaysOr-weaker old M L of_first)
    (λ before. StaysOr-later old mid N L of_second (now old mid (StaysOr old L) knows before mid.content knows.content_is_image))

-- A step failed, and its failure is handed on: whatever the call was to reach at Ok.
pub TurnsShown-failed : {S F T E : Type 0} (was between is : RecordsState) (P M Q R : List ℕ → Type 0) (old new : Told) (step : Result S F)
    (result : Result T E) → IsErr result → TurnsShown was between P M Q old new step → TurnsShown was is P M R old new result
TurnsShown-failed was between is P M Q R old new =
    CrashTriple-failed (P (shown_by was old.content)) (Q (shown_by between new.content)) (R (shown_by is new.content)) (StaysOr old M) old new

-- A step answered Ok, and the call answers whatever it answers without a further call of the disk.
pub TurnsShown-answers : {S F T E : Type 0} (was is : RecordsState) (P M Q : List ℕ → Type 0) (old new : Told) (value : S) (result : Result T E) →
    TurnsShown {T = S} {E = F} was is P M Q old new (Ok value) → TurnsShown was is P M Q old new result
TurnsShown-answers was is P M Q old new =
    CrashTriple-answers (P (shown_by was old.content)) (Q (shown_by is new.content)) (StaysOr old M) old new

-- A call that only reads, and at Ok leaves the journal.
pub TurnsShown-reads : {T E : Type 0} (was is : RecordsState) (P M : List ℕ → Type 0) (old new : Told) (result : Result T E) → KnowsNow old →
    OnlyReads old new → OnOk result (is.journal ≡ was.journal) → TurnsShown was is P M P old new result
TurnsShown-reads was is P M old new result knows reads same =
    CrashTriple-reads (P (shown_by was old.content)) (P (shown_by is new.content)) (StaysOr old M) old new result knows reads
    (λ has. on_ok_weaker result (λ (journal : is.journal ≡ was.journal).
    rw (journal, reads.same.content) has)
    same)
    (λ has none image left. StaysOr-stays old M image (none image left))

-- Of less before the call, more is left, and less reached. What holds of what is shown before the call may be used.
pub TurnsShown-weaker : {T E : Type 0} (was is : RecordsState) (P P' M M' Q Q' : List ℕ → Type 0) (old new : Told) (result : Result T E) →
    (P' (shown_by was old.content) → P (shown_by was old.content)) →
    (P' (shown_by was old.content) → (image : List ℕ) → M image → M' image) →
    (P' (shown_by was old.content) → (image : List ℕ) → Q image → Q' image) → TurnsShown was is P M Q old new result →
    TurnsShown was is P' M' Q' old new result
TurnsShown-weaker was is P P' M M' Q Q' old new result before crash after =
    CrashTriple-weaker (P (shown_by was old.content)) (P' (shown_by was old.content)) (Q (shown_by is new.content)) (Q' (shown_by is new.content))
    (StaysOr old M) (StaysOr old M') old new result before (λ has. StaysOr-weaker old M M' (crash has)) (λ has. after has (shown_by is new.content))

-- A property of maps: an image that has it stands for a map, and so has every image that stands for that map.
abbrev pub IsOfMap : (List ℕ → Type 0) → Type 0
IsOfMap P = (image : List ℕ) → P image → (found : SlotMap) × StandsFor image found × ((other : List ℕ) → StandsFor other found → P other)

pub HasRecords-of_map : (slots : List (ℕ × Option Record)) → IsOfMap (HasRecords slots)
HasRecords-of_map slots image has = (has.found, has.map, λ other is. record { found = has.found; map = is; occupied = has.occupied })

-- that an image stands for a map is one
pub StandsFor-of_map : (found : SlotMap) → IsOfMap (λ image. StandsFor image found)
StandsFor-of_map found image is = (found, is, λ other also. also)

-- what is like an image of a property of maps has it
pub of_map-like : (P : List ℕ → Type 0) → IsOfMap P → (image : List ℕ) → StandsLike P image → P image
of_map-like P maps image like = let its = maps like.0 like.1 in its.2 image (like.2 its.0 its.1)

-- a content of which something may be staged stands for a map
content-stands : (kind : Kind) (n : ℕ) (staged : List Put) (content : List ℕ)
    → ((found : SlotMap) × StandsFor (with_entries n (group_bytes kind n (entry_count (length staged)) staged) content) found)
    → IfStaged staged (HasRoomFor n staged content) → (found : SlotMap) × StandsFor content found
content-stands kind n [] content stands before = stands
content-stands kind n (put ∷ puts) content stands before =
    let ends = before.ends in
    (ends.found, StandsFor-from content ends.found ends.found ends.map (SameMap-refl ends.found))

-- room is made, or what is staged is sealed: a property of maps stays
pub TurnsShown-kept : {T E : Type 0} (was is : RecordsState) (P : List ℕ → Type 0) (old new : Told) (result : Result T E) → IsOfMap P →
    AreKept was old.content → KeepsShown was.journal is.journal old new result → TurnsShown was is P P P old new result
TurnsShown-kept was is P old new result maps kept keeps = record {
  content = λ has.
      let its = maps (shown_by was old.content) has in on_ok_weaker result (its.2 (shown_by is new.content)) (keeps.map its.0 its.1);
  any_moment = λ none has.
      let its = maps (shown_by was old.content) has in
      let it = content-stands was.journal.kind was.journal.sealed was.journal.staged old.content (its.0, its.1) kept.journal.before in
      weaker old new (λ image. StandsFor image it.0 ⊎ StandsFor image its.0) (StaysOr old P)
      (λ image either. elim either [
        | inl stays ↦ (
          old.content,
          inl refl,
          λ found stands. StandsFor-also image it.0 found stays (StandsFor-same old.content it.0 found it.1 stands),
        )
        | inr comes ↦ StaysOr-has old P image (its.2 image comes)
      ])
      (keeps.any_moment none it.0 its.0 it.1 its.1);
  durable = keeps.durable;
}

module _ (was between : RecordsState) (slots : List (ℕ × Option Record)) (old mid : Told) where
  pub TurnsShown-keeps : {T E : Type 0} (result : Result T E) → AreKept was old.content → KeepsShown was.journal between.journal old mid result →
      TurnsShown was between (HasRecords slots) (HasRecords slots) (HasRecords slots) old mid result
  TurnsShown-keeps result kept keeps = TurnsShown-kept was between (HasRecords slots) old mid result (HasRecords-of_map slots) kept keeps

  -- and then puts are staged
  pub TurnsShown-staged : {S F T E : Type 0} (is : RecordsState) (after : List (ℕ × Option Record)) (puts : List Put) (value : S) (result : Result T E) →
      AreKept between mid.content → StagesPuts puts between is mid.content →
      ((found : SlotMap) → StandsFor (shown_by between mid.content) found → IsPermutation slots (occupied found) →
      IsPermutation after (occupied (changed found puts))) →
      TurnsShown {T = S} {E = F} was between (HasRecords slots) (HasRecords slots) (HasRecords slots) old mid (Ok value) →
      TurnsShown was is (HasRecords slots) (HasRecords slots) (HasRecords after) old mid result
  TurnsShown-staged is after puts value result kept stages moves room = record {
    content = λ has.
        let then : HasRecords slots (shown_by between mid.content) = room.content has in
        on_ok result (record {
          found = changed then.found puts;
          map = stages.map kept then.found then.map;
          occupied = moves then.found then.map then.occupied;
        });
    any_moment = room.any_moment;
    durable = λ none. on_ok result (room.durable none);
  }

-- room is made, and then puts are staged, whichever map is shown
pub TurnsShown-changed : {S F T E : Type 0} (was between is : RecordsState) (found : SlotMap) (old mid : Told) (puts : List Put) (value : S)
    (result : Result T E) → AreKept was old.content → AreKept between mid.content → StagesPuts puts between is mid.content →
    KeepsShown {T = S} {E = F} was.journal between.journal old mid (Ok value) →
    TurnsShown was is (λ image. StandsFor image found) (λ image. StandsFor image found) (λ image. StandsFor image (changed found puts)) old mid result
TurnsShown-changed {F} was between is found old mid puts value result kept kept_mid stages keeps =
    let P = λ (image : List ℕ). StandsFor image found in
    let room = TurnsShown-kept {E = F} was between P old mid (Ok value) (StandsFor-of_map found) kept keeps in
    record {
      content = λ has. on_ok result (stages.map kept_mid found (room.content has));
      any_moment = room.any_moment;
      durable = λ none. on_ok result (room.durable none);
    }

-- what was reached of what is shown is reached of the content, where nothing is staged any more
sealed_content : {T E : Type 0} (is : RecordsState) (Q : List ℕ → Type 0) (new : Told) (result : Result T E) (found : SlotMap) →
    ((other : List ℕ) → StandsFor other found → Q other) → OnOk result (IsSealed is.journal) →
    OnOk result (StandsFor (shown_by is new.content) found) → OnOk result (Q new.content)
sealed_content is Q new (Ok value) found gives sealed stands = rw shown-sealed at (gives (shown_by is new.content) stands)
sealed_content is Q new (Err e) found gives sealed stands = tt

-- What was staged since nothing was is sealed.
module _ (was : RecordsState) (P M L : List ℕ → Type 0) (old : Told) (at_rest : IsSealed was.journal)
    (of_before : (image : List ℕ) → P image → L image) (of_crash : (image : List ℕ) → M image → L image) (maps : IsOfMap L) where
  shown_before : P old.content → P (shown_by was old.content)
  shown_before has = rw shown-sealed has

  -- a crash before the seal
  left : (has : P old.content) (image : List ℕ) → StaysOr old M image → L image
  left has image stays =
      of_map-like L maps image (stays.0, ⊎_elim (λ same. of_before stays.0 (rw same has)) (λ some. of_crash stays.0 some) stays.1, stays.2)

  module _ {S F T E : Type 0} (between is : RecordsState) (Q : List ℕ → Type 0) (mid new : Told) where
    -- it was not sealed, since the call failed
    pub Turns-not_sealed : (step : Result S F) (result : Result T E) (R : List ℕ → Type 0) → IsErr result → TurnsShown was between P M Q old mid step →
        Turns P L R old mid result
    Turns-not_sealed step result R failed turns = record {
      content = λ has. on_err result (R mid.content) failed;
      any_moment = λ none has. weaker old mid (StaysOr old M) L (left has) (turns.any_moment none (shown_before has));
      durable = λ none. on_err result (NothingPending mid) failed;
    }

    -- the seal, whatever it answers
    pub Turns-sealed : (value : S) (result : Result T E) → IsOfMap Q → ((image : List ℕ) → Q image → L image) → KnowsNow mid →
        OnOk result (IsSealed is.journal) → TurnsShown {T = S} {E = F} was between P M Q old mid (Ok value) →
        KeepsShown between.journal is.journal mid new result → Turns P L Q old new result
    Turns-sealed value result reached of_reached knows sealed turns keeps = record {
      content = λ has.
          let its = reached (shown_by between mid.content) (turns.content (shown_before has)) in
          sealed_content is Q new result its.0 its.2 sealed (keeps.map its.0 its.1);
      any_moment = λ none has.
          let before : LeavesOnly old mid L = weaker old mid (StaysOr old M) L (left has) (turns.any_moment none (shown_before has)) in
          let here = maps mid.content (now old mid L knows before mid.content knows.content_is_image) in
          let its = reached (shown_by between mid.content) (turns.content (shown_before has)) in
          joined old mid new L before
          (weaker mid new (λ image. StandsFor image here.0 ⊎ StandsFor image its.0) L
          (λ image. ⊎_elim (λ stays. here.2 image stays) (λ comes. of_reached image (its.2 image comes)))
          (keeps.any_moment (turns.durable none) here.0 its.0 here.1 its.1));
      durable = λ none. keeps.durable (turns.durable none);
    }
