-- A journal and the content of its disk: opened, settled, read and committed.
use Rattle.ss_journal.proofs.Common.{Ok, Result, IsTrue, List, [], ap, arith, inl, inr, length, nat_lt, refl, sym, ℕ, ⊎_elim, ◌<◌, ◌^◌, ◌∙◌, ◌≡◌}
use Rattle.ss_journal.proofs.Common.{false, ◌≢◌, ◌≤◌, ◌⊎◌, both_ways, cases_Bool, cases_lt, cond-false, cond-true, le-ltb, lt-ltb, IsErr, OnOk, flat_map}
use Rattle.ss_journal.proofs.Common.{NothingPending, Told, Failed, the_type, Leads, MakesDurable, ReadsPage, ReadsSlot, Settles, puts_of, slot_form, slot_in}
use Rattle.ss_journal.proofs.Common.{Kind, IsShut, is_born, is_unborn, kind_of, slot_at, slots_in, EndsAt, IsClosed, IsInPhase, IsKept, IsShown, JournalState}
use Rattle.ss_journal.proofs.Common.{AreEntries, DoAs, extent_after, is_put, slots_fit, with_puts, SameMap, SlotMap, StandsFor, blank_map}
use Rattle.ss_journal.proofs.Common.{changed, file_map, puts_in_use, zeros, Clears, Durably, Reaches, Settled, Unborn, Phase, Put}
use denote.Enum.Bare.{sameb}
use Rattle.ss_journal.proofs.NextEntry.{IsReadyFor}
use Rattle.ss_journal.specs.declared.phase.Phase.TheVariants.{Born, Stopped}
use Rattle.ss_journal.proofs.GateLemmas.{file_map-first_closed}
use Rattle.ss_journal.proofs.HeaderLemmas.{is_born-unborn}
use Rattle.ss_journal.proofs.MapLemmas.{SameMap-refl}
use Rattle.ss_journal.proofs.NewestLemmas.{DoAs-none}
use Rattle.ss_journal.proofs.PutLemmas.{below_extent, is_put-none, past_extent, with_puts-beside, with_puts-put}
use Rattle.ss_journal.proofs.ShownLemmas.{IsKept-sealed}
use Rattle.ss_journal.proofs.TearLemmas.{keeps-err, on_err}
use Rattle.ss_journal.proofs.RedoLemmas.{StandsFor-from, entries_in_use-unborn, redo-born, redo-first_closed, redo-unborn}

-- the file of a journal that has not failed is formatted or not
pub cases_phase : (phase : Phase) (in_use : ℕ) (content : List ℕ) → IsInPhase phase in_use content → IsTrue (is_unborn content) ⊎ IsTrue (is_born content)
cases_phase Unborn in_use content is = inl is
cases_phase Born in_use content is = inr is
cases_phase Settled in_use content is = inr is.0
cases_phase Stopped in_use content is = absurd is

born_phase : (phase : Phase) (in_use : ℕ) (content : List ℕ) → phase ≢ Unborn → IsInPhase phase in_use content → IsTrue (is_born content)
born_phase Unborn in_use content other is = absurd (other refl)
born_phase Born in_use content other is = is
born_phase Settled in_use content other is = is.0
born_phase Stopped in_use content other is = absurd is

-- the same of what a journal shows
pub unborn-shown : (journal : JournalState) (content : List ℕ) → journal.phase ≡ Unborn → IsShown journal content → IsTrue (is_unborn content)
unborn-shown journal content same is = rw same at is.phase

pub born-shown : (journal : JournalState) (content : List ℕ) → journal.phase ≢ Unborn → IsShown journal content → IsTrue (is_born content)
born-shown journal content other is = born_phase journal.phase journal.in_use content other is.phase

-- a read of the same journal
pub ReadsSlot-as : {was journal : JournalState} {slot : ℕ} {result : Result (List ℕ) Failed} {old new : Told} → was ≡ journal
    → ReadsSlot was slot result old new → ReadsSlot journal slot result old new
ReadsSlot-as {was} {journal} {slot} {result} {old} {new} same is = rw same at is

pub ReadsPage-as : {was journal : JournalState} {page : ℕ} {result : Result (List ℕ) Failed} {old new : Told} → was ≡ journal
    → ReadsPage was page result old new → ReadsPage journal page result old new
ReadsPage-as {was} {journal} {page} {result} {old} {new} same is = rw same at is

-- a journal whose phase isn't the first
pub not_first : (phase : Phase) → sameb the_type phase Unborn ≡ false → phase ≢ Unborn
not_first phase not same = both_ways _ not (ap (λ (p : Phase). sameb the_type p Unborn) same)

-- a birth makes what was pending durable; of a formatted file it says nothing
pub durable-unborn : {T E : Type 0} (old new : Told) (result : Result T E) → IsTrue (is_unborn old.content) → OnOk result (NothingPending new)
    → MakesDurable old new result
durable-unborn old new result unborn durable = record {
  durable = durable;
  any_moment = λ born found is. absurd (both_ways (is_born old.content) (is_born-unborn old.content unborn) born);
}

-- where no entry is in use no put waits
DoAs-no_puts : {all waiting : List Put} (size : ℕ) → all ≡ [] → waiting ≡ [] → DoAs all size waiting
DoAs-no_puts {all} {waiting} size unused none = rw (unused, none) (DoAs-none size)

-- a journal over an unformatted file
pub IsKept-unborn : (kind : Kind) (size slots : ℕ) (waiting staged : List Put) (content : List ℕ) → kind ≡ kind_of content → size ≡ length content
    → slots ≡ slots_in size → waiting ≡ [] → IsTrue (is_unborn content) → staged ≡ []
    → IsKept (record { phase = Unborn; extent = slots; in_use = 0; waiting = waiting; sealed = 0; staged = staged; kind = kind }) content
IsKept-unborn kind size slots waiting staged content same long counted none unborn sealed = IsKept-sealed _ content sealed (record {
  kind = same;
  phase = unborn;
  number = ap length (sym (entries_in_use-unborn content unborn));
  waiting = DoAs-no_puts _ (ap (flat_map puts_of) (entries_in_use-unborn content unborn)) none;
  found = blank_map content;
  map = redo-unborn content unborn;
  extent = sym (counted ∙ ap slots_in long);
})

-- a journal over a formatted file, of which the entries were read
pub IsKept-born : (kind : Kind) (content : List ℕ) (in_use : ℕ) (waiting : List Put) (extent : ℕ) (staged : List Put) → kind ≡ kind_of content
    → IsTrue (is_born content) → AreEntries content in_use waiting extent → staged ≡ []
    → IsKept (record { phase = Born; extent = extent; in_use = in_use; waiting = waiting; sealed = in_use; staged = staged; kind = kind }) content
IsKept-born kind content in_use waiting extent staged same born read sealed = IsKept-sealed _ content sealed (record {
  kind = same;
  phase = born;
  number = read.number;
  waiting = read.in_use.all;
  found = read.in_use.found;
  map = read.in_use.map;
  extent = read.extent;
})

-- the file of a journal in any phase but the first is formatted, since nothing is kept of a stopped one
pub born_formed : (phase : Phase) (in_use : ℕ) (content : List ℕ) → (phase ≡ Born) ⊎ ((phase ≡ Settled) ⊎ (phase ≡ Stopped)) → IsInPhase phase in_use content
    → IsTrue (is_born content)
born_formed phase in_use content (inl is) now = rw is at now
born_formed phase in_use content (inr (inl is)) now = (rw is at now).0
born_formed phase in_use content (inr (inr is)) now = absurd (rw is at now)

-- a settled journal: the file alone gives the map, and no put waits
pub IsKept-settled : (kind : Kind) (extent : ℕ) (waiting staged : List Put) (content : List ℕ) (found : SlotMap) → kind ≡ kind_of content
    → IsTrue (is_born content) → IsClosed 0 content → StandsFor content found → found.extent ≡ extent → waiting ≡ [] → staged ≡ []
    → IsKept (record { phase = Settled; extent = extent; in_use = 0; waiting = waiting; sealed = 0; staged = staged; kind = kind }) content
IsKept-settled kind extent waiting staged content found same_kind born closed is same none sealed =
    let alone = redo-first_closed content born closed in
    IsKept-sealed _ content sealed (record {
      kind = same_kind;
      phase = (born, λ lt. closed);
      number = ap length (sym alone.2);
      waiting = DoAs-no_puts _ alone.1 none;
      found = file_map content;
      map = alone.0;
      extent = (file_map-first_closed content found born closed is).extent ∙ same;
    })

-- what a settling leaves of the disk and the map, by what stood in the file
module _ (journal : JournalState) (old new : Told) (kept : IsShown journal old.content) (waiting staged : List Put) where
  -- the journal then
  abbrev settled : JournalState
  settled = record { phase = Settled; extent = journal.extent; in_use = 0; waiting = waiting; sealed = 0; staged = staged; kind = journal.kind }

  pub settled-kept : kind_of new.content ≡ kind_of old.content → IsTrue (is_born new.content) → IsClosed 0 new.content
      → ((found : SlotMap) → StandsFor old.content found → StandsFor new.content found) → waiting ≡ [] → staged ≡ [] → IsKept settled new.content
  settled-kept same born closed map none sealed =
      IsKept-settled journal.kind journal.extent waiting staged new.content kept.found (kept.kind ∙ sym same) born closed
      (map kept.found (StandsFor-from old.content kept.found kept.found kept.map (SameMap-refl kept.found))) kept.extent none sealed

  -- it was unformatted
  module _ (unborn : IsTrue (is_unborn old.content)) where
    pub settles-born : (value done : Unit {0}) → waiting ≡ [] → staged ≡ [] → Durably (Reaches (Leads IsShut)) (Ok value) old new
        → Settles settled (Ok done) old new
    settles-born value done none sealed born = record {
      kept = settled-kept born.step.reached.kind born.step.reached.there.0 born.step.reached.there.1 born.step.keeps_map.map none sealed;
      keeps_map = born.step.keeps_map;
      makes_durable = durable-unborn old new (Ok done) unborn born.durable;
      rest = λ _. born.step.reached.rest;
    }

    pub settles-unborn : {step : Result (Unit {0}) Failed} (left : JournalState) (result : Result (Unit {0}) Failed) → IsErr result
        → Durably (Reaches (Leads IsShut)) step old new → Settles left result old new
    settles-unborn {step} left result is birth = record {
      kept = on_err result _ is;
      keeps_map = keeps-err old new step result is birth.step.keeps_map;
      makes_durable = durable-unborn old new result unborn (on_err result _ is);
      rest = λ _. on_err result _ is;
    }

  -- it was formatted
  pub settles-formed : (value done : Unit {0}) → waiting ≡ [] → staged ≡ [] → IsTrue (is_born old.content) → Clears (Ok value) old new
      → Settles settled (Ok done) old new
  settles-formed value done none sealed formed clears = record {
    kept = settled-kept clears.shut.reached.1 clears.shut.reached.0.0 clears.shut.reached.0.1 clears.shut.keeps_map.map none sealed;
    keeps_map = clears.shut.keeps_map;
    makes_durable = clears.makes_durable;
    rest = λ unborn. absurd (both_ways _ (is_born-unborn old.content unborn) formed);
  }

module _ (journal : JournalState) (content : List ℕ) (found : SlotMap) (slot : ℕ) (kept : IsShown journal content) (is : StandsFor content found)
    (lt : slot < 2 ^ 20) where
  unborn_bytes : IsTrue (is_unborn content) → zeros ≡ found.bytes slot
  unborn_bytes unborn = let same : SameMap (blank_map content) found = rw redo-unborn at is in
      same.bytes slot lt

  module _ (born : IsTrue (is_born content)) where
    map_is : kept.found ≡ changed (file_map content) (puts_in_use content)
    map_is = (redo-born content kept.found born kept.map).0

    extent_is : journal.extent ≡ extent_after journal.waiting (slots_in (length content))
    extent_is = rw (← kept.extent, map_is, ← kept.waiting.extent)

    -- the puts that wait, over the file
    pub born_bytes : with_puts journal.waiting (file_map content).bytes slot ≡ found.bytes slot
    born_bytes =
        let same : SameMap kept.found found = rw kept.map at is in
        kept.waiting.bytes (file_map content).bytes slot ∙ sym (ap (λ (m : SlotMap). m.bytes slot) map_is) ∙ same.bytes slot lt

    past_bytes : journal.extent ≤ slot → zeros ≡ found.bytes slot
    past_bytes past =
        let out = past_extent journal.waiting (slots_in (length content)) slot kept.waiting.fit (omega (arith, extent_is, past)) in
        sym (with_puts-beside journal.waiting (file_map content).bytes slot out.0 ∙ cond-false (nat_lt slot (slots_in (length content))) _ _
        (le-ltb slot (slots_in (length content)) out.1)) ∙ born_bytes

    module _ (below : slot < journal.extent) (leaves : (map : ℕ → List ℕ) → with_puts journal.waiting map slot ≡ map slot) where
      pub slot_lies : slot < slots_in (length content)
      slot_lies = below_extent journal.waiting (slots_in (length content)) slot (omega (arith, extent_is, below)) (is_put-none journal.waiting slot leaves)

      pub slot_bytes : slot_in content slot ≡ found.bytes slot
      slot_bytes =
          sym (leaves (file_map content).bytes ∙ cond-true (nat_lt slot (slots_in (length content))) _ _ (lt-ltb slot (slots_in (length content)) slot_lies))
          ∙ born_bytes

    -- a slot of a page: what was read of the file, zeros from the extent on, and the puts that wait over it
    pub page_bytes : (read laid got : List ℕ) → (slot < slots_in (length content) → read ≡ slot_in content slot)
        → (slot < journal.extent → laid ≡ read) → (journal.extent ≤ slot → laid ≡ zeros) → got ≡ with_puts journal.waiting (λ _. laid) slot
        → got ≡ found.bytes slot
    page_bytes read laid got lies used unused puts = elim (cases_lt slot journal.extent) [
      | inr past ↦
          let out = past_extent journal.waiting (slots_in (length content)) slot kept.waiting.fit (omega (arith, extent_is, past)) in
          puts ∙ with_puts-beside journal.waiting (λ _. laid) slot out.0 ∙ unused past ∙ past_bytes past
      | inl below ↦ elim (cases_Bool (is_put journal.waiting slot)) [
        | inl put ↦ puts ∙ with_puts-put journal.waiting slot (λ _. laid) (file_map content).bytes put ∙ born_bytes
        | inr none ↦
            let leaves = λ (map : ℕ → List ℕ). with_puts-beside journal.waiting map slot none in
            puts ∙ leaves (λ _. laid) ∙ used below ∙ lies (slot_lies below leaves) ∙ slot_bytes below leaves
      ]
    ]

  -- the bytes of a slot of the file, taken out of the form of the journal's kind
  pub slot_in-form : (bytes : List ℕ) → bytes ≡ slot_at content slot → slot_form journal.kind slot bytes ≡ slot_in content slot
  slot_in-form bytes same = rw (kept.kind, same)

  -- a slot of an unformatted file, or from the extent on
  pub unused_bytes : IsTrue (is_unborn content) ⊎ (journal.extent ≤ slot) → zeros ≡ found.bytes slot
  unused_bytes (inl unborn) = unborn_bytes unborn
  unused_bytes (inr past) = ⊎_elim unborn_bytes (λ born. past_bytes born past) (cases_phase journal.phase journal.in_use content kept.phase)

module _ (journal : JournalState) (content : List ℕ) (settled : journal.phase ≡ Settled) (kept : IsShown journal content) where
  pub formed-settled : IsTrue (is_born content) × EndsAt journal.in_use content
  formed-settled = rw settled at kept.phase

  -- puts that fit the extent may be committed
  pub IsReadyFor-settled : (puts : List Put) → IsTrue (slots_fit puts journal.extent) → IsReadyFor journal.in_use puts content
  IsReadyFor-settled puts fit = record {
    born = formed-settled.0;
    closed = formed-settled.1;
    number = kept.number;
    found = kept.found;
    map = kept.map;
    fit = rw kept.extent fit;
  }

  pub StandsFor-kept : StandsFor content kept.found
  StandsFor-kept = StandsFor-from content kept.found kept.found kept.map (SameMap-refl kept.found)
