-- How many slots a file uses, and so how many bytes it has, over calls in a row.
use Rattle.ss_store.proofs.Common.{◌≡◌, ◌+◌, ◌*◌, ◌<◌, ◌≤◌, ℕ, List, [], ◌∷◌, Ok, ap, arith, length, cond_both, if◌then◌else◌, max}
use Rattle.ss_store.proofs.Common.{DiskView, Told, Verdict, Event, HasSealed, entries, is_good, puts_of, is_born, is_unborn, slots_in, IsSealed, JournalState}
use Rattle.ss_store.proofs.Common.{SlotMap, StandsFor, bad_entry, blank_map, changed, not_a_store, stands, MOST_SLOTS, Happened, live}
use Rattle.ss_store.proofs.Common.{state, Ack, shown_by, Applies, Looks, OpensStore, AllGrowLittle, GrowsLittle, records_held_in, StoreIsKept, StoreState}
use Rattle.ss_store.proofs.Common.{Stands}
use Rattle.ss_store.proofs.Common.{UsesAtMost}
use Rattle.ss_outside.specs.Verdict as verdicts
use Rattle.ss_outside.specs.Verdict.{OnFine}
use Rattle.ss_journal.specs.Entries.{open_prefix}
use Rattle.ss_journal.specs.Redo.{Gives, file_map, redo, redo_entries}
use Rattle.ss_journal.specs.declared.format.TheConstants.{FIRST_SLOT}
use Rattle.ss_base.specs.declared.limits.TheConstants.{SLOT_SIZE}
use Rattle.ss_store.proofs.KeptStates.{AllAgree-recovered}
use Rattle.ss_store.proofs.LiveCounts.{length-slots}
use Rattle.ss_store.proofs.Opens.{StandsFor-kept}
use Rattle.ss_journal.proofs.PutLemmas.{le-extent_after}

-- nor do entries that are redone
redo_entries-grows : (n : ℕ) (list : List (List ℕ)) (old found : SlotMap) → Gives (redo_entries n list old) found → old.extent ≤ found.extent
redo_entries-grows n [] old found is = omega (arith, is.extent)
redo_entries-grows n (entry ∷ rest) old found gives =
    cond_both (is_good entry old.extent) (redo_entries (n + 1) rest (changed old (puts_of entry))) (bad_entry n)
    (λ r. Gives r found → old.extent ≤ found.extent)
    (λ good is. omega (arith, redo_entries-grows (n + 1) rest (changed old (puts_of entry)) found is, le-extent_after (puts_of entry) old.extent))
    (λ bad is. absurd is) gives

-- the slots that lie in a file are used
slots_in-stands : (image : List ℕ) (found : SlotMap) → StandsFor image found → slots_in (length image) ≤ found.extent
unfolding redo
slots_in-stands image found =
    cond_both (is_born image) (redo_entries 0 (open_prefix (entries image)) (file_map image))
    (if is_unborn image then stands (blank_map image) else not_a_store) (λ r. Gives r found → slots_in (length image) ≤ found.extent)
    (λ born is. redo_entries-grows 0 (open_prefix (entries image)) (file_map image) found is)
    (λ other. cond_both (is_unborn image) (stands (blank_map image)) not_a_store (λ r. Gives r found → slots_in (length image) ≤ found.extent)
    (λ unborn is. omega (arith, is.extent)) (λ none is. absurd is))

pub length-stands : (image : List ℕ) (found : SlotMap) → StandsFor image found → found.extent < MOST_SLOTS →
    length image < FIRST_SLOT + SLOT_SIZE * (found.extent + 1)
length-stands image found is few = let used = slots_in-stands image found is in omega arith

pub length-kept : (store : StoreState) (content : List ℕ) → StoreIsKept store content → IsSealed store.records.journal →
    store.records.journal.extent < MOST_SLOTS → length content < FIRST_SLOT + SLOT_SIZE * (store.records.journal.extent + 1)
length-kept store content kept sealed few =
    let found = kept.records.journal.shown.found in
    let same = kept.records.journal.shown.extent in
    let long = length-stands content found (StandsFor-kept store.records.journal content kept.records.journal sealed) (omega arith) in
    omega (arith, same, long)

pub GrowsLittle-applied : (event : Event) (old new : StoreState) (before after : DiskView) (ack : Ack) →
    Applies event old new before after (Ok ack) → GrowsLittle old new
GrowsLittle-applied event old new before after ack applies = applies.extent

pub GrowsLittle-sealed : (old new : StoreState) → HasSealed old.records.journal new.records.journal → GrowsLittle old new
GrowsLittle-sealed old new sealed = omega (arith, sealed.extent)

pub GrowsLittle-looked : (v : Verdict) (old new : StoreState) (before after : DiskView) → Looks v old new before after → OnFine v (GrowsLittle old new)
GrowsLittle-looked verdicts.fine old new before after looks = let same = ap (λ (j : JournalState). j.extent) looks.journal in omega (arith, same)
GrowsLittle-looked verdicts.refused old new before after looks = tt
GrowsLittle-looked verdicts.no_memory old new before after looks = tt
GrowsLittle-looked verdicts.stopped old new before after looks = tt
GrowsLittle-looked verdicts.failed old new before after looks = tt
GrowsLittle-looked (verdicts.changed slot) old new before after looks = tt

pub records_in-kept : (store : StoreState) (content : List ℕ) (history : List Happened) → StoreIsKept store content →
    Stands history (shown_by store.records content) → records_held_in store ≡ live (state history)
records_in-kept store content history kept is =
    let agree = (AllAgree-recovered store (shown_by store.records content) (state history) kept.shown is.state).0 in
    length-slots store.streams (state history) agree

pub extent-AllGrowLittle : (first last : StoreState) (stores : List StoreState) (most : ℕ) → AllGrowLittle most first stores last →
    last.records.journal.extent ≤ max first.records.journal.extent (most + 1)
extent-AllGrowLittle first last [] most is = rw is (omega arith)
extent-AllGrowLittle first last (next ∷ stores) most grow =
    omega (arith, grow.0, grow.1, extent-AllGrowLittle next last stores most grow.2)

pub length-AllGrowLittle : (old new : Told) (found : SlotMap) (first last : StoreState) (stores : List StoreState) (most : ℕ) (content : List ℕ) →
    OpensStore (Ok first) old new → StandsFor old.content found → AllGrowLittle most first stores last → StoreIsKept last content →
    IsSealed last.records.journal → max found.extent (most + 1) < MOST_SLOTS →
    length content < FIRST_SLOT + SLOT_SIZE * (max found.extent (most + 1) + 1)
length-AllGrowLittle old new found first last stores most content opens is grow kept sealed few =
    let begins : first.records.journal.extent ≤ found.extent = opens.extent found is in
    let ends = extent-AllGrowLittle first last stores most grow in
    let long = length-kept last content kept sealed (omega (arith, begins, ends)) in
    omega (arith, begins, ends, long)

-- the same of an image that uses at most so many slots
pub length-uses : (n : ℕ) (image : List ℕ) → UsesAtMost n image → n < MOST_SLOTS → length image < FIRST_SLOT + SLOT_SIZE * (n + 1)
length-uses n image uses few =
    let long = length-stands image uses.found uses.map (omega (arith, uses.few, few)) in
    omega (arith, long, uses.few)
