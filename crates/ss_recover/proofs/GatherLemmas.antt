-- The slots that were read, and one more.
use Rattle.ss_recover.proofs.Common.{[], ◌++◌, ◌+◌, ◌-◌, ◌<◌, ◌^◌, ◌∙◌, ◌∷◌, ◌≡◌, ◌≢◌, ◌≤◌, All, All-push, ap, append-nil, ap₂, are_zeros, LiveLieBelow}
use Rattle.ss_recover.proofs.Common.{AreFoundBelow, AreGathered, AreLiveBelow, AreLiveOver, arith, BadSlot, BadStream, below, Bool, cases_lt, cond, cond-false}
use Rattle.ss_recover.proofs.Common.{cond-true, count_by-le-length, Disk, eq-eqb, Err, false, false_from_ne_true, filter, filter-append, Found, Free, Gathered}
use Rattle.ss_recover.proofs.Common.{get_or, get_or-map-range_with_len, with_slot, inl, inr, is_live, is_live-below, is_live-set, is_none, IsKept, IsLowestBad}
use Rattle.ss_recover.proofs.Common.{IsSealed, IsUsable, JournalState, length, length-filter, length-map, length-map-range_with_len, length-range_with_len}
use Rattle.ss_recover.proofs.Common.{length-set, List, lowest_bad_slot, lt-ltb, map, map-append, ne_eqb, None, not, Option, OutOfMemory, position_or_len}
use Rattle.ss_recover.proofs.Common.{position_or_len_is, range_with_len, Record, RecoverError, refl, replicate, SameMap-refl, set, shown, SlotMap, Some}
use Rattle.ss_recover.proofs.Common.{spelling-free, Spells-decoded, SpellsNone, StandsFor, StandsFor-from, StandsFor-same, subst, suc, sym, true, true≢false}
use Rattle.ss_recover.proofs.Common.{verdict_of_rebuild, zero, ℕ}
use Rattle.ss_journal.proofs.ShownLemmas.{IsShown-sealed, shown-sealed}
use Rattle.ss_codec.specs.Decoded.{decoded}
use Rattle.ss_recover.specs.Carried.{spelled}
use Rattle.ss_recover.proofs.WholeSlots.{decoded-free}
use Rattle.ss_parts.proofs.WholeMaps.{filled}
use Rattle.ss_parts.proofs.Lists.{all_weaker, filter-same, range-within, range_with_len-append}
use Rattle.ss_parts.proofs.PutLemmas.{filled-append, filled-live, filled-zeros}

-- where nothing is staged, a map's extent is that of the journal
pub extent-kept : (journal : JournalState) (content : List ℕ) (found : SlotMap) → IsSealed journal → IsKept journal content → StandsFor content found →
    found.extent ≡ journal.extent
extent-kept journal content found sealed kept stands =
    let is = IsShown-sealed journal content sealed kept in
    let some = StandsFor-from content is.found is.found is.map (SameMap-refl is.found) in
    sym (StandsFor-same content is.found found some stands).extent ∙ is.extent

-- the slots below one more
pub range-more : (slot : ℕ) → range_with_len 0 (slot + 1) ≡ range_with_len 0 slot ++ slot ∷ []
range-more slot = range_with_len-append 0 slot 1 (slot + 1) slot refl (omega arith)

-- what holds of one slot more
pub below-more : (P : ℕ → Type 0) (slot : ℕ) → ((k : ℕ) → k < slot → P k) → P slot → (k : ℕ) → k < slot + 1 → P k
below-more P slot below here k lt = elim (cases_lt k slot) [
  | inl less ↦ below k less
  | inr more ↦ let same : slot ≡ k = omega (arith, lt, more) in subst P same here
]

-- the slots that were read are those that are live
pub slots-more : (live : List Bool) (slots : List ℕ) (slot : ℕ) → slots ≡ filter (is_live live) (range_with_len 0 slot) →
    cond (is_live live slot) (slots ++ slot ∷ []) slots ≡ filter (is_live live) (range_with_len 0 (slot + 1))
slots-more live slots slot is =
    let more = ap (filter (is_live live)) (range-more slot) ∙ filter-append (is_live live) (range_with_len 0 slot) (slot ∷ []) in
    go (is_live live slot) (filter (is_live live) (range_with_len 0 slot)) is ∙ sym more
  where
    go : (b : Bool) (ks : List ℕ) → slots ≡ ks → cond b (slots ++ slot ∷ []) slots ≡ ks ++ cond b (slot ∷ []) []
    go true ks same = ap (λ l. l ++ slot ∷ []) same
    go false ks same = same ∙ sym (append-nil ks)

-- no slot is live from there on
pub not_live : (slot : ℕ) (live : List Bool) → LiveLieBelow slot live → is_live live slot ≡ false
not_live slot live bounded = false_from_ne_true (is_live live slot) (λ is. absurd (omega (arith, bounded.below slot is)))

-- there are at most as many records as slots
few-slots : (all : List Found) (p : ℕ → Bool) (n : ℕ) → map (λ (f : Found). f.slot) all ≡ filter p (range_with_len 0 n) → length all ≤ n
few-slots all p n are =
    omega (
      arith,
      ap (λ (ns : List ℕ). length ns) are,
      length-map all (λ (f : Found). f.slot),
      length-filter p (range_with_len 0 n),
      count_by-le-length p (range_with_len 0 n),
      length-range_with_len 0 n,
    )

pub length-gathered : (slot : ℕ) (read : Gathered) → AreGathered slot read → length read.all.items ≤ slot
length-gathered slot read are = few-slots read.all.items (is_live read.live) slot are.slots

-- a free slot is read
pub AreGathered-free : (slot : ℕ) (read : Gathered) → AreGathered slot read → AreGathered (slot + 1) read
AreGathered-free slot read are = record {
  usable = are.usable;
  slots = are.slots ∙ sym (cond-false _ _ _ (not_live slot read.live are.bounded))
      ∙ slots-more read.live (filter (is_live read.live) (range_with_len 0 slot)) slot refl;
  bounded = record { slots = are.bounded.slots; below = λ k is. let lt = are.bounded.below k is in omega (arith, lt) };
}

pub AreFoundBelow-free : (slot : ℕ) (read : Gathered) (found : SlotMap) → AreGathered slot read → length (found.bytes slot) ≡ 128
    → are_zeros (found.bytes slot) ≡ true → AreFoundBelow slot read found → AreFoundBelow (slot + 1) read found
AreFoundBelow-free slot read found gathered whole zeros before = record {
  are = record {
    occupied_by =
        before.are.occupied_by ∙ sym (ap (filled found.bytes) (range-more slot) ∙ filled-append found.bytes (range_with_len 0 slot) (slot ∷ [])
        ∙ ap (λ l. filled found.bytes (range_with_len 0 slot) ++ l) (filled-zeros found.bytes slot [] zeros)
        ∙ append-nil (filled found.bytes (range_with_len 0 slot)));
    spelled_all =
        let free = decoded-free (found.bytes slot) whole zeros in
        below-more (λ k. decoded (found.bytes k) ≢ None) slot before.are.spelled_all (λ none. cc);
  };
  live = below-more (λ k. is_live read.live k ≡ not (are_zeros (found.bytes k))) slot before.live
      (not_live slot read.live gathered.bounded ∙ sym (ap not zeros));
}

-- a slot that is live now, and those before it
module _ (live : List Bool) (slot : ℕ) (lt : slot < length live) where
  is_live-now : is_live (set live slot true) slot ≡ true
  is_live-now = is_live-set live slot slot true lt ∙ cond-true _ _ _ (eq-eqb slot slot refl)

  is_live-other : (k : ℕ) → k ≢ slot → is_live (set live slot true) k ≡ is_live live k
  is_live-other k other = is_live-set live slot k true lt ∙ cond-false _ _ _ (ne_eqb k slot other)

  is_live-before : (k : ℕ) → k < slot → is_live (set live slot true) k ≡ is_live live k
  is_live-before k less = is_live-other k (λ same. omega (arith, less, same))

  slots-now : filter (is_live (set live slot true)) (range_with_len 0 (slot + 1)) ≡ filter (is_live live) (range_with_len 0 slot) ++ slot ∷ []
  slots-now =
      sym (slots-more (set live slot true) (filter (is_live (set live slot true)) (range_with_len 0 slot)) slot refl) ∙ cond-true _ _ _ is_live-now
      ∙ ap (λ (l : List ℕ). l ++ slot ∷ []) (filter-same (is_live (set live slot true)) (is_live live) (range_with_len 0 slot) (all_weaker _ _ is_live-before
      (range_with_len 0 slot) (range-within 0 slot slot (omega arith))))

-- a live slot is read
module _ (slot : ℕ) (read new : Gathered) (f : Found) (added : new.all.items ≡ read.all.items ++ f ∷ []) (same : f.slot ≡ slot)
    (noted : new.live ≡ set read.live slot true) (gathered : AreGathered slot read) (lt : slot < 2 ^ 20) where
  within : slot < length read.live
  within = let long = gathered.bounded.slots in omega (arith, long, lt)

  pub AreGathered-live : IsUsable f.holds → AreGathered (slot + 1) new
  AreGathered-live usable = record {
    usable = subst (λ fs. All (λ (g : Found). IsUsable g.holds) fs) (sym added)
        (All-push (λ (g : Found). IsUsable g.holds) read.all.items f gathered.usable usable);
    slots =
        ap (λ (fs : List Found). map (λ g. g.slot) fs) added ∙ map-append (λ (g : Found). g.slot) read.all.items (f ∷ [])
        ∙ ap₂ (λ (a : List ℕ) (k : ℕ). a ++ k ∷ []) gathered.slots same ∙ sym (slots-now read.live slot within)
        ∙ ap (λ (l : List Bool). filter (is_live l) (range_with_len 0 (slot + 1))) (sym noted);
    bounded = subst (LiveLieBelow (slot + 1)) (sym noted) (record {
      slots = length-set read.live slot true ∙ gathered.bounded.slots;
      below = λ k is. elim (cases_lt slot k) [
        | inl past ↦ (let lives : is_live read.live k ≡ true = sym (is_live-other read.live slot within k (λ here. omega (arith, here, past))) ∙ is in
            omega (arith, gathered.bounded.below k lives))
        | inr not_past ↦ omega (arith, not_past)
      ];
    });
  }

  pub AreFoundBelow-live : (found : SlotMap) → are_zeros (found.bytes slot) ≡ false → decoded (found.bytes slot) ≡ Some f.holds
      → AreFoundBelow slot read found → AreFoundBelow (slot + 1) new found
  AreFoundBelow-live found live is before = record {
    are = record {
      occupied_by =
          ap (map with_slot) added ∙ map-append with_slot read.all.items (f ∷ []) ∙ ap₂ (λ a b. a ++ b ∷ []) before.are.occupied_by (λ i. (same i, sym is i))
          ∙ sym (ap (filled found.bytes) (range-more slot) ∙ filled-append found.bytes (range_with_len 0 slot) (slot ∷ [])
          ∙ ap (λ l. filled found.bytes (range_with_len 0 slot) ++ l) (filled-live found.bytes slot [] live));
      spelled_all = below-more (λ k. decoded (found.bytes k) ≢ None) slot before.are.spelled_all (λ none. cc);
    };
    live = subst (λ (l : List Bool). AreLiveBelow (slot + 1) l found.bytes) (sym noted)
        (below-more (λ k. is_live (set read.live slot true) k ≡ not (are_zeros (found.bytes k))) slot
        (λ k less. is_live-before read.live slot within k less ∙ before.live k less) (is_live-now read.live slot within ∙ sym (ap not live)));
  }

pub is_some-not : (o : Option Record) → o ≢ None → is_none o ≡ false
is_some-not None other = absurd (other refl)
is_some-not (Some r) other = refl

-- the lowest slot that spells nothing
pub lowest-is : (found : SlotMap) (slot : ℕ) → slot < found.extent → ((k : ℕ) → k < slot → decoded (found.bytes k) ≢ None) → decoded (found.bytes slot) ≡ None →
    lowest_bad_slot (spelled found) ≡ Some slot
unfolding spelled
lowest-is found slot lt below none =
    let os : List (Option Record) = map (λ k. decoded (found.bytes k)) (range_with_len 0 found.extent) in
    let long : length os ≡ found.extent = length-map-range_with_len (λ k. decoded (found.bytes k)) 0 found.extent in
    let at : (k : ℕ) (d : Option Record) → k < found.extent → get_or os k d ≡ decoded (found.bytes k) = λ k d within.
    get_or-map-range_with_len (λ j. decoded (found.bytes j)) 0 found.extent k k d within (omega arith) in
    let first : position_or_len is_none os ≡ slot = position_or_len_is is_none os slot None (omega (arith, long, lt))
    (λ k less. ap is_none (at k None (omega (arith, less, lt))) ∙ is_some-not (decoded (found.bytes k)) (below k less))
    (λ within. ap is_none (at slot None lt ∙ none)) in
    cond-true _ _ _ (lt-ltb (position_or_len is_none os) (length os) (omega (arith, first, long, lt))) ∙ ap Some first

-- one that spells no record
pub spells-none : (bytes : List ℕ) → are_zeros bytes ≡ false → SpellsNone bytes → decoded bytes ≡ None
spells-none bytes live (inl none) = none
spells-none bytes live (inr free) =
    let is : bytes ≡ replicate 128 0 = (Spells-decoded bytes Free free).spelled ∙ spelling-free in
    let zeros : are_zeros bytes ≡ true = ap are_zeros is in
    absurd (true≢false (sym zeros ∙ live))

pub IsLowestBad-here : (slot : ℕ) (read : Gathered) (found : SlotMap) → AreFoundBelow slot read found → decoded (found.bytes slot) ≡ None
    → IsLowestBad (slot + 1) slot found
IsLowestBad-here slot read found before none = record { below = omega arith; spelled_before = before.are.spelled_all; none = none }

pub IsLowestBad-told : (slot n : ℕ) (found : SlotMap) → slot ≤ found.extent → IsLowestBad slot n found → lowest_bad_slot (spelled found) ≡ Some n
IsLowestBad-told slot n found le is = let lt = is.below in lowest-is found n (omega (arith, le, lt)) is.spelled_before is.none

-- where nothing is staged, a journal shows the map of the content
pub StandsFor-sealed : (journal : JournalState) (content : List ℕ) (found : SlotMap) → IsSealed journal → StandsFor content found
    → StandsFor (shown journal content) found
StandsFor-sealed journal content found sealed stands = subst (λ image. StandsFor image found) (sym (shown-sealed journal content sealed)) stands

-- no slot from there on is live, so the live ones are those of the list
pub slots-gathered : (slot : ℕ) (read : Gathered) → AreGathered slot read
    → map (λ (f : Found). f.slot) read.all.items ≡ filter (is_live read.live) (range_with_len 0 (length read.live))
slots-gathered slot read are = are.slots ∙ elim (cases_lt (length read.live) slot) [
  | inl more ↦ sym (slots-all read.live (length read.live) slot (omega (arith, more)) (is_live-below read.live))
  | inr less ↦ slots-all read.live slot (length read.live) less are.bounded.below
]
  where
    none : (live : List Bool) (n a k : ℕ) → n ≤ a → ((k : ℕ) → is_live live k ≡ true → k < n) → filter (is_live live) (range_with_len a k) ≡ []
    none live n a zero le below = refl
    none live n a (suc k) le below =
        cond-false _ _ _ (false_from_ne_true (is_live live a) (λ is. absurd (omega (arith, below a is, le)))) ∙ none live n (a + 1) k (omega arith) below

    slots-all : (live : List Bool) (n m : ℕ) → n ≤ m → ((k : ℕ) → is_live live k ≡ true → k < n) →
        filter (is_live live) (range_with_len 0 n) ≡ filter (is_live live) (range_with_len 0 m)
    slots-all live n m le below =
        sym (ap (filter (is_live live)) (range_with_len-append 0 n (m - n) m n (omega arith) (omega arith))
        ∙ filter-append (is_live live) (range_with_len 0 n) (range_with_len n (m - n))
        ∙ ap (λ l. filter (is_live live) (range_with_len 0 n) ++ l) (none live n n (m - n) (omega arith) below)
        ∙ append-nil (filter (is_live live) (range_with_len 0 n)))

pub few-gathered : (slot : ℕ) (read : Gathered) → AreGathered slot read → length read.all.items ≤ 2 ^ 20
few-gathered slot read are =
    omega (arith, few-slots read.all.items (is_live read.live) (length read.live) (slots-gathered slot read are), are.bounded.slots)

-- what was read of a disk, which keeps a journal as before
module _ (journal now : JournalState) (old new : List ℕ) (same : now ≡ journal) (content : new ≡ old) (kept : IsKept journal old) where
  pub IsKept-read : IsKept now new
  IsKept-read = subst (λ (j : JournalState). IsKept j new) (sym same) (subst (IsKept journal) (sym content) kept)

  pub AreLiveOver-read : (read : Gathered) → IsSealed journal → ((found : SlotMap) → StandsFor old found → AreFoundBelow found.extent read found)
      → AreLiveOver now read.live new
  AreLiveOver-read read sealed finds =
      subst (λ (j : JournalState). AreLiveOver j read.live new) (sym same)
      (subst (λ (image : List ℕ). AreLiveOver journal read.live image) (sym content) (λ found shows.
      let stands : StandsFor old found = subst (λ (image : List ℕ). StandsFor image found) (shown-sealed journal old sealed) shows in
      let are = finds found stands in
      subst (λ (n : ℕ). AreLiveBelow n read.live found.bytes) (extent-kept journal old found sealed kept stands) are.live))

-- errors that are told on have one verdict
pub verdict-told : (S T : Type 0) (error : RecoverError) → verdict_of_rebuild {T = S} (Err error) ≡ verdict_of_rebuild {T = T} (Err error)
verdict-told S T (BadSlot n) = refl
verdict-told S T (BadStream number) = refl
verdict-told S T Disk = refl
verdict-told S T OutOfMemory = refl
