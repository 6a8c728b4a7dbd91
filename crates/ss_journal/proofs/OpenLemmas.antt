-- How the entries of a formatted file are read one after another.
use Rattle.ss_journal.proofs.Common.{Err, IsFalse, IsTrue, List, Ok, [], ap, arith, drop, length, sym, ℕ, ◌++◌, ◌+◌, ◌<◌, ◌∙◌, ◌∷◌, ◌≡◌, cond-false}
use Rattle.ss_journal.proofs.Common.{cond-true, All-weaker, length-map-range_with_len, append-nil, drop_all, All, flat_map, slice_index, ArrayVec, is_good}
use Rattle.ss_journal.proofs.Common.{open_prefix, puts_of, entry_form, entry_in, Kind, entry_bytes, is_born, kind_of, slots_in, is_open, AreEntries}
use Rattle.ss_journal.proofs.Common.{DoAs, newest_after, FillSlots, extent_after, slots_fit, slots_rise_from, entries_in_use, SlotMap, bad_entry, changed}
use Rattle.ss_journal.proofs.Common.{file_map, puts_in_use, redo, redo_entries, BadEntry, Disk, NotAStore, OutOfMemory, JournalError, Put}
use Rattle.std.proofs.Common.{Some, append_assoc}
use Rattle.ss_journal.specs.Entries.{entries}
use Rattle.ss_journal.specs.Opening.{InUseAs, NextAs}
use Rattle.ss_journal.proofs.CheckLemmas.{gate-entry_form}
use Rattle.ss_journal.proofs.EntryLemmas.{IsSoundEntry-good}
use Rattle.ss_journal.proofs.NewestLemmas.{All-newest_after, DoAs-added, DoAs-none}
use Rattle.ss_journal.proofs.PrefixLemmas.{open_prefix-drop}
use Rattle.ss_journal.proofs.PutLemmas.{AreSlots-rise, extent_after-append, le-extent_after, slots_fit-below}
use Rattle.ss_journal.proofs.RedoLemmas.{entries_in_use-formed, puts_in_use-formed, redo-formed}

-- an entry that was read, taken out of the form of its file's kind
pub form-entry : (content : List ℕ) (kind : Kind) (n : ℕ) (entry : List ℕ) → kind ≡ kind_of content → entry ≡ entry_bytes content n
    → entry_form kind n entry ≡ entry_in content n
form-entry content kind n entry same is = rw (same, is)

-- its gate stays
pub open-form : (kind : Kind) (n : ℕ) (entry form : List ℕ) → form ≡ entry_form kind n entry → IsTrue (is_open entry) → IsTrue (is_open form)
open-form kind n entry form is opened =
    rw (ap (λ (e : List ℕ). slice_index e 0) is ∙ gate-entry_form kind n entry) opened

pub NextAs-closed : (content : List ℕ) (n : ℕ) (entry : List ℕ) → entry ≡ entry_bytes content n → IsFalse (is_open entry)
    → IsFalse (is_open (entry_in content n))
NextAs-closed content n entry is closed =
    rw (ap (λ (e : List ℕ). slice_index e 0) is ∙ sym (gate-entry_form (kind_of content) n (entry_bytes content n))) at closed

-- the puts that wait lie below the extent after more
pub below-newest_after : (waiting puts : List Put) (extent : ℕ) → IsTrue (slots_fit puts extent) → All (λ put. put.slot < extent) waiting
    → All (λ put. put.slot < extent_after puts extent) (newest_after puts waiting)
below-newest_after waiting puts extent fit below =
    let P = λ (p : Put). p.slot < extent_after puts extent in
    All-newest_after P puts waiting (slots_fit-below puts extent fit)
    (All-weaker (λ (p : Put). p.slot < extent) P (λ p lt. omega (arith, lt, le-extent_after puts extent)) waiting below)

-- the entries before number n are in use: these puts do what theirs do, and this is the extent after them
pub record IsReadTo (content : List ℕ) (n extent : ℕ) (puts : List Put) : Type 0 where
  pub current : SlotMap
  pub same_extent : current.extent ≡ extent
  pub number : n + length (open_prefix (drop n (entries content))) ≡ length (entries_in_use content)
  pub all : List Put
  pub in_use : all ++ flat_map puts_of (open_prefix (drop n (entries content))) ≡ puts_in_use content
  pub does : DoAs all (slots_in (length content)) puts
  pub after : extent_after all (slots_in (length content)) ≡ extent
  pub redone : redo content ≡ redo_entries n (open_prefix (drop n (entries content))) current

pub IsReadTo-none : (content : List ℕ) (slots : ℕ) → IsTrue (is_born content) → slots ≡ slots_in (length content) → IsReadTo content 0 slots []
IsReadTo-none content slots born counted = record {
  current = file_map content;
  same_extent = sym counted;
  number = omega (arith, ap length (sym (entries_in_use-formed content born)));
  all = [];
  in_use = sym (puts_in_use-formed content born);
  does = DoAs-none (slots_in (length content));
  after = sym counted;
  redone = redo-formed content born;
}

module _ (content : List ℕ) (n extent : ℕ) (puts : List Put) (read : IsReadTo content n extent puts) where
  -- no entry from here on is in use
  IsReadTo-closed : open_prefix (drop n (entries content)) ≡ [] → AreEntries content n puts extent
  IsReadTo-closed none = record {
    number = omega (arith, read.number, ap length none);
    in_use = record {
      all = rw (sym (append-nil read.all) ∙ sym (ap (λ (list : List (List ℕ)). read.all ++ flat_map puts_of list) none) ∙ read.in_use) at read.does;
      found = read.current;
      map = rw (read.redone, none);
    };
    extent = read.same_extent;
  }

  pub IsReadTo-all : n ≡ 64 → AreEntries content 64 puts extent
  unfolding entries
  IsReadTo-all all =
      let past = drop_all n (entries content) (omega (arith, length-map-range_with_len (entry_in content) 0 64)) in
      rw all at (IsReadTo-closed (ap open_prefix past))

  module _ (lt : n < 64) where
    pub IsReadTo-shut : IsFalse (is_open (entry_in content n)) → AreEntries content n puts extent
    IsReadTo-shut shut = IsReadTo-closed (ap open_prefix (open_prefix-drop content n lt) ∙ cond-false (is_open (entry_in content n)) _ _ shut)

    module _ (opened : IsTrue (is_open (entry_in content n))) where
      open_prefix-here : open_prefix (drop n (entries content)) ≡ entry_in content n ∷ open_prefix (drop (n + 1) (entries content))
      open_prefix-here = ap open_prefix (open_prefix-drop content n lt) ∙ cond-true (is_open (entry_in content n)) _ _ opened

      redo-here : redo content ≡ redo_entries n (entry_in content n ∷ open_prefix (drop (n + 1) (entries content))) read.current
      redo-here = rw (read.redone, open_prefix-here)

      pub IsReadTo-bad : IsFalse (is_good (entry_in content n) extent) → redo content ≡ bad_entry n
      IsReadTo-bad bad =
          let here = ap (is_good (entry_in content n)) read.same_extent ∙ bad in
          redo-here ∙ cond-false (is_good (entry_in content n) read.current.extent) _ _ here

      pub IsReadTo-more : IsTrue (is_good (entry_in content n) extent) → IsTrue (slots_rise_from 0 puts) → FillSlots (puts_of (entry_in content n))
          → IsReadTo content (n + 1) (extent_after (puts_of (entry_in content n)) extent) (newest_after (puts_of (entry_in content n)) puts)
      IsReadTo-more good rise whole =
          let own = puts_of (entry_in content n) in
          let here = ap (is_good (entry_in content n)) read.same_extent ∙ good in
          let sound = IsSoundEntry-good (entry_in content n) extent good in
          record {
            current = changed read.current own;
            same_extent = ap (extent_after own) read.same_extent;
            number = omega (arith, read.number, ap length open_prefix-here);
            all = read.all ++ own;
            in_use = append_assoc read.all own _ ∙ sym (ap (λ (list : List (List ℕ)). read.all ++ flat_map puts_of list) open_prefix-here) ∙ read.in_use;
            does = DoAs-added read.all own puts (slots_in (length content)) rise (AreSlots-rise 0 own sound.rise) whole read.does (rw read.after sound.fit);
            after = extent_after-append read.all own (slots_in (length content)) ∙ ap (extent_after own) read.after;
            redone = redo-here ∙ cond-true (is_good (entry_in content n) read.current.extent) _ _ here;
          }

-- the same of what reading entry n answers
module _ (content : List ℕ) (n extent : ℕ) (puts : List Put) (lt : n < 64) (read : IsReadTo content n extent puts) where
  pub InUseAs-next : (error : JournalError) → NextAs (entry_in content n) n extent (Err error) → InUseAs content (Err error)
  InUseAs-next Disk is = tt
  InUseAs-next OutOfMemory is = tt
  InUseAs-next NotAStore is = is
  InUseAs-next (BadEntry bad) is = IsReadTo-bad content n extent puts read lt is.0 is.1 ∙ ap bad_entry (sym is.2)

  pub IsReadTo-next : (own : ArrayVec Put) (last : ℕ) (more : List Put) → NextAs (entry_in content n) n extent (Ok (Some own))
      → IsTrue (slots_rise_from 0 puts) → FillSlots own.items → last ≡ extent_after own.items extent → more ≡ newest_after own.items puts
      → IsReadTo content (n + 1) last more
  IsReadTo-next own last more is rise whole after joins =
      let last_is = after ∙ ap (λ (l : List Put). extent_after l extent) is.2 in
      let more_is = joins ∙ ap (λ (l : List Put). newest_after l puts) is.2 in
      rw (last_is, more_is) (IsReadTo-more content n extent puts read lt is.0 is.1 rise (rw is.2 at whole))
