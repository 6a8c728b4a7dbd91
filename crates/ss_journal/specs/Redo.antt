-- What an image stands for: a fold over the entries of its open prefix.
use Rattle.std.specs.Prelude.{◌≡◌, ℕ, ◌+◌, ◌<◌, ◌≤◌, nat_lt, if◌then◌else◌, List, [], ◌∷◌, length, replicate, flat_map, IsTrue}
use Rattle.ss_journal.specs.declared.put.Put.{Put}
use Rattle.ss_journal.specs.Checks.{slot_in}
use Rattle.ss_journal.specs.Format.{is_unborn, is_born, kind_of, slots_in}
use Rattle.ss_journal.specs.declared.kind.Kind.{Kind}
use Rattle.ss_journal.specs.declared.format.TheConstants.{MOST_SLOTS}
use Rattle.ss_base.specs.declared.limits.TheConstants.{SLOT_SIZE}
use Rattle.ss_journal.specs.Puts.{with_puts, extent_after, AgreeBeside}
use Rattle.ss_journal.specs.Newest.{DoAs}
use Rattle.ss_journal.specs.Entries.{puts_of, is_good, open_prefix, entries}

-- a map from slots to their 128 bytes, and its extent: slots from there on were never used
pub record SlotMap : Type 0 where
  pub bytes : ℕ → List ℕ
  pub extent : ℕ

-- what an image stands for
pub data Redone : Type 0 where
  not_a_store : Redone
  bad_entry : ℕ → Redone
  stands : SlotMap → Redone

-- a slot that isn't in the file
abbrev pub zeros : List ℕ
zeros = replicate SLOT_SIZE 0

-- the map after these puts
abbrev pub changed : SlotMap → List Put → SlotMap
changed found puts = record { bytes = with_puts puts found.bytes; extent = extent_after puts found.extent }

-- the entries in order, of which the first is number n, over a map
abbrev pub redo_entries : ℕ → List (List ℕ) → SlotMap → Redone
redo_entries n [] found = stands found
redo_entries n (entry ∷ rest) found =
    if is_good entry found.extent then redo_entries (n + 1) rest (changed found (puts_of entry)) else bad_entry n

-- what the slots that lie in the file say
abbrev pub file_map : List ℕ → SlotMap
file_map image = record {
  bytes = λ slot. if nat_lt slot (slots_in (length image)) then slot_in image slot else zeros;
  extent = slots_in (length image);
}

-- every slot is zeros
abbrev pub blank_map : List ℕ → SlotMap
blank_map image = record { bytes = λ slot. zeros; extent = slots_in (length image) }

-- the map of an image, or that it is no store, or its lowest entry in use that isn't sound
unfoldable pub redo : List ℕ → Redone
redo image =
    if is_born image then redo_entries 0 (open_prefix (entries image)) (file_map image)
    else (if is_unborn image then stands (blank_map image) else not_a_store)

-- the same bytes in each of the slots that a file can have, and the same extent
pub record SameMap (first second : SlotMap) : Type 0 where
  pub bytes : (slot : ℕ) → slot < MOST_SLOTS → first.bytes slot ≡ second.bytes slot
  pub extent : first.extent ≡ second.extent

-- what was redone is this map
abbrev pub Gives : Redone → SlotMap → Type 0
Gives not_a_store found = ⊥
Gives (bad_entry n) found = ⊥
Gives (stands its) found = SameMap its found

-- the image stands for this map
abbrev pub StandsFor : List ℕ → SlotMap → Type 0
StandsFor image found = Gives (redo image) found

-- the entries in use: those of the open prefix of a formatted file
unfoldable pub entries_in_use : List ℕ → List (List ℕ)
entries_in_use image = if is_born image then open_prefix (entries image) else []

-- their puts, in order
abbrev pub puts_in_use : List ℕ → List Put
puts_in_use image = flat_map puts_of (entries_in_use image)

-- the content stands for a map, and these puts do what those of its entries in use do
pub record InUse (puts : List Put) (content : List ℕ) : Type 0 where
  pub all : DoAs (puts_in_use content) (slots_in (length content)) puts
  pub found : SlotMap
  pub map : redo content ≡ stands found

-- a formatted file of a kind, and puts that do what those of its entries in use do
pub record HasEntries (is : Kind) (puts : List Put) (content : List ℕ) : Type 0 where
  pub kind : is ≡ kind_of content
  pub born : IsTrue (is_born content)
  pub in_use : InUse puts content

-- The puts came to a map already, in whole or in part, where `found` is the map after them: it differs from the old map in
-- their slots alone, and its extent lies between the old one and the one after them.
pub record CameInPart (puts : List Put) (old found new : SlotMap) : Type 0 where
  pub beside : AgreeBeside puts old.bytes new.bytes
  pub no_less : old.extent ≤ new.extent
  pub no_more : new.extent ≤ found.extent
