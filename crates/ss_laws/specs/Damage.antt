-- The bytes of records and entries in a checked store's file, what is read from such bytes, and damage to them.
use Rattle.std.specs.Prelude.{◌≡◌, ℕ, ◌*◌, ◌^◌, ◌<◌, Bool, List, ◌∷◌, drop, Option, bit_xor}
use Rattle.ss_checksum.specs.Changes.{AreAsLong, difference}
use Rattle.ss_codec.specs.Decoded.{decoded}
use Rattle.ss_codec.specs.Record.{spelling}
use Rattle.ss_codec.specs.declared.record.Record.{Record}
use Rattle.ss_journal.specs.Checks.{entry_form, slot_form}
use Rattle.ss_journal.specs.Entries.{entry_body, is_good}
use Rattle.ss_journal.specs.declared.format.TheConstants.{GATE_OPEN}
use Rattle.ss_journal.specs.declared.kind.Kind.TheVariants.{Checked}
use Rattle.ss_journal.specs.declared.put.Put.{Put}

-- the bytes of a record in its slot
abbrev pub in_slot : ℕ → Record → List ℕ
in_slot slot r = slot_form Checked slot (spelling r)

-- the record that is read from the bytes of a slot, if they are one's
abbrev pub read_from : ℕ → List ℕ → Option Record
read_from slot bytes = decoded (slot_form Checked slot bytes)

-- the bytes of puts in an entry, behind its gate
abbrev pub in_entry : ℕ → List Put → List ℕ
in_entry n puts = drop 1 (entry_form Checked n (GATE_OPEN ∷ entry_body puts))

-- whether an open entry with these bytes behind its gate is sound over an extent
abbrev pub is_entry : ℕ → List ℕ → ℕ → Bool
is_entry n bytes extent = is_good (entry_form Checked n (GATE_OPEN ∷ bytes)) extent

-- bytes differ from as many others within a run of at most 32 bits
pub record IsBurst (xs ys : List ℕ) : Type 0 where
  pub long : AreAsLong xs ys
  pub run : ℕ
  pub at : ℕ
  pub some : 0 < run
  pub few : run < 2 ^ 32
  pub is : difference xs ys ≡ run * 2 ^ at

-- they differ in two bits
pub record AreTwoBits (xs ys : List ℕ) : Type 0 where
  pub long : AreAsLong xs ys
  pub lower : ℕ
  pub higher : ℕ
  pub order : lower < higher
  pub is : difference xs ys ≡ bit_xor (2 ^ lower) (2 ^ higher)

-- they differ in three bits, or in one: two of the places may be the same
pub record AreOddBits (xs ys : List ℕ) : Type 0 where
  pub long : AreAsLong xs ys
  pub first : ℕ
  pub second : ℕ
  pub third : ℕ
  pub is : difference xs ys ≡ bit_xor (2 ^ first) (bit_xor (2 ^ second) (2 ^ third))
