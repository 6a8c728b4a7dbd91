-- The steps in which a file is formatted.
use Rattle.std.specs.Prelude.{Bool, ◌||◌, ◌==◌, nat_le, ◌≡◌, ◌⊎◌, ℕ, ◌-◌, ◌<◌, ◌≤◌, max, min, List, [], ◌∷◌, length, slice_index, if◌then◌else◌}
use Rattle.std.specs.Prelude.{IsTrue, IsFalse}
use Rattle.ss_journal.specs.declared.format.TheConstants.{MAGIC_END, FIRST_SLOT, FILE_END}
use Rattle.ss_journal.specs.declared.kind.Kind.TheVariants.{Plain, Checked}
use Rattle.ss_journal.specs.Gates.{opens}
use Rattle.ss_journal.specs.Format.{magic, has_magic, is_unborn, kind_of}
use Rattle.ss_journal.specs.Writes.{SameRest}

-- an unborn file of one byte at least, and of one 0 if it is one byte
pub record IsBegun (content : List ℕ) : Type 0 where
  pub unborn : IsTrue (is_unborn content)
  pub gate : (slice_index content 0 ≡ 0) ⊎ IsTrue (has_magic content)
  pub some : 0 < length content

-- no kind stays with a file that isn't formatted: it is short, or begins with 0
abbrev pub has_no_kind : List ℕ → Bool
has_no_kind content = nat_le (length content) 1 || slice_index content 0 == 0

-- the bytes that are written after the birth gate: the magic of a plain store, unless one stands there
abbrev pub magic_bytes : List ℕ → List ℕ
magic_bytes content = if has_magic content then [] else magic Plain

-- where the zeros end that are written after the magic
abbrev pub blank_end : ℕ → ℕ
blank_end size = max FIRST_SLOT (min size FILE_END)

-- what is written of the magic, and the zeros after it
abbrev pub form_ranges : List ℕ → List (ℕ × ℕ)
form_ranges content = (1, length (magic_bytes content)) ∷ (MAGIC_END, blank_end (length content) - MAGIC_END) ∷ []

-- all but the gate of the birth is there: the magic, and zeros after it as far as anything is looked at
pub record IsFormed (content : List ℕ) : Type 0 where
  pub closed : IsFalse (opens (slice_index content 0))
  pub marked : IsTrue (has_magic content)
  pub long : FIRST_SLOT ≤ length content
  pub blank : (place : ℕ) → MAGIC_END ≤ place → place < FILE_END → slice_index content place ≡ 0

-- a step of the birth leads here, and leaves the kind, and what lies after the last slot that a file can have
pub record Leads (P : List ℕ → Type 0) (old new : List ℕ) : Type 0 where
  pub there : P new
  pub kind : kind_of new ≡ kind_of old
  pub rest : SameRest old new

-- the first step of the birth: where no kind stays with the file its first byte is 0 then
abbrev pub Begins : List ℕ → List ℕ → Type 0
Begins old new = Leads IsBegun old new × (IsTrue (has_no_kind old) → slice_index new 0 ≡ 0)

-- a marked file isn't formatted, and is of a checked store
abbrev pub IsMarked : List ℕ → List ℕ → Type 0
IsMarked old new = IsTrue (is_unborn new) × (kind_of new ≡ Checked) × SameRest old new
