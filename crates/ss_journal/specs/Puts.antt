-- What puts make of a map from slots to their bytes, and of its extent.
use Rattle.std.specs.Prelude.{◌≡◌, ℕ, ◌+◌, ◌<◌, ◌≤◌, Bool, true, ◌&&◌, nat_eq, nat_lt, nat_le, if◌then◌else◌, IsTrue, IsFalse, All, List, [], ◌∷◌, length}
use Rattle.std.specs.List.{list_any}
use Rattle.ss_journal.specs.declared.put.Put.{Put}
use Rattle.ss_journal.specs.declared.format.TheConstants.{MOST_PUTS, MOST_SLOTS}
use Rattle.ss_base.specs.declared.limits.TheConstants.{SLOT_SIZE}

-- the map with the put's bytes in its slot
abbrev pub with_put : Put → (ℕ → List ℕ) → ℕ → List ℕ
with_put put map slot = if nat_eq slot put.slot then put.bytes else map slot

-- the map after these puts, in their order
abbrev pub with_puts : List Put → (ℕ → List ℕ) → ℕ → List ℕ
with_puts [] map = map
with_puts (put ∷ puts) map = with_puts puts (with_put put map)

-- the extent after these puts: one more for each slot that is next
abbrev pub extent_after : List Put → ℕ → ℕ
extent_after [] extent = extent
extent_after (put ∷ puts) extent = extent_after puts (if nat_eq put.slot extent then extent + 1 else extent)

-- whether the slots rise strictly, from `least` on, and are slots that a file can have
abbrev pub slots_rise_from : ℕ → List Put → Bool
slots_rise_from least [] = true
slots_rise_from least (put ∷ puts) = nat_le least put.slot && nat_lt put.slot MOST_SLOTS && slots_rise_from (put.slot + 1) puts

-- whether each slot in order is at most the extent so far
abbrev pub slots_fit : List Put → ℕ → Bool
slots_fit [] extent = true
slots_fit (put ∷ puts) extent = nat_le put.slot extent && slots_fit puts (if nat_eq put.slot extent then extent + 1 else extent)

-- one to four puts, whose slots rise strictly and are slots that a file can have
pub record IsTxn (puts : List Put) : Type 0 where
  pub some : 0 < length puts
  pub few : length puts ≤ MOST_PUTS
  pub rise : IsTrue (slots_rise_from 0 puts)

-- each put fills its slot
abbrev pub FillSlots : List Put → Type 0
FillSlots puts = All (λ put. length put.bytes ≡ SLOT_SIZE) puts

-- whether one of the puts is for the slot
abbrev pub is_put : List Put → ℕ → Bool
is_put puts slot = list_any (λ put. nat_eq slot put.slot) puts

-- the maps agree on each slot for which there is no put
abbrev pub AgreeBeside : List Put → (ℕ → List ℕ) → (ℕ → List ℕ) → Type 0
AgreeBeside puts old new = (slot : ℕ) → IsFalse (is_put puts slot) → new slot ≡ old slot
