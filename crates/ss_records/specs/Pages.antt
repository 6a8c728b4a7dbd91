-- Pages of the map that are cached, each with its number, the most recently used first.
use Rattle.std.specs.Prelude.{◌≡◌, ◌⊎◌, ℕ, ◌+◌, ◌-◌, ◌*◌, ◌/◌, ◌%◌, ◌<◌, nat_eq, List, ◌∷◌, take, Contains}
use Rattle.std.specs.Prelude.{Option, None, option_map}
use Rattle.std.specs.Map.{keys_of, lookup}
use Rattle.lru.specs.LruCache.{promoted}
use Rattle.ss_journal.specs.declared.format.TheConstants.{MOST_PAGES, PAGE_SLOTS}
use Rattle.ss_journal.specs.Calls.{slot_in_page}
use Rattle.ss_records.specs.declared.pages.TheConstants.{MOST_CACHED}

-- the numbers of the pages that are cached, the most recently used first
abbrev pub page_numbers : List (ℕ × List ℕ) → List ℕ
page_numbers cached = keys_of cached

-- the bytes of a slot, where its page is cached
abbrev pub cached_slot : List (ℕ × List ℕ) → ℕ → Option (List ℕ)
cached_slot cached slot = option_map (λ page. slot_in_page page (slot % PAGE_SLOTS)) (lookup (nat_eq (slot / PAGE_SLOTS)) cached)

-- the page has the map's bytes in each of its slots
abbrev pub IsPage : (ℕ → List ℕ) → ℕ → List ℕ → Type 0
IsPage map page bytes = (k : ℕ) → k < PAGE_SLOTS → slot_in_page bytes k ≡ map (PAGE_SLOTS * page + k)

-- each cached page that a file can have is that of the map
abbrev pub ArePages : List (ℕ × List ℕ) → (ℕ → List ℕ) → Type 0
ArePages cached map = (page : ℕ) (bytes : List ℕ) → Contains cached (page, bytes) → page < MOST_PAGES → IsPage map page bytes

-- A slot is read over cached pages: its page is the most recently used then. One that wasn't cached is put first, if there is
-- memory for it, and where all places are taken the least recently used one goes.
abbrev pub Recalls : ℕ → List (ℕ × List ℕ) → List (ℕ × List ℕ) → Type 0
Recalls slot old new =
    (new ≡ promoted (nat_eq (slot / PAGE_SLOTS)) old)
    ⊎ ((bytes : List ℕ) × (cached_slot old slot ≡ None) × (new ≡ (slot / PAGE_SLOTS, bytes) ∷ take (MOST_CACHED - 1) old))
