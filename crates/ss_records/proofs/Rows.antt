-- Worked rows: four slots, of which the first and the third are live; and cached pages.
use Rattle.std.proofs.Common.{◌≡◌, ℕ, ◌*◌, true, false, Bool, List, [], ◌∷◌, ◌++◌, replicate, Some, None, refl}
use Rattle.ss_journal.specs.declared.format.TheConstants.{PAGE_SIZE}
use Rattle.ss_records.specs.Bits.{is_set, is_full_word}
use Rattle.ss_records.specs.Live.{are_zeros, is_live, live_count, lowest_free, live_after}
use Rattle.ss_records.specs.Pages.{cached_slot, page_numbers}
use Rattle.ss_records.specs.declared.pages.TheConstants.{MOST_CACHED}

abbrev live : List Bool
live = true ∷ false ∷ true ∷ false ∷ []

pub are_zeros-slot : are_zeros (replicate 128 0) ≡ true
are_zeros-slot = refl

pub are_zeros-last : are_zeros (0 ∷ 0 ∷ 1 ∷ []) ≡ false
are_zeros-last = refl

pub live_count-two : live_count live ≡ 2
live_count-two = refl

pub is_live-past : is_live live 4 ≡ false
is_live-past = refl

pub lowest_free-second : lowest_free live ≡ Some 1
lowest_free-second = refl

pub lowest_free-none : lowest_free (true ∷ true ∷ []) ≡ None
lowest_free-none = refl

-- the first is freed, and the fourth is taken
pub live_after-both : live_after (record { slot = 0; bytes = 0 ∷ 0 ∷ [] } ∷ record { slot = 3; bytes = 0 ∷ 1 ∷ [] } ∷ []) live ≡ false ∷ false ∷ true ∷ true ∷
    []
live_after-both = refl

-- bits 1 and 63 of a first word, and bit 0 of a second one
pub is_set-bits : is_set (2 ∷ 1 ∷ []) 1 ≡ true
is_set-bits = refl

pub is_set-other : is_set (2 ∷ 1 ∷ []) 63 ≡ false
is_set-other = refl

pub is_set-second : is_set (2 ∷ 1 ∷ []) 64 ≡ true
is_set-second = refl

pub is_full-all : is_full_word 0xffff_ffff_ffff_ffff ≡ true
is_full-all = refl

-- of page 2 the second slot, which is slot 65, holds sevens
abbrev cached : List (ℕ × List ℕ)
cached = (0, []) ∷ (2, replicate 128 5 ++ replicate 128 7) ∷ []

pub cached_slot-second : cached_slot cached 65 ≡ Some (replicate 128 7)
cached_slot-second = refl

pub cached_slot-next : cached_slot cached 96 ≡ None
cached_slot-next = refl

pub cached_slot-before : cached_slot cached 63 ≡ None
cached_slot-before = refl

pub page_numbers-both : page_numbers cached ≡ 0 ∷ 2 ∷ []
page_numbers-both = refl

pub most_cached-size : MOST_CACHED * PAGE_SIZE ≡ 262144
most_cached-size = refl
