-- Worked images, whole and in parts, and the numbers that are rules.
use Rattle.ss_journal.proofs.Common.{◌≡◌, ℕ, ◌+◌, ◌*◌, ◌^◌, true, false, List, [], ◌∷◌, ◌++◌, drop, length, map, replicate, take, Ok, Err, refl, ◌<◌, ap}
use Rattle.ss_journal.proofs.Common.{arith, both_ways, All-cons, All-nil, append-nil, slice_index, fine, refused, failed, entries_after, slot_in_page}
use Rattle.ss_journal.proofs.Common.{JournalError, Disk, NotAStore, BadEntry, OutOfMemory, Plain, Checked, Settled, has_no_kind, magic_bytes, is_plain, magic}
use Rattle.ss_journal.proofs.Common.{slots_in, entry_count, group_bytes, open_entry, part, JournalState, closed_behind, gate_behind, shown, staged_bytes}
use Rattle.ss_journal.proofs.Common.{with_entries, DoAs, newest_after, with_newest, slot_said, run_bytes, run_length, Put, open_prefix, SlotMap, Redone}
use Rattle.ss_journal.proofs.Common.{stands, bad_entry, not_a_store, redo_entries, changed, zeros}
use Rattle.ss_journal.proofs.NewestLemmas.{DoAs-added, DoAs-none}
use Rattle.ss_fields.specs.Fields as Fields
use Rattle.ss_outside.specs.Verdict.{no_memory}
use Rattle.ss_journal.specs.declared.format.TheConstants.{GATE_OPEN, MAGIC_END, ENTRIES, ENTRY_SIZE, FIRST_ENTRY, MOST_PUTS, PUT_SIZE, MOST_WAITING}
use Rattle.ss_base.specs.declared.limits.TheConstants.{SLOT_SIZE}
use Rattle.ss_journal.specs.declared.format.TheConstants.{MOST_SLOTS, FIRST_SLOT, FILE_END, PAGE_SLOTS, PAGE_SIZE, MOST_PAGES}
use Rattle.ss_journal.specs.Calls.{verdict_of_open}
use Rattle.ss_checksum.specs.Checksum as Checksum
use Rattle.ss_journal.specs.Format.{kind_of, is_unborn, is_born}
use Rattle.ss_journal.specs.Checks.{slot_form, entry_form}
use Rattle.ss_journal.specs.Entries.{puts_of, is_good, entries, entry_body}
use Rattle.ss_journal.specs.Redo.{redo, entries_in_use}

-- a file that is empty, of any one byte, or that begins with 0 isn't formatted
pub is_unborn-none : is_unborn [] ≡ true
unfolding is_unborn
is_unborn-none = refl

pub is_unborn-one : is_unborn (165 ∷ []) ≡ true
unfolding is_unborn
is_unborn-one = refl

pub is_unborn-zero : is_unborn (0 ∷ 83 ∷ []) ≡ true
unfolding is_unborn
is_unborn-zero = refl

-- nor is one whose birth gate is closed before the magic
pub is_unborn-closed : is_unborn (164 ∷ magic Plain) ≡ true
unfolding is_unborn
is_unborn-closed = refl

-- a short one with an open gate is no store, whatever stands after the gate
pub redo-short : redo (165 ∷ magic Plain) ≡ not_a_store
unfolding redo is_born is_unborn
redo-short = refl

pub redo-other : redo (83 ∷ 83 ∷ []) ≡ not_a_store
unfolding redo is_born is_unborn
redo-other = refl

-- the whole slots of a length
pub slots_in-cut : slots_in (36864 + 255) ≡ 1
slots_in-cut = refl

pub slots_in-short : slots_in 36863 ≡ 0
slots_in-short = refl

pub slots_in-most : slots_in (134254592 + 1000) ≡ 1048576
slots_in-most = refl

-- what is staged stands from its entry on, with a closed gate behind it, and where nothing is the content stays
pub with_entries-none : with_entries 1 [] (1 ∷ 2 ∷ []) ≡ 1 ∷ 2 ∷ []
with_entries-none = refl

pub with_entries-one : with_entries 1 (165 ∷ 7 ∷ []) (replicate 1060 165) ≡ replicate 1056 165 ++ 165 ∷ 7 ∷ 0 ∷ 165 ∷ []
with_entries-one = refl

-- the gate of the last entry may be closed, and behind it there is none
pub gate_behind-last : gate_behind (544 * 63) ≡ 0 ∷ []
gate_behind-last = refl

pub gate_behind-none : gate_behind (544 * 64) ≡ []
gate_behind-none = refl

-- an entry of one put: 128 times this byte into this slot
abbrev pub one_put : ℕ → ℕ → List ℕ
one_put slot byte = 165 ∷ 1 ∷ 0 ∷ 0 ∷ 0 ∷ slot ∷ replicate 128 byte ++ replicate 410 0

pub puts_of-one : puts_of (one_put 2 7) ≡ record { slot = 2; bytes = replicate 128 7 } ∷ []
unfolding puts_of Fields.number_at
puts_of-one = refl

-- it is sound over an extent from its slot on
pub is_good-next : is_good (one_put 2 7) 2 ≡ true
unfolding is_good puts_of Fields.number_at
is_good-next = refl

pub is_good-beyond : is_good (one_put 2 7) 1 ≡ false
unfolding is_good puts_of Fields.number_at
is_good-beyond = refl

-- an entry without a put isn't sound, nor one with a byte after its puts
pub is_good-none : is_good (165 ∷ 0 ∷ replicate 542 0) 5 ≡ false
unfolding is_good puts_of Fields.number_at
is_good-none = refl

pub is_good-rest : is_good (165 ∷ 1 ∷ 0 ∷ 0 ∷ 0 ∷ 0 ∷ replicate 537 0 ++ 1 ∷ []) 5 ≡ false
unfolding is_good puts_of Fields.number_at
is_good-rest = refl

-- nor one with the same slot twice
pub is_good-twice : is_good (165 ∷ 2 ∷ replicate 542 0) 5 ≡ false
unfolding is_good puts_of Fields.number_at
is_good-twice = refl

-- one of four puts into slots that rise is, and one of five isn't
abbrev pub put_into : ℕ → List ℕ
put_into slot = 0 ∷ 0 ∷ 0 ∷ slot ∷ replicate 128 7

abbrev pub four_puts : List ℕ
four_puts = put_into 0 ++ put_into 1 ++ put_into 2 ++ put_into 3

pub is_good-four : is_good (165 ∷ 4 ∷ four_puts ++ replicate 14 0) 0 ≡ true
unfolding is_good puts_of Fields.number_at
is_good-four = refl

pub is_good-five : is_good (165 ∷ 5 ∷ four_puts ++ put_into 4) 0 ≡ false
unfolding is_good puts_of Fields.number_at
is_good-five = refl

-- the last slot that a file can have, and the one after it
pub is_good-last : is_good (165 ∷ 1 ∷ 0 ∷ 15 ∷ 255 ∷ 255 ∷ replicate 538 0) 1048575 ≡ true
unfolding is_good puts_of Fields.number_at
is_good-last = refl

pub is_good-past : is_good (165 ∷ 1 ∷ 0 ∷ 16 ∷ 0 ∷ 0 ∷ replicate 538 0) 1048576 ≡ false
unfolding is_good puts_of Fields.number_at
is_good-past = refl

-- a closed gate ends the open prefix
pub open_prefix-closed : open_prefix ((0 ∷ []) ∷ (165 ∷ []) ∷ []) ≡ []
open_prefix-closed = refl

pub open_prefix-open : open_prefix ((165 ∷ 1 ∷ []) ∷ (164 ∷ []) ∷ (165 ∷ []) ∷ []) ≡ (165 ∷ 1 ∷ []) ∷ []
open_prefix-open = refl

-- two entries with one slot, over a file without slots: the second counts, and the slot is one
abbrev pub no_slots : SlotMap
no_slots = record { bytes = λ slot. zeros; extent = 0 }

pub redo_entries-two : redo_entries 0 (one_put 0 1 ∷ one_put 0 2 ∷ []) no_slots ≡ stands
    (changed no_slots (record { slot = 0; bytes = replicate 128 1 } ∷ record { slot = 0; bytes = replicate 128 2 } ∷ []))
unfolding is_good puts_of Fields.number_at
redo_entries-two = refl

pub changed-two : (changed no_slots (record { slot = 0; bytes = replicate 128 1 } ∷ record { slot = 0; bytes = replicate 128 2 } ∷ [])).bytes 0 ≡ replicate 128
    2
changed-two = refl

pub changed-extent : (changed no_slots (record { slot = 0; bytes = replicate 128 1 } ∷ record { slot = 0; bytes = replicate 128 2 } ∷ [])).extent ≡ 1
changed-extent = refl

-- a slot past the extent: the lowest entry that isn't sound
pub redo_entries-bad : redo_entries 0 (one_put 0 1 ∷ one_put 2 2 ∷ one_put 9 3 ∷ []) no_slots ≡ bad_entry 1
unfolding is_good puts_of Fields.number_at
redo_entries-bad = refl

-- how an entry is spelled
pub entry_body-one : entry_body (record { slot = 1; bytes = replicate 128 9 } ∷ []) ≡ 1 ∷ 0 ∷ 0 ∷ 0 ∷ 1 ∷ replicate 128 9 ++ replicate 410 0
unfolding entry_body Fields.number_bytes
entry_body-one = refl

-- the numbers of the format
pub the_gate : GATE_OPEN ≡ 0xA5
the_gate = refl

pub the_magic_end : MAGIC_END ≡ 9
the_magic_end = refl

pub the_entries : ENTRIES ≡ 64
the_entries = refl

pub the_entry_size : ENTRY_SIZE ≡ 544
the_entry_size = refl

pub the_first_entry : FIRST_ENTRY ≡ 512
the_first_entry = refl

pub the_most_puts : MOST_PUTS ≡ 4
the_most_puts = refl

pub the_put_size : PUT_SIZE ≡ 132
the_put_size = refl

pub the_most_waiting : MOST_WAITING ≡ ENTRIES * MOST_PUTS
the_most_waiting = refl

pub the_most_slots : MOST_SLOTS ≡ 2 ^ 20
the_most_slots = refl

pub the_first_slot : FIRST_SLOT ≡ 36864
the_first_slot = refl

-- the pages are whole, and have all slots
pub the_page_slots : PAGE_SLOTS ≡ 32
the_page_slots = refl

pub the_page_size : PAGE_SIZE ≡ SLOT_SIZE * PAGE_SLOTS
the_page_size = refl

pub the_most_pages : PAGE_SLOTS * MOST_PAGES ≡ MOST_SLOTS
the_most_pages = refl

-- the slots of a page stand one after the other
pub slot_in_page-first : slot_in_page (replicate 128 1 ++ replicate 128 2 ++ replicate 128 3) 0 ≡ replicate 128 1
slot_in_page-first = refl

pub slot_in_page-second : slot_in_page (replicate 128 1 ++ replicate 128 2 ++ replicate 128 3) 1 ≡ replicate 128 2
slot_in_page-second = refl

pub the_file_end : FILE_END ≡ 134254592
the_file_end = refl

-- a whole formatted image: its first two entries, and what stands from its first slot on
abbrev pub image_of : List ℕ → List ℕ → List ℕ → List ℕ
image_of first second slots = 165 ∷ magic Plain ++ replicate 503 0 ++ first ++ second ++ replicate 35264 0 ++ slots

abbrev pub no_entry : List ℕ
no_entry = replicate 544 0

abbrev pub slot_of : Redone → ℕ → List ℕ
slot_of not_a_store slot = []
slot_of (bad_entry n) slot = []
slot_of (stands found) slot = found.bytes slot

abbrev pub extent_of : Redone → ℕ
extent_of not_a_store = 0
extent_of (bad_entry n) = 0
extent_of (stands found) = found.extent

-- gate 0 is closed and gate 1 open: no entry is in use
abbrev pub after_closed : List ℕ
after_closed = image_of no_entry (one_put 0 5) (replicate 128 3)

pub slot-after_closed : slot_of (redo after_closed) 0 ≡ replicate 128 3
unfolding redo is_born entries kind_of slot_form entry_form
slot-after_closed = refl

pub extent-after_closed : extent_of (redo after_closed) ≡ 1
unfolding redo is_born entries kind_of slot_form entry_form
extent-after_closed = refl

pub in_use-after_closed : length (entries_in_use after_closed) ≡ 0
unfolding entries_in_use is_born entries kind_of entry_form
in_use-after_closed = refl

-- two entries put into one slot, which isn't in the file: the second counts, and the extent is one
abbrev pub one_slot_twice : List ℕ
one_slot_twice = image_of (one_put 0 4) (one_put 0 5) []

pub slot-one_slot_twice : slot_of (redo one_slot_twice) 0 ≡ replicate 128 5
unfolding redo is_born entries kind_of slot_form entry_form is_good puts_of Fields.number_at
slot-one_slot_twice = refl

pub extent-one_slot_twice : extent_of (redo one_slot_twice) ≡ 1
unfolding redo is_born entries kind_of slot_form entry_form is_good puts_of Fields.number_at
extent-one_slot_twice = refl

pub in_use-one_slot_twice : length (entries_in_use one_slot_twice) ≡ 2
unfolding entries_in_use is_born entries kind_of entry_form
in_use-one_slot_twice = refl

-- one slot lies in the file, and the entry's slot isn't the next
pub redo-not_next : redo (image_of (one_put 2 3) no_entry (replicate 128 7)) ≡ bad_entry 0
unfolding redo is_born entries kind_of slot_form entry_form is_good puts_of Fields.number_at
redo-not_next = refl

-- the file is cut inside its second slot, which then counts as zeros
abbrev pub cut_inside : List ℕ
cut_inside = image_of no_entry no_entry (replicate 128 3 ++ replicate 127 4)

pub slot-cut_inside : slot_of (redo cut_inside) 1 ≡ replicate 128 0
unfolding redo is_born entries kind_of slot_form entry_form
slot-cut_inside = refl

pub extent-cut_inside : extent_of (redo cut_inside) ≡ 1
unfolding redo is_born entries kind_of slot_form entry_form
extent-cut_inside = refl

-- all 64 entries come into use before they are settled, and then one is in use
pub entries_after-fresh : entries_after 0 ≡ 1
entries_after-fresh = refl

pub entries_after-last : entries_after 63 ≡ 64
entries_after-last = refl

pub entries_after-full : entries_after 64 ≡ 1
entries_after-full = refl

-- the verdict of each answer of an opening
verdicts-open : map (λ (e : JournalError). verdict_of_open {T = ℕ} (Err e)) (Disk ∷ NotAStore ∷ BadEntry 7 ∷ OutOfMemory ∷ []) ≡
    failed ∷ refused ∷ refused ∷ no_memory ∷ []
verdicts-open = refl

verdict-open : verdict_of_open {T = ℕ} (Ok 7) ≡ fine
verdict-open = refl

-- a live record has its check behind it, of the number of its slot and what stands before; a free slot has none, and no plain one
pub slot_form-live_row : drop 124 (slot_form Checked 3 (1 ∷ replicate 127 0)) ≡ 100 ∷ 214 ∷ 188 ∷ 207 ∷ []
unfolding slot_form Checksum.checksum Fields.number_bytes
slot_form-live_row = refl

pub slot_form-free_row : slot_form Checked 3 (replicate 128 0) ≡ replicate 128 0
unfolding slot_form
slot_form-free_row = refl

-- nor has any other that begins with 0
pub slot_form-zero_row : slot_form Checked 1 (replicate 124 0 ++ 91 ∷ 6 ∷ 163 ∷ 102 ∷ []) ≡ replicate 124 0 ++ 91 ∷ 6 ∷ 163 ∷ 102 ∷ []
unfolding slot_form
slot_form-zero_row = refl

pub slot_form-last_row : drop 124 (slot_form Checked 1048575 (1 ∷ replicate 127 0)) ≡ 146 ∷ 208 ∷ 126 ∷ 97 ∷ []
unfolding slot_form Checksum.checksum Fields.number_bytes
slot_form-last_row = refl

pub slot_form-plain_row : slot_form Plain 3 (1 ∷ replicate 127 0) ≡ 1 ∷ replicate 127 0
unfolding slot_form
slot_form-plain_row = refl

-- slot 35 is number 3 of page 1, which says it as it is once it was taken out of the form
slot_said-formed_row : slot_said Checked 1 (false ∷ false ∷ false ∷ true ∷ []) (replicate 384 0 ++ 1 ∷ replicate 127 0) 3 ≡ 1 ∷ replicate 127 0
slot_said-formed_row = refl

-- and before that as the form says
slot_said-unformed_row : slot_said Checked 1 (true ∷ true ∷ true ∷ false ∷ []) (replicate 384 0 ++ 1 ∷ replicate 127 0) 3 ≡
    slot_form Checked 35 (1 ∷ replicate 127 0)
slot_said-unformed_row = refl

-- an entry has its check, of its number and of all behind its gate
pub entry_form-row : drop 540 (entry_form Checked 2 (165 ∷ replicate 543 0)) ≡ 221 ∷ 46 ∷ 87 ∷ 169 ∷ []
unfolding entry_form Checksum.checksum Fields.number_bytes
entry_form-row = refl

pub entry_form-plain_row : drop 540 (entry_form Plain 2 (165 ∷ replicate 543 0)) ≡ 0 ∷ 0 ∷ 0 ∷ 0 ∷ []
unfolding entry_form
entry_form-plain_row = refl

-- the kind of a file is that of its magic, which tells only where it stands whole
pub kind_of-checked_row : kind_of (0 ∷ magic Checked) ≡ Checked
unfolding kind_of
kind_of-checked_row = refl

pub kind_of-plain_row : kind_of (0 ∷ magic Plain) ≡ Plain
unfolding kind_of
kind_of-plain_row = refl

pub kind_of-cut_row : kind_of (0 ∷ take 7 (magic Checked)) ≡ Plain
unfolding kind_of
kind_of-cut_row = refl

-- a plain store: behind a closed gate too, but not where the first byte is 0
pub is_plain-closed_row : is_plain (164 ∷ magic Plain) ≡ true
unfolding is_unborn is_born
is_plain-closed_row = refl

pub is_plain-formatted_row : is_plain (165 ∷ magic Plain ++ replicate 36855 0) ≡ true
unfolding is_unborn is_born
is_plain-formatted_row = refl

pub is_plain-zero_row : is_plain (0 ∷ magic Plain) ≡ false
unfolding is_unborn is_born
is_plain-zero_row = refl

pub is_plain-checked_row : is_plain (164 ∷ magic Checked) ≡ false
unfolding is_unborn is_born
is_plain-checked_row = refl

pub has_no_kind-one : has_no_kind (164 ∷ []) ≡ true
has_no_kind-one = refl

pub has_no_kind-zero : has_no_kind (0 ∷ magic Plain) ≡ true
has_no_kind-zero = refl

pub has_no_kind-closed : has_no_kind (164 ∷ magic Plain) ≡ false
has_no_kind-closed = refl

-- what the birth writes after the birth gate: a magic, where none stands
pub magic_bytes-none : magic_bytes (0 ∷ []) ≡ magic Plain
magic_bytes-none = refl

pub magic_bytes-checked : magic_bytes (0 ∷ magic Checked) ≡ []
magic_bytes-checked = refl

pub magic_bytes-plain : magic_bytes (0 ∷ magic Plain) ≡ []
magic_bytes-plain = refl

-- a checked image: what its slot and its entry say, and an entry whose check doesn't fit
abbrev pub checked_image : List ℕ → List ℕ → List ℕ
checked_image first slots = 165 ∷ magic Checked ++ replicate 503 0 ++ first ++ replicate 35808 0 ++ slots

pub slot-checked : slot_of (redo (checked_image no_entry (replicate 124 3 ++ 71 ∷ 75 ∷ 111 ∷ 119 ∷ []))) 0 ≡ replicate 124 3 ++ 0 ∷ 0 ∷ 0 ∷ 0 ∷ []
unfolding redo is_born entries kind_of slot_form entry_form Checksum.checksum Fields.number_bytes
slot-checked = refl

pub redo-unchecked : redo (checked_image (one_put 0 5) []) ≡ bad_entry 0
unfolding redo is_born entries kind_of slot_form entry_form is_good puts_of Checksum.checksum Fields.number_at Fields.number_bytes
redo-unchecked = refl

-- a put that fills its slot with this byte
abbrev pub full_put : ℕ → ℕ → Put
full_put slot byte = record { slot = slot; bytes = replicate 128 byte }

-- one more put among those for slots 2 and 5: before them, in place of one, between them, and behind them
abbrev pub two_held : List Put
two_held = full_put 2 7 ∷ full_put 5 8 ∷ []

pub with_newest-none_row : with_newest (full_put 3 9) [] ≡ full_put 3 9 ∷ []
with_newest-none_row = refl

pub with_newest-before_row : with_newest (full_put 1 9) two_held ≡ full_put 1 9 ∷ full_put 2 7 ∷ full_put 5 8 ∷ []
with_newest-before_row = refl

pub with_newest-same_row : with_newest (full_put 2 9) two_held ≡ full_put 2 9 ∷ full_put 5 8 ∷ []
with_newest-same_row = refl

pub with_newest-between_row : with_newest (full_put 3 9) two_held ≡ full_put 2 7 ∷ full_put 3 9 ∷ full_put 5 8 ∷ []
with_newest-between_row = refl

pub with_newest-same_last_row : with_newest (full_put 5 9) two_held ≡ full_put 2 7 ∷ full_put 5 9 ∷ []
with_newest-same_last_row = refl

pub with_newest-last_row : with_newest (full_put 6 9) two_held ≡ full_put 2 7 ∷ full_put 5 8 ∷ full_put 6 9 ∷ []
with_newest-last_row = refl

-- of two puts for a slot the later one stays, and what was held for another slot too
pub newest_after-row : newest_after (full_put 5 1 ∷ full_put 3 2 ∷ full_put 5 3 ∷ []) two_held ≡ full_put 2 7 ∷ full_put 3 2 ∷ full_put 5 3 ∷ []
newest_after-row = refl

pub newest_after-none_row : newest_after [] two_held ≡ two_held
newest_after-none_row = refl

-- how many entries hold so many puts
pub entry_count-none_row : entry_count 0 ≡ 0
entry_count-none_row = refl

pub entry_count-one_row : entry_count 1 ≡ 1
entry_count-one_row = refl

pub entry_count-four_row : entry_count 4 ≡ 1
entry_count-four_row = refl

pub entry_count-five_row : entry_count 5 ≡ 2
entry_count-five_row = refl

pub entry_count-eight_row : entry_count 8 ≡ 2
entry_count-eight_row = refl

pub entry_count-most_row : entry_count 256 ≡ 64
entry_count-most_row = refl

-- six puts: four, the other two, and none
abbrev pub six_puts : List Put
six_puts = full_put 0 1 ∷ full_put 1 1 ∷ full_put 2 1 ∷ full_put 3 1 ∷ full_put 4 1 ∷ full_put 5 1 ∷ []

pub part-first_row : part 0 six_puts ≡ full_put 0 1 ∷ full_put 1 1 ∷ full_put 2 1 ∷ full_put 3 1 ∷ []
part-first_row = refl

pub part-rest_row : part 1 six_puts ≡ full_put 4 1 ∷ full_put 5 1 ∷ []
part-rest_row = refl

pub part-none_row : part 2 six_puts ≡ []
part-none_row = refl

-- an entry of a group: its gate is open, and in a checked file its check has its own number
pub open_entry-row : open_entry Plain 3 (full_put 2 7 ∷ []) ≡ one_put 2 7
unfolding entry_form entry_body Fields.number_bytes
open_entry-row = refl

pub open_entry-checked_row : drop 540 (open_entry Checked 4 (part 1 six_puts)) ≡ 171 ∷ 97 ∷ 3 ∷ 73 ∷ []
unfolding entry_form entry_body Checksum.checksum Fields.number_bytes
open_entry-checked_row = refl

-- six puts from entry 3 on are entry 3 with four of them and entry 4 with the other two
pub group_bytes-none_row : group_bytes Checked 3 0 six_puts ≡ []
group_bytes-none_row = refl

pub group_bytes-row : group_bytes Checked 3 2 six_puts ≡
    open_entry Checked 3 (full_put 0 1 ∷ full_put 1 1 ∷ full_put 2 1 ∷ full_put 3 1 ∷ []) ++ open_entry Checked 4 (full_put 4 1 ∷ full_put 5 1 ∷ [])
group_bytes-row = refl

-- behind one entry, which is the last of the file or the one before it
pub closed_behind-room_row : closed_behind 62 (replicate 544 165) ≡ replicate 544 165 ++ 0 ∷ []
closed_behind-room_row = refl

pub closed_behind-full_row : closed_behind 63 (replicate 544 165) ≡ replicate 544 165
closed_behind-full_row = refl

-- two entries in the file and six puts staged: two entries more from place 1,600 on, and the gate behind them is closed
abbrev pub six_staged : JournalState
six_staged = record { phase = Settled; extent = 6; in_use = 4; waiting = six_puts; sealed = 2; staged = six_puts; kind = Plain }

pub staged_bytes-row : staged_bytes six_staged ≡ open_entry Plain 2 (part 0 six_puts) ++ open_entry Plain 3 (part 1 six_puts)
staged_bytes-row = refl

pub shown-before_row : take 1600 (shown six_staged (replicate 2690 165)) ≡ replicate 1600 165
unfolding entry_form entry_body Fields.number_bytes
shown-before_row = refl

pub shown-staged_row : drop 1600 (shown six_staged (replicate 2690 165)) ≡ staged_bytes six_staged ++ 0 ∷ 165 ∷ []
unfolding entry_form entry_body Fields.number_bytes
shown-staged_row = refl

-- where nothing is staged the content is shown
pub shown-sealed_row : (content : List ℕ)
    → shown (record { phase = Settled; extent = 6; in_use = 2; waiting = six_puts; sealed = 2; staged = []; kind = Plain }) content ≡ content
shown-sealed_row content = refl

-- the newest put of each slot do what all do, over a file without slots
abbrev pub zero_twice : List Put
zero_twice = full_put 0 1 ∷ full_put 1 1 ∷ full_put 0 2 ∷ []

pub DoAs-newest_row : DoAs zero_twice 0 (full_put 0 2 ∷ full_put 1 1 ∷ [])
DoAs-newest_row =
    let In = λ (put : Put). put.slot < 2 ^ 20 in
    let Full = λ (put : Put). length put.bytes ≡ 128 in
    DoAs-added [] zero_twice [] 0 refl
    (All-cons In (full_put 0 1) (full_put 1 1 ∷ full_put 0 2 ∷ []) (omega arith)
    (All-cons In (full_put 1 1) (full_put 0 2 ∷ []) (omega arith) (All-cons In (full_put 0 2) [] (omega arith) (All-nil In))))
    (All-cons Full (full_put 0 1) (full_put 1 1 ∷ full_put 0 2 ∷ []) refl
    (All-cons Full (full_put 1 1) (full_put 0 2 ∷ []) refl (All-cons Full (full_put 0 2) [] refl (All-nil Full))))
    (DoAs-none 0) refl

-- the older of two doesn't
pub DoAs-older_row : DoAs zero_twice 0 (full_put 0 1 ∷ full_put 1 1 ∷ []) → ⊥
DoAs-older_row does =
    let first : 1 ≡ 2 = ap (λ (bytes : List ℕ). slice_index bytes 0) (does.bytes (λ slot. []) 0) in
    absurd (omega (arith, first))

-- nor does a put too few, though the extent is the same
pub DoAs-fewer_row : DoAs (full_put 0 1 ∷ full_put 1 1 ∷ []) 2 (full_put 0 1 ∷ []) → ⊥
DoAs-fewer_row does =
    let none : 0 ≡ 1 = ap (λ (bytes : List ℕ). slice_index bytes 0) (does.bytes (λ slot. []) 1) in
    absurd (omega (arith, none))

-- nor one too many
pub DoAs-more_row : DoAs (full_put 0 1 ∷ []) 2 (full_put 0 1 ∷ full_put 1 1 ∷ []) → ⊥
DoAs-more_row does =
    let one : 1 ≡ 0 = ap (λ (bytes : List ℕ). slice_index bytes 0) (does.bytes (λ slot. []) 1) in
    absurd (omega (arith, one))

-- puts that don't fit don't even do as they do themselves
pub DoAs-beyond_row : DoAs (full_put 1 1 ∷ []) 0 (full_put 1 1 ∷ []) → ⊥
DoAs-beyond_row does = both_ways false refl does.fit

-- in this order the slots don't fit, and the extent is less than in the other
pub DoAs-extent_row : DoAs (full_put 1 1 ∷ full_put 0 1 ∷ []) 0 (full_put 0 1 ∷ full_put 1 1 ∷ []) → ⊥
DoAs-extent_row does =
    let extent : 2 ≡ 1 = does.extent in
    absurd (omega (arith, extent))

-- each of the few fills its slot
pub DoAs-short_row : DoAs (record { slot = 0; bytes = [] } ∷ []) 0 (record { slot = 0; bytes = [] } ∷ []) → ⊥
DoAs-short_row does =
    let short : 0 ≡ 128 = does.whole 0 (full_put 0 0) (omega arith) in
    absurd (omega (arith, short))

-- how many puts at the front are for neighbouring slots, up to a gap
abbrev pub gap_puts : List Put
gap_puts = full_put 3 1 ∷ full_put 4 2 ∷ full_put 6 3 ∷ []

pub run_length-gap_row : run_length 3 gap_puts ≡ 2
run_length-gap_row = refl

-- up to the end
pub run_length-end_row : run_length 3 (full_put 3 1 ∷ full_put 4 2 ∷ []) ≡ 2
run_length-end_row = refl

pub run_length-none_row : run_length 3 [] ≡ 0
run_length-none_row = refl

-- none where the first put is for another slot
pub run_length-other_row : run_length 2 gap_puts ≡ 0
run_length-other_row = refl

-- the same slot again is no neighbour, and neither is the one before
pub run_length-again_row : run_length 3 (full_put 3 1 ∷ full_put 3 2 ∷ full_put 4 3 ∷ []) ≡ 1
run_length-again_row = refl

pub run_length-back_row : run_length 3 (full_put 3 1 ∷ full_put 2 2 ∷ []) ≡ 1
run_length-back_row = refl

-- the bytes of two puts, in their order
pub run_bytes-two_row : run_bytes Plain (full_put 3 1 ∷ full_put 4 2 ∷ []) ≡ replicate 128 1 ++ replicate 128 2
unfolding slot_form
run_bytes-two_row = refl

pub run_bytes-order_row : run_bytes Plain (full_put 4 2 ∷ full_put 3 1 ∷ []) ≡ replicate 128 1 ++ replicate 128 2 → ⊥
unfolding slot_form
run_bytes-order_row is =
    let first : 2 ≡ 1 = ap (λ (bytes : List ℕ). slice_index bytes 0) is in
    absurd (omega (arith, first))

pub run_bytes-none_row : run_bytes Plain [] ≡ []
run_bytes-none_row = refl

-- each in the form of a kind for its own slot
pub run_bytes-checked_row : run_bytes Checked (full_put 3 1 ∷ full_put 4 1 ∷ [])
    ≡ slot_form Checked 3 (replicate 128 1) ++ slot_form Checked 4 (replicate 128 1)
run_bytes-checked_row = ap (λ (rest : List ℕ). slot_form Checked 3 (replicate 128 1) ++ rest) (append-nil (slot_form Checked 4 (replicate 128 1)))
