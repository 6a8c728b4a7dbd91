-- The words of other files that the proofs of this crate use.
pub use denote.Enum.Bare.{same_true}
pub use Rattle.arrayvec.specs.ArrayVec.{ArrayVec}
pub use Rattle.std.proofs.Common.{Bool, Err, IsFalse, IsTrue, List, Ok, Result, [], ap, arith, cond, drop, false, get_or, inl, inr, length, map, max, nat_eq}
pub use Rattle.std.proofs.Common.{nat_le, nat_lt, not, refl, replicate, rules, subst, suc, sym, take, true, zero, ℕ, ⊎_elim, ◌&&◌, ◌*◌, ◌++◌, ◌+◌, ◌-◌, ◌<◌}
pub use Rattle.std.proofs.Common.{◌==◌, ◌^◌, ◌||◌, ◌∙◌, ◌∷◌, ◌≡◌, ◌≢◌, ◌≤◌, ◌⊎◌}
pub use Rattle.std.proofs.Math.ListN.{set}
pub use Rattle.std.proofs.Math.Nat.{zero-add}
pub use Rattle.std.proofs.lemmas.Bool.{and_from, and_parts, both_ways, cases_Bool, cases_eq, cases_lt, cases_order, cond-false, cond-true, eq-eqb, eqb-false}
pub use Rattle.std.proofs.lemmas.Bool.{eqb-true, false_from_ne_true, le-leb, le-ltb, leb-true, lt-ltb, ne_eqb, not-true, not_from_false, or_cases, or_from}
pub use Rattle.std.proofs.lemmas.Bool.{or_left, or_parts, or_right}
pub use Rattle.std.proofs.lemmas.Bool.Decides.{nat_tests}
pub use Rattle.std.proofs.lemmas.List.{append-nil, append_assoc, drop-drop, drop-replicate, drop-take, drop_all, drop_at, drop_more, ext_get_or, get_or-drop}
pub use Rattle.std.proofs.lemmas.List.{get_or-replicate, get_or-take, get_or_past, length-append, length-drop, length-replicate, length-take, length-take-le}
pub use Rattle.std.proofs.lemmas.List.{take-append-drop, take-replicate, take_all, take_at, take_more}
pub use Rattle.std.proofs.lemmas.List.Concat.{flat_map-append}
pub use Rattle.std.proofs.lemmas.List.Elements.{All-cons, All-drop, All-get_or, All-head, All-map, All-more, All-nil, All-tail, All-take, All-weaker}
pub use Rattle.std.proofs.lemmas.List.FromFn.{length-map-range_with_len, map-range_with_len_more}
pub use Rattle.std.proofs.lemmas.Result.{on_ok_weaker}
pub use Rattle.std.specs.List.{range_with_len}
pub use Rattle.std.specs.Prelude.{All, IsErr, OnOk, flat_map, slice_index}
pub use Rattle.ss_outside.proofs.CrashLemmas.{joined, reads-joined, reads-none, weaker}
pub use Rattle.ss_outside.proofs.DiskLemmas.{get_or-overwrite_inside, get_or-overwrite_outside, length-overwrite}
pub use Rattle.ss_outside.proofs.StepLemmas.{step-none, syncs-once}
pub use Rattle.ss_outside.specs.Crash.{KnowsNow, LeavesOnly, OnlyReads}
pub use Rattle.ss_outside.specs.Disk.{IsOutside, IsOutsideAll, IsReadFrom, NothingPending, SyncsAtMost, Told, overwrite}
pub use Rattle.ss_outside.specs.Step.{Step, Syncs}
pub use Rattle.ss_outside.specs.Verdict.{failed, fine, refused}
pub use Rattle.ss_outside.specs.declared.source.Failed.{Failed}
pub use Rattle.ss_journal.specs.Birth.{Begins, IsFormed, Leads, has_no_kind, magic_bytes}
pub use Rattle.ss_journal.specs.Calls.{HasStaged, KeepsMap, KeepsShown, MakesChecked, MakesDurable, MakesRoom, ReadsPage, ReadsSlot, Seals, Settles}
pub use Rattle.ss_journal.specs.Calls.{Stages, entries_after, slot_in_page}
pub use Rattle.ss_journal.specs.Checks.{check_of, entry_form, entry_in, masked_from, slot_form, slot_in}
pub use Rattle.ss_journal.specs.Entries.{entries, entry_body, is_good, open_prefix, put_at, put_bytes, puts_of}
pub use Rattle.ss_journal.specs.Format.{IsShut, entry_bytes, has_magic, has_magic_of, is_born, is_plain, is_unborn, kind_of, magic, slot_at, slot_place}
pub use Rattle.ss_journal.specs.Format.{slots_in}
pub use Rattle.ss_journal.specs.Gates.{EndsAt, IsClosed, entry_place, is_open, opens}
pub use Rattle.ss_journal.specs.Groups.{entry_count, group_bytes, open_entry, part}
pub use Rattle.ss_journal.specs.Kept.{EndsBefore, HasRoomFor, IfStaged, IsBounded, IsInPhase, IsKept, IsSealed, IsSettled, IsShown, JournalState}
pub use Rattle.ss_journal.specs.Kept.{closed_behind, gate_behind, shown, staged_bytes, with_entries}
pub use Rattle.ss_journal.specs.Newest.{DoAs, newest_after, with_newest}
pub use Rattle.ss_journal.specs.Opening.{AreEntries}
pub use Rattle.ss_journal.specs.Page.{slot_said}
pub use Rattle.ss_journal.specs.Puts.{AgreeBeside, FillSlots, IsTxn, extent_after, is_put, slots_fit, slots_rise_from, with_put, with_puts}
pub use Rattle.ss_journal.specs.Redo.{CameInPart, Gives, HasEntries, Redone, SameMap, SlotMap, StandsFor, bad_entry, blank_map, changed, entries_in_use}
pub use Rattle.ss_journal.specs.Redo.{file_map, not_a_store, puts_in_use, redo, redo_entries, stands, zeros}
pub use Rattle.ss_journal.specs.Steps.{Clears, Durably, Enters, Finds, Reaches, Rewrites, StaysShut, Writes, WritesSlots, WritesZeros}
pub use Rattle.ss_journal.specs.Writes.{AreSlots, DiffersAt, DiffersIn, HasSlotsFor, SameRest, Tears, length_with, run_bytes, run_length, slot_ranges}
pub use Rattle.ss_journal.specs.Writes.{slots_written}
pub use Rattle.ss_journal.specs.contracts.phase.Phase.{the_type}
pub use Rattle.ss_journal.specs.declared.journal_error.JournalError.{JournalError}
pub use Rattle.ss_journal.specs.declared.journal_error.JournalError.TheVariants.{BadEntry, Disk, NotAStore, OutOfMemory}
pub use Rattle.ss_journal.specs.declared.kind.Kind.{Kind}
pub use Rattle.ss_journal.specs.declared.kind.Kind.TheVariants.{Checked, Plain}
pub use Rattle.ss_journal.specs.declared.phase.Phase.{Phase}
pub use Rattle.ss_journal.specs.declared.phase.Phase.TheVariants.{Settled, Unborn}
pub use Rattle.ss_journal.specs.declared.put.Put.{Put}
