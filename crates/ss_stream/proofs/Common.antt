-- The words of other files that the proofs of this crate use.
pub use Rattle.std.proofs.Common.{Bool, Err, IsPermutation, IsTrue, List, MatchOption, None, Ok, Option, Result, Some, [], ap, append_assoc, ap₂, arith, cond}
pub use Rattle.std.proofs.Common.{drop, false, filter, get_or, inl, inr, length, length-append, map, not, refl, rules, set}
pub use Rattle.std.proofs.Common.{subst, suc, sym, take, true, w64, zero, zip, ℕ, ℤ, ⊎_elim, ◌&&◌, ◌*◌, ◌++◌, ◌+◌, ◌-◌, ◌<◌, ◌∙◌, ◌∷◌, ◌≡◌, ◌≢◌, ◌≤◌, ◌⊎◌}
pub use Rattle.std.proofs.lemmas.Bool.{and_parts, both_ways, cases_Bool, cases_eq, cases_lt, cond-false, cond-true, cond_both, eq-eqb, eqb-true, ne_eqb}
pub use Rattle.std.proofs.lemmas.Bool.{not-false}
pub use Rattle.std.proofs.lemmas.Bool.Decides.{nat_tests}
pub use Rattle.std.proofs.lemmas.Int.{to_z-of_z}
pub use Rattle.std.proofs.lemmas.List.{append-nil, length-map, length-set, map-append, take_more}
pub use Rattle.std.proofs.lemmas.List.Elements.{All-cons, All-filter, All-from_recursion, All-get_or, All-head, All-nil, All-push, All-tail}
pub use Rattle.std.proofs.lemmas.List.Elements.{Contains-append_right, filter-append, recursion_from_All}
pub use Rattle.std.proofs.lemmas.List.Sorted.{All-permutation, IsPermutation-append_left, IsPermutation-append_right}
pub use Rattle.std.proofs.lemmas.List.Sorted.{IsPermutation-cons, IsPermutation-middle, IsPermutation-refl, IsPermutation-sym, IsPermutation-to_front}
pub use Rattle.std.proofs.lemmas.List.Sorted.{IsPermutation-trans}
pub use Rattle.std.proofs.lemmas.List.Sums.{passes_at_first, sum_by-cons}
pub use Rattle.std.proofs.lemmas.Option.{get_or_from_slice_get, slice_get_within}
pub use Rattle.std.proofs.lemmas.Result.{err_from_is_err_and, on_ok_weaker}
pub use Rattle.std.specs.List.{AllByRecursion, list_all, list_any, range_with_len}
pub use Rattle.std.specs.Prelude.{All, Contains, IsErr, OnOk, max, nat_eq, nat_le, nat_lt, option_map}
pub use Rattle.std.specs.Prelude.{slice_get, slice_index, sum_by, ⊤}
pub use Rattle.ss_outside.proofs.CrashLemmas.{nothing_pending-same, now, of_content, read_leaves, reads-joined, reads-none, weaker}
pub use Rattle.ss_outside.proofs.StepLemmas.{step-as, step-none, step-then}
pub use Rattle.ss_outside.specs.Crash.{KnowsNow, LeavesOnly, OnlyReads}
pub use Rattle.ss_outside.specs.Disk.{DiskView, NothingPending, Told}
pub use Rattle.ss_outside.specs.Step.{Step}
pub use Rattle.ss_outside.specs.Verdict.{IfChanged, IsFirm, Verdict, failed, fine}
pub use Rattle.ss_outside.specs.declared.source.Failed.{Failed}
pub use Rattle.ss_journal.proofs.MapLemmas.{SameMap-refl}
pub use Rattle.ss_journal.proofs.RedoLemmas.{StandsFor-also, StandsFor-from, StandsFor-same}
pub use Rattle.ss_journal.proofs.ShownLemmas.{shown-sealed}
pub use Rattle.ss_journal.proofs.StepLemmas.{after-step, step-from, step-next}
pub use Rattle.ss_journal.proofs.TearLemmas.{on_err, on_ok}
pub use Rattle.ss_journal.specs.Calls.{HasSealed, KeepsMap, KeepsShown, SyncsForRoom, entries_after}
pub use Rattle.ss_journal.specs.Kept.{IsSealed, IsSettled, JournalState, shown}
pub use Rattle.ss_journal.specs.Puts.{IsTxn, extent_after, slots_fit}
pub use Rattle.ss_journal.specs.Redo.{SlotMap, StandsFor, changed}
pub use Rattle.ss_journal.specs.declared.format.TheConstants.{MOST_SLOTS}
pub use Rattle.ss_journal.specs.declared.put.Put.{Put}
pub use Rattle.ss_records.specs.Calls.{SealsRecords}
pub use Rattle.ss_records.specs.Kept.{AreKept, RecordsState, shown_by}
pub use Rattle.ss_records.specs.Live.{are_zeros, is_live, live_after}
pub use Rattle.ss_line.specs.Line.{LineState, StandsIn, entry_at, index_of, is_at, place_at, place_before}
pub use Rattle.ss_line.specs.declared.entry.At.{At}
pub use Rattle.ss_line.specs.declared.entry.Entry.{Entry}
pub use Rattle.ss_targets.specs.Windowing.{window_index}
pub use Rattle.ss_base.specs.declared.limits.TheConstants.{MOST_VALUES}
pub use Rattle.ss_summary.specs.Figures.{Figures}
pub use Rattle.ss_summary.specs.Points.{New}
pub use Rattle.ss_summary.specs.Summaries.{joined, summary_of}
pub use Rattle.ss_landmarks.proofs.OrderLemmas.{cases-finish}
pub use Rattle.ss_landmarks.proofs.TimeLemmas.{AllEndBy-later, all_values-close, all_values-open, all_values-take}
pub use Rattle.ss_landmarks.specs.Landmark.{Landmark, LandmarkValue, all_values, change_last, closed_at, open_landmark, opened_at, with_value}
pub use Rattle.ss_landmarks.specs.Landmarks.{AreKnown, LandmarksState}
pub use Rattle.ss_landmarks.specs.Order.{AllEndBy, CanClose, EndsBy, FollowFrom}
pub use Rattle.ss_base.specs.declared.limits.TheConstants.{LAST_TIME}
pub use Rattle.ss_catalog.specs.declared.params.Params.{Params}
pub use Rattle.ss_catalog.specs.declared.refusal.Refusal.{Refusal}
pub use Rattle.ss_catalog.specs.declared.stream_id.StreamId.{StreamId}
pub use Rattle.ss_targets.specs.Rule.{Rule, may_be_one, rule_of}
pub use Rattle.ss_targets.specs.Targets.{params_of}
pub use Rattle.ss_schedule.proofs.Places.{take-seam}
pub use Rattle.ss_schedule.specs.Keyed.{IsKeyed}
pub use Rattle.ss_schedule.specs.Pairs.{NoPairFits, joined_entry}
pub use Rattle.ss_schedule.specs.declared.index.Index.{Index}
pub use Rattle.ss_codec.proofs.RecordLemmas.{IsValue-is_valid, is_valid-IsStream, is_valid-IsWindow}
pub use Rattle.ss_codec.specs.Record.{is_valid}
pub use Rattle.ss_codec.specs.declared.record.Record.{Record}
pub use Rattle.ss_model.proofs.JoinLemmas.{JoinsDue-closed, taken-JoinsDue}
pub use Rattle.ss_model.proofs.StreamLemmas.{IsStream-joined, IsStream-single}
pub use Rattle.ss_model.proofs.Tiles.{taken-append}
pub use Rattle.ss_model.specs.Closed.{closed, joined_window, last_position, may_join}
pub use Rattle.ss_model.specs.ClosedState.{closed_stream}
pub use Rattle.ss_model.specs.Decay.{cover, steps_met}
pub use Rattle.ss_model.specs.History.{CanBeSaid}
pub use Rattle.ss_model.specs.Joins.{JoinsDue}
pub use Rattle.ss_model.specs.Marks.{has_open, later, latest_in, latest_of, lies_free, with_closed, with_marked, with_opened}
pub use Rattle.ss_model.specs.Refusals.{first_that_applies, has_most_values, is_before, is_early, is_opening}
pub use Rattle.ss_model.specs.Refusals.{is_past}
pub use Rattle.ss_model.specs.Standing.{IsStream}
pub use Rattle.ss_model.specs.State.{Stream, last_time, values_in}
pub use Rattle.ss_model.specs.Steps.{single_window, with_plain_value}
pub use Rattle.ss_model.specs.Tiling.{AreWindows}
pub use Rattle.ss_model.specs.Windows.{newest_time, taken}
pub use Rattle.ss_model.specs.declared.types.Window.{Window}
pub use Rattle.ss_parts.specs.Held.{Agrees, EndByLast, IsRecord, RiseToLast, TileFrom, TimesRise, all_value_records}
pub use Rattle.ss_parts.specs.Held.{entries_of, in_slots, landmark_record, landmark_records, mark_slots, marks_held, occupied, records_held, slots_held}
pub use Rattle.ss_parts.specs.Held.{span_held, span_of, stream_record, times_held, times_of, value_records, window_record, window_slots, windows_held}
pub use Rattle.ss_parts.specs.declared.parts.StreamParts.{StreamParts}
pub use Rattle.ss_parts.proofs.Lists.{all_weaker, range-within}
pub use Rattle.ss_parts.proofs.MarkRecords.{length-all_value_records, length-landmark_records}
pub use Rattle.ss_parts.proofs.LatestTimes.{latest_of-last}
pub use Rattle.ss_parts.proofs.Permutations.{IsPermutation-same, IsPermutation-turn}
pub use Rattle.ss_parts.proofs.PutLemmas.{occupied-freed}
pub use Rattle.ss_parts.proofs.Places.{entries_in, index-once, index_of-first, index_of-next, none-first, read-once, slice_get-entry}
pub use Rattle.ss_parts.proofs.Records.{HasRecords-permutation, zip-held}
pub use Rattle.ss_parts.specs.Places.{BeginsNear}
pub use Rattle.ss_parts.specs.Held.{window_slots_of}
pub use Rattle.ss_parts.specs.Slots.{IsHeldIn, HasRecords}
pub use Rattle.ss_parts.specs.Reading.{IsRead, verdict_of_read}
pub use Rattle.ss_parts.specs.declared.read_error.ReadError.{ReadError}
pub use Rattle.ss_stream.specs.Calls.{KeepsWithin, StagesAtCost, StandsLike, StaysWithin, CrashTriple, StaysOr, SyncsToStage, Turns, TurnsShown, UsesAtMost}
pub use Rattle.ss_stream.specs.Changing.{ChangedIsHeld, KeepsWhole, NoneAreDue}
pub use Rattle.ss_stream.specs.Slots.{AreSomeLive, LiveSlotsGo, StagesRecord, live_slots, pair_put, record_put, zeros_put}
pub use Rattle.ss_stream.specs.Held.{IsHalfway, IsOrdered, IsPartlyJoined, IsSameStream, ends_held, held_parts, values_held, with_single, with_windows}
pub use Rattle.ss_stream.specs.declared.held.HeldStream.{HeldStream}
pub use Rattle.ss_stream.specs.Indexed.{IsKeyedFor, IsReservedFor, IsScheduled, IsTimed, StandsAfter, begun_at}
pub use Rattle.ss_stream.specs.Joining.{AreDue, IsJoinedIn, NoEntriesAreDue, may_be_joined}
pub use Rattle.ss_stream.specs.Held.{outline_held, without_spare}
pub use Rattle.ss_stream.specs.Marking.{CanMark, FitsMark, IsInOpen, IsItsSlot, event_of, landmarks_after, mark_record, mark_refusal}
pub use Rattle.ss_stream.specs.Marking.{slots_after, slots_used, value_slots_after, values_open, with_mark}
pub use Rattle.ss_stream.specs.declared.marking.Mark.{Mark}
pub use Rattle.ss_stream.specs.declared.marking.Mark.TheVariants.{Close, Open}
