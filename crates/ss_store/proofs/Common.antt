-- The words of other files that the proofs of this crate use.
pub use mir.Val.{of_z, to_z}
pub use Rattle.std.proofs.Common.{Bool, Err, IsPermutation, IsTrue, List, MatchOption, None, Ok, Option, Result, Some, [], ap, append_assoc, ap₂, arith, cond}
pub use Rattle.std.proofs.Common.{drop, false, filter, flat_map, get_or, inl, inr, length, map, not, pos, refl, remove, rules, slice_set}
pub use Rattle.std.proofs.Common.{subst, suc, sym, take, true, w64, zero, zip, ℕ, ℤ, ⊎_elim, ◌&&◌, ◌*◌, ◌++◌, ◌+◌, ◌-◌, ◌<◌, ◌∙◌, ◌∷◌, ◌≡◌, ◌≢◌, ◌≤◌, ◌⊎◌}
pub use Rattle.std.proofs.Math.Numerals.{add-one}
pub use Rattle.std.proofs.lemmas.Bool.{and_parts, cases_Bool, cases_eq, cases_lt, cond_both, eq-eqb, eqb-true, ne_eqb}
pub use Rattle.std.proofs.lemmas.Bool.{not-false}
pub use Rattle.std.proofs.lemmas.Bool.Decides.{nat_tests}
pub use Rattle.std.proofs.lemmas.Int.{to_z-of_z}
pub use Rattle.std.proofs.lemmas.List.{append-nil, length-map, length-set, length_push, map-append, map-set}
pub use Rattle.std.proofs.lemmas.List.Concat.{length-flat_map}
pub use Rattle.std.proofs.lemmas.List.Elements.{All-cons, All-filter, All-from_recursion, All-get_or, All-head, All-nil, All-push, All-set, All-tail}
pub use Rattle.std.proofs.lemmas.List.Elements.{Contains-append_right, filter-append, recursion_from_All}
pub use Rattle.std.proofs.lemmas.List.Folds.{find_at, length-flat_map-take, list_any-append}
pub use Rattle.std.proofs.lemmas.List.Kept.{AllPairs-from_increasing}
pub use Rattle.std.proofs.lemmas.List.Sorted.{All-permutation, IsPermutation-append_comm, IsPermutation-append_left, IsPermutation-append_right}
pub use Rattle.std.proofs.lemmas.List.Sorted.{IsPermutation-refl, IsPermutation-sym}
pub use Rattle.std.proofs.lemmas.List.Sorted.{IsPermutation-trans}
pub use Rattle.std.proofs.lemmas.List.Sums.{passes_at_first, sum_by-cons}
pub use Rattle.std.proofs.lemmas.Option.{get_or_from_slice_get, none-some, same_Some, slice_get-get_or, slice_get-map, slice_get_read, slice_get_within}
pub use Rattle.std.proofs.lemmas.Result.{err_from_is_err_and, on_ok_weaker}
pub use Rattle.std.specs.List.{AllByRecursion, AllZip, IsDistinct, count_by, find, last_or, list_all, list_any, position_or_len, range_with_len}
pub use Rattle.std.specs.List.Sorted.{IsStrictlyIncreasing}
pub use Rattle.std.specs.Option.{option_map_or}
pub use Rattle.std.specs.Prelude.{All, Contains, IfSome, IsErr, IsNone, IsSome, OnOk, if◌then◌else◌, is_some, max, nat_le, nat_lt, negsuc, option_map}
pub use Rattle.std.specs.Prelude.{replicate, slice_get, slice_index, sum_by, ⊤, ◌==◌, ◌||◌, ◌↔◌}
pub use Rattle.ss_outside.proofs.CrashLemmas.{of_content, reads-joined, reads-none, weaker}
pub use Rattle.ss_outside.proofs.StepLemmas.{step-as, step-none, step-then}
pub use Rattle.ss_outside.specs.Crash.{KnowsNow, LeavesOnly, OnlyReads}
pub use Rattle.ss_outside.specs.Disk.{DiskView, NothingPending, OfContent, Told}
pub use Rattle.ss_outside.specs.Step.{Step}
pub use Rattle.ss_outside.specs.Verdict.{IfChanged, IfUndone, IsFirm, Verdict, failed, fine}
pub use Rattle.ss_outside.specs.declared.source.Failed.{Failed}
pub use Rattle.ss_journal.proofs.MapLemmas.{SameMap-refl}
pub use Rattle.ss_journal.proofs.RedoLemmas.{StandsFor-from, StandsFor-same}
pub use Rattle.ss_journal.proofs.ShownLemmas.{shown-sealed}
pub use Rattle.ss_journal.proofs.StepLemmas.{after-step, step-from, step-next}
pub use Rattle.ss_journal.proofs.TearLemmas.{on_ok}
pub use Rattle.ss_journal.specs.Calls.{HasSealed, KeepsMap, KeepsShown}
pub use Rattle.ss_journal.specs.Entries.{entries, is_good, puts_of}
pub use Rattle.ss_journal.specs.Format.{is_born, is_unborn, slots_in}
pub use Rattle.ss_journal.specs.Kept.{IsKept, IsSealed, IsSettled, JournalState, shown}
pub use Rattle.ss_journal.specs.Redo.{SlotMap, StandsFor, bad_entry, blank_map, changed, not_a_store, redo, stands, zeros}
pub use Rattle.ss_journal.specs.declared.format.TheConstants.{MOST_SLOTS}
pub use Rattle.ss_journal.specs.declared.kind.Kind.TheVariants.{Plain}
pub use Rattle.ss_journal.specs.declared.put.Put.{Put}
pub use Rattle.ss_records.specs.Calls.{SealsRecords}
pub use Rattle.ss_records.specs.Kept.{AreKept, RecordsState, shown_by}
pub use Rattle.ss_records.specs.Live.{are_zeros, is_live}
pub use Rattle.ss_line.specs.Line.{LineState, StandsIn, entry_at, index_of, is_at, place_at, place_before}
pub use Rattle.ss_line.specs.declared.entry.At.{At}
pub use Rattle.ss_line.specs.declared.entry.Entry.{Entry}
pub use Rattle.ss_base.specs.declared.limits.TheConstants.{MOST_VALUES}
pub use Rattle.ss_summary.specs.Figures.{Figures}
pub use Rattle.ss_summary.specs.Filters.{full}
pub use Rattle.ss_summary.specs.Points.{New}
pub use Rattle.ss_landmarks.proofs.OrderLemmas.{cases-finish}
pub use Rattle.ss_landmarks.proofs.PlaceLemmas.{last_or-slice_get}
pub use Rattle.ss_landmarks.proofs.TimeLemmas.{AllEndBy-later, all_values-close, all_values-open, all_values-take}
pub use Rattle.ss_landmarks.specs.Landmark.{Landmark, LandmarkValue, all_values, change_last, closed_at, open_landmark, opened_at}
pub use Rattle.ss_landmarks.specs.Landmarks.{AreKnown, LandmarksState}
pub use Rattle.ss_landmarks.specs.Newest.{newest_value}
pub use Rattle.ss_landmarks.specs.Order.{AllEndBy, EndsBy, FollowFrom}
pub use Rattle.ss_catalog.specs.Events.{event_name}
pub use Rattle.ss_catalog.specs.Names.{same_name}
pub use Rattle.ss_catalog.specs.Params.{exp}
pub use Rattle.ss_catalog.specs.declared.TheConstants.{LAST_STREAM, MOST_STREAMS}
pub use Rattle.ss_base.specs.declared.limits.TheConstants.{LAST_TIME}
pub use Rattle.ss_catalog.specs.declared.event.Event.{Event}
pub use Rattle.ss_catalog.specs.declared.event.Event.TheVariants.{Create, Drop, Value}
pub use Rattle.ss_catalog.specs.declared.params.Params.{Params}
pub use Rattle.ss_catalog.specs.declared.query.Query.{Query}
pub use Rattle.ss_catalog.specs.declared.refusal.Refusal.{Refusal}
pub use Rattle.ss_catalog.specs.declared.refusal.Refusal.TheVariants.{Range, Unknown}
pub use Rattle.ss_catalog.specs.declared.stream_id.StreamId.{StreamId}
pub use Rattle.ss_targets.specs.Lengths.{has_target, lengths_of}
pub use Rattle.ss_targets.specs.Rule.{Rule, rule_of}
pub use Rattle.ss_targets.specs.Targets.{params_of}
pub use Rattle.ss_schedule.specs.declared.index.Index.{Index}
pub use Rattle.ss_codec.proofs.RecordLemmas.{is_valid-IsStream}
pub use Rattle.ss_codec.specs.Record.{is_valid}
pub use Rattle.ss_codec.specs.declared.record.Record.{Record}
pub use Rattle.ss_model.proofs.HistoryLemmas.{IsState-state}
pub use Rattle.ss_model.proofs.JoinLemmas.{JoinsDue-closed, taken-JoinsDue}
pub use Rattle.ss_model.proofs.NameLemmas.{same_name-Decides, same_name-same, same_name-swap}
pub use Rattle.ss_model.proofs.ReadLemmas.{All-state}
pub use Rattle.ss_model.proofs.StandLemmas.{IsState-stepped}
pub use Rattle.ss_model.proofs.StepLemmas.{CanAppend-refuses, state-push}
pub use Rattle.ss_model.proofs.StreamLemmas.{IsStream-joined, IsStream-single}
pub use Rattle.ss_model.proofs.Tiles.{taken-append}
pub use Rattle.ss_model.specs.Closed.{closed, joined_window}
pub use Rattle.ss_model.specs.ClosedState.{closed_state, closed_stream}
pub use Rattle.ss_model.specs.Decay.{IsReadWithinTarget, cover, steps_met}
pub use Rattle.ss_model.specs.History.{CanBeSaid, Happened, added, events_of, landmarks_of, values_of}
pub use Rattle.ss_model.specs.Joins.{JoinsDue}
pub use Rattle.ss_model.specs.Marks.{has_open, later, latest_of, lies_free, with_closed, with_marked, with_opened}
pub use Rattle.ss_model.specs.Newest.{known_exactly, newest_in, newest_of, newest_told}
pub use Rattle.ss_model.specs.Refusals.{IsHistory, first_that_applies, has_all_records, has_all_streams, is_opening}
pub use Rattle.ss_model.specs.Refusals.{is_past, refuses}
pub use Rattle.ss_model.specs.Shown.{placed_of}
pub use Rattle.ss_model.specs.Standing.{IsState, IsStream}
pub use Rattle.ss_model.specs.State.{Stream, last_time, live, next_number, numbers_of, records_of, state, stream_named, stream_numbered, values_in}
pub use Rattle.ss_model.specs.Steps.{single_window, stepped, with_plain_value}
pub use Rattle.ss_model.specs.Tiling.{AreWindows}
pub use Rattle.ss_model.specs.Windows.{taken}
pub use Rattle.ss_model.specs.declared.newest.Newest.{Newest}
pub use Rattle.ss_model.specs.declared.outcome.Outcome.{Outcome}
pub use Rattle.ss_model.specs.declared.types.Ack.{Ack}
pub use Rattle.ss_model.specs.declared.types.Placed.{Placed}
pub use Rattle.ss_model.specs.declared.types.StreamRow.{StreamRow}
pub use Rattle.ss_model.specs.declared.types.TheConstants.{MOST_RECORDS}
pub use Rattle.ss_model.specs.declared.types.Window.{Window}
pub use Rattle.ss_recover.proofs.HeldLemmas.{carried-AreHeld}
pub use Rattle.ss_parts.proofs.WholeMaps.{HasWholeSlots-StandsFor}
pub use Rattle.ss_recover.specs.Doomed.{GoInTurn, is_of, records_beside, without_numbered}
pub use Rattle.ss_parts.specs.Held.{Agrees, AllAgree, AreWhole, AreWholeBeside, EndByLast, IsRecord, RiseToLast, TileFrom, all_value_records}
pub use Rattle.ss_parts.specs.Held.{entries_of, in_slots, landmark_records, mark_slots, marks_held, occupied, records_held, slots_held}
pub use Rattle.ss_parts.specs.Held.{span_held, span_of, stream_record, times_held, times_of, value_records, window_record, window_slots, windows_held}
pub use Rattle.ss_recover.specs.Parts.{carried, carries}
pub use Rattle.ss_recover.specs.declared.parts.Parts.{Parts}
pub use Rattle.ss_parts.specs.declared.parts.StreamParts.{StreamParts}
pub use Rattle.ss_parts.proofs.Lists.{all_weaker, range-within}
pub use Rattle.ss_parts.proofs.MarkRecords.{length-all_value_records, length-landmark_records}
pub use Rattle.ss_parts.proofs.PutLemmas.{occupied-freed}
pub use Rattle.ss_parts.proofs.Places.{index_of-first, index_of-next, slice_get-entry}
pub use Rattle.ss_parts.proofs.Records.{HasRecords-permutation}
pub use Rattle.ss_parts.specs.Places.{BeginsNear}
pub use Rattle.ss_parts.specs.Held.{window_slots_of}
pub use Rattle.ss_parts.specs.Slots.{IsHeldIn, HasRecords}
pub use Rattle.ss_parts.specs.Reading.{IsRead, verdict_of_read}
pub use Rattle.ss_parts.specs.declared.read_error.ReadError.{ReadError}
pub use Rattle.ss_query.specs.Asked.{seen_of}
pub use Rattle.ss_query.specs.declared.asking.Seen.{Seen}
pub use Rattle.ss_stream.specs.Calls.{KeepsWithin, StagesAtCost, StandsLike, StaysWithin, StaysOr, Turns, TurnsShown, UsesAtMost}
pub use Rattle.ss_stream.specs.Changing.{ChangedIsHeld, KeepsWhole, NoneAreDue}
pub use Rattle.ss_stream.specs.Slots.{StagesChange, AreSomeLive, LiveSlotsGo, StagesRecord, live_slots, record_put, zeros_put}
pub use Rattle.ss_stream.specs.Dropping.{dropped_record, slots_in_turn}
pub use Rattle.ss_stream.specs.Held.{IsHalfway, IsOrdered, IsPartlyJoined, IsSameStream, ends_held, held_parts, values_held, with_single, with_windows}
pub use Rattle.ss_stream.specs.declared.held.HeldStream.{HeldStream}
pub use Rattle.ss_stream.specs.Indexed.{IsKeyedFor, IsReservedFor, IsScheduled, StandsAfter}
pub use Rattle.ss_stream.specs.Joining.{NoEntriesAreDue}
pub use Rattle.ss_stream.specs.Held.{without_spare}
pub use Rattle.ss_stream.specs.Marking.{CanMark, FitsMark, IsInOpen, IsItsSlot, event_of, mark_refusal, slot_refusal}
pub use Rattle.ss_stream.specs.Marking.{slots_used, with_mark}
pub use Rattle.ss_stream.specs.declared.marking.Mark.{Mark}
pub use Rattle.ss_store.specs.Admitted.{IsMarker, IsNew, IsTaker}
pub use Rattle.ss_store.specs.Applied.{Answers, Applies, IsFew, Looks, OpensStore, SealsStore, Sees, ShowsWindow, StandsOn, is_plain_value, leaves_no_value}
pub use Rattle.ss_store.specs.Calls.{RecoversToEither, StagesEvent, StandsForEither, StepsState}
pub use Rattle.ss_store.specs.Causes.{OpensAs, said_of_held}
pub use Rattle.ss_store.specs.Clearing.{ClearsSlots, HasDoomed, StagesClearing}
pub use Rattle.ss_store.specs.Dropping.{IsHeldBeside, RecoversWithOrWithout, StagesDrop}
pub use Rattle.ss_store.specs.Errors.{apply_of_fault, ask_of_fault, verdict_of_apply, verdict_of_ask, verdict_of_opening}
pub use Rattle.ss_store.specs.Events.{events_held, is_closed, mark_events}
pub use Rattle.ss_store.specs.Extents.{AllGrowLittle, GrowsLittle, records_held_in}
pub use Rattle.ss_store.specs.Kept.{IsSound, SameButSpare, SomeAgree, StoreIsIn, StoreIsKept, StoreState, entry_of, live_held}
pub use Rattle.ss_store.specs.Kept.{is_of_landmark, numbers_held, of_part, part_named, part_numbered, refuses_held, row_of_held}
pub use Rattle.ss_store.specs.Newest.{TellsNewest, is_newer, newest_place, place_if_newer}
pub use Rattle.ss_store.specs.Places.{IsPlaceOf}
pub use Rattle.ss_store.specs.Rebuilt.{HasRebuilt, HasRebuiltBeside, IsRebuilt}
pub use Rattle.ss_store.specs.Recover.{Recovers, Stands, damaged_entry, damaged_slot, damaged_stream, no_store, recovered_from, recovered_of}
pub use Rattle.ss_store.specs.Recover.{recovers}
pub use Rattle.ss_store.specs.Settling.{SettlesAll}
pub use Rattle.ss_store.specs.Surveyed.{survey_of}
pub use Rattle.ss_store.specs.Uses.{IsShort, StandsShort, most_needed}
pub use Rattle.ss_store.specs.declared.error.ApplyError.{ApplyError}
pub use Rattle.ss_store.specs.declared.error.ApplyError.TheVariants.{Disk}
pub use Rattle.ss_store.specs.declared.error.AskError.{AskError}
pub use Rattle.ss_store.specs.declared.error.OpenError.{OpenError}
pub use Rattle.ss_store.specs.declared.surveying.Survey.{Survey}
