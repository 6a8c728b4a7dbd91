-- The words of other files that the proofs of this crate use.
pub use Rattle.ss_catalog.specs.Names.{same_name}
pub use Rattle.ss_catalog.specs.Params.{step_number}
pub use Rattle.ss_catalog.specs.declared.TheConstants.{MOST_STREAMS}
pub use Rattle.ss_catalog.specs.declared.params.Params.{Params}
pub use Rattle.ss_catalog.specs.declared.stream_id.StreamId.{StreamId}
pub use Rattle.ss_codec.proofs.RecordLemmas.{decoded-spelling, decoded-Spells, is_valid-free, IsLandmark-is_valid, IsStream-is_valid, IsValue-is_valid}
pub use Rattle.ss_codec.proofs.RecordLemmas.{IsWindow-is_valid, spelling-free, Spells-decoded}
pub use Rattle.ss_codec.specs.declared.record.Record.{Record}
pub use Rattle.ss_codec.specs.declared.record.Record.TheVariants.{Free, Value}
pub use Rattle.ss_journal.proofs.MapLemmas.{SameMap-refl}
pub use Rattle.ss_journal.proofs.RedoLemmas.{StandsFor-from, StandsFor-same}
pub use Rattle.ss_journal.proofs.StepLemmas.{step-from, step-pair, step-refused}
pub use Rattle.ss_journal.specs.Kept.{IsKept, IsSealed, JournalState, shown}
pub use Rattle.ss_journal.specs.Puts.{with_put}
pub use Rattle.ss_journal.specs.Redo.{changed, SameMap, SlotMap, StandsFor, zeros}
pub use Rattle.ss_journal.specs.declared.format.TheConstants.{MOST_SLOTS}
pub use Rattle.ss_journal.specs.declared.put.Put.{Put}
pub use Rattle.ss_landmarks.proofs.OrderLemmas.{cases-finish}
pub use Rattle.ss_landmarks.proofs.TimeLemmas.{AllEndBy-later}
pub use Rattle.ss_landmarks.specs.Free.{is_up_to}
pub use Rattle.ss_landmarks.specs.Landmark.{all_values, change_last, closed_at, Landmark, LandmarkValue, open_landmark, opened_at, with_value}
pub use Rattle.ss_landmarks.specs.Landmarks.{AreKnown}
pub use Rattle.ss_landmarks.specs.Order.{AllEndBy, AreLandmarks, CanOpen, EndsBy, FollowFrom, IsLandmark, RiseFrom}
pub use Rattle.ss_base.specs.declared.limits.TheConstants.{LAST_TIME}
pub use Rattle.ss_line.specs.declared.entry.Entry.{Entry}
pub use Rattle.ss_model.proofs.FoundLemmas.{each-behind, each-front}
pub use Rattle.ss_model.proofs.MarkLemmas.{ends-latest, none-latest}
pub use Rattle.ss_model.proofs.NameLemmas.{same_name-swap}
pub use Rattle.ss_model.proofs.StepLemmas.{filter-map, map-map}
pub use Rattle.ss_model.specs.Decay.{IsInStep}
pub use Rattle.ss_model.specs.Marks.{later, latest_in, latest_of, lies_free}
pub use Rattle.ss_model.specs.Standing.{IsState, IsStream}
pub use Rattle.ss_model.specs.State.{Created, last_time, live, names_of, records_of, Stream}
pub use Rattle.ss_model.specs.Tiling.{AreWindows, StandFrom}
pub use Rattle.ss_model.specs.Windows.{newest_time, taken}
pub use Rattle.ss_model.specs.declared.types.TheConstants.{MOST_RECORDS}
pub use Rattle.ss_model.specs.declared.types.Window.{Window}
pub use Rattle.ss_outside.specs.Verdict.{Counted, failed, fine, no_memory, refused, Verdict}
pub use Rattle.ss_records.proofs.LiveLemmas.{is_live-below, is_live-set, replicate-are_zeros}
pub use Rattle.ss_records.specs.Kept.{AreKept, AreLiveOver, RecordsState}
pub use Rattle.ss_records.specs.Live.{are_zeros, LiveLieBelow, AreLiveBelow, is_live}
pub use Rattle.ss_recover.specs.Carried.{created_by, in_order, is_drop_of, is_dropped, is_mark_of, marks_carried, put_in_order, stands_by, stream_number}
pub use Rattle.ss_recover.specs.Carried.{streams_created, streams_standing, window_of, windows_carried}
pub use Rattle.ss_recover.specs.Conditions.{are_sound, has_new_name, has_one_record, has_place, is_named_before, keep_own_step, keep_step, stands_alone}
pub use Rattle.ss_recover.specs.Conditions.{stands_sound, tile, tile_from, times_rise}
pub use Rattle.ss_recover.specs.Doomed.{doomed_among, doomed_slots, GoInTurn, is_doomed, is_of, is_own, may_go, records_beside, without_numbered}
pub use Rattle.ss_recover.specs.Gathered.{AreFound, AreFoundBelow, AreGathered, below, FindsOut, GathersAs, IsLowestBad, SpellsNone}
pub use Rattle.ss_parts.specs.Held.{Agrees, all_value_records, AllAgree, AreHeld, AreWhole, AreWholeBeside, EndByLast, entries_of, HasWholeSlots, in_slots}
pub use Rattle.ss_parts.specs.Held.{IsRecord, landmark_record, landmark_records, mark_slots, marks_held, occupied, records_held, RiseToLast, slots_held}
pub use Rattle.ss_parts.specs.Held.{span_held, span_of, stream_record, TileFrom, times_held, times_of, TimesRise, value_records, values_said, window_record}
pub use Rattle.ss_parts.specs.Held.{window_slots, windows_held}
pub use Rattle.ss_recover.specs.Marked.{are_counted, are_in_time, are_marks, are_numbered, free_from, is_in_time, landmarks_made, next_from, opens_from}
pub use Rattle.ss_recover.specs.Marked.{rise_within, values_first}
pub use Rattle.ss_recover.specs.Order.{found_key, key_of, place_of, Rises, stream_of}
pub use Rattle.ss_recover.specs.Parts.{bad_slot, bad_stream, Carried, carries, judged, lowest_bad_slot, lowest_bad_stream, lowest_in, records_in}
pub use Rattle.ss_recover.specs.Parts.{stream_carried, streams_carried}
pub use Rattle.ss_recover.specs.Rebuilt.{HasParts, Rebuilds, RebuildsAs, verdict_of_rebuild}
pub use Rattle.ss_recover.specs.Runs.{AreBuilt, AreSlotsOf, doomed_found, has_sound_values_within, is_run, is_sound_in_order}
pub use Rattle.ss_recover.specs.Runs.{IsLowestUnsound, marks_in, may_stand, stream_made, streams_made, WalksAs, windows_in}
pub use Rattle.ss_recover.specs.Shown.{AddsName, AreMade, AreWindowsOf, all_closed, BuildsAs, EndsWalk, found_by, found_number, Grows}
pub use Rattle.ss_recover.specs.Shown.{HasMarkRoom, HasMore, HasNothing, is_after, is_landmark, is_value, is_window, IsHeldOf, IsInside}
pub use Rattle.ss_recover.specs.Shown.{marks_shown, MarksShown, MayClose, MayCome, names_in, run_len, TakesAs, TakesStream}
pub use Rattle.ss_recover.specs.Shown.{with_closing, with_found}
pub use Rattle.ss_recover.specs.Usable.{HasValidTimes, with_slot, IsUsable, slots_found, without_slots}
pub use Rattle.ss_recover.specs.declared.found.Found.{Found}
pub use Rattle.ss_recover.specs.declared.gathering.Gathered.{Gathered}
pub use Rattle.ss_recover.specs.declared.parts.Parts.{Parts}
pub use Rattle.ss_parts.specs.declared.parts.StreamParts.{StreamParts}
pub use Rattle.ss_recover.specs.declared.recover_error.RecoverError.{RecoverError}
pub use Rattle.ss_recover.specs.declared.recover_error.RecoverError.TheVariants.{BadSlot, BadStream, Disk, OutOfMemory}
pub use Rattle.ss_recover.specs.declared.walking.Walk.{Walk}
pub use Rattle.ss_summary.specs.Figures.{Figures, IsPossible}
pub use Rattle.ss_summary.specs.Filters.{filter_of, full}
pub use Rattle.ss_targets.specs.Rule.{in_step, rule_of}
pub use Rattle.ss_base.specs.declared.limits.TheConstants.{MOST_VALUES}
pub use Rattle.std.proofs.Common.{[], ◌%◌, ◌&&◌, ◌*◌, ◌++◌, ◌+◌, ◌-◌, ◌/◌, ◌<◌, ◌^◌, ◌||◌, ◌∙◌, ◌∷◌, ◌≡◌, ◌≤◌, ◌⊎◌, add-one, All, ap, append-nil, append_assoc}
pub use Rattle.std.proofs.Common.{ap₂, arith, Bool, cond, drop, eqb, Err, false, filter, flat_map, fold, get_or, IfErr, IfOk, IfSome, inl, inr, is_none}
pub use Rattle.std.proofs.Common.{IsPermutation, IsTrue, leb, leb-true, length, length-append, List, ltb, map, MatchOption, max, min, nat_eq, None, not}
pub use Rattle.std.proofs.Common.{Ok, Option, pos, refl, replicate, Result, rules, set, Some, subst, suc, sym, take, true, zero, ℕ, ℤ}
pub use Rattle.std.proofs.Math.Bool.{and-false, and-true, or-false}
pub use Rattle.std.proofs.Math.Seq.{drop-cons}
pub use Rattle.std.proofs.lemmas.Bool.{and_cases, and_from, and_left, and_parts, and_right, cases_Bool, cases_eq, cases_lt, cases_order, cond-false, cond-true}
pub use Rattle.std.proofs.lemmas.Bool.{cond_both, eq-eqb, eqb-true, false_from_ne_true, le-leb, le-ltb, leb-false, lt-leb, lt-ltb, ltb-true, ne_eqb, not-true}
pub use Rattle.std.proofs.lemmas.Bool.{not_from_false, or_cases, or_from, or_left, or_parts, or_right, true≢false}
pub use Rattle.std.proofs.lemmas.Bool.Decides.{nat_tests}
pub use Rattle.std.proofs.lemmas.List.{length-drop, length-map, length-set, length-take, map-append, map-id, take-append-drop}
pub use Rattle.std.proofs.lemmas.List.{take_more}
pub use Rattle.std.proofs.lemmas.List.Concat.{flat_map-append}
pub use Rattle.std.proofs.lemmas.List.Elements.{All-from_recursion, All-head, All-nil, All-push, All-tail, filter-append, filter_map-append}
pub use Rattle.std.proofs.lemmas.List.Elements.{recursion_from_All}
pub use Rattle.std.proofs.lemmas.List.Folds.{list_all-append, list_any-append}
pub use Rattle.std.proofs.lemmas.List.FromFn.{get_or-map-range_with_len, length-map-range_with_len, length-range_with_len}
pub use Rattle.std.proofs.lemmas.List.Sorted.{All-permutation, answers_always, IsNonDecreasingBy-from_sort}
pub use Rattle.std.proofs.lemmas.List.Sorted.{IsPermutation-append_comm, IsPermutation-append_left, IsPermutation-append_right, IsPermutation-cons}
pub use Rattle.std.proofs.lemmas.List.Sorted.{IsPermutation-map, IsPermutation-refl, IsPermutation-sym}
pub use Rattle.std.proofs.lemmas.List.Sorted.{IsPermutation-trans, length_permutation, list_any-IsPermutation, sum_by-IsPermutation}
pub use Rattle.std.proofs.lemmas.List.Sums.{count_by-le-length, length-filter, position_or_len_is, sum_by-append, sum_by-cons}
pub use Rattle.std.proofs.lemmas.Map.Keys.{IsDistinct-cons, IsDistinct-from_apart, IsDistinct-head, IsDistinct-tail}
pub use Rattle.std.proofs.lemmas.Result.{err_from_is_err_and, on_ok_weaker}
pub use Rattle.std.proofs.lemmas.Slice.Zip.{firsts-zip, seconds-zip}
pub use Rattle.std.specs.List.{AllByRecursion, AllPairs, cons_option, filter_map, IsDistinct, list_all, list_any, position_or_len, range_with_len}
pub use Rattle.std.specs.List.Sorted.{IsNonDecreasingBy, IsSortedByKey, IsStableByKey, IsStrictlyIncreasing, ties}
pub use Rattle.std.specs.Option.{option_map_or}
pub use Rattle.std.specs.Prelude.{⊤, ◌==◌, ◌≢◌, count_by, if◌then◌else◌, is_some, nat_le, nat_lt, negsuc, OnOk, option_and_then, option_to_list}
pub use Rattle.std.specs.Prelude.{slice_index_or, slice_set, sum_by, zip}
pub use Rattle.std.specs.Vec.{vec_capacity}
