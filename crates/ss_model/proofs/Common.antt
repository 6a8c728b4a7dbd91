-- The words of other files that the proofs of this crate use.
pub use Rattle.std.proofs.Common.{Bool, IfSome, IsSome, List, MatchOption, None, Some, [], add-one, add_assoc, ap, append_assoc, ap₂, arith, cond, drop}
pub use Rattle.std.proofs.Common.{false, get_or, inl, inr, length, lit≤, map, max, negsuc, not, pos, refl, subst, suc, sym, take, true, zero, ℕ, ◌&&◌, ◌*◌}
pub use Rattle.std.proofs.Common.{◌++◌, ◌+◌, ◌-◌, ◌/◌, ◌<◌, ◌^◌, ◌∙◌, ◌∷◌, ◌≡◌, ◌≢◌, ◌≤◌}
pub use Rattle.std.proofs.Math.Nat.{div-mul-le_self}
pub use Rattle.std.proofs.Math.Seq.{get_or-append_seam}
pub use Rattle.std.proofs.lemmas.Bool.{and_from, and_parts, cases_Bool, cases_lt, cond-false, cond-true, cond_both, eq-eqb, eqb-false, eqb-true, le-leb}
pub use Rattle.std.proofs.lemmas.Bool.{ne_eqb, not-false}
pub use Rattle.std.proofs.lemmas.Bool.Decides.{nat_tests}
pub use Rattle.std.proofs.lemmas.Grind.{common_steps}
pub use Rattle.std.proofs.lemmas.Int.{clamps, ints}
pub use Rattle.std.proofs.lemmas.List.{append-nil, drop-append-le, get_or_append_left, length-append, length-map, length_push, map-append, take-append-drop}
pub use Rattle.std.proofs.lemmas.List.Elements.{All-append, All-cons, All-head, All-nil, All-push, All-tail, filter-append}
pub use Rattle.std.proofs.lemmas.List.Folds.{find-append, list_all-append}
pub use Rattle.std.proofs.lemmas.List.Sums.{fold-append, sum_by-append, sum_by-cons}
pub use Rattle.std.proofs.lemmas.Map.Keys.{IsDistinct-cons, IsDistinct-head, IsDistinct-tail}
pub use Rattle.std.specs.Int.{int_max, int_min, w64}
pub use Rattle.std.specs.List.{AllByRecursion, IsDistinct, filter, list_all, list_any}
pub use Rattle.std.specs.List.Sorted.{IsStrictlyIncreasing}
pub use Rattle.std.specs.Option.{option_map_or}
pub use Rattle.std.specs.Prelude.{All, Contains, FitsSigned, IsTrue, Option, codes, if◌then◌else◌, is_some, nat_le, nat_lt, option_map, ℤ, ◌+ℤ◌, ◌==◌, ◌||◌}
pub use Rattle.std.specs.Prelude.{◌≤ℤ◌, ◌⊎◌}
pub use Rattle.ss_targets.specs.WindowingLaws.{window_index-monotone}
pub use Rattle.ss_targets.specs.Exp.{exp_length}
pub use Rattle.ss_targets.specs.Windowing.{fits, window_index}
pub use Rattle.ss_base.specs.declared.limits.TheConstants.{MOST_VALUES}
pub use Rattle.ss_summary.proofs.SummaryLemmas.{IsPossible-joined}
pub use Rattle.ss_summary.specs.Figures.{AreAlike, Figures, IsPossible, unfiltered}
pub use Rattle.ss_summary.specs.Filters.{bit_of, filter_of, full, has, union}
pub use Rattle.ss_summary.specs.Points.{New, Old, Origin, Point}
pub use Rattle.ss_summary.specs.Summaries.{greatest, joined, least, summary_of, time_at_end}
pub use Rattle.ss_bounds.proofs.TruthLemmas.{asked-MayLieThere}
pub use Rattle.ss_bounds.specs.Extremes.{chosen}
pub use Rattle.ss_bounds.specs.Guess.{AreAllSplit}
pub use Rattle.ss_bounds.specs.Split.{SplitFigures, sum_interval}
pub use Rattle.ss_bounds.specs.Times.{lies_in}
pub use Rattle.ss_bounds.specs.Truth.{AreSplit, HoldsExtreme, asked, total, values_alone}
pub use Rattle.ss_bounds.specs.declared.extreme.Extreme.TheVariants.{Sure}
pub use Rattle.ss_landmarks.proofs.TimeLemmas.{free-add}
pub use Rattle.ss_landmarks.specs.Free.{free, is_free}
pub use Rattle.ss_landmarks.specs.Landmark.{Landmark, LandmarkValue, all_values, closed_at, open_landmark, opened_at}
pub use Rattle.ss_landmarks.specs.Order.{AreLandmarks}
pub use Rattle.ss_landmarks.specs.ValuesIn.{values_between}
pub use Rattle.ss_catalog.specs.Events.{event_name}
pub use Rattle.ss_catalog.specs.Names.{same_name}
pub use Rattle.ss_catalog.specs.Params.{exp, power, step_number}
pub use Rattle.ss_catalog.specs.Queries.{is_guess}
pub use Rattle.ss_catalog.specs.Series.{numbers_from, row_query, rows_of}
pub use Rattle.ss_catalog.specs.declared.TheConstants.{LAST_STREAM}
pub use Rattle.ss_base.specs.declared.limits.TheConstants.{LAST_TIME}
pub use Rattle.ss_catalog.specs.declared.event.Event.{Event}
pub use Rattle.ss_catalog.specs.declared.event.Event.TheVariants.{Close, Create, Drop, Open, Value}
pub use Rattle.ss_catalog.specs.declared.params.Params.{Params}
pub use Rattle.ss_catalog.specs.declared.query.Kind.{Kind}
pub use Rattle.ss_catalog.specs.declared.query.Query.{Query}
pub use Rattle.ss_catalog.specs.declared.refusal.Refusal.{Refusal}
pub use Rattle.ss_catalog.specs.declared.refusal.Refusal.TheVariants.{Exists, Param, Range, Unknown}
pub use Rattle.ss_catalog.specs.declared.series.Series.{Series}
pub use Rattle.ss_targets.specs.Power.{power_length}
pub use Rattle.ss_targets.specs.Lengths.{has_target, lengths_of}
pub use Rattle.ss_targets.specs.Rule.{Rule, in_step, may_be_one, rule_of, step_of, without_step}
pub use Rattle.ss_model.specs.Answers.{HasEnds, HoldsPresence, HoldsTruth, IsExactOutcome, IsOfKind, answer_of, outcome_of, refuses_query, split_by}
pub use Rattle.ss_model.specs.Boundaries.{boundaries, staying}
pub use Rattle.ss_model.specs.Closed.{closed, closed_onto, joined_window, last_position, may_join}
pub use Rattle.ss_model.specs.Decay.{IsInStep, IsReadWithinTarget, IsWithinTarget, NoneIsDue, cover, ends_of, steps_met}
pub use Rattle.ss_model.specs.History.{CanBeSaid, Given, Happened, added, creates, given_after, given_to, is_for, landmarks_of, marked_of, nothing_given}
pub use Rattle.ss_model.specs.History.{values_of}
pub use Rattle.ss_model.specs.Interval.{IsExact, interval_of_count, interval_of_greatest, interval_of_least, interval_of_sum, is_split, is_whole, presence_of}
pub use Rattle.ss_model.specs.Interval.{split_figures, split_windows}
pub use Rattle.ss_model.specs.Joins.{JoinsDue}
pub use Rattle.ss_model.specs.Marks.{has_open, later, latest_of, lies_free, marked_values, with_closed, with_marked, with_opened}
pub use Rattle.ss_model.specs.Newest.{newer, newest_in, newest_of}
pub use Rattle.ss_model.specs.NewestTruth.{HoldsNewest, IsNewest, NewestLiesWithin, kept_point}
pub use Rattle.ss_model.specs.KeptAlike.{AllKeptAlike, AreKeptAlike}
pub use Rattle.ss_model.specs.Outline.{Outline, outline_named, outline_of}
pub use Rattle.ss_model.specs.Refusals.{IsHistory, first_that_applies, has_all_records, has_all_streams, has_most_values, is_before, is_early, is_opening}
pub use Rattle.ss_model.specs.Refusals.{is_past, of_outline, refuses, refuses_reading, stands}
pub use Rattle.ss_model.specs.Series.{AnswersRow, refuses_series}
pub use Rattle.ss_model.specs.Shown.{placed_of, row_of}
pub use Rattle.ss_model.specs.Standing.{IsState, IsStream}
pub use Rattle.ss_model.specs.State.{Created, Stream, last_time, live, names_of, next_number, numbers_of, records_of, standing, standing_after, state}
pub use Rattle.ss_model.specs.State.{stream_after, stream_named, values_in}
pub use Rattle.ss_model.specs.Steps.{ack_of, change_named, single_window, stepped, stepped_from, with_plain_value, with_taken, without_named}
pub use Rattle.ss_model.specs.Tiling.{AreNeighbours, AreWindows, StandFrom}
pub use Rattle.ss_model.specs.Truth.{RiseAtFree, true_count, true_greatest, true_least, true_presence, true_sum}
pub use Rattle.ss_model.specs.WholeSteps.{AreWholeSteps, HasWholeRows, IsWithin, reached_by, reached_in}
pub use Rattle.ss_model.specs.Windows.{newest_time, stretches, taken, time_at, time_of_last, windows}
pub use Rattle.ss_model.specs.declared.newest.Known.{Known}
pub use Rattle.ss_model.specs.declared.newest.Newest.{Newest}
pub use Rattle.ss_model.specs.declared.newest.Newest.TheVariants.{Nothing, Time}
pub use Rattle.ss_model.specs.declared.outcome.Outcome.{Outcome}
pub use Rattle.ss_model.specs.declared.outcome.Outcome.TheVariants.{Has, Sum}
pub use Rattle.ss_model.specs.declared.outcome.Presence.TheVariants.{Absent, Maybe, Present}
pub use Rattle.ss_model.specs.declared.types.TheConstants.{MOST_RECORDS}
pub use Rattle.ss_model.specs.declared.types.Window.{Window}
