-- The words of other files that the proofs of this crate use.
pub use Rattle.std.proofs.Common.{◌≡◌, ◌∙◌, ℕ, ◌+◌, Bool, true, false, ℤ, List, [], ◌∷◌, ◌++◌, Option, Some, None, refl, sym, ap, ap₂, inl, inr, if◌then◌else◌}
pub use Rattle.std.proofs.Common.{map, not, ◌⊎◌, length, Result, Ok, Err, subst, pos, ◌≤◌, OnOk, append_assoc, arith, ◌<◌, take, IsTrue, ⊎_elim, ◌↔◌, IsSome}
pub use Rattle.std.proofs.Common.{IfErr, codes, ◌-◌, ◌*◌, take_all, zero, suc, lit≤, IfSome, min, drop, cond, nat_eq, ◌^◌, ◌≢◌, ◌&&◌, ◌||◌, length-drop, rules}
pub use Rattle.std.proofs.Math.Seq.{take-append-add, take-add, drop-cons}
pub use Rattle.std.proofs.lemmas.Bool.{cases_Bool, cases_lt, cond-true, cond-false, le-leb, lt-leb, lt-ltb, eq-eqb, eqb-true, leb-true, ltb-true, le-ltb}
pub use Rattle.std.proofs.lemmas.Grind.{flat_map-append, common_steps}
pub use Rattle.std.proofs.lemmas.List.{length-map, map-append, append-nil, length-append, take-append-le, drop-drop, drop-map, length-set, take-map}
pub use Rattle.std.proofs.lemmas.List.{length-take-le, take-append-drop, drop_all, take_more}
pub use Rattle.std.proofs.lemmas.List.Elements.{All-head, All-tail, All-cons, All-nil}
pub use Rattle.std.proofs.lemmas.Option.{slice_get_cases, slice_get_within, cond_some, get_or_from_slice_get, slice_get-map, slice_get_read}
pub use Rattle.std.proofs.lemmas.Result.{on_ok_weaker}
pub use Rattle.std.specs.Int.{cast_unsigned, w64}
pub use Rattle.std.specs.List.{last_or, slice_get, list_any}
pub use Rattle.std.specs.Option.{option_copied}
pub use Rattle.std.specs.Prelude.{flat_map, fold, is_some, nat_lt, option_map, ◌+ℤ◌, All, filter, find, nat_le, IsErr, replicate, negsuc, max, slice_set}
pub use Rattle.std.specs.Prelude.{count_by, ⊤, ◌==◌, ◌≤ℤ◌, int_le, sum_by}
pub use Rattle.ss_arguments.specs.Modes.{mode_of, words_of}
pub use Rattle.ss_arguments.specs.declared.mode.Form.{Form}
pub use Rattle.ss_arguments.specs.declared.mode.Form.TheVariants.{Lines, Sessions, Frames, Follow}
pub use Rattle.ss_arguments.specs.declared.mode.Mode.{Mode}
pub use Rattle.ss_arguments.specs.declared.mode.Mode.TheVariants.{Serve, Check, Gen}
pub use Rattle.ss_arguments.specs.declared.mode.Sealing.{Sealing}
pub use Rattle.ss_arguments.specs.declared.mode.Sealing.TheVariants.{Each, Shared}
pub use Rattle.ss_bounds.specs.Extremes.{listed, max_interval, min_interval}
pub use Rattle.ss_bounds.specs.Split.{SplitFigures, greatest_count, least_count, sum_interval}
pub use Rattle.ss_catalog.specs.Events.{event_name}
pub use Rattle.ss_catalog.specs.Names.{same_name, is_name}
pub use Rattle.ss_catalog.specs.Params.{exp, step_number}
pub use Rattle.ss_catalog.specs.Queries.{is_certified, is_guess, series_verb}
pub use Rattle.ss_catalog.specs.Series.{row_query, row_start, rows_of, row_count, whole_query, numbers_from}
pub use Rattle.ss_catalog.specs.declared.event.Event.{Event}
pub use Rattle.ss_catalog.specs.declared.event.Event.TheVariants.{Create, Value, Open, Close, Drop}
pub use Rattle.ss_catalog.specs.declared.params.Params.{Params}
pub use Rattle.ss_catalog.specs.declared.query.End.{End}
pub use Rattle.ss_catalog.specs.declared.query.Kind.{Kind}
pub use Rattle.ss_catalog.specs.declared.query.Query.{Query}
pub use Rattle.ss_catalog.specs.declared.refusal.Refusal.{Refusal}
pub use Rattle.ss_catalog.specs.declared.refusal.Refusal.TheVariants.{Unknown, Range}
pub use Rattle.ss_catalog.specs.declared.series.Series.{Series}
pub use Rattle.ss_certify.proofs.SharpLemmas.{All-named, HasCuts-seen_of, MayBeAnswer-answer, end_asked-answer}
pub use Rattle.ss_certify.specs.Called.{evidence_in, ChecksEvidence}
pub use Rattle.ss_certify.specs.Evidence.{answer_from, with_certified, IsEvidence, end_asked}
pub use Rattle.ss_certify.specs.Made.{certificates_of, evidence_of}
pub use Rattle.ss_certify.specs.Told.{head_of, side_of, told}
pub use Rattle.ss_certify.specs.declared.evidence.Evidence.{Evidence}
pub use Rattle.ss_command.proofs.SayLemmas.{meant-sayable}
pub use Rattle.ss_command.specs.Grammar.{meaning, ◌>>=◌, name_of, is_comment}
pub use Rattle.ss_command.specs.LineState.{unless_long, Kept, kept, ended_line}
pub use Rattle.ss_command.specs.Lines.{lines, lines_so_far, unended, unless_empty, without_return}
pub use Rattle.ss_command.specs.Printed.{IsSayable, takes_value, IsStepOfNumber, printed, spaced, target_words}
pub use Rattle.ss_command.specs.Words.{first_word, is_word, rest_of, words}
pub use Rattle.ss_command.specs.declared.TheConstants.{LONGEST_LINE, LINE_END}
pub use Rattle.ss_command.specs.declared.command.Command.{Command}
pub use Rattle.ss_command.specs.declared.command.Command.TheVariants.{Do, Ask, Certify, Last, Values, Windows}
pub use Rattle.ss_command.specs.declared.line_reader.Ended.{Ended}
pub use Rattle.ss_frames.proofs.FrameLemmas.{SpellsFrame-frame_in, IsValidFrame-test, frame_in-spelling}
pub use Rattle.ss_frames.proofs.PieceLemmas.{pieces-frames, pieces-front, pieces_so_far-append}
pub use Rattle.ss_frames.specs.Frame.{FrameState, IsValidFrame, frame_in, frame_spelled, is_valid_frame}
pub use Rattle.ss_frames.specs.Pieces.{pieces, unended_piece}
pub use Rattle.ss_journal.proofs.ShownLemmas.{shown-sealed}
pub use Rattle.ss_journal.specs.Kept.{IsSealed, shown}
pub use Rattle.ss_landmarks.specs.Free.{is_free}
pub use Rattle.ss_landmarks.specs.Landmark.{Landmark, LandmarkValue, all_values}
pub use Rattle.ss_landmarks.specs.ValuesIn.{values_between}
pub use Rattle.ss_line.specs.Line.{StandsIn, index_of, place_at}
pub use Rattle.ss_model.proofs.AnswerLemmas.{answer-known, answer-ends, answer-exact, answer-holds, answer-kind}
pub use Rattle.ss_model.proofs.EventLemmas.{after_last-push_yes, given_to-created, given_to-event, given_to-other}
pub use Rattle.ss_model.proofs.HistoryLemmas.{by_pushes, GoesOn-push, IsHistory_push, IsState-state}
pub use Rattle.ss_model.proofs.NameLemmas.{same_name-same, same_name-Decides}
pub use Rattle.ss_model.proofs.OriginLemmas.{history-old, state-old}
pub use Rattle.ss_model.proofs.RowLemmas.{row-answered, row-known, row-taken}
pub use Rattle.ss_model.specs.Answers.{answer_of, refuses_query, outcome_of, HasEnds, HoldsPresence, HoldsTruth, IsExactOutcome, IsOfKind, interval_query}
pub use Rattle.ss_model.specs.Answers.{split_by, answer_of_kind}
pub use Rattle.ss_model.specs.History.{added, Happened, creates, given_after, given_to, is_for, nothing_given, CanBeSaid, marked_of, values_of, landmarks_of}
pub use Rattle.ss_model.specs.Interval.{is_apart, is_whole, is_extreme, is_split, may_have, may_reach, presence_of, split_figures, split_windows}
pub use Rattle.ss_model.specs.Marks.{later, latest_of, marked_values}
pub use Rattle.ss_model.specs.Newest.{known_exactly, known_in, newer, newest_in, newest_of, newest_told, refuses_values}
pub use Rattle.ss_model.specs.Origins.{unfiltered_stream, unfiltered_window, as_old}
pub use Rattle.ss_model.specs.Refusals.{first_that_applies, refuses, stands, IsHistory, refuses_reading}
pub use Rattle.ss_model.specs.Series.{refuses_series, AnswersRow}
pub use Rattle.ss_model.specs.Shown.{placed_of, row_of}
pub use Rattle.ss_model.specs.State.{Stream, last_time, state, stream_named, Created, standing, standing_after, stream_after, stream_numbered}
pub use Rattle.ss_model.specs.Steps.{ack_of, stepped}
pub use Rattle.ss_model.specs.Truth.{true_presence, is_one_of}
pub use Rattle.ss_model.specs.Windows.{newest_time, taken, time_of_last}
pub use Rattle.ss_model.specs.declared.newest.Newest.{Newest}
pub use Rattle.ss_model.specs.declared.outcome.Outcome.{Outcome}
pub use Rattle.ss_model.specs.declared.outcome.Outcome.TheVariants.{Has, Count, Sum, Min, Max, Mean, Estimate, MeanEstimate}
pub use Rattle.ss_model.specs.declared.outcome.Presence.{Presence}
pub use Rattle.ss_model.specs.declared.outcome.Presence.TheVariants.{Maybe, Absent, Present}
pub use Rattle.ss_model.specs.declared.types.Ack.{Ack}
pub use Rattle.ss_model.specs.declared.types.Placed.{Placed}
pub use Rattle.ss_outside.proofs.CrashLemmas.{at_start, joined, of_content, weaker, reads-none, nothing_pending-same, read_leaves, now, reads-joined}
pub use Rattle.ss_outside.proofs.StepLemmas.{step-none, step-then, step-as}
pub use Rattle.ss_outside.specs.Crash.{KnowsNow, LeavesOnly, OnlyReads}
pub use Rattle.ss_outside.specs.Disk.{DiskView, NothingPending, Told, OfContent, WhereTold, Between}
pub use Rattle.ss_outside.specs.Source.{Moves, RoseBy}
pub use Rattle.ss_outside.specs.Step.{Step}
pub use Rattle.ss_outside.specs.Verdict.{Counted, Rose, fine, Verdict, verdict, failed}
pub use Rattle.ss_outside.specs.declared.source.Failed.{Failed}
pub use Rattle.ss_targets.specs.Power.{power_length}
pub use Rattle.ss_program.specs.Amid.{Amid, AreOwed, GoesAmid, HasRoomForReply, IsAmid, IsAtRest, IsReadyToServe, TakesFurther, TakesNone, one_line_more}
pub use Rattle.ss_program.specs.Amid.{owed_by, with_text, Owed}
pub use Rattle.ss_program.specs.Amid.{StagesBrought, TakesTurn, amid, between, owing, input_run_state, OfAmid, TakesBytes, TakesLast, StagesFramed}
pub use Rattle.ss_program.specs.Amid.{TakesStarved, staged_replies}
pub use Rattle.ss_program.specs.Answer.{IsOpen, IsServing, at_sink, SendsRows, IsOneReply, ReadsAnswer, Shows}
pub use Rattle.ss_program.specs.Answer.{IsTextBrought, HasRows, question_command}
pub use Rattle.ss_program.specs.Certifying.{HasEvidence, IsSharp}
pub use Rattle.ss_program.specs.Checked.{ChecksStore, survey_line, Checks}
pub use Rattle.ss_program.specs.Cursor.{order_in, Ordered, close_brings, closes_cursor, leaves_cursors, next_brings, open_brings, opens_cursor, placed_rows}
pub use Rattle.ss_program.specs.Cursor.{showing}
pub use Rattle.ss_program.specs.Cursor.{unless_unopened, order_brings}
pub use Rattle.ss_program.specs.Devices.{Devices, over}
pub use Rattle.ss_program.specs.Ending.{Completes, Ends, HasNumbers, IsRefusedContent, IsUnfed, Refuses, served_by, Feeds, Rejects, Unfed, serving, Serving}
pub use Rattle.ss_program.specs.Generated.{Generates, generated_lines, StandsForAll, StandsForGenerated, summary, first_lines, is_done, is_refused, last_six}
pub use Rattle.ss_program.specs.Generated.{summary_lines, GeneratesFrom}
pub use Rattle.ss_program.specs.Held.{HoldsAcked, StandsShortForFirst, acks, StandsForFirst}
pub use Rattle.ss_program.specs.Line.{Brought, History, answer_replies, brings, certified, command_brings, history_after, line_text, meaning_brings}
pub use Rattle.ss_program.specs.Line.{newest_replies, only_replies, row_shown, series_rows, stream_rows, text_brought, the_event, unless_refused, values_shown}
pub use Rattle.ss_program.specs.Line.{windows_shown, accepted_in, command_in, framed_replies, brings_in, kept_in, meaning_in, refused, text_said, window_rows}
pub use Rattle.ss_program.specs.Line.{nothing, accepted_frame, due_brings, frame_brings, frame_replies, value_rows, IsSpeaker, event_asked}
pub use Rattle.ss_program.specs.Outcome.{HoldsBy, steps_within, Serves, TakesFew, NotBegun, Reads, Reports, Stopped, Took, HoldsReported, Moved, ReadsPiece}
pub use Rattle.ss_program.specs.Outcome.{ServesInput}
pub use Rattle.ss_program.specs.Progress.{NoneWait, InputRunState, StandsBeyond, StandsWithin, StopsIn, sealing_by, HoldsTalk, BeginsWithWant, HasTaken}
pub use Rattle.ss_program.specs.Progress.{StopsAmong, StandsAround, IsAlone, EndsInputRun, HasReplied, TakesPiece, EndsWell, GoesOn}
pub use Rattle.ss_program.specs.Reading.{StepState, TellsStep, most_read, step_under_way}
pub use Rattle.ss_program.specs.Refused.{AsRefused, refusal_line, status_of_open, SaysRefusal, RefusesStore}
pub use Rattle.ss_program.specs.Sent.{appended, AppendsLess, Sends, SaysLine, AppendsFront, StopsSaying, Puts}
pub use Rattle.ss_program.specs.Series.{IsAnswerIn}
pub use Rattle.ss_program.specs.Report.{plain_after, text_of, after_lines, after_line, accepted, report, report_so_far, replies, NoneCreates}
pub use Rattle.ss_program.specs.Status.{IsApplyStop, IsDiskStop, IsShowStop, IsStop, EndsAs, EndsServing, disk_verdict, exit_number, sink_verdict}
pub use Rattle.ss_program.specs.Status.{source_verdict, ended, Continues}
pub use Rattle.ss_program.specs.Steps.{steps, kept_so_far, kept_step, steps_so_far, is_in_pieces}
pub use Rattle.ss_program.specs.Talk.{plain_talk, Talk, turn_of, Turn, after_turn, silent, turn_brought, begun, begun_over, is_framed, kept_spoken, meant_turn}
pub use Rattle.ss_program.specs.Talk.{turn_in, turn_spoken, writing, event_turn, plain_over, turn_to, kept_framed, kept_offered, kept_turn, turn_said}
pub use Rattle.ss_program.specs.Tally.{HasRun, IsSingle, Tallies, RunsAll}
pub use Rattle.ss_program.specs.Words.{usage}
pub use Rattle.ss_program.specs.declared.answer.Question.{Question}
pub use Rattle.ss_program.specs.declared.replies.Seals.{Seals}
pub use Rattle.ss_program.specs.declared.running.TheConstants.{LONGEST_INPUT}
pub use Rattle.ss_program.specs.declared.staging.Staged.{Staged}
pub use Rattle.ss_program.specs.declared.status.Status.{Status}
pub use Rattle.ss_program.specs.declared.status.Status.TheVariants.{OutOfMemory, Done, Usage, RefusedStore, DiskFault, SourceFault, SinkFault, InputLimit}
pub use Rattle.ss_program.specs.declared.status.Status.TheVariants.{RecordChanged}
pub use Rattle.ss_program.specs.declared.talk.Talk.{Talk as TalkState}
pub use Rattle.ss_query.specs.Asked.{joined_with, left_with, right_with, seen_after, seen_count, seen_of, seen_sum, seen_with, whole_with}
pub use Rattle.ss_query.specs.declared.asking.Seen.{Seen}
pub use Rattle.ss_query.specs.declared.cut.Cut.{Cut}
pub use Rattle.ss_records.specs.Kept.{shown_by, RecordsState}
pub use Rattle.ss_replica.specs.Offers.{due_in, added_event, after_offer, after_offers, next_offered, offered, offered_as, offers}
pub use Rattle.ss_replica.specs.Own.{event_frame, frame_of, step_of_event}
pub use Rattle.ss_replica.specs.declared.judging.Due.{Due}
pub use Rattle.ss_replica.specs.declared.judging.Due.TheVariants.{Next, Gap}
pub use Rattle.ss_report.specs.Text.{reply_line, said_line, answer_kind, answer_words, frame_word, newest_words, run_words, spaced_line}
pub use Rattle.ss_report.specs.declared.reply.Reply.{Reply}
pub use Rattle.ss_report.specs.declared.reply.Reply.TheVariants.{Refused, SeriesHead, WindowsHead, ListHead, Answered, Cursor, Window, Rows, Row, ValuesHead}
pub use Rattle.ss_report.specs.declared.reply.Reply.TheVariants.{CertifyHead, Side, Closed, Framed}
pub use Rattle.ss_sessions.specs.Cursors.{Cursors, cursor_of, cursor_rows, flattened, cursor_opened, with_cursor, no_cursors, cursor_refusals}
pub use Rattle.ss_sessions.specs.Errors.{refusal_of}
pub use Rattle.ss_sessions.specs.Grammar.{asked_of, cursor_close_of, cursor_form_of, cursor_next_of, cursor_open_of, order_said, spoken_of, session_of}
pub use Rattle.ss_sessions.specs.Grammar.{spoken_to, spoken_words}
pub use Rattle.ss_sessions.specs.declared.order.Order.{Order}
pub use Rattle.ss_sessions.specs.declared.order.Spoken.{Spoken}
pub use Rattle.ss_sessions.specs.declared.order.Spoken.TheVariants.{Nothing, Unaddressed, To}
pub use Rattle.ss_store.proofs.AskedStreams.{refuses_query_held-is, named-found, named-missing, refuses_query_held-known, refuses_query_held-unknown}
pub use Rattle.ss_store.proofs.Extents.{length-uses}
pub use Rattle.ss_store.proofs.FoundAlike.{refuses-kept, said-kept, streams-kept, windows-kept, found-kept, unknown-kept}
pub use Rattle.ss_store.proofs.KeptStates.{AllAgree-recovered, Recovers-StoreIsIn}
pub use Rattle.ss_store.proofs.ReadRefusals.{refuses_reading_held-is, refuses_values_held-is}
pub use Rattle.ss_store.proofs.Unformed.{Stands-unformed}
pub use Rattle.ss_store.proofs.Uses.{IsShort-more, both}
pub use Rattle.ss_store.specs.Asked.{refuses_query_held}
pub use Rattle.ss_store.specs.Calls.{StandsForEither, TurnsHistory, SealsHistory}
pub use Rattle.ss_store.specs.Causes.{OpensAs}
pub use Rattle.ss_store.specs.Kept.{StoreState, StoreIsKept, StoreIsIn, part_named, refuses_held, SomeAgree, part_numbered}
pub use Rattle.ss_store.specs.Newest.{refuses_reading_held, refuses_values_held}
pub use Rattle.ss_store.specs.Recover.{Recovers, Stands, recovers, Recovered, damaged_entry, damaged_slot, damaged_stream, no_store, recover}
pub use Rattle.ss_store.specs.Surveyed.{SurveysAs, survey_of}
pub use Rattle.ss_store.specs.Uses.{StandsShort, most_needed, IsShort}
pub use Rattle.ss_store.specs.declared.error.ApplyError.{ApplyError}
pub use Rattle.ss_store.specs.declared.error.OpenError.{OpenError}
pub use Rattle.ss_store.specs.declared.surveying.Survey.{Survey}
pub use Rattle.ss_summary.specs.Points.{Origin, New, Point, Old}
pub use Rattle.ss_targets.specs.Windowing.{window_index}
pub use Rattle.ss_stream.proofs.Within.{UsesAtMost-more}
pub use Rattle.ss_stream.specs.Calls.{KeepsWithin, Turns, UsesAtMost}
