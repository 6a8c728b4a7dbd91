-- Worked rows of the session, and the numbers of its rules.
use Rattle.ss_program.proofs.Common.{false, ◌≡◌, ◌∙◌, ◌^◌, ◌++◌, [], ◌∷◌, ap, arith, lit≤, refl, sym, ◌≢◌, ℕ, true, List, Option, Some, None, Result, Ok, codes}
use Rattle.ss_program.proofs.Common.{map, pos, negsuc, flat_map, All-cons, All-nil, Create, Value, Drop, Params, exp, Refusal, lines, Command, Do, Happened}
use Rattle.ss_program.proofs.Common.{added, no_store, damaged_entry, damaged_slot, damaged_stream, recovers, Count, Sum, Min, Max, Answered}
use Rattle.ss_targets.specs.Power.{power_length}
use Rattle.ss_program.proofs.Common.{Refused, ListHead, survey_line, summary_lines, acks, Lines, steps_within, refusal_line, status_of_open, NoneCreates}
use Rattle.ss_program.proofs.Common.{accepted, plain_after, report, exit_number, plain_talk, turn_of, usage, no_cursors, LONGEST_INPUT, Done, Usage}
use Rattle.ss_program.proofs.Common.{RefusedStore}
use Rattle.ss_program.proofs.Common.{DiskFault, SourceFault, SinkFault, OutOfMemory, InputLimit, RecordChanged}
use Rattle.std.specs.Fmt.{digits}
use Rattle.ss_catalog.specs.Names.{is_name}
use Rattle.ss_command.specs.Grammar.{meaning}
use Rattle.ss_command.specs.Lines.{ended_lines, unended}
use Rattle.ss_command.specs.Words.{words}
use Rattle.ss_fields.specs.Words.{is_number, number_of, number_up_to, signed_of}
use Rattle.ss_bounds.specs.Split.{sum_interval}
use Rattle.ss_bounds.specs.declared.extreme.Extreme.TheVariants.{Nothing}
use Rattle.ss_model.specs.Answers.{outcome_of, refuses_query}
use Rattle.ss_model.specs.Refusals.{refuses, refuses_reading}
use Rattle.ss_model.specs.State.{state}
use Rattle.ss_targets.specs.Windowing.{window_index}
use Rattle.ss_report.specs.declared.reply.Reply.TheVariants.{Done as AckLine}
use Rattle.ss_catalog.specs.declared.refusal.Refusal.TheVariants as refusal
use Rattle.ss_store.specs.declared.error.OpenError.TheVariants as opening

longest_input : LONGEST_INPUT ≡ 2 ^ 36
longest_input = refl

-- lines, each with its line end
abbrev text : List (List ℕ) → List ℕ
text ls = flat_map (λ line. line ++ 10 ∷ []) ls

-- a stream and seven readings, and what is shown of them
abbrev readings : List ℕ
readings =
    text (codes "create a exp 2 1 1" ∷ codes "append a 10 5" ∷ codes "append a 20 -3" ∷ codes "append a 30 8" ∷ codes "append a 40 1"
    ∷ codes "append a 50 9" ∷ codes "append a 60 2" ∷ codes "append a 70 7" ∷ codes "windows a" ∷ codes "list" ∷ [])

report-readings : report (plain_talk []) readings
    ≡ text (codes "ok 0 0" ∷ codes "ok 1 1" ∷ codes "ok 2 2" ∷ codes "ok 3 2" ∷ codes "ok 4 3" ∷ codes "ok 5 3" ∷ codes "ok 6 4"
    ∷ codes "ok 7 3"
    ∷ codes "windows 3" ∷ codes "1 4 4 11 -3 8 10 40" ∷ codes "5 6 2 11 2 9 50 60" ∷ codes "7 7 1 7 7 7 70 70"
    ∷ codes "list 1" ∷ codes "a exp 2 1 1 7 3 0 0" ∷ [])
unfolding ended_lines unended meaning words is_number number_of number_up_to signed_of is_name state refuses refuses_reading window_index digits
report-readings = refl

-- their events
abbrev history : List Happened
history = map added (
    Create (codes "a") (exp 2 1 1) ∷ Value (codes "a") 10 (pos 5) ∷ Value (codes "a") 20 (negsuc 2) ∷ Value (codes "a") 30 (pos 8)
    ∷ Value (codes "a") 40 (pos 1) ∷ Value (codes "a") 50 (pos 9) ∷ Value (codes "a") 60 (pos 2) ∷ Value (codes "a") 70 (pos 7) ∷ [])

accepted-readings : accepted (plain_talk []) (lines readings) ≡ history
unfolding ended_lines unended meaning words is_number number_of number_up_to signed_of is_name state refuses refuses_reading window_index
accepted-readings = refl

-- after that history: each refusal, lines that are no command, and two lines that are taken, the last one without a line end
abbrev mistakes : List ℕ
mistakes =
    text (codes "create a exp 2 1 1" ∷ codes "create a exp 1 1 1" ∷ codes "append x 1 1" ∷ codes "append x y 1" ∷ codes "append x! 1 1"
    ∷ codes "append a 70 1" ∷ codes "windows" ∷ codes "windows x" ∷ [] ∷ codes "# note" ∷ codes "create b exp 2 1 4" ∷ [])
    ++ codes "append a 80 -1"

report-mistakes : report (plain_talk history) mistakes
    ≡ text (codes "refused EXISTS" ∷ codes "refused PARAM" ∷ codes "refused UNKNOWN" ∷ codes "refused NUMBER" ∷ codes "refused NAME"
    ∷ codes "refused TIME" ∷ codes "refused SYNTAX" ∷ codes "refused UNKNOWN" ∷ codes "ok 0 0" ∷ codes "ok 8 4" ∷ [])
unfolding ended_lines unended meaning words is_number number_of number_up_to signed_of is_name state refuses refuses_reading window_index digits
report-mistakes = refl

after_lines-mistakes : plain_after history (lines mistakes) ≡ history ++ map added (Create (codes "b") (exp 2 1 4) ∷ Value (codes "a") 80 (negsuc 0) ∷ [])
unfolding ended_lines unended meaning words is_number number_of number_up_to signed_of is_name state refuses refuses_reading window_index
after_lines-mistakes = refl

-- what a line brings after that history: an event may want memory, and a refused one and a query don't
turn-append : turn_of (plain_talk history) (codes "append a 80 1")
    ≡ record { says = codes "ok 8 4" ++ 10 ∷ []; event = Some (Value (codes "a") 80 (pos 1)); cursors = no_cursors; wants_memory = true }
unfolding meaning words is_number number_of number_up_to signed_of is_name state refuses window_index digits
turn-append = refl

turn-refused : turn_of (plain_talk history) (codes "append a 70 1")
    ≡ record { says = codes "refused TIME" ++ 10 ∷ []; event = None; cursors = no_cursors; wants_memory = false }
unfolding meaning words is_number number_of number_up_to signed_of is_name state refuses window_index
turn-refused = refl

turn-query : turn_of (plain_talk history) (codes "query a count 10 40")
    ≡ record { says = codes "count 4 4" ++ 10 ∷ []; event = None; cursors = no_cursors; wants_memory = false }
unfolding meaning words is_number number_of number_up_to signed_of is_name state refuses_query outcome_of sum_interval window_index digits
turn-query = refl

-- after that history: its stream is dropped, and created again
abbrev drops : List ℕ
drops =
    text (codes "drop a" ∷ codes "list" ∷ codes "drop a" ∷ codes "query a count 0 100" ∷ codes "windows a" ∷ codes "append a 80 1"
    ∷ codes "create a exp 2 1 1" ∷ codes "append a 5 1" ∷ codes "query a count 0 100" ∷ codes "drop a b" ∷ codes "drop a!" ∷ [])

report-drops : report (plain_talk history) drops
    ≡ text (codes "ok 0 0" ∷ codes "list 0" ∷ codes "refused UNKNOWN" ∷ codes "refused UNKNOWN" ∷ codes "refused UNKNOWN" ∷ codes "refused UNKNOWN"
    ∷ codes "ok 0 0" ∷ codes "ok 1 1" ∷ codes "count 1 1" ∷ codes "refused SYNTAX" ∷ codes "refused NAME" ∷ [])
unfolding ended_lines unended meaning words is_number number_of number_up_to signed_of is_name state refuses refuses_query refuses_reading outcome_of
    window_index digits
report-drops = refl

accepted-drops : accepted (plain_talk history) (lines drops) ≡ map added (Drop (codes "a") ∷ Create (codes "a") (exp 2 1 1) ∷ Value (codes "a") 5 (pos 1) ∷ [])
unfolding ended_lines unended meaning words is_number number_of number_up_to signed_of is_name state refuses refuses_query refuses_reading outcome_of
    window_index
accepted-drops = refl

-- a line that creates another stream and one that appends don't create a stream, and one that creates it does
means-other : meaning (codes "create b exp 2 1 1") ≡ Ok (Some (Do (Create (codes "b") (exp 2 1 1))))
unfolding meaning words is_number number_of number_up_to is_name
means-other = refl

means-append : meaning (codes "append a 5 1") ≡ Ok (Some (Do (Value (codes "a") 5 (pos 1))))
unfolding meaning words is_number number_of number_up_to signed_of is_name
means-append = refl

means-create : meaning (codes "create a exp 2 1 1") ≡ Ok (Some (Do (Create (codes "a") (exp 2 1 1))))
unfolding meaning words is_number number_of number_up_to is_name
means-create = refl

-- the first byte of the name that is created
abbrev created_byte : Result (Option Command) Refusal → ℕ
created_byte (Ok (Some (Do (Create (byte ∷ bytes) params)))) = byte
created_byte _ = 0

abbrev CreatesNone : List ℕ → Type 0
CreatesNone line = (params : Params) → meaning line ≢ Ok (Some (Do (Create (codes "a") params)))

none-creates : NoneCreates (codes "a") (codes "create b exp 2 1 1" ∷ codes "append a 5 1" ∷ [])
none-creates =
    All-cons CreatesNone (codes "create b exp 2 1 1") (codes "append a 5 1" ∷ [])
    (λ params same. let wrong : 98 ≡ 97 = ap created_byte (sym means-other ∙ same) in omega arith)
    (All-cons CreatesNone (codes "append a 5 1") []
    (λ params same. let wrong : 0 ≡ 97 = ap created_byte (sym means-append ∙ same) in omega arith) (All-nil CreatesNone))

one-creates : NoneCreates (codes "a") (codes "append a 5 1" ∷ codes "create a exp 2 1 1" ∷ []) → ⊥
one-creates none = none 1 [] (lit≤ tt) (exp 2 1 1) means-create

-- after that history: queries where no window is split, one is, or two are, and each refusal of a query
abbrev queries : List ℕ
queries =
    text (codes "query a count 10 40" ∷ codes "query a sum 0 100" ∷ codes "query a max 45 65" ∷ codes "query a min 71 80"
    ∷ codes "query a count 10 25" ∷ codes "query a sum 10 25" ∷ codes "query a min 10 25" ∷ codes "query a min 15 25" ∷ codes "query a count 15 25"
    ∷ codes "query a count 25 55" ∷ codes "query a sum 25 55" ∷ codes "query a min 25 55" ∷ codes "query a max 25 55"
    ∷ codes "query a sum 5 4" ∷ codes "query x sum 5 4" ∷ codes "query a median 5 4" ∷ codes "query a sum 5 x" ∷ codes "query a! sum 5 4" ∷ [])

report-queries : report (plain_talk history) queries
    ≡ text (codes "count 4 4" ∷ codes "sum 29 29" ∷ codes "max 9 9" ∷ codes "min none"
    ∷ codes "count 1 3" ∷ codes "sum -5 16" ∷ codes "min -3 8" ∷ codes "min -3 8 maybe-none" ∷ codes "count 0 2"
    ∷ codes "count 2 4" ∷ codes "sum -3 25" ∷ codes "min -3 8" ∷ codes "max 2 9"
    ∷ codes "refused RANGE" ∷ codes "refused UNKNOWN" ∷ codes "refused SYNTAX" ∷ codes "refused NUMBER" ∷ codes "refused NAME" ∷ [])
unfolding ended_lines unended meaning words is_number number_of number_up_to signed_of is_name state refuses_query outcome_of sum_interval window_index digits
report-queries = refl

-- they add no event
accepted-queries : accepted (plain_talk history) (lines queries) ≡ []
unfolding ended_lines unended meaning words is_number number_of number_up_to signed_of is_name state refuses_query outcome_of sum_interval window_index
accepted-queries = refl

-- another stream: its window is split, but the free times are used up
abbrev close_times : List ℕ
close_times =
    text (codes "create d power 1 0 1 4" ∷ codes "append d 10 4" ∷ codes "append d 11 4" ∷ codes "append d 12 6" ∷ codes "append d 13 6"
    ∷ codes "query d count 10 11" ∷ codes "query d sum 10 11" ∷ [])

report-close_times : report (plain_talk []) close_times
    ≡ text (codes "ok 0 0" ∷ codes "ok 1 1" ∷ codes "ok 2 1" ∷ codes "ok 3 1" ∷ codes "ok 4 1" ∷ codes "count 2 2" ∷ codes "sum 8 12" ∷ [])
unfolding ended_lines unended meaning words is_number number_of number_up_to signed_of is_name state refuses refuses_query outcome_of sum_interval
    power_length window_index digits
report-close_times = refl

-- the last line has ended where nothing is left
steps_within-rest : steps_within (Lines false) (codes "ab" ++ 10 ∷ codes "c") (codes "d") ≡ codes "ab" ∷ []
unfolding ended_lines unended
steps_within-rest = refl

steps_within-end : steps_within (Lines false) (codes "ab" ++ 10 ∷ codes "c") [] ≡ codes "ab" ∷ codes "c" ∷ []
unfolding ended_lines unended
steps_within-end = refl

-- each reply to the readings has 7 bytes: an event is acknowledged with the last of them
acks-none : acks (plain_talk []) (lines readings) 6 ≡ 0
unfolding ended_lines unended meaning words is_number number_of number_up_to signed_of is_name state refuses refuses_reading window_index digits
acks-none = refl

acks-some : acks (plain_talk []) (lines readings) 20 ≡ 2
unfolding ended_lines unended meaning words is_number number_of number_up_to signed_of is_name state refuses refuses_reading window_index digits
acks-some = refl

acks-all : acks (plain_talk []) (lines readings) 56 ≡ 8
unfolding ended_lines unended meaning words is_number number_of number_up_to signed_of is_name state refuses refuses_reading window_index digits
acks-all = refl

-- what is shown after them acknowledges no further event, and refused lines acknowledge none
acks-shown : acks (plain_talk []) (lines readings) 100 ≡ 8
unfolding ended_lines unended meaning words is_number number_of number_up_to signed_of is_name state refuses refuses_reading window_index digits
acks-shown = refl

acks-refused : acks (plain_talk history) (lines mistakes) 120 ≡ 0
unfolding ended_lines unended meaning words is_number number_of number_up_to signed_of is_name state refuses refuses_reading window_index digits
acks-refused = refl

-- what is said of a store that is refused
refusal_line-no_store : refusal_line no_store ≡ Some (codes "not a store" ++ 10 ∷ [])
refusal_line-no_store = refl

refusal_line-entry : refusal_line (damaged_entry 0) ≡ Some (codes "damaged entry 0" ++ 10 ∷ [])
unfolding digits
refusal_line-entry = refl

refusal_line-slot : refusal_line (damaged_slot 1048575) ≡ Some (codes "damaged slot 1048575" ++ 10 ∷ [])
unfolding digits
refusal_line-slot = refl

refusal_line-stream : refusal_line (damaged_stream 6) ≡ Some (codes "damaged stream 6" ++ 10 ∷ [])
unfolding digits
refusal_line-stream = refl

refusal_line-recovers : refusal_line (recovers []) ≡ None
refusal_line-recovers = refl

-- the number of each status
numbers-statuses : map exit_number
    (Done ∷ Usage ∷ RefusedStore ∷ DiskFault ∷ SourceFault ∷ SinkFault ∷ OutOfMemory ∷ InputLimit ∷ RecordChanged ∷ [])
    ≡ 0 ∷ 2 ∷ 3 ∷ 4 ∷ 5 ∷ 6 ∷ 7 ∷ 8 ∷ 9 ∷ []
numbers-statuses = refl

-- the status of each answer of opening
statuses-open : map status_of_open
    (opening.Disk ∷ opening.NotAStore ∷ opening.BadEntry 1 ∷ opening.BadSlot 1 ∷ opening.BadStream 1
    ∷ opening.OutOfMemory ∷ opening.Changed 1 ∷ [])
    ≡ DiskFault ∷ RefusedStore ∷ RefusedStore ∷ RefusedStore ∷ RefusedStore ∷ OutOfMemory ∷ RecordChanged ∷ []
statuses-open = refl

-- what a check says, and a run over a generated file
survey-line : survey_line (record { streams = 1; windows = 2; landmarks = 3; values = 4 })
    ≡ text (codes "sound streams 1 windows 2 landmarks 3 values 4" ∷ [])
unfolding digits
survey-line = refl

summary-replies : summary_lines 1 2 3
    (Refused refusal.Time ∷ map ListHead (1 ∷ 2 ∷ 3 ∷ 4 ∷ []) ++ AckLine (record { n = 7; k = 3 }) ∷ Refused refusal.Time ∷ [])
    ≡ text (codes "gen 1 2" ∷ codes "lines 3" ∷ codes "ok 1" ∷ codes "refused 2" ∷ codes "list 1" ∷ codes "list 2"
    ∷ codes "list 3" ∷ codes "list 4" ∷ codes "ok 7 3" ∷ codes "refused TIME" ∷ [])
unfolding digits
summary-replies = refl

-- answers that are none of the last six are neither accepted nor refused, and those that are are shown
summary-answers : summary_lines 1 2 3
    (Answered (Count 9 9) ∷ AckLine (record { n = 7; k = 3 }) ∷ Answered (Count 1 2) ∷ Answered (Sum (negsuc 2) (pos 5)) ∷ Answered (Count 0 0)
    ∷ Answered (Sum (pos 0) (pos 0)) ∷ Answered (Min Nothing) ∷ Answered (Max Nothing) ∷ [])
    ≡ text (codes "gen 1 2" ∷ codes "lines 3" ∷ codes "ok 1" ∷ codes "refused 0" ∷ codes "count 1 2" ∷ codes "sum -3 5" ∷ codes "count 0 0"
    ∷ codes "sum 0 0" ∷ codes "min none" ∷ codes "max none" ∷ [])
unfolding digits
summary-answers = refl

-- what is said where the arguments aren't known
usage-line : usage ≡ text (codes "usage: summarystore STORE [run | check | gen SEED COUNT | [sessions] [framed] [batch] | frames [batch] | follow [batch]]"
    ∷ [])
usage-line = refl
