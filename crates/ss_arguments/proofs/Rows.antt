-- Rows of the constants and of the definitions, each computed.
use Rattle.std.proofs.Common.{◌≡◌, true, false, ℕ, ◌-◌, ◌^◌, List, [], ◌∷◌, ◌++◌, Option, Some, None, refl}
use Rattle.std.specs.Prelude.{codes, replicate}
use Rattle.ss_fields.specs.Words.{is_number, number_of, number_up_to}
use Rattle.ss_arguments.specs.declared.TheConstants.{MOST_DIGITS}
use Rattle.ss_arguments.specs.declared.mode.Mode.{Mode}
use Rattle.ss_arguments.specs.declared.mode.Mode.TheVariants.{Serve, Check, Gen}
use Rattle.ss_arguments.specs.declared.mode.Form.TheVariants.{Lines, Sessions, Frames, Follow}
use Rattle.ss_arguments.specs.declared.mode.Sealing.TheVariants.{Each, Shared}
use Rattle.ss_arguments.specs.Modes.{are_refused_at_once, mode_of, number_between}

most_digits : MOST_DIGITS ≡ 20
most_digits = refl

-- the mode of `p s`, with these words after it
abbrev mode_after : List (List ℕ) → Option Mode
mode_after arguments = mode_of (codes "p" ∷ codes "s" ∷ arguments)

-- the mode of `p s gen`, with these words after it
abbrev gen_after : List ℕ → List ℕ → Option Mode
gen_after seed count = mode_after (codes "gen" ∷ seed ∷ count ∷ [])

-- a 1 with that many zeros before it
abbrev padded_one : ℕ → List ℕ
padded_one zeros = replicate zeros 48 ++ codes "1"

no_words : mode_of [] ≡ None
no_words = refl

no_path : mode_of (codes "p" ∷ []) ≡ None
no_path = refl

path_alone : mode_after [] ≡ Some (Serve (Lines false) Each)
path_alone = refl

run_word : mode_after (codes "run" ∷ []) ≡ Some (Serve (Lines false) Each)
run_word = refl

batch_word : mode_after (codes "batch" ∷ []) ≡ Some (Serve (Lines false) Shared)
batch_word = refl

framed_word : mode_after (codes "framed" ∷ []) ≡ Some (Serve (Lines true) Each)
framed_word = refl

framed_and_batch : mode_after (codes "framed" ∷ codes "batch" ∷ []) ≡ Some (Serve (Lines true) Shared)
framed_and_batch = refl

sessions_word : mode_after (codes "sessions" ∷ []) ≡ Some (Serve (Sessions false) Each)
sessions_word = refl

sessions_and_batch : mode_after (codes "sessions" ∷ codes "batch" ∷ []) ≡ Some (Serve (Sessions false) Shared)
sessions_and_batch = refl

sessions_and_framed : mode_after (codes "sessions" ∷ codes "framed" ∷ []) ≡ Some (Serve (Sessions true) Each)
sessions_and_framed = refl

sessions_framed_and_batch : mode_after (codes "sessions" ∷ codes "framed" ∷ codes "batch" ∷ []) ≡ Some (Serve (Sessions true) Shared)
sessions_framed_and_batch = refl

frames_word : mode_after (codes "frames" ∷ []) ≡ Some (Serve Frames Each)
frames_word = refl

frames_and_batch : mode_after (codes "frames" ∷ codes "batch" ∷ []) ≡ Some (Serve Frames Shared)
frames_and_batch = refl

follow_word : mode_after (codes "follow" ∷ []) ≡ Some (Serve Follow Each)
follow_word = refl

follow_and_batch : mode_after (codes "follow" ∷ codes "batch" ∷ []) ≡ Some (Serve Follow Shared)
follow_and_batch = refl

check_word : mode_after (codes "check" ∷ []) ≡ Some Check
check_word = refl

-- the path may be any word
path_with_hyphen : mode_of (codes "p" ∷ codes "-s" ∷ []) ≡ Some (Serve (Lines false) Each)
path_with_hyphen = refl

-- other words ask for nothing
run_in_capitals : mode_after (codes "RUN" ∷ []) ≡ None
run_in_capitals = refl

batch_in_capitals : mode_after (codes "BATCH" ∷ []) ≡ None
batch_in_capitals = refl

batch_cut_short : mode_after (codes "batc" ∷ []) ≡ None
batch_cut_short = refl

batch_and_a_letter : mode_after (codes "batchs" ∷ []) ≡ None
batch_and_a_letter = refl

sessions_in_capitals : mode_after (codes "SESSIONS" ∷ []) ≡ None
sessions_in_capitals = refl

sessions_cut_short : mode_after (codes "session" ∷ []) ≡ None
sessions_cut_short = refl

sessions_and_a_letter : mode_after (codes "sessionss" ∷ []) ≡ None
sessions_and_a_letter = refl

empty_word : mode_after ([] ∷ []) ≡ None
empty_word = refl

help : mode_after (codes "--help" ∷ []) ≡ None
help = refl

gen_alone : mode_after (codes "gen" ∷ []) ≡ None
gen_alone = refl

gen_without_count : mode_after (codes "gen" ∷ codes "1" ∷ []) ≡ None
gen_without_count = refl

batch_and_more : mode_after (codes "batch" ∷ codes "x" ∷ []) ≡ None
batch_and_more = refl

batch_and_sessions : mode_after (codes "batch" ∷ codes "sessions" ∷ []) ≡ None
batch_and_sessions = refl

run_and_batch : mode_after (codes "run" ∷ codes "batch" ∷ []) ≡ None
run_and_batch = refl

check_and_batch : mode_after (codes "check" ∷ codes "batch" ∷ []) ≡ None
check_and_batch = refl

sessions_and_run : mode_after (codes "sessions" ∷ codes "run" ∷ []) ≡ None
sessions_and_run = refl

sessions_and_sessions : mode_after (codes "sessions" ∷ codes "sessions" ∷ []) ≡ None
sessions_and_sessions = refl

sessions_and_batch_cut_short : mode_after (codes "sessions" ∷ codes "batc" ∷ []) ≡ None
sessions_and_batch_cut_short = refl

sessions_and_nothing : mode_after (codes "sessions" ∷ [] ∷ []) ≡ None
sessions_and_nothing = refl

sessions_twice_batch : mode_after (codes "sessions" ∷ codes "batch" ∷ codes "batch" ∷ []) ≡ None
sessions_twice_batch = refl

sessions_and_numbers : mode_after (codes "sessions" ∷ codes "1" ∷ codes "1" ∷ []) ≡ None
sessions_and_numbers = refl

batch_and_framed : mode_after (codes "batch" ∷ codes "framed" ∷ []) ≡ None
batch_and_framed = refl

frames_and_framed : mode_after (codes "frames" ∷ codes "framed" ∷ []) ≡ None
frames_and_framed = refl

follow_and_framed : mode_after (codes "follow" ∷ codes "framed" ∷ []) ≡ None
follow_and_framed = refl

frames_framed_and_batch : mode_after (codes "frames" ∷ codes "framed" ∷ codes "batch" ∷ []) ≡ None
frames_framed_and_batch = refl

follow_framed_and_batch : mode_after (codes "follow" ∷ codes "framed" ∷ codes "batch" ∷ []) ≡ None
follow_framed_and_batch = refl

run_and_framed : mode_after (codes "run" ∷ codes "framed" ∷ []) ≡ None
run_and_framed = refl

framed_and_run : mode_after (codes "framed" ∷ codes "run" ∷ []) ≡ None
framed_and_run = refl

framed_and_framed : mode_after (codes "framed" ∷ codes "framed" ∷ []) ≡ None
framed_and_framed = refl

framed_and_sessions : mode_after (codes "framed" ∷ codes "sessions" ∷ []) ≡ None
framed_and_sessions = refl

framed_and_frames : mode_after (codes "framed" ∷ codes "frames" ∷ []) ≡ None
framed_and_frames = refl

framed_and_follow : mode_after (codes "framed" ∷ codes "follow" ∷ []) ≡ None
framed_and_follow = refl

framed_twice_and_batch : mode_after (codes "framed" ∷ codes "framed" ∷ codes "batch" ∷ []) ≡ None
framed_twice_and_batch = refl

framed_and_batch_twice : mode_after (codes "framed" ∷ codes "batch" ∷ codes "batch" ∷ []) ≡ None
framed_and_batch_twice = refl

sessions_batch_and_framed : mode_after (codes "sessions" ∷ codes "batch" ∷ codes "framed" ∷ []) ≡ None
sessions_batch_and_framed = refl

sessions_framed_twice : mode_after (codes "sessions" ∷ codes "framed" ∷ codes "framed" ∷ []) ≡ None
sessions_framed_twice = refl

sessions_framed_batch_and_more : mode_after (codes "sessions" ∷ codes "framed" ∷ codes "batch" ∷ codes "x" ∷ []) ≡ None
sessions_framed_batch_and_more = refl

sessions_and_frames : mode_after (codes "sessions" ∷ codes "frames" ∷ []) ≡ None
sessions_and_frames = refl

frames_and_sessions : mode_after (codes "frames" ∷ codes "sessions" ∷ []) ≡ None
frames_and_sessions = refl

frames_and_follow : mode_after (codes "frames" ∷ codes "follow" ∷ []) ≡ None
frames_and_follow = refl

follow_and_run : mode_after (codes "follow" ∷ codes "run" ∷ []) ≡ None
follow_and_run = refl

check_and_framed : mode_after (codes "check" ∷ codes "framed" ∷ []) ≡ None
check_and_framed = refl

frames_cut_short : mode_after (codes "frame" ∷ []) ≡ None
frames_cut_short = refl

frames_and_a_letter : mode_after (codes "framess" ∷ []) ≡ None
frames_and_a_letter = refl

frames_in_capitals : mode_after (codes "FRAMES" ∷ []) ≡ None
frames_in_capitals = refl

framed_in_capitals : mode_after (codes "FRAMED" ∷ []) ≡ None
framed_in_capitals = refl

framed_cut_short : mode_after (codes "frame" ∷ codes "batch" ∷ []) ≡ None
framed_cut_short = refl

follow_cut_short : mode_after (codes "follo" ∷ []) ≡ None
follow_cut_short = refl

follow_and_a_letter : mode_after (codes "follows" ∷ []) ≡ None
follow_and_a_letter = refl

follow_in_capitals : mode_after (codes "FOLLOW" ∷ []) ≡ None
follow_in_capitals = refl

follow_and_nothing : mode_after (codes "follow" ∷ [] ∷ []) ≡ None
follow_and_nothing = refl

frames_and_numbers : mode_after (codes "frames" ∷ codes "1" ∷ codes "1" ∷ []) ≡ None
frames_and_numbers = refl

check_and_more : mode_after (codes "check" ∷ codes "x" ∷ []) ≡ None
check_and_more = refl

run_and_numbers : mode_after (codes "run" ∷ codes "1" ∷ codes "1" ∷ []) ≡ None
run_and_numbers = refl

batch_and_numbers : mode_after (codes "batch" ∷ codes "1" ∷ codes "1" ∷ []) ≡ None
batch_and_numbers = refl

gen_and_more : mode_after (codes "gen" ∷ codes "1" ∷ codes "1" ∷ codes "1" ∷ []) ≡ None
gen_and_more = refl

-- the numbers of `gen`
gen-ones : gen_after (codes "1") (codes "1") ≡ Some (Gen 1 1)
unfolding number_between number_up_to is_number number_of
gen-ones = refl

gen-count_zero : gen_after (codes "1") (codes "0") ≡ None
unfolding number_between number_up_to is_number number_of
gen-count_zero = refl

gen-most_count : gen_after (codes "0") (codes "100000") ≡ Some (Gen 0 100000)
unfolding number_between number_up_to is_number number_of
gen-most_count = refl

gen-count_past_most : gen_after (codes "0") (codes "100001") ≡ None
unfolding number_between number_up_to is_number number_of
gen-count_past_most = refl

gen-greatest_seed : gen_after (codes "18446744073709551615") (codes "1") ≡ Some (Gen (2 ^ 64 - 1) 1)
unfolding number_between number_up_to is_number number_of
gen-greatest_seed = refl

gen-seed_past_greatest : gen_after (codes "18446744073709551616") (codes "1") ≡ None
unfolding number_between number_up_to is_number number_of
gen-seed_past_greatest = refl

gen-twenty_digits : gen_after (padded_one 19) (padded_one 19) ≡ Some (Gen 1 1)
unfolding number_between number_up_to is_number number_of
gen-twenty_digits = refl

gen-seed_of_more_digits : gen_after (padded_one 20) (codes "1") ≡ None
unfolding number_between number_up_to is_number number_of
gen-seed_of_more_digits = refl

gen-count_of_more_digits : gen_after (codes "1") (padded_one 20) ≡ None
unfolding number_between number_up_to is_number number_of
gen-count_of_more_digits = refl

gen-sign : gen_after (codes "+1") (codes "1") ≡ None
unfolding number_between number_up_to is_number number_of
gen-sign = refl

gen-minus : gen_after (codes "1") (codes "-1") ≡ None
unfolding number_between number_up_to is_number number_of
gen-minus = refl

gen-no_digits : gen_after [] (codes "1") ≡ None
unfolding number_between number_up_to is_number number_of
gen-no_digits = refl

-- what is refused at a glance: no path, or an option after it
at_once-no_words : are_refused_at_once [] ≡ true
at_once-no_words = refl

at_once-no_path : are_refused_at_once (codes "p" ∷ []) ≡ true
at_once-no_path = refl

at_once-path : are_refused_at_once (codes "p" ∷ codes "-s" ∷ []) ≡ false
at_once-path = refl

at_once-option : are_refused_at_once (codes "p" ∷ codes "s" ∷ codes "gen" ∷ codes "-x" ∷ []) ≡ true
at_once-option = refl

at_once-unknown : are_refused_at_once (codes "p" ∷ codes "s" ∷ codes "Run" ∷ []) ≡ false
at_once-unknown = refl
