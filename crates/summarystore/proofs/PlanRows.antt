-- Worked rows of what the program does, by the words of the command line.
use Rattle.std.proofs.Common.{◌≡◌, ℕ, Bool, true, false, List, [], ◌∷◌, Some, None, map, refl}
use Rattle.std.specs.Prelude.{codes}
use Rattle.ss_arguments.specs.declared.mode.Form.{Form}
use Rattle.ss_arguments.specs.declared.mode.Form.TheVariants.{Lines, Sessions, Frames, Follow}
use Rattle.ss_arguments.specs.declared.mode.Mode.TheVariants.{Serve, Check, Gen}
use Rattle.ss_arguments.specs.declared.mode.Sealing.TheVariants.{Shared}
use Rattle.summarystore.specs.Plan.{asked_words, Planned, Prints, Runs, demand_of, missing_for, notice_of, path_of, planned, status_with}
use Rattle.ss_file.specs.declared.demand.Demand.{Demand}
use Rattle.ss_file.specs.declared.demand.Demand.TheVariants as demand
use Rattle.summarystore.specs.declared.notice.Notice.TheVariants.{Help, Version}
use Rattle.ss_file.specs.declared.opening.Missing.{Missing}
use Rattle.ss_file.specs.declared.opening.Missing.TheVariants.{Make, Fail, ReadEmpty, ReadFail}

-- the words `p s`, and some behind them
abbrev over_s : List (List ℕ) → List (List ℕ)
over_s arguments = codes "p" ∷ codes "s" ∷ arguments

-- a run over `s` that gets these words after it: nothing is asked for beside, or some of it
abbrev runs_by : Demand → List (List ℕ) → Missing → Bool → Bool → Form → Planned
runs_by asked arguments missing explains is_strict form = Runs (record {
  words = over_s arguments;
  path = codes "s";
  missing = missing;
  demand = asked;
  explains = explains;
  is_strict = is_strict;
  form = form;
})

-- the same, where nothing is asked of the store
abbrev runs : List (List ℕ) → Missing → Bool → Bool → Form → Planned
runs arguments missing explains is_strict form = runs_by demand.Nothing arguments missing explains is_strict form

-- a run over nothing, after the program's name
abbrev runs_nothing : Missing → Bool → Bool → Planned
runs_nothing missing explains is_strict = Runs (record {
  words = codes "p" ∷ [];
  path = [];
  missing = missing;
  demand = demand.Nothing;
  explains = explains;
  is_strict = is_strict;
  form = Lines false;
})

-- notices
notice-each :
    map notice_of
    ((codes "p" ∷ codes "--help" ∷ []) ∷ (codes "p" ∷ codes "-h" ∷ []) ∷ (codes "p" ∷ codes "--version" ∷ []) ∷ (codes "p" ∷ codes "-V" ∷ []) ∷ [])
    ≡ Some Help ∷ Some Help ∷ Some Version ∷ Some Version ∷ []
notice-each = refl

notice-none :
    map notice_of
    ([] ∷ (codes "--help" ∷ []) ∷ (codes "p" ∷ codes "--Help" ∷ []) ∷ (codes "p" ∷ codes "-v" ∷ [])
    ∷ (codes "p" ∷ codes "--help" ∷ codes "run" ∷ []) ∷ [])
    ≡ None ∷ None ∷ None ∷ None ∷ None ∷ []
notice-none = refl

planned-help : planned (codes "p" ∷ codes "--help" ∷ []) ≡ Prints Help
unfolding asked_words
planned-help = refl

-- no option
planned-path : planned (over_s []) ≡ runs [] Make false false (Lines false)
unfolding asked_words
planned-path = refl

planned-run : planned (over_s (codes "run" ∷ [])) ≡ runs (codes "run" ∷ []) Make false false (Lines false)
unfolding asked_words
planned-run = refl

planned-check : planned (over_s (codes "check" ∷ [])) ≡ runs (codes "check" ∷ []) ReadEmpty false false (Lines false)
unfolding asked_words
planned-check = refl

planned-sessions : planned (over_s (codes "sessions" ∷ [])) ≡ runs (codes "sessions" ∷ []) Make false false (Sessions false)
unfolding asked_words
planned-sessions = refl

planned-no_words : planned [] ≡ Runs (record {
  words = [];
  path = [];
  missing = Make;
  demand = demand.Nothing;
  explains = false;
  is_strict = false;
  form = Lines false;
})
unfolding asked_words
planned-no_words = refl

planned-no_path : planned (codes "p" ∷ []) ≡ runs_nothing Make false false
unfolding asked_words
planned-no_path = refl

-- one option, before the path
planned-explain : planned (codes "p" ∷ codes "--explain" ∷ codes "s" ∷ []) ≡ runs [] Make true false (Lines false)
unfolding asked_words
planned-explain = refl

planned-batch : planned (codes "p" ∷ codes "--batch" ∷ codes "s" ∷ []) ≡ runs (codes "batch" ∷ []) Make false false (Lines false)
unfolding asked_words
planned-batch = refl

planned-strict : planned (codes "p" ∷ codes "--strict" ∷ codes "s" ∷ []) ≡ runs [] Make true true (Lines false)
unfolding asked_words
planned-strict = refl

planned-existing : planned (codes "p" ∷ codes "--existing" ∷ codes "s" ∷ []) ≡ runs [] Fail false false (Lines false)
unfolding asked_words
planned-existing = refl

planned-existing_check :
    planned (codes "p" ∷ codes "--existing" ∷ codes "s" ∷ codes "check" ∷ []) ≡ runs (codes "check" ∷ []) ReadFail false false (Lines false)
unfolding asked_words
planned-existing_check = refl

-- a store that has to be checked: a run and a made-up file make it one, a check looks, and words that ask for no mode leave it alone
planned-checked : planned (codes "p" ∷ codes "--checked" ∷ codes "s" ∷ []) ≡ runs_by demand.Make [] Make false false (Lines false)
unfolding asked_words
planned-checked = refl

planned-checked_check :
    planned (codes "p" ∷ codes "--checked" ∷ codes "s" ∷ codes "check" ∷ [])
    ≡ runs_by demand.Look (codes "check" ∷ []) ReadEmpty false false (Lines false)
unfolding asked_words
planned-checked_check = refl

planned-checked_unknown :
    planned (codes "p" ∷ codes "--checked" ∷ codes "s" ∷ codes "Run" ∷ []) ≡ runs (codes "Run" ∷ []) Make false false (Lines false)
unfolding asked_words
planned-checked_unknown = refl

planned-checked_without_path : planned (codes "p" ∷ codes "--checked" ∷ []) ≡ runs_nothing Make false false
unfolding asked_words
planned-checked_without_path = refl

demand_of-each :
    map (demand_of true) (Some (Serve Follow Shared) ∷ Some (Gen 1 2) ∷ Some Check ∷ None ∷ [])
    ≡ demand.Make ∷ demand.Make ∷ demand.Look ∷ demand.Nothing ∷ []
demand_of-each = refl

demand_of-not_asked :
    map (demand_of false) (Some (Serve Follow Shared) ∷ Some (Gen 1 2) ∷ Some Check ∷ None ∷ [])
    ≡ demand.Nothing ∷ demand.Nothing ∷ demand.Nothing ∷ demand.Nothing ∷ []
demand_of-not_asked = refl

-- all of them, in two orders, and one twice
planned-all :
    planned (codes "p" ∷ codes "--explain" ∷ codes "--batch" ∷ codes "--framed" ∷ codes "--strict" ∷ codes "--existing" ∷ codes "--checked"
    ∷ codes "s" ∷ [])
    ≡ runs_by demand.Make (codes "framed" ∷ codes "batch" ∷ []) Fail true true (Lines true)
unfolding asked_words
planned-all = refl

planned-all_but_one :
    planned (codes "p" ∷ codes "--checked" ∷ codes "--existing" ∷ codes "--batch" ∷ codes "--batch" ∷ codes "--explain" ∷ codes "s"
    ∷ codes "run" ∷ [])
    ≡ runs_by demand.Make (codes "batch" ∷ []) Fail true false (Lines false)
unfolding asked_words
planned-all_but_one = refl

-- `--batch` stands for the mode in place of `run`, and after `sessions`; after others it is a word too many
planned-batch_run : planned (codes "p" ∷ codes "--batch" ∷ codes "s" ∷ codes "run" ∷ []) ≡ runs (codes "batch" ∷ []) Make false false (Lines false)
unfolding asked_words
planned-batch_run = refl

planned-batch_sessions :
    planned (codes "p" ∷ codes "--batch" ∷ codes "s" ∷ codes "sessions" ∷ [])
    ≡ runs (codes "sessions" ∷ codes "batch" ∷ []) Make false false (Sessions false)
unfolding asked_words
planned-batch_sessions = refl

planned-batch_check :
    planned (codes "p" ∷ codes "--batch" ∷ codes "s" ∷ codes "check" ∷ []) ≡ runs (codes "check" ∷ codes "batch" ∷ []) Make false false (Lines false)
unfolding asked_words
planned-batch_check = refl

planned-batch_run_and_more :
    planned (codes "p" ∷ codes "--batch" ∷ codes "s" ∷ codes "run" ∷ codes "x" ∷ [])
    ≡ runs (codes "run" ∷ codes "x" ∷ codes "batch" ∷ []) Make false false (Lines false)
unfolding asked_words
planned-batch_run_and_more = refl

planned-batch_without_path : planned (codes "p" ∷ codes "--batch" ∷ []) ≡ runs_nothing Make false false
unfolding asked_words
planned-batch_without_path = refl

-- a word that stands there already is enough
planned-batch_and_its_word :
    planned (codes "p" ∷ codes "--batch" ∷ codes "s" ∷ codes "batch" ∷ []) ≡ runs (codes "batch" ∷ []) Make false false (Lines false)
unfolding asked_words
planned-batch_and_its_word = refl

planned-batch_sessions_and_its_word :
    planned (codes "p" ∷ codes "--batch" ∷ codes "s" ∷ codes "sessions" ∷ codes "batch" ∷ [])
    ≡ runs (codes "sessions" ∷ codes "batch" ∷ []) Make false false (Sessions false)
unfolding asked_words
planned-batch_sessions_and_its_word = refl

planned-batch_and_framed_word :
    planned (codes "p" ∷ codes "--batch" ∷ codes "s" ∷ codes "framed" ∷ [])
    ≡ runs (codes "framed" ∷ codes "batch" ∷ []) Make false false (Lines true)
unfolding asked_words
planned-batch_and_framed_word = refl

planned-framed_and_batch_word :
    planned (codes "p" ∷ codes "--framed" ∷ codes "s" ∷ codes "batch" ∷ [])
    ≡ runs (codes "framed" ∷ codes "batch" ∷ []) Make false false (Lines true)
unfolding asked_words
planned-framed_and_batch_word = refl

planned-framed_and_its_word :
    planned (codes "p" ∷ codes "--framed" ∷ codes "s" ∷ codes "framed" ∷ []) ≡ runs (codes "framed" ∷ []) Make false false (Lines true)
unfolding asked_words
planned-framed_and_its_word = refl

planned-framed_and_both_words :
    planned (codes "p" ∷ codes "--framed" ∷ codes "--batch" ∷ codes "s" ∷ codes "sessions" ∷ codes "framed" ∷ codes "batch" ∷ [])
    ≡ runs (codes "sessions" ∷ codes "framed" ∷ codes "batch" ∷ []) Make false false (Sessions true)
unfolding asked_words
planned-framed_and_both_words = refl

planned-framed_sessions_and_batch_word :
    planned (codes "p" ∷ codes "--framed" ∷ codes "s" ∷ codes "sessions" ∷ codes "batch" ∷ [])
    ≡ runs (codes "sessions" ∷ codes "framed" ∷ codes "batch" ∷ []) Make false false (Sessions true)
unfolding asked_words
planned-framed_sessions_and_batch_word = refl

-- but `run` takes none, and `frames` no `framed`
planned-framed_run_and_batch_word :
    planned (codes "p" ∷ codes "--framed" ∷ codes "s" ∷ codes "run" ∷ codes "batch" ∷ [])
    ≡ runs (codes "run" ∷ codes "framed" ∷ codes "batch" ∷ []) Make false false (Lines false)
unfolding asked_words
planned-framed_run_and_batch_word = refl

planned-framed_frames_and_batch_word :
    planned (codes "p" ∷ codes "--framed" ∷ codes "s" ∷ codes "frames" ∷ codes "batch" ∷ [])
    ≡ runs (codes "frames" ∷ codes "framed" ∷ codes "batch" ∷ []) Make false false (Lines false)
unfolding asked_words
planned-framed_frames_and_batch_word = refl

-- a path named as the word is no such word
planned-batch_named : planned (codes "p" ∷ codes "--batch" ∷ codes "batch" ∷ []) ≡ Runs (record {
  words = codes "p" ∷ codes "batch" ∷ codes "batch" ∷ [];
  path = codes "batch";
  missing = Make;
  demand = demand.Nothing;
  explains = false;
  is_strict = false;
  form = Lines false;
})
unfolding asked_words
planned-batch_named = refl

-- `--framed` stands for the word `framed`, before `batch`
planned-framed : planned (codes "p" ∷ codes "--framed" ∷ codes "s" ∷ []) ≡ runs (codes "framed" ∷ []) Make false false (Lines true)
unfolding asked_words
planned-framed = refl

planned-framed_run : planned (codes "p" ∷ codes "--framed" ∷ codes "s" ∷ codes "run" ∷ []) ≡ runs (codes "framed" ∷ []) Make false false (Lines true)
unfolding asked_words
planned-framed_run = refl

planned-framed_and_batch :
    planned (codes "p" ∷ codes "--batch" ∷ codes "--framed" ∷ codes "s" ∷ codes "run" ∷ [])
    ≡ runs (codes "framed" ∷ codes "batch" ∷ []) Make false false (Lines true)
unfolding asked_words
planned-framed_and_batch = refl

planned-framed_sessions :
    planned (codes "p" ∷ codes "--framed" ∷ codes "--batch" ∷ codes "s" ∷ codes "sessions" ∷ [])
    ≡ runs (codes "sessions" ∷ codes "framed" ∷ codes "batch" ∷ []) Make false false (Sessions true)
unfolding asked_words
planned-framed_sessions = refl

planned-framed_follow :
    planned (codes "p" ∷ codes "--framed" ∷ codes "s" ∷ codes "follow" ∷ [])
    ≡ runs (codes "follow" ∷ codes "framed" ∷ []) Make false false (Lines false)
unfolding asked_words
planned-framed_follow = refl

planned-frames : planned (over_s (codes "frames" ∷ [])) ≡ runs (codes "frames" ∷ []) Make false false Frames
unfolding asked_words
planned-frames = refl

planned-batch_frames :
    planned (codes "p" ∷ codes "--batch" ∷ codes "s" ∷ codes "frames" ∷ [])
    ≡ runs (codes "frames" ∷ codes "batch" ∷ []) Make false false Frames
unfolding asked_words
planned-batch_frames = refl

planned-follow : planned (over_s (codes "follow" ∷ [])) ≡ runs (codes "follow" ∷ []) Make false false Follow
unfolding asked_words
planned-follow = refl

planned-batch_follow :
    planned (codes "p" ∷ codes "--batch" ∷ codes "s" ∷ codes "follow" ∷ [])
    ≡ runs (codes "follow" ∷ codes "batch" ∷ []) Make false false Follow
unfolding asked_words
planned-batch_follow = refl

-- an option after the path is a word like others, and so is one that isn't known; before it such a word takes all away
planned-option_after : planned (over_s (codes "--batch" ∷ [])) ≡ runs (codes "--batch" ∷ []) Make false false (Lines false)
unfolding asked_words
planned-option_after = refl

planned-unknown : planned (codes "p" ∷ codes "-x" ∷ codes "s" ∷ []) ≡ runs_nothing Make false false
unfolding asked_words
planned-unknown = refl

planned-unknown_after_options :
    planned (codes "p" ∷ codes "--strict" ∷ codes "--existing" ∷ codes "--help" ∷ codes "s" ∷ []) ≡ runs_nothing Fail true true
unfolding asked_words
planned-unknown_after_options = refl

planned-capitals : planned (codes "p" ∷ codes "--Batch" ∷ codes "s" ∷ []) ≡ runs_nothing Make false false
unfolding asked_words
planned-capitals = refl

path_of-none : path_of (codes "p" ∷ []) ≡ []
path_of-none = refl

-- a refused line shows in the status of a run that is done, where that is asked for
status-refused : status_with true true 0 ≡ 1
status-refused = refl

status-none_refused : status_with true false 0 ≡ 0
status-none_refused = refl

status-not_asked : status_with false true 0 ≡ 0
status-not_asked = refl

status-others : map (status_with true true) (1 ∷ 2 ∷ 3 ∷ 9 ∷ []) ≡ 1 ∷ 2 ∷ 3 ∷ 9 ∷ []
status-others = refl

missing_for-check : missing_for false (codes "a" ∷ codes "b" ∷ codes "check" ∷ []) ≡ ReadEmpty
missing_for-check = refl

missing_for-check_of_one_that_exists : missing_for true (codes "a" ∷ codes "b" ∷ codes "check" ∷ []) ≡ ReadFail
missing_for-check_of_one_that_exists = refl

missing_for-one_that_exists :
    map (missing_for true) ((codes "a" ∷ codes "b" ∷ []) ∷ (codes "a" ∷ codes "b" ∷ codes "run" ∷ []) ∷ []) ≡ Fail ∷ Fail ∷ []
missing_for-one_that_exists = refl

missing_for-others :
    map (missing_for false)
    ([] ∷ (codes "a" ∷ codes "check" ∷ []) ∷ (codes "a" ∷ codes "b" ∷ codes "run" ∷ [])
    ∷ (codes "a" ∷ codes "b" ∷ codes "check" ∷ [] ∷ []) ∷ [])
    ≡ Make ∷ Make ∷ Make ∷ Make ∷ []
missing_for-others = refl
