-- What the program does, by the words of the command line.
use Rattle.std.specs.Prelude.{ℕ, Bool, true, false, ◌==◌, ◌&&◌, ◌||◌, ◌-◌, nat_lt, if◌then◌else◌, List, [], ◌∷◌, ◌++◌, length}
use Rattle.std.specs.Prelude.{get_or, take, drop, codes, Option, Some, None}
use Rattle.std.specs.List.{insert}
use Rattle.std.specs.Option.{option_map_or}
use Rattle.std.specs.Prelude.{string_bytes}
use Rattle.std.specs.Str.{bytes_eq}
use Rattle.std.specs.Str.Parse.{starts_with_minus}
use Rattle.ss_arguments.specs.Modes.{mode_of, words_of}
use Rattle.ss_arguments.specs.declared.mode.Form.{Form}
use Rattle.ss_arguments.specs.declared.mode.Form.TheVariants.{Lines}
use Rattle.ss_arguments.specs.declared.mode.Mode.{Mode}
use Rattle.ss_arguments.specs.declared.mode.Mode.TheVariants.{Serve, Check, Gen}
use Rattle.ss_file.specs.declared.demand.Demand.{Demand}
use Rattle.ss_file.specs.declared.demand.Demand.TheVariants as demand
use Rattle.summarystore.specs.declared.notice.Notice.{Notice}
use Rattle.summarystore.specs.declared.notice.Notice.TheVariants.{Help, Version}
use Rattle.ss_file.specs.declared.opening.Missing.{Missing}
use Rattle.ss_file.specs.declared.opening.Missing.TheVariants.{Make, Fail, ReadEmpty, ReadFail}
use Rattle.summarystore.specs.declared.options.Options.{Options}
use Rattle.summarystore.specs.declared.options.Switch.{Switch}
use Rattle.summarystore.specs.declared.options.Switch.TheVariants.{Explain, Batch, Framed, Strict, Existing, Checked}
use Rattle.summarystore.specs.declared.plan.Plan.{Plan}
use Rattle.summarystore.specs.declared.plan.Plan.TheVariants as plan
use Rattle.summarystore.specs.declared.plan.Run.{Run}

-- whether words ask for a check: it is the third word, after the program's name and the path, and the last one
abbrev pub is_check : List (List ℕ) → Bool
is_check (program ∷ path ∷ mode ∷ []) = bytes_eq mode (codes "check")
is_check _ = false

-- What is done where there is no file: a check makes none, and no run does whose store has to be there. A check reads the file
-- alone.
abbrev pub missing_for : Bool → List (List ℕ) → Missing
missing_for has_to_exist words =
    if is_check words then (if has_to_exist then ReadFail else ReadEmpty) else (if has_to_exist then Fail else Make)

-- the notice that a word asks for
abbrev pub notice_named : List ℕ → Option Notice
notice_named word =
    if bytes_eq word (codes "--help") || bytes_eq word (codes "-h") then Some Help
    else (if bytes_eq word (codes "--version") || bytes_eq word (codes "-V") then Some Version
    else None)

-- the notice that words ask for: it is the only one after the program's name
abbrev pub notice_of : List (List ℕ) → Option Notice
notice_of (program ∷ word ∷ []) = notice_named word
notice_of _ = None

-- the option that a word is
abbrev pub switch_of : List ℕ → Option Switch
switch_of word =
    if bytes_eq word (codes "--explain") then Some Explain
    else (if bytes_eq word (codes "--batch") then Some Batch
    else (if bytes_eq word (codes "--framed") then Some Framed
    else (if bytes_eq word (codes "--strict") then Some Strict
    else (if bytes_eq word (codes "--existing") then Some Existing
    else (if bytes_eq word (codes "--checked") then Some Checked
    else None)))))

-- the option in the place of the path
abbrev pub first_switch : List (List ℕ) → Option Switch
first_switch (program ∷ word ∷ rest) = switch_of word
first_switch _ = None

-- no option
abbrev pub no_options : Options
no_options = record {
  explains = false;
  batches = false;
  is_framed = false;
  is_strict = false;
  has_to_exist = false;
  has_to_be_checked = false;
}

-- options with one more
abbrev pub with_switch : Options → Switch → Options
with_switch options Explain = record options { explains = true }
with_switch options Batch = record options { batches = true }
with_switch options Framed = record options { is_framed = true }
with_switch options Strict = record options { is_strict = true }
with_switch options Existing = record options { has_to_exist = true }
with_switch options Checked = record options { has_to_be_checked = true }

-- the options at the front of words, beside some that were met before
abbrev pub options_from : Options → List (List ℕ) → Options
options_from options [] = options
options_from options (word ∷ rest) = option_map_or (λ switch. options_from (with_switch options switch) rest) (switch_of word) options

-- what stands behind the options at the front of words
abbrev pub behind_options : List (List ℕ) → List (List ℕ)
behind_options [] = []
behind_options (word ∷ rest) = option_map_or (λ switch. behind_options rest) (switch_of word) (word ∷ rest)

-- whether the word in the place of the path begins with `-`
abbrev pub has_hyphen : List (List ℕ) → Bool
has_hyphen (program ∷ word ∷ rest) = starts_with_minus word
has_hyphen _ = false

-- words without all but the program's name, where no path is among them
abbrev pub without_unknown : List (List ℕ) → List (List ℕ)
without_unknown words = if has_hyphen words then take 1 words else words

-- the options of a command line: they stand between the program's name and the path
abbrev pub options_of : List (List ℕ) → Options
options_of words = options_from no_options (drop 1 words)

-- the words of a command line without its options, and without all others where the next begins with `-`: it is no path
abbrev pub without_options : List (List ℕ) → List (List ℕ)
without_options words = without_unknown (take 1 words ++ behind_options (drop 1 words))

-- whether words ask for a plain run by its word alone
abbrev pub names_run : List (List ℕ) → Bool
names_run (program ∷ path ∷ mode ∷ []) = bytes_eq mode (codes "run")
names_run _ = false

-- words without the word of a plain run
abbrev pub without_run : List (List ℕ) → List (List ℕ)
without_run words = if names_run words then take 2 words else words

-- whether the last of the words behind the path is this one
abbrev pub is_last : List ℕ → List (List ℕ) → Bool
is_last word words = nat_lt 2 (length words) && bytes_eq (get_or words (length words - 1) []) word

-- words with one more at a place behind the path, unless it stands in front of that place
abbrev pub with_word : ℕ → List ℕ → List (List ℕ) → List (List ℕ)
with_word place word words =
    if nat_lt (length words) 2 || is_last word (take place words) then words else insert words place word

-- where `framed` stands: at the end, or before `batch`
abbrev pub place_of_framed : List (List ℕ) → ℕ
place_of_framed words = if is_last (codes "batch") words then length words - 1 else length words

-- words with `framed`, and words with `batch` at their end, each once
abbrev pub with_framed : List (List ℕ) → List (List ℕ)
with_framed words = with_word (place_of_framed words) (codes "framed") words

abbrev pub with_batch : List (List ℕ) → List (List ℕ)
with_batch words = with_word (length words) (codes "batch") words

-- words with those that the options stand for, in place of the word of a plain run
unfoldable pub asked_words : Options → List (List ℕ) → List (List ℕ)
asked_words options words =
    let plain = if options.is_framed || options.batches then without_run words else words in
    let framed = if options.is_framed then with_framed plain else plain in
    if options.batches then with_batch framed else framed

-- the store's path: the word after the program's name, or the empty path
abbrev pub path_of : List (List ℕ) → List ℕ
path_of (program ∷ path ∷ arguments) = path
path_of _ = []

-- the form of the input of a mode, where it reads one
abbrev pub form_in : Option Mode → Form
form_in (Some (Serve form sealing)) = form
form_in _ = Lines false

-- What is asked of a store that has to be a checked one: a mode that writes makes it one, and a check looks. Words that ask for no
-- mode leave it alone.
abbrev pub demand_of_mode : Option Mode → Demand
demand_of_mode None = demand.Nothing
demand_of_mode (Some (Serve form sealing)) = demand.Make
demand_of_mode (Some Check) = demand.Look
demand_of_mode (Some (Gen seed count)) = demand.Make

-- what is asked of the store before a run, by whether it has to be a checked one and by the mode
abbrev pub demand_of : Bool → Option Mode → Demand
demand_of has_to_be_checked mode = if has_to_be_checked then demand_of_mode mode else demand.Nothing

-- A run over the file of a store: the words that it gets, the path, what is done where there is no file, what is asked of the store
-- before, whether standard error says why lines are refused, whether a refused line shows in the exit status, and the form of the
-- input.
pub record Asked : Type 0 where
  pub words : List (List ℕ)
  pub path : List ℕ
  pub missing : Missing
  pub demand : Demand
  pub explains : Bool
  pub is_strict : Bool
  pub form : Form

-- what the program does: it prints a notice, or it runs over a store
pub data Planned : Type 0 where
  Prints : Notice → Planned
  Runs : Asked → Planned

-- the run that words without options ask for
abbrev pub run_of : Options → List (List ℕ) → Asked
run_of options words = record {
  words = words;
  path = path_of words;
  missing = missing_for options.has_to_exist words;
  demand = demand_of options.has_to_be_checked (mode_of words);
  explains = options.explains || options.is_strict;
  is_strict = options.is_strict;
  form = form_in (mode_of words);
}

-- what the program does by the words of the command line, its name first
abbrev pub planned : List (List ℕ) → Planned
planned words =
    let options = options_of words in
    let rest = without_options words in
    option_map_or Prints (notice_of words) (Runs (run_of options (asked_words options rest)))

-- the same, of what the code answers
abbrev pub asked_by : Run → Asked
asked_by run = record {
  words = words_of run.words.items;
  path = string_bytes run.path;
  missing = run.missing;
  demand = run.demand;
  explains = run.explains;
  is_strict = run.is_strict;
  form = run.form;
}

abbrev pub planned_by : Plan → Planned
planned_by (plan.Notice notice) = Prints notice
planned_by (plan.Run run) = Runs (asked_by run)

-- The exit status of a run: 1 in place of 0, where a refused line is to show in it and there was one.
abbrev pub status_with : Bool → Bool → ℕ → ℕ
status_with is_strict has_refused number = if number == 0 && is_strict && has_refused then 1 else number
