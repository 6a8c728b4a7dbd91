-- What a line means.
use Rattle.std.specs.Prelude.{ℕ, Bool, true, false, ◌==◌, ◌&&◌, nat_lt, nat_le, if◌then◌else◌, List, [], ◌∷◌, length, slice_index, codes, Option, Some, None}
use Rattle.std.specs.Prelude.{Result, Ok, Err}
use Rattle.std.specs.Option.{option_map_or}
use Rattle.ss_catalog.specs.Series.{rows_in}
use Rattle.ss_catalog.specs.declared.TheConstants.{MOST_ROWS}
use Rattle.ss_catalog.specs.declared.event.Event.TheVariants.{Create, Value, Open, Close, Drop}
use Rattle.ss_catalog.specs.declared.params.Family.TheVariants.{Exp, Power}
use Rattle.ss_catalog.specs.declared.params.Params.{Params}
use Rattle.ss_catalog.specs.declared.query.Kind.{Kind}
use Rattle.ss_catalog.specs.declared.query.Kind.TheVariants as kinds
use Rattle.ss_catalog.specs.declared.query.Query.{Query}
use Rattle.ss_catalog.specs.declared.refusal.Refusal.{Refusal}
use Rattle.ss_catalog.specs.declared.refusal.Refusal.TheVariants as refusals
use Rattle.ss_catalog.specs.declared.series.Series.{Series}
pub use Rattle.ss_command.specs.Said.{◌>>=◌, name_of, or_number, parameter_of, read_fields, said_nothing, time_of, value_of}
use Rattle.ss_command.specs.Table.{fields_of, row_for, forms_of}
use Rattle.ss_command.specs.Words.{words, is_word}
use Rattle.ss_command.specs.declared.TheConstants.{LONGEST_LINE, COMMENT}
use Rattle.ss_command.specs.declared.command.Command.{Command}
use Rattle.ss_command.specs.declared.command.Command.TheVariants as commands
use Rattle.ss_command.specs.declared.said.Said.{Said}
use Rattle.ss_command.specs.declared.table.Row.{Row}
use Rattle.ss_command.specs.declared.table.Row.TheVariants as rows
use Rattle.ss_command.specs.declared.verb.Verb.{Verb}
use Rattle.ss_command.specs.declared.verb.Verb.TheVariants as verbs

-- a form asks for rows of a step
abbrev pub is_in_rows : Row → Bool
is_in_rows rows.Series = true
is_in_rows rows.Estimates = true
is_in_rows _ = false

-- a step isn't 0, nor so short that there are more rows than a series may have
abbrev pub has_rows : Said → Bool
has_rows said = nat_lt 0 said.times.step && nat_le (rows_in said.times.from said.times.to said.times.step) MOST_ROWS

-- what was said, where a form in rows has neither a step of 0 nor too many of them
abbrev pub with_few_rows : Row → Said → Result Said Refusal
with_few_rows row said = if is_in_rows row then (if has_rows said then Ok said else Err refusals.Number) else Ok said

-- the target of an `exp` and that of a `power`, with a step or without
abbrev pub exp_said : Said → Option ℕ → Params
exp_said said within = record {
  family = Exp said.parameters.b said.parameters.r said.parameters.s;
  within = within;
}

abbrev pub power_said : Said → Option ℕ → Params
power_said said within = record {
  family = Power said.parameters.p said.parameters.q said.parameters.r said.parameters.s;
  within = within;
}

-- a query of a range, and a series of one, by what is asked for
abbrev pub query_said : List ℕ → Kind → Said → Query
query_said name kind said = record { name = name; kind = kind; from = said.times.from; to = said.times.to }

abbrev pub series_said : List ℕ → Said → Series
series_said name said = record { name = name; kind = said.kind; from = said.times.from; to = said.times.to; step = said.times.step }

-- the command of a form, by the name and by what its words say
abbrev pub commanded : Row → List ℕ → Said → Command
commanded rows.Exp name said = commands.Do (Create name (exp_said said None))
commanded rows.ExpWithin name said = commands.Do (Create name (exp_said said (Some said.parameters.e)))
commanded rows.Power name said = commands.Do (Create name (power_said said None))
commanded rows.PowerWithin name said = commands.Do (Create name (power_said said (Some said.parameters.e)))
commanded rows.Append name said = commands.Do (Value name said.times.from said.value)
commanded rows.Open name said = commands.Do (Open name said.times.from)
commanded rows.Close name said = commands.Do (Close name said.times.from)
commanded rows.Drop name said = commands.Do (Drop name)
commanded rows.Query name said = commands.Ask (query_said name said.kind said)
commanded rows.Has name said = commands.Ask (query_said name (kinds.Has said.value) said)
commanded rows.Series name said = commands.Series (series_said name said)
commanded rows.Windows name said = commands.Windows name
commanded rows.Certify name said = commands.Certify (query_said name said.kind said) said.end
commanded rows.Last name said = commands.Last name
commanded rows.Values name said = commands.Values name said.times.from said.times.to
commanded rows.Estimate name said = commands.Ask (query_said name said.kind said)
commanded rows.Estimates name said = commands.Series (series_said name said)

-- what a line means that fits a form: its numbers are read first, and then its name
abbrev pub row_means : Row → List ℕ → List (List ℕ) → Result Command Refusal
row_means row name rest = do
  read ← read_fields (fields_of row) rest said_nothing
  said ← with_few_rows row read
  stream ← name_of name
  Ok (commanded row stream said)

-- a command from its name on, by the forms of its verb
abbrev pub named_of : Verb → List (List ℕ) → Result Command Refusal
named_of verb [] = Err refusals.Syntax
named_of verb (name ∷ rest) = option_map_or (λ row. row_means row name rest) (row_for (forms_of verb) rest) (Err refusals.Syntax)

-- `list`, with nothing after it
abbrev pub list_of : List (List ℕ) → Result Command Refusal
list_of [] = Ok commands.List
list_of _ = Err refusals.Syntax

-- the first words of the commands
abbrev pub verb_of : List ℕ → Option Verb
verb_of word =
    if is_word word (codes "create") then Some verbs.Create
    else (if is_word word (codes "append") then Some verbs.Append
    else (if is_word word (codes "landmark") then Some verbs.Landmark
    else (if is_word word (codes "drop") then Some verbs.Drop
    else (if is_word word (codes "query") then Some verbs.Query
    else (if is_word word (codes "series") then Some verbs.Series
    else (if is_word word (codes "windows") then Some verbs.Windows
    else (if is_word word (codes "list") then Some verbs.List
    else (if is_word word (codes "certify") then Some verbs.Certify
    else (if is_word word (codes "last") then Some verbs.Last
    else (if is_word word (codes "values") then Some verbs.Values
    else (if is_word word (codes "estimate") then Some verbs.Estimate
    else (if is_word word (codes "estimates") then Some verbs.Estimates
    else None))))))))))))

-- the words after the first of a command, which is its verb
abbrev pub form_of : Option Verb → List (List ℕ) → Result Command Refusal
form_of (Some verbs.List) = list_of
form_of (Some verb) = named_of verb
form_of None = λ _. Err refusals.Syntax

abbrev pub command_of : List ℕ → List (List ℕ) → Result Command Refusal
command_of word = form_of (verb_of word)

-- what words mean: nothing, where there are none, or a command
abbrev pub meaning_of_words : List (List ℕ) → Result (Option Command) Refusal
meaning_of_words [] = Ok None
meaning_of_words (word ∷ rest) = do
  command ← command_of word rest
  Ok (Some command)

-- a line that is no command, as its first byte says
abbrev pub is_comment : List ℕ → Bool
is_comment line = slice_index line 0 == COMMENT

-- what a line means: nothing, a command, or why it is refused
unfoldable pub meaning : List ℕ → Result (Option Command) Refusal
meaning line =
    if nat_lt LONGEST_LINE (length line) then Err refusals.Line
    else (if is_comment line then Ok None else meaning_of_words (words line))
