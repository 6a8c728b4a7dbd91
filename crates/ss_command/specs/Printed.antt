-- How a command is printed.
use Rattle.std.specs.Prelude.{◌≡◌, ℕ, ◌≤◌, ◌<◌, ◌^◌, Bool, true, false, List, [], ◌∷◌, ◌++◌, map, fold, codes, if◌then◌else◌, FitsSigned, Option, Some, None, ℤ}
use Rattle.std.specs.Fmt.{decimal, signed_decimal}
use Rattle.std.specs.Int.{w64}
use Rattle.ss_catalog.specs.Events.{IsInTime}
use Rattle.ss_catalog.specs.Names.{is_name}
use Rattle.ss_catalog.specs.Queries.{IsKindOfValues, IsQueryInTime, end_name, is_certified, is_guess, kind_name}
use Rattle.ss_catalog.specs.Series.{IsSeriesInRange}
use Rattle.ss_base.specs.declared.limits.TheConstants.{LAST_TIME}
use Rattle.ss_catalog.specs.declared.event.Event.TheVariants.{Create, Value, Open, Close, Drop}
use Rattle.ss_catalog.specs.declared.params.Family.{Family}
use Rattle.ss_catalog.specs.declared.params.Family.TheVariants.{Exp, Power}
use Rattle.ss_catalog.specs.declared.params.Params.{Params}
use Rattle.ss_catalog.specs.declared.query.Kind.{Kind}
use Rattle.ss_catalog.specs.declared.query.Kind.TheVariants as kinds
use Rattle.ss_catalog.specs.declared.query.Query.{Query}
use Rattle.ss_catalog.specs.declared.series.Series.{Series}
use Rattle.ss_command.specs.Said.{said_nothing}
use Rattle.ss_command.specs.Table.{fields_of, fixed_word}
use Rattle.ss_command.specs.declared.command.Command.{Command}
use Rattle.ss_command.specs.declared.command.Command.TheVariants as commands
use Rattle.ss_command.specs.declared.said.Parameters.{Parameters}
use Rattle.ss_command.specs.declared.said.Said.{Said}
use Rattle.ss_command.specs.declared.table.Field.{Field}
use Rattle.ss_command.specs.declared.table.Field.TheVariants as fields
use Rattle.ss_command.specs.declared.table.Letter.{Letter}
use Rattle.ss_command.specs.declared.table.Letter.TheVariants.{B, P, Q, R, S, E}
use Rattle.ss_command.specs.declared.table.Row.{Row}
use Rattle.ss_command.specs.declared.table.Row.TheVariants as rows

-- a text with one more word, after one space
abbrev pub with_word : List ℕ → List ℕ → List ℕ
with_word text word = text ++ 32 ∷ word

-- the words of a family of lengths
abbrev pub family_words : Family → List (List ℕ)
family_words (Exp b r s) = codes "exp" ∷ decimal b ∷ decimal r ∷ decimal s ∷ []
family_words (Power p q r s) = codes "power" ∷ decimal p ∷ decimal q ∷ decimal r ∷ decimal s ∷ []

-- the words of a step, if there is one
abbrev pub within_words : Option ℕ → List (List ℕ)
within_words None = []
within_words (Some step) = codes "within" ∷ decimal step ∷ []

-- the words of a target, as `create` takes them
abbrev pub target_words : Params → List (List ℕ)
target_words params = family_words params.family ++ within_words params.within

-- words with one space between them
abbrev pub spaced : List ℕ → List (List ℕ) → List ℕ
spaced first rest = fold with_word first rest

-- what is asked for is said with a value
abbrev pub takes_value : Kind → Bool
takes_value kinds.Count = false
takes_value kinds.Sum = false
takes_value kinds.Min = false
takes_value kinds.Max = false
takes_value kinds.Mean = false
takes_value (kinds.Has value) = true
takes_value kinds.CountGuess = false
takes_value kinds.SumGuess = false
takes_value kinds.MeanGuess = false

-- the first word of a form
abbrev pub verb_word : Row → List ℕ
verb_word rows.Exp = codes "create"
verb_word rows.ExpWithin = codes "create"
verb_word rows.Power = codes "create"
verb_word rows.PowerWithin = codes "create"
verb_word rows.Append = codes "append"
verb_word rows.Open = codes "landmark"
verb_word rows.Close = codes "landmark"
verb_word rows.Drop = codes "drop"
verb_word rows.Query = codes "query"
verb_word rows.Has = codes "query"
verb_word rows.Series = codes "series"
verb_word rows.Windows = codes "windows"
verb_word rows.Certify = codes "certify"
verb_word rows.Last = codes "last"
verb_word rows.Values = codes "values"
verb_word rows.Estimate = codes "estimate"
verb_word rows.Estimates = codes "estimates"

-- a parameter, by its letter
abbrev pub parameter : Letter → Parameters → ℕ
parameter B parameters = parameters.b
parameter P parameters = parameters.p
parameter Q parameters = parameters.q
parameter R parameters = parameters.r
parameter S parameters = parameters.s
parameter E parameters = parameters.e

-- the word in the place of a field, of what is said
abbrev pub word_in : Said → Field → List ℕ
word_in said (fields.Fixed fixed) = fixed_word fixed
word_in said (fields.Kind asked) = kind_name said.kind
word_in said fields.End = end_name said.end
word_in said fields.Time = decimal said.times.from
word_in said fields.From = decimal said.times.from
word_in said fields.To = decimal said.times.to
word_in said fields.Step = decimal said.times.step
word_in said fields.Value = signed_decimal said.value
word_in said (fields.Parameter letter) = decimal (parameter letter said.parameters)

-- a line of a form, of what is said: its words with one space between them, numbers without leading zeros
abbrev pub form_line : Row → List ℕ → Said → List ℕ
form_line row name said = spaced (verb_word row) (name ∷ map (λ field. word_in said field) (fields_of row))

-- the parameters that a family says
abbrev pub family_said : Family → Parameters
family_said (Exp b r s) = record { b = b; p = 0; q = 0; r = r; s = s; e = 0 }
family_said (Power p q r s) = record { b = 0; p = p; q = q; r = r; s = s; e = 0 }

-- the form of a target, and the parameters that it says
abbrev pub target_row : Family → Option ℕ → Row
target_row (Exp b r s) None = rows.Exp
target_row (Exp b r s) (Some e) = rows.ExpWithin
target_row (Power p q r s) None = rows.Power
target_row (Power p q r s) (Some e) = rows.PowerWithin

abbrev pub target_said : Family → Option ℕ → Parameters
target_said family None = family_said family
target_said family (Some e) = record (family_said family) { e = e }

-- what parameters say, one time, a value at a time, a range, and one in rows
abbrev pub said_parameters : Parameters → Said
said_parameters parameters = record said_nothing { parameters = parameters }

abbrev pub said_time : ℕ → Said
said_time t = record said_nothing { times = record { from = t; to = 0; step = 0 } }

abbrev pub said_value : ℕ → ℤ → Said
said_value t v = record (said_time t) { value = v }

abbrev pub said_range : Kind → ℕ → ℕ → Said
said_range kind from to = record said_nothing { kind = kind; times = record { from = from; to = to; step = 0 } }

abbrev pub said_rows : Series → Said
said_rows series = record said_nothing { kind = series.kind; times = record { from = series.from; to = series.to; step = series.step } }

-- a query as it is printed, by what it asks for
abbrev pub printed_query : Query → Kind → List ℕ
printed_query query (kinds.Has value) = form_line rows.Has query.name (record (said_range kinds.Count query.from query.to) { value = value })
printed_query query kinds.CountGuess = form_line rows.Estimate query.name (said_range kinds.CountGuess query.from query.to)
printed_query query kinds.SumGuess = form_line rows.Estimate query.name (said_range kinds.SumGuess query.from query.to)
printed_query query kinds.MeanGuess = form_line rows.Estimate query.name (said_range kinds.MeanGuess query.from query.to)
printed_query query kind = form_line rows.Query query.name (said_range kind query.from query.to)

-- a command as it is printed: by its form
unfoldable pub printed : Command → List ℕ
printed (commands.Do (Create name params)) =
    form_line (target_row params.family params.within) name (said_parameters (target_said params.family params.within))
printed (commands.Do (Value name t v)) = form_line rows.Append name (said_value t v)
printed (commands.Do (Open name t)) = form_line rows.Open name (said_time t)
printed (commands.Do (Close name t)) = form_line rows.Close name (said_time t)
printed (commands.Do (Drop name)) = form_line rows.Drop name said_nothing
printed (commands.Ask query) = printed_query query query.kind
printed (commands.Series series) = form_line (if is_guess series.kind then rows.Estimates else rows.Series) series.name (said_rows series)
printed (commands.Windows name) = form_line rows.Windows name said_nothing
printed commands.List = codes "list"
printed (commands.Certify query end) = form_line rows.Certify query.name (record (said_range query.kind query.from query.to) { end = end })
printed (commands.Last name) = form_line rows.Last name said_nothing
printed (commands.Values name from to) = form_line rows.Values name (said_range kinds.Count from to)

-- the parameters of a family fit 32 bits
abbrev pub IsFamilyOfNumbers : Family → Type 0
IsFamilyOfNumbers (Exp b r s) = (b < 2 ^ 32) × (r < 2 ^ 32) × (s < 2 ^ 32)
IsFamilyOfNumbers (Power p q r s) = (p < 2 ^ 32) × (q < 2 ^ 32) × (r < 2 ^ 32) × (s < 2 ^ 32)

-- so does a step, if there is one
abbrev pub IsStepOfNumber : Option ℕ → Type 0
IsStepOfNumber None = Unit {0}
IsStepOfNumber (Some step) = step < 2 ^ 32

-- the parameters fit 32 bits
abbrev pub HasParameters : Params → Type 0
HasParameters params = IsFamilyOfNumbers params.family × IsStepOfNumber params.within

-- a command that a line can say: its name is one, its numbers are in their ranges, a series takes no value, and a certificate is of
-- what there are certificates for
abbrev pub IsSayable : Command → Type 0
IsSayable (commands.Do (Create name params)) = (is_name name ≡ true) × HasParameters params
IsSayable (commands.Do (Value name t v)) = (is_name name ≡ true) × (t ≤ LAST_TIME) × FitsSigned w64 v
IsSayable (commands.Do (Open name t)) = (is_name name ≡ true) × (t ≤ LAST_TIME)
IsSayable (commands.Do (Close name t)) = (is_name name ≡ true) × (t ≤ LAST_TIME)
IsSayable (commands.Do (Drop name)) = is_name name ≡ true
IsSayable (commands.Ask query) = (is_name query.name ≡ true) × IsQueryInTime query × IsKindOfValues query.kind
IsSayable (commands.Series series) = (is_name series.name ≡ true) × IsSeriesInRange series × (takes_value series.kind ≡ false)
IsSayable (commands.Windows name) = is_name name ≡ true
IsSayable commands.List = Unit {0}
IsSayable (commands.Certify query end) = (is_name query.name ≡ true) × IsQueryInTime query × (is_certified query.kind ≡ true)
IsSayable (commands.Last name) = is_name name ≡ true
IsSayable (commands.Values name from to) = (is_name name ≡ true) × (from ≤ LAST_TIME) × (to ≤ LAST_TIME)

-- a command has no time above the greatest one, a series no more rows than one may have and no value, and a certificate is of what
-- there are certificates for
abbrev pub IsCommandInTime : Command → Type 0
IsCommandInTime (commands.Do event) = IsInTime event
IsCommandInTime (commands.Ask query) = IsQueryInTime query
IsCommandInTime (commands.Series series) = IsSeriesInRange series × (takes_value series.kind ≡ false)
IsCommandInTime (commands.Windows name) = Unit {0}
IsCommandInTime commands.List = Unit {0}
IsCommandInTime (commands.Certify query end) = IsQueryInTime query × (is_certified query.kind ≡ true)
IsCommandInTime (commands.Last name) = Unit {0}
IsCommandInTime (commands.Values name from to) = (from ≤ LAST_TIME) × (to ≤ LAST_TIME)
