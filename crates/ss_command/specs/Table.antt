-- The table of the forms that commands have.
use Rattle.std.specs.Prelude.{ℕ, Bool, true, false, ◌&&◌, if◌then◌else◌, List, [], ◌∷◌, codes, Option, Some, None, is_some}
use Rattle.ss_catalog.specs.declared.query.End.{End}
use Rattle.ss_catalog.specs.declared.query.End.TheVariants as ends
use Rattle.ss_catalog.specs.declared.query.Kind.{Kind}
use Rattle.ss_catalog.specs.declared.query.Kind.TheVariants as kinds
use Rattle.ss_command.specs.Words.{is_word}
use Rattle.ss_command.specs.declared.table.Field.{Field}
use Rattle.ss_command.specs.declared.table.Field.TheVariants as fields
use Rattle.ss_command.specs.declared.table.Fixed.{Fixed}
use Rattle.ss_command.specs.declared.table.Fixed.TheVariants as fixed
use Rattle.ss_command.specs.declared.table.Kinds.{Kinds}
use Rattle.ss_command.specs.declared.table.Kinds.TheVariants as asked
use Rattle.ss_command.specs.declared.table.Letter.TheVariants.{B, P, Q, R, S, E}
use Rattle.ss_command.specs.declared.table.Row.{Row}
use Rattle.ss_command.specs.declared.table.Row.TheVariants as rows
use Rattle.ss_command.specs.declared.verb.Verb.{Verb}
use Rattle.ss_command.specs.declared.verb.Verb.TheVariants as verbs

-- what stands behind the verb and the name
abbrev pub fields_of : Row → List Field
fields_of rows.Exp = fields.Fixed fixed.Exp ∷ fields.Parameter B ∷ fields.Parameter R ∷ fields.Parameter S ∷ []
fields_of rows.ExpWithin =
    fields.Fixed fixed.Exp ∷ fields.Parameter B ∷ fields.Parameter R ∷ fields.Parameter S ∷ fields.Fixed fixed.Within ∷ fields.Parameter E ∷ []
fields_of rows.Power = fields.Fixed fixed.Power ∷ fields.Parameter P ∷ fields.Parameter Q ∷ fields.Parameter R ∷ fields.Parameter S ∷ []
fields_of rows.PowerWithin =
    fields.Fixed fixed.Power ∷ fields.Parameter P ∷ fields.Parameter Q ∷ fields.Parameter R ∷ fields.Parameter S ∷ fields.Fixed fixed.Within
    ∷ fields.Parameter E ∷ []
fields_of rows.Append = fields.Time ∷ fields.Value ∷ []
fields_of rows.Open = fields.Fixed fixed.Open ∷ fields.Time ∷ []
fields_of rows.Close = fields.Fixed fixed.Close ∷ fields.Time ∷ []
fields_of rows.Drop = []
fields_of rows.Query = fields.Kind asked.All ∷ fields.From ∷ fields.To ∷ []
fields_of rows.Has = fields.Fixed fixed.Has ∷ fields.Value ∷ fields.From ∷ fields.To ∷ []
fields_of rows.Series = fields.Kind asked.All ∷ fields.From ∷ fields.To ∷ fields.Step ∷ []
fields_of rows.Windows = []
fields_of rows.Certify = fields.Kind asked.Certified ∷ fields.End ∷ fields.From ∷ fields.To ∷ []
fields_of rows.Last = []
fields_of rows.Values = fields.From ∷ fields.To ∷ []
fields_of rows.Estimate = fields.Kind asked.Guessed ∷ fields.From ∷ fields.To ∷ []
fields_of rows.Estimates = fields.Kind asked.Guessed ∷ fields.From ∷ fields.To ∷ fields.Step ∷ []

-- the forms that begin with a verb and a name
abbrev pub forms_of : Verb → List Row
forms_of verbs.Create = rows.Exp ∷ rows.ExpWithin ∷ rows.Power ∷ rows.PowerWithin ∷ []
forms_of verbs.Append = rows.Append ∷ []
forms_of verbs.Landmark = rows.Open ∷ rows.Close ∷ []
forms_of verbs.Drop = rows.Drop ∷ []
forms_of verbs.Query = rows.Query ∷ rows.Has ∷ []
forms_of verbs.Series = rows.Series ∷ []
forms_of verbs.Windows = rows.Windows ∷ []
forms_of verbs.List = []
forms_of verbs.Certify = rows.Certify ∷ []
forms_of verbs.Last = rows.Last ∷ []
forms_of verbs.Values = rows.Values ∷ []
forms_of verbs.Estimate = rows.Estimate ∷ []
forms_of verbs.Estimates = rows.Estimates ∷ []

-- the word that stands as it is
abbrev pub fixed_word : Fixed → List ℕ
fixed_word fixed.Exp = codes "exp"
fixed_word fixed.Power = codes "power"
fixed_word fixed.Within = codes "within"
fixed_word fixed.Open = codes "open"
fixed_word fixed.Close = codes "close"
fixed_word fixed.Has = codes "has"

-- what a word asks for, where all may be asked for that is said without a value, or what of it there are certificates for, or the
-- likeliest
abbrev pub kind_named : Kinds → List ℕ → Option Kind
kind_named asked.All word =
    if is_word word (codes "count") then Some kinds.Count
    else (if is_word word (codes "sum") then Some kinds.Sum
    else (if is_word word (codes "min") then Some kinds.Min
    else (if is_word word (codes "max") then Some kinds.Max
    else (if is_word word (codes "mean") then Some kinds.Mean
    else None))))
kind_named asked.Certified word =
    if is_word word (codes "count") then Some kinds.Count
    else (if is_word word (codes "sum") then Some kinds.Sum
    else (if is_word word (codes "mean") then Some kinds.Mean
    else None))
kind_named asked.Guessed word =
    if is_word word (codes "count") then Some kinds.CountGuess
    else (if is_word word (codes "sum") then Some kinds.SumGuess
    else (if is_word word (codes "mean") then Some kinds.MeanGuess
    else None))

-- the end of an interval that a word names
abbrev pub end_named : List ℕ → Option End
end_named word =
    if is_word word (codes "lo") then Some ends.Lo
    else (if is_word word (codes "hi") then Some ends.Hi
    else None)

-- a word can stand in a place; whether one is a number in its range is asked later
abbrev pub may_be : Field → List ℕ → Bool
may_be (fields.Fixed word) found = is_word found (fixed_word word)
may_be (fields.Kind asked) found = is_some (kind_named asked found)
may_be fields.End found = is_some (end_named found)
may_be _ found = true

-- words fit a form: they are as many, and each can stand in its place
abbrev pub fits_form : List Field → List (List ℕ) → Bool
fits_form [] [] = true
fits_form (field ∷ form) (word ∷ words) = may_be field word && fits_form form words
fits_form _ _ = false

-- the first of some forms that words fit
abbrev pub row_for : List Row → List (List ℕ) → Option Row
row_for [] words = None
row_for (row ∷ others) words = if fits_form (fields_of row) words then Some row else row_for others words
