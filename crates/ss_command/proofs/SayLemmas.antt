-- A command that a line means is one that a line can say.
use Rattle.std.proofs.Common.{◌≡◌, ℕ, suc, zero, ◌-◌, ◌^◌, ◌<◌, ◌≤◌, true, false, not, Bool, List, [], ◌∷◌, length, Ok, Err}
use Rattle.std.proofs.Common.{None, Option, Some, Result, subst, refl}
use Rattle.std.proofs.Common.{arith, nat_lt, if◌then◌else◌}
use Rattle.std.proofs.lemmas.Bool.Decides.{nat_tests}
use Rattle.std.specs.Option.{option_map_or, unwrap_or}
use Rattle.std.specs.Prelude.{ℤ, pos, negsuc, FitsSigned}
use Rattle.std.specs.Int.{w64}
use Rattle.ss_fields.specs.Words.{as_negative, as_positive, number_up_to, signed_of}
use Rattle.ss_fields.specs.declared.number_error.NumberError.{NumberError}
use Rattle.ss_catalog.specs.Names.{is_name}
use Rattle.ss_catalog.specs.Queries.{IsKindOfValues, is_certified}
use Rattle.ss_catalog.specs.Series.{rows_in}
use Rattle.ss_catalog.specs.declared.TheConstants.{MOST_ROWS}
use Rattle.ss_base.specs.declared.limits.TheConstants.{LAST_TIME}
use Rattle.ss_catalog.specs.declared.event.Event.TheVariants.{Create, Value, Open, Close, Drop}
use Rattle.ss_catalog.specs.declared.query.Kind.{Kind}
use Rattle.ss_catalog.specs.declared.query.Kind.TheVariants as kinds
use Rattle.ss_catalog.specs.declared.refusal.Refusal.{Refusal}
use Rattle.ss_catalog.specs.declared.refusal.Refusal.TheVariants as refusals
use Rattle.ss_command.specs.declared.TheConstants.{LONGEST_LINE}
use Rattle.ss_command.specs.Grammar.{◌>>=◌, command_of, commanded, form_of, has_rows, is_comment, is_in_rows, list_of, meaning, meaning_of_words}
use Rattle.ss_command.specs.Grammar.{name_of, named_of, or_number, parameter_of, row_means, time_of, with_few_rows, value_of, verb_of}
use Rattle.ss_command.specs.Printed.{IsCommandInTime, IsSayable, takes_value}
use Rattle.ss_command.specs.Said.{read_field, read_fields, said_nothing, with_parameter, with_times}
use Rattle.ss_command.specs.Table.{end_named, fields_of, kind_named, row_for, forms_of}
use Rattle.ss_command.specs.Words.{words}
use Rattle.ss_command.specs.declared.command.Command.{Command}
use Rattle.ss_command.specs.declared.command.Command.TheVariants as commands
use Rattle.ss_command.specs.declared.said.Parameters.{Parameters}
use Rattle.ss_command.specs.declared.said.Said.{Said}
use Rattle.ss_command.specs.declared.said.Times.{Times}
use Rattle.ss_command.specs.declared.table.Field.{Field}
use Rattle.ss_command.specs.declared.table.Field.TheVariants as fields
use Rattle.ss_command.specs.declared.table.Kinds.TheVariants as asked
use Rattle.ss_command.specs.declared.table.Letter.{Letter}
use Rattle.ss_command.specs.declared.table.Letter.TheVariants as letters
use Rattle.ss_command.specs.declared.table.Row.{Row}
use Rattle.ss_command.specs.declared.table.Row.TheVariants as rows
use Rattle.ss_command.specs.declared.verb.Verb.{Verb}
use Rattle.ss_command.specs.declared.verb.Verb.TheVariants as verbs

-- where steps give something, the first gave something to the others
bind-Ok : {A B : Type 0} (r : Result A Refusal) (next : A → Result B Refusal) (b : B) → (r >>= next) ≡ Ok b → (a : A) × (r ≡ Ok a) × (next a ≡ Ok b)
bind-Ok (Ok a) next b same = (a, refl, same)
bind-Ok (Err e) next b same = cc

-- a number that was read is within its limit
or_number-Ok : {N : Type 0} (r : Result N NumberError) (n : N) → or_number r ≡ Ok n → r ≡ Ok n
or_number-Ok (Ok m) n same = cc
or_number-Ok (Err e) n same = cc

number_up_to-le : (most n : ℕ) (word : List ℕ) → number_up_to most word ≡ Ok n → n ≤ most
unfolding number_up_to
number_up_to-le most n word same = grind (arith, nat_tests)

time-le : (word : List ℕ) (t : ℕ) → time_of word ≡ Ok t → t ≤ LAST_TIME
time-le word t same = number_up_to-le LAST_TIME t word (or_number-Ok (number_up_to LAST_TIME word) t same)

parameter-lt : (word : List ℕ) (n : ℕ) → parameter_of word ≡ Ok n → n < 2 ^ 32
parameter-lt word n same =
    let small = number_up_to-le (2 ^ 32 - 1) n word (or_number-Ok (number_up_to (2 ^ 32 - 1) word) n same) in
    omega arith

positive-fits : (r : Result ℕ NumberError) (v : ℤ) → ((n : ℕ) → r ≡ Ok n → n ≤ 2 ^ 63 - 1) → as_positive r ≡ Ok v → FitsSigned w64 v
positive-fits (Ok n) v small same =
    let is : pos n ≡ v = cc in
    let low = small n refl in
    subst (FitsSigned w64) is (record { sfits = omega arith })
positive-fits (Err e) v small same = cc

negative-fits : (r : Result ℕ NumberError) (v : ℤ) → ((n : ℕ) → r ≡ Ok n → n ≤ 2 ^ 63) → as_negative r ≡ Ok v → FitsSigned w64 v
negative-fits (Ok zero) v small same =
    let is : pos 0 ≡ v = cc in
    subst (FitsSigned w64) is (record { sfits = omega arith })
negative-fits (Ok (suc n)) v small same =
    let is : negsuc n ≡ v = cc in
    let low = small (suc n) refl in
    subst (FitsSigned w64) is (record { sfits = omega arith })
negative-fits (Err e) v small same = cc

-- what holds of either of two results holds of the one that a test picks
choice : {A E : Type 0} (P : Type 0) (b : Bool) (x y : Result A E) (a : A) → (x ≡ Ok a → P) → (y ≡ Ok a → P) → (if b then x else y) ≡ Ok a → P
choice P true x y a here there same = here same
choice P false x y a here there same = there same

value-fits : (word : List ℕ) (v : ℤ) → value_of word ≡ Ok v → FitsSigned w64 v
unfolding signed_of
value-fits word v same =
    choice (FitsSigned w64 v) _ _ _ v
    (negative-fits _ v (λ n. number_up_to-le (2 ^ 63) n _))
    (positive-fits _ v (λ n. number_up_to-le (2 ^ 63 - 1) n _))
    (or_number-Ok (signed_of word) v same)

-- a name that was read is one
name-is : (word name : List ℕ) → name_of word ≡ Ok name → is_name name ≡ true
name-is word name same = grind arith

-- times up to the last one, and parameters that fit 32 bits
abbrev AreInTime : Times → Type 0
AreInTime times = (times.from ≤ LAST_TIME) × (times.to ≤ LAST_TIME) × (times.step ≤ LAST_TIME)

abbrev AreSmall : Parameters → Type 0
AreSmall p = (p.b < 2 ^ 32) × (p.p < 2 ^ 32) × (p.q < 2 ^ 32) × (p.r < 2 ^ 32) × (p.s < 2 ^ 32) × (p.e < 2 ^ 32)

-- what is said is in its ranges, and of a kind that may be asked for
abbrev IsInRange : (Kind → Bool) → Said → Type 0
IsInRange may said = (may said.kind ≡ true) × FitsSigned w64 said.value × AreInTime said.times × AreSmall said.parameters

-- only kinds that may be asked for are named in a place, or in those of a form
abbrev IsOfKinds : (Kind → Bool) → Field → Type 0
IsOfKinds may (fields.Kind asked) = (word : List ℕ) (kind : Kind) → kind_named asked word ≡ Some kind → may kind ≡ true
IsOfKinds may _ = Unit {0}

abbrev AreOfKinds : (Kind → Bool) → List Field → Type 0
AreOfKinds may [] = Unit {0}
AreOfKinds may (field ∷ form) = IsOfKinds may field × AreOfKinds may form

kind-or : (may : Kind → Bool) (found : Option Kind) (old : Kind) → ((kind : Kind) → found ≡ Some kind → may kind ≡ true) → may old ≡ true →
    may (unwrap_or found old) ≡ true
kind-or may None old all was = was
kind-or may (Some kind) old all was = all kind refl

small-with : (letter : Letter) (n : ℕ) (old : Parameters) → n < 2 ^ 32 → AreSmall old → AreSmall (with_parameter letter n old)
small-with letters.B n old small (b, p, q, r, s, e) = (small, p, q, r, s, e)
small-with letters.P n old small (b, p, q, r, s, e) = (b, small, q, r, s, e)
small-with letters.Q n old small (b, p, q, r, s, e) = (b, p, small, r, s, e)
small-with letters.R n old small (b, p, q, r, s, e) = (b, p, q, small, s, e)
small-with letters.S n old small (b, p, q, r, s, e) = (b, p, q, r, small, e)
small-with letters.E n old small (b, p, q, r, s, e) = (b, p, q, r, s, small)

-- a word that is read leaves what is said in its ranges
field-in_range : (may : Kind → Bool) (field : Field) (word : List ℕ) (said after : Said) → IsOfKinds may field → IsInRange may said →
    read_field field word said ≡ Ok after → IsInRange may after
field-in_range may (fields.Fixed fixed) word said after of fine same =
    let is : said ≡ after = cc in
    subst (IsInRange may) is fine
field-in_range may (fields.Kind asked) word said after of fine same =
    let is : record said { kind = unwrap_or (kind_named asked word) said.kind } ≡ after = cc in
    subst (IsInRange may) is (kind-or may (kind_named asked word) said.kind (of word) fine.0, fine.1, fine.2, fine.3)
field-in_range may fields.End word said after of fine same =
    let is : record said { end = unwrap_or (end_named word) said.end } ≡ after = cc in
    subst (IsInRange may) is fine
field-in_range may fields.Time word said after of fine same =
    let t = bind-Ok (time_of word) _ after same in
    let is : with_times said (record said.times { from = t.0 }) ≡ after = cc (t.2) in
    subst (IsInRange may) is (fine.0, fine.1, (time-le word t.0 t.1, fine.2.1, fine.2.2), fine.3)
field-in_range may fields.From word said after of fine same =
    let t = bind-Ok (time_of word) _ after same in
    let is : with_times said (record said.times { from = t.0 }) ≡ after = cc (t.2) in
    subst (IsInRange may) is (fine.0, fine.1, (time-le word t.0 t.1, fine.2.1, fine.2.2), fine.3)
field-in_range may fields.To word said after of fine same =
    let t = bind-Ok (time_of word) _ after same in
    let is : with_times said (record said.times { to = t.0 }) ≡ after = cc (t.2) in
    subst (IsInRange may) is (fine.0, fine.1, (fine.2.0, time-le word t.0 t.1, fine.2.2), fine.3)
field-in_range may fields.Step word said after of fine same =
    let t = bind-Ok (time_of word) _ after same in
    let is : with_times said (record said.times { step = t.0 }) ≡ after = cc (t.2) in
    subst (IsInRange may) is (fine.0, fine.1, (fine.2.0, fine.2.1, time-le word t.0 t.1), fine.3)
field-in_range may fields.Value word said after of fine same =
    let v = bind-Ok (value_of word) _ after same in
    let is : record said { value = v.0 } ≡ after = cc (v.2) in
    subst (IsInRange may) is (fine.0, value-fits word v.0 v.1, fine.2, fine.3)
field-in_range may (fields.Parameter letter) word said after of fine same =
    let n = bind-Ok (parameter_of word) _ after same in
    let is : record said { parameters = with_parameter letter n.0 said.parameters } ≡ after = cc (n.2) in
    subst (IsInRange may) is (fine.0, fine.1, fine.2, small-with letter n.0 said.parameters (parameter-lt word n.0 n.1) fine.3)

-- so do all words of a form
fields-in_range : (may : Kind → Bool) (form : List Field) (ws : List (List ℕ)) (said after : Said) → AreOfKinds may form → IsInRange may said →
    read_fields form ws said ≡ Ok after → IsInRange may after
fields-in_range may [] ws said after of fine same =
    let is : said ≡ after = cc in
    subst (IsInRange may) is fine
fields-in_range may (field ∷ form) [] said after of fine same =
    let is : said ≡ after = cc in
    subst (IsInRange may) is fine
fields-in_range may (field ∷ form) (word ∷ ws) said after of fine same =
    let first = bind-Ok (read_field field word said) _ after same in
    fields-in_range may form ws first.0 after of.1 (field-in_range may field word said first.0 of.0 fine first.1) first.2

-- what a form may ask for: in a certificate what there are certificates for, and elsewhere what is said without a value
abbrev may_ask : Row → Kind → Bool
may_ask rows.Certify kind = is_certified kind
may_ask _ kind = not (takes_value kind)

all-alone : (word : List ℕ) (kind : Kind) → kind_named asked.All word ≡ Some kind → not (takes_value kind) ≡ true
all-alone word kind same = grind arith

guessed-alone : (word : List ℕ) (kind : Kind) → kind_named asked.Guessed word ≡ Some kind → not (takes_value kind) ≡ true
guessed-alone word kind same = grind arith

certified-is : (word : List ℕ) (kind : Kind) → kind_named asked.Certified word ≡ Some kind → is_certified kind ≡ true
certified-is word kind same = grind arith

row-kinds : (row : Row) → AreOfKinds (may_ask row) (fields_of row)
row-kinds rows.Exp = (tt, (tt, (tt, (tt, tt))))
row-kinds rows.ExpWithin = (tt, (tt, (tt, (tt, (tt, (tt, tt))))))
row-kinds rows.Power = (tt, (tt, (tt, (tt, (tt, tt)))))
row-kinds rows.PowerWithin = (tt, (tt, (tt, (tt, (tt, (tt, (tt, tt)))))))
row-kinds rows.Append = (tt, (tt, tt))
row-kinds rows.Open = (tt, (tt, tt))
row-kinds rows.Close = (tt, (tt, tt))
row-kinds rows.Drop = tt
row-kinds rows.Query = (all-alone, (tt, (tt, tt)))
row-kinds rows.Has = (tt, (tt, (tt, (tt, tt))))
row-kinds rows.Series = (all-alone, (tt, (tt, (tt, tt))))
row-kinds rows.Windows = tt
row-kinds rows.Certify = (certified-is, (tt, (tt, (tt, tt))))
row-kinds rows.Last = tt
row-kinds rows.Values = (tt, (tt, tt))
row-kinds rows.Estimate = (guessed-alone, (tt, (tt, tt)))
row-kinds rows.Estimates = (guessed-alone, (tt, (tt, (tt, tt))))

may_ask-count : (row : Row) → may_ask row kinds.Count ≡ true
may_ask-count rows.Certify = refl
may_ask-count _ = refl

nothing-in_range : (row : Row) → IsInRange (may_ask row) said_nothing
nothing-in_range row =
    let zero_fits : FitsSigned w64 (pos 0) = record { sfits = omega arith } in (
      may_ask-count row,
      zero_fits,
      (omega arith, omega arith, omega arith),
      (omega arith, omega arith, omega arith, omega arith, omega arith, omega arith),
    )

-- what a word alone asks for takes no value, so it fits
takes-none : (kind : Kind) → not (takes_value kind) ≡ true → takes_value kind ≡ false
takes-none kind alone = grind arith

alone-fits : (kind : Kind) → takes_value kind ≡ false → IsKindOfValues kind
alone-fits kinds.Count alone = tt
alone-fits kinds.Sum alone = tt
alone-fits kinds.Min alone = tt
alone-fits kinds.Max alone = tt
alone-fits kinds.Mean alone = tt
alone-fits (kinds.Has value) alone = cc
alone-fits kinds.CountGuess alone = tt
alone-fits kinds.SumGuess alone = tt
alone-fits kinds.MeanGuess alone = tt

-- a form in rows has as many as it may
with_few_rows-split : (in_rows few : Bool) (said after : Said) →
    (if in_rows then (if few then Ok said else Err refusals.Number) else Ok said) ≡ Ok after → (said ≡ after) × (in_rows ≡ true → few ≡ true)
with_few_rows-split true true said after same = (cc, λ is. refl)
with_few_rows-split true false said after same = cc
with_few_rows-split false few said after same = (cc, λ is. cc)

-- a step that cuts its range into rows
has_rows-is : (said : Said) → has_rows said ≡ true →
    (0 < said.times.step) × (rows_in said.times.from said.times.to said.times.step ≤ MOST_ROWS)
has_rows-is said has = grind (arith, nat_tests)

-- the command of a form can be said
commanded-sayable : (row : Row) (name : List ℕ) (said : Said) → is_name name ≡ true → IsInRange (may_ask row) said →
    (is_in_rows row ≡ true → has_rows said ≡ true) → IsSayable (commanded row name said)
commanded-sayable rows.Exp name said is (kind, value, times, (b, p, q, r, s, e)) rowed = (is, ((b, r, s), tt))
commanded-sayable rows.ExpWithin name said is (kind, value, times, (b, p, q, r, s, e)) rowed = (is, ((b, r, s), e))
commanded-sayable rows.Power name said is (kind, value, times, (b, p, q, r, s, e)) rowed = (is, ((p, q, r, s), tt))
commanded-sayable rows.PowerWithin name said is (kind, value, times, (b, p, q, r, s, e)) rowed = (is, ((p, q, r, s), e))
commanded-sayable rows.Append name said is (kind, value, times, parameters) rowed = (is, times.0, value)
commanded-sayable rows.Open name said is (kind, value, times, parameters) rowed = (is, times.0)
commanded-sayable rows.Close name said is (kind, value, times, parameters) rowed = (is, times.0)
commanded-sayable rows.Drop name said is fine rowed = is
commanded-sayable rows.Query name said is (kind, value, times, parameters) rowed =
    (is, (times.0, times.1), alone-fits said.kind (takes-none said.kind kind))
commanded-sayable rows.Has name said is (kind, value, times, parameters) rowed = (is, (times.0, times.1), value)
commanded-sayable rows.Series name said is (kind, value, times, parameters) rowed =
    let rows = has_rows-is said (rowed refl) in
    (is, record { from = times.0; to = times.1; some = rows.0; step = times.2; few = rows.1 }, takes-none said.kind kind)
commanded-sayable rows.Windows name said is fine rowed = is
commanded-sayable rows.Certify name said is (kind, value, times, parameters) rowed = (is, (times.0, times.1), kind)
commanded-sayable rows.Last name said is fine rowed = is
commanded-sayable rows.Values name said is (kind, value, times, parameters) rowed = (is, times.0, times.1)
commanded-sayable rows.Estimate name said is (kind, value, times, parameters) rowed =
    (is, (times.0, times.1), alone-fits said.kind (takes-none said.kind kind))
commanded-sayable rows.Estimates name said is (kind, value, times, parameters) rowed =
    let rows = has_rows-is said (rowed refl) in
    (is, record { from = times.0; to = times.1; some = rows.0; step = times.2; few = rows.1 }, takes-none said.kind kind)

row-sayable : (row : Row) (name : List ℕ) (rest : List (List ℕ)) (c : Command) → row_means row name rest ≡ Ok c → IsSayable c
row-sayable row name rest c same =
    let read = bind-Ok (read_fields (fields_of row) rest said_nothing) _ c same in
    let said = bind-Ok (with_few_rows row read.0) _ c read.2 in
    let stream = bind-Ok (name_of name) _ c said.2 in
    let is : commanded row stream.0 said.0 ≡ c = cc (stream.2) in
    let both = with_few_rows-split (is_in_rows row) (has_rows read.0) read.0 said.0 said.1 in
    let fine = fields-in_range (may_ask row) (fields_of row) rest said_nothing read.0 (row-kinds row) (nothing-in_range row) read.1 in
    subst IsSayable is (subst (λ (s : Said). IsSayable (commanded row stream.0 s)) both.0
    (commanded-sayable row stream.0 read.0 (name-is name stream.0 stream.1) fine both.1))

found-sayable : (found : Option Row) (name : List ℕ) (rest : List (List ℕ)) (c : Command) →
    option_map_or (λ row. row_means row name rest) found (Err refusals.Syntax) ≡ Ok c → IsSayable c
found-sayable None name rest c same = cc
found-sayable (Some row) name rest c same = row-sayable row name rest c same

named-sayable : (verb : Verb) (ws : List (List ℕ)) (c : Command) → named_of verb ws ≡ Ok c → IsSayable c
named-sayable verb [] c same = cc
named-sayable verb (name ∷ rest) c same = found-sayable (row_for (forms_of verb) rest) name rest c same

list-sayable : (ws : List (List ℕ)) (c : Command) → list_of ws ≡ Ok c → IsSayable c
list-sayable [] c same = let is : commands.List ≡ c = cc in subst IsSayable is tt
list-sayable (more ∷ rest) c same = cc

form-sayable : (verb : Option Verb) (rest : List (List ℕ)) (c : Command) → form_of verb rest ≡ Ok c → IsSayable c
form-sayable (Some verbs.List) = list-sayable
form-sayable (Some verb) = named-sayable verb
form-sayable None = λ rest c same. cc (same)

words-sayable : (ws : List (List ℕ)) (c : Command) → meaning_of_words ws ≡ Ok (Some c) → IsSayable c
words-sayable [] c same = cc
words-sayable (word ∷ rest) c same =
    let command = bind-Ok (command_of word rest) _ (Some c) same in
    let is : command.0 ≡ c = cc (command.2) in
    subst IsSayable is (form-sayable (verb_of word) rest command.0 command.1)

-- a command that a line means is one that a line can say
pub meant-sayable : (line : List ℕ) (c : Command) → meaning line ≡ Ok (Some c) → IsSayable c
unfolding meaning
meant-sayable line c same =
    choice (IsSayable c) (nat_lt LONGEST_LINE (length line)) _ _ (Some c) (λ wrong. cc (wrong))
    (choice (IsSayable c) (is_comment line) _ _ (Some c) (λ wrong. cc (wrong)) (words-sayable (words line) c))
    same

-- and one whose times are no later than the last one
pub sayable-in_time : (c : Command) → IsSayable c → IsCommandInTime c
sayable-in_time (commands.Do (Create name params)) sayable = tt
sayable-in_time (commands.Do (Value name t v)) sayable = sayable.1
sayable-in_time (commands.Do (Open name t)) sayable = sayable.1
sayable-in_time (commands.Do (Close name t)) sayable = sayable.1
sayable-in_time (commands.Do (Drop name)) sayable = tt
sayable-in_time (commands.Ask query) sayable = sayable.1
sayable-in_time (commands.Series series) sayable = (sayable.1, sayable.2)
sayable-in_time (commands.Windows name) sayable = tt
sayable-in_time commands.List sayable = tt
sayable-in_time (commands.Certify query end) sayable = (sayable.1, sayable.2)
sayable-in_time (commands.Last name) sayable = tt
sayable-in_time (commands.Values name from to) sayable = (sayable.1, sayable.2)
