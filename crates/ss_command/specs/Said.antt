-- What the words of a form say.
use Rattle.std.specs.Prelude.{ℕ, ◌^◌, ◌-◌, if◌then◌else◌, List, ◌∷◌, Result, Ok, Err, ℤ, pos}
use Rattle.std.specs.Option.{unwrap_or}
use Rattle.ss_fields.specs.Words.{number_up_to, signed_of}
use Rattle.ss_fields.specs.declared.number_error.NumberError.{NumberError}
use Rattle.ss_catalog.specs.Names.{is_name}
use Rattle.ss_base.specs.declared.limits.TheConstants.{LAST_TIME}
use Rattle.ss_catalog.specs.declared.query.End.TheVariants as ends
use Rattle.ss_catalog.specs.declared.query.Kind.TheVariants as kinds
use Rattle.ss_catalog.specs.declared.refusal.Refusal.{Refusal}
use Rattle.ss_catalog.specs.declared.refusal.Refusal.TheVariants as refusals
use Rattle.ss_command.specs.Table.{end_named, kind_named}
use Rattle.ss_command.specs.declared.said.Parameters.{Parameters}
use Rattle.ss_command.specs.declared.said.Said.{Said}
use Rattle.ss_command.specs.declared.said.Times.{Times}
use Rattle.ss_command.specs.declared.table.Field.{Field}
use Rattle.ss_command.specs.declared.table.Field.TheVariants as fields
use Rattle.ss_command.specs.declared.table.Letter.{Letter}
use Rattle.ss_command.specs.declared.table.Letter.TheVariants.{B, P, Q, R, S, E}

-- a step that reads, and those after it; the first that is refused is the answer
infixl 10 ◌>>=◌
abbrev pub ◌>>=◌ : {A B : Type 0} → Result A Refusal → (A → Result B Refusal) → Result B Refusal
Ok a >>= next = next a
Err refusal >>= next = Err refusal

-- a number that was read, or else the refusal NUMBER
abbrev pub or_number : {N : Type 0} → Result N NumberError → Result N Refusal
or_number (Ok n) = Ok n
or_number (Err e) = Err refusals.Number

-- a time: digits up to the last time
abbrev pub time_of : List ℕ → Result ℕ Refusal
time_of word = or_number (number_up_to LAST_TIME word)

-- a value: digits that a `-` may precede, in 64 bits
abbrev pub value_of : List ℕ → Result ℤ Refusal
value_of word = or_number (signed_of word)

-- a parameter: digits in 32 bits
abbrev pub parameter_of : List ℕ → Result ℕ Refusal
parameter_of word = or_number (number_up_to (2 ^ 32 - 1) word)

-- a name, or else the refusal NAME
abbrev pub name_of : List ℕ → Result (List ℕ) Refusal
name_of word = if is_name word then Ok word else Err refusals.Name

-- nothing, before the first word
abbrev pub said_nothing : Said
said_nothing = record {
  kind = kinds.Count;
  end = ends.Lo;
  value = pos 0;
  times = record { from = 0; to = 0; step = 0 };
  parameters = record { b = 0; p = 0; q = 0; r = 0; s = 0; e = 0 };
}

-- parameters with another one, by its letter
abbrev pub with_parameter : Letter → ℕ → Parameters → Parameters
with_parameter B n old = record old { b = n }
with_parameter P n old = record old { p = n }
with_parameter Q n old = record old { q = n }
with_parameter R n old = record old { r = n }
with_parameter S n old = record old { s = n }
with_parameter E n old = record old { e = n }

-- what was said, with times or parameters that were read
abbrev pub with_times : Said → Times → Said
with_times said times = record said { times = times }

-- what was said, with what a word says in its place
abbrev pub read_field : Field → List ℕ → Said → Result Said Refusal
read_field (fields.Fixed fixed) word said = Ok said
read_field (fields.Kind asked) word said = Ok (record said { kind = unwrap_or (kind_named asked word) said.kind })
read_field fields.End word said = Ok (record said { end = unwrap_or (end_named word) said.end })
read_field fields.Time word said = time_of word >>= (λ t. Ok (with_times said (record said.times { from = t })))
read_field fields.From word said = time_of word >>= (λ t. Ok (with_times said (record said.times { from = t })))
read_field fields.To word said = time_of word >>= (λ t. Ok (with_times said (record said.times { to = t })))
read_field fields.Step word said = time_of word >>= (λ t. Ok (with_times said (record said.times { step = t })))
read_field fields.Value word said = value_of word >>= (λ v. Ok (record said { value = v }))
read_field (fields.Parameter letter) word said =
    parameter_of word >>= (λ n. Ok (record said { parameters = with_parameter letter n said.parameters }))

-- what words say that fit a form, beside what was said before
abbrev pub read_fields : List Field → List (List ℕ) → Said → Result Said Refusal
read_fields (field ∷ form) (word ∷ words) said = read_field field word said >>= read_fields form words
read_fields _ _ said = Ok said
