-- Records: which there are, and how each is spelled in the 128 bytes of a slot.
use Rattle.std.specs.Prelude.{◌≡◌, ℕ, ◌+◌, ◌-◌, ◌^◌, Bool, true, ◌&&◌, ◌==◌, if◌then◌else◌, nat_le, nat_lt, IsTrue, List, [], ◌∷◌, length, replicate}
use Rattle.std.specs.Prelude.{Option, Some, None}
use Rattle.std.specs.List.{list_all}
use Rattle.ss_summary.specs.Filters.{word}
use Rattle.ss_summary.specs.Possible.{is_possible, fits_i64}
use Rattle.ss_summary.specs.declared.filter.Filter.{Filter}
use Rattle.ss_base.specs.declared.limits.TheConstants.{MOST_VALUES}
use Rattle.ss_catalog.specs.Names.{is_name}
use Rattle.ss_catalog.specs.Params.{in_range, step_number}
use Rattle.ss_base.specs.declared.limits.TheConstants.{LAST_TIME}
use Rattle.ss_catalog.specs.declared.params.Params.{Params}
use Rattle.ss_catalog.specs.declared.params.Family.{Family}
use Rattle.ss_catalog.specs.declared.params.Family.TheVariants.{Exp, Power}
use Rattle.ss_base.specs.declared.limits.TheConstants.{SLOT_SIZE}
use Rattle.ss_codec.specs.declared.record.Record.{Record}
use Rattle.ss_codec.specs.declared.record.Record.TheVariants.{Free, Stream, Window, Landmark, Value}
use Rattle.ss_codec.specs.Fields.{Field, u8, u32, u64, i64, i128, text, with_fields}

-- a number of 32 bits that counts from 1
abbrev pub counts_from_1 : ℕ → Bool
counts_from_1 n = nat_le 1 n && nat_lt n (2 ^ 32)

-- a landmark may have so many values and these times: an open one has 0, and a closed one closes at or after its opening
abbrev pub is_interval : ℕ → ℕ → Option ℕ → Bool
is_interval values start None = values == 0 && nat_le start LAST_TIME
is_interval values start (Some finish) = nat_lt values (2 ^ 32) && nat_le start finish && nat_le finish LAST_TIME

-- a step is a number of 32 bits
abbrev pub has_small_step : Params → Bool
has_small_step params = nat_lt (step_number params.within) (2 ^ 32)

-- a record that a slot may hold. Streams have numbers of 32 bits, values have positions from 1 on, and so have landmarks and
-- their values.
unfoldable pub is_valid : Record → Bool
is_valid Free = true
is_valid (Stream id name params dropped) = nat_lt id (2 ^ 32) && is_name name && in_range params && has_small_step params
is_valid (Window id first summary) =
    nat_lt id (2 ^ 32) && nat_le 1 first && nat_le (first + summary.count - 1) MOST_VALUES && is_possible summary
is_valid (Landmark id number values start finish) = nat_lt id (2 ^ 32) && counts_from_1 number && is_interval values start finish
is_valid (Value id number index t v) =
    nat_lt id (2 ^ 32) && counts_from_1 number && counts_from_1 index && nat_le t LAST_TIME && fits_i64 v

-- the number of a family, and its four parameters; the exponential family has three, and a 0
abbrev pub family : Family → ℕ
family (Exp b r s) = 1
family (Power p q r s) = 2

abbrev pub parameters : Family → ℕ × ℕ × ℕ × ℕ
parameters (Exp b r s) = (b, r, s, 0)
parameters (Power p q r s) = (p, q, r, s)

-- the number of a stream's state, 1 once it was dropped
abbrev pub drop_number : Bool → ℕ
drop_number dropped = if dropped then 1 else 0

-- the number of a landmark's state, 1 as long as it is open, and its closing time; one that is open has a 0
abbrev pub state_number : Option ℕ → ℕ
state_number None = 1
state_number (Some finish) = 2

abbrev pub closing_time : Option ℕ → ℕ
closing_time None = 0
closing_time (Some finish) = finish

-- whether a filter has all bits; the number of a filter's state, 1 where it hasn't; and each of its words, as it is spelled: a
-- filter with all bits has zeros
abbrev pub is_full : Filter → Bool
is_full filter = list_all (λ word. word == 2 ^ 64 - 1) filter.words

abbrev pub filter_number : Filter → ℕ
filter_number filter = if is_full filter then 0 else 1

abbrev pub word_spelled : Filter → ℕ → ℕ
word_spelled filter k = if is_full filter then 0 else word filter k

-- the fields of a record, each at its place. Byte 0 is the kind, and a free slot has no field.
abbrev pub fields : Record → List Field
fields Free = []
fields (Stream id name params dropped) =
    u8 0 1
    ∷ u8 1 (family params.family)
    ∷ u8 2 (length name)
    ∷ u8 3 (drop_number dropped)
    ∷ u32 4 id
    ∷ u32 8 (parameters params.family).0
    ∷ u32 12 (parameters params.family).1
    ∷ u32 16 (parameters params.family).2
    ∷ u32 20 (parameters params.family).3
    ∷ text 24 name
    ∷ u32 56 (step_number params.within)
    ∷ []
fields (Window id first summary) =
    u8 0 2
    ∷ u8 1 (filter_number summary.filter)
    ∷ u32 4 id
    ∷ u64 8 first
    ∷ u64 16 summary.count
    ∷ i128 24 summary.sum
    ∷ i64 40 summary.min
    ∷ i64 48 summary.max
    ∷ u64 56 summary.t_first
    ∷ u64 64 summary.t_last
    ∷ u64 72 (word_spelled summary.filter 0)
    ∷ u64 80 (word_spelled summary.filter 1)
    ∷ u64 88 (word_spelled summary.filter 2)
    ∷ u64 96 (word_spelled summary.filter 3)
    ∷ []
fields (Landmark id number values start finish) =
    u8 0 3
    ∷ u8 1 (state_number finish)
    ∷ u32 4 id
    ∷ u32 8 number
    ∷ u32 12 values
    ∷ u64 16 start
    ∷ u64 24 (closing_time finish)
    ∷ []
fields (Value id number index t v) =
    u8 0 4
    ∷ u32 4 id
    ∷ u32 8 number
    ∷ u32 12 index
    ∷ u64 16 t
    ∷ i64 24 v
    ∷ []

-- the bytes of a record: its fields, and zeros wherever no field is
unfoldable pub spelling : Record → List ℕ
spelling r = with_fields (replicate SLOT_SIZE 0) (fields r)

-- the bytes are those of a valid record
pub record Spells (bytes : List ℕ) (r : Record) : Type 0 where
  pub valid : IsTrue (is_valid r)
  pub spelled : bytes ≡ spelling r
