-- The record that some bytes spell, computed: each field is read from its place, and what was read counts where it is a
-- valid record and the bytes are its spelling.
use Rattle.std.specs.Prelude.{ℕ, ◌+◌, ◌*◌, Bool, not, ◌==◌, ◌&&◌, if◌then◌else◌, List, Option, Some, None, take, drop, slice_index}
use Rattle.std.specs.Int.{cast_signed, w64, w128}
use Rattle.std.specs.List.{list_all}
use Rattle.std.specs.Str.{bytes_eq}
use Rattle.ss_fields.specs.Fields.{number_at}
use Rattle.ss_summary.specs.Figures.{Figures}
use Rattle.ss_summary.specs.Filters.{four, full}
use Rattle.ss_summary.specs.declared.filter.Filter.{Filter}
use Rattle.ss_catalog.specs.Params.{step_for}
use Rattle.ss_catalog.specs.declared.params.Family.{Family}
use Rattle.ss_catalog.specs.declared.params.Family.TheVariants.{Exp, Power}
use Rattle.ss_catalog.specs.declared.params.Params.{Params}
use Rattle.ss_codec.specs.declared.record.Record.{Record}
use Rattle.ss_codec.specs.declared.record.Record.TheVariants.{Free, Stream, Window, Landmark, Value}
use Rattle.ss_codec.specs.Record.{is_full, is_valid, spelling}

-- the family in some bytes, which is byte 1, and whose numbers stand from a place on
abbrev pub family_in : ℕ → List ℕ → Family
family_in place bytes =
    if slice_index bytes 1 == 1
    then Exp (number_at 4 bytes place) (number_at 4 bytes (place + 4)) (number_at 4 bytes (place + 8))
    else Power (number_at 4 bytes place) (number_at 4 bytes (place + 4)) (number_at 4 bytes (place + 8)) (number_at 4 bytes (place + 12))

-- the parameters in some bytes: their family, and at another place their step
unfoldable pub params_in : ℕ → ℕ → List ℕ → Params
params_in place step bytes = record { family = family_in place bytes; within = step_for (number_at 4 bytes step) }

-- the filter in the bytes of a window
abbrev pub filter_in : List ℕ → Filter
filter_in bytes = if slice_index bytes 1 == 1 then four (λ k. number_at 8 bytes (72 + 8 * k)) else full

-- the figures in the bytes of a window
abbrev pub figures_in : List ℕ → Figures
figures_in bytes = record {
  count = number_at 8 bytes 16;
  sum = cast_signed w128 (number_at 16 bytes 24);
  min = cast_signed w64 (number_at 8 bytes 40);
  max = cast_signed w64 (number_at 8 bytes 48);
  t_first = number_at 8 bytes 56;
  t_last = number_at 8 bytes 64;
  filter = filter_in bytes;
}

-- when a landmark closes by its bytes, if it is closed
unfoldable pub finish_in : List ℕ → Option ℕ
finish_in bytes = if slice_index bytes 1 == 2 then Some (number_at 8 bytes 24) else None

-- what a stream's record has, a window's, a landmark's, and a landmark value's, in the bytes of one
unfoldable pub stream_in : List ℕ → Record
stream_in bytes =
    Stream (number_at 4 bytes 4) (take (slice_index bytes 2) (drop 24 bytes)) (params_in 8 56 bytes) (slice_index bytes 3 == 1)

unfoldable pub window_in : List ℕ → Record
window_in bytes = Window (number_at 4 bytes 4) (number_at 8 bytes 8) (figures_in bytes)

unfoldable pub landmark_in : List ℕ → Record
landmark_in bytes =
    Landmark (number_at 4 bytes 4) (number_at 4 bytes 8) (number_at 4 bytes 12) (number_at 8 bytes 16) (finish_in bytes)

unfoldable pub value_in : List ℕ → Record
value_in bytes =
    Value (number_at 4 bytes 4) (number_at 4 bytes 8) (number_at 4 bytes 12) (number_at 8 bytes 16) (cast_signed w64 (number_at 8 bytes 24))

-- the one record whose spelling the bytes can be, by their kind
unfoldable pub record_in : List ℕ → Record
record_in bytes =
    if slice_index bytes 0 == 1
    then stream_in bytes
    else if slice_index bytes 0 == 2
    then window_in bytes
    else if slice_index bytes 0 == 3
    then landmark_in bytes
    else if slice_index bytes 0 == 4
    then value_in bytes
    else Free

-- whether the filter of a window is spelled as its spelling has it: with zeros where it has all bits, and with its words where
-- it hasn't
abbrev pub is_filter_spelled : List ℕ → Bool
is_filter_spelled bytes =
    if slice_index bytes 1 == 1
    then not (is_full (filter_in bytes))
    else slice_index bytes 1 == 0 && list_all (λ byte. byte == 0) (take 32 (drop 72 bytes))

-- whether zeros stand wherever a window has no field, and its filter is spelled as it should be
abbrev pub is_blank_beside : List ℕ → Bool
is_blank_beside bytes =
    is_filter_spelled bytes && list_all (λ byte. byte == 0) (take 2 (drop 2 bytes)) && list_all (λ byte. byte == 0) (take 24 (drop 104 bytes))

-- the record, if it is valid
abbrev pub checked : Record → Option Record
checked r = if is_valid r then Some r else None

-- the valid record whose spelling the bytes are, if they are that of one
unfoldable pub decoded : List ℕ → Option Record
decoded bytes = if bytes_eq (spelling (record_in bytes)) bytes then checked (record_in bytes) else None
