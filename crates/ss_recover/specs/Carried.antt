-- What the slots of a map carry, by the number of the stream that each record is of.
use Rattle.std.specs.Prelude.{ℕ, Bool, false, ◌&&◌, ◌==◌, nat_le, if◌then◌else◌, List, [], ◌∷◌, map, Option, Some, None}
use Rattle.std.specs.List.{filter, filter_map, list_any, range_with_len}
use Rattle.ss_journal.specs.Redo.{SlotMap}
use Rattle.ss_codec.specs.Decoded.{decoded}
use Rattle.ss_codec.specs.declared.record.Record.{Record}
use Rattle.ss_codec.specs.declared.record.Record.TheVariants.{Free, Stream, Window, Landmark, Value}
use Rattle.ss_model.specs.State as State
use Rattle.ss_model.specs.declared.types.Window as Model
use Rattle.ss_recover.specs.Order.{place_of}

-- what each slot below the extent spells, in order: a valid record, or none. From the extent on every slot is free.
unfoldable pub spelled : SlotMap → List (Option Record)
spelled found = map (λ slot. decoded (found.bytes slot)) (range_with_len 0 found.extent)

-- the number of the stream that a record is of; a free slot is of none
abbrev pub stream_number : Record → Option ℕ
stream_number Free = None
stream_number (Stream id name params dropped) = Some id
stream_number (Window id first summary) = Some id
stream_number (Landmark id number values start finish) = Some id
stream_number (Value id number index t v) = Some id

-- the stream that a record creates, if it is a stream's record
abbrev pub created_by : Record → Option State.Created
created_by (Stream id name params dropped) = Some (record { number = id; name = name; params = params })
created_by _ = None

-- the same of one that stands: a stream's record that isn't dropped
abbrev pub stands_by : Record → Option State.Created
stands_by (Stream id name params dropped) = if dropped then None else Some (record { number = id; name = name; params = params })
stands_by _ = None

-- whether a record is that of the stream of this number, and says that it was dropped
abbrev pub is_drop_of : ℕ → Record → Bool
is_drop_of number (Stream id name params dropped) = dropped && id == number
is_drop_of number _ = false

-- the window of a record, if it is one of the stream of this number
abbrev pub window_of : ℕ → Record → Option Model.Window
window_of number (Window id first summary) = if id == number then Some (record { first = first; summary = summary }) else None
window_of number _ = None

-- whether a record is that of a landmark of the stream of this number, or of a value of one
abbrev pub is_mark_of : ℕ → Record → Bool
is_mark_of number (Landmark id n values start finish) = id == number
is_mark_of number (Value id n index t v) = id == number
is_mark_of number _ = false

-- an element before the first one whose key isn't less
abbrev pub put_in_order : {X : Type 0} → (X → ℕ) → X → List X → List X
put_in_order key x [] = x ∷ []
put_in_order key x (y ∷ ys) = if nat_le (key x) (key y) then x ∷ y ∷ ys else y ∷ put_in_order key x ys

-- the elements in the order of their keys
abbrev pub in_order : {X : Type 0} → (X → ℕ) → List X → List X
in_order key [] = []
in_order key (x ∷ xs) = put_in_order key x (in_order key xs)

-- the streams that records create, in the order of the records; dropped ones are among them
abbrev pub streams_created : List Record → List State.Created
streams_created records = filter_map created_by records

-- the streams that records create and don't drop, in the order of the records
abbrev pub streams_standing : List Record → List State.Created
streams_standing records = filter_map stands_by records

-- whether the stream of a number was dropped
abbrev pub is_dropped : ℕ → List Record → Bool
is_dropped number records = list_any (is_drop_of number) records

-- the windows that records have of the stream of a number, in the order of their positions
abbrev pub windows_carried : ℕ → List Record → List Model.Window
windows_carried number records = in_order (λ w. w.first) (filter_map (window_of number) records)

-- the records of the landmarks of the stream of a number and of their values, each landmark's before those of its values
abbrev pub marks_carried : ℕ → List Record → List Record
marks_carried number records = in_order place_of (filter (is_mark_of number) records)
