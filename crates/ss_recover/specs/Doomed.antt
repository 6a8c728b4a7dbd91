-- The records of dropped streams, which are cleared one after another: a stream's own record goes last.
use Rattle.std.specs.Prelude.{ℕ, Bool, true, false, not, ◌==◌, ◌&&◌, if◌then◌else◌, IsTrue, List, [], ◌∷◌, ◌++◌, filter, map, Option, ⊤}
use Rattle.std.specs.List.{filter_map, list_any}
use Rattle.std.specs.Option.{option_map_or}
use Rattle.ss_codec.specs.declared.record.Record.{Record}
use Rattle.ss_codec.specs.declared.record.Record.TheVariants.{Free, Stream, Window, Landmark, Value}
use Rattle.ss_model.specs.State as State
use Rattle.ss_recover.specs.Carried.{is_dropped, stream_number}

-- the records in some slots
abbrev pub records_beside : List (ℕ × Option Record) → List Record
records_beside slots = filter_map (λ e. e.1) slots

-- whether a record is of the stream of a number
abbrev pub is_of : ℕ → Record → Bool
is_of number r = option_map_or (λ n. n == number) (stream_number r) false

-- whether a record is a stream's own
abbrev pub is_own : Record → Bool
is_own (Stream id name params dropped) = true
is_own _ = false

-- Whether a record may go and leave the others: it is of a dropped stream, and none of them would then be of a stream without
-- its own record.
abbrev pub may_go : Record → List Record → Bool
may_go Free others = false
may_go (Stream id name params dropped) others = dropped && not (list_any (is_of id) others)
may_go (Window id first summary) others = is_dropped id others
may_go (Landmark id number values start finish) others = is_dropped id others
may_go (Value id number index t v) others = is_dropped id others

-- each of some records may go in turn and leave those after it, and others
abbrev pub GoInTurn : List (ℕ × Option Record) → List (ℕ × Option Record) → Type 0
GoInTurn [] others = ⊤
GoInTurn (e ∷ doomed) others =
    IsTrue (option_map_or (λ r. may_go r (records_beside (doomed ++ others))) e.1 false) × GoInTurn doomed others

-- whether a record is one of a dropped stream, its own or another
abbrev pub is_doomed : Bool → List Record → Record → Bool
is_doomed own records r = (if own then is_own r else not (is_own r)) && option_map_or (λ number. is_dropped number records) (stream_number r) false

-- the slots, among some, of such records
abbrev pub doomed_among : Bool → List (ℕ × Option Record) → List (ℕ × Option Record)
doomed_among own slots = filter (λ e. option_map_or (is_doomed own (records_beside slots)) e.1 false) slots

-- the slots of the records of dropped streams: first those of windows, landmarks and values, and then those of the streams
-- themselves, each in the order of the slots
abbrev pub doomed_slots : List (ℕ × Option Record) → List ℕ
doomed_slots slots = map (λ e. e.0) (doomed_among false slots) ++ map (λ e. e.0) (doomed_among true slots)

-- the streams without that of a number
abbrev pub without_numbered : ℕ → List State.Stream → List State.Stream
without_numbered number streams = filter (λ s. not (s.number == number)) streams
