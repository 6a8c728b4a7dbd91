-- A stream that is dropped: the slots of its records in turn, and the record that says so.
use Rattle.std.specs.Prelude.{ℕ, List, [], ◌∷◌, ◌++◌, map, true}
use Rattle.ss_line.specs.declared.entry.Entry.{Entry}
use Rattle.ss_targets.specs.Targets.{params_of}
use Rattle.ss_codec.specs.declared.record.Record.{Record}
use Rattle.ss_codec.specs.declared.record.Record.TheVariants as records
use Rattle.ss_parts.specs.Held.{entries_of, mark_slots}
use Rattle.ss_parts.specs.declared.parts.StreamParts.{StreamParts}

-- the slots of all records of a stream, its own last
abbrev pub slots_in_turn : StreamParts → List ℕ
slots_in_turn part = map (λ (e : Entry). e.slot) (entries_of part) ++ mark_slots part ++ part.slot ∷ []

-- the record of a stream that was dropped
abbrev pub dropped_record : StreamParts → Record
dropped_record part = records.Stream part.id.0 part.name (params_of part.target) true
