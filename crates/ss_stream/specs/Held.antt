-- What is held in memory of streams, and of one among others with its records.
use Rattle.std.specs.Prelude.{◌≡◌, ◌⊎◌, ℕ, ℤ, ◌+◌, List, [], ◌∷◌, ◌++◌, map, Option, ◌≤◌}
use Rattle.ss_codec.specs.declared.record.Record.{Record}
use Rattle.ss_line.specs.declared.entry.Entry.{Entry}
use Rattle.ss_summary.specs.Points.{New}
use Rattle.ss_model.specs.Joins.{JoinsDue}
use Rattle.ss_targets.specs.Rule.{rule_of}
use Rattle.ss_model.specs.State.{Stream, values_in}
use Rattle.ss_model.specs.Steps.{single_window}
use Rattle.ss_model.specs.declared.types.Window.{Window}
use Rattle.ss_model.specs.Outline.{Outline}
use Rattle.ss_parts.specs.Held.{RiseToLast, TileFrom, entries_of}
use Rattle.ss_parts.specs.declared.parts.StreamParts.{StreamParts}
use Rattle.ss_parts.specs.Slots.{IsHeldIn}
use Rattle.ss_stream.specs.declared.held.HeldStream.{HeldStream}

-- what the records of streams that are held say
abbrev pub held_parts : List HeldStream → List StreamParts
held_parts held = map (λ (stream : HeldStream). stream.part) held

-- a stream with these windows in place of its own
abbrev pub with_windows : Stream → List Window → Stream
with_windows s ws = record s { windows = ws }

-- An image has the records of a stream of whose windows some were joined that are due, however many.
pub record IsPartlyJoined (others : List (ℕ × Option Record)) (s : Stream) (image : List ℕ) : Type 0 where
  pub part : StreamParts
  pub windows : List Window
  pub joins : JoinsDue (rule_of s.params) (values_in s) s.windows windows
  pub held : IsHeldIn others part (with_windows s windows) image

-- a stream with a value as a window of its own, before any window is joined
abbrev pub with_single : Stream → ℕ → ℤ → Stream
with_single s t v = with_windows s (s.windows ++ single_window (values_in s + 1) (t, v, New) ∷ [])

-- what a crash in the middle of an append may leave: the stream from before, or with the value, however many were joined
abbrev pub IsHalfway : List (ℕ × Option Record) → StreamParts → Stream → ℕ → ℤ → List ℕ → Type 0
IsHalfway others part s t v image = IsHeldIn others part s image ⊎ IsPartlyJoined others (with_single s t v) image

-- how many values the entries of a stream hold
abbrev pub values_held : List Entry → ℕ
values_held [] = 0
values_held (e ∷ []) = e.last
values_held (e ∷ f ∷ es) = values_held (f ∷ es)

-- the first time and the last of each entry
abbrev pub ends_held : List Entry → List ℕ
ends_held [] = []
ends_held (e ∷ es) = e.t_first ∷ e.t_last ∷ ends_held es

-- the same stream with the same landmarks, perhaps with other windows
pub record IsSameStream (old new : StreamParts) : Type 0 where
  pub id : new.id ≡ old.id
  pub name : new.name ≡ old.name
  pub target : new.target ≡ old.target
  pub slot : new.slot ≡ old.slot
  pub landmarks : new.landmarks ≡ old.landmarks

-- the windows of a stream hold its positions in order, and their times rise up to its last time
pub record IsOrdered (part : StreamParts) : Type 0 where
  pub tiles : TileFrom 1 (entries_of part)
  pub times : RiseToLast part

-- a stream as it is held, but for the room that its line and its landmarks have to spare
abbrev pub without_spare : StreamParts → StreamParts
without_spare part = record part {
  line = record { entries = part.line.entries; spare = 0 };
  landmarks = record part.landmarks { room = 0; value_room = 0 };
}

-- no room to spare falls
pub record KeepsSpare (was is : StreamParts) : Type 0 where
  pub line : was.line.spare ≤ is.line.spare
  pub room : was.landmarks.room ≤ is.landmarks.room
  pub value_room : was.landmarks.value_room ≤ is.landmarks.value_room

-- the outline of a stream, by what is held of it, and that of the stream of a name, where it is held
abbrev pub outline_held : StreamParts → Outline
outline_held part = record {
  last_time = part.last_time;
  landmarks = part.landmarks.landmarks;
  values = values_held (entries_of part);
}
