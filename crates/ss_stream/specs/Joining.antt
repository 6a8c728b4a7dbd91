-- Two windows side by side in a line, and a stream of which some windows were joined.
use Rattle.std.specs.Prelude.{◌≡◌, ℕ, Bool, true, false, List, [], ◌∷◌, Option, ⊤}
use Rattle.ss_codec.specs.declared.record.Record.{Record}
use Rattle.ss_line.specs.declared.entry.At.{At}
use Rattle.ss_line.specs.declared.entry.Entry.{Entry}
use Rattle.ss_schedule.specs.Pairs.{AreSideBySide}
use Rattle.ss_model.specs.Joins.{JoinsDue}
use Rattle.ss_targets.specs.Rule.{Rule, may_be_one, rule_of}
use Rattle.ss_model.specs.State.{Stream, values_in}
use Rattle.ss_model.specs.declared.types.Window.{Window}
use Rattle.ss_parts.specs.declared.parts.StreamParts.{StreamParts}
use Rattle.ss_parts.specs.Slots.{IsHeldIn}
use Rattle.ss_stream.specs.Held.{with_windows}

-- whether an entry and a later one, with all between them, may be one at n
abbrev pub may_be_joined : Rule → ℕ → Entry → Entry → Bool
may_be_joined rule n e f = may_be_one rule e.first f.last n e.t_first f.t_last

-- of entries no two neighbours may be one at n
abbrev pub NoEntriesAreDue : Rule → ℕ → List Entry → Type 0
NoEntriesAreDue rule n [] = ⊤
NoEntriesAreDue rule n (e ∷ []) = ⊤
NoEntriesAreDue rule n (e ∷ f ∷ es) = (may_be_joined rule n e f ≡ false) × NoEntriesAreDue rule n (f ∷ es)

-- two entries stand side by side in a line, and at n they may be one
pub record AreDue (rule : Rule) (n : ℕ) (entries : List (At × Entry)) (left right : At) : Type 0 where
  pub pair : AreSideBySide entries left right
  pub due : may_be_joined rule n pair.window pair.next ≡ true

-- what is held agrees with a stream of whose windows some were joined that are due, and its records lie in an image
pub record IsJoinedIn (others : List (ℕ × Option Record)) (part : StreamParts) (s : Stream) (image : List ℕ) : Type 0 where
  pub windows : List Window
  pub joins : JoinsDue (rule_of s.params) (values_in s) s.windows windows
  pub held : IsHeldIn others part (with_windows s windows) image
