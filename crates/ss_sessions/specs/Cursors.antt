-- The cursors of the sessions: the rows that each has left.
use Rattle.std.specs.Prelude.{ℕ, Bool, not, is_some, List, [], ◌∷◌, map, slice_get, slice_set, replicate, Option, Some, None}
use Rattle.std.specs.Option.{option_map}
use Rattle.ss_catalog.specs.declared.refusal.Refusal.{Refusal}
use Rattle.ss_catalog.specs.declared.refusal.Refusal.TheVariants.{Unknown, Busy}
use Rattle.ss_model.specs.Refusals.{first_that_applies, stands}
use Rattle.ss_model.specs.Shown.{placed_of}
use Rattle.ss_model.specs.State.{Stream, stream_named}
use Rattle.ss_model.specs.declared.types.Placed.{Placed}
use Rattle.ss_base.specs.declared.limits.TheConstants.{MOST_SESSIONS}

-- of each session, in the order of their numbers, the rows that its cursor has left, next first; none where it has no cursor
abbrev pub Cursors : Type 0
Cursors = List (Option (List Placed))

-- no session has a cursor
abbrev pub no_cursors : Cursors
no_cursors = replicate MOST_SESSIONS None

-- what there is of an option of an option
abbrev pub flattened : {A : Type 0} → Option (Option A) → Option A
flattened None = None
flattened (Some o) = o

-- the cursor of a session
abbrev pub cursor_of : Cursors → ℕ → Option (List Placed)
cursor_of cursors session = flattened (slice_get cursors session)

-- the cursors, with this one or none of a session, and those of the others
abbrev pub with_cursor : Cursors → ℕ → Option (List Placed) → Cursors
with_cursor cursors session cursor = slice_set cursors session cursor

-- the rows that a cursor over a stream begins with: all windows of the stream, oldest first
abbrev pub cursor_rows : Stream → List Placed
cursor_rows s = map placed_of s.windows

-- the cursors once a session has opened one over the stream of a name, where that stands
abbrev pub cursor_opened : Cursors → ℕ → List ℕ → List Stream → Option Cursors
cursor_opened cursors session name streams = option_map (λ s. with_cursor cursors session (Some (cursor_rows s))) (stream_named name streams)

-- the refusals of a cursor in the order of their numbers, each with whether it applies
abbrev pub cursor_refusals : Bool → Option (List Placed) → List (Bool × Refusal)
cursor_refusals stands cursor = (not stands, Unknown) ∷ (is_some cursor, Busy) ∷ []

-- why a cursor over the stream of a name is refused to a session in a state, where it is
unfoldable pub refuses_cursor : List Stream → List ℕ → Option (List Placed) → Option Refusal
refuses_cursor streams name cursor = first_that_applies (cursor_refusals (stands name streams) cursor)
