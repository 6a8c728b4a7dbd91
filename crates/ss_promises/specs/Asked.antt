-- What a line asks of a conversation, whichever form its input has, and how many rows of a cursor some lines ask for.
use Rattle.std.specs.Prelude.{◌≡◌, ◌≢◌, ℕ, ◌+◌, ◌==◌, if◌then◌else◌, List, [], ◌∷◌, All, Option, Some, None, option_map, Ok}
use Rattle.ss_arguments.specs.declared.mode.Form.{Form}
use Rattle.ss_arguments.specs.declared.mode.Form.TheVariants.{Lines, Sessions, Frames, Follow}
use Rattle.ss_command.specs.Grammar.{meaning}
use Rattle.ss_command.specs.LineState.{unless_long}
use Rattle.ss_command.specs.declared.command.Command.{Command}
use Rattle.ss_sessions.specs.Grammar.{spoken_of}
use Rattle.ss_sessions.specs.declared.order.Order.{Order}
use Rattle.ss_sessions.specs.declared.order.Order.TheVariants as orders
use Rattle.ss_sessions.specs.declared.order.Spoken.{Spoken}
use Rattle.ss_sessions.specs.declared.order.Spoken.TheVariants.{To}

-- what a line of sessions says, where it isn't too long
abbrev pub heard_of : List ℕ → Option Spoken
heard_of line = option_map spoken_of (unless_long line)

-- a line of sessions is a session's order
abbrev pub IsOrder : ℕ → Order → List ℕ → Type 0
IsOrder session order line = heard_of line ≡ Some (To session (Ok (Some order)))

-- a line asks for a command in a form of input, and the reply to it is said to a session, or to none
abbrev pub IsAsked : Form → Option ℕ → Command → List ℕ → Type 0
IsAsked (Lines framed) speaker command line = (speaker ≡ None) × (meaning line ≡ Ok (Some command))
IsAsked (Sessions framed) speaker command line = (session : ℕ) × (speaker ≡ Some session) × IsOrder session (orders.Command command) line
IsAsked Frames speaker command line = ⊥
IsAsked Follow speaker command line = ⊥

-- none of some lines closes the cursor of a session
abbrev pub NoneCloses : ℕ → List (List ℕ) → Type 0
NoneCloses session ls = All (λ line. heard_of line ≢ Some (To session (Ok (Some orders.Close)))) ls

-- for how many rows of the cursor of a session something asks that is said
abbrev pub rows_asked_by : ℕ → Spoken → ℕ
rows_asked_by session (To other (Ok (Some (orders.Next count)))) = if other == session then count else 0
rows_asked_by session _ = 0

-- and something that is heard, or nothing
abbrev pub rows_asked_in : ℕ → Option Spoken → ℕ
rows_asked_in session None = 0
rows_asked_in session (Some spoken) = rows_asked_by session spoken

-- and some lines
abbrev pub rows_asked : ℕ → List (List ℕ) → ℕ
rows_asked session [] = 0
rows_asked session (line ∷ ls) = rows_asked_in session (heard_of line) + rows_asked session ls
