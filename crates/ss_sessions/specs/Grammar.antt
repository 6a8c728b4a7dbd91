-- What a line of sessions says.
use Rattle.std.specs.Prelude.{ℕ, ◌+◌, ◌-◌, ◌==◌, ◌&&◌, nat_le, nat_lt, if◌then◌else◌, List, [], ◌∷◌, codes, Option, Some, None}
use Rattle.std.specs.Prelude.{Result, Ok, Err}
use Rattle.std.specs.Option.{option_map}
use Rattle.ss_catalog.specs.declared.refusal.Refusal.{Refusal}
use Rattle.ss_catalog.specs.declared.refusal.Refusal.TheVariants.{Syntax, Number}
use Rattle.ss_command.specs.Grammar.{◌>>=◌, is_comment, meaning, name_of, or_number}
use Rattle.ss_command.specs.Words.{first_word, is_word, rest_of, words}
use Rattle.ss_fields.specs.Words.{number_up_to}
use Rattle.ss_sessions.specs.declared.TheConstants.{ADDRESS, MOST_ASKED}
use Rattle.ss_base.specs.declared.limits.TheConstants.{MOST_SESSIONS}
use Rattle.ss_sessions.specs.declared.order.Order.{Order}
use Rattle.ss_sessions.specs.declared.order.Order.TheVariants as orders
use Rattle.ss_sessions.specs.declared.order.Spoken.{Spoken}
use Rattle.ss_sessions.specs.declared.order.Spoken.TheVariants.{Nothing, Unaddressed, To}

-- how many rows are asked for: digits from 1 to the most
abbrev pub asked_of : List ℕ → Result ℕ Refusal
asked_of word = do
  count ← or_number (number_up_to MOST_ASKED word)
  if nat_lt 0 count then Ok count else Err Number

-- `cursor open NAME`, from NAME on
abbrev pub cursor_open_of : List (List ℕ) → Result Order Refusal
cursor_open_of (name ∷ []) = do
  stream ← name_of name
  Ok (orders.Open stream)
cursor_open_of _ = Err Syntax

-- `cursor next C`, from C on
abbrev pub cursor_next_of : List (List ℕ) → Result Order Refusal
cursor_next_of (count ∷ []) = do
  rows ← asked_of count
  Ok (orders.Next rows)
cursor_next_of _ = Err Syntax

-- `cursor close`, with nothing after it
abbrev pub cursor_close_of : List (List ℕ) → Result Order Refusal
cursor_close_of [] = Ok orders.Close
cursor_close_of _ = Err Syntax

-- the cursor forms, from the word after `cursor` on
abbrev pub cursor_form_of : List (List ℕ) → Result Order Refusal
cursor_form_of (verb ∷ rest) =
    if is_word verb (codes "open") then cursor_open_of rest
    else (if is_word verb (codes "next") then cursor_next_of rest
    else (if is_word verb (codes "close") then cursor_close_of rest
    else Err Syntax))
cursor_form_of [] = Err Syntax

-- what a session says: a cursor form where its first word is `cursor`, and otherwise what a line by itself may say
abbrev pub order_said : List ℕ → Result (Option Order) Refusal
order_said rest = if is_word (first_word rest) (codes "cursor") then (do
  order ← cursor_form_of (words (rest_of rest))
  Ok (Some order))
    else (do
      command ← meaning rest
      Ok (option_map orders.Command command))

-- the number of the session to which a word is addressed: that of `@` and one digit
abbrev pub session_of : List ℕ → Option ℕ
session_of (at ∷ digit ∷ []) =
    if at == ADDRESS && nat_le 48 digit && nat_lt digit (48 + MOST_SESSIONS) then Some (digit - 48) else None
session_of _ = None

-- what is said to a session, or to none
abbrev pub spoken_to : Option ℕ → List ℕ → Spoken
spoken_to None rest = Unaddressed
spoken_to (Some session) rest = To session (order_said rest)

-- what a line says that has this first word, or none, and this rest
abbrev pub spoken_words : List ℕ → List ℕ → Spoken
spoken_words [] rest = Nothing
spoken_words (b ∷ bs) rest = spoken_to (session_of (b ∷ bs)) rest

-- what a line says: nothing, where it has no words or is a comment, something that isn't addressed, or something to a session
abbrev pub spoken_of : List ℕ → Spoken
spoken_of line = if is_comment line then Nothing else spoken_words (first_word line) (rest_of line)
