-- Worked rows, computed: what lines of sessions say, and the cursors after a few calls.
use Rattle.std.proofs.Common.{◌≡◌, ℕ, List, [], ◌∷◌, map, Some, None, Ok, Err, refl}
use Rattle.std.specs.Prelude.{codes}
use Rattle.ss_catalog.specs.Params.{exp}
use Rattle.ss_catalog.specs.declared.refusal.Refusal.TheVariants as refusals
use Rattle.ss_catalog.specs.Names.{is_name}
use Rattle.ss_command.specs.Grammar.{meaning}
use Rattle.ss_command.specs.Words.{words}
use Rattle.ss_fields.specs.Words.{is_number, number_of, number_up_to, signed_of}
use Rattle.ss_command.specs.declared.command.Command.TheVariants as commands
use Rattle.ss_model.specs.State.{Stream}
use Rattle.ss_outside.specs.Verdict as verdicts
use Rattle.ss_sessions.specs.Cursors.{cursor_of, no_cursors, refuses_cursor, with_cursor}
use Rattle.ss_sessions.specs.Errors.{refusal_of, verdict_of_cursor}
use Rattle.ss_sessions.specs.Grammar.{asked_of, session_of, spoken_of}
use Rattle.ss_sessions.specs.declared.error.CursorError.TheVariants as errors
use Rattle.ss_sessions.specs.declared.error.CursorRefusal.TheVariants.{Unknown, Busy}
use Rattle.ss_sessions.specs.declared.order.Order.TheVariants as orders
use Rattle.ss_sessions.specs.declared.order.Spoken.TheVariants.{Nothing, Unaddressed, To}

-- eight sessions, by one digit
first_session : session_of (codes "@0") ≡ Some 0
first_session = refl

last_session : session_of (codes "@7") ≡ Some 7
last_session = refl

no_eighth : session_of (codes "@8") ≡ None
no_eighth = refl

below_digits : session_of (codes "@/") ≡ None
below_digits = refl

two_digits : session_of (codes "@07") ≡ None
two_digits = refl

no_digit : session_of (codes "@") ≡ None
no_digit = refl

other_mark : session_of (codes "#1") ≡ None
other_mark = refl

-- from 1 to 1000 rows
none_asked : asked_of (codes "0") ≡ Err refusals.Number
unfolding is_number number_of number_up_to
none_asked = refl

one_asked : asked_of (codes "1") ≡ Ok 1
unfolding is_number number_of number_up_to
one_asked = refl

most_asked : asked_of (codes "1000") ≡ Ok 1000
unfolding is_number number_of number_up_to
most_asked = refl

leading_zeros : asked_of (codes "0005") ≡ Ok 5
unfolding is_number number_of number_up_to
leading_zeros = refl

too_many_asked : asked_of (codes "1001") ≡ Err refusals.Number
unfolding is_number number_of number_up_to
too_many_asked = refl

no_sign : asked_of (codes "+5") ≡ Err refusals.Number
unfolding is_number number_of number_up_to
no_sign = refl

-- the verdict of each answer
opening_fine : verdict_of_cursor {T = ℕ} (Ok 3) ≡ verdicts.fine
opening_fine = refl

opening_refused : verdict_of_cursor {T = ℕ} (Err (errors.Refused Unknown)) ≡ verdicts.refused
opening_refused = refl

opening_busy : verdict_of_cursor {T = ℕ} (Err (errors.Refused Busy)) ≡ verdicts.refused
opening_busy = refl

opening_failed : verdict_of_cursor {T = ℕ} (Err errors.Disk) ≡ verdicts.failed
opening_failed = refl

opening_changed : verdict_of_cursor {T = ℕ} (Err (errors.Changed 5)) ≡ verdicts.changed 5
opening_changed = refl

opening_starved : verdict_of_cursor {T = ℕ} (Err errors.OutOfMemory) ≡ verdicts.no_memory
opening_starved = refl

-- each refusal as that of a line
as_refusals : map refusal_of (Unknown ∷ Busy ∷ []) ≡ refusals.Unknown ∷ refusals.Busy ∷ []
as_refusals = refl

-- whether the session has a cursor matters where the stream stands alone
bare : List Stream
bare = record { number = 0; name = codes "a"; params = exp 2 1 1; windows = []; landmarks = [] } ∷ []

standing : map (refuses_cursor bare (codes "a")) (None ∷ Some [] ∷ []) ≡ None ∷ Some refusals.Busy ∷ []
unfolding refuses_cursor bare
standing = refl

not_standing : map (refuses_cursor bare (codes "b")) (None ∷ Some [] ∷ []) ≡ Some refusals.Unknown ∷ Some refusals.Unknown ∷ []
unfolding refuses_cursor bare
not_standing = refl

-- a session's cursor, and that of another
its_own : cursor_of (with_cursor no_cursors 7 (Some [])) 7 ≡ Some []
its_own = refl

of_another : cursor_of (with_cursor no_cursors 7 (Some [])) 6 ≡ None
of_another = refl

past_the_last : with_cursor no_cursors 8 (Some []) ≡ no_cursors
past_the_last = refl

-- lines
unaddressed : spoken_of (codes "list") ≡ Unaddressed
unfolding words meaning is_number number_of number_up_to is_name
unaddressed = refl

no_words : spoken_of (codes "  ") ≡ Nothing
unfolding words meaning is_number number_of number_up_to is_name
no_words = refl

comment : spoken_of (codes "# @1 list") ≡ Nothing
unfolding words meaning is_number number_of number_up_to is_name
comment = refl

blank_before_mark : spoken_of (codes " # list") ≡ Unaddressed
unfolding words meaning is_number number_of number_up_to is_name
blank_before_mark = refl

empty_rest : spoken_of (codes "@3") ≡ To 3 (Ok None)
unfolding words meaning is_number number_of number_up_to is_name
empty_rest = refl

comment_rest : spoken_of (codes "@3  # list") ≡ To 3 (Ok None)
unfolding words meaning is_number number_of number_up_to is_name
comment_rest = refl

plain : spoken_of (codes " @3  list ") ≡ To 3 (Ok (Some (orders.Command commands.List)))
unfolding words meaning is_number number_of number_up_to is_name
plain = refl

open_a : spoken_of (codes "@1 cursor open a") ≡ To 1 (Ok (Some (orders.Open (codes "a"))))
unfolding words meaning is_number number_of number_up_to is_name
open_a = refl

open_no_name : spoken_of (codes "@1 cursor open a*") ≡ To 1 (Err refusals.Name)
unfolding words meaning is_number number_of number_up_to is_name
open_no_name = refl

next_two : spoken_of (codes "@1 cursor next 2") ≡ To 1 (Ok (Some (orders.Next 2)))
unfolding words meaning is_number number_of number_up_to is_name
next_two = refl

next_none : spoken_of (codes "@1 cursor next 0") ≡ To 1 (Err refusals.Number)
unfolding words meaning is_number number_of number_up_to is_name
next_none = refl

close_it : spoken_of (codes "@1 cursor close") ≡ To 1 (Ok (Some orders.Close))
unfolding words meaning is_number number_of number_up_to is_name
close_it = refl

close_more : spoken_of (codes "@1 cursor close a") ≡ To 1 (Err refusals.Syntax)
unfolding words meaning is_number number_of number_up_to is_name
close_more = refl

bare_cursor : spoken_of (codes "@1 cursor") ≡ To 1 (Err refusals.Syntax)
unfolding words meaning is_number number_of number_up_to is_name
bare_cursor = refl

-- what is wrong with the words of a form comes before what is wrong with a number or a name
open_nothing : spoken_of (codes "@1 cursor open") ≡ To 1 (Err refusals.Syntax)
unfolding words meaning is_number number_of number_up_to is_name
open_nothing = refl

open_two : spoken_of (codes "@1 cursor open a* b") ≡ To 1 (Err refusals.Syntax)
unfolding words meaning is_number number_of number_up_to is_name
open_two = refl

next_nothing : spoken_of (codes "@1 cursor next") ≡ To 1 (Err refusals.Syntax)
unfolding words meaning is_number number_of number_up_to is_name
next_nothing = refl

next_two_words : spoken_of (codes "@1 cursor next x 1") ≡ To 1 (Err refusals.Syntax)
unfolding words meaning is_number number_of number_up_to is_name
next_two_words = refl

next_misspelt : spoken_of (codes "@1 cursor next x") ≡ To 1 (Err refusals.Number)
unfolding words meaning is_number number_of number_up_to is_name
next_misspelt = refl

other_form : spoken_of (codes "@1 cursor rewind") ≡ To 1 (Err refusals.Syntax)
unfolding words meaning is_number number_of number_up_to is_name
other_form = refl

-- the first word of the rest is `cursor`, byte for byte
in_capitals : spoken_of (codes "@1 Cursor close") ≡ To 1 (Err refusals.Syntax)
unfolding words meaning is_number number_of number_up_to is_name
in_capitals = refl

with_a_letter : spoken_of (codes "@1 cursors close") ≡ To 1 (Err refusals.Syntax)
unfolding words meaning is_number number_of number_up_to is_name
with_a_letter = refl

-- tabs are blanks, before the first word and behind it
between_tabs : spoken_of (codes "\t@1\tcursor\tnext\t1000\t") ≡ To 1 (Ok (Some (orders.Next 1000)))
unfolding words meaning is_number number_of number_up_to is_name
between_tabs = refl

-- the first word is `@` and a digit 0 to 7, and nothing else
no_blank : spoken_of (codes "@1list") ≡ Unaddressed
unfolding words meaning is_number number_of number_up_to is_name
no_blank = refl

to_the_eighth : spoken_of (codes "@8 # a note") ≡ Unaddressed
unfolding words meaning is_number number_of number_up_to is_name
to_the_eighth = refl

to_two : spoken_of (codes "@1 @2 list") ≡ To 1 (Err refusals.Syntax)
unfolding words meaning is_number number_of number_up_to is_name
to_two = refl

-- a rest is refused as a line by itself
refused_number : spoken_of (codes "@2 append x! y 1") ≡ To 2 (Err refusals.Number)
unfolding words meaning is_number number_of number_up_to is_name
refused_number = refl

refused_name : spoken_of (codes "@2 append x! 1 1") ≡ To 2 (Err refusals.Name)
unfolding words meaning is_number number_of number_up_to signed_of is_name
refused_name = refl

-- no number of 64 bits
past_all : asked_of (codes "18446744073709551616") ≡ Err refusals.Number
unfolding is_number number_of number_up_to
past_all = refl
