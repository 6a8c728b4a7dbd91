-- Worked rows of sessions: the reports of some inputs, computed.
use Rattle.ss_program.proofs.Common.{false, ◌≡◌, ◌++◌, [], ◌∷◌, refl, ℕ, List, true, codes, flat_map, map, pos, negsuc, Sessions, Create, Value, Drop, exp}
use Rattle.ss_program.proofs.Common.{lines, Happened, added, accepted, report, begun, turn_of}
use Rattle.std.specs.Fmt.{digits}
use Rattle.ss_catalog.specs.Names.{is_name}
use Rattle.ss_command.specs.Grammar.{meaning}
use Rattle.ss_command.specs.Lines.{ended_lines, unended}
use Rattle.ss_command.specs.Words.{words}
use Rattle.ss_fields.specs.Words.{is_number, number_of, number_up_to, signed_of}
use Rattle.ss_model.specs.Refusals.{refuses}
use Rattle.ss_model.specs.State.{state}
use Rattle.ss_sessions.specs.Cursors.{refuses_cursor}
use Rattle.ss_targets.specs.Windowing.{window_index}

-- lines, each with its line end
abbrev text : List (List ℕ) → List ℕ
text ls = flat_map (λ line. line ++ 10 ∷ []) ls

-- a stream and seven readings
abbrev history : List Happened
history = map added (
    Create (codes "a") (exp 2 1 1) ∷ Value (codes "a") 10 (pos 5) ∷ Value (codes "a") 20 (negsuc 2) ∷ Value (codes "a") 30 (pos 8)
    ∷ Value (codes "a") 40 (pos 1) ∷ Value (codes "a") 50 (pos 9) ∷ Value (codes "a") 60 (pos 2) ∷ Value (codes "a") 70 (pos 7) ∷ [])

-- a cursor shows the windows as they were when it was opened, whatever another session appends and drops meanwhile
abbrev readings : List ℕ
readings =
    text (codes "@1 cursor open a" ∷ codes "@2 append a 80 1" ∷ codes "@1 cursor next 2" ∷ codes "@2 drop a" ∷ codes "@1 cursor next 5"
    ∷ codes "@1 cursor next 1" ∷ [])

report-readings : report (begun (Sessions false) history) readings
    ≡ text (codes "@1 cursor 3" ∷ codes "@2 ok 8 4" ∷ codes "@1 rows 2" ∷ codes "@1 1 4 4 11 -3 8 10 40" ∷ codes "@1 5 6 2 11 2 9 50 60"
    ∷ codes "@2 ok 0 0" ∷ codes "@1 rows 1" ∷ codes "@1 7 7 1 7 7 7 70 70" ∷ codes "@1 rows 0" ∷ [])
unfolding ended_lines unended meaning words is_number number_of number_up_to signed_of is_name state refuses refuses_cursor window_index digits
report-readings = refl

accepted-readings : accepted (begun (Sessions false) history) (lines readings) ≡ map added (Value (codes "a") 80 (pos 1) ∷ Drop (codes "a") ∷ [])
unfolding ended_lines unended meaning words is_number number_of number_up_to signed_of is_name state refuses refuses_cursor window_index
accepted-readings = refl

-- a session without a cursor and one that has one, and lines that are addressed to none
abbrev mistakes : List ℕ
mistakes =
    text (codes "@3 cursor next 1" ∷ codes "@3 cursor open a" ∷ codes "@3 cursor open a" ∷ codes "@3 cursor close" ∷ codes "@8 list" ∷ codes "list" ∷ [])

report-mistakes : report (begun (Sessions false) history) mistakes
    ≡ text (codes "@3 refused NO_CURSOR" ∷ codes "@3 cursor 3" ∷ codes "@3 refused BUSY" ∷ codes "@3 closed" ∷ codes "refused SYNTAX"
    ∷ codes "refused SYNTAX" ∷ [])
unfolding ended_lines unended meaning words is_number number_of number_up_to signed_of is_name state refuses refuses_cursor window_index digits
report-mistakes = refl

-- what means nothing has no reply, with a session or without
abbrev silences : List ℕ
silences = text ([] ∷ codes "# note" ∷ codes "@5" ∷ codes "@5  " ∷ codes "@5 # note" ∷ codes "@5 cursor open b" ∷ codes "@5 cursor next 0" ∷ [])

report-silences : report (begun (Sessions false) history) silences ≡ text (codes "@5 refused UNKNOWN" ∷ codes "@5 refused NUMBER" ∷ [])
unfolding ended_lines unended meaning words is_number number_of number_up_to signed_of is_name state refuses refuses_cursor window_index digits
report-silences = refl

-- a line that is too long is refused, to none
report-long : report (begun (Sessions false) history)
    (text ((codes "@1 " ++ flat_map (λ line. line ++ line ++ line) (codes "0123456789012345678901234567890123456789"
    ∷ codes "0123456789012345678901234567890123456789" ∷ codes "0123456789012345678901234567890123456789" ∷ [])) ∷ []))
    ≡ text (codes "refused LINE" ∷ [])
unfolding ended_lines unended meaning words is_number number_of number_up_to signed_of is_name state refuses refuses_cursor window_index digits
report-long = refl

-- opening a cursor wants memory
wants-open : (turn_of (begun (Sessions false) history) (codes "@1 cursor open a")).wants_memory ≡ true
unfolding meaning words is_number number_of number_up_to signed_of is_name state refuses refuses_cursor window_index
wants-open = refl
