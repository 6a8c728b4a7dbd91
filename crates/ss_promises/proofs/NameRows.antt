-- Worked rows of names whose stream was dropped, and of those that are created, computed.
use Rattle.ss_program.proofs.Common.{◌≡◌, ◌++◌, [], ◌∷◌, refl, ℕ, List, None, Some, codes, false, flat_map, map, pos, negsuc, Sessions, Create, Value, Drop}
use Rattle.ss_program.proofs.Common.{exp, lines, Do, Windows, Happened, added, values_of, New, accepted, report, begun, plain_talk}
use Rattle.ss_promises.specs.Needed.{needed}
use Rattle.ss_model.specs.Answers.{outcome_of}
use Rattle.std.specs.Fmt.{digits}
use Rattle.ss_catalog.specs.Names.{is_name}
use Rattle.ss_command.specs.Grammar.{meaning}
use Rattle.ss_command.specs.Lines.{ended_lines, unended}
use Rattle.ss_command.specs.Words.{words}
use Rattle.ss_command.specs.declared.command.Command.TheVariants.{List as ListAll}
use Rattle.ss_fields.specs.Words.{is_number, number_of, number_up_to, signed_of}
use Rattle.ss_model.specs.Answers.{refuses_query}
use Rattle.ss_model.specs.Newest.{refuses_values}
use Rattle.ss_model.specs.Refusals.{refuses, refuses_reading}
use Rattle.ss_model.specs.State.{state}
use Rattle.ss_sessions.specs.Cursors.{refuses_cursor}
use Rattle.ss_targets.specs.Windowing.{window_index}

-- a create makes its stream, a list names none, and each other command needs one
needed-create : needed (Do (Create (codes "a") (exp 2 1 1))) ≡ None
needed-create = refl

needed-list : needed ListAll ≡ None
needed-list = refl

needed-value : needed (Do (Value (codes "a") 10 (pos 5))) ≡ Some (codes "a")
needed-value = refl

needed-drop : needed (Do (Drop (codes "a"))) ≡ Some (codes "a")
needed-drop = refl

needed-windows : needed (Windows (codes "a")) ≡ Some (codes "a")
needed-windows = refl

-- lines, each with its line end
abbrev text : List (List ℕ) → List ℕ
text ls = flat_map (λ line. line ++ 10 ∷ []) ls

-- a stream and two readings
abbrev history : List Happened
history = map added (Create (codes "a") (exp 2 1 1) ∷ Value (codes "a") 10 (pos 5) ∷ Value (codes "a") 20 (negsuc 2) ∷ [])

-- once it is dropped each command is refused for that, whatever else there is against it, and a line that says none for what is wrong in it
abbrev commands : List ℕ
commands =
    text (codes "drop a" ∷ codes "append a 5 1" ∷ codes "landmark a open 5" ∷ codes "landmark a close 5" ∷ codes "drop a"
    ∷ codes "query a sum 5 4" ∷ codes "certify a sum lo 5 4" ∷ codes "series a sum 5 4 1" ∷ codes "windows a" ∷ codes "last a"
    ∷ codes "values a 5 4" ∷ codes "append a 5 x" ∷ codes "append a" ∷ codes "append a! 5 1" ∷ [])

report-commands : report (plain_talk history) commands
    ≡ text (codes "ok 0 0" ∷ codes "refused UNKNOWN" ∷ codes "refused UNKNOWN" ∷ codes "refused UNKNOWN" ∷ codes "refused UNKNOWN"
    ∷ codes "refused UNKNOWN" ∷ codes "refused UNKNOWN" ∷ codes "refused UNKNOWN" ∷ codes "refused UNKNOWN" ∷ codes "refused UNKNOWN"
    ∷ codes "refused UNKNOWN" ∷ codes "refused NUMBER" ∷ codes "refused SYNTAX" ∷ codes "refused NAME" ∷ [])
unfolding ended_lines unended meaning words is_number number_of number_up_to signed_of is_name state refuses refuses_query refuses_reading refuses_values
    outcome_of window_index digits
report-commands = refl

accepted-commands : accepted (plain_talk history) (lines commands) ≡ added (Drop (codes "a")) ∷ []
unfolding ended_lines unended meaning words is_number number_of number_up_to signed_of is_name state refuses refuses_query refuses_reading refuses_values
    outcome_of window_index
accepted-commands = refl

-- a session that has a cursor is refused another one over the dropped stream for that, and over one that stands since it has one
abbrev cursors : List ℕ
cursors =
    text (codes "@1 cursor open a" ∷ codes "@1 cursor open a" ∷ codes "@2 drop a" ∷ codes "@1 cursor open a" ∷ codes "@3 cursor open a"
    ∷ codes "@2 create a exp 2 1 1" ∷ codes "@1 cursor open a" ∷ codes "@3 cursor open a" ∷ [])

report-cursors : report (begun (Sessions false) history) cursors
    ≡ text (codes "@1 cursor 2" ∷ codes "@1 refused BUSY" ∷ codes "@2 ok 0 0" ∷ codes "@1 refused UNKNOWN" ∷ codes "@3 refused UNKNOWN"
    ∷ codes "@2 ok 0 0" ∷ codes "@1 refused BUSY" ∷ codes "@3 cursor 0" ∷ [])
unfolding ended_lines unended meaning words is_number number_of number_up_to signed_of is_name state refuses refuses_cursor window_index digits
report-cursors = refl

-- what a stream has since its last create
values-anew : values_of (history ++ map added (Drop (codes "a") ∷ Create (codes "a") (exp 2 1 1) ∷ Value (codes "a") 5 (pos 1) ∷ [])) (codes "a")
    ≡ (5, pos 1, New) ∷ []
values-anew = refl

-- with no create since, the values from before a drop are still among those of the name
values-dropped : values_of (history ++ added (Drop (codes "a")) ∷ []) (codes "a") ≡ (10, pos 5, New) ∷ (20, negsuc 2, New) ∷ []
values-dropped = refl
