-- Worked rows of `last` and of `values`, as a session reports them.
use Rattle.ss_program.proofs.Common.{◌≡◌, ◌++◌, [], ◌∷◌, refl, ℕ, List, codes, flat_map, report, plain_talk}
use Rattle.std.specs.Fmt.{digits}
use Rattle.ss_catalog.specs.Names.{is_name}
use Rattle.ss_command.specs.Grammar.{meaning}
use Rattle.ss_command.specs.Lines.{ended_lines, unended}
use Rattle.ss_command.specs.Words.{words}
use Rattle.ss_fields.specs.Words.{is_number, number_of, number_up_to, signed_of}
use Rattle.ss_model.specs.Newest.{refuses_values}
use Rattle.ss_model.specs.Refusals.{refuses, refuses_reading}
use Rattle.ss_model.specs.State.{state}
use Rattle.ss_targets.specs.Power.{power_length}
use Rattle.ss_targets.specs.Windowing.{window_index}

-- lines, each with its line end
abbrev text : List (List ℕ) → List ℕ
text ls = flat_map (λ line. line ++ 10 ∷ []) ls

-- no last time; that of a landmark; a value that a landmark keeps; one that a window keeps alone; and each refusal
report-last : report (plain_talk [])
    (text (codes "create e exp 2 1 1" ∷ codes "last e" ∷ codes "landmark e open 5" ∷ codes "last e" ∷ codes "append e 5 -1" ∷ codes "last e"
    ∷ codes "landmark e close 9" ∷ codes "last e" ∷ codes "append e 10 3" ∷ codes "last e" ∷ codes "landmark e open 20" ∷ codes "last e"
    ∷ codes "last f" ∷ codes "last e!" ∷ codes "last e 1" ∷ codes "last" ∷ codes "drop e" ∷ codes "create e exp 2 1 1" ∷ codes "last e" ∷ []))
    ≡ text (codes "ok 0 0" ∷ codes "last none" ∷ codes "ok 0 0" ∷ codes "last 5" ∷ codes "ok 0 0" ∷ codes "last 5 5 -1 -1"
    ∷ codes "ok 0 0" ∷ codes "last 9 5 -1 -1" ∷ codes "ok 1 1" ∷ codes "last 10 10 3 3" ∷ codes "ok 1 1" ∷ codes "last 20 10 3 3"
    ∷ codes "refused UNKNOWN" ∷ codes "refused NAME" ∷ codes "refused SYNTAX" ∷ codes "refused SYNTAX" ∷ codes "ok 0 0" ∷ codes "ok 0 0"
    ∷ codes "last none" ∷ [])
unfolding ended_lines unended meaning words is_number number_of number_up_to signed_of is_name state refuses refuses_reading window_index digits
report-last = refl

-- a newest window of several values, and then a newer value in a landmark
report-windows : report (plain_talk [])
    (text (codes "create d power 1 0 1 4" ∷ codes "append d 10 4" ∷ codes "append d 11 4" ∷ codes "append d 12 6" ∷ codes "append d 13 5"
    ∷ codes "last d" ∷ codes "append d 14 9" ∷ codes "last d" ∷ codes "append d 15 8" ∷ codes "last d" ∷ codes "landmark d open 20" ∷ codes "last d"
    ∷ codes "append d 20 7" ∷ codes "last d" ∷ []))
    ≡ text (codes "ok 0 0" ∷ codes "ok 1 1" ∷ codes "ok 2 1" ∷ codes "ok 3 1" ∷ codes "ok 4 1" ∷ codes "last 13 13 4 6" ∷ codes "ok 5 2"
    ∷ codes "last 14 14 9 9" ∷ codes "ok 6 2" ∷ codes "last 15 15 8 9" ∷ codes "ok 6 2" ∷ codes "last 20 15 8 9" ∷ codes "ok 6 2"
    ∷ codes "last 20 20 7 7" ∷ [])
unfolding ended_lines unended meaning words is_number number_of number_up_to signed_of is_name state refuses refuses_reading power_length window_index digits
report-windows = refl

-- values of two landmarks, in all, in some and in no range, and each refusal
report-values : report (plain_talk [])
    (text (codes "create b exp 2 1 1" ∷ codes "append b 1 9" ∷ codes "landmark b open 10" ∷ codes "append b 10 7" ∷ codes "append b 12 -7"
    ∷ codes "landmark b close 15" ∷ codes "append b 16 9" ∷ codes "landmark b open 20" ∷ codes "append b 25 0" ∷ codes "values b 0 100"
    ∷ codes "values b 11 24" ∷ codes "values b 12 12" ∷ codes "values b 13 19" ∷ codes "values b 5 4" ∷ codes "values f 5 4"
    ∷ codes "values f! 5 4" ∷ codes "values f! 5 x" ∷ codes "values b 5" ∷ []))
    ≡ text (codes "ok 0 0" ∷ codes "ok 1 1" ∷ codes "ok 1 1" ∷ codes "ok 1 1" ∷ codes "ok 1 1" ∷ codes "ok 1 1" ∷ codes "ok 2 2"
    ∷ codes "ok 2 2" ∷ codes "ok 2 2" ∷ codes "values 3" ∷ codes "10 7" ∷ codes "12 -7" ∷ codes "25 0" ∷ codes "values 1" ∷ codes "12 -7"
    ∷ codes "values 1" ∷ codes "12 -7" ∷ codes "values 0" ∷ codes "refused RANGE" ∷ codes "refused UNKNOWN" ∷ codes "refused NAME"
    ∷ codes "refused NUMBER" ∷ codes "refused SYNTAX" ∷ [])
unfolding ended_lines unended meaning words is_number number_of number_up_to signed_of is_name state refuses refuses_values window_index digits
report-values = refl
