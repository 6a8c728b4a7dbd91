-- Worked rows of what is left of the rows of a command.
use Rattle.ss_program.proofs.Common.{◌≡◌, ◌++◌, [], ◌∷◌, refl, ℕ, List, Ok, Some, None, codes, map, pos, negsuc, flat_map, Create, Value, exp, Series, Unknown}
use Rattle.ss_program.proofs.Common.{Range, Happened, added, Refused, reply_line}
use Rattle.std.specs.Fmt.{digits}
use Rattle.ss_bounds.specs.Split.{sum_interval}
use Rattle.ss_catalog.specs.Series.{numbers_from}
use Rattle.ss_catalog.specs.declared.query.Kind.TheVariants.{Sum}
use Rattle.ss_model.specs.Answers.{outcome_of}
use Rattle.ss_model.specs.State.{state}
use Rattle.ss_targets.specs.Windowing.{window_index}
use Rattle.ss_program.specs.Rows.{IsFirstOf, count_left, rows_left}
use Rattle.ss_program.specs.declared.rows.Rows.{Rows}
use Rattle.ss_program.specs.declared.rows.Rows.TheVariants as left

-- lines, each with its line end
abbrev text : List (List ℕ) → List ℕ
text ls = flat_map (λ line. line ++ 10 ∷ []) ls

-- seven readings
abbrev readings : List Happened
readings = map added (
    Create (codes "a") (exp 2 1 1) ∷ Value (codes "a") 10 (pos 5) ∷ Value (codes "a") 20 (negsuc 2) ∷ Value (codes "a") 30 (pos 8)
    ∷ Value (codes "a") 40 (pos 1) ∷ Value (codes "a") 50 (pos 9) ∷ Value (codes "a") 60 (pos 2) ∷ Value (codes "a") 70 (pos 7) ∷ [])

abbrev sums : Series
sums = record { name = codes "a"; kind = Sum; from = 10; to = 70; step = 25 }

-- the text of the rows that are left
abbrev text_left : Rows → List ℕ
text_left rows = flat_map reply_line (rows_left rows [] (state readings))

-- of a series from its second row on, of which it has three, and past its last
left-series : text_left (left.Series sums 1) ≡ text (codes "35 -3 25" ∷ codes "60 9 16" ∷ [])
unfolding state outcome_of sum_interval window_index digits numbers_from
left-series = refl

count-series : count_left (left.Series sums 1) [] ≡ 2
count-series = refl

past-series : text_left (left.Series sums 3) ≡ []
unfolding state outcome_of sum_interval window_index digits numbers_from
past-series = refl

-- of a list of one stream
left-streams : text_left (left.Streams 0) ≡ text (codes "a exp 2 1 1 7 3 0 0" ∷ [])
unfolding state window_index digits
left-streams = refl

-- of two lines that are made already
left-lines : rows_left (left.Lines (record { items = Refused Unknown ∷ Refused Range ∷ [] }) 1) [] [] ≡ Refused Range ∷ []
left-lines = refl

count-lines : count_left (left.Lines (record { items = Refused Unknown ∷ Refused Range ∷ [] }) 1) [] ≡ 1
count-lines = refl

-- a row that is taken is the first, and where none is taken none was left
taken-first : IsFirstOf (Ok (Some (Refused Unknown))) (Refused Unknown ∷ Refused Range ∷ []) (Refused Range ∷ [])
taken-first = refl

taken-none : IsFirstOf (Ok None) [] []
taken-none = (refl, refl)
