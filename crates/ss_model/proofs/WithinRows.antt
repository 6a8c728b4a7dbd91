-- Worked rows of streams whose windows cross no boundary of the clock, each computed from a history.
use Rattle.ss_model.proofs.Common.{◌≡◌, ℕ, List, [], ◌∷◌, length, map, take, Some, None, refl, pos, negsuc, arith, codes, exp, power, row_query, rows_of}
use Rattle.ss_model.proofs.Common.{Create, Value, Open, Close, Params, Query, Param, Exists, Series, last_position, Happened, added, Stream, AreWholeSteps}
use Rattle.ss_model.proofs.Common.{HasWholeRows, IsWithin, inl, inr, reached_by, Sum, Window}
use Rattle.std.proofs.Common.{ℤ}
use Rattle.ss_bounds.specs.Split.{sum_interval}
use Rattle.ss_catalog.specs.Series.{numbers_from}
use Rattle.ss_catalog.specs.declared.query.Kind.TheVariants as kinds
use Rattle.ss_targets.specs.Power.{power_length}
use Rattle.ss_targets.specs.Windowing.{window_index}
use Rattle.ss_model.specs.Answers.{outcome_of}
use Rattle.ss_model.specs.Refusals.{refuses}
use Rattle.ss_model.specs.State.{state}

a : List ℕ
a = codes "a"

within : ℕ → Params → Params
within step params = record params { within = Some step }

-- of each window its positions, how many values it has, their sum, the least and the greatest, and their times
figures : List Stream → List (List (ℕ × ℕ × ℕ × ℤ × ℤ × ℤ × ℕ × ℕ))
figures streams =
    map (λ (s : Stream). map (λ (w : Window).
    (w.first, last_position w, w.summary.count, w.summary.sum, w.summary.min, w.summary.max, w.summary.t_first, w.summary.t_last))
    s.windows) streams

-- a stream within minutes, and readings at 10, 20, .., 70
readings : List Happened
readings = map added (
    Create a (within 60 (exp 2 1 1)) ∷ Value a 10 (pos 5) ∷ Value a 20 (negsuc 2) ∷ Value a 30 (pos 8) ∷ Value a 40 (pos 1)
    ∷ Value a 50 (pos 9) ∷ Value a 60 (pos 2) ∷ Value a 70 (pos 7) ∷ [])

-- how many windows stand after each of them
numbers-readings : map (λ k. map (λ s. length s.windows) (state (take k readings))) (2 ∷ 3 ∷ 4 ∷ 5 ∷ 6 ∷ 7 ∷ 8 ∷ []) ≡
    (1 ∷ []) ∷ (2 ∷ []) ∷ (2 ∷ []) ∷ (3 ∷ []) ∷ (3 ∷ []) ∷ (4 ∷ []) ∷ (4 ∷ []) ∷ []
unfolding state window_index readings a within
numbers-readings = refl

-- at the seventh 5 and 6 lie in one target window, but 50 and 60 in different minutes
figures-readings : figures (state readings) ≡ (
    (1, 4, 4, pos 11, negsuc 2, pos 8, 10, 40) ∷ (5, 5, 1, pos 9, pos 9, pos 9, 50, 50)
    ∷ (6, 6, 1, pos 2, pos 2, pos 2, 60, 60) ∷ (7, 7, 1, pos 7, pos 7, pos 7, 70, 70) ∷ []) ∷ []
unfolding state window_index figures readings a within
figures-readings = refl

params-readings : map (λ s. s.params) (state readings) ≡ record { family = (exp 2 1 1).family; within = Some 60 } ∷ []
unfolding state window_index readings a within
params-readings = refl

-- a minute of a series, or of a query, is one number, and part of one may not be
minutes : Series
minutes = record { name = a; kind = kinds.Sum; from = 0; to = 119; step = 60 }

answers-minutes : map (λ row. outcome_of (state readings) (row_query minutes row)) (rows_of minutes) ≡
    Some (Sum (pos 20) (pos 20)) ∷ Some (Sum (pos 9) (pos 9)) ∷ []
unfolding outcome_of state window_index sum_interval numbers_from readings minutes a within
answers-minutes = refl

sum_of : ℕ → ℕ → Query
sum_of from to = record { name = a; kind = kinds.Sum; from = from; to = to }

answers-part : outcome_of (state readings) (sum_of 40 59) ≡ Some (Sum (pos 6) (pos 17))
unfolding outcome_of state window_index sum_interval readings sum_of a within
answers-part = refl

-- what the law on whole steps asks for
whole-minutes : HasWholeRows 60 (Some 70) minutes
unfolding minutes
whole-minutes = record { range = record { start = refl; end = inl refl }; rows = refl; some = omega arith }

within-readings : IsWithin 60 (state readings) a
unfolding state window_index readings a within
within-readings = refl

reached-readings : map (reached_by (state readings)) (a ∷ codes "b" ∷ []) ≡ Some 70 ∷ None ∷ []
unfolding state window_index readings a within
reached-readings = refl

-- a range ends before a boundary, at the newest time or after it, or anywhere where there is none
whole-newest : AreWholeSteps 60 (Some 70) 60 70 × AreWholeSteps 60 (Some 70) 0 119 × AreWholeSteps 60 None 60 61
whole-newest = (
  record { start = refl; end = inr (omega arith) },
  record { start = refl; end = inl refl },
  record { start = refl; end = inr tt },
)

whole-none : AreWholeSteps 60 (Some 70) 0 69 → ⊥
whole-none whole = elim whole.end [
  | inl boundary ↦ (let wrong : 10 ≡ 0 = boundary in omega (arith, wrong))
  | inr late ↦ omega (arith, late)
]

whole-late : AreWholeSteps 60 (Some 70) 1 119 → ⊥
whole-late whole = let wrong : 1 ≡ 0 = whole.start in omega (arith, wrong)

answers-newest : map (outcome_of (state readings)) (sum_of 60 70 ∷ sum_of 0 4611686018427387904 ∷ []) ≡
    Some (Sum (pos 9) (pos 9)) ∷ Some (Sum (pos 29) (pos 29)) ∷ []
unfolding outcome_of state window_index sum_interval readings sum_of a within
answers-newest = refl

-- a landmark over a boundary: 9 to 10 is its own, 11 to 19 and 20 to 21 are in different tens
tens : List Happened
tens = map added (
    Create a (within 10 (power 1 0 1 4)) ∷ Value a 7 (pos 1) ∷ Value a 8 (pos 2) ∷ Open a 9 ∷ Value a 9 (pos 100) ∷ Close a 10
    ∷ Value a 11 (pos 3) ∷ Value a 12 (pos 4) ∷ Value a 19 (pos 5) ∷ Value a 20 (pos 6) ∷ Value a 21 (pos 7) ∷ [])

figures-tens : figures (state tens) ≡ (
    (1, 2, 2, pos 3, pos 1, pos 2, 7, 8) ∷ (3, 5, 3, pos 12, pos 3, pos 5, 11, 19) ∷ (6, 7, 2, pos 13, pos 6, pos 7, 20, 21) ∷ []) ∷ []
unfolding state window_index power_length figures tens a within
figures-tens = refl

answers-tens : map (outcome_of (state tens)) (sum_of 0 9 ∷ sum_of 10 19 ∷ []) ≡ Some (Sum (pos 103) (pos 103)) ∷ Some (Sum (pos 12) (pos 12)) ∷ []
unfolding outcome_of state window_index power_length sum_interval tens sum_of a within
answers-tens = refl

-- within a step of 1 each value stays a window of its own
ones : List Happened
ones = map added (Create a (within 1 (power 1 0 1 4)) ∷ Value a 1 (pos 0) ∷ Value a 2 (pos 0) ∷ Value a 3 (pos 0) ∷ [])

numbers-ones : map (λ s. length s.windows) (state ones) ≡ 3 ∷ []
unfolding state window_index power_length ones a within
numbers-ones = refl

-- no stream keeps to a step of 0, and a step makes no target good that isn't
refusals-within : map (λ params. refuses [] (Create a params))
    (within 0 (exp 2 1 1) ∷ within 5 (exp 1 1 1) ∷ within 4294967295 (power 1 1 1 1) ∷ within 1 (exp 2 1 1) ∷ []) ≡
    Some Param ∷ Some Param ∷ None ∷ None ∷ []
unfolding refuses a within
refusals-within = refl

-- the parameters are looked at before the name
refusals-again : map (λ params. refuses (state readings) (Create a params)) (within 0 (exp 2 1 1) ∷ within 5 (exp 2 1 1) ∷ []) ≡
    Some Param ∷ Some Exists ∷ []
unfolding refuses state window_index readings a within
refusals-again = refl
