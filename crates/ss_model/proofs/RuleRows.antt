-- Worked rows of merge rules with a step, each computed.
use Rattle.ss_model.proofs.Common.{◌≡◌, ◌+◌, ◌-◌, ◌*◌, ℕ, Bool, true, false, List, [], ◌∷◌, ◌++◌, length, map, refl, pos, negsuc, full, Point, New}
use Rattle.ss_model.proofs.Common.{summary_of, exp_length, boundaries, closed, last_position, cover, ends_of, steps_met, Rule, in_step, without_step, time_at}
use Rattle.ss_model.proofs.Common.{windows, Window}
use Rattle.ss_targets.specs.Power.{power_length}
use Rattle.ss_summary.specs.Filters.{bit_of, filter_of, union}
use Rattle.ss_targets.specs.Windowing.{window_index}

-- without a step all times lie in one
in_no_step : (t u : ℕ) → in_step 0 t u ≡ true
in_no_step t u = refl

-- whether the two times of each pair lie in one step
pairs : ℕ → List (ℕ × ℕ) → List Bool
pairs step times = map (λ (two : ℕ × ℕ). in_step step two.0 two.1) times

in_step-minutes : pairs 60 ((0, 59) ∷ (59, 60) ∷ (60, 119) ∷ (119, 120) ∷ (59, 119) ∷ []) ≡ true ∷ false ∷ true ∷ false ∷ false ∷ []
unfolding pairs
in_step-minutes = refl

in_step-ones : pairs 1 ((0, 0) ∷ (0, 1) ∷ (7, 7) ∷ (7, 8) ∷ []) ≡ true ∷ false ∷ true ∷ false ∷ []
unfolding pairs
in_step-ones = refl

-- readings at 10, 20, .., 70, and what windows of them there are: positions and times of the first and the last value of each
readings : List Point
readings =
    (10, pos 5, New) ∷ (20, negsuc 2, New) ∷ (30, pos 8, New) ∷ (40, pos 1, New) ∷ (50, pos 9, New) ∷ (60, pos 2, New) ∷ (70, pos 7, New) ∷ []

ends : List Window → List (ℕ × ℕ × ℕ × ℕ)
ends ws = map (λ (w : Window). (w.first, last_position w, w.summary.t_first, w.summary.t_last)) ws

abbrev exp_within : ℕ → Rule
exp_within step = record { lengths = exp_length 2 1 1; step = step }

-- at the seventh value 5 to 6 lie in one target window, but 50 and 60 in different minutes
windows-within_60 : ends (windows (exp_within 60) readings) ≡ (1, 4, 10, 40) ∷ (5, 5, 50, 50) ∷ (6, 6, 60, 60) ∷ (7, 7, 70, 70) ∷ []
unfolding window_index readings ends exp_within bit_of filter_of union
windows-within_60 = refl

windows-within_61 : ends (windows (exp_within 61) readings) ≡ (1, 4, 10, 40) ∷ (5, 6, 50, 60) ∷ (7, 7, 70, 70) ∷ []
unfolding window_index readings ends exp_within bit_of filter_of union
windows-within_61 = refl

-- a step that every time lies in changes nothing
windows-within_71 : windows (exp_within 71) readings ≡ windows (without_step (exp_length 2 1 1)) readings
unfolding window_index readings exp_within bit_of filter_of union
windows-within_71 = refl

-- how many windows there are after each value: 1, 2, 2, 3, 3, 4, 4
boundaries-within_60 : map (boundaries (exp_within 60) (time_at readings)) (1 ∷ 2 ∷ 3 ∷ 4 ∷ 5 ∷ 6 ∷ 7 ∷ []) ≡
    [] ∷ (1 ∷ []) ∷ (2 ∷ []) ∷ (2 ∷ 3 ∷ []) ∷ (2 ∷ 4 ∷ []) ∷ (2 ∷ 4 ∷ 5 ∷ []) ∷ (4 ∷ 5 ∷ 6 ∷ []) ∷ []
unfolding window_index readings exp_within
boundaries-within_60 = refl

-- target windows of four, over tens of seconds: 8 and 11 lie apart, 11 and 19 together, 19 and 20 apart
tens : List Point
tens =
    (7, pos 1, New) ∷ (8, pos 2, New) ∷ (11, pos 3, New) ∷ (12, pos 4, New) ∷ (19, pos 5, New) ∷ (20, pos 6, New) ∷ (21, pos 7, New) ∷ []

abbrev fours_within : ℕ → Rule
fours_within step = record { lengths = power_length 1 0 1 4; step = step }

windows-tens : ends (windows (fours_within 10) tens) ≡ (1, 2, 7, 8) ∷ (3, 5, 11, 19) ∷ (6, 7, 20, 21) ∷ []
unfolding window_index power_length tens ends fours_within bit_of filter_of union
windows-tens = refl

boundaries-tens : map (boundaries (fours_within 10) (time_at tens)) (1 ∷ 2 ∷ 3 ∷ 4 ∷ 5 ∷ 6 ∷ 7 ∷ []) ≡
    [] ∷ [] ∷ (2 ∷ []) ∷ (2 ∷ []) ∷ (2 ∷ []) ∷ (2 ∷ 5 ∷ []) ∷ (2 ∷ 5 ∷ []) ∷ []
unfolding window_index power_length tens fours_within
boundaries-tens = refl

-- with a step of 1 each value is a window of its own
windows-ones : ends (windows (fours_within 1) ((1, pos 0, New) ∷ (2, pos 0, New) ∷ (3, pos 0, New) ∷ [])) ≡
    (1, 1, 1, 1) ∷ (2, 2, 2, 2) ∷ (3, 3, 3, 3) ∷ []
unfolding window_index power_length ends fours_within bit_of filter_of union
windows-ones = refl

-- closing the windows of the first values and one more gives the same
closed-tens : closed (fours_within 10) 6 (windows (fours_within 10)
    ((7, pos 1, New) ∷ (8, pos 2, New) ∷ (11, pos 3, New) ∷ (12, pos 4, New) ∷ (19, pos 5, New) ∷ [])
    ++ record { first = 6; summary = summary_of ((20, pos 6, New) ∷ []) } ∷ [])
    ≡ windows (fours_within 10) ((7, pos 1, New) ∷ (8, pos 2, New) ∷ (11, pos 3, New) ∷ (12, pos 4, New) ∷ (19, pos 5, New) ∷ (20, pos 6, New) ∷ [])
unfolding window_index power_length fours_within bit_of filter_of union
closed-tens = refl

-- how many steps times lie in
met : ℕ → List (List ℕ) → List ℕ
met step = map (steps_met step)

steps_met-minutes : met 60 ([] ∷ (59 ∷ []) ∷ (0 ∷ 59 ∷ []) ∷ (59 ∷ 60 ∷ []) ∷ (0 ∷ 59 ∷ 60 ∷ 119 ∷ 120 ∷ []) ∷ (5 ∷ 1000 ∷ []) ∷ []) ≡
    0 ∷ 1 ∷ 1 ∷ 2 ∷ 3 ∷ 2 ∷ []
unfolding met
steps_met-minutes = refl

steps_met-none : met 0 ([] ∷ (59 ∷ []) ∷ (0 ∷ 59 ∷ 60 ∷ 119 ∷ 120 ∷ []) ∷ []) ≡ 0 ∷ 1 ∷ 1 ∷ []
unfolding met
steps_met-none = refl

-- of one target window and three steps three windows stand, the most that may
windows-steps : length (windows (fours_within 10) ((8, pos 0, New) ∷ (12, pos 0, New) ∷ (21, pos 0, New) ∷ [])) + 2
    ≡ 2 * cover (fours_within 10).lengths 3 + steps_met 10 (8 ∷ 12 ∷ 21 ∷ [])
unfolding window_index power_length fours_within bit_of filter_of union
windows-steps = refl

-- windows of one target window and two steps, of which the second crosses from the one step into the other: three stand, the most that may
holding : ℕ → ℕ → ℕ → ℕ → Window
holding first count t_first t_last = record {
  first = first;
  summary = record { count = count; sum = pos 0; min = pos 0; max = pos 0; t_first = t_first; t_last = t_last; filter = full };
}

crossing : List Window
crossing = holding 1 1 8 8 ∷ holding 2 2 9 11 ∷ holding 4 1 12 12 ∷ []

closed-crossing : length (closed (fours_within 10) 4 crossing) + 1 ≡ 2 * (cover (fours_within 10).lengths 4 + steps_met 10 (ends_of crossing) - 1)
unfolding window_index power_length fours_within holding crossing
closed-crossing = refl
