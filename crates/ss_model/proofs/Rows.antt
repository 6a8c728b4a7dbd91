-- Worked rows, each computed.
use Rattle.ss_model.proofs.Common.{◌≡◌, ℕ, ◌+◌, ◌^◌, List, [], ◌∷◌, map, refl, pos, negsuc, lit≤, arith, exp_length, full, Point, New}
use Rattle.ss_model.proofs.Common.{boundaries, without_step, stretches, windows, closed, JoinsDue, cover, IsReadWithinTarget, IsWithinTarget, placed_of}
use Rattle.ss_model.proofs.Common.{Window}
use Rattle.std.proofs.Common.{ℤ}
use Rattle.ss_targets.specs.Windowing.{window_index}
use Rattle.ss_targets.specs.Power.{power_length}
use Rattle.ss_summary.specs.Filters.{bit_of, filter_of, union}
use Rattle.ss_summary.specs.declared.filter.Filter.{Filter}

-- the windows are one more than the boundaries: 1, 2, 2, 3, 3, 4, 3
boundaries-1 : boundaries (without_step (exp_length 2 1 1)) (λ position. 0) 1 ≡ []
unfolding window_index
boundaries-1 = refl

boundaries-2 : boundaries (without_step (exp_length 2 1 1)) (λ position. 0) 2 ≡ 1 ∷ []
unfolding window_index
boundaries-2 = refl

boundaries-3 : boundaries (without_step (exp_length 2 1 1)) (λ position. 0) 3 ≡ 2 ∷ []
unfolding window_index
boundaries-3 = refl

boundaries-4 : boundaries (without_step (exp_length 2 1 1)) (λ position. 0) 4 ≡ 2 ∷ 3 ∷ []
unfolding window_index
boundaries-4 = refl

boundaries-5 : boundaries (without_step (exp_length 2 1 1)) (λ position. 0) 5 ≡ 2 ∷ 4 ∷ []
unfolding window_index
boundaries-5 = refl

boundaries-6 : boundaries (without_step (exp_length 2 1 1)) (λ position. 0) 6 ≡ 2 ∷ 4 ∷ 5 ∷ []
unfolding window_index
boundaries-6 = refl

boundaries-7 : boundaries (without_step (exp_length 2 1 1)) (λ position. 0) 7 ≡ 4 ∷ 6 ∷ []
unfolding window_index
boundaries-7 = refl

-- the same for power-law targets: 1, 2, 2, 3, 3, 4, 4, then windows of 2 for ever, and with windows of 1 one for each value
boundary_rows : (ℕ → ℕ) → List ℕ → List (List ℕ)
boundary_rows len = map (boundaries (without_step len) (λ position. 0))

boundaries-growing : boundary_rows (power_length 1 1 1 1) (1 ∷ 2 ∷ 3 ∷ 4 ∷ 5 ∷ 6 ∷ 7 ∷ []) ≡
    [] ∷ (1 ∷ []) ∷ (2 ∷ []) ∷ (2 ∷ 3 ∷ []) ∷ (2 ∷ 4 ∷ []) ∷ (2 ∷ 4 ∷ 5 ∷ []) ∷ (2 ∷ 4 ∷ 6 ∷ []) ∷ []
unfolding boundary_rows power_length window_index
boundaries-growing = refl

boundaries-of_two : boundary_rows (power_length 1 0 1 2) (1 ∷ 2 ∷ 3 ∷ 4 ∷ 5 ∷ []) ≡ [] ∷ [] ∷ (2 ∷ []) ∷ (2 ∷ []) ∷ (2 ∷ 4 ∷ []) ∷ []
unfolding boundary_rows power_length window_index
boundaries-of_two = refl

boundaries-of_one : boundary_rows (power_length 1 0 1 1) (4 ∷ []) ≡ (1 ∷ 2 ∷ 3 ∷ []) ∷ []
unfolding boundary_rows power_length window_index
boundaries-of_one = refl

readings : List Point
readings =
    (10, pos 5, New) ∷ (20, negsuc 2, New) ∷ (30, pos 8, New) ∷ (40, pos 1, New) ∷ (50, pos 9, New) ∷ (60, pos 2, New) ∷ (70, pos 7, New) ∷ []

-- the filter of these words
abbrev pub words : ℕ → ℕ → ℕ → ℕ → Filter
words a b c d = record { words = a ∷ b ∷ c ∷ d ∷ [] }

abbrev pub readings_windows : List Window
readings_windows =
    record {
      first = 1;
      summary = record {
        count = 4;
        sum = pos 11;
        min = negsuc 2;
        max = pos 8;
        t_first = 10;
        t_last = 40;
        filter = words (2 ^ 23 + 2 ^ 37) 0 (2 ^ 30) (2 ^ 49);
      };
    }
    ∷ record {
      first = 5;
      summary = record { count = 2; sum = pos 11; min = pos 2; max = pos 9; t_first = 50; t_last = 60; filter = words (2 ^ 60) 0 (2 ^ 15) 0 };
    }
    ∷ record {
      first = 7;
      summary = record { count = 1; sum = pos 7; min = pos 7; max = pos 7; t_first = 70; t_last = 70; filter = words 0 (2 ^ 19) 0 0 };
    }
    ∷ []

windows-readings : windows (without_step (exp_length 2 1 1)) readings ≡ readings_windows
unfolding window_index readings bit_of filter_of union
windows-readings = refl

-- the lengths 1, 2, 4, 8 cover 1, 3, 7 and 15 positions
cover-rows : map (cover (exp_length 2 1 1)) (0 ∷ 1 ∷ 2 ∷ 3 ∷ 7 ∷ 8 ∷ []) ≡ 0 ∷ 1 ∷ 2 ∷ 2 ∷ 3 ∷ 4 ∷ []
unfolding window_index
cover-rows = refl

-- a window of two values, the first at a position
pair_from : ℕ → Window
pair_from first = record {
  first = first;
  summary = record { count = 2; sum = pos 3; min = pos 1; max = pos 2; t_first = 10; t_last = 20; filter = full };
}

-- of three values the last lies in a target window of 1, and those before it in one of 2
IsWithinTarget-older : IsWithinTarget (exp_length 2 1 1) 3 (pair_from 1)
unfolding window_index pair_from
IsWithinTarget-older = lit≤ tt

IsWithinTarget-newest : IsWithinTarget (exp_length 2 1 1) 3 (pair_from 2) → ⊥
unfolding window_index pair_from
IsWithinTarget-newest within = omega (arith, within)

-- the windows of those readings, where they end after some positions
ending : List ℕ → List Window
ending bs = stretches 1 bs readings

-- of the windows 1 to 2, 3 to 4, 5, 6 and 7 the first two are due at 7, and so are the next two
closed-apart : closed (without_step (exp_length 2 1 1)) 7 (ending (2 ∷ 4 ∷ 5 ∷ 6 ∷ [])) ≡ ending (4 ∷ 6 ∷ [])
unfolding window_index ending readings bit_of filter_of union
closed-apart = refl

closed-older_joined : closed (without_step (exp_length 2 1 1)) 7 (ending (4 ∷ 5 ∷ 6 ∷ [])) ≡ ending (4 ∷ 6 ∷ [])
unfolding window_index ending readings bit_of filter_of union
closed-older_joined = refl

closed-newer_joined : closed (without_step (exp_length 2 1 1)) 7 (ending (2 ∷ 4 ∷ 6 ∷ [])) ≡ ending (4 ∷ 6 ∷ [])
unfolding window_index ending readings bit_of filter_of union
closed-newer_joined = refl

reading : ℕ → ℕ → ℤ → Window
reading position t v = record {
  first = position;
  summary = record { count = 1; sum = v; min = v; max = v; t_first = t; t_last = t; filter = filter_of v };
}

older : Window
older = record {
  first = 1;
  summary = record { count = 2; sum = pos 2; min = negsuc 2; max = pos 5; t_first = 10; t_last = 20; filter = words (2 ^ 23 + 2 ^ 37) 0 0 0 };
}

newer : Window
newer = record {
  first = 3;
  summary = record { count = 2; sum = pos 9; min = pos 1; max = pos 8; t_first = 30; t_last = 40; filter = words 0 0 (2 ^ 30) (2 ^ 49) };
}

pair : Window
pair = record {
  first = 5;
  summary = record { count = 2; sum = pos 11; min = pos 2; max = pos 9; t_first = 50; t_last = 60; filter = words (2 ^ 60) 0 (2 ^ 15) 0 };
}

-- they are joined in either order
JoinsDue-newer_first : JoinsDue (without_step (exp_length 2 1 1)) 7 (ending (2 ∷ 4 ∷ 5 ∷ 6 ∷ [])) (ending (4 ∷ 6 ∷ []))
unfolding window_index ending readings reading older newer pair bit_of filter_of union
JoinsDue-newer_first = (
  2,
  (
    ending (2 ∷ 4 ∷ 6 ∷ []),
    record {
      before = older ∷ newer ∷ [];
      window = reading 5 50 (pos 9);
      next = reading 6 60 (pos 2);
      rest = reading 7 70 (pos 7) ∷ [];
      was =
          refl;
      is = refl;
      due = refl;
    },
    (
      ending (4 ∷ 6 ∷ []),
      record {
        before = [];
        window = older;
        next = newer;
        rest = pair ∷ reading 7 70 (pos 7) ∷ [];
        was = refl;
        is = refl;
        due =
            refl;
      },
      refl,
    ),
  ),
)

-- the same of a window as it is read
IsReadWithinTarget-older : IsReadWithinTarget (exp_length 2 1 1) 3 (placed_of (pair_from 1))
unfolding window_index pair_from
IsReadWithinTarget-older = lit≤ tt

IsReadWithinTarget-newest : IsReadWithinTarget (exp_length 2 1 1) 3 (placed_of (pair_from 2)) → ⊥
unfolding window_index pair_from
IsReadWithinTarget-newest within = omega (arith, within)
