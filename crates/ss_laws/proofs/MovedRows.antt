-- Worked rows of values at other times, each computed.
use Rattle.std.specs.Prelude.{◌≡◌, ℕ, true, false, pos, negsuc, List, [], ◌∷◌, map, Some}
use Rattle.std.proofs.Common.{refl}
use Rattle.ss_targets.specs.Windowing.{window_index}
use Rattle.ss_catalog.specs.Params.{exp}
use Rattle.ss_catalog.specs.declared.query.Query.{Query}
use Rattle.ss_summary.specs.Filters.{bit_of, filter_of, has, union}
use Rattle.ss_summary.specs.Points.{Point, New, Old}
use Rattle.ss_model.specs.History.{Happened}
use Rattle.ss_model.specs.Refusals.{IsHistory}
use Rattle.ss_model.specs.State.{Stream, state, stream_named}
use Rattle.ss_model.specs.declared.types.Window.{Window}
use Rattle.ss_laws.specs.Contents.{AreContents, Contents, contents_of, count_in, own_windows}
use Rattle.ss_laws.specs.Moved.{AreIndistinguishable, HasCount, MayBeCounted, at_times_of, moved_to_times}
use Rattle.ss_laws.specs.Rebuilt.{rebuilt}
use Rattle.ss_laws.specs.Sides.{Sides}

abbrev seven : List Point
seven = (10, pos 5, New) ∷ (20, negsuc 2, New) ∷ (30, pos 8, New) ∷ (40, pos 1, New) ∷ (50, pos 9, New) ∷ (60, pos 2, New) ∷ (70, pos 7, New) ∷ []

abbrev readings : Contents
readings = record { params = exp 2 1 1; plain = seven; landmarks = [] }

-- each value keeps its origin, and a value without a time, or a time without a value, is left out
at-times : at_times_of ((1, pos 5, Old) ∷ (2, pos 6, New) ∷ (3, pos 7, New) ∷ []) ((8, pos 0, New) ∷ (9, pos 0, Old) ∷ [])
    ≡ (8, pos 5, Old) ∷ (9, pos 6, New) ∷ []
at-times = refl

at-no_values : at_times_of [] ((8, pos 0, New) ∷ []) ≡ []
at-no_values = refl

-- from 10 to 25 the window of positions 1 to 4 has one value at least, and three at most
abbrev one : List Sides
one = record { inside = pos 5 ∷ []; outside = negsuc 2 ∷ pos 8 ∷ pos 1 ∷ [] } ∷ []

abbrev three : List Sides
three = record { inside = pos 5 ∷ negsuc 2 ∷ pos 8 ∷ []; outside = pos 1 ∷ [] } ∷ []

-- with values of the same sum that weren't there, the count is the same, and the filters aren't
abbrev others : List Sides
others = record { inside = negsuc 2 ∷ negsuc 1 ∷ []; outside = pos 8 ∷ pos 8 ∷ [] } ∷ []

plain-moved : (moved_to_times readings (rebuilt 10 25 others readings)).plain
    ≡ (10, pos 5, New) ∷ (11, negsuc 2, New) ∷ (26, pos 8, New) ∷ (40, pos 1, New) ∷ (50, pos 9, New) ∷ (60, pos 2, New) ∷ (70, pos 7, New) ∷ []
unfolding window_index
plain-moved = refl

has-others : map (λ (c : Contents). map (λ (w : Window). has w.summary.filter (negsuc 1)) (own_windows c))
    (readings ∷ rebuilt 10 25 others readings ∷ moved_to_times readings (rebuilt 10 25 others readings) ∷ [])
    ≡ (false ∷ false ∷ false ∷ []) ∷ (true ∷ false ∷ false ∷ []) ∷ (false ∷ false ∷ false ∷ []) ∷ []
unfolding window_index bit_of filter_of union has
has-others = refl

windows-moved : map own_windows (moved_to_times readings (rebuilt 10 25 one readings) ∷ moved_to_times readings (rebuilt 10 25 three readings) ∷ [])
    ≡ own_windows readings ∷ own_windows readings ∷ []
unfolding window_index
windows-moved = refl

counts-moved : map (count_in 10 25) (moved_to_times readings (rebuilt 10 25 one readings) ∷ readings ∷
    moved_to_times readings (rebuilt 10 25 three readings) ∷ [])
    ≡ 1 ∷ 2 ∷ 3 ∷ []
unfolding window_index
counts-moved = refl

-- so it is where no window crosses a boundary between minutes: the values stay in their minutes
abbrev minutes : Contents
minutes = record { params = record { family = (exp 2 1 1).family; within = Some 60 }; plain = seven; landmarks = [] }

windows-minutes : map (λ (w : Window). w.summary.count) (own_windows minutes) ≡ 4 ∷ 1 ∷ 1 ∷ 1 ∷ []
unfolding window_index
windows-minutes = refl

windows-moved_in_minutes : own_windows (moved_to_times minutes (rebuilt 10 25 three minutes)) ≡ own_windows minutes
unfolding window_index
windows-moved_in_minutes = refl

counts-moved_in_minutes : count_in 10 25 (moved_to_times minutes (rebuilt 10 25 three minutes)) ≡ 3
unfolding window_index
counts-moved_in_minutes = refl

-- contents of which a store keeps the same are the same in each of these
params-AreIndistinguishable : (c d : Contents) → AreIndistinguishable c d → c.params ≡ d.params
params-AreIndistinguishable c d alike = alike.params

landmarks-AreIndistinguishable : (c d : Contents) → AreIndistinguishable c d → c.landmarks ≡ d.landmarks
landmarks-AreIndistinguishable c d alike = alike.landmarks

windows-AreIndistinguishable : (c d : Contents) → AreIndistinguishable c d → own_windows c ≡ own_windows d
windows-AreIndistinguishable c d alike = alike.windows

-- a count that may be there is that of such contents, which may be held
module _ (history : List Happened) (q : Query) (count : ℕ) (u : Stream) (whole : IsHistory history)
    (found : stream_named q.name (state history) ≡ Some u) (may : MayBeCounted (state history) q count) where
  abbrev there : HasCount (contents_of history u) q.from q.to count
  there = may history u whole refl found

  sound-MayBeCounted : AreContents there.contents
  sound-MayBeCounted = there.sound

  kept-MayBeCounted : AreIndistinguishable there.contents (contents_of history u)
  kept-MayBeCounted = there.kept

  counts-MayBeCounted : count_in q.from q.to there.contents ≡ count
  counts-MayBeCounted = there.counts
