-- Worked rows, each computed.
use Rattle.std.specs.Prelude.{◌≡◌, ℕ, ◌≤◌, true, not, ℤ, pos, negsuc, IsTrue, List, [], ◌∷◌, ◌++◌, length, map, All, None, Some, codes}
use Rattle.std.specs.Int.{bit_at}
use Rattle.std.proofs.Common.{arith, lit≤, refl}
use Rattle.std.proofs.lemmas.Int.{ints}
use Rattle.ss_targets.specs.Windowing.{window_index}
use Rattle.ss_base.specs.declared.limits.TheConstants.{MOST_VALUES}
use Rattle.ss_bounds.specs.Times.{lies_in}
use Rattle.ss_catalog.specs.declared.event.Event.TheVariants.{Create, Value, Drop}
use Rattle.ss_catalog.specs.Params.{exp}
use Rattle.ss_catalog.specs.declared.query.Kind.{Kind}
use Rattle.ss_catalog.specs.declared.query.Kind.TheVariants as kinds
use Rattle.ss_catalog.specs.declared.query.Query.{Query}
use Rattle.ss_landmarks.specs.Free.{is_free}
use Rattle.ss_landmarks.specs.Order.{AreLandmarks}
use Rattle.ss_targets.specs.Lengths.{has_target}
use Rattle.ss_summary.specs.Points.{Point, New, Old}
use Rattle.ss_summary.specs.Filters.{bit_of, filter_of, full, union, word}
use Rattle.ss_model.specs.History.{added, Happened}
use Rattle.ss_model.specs.Interval.{split_windows}
use Rattle.ss_model.specs.Refusals.{IsHistory}
use Rattle.ss_model.specs.State.{Stream, state, stream_named}
use Rattle.ss_model.specs.Truth.{RiseAtFree}
use Rattle.ss_model.specs.declared.types.Window.{Window}
use Rattle.ss_laws.specs.Attained.{IsAttained, MayBeTrue, truth_of_kind}
use Rattle.ss_laws.specs.Contents.{Contents, AreContents, IsSayableValue, Like, contents_of, count_in, sum_in, own_windows, unfiltered_windows}
use Rattle.ss_laws.specs.Rebuilt.{placed_at_times, placed, rebuilt}
use Rattle.ss_laws.specs.Sides.{Sides, AllFit, count_inside, sum_inside}
use Rattle.ss_laws.proofs.ContentsLemmas.{MayBeTrue-sum}

-- seven values, whose windows are those of positions 1 to 4, 5 to 6, and 7
abbrev seven : List Point
seven = (10, pos 5, New) ∷ (20, negsuc 2, New) ∷ (30, pos 8, New) ∷ (40, pos 1, New) ∷ (50, pos 9, New) ∷ (60, pos 2, New) ∷ (70, pos 7, New) ∷ []

abbrev readings : Contents
readings = record { params = exp 2 1 1; plain = seven; landmarks = [] }

-- as a history gives them
abbrev a : List ℕ
a = codes "a"

abbrev history : List Happened
history =
    map added (Create a (exp 2 1 1) ∷ Value a 10 (pos 5) ∷ Value a 20 (negsuc 2) ∷ Value a 30 (pos 8) ∷ Value a 40 (pos 1)
    ∷ Value a 50 (pos 9) ∷ Value a 60 (pos 2) ∷ Value a 70 (pos 7) ∷ [])

contents_of-history : map (contents_of history) (state history) ≡ readings ∷ []
unfolding state window_index
contents_of-history = refl

-- a stream that is dropped and created again has what came since alone
abbrev created_again : List Happened
created_again = history ++ map added (Drop a ∷ Create a (exp 2 1 1) ∷ Value a 5 (pos 1) ∷ [])

contents_of-created_again : map (contents_of created_again) (state created_again) ≡
    record { params = exp 2 1 1; plain = (5, pos 1, New) ∷ []; landmarks = [] } ∷ []
unfolding state window_index
contents_of-created_again = refl

contents_of-dropped : map (contents_of (history ++ added (Drop a) ∷ [])) (state (history ++ added (Drop a) ∷ [])) ≡ []
unfolding state window_index
contents_of-dropped = refl

-- from 10 to 25 the first window has 2 values of the sum 2, and may have -3 and -2 there, and 8 twice outside
abbrev least_sum : List Sides
least_sum = record { inside = negsuc 2 ∷ negsuc 1 ∷ []; outside = pos 8 ∷ pos 8 ∷ [] } ∷ []

AllFit-least_sum : AllFit (split_windows (is_free []) 10 25 (own_windows readings)) least_sum
unfolding window_index
AllFit-least_sum = (
  record {
    fewest = lit≤ tt;
    most = lit≤ tt;
    number = refl;
    inside_between = (omega (arith, ints), omega (arith, ints), (omega (arith, ints), omega (arith, ints), tt));
    outside_between = (omega (arith, ints), omega (arith, ints), (omega (arith, ints), omega (arith, ints), tt));
    least = (0, lit≤ tt, refl);
    greatest = (2, lit≤ tt, refl);
    sum = refl;
  },
  tt,
)

plain-least_sum : (rebuilt 10 25 least_sum readings).plain
    ≡ (10, negsuc 2, New) ∷ (11, negsuc 1, New) ∷ (26, pos 8, New) ∷ (40, pos 8, New) ∷ (50, pos 9, New) ∷ (60, pos 2, New) ∷ (70, pos 7, New) ∷ []
unfolding window_index
plain-least_sum = refl

windows-least_sum : unfiltered_windows (own_windows (rebuilt 10 25 least_sum readings)) ≡ unfiltered_windows (own_windows readings)
unfolding window_index
windows-least_sum = refl

-- values that a store without filters took are like those that one with filters took, whose windows have other filters
abbrev of_old : Contents
of_old = record { params = exp 2 1 1; plain = map (λ (p : Point). (p.0, p.1, Old)) seven; landmarks = [] }

windows-of_old : unfiltered_windows (own_windows of_old) ≡ unfiltered_windows (own_windows readings)
unfolding window_index
windows-of_old = refl

filters-of_old : map (λ (w : Window). w.summary.filter) (own_windows of_old) ≡ full ∷ full ∷ full ∷ []
unfolding window_index full union
filters-of_old = refl

filters-readings : map (λ (w : Window). bit_at (word w.summary.filter 0) 23) (own_windows readings) ≡ 1 ∷ 0 ∷ 0 ∷ []
unfolding window_index bit_of filter_of union
filters-readings = refl

sums-least_sum : map (sum_in 10 25) (readings ∷ rebuilt 10 25 least_sum readings ∷ []) ≡ pos 2 ∷ negsuc 4 ∷ []
unfolding window_index
sums-least_sum = refl

-- from 25 to 55 two windows are split, with 3 values of the sum 18 there
abbrev greatest_sum : List Sides
greatest_sum =
    record { inside = pos 8 ∷ pos 8 ∷ []; outside = negsuc 2 ∷ negsuc 1 ∷ [] } ∷ record { inside = pos 9 ∷ []; outside = pos 2 ∷ [] } ∷ []

plain-greatest_sum : (rebuilt 25 55 greatest_sum readings).plain
    ≡ (10, negsuc 2, New) ∷ (11, negsuc 1, New) ∷ (25, pos 8, New) ∷ (40, pos 8, New) ∷ (50, pos 9, New) ∷ (60, pos 2, New) ∷ (70, pos 7, New) ∷ []
unfolding window_index
plain-greatest_sum = refl

windows-greatest_sum : unfiltered_windows (own_windows (rebuilt 25 55 greatest_sum readings)) ≡ unfiltered_windows (own_windows readings)
unfolding window_index
windows-greatest_sum = refl

sums-greatest_sum : map (sum_in 25 55) (readings ∷ rebuilt 25 55 greatest_sum readings ∷ []) ≡ pos 18 ∷ pos 25 ∷ []
unfolding window_index
sums-greatest_sum = refl

counts-greatest_sum : map (count_in 25 55) (readings ∷ rebuilt 25 55 greatest_sum readings ∷ []) ≡ 3 ∷ 3 ∷ []
unfolding window_index
counts-greatest_sum = refl

count_inside-rows : map count_inside (least_sum ∷ greatest_sum ∷ []) ≡ 2 ∷ 3 ∷ []
count_inside-rows = refl

sum_inside-rows : map sum_inside (least_sum ∷ greatest_sum ∷ []) ≡ negsuc 4 ∷ pos 25 ∷ []
sum_inside-rows = refl

-- where no window is split, nothing is replaced
unsplit : rebuilt 10 40 [] readings ≡ readings
unfolding window_index
unsplit = refl

-- values for each window that is split, and no further ones
AllFit-too_few : AllFit (split_windows (is_free []) 10 25 (own_windows readings)) [] → ⊥
unfolding window_index
AllFit-too_few fit = fit

AllFit-too_many : AllFit (split_windows (is_free []) 10 40 (own_windows readings)) least_sum → ⊥
unfolding window_index
AllFit-too_many fit = fit

-- the first window, of four values, spans a landmark from 20 to 40: from 19 to 42 two of them may lie at 19 and 41, and none between
abbrev spanning : Contents
spanning = record {
  params = exp 2 1 1;
  plain = (10, pos 1, New) ∷ (45, pos 3, New) ∷ (46, pos 3, New) ∷ (50, pos 2, New) ∷ (60, pos 9, New) ∷ (70, pos 2, New) ∷ (80, pos 7, New) ∷ [];
  landmarks = record { start = 20; finish = Some 40; values = record { t = 30; v = pos 100 } ∷ [] } ∷ [];
}

abbrev around : List Sides
around = record { inside = pos 3 ∷ pos 3 ∷ []; outside = pos 1 ∷ pos 2 ∷ [] } ∷ []

plain-around : (rebuilt 19 42 around spanning).plain
    ≡ (10, pos 1, New) ∷ (19, pos 3, New) ∷ (41, pos 3, New) ∷ (50, pos 2, New) ∷ (60, pos 9, New) ∷ (70, pos 2, New) ∷ (80, pos 7, New) ∷ []
unfolding window_index
plain-around = refl

windows-around : own_windows (rebuilt 19 42 around spanning) ≡ own_windows spanning
unfolding window_index
windows-around = refl

sums-around : map (sum_in 19 42) (spanning ∷ rebuilt 19 42 around spanning ∷ []) ≡ pos 100 ∷ pos 106 ∷ []
unfolding window_index
sums-around = refl

-- each time takes one value of its side, and those for which there is no time are left out; the last time keeps the last one
placed_at_times-rows : map (λ (ts : List ℕ). placed_at_times (λ t. not (lies_in 12 12 t)) 11 13 ts (pos 1 ∷ pos 2 ∷ pos 3 ∷ []) (pos 7 ∷ []))
    ((10 ∷ 11 ∷ 12 ∷ 13 ∷ 14 ∷ []) ∷ (9 ∷ 10 ∷ []) ∷ []) ≡
    ((10, pos 7, New) ∷ (11, pos 1, New) ∷ (13, pos 2, New) ∷ []) ∷ ((9, pos 7, New) ∷ []) ∷ []
placed_at_times-rows = refl

placed-rows : map (placed (λ t. true) 12 20 10 15)
    (record { inside = pos 1 ∷ pos 2 ∷ []; outside = pos 7 ∷ [] } ∷ record { inside = pos 1 ∷ []; outside = pos 7 ∷ pos 8 ∷ [] } ∷ []) ≡
    ((10, pos 7, New) ∷ (12, pos 1, New) ∷ (15, pos 2, New) ∷ []) ∷ ((10, pos 7, New) ∷ (11, pos 8, New) ∷ (15, pos 1, New) ∷ []) ∷ []
placed-rows = refl

-- what may be held meets each of its conditions
target-AreContents : (c : Contents) → AreContents c → IsTrue (has_target c.params)
target-AreContents c sound = sound.target

few-AreContents : (c : Contents) → AreContents c → length c.plain ≤ MOST_VALUES
few-AreContents c sound = sound.few

sayable-AreContents : (c : Contents) → AreContents c → All IsSayableValue c.plain
sayable-AreContents c sound = sound.sayable

rising-AreContents : (c : Contents) → AreContents c → RiseAtFree (is_free c.landmarks) 0 c.plain
rising-AreContents c sound = sound.rising

landmarks-AreContents : (c : Contents) → AreContents c → AreLandmarks c.landmarks
landmarks-AreContents c sound = sound.landmarks

-- a value at 2^62 can be said, and one after it can't, nor one of more than 64 bits
IsSayableValue-last : IsSayableValue (4611686018427387904, negsuc 9223372036854775807, New)
IsSayableValue-last = (lit≤ tt, omega (arith, ints))

IsSayableValue-late : IsSayableValue (4611686018427387905, pos 1, New) → ⊥
IsSayableValue-late said = omega (arith, said.0)

IsSayableValue-large : IsSayableValue (1, pos 9223372036854775808, New) → ⊥
IsSayableValue-large said = (let fits = said.1 in omega (arith, ints))

-- what can't be told apart is the same in each of these
params-Like : (c d : Contents) → Like c d → c.params ≡ d.params
params-Like c d like = like.params

landmarks-Like : (c d : Contents) → Like c d → c.landmarks ≡ d.landmarks
landmarks-Like c d like = like.landmarks

number-Like : (c d : Contents) → Like c d → length c.plain ≡ length d.plain
number-Like c d like = like.number

windows-Like : (c d : Contents) → Like c d → unfiltered_windows (own_windows c) ≡ unfiltered_windows (own_windows d)
windows-Like c d like = like.windows

-- what is attained is the truth of contents that can't be told from the actual ones
module _ (c : Contents) (from to count : ℕ) (sum : ℤ) (attained : IsAttained c from to count sum) where
  sound-IsAttained : AreContents attained.contents
  sound-IsAttained = attained.sound

  like-IsAttained : Like attained.contents c
  like-IsAttained = attained.like

  counts-IsAttained : count_in from to attained.contents ≡ count
  counts-IsAttained = attained.counts

  sums-IsAttained : sum_in from to attained.contents ≡ sum
  sums-IsAttained = attained.sums

-- the truth from 10 to 25 is 2 values of the sum 2
query : Kind → Query
query kind = record { name = a; kind = kind; from = 10; to = 25 }

truths : map (λ (kind : Kind). truth_of_kind kind 10 25 readings) (kinds.Count ∷ kinds.Sum ∷ kinds.Min ∷ kinds.Max ∷ [])
    ≡ Some (pos 2) ∷ Some (pos 2) ∷ None ∷ None ∷ []
truths = refl

-- what may be true is the truth of contents that can't be told from those that the history gave the stream
module _ (q : Query) (answer : ℤ) (u : Stream) (whole : IsHistory history) (found : stream_named q.name (state history) ≡ Some u)
    (true_there : MayBeTrue (state history) q answer) where
  sound-MayBeTrue : AreContents (true_there history u whole refl found).contents
  sound-MayBeTrue = (true_there history u whole refl found).sound

  like-MayBeTrue : Like (true_there history u whole refl found).contents (contents_of history u)
  like-MayBeTrue = (true_there history u whole refl found).like

  truth-MayBeTrue : truth_of_kind q.kind q.from q.to (true_there history u whole refl found).contents ≡ Some answer
  truth-MayBeTrue = (true_there history u whole refl found).truth

-- the interval of this sum is from -5 to 16, and its lower end may be the truth
MayBeTrue-least_sum : MayBeTrue (state history) (query kinds.Sum) (negsuc 4)
unfolding query state window_index
MayBeTrue-least_sum =
    let s : Stream = record { number = 0; name = a; params = exp 2 1 1; windows = own_windows readings; landmarks = [] } in
    MayBeTrue-sum (state history) (query kinds.Sum) s least_sum refl AllFit-least_sum refl
