-- Worked rows of whether a value is there, each computed from a history.
use Rattle.ss_model.proofs.Common.{ℤ, Option, codes, refl, sym, subst, Create, Value, Open, Close, exp, power, Kind, Query, New, Old, Origin, HoldsPresence}
use Rattle.ss_model.proofs.Common.{HoldsTruth, IsExactOutcome, IsOfKind, Happened, added, true_presence, Outcome, Has, Absent, Present, Maybe}
use Rattle.std.specs.Prelude.{◌≡◌, ℕ, Bool, true, false, pos, negsuc, List, [], ◌∷◌, map, Some, None}
use Rattle.ss_targets.specs.Windowing.{window_index}
use Rattle.ss_targets.specs.Power.{power_length}
use Rattle.ss_catalog.specs.declared.query.Kind.TheVariants as kinds
use Rattle.ss_summary.specs.Filters.{bit_of, filter_of, full, has, union}
use Rattle.ss_model.specs.Answers.{outcome_of}
use Rattle.ss_model.specs.State.{state}
use Rattle.ss_model.specs.declared.outcome.Presence.{Presence}

a : List ℕ
a = codes "a"

-- whether a value is one of those at the times from..=to
one : ℤ → ℕ → ℕ → Query
one value from to = record { name = a; kind = kinds.Has value; from = from; to = to }

answers : List Happened → List Query → List (Option Outcome)
answers history = map (outcome_of (state history))

known : List Presence → List (Option Outcome)
known = map (λ presence. Some (Has presence))

-- a stream and seven readings, of which the third has this origin and the others that: the windows have the values 5, -3, 8, 1, the
-- values 9, 2, and the value 7
readings : Origin → Origin → List Happened
readings third others =
    (Create a (exp 2 1 1), others) ∷ (Value a 10 (pos 5), others) ∷ (Value a 20 (negsuc 2), others) ∷ (Value a 30 (pos 8), third)
    ∷ (Value a 40 (pos 1), others) ∷ (Value a 50 (pos 9), others) ∷ (Value a 60 (pos 2), others) ∷ (Value a 70 (pos 7), others) ∷ []

-- the greatest of a whole window, one of its values, none of them; one of a split window, none of two whole ones, one alone
presence-readings : answers (readings New New)
    (one (pos 8) 10 40 ∷ one (pos 1) 10 40 ∷ one (pos 4) 10 40 ∷ one (pos 9) 45 55 ∷ one (pos 7) 0 65 ∷ one (pos 7) 70 70 ∷ []) ≡
    known (Present ∷ Maybe ∷ Absent ∷ Maybe ∷ Absent ∷ Present ∷ [])
unfolding answers known one outcome_of state window_index readings a bit_of filter_of has union
presence-readings = refl

-- an end of a window is sure where the window lies whole in the range, and not where the range splits it on either side
presence-ends : answers (readings New New)
    (one (negsuc 2) 10 40 ∷ one (negsuc 2) 10 39 ∷ one (negsuc 2) 11 40 ∷ one (pos 8) 10 39 ∷ one (pos 8) 11 40 ∷ one (pos 4) 10 39
    ∷ one (pos 9) 0 100 ∷ one (pos 1) 71 100 ∷ []) ≡
    known (Present ∷ Maybe ∷ Maybe ∷ Maybe ∷ Maybe ∷ Absent ∷ Present ∷ Absent ∷ [])
unfolding answers known one outcome_of state window_index readings a bit_of filter_of has union
presence-ends = refl

-- where all values are old the filters have all bits, and nothing but the least and the greatest tells a value from those there
presence-old : answers (readings Old Old) (one (pos 4) 10 40 ∷ one (pos 100) 10 40 ∷ []) ≡ known (Maybe ∷ Absent ∷ [])
unfolding answers known one outcome_of state window_index readings a full has union bit_of
presence-old = refl

-- from the least to the greatest of a whole window, -3 and 8, and one step past each
presence-old_whole : answers (readings Old Old)
    (one (negsuc 3) 10 40 ∷ one (negsuc 2) 10 40 ∷ one (negsuc 1) 10 40 ∷ one (pos 7) 10 40 ∷ one (pos 8) 10 40 ∷ one (pos 9) 10 40 ∷ []) ≡
    known (Absent ∷ Present ∷ Maybe ∷ Maybe ∷ Present ∷ Absent ∷ [])
unfolding answers known one outcome_of state window_index readings a full has union bit_of
presence-old_whole = refl

-- the same of a split one
presence-old_split : answers (readings Old Old)
    (one (negsuc 3) 10 39 ∷ one (negsuc 2) 10 39 ∷ one (negsuc 1) 10 39 ∷ one (pos 7) 10 39 ∷ one (pos 8) 10 39 ∷ one (pos 9) 10 39 ∷ []) ≡
    known (Absent ∷ Maybe ∷ Maybe ∷ Maybe ∷ Maybe ∷ Absent ∷ [])
unfolding answers known one outcome_of state window_index readings a full has union bit_of
presence-old_split = refl

-- one old value gives all bits to the filter of its window alone
presence-old_among_new : answers (readings Old New) (one (pos 4) 10 40 ∷ one (pos 100) 10 40 ∷ one (pos 4) 50 60 ∷ []) ≡
    known (Maybe ∷ Absent ∷ Absent ∷ [])
unfolding answers known one outcome_of state window_index readings a bit_of filter_of full has union
presence-old_among_new = refl

-- 5 and 300 in one window: 238 has the bit of 5, and 239 has one of its own
presence-same_bit : answers (map added (Create a (power 1 0 1 2) ∷ Value a 1 (pos 5) ∷ Value a 2 (pos 300) ∷ []))
    (one (pos 238) 1 2 ∷ one (pos 239) 1 2 ∷ one (pos 238) 2 2 ∷ []) ≡ known (Maybe ∷ Absent ∷ Maybe ∷ [])
unfolding answers known one outcome_of state power_length window_index a bit_of filter_of has union
presence-same_bit = refl

-- a landmark from 20 to 40 with two values, within a window from 10 to 50 that has the values 1 and 3
around : List Happened
around = map added (
    Create a (power 1 0 1 2) ∷ Value a 10 (pos 1) ∷ Open a 20 ∷ Value a 20 (pos 100) ∷ Value a 30 (pos 200) ∷ Close a 40
    ∷ Value a 50 (pos 3) ∷ [])

-- a value of the landmark is there where its time is in the range
presence-marked : answers around (one (pos 100) 20 40 ∷ one (pos 200) 20 40 ∷ one (pos 200) 20 29 ∷ one (pos 100) 5 25 ∷ one (pos 150) 5 50 ∷ []) ≡
    known (Present ∷ Present ∷ Absent ∷ Present ∷ Absent ∷ [])
unfolding answers known one outcome_of state power_length window_index around a bit_of filter_of has union
presence-marked = refl

-- none of the window's values can lie in a range between its ends, since no more than two stand there; one can where an end does
presence-no_room : answers around (one (pos 1) 20 40 ∷ one (pos 3) 11 49 ∷ one (pos 3) 5 25 ∷ one (pos 1) 11 50 ∷ one (pos 3) 5 50 ∷ []) ≡
    known (Absent ∷ Absent ∷ Maybe ∷ Maybe ∷ Present ∷ [])
unfolding answers known one outcome_of state power_length window_index around a bit_of filter_of has union
presence-no_room = refl

-- a stream without values has none, and no stream has no answer
presence-bare : map (outcome_of (state (map added (Create a (exp 2 1 1) ∷ []))))
    (one (pos 0) 0 4 ∷ record { name = codes "x"; kind = kinds.Has (pos 0); from = 0; to = 4 } ∷ []) ≡ Some (Has Absent) ∷ None ∷ []
unfolding one outcome_of state window_index a
presence-bare = refl

-- of the values 1 at time 5 and 2 at time 6 in a landmark, the first is there from 0 to 5
truth-presence : map (λ (v : ℤ). true_presence v 0 5 ((5, pos 1, New) ∷ []) ((6, pos 2, New) ∷ [])) (pos 1 ∷ pos 2 ∷ pos 3 ∷ []) ≡
    true ∷ false ∷ false ∷ []
truth-presence = refl

truth-presence_marked : map (λ (v : ℤ). true_presence v 6 6 ((5, pos 1, Old) ∷ []) ((6, pos 2, New) ∷ [])) (pos 1 ∷ pos 2 ∷ []) ≡ false ∷ true ∷ []
truth-presence_marked = refl

-- what is said of a value may be wrong, and it may be left open
abbrev holds_of_one : ℤ → Presence → Type 0
holds_of_one value presence =
    HoldsTruth (record { name = []; kind = kinds.Has value; from = 0; to = 9 }) ((5, pos 1, New) ∷ []) [] (Has presence)

truth-absent : holds_of_one (pos 1) Absent → ⊥
truth-absent holds =
    let same : pos 1 ≡ holds.0 = cc in
    let wrong : true ≡ false = subst (λ v. HoldsPresence Absent (true_presence v 0 9 ((5, pos 1, New) ∷ []) [])) (sym same) holds.2 in cc

truth-present : holds_of_one (pos 2) Present → ⊥
truth-present holds =
    let same : pos 2 ≡ holds.0 = cc in
    let wrong : false ≡ true = subst (λ v. HoldsPresence Present (true_presence v 0 9 ((5, pos 1, New) ∷ []) [])) (sym same) holds.2 in cc

-- and it is never an answer to what asks for no value
truth-presence_of_count : (it : Presence) → HoldsTruth (record { name = []; kind = kinds.Count; from = 0; to = 9 }) [] [] (Has it) → ⊥
truth-presence_of_count it holds = let wrong : kinds.Count ≡ kinds.Has holds.0 = holds.1 in cc

truth-maybe : (truth : Bool) → HoldsPresence Maybe truth
truth-maybe truth = tt

-- such an answer is to one kind of query alone, and counts as exact
kind-has : (kind : Kind) → IsOfKind kind (Has Maybe) → (value : ℤ) × (kind ≡ kinds.Has value)
kind-has kind is = is

exact-has : (it : Presence) → IsExactOutcome (Has it)
exact-has it = tt
