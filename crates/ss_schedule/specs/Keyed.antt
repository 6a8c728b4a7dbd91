-- When each pair of neighbours first fits, by the place of the right one.
use Rattle.std.specs.Prelude.{◌≡◌, ◌≢◌, ℕ, ◌+◌, ◌≤◌, ◌<◌, true, List, [], ◌∷◌, length, Option, Some, None, ⊤}
use Rattle.std.specs.List.{slice_index_or}
use Rattle.ss_line.specs.Line.{LineState}
use Rattle.ss_line.specs.declared.entry.At.{At}
use Rattle.ss_line.specs.declared.entry.Entry.{Entry}
use Rattle.ss_targets.specs.Rule.{Rule, in_step, rule_of}
use Rattle.ss_targets.specs.Targets.{params_of}
use Rattle.ss_targets.specs.declared.target.Target.{Target}
use Rattle.ss_targets.specs.FirstFit.{IsFirstFit}
use Rattle.ss_targets.specs.Windowing.{Fits}
use Rattle.ss_base.specs.declared.limits.TheConstants.{MOST_VALUES}
use Rattle.ss_schedule.specs.Pairs.{pair_at}
use Rattle.ss_schedule.specs.declared.pair.Pair.{Pair}

-- a schedule: its target, and the key of each place, if it has one: the place of the left neighbour, and when
-- the two first fit. There are as many places as it has room for.
pub record ScheduleState : Type 0 where
  pub target : Target
  pub keys : List (Option (At × ℕ))

-- the key of this place; none past the end
abbrev pub key_at : List (Option (At × ℕ)) → At → Option (At × ℕ)
key_at keys at = slice_index_or keys at.0 None

-- no count from n on, up to the greatest, at which the positions l to r lie in one target window
abbrev pub NeverFit : (ℕ → ℕ) → ℕ → ℕ → ℕ → Type 0
NeverFit len l r n = (m : ℕ) → n ≤ m → m ≤ MOST_VALUES → ¬ Fits len l r m

-- the two lie in one step of the clock
abbrev pub AreInStep : Rule → Pair → Type 0
AreInStep rule pair = in_step rule.step pair.t_first pair.t_last ≡ true

-- the key names the left neighbour, and the count from n on at which the two, which lie in one step, first lie in one target window
pub record IsFirstKey (rule : Rule) (n : ℕ) (pair : Pair) (key : At × ℕ) : Type 0 where
  pub left : key.0 ≡ pair.left
  pub together : AreInStep rule pair
  pub first : IsFirstFit rule.lengths pair.first pair.last n key.1
  pub few : key.1 ≤ MOST_VALUES

-- what the key has to be where this pair has its right one: there is none without a pair, and for a pair that lies apart or never fits
abbrev pub IsKeyOf : Rule → ℕ → Option Pair → Option (At × ℕ) → Type 0
IsKeyOf rule n None key = key ≡ None
IsKeyOf rule n (Some pair) None = AreInStep rule pair → NeverFit rule.lengths pair.first pair.last n
IsKeyOf rule n (Some pair) (Some key) = IsFirstKey rule n pair key

-- the merge rule of the target of a schedule
abbrev pub merge_rule : ScheduleState → Rule
merge_rule schedule = rule_of (params_of schedule.target)

-- each entry stands at a place below this one
abbrev pub AreBelow : ℕ → List (At × Entry) → Type 0
AreBelow room [] = ⊤
AreBelow room (entry ∷ entries) = (entry.0.0 < room) × AreBelow room entries

-- the positions of entries follow one another from this one on, and end at or below n
abbrev pub TileUpTo : ℕ → ℕ → List (At × Entry) → Type 0
TileUpTo n first [] = ⊤
TileUpTo n first (entry ∷ entries) =
    (entry.1.first ≡ first) × (first ≤ entry.1.last) × (entry.1.last ≤ n) × TileUpTo n (entry.1.last + 1) entries

-- the positions of entries begin at 1 or above, follow one another, and end at or below n
abbrev pub FollowUpTo : ℕ → List (At × Entry) → Type 0
FollowUpTo n [] = ⊤
FollowUpTo n (entry ∷ entries) = (1 ≤ entry.1.first) × TileUpTo n entry.1.first (entry ∷ entries)

-- The schedule is keyed at n for these entries: their positions follow one another and end at or below n, it has room for their places,
-- and for each pair of neighbours when it first fits, seen at n, and no other key.
pub record IsKeyed (n : ℕ) (entries : List (At × Entry)) (schedule : ScheduleState) : Type 0 where
  pub few : n ≤ MOST_VALUES
  pub follow : FollowUpTo n entries
  pub room : AreBelow (length schedule.keys) entries
  pub keys : (at : At) → IsKeyOf (merge_rule schedule) n (pair_at entries at) (key_at schedule.keys at)

-- a schedule has room for each place of a line, also for those to spare
abbrev pub HasPlaces : LineState → ScheduleState → Type 0
HasPlaces line schedule = length line.entries + line.spare ≤ length schedule.keys

-- a key was put at a place: the one that it has to have where this pair has its right one
pub record PutsKey (old new : ScheduleState) (n : ℕ) (at : At) (pair : Option Pair) : Type 0 where
  pub here : IsKeyOf (merge_rule new) n pair (key_at new.keys at)
  pub others : (other : At) → other.0 ≢ at.0 → key_at new.keys other ≡ key_at old.keys other
  pub room : length new.keys ≡ length old.keys
  pub target : new.target ≡ old.target
