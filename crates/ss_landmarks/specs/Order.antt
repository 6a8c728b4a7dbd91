-- Landmarks in order of time, and when one may be opened, take a value or be closed.
use Rattle.std.specs.Prelude.{◌≡◌, ℕ, ◌+◌, ◌<◌, ◌≤◌, FitsSigned, List, [], ◌∷◌, IfSome, MatchOption}
use Rattle.std.specs.Int.{w64}
use Rattle.std.specs.List.{All}
use Rattle.ss_landmarks.specs.Landmark.{Landmark, LandmarkValue, open_landmark}
use Rattle.ss_base.specs.declared.limits.TheConstants.{LAST_TIME}

-- the landmark is closed before this time
abbrev pub IsClosedBefore : ℕ → Landmark → Type 0
IsClosedBefore t l = MatchOption l.finish ⊥ (λ finish. finish < t)

-- a landmark may be opened at this time: each other is closed before it
abbrev pub CanOpen : List Landmark → ℕ → Type 0
CanOpen landmarks t = All (IsClosedBefore t) landmarks

-- a landmark is open that may take a value at this time: not before its opening, and after each of its values
abbrev pub CanTake : List Landmark → ℕ → Type 0
CanTake landmarks t =
    MatchOption (open_landmark landmarks) ⊥ (λ l. (l.start ≤ t) × All (λ value. value.t < t) l.values)

-- a landmark is open that may be closed at this time: not before its opening, nor before any of its values
abbrev pub CanClose : List Landmark → ℕ → Type 0
CanClose landmarks t =
    MatchOption (open_landmark landmarks) ⊥ (λ l. (l.start ≤ t) × All (λ value. value.t ≤ t) l.values)

-- values of 64 bits at rising times, the first at `from` or later and none after the latest time
abbrev pub RiseFrom : ℕ → List LandmarkValue → Type 0
RiseFrom from [] = Unit {0}
RiseFrom from (value ∷ values) =
    (from ≤ value.t) × (value.t ≤ LAST_TIME) × FitsSigned w64 value.v × RiseFrom (value.t + 1) values

-- a landmark whose values rise in time from its opening on, and end by its closing
pub record IsLandmark (l : Landmark) : Type 0 where
  pub start : l.start ≤ LAST_TIME
  pub values : RiseFrom l.start l.values
  pub finish : IfSome l.finish (λ t. (l.start ≤ t) × (t ≤ LAST_TIME) × All (λ value. value.t ≤ t) l.values)

-- landmarks in order, the first at `from` or later: each closes before the next opens, and only the last may be open
abbrev pub FollowFrom : ℕ → List Landmark → Type 0
FollowFrom from [] = Unit {0}
FollowFrom from (l ∷ ls) =
    (from ≤ l.start) × IsLandmark l × MatchOption l.finish (ls ≡ []) (λ finish. FollowFrom (finish + 1) ls)

-- landmarks in order of time
abbrev pub AreLandmarks : List Landmark → Type 0
AreLandmarks landmarks = FollowFrom 0 landmarks

-- no time of the landmark is after this one
abbrev pub EndsBy : ℕ → Landmark → Type 0
EndsBy t l = (l.start ≤ t) × IfSome l.finish (λ finish. finish ≤ t) × All (λ value. value.t ≤ t) l.values

-- no time of any landmark is after this one
abbrev pub AllEndBy : ℕ → List Landmark → Type 0
AllEndBy t landmarks = All (EndsBy t) landmarks
