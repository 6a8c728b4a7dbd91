-- How many records streams need, and how many slots of a file those of a history use.
use Rattle.std.specs.Prelude.{◌≡◌, ℕ, ◌+◌, ◌-◌, ◌*◌, ◌≤◌, max, List, [], ◌∷◌, ◌++◌, length, map}
use Rattle.ss_catalog.specs.declared.params.Family.{Family}
use Rattle.ss_landmarks.specs.Landmark.{all_values}
use Rattle.ss_model.specs.Decay.{cover, steps_met}
use Rattle.ss_model.specs.History.{Happened, values_of}
use Rattle.ss_model.specs.State.{Stream, live, state, values_in}
use Rattle.ss_summary.specs.Points.{Point}
use Rattle.ss_targets.specs.Lengths.{lengths_of}
use Rattle.ss_targets.specs.Rule.{rule_of}

-- how many slots were used after each beginning of a history: an event uses no more than were used, or than the records that stood
-- before it and one
abbrev pub UsesFewSlots : (List Happened → ℕ) → List Happened → Type 0
UsesFewSlots extent history = (before after : List Happened) (e : Happened) → history ≡ before ++ e ∷ after
    → extent (before ++ e ∷ []) ≤ max (extent before) (live (state before) + 1)

-- never did more records than these stand before an event
abbrev pub NeedsAtMost : ℕ → List Happened → Type 0
NeedsAtMost most history = (before after : List Happened) (e : Happened) → history ≡ before ++ e ∷ after → live (state before) ≤ most

-- how many steps the values of a stream lie in
abbrev pub steps_of : List Happened → Stream → ℕ
steps_of history s = steps_met (rule_of s.params).step (map (λ (p : Point). p.0) (values_of history s.name))

-- K target windows cover the values of a stream and their times lie in B steps, where 2K + B - 1 is at most k, and it has at most m
-- landmarks and values of landmarks
pub record TakesAtMost (history : List Happened) (k m : ℕ) (s : Stream) : Type 0 where
  pub windows : 2 * cover (lengths_of s.params) (values_in s) + steps_of history s - 1 ≤ k
  pub landmarks : length s.landmarks + length (all_values s.landmarks) ≤ m

-- a stream has target windows of this family, at most n values in at most d steps, and at most m landmarks and values of landmarks
pub record HoldsAtMost (history : List Happened) (those : Family) (n d m : ℕ) (s : Stream) : Type 0 where
  pub family : s.params.family ≡ those
  pub values : values_in s ≤ n
  pub steps : steps_of history s ≤ d
  pub landmarks : length s.landmarks + length (all_values s.landmarks) ≤ m
