-- Neighbours that may be one: what of their ends follows, and how that stays when they are joined.
use Rattle.ss_model.proofs.Common.{◌≡◌, ℕ, zero, suc, ◌+◌, ◌-◌, ◌/◌, ◌≤◌, true, List, [], ◌∷◌, refl, sym, ap, ◌∙◌, arith, add_assoc, All, div-mul-le_self}
use Rattle.ss_model.proofs.Common.{and_parts, cond_both, eqb-true, All-cons, All-head, All-tail, step_number, Params, fits, window_index}
use Rattle.ss_model.proofs.Common.{window_index-monotone, last_position, joined_window, may_join, closed_onto, closed, IsInStep, lengths_of, Rule, rule_of}
use Rattle.ss_model.proofs.Common.{step_of, without_step, StandFrom, Window}
use Rattle.std.specs.Prelude.{None}
use Rattle.std.proofs.Math.Nat.{div-zero}
use Rattle.std.proofs.lemmas.Nat.{le-div}

-- a later time lies in no earlier step
pub step_of-monotone : (step t u : ℕ) → t ≤ u → step_of step t ≤ step_of step u
step_of-monotone zero t u order = omega arith
step_of-monotone (suc step) t u order = le-div (t / suc step) u (suc step) (omega arith) (omega (arith, div-mul-le_self t (suc step)))

-- what never falls is the same between two places where it is the same
between : (a b c : ℕ) → a ≤ b → b ≤ c → a ≡ c → b ≡ c
between a b c low high same = omega arith

-- windows one after the other from a position on, none of them empty
abbrev pub TileFrom : ℕ → List Window → Type 0
TileFrom first [] = Unit
TileFrom first (w ∷ ws) = (w.first ≡ first) × (1 ≤ w.summary.count) × TileFrom (first + w.summary.count) ws

-- where the first time of a window lies in one step with the last time of the next, its own last time does too
abbrev pub MeetSteps : ℕ → List Window → Type 0
MeetSteps step [] = Unit
MeetSteps step (w ∷ []) = Unit
MeetSteps step (w ∷ v ∷ vs) =
    (step_of step w.summary.t_first ≡ step_of step v.summary.t_last → step_of step w.summary.t_last ≡ step_of step v.summary.t_last)
    × MeetSteps step (v ∷ vs)

pub TileFrom-StandFrom : (first time : ℕ) (ws : List Window) → StandFrom first time ws → TileFrom first ws
TileFrom-StandFrom first time [] stands = tt
TileFrom-StandFrom first time (w ∷ ws) stands =
    let possible = stands.1 in
    (stands.0, possible.count_low, TileFrom-StandFrom (first + w.summary.count) (w.summary.t_last + 1) ws stands.3)

-- it is so of windows at rising times
pub MeetSteps-StandFrom : (step first time : ℕ) (ws : List Window) → StandFrom first time ws → MeetSteps step ws
MeetSteps-StandFrom step first time [] stands = tt
MeetSteps-StandFrom step first time (w ∷ []) stands = tt
MeetSteps-StandFrom step first time (w ∷ v ∷ vs) stands =
    let possible = stands.1 in
    let possible_behind = stands.3.1 in
    let later = stands.3.2 in
    let some = possible.count_low in
    let some_behind = possible_behind.count_low in
    let own = possible.times in
    let own_behind = possible_behind.times in
    let inside = step_of-monotone step w.summary.t_first w.summary.t_last (omega arith) in
    let across = step_of-monotone step w.summary.t_last v.summary.t_last (omega arith) in (
      λ same. between (step_of step w.summary.t_first) (step_of step w.summary.t_last) (step_of step v.summary.t_last) inside across same,
      MeetSteps-StandFrom step (first + w.summary.count) (w.summary.t_last + 1) (v ∷ vs) stands.3,
    )

-- and of windows that lie in one step each
pub MeetSteps-in_steps : (step : ℕ) (ws : List Window) → All (IsInStep step) ws → MeetSteps step ws
MeetSteps-in_steps step [] all = tt
MeetSteps-in_steps step (w ∷ []) all = tt
MeetSteps-in_steps step (w ∷ v ∷ vs) all =
    let inside : step_of step w.summary.t_first ≡ step_of step w.summary.t_last = eqb-true _ _ (All-head (IsInStep step) w (v ∷ vs) all) in
    ((λ same. sym inside ∙ same), MeetSteps-in_steps step (v ∷ vs) (All-tail (IsInStep step) w (v ∷ vs) all))

pub TileFrom_joined : (first : ℕ) (w v : Window) (vs : List Window) → TileFrom first (w ∷ v ∷ vs) → TileFrom first (joined_window w v ∷ vs)
TileFrom_joined first w v vs tiles =
    let some = tiles.1 in
    (tiles.0, omega arith, rw add_assoc at tiles.2.2)

-- what the test says of the positions and of the times
pub same_index : (rule : Rule) (n : ℕ) (w v : Window) → may_join rule n w v ≡ true →
    window_index rule.lengths (n - w.first) ≡ window_index rule.lengths (n - last_position v)
same_index rule n w v due = eqb-true _ _ (and_parts _ _ due).1

pub same_step : (rule : Rule) (n : ℕ) (w v : Window) → may_join rule n w v ≡ true →
    step_of rule.step w.summary.t_first ≡ step_of rule.step v.summary.t_last
same_step rule n w v due = eqb-true _ _ (and_parts _ _ due).0

MeetSteps-first : (step : ℕ) (w v : Window) (vs : List Window) → MeetSteps step (w ∷ v ∷ vs) →
    step_of step w.summary.t_first ≡ step_of step v.summary.t_last → MeetSteps step (joined_window w v ∷ vs)
MeetSteps-first step w v [] meet same = tt
MeetSteps-first step w v (u ∷ us) meet same = ((λ next. sym same ∙ next), meet.1.1)

pub MeetSteps_joined : (rule : Rule) (n : ℕ) (w v : Window) (vs : List Window) → MeetSteps rule.step (w ∷ v ∷ vs) → may_join rule n w v ≡ true →
    MeetSteps rule.step (joined_window w v ∷ vs)
MeetSteps_joined rule n w v vs meet due = MeetSteps-first rule.step w v vs meet (same_step rule n w v due)

-- the last positions of two windows lie in one target window at n, and their last times in one step
abbrev pub EndAlike : Rule → ℕ → Window → Window → Type 0
EndAlike rule n w v =
    (window_index rule.lengths (n - last_position w) ≡ window_index rule.lengths (n - last_position v))
    × (step_of rule.step w.summary.t_last ≡ step_of rule.step v.summary.t_last)

-- so they may be one with the same windows before them
pub may_join-alike : (rule : Rule) (n : ℕ) (x w v : Window) → EndAlike rule n w v → may_join rule n x w ≡ may_join rule n x v
may_join-alike rule n x w v alike = rw (alike.0, alike.1) refl

-- where neighbours may be one, both end alike
pub EndAlike-due : (rule : Rule) (n first : ℕ) (w v : Window) (vs : List Window) → TileFrom first (w ∷ v ∷ vs) → MeetSteps rule.step (w ∷ v ∷ vs) →
    may_join rule n w v ≡ true → EndAlike rule n w v
EndAlike-due rule n first w v vs tiles meet due =
    let front = tiles.0 in
    let some = tiles.1 in
    let behind = tiles.2.0 in
    let some_behind = tiles.2.1 in
    let len = rule.lengths in
    let young = window_index-monotone len (n - last_position v) (n - last_position w) (omega arith) in
    let old = window_index-monotone len (n - last_position w) (n - w.first) (omega arith) in
    let same = same_index rule n w v due in
    (omega arith, meet.0 (same_step rule n w v due))

-- joining windows that may be one leaves each window in its step
pub IsInStep-closed_onto : (rule : Rule) (n : ℕ) (w : Window) (ws : List Window) → All (IsInStep rule.step) (w ∷ ws) →
    All (IsInStep rule.step) (closed_onto rule n w ws)
IsInStep-closed_onto rule n w [] all = all
IsInStep-closed_onto rule n w (v ∷ vs) all =
    let P = IsInStep rule.step in
    let behind = All-tail P w (v ∷ vs) all in
    cond_both (may_join rule n w v) (closed_onto rule n (joined_window w v) vs) (w ∷ closed_onto rule n v vs) (All P)
    (λ (due : may_join rule n w v ≡ true). IsInStep-closed_onto rule n (joined_window w v) vs
    (All-cons P (joined_window w v) vs (and_parts _ _ due).0 (All-tail P v vs behind)))
    (λ undue. All-cons P w (closed_onto rule n v vs) (All-head P w (v ∷ vs) all) (IsInStep-closed_onto rule n v vs behind))

pub IsInStep-closed : (rule : Rule) (n : ℕ) (ws : List Window) → All (IsInStep rule.step) ws → All (IsInStep rule.step) (closed rule n ws)
IsInStep-closed rule n [] all = all
IsInStep-closed rule n (w ∷ ws) all = IsInStep-closed_onto rule n w ws all

-- without a step the test is that of target windows alone
pub may_join-without_step : (len : ℕ → ℕ) (n : ℕ) (w v : Window) → may_join (without_step len) n w v ≡ fits len w.first (last_position v) n
may_join-without_step len n w v = refl

-- the rule of a target without a step is that of target windows alone
pub rule_of-alone : (params : Params) → params.within ≡ None → rule_of params ≡ without_step (lengths_of params)
rule_of-alone params none = ap (λ within. record { lengths = lengths_of params; step = step_number within }) none

-- the step that a time lies in is a quotient, since that by 0 is 0
pub step_of-quotient : (step t : ℕ) → step_of step t ≡ t / step
step_of-quotient zero t = sym (div-zero t)
step_of-quotient (suc step) t = refl
