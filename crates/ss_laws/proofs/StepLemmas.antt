-- Values of the same windows lie in the same steps of the clock, where each window lies in one. So they are cut alike.
use Rattle.std.specs.Prelude.{◌≡◌, ℕ, zero, suc, ◌+◌, ◌-◌, ◌≤◌, Bool, List, [], ◌∷◌, ◌++◌, length, map, replicate, get_or, All}
use Rattle.std.proofs.Common.{ap, ap₂, arith, refl, sym, ◌∙◌, subst}
use Rattle.std.proofs.lemmas.Bool.{eqb-true}
use Rattle.std.proofs.lemmas.List.{map-append}
use Rattle.std.proofs.lemmas.List.Elements.{All-head, All-tail}
use Rattle.ss_summary.specs.Figures.{Figures}
use Rattle.ss_summary.specs.Summaries.{time_at_end}
use Rattle.ss_summary.specs.Points.{Point}
use Rattle.ss_targets.specs.Rule.{Rule, step_of}
use Rattle.ss_model.specs.Boundaries.{boundaries}
use Rattle.ss_model.specs.Decay.{IsInStep}
use Rattle.ss_model.specs.Truth.{RiseAtFree}
use Rattle.ss_model.specs.Windows.{stretches, time_at, windows}
use Rattle.ss_model.specs.declared.types.Window.{Window}
use Rattle.ss_model.proofs.DecayLemmas.{IsInStep-windows}
use Rattle.ss_model.proofs.IntervalLemmas.{AreOf}
use Rattle.ss_model.proofs.PieceLemmas.{AreOf-windows}
use Rattle.ss_model.proofs.Rises.{InSameSteps, Rises-boundaries, boundaries-same}
use Rattle.ss_model.proofs.RuleLemmas.{step_of-monotone}
use Rattle.ss_laws.specs.Contents.{unfiltered_windows}
use Rattle.ss_laws.proofs.PieceLemmas.{RiseAtFree-behind, RiseAtFree-front, length-others, stretches-AreOf, time_at_end-later}

-- the steps in which values lie, and those of the values of windows that lie in one each
abbrev steps_of : ℕ → List Point → List ℕ
steps_of step values = map (λ (p : Point). step_of step p.0) values

abbrev steps_in : ℕ → List Window → List ℕ
steps_in step [] = []
steps_in step (w ∷ ws) = replicate w.summary.count (step_of step w.summary.t_first) ++ steps_in step ws

-- what never falls is the same between two places where it is the same
between : (a b c s : ℕ) → a ≤ b → b ≤ c → a ≡ s → c ≡ s → b ≡ s
between a b c s low high first last = omega arith

module _ (free : ℕ → Bool) (step : ℕ) where
  -- values at rising times of which the first and the last lie in one step
  steps_of-run : (start s : ℕ) (p : Point) (ps : List Point) → RiseAtFree free start (p ∷ ps) → step_of step p.0 ≡ s
      → step_of step (time_at_end p.0 ps) ≡ s → steps_of step (p ∷ ps) ≡ replicate (length (p ∷ ps)) s
  steps_of-run start s p [] rising first last = ap (λ t. t ∷ []) first
  steps_of-run start s p (q ∷ qs) rising first last =
      let next = rising.2.0 in
      let later = time_at_end-later free (p.0 + 1) q qs rising.2 in
      let inside : step_of step q.0 ≡ s =
      between (step_of step p.0) (step_of step q.0) (step_of step (time_at_end q.0 qs)) s (step_of-monotone step p.0 q.0 (omega arith))
      (step_of-monotone step q.0 (time_at_end q.0 qs) (omega arith)) first last in
      ap₂ ◌∷◌ first (steps_of-run (p.0 + 1) s q qs rising.2 inside last)

  steps_of-windows : (start : ℕ) (ws : List Window) (values : List Point) → AreOf ws values → RiseAtFree free start values → All (IsInStep step) ws
      → steps_of step values ≡ steps_in step ws
  steps_of-windows start [] values of rising all = ap (steps_of step) of
  steps_of-windows start (w ∷ ws) values of rising all =
      let p = of.0 in
      let ps = of.1 in
      let rest = of.2 in
      let rises = subst (RiseAtFree free start) of.3 rising in
      let first : w.summary.t_first ≡ p.0 = ap (λ (f : Figures). f.t_first) of.4 in
      let last : w.summary.t_last ≡ time_at_end p.0 ps = ap (λ (f : Figures). f.t_last) of.4 in
      let count : w.summary.count ≡ length (p ∷ ps) = ap (λ (f : Figures). f.count) of.4 in
      let inside : step_of step w.summary.t_first ≡ step_of step w.summary.t_last = eqb-true _ _ (All-head (IsInStep step) w ws all) in
      let run = steps_of-run start (step_of step w.summary.t_first) p ps (RiseAtFree-front free start p ps rest rises)
      (ap (step_of step) (sym first)) (ap (step_of step) (sym last) ∙ sym inside) in
      let behind = steps_of-windows (time_at_end p.0 ps + 1) ws rest of.5 (RiseAtFree-behind free start p ps rest rises)
      (All-tail (IsInStep step) w ws all) in
      ap (steps_of step) of.3
      ∙ map-append (λ (q : Point). step_of step q.0) (p ∷ ps) rest
      ∙ ap₂ ◌++◌ (run ∙ ap (λ n. replicate n (step_of step w.summary.t_first)) (sym count)) behind

  -- the step in which the value at a place lies
  step_at : (values : List Point) (k : ℕ) → step_of step (get_or (map (λ (p : Point). p.0) values) k 0) ≡ get_or (steps_of step values) k (step_of step 0)
  step_at [] k = refl
  step_at (p ∷ ps) zero = refl
  step_at (p ∷ ps) (suc k) = step_at ps k

  -- so other values of the same windows lie in the same steps, one by one
  pub InSameSteps-others : (start n : ℕ) (ws : List Window) (values others : List Point) → AreOf ws values → AreOf ws others
      → RiseAtFree free start values → RiseAtFree free start others → All (IsInStep step) ws
      → InSameSteps step n (time_at others) (time_at values)
  InSameSteps-others start n ws values others of of_others rising rising_others all =
      let same : steps_of step others ≡ steps_of step values =
      steps_of-windows start ws others of_others rising_others all ∙ sym (steps_of-windows start ws values of rising all) in
      λ place some low. step_at others (place - 1) ∙ ap (λ ts. get_or ts (place - 1) (step_of step 0)) same ∙ sym (step_at values (place - 1))

module _ (free : ℕ → Bool) (start : ℕ) (rule : Rule) (values others : List Point) (of : AreOf (windows rule values) others)
    (rising : RiseAtFree free start values) (rising_others : RiseAtFree free start others) where
  -- they are cut after the same boundaries
  pub boundaries-others : (n : ℕ) → boundaries rule (time_at others) n ≡ boundaries rule (time_at values) n
  boundaries-others n =
      boundaries-same rule (time_at others) (time_at values) n
      (InSameSteps-others free rule.step start n (windows rule values) values others (AreOf-windows rule values) of rising rising_others
      (IsInStep-windows rule values))

-- and so their windows are alike
pub windows-others : (free : ℕ → Bool) (start : ℕ) (rule : Rule) (values others : List Point) → AreOf (windows rule values) others
    → RiseAtFree free start values → RiseAtFree free start others
    → unfiltered_windows (windows rule others) ≡ unfiltered_windows (windows rule values)
windows-others free start rule [] others of rising rising_others = ap (λ values. unfiltered_windows (windows rule values)) of
windows-others free start rule (p ∷ ps) others of rising rising_others =
    let n = length (p ∷ ps) in
    let time = time_at (p ∷ ps) in
    ap (λ m. unfiltered_windows (stretches 1 (boundaries rule (time_at others) m) others)) (length-others rule (p ∷ ps) others of)
    ∙ ap (λ bs. unfiltered_windows (stretches 1 bs others)) (boundaries-others free start rule (p ∷ ps) others of rising rising_others n)
    ∙ stretches-AreOf 0 n (boundaries rule time n) (p ∷ ps) others (omega arith) (Rises-boundaries rule time n (omega arith)) of
