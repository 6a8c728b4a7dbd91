-- After which positions a window ends, by the merge rule.
use Rattle.std.specs.Prelude.{ℕ, zero, suc, ◌+◌, List, [], ◌∷◌, ◌++◌, if◌then◌else◌}
use Rattle.ss_targets.specs.Rule.{Rule, may_be_one}

-- the first of the boundaries, or the end where there is none
abbrev pub next_boundary : List ℕ → ℕ → ℕ
next_boundary [] end = end
next_boundary (b ∷ bs) end = b

-- of boundaries after `before`, those that stay at n: one goes where the stretches on its two sides may be one window. The times
-- are those of the values by their positions.
abbrev pub staying : Rule → (ℕ → ℕ) → ℕ → ℕ → List ℕ → List ℕ
staying rule time n before [] = []
staying rule time n before (b ∷ bs) =
    let next = next_boundary bs n in
    if may_be_one rule (before + 1) next n (time (before + 1)) (time next)
    then staying rule time n before bs
    else b ∷ staying rule time n b bs

-- the boundaries when n values have been taken: those before and one in front of the newest value, each tested afresh
abbrev pub boundaries : Rule → (ℕ → ℕ) → ℕ → List ℕ
boundaries rule time zero = []
boundaries rule time (suc zero) = []
boundaries rule time (suc (suc n)) = staying rule time (suc (suc n)) 0 (boundaries rule time (suc n) ++ suc n ∷ [])
