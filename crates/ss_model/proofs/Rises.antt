-- Boundaries rise strictly, strictly between 0 and how many values have been taken, whatever the rule answers. They are the same for
-- times that lie in the same steps.
use Rattle.ss_model.proofs.Common.{◌≡◌, ℕ, zero, suc, ◌+◌, ◌<◌, ◌≤◌, Bool, true, false, cond, List, [], ◌∷◌, ◌++◌, refl, ap, ◌∙◌, add-one, arith, staying}
use Rattle.ss_model.proofs.Common.{boundaries, Rule, may_be_one, step_of}
use Rattle.ss_model.specs.Boundaries.{next_boundary}

-- the list rises strictly, above `before` and below `end`
abbrev pub Rises : ℕ → List ℕ → ℕ → Type 0
Rises before [] end = before < end
Rises before (b ∷ bs) end = (before < b) × Rises b bs end

Rises-from : (a before : ℕ) (bs : List ℕ) (end : ℕ) → a ≤ before → Rises before bs end → Rises a bs end
Rises-from a before [] end lower rising = omega arith
Rises-from a before (b ∷ bs) end lower rising = let above = rising.0 in (omega arith, rising.1)

pub Rises-low : (before : ℕ) (bs : List ℕ) (end : ℕ) → Rises before bs end → before < end
Rises-low before [] end rising = rising
Rises-low before (b ∷ bs) end rising = let above = rising.0 in let rest = Rises-low b bs end rising.1 in omega arith

pub Rises_push : (before : ℕ) (bs : List ℕ) (end : ℕ) → Rises before bs end → Rises before (bs ++ end ∷ []) (end + 1)
Rises_push before [] end rising = (rising, omega arith)
Rises_push before (b ∷ bs) end rising = (rising.0, Rises_push b bs end rising.1)

kept : (t : Bool) (before b : ℕ) (cs bs : List ℕ) (end : ℕ) → before < b → Rises before cs end → Rises b bs end →
    Rises before (cond t cs (b ∷ bs)) end
kept true before b cs bs end above gone stays = gone
kept false before b cs bs end above gone stays = (above, stays)

pub Rises-staying : (rule : Rule) (time : ℕ → ℕ) (n before : ℕ) (bs : List ℕ) → Rises before bs n → Rises before (staying rule time n before bs) n
Rises-staying rule time n before [] rising = rising
Rises-staying rule time n before (b ∷ bs) rising =
    let above = rising.0 in
    let next = next_boundary bs n in
    kept (may_be_one rule (before + 1) next n (time (before + 1)) (time next)) before b (staying rule time n before bs) (staying rule time n b bs) n above
    (Rises-staying rule time n before bs (Rises-from before b bs n (omega arith) rising.1)) (Rises-staying rule time n b bs rising.1)

pub Rises-boundaries : (rule : Rule) (time : ℕ → ℕ) (n : ℕ) → 0 < n → Rises 0 (boundaries rule time n) n
Rises-boundaries rule time zero some = some
Rises-boundaries rule time (suc zero) some = some
Rises-boundaries rule time (suc (suc n)) some =
    let before = Rises_push 0 (boundaries rule time (suc n)) (suc n) (Rises-boundaries rule time (suc n) (omega arith)) in
    Rises-staying rule time (suc (suc n)) 0 (boundaries rule time (suc n) ++ suc n ∷ []) (rw add-one at before)

-- the times of the positions from 1 to n lie in the same steps
abbrev pub InSameSteps : ℕ → ℕ → (ℕ → ℕ) → (ℕ → ℕ) → Type 0
InSameSteps step n time other = (p : ℕ) → 0 < p → p ≤ n → step_of step (time p) ≡ step_of step (other p)

next_boundary-inside : (before : ℕ) (bs : List ℕ) (end : ℕ) → Rises before bs end → (before < next_boundary bs end) × (next_boundary bs end ≤ end)
next_boundary-inside before [] end rising = (rising, omega arith)
next_boundary-inside before (b ∷ bs) end rising = let low = Rises-low b bs end rising.1 in (rising.0, omega arith)

may_be_one-same : (rule : Rule) (l r n t u t' u' : ℕ) → step_of rule.step t ≡ step_of rule.step t' → step_of rule.step u ≡ step_of rule.step u' →
    may_be_one rule l r n t u ≡ may_be_one rule l r n t' u'
may_be_one-same rule l r n t u t' u' first last = rw (first, last) refl

same_cond : {X : Type 0} (s t : Bool) (x x' y y' : X) → s ≡ t → x ≡ x' → y ≡ y' → cond s x y ≡ cond t x' y'
same_cond s t x x' y y' tests first second = rw (tests, first, second) refl

staying-same : (rule : Rule) (time other : ℕ → ℕ) (n before : ℕ) (bs : List ℕ) → InSameSteps rule.step n time other → Rises before bs n →
    staying rule time n before bs ≡ staying rule other n before bs
staying-same rule time other n before [] same rising = refl
staying-same rule time other n before (b ∷ bs) same rising =
    let above = rising.0 in
    let next = next_boundary bs n in
    let inside = next_boundary-inside b bs n rising.1 in
    let low = inside.0 in
    let high = inside.1 in
    let tests = may_be_one-same rule (before + 1) next n (time (before + 1)) (time next) (other (before + 1)) (other next)
    (same (before + 1) (omega arith) (omega arith)) (same next (omega arith) high) in
    same_cond (may_be_one rule (before + 1) next n (time (before + 1)) (time next)) (may_be_one rule (before + 1) next n (other (before + 1)) (other next))
    (staying rule time n before bs) (staying rule other n before bs) (b ∷ staying rule time n b bs) (b ∷ staying rule other n b bs) tests
    (staying-same rule time other n before bs same (Rises-from before b bs n (omega arith) rising.1))
    (ap (λ cs. b ∷ cs) (staying-same rule time other n b bs same rising.1))

pub boundaries-same : (rule : Rule) (time other : ℕ → ℕ) (n : ℕ) → InSameSteps rule.step n time other → boundaries rule time n ≡ boundaries rule other n
boundaries-same rule time other zero same = refl
boundaries-same rule time other (suc zero) same = refl
boundaries-same rule time other (suc (suc n)) same =
    let before = boundaries-same rule time other (suc n) (λ p some low. same p some (omega arith)) in
    let rising = Rises_push 0 (boundaries rule time (suc n)) (suc n) (Rises-boundaries rule time (suc n) (omega arith)) in
    staying-same rule time other (suc (suc n)) 0 (boundaries rule time (suc n) ++ suc n ∷ []) same (rw add-one at rising)
    ∙ ap (λ bs. staying rule other (suc (suc n)) 0 (bs ++ suc n ∷ [])) before
