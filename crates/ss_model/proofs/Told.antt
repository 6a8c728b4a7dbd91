-- Which time each position has.
use Rattle.ss_model.proofs.Common.{◌≡◌, ℕ, ◌+◌, ◌-◌, ◌<◌, List, [], ◌∷◌, ◌++◌, length, map, get_or, ap, sym, ◌∙◌, subst, append_assoc, arith}
use Rattle.ss_model.proofs.Common.{get_or_append_left, length-map, length_push, map-append, get_or-append_seam, Point, summary_of, time_at_end, step_of}
use Rattle.ss_model.proofs.Common.{time_at}
use Rattle.ss_model.proofs.Rises.{InSameSteps}

-- the values after a position have these times
abbrev pub Tells : (ℕ → ℕ) → ℕ → List Point → Type 0
Tells time before [] = Unit
Tells time before (p ∷ ps) = (time (before + 1) ≡ p.0) × Tells time (before + 1) ps

pub Tells-append : (time : ℕ → ℕ) (before after : ℕ) (xs ys : List Point) → before + length xs ≡ after →
    Tells time before xs → Tells time after ys → Tells time before (xs ++ ys)
Tells-append time before after [] ys place front back =
    let same : after ≡ before = omega arith in
    subst (λ k. Tells time k ys) same back
Tells-append time before after (x ∷ xs) ys place front back =
    (front.0, Tells-append time (before + 1) after xs ys (omega arith) front.1 back)

pub Tells-parts : (time : ℕ → ℕ) (before after : ℕ) (xs ys : List Point) → before + length xs ≡ after →
    Tells time before (xs ++ ys) → Tells time before xs × Tells time after ys
Tells-parts time before after [] ys place all =
    let same : before ≡ after = omega arith in
    (tt, subst (λ k. Tells time k ys) same all)
Tells-parts time before after (x ∷ xs) ys place all =
    let rest = Tells-parts time (before + 1) after xs ys (omega arith) all.1 in
    ((all.0, rest.0), rest.1)

-- the first time and the last of a summary are those of its first and its last position
pub first-told : (time : ℕ → ℕ) (before : ℕ) (xs : List Point) → 0 < length xs → Tells time before xs →
    (summary_of xs).t_first ≡ time (before + 1)
first-told time before [] some told = absurd (omega arith)
first-told time before (p ∷ ps) some told = sym told.0

end-told : (time : ℕ → ℕ) (before end t : ℕ) (ps : List Point) → before + length ps ≡ end → time before ≡ t → Tells time before ps →
    time_at_end t ps ≡ time end
end-told time before end t [] place at told = sym at ∙ ap time (omega arith)
end-told time before end t (p ∷ ps) place at told = end-told time (before + 1) end p.0 ps (omega arith) told.0 told.1

pub last-told : (time : ℕ → ℕ) (before end : ℕ) (xs : List Point) → before + length xs ≡ end → 0 < length xs → Tells time before xs →
    (summary_of xs).t_last ≡ time end
last-told time before end [] place some told = absurd (omega arith)
last-told time before end (p ∷ ps) place some told = end-told time (before + 1) end p.0 ps (omega arith) told.0 told.1

abbrev times : List Point → List ℕ
times ps = map (λ (p : Point). p.0) ps

-- the times of some values, after those before them
Tells-from : (us vs : List Point) → Tells (time_at (us ++ vs)) (length us) vs
Tells-from us [] = tt
Tells-from us (p ∷ ps) =
    let place : length us + 1 - 1 ≡ length (times us) = omega (arith, length-map us (λ (p : Point). p.0)) in
    let here : time_at (us ++ p ∷ ps) (length us + 1) ≡ p.0 =
    ap (λ ts. get_or ts (length us + 1 - 1) 0) (map-append (λ (p : Point). p.0) us (p ∷ ps))
    ∙ ap (λ k. get_or (times us ++ p.0 ∷ times ps) k 0) place
    ∙ get_or-append_seam (times us) p.0 (times ps) 0 in
    let rest = Tells-from (us ++ p ∷ []) ps in
    (here, rw (append_assoc us (p ∷ []) ps, length_push us p) at rest)

pub Tells-time_at : (values : List Point) → Tells (time_at values) 0 values
Tells-time_at values = Tells-from [] values

-- values put after others leave their times as they are
pub time_at-append : (step : ℕ) (us vs : List Point) → InSameSteps step (length us) (time_at (us ++ vs)) (time_at us)
time_at-append step us vs p some low =
    ap (step_of step)
    (ap (λ ts. get_or ts (p - 1) 0) (map-append (λ (p : Point). p.0) us vs)
    ∙ get_or_append_left (times us) (times vs) 0 (p - 1) (omega (arith, length-map us (λ (p : Point). p.0))))
