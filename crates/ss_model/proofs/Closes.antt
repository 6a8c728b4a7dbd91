-- What closing leaves as it was.
use Rattle.ss_model.proofs.Common.{◌≡◌, ℕ, ◌<◌, List, [], ◌∷◌, ◌++◌, length, Some, refl, arith, ◌∙◌, cond_both, taken, newest_time, joined_window, may_join}
use Rattle.ss_model.proofs.Common.{closed_onto, closed, Rule, Window}
use Rattle.ss_model.proofs.Stretches.{taken-cons}

pub taken-closed_onto : (rule : Rule) (n : ℕ) (w : Window) (ws : List Window) → taken (closed_onto rule n w ws) ≡ taken (w ∷ ws)
taken-closed_onto rule n w [] = refl
taken-closed_onto rule n w (v ∷ vs) =
    let one = joined_window w v in
    let joined = taken-closed_onto rule n one vs in
    let apart = taken-closed_onto rule n v vs in
    let parts = taken-cons one vs in
    let front = taken-cons w (v ∷ vs) in
    let rest = taken-cons v vs in
    cond_both (may_join rule n w v) (closed_onto rule n one vs) (w ∷ closed_onto rule n v vs)
    (λ (us : List Window). taken us ≡ taken (w ∷ v ∷ vs))
    (λ fit. omega arith) (λ unfit. omega (arith, taken-cons w (closed_onto rule n v vs)))

pub taken-closed : (rule : Rule) (n : ℕ) (ws : List Window) → taken (closed rule n ws) ≡ taken ws
taken-closed rule n [] = refl
taken-closed rule n (w ∷ ws) = taken-closed_onto rule n w ws

pub newest_time-cons : (w : Window) (ws : List Window) → 0 < length ws → newest_time (w ∷ ws) ≡ newest_time ws
newest_time-cons w [] some = absurd (omega arith)
newest_time-cons w (v ∷ vs) some = refl

pub newest_time_push : (ws : List Window) (w : Window) → newest_time (ws ++ w ∷ []) ≡ Some w.summary.t_last
newest_time_push [] w = refl
newest_time_push (u ∷ []) w = refl
newest_time_push (u ∷ v ∷ vs) w = newest_time_push (v ∷ vs) w

some-closed_onto : (rule : Rule) (n : ℕ) (w : Window) (ws : List Window) → 0 < length (closed_onto rule n w ws)
some-closed_onto rule n w [] = omega arith
some-closed_onto rule n w (v ∷ vs) =
    cond_both (may_join rule n w v) (closed_onto rule n (joined_window w v) vs) (w ∷ closed_onto rule n v vs)
    (λ (us : List Window). 0 < length us) (λ fit. some-closed_onto rule n (joined_window w v) vs) (λ unfit. omega arith)

pub newest_time_joined : (w v : Window) (vs : List Window) → newest_time (joined_window w v ∷ vs) ≡ newest_time (v ∷ vs)
newest_time_joined w v [] = refl
newest_time_joined w v (u ∷ us) = refl

pub newest_time-closed_onto : (rule : Rule) (n : ℕ) (w : Window) (ws : List Window) →
    newest_time (closed_onto rule n w ws) ≡ newest_time (w ∷ ws)
newest_time-closed_onto rule n w [] = refl
newest_time-closed_onto rule n w (v ∷ vs) =
    cond_both (may_join rule n w v) (closed_onto rule n (joined_window w v) vs) (w ∷ closed_onto rule n v vs)
    (λ us. newest_time us ≡ newest_time (v ∷ vs))
    (λ fit. newest_time-closed_onto rule n (joined_window w v) vs ∙ newest_time_joined w v vs)
    (λ unfit. newest_time-cons w (closed_onto rule n v vs) (some-closed_onto rule n v vs) ∙ newest_time-closed_onto rule n v vs)

pub newest_time-closed : (rule : Rule) (n : ℕ) (ws : List Window) → newest_time (closed rule n ws) ≡ newest_time ws
newest_time-closed rule n [] = refl
newest_time-closed rule n (w ∷ ws) = newest_time-closed_onto rule n w ws
