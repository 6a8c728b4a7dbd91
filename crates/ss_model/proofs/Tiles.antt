-- Windows tile after an append and after a close, and what follows of two side by side.
use Rattle.ss_model.proofs.Common.{◌≡◌, ℕ, ◌+◌, ◌<◌, List, [], ◌∷◌, ◌++◌, length, Some, refl, arith, add_assoc, ◌∙◌, sym, ap, subst, get_or, take, drop}
use Rattle.ss_model.proofs.Common.{append_assoc, take-append-drop, cond_both, sum_by-append, MOST_VALUES, IsPossible, summary_of, joined, IsPossible-joined}
use Rattle.ss_model.proofs.Common.{Point, taken, newest_time, last_position, joined_window, may_join, closed_onto, closed, Rule, StandFrom, AreWindows}
use Rattle.ss_model.proofs.Common.{AreNeighbours, Window}
use Rattle.std.proofs.Common.{add-zero}
use Rattle.std.proofs.lemmas.List.{drop_more}
use Rattle.ss_model.proofs.Stretches.{taken-cons}

pub taken-append : (us ws : List Window) → taken (us ++ ws) ≡ taken us + taken ws
taken-append us ws = sum_by-append (λ (w : Window). w.summary.count) us ws

pub AreWindows-nil : AreWindows []
AreWindows-nil = record { stand = tt; few = omega arith }

StandFrom_push : (first time : ℕ) (u : Window) (us : List Window) (w : Window) → StandFrom first time (u ∷ us) →
    w.first ≡ first + taken (u ∷ us) → ((old : ℕ) → newest_time (u ∷ us) ≡ Some old → old < w.summary.t_first) → IsPossible w.summary →
    StandFrom first time ((u ∷ us) ++ w ∷ [])
StandFrom_push first time u [] w stands place later possible =
    let end = later u.summary.t_last refl in
    (stands.0, stands.1, stands.2, (omega arith, possible, omega arith, tt))
StandFrom_push first time u (v ∷ vs) w stands place later possible =
    let sum = taken-cons u (v ∷ vs) in
    (stands.0, stands.1, stands.2, StandFrom_push (first + u.summary.count) (u.summary.t_last + 1) v vs w stands.3 (omega arith) later possible)

stand_push : (ws : List Window) (w : Window) → StandFrom 1 0 ws → w.first ≡ taken ws + 1 →
    ((old : ℕ) → newest_time ws ≡ Some old → old < w.summary.t_first) → IsPossible w.summary → StandFrom 1 0 (ws ++ w ∷ [])
stand_push [] w stands place later possible = (place, possible, omega arith, tt)
stand_push (u ∷ us) w stands place later possible = StandFrom_push 1 0 u us w stands (omega arith) later possible

pub AreWindows_push : (ws : List Window) (p : Point) → AreWindows ws → taken ws < MOST_VALUES →
    ((old : ℕ) → newest_time ws ≡ Some old → old < p.0) → IsPossible (summary_of (p ∷ [])) →
    AreWindows (ws ++ record { first = taken ws + 1; summary = summary_of (p ∷ []) } ∷ [])
AreWindows_push ws p tiles room later possible =
    let w : Window = record { first = taken ws + 1; summary = summary_of (p ∷ []) } in
    record { stand = stand_push ws w tiles.stand refl later possible; few = omega (arith, taken-append ws (w ∷ [])) }

any_time : (first time : ℕ) (ws : List Window) → StandFrom first time ws → StandFrom first 0 ws
any_time first time [] stands = tt
any_time first time (w ∷ ws) stands = (stands.0, stands.1, omega arith, stands.3)

StandFrom-append : (first time : ℕ) (us ws : List Window) → StandFrom first time (us ++ ws) → StandFrom (first + taken us) 0 ws
StandFrom-append first time [] ws stands = rw add-zero (any_time first time ws stands)
StandFrom-append first time (u ∷ us) ws stands =
    rw (taken-cons u us, ← add_assoc first u.summary.count (taken us))
    (StandFrom-append (first + u.summary.count) (u.summary.t_last + 1) us ws stands.3)

-- a window stands after those before it, and its summary is possible
pub first-from_AreWindows : (us vs : List Window) (w : Window) → AreWindows (us ++ w ∷ vs) → w.first ≡ taken us + 1
first-from_AreWindows us vs w tiles = let stands = StandFrom-append 1 0 us (w ∷ vs) tiles.stand in let first = stands.0 in omega arith

pub IsPossible-from_AreWindows : (us vs : List Window) (w : Window) → AreWindows (us ++ w ∷ vs) → IsPossible w.summary
IsPossible-from_AreWindows us vs w tiles = let stands = StandFrom-append 1 0 us (w ∷ vs) tiles.stand in stands.1

pub last_position-from_AreWindows : (us : List Window) (w : Window) → AreWindows (us ++ w ∷ []) →
    last_position w ≡ taken (us ++ w ∷ [])
last_position-from_AreWindows us w tiles =
    let first = first-from_AreWindows us [] w tiles in
    let possible = IsPossible-from_AreWindows us [] w tiles in
    omega (arith, taken-append us (w ∷ []))

pub AreNeighbours-from_AreWindows : (us vs : List Window) (w v : Window) → AreWindows (us ++ w ∷ v ∷ vs) → AreNeighbours w v
AreNeighbours-from_AreWindows us vs w v tiles =
    let stands = StandFrom-append 1 0 us (w ∷ v ∷ vs) tiles.stand in
    let next = stands.3 in
    let first = stands.0 in
    let second = next.0 in
    let possible = stands.1 in
    let possible_behind = next.1 in
    let later = next.2 in
    let front = taken-append us (w ∷ v ∷ vs) in
    let rest = taken-cons w (v ∷ vs) in
    let last = taken-cons v vs in
    record { next = omega arith; some = omega arith; some_behind = omega arith; times = omega arith; few = omega (arith, tiles.few) }

pub AreNeighbours_at : (ws : List Window) (i : ℕ) (d e : Window) → AreWindows ws → i + 1 < length ws →
    AreNeighbours (get_or ws i d) (get_or ws (i + 1) e)
AreNeighbours_at ws i d e tiles inside =
    let cut : ws ≡ take i ws ++ get_or ws i d ∷ get_or ws (i + 1) e ∷ drop (i + 1 + 1) ws =
    sym (take-append-drop i ws) ∙ ap (λ vs. take i ws ++ vs)
    (drop_more ws i d (omega arith) ∙ ap (λ vs. get_or ws i d ∷ vs) (drop_more ws (i + 1) e inside)) in
    AreNeighbours-from_AreWindows (take i ws) (drop (i + 1 + 1) ws) (get_or ws i d) (get_or ws (i + 1) e) (subst (λ vs. AreWindows vs) cut tiles)

StandFrom_joined : (first time : ℕ) (us vs : List Window) (w v : Window) → IsPossible (joined w.summary v.summary) →
    StandFrom first time (us ++ w ∷ v ∷ vs) → StandFrom first time (us ++ joined_window w v ∷ vs)
StandFrom_joined first time [] vs w v possible stands = (stands.0, possible, stands.2, rw add_assoc at stands.3.3)
StandFrom_joined first time (u ∷ us) vs w v possible stands =
    (stands.0, stands.1, stands.2, StandFrom_joined (first + u.summary.count) (u.summary.t_last + 1) us vs w v possible stands.3)

-- two windows side by side become one
pub AreWindows_joined : (us vs : List Window) (w v : Window) → AreWindows (us ++ w ∷ v ∷ vs) →
    IsPossible (joined w.summary v.summary) → AreWindows (us ++ joined_window w v ∷ vs)
AreWindows_joined us vs w v tiles possible = record {
  stand = StandFrom_joined 1 0 us vs w v possible tiles.stand;
  few = omega (
    arith,
    tiles.few,
    taken-append us (w ∷ v ∷ vs),
    taken-append us (joined_window w v ∷ vs),
    taken-cons w (v ∷ vs),
    taken-cons v vs,
    taken-cons (joined_window w v) vs,
  );
}

pub AreWindows-closed_onto : (rule : Rule) (n : ℕ) (us : List Window) (w : Window) (ws : List Window) →
    AreWindows (us ++ w ∷ ws) → AreWindows (us ++ closed_onto rule n w ws)
AreWindows-closed_onto rule n us w [] tiles = tiles
AreWindows-closed_onto rule n us w (v ∷ vs) tiles =
    let pair = AreNeighbours-from_AreWindows us vs w v tiles in
    let front : IsPossible w.summary = IsPossible-from_AreWindows us (v ∷ vs) w tiles in
    let moved : AreWindows ((us ++ w ∷ []) ++ v ∷ vs) = rw (append_assoc us (w ∷ []) (v ∷ vs)) tiles in
    let back : IsPossible v.summary = IsPossible-from_AreWindows (us ++ w ∷ []) vs v moved in
    let one = IsPossible-joined w.summary v.summary front back pair.times pair.few in
    let apart = AreWindows-closed_onto rule n (us ++ w ∷ []) v vs moved in
    cond_both (may_join rule n w v) (closed_onto rule n (joined_window w v) vs) (w ∷ closed_onto rule n v vs)
    (λ (zs : List Window). AreWindows (us ++ zs))
    (λ fit. AreWindows-closed_onto rule n us (joined_window w v) vs (AreWindows_joined us vs w v tiles one))
    (λ unfit. rw (append_assoc us (w ∷ []) (closed_onto rule n v vs)) at apart)

pub AreWindows-closed : (rule : Rule) (n : ℕ) (ws : List Window) → AreWindows ws → AreWindows (closed rule n ws)
AreWindows-closed rule n [] tiles = tiles
AreWindows-closed rule n (w ∷ ws) tiles = AreWindows-closed_onto rule n [] w ws tiles
