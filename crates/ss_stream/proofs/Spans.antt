-- Positions of the entries of a line.
use Rattle.ss_stream.proofs.Common.{◌≡◌, ◌∙◌, ℕ, ◌+◌, ◌≤◌, List, [], ◌∷◌, ◌++◌, map, refl, sym, ap, arith, append_assoc, MOST_VALUES, Entry}
use Rattle.ss_stream.proofs.Common.{last_position, may_join, Rule, may_be_one, AreWindows, taken, Window, TileFrom, span_held, span_of, times_held, times_of}
use Rattle.ss_stream.proofs.Common.{joined_entry, values_held, NoEntriesAreDue, may_be_joined}
use Rattle.ss_model.specs.Decay.{NoneIsDue}
use Rattle.ss_model.proofs.Tiles.{last_position-from_AreWindows}

pub values_held-seam : (front : List Entry) (e : Entry) (rest : List Entry) → values_held (front ++ e ∷ rest) ≡ values_held (e ∷ rest)
values_held-seam [] e rest = refl
values_held-seam (f ∷ []) e rest = refl
values_held-seam (f ∷ g ∷ gs) e rest = values_held-seam (g ∷ gs) e rest

pub values_held-joined : (front : List Entry) (w v : Entry) (rest : List Entry) →
    values_held (front ++ joined_entry w v ∷ rest) ≡ values_held (front ++ w ∷ v ∷ rest)
values_held-joined front w v [] = values_held-seam front (joined_entry w v) [] ∙ sym (values_held-seam front w (v ∷ []))
values_held-joined front w v (r ∷ rs) = values_held-seam front (joined_entry w v) (r ∷ rs) ∙ sym (values_held-seam front w (v ∷ r ∷ rs))

-- where the rest of a line begins
pub TileFrom-behind : (first : ℕ) (front rest : List Entry) → TileFrom first (front ++ rest) → (start : ℕ) × (first ≤ start) × TileFrom start rest
TileFrom-behind first [] rest tiles = (first, omega arith, tiles)
TileFrom-behind first (f ∷ fs) rest tiles =
    let later = TileFrom-behind (f.last + 1) fs rest tiles.3 in
    let here = tiles.0 in
    let some = tiles.1 in
    let above = later.1 in
    (later.0, omega arith, later.2)

pub last-held : (first : ℕ) (e : Entry) (es : List Entry) → TileFrom first (e ∷ es) → (e.last ≤ values_held (e ∷ es)) × (values_held (e ∷ es) ≤ MOST_VALUES)
last-held first e [] tiles = (omega arith, tiles.2)
last-held first e (f ∷ fs) tiles =
    let later = last-held (e.last + 1) f fs tiles.3 in
    let start = tiles.3.0 in
    let some = tiles.3.1 in
    let above = later.0 in
    (omega arith, later.1)

-- the positions of two neighbours
pub record AreTiled (w v : Entry) (held : ℕ) : Type 0 where
  pub first : 1 ≤ w.first
  pub some : w.first ≤ w.last
  pub next : v.first ≡ w.last + 1
  pub some_behind : v.first ≤ v.last
  pub last : v.last ≤ held
  pub few : held ≤ MOST_VALUES

pub AreTiled-seam : (front : List Entry) (w v : Entry) (rest : List Entry) → TileFrom 1 (front ++ w ∷ v ∷ rest) →
    AreTiled w v (values_held (front ++ w ∷ v ∷ rest))
AreTiled-seam front w v rest tiles =
    let behind = TileFrom-behind 1 front (w ∷ v ∷ rest) tiles in
    let start = behind.1 in
    let here = behind.2.0 in
    let most = last-held (w.last + 1) v rest behind.2.3 in
    let all = values_held-seam front w (v ∷ rest) in
    record {
      first = omega arith;
      some = behind.2.1;
      next = behind.2.3.0;
      some_behind = behind.2.3.1;
      last = rw all most.0;
      few = rw all most.1;
    }

pub TileFrom-joined : (first : ℕ) (front : List Entry) (w v : Entry) (rest : List Entry) → TileFrom first (front ++ w ∷ v ∷ rest) →
    TileFrom first (front ++ joined_entry w v ∷ rest)
TileFrom-joined first [] w v rest tiles =
    let here = tiles.0 in
    let some = tiles.1 in
    let next = tiles.3.0 in
    let some_behind = tiles.3.1 in
    (here, omega arith, tiles.3.2, tiles.3.3)
TileFrom-joined first (f ∷ fs) w v rest tiles = (tiles.0, tiles.1, tiles.2, TileFrom-joined (f.last + 1) fs w v rest tiles.3)

TileFrom-more : (first : ℕ) (f : Entry) (fs : List Entry) (e : Entry) → TileFrom first (f ∷ fs) → e.first ≡ values_held (f ∷ fs) + 1 → e.last ≡ e.first →
    e.last ≤ MOST_VALUES → TileFrom first ((f ∷ fs) ++ e ∷ [])
TileFrom-more first f [] e tiles start one few = (tiles.0, tiles.1, tiles.2, (start, omega arith, few, tt))
TileFrom-more first f (g ∷ gs) e tiles start one few = (tiles.0, tiles.1, tiles.2, TileFrom-more (f.last + 1) g gs e tiles.3 start one few)

-- one more position at the end
pub TileFrom-push : (es : List Entry) (e : Entry) → TileFrom 1 es → e.first ≡ values_held es + 1 → e.last ≡ e.first → e.last ≤ MOST_VALUES →
    TileFrom 1 (es ++ e ∷ [])
TileFrom-push [] e tiles start one few = (start, omega arith, few, tt)
TileFrom-push (f ∷ fs) e tiles start one few = TileFrom-more 1 f fs e tiles start one few

-- an entry and a later one may be one where windows may of which one begins like the first, and one is at the positions and
-- times of the second
pub may_be_joined-window : (rule : Rule) (n : ℕ) (e f : Entry) (w v : Window) → e.first ≡ w.first → e.t_first ≡ w.summary.t_first →
    span_held f ≡ span_of v → times_held f ≡ times_of v → may_be_joined rule n e f ≡ may_join rule n w v
may_be_joined-window rule n e f w v first t_first span times =
    let last : f.last ≡ last_position v = ap (λ (p : ℕ × ℕ). p.1) span in
    let t_last : f.t_last ≡ v.summary.t_last = ap (λ (p : ℕ × ℕ). p.1) times in
    λ i. may_be_one rule (first i) (last i) n (t_first i) (t_last i)

-- of windows none is due where none is of the entries at their positions and times
pub NoneIsDue-entries : (rule : Rule) (n : ℕ) (es : List Entry) (ws : List Window) → map span_held es ≡ map span_of ws → map times_held es ≡ map times_of ws →
    NoEntriesAreDue rule n es → NoneIsDue rule n ws
NoneIsDue-entries rule n es [] spans times none = tt
NoneIsDue-entries rule n es (w ∷ []) spans times none = tt
NoneIsDue-entries rule n [] (w ∷ v ∷ vs) spans times none = absurd (cc)
NoneIsDue-entries rule n (e ∷ []) (w ∷ v ∷ vs) spans times none = absurd (cc)
NoneIsDue-entries rule n (e ∷ f ∷ es) (w ∷ v ∷ vs) spans times none =
    let begins : span_held e ≡ span_of w = cc in
    let begins_times : times_held e ≡ times_of w = cc in
    let first : e.first ≡ w.first = ap (λ (p : ℕ × ℕ). p.0) begins in
    let t_first : e.t_first ≡ w.summary.t_first = ap (λ (p : ℕ × ℕ). p.0) begins_times in
    let span : span_held f ≡ span_of v = cc in
    let time : times_held f ≡ times_of v = cc in
    let rest_spans : map span_held (f ∷ es) ≡ map span_of (v ∷ vs) = cc in
    let rest_times : map times_held (f ∷ es) ≡ map times_of (v ∷ vs) = cc in (
      sym (may_be_joined-window rule n e f w v first t_first span time) ∙ none.0,
      NoneIsDue-entries rule n (f ∷ es) (v ∷ vs) rest_spans rest_times none.1,
    )

values-behind : (us : List Window) (w : Window) (ws : List Window) (es : List Entry) → AreWindows (us ++ w ∷ ws) → map span_held es ≡ map span_of (w ∷ ws) →
    values_held es ≡ taken (us ++ w ∷ ws)
values-behind us w ws [] tiles same = absurd (cc)
values-behind us w [] (e ∷ []) tiles same =
    let pair : span_held e ≡ span_of w = cc in ap (λ (p : ℕ × ℕ). p.1) pair ∙ last_position-from_AreWindows us w tiles
values-behind us w [] (e ∷ f ∷ fs) tiles same = absurd (cc)
values-behind us w (v ∷ vs) (e ∷ []) tiles same = absurd (cc)
values-behind us w (v ∷ vs) (e ∷ f ∷ fs) tiles same =
    let rest : map span_held (f ∷ fs) ≡ map span_of (v ∷ vs) = cc in
    let seam = append_assoc us (w ∷ []) (v ∷ vs) in
    values-behind (us ++ w ∷ []) v vs (f ∷ fs) (rw seam tiles) rest ∙ ap (λ (zs : List Window). taken zs) seam

-- entries hold as many values as the windows at the same positions
pub values_held-windows : (ws : List Window) (es : List Entry) → AreWindows ws → map span_held es ≡ map span_of ws → values_held es ≡ taken ws
values_held-windows [] [] tiles same = refl
values_held-windows [] (e ∷ es) tiles same = absurd (cc)
values_held-windows (w ∷ ws) es tiles same = values-behind [] w ws es tiles same
