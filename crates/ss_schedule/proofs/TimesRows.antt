-- Worked rows: a window that begins at 3, at place 2, and one that begins at 7, at place 0.
use Rattle.std.proofs.Common.{◌≡◌, ℕ, ◌<◌, ◌≤◌, List, [], ◌∷◌, ◌++◌, None, Some, ap, arith, refl, lit<, lit≤}
use Rattle.std.proofs.lemmas.List.Elements.{All-cons, All-head, All-nil}
use Rattle.ss_line.specs.declared.entry.At.{At}
use Rattle.ss_schedule.specs.Times.{IsSought}

abbrev place : ℕ → At
place n = record { 0 = n }

abbrev windows : List (ℕ × At)
windows = (3, place 2) ∷ (7, place 0) ∷ []

pub IsSought-second : IsSought 7 windows (Some (place 0))
IsSought-second = record {
  before = (3, place 2) ∷ [];
  time = 7;
  behind = [];
  is = refl;
  begun = lit≤ tt;
  later = All-nil (λ e. 7 < e.0);
}

-- before the second one begins, and from the first one on
pub IsSought-first : (t : ℕ) → 3 ≤ t → t < 7 → IsSought t windows (Some (place 2))
IsSought-first t from before = record {
  before = [];
  time = 3;
  behind = (7, place 0) ∷ [];
  is = refl;
  begun = omega (arith, from);
  later = All-cons (λ e. t < e.0) (7, place 0) [] before (All-nil (λ e. t < e.0));
}

pub IsSought-none : IsSought 2 windows None
IsSought-none =
    All-cons (λ e. 2 < e.0) (3, place 2) ((7, place 0) ∷ []) (lit< tt) (All-cons (λ e. 2 < e.0) (7, place 0) [] (lit< tt) (All-nil (λ e. 2 < e.0)))

pub IsSought-not_none : ¬ IsSought 3 windows None
IsSought-not_none all = let past : 3 < 3 = All-head (λ e. 3 < e.0) (3, place 2) ((7, place 0) ∷ []) all in omega (arith, past)

-- how the windows are split at place 2
first_is : (before : List (ℕ × At)) (time : ℕ) (behind : List (ℕ × At)) → windows ≡ before ++ (time, place 2) ∷ behind →
    (3 ≡ time) × ((7, place 0) ∷ [] ≡ behind)
first_is [] time behind is =
    let first : ℕ × At = (3, place 2) in
    let same : first ≡ (time, place 2) = cc in
    (ap (λ (e : ℕ × At). e.0) same, cc)
first_is (x ∷ []) time behind is =
    let second : ℕ × At = (7, place 0) in
    let same : second ≡ (time, place 2) = cc in
    absurd (omega (arith, ap (λ (e : ℕ × At). e.1.0) same))
first_is (x ∷ y ∷ []) time behind is = absurd (cc)
first_is (x ∷ y ∷ z ∷ before) time behind is = absurd (cc)

pub IsSought-early : ¬ IsSought 2 windows (Some (place 2))
IsSought-early it = let split = first_is it.before it.time it.behind it.is in omega (arith, it.begun, split.0)

pub IsSought-late : ¬ IsSought 7 windows (Some (place 2))
IsSought-late it =
    let split = first_is it.before it.time it.behind it.is in
    let later = rw (← split.1) at it.later in
    let past : 7 < 7 = All-head (λ e. 7 < e.0) (7, place 0) [] later in
    omega (arith, past)
