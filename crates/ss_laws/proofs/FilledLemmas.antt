-- What `filled` makes: values at rising free times, those inside the range and those outside it in their order.
use Rattle.std.specs.Prelude.{◌≡◌, ℕ, zero, suc, ◌+◌, ◌≤◌, Bool, true, false, ◌&&◌, not, ℤ, List, [], ◌∷◌, ◌++◌, length, take, drop}
use Rattle.std.specs.List.{count_by, range_with_len}
use Rattle.std.proofs.Common.{ap, ap₂, arith, refl, sym, ◌∙◌, subst, append_assoc}
use Rattle.std.proofs.lemmas.List.{append-nil, length-drop, take-append-drop}
use Rattle.ss_bounds.specs.Times.{lies_in}
use Rattle.ss_bounds.proofs.TimeLemmas.{count_by-cons}
use Rattle.ss_summary.specs.Points.{Point}
use Rattle.ss_model.specs.Truth.{RiseAtFree}
use Rattle.ss_laws.specs.Rebuilt.{one_if, at_time, placed_at_times}
use Rattle.ss_laws.proofs.PickedLemmas.{picked, left, picked-append, picked-at_true, picked-at_false}

pub one_if-not : (b : Bool) → one_if b + one_if (not b) ≡ 1
one_if-not true = refl
one_if-not false = refl

pub one-value : (vs : List ℤ) → length vs ≡ 1 → (v : ℤ) × (vs ≡ v ∷ [])
one-value [] one = absurd (omega arith)
one-value (v ∷ []) one = (v, refl)
one-value (v ∷ u ∷ us) one = absurd (omega arith)

pub RiseAtFree-earlier : (free : ℕ → Bool) (start later : ℕ) (values : List Point) → start ≤ later → RiseAtFree free later values
    → RiseAtFree free start values
RiseAtFree-earlier free start later [] earlier rising = tt
RiseAtFree-earlier free start later (p ∷ ps) earlier rising = let late = rising.0 in (omega arith, rising.1, rising.2)

module _ (free : ℕ → Bool) (from to : ℕ) where
  -- how many of some times are free and lie inside the range, and how many are free and lie outside it
  abbrev pub count_within : List ℕ → ℕ
  count_within ts = count_by (λ t. free t && lies_in from to t) ts

  abbrev pub count_beyond : List ℕ → ℕ
  count_beyond ts = count_by (λ t. free t && not (lies_in from to t)) ts

  -- what a time takes of both sides
  abbrev of_both : Bool → Bool → List ℤ → List ℤ → List ℤ
  of_both f l inside outside = take (one_if (f && l)) inside ++ take (one_if (f && not l)) outside

  picked-both : (f l : Bool) (t : ℕ) (inside outside : List ℤ) → lies_in from to t ≡ l
      → (picked (lies_in from to) (at_time t (of_both f l inside outside)) ≡ take (one_if (f && l)) inside)
      × (left (lies_in from to) (at_time t (of_both f l inside outside)) ≡ take (one_if (f && not l)) outside)
  picked-both true true t inside outside is = (
    ap (λ z. picked (lies_in from to) (at_time t z)) (append-nil (take 1 inside)) ∙ picked-at_true (lies_in from to) t (take 1 inside) is,
    picked-at_false (λ u. not (lies_in from to u)) t (take 1 inside ++ []) (ap not is),
  )
  picked-both true false t inside outside is = (
    picked-at_false (lies_in from to) t (take 1 outside) is,
    picked-at_true (λ u. not (lies_in from to u)) t (take 1 outside) (ap not is),
  )
  picked-both false l t inside outside is = (refl, refl)

  pub picked-placed_at_times : (ts : List ℕ) (inside outside : List ℤ) → length inside ≤ count_within ts
      → picked (lies_in from to) (placed_at_times free from to ts inside outside) ≡ inside
  picked-placed_at_times [] [] outside few = refl
  picked-placed_at_times [] (v ∷ vs) outside few = absurd (omega arith)
  picked-placed_at_times (t ∷ ts) inside outside few =
      let i = one_if (free t && lies_in from to t) in
      let o = one_if (free t && not (lies_in from to t)) in
      let here = picked-both (free t) (lies_in from to t) t inside outside refl in
      let more = count_by-cons (λ u. free u && lies_in from to u) t ts in
      let rest = picked-placed_at_times ts (drop i inside) (drop o outside) (omega (arith, length-drop i inside, more)) in
      picked-append (lies_in from to) (at_time t (take i inside ++ take o outside)) (placed_at_times free from to ts (drop i inside) (drop o outside))
      ∙ ap₂ (λ x y. x ++ y) here.0 rest ∙ take-append-drop i inside

  pub left-placed_at_times : (ts : List ℕ) (inside outside : List ℤ) → length outside ≤ count_beyond ts
      → left (lies_in from to) (placed_at_times free from to ts inside outside) ≡ outside
  left-placed_at_times [] inside [] few = refl
  left-placed_at_times [] inside (v ∷ vs) few = absurd (omega arith)
  left-placed_at_times (t ∷ ts) inside outside few =
      let i = one_if (free t && lies_in from to t) in
      let o = one_if (free t && not (lies_in from to t)) in
      let here = picked-both (free t) (lies_in from to t) t inside outside refl in
      let more = count_by-cons (λ u. free u && not (lies_in from to u)) t ts in
      let rest = left-placed_at_times ts (drop i inside) (drop o outside) (omega (arith, length-drop o outside, more)) in
      picked-append (λ u. not (lies_in from to u)) (at_time t (take i inside ++ take o outside))
      (placed_at_times free from to ts (drop i inside) (drop o outside))
      ∙ ap₂ (λ x y. x ++ y) here.1 rest ∙ take-append-drop o outside

  RiseAtFree-both : (f l : Bool) (t : ℕ) (inside outside : List ℤ) (rest : List Point) → free t ≡ f → RiseAtFree free (t + 1) rest
      → RiseAtFree free t (at_time t (of_both f l inside outside) ++ rest)
  RiseAtFree-both true true t [] outside rest is rising = RiseAtFree-earlier free t (t + 1) rest (omega arith) rising
  RiseAtFree-both true true t (v ∷ vs) outside rest is rising = (omega arith, is, rising)
  RiseAtFree-both true false t inside [] rest is rising = RiseAtFree-earlier free t (t + 1) rest (omega arith) rising
  RiseAtFree-both true false t inside (v ∷ vs) rest is rising = (omega arith, is, rising)
  RiseAtFree-both false l t inside outside rest is rising = RiseAtFree-earlier free t (t + 1) rest (omega arith) rising

  pub RiseAtFree-placed_at_times : (n s : ℕ) (inside outside : List ℤ) (rest : List Point) → RiseAtFree free (s + n) rest
      → RiseAtFree free s (placed_at_times free from to (range_with_len s n) inside outside ++ rest)
  RiseAtFree-placed_at_times zero s inside outside rest rising = RiseAtFree-earlier free s (s + 0) rest (omega arith) rising
  RiseAtFree-placed_at_times (suc n) s inside outside rest rising =
      let i = one_if (free s && lies_in from to s) in
      let o = one_if (free s && not (lies_in from to s)) in
      let behind = placed_at_times free from to (range_with_len (s + 1) n) (drop i inside) (drop o outside) in
      let same : s + suc n ≡ s + 1 + n = omega arith in
      let later = RiseAtFree-placed_at_times n (s + 1) (drop i inside) (drop o outside) rest (subst (λ z. RiseAtFree free z rest) same rising) in
      subst (RiseAtFree free s) (sym (append_assoc (at_time s (take i inside ++ take o outside)) behind rest))
      (RiseAtFree-both (free s) (lies_in from to s) s inside outside (behind ++ rest) refl later)
