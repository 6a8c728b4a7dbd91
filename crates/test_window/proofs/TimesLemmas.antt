-- What is true of each window stays so where one gets another place or goes.
use Rattle.std.proofs.Common.{◌≡◌, ◌≢◌, ℕ, ◌⊎◌, List, [], ◌∷◌, ◌++◌, All, sym, ap, subst, inl, inr}
use Rattle.std.proofs.lemmas.Bool.{cases_eq}
use Rattle.std.proofs.lemmas.List.Elements.{All-append, All-cons, All-head, All-nil, All-tail}
use Rattle.ss_line.specs.declared.entry.At.{At}

-- the windows before the one that begins at a time, its place, and the windows behind it
record Split (t : ℕ) (es : List (ℕ × At)) : Type 0 where
  before : List (ℕ × At)
  was : At
  behind : List (ℕ × At)
  is : es ≡ before ++ (t, was) ∷ behind

Split-cons : (t : ℕ) (e : ℕ × At) (es : List (ℕ × At)) → Split t es → Split t (e ∷ es)
Split-cons t e es it = record { before = e ∷ it.before; was = it.was; behind = it.behind; is = ap (λ fs. e ∷ fs) it.is }

split : (t : ℕ) (es : List (ℕ × At)) → Split t es ⊎ All (λ e. e.0 ≢ t) es
split t [] = inr (All-nil (λ e. e.0 ≢ t))
split t (e ∷ es) =
    elim (cases_eq e.0 t) [
      | inl same ↦ inl (record { before = []; was = e.1; behind = es; is = ap (λ (k : ℕ). (k, e.1) ∷ es) same })
      | inr differ ↦ elim (split t es) [
        | inl it ↦ inl (Split-cons t e es it)
        | inr none ↦ inr (All-cons (λ e. e.0 ≢ t) e es differ none)
      ]
    ]

module _ (P : ℕ → Type 0) where
  All-before : (xs ys : List (ℕ × At)) → All (λ e. P e.0) (xs ++ ys) → All (λ e. P e.0) xs
  All-before [] ys all = All-nil (λ e. P e.0)
  All-before (x ∷ xs) ys all =
      All-cons (λ e. P e.0) x xs (All-head (λ e. P e.0) x (xs ++ ys) all) (All-before xs ys (All-tail (λ e. P e.0) x (xs ++ ys) all))

  All-behind : (xs ys : List (ℕ × At)) → All (λ e. P e.0) (xs ++ ys) → All (λ e. P e.0) ys
  All-behind [] ys all = all
  All-behind (x ∷ xs) ys all = All-behind xs ys (All-tail (λ e. P e.0) x (xs ++ ys) all)

  module _ (t : ℕ) (old new : List (ℕ × At)) (absent : All (λ e. e.0 ≢ t) old → new ≡ old) (all : All (λ e. P e.0) old) where
    pub All-put : (at : At) →
        ((before behind : List (ℕ × At)) (was : At) → old ≡ before ++ (t, was) ∷ behind → new ≡ before ++ (t, at) ∷ behind) →
        All (λ e. P e.0) new
    All-put at place =
        elim (split t old) [
          | inl it ↦ (
              let there = subst (λ (es : List (ℕ × At)). All (λ e. P e.0) es) it.is all in
              let behind = All-behind it.before ((t, it.was) ∷ it.behind) there in
              let one = All-head (λ e. P e.0) (t, it.was) it.behind behind in
              subst (λ (es : List (ℕ × At)). All (λ e. P e.0) es) (sym (place it.before it.behind it.was it.is))
              (All-append (λ e. P e.0) it.before ((t, at) ∷ it.behind) (All-before it.before ((t, it.was) ∷ it.behind) there)
              (All-cons (λ e. P e.0) (t, at) it.behind one (All-tail (λ e. P e.0) (t, it.was) it.behind behind))))
          | inr none ↦ subst (λ (es : List (ℕ × At)). All (λ e. P e.0) es) (sym (absent none)) all
        ]

    pub All-cut : ((before behind : List (ℕ × At)) (was : At) → old ≡ before ++ (t, was) ∷ behind → new ≡ before ++ behind) → All (λ e. P e.0) new
    All-cut rest =
        elim (split t old) [
          | inl it ↦ (
              let there = subst (λ (es : List (ℕ × At)). All (λ e. P e.0) es) it.is all in
              let behind = All-behind it.before ((t, it.was) ∷ it.behind) there in
              subst (λ (es : List (ℕ × At)). All (λ e. P e.0) es) (sym (rest it.before it.behind it.was it.is))
              (All-append (λ e. P e.0) it.before it.behind (All-before it.before ((t, it.was) ∷ it.behind) there)
              (All-tail (λ e. P e.0) (t, it.was) it.behind behind)))
          | inr none ↦ subst (λ (es : List (ℕ × At)). All (λ e. P e.0) es) (sym (absent none)) all
        ]
