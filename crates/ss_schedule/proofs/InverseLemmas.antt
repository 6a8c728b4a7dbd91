-- The positions of places in a heap of which two change places.
use Rattle.std.proofs.Common.{◌≡◌, ◌≢◌, ◌∙◌, ℕ, ◌<◌, List, length, get_or, set, ap, sym, arith, inl, inr}
use Rattle.std.proofs.lemmas.Bool.{cases_eq}
use Rattle.std.proofs.lemmas.List.{get_or-set_same, get_or-set_other, length-set}
use Rattle.std.specs.List.{SwappedAt}
use Rattle.ss_schedule.specs.Held.{AreInverse}

module _ (heap new positions : List ℕ) (i j : ℕ) (held : AreInverse heap positions) (swapped : SwappedAt heap new i j)
    (len : length new ≡ length heap) (i_in : i < length heap) (j_in : j < length heap) where
  module _ (x y : ℕ) (is_x : x ≡ get_or new i 0) (is_y : y ≡ get_or new j 0) where
    was_x : get_or heap j 0 ≡ x
    was_x = sym (is_x ∙ swapped.0 0)

    was_y : get_or heap i 0 ≡ y
    was_y = sym (is_y ∙ swapped.1 0)

    x_in : x < length heap
    x_in = omega (arith, held.below j j_in, was_x)

    y_in : y < length heap
    y_in = omega (arith, held.below i i_in, was_y)

    at_x : get_or positions x 0 ≡ j
    at_x = ap (λ (p : ℕ). get_or positions p 0) (sym was_x) ∙ held.placed j j_in

    at_y : get_or positions y 0 ≡ i
    at_y = ap (λ (p : ℕ). get_or positions p 0) (sym was_y) ∙ held.placed i i_in

    moved : List ℕ
    moved = set (set positions x i) y j

    length-moved : length moved ≡ length heap
    unfolding moved
    length-moved = length-set (set positions x i) y j ∙ length-set positions x i ∙ held.same

    moved_y : get_or moved y 0 ≡ j
    unfolding moved
    moved_y = get_or-set_same (set positions x i) y j 0 (omega (arith, y_in, held.same, length-set positions x i))

    moved_x : x ≢ y → get_or moved x 0 ≡ i
    unfolding moved
    moved_x other = get_or-set_other (set positions x i) y x j 0 other ∙ get_or-set_same positions x i 0 (omega (arith, x_in, held.same))

    moved_rest : (p : ℕ) → p ≢ x → p ≢ y → get_or moved p 0 ≡ get_or positions p 0
    unfolding moved
    moved_rest p not_x not_y = get_or-set_other (set positions x i) y p j 0 not_y ∙ get_or-set_other positions x p i 0 not_x

    -- x and y are two where i and j are
    apart : i ≢ j → x ≢ y
    apart other same = other (sym at_y ∙ ap (λ (p : ℕ). get_or positions p 0) (sym same) ∙ at_x)

    inverse-moved : AreInverse new moved
    inverse-moved = record {
      same = length-moved ∙ sym len;
      below = λ k lt. elim (cases_eq k i) [
        | inl same ↦ omega (arith, ap (λ (n : ℕ). get_or new n 0) same, is_x, x_in, len)
        | inr not_i ↦ elim (cases_eq k j) [
          | inl same ↦ omega (arith, ap (λ (n : ℕ). get_or new n 0) same, is_y, y_in, len)
          | inr not_j ↦ omega (arith, swapped.2 k 0 not_i not_j, held.below k (omega (arith, lt, len)), len)
        ]
      ];
      placed = λ k lt. elim (cases_eq k j) [
        | inl same ↦ ap (λ (n : ℕ). get_or moved (get_or new n 0) 0) same ∙ ap (λ (p : ℕ). get_or moved p 0) (sym is_y) ∙ moved_y ∙ sym same
        | inr not_j ↦ elim (cases_eq k i) [
          | inl same ↦ ap (λ (n : ℕ). get_or moved (get_or new n 0) 0) same ∙ ap (λ (p : ℕ). get_or moved p 0) (sym is_x)
              ∙ moved_x (apart (λ both. not_j (same ∙ both))) ∙ sym same
          | inr not_i ↦ (
              let lt_heap : k < length heap = omega (arith, lt, len) in
              let kept = swapped.2 k 0 not_i not_j in
              let stood = ap (λ (p : ℕ). get_or positions p 0) kept ∙ held.placed k lt_heap in
              moved_rest (get_or new k 0)
              (λ same. not_j (sym stood ∙ ap (λ (p : ℕ). get_or positions p 0) same ∙ at_x))
              (λ same. not_i (sym stood ∙ ap (λ (p : ℕ). get_or positions p 0) same ∙ at_y))
              ∙ stood)
        ]
      ];
      stands = λ p lt. elim (cases_eq p y) [
        | inl same ↦ omega (arith, ap (λ (q : ℕ). get_or moved q 0) same, moved_y, j_in, len)
        | inr not_y ↦ elim (cases_eq p x) [
          | inl same ↦ omega (arith, ap (λ (q : ℕ). get_or moved q 0) same, moved_x (λ both. not_y (same ∙ both)), i_in, len)
          | inr not_x ↦ omega (arith, moved_rest p not_x not_y, held.stands p (omega (arith, lt, len)), len)
        ]
      ];
      found = λ p lt. elim (cases_eq p y) [
        | inl same ↦ ap (λ (q : ℕ). get_or new (get_or moved q 0) 0) same ∙ ap (λ (n : ℕ). get_or new n 0) moved_y ∙ sym is_y ∙ sym same
        | inr not_y ↦ elim (cases_eq p x) [
          | inl same ↦ ap (λ (q : ℕ). get_or new (get_or moved q 0) 0) same
              ∙ ap (λ (n : ℕ). get_or new n 0) (moved_x (λ both. not_y (same ∙ both))) ∙ sym is_x ∙ sym same
          | inr not_x ↦ (
              let stood = held.found p (omega (arith, lt, len)) in
              ap (λ (n : ℕ). get_or new n 0) (moved_rest p not_x not_y)
              ∙ swapped.2 (get_or positions p 0) 0
              (λ same. not_y (sym stood ∙ ap (λ (n : ℕ). get_or heap n 0) same ∙ was_y))
              (λ same. not_x (sym stood ∙ ap (λ (n : ℕ). get_or heap n 0) same ∙ was_x))
              ∙ stood)
        ]
      ];
    }

    pub AreInverse-swap : AreInverse new (set (set positions x i) y j)
    unfolding moved
    AreInverse-swap = inverse-moved
