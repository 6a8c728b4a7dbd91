-- Files that are 0 in pieces.
use Rattle.std.proofs.Common.{◌≡◌, ◌∙◌, ℕ, ◌+◌, ◌-◌, ◌*◌, ◌<◌, ◌≤◌, List, length, get_or, min, inl, inr, ap, sym, arith}
use Rattle.std.proofs.lemmas.Bool.{cases_lt}
use Rattle.std.proofs.lemmas.List.{get_or_past}

-- what is 0 up to a place, and in a piece from there on that ends with the image at the latest, is 0 up to the next piece
pub zeros_more : (image : List ℕ) (first n each at count : ℕ) → at ≡ first + n * each → count ≡ min (length image - at) each →
    ((place : ℕ) → first ≤ place → place < first + n * each → get_or image place 0 ≡ 0) →
    ((k : ℕ) → k < count → get_or image (at + k) 0 ≡ 0) →
    (place : ℕ) → first ≤ place → place < first + (n + 1) * each → get_or image place 0 ≡ 0
zeros_more image first n each at count here few before piece place from below =
    elim (cases_lt place at) [
      | inl early ↦ before place from (omega (arith, here, early))
      | inr late ↦
          let next : (n + 1) * each ≡ n * each + each = grind arith in
          elim (cases_lt (place - at) count) [
            | inl within ↦
                let same : at + (place - at) ≡ place = omega arith in
                sym (ap (λ p. get_or image p 0) same) ∙ piece (place - at) within
            | inr past ↦ get_or_past image place 0 (omega (arith, here, few, late, past, next, below))
          ]
    ]
