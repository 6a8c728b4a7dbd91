-- What a buffer holds after its end was written to.
use Rattle.std.proofs.Common.{◌≡◌, ◌∙◌, ℕ, ◌+◌, ◌-◌, ◌<◌, ◌≤◌, List, ◌++◌, length, get_or, take, drop, inl, inr}
use Rattle.std.proofs.Common.{ap, sym, arith}
use Rattle.std.proofs.lemmas.Bool.{cases_lt}
use Rattle.std.proofs.Math.Seq.{take-add}
use Rattle.std.proofs.lemmas.List.{get_or-take, get_or_append_left, get_or-append_right, length-take-le, take_rest}
use borrow.Rule.Slice.PartMut.{post_of, put_mid}

-- it holds before its end what it held
pub get_or-put_front : (done n k : ℕ) (xs ys : List ℕ) → done ≤ length xs → k < done → get_or (put_mid done n xs ys) k 0 ≡ get_or xs k 0
get_or-put_front done n k xs ys inside before =
    let front : length (take done xs) ≡ done = length-take-le done xs inside in
    get_or_append_left (take done xs) (ys ++ post_of done n xs) 0 k (omega arith) ∙ get_or-take done xs k 0 before

-- and at its end what was written
pub get_or-put_end : (done n k : ℕ) (xs ys : List ℕ) → done ≤ length xs → done ≤ k → k < done + length ys →
    get_or (put_mid done n xs ys) k 0 ≡ get_or ys (k - done) 0
get_or-put_end done n k xs ys inside from within =
    get_or-append_right (take done xs) (ys ++ post_of done n xs) done k 0 (length-take-le done xs inside) from
    ∙ get_or_append_left ys (post_of done n xs) 0 (k - done) (omega arith)

-- what was read first, and what is read behind it, is the image from a place on
pub read_more : (xs ys image : List ℕ) (at done count n : ℕ) → done ≤ length xs → count ≤ length ys →
    ((k : ℕ) → k < done → get_or xs k 0 ≡ get_or image (at + k) 0) →
    ((k : ℕ) → k < count → get_or ys k 0 ≡ get_or image (at + done + k) 0) →
    (k : ℕ) → k < done + count → get_or (put_mid done n xs ys) k 0 ≡ get_or image (at + k) 0
read_more xs ys image at done count n inside few first next k within =
    elim (cases_lt k done) [
      | inl before ↦ get_or-put_front done n k xs ys inside before ∙ first k before
      | inr from ↦
          let place : at + done + (k - done) ≡ at + k = omega arith in
          get_or-put_end done n k xs ys inside from (omega arith) ∙ next (k - done) (omega arith) ∙ ap (λ p. get_or image p 0) place
    ]

-- the first bytes of a list, and those of what is left of it, are its first bytes
pub take-written : (bytes : List ℕ) (done count : ℕ) →
    take done bytes ++ take count (take (length bytes - done) (drop done bytes)) ≡ take (done + count) bytes
take-written bytes done count = rw take_rest (sym (take-add done count bytes))
