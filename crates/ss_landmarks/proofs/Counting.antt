-- How many numbers of a range pass a test.
use Rattle.std.proofs.Common.{◌≡◌, ℕ, zero, suc, ◌+◌, ◌<◌, ◌≤◌, Bool, true, false, cond, ap, refl, arith}
use Rattle.std.specs.List.{count_by, range_with_len}
use Rattle.std.proofs.lemmas.List.FromFn.{length-range_with_len}
use Rattle.std.proofs.lemmas.List.Sums.{sum_by-cons, count_by-le-length}

-- how many of n numbers, from a on, pass
abbrev pub among : (ℕ → Bool) → ℕ → ℕ → ℕ
among f a n = count_by f (range_with_len a n)

-- 1 for yes, and 0 for no
abbrev one : Bool → ℕ
one is = cond is 1 0

module _ (f : ℕ → Bool) where
  among-first : (a n : ℕ) → among f a (suc n) ≡ one (f a) + among f (a + 1) n
  among-first a n = sum_by-cons (λ u. one (f u)) a (range_with_len (a + 1) n)

  pub among-le : (a n : ℕ) → among f a n ≤ n
  among-le a n = omega (arith, count_by-le-length f (range_with_len a n), length-range_with_len a n)

  -- of two ranges, one after the other
  pub among-add : (a m n k b : ℕ) → k ≡ m + n → b ≡ a + m → among f a k ≡ among f a m + among f b n
  among-add a zero n k b both next =
      let whole : k ≡ n = omega arith in
      let same : b ≡ a = omega arith in
      rw (whole, same) (omega arith)
  among-add a (suc m) n zero b both next = absurd (omega arith)
  among-add a (suc m) n (suc k) b both next =
      omega (arith, among-first a m, among-first a k, among-add (a + 1) m n k b (omega arith) (omega arith))

  pub among-all : (a n : ℕ) → ((u : ℕ) → a ≤ u → u < a + n → f u ≡ true) → among f a n ≡ n
  among-all a zero all = refl
  among-all a (suc n) all =
      let here : one (f a) ≡ 1 = ap one (all a (omega arith) (omega arith)) in
      omega (arith, among-first a n, here, among-all (a + 1) n (λ u low high. all u (omega arith) (omega arith)))

  pub among-none : (a n : ℕ) → ((u : ℕ) → a ≤ u → u < a + n → f u ≡ false) → among f a n ≡ 0
  among-none a zero none = refl
  among-none a (suc n) none =
      let here : one (f a) ≡ 0 = ap one (none a (omega arith) (omega arith)) in
      omega (arith, among-first a n, here, among-none (a + 1) n (λ u low high. none u (omega arith) (omega arith)))

pub among-same : (f g : ℕ → Bool) (a n : ℕ) → ((u : ℕ) → a ≤ u → u < a + n → f u ≡ g u) → among f a n ≡ among g a n
among-same f g a zero same = refl
among-same f g a (suc n) same =
    let here : one (f a) ≡ one (g a) = ap one (same a (omega arith) (omega arith)) in
    omega (arith, among-first f a n, among-first g a n, here, among-same f g (a + 1) n (λ u low high. same u (omega arith) (omega arith)))
