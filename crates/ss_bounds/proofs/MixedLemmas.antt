-- Fractions as the code holds them: a whole number and a proper fraction.
use Rattle.std.specs.Prelude.{◌≡◌, ℕ, ◌+◌, ◌-◌, ◌*◌, ◌/◌, ◌%◌, ◌^◌, ◌<◌, ◌≤◌, Bool, true, false, ℤ, pos, ◌+ℤ◌, ◌-ℤ◌, ◌*ℤ◌, ◌≤ℤ◌, FitsSigned, unsigned_abs, map}
use Rattle.std.specs.Prelude.{Option, None, Some}
use Rattle.std.specs.Int.{w128}
use Rattle.std.specs.Ordering.{MatchOrdering}
use Rattle.std.specs.declared.cmp.Ordering.TheVariants.{Less, Equal, Greater}
use Rattle.std.proofs.Common.{Ordering, arith, ap, ap₂, refl, sym, subst, ◌∙◌}
use Rattle.std.proofs.lemmas.Bool.Decides.{nat_tests}
use Rattle.std.proofs.lemmas.Int.{ints, by_lt_z, to_z-of_z, to_z_pos}
use Rattle.std.proofs.Math.Nat.{div-le_self, mul-le-mul_left, mul-le-mul, mul-pos}
use Rattle.ss_summary.proofs.Bounds.{times-le-times}
use Rattle.ss_bounds.specs.Split.{SplitFigures, IsSplit}
use Rattle.ss_bounds.specs.Extremes.{listed}
use Rattle.ss_bounds.specs.Guess.{Fraction, whole, plus, sum_of, is_even, nearest, spread_over, guess_of_count, guess_of_sum}
use Rattle.ss_bounds.specs.Mixed.{IsProper, IsMixed, IsSpread, AreRests, part_of, rise}
use Rattle.ss_base.specs.Near.{IsNear}
use Rattle.ss_bounds.specs.declared.mixed.Mixed.{Mixed}
use Rattle.ss_bounds.specs.declared.spread.Spread.{Spread}
use Rattle.ss_bounds.proofs.Held.{held, held-is, sum-fits}
use Rattle.ss_bounds.proofs.Numbers.{times-minus, times-plus, plus-times, product-times}
use mir.Val.{to_z}
use Rattle.ss_bounds.proofs.GuessLemmas.{IsNearest, nearest-is, next-times, products-turned, product-turned, mean-low, mean-high}

-- what a fraction comes to with nothing added
plus-none : (a : Fraction) → plus a (whole (pos 0)) ≡ a
plus-none a = ap₂ (λ (o : ℤ) (u : ℕ). record { over = o; under = u }) (omega (arith, ints)) (omega arith)

none-plus : (a : Fraction) → plus (whole (pos 0)) a ≡ a
none-plus a = ap₂ (λ (o : ℤ) (u : ℕ). record { over = o; under = u }) (omega (arith, ints)) (omega arith)

-- the sum of what there is of two
pub sum_of-listed : (guess : SplitFigures → Fraction) (left right : Option SplitFigures)
    → plus (part_of guess left) (part_of guess right) ≡ sum_of (map guess (listed left right))
sum_of-listed guess None None = plus-none (whole (pos 0))
sum_of-listed guess None (Some b) = none-plus (guess b) ∙ sym (plus-none (guess b))
sum_of-listed guess (Some a) None = refl
sum_of-listed guess (Some a) (Some b) = ap (plus (guess a)) (sym (plus-none (guess b)))

-- three numbers as one fraction, whose whole number and rest are the sums of theirs
plus-parts : (k w x : ℤ) (u v o p : ℕ)
    → (plus (whole k) (plus (record { over = (pos u *ℤ w) +ℤ pos o; under = u }) (record { over = (pos v *ℤ x) +ℤ pos p; under = v }))).over
    ≡ ((pos (u * v) *ℤ ((k +ℤ w) +ℤ x)) +ℤ pos (v * o + u * p))
plus-parts k w x u v o p =
    let first = times-plus v (pos u *ℤ w) (pos o) in
    let second = times-plus u (pos v *ℤ x) (pos p) in
    let turned = product-turned v u w in
    let straight = product-times u v x in
    let all = times-plus (u * v) (k +ℤ w) x in
    let some = times-plus (u * v) k w in
    omega (arith, ints)

-- so many numbers above z lies the one that is nearest to z and rest / all
rise-at : (z : ℤ) (all rest r : ℕ) → 2 * (r * all) ≤ 2 * rest + all → 2 * rest ≤ 2 * (r * all) + all
    → (2 * (r * all) ≡ 2 * rest + all → unsigned_abs (z +ℤ pos r) % 2 ≡ 0)
    → (2 * rest ≡ 2 * (r * all) + all → unsigned_abs (z +ℤ pos r) % 2 ≡ 0)
    → IsNearest (record { over = (pos all *ℤ z) +ℤ pos rest; under = all }) (z +ℤ pos r)
rise-at z all rest r low high even_low even_high =
    let parts : (pos all *ℤ (z +ℤ pos r)) ≡ ((pos all *ℤ z) +ℤ pos (r * all)) =
    times-plus all z (pos r) ∙ ap (λ n. (pos all *ℤ z) +ℤ pos n) (omega arith) in
    record {
      low = omega (arith, ints);
      high = omega (arith, ints);
      even_low = λ tie. even_low (omega (arith, ints));
      even_high = λ tie. even_high (omega (arith, ints));
    }

even-at : (z : ℤ) (r : ℕ) → true ≡ is_even z → r % 2 ≡ 0 → unsigned_abs (z +ℤ pos r) % 2 ≡ 0
even-at z r is even = let one : unsigned_abs z % 2 ≡ 0 = grind (arith, nat_tests) in omega (arith, ints)

odd-at : (z : ℤ) (r : ℕ) → false ≡ is_even z → r % 2 ≡ 1 → unsigned_abs (z +ℤ pos r) % 2 ≡ 0
odd-at z r is odd = let one : unsigned_abs z % 2 ≡ 1 = grind (arith, nat_tests) in omega (arith, ints)

-- by how it compares with one half and with three
rise-nearest : (z : ℤ) (all rest : ℕ) (half more : Ordering) (even : Bool) → 0 < all → rest < 2 * all → even ≡ is_even z
    → MatchOrdering half (2 * rest < 1 * all) (2 * rest ≡ 1 * all) (1 * all < 2 * rest)
    → MatchOrdering more (2 * rest < 3 * all) (2 * rest ≡ 3 * all) (3 * all < 2 * rest)
    → IsNearest (record { over = (pos all *ℤ z) +ℤ pos rest; under = all }) (z +ℤ rise half more even)
rise-nearest z all rest Less more even some less even_is is_half is_more =
    rise-at z all rest 0 (omega arith) (omega arith) (λ tie. absurd (omega arith)) (λ tie. absurd (omega arith))
rise-nearest z all rest Equal more true some less even_is is_half is_more =
    rise-at z all rest 0 (omega arith) (omega arith) (λ tie. even-at z 0 even_is refl) (λ tie. even-at z 0 even_is refl)
rise-nearest z all rest Equal more false some less even_is is_half is_more =
    rise-at z all rest 1 (omega arith) (omega arith) (λ tie. odd-at z 1 even_is refl) (λ tie. odd-at z 1 even_is refl)
rise-nearest z all rest Greater Less even some less even_is is_half is_more =
    rise-at z all rest 1 (omega arith) (omega arith) (λ tie. absurd (omega arith)) (λ tie. absurd (omega arith))
rise-nearest z all rest Greater Equal true some less even_is is_half is_more =
    rise-at z all rest 2 (omega arith) (omega arith) (λ tie. even-at z 2 even_is refl) (λ tie. even-at z 2 even_is refl)
rise-nearest z all rest Greater Equal false some less even_is is_half is_more =
    rise-at z all rest 1 (omega arith) (omega arith) (λ tie. odd-at z 1 even_is refl) (λ tie. odd-at z 1 even_is refl)
rise-nearest z all rest Greater Greater even some less even_is is_half is_more =
    rise-at z all rest 2 (omega arith) (omega arith) (λ tie. absurd (omega arith)) (λ tie. absurd (omega arith))

-- a fraction by its parts
mixed-is : (a : Fraction) (m : Mixed) → IsMixed a m → a ≡ record { over = (pos m.under *ℤ m.whole) +ℤ pos m.over; under = m.under }
mixed-is a m is = ap₂ (λ (o : ℤ) (u : ℕ). record { over = o; under = u }) is.over is.under

rests-below : (u v o p : ℕ) → o < u → p < v → v * o + u * p < 2 * (u * v)
rests-below u v o p first second =
    let left : v * (o + 1) ≤ v * u = mul-le-mul_left v (omega arith) in
    let right : u * (p + 1) ≤ u * v = mul-le-mul_left u (omega arith) in
    omega arith

pub nearest-mixed : (k : ℤ) (m n : Mixed) (half more : Ordering) (even : Bool) (a b : Fraction) → IsMixed a m → IsMixed b n
    → even ≡ is_even ((k +ℤ m.whole) +ℤ n.whole)
    → (let rest = n.under * m.over + m.under * n.over in let all = m.under * n.under in
    MatchOrdering half (2 * rest < 1 * all) (2 * rest ≡ 1 * all) (1 * all < 2 * rest))
    → (let rest = n.under * m.over + m.under * n.over in let all = m.under * n.under in
    MatchOrdering more (2 * rest < 3 * all) (2 * rest ≡ 3 * all) (3 * all < 2 * rest))
    → (((k +ℤ m.whole) +ℤ n.whole) +ℤ rise half more even) ≡ nearest (plus (whole k) (plus a b))
nearest-mixed k m n half more even a b first second even_is is_half is_more =
    let z = (k +ℤ m.whole) +ℤ n.whole in
    let u = m.under in
    let v = n.under in
    let rest = v * m.over + u * n.over in
    let some : 0 < u * v = mul-pos first.fits.some second.fits.some in
    let near = rise-nearest z (u * v) rest half more even some (rests-below u v m.over n.over first.fits.proper second.fits.proper) even_is is_half is_more in
    let found = nearest-is (record { over = (pos (u * v) *ℤ z) +ℤ pos rest; under = u * v }) _ some near in
    let parts : plus (whole k)
    (plus (record { over = (pos u *ℤ m.whole) +ℤ pos m.over; under = u }) (record { over = (pos v *ℤ n.whole) +ℤ pos n.over; under = v }))
    ≡ record { over = (pos (u * v) *ℤ z) +ℤ pos rest; under = u * v } =
    ap₂ (λ (o : ℤ) (w : ℕ). record { over = o; under = w }) (plus-parts k m.whole n.whole u v m.over n.over) (omega arith) in
    found ∙ ap nearest (sym parts) ∙ ap₂ (λ c d. nearest (plus (whole k) (plus c d))) (sym (mixed-is a m first)) (sym (mixed-is b n second))

-- the same as the code computes it
pub computed-nearest : (k : ℤ) (m n : Mixed) (half more : Ordering) (even : Bool) (risen : ℤ) → IsNear k → IsProper m → IsProper n
    → risen ≡ rise half more even → unsigned_abs risen ≤ 2
    → even ≡ is_even (held (held (held k +ℤ held m.whole) +ℤ held n.whole))
    → (let rest = n.under * m.over + m.under * n.over in let all = m.under * n.under in
    MatchOrdering half (2 * rest < 1 * all) (2 * rest ≡ 1 * all) (1 * all < 2 * rest))
    → (let rest = n.under * m.over + m.under * n.over in let all = m.under * n.under in
    MatchOrdering more (2 * rest < 3 * all) (2 * rest ≡ 3 * all) (3 * all < 2 * rest))
    → (a b : Fraction) → IsMixed a m → IsMixed b n
    → held (held (held (held k +ℤ held m.whole) +ℤ held n.whole) +ℤ held risen) ≡ nearest (plus (whole k) (plus a b))
computed-nearest k m n half more even risen near proper other risen_is small even_is is_half is_more a b first second =
    let near_m = proper.near in
    let near_n = other.near in
    let k_is = held-is k k refl (omega (arith, ints)) in
    let m_is = held-is m.whole m.whole refl (omega (arith, ints)) in
    let n_is = held-is n.whole n.whole refl (omega (arith, ints)) in
    let r_is = held-is risen (rise half more even) risen_is (rw (← risen_is) (omega (arith, ints))) in
    let some = held-is _ (k +ℤ m.whole) (ap₂ (λ p q. p +ℤ q) k_is m_is) (omega (arith, ints)) in
    let all = held-is _ ((k +ℤ m.whole) +ℤ n.whole) (ap₂ (λ p q. p +ℤ q) some n_is) (omega (arith, ints)) in
    let found = nearest-mixed k m n half more even a b first second (even_is ∙ ap is_even all) is_half is_more in
    let small_rise = rw risen_is at small in
    held-is _ (((k +ℤ m.whole) +ℤ n.whole) +ℤ rise half more even) (ap₂ (λ p q. p +ℤ q) all r_is) (omega (arith, ints)) ∙ found

-- the whole part of a quotient lies between the whole numbers that the quotient lies between
floor-low : (u r : ℕ) (o z l : ℤ) → o ≡ ((pos u *ℤ z) +ℤ pos r) → r < u → (pos u *ℤ l) ≤ℤ o → l ≤ℤ z
floor-low u r o z l is proper low = by_lt_z z l (λ less.
    let scaled = times-le-times u (z +ℤ pos 1) l (omega (arith, ints)) in
    let next = next-times u z in
    absurd (omega (arith, ints))) (λ order. order)

floor-high : (u r : ℕ) (o z h : ℤ) → o ≡ ((pos u *ℤ z) +ℤ pos r) → r < u → o ≤ℤ (pos u *ℤ h) → z ≤ℤ h
floor-high u r o z h is proper high = by_lt_z h z (λ more.
    let scaled = times-le-times u (h +ℤ pos 1) z (omega (arith, ints)) in
    let next = next-times u h in
    absurd (omega (arith, ints))) (λ order. order)

-- a mean lies between the least and the greatest value
pub mean-small : (s : SplitFigures) → IsSplit s → (mean : ℤ) (left : ℕ) → s.sum ≡ ((pos s.count *ℤ mean) +ℤ pos left) → left < s.count
    → unsigned_abs mean ≤ 2 ^ 63
mean-small s split mean left is proper =
    let low = floor-low s.count left s.sum mean s.min is proper (mean-low s split) in
    let high = floor-high s.count left s.sum mean s.max is proper (mean-high s split) in
    let min_fits = split.min_fits in
    let max_fits = split.max_fits in
    omega (arith, ints)

-- what is added of it for a part of the free times is no further from 0
times-small : (n t k : ℕ) (a : ℤ) → n ≤ t → unsigned_abs a ≤ k → ((pos n *ℤ a) ≤ℤ (pos t *ℤ pos k)) × ((pos t *ℤ (pos 0 -ℤ pos k)) ≤ℤ (pos n *ℤ a))
times-small n t k a few small =
    let high = times-le-times n a (pos k) (omega (arith, ints)) in
    let low = times-le-times n (pos 0 -ℤ pos k) a (omega (arith, ints)) in
    let all : k * n ≤ k * t = mul-le-mul_left k few in
    let product = times-minus n (pos 0) (pos k) in
    let other = times-minus t (pos 0) (pos k) in
    (omega (arith, ints), omega (arith, ints))

more-small : (t n spare : ℕ) (mean more : ℤ) → (pos n *ℤ mean) ≡ ((pos t *ℤ more) +ℤ pos spare) → spare < t → n < t → unsigned_abs mean ≤ 2 ^ 63
    → unsigned_abs more ≤ 2 ^ 63
more-small t n spare mean more is proper few small =
    let within = times-small n t (2 ^ 63) mean (omega arith) small in
    let low = floor-low t spare (pos n *ℤ mean) more (pos 0 -ℤ pos (2 ^ 63)) is proper within.1 in
    let high = floor-high t spare (pos n *ℤ mean) more (pos (2 ^ 63)) is proper within.0 in
    omega (arith, ints)

-- the guess of a count, and of a sum from the mean and the rests
pub mixed-count : (s : SplitFigures) (g : Spread) → IsSpread s g → (w : ℤ) (o u : ℕ) → w ≡ pos g.values → o ≡ g.rest → u ≡ g.times
    → IsMixed (guess_of_count s) (record { whole = held w; over = o; under = u })
mixed-count s g is w o u w_is o_is u_is =
    let most = is.most in
    let held_is = held-is w (pos g.values) w_is (omega (arith, ints)) in
    subst (λ m. IsMixed (guess_of_count s) m)
    (ap₂ (λ (z : ℤ) (pair : ℕ × ℕ). record { whole = z; over = pair.0; under = pair.1 }) (sym held_is) (ap₂ (λ (a b : ℕ). (a, b)) (sym o_is) (sym u_is)))
    (record {
      under = sym is.times;
      over = let values = is.values in omega (arith, ints);
      fits = record {
        some = let proper = is.proper in omega arith;
        proper = is.proper;
        small = let short = is.short in omega arith;
        near = omega (arith, ints);
      };
    })

-- all of a sum as it is parted
sum-parts : (sum mean more few : ℤ) (c t n p left spare over : ℕ) → sum ≡ ((pos c *ℤ mean) +ℤ pos left)
    → (pos p *ℤ mean) ≡ ((pos t *ℤ more) +ℤ pos spare)
    → ((pos (c * t) *ℤ few) +ℤ pos over) ≡ pos (left * (t * n + p) + c * spare)
    → (pos (t * n + p) *ℤ sum) ≡ ((pos (c * t) *ℤ (((pos n *ℤ mean) +ℤ more) +ℤ few)) +ℤ pos over)
sum-parts sum mean more few c t n p left spare over sum_is more_is few_is =
    let whole_part = (pos n *ℤ mean) +ℤ more in
    let sums : (pos (t * n + p) *ℤ sum) ≡ (pos (t * n + p) *ℤ ((pos c *ℤ mean) +ℤ pos left)) = ap (λ z. pos (t * n + p) *ℤ z) sum_is in
    let split = times-plus (t * n + p) (pos c *ℤ mean) (pos left) in
    let turned = products-turned (t * n + p) c mean in
    let values = plus-times (t * n) p mean in
    let times = product-times t n mean in
    let joined = times-plus t (pos n *ℤ mean) more in
    let all : (pos (t * n + p) *ℤ mean) ≡ ((pos t *ℤ whole_part) +ℤ pos spare) = omega (arith, ints) in
    let scaled : (pos c *ℤ (pos (t * n + p) *ℤ mean)) ≡ (pos c *ℤ ((pos t *ℤ whole_part) +ℤ pos spare)) = ap (λ z. pos c *ℤ z) all in
    let parts = times-plus c (pos t *ℤ whole_part) (pos spare) in
    let product = product-times c t whole_part in
    let last = times-plus (c * t) whole_part few in
    omega (arith, ints)

pub mixed-sum : (s : SplitFigures) → IsSplit s → (g : Spread) → IsSpread s g → (mean more few : ℤ) (left spare over : ℕ)
    → s.sum ≡ ((pos s.count *ℤ mean) +ℤ pos left) → left < s.count
    → (pos g.rest *ℤ mean) ≡ ((pos g.times *ℤ more) +ℤ pos spare) → spare < g.times
    → AreRests s.count left g spare (few, over)
    → IsMixed (guess_of_sum s) (record { whole = ((pos g.values *ℤ mean) +ℤ more) +ℤ few; over = over; under = s.count * g.times })
mixed-sum s split g is mean more few left spare over mean_is mean_proper more_is more_proper rests =
    let small = mean-small s split mean left mean_is mean_proper in
    let near_more = more-small g.times g.rest spare mean more more_is more_proper is.proper small in
    let near_mean = times-small g.values (2 ^ 40) (2 ^ 63) mean (omega (arith, is.few, split.count_high)) small in
    let over_is : s.ends * spread_over s + (s.count - 2) * s.inside ≡ g.times * g.values + g.rest = sym is.values in
    record {
      under = ap (λ n. s.count * n) (sym is.times);
      over = ap (λ n. pos n *ℤ s.sum) over_is ∙ sum-parts s.sum mean more few s.count g.times g.values g.rest left spare over mean_is more_is rests.parts;
      fits = record {
        some = mul-pos (omega (arith, split.count_low)) (omega (arith, is.proper));
        proper = rests.proper;
        small = let all = mul-le-mul split.count_high is.short in omega arith;
        near = let near_few = rests.near in omega (arith, ints);
      };
    }

-- what the rests come to
pub rests-parts : (c t n p left spare shared q r over under k over_left : ℕ) → left * n ≡ shared → c * q + r ≡ shared
    → under ≡ c * t → over ≡ c * spare + r * t + left * p → under * k + over_left ≡ over
    → (c * t) * (q + k) + over_left ≡ left * (t * n + p) + c * spare
rests-parts c t n p left spare shared q r over under k over_left shared_is parted under_is over_is left_is =
    let scaled : t * (c * q + r) ≡ t * (left * n) = ap (λ m. t * m) (parted ∙ sym shared_is) in
    let unders : under * k ≡ (c * t) * k = ap (λ m. m * k) under_is in
    omega arith

pub rests-are : (count left : ℕ) (g : Spread) (spare : ℕ) → left < count → spare < g.times → g.rest < g.times → g.values ≤ count
    → count ≤ 2 ^ 40 → g.times ≤ 2 ^ 63
    → AreRests count left g spare (
      to_z w128 (left * g.values / count
          + (count * spare + left * g.values % count * g.times + left * g.rest) / (count * g.times)),
      (count * spare + left * g.values % count * g.times + left * g.rest) % (count * g.times),
    )
rests-are count left g spare left_few spare_few rest_few values_few few short =
    let shared = left * g.values in
    let over = count * spare + shared % count * g.times + left * g.rest in
    let under = count * g.times in
    let some : 0 < under = mul-pos (omega arith) (omega arith) in
    let first : shared / count ≤ shared = div-le_self shared count in
    let second : over / under ≤ over = div-le_self over under in
    let left_small : left ≤ 2 ^ 40 = omega arith in
    let values_small : g.values ≤ 2 ^ 40 = omega arith in
    let spare_small : spare ≤ 2 ^ 63 = omega arith in
    let rest_small : g.rest ≤ 2 ^ 63 = omega arith in
    let part_small : shared % count ≤ 2 ^ 40 = omega arith in
    let shared_small : shared ≤ 2 ^ 40 * 2 ^ 40 = mul-le-mul left_small values_small in
    let one : count * spare ≤ 2 ^ 40 * 2 ^ 63 = mul-le-mul few spare_small in
    let two : shared % count * g.times ≤ 2 ^ 40 * 2 ^ 63 = mul-le-mul part_small short in
    let three : left * g.rest ≤ 2 ^ 40 * 2 ^ 63 = mul-le-mul left_small rest_small in
    let small : shared / count + over / under ≤ 2 ^ 110 = omega arith in
    let is : to_z w128 (shared / count + over / under) ≡ pos (shared / count + over / under) = to_z_pos w128 _ (omega arith) in
    let parts : under * (shared / count + over / under) + over % under ≡ left * (g.times * g.values + g.rest) + count * spare =
    rests-parts count g.times g.values g.rest left spare shared (shared / count) (shared % count) over under (over / under) (over % under)
    refl (omega arith) refl refl (omega arith) in
    rw is (record {
      parts = let product = ap pos parts in omega (arith, ints);
      proper = omega arith;
      near = small;
    })

-- the same as the code computes it
small-held : (z : ℤ) → unsigned_abs z ≤ 2 ^ 120 → held z ≡ z
small-held z small = held-is z z refl (omega (arith, ints))

pub computed-mean : (s : SplitFigures) → IsSplit s → (mean : ℤ) (left : ℕ) → held s.sum ≡ ((pos s.count *ℤ mean) +ℤ pos left) → left < s.count
    → unsigned_abs (held mean) ≤ 2 ^ 63
computed-mean s split mean left is proper =
    let small = mean-small s split mean left (sym (to_z-of_z w128 s.sum (sum-fits s split)) ∙ is) proper in
    rw (small-held mean (omega (arith, ints))) small

pub computed-sum : (s : SplitFigures) → IsSplit s → (g : Spread) → IsSpread s g → (mean more few some most : ℤ) (left spare over c t : ℕ)
    → held s.sum ≡ ((pos s.count *ℤ mean) +ℤ pos left) → left < s.count → some ≡ (pos g.rest *ℤ held mean)
    → held some ≡ ((pos g.times *ℤ more) +ℤ pos spare) → spare < g.times → AreRests s.count left g spare (few, over)
    → most ≡ (pos g.values *ℤ held mean) → c ≡ s.count → t ≡ g.times
    → FitsSigned w128 (held most +ℤ held more) × FitsSigned w128 (held (held most +ℤ held more) +ℤ held few)
    × IsMixed (guess_of_sum s) (record { whole = held (held (held most +ℤ held more) +ℤ held few); over = over; under = c * t })
computed-sum s split g is mean more few some most left spare over c t sum_is left_few some_is more_is spare_few rests most_is c_is t_is =
    let sum = sym (to_z-of_z w128 s.sum (sum-fits s split)) ∙ sum_is in
    let small = mean-small s split mean left sum left_few in
    let mean_is = small-held mean (omega (arith, ints)) in
    let scaled = some_is ∙ ap (λ z. pos g.rest *ℤ z) mean_is in
    let some_small = times-small g.rest (2 ^ 63) (2 ^ 63) mean (omega (arith, is.proper, is.short)) small in
    let held_some = held-is some (pos g.rest *ℤ mean) scaled (omega (arith, ints, some_small)) in
    let parted = sym held_some ∙ more_is in
    let more_small = more-small g.times g.rest spare mean more parted spare_few is.proper small in
    let most_small = times-small g.values (2 ^ 40) (2 ^ 63) mean is.most small in
    let held_most = held-is most (pos g.values *ℤ mean) (most_is ∙ ap (λ z. pos g.values *ℤ z) mean_is) (omega (arith, ints, most_small)) in
    let held_more = small-held more (omega (arith, ints)) in
    let few_small = rests.near in
    let held_few = small-held few (omega (arith, ints)) in
    let both : FitsSigned w128 ((pos g.values *ℤ mean) +ℤ more) = omega (arith, ints, most_small) in
    let all : FitsSigned w128 (((pos g.values *ℤ mean) +ℤ more) +ℤ few) = omega (arith, ints, most_small) in
    let both_is = ap₂ (λ p q. p +ℤ q) held_most held_more in
    let held_both = held-is _ _ both_is both in
    let all_is = ap₂ (λ p q. p +ℤ q) held_both held_few in
    let held_all = held-is _ _ all_is all in
    let mixed = mixed-sum s split g is mean more few left spare over sum left_few parted spare_few rests in (
      rw both_is both,
      rw all_is all,
      subst (IsMixed (guess_of_sum s)) (ap₂ (λ (z : ℤ) (u : ℕ). record { whole = z; over = over; under = u }) (sym held_all)
          (sym (ap₂ (λ a b. a * b) c_is t_is))) mixed,
    )

pub mixed-same : (s t : SplitFigures) (m : Mixed) → s ≡ t → IsMixed (guess_of_sum s) m → IsMixed (guess_of_sum t) m
mixed-same s t m same = subst (λ z. IsMixed (guess_of_sum z) m) same
