-- What is left after each round.
use Rattle.std.proofs.Common.{◌≡◌, ℕ, zero, suc, ◌+◌, ◌*◌, ◌≤◌, ◌++◌, ◌∷◌, length, length-append, append_assoc, ap, arith, refl, sym, ◌∙◌}
use Rattle.std.proofs.lemmas.Bool.Decides.{nat_tests}
use Rattle.std.specs.Prelude.{ℤ}
use Rattle.ss_generator.specs.Commands.{closing, commands, create, of_round, of_rounds, opening, queries}
use Rattle.ss_generator.specs.Left.{after}
use Rattle.ss_generator.specs.Numbers.{delay, number, number_after, time, value, generated_value}

-- the rounds up to one and what comes after it are all rounds and the queries
after-rounds : (seed i n m : ℕ) → i + n ≡ m → of_rounds seed i ++ after i (number seed i) (time seed i) n ≡ of_rounds seed m ++ queries (time seed m)
after-rounds seed i zero m all = let same : i ≡ m = omega arith in rw same refl
after-rounds seed i (suc n) m all =
    sym (append_assoc (of_rounds seed i) (of_round (suc i) (time seed (suc i)) (value seed (suc i)))
    (after (suc i) (number seed (suc i)) (time seed (suc i)) n))
    ∙ after-rounds seed (suc i) n m (omega arith)

-- what comes from the first command on are all commands
pub commands-left : (seed count : ℕ) → create ∷ after 0 seed 0 count ≡ commands seed count
unfolding commands
commands-left seed count = ap (λ rest. create ∷ rest) (after-rounds seed 0 count count (omega arith))

-- a round has at most three commands
length-opening : (i t : ℕ) → length (opening i t) ≤ 1
length-opening i t = grind (arith, nat_tests)

length-closing : (i t : ℕ) → length (closing i t) ≤ 1
length-closing i t = grind (arith, nat_tests)

length-of_round : (i t : ℕ) (v : ℤ) → length (of_round i t v) ≤ 3
length-of_round i t v = omega (arith, length-append (opening i t), length-opening i t, length-closing i t)

-- so all rounds after one have at most three each
pub length-after : (i x t n : ℕ) → length (after i x t n) ≤ 3 * n + 6
length-after i x t zero = omega arith
length-after i x t (suc n) =
    let y = number_after x in
    let u = t + delay y in
    omega (
      arith,
      length-append (of_round (suc i) u (generated_value y)) (after (suc i) y u n),
      length-of_round (suc i) u (generated_value y),
      length-after
          (suc i) y u n,
    )
