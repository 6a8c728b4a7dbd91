-- The numbers that a generated command file is made of.
use Rattle.std.specs.Prelude.{ℕ, zero, suc, ◌+◌, ◌*◌, ◌/◌, ◌%◌, ◌^◌, ℤ, pos, ◌-ℤ◌}
use Rattle.ss_generator.specs.declared.TheConstants.{DIFFERENT_VALUES, GREATEST_VALUE, INCREMENT, MULTIPLIER}

-- the number after this one
unfoldable pub number_after : ℕ → ℕ
number_after x = (x * MULTIPLIER + INCREMENT) % 2 ^ 64

-- by how much the time of a number is later than the time before it
unfoldable pub delay : ℕ → ℕ
delay x = 1 + x / 2 ^ 60

-- the value of a number
unfoldable pub generated_value : ℕ → ℤ
generated_value x = pos ((x / 2 ^ 33) % DIFFERENT_VALUES) -ℤ GREATEST_VALUE

-- the number of round i; the seed stands before the first
abbrev pub number : ℕ → ℕ → ℕ
number seed zero = seed
number seed (suc i) = number_after (number seed i)

-- the time of round i; 0 stands before the first
abbrev pub time : ℕ → ℕ → ℕ
time seed zero = 0
time seed (suc i) = time seed i + delay (number seed (suc i))

-- the value of round i
abbrev pub value : ℕ → ℕ → ℤ
value seed i = generated_value (number seed i)
