-- The puts of a commit.
use Rattle.std.proofs.Common.{◌≡◌, ℕ, zero, suc, ◌+◌, ◌<◌, ◌≤◌, ◌^◌, IsTrue, [], ◌∷◌, ◌++◌, length, replicate, refl, arith}
use Rattle.std.proofs.lemmas.Bool.Decides.{nat_tests}
use Rattle.ss_journal.specs.declared.put.Put.{Put}
use Rattle.ss_journal.specs.Puts.{slots_rise_from, slots_fit, IsTxn}
use Rattle.bench_calls.specs.Puts.{puts_from}

-- one put of them
abbrev pub put_into : ℕ → ℕ → Put
put_into slot byte = record { slot = slot; bytes = replicate 128 byte }

-- one more put
pub puts_from-more : (first count byte : ℕ) → puts_from first (count + 1) byte ≡ puts_from first count byte ++ put_into (first + count) byte ∷ []
puts_from-more first zero byte = grind arith
puts_from-more first (suc count) byte = grind (arith, puts_from-more (first + 1) count byte)

pub length-puts_from : (first count byte : ℕ) → length (puts_from first count byte) ≡ count
length-puts_from first zero byte = refl
length-puts_from first (suc count) byte = grind (arith, length-puts_from (first + 1) count byte)

puts_from-rise : (first count byte least : ℕ) → least ≤ first → first + count ≤ 2 ^ 20 → IsTrue (slots_rise_from least (puts_from first count byte))
puts_from-rise first zero byte least from slots = refl
puts_from-rise first (suc count) byte least from slots =
    let rest = puts_from-rise (first + 1) count byte (first + 1) (omega arith) (omega (arith, slots)) in
    grind (arith, nat_tests, rest)

pub puts_from-fit : (first count byte extent : ℕ) → first ≤ extent → IsTrue (slots_fit (puts_from first count byte) extent)
puts_from-fit first zero byte extent fits = refl
puts_from-fit first (suc count) byte extent fits =
    let next = puts_from-fit (first + 1) count byte in
    grind (arith, nat_tests, next)

-- one to four of them may be committed
pub IsTxn-puts_from : (first count byte : ℕ) → 0 < count → count ≤ 4 → first + count ≤ 2 ^ 20 → IsTxn (puts_from first count byte)
IsTxn-puts_from first count byte some few slots =
    let long = length-puts_from first count byte in
    record { some = omega (arith, long); few = omega (arith, long); rise = puts_from-rise first count byte 0 (omega arith) slots }
