use Rattle.std.proofs.Common.{arith}
use Rattle.ss_arguments.proofs.ModeLemmas.{mode_of-gen}
use Rattle.ss_arguments.proofs.laws.numbers_of_gen_are_in_range.Goals as goal

pub returns-clause-seed : goal.returns-clause-seed
returns-clause-seed c = λ words seed count e.
    let numbers = mode_of-gen words seed count e in
    omega arith

pub returns-clause-count : goal.returns-clause-count
returns-clause-count c = λ words seed count e.
    let numbers = mode_of-gen words seed count e in
    (numbers.1, numbers.2)
