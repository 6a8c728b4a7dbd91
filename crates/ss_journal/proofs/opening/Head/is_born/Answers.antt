use Rattle.ss_journal.proofs.Common.{arith, nat_tests}
use Rattle.ss_journal.proofs.HeaderLemmas.{is_born-head}
use Rattle.ss_journal.proofs.opening.Head.is_born.Goals as goal
use Rattle.ss_journal.proofs.opening.Head.is_born.Goals.{then-self-ge-FIRST_SLOT, else-self-ge-FIRST_SLOT}

pub returns-then-self-eq-GATE_OPEN : goal.returns-then-self-eq-GATE_OPEN
returns-then-self-eq-GATE_OPEN c image head =
    let magic = c.has_magic.ensures image head in
    let is = is_born-head _ _ image head in
    elim c.if-self-ge-FIRST_SLOT.branch [ then-self-ge-FIRST_SLOT w ↦ grind (arith, nat_tests) | else-self-ge-FIRST_SLOT w ↦ grind (arith, nat_tests) ]

pub returns-else-self-eq-GATE_OPEN : goal.returns-else-self-eq-GATE_OPEN
returns-else-self-eq-GATE_OPEN c image head =
    let is = is_born-head _ _ image head in
    elim c.if-self-ge-FIRST_SLOT.branch [ then-self-ge-FIRST_SLOT w ↦ grind (arith, nat_tests) | else-self-ge-FIRST_SLOT w ↦ grind (arith, nat_tests) ]
