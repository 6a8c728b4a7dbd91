use Rattle.ss_journal.proofs.Common.{arith, nat_tests}
use Rattle.ss_journal.proofs.HeaderLemmas.{is_unborn-head}
use Rattle.ss_journal.proofs.opening.Head.is_unborn.Goals as goal
use Rattle.ss_journal.proofs.opening.Head.is_unborn.Goals.{then-self-le1, else-self-le1}

pub returns-then-self-eq0 : goal.returns-then-self-eq0
returns-then-self-eq0 c image head =
    let is = is_unborn-head _ _ image head in
    elim c.if-self-le1.branch [ then-self-le1 w ↦ grind (arith, nat_tests) | else-self-le1 w ↦ grind (arith, nat_tests) ]

pub returns-then-has_magic : goal.returns-then-has_magic
returns-then-has_magic c image head =
    let magic = c.has_magic.ensures image head in
    let is = is_unborn-head _ _ image head in
    elim c.if-self-le1.branch [ then-self-le1 w ↦ grind (arith, nat_tests) | else-self-le1 w ↦ grind (arith, nat_tests) ]

pub returns-else-has_magic : goal.returns-else-has_magic
returns-else-has_magic c image head =
    let magic = c.has_magic.ensures image head in
    let is = is_unborn-head _ _ image head in
    elim c.if-self-le1.branch [ then-self-le1 w ↦ grind (arith, nat_tests) | else-self-le1 w ↦ grind (arith, nat_tests) ]
