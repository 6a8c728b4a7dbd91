use Rattle.std.proofs.lemmas.Int.{to_z-of_z}
use Rattle.ss_certify.proofs.TestLemmas.{either-passed, either-failed}
use Rattle.ss_certify.proofs.checking.occurs.Goals as goal

pub returns-then-contains : goal.returns-then-contains
returns-then-contains c =
    either-passed _ c.if-contains.true (rw (to_z-of_z _ c.args.value c.ranges.value, c.as_slice.ensures.value) at c.contains.ensures)

pub returns-else-contains : goal.returns-else-contains
returns-else-contains c =
    either-failed _ _ c.if-contains.false (rw (to_z-of_z _ c.args.value c.ranges.value, c.as_slice.ensures.value) at c.contains.ensures)
    (rw (to_z-of_z _ c.args.value c.ranges.value, c.as_slice-else-contains.ensures.value) at c.contains-else-contains.ensures)
