use Rattle.ss_journal.proofs.Common.{sym}
use Rattle.ss_journal.proofs.HeaderLemmas.{kind_of-checked, kind_of-other}
use Rattle.ss_journal.proofs.opening.Head.kind.Goals as goal

pub returns-then-has_magic_of : goal.returns-then-has_magic_of
returns-then-has_magic_of c image head = sym (kind_of-checked image (sym (c.if-has_magic_of.ensures image head)))

pub returns-else-has_magic_of : goal.returns-else-has_magic_of
returns-else-has_magic_of c image head = sym (kind_of-other image (sym (c.if-has_magic_of.ensures image head)))
