use Rattle.ss_journal.proofs.Common.{◌==◌, rules}
use Rattle.std.proofs.Common.{tests}
use Rattle.std.proofs.lemmas.Iterator.{YieldsList-from_slice}
use Rattle.std.proofs.lemmas.Iterator.Search.{all_from_yields_List}
use Rattle.ss_journal.proofs.entry.are_zeros.Goals as goal

pub returns : goal.returns
returns c =
    all_from_yields_List (λ byte. byte == 0) _ _ _ c.all.ensures.ran (YieldsList-from_slice c.args.bytes.now cc) (λ x b q k. search (rules, tests))
