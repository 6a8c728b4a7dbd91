use Rattle.ss_journal.proofs.Common.{ap, sym, ◌∙◌, List, ℕ, drop-take, check_of, masked_from}
use Rattle.ss_journal.specs.Checks.{entry_form}
use Rattle.ss_journal.proofs.checks.checked_entry.Goals as goal

pub returns : goal.returns
unfolding entry_form
returns c =
    c.mask.ensures
    ∙ ap (λ (mask : List ℕ). masked_from 540 mask c.args.entry)
    (c.check_of-check.ensures ∙ ap (check_of c.args.n) (sym (drop-take 1 539 c.args.entry)))
