use Rattle.std.proofs.Common.{◌≡◌, sym, ◌∙◌, Some, None}
use Rattle.ss_line.specs.Line.{index_of, place_before}
use Rattle.ss_schedule.proofs.PairLemmas.{pair_at-none, pair_at-read_before}
use Rattle.ss_schedule.proofs.pair.pair_before.Goals as goal

pub returns-in_err-left-clause-pair : goal.returns-in_err-left-clause-pair
returns-in_err-left-clause-pair g c =
    let entries = c.args.line.now.entries in
    let before : None ≡ place_before entries (index_of entries c.args.at) = sym c.in_err-left.was ∙ c.requires.before in
    c.from_residual.ensures ∙ sym (pair_at-none entries c.len-len.ensures.line.apart c.args.at c.requires.stands before)

pub returns-clause-pair : goal.returns-clause-pair
returns-clause-pair g c =
    let entries = c.args.line.now.entries in
    let before : Some c.in_ok-left.left ≡ place_before entries (index_of entries c.args.at) = sym c.in_ok-left.was ∙ c.requires.before in
    sym (pair_at-read_before entries c.len-len.ensures.line.apart c.args.at c.in_ok-left.left c.args.entry c.get-window.result c.requires.stands
    c.requires.entry before c.get-window.ensures.entry)
