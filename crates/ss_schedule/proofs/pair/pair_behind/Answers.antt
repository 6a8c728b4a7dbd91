use Rattle.std.proofs.Common.{◌≡◌, ◌+◌, sym, ◌∙◌, Some}
use Rattle.ss_line.specs.Line.{index_of, place_at}
use Rattle.ss_schedule.proofs.PairLemmas.{pair_at-read}
use Rattle.ss_schedule.proofs.pair.pair_behind.Goals as goal

pub returns-clause-pair : goal.returns-clause-pair
returns-clause-pair g c =
    let entries = c.args.line.now.entries in
    let behind : Some c.in_ok-right.right ≡ place_at entries (index_of entries c.args.at + 1) = sym c.in_ok-right.was ∙ c.requires.behind in (
      c.in_ok-right.was,
      pair_at-read entries c.len-len.ensures.line.apart c.args.at c.in_ok-right.right c.args.entry c.get-next.result c.requires.stands c.requires.entry
          behind c.get-next.ensures.entry,
    )
