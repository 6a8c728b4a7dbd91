use Rattle.std.proofs.Common.{◌+◌, arith}
use Rattle.ss_catalog.proofs.SeriesLemmas.{row-within}
use Rattle.ss_catalog.proofs.laws.rows_are_the_range.Goals as goal

pub returns-clause-next : goal.returns-clause-next
returns-clause-next c series row some more =
    let within = row-within series.from series.to series.step (row + 1) some more in
    omega (arith, within)
