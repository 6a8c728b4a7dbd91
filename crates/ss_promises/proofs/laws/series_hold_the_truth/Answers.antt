use Rattle.ss_program.proofs.Common.{◌∙◌, ◌∷◌, ap, append_assoc, map, sym, row_count, row_start, rows_of, SeriesHead, Row, plain_after, replies}
use Rattle.ss_promises.proofs.LawLemmas.{answered-series, lines-leave, replies-among}
use Rattle.ss_promises.proofs.laws.series_hold_the_truth.Goals as goal

pub returns : goal.returns
returns c history ls before after line series whole are means none =
    let here = plain_after history before in
    let it = answered-series here line series (lines-leave history before whole) means none in
    let rs = SeriesHead series.kind (row_count series) ∷ map (λ row. Row (row_start series row) (it.0 row)) (rows_of series) in (
      it.0,
      ap (λ l. replies history l) are ∙ replies-among history before after line rs it.1
          ∙ sym (append_assoc (replies history before) rs (replies here after)),
      it.2,
    )
