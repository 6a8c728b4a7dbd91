use Rattle.ss_program.proofs.Common.{◌∙◌, ◌∷◌, ap, append_assoc, map, sym, row_count, row_start, rows_of, Answered, SeriesHead, Row, plain_after, replies}
use Rattle.ss_promises.proofs.LawLemmas.{lines-leave, replies-among, replies-around}
use Rattle.ss_promises.proofs.WholeLemmas.{whole-line, whole-series}
use Rattle.ss_promises.proofs.step_laws.whole_steps_are_answered_exactly.Goals as goal

pub returns-clause-query : goal.returns-clause-query
returns-clause-query c history ls before after line query step whole are means none within steps =
    let it = whole-line (plain_after history before) line query step (lines-leave history before whole) means none within steps in
    (it.0, ap (λ l. replies history l) are ∙ replies-around history before after line (Answered it.0) it.1, it.2, it.3, it.4)

pub returns-clause-series : goal.returns-clause-series
returns-clause-series c history ls before after line series step whole are means none within steps =
    let here = plain_after history before in
    let it = whole-series here line series step (lines-leave history before whole) means none within steps in
    let rs = SeriesHead series.kind (row_count series) ∷ map (λ row. Row (row_start series row) (it.0 row)) (rows_of series) in (
      it.0,
      ap (λ l. replies history l) are ∙ replies-among history before after line rs it.1
          ∙ sym (append_assoc (replies history before) rs (replies here after)),
      it.2,
    )
