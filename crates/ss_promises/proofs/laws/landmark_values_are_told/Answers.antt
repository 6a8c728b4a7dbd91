use Rattle.ss_program.proofs.Common.{◌∙◌, ◌∷◌, ap, append_assoc, length, sym, ValuesHead, value_rows, plain_after, replies}
use Rattle.ss_promises.proofs.LawLemmas.{replies-among}
use Rattle.ss_promises.proofs.NewestLaws.{values-line}
use Rattle.ss_promises.proofs.laws.landmark_values_are_told.Goals as goal

pub returns : goal.returns
returns c history ls before after line name from to are means none =
    let here = plain_after history before in
    let it = values-line here line name from to means none in
    let rs = ValuesHead (length it.0) ∷ value_rows it.0 in (
      it.0,
      ap (λ l. replies history l) are ∙ replies-among history before after line rs it.1
          ∙ sym (append_assoc (replies history before) rs (replies here after)),
      it.2,
    )
