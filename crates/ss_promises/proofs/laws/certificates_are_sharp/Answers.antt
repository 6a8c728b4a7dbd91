use Rattle.ss_program.proofs.Common.{◌∙◌, ap, append_assoc, sym, told, plain_after, replies}
use Rattle.ss_promises.proofs.LawLemmas.{certified-line, lines-leave, replies-among}
use Rattle.ss_promises.proofs.laws.certificates_are_sharp.Goals as goal

pub returns : goal.returns
returns c history ls before after line query end whole are means none =
    let here = plain_after history before in
    let it = certified-line here line query end (lines-leave history before whole) means none in (
      it.0,
      ap (λ l. replies history l) are ∙ replies-among history before after line (told it.0) it.1
          ∙ sym (append_assoc (replies history before) (told it.0) (replies here after)),
      it.2,
    )
