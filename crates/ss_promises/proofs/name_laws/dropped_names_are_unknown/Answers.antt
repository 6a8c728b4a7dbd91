use Rattle.ss_program.proofs.Common.{◌∙◌, [], ◌∷◌, ◌++◌, ap, append-nil, Sessions, Unknown, Refused, history_after, after_lines, plain_after, replies, begun}
use Rattle.ss_promises.proofs.LawLemmas.{replies-around}
use Rattle.ss_promises.proofs.NeededLemmas.{cursor-unknown, form-lines, line-unknown, turn-unknown, unknown-lines}
use Rattle.ss_promises.proofs.UnknownLemmas.{lines-dropped}
use Rattle.ss_promises.proofs.name_laws.dropped_names_are_unknown.Goals as goal

pub returns-clause-plain : goal.returns-clause-plain
returns-clause-plain c history ls before between after dropping line name command are drops spared means needs =
    let at = plain_after history (before ++ dropping ∷ between) in
    let is = line-unknown at line command name means needs (lines-dropped history before between dropping name drops spared) in (
      ap (λ l. replies history l) are ∙ replies-around history (before ++ dropping ∷ between) after line (Refused Unknown) is,
      ap (λ b. history_after at b) is ∙ append-nil at,
    )

pub returns-clause-asked : goal.returns-clause-asked
returns-clause-asked c talk before between dropping line name speaker command drops spared asked needs =
    let dropped = before ++ dropping ∷ [] in
    turn-unknown (after_lines (after_lines talk dropped) between) speaker command line name (rw form-lines asked) needs
    (unknown-lines talk before between dropping name drops spared)

pub returns-clause-cursors : goal.returns-clause-cursors
returns-clause-cursors c framed history before between dropping opening name session drops spared opens =
    let talk = begun (Sessions framed) history in
    let dropped = before ++ dropping ∷ [] in
    cursor-unknown framed (after_lines (after_lines talk dropped) between) session opening name (form-lines talk dropped between) opens
    (unknown-lines talk before between dropping name drops spared)
