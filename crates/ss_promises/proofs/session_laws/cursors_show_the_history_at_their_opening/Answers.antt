use Rattle.ss_program.proofs.Common.{Sessions, after_lines, begun}
use Rattle.ss_promises.proofs.HeardLemmas.{cursor-opens, cursor-shows, cursor-shows-begun}
use Rattle.ss_program.proofs.ReportLemmas.{after_lines-form}
use Rattle.ss_promises.proofs.session_laws.cursors_show_the_history_at_their_opening.Goals as goal

pub returns-clause-opened : goal.returns-clause-opened
returns-clause-opened c framed history before opening name session =
    cursor-opens framed (after_lines (begun (Sessions framed) history) before) opening name session (after_lines-form (begun (Sessions framed) history) before)

pub returns-clause-shown : goal.returns-clause-shown
returns-clause-shown c framed history before between opening line name session count =
    cursor-shows framed (after_lines (begun (Sessions framed) history) before) between opening line name session count
    (after_lines-form (begun (Sessions framed) history) before) (cursor-shows-begun framed history before)
