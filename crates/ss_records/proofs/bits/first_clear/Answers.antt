use Rattle.std.proofs.Common.{ap, arith, ℕ, ◌+◌, ◌*◌}
use Rattle.ss_records.proofs.BitLemmas.{is_set-first_clear, is_set-before_clear}
use Rattle.ss_records.proofs.bits.first_clear.Goals as goal

pub returns-clause-clear : goal.returns-clause-clear
returns-clause-clear c =
    is_set-first_clear c.args.words.now c.args.n _ (omega (arith, c.type_inv.words c.args.n)) c.requires.room
    (ap (λ (i : ℕ). 64 * c.args.n + i) c.trailing_ones.ensures)

pub returns-clause-before : goal.returns-clause-before
returns-clause-before c =
    is_set-before_clear c.args.words.now c.args.n _ (omega (arith, c.type_inv.words c.args.n)) c.requires.room
    (ap (λ (i : ℕ). 64 * c.args.n + i) c.trailing_ones.ensures)
