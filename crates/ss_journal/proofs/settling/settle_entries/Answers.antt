use Rattle.ss_journal.proofs.Common.{arith, ◌≡◌, length, refl, sym, ◌∙◌, eqb-true, reads-none, step-none, StaysShut}
use Rattle.std.proofs.lemmas.List.{nil_from_length}
use Rattle.ss_journal.proofs.InUseLemmas.{DoAs-none_few}
use Rattle.ss_journal.proofs.RedoLemmas.{first_closed-none}
use Rattle.ss_journal.proofs.StepLemmas.{reaches-read}
use Rattle.ss_journal.proofs.settling.settle_entries.Goals as goal

pub returns-then-is_empty-clause-shuts : goal.returns-then-is_empty-clause-shuts
returns-then-is_empty-clause-shuts g c =
    let none : length c.args.puts.now ≡ 0 = eqb-true (length c.args.puts.now) 0 (sym c.is_empty.ensures ∙ c.if-is_empty.true) in
    step-none _ _ (λ told.
    let entries = c.requires.entries told in
    reaches-read StaysShut _ (g.met.D.Disk.knows_now c.args.disk.now told) (reads-none _) (
      (
        entries.born,
        first_closed-none _ entries.in_use.found entries.born entries.in_use.map
            (DoAs-none_few entries.in_use.all (nil_from_length c.args.puts.now none)),
      ),
      refl,
    ))

pub returns-then-is_empty-clause-syncs : goal.returns-then-is_empty-clause-syncs
returns-then-is_empty-clause-syncs g c = step-none _ _ (λ told. omega arith)
