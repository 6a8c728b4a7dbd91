use Rattle.ss_journal.proofs.Common.{◌∙◌, IsTrue, refl, sym, eq-eqb, ne_eqb, is_open}
use Rattle.ss_journal.proofs.HeaderLemmas.{is_born-parts}
use Rattle.ss_journal.proofs.EntryLemmas.{IsTxn-good}
use Rattle.ss_journal.proofs.OpenLemmas.{NextAs-closed, form-entry, open-form}
use Rattle.ss_journal.proofs.StepLemmas.{step-from, step-refused}
use Rattle.ss_journal.proofs.opening.next_entry.Goals as goal

pub returns-then-entry-clause-entry : goal.returns-then-entry-clause-entry
returns-then-entry-clause-entry g c =
    step-from c.in_ok-entry.ensures (λ told read. record {
      found = NextAs-closed _ c.args.n c.in_ok-entry.entry (read.found (is_born-parts _ (c.requires.born told)).0) (ne_eqb _ 165 c.if-entry.true);
      reads = read.reads;
    })

pub returns-then-not-is_good-clause-entry : goal.returns-then-not-is_good-clause-entry
returns-then-not-is_good-clause-entry g c =
    let opened : IsTrue (is_open c.entry_form-entry.result) = open-form c.args.kind c.args.n c.in_ok-entry.entry _ c.entry_form-entry.ensures
    (eq-eqb _ 165 c.if-entry.false) in
    step-refused c.in_ok-entry.ensures (λ told read. record {
      found = rw (← (c.entry_form-entry.ensures
          ∙ form-entry _ c.args.kind c.args.n _ (c.requires.kind told) (read.found (is_born-parts _ (c.requires.born told)).0)))
          (opened, sym c.if-not-is_good.ensures.value, refl);
      reads = read.reads;
    })

pub returns-clause-entry : goal.returns-clause-entry
returns-clause-entry g c =
    let opened : IsTrue (is_open c.entry_form-entry.result) = open-form c.args.kind c.args.n c.in_ok-entry.entry _ c.entry_form-entry.ensures
    (eq-eqb _ 165 c.if-entry.false) in
    step-from c.in_ok-entry.ensures (λ told read. record {
      found = rw (← (c.entry_form-entry.ensures
          ∙ form-entry _ c.args.kind c.args.n _ (c.requires.kind told) (read.found (is_born-parts _ (c.requires.born told)).0)))
          (opened, sym c.if-not-is_good.ensures.value, c.puts_of.ensures);
      reads = read.reads;
    })

pub returns-clause-sound : goal.returns-clause-sound
returns-clause-sound g c = rw c.puts_of.ensures (IsTxn-good _ _ (sym c.if-not-is_good.ensures.value))
