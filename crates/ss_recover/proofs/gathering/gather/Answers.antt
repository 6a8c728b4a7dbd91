use Rattle.ss_recover.proofs.Common.{◌∙◌, ◌≡◌, ◌≤◌, ap, AreFoundBelow, arith, IsSealed, JournalState, List, rules, StandsFor, step-from, step-pair}
use Rattle.ss_recover.proofs.Common.{step-refused, subst, sym, ℕ}
use Rattle.ss_outside.proofs.CrashLemmas.{reads-joined}
use Rattle.ss_recover.proofs.GatherLemmas.{extent-kept, IsLowestBad-told, StandsFor-sealed}
use Rattle.ss_recover.proofs.gathering.gather.Goals as goal

pub returns-clause-gathers : goal.returns-clause-gathers
returns-clause-gathers g c =
    step-from c.loop-slot.invariant.step (λ told before. record {
      found = λ found stands.
          let size : c.loop-slot.slot ≡ found.extent = omega (
            arith,
            c.loop-slot-test.false,
            c.loop-slot.invariant.within,
            c.extent-end.ensures.value,
            extent-kept c.args.journal.now _ found c.requires.sealed (c.requires.one_disk told) stands,
          ) in
          subst (λ (n : ℕ). AreFoundBelow n c.loop-slot.read found) size (before.found found stands);
      reads = before.reads;
    })

pub returns-in-Err-take_page-clause-gathers : goal.returns-in-Err-take_page-clause-gathers
returns-in-Err-take_page-clause-gathers g c =
    let sealed : IsSealed c.loop-slot.journal = ap (λ (j : JournalState). j.staged) c.loop-slot.invariant.journal ∙ c.requires.sealed in
    let le : c.min-next.result ≤ c.extent-end.result = search rules in
    step-refused (step-pair c.loop-slot.invariant.step c.in-Ok.ensures.reads) (λ told both. record {
      found = λ found stands.
          let there = subst (λ (content : List ℕ). StandsFor content found) (sym both.1.reads.same.content) stands in
          let page = both.2.bytes found (StandsFor-sealed c.loop-slot.journal _ found sealed there) in
          let bad = c.in-Err-take_page.ensures.found found page (both.1.found found stands) in
          let extent = extent-kept c.args.journal.now _ found c.requires.sealed (c.requires.one_disk told) stands in
          IsLowestBad-told c.min-next.result c.in-Err-take_page.n found (omega (arith, le, c.extent-end.ensures.value, extent)) bad;
      reads = reads-joined _ _ _ both.1.reads both.2.reads;
    })
