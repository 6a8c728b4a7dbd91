use Rattle.std.proofs.Common.{◌≡◌, ◌∙◌, [], take, arith}
use Rattle.std.proofs.lemmas.List.{take_all}
use Rattle.ss_journal.specs.declared.put.Put.{Put}
use Rattle.ss_journal.specs.Puts.{with_puts}
use Rattle.ss_records.proofs.PageLemmas.{with_puts-next}
use Rattle.ss_records.proofs.pages.Pages.put_all.Goals as goal

pub loop-put-preserved : goal.loop-put-preserved
loop-put-preserved c =
    let puts = c.args.puts.now in
    let k = c.loop-put.put-index in
    let d : Put = record { slot = 0; bytes = [] } in
    record {
      pages = λ map are. rw (← with_puts-next puts k d map c.loop-put-test.true)
          (c.put.ensures.pages (with_puts (take k puts) map) (c.loop-put.invariant.pages map are));
      numbers = c.put.ensures.numbers ∙ c.loop-put.invariant.numbers;
    }

pub returns-clause-pages : goal.returns-clause-pages
returns-clause-pages c map are =
    let puts = c.args.puts.now in
    let all : take c.loop-put.put-index puts ≡ puts = take_all c.loop-put.put-index puts (omega arith) in
    rw all at (c.loop-put.invariant.pages map are)
