use Rattle.std.proofs.Common.{◌∙◌, sym, ap, ◌/◌, nat_eq}
use Rattle.std.proofs.lemmas.Map.{keys-set_value}
use Rattle.std.specs.Map.{keys_of}
use Rattle.std.specs.Option.{option_copied_mut}
use Rattle.ss_records.specs.Pages.{ArePages}
use Rattle.ss_records.proofs.PageLemmas.{ArePages-put, ArePages-uncached}
use Rattle.ss_records.proofs.pages.Pages.put.Goals as goal
use Rattle.ss_records.proofs.pages.Pages.put.Goals.{in-Some, in_default}

pub returns-clause-pages : goal.returns-clause-pages
returns-clause-pages c map are =
    let put = c.args.put.now in
    let cached = c.self.inside.cache.entries in
    let was : ArePages cached map = rw c.self.view_is are in
    elim c.match-peek_mut.branch [
      | in-Some w ↦ rw w.self-inside-is (ArePages-put put cached map was w.in-Some.page.now w.put.new.self c.is_valid.ensures.0
          (sym c.peek_mut.ensures.value ∙ ap option_copied_mut w.in-Some.is) w.put.ensures.written w.put.ensures.others)
      | in_default w ↦ rw w.self-inside-is (ArePages-uncached put cached map was (sym c.peek_mut.ensures.value ∙ ap option_copied_mut w.in_default.is))
    ]

pub returns-clause-numbers : goal.returns-clause-numbers
returns-clause-numbers c =
    let put = c.args.put.now in
    let cached = c.self.inside.cache.entries in
    elim c.match-peek_mut.branch [
      | in-Some w ↦ rw w.self-inside-is (keys-set_value (nat_eq (put.slot / 32)) cached w.put.new.self ∙ ap keys_of c.self.view_is)
      | in_default w ↦ rw w.self-inside-is (ap keys_of c.self.view_is)
    ]
