use Rattle.std.proofs.Common.{◌∙◌, ◌/◌, ◌%◌, List, ap, nat_eq, sym, ℕ}
use Rattle.std.specs.Option.{option_copied_mut}
use Rattle.std.specs.Prelude.{option_map}
use Rattle.lru.specs.LruCache.{promoted}
use Rattle.ss_journal.specs.Calls.{slot_in_page}
use Rattle.ss_records.proofs.PageLemmas.{promoted-none, set_value-promoted}
use Rattle.ss_records.proofs.pages.Pages.find.Goals as goal
use Rattle.ss_records.proofs.pages.Pages.find.Goals.{in-None, in-Some}

pub returns-clause-promotes : goal.returns-clause-promotes
returns-clause-promotes c =
    let number = c.args.slot / 32 in
    let cached = c.self.inside.cache.entries in
    elim c.match-get_mut.branch [
      | in-Some w ↦ rw (w.self-inside-is, w.slot.ensures.same) (set_value-promoted number cached w.in-Some.page.now
          (sym c.get_mut.ensures.value ∙ ap option_copied_mut w.in-Some.is) ∙ ap (promoted (nat_eq number)) c.self.view_is)
      | in-None w ↦
          let none = sym c.get_mut.ensures.value ∙ ap option_copied_mut w.in-None.is in
          rw w.self-inside-is (sym (promoted-none cached c.args.slot
          (ap (option_map (λ (page : List ℕ). slot_in_page page (c.args.slot % 32))) none)) ∙ ap (promoted (nat_eq number)) c.self.view_is)
    ]
