use Rattle.std.proofs.Common.{◌≡◌, [], ◌∷◌, ◌++◌, None, Option, false, is_some, sym, ◌∙◌, ap, arith}
use Rattle.indexmap.proofs.CallerLemmas.{insert_entry-new}
use Rattle.ss_catalog.specs.Names.{same_name}
use Rattle.ss_catalog.proofs.catalog.Catalog.add.Goals as goal
use Rattle.ss_catalog.proofs.catalog.Catalog.add.Goals.{in-Ok, in-Err}

none_from_is_some : {X : Type 0} (found : Option X) → is_some found ≡ false → found ≡ None
none_from_is_some found none = grind arith

-- a name that was not there goes last
pub returns-clause-ok : goal.returns-clause-ok
returns-clause-ok c =
    let put = (c.args.name, c.args.id) ∷ [] in
    elim c.match-insert.branch [
      | in-Ok w ↦ rw w.result-is
          (w.in-Ok.ensures.entries ∙ insert_entry-new same_name c.self.inside.ids c.args.name c.args.id
          (none_from_is_some _ (sym c.contains_key.ensures ∙ c.if-contains_key.false)) ∙ ap (λ names. names ++ put) c.self.view_is)
      | in-Err w ↦ rw w.result-is tt
    ]
