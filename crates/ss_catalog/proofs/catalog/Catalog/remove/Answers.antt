use Rattle.std.proofs.Common.{◌∙◌, ap}
use Rattle.ss_catalog.specs.Catalog.{without_name}
use Rattle.ss_catalog.proofs.CatalogLemmas.{remove_entry-without_name}
use Rattle.ss_catalog.proofs.catalog.Catalog.remove.Goals as goal

-- the one entry of the name is taken out
pub returns-clause-others : goal.returns-clause-others
returns-clause-others c =
    c.shift_remove.ensures.entries
    ∙ remove_entry-without_name c.args.name.now c.self.inside.ids.entries c.self.invariant.distinct
    ∙ ap (without_name c.args.name.now) c.self.view_is
