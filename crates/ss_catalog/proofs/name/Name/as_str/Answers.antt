use Rattle.ss_catalog.proofs.NameLemmas.{IsUtf8-is_name}
use Rattle.ss_catalog.proofs.name.Name.as_str.Goals as goal

pub unreachable-requires : goal.unreachable-requires
unreachable-requires c = c.in-Err.ensures.cases.0 (IsUtf8-is_name _ c.as_bytes.ensures.name)
