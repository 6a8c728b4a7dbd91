use Rattle.std.proofs.Common.{ap, arith, List, ℕ, length}
use Rattle.ss_catalog.proofs.NameLemmas.{length-is_name}
use Rattle.ss_report.proofs.text.begin_with_name.Goals as goal

pub push_str-requires : goal.push_str-requires
push_str-requires c =
    let long = length-is_name _ c.as_str.ensures.name in
    (omega arith, omega (arith, ap (λ (text : List ℕ). length text) c.requires))

pub returns-clause-short : goal.returns-clause-short
returns-clause-short c =
    let long = length-is_name _ c.as_str.ensures.name in
    omega (arith, c.push_str.ensures.len, ap (λ (text : List ℕ). length text) c.requires)
