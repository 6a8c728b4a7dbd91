use Rattle.std.proofs.Common.{◌∙◌, sym, rules, tests}
use Rattle.std.proofs.lemmas.Iterator.{YieldsList-from_slice}
use Rattle.std.proofs.lemmas.Iterator.Search.{any_from_yields_List}
use Rattle.std.specs.Ordering.{int_eq}
use Rattle.ss_landmarks.specs.declared.stored.StoredValue.{StoredValue}
use Rattle.ss_landmarks.proofs.AmongLemmas.{is_among-bare}
use Rattle.ss_landmarks.proofs.search.is_among.Goals as goal

pub returns : goal.returns
returns c =
    any_from_yields_List (λ (value : StoredValue). int_eq value.v c.args.v) _ _ _ c.any.ensures.ran (YieldsList-from_slice c.args.values.now cc)
    (λ x b q k. search (rules, tests))
    ∙ sym (is_among-bare c.args.v c.args.values.now)
