use Rattle.std.proofs.Common.{rules, tests, ◌≡◌, ◌∙◌}
use Rattle.std.specs.Prelude.{string_bytes}
use Rattle.std.specs.List.{list_any}
use Rattle.std.specs.Str.Parse.{starts_with_minus}
use Rattle.std.proofs.lemmas.Iterator.{YieldsList-from_slice}
use Rattle.std.proofs.lemmas.Iterator.Search.{any_from_yields_List}
use Rattle.clap.proofs.WalkLemmas.{list_any-map}
use Rattle.ss_arguments.proofs.reading.has_option.Goals as goal

pub returns : goal.returns
returns c =
    let any : c.any.result ≡ list_any (λ word. starts_with_minus (string_bytes word)) c.args.words.now =
    any_from_yields_List (λ word. starts_with_minus (string_bytes word)) _ _ _ c.any.ensures.ran (YieldsList-from_slice c.args.words.now cc)
    (λ x b q k. search (rules, tests)) in
    any ∙ list_any-map starts_with_minus (λ word. string_bytes word) c.args.words.now
