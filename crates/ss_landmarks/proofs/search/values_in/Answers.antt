use Rattle.std.proofs.Common.{drop}
use Rattle.std.specs.Prelude.{FitsSigned}
use Rattle.std.specs.Int.{w64}
use Rattle.std.proofs.lemmas.List.Elements.{All-take, All-drop}
use Rattle.ss_landmarks.specs.declared.stored.StoredValue.{StoredValue}
use Rattle.ss_landmarks.proofs.ValueLemmas.{stored-fit}
use Rattle.ss_landmarks.proofs.search.values_in.Goals as goal

pub returns-clause-fit : goal.returns-clause-fit
returns-clause-fit c =
    let values = c.args.values.now in
    All-take (λ (value : StoredValue). FitsSigned w64 value.v) _ (drop c.places_in-from.result.0 values)
    (All-drop (λ (value : StoredValue). FitsSigned w64 value.v) c.places_in-from.result.0 values (stored-fit values c.requires))
