use Rattle.ss_program.specs.declared.status.Status.TheVariants.{InputLimit, SourceFault}
use Rattle.ss_program.proofs.Common.{◌≡◌, Option, Some, None, IsSome, refl}
use Rattle.ss_program.specs.Ending.{served_by}
use Rattle.ss_promises.proofs.source_laws.sources_are_blamed_with_cause.Goals as goal

-- what isn't none is some
some-of : {X : Type 0} (o : Option X) → (o ≡ None → ⊥) → IsSome o
some-of None some = absurd (some refl)
some-of (Some x) some = refl

pub returns-clause-fault : goal.returns-clause-fault
returns-clause-fault g c mode held holds number feeds unfed is =
    (some-of (served_by mode) (λ none. (unfed none SourceFault is).silent), (feeds SourceFault is).counted.1)

pub returns-clause-limit : goal.returns-clause-limit
returns-clause-limit g c mode held holds number feeds unfed reads is =
    let served = some-of (served_by mode) (λ none. (unfed none InputLimit is).silent) in (
      served,
      (feeds InputLimit is).takes.limit refl,
      λ input left. ((reads served InputLimit is input left).limit refl).0,
    )
