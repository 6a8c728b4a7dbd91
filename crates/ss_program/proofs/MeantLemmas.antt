-- What is meant by a line, where frames are written.
use Rattle.ss_program.proofs.Common.{◌≡◌, ◌⊎◌, Option, Some, None, Result, Ok, Err, refl, inl, inr, Event, Refusal, Command, Do, Ask, Certify, Last, Values}
use Rattle.ss_program.proofs.Common.{Windows, Talk, meant_turn, silent}
use Rattle.ss_command.specs.declared.command.Command.TheVariants.{Series as AskRows, List as ListAll}

-- it is an event, or nothing comes of it
pub event-or-silent : (meant : Result (Option Command) Refusal) →
    ((event : Event) × (meant ≡ Ok (Some (Do event)))) ⊎ ((talk : Talk) → meant_turn talk meant ≡ silent talk)
event-or-silent (Err refusal) = inr (λ talk. refl)
event-or-silent (Ok None) = inr (λ talk. refl)
event-or-silent (Ok (Some (Do event))) = inl (event, refl)
event-or-silent (Ok (Some (Ask query))) = inr (λ talk. refl)
event-or-silent (Ok (Some (Certify query end))) = inr (λ talk. refl)
event-or-silent (Ok (Some (AskRows series))) = inr (λ talk. refl)
event-or-silent (Ok (Some (Last name))) = inr (λ talk. refl)
event-or-silent (Ok (Some (Values name from to))) = inr (λ talk. refl)
event-or-silent (Ok (Some (Windows name))) = inr (λ talk. refl)
event-or-silent (Ok (Some ListAll)) = inr (λ talk. refl)
