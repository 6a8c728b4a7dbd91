use Rattle.ss_store.proofs.Common.{◌≡◌, rules, true, w64, to_z, of_z, has_open, of_part}
use Rattle.std.specs.Prelude.{FitsSigned}
use Rattle.ss_store.proofs.store.Store.stage_event.Goals as goal

pub returns-in-Create-clause-applies : goal.returns-in-Create-clause-applies
returns-in-Create-clause-applies g c = rw c.in-Create.is c.stage_create.ensures.applies

pub returns-then-has_open-clause-said : goal.returns-then-has_open-clause-said
returns-then-has_open-clause-said g c =
    let fits : FitsSigned w64 c.in-Value.v = search rules in
    rw c.in-Value.is (rw c.in-Value.is at c.requires.in_time, fits)

pub returns-then-has_open-clause-applies : goal.returns-then-has_open-clause-applies
returns-then-has_open-clause-applies g c =
    let back : to_z w64 (of_z w64 c.in-Value.v) ≡ c.in-Value.v = search rules in
    rw c.in-Value.is (rw back at c.stage_mark.ensures.applies)

pub returns-else-has_open-clause-said : goal.returns-else-has_open-clause-said
returns-else-has_open-clause-said g c =
    let fits : FitsSigned w64 c.in-Value.v = search rules in
    rw c.in-Value.is (rw c.in-Value.is at c.requires.in_time, fits)

pub returns-else-has_open-clause-applies : goal.returns-else-has_open-clause-applies
returns-else-has_open-clause-applies g c =
    let back : to_z w64 (of_z w64 c.in-Value.v) ≡ c.in-Value.v = search rules in
    rw c.in-Value.is (rw back at c.stage_value.ensures.applies)

pub returns-else-has_open-clause-failed : goal.returns-else-has_open-clause-failed
returns-else-has_open-clause-failed g c own =
    let wrong : of_part c.in-Value.name c.args.self.now.streams (λ part. has_open part.landmarks.landmarks) ≡ true = rw c.in-Value.is at own in absurd (cc)

pub returns-in-Open-clause-applies : goal.returns-in-Open-clause-applies
returns-in-Open-clause-applies g c = rw c.in-Open.is c.stage_mark-in-Open.ensures.applies

pub returns-in-Close-clause-applies : goal.returns-in-Close-clause-applies
returns-in-Close-clause-applies g c = rw c.in-Close.is c.stage_mark-in-Close.ensures.applies

pub returns-in-Drop-clause-applies : goal.returns-in-Drop-clause-applies
returns-in-Drop-clause-applies g c = rw c.in-Drop.is c.stage_drop.ensures.applies
