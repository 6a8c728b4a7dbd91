use Rattle.std.proofs.Common.{◌⊎◌, Err, Ok, Result, inl, inr}
use Rattle.std.specs.Prelude.{◌↔◌, IsErr, OnErr}
use Rattle.test_disk.proofs.devices.ahead.write.Goals as goal

-- a call that fails where it is listed, and else only beyond the spare
exactly : {T E : Type 0} (Listed Enough Torn Starved : Type 0) (result : Result T E) → (Listed → IsErr result) →
    OnErr result ((Listed × Torn) ⊎ ((Enough → ⊥) × Starved)) → Enough → IsErr result ↔ Listed
exactly Listed Enough Torn Starved (Ok value) listed failed enough = (λ is. cc, listed)
exactly Listed Enough Torn Starved (Err e) listed failed enough = (λ is. elim failed [ inl torn ↦ torn.0 | inr starved ↦ absurd (starved.0 enough) ], listed)

pub returns : goal.returns
returns c = exactly _ _ _ _ c.write_at.result c.write_at.ensures.listed c.write_at.ensures.failed c.requires.spare
