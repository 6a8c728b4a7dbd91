use Rattle.std.proofs.Common.{rules}
use Rattle.ss_certify.proofs.CheckLemmas.{Certifies-from_runs, HasValues-from_Certifies, IsOf-from_Certifies}
use Rattle.ss_certify.proofs.checking.certifies.Goals as goal

pub returns-then-is_of-clause-value : goal.returns-then-is_of-clause-value
returns-then-is_of-clause-value c = (
  (λ t. Certifies-from_runs _ _ (c.is_of.ensures.value.0 (rw c.if-is_of.true (search rules))) (c.has_values.ensures.0 t)),
  (λ certifies. c.has_values.ensures.1 (HasValues-from_Certifies _ _ certifies)),
)

pub returns-else-is_of-clause-value : goal.returns-else-is_of-clause-value
returns-else-is_of-clause-value c =
    ((λ t. absurd (search rules)), (λ certifies. c.is_of.ensures.value.1 (IsOf-from_Certifies _ _ certifies)))
