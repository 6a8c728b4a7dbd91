use Rattle.std.proofs.Common.{◌∙◌, sym, refl, true≢false}
use Rattle.ss_frames.proofs.FrameLemmas.{IsValidFrame-test, test-IsValidFrame}
use Rattle.ss_frames.proofs.frame.Frame.of.Goals as goal

pub invariant_of-result : goal.invariant_of-result
invariant_of-result c = IsValidFrame-test c.args.number c.args.event (sym c.is_valid_frame.ensures ∙ c.if-is_valid_frame.true)

pub returns-then-is_valid_frame-clause-valid : goal.returns-then-is_valid_frame-clause-valid
returns-then-is_valid_frame-clause-valid c =
    (λ _. IsValidFrame-test c.args.number c.args.event (sym c.is_valid_frame.ensures ∙ c.if-is_valid_frame.true), λ _. refl)

pub returns-else-is_valid_frame-clause-valid : goal.returns-else-is_valid_frame-clause-valid
returns-else-is_valid_frame-clause-valid c = (
  λ some. absurd (true≢false (sym some)),
  λ valid. sym c.if-is_valid_frame.false ∙ c.is_valid_frame.ensures ∙ test-IsValidFrame c.args.number c.args.event valid,
)
