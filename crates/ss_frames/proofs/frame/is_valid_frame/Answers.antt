use Rattle.std.specs.Prelude.{FitsSigned}
use Rattle.std.specs.Int.{w64}
use Rattle.std.proofs.Common.{◌∙◌, ap, sym, rules}
use Rattle.ss_catalog.specs.declared.event.Event.{Event}
use Rattle.ss_frames.specs.Frame.{is_valid_frame}
use Rattle.ss_frames.proofs.FrameLemmas.{is_valid_frame-Value}
use Rattle.ss_frames.proofs.frame.is_valid_frame.Goals as goal

pub returns-in-Value : goal.returns-in-Value
returns-in-Value c =
    let fits : FitsSigned w64 c.in-Value.v = search rules in
    c.is_later.ensures ∙ is_valid_frame-Value c.args.number c.in-Value.name c.in-Value.t c.in-Value.v fits
    ∙ ap (λ (event : Event). is_valid_frame c.args.number event) (sym c.in-Value.is)
