use Rattle.std.proofs.Common.{◌≡◌, ◌∙◌, ◌++◌, [], ◌∷◌, ◌^◌, ◌<◌, ℕ, true, length, ap, subst, rules}
use Rattle.ss_catalog.specs.Names.{is_name}
use Rattle.ss_frames.specs.Frame.{checked_frame}
use Rattle.ss_model.specs.History.{added}
use Rattle.ss_replica.specs.Own.{own}
use Rattle.ss_replica.proofs.FramingLemmas.{checked-last}
use Rattle.ss_replica.proofs.framing.frame_after.Goals as goal

pub returns : goal.returns
returns c history whole agree =
    let event = c.args.event.now in
    let number = c.events_named.ensures.history (history ++ added event ∷ []) whole agree
    ∙ ap (λ name. length (own (history ++ added event ∷ []) name)) c.event_name-name.ensures in
    let named = subst (λ name. is_name name ≡ true) (c.as_bytes-word.ensures.value ∙ c.event_name-name.ensures) c.as_bytes-word.ensures.name in
    let few : c.events_named.result < 2 ^ 64 = search rules in
    let fits : c.step_of_event-step.result < 2 ^ 32 = search rules in
    let small = subst (λ n. n < 2 ^ 32) c.step_of_event-step.ensures fits in
    c.of.ensures.exact ∙ ap (λ (n : ℕ). checked_frame (record { number = n; event = event })) number
    ∙ checked-last history event whole named small (subst (λ n. n < 2 ^ 64) number few)
