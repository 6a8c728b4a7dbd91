use Rattle.ss_store.proofs.Common.{◌≡◌, ◌∙◌, ap, sym, arith, is_some, open_landmark}
use Rattle.ss_store.proofs.EventsHeld.{count-open, one_if_open}
use Rattle.ss_store.proofs.Named.{is_some-option_map}
use Rattle.ss_store.proofs.store.events.mark_events.Goals as goal
use Rattle.ss_store.proofs.store.events.mark_events.Goals.{then-is_some, else-is_some}

pub returns-clause-value : goal.returns-clause-value
returns-clause-value c =
    let ls = c.args.landmarks.now.landmarks in
    let known = c.count.ensures.state in
    let closed = count-open 0 ls known.order in
    let begun : is_some (open_landmark ls) ≡ c.is_some.result =
    sym (c.is_some.ensures ∙ ap is_some c.opened.ensures.value ∙ is_some-option_map _ (open_landmark ls)) in
    let one = ap one_if_open begun in
    elim c.if-is_some.branch [
      | then-is_some w ↦ (let open_one = ap one_if_open w.if-is_some.true in omega (arith, closed, one, open_one))
      | else-is_some w ↦ (let open_none = ap one_if_open w.if-is_some.false in omega (arith, closed, one, open_none))
    ]
