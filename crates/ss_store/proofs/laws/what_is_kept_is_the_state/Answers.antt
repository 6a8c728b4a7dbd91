use Rattle.ss_store.proofs.Common.{shown-sealed, state, shown_by}
use Rattle.ss_store.proofs.KeptStates.{AllAgree-recovered, Recovers-StoreIsIn}
use Rattle.ss_store.proofs.laws.what_is_kept_is_the_state.Goals as goal

pub returns-clause-state : goal.returns-clause-state
returns-clause-state c store content streams kept is = AllAgree-recovered store (shown_by store.records content) streams kept.shown is

pub returns-clause-history : goal.returns-clause-history
returns-clause-history c store content history kept is =
    AllAgree-recovered store (shown_by store.records content) (state history) kept.shown is.state

pub returns-clause-recovers : goal.returns-clause-recovers
returns-clause-recovers c store content kept =
    (kept.shown.streams, Recovers-StoreIsIn store (shown_by store.records content) kept.shown, kept.shown.agree, kept.shown.state)

pub returns-clause-sealed : goal.returns-clause-sealed
returns-clause-sealed c store content sealed = shown-sealed store.records.journal content sealed
