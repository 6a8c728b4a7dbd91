-- What is held of a frame's stream beside histories.
use Rattle.std.proofs.Common.{◌≡◌, ◌∙◌, ℕ, ◌+◌, true, List, length, refl, ap, sym, Option, Some, None}
use Rattle.std.specs.Prelude.{is_some}
use Rattle.ss_model.specs.History.{Happened, events_of}
use Rattle.ss_model.specs.Refusals.{IsHistory, stands}
use Rattle.ss_model.specs.State.{Stream, state, stream_named}
use Rattle.ss_model.proofs.HistoryLemmas.{IsState-state}
use Rattle.ss_parts.specs.Held.{AllAgree}
use Rattle.ss_parts.specs.declared.parts.StreamParts.{StreamParts}
use Rattle.ss_store.specs.Kept.{SomeAgree, part_named}
use Rattle.ss_store.specs.declared.error.ApplyError.TheVariants as apply
use Rattle.ss_store.proofs.EventCounts.{named-state}
use Rattle.ss_store.proofs.Named.{SomeAgree-named}
use Rattle.ss_store.proofs.Named.{AreFound-named}
use Rattle.ss_replica.specs.Own.{own}
use Rattle.ss_replica.specs.declared.judging.Due.TheVariants as due
use Rattle.ss_replica.proofs.OwnLemmas.{length-own, own-none}

-- ---- how many events of a stream are held

none-agrees : (part : Option StreamParts) (o : Option Stream) → SomeAgree part o → part ≡ None → o ≡ None
none-agrees None None agree none = refl
none-agrees None (Some s) agree none = absurd agree
none-agrees (Some part) o agree none = cc

-- none of one that isn't held
pub own-missing : (parts : List StreamParts) (history : List Happened) (name : List ℕ) → IsHistory history → AllAgree parts (state history) →
    part_named name parts ≡ None → 0 ≡ length (own history name)
own-missing parts history name whole agree none =
    let gone = none-agrees (part_named name parts) (stream_named name (state history)) (SomeAgree-named parts (state history) name agree) none in
    ap length (sym (own-none history name whole gone))

-- as many as its stream owns
pub own-found : (parts : List StreamParts) (history : List Happened) (name : List ℕ) (part : StreamParts) → IsHistory history → AllAgree parts (state history) →
    part_named name parts ≡ Some part → length (own history name) ≡ 1 + length (events_of history part.name)
own-found parts history name part whole agree found =
    let at = AreFound-named parts (state history) name part agree (IsState-state history whole) found in
    let known : stands name (state history) ≡ true = ap is_some at.found_is in
    let named = named-state history name whole known in
    let same : Some at.stream ≡ Some named.stream = sym at.found_is ∙ named.found in
    let one : at.stream ≡ named.stream = cc in
    let name_is : name ≡ part.name = named.name_is ∙ ap (λ (s : Stream). s.name) (sym one) ∙ sym at.agrees.name in
    length-own history name at.stream whole at.found_is ∙ ap (λ n. 1 + length (events_of history n)) name_is
