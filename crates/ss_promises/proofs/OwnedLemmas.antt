-- A stream owns so few events that their numbers have 64 bits: each gave it a value, a landmark, the end of one or a value of one.
use Rattle.std.proofs.Common.{◌≡◌, ◌∙◌, ℕ, ◌+◌, ◌*◌, ◌≤◌, List, length, None, Some, ap, sym, refl, arith, true}
use Rattle.std.specs.Prelude.{All, Option, is_some}
use Rattle.std.proofs.lemmas.List.Sums.{count_by-le-length}
use Rattle.ss_base.specs.declared.limits.TheConstants.{MOST_VALUES}
use Rattle.ss_model.specs.History.{Happened, events_of, landmarks_of, values_of}
use Rattle.ss_model.specs.Refusals.{IsHistory, stands}
use Rattle.ss_model.specs.Standing.{IsStream}
use Rattle.ss_model.specs.State.{Stream, live, records_of, state, stream_named, values_in}
use Rattle.ss_model.specs.declared.types.TheConstants.{MOST_RECORDS}
use Rattle.ss_model.proofs.FoundLemmas.{All-around, found}
use Rattle.ss_model.proofs.HistoryLemmas.{IsState-state}
use Rattle.ss_model.proofs.NameLemmas.{same_name-Decides}
use Rattle.ss_model.proofs.ReadLemmas.{All-state}
use Rattle.ss_model.proofs.StandLemmas.{live-around}
use Rattle.ss_model.proofs.Stretches.{taken-windows}
use Rattle.ss_replica.specs.Own.{own}
use Rattle.ss_replica.proofs.OwnLemmas.{length-own, own-none}
use Rattle.ss_store.specs.Events.{is_closed, mark_events}
use Rattle.ss_store.proofs.EventCounts.{counted-history}
use Rattle.ss_targets.specs.Rule.{rule_of}

-- what a stream that stands has, by what the history gave it
record HasGiven (history : List Happened) (s : Stream) : Type 0 where
  values : values_in s ≡ length (values_of history s.name)
  landmarks : s.landmarks ≡ landmarks_of history s.name

given-state : (history : List Happened) → All (HasGiven history) (state history)
given-state history =
    All-state (HasGiven history) history
    (λ c. record { values = taken-windows (rule_of c.params) (values_of history c.name); landmarks = refl })

-- so many events gave the stream of a name what it has
given-few : (history : List Happened) (name : List ℕ) → IsHistory history → stands name (state history) ≡ true →
    length (values_of history name) + mark_events (landmarks_of history name) ≤ MOST_VALUES + 2 * MOST_RECORDS
given-few history name whole known =
    let was = IsState-state history whole in
    let at = found name (state history) was.names known in
    let named : name ≡ at.stream.name = (same_name-Decides name at.stream.name).0 at.named in
    let given = given-state history in
    let has = (All-around (HasGiven history) at.before at.stream at.after (rw at.is at given)).one in
    let is = (All-around IsStream at.before at.stream at.after (rw at.is at was.each)).one in
    let values : length (values_of history name) ≡ values_in at.stream = ap (λ n. length (values_of history n)) named ∙ sym has.values in
    let marks : mark_events (landmarks_of history name) ≡ mark_events at.stream.landmarks =
    ap (λ n. mark_events (landmarks_of history n)) named ∙ ap mark_events (sym has.landmarks) in
    let all : live (state history) ≡ live at.before + records_of at.stream + live at.after =
    ap live at.is ∙ live-around at.before at.stream at.after in
    let closed = count_by-le-length is_closed at.stream.landmarks in
    omega (arith, values, marks, all, closed, was.room, is.windows.few)

own-known : (history : List Happened) (name : List ℕ) (o : Option Stream) → IsHistory history → stream_named name (state history) ≡ o →
    length (own history name) ≤ 1 + MOST_VALUES + 2 * MOST_RECORDS
own-known history name None whole is = omega (arith, ap length (own-none history name whole is))
own-known history name (Some s) whole is =
    let known : stands name (state history) ≡ true = ap is_some is in
    let counted : length (values_of history name) + mark_events (landmarks_of history name) ≡ length (events_of history name) =
    counted-history history whole name known in
    omega (arith, length-own history name s whole is, counted, given-few history name whole known)

pub own-few : (history : List Happened) (name : List ℕ) → IsHistory history → length (own history name) ≤ 1 + MOST_VALUES + 2 * MOST_RECORDS
own-few history name whole = own-known history name (stream_named name (state history)) whole refl
