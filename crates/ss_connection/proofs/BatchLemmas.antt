-- Events that are staged one after another.
use Rattle.ss_connection.proofs.HoldsLemmas.{first-more}
use Rattle.ss_connection.specs.Holds.{Holds}
use Rattle.ss_connection.specs.InTurn.{AreStagedInTurn, MadeStaged, accepted_events, event_replies, events_of, replies_of}
use Rattle.ss_connection.specs.Typed.{event_brings}
use Rattle.ss_program.proofs.Common.{◌≡◌, ◌∙◌, ◌++◌, ◌∷◌, [], List, ap, append_assoc, append-nil, at_start, joined, of_content, refl, sym, weaker, DiskView}
use Rattle.ss_program.proofs.Common.{Happened, History, IsTrue, KnowsNow, LeavesOnly, RecordsState, Reply, StandsForFirst, Told, the_event}

module _ {D : Type 0} (seen : D → DiskView) (knows : (disk : D) → IsTrue (seen disk).tells → KnowsNow (seen disk).told) where
  pub batch-held : (calls : List (MadeStaged D)) (was is : RecordsState) (old new : D) (history : History) (staged : List Happened) →
      AreStagedInTurn seen calls was old is new → IsTrue (seen old).tells → Holds history staged was (seen old).told →
      (replies_of calls ≡ event_replies (history ++ staged) (events_of calls))
      × Holds history (staged ++ accepted_events (history ++ staged) (events_of calls)) is (seen new).told
      × LeavesOnly (seen old).told (seen new).told (StandsForFirst history (staged ++ accepted_events (history ++ staged) (events_of calls)))
  batch-held [] was is old new history staged turns tells held = (
    refl,
    rw (turns.0, turns.1, append-nil) held,
    rw (turns.1, append-nil) (at_start (seen old).told (StandsForFirst history staged) (knows old tells)
        (of_content (seen old).told (StandsForFirst history staged) held.durable held.within)),
  )
  batch-held (made ∷ calls) was is old new history staged turns tells held =
      let told : IsTrue (seen made.old).tells = rw turns.2 tells in
      let from = history ++ staged in
      let here = event_brings from made.event in
      let first = the_event here.event in
      let did = (turns.0.told told).each history staged (rw (turns.1, turns.2) held) in
      let rest = batch-held calls made.is is made.new new history (staged ++ first) turns.3 (turns.0.tells ∙ told) did.0.holds in
      let same : history ++ (staged ++ first) ≡ from ++ first = sym (append_assoc history staged first) in
      let others = accepted_events (from ++ first) (events_of calls) in
      let all : staged ++ (first ++ others) ≡ (staged ++ first) ++ accepted_events (history ++ (staged ++ first)) (events_of calls) =
      sym (append_assoc staged first others) ∙ ap (λ (h : History). (staged ++ first) ++ accepted_events h (events_of calls)) (sym same) in
      let P = StandsForFirst history (staged ++ (first ++ others)) in
      let a = (seen made.old).told in
      let m = (seen made.new).told in
      let z = (seen new).told in (
        ap (λ (rs : List Reply). made.reply ∷ rs) (rest.0 ∙ ap (λ (h : History). event_replies h (events_of calls)) same)
            ∙ ap (λ (rs : List Reply). rs ++ event_replies (from ++ first) (events_of calls)) (sym did.1),
        rw all rest.1,
        rw (sym turns.2) (joined a m z P (weaker a m (StandsForFirst history (staged ++ first)) P
            (λ image some. rw (sym (append_assoc staged first others)) (first-more history (staged ++ first) others image some)) did.0.any_moment)
            (rw all rest.2)),
      )
