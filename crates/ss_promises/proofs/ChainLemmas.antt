-- What runs over one file leave, one after the other.
use Rattle.ss_program.specs.declared.status.Status.{Status}
use Rattle.ss_program.specs.declared.status.Status.TheVariants.{DiskFault, Done, InputLimit, OutOfMemory, RecordChanged, RefusedStore}
use Rattle.ss_program.specs.declared.status.Status.TheVariants.{SinkFault, SourceFault, Usage}
use Rattle.ss_program.proofs.Common.{◌≡◌, ◌∙◌, ◌⊎◌, ℕ, ◌+◌, ◌-◌, ◌*◌, ◌<◌, ◌≤◌, ◌++◌, List, [], ◌∷◌, length, take, take_all, Option, Some, None, refl, sym, ap}
use Rattle.ss_program.proofs.Common.{append_assoc, arith, inl, inr, append-nil, max, Form, Mode, Serve, Check, Gen, Sealing, Each, nothing_pending-same}
use Rattle.ss_program.proofs.Common.{read_leaves, reads-none, KnowsNow, OnlyReads, DiskView, NothingPending, Told, WhereTold, Stands, StandsShort, UsesAtMost}
use Rattle.ss_program.proofs.Common.{most_needed, length-uses, UsesAtMost-more, LeavesOnly, now, subst, Result, Shared, length-append, IsTrue, Bool}
use Rattle.ss_program.proofs.Common.{Generates, generated_lines, History, Serves, accepted, steps, Talk, begun, Happened}
use Rattle.ss_program.proofs.Common.{begun_over, plain_talk}
use Rattle.ss_journal.specs.Calls.{MakesChecked}
use Rattle.ss_journal.specs.declared.format.TheConstants.{FIRST_SLOT, MOST_SLOTS}
use Rattle.ss_base.specs.declared.limits.TheConstants.{SLOT_SIZE}
use Rattle.ss_outside.specs.declared.source.Failed.{Failed}
use Rattle.ss_program.proofs.HeldLemmas.{StandsShortForFirst-within}
use Rattle.ss_program.proofs.LeftLemmas.{opened_moments}
use Rattle.ss_program.proofs.OverLemmas.{accepted-over}
use Rattle.ss_store.proofs.KeptStates.{Stands-of_map}
use Rattle.ss_stream.proofs.Slots.{Turns-kept}
use Rattle.ss_stream.proofs.Within.{KeepsWithin-map}
use Rattle.ss_promises.proofs.AckedLemmas.{HasBegun, HasBegun-ends, HoldsOks-serves, oks-more, oks-nothing, oks-over}
use Rattle.ss_promises.specs.Acked.{oks}
use Rattle.ss_promises.specs.Chained.{AreLinked, Called, Ending, Extends, ExtendsAll, IsKnown, IsLeftBy, IsLink, Link, a_run, accepted_of, acked_in}
use Rattle.ss_promises.specs.Chained.{acked_of, at_a_moment, by_crash, by_itself, bytes_by, making, offered_in}

-- the history after a run, where its image stands for one and is no longer than that allows
abbrev pub Goes : {D : Type 0} → Option ℕ → Link D → History → Type 0
Goes used link history = (next : History) × Extends link history next × StandsShort used next link.image

-- what only reads leaves the file as it is
left-read : (ending : Ending) (old new : Told) (has image : List ℕ) → KnowsNow old → NothingPending old → OnlyReads old new →
    IsLeftBy ending old new has image → image ≡ old.content
left-read by_itself old new has image knows durable reads left =
    nothing_pending-same old new reads.same durable image left ∙ reads.same.content
left-read (by_crash got) old new has image knows durable reads left =
    nothing_pending-same old new reads.same durable image left.0 ∙ reads.same.content
left-read at_a_moment old new has image knows durable reads left = durable image ((read_leaves old new knows reads).each image left)

-- what is so at any moment is so of what is left
left-moment : (ending : Ending) (old new : Told) (has image : List ℕ) (P : List ℕ → Type 0) → KnowsNow new → LeavesOnly old new P →
    IsLeftBy ending old new has image → P image
left-moment by_itself old new has image P knows moments left = now old new P knows moments image left
left-moment (by_crash got) old new has image P knows moments left = now old new P knows moments image left.0
left-moment at_a_moment old new has image P knows moments left = moments.each image left

-- a link that is called so, and ends so
abbrev pub as_of : {D : Type 0} → Link D → Called → Ending → Link D
as_of link called ending = record link { called = called; ending = ending }

-- a call that accepts no event
record IsIdle (called : Called) : Type 0 where
  pub none : (input : List ℕ) (history : History) → accepted_of called input history ≡ []
  pub unacked : (input : List ℕ) (bytes : ℕ) (history : History) → acked_of called input bytes history ≡ 0
  pub unfed : (form : Form) (sealing : Sealing) → called ≡ a_run (Some (Serve form sealing)) → ⊥

idle-none : IsIdle (a_run None)
idle-none = record { none = λ input history. refl; unacked = λ input bytes history. refl; unfed = λ form sealing is. cc }

idle-check : IsIdle (a_run (Some Check))
idle-check = record { none = λ input history. refl; unacked = λ input bytes history. refl; unfed = λ form sealing is. cc }

idle-making : (result : Result Bool Failed) → IsIdle (making result)
idle-making result = record { none = λ input history. refl; unacked = λ input bytes history. refl; unfed = λ form sealing is. cc }

idle-goes : {D : Type 0} (used : Option ℕ) (link : Link D) (called : Called) (ending : Ending) (history : History) → IsIdle called →
    StandsShort used history link.image → Goes used (as_of link called ending) history
idle-goes used link called ending history idle stands =
    let nothing = idle.none link.input history in (
      history,
      record {
        j = 0;
        is = sym (ap (λ (es : List Happened). history ++ take 0 es) nothing ∙ append-nil history);
        few = omega arith;
        acked = omega (arith, idle.unacked link.input (bytes_by ending link.had link.has) history);
        at_most = λ known form each. omega arith;
        in_batch = λ known form shared. absurd (idle.unfed form Shared shared);
        done = λ known done. sym (ap (λ (es : List Happened). length es) nothing);
        starved = λ known form sealing asked starved. absurd (idle.unfed form sealing asked);
      },
      stands,
    )

-- a file is made one of a checked store, by a call that keeps what it stands for
making-goes : {D : Type 0} (used : Option ℕ) (link : Link D) (result : Result Bool Failed) (ending : Ending) (history : History) (old new : Told) →
    KnowsNow new → NothingPending old → MakesChecked result old new → StandsShort used history old.content →
    IsLeftBy ending old new link.has link.image → Goes used (as_of link (making result) ending) history
making-goes used link result ending history old new knows durable makes stands left =
    let keeps = makes.keeps_map in
    let turns = Turns-kept (Stands history) old new result (Stands-of_map history) keeps in
    let moments = opened_moments turns (KeepsWithin-map result keeps) used durable stands in
    idle-goes used link (making result) ending history (idle-making result)
    (left-moment ending old new link.has link.image (StandsShort used history) knows moments left)

-- a run over an input
module _ {D : Type 0} (used : Option ℕ) (link : Link D) (form : Form) (sealing : Sealing) (history : History) where
  abbrev talk : Talk
  talk = begun form history

  abbrev ls : List (List ℕ)
  ls = steps form link.input

  abbrev all : ℕ
  all = length link.has - length link.had

  same-accepted : (lines : List (List ℕ)) → accepted (begun_over used form history) lines ≡ accepted talk lines
  same-accepted lines = accepted-over used talk lines

  same-oks : oks (begun_over used form history) ls all ≡ oks talk ls all
  same-oks = oks-over used talk ls all

  -- what is known of its sink, by how many bytes this had got by its end
  serve-known : (ending : Ending) (old new : Told) → HasBegun link.status →
      Serves sealing (begun_over used form history) link.input link.rest (Some link.had) (Some link.has) old new link.status →
      bytes_by ending link.had link.has ≤ all → new.may_leave link.image → Goes used (as_of link (a_run (Some (Serve form sealing))) ending) history
  serve-known ending old new begun_so serves few left =
      let kept = HoldsOks-serves sealing (begun_over used form history) link.input link.rest (Some link.had) (Some link.has) old new link.status begun_so
      serves link.had link.has refl refl link.image left in
      let acked : oks talk ls all ≤ kept.j = rw same-oks at kept.acked in
      let front = oks-more talk ls (bytes_by ending link.had link.has) all few in (
        history ++ take kept.j (accepted talk ls),
        record {
          j = kept.j;
          is = refl;
          few = rw same-accepted at kept.few;
          acked = omega (arith, acked, front);
          at_most = λ known other each.
              (let same : sealing ≡ Each = cc in rw same-oks at (kept.at_most same));
          in_batch = λ known other shared.
              (let same : form ≡ other = cc in
              rw (← same) (kept.read, kept.others, kept.are, kept.rest, rw same-accepted at kept.within));
          done = λ known done. kept.all done ∙ ap (λ (es : List Happened). length es) (same-accepted ls);
          starved = λ known other others asked starved. kept.starved starved ∙ same-oks;
        },
        rw same-accepted at kept.stands,
      )

  serve-goes : (ending : Ending) (old new : Told) → HasBegun link.status →
      Serves sealing (begun_over used form history) link.input link.rest (Some link.had) (Some link.has) old new link.status →
      IsLeftBy ending old new link.has link.image → Goes used (as_of link (a_run (Some (Serve form sealing))) ending) history
  serve-goes by_itself old new begun_so serves left = serve-known by_itself old new begun_so serves (omega arith) left
  serve-goes (by_crash got) old new begun_so serves left =
      let longer = ap (λ (bs : List ℕ). length bs) left.1.1 in
      serve-known (by_crash got) old new begun_so serves (omega (arith, longer, length-append got left.1.0)) left.0
  serve-goes at_a_moment old new begun_so serves left =
      let some = rw same-accepted at (StandsShortForFirst-within (begun_over used form history) ls link.image (serves.any_moment.each link.image left)) in (
        history ++ take some.0 (accepted talk ls),
        record {
          j = some.0;
          is = refl;
          few = some.1;
          acked = omega (arith, oks-nothing talk ls);
          at_most = λ known other each. absurd known;
          in_batch = λ known other shared. absurd known;
          done = λ known done. absurd known;
          starved = λ known other others asked starved. absurd known;
        },
        some.2,
      )

-- a status is that of a run that is done, or another
done-or : (status : Status) → (status ≡ Done) ⊎ (status ≡ Done → ⊥)
done-or Done = inl refl
done-or Usage = inr (λ is. cc)
done-or RefusedStore = inr (λ is. cc)
done-or DiskFault = inr (λ is. cc)
done-or SourceFault = inr (λ is. cc)
done-or SinkFault = inr (λ is. cc)
done-or OutOfMemory = inr (λ is. cc)
done-or InputLimit = inr (λ is. cc)
done-or RecordChanged = inr (λ is. cc)

-- a run over a generated file: some first events, of which all are there where it is known that it is done
module _ {D : Type 0} (used : Option ℕ) (link : Link D) (seed count : ℕ) (ending : Ending) (history : History) where
  abbrev events : List Happened
  events = accepted (plain_talk history) (generated_lines seed count)

  some-goes : (j : ℕ) → j ≤ length events → (IsKnown ending → link.status ≡ Done → j ≡ length events) →
      StandsShort used (history ++ take j events) link.image → Goes used (as_of link (a_run (Some (Gen seed count))) ending) history
  some-goes j few done stands = (
    history ++ take j events,
    record {
      j = j;
      is = refl;
      few = few;
      acked = omega arith;
      at_most = λ known form each. cc;
      in_batch = λ known form shared. cc;
      done = done;
      starved = λ known form sealing asked starved. cc;
    },
    stands,
  )

  known-goes : (old new : Told) → Generates used history seed count (Some link.had) (Some link.has) old new link.status → new.may_leave link.image →
      Goes used (as_of link (a_run (Some (Gen seed count))) ending) history
  known-goes old new generates left = elim (done-or link.status) [
    | inl done ↦ some-goes (length events) (omega arith) (λ known is. refl)
        (rw (take_all (length events) events (omega arith)) (generates.all done link.image left))
    | inr other ↦ (let some = generates.kept link.image left in some-goes some.0 some.1 (λ known done. absurd (other done)) some.2)
  ]

generate-goes : {D : Type 0} (used : Option ℕ) (link : Link D) (seed count : ℕ) (ending : Ending) (history : History) (old new : Told) →
    Generates used history seed count (Some link.had) (Some link.has) old new link.status → IsLeftBy ending old new link.has link.image →
    Goes used (as_of link (a_run (Some (Gen seed count))) ending) history
generate-goes used link seed count by_itself history old new generates left = known-goes used link seed count by_itself history old new generates left
generate-goes used link seed count (by_crash got) history old new generates left =
    known-goes used link seed count (by_crash got) history old new generates left.0
generate-goes used link seed count at_a_moment history old new generates left =
    let some = generates.any_moment.each link.image left in
    some-goes used link seed count at_a_moment history some.0 some.1 (λ known done. absurd known) some.2

module _ {D : Type 0} (seen : D → DiskView) (knows : (disk : D) → WhereTold (seen disk) KnowsNow) where
  -- whatever a run is asked for
  run-goes : (used : Option ℕ) (link : Link D) (mode : Option Mode) (ending : Ending) (first : List ℕ) (history : History) →
      StandsShort used history first → IsLink seen (as_of link (a_run mode) ending) first → Goes used (as_of link (a_run mode) ending) history
  run-goes used link None ending first history stands is =
      let old = (seen link.old).told in
      let same = left-read ending old old link.has link.image (knows link.old is.starts.tells) is.starts.durable (reads-none old)
      (rw (is.runs.undone refl) at is.left) in
      idle-goes used link (a_run None) ending history idle-none (rw (same ∙ is.starts.content) stands)
  run-goes used link (Some Check) ending first history stands is =
      let reads = (is.runs.checks refl link.status refl is.starts.tells).unwritten in
      let same = left-read ending (seen link.old).told (seen link.new).told link.has link.image (knows link.old is.starts.tells) is.starts.durable reads
      is.left in
      idle-goes used link (a_run (Some Check)) ending history idle-check (rw (same ∙ is.starts.content) stands)
  run-goes used link (Some (Serve form sealing)) ending first history stands is =
      let old = seen link.old in
      let new = seen link.new in
      let here : StandsShort used history old.told.content = rw is.starts.content stands in
      let begun_so = HasBegun-ends old new (Some link.had) (Some link.has) is.runs.faults is.runs.faulted link.status history
      (is.runs.ends refl link.status refl) is.starts.tells here.0 in
      serve-goes used link form sealing history ending old.told new.told begun_so
      (is.runs.serves form sealing refl link.status refl link.input refl is.starts.tells is.starts.durable used history here) is.left
  run-goes used link (Some (Gen seed count)) ending first history stands is =
      generate-goes used link seed count ending history (seen link.old).told (seen link.new).told
      (is.runs.generates seed count refl link.status refl is.starts.tells is.starts.durable used history (rw is.starts.content stands)) is.left

  -- whatever is called
  goes-called : (used : Option ℕ) (link : Link D) (called : Called) (ending : Ending) (first : List ℕ) (history : History) →
      StandsShort used history first → IsLink seen (as_of link called ending) first → Goes used (as_of link called ending) history
  goes-called used link (a_run mode) ending first history stands is = run-goes used link mode ending first history stands is
  goes-called used link (making result) ending first history stands is =
      let new = seen link.new in
      making-goes used link result ending history (seen link.old).told new.told (knows link.new (subst IsTrue (sym is.runs.tells) is.starts.tells))
      is.starts.durable (is.runs.told is.starts.tells) (rw is.starts.content stands) is.left

  -- so runs in a row do
  pub extends-short : (used : Option ℕ) (links : List (Link D)) (first last : List ℕ) (history : History) → StandsShort used history first →
      AreLinked seen links first last → (now : History) × ExtendsAll links history now × StandsShort used now last
  extends-short used [] first last history stands linked = (history, refl, rw linked stands)
  extends-short used (link ∷ links) first last history stands linked =
      let goes = goes-called used link link.called link.ending first history stands linked.0 in
      let rest = extends-short used links link.image last goes.0 goes.2 linked.1 in
      (rest.0, (goes.0, goes.1, rest.1), rest.2)

  pub extends-linked : (links : List (Link D)) (first last : List ℕ) (history : History) → Stands history first → AreLinked seen links first last →
      (now : History) × ExtendsAll links history now × Stands now last
  extends-linked links first last history stands linked =
      let all = extends-short None links first last history (stands, tt) linked in (all.0, all.1, all.2.0)

  -- and how long the file is then
  pub length-linked : (links : List (Link D)) (first last : List ℕ) (used : ℕ) (history : History) → Stands history first → UsesAtMost used first →
      AreLinked seen links first last → (now : History) × ExtendsAll links history now × Stands now last
      × (max used (most_needed now + 1) < MOST_SLOTS → length last < FIRST_SLOT + SLOT_SIZE * (max used (most_needed now + 1) + 1))
  length-linked links first last used history stands uses linked =
      let short = UsesAtMost-more used (max used (most_needed history + 1)) first (omega arith) uses in
      let all = extends-short (Some used) links first last history (stands, short) linked in
      (all.0, all.1, all.2.0, λ few. length-uses (max used (most_needed all.0 + 1)) last all.2.1 few)

-- the history before stays
pub extends-front : {D : Type 0} (links : List (Link D)) (history now : History) → ExtendsAll links history now → (more : History) × (now ≡ history ++ more)
extends-front [] history now same = ([], same ∙ sym (append-nil history))
extends-front (link ∷ links) history now all =
    let some = take all.1.j (offered_in link history) in
    let rest = extends-front links all.0 now all.2 in
    (some ++ rest.0, rest.1 ∙ ap (λ (h : History). h ++ rest.0) all.1.is ∙ append_assoc history some rest.0)

-- and so do the events of each run
pub extends-split : {D : Type 0} (before after : List (Link D)) (link : Link D) (history now : History) → ExtendsAll (before ++ link ∷ after) history now →
    (here more : History) × (j : ℕ) × ExtendsAll before history here × (acked_in link here ≤ j) × (j ≤ length (offered_in link here))
    × (now ≡ (here ++ take j (offered_in link here)) ++ more)
extends-split [] after link history now all =
    let rest = extends-front after all.0 now all.2 in
    (history, rest.0, all.1.j, refl, all.1.acked, all.1.few, rest.1 ∙ ap (λ (h : History). h ++ rest.0) all.1.is)
extends-split (first ∷ before) after link history now all =
    let rest = extends-split before after link all.0 now all.2 in
    (rest.0, rest.1, rest.2, (all.0, all.1, rest.3), rest.4, rest.5, rest.6)
