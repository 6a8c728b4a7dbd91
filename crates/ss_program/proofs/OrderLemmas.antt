-- What the cursor forms of a session do between two lines.
use Rattle.ss_program.proofs.Common.{◌≡◌, ◌∙◌, ◌∷◌, [], List, ℕ, Option, Some, Result, Ok, Err, refl, sym, ap, append-nil, on_ok_weaker, flat_map, OnOk}
use Rattle.ss_program.proofs.Common.{shown, reads-none, KnowsNow, Told, Failed, RecordsState, shown_by, Reply, Cursors, Owed, TakesTurn, amid, owed_by}
use Rattle.ss_program.proofs.Common.{with_text, at_sink, Ordered, close_brings, next_brings, open_brings, Brought, only_replies, text_said, NoneWait, said_line}
use Rattle.ss_program.proofs.Common.{Sends, Talk, turn_said, Seals, Status, OutOfMemory}
use Rattle.ss_journal.proofs.TearLemmas.{on_ok}
use Rattle.ss_program.specs.Opened.{OpensBrought}
use Rattle.ss_program.proofs.BroughtLemmas.{TakesTurn-owed, TakesTurn-stopped, given, halted}
use Rattle.ss_program.proofs.AnswerLemmas.{Sends-at_sink}
use Rattle.ss_program.proofs.PutLemmas.{TakesTurn-put}
use Rattle.ss_program.proofs.TakesLemmas.{sink-memory, sink-ok}
use Rattle.ss_program.proofs.CursorLemmas.{close-event, next-event, open-event, open-some}
use Rattle.ss_program.proofs.StagingLemmas.{Turns-looked}

-- the text of one reply
one-text : (session : ℕ) (brought : Brought) (reply : Reply) → brought.replies ≡ reply ∷ [] →
    text_said (Some session) brought ≡ said_line (Some session) reply
one-text session brought reply one =
    ap (λ rs. flat_map (said_line (Some session)) rs) one ∙ append-nil (said_line (Some session) reply)

module _ (session : ℕ) (name : List ℕ) (was is : RecordsState) (waiting : Seals) (held : Option (List ℕ)) (before : Cursors) (old new : Told)
    (knows : KnowsNow old) (knows_new : KnowsNow new) where
  abbrev opens : Talk → Ordered
  opens talk = open_brings talk.history talk.cursors session name

  -- a cursor is opened, and the reply to that is owed
  pub TakesOpened : (after : Cursors) (reply : Reply) (u : Unit {0}) → is.journal ≡ was.journal →
      OpensBrought was (λ history. open_brings history before session name) after (Ok reply) old new →
      TakesTurn (λ talk. turn_said (Some session) (open_brings talk.history talk.cursors session name)) (amid was (owed_by waiting) held before)
      (amid is (with_text (owed_by waiting) (said_line (Some session) reply)) held after) (Ok u) old new
  TakesOpened after reply u same took =
      TakesTurn-owed (λ talk. turn_said (Some session) (opens talk)) was is waiting held before old new knows_new reply after
      (said_line (Some session) reply) u
      (λ here. Turns-looked was is here.history old new (opens here).brought (given reply) knows took.reads
      (ap (λ (bytes : List ℕ). shown_by is bytes) took.reads.same.content ∙ ap (λ j. shown j old.content) same)
      (λ stands. open-event here.history here.cursors session name))
      (λ here there stands.
      let one = took.reply here.history stands in
      rw there (one-text session (open_brings here.history before session name).brought reply one.0, one.1))

  -- the run stops at it
  pub TakesOpened-stopped : (left : Owed) (after : Cursors) (status : Status) → (status ≡ OutOfMemory → ⊥) →
      OpensBrought was (λ history. open_brings history before session name) after (Err status) old new →
      TakesTurn (λ talk. turn_said (Some session) (open_brings talk.history talk.cursors session name)) (amid was (owed_by waiting) held before)
      (amid is left held after) (Err status) old new
  TakesOpened-stopped left after status other took =
      TakesTurn-stopped (λ talk. turn_said (Some session) (opens talk)) was is waiting held before old new knows_new {T = Reply}
      (amid is left held after) status refl other (λ here stands. open-some here.history here.cursors session name)
      (λ here. Turns-looked was is here.history old new (opens here).brought (halted {T = Reply} status) knows took.reads tt
      (λ stands. open-event here.history here.cursors session name))

-- the next rows of a cursor are shown, where nothing waits
pub TakesShown : {was : RecordsState} (session count : ℕ) (waiting : Seals) (held after : Option (List ℕ)) (before left : Cursors) (disk : Told)
    (sent : Result (Unit {0}) Failed) → KnowsNow disk → NoneWait waiting → shown_by was disk.content ≡ disk.content →
    Sends held after (text_said (Some session) (next_brings before session count).brought) sent →
    OnOk sent (left ≡ (next_brings before session count).cursors) →
    TakesTurn (λ talk. turn_said (Some session) (next_brings talk.cursors session count)) (amid was (owed_by waiting) held before)
    (amid was (owed_by waiting) after left) (at_sink sent) disk disk
TakesShown {was = was} session count waiting held after before left disk sent knows none sealed sends goes =
    TakesTurn-put (λ talk. turn_said (Some session) (next_brings talk.cursors session count)) waiting held after before left disk disk knows none sealed
    (reads-none disk) (λ here there. next-event here.cursors session count) (at_sink sent) (sink-memory sent) (on_ok (at_sink sent) sealed)
    (λ here there stands.
    rw there (Sends-at_sink held after (text_said (Some session) (next_brings before session count).brought) sent sends)) (sink-ok _ sent (on_ok_weaker sent
    (λ is here there. is ∙ ap (λ (cs : Cursors). (next_brings cs session count).cursors) (sym there)) goes))

-- a cursor is closed, and the reply to that is owed
pub TakesClosed : (session : ℕ) (was : RecordsState) (waiting : Seals) (held : Option (List ℕ)) (before after : Cursors) (disk : Told)
    (reply : Reply) (u : Unit {0}) → KnowsNow disk → (close_brings before session).brought ≡ only_replies (reply ∷ []) →
    after ≡ (close_brings before session).cursors →
    TakesTurn (λ talk. turn_said (Some session) (close_brings talk.cursors session)) (amid was (owed_by waiting) held before)
    (amid was (with_text (owed_by waiting) (said_line (Some session) reply)) held after) (Ok u) disk disk
TakesClosed session was waiting held before after disk reply u knows brings goes =
    TakesTurn-owed (λ talk. turn_said (Some session) (close_brings talk.cursors session)) was was waiting held before disk disk knows reply after
    (said_line (Some session) reply) u
    (λ here. Turns-looked was was here.history disk disk (close_brings here.cursors session).brought (given reply) knows (reads-none disk) refl
    (λ stands. close-event here.cursors session))
    (λ here there stands.
    rw there (one-text session (close_brings before session).brought reply (ap (λ (b : Brought). b.replies) brings), sym goes))
