-- A line of a session, by what it brings.
use Rattle.ss_program.proofs.Common.{◌⊎◌, ◌≡◌, ℕ, ◌<◌, ◌++◌, List, [], ◌∷◌, length, Option, None, Result, Ok, Err, refl, sym, ap, ◌∙◌, arith, append-nil}
use Rattle.ss_program.proofs.Common.{flat_map, IsTrue, OnOk, of_content, reads-none, KnowsNow, LeavesOnly, shown-sealed, DiskView, Told, RecordsState, shown_by}
use Rattle.ss_program.proofs.Common.{said_line, Reply, TurnsHistory, StoreState, Stands, Amid, GoesAmid, IsAmid, Owed, StagesBrought, TakesNone}
use Rattle.ss_program.proofs.Common.{TakesTurn, amid, owed_by, with_text, IsOpen, Brought, History, history_after, nothing, text_said, IsAlone, HoldsTalk}
use Rattle.ss_program.proofs.Common.{StandsAround, StandsWithin, appended, after_line, after_lines, text_of, Talk, Turn, after_turn, silent, turn_brought}
use Rattle.ss_program.proofs.Common.{turn_of, Cursors, Sealing, Each, Shared, Seals, Status, OutOfMemory, TakesStarved, Step, disk_verdict}
use Rattle.ss_program.proofs.AmidLemmas.{GoesAmid-none, Takes-next, Takes-then, said-all}
use Rattle.ss_program.proofs.SealLemmas.{line-moments, line-owed, line-stopped}
use Rattle.ss_program.proofs.ReportLemmas.{StopsIn-more, after_lines-push, moments-more, text_of-one, text_of-push}
use Rattle.ss_program.proofs.StagingLemmas.{Turns-looked}
use Rattle.ss_program.specs.declared.replies.Seals.TheVariants as seal

-- what a call answers
abbrev pub given : {T : Type 0} → T → Result T Status
given value = Ok value

abbrev pub halted : {T : Type 0} → Status → Result T Status
halted status = Err status

abbrev the_answer : Unit {0} → Result (Unit {0}) Status
the_answer u = Ok u

-- one line, where each event is sealed by itself
pub IsAlone-one : (sealing : Sealing) (talk : Talk) (line : List ℕ) (bytes : ℕ) → bytes < length (turn_of talk line).says →
    IsAlone sealing talk (line ∷ []) bytes
IsAlone-one Each talk line bytes less = (refl, rw text_of-one less)
IsAlone-one Shared talk line bytes less = tt

-- what a line does, by its turn
abbrev pub Turning : (Talk → Turn) → RecordsState → RecordsState → {T : Type 0} → Result T Status → Told → Told → Type 0
Turning turn was is result old new = (here : Talk) →
    TurnsHistory was is here.history (λ image. Stands here.history image ⊎ Stands (after_turn here (turn here)).history image)
    (after_turn here (turn here)).history old new result

module _ (turn : Talk → Turn) (was is : RecordsState) (waiting : Seals) (held : Option (List ℕ)) (cursors : Cursors) (old new : Told)
    (knows : KnowsNow new) where
  turns-after : {T : Type 0} (result : Result T Status) (here : Talk) (line : List ℕ) → turn_of here line ≡ turn here →
      TurnsHistory was is here.history (λ image. Stands here.history image ⊎ Stands (after_turn here (turn here)).history image)
      (after_turn here (turn here)).history old new result →
      TurnsHistory was is here.history (λ image. Stands here.history image ⊎ Stands (after_line here line).history image)
      (after_line here line).history old new result
  turns-after result here line known turns = rw known turns

  -- what a line brings is done in memory, and what is said to it is owed
  pub TakesTurn-owed : {T : Type 0} (value : T) (after : Cursors) (text : List ℕ) (u : Unit {0}) → Turning turn was is (given value) old new →
      ((here : Talk) → here.cursors ≡ cursors → Stands here.history (shown_by was old.content) →
      ((turn here).says ≡ text) × ((turn here).cursors ≡ after)) →
      TakesTurn turn (amid was (owed_by waiting) held cursors) (amid is (with_text (owed_by waiting) text) held after) (Ok u) old new
  TakesTurn-owed value after text u turns says sealing talk ls before line known = record {
    goes = λ at.
        let here = after_lines talk ls in
        let said = says here (sym at.cursors) at.shown.0 in
        line-owed sealing talk ls before (amid was (owed_by waiting) held cursors) old new knows at line is (given value)
        (turns-after (given value) here line known (turns here))
        (amid is (with_text (owed_by waiting) text) held after) value refl
        (ap (λ (t : Turn). t.cursors) known ∙ said.1) refl
        (ap (λ (t : List ℕ). with_text (owed_by waiting) t) (sym (ap (λ (t : Turn). t.says) known ∙ said.0))) refl;
    stops = tt;
  }

  -- a crash while it is done leaves what some first lines do
  pub TakesTurn-moments : {T : Type 0} (result : Result T Status) → Turning turn was is result old new → (sealing : Sealing) (talk : Talk)
      (ls : List (List ℕ)) (before : Option (List ℕ)) (line : List ℕ) → turn_of (after_lines talk ls) line ≡ turn (after_lines talk ls) →
      IsAmid sealing talk ls before (amid was (owed_by waiting) held cursors) old → LeavesOnly old new (StandsWithin talk (ls ++ line ∷ []))
  TakesTurn-moments result turns sealing talk ls before line known at =
      line-moments sealing talk ls before (amid was (owed_by waiting) held cursors) old new knows at line is result
      (turns-after result (after_lines talk ls) line known (turns (after_lines talk ls)))

  -- the run stops at a line to which something is said
  pub TakesTurn-stopped : {T : Type 0} (to : Amid) (status : Status) → held ≡ to.held → (status ≡ OutOfMemory → ⊥) →
      ((here : Talk) → Stands here.history (shown_by was old.content) → 0 < length (turn here).says) →
      Turning turn was is (halted {T = T} status) old new → TakesTurn turn (amid was (owed_by waiting) held cursors) to (Err status) old new
  TakesTurn-stopped {T = T} to status same other some turns sealing talk ls before line known = record {
    goes = tt;
    stops = λ at.
        let here = after_lines talk ls in
        rw same at (line-stopped sealing talk ls before (amid was (owed_by waiting) held cursors) old new knows at line is (halted {T = T} status)
        (turns-after (halted {T = T} status) here line known (turns here)) waiting status refl other (rw known (some here at.shown.0)));
  }

-- the same by what it brings
abbrev pub Bringing : (History → Brought) → RecordsState → RecordsState → {T : Type 0} → Result T Status → Told → Told → Type 0
Bringing brought was is result old new = (history : History) →
    TurnsHistory was is history (StandsAround history (brought history)) (history_after history (brought history)) old new result

module _ (speaker : Option ℕ) (brought : History → Brought) (was is : RecordsState) (waiting : Seals) (held : Option (List ℕ)) (cursors : Cursors)
    (old new : Told) (knows : KnowsNow new) where
  -- what the line brings is staged, and what is said to it is owed
  pub TakesBrought-text : {T : Type 0} (value : T) (text : List ℕ) (u : Unit {0}) → Bringing brought was is (given value) old new →
      ((history : History) → Stands history (shown_by was old.content) → text_said speaker (brought history) ≡ text) →
      TakesTurn (λ talk. turn_brought speaker talk (brought talk.history)) (amid was (owed_by waiting) held cursors)
      (amid is (with_text (owed_by waiting) text) held cursors) (Ok u) old new
  TakesBrought-text value text u turns says =
      TakesTurn-owed (λ talk. turn_brought speaker talk (brought talk.history)) was is waiting held cursors old new knows value cursors text u
      (λ here. turns here.history) (λ here same stands. (says here.history stands, same))

  -- which is its one reply
  pub TakesBrought-owed : (reply : Reply) (u : Unit {0}) → StagesBrought brought was is (Ok reply) old new →
      TakesTurn (λ talk. turn_brought speaker talk (brought talk.history)) (amid was (owed_by waiting) held cursors)
      (amid is (with_text (owed_by waiting) (said_line speaker reply)) held cursors) (Ok u) old new
  TakesBrought-owed reply u stages =
      TakesBrought-text reply (said_line speaker reply) u stages.turns (λ history stands.
      ap (λ rs. flat_map (said_line speaker) rs) (stages.reply history stands) ∙ append-nil (said_line speaker reply))

  -- the run stops at the line, to which something is said
  pub TakesBrought-halted : {T : Type 0} (left : Owed) (status : Status) → (status ≡ OutOfMemory → ⊥) →
      ((history : History) → Stands history (shown_by was old.content) → 0 < length (text_said speaker (brought history))) →
      Bringing brought was is (halted {T = T} status) old new →
      TakesTurn (λ talk. turn_brought speaker talk (brought talk.history)) (amid was (owed_by waiting) held cursors) (amid is left held cursors)
      (Err status) old new
  TakesBrought-halted {T = T} left status other some turns =
      TakesTurn-stopped (λ talk. turn_brought speaker talk (brought talk.history)) was is waiting held cursors old new knows {T = T}
      (amid is left held cursors) status refl other (λ here stands. some here.history stands) (λ here. turns here.history)

  pub TakesBrought-stopped : (left : Owed) (status : Status) → (status ≡ OutOfMemory → ⊥) →
      ((history : History) → Stands history (shown_by was old.content) → 0 < length (text_said speaker (brought history))) →
      StagesBrought brought was is (Err status) old new →
      TakesTurn (λ talk. turn_brought speaker talk (brought talk.history)) (amid was (owed_by waiting) held cursors) (amid is left held cursors)
      (Err status) old new
  TakesBrought-stopped left status other some stages = TakesBrought-halted {T = Reply} left status other some stages.turns

-- a line at which nothing is done: it is owed one reply
pub TakesBrought-still : {was : RecordsState} (speaker : Option ℕ) (brought : Brought) (waiting : Seals) (held : Option (List ℕ)) (cursors : Cursors)
    (disk : Told) (reply : Reply) (u : Unit {0}) → KnowsNow disk → brought.event ≡ None → brought.replies ≡ reply ∷ [] →
    TakesTurn (λ talk. turn_brought speaker talk brought) (amid was (owed_by waiting) held cursors)
    (amid was (with_text (owed_by waiting) (said_line speaker reply)) held cursors) (Ok u) disk disk
TakesBrought-still {was = was} speaker brought waiting held cursors disk reply u knows none one =
    TakesBrought-owed speaker (λ history. brought) was was waiting held cursors disk disk knows reply u (record {
      turns = λ history. Turns-looked was was history disk disk brought (Ok reply) knows (reads-none disk) refl (λ stands. none);
      reply = λ history stands. one;
    })

-- no line is none of the rest
within-none : (talk : Talk) (image : List ℕ) → StandsWithin talk [] image → HoldsTalk talk image
within-none talk image ([], others, are, stands) = stands
within-none talk image (line ∷ done, others, are, stands) = cc

no-lines : (ls : List (List ℕ)) → length ls ≡ 0 → ls ≡ []
no-lines [] none = refl
no-lines (line ∷ ls) none = absurd (omega (arith, none))

-- a line that brings nothing: nothing is owed to it
module _ (speaker : Option ℕ) (was : RecordsState) (held : Option (List ℕ)) (cursors : Cursors) (disk : Told) (knows : KnowsNow disk) (talk : Talk)
    (ls : List (List ℕ)) (line : List ℕ)
    (before : Option (List ℕ)) (turn : turn_of (after_lines talk ls) line ≡ turn_brought speaker (after_lines talk ls) nothing) where
  -- the conversation after it is the one before
  silent-talk : after_lines talk (ls ++ line ∷ []) ≡ after_lines talk ls
  silent-talk =
      let here = after_lines talk ls in
      after_lines-push talk ls line ∙ ap (λ (t : Turn). after_turn here t) turn
      ∙ ap (λ (h : History). record { form = here.form; history = h; cursors = here.cursors; used = here.used }) (append-nil here.history)

  silent-text : text_of talk (ls ++ line ∷ []) ≡ text_of talk ls
  silent-text = text_of-push talk ls line ∙ ap (λ (t : Turn). text_of talk ls ++ t.says) turn ∙ append-nil (text_of talk ls)

  silent-goes : (sealing : Sealing) (waiting : Seals) → IsAmid sealing talk ls before (amid was (owed_by waiting) held cursors) disk →
      GoesAmid sealing talk (ls ++ line ∷ []) before (amid was (owed_by waiting) held cursors) disk disk
  silent-goes Each seal.Each at =
      let none = no-lines at.rest at.few in
      let out : ls ≡ at.out = at.are ∙ ap (λ l. at.out ++ l) none ∙ append-nil at.out in
      let stands = within-none (after_lines talk at.out) disk.content
      (rw none at at.within) in
      GoesAmid-none Each talk (ls ++ line ∷ []) before (amid was (owed_by seal.Each) held cursors) disk knows (record {
        out = ls ++ line ∷ [];
        rest = [];
        are = sym (append-nil (ls ++ line ∷ []));
        said = at.said ∙ ap (λ l. appended before (text_of talk l)) (sym out) ∙ ap (λ (t : List ℕ). appended before t) (sym silent-text);
        owes = refl;
        few = refl;
        shown = rw silent-talk at.shown;
        within = ([], [], refl, rw (ap (λ l. after_lines talk l) (sym out) ∙ sym silent-talk) at stands);
        durable = at.durable;
        cursors = at.cursors ∙ ap (λ (t : Talk). t.cursors) (sym silent-talk);
      })
  silent-goes Each (seal.Shared replies) at = absurd at.few
  silent-goes Shared seal.Each at = absurd at.few
  silent-goes Shared (seal.Shared replies) at =
      let here = after_lines talk ls in
      let from = amid was (owed_by (seal.Shared replies)) held cursors in
      line-owed Shared talk ls before from disk disk knows at line was (the_answer tt)
      (rw turn (Turns-looked was was here.history disk disk nothing (the_answer tt) knows (reads-none disk) refl (λ stands. refl)))
      from tt refl (ap (λ (t : Turn). t.cursors) turn ∙ sym at.cursors) refl
      (ap (λ (t : List ℕ). record { text = t; lines = None }) (sym (append-nil replies))
      ∙ ap (λ (t : Turn). with_text (owed_by (seal.Shared replies)) t.says) (sym turn)) refl

pub TakesTurn-nothing : (speaker : Option ℕ) (was : RecordsState) (waiting : Seals) (held : Option (List ℕ)) (cursors : Cursors) (disk : Told)
    (u : Unit {0}) → KnowsNow disk → TakesTurn (λ talk. turn_brought speaker talk nothing) (amid was (owed_by waiting) held cursors)
    (amid was (owed_by waiting) held cursors) (Ok u) disk disk
TakesTurn-nothing speaker was waiting held cursors disk u knows sealing talk ls before line turn =
    record { goes = λ at. silent-goes speaker was held cursors disk knows talk ls line before turn sealing waiting at; stops = tt }

-- the same of a line whose turn is silent after the history that records show
pub TakesTurn-silent : (turn : Talk → Turn) (was : RecordsState) (waiting : Seals) (held : Option (List ℕ)) (cursors : Cursors) (disk : Told)
    (u : Unit {0}) → KnowsNow disk → ((here : Talk) → Stands here.history (shown_by was disk.content) → turn here ≡ silent here) →
    TakesTurn turn (amid was (owed_by waiting) held cursors) (amid was (owed_by waiting) held cursors) (Ok u) disk disk
TakesTurn-silent turn was waiting held cursors disk u knows none sealing talk ls before line is = record {
  goes = λ at.
      silent-goes None was held cursors disk knows talk ls line before (is ∙ none (after_lines talk ls) at.shown.0) sealing waiting at;
  stops = tt;
}

module _ {from to : Amid} {old new : Told} (turn : Talk → Turn) where
  -- what was brought to the disk before a line failed, or was cut off
  pub TakesTurn-unsealed : (status : Status) → TakesNone from to (Err status) old new → TakesTurn turn from to (Err status) old new
  TakesTurn-unsealed status takes sealing talk ls before line known = record {
    goes = tt;
    stops = λ at.
        StopsIn-more sealing talk ls (line ∷ []) old new before to.held status (rw append-nil at ((takes sealing talk ls before).stops at));
  }

  -- Memory ran out at a line that wants it, after which all that waited was brought to the disk and sent.
  pub TakesTurn-starved : {u : Unit {0}} → KnowsNow new → to.owed.text ≡ [] → shown_by to.records new.content ≡ new.content →
      ((here : Talk) → here.cursors ≡ from.cursors → Stands here.history (shown_by from.records old.content) →
      IsTrue (turn here).wants_memory × (0 < length (turn here).says)) →
      TakesNone from to (Ok u) old new → TakesTurn turn from to (Err OutOfMemory) old new
  TakesTurn-starved knows none sealed wants takes sealing talk ls before line known = record {
    goes = tt;
    stops = λ at.
        let here = after_lines talk ls in
        let goes = rw append-nil at ((takes sealing talk ls before).goes at) in
        let rests = of_content new (HoldsTalk here) goes.amid.durable (rw sealed at goes.amid.shown) in
        let want = wants here (sym at.cursors) at.shown.0 in
        record {
          at = record {
            out = ls;
            now = line ∷ [];
            others = [];
            are = refl;
            bytes = 0;
            few = omega arith;
            alone = IsAlone-one sealing here line 0 (rw known want.1);
            sent = said-all sealing talk ls before to new none goes.amid
                ∙ ap (λ (t : List ℕ). appended before t) (sym (append-nil (text_of talk ls)));
            left = λ image is. ([], line ∷ [], refl, omega arith, rests image is);
            starved = λ memory. (refl, rw known want.0, rests);
          };
          any_moment = moments-more talk old new ls (line ∷ []) goes.any_moment;
        };
  }

module _ {from mid to : Amid} {old then new : Told} (turn : Talk → Turn) (u : Unit {0}) (result : Result (Unit {0}) Status) where
  -- a line is done in memory, and then what is said to it
  pub TakesTurn-said : TakesTurn turn from mid (Ok u) old then → TakesNone mid to result then new → TakesTurn turn from to result old new
  TakesTurn-said first second sealing talk ls before line known =
      Takes-then result (first sealing talk ls before line known) (second sealing talk (ls ++ line ∷ []) before)

  -- or after what was brought to the disk before it
  pub TakesTurn-next : TakesNone from mid (Ok u) old then → TakesTurn turn mid to result then new → TakesTurn turn from to result old new
  TakesTurn-next first second sealing talk ls before line known =
      Takes-next result (first sealing talk ls before) (second sealing talk ls before line known)

-- memory ran out at a line, at which nothing was done
pub step-starved : {from mid to : Amid} {status : Status} {old then new : DiskView} → then ≡ old → mid ≡ from →
    Step (disk_verdict status) then new (TakesStarved mid to status) → Step (disk_verdict status) old new (TakesStarved from to status)
step-starved still same starves = rw (same, still) at starves

-- where nothing is staged, what records show is the content
pub shown-opened : (disk : DiskView) (store : StoreState) (result : Result (Unit {0}) Status) → OnOk result (IsOpen disk store) →
    OnOk result (shown_by store.records disk.told.content ≡ disk.told.content)
shown-opened disk store (Ok u) opens = shown-sealed store.records.journal disk.told.content opens.sealed
shown-opened disk store (Err status) opens = tt
