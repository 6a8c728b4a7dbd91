-- A line that brings no event, to which what is said is sent at once.
use Rattle.ss_program.proofs.Common.{◌≡◌, ℕ, ◌≤◌, ◌++◌, List, [], ◌∷◌, length, take, Option, Result, Ok, Err, refl, sym, ap, ◌∙◌, arith, append-nil, OnOk}
use Rattle.ss_program.proofs.Common.{nothing_pending-same, of_content, read_leaves, weaker, KnowsNow, LeavesOnly, NothingPending, OnlyReads, Told, RecordsState}
use Rattle.ss_program.proofs.Common.{shown_by, Stands, TakesTurn, amid, owed_by, the_event, HoldsTalk, NoneWait, StandsWithin, appended, Sends, after_lines}
use Rattle.ss_program.proofs.Common.{text_of, Talk, Turn, after_turn, turn_of, Cursors, Seals, Status, OutOfMemory, ended, None}
use Rattle.ss_program.proofs.AmidLemmas.{AreOwed-none, IsAmid-begin, StandsBeyond-all, owed-nothing, said-all, sealing-owed}
use Rattle.ss_program.proofs.SendLemmas.{appended-appended}
use Rattle.ss_program.proofs.ReportLemmas.{StandsWithin-before, after_lines-push, text_of-one, text_of-push}
use Rattle.ss_program.proofs.BroughtLemmas.{IsAlone-one}

-- a crash leaves what was there, where the disk is only read
read-moments : (talk : Talk) (ls : List (List ℕ)) (line : List ℕ) (old new : Told) → KnowsNow old → OnlyReads old new → NothingPending old →
    HoldsTalk (after_lines talk ls) old.content → LeavesOnly old new (StandsWithin talk (ls ++ line ∷ []))
read-moments talk ls line old new knows reads durable stands =
    weaker old new old.may_leave (StandsWithin talk (ls ++ line ∷ []))
    (λ image left. StandsWithin-before talk ls line image (of_content old (HoldsTalk (after_lines talk ls)) durable stands image left))
    (read_leaves old new knows reads)

-- Nothing waits, nothing is staged then, and the disk is only read.
module _ {was is : RecordsState} (turn : Talk → Turn) (waiting : Seals) (held after : Option (List ℕ)) (cursors left : Cursors) (old new : Told)
    (knows : KnowsNow old) (none : NoneWait waiting) (sealed : shown_by was old.content ≡ old.content) (reads : OnlyReads old new)
    (no_event : (here : Talk) → here.cursors ≡ cursors → (turn here).event ≡ None) where
  pub TakesTurn-put : (sent : Result (Unit {0}) Status) → (ended sent ≡ OutOfMemory → ⊥) → OnOk sent (shown_by is new.content ≡ new.content) →
      ((here : Talk) → here.cursors ≡ cursors → Stands here.history old.content → Sends held after (turn here).says sent) →
      OnOk sent ((here : Talk) → here.cursors ≡ cursors → left ≡ (turn here).cursors) →
      TakesTurn turn (amid was (owed_by waiting) held cursors) (amid is (owed_by waiting) after left) sent old new
  TakesTurn-put (Ok u) other still sends goes sealing talk ls before line known = record {
    goes = λ at.
        let here = after_lines talk ls in
        let stands = rw sealed at at.shown in
        let then = after_lines-push talk ls line ∙ ap (λ (t : Turn). after_turn here t) known in
        let same = ap (λ e. here.history ++ the_event e) (no_event here (sym at.cursors)) ∙ append-nil here.history in
        record {
          amid = IsAmid-begin sealing talk (ls ++ line ∷ []) before (amid is (owed_by waiting) after left) new (owed-nothing waiting none)
              (AreOwed-none sealing waiting (sealing-owed sealing waiting at.rest at.few)) still (rw (then, same, reads.same.content) stands)
              (nothing_pending-same old new reads.same at.durable)
              (sends here (sym at.cursors) stands.0
              ∙ ap (λ o. appended o (turn here).says)
              (said-all sealing talk ls before (amid was (owed_by waiting) held cursors) old (owed-nothing waiting none) at)
              ∙ appended-appended before (text_of talk ls) (turn here).says
              ∙ ap (λ (t : Turn). appended before (text_of talk ls ++ t.says)) (sym known)
              ∙ ap (λ (t : List ℕ). appended before t) (sym (text_of-push talk ls line)))
              (goes here (sym at.cursors) ∙ sym (ap (λ (t : Talk). t.cursors) then));
          any_moment = read-moments talk ls line old new knows reads at.durable stands;
        };
    stops = tt;
  }
  TakesTurn-put (Err status) other still sends goes sealing talk ls before line known = record {
    goes = tt;
    stops = λ at.
        let here = after_lines talk ls in
        let says = (turn_of here line).says in
        let stands = rw sealed at at.shown in
        let less = rw (← known) at (sends here (sym at.cursors) stands.0) in
        let text = text_of-one here line in
        let few : less.0 ≤ length (text_of here (line ∷ [])) = omega (arith, less.1, ap (λ (t : List ℕ). length t) text) in
        let same = ap (λ e. here.history ++ the_event e) (ap (λ (t : Turn). t.event) known ∙ no_event here (sym at.cursors)) ∙ append-nil here.history in
        record {
          at = record {
            out = ls;
            now = line ∷ [];
            others = [];
            are = refl;
            bytes = less.0;
            few = few;
            alone = IsAlone-one sealing here line less.0 less.1;
            sent = less.2 ∙ ap (λ o. appended o (take less.0 says))
                (said-all sealing talk ls before (amid was (owed_by waiting) held cursors) old (owed-nothing waiting none) at)
                ∙ appended-appended before (text_of talk ls) (take less.0 says)
                ∙ ap (λ (t : List ℕ). appended before (text_of talk ls ++ take less.0 t)) (sym text);
            left = λ image left. StandsBeyond-all here (line ∷ []) less.0 image few
                (rw same (of_content new (HoldsTalk here) (nothing_pending-same old new reads.same at.durable) (rw reads.same.content stands) image left));
            starved = λ memory. absurd (other memory);
          };
          any_moment = read-moments talk ls line old new knows reads at.durable stands;
        };
  }
