-- What bringing all to the disk makes of a session between two lines, and what a line does that is taken in memory.
use Rattle.ss_program.proofs.Common.{inl, inr, ◌⊎◌, ⊎_elim, ◌≡◌, ℕ, ◌<◌, ◌≤◌, ◌++◌, List, [], ◌∷◌, length, take, Option, Some, None, Result, Ok, Err, refl, sym}
use Rattle.ss_program.proofs.Common.{ap, ◌∙◌, append_assoc, arith, append-nil, length-append, ⊤, now, of_content, weaker, KnowsNow, LeavesOnly, DiskView}
use Rattle.ss_program.proofs.Common.{NothingPending, Told, Step, fine, Failed, RecordsState, shown_by, SealsHistory, TurnsHistory, Stands, IsShort, StandsShort}
use Rattle.ss_program.proofs.Common.{IsShort-more, Amid, AreOwed, GoesAmid, IsAmid, Owed, TakesNone, amid, owed_by, with_text, at_sink, the_event, IsAlone}
use Rattle.ss_program.proofs.Common.{HoldsTalk, StandsWithin, StopsIn, appended, AppendsLess, Sends, after_line, after_lines, text_of, disk_verdict, ended}
use Rattle.ss_program.proofs.Common.{Talk, turn_of, Sealing, Each, Shared, Seals, Cursors, Status, DiskFault, SinkFault, OutOfMemory}
use Rattle.ss_program.proofs.AmidLemmas.{AreOwed-more, IsAmid-begin, StandsBeyond-all, StandsBeyond-none, moments-out}
use Rattle.ss_program.proofs.LeftLemmas.{left_short, short_left}
use Rattle.ss_program.proofs.SendLemmas.{appended-appended}
use Rattle.ss_program.proofs.ReportLemmas.{StandsWithin-after, StandsWithin-all, StandsWithin-before, after_lines-append, after_lines-push, after_lines-used}
use Rattle.ss_program.proofs.ReportLemmas.{text_of-append, text_of-push}
use Rattle.ss_program.specs.declared.replies.Seals.TheVariants as seal

-- the conversation after all of the lines, by those that are out and the rest
after-rest : (talk : Talk) (ls out rest : List (List ℕ)) → ls ≡ out ++ rest → after_lines talk ls ≡ after_lines (after_lines talk out) rest
after-rest talk ls out rest are = ap (λ l. after_lines talk l) are ∙ after_lines-append talk out rest

-- A run may stop where so many bytes are out of what is owed: less than all of it, and that is said to one line, where each event is
-- sealed by itself.
abbrev pub MayStop : Option ℕ → List ℕ → ℕ → Type 0
MayStop None text bytes = ⊤
MayStop (Some n) text bytes = (n ≡ 1) × (bytes < length text)

IsAlone-owed : (sealing : Sealing) (talk : Talk) (lines : Option ℕ) (text : List ℕ) (rest : List (List ℕ)) (bytes : ℕ) → AreOwed sealing lines rest →
    text ≡ text_of talk rest → MayStop lines text bytes → IsAlone sealing talk rest bytes
IsAlone-owed Each talk None text rest bytes few owes may = absurd few
IsAlone-owed Each talk (Some n) text rest bytes few owes may = (few ∙ may.0, rw owes at may.1)
IsAlone-owed Shared talk lines text rest bytes few owes may = tt

-- at a line of which nothing is said yet, where nothing is owed before it
IsAlone-line : (sealing : Sealing) (waiting : Seals) (talk : Talk) (rest : List (List ℕ)) (line : List ℕ) →
    AreOwed sealing (owed_by waiting).lines rest → 0 < length (turn_of (after_lines talk rest) line).says → IsAlone sealing talk (rest ++ line ∷ []) 0
IsAlone-line Each seal.Each talk rest line few some =
    let says = (turn_of (after_lines talk rest) line).says in (
      omega (arith, few, length-append rest (line ∷ [])),
      omega (arith, some, ap (λ (t : List ℕ). length t) (text_of-push talk rest line), length-append (text_of talk rest) says),
    )
IsAlone-line Each (seal.Shared replies) talk rest line few some = absurd few
IsAlone-line Shared waiting talk rest line few some = tt

-- A run stops before a byte more is sent, at an error of the disk or of a record, with images of some first of the rest.
Stops-unsent : (sealing : Sealing) (talk : Talk) (ls more out rest : List (List ℕ)) (before held : Option (List ℕ)) (old new : Told) (status : Status) →
    ls ++ more ≡ out ++ rest → held ≡ appended before (text_of talk out) → KnowsNow new → (status ≡ OutOfMemory → ⊥) →
    IsAlone sealing (after_lines talk out) rest 0 →
    LeavesOnly old new (StandsWithin (after_lines talk out) rest) → StopsIn sealing talk (ls ++ more) old new before held status
Stops-unsent sealing talk ls more out rest before held old new status are said knows other alone run = record {
  at = record {
    out = out;
    now = rest;
    others = [];
    are = are ∙ ap (λ l. out ++ l) (sym (append-nil rest));
    bytes = 0;
    few = omega arith;
    alone = alone;
    sent = said ∙ ap (λ (t : List ℕ). appended before t) (sym (append-nil (text_of talk out)));
    left = λ image left. StandsBeyond-none (after_lines talk out) rest image
        (now old new (StandsWithin (after_lines talk out) rest) knows run image left);
    starved = λ memory. absurd (other memory);
  };
  any_moment = moments-out talk old new (ls ++ more) out rest are run;
}

module _ (sealing : Sealing) (talk : Talk) (ls : List (List ℕ)) (before : Option (List ℕ)) (from : Amid) (old new : Told)
    (knows : KnowsNow new) (at : IsAmid sealing talk ls before from old) where
  abbrev here : Talk
  here = after_lines talk at.out

  -- what the disk stands for, as it is asked of the conversation
  abbrev there : List ℕ → Type 0
  there image = StandsShort talk.used (after_lines here at.within.0).history image

  there-used : (after_lines here at.within.0).used ≡ talk.used
  there-used = after_lines-used here at.within.0 ∙ after_lines-used talk at.out

  is-there : there old.content
  is-there = rw there-used at at.within.3

  left-there : (image : List ℕ) → there image → HoldsTalk (after_lines here at.within.0) image
  left-there image short = rw there-used short

  is-shown : StandsShort talk.used (after_lines talk ls).history (shown_by from.records old.content)
  is-shown = left_short talk ls (shown_by from.records old.content) at.shown

  -- the moments of a call that leaves what stood there or what is shown
  moments-sealed : {T E : Type 0} {is : RecordsState} {result : Result T E} → SealsHistory from.records is result old new →
      LeavesOnly old new (StandsWithin here at.rest)
  moments-sealed seals =
      weaker old new (λ image. there image ⊎ StandsShort talk.used (after_lines talk ls).history image) (StandsWithin here at.rest)
      (λ image either. ⊎_elim (λ stands. (at.within.0, at.within.1, at.within.2, left-there image stands))
      (λ stands. StandsWithin-all here at.rest image (rw (after-rest talk ls at.out at.rest at.are) at (short_left talk ls image stands))) either)
      ((seals (after_lines talk ls).history).any_moment at.durable talk.used (after_lines here at.within.0).history is-there is-shown)

  -- the disk failed
  pub seal-failed : {is : RecordsState} (e : Failed) → SealsHistory {T = Unit {0}} from.records is (Err e) old new →
      MayStop from.owed.lines from.owed.text 0 → StopsIn sealing talk (ls ++ []) old new before from.held DiskFault
  seal-failed e seals may =
      Stops-unsent sealing talk ls [] at.out at.rest before from.held old new DiskFault (append-nil ls ∙ at.are) at.said knows (λ memory. cc)
      (IsAlone-owed sealing here from.owed.lines from.owed.text at.rest 0 at.few at.owes may)
      (moments-sealed seals)

  module _ (to : Amid) (u : Unit {0}) (sealed : shown_by to.records new.content ≡ new.content)
      (seals : SealsHistory {E = Failed} from.records to.records (Ok u) old new) where
    run : LeavesOnly old new (StandsWithin here at.rest)
    run = moments-sealed seals

    stands : HoldsTalk (after_lines talk ls) new.content
    stands =
        let all = seals (after_lines talk ls).history in
        rw sealed at (short_left talk ls (shown_by to.records new.content) (all.content at.shown.0, all.short talk.used is-shown))

    only : NothingPending new
    only = (seals (after_lines talk ls).history).durable at.durable

    -- the sink failed, after all was brought to the disk
    pub send-failed : (less : AppendsLess from.held to.held from.owed.text) → MayStop from.owed.lines from.owed.text less.0 →
        StopsIn sealing talk (ls ++ []) old new before to.held SinkFault
    send-failed less may =
        let bytes = less.0 in
        let few : bytes ≤ length (text_of here at.rest) = omega (arith, less.1, ap (λ (t : List ℕ). length t) at.owes) in
        record {
          at = record {
            out = at.out;
            now = at.rest;
            others = [];
            are = append-nil ls ∙ at.are ∙ ap (λ l. at.out ++ l) (sym (append-nil at.rest));
            bytes = bytes;
            few = few;
            alone = IsAlone-owed sealing here from.owed.lines from.owed.text at.rest bytes at.few at.owes may;
            sent = less.2 ∙ ap (λ o. appended o (take bytes from.owed.text)) at.said
                ∙ appended-appended before (text_of talk at.out) (take bytes from.owed.text)
                ∙ ap (λ (t : List ℕ). appended before (text_of talk at.out ++ take bytes t)) at.owes;
            left = λ image left. StandsBeyond-all here at.rest bytes image few (rw (after-rest talk ls at.out at.rest at.are) at
                (of_content new (HoldsTalk (after_lines talk ls)) only stands image left));
            starved = λ memory. cc;
          };
          any_moment = moments-out talk old new (ls ++ []) at.out at.rest (append-nil ls ∙ at.are) run;
        }

    -- all was sent
    pub send-done : to.owed.text ≡ [] → AreOwed sealing to.owed.lines [] → from.cursors ≡ to.cursors →
        to.held ≡ appended from.held from.owed.text → GoesAmid sealing talk (ls ++ []) before to old new
    send-done empty few cursors sent = rw append-nil (record {
      amid = IsAmid-begin sealing talk ls before to new empty few sealed stands only (sent ∙ ap (λ o. appended o from.owed.text) at.said
          ∙ appended-appended before (text_of talk at.out) from.owed.text
          ∙ ap (λ (t : List ℕ). appended before (text_of talk at.out ++ t)) at.owes
          ∙ ap (λ (t : List ℕ). appended before t) (sym (text_of-append talk at.out at.rest))
          ∙ ap (λ l. appended before (text_of talk l)) (sym at.are)) (sym cursors ∙ at.cursors);
      any_moment = moments-out talk old new ls at.out at.rest at.are run;
    })

  module _ (line : List ℕ) where
    -- the history before the line, and after it
    abbrev first : List ℕ → Type 0
    first image = Stands (after_lines talk ls).history image

    abbrev then : List ℕ → Type 0
    then image = Stands (after_line (after_lines talk ls) line).history image

    -- one after it
    left-line : (image : List ℕ) → then image → IsShort talk.used (after_lines talk ls).history image → HoldsTalk (after_line (after_lines talk ls) line) image
    left-line image stands short =
        let event = the_event (turn_of (after_lines talk ls) line).event in
        rw after_lines-used (stands, IsShort-more talk.used (after_lines talk ls).history event image short)

    -- an image of the history before a line or after it, or of what stood there
    within-line : (image : List ℕ) → (there image ⊎ ((first image ⊎ then image) × IsShort talk.used (after_lines talk ls).history image)) →
        StandsWithin here (at.rest ++ line ∷ []) image
    within-line image (inl stays) = (
      at.within.0,
      at.within.1 ++ line ∷ [],
      ap (λ l. l ++ line ∷ []) at.within.2 ∙ append_assoc at.within.0 at.within.1 (line ∷ []),
      left-there image stays,
    )
    within-line image (inr (inl stands, short)) =
        StandsWithin-before here at.rest line image (rw (after-rest talk ls at.out at.rest at.are) at (short_left talk ls image (stands, short)))
    within-line image (inr (inr stands, short)) =
        StandsWithin-after here at.rest line image (rw (after-rest talk ls at.out at.rest at.are) at (left-line image stands short))

    are-line : ls ++ line ∷ [] ≡ at.out ++ (at.rest ++ line ∷ [])
    are-line = ap (λ l. l ++ line ∷ []) at.are ∙ append_assoc at.out at.rest (line ∷ [])

    module _ {T : Type 0} (records : RecordsState) (result : Result T Status)
        (turns : TurnsHistory from.records records (after_lines talk ls).history (λ image. first image ⊎ then image)
        (after_line (after_lines talk ls) line).history old new result) where
      moments-line : LeavesOnly old new (StandsWithin here (at.rest ++ line ∷ []))
      moments-line =
          weaker old new (λ image. there image ⊎ ((first image ⊎ then image) × IsShort talk.used (after_lines talk ls).history image))
          (StandsWithin here (at.rest ++ line ∷ [])) within-line
          (turns.any_moment at.durable talk.used (after_lines here at.within.0).history is-there is-shown)

      -- which are among those of all lines
      pub line-moments : LeavesOnly old new (StandsWithin talk (ls ++ line ∷ []))
      line-moments = moments-out talk old new (ls ++ line ∷ []) at.out (at.rest ++ line ∷ []) are-line moments-line

      -- the run stopped at the line
      pub line-stopped : (waiting : Seals) (status : Status) → from.owed ≡ owed_by waiting → (status ≡ OutOfMemory → ⊥) →
          0 < length (turn_of (after_lines talk ls) line).says → StopsIn sealing talk (ls ++ line ∷ []) old new before from.held status
      line-stopped waiting status owed other some =
          Stops-unsent sealing talk ls (line ∷ []) at.out (at.rest ++ line ∷ []) before from.held old new status are-line at.said knows other
          (IsAlone-line sealing waiting here at.rest line (rw owed at at.few) (rw (after-rest talk ls at.out at.rest at.are) at some)) moments-line

      -- what is said to it is owed
      pub line-owed : (to : Amid) (value : T) → result ≡ Ok value → (turn_of (after_lines talk ls) line).cursors ≡ to.cursors →
          to.records ≡ records → to.owed ≡ with_text from.owed (turn_of (after_lines talk ls) line).says → to.held ≡ from.held →
          GoesAmid sealing talk (ls ++ line ∷ []) before to old new
      line-owed to value is cursors recorded owed held =
          let rest = after-rest talk ls at.out at.rest at.are in
          let says = (turn_of (after_lines talk ls) line).says in
          let push = after_lines-push talk ls line in
          let shows = rw is at turns in
          record {
            amid = record {
              out = at.out;
              rest = at.rest ++ line ∷ [];
              are = are-line;
              said = held ∙ at.said;
              owes = ap (λ o. o.text) owed ∙ ap (λ (t : List ℕ). t ++ says) at.owes
                  ∙ ap (λ (t : Talk). text_of here at.rest ++ (turn_of t line).says) rest ∙ sym (text_of-push here at.rest line);
              few = rw owed (AreOwed-more sealing from.owed.lines at.rest line at.few);
              shown = rw (recorded, push, after_lines-used) (shows.content at.shown.0, shows.short talk.used is-shown);
              within = now old new (StandsWithin here (at.rest ++ line ∷ [])) knows moments-line new.content knows.content_is_image;
              durable = shows.durable at.durable;
              cursors = sym cursors ∙ ap (λ (t : Talk). t.cursors) (sym push);
            };
            any_moment = line-moments;
          }

-- all was brought to the disk, and what was owed was sent, or less than it
pub TakesNone-sent : (was is : RecordsState) (owed owes : Owed) (held after : Option (List ℕ)) (old new : Told) (u : Unit {0})
    (sent : Result (Unit {0}) Failed) → KnowsNow new →
    shown_by is new.content ≡ new.content → SealsHistory {E = Failed} was is (Ok u) old new → owes.text ≡ [] →
    ((sealing : Sealing) (ls : List (List ℕ)) → AreOwed sealing owed.lines ls → AreOwed sealing owes.lines []) →
    ((bytes : ℕ) → bytes < length owed.text → MayStop owed.lines owed.text bytes) →
    Sends held after owed.text sent → (cursors : Cursors) → TakesNone (amid was owed held cursors) (amid is owes after cursors) (at_sink sent) old new
TakesNone-sent was is owed owes held after old new u (Ok v) knows sealed seals empty few may sends cursors sealing talk ls before = record {
  goes = λ at. send-done sealing talk ls before (amid was owed held cursors) old new knows at (amid is owes after cursors) u sealed seals empty
      (few sealing at.rest at.few) refl sends;
  stops = tt;
}
TakesNone-sent was is owed owes held after old new u (Err e) knows sealed seals empty few may sends cursors sealing talk ls before = record {
  goes = tt;
  stops = λ at. send-failed sealing talk ls before (amid was owed held cursors) old new knows at (amid is owes after cursors) u sealed seals sends
      (may sends.0 sends.1);
}

-- or the disk failed
pub TakesNone-unsealed : (was is : RecordsState) (owed owes : Owed) (held : Option (List ℕ)) (old new : Told) (e : Failed) → KnowsNow new →
    SealsHistory {T = Unit {0}} was is (Err e) old new → MayStop owed.lines owed.text 0 →
    (cursors : Cursors) → TakesNone (amid was owed held cursors) (amid is owes held cursors) (Err DiskFault) old new
TakesNone-unsealed was is owed owes held old new e knows seals may cursors sealing talk ls before = record {
  goes = tt;
  stops = λ at. seal-failed sealing talk ls before (amid was owed held cursors) old new knows at e seals may;
}

-- nothing is owed then, by how events come to the disk
pub shared-sent : (sealing : Sealing) (ls : List (List ℕ)) → AreOwed sealing None ls → AreOwed sealing None []
shared-sent Each ls few = absurd few
shared-sent Shared ls few = tt

pub each-sent : (n : ℕ) (sealing : Sealing) (ls : List (List ℕ)) → AreOwed sealing (Some n) ls → AreOwed sealing (Some 0) []
each-sent n Each ls few = refl
each-sent n Shared ls few = absurd few

-- the disk doesn't fail where a sink does
pub step-sink : {old new : DiskView} {S : Told → Told → Type 0} (sent : Result (Unit {0}) Failed) → Step fine old new S →
    Step (disk_verdict (ended (at_sink sent))) old new S
step-sink (Ok u) step = step
step-sink (Err e) step = step
