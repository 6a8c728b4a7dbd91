-- Lines of a session and the bytes of its input.
use Rattle.ss_program.proofs.Common.{◌≡◌, ℕ, ◌+◌, ◌-◌, ◌++◌, List, [], ◌∷◌, length, take, drop, Option, Some, None, Result, Ok, Err, refl, sym, ap, ◌∙◌}
use Rattle.ss_program.proofs.Common.{append_assoc, take-add, append-nil, take-append-drop, OnOk, meaning, Ended, Kept, kept, unless_long, Told, RecordsState}
use Rattle.ss_program.proofs.Common.{shown_by, StoreState, Amid, GoesAmid, IsAmid, OfAmid, TakesFurther, TakesBytes, TakesLast, TakesNone, TakesTurn}
use Rattle.ss_program.proofs.Common.{amid, owed_by, EndsInputRun, HasReplied, HasTaken, NoneWait, InputRunState, StopsIn}
use Rattle.ss_program.proofs.Common.{TakesPiece, after_lines, Brought, Talk}
use Rattle.ss_program.proofs.Common.{kept_framed, kept_offered, kept_spoken, kept_turn, meant_turn, turn_brought, turn_in, turn_of, Cursors, Form, Lines}
use Rattle.ss_program.proofs.Common.{Sessions, Frames, Follow, Sealing, Seals, Status, Done, StepState, TellsStep, kept_so_far, kept_step, steps, steps_so_far}
use Rattle.ss_program.proofs.AmidLemmas.{AreOwed-none, GoesAmid-then, IsAmid-begin, StopsIn-after, owed-nothing, said-all, sealing-owed}
use Rattle.ss_program.proofs.AnswerLemmas.{kept-brings, line-kept, meaning-long}
use Rattle.ss_program.proofs.SendLemmas.{rest-slice}
use Rattle.ss_program.proofs.StepsLemmas.{steps-more}
use Rattle.ss_program.proofs.ReportLemmas.{StopsIn-more, after_lines-form}

-- what an event brings whose frame is written, as its line is kept
frames-kept : (talk : Talk) (o : Option (List ℕ)) (line : List ℕ) → o ≡ unless_long line → meant_turn talk (meaning line) ≡ kept_framed talk o
frames-kept talk None line is = ap (λ m. meant_turn talk m) (meaning-long line is)
frames-kept talk (Some bytes) line is = sym (ap (λ l. meant_turn talk (meaning l)) (line-kept bytes line is))

-- what a step brings as it is kept is what it brings
turn-kept : (form : Form) (talk : Talk) (o : Option (List ℕ)) (step : List ℕ) → form ≡ talk.form → o ≡ kept_step form step →
    turn_of talk step ≡ kept_turn form o talk
turn-kept (Lines framed) talk o step same is =
    ap (λ (form : Form). turn_in form talk step) (sym same)
    ∙ ap (λ (b : Brought). turn_brought None talk b) (sym (kept-brings framed talk.history o step is))
turn-kept (Sessions framed) talk o step same is =
    ap (λ (form : Form). turn_in form talk step) (sym same) ∙ ap (λ (k : Option (List ℕ)). kept_spoken framed talk k) (sym is)
turn-kept Frames talk o step same is = ap (λ (form : Form). turn_in form talk step) (sym same) ∙ frames-kept talk o step is
turn-kept Follow talk o step same is =
    ap (λ (form : Form). turn_in form talk step) (sym same) ∙ ap (λ (k : Option (List ℕ)). kept_offered talk k) (sym is)

-- a step is taken as it is kept
pub Takes-kept : {from to : Amid} {result : Result (Unit {0}) Status} {old new : Told} (form : Form) (o : Option (List ℕ)) (step : List ℕ) →
    TakesTurn (kept_turn form o) from to result old new → o ≡ kept_step form step → (sealing : Sealing) (talk : Talk) (ls : List (List ℕ))
    (before : Option (List ℕ)) → form ≡ talk.form → TakesFurther sealing talk ls (step ∷ []) before from to result old new
Takes-kept form o step takes is sealing talk ls before same =
    takes sealing talk ls before step (turn-kept form (after_lines talk ls) o step (same ∙ sym (after_lines-form talk ls)) is)

-- what a reader tells of the steps that have ended, in a conversation of its form
pub advance-told : (input more : List ℕ) {form other : Form} (ended : Ended) (next : StepState) → form ≡ other → next.form ≡ form →
    TellsStep (steps_so_far form input) (steps_so_far form more) (Some ended) next →
    (step : List ℕ) × (steps_so_far other more ≡ steps_so_far other input ++ step ∷ []) × (next.step ≡ kept_step form step)
advance-told input more ended next same kept (step, grew, has) = (step, rw same at grew, rw kept at has)

-- and of all steps, where the input has ended
pub last-told : (input : List ℕ) {form other : Form} (ended : Ended) (next : StepState) → form ≡ other → next.form ≡ form →
    TellsStep (steps_so_far form input) (steps form input) (Some ended) next →
    (step : List ℕ) × (steps other input ≡ steps_so_far other input ++ step ∷ []) × (next.step ≡ kept_step form step)
last-told input ended next same kept (step, grew, has) = (step, rw same at grew, rw kept at has)

-- a line of a piece at which the run stopped
pub Stops-piece : (sealing : Sealing) (talk : Talk) (old new : Told) (before after : Option (List ℕ)) (status : Status) (input piece line : List ℕ)
    (count : ℕ) → steps_so_far talk.form (input ++ take count piece) ≡ steps_so_far talk.form input ++ line ∷ [] →
    StopsIn sealing talk (steps_so_far talk.form input ++ line ∷ []) old new before after status →
    StopsIn sealing talk (steps_so_far talk.form (input ++ piece)) old new before after status
Stops-piece sealing talk old new before after status input piece line count one stops =
    let more = steps-more talk.form (input ++ take count piece) (drop count piece) in
    let whole : (input ++ take count piece) ++ drop count piece ≡ input ++ piece =
    append_assoc input (take count piece) (drop count piece) ∙ ap (λ bs. input ++ bs) (take-append-drop count piece) in
    rw (ap (λ ls. ls ++ more.0) (sym one) ∙ sym more.1 ∙ ap (λ bs. steps_so_far talk.form bs) whole) at
    (StopsIn-more sealing talk (steps_so_far talk.form input ++ line ∷ []) more.0 old new before after status stops)

module _ (sealing : Sealing) (talk : Talk) (before : Option (List ℕ)) (first : Amid) (old mid new : Told) (taken more : List ℕ) where
  -- bytes are taken after others, or the run stops after these
  pub GoesAmid-input : (second : Amid) → GoesAmid sealing talk (steps_so_far talk.form taken) before first old mid →
      GoesAmid sealing talk (steps_so_far talk.form (taken ++ more)) before second mid new →
      GoesAmid sealing talk (steps_so_far talk.form (taken ++ more)) before second old new
  GoesAmid-input second one two =
      let rest = steps-more talk.form taken more in
      rw rest.1 (GoesAmid-then sealing talk (steps_so_far talk.form taken) rest.0 before first old mid new second one (rw rest.1 at two))

  pub Stops-input : (after : Option (List ℕ)) (status : Status) → GoesAmid sealing talk (steps_so_far talk.form taken) before first old mid →
      StopsIn sealing talk (steps_so_far talk.form (taken ++ more)) mid new before after status →
      StopsIn sealing talk (steps_so_far talk.form (taken ++ more)) old new before after status
  Stops-input after status one two =
      let rest = steps-more talk.form taken more in
      rw rest.1 (StopsIn-after sealing talk (steps_so_far talk.form taken) rest.0 before first old mid new after status one (rw rest.1 at two))

-- a piece that was taken in part, and more of the rest of it
pub taken-more : (input piece : List ℕ) (done k : ℕ) →
    (input ++ take done piece) ++ take k (take (length piece - done) (drop done piece)) ≡ input ++ take (done + k) piece
taken-more input piece done k =
    append_assoc input (take done piece) (take k (take (length piece - done) (drop done piece)))
    ∙ ap (λ bs. input ++ (take done piece ++ take k bs)) (rest-slice piece done)
    ∙ ap (λ bs. input ++ bs) (sym (take-add done k piece))

-- and the whole rest of it
pub taken-rest : (input piece : List ℕ) (done : ℕ) →
    (input ++ take done piece) ++ take (length piece - done) (drop done piece) ≡ input ++ piece
taken-rest input piece done =
    ap (λ bs. (input ++ take done piece) ++ bs) (rest-slice piece done)
    ∙ append_assoc input (take done piece) (drop done piece)
    ∙ ap (λ bs. input ++ bs) (take-append-drop done piece)

-- more bytes are taken of a piece
pub OfAmid-more : (form other : Form) → other ≡ form → (line next last : Kept) (from mid to : Amid) (old between new : Told) (piece : List ℕ) (done k : ℕ) →
    OfAmid form line from old (λ sealing talk before input. (next ≡ kept_so_far talk.form (input ++ take done piece))
    × GoesAmid sealing talk (steps_so_far talk.form (input ++ take done piece)) before mid old between) →
    OfAmid other next mid between (λ sealing talk before input. (last ≡ kept_so_far talk.form (input ++ take k (take (length piece - done) (drop done piece))))
    × GoesAmid sealing talk (steps_so_far talk.form (input ++ take k (take (length piece - done) (drop done piece)))) before to between new) →
    OfAmid form line from old (λ sealing talk before input. (last ≡ kept_so_far talk.form (input ++ take (done + k) piece))
    × GoesAmid sealing talk (steps_so_far talk.form (input ++ take (done + k) piece)) before to old new)
OfAmid-more form other alike line next last from mid to old between new piece done k first second sealing talk before input same under at =
    let one = first sealing talk before input same under at in
    let two = second sealing talk before (input ++ take done piece) (alike ∙ same) one.0 one.1.amid in
    rw (← taken-more) (
      two.0,
      GoesAmid-input sealing talk before mid old between new (input ++ take done piece) (take k (take (length piece - done) (drop done piece))) to one.1
          two.1,
    )

-- or the run stops in them
pub OfAmid-stops : (form other : Form) → other ≡ form →
    (line next : Kept) (from mid : Amid) (after : Option (List ℕ)) (status : Status) (old between new : Told)
    (piece : List ℕ) (done : ℕ) →
    OfAmid form line from old (λ sealing talk before input. (next ≡ kept_so_far talk.form (input ++ take done piece))
    × GoesAmid sealing talk (steps_so_far talk.form (input ++ take done piece)) before mid old between) →
    OfAmid other next mid between (λ sealing talk before input.
    StopsIn sealing talk (steps_so_far talk.form (input ++ take (length piece - done) (drop done piece))) between new before after status) →
    OfAmid form line from old (λ sealing talk before input. StopsIn sealing talk (steps_so_far talk.form (input ++ piece)) old new before after status)
OfAmid-stops form other alike line next from mid after status old between new piece done first second sealing talk before input same under at =
    let one = first sealing talk before input same under at in
    rw taken-rest at
    (Stops-input sealing talk before mid old between new (input ++ take done piece) (take (length piece - done) (drop done piece)) after status one.1
    (second sealing talk before (input ++ take done piece) (alike ∙ same) one.0 one.1.amid))

-- the state of a session by its parts
abbrev pub session_of : Form → Cursors → StoreState → Kept → Seals → InputRunState
session_of form cursors store line waiting = record { form = form; store = store; line = line; cursors = cursors; waiting = waiting }

module _ (form : Form) (cursors : Cursors) (store : StoreState) (line : Kept) (waiting : Seals) (held : Option (List ℕ)) (old : Told)
    (nothing_staged : shown_by store.records old.content ≡ old.content) where
  -- before a piece nothing waits, and nothing is staged
  begins : (sealing : Sealing) (talk : Talk) (before : Option (List ℕ)) (input : List ℕ) →
      HasTaken sealing talk old (session_of form cursors store line waiting) input →
      HasReplied talk before held input → IsAmid sealing talk (steps_so_far talk.form input) before (amid store.records (owed_by waiting) held cursors) old
  begins sealing talk before input at replied =
      IsAmid-begin sealing talk (steps_so_far talk.form input) before (amid store.records (owed_by waiting) held cursors) old (owed-nothing waiting at.unsaid)
      (AreOwed-none sealing waiting at.seals) nothing_staged at.stands at.durable replied at.cursors

  module _ (now : Cursors) (next : StoreState) (after_line : Kept) (left : Seals) (after : Option (List ℕ)) (piece : List ℕ) (new : Told) where
    -- a piece was taken, and then all was sealed and sent, if it was
    pub TakesPiece-sealed : {u : Unit {0}} (mid : Amid) (between : Told) (result : Result (Unit {0}) Status) →
        TakesBytes (λ (w : Unit {0}). piece) piece form line after_line (amid store.records (owed_by waiting) held cursors) mid (Ok u) old between →
        TakesNone mid (amid next.records (owed_by left) after now) result between new → OnOk result (shown_by next.records new.content ≡ new.content) →
        OnOk result (NoneWait left) →
        TakesPiece (λ (w : Unit {0}). piece) piece (session_of form cursors store line waiting)
        (session_of form now next after_line left) held after result old new
    TakesPiece-sealed mid between (Ok v) bytes none_more sealed none = record {
      goes = λ sealing talk before input at replied.
          let taken = steps_so_far talk.form (input ++ piece) in
          let to = amid next.records (owed_by left) after now in
          let one = bytes.goes sealing talk before input at.form at.line (begins sealing talk before input at replied) in
          let has = rw append-nil at
          (GoesAmid-then sealing talk taken [] before mid old between new to one.1 ((none_more sealing talk taken before).goes one.1.amid)) in
          record {
            at = record {
              stands = rw sealed at has.amid.shown;
              durable = has.amid.durable;
              line = one.0;
              unsaid = none;
              seals = sealing-owed sealing left has.amid.rest has.amid.few;
              form = at.form;
              cursors = has.amid.cursors;
            };
            replied = said-all sealing talk taken before to new (owed-nothing left none) has.amid;
            any_moment = has.any_moment;
          };
      stops = tt;
    }
    TakesPiece-sealed mid between (Err status) bytes none_more sealed none = record {
      goes = tt;
      stops = λ sealing talk before input at replied.
          let taken = steps_so_far talk.form (input ++ piece) in
          let one = bytes.goes sealing talk before input at.form at.line (begins sealing talk before input at replied) in
          rw append-nil at (StopsIn-after sealing talk taken [] before mid old between new after status one.1
          ((none_more sealing talk taken before).stops one.1.amid));
    }

    -- or the run stopped in the piece
    pub TakesPiece-stopped : (status : Status) → OfAmid form line (amid store.records (owed_by waiting) held cursors) old (λ sealing talk before input.
        StopsIn sealing talk (steps_so_far talk.form (input ++ piece)) old new before after status) →
        TakesPiece (λ (w : Unit {0}). piece) piece (session_of form cursors store line waiting)
        (session_of form now next after_line left) held after (Err status) old new
    TakesPiece-stopped status takes = record {
      goes = tt;
      stops = λ sealing talk before input at replied. takes sealing talk before input at.form at.line (begins sealing talk before input at replied);
    }

  module _ (now : Cursors) (records : RecordsState) (left : Seals) (after : Option (List ℕ)) (new : Told) where
    -- the input ended, and all was sealed and sent
    pub EndsInputRun-done : {u : Unit {0}} → shown_by records new.content ≡ new.content → NoneWait left →
        TakesLast form line (amid store.records (owed_by waiting) held cursors) (amid records (owed_by left) after now) (Ok u) old new →
        EndsInputRun (session_of form cursors store line waiting) held after Done old new
    EndsInputRun-done sealed none takes = record {
      done = λ _ sealing talk before input at replied.
          let has = takes.goes sealing talk before input at.form at.line (begins sealing talk before input at replied) in
          record {
            stands = rw sealed at has.amid.shown;
            durable = has.amid.durable;
            replied = said-all sealing talk (steps talk.form input) before (amid records (owed_by left) after now) new (owed-nothing left none) has.amid;
            any_moment = has.any_moment;
          };
      stops = λ going. absurd (going refl);
    }

    -- or the run stopped
    pub EndsInputRun-stopped : (status : Status) → (status ≡ Done → ⊥) →
        TakesLast form line (amid store.records (owed_by waiting) held cursors) (amid records (owed_by left) after now) (Err status) old new →
        EndsInputRun (session_of form cursors store line waiting) held after status old new
    EndsInputRun-stopped status going takes = record {
      done = λ is. absurd (going is);
      stops = λ _ sealing talk before input at replied. takes.stops sealing talk before input at.form at.line (begins sealing talk before input at replied);
    }

module _ (form : Form) (line : Kept) {from to : Amid} {old new : Told} where
  -- the last line of the input is taken
  pub TakesLast-line : (result : Result (Unit {0}) Status) → ((sealing : Sealing) (talk : Talk) (before : Option (List ℕ)) (input : List ℕ) →
      form ≡ talk.form → line ≡ kept_so_far talk.form input →
      (last : List ℕ) × (steps talk.form input ≡ steps_so_far talk.form input ++ last ∷ [])
      × TakesFurther sealing talk (steps_so_far talk.form input) (last ∷ []) before from to result old new) →
      TakesLast form line from to result old new
  TakesLast-line (Ok u) takes = record {
    goes = λ sealing talk before input same is at.
        let last = takes sealing talk before input same is in
        rw last.1 (last.2.goes at);
    stops = tt;
  }
  TakesLast-line (Err status) takes = record {
    goes = tt;
    stops = λ sealing talk before input same is at.
        let last = takes sealing talk before input same is in
        rw last.1 (last.2.stops at);
  }

module _ (form : Form) (line : Kept) {from mid to : Amid} {old between new : Told} where
  -- all is brought to the disk and sent after the last line
  pub TakesLast-then : {u : Unit {0}} (result : Result (Unit {0}) Status) → TakesLast form line from mid (Ok u) old between →
      TakesNone mid to result between new → TakesLast form line from to result old new
  TakesLast-then (Ok u) first second = record {
    goes = λ sealing talk before input same line at.
        let one = first.goes sealing talk before input same line at in
        rw append-nil at (GoesAmid-then sealing talk (steps talk.form input) [] before mid old between new to one
        ((second sealing talk (steps talk.form input) before).goes one.amid));
    stops = tt;
  }
  TakesLast-then (Err status) first second = record {
    goes = tt;
    stops = λ sealing talk before input same line at.
        let one = first.goes sealing talk before input same line at in
        rw append-nil at (StopsIn-after sealing talk (steps talk.form input) [] before mid old between new to.held status one
        ((second sealing talk (steps talk.form input) before).stops one.amid));
  }
