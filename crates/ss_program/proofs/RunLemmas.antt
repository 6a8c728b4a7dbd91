-- What a run leaves, by how it ends.
use Rattle.ss_program.proofs.Common.{◌≡◌, ◌⊎◌, inl, inr, take_all, length-drop, ℕ, ◌+◌, ◌≤◌, ◌++◌, List, [], ◌∷◌, length, take, drop, Bool, true, IsTrue}
use Rattle.ss_program.proofs.Common.{Option, Some, refl, sym, ap, ◌∙◌, arith, take-add, append-nil, drop-drop, take-append-drop, joined, of_content, KnowsNow}
use Rattle.ss_program.proofs.Common.{LeavesOnly, Told, Reports, Serves, Stopped, Took, steps_within, EndsWell, GoesOn, HoldsTalk, InputRunState, StandsWithin}
use Rattle.ss_program.proofs.Common.{StopsIn, appended, AppendsFront, after_lines, report, report_so_far, text_of, IsStop, Talk, LONGEST_INPUT, Sealing, Status}
use Rattle.ss_program.proofs.Common.{Done, DiskFault, SourceFault, SinkFault, OutOfMemory, InputLimit, steps, steps_so_far, Form, History, StandsShort}
use Rattle.ss_program.proofs.Common.{NothingPending, begun_over, sealing_by, kept_so_far, no_cursors, NoneWait, ReadsPiece, Ok, EndsInputRun, ServesInput}
use Rattle.ss_program.proofs.SendLemmas.{AppendsFront-all, appended-nil}
use Rattle.ss_program.proofs.ReportLemmas.{StopsAmong-front, StopsAmong-more, StopsIn-more, after_lines-accepted, front-report, moments-more}
use Rattle.ss_program.proofs.TakeLemmas.{GoesOn-start, GoesOn-then, StopsIn-then}
use Rattle.ss_program.proofs.ReadLemmas.{AreRead, AreRead-front, AreRead-took, Took-at, steps-read, stop-other}
use Rattle.ss_program.proofs.StepsLemmas.{steps-all, steps-front, steps-none}
use Rattle.ss_program.proofs.HoldsLemmas.{HoldsReported-done, HoldsReported-stop}

-- so many bytes of the input were taken since a moment, and the lines that end in them are answered
pub record IsThrough (sealing : Sealing) (talk : Talk) (start now : Told) (session : InputRunState) (before held left : Option (List ℕ)) (input : List ℕ)
    (n : ℕ) : Type 0
  where
    pub within : n ≤ length input
    pub source : left ≡ Some (drop n input)
    pub on : GoesOn sealing talk start now session before held (take n input)

module _ {sealing : Sealing} {talk : Talk} {start mid now : Told} {first second : InputRunState} {before held after old_left left : Option (List ℕ)}
    {input : List ℕ} {n k : ℕ} where
  -- and so many more
  IsThrough-more : IsThrough sealing talk start mid first before held old_left input n → k ≤ length (drop n input) → left ≡ Some (drop k (drop n input)) →
      GoesOn sealing talk mid now second before after (take n input ++ take k (drop n input)) →
      IsThrough sealing talk start now second before after left input (n + k)
  IsThrough-more through more source on = record {
    within = omega (arith, through.within, more, length-drop n input);
    source = source ∙ ap (λ bs. Some bs) (drop-drop k n input);
    on = rw take-add (GoesOn-then sealing talk start mid now first before held after (take n input) (take k (drop n input)) second through.on on);
  }

-- the same of every input and history
abbrev pub GoesThrough : Form → Sealing → Option (List ℕ) → InputRunState → Option (List ℕ) → Option (List ℕ) → Option (List ℕ) → ℕ → Told → Told → Type 0
GoesThrough form sealing left session before held rest n old now =
    (input : List ℕ) → left ≡ Some input → NothingPending old → (used : Option ℕ) (history : History) → StandsShort used history old.content →
    IsThrough sealing (begun_over used form history) old now session before held rest input n

-- none were
pub goes-start : (session : InputRunState) {left before : Option (List ℕ)} {disk : Told} → KnowsNow disk → NoneWait session.waiting →
    session.line ≡ kept_so_far session.form [] → session.cursors ≡ no_cursors →
    GoesThrough session.form (sealing_by session.waiting) left session before before left 0 disk disk
goes-start session {before = before} {disk = disk} knows unsaid line cursors input is none used history stands =
    let talk = begun_over used session.form history in
    let nothing = sym (steps-none session.form) in
    record {
      within = omega arith;
      source = is;
      on = GoesOn-start (sealing_by session.waiting) talk disk session before before [] knows
          (record {
            stands = rw (← nothing) stands;
            durable = none;
            line = line;
            unsaid = unsaid;
            seals = refl;
            form = refl;
            cursors = cursors ∙ ap (λ ls. (after_lines talk ls).cursors) nothing;
          })
          (sym (appended-nil before) ∙ ap (λ ls. appended before (text_of talk ls)) nothing);
    }

module _ {form : Form} {sealing : Sealing} {left before held after old_left rest : Option (List ℕ)} {first second : InputRunState} {n room k : ℕ}
    {start mid now : Told} where
  pub goes-more : GoesThrough form sealing left first before held old_left n start mid → ReadsPiece room first second old_left rest held after (Ok k) mid now →
      ((bytes : List ℕ) → old_left ≡ Some bytes → (k ≤ length bytes) × (k ≡ 0 → bytes ≡ []) × (rest ≡ Some (drop k bytes))) →
      GoesThrough form sealing left second before after rest (n + k) start now
  goes-more through reads moves input is none used history stands =
      let one = through input is none used history stands in
      let move = moves (drop n input) one.source in
      IsThrough-more one move.0 move.2
      (reads.goes (drop n input) one.source sealing (begun_over used form history) before (take n input) one.on.at one.on.replied)

-- all of the input was taken
pub record IsAtEnd (sealing : Sealing) (talk : Talk) (start now : Told) (session : InputRunState) (before held left : Option (List ℕ))
    (input : List ℕ) : Type 0 where
  pub fits : length input ≤ LONGEST_INPUT
  pub source : left ≡ Some []
  pub on : GoesOn sealing talk start now session before held input

pub IsThrough-end : {sealing : Sealing} {talk : Talk} {start now : Told} {session : InputRunState} {before held left : Option (List ℕ)} {input : List ℕ} {n : ℕ}
    (after_left : Option (List ℕ)) → IsThrough sealing talk start now session before held left input n → length input ≤ n →
    length input ≤ LONGEST_INPUT → after_left ≡ Some [] → IsAtEnd sealing talk start now session before held after_left input
IsThrough-end {sealing = sealing} {talk = talk} {start = start} {now = now} {session = session} {before = before} {held = held} {input = input}
    {n = n} after_left through
    all fits none = record {
      fits = fits;
      source = none;
      on = rw take_all at through.on;
    }

-- a line that a line end ended within the bytes taken is one of those so far
StopsIn-within : (sealing : Sealing) (talk : Talk) (old new : Told) (before after : Option (List ℕ)) (status : Status) (taken rest : List ℕ) →
    StopsIn sealing talk (steps_so_far talk.form taken) old new before after status →
    StopsIn sealing talk (steps_within talk.form taken rest) old new before after status
StopsIn-within sealing talk old new before after status taken [] stops =
    let all = steps-all talk.form taken in
    rw all.1 (StopsIn-more sealing talk (steps_so_far talk.form taken) all.0 old new before after status stops)
StopsIn-within sealing talk old new before after status taken (b ∷ rest) stops = stops

-- a run stopped at a line that had ended within the bytes taken
pub record HasStopped (sealing : Sealing) (talk : Talk) (input : List ℕ) (left before after : Option (List ℕ)) (old new : Told) (status : Status) : Type 0
  where
    pub taken : List ℕ
    pub rest : List ℕ
    pub took : Took input left taken rest
    pub stops : StopsIn sealing talk (steps_within talk.form taken rest) old new before after status

-- it stopped at a line of the piece that came next
pub HasStopped-piece : (sealing : Sealing) (talk : Talk) (start mid new : Told) (session : InputRunState) (input : List ℕ)
    (old_left left before held after : Option (List ℕ)) (status : Status)
    (n room : ℕ) → IsThrough sealing talk start mid session before held old_left input n → n + room ≤ LONGEST_INPUT →
    (count : ℕ) × (count ≤ room) × (count ≤ length (drop n input)) × (left ≡ Some (drop count (drop n input)))
    × StopsIn sealing talk (steps_so_far talk.form (take n input ++ take count (drop n input))) mid new before after status →
    HasStopped sealing talk input left before after start new status
HasStopped-piece sealing talk start mid new session input old_left left before held after status n room through few piece =
    let m = n + piece.0 in
    let stops = StopsIn-then sealing talk start mid new session before held after (take n input) (take piece.0 (drop n input)) status through.on piece.4 in
    record {
      taken = take m input;
      rest = drop m input;
      took = Took-at input left m (omega (arith, through.within, piece.2, length-drop n input)) (omega (arith, few, piece.1))
          (piece.3 ∙ ap (λ bs. Some bs) (drop-drop piece.0 n input));
      stops = StopsIn-within sealing talk start new before after status (take m input) (drop m input) (rw take-add stops);
    }

-- what was left in a crash of a session before its last line is a front of all lines
any_moment-lines : (talk : Talk) (old new : Told) (input : List ℕ) → LeavesOnly old new (StandsWithin talk (steps_so_far talk.form input)) →
    LeavesOnly old new (StandsWithin talk (steps talk.form input))
any_moment-lines talk old new input run =
    let all = steps-all talk.form input in
    rw all.1 (moments-more talk old new (steps_so_far talk.form input) all.0 run)

-- or at the last line of the input
pub HasStopped-end : (sealing : Sealing) {talk : Talk} {start mid : Told} {session : InputRunState} {before held left : Option (List ℕ)} {input : List ℕ}
    (new : Told)
    (after : Option (List ℕ))
    (status : Status) → IsAtEnd sealing talk start mid session before held left input →
    StopsIn sealing talk (steps talk.form input) mid new before after status →
    HasStopped sealing talk input left before after start new status
HasStopped-end sealing {talk = talk} {start = start} {mid = mid} {input = input} new after status end stops = record {
  taken = input;
  rest = [];
  took = record { all = append-nil input; others = end.source; few = end.fits };
  stops = record {
    at = stops.at;
    any_moment = joined start mid new (StandsWithin talk (steps talk.form input)) (any_moment-lines talk start mid input end.on.any_moment) stops.any_moment;
  };
}

-- the run stopped at a line
Stopped-as : (sealing : Sealing) (talk : Talk) (input : List ℕ) (left before after : Option (List ℕ)) (old new : Told) (status : Status) →
    HasStopped sealing talk input left before after old new status → Stopped sealing talk input left before after new status
Stopped-as sealing talk input left before after old new status has = (has.taken, has.rest, has.took, has.stops.at)

Reports-stop : (sealing : Sealing) (talk : Talk) (input : List ℕ) (left before after : Option (List ℕ)) (old new : Told) (status : Status) →
    AppendsFront before after (report talk input) → HasStopped sealing talk input left before after old new status → IsStop true status →
    Reports sealing talk input left before after new status
Reports-stop sealing talk input left before after old new status front has stop =
    let other = stop-other true status stop in
    let at = λ (s : Status) (is : status ≡ s). rw is at (Stopped-as sealing talk input left before after old new status has) in
    record {
      front = front;
      whole = λ is. absurd (other.0 is);
      broken = λ is. inr (at DiskFault is);
      faulted = λ is. absurd (other.2 is);
      cut = λ is. at SinkFault is;
      starved = λ is. inr (at OutOfMemory is);
      limited = λ is. absurd (other.1 is);
    }

pub Serves-stop : (sealing : Sealing) (talk : Talk) (input : List ℕ) (left before after : Option (List ℕ)) (old new : Told) (tells : Bool)
    (status : Status) → IsTrue tells → IsStop tells status → HasStopped sealing talk input left before after old new status →
    Serves sealing talk input left before after old new status
Serves-stop sealing talk input left before after old new tells status told stop has =
    let all = steps-read talk.form input has.taken has.rest has.took.all in
    let ls = steps_within talk.form has.taken has.rest in
    record {
      report = Reports-stop sealing talk input left before after old new status (rw all.1 (StopsAmong-front (StopsAmong-more all.0 has.stops.at))) has
          (rw told at stop);
      kept = HoldsReported-stop sealing talk input left before after new status ls all.0 all.1
          (AreRead-took talk.form input left has.taken has.rest has.took) has.stops.at (stop-other tells status stop).0;
      any_moment = rw all.1 (moments-more talk old new ls all.0 has.stops.any_moment);
      whole = λ is. absurd ((stop-other tells status stop).0 is);
    }

-- the session came to its end
pub Serves-done : (sealing : Sealing) {talk : Talk} {start mid : Told} {session : InputRunState} {before held left : Option (List ℕ)} {input : List ℕ}
    (new : Told)
    (after : Option (List ℕ)) →
    IsAtEnd sealing talk start mid session before held left input → EndsWell talk (steps talk.form input) mid new before after →
    Serves sealing talk input left before after start new Done
Serves-done sealing {talk = talk} {start = start} {mid = mid} {before = before} {left = left} {input = input} new after end ends = record {
  report = record {
    front = AppendsFront-all before after (report talk input) ends.replied;
    whole = λ _. ends.replied;
    broken = λ is. cc;
    faulted = λ is. cc;
    cut = λ is. cc;
    starved = λ is. cc;
    limited = λ is. cc;
  };
  kept = HoldsReported-done sealing talk input left before after new Done (steps talk.form input) [] (sym (append-nil (steps talk.form input)))
      (AreRead-took talk.form input left input [] (record { all = append-nil input; others = end.source; few = end.fits })) ends.replied
      (of_content new (HoldsTalk (after_lines talk (steps talk.form input))) ends.durable ends.stands) (λ _. refl);
  any_moment = joined start mid new (StandsWithin talk (steps talk.form input)) (any_moment-lines talk start mid input end.on.any_moment) ends.any_moment;
  whole = λ _. rw after_lines-accepted at ends.stands.0;
}

-- the session was finished
pub Serves-finish : (sealing : Sealing) {talk : Talk} {start mid : Told} {session : InputRunState} {before held left : Option (List ℕ)} {input : List ℕ}
    (new : Told)
    (after : Option (List ℕ))
    (tells : Bool) (status : Status) → IsTrue tells → IsAtEnd sealing talk start mid session before held left input →
    (status ≡ Done) ⊎ IsStop tells status →
    (status ≡ Done → EndsWell talk (steps talk.form input) mid new before after) →
    (IsStop tells status → StopsIn sealing talk (steps talk.form input) mid new before after status) →
    Serves sealing talk input left before after start new status
Serves-finish sealing {talk = talk} {start = start} {before = before} {left = left} {input = input} new after tells status told end (inl is) done stops =
    rw is (Serves-done sealing new after end (done is))
Serves-finish sealing {talk = talk} {start = start} {before = before} {left = left} {input = input} new after tells status told end
    (inr stop) done stops =
    Serves-stop sealing talk input left before after start new tells status told stop (HasStopped-end sealing new after status end (stops stop))

pub goes-finish : {form : Form} {sealing : Sealing} {left before held after old_left rest : Option (List ℕ)} {session : InputRunState} {n : ℕ}
    {start mid new : Told} (tells : Bool) (status : Status) → IsTrue tells → (status ≡ Done) ⊎ IsStop tells status →
    GoesThrough form sealing left session before held old_left n start mid → EndsInputRun session held after status mid new →
    ((input : List ℕ) → left ≡ Some input → (length input ≤ n) × (length input ≤ LONGEST_INPUT) × (rest ≡ Some [])) →
    (input : List ℕ) → left ≡ Some input → ServesInput form sealing input rest before after status start new
goes-finish {form = form} {sealing = sealing} {before = before} {after = after} {rest = rest} {new = new} tells status told how through ends all
    input is none used history stands =
    let talk = begun_over used form history in
    let last = all input is in
    let end = IsThrough-end rest (through input is none used history stands) last.0 last.1 last.2 in
    Serves-finish sealing new after tells status told end how (λ is_done. ends.done is_done sealing talk before input end.on.at end.on.replied)
    (λ stop. ends.stops (stop-other tells status stop).0 sealing talk before input end.on.at end.on.replied)

-- by which of the two statuses
abbrev Partly : Status → Type 0 → Type 0 → Type 0
Partly status A B = (status ≡ SourceFault) × A ⊎ (status ≡ InputLimit) × B

part-other : {A B C : Type 0} {status : Status} (other : Status) → (SourceFault ≡ other → ⊥) → (InputLimit ≡ other → ⊥) →
    Partly status A B → status ≡ other → C
part-other other one two (inl how) is = absurd (one (sym how.0 ∙ is))
part-other other one two (inr how) is = absurd (two (sym how.0 ∙ is))

part-left : {A B : Type 0} {status : Status} → Partly status A B → status ≡ SourceFault → A
part-left (inl how) is = how.1
part-left (inr how) is = cc

part-limit : {A B : Type 0} {status : Status} → Partly status A B → status ≡ InputLimit → B
part-limit (inl how) is = cc
part-limit (inr how) is = how.1

-- as many bytes were taken as an input may have, and one more was read
pub record IsPast (input : List ℕ) (left : Option (List ℕ)) (n : ℕ) : Type 0 where
  pub all : n ≡ LONGEST_INPUT
  pub source : left ≡ Some (drop 1 (drop n input))

part-read : {status : Status} (talk : Talk) (input : List ℕ) (left after_left : Option (List ℕ)) (n : ℕ) → left ≡ Some (drop n input) →
    Partly status (after_left ≡ left) (IsPast input after_left n) → AreRead talk.form input after_left (steps_so_far talk.form (take n input))
part-read talk input left after_left n is (inl how) =
    AreRead-front talk.form input after_left n 0 (how.1 ∙ is ∙ ap (λ (m : ℕ). Some (drop m input)) (omega arith))
part-read talk input left after_left n is (inr how) = AreRead-front talk.form input after_left n 1 (how.1.source ∙ ap (λ bs. Some bs) (drop-drop 1 n input))

-- the source failed, or more is left than an input may have
pub Serves-part : (sealing : Sealing) {talk : Talk} {start now : Told} {session : InputRunState} {before held left : Option (List ℕ)} {input : List ℕ}
    {n : ℕ}
    (status : Status)
    (after_left : Option (List ℕ)) → IsThrough sealing talk start now session before held left input n → n ≤ LONGEST_INPUT →
    (status ≡ SourceFault) × (after_left ≡ left) ⊎ (status ≡ InputLimit) × IsPast input after_left n →
    Serves sealing talk input after_left before held start now status
Serves-part sealing {talk = talk} {start = start} {now = now} {before = before} {held = held} {left = left} {input = input} {n = n} status after_left
    through few how =
    let more = steps-front talk.form (take n input) (drop n input) in
    let all : steps talk.form input ≡ steps_so_far talk.form (take n input) ++ more.0 = ap (λ bs. steps talk.form bs)
    (sym (take-append-drop n input)) ∙ more.1 in
    let ls = steps_so_far talk.form (take n input) in
    record {
      report = record {
        front = rw take-append-drop at
            (front-report talk before held (take n input) (drop n input) (AppendsFront-all before held (report_so_far talk (take n input))
            through.on.replied));
        whole = λ is. part-other Done (λ w. cc) (λ w. cc) how is;
        broken = λ is. part-other DiskFault (λ w. cc) (λ w. cc) how is;
        faulted = λ is. (take n input, drop n input, Took-at input after_left n through.within few (part-left how is ∙ through.source), through.on.replied);
        cut = λ is. part-other SinkFault (λ w. cc) (λ w. cc) how is;
        starved = λ is. part-other OutOfMemory (λ w. cc) (λ w. cc) how is;
        limited = λ is. through.on.replied ∙ ap (λ m. appended before (report_so_far talk (take m input))) (part-limit how is).all;
      };
      kept = HoldsReported-done sealing talk input after_left before held now status ls more.0 all (part-read talk input left after_left n through.source how)
          through.on.replied
          (of_content now (HoldsTalk (after_lines talk ls)) through.on.at.durable through.on.at.stands) (λ is. part-other Done (λ w. cc) (λ w. cc) how is);
      any_moment = rw all (moments-more talk start now ls more.0 through.on.any_moment);
      whole = λ is. part-other Done (λ w. cc) (λ w. cc) how is;
    }
