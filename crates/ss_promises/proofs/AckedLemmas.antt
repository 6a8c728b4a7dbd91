-- Which accepted events an image holds, by how many of their `ok`s the sink got.
use Rattle.ss_program.proofs.Common.{◌≡◌, ◌∙◌, ◌⊎◌, inl, inr, ℕ, ◌+◌, ◌-◌, ◌<◌, ◌≤◌, ◌++◌, List, [], ◌∷◌, length, take, drop, Option, Some, None}
use Rattle.ss_program.proofs.Common.{IsSome, IsTrue}
use Rattle.ss_program.proofs.Common.{refl, sym, ap, append_assoc, append-nil, arith, common_steps, nat_le, cases_lt, cond-true, cond-false, le-leb, lt-leb}
use Rattle.ss_program.proofs.Common.{length-append, take-append-drop, Event, Happened, Told, acks, the_event, HoldsBy, NotBegun, Reports, Stopped, steps_within}
use Rattle.ss_program.proofs.Common.{IsAlone, StopsAmong, appended, accepted, after_line, after_lines, report_so_far, text_of, Talk, turn_of, Form}
use Rattle.ss_program.proofs.Common.{Lines, Sessions, Frames, Follow, Sealing, Each, Serves}
use Rattle.ss_program.proofs.Common.{steps, steps_so_far, cond, Turn, after_turn}
use Rattle.ss_program.proofs.OverLemmas.{over_slots, turn-over}
use Rattle.ss_program.specs.declared.running.TheConstants.{LONGEST_INPUT}
use Rattle.ss_program.specs.declared.status.Status.{Status}
use Rattle.ss_program.specs.declared.status.Status.TheVariants.{DiskFault, Done, InputLimit, OutOfMemory, RecordChanged, RefusedStore}
use Rattle.ss_program.specs.declared.status.Status.TheVariants.{SinkFault, SourceFault, Usage}
use Rattle.ss_program.proofs.Common.{DiskView, Ends, History, Mode, Stands, over, served_by, serving, state}
use Rattle.ss_program.proofs.EndLemmas.{not-refused}
use Rattle.ss_program.proofs.HeldLemmas.{accepted-append, acks-done, few-events, first-short, new_bytes, none-cut}
use Rattle.ss_program.proofs.ReadLemmas.{steps-read}
use Rattle.ss_program.proofs.SendLemmas.{appended-appended, appended-nil}
use Rattle.ss_program.proofs.ReportLemmas.{after_lines-append, says-some, text_of-append}
use Rattle.ss_program.proofs.StepsLemmas.{steps-front}
use Rattle.ss_promises.specs.Acked.{HoldsOks, first_line, ok_of, oks}

-- ---- the first line of a text

first_line-short : (text : List ℕ) → length (first_line text) ≤ length text
first_line-short [] = omega arith
first_line-short (byte ∷ bytes) = grind (arith, common_steps, first_line-short bytes)

first_line-some : (text : List ℕ) → 0 < length text → 0 < length (first_line text)
first_line-some [] some = some
first_line-some (byte ∷ bytes) some = grind (arith, common_steps)

ok_of-short : (form : Form) (says : List ℕ) → length (ok_of form says) ≤ length says
ok_of-short (Lines framed) says = first_line-short says
ok_of-short (Sessions framed) says = first_line-short says
ok_of-short Frames says = omega arith
ok_of-short Follow says = first_line-short says

ok_of-some : (form : Form) (says : List ℕ) → 0 < length says → 0 < length (ok_of form says)
ok_of-some (Lines framed) says some = first_line-some says some
ok_of-some (Sessions framed) says some = first_line-some says some
ok_of-some Frames says some = some
ok_of-some Follow says some = first_line-some says some

-- ---- how many events have their `ok` within so many bytes

-- to a line that brings an event something is said, and so an `ok`
unsaid : (event : Option Event) (says ok : ℕ) → (IsSome event → 0 < says) → (0 < says → 0 < ok) → ok ≤ 0 → length (the_event event) ≡ 0
unsaid None says ok some more none = refl
unsaid (Some event) says ok some more none = absurd (omega (arith, more (some refl), none))

oks-none : (talk : Talk) (ls : List (List ℕ)) (n : ℕ) → n ≡ 0 → oks talk ls n ≡ 0
oks-none talk [] n zero = refl
oks-none talk (line ∷ ls) n zero =
    let says = (turn_of talk line).says in
    let ok = length (ok_of talk.form says) in
    let more = length (the_event (turn_of talk line).event) + oks (after_line talk line) ls (n - length says) in
    elim (cases_lt 0 ok) [
      | inl some ↦ cond-false (nat_le ok n) more 0 (lt-leb ok n (omega (arith, some, zero)))
      | inr none ↦ cond-true (nat_le ok n) more 0 (le-leb ok n (omega (arith, none)))
          ∙ (let event = unsaid (turn_of talk line).event (length says) ok (says-some talk line) (ok_of-some talk.form says) none in
          let rest = oks-none (after_line talk line) ls (n - length says) (omega (arith, zero)) in
          omega (arith, event, rest))
    ]

-- no more than are accepted of lines whose text has as many bytes
oks-few : (talk : Talk) (done others : List (List ℕ)) (bytes : ℕ) → bytes ≤ length (text_of talk done) →
    oks talk (done ++ others) bytes ≤ length (accepted talk done)
oks-few talk [] others bytes few = omega (arith, oks-none talk others bytes (omega (arith, few)))
oks-few talk (line ∷ done) others bytes few =
    let says = (turn_of talk line).says in
    let ok = length (ok_of talk.form says) in
    let event = the_event (turn_of talk line).event in
    let rest = after_line talk line in
    let more = length event + oks rest (done ++ others) (bytes - length says) in
    let all = length-append event (accepted rest done) in
    elim (cases_lt bytes ok) [
      | inl less ↦ (let none = cond-false (nat_le ok bytes) more 0 (lt-leb ok bytes less) in omega (arith, none))
      | inr whole ↦ (let some = cond-true (nat_le ok bytes) more 0 (le-leb ok bytes whole) in
          let few_more = oks-few rest done others (bytes - length says) (omega (arith, few, length-append says (text_of rest done))) in
          omega (arith, some, few_more, all))
    ]

-- and all that are accepted of lines whose text is within them
oks-all : (talk : Talk) (done others : List (List ℕ)) (bytes : ℕ) → length (text_of talk done) ≤ bytes →
    length (accepted talk done) ≤ oks talk (done ++ others) bytes
oks-all talk [] others bytes whole = omega arith
oks-all talk (line ∷ done) others bytes whole =
    let says = (turn_of talk line).says in
    let ok = length (ok_of talk.form says) in
    let event = the_event (turn_of talk line).event in
    let rest = after_line talk line in
    let both = length-append says (text_of rest done) in
    let short = ok_of-short talk.form says in
    let some = cond-true (nat_le ok bytes) (length event + oks rest (done ++ others) (bytes - length says)) 0
    (le-leb ok bytes (omega (arith, whole, both, short))) in
    let later = oks-all rest done others (bytes - length says) (omega (arith, whole, both)) in
    omega (arith, some, later, length-append event (accepted rest done))

-- by more bytes no fewer are
pub oks-more : (talk : Talk) (ls : List (List ℕ)) (few many : ℕ) → few ≤ many → oks talk ls few ≤ oks talk ls many
oks-more talk [] few many less = omega arith
oks-more talk (line ∷ ls) few many less =
    let says = (turn_of talk line).says in
    let ok = length (ok_of talk.form says) in
    let event = the_event (turn_of talk line).event in
    let rest = after_line talk line in
    let first = length event + oks rest ls (few - length says) in
    let second = length event + oks rest ls (many - length says) in
    elim (cases_lt few ok) [
      | inl cut ↦ (let none = cond-false (nat_le ok few) first 0 (lt-leb ok few cut) in omega (arith, none))
      | inr whole ↦ (let some = cond-true (nat_le ok few) first 0 (le-leb ok few whole) in
          let also = cond-true (nat_le ok many) second 0 (le-leb ok many (omega (arith, whole, less))) in
          let more = oks-more rest ls (few - length says) (many - length says) (omega (arith, less)) in
          omega (arith, some, also, more))
    ]

pub oks-nothing : (talk : Talk) (ls : List (List ℕ)) → oks talk ls 0 ≡ 0
oks-nothing talk ls = oks-none talk ls 0 refl

-- however many slots the file used before
pub oks-over : (used : Option ℕ) (talk : Talk) (ls : List (List ℕ)) (bytes : ℕ) → oks (over_slots used talk) ls bytes ≡ oks talk ls bytes
oks-over used talk [] bytes = refl
oks-over used talk (line ∷ ls) bytes =
    ap (λ (t : Turn). cond (nat_le (length (ok_of talk.form t.says)) bytes)
    (length (the_event t.event) + oks (after_turn (over_slots used talk) t) ls (bytes - length t.says)) 0) (turn-over used talk line)
    ∙ ap (λ n. cond (nat_le (length (ok_of talk.form (turn_of talk line).says)) bytes) (length (the_event (turn_of talk line).event) + n) 0)
    (oks-over used (after_line talk line) ls (bytes - length (turn_of talk line).says))

-- where the bytes are the text of some first lines, they are those whose replies are whole
oks-acks : (talk : Talk) (done others : List (List ℕ)) (bytes : ℕ) → bytes ≡ length (text_of talk done) →
    oks talk (done ++ others) bytes ≡ acks talk (done ++ others) bytes
oks-acks talk done others bytes is =
    let few = oks-few talk done others bytes (omega (arith, is)) in
    let all = oks-all talk done others bytes (omega (arith, is)) in
    let acked = acks-done talk done others 0 bytes (none-cut (after_lines talk done) others) (omega (arith, is)) in
    omega (arith, few, all, acked)

-- ---- what an image holds

-- one event at most, and none behind it
event-alone : (event : Option Event) (more : List Happened) → length more ≡ 0 → length (the_event event ++ more) ≤ 1
event-alone None more none = omega (arith, none)
event-alone (Some event) more none = omega (arith, none, length-append (the_event (Some event)) more)

-- of one line at most one event is accepted, of none no event
front-one : (talk : Talk) (done left : List (List ℕ)) → length (done ++ left) ≡ 1 → length (accepted talk done) ≤ 1
front-one talk [] left one = omega arith
front-one talk (line ∷ []) left one =
    event-alone (turn_of talk line).event [] refl
front-one talk (line ∷ next ∷ done) left one = absurd (omega (arith, one))

module _ (sealing : Sealing) (talk : Talk) (input : List ℕ) (left : Option (List ℕ)) (bytes : ℕ) (status : Status) (image : List ℕ) where
  -- the bytes are the text of some first lines
  HoldsOks-exact : (done others : List (List ℕ)) → HoldsBy sealing talk input left bytes status image →
      steps talk.form input ≡ done ++ others → bytes ≡ length (text_of talk done) → HoldsOks sealing talk input left bytes status image
  HoldsOks-exact done others kept are is =
      let same : oks talk (steps talk.form input) bytes ≡ acks talk (steps talk.form input) bytes = rw are (oks-acks talk done others bytes is) in
      record {
        j = kept.4.j;
        stands = kept.4.stands;
        few = kept.4.few;
        acked = omega (arith, same, kept.4.acked);
        at_most = λ each. omega (arith, same, kept.4.at_most each);
        all = kept.4.all;
        starved = λ starved. kept.4.starved starved ∙ sym same;
        read = kept.0;
        others = kept.1;
        are = kept.2;
        rest = kept.3;
        within = kept.4.within;
      }

  -- the run stopped among some lines
  HoldsOks-among : (ls others : List (List ℕ)) (taken rest : List ℕ) (before after : Option (List ℕ)) (disk : Told)
      (at : StopsAmong sealing talk ls before after disk status) → steps talk.form input ≡ ls ++ others → taken ++ rest ≡ input → left ≡ Some rest →
      ls ≡ steps_within talk.form taken rest → bytes ≡ length (text_of talk at.out) + at.bytes → disk.may_leave image →
      (status ≡ Done → ⊥) → (status ≡ OutOfMemory → ⊥) →
      HoldsOks sealing talk input left bytes status image
  HoldsOks-among ls others taken rest before after disk at are all is_left within is may going fed =
      let beyond = at.left image may in
      let there = after_lines talk at.out in
      let done = at.out ++ beyond.0 in
      let tail = beyond.1 ++ at.others in
      let same : ls ≡ done ++ tail =
      at.are ∙ ap (λ l. at.out ++ (l ++ at.others)) beyond.2 ∙ ap (λ l. at.out ++ l) (append_assoc beyond.0 beyond.1 at.others)
      ∙ sym (append_assoc at.out beyond.0 tail) in
      let whole : steps talk.form input ≡ done ++ (tail ++ others) = are ∙ ap (λ l. l ++ others) same ∙ append_assoc done tail others in
      let first : steps talk.form input ≡ at.out ++ (beyond.0 ++ (tail ++ others)) = whole ∙ append_assoc at.out beyond.0 (tail ++ others) in
      let text = ap (λ (bs : List ℕ). length bs) (text_of-append talk at.out beyond.0) in
      let some = length-append (text_of talk at.out) (text_of there beyond.0) in
      let acked : oks talk (steps talk.form input) bytes ≤ length (accepted talk done) =
      rw whole (oks-few talk done (tail ++ others) bytes (omega (arith, is, beyond.3, text, some))) in
      let before_them : length (accepted talk at.out) ≤ oks talk (steps talk.form input) bytes =
      rw first (oks-all talk at.out (beyond.0 ++ (tail ++ others)) bytes (omega (arith, is))) in
      let events = ap (λ (es : List Happened). length es) (accepted-append talk at.out beyond.0) in
      let both = length-append (accepted talk at.out) (accepted there beyond.0) in
      record {
        j = length (accepted talk done);
        stands = rw whole (first-short talk done (tail ++ others) image (rw after_lines-append beyond.4));
        few = rw whole (few-events talk done (tail ++ others));
        acked = acked;
        at_most = λ each.
            let alone : IsAlone Each there at.now at.bytes = rw each at at.alone in
            let one = front-one there beyond.0 beyond.1 (ap (λ (l : List (List ℕ)). length l) (sym beyond.2) ∙ alone.0) in
            omega (arith, one, before_them, events, both);
        all = λ done. absurd (going done);
        starved = λ starved. absurd (fed starved);
        read = taken;
        others = rest;
        are = all;
        rest = is_left;
        within = rw (sym within ∙ same) (few-events talk done tail);
      }

-- ---- how a run ends that was begun

-- it answered some first lines, or it stopped among some
abbrev Answered : Talk → List ℕ → Option (List ℕ) → Option (List ℕ) → Type 0
Answered talk input before after =
    (done : List (List ℕ)) × (others : List (List ℕ)) × (steps talk.form input ≡ done ++ others) × (after ≡ appended before (text_of talk done))

abbrev Went : Sealing → Talk → List ℕ → Option (List ℕ) → Option (List ℕ) → Option (List ℕ) → Told → Status → Type 0
Went sealing talk input left before after disk status =
    Answered talk input before after
    ⊎ ((status ≡ Done → ⊥) × (status ≡ OutOfMemory → ⊥) × Stopped sealing talk input left before after disk status)

-- its status is none of those of a run that wasn't, or whose disk doesn't tell
pub record HasBegun (status : Status) : Type 0 where
  pub known : status ≡ Usage → ⊥
  pub stands : status ≡ RefusedStore → ⊥
  pub firm : status ≡ RecordChanged → ⊥

-- arguments that ask for a run over the source are known
pub asked-some : (mode : Option Mode) (form : Form) (sealing : Sealing) → served_by mode ≡ Some (serving form sealing) → IsSome mode
asked-some None form sealing is = absurd cc
asked-some (Some mode) form sealing is = refl

-- a run over a store that tells its history was begun
pub HasBegun-ends : (old new : DiskView) (before after : Option (List ℕ)) (had has : ℕ) (status : Status) (history : History) →
    Ends (over old before had) (over new after has) status → IsTrue old.tells → Stands history old.told.content → HasBegun status
HasBegun-ends old new before after had has status history ends tells stands = record {
  known = ends.known;
  stands = λ is. not-refused old.told.content (state history) stands.state (rw ((ends.refused is tells).is_line));
  firm = λ is. ends.firm is tells;
}

module _ (sealing : Sealing) (talk : Talk) (input : List ℕ) (left before after : Option (List ℕ)) (disk : Told) where
  none-answered : NotBegun input left before after → Answered talk input before after
  none-answered none = ([], steps talk.form input, refl, none.1 ∙ sym (appended-nil before))

  so_far-answered : (taken rest : List ℕ) → taken ++ rest ≡ input → after ≡ appended before (report_so_far talk taken) →
      Answered talk input before after
  so_far-answered taken rest all sent =
      let more = steps-front talk.form taken rest in
      (steps_so_far talk.form taken, more.0, ap (λ bs. steps talk.form bs) (sym all) ∙ more.1, sent)

  -- where memory ran out nothing was said to the line at which the run stopped
  starved-answered : Stopped sealing talk input left before after disk OutOfMemory → Answered talk input before after
  starved-answered stopped =
      let at = stopped.3 in
      let here = text_of talk at.out in
      let more = steps-read talk.form input stopped.0 stopped.1 stopped.2.all in
      let rest = at.now ++ at.others in (
        at.out,
        rest ++ more.0,
        more.1 ∙ ap (λ ls. ls ++ more.0) at.are ∙ append_assoc at.out rest more.0,
        at.sent ∙ ap (λ k. appended before (here ++ take k (text_of (after_lines talk at.out) at.now))) (at.starved refl).0
            ∙ ap (λ bs. appended before bs) (append-nil here),
      )

  went : (status : Status) → HasBegun status → Reports sealing talk input left before after disk status →
      Went sealing talk input left before after disk status
  went Done has reports = inl (steps talk.form input, [], sym (append-nil (steps talk.form input)), reports.whole refl)
  went DiskFault has reports = elim (reports.broken refl) [
    | inl none ↦ inl (none-answered none)
    | inr stopped ↦ inr (λ done. cc, λ starved. cc, stopped)
  ]
  went SourceFault has reports = let at = reports.faulted refl in inl (so_far-answered at.0 at.1 at.2.all at.3)
  went SinkFault has reports = inr (λ done. cc, λ starved. cc, reports.cut refl)
  went OutOfMemory has reports = elim (reports.starved refl) [
    | inl none ↦ inl (none-answered none)
    | inr stopped ↦ inl (starved-answered stopped)
  ]
  went InputLimit has reports =
      inl (so_far-answered (take LONGEST_INPUT input) (drop LONGEST_INPUT input) (take-append-drop LONGEST_INPUT input) (reports.limited refl))
  went Usage has reports = absurd (has.known refl)
  went RefusedStore has reports = absurd (has.stands refl)
  went RecordChanged has reports = absurd (has.firm refl)

-- what comes after what was held
held-after : (had has a b : List ℕ) (after : Option (List ℕ)) → after ≡ appended (Some had) (a ++ b) → after ≡ Some has →
    Some has ≡ appended (appended (Some had) a) b
held-after had has a b after sent is_has = sym is_has ∙ sent ∙ sym (appended-appended (Some had) a b)

-- each image holds what it has to, by the sink's new bytes
pub HoldsOks-serves : (sealing : Sealing) (talk : Talk) (input : List ℕ) (left before after : Option (List ℕ)) (old new : Told) (status : Status) →
    HasBegun status → Serves sealing talk input left before after old new status → (had has : List ℕ) → before ≡ Some had → after ≡ Some has →
    (image : List ℕ) → new.may_leave image → HoldsOks sealing talk input left (length has - length had) status image
HoldsOks-serves sealing talk input left before after old new status has_begun serves had has is_had is_has image may =
    elim (went sealing talk input left before after new status has_begun serves.report) [
      | inl answered ↦
          (let text = text_of talk answered.0 in
          let sent = answered.3 ∙ ap (λ o. appended o text) is_had ∙ ap (λ bs. appended (Some had) bs) (sym (append-nil text)) in
          let held = held-after had has text [] after sent is_has in
          let bytes = new_bytes had has text [] 0 held (omega arith) in
          HoldsOks-exact sealing talk input left (length has - length had) status image answered.0 answered.1 (serves.kept had has is_had is_has image may)
          answered.2 (omega (arith, bytes)))
      | inr stopped ↦
          (let at = stopped.2.3 in
          let took = stopped.2.2 in
          let here = text_of talk at.out in
          let text = text_of (after_lines talk at.out) at.now in
          let held = held-after had has here (take at.bytes text) after (at.sent ∙ ap (λ o. appended o (here ++ take at.bytes text)) is_had) is_has in
          let more = steps-read talk.form input stopped.2.0 stopped.2.1 took.all in
          HoldsOks-among sealing talk input left (length has - length had) status image (steps_within talk.form stopped.2.0 stopped.2.1) more.0
          stopped.2.0 stopped.2.1 before after new at more.1 took.all took.others refl (new_bytes had has here text at.bytes held at.few) may
          stopped.0 stopped.1)
    ]
