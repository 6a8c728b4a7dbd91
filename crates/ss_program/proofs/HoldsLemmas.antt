-- Which accepted events an image holds, by how much of the report was taken.
use Rattle.ss_program.proofs.Common.{◌≡◌, ◌⊎◌, inl, inr, ℕ, ◌+◌, ◌-◌, ◌≤◌, ◌++◌, List, [], ◌∷◌, length, take, Option, Some, None, refl, sym, ap, ◌∙◌}
use Rattle.ss_program.proofs.Common.{append_assoc, arith, append-nil, length-append, Event, Told, Happened, HoldsAcked, acks, the_event, HoldsReported}
use Rattle.ss_program.proofs.Common.{steps_within, HoldsTalk, IsAlone, StopsAmong, appended, accepted, after_line, after_lines, text_of, Talk, turn_of, Sealing}
use Rattle.ss_program.proofs.Common.{Each, Status, Done, Usage, RefusedStore, DiskFault, SourceFault, SinkFault, OutOfMemory, InputLimit, RecordChanged, steps}
use Rattle.ss_program.proofs.SendLemmas.{appended-appended, appended-nil}
use Rattle.ss_program.proofs.ReportLemmas.{after_lines-append, text_of-append, text_of-one}
use Rattle.ss_program.proofs.HeldLemmas.{Cuts, acks-done, acks-few, accepted-append, few-events, first-short, new_bytes, none-cut}
use Rattle.ss_program.proofs.ReadLemmas.{AreRead}

-- the image stands for the history after some first lines, to which all was sent, and nothing to others
HoldsAcked-done : (sealing : Sealing) (talk : Talk) (ls read done others more : List (List ℕ)) (bytes : ℕ) (status : Status) (image : List ℕ) →
    ls ≡ done ++ others → read ≡ done ++ more → bytes ≡ length (text_of talk done) → HoldsTalk (after_lines talk done) image →
    (status ≡ Done → others ≡ []) → HoldsAcked sealing talk ls read bytes status image
HoldsAcked-done sealing talk ls read done others more bytes status image are reads is stands end =
    let acked = acks-done talk done others 0 bytes (none-cut (after_lines talk done) others) (omega (arith, is)) in
    rw are (record {
      j = length (accepted talk done);
      stands = first-short talk done others image stands;
      few = few-events talk done others;
      acked = omega (arith, acked);
      within = rw reads (few-events talk done more);
      at_most = λ _. omega (arith, acked);
      all = λ finished. ap (λ l. length (accepted talk l)) (sym (append-nil done) ∙ ap (λ l. done ++ l) (sym (end finished)));
      starved = λ _. omega (arith, acked);
    })

-- it stands for the history after some first lines, and nothing that is said to others was sent
HoldsAcked-beyond : (sealing : Sealing) (talk : Talk) (ls read done others more : List (List ℕ)) (bytes : ℕ) (status : Status) (image : List ℕ) →
    ls ≡ done ++ others → read ≡ done ++ more → bytes ≤ length (text_of talk done) → HoldsTalk (after_lines talk done) image →
    (sealing ≡ Each → length (accepted talk done) ≤ acks talk ls bytes + 1) → (status ≡ Done → ⊥) → (status ≡ OutOfMemory → ⊥) →
    HoldsAcked sealing talk ls read bytes status image
HoldsAcked-beyond sealing talk ls read done others more bytes status image are reads few stands most going fed = record {
  j = length (accepted talk done);
  stands = rw are (first-short talk done others image stands);
  few = rw are (few-events talk done others);
  acked = rw are (acks-few talk done others bytes few);
  within = rw reads (few-events talk done more);
  at_most = most;
  all = λ finished. absurd (going finished);
  starved = λ memory. absurd (fed memory);
}

-- all lines before some others were answered
pub HoldsReported-done : (sealing : Sealing) (talk : Talk) (input : List ℕ) (left before after : Option (List ℕ)) (disk : Told) (status : Status)
    (done others : List (List ℕ)) →
    steps talk.form input ≡ done ++ others → AreRead talk.form input left done → after ≡ appended before (text_of talk done) →
    ((image : List ℕ) → disk.may_leave image → HoldsTalk (after_lines talk done) image) → (status ≡ Done → others ≡ []) →
    HoldsReported sealing talk input left before after disk status
HoldsReported-done sealing talk input left before after disk status done others are read sent each end had has is_had is_has image may =
    let held : Some has ≡ appended (appended (Some had) (text_of talk done)) (take 0 []) =
    sym is_has ∙ sent ∙ ap (λ o. appended o (text_of talk done)) is_had ∙ sym (appended-nil (appended (Some had) (text_of talk done))) in
    let bytes = new_bytes had has (text_of talk done) [] 0 held (omega arith) in (
      read.read,
      read.rest,
      read.all,
      read.others,
      HoldsAcked-done sealing talk (steps talk.form input) (steps_within talk.form read.read read.rest) done others read.more
          (length has - length had) status image are
          read.are (omega (arith, bytes)) (each image may) end,
    )

-- one line brings one event at most
one-event : (event : Option Event) → length (the_event event) ≤ 1
one-event None = omega arith
one-event (Some event) = omega arith

accepted-few : (talk : Talk) (ls : List (List ℕ)) → length (accepted talk ls) ≤ length ls
accepted-few talk [] = omega arith
accepted-few talk (line ∷ ls) =
    let event = the_event (turn_of talk line).event in
    let rest = accepted (after_line talk line) ls in
    omega (arith, one-event (turn_of talk line).event, accepted-few (after_line talk line) ls, length-append event rest)

-- whether memory ran out
is_starved : (status : Status) → (status ≡ OutOfMemory) ⊎ (status ≡ OutOfMemory → ⊥)
is_starved OutOfMemory = inl refl
is_starved Done = inr (λ w. cc)
is_starved Usage = inr (λ w. cc)
is_starved RefusedStore = inr (λ w. cc)
is_starved DiskFault = inr (λ w. cc)
is_starved SourceFault = inr (λ w. cc)
is_starved SinkFault = inr (λ w. cc)
is_starved InputLimit = inr (λ w. cc)
is_starved RecordChanged = inr (λ w. cc)

-- how many bytes are new
among_bytes : {sealing : Sealing} (talk : Talk) (ls : List (List ℕ)) (before after : Option (List ℕ)) (disk : Told) (status : Status) (had has : List ℕ)
    (at : StopsAmong sealing talk ls before after disk status) → before ≡ Some had → after ≡ Some has →
    length has - length had ≡ length (text_of talk at.out) + at.bytes
among_bytes talk ls before after disk status had has at is_had is_has =
    let here = text_of talk at.out in
    let text = text_of (after_lines talk at.out) at.now in
    let held : Some has ≡ appended (appended (Some had) here) (take at.bytes text) =
    sym is_has ∙ at.sent ∙ ap (λ o. appended o (here ++ take at.bytes text)) is_had ∙ sym (appended-appended (Some had) here (take at.bytes text)) in
    new_bytes had has here text at.bytes held at.few

-- where less was sent than is said to one line, this is cut
Cuts-alone : (talk : Talk) (now others : List (List ℕ)) (bytes : ℕ) → IsAlone Each talk now bytes → Cuts talk (now ++ others) bytes
Cuts-alone talk [] others bytes alone = absurd (omega (arith, alone.0))
Cuts-alone talk (line ∷ []) others bytes alone = inr (rw text_of-one at alone.1)
Cuts-alone talk (line ∷ next ∷ ls) others bytes alone = absurd (omega (arith, alone.0))

-- so an image of the history after it holds one event at most that isn't acknowledged
one-more : (talk : Talk) (out now done left others : List (List ℕ)) (k bytes : ℕ) → now ≡ done ++ left → IsAlone Each (after_lines talk out) now k →
    bytes ≡ length (text_of talk out) + k →
    length (accepted talk (out ++ done)) ≤ acks talk (out ++ (now ++ others)) bytes + 1
one-more talk out now done left others k bytes are alone is =
    let here = after_lines talk out in
    let acked = acks-done talk out (now ++ others) k bytes (Cuts-alone here now others k alone) is in
    let short = ap (λ (l : List (List ℕ)). length l) are in
    omega (
      arith,
      acked,
      alone.0,
      short,
      length-append done left,
      accepted-few here done,
      ap (λ (es : List Happened). length es) (accepted-append talk out done),
      length-append (accepted talk out) (accepted here done),
    )

HoldsAcked-among : (sealing : Sealing) (talk : Talk) (all ls read others more : List (List ℕ)) (before after : Option (List ℕ)) (disk : Told)
    (status : Status) (bytes : ℕ) (image : List ℕ) (at : StopsAmong sealing talk ls before after disk status) → all ≡ ls ++ others →
    read ≡ ls ++ more → bytes ≡ length (text_of talk at.out) + at.bytes → disk.may_leave image → (status ≡ Done → ⊥) →
    (status ≡ OutOfMemory) ⊎ (status ≡ OutOfMemory → ⊥) → HoldsAcked sealing talk all read bytes status image
HoldsAcked-among sealing talk all ls read others more before after disk status bytes image at are reads is may going (inl memory) =
    let starved = at.starved memory in
    let rest = at.now ++ at.others in
    HoldsAcked-done sealing talk all read at.out (rest ++ others) (rest ++ more) bytes status image
    (are ∙ ap (λ l. l ++ others) at.are ∙ append_assoc at.out rest others) (reads ∙ ap (λ l. l ++ more) at.are ∙ append_assoc at.out rest more)
    (omega (arith, is, starved.0)) (starved.2 image may) (λ finished. absurd (going finished))
HoldsAcked-among sealing talk all ls read others more before after disk status bytes image at are reads is may going (inr fed) =
    let beyond = at.left image may in
    let here = after_lines talk at.out in
    let done = at.out ++ beyond.0 in
    let tail = beyond.1 ++ at.others in
    let same : ls ≡ done ++ tail =
    at.are ∙ ap (λ l. at.out ++ (l ++ at.others)) beyond.2 ∙ ap (λ l. at.out ++ l) (append_assoc beyond.0 beyond.1 at.others)
    ∙ sym (append_assoc at.out beyond.0 tail) in
    let whole : all ≡ at.out ++ (at.now ++ (at.others ++ others)) =
    are ∙ ap (λ l. l ++ others) at.are ∙ append_assoc at.out (at.now ++ at.others) others
    ∙ ap (λ l. at.out ++ l) (append_assoc at.now at.others others) in
    let text = ap (λ (bs : List ℕ). length bs) (text_of-append talk at.out beyond.0) in
    HoldsAcked-beyond sealing talk all read done (tail ++ others) (tail ++ more) bytes status image
    (are ∙ ap (λ l. l ++ others) same ∙ append_assoc done tail others) (reads ∙ ap (λ l. l ++ more) same ∙ append_assoc done tail more)
    (omega (arith, is, beyond.3, text, length-append (text_of talk at.out) (text_of here beyond.0))) (rw after_lines-append beyond.4)
    (λ each. rw whole (one-more talk at.out at.now beyond.0 beyond.1 (at.others ++ others) at.bytes bytes beyond.2 (rw each at at.alone) is)) going fed

pub HoldsReported-stop : (sealing : Sealing) (talk : Talk) (input : List ℕ) (left before after : Option (List ℕ)) (disk : Told) (status : Status)
    (ls others : List (List ℕ)) →
    steps talk.form input ≡ ls ++ others → AreRead talk.form input left ls → StopsAmong sealing talk ls before after disk status → (status ≡ Done → ⊥) →
    HoldsReported sealing talk input left before after disk status
HoldsReported-stop sealing talk input left before after disk status ls others are read at going had has is_had is_has image may = (
  read.read,
  read.rest,
  read.all,
  read.others,
  HoldsAcked-among sealing talk (steps talk.form input) ls (steps_within talk.form read.read read.rest) others read.more before after disk status
      (length has - length had) image
      at are read.are (among_bytes talk ls before after disk status had has at is_had is_has) may going (is_starved status),
)
