-- What opening the store has to do with what a run leaves.
use Rattle.ss_program.proofs.Common.{◌≡◌, ◌⊎◌, inl, inr, ℕ, List, [], Option, Some, Ok, Err, refl, sym, ap, ◌∙◌, arith, joined, now, weaker, KnowsNow}
use Rattle.ss_program.proofs.Common.{common_steps, LeavesOnly, Told, Stream, state, OpensAs, Recovers, Stands, no_store, damaged_entry, damaged_slot}
use Rattle.ss_program.proofs.Common.{damaged_stream, recovers, SurveysAs, survey_of, OpenError, Survey, Reads, Serves, StandsWithin, HoldsTalk, AsRefused}
use Rattle.ss_program.proofs.Common.{status_of_open, Talk, Sealing, Status, Done, DiskFault, SourceFault, SinkFault, OutOfMemory, InputLimit, steps}
use Rattle.ss_program.proofs.HoldsLemmas.{HoldsReported-done}
use Rattle.ss_program.proofs.ReadLemmas.{AreRead-none, Reads-stop}
use Rattle.ss_program.proofs.SendLemmas.{appended-nil}
use Rattle.ss_store.specs.declared.error.OpenError.TheVariants as opening

-- What opening the store left comes before what serving leaves.
pub Serves-opened : {sealing : Sealing} {talk : Talk} {input : List ℕ} {left before after : Option (List ℕ)} {old mid new : Told} {status : Status} →
    LeavesOnly old mid (HoldsTalk talk) → Serves sealing talk input left before after mid new status →
    Serves sealing talk input left before after old new status
Serves-opened {talk = talk} {input = input} {old = old} {mid = mid} {new = new} opened serves = record {
  report = serves.report;
  kept = serves.kept;
  any_moment = joined old mid new (StandsWithin talk (steps talk.form input))
      (weaker old mid (HoldsTalk talk) (StandsWithin talk (steps talk.form input)) (λ image is. ([], steps talk.form input, refl, is)) opened)
      serves.any_moment;
  whole = serves.whole;
}

unopened-other : {A : Type 0} {status : Status} (other : Status) → (DiskFault ≡ other → ⊥) → (OutOfMemory ≡ other → ⊥) →
    ((status ≡ DiskFault) ⊎ (status ≡ OutOfMemory)) → status ≡ other → A
unopened-other other one two (inl how) is = absurd (one (sym how ∙ is))
unopened-other other one two (inr how) is = absurd (two (sym how ∙ is))

-- the store wasn't opened, and nothing was said of it
pub Serves-unopened : {sealing : Sealing} {talk : Talk} {input : List ℕ} {left before after : Option (List ℕ)} {old new : Told} {status : Status} →
    ((status ≡ DiskFault) ⊎ (status ≡ OutOfMemory)) → left ≡ Some input → after ≡ before → KnowsNow new → LeavesOnly old new (HoldsTalk talk) →
    Serves sealing talk input left before after old new status
Serves-unopened {sealing = sealing} {talk = talk} {input = input} {left = left} {before = before} {after = after} {old = old} {new = new} {status = status}
    how still same knows opened =
    let held = same ∙ sym (appended-nil before) in
    record {
      report = record {
        front = (0, held);
        whole = λ is. unopened-other Done (λ w. cc) (λ w. cc) how is;
        broken = λ _. inl (still, same);
        faulted = λ is. unopened-other SourceFault (λ w. cc) (λ w. cc) how is;
        cut = λ is. unopened-other SinkFault (λ w. cc) (λ w. cc) how is;
        starved = λ _. inl (still, same);
        limited = λ is. unopened-other InputLimit (λ w. cc) (λ w. cc) how is;
      };
      kept = HoldsReported-done sealing talk input left before after new status [] (steps talk.form input) refl (AreRead-none talk.form input left still) held
          (now old new (HoldsTalk talk) knows opened) (λ is. unopened-other Done (λ w. cc) (λ w. cc) how is);
      any_moment = weaker old new (HoldsTalk talk) (StandsWithin talk (steps talk.form input)) (λ image is. ([], steps talk.form input, refl, is)) opened;
      whole = λ is. unopened-other Done (λ w. cc) (λ w. cc) how is;
    }

-- Nothing was said of a content that recovers to streams, where it wasn't opened, and the disk failed or memory ran out.
unopened-how : (content : List ℕ) (streams : List Stream) {before after : Option (List ℕ)} (k l : ℕ) (error : OpenError) → Recovers streams content →
    OpensAs content (Err error) → AsRefused error before after k l →
    ((status_of_open error ≡ DiskFault) ⊎ (status_of_open error ≡ OutOfMemory)) × (after ≡ before)
unopened-how content streams k l opening.Disk is opens said = (inl refl, said.0)
unopened-how content streams k l opening.OutOfMemory is opens said = (inr refl, said.0)
unopened-how content streams k l opening.NotAStore is opens said = let wrong : no_store ≡ recovers streams = sym opens ∙ is in cc
unopened-how content streams k l (opening.BadEntry n) is opens said = let wrong : damaged_entry n ≡ recovers streams = sym opens ∙ is in cc
unopened-how content streams k l (opening.BadSlot n) is opens said = let wrong : damaged_slot n ≡ recovers streams = sym opens ∙ is in cc
unopened-how content streams k l (opening.BadStream id) is opens said = let wrong : damaged_stream id ≡ recovers streams = sym opens ∙ is in cc
unopened-how content streams k l (opening.Changed slot) is opens said = absurd opens

-- and what a run leaves
pub Serves-refused : {sealing : Sealing} {talk : Talk} {input : List ℕ} {left before after : Option (List ℕ)} {old new : Told} (had has : ℕ)
    (error : OpenError) → OpensAs old.content (Err error) → Stands talk.history old.content → AsRefused error before after had has → left ≡ Some input →
    KnowsNow new → LeavesOnly old new (HoldsTalk talk) → Serves sealing talk input left before after old new (status_of_open error)
Serves-refused {talk = talk} {old = old} had has error opens stands said still knows opened =
    let how = unopened-how old.content (state talk.history) had has error stands.state opens said in Serves-unopened how.0 still how.1 knows opened

-- and what was read then: nothing
pub unopened-status : (error : OpenError) → (status_of_open error ≡ Done → ⊥) × (status_of_open error ≡ InputLimit → ⊥)
unopened-status error = (λ is. grind (arith, common_steps), λ is. grind (arith, common_steps))

pub Reads-refused : (input : List ℕ) (left : Option (List ℕ)) (error : OpenError) → left ≡ Some input → Reads input left (status_of_open error)
Reads-refused input left error is =
    let other = unopened-status error in
    Reads-stop input left (status_of_open error) other.0 other.1 (record { count = 0; few = omega arith; within = omega arith; others = is })

-- and where there was no memory for a session
pub Reads-none : (input : List ℕ) (left : Option (List ℕ)) → left ≡ Some input → Reads input left OutOfMemory
Reads-none input left is =
    Reads-stop input left OutOfMemory (λ w. cc) (λ w. cc) (record { count = 0; few = omega arith; within = omega arith; others = is })

-- Nothing was said of a store that isn't refused, and the run isn't done nor blames the sink, where it wasn't opened.
pub unopened : (content : List ℕ) (streams : List Stream) {before after : Option (List ℕ)} (k l : ℕ) (error : OpenError) → Recovers streams content →
    OpensAs content (Err error) → AsRefused error before after k l → (after ≡ before) × (status_of_open error ≡ Done → ⊥)
unopened content streams k l error is opens said =
    let how = unopened-how content streams k l error is opens said in (how.1, unopened-other Done (λ w. cc) (λ w. cc) how.0)

-- what is said of the streams to which the content recovers
pub surveyed : (content : List ℕ) (streams : List Stream) (survey : Survey) → SurveysAs content (Ok survey) → Recovers streams content →
    survey ≡ survey_of streams
surveyed content streams survey surveys is =
    let same : recovers surveys.0 ≡ recovers streams = sym surveys.1 ∙ is in
    let one : surveys.0 ≡ streams = cc in
    surveys.2 ∙ ap (λ ss. survey_of ss) one
