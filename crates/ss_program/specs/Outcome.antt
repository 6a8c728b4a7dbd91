-- What a run over an input leaves, by its status.
use Rattle.std.specs.Prelude.{◌≡◌, ◌⊎◌, ℕ, ◌+◌, ◌-◌, ◌<◌, ◌≤◌, ◌++◌, ◌∷◌, List, [], take, drop}
use Rattle.std.specs.Prelude.{length, IfOk, IfErr, OnErr, Option, Some, Result}
use Rattle.ss_outside.specs.Crash.{LeavesOnly}
use Rattle.ss_outside.specs.Disk.{NothingPending, Told}
use Rattle.ss_outside.specs.Source.{RoseBy}
use Rattle.ss_outside.specs.Verdict.{Counted}
use Rattle.ss_store.specs.Recover.{Stands}
use Rattle.ss_store.specs.Uses.{StandsShort}
use Rattle.ss_program.specs.declared.running.TheConstants.{LONGEST_INPUT}
use Rattle.ss_arguments.specs.declared.mode.Sealing.{Sealing}
use Rattle.ss_arguments.specs.declared.mode.Form.{Form}
use Rattle.ss_program.specs.declared.status.Status.{Status}
use Rattle.ss_program.specs.declared.status.Status.TheVariants.{Done, DiskFault, SourceFault, SinkFault, OutOfMemory, InputLimit}
use Rattle.ss_program.specs.Held.{HoldsAcked}
use Rattle.ss_program.specs.Line.{History}
use Rattle.ss_program.specs.Progress.{GoesOn, OfTaken, InputRunState, StandsWithin, StopsAmong, StopsIn}
use Rattle.ss_program.specs.Sent.{appended, AppendsFront}
use Rattle.ss_program.specs.Report.{accepted, report, report_so_far}
use Rattle.ss_program.specs.Status.{ended, source_verdict}
use Rattle.ss_program.specs.Steps.{steps, steps_so_far}
use Rattle.ss_program.specs.Talk.{Talk, begun_over}

-- some bytes of the input were taken, at most as many as an input may have, and the others are left
pub record Took (input : List ℕ) (left : Option (List ℕ)) (taken rest : List ℕ) : Type 0 where
  pub all : taken ++ rest ≡ input
  pub others : left ≡ Some rest
  pub few : length taken ≤ LONGEST_INPUT

-- the steps that have ended within the bytes taken: where none are left, the last one has too
abbrev pub steps_within : Form → List ℕ → List ℕ → List (List ℕ)
steps_within form taken [] = steps form taken
steps_within form taken (b ∷ rest) = steps_so_far form taken

-- a run stopped among the lines that had ended within the bytes taken
abbrev pub Stopped : Sealing → Talk → List ℕ → Option (List ℕ) → Option (List ℕ) → Option (List ℕ) → Told → Status → Type 0
Stopped sealing talk input left before after disk status =
    (taken : List ℕ) × (rest : List ℕ) × Took input left taken rest × StopsAmong sealing talk (steps_within talk.form taken rest) before after disk status

-- a run ended where its store wasn't open yet
abbrev pub NotBegun : List ℕ → Option (List ℕ) → Option (List ℕ) → Option (List ℕ) → Type 0
NotBegun input left before after = (left ≡ Some input) × (after ≡ before)

-- The report: the sink's new bytes are a front of the report of the input. Done, they are all of it. Where the source failed, or
-- the input is too long, they are the replies to the lines that ended within the bytes taken. Where the sink failed, the run
-- stopped among such lines, and where the disk failed or memory ran out, there or in opening the store.
pub record Reports (sealing : Sealing) (talk : Talk) (input : List ℕ) (left before after : Option (List ℕ)) (disk : Told) (status : Status) : Type 0 where
  pub front : AppendsFront before after (report talk input)
  pub whole : status ≡ Done → after ≡ appended before (report talk input)
  pub broken : status ≡ DiskFault → NotBegun input left before after ⊎ Stopped sealing talk input left before after disk DiskFault
  pub faulted : status ≡ SourceFault →
      (taken : List ℕ) × (rest : List ℕ) × Took input left taken rest × (after ≡ appended before (report_so_far talk taken))
  pub cut : status ≡ SinkFault → Stopped sealing talk input left before after disk SinkFault
  pub starved : status ≡ OutOfMemory → NotBegun input left before after ⊎ Stopped sealing talk input left before after disk OutOfMemory
  pub limited : status ≡ InputLimit → after ≡ appended before (report_so_far talk (take LONGEST_INPUT input))

-- the first bytes of the input were read, at most so many
pub record Moved (most : ℕ) (input : List ℕ) (left : Option (List ℕ)) : Type 0 where
  pub count : ℕ
  pub few : count ≤ most
  pub within : count ≤ length input
  pub others : left ≡ Some (drop count input)

-- What was read: never more than an input may have and one byte more. Done, the input to its end; where it is too long, so many.
pub record Reads (input : List ℕ) (left : Option (List ℕ)) (status : Status) : Type 0 where
  pub few : Moved (LONGEST_INPUT + 1) input left
  pub whole : status ≡ Done → (length input ≤ LONGEST_INPUT) × (left ≡ Some [])
  pub limit : status ≡ InputLimit → (LONGEST_INPUT < length input) × (left ≡ Some (drop (LONGEST_INPUT + 1) input))

-- The same over every source, by its counts of bytes taken before and after: never more than an input may have and one byte more.
-- Done, no more than an input may have; where it is too long, so many and one more.
pub record TakesFew (before now : ℕ) (status : Status) : Type 0 where
  pub few : now ≤ before + (LONGEST_INPUT + 1)
  pub whole : status ≡ Done → now ≤ before + LONGEST_INPUT
  pub limit : status ≡ InputLimit → RoseBy (LONGEST_INPUT + 1) before now

-- the image holds the acknowledged events, those whose replies are whole within so many bytes of the report, and at most so many more
-- as may be on their way
abbrev pub HoldsBy : Sealing → Talk → List ℕ → Option (List ℕ) → ℕ → Status → List ℕ → Type 0
HoldsBy sealing talk input left bytes status image =
    (read : List ℕ) × (rest : List ℕ) × (read ++ rest ≡ input) × (left ≡ Some rest)
    × HoldsAcked sealing talk (steps talk.form input) (steps_within talk.form read rest) bytes status image

-- each image does, by the sink's new bytes
abbrev pub HoldsReported : Sealing → Talk → List ℕ → Option (List ℕ) → Option (List ℕ) → Option (List ℕ) → Told → Status → Type 0
HoldsReported sealing talk input left before after disk status =
    (had has : List ℕ) → before ≡ Some had → after ≡ Some has →
    (image : List ℕ) → disk.may_leave image → HoldsBy sealing talk input left (length has - length had) status image

-- What a session over an input leaves, of its report and of the disk.
pub record Serves (sealing : Sealing) (talk : Talk) (input : List ℕ) (left before after : Option (List ℕ)) (old new : Told)
    (status : Status) : Type 0 where
  pub report : Reports sealing talk input left before after new status
  pub kept : HoldsReported sealing talk input left before after new status
  pub any_moment : LeavesOnly old new (StandsWithin talk (steps talk.form input))
  pub whole : status ≡ Done → Stands (talk.history ++ accepted talk (steps talk.form input)) new.content

-- A run over an input: what it leaves for each history for which the content stands, with nothing pending, and where it is asked how long the
-- file gets, by how many slots it used before.
abbrev pub ServesInput : Form → Sealing → List ℕ → Option (List ℕ) → Option (List ℕ) → Option (List ℕ) → Status → Told → Told → Type 0
ServesInput form sealing input left before after status old new =
    NothingPending old → (used : Option ℕ) (history : History) → StandsShort used history old.content →
    Serves sealing (begun_over used form history) input left before after old new status

-- What reading a piece leaves of the source, of at most `room` bytes and as many as the buffer holds: its count of faults rose exactly where it
-- is blamed, and nothing else was done then. How many bytes were taken is told of every source, and what is left of one that tells.
pub record FeedsPiece (room holds : ℕ) (same : Type 0) (left rest : Option (List ℕ)) (faults_before faults taken_before taken : ℕ)
    (result : Result ℕ Status) : Type 0 where
  pub counted : Counted (source_verdict (ended result)) faults_before faults
  pub fault : ended result ≡ SourceFault → (rest ≡ left) × same
  pub count : IfOk result (λ count. (count ≤ room) × (count ≤ holds) × RoseBy count taken_before taken)
  pub few : taken ≤ taken_before + room
  pub moves : IfOk result (λ count. (bytes : List ℕ) → left ≡ Some bytes → (count ≤ length bytes) × (count ≡ 0 → bytes ≡ [])
      × (rest ≡ Some (drop count bytes)))
  pub stopped : OnErr result ((bytes : List ℕ) → left ≡ Some bytes → Moved room bytes rest)

-- A session reads a piece of at most `room` bytes of the input, or the run stops among the lines that end in it.
pub record ReadsPiece (room : ℕ) (from to : InputRunState) (left rest held after : Option (List ℕ)) (result : Result ℕ Status)
    (old new : Told) : Type 0 where
  pub goes : IfOk result (λ count. (bytes : List ℕ) → left ≡ Some bytes → OfTaken from held old (λ sealing talk before input.
      GoesOn sealing talk old new to before after (input ++ take count bytes)))
  pub stops : IfErr result (λ status. (status ≡ SourceFault → ⊥) → (bytes : List ℕ) → left ≡ Some bytes →
      OfTaken from held old (λ sealing talk before input. (count : ℕ) × (count ≤ room) × (count ≤ length bytes)
      × (rest ≡ Some (drop count bytes)) × StopsIn sealing talk (steps_so_far talk.form (input ++ take count bytes)) old new before after status))
