-- Runs of the program over one file, one after the other, whatever ends each of them.
use Rattle.std.specs.Prelude.{◌≡◌, ℕ, ◌+◌, ◌-◌, ◌≤◌, ◌++◌, Bool, List, [], ◌∷◌, length, take, IsTrue, Option, Some, None, Result, ⊤}
use Rattle.ss_arguments.specs.declared.mode.Form.{Form}
use Rattle.ss_arguments.specs.declared.mode.Mode.{Mode}
use Rattle.ss_arguments.specs.declared.mode.Mode.TheVariants.{Serve, Check, Gen}
use Rattle.ss_arguments.specs.declared.mode.Sealing.{Sealing}
use Rattle.ss_arguments.specs.declared.mode.Sealing.TheVariants.{Each, Shared}
use Rattle.ss_journal.specs.Calls.{MakesChecked}
use Rattle.ss_model.specs.History.{Happened}
use Rattle.ss_outside.specs.Disk.{DiskView, NothingPending, Told}
use Rattle.ss_outside.specs.Step.{Step}
use Rattle.ss_outside.specs.Verdict.{verdict}
use Rattle.ss_outside.specs.declared.source.Failed.{Failed}
use Rattle.ss_program.specs.Devices.{over}
use Rattle.ss_program.specs.Generated.{generated_lines}
use Rattle.ss_program.specs.Line.{History}
use Rattle.ss_program.specs.Outcome.{steps_within}
use Rattle.ss_program.specs.Promises.{ChecksBy, FinishesBy, GeneratesBy, ServesBy}
use Rattle.ss_program.specs.Report.{accepted}
use Rattle.ss_program.specs.Status.{exit_number}
use Rattle.ss_program.specs.Steps.{steps}
use Rattle.ss_program.specs.Talk.{begun, plain_talk}
use Rattle.ss_program.specs.declared.status.Status.{Status}
use Rattle.ss_program.specs.declared.status.Status.TheVariants.{Done, OutOfMemory}
use Rattle.ss_promises.specs.Acked.{oks}

-- How a run comes to its end: by itself; by a crash, where it is known what its sink had got by then; or by a crash at some moment, of which
-- nothing is known but the image. A run of which the sink is known is seen as one whose disk fails each call from the crash on.
pub data Ending : Type 0 where
  by_itself : Ending
  by_crash : List ℕ → Ending
  at_a_moment : Ending

-- whether it is known what the sink had got
abbrev pub IsKnown : Ending → Type 0
IsKnown by_itself = ⊤
IsKnown (by_crash got) = ⊤
IsKnown at_a_moment = ⊥

-- What a run may leave in the file whose disk told these before and after, and whose sink has this after it: an image of a crash after it, of
-- which its content is one, or one of a crash at some moment of it. What the sink had got by a crash is a front of what it has.
abbrev pub IsLeftBy : Ending → Told → Told → List ℕ → List ℕ → Type 0
IsLeftBy by_itself old new has image = new.may_leave image
IsLeftBy (by_crash got) old new has image = new.may_leave image × ((more : List ℕ) × (has ≡ got ++ more))
IsLeftBy at_a_moment old new has image = new.left_since old.moment image

-- how many bytes of it the sink had got by then
abbrev pub bytes_by : Ending → List ℕ → List ℕ → ℕ
bytes_by by_itself had has = length has - length had
bytes_by (by_crash got) had has = length got - length had
bytes_by at_a_moment had has = 0

-- what is called over a file: a run, by what its arguments ask for, or the call that makes a store a checked one, with its answer
pub data Called : Type 0 where
  a_run : Option Mode → Called
  making : Result Bool Failed → Called

-- One call among others over a file: which it is, its disk before and after, its input, what its source has left and what its sink holds
-- before and after, its status, how it comes to its end, and the image that it leaves.
pub record Link (D : Type 0) : Type 0 where
  pub called : Called
  pub old : D
  pub new : D
  pub input : List ℕ
  pub rest : Option (List ℕ)
  pub had : List ℕ
  pub has : List ℕ
  pub status : Status
  pub ending : Ending
  pub image : List ℕ

-- It is a run of the program: what `run` ensures of its disk.
pub record IsRun {D : Type 0} (seen : D → DiskView) (link : Link D) (mode : Option Mode) : Type 0 where
  pub serves : ServesBy mode (seen link.old) (seen link.new) (Some link.input) link.rest (Some link.had) (Some link.has) (exit_number link.status)
  pub checks : ChecksBy mode (seen link.old) (seen link.new) (Some link.had) (Some link.has) (exit_number link.status)
  pub generates : GeneratesBy mode (seen link.old) (seen link.new) (Some link.had) (Some link.has) (exit_number link.status)
  pub undone : mode ≡ None → link.new ≡ link.old
  pub faults : ℕ
  pub faulted : ℕ
  pub ends : FinishesBy mode (over (seen link.old) (Some link.had) faults) (over (seen link.new) (Some link.has) faulted) (exit_number link.status)

-- It is what was called.
abbrev pub IsCalled : {D : Type 0} → (D → DiskView) → Link D → Called → Type 0
IsCalled seen link (a_run mode) = IsRun seen link mode
IsCalled seen link (making result) = Step (verdict result) (seen link.old) (seen link.new) (MakesChecked result)

-- It begins over a file with these bytes: its disk tells that it holds them, with nothing pending.
pub record StartsFrom {D : Type 0} (seen : D → DiskView) (link : Link D) (bytes : List ℕ) : Type 0 where
  pub tells : IsTrue (seen link.old).tells
  pub content : (seen link.old).told.content ≡ bytes
  pub durable : NothingPending (seen link.old).told

-- A call over a file with these bytes, and what it leaves.
pub record IsLink {D : Type 0} (seen : D → DiskView) (link : Link D) (first : List ℕ) : Type 0 where
  pub runs : IsCalled seen link link.called
  pub starts : StartsFrom seen link first
  pub left : IsLeftBy link.ending (seen link.old).told (seen link.new).told link.has link.image

-- The runs go over one file, each over what the one before left: it had these bytes first, and has those last.
abbrev pub AreLinked : {D : Type 0} → (D → DiskView) → List (Link D) → List ℕ → List ℕ → Type 0
AreLinked seen [] first last = last ≡ first
AreLinked seen (link ∷ links) first last = IsLink seen link first × AreLinked seen links link.image last

-- the events that are accepted in a run after a history: those of its input, or of the generated file
abbrev pub accepted_of : Called → List ℕ → History → List Happened
accepted_of (a_run (Some (Serve form sealing))) input history = accepted (begun form history) (steps form input)
accepted_of (a_run (Some Check)) input history = []
accepted_of (a_run (Some (Gen seed count))) input history = accepted (plain_talk history) (generated_lines seed count)
accepted_of (a_run None) input history = []
accepted_of (making result) input history = []

-- how many of them are acknowledged by so many bytes to the sink: none by itself where there is no input
abbrev pub acked_of : Called → List ℕ → ℕ → History → ℕ
acked_of (a_run (Some (Serve form sealing))) input bytes history = oks (begun form history) (steps form input) bytes
acked_of called input bytes history = 0

-- the events of a run; how many of them were acknowledged by its end, and how many by all that its sink has
abbrev pub offered_in : {D : Type 0} → Link D → History → List Happened
offered_in link history = accepted_of link.called link.input history

abbrev pub acked_in : {D : Type 0} → Link D → History → ℕ
acked_in link history = acked_of link.called link.input (bytes_by link.ending link.had link.has) history

abbrev pub acked_after : {D : Type 0} → Link D → History → ℕ
acked_after link history = acked_of link.called link.input (length link.has - length link.had) history

-- so many events are no more than were accepted of the lines that a run over an input of this form read
abbrev pub AreOfRead : {D : Type 0} → Link D → Form → History → ℕ → Type 0
AreOfRead link form history j =
    (read others : List ℕ) × (read ++ others ≡ link.input) × (link.rest ≡ Some others)
    × (j ≤ length (accepted (begun form history) (steps_within form read others)))

-- A run takes one history on to the next by some first of its accepted events: all that were acknowledged by its end. Where it is known what
-- its sink has, there is at most one more where each is sealed by itself, and in a batch none but those of the lines that were read; done, by
-- all; where memory ran out, by those that were acknowledged. Of a crash at some moment none is known to be.
pub record Extends {D : Type 0} (link : Link D) (history next : History) : Type 0 where
  pub j : ℕ
  pub is : next ≡ history ++ take j (offered_in link history)
  pub few : j ≤ length (offered_in link history)
  pub acked : acked_in link history ≤ j
  pub at_most : IsKnown link.ending → (form : Form) → link.called ≡ a_run (Some (Serve form Each)) → j ≤ acked_after link history + 1
  pub in_batch : IsKnown link.ending → (form : Form) → link.called ≡ a_run (Some (Serve form Shared)) → AreOfRead link form history j
  pub done : IsKnown link.ending → link.status ≡ Done → j ≡ length (offered_in link history)
  pub starved : IsKnown link.ending → (form : Form) (sealing : Sealing) → link.called ≡ a_run (Some (Serve form sealing)) →
      link.status ≡ OutOfMemory → j ≡ acked_after link history

-- and some in a row
abbrev pub ExtendsAll : {D : Type 0} → List (Link D) → History → History → Type 0
ExtendsAll [] history last = last ≡ history
ExtendsAll (link ∷ links) history last = (next : History) × Extends link history next × ExtendsAll links next last
