-- How far a session has come, and where it stops.
use Rattle.std.specs.Prelude.{◌≡◌, ◌⊎◌, ℕ, ◌<◌, ◌≤◌, ◌++◌, List, [], ◌∷◌, length, take, Option, IsSome, IsTrue, IfOk, IfErr, Result, ⊤}
use Rattle.ss_outside.specs.Crash.{LeavesOnly}
use Rattle.ss_outside.specs.Disk.{Told, NothingPending}
use Rattle.ss_store.specs.Kept.{StoreState}
use Rattle.ss_store.specs.Recover.{Stands}
use Rattle.ss_store.specs.Uses.{StandsShort}
use Rattle.ss_program.specs.Line.{Brought, History, history_after, text_brought}
use Rattle.ss_program.specs.Sent.{appended, StopsSaying}
use Rattle.ss_program.specs.Steps.{kept_so_far, steps, steps_so_far}
use Rattle.ss_program.specs.Report.{after_lines, text_of, report_so_far}
use Rattle.ss_program.specs.Talk.{Talk, turn_of}
use Rattle.ss_sessions.specs.Cursors.{Cursors}
use Rattle.ss_arguments.specs.declared.mode.Form.{Form}
use Rattle.ss_arguments.specs.declared.mode.Sealing.{Sealing}
use Rattle.ss_arguments.specs.declared.mode.Sealing.TheVariants.{Each, Shared}
use Rattle.ss_program.specs.declared.replies.Seals.{Seals}
use Rattle.ss_program.specs.declared.replies.Seals.TheVariants as seal
use Rattle.ss_program.specs.declared.status.Status.{Status}
use Rattle.ss_program.specs.declared.status.Status.TheVariants.{Done, OutOfMemory}

-- what contracts see of a session: the form of its input, its store, what is kept of the line that is under way, the cursors, and how events
-- are sealed, with the replies that wait for that
pub record InputRunState : Type 0 where
  pub form : Form
  pub store : StoreState
  pub line : Option (List ℕ)
  pub cursors : Cursors
  pub waiting : Seals

-- which events come to the disk together
abbrev pub sealing_by : Seals → Sealing
sealing_by seal.Each = Each
sealing_by (seal.Shared replies) = Shared

-- the image stands for the history of a conversation, and is no longer than that allows
abbrev pub HoldsTalk : Talk → List ℕ → Type 0
HoldsTalk talk image = StandsShort talk.used talk.history image

-- no reply waits
abbrev pub NoneWait : Seals → Type 0
NoneWait seal.Each = ⊤
NoneWait (seal.Shared replies) = replies ≡ []

-- After a conversation began the session has taken these bytes: the disk stands for the history before with the events accepted since,
-- with nothing pending, and the line under way is what no line end has ended.
pub record HasTaken (sealing : Sealing) (talk : Talk) (disk : Told) (session : InputRunState) (taken : List ℕ) : Type 0 where
  pub stands : HoldsTalk (after_lines talk (steps_so_far talk.form taken)) disk.content
  pub durable : NothingPending disk
  pub line : session.line ≡ kept_so_far talk.form taken
  pub unsaid : NoneWait session.waiting
  pub seals : sealing_by session.waiting ≡ sealing
  pub form : session.form ≡ talk.form
  pub cursors : session.cursors ≡ (after_lines talk (steps_so_far talk.form taken)).cursors

-- and the sink got what is said to all lines that have ended
abbrev pub HasReplied : Talk → Option (List ℕ) → Option (List ℕ) → List ℕ → Type 0
HasReplied talk before held taken = held ≡ appended before (report_so_far talk taken)

-- the image stands for the history before what a line brings, or for the one after it
abbrev pub StandsAround : History → Brought → List ℕ → Type 0
StandsAround history brought image = Stands history image ⊎ Stands (history_after history brought) image

-- the image stands for the history after some first lines of these, and is no longer than that allows
abbrev pub StandsWithin : Talk → List (List ℕ) → List ℕ → Type 0
StandsWithin talk ls image =
    (done : List (List ℕ)) × (others : List (List ℕ)) × (ls ≡ done ++ others) × HoldsTalk (after_lines talk done) image

-- From one moment on to another a session took further bytes: a crash left only images of some first lines.
pub record GoesOn (sealing : Sealing) (talk : Talk) (old new : Told) (session : InputRunState) (before held : Option (List ℕ)) (taken : List ℕ) : Type 0
  where
    pub at : HasTaken sealing talk new session taken
    pub replied : HasReplied talk before held taken
    pub any_moment : LeavesOnly old new (StandsWithin talk (steps_so_far talk.form taken))

-- What is left in the sink of what a line brings at which a run stops. Where the sink or the disk failed, it got less than
-- the text of it. Memory runs out before any reply to the line, and only at one that brings an event.
abbrev pub StopsWith : Brought → Option (List ℕ) → Option (List ℕ) → Status → Type 0
StopsWith brought before after status = StopsSaying (text_brought brought) (IsSome brought.event) before after status

-- the image stands for the history after some first lines of these, to which at least so many bytes are said
abbrev pub StandsBeyond : Talk → List (List ℕ) → ℕ → List ℕ → Type 0
StandsBeyond talk ls bytes image =
    (done : List (List ℕ)) × (others : List (List ℕ)) × (ls ≡ done ++ others) × (bytes ≤ length (text_of talk done))
    × HoldsTalk (after_lines talk done) image

-- the first of these lines may want memory
abbrev pub BeginsWithWant : Talk → List (List ℕ) → Type 0
BeginsWithWant talk [] = ⊥
BeginsWithWant talk (line ∷ ls) = IsTrue (turn_of talk line).wants_memory

-- Where each event is sealed by itself, these are one line, and so many bytes are less than what is said to it.
abbrev pub IsAlone : Sealing → Talk → List (List ℕ) → ℕ → Type 0
IsAlone Each talk now bytes = (length now ≡ 1) × (bytes < length (text_of talk now))
IsAlone Shared talk now bytes = ⊤

-- A run stopped at some of these lines: what is said to those before was sent, and so many bytes of what is said to these. A crash leaves
-- the history after some first of them, and nothing that is said to one after these was sent, not even in part. Where memory ran out,
-- nothing was sent of what is said to the first of them, which may want memory, and a crash leaves the history before it.
pub record StopsAmong (sealing : Sealing) (talk : Talk) (ls : List (List ℕ)) (before after : Option (List ℕ)) (disk : Told) (status : Status) : Type 0
  where
    pub out : List (List ℕ)
    pub now : List (List ℕ)
    pub others : List (List ℕ)
    pub are : ls ≡ out ++ (now ++ others)
    pub bytes : ℕ
    pub few : bytes ≤ length (text_of (after_lines talk out) now)
    pub alone : IsAlone sealing (after_lines talk out) now bytes
    pub sent : after ≡ appended before (text_of talk out ++ take bytes (text_of (after_lines talk out) now))
    pub left : (image : List ℕ) → disk.may_leave image → StandsBeyond (after_lines talk out) now bytes image
    pub starved : status ≡ OutOfMemory →
        (bytes ≡ 0) × BeginsWithWant (after_lines talk out) now
        × ((image : List ℕ) → disk.may_leave image → HoldsTalk (after_lines talk out) image)

-- From one moment on to another a session took further lines, and stopped at some of these.
pub record StopsIn (sealing : Sealing) (talk : Talk) (ls : List (List ℕ)) (old new : Told) (before after : Option (List ℕ)) (status : Status) : Type 0
  where
    pub at : StopsAmong sealing talk ls before after new status
    pub any_moment : LeavesOnly old new (StandsWithin talk ls)

-- From one moment on to another a session took further lines, and ended with the last of these: all were answered, and the
-- disk stands for the history after them.
pub record EndsWell (talk : Talk) (ls : List (List ℕ)) (old new : Told) (before after : Option (List ℕ)) : Type 0 where
  pub stands : HoldsTalk (after_lines talk ls) new.content
  pub durable : NothingPending new
  pub replied : after ≡ appended before (text_of talk ls)
  pub any_moment : LeavesOnly old new (StandsWithin talk ls)

-- What a session says of a conversation and an input at the start of a call, where it has taken these bytes and the sink got what is said
-- to the lines of them.
abbrev pub OfTaken : InputRunState → Option (List ℕ) → Told → (Sealing → Talk → Option (List ℕ) → List ℕ → Type 0) → Type 0
OfTaken session held disk P =
    (sealing : Sealing) (talk : Talk) (before : Option (List ℕ)) (input : List ℕ) → HasTaken sealing talk disk session input →
    HasReplied talk before held input → P sealing talk before input

-- A session takes bytes of a piece of the input, by the answer so many, or the run stops at lines that end in the piece.
pub record TakesPiece {T : Type 0} (moved : T → List ℕ) (piece : List ℕ) (from to : InputRunState) (held after : Option (List ℕ))
    (result : Result T Status) (old new : Told) : Type 0 where
  pub goes : IfOk result (λ value. OfTaken from held old (λ sealing talk before input.
      GoesOn sealing talk old new to before after (input ++ moved value)))
  pub stops : IfErr result (λ status. OfTaken from held old (λ sealing talk before input.
      StopsIn sealing talk (steps_so_far talk.form (input ++ piece)) old new before after status))

-- A session ends its input: all lines are answered, or the run stops among the last ones.
pub record EndsInputRun (from : InputRunState) (held after : Option (List ℕ)) (status : Status) (old new : Told) : Type 0 where
  pub done : status ≡ Done → OfTaken from held old (λ sealing talk before input. EndsWell talk (steps talk.form input) old new before after)
  pub stops : (status ≡ Done → ⊥) → OfTaken from held old (λ sealing talk before input.
      StopsIn sealing talk (steps talk.form input) old new before after status)
