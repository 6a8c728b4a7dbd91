-- Calls of one connection, one after another.
use Rattle.std.specs.Prelude.{◌≡◌, ◌++◌, ◌∷◌, [], ℕ, List, All, Option, None, Some, Ok, IfSome, flat_map, length, map, ⊤}
use Rattle.std.specs.List.{position_or_len}
use Rattle.ss_catalog.specs.declared.event.Event.{Event}
use Rattle.ss_command.specs.Grammar.{meaning}
use Rattle.ss_command.specs.Lines.{is_line_end}
use Rattle.ss_command.specs.declared.TheConstants.{LINE_END}
use Rattle.ss_command.specs.declared.command.Command.TheVariants.{Do}
use Rattle.ss_connection.specs.Calls.{SaysFurther, SaysOpen, StagesHeld, bare, without_end}
use Rattle.ss_connection.specs.Typed.{event_brings}
use Rattle.ss_model.specs.History.{Happened}
use Rattle.ss_records.specs.Kept.{RecordsState}
use Rattle.ss_report.specs.declared.reply.Reply.{Reply}
use Rattle.ss_outside.specs.Disk.{DiskView, Told}
use Rattle.ss_outside.specs.Step.{Step}
use Rattle.ss_outside.specs.Verdict.{fine}
use Rattle.ss_program.specs.Line.{History, brings, the_event}
use Rattle.ss_program.specs.declared.rows.Rows.{Rows}
use Rattle.ss_store.specs.Kept.{StoreState}

-- A call that answered: a line, or none where further rows are asked for; what was said, and the rows that are left then; the store and the
-- disk before and after. A typed call has a line that means what it asks for, and its reply is what was said.
pub record Made (D : Type 0) : Type 0 where
  pub line : Option (List ℕ)
  pub said : List ℕ
  pub left : Option Rows
  pub was : StoreState
  pub is : StoreState
  pub old : D
  pub new : D

-- what `call` and `next` ensure of it where nothing is staged, and these rows were left before; a line is called where none are
abbrev pub DidCall : {D : Type 0} → Option (List ℕ) → Made D → Option Rows → Told → Told → Type 0
DidCall None made before old new = SaysFurther before made.was made.is made.said (Ok made.left) old new
DidCall (Some line) made before old new =
    (before ≡ None) × SaysOpen (λ history. brings history (bare line)) made.was made.is made.said (Ok made.left) old new

-- Each call finds the store and the disk as the one before left them.
abbrev pub AreInTurn : {D : Type 0} → (D → DiskView) → List (Made D) → Option Rows → StoreState → D → Option Rows → StoreState → D → Type 0
AreInTurn seen [] before was old after is new = (after ≡ before) × (is ≡ was) × (new ≡ old)
AreInTurn seen (made ∷ more) before was old after is new =
    Step fine (seen made.old) (seen made.new) (DidCall made.line made before)
    × (made.was ≡ was) × (made.old ≡ old) × AreInTurn seen more made.left made.is made.new after is new

-- the texts that were said, one after another
abbrev pub said_in : {D : Type 0} → List (Made D) → List ℕ
said_in {D} calls = flat_map (λ (made : Made D). made.said) calls

-- a line and its line end
abbrev pub ended_line : Option (List ℕ) → List ℕ
ended_line None = []
ended_line (Some line) = without_end line ++ LINE_END ∷ []

-- no line has a line end but at its end
abbrev pub AreLines : {D : Type 0} → List (Made D) → Type 0
AreLines {D} calls = All (λ (made : Made D). IfSome made.line (λ line. position_or_len is_line_end (without_end line) ≡ length (without_end line))) calls

-- the input that has these lines, each with a line end
abbrev pub input_of : {D : Type 0} → List (Made D) → List ℕ
input_of {D} calls = flat_map (λ (made : Made D). ended_line made.line) calls

-- each of these lines means the event at its place
abbrev pub AreMeant : List (List ℕ) → List Event → Type 0
AreMeant [] [] = ⊤
AreMeant [] (event ∷ events) = ⊥
AreMeant (line ∷ ls) [] = ⊥
AreMeant (line ∷ ls) (event ∷ events) = (meaning line ≡ Ok (Some (Do event))) × AreMeant ls events

-- An event that was staged: its reply, and the records of the store and the disk before and after.
pub record MadeStaged (D : Type 0) : Type 0 where
  pub event : Event
  pub reply : Reply
  pub was : RecordsState
  pub is : RecordsState
  pub old : D
  pub new : D

-- Events were staged one after another: what `stage` ensures of each, over the store and the disk as the one before left them.
abbrev pub AreStagedInTurn : {D : Type 0} → (D → DiskView) → List (MadeStaged D) → RecordsState → D → RecordsState → D → Type 0
AreStagedInTurn seen [] was old is new = (is ≡ was) × (new ≡ old)
AreStagedInTurn seen (made ∷ more) was old is new =
    Step fine (seen made.old) (seen made.new) (StagesHeld (λ history. event_brings history made.event) made.was made.is (Ok made.reply))
    × (made.was ≡ was) × (made.old ≡ old) × AreStagedInTurn seen more made.is made.new is new

-- the events and their replies
abbrev pub events_of : {D : Type 0} → List (MadeStaged D) → List Event
events_of {D} calls = map (λ (made : MadeStaged D). made.event) calls

abbrev pub replies_of : {D : Type 0} → List (MadeStaged D) → List Reply
replies_of {D} calls = map (λ (made : MadeStaged D). made.reply) calls

-- the events that are accepted of some after a history, and the replies to all
abbrev pub accepted_events : History → List Event → List Happened
accepted_events history [] = []
accepted_events history (event ∷ events) = let more = the_event (event_brings history event).event in more ++ accepted_events (history ++ more) events

abbrev pub event_replies : History → List Event → List Reply
event_replies history [] = []
event_replies history (event ∷ events) =
    let here = event_brings history event in here.replies ++ event_replies (history ++ the_event here.event) events
