-- Calls one after another, and a run over their lines.
use Rattle.std.specs.List.{position_or_len}
use Rattle.std.specs.Prelude.{IfSome}
use Rattle.std.proofs.lemmas.List.Elements.{All-cons, All-head, All-nil, All-tail}
use Rattle.ss_command.proofs.LineLemmas.{lines_so_far-line_end, unended-line_end}
use Rattle.ss_command.proofs.SayLemmas.{meant-sayable, sayable-in_time}
use Rattle.ss_command.specs.Lines.{ended_lines, is_line_end, lines, lines_so_far, unended, unless_empty, without_return}
use Rattle.ss_connection.proofs.EventLemmas.{event-in-time}
use Rattle.ss_connection.proofs.HoldsLemmas.{first-behind, first-more}
use Rattle.ss_connection.proofs.SaysLemmas.{said-one}
use Rattle.ss_connection.specs.Calls.{AppliesHeld, AsksHeld, OfHeld, SaysHeld, SaysOpen, bare, without_end}
use Rattle.ss_connection.specs.Holds.{Holds, text_left}
use Rattle.ss_connection.specs.InTurn.{AreInTurn, AreLines, AreMeant, DidCall, Made, ended_line, input_of, said_in}
use Rattle.ss_connection.specs.Many.{AppliesMany, AreAccepted}
use Rattle.ss_connection.specs.declared.connection.many.Taken.{Taken}
use Rattle.ss_connection.specs.Typed.{event_brings}
use Rattle.ss_program.proofs.Common.{◌≡◌, ◌∙◌, ◌++◌, ◌∷◌, [], ℕ, List, All, None, Ok, Some, Option, ap, append_assoc, append-nil, flat_map, flat_map-append}
use Rattle.ss_program.proofs.Common.{at_start, joined, weaker, of_content, length, map, refl, sym, IsTrue, DiskView, Event, Do, question_command}
use Rattle.ss_program.proofs.Common.{KnowsNow, LeavesOnly, RecordsState, StandsForFirst, StoreState, Told, accepted, brings, command_brings, the_event, History}
use Rattle.ss_program.proofs.Common.{plain_talk, text_of, report, reply_line, Reply, Command, meaning, LINE_END, replies, meaning_brings}
use Rattle.ss_program.proofs.AnswerLemmas.{question-event}
use Rattle.ss_program.proofs.Common.{Brought, Err, Happened, added, history_after, line_text, take}
use Rattle.ss_program.proofs.ReportLemmas.{text_of-replies}
use Rattle.ss_program.specs.declared.answer.Question.{Question}
use Rattle.ss_program.specs.declared.rows.Rows.{Rows}
use Rattle.ss_program.specs.declared.status.Status.{Status}
use Rattle.ss_program.specs.declared.status.Status.TheVariants.{OutOfMemory}

-- lists with line ends
abbrev ended : List (List ℕ) → List ℕ
ended ls = flat_map (λ (l : List ℕ). l ++ LINE_END ∷ []) ls

abbrev NoEnd : List ℕ → Type 0
NoEnd line = position_or_len is_line_end line ≡ length line

-- behind an input whose last line has ended they are its next lines
lines-ended : (xs : List ℕ) (ls : List (List ℕ)) → unended xs ≡ [] → All NoEnd ls →
    (lines_so_far (xs ++ ended ls) ≡ lines_so_far xs ++ map without_return ls) × (unended (xs ++ ended ls) ≡ [])
lines-ended xs [] none all = (
  ap (λ b. lines_so_far b) (append-nil xs) ∙ sym (append-nil (lines_so_far xs)),
  ap (λ b. unended b) (append-nil xs) ∙ none,
)
lines-ended xs (l ∷ ls) none all =
    let here = xs ++ l ++ LINE_END ∷ [] in
    let none_here = unended-line_end xs l (All-head NoEnd l ls all) in
    let rest = lines-ended here ls none_here (All-tail NoEnd l ls all) in
    let same : xs ++ ended (l ∷ ls) ≡ here ++ ended ls =
    sym (append_assoc xs (l ++ LINE_END ∷ []) (ended ls)) ∙ ap (λ b. b ++ ended ls) (sym (append_assoc xs l (LINE_END ∷ []))) in
    let first : lines_so_far here ≡ lines_so_far xs ++ without_return l ∷ [] =
    lines_so_far-line_end xs l (All-head NoEnd l ls all) ∙ ap (λ u. lines_so_far xs ++ without_return (u ++ l) ∷ []) none in (
      ap (λ b. lines_so_far b) same ∙ rest.0 ∙ ap (λ t. t ++ map without_return ls) first
          ∙ append_assoc (lines_so_far xs) (without_return l ∷ []) (map without_return ls),
      ap (λ b. unended b) same ∙ rest.1,
    )

-- and these are all the lines of the input that they make
lines-all : (ls : List (List ℕ)) → All NoEnd ls → lines (ended ls) ≡ map without_return ls
unfolding ended_lines unended
lines-all ls all =
    let both = lines-ended [] ls refl all in
    ap (λ u. lines_so_far (ended ls) ++ map without_return (unless_empty u)) both.1 ∙ append-nil (lines_so_far (ended ls)) ∙ both.0

-- what calls leave one after another, by the lines that they are handed, where this text is still due, and this then
abbrev Leaves : History → List (List ℕ) → List ℕ → (History → List ℕ) → RecordsState → Told → Told → List ℕ → Type 0
Leaves history ls due then is old new said =
    let events = accepted (plain_talk history) ls in
    (due ++ flat_map reply_line (replies history ls) ≡ said ++ then (history ++ events)) × Holds (history ++ events) [] is new × LeavesOnly old new (StandsForFirst history events)

-- a line as it is read, and without its line end, where there is one
abbrev bare_one : Option (List ℕ) → List (List ℕ)
bare_one None = []
bare_one (Some line) = bare line ∷ []

abbrev ended_one : Option (List ℕ) → List (List ℕ)
ended_one None = []
ended_one (Some line) = without_end line ∷ []

written-one : (line : Option (List ℕ)) (ls : List (List ℕ)) → ended (ended_one line ++ ls) ≡ ended_line line ++ ended ls
written-one None ls = refl
written-one (Some line) ls = refl

read-one : (line : Option (List ℕ)) (ls : List (List ℕ)) → map without_return (ended_one line ++ ls) ≡ bare_one line ++ map without_return ls
read-one None ls = refl
read-one (Some line) ls = refl

no_end-one : (line : Option (List ℕ)) (ls : List (List ℕ)) → IfSome line (λ l. NoEnd (without_end l)) → All NoEnd ls → All NoEnd (ended_one line ++ ls)
no_end-one None ls none all = all
no_end-one (Some line) ls none all = All-cons NoEnd (without_end line) ls none all

module _ {D : Type 0} where
  -- the lines of the input are the lines of the calls as they are read
  abbrev bare_lines : List (Made D) → List (List ℕ)
  bare_lines calls = flat_map (λ (made : Made D). bare_one made.line) calls

  abbrev ended_of : List (Made D) → List (List ℕ)
  ended_of calls = flat_map (λ (made : Made D). ended_one made.line) calls

  input-ended : (calls : List (Made D)) → input_of calls ≡ ended (ended_of calls)
  input-ended [] = refl
  input-ended (made ∷ calls) = ap (λ b. ended_line made.line ++ b) (input-ended calls) ∙ sym (written-one made.line (ended_of calls))

  bare-ended : (calls : List (Made D)) → map without_return (ended_of calls) ≡ bare_lines calls
  bare-ended [] = refl
  bare-ended (made ∷ calls) = read-one made.line (ended_of calls) ∙ ap (λ ls. bare_one made.line ++ ls) (bare-ended calls)

  no_ends : (calls : List (Made D)) → AreLines calls → All NoEnd (ended_of calls)
  no_ends [] all = All-nil NoEnd
  no_ends (made ∷ calls) all =
      let P = λ (made : Made D). IfSome made.line (λ l. NoEnd (without_end l)) in
      no_end-one made.line (ended_of calls) (All-head P made calls all) (no_ends calls (All-tail P made calls all))

  pub lines-input : (calls : List (Made D)) → AreLines calls → lines (input_of calls) ≡ bare_lines calls
  lines-input calls all =
      ap (λ b. lines b) (input-ended calls) ∙ lines-all (ended_of calls) (no_ends calls all) ∙ bare-ended calls

  -- one call, and then others
  leaves-one : (line : Option (List ℕ)) (made : Made D) (before : Option Rows) (ls : List (List ℕ)) (is : RecordsState) (a m z : Told) (history : History)
      (said : List ℕ) (then : History → List ℕ) → DidCall line made before a m → Holds history [] made.was.records a →
      ((next : History) → Holds next [] made.is.records m → Leaves next ls (text_left made.left made.is.streams next) then is m z said) →
      Leaves history (bare_one line ++ ls) (text_left before made.was.streams history) then is a z (made.said ++ said)
  leaves-one None made before ls is a m z history said then did held goes =
      let here = did.each history [] held in
      let rest = goes history here.0.holds in
      let events = accepted (plain_talk history) ls in
      let more = flat_map reply_line (replies history ls) in
      let P = StandsForFirst history events in (
        ap (λ (t : List ℕ). t ++ more) (rw append-nil at here.1) ∙ append_assoc made.said (text_left made.left made.is.streams history) more
            ∙ ap (λ (t : List ℕ). made.said ++ t) rest.0 ∙ sym (append_assoc made.said said (then (history ++ events))),
        rest.1,
        joined a m z P (weaker a m (StandsForFirst history []) P (λ image some. first-more history [] events image some) here.0.any_moment) rest.2,
      )
  leaves-one (Some line) made before ls is a m z history said then did held goes =
      let brought = brings history (bare line) in
      let first = the_event brought.event in
      let next = history_after history brought in
      let here = did.1.each history held in
      let rest = goes next here.0.holds in
      let events = accepted (plain_talk next) ls in
      let more = flat_map reply_line (replies next ls) in
      let left = text_left made.left made.is.streams next in
      let P = StandsForFirst history (first ++ events) in (
        rw did.0 (flat_map-append reply_line brought.replies (replies next ls) ∙ ap (λ (t : List ℕ). t ++ more) here.1
            ∙ append_assoc made.said left more ∙ ap (λ (t : List ℕ). made.said ++ t) rest.0
            ∙ sym (append_assoc made.said said (then (next ++ events)))
            ∙ ap (λ (h : History). (made.said ++ said) ++ then h) (append_assoc history first events)),
        rw append_assoc at rest.1,
        joined a m z P (weaker a m (StandsForFirst history first) P (λ image some. first-more history first events image some) here.0.any_moment)
            (weaker m z (StandsForFirst next events) P (λ image some. first-behind history first events image some) rest.2),
      )

  module _ (seen : D → DiskView) (knows : (disk : D) → IsTrue (seen disk).tells → KnowsNow (seen disk).told) where
    leaves-all : (calls : List (Made D)) (before after : Option Rows) (was is : StoreState) (old new : D) (history : History) →
        AreInTurn seen calls before was old after is new → IsTrue (seen old).tells → Holds history [] was.records (seen old).told →
        Leaves history (bare_lines calls) (text_left before was.streams history) (λ h. text_left after is.streams h) is.records (seen old).told
        (seen new).told (said_in calls)
    leaves-all [] before after was is old new history turns tells held = (
      append-nil (text_left before was.streams history) ∙ rw (turns.0, turns.1, append-nil) refl,
      rw (turns.1, turns.2, append-nil) held,
      rw turns.2 (at_start (seen old).told (StandsForFirst history []) (knows old tells)
          (of_content (seen old).told (StandsForFirst history []) held.durable held.within)),
    )
    leaves-all (made ∷ calls) before after was is old new history turns tells held =
        let step = turns.0 in
        let here : IsTrue (seen made.old).tells = rw turns.2 tells in
        rw (sym turns.1, sym turns.2) (leaves-one made.line made before (bare_lines calls) is.records (seen made.old).told (seen made.new).told
        (seen new).told history (said_in calls) (λ h. text_left after is.streams h) (step.told here) (rw (turns.1, turns.2) held)
        (λ next holds. leaves-all calls made.left after made.is is made.new new next turns.3 (step.tells ∙ here) holds))

    -- the disk still tells
    still-tells : (calls : List (Made D)) (before after : Option Rows) (was is : StoreState) (old new : D) → AreInTurn seen calls before was old after is new →
        IsTrue (seen old).tells → IsTrue (seen new).tells
    still-tells [] before after was is old new turns tells = rw turns.2 tells
    still-tells (made ∷ calls) before after was is old new turns tells =
        let here : IsTrue (seen made.old).tells = rw turns.2 tells in
        still-tells calls made.left after made.is is made.new new turns.3 (turns.0.tells ∙ here)

    -- so what is said is the report of their input, but for the rows that are left
    pub reported : (calls : List (Made D)) (left : Option Rows) (was is : StoreState) (old new : D) (history : History) →
        AreInTurn seen calls None was old left is new → AreLines calls → IsTrue (seen old).tells → Holds history [] was.records (seen old).told →
        (let events = accepted (plain_talk history) (lines (input_of calls)) in
        (said_in calls ++ text_left left is.streams (history ++ events) ≡ report (plain_talk history) (input_of calls))
        × Holds (history ++ events) [] is.records (seen new).told
        × LeavesOnly (seen old).told (seen new).told (StandsForFirst history events))
    reported calls left was is old new history turns all tells held =
        let same = lines-input calls all in
        let leaves = leaves-all calls None left was is old new history turns tells held in (
          rw same (sym leaves.0) ∙ sym (ap (λ ls. text_of (plain_talk history) ls) same ∙ text_of-replies history (bare_lines calls)),
          rw same leaves.1,
          rw same leaves.2,
        )

    -- and what the calls did that have answered stays, whatever comes after them
    pub kept : (done more : List (Made D)) (left after : Option Rows) (was mid is : StoreState) (old then new : D) (history : History) →
        AreInTurn seen done None was old left mid then → AreInTurn seen more left mid then after is new → AreLines done → AreLines more →
        IsTrue (seen old).tells → Holds history [] was.records (seen old).told →
        (let held = history ++ accepted (plain_talk history) (lines (input_of done)) in
        LeavesOnly (seen then).told (seen new).told (StandsForFirst held (accepted (plain_talk held) (lines (input_of more)))))
    kept done more left after was mid is old then new history first second ends goes tells held =
        let did = reported done left was mid old then history first ends tells held in
        let from = history ++ accepted (plain_talk history) (lines (input_of done)) in
        let leaves = leaves-all more left after mid is then new from second (still-tells done None left was mid old then first tells) did.1 in
        rw (lines-input more goes) leaves.2

    -- a call that stops leaves its event or not
    pub stopped : (done : List (Made D)) (was mid is : StoreState) (old then new : D) (history : History) (line said : List ℕ) (status : Status) →
        AreInTurn seen done None was old None mid then → AreLines done → IsTrue (seen old).tells → Holds history [] was.records (seen old).told →
        SaysOpen (λ history. brings history (bare line)) mid is said (Err status) (seen then).told (seen new).told →
        (let held = history ++ accepted (plain_talk history) (lines (input_of done)) in
        LeavesOnly (seen then).told (seen new).told (StandsForFirst held (the_event (brings held (bare line)).event))
        × (status ≡ OutOfMemory → Holds held [] is.records (seen new).told))
    stopped done was mid is old then new history line said status turns ends tells held says =
        let did = reported done None was mid old then history turns ends tells held in
        let from = history ++ accepted (plain_talk history) (lines (input_of done)) in
        ((says.each from did.1).0.any_moment, λ memory. (says.starves from did.1 memory).holds)

-- what a line brings that means a command
line-brings : (history : History) (command : Command) (line : List ℕ) → meaning (bare line) ≡ Ok (Some command) →
    command_brings history command ≡ brings history (bare line)
line-brings history command line means = sym (ap (λ m. meaning_brings history m) means)

-- an event that was applied did what a line does that means it
pub Says-typed : {was is : StoreState} {old new : Told} (event : Event) (line : List ℕ) (reply : Reply) → meaning (bare line) ≡ Ok (Some (Do event)) →
    AppliesHeld (λ history. event_brings history event) was.records is.records (Ok reply) old new →
    SaysHeld (λ history. brings history (bare line)) was is (reply_line reply) (Ok None) old new
Says-typed event line reply means applies = record {
  each = λ history staged held.
      let from = history ++ staged in
      let fits = sayable-in_time (Do event) (meant-sayable (bare line) (Do event) means) in
      let did = rw (event-in-time from event fits ∙ line-brings from (Do event) line means) at (applies.each history staged held) in (
        record { holds = did.0.holds; any_moment = did.0.any_moment },
        said-one (brings from (bare line)) reply refl did.1 ∙ sym (append-nil (reply_line reply)),
      );
  starves = λ history staged held. tt;
}

-- what a line says over nothing staged
pub Says-unstaged : {brought : History → Brought} {was is : StoreState} {said : List ℕ} {old new : Told} (left : Option Rows) →
    SaysHeld brought was is said (Ok left) old new → SaysOpen brought was is said (Ok left) old new
Says-unstaged left says = record {
  each = λ history held. rw append-nil at (says.each history [] held);
  starves = λ history held. tt;
}

-- and so is the answer to a question, also over nothing staged
pub Says-questioned : {was is : RecordsState} {old new : Told} (question : Question) (line : List ℕ) (reply : Reply) →
    meaning (bare line) ≡ Ok (Some (question_command question)) →
    AsksHeld (λ history. command_brings history (question_command question)) was is (Ok reply) old new →
    OfHeld was old (λ history staged. reply_line reply ≡ line_text (history ++ staged) (bare line))
Says-questioned question line reply means asks history staged held =
    let from = history ++ staged in
    let did = (asks.each history staged held).1 in
    sym (said-one (brings from (bare line)) reply refl (rw (line-brings from (question_command question) line means) at did))

pub Says-answered : {was is : StoreState} {old new : Told} (question : Question) (line : List ℕ) (reply : Reply) →
    meaning (bare line) ≡ Ok (Some (question_command question)) →
    AsksHeld (λ history. command_brings history (question_command question)) was.records is.records (Ok reply) old new →
    SaysOpen (λ history. brings history (bare line)) was is (reply_line reply) (Ok None) old new
Says-answered question line reply means asks = record {
  each = λ history held.
      let did = asks.each history [] held in
      let same = line-brings history (question_command question) line means in
      let none : (brings history (bare line)).event ≡ None = ap (λ (b : Brought). b.event) (sym same) ∙ question-event history question in (
        rw none (record { holds = rw append-nil did.0.holds; any_moment = did.0.any_moment }),
        said-one (brings history (bare line)) reply refl (rw (append-nil, same) at did.1) ∙ sym (append-nil (reply_line reply)),
      );
  starves = λ history held. tt;
}

-- lines that mean events which are accepted one after another add them
meant-accepted : (history : History) (ls : List (List ℕ)) (events : List Event) → AreAccepted history events → AreMeant ls events →
    accepted (plain_talk history) ls ≡ map added events
meant-accepted history [] [] are meant = refl
meant-accepted history [] (event ∷ events) are meant = absurd meant
meant-accepted history (line ∷ ls) [] are meant = absurd meant
meant-accepted history (line ∷ ls) (event ∷ events) are meant =
    let fits = sayable-in_time (Do event) (meant-sayable line (Do event) meant.0) in
    let brought : brings history line ≡ event_brings history event = ap (λ m. meaning_brings history m) meant.0 ∙ sym (event-in-time history event fits) in
    let added_one : (brings history line).event ≡ Some event = ap (λ (b : Brought). b.event) brought ∙ are.0 in
    let here : accepted (plain_talk history) (line ∷ ls)
    ≡ the_event (brings history line).event ++ accepted (plain_talk (history ++ the_event (brings history line).event)) ls = refl in
    here ∙ ap (λ (e : Option Event). the_event e ++ accepted (plain_talk (history ++ the_event e)) ls) added_one
    ∙ ap (λ (hs : List Happened). added event ∷ hs) (meant-accepted (history ++ added event ∷ []) ls events are.1 meant.1)

-- and so do values that are appended together
pub Applies-lines : {name : List ℕ} {events : List Event} {was is : RecordsState} {old new : Told} (history : History) (taken : Taken) (ls : List (List ℕ)) →
    AreMeant ls (take taken.count events) → AppliesMany name events was is (Ok taken) old new → Holds history [] was old →
    Holds (history ++ accepted (plain_talk history) ls) [] is new
Applies-lines {events = events} history taken ls meant applies held =
    let takes = rw append-nil at (applies.takes history [] held) in
    rw (meant-accepted history ls (take taken.count events) takes.accepted meant) (applies.holds history [] held)
