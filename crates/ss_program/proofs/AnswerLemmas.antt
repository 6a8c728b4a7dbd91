-- What a line brings, by what it means, and what sending it leaves.
use Rattle.ss_program.proofs.Common.{◌≡◌, ℕ, ◌<◌, Bool, ◌++◌, ◌↔◌, List, [], ◌∷◌, length, Option, Some, None, IsSome, Ok, Err, Result, false, common_steps}
use Rattle.ss_program.proofs.Common.{refl, sym, ap, ◌∙◌, subst, arith, inl, inr, cases_lt, cond-true, cond-false, le-leb, lt-leb, lt-ltb, append-nil}
use Rattle.ss_program.proofs.Common.{length-append, flat_map, nat_le, IsTrue, Event, Query, Refusal, unless_long, LONGEST_LINE, Command, Do, Ask, Certify, Last}
use Rattle.ss_program.proofs.Common.{Values, Windows, event_name, added, answer-known, outcome_of, refuses_query, refuses_values, ack_of, refuses}
use Rattle.ss_program.proofs.Common.{refuses_series, Stream, state, stream_named, Outcome, Ack, Failed, said_line, Reply, Answered, Refused, WindowsHead}
use Rattle.ss_program.proofs.Common.{DiskView, shown-sealed, IsSealed, RecordsState, shown_by, refuses_query_held, StoreIsIn, StoreIsKept, StoreState, Stands}
use Rattle.ss_program.proofs.Common.{ApplyError, refuses_query_held-is, AllAgree-recovered, IsOpen, at_sink, accepted_in, command_in, framed_replies}
use Rattle.ss_program.proofs.Common.{answer_replies, brings_in, Brought, command_brings, History, history_after, kept_in, meaning_in, only_replies, refused}
use Rattle.ss_program.proofs.Common.{text_said, the_event, unless_refused, window_rows, Sends, IsApplyStop, IsShowStop, IsStop, Status, HasRows, Question}
use Rattle.ss_program.proofs.Common.{question_command, newest_replies, newest_of, option_map, not, is_some, first_that_applies, Unknown, ◌⊎◌}
use Rattle.ss_command.specs.Grammar.{meaning}
use Rattle.ss_command.specs.declared.command.Command.TheVariants.{Series as AskRows, List as ListAll}
use Rattle.ss_model.specs.Refusals.{refuses_reading}
use Rattle.ss_report.specs.declared.reply.Reply.TheVariants.{Done as AckLine, Last as LastLine}
use Rattle.ss_store.specs.declared.error.AskError.{AskError}
use Rattle.ss_program.proofs.TextLemmas.{said_line-some}
use Rattle.ss_catalog.specs.declared.refusal.Refusal.TheVariants as refusals
use Rattle.ss_program.specs.declared.answer.Question.TheVariants as questions
use Rattle.ss_store.specs.declared.error.ApplyError.TheVariants as errors
use Rattle.ss_store.specs.declared.error.AskError.TheVariants as asking

-- a line to which no event comes: the history after it is the one before
pub history-still : (history : History) (brought : Brought) → brought.event ≡ None → history_after history brought ≡ history
history-still history brought none = ap (λ e. history ++ the_event e) none ∙ append-nil history

-- an event that is refused brings its refusal, and no event
pub brings-refused : (framed : Bool) (history : History) (event : Event) (refusal : Refusal) → refuses (state history) event ≡ Some refusal →
    command_in framed history (Do event) ≡ refused refusal
brings-refused framed history event refusal is = ap (λ r. unless_refused r (accepted_in framed history event)) is

-- and one that isn't brings itself
pub brings-accepted : (framed : Bool) (history : History) (event : Event) → refuses (state history) event ≡ None →
    command_in framed history (Do event) ≡ accepted_in framed history event
brings-accepted framed history event is = ap (λ r. unless_refused r (accepted_in framed history event)) is

-- which of the two it is, by what the store answers
pub not_refused : (result : Result Ack ApplyError) (refusal : Option Refusal) →
    ((r : Refusal) → (result ≡ Err (errors.Refused r)) ↔ (refusal ≡ Some r)) → ((r : Refusal) → result ≡ Err (errors.Refused r) → ⊥) →
    refusal ≡ None
not_refused result None why other = refl
not_refused result (Some r) why other = absurd (other r ((why r).1 refl))

-- an event that was accepted is one
pub IsSome-accepted : (framed : Bool) (history : History) (event : Event) → refuses (state history) event ≡ None →
    IsSome (command_in framed history (Do event)).event
IsSome-accepted framed history event is = rw brings-accepted

-- a command that only reads brings no event
unless_refused-event : (refusal : Option Refusal) (rows : List Reply) → (unless_refused refusal (only_replies rows)).event ≡ None
unless_refused-event None rows = refl
unless_refused-event (Some r) rows = refl

-- so a command is an event, or brings none
pub event-or-none : (command : Command) →
    ((event : Event) × (command ≡ Do event)) ⊎ ((framed : Bool) (history : History) → (command_in framed history command).event ≡ None)
event-or-none (Do event) = inl (event, refl)
event-or-none (Ask query) = inr (λ framed history. unless_refused-event (refuses_query (state history) query) _)
event-or-none (Certify query end) = inr (λ framed history. unless_refused-event (refuses_query (state history) query) _)
event-or-none (AskRows series) = inr (λ framed history. unless_refused-event (refuses_series (state history) series) _)
event-or-none (Last name) = inr (λ framed history. unless_refused-event (refuses_reading (state history) name) _)
event-or-none (Values name from to) = inr (λ framed history. unless_refused-event (refuses_values (state history) name from to) _)
event-or-none (Windows name) = inr (λ framed history. unless_refused-event (refuses_reading (state history) name) _)
event-or-none ListAll = inr (λ framed history. refl)

pub rows-event : (history : History) (command : Command) → HasRows command → (command_brings history command).event ≡ None
rows-event history command rows = elim (event-or-none command) [
  | inl is ↦ absurd (rw is.1 at rows)
  | inr none ↦ none false history
]

pub question-event : (history : History) (question : Question) → (command_brings history (question_command question)).event ≡ None
question-event history (questions.Query query) = unless_refused-event (refuses_query (state history) query) _
question-event history (questions.Newest name) = unless_refused-event (refuses_reading (state history) name) _

-- a query that is refused brings its refusal
pub brings-unanswered : (history : History) (query : Query) (refusal : Refusal) → refuses_query (state history) query ≡ Some refusal →
    command_brings history (Ask query) ≡ refused refusal
brings-unanswered history query refusal is = ap (λ r. unless_refused r (only_replies (answer_replies (outcome_of (state history) query)))) is

-- and one that isn't brings the answer
pub brings-answer_replies : (history : History) (query : Query) (outcome : Outcome) → refuses_query (state history) query ≡ None →
    outcome_of (state history) query ≡ Some outcome → command_brings history (Ask query) ≡ only_replies (Answered outcome ∷ [])
brings-answer_replies history query outcome none is =
    ap (λ r. unless_refused r (only_replies (answer_replies (outcome_of (state history) query)))) none ∙ ap (λ o. only_replies (answer_replies o)) is

-- what is refused by what the store holds
pub refuses_query-kept : (store : StoreState) (image : List ℕ) (history : History) (query : Query) → StoreIsIn store image →
    Stands history image → refuses_query (state history) query ≡ refuses_query_held store.streams query
refuses_query-kept store image history query kept stands =
    sym (refuses_query_held-is store.streams (state history) query (AllAgree-recovered store image (state history) kept stands.state).0)

-- where nothing is staged the content is what is shown, and what a store holds is in it
pub Stands-only_replies : (records : RecordsState) (content : List ℕ) (history : History) → IsSealed records.journal → Stands history content →
    Stands history (shown_by records content)
Stands-only_replies records content history sealed stands = rw shown-sealed stands

pub StoreIsIn-sealed : (store : StoreState) (content : List ℕ) → IsSealed store.records.journal → StoreIsKept store content → StoreIsIn store content
StoreIsIn-sealed store content sealed kept = rw shown-sealed at kept.shown

pub StoreIsIn-open : (disk : DiskView) (store : StoreState) → IsOpen disk store → IsTrue disk.tells → StoreIsIn store disk.told.content
StoreIsIn-open disk store opens told = StoreIsIn-sealed store disk.told.content opens.sealed (opens.serves.kept told)

-- which of the two it is, by what the store answers
pub not_unanswered : {A : Type 0} (result : Result A AskError) (refusal : Option Refusal) →
    ((r : Refusal) → (result ≡ Err (asking.Refused r)) ↔ (refusal ≡ Some r)) → ((r : Refusal) → result ≡ Err (asking.Refused r) → ⊥) →
    refusal ≡ None
not_unanswered result None why other = refl
not_unanswered result (Some r) why other = absurd (other r ((why r).1 refl))

-- what `windows` brings, by whether the stream stands
pub brings-unknown : (history : History) (name : List ℕ) → stream_named name (state history) ≡ None →
    command_brings history (Windows name) ≡ refused refusals.Unknown
unfolding refuses_reading
brings-unknown history name none = rw none refl

pub brings-windows : (history : History) (name : List ℕ) (s : Stream) → stream_named name (state history) ≡ Some s →
    command_brings history (Windows name) ≡ only_replies (WindowsHead (length s.windows) ∷ window_rows s)
unfolding refuses_reading
brings-windows history name s is = rw is refl

-- a line that isn't kept is too long
pub meaning-long : (line : List ℕ) → None ≡ unless_long line → meaning line ≡ Err refusals.Line
unfolding meaning
meaning-long line none = elim (cases_lt LONGEST_LINE (length line)) [
  | inl long ↦ cond-true _ _ _ (lt-ltb LONGEST_LINE (length line) long)
  | inr fits ↦ (let is = cond-true (nat_le (length line) LONGEST_LINE) (Some line) None (le-leb (length line) LONGEST_LINE fits) in cc)
]

-- a line that is kept is that line
pub line-kept : (kept line : List ℕ) → Some kept ≡ unless_long line → kept ≡ line
line-kept kept line some = elim (cases_lt LONGEST_LINE (length line)) [
  | inl long ↦ (let is = cond-false (nat_le (length line) LONGEST_LINE) (Some line) None (lt-leb (length line) LONGEST_LINE long) in cc)
  | inr fits ↦ (let is = cond-true (nat_le (length line) LONGEST_LINE) (Some line) None (le-leb (length line) LONGEST_LINE fits) in cc)
]

-- so what a line brings as it is kept is what it brings
pub kept-brings : (framed : Bool) (history : History) (o : Option (List ℕ)) (line : List ℕ) → o ≡ unless_long line →
    kept_in framed history o ≡ brings_in framed history line
kept-brings framed history None line is = sym (ap (λ m. meaning_in framed history m) (meaning-long line is))
kept-brings framed history (Some bytes) line is = ap (λ l. brings_in framed history l) (line-kept bytes line is)

-- what sending a reply answers
pub Sends-at_sink : (before after : Option (List ℕ)) (text : List ℕ) (sent : Result Unit Failed) → Sends before after text sent →
    Sends before after text (at_sink sent)
Sends-at_sink before after text (Ok u) sends = sends
Sends-at_sink before after text (Err e) sends = sends

pub IsStop-show : (tells : Bool) (status : Status) → IsShowStop tells status → IsStop tells status
IsStop-show tells status stop = grind (arith, common_steps)

pub IsStop-apply : (tells : Bool) (status : Status) → IsApplyStop tells status → IsStop tells status
IsStop-apply tells status stop = grind (arith, common_steps)

module _ (speaker : Option ℕ) where
  -- an event has a reply
  pub event-some : (framed : Bool) (history : History) (event : Event) (refusal : Option Refusal) →
      IsSome (unless_refused refusal (accepted_in framed history event)).event →
      0 < length (text_said speaker (unless_refused refusal (accepted_in framed history event)))
  event-some framed history event None some =
      let reply = AckLine (ack_of (event_name event) (state (history ++ added event ∷ []))) in
      omega (
        arith,
        said_line-some speaker reply,
        length-append (said_line speaker reply) (flat_map (said_line speaker) (framed_replies framed history event)),
      )
  event-some framed history event (Some r) some = cc

  -- and so has a query
  pub one_reply-some : (reply : Reply) → 0 < length (text_said speaker (only_replies (reply ∷ [])))
  one_reply-some reply = omega (arith, said_line-some speaker reply, length-append (said_line speaker reply) [])

  answer-some : (refusal : Option Refusal) (outcome : Option Outcome) → (refusal ≡ None → IsSome outcome) →
      0 < length (text_said speaker (unless_refused refusal (only_replies (answer_replies outcome))))
  answer-some None None known = let wrong = known refl in cc
  answer-some None (Some outcome) known = one_reply-some (Answered outcome)
  answer-some (Some refusal) outcome known = one_reply-some (Refused refusal)

  newest-some : (o : Option Stream) →
      0 < length (text_said speaker (unless_refused (first_that_applies ((not (is_some o), Unknown) ∷ []))
      (only_replies (newest_replies (option_map newest_of o)))))
  newest-some None = one_reply-some (Refused Unknown)
  newest-some (Some s) = one_reply-some (LastLine (newest_of s))

  pub question-some : (history : History) (question : Question) → 0 < length (text_said speaker (command_brings history (question_command question)))
  unfolding refuses_reading
  question-some history (questions.Query query) =
      answer-some (refuses_query (state history) query) (outcome_of (state history) query) (answer-known (state history) query)
  question-some history (questions.Newest name) = newest-some (stream_named name (state history))

  command-some : (framed : Bool) (history : History) (command : Command) → IsSome (command_in framed history command).event →
      0 < length (text_said speaker (command_in framed history command))
  command-some framed history command some = elim (event-or-none command) [
    | inl is ↦ subst (λ (k : Command). IsSome (command_in framed history k).event → 0 < length (text_said speaker (command_in framed history k))) (sym is.1)
        (event-some framed history is.0 (refuses (state history) is.0)) some
    | inr none ↦ (let wrong = rw none at some in cc)
  ]

  pub meaning-some : (framed : Bool) (history : History) (means : Result (Option Command) Refusal) → IsSome (meaning_in framed history means).event →
      0 < length (text_said speaker (meaning_in framed history means))
  meaning-some framed history (Err refusal) some = cc
  meaning-some framed history (Ok None) some = cc
  meaning-some framed history (Ok (Some command)) some = command-some framed history command some
