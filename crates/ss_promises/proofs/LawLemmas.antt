-- What a session makes of a history: another one, over which its queries are answered.
use Rattle.ss_program.proofs.Common.{◌≡◌, ◌∙◌, ◌++◌, List, [], ◌∷◌, ℕ, ℤ, map, Option, Some, None, IsSome, true, false, Result, Ok, Err, refl, sym, ap, Bool}
use Rattle.ss_program.proofs.Common.{append-nil, Event, Create, Value, Open, Close, Drop, is_certified, is_guess, End, Kind, Query, Refusal, Series}
use Rattle.ss_program.proofs.Common.{row_count, row_start, rows_of, MayBeAnswer-answer, end_asked-answer, evidence_in, told, Evidence, meant-sayable, meaning}
use Rattle.ss_program.proofs.Common.{IsSayable, Command, Do, Ask, Certify, answer-ends, answer-exact, answer-holds, answer-kind, answer-known, IsHistory_push}
use Rattle.ss_program.proofs.Common.{IsState-state, row-answered, HasEnds, HoldsPresence, HoldsTruth, IsExactOutcome, IsOfKind, interval_query, outcome_of}
use Rattle.ss_program.proofs.Common.{refuses_query, split_by, CanBeSaid, added, marked_of, values_of, IsHistory, refuses, AnswersRow, refuses_series, state}
use Rattle.ss_program.proofs.Common.{true_presence, Outcome, Count, Sum, Min, Max, Mean, Has, Estimate, MeanEstimate, Presence}
use Rattle.ss_program.proofs.Common.{Point, Reply, Answered, SeriesHead, Row, IsSharp, Brought}
use Rattle.ss_program.proofs.Common.{History, accepted_in, command_in, meaning_in, brings, command_brings, history_after, meaning_brings, nothing, refused}
use Rattle.ss_program.proofs.Common.{only_replies, unless_refused, plain_after, replies, inl, inr}
use Rattle.ss_command.specs.declared.command.Command.TheVariants.{Series as AskRows}
use Rattle.ss_model.proofs.RowLemmas.{some-outcome}
use Rattle.ss_program.proofs.AnswerLemmas.{brings-answer_replies, history-still, event-or-none}
use Rattle.ss_program.proofs.CertifyLemmas.{brings-certified, evidence-known, evidence-right}
use Rattle.ss_program.proofs.SeriesLemmas.{brings-series, series_rows-map}
use Rattle.ss_program.proofs.ReportLemmas.{replies-append}
use Rattle.ss_catalog.specs.declared.query.Kind.TheVariants as kinds
use Rattle.ss_promises.specs.Guesses.{GuessLiesBetween}

-- an event of a command that a line can say
pub sayable-said : (event : Event) → IsSayable (Do event) → CanBeSaid event
sayable-said (Create name params) sayable = tt
sayable-said (Value name t v) sayable = (sayable.1, sayable.2)
sayable-said (Open name t) sayable = sayable.1
sayable-said (Close name t) sayable = sayable.1
sayable-said (Drop name) sayable = tt

-- what brings no event leaves the history
still : (history : History) (brought : Brought) → brought.event ≡ None → IsHistory history → IsHistory (history_after history brought)
still history brought none whole = rw history-still whole

pub event-leaves : (framed : Bool) (history : History) (event : Event) (refusal : Option Refusal) → refuses (state history) event ≡ refusal → CanBeSaid event →
    IsHistory history → IsHistory (history_after history (unless_refused refusal (accepted_in framed history event)))
event-leaves framed history event None none said whole = IsHistory_push history (added event) (record { before = whole; said = said; accepted = none })
event-leaves framed history event (Some refusal) is said whole = still history (refused refusal) refl whole

command-leaves : (framed : Bool) (history : History) (command : Command) → IsSayable command → IsHistory history →
    IsHistory (history_after history (command_in framed history command))
command-leaves framed history command sayable whole = elim (event-or-none command) [
  | inl is ↦ rw is.1 (event-leaves framed history is.0 (refuses (state history) is.0) refl (sayable-said is.0 (rw is.1 at sayable)) whole)
  | inr none ↦ still history (command_in framed history command) (none framed history) whole
]

pub meaning-leaves : (framed : Bool) (history : History) (meant : Result (Option Command) Refusal) →
    ((command : Command) → meant ≡ Ok (Some command) → IsSayable command) → IsHistory history →
    IsHistory (history_after history (meaning_in framed history meant))
meaning-leaves framed history (Err refusal) sayable whole = still history (refused refusal) refl whole
meaning-leaves framed history (Ok None) sayable whole = still history nothing refl whole
meaning-leaves framed history (Ok (Some command)) sayable whole = command-leaves framed history command (sayable command refl) whole

pub lines-leave : (history : History) (ls : List (List ℕ)) → IsHistory history → IsHistory (plain_after history ls)
lines-leave history [] whole = whole
lines-leave history (line ∷ ls) whole =
    lines-leave (history_after history (brings history line)) ls (meaning-leaves false history (meaning line) (meant-sayable line) whole)

-- what a query brings that has an answer
answered-query : (history : History) (query : Query) (o : Option Outcome) → IsHistory history → refuses_query (state history) query ≡ None →
    outcome_of (state history) query ≡ o → IsSome o →
    (outcome : Outcome) × (command_brings history (Ask query) ≡ only_replies (Answered outcome ∷ [])) × IsOfKind query.kind outcome
    × HoldsTruth query (values_of history query.name) (marked_of history query.name) outcome
    × (split_by (state history) query ≡ [] → IsExactOutcome outcome)
answered-query history query None whole none is some = cc
answered-query history query (Some outcome) whole none is some = (
  outcome,
  brings-answer_replies history query outcome none is,
  answer-kind (state history) query outcome is,
  answer-holds history query outcome whole is,
  answer-exact (state history) query outcome is,
)

-- and a line that means it
pub answered-line : (history : History) (line : List ℕ) (query : Query) → IsHistory history → meaning line ≡ Ok (Some (Ask query)) →
    refuses_query (state history) query ≡ None →
    (outcome : Outcome) × (brings history line ≡ only_replies (Answered outcome ∷ [])) × IsOfKind query.kind outcome
    × HoldsTruth query (values_of history query.name) (marked_of history query.name) outcome
    × (split_by (state history) query ≡ [] → IsExactOutcome outcome)
answered-line history line query whole means none =
    let it = answered-query history query (outcome_of (state history) query) whole none refl (answer-known (state history) query none) in
    (it.0, ap (λ m. meaning_brings history m) means ∙ it.1, it.2, it.3, it.4)

-- what is answered to whether a value is there
presence-of_kind : (kind : Kind) (value : ℤ) (outcome : Outcome) → kind ≡ kinds.Has value → IsOfKind kind outcome →
    (presence : Presence) × (outcome ≡ Has presence)
presence-of_kind kind value (Count lo hi) asked of = cc
presence-of_kind kind value (Sum lo hi) asked of = cc
presence-of_kind kind value (Min extreme) asked of = cc
presence-of_kind kind value (Max extreme) asked of = cc
presence-of_kind kind value (Mean known) asked of = cc
presence-of_kind kind value (Has presence) asked of = (presence, refl)
presence-of_kind kind value (Estimate lo guess hi) asked of = elim of [ inl is ↦ cc | inr is ↦ cc ]
presence-of_kind kind value (MeanEstimate known) asked of = cc

pub presence-line : (history : History) (line : List ℕ) (query : Query) (value : ℤ) → IsHistory history → meaning line ≡ Ok (Some (Ask query)) →
    query.kind ≡ kinds.Has value → refuses_query (state history) query ≡ None →
    (presence : Presence) × (brings history line ≡ only_replies (Answered (Has presence) ∷ []))
    × HoldsPresence presence (true_presence value query.from query.to (values_of history query.name) (marked_of history query.name))
presence-line history line query value whole means asked none =
    let answered = some-outcome (outcome_of (state history) query) (answer-known (state history) query none) in
    let it = presence-of_kind query.kind value answered.0 asked (answer-kind (state history) query answered.0 answered.1) in
    let is : outcome_of (state history) query ≡ Some (Has it.0) = answered.1 ∙ ap Some it.1 in
    let holds = answer-holds history query (Has it.0) whole is in
    let both : kinds.Has holds.0 ≡ kinds.Has value = sym holds.1 ∙ asked in
    let same : holds.0 ≡ value = cc in (
      it.0,
      ap (λ m. meaning_brings history m) means ∙ brings-answer_replies history query (Has it.0) none is,
      rw same at holds.2,
    )

-- an answer that holds the truth and has the ends of another has a guess, which lies between them
guess-between : (query : Query) (plain marked : List Point) (guessed answer : Outcome) → HoldsTruth query plain marked guessed → HasEnds guessed answer →
    GuessLiesBetween guessed
guess-between query plain marked (Count lo hi) answer holds ends = absurd ends
guess-between query plain marked (Sum lo hi) answer holds ends = absurd ends
guess-between query plain marked (Min extreme) answer holds ends = absurd ends
guess-between query plain marked (Max extreme) answer holds ends = absurd ends
guess-between query plain marked (Mean known) answer holds ends = absurd ends
guess-between query plain marked (Has known) answer holds ends = absurd ends
guess-between query plain marked (Estimate lo guess hi) answer holds ends = (holds.2, holds.3)
guess-between query plain marked (MeanEstimate known) answer holds ends = holds.guess

-- what is answered to where the likeliest value is asked for
pub estimate-line : (history : History) (line : List ℕ) (query : Query) → IsHistory history → meaning line ≡ Ok (Some (Ask query)) →
    is_guess query.kind ≡ true → refuses_query (state history) query ≡ None →
    (guessed : Outcome) × (brings history line ≡ only_replies (Answered guessed ∷ []))
    × GuessLiesBetween guessed
    × (answer : Outcome) × (outcome_of (state history) (interval_query query) ≡ Some answer) × HasEnds guessed answer
estimate-line history line query whole means asked none =
    let answered = some-outcome (outcome_of (state history) query) (answer-known (state history) query none) in
    let holds = answer-holds history query answered.0 whole answered.1 in
    let ends = answer-ends (state history) query answered.0 asked answered.1 in (
      answered.0,
      ap (λ m. meaning_brings history m) means ∙ brings-answer_replies history query answered.0 none answered.1,
      guess-between query (values_of history query.name) (marked_of history query.name) answered.0 ends.0 holds ends.2,
      ends.0,
      ends.1,
      ends.2,
    )

-- and so does a series, row by row
pub answered-series : (history : History) (line : List ℕ) (series : Series) → IsHistory history → meaning line ≡ Ok (Some (AskRows series)) →
    refuses_series (state history) series ≡ None →
    (answers : ℕ → Outcome)
    × (brings history line ≡ only_replies (SeriesHead series.kind (row_count series) ∷ map (λ row. Row (row_start series row) (answers row)) (rows_of series)))
    × ((row : ℕ) → AnswersRow history series row (answers row))
answered-series history line series whole means none =
    let answers = λ (row : ℕ). (row-answered history series row whole none).0 in
    let each = λ (row : ℕ). (row-answered history series row whole none).1 in (
      answers,
      ap (λ m. meaning_brings history m) means ∙ brings-series history series none
          ∙ ap (λ rows. only_replies (SeriesHead series.kind (row_count series) ∷ rows))
          (series_rows-map (state history) series answers (λ row. (each row).is)),
      each,
    )

-- the evidence of a stream after a history is sharp
sharp-evidence : (history : History) (query : Query) (end : End) (w : Evidence) (outcome : Outcome) → IsHistory history → is_certified query.kind ≡ true →
    evidence_in (state history) query end ≡ Some w → outcome_of (state history) query ≡ Some outcome → IsSharp history query end w
sharp-evidence history query end w outcome whole certified has answered =
    let streams = state history in
    let right = evidence-right streams query end w (IsState-state history whole) certified has in
    record {
      stream = right.0;
      outcome = outcome;
      named = right.1;
      evidence = right.3;
      attained = MayBeAnswer-answer streams query right.0 end w right.1 right.3 history right.0 whole refl right.1;
      answered = answered;
      asked = end_asked-answer streams query right.0 end w right.1 right.3 right.2 outcome answered;
    }

-- and a line that asks for it brings its lines
pub certified-line : (history : History) (line : List ℕ) (query : Query) (end : End) → IsHistory history → meaning line ≡ Ok (Some (Certify query end)) →
    refuses_query (state history) query ≡ None → (w : Evidence) × (brings history line ≡ only_replies (told w)) × IsSharp history query end w
certified-line history line query end whole means none =
    let known = evidence-known (state history) query end none in
    let answered = some-outcome (outcome_of (state history) query) (answer-known (state history) query none) in
    let sayable = meant-sayable line (Certify query end) means in (
      known.0,
      ap (λ m. meaning_brings history m) means ∙ brings-certified history query end known.0 none known.1,
      sharp-evidence history query end known.0 answered.0 whole sayable.2 known.1 answered.1,
    )

-- a line to which replies come and no event, among other lines
pub replies-among : (history : History) (before after : List (List ℕ)) (line : List ℕ) (rs : List Reply) →
    brings (plain_after history before) line ≡ only_replies rs →
    replies history (before ++ line ∷ after) ≡ replies history before ++ (rs ++ replies (plain_after history before) after)
replies-among history before after line rs is =
    let here = plain_after history before in
    replies-append history before (line ∷ after)
    ∙ ap (λ b. replies history before ++ (b.replies ++ replies (history_after here b) after)) is
    ∙ ap (λ h. replies history before ++ (rs ++ replies h after)) (append-nil here)

-- one reply alone
pub replies-around : (history : History) (before after : List (List ℕ)) (line : List ℕ) (reply : Reply) →
    brings (plain_after history before) line ≡ only_replies (reply ∷ []) →
    replies history (before ++ line ∷ after) ≡ replies history before ++ reply ∷ replies (plain_after history before) after
replies-around history before after line reply is = replies-among history before after line (reply ∷ []) is
