-- A stream that doesn't stand stands by no line but its create.
use Rattle.ss_program.proofs.Common.{◌≡◌, ◌≢◌, ◌∙◌, ℕ, List, [], ◌∷◌, ◌++◌, false, Option, Some, None, Result, Ok, Err, refl, sym, ap, inl, inr}
use Rattle.ss_program.proofs.Common.{cases_Bool, All-head, All-tail, is_some, event_name, same_name, Event, Create, Value, Open, Close, Drop, Params, Query}
use Rattle.ss_program.proofs.Common.{Refusal, Unknown, meaning, Command, Do, Ask, given_to-created, same_name-Decides, same_name-same, added, marked_of}
use Rattle.ss_program.proofs.Common.{values_of, marked_values, stands, Stream, state, stream_named, stepped, New, Brought, History, accepted_in, brings}
use Rattle.ss_program.proofs.Common.{command_brings}
use Rattle.ss_program.proofs.Common.{history_after, meaning_brings, nothing, refused, unless_refused, NoneCreates, plain_after}
use Rattle.ss_model.proofs.DropLemmas.{refuses-drop, stream_named-dropped}
use Rattle.ss_model.proofs.ReadLemmas.{stream_named-stepped}
use Rattle.ss_model.proofs.StepLemmas.{stands-outline, state-push}
use Rattle.ss_model.specs.Answers.{refuses_query}
use Rattle.ss_model.specs.Refusals.{refuses}
use Rattle.ss_model.specs.Steps.{stepped_from}
use Rattle.ss_program.proofs.ReportLemmas.{plain_after-append}
use Rattle.ss_program.proofs.AnswerLemmas.{brings-unanswered, history-still, event-or-none}

-- after this history no stream of the name stands
abbrev IsUnknown : List ℕ → History → Type 0
IsUnknown name history = stands name (state history) ≡ false

-- an event of a stream that doesn't stand is refused, unless it creates the stream
unknown-refuses : (name : List ℕ) (streams : List Stream) (event : Event) → stands name streams ≡ false →
    ((params : Params) → event ≢ Create name params) → event_name event ≡ name → refuses streams event ≡ Some Unknown
unfolding refuses
unknown-refuses name streams (Create other params) unknown spared is = absurd (spared params (ap (λ n. Create n params) is))
unknown-refuses name streams (Value other t v) unknown spared is = rw (is, stands-outline (stream_named name streams) ∙ unknown) refl
unknown-refuses name streams (Open other t) unknown spared is = rw (is, stands-outline (stream_named name streams) ∙ unknown) refl
unknown-refuses name streams (Close other t) unknown spared is = rw (is, stands-outline (stream_named name streams) ∙ unknown) refl
unknown-refuses name streams (Drop other) unknown spared is = rw (is, stands-outline (stream_named name streams) ∙ unknown) refl

-- so one that isn't refused leaves it so
unknown-stepped : (name : List ℕ) (streams : List Stream) (event : Event) → stands name streams ≡ false →
    ((params : Params) → event ≢ Create name params) → refuses streams event ≡ None → stands name (stepped streams event) ≡ false
unknown-stepped name streams event unknown spared accepted = elim (cases_Bool (same_name name (event_name event))) [
  | inl same ↦
      (let refused = unknown-refuses name streams event unknown spared (sym ((same_name-Decides name (event_name event)).0 same)) in
      cc)
  | inr other ↦
      (let apart : name ≢ event_name event = λ is. (let same = (same_name-Decides name (event_name event)).1 is in cc) in
      ap is_some (stream_named-stepped New streams event name apart) ∙ unknown)
]

-- what brings no event leaves it so too
unknown-still : (name : List ℕ) (history : History) (brought : Brought) → brought.event ≡ None → IsUnknown name history →
    IsUnknown name (history_after history brought)
unknown-still name history brought none unknown = rw history-still unknown

unknown-event : (name : List ℕ) (history : History) (event : Event) (refusal : Option Refusal) → refuses (state history) event ≡ refusal →
    ((params : Params) → event ≢ Create name params) → IsUnknown name history →
    IsUnknown name (history_after history (unless_refused refusal (accepted_in false history event)))
unknown-event name history event None accepted spared unknown =
    ap (stands name) (state-push history event New accepted) ∙ unknown-stepped name (state history) event unknown spared accepted
unknown-event name history event (Some refusal) is spared unknown = unknown-still name history (refused refusal) refl unknown

unknown-command : (name : List ℕ) (history : History) (command : Command) → ((params : Params) → command ≢ Do (Create name params)) →
    IsUnknown name history → IsUnknown name (history_after history (command_brings history command))
unknown-command name history command spared unknown = elim (event-or-none command) [
  | inl one ↦ rw one.1 (unknown-event name history one.0 (refuses (state history) one.0) refl (λ params is. spared params (one.1 ∙ ap Do is)) unknown)
  | inr none ↦ unknown-still name history (command_brings history command) (none false history) unknown
]

unknown-meaning : (name : List ℕ) (history : History) (meant : Result (Option Command) Refusal) →
    ((params : Params) → meant ≢ Ok (Some (Do (Create name params)))) → IsUnknown name history →
    IsUnknown name (history_after history (meaning_brings history meant))
unknown-meaning name history (Err refusal) spared unknown = unknown-still name history (refused refusal) refl unknown
unknown-meaning name history (Ok None) spared unknown = unknown-still name history nothing refl unknown
unknown-meaning name history (Ok (Some command)) spared unknown =
    unknown-command name history command (λ params is. spared params (ap (λ c. Ok (Some c)) is)) unknown

-- after lines of which none creates it, it doesn't stand either
unknown-lines : (name : List ℕ) (history : History) (ls : List (List ℕ)) → NoneCreates name ls → IsUnknown name history →
    IsUnknown name (plain_after history ls)
unknown-lines name history [] spared unknown = unknown
unknown-lines name history (line ∷ ls) spared unknown =
    let P = λ (l : List ℕ). (params : Params) → meaning l ≢ Ok (Some (Do (Create name params))) in
    unknown-lines name (history_after history (brings history line)) ls (All-tail P line ls spared)
    (unknown-meaning name history (meaning line) (All-head P line ls spared) unknown)

-- a stream that is dropped doesn't stand, and one that couldn't be didn't before
dropped-unknown : (name : List ℕ) (history : History) (refusal : Option Refusal) → refuses (state history) (Drop name) ≡ refusal →
    IsUnknown name (history_after history (unless_refused refusal (accepted_in false history (Drop name))))
unfolding stepped_from
dropped-unknown name history None accepted =
    ap (stands name) (state-push history (Drop name) New accepted) ∙ ap is_some (stream_named-dropped name (state history))
dropped-unknown name history (Some refusal) is =
    unknown-still name history (refused refusal) refl
    (elim (cases_Bool (stands name (state history))) [
      | inl known ↦ (let accepted = refuses-drop (state history) name in let none : refuses (state history) (Drop name) ≡ None = rw known at accepted in cc)
      | inr unknown ↦ unknown
    ])

-- so after a line that drops it, until a line creates it, it doesn't
pub lines-dropped : (history : History) (before between : List (List ℕ)) (dropping name : List ℕ) → meaning dropping ≡ Ok (Some (Do (Drop name))) →
    NoneCreates name between → stands name (state (plain_after history (before ++ dropping ∷ between))) ≡ false
lines-dropped history before between dropping name drops spared =
    let here = plain_after history before in
    let dropped : IsUnknown name (history_after here (brings here dropping)) =
    rw (ap (λ m. meaning_brings here m) drops) (dropped-unknown name here (refuses (state here) (Drop name)) refl) in
    rw plain_after-append (unknown-lines name (history_after here (brings here dropping)) between spared dropped)

-- and a query of it is refused
pub query-dropped : (history : History) (before between : List (List ℕ)) (dropping line : List ℕ) (query : Query) →
    meaning dropping ≡ Ok (Some (Do (Drop query.name))) → NoneCreates query.name between → meaning line ≡ Ok (Some (Ask query)) →
    brings (plain_after history (before ++ dropping ∷ between)) line ≡ refused Unknown
unfolding refuses_query
query-dropped history before between dropping line query drops spared means =
    let there = plain_after history (before ++ dropping ∷ between) in
    let unknown : IsUnknown query.name there = lines-dropped history before between dropping query.name drops spared in
    ap (λ m. meaning_brings there m) means ∙ brings-unanswered there query Unknown (rw unknown refl)

-- a stream that was created holds no value
pub created-empty : (history : History) (name : List ℕ) (params : Params) →
    (values_of (history ++ added (Create name params) ∷ []) name ≡ []) × (marked_of (history ++ added (Create name params) ∷ []) name ≡ [])
created-empty history name params =
    let given = given_to-created history name params New (same_name-same name) in
    (ap (λ g. g.plain) given, ap (λ g. marked_values g.landmarks) given)
