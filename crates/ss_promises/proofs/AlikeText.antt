-- What lines bring after the same events, whichever of their values are old.
use Rattle.ss_program.proofs.Common.{◌≡◌, ◌⊎◌, ◌∙◌, ℕ, ℤ, List, [], ◌∷◌, ◌++◌, length, Option, Some, None, Result, Ok, Err, refl, sym, ap, ap₂, inl, inr}
use Rattle.ss_program.proofs.Common.{arith, common_steps, All, false, flat_map, map, option_map, length-map, map-append, All-head, All-tail, listed}
use Rattle.ss_program.proofs.Common.{event_name, row_query, row_start, rows_of, row_count, whole_query, Event, End, Kind, Query, Refusal, Series, evidence_in}
use Rattle.ss_program.proofs.Common.{answer_from, with_certified, certificates_of, evidence_of, Evidence, meant-sayable, meaning, IsSayable, takes_value}
use Rattle.ss_program.proofs.Common.{Command, Do}
use Rattle.ss_program.proofs.Common.{Ask}
use Rattle.ss_program.proofs.Common.{Certify, Last, Values, Windows, is_free, history-old, state-old, answer_of, refuses_query, added, marked_values, newest_in}
use Rattle.ss_program.proofs.Common.{refuses_values, as_old, unfiltered_stream, unfiltered_window, IsHistory, refuses, refuses_reading, refuses_series, Stream}
use Rattle.ss_program.proofs.Common.{state, stream_named, ack_of, Outcome, Has, Presence, Maybe, Ack, seen_count, seen_of, seen_sum, Seen, Cut, reply_line}
use Rattle.ss_program.proofs.Common.{Reply, Refused, SeriesHead, WindowsHead, ListHead, Recovers, Stands, recovers, Brought, History, answer_replies, brings}
use Rattle.ss_program.proofs.Common.{certified, command_brings, history_after, line_text, meaning_brings, newest_replies, only_replies, row_shown, series_rows}
use Rattle.ss_program.proofs.Common.{stream_rows, text_brought, the_event, unless_refused, values_shown, windows_shown, plain_after, text_of, plain_talk}
use Rattle.ss_command.specs.declared.command.Command.TheVariants.{Series as AskRows, List as ListAll}
use Rattle.ss_model.specs.Answers.{outcome_of}
use Rattle.ss_report.specs.declared.reply.Reply.TheVariants.{Done}
use Rattle.ss_promises.specs.Alike.{AsksPresence, HaveSameEvents}
use Rattle.ss_promises.proofs.AlikeLemmas.{AreSeenAlike, ack-old, count-seen, newest-alike, outcome-old, refuses-old, refuses_query-old, refuses_reading-old}
use Rattle.ss_promises.proofs.AlikeLemmas.{refuses_values-old, rows-old, seen-old, sum-seen, windows-told}
use Rattle.ss_program.proofs.AnswerLemmas.{event-or-none}
use Rattle.ss_promises.proofs.OldLemmas.{kind-has, named-old, origins-alike, read-old}
use Rattle.ss_bounds.specs.declared.fraction.Fraction.{Fraction}
use Rattle.ss_catalog.specs.declared.query.Kind.TheVariants as kinds
use Rattle.ss_query.specs.Asked.{values_seen}

-- an image of the streams of a history but for their filters
pub Stands-old : (history : History) (image : List ℕ) → IsHistory history → Recovers (map unfiltered_stream (state history)) image →
    Stands (map as_old history) image
Stands-old history image whole is = record {
  is_history = history-old history whole;
  state = is ∙ ap recovers (sym (state-old history));
}

-- ---- evidence

values-alike : (one other : Seen) → AreSeenAlike one other → values_seen one ≡ values_seen other
values-alike one other alike =
    ap₂ (λ (sum : ℤ) (count : ℕ). (let values : Fraction = record { over = sum; under = count } in values))
    (sum-seen one.whole other.whole one.marked alike.whole ∙ ap (seen_sum other.whole) alike.marked)
    (count-seen one.whole other.whole one.marked alike.whole ∙ ap (seen_count other.whole) alike.marked)

evidence-alike : (kind : Kind) (end : End) (one other : Seen) → AreSeenAlike one other → evidence_of kind end one ≡ evidence_of kind end other
evidence-alike kind end one other alike =
    let made = λ (known : Fraction) (cuts : List Cut).
    (let certs = certificates_of kind end known cuts in
    let w : Evidence = record { answer = answer_from kind (with_certified known certs); known = known; certs = record { items = certs } } in
    w) in
    ap₂ made (values-alike one other alike) (ap₂ (λ (left right : Option Cut). listed left right) alike.left alike.right)

evidence-old : (streams : List Stream) (query : Query) (end : End) → evidence_in (map unfiltered_stream streams) query end ≡ evidence_in streams query end
evidence-old streams query end =
    read-old (λ (o : Option Stream). option_map (λ s. evidence_of query.kind end (seen_of query.kind query.from query.to s)) o)
    (λ s. ap Some (evidence-alike query.kind end _ _ (seen-old query.kind query.from query.to s))) query.name streams

-- ---- the text of what a command brings that only reads

-- the text of replies, unless there is a refusal
abbrev text_unless : Option Refusal → List ℕ → List ℕ
text_unless None text = text
text_unless (Some refusal) text = flat_map reply_line (Refused refusal ∷ [])

text-unless : (refusal : Option Refusal) (rows : List Reply) →
    text_brought (unless_refused refusal (only_replies rows)) ≡ text_unless refusal (flat_map reply_line rows)
text-unless None rows = refl
text-unless (Some refusal) rows = refl

-- what is said by a refusal and by replies that are read off streams
said-alike : (refuse : List Stream → Option Refusal) (rows : List Stream → List Reply) →
    ((streams : List Stream) → refuse (map unfiltered_stream streams) ≡ refuse streams) →
    ((streams : List Stream) → flat_map reply_line (rows (map unfiltered_stream streams)) ≡ flat_map reply_line (rows streams)) →
    (one other : History) → HaveSameEvents one other →
    text_brought (unless_refused (refuse (state one)) (only_replies (rows (state one))))
    ≡ text_brought (unless_refused (refuse (state other)) (only_replies (rows (state other))))
said-alike refuse rows refused told one other same =
    text-unless (refuse (state one)) (rows (state one))
    ∙ origins-alike (λ streams. text_unless (refuse streams) (flat_map reply_line (rows streams)))
    (λ streams. ap₂ text_unless (refused streams) (told streams)) one other same
    ∙ sym (text-unless (refuse (state other)) (rows (state other)))

series-old : (streams : List Stream) (series : Series) (numbers : List ℕ) → ((v : ℤ) → series.kind ≡ kinds.Has v → ⊥) →
    flat_map (λ row. row_shown (row_start series row) (outcome_of (map unfiltered_stream streams) (row_query series row))) numbers
    ≡ flat_map (λ row. row_shown (row_start series row) (outcome_of streams (row_query series row))) numbers
series-old streams series [] other = refl
series-old streams series (row ∷ numbers) other =
    ap₂ (λ (o : Option Outcome) (rows : List Reply). row_shown (row_start series row) o ++ rows) (outcome-old streams (row_query series row) other)
    (series-old streams series numbers other)

windows-old : (name : List ℕ) (streams : List Stream) →
    flat_map reply_line (windows_shown (stream_named name (map unfiltered_stream streams))) ≡ flat_map reply_line (windows_shown (stream_named name streams))
windows-old name streams =
    read-old (λ (o : Option Stream). flat_map reply_line (windows_shown o))
    (λ s. ap₂ (λ (n : ℕ) (text : List ℕ). reply_line (WindowsHead n) ++ text) (length-map s.windows unfiltered_window) (windows-told s.windows)) name streams

list-old : (streams : List Stream) →
    flat_map reply_line (ListHead (length (map unfiltered_stream streams)) ∷ stream_rows (map unfiltered_stream streams))
    ≡ flat_map reply_line (ListHead (length streams) ∷ stream_rows streams)
list-old streams =
    ap₂ (λ (n : ℕ) (rows : List Reply). flat_map reply_line (ListHead n ∷ rows)) (length-map streams unfiltered_stream) (rows-old streams)

-- ---- an event

more-same : (one other : History) (event : Event) → HaveSameEvents one other → HaveSameEvents (one ++ added event ∷ []) (other ++ added event ∷ [])
more-same one other event same =
    map-append as_old one (added event ∷ []) ∙ ap (λ h. h ++ as_old (added event) ∷ []) same ∙ sym (map-append as_old other (added event ∷ []))

event-alike : (one other : History) (event : Event) → HaveSameEvents one other → command_brings one (Do event) ≡ command_brings other (Do event)
event-alike one other event same =
    let accepting = λ (ack : Ack). (let brought : Brought = record { replies = Done ack ∷ []; event = Some event } in brought) in
    ap₂ (λ (refusal : Option Refusal) (ack : Ack). unless_refused refusal (accepting ack))
    (origins-alike (λ streams. refuses streams event) (λ streams. refuses-old streams event) one other same)
    (origins-alike (ack_of (event_name event)) (ack-old (event_name event)) (one ++ added event ∷ []) (other ++ added event ∷ [])
    (more-same one other event same))

-- ---- commands and lines

-- a series asks for no value
unvalued : (kind : Kind) → takes_value kind ≡ false → (v : ℤ) → kind ≡ kinds.Has v → ⊥
unvalued kind none v is = grind (arith, common_steps)

said-command : (one other : History) (command : Command) → HaveSameEvents one other → IsSayable command →
    ((query : Query) (v : ℤ) → command ≡ Ask query → query.kind ≡ kinds.Has v → ⊥) →
    text_brought (command_brings one command) ≡ text_brought (command_brings other command)
said-command one other (Do event) same sayable plain_talk = ap text_brought (event-alike one other event same)
said-command one other (Ask query) same sayable plain_talk =
    said-alike (λ streams. refuses_query streams query) (λ streams. answer_replies (outcome_of streams query)) (λ streams. refuses_query-old streams query)
    (λ streams. ap (λ o. flat_map reply_line (answer_replies o)) (outcome-old streams query (λ v is. plain_talk query v refl is))) one other same
said-command one other (Certify query end) same sayable plain_talk =
    said-alike (λ streams. refuses_query streams query) (λ streams. certified (evidence_in streams query end)) (λ streams. refuses_query-old streams query)
    (λ streams. ap (λ w. flat_map reply_line (certified w)) (evidence-old streams query end)) one other same
said-command one other (AskRows series) same sayable plain_talk =
    said-alike (λ streams. refuses_series streams series) (λ streams. SeriesHead series.kind (row_count series) ∷ series_rows streams series)
    (λ streams. refuses_query-old streams (whole_query series))
    (λ streams. ap (λ (rows : List Reply). flat_map reply_line (SeriesHead series.kind (row_count series) ∷ rows))
    (series-old streams series (rows_of series) (unvalued series.kind sayable.2))) one other same
said-command one other (Last name) same sayable plain_talk =
    said-alike (λ streams. refuses_reading streams name) (λ streams. newest_replies (newest_in streams name)) (λ streams. refuses_reading-old streams name)
    (λ streams. ap (λ told. flat_map reply_line (newest_replies told)) (newest-alike streams name)) one other same
said-command one other (Values name from to) same sayable plain_talk =
    said-alike (λ streams. refuses_values streams name from to) (λ streams. values_shown from to (stream_named name streams))
    (λ streams. refuses_values-old streams name from to)
    (λ streams. ap (flat_map reply_line) (read-old (values_shown from to) (λ s. refl) name streams)) one other same
said-command one other (Windows name) same sayable plain_talk =
    said-alike (λ streams. refuses_reading streams name) (λ streams. windows_shown (stream_named name streams))
    (λ streams. refuses_reading-old streams name) (λ streams. windows-old name streams) one other same
said-command one other ListAll same sayable plain_talk =
    origins-alike (λ streams. flat_map reply_line (ListHead (length streams) ∷ stream_rows streams)) list-old one other same

brought-command : (one other : History) (command : Command) → HaveSameEvents one other →
    (command_brings one command).event ≡ (command_brings other command).event
brought-command one other command same = elim (event-or-none command) [
  | inl is ↦ rw is.1 (ap (λ (b : Brought). b.event) (event-alike one other is.0 same))
  | inr none ↦ none false one ∙ sym (none false other)
]

said-meaning : (one other : History) (meant : Result (Option Command) Refusal) → HaveSameEvents one other →
    ((command : Command) → meant ≡ Ok (Some command) → IsSayable command) →
    ((query : Query) (v : ℤ) → meant ≡ Ok (Some (Ask query)) → query.kind ≡ kinds.Has v → ⊥) →
    text_brought (meaning_brings one meant) ≡ text_brought (meaning_brings other meant)
said-meaning one other (Err refusal) same sayable plain_talk = refl
said-meaning one other (Ok None) same sayable plain_talk = refl
said-meaning one other (Ok (Some command)) same sayable plain_talk =
    said-command one other command same (sayable command refl) (λ query v is. plain_talk query v (ap (λ c. Ok (Some c)) is))

brought-meaning : (one other : History) (meant : Result (Option Command) Refusal) → HaveSameEvents one other →
    (meaning_brings one meant).event ≡ (meaning_brings other meant).event
brought-meaning one other (Err refusal) same = refl
brought-meaning one other (Ok None) same = refl
brought-meaning one other (Ok (Some command)) same = brought-command one other command same

pub line-said : (one other : History) (line : List ℕ) → HaveSameEvents one other → (AsksPresence line → ⊥) → line_text one line ≡ line_text other line
line-said one other line same plain_talk =
    said-meaning one other (meaning line) same (meant-sayable line) (λ query v is has. plain_talk (query, v, is, has))

pub line-brought : (one other : History) (line : List ℕ) → HaveSameEvents one other → (brings one line).event ≡ (brings other line).event
line-brought one other line same = brought-meaning one other (meaning line) same

-- ---- lines in a row

still-same : (one other : History) (event : Option Event) → HaveSameEvents one other → HaveSameEvents (one ++ the_event event) (other ++ the_event event)
still-same one other None same = map-append as_old one [] ∙ ap (λ h. h ++ []) same ∙ sym (map-append as_old other [])
still-same one other (Some event) same = more-same one other event same

line-after : (one other : History) (line : List ℕ) → HaveSameEvents one other →
    HaveSameEvents (history_after one (brings one line)) (history_after other (brings other line))
line-after one other line same = rw (← line-brought one other line same) (still-same one other (brings one line).event same)

pub lines-after : (one other : History) (ls : List (List ℕ)) → HaveSameEvents one other → HaveSameEvents (plain_after one ls) (plain_after other ls)
lines-after one other [] same = same
lines-after one other (line ∷ ls) same =
    lines-after (history_after one (brings one line)) (history_after other (brings other line)) ls (line-after one other line same)

pub lines-said : (one other : History) (ls : List (List ℕ)) → HaveSameEvents one other → All (λ line. AsksPresence line → ⊥) ls →
    text_of (plain_talk one) ls ≡ text_of (plain_talk other) ls
lines-said one other [] same spared = refl
lines-said one other (line ∷ ls) same spared =
    let P = λ (l : List ℕ). AsksPresence l → ⊥ in
    ap₂ (λ (text rest : List ℕ). text ++ rest) (line-said one other line same (All-head P line ls spared))
    (lines-said (history_after one (brings one line)) (history_after other (brings other line)) ls (line-after one other line same)
    (All-tail P line ls spared))

-- ---- whether a value is there

-- what is known of it of the stream of a name
has-named : (query : Query) (v : ℤ) (known : Presence) (o : Option Stream) → query.kind ≡ kinds.Has v →
    option_map (answer_of query) (option_map unfiltered_stream o) ≡ Some (Has known) → (known ≡ Maybe) ⊎ (option_map (answer_of query) o ≡ Some (Has known))
has-named query v known None asked is = cc
has-named query v known (Some s) asked is =
    let told : answer_of query (unfiltered_stream s) ≡ Has known = cc in
    elim (kind-has query.kind v known (is_free s.landmarks) query.from query.to s.windows (marked_values s.landmarks) asked told) [
      | inl maybe ↦ inl maybe
      | inr same ↦ inr (ap Some same)
    ]

pub has-old : (history : History) (query : Query) (v : ℤ) (known : Presence) → query.kind ≡ kinds.Has v →
    outcome_of (state (map as_old history)) query ≡ Some (Has known) → (known ≡ Maybe) ⊎ (outcome_of (state history) query ≡ Some (Has known))
unfolding outcome_of
has-old history query v known asked is =
    has-named query v known (stream_named query.name (state history)) asked
    (ap (option_map (answer_of query)) (sym (named-old query.name (state history)))
    ∙ ap (λ streams. option_map (answer_of query) (stream_named query.name streams)) (sym (state-old history)) ∙ is)
