-- What stays of a cursor whatever is said, and what a line of sessions brings by what is heard.
use Rattle.ss_program.proofs.Common.{◌≡◌, ◌≢◌, ◌∙◌, ℕ, ◌+◌, ◌<◌, ◌-◌, List, [], ◌∷◌, length, map, take, drop, Option, Some, None, Result, Ok, Err, Bool, true}
use Rattle.ss_program.proofs.Common.{false, refl, sym, ap, arith, inl, inr, cases_Bool, cond-false, cond-true, eq-eqb, eqb-true, leb-true, ltb-true, drop-drop}
use Rattle.ss_program.proofs.Common.{drop-map, length-map, length-set, take-map, All-head, All-tail, cond_some, ◌==◌, ◌&&◌, if◌then◌else◌, is_some, nat_le}
use Rattle.ss_program.proofs.Common.{nat_lt, option_map, Form, Lines, Sessions, Frames, Follow, Event, Refusal, is_comment, meaning, Command, FrameState}
use Rattle.ss_program.proofs.Common.{unless_long, first_word, rest_of, first_that_applies, refuses, placed_of, Stream, state, stream_named, Placed, Cursor}
use Rattle.ss_program.proofs.Common.{Rows, Cursors, cursor_of, cursor_refusals, cursor_rows, flattened, with_cursor, order_said, session_of, spoken_of}
use Rattle.ss_program.proofs.Common.{spoken_to, spoken_words, Order, Spoken, Nothing, Unaddressed, To}
use Rattle.ss_promises.specs.Asked.{IsOrder, NoneCloses, heard_of, rows_asked, rows_asked_by}
use Rattle.ss_program.proofs.Common.{Ordered, close_brings, closes_cursor, next_brings, open_brings, opens_cursor, order_in, placed_rows}
use Rattle.ss_promises.specs.Asked.{rows_asked_in}
use Rattle.ss_program.proofs.Common.{showing, unless_unopened, History, accepted_frame, only_replies, text_said, window_rows, after_line, after_lines, Talk}
use Rattle.ss_program.proofs.Common.{Turn, begun, kept_spoken, meant_turn, turn_in, turn_of, turn_spoken, turn_to, writing}
use Rattle.ss_codec.proofs.WindowBytes.{three_tests}
use Rattle.ss_line.proofs.IndexLemmas.{slice_get-set_other}
use Rattle.ss_model.specs.declared.types.Window.{Window}
use Rattle.ss_report.specs.declared.reply.Reply.TheVariants.{Window as WindowRow}
use Rattle.ss_sessions.proofs.CursorLemmas.{cursor_of-with_cursor}
use Rattle.ss_sessions.specs.Cursors.{refuses_cursor}
use Rattle.ss_sessions.specs.declared.TheConstants.{ADDRESS}
use Rattle.ss_base.specs.declared.limits.TheConstants.{MOST_SESSIONS}
use Rattle.ss_program.proofs.CursorLemmas.{cursor-stands, cursor_of-with, next-shown}
use Rattle.ss_program.proofs.ReportLemmas.{after_lines-form}
use Rattle.ss_sessions.specs.declared.order.Order.TheVariants as orders
use Rattle.ss_program.proofs.MeantLemmas.{event-or-silent}

-- ---- how many cursors there are

count-opening : (refusal : Option Refusal) (cursors : Cursors) (session : ℕ) (o : Option Stream) →
    length (unless_unopened refusal cursors (opens_cursor cursors session o)).cursors ≡ length cursors
count-opening (Some r) cursors session o = refl
count-opening None cursors session None = refl
count-opening None cursors session (Some s) = length-set cursors session (Some (cursor_rows s))

count-showing : (cursors : Cursors) (session count : ℕ) (o : Option (List Placed)) → length (showing cursors session count o).cursors ≡ length cursors
count-showing cursors session count None = refl
count-showing cursors session count (Some rows) = length-set cursors session (Some (drop count rows))

count-closing : (cursors : Cursors) (session : ℕ) (o : Option (List Placed)) → length (closes_cursor cursors session o).cursors ≡ length cursors
count-closing cursors session None = refl
count-closing cursors session (Some rows) = length-set cursors session None

count-ordered : (framed : Bool) (history : History) (cursors : Cursors) (session : ℕ) (order : Order) →
    length (order_in framed history cursors session order).cursors ≡ length cursors
count-ordered framed history cursors session (orders.Command command) = refl
count-ordered framed history cursors session (orders.Open name) =
    count-opening (refuses_cursor (state history) name (cursor_of cursors session)) cursors session (stream_named name (state history))
count-ordered framed history cursors session (orders.Next count) = count-showing cursors session count (cursor_of cursors session)
count-ordered framed history cursors session orders.Close = count-closing cursors session (cursor_of cursors session)

count-to : (framed : Bool) (session : ℕ) (talk : Talk) (said : Result (Option Order) Refusal) →
    length (turn_to framed session talk said).cursors ≡ length talk.cursors
count-to framed session talk (Err refusal) = refl
count-to framed session talk (Ok None) = refl
count-to framed session talk (Ok (Some order)) = count-ordered framed talk.history talk.cursors session order

count-spoken : (framed : Bool) (talk : Talk) (spoken : Spoken) → length (turn_spoken framed talk spoken).cursors ≡ length talk.cursors
count-spoken framed talk Nothing = refl
count-spoken framed talk Unaddressed = refl
count-spoken framed talk (To session said) = count-to framed session talk said

count-kept : (framed : Bool) (talk : Talk) (line : Option (List ℕ)) → length (kept_spoken framed talk line).cursors ≡ length talk.cursors
count-kept framed talk None = refl
count-kept framed talk (Some line) = count-spoken framed talk (spoken_of line)

count-writing : (talk : Talk) (event : Event) (frame : Option FrameState) → length (writing talk event frame).cursors ≡ length talk.cursors
count-writing talk event None = refl
count-writing talk event (Some frame) = refl

count-meant : (talk : Talk) (meant : Result (Option Command) Refusal) → length (meant_turn talk meant).cursors ≡ length talk.cursors
count-meant talk meant = elim (event-or-silent meant) [
  | inl is ↦ rw is.1 (count-writing talk is.0 (accepted_frame (refuses (state talk.history) is.0) talk.history is.0))
  | inr none ↦ ap (λ (t : Turn). length t.cursors) (none talk)
]

count-in : (form : Form) (talk : Talk) (line : List ℕ) → length (turn_in form talk line).cursors ≡ length talk.cursors
count-in (Lines framed) talk line = refl
count-in (Sessions framed) talk line = count-kept framed talk (unless_long line)
count-in Frames talk line = count-meant talk (meaning line)
count-in Follow talk piece = refl

count-after : (talk : Talk) (ls : List (List ℕ)) → length (after_lines talk ls).cursors ≡ length talk.cursors
count-after talk [] = refl
count-after talk (l ∷ ls) = count-after (after_line talk l) ls ∙ count-in talk.form talk l

-- ---- what is heard of a line

-- what a line brings by what is heard of it
pub kept-heard : (framed : Bool) (talk : Talk) (line : Option (List ℕ)) (spoken : Spoken) → option_map spoken_of line ≡ Some spoken →
    kept_spoken framed talk line ≡ turn_spoken framed talk spoken
kept-heard framed talk None spoken heard = cc
kept-heard framed talk (Some line) spoken heard = let is : spoken_of line ≡ spoken = cc in ap (turn_spoken framed talk) is

pub turn-heard : (framed : Bool) (talk : Talk) (line : List ℕ) (spoken : Spoken) → talk.form ≡ Sessions framed → heard_of line ≡ Some spoken →
    turn_of talk line ≡ turn_spoken framed talk spoken
turn-heard framed talk line spoken form heard = ap (λ f. turn_in f talk line) form ∙ kept-heard framed talk (unless_long line) spoken heard

-- the number of a session is below that of all
session-below : (word : List ℕ) (session : ℕ) → session_of word ≡ Some session → session < MOST_SESSIONS
session-below [] session is = cc
session-below (a ∷ []) session is = cc
session-below (a ∷ digit ∷ []) session is =
    let both = cond_some (a == ADDRESS && nat_le 48 digit && nat_lt digit (48 + MOST_SESSIONS)) (digit - 48) session is in
    let tests = three_tests (a == ADDRESS) (nat_le 48 digit) (nat_lt digit (48 + MOST_SESSIONS)) both.0 in
    let low = leb-true 48 digit tests.1 in
    let high = ltb-true digit (48 + MOST_SESSIONS) tests.2 in
    let same = both.1 in
    omega (arith, low, high, same)
session-below (a ∷ b ∷ c ∷ cs) session is = cc

-- what is said to a session is the rest of a line
addressed : (o : Option ℕ) (rest : List ℕ) (session : ℕ) (said : Result (Option Order) Refusal) → spoken_to o rest ≡ To session said →
    (o ≡ Some session) × (order_said rest ≡ said)
addressed None rest session said is = cc
addressed (Some other) rest session said is = (cc, cc)

words-to : (word rest : List ℕ) (session : ℕ) (said : Result (Option Order) Refusal) → spoken_words word rest ≡ To session said →
    (session < MOST_SESSIONS) × (order_said rest ≡ said)
words-to [] rest session said is = cc
words-to (b ∷ bs) rest session said is =
    let it = addressed (session_of (b ∷ bs)) rest session said is in
    (session-below (b ∷ bs) session it.0, it.1)

comment-to : (comment : Bool) (word rest : List ℕ) (session : ℕ) (said : Result (Option Order) Refusal) →
    (if comment then Nothing else spoken_words word rest) ≡ To session said → (session < MOST_SESSIONS) × (order_said rest ≡ said)
comment-to true word rest session said is = cc
comment-to false word rest session said is = words-to word rest session said is

pub kept-to : (line : Option (List ℕ)) (session : ℕ) (said : Result (Option Order) Refusal) → option_map spoken_of line ≡ Some (To session said) →
    (session < MOST_SESSIONS) × ((rest : List ℕ) × (order_said rest ≡ said))
kept-to None session said is = cc
kept-to (Some line) session said is =
    let spoken : spoken_of line ≡ To session said = cc in
    let it = comment-to (is_comment line) (first_word line) (rest_of line) session said spoken in
    (it.0, (rest_of line, it.1))

-- ---- a cursor stays that of its opening

module _ (session : ℕ) (rows : List Placed) (cursors : Cursors) (has : cursor_of cursors session ≡ Some rows) where
  -- while another session's is opened, shown or closed
  cursor_of-other : (other : ℕ) (cursor : Option (List Placed)) → other == session ≡ false →
      cursor_of (with_cursor cursors other cursor) session ≡ Some rows
  cursor_of-other other cursor apart =
      ap flattened (slice_get-set_other cursors other session cursor (λ same. let yes = eq-eqb other session (sym same) in cc)) ∙ has

  opening-other : (other : ℕ) (refusal : Option Refusal) (o : Option Stream) → other == session ≡ false →
      cursor_of (unless_unopened refusal cursors (opens_cursor cursors other o)).cursors session ≡ Some rows
  opening-other other (Some r) o apart = has
  opening-other other None None apart = has
  opening-other other None (Some s) apart = cursor_of-other other (Some (cursor_rows s)) apart

  showing-other : (other count : ℕ) (o : Option (List Placed)) → other == session ≡ false →
      cursor_of (showing cursors other count o).cursors session ≡ Some rows
  showing-other other count None apart = has
  showing-other other count (Some shown) apart = cursor_of-other other (Some (drop count shown)) apart

  closing-other : (other : ℕ) (o : Option (List Placed)) → other == session ≡ false → cursor_of (closes_cursor cursors other o).cursors session ≡ Some rows
  closing-other other None apart = has
  closing-other other (Some shown) apart = cursor_of-other other None apart

  -- and its session opens none beside it
  opening-busy : (o : Option Stream) →
      (unless_unopened (first_that_applies (cursor_refusals (is_some o) (Some rows))) cursors (opens_cursor cursors session o)).cursors ≡ cursors
  opening-busy None = refl
  opening-busy (Some s) = refl

  open-own : (history : History) (name : List ℕ) → cursor_of (open_brings history cursors session name).cursors session ≡ Some rows
  unfolding refuses_cursor
  open-own history name =
      ap (λ c. cursor_of (unless_unopened (refuses_cursor (state history) name c) cursors
      (opens_cursor cursors session (stream_named name (state history)))).cursors session) has
      ∙ ap (λ cs. cursor_of cs session) (opening-busy (stream_named name (state history))) ∙ has

  open-keeps : (history : History) (other : ℕ) (name : List ℕ) → cursor_of (open_brings history cursors other name).cursors session ≡ Some rows
  open-keeps history other name = elim (cases_Bool (other == session)) [
    | inl same ↦
        rw (eqb-true other session same) (open-own history name)
    | inr apart ↦
        opening-other other (refuses_cursor (state history) name (cursor_of cursors other)) (stream_named name (state history)) apart
  ]

  next-own : (count : ℕ) → cursor_of (next_brings cursors session count).cursors session ≡ Some (drop count rows)
  next-own count =
      ap (λ (o : Ordered). cursor_of o.cursors session) (next-shown cursors session count rows has)
      ∙ cursor_of-with cursors session rows has (Some (drop count rows))

  next-keeps : (other count : ℕ) →
      cursor_of (next_brings cursors other count).cursors session ≡ Some (drop (if other == session then count else 0) rows)
  next-keeps other count = elim (cases_Bool (other == session)) [
    | inl same ↦
        rw (eqb-true other session same) (next-own count) ∙ ap (λ n. Some (drop n rows)) (sym (cond-true (other == session) count 0 same))
    | inr apart ↦
        showing-other other count (cursor_of cursors other) apart ∙ ap (λ n. Some (drop n rows)) (sym (cond-false (other == session) count 0 apart))
  ]

  close-keeps : (other : ℕ) → other ≢ session → cursor_of (close_brings cursors other).cursors session ≡ Some rows
  close-keeps other apart = elim (cases_Bool (other == session)) [
    | inl same ↦ absurd (apart (eqb-true other session same))
    | inr differ ↦ closing-other other (cursor_of cursors other) differ
  ]

  order-keeps : (framed : Bool) (history : History) (other : ℕ) (order : Order) → To other (Ok (Some order)) ≢ To session (Ok (Some orders.Close)) →
      cursor_of (order_in framed history cursors other order).cursors session ≡ Some (drop (rows_asked_by session (To other (Ok (Some order)))) rows)
  order-keeps framed history other (orders.Command command) spared = has
  order-keeps framed history other (orders.Open name) spared = open-keeps history other name
  order-keeps framed history other (orders.Next count) spared = next-keeps other count
  order-keeps framed history other orders.Close spared = close-keeps other (λ same. spared (ap (λ k. To k (Ok (Some orders.Close))) same))

module _ (session : ℕ) where
  -- whatever is said but its close, as many rows are taken off as are asked for
  spoken-keeps : (framed : Bool) (talk : Talk) (rows : List Placed) (spoken : Spoken) → cursor_of talk.cursors session ≡ Some rows →
      spoken ≢ To session (Ok (Some orders.Close)) →
      cursor_of (turn_spoken framed talk spoken).cursors session ≡ Some (drop (rows_asked_by session spoken) rows)
  spoken-keeps framed talk rows Nothing has spared = has
  spoken-keeps framed talk rows Unaddressed has spared = has
  spoken-keeps framed talk rows (To other (Err refusal)) has spared = has
  spoken-keeps framed talk rows (To other (Ok None)) has spared = has
  spoken-keeps framed talk rows (To other (Ok (Some order))) has spared = order-keeps session rows talk.cursors has framed talk.history other order spared

  kept-keeps : (framed : Bool) (talk : Talk) (rows : List Placed) (line : Option (List ℕ)) → cursor_of talk.cursors session ≡ Some rows →
      option_map spoken_of line ≢ Some (To session (Ok (Some orders.Close))) →
      cursor_of (kept_spoken framed talk line).cursors session ≡ Some (drop (rows_asked_in session (option_map spoken_of line)) rows)
  kept-keeps framed talk rows None has spared = has
  kept-keeps framed talk rows (Some line) has spared = spoken-keeps framed talk rows (spoken_of line) has (λ is. spared (ap (λ s. Some s) is))

  lines-keep : (framed : Bool) (talk : Talk) (rows : List Placed) (ls : List (List ℕ)) → talk.form ≡ Sessions framed →
      cursor_of talk.cursors session ≡ Some rows →
      NoneCloses session ls → cursor_of (after_lines talk ls).cursors session ≡ Some (drop (rows_asked session ls) rows)
  lines-keep framed talk rows [] form has spared = has
  lines-keep framed talk rows (l ∷ ls) form has spared =
      let first = All-head (λ line. heard_of line ≢ Some (To session (Ok (Some orders.Close)))) l ls spared in
      let rest = All-tail (λ line. heard_of line ≢ Some (To session (Ok (Some orders.Close)))) l ls spared in
      let asked = rows_asked_in session (heard_of l) in
      let now = ap (λ f. cursor_of (turn_in f talk l).cursors session) form ∙ kept-keeps framed talk rows (unless_long l) has first in
      lines-keep framed (after_line talk l) (drop asked rows) ls form now rest
      ∙ ap (λ (left : List Placed). Some left) (drop-drop (rows_asked session ls) asked rows)

-- ---- what a cursor shows

-- the rows of a stream's windows, as a cursor has them
shown-windows : (windows : List Window) → placed_rows (map placed_of windows) ≡ map (λ w. WindowRow (placed_of w)) windows
shown-windows [] = refl
shown-windows (w ∷ ws) = ap (λ rs. WindowRow (placed_of w) ∷ rs) (shown-windows ws)

shown-rows : (s : Stream) (count given : ℕ) → placed_rows (take count (drop given (cursor_rows s))) ≡ take count (drop given (window_rows s))
shown-rows s count given =
    sym (take-map (λ p. WindowRow p) count (drop given (cursor_rows s)))
    ∙ ap (take count) (sym (drop-map (λ p. WindowRow p) given (cursor_rows s)) ∙ ap (drop given) (shown-windows s.windows))

-- what asking for rows brings
next-rows : (cursors : Cursors) (session count : ℕ) (rows : List Placed) → cursor_of cursors session ≡ Some rows →
    (next_brings cursors session count).brought ≡ only_replies (Rows (length (placed_rows (take count rows))) ∷ placed_rows (take count rows))
next-rows cursors session count rows has =
    ap (λ (o : Ordered). o.brought) (next-shown cursors session count rows has)
    ∙ ap (λ n. only_replies (Rows n ∷ placed_rows (take count rows))) (sym (length-map (take count rows) (λ p. WindowRow p)))

-- the stream of a cursor that is opened
opened-over : (history : History) (cursors : Cursors) (session : ℕ) (name : List ℕ) → session < length cursors →
    refuses_cursor (state history) name (cursor_of cursors session) ≡ None →
    (s : Stream) × (stream_named name (state history) ≡ Some s)
    × (cursor_of (open_brings history cursors session name).cursors session ≡ Some (cursor_rows s))
opened-over history cursors session name inside none =
    let s = cursor-stands (state history) name (cursor_of cursors session) none in (
      s.0,
      s.1,
      ap (λ r. cursor_of (unless_unopened r cursors (opens_cursor cursors session (stream_named name (state history)))).cursors session) none
          ∙ ap (λ o. cursor_of (opens_cursor cursors session o).cursors session) s.1
          ∙ cursor_of-with_cursor cursors session (Some (cursor_rows s.0)) inside,
    )

-- the reply to its opening
pub cursor-opens : (framed : Bool) (talk : Talk) (line name : List ℕ) (session : ℕ) → talk.form ≡ Sessions framed → IsOrder session (orders.Open name) line →
    refuses_cursor (state talk.history) name (cursor_of talk.cursors session) ≡ None →
    (s : Stream) × (stream_named name (state talk.history) ≡ Some s)
    × ((turn_of talk line).says ≡ text_said (Some session) (only_replies (Cursor (length s.windows) ∷ [])))
cursor-opens framed talk line name session form opens none =
    let s = cursor-stands (state talk.history) name (cursor_of talk.cursors session) none in (
      s.0,
      s.1,
      ap (λ (t : Turn). t.says) (turn-heard framed talk line (To session (Ok (Some (orders.Open name)))) form opens)
          ∙ ap (λ r. text_said (Some session)
          (unless_unopened r talk.cursors (opens_cursor talk.cursors session (stream_named name (state talk.history)))).brought) none
          ∙ ap (λ o. text_said (Some session) (opens_cursor talk.cursors session o).brought) s.1,
    )

pub cursor-shows : (framed : Bool) (talk : Talk) (between : List (List ℕ)) (start line name : List ℕ) (session count : ℕ) → talk.form ≡ Sessions framed →
    length talk.cursors ≡ MOST_SESSIONS → IsOrder session (orders.Open name) start →
    refuses_cursor (state talk.history) name (cursor_of talk.cursors session) ≡ None → NoneCloses session between →
    IsOrder session (orders.Next count) line →
    (s : Stream) × (stream_named name (state talk.history) ≡ Some s)
    × (let rows = take count (drop (rows_asked session between) (window_rows s)) in
    (turn_of (after_lines talk (start ∷ between)) line).says ≡ text_said (Some session) (only_replies (Rows (length rows) ∷ rows)))
cursor-shows framed talk between start line name session count form all opens none spared asks =
    let below = (kept-to (unless_long start) session (Ok (Some (orders.Open name))) opens).0 in
    let over = opened-over talk.history talk.cursors session name (omega (arith, below, all)) none in
    let s = over.0 in
    let given = rows_asked session between in
    let first = ap (λ (t : Turn). cursor_of t.cursors session) (turn-heard framed talk start (To session (Ok (Some (orders.Open name)))) form opens) ∙ over.2 in
    let next = after_lines talk (start ∷ between) in
    let left = lines-keep session framed (after_line talk start) (cursor_rows s) between form first spared in
    let turn = turn-heard framed next line (To session (Ok (Some (orders.Next count)))) (after_lines-form talk (start ∷ between) ∙ form) asks in (
      s,
      over.1,
      ap (λ (t : Turn). t.says) turn
          ∙ ap (text_said (Some session)) (next-rows next.cursors session count (drop given (cursor_rows s)) left)
          ∙ ap (λ rows. text_said (Some session) (only_replies (Rows (length rows) ∷ rows))) (shown-rows s count given),
    )

pub cursor-shows-begun : (framed : Bool) (history : History) (before : List (List ℕ)) →
    length (after_lines (begun (Sessions framed) history) before).cursors ≡ MOST_SESSIONS
cursor-shows-begun framed history before = count-after (begun (Sessions framed) history) before
