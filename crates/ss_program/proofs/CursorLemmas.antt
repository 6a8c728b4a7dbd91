-- Cursors: what a session's cursor is after it was changed, and what opening one brings.
use Rattle.ss_program.proofs.Common.{◌≡◌, ◌↔◌, ◌∙◌, ℕ, zero, suc, ◌<◌, Bool, true, false, List, [], ◌∷◌, length, Option, Some, None, Result, Err, refl, sym, ap}
use Rattle.ss_program.proofs.Common.{inl, inr, IsTrue, IfSome, ◌+◌, ◌≤◌, min, take, take_all, drop, arith, length-append, length-map, cases_lt, slice_get_cases}
use Rattle.ss_program.proofs.Common.{slice_get_within, slice_get, is_some, not, option_map, slice_set, Refusal, first_that_applies, stands, placed_of, Stream}
use Rattle.ss_program.proofs.Common.{state, stream_named, Placed, Reply, Cursor, Refused, Window, Cursors, cursor_of, cursor_rows, flattened, cursor_opened}
use Rattle.ss_program.proofs.Common.{with_cursor, refusal_of, Ordered, close_brings, closes_cursor, leaves_cursors, next_brings, open_brings, opens_cursor}
use Rattle.ss_program.proofs.Common.{placed_rows, showing, unless_unopened, History, only_replies, refused, text_said, said_line}
use Rattle.ss_sessions.specs.Cursors.{refuses_cursor}
use Rattle.ss_sessions.specs.Opened.{HasOpened}
use Rattle.ss_sessions.specs.declared.error.CursorError.{CursorError}
use Rattle.ss_sessions.specs.declared.error.CursorRefusal.{CursorRefusal}
use Rattle.ss_sessions.specs.declared.error.CursorRefusal.TheVariants.{Unknown, Busy}
use Rattle.ss_store.proofs.OneOfMany.{set-same, slice_get-set}
use Rattle.ss_program.proofs.TextLemmas.{said_line-some}
use Rattle.ss_catalog.specs.declared.refusal.Refusal.TheVariants as refusals
use Rattle.ss_sessions.specs.declared.error.CursorError.TheVariants as errors

-- ---- the cursors of sessions

-- an element that is replaced twice is the later one
slice_set-twice : {X : Type 0} (xs : List X) (i : ℕ) (x y : X) → slice_set (slice_set xs i x) i y ≡ slice_set xs i y
slice_set-twice [] i x y = refl
slice_set-twice (z ∷ zs) zero x y = refl
slice_set-twice (z ∷ zs) (suc i) x y = ap (λ l. z ∷ l) (slice_set-twice zs i x y)

module _ (cursors : Cursors) (session : ℕ) (rows : List Placed) (has : cursor_of cursors session ≡ Some rows) where
  -- a session that has a cursor is one of those that there are
  at-cursor : slice_get cursors session ≡ Some (Some rows)
  at-cursor = elim (slice_get_cases cursors session).1 [
    | inl here ↦ (let is : flattened (slice_get cursors session) ≡ here.0 = ap flattened here.2 in
        here.2 ∙ ap (λ c. Some c) (sym is ∙ has))
    | inr past ↦ (let none : flattened (slice_get cursors session) ≡ None = ap flattened past.1 in cc)
  ]

  -- its own cursor in its place leaves the cursors as they are
  pub with_cursor-same : with_cursor cursors session (Some rows) ≡ cursors
  with_cursor-same = set-same cursors session (Some rows) at-cursor

  -- it has the cursor that it is given
  pub cursor_of-with : (cursor : Option (List Placed)) → cursor_of (with_cursor cursors session cursor) session ≡ cursor
  cursor_of-with cursor = ap flattened (slice_get-set cursors session cursor (slice_get_within cursors session (Some rows) at-cursor))

-- and only the last of those
pub with_cursor-twice : (cursors : Cursors) (session : ℕ) (first second : Option (List Placed)) →
    with_cursor (with_cursor cursors session first) session second ≡ with_cursor cursors session second
with_cursor-twice cursors session first second = slice_set-twice cursors session first second

-- the rows that a session was given are those that it has
given-rows : (cursors : Cursors) (session : ℕ) (given rows : List Placed) →
    cursor_of (with_cursor cursors session (Some given)) session ≡ Some rows → given ≡ rows
given-rows [] session given rows has = cc
given-rows (c ∷ cs) zero given rows has = cc
given-rows (c ∷ cs) (suc session) given rows has = given-rows cs session given rows has

-- ---- why a cursor is refused

-- by whether the stream stands, and whether the session has a cursor
abbrev reasons : Bool → Bool → Option Refusal
reasons stands busy = first_that_applies ((not stands, refusals.Unknown) ∷ (busy, refusals.Busy) ∷ [])

reasons-none : (stands busy : Bool) → (reasons stands busy ≡ Some refusals.Unknown → ⊥) → (reasons stands busy ≡ Some refusals.Busy → ⊥) →
    reasons stands busy ≡ None
reasons-none false busy known idle = absurd (known refl)
reasons-none true true known idle = absurd (idle refl)
reasons-none true false known idle = refl

reasons-stands : (o : Option Stream) (busy : Bool) → reasons (is_some o) busy ≡ None → (s : Stream) × (o ≡ Some s)
reasons-stands None busy none = cc
reasons-stands (Some s) busy none = (s, refl)

-- it isn't, where the answer to its opening isn't a refusal
pub unrefused-cursor : (streams : List Stream) (name : List ℕ) (cursor : Option (List Placed)) (result : Result ℕ CursorError) →
    ((r : CursorRefusal) → (result ≡ Err (errors.Refused r)) ↔ (refuses_cursor streams name cursor ≡ Some (refusal_of r))) →
    ((r : CursorRefusal) → result ≡ Err (errors.Refused r) → ⊥) → refuses_cursor streams name cursor ≡ None
unfolding refuses_cursor
unrefused-cursor streams name cursor result why other =
    reasons-none (stands name streams) (is_some cursor) (λ is. other Unknown ((why Unknown).1 is)) (λ is. other Busy ((why Busy).1 is))

-- one that isn't refused is over a stream that stands
pub cursor-stands : (streams : List Stream) (name : List ℕ) (cursor : Option (List Placed)) → refuses_cursor streams name cursor ≡ None →
    (s : Stream) × (stream_named name streams ≡ Some s)
unfolding refuses_cursor
cursor-stands streams name cursor none = reasons-stands (stream_named name streams) (is_some cursor) none

-- ---- what opening a cursor brings

module _ (history : History) (cursors : Cursors) (session : ℕ) (name : List ℕ) where
  -- the refusal, where it is refused
  pub open-refused : (refusal : Refusal) → refuses_cursor (state history) name (cursor_of cursors session) ≡ Some refusal →
      open_brings history cursors session name ≡ leaves_cursors cursors (refused refusal)
  open-refused refusal is = ap (λ r. unless_unopened r cursors (opens_cursor cursors session (stream_named name (state history)))) is

  -- and otherwise a cursor over the stream
  open-brings : (s : Stream) → refuses_cursor (state history) name (cursor_of cursors session) ≡ None → stream_named name (state history) ≡ Some s →
      open_brings history cursors session name ≡ opens_cursor cursors session (Some s)
  open-brings s none is =
      ap (λ r. unless_unopened r cursors (opens_cursor cursors session (stream_named name (state history)))) none ∙ ap (λ o. opens_cursor cursors session o) is

  -- one that isn't refused is over a stream that stands
  pub open-wants_memory : refuses_cursor (state history) name (cursor_of cursors session) ≡ None →
      IsTrue (open_brings history cursors session name).wants_memory
  open-wants_memory none =
      let s = cursor-stands (state history) name (cursor_of cursors session) none in
      ap (λ (o : Ordered). o.wants_memory) (open-brings s.0 none s.1)

  -- the rows are its windows
  pub open-opened : (after : Cursors) (count : ℕ) → refuses_cursor (state history) name (cursor_of cursors session) ≡ None →
      cursor_opened cursors session name (state history) ≡ Some after → HasOpened session cursors after count →
      ((open_brings history cursors session name).brought.replies ≡ Cursor count ∷ []) × ((open_brings history cursors session name).cursors ≡ after)
  open-opened after count none is has =
      let s = cursor-stands (state history) name (cursor_of cursors session) none in
      let over : with_cursor cursors session (Some (cursor_rows s.0)) ≡ after = (let both = rw s.1 at is in cc) in
      let same = given-rows cursors session (cursor_rows s.0) has.rows (ap (λ c. cursor_of c session) over ∙ has.cursor) in
      let all : length s.0.windows ≡ count =
      sym (length-map s.0.windows placed_of) ∙ ap (λ (rows : List Placed). length rows) same ∙ sym has.count in
      let brings = open-brings s.0 none s.1 in (
        ap (λ (o : Ordered). o.brought.replies) brings ∙ ap (λ n. Cursor n ∷ []) all,
        ap (λ (o : Ordered). o.cursors) brings ∙ over,
      )

-- ---- what is said of a cursor

-- an order is answered by a line at least
one-some : (session : ℕ) (reply : Reply) → 0 < length (text_said (Some session) (only_replies (reply ∷ [])))
one-some session reply = omega (arith, said_line-some (Some session) reply, length-append (said_line (Some session) reply) [])

opening-some : (cursors : Cursors) (session : ℕ) (o : Option Stream) (busy : Bool) →
    0 < length (text_said (Some session) (unless_unopened (reasons (is_some o) busy) cursors (opens_cursor cursors session o)).brought)
opening-some cursors session None busy = one-some session (Refused refusals.Unknown)
opening-some cursors session (Some s) true = one-some session (Refused refusals.Busy)
opening-some cursors session (Some s) false = one-some session (Cursor (length s.windows))

pub open-some : (history : History) (cursors : Cursors) (session : ℕ) (name : List ℕ) →
    0 < length (text_said (Some session) (open_brings history cursors session name).brought)
unfolding refuses_cursor
open-some history cursors session name = opening-some cursors session (stream_named name (state history)) (is_some (cursor_of cursors session))

-- a cursor form adds no event
unopened-event : (refusal : Option Refusal) (cursors : Cursors) (session : ℕ) (o : Option Stream) →
    (unless_unopened refusal cursors (opens_cursor cursors session o)).brought.event ≡ None
unopened-event None cursors session None = refl
unopened-event None cursors session (Some s) = refl
unopened-event (Some refusal) cursors session o = refl

pub open-event : (history : History) (cursors : Cursors) (session : ℕ) (name : List ℕ) → (open_brings history cursors session name).brought.event ≡ None
open-event history cursors session name =
    unopened-event (refuses_cursor (state history) name (cursor_of cursors session)) cursors session (stream_named name (state history))

showing-event : (cursors : Cursors) (session count : ℕ) (o : Option (List Placed)) → (showing cursors session count o).brought.event ≡ None
showing-event cursors session count None = refl
showing-event cursors session count (Some rows) = refl

pub next-event : (cursors : Cursors) (session count : ℕ) → (next_brings cursors session count).brought.event ≡ None
next-event cursors session count = showing-event cursors session count (cursor_of cursors session)

closing-event : (cursors : Cursors) (session : ℕ) (o : Option (List Placed)) → (closes_cursor cursors session o).brought.event ≡ None
closing-event cursors session None = refl
closing-event cursors session (Some rows) = refl

pub close-event : (cursors : Cursors) (session : ℕ) → (close_brings cursors session).brought.event ≡ None
close-event cursors session = closing-event cursors session (cursor_of cursors session)

-- ---- the rows of a cursor, one after the other

none-left : (rows : List Placed) (place : ℕ) → slice_get (drop place rows) 0 ≡ None → length rows ≤ place
none-left [] place is = omega arith
none-left (r ∷ rs) zero is = cc
none-left (r ∷ rs) (suc place) is = omega (arith, none-left rs place is)

placed-at : (rows : List Placed) (count place : ℕ) (row : Placed) → place < count → slice_get (drop place rows) 0 ≡ Some row →
    slice_get (placed_rows (take count rows)) place ≡ Some (Window row)
placed-at [] count zero row less is = cc
placed-at [] count (suc place) row less is = cc
placed-at (r ∷ rs) zero place row less is = absurd (omega (arith, less))
placed-at (r ∷ rs) (suc count) zero row less is = ap (λ (o : Option Placed). option_map (λ p. Window p) o) is
placed-at (r ∷ rs) (suc count) (suc place) row less is = placed-at rs count place row (omega (arith, less)) is

drop-suc : (rows : List Placed) (place : ℕ) → drop 1 (drop place rows) ≡ drop (suc place) rows
drop-suc [] zero = refl
drop-suc [] (suc place) = refl
drop-suc (r ∷ rs) zero = refl
drop-suc (r ∷ rs) (suc place) = drop-suc rs place

suc-next : (place : ℕ) → suc place ≡ place + 1
suc-next place = omega arith

drop-next : (rows : List Placed) (place : ℕ) → drop 1 (drop place rows) ≡ drop (place + 1) rows
drop-next rows place = drop-suc rows place ∙ ap (λ n. drop n rows) (suc-next place)

module _ (cursors : Cursors) (session : ℕ) (rows : List Placed) (has : cursor_of cursors session ≡ Some rows) (now : Cursors) (place : ℕ)
    (is : now ≡ with_cursor cursors session (Some (drop place rows))) where
  -- the cursor once so many rows were given
  pub next-left : cursor_of now session ≡ Some (drop place rows)
  next-left = ap (λ c. cursor_of c session) is ∙ cursor_of-with cursors session rows has (Some (drop place rows))

  -- the row that it gives next
  pub next-row : (count : ℕ) (row : Placed) → IfSome (cursor_of now session) (λ left. Some row ≡ slice_get left 0) → place < count →
      slice_get (placed_rows (take count rows)) place ≡ Some (Window row)
  next-row count row next less = placed-at rows count place row less (sym (rw next-left at next))

  -- and none, where none is left
  pub next-none : IfSome (cursor_of now session) (λ left. None ≡ slice_get left 0) → length rows ≤ place
  next-none next = none-left rows place (sym (rw next-left at next))

  -- the cursor after that row
  pub next-rest : (then : Cursors) → then ≡ with_cursor now session (option_map (drop 1) (cursor_of now session)) →
      then ≡ with_cursor cursors session (Some (drop (place + 1) rows))
  next-rest then gives =
      gives ∙ ap (λ c. with_cursor now session (option_map (drop 1) c)) next-left
      ∙ ap (λ c. with_cursor c session (Some (drop 1 (drop place rows)))) is
      ∙ with_cursor-twice cursors session (Some (drop place rows)) (Some (drop 1 (drop place rows)))
      ∙ ap (λ rs. with_cursor cursors session (Some rs)) (drop-next rows place)

-- ---- what showing the next rows brings

pub a-cursor : (o : Option (List Placed)) (left : ℕ) → Some left ≡ option_map (λ (rows : List Placed). length rows) o →
    (rows : List Placed) × (o ≡ Some rows) × (left ≡ length rows)
a-cursor None left is = cc
a-cursor (Some rows) left is = (rows, refl, cc)

pub next-shown : (cursors : Cursors) (session count : ℕ) (rows : List Placed) → cursor_of cursors session ≡ Some rows →
    next_brings cursors session count ≡ showing cursors session count (Some rows)
next-shown cursors session count rows has = ap (λ o. showing cursors session count o) has

-- so many rows are shown as there are, where these are some that the cursor has
pub fits-rows : (o : Option (List Placed)) (count : ℕ) → (had : List Placed) × (o ≡ Some had) × (count ≤ length had) → (rows : List Placed) →
    o ≡ Some rows → count ≤ length rows
fits-rows o count left rows is =
    let both : Some left.0 ≡ Some rows = sym left.1 ∙ is in
    let same : left.0 ≡ rows = cc in
    rw same at left.2

pub placed-all : (rows : List Placed) (count : ℕ) → count ≤ length rows → count ≡ length (placed_rows (take count rows))
placed-all [] zero fits = refl
placed-all [] (suc count) fits = absurd (omega (arith, fits))
placed-all (r ∷ rs) zero fits = refl
placed-all (r ∷ rs) (suc count) fits = omega (arith, placed-all rs count (omega (arith, fits)))

-- the lesser of the rows that are asked for and those that are left
taken-most : (rows : List Placed) (count : ℕ) → count ≤ length rows → count ≡ length (take count rows)
taken-most [] zero fits = refl
taken-most [] (suc count) fits = absurd (omega (arith, fits))
taken-most (r ∷ rs) zero fits = refl
taken-most (r ∷ rs) (suc count) fits = omega (arith, taken-most rs count (omega (arith, fits)))

drop-past : (rows : List Placed) (count : ℕ) → length rows ≤ count → drop count rows ≡ []
drop-past [] zero fits = refl
drop-past [] (suc count) fits = refl
drop-past (r ∷ rs) zero fits = absurd (omega (arith, fits))
drop-past (r ∷ rs) (suc count) fits = drop-past rs count (omega (arith, fits))

pub shown-least : (rows : List Placed) (count m : ℕ) → m ≡ min count (length rows) →
    (take m rows ≡ take count rows) × (m ≡ length (take count rows)) × (drop m rows ≡ drop count rows)
shown-least rows count m is = elim (cases_lt count (length rows)) [
  | inl less ↦ (let same : m ≡ count = omega (arith, is, less) in (
    ap (λ n. take n rows) same,
    same ∙ taken-most rows count (omega (arith, less)),
    ap (λ n. drop n rows) same,
  ))
  | inr past ↦ (let same : m ≡ length rows = omega (arith, is, past) in
      let whole : take count rows ≡ rows = take_all count rows past in (
        take_all m rows (omega (arith, same)) ∙ sym whole,
        same ∙ ap (λ (l : List Placed). length l) (sym whole),
        drop-past rows m (omega (arith, same)) ∙ sym (drop-past rows count past),
      ))
]
