-- The cursors of sessions, and why one is refused.
use Rattle.std.proofs.Common.{◌≡◌, ◌<◌, ◌∙◌, true, false, ℕ, zero, suc, List, [], ◌∷◌, length, get_or, Option, Some, None, Result, Err}
use Rattle.std.proofs.Common.{refl, sym, ap, arith, subst}
use Rattle.std.specs.Prelude.{◌↔◌, is_some, option_map, slice_set}
use Rattle.ss_catalog.specs.declared.refusal.Refusal.{Refusal}
use Rattle.ss_catalog.specs.declared.refusal.Refusal.TheVariants as refusals
use Rattle.ss_model.specs.Refusals.{first_that_applies}
use Rattle.ss_model.specs.State.{Stream, stream_named, stream_numbered}
use Rattle.ss_model.specs.declared.types.Placed.{Placed}
use Rattle.ss_parts.specs.Held.{AllAgree}
use Rattle.ss_parts.specs.declared.parts.StreamParts.{StreamParts}
use Rattle.ss_store.proofs.Named.{SomeAgree-named}
use Rattle.ss_store.specs.Kept.{SomeAgree, part_named}
use Rattle.ss_sessions.specs.Cursors.{Cursors, cursor_of, cursor_refusals, cursor_rows, cursor_opened, refuses_cursor, with_cursor}
use Rattle.ss_sessions.specs.Errors.{refusal_of}
use Rattle.ss_sessions.specs.Opened.{refuses_cursor_held}
use Rattle.ss_sessions.specs.declared.error.CursorError.{CursorError}
use Rattle.ss_sessions.specs.declared.error.CursorError.TheVariants.{Refused}
use Rattle.ss_sessions.specs.declared.error.CursorRefusal.{CursorRefusal}
use Rattle.ss_sessions.specs.declared.error.CursorRefusal.TheVariants.{Unknown, Busy}

-- a session has the cursor that it was given
pub cursor_of-with_cursor : (cursors : Cursors) (session : ℕ) (cursor : Option (List Placed)) → session < length cursors →
    cursor_of (with_cursor cursors session cursor) session ≡ cursor
cursor_of-with_cursor [] session cursor inside = absurd (omega (arith, inside))
cursor_of-with_cursor (c ∷ cs) zero cursor inside = refl
cursor_of-with_cursor (c ∷ cs) (suc session) cursor inside = cursor_of-with_cursor cs session cursor (omega (arith, inside))

-- whether a session has a cursor, as it is read
pub is_some-cursor_of : (cursors : Cursors) (session : ℕ) (otherwise : Option (List Placed)) → session < length cursors →
    is_some (get_or cursors session otherwise) ≡ is_some (cursor_of cursors session)
is_some-cursor_of [] session otherwise inside = absurd (omega (arith, inside))
is_some-cursor_of (c ∷ cs) zero otherwise inside = refl
is_some-cursor_of (c ∷ cs) (suc session) otherwise inside = is_some-cursor_of cs session otherwise (omega (arith, inside))

-- the first refusal that applies
pub refused-unknown : (part : Option StreamParts) (cursor : Option (List Placed)) {id : Type 0} (of : StreamParts → id) → None ≡ option_map of part →
    first_that_applies (cursor_refusals (is_some part) cursor) ≡ Some refusals.Unknown
refused-unknown None cursor of none = refl
refused-unknown (Some part) cursor of none = cc

pub refused-busy : (part : Option StreamParts) (cursor : Option (List Placed)) {id : Type 0} (of : StreamParts → id) (found : id) →
    Some found ≡ option_map of part → is_some cursor ≡ true → first_that_applies (cursor_refusals (is_some part) cursor) ≡ Some refusals.Busy
refused-busy None cursor of found is some = cc
refused-busy (Some part) None of found is some = cc
refused-busy (Some part) (Some rows) of found is some = refl

pub unrefused : (part : Option StreamParts) (cursor : Option (List Placed)) {id : Type 0} (of : StreamParts → id) (found : id) →
    Some found ≡ option_map of part → is_some cursor ≡ false → first_that_applies (cursor_refusals (is_some part) cursor) ≡ None
unrefused None cursor of found is none = cc
unrefused (Some part) None of found is none = refl
unrefused (Some part) (Some rows) of found is none = cc

-- each comes exactly where it applies
refusals_apart : (why r : CursorRefusal) → refusal_of why ≡ refusal_of r → why ≡ r
refusals_apart Unknown Unknown same = refl
refusals_apart Unknown Busy same = cc
refusals_apart Busy Unknown same = cc
refusals_apart Busy Busy same = refl

pub exactly-refused : (why : CursorRefusal) (found : Option Refusal) (result : Result ℕ CursorError) → result ≡ Err (Refused why) →
    found ≡ Some (refusal_of why) → (r : CursorRefusal) → (result ≡ Err (Refused r)) ↔ (found ≡ Some (refusal_of r))
exactly-refused why found result is first r = (
  λ also. (let same : Err (Refused why) ≡ Err (Refused r) = sym is ∙ also in
      let one : why ≡ r = cc in first ∙ ap (λ x. Some (refusal_of x)) one),
  λ also. (let same : Some (refusal_of why) ≡ Some (refusal_of r) = sym first ∙ also in
      let one : refusal_of why ≡ refusal_of r = cc in is ∙ ap (λ x. Err (Refused x)) (refusals_apart why r one)),
)

pub exactly-unrefused : (found : Option Refusal) (result : Result ℕ CursorError) → ((r : CursorRefusal) → result ≡ Err (Refused r) → ⊥) →
    found ≡ None → (r : CursorRefusal) → (result ≡ Err (Refused r)) ↔ (found ≡ Some (refusal_of r))
exactly-unrefused found result other none r = (
  λ is. absurd (other r is),
  λ is. (let wrong : None ≡ Some (refusal_of r) = sym none ∙ is in cc),
)

-- an answer of rows that is no refusal
pub err-alike : (e : CursorError) (r : CursorRefusal) → ◌≡◌ {A = Result ℕ CursorError} (Err e) (Err (Refused r)) →
    ◌≡◌ {A = Result (List Placed) CursorError} (Err e) (Err (Refused r))
err-alike e r is = let same : e ≡ Refused r = cc in ap (λ x. Err x) same

-- what is refused by what is held is refused in the state that it agrees with
some_alike : (part : Option StreamParts) (found : Option Stream) → SomeAgree part found → is_some found ≡ is_some part
some_alike None None agree = refl
some_alike None (Some s) agree = absurd agree
some_alike (Some part) None agree = absurd agree
some_alike (Some part) (Some s) agree = refl

pub refuses_cursor-held : (parts : List StreamParts) (streams : List Stream) (name : List ℕ) (cursor : Option (List Placed)) → AllAgree parts streams →
    refuses_cursor streams name cursor ≡ refuses_cursor_held parts name cursor
unfolding refuses_cursor refuses_cursor_held
refuses_cursor-held parts streams name cursor agree =
    ap (λ stands. first_that_applies (cursor_refusals stands cursor))
    (some_alike (part_named name parts) (stream_named name streams) (SomeAgree-named parts streams name agree))

-- the rows of the stream that is found by its name
pub opened-alike : (before cursors : Cursors) (session : ℕ) (name : List ℕ) (number : ℕ) (streams : List Stream) (rows : List Placed) (s : Stream) →
    cursors ≡ before → stream_named name streams ≡ Some s → stream_numbered number streams ≡ Some s →
    option_map cursor_rows (stream_numbered number streams) ≡ Some rows
    → cursor_opened before session name streams ≡ Some (slice_set cursors session (Some rows))
opened-alike before cursors session name number streams rows s same named numbered copied =
    let its : option_map cursor_rows (Some s) ≡ Some rows = subst (λ o. option_map cursor_rows o ≡ Some rows) numbered copied in
    let one : cursor_rows s ≡ rows = cc in
    ap (λ o. option_map (λ x. with_cursor before session (Some (cursor_rows x))) o) named
    ∙ ap (λ rs. Some (with_cursor before session (Some rs))) one ∙ ap (λ cs. Some (with_cursor cs session (Some rows))) (sym same)
