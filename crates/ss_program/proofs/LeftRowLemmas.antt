-- The rows of windows and of streams that are left, when one of them is taken.
use Rattle.ss_program.proofs.Common.{◌≡◌, ◌∙◌, ℕ, ◌+◌, ◌<◌, List, [], ◌∷◌, length, map, drop, Option, None, Some, IsSome, IfSome, refl, sym, ap, arith}
use Rattle.ss_program.proofs.Common.{drop_all, length-drop, length-map, slice_get, StandsIn, index_of}
use Rattle.ss_program.proofs.Common.{place_at, placed_of, Placed, Stream, state, stream_numbered, Window, SomeAgree, StoreIsIn, StoreState, part_numbered}
use Rattle.ss_program.proofs.Common.{Stands, AllAgree-recovered, History, window_rows}
use Rattle.ss_line.specs.declared.entry.At.{At}
use Rattle.ss_parts.specs.declared.parts.StreamParts.{StreamParts}
use Rattle.ss_store.proofs.FoundAlike.{windows_alike}
use Rattle.ss_store.proofs.Named.{SomeAgree-numbered}
use Rattle.ss_program.proofs.RowLemmas.{drop-at, row-reply, rows_at}
use Rattle.ss_program.specs.Rows.{place_next, windows_count, windows_left}

-- a stream that is held stands, with as many windows
pub record IsHeldAs (part : Option StreamParts) (o : Option Stream) : Type 0 where
  pub stream : Stream
  pub stands : o ≡ Some stream
  pub windows : IfSome part (λ p. length p.line.entries ≡ length stream.windows)

held_alike : (part : Option StreamParts) (o : Option Stream) → SomeAgree part o → IsSome part → IsHeldAs part o
held_alike None o agree some = cc
held_alike (Some p) None agree some = absurd agree
held_alike (Some p) (Some s) agree some = record { stream = s; stands = refl; windows = windows_alike (Some p) (Some s) s refl agree }

pub held-kept : (store : StoreState) (content : List ℕ) (history : History) (number : ℕ) → StoreIsIn store content → Stands history content →
    IsSome (part_numbered number store.streams) → IsHeldAs (part_numbered number store.streams) (stream_numbered number (state history))
held-kept store content history number kept stands some =
    held_alike (part_numbered number store.streams) (stream_numbered number (state history))
    (SomeAgree-numbered store.streams (state history) number (AllAgree-recovered store content (state history) kept stands.state).0) some

-- the place of the window that is next
pub place-first : (part : Option StreamParts) (next : Option At) → IfSome part (λ p. next ≡ place_at p.line.entries 0) →
    IfSome part (λ p. IfSome next (λ at. index_of p.line.entries at ≡ 0)) → IfSome part (λ p. place_next p.line.entries next ≡ 0)
place-first None next is index = tt
place-first (Some p) next is index = rows_at p.line.entries 0 next (omega arith) is index

pub place-after : (part : Option StreamParts) (at : At) (next : Option At) → IfSome part (λ p. StandsIn p.line.entries at) →
    IfSome part (λ p. next ≡ place_at p.line.entries (index_of p.line.entries at + 1)) →
    IfSome part (λ p. IfSome next (λ after. index_of p.line.entries after ≡ index_of p.line.entries at + 1)) →
    IfSome part (λ p. place_next p.line.entries next ≡ index_of p.line.entries at + 1)
place-after None at next stands is index = tt
place-after (Some p) at next stands is index = rows_at p.line.entries (index_of p.line.entries at + 1) next (omega (arith, stands)) is index

-- where the first is next all rows are left
pub windows-begun : (part : Option StreamParts) (next : Option At) (o : Option Stream) (s : Stream) → IsSome part → o ≡ Some s →
    IfSome part (λ p. place_next p.line.entries next ≡ 0) → windows_left part next o ≡ window_rows s
windows-begun None next o s some is first = cc
windows-begun (Some p) next o s some is first = rw (is, first) refl

-- and where none is next none
pub windows-ended : (part : Option StreamParts) (o : Option Stream) → IsHeldAs part o → windows_left part None o ≡ []
windows-ended None o held = refl
windows-ended (Some p) None held = refl
windows-ended (Some p) (Some s) held =
    let is = held.stands in
    let same : s ≡ held.stream = cc in
    let all = rw (← same) at held.windows in
    drop_all (length p.line.entries) (window_rows s) (omega (arith, all, length-map s.windows (λ w. Window (placed_of w))))

-- the row of a window is taken
pub windows-taken : (part : Option StreamParts) (o : Option Stream) (at : At) (next : Option At) (window : Placed) → IsSome part → IsHeldAs part o →
    IfSome part (λ p. IfSome o (λ s. slice_get (map placed_of s.windows) (index_of p.line.entries at) ≡ Some window)) →
    IfSome part (λ p. place_next p.line.entries next ≡ index_of p.line.entries at + 1) →
    windows_left part (Some at) o ≡ Window window ∷ windows_left part next o
windows-taken None o at next window some held row place = cc
windows-taken (Some p) None at next window some held row place = let is = held.stands in cc
windows-taken (Some p) (Some s) at next window some held row place =
    drop-at (window_rows s) (index_of p.line.entries at) (Window window)
    (row-reply placed_of (λ w. Window w) s.windows (index_of p.line.entries at) window row)
    ∙ ap (λ n. Window window ∷ drop n (window_rows s)) (sym place)

-- or it wasn't read
pub windows-unread : (part : Option StreamParts) (o : Option Stream) (at : At) → IsSome part → IsHeldAs part o →
    IfSome part (λ p. StandsIn p.line.entries at) → 0 < length (windows_left part (Some at) o)
windows-unread None o at some held stands = cc
windows-unread (Some p) None at some held stands = let is = held.stands in cc
windows-unread (Some p) (Some s) at some held stands =
    let is = held.stands in
    let same : s ≡ held.stream = cc in
    let all = rw (← same) at held.windows in
    omega (arith, stands, all, length-drop (index_of p.line.entries at) (window_rows s), length-map s.windows (λ w. Window (placed_of w)))

-- fewer are left then
pub windows-fewer : (part : Option StreamParts) (at : At) (next : Option At) → IsSome part → IfSome part (λ p. StandsIn p.line.entries at) →
    IfSome part (λ p. place_next p.line.entries next ≡ index_of p.line.entries at + 1) → windows_count part next < windows_count part (Some at)
windows-fewer None at next some stands place = cc
windows-fewer (Some p) at next some stands place = rw place (omega (arith, stands))
