-- The newest value of a stream, as what is held of it tells.
use Rattle.ss_store.proofs.Common.{◌≡◌, ◌∙◌, ℕ, ◌+◌, ◌-◌, Bool, true, false, List, [], ◌∷◌, length, map, refl, sym, ap, arith, Option, Some, None}
use Rattle.ss_store.proofs.Common.{if◌then◌else◌, nat_lt, option_map, slice_get, last_or, length-map, none-some, same_Some, slice_get-map, Landmark}
use Rattle.ss_store.proofs.Common.{LandmarkValue, newest_value, last_or-slice_get, index_of, At, Entry, known_exactly, newest_of, newest_told, placed_of}
use Rattle.ss_store.proofs.Common.{Stream, last_time, Placed, Window, Agrees, entries_of, times_held, times_of, StreamParts, newest_place, place_if_newer}
use Rattle.ss_model.specs.Newest.{known_in, newer, newest_known}
use Rattle.ss_model.specs.declared.newest.Known.{Known}

-- the last of what is made of each
last_or-map : {A B : Type 0} (f : A → B) (o : Option A) (xs : List A) → last_or (option_map f o) (map f xs) ≡ option_map f (last_or o xs)
last_or-map f o [] = refl
last_or-map f o (x ∷ xs) = last_or-map f (Some x) xs

-- what is picked by a test that fails or passes
if-none : {X : Type 0} (b : Bool) (x : X) → (if b then Some x else None) ≡ None → b ≡ false
if-none true x none = absurd (none-some x (sym none))
if-none false x none = refl

if-some : {X : Type 0} (b : Bool) (x y : X) → (if b then Some x else None) ≡ Some y → b ≡ true
if-some true x y some = refl
if-some false x y some = absurd (none-some y some)

-- the times of an entry and of its window
abbrev AlikeLast : Option (At × Entry) → Option Window → Type 0
AlikeLast last w = option_map (λ (e : At × Entry). times_held e.1) last ≡ option_map times_of w

last-times : (e : At × Entry) (w : Window) → AlikeLast (Some e) (Some w) → e.1.t_last ≡ w.summary.t_last
last-times e w alike = ap (λ (p : ℕ × ℕ). p.1) (same_Some (times_held e.1) (times_of w) alike)

-- where no window is newer, the value of landmarks is the newest
known-kept : (value : Option LandmarkValue) (last : Option (At × Entry)) (w : Option Window) → AlikeLast last w → place_if_newer value last ≡ None →
    newer (option_map known_in w) (option_map known_exactly value) ≡ option_map known_exactly value
known-kept value None None alike none = refl
known-kept value None (Some w) alike none = absurd (none-some (times_of w) alike)
known-kept value (Some e) None alike none = absurd (none-some (times_held e.1) (sym alike))
known-kept None (Some e) (Some w) alike none = absurd (none-some e.0 (sym none))
known-kept (Some value) (Some e) (Some w) alike none =
    let late : nat_lt value.t e.1.t_last ≡ false = if-none (nat_lt value.t e.1.t_last) e.0 none in
    let late : nat_lt value.t w.summary.t_last ≡ false = ap (nat_lt value.t) (sym (last-times e w alike)) ∙ late in
    rw late refl

-- where one is, its newest value is
record IsNewestWindow (value : Option LandmarkValue) (w : Option Window) : Type 0 where
  window : Window
  is : w ≡ Some window
  known : newer (option_map known_in w) (option_map known_exactly value) ≡ Some (known_in window)

known-read : (value : Option LandmarkValue) (last : Option (At × Entry)) (w : Option Window) (at : At) → AlikeLast last w →
    place_if_newer value last ≡ Some at →
    IsNewestWindow value w
known-read value None w at alike some = absurd (none-some at some)
known-read value (Some e) None at alike some = absurd (none-some (times_held e.1) (sym alike))
known-read None (Some e) (Some w) at alike some = record { window = w; is = refl; known = refl }
known-read (Some value) (Some e) (Some w) at alike some =
    let early : nat_lt value.t e.1.t_last ≡ true = if-some (nat_lt value.t e.1.t_last) e.0 at some in
    let early : nat_lt value.t w.summary.t_last ≡ true = ap (nat_lt value.t) (sym (last-times e w alike)) ∙ early in
    record { window = w; is = refl; known = rw early refl }

-- what is made of the entries, with their places and without
map-entries : (P : Entry → ℕ × ℕ) (es : List (At × Entry)) → map (λ (e : At × Entry). P e.1) es ≡ map P (map (λ (e : At × Entry). e.1) es)
map-entries P [] = refl
map-entries P (e ∷ es) = ap (λ (ts : List (ℕ × ℕ)). P e.1 ∷ ts) (map-entries P es)

-- what is known of the newest value of a window that is read
abbrev pub known_placed : Placed → Known
known_placed placed = record { at = placed.summary.t_last; lo = placed.summary.min; hi = placed.summary.max }

-- a stream that what is held agrees with
module _ (part : StreamParts) (s : Stream) (agrees : Agrees part s) where
  alike-last : AlikeLast (last_or None part.line.entries) (last_or None s.windows)
  alike-last =
      sym (last_or-map (λ (e : At × Entry). times_held e.1) None part.line.entries)
      ∙ ap (last_or None) (map-entries times_held part.line.entries)
      ∙ ap (last_or None) agrees.times
      ∙ last_or-map times_of None s.windows

  length-windows : length part.line.entries ≡ length s.windows
  length-windows =
      sym (length-map part.line.entries (λ (e : At × Entry). e.1))
      ∙ sym (length-map (entries_of part) times_held)
      ∙ ap length agrees.times
      ∙ length-map s.windows times_of

  -- what is told where no window is newer than the values of landmarks
  pub newest_of-kept : newest_place part ≡ None → newest_of s ≡ newest_told part.last_time (option_map known_exactly (newest_value part.landmarks.landmarks))
  newest_of-kept none =
      let value = newest_value part.landmarks.landmarks in
      ap (λ (ls : List Landmark). newest_told (last_time s) (newest_known s.windows ls)) (sym agrees.landmarks)
      ∙ ap (newest_told (last_time s)) (known-kept value (last_or None part.line.entries) (last_or None s.windows) alike-last none)
      ∙ ap (λ (t : Option ℕ). newest_told t (option_map known_exactly value)) (sym agrees.last_time)

  -- what is told by the newest window
  pub newest_of-read : (at : At) → newest_place part ≡ Some at → index_of part.line.entries at + 1 ≡ length part.line.entries → (placed : Placed)
      → slice_get (map placed_of s.windows) (index_of part.line.entries at) ≡ Some placed →
      newest_of s ≡ newest_told part.last_time (Some (known_placed placed))
  newest_of-read at some last placed shown =
      let value = newest_value part.landmarks.landmarks in
      let newest = known-read value (last_or None part.line.entries) (last_or None s.windows) at alike-last some in
      let end : length s.windows - 1 ≡ index_of part.line.entries at = omega (arith, last, length-windows) in
      let there : slice_get s.windows (index_of part.line.entries at) ≡ Some newest.window =
      ap (slice_get s.windows) (sym end) ∙ sym (last_or-slice_get s.windows) ∙ newest.is in
      let same : placed_of newest.window ≡ placed =
      same_Some (placed_of newest.window) placed
      (sym (ap (option_map placed_of) there) ∙ sym (slice_get-map placed_of s.windows (index_of part.line.entries at)) ∙ shown) in
      ap (λ (ls : List Landmark). newest_told (last_time s) (newest_known s.windows ls)) (sym agrees.landmarks)
      ∙ ap (newest_told (last_time s)) newest.known
      ∙ ap (λ (p : Placed). newest_told (last_time s) (Some (known_placed p))) same
      ∙ ap (λ (t : Option ℕ). newest_told t (Some (known_placed placed))) (sym agrees.last_time)
