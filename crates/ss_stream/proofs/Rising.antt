-- The times of windows: they rise, and an index of them leads to the first window that matters.
use Rattle.ss_stream.proofs.Common.{◌≡◌, ◌∙◌, ℕ, ◌+◌, ◌<◌, ◌≤◌, false, List, [], ◌∷◌, ◌++◌, map, length, take, refl, sym, ap, ap₂, arith, append_assoc, ⊤}
use Rattle.ss_stream.proofs.Common.{Option, Some, None, MatchOption, length-append, nat_tests, map-append, All-cons, All-head, All-nil, All-tail, entry_at}
use Rattle.ss_stream.proofs.Common.{index_of, place_at, At, Entry, joined_entry, later, is_past, RiseToLast, TileFrom, TimesRise, entries_of, StreamParts}
use Rattle.ss_stream.proofs.Common.{BeginsNear, entries_in, index-once, take-seam, IsOrdered, IsTimed, begun_at}
use Rattle.std.proofs.Common.{max, All}
use Rattle.std.proofs.lemmas.List.Elements.{All-drop, All-weaker}
use Rattle.ss_schedule.specs.Times.{IsLastBy}
use Rattle.ss_parts.specs.Places.{BeginsAt}
use Rattle.ss_parts.proofs.Places.{IsAt-entry_at}

-- a last time that isn't before the one from before
abbrev pub IsNoEarlier : Option ℕ → Option ℕ → Type 0
IsNoEarlier None now = ⊤
IsNoEarlier (Some last) None = ⊥
IsNoEarlier (Some last) (Some t) = last ≤ t

pub IsNoEarlier-same : (was now : Option ℕ) → now ≡ was → IsNoEarlier was now
IsNoEarlier-same None now same = tt
IsNoEarlier-same (Some last) None same = cc
IsNoEarlier-same (Some last) (Some t) same = let is : t ≡ last = cc in omega (arith, is)

pub IsNoEarlier-past : (was now : Option ℕ) (t : ℕ) → now ≡ Some t → is_past was t ≡ false → IsNoEarlier was now
IsNoEarlier-past was None t same past = absurd (cc)
IsNoEarlier-past None (Some u) t same past = tt
IsNoEarlier-past (Some last) (Some u) t same past =
    let is : u ≡ t = cc in
    let later : last < t = grind (arith, nat_tests) in
    omega (arith, is, later)

-- two neighbours as one
pub TimesRise-joined : (from last : ℕ) (front : List Entry) (w v : Entry) (rest : List Entry) → TimesRise from last (front ++ w ∷ v ∷ rest) →
    TimesRise from last (front ++ joined_entry w v ∷ rest)
TimesRise-joined from last [] w v rest rise =
    let some = rise.1 in
    let next = rise.3.0 in
    let some_behind = rise.3.1 in
    (rise.0, omega (arith, some, next, some_behind), rise.3.2, rise.3.3)
TimesRise-joined from last (f ∷ fs) w v rest rise = (rise.0, rise.1, rise.2, TimesRise-joined (f.t_last + 1) last fs w v rest rise.3)

-- the first of them ends before the second begins
pub TimesRise-seam : (from last : ℕ) (front : List Entry) (w v : Entry) (rest : List Entry) → TimesRise from last (front ++ w ∷ v ∷ rest) →
    w.t_last < v.t_first
TimesRise-seam from last [] w v rest rise = let next = rise.3.0 in omega (arith, next)
TimesRise-seam from last (f ∷ fs) w v rest rise = TimesRise-seam (f.t_last + 1) last fs w v rest rise.3

-- up to a later time
pub TimesRise-later : (from last now : ℕ) (es : List Entry) → last ≤ now → TimesRise from last es → TimesRise from now es
TimesRise-later from last now [] later rise = tt
TimesRise-later from last now (e ∷ es) later rise =
    let by = rise.2 in (rise.0, rise.1, omega (arith, by, later), TimesRise-later (e.t_last + 1) last now es later rise.3)

-- one more window of one time
pub TimesRise-push : (from last t : ℕ) (es : List Entry) (e : Entry) → from ≤ t → last < t → e.t_first ≡ t → e.t_last ≡ t → TimesRise from last es →
    TimesRise from t (es ++ e ∷ [])
TimesRise-push from last t [] e low later first end rise = (omega (arith, low, first), omega (arith, first, end), omega (arith, end), tt)
TimesRise-push from last t (f ∷ fs) e low later first end rise =
    let by = rise.2 in (
      rise.0,
      rise.1,
      omega (arith, by, later),
      TimesRise-push (f.t_last + 1) last t fs e (omega (arith, by, later)) later first end rise.3,
    )

-- windows before another end before it begins
pub ends-early : (from last : ℕ) (before : List (At × Entry)) (e : At × Entry) (rest : List (At × Entry)) →
    TimesRise from last (entries_in (before ++ e ∷ rest)) → All (λ (f : At × Entry). f.1.t_last < e.1.t_first) before × (from ≤ e.1.t_first)
ends-early from last [] e rest rise = (All-nil (λ (f : At × Entry). f.1.t_last < e.1.t_first), rise.0)
ends-early from last (f ∷ fs) e rest rise =
    let behind = ends-early (f.1.t_last + 1) last fs e rest rise.3 in
    let next = behind.1 in
    let low = rise.0 in
    let some = rise.1 in (
      All-cons (λ (f : At × Entry). f.1.t_last < e.1.t_first) f fs (omega (arith, next)) behind.0,
      omega (arith, low, some, next),
    )

-- and begin before it
pub begin-early : (from last : ℕ) (before : List (At × Entry)) (e : At × Entry) (rest : List (At × Entry)) →
    TimesRise from last (entries_in (before ++ e ∷ rest)) → All (λ (p : ℕ × At). p.0 < e.1.t_first) (map begun_at before) × (from ≤ e.1.t_first)
begin-early from last [] e rest rise = (All-nil (λ (p : ℕ × At). p.0 < e.1.t_first), rise.0)
begin-early from last (f ∷ fs) e rest rise =
    let behind = begin-early (f.1.t_last + 1) last fs e rest rise.3 in
    let next = behind.1 in
    let low = rise.0 in
    let some = rise.1 in (
      All-cons (λ (p : ℕ × At). p.0 < e.1.t_first) (begun_at f) (map begun_at fs) (omega (arith, some, next)) behind.0,
      omega (arith, low, some, next),
    )

-- all begin before a later time
begin-before : (from last t : ℕ) (es : List (At × Entry)) → last < t → TimesRise from last (entries_in es) → All (λ (p : ℕ × At). p.0 < t) (map begun_at es)
begin-before from last t [] later rise = All-nil (λ (p : ℕ × At). p.0 < t)
begin-before from last t (e ∷ es) later rise =
    let some = rise.1 in
    let by = rise.2 in
    All-cons (λ (p : ℕ × At). p.0 < t) (begun_at e) (map begun_at es) (omega (arith, some, by, later)) (begin-before (e.1.t_last + 1) last t es later rise.3)

-- no window of a stream begins at a time that its values may have next, or later
pub begin-by_last : (last_time : Option ℕ) (t : ℕ) (entries : List (At × Entry)) →
    MatchOption last_time (entries_in entries ≡ []) (λ last. TimesRise 0 last (entries_in entries)) → is_past last_time t ≡ false →
    All (λ (p : ℕ × At). p.0 < t) (map begun_at entries)
begin-by_last None t [] rise past = All-nil (λ (p : ℕ × At). p.0 < t)
begin-by_last None t (e ∷ es) rise past = absurd (cc)
begin-by_last (Some last) t entries rise past = begin-before 0 last t entries (grind (arith, nat_tests)) rise

-- the times of a stream's windows rise, whatever its last time is
pub TimesRise-any : (last_time : Option ℕ) (es : List Entry) → MatchOption last_time (es ≡ []) (λ last. TimesRise 0 last es) →
    (last : ℕ) × TimesRise 0 last es
TimesRise-any None [] rise = (0, tt)
TimesRise-any None (e ∷ es) rise = absurd (cc)
TimesRise-any (Some last) es rise = (last, rise)

-- windows that rise to the last time rise to a later one
pub rise-later : (was now : Option ℕ) (es : List Entry) → IsNoEarlier was now → MatchOption was (es ≡ []) (λ last. TimesRise 0 last es) →
    MatchOption now (es ≡ []) (λ last. TimesRise 0 last es)
rise-later None None es later rise = rise
rise-later None (Some t) [] later rise = tt
rise-later None (Some t) (e ∷ es) later rise = absurd (cc)
rise-later (Some last) None es later rise = absurd later
rise-later (Some last) (Some t) es later rise = TimesRise-later 0 last t es later rise

-- the later of a last time and another is no earlier than either
pub no-earlier : (last_time : Option ℕ) (t now : ℕ) → Some now ≡ later last_time (Some t) → IsNoEarlier last_time (Some now) × (t ≤ now)
no-earlier None t now is = let same : now ≡ t = cc in (tt, omega (arith, same))
no-earlier (Some last) t now is = let same : now ≡ max last t = cc in (omega (arith, same), omega (arith, same))

-- a window of one value comes behind them
pub rise-added : (was : Option ℕ) (t : ℕ) (es : List Entry) (e : Entry) → is_past was t ≡ false → e.t_first ≡ t → e.t_last ≡ t →
    MatchOption was (es ≡ []) (λ last. TimesRise 0 last es) → TimesRise 0 t (es ++ e ∷ [])
rise-added None t [] e past first end rise = (omega arith, omega (arith, first, end), omega (arith, end), tt)
rise-added None t (f ∷ fs) e past first end rise = absurd (cc)
rise-added (Some last) t es e past first end rise = TimesRise-push 0 last t es e (omega arith) (grind (arith, nat_tests)) first end rise

-- two neighbours of a stream's windows as one
pub rise-joined : (last_time : Option ℕ) (front : List Entry) (w v : Entry) (rest : List Entry) →
    MatchOption last_time (front ++ w ∷ v ∷ rest ≡ []) (λ last. TimesRise 0 last (front ++ w ∷ v ∷ rest)) →
    MatchOption last_time (front ++ joined_entry w v ∷ rest ≡ []) (λ last. TimesRise 0 last (front ++ joined_entry w v ∷ rest))
rise-joined None [] w v rest rise = absurd (cc)
rise-joined None (f ∷ fs) w v rest rise = absurd (cc)
rise-joined (Some last) front w v rest rise = TimesRise-joined 0 last front w v rest rise

-- the windows of streams are in order
pub ordered-all : (parts : List StreamParts) → All (λ (part : StreamParts). TileFrom 1 (entries_of part)) parts → All RiseToLast parts → All IsOrdered parts
ordered-all [] tiles times = All-nil IsOrdered
ordered-all (p ∷ ps) tiles times =
    let T : StreamParts → Type 0 = λ part. TileFrom 1 (entries_of part) in
    All-cons IsOrdered p ps (record { tiles = All-head T p ps tiles; times = All-head RiseToLast p ps times })
    (ordered-all ps (All-tail T p ps tiles) (All-tail RiseToLast p ps times))

-- a window found by its time stands in the line, between others
record IsFound (entries : List (At × Entry)) (before : List (ℕ × At)) (time : ℕ) (at : At) (behind : List (ℕ × At)) : Type 0 where
  pub front : List (At × Entry)
  pub entry : Entry
  pub rest : List (At × Entry)
  pub is : entries ≡ front ++ (at, entry) ∷ rest
  pub begun : entry.t_first ≡ time
  pub later : map begun_at rest ≡ behind

found : (entries : List (At × Entry)) (before : List (ℕ × At)) (time : ℕ) (at : At) (behind : List (ℕ × At)) →
    map begun_at entries ≡ before ++ (time, at) ∷ behind → IsFound entries before time at behind
found [] [] time at behind is = absurd (cc)
found [] (b ∷ bs) time at behind is = absurd (cc)
found (e ∷ es) [] time at behind is =
    let first : begun_at e ≡ (time, at) = cc in
    record {
      front = [];
      entry = e.1;
      rest = es;
      is = ap (λ (a : At). (a, e.1) ∷ es) (ap (λ (p : ℕ × At). p.1) first);
      begun = ap (λ (p : ℕ × At). p.0) first;
      later = cc;
    }
found (e ∷ es) (b ∷ bs) time at behind is =
    let later : map begun_at es ≡ bs ++ (time, at) ∷ behind = cc in
    let there = found es bs time at behind later in
    record { front = e ∷ there.front; entry = there.entry; rest = there.rest; is = ap (λ xs. e ∷ xs) there.is; begun = there.begun; later = there.later }

weaker : (t from : ℕ) (es : List (At × Entry)) → t ≤ from → All (λ (f : At × Entry). f.1.t_last < t) es → All (λ (f : At × Entry). f.1.t_last < from) es
weaker t from es low all = All-weaker (λ (f : At × Entry). f.1.t_last < t) (λ (f : At × Entry). f.1.t_last < from)
    (λ f less. omega (arith, low, less)) es all

-- a walk that looks for times from one on may begin at the last window that begins then or before
pub BeginsAt-sought : (part : StreamParts) (times : List (ℕ × At)) (from : ℕ) (at : At) → IsTimed part.line.entries times → RiseToLast part →
    IsLastBy from times at → BeginsAt part.line.entries from (Some at)
BeginsAt-sought part times from at timed rise last =
    let there = found part.line.entries last.before last.time at last.behind (sym timed ∙ last.is) in
    let any = TimesRise-any part.last_time (entries_of part) rise in
    let begun = there.begun in
    let by = last.begun in
    record {
      before = there.front;
      rest = (at, there.entry) ∷ there.rest;
      is = there.is;
      early = weaker there.entry.t_first from there.front (omega (arith, begun, by))
          (ends-early 0 any.0 there.front (at, there.entry) there.rest (rw (← there.is) any.1)).0;
      place = refl;
    }

-- or at the first one
pub BeginsAt-first : (entries : List (At × Entry)) (from : ℕ) (start : Option At) → start ≡ place_at entries 0 → BeginsAt entries from start
BeginsAt-first entries from start is = record {
  before = [];
  rest = entries;
  is = refl;
  early = All-nil (λ (e : At × Entry). e.1.t_last < from);
  place = is;
}

-- windows whose times are later begin later
begin-late : (t : ℕ) (es : List (At × Entry)) → All (λ (p : ℕ × At). t < p.0) (map begun_at es) → All (λ (e : At × Entry). t < e.1.t_first) es
begin-late t [] late = All-nil (λ (e : At × Entry). t < e.1.t_first)
begin-late t (e ∷ es) late =
    let T : ℕ × At → Type 0 = λ p. t < p.0 in
    All-cons (λ (f : At × Entry). t < f.1.t_first) e es (All-head T (begun_at e) (map begun_at es) late)
    (begin-late t es (All-tail T (begun_at e) (map begun_at es) late))

-- both of these places are near the time
pub BeginsNear-sought : (entries : List (At × Entry)) (times : List (ℕ × At)) (from : ℕ) (at : At) → IsTimed entries times →
    IsLastBy from times at → BeginsNear entries from (Some at)
BeginsNear-sought entries times from at timed last =
    let there = found entries last.before last.time at last.behind (sym timed ∙ last.is) in
    record {
      before = there.front;
      rest = (at, there.entry) ∷ there.rest;
      is = there.is;
      place = refl;
      behind = begin-late from there.rest (rw there.later last.later);
    }

pub BeginsNear-first : (entries : List (At × Entry)) (times : List (ℕ × At)) (from : ℕ) (start : Option At) → start ≡ place_at entries 0 →
    IsTimed entries times → All (λ (p : ℕ × At). from < p.0) times → BeginsNear entries from start
BeginsNear-first entries times from start is timed late = record {
  before = [];
  rest = entries;
  is = refl;
  place = is;
  behind = All-drop (λ (e : At × Entry). from < e.1.t_first) 1 entries (begin-late from entries (rw timed at late));
}

-- the times after a window was put behind the others, and after two were joined
pub IsTimed-added : (entries now : List (At × Entry)) (times : List (ℕ × At)) (at : At) (e : Entry) (t : ℕ) → now ≡ entries ++ (at, e) ∷ [] → e.t_first ≡ t →
    times ≡ map begun_at entries ++ (t, at) ∷ [] → IsTimed now times
IsTimed-added entries now times at e t is begun timed =
    timed ∙ ap (λ n. map begun_at entries ++ (n, at) ∷ []) (sym begun) ∙ sym (map-append begun_at entries ((at, e) ∷ []))
    ∙ ap (λ es. map begun_at es) (sym is)

pub IsTimed-seam : (times : List (ℕ × At)) (before : List (At × Entry)) (left right : At) (w v : Entry) (rest : List (At × Entry)) →
    IsTimed (before ++ (left, w) ∷ (right, v) ∷ rest) times → times ≡ (map begun_at before ++ (w.t_first, left) ∷ []) ++ (v.t_first, right) ∷ map begun_at rest
IsTimed-seam times before left right w v rest timed =
    timed ∙ map-append begun_at before ((left, w) ∷ (right, v) ∷ rest)
    ∙ sym (append_assoc (map begun_at before) ((w.t_first, left) ∷ []) ((v.t_first, right) ∷ map begun_at rest))

pub IsTimed-joined : (times : List (ℕ × At)) (now before : List (At × Entry)) (left : At) (w v : Entry) (rest : List (At × Entry)) →
    now ≡ before ++ (left, joined_entry w v) ∷ rest → times ≡ (map begun_at before ++ (w.t_first, left) ∷ []) ++ map begun_at rest → IsTimed now times
IsTimed-joined times now before left w v rest is timed =
    timed ∙ append_assoc (map begun_at before) ((w.t_first, left) ∷ []) (map begun_at rest)
    ∙ sym (map-append begun_at before ((left, joined_entry w v) ∷ rest)) ∙ ap (λ es. map begun_at es) (sym is)

-- the window at a place, and those before it
pub record IsNext (entries : List (At × Entry)) (at : At) (e : Entry) : Type 0 where
  pub before : List (At × Entry)
  pub rest : List (At × Entry)
  pub is : entries ≡ before ++ (at, e) ∷ rest
  pub here : take (index_of entries at) entries ≡ before
  pub more : take (index_of entries at + 1) entries ≡ before ++ (at, e) ∷ []

pub IsNext-read : (entries : List (At × Entry)) (at : At) (e : Entry) → entry_at entries at ≡ Some e → IsNext entries at e
IsNext-read entries at e read =
    let there = IsAt-entry_at entries at e read in
    let index : index_of entries at ≡ length there.before = ap (λ es. index_of es at) there.is ∙ index-once there.before at e there.rest there.once in
    let front = there.before ++ (at, e) ∷ [] in
    let seam : index_of entries at + 1 ≡ length front = omega (arith, index, length-append there.before ((at, e) ∷ [])) in
    let cut : entries ≡ front ++ there.rest = there.is ∙ sym (append_assoc there.before ((at, e) ∷ []) there.rest) in
    record {
      before = there.before;
      rest = there.rest;
      is = there.is;
      here = ap₂ (λ (k : ℕ) (es : List (At × Entry)). take k es) index there.is ∙ take-seam there.before ((at, e) ∷ there.rest);
      more = ap₂ (λ (k : ℕ) (es : List (At × Entry)). take k es) seam cut ∙ take-seam front there.rest;
    }

-- all windows of which an index has the times begin before the next one
pub begin-next : (entries : List (At × Entry)) (at : At) (e : Entry) (times : List (ℕ × At)) (last : ℕ) → entry_at entries at ≡ Some e →
    IsTimed (take (index_of entries at) entries) times → TimesRise 0 last (entries_in entries) → All (λ (p : ℕ × At). p.0 < e.t_first) times
begin-next entries at e times last read timed rise =
    let next = IsNext-read entries at e read in
    rw (timed ∙ ap (λ es. map begun_at es) next.here) (begin-early 0 last next.before (at, e) next.rest (rw next.is at rise)).0

-- and it comes behind them
pub IsTimed-next : (entries : List (At × Entry)) (at : At) (e : Entry) (times now : List (ℕ × At)) → entry_at entries at ≡ Some e →
    IsTimed (take (index_of entries at) entries) times → now ≡ times ++ (e.t_first, at) ∷ [] → IsTimed (take (index_of entries at + 1) entries) now
IsTimed-next entries at e times now read timed is =
    let next = IsNext-read entries at e read in
    rw next.more (IsTimed-added next.before (next.before ++ (at, e) ∷ []) now at e e.t_first refl refl
    (is ∙ ap (λ (ts : List (ℕ × At)). ts ++ (e.t_first, at) ∷ []) (timed ∙ ap (λ es. map begun_at es) next.here)))
