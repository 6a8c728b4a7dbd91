-- How many windows streams have once the merges that are due are made, told by the positions and the times of their windows alone.
use Rattle.ss_stream.proofs.Common.{◌≡◌, ◌∙◌, ℕ, suc, ◌+◌, ◌-◌, ◌<◌, ◌≤◌, true, false, List, [], ◌∷◌, ◌++◌, length, map, refl, sym, ap, ap₂, subst, arith}
use Rattle.ss_stream.proofs.Common.{append_assoc, length-append, Some, None, inl, inr, list_any, cases_Bool, map-append, MOST_VALUES, Params, params_of}
use Rattle.ss_stream.proofs.Common.{StandsIn, entry_at, index_of, is_at, place_at, At, Entry, closed, joined_window, may_join, closed_stream, Rule, rule_of}
use Rattle.ss_stream.proofs.Common.{IsStream, Stream, values_in, Window, Agrees, TileFrom, entries_of, span_held, span_of, times_held, times_of, StreamParts}
use Rattle.ss_stream.proofs.Common.{values_held, may_be_joined, entries_in, index-once, read-once}
use Rattle.std.proofs.Common.{if◌then◌else◌, count_by}
use Rattle.ss_model.specs.Closed.{closed_onto}
use Rattle.ss_parts.proofs.Places.{IsAt-first, neighbour, nothing_behind}
use Rattle.ss_stream.proofs.HeldCounts.{values_held-Agrees}
use Rattle.ss_stream.proofs.Spans.{AreTiled, AreTiled-seam, may_be_joined-window}

-- how many windows are left after one that begins with an entry, by those behind it
abbrev pub windows_behind : Rule → ℕ → Entry → List Entry → ℕ
windows_behind rule n e [] = 0
windows_behind rule n e (f ∷ es) = if may_be_joined rule n e f then windows_behind rule n e es else windows_behind rule n f es + 1

-- and how many are left of all
abbrev pub windows_left : Rule → ℕ → List Entry → ℕ
windows_left rule n [] = 0
windows_left rule n (e ∷ es) = windows_behind rule n e es + 1

length-closed_onto : (rule : Rule) (n : ℕ) (w : Window) (vs : List Window) (e : Entry) (es : List Entry) → e.first ≡ w.first → e.t_first ≡ w.summary.t_first →
    map span_held es ≡ map span_of vs → map times_held es ≡ map times_of vs → length (closed_onto rule n w vs) ≡ windows_behind rule n e es + 1
length-closed_onto rule n w [] e [] first t_first spans times = refl
length-closed_onto rule n w [] e (f ∷ es) first t_first spans times = absurd (cc)
length-closed_onto rule n w (v ∷ vs) e [] first t_first spans times = absurd (cc)
length-closed_onto rule n w (v ∷ vs) e (f ∷ es) first t_first spans times =
    let span : span_held f ≡ span_of v = cc in
    let time : times_held f ≡ times_of v = cc in
    let rest_spans : map span_held es ≡ map span_of vs = cc in
    let rest_times : map times_held es ≡ map times_of vs = cc in
    let same : may_be_joined rule n e f ≡ may_join rule n w v = may_be_joined-window rule n e f w v first t_first span time in
    let joint = length-closed_onto rule n (joined_window w v) vs e es first t_first rest_spans rest_times in
    let next_first : f.first ≡ v.first = ap (λ (p : ℕ × ℕ). p.0) span in
    let next_time : f.t_first ≡ v.summary.t_first = ap (λ (p : ℕ × ℕ). p.0) time in
    let alone = length-closed_onto rule n v vs f es next_first next_time rest_spans rest_times in
    elim (cases_Bool (may_join rule n w v)) [
      | inl due ↦ (let held = same ∙ due in rw (due, held) joint)
      | inr undue ↦ (let held = same ∙ undue in rw (undue, held) (omega (arith, alone)))
    ]

length-closed : (rule : Rule) (n : ℕ) (ws : List Window) (es : List Entry) → map span_held es ≡ map span_of ws → map times_held es ≡ map times_of ws →
    length (closed rule n ws) ≡ windows_left rule n es
length-closed rule n [] [] spans times = refl
length-closed rule n [] (e ∷ es) spans times = absurd (cc)
length-closed rule n (w ∷ ws) [] spans times = absurd (cc)
length-closed rule n (w ∷ ws) (e ∷ es) spans times =
    let span : span_held e ≡ span_of w = cc in
    let time : times_held e ≡ times_of w = cc in
    let first : e.first ≡ w.first = ap (λ (p : ℕ × ℕ). p.0) span in
    let t_first : e.t_first ≡ w.summary.t_first = ap (λ (p : ℕ × ℕ). p.0) time in
    let rest_spans : map span_held es ≡ map span_of ws = cc in
    let rest_times : map times_held es ≡ map times_of ws = cc in
    length-closed_onto rule n w ws e es first t_first rest_spans rest_times

-- closing leaves as many windows as the positions and times that are held say
pub windows_left-Agrees : (part : StreamParts) (s : Stream) → IsStream s → Agrees part s →
    windows_left (rule_of (params_of part.target)) (values_held (entries_of part)) (entries_of part) ≡ length (closed_stream s).windows
windows_left-Agrees part s is agrees =
    ap₂ (λ (p : Params) (n : ℕ). windows_left (rule_of p) n (entries_of part)) agrees.params (values_held-Agrees part s is agrees)
    ∙ sym (length-closed (rule_of s.params) (values_in s) s.windows (entries_of part) agrees.positions agrees.times)

-- The walk has come to an entry: so many windows are left up to it, the last of which begins with an entry.
pub record IsCounted (rule : Rule) (n : ℕ) (entries : List (At × Entry)) (at : At) (first : Entry) (count : ℕ) : Type 0 where
  pub before : List (At × Entry)
  pub window : Entry
  pub rest : List (At × Entry)
  pub is : entries ≡ before ++ (at, window) ∷ rest
  pub once : list_any (is_at at) before ≡ false
  pub some : 1 ≤ first.first
  pub order : first.first ≤ window.first
  pub few : count ≤ length before + 1
  pub left : count + windows_behind rule n first (entries_in rest) ≡ windows_left rule n (entries_in entries)

pub IsCounted-first : (rule : Rule) (n : ℕ) (entries : List (At × Entry)) (at : At) (entry : Entry) → Some at ≡ place_at entries 0 →
    entry_at entries at ≡ Some entry → ((a : At) → count_by (is_at a) entries ≤ 1) → TileFrom 1 (entries_in entries) →
    IsCounted rule n entries at entry 1
IsCounted-first rule n entries at entry place read apart tiles =
    let found = IsAt-first entries at place in
    let same : found.0 ≡ entry = read-once entries [] at found.0 found.1 entry found.2 (apart at) read in
    let is : entries ≡ (at, entry) ∷ found.1 = found.2 ∙ ap (λ (e : Entry). (at, e) ∷ found.1) same in
    let tiled : TileFrom 1 (entry ∷ entries_in found.1) = rw is at tiles in
    let here = tiled.0 in
    record {
      before = [];
      window = entry;
      rest = found.1;
      is = is;
      once = refl;
      some = omega arith;
      order = omega arith;
      few = omega arith;
      left = subst (λ es. 1 + windows_behind rule n entry (entries_in found.1) ≡ windows_left rule n (entries_in es))
          (sym is) (omega arith);
    }

pub index-counted : (rule : Rule) (n : ℕ) (entries : List (At × Entry)) (at : At) (first : Entry) (count : ℕ) →
    (counted : IsCounted rule n entries at first count) →
    (index_of entries at ≡ length counted.before) × (length entries ≡ length counted.before + suc (length counted.rest))
index-counted rule n entries at first count counted = (
  ap (λ es. index_of es at) counted.is ∙ index-once counted.before at counted.window counted.rest counted.once,
  ap (λ es. length es) counted.is ∙ length-append counted.before ((at, counted.window) ∷ counted.rest),
)

pub StandsIn-counted : (rule : Rule) (n : ℕ) (entries : List (At × Entry)) (at : At) (first : Entry) (count : ℕ) → IsCounted rule n entries at first count →
    StandsIn entries at
StandsIn-counted rule n entries at first count counted =
    let both = index-counted rule n entries at first count counted in
    let index = both.0 in
    let all = both.1 in
    omega (arith, index, all)

no_rest : {X : Type 0} (xs : List X) → length xs ≡ 0 → xs ≡ []
no_rest [] none = refl
no_rest (x ∷ xs) none = absurd (omega arith)

-- at the last entry all are counted
pub windows_left-counted : (rule : Rule) (n : ℕ) (entries : List (At × Entry)) (at : At) (first : Entry) (count : ℕ) → IsCounted rule n entries at first count →
    None ≡ place_at entries (index_of entries at + 1) →
    (count ≡ windows_left rule n (entries_in entries)) × (count ≤ length entries)
windows_left-counted rule n entries at first count counted read =
    let end : counted.before ++ (at, counted.window) ∷ counted.rest ≡ counted.before ++ (at, counted.window) ∷ [] =
    sym counted.is ∙ nothing_behind entries at counted.window counted.before counted.rest counted.is counted.once read in
    let long = length-append counted.before ((at, counted.window) ∷ counted.rest) in
    let short = length-append counted.before ((at, counted.window) ∷ []) in
    let same = ap (λ es. length es) end in
    let none : counted.rest ≡ [] = no_rest counted.rest (omega (arith, long, short, same)) in
    let all = (index-counted rule n entries at first count counted).1 in
    let some = counted.few in
    let total = windows_left rule n (entries_in entries) in
    let left : count + 0 ≡ total = rw none at counted.left in (
      omega (arith, left),
      omega (arith, all, some),
    )

-- the entry after it was read
pub record IsCountedNext (rule : Rule) (n : ℕ) (entries : List (At × Entry)) (at right : At) (first : Entry) (count : ℕ) (next : Entry) : Type 0 where
  pub some : 1 ≤ first.first
  pub order : first.first ≤ next.last
  pub taken : next.last ≤ values_held (entries_in entries)
  pub few : values_held (entries_in entries) ≤ MOST_VALUES
  pub room : count + 1 ≤ length entries
  pub joined : may_be_joined rule n first next ≡ true → IsCounted rule n entries right first count
  pub apart : may_be_joined rule n first next ≡ false → IsCounted rule n entries right next (count + 1)
  pub further : length entries - index_of entries right < length entries - index_of entries at

same_rest : {X : Type 0} (before : List X) (x : X) (xs ys : List X) → before ++ x ∷ xs ≡ before ++ x ∷ ys → xs ≡ ys
same_rest [] x xs ys same = cc
same_rest (b ∷ bs) x xs ys same = let tail : bs ++ x ∷ xs ≡ bs ++ x ∷ ys = cc in same_rest bs x xs ys tail

pub IsCounted-next : (rule : Rule) (n : ℕ) (entries : List (At × Entry)) (at right : At) (first : Entry) (count : ℕ) (next : Entry) →
    IsCounted rule n entries at first count → ((a : At) → count_by (is_at a) entries ≤ 1) → TileFrom 1 (entries_in entries) →
    Some right ≡ place_at entries (index_of entries at + 1) → entry_at entries right ≡ Some next →
    IsCountedNext rule n entries at right first count next
IsCounted-next rule n entries at right first count next counted alone tiles place read =
    let before = counted.before in
    let window = counted.window in
    let found = neighbour entries at window before counted.rest counted.is counted.once right next place read alone in
    let rest = found.0 in
    let front : List (At × Entry) = before ++ (at, window) ∷ [] in
    let moved : entries ≡ front ++ (right, next) ∷ rest = found.1 ∙ sym (append_assoc before ((at, window) ∷ []) ((right, next) ∷ rest)) in
    let all : entries_in entries ≡ entries_in before ++ window ∷ next ∷ entries_in rest =
    ap (λ es. entries_in es) found.1 ∙ map-append (λ (e : At × Entry). e.1) before ((at, window) ∷ (right, next) ∷ rest) in
    let tiled : AreTiled window next (values_held (entries_in entries)) =
    rw all (AreTiled-seam (entries_in before) window next (entries_in rest) (rw all at tiles)) in
    let behind : counted.rest ≡ (right, next) ∷ rest = same_rest before (at, window) counted.rest ((right, next) ∷ rest) (sym counted.is ∙ found.1) in
    let total = windows_left rule n (entries_in entries) in
    let left : count + windows_behind rule n first (next ∷ entries_in rest) ≡ total =
    rw behind at counted.left in
    let index_left = ap (λ es. index_of es at) counted.is ∙ index-once before at window counted.rest counted.once in
    let index_right = ap (λ es. index_of es right) moved ∙ index-once front right next rest found.2 in
    let long = ap (λ es. length es) moved ∙ length-append front ((right, next) ∷ rest) in
    let front_long = length-append before ((at, window) ∷ []) in
    let order = counted.order in
    let few = counted.few in
    let next_first = tiled.next in
    let inside = tiled.some in
    let inside_next = tiled.some_behind in
    record {
      some = counted.some;
      order = omega arith;
      taken = tiled.last;
      few = tiled.few;
      room = omega arith;
      joined = λ fit. record {
        before = front;
        window = next;
        rest = rest;
        is = moved;
        once = found.2;
        some = counted.some;
        order = omega arith;
        few = omega arith;
        left = rw fit at left;
      };
      apart = λ unfit. record {
        before = front;
        window = next;
        rest = rest;
        is = moved;
        once = found.2;
        some = omega arith;
        order = omega arith;
        few = omega arith;
        left = let one = rw unfit at left in omega (arith, one);
      };
      further = omega (arith, index_left, index_right, long, front_long);
    }
