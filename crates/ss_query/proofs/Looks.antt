-- How many windows a walk over a stream looks at.
use Rattle.std.proofs.Common.{◌≡◌, ◌∙◌, ℕ, ◌+◌, ◌<◌, ◌≤◌, true, cond, List, [], ◌∷◌, ◌++◌, drop, length, refl, sym, ap, ap₂, arith, count_by}
use Rattle.std.proofs.Common.{Option, Some, None, inl, inr}
use Rattle.std.specs.Prelude.{◌&&◌, All, nat_le, nat_lt}
use Rattle.std.proofs.Math.Seq.{drop-append_seam}
use Rattle.std.proofs.lemmas.Bool.{cases_Bool}
use Rattle.std.proofs.lemmas.Bool.Decides.{nat_tests}
use Rattle.std.proofs.lemmas.List.Elements.{All-head, All-tail}
use Rattle.std.proofs.lemmas.List.Sums.{sum_by-append, sum_by-cons}
use Rattle.ss_line.specs.Line.{IsLine, LineState, entry_at, index_of, place_at}
use Rattle.ss_line.specs.declared.entry.At.{At}
use Rattle.ss_line.specs.declared.entry.Entry.{Entry}
use Rattle.ss_line.proofs.Places.{none-first, place_at-seam}
use Rattle.ss_parts.specs.declared.parts.StreamParts.{StreamParts}
use Rattle.ss_parts.specs.Places.{BeginsNear}
use Rattle.ss_parts.proofs.Places.{index_of-next}
use Rattle.ss_query.specs.Answered.{begun_in}
use Rattle.ss_query.specs.declared.asking.Seen.{Seen}
use Rattle.ss_query.proofs.NextWindow.{IsWalkedTo, after, moved-here, next-here, rest-here}

-- the entries from a place on
abbrev pub entries_from : List (At × Entry) → Option At → List (At × Entry)
entries_from entries None = []
entries_from entries (Some at) = drop (index_of entries at) entries

-- how many windows begin at a time or before
abbrev pub begun_by : ℕ → List (At × Entry) → ℕ
begun_by to entries = count_by (λ (e : At × Entry). nat_le e.1.t_first to) entries

entries_from-place : (line : LineState) (before rest : List (At × Entry)) (place : Option At) → IsLine line → line.entries ≡ before ++ rest →
    place ≡ place_at rest 0 → entries_from line.entries place ≡ rest
entries_from-place line before rest None is cut place = sym (none-first rest place)
entries_from-place line before rest (Some at) is cut place =
    let index : index_of line.entries at ≡ length before =
    index_of-next line (length before) (Some at) is (place ∙ sym (place_at-seam before rest) ∙ ap (λ es. place_at es (length before)) (sym cut)) in
    ap₂ (λ (n : ℕ) (es : List (At × Entry)). drop n es) index cut ∙ drop-append_seam before rest

begun_by-cons : (to : ℕ) (e : At × Entry) (es : List (At × Entry)) → e.1.t_first ≤ to → begun_by to (e ∷ es) ≡ 1 + begun_by to es
begun_by-cons to e es begins =
    let test : nat_le e.1.t_first to ≡ true = grind (arith, nat_tests) in
    sum_by-cons (λ (f : At × Entry). cond (nat_le f.1.t_first to) 1 0) e es ∙ rw test refl

begun_by-less : (to : ℕ) (es : List (At × Entry)) → begun_by to es ≤ 1 + begun_by to (drop 1 es)
begun_by-less to [] = omega arith
begun_by-less to (e ∷ es) =
    let all = sum_by-cons (λ (f : At × Entry). cond (nat_le f.1.t_first to) 1 0) e es in
    let one : cond {A = ℕ} (nat_le e.1.t_first to) 1 0 ≤ 1 = elim (cases_Bool (nat_le e.1.t_first to)) [
      | inl begins ↦ rw begins (omega arith)
      | inr later ↦ rw later (omega arith)
    ] in
    omega (arith, all, one)

-- those that begin after a time and by another one begin between the two
begun_in-behind : (from to : ℕ) (es : List (At × Entry)) → All (λ (e : At × Entry). from < e.1.t_first) es → begun_by to es ≡ begun_in from to es
begun_in-behind from to [] behind = refl
begun_in-behind from to (e ∷ es) behind =
    let later = All-head (λ (f : At × Entry). from < f.1.t_first) e es behind in
    let rest = begun_in-behind from to es (All-tail (λ (f : At × Entry). from < f.1.t_first) e es behind) in
    let test : nat_lt from e.1.t_first ≡ true = grind (arith, nat_tests) in
    let by = sum_by-cons (λ (f : At × Entry). cond (nat_le f.1.t_first to) 1 0) e es in
    let between = sum_by-cons (λ (f : At × Entry). cond (nat_lt from f.1.t_first && nat_le f.1.t_first to) 1 0) e es in
    by ∙ ap (λ (n : ℕ). cond (nat_le e.1.t_first to) 1 0 + n) rest ∙ sym (between ∙ rw test refl)

begun_in-rest : (from to : ℕ) (before rest : List (At × Entry)) → begun_in from to rest ≤ begun_in from to (before ++ rest)
begun_in-rest from to before rest =
    omega (arith, sum_by-append (λ (f : At × Entry). cond (nat_lt from f.1.t_first && nat_le f.1.t_first to) 1 0) before rest)

begun_in-drop : (from to : ℕ) (es : List (At × Entry)) → begun_in from to (drop 1 es) ≤ begun_in from to es
begun_in-drop from to [] = omega arith
begun_in-drop from to (e ∷ es) =
    omega (arith, sum_by-cons (λ (f : At × Entry). cond (nat_lt from f.1.t_first && nat_le f.1.t_first to) 1 0) e es)

-- from a place near a time on at most one more begins by the end of a range than in it
pub begun_by-near : (line : LineState) (from to : ℕ) (start : Option At) → IsLine line → BeginsNear line.entries from start →
    begun_by to (entries_from line.entries start) ≤ begun_in from to line.entries + 1
begun_by-near line from to start is near =
    let here = ap (λ es. begun_by to es) (entries_from-place line near.before near.rest start is near.is near.place) in
    let first = begun_by-less to near.rest in
    let behind = begun_in-behind from to (drop 1 near.rest) near.behind in
    let fewer = begun_in-drop from to near.rest in
    let all = begun_in-rest from to near.before near.rest in
    let whole = ap (λ es. begun_in from to es) near.is in
    omega (arith, here, first, behind, fewer, all, whole)

module _ {part : StreamParts} {from to : ℕ} {seen : Seen} {at : At} (line : IsLine part.line) (to_here : IsWalkedTo part from to seen (Some at))
    {entry : Entry} (read : entry_at part.line.entries at ≡ Some entry) where
  -- one that begins by a time is one of those from its place on, and none of those from the next place on
  pub begun_by-next : entry.t_first ≤ to → (next : Option At) → next ≡ place_at part.line.entries (index_of part.line.entries at + 1) →
      begun_by to (entries_from part.line.entries next) + 1 ≡ begun_by to (entries_from part.line.entries (Some at))
  begun_by-next begins next place =
      let here = entries_from-place part.line to_here.before to_here.rest (Some at) line to_here.is to_here.place ∙ rest-here line to_here read in
      let more = entries_from-place part.line (to_here.before ++ (at, entry) ∷ []) (after line to_here read) next line (moved-here line to_here read)
      (next-here line to_here read next place) in
      let count = begun_by-cons to (at, entry) (after line to_here read) begins in
      let one = ap (λ es. begun_by to es) here in
      let two = ap (λ es. begun_by to es) more in
      omega (arith, count, one, two)
