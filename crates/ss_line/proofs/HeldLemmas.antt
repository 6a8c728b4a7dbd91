-- A line as it is held: what is read in it, and what each change leaves.
use Rattle.std.proofs.Common.{◌≡◌, ◌∙◌, sym, ap, refl, ℕ, zero, suc, ◌+◌, ◌<◌, ◌≤◌, Bool, true, false, cond, nat_eq, nat_lt, List, [], ◌∷◌, length, count_by}
use Rattle.std.proofs.Common.{arith, get_or, inl, inr, Option, Some, None, IfSome}
use Rattle.std.proofs.lemmas.Bool.{eq-eqb, cases_lt, cond-false, le-ltb}
use Rattle.std.proofs.lemmas.List.Folds.{find_at}
use Rattle.std.proofs.lemmas.Option.{slice_get-get_or, slice_get_read}
use Rattle.std.specs.List.{slice_get}
use Rattle.std.specs.Option.{option_map, option_and_then}
use Rattle.ss_line.specs.declared.entry.At.{At}
use Rattle.ss_line.specs.declared.entry.Entry.{Entry}
use Rattle.ss_line.specs.declared.chain.Node.{Node}
use Rattle.ss_line.specs.declared.chain.Chain.{Chain}
use Rattle.ss_line.specs.Line.{LineState, IsLine, StandsIn, is_at, index_of, entry_at, place_at, place_before}
use Rattle.ss_line.specs.Chain.{HasNoPlace, HasNode, node_entry, behind_in, before_in, Links}
use Rattle.ss_line.specs.Held.{IsHeld, entries_from, line_of}
use Rattle.ss_line.proofs.PlaceLemmas.{StandsIn-place_at}
use Rattle.ss_line.proofs.IndexLemmas.{counted, entry_there, place_at-index, place_at-past}

-- 1 for yes, and 0 for no
abbrev pub one : Bool → ℕ
one is = cond is 1 0

pub one-le : (is : Bool) → cond is 1 0 ≤ 1
one-le true = omega arith
one-le false = omega arith

-- whether it is this place
abbrev pub is_place : At → At → Bool
is_place at free = nat_eq free.0 at.0

-- the node of an entry, and then those behind it
from_node : (nodes : List Node) (n : ℕ) (at : At) (entry : Entry) (behind : Option At) (rest : List (At × Entry)) (o : Option Node) →
    option_and_then (λ node. Some node.entry) o ≡ Some entry → option_and_then (λ node. node.behind) o ≡ behind →
    entries_from nodes n behind ≡ rest →
    (elim o [ None ↦ [] | Some node ↦ (at, node.entry) ∷ entries_from nodes n node.behind ]) ≡ (at, entry) ∷ rest
from_node nodes n at entry behind rest None kept linked later = absurd (cc)
from_node nodes n at entry behind rest (Some node) kept linked later =
    let same : node.entry ≡ entry = cc in
    ap (λ (e : Entry). (at, e) ∷ entries_from nodes n node.behind) same ∙
    ap (λ es. (at, entry) ∷ es) (ap (entries_from nodes n) linked ∙ later)

-- the entries that are met are those that are linked
entries_from-linked : (chain : Chain) (entries : List (At × Entry)) →
    ((k : ℕ) (entry : At × Entry) → slice_get entries k ≡ Some entry → node_entry chain entry.0 ≡ Some entry.1) →
    ((k : ℕ) → k < length entries → behind_in chain (place_at entries k) ≡ place_at entries (suc k)) →
    entries_from chain.nodes.items (length entries) (place_at entries 0) ≡ entries
entries_from-linked chain [] kept linked = refl
entries_from-linked chain (entry ∷ entries) kept linked =
    from_node chain.nodes.items (length entries) entry.0 entry.1 (place_at entries 0) entries (slice_get chain.nodes.items entry.0.0)
    (kept 0 entry refl) (linked 0 (omega arith))
    (entries_from-linked chain entries (λ k e is. kept (suc k) e is) (λ k lt. linked (suc k) (omega (arith, lt))))

-- a join of the places that these are
pub Links-same : (old new : Chain) (before behind left right : Option At) → before ≡ left → behind ≡ right → Links old before behind new →
    Links old left right new
Links-same old new before behind left right same_left same_right joins = rw (same_right, same_left) at joins

-- an empty line is held by no place
module _ (chain : Chain) (none : HasNoPlace chain) where
  behind-empty : (k : ℕ) → k ≤ 0 → behind_in chain (place_before [] k) ≡ place_at [] k
  behind-empty zero le = none.first
  behind-empty (suc k) le = absurd (omega (arith, le))

  before-empty : (k : ℕ) → k ≤ 0 → before_in chain (place_at [] k) ≡ place_before [] k
  before-empty zero le = none.last
  before-empty (suc k) le = absurd (omega (arith, le))

  pub IsHeld-empty : IsHeld (record { entries = []; spare = 0 }) chain 0
  IsHeld-empty =
      let nodes : length chain.nodes.items ≡ 0 = ap length none.nodes in
      record {
        frees = [];
        whole = refl;
        kept = λ k entry is. absurd (cc);
        behind = behind-empty;
        before = before-empty;
        freed = λ k at is. absurd (cc);
        free = none.free;
        once = λ at. omega (arith, cond-false {A = ℕ} _ 1 0 (le-ltb at.0 (length chain.nodes.items) (omega (arith, nodes))));
        as_many = sym nodes;
        used = omega (arith, nodes);
        room = omega arith;
        most = omega arith;
      }

module _ (line : LineState) (chain : Chain) (len : ℕ) (held : IsHeld line chain len) where
  -- the line that is read
  pub line_of-held : line_of chain len line.spare ≡ line
  line_of-held =
      let met = entries_from-linked chain line.entries held.kept (λ k lt. held.behind (suc k) (omega (arith, lt))) in
      let from = ap (entries_from chain.nodes.items len) (held.behind 0 (omega arith)) in
      let many = ap (λ (n : ℕ). entries_from chain.nodes.items n (place_at line.entries 0)) (sym held.whole) in
      ap (λ es. let it : LineState = record { entries = es; spare = line.spare } in it) (from ∙ many ∙ met)

  -- so it is held by its own reading
  pub IsHeld-line_of : IsHeld (line_of chain len line.spare) chain len
  IsHeld-line_of = rw line_of-held held

  pub apart : (at : At) → count_by (is_at at) line.entries ≤ 1
  apart at = omega (arith, held.once at, one-le (nat_lt at.0 (length chain.nodes.items)))

  -- each place in the line has a node
  pub within-stands : (at : At) → StandsIn line.entries at → HasNode chain at
  within-stands at stands =
      elim (cases_lt at.0 (length chain.nodes.items)) [
        | inl lt ↦ lt
        | inr past ↦ (
            let there = entry_there line.entries at stands in
            absurd (omega (
              arith,
              held.once at,
              cond-false {A = ℕ} _ 1 0 (le-ltb _ _ past),
              counted (is_at at) line.entries _ _ there.1
                  (eq-eqb at.0 at.0 refl),
            )))
      ]

  pub within-place_at : (k : ℕ) (o : Option At) → o ≡ place_at line.entries k → IfSome o (HasNode chain)
  within-place_at k None is = tt
  within-place_at k (Some at) is = within-stands at (StandsIn-place_at line.entries k at (sym is))

  pub within-place_before : (k : ℕ) (o : Option At) → o ≡ place_before line.entries k → IfSome o (HasNode chain)
  within-place_before zero o is = rw is tt
  within-place_before (suc k) o is = within-place_at k o is

  -- so has each free place
  pub within-free : (k : ℕ) (o : Option At) → o ≡ slice_get held.frees k → IfSome o (HasNode chain)
  within-free k None is = tt
  within-free k (Some at) is =
      elim (cases_lt at.0 (length chain.nodes.items)) [
        | inl lt ↦ lt
        | inr past ↦ absurd (omega (
          arith,
          held.once at,
          cond-false {A = ℕ} _ 1 0 (le-ltb _ _ past),
          counted (is_place at) held.frees k at (sym is) (eq-eqb at.0 at.0 refl),
        ))
      ]

  pub IsLine-held : IsLine line
  IsLine-held = record {
    most = held.most;
    below = λ k d lt. (
        let stands = StandsIn-place_at line.entries k (get_or line.entries k d).0
        (ap (option_map (λ (e : At × Entry). e.0)) (slice_get-get_or line.entries k d lt)) in
        let within = within-stands _ stands in
        omega (arith, within, held.used)
        );
    apart = apart;
  }

  pub last-held : chain.last ≡ place_before line.entries (length line.entries)
  last-held = ap (before_in chain) (sym (place_at-past line.entries (length line.entries) (omega arith))) ∙ held.before (length line.entries) (omega arith)

  pub first-held : chain.first ≡ place_at line.entries 0
  first-held = held.behind 0 (omega arith)

  -- what is read at a place in the line
  module _ (at : At) (stands : StandsIn line.entries at) (node : Node) (is : node ≡ get_or chain.nodes.items at.0 node) where
    node-there : slice_get chain.nodes.items at.0 ≡ Some node
    node-there = slice_get_read chain.nodes.items (length chain.nodes.items) at.0 node refl (within-stands at stands) is

    pub node-entry : entry_at line.entries at ≡ Some node.entry
    node-entry =
        let there = entry_there line.entries at stands in
        ap (option_map (λ (e : At × Entry). e.1)) (find_at (is_at at) line.entries ∙ there.1) ∙ sym (held.kept _ _ there.1) ∙
        ap (option_and_then (λ (n : Node). Some n.entry)) node-there

    pub node-before : node.before ≡ place_before line.entries (index_of line.entries at)
    node-before =
        ap (option_and_then (λ (n : Node). n.before)) (sym node-there) ∙ ap (before_in chain) (sym (place_at-index line.entries at stands)) ∙
        held.before (index_of line.entries at) (omega (arith, stands))

    pub node-behind : node.behind ≡ place_at line.entries (index_of line.entries at + 1)
    node-behind =
        let next : index_of line.entries at + 1 ≡ suc (index_of line.entries at) = omega arith in
        ap (option_and_then (λ (n : Node). n.behind)) (sym node-there) ∙ ap (behind_in chain) (sym (place_at-index line.entries at stands)) ∙
        held.behind (suc (index_of line.entries at)) (omega (arith, stands)) ∙ ap (place_at line.entries) (sym next)
