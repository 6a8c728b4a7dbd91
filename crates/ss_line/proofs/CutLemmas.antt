-- An entry less in a line that is held, and another in place of one.
use Rattle.std.proofs.Common.{◌≡◌, ◌≢◌, ◌∙◌, sym, ap, refl, ℕ, zero, suc, ◌+◌, ◌≤◌, nat_eq, nat_lt, List, ◌∷◌, length, count_by, arith, set, inl, inr, get_or}
use Rattle.std.proofs.Common.{Some, vec_capacity}
use Rattle.std.proofs.lemmas.Bool.{eq-eqb, cases_eq, cases_lt}
use Rattle.std.proofs.lemmas.List.{length-set}
use Rattle.std.proofs.lemmas.List.Edits.{length-remove}
use Rattle.std.proofs.lemmas.List.Sums.{sum_by-cons, sum_by-set, sum_by-remove}
use Rattle.std.proofs.lemmas.Option.{get_or_from_slice_get}
use Rattle.std.specs.List.{slice_get, remove}
use Rattle.ss_line.specs.declared.entry.At.{At}
use Rattle.ss_line.specs.declared.entry.Entry.{Entry}
use Rattle.ss_line.specs.declared.chain.Chain.{Chain}
use Rattle.ss_line.specs.Line.{LineState, StandsIn, is_at, index_of, place_at, place_before}
use Rattle.ss_line.specs.Chain.{node_entry, behind_in, before_in, Links, GivesBack, WritesEntry}
use Rattle.ss_line.specs.Held.{IsHeld}
use Rattle.ss_line.proofs.IndexLemmas.{counted, entry_there, place_at-index, not_placed, not_before, one_index, place_at-differ, place_before-differ, nothing}
use Rattle.ss_line.proofs.IndexLemmas.{place_at-set, place_before-set, slice_get-remove_below, slice_get-remove_above, place_at-remove_below}
use Rattle.ss_line.proofs.IndexLemmas.{place_at-remove_above, place_before-remove_below, place_before-remove_above, slice_get-set_same, slice_get-set_other}
use Rattle.ss_line.proofs.HeldLemmas.{one, one-le, is_place, apart}

module _ (line : LineState) (old : Chain) (len : ℕ) (held : IsHeld line old len) (at : At) (stands : StandsIn line.entries at) where
  abbrev index : ℕ
  index = index_of line.entries at

  -- how often each place is counted at the index
  counts-index : (other : At) (d : At × Entry) → one (is_at other (get_or line.entries (index_of line.entries at) d)) ≡ one (nat_eq at.0 other.0)
  counts-index other d = ap (λ (e : At × Entry). one (is_at other e)) (get_or_from_slice_get line.entries index _ d (entry_there line.entries at stands).1)

  -- a free place is another one
  free_differs : (k : ℕ) (free : At) → slice_get held.frees k ≡ Some free → count_by (is_at free) line.entries ≡ 0
  free_differs k free is =
      omega (arith, held.once free, counted (is_place free) held.frees k free is (eq-eqb free.0 free.0 refl), one-le (nat_lt free.0 (length old.nodes.items)))

  module _ (linked new : Chain)
      (joins : Links old (place_before line.entries (index_of line.entries at)) (place_at line.entries (index_of line.entries at + 1)) linked)
      (gives : GivesBack linked at new) where
    -- a place that is neither this one nor the one before keeps what is behind it
    behind-other : (k : ℕ) → k ≤ length line.entries → k ≢ index_of line.entries at → k ≢ suc (index_of line.entries at) →
        behind_in new (place_before line.entries k) ≡ place_at line.entries k
    behind-other k le differ next =
        gives.behind _ (λ same. place_before-differ line.entries (apart line old len held) k (suc index) le (omega (arith, stands)) next
        (same ∙ sym (place_at-index line.entries at stands))) ∙
        joins.behind_others _ (place_before-differ line.entries (apart line old len held) k index le (omega (arith, stands)) differ) ∙ held.behind k le

    before-other : (k : ℕ) → k ≤ length line.entries → k ≢ index_of line.entries at + 1 →
        before_in new (place_at line.entries k) ≡ place_before line.entries k
    before-other k le differ =
        gives.before _ ∙
        joins.before_others _ (place_at-differ line.entries (apart line old len held) k (index + 1) le (omega (arith, stands)) differ) ∙ held.before k le

    freed-cut : (k : ℕ) (free : At) → slice_get (at ∷ held.frees) k ≡ Some free → behind_in new (Some free) ≡ slice_get (at ∷ held.frees) (suc k)
    freed-cut zero free is =
        let same : at ≡ free = cc in
        ap (λ (a : At). behind_in new (Some a)) (sym same) ∙ gives.there ∙ joins.free ∙ held.free
    freed-cut (suc k) free is =
        let none = free_differs k free is in
        gives.behind (Some free) (λ same. not_placed line.entries free index none (place_at-index line.entries at stands ∙ sym same)) ∙
        joins.behind_others (Some free) (λ same. not_before line.entries free index none (sym same)) ∙ held.freed k free is

    pub IsHeld-cut : (left : ℕ) → left + 1 ≡ len →
        IsHeld (record { entries = remove line.entries (index_of line.entries at); spare = line.spare + 1 }) new left
    IsHeld-cut left fewer =
        let shorter : length (remove line.entries index) + 1 ≡ length line.entries = length-remove line.entries index stands in
        let nodes : length new.nodes.items ≡ length old.nodes.items = gives.size.nodes ∙ joins.size.nodes in
        let capacity : vec_capacity new.nodes ≡ vec_capacity old.nodes = gives.size.capacity ∙ joins.size.capacity in
        record {
          frees = at ∷ held.frees;
          whole = omega (arith, shorter, fewer, held.whole);
          kept = λ k e is. gives.entries e.0 ∙ joins.entries e.0 ∙ elim (cases_lt k index) [
            | inl before ↦ held.kept k e (sym (slice_get-remove_below line.entries index k before) ∙ is)
            | inr behind ↦ held.kept (suc k) e (sym (slice_get-remove_above line.entries index k behind) ∙ is)
          ];
          behind = λ k le. elim (cases_lt k index) [
            | inl before ↦ ap (behind_in new) (place_before-remove_below line.entries index k (omega (arith, before))) ∙
                behind-other k (omega (arith, before, stands)) (λ same. absurd (omega (arith, before, same)))
                (λ same. absurd (omega (arith, before, same))) ∙
                sym (place_at-remove_below line.entries index k before)
            | inr past ↦ elim (cases_eq k index) [
              | inl here ↦ ap (behind_in new) (place_before-remove_below line.entries index k (omega (arith, here)) ∙
                  ap (place_before line.entries) here) ∙
                  gives.behind _ (λ same. place_before-differ line.entries (apart line old len held) index (suc index) (omega (arith, stands))
                  (omega (arith, stands))
                  (λ is. absurd (omega (arith, is))) (same ∙ sym (place_at-index line.entries at stands))) ∙
                  joins.behind_there ∙ ap (place_at line.entries) (omega (arith, here)) ∙ sym (place_at-remove_above line.entries index k past)
              | inr after ↦ ap (behind_in new) (place_before-remove_above line.entries index k (omega (arith, past, after))) ∙
                  behind-other (suc k) (omega (arith, le, shorter)) (λ same. absurd (omega (arith, past, same))) (λ same. after (omega (arith, same))) ∙
                  sym (place_at-remove_above line.entries index k past)
            ]
          ];
          before = λ k le. elim (cases_lt k index) [
            | inl lt ↦ ap (before_in new) (place_at-remove_below line.entries index k lt) ∙
                before-other k (omega (arith, lt, stands)) (λ same. absurd (omega (arith, lt, same))) ∙
                sym (place_before-remove_below line.entries index k (omega (arith, lt)))
            | inr past ↦ elim (cases_eq k index) [
              | inl here ↦ ap (before_in new) (place_at-remove_above line.entries index k past ∙ ap (place_at line.entries) (omega (arith, here))) ∙
                  gives.before _ ∙ joins.before_there ∙ sym (place_before-remove_below line.entries index k (omega (arith, here)) ∙
                  ap (place_before line.entries) here)
              | inr after ↦ ap (before_in new) (place_at-remove_above line.entries index k past) ∙
                  before-other (suc k) (omega (arith, le, shorter)) (λ same. after (omega (arith, same))) ∙
                  sym (place_before-remove_above line.entries index k (omega (arith, past, after)))
            ]
          ];
          freed = freed-cut;
          free = gives.free;
          once = λ other. omega (
            arith,
            held.once other,
            sum_by-remove (λ e. one (is_at other e)) line.entries index (at, nothing) stands,
            counts-index other (at, nothing),
            sum_by-cons (λ f. one (is_place other f)) at held.frees,
            ap (λ n. one (nat_lt other.0 n)) nodes,
          );
          as_many = omega (arith, held.as_many, shorter, nodes);
          used = omega (arith, held.used, shorter, nodes);
          room = omega (arith, held.room, shorter, capacity);
          most = omega (arith, held.most, shorter);
        }

  module _ (entry : Entry) (new : Chain) (writes : WritesEntry old at entry new) where
    abbrev pub with_entry : List (At × Entry)
    with_entry = set line.entries (index_of line.entries at) (at, entry)

    kept-set : (k : ℕ) (e : At × Entry) → slice_get with_entry k ≡ Some e → node_entry new e.0 ≡ Some e.1
    kept-set k e is =
        elim (cases_eq k index) [
          | inl here ↦ (
              let same : (at, entry) ≡ e = (let there = slice_get-set_same line.entries index (at, entry) stands in
              let read = ap (slice_get with_entry) here in cc) in
              rw (← same) writes.there)
          | inr other ↦ (
              let was = sym (slice_get-set_other line.entries index k (at, entry) other) ∙ is in
              writes.entries e.0 (λ same. absurd (other (one_index (is_at at) line.entries k index e _ was (entry_there line.entries at stands).1
              (eq-eqb _ _ (ap (λ (a : At). a.0) same)) (eq-eqb at.0 at.0 refl) (apart line old len held at)))) ∙ held.kept k e was)
        ]

    pub IsHeld-set : IsHeld (record { entries = with_entry; spare = line.spare }) new len
    IsHeld-set =
        let many : length with_entry ≡ length line.entries = length-set line.entries index (at, entry) in
        record {
          frees = held.frees;
          whole = many ∙ held.whole;
          kept = kept-set;
          behind = λ k le. ap (behind_in new) (place_before-set line.entries at entry k stands) ∙ writes.behind _ ∙
              held.behind k (omega (arith, le, many)) ∙
              sym (place_at-set line.entries at entry k stands);
          before = λ k le. ap (before_in new) (place_at-set line.entries at entry k stands) ∙ writes.before _ ∙ held.before k (omega (arith, le, many)) ∙
              sym (place_before-set line.entries at entry k stands);
          freed = λ k free is. writes.behind (Some free) ∙ held.freed k free is;
          free = writes.free ∙ held.free;
          once = λ other. omega (
            arith,
            held.once other,
            sum_by-set (λ e. one (is_at other e)) line.entries index (at, entry) (at, entry) stands,
            counts-index other (at, entry),
            ap (λ n. one (nat_lt other.0 n)) writes.size.nodes,
          );
          as_many = omega (arith, held.as_many, many, writes.size.nodes);
          used = omega (arith, held.used, many, writes.size.nodes);
          room = omega (arith, held.room, many, writes.size.capacity);
          most = omega (arith, held.most, many);
        }
