-- An entry more in a line that is held.
use Rattle.std.proofs.Common.{◌≡◌, ◌≢◌, ◌∙◌, sym, ap, refl, ℕ, suc, ◌+◌, ◌<◌, ◌≤◌, nat_eq, nat_lt, List, [], ◌∷◌, ◌++◌, length, count_by, arith, inl, inr}
use Rattle.std.proofs.Common.{length-append, Option, Some, None, IfSome, IsSome, ◌⊎◌, vec_capacity}
use Rattle.std.proofs.lemmas.Bool.{eq-eqb, ne_eqb, cases_eq, cases_lt, cond-true, cond-false, lt-ltb, le-ltb}
use Rattle.std.proofs.lemmas.List.Sums.{sum_by-cons, sum_by_push}
use Rattle.std.proofs.lemmas.Option.{slice_get_within}
use Rattle.std.specs.List.{slice_get}
use Rattle.std.specs.Option.{MatchOption}
use Rattle.ss_line.specs.declared.entry.At.{At}
use Rattle.ss_line.specs.declared.entry.Entry.{Entry}
use Rattle.ss_line.specs.declared.chain.Chain.{Chain}
use Rattle.ss_line.specs.Line.{LineState, StandsIn, is_at, place_before}
use Rattle.ss_line.specs.Chain.{HasNode, behind_in, before_in, Links, TakesPlace}
use Rattle.ss_line.specs.Held.{IsHeld}
use Rattle.ss_line.proofs.IndexLemmas.{counted, entry_there, place_at-past, not_placed, not_before, place_at-differ, place_before-differ}
use Rattle.ss_line.proofs.IndexLemmas.{slice_get-append_below, slice_get-append_last, place_at-push_below, place_at-push_last, place_at-push_past}
use Rattle.ss_line.proofs.IndexLemmas.{place_before-push}
use Rattle.ss_line.proofs.HeldLemmas.{one, one-le, is_place, apart, last-held, within-place_before}

-- one number more is below the next bound
below_next : (k n : ℕ) → one (nat_lt k (n + 1)) ≡ one (nat_eq n k) + one (nat_lt k n)
below_next k n =
    elim (cases_lt k n) [
      | inl lt ↦ omega (
        arith,
        cond-true {A = ℕ} _ 1 0 (lt-ltb k (n + 1) (omega (arith, lt))),
        cond-true {A = ℕ} _ 1 0 (lt-ltb k n lt),
        cond-false {A = ℕ} _ 1 0 (ne_eqb n k (λ same. absurd (omega (arith, lt, same)))),
      )
      | inr le ↦ elim (cases_eq n k) [
        | inl same ↦ omega (
          arith,
          cond-true {A = ℕ} _ 1 0 (lt-ltb k (n + 1) (omega (arith, same))),
          cond-false {A = ℕ} _ 1 0 (le-ltb k n le),
          cond-true {A = ℕ} _ 1 0 (eq-eqb n k same),
        )
        | inr differ ↦ omega (
          arith,
          cond-false {A = ℕ} _ 1 0 (le-ltb k (n + 1) (omega (arith, le, differ))),
          cond-false {A = ℕ} _ 1 0 (le-ltb k n le),
          cond-false {A = ℕ} _ 1 0 (ne_eqb n k differ),
        )
      ]
    ]

-- a place that has a node keeps it
within-more : (old new : Chain) (o : Option At) → length old.nodes.items ≤ length new.nodes.items → IfSome o (HasNode old) → IfSome o (HasNode new)
within-more old new None more within = tt
within-more old new (Some at) more within = omega (arith, more, within)

-- a place is taken from those that are free, or it is a new one
pub record IsTaken (line : LineState) (old : Chain) (at : At) (new : Chain) : Type 0 where
  pub left : List At
  pub fresh : count_by (is_at at) line.entries ≡ 0
  pub taken : count_by (is_place at) left ≡ 0
  pub once : (other : At) → count_by (is_at other) line.entries + one (nat_eq at.0 other.0) + count_by (is_place other) left ≡
      one (nat_lt other.0 (length new.nodes.items))
  pub as_many : length line.entries + 1 + length left ≡ length new.nodes.items
  pub freed : (k : ℕ) (free : At) → slice_get left k ≡ Some free → behind_in old (Some free) ≡ slice_get left (suc k)
  pub free : new.free ≡ slice_get left 0
  pub used : length new.nodes.items ≤ length line.entries + line.spare
  pub below : at.0 < length new.nodes.items
  pub more : length old.nodes.items ≤ length new.nodes.items

module _ (line : LineState) (old : Chain) (len : ℕ) (held : IsHeld line old len) (room : 1 ≤ line.spare) where
  -- a free place has a node; where none is free, there is room for a node more
  room_or_free : (frees : List At) → frees ≡ held.frees → (IsSome (slice_get frees 0)) ⊎ (length old.nodes.items < vec_capacity old.nodes)
  room_or_free [] is = inr (omega (arith, held.as_many, ap length is, held.room, room))
  room_or_free (free ∷ frees) is = inl refl

  pub place-room : IsSome old.free ⊎ (length old.nodes.items < vec_capacity old.nodes)
  place-room = rw held.free (room_or_free held.frees refl)

  module _ (entry : Entry) (at : At) (new : Chain) (takes : TakesPlace old entry at new) where
    -- what is known where these are the free places
    taken-free : (frees : List At) → frees ≡ held.frees → MatchOption (slice_get frees 0) (at.0 ≡ length old.nodes.items) (λ free. at ≡ free) →
        MatchOption (slice_get frees 0) (new.free ≡ None) (λ free. new.free ≡ behind_in old (Some free)) →
        MatchOption (slice_get frees 0) (length new.nodes.items ≡ length old.nodes.items + 1) (λ free. length new.nodes.items ≡ length old.nodes.items) →
        IsTaken line old at new
    taken-free [] is place free nodes =
        let none : (other : At) → count_by (is_place other) held.frees ≡ 0 = λ other. ap (count_by (is_place other)) (sym is) in
        record {
          left = [];
          fresh = omega (arith, held.once at, cond-false {A = ℕ} _ 1 0 (le-ltb at.0 (length old.nodes.items) (omega (arith, place))));
          taken = refl;
          once = λ other. omega (
            arith,
            held.once other,
            none other,
            below_next other.0 (length old.nodes.items),
            ap (λ n. one (nat_eq n other.0)) place,
            ap (λ n. one (nat_lt other.0 n)) nodes,
          );
          as_many = omega (arith, held.as_many, nodes, ap length is);
          freed = λ k other there. absurd (cc);
          free = free;
          used = omega (arith, held.as_many, nodes, ap length is, room);
          below = omega (arith, place, nodes);
          more = omega (arith, nodes);
        }
    taken-free (first ∷ left) is place free nodes =
        let counts : (other : At) → count_by (is_place other) held.frees ≡ one (nat_eq at.0 other.0) + count_by (is_place other) left = λ other.
        ap (count_by (is_place other)) (sym is) ∙ sum_by-cons (λ f. one (is_place other f)) first left ∙
        ap (λ (a : At). one (nat_eq a.0 other.0) + count_by (is_place other) left) (sym place) in
        let here = cond-true {A = ℕ} _ 1 0 (eq-eqb at.0 at.0 refl) in
        let bound = one-le (nat_lt at.0 (length old.nodes.items)) in
        record {
          left = left;
          fresh = omega (arith, held.once at, counts at, here, bound);
          taken = omega (arith, held.once at, counts at, here, bound);
          once = λ other. omega (arith, held.once other, counts other, ap (λ n. one (nat_lt other.0 n)) nodes);
          as_many = omega (arith, held.as_many, nodes, ap length is);
          freed = λ k other there. held.freed (suc k) other (ap (λ fs. slice_get fs (suc k)) (sym is) ∙ there) ∙
              ap (λ fs. slice_get fs (suc (suc k))) (sym is);
          free = free ∙ held.freed 0 first (ap (λ fs. slice_get fs 0) (sym is)) ∙ ap (λ fs. slice_get fs 1) (sym is);
          used = omega (arith, held.used, nodes);
          below = elim (cases_lt at.0 (length old.nodes.items)) [
            | inl lt ↦ omega (arith, lt, nodes)
            | inr past ↦ absurd (omega (arith, held.once at, counts at, here, cond-false {A = ℕ} _ 1 0 (le-ltb _ _ past)))
          ];
          more = omega (arith, nodes);
        }

    pub IsTaken-place : IsTaken line old at new
    IsTaken-place =
        taken-free held.frees refl (rw held.free at takes.place) (rw held.free at takes.free) (rw held.free at takes.nodes)

    -- no entry stands there
    pub place-fresh : ¬ StandsIn line.entries at
    place-fresh stands =
        absurd (omega (
          arith,
          IsTaken-place.fresh,
          counted (is_at at) line.entries _ _ (entry_there line.entries at stands).1 (eq-eqb at.0 at.0 refl),
        ))

    pub place-below : at.0 < length line.entries + line.spare
    place-below = omega (arith, IsTaken-place.below, IsTaken-place.used)

    -- the end of the line stays
    pub place-last : new.last ≡ place_before line.entries (length line.entries)
    place-last = takes.before None (λ is. absurd (cc)) ∙ last-held line old len held

    pub within-last : IfSome new.last (HasNode new)
    within-last = within-more old new new.last IsTaken-place.more (within-place_before line old len held (length line.entries) new.last place-last)

    module _ (linked ended : Chain) (joins : Links new (place_before line.entries (length line.entries)) (Some at) linked)
        (ends : Links linked (Some at) None ended) where
      -- a place that is neither the new one nor the last keeps what is behind it
      behind-other : (o : Option At) → o ≢ Some at → o ≢ place_before line.entries (length line.entries) → behind_in ended o ≡ behind_in old o
      behind-other o new_one last_one = ends.behind_others o new_one ∙ joins.behind_others o last_one ∙ takes.behind o new_one

      before-other : (o : Option At) → o ≢ Some at → o ≢ None → before_in ended o ≡ before_in old o
      before-other o new_one end = ends.before_others o end ∙ joins.before_others o new_one ∙ takes.before o new_one

      abbrev pushed : List (At × Entry)
      pushed = line.entries ++ (at, entry) ∷ []

      pub IsHeld-push : (spare : ℕ) → spare + 1 ≡ line.spare →
          IsHeld (record { entries = line.entries ++ (at, entry) ∷ []; spare = spare }) ended (len + 1)
      IsHeld-push spare fewer =
          let taken = IsTaken-place in
          let n = length line.entries in
          let last = place_before line.entries n in
          let more : length (line.entries ++ (at, entry) ∷ []) ≡ n + 1 = omega (arith, length-append line.entries ((at, entry) ∷ [])) in
          let nodes : length ended.nodes.items ≡ length new.nodes.items = ends.size.nodes ∙ joins.size.nodes in
          let capacity : vec_capacity old.nodes ≤ vec_capacity ended.nodes = omega (arith, ends.size.capacity, joins.size.capacity, takes.capacity) in
          record {
            frees = taken.left;
            whole = omega (arith, more, held.whole);
            kept = λ k e is. elim (cases_lt k n) [
              | inl lt ↦ (
                  let was = sym (slice_get-append_below line.entries ((at, entry) ∷ []) k lt) ∙ is in
                  ends.entries e.0 ∙ joins.entries e.0 ∙
                  takes.entries e.0 (λ same. absurd (omega (
                    arith,
                    taken.fresh,
                    counted (is_at at) line.entries k e was (eq-eqb _ _ (ap (λ (a : At). a.0) same)),
                  ))) ∙ held.kept k e was)
              | inr past ↦ (
                  let here : k ≡ n = omega (arith, past, more, slice_get_within _ k e is) in
                  let same : (at, entry) ≡ e = (let there = slice_get-append_last line.entries (at, entry) k here in cc) in
                  rw (← same) (ends.entries at ∙ joins.entries at ∙ takes.there))
            ];
            behind = λ k le. elim (cases_lt k n) [
              | inl lt ↦ ap (behind_in ended) (place_before-push line.entries (at, entry) k (omega (arith, lt))) ∙
                  behind-other _ (not_before line.entries at k taken.fresh)
                  (place_before-differ line.entries (apart line old len held) k n (omega (arith, lt)) (omega arith)
                  (λ end. absurd (omega (arith, lt, end)))) ∙
                  held.behind k (omega (arith, lt)) ∙ sym (place_at-push_below line.entries (at, entry) k lt)
              | inr past ↦ elim (cases_eq k n) [
                | inl here ↦ ap (behind_in ended) (ap (place_before pushed) here ∙ place_before-push line.entries (at, entry) n (omega arith)) ∙
                    ends.behind_others last (not_before line.entries at n taken.fresh) ∙ joins.behind_there ∙
                    sym (place_at-push_last line.entries (at, entry) k here)
                | inr after ↦ (
                    let end : k ≡ suc n = omega (arith, past, after, le, more) in
                    ap (behind_in ended) (ap (place_before pushed) end ∙ place_at-push_last line.entries (at, entry) n refl) ∙
                    ends.behind_there ∙ sym (place_at-push_past line.entries (at, entry) k (omega (arith, end))))
              ]
            ];
            before = λ k le. elim (cases_lt k n) [
              | inl lt ↦ ap (before_in ended) (place_at-push_below line.entries (at, entry) k lt) ∙
                  before-other _ (not_placed line.entries at k taken.fresh)
                  (λ none. place_at-differ line.entries (apart line old len held) k n (omega (arith, lt)) (omega arith)
                  (λ end. absurd (omega (arith, lt, end)))
                  (none ∙ sym (place_at-past line.entries n (omega arith)))) ∙
                  held.before k (omega (arith, lt)) ∙ sym (place_before-push line.entries (at, entry) k (omega (arith, lt)))
              | inr past ↦ elim (cases_eq k n) [
                | inl here ↦ ap (before_in ended) (place_at-push_last line.entries (at, entry) k here) ∙
                    ends.before_others (Some at) (λ none. absurd (cc)) ∙ joins.before_there ∙
                    sym (ap (place_before pushed) here ∙ place_before-push line.entries (at, entry) n (omega arith))
                | inr after ↦ (
                    let end : k ≡ suc n = omega (arith, past, after, le, more) in
                    ap (before_in ended) (place_at-push_past line.entries (at, entry) k (omega (arith, end))) ∙ ends.before_there ∙
                    sym (ap (place_before pushed) end ∙ place_at-push_last line.entries (at, entry) n refl))
              ]
            ];
            freed = λ k free is.
                let free_there = counted (is_place free) taken.left k free is (eq-eqb free.0 free.0 refl) in
                behind-other (Some free)
                (λ same. let place : at ≡ free = cc in
                absurd (omega (arith, taken.taken, free_there, ap (λ (a : At). count_by (is_place a) taken.left) place)))
                (λ same. not_before line.entries free n
                (omega (arith, free_there, taken.once free, one-le (nat_lt free.0 (length new.nodes.items)))) (sym same)) ∙
                taken.freed k free is;
            free = ends.free ∙ joins.free ∙ taken.free;
            once = λ other. omega (
              arith,
              sum_by_push (λ e. one (is_at other e)) line.entries (at, entry),
              taken.once other,
              ap (λ n. one (nat_lt other.0 n)) nodes,
            );
            as_many = omega (arith, more, taken.as_many, nodes);
            used = omega (arith, more, taken.used, nodes, fewer);
            room = omega (arith, more, held.room, capacity, fewer);
            most = omega (arith, more, held.most, fewer);
          }
