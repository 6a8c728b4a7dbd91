-- The keys as they are held: what a key that changes and a place more leave of the heap.
use Rattle.std.proofs.Common.{◌≡◌, ◌≢◌, ◌∙◌, ℕ, zero, suc, ◌+◌, ◌-◌, ◌/◌, ◌<◌, ◌≤◌, List, [], ◌∷◌}
use Rattle.std.proofs.Common.{◌++◌, length, get_or, set, take, drop, ap, sym}
use Rattle.std.proofs.Common.{Option, None, arith, inl, inr, length-append}
use Rattle.std.proofs.lemmas.Bool.{cases_eq, cases_lt}
use Rattle.std.proofs.lemmas.List.{get_or-set_same, get_or-set_other, get_or_append_left, length-set, get_or_past, take-append-le, take_all, get_or_default}
use Rattle.std.proofs.Math.Seq.{get_or-append_seam}
use Rattle.ss_line.specs.declared.entry.At.{At}
use Rattle.ss_schedule.specs.Held.{AreHeldKeys, AreInverse, IsChild, IsHeap, IsHeapBut, fit_at, fit_of}
use Rattle.ss_schedule.specs.declared.sifting.TheConstants.{NEVER}

-- one node of a heap changes
IsHeapBut-changed : (fit changed : ℕ → ℕ) (len index : ℕ) → IsHeap fit len → ((k : ℕ) → k < len → k ≢ index → changed k ≡ fit k) →
    index < len →
    IsHeapBut changed len index
IsHeapBut-changed fit changed len index heap kept inside = record {
  ordered = λ q k of_q lt not_q not_k. omega (arith, heap q k of_q lt, kept q (omega arith) not_q, kept k lt not_k);
  around = λ q k of_q of_index lt.
      omega (arith, heap q index of_q inside, heap index k of_index lt, kept q (omega arith) (omega arith), kept k lt (omega arith));
}

-- no node comes before the one at the top
least_up_to : (fit : ℕ → ℕ) (len : ℕ) → IsHeap fit len → (bound k : ℕ) → k ≤ bound → k < len → fit 0 ≤ fit k
least_up_to fit len heap zero k le lt = let top : k ≡ 0 = omega arith in omega (arith, ap fit top)
least_up_to fit len heap (suc bound) k le lt =
    elim (cases_lt 0 k) [
      | inl some ↦ (
          let child : IsChild ((k - 1) / 2) k = record { behind = omega arith; near = omega arith } in
          omega (arith, heap ((k - 1) / 2) k child lt, least_up_to fit len heap bound ((k - 1) / 2) (omega arith) (omega arith)))
      | inr none ↦ (let top : k ≡ 0 = omega arith in omega (arith, ap fit top))
    ]

module _ (keys : List (Option (At × ℕ))) (heap positions : List ℕ) (held : AreHeldKeys keys heap positions) where
  -- a count before the top of the heap comes before every key
  pub before_all : (n : ℕ) → n < NEVER → n < fit_at keys heap 0 → (at : At) → n < fit_of (get_or keys at.0 None)
  before_all n some top at =
      elim (cases_lt at.0 (length keys)) [
        | inl inside ↦ (
            let in_heap : at.0 < length heap = omega (arith, held.all) in
            let least = least_up_to (fit_at keys heap) (length heap) held.order (get_or positions at.0 0) (get_or positions at.0 0)
            (omega arith) (held.inverse.stands at.0 in_heap) in
            omega (arith, least, top, ap (λ (place : ℕ). fit_of (get_or keys place None)) (held.inverse.found at.0 in_heap)))
        | inr past ↦ omega (arith, some, ap fit_of (get_or_past keys at.0 None past))
      ]

  -- the same, of the key that was read at the top
  pub before_read : (n place : ℕ) (key : Option (At × ℕ)) → 0 < length heap → place ≡ get_or heap 0 place → key ≡ get_or keys place key →
      n < NEVER →
      n < fit_of key → (at : At) → n < fit_of (get_or keys at.0 None)
  before_read n place key some top read less first =
      let is_top : place ≡ get_or heap 0 0 = top ∙ get_or_default heap 0 place 0 some in
      let inside : place < length keys = omega (arith, is_top, held.inverse.below 0 some, held.all) in
      let is_key : key ≡ get_or keys place None = read ∙ get_or_default keys place key None inside in
      before_all n less (omega (arith, first, ap fit_of is_key, ap (λ (p : ℕ). fit_of (get_or keys p None)) is_top))

  -- a key changes
  pub IsHeapBut-set : (place : ℕ) (key : Option (At × ℕ)) → place < length keys →
      IsHeapBut (fit_at (set keys place key) heap) (length heap) (get_or positions place 0)
  IsHeapBut-set place key inside =
      let in_heap : place < length heap = omega (arith, held.all) in
      IsHeapBut-changed (fit_at keys heap) (fit_at (set keys place key) heap) (length heap) (get_or positions place 0) held.order
      (λ k lt other. ap fit_of (get_or-set_other keys place (get_or heap k 0) key None
      (λ same. other (sym (held.inverse.placed k lt) ∙ ap (λ (p : ℕ). get_or positions p 0) same))))
      (held.inverse.stands place in_heap)

  early-set : (place : ℕ) (key : Option (At × ℕ)) → place < length keys → fit_of key ≤ NEVER → (other : ℕ) →
      fit_of (get_or (set keys place key) other None) ≤ NEVER
  early-set place key inside early other =
      elim (cases_eq other place) [
        | inl same ↦ omega (
          arith,
          early,
          ap (λ (p : ℕ). fit_of (get_or (set keys place key) p None)) same,
          ap fit_of (get_or-set_same keys place key None inside),
        )
        | inr else ↦ omega (arith, held.early other, ap fit_of (get_or-set_other keys place other key None else))
      ]

  -- and the heap is put in order again
  pub AreHeldKeys-set : (place : ℕ) (key : Option (At × ℕ)) (new moved : List ℕ) → place < length keys → fit_of key ≤ NEVER →
      AreInverse new moved →
      length new ≡ length heap → IsHeap (fit_at (set keys place key) new) (length new) → AreHeldKeys (set keys place key) new moved
  AreHeldKeys-set place key new moved inside early inverse len order = record {
    all = omega (arith, len, held.all, length-set keys place key);
    inverse = inverse;
    order = order;
    early = early-set place key inside early;
  }

at_front : {X : Type 0} (xs : List X) (x d : X) (k : ℕ) → k < length xs → get_or (xs ++ x ∷ []) k d ≡ get_or xs k d
at_front xs x d k lt = get_or_append_left xs (x ∷ []) d k lt

at_end : {X : Type 0} (xs : List X) (x d : X) (k : ℕ) → k ≡ length xs → get_or (xs ++ x ∷ []) k d ≡ x
at_end xs x d k same = ap (λ (n : ℕ). get_or (xs ++ x ∷ []) n d) same ∙ get_or-append_seam xs x [] d

-- one number more
each_more : (xs ys : List ℕ) (n : ℕ) → length xs ≡ n → length ys ≡ n → ((k : ℕ) → k < n → get_or xs k 0 < n) →
    ((k : ℕ) → k < n → get_or ys (get_or xs k 0) 0 ≡ k) → (k : ℕ) → k < n + 1 →
    (get_or (xs ++ n ∷ []) k 0 < n + 1) × (get_or (ys ++ n ∷ []) (get_or (xs ++ n ∷ []) k 0) 0 ≡ k)
each_more xs ys n xs_len ys_len below there k lt =
    elim (cases_lt k n) [
      | inl front ↦ (
          let kept = at_front xs n 0 k (omega (arith, xs_len)) in
          let small = below k front in (
            omega (arith, kept, small),
            ap (λ (p : ℕ). get_or (ys ++ n ∷ []) p 0) kept ∙ at_front ys n 0 (get_or xs k 0) (omega (arith, small, ys_len)) ∙ there k front,
          ))
      | inr behind ↦ (
          let last : k ≡ n = omega arith in
          let end = at_end xs n 0 k (omega (arith, xs_len)) in
          (omega (arith, end), ap (λ (p : ℕ). get_or (ys ++ n ∷ []) p 0) end ∙ at_end ys n 0 n (sym ys_len) ∙ sym last))
    ]

-- a place more, without a key
module _ (keys : List (Option (At × ℕ))) (heap positions : List ℕ) (n : ℕ) (held : AreHeldKeys keys heap positions) (is : length keys ≡ n) where
  heap_len : length heap ≡ n
  heap_len = held.all ∙ is

  positions_len : length positions ≡ n
  positions_len = held.inverse.same ∙ heap_len

  more : length (heap ++ n ∷ []) ≡ n + 1
  more = omega (arith, length-append heap (n ∷ []), heap_len)

  fit_front : (k : ℕ) → k < n → fit_at (keys ++ None ∷ []) (heap ++ n ∷ []) k ≡ fit_at keys heap k
  fit_front k lt =
      ap (λ (p : ℕ). fit_of (get_or (keys ++ None ∷ []) p None)) (at_front heap n 0 k (omega (arith, heap_len)))
      ∙ ap fit_of (at_front keys None None (get_or heap k 0) (omega (arith, held.inverse.below k (omega (arith, heap_len)), is, heap_len)))

  fit_end : fit_at (keys ++ None ∷ []) (heap ++ n ∷ []) n ≡ NEVER
  fit_end =
      ap (λ (p : ℕ). fit_of (get_or (keys ++ None ∷ []) p None)) (at_end heap n 0 n (sym heap_len)) ∙ ap fit_of (at_end keys None None n (sym is))

  heap_side : (k : ℕ) → k < n + 1 → (get_or (heap ++ n ∷ []) k 0 < n + 1) × (get_or (positions ++ n ∷ []) (get_or (heap ++ n ∷ []) k 0) 0 ≡ k)
  heap_side = each_more heap positions n heap_len positions_len (λ k lt. omega (arith, heap_len, held.inverse.below k (omega (arith, heap_len))))
      (λ k lt. held.inverse.placed k (omega (arith, heap_len)))

  positions_side : (k : ℕ) → k < n + 1 →
      (get_or (positions ++ n ∷ []) k 0 < n + 1) × (get_or (heap ++ n ∷ []) (get_or (positions ++ n ∷ []) k 0) 0 ≡ k)
  positions_side = each_more positions heap n positions_len heap_len (λ k lt. omega (arith, heap_len, held.inverse.stands k (omega (arith, heap_len))))
      (λ k lt. held.inverse.found k (omega (arith, heap_len)))

  pub AreHeldKeys-push : AreHeldKeys (keys ++ None ∷ []) (heap ++ n ∷ []) (positions ++ n ∷ [])
  AreHeldKeys-push = record {
    all = omega (arith, more, is, length-append keys (None ∷ []));
    inverse = record {
      same = omega (arith, more, positions_len, length-append positions (n ∷ []));
      below = λ k lt. omega (arith, more, (heap_side k (omega (arith, more))).0);
      placed = λ k lt. (heap_side k (omega (arith, more))).1;
      stands = λ k lt. omega (arith, more, (positions_side k (omega (arith, more))).0);
      found = λ k lt. (positions_side k (omega (arith, more))).1;
    };
    order = λ q k of_q lt. elim (cases_lt k n) [
      | inl front ↦ omega (arith, held.order q k of_q (omega (arith, heap_len)), fit_front k front, fit_front q (omega arith))
      | inr behind ↦ (
          let last : k ≡ n = omega (arith, more) in
          omega (
            arith,
            ap (fit_at (keys ++ None ∷ []) (heap ++ n ∷ [])) last,
            fit_end,
            fit_front q (omega arith),
            held.early (get_or heap q 0),
          ))
    ];
    early = λ place. elim (cases_lt place (length keys)) [
      | inl inside ↦ omega (arith, held.early place, ap fit_of (at_front keys None None place inside))
      | inr past ↦ elim (cases_eq place (length keys)) [
        | inl same ↦ omega (arith, ap fit_of (at_end keys None None place same))
        | inr other ↦ omega (arith, ap fit_of (get_or_past (keys ++ None ∷ []) place None (omega (arith, length-append keys (None ∷ [])))))
      ]
    ];
  }

-- what a slice that is written back leaves
pub written_back : (old new : List ℕ) (len : ℕ) → length new ≡ len → take len (new ++ drop (length new) old) ≡ new
written_back old new len same = take-append-le len new (drop (length new) old) (omega (arith, same)) ∙ take_all len new (omega (arith, same))
