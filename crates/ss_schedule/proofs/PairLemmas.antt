-- The pairs of neighbours in a line.
use Rattle.std.proofs.Common.{◌≡◌, ◌∙◌, suc, ◌+◌, false, List, [], ◌∷◌, ◌++◌, length, refl}
use Rattle.std.proofs.Common.{sym, ap, arith, append_assoc, length-append, Some, None, inl, inr}
use Rattle.std.specs.List.{list_any}
use Rattle.std.proofs.lemmas.Bool.{cases_Bool, cond-true, or_parts}
use Rattle.std.proofs.lemmas.Option.{same_Some}
use Rattle.ss_line.specs.Line.{StandsIn, entry_at, index_of, is_at, place_at, place_before}
use Rattle.ss_line.specs.declared.entry.At.{At}
use Rattle.ss_line.specs.declared.entry.Entry.{Entry}
use Rattle.ss_line.proofs.Places.{index-once, is_at-same, place_at-seam}
use Rattle.ss_schedule.specs.Pairs.{pair_at, pair_among, pair_of}
use Rattle.ss_schedule.proofs.Places.{AreApart, AreApart-seam, Ends, IsAt-stands, apart-before, apart-behind, ends, with_last, without_last}
use Rattle.ss_schedule.proofs.Places.{entry-once, place_at-behind}

pub pair_among-absent : (e : At × Entry) (entries : List (At × Entry)) (at : At) → list_any (is_at at) entries ≡ false →
    pair_among e entries at ≡ None
pair_among-absent e [] at none = refl
pair_among-absent e (x ∷ xs) at none =
    let parts = or_parts (is_at at x) (list_any (is_at at) xs) none in rw parts.0 (pair_among-absent x xs at parts.1)

-- the pair at a place that doesn't stand in the front is behind it
pair_among-past : (e : At × Entry) (front : List (At × Entry)) (x : At × Entry) (tail : List (At × Entry)) (at : At) →
    list_any (is_at at) (front ++ x ∷ []) ≡ false → pair_among e (front ++ x ∷ tail) at ≡ pair_among x tail at
pair_among-past e [] x tail at none = let parts = or_parts (is_at at x) false none in rw parts.0 refl
pair_among-past e (y ∷ ys) x tail at none =
    let parts = or_parts (is_at at y) (list_any (is_at at) (ys ++ x ∷ [])) none in rw parts.0 (pair_among-past y ys x tail at parts.1)

pub pair_at-past : (front : List (At × Entry)) (x : At × Entry) (tail : List (At × Entry)) (at : At) →
    list_any (is_at at) (front ++ x ∷ []) ≡ false →
    pair_at (front ++ x ∷ tail) at ≡ pair_among x tail at
pair_at-past [] x tail at none = refl
pair_at-past (y ∷ ys) x tail at none =
    let parts = or_parts (is_at at y) (list_any (is_at at) (ys ++ x ∷ [])) none in pair_among-past y ys x tail at parts.1

-- the pair at a place that doesn't stand in the tail is before it
pair_among-within : (e : At × Entry) (front tail : List (At × Entry)) (at : At) → list_any (is_at at) tail ≡ false →
    pair_among e (front ++ tail) at ≡ pair_among e front at
pair_among-within e [] tail at none = pair_among-absent e tail at none
pair_among-within e (x ∷ xs) tail at none =
    elim (cases_Bool (is_at at x)) [ inl here ↦ rw here refl | inr later ↦ rw later (pair_among-within x xs tail at none) ]

pub pair_at-within : (front tail : List (At × Entry)) (at : At) → list_any (is_at at) tail ≡ false → pair_at (front ++ tail) at ≡ pair_at front at
pair_at-within [] [] at none = refl
pair_at-within [] (x ∷ xs) at none = let parts = or_parts (is_at at x) (list_any (is_at at) xs) none in pair_among-absent x xs at parts.1
pair_at-within (e ∷ es) tail at none = pair_among-within e es tail at none

pub pair_among-here : (e : At × Entry) (at : At) (entry : Entry) (tail : List (At × Entry)) →
    pair_among e ((at, entry) ∷ tail) at ≡ Some (pair_of e (at, entry))
pair_among-here e at entry tail = cond-true (is_at at (at, entry)) _ _ (is_at-same at entry)

-- the pair of two neighbours in a line
pub pair_at-seam : (before : List (At × Entry)) (x : At × Entry) (at : At) (entry : Entry) (rest : List (At × Entry)) →
    list_any (is_at at) (before ++ x ∷ []) ≡ false → pair_at (before ++ x ∷ (at, entry) ∷ rest) at ≡ Some (pair_of x (at, entry))
pair_at-seam before x at entry rest once = pair_at-past before x ((at, entry) ∷ rest) at once ∙ pair_among-here x at entry rest

-- the first place has none
pub pair_at-first : (at : At) (entry : Entry) (rest : List (At × Entry)) → AreApart ((at, entry) ∷ rest) → pair_at ((at, entry) ∷ rest) at ≡ None
pair_at-first at entry rest apart = pair_among-absent (at, entry) rest at (apart-behind [] at entry rest apart)

module _ (entries : List (At × Entry)) (apart : AreApart entries) where
  -- the entry that is read at a place
  pub entry-apart : (before : List (At × Entry)) (at : At) (entry read : Entry) (rest : List (At × Entry)) → entries ≡ before ++ (at, entry) ∷ rest →
      entry_at entries at ≡ Some read → entry ≡ read
  entry-apart before at entry read rest is found =
      let once = apart-before before at entry rest (AreApart-seam entries _ is apart) in
      same_Some entry read (sym (ap (λ es. entry_at es at) is ∙ entry-once before at entry rest once) ∙ found)

  -- the pair of two neighbours
  pub pair_at-neighbours : (before : List (At × Entry)) (x : At × Entry) (at : At) (entry : Entry) (rest : List (At × Entry)) →
      entries ≡ before ++ x ∷ (at, entry) ∷ rest → pair_at entries at ≡ Some (pair_of x (at, entry))
  pair_at-neighbours before x at entry rest is =
      let moved = is ∙ sym (append_assoc before (x ∷ []) ((at, entry) ∷ rest)) in
      let once = apart-before (before ++ x ∷ []) at entry rest (AreApart-seam entries _ moved apart) in
      ap (λ es. pair_at es at) is ∙ pair_at-seam before x at entry rest once

  paired-behind : (at right : At) (entry next w : Entry) (before rest : List (At × Entry)) → entries ≡ before ++ (at, w) ∷ rest → w ≡ entry →
      Some right ≡ place_at rest 0 → entry_at entries right ≡ Some next → pair_at entries right ≡ Some (pair_of (at, entry) (right, next))
  paired-behind at right entry next w before [] is first there read = absurd (cc)
  paired-behind at right entry next w before (x ∷ xs) is first there read =
      let place = same_Some right x.0 there in
      let moved = is ∙ sym (append_assoc before ((at, w) ∷ []) (x ∷ xs)) in
      let second = entry-apart (before ++ (at, w) ∷ []) x.0 x.1 next xs moved (ap (entry_at entries) (sym place) ∙ read) in
      ap (pair_at entries) place ∙ pair_at-neighbours before (at, w) x.0 x.1 xs is ∙ cc

  -- what was read of the entry at a place and of the one behind it is their pair
  pub pair_at-read : (at right : At) (entry next : Entry) → StandsIn entries at → entry_at entries at ≡ Some entry →
      Some right ≡ place_at entries (index_of entries at + 1) → entry_at entries right ≡ Some next →
      pair_at entries right ≡ Some (pair_of (at, entry) (right, next))
  pair_at-read at right entry next stands read behind read_next =
      let it = IsAt-stands entries at stands in
      let index = ap (λ es. index_of es at) it.is ∙ index-once it.before at it.entry it.rest it.once in
      let first = entry-apart it.before at it.entry entry it.rest it.is read in
      let there : Some right ≡ place_at it.rest 0 = behind ∙ ap (λ es. place_at es (index_of entries at + 1)) it.is
      ∙ ap (λ k. place_at (it.before ++ (at, it.entry) ∷ it.rest) (k + 1)) index ∙ place_at-behind it.before (at, it.entry) it.rest in
      paired-behind at right entry next it.entry it.before it.rest it.is first there read_next

  paired-before : (at left : At) (entry window w : Entry) (before : List (At × Entry)) → Ends before → (rest : List (At × Entry)) →
      entries ≡ before ++ (at, w) ∷ rest → w ≡ entry → Some left ≡ place_before entries (length before) →
      entry_at entries left ≡ Some window →
      pair_at entries at ≡ Some (pair_of (left, window) (at, entry))
  paired-before at left entry window w _ without_last rest is first there read = absurd (cc)
  paired-before at left entry window w _ (with_last front x) rest is first there read =
      let moved = is ∙ append_assoc front (x ∷ []) ((at, w) ∷ rest) in
      let long : length (front ++ x ∷ []) ≡ suc (length front) = omega (arith, length-append front (x ∷ [])) in
      let here : Some left ≡ Some x.0 = there ∙ ap (place_before entries) long ∙ ap (λ es. place_at es (length front)) moved
      ∙ place_at-seam front (x ∷ (at, w) ∷ rest) in
      let place = same_Some left x.0 here in
      let second = entry-apart front x.0 x.1 window ((at, w) ∷ rest) moved (ap (entry_at entries) (sym place) ∙ read) in
      pair_at-neighbours front x at w rest moved ∙ cc

  -- what was read of the entry at a place and of the one before it is their pair
  pub pair_at-read_before : (at left : At) (entry window : Entry) → StandsIn entries at → entry_at entries at ≡ Some entry →
      Some left ≡ place_before entries (index_of entries at) → entry_at entries left ≡ Some window →
      pair_at entries at ≡ Some (pair_of (left, window) (at, entry))
  pair_at-read_before at left entry window stands read before read_window =
      let it = IsAt-stands entries at stands in
      let index = ap (λ es. index_of es at) it.is ∙ index-once it.before at it.entry it.rest it.once in
      let first = entry-apart it.before at it.entry entry it.rest it.is read in
      paired-before at left entry window it.entry it.before (ends it.before) it.rest it.is first (before ∙ ap (place_before entries) index) read_window

  no-pair-before : (at : At) (w : Entry) (before : List (At × Entry)) → Ends before → (rest : List (At × Entry)) →
      entries ≡ before ++ (at, w) ∷ rest →
      None ≡ place_before entries (length before) → pair_at entries at ≡ None
  no-pair-before at w _ without_last rest is none = ap (λ es. pair_at es at) is ∙ pair_at-first at w rest (AreApart-seam entries _ is apart)
  no-pair-before at w _ (with_last front x) rest is none =
      let moved = is ∙ append_assoc front (x ∷ []) ((at, w) ∷ rest) in
      let long : length (front ++ x ∷ []) ≡ suc (length front) = omega (arith, length-append front (x ∷ [])) in
      let here : None ≡ Some x.0 = none ∙ ap (place_before entries) long ∙ ap (λ es. place_at es (length front)) moved
      ∙ place_at-seam front (x ∷ (at, w) ∷ rest) in
      absurd (cc)

  -- nothing is before the entry at a place
  pub pair_at-none : (at : At) → StandsIn entries at → None ≡ place_before entries (index_of entries at) → pair_at entries at ≡ None
  pair_at-none at stands before =
      let it = IsAt-stands entries at stands in
      let index = ap (λ es. index_of es at) it.is ∙ index-once it.before at it.entry it.rest it.once in
      no-pair-before at it.entry it.before (ends it.before) it.rest it.is (before ∙ ap (place_before entries) index)
