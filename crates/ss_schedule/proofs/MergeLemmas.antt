-- The keys after two neighbours are joined.
use Rattle.std.proofs.Common.{◌≡◌, ◌∙◌, ℕ, ◌+◌, ◌<◌, Bool, true, false, List, [], ◌∷◌, ◌++◌, length, refl}
use Rattle.std.proofs.Common.{sym, ap, append_assoc, Option, Some, None, IfSome, inl, inr}
use Rattle.std.specs.List.{list_any}
use Rattle.std.proofs.lemmas.Bool.{cases_Bool, both_ways, or_parts}
use Rattle.std.proofs.lemmas.List.Folds.{list_any-append}
use Rattle.std.proofs.lemmas.Option.{same_Some}
use Rattle.ss_line.specs.Line.{index_of, is_at, place_at}
use Rattle.ss_line.specs.declared.entry.At.{At}
use Rattle.ss_line.specs.declared.entry.Entry.{Entry}
use Rattle.ss_line.proofs.Places.{index-once, list_any-cons_false, none-first, same_place}
use Rattle.ss_schedule.specs.Keyed.{AreBelow, FollowUpTo, IsKeyOf, IsKeyed, PutsKey, ScheduleState, key_at, merge_rule}
use Rattle.ss_schedule.specs.Pairs.{AreSideBySide, IsSpan, joined_entry, pair_at, pair_among, pair_of}
use Rattle.ss_schedule.specs.declared.pair.Pair.{Pair}
use Rattle.ss_schedule.proofs.KeyedLemmas.{AreBelow-append, AreBelow-parts, FollowUpTo-joined, IsSpan-pair, put-here, put-other, spans}
use Rattle.ss_schedule.proofs.PairLemmas.{pair_at-neighbours, pair_at-past, pair_at-within}
use Rattle.ss_schedule.proofs.Places.{AreApart, AreApart-seam, apart-behind, apart-parts, place_at-behind, some-first}

-- whether the first of these entries stands at the place
abbrev pub is_first : At → List (At × Entry) → Bool
is_first at [] = false
is_first at (x ∷ xs) = is_at at x

-- behind the first one it doesn't matter what is before it
pair_among-same : (e f : At × Entry) (entries : List (At × Entry)) (at : At) → is_first at entries ≡ false →
    pair_among e entries at ≡ pair_among f entries at
pair_among-same e f [] at other = refl
pair_among-same e f (x ∷ xs) at other = rw other refl

none_in_both : (xs ys : List (At × Entry)) (at : At) → list_any (is_at at) xs ≡ false → list_any (is_at at) ys ≡ false →
    list_any (is_at at) (xs ++ ys) ≡ false
none_in_both xs ys at first second = list_any-append (is_at at) xs ys ∙ rw (first, second) refl

none_in_front : (xs ys : List (At × Entry)) (at : At) → list_any (is_at at) (xs ++ ys) ≡ false → list_any (is_at at) xs ≡ false
none_in_front xs ys at none = (or_parts (list_any (is_at at) xs) (list_any (is_at at) ys) (sym (list_any-append (is_at at) xs ys) ∙ none)).0

module _ (n : ℕ) (entries : List (At × Entry)) (left right : At) (it : AreSideBySide entries left right) (apart : AreApart entries)
    (old : ScheduleState) (keyed : IsKeyed n entries old) where
  new_entry : Entry
  new_entry = joined_entry it.window it.next

  abbrev pub joined : List (At × Entry)
  joined = it.before ++ (left, joined_entry it.window it.next) ∷ it.rest

  split : List (At × Entry)
  split = it.before ++ (left, it.window) ∷ (right, it.next) ∷ it.rest

  apart-split : AreApart (it.before ++ (left, it.window) ∷ (right, it.next) ∷ it.rest)
  apart-split = AreApart-seam entries _ it.is apart

  follow-split : FollowUpTo n (it.before ++ (left, it.window) ∷ (right, it.next) ∷ it.rest)
  follow-split = rw it.is at keyed.follow

  pub follow-joined : FollowUpTo n joined
  follow-joined = FollowUpTo-joined n it.before left right it.window it.next it.rest follow-split

  -- the pair at another place than that of either and that of the next one
  same-pair : (at : At) → is_at at (left, it.window) ≡ false → is_at at (right, it.next) ≡ false → is_first at it.rest ≡ false →
      pair_at joined at ≡ pair_at entries at
  same-pair at not_left not_right not_next =
      elim (cases_Bool (list_any (is_at at) it.before)) [
        | inl some ↦ (
            let none = apart-parts it.before ((left, it.window) ∷ (right, it.next) ∷ it.rest) at apart-split some in
            let tail = (or_parts (is_at at (left, it.window)) _ none).1 in
            let rest = (or_parts (is_at at (right, it.next)) _ tail).1 in
            pair_at-within it.before ((left, joined_entry it.window it.next) ∷ it.rest) at
            (list_any-cons_false (is_at at) (left, joined_entry it.window it.next) it.rest not_left rest)
            ∙ sym (pair_at-within it.before ((left, it.window) ∷ (right, it.next) ∷ it.rest) at none)
            ∙ sym (ap (λ es. pair_at es at) it.is))
        | inr none ↦ (
            let past : pair_among (left, it.window) ((right, it.next) ∷ it.rest) at ≡ pair_among (right, it.next) it.rest at = rw not_right refl in
            pair_at-past it.before (left, joined_entry it.window it.next) it.rest at
            (none_in_both it.before ((left, joined_entry it.window it.next) ∷ []) at none (list_any-cons_false (is_at at) (left, it.window) [] not_left refl))
            ∙ pair_among-same (left, joined_entry it.window it.next) (right, it.next) it.rest at not_next
            ∙ sym past
            ∙ sym (pair_at-past it.before (left, it.window) ((right, it.next) ∷ it.rest) at
            (none_in_both it.before ((left, it.window) ∷ []) at none (list_any-cons_false (is_at at) (left, it.window) [] not_left refl)))
            ∙ sym (ap (λ es. pair_at es at) it.is))
      ]

  -- the place that was cut out has none
  no-pair-right : pair_at joined right ≡ None
  no-pair-right =
      let before = none_in_front it.before ((left, it.window) ∷ []) right it.right_once in
      let one = apart-behind (it.before ++ (left, it.window) ∷ []) right it.next it.rest
      (AreApart-seam entries _ (it.is ∙ sym (append_assoc it.before ((left, it.window) ∷ []) ((right, it.next) ∷ it.rest))) apart) in
      let parts = or_parts (list_any (is_at right) it.before) _ (sym (list_any-append (is_at right) it.before ((left, it.window) ∷ [])) ∙ it.right_once) in
      let at_left = (or_parts (is_at right (left, it.window)) false parts.1).0 in
      pair_at-within [] joined right
      (none_in_both it.before ((left, joined_entry it.window it.next) ∷ it.rest) right before
      (list_any-cons_false (is_at right) (left, joined_entry it.window it.next) it.rest at_left one))

  -- there is room for both, and for those behind them
  room-split : AreBelow (length old.keys) it.before × AreBelow (length old.keys) ((left, it.window) ∷ (right, it.next) ∷ it.rest)
  room-split = AreBelow-parts (length old.keys) it.before _ (rw it.is at keyed.room)

  pub room-right : right.0 < length old.keys
  room-right = room-split.1.1.0

  pub room-left : left.0 < length old.keys
  room-left = room-split.1.0

  -- the key of the one behind, after the other two were put
  pub record IsNextPut (two three : ScheduleState) : Type 0 where
    pub here : (at : At) → is_first at it.rest ≡ true → IsKeyOf (merge_rule three) n (pair_at joined at) (key_at three.keys at)
    pub others : (at : At) (found : Option Pair) → is_first at it.rest ≡ false → IsKeyOf (merge_rule two) n found (key_at two.keys at) →
        IsKeyOf (merge_rule three) n found (key_at three.keys at)
    pub room : length three.keys ≡ length two.keys

  pub IsKeyed-joined : (one two three : ScheduleState) → PutsKey old one n right None → PutsKey one two n left (pair_at joined left) →
      IsNextPut two three → IsKeyed n joined three
  IsKeyed-joined one two three first second third = record {
    few = keyed.few;
    follow = follow-joined;
    room =
        let same : length three.keys ≡ length old.keys = third.room ∙ second.room ∙ first.room in
        rw same (AreBelow-append (length old.keys) it.before ((left, joined_entry it.window it.next) ∷ it.rest) room-split.0 (room-left, room-split.1.1.1));
    keys = λ at. elim (cases_Bool (is_first at it.rest)) [
      | inl is_next ↦ third.here at is_next
      | inr not_next ↦ third.others at (pair_at joined at) not_next (elim (cases_Bool (is_at at (left, it.window))) [
        | inl is_left ↦ put-here one two n left _ second at it.window (pair_at joined at) is_left
            (ap (pair_at joined) (sym (same_place at (left, it.window) is_left)))
        | inr not_left ↦ put-other one two n left _ second at it.window (pair_at joined at) not_left (elim (cases_Bool (is_at at (right, it.next))) [
          | inl is_right ↦ put-here old one n right None first at it.next (pair_at joined at) is_right
              (ap (pair_at joined) (sym (same_place at (right, it.next) is_right)) ∙ no-pair-right)
          | inr not_right ↦ put-other old one n right None first at it.next (pair_at joined at) not_right
              (rw (same-pair at not_left not_right not_next) (keyed.keys at))
        ])
      ])
    ];
  }

  pub IsNextPut-none : (two : ScheduleState) → it.rest ≡ [] → IsNextPut two two
  IsNextPut-none two none = record {
    here = λ at is. absurd (both_ways (is_first at it.rest) (ap (is_first at) none) is);
    others = λ at found other is. is;
    room = refl;
  }

  pub IsNextPut-some : (two three : ScheduleState) (x : At × Entry) (xs : List (At × Entry)) → it.rest ≡ x ∷ xs →
      PutsKey two three n x.0 (pair_at joined x.0) → IsNextPut two three
  IsNextPut-some two three x xs is put = record {
    here = λ at first.
        let here : is_at at x ≡ true = sym (ap (is_first at) is) ∙ first in
        put-here two three n x.0 _ put at x.1 (pair_at joined at) here (ap (pair_at joined) (sym (same_place at x here)));
    others = λ at found other was. put-other two three n x.0 _ put at x.1 found (sym (ap (is_first at) is) ∙ other) was;
    room = put.room;
  }

  -- the pair of the new entry and the one behind it
  pub pair-next : AreApart joined → (x : At × Entry) (xs : List (At × Entry)) → it.rest ≡ x ∷ xs →
      pair_at joined x.0 ≡ Some (pair_of (left, joined_entry it.window it.next) x)
  pair-next apart_joined x xs is =
      pair_at-neighbours joined apart_joined it.before (left, joined_entry it.window it.next) x.0 x.1 xs
      (ap (λ (es : List (At × Entry)). it.before ++ (left, joined_entry it.window it.next) ∷ es) is)

  -- the line as the join leaves it
  module _ (line : List (At × Entry)) (line_is : line ≡ it.before ++ (left, joined_entry it.window it.next) ∷ it.rest) where
    pub span-left : (found : Option Pair) → found ≡ pair_at line left → IfSome found (IsSpan n)
    span-left found is = spans n joined left found follow-joined (is ∙ ap (λ es. pair_at es left) line_is)

    pub put-left : (one two : ScheduleState) (found : Option Pair) → found ≡ pair_at line left → PutsKey one two n left found →
        PutsKey one two n left (pair_at joined left)
    put-left one two found is put = rw (is ∙ ap (λ es. pair_at es left) line_is) at put

    behind-is : place_at line (index_of line left + 1) ≡ place_at it.rest 0
    behind-is =
        let index = ap (λ es. index_of es left) line_is ∙ index-once it.before left (joined_entry it.window it.next) it.rest it.left_once in
        ap (λ es. place_at es (index_of line left + 1)) line_is
        ∙ ap (λ k. place_at (it.before ++ (left, joined_entry it.window it.next) ∷ it.rest) (k + 1)) index
        ∙ place_at-behind it.before (left, joined_entry it.window it.next) it.rest

    -- nothing is behind
    pub IsKeyed-joined_last : (one two : ScheduleState) (found : Option Pair) → PutsKey old one n right None → found ≡ pair_at line left →
        PutsKey one two n left found → None ≡ place_at line (index_of line left + 1) → IsKeyed n line two
    IsKeyed-joined_last one two found first is second none =
        rw line_is (IsKeyed-joined one two two first (put-left one two found is second) (IsNextPut-none two (none-first it.rest (none ∙ behind-is))))

    -- the pair with the one behind
    pub record IsNext (pair : Pair) : Type 0 where
      pub entry : At × Entry
      pub further : List (At × Entry)
      pub is : it.rest ≡ entry ∷ further
      pub place : entry.0 ≡ pair.right
      pub pair_is : pair ≡ pair_of (left, joined_entry it.window it.next) entry

    pub IsNext-read : (pair : Pair) → AreApart line → Some pair.right ≡ place_at line (index_of line left + 1) →
        pair_at line pair.right ≡ Some pair → IsNext pair
    IsNext-read pair apart_line behind is =
        let first = some-first it.rest pair.right (behind ∙ behind-is) in
        let there = pair-next (AreApart-seam line _ line_is apart_line) first.0 first.1 first.2 in
        record {
          entry = first.0;
          further = first.1;
          is = first.2;
          place = first.3;
          pair_is = same_Some pair (pair_of (left, joined_entry it.window it.next) first.0)
              (sym is ∙ ap (λ es. pair_at es pair.right) line_is ∙ ap (pair_at joined) (sym first.3) ∙ there);
        }

    module _ (pair : Pair) (next : IsNext pair) where
      pub room-next : pair.right.0 < length old.keys
      room-next =
          let rest = rw next.is at room-split.1.1.1 in
          rw next.place at rest.0

      pub span-next : pair_at line pair.right ≡ Some pair → IsSpan n pair
      span-next is = IsSpan-pair n joined pair.right pair follow-joined (sym (ap (λ es. pair_at es pair.right) line_is) ∙ is)

      pub IsKeyed-joined_next : (one two three : ScheduleState) (found : Option Pair) → PutsKey old one n right None → found ≡ pair_at line left →
          PutsKey one two n left found → pair_at line pair.right ≡ Some pair → PutsKey two three n pair.right (Some pair) → IsKeyed n line three
      IsKeyed-joined_next one two three found first is second paired third =
          let put : PutsKey two three n next.entry.0 (pair_at joined next.entry.0) =
          rw next.place (rw (sym paired ∙ ap (λ es. pair_at es pair.right) line_is) at third) in
          rw line_is (IsKeyed-joined one two three first (put-left one two found is second) (IsNextPut-some two three next.entry next.further next.is put))
