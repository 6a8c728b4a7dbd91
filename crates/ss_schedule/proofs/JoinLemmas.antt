-- Two neighbours in a line that become one.
use Rattle.std.proofs.Common.{◌≡◌, ◌∙◌, ℕ, ◌+◌, List, [], ◌∷◌, ◌++◌, length, set, sym, ap, ap₂, append_assoc, arith, length-append, Some}
use Rattle.std.specs.List.{remove}
use Rattle.std.proofs.Math.Seq.{set-append_seam}
use Rattle.std.proofs.lemmas.Option.{same_Some}
use Rattle.ss_line.specs.Line.{StandsIn, entry_at, index_of}
use Rattle.ss_line.specs.declared.entry.At.{At}
use Rattle.ss_line.specs.declared.entry.Entry.{Entry}
use Rattle.ss_line.proofs.Places.{index-once}
use Rattle.ss_schedule.specs.Pairs.{AreSideBySide, joined_entry}
use Rattle.ss_schedule.proofs.Places.{entry-once, remove-seam, stands-once}

module _ (entries : List (At × Entry)) (left right : At) (it : AreSideBySide entries left right) where
  moved : entries ≡ (it.before ++ (left, it.window) ∷ []) ++ (right, it.next) ∷ it.rest
  moved = it.is ∙ sym (append_assoc it.before ((left, it.window) ∷ []) ((right, it.next) ∷ it.rest))

  pub stands-right : StandsIn entries right
  stands-right = rw moved (stands-once (it.before ++ (left, it.window) ∷ []) right it.next it.rest it.right_once)

  pub stands-left : StandsIn entries left
  stands-left = rw it.is (stands-once it.before left it.window ((right, it.next) ∷ it.rest) it.left_once)

  pub entry-left : entry_at entries left ≡ Some it.window
  entry-left = ap (λ es. entry_at es left) it.is ∙ entry-once it.before left it.window ((right, it.next) ∷ it.rest) it.left_once

  pub entry-right : entry_at entries right ≡ Some it.next
  entry-right = ap (λ es. entry_at es right) moved ∙ entry-once (it.before ++ (left, it.window) ∷ []) right it.next it.rest it.right_once

  -- the line without the right one
  pub cut-is : remove entries (index_of entries right) ≡ it.before ++ (left, it.window) ∷ it.rest
  cut-is =
      let front : List (At × Entry) = it.before ++ (left, it.window) ∷ [] in
      let index = ap (λ es. index_of es right) moved ∙ index-once front right it.next it.rest it.right_once in
      ap₂ (λ (es : List (At × Entry)) (k : ℕ). remove es k) moved index ∙ remove-seam front (right, it.next) it.rest
      ∙ append_assoc it.before ((left, it.window) ∷ []) it.rest

  -- and with another entry at the place of the left one
  pub set-is : (cut : List (At × Entry)) (e : Entry) → cut ≡ it.before ++ (left, it.window) ∷ it.rest →
      set cut (index_of cut left) (left, e) ≡ it.before ++ (left, e) ∷ it.rest
  set-is cut e is =
      let index = ap (λ es. index_of es left) is ∙ index-once it.before left it.window it.rest it.left_once in
      ap₂ (λ (es : List (At × Entry)) (k : ℕ). set es k (left, e)) is index ∙ set-append_seam it.before (left, it.window) it.rest (left, e)

  -- what stands at the place of the left one
  pub stands-joined : (line : List (At × Entry)) (e : Entry) → line ≡ it.before ++ (left, e) ∷ it.rest → StandsIn line left
  stands-joined line e is = rw is (stands-once it.before left e it.rest it.left_once)

  pub entry-joined : (line : List (At × Entry)) (e : Entry) → line ≡ it.before ++ (left, e) ∷ it.rest → entry_at line left ≡ Some e
  entry-joined line e is = ap (λ es. entry_at es left) is ∙ entry-once it.before left e it.rest it.left_once

  -- the entry that the two make, as they are read
  pub joined-is : (window next : Entry) → entry_at (remove entries (index_of entries right)) left ≡ Some window → entry_at entries right ≡ Some next →
      joined_entry window next ≡ joined_entry it.window it.next
  joined-is window next read_left read_right =
      ap₂ joined_entry
      (same_Some window it.window (sym read_left ∙ entry-joined (remove entries (index_of entries right)) it.window cut-is))
      (same_Some next it.next (sym read_right ∙ entry-right))

  pub length-joined : (line : List (At × Entry)) (e : Entry) → line ≡ it.before ++ (left, e) ∷ it.rest → length line + 1 ≡ length entries
  length-joined line e is =
      let now = ap (λ (es : List (At × Entry)). length es) is in
      let was = ap (λ (es : List (At × Entry)). length es) it.is in
      omega (
        arith,
        now,
        was,
        length-append it.before ((left, e) ∷ it.rest),
        length-append it.before ((left, it.window) ∷ (right, it.next) ∷ it.rest),
      )
