-- Contents that differ in some ranges: what writes there make of them, lost, torn or whole.
use Rattle.ss_journal.proofs.Common.{List, [], ap, arith, drop, inl, inr, length, max, refl, replicate, sym, take, ℕ, ⊎_elim, ◌++◌, ◌+◌, ◌-◌, ◌∙◌, ◌∷◌, ◌≡◌}
use Rattle.ss_journal.proofs.Common.{◌≤◌, cases_lt, append_assoc, drop-drop, drop_at, get_or_past, length-append, length-replicate, length-take-le}
use Rattle.ss_journal.proofs.Common.{append-nil, take-append-drop, take_at, slice_index, get_or-overwrite_outside, length-overwrite, IsOutside, IsOutsideAll}
use Rattle.ss_journal.proofs.Common.{overwrite, DiffersAt, DiffersIn, SameRest, length_with}
use Rattle.std.proofs.lemmas.List.{replicate-append-replicate}
use Rattle.ss_outside.specs.Disk.{Torn}

-- ranges make no file shorter
pub length_with-le : (ranges : List (ℕ × ℕ)) (size : ℕ) → size ≤ length_with ranges size
length_with-le [] size = omega arith
length_with-le (range ∷ ranges) size = omega (arith, length_with-le ranges size)

pub DiffersIn-refl : (ranges : List (ℕ × ℕ)) (content : List ℕ) → DiffersIn ranges content content
DiffersIn-refl ranges content = record { no_shorter = omega arith; no_longer = length_with-le ranges (length content); kept = λ place lt out. refl }

-- a torn write on top is one range more
pub DiffersIn-torn : (ranges : List (ℕ × ℕ)) (at count : ℕ) (content old new : List ℕ) → DiffersIn ranges content old → Torn at count old new
    → DiffersIn ((at, count) ∷ ranges) content new
DiffersIn-torn ranges at count content old new differs torn = record {
  no_shorter = omega (arith, differs.no_shorter, torn.no_shorter);
  no_longer = omega (arith, differs.no_longer, torn.no_longer);
  kept = λ place lt out. torn.kept place (omega (arith, lt, differs.no_shorter)) out.0 ∙ differs.kept place lt out.1;
}

-- where several ranges end
length_with-from : (ranges : List (ℕ × ℕ)) (size : ℕ) → length_with ranges size ≡ max (length_with ranges 0) size
length_with-from [] size = omega arith
length_with-from (range ∷ ranges) size = omega (arith, length_with-from ranges size)

length_with-append : (first second : List (ℕ × ℕ)) (size : ℕ) → length_with (first ++ second) size ≡ max (length_with first size) (length_with second 0)
length_with-append [] second size = omega (arith, length_with-from second size)
length_with-append (range ∷ first) second size = omega (arith, length_with-append first second size)

outside_both : (first second : List (ℕ × ℕ)) (place : ℕ) → IsOutsideAll (first ++ second) place → IsOutsideAll first place × IsOutsideAll second place
outside_both [] second place out = (tt, out)
outside_both (range ∷ first) second place out =
    let rest = outside_both first second place out.1 in
    ((out.0, rest.0), rest.1)

-- the ranges in the order in which they were written
pub DiffersIn-append : (first second : List (ℕ × ℕ)) (content old new : List ℕ) → DiffersIn first content old → DiffersIn second old new
    → DiffersIn (first ++ second) content new
DiffersIn-append first second content old new before after = record {
  no_shorter = omega (arith, before.no_shorter, after.no_shorter);
  no_longer = omega (arith, before.no_longer, after.no_longer, length_with-append first second (length content), length_with-from second (length old));
  kept = λ place lt out.
      let both = outside_both first second place out in
      after.kept place (omega (arith, lt, before.no_shorter)) both.1 ∙ before.kept place lt both.0;
}

pub DiffersIn-overwrite : (at : ℕ) (content bytes : List ℕ) → at ≤ length content → DiffersAt at (length bytes) content (overwrite content at bytes)
DiffersIn-overwrite at content bytes within = record {
  no_shorter = omega (arith, length-overwrite content bytes at within);
  no_longer = omega (arith, length-overwrite content bytes at within);
  kept = λ place lt out. get_or-overwrite_outside content bytes at within place out.0;
}

-- ranges within a file leave its length and all other places, also past the end
pub length-differs : (ranges : List (ℕ × ℕ)) (old new : List ℕ) → length_with ranges (length old) ≤ length old → DiffersIn ranges old new
    → length new ≡ length old
length-differs ranges old new inside differs = omega (arith, differs.no_shorter, differs.no_longer, inside)

pub get_or-differs : (ranges : List (ℕ × ℕ)) (old new : List ℕ) → length_with ranges (length old) ≤ length old → DiffersIn ranges old new → (place : ℕ)
    → IsOutsideAll ranges place → slice_index new place ≡ slice_index old place
get_or-differs ranges old new inside differs place out = elim (cases_lt place (length old)) [
  | inl lt ↦ differs.kept place lt out
  | inr past ↦ get_or_past new place 0 (omega (arith, past, length-differs ranges old new inside differs)) ∙ sym (get_or_past old place 0 past)
]

-- ranges that end where the last possible slot ends leave the rest
pub SameRest-differs : (ranges : List (ℕ × ℕ)) (old new : List ℕ) → ((place : ℕ) → 134254592 ≤ place → IsOutsideAll ranges place)
    → length_with ranges (length old) ≤ max (length old) 134254592 → DiffersIn ranges old new → SameRest old new
SameRest-differs ranges old new out end differs place past = elim (cases_lt place (length old)) [
  | inl lt ↦ differs.kept place lt (out place past)
  | inr beyond ↦ get_or_past new place 0 (omega (arith, past, beyond, end, differs.no_longer)) ∙ sym (get_or_past old place 0 beyond)
]

-- one torn write
pub DiffersAt-torn : (at count : ℕ) (was image : List ℕ) → Torn at count was image → DiffersAt at count was image
DiffersAt-torn at count was image torn = DiffersIn-torn [] at count was was image (DiffersIn-refl [] was) torn

-- each place outside the ranges lies outside this one, which ends where they end at the latest
pub record Covers (ranges : List (ℕ × ℕ)) (at count : ℕ) : Type 0 where
  pub outside : (place : ℕ) → IsOutsideAll ranges place → IsOutside at count place
  pub end : (size : ℕ) → at + count ≤ length_with ranges size

pub DiffersIn-covered : (ranges : List (ℕ × ℕ)) (at count : ℕ) (content old new : List ℕ) → Covers ranges at count → DiffersIn ranges content old
    → DiffersAt at count old new → DiffersIn ranges content new
DiffersIn-covered ranges at count content old new covers before after = record {
  no_shorter = omega (arith, before.no_shorter, after.no_shorter);
  no_longer = omega (arith, before.no_longer, after.no_longer, covers.end (length content));
  kept = λ place lt out. after.kept place (omega (arith, lt, before.no_shorter)) (covers.outside place out, tt) ∙ before.kept place lt out;
}

pub Covers-part : (at count from part : ℕ) → at ≤ from → from + part ≤ at + count → Covers ((at, count) ∷ []) from part
Covers-part at count from part low high = record {
  outside = λ place out. ⊎_elim (λ below. inl (omega (arith, below, low))) (λ above. inr (omega (arith, above, high))) out.0;
  end = λ size. omega (arith, high);
}

-- to write nothing leaves all
pub overwrite-none : (content : List ℕ) (at : ℕ) → at ≤ length content → content ≡ overwrite content at []
overwrite-none content at within =
    let here : at + 0 ≡ at = omega arith in
    sym (ap (λ (front : List ℕ). front ++ drop (at + 0) content) (append-nil (take at content))
    ∙ ap (λ (n : ℕ). take at content ++ drop n content) here ∙ take-append-drop at content)

-- two writes, one after the other, are one
pub overwrite-overwrite : (content first second : List ℕ) (at mid : ℕ) → at ≤ length content → at + length first ≡ mid
    → overwrite (overwrite content at first) mid second ≡ overwrite content at (first ++ second)
overwrite-overwrite content first second at mid within there =
    let front : length (take at content ++ first) ≡ mid = omega (arith, there, length-append (take at content) first, length-take-le at content within) in
    let kept = drop (at + length first) content in
    let start : take mid (take at content ++ first ++ kept) ≡ take at content ++ first = take_at (take at content ++ first) kept mid front in
    let rest : drop (mid + length second) (take at content ++ first ++ kept) ≡ drop (at + length (first ++ second)) content =
    sym (drop-drop (length second) mid (take at content ++ first ++ kept)) ∙ ap (drop (length second)) (drop_at (take at content ++ first) kept mid front)
    ∙ drop-drop (length second) (at + length first) content
    ∙ ap (λ (n : ℕ). drop n content) (let same : at + length first + length second ≡ at + length (first ++ second) = omega
    (arith, length-append first second) in same) in
    rw (start, rest, append_assoc (take at content) first second)

-- a write over another, which it covers
overwrite-again : (content first second : List ℕ) (at : ℕ) → at ≤ length content → length first ≤ length second
    → overwrite (overwrite content at first) at second ≡ overwrite content at second
overwrite-again content first second at within few =
    let extra = length second - length first in
    let kept = drop (at + length first) content in
    let whole : length first + extra ≡ length second = omega (arith, few) in
    let front = length-take-le at content within in
    let all : List ℕ = take at content ++ (first ++ kept) in
    let rest : drop (at + length second) all ≡ drop (at + length second) content =
    sym (drop-drop (length second) at all) ∙ ap (drop (length second)) (drop_at (take at content) (first ++ kept) at front)
    ∙ ap (λ (n : ℕ). drop n (first ++ kept)) (let same : length second ≡ length first + extra = omega (arith, few) in same)
    ∙ sym (drop-drop extra (length first) (first ++ kept)) ∙ ap (drop extra) (drop_at first kept (length first) refl)
    ∙ drop-drop extra (at + length first) content
    ∙ ap (λ (n : ℕ). drop n content) (let same : at + length first + extra ≡ at + length second = omega (arith, few) in same) in
    ap (λ (list : List ℕ). take at list ++ second ++ drop (at + length second) list) (append_assoc (take at content) first kept)
    ∙ ap (λ (list : List ℕ). list ++ second ++ drop (at + length second) all) (take_at (take at content) (first ++ kept) at front)
    ∙ ap (λ (list : List ℕ). take at content ++ second ++ list) rest

-- a write over the end of another, which it covers
pub overwrite-end : (content first end second : List ℕ) (at mid : ℕ) → at ≤ length content → at + length first ≡ mid → length end ≤ length second
    → overwrite (overwrite content at (first ++ end)) mid second ≡ overwrite content at (first ++ second)
overwrite-end content first end second at mid within there few =
    ap (λ (list : List ℕ). overwrite list mid second) (sym (overwrite-overwrite content first end at mid within there))
    ∙ overwrite-again (overwrite content at first) end second mid (omega (arith, within, there, length-overwrite content first at within)) few
    ∙ overwrite-overwrite content first second at mid within there

pub overwrite-zeros : (content now : List ℕ) (at from count : ℕ) → at ≤ length content → at ≤ from
    → now ≡ overwrite content at (replicate (from - at) 0)
    → overwrite now from (replicate count 0) ≡ overwrite content at (replicate (from + count - at) 0)
overwrite-zeros content now at from count within low is =
    let there : at + length (replicate {A = ℕ} (from - at) 0) ≡ from = omega (arith, low, length-replicate {A = ℕ} (from - at) 0) in
    let more : from - at + count ≡ from + count - at = omega (arith, low) in
    ap (λ (list : List ℕ). overwrite list from (replicate count 0)) is
    ∙ overwrite-overwrite content (replicate (from - at) 0) (replicate count 0) at from within there
    ∙ ap (overwrite content at) (replicate-append-replicate {A = ℕ} (from - at) count 0 ∙ ap (λ (n : ℕ). replicate n 0) more)
