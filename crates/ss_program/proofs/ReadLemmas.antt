-- What was read of an input, and the lines that had ended within it.
use Rattle.ss_program.proofs.Common.{◌≡◌, ◌⊎◌, inl, inr, length-drop, ℕ, ◌+◌, ◌<◌, ◌≤◌, ◌++◌, List, [], ◌∷◌, length, take, drop, Bool, Option, Some, None, Ok}
use Rattle.ss_program.proofs.Common.{common_steps, Err, refl, sym, ap, ◌∙◌, append_assoc, arith, take-add, append-nil, drop-drop, drop_all}
use Rattle.ss_program.proofs.Common.{length-take-le, take-append-drop, Form, Sealing, Each, Shared, Moves, Failed, most_read, Moved, Reads, Took, steps_within}
use Rattle.ss_program.proofs.Common.{IsStop, LONGEST_INPUT, Status, steps, steps_so_far, Done, SourceFault, InputLimit}
use Rattle.ss_program.proofs.StepsLemmas.{steps-all, steps-front, steps-more}

-- some first bytes of the input were read, and these lines had ended within them
pub record AreRead (form : Form) (input : List ℕ) (left : Option (List ℕ)) (ls : List (List ℕ)) : Type 0 where
  pub read : List ℕ
  pub rest : List ℕ
  pub all : read ++ rest ≡ input
  pub others : left ≡ Some rest
  pub more : List (List ℕ)
  pub are : steps_within form read rest ≡ ls ++ more

-- none were
pub AreRead-none : (form : Form) (input : List ℕ) (left : Option (List ℕ)) → left ≡ Some input → AreRead form input left []
AreRead-none form input left is = record { read = []; rest = input; all = refl; others = is; more = steps_within form [] input; are = refl }

-- what a read moved
pub moved : (before after : Option (List ℕ)) (count : ℕ) (into left : List ℕ) → Moves before after (Ok count) into → before ≡ Some left →
    (count ≤ length left) × (take count into ≡ take count left) × (after ≡ Some (drop count left))
moved None after count into left moves is = cc
moved (Some bytes) after count into left moves is =
    let same : bytes ≡ left = cc in
    rw (← same) (moves.0, moves.2, moves.3)

pub moved_on : (before after : Option (List ℕ)) (count : ℕ) (into left : List ℕ) → Moves before after (Ok count) into → before ≡ Some left →
    (count ≤ length left) × (count ≡ 0 → left ≡ []) × (after ≡ Some (drop count left))
moved_on None after count into left moves is = cc
moved_on (Some bytes) after count into left moves is =
    let same : bytes ≡ left = cc in
    rw (← same) (moves.0, moves.1, moves.3)

-- and what one that failed left
pub unmoved : (before after : Option (List ℕ)) (e : Failed) (into : List ℕ) → Moves before after (Err e) into → after ≡ before
unmoved None after e into moves = moves
unmoved (Some bytes) after e into moves = moves

-- so many bytes of the input were read
pub record IsLeft (left : Option (List ℕ)) (input : List ℕ) (n : ℕ) : Type 0 where
  pub within : n ≤ length input
  pub source : left ≡ Some (drop n input)

pub IsLeft-more : (left : Option (List ℕ)) (input : List ℕ) (n k : ℕ) → n ≤ length input → k ≤ length (drop n input) →
    left ≡ Some (drop k (drop n input)) → IsLeft left input (n + k)
IsLeft-more left input n k within more source = record {
  within = omega (arith, within, more, length-drop n input);
  source = source ∙ ap (λ bs. Some bs) (drop-drop k n input);
}

-- nothing is left of it
pub length_of-none : (input : List ℕ) (n : ℕ) → drop n input ≡ [] → length input ≤ n
length_of-none input n none = let short = ap (λ (bs : List ℕ). length bs) none in omega (arith, length-drop n input)

pub left-none : (left : Option (List ℕ)) (rest : List ℕ) (k : ℕ) → rest ≡ [] → left ≡ Some (drop k rest) → left ≡ Some []
left-none left rest k none is = let short = ap (λ (bs : List ℕ). length bs) none in is ∙ ap (λ bs. Some bs) (drop_all k rest (omega (arith, short)))

-- what was taken of the input, and what is left
pub Took-at : (input : List ℕ) (left : Option (List ℕ)) (n : ℕ) → n ≤ length input → n ≤ LONGEST_INPUT → left ≡ Some (drop n input) →
    Took input left (take n input) (drop n input)
Took-at input left n within few is = record {
  all = take-append-drop n input;
  others = is;
  few = omega (arith, few, length-take-le n input within);
}

-- the lines so far are a front of those of the input
steps_within-front : (form : Form) (taken rest : List ℕ) → (more : List (List ℕ)) × (steps form (taken ++ rest) ≡ steps_within form taken rest ++ more)
steps_within-front form taken [] = ([], ap (λ bs. steps form bs) (append-nil taken) ∙ sym (append-nil (steps form taken)))
steps_within-front form taken (b ∷ rest) = steps-front form taken (b ∷ rest)

-- and those within fewer bytes are a front of those within more
steps_within-so_far : (form : Form) (taken rest : List ℕ) → (more : List (List ℕ)) × (steps_within form taken rest ≡ steps_so_far form taken ++ more)
steps_within-so_far form taken [] = steps-all form taken
steps_within-so_far form taken (b ∷ rest) = ([], sym (append-nil (steps_so_far form taken)))

steps_within-more : (form : Form) (taken next rest : List ℕ) →
    (more : List (List ℕ)) × (steps_within form (taken ++ next) rest ≡ steps_so_far form taken ++ more)
steps_within-more form taken next rest =
    let first = steps-more form taken next in
    let within = steps_within-so_far form (taken ++ next) rest in (
      first.0 ++ within.0,
      within.1 ∙ ap (λ ls. ls ++ within.0) first.1 ∙ append_assoc (steps_so_far form taken) first.0 within.0,
    )

-- so many bytes of the input were read: the lines that ended within the first of them are among those that ended then
pub AreRead-front : (form : Form) (input : List ℕ) (left : Option (List ℕ)) (n k : ℕ) → left ≡ Some (drop (n + k) input) →
    AreRead form input left (steps_so_far form (take n input))
AreRead-front form input left n k is =
    let both : take (n + k) input ≡ take n input ++ take k (drop n input) = take-add n k input in
    let within = steps_within-more form (take n input) (take k (drop n input)) (drop (n + k) input) in
    record {
      read = take (n + k) input;
      rest = drop (n + k) input;
      all = take-append-drop (n + k) input;
      others = is;
      more = within.0;
      are = ap (λ bs. steps_within form bs (drop (n + k) input)) both ∙ within.1;
    }

-- the lines that ended within the bytes taken
pub AreRead-took : (form : Form) (input : List ℕ) (left : Option (List ℕ)) (taken rest : List ℕ) → Took input left taken rest →
    AreRead form input left (steps_within form taken rest)
AreRead-took form input left taken rest took = record {
  read = taken;
  rest = rest;
  all = took.all;
  others = took.others;
  more = [];
  are = sym (append-nil (steps_within form taken rest));
}

-- the lines within the bytes taken are the first of all
pub steps-read : (form : Form) (input taken rest : List ℕ) → taken ++ rest ≡ input →
    (more : List (List ℕ)) × (steps form input ≡ steps_within form taken rest ++ more)
steps-read form input taken rest all =
    let more = steps_within-front form taken rest in (more.0, ap (λ bs. steps form bs) (sym all) ∙ more.1)

-- its status isn't that of a run that is done, nor that of an input that is too long
pub stop-other : (tells : Bool) (status : Status) → IsStop tells status →
    (status ≡ Done → ⊥) × (status ≡ InputLimit → ⊥) × (status ≡ SourceFault → ⊥)
stop-other tells status stop = (λ is. grind (arith, common_steps), λ is. grind (arith, common_steps), λ is. grind (arith, common_steps))

-- and neither is it where the source failed
pub end-other : (tells : Bool) (status : Status) → (status ≡ SourceFault) ⊎ IsStop tells status →
    (status ≡ Done → ⊥) × (status ≡ InputLimit → ⊥)
end-other tells status how = (λ is. grind (arith, common_steps), λ is. grind (arith, common_steps))

-- so many bytes were read
pub Moved-at : (input : List ℕ) (left : Option (List ℕ)) (n : ℕ) → IsLeft left input n → n ≤ LONGEST_INPUT → Moved (LONGEST_INPUT + 1) input left
Moved-at input left n at few = record { count = n; few = omega (arith, few); within = at.within; others = at.source }

-- and some of a piece more
pub Moved-piece : (input : List ℕ) (left : Option (List ℕ)) (n room : ℕ) → n ≤ length input → n + room ≤ LONGEST_INPUT + 1 →
    Moved room (drop n input) left → Moved (LONGEST_INPUT + 1) input left
Moved-piece input left n room within fits piece = record {
  count = n + piece.count;
  few = omega (arith, fits, piece.few);
  within = omega (arith, within, piece.within, length-drop n input);
  others = piece.others ∙ ap (λ bs. Some bs) (drop-drop piece.count n input);
}

-- the run stopped before the input's end was known
pub Reads-stop : (input : List ℕ) (left : Option (List ℕ)) (status : Status) → (status ≡ Done → ⊥) → (status ≡ InputLimit → ⊥) →
    Moved (LONGEST_INPUT + 1) input left → Reads input left status
Reads-stop input left status going within moved = record { few = moved; whole = λ is. absurd (going is); limit = λ is. absurd (within is) }

pub end-limit : {A : Type 0} (tells : Bool) (status : Status) → (status ≡ Done) ⊎ IsStop tells status → status ≡ InputLimit → A
end-limit tells status (inl is) wrong = cc
end-limit tells status (inr stop) wrong = absurd ((stop-other tells status stop).1 wrong)

-- what was read, where the session came to its end
pub Reads-end : (tells : Bool) (input : List ℕ) (left : Option (List ℕ)) (status : Status) → length input ≤ LONGEST_INPUT → left ≡ Some [] →
    (status ≡ Done) ⊎ IsStop tells status → Reads input left status
Reads-end tells input left status fits source how = record {
  few = record {
    count = length input;
    few = omega (arith, fits);
    within = omega arith;
    others = source ∙ ap (λ bs. Some bs)
        (sym (drop_all (length input) input (omega arith)));
  };
  whole = λ _. (fits, source);
  limit = λ wrong. end-limit tells status how wrong;
}

pub Reads-limit : (input : List ℕ) (left : Option (List ℕ)) (n : ℕ) → n ≡ LONGEST_INPUT → 0 < length (drop n input) →
    left ≡ Some (drop 1 (drop n input)) → Reads input left InputLimit
Reads-limit input left n last some is =
    let all = is ∙ ap (λ bs. Some bs) (drop-drop 1 n input ∙ ap (λ m. drop (m + 1) input) last) in
    let longer : LONGEST_INPUT < length input = omega (arith, last, some, length-drop n input) in
    record {
      few = record { count = LONGEST_INPUT + 1; few = omega arith; within = omega (arith, longer); others = all };
      whole = λ wrong. cc;
      limit = λ _. (longer, all);
    }

-- a read of the input takes some bytes at the most, whatever shares a seal
pub most_read-some : (sealing : Sealing) {n : ℕ} → n ≡ most_read sealing → 0 < n
most_read-some Each is = omega (arith, is)
most_read-some Shared is = omega (arith, is)
