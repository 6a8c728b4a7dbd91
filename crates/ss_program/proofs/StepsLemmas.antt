-- The steps of an input go on as more bytes come, whichever form it has.
use Rattle.ss_program.proofs.Common.{◌≡◌, ℕ, ◌<◌, ◌≤◌, ◌++◌, List, [], length, map, Bool, true, false, Option, Some, None, IfSome, ap, refl, inl}
use Rattle.ss_program.proofs.Common.{inr, arith, ◌∙◌, map-append, cond-true, cond-false, cases_lt, le-leb, lt-leb, if◌then◌else◌, is_some, nat_le, Form, lines}
use Rattle.ss_program.proofs.Common.{lines_so_far, unended, unless_empty, without_return, Kept, ended_line, unless_long, LONGEST_LINE, Ended, pieces-front}
use Rattle.ss_program.proofs.Common.{pieces_so_far-append, pieces, unended_piece, is_in_pieces, steps, steps_so_far}
use Rattle.ss_command.proofs.LineLemmas.{ended_lines-append, lines-front}
use Rattle.ss_command.specs.Lines.{ended_lines}
use Rattle.ss_frames.specs.Pieces.{pieces_so_far, unless_empty as unless_last}

-- the lines of more input go on from those of an input
lines-more : (taken more : List ℕ) → (rest : List (List ℕ)) × (lines_so_far (taken ++ more) ≡ lines_so_far taken ++ rest)
lines-more taken more =
    let front = ended_lines-append taken more in
    (map without_return front.0, ap (λ ls. map without_return ls) front.1 ∙ map-append without_return _ front.0)

by_more : (cut : Bool) (taken more : List ℕ) → (rest : List (List ℕ))
    × ((if cut then pieces_so_far (taken ++ more) else lines_so_far (taken ++ more))
    ≡ (if cut then pieces_so_far taken else lines_so_far taken) ++ rest)
by_more true taken more = pieces_so_far-append taken more
by_more false taken more = lines-more taken more

by_front : (cut : Bool) (taken more : List ℕ) → (rest : List (List ℕ))
    × ((if cut then pieces (taken ++ more) else lines (taken ++ more)) ≡ (if cut then pieces_so_far taken else lines_so_far taken) ++ rest)
by_front true taken more = pieces-front taken more
by_front false taken more = lines-front taken more

by_all : (cut : Bool) (taken : List ℕ) → (rest : List (List ℕ))
    × ((if cut then pieces taken else lines taken) ≡ (if cut then pieces_so_far taken else lines_so_far taken) ++ rest)
by_all true taken = (unless_last (unended_piece taken), refl)
by_all false taken = (map without_return (unless_empty (unended taken)), refl)

-- all steps of an input go on from those that have ended
pub steps-all : (form : Form) (taken : List ℕ) → (rest : List (List ℕ)) × (steps form taken ≡ steps_so_far form taken ++ rest)
steps-all form taken = by_all (is_in_pieces form) taken

by_none : (cut : Bool) → (if cut then pieces_so_far [] else lines_so_far []) ≡ []
unfolding pieces_so_far ended_lines
by_none true = refl
by_none false = refl

-- nothing has no steps
pub steps-none : (form : Form) → steps_so_far form [] ≡ []
steps-none form = by_none (is_in_pieces form)

-- the steps of more input go on from those that have ended of an input
pub steps-more : (form : Form) (taken more : List ℕ) → (rest : List (List ℕ)) × (steps_so_far form (taken ++ more) ≡ steps_so_far form taken ++ rest)
steps-more form taken more = by_more (is_in_pieces form) taken more

-- and so do all steps of it
pub steps-front : (form : Form) (taken more : List ℕ) → (rest : List (List ℕ)) × (steps form (taken ++ more) ≡ steps_so_far form taken ++ rest)
steps-front form taken more = by_front (is_in_pieces form) taken more

-- a line that has ended and is kept isn't too long
unless_long-short : (line : List ℕ) → IfSome (unless_long line) (λ bytes. length bytes ≤ LONGEST_LINE)
unless_long-short line = elim (cases_lt LONGEST_LINE (length line)) [
  | inl long ↦ (let none = cond-false (nat_le (length line) LONGEST_LINE) (Some line) None (lt-leb (length line) LONGEST_LINE long) in
      rw none tt)
  | inr fits ↦ (let some = cond-true (nat_le (length line) LONGEST_LINE) (Some line) None (le-leb (length line) LONGEST_LINE fits) in
      rw some fits)
]

ended_line-short : (line : Kept) → IfSome (ended_line line) (λ bytes. length bytes ≤ LONGEST_LINE)
ended_line-short None = tt
ended_line-short (Some bytes) = unless_long-short (without_return bytes)

-- nor is a line that a reader has ended
pub line-short : (ended : Option Ended) (line under : Kept) → line ≡ (if is_some ended then ended_line under else under) →
    IfSome ended (λ _. IfSome line (λ bytes. length bytes ≤ LONGEST_LINE))
line-short None line under is = tt
line-short (Some ended) line under is = rw is (ended_line-short under)

-- and no piece is longer than a line may be
pub piece-short : (ended : Option Ended) (bytes : List ℕ) → length bytes < 64 → IfSome ended (λ _. length bytes ≤ LONGEST_LINE)
piece-short None bytes few = tt
piece-short (Some ended) bytes few = omega (arith, few)
