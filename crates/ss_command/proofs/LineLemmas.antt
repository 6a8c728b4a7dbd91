-- How the lines of an input grow with it.
use Rattle.std.proofs.Common.{◌≡◌, ℕ, suc, ◌+◌, ◌-◌, ◌<◌, ◌≤◌, ◌==◌, false, List, [], ◌∷◌, ◌++◌, length, take, arith, refl, ap, sym, ◌∙◌, ⊎_elim}
use Rattle.std.proofs.Common.{append_assoc, nat_le, map, slice_index, Some, None}
use Rattle.std.proofs.lemmas.Bool.{cases_Bool, cond-false, cond-true, eqb-true}
use Rattle.std.proofs.lemmas.Bool.Decides.{nat_tests}
use Rattle.std.proofs.lemmas.List.{append-nil, get_or-take, length-append, length-take-le, map-append, take_all, take_more}
use Rattle.std.proofs.lemmas.List.Elements.{All-from_get_or}
use Rattle.std.proofs.lemmas.List.Splits.{slice_split-cons_no, slice_split-cons_yes, slice_split_at, slice_split_none}
use Rattle.std.proofs.lemmas.List.Sums.{fails_before_first, passes_at_first, position_or_len_is, prefix_len-le-length}
use Rattle.std.specs.List.{All, before_first, onto_first, position_or_len, slice_split}
use Rattle.ss_command.specs.declared.TheConstants.{LINE_END, CARRIAGE_RETURN}
use Rattle.ss_command.specs.Lines.{all_but_last, ended_lines, is_line_end, last_of, lines, lines_so_far, unended, unless_empty, without_return}
use Rattle.ss_command.specs.LineState.{ended_line, extended, kept, unless_long}

-- a list of lists that has one at least
abbrev pub SomeParts : List (List ℕ) → Type 0
SomeParts parts = (part : List ℕ) × (rest : List (List ℕ)) × (parts ≡ part ∷ rest)

-- the parts of an input, as parts that go on with the last one
abbrev onto_last : List ℕ → List (List ℕ) → List (List ℕ)
onto_last line [] = line ∷ []
onto_last line (part ∷ parts) = (line ++ part) ∷ parts

abbrev joined : List (List ℕ) → List (List ℕ) → List (List ℕ)
joined parts more = all_but_last parts ++ onto_last (last_of parts) more

-- there is at least one part
pub some_parts : (xs : List ℕ) → SomeParts (slice_split is_line_end xs)
some_parts [] = ([], [], refl)
some_parts (x ∷ xs) =
    let rest = some_parts xs in
    ⊎_elim
    (λ yes. ([], slice_split is_line_end xs, slice_split-cons_yes is_line_end x xs yes))
    (λ no. (x ∷ rest.0, rest.1, slice_split-cons_no is_line_end x xs no ∙ ap (onto_first x) rest.2))
    (cases_Bool (is_line_end x))

-- a part more at the front
cons-joined : (parts more : List (List ℕ)) → SomeParts parts → [] ∷ joined parts more ≡ joined ([] ∷ parts) more
cons-joined [] more some = cc (some.2)
cons-joined (part ∷ parts) more some = refl

-- a byte more at the front
onto_first-joined : (x : ℕ) (parts more : List (List ℕ)) → SomeParts parts → onto_first x (joined parts more) ≡ joined (onto_first x parts) more
onto_first-joined x [] more some = cc (some.2)
onto_first-joined x (part ∷ []) [] some = refl
onto_first-joined x (part ∷ []) (m ∷ ms) some = refl
onto_first-joined x (part ∷ p ∷ ps) more some = refl

-- what stands after goes on with the last part
slice_split-append : (xs ys : List ℕ) → slice_split is_line_end (xs ++ ys) ≡ joined (slice_split is_line_end xs) (slice_split is_line_end ys)
slice_split-append [] ys = let some = some_parts ys in rw some.2 refl
slice_split-append (x ∷ xs) ys =
    let rest = slice_split-append xs ys in
    let parts = slice_split is_line_end xs in
    let more = slice_split is_line_end ys in
    ⊎_elim
    (λ yes. slice_split-cons_yes is_line_end x (xs ++ ys) yes ∙ ap (λ p. [] ∷ p) rest ∙ cons-joined parts more (some_parts xs) ∙
    ap (λ p. joined p more) (sym (slice_split-cons_yes is_line_end x xs yes)))
    (λ no. slice_split-cons_no is_line_end x (xs ++ ys) no ∙ ap (onto_first x) rest ∙ onto_first-joined x parts more (some_parts xs) ∙
    ap (λ p. joined p more) (sym (slice_split-cons_no is_line_end x xs no)))
    (cases_Bool (is_line_end x))

-- the last of joined lists
all_but_last-append : (ls : List (List ℕ)) (m : List ℕ) (ms : List (List ℕ)) → all_but_last (ls ++ m ∷ ms) ≡ ls ++ all_but_last (m ∷ ms)
all_but_last-append [] m ms = refl
all_but_last-append (l ∷ []) m ms = refl
all_but_last-append (l ∷ k ∷ ls) m ms = ap (λ t. l ∷ t) (all_but_last-append (k ∷ ls) m ms)

last_of-append : (ls : List (List ℕ)) (m : List ℕ) (ms : List (List ℕ)) → last_of (ls ++ m ∷ ms) ≡ last_of (m ∷ ms)
last_of-append [] m ms = refl
last_of-append (l ∷ []) m ms = refl
last_of-append (l ∷ k ∷ ls) m ms = last_of-append (k ∷ ls) m ms

-- no byte before the first line end is one, in std's words
no_line_end : (ys : List ℕ) → position_or_len is_line_end ys ≡ length ys → All (λ y. is_line_end y ≡ false) ys
no_line_end ys none = All-from_get_or (λ y. is_line_end y ≡ false) ys 0 (λ k inside. fails_before_first is_line_end ys k 0 (omega arith))

-- bytes with no line end go on with the last part
slice_split-no_end : (xs ys : List ℕ) → position_or_len is_line_end ys ≡ length ys →
    slice_split is_line_end (xs ++ ys) ≡ ended_lines xs ++ (unended xs ++ ys) ∷ []
unfolding ended_lines unended
slice_split-no_end xs ys none =
    slice_split-append xs ys ∙ ap (joined (slice_split is_line_end xs)) (slice_split_none is_line_end ys (no_line_end ys none))

-- a line end after them ends that part, and begins one more
slice_split-line_end : (xs ys : List ℕ) → position_or_len is_line_end ys ≡ length ys →
    slice_split is_line_end (xs ++ ys ++ LINE_END ∷ []) ≡ ended_lines xs ++ (unended xs ++ ys) ∷ [] ∷ []
unfolding ended_lines unended
slice_split-line_end xs ys none =
    ap (slice_split is_line_end) (append_assoc xs ys (LINE_END ∷ [])) ∙ slice_split-append xs (ys ++ LINE_END ∷ []) ∙
    ap (joined (slice_split is_line_end xs)) (slice_split_at is_line_end ys LINE_END [] (no_line_end ys none) refl)

-- bytes with no line end end no line
pub ended_lines-no_end : (xs ys : List ℕ) → position_or_len is_line_end ys ≡ length ys → ended_lines (xs ++ ys) ≡ ended_lines xs
unfolding ended_lines
ended_lines-no_end xs ys none =
    ap all_but_last (slice_split-no_end xs ys none) ∙ all_but_last-append (ended_lines xs) (unended xs ++ ys) [] ∙ append-nil (ended_lines xs)

pub unended-no_end : (xs ys : List ℕ) → position_or_len is_line_end ys ≡ length ys → unended (xs ++ ys) ≡ unended xs ++ ys
unfolding unended
unended-no_end xs ys none =
    ap last_of (slice_split-no_end xs ys none) ∙ last_of-append (ended_lines xs) (unended xs ++ ys) []

-- a line end after such bytes ends one line
pub ended_lines-line_end : (xs ys : List ℕ) → position_or_len is_line_end ys ≡ length ys →
    ended_lines (xs ++ ys ++ LINE_END ∷ []) ≡ ended_lines xs ++ (unended xs ++ ys) ∷ []
unfolding ended_lines
ended_lines-line_end xs ys none =
    ap all_but_last (slice_split-line_end xs ys none) ∙ all_but_last-append (ended_lines xs) (unended xs ++ ys) ([] ∷ [])

pub unended-line_end : (xs ys : List ℕ) → position_or_len is_line_end ys ≡ length ys → unended (xs ++ ys ++ LINE_END ∷ []) ≡ []
unfolding unended
unended-line_end xs ys none =
    ap last_of (slice_split-line_end xs ys none) ∙ last_of-append (ended_lines xs) (unended xs ++ ys) ([] ∷ [])

-- a piece up to and with its first line end
pub piece-at_line_end : (piece : List ℕ) → position_or_len is_line_end piece < length piece →
    take (position_or_len is_line_end piece + 1) piece ≡ before_first is_line_end piece ++ LINE_END ∷ []
piece-at_line_end piece inside =
    take_more piece (position_or_len is_line_end piece) 0 inside ∙
    ap (λ b. before_first is_line_end piece ++ b ∷ []) (eqb-true _ _ (passes_at_first is_line_end piece 0 inside))

-- what stands before the first line end has none
pub before_first-no_end : (piece : List ℕ) → position_or_len is_line_end (before_first is_line_end piece) ≡ length (before_first is_line_end piece)
before_first-no_end piece =
    let long = length-take-le (position_or_len is_line_end piece) piece (prefix_len-le-length _ piece) in
    position_or_len_is is_line_end (before_first is_line_end piece) _ 0 (omega arith)
    (λ k inside. let below : k < position_or_len is_line_end piece = omega arith in
    rw (get_or-take (position_or_len is_line_end piece) piece k 0 below) (fails_before_first is_line_end piece k 0 below))
    (λ past. absurd (omega arith))

-- a piece with no line end stands before it whole
pub before_first-whole : (piece : List ℕ) → length piece ≤ position_or_len is_line_end piece → before_first is_line_end piece ≡ piece
before_first-whole piece none = take_all (position_or_len is_line_end piece) piece none

-- a kept line with more bytes is what is kept of the longer line
pub extended-kept : (xs ys : List ℕ) → extended (kept xs) ys ≡ kept (xs ++ ys)
extended-kept xs ys =
    ⊎_elim
    (λ yes. rw yes refl)
    (λ no. let longer = length-append xs ys in grind (arith, nat_tests))
    (cases_Bool (nat_le (length xs) 257))

-- without a carriage return a line has at most one byte less
length-without_return : (line : List ℕ) → length line ≤ length (without_return line) + 1
length-without_return line =
    ⊎_elim
    (λ yes. let long = length-take-le (length line - 1) line (omega arith) in rw yes (omega arith))
    (λ no. rw no (omega arith))
    (cases_Bool (slice_index line (length line - 1) == CARRIAGE_RETURN))

-- what was kept of a line gives the line, unless it is too long
pub ended_line-kept : (line : List ℕ) → ended_line (kept line) ≡ unless_long (without_return line)
ended_line-kept line =
    ⊎_elim
    (λ yes. rw yes refl)
    (λ no. let long = length-without_return line in let past : nat_le (length (without_return line)) 256 ≡ false = grind (arith, nat_tests) in
    let none : unless_long (without_return line) ≡ None = cond-false _ (Some (without_return line)) None past in let gone : kept line ≡ None =
    cond-false _ (Some line) None no in ap ended_line gone ∙ sym none)
    (cases_Bool (nat_le (length line) 257))

-- a line of which nothing is kept yet has no bytes
pub nil-from_kept : (line : List ℕ) → kept line ≡ Some [] → line ≡ []
nil-from_kept line none =
    ⊎_elim
    (λ yes. let same : Some line ≡ Some [] = sym (cond-true _ (Some line) None yes) ∙ none in cc)
    (λ no. let gone : None ≡ Some [] = sym (cond-false _ (Some line) None no) ∙ none in cc)
    (cases_Bool (nat_le (length line) 257))

-- each ended line has its line end: a part more, or a byte more, in one byte more
cons-length : (parts : List (List ℕ)) (n : ℕ) → length (all_but_last parts) + length (last_of parts) ≤ n →
    length (all_but_last ([] ∷ parts)) + length (last_of ([] ∷ parts)) ≤ suc n
cons-length [] n short = omega arith
cons-length (part ∷ parts) n short = omega arith

onto_first-length : (x : ℕ) (parts : List (List ℕ)) (n : ℕ) → length (all_but_last parts) + length (last_of parts) ≤ n →
    length (all_but_last (onto_first x parts)) + length (last_of (onto_first x parts)) ≤ suc n
onto_first-length x [] n short = omega arith
onto_first-length x (part ∷ []) n short = omega arith
onto_first-length x (part ∷ p ∷ ps) n short = omega arith

-- the number of ended lines, and the bytes after them
pub length-ended_lines : (xs : List ℕ) → length (ended_lines xs) + length (unended xs) ≤ length xs
unfolding ended_lines unended
length-ended_lines [] = omega arith
length-ended_lines (x ∷ xs) =
    ⊎_elim
    (λ yes. rw (slice_split-cons_yes is_line_end x xs yes) (cons-length (slice_split is_line_end xs) (length xs) (length-ended_lines xs)))
    (λ no. rw (slice_split-cons_no is_line_end x xs no) (onto_first-length x (slice_split is_line_end xs) (length xs) (length-ended_lines xs)))
    (cases_Bool (is_line_end x))

-- more input ends more lines only after those that have ended
pub ended_lines-append : (xs ys : List ℕ) → (more : List (List ℕ)) × (ended_lines (xs ++ ys) ≡ ended_lines xs ++ more)
unfolding ended_lines unended
ended_lines-append xs ys =
    let some = some_parts ys in (
      all_but_last ((unended xs ++ some.0) ∷ some.1),
      ap all_but_last (slice_split-append xs ys ∙ ap (joined (slice_split is_line_end xs)) some.2) ∙
          all_but_last-append (ended_lines xs) (unended xs ++ some.0) some.1,
    )

pub lines-front : (xs ys : List ℕ) → (more : List (List ℕ)) × (lines (xs ++ ys) ≡ lines_so_far xs ++ more)
lines-front xs ys =
    let ended = ended_lines-append xs ys in
    let last = map without_return (unless_empty (unended (xs ++ ys))) in (
      map without_return ended.0 ++ last,
      ap (λ ls. map without_return ls ++ last) ended.1 ∙
          ap (λ ls. ls ++ last) (map-append without_return (ended_lines xs) ended.0) ∙ append_assoc (lines_so_far xs) (map without_return ended.0) last,
    )

-- the same of the lines without their carriage returns
pub lines_so_far-no_end : (xs ys : List ℕ) → position_or_len is_line_end ys ≡ length ys → lines_so_far (xs ++ ys) ≡ lines_so_far xs
lines_so_far-no_end xs ys none = ap (map without_return) (ended_lines-no_end xs ys none)

pub lines_so_far-line_end : (xs ys : List ℕ) → position_or_len is_line_end ys ≡ length ys →
    lines_so_far (xs ++ ys ++ LINE_END ∷ []) ≡ lines_so_far xs ++ without_return (unended xs ++ ys) ∷ []
lines_so_far-line_end xs ys none =
    ap (map without_return) (ended_lines-line_end xs ys none) ∙ map-append without_return (ended_lines xs) ((unended xs ++ ys) ∷ [])
