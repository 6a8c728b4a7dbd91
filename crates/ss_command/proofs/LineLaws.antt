-- What the cut into lines keeps.
use Rattle.std.proofs.Common.{◌≡◌, ℕ, ◌-◌, ◌<◌, ◌≤◌, ◌==◌, false, List, [], ◌∷◌, ◌++◌, length, map, take, slice_index, arith, refl, ⊎_elim}
use Rattle.std.proofs.lemmas.Bool.{cases_Bool, eqb-true}
use Rattle.std.proofs.lemmas.List.{get_or-take, length-take-le}
use Rattle.std.proofs.lemmas.List.Elements.{All-append, All-cons, All-head, All-nil, All-tail}
use Rattle.std.proofs.lemmas.List.Splits.{slice_split-cons_no, slice_split-cons_yes}
use Rattle.std.proofs.lemmas.List.Sums.{fails_before_first, position_or_len_is}
use Rattle.std.specs.List.{All, flat_map, onto_first, position_or_len, slice_split}
use Rattle.ss_command.specs.declared.TheConstants.{LINE_END, CARRIAGE_RETURN}
use Rattle.ss_command.specs.Lines.{all_but_last, ended_lines, is_line_end, last_of, lines, unended, unless_empty, without_return}
use Rattle.ss_command.proofs.LineLemmas.{SomeParts, some_parts}

-- lists, all but the last with a line end after them
abbrev written : List (List ℕ) → List ℕ
written parts = flat_map (λ line. line ++ LINE_END ∷ []) (all_but_last parts) ++ last_of parts

cons-written : (parts : List (List ℕ)) → SomeParts parts → written ([] ∷ parts) ≡ LINE_END ∷ written parts
cons-written [] some = cc (some.2)
cons-written (part ∷ parts) some = refl

onto_first-written : (x : ℕ) (parts : List (List ℕ)) → written (onto_first x parts) ≡ x ∷ written parts
onto_first-written x [] = refl
onto_first-written x (part ∷ []) = refl
onto_first-written x (part ∷ p ∷ ps) = refl

-- the lines with their line ends, and what stands after, are the input
pub ended_lines-written : (xs : List ℕ) → flat_map (λ line. line ++ LINE_END ∷ []) (ended_lines xs) ++ unended xs ≡ xs
unfolding ended_lines unended
ended_lines-written [] = refl
ended_lines-written (x ∷ xs) =
    let rest = ended_lines-written xs in
    let some = some_parts xs in
    ⊎_elim
    (λ yes. rw (slice_split-cons_yes is_line_end x xs yes, cons-written (slice_split is_line_end xs) some, rest, eqb-true x LINE_END yes) refl)
    (λ no. rw (slice_split-cons_no is_line_end x xs no, onto_first-written x (slice_split is_line_end xs), rest) refl)
    (cases_Bool (is_line_end x))

-- a list with no line end
abbrev NoEnd : List ℕ → Type 0
NoEnd line = position_or_len is_line_end line ≡ length line

NoEnd-cons : (x : ℕ) (line : List ℕ) → is_line_end x ≡ false → NoEnd line → NoEnd (x ∷ line)
NoEnd-cons x line other none = rw other (omega arith)

NoEnd-onto_first : (x : ℕ) (parts : List (List ℕ)) → is_line_end x ≡ false → All NoEnd parts → All NoEnd (onto_first x parts)
NoEnd-onto_first x [] other none = All-cons NoEnd (x ∷ []) [] (NoEnd-cons x [] other refl) none
NoEnd-onto_first x (part ∷ parts) other none =
    All-cons NoEnd (x ∷ part) parts (NoEnd-cons x part other (All-head NoEnd part parts none)) (All-tail NoEnd part parts none)

NoEnd-slice_split : (xs : List ℕ) → All NoEnd (slice_split is_line_end xs)
NoEnd-slice_split [] = All-cons NoEnd [] [] refl (All-nil NoEnd)
NoEnd-slice_split (x ∷ xs) =
    let rest = NoEnd-slice_split xs in
    ⊎_elim
    (λ yes. rw (slice_split-cons_yes is_line_end x xs yes) (All-cons NoEnd [] (slice_split is_line_end xs) refl rest))
    (λ no. rw (slice_split-cons_no is_line_end x xs no) (NoEnd-onto_first x (slice_split is_line_end xs) no rest))
    (cases_Bool (is_line_end x))

NoEnd-all_but_last : (parts : List (List ℕ)) → All NoEnd parts → All NoEnd (all_but_last parts)
NoEnd-all_but_last [] none = none
NoEnd-all_but_last (l ∷ []) none = All-nil NoEnd
NoEnd-all_but_last (l ∷ m ∷ ls) none =
    All-cons NoEnd l (all_but_last (m ∷ ls)) (All-head NoEnd l (m ∷ ls) none) (NoEnd-all_but_last (m ∷ ls) (All-tail NoEnd l (m ∷ ls) none))

NoEnd-last_of : (parts : List (List ℕ)) → All NoEnd parts → NoEnd (last_of parts)
NoEnd-last_of [] none = refl
NoEnd-last_of (l ∷ []) none = All-head NoEnd l [] none
NoEnd-last_of (l ∷ m ∷ ls) none = NoEnd-last_of (m ∷ ls) (All-tail NoEnd l (m ∷ ls) none)

NoEnd-unless_empty : (line : List ℕ) → NoEnd line → All NoEnd (unless_empty line)
NoEnd-unless_empty [] none = All-nil NoEnd
NoEnd-unless_empty (b ∷ bs) none = All-cons NoEnd (b ∷ bs) [] none (All-nil NoEnd)

-- nor has it without its carriage return
NoEnd-take : (n : ℕ) (line : List ℕ) → n ≤ length line → NoEnd line → NoEnd (take n line)
NoEnd-take n line inside none =
    let long = length-take-le n line inside in
    position_or_len_is is_line_end (take n line) (length (take n line)) 0 (omega arith)
    (λ k below. let below_n : k < n = omega arith in rw (get_or-take n line k 0 below_n) (fails_before_first is_line_end line k 0 (omega arith)))
    (λ past. absurd (omega arith))

NoEnd-without_return : (line : List ℕ) → NoEnd line → NoEnd (without_return line)
NoEnd-without_return line none =
    ⊎_elim
    (λ yes. rw yes (NoEnd-take (length line - 1) line (omega arith) none))
    (λ no. rw no none)
    (cases_Bool (slice_index line (length line - 1) == CARRIAGE_RETURN))

NoEnd-lines : (parts : List (List ℕ)) → All NoEnd parts → All NoEnd (map without_return parts)
NoEnd-lines [] none = All-nil NoEnd
NoEnd-lines (part ∷ parts) none =
    All-cons NoEnd (without_return part) (map without_return parts) (NoEnd-without_return part (All-head NoEnd part parts none))
    (NoEnd-lines parts (All-tail NoEnd part parts none))

-- no line has a line end
pub lines-no_end : (xs : List ℕ) → All (λ line. position_or_len is_line_end line ≡ length line) (lines xs)
unfolding ended_lines unended
lines-no_end xs =
    let parts = NoEnd-slice_split xs in
    All-append NoEnd (map without_return (ended_lines xs)) (map without_return (unless_empty (unended xs)))
    (NoEnd-lines (ended_lines xs) (NoEnd-all_but_last _ parts))
    (NoEnd-lines (unless_empty (unended xs)) (NoEnd-unless_empty (unended xs) (NoEnd-last_of _ parts)))
