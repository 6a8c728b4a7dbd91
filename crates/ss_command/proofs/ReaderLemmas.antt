-- A reader that takes an input piece by piece gives its lines.
use Rattle.std.proofs.Common.{◌≡◌, ℕ, ◌+◌, ◌<◌, false, true, List, [], ◌∷◌, ◌++◌, length, map, take, get_or, position, not, Some, None, refl, arith}
use Rattle.std.proofs.Common.{ap, sym, ◌∙◌, append_assoc}
use Rattle.std.proofs.lemmas.Bool.{cond-false, cond-true, eqb-true}
use Rattle.std.proofs.lemmas.Bool.Decides.{nat_tests}
use Rattle.std.proofs.lemmas.List.{append-nil, get_or-take, length-take-le, take_all, take_more}
use Rattle.std.proofs.lemmas.List.Quantifiers.{position-Some}
use Rattle.std.proofs.lemmas.List.Sums.{position_or_len_is, prefix_len-le-length}
use Rattle.std.specs.List.{position_or_len}
use Rattle.ss_command.proofs.LineLemmas.{ended_line-kept, extended-kept, lines_so_far-line_end, lines_so_far-no_end, nil-from_kept, unended-line_end}
use Rattle.ss_command.proofs.LineLemmas.{unended-no_end}
use Rattle.ss_command.specs.Lines.{is_line_end, lines, lines_so_far, unended, unless_empty, without_return}
use Rattle.ss_command.specs.LineState.{ReaderState, ended_line, extended, HasRead, kept, TellsLine, under_way}
use Rattle.ss_command.specs.declared.TheConstants.{LINE_END}
use Rattle.ss_command.specs.declared.line_reader.Ended.{Ended}

-- bytes with no line end, in two words
no_end : (piece : List ℕ) → position is_line_end piece ≡ None → position_or_len is_line_end piece ≡ length piece
no_end piece none =
    let small = prefix_len-le-length (λ b. not (is_line_end b)) piece in
    grind (arith, nat_tests)

-- what stands before the first line end has none
before-no_end : (piece : List ℕ) (n : ℕ) → position is_line_end piece ≡ Some n → position_or_len is_line_end (take n piece) ≡ length (take n piece)
before-no_end piece n first =
    let at = position-Some is_line_end piece n 0 first in
    let long = length-take-le n piece (omega arith) in
    position_or_len_is is_line_end (take n piece) (length (take n piece)) 0 (omega arith)
    (λ k below. let below_n : k < n = omega arith in rw (get_or-take n piece k 0 below_n) (at.2 k below_n))
    (λ past. absurd (omega arith))

module _ (input piece : List ℕ) (s next : ReaderState) (at : HasRead input s) where
  -- a piece without a line end
  pub HasRead-no_end : position is_line_end piece ≡ None → next.line ≡ extended (under_way s) piece → next.ended ≡ false →
      HasRead (input ++ take (length piece) piece) next
  HasRead-no_end none fed going =
      cond-false next.ended (Some []) next.line going ∙ fed ∙ ap (λ line. extended line piece) at ∙ extended-kept (unended input) piece
      ∙ ap kept (sym (ap (λ bs. unended (input ++ bs)) (take_all (length piece) piece (omega arith)) ∙ unended-no_end input piece (no_end piece none)))

  pub TellsLine-no_end : position is_line_end piece ≡ None → TellsLine (lines_so_far input) (lines_so_far (input ++ take (length piece) piece)) None next
  TellsLine-no_end none =
      ap (λ bs. lines_so_far (input ++ bs)) (take_all (length piece) piece (omega arith)) ∙ lines_so_far-no_end input piece (no_end piece none)

  -- a piece with one
  module _ (n : ℕ) (first : position is_line_end piece ≡ Some n) where
    cut : input ++ take (n + 1) piece ≡ input ++ take n piece ++ LINE_END ∷ []
    cut =
        let place = position-Some is_line_end piece n 0 first in
        ap (λ bs. input ++ bs) (take_more piece n 0 place.0 ∙ ap (λ b. take n piece ++ b ∷ []) (eqb-true (get_or piece n 0) LINE_END place.1)) ∙
        sym (append_assoc input (take n piece) (LINE_END ∷ []))

    pub HasRead-line_end : next.ended ≡ true → HasRead (input ++ take (n + 1) piece) next
    HasRead-line_end over =
        cond-true next.ended (Some []) next.line over ∙ ap kept (sym (ap unended cut ∙ unended-line_end input (take n piece) (before-no_end piece n first)))

    pub TellsLine-line_end : (ended : Ended) → next.line ≡ ended_line (extended (under_way s) (take n piece)) →
        TellsLine (lines_so_far input) (lines_so_far (input ++ take (n + 1) piece)) (Some ended) next
    TellsLine-line_end ended fed =
        let line = unended input ++ take n piece in (
          without_return line,
          ap lines_so_far cut ∙ lines_so_far-line_end input (take n piece) (before-no_end piece n first),
          fed ∙ ap (λ under. ended_line (extended under (take n piece))) at ∙ ap ended_line (extended-kept (unended input) (take n piece)) ∙
              ended_line-kept line,
        )

unless_empty-some : (line : List ℕ) → (line ≡ [] → ⊥) → unless_empty line ≡ line ∷ []
unless_empty-some [] some = absurd (some refl)
unless_empty-some (b ∷ bs) some = refl

-- an input that ends where a line does
pub TellsLine-end : (input : List ℕ) (s next : ReaderState) → HasRead input s → under_way s ≡ Some [] → TellsLine (lines_so_far input) (lines input) None next
TellsLine-end input s next at none =
    ap (λ line. lines_so_far input ++ map without_return (unless_empty line)) (nil-from_kept (unended input) (sym at ∙ none)) ∙ append-nil (lines_so_far input)

-- an input that ends within a line
pub TellsLine-last : (input : List ℕ) (s next : ReaderState) (ended : Ended) → HasRead input s → (under_way s ≡ Some [] → ⊥) →
    next.line ≡ ended_line (under_way s) → TellsLine (lines_so_far input) (lines input) (Some ended) next
TellsLine-last input s next ended at some fed =
    let line = unended input in (
      without_return line,
      ap (λ last. lines_so_far input ++ map without_return last) (unless_empty-some line (λ none. some (at ∙ ap kept none))),
      fed ∙ ap ended_line at ∙ ended_line-kept line,
    )
