-- Worked rows of the text of means, each computed.
use Rattle.std.proofs.Common.{◌≡◌, ℕ, List, [], ◌∷◌, ◌++◌, map, Some, None, refl}
use Rattle.std.specs.Prelude.{ℤ, codes, pos, negsuc}
use Rattle.std.specs.Fmt.{digits}
use Rattle.ss_bounds.specs.declared.fraction.Fraction.{Fraction}
use Rattle.ss_bounds.specs.declared.mean.Mean.TheVariants.{Nothing, Sure, Maybe}
use Rattle.ss_bounds.specs.declared.mean.MeanGuess.TheVariants as guesses
use Rattle.ss_catalog.specs.declared.query.Kind.TheVariants as kinds
use Rattle.ss_model.specs.declared.outcome.Outcome.TheVariants.{Mean, MeanEstimate}
use Rattle.ss_report.specs.MeanText.{fraction_word}
use Rattle.ss_report.specs.Text.{reply_line}
use Rattle.ss_report.specs.declared.reply.Reply.TheVariants.{Answered, SeriesHead, Row, CertifyMeanHead}

-- a text as a line
abbrev ended : List ℕ → List ℕ
ended text = text ++ 10 ∷ []

-- so much over so much
abbrev over : ℤ → ℕ → Fraction
over z n = record { over = z; under = n }

-- a fraction over 1 is a whole number, and one over 2 isn't
words-fraction :
    map fraction_word
    (over (pos 17) 2 ∷ over (negsuc 4) 2 ∷ over (pos 17) 1 ∷ over (negsuc 2) 1 ∷ over (pos 0) 1 ∷ over (negsuc 0) 3
    ∷ over (pos 4611686018427387901) 3 ∷ over (negsuc 9223372036854775807) 1 ∷ over (pos 7) 1099511627776 ∷ [])
    ≡ map codes ("17/2" ∷ "-5/2" ∷ "17" ∷ "-3" ∷ "0" ∷ "-1/3" ∷ "4611686018427387901/3" ∷ "-9223372036854775808" ∷ "7/1099511627776" ∷ [])
unfolding digits
words-fraction = refl

replies-mean :
    map reply_line
    (Answered (Mean (Sure (over (negsuc 2) 1) (over (pos 8) 1))) ∷ Answered (Mean (Sure (over (negsuc 0) 1) (over (pos 17) 2)))
    ∷ Answered (Mean (Sure (over (pos 29) 7) (over (pos 29) 7))) ∷ Answered (Mean (Maybe (over (negsuc 2) 1) (over (pos 8) 1))) ∷ Answered (Mean Nothing)
    ∷ [])
    ≡ map ended
    (codes "mean -3 8" ∷ codes "mean -1 17/2" ∷ codes "mean 29/7 29/7" ∷ codes "mean -3 8 maybe-none" ∷ codes "mean none" ∷ [])
unfolding digits
replies-mean = refl

-- the guess stands between the ends
replies-mean_estimate :
    map reply_line
    (Answered (MeanEstimate (guesses.Sure (over (negsuc 0) 1) (over (pos 11) 3) (over (pos 17) 2)))
    ∷ Answered (MeanEstimate (guesses.Maybe (over (negsuc 2) 1) (over (pos 3) 1) (over (pos 8) 1))) ∷ Answered (MeanEstimate guesses.Nothing) ∷ [])
    ≡ map ended (codes "estimate -1 11/3 17/2" ∷ codes "estimate -3 3 8 maybe-none" ∷ codes "estimate none" ∷ [])
unfolding digits
replies-mean_estimate = refl

replies-means_in_rows :
    map reply_line
    (SeriesHead kinds.Mean 5 ∷ Row 0 (Mean (Sure (over (negsuc 2) 1) (over (pos 8) 1))) ∷ Row 25 (Mean (Sure (over (negsuc 0) 1) (over (pos 17) 2)))
    ∷ Row 75 (Mean Nothing) ∷ Row 4611686018427387904 (Mean (Maybe (over (negsuc 2) 1) (over (pos 8) 1))) ∷ SeriesHead kinds.MeanGuess 3
    ∷ Row 10 (MeanEstimate (guesses.Sure (over (negsuc 0) 1) (over (pos 11) 3) (over (pos 17) 2))) ∷ Row 75 (MeanEstimate guesses.Nothing)
    ∷ Row 20 (MeanEstimate (guesses.Maybe (over (negsuc 2) 1) (over (pos 3) 1) (over (pos 8) 1))) ∷ [])
    ≡ map ended
    (codes "series 5" ∷ codes "0 -3 8" ∷ codes "25 -1 17/2" ∷ codes "75 none" ∷ codes "4611686018427387904 -3 8 maybe-none" ∷ codes "estimates 3"
    ∷ codes "10 -1 11/3 17/2" ∷ codes "75 none" ∷ codes "20 -3 3 8 maybe-none" ∷ [])
unfolding digits
replies-means_in_rows = refl

-- in place of the base there stand the sum and the count of what is known
replies-mean_certified :
    map reply_line
    (CertifyMeanHead (Some (over (pos 17) 2)) (over (pos 0) 0) 2 ∷ CertifyMeanHead (Some (over (negsuc 0) 1)) (over (pos 0) 0) 2
    ∷ CertifyMeanHead (Some (over (pos 29) 7)) (over (pos 29) 7) 0 ∷ CertifyMeanHead (Some (over (pos 5) 3)) (over (negsuc 1) 1) 1
    ∷ CertifyMeanHead None (over (pos 0) 0) 1 ∷ [])
    ≡ map ended
    (codes "certify 17/2 0 0 2" ∷ codes "certify -1 0 0 2" ∷ codes "certify 29/7 29 7 0" ∷ codes "certify 5/3 -2 1 1" ∷ codes "certify none 0 0 1" ∷ [])
unfolding digits
replies-mean_certified = refl
