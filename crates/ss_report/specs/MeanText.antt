-- The text of a mean.
use Rattle.std.specs.Prelude.{ℕ, ◌==◌, List, [], ◌∷◌, ◌++◌, codes, if◌then◌else◌, Option, Some, None}
use Rattle.std.specs.Fmt.{decimal, signed_decimal}
use Rattle.ss_bounds.specs.declared.fraction.Fraction.{Fraction}
use Rattle.ss_bounds.specs.declared.mean.Mean.{Mean}
use Rattle.ss_bounds.specs.declared.mean.Mean.TheVariants as means
use Rattle.ss_bounds.specs.declared.mean.MeanGuess.{MeanGuess}
use Rattle.ss_bounds.specs.declared.mean.MeanGuess.TheVariants as guesses

-- a fraction as a word: its two numbers with a slash between them, or the first alone where it is over 1
abbrev pub fraction_word : Fraction → List ℕ
fraction_word f = if f.under == 1 then signed_decimal f.over else signed_decimal f.over ++ codes "/" ++ decimal f.under

-- what is known of a mean: that there is none, or from which to which it lies
abbrev pub mean_words : Mean → List (List ℕ)
mean_words means.Nothing = codes "none" ∷ []
mean_words (means.Sure lo hi) = fraction_word lo ∷ fraction_word hi ∷ []
mean_words (means.Maybe lo hi) = fraction_word lo ∷ fraction_word hi ∷ codes "maybe-none" ∷ []

-- the same with the likeliest mean between the ends
abbrev pub mean_guess_words : MeanGuess → List (List ℕ)
mean_guess_words guesses.Nothing = codes "none" ∷ []
mean_guess_words (guesses.Sure lo guess hi) = fraction_word lo ∷ fraction_word guess ∷ fraction_word hi ∷ []
mean_guess_words (guesses.Maybe lo guess hi) = fraction_word lo ∷ fraction_word guess ∷ fraction_word hi ∷ codes "maybe-none" ∷ []

-- an end of a mean as a word, where there is one
abbrev pub mean_end_word : Option Fraction → List ℕ
mean_end_word None = codes "none"
mean_end_word (Some end) = fraction_word end
