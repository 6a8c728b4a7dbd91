-- The answers to the rows of a series.
use Rattle.ss_model.proofs.Common.{◌≡◌, ℕ, ◌<◌, Bool, true, false, List, [], ◌∷◌, Some, None, IsSome, arith, refl, nat_lt, option_map, row_query, Unknown}
use Rattle.ss_model.proofs.Common.{Range, Series, Happened, answer_of, IsHistory, first_that_applies, stands, AnswersRow, refuses_series, Stream, state}
use Rattle.ss_model.proofs.Common.{stream_named, Outcome}
use Rattle.std.proofs.Common.{Option}
use Rattle.std.proofs.lemmas.Bool.{le-ltb}
use Rattle.std.specs.Prelude.{not}
use Rattle.ss_catalog.proofs.SeriesLemmas.{row-within}
use Rattle.ss_catalog.specs.Series.{row_count, whole_query}
use Rattle.ss_model.specs.Answers.{outcome_of, refuses_query}
use Rattle.ss_model.proofs.AnswerLemmas.{answer-exact, answer-holds, answer-known}

-- a row doesn't end before it begins
row-order : (series : Series) (row : ℕ) → 0 < series.step → row < row_count series → nat_lt (row_query series row).to (row_query series row).from ≡ false
row-order series row some inside =
    let within = row-within series.from series.to series.step row some inside in
    le-ltb (row_query series row).to (row_query series row).from (omega (arith, within))

-- where neither the name nor the range is refused, another range that doesn't end before it begins isn't either
pub same-name : (known late other : Bool) → first_that_applies ((not known, Unknown) ∷ (late, Range) ∷ []) ≡ None → other ≡ false →
    first_that_applies ((not known, Unknown) ∷ (other, Range) ∷ []) ≡ None
same-name true late other none fine = rw fine refl
same-name false late other none fine = cc

-- so no row of a series that isn't refused is
pub row-taken : (known late : Bool) (series : Series) (row : ℕ) → 0 < series.step → row < row_count series →
    first_that_applies ((not known, Unknown) ∷ (late, Range) ∷ []) ≡ None →
    first_that_applies ((not known, Unknown) ∷ (nat_lt (row_query series row).to (row_query series row).from, Range) ∷ []) ≡ None
row-taken known late series row some inside none = same-name known late _ none (row-order series row some inside)

pub row-unrefused : (streams : List Stream) (series : Series) (row : ℕ) → 0 < series.step → row < row_count series → refuses_series streams series ≡ None →
    refuses_query streams (row_query series row) ≡ None
unfolding refuses_query
row-unrefused streams series row some inside none = row-taken (stands series.name streams) (nat_lt series.to series.from) series row some inside none

-- whether there is an answer goes by the name alone
either-answer : {A B : Type 0} (f g : A → B) (o : Option A) → IsSome (option_map f o) → IsSome (option_map g o)
either-answer f g None some = cc
either-answer f g (Some a) some = refl

outcome-known : (streams : List Stream) (series : Series) (row : ℕ) → refuses_series streams series ≡ None → IsSome (outcome_of streams (row_query series row))
unfolding outcome_of
outcome-known streams series row none =
    either-answer (answer_of (whole_query series)) (answer_of (row_query series row)) (stream_named series.name streams)
    (answer-known streams (whole_query series) none)

pub some-outcome : (o : Option Outcome) → IsSome o → (outcome : Outcome) × (o ≡ Some outcome)
some-outcome None some = cc
some-outcome (Some outcome) some = (outcome, refl)

-- so each row of a series that isn't refused has one
pub row-known : (streams : List Stream) (series : Series) → refuses_series streams series ≡ None → (row : ℕ) →
    (outcome : Outcome) × (outcome_of streams (row_query series row) ≡ Some outcome)
row-known streams series none row = some-outcome (outcome_of streams (row_query series row)) (outcome-known streams series row none)

-- and it holds the truth
pub row-answered : (history : List Happened) (series : Series) (row : ℕ) → IsHistory history → refuses_series (state history) series ≡ None →
    (outcome : Outcome) × AnswersRow history series row outcome
row-answered history series row whole none =
    let it = row-known (state history) series none row in (
      it.0,
      record {
        is = it.1;
        truth = answer-holds history (row_query series row) it.0 whole it.1;
        exact = answer-exact (state history) (row_query series row) it.0 it.1;
      },
    )
