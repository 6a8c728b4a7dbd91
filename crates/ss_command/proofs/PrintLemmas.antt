-- A printed command means that command.
use Rattle.std.proofs.Common.{◌≡◌, ℕ, ◌^◌, ◌<◌, ◌≤◌, true, false, List, [], ◌∷◌, length, Ok, None, Option, Some, arith, refl, ap, inl, inr}
use Rattle.std.proofs.Common.{◌∙◌, codes, nat_lt, nat_le, ◌&&◌}
use Rattle.std.proofs.lemmas.Bool.{cases_Bool}
use Rattle.std.proofs.lemmas.Bool.Decides.{nat_tests}
use Rattle.std.specs.Prelude.{ℤ, FitsSigned}
use Rattle.std.specs.Fmt.{decimal, signed_decimal}
use Rattle.std.specs.Int.{w64}
use Rattle.ss_catalog.proofs.NameLemmas.{length-is_name}
use Rattle.ss_catalog.specs.Names.{is_name}
use Rattle.ss_catalog.specs.Queries.{IsKindOfValues, end_name, is_certified, is_guess, kind_name, query_verb, series_verb}
use Rattle.ss_catalog.specs.Series.{IsSeriesInRange, rows_in}
use Rattle.ss_catalog.specs.declared.TheConstants.{MOST_ROWS}
use Rattle.ss_base.specs.declared.limits.TheConstants.{LAST_TIME}
use Rattle.ss_catalog.specs.declared.series.Series.{Series}
use Rattle.ss_catalog.specs.declared.event.Event.TheVariants.{Create, Value, Open, Close, Drop}
use Rattle.ss_catalog.specs.declared.params.Family.{Family}
use Rattle.ss_catalog.specs.declared.params.Family.TheVariants.{Exp, Power}
use Rattle.ss_catalog.specs.declared.params.Params.{Params}
use Rattle.ss_catalog.specs.declared.query.End.{End}
use Rattle.ss_catalog.specs.declared.query.End.TheVariants as ends
use Rattle.ss_catalog.specs.declared.query.Kind.{Kind}
use Rattle.ss_catalog.specs.declared.query.Query.{Query}
use Rattle.ss_catalog.specs.declared.query.Kind.TheVariants as kinds
use Rattle.ss_command.proofs.PutLemmas.{length-decimal_32, length-decimal_64, length-end, length-kind, length-signed_64}
use Rattle.ss_command.specs.Grammar.{command_of, is_comment, meaning, meaning_of_words}
use Rattle.ss_command.specs.Printed.{IsFamilyOfNumbers, IsSayable, IsStepOfNumber, printed, printed_query, said_parameters, spaced, form_line, takes_value}
use Rattle.ss_command.specs.Printed.{target_row, target_said, target_words, within_words}
use Rattle.ss_command.specs.declared.command.Command.{Command}
use Rattle.ss_command.specs.declared.command.Command.TheVariants as commands
use Rattle.ss_command.proofs.SpacedLemmas.{AreWords, IsWord, IsWord-decimal, IsWord-name, IsWord-signed, length-spaced, literal, meaning-spaced}
use Rattle.ss_command.proofs.SpacedLemmas.{name_of-name, parameter_of-decimal, time_of-decimal, value_of-signed, width}

-- the words of a step read back as it
IsWords-within : (within : Option ℕ) → IsStepOfNumber within → AreWords (within_words within)
IsWords-within None fits = tt
IsWords-within (Some step) fits = (literal (codes "within") refl, (IsWord-decimal step (omega arith), tt))

width-within : (within : Option ℕ) → IsStepOfNumber within → width (within_words within) ≤ 18
width-within None fits = omega arith
width-within (Some step) fits = omega (arith, length-decimal_32 step fits)

-- a printed `create` means what its words do
create-words : (name : List ℕ) (words : List (List ℕ)) → is_name name ≡ true → AreWords words → width words ≤ 90 →
    meaning (spaced (codes "create") (name ∷ words)) ≡ meaning_of_words (codes "create" ∷ name ∷ words)
create-words name words is all small =
    let short : length (spaced (codes "create") (name ∷ words)) ≤ 256 =
    omega (arith, length-spaced (name ∷ words) (codes "create"), length-is_name name is, small) in
    meaning-spaced (codes "create") (name ∷ words) (literal (codes "create") refl) (IsWord-name name is, all) short refl

exp-means : (name : List ℕ) (b r s : ℕ) (within : Option ℕ) → is_name name ≡ true → b < 2 ^ 32 → r < 2 ^ 32 → s < 2 ^ 32 → IsStepOfNumber within →
    let params : Params = record { family = Exp b r s; within = within } in
    meaning_of_words (codes "create" ∷ name ∷ target_words params) ≡ Ok (Some (commands.Do (Create name params)))
exp-means name b r s None is fits_b fits_r fits_s fits =
    rw (parameter_of-decimal b fits_b, parameter_of-decimal r fits_r, parameter_of-decimal s fits_s, name_of-name name is) refl
exp-means name b r s (Some e) is fits_b fits_r fits_s fits =
    rw (parameter_of-decimal b fits_b, parameter_of-decimal r fits_r, parameter_of-decimal s fits_s, parameter_of-decimal e fits, name_of-name name is) refl

meaning-exp : (name : List ℕ) (b r s : ℕ) (within : Option ℕ) → is_name name ≡ true → b < 2 ^ 32 → r < 2 ^ 32 → s < 2 ^ 32 → IsStepOfNumber within →
    let params : Params = record { family = Exp b r s; within = within } in
    meaning (spaced (codes "create") (name ∷ target_words params)) ≡ Ok (Some (commands.Do (Create name params)))
meaning-exp name b r s within is fits_b fits_r fits_s fits =
    let all : AreWords (target_words (record { family = Exp b r s; within = within })) = (
      literal (codes "exp") refl,
      (IsWord-decimal b (omega arith), (IsWord-decimal r (omega arith), (IsWord-decimal s (omega arith), IsWords-within within fits))),
    ) in
    create-words name (target_words (record { family = Exp b r s; within = within })) is all
    (omega (arith, length-decimal_32 b fits_b, length-decimal_32 r fits_r, length-decimal_32 s fits_s, width-within within fits))
    ∙ exp-means name b r s within is fits_b fits_r fits_s fits

power-means : (name : List ℕ) (p q r s : ℕ) (within : Option ℕ) → is_name name ≡ true → p < 2 ^ 32 → q < 2 ^ 32 → r < 2 ^ 32 → s < 2 ^ 32 →
    IsStepOfNumber within →
    let params : Params = record { family = Power p q r s; within = within } in
    meaning_of_words (codes "create" ∷ name ∷ target_words params) ≡ Ok (Some (commands.Do (Create name params)))
power-means name p q r s None is fits_p fits_q fits_r fits_s fits = rw (
  parameter_of-decimal p fits_p,
  parameter_of-decimal q fits_q,
  parameter_of-decimal r fits_r,
  parameter_of-decimal s fits_s,
  name_of-name name is,
) refl
power-means name p q r s (Some e) is fits_p fits_q fits_r fits_s fits = rw (
  parameter_of-decimal p fits_p,
  parameter_of-decimal q fits_q,
  parameter_of-decimal r fits_r,
  parameter_of-decimal s fits_s,
  parameter_of-decimal e fits,
  name_of-name name is,
) refl

meaning-power : (name : List ℕ) (p q r s : ℕ) (within : Option ℕ) → is_name name ≡ true → p < 2 ^ 32 → q < 2 ^ 32 → r < 2 ^ 32 → s < 2 ^ 32 →
    IsStepOfNumber within →
    let params : Params = record { family = Power p q r s; within = within } in
    meaning (spaced (codes "create") (name ∷ target_words params)) ≡ Ok (Some (commands.Do (Create name params)))
meaning-power name p q r s within is fits_p fits_q fits_r fits_s fits =
    let numbers : AreWords (decimal p ∷ decimal q ∷ decimal r ∷ decimal s ∷ within_words within) = (
      IsWord-decimal p (omega arith),
      (IsWord-decimal q (omega arith), (IsWord-decimal r (omega arith), (IsWord-decimal s (omega arith), IsWords-within within fits))),
    ) in
    create-words name (target_words (record { family = Power p q r s; within = within })) is (literal (codes "power") refl, numbers)
    (omega (
      arith,
      length-decimal_32 p fits_p,
      length-decimal_32 q fits_q,
      length-decimal_32 r fits_r,
      length-decimal_32 s fits_s,
      width-within within fits,
    ))
    ∙ power-means name p q r s within is fits_p fits_q fits_r fits_s fits

-- a printed `create` means its target
meaning-create : (name : List ℕ) (family : Family) (within : Option ℕ) → is_name name ≡ true → IsFamilyOfNumbers family → IsStepOfNumber within →
    let params : Params = record { family = family; within = within } in
    meaning (spaced (codes "create") (name ∷ target_words params)) ≡ Ok (Some (commands.Do (Create name params)))
meaning-create name (Exp b r s) within is fits step = meaning-exp name b r s within is fits.0 fits.1 fits.2 step
meaning-create name (Power p q r s) within is fits step = meaning-power name p q r s within is fits.0 fits.1 fits.2 fits.3 step

meaning-value : (name : List ℕ) (t : ℕ) (v : ℤ) → is_name name ≡ true → t ≤ LAST_TIME → FitsSigned w64 v →
    meaning (spaced (codes "append") (name ∷ decimal t ∷ signed_decimal v ∷ [])) ≡ Ok (Some (commands.Do (Value name t v)))
meaning-value name t v is early fits =
    let rest = name ∷ decimal t ∷ signed_decimal v ∷ [] in
    let all : AreWords rest = (IsWord-name name is, (IsWord-decimal t (omega arith), (IsWord-signed v fits, tt))) in
    let short : length (spaced (codes "append") rest) ≤ 256 =
    omega (arith, length-spaced rest (codes "append"), length-is_name name is, length-decimal_64 t (omega arith), length-signed_64 v fits) in
    meaning-spaced (codes "append") rest (literal (codes "append") refl) all short refl
    ∙ rw (time_of-decimal t early, value_of-signed v fits, name_of-name name is) refl

-- a printed `landmark` means what its words do
landmark-words : (name change : List ℕ) (t : ℕ) → is_name name ≡ true → IsWord change → length change ≤ 5 → t ≤ LAST_TIME →
    meaning (spaced (codes "landmark") (name ∷ change ∷ decimal t ∷ [])) ≡ meaning_of_words (codes "landmark" ∷ name ∷ change ∷ decimal t ∷ [])
landmark-words name change t is word small early =
    let rest = name ∷ change ∷ decimal t ∷ [] in
    let all : AreWords rest = (IsWord-name name is, (word, (IsWord-decimal t (omega arith), tt))) in
    let short : length (spaced (codes "landmark") rest) ≤ 256 =
    omega (arith, length-spaced rest (codes "landmark"), length-is_name name is, small, length-decimal_64 t (omega arith)) in
    meaning-spaced (codes "landmark") rest (literal (codes "landmark") refl) all short refl

meaning-open : (name : List ℕ) (t : ℕ) → is_name name ≡ true → t ≤ LAST_TIME →
    meaning (spaced (codes "landmark") (name ∷ codes "open" ∷ decimal t ∷ [])) ≡ Ok (Some (commands.Do (Open name t)))
meaning-open name t is early =
    landmark-words name (codes "open") t is (literal (codes "open") refl) (omega arith) early ∙ rw (time_of-decimal t early, name_of-name name is) refl

meaning-close : (name : List ℕ) (t : ℕ) → is_name name ≡ true → t ≤ LAST_TIME →
    meaning (spaced (codes "landmark") (name ∷ codes "close" ∷ decimal t ∷ [])) ≡ Ok (Some (commands.Do (Close name t)))
meaning-close name t is early =
    landmark-words name (codes "close") t is (literal (codes "close") refl) (omega arith) early ∙ rw (time_of-decimal t early, name_of-name name is) refl

meaning-drop : (name : List ℕ) → is_name name ≡ true → meaning (spaced (codes "drop") (name ∷ [])) ≡ Ok (Some (commands.Do (Drop name)))
meaning-drop name is =
    let rest = name ∷ [] in
    let short : length (spaced (codes "drop") rest) ≤ 256 = omega (arith, length-spaced rest (codes "drop"), length-is_name name is) in
    meaning-spaced (codes "drop") rest (literal (codes "drop") refl) (IsWord-name name is, tt) short refl
    ∙ rw (name_of-name name is) refl

-- the name of what is asked for
IsWord-kind : (kind : Kind) → IsWord (kind_name kind)
IsWord-kind kinds.Count = literal (codes "count") refl
IsWord-kind kinds.Sum = literal (codes "sum") refl
IsWord-kind kinds.Min = literal (codes "min") refl
IsWord-kind kinds.Max = literal (codes "max") refl
IsWord-kind kinds.Mean = literal (codes "mean") refl
IsWord-kind (kinds.Has value) = literal (codes "has") refl
IsWord-kind kinds.CountGuess = literal (codes "count") refl
IsWord-kind kinds.SumGuess = literal (codes "sum") refl
IsWord-kind kinds.MeanGuess = literal (codes "mean") refl

-- the first words
IsWord-query_verb : (kind : Kind) → IsWord (query_verb kind)
IsWord-query_verb kind = elim (cases_Bool (is_guess kind)) [
  | inl is ↦ rw is (literal (codes "estimate") refl)
  | inr not_is ↦ rw not_is (literal (codes "query") refl)
]

IsWord-series_verb : (kind : Kind) → IsWord (series_verb kind)
IsWord-series_verb kind = elim (cases_Bool (is_guess kind)) [
  | inl is ↦ rw is (literal (codes "estimates") refl)
  | inr not_is ↦ rw not_is (literal (codes "series") refl)
]

length-verbs : (kind : Kind) → (length (query_verb kind) ≤ 8) × (length (series_verb kind) ≤ 9)
length-verbs kind = elim (cases_Bool (is_guess kind)) [
  | inl is ↦ rw is (omega arith, omega arith)
  | inr not_is ↦ rw not_is (omega arith, omega arith)
]

-- what the words of a command mean that asks for all values, and those of one that does so in rows
figure-means : (name : List ℕ) (kind : Kind) (from to : ℕ) → is_name name ≡ true → from ≤ LAST_TIME → to ≤ LAST_TIME → takes_value kind ≡ false →
    command_of (query_verb kind) (name ∷ kind_name kind ∷ decimal from ∷ decimal to ∷ []) ≡ Ok
    (commands.Ask (record { name = name; kind = kind; from = from; to = to }))
figure-means name (kinds.Has value) from to is early late alone = cc
figure-means name _ from to is early late alone = rw (time_of-decimal from early, time_of-decimal to late, name_of-name name is) refl

-- a step cuts its range into rows
step_of-rows : (from to step : ℕ) → 0 < step → rows_in from to step ≤ MOST_ROWS → (nat_lt 0 step && nat_le (rows_in from to step) MOST_ROWS) ≡ true
step_of-rows from to step some few = grind (arith, nat_tests)

steps-mean : (name : List ℕ) (kind : Kind) (from to step : ℕ) → is_name name ≡ true → from ≤ LAST_TIME → to ≤ LAST_TIME → step ≤ LAST_TIME →
    (nat_lt 0 step && nat_le (rows_in from to step) MOST_ROWS) ≡ true → takes_value kind ≡ false →
    command_of (series_verb kind) (name ∷ kind_name kind ∷ decimal from ∷ decimal to ∷ decimal step ∷ []) ≡ Ok
    (commands.Series (record { name = name; kind = kind; from = from; to = to; step = step }))
steps-mean name (kinds.Has value) from to step is early late small rows alone = cc
steps-mean name _ from to step is early late small rows alone =
    rw (time_of-decimal from early, time_of-decimal to late, time_of-decimal step small, rows, name_of-name name is) refl

is_comment-query_verb : (kind : Kind) → is_comment (query_verb kind) ≡ false
is_comment-query_verb kind = elim (cases_Bool (is_guess kind)) [ inl is ↦ rw is refl | inr not_is ↦ rw not_is refl ]

is_comment-series_verb : (kind : Kind) → is_comment (series_verb kind) ≡ false
is_comment-series_verb kind = elim (cases_Bool (is_guess kind)) [ inl is ↦ rw is refl | inr not_is ↦ rw not_is refl ]

-- a printed command that asks for all values means what it asks for
meaning-figure : (name : List ℕ) (kind : Kind) (from to : ℕ) → is_name name ≡ true → from ≤ LAST_TIME → to ≤ LAST_TIME → takes_value kind ≡ false →
    meaning (spaced (query_verb kind) (name ∷ kind_name kind ∷ decimal from ∷ decimal to ∷ [])) ≡ Ok
    (Some (commands.Ask (record { name = name; kind = kind; from = from; to = to })))
meaning-figure name kind from to is early late alone =
    let rest = name ∷ kind_name kind ∷ decimal from ∷ decimal to ∷ [] in
    let all : AreWords rest = (IsWord-name name is, (IsWord-kind kind, (IsWord-decimal from (omega arith), (IsWord-decimal to (omega arith), tt)))) in
    let short : length (spaced (query_verb kind) rest) ≤ 256 =
    omega (
      arith,
      length-spaced rest (query_verb kind),
      (length-verbs kind).0,
      length-is_name name is,
      length-kind kind,
      length-decimal_64 from (omega arith),
      length-decimal_64 to (omega arith),
    ) in
    meaning-spaced (query_verb kind) rest (IsWord-query_verb kind) all short (is_comment-query_verb kind)
    ∙ rw (figure-means name kind from to is early late alone) refl

-- so does one for a value
meaning-has : (name : List ℕ) (v : ℤ) (from to : ℕ) → is_name name ≡ true → from ≤ LAST_TIME → to ≤ LAST_TIME → FitsSigned w64 v →
    meaning (spaced (codes "query") (name ∷ codes "has" ∷ signed_decimal v ∷ decimal from ∷ decimal to ∷ [])) ≡ Ok
    (Some (commands.Ask (record { name = name; kind = kinds.Has v; from = from; to = to })))
meaning-has name v from to is early late fits =
    let rest = name ∷ codes "has" ∷ signed_decimal v ∷ decimal from ∷ decimal to ∷ [] in
    let all : AreWords rest = (
      IsWord-name name is,
      (literal (codes "has") refl, (IsWord-signed v fits, (IsWord-decimal from (omega arith), (IsWord-decimal to (omega arith), tt)))),
    ) in
    let short : length (spaced (codes "query") rest) ≤ 256 =
    omega (
      arith,
      length-spaced rest (codes "query"),
      length-is_name name is,
      length-signed_64 v fits,
      length-decimal_64 from (omega arith),
      length-decimal_64 to (omega arith),
    ) in
    meaning-spaced (codes "query") rest (literal (codes "query") refl) all short refl
    ∙ rw (value_of-signed v fits, time_of-decimal from early, time_of-decimal to late, name_of-name name is) refl

meaning-query : (query : Query) (kind : Kind) → is_name query.name ≡ true → query.from ≤ LAST_TIME → query.to ≤ LAST_TIME → IsKindOfValues kind →
    meaning (printed_query query kind) ≡ Ok (Some (commands.Ask (record query { kind = kind })))
meaning-query query kinds.Count is early late fits = meaning-figure query.name kinds.Count query.from query.to is early late refl
meaning-query query kinds.Sum is early late fits = meaning-figure query.name kinds.Sum query.from query.to is early late refl
meaning-query query kinds.Min is early late fits = meaning-figure query.name kinds.Min query.from query.to is early late refl
meaning-query query kinds.Max is early late fits = meaning-figure query.name kinds.Max query.from query.to is early late refl
meaning-query query kinds.Mean is early late fits = meaning-figure query.name kinds.Mean query.from query.to is early late refl
meaning-query query (kinds.Has value) is early late fits = meaning-has query.name value query.from query.to is early late fits
meaning-query query kinds.CountGuess is early late fits = meaning-figure query.name kinds.CountGuess query.from query.to is early late refl
meaning-query query kinds.SumGuess is early late fits = meaning-figure query.name kinds.SumGuess query.from query.to is early late refl
meaning-query query kinds.MeanGuess is early late fits = meaning-figure query.name kinds.MeanGuess query.from query.to is early late refl

meaning-series : (series : Series) → is_name series.name ≡ true → IsSeriesInRange series → takes_value series.kind ≡ false →
    meaning (spaced (series_verb series.kind)
    (series.name ∷ kind_name series.kind ∷ decimal series.from ∷ decimal series.to ∷ decimal series.step ∷ [])) ≡ Ok (Some (commands.Series series))
meaning-series series is ranged alone =
    let rest = series.name ∷ kind_name series.kind ∷ decimal series.from ∷ decimal series.to ∷ decimal series.step ∷ [] in
    let from = ranged.from in
    let to = ranged.to in
    let step = ranged.step in
    let all : AreWords rest = (
      IsWord-name series.name is,
      (
        IsWord-kind series.kind,
        (IsWord-decimal series.from (omega arith), (IsWord-decimal series.to (omega arith), (IsWord-decimal series.step (omega arith), tt))),
      ),
    ) in
    let short : length (spaced (series_verb series.kind) rest) ≤ 256 =
    omega (
      arith,
      length-spaced rest (series_verb series.kind),
      (length-verbs series.kind).1,
      length-is_name series.name is,
      length-kind series.kind,
      length-decimal_64 series.from (omega arith),
      length-decimal_64 series.to (omega arith),
      length-decimal_64 series.step (omega arith),
    ) in
    meaning-spaced (series_verb series.kind) rest (IsWord-series_verb series.kind) all short (is_comment-series_verb series.kind)
    ∙ rw (steps-mean series.name series.kind series.from series.to series.step is from to step
    (step_of-rows series.from series.to series.step ranged.some ranged.few) alone) refl

meaning-windows : (name : List ℕ) → is_name name ≡ true → meaning (spaced (codes "windows") (name ∷ [])) ≡ Ok (Some (commands.Windows name))
meaning-windows name is =
    let rest = name ∷ [] in
    let short : length (spaced (codes "windows") rest) ≤ 256 = omega (arith, length-spaced rest (codes "windows"), length-is_name name is) in
    meaning-spaced (codes "windows") rest (literal (codes "windows") refl) (IsWord-name name is, tt) short refl
    ∙ rw (name_of-name name is) refl

-- the names of an end
IsWord-end : (end : End) → IsWord (end_name end)
IsWord-end ends.Lo = literal (codes "lo") refl
IsWord-end ends.Hi = literal (codes "hi") refl

certify-means : (name : List ℕ) (kind : Kind) (end : End) (from to : ℕ) → is_name name ≡ true → from ≤ LAST_TIME → to ≤ LAST_TIME → is_certified kind ≡ true →
    command_of (codes "certify") (name ∷ kind_name kind ∷ end_name end ∷ decimal from ∷ decimal to ∷ []) ≡ Ok
    (commands.Certify (record { name = name; kind = kind; from = from; to = to }) end)
certify-means name kinds.Min end from to is early late certified = cc
certify-means name kinds.Max end from to is early late certified = cc
certify-means name (kinds.Has value) end from to is early late certified = cc
certify-means name kinds.CountGuess end from to is early late certified = cc
certify-means name kinds.SumGuess end from to is early late certified = cc
certify-means name kinds.MeanGuess end from to is early late certified = cc
certify-means name _ ends.Lo from to is early late certified = rw (time_of-decimal from early, time_of-decimal to late, name_of-name name is) refl
certify-means name _ ends.Hi from to is early late certified = rw (time_of-decimal from early, time_of-decimal to late, name_of-name name is) refl

meaning-certify : (name : List ℕ) (kind : Kind) (end : End) (from to : ℕ) → is_name name ≡ true → from ≤ LAST_TIME → to ≤ LAST_TIME →
    is_certified kind ≡ true →
    meaning (spaced (codes "certify") (name ∷ kind_name kind ∷ end_name end ∷ decimal from ∷ decimal to ∷ [])) ≡ Ok
    (Some (commands.Certify (record { name = name; kind = kind; from = from; to = to }) end))
meaning-certify name kind end from to is early late certified =
    let rest = name ∷ kind_name kind ∷ end_name end ∷ decimal from ∷ decimal to ∷ [] in
    let all : AreWords rest = (
      IsWord-name name is,
      (IsWord-kind kind, (IsWord-end end, (IsWord-decimal from (omega arith), (IsWord-decimal to (omega arith), tt)))),
    ) in
    let short : length (spaced (codes "certify") rest) ≤ 256 =
    omega (
      arith,
      length-spaced rest (codes "certify"),
      length-is_name name is,
      length-kind kind,
      length-end end,
      length-decimal_64 from (omega arith),
      length-decimal_64 to (omega arith),
    ) in
    meaning-spaced (codes "certify") rest (literal (codes "certify") refl) all short refl
    ∙ rw (certify-means name kind end from to is early late certified) refl

meaning-last : (name : List ℕ) → is_name name ≡ true → meaning (spaced (codes "last") (name ∷ [])) ≡ Ok (Some (commands.Last name))
meaning-last name is =
    let rest = name ∷ [] in
    let short : length (spaced (codes "last") rest) ≤ 256 = omega (arith, length-spaced rest (codes "last"), length-is_name name is) in
    meaning-spaced (codes "last") rest (literal (codes "last") refl) (IsWord-name name is, tt) short refl
    ∙ rw (name_of-name name is) refl

meaning-values : (name : List ℕ) (from to : ℕ) → is_name name ≡ true → from ≤ LAST_TIME → to ≤ LAST_TIME →
    meaning (spaced (codes "values") (name ∷ decimal from ∷ decimal to ∷ [])) ≡ Ok (Some (commands.Values name from to))
meaning-values name from to is early late =
    let rest = name ∷ decimal from ∷ decimal to ∷ [] in
    let all : AreWords rest = (IsWord-name name is, (IsWord-decimal from (omega arith), (IsWord-decimal to (omega arith), tt))) in
    let short : length (spaced (codes "values") rest) ≤ 256 =
    omega (
      arith,
      length-spaced rest (codes "values"),
      length-is_name name is,
      length-decimal_64 from (omega arith),
      length-decimal_64 to (omega arith),
    ) in
    meaning-spaced (codes "values") rest (literal (codes "values") refl) all short refl
    ∙ rw (time_of-decimal from early, time_of-decimal to late, name_of-name name is) refl

-- a series that is printed is its words
printed-series : (series : Series) → takes_value series.kind ≡ false → printed (commands.Series series)
    ≡ spaced (series_verb series.kind) (series.name ∷ kind_name series.kind ∷ decimal series.from ∷ decimal series.to ∷ decimal series.step ∷ [])
unfolding printed
printed-series series alone = elim (cases_Bool (is_guess series.kind)) [ inl is ↦ rw is refl | inr not_is ↦ rw not_is refl ]

-- a target that is printed is its words
printed-create : (name : List ℕ) (family : Family) (within : Option ℕ) → form_line (target_row family within) name (said_parameters (target_said family within))
    ≡ spaced (codes "create") (name ∷ target_words (record { family = family; within = within }))
printed-create name (Exp b r s) None = refl
printed-create name (Exp b r s) (Some e) = refl
printed-create name (Power p q r s) None = refl
printed-create name (Power p q r s) (Some e) = refl

-- a printed command means that command
pub meaning-printed : (command : Command) → IsSayable command → meaning (printed command) ≡ Ok (Some command)
unfolding printed
meaning-printed (commands.Do (Create name params)) sayable =
    ap meaning (printed-create name params.family params.within) ∙ meaning-create name params.family params.within sayable.0 sayable.1.0 sayable.1.1
meaning-printed (commands.Do (Value name t v)) sayable = meaning-value name t v sayable.0 sayable.1 sayable.2
meaning-printed (commands.Do (Open name t)) sayable = meaning-open name t sayable.0 sayable.1
meaning-printed (commands.Do (Close name t)) sayable = meaning-close name t sayable.0 sayable.1
meaning-printed (commands.Do (Drop name)) sayable = meaning-drop name sayable
meaning-printed (commands.Ask query) sayable = meaning-query query query.kind sayable.0 sayable.1.0 sayable.1.1 sayable.2
meaning-printed (commands.Series series) sayable = ap meaning (printed-series series sayable.2) ∙ meaning-series series sayable.0 sayable.1 sayable.2
meaning-printed (commands.Windows name) sayable = meaning-windows name sayable
meaning-printed (commands.Certify query end) sayable =
    meaning-certify query.name query.kind end query.from query.to sayable.0 sayable.1.0 sayable.1.1 sayable.2
meaning-printed (commands.Last name) sayable = meaning-last name sayable
meaning-printed (commands.Values name from to) sayable = meaning-values name from to sayable.0 sayable.1 sayable.2
meaning-printed commands.List sayable = meaning-spaced (codes "list") [] (literal (codes "list") refl) tt (omega arith) refl
