-- The rows of a series, one after another.
use Rattle.ss_program.proofs.Common.{◌≡◌, ℕ, ◌+◌, ◌<◌, ◌≤◌, ◌++◌, List, [], ◌∷◌, length, map, drop, Option, Some, None, refl, sym, ap, ◌∙◌, arith, drop_all}
use Rattle.ss_program.proofs.Common.{length-drop, length-map, slice_get-map, flat_map, slice_get, is_some, nat_lt, option_map, row_count, row_query, row_start}
use Rattle.ss_program.proofs.Common.{rows_of, whole_query, Query, Refusal, Series, row-known, row-taken, outcome_of, refuses_series, Stream, state, Outcome}
use Rattle.ss_program.proofs.Common.{Reply, SeriesHead, Row, StoreState, part_named, History, command_brings, refused, row_shown, series_rows, only_replies}
use Rattle.ss_program.proofs.Common.{unless_refused}
use Rattle.ss_catalog.proofs.SeriesLemmas.{length-rows_of, slice_get-rows_of}
use Rattle.ss_command.specs.declared.command.Command.TheVariants.{Series as AskRows}
use Rattle.ss_store.specs.Asked.{refuses_query_held}
use Rattle.ss_program.proofs.RowLemmas.{drop-at}

-- rows of which each is answered
rows-as : (streams : List Stream) (series : Series) (answers : ℕ → Outcome) →
    ((row : ℕ) → outcome_of streams (row_query series row) ≡ Some (answers row)) → (rows : List ℕ) →
    flat_map (λ row. row_shown (row_start series row) (outcome_of streams (row_query series row))) rows
    ≡ map (λ row. Row (row_start series row) (answers row)) rows
rows-as streams series answers are [] = refl
rows-as streams series answers are (row ∷ rows) =
    ap (λ o. row_shown (row_start series row) o ++ flat_map (λ r. row_shown (row_start series r) (outcome_of streams (row_query series r))) rows) (are row)
    ∙ ap (λ rest. Row (row_start series row) (answers row) ∷ rest) (rows-as streams series answers are rows)

-- so are those of a series that isn't refused
pub series_rows-map : (streams : List Stream) (series : Series) (answers : ℕ → Outcome) →
    ((row : ℕ) → outcome_of streams (row_query series row) ≡ Some (answers row)) →
    series_rows streams series ≡ map (λ row. Row (row_start series row) (answers row)) (rows_of series)
series_rows-map streams series answers are = rows-as streams series answers are (rows_of series)

module _ (streams : List Stream) (series : Series) (none : refuses_series streams series ≡ None) where
  are-rows : series_rows streams series ≡ map (λ row. Row (row_start series row) (row-known streams series none row).0) (rows_of series)
  are-rows = series_rows-map streams series (λ row. (row-known streams series none row).0) (λ row. (row-known streams series none row).1)

  -- there are as many as the head says
  length-series_rows : length (series_rows streams series) ≡ row_count series
  length-series_rows =
      ap (λ (rows : List Reply). length rows) are-rows ∙ length-map (rows_of series) (λ row. Row (row_start series row) (row-known streams series none row).0)
      ∙ length-rows_of series

  -- and each has the answer to its query
  slice_get-series_rows : (row : ℕ) (outcome : Outcome) → row < row_count series → outcome_of streams (row_query series row) ≡ Some outcome →
      slice_get (series_rows streams series) row ≡ Some (Row (row_start series row) outcome)
  slice_get-series_rows row outcome inside is =
      let known = row-known streams series none row in
      let same : known.0 ≡ outcome = cc (known.1, is) in
      let reply = λ (r : ℕ). Row (row_start series r) (row-known streams series none r).0 in
      ap (λ (rows : List Reply). slice_get rows row) are-rows ∙ slice_get-map reply (rows_of series) row
      ∙ ap (λ (o : Option ℕ). option_map reply o) (slice_get-rows_of series row inside)
      ∙ ap (λ o. Some (Row (row_start series row) o)) same

  row-at : (row : ℕ) (query : Query) (outcome : Outcome) → row < row_count series → query ≡ row_query series row →
      outcome_of streams query ≡ Some outcome → slice_get (series_rows streams series) row ≡ Some (Row query.from outcome)
  row-at row query outcome inside q is =
      slice_get-series_rows row outcome inside (ap (λ p. outcome_of streams p) (sym q) ∙ is) ∙ ap (λ (p : Query). Some (Row p.from outcome)) (sym q)

  -- one of them is taken
  pub series-taken : (row : ℕ) (query : Query) (outcome : Outcome) → row < row_count series → query ≡ row_query series row →
      outcome_of streams query ≡ Some outcome →
      drop row (series_rows streams series) ≡ Row query.from outcome ∷ drop (row + 1) (series_rows streams series)
  series-taken row query outcome inside q is = drop-at (series_rows streams series) row (Row query.from outcome) (row-at row query outcome inside q is)

  -- or it wasn't answered
  pub series-unread : (row : ℕ) → row < row_count series → 0 < length (drop row (series_rows streams series))
  series-unread row inside = omega (arith, inside, length-series_rows, length-drop row (series_rows streams series))

  -- or none is left
  pub series-ended : (row : ℕ) → row_count series ≤ row → drop row (series_rows streams series) ≡ []
  series-ended row past = drop_all row (series_rows streams series) (omega (arith, past, length-series_rows))

-- a series that is refused brings its refusal
pub brings-refused_series : (history : History) (series : Series) (refusal : Refusal) → refuses_series (state history) series ≡ Some refusal →
    command_brings history (AskRows series) ≡ refused refusal
brings-refused_series history series refusal is =
    ap (λ r. unless_refused r (only_replies (SeriesHead series.kind (row_count series) ∷ series_rows (state history) series))) is

-- and one that isn't brings its head and its rows
pub brings-series : (history : History) (series : Series) → refuses_series (state history) series ≡ None →
    command_brings history (AskRows series) ≡ only_replies (SeriesHead series.kind (row_count series) ∷ series_rows (state history) series)
brings-series history series none =
    ap (λ r. unless_refused r (only_replies (SeriesHead series.kind (row_count series) ∷ series_rows (state history) series))) none

-- a row of a series that isn't refused isn't either, by what is held
pub row-taken_held : (store : StoreState) (series : Series) (row : ℕ) → 0 < series.step → row < row_count series →
    refuses_query_held store.streams (whole_query series) ≡ None → refuses_query_held store.streams (row_query series row) ≡ None
unfolding refuses_query_held
row-taken_held store series row some inside none =
    row-taken (is_some (part_named series.name store.streams)) (nat_lt series.to series.from) series row some inside none
