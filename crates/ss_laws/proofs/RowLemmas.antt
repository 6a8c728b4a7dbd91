-- Where the answer of a range lies within those of two ranges side by side put together, it lies within those of the rows of a
-- series put together.
use Rattle.std.specs.Prelude.{◌≡◌, ℕ, zero, suc, ◌+◌, ◌*◌, ◌/◌, ◌-◌, ◌<◌, ◌≤◌, map}
use Rattle.std.proofs.Common.{ap, arith, subst, sym, ◌∙◌}
use Rattle.std.proofs.lemmas.Bool.{le-ltb}
use Rattle.ss_catalog.proofs.SeriesLemmas.{row-within}
use Rattle.ss_catalog.specs.Series.{numbers_from, row_count, row_query, row_start, rows_in}
use Rattle.ss_catalog.specs.declared.series.Series.{Series}
use Rattle.ss_laws.specs.Parts.{of_rows}
use Rattle.ss_laws.proofs.Together.{PutsTogether, together}

-- after the last row no time of the range is left
last-row : (from to step row : ℕ) → 0 < step → from ≤ to → row + 1 ≡ rows_in from to step → to < from + (row + 1) * step
last-row from to step row some order last =
    let count : row + 1 ≡ (to - from) / step + 1 = rw (le-ltb to from order) at last in
    let rest : to - from < step * ((to - from) / step) + step = omega arith in
    let steps : (row + 1) * step ≡ step * ((to - from) / step) + step = rw count (omega arith) in
    omega (arith, rest, steps)

module _ {X : Type 0} (none : X) (join : X → X → X) (Within : X → X → Type 0) (puts : PutsTogether none join Within)
    (answer : ℕ → ℕ → X)
    (two : (from mid to : ℕ) → from ≤ mid → mid < to → Within (answer from to) (join (answer from mid) (answer (mid + 1) to)))
    (series : Series) (some : 0 < series.step) (order : series.from ≤ series.to) where
  abbrev of_row : ℕ → X
  of_row row = answer (row_query series row).from (row_query series row).to

  -- the last row ends with the range
  last-is : (row : ℕ) → row + 1 ≡ row_count series → (row_query series row).to ≡ series.to
  last-is row last = omega (arith, last-row series.from series.to series.step row some order last)

  -- each other one right before the next, which begins in the range
  next-is : (row : ℕ) → row + 1 < row_count series → (row_query series row).to + 1 ≡ row_start series (row + 1)
  next-is row more = omega (arith, row-within series.from series.to series.step (row + 1) some more)

  next-within : (row : ℕ) → row + 1 < row_count series → (row_query series row).to < series.to
  next-within row more = omega (arith, row-within series.from series.to series.step (row + 1) some more)

  row-begins : (row : ℕ) → row + 1 < row_count series → row_start series row ≤ (row_query series row).to
  row-begins row more = omega (arith, row-within series.from series.to series.step (row + 1) some more)

  within-from : (n row : ℕ) → row + suc n ≡ row_count series →
      Within (answer (row_start series row) series.to) (together none join (map of_row (numbers_from row (suc n))))
  unfolding numbers_from
  within-from zero row last =
      let is = last-is row (omega (arith, last)) in
      subst (Within (answer (row_start series row) series.to))
      (sym (puts.right (of_row row) ∙ ap (answer (row_start series row)) is))
      (puts.same (answer (row_start series row) series.to))
  within-from (suc n) row last =
      let more : row + 1 < row_count series = omega (arith, last) in
      let parts = two (row_start series row) (row_query series row).to series.to (row-begins row more) (next-within row more) in
      let parts = subst (λ t. Within (answer (row_start series row) series.to) (join (of_row row) (answer t series.to))) (next-is row more) parts in
      puts.follows _ _ _ parts
      (puts.joined _ _ _ _ (puts.same (of_row row)) (within-from n (row + 1) (omega (arith, last))))

  pub within-rows : Within (answer series.from series.to) (together none join (of_rows answer series))
  within-rows =
      let begin : row_start series 0 ≡ series.from = omega arith in
      let count : suc (row_count series - 1) ≡ row_count series = rw (le-ltb series.to series.from order) (omega arith) in
      let all = within-from (row_count series - 1) 0 (omega (arith, count)) in
      let all = subst (λ t. Within (answer t series.to) (together none join (map of_row (numbers_from 0 (suc (row_count series - 1)))))) begin all in
      subst (λ n. Within (answer series.from series.to) (together none join (map of_row (numbers_from 0 n)))) count all
