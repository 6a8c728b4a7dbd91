-- The tables have what each byte leaves.
use Rattle.std.proofs.Common.{◌≡◌, ◌∙◌, refl, sym, ap, ap₂, lit<, ℕ, zero, suc, ◌+◌, ◌*◌, ◌/◌, ◌%◌, ◌^◌, ◌<◌, ◌≤◌, List, [], ◌∷◌, length, map, arith}
use Rattle.std.specs.Prelude.{bit_and, bit_xor, slice_index_or}
use Rattle.std.specs.Int.{w32, to_le_bytes}
use Rattle.std.proofs.lemmas.List.{get_or-map, length-map}
use Rattle.std.proofs.lemmas.Nat.{and_mask, xor_shr}
use Rattle.std.specs.Int.Bits.{xor_zero_r}
use Rattle.ss_checksum.specs.Checksum.{after_bits, after_byte}
use Rattle.ss_checksum.specs.declared.tables.TheConstants.{TABLES}
use Rattle.ss_checksum.proofs.StepLemmas.{after_bits-add, after_bits-byte, after_bits-four}

-- what bytes leave of eight steps, from a first one on, so many of them
abbrev left_by : ℕ → ℕ → List ℕ
left_by first zero = []
left_by first (suc more) = after_bits 8 first ∷ left_by (suc first) more

left_by-at : (first more index : ℕ) → index < more → slice_index_or (left_by first more) index 0 ≡ after_bits 8 (first + index)
left_by-at first zero index inside = absurd (omega arith)
left_by-at first (suc more) zero inside = ap (after_bits 8) (omega arith)
left_by-at first (suc more) (suc index) inside =
    left_by-at (suc first) more index (omega arith) ∙ ap (after_bits 8) (omega arith)

-- rows of which each has what eight steps leave of the one before it
abbrev rows : ℕ → List ℕ → List (List ℕ)
rows zero row = []
rows (suc more) row = row ∷ rows more (map (after_bits 8) row)

tables-are : TABLES ≡ rows 16 (left_by 0 256)
tables-are = refl

row-at : (row : List ℕ) (index : ℕ) → index < length row → slice_index_or (map (after_bits 8) row) index 0 ≡ after_bits 8 (slice_index_or row index 0)
row-at row index inside = get_or-map (after_bits 8) row index 0 0 inside

rows-at : (more k index : ℕ) (row : List ℕ) → k < more → index < length row
    → slice_index_or (slice_index_or (rows more row) k []) index 0 ≡ after_bits (k * 8) (slice_index_or row index 0)
rows-at zero k index row few inside = absurd (omega arith)
rows-at (suc more) zero index row few inside = refl
rows-at (suc more) (suc k) index row few inside =
    let steps : 8 + k * 8 ≡ suc k * 8 = omega arith in
    rows-at more k index (map (after_bits 8) row) (omega arith) (omega (arith, inside, length-map row (after_bits 8)))
    ∙ ap (after_bits (k * 8)) (row-at row index inside)
    ∙ sym (after_bits-add 8 (k * 8) (slice_index_or row index 0))
    ∙ ap (λ n. after_bits n (slice_index_or row index 0)) steps

-- what one of the tables has of a byte
abbrev pub entry : ℕ → ℕ → ℕ
entry k index = slice_index_or (slice_index_or TABLES k []) index 0

entry-is : (k index : ℕ) → k < 16 → index < 256 → entry k index ≡ after_bits (8 + k * 8) index
entry-is k index few inside =
    let same : 0 + index ≡ index = omega arith in
    ap (λ tables. slice_index_or (slice_index_or tables k []) index 0) tables-are
    ∙ rows-at 16 k index (left_by 0 256) few inside
    ∙ ap (after_bits (k * 8)) (left_by-at 0 256 index inside ∙ ap (after_bits 8) same)
    ∙ sym (after_bits-add 8 (k * 8) index)

-- a step over a byte by the first table
pub table-step : (state byte : ℕ) → byte < 256 →
    bit_xor (entry 0 (bit_and (bit_xor state byte) 255)) (state / 256) ≡ after_byte state byte
table-step state byte few =
    let x = bit_xor state byte in
    let low : bit_and x 255 ≡ x % 2 ^ 8 = and_mask x 8 in
    let inside : x % 2 ^ 8 < 256 = omega arith in
    let none : byte / 2 ^ 8 ≡ 0 = omega (arith, few) in
    let high : x / 2 ^ 8 ≡ state / 2 ^ 8 = xor_shr state byte 8 ∙ ap (bit_xor (state / 2 ^ 8)) none ∙ xor_zero_r (state / 2 ^ 8) in
    rw low (ap₂ bit_xor (entry-is 0 (x % 2 ^ 8) (lit< tt) inside) (sym high) ∙ sym (after_bits-byte 0 x))

-- what four tables have of four bytes, from the table k up, the last byte by that
abbrev pub entries : ℕ → List ℕ → ℕ
entries k bytes = bit_xor (bit_xor (bit_xor (entry (3 + k) (slice_index_or bytes 0 0)) (entry (2 + k) (slice_index_or bytes 1 0)))
    (entry (1 + k) (slice_index_or bytes 2 0))) (entry k (slice_index_or bytes 3 0))

pub entries-are : (k number : ℕ) → k ≤ 12 → number < 2 ^ 32 → entries k (to_le_bytes w32 number) ≡ after_bits (32 + k * 8) number
entries-are k number few small =
    let wide : 8 + (8 + (8 + (8 + k * 8))) ≡ 32 + k * 8 = omega arith in
    let at = λ (j : ℕ) (index : ℕ) (steps : ℕ) (below : j < 16) (inside : index < 256) (same : 8 + j * 8 ≡ steps).
    entry-is j index below inside ∙ ap (λ n. after_bits n index) same in
    ap₂ bit_xor (ap₂ bit_xor (ap₂ bit_xor
    (at (3 + k) (number % 256) (8 + (8 + (8 + (8 + k * 8)))) (omega arith) (omega arith) (omega arith))
    (at (2 + k) (number / 256 % 256) (8 + (8 + (8 + k * 8))) (omega arith) (omega arith) (omega arith)))
    (at (1 + k) (number / 65536 % 256) (8 + (8 + k * 8)) (omega arith) (omega arith) (omega arith)))
    (at k (number / 16777216 % 256) (8 + k * 8) (omega arith) (omega arith) refl)
    ∙ sym (after_bits-four (k * 8) number small)
    ∙ ap (λ n. after_bits n number) wide
