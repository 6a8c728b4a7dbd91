-- How the pieces of an input grow with it.
use Rattle.std.specs.Prelude.{◌≡◌, ℕ, zero, suc, ◌+◌, ◌-◌, ◌*◌, ◌/◌, ◌<◌, ◌≤◌, ◌==◌, Bool, true, false, List, [], ◌∷◌, ◌++◌, map, length, take, drop}
use Rattle.std.specs.List.{All, flat_map, range_with_len}
use Rattle.std.proofs.Common.{arith, refl, sym, ap, ◌∙◌, append_assoc, ⊎_elim}
use Rattle.std.proofs.Math.Seq.{take-add}
use Rattle.std.proofs.lemmas.Bool.{cases_lt, cond-false, cond-true, eq-eqb, ne_eqb}
use Rattle.std.proofs.lemmas.List.Concat.{flat_map-append}
use Rattle.std.proofs.lemmas.List.{append-nil, drop-append-le, drop-drop, drop_all, drop_at, take_all, take_at, length-append, length-drop, length-take-le}
use Rattle.std.proofs.lemmas.List.{take-append-drop, take-append-le}
use Rattle.std.proofs.lemmas.List.FromFn.{fill_by_all, get_or-map-range_with_len, length-map-range_with_len, map-range_with_len_more, take-map-range_with_len}
use Rattle.std.proofs.lemmas.List.Elements.{All-head, All-tail}
use Rattle.ss_frames.specs.Frame.{FrameState, IsValidFrame, frame_spelled}
use Rattle.ss_frames.proofs.FrameLemmas.{length-frame_spelled}
use Rattle.ss_frames.specs.Pieces.{piece_at, pieces, pieces_so_far, unended_piece, unless_empty, whole_pieces}
use Rattle.ss_frames.specs.PieceState.{PieceState, HasReadPieces, TellsPiece, piece_under_way}

-- so many whole pieces lie within n bytes
whole-within : (n : ℕ) → 64 * (n / 64) ≤ n
whole-within n = omega arith

whole-last : (n : ℕ) → n < 64 * (n / 64) + 64
whole-last n = omega arith

whole-more : (n m : ℕ) → n / 64 ≤ (n + m) / 64
whole-more n m = omega arith

-- a whole piece of an input is one of a longer input
piece_at-append : (xs ys : List ℕ) (k : ℕ) → 64 * k + 64 ≤ length xs → piece_at (xs ++ ys) k ≡ piece_at xs k
piece_at-append xs ys k within =
    let rest = length-drop (64 * k) xs in
    ap (take 64) (drop-append-le (64 * k) xs ys (omega arith)) ∙ take-append-le 64 (drop (64 * k) xs) ys (omega arith)

-- the pieces that an input has so far are those of a longer input
so_far-front : (xs ys : List ℕ) → map (piece_at (xs ++ ys)) (range_with_len 0 (whole_pieces xs)) ≡ pieces_so_far xs
unfolding pieces_so_far
so_far-front xs ys =
    sym (fill_by_all (piece_at (xs ++ ys)) (map (piece_at xs) (range_with_len 0 (whole_pieces xs))) (whole_pieces xs) []
    (length-map-range_with_len (piece_at xs) 0 (whole_pieces xs))
    (λ k below. get_or-map-range_with_len (piece_at xs) 0 (whole_pieces xs) k k [] below (omega arith) ∙ sym (piece_at-append xs ys k (omega (arith, below)))))

more-whole : (xs ys : List ℕ) → whole_pieces xs ≤ whole_pieces (xs ++ ys)
more-whole xs ys = omega (arith, length-append xs ys)

pub pieces_so_far-append : (xs ys : List ℕ) → (more : List (List ℕ)) × (pieces_so_far (xs ++ ys) ≡ pieces_so_far xs ++ more)
unfolding pieces_so_far
pieces_so_far-append xs ys =
    let all = pieces_so_far (xs ++ ys) in
    let few = whole_pieces xs in
    let front = take-map-range_with_len (piece_at (xs ++ ys)) 0 (whole_pieces (xs ++ ys)) few (more-whole xs ys) ∙ so_far-front xs ys in
    (drop few all, sym (take-append-drop few all) ∙ ap (λ ps. ps ++ drop few all) front)

pub pieces-front : (xs ys : List ℕ) → (more : List (List ℕ)) × (pieces (xs ++ ys) ≡ pieces_so_far xs ++ more)
pieces-front xs ys =
    let front = pieces_so_far-append xs ys in
    let last = unless_empty (unended_piece (xs ++ ys)) in
    (front.0 ++ last, ap (λ ps. ps ++ last) front.1 ∙ append_assoc (pieces_so_far xs) front.0 last)

-- the bytes after the last whole piece are fewer than one has
pub length-unended_piece : (xs : List ℕ) → length (unended_piece xs) ≡ length xs - 64 * whole_pieces xs
unfolding unended_piece
length-unended_piece xs = length-drop (64 * whole_pieces xs) xs

pub unended_piece-short : (xs : List ℕ) → length (unended_piece xs) < 64
unended_piece-short xs = omega (arith, length-unended_piece xs)

-- the number of whole pieces, and the bytes after them
pub length-pieces_so_far : (xs : List ℕ) → length (pieces_so_far xs) + length (unended_piece xs) ≤ length xs
unfolding pieces_so_far
length-pieces_so_far xs = omega (arith, length-unended_piece xs, length-map-range_with_len (piece_at xs) 0 (whole_pieces xs))

-- bytes that don't end a piece
module _ (xs ys : List ℕ) (within : length (unended_piece xs) + length ys < 64) where
  whole-same : whole_pieces (xs ++ ys) ≡ whole_pieces xs
  whole-same = omega (arith, within, length-unended_piece xs, length-append xs ys)

  pub pieces_so_far-within : pieces_so_far (xs ++ ys) ≡ pieces_so_far xs
  unfolding pieces_so_far
  pieces_so_far-within = ap (λ n. map (piece_at (xs ++ ys)) (range_with_len 0 n)) whole-same ∙ so_far-front xs ys

  pub unended_piece-within : unended_piece (xs ++ ys) ≡ unended_piece xs ++ ys
  unfolding unended_piece
  unended_piece-within = ap (λ n. drop (64 * n) (xs ++ ys)) whole-same ∙ drop-append-le (64 * whole_pieces xs) xs ys (omega arith)

-- and bytes that end one
module _ (xs ys : List ℕ) (full : length (unended_piece xs) + length ys ≡ 64) where
  whole-next : whole_pieces (xs ++ ys) ≡ whole_pieces xs + 1
  whole-next = omega (arith, full, length-unended_piece xs, length-append xs ys)

  piece_at-last : piece_at (xs ++ ys) (whole_pieces xs) ≡ unended_piece xs ++ ys
  unfolding unended_piece
  piece_at-last =
      ap (take 64) (drop-append-le (64 * whole_pieces xs) xs ys (omega arith))
      ∙ take_all 64 (unended_piece xs ++ ys) (omega (arith, full, length-append (unended_piece xs) ys))

  pub pieces_so_far-ended : pieces_so_far (xs ++ ys) ≡ pieces_so_far xs ++ (unended_piece xs ++ ys) ∷ []
  unfolding pieces_so_far
  pieces_so_far-ended =
      ap (λ n. map (piece_at (xs ++ ys)) (range_with_len 0 n)) whole-next
      ∙ map-range_with_len_more (piece_at (xs ++ ys)) 0 (whole_pieces xs) (whole_pieces xs) (omega arith)
      ∙ ap (λ ps. ps ++ piece_at (xs ++ ys) (whole_pieces xs) ∷ []) (so_far-front xs ys)
      ∙ ap (λ p. pieces_so_far xs ++ p ∷ []) piece_at-last

  pub unended_piece-ended : unended_piece (xs ++ ys) ≡ []
  unfolding unended_piece
  unended_piece-ended =
      drop_all (64 * whole_pieces (xs ++ ys)) (xs ++ ys) (omega (arith, whole-next, full, length-unended_piece xs, length-append xs ys))

-- a whole piece at the front
module _ (piece rest : List ℕ) (size : length piece ≡ 64) where
  whole-cons : whole_pieces (piece ++ rest) ≡ suc (whole_pieces rest)
  whole-cons = omega (arith, size, length-append piece rest)

  drop-cons_piece : (k : ℕ) → drop (64 * suc k) (piece ++ rest) ≡ drop (64 * k) rest
  drop-cons_piece k =
      let split : 64 * suc k ≡ 64 + 64 * k = omega arith in
      ap (λ n. drop n (piece ++ rest)) split ∙ sym (drop-drop (64 * k) 64 (piece ++ rest)) ∙ ap (drop (64 * k)) (drop_at piece rest 64 size)

  piece_at-next : (k : ℕ) → piece_at (piece ++ rest) (1 + k) ≡ piece_at rest k
  piece_at-next k = let next : 1 + k ≡ suc k = omega arith in ap (piece_at (piece ++ rest)) next ∙ ap (take 64) (drop-cons_piece k)

  pieces_so_far-cons : pieces_so_far (piece ++ rest) ≡ piece ∷ pieces_so_far rest
  unfolding pieces_so_far
  pieces_so_far-cons =
      let few = whole_pieces rest in
      let others = fill_by_all (piece_at rest) (map (piece_at (piece ++ rest)) (range_with_len 1 few)) few []
      (length-map-range_with_len (piece_at (piece ++ rest)) 1 few)
      (λ k below. get_or-map-range_with_len (piece_at (piece ++ rest)) 1 few k (1 + k) [] below refl ∙ piece_at-next k) in
      ap (λ n. map (piece_at (piece ++ rest)) (range_with_len 0 n)) whole-cons
      ∙ ap (λ ps. piece_at (piece ++ rest) 0 ∷ ps) others
      ∙ ap (λ p. p ∷ pieces_so_far rest) (take_at piece rest 64 size)

  unended_piece-cons : unended_piece (piece ++ rest) ≡ unended_piece rest
  unfolding unended_piece
  unended_piece-cons = ap (λ n. drop (64 * n) (piece ++ rest)) whole-cons ∙ drop-cons_piece (whole_pieces rest)

  pub pieces-cons : pieces (piece ++ rest) ≡ piece ∷ pieces rest
  pieces-cons =
      ap (λ ps. ps ++ unless_empty (unended_piece (piece ++ rest))) pieces_so_far-cons
      ∙ ap (λ bs. piece ∷ (pieces_so_far rest ++ unless_empty bs)) unended_piece-cons

pieces-nil : pieces [] ≡ []
unfolding pieces_so_far unended_piece
pieces-nil = refl

-- the pieces, one after the other, are the first bytes of the input
joined-first : (input : List ℕ) (n : ℕ) → flat_map (λ piece. piece) (map (piece_at input) (range_with_len 0 n)) ≡ take (64 * n) input
joined-first input zero = refl
joined-first input (suc n) =
    let next : suc n ≡ n + 1 = omega arith in
    let more : 64 * n + 64 ≡ 64 * suc n = omega arith in
    ap (λ k. flat_map (λ piece. piece) (map (piece_at input) (range_with_len 0 k))) next
    ∙ ap (flat_map (λ piece. piece)) (map-range_with_len_more (piece_at input) 0 n n (omega arith))
    ∙ flat_map-append (λ piece. piece) (map (piece_at input) (range_with_len 0 n)) (piece_at input n ∷ [])
    ∙ ap (λ bs. bs ++ (piece_at input n ++ [])) (joined-first input n)
    ∙ ap (λ bs. take (64 * n) input ++ bs) (append-nil (piece_at input n))
    ∙ sym (take-add (64 * n) 64 input)
    ∙ ap (λ k. take k input) more

pub joined-pieces_so_far : (input : List ℕ) → flat_map (λ piece. piece) (pieces_so_far input) ++ unended_piece input ≡ input
unfolding pieces_so_far unended_piece
joined-pieces_so_far input =
    ap (λ bs. bs ++ unended_piece input) (joined-first input (whole_pieces input)) ∙ take-append-drop (64 * whole_pieces input) input

joined-unless_empty : (bs : List ℕ) → flat_map (λ piece. piece) (unless_empty bs) ≡ bs
joined-unless_empty [] = refl
joined-unless_empty (b ∷ bs) = append-nil (b ∷ bs)

pub joined-pieces : (input : List ℕ) → flat_map (λ piece. piece) (pieces input) ≡ input
joined-pieces input =
    flat_map-append (λ piece. piece) (pieces_so_far input) (unless_empty (unended_piece input))
    ∙ ap (λ bs. flat_map (λ piece. piece) (pieces_so_far input) ++ bs) (joined-unless_empty (unended_piece input))
    ∙ joined-pieces_so_far input

-- each whole piece has the size of a frame
pub pieces_so_far-sizes : (input : List ℕ) → All (λ piece. length piece ≡ 64) (pieces_so_far input)
unfolding pieces_so_far
pieces_so_far-sizes input = λ k d below.
    let few = length-map-range_with_len (piece_at input) 0 (whole_pieces input) in
    let inside : k < whole_pieces input = omega (arith, below, few) in
    ap (λ (piece : List ℕ). length piece) (get_or-map-range_with_len (piece_at input) 0 (whole_pieces input) k k d inside (omega arith))
    ∙ length-take-le 64 (drop (64 * k) input) (omega (arith, inside, length-drop (64 * k) input))

-- a reader that took some bytes more of an input
module _ (input fed : List ℕ) (s next : PieceState) (at : HasReadPieces input s) (bytes : next.bytes ≡ piece_under_way s ++ fed) where
  has-bytes : next.bytes ≡ unended_piece input ++ fed
  has-bytes = bytes ∙ ap (λ bs. bs ++ fed) at

  size-bytes : length next.bytes ≡ length (unended_piece input) + length fed
  size-bytes = ap (λ (bs : List ℕ). length bs) has-bytes ∙ length-append (unended_piece input) fed

  HasReadPieces-within : length next.bytes < 64 → next.ended ≡ false → HasReadPieces (input ++ fed) next
  HasReadPieces-within short going =
      cond-false next.ended [] next.bytes going ∙ has-bytes ∙ sym (unended_piece-within input fed (omega (arith, short, size-bytes)))

  HasReadPieces-ended : length next.bytes ≡ 64 → next.ended ≡ true → HasReadPieces (input ++ fed) next
  HasReadPieces-ended full over = cond-true next.ended [] next.bytes over ∙ sym (unended_piece-ended input fed (sym size-bytes ∙ full))

  TellsPiece-within : (ended : Bool) → length next.bytes < 64 → ended ≡ false → TellsPiece (pieces_so_far input) (pieces_so_far (input ++ fed)) ended next
  TellsPiece-within true short going = absurd cc
  TellsPiece-within false short going = pieces_so_far-within input fed (omega (arith, short, size-bytes))

  TellsPiece-ended : (ended : Bool) → length next.bytes ≡ 64 → ended ≡ true → TellsPiece (pieces_so_far input) (pieces_so_far (input ++ fed)) ended next
  TellsPiece-ended false full over = absurd cc
  TellsPiece-ended true full over =
      pieces_so_far-ended input fed (sym size-bytes ∙ full) ∙ ap (λ bs. pieces_so_far input ++ bs ∷ []) (sym has-bytes)

  other : length next.bytes < 64 → (length next.bytes == 64) ≡ false
  other within = ne_eqb (length next.bytes) 64 (λ full. omega (arith, within, full))

  module _ (ended : Bool) (short : length next.bytes ≤ 64) (is : ended ≡ (length next.bytes == 64)) where
    pub HasReadPieces-fed : next.ended ≡ ended → HasReadPieces (input ++ fed) next
    HasReadPieces-fed state =
        ⊎_elim
        (λ within. HasReadPieces-within within (state ∙ is ∙ other within))
        (λ full. let all : length next.bytes ≡ 64 = omega (arith, short, full) in HasReadPieces-ended all (state ∙ is ∙ eq-eqb (length next.bytes) 64 all))
        (cases_lt (length next.bytes) 64)

    pub TellsPiece-fed : TellsPiece (pieces_so_far input) (pieces_so_far (input ++ fed)) ended next
    TellsPiece-fed =
        ⊎_elim
        (λ within. TellsPiece-within ended within (is ∙ other within))
        (λ full. let all : length next.bytes ≡ 64 = omega (arith, short, full) in TellsPiece-ended ended all (is ∙ eq-eqb (length next.bytes) 64 all))
        (cases_lt (length next.bytes) 64)

-- frames one after the other are the pieces of their input
pub pieces-frames : (frames : List FrameState) → All (λ f. IsValidFrame f.number f.event) frames
    → pieces (flat_map frame_spelled frames) ≡ map frame_spelled frames
pieces-frames [] valid = pieces-nil
pieces-frames (f ∷ frames) valid =
    let size = length-frame_spelled f (All-head (λ (f : FrameState). IsValidFrame f.number f.event) f frames valid) in
    let rest = pieces-frames frames (All-tail (λ (f : FrameState). IsValidFrame f.number f.event) f frames valid) in
    pieces-cons (frame_spelled f) (flat_map frame_spelled frames) size ∙ ap (λ ps. frame_spelled f ∷ ps) rest
