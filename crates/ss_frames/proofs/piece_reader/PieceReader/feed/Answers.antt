use Rattle.std.proofs.Common.{◌≡◌, ◌++◌, ◌≤◌, ◌==◌, ◌∙◌, ap, arith, length, refl, take}
use Rattle.ss_frames.specs.PieceState.{PieceState, piece_under_way}
use Rattle.ss_frames.proofs.PieceLemmas.{HasReadPieces-fed, TellsPiece-fed}
use Rattle.ss_frames.proofs.piece_reader.PieceReader.feed.Goals as goal

pub returns-clause-taken : goal.returns-clause-taken
returns-clause-taken c = λ input at.
    let fed = take c.min-count.result c.args.chunk.now in
    let bytes : c.extend.new.bytes.items ≡ piece_under_way c.args.self.now ++ fed =
    c.extend.ensures ∙ ap (λ (r : PieceState). r.bytes ++ fed) (c.self.view_is ∙ c.begin.ensures.state) in
    let short : length c.extend.new.bytes.items ≤ 64 = omega (arith, c.len.ensures.value, c.len.ensures.fits) in
    HasReadPieces-fed input fed c.args.self.now (record { bytes = c.extend.new.bytes.items; ended = c.len.result == 64 }) at bytes (c.len.result == 64) short
    (ap (λ n. n == 64) c.len.ensures.value) refl

pub returns-clause-pieces : goal.returns-clause-pieces
returns-clause-pieces c = λ input at.
    let fed = take c.min-count.result c.args.chunk.now in
    let bytes : c.extend.new.bytes.items ≡ piece_under_way c.args.self.now ++ fed =
    c.extend.ensures ∙ ap (λ (r : PieceState). r.bytes ++ fed) (c.self.view_is ∙ c.begin.ensures.state) in
    let short : length c.extend.new.bytes.items ≤ 64 = omega (arith, c.len.ensures.value, c.len.ensures.fits) in
    TellsPiece-fed input fed c.args.self.now (record { bytes = c.extend.new.bytes.items; ended = c.len.result == 64 }) at bytes (c.len.result == 64) short
    (ap (λ n. n == 64) c.len.ensures.value)
