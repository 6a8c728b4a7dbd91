use Rattle.std.proofs.Common.{◌≡◌, ◌∙◌, ap, sym, take, false}
use Rattle.ss_command.specs.LineState.{ReaderState, ended_line, extended, under_way}
use Rattle.ss_command.proofs.ReaderLemmas.{HasRead-line_end, HasRead-no_end, TellsLine-line_end, TellsLine-no_end}
use Rattle.ss_command.proofs.line_reader.LineReader.feed.Goals as goal

pub returns-in-None-clause-taken : goal.returns-in-None-clause-taken
returns-in-None-clause-taken c = λ input at.
    let piece = c.args.piece.now in
    let line : c.keep.new.self.line ≡ extended (under_way c.args.self.now) piece = ap (λ (r : ReaderState). r.line) c.keep.ensures ∙
    ap (λ (r : ReaderState). extended r.line piece) c.begin.ensures in
    let going : c.keep.new.self.ended ≡ false = ap (λ (r : ReaderState). r.ended) c.keep.ensures ∙ ap (λ (r : ReaderState). r.ended) c.begin.ensures in
    HasRead-no_end input piece c.args.self.now c.keep.new.self at (sym c.first_line_end.ensures ∙ c.in-None.is) line going

pub returns-in-None-clause-lines : goal.returns-in-None-clause-lines
returns-in-None-clause-lines c = λ input at.
    TellsLine-no_end input c.args.piece.now c.args.self.now c.keep.new.self at (sym c.first_line_end.ensures ∙ c.in-None.is)

pub returns-in-Some-clause-taken : goal.returns-in-Some-clause-taken
returns-in-Some-clause-taken c = λ input at.
    HasRead-line_end input c.args.piece.now c.args.self.now c.end.new.self at c.in-Some.at (sym c.first_line_end.ensures ∙ c.in-Some.is)
    (ap (λ (r : ReaderState). r.ended) c.end.ensures.line)

pub returns-in-Some-clause-lines : goal.returns-in-Some-clause-lines
returns-in-Some-clause-lines c = λ input at.
    let piece = c.args.piece.now in
    let line : c.end.new.self.line ≡ ended_line (extended (under_way c.args.self.now) (take c.in-Some.at piece)) =
    ap (λ (r : ReaderState). r.line) c.end.ensures.line ∙ ap (λ (r : ReaderState). ended_line r.line) c.keep-in-Some.ensures ∙
    ap (λ (r : ReaderState). ended_line (extended r.line (take c.in-Some.at piece))) c.begin.ensures in
    TellsLine-line_end input piece c.args.self.now c.end.new.self at c.in-Some.at (sym c.first_line_end.ensures ∙ c.in-Some.is) c.end.result line
