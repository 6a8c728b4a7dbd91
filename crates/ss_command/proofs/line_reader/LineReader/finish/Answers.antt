use Rattle.std.proofs.Common.{◌≡◌, ◌∙◌, ap, sym, true≢false}
use Rattle.ss_command.specs.LineState.{ReaderState, ended_line, under_way}
use Rattle.ss_command.proofs.ReaderLemmas.{TellsLine-last}
use Rattle.ss_command.proofs.line_reader.LineReader.finish.Goals as goal

pub returns-clause-lines : goal.returns-clause-lines
returns-clause-lines c = λ input at.
    let line : c.end.new.self.line ≡ ended_line (under_way c.args.self.now) = ap (λ (r : ReaderState). r.line) c.end.ensures.line ∙
    ap (λ (r : ReaderState). ended_line r.line) c.begin.ensures in
    TellsLine-last input c.args.self.now c.end.new.self c.end.result at
    (λ empty. true≢false (sym (c.has_no_bytes.ensures.1 (ap (λ (r : ReaderState). r.line) c.begin.ensures ∙ empty)) ∙ c.if-has_no_bytes.false)) line
