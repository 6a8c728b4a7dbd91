use Rattle.std.proofs.Common.{◌≡◌, ◌<◌, [], ap, eqb-true, length, sym, ◌∙◌, Some, Ok}
use Rattle.ss_command.specs.Grammar.{◌>>=◌}
use Rattle.ss_command.proofs.GrammarLemmas.{meaning-comment, meaning-words}
use Rattle.ss_command.proofs.SayLemmas.{meant-sayable, sayable-in_time}
use Rattle.ss_command.proofs.TableLemmas.{some-from_test}
use Rattle.ss_command.proofs.grammar.parse.Goals as goal

pub returns-then-is_comment-clause-meaning : goal.returns-then-is_comment-clause-meaning
returns-then-is_comment-clause-meaning c =
    sym (meaning-comment c.args.line.now c.requires (sym c.is_comment.ensures ∙ c.if-is_comment.true))

pub returns-then-is_empty-clause-meaning : goal.returns-then-is_empty-clause-meaning
returns-then-is_empty-clause-meaning c =
    let none : length c.cut_first.result.0.now ≡ 0 = eqb-true _ _ (sym c.is_empty.ensures ∙ c.if-is_empty.true) in
    sym (meaning-words c.args.line.now [] c.requires (sym c.is_comment.ensures ∙ c.if-is_comment.false) (c.cut_first.ensures.none none))

pub returns-in-Ok-clause-meaning : goal.returns-in-Ok-clause-meaning
returns-in-Ok-clause-meaning c =
    let some : 0 < length c.cut_first.result.0.now = some-from_test _ (sym c.is_empty.ensures ∙ c.if-is_empty.false) in
    ap (λ read. read >>= (λ command. Ok (Some command))) (sym c.in-Ok.is ∙ c.command.ensures) ∙
    sym (meaning-words c.args.line.now _ c.requires (sym c.is_comment.ensures ∙ c.if-is_comment.false) (c.cut_first.ensures.words some))

pub returns-in-Err-clause-meaning : goal.returns-in-Err-clause-meaning
returns-in-Err-clause-meaning c =
    let some : 0 < length c.cut_first.result.0.now = some-from_test _ (sym c.is_empty.ensures ∙ c.if-is_empty.false) in
    ap (λ read. read >>= (λ command. Ok (Some command))) (sym c.in-Err.is ∙ c.command.ensures) ∙
    sym (meaning-words c.args.line.now _ c.requires (sym c.is_comment.ensures ∙ c.if-is_comment.false) (c.cut_first.ensures.words some))

pub returns-in-Ok-clause-sayable : goal.returns-in-Ok-clause-sayable
returns-in-Ok-clause-sayable c = meant-sayable c.args.line.now c.in-Ok.command (sym (returns-in-Ok-clause-meaning c))

pub returns-in-Ok-clause-time : goal.returns-in-Ok-clause-time
returns-in-Ok-clause-time c = sayable-in_time c.in-Ok.command (returns-in-Ok-clause-sayable c)
