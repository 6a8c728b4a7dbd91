use Rattle.std.proofs.Common.{arith, ◌≡◌, ◌≤◌, ap, false, length, true, take, ◌∙◌}
use Rattle.std.specs.Prelude.{string_bytes}
use Rattle.ss_arguments.specs.Modes.{words_of}
use Rattle.summarystore.proofs.PlanLemmas.{with_word-few, with_word-put, with_word-there}
use Rattle.summarystore.proofs.options.put_word.Goals as goal
use Rattle.summarystore.proofs.options.put_word.Goals.{then-len-lt2-via-then-len-lt2, then-len-lt2-via-else-len-lt2+then-is_last}
use Rattle.summarystore.specs.Plan.{is_last}

pub returns-then-len-lt2 : goal.returns-then-len-lt2
returns-then-len-lt2 c = elim c.then-len-lt2.branch [
  | then-len-lt2-via-then-len-lt2 w ↦ with_word-few c.args.place c.args.word.now c.args.words.now.items (omega arith)
  | then-len-lt2-via-else-len-lt2+then-is_last w ↦
      let there : is_last c.args.word.now (words_of (take c.args.place c.args.words.now.items)) ≡ true = cc in
      with_word-there c.args.place c.args.word.now c.args.words.now.items there
]

pub returns : goal.returns
returns c =
    let enough : 2 ≤ length c.args.words.now.items = omega arith in
    let absent : is_last c.args.word.now (words_of (take c.args.place c.args.words.now.items)) ≡ false = cc in
    let spells : string_bytes c.in_ok-text.text ≡ c.args.word.now = c.in_ok-text.ensures.ok in
    ap (λ items. words_of items) c.in_ok-insert.ensures.items
    ∙ with_word-put c.args.place c.args.word.now c.args.words.now.items c.in_ok-text.text enough absent spells
