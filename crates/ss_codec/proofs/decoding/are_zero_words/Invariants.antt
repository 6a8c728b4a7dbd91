use Rattle.std.proofs.Common.{◌≡◌, ◌-◌, ◌*◌, ◌==◌, drop, take}
use Rattle.std.specs.List.{list_all}
use Rattle.ss_codec.proofs.decoding.are_zero_words.Given as goal

abbrev pub invariant-loop-word : goal.invariant-loop-word
invariant-loop-word l = record {
  rest : list_all (λ byte. byte == 0) (take (8 * (l.to - l.from)) (drop (8 * l.from) l.bytes))
      ≡ list_all (λ byte. byte == 0) (take (8 * (l.to - l.word)) (drop (8 * l.word) l.bytes));
}
