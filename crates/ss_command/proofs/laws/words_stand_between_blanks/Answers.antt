use Rattle.ss_command.proofs.WordLemmas.{words-blank, words-nil, words-one}
use Rattle.ss_command.proofs.laws.words_stand_between_blanks.Goals as goal

pub returns : goal.returns
returns c = record { blank = words-blank; one = words-one; none = words-nil }
