use Rattle.ss_command.specs.LineState.{under_way as line_under_way}
use Rattle.ss_program.proofs.StepsLemmas.{line-short, piece-short}
use Rattle.ss_program.proofs.step_reader.StepReader.finish.Goals.{in-Lines, in-Pieces}
use Rattle.ss_program.proofs.step_reader.StepReader.finish.Goals as goal

pub returns-clause-short : goal.returns-clause-short
returns-clause-short c = elim c.match-self.branch [
  | in-Lines w ↦ rw (w.result-is, w.self-inside-is) (line-short w.finish.result _ (line_under_way w.in-Lines.lines) w.finish.ensures.line)
  | in-Pieces w ↦ rw (w.result-is, w.self-inside-is) (piece-short w.ended_piece.result _ w.finish-ended.ensures.short)
]
