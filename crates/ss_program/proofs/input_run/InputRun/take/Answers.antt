use Rattle.ss_program.proofs.AmidLemmas.{IsAtRest-ok}
use Rattle.ss_program.proofs.input_run.InputRun.take.Goals as goal

pub returns-clause-takes : goal.returns-clause-takes
returns-clause-takes g c = rw (← c.self.view_is) c.take_piece.ensures.takes

pub returns-clause-rests : goal.returns-clause-rests
returns-clause-rests g c =
    IsAtRest-ok c.take_piece.result (g.D.Disk.seen c.take_piece.new.disk) _ c.take_piece.ensures.continues.ready c.take_piece.ensures.none
