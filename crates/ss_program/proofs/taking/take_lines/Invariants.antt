use Rattle.ss_program.proofs.Common.{◌≡◌, ◌-◌, ◌≤◌, ◌++◌, length, take, step_under_way, Step, fine, GoesAmid, IsReadyToServe, OfAmid, between}
use Rattle.ss_program.proofs.Common.{kept_so_far}
use Rattle.ss_program.proofs.Common.{steps_so_far}
use Rattle.ss_program.proofs.taking.take_lines.Given as goal

-- so many bytes of the piece were taken
abbrev pub invariant-loop-done : goal.invariant-loop-done
invariant-loop-done g l = record {
  fits : l.done ≤ length l.piece;
  ready : IsReadyToServe (g.D.Disk.seen l.disk) l.talk;
  on : Step fine (g.D.Disk.seen l.fn.disk) (g.D.Disk.seen l.disk) (λ old now.
      OfAmid l.fn.reader.form (step_under_way l.fn.reader)
      (between l.fn.talk (g.K.Sink.held l.fn.sink)) old (λ sealing talk before input.
      (step_under_way l.reader ≡ kept_so_far talk.form (input ++ take l.done l.piece))
      × GoesAmid sealing talk (steps_so_far talk.form (input ++ take l.done l.piece)) before
      (between l.talk (g.K.Sink.held l.sink)) old now));
  form : l.reader.form ≡ l.fn.reader.form;
  faults : g.K.Sink.faults l.sink ≡ g.K.Sink.faults l.fn.sink;
}

abbrev pub decreases-loop-done : goal.decreases-loop-done
decreases-loop-done g l = length l.piece - l.done
