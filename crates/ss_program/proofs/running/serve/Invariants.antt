use Rattle.ss_program.proofs.Common.{◌≡◌, ◌-◌, ◌≤◌, List, ℕ, Some, RoseBy, Step, fine, IsAtRest, sealing_by, LONGEST_INPUT}
use Rattle.ss_program.proofs.RunLemmas.{GoesThrough}
use Rattle.ss_program.proofs.ReadLemmas.{IsLeft}
use Rattle.ss_program.proofs.running.serve.Given as goal

-- so many bytes were read, and the lines that end in them are answered
abbrev pub invariant-loop-done : goal.invariant-loop-done
invariant-loop-done g l = record {
  fits : l.done ≤ LONGEST_INPUT;
  rests : IsAtRest (g.D.Disk.seen l.disk) l.session;
  left : (input : List ℕ) → g.S.Source.left l.fn.source ≡ Some input → IsLeft (g.S.Source.left l.source) input l.done;
  through : Step fine (g.D.Disk.seen l.fn.disk) (g.D.Disk.seen l.disk) (GoesThrough l.fn.session.form (sealing_by l.fn.session.waiting)
      (g.S.Source.left l.fn.source) l.session (g.K.Sink.held l.fn.sink) (g.K.Sink.held l.sink) (g.S.Source.left l.source) l.done);
  taken : RoseBy l.done (g.S.Source.taken l.fn.source) (g.S.Source.taken l.source);
  source : g.S.Source.faults l.source ≡ g.S.Source.faults l.fn.source;
  sink : g.K.Sink.faults l.sink ≡ g.K.Sink.faults l.fn.sink;
}

abbrev pub decreases-loop-done : goal.decreases-loop-done
decreases-loop-done g l = LONGEST_INPUT - l.done
