use Rattle.ss_program.proofs.Common.{◌≡◌, ◌-◌, ◌≤◌, List, Some, drop, take, flat_map, Placed, cursor_of, with_cursor, placed_rows, said_line, appended}
use Rattle.ss_program.proofs.cursors.send_next.Given as goal

-- so many rows were sent, and the cursor goes on with the others
abbrev pub invariant-loop-shown : goal.invariant-loop-shown
invariant-loop-shown g l = record {
  few : l.shown ≤ l.count;
  cursors : (rows : List Placed) → cursor_of l.fn.sessions l.session ≡ Some rows →
      l.sessions ≡ with_cursor l.fn.sessions l.session (Some (drop l.shown rows));
  held : (rows : List Placed) → cursor_of l.fn.sessions l.session ≡ Some rows →
      g.K.Sink.held l.sink ≡ appended (g.K.Sink.held l.fn.sink)
      (flat_map (said_line (Some l.session)) (take l.shown (placed_rows (take l.count rows))));
  faults : g.K.Sink.faults l.sink ≡ g.K.Sink.faults l.fn.sink;
}

abbrev pub decreases-loop-shown : goal.decreases-loop-shown
decreases-loop-shown g l = l.count - l.shown
