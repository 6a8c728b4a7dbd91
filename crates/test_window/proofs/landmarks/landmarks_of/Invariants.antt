use Rattle.ss_landmarks.specs.Order.{AllEndBy}
use Rattle.test_window.proofs.landmarks.landmarks_of.Given as goal

abbrev pub invariant-loop-step : goal.invariant-loop-step
invariant-loop-step l = AllEndBy l.last l.landmarks.landmarks
