use Rattle.std.proofs.Common.{vec_len}
use Rattle.test_window.proofs.schedule.close.Given as goal

abbrev pub decreases-loop-k : goal.decreases-loop-k
decreases-loop-k l = vec_len l.windows
