use Rattle.ss_stream.proofs.Common.{on_ok_weaker}
use Rattle.ss_stream.proofs.indexing.push_window.Goals as goal
use Rattle.ss_stream.proofs.Rising.{IsTimed-next, begin-next}

pub push_window-requires-clause-later : goal.push_window-requires-clause-later
push_window-requires-clause-later g c =
    begin-next c.args.line.now.entries c.args.at c.get-t.result c.args.index.now.times c.requires.rise.0 c.get-t.ensures.entry c.requires.timed
    c.requires.rise.1

pub returns-clause-timed : goal.returns-clause-timed
returns-clause-timed g c =
    on_ok_weaker c.push_window.result
    (IsTimed-next c.args.line.now.entries c.args.at c.get-t.result c.args.index.now.times c.push_window.new.self.times c.get-t.ensures.entry c.requires.timed)
    c.push_window.ensures.noted
