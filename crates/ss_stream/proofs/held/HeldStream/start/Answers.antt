use Rattle.ss_stream.proofs.held.HeldStream.start.Goals as goal
use Rattle.ss_stream.proofs.Rising.{BeginsAt-first, BeginsAt-sought, BeginsNear-first, BeginsNear-sought}

pub returns-in-Some-clause-begins : goal.returns-in-Some-clause-begins
returns-in-Some-clause-begins c =
    BeginsAt-sought c.args.self.now.part c.args.self.now.index.times c.args.from c.in-Some.at c.requires.timed c.requires.times
    (rw c.in-Some.is at c.seek.ensures)

pub returns-in-Some-clause-near : goal.returns-in-Some-clause-near
returns-in-Some-clause-near c =
    BeginsNear-sought c.args.self.now.part.line.entries c.args.self.now.index.times c.args.from c.in-Some.at c.requires.timed
    (rw c.in-Some.is at c.seek.ensures)

pub returns-in-None-clause-begins : goal.returns-in-None-clause-begins
returns-in-None-clause-begins c = BeginsAt-first c.args.self.now.part.line.entries c.args.from c.first.result c.first.ensures.value

pub returns-in-None-clause-near : goal.returns-in-None-clause-near
returns-in-None-clause-near c =
    BeginsNear-first c.args.self.now.part.line.entries c.args.self.now.index.times c.args.from c.first.result c.first.ensures.value c.requires.timed
    (rw c.in-None.is at c.seek.ensures)
