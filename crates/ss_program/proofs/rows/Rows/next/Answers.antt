use Rattle.ss_program.proofs.RowsLemmas.{TakesHeld-read}
use Rattle.ss_program.specs.declared.rows.Rows.TheVariants as left
use Rattle.ss_program.proofs.rows.Rows.next.Goals as goal

pub returns-in-Streams-clause-takes : goal.returns-in-Streams-clause-takes
returns-in-Streams-clause-takes g c =
    rw c.in-Streams.is (TakesHeld-read (g.D.Disk.seen c.args.disk.now) c.args.store.now c.requires.open (left.Streams c.in-Streams.next)
    (left.Streams c.next_stream.new.next) c.next_stream.result c.next_stream.ensures)

pub returns-in-Values-clause-takes : goal.returns-in-Values-clause-takes
returns-in-Values-clause-takes g c =
    rw c.in-Values.is (TakesHeld-read (g.D.Disk.seen c.args.disk.now) c.args.store.now c.requires.open (left.Values c.in-Values.range)
    (left.Values c.next_value.new.range) c.next_value.result c.next_value.ensures)

pub returns-in-Lines-clause-takes : goal.returns-in-Lines-clause-takes
returns-in-Lines-clause-takes g c =
    rw c.in-Lines.is (TakesHeld-read (g.D.Disk.seen c.args.disk.now) c.args.store.now c.requires.open (left.Lines c.in-Lines.lines c.in-Lines.next)
    (left.Lines c.in-Lines.lines c.next_line.new.next) c.next_line.result c.next_line.ensures.takes)
