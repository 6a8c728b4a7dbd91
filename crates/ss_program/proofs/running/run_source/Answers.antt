use Rattle.ss_program.proofs.Common.{inr, refl, at_start, of_content, StandsShort, OutOfMemory}
use Rattle.ss_program.proofs.EndLemmas.{Ends-starved}
use Rattle.ss_program.proofs.OpeningLemmas.{Reads-none, Serves-unopened}
use Rattle.ss_program.proofs.ReadLemmas.{most_read-some}
use Rattle.ss_program.proofs.TakenLemmas.{Feeds-unfed}
use Rattle.ss_program.proofs.running.run_source.Goals as goal

pub serve_store-requires : goal.serve_store-requires
serve_store-requires g c = rw c.as_mut_slice.ensures.value (most_read-some c.args.sealing c.in-Ok.ensures)

-- memory ran out before a device was called
pub returns-in-Err-clause-ends : goal.returns-in-Err-clause-ends
returns-in-Err-clause-ends g c =
    Ends-starved (g.D.Disk.seen c.args.disk.now) (g.K.Sink.held c.args.sink.now) (g.K.Sink.faults c.args.sink.now)

pub returns-in-Err-clause-feeds : goal.returns-in-Err-clause-feeds
returns-in-Err-clause-feeds g c =
    Feeds-unfed (g.S.Source.faults c.args.source.now) (g.S.Source.taken c.args.source.now) (g.K.Sink.held c.args.sink.now)
    (g.K.Sink.held c.args.sink.now) OutOfMemory refl refl

pub returns-in-Err-clause-reads : goal.returns-in-Err-clause-reads
returns-in-Err-clause-reads g c input is = Reads-none input (g.S.Source.left c.args.source.now) is

pub returns-in-Err-clause-serves : goal.returns-in-Err-clause-serves
returns-in-Err-clause-serves g c input is told none used history stands =
    let disk = (g.D.Disk.seen c.args.disk.now).told in
    let knows = g.met.D.Disk.knows_now c.args.disk.now told in
    Serves-unopened (inr refl) is refl knows (at_start disk (StandsShort used history) knows (of_content disk (StandsShort used history) none stands))
