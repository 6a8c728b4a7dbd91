use Rattle.ss_connection.proofs.CallLemmas.{Called-made, goes-on}
use Rattle.ss_connection.proofs.HoldsLemmas.{Asks-held}
use Rattle.ss_program.proofs.Common.{refl, sym}
use Rattle.ss_program.proofs.StepLemmas.{step-given}
use Rattle.ss_connection.proofs.connection.Connection.ask.Goals as goal

pub returns-clause-called : goal.returns-clause-called
returns-clause-called g c =
    let result = c.ask-asked.result in
    let usable = rw (sym c.self.view_is) at c.requires in
    let fits = (usable c.in_default.is).piece.fits in
    let did = c.ask-asked.ensures in
    let old = g.D.Disk.seen c.args.disk.now in
    let new = g.D.Disk.seen c.ask-asked.new.disk in
    rw (sym c.self.view_is) (Called-made result c.in_default.is
    (step-given did.asks (λ told asks. Asks-held result (g.met.D.Disk.knows_now c.args.disk.now told) did.journal asks))
    did.status c.stop_of-self-inside.ensures (goes-on new _ result refl fits did.serves))
