use Rattle.ss_connection.proofs.RowLemmas.{fills-more}
use Rattle.ss_connection.specs.declared.text.TheConstants.{LONGEST_REPLY, MOST_SAID}
use Rattle.ss_program.proofs.Common.{◌≡◌, ◌∙◌, false, true, ◌+◌, ◌≤◌, arith, length, state, reads-joined, step-then}
use Rattle.ss_program.specs.Rows.{rows_left}
use Rattle.ss_connection.proofs.connection.showing.fill.Goals as goal

pub loop-rows-preserved : goal.loop-rows-preserved
loop-rows-preserved g c =
    let old = g.D.Disk.seen c.args.disk.now in
    let mid = g.D.Disk.seen c.loop-rows.disk in
    let new = g.D.Disk.seen c.next.new.disk in
    let inv = c.loop-rows.invariant in
    let taken = c.in_ok-row.ensures in
    record {
      fits = c.add.ensures.fits;
      is_open = taken.open;
      stand = rw taken.streams taken.goes_on.stand;
      streams = taken.streams ∙ inv.streams;
      reads = step-then inv.reads taken.takes (λ first second. reads-joined old.told mid.told new.told first second.reads);
      says = λ told history stands.
          let parts = c.args.store.now.streams in
          let row = (taken.takes.told (inv.reads.tells ∙ told)).row history (rw (inv.reads.told told).same.content stands) in
          rw c.add.ensures.text (fills-more _ c.loop-rows.text (rows_left c.loop-rows.rows parts (state history)) (rows_left c.next.new.self parts (state history)) c.in-Some.row
          (rw inv.streams at (rw c.in-Some.is at row)) (inv.says told history stands));
    }

pub returns-clause-filled : goal.returns-clause-filled
returns-clause-filled g c =
    let inv = c.loop-rows.invariant in
    let none : (length c.loop-rows.text + LONGEST_REPLY ≤ MOST_SAID) → ⊥ = λ room.
    let wrong : false ≡ true = c.loop-rows-test.ensures.1 room in cc in
    record {
      stand = rw inv.streams at inv.stand;
      piece = record { fits = inv.fits; full = omega (arith, none) };
    }
