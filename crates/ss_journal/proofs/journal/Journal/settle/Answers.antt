use Rattle.ss_journal.proofs.Common.{Settled, JournalState}
use Rattle.ss_journal.proofs.KeptLemmas.{born_formed, settles-born, settles-formed, settles-unborn, unborn-shown}
use Rattle.ss_journal.proofs.ShownLemmas.{IsShown-sealed}
use Rattle.ss_journal.proofs.StepLemmas.{step-failed, step-from}
use Rattle.ss_journal.proofs.journal.Journal.settle.Goals.{in-Unborn+in_ok-give_birth-in-Unborn, in-Born+in_ok-settle_formed-in-Born}
use Rattle.ss_journal.proofs.journal.Journal.settle.Goals as goal

pub returns-in_err-give_birth-in-Unborn-clause-settles : goal.returns-in_err-give_birth-in-Unborn-clause-settles
returns-in_err-give_birth-in-Unborn-clause-settles g c =
    let failed = c.from_residual in
    let content = (g.D.Disk.seen c.args.disk.now).told.content in
    let sealed = rw (← c.self.view_is) at c.requires.sealed in
    step-failed failed.result failed.ensures.0 c.in_err-give_birth-in-Unborn.ensures (λ told birth.
    let kept = rw (← c.self.view_is) at (c.requires.one_disk told) in
    let is = IsShown-sealed _ content sealed kept in
    settles-unborn _ _ _ is c.self.inside.waiting c.self.inside.staged (unborn-shown _ content c.in-Unborn.is is) _ failed.result failed.ensures.0 birth)

pub returns-clause-settles : goal.returns-clause-settles
returns-clause-settles g c =
    let content = (g.D.Disk.seen c.args.disk.now).told.content in
    let staged = c.self.inside.staged in
    let sealed = rw (← c.self.view_is) at c.requires.sealed in
    let settled : JournalState = record {
      phase = Settled;
      extent = c.self.inside.extent;
      in_use = 0;
      waiting = c.clear.new.self;
      sealed = 0;
      staged = staged;
      kind = c.self.inside.kind;
    } in
    elim c.match-phase.branch [
      | in-Unborn+in_ok-give_birth-in-Unborn w ↦ rw w.disk-is (step-from w.in_ok-give_birth-in-Unborn.ensures (λ told birth.
          let kept = rw (← c.self.view_is) at (c.requires.one_disk told) in
          let is = IsShown-sealed _ content sealed kept in
          settles-born _ _ _ is c.clear.new.self staged (unborn-shown _ content w.in-Unborn.is is) _ _ c.clear.ensures sealed birth))
      | in-Born+in_ok-settle_formed-in-Born w ↦ rw w.disk-is (step-from w.in_ok-settle_formed-in-Born.ensures.clears (λ told clears.
          let kept = rw (← c.self.view_is) at (c.requires.one_disk told) in
          let is = IsShown-sealed _ content sealed kept in
          settles-formed _ _ _ is c.clear.new.self staged _ _ c.clear.ensures sealed
          (born_formed c.self.inside.phase c.self.inside.in_use content w.in-Born.is is.phase) clears))
    ]
