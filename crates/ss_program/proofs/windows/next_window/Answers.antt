use Rattle.ss_program.proofs.Common.{◌≡◌, Err, rules, state, stream_numbered, part_numbered, reads-none, step-none}
use Rattle.ss_program.proofs.AnswerLemmas.{StoreIsIn-open}
use Rattle.ss_program.proofs.LeftRowLemmas.{held-kept, place-after, windows-ended, windows-fewer, windows-taken, windows-unread}
use Rattle.ss_program.proofs.StepLemmas.{step-given}
use Rattle.ss_program.proofs.windows.next_window.Goals as goal

pub returns-in_default-clause-takes : goal.returns-in_default-clause-takes
returns-in_default-clause-takes g c =
    let disk = g.D.Disk.seen c.args.disk.now in
    let store = c.args.store.now in
    let number = c.args.id.0 in
    step-none disk _ (λ told. record {
      row = λ history stands.
          let none = windows-ended (part_numbered number store.streams) (stream_numbered number (state history))
          (held-kept store disk.told.content history number (StoreIsIn-open disk store c.requires.open told) stands c.requires.stands.stands) in
          rw c.in_default.is (none, none);
      reads = reads-none disk.told;
    })

pub returns-in_err-window-clause-takes : goal.returns-in_err-window-clause-takes
returns-in_err-window-clause-takes g c =
    let disk = g.D.Disk.seen c.args.disk.now in
    let store = c.args.store.now in
    let number = c.args.id.0 in
    let status = c.in_err-window.field-0.0 in
    let same : c.from_residual.result ≡ Err status = search rules in
    rw same
    (step-given c.in_err-window.ensures.reads (λ told reads. record {
      row = λ history stands. rw c.in-Some.is
          (windows-unread (part_numbered number store.streams) (stream_numbered number (state history)) c.in-Some.at c.requires.stands.stands
          (held-kept store disk.told.content history number (StoreIsIn-open disk store c.requires.open told) stands c.requires.stands.stands)
          (rw c.in-Some.is at c.requires.stands.at));
      reads = reads.reads;
    }))

pub returns-clause-takes : goal.returns-clause-takes
returns-clause-takes g c =
    let disk = g.D.Disk.seen c.args.disk.now in
    let store = c.args.store.now in
    let number = c.args.id.0 in
    let part = part_numbered number store.streams in
    let next = c.window_after.result in
    let streams = c.in_ok-window.ensures.streams in
    let place = place-after part c.in-Some.at next (rw c.in-Some.is at c.requires.stands.at) (rw streams at c.window_after.ensures.at)
    (rw streams at c.window_after.ensures.index) in
    step-given c.in_ok-window.ensures.reads (λ told reads. record {
      row = λ history stands. rw c.in-Some.is
          (windows-taken part (stream_numbered number (state history)) c.in-Some.at next c.in_ok-window.window c.requires.stands.stands
          (held-kept store disk.told.content history number (StoreIsIn-open disk store c.requires.open told) stands c.requires.stands.stands)
          (reads.answer history stands) place);
      reads = reads.reads;
    })

pub returns-clause-goes_on : goal.returns-clause-goes_on
returns-clause-goes_on g c =
    let part = part_numbered c.args.id.0 c.args.store.now.streams in
    let next = c.window_after.result in
    let streams = c.in_ok-window.ensures.streams in
    let at = rw c.in-Some.is at c.requires.stands.at in
    record {
      stand = record { stands = c.requires.stands.stands; at = rw streams at c.window_after.ensures.stands };
      fewer = rw c.in-Some.is (windows-fewer part c.in-Some.at next c.requires.stands.stands at
          (place-after part c.in-Some.at next at (rw streams at c.window_after.ensures.at) (rw streams at c.window_after.ensures.index)));
    }
