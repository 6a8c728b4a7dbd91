use Rattle.ss_program.proofs.Common.{◌≤◌, ◌∙◌, Err, rules, refl, arith, common_steps, step-as, step-none, ReadsPiece, SourceFault, length}
use Rattle.ss_program.proofs.ReadLemmas.{moved, moved_on, stop-other, unmoved}
use Rattle.ss_program.proofs.running.read_piece.Goals as goal

pub returns-in-Err-clause-reads : goal.returns-in-Err-clause-reads
returns-in-Err-clause-reads g c =
    let disk = g.D.Disk.seen c.args.disk.now in
    let held = g.K.Sink.held c.args.sink.now in
    step-none disk (ReadsPiece c.args.room c.args.session.now c.args.session.now (g.S.Source.left c.args.source.now) (g.S.Source.left c.read.new.self) held
    held (Err SourceFault))
    (λ told. record { goes = tt; stops = λ other. absurd (other refl) })

-- what the source told before and after, and how many bytes were taken
pub returns-in-Err-clause-feeds : goal.returns-in-Err-clause-feeds
returns-in-Err-clause-feeds g c =
    let same = unmoved (g.S.Source.left c.args.source.now) (g.S.Source.left c.read.new.self) c.in-Err.field-0 c.read.new.into c.in-Err.ensures.moves in
    record {
      counted = c.in-Err.ensures.cause;
      fault = λ _. (same, (refl, refl, refl));
      count = tt;
      few = omega (arith, c.in-Err.ensures.takes);
      moves = tt;
      stopped = λ left is. record { count = 0; few = omega arith; within = omega arith; others = same ∙ is };
    }

pub returns-in-Ok-take-clause-reads : goal.returns-in-Ok-take-clause-reads
returns-in-Ok-take-clause-reads g c =
    let old = (g.D.Disk.seen c.args.disk.now).told in
    let new = (g.D.Disk.seen c.take.new.disk).told in
    let count = c.in-Ok.count in
    step-as c.in-Ok-take.ensures.takes (λ takes. record {
      goes = λ bytes is sealing talk before input at replied.
          let move = moved (g.S.Source.left c.args.source.now) (g.S.Source.left c.read.new.self) count c.read.new.into bytes c.in-Ok.ensures.moves is in
          rw move.1 at (takes.goes sealing talk before input at replied);
      stops = tt;
    })

pub returns-in-Ok-take-clause-feeds : goal.returns-in-Ok-take-clause-feeds
returns-in-Ok-take-clause-feeds g c =
    let count = c.in-Ok.count in
    let small : count ≤ c.args.room = first_of (search rules, grind (arith, common_steps)) in
    let held : count ≤ length c.args.buffer.now = first_of (search rules, grind (arith, common_steps)) in
    record {
      counted = c.in-Ok.ensures.cause;
      fault = λ is. absurd (cc);
      count = (small, held, c.in-Ok.ensures.takes);
      few = omega (arith, small, c.in-Ok.ensures.takes);
      moves = λ bytes is. moved_on (g.S.Source.left c.args.source.now) (g.S.Source.left c.read.new.self) count c.read.new.into bytes c.in-Ok.ensures.moves is;
      stopped = tt;
    }

pub returns-in-Err-take-clause-reads : goal.returns-in-Err-take-clause-reads
returns-in-Err-take-clause-reads g c =
    let old = (g.D.Disk.seen c.args.disk.now).told in
    let new = (g.D.Disk.seen c.take.new.disk).told in
    let count = c.in-Ok.count in
    let status = c.in-Err-take.status in
    step-as c.in-Err-take.ensures.takes (λ takes. record {
      goes = tt;
      stops = λ _ bytes is sealing talk before input at replied.
          let move = moved (g.S.Source.left c.args.source.now) (g.S.Source.left c.read.new.self) count c.read.new.into bytes c.in-Ok.ensures.moves is in
          let small : count ≤ c.args.room = first_of (search rules, grind (arith, common_steps)) in (
            count,
            small,
            move.0,
            move.2,
            rw move.1 at (takes.stops sealing talk before input at replied),
          );
    })

pub returns-in-Err-take-clause-feeds : goal.returns-in-Err-take-clause-feeds
returns-in-Err-take-clause-feeds g c =
    let tells = (g.D.Disk.seen c.args.disk.now).tells in
    let count = c.in-Ok.count in
    let small : count ≤ c.args.room = first_of (search rules, grind (arith, common_steps)) in
    record {
      counted = first_of (search rules, grind (arith, common_steps));
      fault = λ is. absurd ((stop-other tells c.in-Err-take.status c.in-Err-take.ensures.status).2 is);
      count = tt;
      few = omega (arith, small, c.in-Ok.ensures.takes);
      moves = tt;
      stopped = λ left is.
          let move = moved (g.S.Source.left c.args.source.now) (g.S.Source.left c.read.new.self) count c.read.new.into left c.in-Ok.ensures.moves is in
          record { count = count; few = small; within = move.0; others = move.2 };
    }

pub take-requires : goal.take-requires
take-requires g c = c.requires.rests.is_open
