use Rattle.ss_program.proofs.Common.{◌≡◌, ◌++◌, Err, take, take_all, refl, ◌∙◌, arith, rules, append-nil, step_under_way, step-as, step-none, step-then}
use Rattle.ss_program.proofs.Common.{GoesAmid, OfAmid, between, kept_so_far, steps_so_far}
use Rattle.ss_program.proofs.SendLemmas.{fits_more}
use Rattle.ss_program.proofs.InputLemmas.{OfAmid-more, OfAmid-stops}
use Rattle.ss_program.proofs.AmidLemmas.{GoesAmid-none}
use Rattle.ss_program.proofs.taking.take_lines.Goals as goal

pub loop-done-init : goal.loop-done-init
loop-done-init g c =
    let disk = g.D.Disk.seen c.args.disk.now in
    let line = step_under_way c.args.reader.now in
    let at = between c.args.talk.now (g.K.Sink.held c.args.sink.now) in
    record {
      fits = omega arith;
      ready = c.requires;
      on = step-none disk (λ old now. OfAmid c.args.reader.now.form line at old
          (λ sealing talk before input. (line ≡ kept_so_far talk.form (input ++ take 0 c.args.piece.now))
          × GoesAmid sealing talk (steps_so_far talk.form (input ++ take 0 c.args.piece.now)) before at old now))
          (λ told sealing talk before input form under is.
          rw append-nil
          (under, GoesAmid-none sealing talk (steps_so_far talk.form input) before at disk.told (g.met.D.Disk.knows_now c.args.disk.now told) is));
      form = refl;
      faults = refl;
    }

pub loop-done-preserved : goal.loop-done-preserved
loop-done-preserved g c =
    let piece = c.args.piece.now in
    let done = c.loop-done.done in
    let inv = c.loop-done.invariant in
    let count = c.in_ok-done.field-0 in
    record {
      fits = fits_more piece done count inv.fits c.in_ok-done.ensures.count.1;
      ready = c.in_ok-done.ensures.continues.ready;
      on = step-then inv.on c.in_ok-done.ensures.takes (λ first second.
          OfAmid-more c.args.reader.now.form c.loop-done.reader.form inv.form (step_under_way c.args.reader.now) (step_under_way c.loop-done.reader)
          (step_under_way c.advance.new.reader)
          (between c.args.talk.now (g.K.Sink.held c.args.sink.now))
          (between c.loop-done.talk (g.K.Sink.held c.loop-done.sink))
          (between c.advance.new.talk (g.K.Sink.held c.advance.new.sink))
          (g.D.Disk.seen c.args.disk.now).told (g.D.Disk.seen c.loop-done.disk).told (g.D.Disk.seen c.advance.new.disk).told piece done count first
          second.goes);
      form = c.in_ok-done.ensures.form ∙ inv.form;
      faults = c.in_ok-done.ensures.continues.counted ∙ inv.faults;
    }

pub returns-in_err-done-clause-takes : goal.returns-in_err-done-clause-takes
returns-in_err-done-clause-takes g c =
    let piece = c.args.piece.now in
    let done = c.loop-done.done in
    let inv = c.loop-done.invariant in
    let old = g.D.Disk.seen c.args.disk.now in
    let mid = g.D.Disk.seen c.loop-done.disk in
    let new = g.D.Disk.seen c.advance.new.disk in
    let line = step_under_way c.args.reader.now in
    let from = between c.args.talk.now (g.K.Sink.held c.args.sink.now) in
    let after = g.K.Sink.held c.advance.new.sink in
    let status = c.in_err-done.field-0.0 in
    let same : c.from_residual.result ≡ Err status = search rules in
    rw same
    (step-then inv.on c.in_err-done.ensures.takes (λ first second. record {
      goes = tt;
      stops = OfAmid-stops c.args.reader.now.form c.loop-done.reader.form inv.form line (step_under_way c.loop-done.reader) from
          (between c.loop-done.talk (g.K.Sink.held c.loop-done.sink))
          after status old.told mid.told new.told piece done first second.stops;
    }))

pub returns-clause-takes : goal.returns-clause-takes
returns-clause-takes g c =
    let piece = c.args.piece.now in
    let done = c.loop-done.done in
    let old = (g.D.Disk.seen c.args.disk.now).told in
    let mid = (g.D.Disk.seen c.loop-done.disk).told in
    let at = between c.loop-done.talk (g.K.Sink.held c.loop-done.sink) in
    step-as c.loop-done.invariant.on (λ on. record {
      goes = λ sealing talk before input form line is.
          rw (take_all done piece (omega (arith, c.loop-done-test.false))) at (on sealing talk before input form line is);
      stops = tt;
    })
