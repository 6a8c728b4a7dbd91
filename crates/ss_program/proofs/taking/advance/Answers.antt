use Rattle.ss_program.proofs.Common.{◌≡◌, ◌++◌, Ok, Err, take, ap, sym, ◌∙◌, rules, option_copied, step_under_way, step-as, step-none}
use Rattle.ss_program.proofs.Common.{TakesBytes, between, kept_step, steps_so_far}
use Rattle.ss_program.proofs.AmidLemmas.{GoesAmid-none}
use Rattle.ss_program.proofs.InputLemmas.{Stops-piece, Takes-kept, advance-told}
use Rattle.ss_program.proofs.taking.advance.Goals as goal

pub returns-in-None-clause-takes : goal.returns-in-None-clause-takes
returns-in-None-clause-takes g c =
    let view = g.D.Disk.seen c.args.disk.now in
    let piece = c.args.piece.now in
    let at = between c.args.talk.now (g.K.Sink.held c.args.sink.now) in
    step-none view (TakesBytes (λ count. take count piece) piece c.args.reader.now.form (step_under_way c.args.reader.now)
    (step_under_way c.feed-count.new.self) at at
    (Ok c.feed-count.result.0)) (λ told. record {
      goes = λ sealing talk before input form line is.
          let more = input ++ take c.feed-count.result.0 piece in
          let read = rw (← form) at line in
          let same = rw (c.in-None.is, form) at (c.feed-count.ensures.steps input read) in (
            rw (c.feed-count.ensures.form ∙ form) at (c.feed-count.ensures.taken input read),
            rw same (GoesAmid-none sealing talk (steps_so_far talk.form input) before at view.told (g.met.D.Disk.knows_now c.args.disk.now told) is),
          );
      stops = tt;
    })

pub returns-in_err-stage_line-in-Some-clause-takes : goal.returns-in_err-stage_line-in-Some-clause-takes
returns-in_err-stage_line-in-Some-clause-takes g c =
    let old = g.D.Disk.seen c.args.disk.now in
    let new = g.D.Disk.seen c.stage_line.new.disk in
    let piece = c.args.piece.now in
    let count = c.feed-count.result.0 in
    let o = option_copied c.line_of.result in
    let after = g.K.Sink.held c.stage_line.new.sink in
    let status = c.in_err-stage_line-in-Some.field-0.0 in
    let same : c.from_residual.result ≡ Err status = search rules in
    rw same
    (step-as c.in_err-stage_line-in-Some.ensures.takes (λ takes. record {
      goes = tt;
      stops = λ sealing talk before input form line is.
          let more = input ++ take count piece in
          let ls = steps_so_far talk.form input in
          let read = rw (← form) at line in
          let shape = c.form.ensures ∙ c.feed-count.ensures.form in
          let told = advance-told input more c.in-Some.ended c.feed-count.new.self form c.feed-count.ensures.form
          (rw c.in-Some.is at (c.feed-count.ensures.steps input read)) in
          Stops-piece sealing talk old.told new.told before after status input piece told.0 count told.1
          ((Takes-kept c.form.result o told.0 takes (c.line_of.ensures ∙ told.2 ∙ ap (λ f. kept_step f told.0) (sym shape)) sealing talk ls before
          (shape ∙ form)).stops is);
    }))

pub returns-in_ok-stage_line-in-Some-clause-takes : goal.returns-in_ok-stage_line-in-Some-clause-takes
returns-in_ok-stage_line-in-Some-clause-takes g c =
    let old = g.D.Disk.seen c.args.disk.now in
    let new = g.D.Disk.seen c.stage_line.new.disk in
    let piece = c.args.piece.now in
    let count = c.feed-count.result.0 in
    let o = option_copied c.line_of.result in
    step-as c.in_ok-stage_line-in-Some.ensures.takes (λ takes. record {
      goes = λ sealing talk before input form line is.
          let more = input ++ take count piece in
          let ls = steps_so_far talk.form input in
          let read = rw (← form) at line in
          let shape = c.form.ensures ∙ c.feed-count.ensures.form in
          let told = advance-told input more c.in-Some.ended c.feed-count.new.self form c.feed-count.ensures.form
          (rw c.in-Some.is at (c.feed-count.ensures.steps input read)) in (
            rw (c.feed-count.ensures.form ∙ form) at (c.feed-count.ensures.taken input read),
            rw told.1 ((Takes-kept c.form.result o told.0 takes (c.line_of.ensures ∙ told.2 ∙ ap (λ f. kept_step f told.0) (sym shape)) sealing talk ls before
                (shape ∙ form)).goes is),
          );
      stops = tt;
    })
