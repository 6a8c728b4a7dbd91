use Rattle.ss_program.proofs.Common.{Ok, ap, sym, ◌∙◌, option_copied, step_under_way, step-as, step-none, TakesLast, between, kept_step, steps_so_far}
use Rattle.ss_program.proofs.AmidLemmas.{GoesAmid-none}
use Rattle.ss_program.proofs.InputLemmas.{Takes-kept, TakesLast-line, last-told}
use Rattle.ss_program.proofs.taking.take_last.Goals as goal

pub returns-in-None-clause-takes : goal.returns-in-None-clause-takes
returns-in-None-clause-takes g c =
    let view = g.D.Disk.seen c.args.disk.now in
    let at = between c.args.talk.now (g.K.Sink.held c.args.sink.now) in
    step-none view (TakesLast c.args.reader.now.form (step_under_way c.args.reader.now) at at (Ok tt)) (λ told. record {
      goes = λ sealing talk before input form line is.
          let read = rw (← form) at line in
          let same = rw form at (c.in-None.ensures.steps input read) in
          rw same (GoesAmid-none sealing talk (steps_so_far talk.form input) before at view.told (g.met.D.Disk.knows_now c.args.disk.now told) is);
      stops = tt;
    })

pub returns-in-Some-clause-takes : goal.returns-in-Some-clause-takes
returns-in-Some-clause-takes g c =
    let o = option_copied c.line_of.result in
    step-as c.stage_line.ensures.takes (λ takes. TakesLast-line c.args.reader.now.form (step_under_way c.args.reader.now) c.stage_line.result
    (λ sealing talk before input form line.
    let read = rw (← form) at line in
    let shape = c.form.ensures ∙ c.in-Some.ensures.form in
    let told = last-told input c.in-Some.ended c.finish.new.self form c.in-Some.ensures.form (c.in-Some.ensures.steps input read) in (
      told.0,
      told.1,
      Takes-kept c.form.result o told.0 takes (c.line_of.ensures ∙ told.2 ∙ ap (λ f. kept_step f told.0) (sym shape)) sealing talk
          (steps_so_far talk.form input)
          before (shape ∙ form),
    )))
