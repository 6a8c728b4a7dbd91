use Rattle.ss_program.proofs.Common.{length, refl, sym, generated_lines, replies, SinkFault}
use Rattle.ss_program.proofs.AnswerLemmas.{IsStop-apply}
use Rattle.ss_program.proofs.EndLemmas.{unfed-stop}
use Rattle.ss_program.proofs.GenerateLemmas.{Generates-done, Generates-stop}
use Rattle.ss_program.proofs.ReadLemmas.{stop-other}
use Rattle.ss_program.proofs.SendLemmas.{appended-nil}
use Rattle.ss_program.proofs.StepLemmas.{step-so}
use Rattle.ss_program.proofs.TakesLemmas.{apply-counted}
use Rattle.ss_program.proofs.generate.summarize.Goals as goal

pub returns-in-Ok-send_summary-clause-generates : goal.returns-in-Ok-send_summary-clause-generates
returns-in-Ok-send_summary-clause-generates g c =
    let old = (g.D.Disk.seen c.args.disk.now).told in
    let new = (g.D.Disk.seen c.run_all.new.disk).told in
    let ls = generated_lines c.args.seed c.args.count in
    step-so c.in-Ok.ensures.runs (λ tells runs none used history stands.
    let ran = runs.ok none used history stands in
    Generates-done used history c.args.seed c.args.count (g.K.Sink.held c.args.sink.now) (g.K.Sink.held c.send_summary.new.sink) old new c.in-Ok.tally
    (g.met.D.Disk.knows_now c.run_all.new.disk tells) ran (c.in-Ok-send_summary.ensures.sends (length ls) (replies history ls) ran.tallied))

pub returns-in-Err-send_summary-clause-generates : goal.returns-in-Err-send_summary-clause-generates
returns-in-Err-send_summary-clause-generates g c =
    let old = (g.D.Disk.seen c.args.disk.now).told in
    let new = (g.D.Disk.seen c.run_all.new.disk).told in
    let ls = generated_lines c.args.seed c.args.count in
    step-so c.in-Ok.ensures.runs (λ tells runs none used history stands.
    let ran = runs.ok none used history stands in
    let less = c.in-Err-send_summary.ensures.sends (length ls) (replies history ls) ran.tallied in
    Generates-stop used history c.args.seed c.args.count (g.K.Sink.held c.args.sink.now) (g.K.Sink.held c.send_summary.new.sink) old new SinkFault
    (λ w. cc) (λ other. absurd (other refl)) (g.met.D.Disk.knows_now c.run_all.new.disk tells) (less.0, less.2) ran.any_moment)

pub returns-in-Err-clause-generates : goal.returns-in-Err-clause-generates
returns-in-Err-clause-generates g c =
    let view = g.D.Disk.seen c.args.disk.now in
    let new = (g.D.Disk.seen c.run_all.new.disk).told in
    let status = c.in-Err.status in
    let held = g.K.Sink.held c.args.sink.now in
    let other = stop-other view.tells status (IsStop-apply view.tells status c.in-Err.ensures.status) in
    step-so c.in-Err.ensures.runs (λ tells runs none used history stands.
    Generates-stop used history c.args.seed c.args.count held held view.told new status other.0 (λ _. refl) (g.met.D.Disk.knows_now c.run_all.new.disk tells)
    (0, sym (appended-nil held)) (runs.stops none used history stands))

pub returns-in-Err-clause-counted : goal.returns-in-Err-clause-counted
returns-in-Err-clause-counted g c = apply-counted (g.D.Disk.seen c.args.disk.now).tells (g.K.Sink.faults c.args.sink.now) c.in-Err.status
    c.in-Err.ensures.status

pub returns-in-Err-clause-unfed : goal.returns-in-Err-clause-unfed
returns-in-Err-clause-unfed g c = unfed-stop (g.D.Disk.seen c.args.disk.now).tells (g.K.Sink.held c.args.sink.now) c.in-Err.status c.in-Err.ensures.status
