use Rattle.ss_program.proofs.Common.{◌≡◌, ◌∙◌, ℕ, Err, List, Option, length, sym, ap, rules, arith, Command, step-as, step-none}
use Rattle.ss_program.proofs.Common.{NothingPending, StandsShort, History}
use Rattle.ss_program.proofs.GenerateLemmas.{IsAt, IsAt-end, IsAt-more, IsAt-start, IsAt-stop, IsAt-unsealed, single-commands}
use Rattle.ss_program.proofs.StepLemmas.{step-third, step-told}
use Rattle.ss_program.proofs.generate.run_all.Goals as goal

pub loop-command-init : goal.loop-command-init
loop-command-init g c =
    let lines : c.new-tally.result.lines ≡ 0 = c.new-tally.ensures.lines in
    let done : c.new-tally.result.done ≡ 0 = c.new-tally.ensures.done in
    let refused : c.new-tally.result.refused ≡ 0 = c.new-tally.ensures.refused in
    let disk = g.D.Disk.seen c.args.disk.now in
    record {
      single = rw c.new-generator.ensures.commands (single-commands c.args.seed c.args.count);
      lines = omega (arith, lines, c.new-generator.ensures.bound);
      done = omega (arith, lines, done);
      refused = omega (arith, lines, refused);
      is_open = c.requires.open;
      at = step-none disk (λ old now. NothingPending old → (used : Option ℕ) (history : History) → StandsShort used history old.content →
          IsAt used history c.args.seed c.args.count c.new-generator.result c.args.store.now.records old now c.new-tally.result)
          (λ told none used history stands.
          IsAt-start used history c.args.seed c.args.count c.new-generator.result c.args.store.now.records disk.told c.new-tally.result
          c.new-generator.ensures.commands (g.met.D.Disk.knows_now c.args.disk.now told) none c.requires.open.sealed stands c.new-tally.ensures);
    }

pub loop-command-preserved : goal.loop-command-preserved
loop-command-preserved g c =
    let next = c.in-Some.ensures.next in
    let fewer = ap (λ (cs : List Command). length cs) next in
    let inv = c.loop-command.invariant in
    let stages = c.in_ok-reply.ensures.stages in
    let seals = c.in-Ok.ensures.seals in
    record {
      single = (rw next at inv.single).1;
      lines = omega (arith, c.take.ensures.lines, inv.lines, fewer);
      done = c.take.ensures.done;
      refused = c.take.ensures.refused;
      is_open = record {
        serves = record { runs = c.in-Ok.ensures.runs; kept = λ told. (seals.told (sym seals.tells ∙ told)).kept };
        sealed = c.in-Ok.ensures.sealed.sealed;
      };
      at = step-third inv.at stages seals (λ told at staged sealed none used history stands.
          IsAt-more c.in-Some.command (at none used history stands) next c.in-Some.ensures.sayable c.in_ok-reply.reply
          (g.met.D.Disk.knows_now c.stage_command.new.disk told) staged
          (g.met.D.Disk.knows_now c.seal.new.disk
          (seals.tells ∙ told)) c.in-Ok.field-0 c.take.new.self sealed.history c.in-Ok.ensures.sealed.sealed c.take.ensures.tallies);
    }

pub returns-in_err-reply-clause-runs : goal.returns-in_err-reply-clause-runs
returns-in_err-reply-clause-runs g c =
    let status = c.in_err-reply.field-0.0 in
    let same : c.from_residual.result ≡ Err status = search rules in
    let stages = c.in_err-reply.ensures.stages in
    rw same (step-told c.loop-command.invariant.at stages (λ told at staged. record {
      ok = tt;
      stops = λ none used history stands. IsAt-stop c.in-Some.command (at none used history stands) c.in-Some.ensures.next c.in-Some.ensures.sayable
          status (g.met.D.Disk.knows_now c.stage_command.new.disk (stages.tells ∙ told)) staged;
    }))

pub returns-in-Err-clause-runs : goal.returns-in-Err-clause-runs
returns-in-Err-clause-runs g c =
    let seals = c.in-Err.ensures.seals in
    step-third c.loop-command.invariant.at c.in_ok-reply.ensures.stages seals (λ told at staged sealed. record {
      ok = tt;
      stops = λ none used history stands.
          IsAt-unsealed c.in-Some.command (at none used history stands) c.in-Some.ensures.next c.in-Some.ensures.sayable
          c.in_ok-reply.reply (g.met.D.Disk.knows_now c.stage_command.new.disk told) staged
          (g.met.D.Disk.knows_now c.seal.new.disk (seals.tells ∙ told)) c.in-Err.field-0 sealed.history;
    })

pub returns-clause-runs : goal.returns-clause-runs
returns-clause-runs g c =
    let old = (g.D.Disk.seen c.args.disk.now).told in
    let new = (g.D.Disk.seen c.loop-command.disk).told in
    step-as c.loop-command.invariant.at (λ at. record {
      ok = λ none used history stands. IsAt-end used history c.args.seed c.args.count c.loop-command.generator c.loop-command.store.records old new
          c.loop-command.tally (at none used history stands) c.loop-command.invariant.is_open.sealed c.in_default.ensures.next.0;
      stops = tt;
    })
