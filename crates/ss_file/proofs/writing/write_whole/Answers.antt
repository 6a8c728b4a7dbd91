use Rattle.std.proofs.Common.{◌≡◌, ℕ, ◌+◌, List, length, take, subst, rules, arith}
use Rattle.std.proofs.lemmas.List.{length-take-le}
use Rattle.ss_file.proofs.BufferLemmas.{take-written}
use Rattle.ss_file.proofs.writing.write_whole.Goals as goal

pub loop-done-preserved-in-Ok : goal.loop-done-preserved-in-Ok
loop-done-preserved-in-Ok g c =
    let bytes : List ℕ = c.args.bytes.now in
    let done : ℕ = c.loop-done.done in
    let P : List ℕ → Type 0 = λ written. g.S.System.has_written c.write.new.self c.args.at written in
    record {
      within = search rules;
      counts = search rules;
      keeps = search rules;
      writes = λ bound.
          let long : length (take done bytes) ≡ done = length-take-le done bytes c.loop-done.invariant.within in
          let place : c.saturating_add.result ≡ c.args.at + length (take done bytes) =
          omega (arith, c.saturating_add.ensures, long, bound, c.loop-done.invariant.within) in
          subst P (take-written bytes done c.in-Ok.count)
          (c.in-Ok.ensures.writes c.args.at (take done bytes) place (c.loop-done.invariant.writes bound));
    }
