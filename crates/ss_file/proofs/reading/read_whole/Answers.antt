use Rattle.std.proofs.Common.{◌≡◌, ◌∙◌, ◌+◌, ◌-◌, ◌≤◌, length, get_or, ap, rules, arith}
use borrow.Rule.Slice.PartMut.{put_mid, same_len_mid}
use Rattle.ss_file.proofs.BufferLemmas.{get_or-put_front, read_more}
use Rattle.ss_file.proofs.reading.read_whole.Goals as goal

pub loop-done-preserved-in-Ok : goal.loop-done-preserved-in-Ok
loop-done-preserved-in-Ok g c =
    let into = c.loop-done.into in
    let done = c.loop-done.done in
    let read = c.read.new.into in
    let rest = length into - done in
    let long : length (put_mid done rest into read) ≡ length into = same_len_mid done rest into read c.read.auto.into in
    record {
      within = search rules;
      counts = search rules;
      keeps = search rules;
      fits = search rules;
      reads = λ bound image fits k below.
          let few : c.in-Ok.count ≤ length read = omega (arith, c.read.auto.into, c.in-Ok.ensures.bound) in
          let place : c.saturating_add.result ≡ c.args.at + done =
          omega (arith, c.saturating_add.ensures, long, bound, c.loop-done.invariant.within) in
          let first = c.loop-done.invariant.reads (omega (arith, long, bound)) image (c.read.ensures.fits image fits) in
          read_more into read image c.args.at done c.in-Ok.count rest c.loop-done.invariant.within few first
          (λ j lt. c.in-Ok.ensures.reads image fits j lt ∙ ap (λ p. get_or image (p + j) 0) place) k (omega (arith, below));
    }

pub loop-done-preserved : goal.loop-done-preserved
loop-done-preserved g c =
    let into = c.loop-done.into in
    let done = c.loop-done.done in
    let read = c.read.new.into in
    let rest = length into - done in
    let long : length (put_mid done rest into read) ≡ length into = same_len_mid done rest into read c.read.auto.into in
    record {
      within = search rules;
      counts = search rules;
      keeps = search rules;
      fits = search rules;
      reads = λ bound image fits k below.
          get_or-put_front done rest k into read c.loop-done.invariant.within (omega (arith, below))
          ∙ c.loop-done.invariant.reads (omega (arith, long, bound)) image (c.read.ensures.fits image fits) k (omega (arith, below));
    }
