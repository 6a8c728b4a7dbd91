use Rattle.ss_program.proofs.Common.{◌-◌, ◌+◌, take, drop, refl, ◌∙◌, arith, inl, inr, step-as, step-none, step-then, RoseBy}
use Rattle.ss_program.proofs.Common.{sealing_by, begun_over, InputLimit, SourceFault, rules, common_steps}
use Rattle.ss_program.proofs.StepLemmas.{step-told}
use Rattle.ss_program.proofs.RunLemmas.{HasStopped-piece, Serves-part, Serves-stop, GoesThrough, goes-start, goes-more, goes-finish}
use Rattle.ss_program.proofs.ReadLemmas.{end-other, IsLeft-more, Moved-at, Moved-piece, Reads-end, Reads-limit, Reads-stop, left-none, length_of-none}
use Rattle.ss_program.proofs.ReadLemmas.{stop-other}
use Rattle.ss_program.proofs.TakenLemmas.{RoseBy-more, RoseBy-none, TakesFew-end, TakesFew-limit, TakesFew-stop}
use Rattle.ss_program.proofs.running.serve.Goals as goal

pub loop-done-init : goal.loop-done-init
loop-done-init g c =
    let disk = g.D.Disk.seen c.args.disk.now in
    let before = g.K.Sink.held c.args.sink.now in
    let left = g.S.Source.left c.args.source.now in
    record {
      fits = omega arith;
      rests = c.requires.front.rests;
      left = λ input is. record { within = omega arith; source = is };
      through = step-none disk
          (GoesThrough c.args.session.now.form (sealing_by c.args.session.now.waiting) left c.args.session.now before before left 0)
          (λ told. goes-start c.args.session.now (g.met.D.Disk.knows_now c.args.disk.now told) c.requires.front.rests.unsaid c.requires.front.line
          c.requires.front.cursors);
      taken = RoseBy-none (g.S.Source.taken c.args.source.now);
      source = refl;
      sink = refl;
    }

pub loop-done-preserved : goal.loop-done-preserved
loop-done-preserved g c =
    let inv = c.loop-done.invariant in
    let done = c.loop-done.done in
    let after_left = g.S.Source.left c.read_piece.new.source in
    record {
      fits = omega (arith, c.in-Ok.ensures.feeds.count, inv.fits);
      rests = c.in-Ok.ensures.rests;
      left = λ input is.
          let at = inv.left input is in
          let moves = c.in-Ok.ensures.feeds.moves (drop done input) at.source in
          IsLeft-more after_left input done c.in-Ok.count at.within moves.0 moves.2;
      through = step-then inv.through c.in-Ok.ensures.reads (λ first second. goes-more first second c.in-Ok.ensures.feeds.moves);
      taken = RoseBy-more done c.in-Ok.count (g.S.Source.taken c.args.source.now) (g.S.Source.taken c.loop-done.source)
          (g.S.Source.taken c.read_piece.new.source) inv.taken c.in-Ok.ensures.feeds.count.2;
      source = c.in-Ok.ensures.feeds.counted ∙ inv.source;
      sink = c.in-Ok.ensures.sink ∙ inv.sink;
    }

-- the source's count stands still but where it fails
pub returns-in-Ok-eq0-clause-source : goal.returns-in-Ok-eq0-clause-source
returns-in-Ok-eq0-clause-source g c =
    let same = c.in-Ok-eq0.ensures.feeds.counted ∙ c.loop-done.invariant.source in
    first_of (search rules, grind (arith, common_steps))

pub returns-in-Err-clause-source : goal.returns-in-Err-clause-source
returns-in-Err-clause-source g c = rw c.loop-done.invariant.source at c.in-Err.ensures.feeds.counted

pub returns-in-Ok-eq0-clause-taken : goal.returns-in-Ok-eq0-clause-taken
returns-in-Ok-eq0-clause-taken g c =
    let start = g.S.Source.taken c.args.source.now in
    let now = g.S.Source.taken c.read_piece.new.source in
    let n = c.loop-done.done in
    let k = c.in-Ok-eq0.field-0 in
    TakesFew-end (g.D.Disk.seen c.read_piece.new.disk).tells start now (n + k) c.finish.result
    (RoseBy-more n k start (g.S.Source.taken c.loop-done.source) now c.loop-done.invariant.taken c.in-Ok-eq0.ensures.feeds.count.2)
    (omega (arith, c.loop-done.invariant.fits, c.in-Ok-eq0.field-0-test)) c.finish.ensures.status

pub returns-in-Err-clause-taken : goal.returns-in-Err-clause-taken
returns-in-Err-clause-taken g c =
    let n = c.loop-done.done in
    let other = end-other (g.D.Disk.seen c.loop-done.disk).tells c.in-Err.status c.in-Err.ensures.status in
    TakesFew-stop (g.S.Source.taken c.args.source.now) (g.S.Source.taken c.loop-done.source) (g.S.Source.taken c.read_piece.new.source) n
    (68719476736 - n) c.in-Err.status other.0 other.1 c.loop-done.invariant.taken (omega (arith, c.loop-done.invariant.fits))
    c.in-Err.ensures.feeds.few

pub returns-in-Err-is_at_end-clause-taken : goal.returns-in-Err-is_at_end-clause-taken
returns-in-Err-is_at_end-clause-taken g c =
    TakesFew-stop (g.S.Source.taken c.args.source.now) (g.S.Source.taken c.loop-done.source) (g.S.Source.taken c.is_at_end.new.source)
    c.loop-done.done 0 SourceFault (λ w. cc) (λ w. cc) c.loop-done.invariant.taken (omega (arith, c.loop-done.invariant.fits))
    (omega (arith, c.in-Err-is_at_end.ensures.untaken))

pub returns-in-Ok-true-clause-taken : goal.returns-in-Ok-true-clause-taken
returns-in-Ok-true-clause-taken g c =
    let start = g.S.Source.taken c.args.source.now in
    let mid = g.S.Source.taken c.loop-done.source in
    let now = g.S.Source.taken c.is_at_end.new.source in
    let n = c.loop-done.done in
    let none : RoseBy 0 mid now = rw c.in-Ok-true.field-0-test at c.in-Ok-true.ensures.taken in
    TakesFew-end (g.D.Disk.seen c.loop-done.disk).tells start now (n + 0) c.finish-in-Ok-true.result
    (RoseBy-more n 0 start mid now c.loop-done.invariant.taken none)
    (omega (arith, c.loop-done.invariant.fits)) c.finish-in-Ok-true.ensures.status

pub returns-in-Ok-false-clause-taken : goal.returns-in-Ok-false-clause-taken
returns-in-Ok-false-clause-taken g c =
    let start = g.S.Source.taken c.args.source.now in
    let mid = g.S.Source.taken c.loop-done.source in
    let now = g.S.Source.taken c.is_at_end.new.source in
    let one : RoseBy 1 mid now = rw c.in-Ok-false.field-0-test at c.in-Ok-false.ensures.taken in
    TakesFew-limit start mid now c.loop-done.done c.loop-done.invariant.taken one
    (omega (arith, c.loop-done.invariant.fits, c.loop-done-test.false))

-- the piece of no bytes is the end
pub returns-in-Ok-eq0-clause-reads : goal.returns-in-Ok-eq0-clause-reads
returns-in-Ok-eq0-clause-reads g c input is =
    let at = c.loop-done.invariant.left input is in
    let rest = drop c.loop-done.done input in
    let left = g.S.Source.left c.read_piece.new.source in
    let moves = c.in-Ok-eq0.ensures.feeds.moves rest at.source in
    let none = moves.1 c.in-Ok-eq0.field-0-test in
    Reads-end (g.D.Disk.seen c.read_piece.new.disk).tells input left c.finish.result (omega
    (arith, length_of-none input c.loop-done.done none, c.loop-done.invariant.fits))
    (left-none left rest c.in-Ok-eq0.field-0 none moves.2) c.finish.ensures.status

pub returns-in-Ok-eq0-clause-serves : goal.returns-in-Ok-eq0-clause-serves
returns-in-Ok-eq0-clause-serves g c =
    let n = c.loop-done.done in
    let k = c.in-Ok-eq0.field-0 in
    let left = g.S.Source.left c.read_piece.new.source in
    let inv = c.loop-done.invariant in
    let moves = c.in-Ok-eq0.ensures.feeds.moves in
    let read = step-then {S = GoesThrough c.args.session.now.form (sealing_by c.args.session.now.waiting) (g.S.Source.left c.args.source.now)
    c.read_piece.new.session (g.K.Sink.held c.args.sink.now) (g.K.Sink.held c.read_piece.new.sink) left (n + k)}
    inv.through c.in-Ok-eq0.ensures.reads (λ first second. goes-more first second moves) in
    step-told read c.finish.ensures.ends (λ tells through ends.
    goes-finish (g.D.Disk.seen c.read_piece.new.disk).tells c.finish.result tells c.finish.ensures.status through ends (λ input is.
    let moved = moves (drop n input) (inv.left input is).source in
    let empty = moved.1 c.in-Ok-eq0.field-0-test in
    let all = length_of-none input n empty in
    (omega (arith, all), omega (arith, all, inv.fits), left-none left (drop n input) k empty moved.2)))

pub returns-in-Err-clause-reads : goal.returns-in-Err-clause-reads
returns-in-Err-clause-reads g c input is =
    let at = c.loop-done.invariant.left input is in
    let n = c.loop-done.done in
    let left = g.S.Source.left c.read_piece.new.source in
    let other = end-other (g.D.Disk.seen c.loop-done.disk).tells c.in-Err.status c.in-Err.ensures.status in
    Reads-stop input left c.in-Err.status other.0 other.1
    (Moved-piece input left n (68719476736 - n) at.within (omega (arith, c.loop-done.invariant.fits)) (c.in-Err.ensures.feeds.stopped (drop n input) at.source))

pub returns-in-Err-clause-serves : goal.returns-in-Err-clause-serves
returns-in-Err-clause-serves g c =
    let before = g.K.Sink.held c.args.sink.now in
    let n = c.loop-done.done in
    let start = (g.D.Disk.seen c.args.disk.now).told in
    let mid = g.D.Disk.seen c.loop-done.disk in
    let new = (g.D.Disk.seen c.read_piece.new.disk).told in
    let left = g.S.Source.left c.read_piece.new.source in
    let after = g.K.Sink.held c.read_piece.new.sink in
    let status = c.in-Err.status in
    let inv = c.loop-done.invariant in
    let sealing = sealing_by c.args.session.now.waiting in
    step-told inv.through c.in-Err.ensures.reads (λ tells first second input is none used history stands.
    let old = first input is none used history stands in
    let talk = begun_over used c.args.session.now.form history in
    elim c.in-Err.ensures.status [
      | inl fault ↦ (let same = c.in-Err.ensures.feeds.fault fault in
          rw (same.1.1, same.1.2) (Serves-part sealing status left old inv.fits (inl (fault, same.0))))
      | inr stop ↦ Serves-stop sealing talk input left before after start new mid.tells status tells stop
          (HasStopped-piece sealing talk start mid.told new c.loop-done.session input (g.S.Source.left c.loop-done.source) left
          before (g.K.Sink.held c.loop-done.sink) after status n (68719476736 - n) old (omega (arith, inv.fits))
          (second.stops (stop-other mid.tells status stop).2 (drop n input) old.source sealing talk before (take n input) old.on.at old.on.replied))
    ])

pub returns-in-Err-is_at_end-clause-reads : goal.returns-in-Err-is_at_end-clause-reads
returns-in-Err-is_at_end-clause-reads g c input is =
    let at = c.loop-done.invariant.left input is in
    Reads-stop input (g.S.Source.left c.is_at_end.new.source) SourceFault (λ w. cc) (λ w. cc)
    (Moved-at input (g.S.Source.left c.is_at_end.new.source) c.loop-done.done (record {
      within = at.within;
      source = c.in-Err-is_at_end.ensures.err ∙
          at.source;
    })
    c.loop-done.invariant.fits)

pub returns-in-Err-is_at_end-clause-serves : goal.returns-in-Err-is_at_end-clause-serves
returns-in-Err-is_at_end-clause-serves g c =
    step-as c.loop-done.invariant.through (λ through input is none used history stands.
    Serves-part (sealing_by c.args.session.now.waiting) SourceFault (g.S.Source.left c.is_at_end.new.source)
    (through input is none used history stands) c.loop-done.invariant.fits
    (inl (refl, c.in-Err-is_at_end.ensures.err)))

-- the input ends at the limit
pub returns-in-Ok-true-clause-reads : goal.returns-in-Ok-true-clause-reads
returns-in-Ok-true-clause-reads g c input is =
    let ends = c.in-Ok-true.ensures.ends (drop c.loop-done.done input) (c.loop-done.invariant.left input is).source c.in-Ok-true.field-0-test in
    Reads-end (g.D.Disk.seen c.loop-done.disk).tells input (g.S.Source.left c.is_at_end.new.source) c.finish-in-Ok-true.result
    (omega (arith, length_of-none input c.loop-done.done ends.0, c.loop-done.invariant.fits)) ends.1 c.finish-in-Ok-true.ensures.status

pub returns-in-Ok-true-clause-serves : goal.returns-in-Ok-true-clause-serves
returns-in-Ok-true-clause-serves g c =
    let n = c.loop-done.done in
    let inv = c.loop-done.invariant in
    step-told inv.through c.finish-in-Ok-true.ensures.ends (λ tells through ends.
    goes-finish (g.D.Disk.seen c.loop-done.disk).tells c.finish-in-Ok-true.result tells c.finish-in-Ok-true.ensures.status through ends (λ input is.
    let ended = c.in-Ok-true.ensures.ends (drop n input) (inv.left input is).source c.in-Ok-true.field-0-test in
    let all = length_of-none input n ended.0 in
    (all, omega (arith, all, inv.fits), ended.1)))

pub returns-in-Ok-false-clause-reads : goal.returns-in-Ok-false-clause-reads
returns-in-Ok-false-clause-reads g c input is =
    let more = c.in-Ok-false.ensures.goes_on (drop c.loop-done.done input) (c.loop-done.invariant.left input is).source c.in-Ok-false.field-0-test in
    Reads-limit input (g.S.Source.left c.is_at_end.new.source) c.loop-done.done (omega (arith, c.loop-done.invariant.fits, c.loop-done-test.false)) more.0
    more.1

pub returns-in-Ok-false-clause-serves : goal.returns-in-Ok-false-clause-serves
returns-in-Ok-false-clause-serves g c =
    step-as c.loop-done.invariant.through (λ through input is none used history stands.
    let one = through input is none used history stands in
    let more = c.in-Ok-false.ensures.goes_on (drop c.loop-done.done input) one.source c.in-Ok-false.field-0-test in
    Serves-part (sealing_by c.args.session.now.waiting) InputLimit (g.S.Source.left c.is_at_end.new.source) one c.loop-done.invariant.fits
    (inr (refl, record { all = omega (arith, c.loop-done.invariant.fits, c.loop-done-test.false); source = more.1 })))

pub finish-requires : goal.finish-requires
finish-requires g c = c.in-Ok-eq0.ensures.rests.is_open
