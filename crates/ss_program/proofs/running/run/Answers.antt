use Rattle.ss_program.proofs.Common.{◌≡◌, ◌∙◌, Option, Some, inr, refl, sym, mode_of, words_of, Mode, Check, Gen, at_start, of_content}
use Rattle.ss_program.proofs.Common.{Between, Counted, StandsShort, ChecksStore, over, Ends, Feeds, IsUnfed, Unfed, GeneratesFrom, Reads}
use Rattle.ss_program.proofs.Common.{Serves, ServesInput, source_verdict, begun_over, OutOfMemory}
use Rattle.ss_program.proofs.EndLemmas.{Completes-calm, by-number, has-numbers, source-calm}
use Rattle.ss_program.proofs.OpeningLemmas.{Serves-unopened}
use Rattle.ss_program.proofs.running.run.Goals as goal

-- the arguments ask for one mode
one_mode : (found asked : Option Mode) (mode other : Mode) → found ≡ asked → found ≡ Some mode → asked ≡ Some other → mode ≡ other
one_mode found asked mode other is some known = cc

pub run_mode-requires : goal.run_mode-requires
run_mode-requires g c = has-numbers (words_of c.args.words.now) c.in-Ok-Some.mode (sym c.in-Ok-Some.ensures.mode ∙ c.in-Ok-Some.field-0-is)

pub returns-in-Ok-Some-clause-ends : goal.returns-in-Ok-Some-clause-ends
returns-in-Ok-Some-clause-ends g c _ status is =
    let old = over (g.D.Disk.seen c.args.disk.now) (g.K.Sink.held c.args.sink.now) (g.K.Sink.faults c.args.sink.now) in
    let new = over (g.D.Disk.seen c.run_mode.new.disk) (g.K.Sink.held c.run_mode.new.sink) (g.K.Sink.faults c.run_mode.new.sink) in
    by-number (λ s. Ends old new s) c.number.result c.run_mode.result c.number.ensures c.run_mode.ensures.ends status is

pub returns-in-Ok-Some-clause-source : goal.returns-in-Ok-Some-clause-source
returns-in-Ok-Some-clause-source g c status is =
    by-number (λ s. Feeds (c.run_mode.new.source ≡ c.args.source.now) (g.S.Source.faults c.args.source.now) (g.S.Source.faults c.run_mode.new.source)
    (g.S.Source.taken c.args.source.now) (g.S.Source.taken c.run_mode.new.source) s)
    c.number.result c.run_mode.result c.number.ensures
    c.run_mode.ensures.feeds status is

pub returns-in-Ok-Some-clause-reads : goal.returns-in-Ok-Some-clause-reads
returns-in-Ok-Some-clause-reads g c asked status is input left =
    let known : mode_of (words_of c.args.words.now) ≡ Some c.in-Ok-Some.mode = sym c.in-Ok-Some.ensures.mode ∙ c.in-Ok-Some.field-0-is in
    by-number (λ s. Reads input (g.S.Source.left c.run_mode.new.source) s) c.number.result c.run_mode.result c.number.ensures
    (c.run_mode.ensures.reads (rw known at asked) input left) status is

pub returns-in-Ok-Some-clause-serves : goal.returns-in-Ok-Some-clause-serves
returns-in-Ok-Some-clause-serves g c form sealing asked status is input left =
    let known : mode_of (words_of c.args.words.now) ≡ Some c.in-Ok-Some.mode = sym c.in-Ok-Some.ensures.mode ∙ c.in-Ok-Some.field-0-is in
    by-number (λ s. Between (g.D.Disk.seen c.args.disk.now) (g.D.Disk.seen c.run_mode.new.disk)
    (ServesInput form sealing input (g.S.Source.left c.run_mode.new.source) (g.K.Sink.held c.args.sink.now) (g.K.Sink.held c.run_mode.new.sink) s))
    c.number.result c.run_mode.result c.number.ensures (c.run_mode.ensures.serves form sealing (rw known at asked) input left) status is

pub returns-in-Ok-Some-clause-checks : goal.returns-in-Ok-Some-clause-checks
returns-in-Ok-Some-clause-checks g c asked status is =
    let mode = one_mode c.in-Ok-Some.field-0 (mode_of (words_of c.args.words.now)) c.in-Ok-Some.mode Check c.in-Ok-Some.ensures.mode
    c.in-Ok-Some.field-0-is asked in
    by-number (λ s. Between (g.D.Disk.seen c.args.disk.now) (g.D.Disk.seen c.run_mode.new.disk)
    (ChecksStore (g.K.Sink.held c.args.sink.now) (g.K.Sink.held c.run_mode.new.sink) s))
    c.number.result c.run_mode.result c.number.ensures
    (c.run_mode.ensures.checks mode) status is

pub returns-in-Ok-Some-clause-generates : goal.returns-in-Ok-Some-clause-generates
returns-in-Ok-Some-clause-generates g c seed count asked status is =
    let mode = one_mode c.in-Ok-Some.field-0 (mode_of (words_of c.args.words.now)) c.in-Ok-Some.mode (Gen seed count) c.in-Ok-Some.ensures.mode
    c.in-Ok-Some.field-0-is asked in
    by-number (λ s. Between (g.D.Disk.seen c.args.disk.now) (g.D.Disk.seen c.run_mode.new.disk)
    (GeneratesFrom seed count (g.K.Sink.held c.args.sink.now) (g.K.Sink.held c.run_mode.new.sink) s))
    c.number.result c.run_mode.result c.number.ensures (c.run_mode.ensures.generates seed count mode) status is

pub returns-in-Ok-Some-clause-unfed : goal.returns-in-Ok-Some-clause-unfed
returns-in-Ok-Some-clause-unfed g c asked status is =
    let known : mode_of (words_of c.args.words.now) ≡ Some c.in-Ok-Some.mode = sym c.in-Ok-Some.ensures.mode ∙ c.in-Ok-Some.field-0-is in
    by-number (λ s. Unfed (c.run_mode.new.source ≡ c.args.source.now) (g.K.Sink.held c.args.sink.now) (g.K.Sink.held c.run_mode.new.sink) s)
    c.number.result c.run_mode.result c.number.ensures (c.run_mode.ensures.unfed (rw known at asked)) status is

pub returns-in-Ok-Some-clause-completes : goal.returns-in-Ok-Some-clause-completes
returns-in-Ok-Some-clause-completes g c _ status is told fits limit calm_disk calm_source calm_sink =
    let old = over (g.D.Disk.seen c.args.disk.now) (g.K.Sink.held c.args.sink.now) (g.K.Sink.faults c.args.sink.now) in
    let new = over (g.D.Disk.seen c.run_mode.new.disk) (g.K.Sink.held c.run_mode.new.sink) (g.K.Sink.faults c.run_mode.new.sink) in
    let s = g.S.Source.faults c.args.source.now in
    let t = g.S.Source.faults c.run_mode.new.source in
    Completes-calm old new status
    (by-number (λ r. Ends old new r) c.number.result c.run_mode.result c.number.ensures c.run_mode.ensures.ends status is)
    (source-calm (mode_of (words_of c.args.words.now)) c.in-Ok-Some.mode old.held new.held status s t
    (sym c.in-Ok-Some.ensures.mode ∙ c.in-Ok-Some.field-0-is)
    (λ other. by-number (λ r. IsUnfed old.held new.held r) c.number.result c.run_mode.result c.number.ensures (c.run_mode.ensures.unfed other).silent status is)
    (by-number (λ r. Counted (source_verdict r) s t) c.number.result c.run_mode.result c.number.ensures c.run_mode.ensures.feeds.counted status is)
    calm_source)
    told fits limit calm_disk calm_sink

-- no arguments that are refused at a glance ask for a mode, or for memory
pub returns-in-Ok-Some-clause-at_once : goal.returns-in-Ok-Some-clause-at_once
returns-in-Ok-Some-clause-at_once g c refused =
    let wrong = c.mode_of.ensures.at_once refused in
    let was = c.in-Ok-Some.is in
    let some = c.in-Ok-Some.field-0-is in cc

pub returns-in-Err-clause-unfed : goal.returns-in-Err-clause-unfed
returns-in-Err-clause-unfed g c other status is =
    by-number (λ s. Unfed (c.args.source.now ≡ c.args.source.now) (g.K.Sink.held c.args.sink.now) (g.K.Sink.held c.args.sink.now) s)
    c.number-in-Err.result OutOfMemory c.number-in-Err.ensures (record { unread = refl; silent = refl }) status is

-- memory ran out before the disk was called
pub returns-in-Err-clause-serves : goal.returns-in-Err-clause-serves
returns-in-Err-clause-serves g c form sealing asked status is input left told none used history stands =
    let disk = (g.D.Disk.seen c.args.disk.now).told in
    let before = g.K.Sink.held c.args.sink.now in
    let knows = g.met.D.Disk.knows_now c.args.disk.now told in
    by-number (λ s. Serves sealing (begun_over used form history) input
    (g.S.Source.left c.args.source.now) before before disk disk s) c.number-in-Err.result OutOfMemory
    c.number-in-Err.ensures
    (Serves-unopened (inr refl) left refl knows
    (at_start disk (StandsShort used history) knows (of_content disk (StandsShort used history) none stands))) status is
