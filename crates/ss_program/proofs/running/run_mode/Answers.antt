use Rattle.ss_program.proofs.Common.{◌≡◌, ◌∙◌, Some, refl, sym, subst, ap, Mode, Gen, Between, Serving, served_by, serving, ServesInput, Form, Sealing}
use Rattle.ss_program.proofs.TakenLemmas.{Feeds-unfed}
use Rattle.ss_program.proofs.running.run_mode.Goals as goal

pub generate-requires-clause-some : goal.generate-requires-clause-some
generate-requires-clause-some g c = (rw c.in-Gen.is at c.requires).0

pub generate-requires-clause-few : goal.generate-requires-clause-few
generate-requires-clause-few g c = (rw c.in-Gen.is at c.requires).1

-- a run over the source is as the mode asks for
as_asked : (P : Form → Sealing → Type 0) (mode : Mode) (found form : Form) (seals sealing : Sealing) → served_by (Some mode) ≡ Some (serving found seals) →
    served_by (Some mode) ≡ Some (serving form sealing) → P found seals → P form sealing
as_asked P mode found form seals sealing is asked has =
    let same : serving found seals ≡ serving form sealing = cc in
    subst (λ (s : Serving). P s.form s.sealing) same has

pub returns-in-Serve-clause-serves : goal.returns-in-Serve-clause-serves
returns-in-Serve-clause-serves g c form sealing asked input left =
    as_asked (λ f s. Between (g.D.Disk.seen c.args.disk.now) (g.D.Disk.seen c.run_source.new.disk)
    (ServesInput f s input (g.S.Source.left c.run_source.new.source) (g.K.Sink.held c.args.sink.now) (g.K.Sink.held c.run_source.new.sink)
    c.run_source.result)) c.args.mode c.in-Serve.form form c.in-Serve.sealing sealing (ap (λ m. served_by (Some m)) c.in-Serve.is) asked
    (c.run_source.ensures.serves input left)

pub returns-in-Check-clause-feeds : goal.returns-in-Check-clause-feeds
returns-in-Check-clause-feeds g c =
    Feeds-unfed (g.S.Source.faults c.args.source.now) (g.S.Source.taken c.args.source.now) (g.K.Sink.held c.args.sink.now)
    (g.K.Sink.held c.check.new.sink) c.check.result refl
    c.check.ensures.unfed

pub returns-in-Gen-clause-feeds : goal.returns-in-Gen-clause-feeds
returns-in-Gen-clause-feeds g c =
    Feeds-unfed (g.S.Source.faults c.args.source.now) (g.S.Source.taken c.args.source.now) (g.K.Sink.held c.args.sink.now)
    (g.K.Sink.held c.generate.new.sink) c.generate.result refl
    c.generate.ensures.unfed

pub returns-in-Gen-clause-generates : goal.returns-in-Gen-clause-generates
returns-in-Gen-clause-generates g c seed count is =
    let same : Gen c.in-Gen.seed c.in-Gen.count ≡ Gen seed count = sym c.in-Gen.is ∙ is in
    let seeds : c.in-Gen.seed ≡ seed = cc in
    let counts : c.in-Gen.count ≡ count = cc in
    let before = g.K.Sink.held c.args.sink.now in
    let after = g.K.Sink.held c.generate.new.sink in
    let old = (g.D.Disk.seen c.args.disk.now).told in
    let new = (g.D.Disk.seen c.generate.new.disk).told in
    λ told. rw (counts, seeds) at (c.generate.ensures.generates told)
