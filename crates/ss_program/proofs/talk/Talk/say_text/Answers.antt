use Rattle.ss_program.proofs.Common.{◌≡◌, ◌∙◌, ◌++◌, ℕ, List, Ok, ap, sym, step-none, Seals, TakesNone, amid, owed_by, with_text}
use Rattle.ss_program.proofs.AmidLemmas.{TakesNone-still}
use Rattle.ss_program.specs.declared.replies.Seals.TheVariants as seal
use Rattle.ss_program.proofs.talk.Talk.say_text.Goals as goal

-- where replies may wait, what is said waits after them
waits : (waiting : Seals) (replies more text : List ℕ) → waiting ≡ seal.Shared replies → more ≡ replies ++ text →
    with_text (owed_by waiting) text ≡ owed_by (seal.Shared more)
waits waiting replies more text is then =
    ap (λ (w : Seals). with_text (owed_by w) text) is ∙ ap (λ (t : List ℕ). owed_by (seal.Shared t)) (sym then)

pub returns-in-Each-clause-takes : goal.returns-in-Each-clause-takes
returns-in-Each-clause-takes g c = rw c.in-Each.is (c.send_sealed.ensures.takes c.args.self.now.sessions)

pub returns-in-Shared-clause-takes : goal.returns-in-Shared-clause-takes
returns-in-Shared-clause-takes g c =
    let disk = g.D.Disk.seen c.args.disk.now in
    let self = c.args.self.now in
    let to = amid self.store.records (owed_by (seal.Shared c.hold.new.self)) (g.K.Sink.held c.args.sink.now) self.sessions in
    rw (waits self.waiting _ c.hold.new.self c.args.text.now c.in-Shared.is c.hold.ensures)
    (step-none disk (TakesNone to to (Ok tt)) (λ told. TakesNone-still to disk.told tt (g.met.D.Disk.knows_now c.args.disk.now told)))
