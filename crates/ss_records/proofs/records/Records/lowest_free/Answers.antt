use Rattle.std.proofs.Common.{◌∙◌, ap}
use Rattle.ss_records.specs.Live.{lowest_free}
use Rattle.ss_records.specs.Kept.{RecordsState}
use Rattle.ss_records.proofs.LiveLemmas.{lowest-full, lowest-few, lowest-fits}
use Rattle.ss_records.proofs.records.Records.lowest_free.Goals as goal

pub returns-clause-full : goal.returns-clause-full
returns-clause-full c =
    let now = c.args.self.now in
    let sound = rw c.self.view_is at c.self.invariant in
    lowest-full now.live c.least_outside.result (c.least_outside.ensures ∙ ap (λ (records : RecordsState). lowest_free records.live) c.self.view_is) _
    sound.slots

pub returns-clause-few : goal.returns-clause-few
returns-clause-few c =
    let now = c.args.self.now in
    let sound = rw c.self.view_is at c.self.invariant in
    lowest-few now.live c.least_outside.result (c.least_outside.ensures ∙ ap (λ (records : RecordsState). lowest_free records.live) c.self.view_is) _
    sound.slots

pub returns-clause-fits : goal.returns-clause-fits
returns-clause-fits c running =
    let now = c.args.self.now in
    let sound = rw c.self.view_is at c.self.invariant in
    lowest-fits now.live c.least_outside.result (c.least_outside.ensures ∙ ap (λ (records : RecordsState). lowest_free records.live) c.self.view_is)
    now.journal.extent (sound.below running)
