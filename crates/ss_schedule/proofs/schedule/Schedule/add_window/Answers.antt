use Rattle.ss_schedule.proofs.KeyedLemmas.{IsKeyed-added, spans-added}
use Rattle.ss_schedule.proofs.schedule.Schedule.add_window.Goals as goal

pub put-requires-clause-span : goal.put-requires-clause-span
put-requires-clause-span g c =
    spans-added c.args.n c.args.line.now.entries c.args.at c.pair_before-previous.result c.len-len.ensures.line.apart c.requires.stands
    c.pair_before-previous.ensures.pair c.requires.follow

pub returns-clause-keyed : goal.returns-clause-keyed
returns-clause-keyed g c =
    IsKeyed-added c.args.n c.args.line.now.entries c.args.at c.args.self.now c.put.new.self c.pair_before-previous.result c.len-len.ensures.line.apart
    c.requires.stands c.requires.room c.pair_before-previous.ensures.pair c.requires.keyed c.requires.follow c.put.ensures
