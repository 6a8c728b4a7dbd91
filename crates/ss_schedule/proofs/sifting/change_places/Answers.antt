use Rattle.std.proofs.Common.{refl}
use Rattle.ss_schedule.proofs.InverseLemmas.{AreInverse-swap}
use Rattle.ss_schedule.proofs.sifting.change_places.Goals as goal

pub returns-clause-inverse : goal.returns-clause-inverse
returns-clause-inverse c =
    AreInverse-swap c.args.heap.now c.swap.new.self c.args.positions.now c.args.one c.args.other c.requires.inverse c.swap.ensures.by_index
    c.swap.ensures.len c.requires.one c.requires.other _ _ refl refl
