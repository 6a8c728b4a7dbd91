use Rattle.ss_bounds.proofs.MixedLemmas.{rests-are}
use Rattle.ss_bounds.proofs.guess.rests.Goals as goal

pub returns : goal.returns
returns c =
    rw (c.from-wide.ensures, c.from.ensures, c.from-2.ensures, c.from-3.ensures, c.from-4.ensures, c.from-5.ensures, c.from-6.ensures, c.from-7.ensures)
    (rests-are c.args.count c.args.left c.args.guess c.args.spare c.requires.left c.requires.spare c.requires.rest c.requires.values
    c.requires.few c.requires.times)
