use Rattle.libsummarystore.proofs.held.Held.placed.Goals as goal

pub returns : goal.returns
returns g c =
    let written = rw (c.placed_of-meant.ensures) at c.writing.ensures in
    rw (c.ended.ensures, written) at c.going.ensures
