use Rattle.ss_sessions.proofs.CopyLemmas.{Contains-read}
use Rattle.ss_store.specs.Kept.{part_numbered}
use Rattle.ss_sessions.proofs.copying.copy_window.Goals as goal

pub returns-in-Ok-clause-copies : goal.returns-in-Ok-clause-copies
returns-in-Ok-clause-copies g c =
    let shows = c.in-Ok.ensures.shows in
    record {
      tells = shows.tells;
      counted = shows.counted;
      told = λ told. record { row = (shows.told told).window; reads = (shows.told told).reads };
    }

pub returns-in-Err-Disk-clause-copies : goal.returns-in-Err-Disk-clause-copies
returns-in-Err-Disk-clause-copies g c =
    let shows = rw c.in-Err-Disk.field-0-is at c.in-Err-Disk.ensures.shows in
    record {
      tells = shows.tells;
      counted = shows.counted;
      told = λ told. record { row = λ streams is. tt; reads = (shows.told told).reads };
    }

pub returns-in-Err-Changed-clause-copies : goal.returns-in-Err-Changed-clause-copies
returns-in-Err-Changed-clause-copies g c =
    let shows = rw c.in-Err-Changed.field-0-is at c.in-Err-Changed.ensures.shows in
    record {
      tells = shows.tells;
      counted = shows.counted;
      told = λ told. record { row = λ streams is. tt; reads = (shows.told told).reads };
    }

pub returns-in-Err-Changed-clause-changed : goal.returns-in-Err-Changed-clause-changed
returns-in-Err-Changed-clause-changed g c =
    Contains-read (part_numbered c.args.id.0 c.args.store.now.streams) c.args.at c.in-Err-Changed.slot c.requires.at
    (rw c.in-Err-Changed.field-0-is at c.in-Err-Changed.ensures.changed)
