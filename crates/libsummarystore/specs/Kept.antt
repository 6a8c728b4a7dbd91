-- What stands behind a handle.
use Rattle.std.specs.Prelude.{⊤}
use Rattle.libsummarystore.specs.Image.{untold}
use Rattle.ss_connection.specs.Holds.{IsUsable}
use Rattle.libsummarystore.specs.declared.kept.Kept.{Kept}
use Rattle.libsummarystore.specs.declared.kept.Kept.TheVariants.{Open, Shut}

-- a connection that can be called, or why there is none
abbrev pub IsFit : Kept → Type 0
IsFit (Open held) = IsUsable (untold held.disk.faults) held.connection
IsFit (Shut shut) = ⊤
