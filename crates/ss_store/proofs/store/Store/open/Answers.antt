use Rattle.ss_store.proofs.Common.{arith, refl}
use Rattle.ss_store.proofs.store.Store.open.Goals as goal

pub open_in-requires : goal.open_in-requires
open_in-requires g c = record { same_name = refl; same_parts = refl; some = omega (arith, c.new.ensures) }
