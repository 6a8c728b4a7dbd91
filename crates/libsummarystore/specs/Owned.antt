-- What a handle owns.
use base.Fml.{Fml, feq, fex, fsep, ftrue}
use denote.RawPtr.{Ptr, null_ptr}
use Rattle.std.specs.Prelude.{Option, Some, None}
use Rattle.std.specs.declared.alloc.Global.{Global}
use Rattle.std.specs.contracts.impls.GlobalAllocator.TheImpl.{ghosts}
use Rattle.std_alloc.specs.Box.Ownership.{box_owns}
use Rattle.libsummarystore.specs.Kept.{IsFit}
use Rattle.libsummarystore.specs.contracts.kept.Kept.{the_row as R}

-- the box at the pointer, which holds what can be called, or nothing at null
abbrev pub owned : Global → Ptr → Option R.Denot → Fml
owned alloc p None = feq Ptr p null_ptr
owned alloc p (Some x) = fsep (fex (IsFit x) (λ _. ftrue)) (box_owns (ghosts.dealloc_token alloc) R p x)
