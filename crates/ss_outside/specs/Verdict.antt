-- How a call ended, whichever error type says it, and what a device's count of faults has to do with it.
use Rattle.std.specs.Prelude.{◌≡◌, ℕ, ◌+◌, ◌-◌, ◌^◌, ◌≤◌, min, Result, Ok, Err, ⊤}
use Rattle.ss_outside.specs.declared.source.Failed.{Failed}

-- How a call ended: it did what was asked; it refused, by what was asked or by what the content is; memory ran out; an earlier
-- call had failed; the device failed; or the record of a slot isn't what it was.
pub data Verdict : Type 0 where
  fine : Verdict
  refused : Verdict
  no_memory : Verdict
  stopped : Verdict
  failed : Verdict
  changed : ℕ → Verdict

-- the verdict of a call of a device, or of one that fails only where such a call does
abbrev pub verdict : {T : Type 0} → Result T Failed → Verdict
verdict (Ok value) = fine
verdict (Err e) = failed

-- a count rose: it is greater than before, or it stands at the greatest number of 64 bits
abbrev pub Rose : ℕ → ℕ → Type 0
Rose before now = min (before + 1) (2 ^ 64 - 1) ≤ now

-- A device's count of faults over a call: it rose where the device failed, and is as it was at every other verdict. So no
-- failure is passed over, and none is blamed on the device without one.
abbrev pub Counted : Verdict → ℕ → ℕ → Type 0
Counted fine before now = now ≡ before
Counted refused before now = now ≡ before
Counted no_memory before now = now ≡ before
Counted stopped before now = now ≡ before
Counted failed before now = (before ≤ now) × Rose before now
Counted (changed slot) before now = now ≡ before

-- the same by the answer of a call of a device
abbrev pub HasCause : {T : Type 0} → ℕ → ℕ → Result T Failed → Type 0
HasCause before now result = Counted (verdict result) before now

-- no record has changed
abbrev pub IsFirm : Verdict → Type 0
IsFirm fine = ⊤
IsFirm refused = ⊤
IsFirm no_memory = ⊤
IsFirm stopped = ⊤
IsFirm failed = ⊤
IsFirm (changed slot) = ⊥

-- a fact of the slot whose record has changed, where one has
abbrev pub IfChanged : Verdict → (ℕ → Type 0) → Type 0
IfChanged fine P = ⊤
IfChanged refused P = ⊤
IfChanged no_memory P = ⊤
IfChanged stopped P = ⊤
IfChanged failed P = ⊤
IfChanged (changed slot) P = P slot

-- a fact where the call did what was asked
abbrev pub OnFine : Verdict → Type 0 → Type 0
OnFine fine P = P
OnFine refused P = ⊤
OnFine no_memory P = ⊤
OnFine stopped P = ⊤
OnFine failed P = ⊤
OnFine (changed slot) P = ⊤

-- a fact where the call refused, and one where memory ran out
abbrev pub OnRefused : Verdict → Type 0 → Type 0
OnRefused fine P = ⊤
OnRefused refused P = P
OnRefused no_memory P = ⊤
OnRefused stopped P = ⊤
OnRefused failed P = ⊤
OnRefused (changed slot) P = ⊤

abbrev pub OnNoMemory : Verdict → Type 0 → Type 0
OnNoMemory fine P = ⊤
OnNoMemory refused P = ⊤
OnNoMemory no_memory P = P
OnNoMemory stopped P = ⊤
OnNoMemory failed P = ⊤
OnNoMemory (changed slot) P = ⊤

-- a fact where the device failed
abbrev pub OnFailed : Verdict → Type 0 → Type 0
OnFailed fine P = ⊤
OnFailed refused P = ⊤
OnFailed no_memory P = ⊤
OnFailed stopped P = ⊤
OnFailed failed P = P
OnFailed (changed slot) P = ⊤

-- a fact where it didn't
abbrev pub UnlessFailed : Verdict → Type 0 → Type 0
UnlessFailed fine P = P
UnlessFailed refused P = P
UnlessFailed no_memory P = P
UnlessFailed stopped P = P
UnlessFailed failed P = ⊤
UnlessFailed (changed slot) P = P

-- a fact where a call ended before anything was done: it refused, memory ran out, or an earlier call had failed
abbrev pub IfUndone : Verdict → Type 0 → Type 0
IfUndone fine P = ⊤
IfUndone refused P = P
IfUndone no_memory P = P
IfUndone stopped P = P
IfUndone failed P = ⊤
IfUndone (changed slot) P = ⊤
