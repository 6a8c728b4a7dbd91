-- What a record has that is read from a slot, and how records stand beside their slots.
use Rattle.std.specs.Prelude.{◌≡◌, ℕ, ◌+◌, ◌^◌, ◌<◌, ◌≤◌, List, map, Option, Some, None, IsTrue, FitsSigned}
use Rattle.std.specs.Int.{w64}
use Rattle.ss_catalog.specs.declared.TheConstants.{LAST_STREAM}
use Rattle.ss_codec.specs.declared.record.Record.{Record}
use Rattle.ss_codec.specs.declared.record.Record.TheVariants.{Free, Stream, Window, Landmark, Value}
use Rattle.ss_base.specs.declared.limits.TheConstants.{LAST_TIME}
use Rattle.ss_summary.specs.Figures.{IsPossible}
use Rattle.ss_base.specs.declared.limits.TheConstants.{MOST_VALUES}
use Rattle.ss_targets.specs.Lengths.{has_target}
use Rattle.ss_recover.specs.declared.found.Found.{Found}

-- a landmark has so many values and these times: an open one says 0, and a closed one closes at or after its opening
abbrev pub HasValidTimes : ℕ → ℕ → Option ℕ → Type 0
HasValidTimes values start None = (values ≡ 0) × (start ≤ LAST_TIME)
HasValidTimes values start (Some finish) = (start ≤ finish) × (finish ≤ LAST_TIME)

-- A record isn't free. A stream has a target and a number that a stream can have, a window possible figures and positions that a
-- stream can have, and landmarks and their values have numbers from 1 on and times that they can have.
abbrev pub IsUsable : Record → Type 0
IsUsable Free = ⊥
IsUsable (Stream id name params dropped) = IsTrue (has_target params) × (id ≤ LAST_STREAM)
IsUsable (Window id first summary) = (1 ≤ first) × (first + summary.count ≤ MOST_VALUES + 1) × IsPossible summary
IsUsable (Landmark id number values start finish) = (1 ≤ number) × (number < 2 ^ 32) × HasValidTimes values start finish
IsUsable (Value id number index t v) = (1 ≤ number) × (number < 2 ^ 32) × (index < 2 ^ 32) × (t ≤ LAST_TIME) × FitsSigned w64 v

-- a record with its slot, as slots have them
abbrev pub with_slot : Found → ℕ × Option Record
with_slot f = (f.slot, Some f.holds)

-- the records without their slots, and the slots without their records
abbrev pub without_slots : List Found → List Record
without_slots all = map (λ (f : Found). f.holds) all

abbrev pub slots_found : List Found → List ℕ
slots_found all = map (λ (f : Found). f.slot) all
