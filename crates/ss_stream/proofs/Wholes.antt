-- What changes of one stream in a row keep over every disk, and what joins in a row make of it.
use Rattle.ss_stream.proofs.Common.{◌∙◌, ℕ, Option, Ok, Result, arith, refl, length, ◌-◌, ◌≤◌, ◌≡◌, KnowsNow, DiskView, Told, Step}
use Rattle.ss_stream.proofs.Common.{fine, HasSealed, IsSettled, RecordsState, entries_of, slots_held, StreamParts, StagesAtCost, KeepsWhole, IsOrdered}
use Rattle.ss_stream.proofs.Common.{IsSameStream, values_held, with_windows, HeldStream, IsKeyedFor, StandsAfter, ReadError}
use Rattle.ss_stream.specs.Changing.{JoinsWindows, KeepsAtRest}
use Rattle.ss_stream.proofs.Closings.{JoinsEach-more, JoinsEach-none}
use Rattle.ss_stream.proofs.LiveSlots.{LiveSlotsGo-none, LiveSlotsGo-then}

KeepsWhole-none : (part : StreamParts) (records : RecordsState) → IsOrdered part → IsSettled records.journal →
    KeepsWhole part part records records 0
KeepsWhole-none part records ordered settled = record {
  ordered = ordered;
  live = LiveSlotsGo-none (slots_held part) records.live;
  settled = settled;
  extent = omega arith;
}

KeepsWhole-then : {part mid now : StreamParts} {was between is : RecordsState} {used : ℕ} → KeepsWhole part mid was between used →
    KeepsWhole mid now between is 0 → KeepsWhole part now was is used
KeepsWhole-then {part} {mid} {now} {was} {between} {is} {used} first second = record {
  ordered = second.ordered;
  live = LiveSlotsGo-then (slots_held part) (slots_held mid) (slots_held now) was.live between.live is.live first.live second.live;
  settled = second.settled;
  extent = omega (arith, first.extent, second.extent);
}

-- no change
pub StandsAfter-none : (held : HeldStream) (records : RecordsState) → IsOrdered held.part → IsSettled records.journal → IsKeyedFor held →
    StandsAfter held.part held records records 0 (values_held (entries_of held.part)) held.part.last_time
StandsAfter-none held records ordered settled keyed = record {
  whole = KeepsWhole-none held.part records ordered settled;
  holds = record { values = refl; last_time = refl };
  keyed = keyed;
}

-- one change after another
pub StandsAfter-then : {part : StreamParts} {mid now : HeldStream} {was between is : RecordsState} {used n : ℕ} {last : Option ℕ} →
    StandsAfter part mid was between used n last →
    StandsAfter mid.part now between is 0 (values_held (entries_of mid.part)) mid.part.last_time → StandsAfter part now was is used n last
StandsAfter-then first second = record {
  whole = KeepsWhole-then first.whole second.whole;
  holds = record { values = second.holds.values ∙ first.holds.values; last_time = second.holds.last_time ∙ first.holds.last_time };
  keyed = second.keyed;
}

-- and then what is staged is sealed
pub KeepsAtRest-sealed : {part now : StreamParts} {was between is : RecordsState} {used : ℕ} → KeepsWhole part now was between used →
    is.live ≡ between.live → HasSealed between.journal is.journal → KeepsAtRest part now was is used
KeepsAtRest-sealed {part} {now} {was} {between} {is} {used} whole live sealed = record {
  whole = record {
    ordered = whole.ordered;
    live = rw live whole.live;
    settled = sealed.settled;
    extent = omega (arith, whole.extent, sealed.extent);
  };
  sealed = sealed.sealed;
}

-- no join, and one more
pub JoinsWindows-none : (part : StreamParts) (records : RecordsState) (disk : Told) → KnowsNow disk →
    JoinsWindows part part records records (Ok tt) disk disk
JoinsWindows-none part records disk knows = record {
  turns = JoinsEach-none {E = ReadError} records part disk knows;
  firm = λ others s held. tt;
}

pub JoinsWindows-more : {part mid now : StreamParts} {was between is : RecordsState} {old then new : Told} (result : Result (Unit {0}) ReadError) →
    KnowsNow then → JoinsWindows part mid was between (Ok tt) old then → JoinsWindows mid now between is result then new →
    JoinsWindows part now was is result old new
JoinsWindows-more {part} {mid} {now} {was} {between} {is} {old} {then} {new} result knows first second = record {
  turns = JoinsEach-more {E = ReadError} was between is part mid now old then new result knows first.turns second.turns;
  firm = λ others s held. let left = (first.turns others s).content held in second.firm others (with_windows s left.windows) left.held;
}

-- Joins from one moment to another: what they make of each stream that may be held, and what they leave as it was.
pub record IsClosing (old now : DiskView) (records is : RecordsState) (part : StreamParts) (left : HeldStream) : Type 0 where
  pub step : Step fine old now (StagesAtCost {T = Unit {0}} {E = ReadError} (JoinsWindows part left.part records is (Ok tt)) 0
      (length part.line.entries - length left.part.line.entries) records is (Ok tt))
  pub fewer : length left.part.line.entries ≤ length part.line.entries
  pub same : IsSameStream part left.part
  pub stands : StandsAfter part left records is 0 (values_held (entries_of part)) part.last_time
