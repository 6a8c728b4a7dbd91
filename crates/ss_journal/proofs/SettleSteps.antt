-- The steps of a settling: puts come into their slots, and the first gate closes.
use Rattle.ss_journal.proofs.Common.{List, Ok, Result, [], ap, arith, length, refl, ◌∙◌, ◌<◌, ◌∷◌, ◌≡◌, ◌≤◌, IsErr, KnowsNow, Told, Syncs, Failed, Kind}
use Rattle.ss_journal.proofs.Common.{kind_of, HasEntries, on_ok_weaker, Clears, Durably, Reaches, StaysShut, Writes, WritesSlots, slots_written, Put}
use Rattle.ss_journal.proofs.InUseLemmas.{StandsFor-applied, StandsFor-slots_torn, closed-written, differs-written, long-slots_written}
use Rattle.ss_journal.proofs.RangeLemmas.{DiffersIn-overwrite}
use Rattle.ss_journal.proofs.StepLemmas.{reaches-joined, reaches-rewritten, reaches-torn}
use Rattle.ss_journal.proofs.TearLemmas.{durable-sync_failed, durable-synced, keeps-sync_failed, keeps-synced, on_err}

-- the puts of a formatted file's entries, written into their slots
module _ (kind : Kind) (puts : List Put) (old mid : Told) (entries : HasEntries kind puts old.content) where
  pub slots-failed : {step : Result (Unit {0}) Failed} (result : Result (Unit {0}) Failed) → IsErr result → Durably (WritesSlots kind puts) step old mid
      → Reaches StaysShut result old mid
  slots-failed result is wrote = reaches-torn StaysShut result is wrote.step
      (λ found image stands differs. StandsFor-slots_torn puts old.content entries.born entries.in_use image differs found stands)

  module _ (value : Unit {0}) (wrote : Durably (WritesSlots kind puts) (Ok value) old mid) where
    pub within-first_gate : 512 ≤ length mid.content
    within-first_gate = omega (arith, long-slots_written kind puts old.content entries.kind entries.born entries.in_use, ap length wrote.step.written)

    -- and then the first gate, closed
    pub slots-applied : (new : Told) (result : Result (Unit {0}) Failed) → 0 < length puts → Durably (Writes 512 (0 ∷ [])) result mid new
        → Reaches StaysShut result old new
    slots-applied new result some closes =
        let all = wrote.step.written in
        let slots = reaches-rewritten (λ _ content. content ≡ slots_written kind puts old.content) (Ok value) wrote.step (λ only. wrote.durable)
        (λ found image stands differs. StandsFor-slots_torn puts old.content entries.born entries.in_use image differs found stands)
        (differs-written kind puts old.content entries.kind entries.born entries.in_use) refl in
        let gate = reaches-rewritten (λ _ content. StaysShut old.content content) result closes.step (λ only. closes.durable)
        (λ found image stands differs. (StandsFor-applied kind puts old.content entries.kind entries.born entries.in_use image found some
        (rw all at stands) (rw all at differs)).0) (DiffersIn-overwrite 512 mid.content (0 ∷ []) within-first_gate)
        (rw all (closed-written kind puts old.content entries.kind entries.born entries.in_use some)) in
        reaches-joined {S = StaysShut} value result slots gate (λ was is. is)

-- a sync first
module _ (old mid : Told) (knows : KnowsNow old) (result : Result (Unit {0}) Failed) where
  pub clears-failed : {step : Result (Unit {0}) Failed} → IsErr result → Syncs step old mid → Clears result old mid
  clears-failed is synced = record {
    shut = record { keeps_map = keeps-sync_failed old mid knows synced.time synced.no_other result is; reached = on_err result _ is };
    makes_durable = durable-sync_failed old mid knows synced.time synced.no_other result is;
  }

  pub clears-synced : (value : Unit {0}) (new : Told) → Syncs (Ok value) old mid → Reaches StaysShut result mid new
      → Clears result old new
  clears-synced value new synced reaches = record {
    shut = record {
      keeps_map = keeps-synced old mid knows synced.time synced.no_other result new synced.content synced.durable reaches.keeps_map;
      reached = on_ok_weaker result (λ (shut : StaysShut mid.content new.content). (shut.0, shut.1 ∙ ap kind_of synced.content)) reaches.reached;
    };
    makes_durable = durable-synced old mid knows synced.time synced.no_other result new synced.content synced.durable reaches.keeps_map;
  }
