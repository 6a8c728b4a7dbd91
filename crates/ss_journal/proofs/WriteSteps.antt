-- Puts are written into their slots run by run, and zeros piece by piece.
use Rattle.ss_journal.proofs.Common.{List, Ok, Result, [], ap, arith, drop, length, refl, replicate, sym, take, ℕ, ◌++◌, ◌+◌, ◌*◌, ◌-◌, ◌<◌, ◌^◌, ◌∙◌, ◌∷◌, ◌≡◌}
use Rattle.ss_journal.proofs.Common.{◌≤◌, All-drop, All-take, drop-drop, drop_all, length-replicate, length-take-le, take-append-drop, take-replicate}
use Rattle.ss_journal.proofs.Common.{on_ok_weaker, IsErr, KnowsNow, Told, overwrite, Syncs, Failed, Kind, slot_place, FillSlots, Durably, Rewrites, Writes}
use Rattle.ss_journal.proofs.Common.{WritesSlots, WritesZeros, AreSlots, HasSlotsFor, Tears, run_bytes, run_length, slot_ranges, slots_written, Put}
use Rattle.ss_journal.proofs.RangeLemmas.{Covers-part, overwrite-none, overwrite-zeros}
use Rattle.ss_journal.proofs.RunLemmas.{Covers-run, HasSlotsFor-append, length-run_bytes, run_length-le, slots_written-append, slots_written-run, within-run}
use Rattle.ss_journal.proofs.StepLemmas.{rewrites-synced}
use Rattle.ss_journal.proofs.TearLemmas.{on_err, tears-more, tears-none}

-- so many of the puts are written: the rest leads to what all lead to
pub record WrittenTo (kind : Kind) (puts : List Put) (k : ℕ) (old new : Told) : Type 0 where
  pub tears : Tears (slot_ranges puts) old new
  pub written : slots_written kind (drop k puts) new.content ≡ slots_written kind puts old.content
  pub places : HasSlotsFor (drop k puts) new.content

pub WrittenTo-none : (kind : Kind) (puts : List Put) (disk : Told) → KnowsNow disk → HasSlotsFor puts disk.content → WrittenTo kind puts 0 disk disk
WrittenTo-none kind puts disk knows places = record { tears = tears-none (slot_ranges puts) disk knows; written = refl; places = places }

-- a run of the puts that are left
module _ (kind : Kind) (puts rest : List Put) (k n slot : ℕ) (old mid new : Told) (knows : KnowsNow mid) (left : rest ≡ drop k puts) (some : 0 < n)
    (neighbours : n ≤ run_length slot rest) (whole : FillSlots (take n rest)) (so_far : WrittenTo kind puts k old mid) where
  abbrev run : List Put
  run = take n rest

  tears-run : {result : Result (Unit {0}) Failed} → Writes (slot_place slot) (run_bytes kind run) result mid new → Tears (slot_ranges puts) old new
  tears-run step =
      let count : length run ≡ n = length-take-le n rest (run_length-le slot n rest neighbours) in
      let size : length (run_bytes kind run) ≡ 128 * n = omega (arith, count, length-run_bytes kind run whole) in
      tears-more old mid new (slot_ranges puts) knows so_far.tears (slot_place slot) (128 * n) (Covers-run puts k slot n some (rw left at neighbours))
      (rw size at step.tears)

  pub WrittenTo-more : (value : Unit {0}) → AreSlots puts → Writes (slot_place slot) (run_bytes kind run) (Ok value) mid new
      → WrittenTo kind puts (k + n) old new
  WrittenTo-more value slots step =
      let In = λ (put : Put). put.slot < 2 ^ 20 in
      let behind = drop (k + n) puts in
      let after : drop n rest ≡ behind = ap (drop n) left ∙ drop-drop n k puts in
      let all : run ++ behind ≡ drop k puts = rw (← after, take-append-drop, left) in
      let room = rw (← left) at so_far.places in
      let within = within-run rest slot mid.content (omega (arith, some, neighbours)) room in
      let wrote : slots_written kind run mid.content ≡ new.content = slots_written-run kind rest slot n mid.content neighbours whole within
      ∙ sym step.written in
      record {
        tears = tears-run step;
        written = rw (← wrote, ← slots_written-append, all, so_far.written);
        places = rw wrote at (HasSlotsFor-append kind run behind mid.content (All-take In n rest (rw left (All-drop In k puts slots))) whole
            (rw all so_far.places));
      }

  pub WrittenTo-failed : {step : Result (Unit {0}) Failed} (result : Result (Unit {0}) Failed) → IsErr result
      → Writes (slot_place slot) (run_bytes kind run) step mid new → Durably (WritesSlots kind puts) result old new
  WrittenTo-failed result is step = record {
    step = record { tears = tears-run step; written = on_err result _ is };
    durable = on_err result _ is;
  }

pub WrittenTo-synced : (kind : Kind) (puts : List Put) (k : ℕ) (old mid new : Told) → KnowsNow mid → length puts ≤ k → WrittenTo kind puts k old mid
    → (result : Result (Unit {0}) Failed) → Syncs result mid new → Durably (WritesSlots kind puts) result old new
WrittenTo-synced kind puts k old mid new knows all so_far result synced =
    let none : drop k puts ≡ [] = drop_all k puts all in
    let wrote : Rewrites (slot_ranges puts) (slots_written kind puts old.content) (Ok tt) old mid = record {
      tears = so_far.tears;
      written = sym (ap (λ (rest : List Put). slots_written kind rest mid.content) none) ∙ so_far.written;
    } in
    record { step = rewrites-synced tt result wrote knows synced; durable = synced.durable }

-- zeros stand from `at` up to `from`, of those that are to go up to `end`
pub record BlankTo (at from end : ℕ) (old new : Told) : Type 0 where
  pub tears : Tears ((at, end - at) ∷ []) old new
  pub written : new.content ≡ overwrite old.content at (replicate (from - at) 0)

pub BlankTo-none : (at end : ℕ) (disk : Told) → KnowsNow disk → at ≤ length disk.content → BlankTo at at end disk disk
BlankTo-none at end disk knows within = record {
  tears = tears-none ((at, end - at) ∷ []) disk knows;
  written =
      let none : at - at ≡ 0 = omega arith in
      overwrite-none disk.content at within ∙ sym (ap (λ (n : ℕ). overwrite disk.content at (replicate n 0)) none);
}

module _ (at from end count : ℕ) (old mid new : Told) (knows : KnowsNow mid) (low : at ≤ from) (high : from + count ≤ end)
    (so_far : BlankTo at from end old mid) where
  tears-piece : {result : Result (Unit {0}) Failed} → WritesZeros from count result mid new → Tears ((at, end - at) ∷ []) old new
  tears-piece step = tears-more old mid new ((at, end - at) ∷ []) knows so_far.tears from count
      (Covers-part at (end - at) from count low (omega (arith, low, high))) step.tears

  pub BlankTo-more : (value : Unit {0}) → at ≤ length old.content → WritesZeros from count (Ok value) mid new → BlankTo at (from + count) end old new
  BlankTo-more value within step = record {
    tears = tears-piece step;
    written = step.written ∙ overwrite-zeros old.content mid.content at from count within low so_far.written;
  }

  pub BlankTo-failed : {step : Result (Unit {0}) Failed} (result : Result (Unit {0}) Failed) → IsErr result → WritesZeros from count step mid new
      → WritesZeros at (end - at) result old new
  BlankTo-failed result is step = record { tears = tears-piece step; written = on_err result _ is }

-- a piece of zeros
pub WritesZeros-piece : (most at count : ℕ) (result : Result (Unit {0}) Failed) (old new : Told) → count ≤ most
    → Writes at (take count (replicate most 0)) result old new → WritesZeros at count result old new
WritesZeros-piece most at count result old new few wrote =
    let bytes = take-replicate count most 0 few in
    let size : length (take count (replicate {A = ℕ} most 0)) ≡ count = ap length bytes ∙ length-replicate {A = ℕ} count 0 in
    record {
      tears = rw size at wrote.tears;
      written = on_ok_weaker result (λ is. is ∙ ap (overwrite old.content at) bytes) wrote.written;
    }
