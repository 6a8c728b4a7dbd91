-- Runs of puts for neighbouring slots: their writes, one after another, are one write.
use Rattle.ss_journal.proofs.Common.{List, [], ap, arith, drop, get_or, inl, inr, length, refl, suc, sym, take, zero, ℕ, ⊎_elim, ◌++◌, ◌+◌, ◌*◌, ◌-◌, ◌<◌, ◌^◌}
use Rattle.ss_journal.proofs.Common.{◌∙◌, ◌∷◌, ◌≡◌, ◌≤◌, cases_eq, cases_lt, cond-false, cond-true, eq-eqb, ne_eqb, All-head, All-tail, append-nil}
use Rattle.ss_journal.proofs.Common.{append_assoc, length-append, length-overwrite, IsOutside, IsOutsideAll, overwrite, slot_form, Kind, slot_place, slots_in}
use Rattle.ss_journal.proofs.Common.{FillSlots, AreSlots, HasSlotsFor, length_with, run_bytes, run_length, slot_ranges, slots_written, Put}
use Rattle.ss_journal.proofs.CheckLemmas.{length-slot_form}
use Rattle.ss_journal.proofs.PutLemmas.{slots_fit-cases}
use Rattle.ss_journal.proofs.RangeLemmas.{Covers, overwrite-none, overwrite-overwrite}
use Rattle.ss_journal.proofs.SlotLemmas.{length-written, slots-written}

run-cases : (slot n : ℕ) (put : Put) (puts : List Put) → n < run_length slot (put ∷ puts) → (put.slot ≡ slot) × (n ≤ run_length (slot + 1) puts)
run-cases slot n put puts lt = elim (cases_eq put.slot slot) [
  | inl same ↦
      let more : run_length slot (put ∷ puts) ≡ run_length (slot + 1) puts + 1 = cond-true _ _ _ (eq-eqb put.slot slot same) in
      (same, omega (arith, more, lt))
  | inr other ↦ let none : run_length slot (put ∷ puts) ≡ 0 = cond-false _ _ _ (ne_eqb put.slot slot other) in absurd (omega (arith, none, lt))
]

-- a run begins with a put for its first slot, and has no more puts than there are
pub run_length-some : (puts : List Put) (d : Put) → 0 < length puts → 0 < run_length (get_or puts 0 d).slot puts
run_length-some [] d lt = absurd (omega (arith, lt))
run_length-some (put ∷ puts) d lt =
    let more : run_length put.slot (put ∷ puts) ≡ run_length (put.slot + 1) puts + 1 = cond-true _ _ _ (eq-eqb put.slot put.slot refl) in
    omega (arith, more)

pub run_length-le : (slot n : ℕ) (puts : List Put) → n ≤ run_length slot puts → n ≤ length puts
run_length-le slot zero puts le = omega arith
run_length-le slot (suc n) [] le = absurd (omega (arith, le))
run_length-le slot (suc n) (put ∷ puts) le = omega (arith, run_length-le (slot + 1) n puts (run-cases slot n put puts (omega (arith, le))).1)

-- the bytes of a run
pub run_bytes-more : (kind : Kind) (puts : List Put) (k : ℕ) (d : Put) → k < length puts
    → run_bytes kind (take k puts) ++ slot_form kind (get_or puts k d).slot (get_or puts k d).bytes ≡ run_bytes kind (take (k + 1) puts)
run_bytes-more kind [] k d lt = absurd (omega (arith, lt))
run_bytes-more kind (put ∷ puts) zero d lt = sym (append-nil (slot_form kind put.slot put.bytes))
run_bytes-more kind (put ∷ puts) (suc k) d lt =
    let form = slot_form kind put.slot put.bytes in
    let one = slot_form kind (get_or puts k d).slot (get_or puts k d).bytes in
    let next : suc (k + 1) ≡ suc k + 1 = omega arith in
    append_assoc form (run_bytes kind (take k puts)) one ∙ ap (λ (rest : List ℕ). form ++ rest) (run_bytes-more kind puts k d (omega (arith, lt)))
    ∙ ap (λ (n : ℕ). run_bytes kind (take n (put ∷ puts))) next

pub length-run_bytes : (kind : Kind) (puts : List Put) → FillSlots puts → length (run_bytes kind puts) ≡ 128 * length puts
length-run_bytes kind [] whole = refl
length-run_bytes kind (put ∷ puts) whole =
    let P = λ (p : Put). length p.bytes ≡ 128 in
    omega (
      arith,
      length-append (slot_form kind put.slot put.bytes) (run_bytes kind puts),
      length-slot_form kind put.slot put.bytes,
      All-head P put puts whole,
      length-run_bytes kind puts (All-tail P put puts whole),
    )

-- the writes of a run are one
pub slots_written-run : (kind : Kind) (puts : List Put) (slot n : ℕ) (content : List ℕ) → n ≤ run_length slot puts → FillSlots (take n puts)
    → slot_place slot ≤ length content
    → slots_written kind (take n puts) content ≡ overwrite content (slot_place slot) (run_bytes kind (take n puts))
slots_written-run kind puts slot zero content le whole within = overwrite-none content (slot_place slot) within
slots_written-run kind [] slot (suc n) content le whole within = absurd (omega (arith, le))
slots_written-run kind (put ∷ puts) slot (suc n) content le whole within =
    let P = λ (p : Put). length p.bytes ≡ 128 in
    let parts = run-cases slot n put puts (omega (arith, le)) in
    let form = slot_form kind put.slot put.bytes in
    let rest = run_bytes kind (take n puts) in
    let full : length form ≡ 128 = length-slot_form kind put.slot put.bytes ∙ All-head P put (take n puts) whole in
    let here : slot_place put.slot ≤ length content = omega (arith, within, parts.0) in
    let next = overwrite content (slot_place put.slot) form in
    let grown : slot_place (slot + 1) ≤ length next = omega (arith, length-overwrite content form (slot_place put.slot) here, full, parts.0) in
    slots_written-run kind puts (slot + 1) n next parts.1 (All-tail P put (take n puts) whole) grown
    ∙ overwrite-overwrite content form rest (slot_place put.slot) (slot_place (slot + 1)) here (omega (arith, full, parts.0))
    ∙ ap (λ (at : ℕ). overwrite content (slot_place at) (form ++ rest)) parts.0

-- and end within the file's next slot
pub within-run : (puts : List Put) (slot : ℕ) (content : List ℕ) → 0 < run_length slot puts → HasSlotsFor puts content → slot_place slot ≤ length content
within-run [] slot content some room = absurd (omega (arith, some))
within-run (put ∷ puts) slot content some room =
    let cases = slots_fit-cases put puts (slots_in (length content)) room.fit in
    omega (arith, cases.0, room.long, (run-cases slot 0 put puts some).0)

-- torn, a run is torn in its slots
outside-run : (puts : List Put) (slot n place : ℕ) → n ≤ run_length slot puts → IsOutsideAll (slot_ranges puts) place
    → IsOutside (slot_place slot) (128 * n) place
outside-run puts slot zero place le out = elim (cases_lt place (slot_place slot)) [ inl lt ↦ inl lt | inr from ↦ inr (omega (arith, from)) ]
outside-run [] slot (suc n) place le out = absurd (omega (arith, le))
outside-run (put ∷ puts) slot (suc n) place le out =
    let parts = run-cases slot n put puts (omega (arith, le)) in
    ⊎_elim (λ below. inl (omega (arith, below, parts.0)))
    (λ above. ⊎_elim (λ low. absurd (omega (arith, low, above, parts.0))) (λ high. inr (omega (arith, high)))
    (outside-run puts (slot + 1) n place parts.1 out.1)) out.0

end-run : (puts : List Put) (slot n size : ℕ) → n < run_length slot puts → slot_place slot + 128 * (n + 1) ≤ length_with (slot_ranges puts) size
end-run [] slot n size lt = absurd (omega (arith, lt))
end-run (put ∷ puts) slot zero size lt = omega (arith, (run-cases slot 0 put puts lt).0)
end-run (put ∷ puts) slot (suc n) size lt =
    omega (arith, end-run puts (slot + 1) n size (let parts = run-cases slot (suc n) put puts lt in omega (arith, parts.1)))

outside-drop : (k : ℕ) (puts : List Put) (place : ℕ) → IsOutsideAll (slot_ranges puts) place → IsOutsideAll (slot_ranges (drop k puts)) place
outside-drop zero puts place out = out
outside-drop (suc k) [] place out = tt
outside-drop (suc k) (put ∷ puts) place out = outside-drop k puts place out.1

end-drop : (k : ℕ) (puts : List Put) (size : ℕ) → length_with (slot_ranges (drop k puts)) size ≤ length_with (slot_ranges puts) size
end-drop zero puts size = omega arith
end-drop (suc k) [] size = omega arith
end-drop (suc k) (put ∷ puts) size = omega (arith, end-drop k puts size)

pub Covers-run : (puts : List Put) (k slot n : ℕ) → 0 < n → n ≤ run_length slot (drop k puts) → Covers (slot_ranges puts) (slot_place slot) (128 * n)
Covers-run puts k slot n some le = record {
  outside = λ place out. outside-run (drop k puts) slot n place le (outside-drop k puts place out);
  end = λ size. omega (arith, some, end-run (drop k puts) slot (n - 1) size (omega (arith, some, le)), end-drop k puts size);
}

-- puts that are written after others
pub slots_written-append : (kind : Kind) (first second : List Put) (content : List ℕ)
    → slots_written kind (first ++ second) content ≡ slots_written kind second (slots_written kind first content)
slots_written-append kind [] second content = refl
slots_written-append kind (put ∷ first) second content =
    slots_written-append kind first second (overwrite content (slot_place put.slot) (slot_form kind put.slot put.bytes))

pub HasSlotsFor-append : (kind : Kind) (first second : List Put) (content : List ℕ) → AreSlots first → FillSlots first
    → HasSlotsFor (first ++ second) content → HasSlotsFor second (slots_written kind first content)
HasSlotsFor-append kind [] second content slots whole room = room
HasSlotsFor-append kind (put ∷ first) second content slots whole room =
    let Fills = λ (p : Put). length p.bytes ≡ 128 in
    let Is = λ (p : Put). p.slot < 2 ^ 20 in
    let cases = slots_fit-cases put (first ++ second) (slots_in (length content)) room.fit in
    let below = All-head Is put first slots in
    let full = All-head Fills put first whole in
    let grown = length-written kind put content room.long cases.0 below full in
    HasSlotsFor-append kind first second (overwrite content (slot_place put.slot) (slot_form kind put.slot put.bytes))
    (All-tail Is put first slots) (All-tail Fills put first whole) (record {
      long = omega (arith, grown, room.long);
      fit = rw (slots-written kind put content room.long cases.0 below full) cases.1;
    })
