-- How entries come into the file: all of them behind the gate of the first, and then that gate.
use Rattle.ss_journal.proofs.Common.{List, Ok, Result, [], ap, arith, drop, inl, inr, length, suc, sym, take, ℕ, ⊎_elim, ◌+◌, ◌-◌, ◌*◌, ◌<◌, ◌∙◌, ◌∷◌, ◌≡◌, ◌≤◌}
use Rattle.ss_journal.proofs.Common.{◌⊎◌, cases_Bool, cases_lt, eqb-true, ext_get_or, length-drop, take_all, on_ok_weaker, IsErr, slice_index, joined, weaker}
use Rattle.ss_journal.proofs.Common.{get_or-overwrite_inside, get_or-overwrite_outside, length-overwrite, NothingPending, Told, overwrite, LeavesOnly, Failed}
use Rattle.ss_journal.proofs.Common.{IsClosed, entry_place, opens, EndsBefore, SlotMap, StandsFor, Durably, Enters, Writes, DiffersAt, length_with}
use Rattle.ss_journal.proofs.CommitLemmas.{StandsFor-closed}
use Rattle.ss_journal.proofs.HeaderLemmas.{is_born-parts}
use Rattle.ss_journal.proofs.RangeLemmas.{DiffersIn-overwrite, get_or-differs, length-differs}
use Rattle.ss_journal.proofs.ShownLemmas.{open-bytes}
use Rattle.ss_journal.proofs.TearLemmas.{on_err, tears-content}

-- entries from number n on: their first gate, and the rest of their bytes
module _ (n : ℕ) (bytes content : List ℕ) (free : n < 64) (few : 544 * n + length (165 ∷ bytes) ≤ 544 * 64) (ends : EndsBefore n content) where
  -- all but the first gate is written
  abbrev behind : List ℕ
  behind = overwrite content (entry_place n + 1) bytes

  long : 36864 ≤ length content
  long = (is_born-parts content ends.born).0

  pub within : entry_place n + 1 ≤ length content
  within = omega (arith, long, free)

  end : entry_place n + 1 + length bytes ≤ 36864
  end = omega (arith, few)

  length-behind : length behind ≡ length content
  length-behind = omega (arith, long, end, length-overwrite content bytes (entry_place n + 1) within)

  pub within-behind : entry_place n ≤ length behind
  within-behind = omega (arith, within, length-behind)

  -- an image in which the rest is lost, torn or whole stands for the map before
  pub StandsFor-behind : (image : List ℕ) (found : SlotMap) → StandsFor content found → DiffersAt (entry_place n + 1) (length bytes) content image
      → StandsFor image found
  StandsFor-behind image found is differs =
      let ranges : List (ℕ × ℕ) = (entry_place n + 1, length bytes) ∷ [] in
      let inside : length_with ranges (length content) ≤ length content = omega (arith, long, end) in
      let same : (place : ℕ) → (place < entry_place n + 1) ⊎ (entry_place n + 1 + length bytes ≤ place) → slice_index image place ≡ slice_index content place =
      λ place out. get_or-differs ranges content image inside differs place (out, tt) in
      let closed : IsClosed n image = rw (same (entry_place n) (inl (omega arith))) ends.closed in
      StandsFor-closed n content image ends free (length-differs ranges content image inside differs)
      (λ place out. same place (⊎_elim (λ below. inl (omega (arith, below))) (λ from. inr (omega (arith, from, end))) out)) closed found is

  -- the gate on top makes it the content with all of the bytes
  abbrev entered : List ℕ
  entered = overwrite content (entry_place n) (165 ∷ bytes)

  within-entered : entry_place n ≤ length content
  within-entered = omega (arith, within)

  length-entered : length entered ≡ length content
  length-entered = omega (arith, long, end, length-overwrite content (165 ∷ bytes) (entry_place n) within-entered)

  entered-gate : slice_index entered (entry_place n) ≡ 165
  entered-gate =
      let here : entry_place n ≡ entry_place n + 0 = omega arith in
      ap (slice_index entered) here ∙ get_or-overwrite_inside content (165 ∷ bytes) (entry_place n) within-entered 0 (omega arith)

  inside_rest : (place : ℕ) → (k : ℕ) → place ≡ entry_place n + 1 + k → k < length bytes → slice_index behind place ≡ slice_index entered place
  inside_rest place k is lt =
      let there : place ≡ entry_place n + suc k = omega (arith, is) in
      ap (slice_index behind) is ∙ get_or-overwrite_inside content bytes (entry_place n + 1) within k lt
      ∙ sym (ap (slice_index entered) there ∙ get_or-overwrite_inside content (165 ∷ bytes) (entry_place n) within-entered (suc k) (omega (arith, lt)))

  -- beside the gate they agree
  entered-beside : (place : ℕ) → (place < entry_place n) ⊎ (entry_place n + 1 ≤ place) → slice_index behind place ≡ slice_index entered place
  entered-beside place (inl below) =
      get_or-overwrite_outside content bytes (entry_place n + 1) within place (inl (omega (arith, below)))
      ∙ sym (get_or-overwrite_outside content (165 ∷ bytes) (entry_place n) within-entered place (inl below))
  entered-beside place (inr from) = elim (cases_lt place (entry_place n + 1 + length bytes)) [
    | inl lt ↦ inside_rest place (place - (entry_place n + 1)) (omega (arith, from)) (omega (arith, from, lt))
    | inr above ↦
        get_or-overwrite_outside content bytes (entry_place n + 1) within place (inr above)
        ∙ sym (get_or-overwrite_outside content (165 ∷ bytes) (entry_place n) within-entered place (inr (omega (arith, above))))
  ]

  -- an image in which the gate is lost, torn or whole
  module _ (image : List ℕ) (differs : DiffersAt (entry_place n) 1 behind image) where
    abbrev gate : List (ℕ × ℕ)
    gate = (entry_place n, 1) ∷ []

    inside-gate : length_with gate (length behind) ≤ length behind
    inside-gate = omega (arith, within, length-behind)

    size-gate : length image ≡ length content
    size-gate = length-differs gate behind image inside-gate differs ∙ length-behind

    same-gate : (place : ℕ) → (place < entry_place n) ⊎ (entry_place n + 1 ≤ place) → slice_index image place ≡ slice_index behind place
    same-gate place out = get_or-differs gate behind image inside-gate differs place (out, tt)

    beside-gate : (place : ℕ) → (place < entry_place n) ⊎ (36864 ≤ place) → slice_index image place ≡ slice_index content place
    beside-gate place (inl below) = same-gate place (inl below) ∙ get_or-overwrite_outside content bytes (entry_place n + 1) within place
        (inl (omega (arith, below)))
    beside-gate place (inr from) = same-gate place (inr (omega (arith, from, free))) ∙ get_or-overwrite_outside content bytes (entry_place n + 1) within place
        (inr (omega (arith, from, end)))

    -- with the gate open it is the content with all of them
    pub image-entered : slice_index image (entry_place n) ≡ 165 → image ≡ entered
    image-entered opened = ext_get_or 0 image entered (size-gate ∙ sym length-entered) (λ place lt. at_place place)
      where
        at_place : (place : ℕ) → slice_index image place ≡ slice_index entered place
        at_place place = elim (cases_lt place (entry_place n)) [
          | inl below ↦ same-gate place (inl below) ∙ entered-beside place (inl below)
          | inr from ↦ elim (cases_lt place (entry_place n + 1)) [
            | inl lt ↦
                let here : place ≡ entry_place n = omega (arith, from, lt) in
                ap (slice_index image) here ∙ opened ∙ sym (ap (slice_index entered) here ∙ entered-gate)
            | inr above ↦ same-gate place (inr above) ∙ entered-beside place (inr above)
          ]
        ]

    -- closed it leaves the map before
    pub StandsFor-gate : (before found : SlotMap) → StandsFor content before → StandsFor entered found → StandsFor image before ⊎ StandsFor image found
    StandsFor-gate before found is gives = elim (cases_Bool (opens (slice_index image (entry_place n)))) [
      | inl opened ↦ inr (rw (image-entered (eqb-true (slice_index image (entry_place n)) 165 opened)) gives)
      | inr closed ↦ inl (StandsFor-closed n content image ends free size-gate beside-gate closed before is)
    ]

  pub behind-entered : overwrite behind (entry_place n) (165 ∷ []) ≡ entered
  behind-entered =
      let here : entry_place n ≡ entry_place n + 0 = omega arith in
      image-entered (overwrite behind (entry_place n) (165 ∷ [])) (DiffersIn-overwrite (entry_place n) behind (165 ∷ []) within-behind)
      (ap (slice_index (overwrite behind (entry_place n) (165 ∷ []))) here
      ∙ get_or-overwrite_inside behind (165 ∷ []) (entry_place n) within-behind 0 (omega arith))

-- the same write, wherever and however its bytes are given
pub writes-as : {old new : Told} {result : Result (Unit {0}) Failed} (at place : ℕ) (given bytes : List ℕ) → at ≡ place → given ≡ bytes
    → Durably (Writes at given) result old new → Durably (Writes place bytes) result old new
writes-as {old} {new} {result} at place given bytes there same wrote = rw (same, there) at wrote

module _ (n : ℕ) (bytes : List ℕ) (old : Told) (free : n < 64) (few : 544 * n + length (165 ∷ bytes) ≤ 544 * 64) (ends : EndsBefore n old.content) where
  -- until the rest is durable a crash leaves the map before
  rest-leaves : {step : Result (Unit {0}) Failed} (new : Told) (before found : SlotMap) → NothingPending old → StandsFor old.content before
      → Durably (Writes (entry_place n + 1) bytes) step old new → LeavesOnly old new (λ image. StandsFor image before ⊎ StandsFor image found)
  rest-leaves new before found only is wrote =
      weaker old new (DiffersAt (entry_place n + 1) (length bytes) old.content) (λ image. StandsFor image before ⊎ StandsFor image found)
      (λ image differs. inl (StandsFor-behind n bytes old.content free few ends image before is differs))
      (tears-content old new ((entry_place n + 1, length bytes) ∷ []) only wrote.step.tears)

  pub enters-failed : {step : Result (Unit {0}) Failed} (new : Told) (result : Result (Unit {0}) Failed) → IsErr result
      → Durably (Writes (entry_place n + 1) bytes) step old new → Enters n (165 ∷ bytes) result old new
  enters-failed new result is wrote = record {
    written = on_err result _ is;
    any_moment = λ only before found stands gives. rest-leaves new before found only stands wrote;
    durable = on_err result _ is;
  }

  module _ (mid : Told) (value : Unit {0}) (wrote : Durably (Writes (entry_place n + 1) bytes) (Ok value) old mid) where
    pub within-gate : entry_place n ≤ length mid.content
    within-gate = omega (arith, within-behind n bytes old.content free few ends, ap length wrote.step.written)

    pub gate-enters : (new : Told) (result : Result (Unit {0}) Failed) → Durably (Writes (entry_place n) (165 ∷ [])) result mid new
        → Enters n (165 ∷ bytes) result old new
    gate-enters new result opens = record {
      written = on_ok_weaker result
          (λ is. is ∙ ap (λ (list : List ℕ). overwrite list (entry_place n) (165 ∷ [])) wrote.step.written
          ∙ behind-entered n bytes old.content free few ends)
          opens.step.written;
      any_moment = λ only before found is gives.
          let P : List ℕ → Type 0 = λ image. StandsFor image before ⊎ StandsFor image found in
          joined old mid new P (rest-leaves mid before found only is wrote)
          (weaker mid new (DiffersAt (entry_place n) 1 mid.content) P
          (λ image differs. StandsFor-gate n bytes old.content free few ends image (rw wrote.step.written at differs) before found is gives)
          (tears-content mid new ((entry_place n, 1) ∷ []) wrote.durable opens.step.tears));
      durable = opens.durable;
    }

pub within-open : (n : ℕ) (content : List ℕ) → n < 64 → EndsBefore n content → entry_place n + 1 ≤ length content
within-open n content free ends = omega (arith, (is_born-parts content ends.born).0, free)

-- the same of bytes that begin with an open gate, in the parts in which they are written
module _ (n : ℕ) (all : List ℕ) (old : Told) (free : n < 64) (some : 0 < length all) (gate : slice_index all 0 ≡ 165)
    (few : 544 * n + length all ≤ 544 * 64) (ends : EndsBefore n old.content) where
  is-open : all ≡ 165 ∷ drop 1 all
  is-open = open-bytes all some gate

  few-open : 544 * n + length (165 ∷ drop 1 all) ≤ 544 * 64
  few-open = rw is-open at few

  -- all but the gate
  tail : (at : ℕ) (mid : Told) (result : Result (Unit {0}) Failed) → at ≡ entry_place n
      → Durably (Writes (at + 1) (take (length all - 1) (drop 1 all))) result old mid → Durably (Writes (entry_place n + 1) (drop 1 all)) result old mid
  tail at mid result there wrote = writes-as (at + 1) (entry_place n + 1) (take (length all - 1) (drop 1 all)) (drop 1 all) (ap (λ (p : ℕ). p + 1) there)
      (take_all (length all - 1) (drop 1 all) (omega (arith, length-drop 1 all))) wrote

  pub open-failed : {step : Result (Unit {0}) Failed} (at : ℕ) (new : Told) (result : Result (Unit {0}) Failed) → IsErr result → at ≡ entry_place n
      → Durably (Writes (at + 1) (take (length all - 1) (drop 1 all))) step old new → Enters n all result old new
  open-failed {step} at new result is there wrote = rw is-open
      (enters-failed n (drop 1 all) old free few-open ends new result is (tail at new step there wrote))

  module _ (at : ℕ) (mid : Told) (value : Unit {0}) (there : at ≡ entry_place n)
      (wrote : Durably (Writes (at + 1) (take (length all - 1) (drop 1 all))) (Ok value) old mid) where
    pub within-open_gate : entry_place n ≤ length mid.content
    within-open_gate = within-gate n (drop 1 all) old free few-open ends mid value (tail at mid (Ok value) there wrote)

    pub open-enters : (place : ℕ) (new : Told) (result : Result (Unit {0}) Failed) → place ≡ entry_place n
        → Durably (Writes place (take 1 all)) result mid new → Enters n all result old new
    open-enters place new result here opens = rw is-open
        (gate-enters n (drop 1 all) old free few-open ends mid value (tail at mid (Ok value) there wrote) new result
        (writes-as place (entry_place n) (take 1 all) (165 ∷ []) here (ap (take 1) is-open) opens))
