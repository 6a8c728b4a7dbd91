-- A store is made a checked one before it is formatted.
use Rattle.ss_journal.proofs.Common.{Err, IsFalse, IsTrue, List, Ok, Result, ap, arith, inl, inr, length, nat_le, not, refl, sym, true, ℕ, ◌==◌, ◌||◌}
use Rattle.ss_journal.proofs.Common.{◌∙◌, ◌≡◌, ◌<◌, Bool, ◌&&◌, and_from, and_parts, both_ways, cases_Bool, eq-eqb, eqb-true, le-leb, leb-true, ne_eqb}
use Rattle.ss_journal.proofs.Common.{not-true, not_from_false, or_cases, or_left, or_right, IsErr, slice_index, KnowsNow, OnlyReads, Told, overwrite, Failed}
use Rattle.ss_journal.proofs.Common.{Begins, has_no_kind, MakesChecked, has_magic, has_magic_of, is_born, is_plain, is_unborn, kind_of, magic, SlotMap}
use Rattle.ss_journal.proofs.Common.{StandsFor, Durably, Reaches, Writes, DiffersAt, Checked, Plain}
use Rattle.std.specs.Prelude.{IfOk}
use Rattle.ss_journal.specs.Birth.{IsMarked}
use Rattle.ss_journal.proofs.BirthLemmas.{SameRest-overwrite, SameRest-trans, StandsFor-unborn, is_magic-overwrite}
use Rattle.ss_journal.proofs.HeaderLemmas.{is_born-parts, is_unborn-cases, is_unborn-zero, kind_of-checked, long-has_magic_of}
use Rattle.ss_journal.proofs.RangeLemmas.{DiffersIn-overwrite}
use Rattle.ss_journal.proofs.StepLemmas.{reaches-joined, reaches-rewritten}
use Rattle.ss_journal.proofs.TearLemmas.{keeps-joined, keeps-read, on_err}

-- the magic is written where the first byte is 0
module _ (content : List ℕ) (some : 0 < length content) (zero : slice_index content 0 ≡ 0) where
  StandsFor-marked : (found : SlotMap) (image : List ℕ) → StandsFor content found → DiffersAt 1 8 content image → StandsFor image found
  StandsFor-marked found image is differs =
      let first : slice_index image 0 ≡ 0 = differs.kept 0 some (inl (omega arith), tt) ∙ zero in
      StandsFor-unborn content image found (is_unborn-zero content zero) is (is_unborn-zero image first)
      (omega (arith, differs.no_shorter, differs.no_longer))

  is-marked : IsMarked content (overwrite content 1 (magic Checked))
  is-marked =
      let there = is_magic-overwrite Checked content some in
      let first : slice_index (overwrite content 1 (magic Checked)) 0 ≡ 0 =
      (DiffersIn-overwrite 1 content (magic Checked) (omega (arith, some))).kept 0 some (inl (omega arith), tt) ∙ zero in
      (is_unborn-zero (overwrite content 1 (magic Checked)) first, there.1, SameRest-overwrite content 1 (magic Checked) (omega (arith, some)) (omega arith))

pub marked-joined : (old begun new : Told) (first : Unit {0}) (result : Result (Unit {0}) Failed) → IsTrue (has_no_kind old.content)
    → Reaches Begins (Ok first) old begun → Durably (Writes 1 (magic Checked)) result begun new → Durably (Reaches IsMarked) result old new
marked-joined old begun new first result free begins wrote =
    let some = begins.reached.0.there.some in
    let zero = begins.reached.1 free in
    record {
      step = reaches-joined {S = IsMarked} first result begins
          (reaches-rewritten IsMarked result wrote.step (λ only. wrote.durable)
          (λ found image is differs. StandsFor-marked begun.content some zero found image is differs)
          (DiffersIn-overwrite 1 begun.content (magic Checked) (omega (arith, some)))
          (is-marked begun.content some zero))
          (λ was is. (is.0, is.1, SameRest-trans old.content begun.content new.content was.0.rest is.2));
      durable = wrote.durable;
    }

-- the parts of a plain store
is_plain-parts : (content : List ℕ) → IsTrue (is_plain content) → IsTrue (not (slice_index content 0 == 0)) × IsTrue (has_magic_of Plain content)
is_plain-parts content plain =
    let outer = and_parts ((is_born content || is_unborn content) && not (slice_index content 0 == 0)) (has_magic_of Plain content) plain in
    ((and_parts (is_born content || is_unborn content) (not (slice_index content 0 == 0)) outer.0).1, outer.1)

-- a file with which no kind stays is none
is_plain-free : (content : List ℕ) → IsTrue (has_no_kind content) → IsFalse (is_plain content)
is_plain-free content free = elim (cases_Bool (is_plain content)) [
  | inr other ↦ other
  | inl plain ↦
      let parts = is_plain-parts content plain in
      elim (or_cases (nat_le (length content) 1) (slice_index content 0 == 0) free) [
        | inl short ↦ absurd (omega (arith, leb-true (length content) 1 short, long-has_magic_of Plain content parts.1))
        | inr zero ↦ absurd (both_ways (slice_index content 0 == 0) (not-true (slice_index content 0 == 0) parts.0) zero)
      ]
]

-- a store with a magic that stays is plain or checked
kind-magic : (content : List ℕ) → IsFalse (is_plain content) → IsTrue (is_born content || is_unborn content) → (slice_index content 0 ≡ 0 → ⊥)
    → IsTrue (has_magic content) → kind_of content ≡ Checked
kind-magic content other store live there = elim (or_cases (has_magic_of Plain content) (has_magic_of Checked content) there) [
  | inr checked ↦ kind_of-checked content checked
  | inl plain ↦ absurd (both_ways (is_plain content) other
      (and_from _ _ (and_from _ _ store (not_from_false _ (ne_eqb (slice_index content 0) 0 live))) plain))
]

-- a store that isn't plain is checked, if any kind stays with it
kind-other : (content : List ℕ) → IsFalse (is_plain content) → (IsTrue (is_unborn content) → IsFalse (has_no_kind content))
    → IsTrue (is_born content || is_unborn content) → kind_of content ≡ Checked
kind-other content other kept store = elim (or_cases (is_born content) (is_unborn content) store) [
  | inl born ↦
      let parts = is_born-parts content born in
      let gate : slice_index content 0 ≡ 165 = eqb-true (slice_index content 0) 165 parts.1 in
      kind-magic content other store (λ zero. omega (arith, gate, zero)) parts.2
  | inr unborn ↦
      let none : IsTrue (has_no_kind content) → ⊥ = both_ways (has_no_kind content) (kept unborn) in
      elim (is_unborn-cases content unborn) [
        | inl short ↦ absurd (none (or_left _ _ (le-leb (length content) 1 short)))
        | inr late ↦ elim late [
          | inl zero ↦ absurd (none (or_right _ _ (eq-eqb (slice_index content 0) 0 zero)))
          | inr there ↦ kind-magic content other store (λ zero. none (or_right _ _ (eq-eqb (slice_index content 0) 0 zero))) there.0
        ]
      ]
]

if_err : {T E : Type 0} (result : Result T E) (P : T → Type 0) → IsErr result → IfOk result P
if_err (Ok value) P is = absurd (cc)
if_err (Err error) P is = tt

module _ (old mid : Told) (knows : KnowsNow old) (reads : OnlyReads old mid) where
  -- nothing is written
  pub makes-read : (is : Bool) → is ≡ not (is_plain old.content) → (IsTrue (is_unborn old.content) → IsFalse (has_no_kind old.content))
      → MakesChecked (Ok is) old mid
  makes-read is same kept = record {
    keeps_map = keeps-read old mid (Ok is) knows reads;
    is = same;
    checked = λ yes store.
        let other = not-true (is_plain old.content) (sym same ∙ yes) in
        rw reads.same.content (kind-other old.content other kept (rw reads.same.content at store));
    unwritten = λ none. reads;
    rest = rw reads.same.content (λ place past. refl);
  }

  module _ (unborn : IsTrue (is_unborn old.content)) (free : IsTrue (has_no_kind old.content)) where
    no_store : {A : Type 0} → IsFalse (is_unborn old.content && has_no_kind old.content) → A
    no_store none = absurd (both_ways (is_unborn old.content && has_no_kind old.content) none (and_from _ _ unborn free))

    -- the file is marked
    pub makes-marked : (value : Unit {0}) (new : Told) → Durably (Reaches IsMarked) (Ok value) mid new → MakesChecked (Ok true) old new
    makes-marked value new marks =
        let keeps = keeps-joined old mid new (Ok value) value (keeps-read old mid (Ok value) knows reads) marks.step.keeps_map in
        record {
          keeps_map = record { map = keeps.map; any_moment = keeps.any_moment; durable = keeps.durable };
          is = sym (ap not (is_plain-free old.content free));
          checked = λ yes store. marks.step.reached.1;
          unwritten = no_store;
          rest = rw reads.same.content at marks.step.reached.2;
        }

    -- or isn't, since the disk failed
    pub makes-failed : {step : Result (Unit {0}) Failed} (result : Result Bool Failed) (new : Told) → IsErr result
        → Durably (Reaches IsMarked) step mid new → MakesChecked result old new
    makes-failed {step} result new is marks =
        let keeps = keeps-joined old mid new step (tt {0}) (keeps-read old mid (Ok (tt {0})) knows reads) marks.step.keeps_map in
        record {
          keeps_map = record {
            map = λ found gives. on_err result _ is;
            any_moment = keeps.any_moment;
            durable = λ only. on_err result _ is;
          };
          is = if_err result _ is;
          checked = if_err result _ is;
          unwritten = no_store;
          rest = if_err result _ is;
        }
