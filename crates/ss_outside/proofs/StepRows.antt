-- Rows that pin what a call of a disk says, field by field, and what a crash at any moment of it leaves.
use Rattle.std.proofs.Common.{◌≡◌, ◌⊎◌, inl, inr, ◌↔◌, ℕ, ◌+◌, ◌≤◌, max, List, EachIndex, Result, Ok, Err, length, slice_index, IsErr, arith}
use Rattle.std.proofs.lemmas.Bool.{false≢true}
use Rattle.ss_outside.specs.Crash.{Elapses, KnowsNow, LeavesOnly, OnlyReads}
use Rattle.ss_outside.specs.Disk.{AreBytes, BecomesPending, IsOutside, IsReadFrom, NothingPending, StaysSame, SyncsAtMost, Told, Torn, overwrite}
use Rattle.ss_outside.specs.Step.{Measures, ReadsAt, Syncs, WritesAt}
use Rattle.ss_outside.specs.declared.source.Failed.{Failed}

module _ (old new : Told) where
  Measures-Ok : (n : ℕ) → Measures (Ok n) old new → n ≡ length old.content
  Measures-Ok n step = step.length

  Measures-reads : (result : Result ℕ Failed) → Measures result old new → OnlyReads old new
  Measures-reads result step = step.reads

  ReadsAt-Ok : (at : ℕ) (into : List ℕ) → ReadsAt at into (Ok tt) old new → IsReadFrom old.content at into
  ReadsAt-Ok at into step = step.bytes

  ReadsAt-reads : (at : ℕ) (into : List ℕ) (result : Result Unit Failed) → ReadsAt at into result old new → OnlyReads old new
  ReadsAt-reads at into result step = step.reads

  WritesAt-Ok : (at : ℕ) (bytes : List ℕ) → WritesAt at bytes (Ok tt) old new → new.content ≡ overwrite old.content at bytes
  WritesAt-Ok at bytes step = step.written

  WritesAt-time : (at : ℕ) (bytes : List ℕ) (result : Result Unit Failed) → WritesAt at bytes result old new → Elapses old new
  WritesAt-time at bytes result step = step.time

  -- a write that answers Ok leaves its range pending, and nothing else
  WritesAt-pending : (at : ℕ) (bytes : List ℕ) → WritesAt at bytes (Ok tt) old new → BecomesPending at (length bytes) old new
  WritesAt-pending at bytes step = from step.pending where
    from : BecomesPending at (length bytes) old new ⊎ (IsErr {T = Unit {0}} {E = Failed} (Ok tt) × StaysSame old new) → BecomesPending at (length bytes) old new
    from (inl is) = is
    from (inr none) = absurd (false≢true none.0)

  Syncs-Ok : Syncs (Ok tt) old new → NothingPending new
  Syncs-Ok step = step.durable

  Syncs-Err : (e : Failed) → Syncs (Err e) old new → StaysSame old new
  Syncs-Err e step = step.pending

  Syncs-one : Syncs (Ok tt) old new → new.syncs ≡ old.syncs + 1
  Syncs-one step = step.syncs

  Syncs-none : (e : Failed) → Syncs (Err e) old new → new.syncs ≡ old.syncs
  Syncs-none e step = step.pending.syncs

  Syncs-content : (result : Result Unit Failed) → Syncs result old new → new.content ≡ old.content
  Syncs-content result step = step.content

  Syncs-no_other : (result : Result Unit Failed) → Syncs result old new → (image : List ℕ) → new.may_leave image → old.may_leave image
  Syncs-no_other result step = step.no_other

  Syncs-time : (result : Result Unit Failed) → Syncs result old new → Elapses old new
  Syncs-time result step = step.time

  -- twice at most
  SyncsAtMost-twice : new.syncs ≡ old.syncs + 2 → SyncsAtMost 2 old new
  SyncsAtMost-twice two = omega (arith, two)

  SyncsAtMost-thrice : new.syncs ≡ old.syncs + 3 → SyncsAtMost 2 old new → ⊥
  SyncsAtMost-thrice three few = omega (arith, three, few)

  OnlyReads-content : OnlyReads old new → new.content ≡ old.content
  OnlyReads-content reads = reads.same.content

  OnlyReads-images : OnlyReads old new → (image : List ℕ) → old.may_leave image ↔ new.may_leave image
  OnlyReads-images reads = reads.same.images

  OnlyReads-syncs : OnlyReads old new → new.syncs ≡ old.syncs
  OnlyReads-syncs reads = reads.same.syncs

  OnlyReads-time : OnlyReads old new → Elapses old new
  OnlyReads-time reads = reads.time

  Elapses-later : Elapses old new → old.moment ≤ new.moment
  Elapses-later time = time.later

  Elapses-nothing_else : Elapses old new → (moment : ℕ) (image : List ℕ) → moment ≤ old.moment → new.left_since moment image →
      old.left_since moment image ⊎ new.may_leave image
  Elapses-nothing_else time = time.nothing_else

  Elapses-keeps : Elapses old new → (moment : ℕ) (image : List ℕ) → moment ≤ old.moment → old.left_since moment image → new.left_since moment image
  Elapses-keeps time = time.keeps

  LeavesOnly-each : (P : List ℕ → Type 0) → LeavesOnly old new P → (image : List ℕ) → new.left_since old.moment image → P image
  LeavesOnly-each P leaves = leaves.each

  LeavesOnly-earlier : (P : List ℕ → Type 0) → LeavesOnly old new P → (moment : ℕ) (image : List ℕ) → moment ≤ old.moment →
      new.left_since moment image → old.left_since moment image ⊎ P image
  LeavesOnly-earlier P leaves = leaves.earlier

  BecomesPending-nothing_else : (at count : ℕ) → BecomesPending at count old new → (image : List ℕ) → new.may_leave image →
      (was : List ℕ) × old.may_leave was × Torn at count was image
  BecomesPending-nothing_else at count pending = pending.nothing_else

  BecomesPending-syncs : (at count : ℕ) → BecomesPending at count old new → new.syncs ≡ old.syncs
  BecomesPending-syncs at count pending = pending.syncs

  BecomesPending-each : (at count : ℕ) → BecomesPending at count old new → (was image : List ℕ) → old.may_leave was → Torn at count was image →
      new.may_leave image
  BecomesPending-each at count pending = pending.each

module _ (disk : Told) where
  KnowsNow-content : KnowsNow disk → disk.may_leave disk.content
  KnowsNow-content knows = knows.content_is_image

  KnowsNow-counts : KnowsNow disk → (moment : ℕ) (image : List ℕ) → moment ≤ disk.moment → disk.may_leave image → disk.left_since moment image
  KnowsNow-counts knows = knows.counts_now

  KnowsNow-only : KnowsNow disk → (image : List ℕ) → disk.left_since disk.moment image → disk.may_leave image
  KnowsNow-only knows = knows.only_now

-- a torn image is a front of what was or grew to the end of the range, and is as before outside it
module _ (at count : ℕ) (old new : List ℕ) where
  Torn-no_shorter : Torn at count old new → length old ≤ length new
  Torn-no_shorter torn = torn.no_shorter

  Torn-no_longer : Torn at count old new → length new ≤ max (length old) (at + count)
  Torn-no_longer torn = torn.no_longer

  Torn-kept : Torn at count old new → EachIndex old (λ place. IsOutside at count place → slice_index new place ≡ slice_index old place)
  Torn-kept torn = torn.kept

  Torn-bytes : Torn at count old new → AreBytes new
  Torn-bytes torn = torn.bytes

  -- and every such image may be left
  Torn-each : length old ≤ length new → length new ≤ max (length old) (at + count) →
      EachIndex old (λ place. IsOutside at count place → slice_index new place ≡ slice_index old place) → AreBytes new → Torn at count old new
  Torn-each no_shorter no_longer kept bytes = record { no_shorter = no_shorter; no_longer = no_longer; kept = kept; bytes = bytes }
