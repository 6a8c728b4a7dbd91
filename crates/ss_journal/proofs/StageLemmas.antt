-- A transaction is staged: what the journal shows has its puts.
use Rattle.ss_journal.proofs.Common.{IsTrue, List, [], ap, arith, length, refl, sym, ℕ, ◌++◌, ◌+◌, ◌<◌, ◌∙◌, ◌∷◌, ◌≡◌, ◌≤◌, All-weaker, All, HasStaged, Stages}
use Rattle.ss_journal.proofs.Common.{Kind, kind_of, slots_in, entry_count, group_bytes, EndsBefore, HasRoomFor, IfStaged, IsBounded, IsKept, IsSealed}
use Rattle.ss_journal.proofs.Common.{IsSettled, IsShown, JournalState, shown, staged_bytes, with_entries, DoAs, newest_after, FillSlots, IsTxn, extent_after}
use Rattle.ss_journal.proofs.Common.{slots_fit, slots_rise_from, SameMap, SlotMap, StandsFor, changed, puts_in_use, AreSlots, Settled, Put}
use Rattle.ss_journal.proofs.NextEntry.{AddsGroup, IsReadyFor}
use Rattle.ss_journal.proofs.CommitLemmas.{EndsBefore-ready}
use Rattle.ss_journal.proofs.GroupLemmas.{AddsGroup-written, StandsFor-written}
use Rattle.ss_journal.proofs.HeaderLemmas.{is_born-parts}
use Rattle.ss_journal.proofs.KeptLemmas.{IsReadyFor-settled, StandsFor-kept}
use Rattle.ss_journal.proofs.MapLemmas.{SameMap-refl, SameMap-trans, changed-same}
use Rattle.ss_journal.proofs.NewestLemmas.{All-newest_after, DoAs-staged, entry_count-more, entry_count-mono, few-newest_after, first-newest_after}
use Rattle.ss_journal.proofs.NewestLemmas.{fit-newest_after, rise-newest_after, some-newest_after, with_puts-newest_after}
use Rattle.ss_journal.proofs.PutLemmas.{AreSlots-rise, extent_after-append, extent_after-most, le-extent_after, slots_fit-below}
use Rattle.ss_journal.proofs.RedoLemmas.{StandsFor-also, StandsFor-from, StandsFor-parts, StandsFor-same, redo-born}
use Rattle.ss_journal.proofs.RoomLemmas.{held-after, room-after}
use Rattle.ss_journal.proofs.ShownLemmas.{IfStaged-from, kind-with_entries, length-group_bytes}

-- what staging makes of a journal
pub record IsStaged (puts : List Put) (was then : JournalState) : Type 0 where
  pub phase : then.phase ≡ Settled
  pub extent : then.extent ≡ extent_after puts was.extent
  pub in_use : then.in_use ≡ was.sealed + entry_count (length then.staged)
  pub waiting : then.waiting ≡ newest_after puts was.waiting
  pub sealed : then.sealed ≡ was.sealed
  pub staged : then.staged ≡ newest_after puts was.staged
  pub kind : then.kind ≡ was.kind

-- the content has room for what is staged
room-staged : (kind : Kind) (n : ℕ) (staged : List Put) (content : List ℕ) → IfStaged staged (HasRoomFor n staged content)
    → (staged ≡ [] → EndsBefore n content) → HasRoomFor n staged content
room-staged kind n [] content before ends = record { ends = ends refl; fit = refl }
room-staged kind n (put ∷ puts) content before ends = before

module _ (was then : JournalState) (puts : List Put) (bounded : IsBounded was) (settled : IsSettled was) (whole : FillSlots puts) (txn : IsTxn puts)
    (fit : IsTrue (slots_fit puts was.extent)) (free : was.in_use < 64) (rise-waiting : IsTrue (slots_rise_from 0 was.waiting))
    (rise-staged : IsTrue (slots_rise_from 0 was.staged)) (is : IsStaged puts was then) where
  are-slots : AreSlots puts
  are-slots = AreSlots-rise 0 puts txn.rise

  abbrev staged : List Put
  staged = newest_after puts was.staged

  whole-staged : FillSlots staged
  whole-staged = All-newest_after (λ (put : Put). length put.bytes ≡ 128) puts was.staged whole bounded.whole

  count-same : entry_count (length then.staged) ≡ entry_count (length staged)
  count-same = ap (λ (list : List Put). entry_count (length list)) is.staged

  -- an entry more at most
  in_use-staged : then.in_use ≤ was.in_use + 1
  in_use-staged =
      let most : length staged ≤ length was.staged + 4 = omega (arith, few-newest_after puts was.staged, txn.few) in
      omega (
        arith,
        is.in_use,
        bounded.number,
        count-same,
        entry_count-mono (length staged) (length was.staged + 4) most,
        entry_count-more 4 (length was.staged) (omega arith),
      )

  -- and one where nothing was staged
  first-staged : IsSealed was → then.in_use ≡ was.in_use + 1
  first-staged sealed =
      let all : staged ≡ puts = ap (newest_after puts) sealed ∙ first-newest_after puts txn.rise in
      let none : entry_count (length was.staged) ≡ 0 = ap (λ (list : List Put). entry_count (length list)) sealed in
      omega (arith, is.in_use, bounded.number, none, count-same, ap (λ (list : List Put). length list) all, txn.few, txn.some)

  some-staged : 0 < length then.staged
  some-staged = rw is.staged (some-newest_after puts was.staged txn.some)

  -- its numbers stay in their bounds
  pub IsBounded-staged : IsBounded then
  IsBounded-staged = record {
    extent = omega (arith, is.extent, extent_after-most puts was.extent txn bounded.extent);
    waiting = rw (is.waiting, is.extent) (All-newest_after (λ (put : Put). put.slot < extent_after puts was.extent) puts was.waiting
        (slots_fit-below puts was.extent fit) (All-more was.waiting was.extent (extent_after puts was.extent)
        (le-extent_after puts was.extent) bounded.waiting));
    unborn = λ same. absurd (cc (is.phase, same));
    in_use = omega (arith, in_use-staged, free);
    few = rw (is.waiting, is.staged, is.sealed) (omega (arith, bounded.few, room-after puts was.staged was.waiting bounded.held rise-waiting are-slots));
    held = rw (is.waiting, is.staged) (held-after puts was.staged was.waiting bounded.held);
    number = rw (is.in_use, ← is.sealed);
    whole = rw is.staged whole-staged;
  }
    where
      All-more : (list : List Put) (low high : ℕ) → low ≤ high → All (λ put. put.slot < low) list → All (λ put. put.slot < high) list
      All-more list low high le all = All-weaker (λ (p : Put). p.slot < low) (λ (p : Put). p.slot < high) (λ p lt. omega (arith, lt, le)) list all

  -- what that makes of the journal
  pub has-staged : (journal : JournalState) → was ≡ journal → HasStaged puts journal then
  has-staged journal same = rw (← same) (record {
    kind = is.kind;
    settled = is.phase;
    extent = is.extent;
    staged = is.staged;
    some = some-staged;
    number = is.in_use;
    in_use = in_use-staged;
    first = first-staged;
  })

  -- over a content that it keeps
  module _ (content : List ℕ) (kept : IsKept was content) where
    ready : IsReadyFor was.in_use puts (shown was content)
    ready = IsReadyFor-settled was (shown was content) settled kept.shown puts fit

    sealed-ends : was.staged ≡ [] → EndsBefore was.sealed content
    sealed-ends none =
        let count : was.in_use ≡ was.sealed = omega (arith, bounded.number, ap (λ (list : List Put). entry_count (length list)) none) in
        let same : shown was content ≡ content = ap (λ (list : List Put). with_entries was.sealed
        (group_bytes was.kind was.sealed (entry_count (length list)) list) content) none in
        rw (same, count) at (EndsBefore-ready was.in_use puts (shown was content) ready free)

    room : HasRoomFor was.sealed was.staged content
    room = room-staged was.kind was.sealed was.staged content kept.before sealed-ends

    abbrev base : SlotMap
    base = room.ends.found

    long : 36864 ≤ length content
    long = (is_born-parts content room.ends.born).0

    kind-same : was.kind ≡ kind_of content
    kind-same = kept.shown.kind ∙ kind-with_entries was.sealed (staged_bytes was) content long
        (omega (arith, bounded.number, free, length-group_bytes was.kind was.sealed (entry_count (length was.staged)) was.staged bounded.whole))

    -- the content, with what was staged
    before-added : AddsGroup was.sealed was.staged content (shown was content)
    before-added = AddsGroup-written was.kind was.sealed was.staged content kind-same room rise-staged bounded.whole (omega (arith, bounded.number, free))

    before-stands : (found : SlotMap) → StandsFor content found → StandsFor (shown was content) (changed found was.staged)
    before-stands = StandsFor-written was.kind was.sealed was.staged content kind-same room rise-staged bounded.whole (omega (arith, bounded.number, free))

    base-stands : StandsFor content base
    base-stands = StandsFor-from content base base room.ends.map (SameMap-refl base)

    same-shown : (found : SlotMap) → StandsFor (shown was content) found → SameMap (changed base was.staged) found
    same-shown found stands = StandsFor-same (shown was content) (changed base was.staged) found (before-stands base base-stands) stands

    extent-shown : extent_after was.staged base.extent ≡ was.extent
    extent-shown = (same-shown kept.shown.found (StandsFor-kept was (shown was content) settled kept.shown)).extent ∙ kept.shown.extent

    -- the new puts fit behind them
    both-fit : IsTrue (slots_fit staged base.extent) × (extent_after staged base.extent ≡ extent_after puts (extent_after was.staged base.extent))
    both-fit = fit-newest_after puts was.staged base.extent rise-staged are-slots room.fit (rw extent-shown fit)

    room-then : HasRoomFor was.sealed staged content
    room-then = record { ends = room.ends; fit = both-fit.0 }

    rise-then : IsTrue (slots_rise_from 0 staged)
    rise-then = rise-newest_after puts was.staged rise-staged are-slots

    free-then : was.sealed + entry_count (length staged) ≤ 64
    free-then = omega (arith, in_use-staged, is.in_use, count-same, free)

    more : shown then content ≡ with_entries was.sealed (group_bytes was.kind was.sealed (entry_count (length staged)) staged) content
    more = rw (is.sealed, is.kind, is.staged)

    added : AddsGroup was.sealed staged content (shown then content)
    added = rw more (AddsGroup-written was.kind was.sealed staged content kind-same room-then rise-then whole-staged free-then)

    same-changed : (found : SlotMap) → StandsFor (shown was content) found → SameMap (changed base staged) (changed found puts)
    same-changed found stands = SameMap-trans (changed base staged) (changed (changed base was.staged) puts) (changed found puts)
        (record {
          bytes = λ slot lt. with_puts-newest_after puts was.staged rise-staged are-slots base.bytes slot;
          extent = both-fit.1;
        })
        (changed-same puts (changed base was.staged) found (same-shown found stands))

    pub StandsFor-staged : (found : SlotMap) → StandsFor (shown was content) found → StandsFor (shown then content) (changed found puts)
    StandsFor-staged found stands = rw more (StandsFor-also _ (changed base staged) (changed found puts)
        (StandsFor-written was.kind was.sealed staged content kind-same room-then rise-then whole-staged free-then base base-stands)
        (same-changed found stands))

    -- the puts that wait do what those of the entries do
    waits : DoAs (puts_in_use (shown then content)) (slots_in (length (shown then content))) then.waiting
    waits =
        let size = slots_in (length content) in
        let redone = redo-born content base room.ends.born room.ends.map in
        let base-extent : base.extent ≡ extent_after (puts_in_use content) size = ap (λ (m : SlotMap). m.extent) redone.0 in
        let did : DoAs (puts_in_use content ++ was.staged) size was.waiting =
        rw (before-added.size, before-added.all) at kept.shown.waiting in
        let all-extent : extent_after (puts_in_use content ++ was.staged) size ≡ was.extent =
        extent_after-append (puts_in_use content) was.staged size ∙ ap (extent_after was.staged) (sym base-extent) ∙ extent-shown in
        let does : DoAs (puts_in_use content ++ staged) size (newest_after puts was.waiting) =
        DoAs-staged (puts_in_use content) was.staged puts was.waiting size rise-waiting rise-staged are-slots whole did (rw base-extent at room.fit)
        (rw all-extent fit) in
        rw (is.waiting, added.size, added.all) does

    shows-then : IsShown then (shown then content)
    shows-then =
        let parts = StandsFor-parts (shown then content) (changed kept.shown.found puts)
        (StandsFor-staged kept.shown.found (StandsFor-kept was (shown was content) settled kept.shown)) in
        let all : then.in_use ≡ was.sealed + entry_count (length staged) = omega (arith, is.in_use, count-same) in
        record {
          kind = is.kind ∙ kind-same ∙ sym added.kind;
          phase = rw is.phase (added.born, rw all added.closed);
          number = all ∙ added.number;
          waiting = waits;
          found = parts.0;
          map = parts.1;
          extent = parts.2.extent ∙ ap (extent_after puts) kept.shown.extent ∙ sym is.extent;
        }

    pub IsKept-staged : IsKept then content
    IsKept-staged = record {
      shown = shows-then;
      before = IfStaged-from then.staged (rw (is.sealed, is.staged) room-then);
    }

  pub stages : (journal : JournalState) (content : List ℕ) → was ≡ journal → Stages puts journal then content
  stages journal content same = rw (← same) (record { kept = IsKept-staged content; map = StandsFor-staged content })
