-- Copying the windows of a stream: what has been copied, and what a look leaves after another.
use Rattle.std.proofs.Common.{◌≡◌, ◌∙◌, ℕ, ◌+◌, ◌<◌, ◌≤◌, ◌++◌, List, [], ◌∷◌, length, take, take_all, Option, Some, None, IsSome, IfSome}
use Rattle.std.proofs.Common.{refl, sym, ap, subst, arith, inl, inr}
use Rattle.std.proofs.lemmas.List.{length-append, length-map, take_more}
use Rattle.std.proofs.lemmas.Option.{get_or_from_slice_get, slice_get_cases, slice_get_within}
use Rattle.std.specs.List.{Contains, slice_get}
use Rattle.std.specs.Prelude.{option_map}
use Rattle.ss_line.specs.Line.{StandsIn, entry_at, index_of, place_at}
use Rattle.ss_line.specs.declared.entry.At.{At}
use Rattle.ss_line.specs.declared.entry.Entry.{Entry}
use Rattle.ss_line.proofs.PlaceLemmas.{entry_at-stands}
use Rattle.ss_outside.specs.Disk.{DiskView, OfContent}
use Rattle.ss_outside.specs.Verdict.{Verdict, OnFine, fine, refused, no_memory, stopped, failed, changed}
use Rattle.ss_query.proofs.NextWindow.{Contains-slot}
use Rattle.ss_parts.specs.declared.parts.StreamParts.{StreamParts}
use Rattle.ss_store.specs.Applied.{Looks}
use Rattle.ss_store.specs.Errors.{stopped_after}
use Rattle.ss_store.specs.Kept.{SomeAgree, StoreIsKept, StoreState}
use Rattle.ss_journal.specs.Kept.{shown}
use Rattle.ss_records.specs.Kept.{RecordsState, shown_by}
use Rattle.ss_model.specs.Shown.{placed_of}
use Rattle.ss_model.specs.State.{Stream}
use Rattle.ss_model.specs.declared.types.Placed.{Placed}
use Rattle.ss_parts.specs.Held.{window_slots_of}
use Rattle.ss_stream.proofs.HeldCounts.{length-Agrees}
use Rattle.ss_sessions.specs.Cursors.{cursor_rows}

-- a fact of what there is, said of each
pub IfSome-each : {A : Type 0} (P : A → Type 0) (o : Option A) (a : A) → o ≡ Some a → IfSome o P → P a
IfSome-each P None a is holds = cc
IfSome-each P (Some b) a is holds = let same : b ≡ a = cc in subst P same holds

pub IfSome-all : {A : Type 0} (P : A → Type 0) (o : Option A) → ((a : A) → o ≡ Some a → P a) → IfSome o P
IfSome-all P None each = tt
IfSome-all P (Some a) each = each a refl

-- so many windows of a line have been copied, and this place is next
pub record AreCopied (entries : List (At × Entry)) (next_at : Option At) (count : ℕ) : Type 0 where
  pub within : count ≤ length entries
  pub next : next_at ≡ place_at entries count
  pub index : IfSome next_at (λ at. index_of entries at ≡ count)

pub copied-none : (entries : List (At × Entry)) (next : Option At) → next ≡ place_at entries 0 → IfSome next (λ at. index_of entries at ≡ 0) →
    AreCopied entries next 0
copied-none entries next is index = record { within = omega arith; next = is; index = index }

pub copied-more : (entries : List (At × Entry)) (at : At) (next : Option At) (count : ℕ) → AreCopied entries (Some at) count → StandsIn entries at →
    next ≡ place_at entries (index_of entries at + 1) → IfSome next (λ after. index_of entries after ≡ index_of entries at + 1) →
    AreCopied entries next (count + 1)
copied-more entries at next count so_far stands is index =
    let here : index_of entries at ≡ count = so_far.index in
    record {
      within = omega (arith, stands, here);
      next = subst (λ n. next ≡ place_at entries (n + 1)) here is;
      index = subst (λ n. IfSome next (λ after. index_of entries after ≡ n + 1)) here index;
    }

pub copied-all : (entries : List (At × Entry)) (next : Option At) (count : ℕ) → next ≡ None → AreCopied entries next count → count ≡ length entries
copied-all entries next count none so_far = elim (slice_get_cases entries count).1 [
  | inl inside ↦ (let past : None ≡ option_map (λ (e : At × Entry). e.0) (slice_get entries count) = sym none ∙ so_far.next in
      let wrong : None ≡ option_map (λ (e : At × Entry). e.0) (Some inside.0) = rw inside.2 at past in cc)
  | inr outside ↦ (let within = so_far.within in omega (arith, outside.0, within))
]

-- the first rows of a list, and one more
pub taken-more : {X : Type 0} (all rows : List X) (row : X) → rows ≡ take (length rows) all → slice_get all (length rows) ≡ Some row →
    rows ++ row ∷ [] ≡ take (length (rows ++ row ∷ [])) all
taken-more all rows row is at =
    let inside = slice_get_within all (length rows) row at in
    let here = get_or_from_slice_get all (length rows) row row at in
    let long : length rows + 1 ≡ length (rows ++ row ∷ []) = omega (arith, length-append rows (row ∷ [])) in
    subst (λ n. rows ++ row ∷ [] ≡ take n all) long
    (ap (λ rs. rs ++ row ∷ []) is ∙ sym (take_more all (length rows) row inside ∙ ap (λ r. take (length rows) all ++ r ∷ []) here))

pub taken-all : {X : Type 0} (all rows : List X) → rows ≡ take (length rows) all → length rows ≡ length all → rows ≡ all
taken-all all rows is same = is ∙ take_all (length rows) all (omega (arith, same))

-- what follows of a fact where a call did what was asked
OnFine-with : (v : Verdict) (P Q : Type 0) → (P → Q) → OnFine v P → OnFine v Q
OnFine-with fine P Q gives has = gives has
OnFine-with refused P Q gives has = tt
OnFine-with no_memory P Q gives has = tt
OnFine-with stopped P Q gives has = tt
OnFine-with failed P Q gives has = tt
OnFine-with (changed slot) P Q gives has = tt

-- a look after others that did what was asked
pub Looks-then : (v : Verdict) (old mid new : StoreState) (before during after : DiskView) → Looks fine old mid before during → Looks v mid new during after →
    during.tells ≡ before.tells → Looks v old new before after
Looks-then v old mid new before during after first second tells = record {
  stands = second.stands;
  streams = second.streams ∙ first.streams;
  live = second.live ∙ first.live;
  journal = OnFine-with v (new.records.journal ≡ mid.records.journal) (new.records.journal ≡ old.records.journal)
      (λ same. same ∙ first.journal) second.journal;
  stops = second.stops ∙ ap (λ s. stopped_after s v) first.stops;
  firm = λ told. second.firm (tells ∙ told);
}

-- none yet
pub Looks-none : (store : StoreState) (disk : DiskView) → OfContent disk (StoreIsKept store) → Looks fine store store disk disk
Looks-none store disk kept = record {
  stands = λ runs. kept;
  streams = refl;
  live = refl;
  journal = refl;
  stops = refl;
  firm = λ told. tt;
}

-- the slot of the window at a place is one of those of the stream's windows
Contains-of : (part : StreamParts) (at : At) (slot : ℕ) (found : Option Entry) → entry_at part.line.entries at ≡ found → IsSome found →
    IfSome found (λ entry. slot ≡ entry.slot) → Contains (window_slots_of part) slot
Contains-of part at slot None is some same = cc
Contains-of part at slot (Some entry) is some same = subst (Contains (window_slots_of part)) (sym same) (Contains-slot part at entry is)

pub Contains-read : (part : Option StreamParts) (at : At) (slot : ℕ) → IfSome part (λ p. StandsIn p.line.entries at) →
    IfSome part (λ p. IfSome (entry_at p.line.entries at) (λ entry. slot ≡ entry.slot)) → IfSome part (λ p. Contains (window_slots_of p) slot)
Contains-read None at slot stands same = tt
Contains-read (Some part) at slot stands same =
    Contains-of part at slot (entry_at part.line.entries at) refl ((entry_at-stands part.line.entries at).1 stands) same

-- what there is of what is there
some_of : {A : Type 0} (o : Option A) → IsSome o → (a : A) × (o ≡ Some a)
some_of None some = cc
some_of (Some a) some = (a, refl)

-- the rows of the stream that agrees with what is held
rows_alike : (part : StreamParts) (found : Option Stream) (rows : List Placed) → SomeAgree (Some part) found → length rows ≡ length part.line.entries →
    ((s : Stream) → found ≡ Some s → rows ≡ take (length rows) (cursor_rows s)) → option_map cursor_rows found ≡ Some rows
rows_alike part None rows agree count taken = absurd agree
rows_alike part (Some s) rows agree count taken =
    let all : length rows ≡ length (cursor_rows s) = count ∙ length-Agrees part s agree ∙ sym (length-map s.windows placed_of) in
    ap (λ rs. Some rs) (sym (taken-all (cursor_rows s) rows (taken s refl) all))

-- what records show stays where the journal and the content do
pub shown-same : (old new : RecordsState) (before after : List ℕ) → new.journal ≡ old.journal → after ≡ before → shown_by new after ≡ shown_by old before
shown-same old new before after journal content = ap (λ j. shown j after) journal ∙ ap (λ c. shown old.journal c) content

-- Of a stream that may be held: its windows have been copied up to the next.
module _ (o : Option StreamParts) where
  pub copied-first : (next : Option At) (rows : List Placed) → rows ≡ [] → IfSome o (λ p. next ≡ place_at p.line.entries 0) →
      IfSome o (λ p. IfSome next (λ at. index_of p.line.entries at ≡ 0)) → IfSome o (λ p. AreCopied p.line.entries next (length rows))
  copied-first next rows none is index = subst (λ rs. IfSome o (λ p. AreCopied p.line.entries next (length rs))) (sym none)
      (IfSome-all (λ p. AreCopied p.line.entries next 0) o (λ p same. copied-none p.line.entries next
      (IfSome-each (λ p. next ≡ place_at p.line.entries 0) o p same is)
      (IfSome-each (λ p. IfSome next (λ at. index_of p.line.entries at ≡ 0)) o p same index)))

  pub copied-next : (at : At) (next : Option At) (rows more : List Placed) (row : Placed) → more ≡ rows ++ row ∷ [] →
      IfSome o (λ p. AreCopied p.line.entries (Some at) (length rows)) → IfSome o (λ p. StandsIn p.line.entries at) →
      IfSome o (λ p. next ≡ place_at p.line.entries (index_of p.line.entries at + 1)) →
      IfSome o (λ p. IfSome next (λ after. index_of p.line.entries after ≡ index_of p.line.entries at + 1)) →
      IfSome o (λ p. AreCopied p.line.entries next (length more))
  copied-next at next rows more row longer so_far stands is index =
      let long : length rows + 1 ≡ length more = omega (arith, ap length longer, length-append rows (row ∷ [])) in
      IfSome-all (λ p. AreCopied p.line.entries next (length more)) o (λ p same.
      subst (λ n. AreCopied p.line.entries next n) long
      (copied-more p.line.entries at next (length rows)
      (IfSome-each (λ p. AreCopied p.line.entries (Some at) (length rows)) o p same so_far)
      (IfSome-each (λ p. StandsIn p.line.entries at) o p same stands)
      (IfSome-each (λ p. next ≡ place_at p.line.entries (index_of p.line.entries at + 1)) o p same is)
      (IfSome-each (λ p. IfSome next (λ after. index_of p.line.entries after ≡ index_of p.line.entries at + 1)) o p same index)))

  -- there is room for one more
  pub room-left : (at : At) (rows : List Placed) (capacity : ℕ) → IsSome o → IfSome o (λ p. AreCopied p.line.entries (Some at) (length rows)) →
      IfSome o (λ p. StandsIn p.line.entries at) → IfSome o (λ p. capacity ≡ length p.line.entries) → length rows < capacity
  room-left at rows capacity some so_far stands room =
      let held = some_of o some in
      let p = held.0 in
      let same = held.1 in
      let here = IfSome-each (λ p. AreCopied p.line.entries (Some at) (length rows)) o p same so_far in
      let index = here.index in
      let inside = IfSome-each (λ p. StandsIn p.line.entries at) o p same stands in
      let all = IfSome-each (λ p. capacity ≡ length p.line.entries) o p same room in
      omega (arith, index, inside, all)

  -- as many were copied as there is room for
  pub room-taken : (next : Option At) (rows : List Placed) (capacity : ℕ) → IsSome o → IfSome o (λ p. AreCopied p.line.entries next (length rows)) →
      IfSome o (λ p. capacity ≡ length p.line.entries) → length rows ≤ capacity
  room-taken next rows capacity some so_far room =
      let held = some_of o some in
      let p = held.0 in
      let same = held.1 in
      let within = (IfSome-each (λ p. AreCopied p.line.entries next (length rows)) o p same so_far).within in
      let all = IfSome-each (λ p. capacity ≡ length p.line.entries) o p same room in
      omega (arith, within, all)

  -- one row more of those of the stream
  pub row-copied : (found : Option Stream) (s : Stream) (at : At) (rows more : List Placed) (row : Placed) → IsSome o → found ≡ Some s →
      IfSome o (λ p. AreCopied p.line.entries (Some at) (length rows)) →
      IfSome o (λ p. IfSome found (λ x. slice_get (cursor_rows x) (index_of p.line.entries at) ≡ Some row)) →
      rows ≡ take (length rows) (cursor_rows s) → more ≡ rows ++ row ∷ [] → more ≡ take (length more) (cursor_rows s)
  row-copied found s at rows more row some is so_far read taken longer =
      let held = some_of o some in
      let p = held.0 in
      let same = held.1 in
      let here = IfSome-each (λ p. AreCopied p.line.entries (Some at) (length rows)) o p same so_far in
      let placed = IfSome-each (λ p. IfSome found (λ x. slice_get (cursor_rows x) (index_of p.line.entries at) ≡ Some row)) o p same read in
      let its = IfSome-each (λ x. slice_get (cursor_rows x) (index_of p.line.entries at) ≡ Some row) found s is placed in
      subst (λ rs. rs ≡ take (length rs) (cursor_rows s)) (sym longer)
      (taken-more (cursor_rows s) rows row taken (subst (λ n. slice_get (cursor_rows s) n ≡ Some row) here.index its))

  -- all rows were copied where none is next
  pub windows-copied : (next : Option At) (rows : List Placed) → next ≡ None → IfSome o (λ p. AreCopied p.line.entries next (length rows)) →
      IfSome o (λ p. length rows ≡ length p.line.entries)
  windows-copied next rows none so_far = IfSome-all (λ p. length rows ≡ length p.line.entries) o (λ p same.
      copied-all p.line.entries next (length rows) none (IfSome-each (λ p. AreCopied p.line.entries next (length rows)) o p same so_far))

  pub rows-copied : (found : Option Stream) (next : Option At) (rows : List Placed) → IsSome o → SomeAgree o found → next ≡ None →
      IfSome o (λ p. AreCopied p.line.entries next (length rows)) → ((s : Stream) → found ≡ Some s → rows ≡ take (length rows) (cursor_rows s)) →
      option_map cursor_rows found ≡ Some rows
  rows-copied found next rows some agree none so_far taken =
      let held = some_of o some in
      let p = held.0 in
      let same = held.1 in
      let count = IfSome-each (λ p. length rows ≡ length p.line.entries) o p same (windows-copied next rows none so_far) in
      rows_alike p found rows (subst (λ x. SomeAgree x found) same agree) count taken
