-- Cached pages, and the map that they are of.
use Rattle.std.proofs.Common.{◌≡◌, ◌≢◌, ◌∙◌, sym, ap, refl, ℕ, ◌+◌, ◌*◌, ◌/◌, ◌%◌, ◌<◌, ◌^◌, ◌⊎◌, Bool, true, false, nat_eq, List, [], ◌∷◌, length, get_or}
use Rattle.std.proofs.Common.{take, Contains, Option, Some, None, arith, inl, inr}
use Rattle.std.proofs.lemmas.Bool.{cases_eq, cond-true, cond-false, eq-eqb, eqb-true, eqb-false, ne_eqb}
use Rattle.std.proofs.lemmas.List.{take_more}
use Rattle.std.specs.List.{AllByRecursion, IsDistinct}
use Rattle.std.specs.Map.{keys_of, lookup, lookup_entry, remove_entry, set_value}
use Rattle.std.specs.Prelude.{option_map}
use Rattle.lru.proofs.CallerLemmas.{Contains-lookup, Contains-promoted, Contains-put_entries}
use Rattle.lru.proofs.Splits.{Contains-cons, Contains-head, Contains-nil, Contains-tail}
use Rattle.lru.specs.LruCache.{lru_cache, promoted, put_entries}
use Rattle.ss_journal.specs.declared.put.Put.{Put}
use Rattle.ss_journal.specs.Calls.{slot_in_page}
use Rattle.ss_journal.specs.Puts.{with_put, with_puts}
use Rattle.ss_journal.specs.Redo.{SlotMap, StandsFor}
use Rattle.ss_journal.proofs.PutLemmas.{with_puts-append}
use Rattle.ss_journal.proofs.RedoLemmas.{StandsFor-same}
use Rattle.ss_records.specs.Pages.{cached_slot, ArePages, IsPage, Recalls}

-- a number that a list of pages doesn't have
none_equal : (number : ℕ) (cached : List (ℕ × List ℕ)) (page : ℕ) (bytes : List ℕ)
    → AllByRecursion (λ (other : ℕ). nat_eq number other ≡ false) (keys_of cached)
    → Contains cached (page, bytes) → nat_eq number page ≡ false
none_equal number [] page bytes apart is = absurd (Contains-nil (page, bytes) is)
none_equal number (entry ∷ cached) page bytes apart is = elim (Contains-cons entry cached (page, bytes) is) [
  | inl same ↦ rw same at apart.0
  | inr later ↦ none_equal number cached page bytes apart.1 later
]

not_cached : (number : ℕ) (cached : List (ℕ × List ℕ)) (page : ℕ) (bytes : List ℕ) → lookup (nat_eq number) cached ≡ None
    → Contains cached (page, bytes)
    → nat_eq number page ≡ false
not_cached number [] page bytes none is = absurd (Contains-nil (page, bytes) is)
not_cached number (entry ∷ cached) page bytes none is = (elim (nat_eq number entry.0) as (λ (y : Bool). nat_eq number entry.0 ≡ y
    → nat_eq number page ≡ false) [
      | true ↦ λ here. let some = rw here at none in cc
      | false ↦ λ there. elim (Contains-cons entry cached (page, bytes) is) [
        | inl same ↦ rw same at there
        | inr later ↦ not_cached number cached page bytes (rw there at none) later
      ]
    ]) refl

-- an entry of pages of which one was changed is that one, or another one that was there
abbrev IsChanged : ℕ → List ℕ → List (ℕ × List ℕ) → ℕ → List ℕ → Type 0
IsChanged number now cached page bytes = ((page ≡ number) × (bytes ≡ now)) ⊎ ((page ≢ number) × Contains cached (page, bytes))

Contains-set_value : (number : ℕ) (cached : List (ℕ × List ℕ)) (now : List ℕ) (page : ℕ) (bytes : List ℕ) → IsDistinct nat_eq (keys_of cached)
    → Contains (set_value (nat_eq number) cached now) (page, bytes) → IsChanged number now cached page bytes
unfolding IsDistinct
Contains-set_value number [] now page bytes apart is = absurd (Contains-nil (page, bytes) is)
Contains-set_value number (entry ∷ cached) now page bytes apart is =
    (elim (nat_eq number entry.0) as (λ (y : Bool). nat_eq number entry.0 ≡ y → IsChanged number now (entry ∷ cached) page bytes) [
      | true ↦ λ here.
          let first : number ≡ entry.0 = eqb-true number entry.0 here in
          elim (Contains-cons (entry.0, now) cached (page, bytes) (rw here at is)) [
            | inl same ↦ inl (sym (first ∙ ap (λ (e : ℕ × List ℕ). e.0) same), sym (ap (λ (e : ℕ × List ℕ). e.1) same))
            | inr later ↦ inr (
              λ equal. eqb-false entry.0 page (none_equal entry.0 cached page bytes apart.0 later) (sym first ∙ sym equal),
              Contains-tail entry cached (page, bytes) later,
            )
          ]
      | false ↦ λ there. elim (Contains-cons entry (set_value (nat_eq number) cached now) (page, bytes) (rw there at is)) [
        | inl same ↦ inr (
          λ equal. eqb-false number entry.0 there (sym equal ∙ sym (ap (λ (e : ℕ × List ℕ). e.0) same)),
          rw (← same) (Contains-head entry cached),
        )
        | inr later ↦ elim (Contains-set_value number cached now page bytes apart.1 later) [
          | inl changed ↦ inl changed
          | inr other ↦ inr (other.0, Contains-tail entry cached (page, bytes) other.1)
        ]
      ]
    ]) refl

-- a put leaves the slots of every other page
with_put-beside : (put : Put) (map : ℕ → List ℕ) (page k : ℕ) → k < 32 → page ≢ put.slot / 32
    → with_put put map (32 * page + k) ≡ map (32 * page + k)
with_put-beside put map page k in_page other =
    cond-false (nat_eq (32 * page + k) put.slot) put.bytes (map (32 * page + k))
    (ne_eqb (32 * page + k) put.slot (λ equal. other (omega (arith, equal, in_page))))

module _ (put : Put) (cached : List (ℕ × List ℕ)) (map : ℕ → List ℕ) (are : ArePages cached map) where
  pub ArePages-uncached : lookup (nat_eq (put.slot / 32)) cached ≡ None → ArePages cached (with_put put map)
  ArePages-uncached none page bytes is lt k in_page =
      are page bytes is lt k in_page
      ∙ sym (with_put-beside put map page k in_page
      (λ equal. eqb-false (put.slot / 32) page (not_cached (put.slot / 32) cached page bytes none is) (sym equal)))

  module _ (old now : List ℕ) (apart : IsDistinct nat_eq (keys_of cached)) (found : lookup (nat_eq (put.slot / 32)) cached ≡ Some old)
      (written : slot_in_page now (put.slot % 32) ≡ put.bytes)
      (others : (other : ℕ) → other < 32 → other ≢ put.slot % 32 → slot_in_page now other ≡ slot_in_page old other) where
    -- the page that has the put's slot is as in the map with the put
    changed_here : (page : ℕ) → page ≡ put.slot / 32 → page < 32768 → IsPage (with_put put map) page now
    changed_here page same lt k in_page =
        let at = Contains-lookup (nat_eq (put.slot / 32)) cached old found in
        let there : page ≡ at.0 = same ∙ eqb-true (put.slot / 32) at.0 at.2 in
        let was : Contains cached (page, old) = rw there at.1 in
        elim (cases_eq k (put.slot % 32)) [
          | inl here ↦ ap (slot_in_page now) here ∙ written
              ∙ sym (cond-true (nat_eq (32 * page + k) put.slot) put.bytes (map (32 * page + k))
              (eq-eqb (32 * page + k) put.slot (omega (arith, same, here))))
          | inr other ↦ others k in_page other ∙ are page old was lt k in_page
              ∙ sym (cond-false (nat_eq (32 * page + k) put.slot) put.bytes (map (32 * page + k))
              (ne_eqb (32 * page + k) put.slot (λ equal. other (omega (arith, equal, in_page)))))
        ]

    pub ArePages-put : ArePages (set_value (nat_eq (put.slot / 32)) cached now) (with_put put map)
    ArePages-put page bytes is lt k in_page =
        elim (Contains-set_value (put.slot / 32) cached now page bytes apart is) [
          | inl changed ↦ ap (λ (list : List ℕ). slot_in_page list k) changed.1 ∙ changed_here page changed.0 lt k in_page
          | inr other ↦ are page bytes other.1 lt k in_page ∙ sym (with_put-beside put map page k in_page other.0)
        ]

module _ (cached : List (ℕ × List ℕ)) (map : ℕ → List ℕ) (are : ArePages cached map) where
  -- what is cached of a slot is what the map has
  pub cached_slot-is : (slot : ℕ) (bytes : List ℕ) → cached_slot cached slot ≡ Some bytes → slot < 2 ^ 20 → bytes ≡ map slot
  cached_slot-is slot bytes found lt =
      (elim (lookup (nat_eq (slot / 32)) cached) as (λ (o : Option (List ℕ)). lookup (nat_eq (slot / 32)) cached ≡ o
      → option_map (λ (page : List ℕ). slot_in_page page (slot % 32)) o ≡ Some bytes → bytes ≡ map slot) [
        | None ↦ λ none is. absurd (cc)
        | Some page ↦ λ some is.
            let at = Contains-lookup (nat_eq (slot / 32)) cached page some in
            let same : slot / 32 ≡ at.0 = eqb-true (slot / 32) at.0 at.2 in
            let read : slot_in_page page (slot % 32) ≡ bytes = cc in
            sym read ∙ are at.0 page at.1 (omega (arith, same, lt)) (slot % 32) (omega arith) ∙ ap map (omega (arith, same))
      ]) refl found

  pub ArePages-promoted : (number : ℕ) → ArePages (promoted (nat_eq number) cached) map
  ArePages-promoted number page bytes is = are page bytes (Contains-promoted (nat_eq number) cached (page, bytes) is)

  pub ArePages-kept : (number most : ℕ) (its : List ℕ) → IsPage map number its → ArePages (put_entries nat_eq (lru_cache cached most) number its) map
  ArePages-kept number most its is page bytes there lt k in_page =
      elim (Contains-put_entries nat_eq (lru_cache cached most) number its (page, bytes) there) [
        | inl was ↦ are page bytes was lt k in_page
        | inr put ↦
            let same : number ≡ page = elim put.1 [ inl new ↦ sym new | inr old ↦ eqb-true number page old.2 ] in
            ap (λ (list : List ℕ). slot_in_page list k) put.0 ∙ is k in_page ∙ ap (λ (n : ℕ). map (32 * n + k)) same
      ]

-- the pages are those of each map for which a content stands, if they are those of one
pub ArePages-same : (cached : List (ℕ × List ℕ)) (content : List ℕ) (first found : SlotMap) → StandsFor content first → StandsFor content found
    → ArePages cached first.bytes → ArePages cached found.bytes
ArePages-same cached content first found is also are page bytes there lt k in_page =
    are page bytes there lt k in_page ∙ (StandsFor-same content first found is also).bytes (32 * page + k) (omega (arith, lt, in_page))

-- the entry of a page that is cached
found_entry : (number : ℕ) (cached : List (ℕ × List ℕ)) (page : List ℕ) → lookup (nat_eq number) cached ≡ Some page
    → (e : ℕ × List ℕ) × (lookup_entry (nat_eq number) cached ≡ Some e) × (e.1 ≡ page) × (nat_eq number e.0 ≡ true)
found_entry number [] page is = absurd (cc)
found_entry number (entry ∷ cached) page is = (elim (nat_eq number entry.0) as (λ (y : Bool). nat_eq number entry.0 ≡ y
    → (e : ℕ × List ℕ) × (lookup_entry (nat_eq number) (entry ∷ cached) ≡ Some e) × (e.1 ≡ page) × (nat_eq number e.0 ≡ true)) [
      | true ↦ λ here. let some = rw here at is in let same : entry.1 ≡ page = cc in (entry, rw here refl, same, here)
      | false ↦ λ there. let on = found_entry number cached page (rw there at is) in (on.0, rw there on.1, on.2, on.3)
    ]) refl

-- written back as it is, a page that comes first stays so
pub set_value-promoted : (number : ℕ) (cached : List (ℕ × List ℕ)) (page : List ℕ) → lookup (nat_eq number) cached ≡ Some page
    → set_value (nat_eq number) (promoted (nat_eq number) cached) page ≡ promoted (nat_eq number) cached
set_value-promoted number cached page is =
    let found = found_entry number cached page is in
    let rest = remove_entry (nat_eq number) cached in
    rw found.1 (cond-true (nat_eq number found.0.0) ((found.0.0, page) ∷ rest) (found.0 ∷ set_value (nat_eq number) rest page) found.3
    ∙ ap (λ (bytes : List ℕ). (found.0.0, bytes) ∷ rest) (sym found.2))

module _ (cached : List (ℕ × List ℕ)) (slot : ℕ) (none : cached_slot cached slot ≡ None) where
  no_page : lookup (nat_eq (slot / 32)) cached ≡ None
  no_page = (elim (lookup (nat_eq (slot / 32)) cached) as (λ (o : Option (List ℕ)).
      option_map (λ (page : List ℕ). slot_in_page page (slot % 32)) o ≡ None → o ≡ None) [
        | None ↦ λ is. refl
        | Some page ↦ λ is. cc
      ]) none

  no_entry : (list : List (ℕ × List ℕ)) → lookup (nat_eq (slot / 32)) list ≡ None → lookup_entry (nat_eq (slot / 32)) list ≡ None
  no_entry [] is = refl
  no_entry (entry ∷ list) is = (elim (nat_eq (slot / 32) entry.0) as (λ (y : Bool). nat_eq (slot / 32) entry.0 ≡ y
      → lookup_entry (nat_eq (slot / 32)) (entry ∷ list) ≡ None) [
        | true ↦ λ here. let some = rw here at is in cc
        | false ↦ λ there. rw there (no_entry list (rw there at is))
      ]) refl

  -- a page that isn't cached isn't promoted
  pub promoted-none : promoted (nat_eq (slot / 32)) cached ≡ cached
  promoted-none = rw (no_entry cached no_page) refl

  -- and where it is put it comes first
  pub put_entries-none : (bytes : List ℕ) → put_entries nat_eq (lru_cache cached 64) (slot / 32) bytes ≡ (slot / 32, bytes) ∷ take 63 cached
  put_entries-none bytes = rw (no_entry cached no_page) refl

  -- what `keep` leaves of the pages
  pub Recalls-kept : (kept : List (ℕ × List ℕ)) (bytes : List ℕ)
      → (kept ≡ cached) ⊎ (kept ≡ put_entries nat_eq (lru_cache cached 64) (slot / 32) bytes) → Recalls slot cached kept
  Recalls-kept kept bytes (inl stays) = inl (stays ∙ sym promoted-none)
  Recalls-kept kept bytes (inr put) = inr (bytes, none, put ∙ put_entries-none bytes)

pub with_puts-next : (puts : List Put) (k : ℕ) (d : Put) (map : ℕ → List ℕ) → k < length puts
    → with_put (get_or puts k d) (with_puts (take k puts) map) ≡ with_puts (take (k + 1) puts) map
with_puts-next puts k d map lt =
    sym (ap (λ (list : List Put). with_puts list map) (take_more puts k d lt) ∙ with_puts-append (take k puts) (get_or puts k d ∷ []) map)

pub ArePages-none : (map : ℕ → List ℕ) → ArePages [] map
ArePages-none map page bytes is = absurd (Contains-nil (page, bytes) is)
