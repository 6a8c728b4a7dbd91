-- How a disk in memory goes on from call to call.
use Rattle.std.proofs.Common.{◌≡◌, ◌⊎◌, inl, inr, ℕ, zero, suc, ◌+◌, ◌<◌, ◌≤◌, max, List, [], ◌∷◌, ◌++◌, length, length-append, add-zero, get_or, map}
use Rattle.std.proofs.Common.{filter, take, drop, refl, sym, ◌∙◌, ap, arith}
use Rattle.std.specs.Prelude.{All}
use Rattle.std.proofs.lemmas.Bool.{cases_lt}
use Rattle.std.proofs.lemmas.List.{take-append-le, drop-append-le, take_all, drop_at, take_more, get_or-map, length-map, length_push, length-take-le}
use Rattle.std.proofs.lemmas.List.{length-drop, map_push, drop_all}
use Rattle.std.proofs.lemmas.List.Elements.{All-head, All-tail, filter-append}
use Rattle.ss_outside.specs.Disk.{IsOutside}
use Rattle.ss_outside.specs.MemDisk.{DiskCall, Wrote, Tore, Synced, DiskState, fresh, good_syncs, is_sync, pend, step, replay}
use Rattle.ss_outside.specs.Choice.{IsFree, IsFilled}
use Rattle.ss_outside.specs.Past.{call_of, LiesWithin, AreWrites, CountsToSync}
use Rattle.ss_outside.specs.declared.past.Change.{Change}
use Rattle.ss_outside.specs.declared.past.Change.TheVariants.{Bytes, Torn, Sync}
use Rattle.ss_outside.proofs.DiskLemmas.{cases_place}

pub replay-append : (s : DiskState) (first rest : List DiskCall) → replay s (first ++ rest) ≡ replay (replay s first) rest
replay-append s [] rest = refl
replay-append s (call ∷ calls) rest = replay-append (step s call) calls rest

pub synced_no_longer : (s : DiskState) (calls : List DiskCall) → length s.synced ≤ s.longest → length (replay s calls).synced ≤ (replay s calls).longest
synced_no_longer s [] short = short
synced_no_longer s (Wrote at bytes ∷ calls) short = synced_no_longer (step s (Wrote at bytes)) calls (omega arith)
synced_no_longer s (Tore at count ∷ calls) short = synced_no_longer (step s (Tore at count)) calls (omega arith)
synced_no_longer s (Synced ∷ calls) short = synced_no_longer (step s Synced) calls (omega arith)

-- more bytes in the pool
call_of-grown : (pool more : List ℕ) (change : Change) → LiesWithin (length pool) change → call_of (pool ++ more) change ≡ call_of pool change
call_of-grown pool more (Bytes at from count) kept =
    ap (Wrote at) (ap (take count) (drop-append-le from pool more (omega (arith, kept.0))) ∙
    take-append-le count (drop from pool) more (omega (arith, kept.0, length-drop from pool)))
call_of-grown pool more (Torn at count) kept = refl
call_of-grown pool more Sync kept = refl

pub calls-grown : (pool more : List ℕ) (changes : List Change) → All (LiesWithin (length pool)) changes →
    map (call_of (pool ++ more)) changes ≡ map (call_of pool) changes
calls-grown pool more [] kept = refl
calls-grown pool more (change ∷ changes) kept = λ i. call_of-grown pool more change (All-head (LiesWithin (length pool)) change changes kept) i ∷
    calls-grown pool more changes (All-tail (LiesWithin (length pool)) change changes kept) i

pub calls-push : (pool bytes : List ℕ) (changes : List Change) (at from : ℕ) → from ≡ length pool → All (LiesWithin (length pool)) changes
    → map (call_of (pool ++ bytes)) (changes ++ Bytes at from (length bytes) ∷ []) ≡ map (call_of pool) changes ++ Wrote at bytes ∷ []
calls-push pool bytes changes at from end kept =
    map_push (call_of (pool ++ bytes)) changes _ ∙ (λ i. calls-grown pool bytes changes kept i ++ Wrote at (here i) ∷ [])
  where
    here : take (length bytes) (drop from (pool ++ bytes)) ≡ bytes
    here = ap (take (length bytes)) (drop_at pool bytes from (sym end)) ∙ take_all (length bytes) bytes (omega arith)

AreWrites-push : (calls : List DiskCall) (call : DiskCall) → AreWrites calls → AreWrites (call ∷ []) → AreWrites (calls ++ call ∷ [])
AreWrites-push [] call are is = is
AreWrites-push (Wrote at bytes ∷ calls) call are is = AreWrites-push calls call are is
AreWrites-push (Tore at count ∷ calls) call are is = AreWrites-push calls call are is
AreWrites-push (Synced ∷ calls) call are is = absurd are

synced-write : (s : DiskState) (call : DiskCall) → AreWrites (call ∷ []) → (step s call).synced ≡ s.synced
synced-write s (Wrote at bytes) is = refl
synced-write s (Tore at count) is = refl
synced-write s Synced is = absurd is

pub counts_sync : (calls : List DiskCall) → CountsToSync (length calls + 1) (calls ++ Synced ∷ [])
counts_sync calls = record {
  within = omega (arith, length_push calls Synced);
  since = rw (drop_all (length calls + 1) (calls ++ Synced ∷ []) (omega (arith, length_push calls Synced))) tt;
  nothing_pending = λ start.
      ap (replay (fresh start)) (take_all (length calls + 1) (calls ++ Synced ∷ []) (omega (arith, length_push calls Synced))) ∙
      replay-append (fresh start) calls (Synced ∷ [])
      ∙ ap (λ (s : DiskState). fresh s.synced) (sym (replay-append (fresh start) calls (Synced ∷ [])));
}

pub counts_write : (synced : ℕ) (calls : List DiskCall) (call : DiskCall) → CountsToSync synced calls → AreWrites (call ∷ []) →
    CountsToSync synced (calls ++ call ∷ [])
counts_write synced calls call is write = record {
  within = omega (arith, is.within, length_push calls call);
  since = rw (drop-append-le synced calls (call ∷ []) is.within) (AreWrites-push (drop synced calls) call is.since write);
  nothing_pending = λ start.
      ap (replay (fresh start)) (take-append-le synced calls (call ∷ []) is.within) ∙ is.nothing_pending start
      ∙ ap fresh (sym (ap (λ (s : DiskState). s.synced) (replay-append (fresh start) calls (call ∷ [])) ∙
      synced-write (replay (fresh start) calls) call write));
}

no_sync_at : (calls : List DiskCall) (k : ℕ) (e : DiskCall) → AreWrites calls → k < length calls → get_or calls k e ≡ Synced → ⊥
no_sync_at [] k e are lt is = absurd (omega (arith, lt))
no_sync_at (Wrote at bytes ∷ calls) zero e are lt is = cc
no_sync_at (Wrote at bytes ∷ calls) (suc k) e are lt is = no_sync_at calls k e are (omega (arith, lt)) is
no_sync_at (Tore at count ∷ calls) zero e are lt is = cc
no_sync_at (Tore at count ∷ calls) (suc k) e are lt is = no_sync_at calls k e are (omega (arith, lt)) is
no_sync_at (Synced ∷ calls) k e are lt is = are

-- the free byte over one range more
pub filled_more : (s : DiskState) (byte : ℕ) (old new : List ℕ) (at count : ℕ) (content : List ℕ) → length s.synced ≤ s.longest → IsFilled s byte old
    → length new ≡ max (length old) (at + count)
    → ((place : ℕ) → place < length old → IsOutside at count place → get_or new place 0 ≡ get_or old place 0)
    → ((place : ℕ) → place < length new → (length old ≤ place) ⊎ ((at ≤ place) × (place < at + count)) → get_or new place 0 ≡ byte)
    → IsFilled (pend s at count content) byte new
filled_more s byte old new at count content short is length_new same filled = record {
  longest = omega (arith, length_new, is.longest);
  free = λ place lt free. elim (cases_lt place (length old)) [
    | inr past ↦ filled place lt (inl past)
    | inl before ↦ elim (cases_place at count place) [
      | inr within ↦ filled place lt (inr within)
      | inl out ↦ same place before out ∙ is.free place before (others place out free)
    ]
  ];
  kept = λ place lt out. same place (omega (arith, lt, short, is.longest)) out.0 ∙ is.kept place lt out.1;
}
  where
    others : (place : ℕ) → IsOutside at count place → IsFree (pend s at count content) place → IsFree s place
    others place out (inl past) = inl past
    others place (inl below) (inr (inl within)) = absurd (omega (arith, below, within.0))
    others place (inr above) (inr (inl within)) = absurd (omega (arith, above, within.1))
    others place out (inr (inr other)) = inr other

-- the good syncs of one call more
pub good_syncs-push : (calls : List DiskCall) (call : DiskCall) → good_syncs (calls ++ call ∷ []) ≡ good_syncs calls + good_syncs (call ∷ [])
good_syncs-push calls call =
    ap length (filter-append is_sync calls (call ∷ [])) ∙ length-append (filter is_sync calls) (filter is_sync (call ∷ []))

-- one call more of those that a disk keeps
module _ (pool : List ℕ) (changes : List Change) (calls : List DiskCall) (kept : map (call_of pool) changes ≡ calls) (k : ℕ) (lt : k < length changes)
    (d : Change) where
  calls_more : take (k + 1) calls ≡ take k calls ++ call_of pool (get_or changes k d) ∷ []
  calls_more = rw kept at (take_more (map (call_of pool) changes) k (call_of pool d) (omega (arith, lt, length-map changes (call_of pool)))
      ∙ ap (λ (c : DiskCall). take k (map (call_of pool) changes) ++ c ∷ []) (get_or-map (call_of pool) changes k d (call_of pool d) lt))

  pub replay_more : (s : DiskState) (change : Change) → get_or changes k d ≡ change →
      replay s (take (k + 1) calls) ≡ step (replay s (take k calls)) (call_of pool change)
  replay_more s change is =
      ap (replay s) calls_more ∙ replay-append s (take k calls) (call_of pool (get_or changes k d) ∷ []) ∙
      ap (λ (c : Change). step (replay s (take k calls)) (call_of pool c)) is

  pub counts_more_sync : get_or changes k d ≡ Sync → CountsToSync (k + 1) (take (k + 1) calls)
  counts_more_sync is =
      let more : take (k + 1) calls ≡ take k calls ++ Synced ∷ [] = calls_more ∙ ap (λ (c : Change). take k calls ++ call_of pool c ∷ []) is in
      let size : length (take k calls) ≡ k = length-take-le k calls (omega (arith, lt, ap length kept, length-map changes (call_of pool))) in
      rw more (rw size at (counts_sync (take k calls)))

  pub syncs_more_sync : get_or changes k d ≡ Sync → good_syncs (take (k + 1) calls) ≡ good_syncs (take k calls) + 1
  syncs_more_sync is = ap good_syncs (calls_more ∙ ap (λ (c : Change). take k calls ++ call_of pool c ∷ []) is) ∙ good_syncs-push (take k calls) Synced

  pub syncs_more_write : (get_or changes k d ≡ Sync → ⊥) → good_syncs (take (k + 1) calls) ≡ good_syncs (take k calls)
  syncs_more_write other =
      ap good_syncs calls_more ∙ good_syncs-push (take k calls) (call_of pool (get_or changes k d))
      ∙ ap (λ n. good_syncs (take k calls) + n) (none (get_or changes k d) other) ∙ add-zero (good_syncs (take k calls))
    where
      none : (change : Change) → (change ≡ Sync → ⊥) → good_syncs (call_of pool change ∷ []) ≡ 0
      none (Bytes at from count) other = refl
      none (Torn at count) other = refl
      none Sync other = absurd (other refl)

  pub counts_more_write : (synced : ℕ) → CountsToSync synced (take k calls) → (get_or changes k d ≡ Sync → ⊥) → CountsToSync synced (take (k + 1) calls)
  counts_more_write synced is other =
      rw calls_more (counts_write synced (take k calls) (call_of pool (get_or changes k d)) is (write-unless_sync (get_or changes k d) other))
    where
      write-unless_sync : (change : Change) → (change ≡ Sync → ⊥) → AreWrites (call_of pool change ∷ [])
      write-unless_sync (Bytes at from count) other = tt
      write-unless_sync (Torn at count) other = tt
      write-unless_sync Sync other = other refl

  -- a call that writes nothing leaves the content
  pub content_more : (s : DiskState) (content : List ℕ) → content ≡ (replay s (take k calls)).content →
      ((at from count : ℕ) → get_or changes k d ≡ Bytes at from count → ⊥)
      → content ≡ (replay s (take (k + 1) calls)).content
  content_more s content is other = is ∙
      sym (ap (λ (t : DiskState). t.content) (replay_more s (get_or changes k d) refl) ∙ same (replay s (take k calls)) (get_or changes k d) other)
    where
      same : (t : DiskState) (change : Change) → ((at from count : ℕ) → change ≡ Bytes at from count → ⊥) → (step t (call_of pool change)).content ≡ t.content
      same t (Bytes at from count) other = absurd (other at from count refl)
      same t (Torn at count) other = refl
      same t Sync other = refl

  pub no_sync : AreWrites calls → get_or changes k d ≡ Sync → ⊥
  no_sync are is =
      no_sync_at calls k (call_of pool d) are (omega (arith, lt, ap length kept, length-map changes (call_of pool)))
      (rw kept at (get_or-map (call_of pool) changes k d (call_of pool d) lt ∙
      ap (call_of pool) is))
