-- What the calls of a disk in memory keep.
use Rattle.std.proofs.Common.{◌≡◌, ℕ, ◌+◌, ◌-◌, ◌≤◌, List, [], ◌∷◌, ◌++◌, length, take, drop, refl, sym, ◌∙◌, ap, arith}
use Rattle.std.proofs.lemmas.List.{take-append-drop}
use Rattle.ss_outside.specs.Disk.{overwrite, AreBytes, Torn}
use Rattle.ss_outside.specs.MemDisk.{DiskCall, Wrote, Tore, Synced, DiskState, fresh, pend, step, replay, IsConsistent}
use Rattle.ss_outside.specs.Past.{CountsToSync}
use Rattle.ss_outside.proofs.DiskLemmas.{image_now, length-overwrite, torn_is_image, overwrite_is_torn}
use Rattle.ss_outside.proofs.PastLemmas.{replay-append}

sound_fresh : (content : List ℕ) → AreBytes content → IsConsistent (fresh content)
sound_fresh content bytes = record { bytes = bytes; short = omega arith; own = image_now content bytes }

sound_torn : (s : DiskState) (at count : ℕ) (content : List ℕ) → IsConsistent s → Torn at count s.content content → IsConsistent (pend s at count content)
sound_torn s at count content sound torn = record {
  bytes = sound.bytes;
  short = omega (arith, sound.short);
  own = torn_is_image s.synced s.pending s.longest at count s.content content sound.own torn;
}

torn_not : (at count : ℕ) (content : List ℕ) → AreBytes content → Torn at count content content
torn_not at count content bytes = record { no_shorter = omega arith; no_longer = omega arith; kept = λ place lt out. refl; bytes = bytes }

-- one call more: `held` is what the disk then holds
module _ (start : List ℕ) (calls after : List DiskCall) (held : List ℕ) (sound : IsConsistent (replay (fresh start) calls)) where
  kept_more : (call : DiskCall) → after ≡ calls ++ call ∷ [] → held ≡ (step (replay (fresh start) calls) call).content →
      IsConsistent (step (replay (fresh start) calls) call)
      → (held ≡ (replay (fresh start) after).content) × IsConsistent (replay (fresh start) after)
  kept_more call is holds then =
      let more = ap (replay (fresh start)) is ∙ replay-append (fresh start) calls (call ∷ []) in
      (holds ∙ sym (ap (λ (s : DiskState). s.content) more), rw more then)

  pub kept_wrote : (at : ℕ) (bytes : List ℕ) → after ≡ calls ++ Wrote at bytes ∷ [] → held ≡ overwrite (replay (fresh start) calls).content at bytes →
      at ≤ length (replay (fresh start) calls).content → AreBytes bytes
      → (held ≡ (replay (fresh start) after).content) × IsConsistent (replay (fresh start) after)
  kept_wrote at bytes is holds within are =
      kept_more (Wrote at bytes) is holds
      (sound_torn _ at (length bytes) _ sound (overwrite_is_torn (replay (fresh start) calls).content bytes at within sound.own.bytes are))

  pub kept_tore : (at count : ℕ) → after ≡ calls ++ Tore at count ∷ [] → held ≡ (replay (fresh start) calls).content →
      (held ≡ (replay (fresh start) after).content) × IsConsistent (replay (fresh start) after)
  kept_tore at count is holds = kept_more (Tore at count) is holds (sound_torn _ at count _ sound (torn_not at count _ sound.own.bytes))

  pub kept_synced : after ≡ calls ++ Synced ∷ [] → held ≡ (replay (fresh start) calls).content →
      (held ≡ (replay (fresh start) after).content) × IsConsistent (replay (fresh start) after)
  kept_synced is holds = kept_more Synced is holds (sound_fresh _ sound.own.bytes)

-- a write takes at most as much of the spare room as it has bytes
pub spare-wrote : (content bytes held : List ℕ) (at spare before after : ℕ) → at ≤ length content → held ≡ overwrite content at bytes →
    length content + spare ≤ before → before ≤ after → length held ≤ after → length held + (spare - length bytes) ≤ after
spare-wrote content bytes held at spare before after within is room grows fits =
    omega (arith, ap length is ∙ length-overwrite content bytes at within, room, grows, fits)

-- the calls up to the last good sync and those since
pub replay_synced : (start : List ℕ) (calls : List DiskCall) (synced : ℕ) → CountsToSync synced calls →
    replay (fresh start) calls ≡ replay (fresh (replay (fresh start) calls).synced) (drop synced calls)
replay_synced start calls synced is =
    ap (replay (fresh start)) (sym (take-append-drop synced calls)) ∙ replay-append (fresh start) (take synced calls) (drop synced calls) ∙
    ap (λ (s : DiskState). replay s (drop synced calls)) (is.nothing_pending start)
