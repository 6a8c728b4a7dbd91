-- Rows that pin what writes make of a content, what sources move and take and sinks append, and which calls of a disk in memory fail.
use Rattle.std.proofs.Common.{◌≡◌, inl, inr, ℕ, ◌-◌, ◌^◌, ◌≤◌, List, [], ◌∷◌, take, drop, length, Option, Some, None, Ok, Err, refl, lit≤, arith}
use Rattle.std.proofs.Common.{EachIndex, slice_index}
use Rattle.ss_outside.specs.Choice.{IsChosen, IsFilled, IsFree}
use Rattle.ss_outside.specs.Disk.{IsOutside, IsOutsideAll, overwrite}
use Rattle.ss_outside.specs.MemDisk.{DiskState, IsListed, MemDiskState, made}
use Rattle.ss_outside.specs.Sink.{Appends}
use Rattle.ss_outside.specs.Source.{Moves, RoseBy, Takes}
use Rattle.ss_outside.specs.declared.mem_disk.Choice.TheVariants.{Fill, Kept, Lost}
use Rattle.ss_outside.specs.declared.source.Failed.{Failed}

-- bytes are written over what is there, and past the end
overwrite-inside : overwrite (1 ∷ 2 ∷ 3 ∷ []) 1 (9 ∷ []) ≡ 1 ∷ 9 ∷ 3 ∷ []
overwrite-inside = refl

overwrite-past : overwrite (1 ∷ 2 ∷ 3 ∷ []) 2 (8 ∷ 9 ∷ []) ≡ 1 ∷ 2 ∷ 8 ∷ 9 ∷ []
overwrite-past = refl

-- of a range of two places from 3 on the places 2 and 5 are the next outside it
IsOutside-before : IsOutside 3 2 2
IsOutside-before = inl (lit≤ tt)

IsOutside-first : IsOutside 3 2 3 → ⊥
IsOutside-first outside = omega (arith, outside)

IsOutside-last : IsOutside 3 2 4 → ⊥
IsOutside-last outside = omega (arith, outside)

IsOutside-after : IsOutside 3 2 5
IsOutside-after = inr (lit≤ tt)

-- a sink appends what it takes, and nothing where it fails
module _ (held piece : List ℕ) (after : Option (List ℕ)) where
  Appends-Ok : Appends (Some (1 ∷ [])) after (Ok 1) (2 ∷ 3 ∷ []) → after ≡ Some (1 ∷ 2 ∷ [])
  Appends-Ok appends = appends

  Appends-Err : (e : Failed) → Appends (Some held) after (Err e) piece → after ≡ Some held
  Appends-Err e appends = appends

  Appends-None : Appends None after (Ok 1) piece → after ≡ None
  Appends-None appends = appends

-- a source moves what is left, none only at the end, and none where it fails
module _ (left into : List ℕ) (after : Option (List ℕ)) (k : ℕ) where
  Moves-few : Moves (Some left) after (Ok k) into → k ≤ length left
  Moves-few moves = moves.0

  Moves-end : Moves (Some left) after (Ok k) into → k ≡ 0 → left ≡ []
  Moves-end moves = moves.1

  Moves-bytes : Moves (Some left) after (Ok k) into → take k into ≡ take k left
  Moves-bytes moves = moves.2

  Moves-left : Moves (Some left) after (Ok k) into → after ≡ Some (drop k left)
  Moves-left moves = moves.3

  Moves-Err : (e : Failed) → Moves (Some left) after (Err e) into → after ≡ Some left
  Moves-Err e moves = moves

  Moves-None : Moves None after (Ok k) into → after ≡ None
  Moves-None moves = moves

-- from 3 a count rose by 2 where it is 5, and neither below nor above
RoseBy-two : RoseBy 2 3 5
RoseBy-two = (lit≤ tt, lit≤ tt)

RoseBy-fewer : RoseBy 2 3 4 → ⊥
RoseBy-fewer rose = omega (arith, rose.0)

RoseBy-more : RoseBy 2 3 6 → ⊥
RoseBy-more rose = omega (arith, rose.1)

-- at its greatest it stands still, and from one below it has to reach it
RoseBy-greatest : RoseBy 2 (2 ^ 64 - 2) (2 ^ 64 - 1)
RoseBy-greatest = (lit≤ tt, lit≤ tt)

RoseBy-below_greatest : RoseBy 2 (2 ^ 64 - 2) (2 ^ 64 - 2) → ⊥
RoseBy-below_greatest rose = omega (arith, rose.0)

-- a read takes what it moves, and none where it fails
Takes-two : Takes 3 5 (Ok 2)
Takes-two = RoseBy-two

Takes-Ok : (before now k : ℕ) → Takes before now (Ok k) → RoseBy k before now
Takes-Ok before now k takes = takes

Takes-Err : (e : Failed) (now : ℕ) → Takes 3 now (Err e) → now ≡ 3
Takes-Err e now takes = takes

-- a disk that stops from call 2 on answers call 1, and no call from 2 on
abbrev stops : ℕ → MemDiskState
stops calls = record (made []) { stop = Some 2; calls = calls }

IsListed-before : IsListed (stops 1) → ⊥
IsListed-before (inl listed) = omega (arith, listed.1)
IsListed-before (inr after) = omega (arith, after)

IsListed-first : IsListed (stops 2)
IsListed-first = inr (lit≤ tt)

IsListed-later : IsListed (stops 3)
IsListed-later = inr (lit≤ tt)

-- which image each choice of a crash takes
module _ (s : DiskState) (image : List ℕ) where
  IsChosen-Lost : IsChosen Lost s image → image ≡ s.synced
  IsChosen-Lost is = is

  IsChosen-Kept : IsChosen Kept s image → image ≡ s.content
  IsChosen-Kept is = is

  IsChosen-Fill : (byte : ℕ) → IsChosen (Fill byte) s image → IsFilled s byte image
  IsChosen-Fill byte is = is

  -- it is as long as the disk ever was, with the byte at each free place, and what was synced at each other one
  IsFilled-longest : (byte : ℕ) → IsFilled s byte image → length image ≡ s.longest
  IsFilled-longest byte is = is.longest

  IsFilled-free : (byte : ℕ) → IsFilled s byte image → EachIndex image (λ place. IsFree s place → slice_index image place ≡ byte)
  IsFilled-free byte is = is.free

  IsFilled-kept : (byte : ℕ) → IsFilled s byte image
      → EachIndex s.synced (λ place. IsOutsideAll s.pending place → slice_index image place ≡ slice_index s.synced place)
  IsFilled-kept byte is = is.kept

-- of four bytes that were synced, with two places pending from the second one on: those and all past the four are free
abbrev torn : DiskState
torn = record { content = 1 ∷ 8 ∷ 9 ∷ 4 ∷ []; synced = 1 ∷ 2 ∷ 3 ∷ 4 ∷ []; pending = (1, 2) ∷ []; longest = 6 }

IsFree-before : IsFree torn 0 → ⊥
IsFree-before (inl past) = omega (arith, past)
IsFree-before (inr (inl inside)) = omega (arith, inside.0)
IsFree-before (inr (inr none)) = none

IsFree-first : IsFree torn 1
IsFree-first = inr (inl (lit≤ tt, lit≤ tt))

IsFree-second : IsFree torn 2
IsFree-second = inr (inl (lit≤ tt, lit≤ tt))

IsFree-last : IsFree torn 3 → ⊥
IsFree-last (inl past) = omega (arith, past)
IsFree-last (inr (inl inside)) = omega (arith, inside.1)
IsFree-last (inr (inr none)) = none

IsFree-past : IsFree torn 4
IsFree-past = inl (lit≤ tt)
