-- What a disk tells, what its calls do to the content, and which images a crash may leave of it.
use Rattle.std.specs.Prelude.{◌≡◌, ◌⊎◌, ◌↔◌, ℕ, ◌+◌, ◌<◌, ◌≤◌, max, Bool, List, [], ◌∷◌, ◌++◌, length, take, drop, slice_index, EachIndex, IsTrue, ⊤}

-- What a disk tells: the bytes that a read gives, the images that a crash now may leave, the moment on its clock, the
-- images that a crash at some moment or a later one may have left, inside a call or between two, and how many syncs answered Ok.
pub record Told : Type 1 where
  pub content : List ℕ
  pub may_leave : List ℕ → Type 0
  pub moment : ℕ
  pub left_since : ℕ → List ℕ → Type 0
  pub syncs : ℕ

-- What a disk is to a contract: whether it tells anything, what it tells then, and how many of its calls have failed. A file
-- tells nothing.
pub record DiskView : Type 1 where
  pub tells : Bool
  pub told : Told
  pub faults : ℕ

-- a fact of what a disk tells, and one of its content: nothing is said of a disk that doesn't tell
abbrev pub WhereTold : DiskView → (Told → Type 0) → Type 0
WhereTold disk P = IsTrue disk.tells → P disk.told

abbrev pub OfContent : DiskView → (List ℕ → Type 0) → Type 0
OfContent disk P = IsTrue disk.tells → P disk.told.content

-- a fact of what it tells at one moment and what it tells at another, where it tells
abbrev pub Between : DiskView → DiskView → (Told → Told → Type 0) → Type 0
Between old new R = IsTrue old.tells → R old.told new.told

-- the numbers are bytes
abbrev pub AreBytes : List ℕ → Type 0
AreBytes content = EachIndex content (λ place. slice_index content place < 256)

-- a place outside the range of `count` places from `at` on
abbrev pub IsOutside : ℕ → ℕ → ℕ → Type 0
IsOutside at count place = (place < at) ⊎ (at + count ≤ place)

-- the buffer holds the content from `at` on, and 0 for each byte past its end
abbrev pub IsReadFrom : List ℕ → ℕ → List ℕ → Type 0
IsReadFrom content at buffer = EachIndex buffer (λ k. slice_index buffer k ≡ slice_index content (at + k))

-- the content with these bytes from `at` on, and as it is elsewhere
abbrev pub overwrite : List ℕ → ℕ → List ℕ → List ℕ
overwrite content at bytes = take at content ++ bytes ++ drop (at + length bytes) content

-- What a crash may make of an image while a range of it is pending: each place of it outside the range stays, it grows
-- to any length up to the end of the range, and every other byte is free.
pub record Torn (at count : ℕ) (old new : List ℕ) : Type 0 where
  pub no_shorter : length old ≤ length new
  pub no_longer : length new ≤ max (length old) (at + count)
  pub kept : EachIndex old (λ place. IsOutside at count place → slice_index new place ≡ slice_index old place)
  pub bytes : AreBytes new

-- a range becomes pending: the images after are those before, torn there in every way, and nothing was synced
pub record BecomesPending (at count : ℕ) (old new : Told) : Type 0 where
  pub nothing_else : (image : List ℕ) → new.may_leave image → (was : List ℕ) × old.may_leave was × Torn at count was image
  pub each : (was image : List ℕ) → old.may_leave was → Torn at count was image → new.may_leave image
  pub syncs : new.syncs ≡ old.syncs

-- the same content and the same images, and nothing was synced
pub record StaysSame (old new : Told) : Type 0 where
  pub content : new.content ≡ old.content
  pub images : (image : List ℕ) → old.may_leave image ↔ new.may_leave image
  pub syncs : new.syncs ≡ old.syncs

-- it was synced so often at most
abbrev pub SyncsAtMost : ℕ → Told → Told → Type 0
SyncsAtMost most old new = new.syncs ≤ old.syncs + most

-- nothing is pending: a crash leaves the content and nothing else
abbrev pub NothingPending : Told → Type 0
NothingPending disk = (image : List ℕ) → disk.may_leave image → image ≡ disk.content

-- a place outside each of the ranges, each where it begins and how long it is
abbrev pub IsOutsideAll : List (ℕ × ℕ) → ℕ → Type 0
IsOutsideAll [] place = ⊤
IsOutsideAll (range ∷ ranges) place = IsOutside range.0 range.1 place × IsOutsideAll ranges place

-- The disk model: what a crash may leave, by the content at the last good sync, the ranges that became pending since,
-- and the greatest length reached since.
pub record IsImage (synced : List ℕ) (pending : List (ℕ × ℕ)) (longest : ℕ) (image : List ℕ) : Type 0 where
  pub no_shorter : length synced ≤ length image
  pub no_longer : length image ≤ longest
  pub kept : EachIndex synced (λ place. IsOutsideAll pending place → slice_index image place ≡ slice_index synced place)
  pub bytes : AreBytes image
