-- What a crash at any moment may have left.
use Rattle.std.specs.Prelude.{◌⊎◌, ℕ, ◌≤◌, List}
use Rattle.ss_outside.specs.Disk.{Told, StaysSame}

-- Time goes on over a call: a crash since a moment might have left what it might have left before, or what it may leave now.
pub record Elapses (old new : Told) : Type 0 where
  pub later : old.moment ≤ new.moment
  pub nothing_else : (moment : ℕ) (image : List ℕ) → moment ≤ old.moment → new.left_since moment image → old.left_since moment image ⊎ new.may_leave image
  pub keeps : (moment : ℕ) (image : List ℕ) → moment ≤ old.moment → old.left_since moment image → new.left_since moment image

-- The content is one of the images, this moment is one of those since an earlier one, and since this moment there is no other.
pub record KnowsNow (disk : Told) : Type 0 where
  pub content_is_image : disk.may_leave disk.content
  pub counts_now : (moment : ℕ) (image : List ℕ) → moment ≤ disk.moment → disk.may_leave image → disk.left_since moment image
  pub only_now : (image : List ℕ) → disk.left_since disk.moment image → disk.may_leave image

-- A call, or some in a row, that only read: content and images stay, and a crash meanwhile left one of these images.
pub record OnlyReads (old new : Told) : Type 0 where
  pub same : StaysSame old new
  pub time : Elapses old new

-- A crash at any moment from `old` to `new` leaves only images that have P.
pub record LeavesOnly (old new : Told) (P : List ℕ → Type 0) : Type 0 where
  pub later : old.moment ≤ new.moment
  pub each : (image : List ℕ) → new.left_since old.moment image → P image
  -- for a run that began earlier
  pub earlier : (moment : ℕ) (image : List ℕ) → moment ≤ old.moment → new.left_since moment image → old.left_since moment image ⊎ P image
