-- Which times a landmark covers, and how many are free.
use Rattle.std.specs.Prelude.{ℕ, ◌+◌, ◌-◌, Bool, true, not, ◌&&◌, nat_le, List, Option, Some, None}
use Rattle.std.specs.List.{list_any, count_by, range_with_len}
use Rattle.ss_landmarks.specs.Landmark.{Landmark}

-- the time isn't after the end; any time, where there is none
abbrev pub is_up_to : ℕ → Option ℕ → Bool
is_up_to t None = true
is_up_to t (Some finish) = nat_le t finish

-- a closed landmark covers both its ends and all between; an open one covers all from its opening on
abbrev pub covers : Landmark → ℕ → Bool
covers l t = nat_le l.start t && is_up_to t l.finish

-- no landmark covers the time
abbrev pub is_free : List Landmark → ℕ → Bool
is_free landmarks t = not (list_any (λ l. covers l t) landmarks)

-- how many of the times p..=q are free; none where p is after q
abbrev pub free : List Landmark → ℕ → ℕ → ℕ
free landmarks p q = count_by (is_free landmarks) (range_with_len p (q + 1 - p))
