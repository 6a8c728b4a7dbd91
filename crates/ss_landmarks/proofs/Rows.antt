-- Worked rows, each computed.
use Rattle.std.proofs.Common.{◌≡◌, ℕ, ◌+◌, ◌-◌, ◌^◌, true, false, ℤ, pos, negsuc, List, [], ◌∷◌, ◌++◌, length, map, slice_get, take, drop, Some, None}
use Rattle.std.proofs.Common.{refl, arith}
use Rattle.ss_landmarks.specs.Landmark.{Landmark, all_values, opened_at, with_value, closed_at, change_last}
use Rattle.ss_landmarks.specs.Newest.{newest_value}
use Rattle.ss_landmarks.specs.Landmarks.{LandmarksState, opened}
use Rattle.ss_landmarks.specs.Free.{free}
use Rattle.ss_landmarks.specs.Order.{CanOpen, CanTake, CanClose}
use Rattle.ss_landmarks.specs.ValuesIn.{is_among, values_between, tally_of}
use Rattle.ss_landmarks.specs.declared.landmarks.TheConstants.{MOST_LANDMARK_SLOTS}

pub MOST_LANDMARK_SLOTS-is : MOST_LANDMARK_SLOTS ≡ 2 ^ 24
MOST_LANDMARK_SLOTS-is = refl

abbrev open_at : ℕ → List Landmark → List Landmark
open_at t landmarks = landmarks ++ opened_at t ∷ []

abbrev add_at : ℕ → ℤ → List Landmark → List Landmark
add_at t v landmarks = change_last (with_value (record { t = t; v = v })) landmarks

abbrev close_at : ℕ → List Landmark → List Landmark
close_at t landmarks = change_last (closed_at t) landmarks

-- ---- a landmark of one time, 100, with the value 7

abbrev single : List Landmark
single = close_at 100 (add_at 100 (pos 7) (open_at 100 []))

pub single-is : single ≡ record { start = 100; finish = Some 100; values = record { t = 100; v = pos 7 } ∷ [] } ∷ []
single-is = refl

pub free-single : free single 99 101 ≡ 2
free-single = refl

pub free-single-inside : free single 100 100 ≡ 0
free-single-inside = refl

pub values_between-single : tally_of (values_between single 100 100) ≡ record { count = 1; sum = pos 7; least = Some (pos 7); greatest = Some (pos 7) }
values_between-single = refl

pub values_between-after : tally_of (values_between single 101 200) ≡ record { count = 0; sum = pos 0; least = None; greatest = None }
values_between-after = refl

-- ---- one from 20 to 40, with the values 100 and 200 at 20 and 30

abbrev one : List Landmark
one = close_at 40 (add_at 30 (pos 200) (add_at 20 (pos 100) (open_at 20 [])))

-- a closed landmark covers both its ends and all between, also after its last value
pub free-around : free one 11 49 ≡ 18
free-around = refl

pub free-within : free one 20 40 ≡ 0
free-within = refl

pub free-ends : free one 19 41 ≡ 2
free-ends = refl

-- there are none from a time to an earlier one
pub free-backwards : free one 50 11 ≡ 0
free-backwards = refl

pub values_between-whole : tally_of (values_between one 20 40) ≡ record { count = 2; sum = pos 300; least = Some (pos 100); greatest = Some (pos 200) }
values_between-whole = refl

pub values_between-part : tally_of (values_between one 21 30) ≡ record { count = 1; sum = pos 200; least = Some (pos 200); greatest = Some (pos 200) }
values_between-part = refl

-- both ends of the times belong to the range; 300 is the sum of the two, and neither
pub is_among-whole : map (λ v. is_among v (values_between one 20 30)) (pos 100 ∷ pos 200 ∷ pos 300 ∷ []) ≡ true ∷ true ∷ false ∷ []
is_among-whole = refl

-- a value at a time outside the range isn't among those of the range
pub is_among-part : map (λ v. is_among v (values_between one 21 29)) (pos 100 ∷ pos 200 ∷ []) ≡ false ∷ false ∷ []
is_among-part = refl

pub is_among-backwards : is_among (pos 100) (values_between one 40 20) ≡ false
is_among-backwards = refl

-- ---- a second one that is open, from 80 on, with the value -3 at 90

abbrev two : List Landmark
two = add_at 90 (negsuc 2) (open_at 80 one)

-- an open landmark covers all times from its opening on
pub free-open : free two 70 1000 ≡ 10
free-open = refl

pub free-both : free two 11 81 ≡ 48
free-both = refl

pub values_between-both : tally_of (values_between two 30 90) ≡ record { count = 2; sum = pos 197; least = Some (negsuc 2); greatest = Some (pos 200) }
values_between-both = refl

-- the value of the open one is there at its time, and not before; its opposite is not
pub is_among-open : is_among (negsuc 2) (values_between two 90 90) ≡ true
is_among-open = refl

pub is_among-before : is_among (negsuc 2) (values_between two 0 89) ≡ false
is_among-before = refl

pub is_among-opposite : is_among (pos 3) (values_between two 0 90) ≡ false
is_among-opposite = refl

pub opened-two : opened (record { landmarks = two; slots = 5 ∷ 8 ∷ []; value_slots = 6 ∷ 7 ∷ 9 ∷ []; room = 0; value_room = 3 }) ≡ Some (80, 8, 1)
opened-two = refl

pub opened-one : opened (record { landmarks = one; slots = 5 ∷ []; value_slots = 6 ∷ 7 ∷ []; room = 1; value_room = 1 }) ≡ None
opened-one = refl

-- the slots of the landmarks stand first, and then those of their values, up to the last of both together
abbrev state_two : LandmarksState
state_two = record { landmarks = two; slots = 5 ∷ 8 ∷ []; value_slots = 6 ∷ 7 ∷ 9 ∷ []; room = 0; value_room = 3 }

pub slots-two : map (slice_get (state_two.slots ++ state_two.value_slots)) (0 ∷ 1 ∷ 2 ∷ 3 ∷ 4 ∷ 5 ∷ [])
    ≡ Some 5 ∷ Some 8 ∷ Some 6 ∷ Some 7 ∷ Some 9 ∷ None ∷ []
slots-two = refl

pub places-two : length state_two.slots + length state_two.value_slots ≡ 5
places-two = refl

-- ---- at the greatest times

abbrev late : List Landmark
late = add_at (2 ^ 62) (pos 5) (open_at (2 ^ 62 - 1) (close_at 1099511627777 (add_at 1099511627777 (pos 0) (open_at 1099511627777 []))))

pub free-late : free late (2 ^ 62 - 3) (2 ^ 62) ≡ 2
free-late = refl

pub free-late-between : free late 1099511627776 1099511627779 ≡ 3
free-late-between = refl

pub values_between-late : tally_of (values_between late (2 ^ 62) (2 ^ 64 - 1))
    ≡ record { count = 1; sum = pos 5; least = Some (pos 5); greatest = Some (pos 5) }
values_between-late = refl

-- the newest value; none where no landmark has one
pub newest-values : map newest_value ([] ∷ open_at 5 [] ∷ single ∷ one ∷ open_at 70 one ∷ two ∷ late ∷ [])
    ≡ None ∷ None ∷ Some (record { t = 100; v = pos 7 }) ∷ Some (record { t = 30; v = pos 200 }) ∷ Some (record { t = 30; v = pos 200 })
    ∷ Some (record { t = 90; v = negsuc 2 }) ∷ Some (record { t = 2 ^ 62; v = pos 5 }) ∷ []
newest-values = refl

-- the values of a range stand together, from the place of the first on
pub values_between-places : values_between two 25 90 ≡ take 2 (drop 1 (all_values two))
values_between-places = refl

pub is_among-late : is_among (pos 5) (values_between late (2 ^ 62) (2 ^ 62)) ≡ true
is_among-late = refl

-- ---- when a landmark may be opened, take a value and be closed

-- the first value may have the time of the opening, and the second may not
pub CanTake-first : CanTake (open_at 100 []) 100
CanTake-first = (omega arith, λ k d below. absurd (omega arith))

pub CanTake-again : CanTake (add_at 100 (pos 7) (open_at 100 [])) 100 → ⊥
CanTake-again can = let after = can.1 0 (record { t = 0; v = pos 0 }) (omega arith) in omega (arith, after)

-- the closing may have the time of the opening, and the next opening may not
pub CanClose-same : CanClose (open_at 100 []) 100
CanClose-same = (omega arith, λ k d below. absurd (omega arith))

pub CanOpen-same : CanOpen single 100 → ⊥
CanOpen-same can = let after = can 0 (opened_at 0) (omega arith) in omega (arith, after)

-- none may be opened while one is open, nor take a value or be closed where none is
pub CanOpen-open : CanOpen two 100 → ⊥
CanOpen-open can = can 1 (opened_at 0) (omega arith)

pub CanTake-closed : CanTake one 100 → ⊥
CanTake-closed can = can

pub CanClose-closed : CanClose one 100 → ⊥
CanClose-closed can = can
