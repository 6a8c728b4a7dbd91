-- Worked rows of the newest value and of the values of landmarks in a range, each computed.
use Rattle.ss_model.proofs.Common.{◌≡◌, ℕ, List, [], ◌∷◌, map, take, refl, Some, None, pos, negsuc, Option, Create, Open, Close, Drop, exp, power, Unknown}
use Rattle.ss_model.proofs.Common.{Range, LandmarkValue, values_between, Happened, added, landmarks_of, newer, newest_in, Known, Newest, Nothing, Time}
use Rattle.std.proofs.Common.{codes}
use Rattle.ss_targets.specs.Power.{power_length}
use Rattle.ss_targets.specs.Windowing.{window_index}
use Rattle.ss_catalog.specs.declared.event.Event.TheVariants.{Value as Append}
use Rattle.ss_model.specs.Newest.{refuses_values}
use Rattle.ss_model.specs.Refusals.{refuses_reading}
use Rattle.ss_model.specs.State.{state}
use Rattle.ss_model.specs.declared.newest.Newest.TheVariants.{Value}

-- what is told of a stream after the first events of a history, so many each time
abbrev told_of : List Happened → List ℕ → List ℕ → List (Option Newest)
told_of history name counts = map (λ k. newest_in (state (take k history)) name) counts

e : List ℕ
e = codes "e"

-- a stream whose first value is the one of a landmark, at its opening
marked_first : List Happened
marked_first = map added (
    Create e (exp 2 1 1) ∷ Open e 5 ∷ Append e 5 (negsuc 0) ∷ Close e 9 ∷ Append e 10 (pos 3) ∷ Open e 20 ∷ Drop e ∷ Create e (exp 2 1 1) ∷ [])

-- last e: none, 5, 5 5 -1 -1, 9 5 -1 -1, 10 10 3 3, 20 10 3 3, no such stream, none
newest-marked_first : told_of marked_first e (1 ∷ 2 ∷ 3 ∷ 4 ∷ 5 ∷ 6 ∷ 7 ∷ 8 ∷ []) ≡
    Some Nothing ∷ Some (Time 5) ∷ Some (Value 5 5 (negsuc 0) (negsuc 0)) ∷ Some (Value 9 5 (negsuc 0) (negsuc 0)) ∷ Some (Value 10 10 (pos 3) (pos 3))
    ∷ Some (Value 20 10 (pos 3) (pos 3)) ∷ None ∷ Some Nothing ∷ []
unfolding state window_index marked_first e
newest-marked_first = refl

-- last f
reading-marked_first : map (refuses_reading (state marked_first)) (e ∷ codes "f" ∷ []) ≡ None ∷ Some Unknown ∷ []
unfolding refuses_reading state window_index marked_first e
reading-marked_first = refl

d : List ℕ
d = codes "d"

-- a stream whose newest window has several values
several : List Happened
several = map added (
    Create d (power 1 0 1 4) ∷ Append d 10 (pos 4) ∷ Append d 11 (pos 4) ∷ Append d 12 (pos 6) ∷ Append d 13 (pos 5) ∷ Append d 14 (pos 9)
    ∷ Append d 15 (pos 8) ∷ Open d 20 ∷ Append d 20 (pos 7) ∷ [])

-- last d: 13 13 4 6, 14 14 9 9, 15 15 8 9, 20 15 8 9, 20 20 7 7
newest-several : told_of several d (5 ∷ 6 ∷ 7 ∷ 8 ∷ 9 ∷ []) ≡
    Some (Value 13 13 (pos 4) (pos 6)) ∷ Some (Value 14 14 (pos 9) (pos 9)) ∷ Some (Value 15 15 (pos 8) (pos 9)) ∷ Some (Value 20 15 (pos 8) (pos 9))
    ∷ Some (Value 20 20 (pos 7) (pos 7)) ∷ []
unfolding state window_index power_length several d
newest-several = refl

-- which of two values is newer goes by their times alone
abbrev known_at : ℕ → Known
known_at t = record { at = t; lo = pos 0; hi = pos 9 }

newer-times :
    newer None None ∷ newer (Some (known_at 5)) None ∷ newer None (Some (known_at 6)) ∷ newer (Some (known_at 5)) (Some (known_at 6))
    ∷ newer (Some (known_at 7)) (Some (known_at 6)) ∷ []
    ≡ None ∷ Some (known_at 5) ∷ Some (known_at 6) ∷ Some (known_at 6) ∷ Some (known_at 7) ∷ []
newer-times = refl

b : List ℕ
b = codes "b"

-- a stream with a closed landmark of two values, an open one of one, and two values outside
kept : List Happened
kept = map added (
    Create b (exp 2 1 1) ∷ Append b 1 (pos 9) ∷ Open b 10 ∷ Append b 10 (pos 7) ∷ Append b 12 (negsuc 6) ∷ Close b 15 ∷ Append b 16 (pos 9) ∷ Open b 20
    ∷ Append b 25 (pos 0) ∷ [])

-- values b 0 100, values b 11 24, values b 12 12, values b 13 19, values b 10 25, values b 11 25, values b 10 24
values-kept : map (λ (range : ℕ × ℕ). map (λ (value : LandmarkValue). value.t) (values_between (landmarks_of kept b) range.0 range.1))
    ((0, 100) ∷ (11, 24) ∷ (12, 12) ∷ (13, 19) ∷ (10, 25) ∷ (11, 25) ∷ (10, 24) ∷ []) ≡
    (10 ∷ 12 ∷ 25 ∷ []) ∷ (12 ∷ []) ∷ (12 ∷ []) ∷ [] ∷ (10 ∷ 12 ∷ 25 ∷ []) ∷ (12 ∷ 25 ∷ []) ∷ (10 ∷ 12 ∷ []) ∷ []
unfolding kept b
values-kept = refl

values-whole : values_between (landmarks_of kept b) 0 100 ≡
    record { t = 10; v = pos 7 } ∷ record { t = 12; v = negsuc 6 } ∷ record { t = 25; v = pos 0 } ∷ []
unfolding kept b
values-whole = refl

-- values b 5 4, values b 5 5, values f 5 4, values f 4 5
refusals-kept :
    refuses_values (state kept) b 5 4 ∷ refuses_values (state kept) b 5 5 ∷ refuses_values (state kept) (codes "f") 5 4
    ∷ refuses_values (state kept) (codes "f") 4 5 ∷ []
    ≡ Some Range ∷ None ∷ Some Unknown ∷ Some Unknown ∷ []
unfolding refuses_values state window_index kept b
refusals-kept = refl
