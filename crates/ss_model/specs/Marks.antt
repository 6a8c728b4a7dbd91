-- The landmarks of a stream, as its events change them.
use Rattle.std.specs.Prelude.{ℕ, ℤ, max, Bool, ◌&&◌, nat_le, is_some, List, [], ◌∷◌, ◌++◌, map, fold, option_to_list, Option, Some, None}
use Rattle.ss_landmarks.specs.Free.{free, is_free}
use Rattle.ss_landmarks.specs.Landmark.{Landmark, LandmarkValue, all_values, change_last, closed_at, open_landmark, opened_at, with_value}
use Rattle.ss_summary.specs.Points.{Point, New}
use Rattle.ss_model.specs.declared.types.Window.{Window}

-- whether a landmark is open
abbrev pub has_open : List Landmark → Bool
has_open landmarks = is_some (open_landmark landmarks)

-- the landmarks after one more opens, after the open one has taken a value, and after it closes
abbrev pub with_opened : List Landmark → ℕ → List Landmark
with_opened landmarks t = landmarks ++ opened_at t ∷ []

abbrev pub with_marked : List Landmark → ℕ → ℤ → List Landmark
with_marked landmarks t v = change_last (with_value (record { t = t; v = v })) landmarks

abbrev pub with_closed : List Landmark → ℕ → List Landmark
with_closed landmarks t = change_last (closed_at t) landmarks

-- The values of all landmarks. They are kept one by one, so nothing depends on where they are from, and all count as new.
abbrev pub marked_values : List Landmark → List Point
marked_values landmarks = map (λ (value : LandmarkValue). (value.t, value.v, New)) (all_values landmarks)

-- the later of two times, where there are any
abbrev pub later : Option ℕ → Option ℕ → Option ℕ
later None other = other
later (Some t) None = Some t
later (Some t) (Some other) = Some (max t other)

-- the latest time of a landmark: of its opening, its closing if it is closed, and its values
abbrev pub latest_in : Landmark → ℕ
latest_in l = fold max (fold max l.start (option_to_list l.finish)) (map (λ (value : LandmarkValue). value.t) l.values)

-- the latest time of some landmarks, where there are any
abbrev pub latest_of : List Landmark → Option ℕ
latest_of [] = None
latest_of (l ∷ ls) = later (Some (latest_in l)) (latest_of ls)

-- a window lies among landmarks: none of them covers an end of it, and it has no more values than there are free times in it
unfoldable pub lies_free : List Landmark → Window → Bool
lies_free landmarks w =
    is_free landmarks w.summary.t_first && is_free landmarks w.summary.t_last
    && nat_le w.summary.count (free landmarks w.summary.t_first w.summary.t_last)
