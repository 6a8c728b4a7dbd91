-- Worked rows of histories with landmarks, their states and refusals, each computed.
use Rattle.ss_model.proofs.Common.{◌≡◌, ℕ, ◌+◌, ◌^◌, Bool, true, false, not, List, [], ◌∷◌, ◌++◌, map, take, refl, Some, None, pos, Option, Event, Create}
use Rattle.ss_model.proofs.Common.{Value, Open, Close, exp, power, Refusal, Landmark, opened_at, filter_of, full, union, New, Old, landmarks_of, marked_of}
use Rattle.ss_model.proofs.Common.{values_of, Happened, added, has_open, first_that_applies, is_before, is_some, of_outline, outline_named, row_of, Stream}
use Rattle.ss_model.proofs.Common.{last_time, live, ack_of, stepped, Window}
use Rattle.std.proofs.Common.{codes}
use Rattle.ss_targets.specs.Power.{power_length}
use Rattle.ss_targets.specs.Windowing.{window_index}
use Rattle.ss_catalog.specs.declared.refusal.Refusal.TheVariants as refusal
use Rattle.ss_model.specs.Marks.{lies_free}
use Rattle.ss_model.specs.Refusals.{refuses}
use Rattle.ss_model.specs.State.{state}
use Rattle.ss_model.specs.Steps.{stepped_from}

b : List ℕ
b = codes "b"

-- create b exp 2 1 1, open b 100, append b 100 7, close b 100
one_moment : List Happened
one_moment = map added (Create b (exp 2 1 1) ∷ Open b 100 ∷ Value b 100 (pos 7) ∷ Close b 100 ∷ [])

-- append b 100 8, append b 101 8
refusals-one_moment : map (refuses (state one_moment)) (Value b 100 (pos 8) ∷ Value b 101 (pos 8) ∷ []) ≡ Some refusal.Time ∷ None ∷ []
unfolding refuses state window_index one_moment b
refusals-one_moment = refl

state-one_moment : state (one_moment ++ added (Value b 101 (pos 8)) ∷ []) ≡ record {
  number = 0;
  name = b;
  params = exp 2 1 1;
  windows = record {
    first = 1;
    summary = record { count = 1; sum = pos 8; min = pos 8; max = pos 8; t_first = 101; t_last = 101; filter = filter_of (pos 8) };
  } ∷ [];
  landmarks = record { start = 100; finish = Some 100; values = record { t = 100; v = pos 7 } ∷ [] } ∷ [];
} ∷ []
unfolding state window_index one_moment b
state-one_moment = refl

-- the values of a landmark are kept one by one, so also those that a store without filters took count as new
old_moment : List Happened
old_moment = map (λ event. (event, Old)) (Create b (exp 2 1 1) ∷ Open b 100 ∷ Value b 100 (pos 7) ∷ Close b 100 ∷ Value b 101 (pos 8) ∷ [])

marked-old_moment : marked_of old_moment b ≡ (100, pos 7, New) ∷ []
unfolding old_moment b
marked-old_moment = refl

plain-old_moment : values_of old_moment b ≡ (101, pos 8, Old) ∷ []
unfolding old_moment b
plain-old_moment = refl

-- create c power 1 0 1 2, append c 10 1, open c 20, append c 20 100, append c 30 200, close c 40, append c 50 3
c : List ℕ
c = codes "c"

around : List Happened
around = map added (
    Create c (power 1 0 1 2) ∷ Value c 10 (pos 1) ∷ Open c 20 ∷ Value c 20 (pos 100) ∷ Value c 30 (pos 200) ∷ Close c 40
    ∷ Value c 50 (pos 3) ∷ [])

-- the values outside landmarks, and those of landmarks
plain-around : values_of around c ≡ (10, pos 1, New) ∷ (50, pos 3, New) ∷ []
unfolding around c
plain-around = refl

marked-around : marked_of around c ≡ (20, pos 100, New) ∷ (30, pos 200, New) ∷ []
unfolding around c
marked-around = refl

landmark-around : landmarks_of around c ≡
    record { start = 20; finish = Some 40; values = record { t = 20; v = pos 100 } ∷ record { t = 30; v = pos 200 } ∷ [] } ∷ []
unfolding around c
landmark-around = refl

-- one window from 10 to 50, with two values
window-around : map (λ s. s.windows) (state around) ≡
    (record {
      first = 1;
      summary = record { count = 2; sum = pos 4; min = pos 1; max = pos 3; t_first = 10; t_last = 50; filter = union (filter_of (pos 1)) (filter_of (pos 3)) };
    } ∷ []) ∷ []
unfolding state window_index power_length around c
window-around = refl

-- ok 0 0, ok 1 1, and the same at each event of the landmark
acks-around : map (λ k. ack_of c (state (take k around))) (1 ∷ 2 ∷ 3 ∷ 4 ∷ 5 ∷ 6 ∷ 7 ∷ []) ≡
    record { n = 0; k = 0 } ∷ record { n = 1; k = 1 } ∷ record { n = 1; k = 1 } ∷ record { n = 1; k = 1 } ∷ record { n = 1; k = 1 }
    ∷ record { n = 1; k = 1 } ∷ record { n = 2; k = 1 } ∷ []
unfolding state window_index power_length around c
acks-around = refl

-- list: two values, one window, one landmark with two values, and with the stream itself five records
shown-around : map row_of (state around) ≡
    record { id = record { 0 = 0 }; name = c; params = power 1 0 1 2; n = 2; k = 1; landmarks = 1; values = 2 } ∷ []
unfolding state window_index power_length around c
shown-around = refl

records-around : live (state around) ≡ 5
unfolding state window_index power_length around c
records-around = refl

-- the last time rises at an opening, at a value of the landmark, and at its closing
last_times-around : map (λ k. map last_time (state (take k around))) (1 ∷ 2 ∷ 3 ∷ 4 ∷ 5 ∷ 6 ∷ 7 ∷ []) ≡
    (None ∷ []) ∷ (Some 10 ∷ []) ∷ (Some 20 ∷ []) ∷ (Some 20 ∷ []) ∷ (Some 30 ∷ []) ∷ (Some 40 ∷ []) ∷ (Some 50 ∷ []) ∷ []
unfolding state window_index power_length around c
last_times-around = refl

-- a step is the state of one more event
steps-around : map (λ k. stepped (state (take k around)) (Close c 40)) (5 ∷ []) ≡ state (take 6 around) ∷ []
unfolding stepped_from state window_index around c
steps-around = refl

-- the window lies among landmarks: 21 of its 41 times are covered, and 20 are free
free-around : map (λ (w : Window). lies_free (landmarks_of around c) w)
    (record { first = 1; summary = record { count = 20; sum = pos 4; min = pos 1; max = pos 3; t_first = 10; t_last = 50; filter = full } }
    ∷ record { first = 1; summary = record { count = 21; sum = pos 4; min = pos 1; max = pos 3; t_first = 10; t_last = 50; filter = full } } ∷ []) ≡
    true ∷ false ∷ []
unfolding lies_free around c
free-around = refl

-- what is refused, and what isn't, before the landmark, at its opening, at its values and after its closing
why_at : ℕ → List Event → List (Option Refusal)
why_at k events = map (refuses (state (take k around))) events

refusals-before : why_at 2 (Close c 11 ∷ Close c 9 ∷ Open c 10 ∷ Open c 11 ∷ Open b 11 ∷ Close b 11 ∷ []) ≡
    Some refusal.NotOpen ∷ Some refusal.NotOpen ∷ Some refusal.Time ∷ None ∷ Some refusal.Unknown ∷ Some refusal.Unknown ∷ []
unfolding why_at refuses state window_index around c b
refusals-before = refl

-- the first value may carry the time of the opening, and the landmark may be closed then, empty
refusals-opened : why_at 3 (Open c 21 ∷ Value c 19 (pos 0) ∷ Value c 20 (pos 0) ∷ Close c 19 ∷ Close c 20 ∷ []) ≡
    Some refusal.Open ∷ Some refusal.Time ∷ None ∷ Some refusal.Time ∷ None ∷ []
unfolding why_at refuses state window_index around c
refusals-opened = refl

-- a second value may not
refusals-marked : why_at 4 (Value c 20 (pos 0) ∷ Value c 21 (pos 0) ∷ Open c 20 ∷ Close c 20 ∷ []) ≡
    Some refusal.Time ∷ None ∷ Some refusal.Open ∷ None ∷ []
unfolding why_at refuses state window_index around c
refusals-marked = refl

-- a close before the last time is refused, and one at the last time isn't
refusals-values : why_at 5 (Close c 29 ∷ Close c 30 ∷ Value c 30 (pos 0) ∷ Value c 31 (pos 0) ∷ []) ≡
    Some refusal.Time ∷ None ∷ Some refusal.Time ∷ None ∷ []
unfolding why_at refuses state window_index around c
refusals-values = refl

-- the next landmark opens after the closing
refusals-closed : why_at 6 (Close c 41 ∷ Close c 39 ∷ Open c 40 ∷ Open c 41 ∷ Value c 40 (pos 0) ∷ Value c 41 (pos 0) ∷ []) ≡
    Some refusal.NotOpen ∷ Some refusal.NotOpen ∷ Some refusal.Time ∷ None ∷ Some refusal.Time ∷ None ∷ []
unfolding why_at refuses state window_index around c
refusals-closed = refl

-- a stream with 2^40 values outside landmarks takes no more of them, and a landmark of it still takes values
full_with : List Landmark → List Stream
full_with landmarks = record {
  number = 0;
  name = c;
  params = exp 2 1 1;
  windows = record { first = 1; summary = record { count = 2 ^ 40; sum = pos 0; min = pos 0; max = pos 0; t_first = 1; t_last = 2 ^ 40; filter = full } } ∷ [];
  landmarks = landmarks;
} ∷ []

refusals-full_stream : map (λ landmarks. refuses (full_with landmarks) (Value c (2 ^ 40 + 2) (pos 0))) ([] ∷ (opened_at (2 ^ 40 + 1) ∷ []) ∷ []) ≡
    Some refusal.StreamFull ∷ None ∷ []
unfolding refuses full_with c
refusals-full_stream = refl

opens-full_stream : refuses (full_with []) (Open c (2 ^ 40 + 1)) ≡ None
unfolding refuses full_with c
opens-full_stream = refl

-- a close needs no record, so it isn't refused for want of one
applies-close : (a b c : Bool) → first_that_applies ((a, refusal.Unknown) ∷ (b, refusal.NotOpen) ∷ (c, refusal.Time) ∷ []) ≡ Some refusal.StoreFull → ⊥
applies-close true b c is = let wrong : Some refusal.Unknown ≡ Some refusal.StoreFull = is in cc
applies-close false true c is = let wrong : Some refusal.NotOpen ≡ Some refusal.StoreFull = is in cc
applies-close false false true is = let wrong : Some refusal.Time ≡ Some refusal.StoreFull = is in cc
applies-close false false false is = let wrong : None ≡ Some refusal.StoreFull = is in cc

refuses-close_room : (streams : List Stream) (name : List ℕ) (t : ℕ) → refuses streams (Close name t) ≡ Some refusal.StoreFull → ⊥
unfolding refuses
refuses-close_room streams name t is =
    let stream = outline_named name streams in
    applies-close (not (is_some stream)) (of_outline stream (λ s. not (has_open s.landmarks))) (of_outline stream (λ s. is_before s.last_time t)) is
