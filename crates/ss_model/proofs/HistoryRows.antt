-- Worked rows of histories, their states and refusals, each computed.
use Rattle.ss_model.proofs.Common.{◌≡◌, ℕ, ◌+◌, ◌-◌, ◌^◌, true, false, List, [], ◌∷◌, ◌++◌, map, take, refl, Some, None, pos, negsuc, Option, Event, Create}
use Rattle.ss_model.proofs.Common.{Value, Open, Drop, exp, power, Refusal, Param, Exists, Unknown, New, Old, Origin, CanBeSaid, Given, Happened, added}
use Rattle.ss_model.proofs.Common.{given_after, landmarks_of, values_of, Stream, next_number, live, last_time, IsHistory, has_all_records, event_name}
use Rattle.ss_model.proofs.Common.{first_that_applies, has_all_streams, numbers_of, outline_named, IsState, ack_of, stepped, without_named, row_of, placed_of}
use Rattle.ss_model.proofs.Common.{Window, MOST_RECORDS}
use Rattle.std.proofs.Common.{codes}
use Rattle.std.specs.Prelude.{◌≤◌, length, replicate}
use Rattle.ss_targets.specs.Power.{power_length}
use Rattle.ss_targets.specs.Windowing.{window_index}
use Rattle.ss_catalog.specs.declared.refusal.Refusal.TheVariants.{StoreFull, Streams, StreamFull, Time}
use Rattle.ss_summary.specs.Filters.{bit_of, filter_of, full, union}
use Rattle.ss_model.specs.State.{state}
use Rattle.ss_model.specs.Refusals.{refusals, refuses, refuses_reading}
use Rattle.ss_model.specs.Steps.{stepped_from}
use Rattle.ss_model.proofs.Rows.{readings_windows}
use Rattle.ss_model.proofs.HistoryLemmas.{GoesOn-push, IsHistory-nil, IsHistory_push}

most_records : MOST_RECORDS ≡ 2 ^ 20
most_records = refl

a : List ℕ
a = codes "a"

-- a stream and seven readings
readings : List Happened
readings = map added (
    Create a (exp 2 1 1) ∷ Value a 10 (pos 5) ∷ Value a 20 (negsuc 2) ∷ Value a 30 (pos 8) ∷ Value a 40 (pos 1)
    ∷ Value a 50 (pos 9) ∷ Value a 60 (pos 2) ∷ Value a 70 (pos 7) ∷ [])

state-readings : state readings ≡ record { number = 0; name = a; params = exp 2 1 1; windows = readings_windows; landmarks = [] } ∷ []
unfolding state window_index readings a bit_of filter_of union
state-readings = refl

-- ok 0 0, ok 1 1, ok 2 2, ok 3 2, ok 4 3, ok 5 3, ok 6 4, ok 7 3
acks-readings : map (λ k. ack_of a (state (take k readings))) (1 ∷ 2 ∷ 3 ∷ 4 ∷ 5 ∷ 6 ∷ 7 ∷ 8 ∷ []) ≡
    record { n = 0; k = 0 } ∷ record { n = 1; k = 1 } ∷ record { n = 2; k = 2 } ∷ record { n = 3; k = 2 }
    ∷ record { n = 4; k = 3 } ∷ record { n = 5; k = 3 } ∷ record { n = 6; k = 4 } ∷ record { n = 7; k = 3 } ∷ []
unfolding state window_index readings a
acks-readings = refl

-- windows a, list
shown-windows : map (λ w. (placed_of w).last) readings_windows ≡ 4 ∷ 6 ∷ 7 ∷ []
shown-windows = refl

shown-list : map row_of (state readings) ≡
    record { id = record { 0 = 0 }; name = a; params = exp 2 1 1; n = 7; k = 3; landmarks = 0; values = 0 } ∷ []
unfolding state window_index readings a
shown-list = refl

records-readings : live (state readings) ≡ 4
unfolding state window_index readings a
records-readings = refl

why : Event → Option Refusal
why = refuses (state readings)

refusals-readings : map why
    (Create a (exp 2 1 1) ∷ Create a (exp 1 1 1) ∷ Create (codes "b") (power 5 1 1 1) ∷ Create (codes "b") (power 4 1 1 1)
    ∷ Value (codes "x") 1 (pos 1) ∷ Value a 70 (pos 1) ∷ Value a 71 (pos 1) ∷ []) ≡
    Some Exists ∷ Some Param ∷ Some Param ∷ None ∷ Some Unknown ∷ Some Time ∷ None ∷ []
unfolding why refuses state window_index readings a
refusals-readings = refl

reading-readings : map (refuses_reading (state readings)) (a ∷ codes "x" ∷ []) ≡ None ∷ Some Unknown ∷ []
unfolding refuses_reading state window_index readings a
reading-readings = refl

-- after the greatest time, every later append is past it
greatest_time : List Happened
greatest_time = readings ++ added (Value a (2 ^ 62) (negsuc (2 ^ 63 - 1))) ∷ []

refusals-greatest_time : map (refuses (state greatest_time)) (Value a (2 ^ 62) (pos 1) ∷ Value a 0 (pos 1) ∷ []) ≡ Some Time ∷ Some Time ∷ []
unfolding refuses state window_index readings greatest_time a
refusals-greatest_time = refl

ack-greatest_time : ack_of a (state greatest_time) ≡ record { n = 8; k = 4 }
unfolding state window_index readings greatest_time a
ack-greatest_time = refl

-- each stream has its own values, and the windows that its own parameters give
two_streams : List Happened
two_streams = map added (
    Create a (exp 2 1 1) ∷ Value a 5 (pos 1) ∷ Create (codes "b") (exp 2 1 2) ∷ Value (codes "b") 1 (pos 2) ∷ Value a 6 (pos 3)
    ∷ Value (codes "b") 2 (pos 4) ∷ [])

values-two_streams : map (values_of two_streams) (a ∷ codes "b" ∷ codes "x" ∷ []) ≡
    ((5, pos 1, New) ∷ (6, pos 3, New) ∷ []) ∷ ((1, pos 2, New) ∷ (2, pos 4, New) ∷ []) ∷ [] ∷ []
unfolding two_streams a
values-two_streams = refl

numbers-two_streams : map (λ s. s.number) (state two_streams) ≡ 0 ∷ 1 ∷ []
unfolding state window_index two_streams a
numbers-two_streams = refl

last_times-two_streams : map last_time (state two_streams) ≡ Some 6 ∷ Some 2 ∷ []
unfolding state window_index two_streams a
last_times-two_streams = refl

steps-two_streams : stepped (state (take 5 two_streams)) (Value (codes "b") 2 (pos 4)) ≡ state two_streams
unfolding stepped_from state window_index two_streams a
steps-two_streams = refl

-- numbers rise also where some are missing
numbers : map next_number ([] ∷ (0 ∷ []) ∷ (3 ∷ 7 ∷ []) ∷ []) ≡ 0 ∷ 1 ∷ 8 ∷ []
numbers = refl

bare : ℕ → Stream
bare number = record { number = number; name = a; params = exp 2 1 1; windows = []; landmarks = [] }

streams-limit : map has_all_streams (replicate 4095 1 ∷ replicate 4096 1 ∷ (4294967294 ∷ []) ∷ (4294967295 ∷ []) ∷ []) ≡
    false ∷ true ∷ false ∷ true ∷ []
streams-limit = refl

full_stream : List Stream
full_stream = record {
  number = 0;
  name = a;
  params = exp 2 1 1;
  windows = record { first = 1; summary = record { count = 2 ^ 40; sum = pos 0; min = pos 0; max = pos 0; t_first = 1; t_last = 2 ^ 40; filter = full } } ∷ [];
  landmarks = [];
} ∷ []

refusals-full_stream : map (refuses full_stream) (Value a (2 ^ 40) (pos 0) ∷ Value a (2 ^ 40 + 1) (pos 0) ∷ Create (codes "b") (exp 2 1 1) ∷ []) ≡
    Some Time ∷ Some StreamFull ∷ None ∷ []
unfolding refuses full_stream a
refusals-full_stream = refl

-- one value less, and it takes one more
almost_full : List Stream
almost_full = record {
  number = 0;
  name = a;
  params = exp 2 1 1;
  windows =
      record { first = 1; summary = record { count = 2 ^ 40 - 1; sum = pos 0; min = pos 0; max = pos 0; t_first = 1; t_last = 2 ^ 40; filter = full } } ∷ [];
  landmarks = [];
} ∷ []

refusals-almost_full : refuses almost_full (Value a (2 ^ 40 + 1) (pos 0)) ≡ None
unfolding refuses almost_full a
refusals-almost_full = refl

-- no further record has a place where 2^20 stand, and an event is refused by how many the state needs
records-limit : map has_all_records (1048575 ∷ 1048576 ∷ []) ≡ false ∷ true ∷ []
records-limit = refl

creates-limit : map (λ records. first_that_applies (refusals None [] records (Create a (exp 2 1 1)))) (1048575 ∷ 1048576 ∷ []) ≡ None ∷ Some StoreFull ∷ []
unfolding a
creates-limit = refl

refuses-counted : (streams : List Stream) (event : Event) →
    refuses streams event ≡ first_that_applies (refusals (outline_named (event_name event) streams) (numbers_of streams) (live streams) event)
unfolding refuses
refuses-counted streams event = refl

-- a row says the number of its stream, and not its place
shown-number : map (λ s. (row_of s).id.0) (bare 7 ∷ []) ≡ 7 ∷ []
unfolding bare a
shown-number = refl

-- the limits that each state keeps
module _ (streams : List Stream) (state : IsState streams) where
  limits-streams : length streams ≤ 4096
  limits-streams = state.few

  limits-records : live streams ≤ 2 ^ 20
  limits-records = state.room

-- ---- streams that are dropped

b : List ℕ
b = codes "b"

-- a name is dropped and created again
created_again : List Happened
created_again = map added (
    Create a (exp 2 1 1) ∷ Value a 5 (pos 1) ∷ Create b (exp 2 1 2) ∷ Value b 1 (pos 2) ∷ Drop a ∷ Create a (exp 2 1 1) ∷ Value a 3 (pos 9)
    ∷ Open a 4 ∷ [])

-- the new stream comes last, with a number that none had: that of the dropped one is below the greatest and isn't used again
numbers-created_again : map (λ k. map (λ s. s.number) (state (take k created_again))) (4 ∷ 5 ∷ 6 ∷ []) ≡
    (0 ∷ 1 ∷ []) ∷ (1 ∷ []) ∷ (1 ∷ 2 ∷ []) ∷ []
unfolding state window_index created_again a b
numbers-created_again = refl

abbrev one_value : ℕ → ℕ → Window
one_value t v =
    record { first = 1; summary = record { count = 1; sum = pos v; min = pos v; max = pos v; t_first = t; t_last = t; filter = filter_of (pos v) } }

state-created_again : state created_again ≡
    record { number = 1; name = b; params = exp 2 1 2; windows = one_value 1 2 ∷ []; landmarks = [] }
    ∷ record {
      number = 2;
      name = a;
      params = exp 2 1 1;
      windows = one_value 3 9 ∷ [];
      landmarks = record { start = 4; finish = None; values = [] } ∷ [];
    } ∷ []
unfolding state window_index created_again one_value a b
state-created_again = refl

-- the values of a name are those since its last create
values-created_again : map (λ k. values_of (take k created_again) a) (4 ∷ 5 ∷ 6 ∷ 7 ∷ []) ≡
    ((5, pos 1, New) ∷ []) ∷ ((5, pos 1, New) ∷ []) ∷ [] ∷ ((3, pos 9, New) ∷ []) ∷ []
unfolding created_again a b
values-created_again = refl

landmarks-created_again : map (λ k. length (landmarks_of (take k created_again) a)) (7 ∷ 8 ∷ []) ≡ 0 ∷ 1 ∷ []
unfolding created_again a b
landmarks-created_again = refl

-- ok 0 0 for the drop, and what the other stream has is as it was
acks-created_again : map (λ k. ack_of a (state (take k created_again))) (4 ∷ 5 ∷ 7 ∷ []) ≡
    record { n = 1; k = 1 } ∷ record { n = 0; k = 0 } ∷ record { n = 1; k = 1 } ∷ []
unfolding state window_index created_again a b
acks-created_again = refl

acks-created_again_other : map (λ k. ack_of b (state (take k created_again))) (4 ∷ 5 ∷ 7 ∷ []) ≡
    record { n = 1; k = 1 } ∷ record { n = 1; k = 1 } ∷ record { n = 1; k = 1 } ∷ []
unfolding state window_index created_again a b
acks-created_again_other = refl

-- the records of a dropped stream need no place
records-created_again : map (λ k. live (state (take k created_again))) (4 ∷ 5 ∷ 6 ∷ []) ≡ 4 ∷ 2 ∷ 3 ∷ []
unfolding state window_index created_again a b
records-created_again = refl

-- a dropped name is unknown until it is created, and then known
refusals-created_again : map (λ k. map (refuses (state (take k created_again)))
    (Drop a ∷ Drop b ∷ Drop (codes "x") ∷ Value a 4 (pos 1) ∷ Create a (exp 2 1 1) ∷ [])) (4 ∷ 5 ∷ 6 ∷ []) ≡
    (None ∷ None ∷ Some Unknown ∷ Some Time ∷ Some Exists ∷ []) ∷ (Some Unknown ∷ None ∷ Some Unknown ∷ Some Unknown ∷ None ∷ [])
    ∷ (None ∷ None ∷ Some Unknown ∷ None ∷ Some Exists ∷ []) ∷ []
unfolding refuses state window_index created_again a b
refusals-created_again = refl

steps-created_again : stepped (state (take 4 created_again)) (Drop a) ≡ state (take 5 created_again)
unfolding stepped_from state window_index created_again a b
steps-created_again = refl

without-created_again : map (λ name. map (λ s. s.number) (without_named name (state created_again))) (a ∷ b ∷ codes "x" ∷ []) ≡
    (1 ∷ []) ∷ (2 ∷ []) ∷ (1 ∷ 2 ∷ []) ∷ []
unfolding state window_index created_again a b
without-created_again = refl

-- the number after the greatest that stands: that of a dropped stream, where none of a greater number stands
numbers-greatest : map (λ events. map (λ s. s.number) (state (map added (Create a (exp 2 1 1) ∷ events))))
    ((Create b (exp 2 1 1) ∷ Drop b ∷ Create (codes "c") (exp 2 1 1) ∷ []) ∷ (Create b (exp 2 1 1) ∷ Drop a ∷ Create (codes "c") (exp 2 1 1) ∷ [])
    ∷ (Drop a ∷ Create b (exp 2 1 1) ∷ []) ∷ (Drop a ∷ []) ∷ []) ≡
    (0 ∷ 1 ∷ []) ∷ (1 ∷ 2 ∷ []) ∷ (0 ∷ []) ∷ [] ∷ []
unfolding state window_index a b
numbers-greatest = refl

-- what a name was given isn't changed by its drop, and each drop can be said
given-drop : (origin : Origin) (given : Given) → given_after origin given (Drop a) ≡ given
given-drop origin given = refl

said-drop : (name : List ℕ) → CanBeSaid (Drop name)
said-drop name = tt

-- a stream that has all its values, or needs the last record, can be dropped
refusals-drop_full : map (λ streams. refuses streams (Drop a)) (full_stream ∷ almost_full ∷ replicate 4096 (bare 1) ∷ []) ≡ None ∷ None ∷ None ∷ []
unfolding refuses full_stream almost_full bare a
refusals-drop_full = refl

-- a history may drop what stands, and nothing else
history-drop : IsHistory (map added (Create a (exp 2 1 1) ∷ Drop a ∷ []))
unfolding refuses state window_index a
history-drop =
    IsHistory_push (map added (Create a (exp 2 1 1) ∷ [])) (added (Drop a)) (record {
      before = IsHistory_push [] (added (Create a (exp 2 1 1))) (record { before = IsHistory-nil; said = tt; accepted = refl });
      said = tt;
      accepted = refl;
    })

history-drop_unknown : IsHistory (map added (Create a (exp 2 1 1) ∷ Drop b ∷ [])) → ⊥
unfolding refuses state window_index a b
history-drop_unknown whole =
    let wrong : Some Unknown ≡ None = (GoesOn-push (map added (Create a (exp 2 1 1) ∷ [])) (added (Drop b)) whole).accepted in
    cc

-- an open landmark goes with its stream: a value after the next create is one outside landmarks, at whatever time
dropped_open : List Happened
dropped_open = map added (
    Create a (exp 2 1 1) ∷ Value a 5 (pos 1) ∷ Open a 6 ∷ Value a 6 (pos 2) ∷ Drop a ∷ Create a (power 1 0 1 2) ∷ Value a 1 (pos 9) ∷ [])

landmarks-dropped_open : map (λ k. length (landmarks_of (take k dropped_open) a)) (4 ∷ 6 ∷ 7 ∷ []) ≡ 1 ∷ 0 ∷ 0 ∷ []
unfolding dropped_open a
landmarks-dropped_open = refl

state-dropped_open : state dropped_open ≡
    record { number = 0; name = a; params = power 1 0 1 2; windows = one_value 1 9 ∷ []; landmarks = [] } ∷ []
unfolding state window_index power_length dropped_open one_value a
state-dropped_open = refl

refusals-dropped_open : map (λ k. refuses (state (take k dropped_open)) (Value a 1 (pos 9))) (4 ∷ 5 ∷ 6 ∷ 7 ∷ []) ≡
    Some Time ∷ Some Unknown ∷ None ∷ Some Time ∷ []
unfolding refuses state window_index power_length dropped_open a
refusals-dropped_open = refl

-- the place and the last number of a stream are free again once it was dropped
refusals-last_dropped : map (λ streams. refuses streams (Create b (exp 2 1 1)))
    ((bare 4294967295 ∷ []) ∷ stepped (bare 4294967295 ∷ []) (Drop a) ∷ replicate 4096 (bare 1) ∷ stepped (replicate 4096 (bare 1)) (Drop a) ∷ []) ≡
    Some Streams ∷ None ∷ Some Streams ∷ None ∷ []
unfolding refuses stepped_from bare a b
refusals-last_dropped = refl

-- ---- values that are old

-- a store without filters took the first two values, and one with filters the third
grown : List Happened
grown = (Create a (exp 2 1 1), Old) ∷ (Value a 5 (pos 1), Old) ∷ (Value a 6 (pos 2), Old) ∷ added (Value a 7 (pos 3)) ∷ []

values-grown : values_of grown a ≡ (5, pos 1, Old) ∷ (6, pos 2, Old) ∷ (7, pos 3, New) ∷ []
unfolding grown a
values-grown = refl

-- the window of the old ones has all bits, and that of the new one the bit of its value
filters-grown : map (λ s. map (λ (w : Window). w.summary.filter) s.windows) (state grown) ≡ (full ∷ filter_of (pos 3) ∷ []) ∷ []
unfolding state window_index grown a bit_of filter_of full union
filters-grown = refl

-- an event takes its place with where it is from
steps-grown : stepped_from Old (state (take 2 grown)) (Value a 6 (pos 2)) ∷ stepped (state (take 3 grown)) (Value a 7 (pos 3)) ∷ [] ≡
    state (take 3 grown) ∷ state grown ∷ []
unfolding stepped_from state window_index grown a bit_of filter_of full union
steps-grown = refl
