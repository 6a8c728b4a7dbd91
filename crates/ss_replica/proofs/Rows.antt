-- Worked rows of frames that are offered, each computed.
use Rattle.std.proofs.Common.{◌≡◌, ℕ, List, [], ◌∷◌, ◌++◌, map, length, refl, codes, pos, negsuc}
use Rattle.std.specs.Prelude.{reverse, flat_map, replicate, Ok, Err}
use Rattle.ss_targets.specs.Windowing.{window_index}
use Rattle.ss_catalog.specs.declared.event.Event.{Event}
use Rattle.ss_catalog.specs.declared.event.Event.TheVariants.{Create, Value, Open, Close, Drop}
use Rattle.ss_catalog.specs.Params.{exp}
use Rattle.ss_catalog.specs.declared.refusal.Refusal.TheVariants.{Time}
use Rattle.ss_model.specs.History.{Happened, added}
use Rattle.ss_model.specs.Refusals.{refuses}
use Rattle.ss_model.specs.State.{state}
use Rattle.ss_frames.specs.Frame.{FrameState}
use Rattle.ss_replica.specs.Own.{frame_of, own}
use Rattle.ss_replica.specs.Offers.{after_offers, offers}
use Rattle.ss_replica.specs.Offers as said

a : List ℕ
a = codes "a"

-- a stream and seven readings
readings : List Event
readings = Create a (exp 2 1 1) ∷ Value a 10 (pos 5) ∷ Value a 20 (negsuc 2) ∷ Value a 30 (pos 8) ∷ Value a 40 (pos 1)
    ∷ Value a 50 (pos 9) ∷ Value a 60 (pos 2) ∷ Value a 70 (pos 7) ∷ []

frame : ℕ → Event → FrameState
frame number event = record { number = number; event = event }

-- their frames
frames_from : List Happened → List Event → List FrameState
frames_from history [] = []
frames_from history (event ∷ events) = frame_of history event ∷ frames_from (history ++ added event ∷ []) events

frames : List FrameState
frames = frames_from [] readings

numbers-frames : map (λ (f : FrameState). f.number) frames ≡ 1 ∷ 2 ∷ 3 ∷ 4 ∷ 5 ∷ 6 ∷ 7 ∷ 8 ∷ []
unfolding frames frames_from readings a
numbers-frames = refl

first : FrameState
first = frame 1 (Create a (exp 2 1 1))

second : FrameState
second = frame 2 (Value a 10 (pos 5))

third : FrameState
third = frame 3 (Value a 20 (negsuc 2))

-- gap 0, ok 0 0, old, ok 1 1, ok 2 2
offers-mixed : offers [] (third ∷ first ∷ first ∷ second ∷ third ∷ []) ≡
    Ok (said.Gap 0) ∷ Ok (said.Done (record { n = 0; k = 0 })) ∷ Ok said.Old ∷ Ok (said.Done (record { n = 1; k = 1 }))
    ∷ Ok (said.Done (record { n = 2; k = 2 })) ∷ []
unfolding refuses state window_index first second third frame a
offers-mixed = refl

-- the eight frames in reverse, eight times over
in_reverse : List FrameState
in_reverse = flat_map (λ (n : ℕ). reverse frames) (replicate 8 0)

history-in_reverse : after_offers [] in_reverse ≡ map added readings
unfolding refuses state window_index in_reverse frames frames_from readings a
history-in_reverse = refl

state-in_reverse : state (after_offers [] in_reverse) ≡ state (map added readings)
unfolding refuses state window_index in_reverse frames frames_from readings a
state-in_reverse = refl

-- a value that comes too early is refused, also as a frame whose number is next; a frame of a stream that doesn't stand is behind a gap
offers-refused : offers (map added readings) (frame 9 (Value a 70 (pos 1)) ∷ frame 10 (Value a 80 (pos 1)) ∷ frame 9 (Open a 80)
    ∷ frame 10 (Value a 80 (pos 1)) ∷ frame 2 (Value (codes "b") 1 (pos 1)) ∷ frame 0 (Close a 90) ∷ frame 1 (Create a (exp 3 1 1)) ∷ []) ≡
    Err Time ∷ Ok (said.Gap 8) ∷ Ok (said.Done (record { n = 7; k = 3 })) ∷ Ok (said.Done (record { n = 7; k = 3 })) ∷ Ok (said.Gap 0)
    ∷ Ok said.Old ∷ Ok said.Old ∷ []
unfolding refuses state window_index readings frame a
offers-refused = refl

-- what a stream owns begins with its last create, and nothing is owned after a drop
own-again : map (λ (history : List Event). length (own (map added history) a))
    (readings ∷ (readings ++ Drop a ∷ []) ∷ (readings ++ Drop a ∷ Create a (exp 2 1 1) ∷ Open a 5 ∷ Close a 6 ∷ []) ∷ [] ∷ []) ≡
    8 ∷ 0 ∷ 3 ∷ 0 ∷ []
unfolding readings a
own-again = refl
