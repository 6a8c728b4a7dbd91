-- How many slots an image uses, by the history for which it stands.
use Rattle.std.specs.Prelude.{ℕ, ◌+◌, max, List, [], ◌∷◌, ◌++◌, Option, None, Some, ⊤}
use Rattle.ss_model.specs.History.{Happened}
use Rattle.ss_model.specs.State.{live, state}
use Rattle.ss_stream.specs.Calls.{UsesAtMost}
use Rattle.ss_store.specs.Recover.{Stands}

-- the most records that are needed at a time: after these events, and after each of those that come behind them
abbrev pub most_needed_from : List Happened → List Happened → ℕ
most_needed_from before [] = live (state before)
most_needed_from before (event ∷ after) = max (live (state before)) (most_needed_from (before ++ event ∷ []) after)

-- the most records that a history needs at a time
abbrev pub most_needed : List Happened → ℕ
most_needed history = most_needed_from [] history

-- Where it is known how many slots a file used: no more are used than these, or than the most records that the history needed at a time, and one.
abbrev pub IsShort : Option ℕ → List Happened → List ℕ → Type 0
IsShort None history image = ⊤
IsShort (Some used) history image = UsesAtMost (max used (most_needed history + 1)) image

-- the image stands for the history, and is no longer than that
abbrev pub StandsShort : Option ℕ → List Happened → List ℕ → Type 0
StandsShort used history image = Stands history image × IsShort used history image
