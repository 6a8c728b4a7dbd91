-- What contracts see of sources and sinks in memory.
use Rattle.std.specs.Prelude.{ℕ, ◌+◌, ◌-◌, ◌^◌, ◌<◌, ◌≤◌, ◌++◌, List, drop, length, max, min}
use Rattle.ss_outside.specs.declared.spare.TheConstants.{MOST_SPARE}

-- a source: the bytes left, how many were taken, the most that a read gives, the listed reads, and how many reads were made and failed
pub record SourceState : Type 0 where
  pub left : List ℕ
  pub taken : ℕ
  pub piece : ℕ
  pub failing : List ℕ
  pub calls : ℕ
  pub faults : ℕ

-- a source that never fails: the bytes left, how many were taken, and the most that a read gives
pub record SteadySourceState : Type 0 where
  pub left : List ℕ
  pub taken : ℕ
  pub piece : ℕ

-- a sink: the bytes held, the spare bytes, the listed puts, and how many puts were made, failed, and failed because memory
-- ran out
pub record SinkState : Type 0 where
  pub held : List ℕ
  pub spare : ℕ
  pub failing : List ℕ
  pub calls : ℕ
  pub faults : ℕ
  pub short : ℕ

-- a sink that fails only where memory runs out: the bytes held, the spare bytes, and how many puts failed
pub record SteadySinkState : Type 0 where
  pub held : List ℕ
  pub spare : ℕ
  pub short : ℕ

-- one more, but never more than the greatest number of 64 bits
abbrev pub one_more : ℕ → ℕ
one_more count = min (count + 1) (2 ^ 64 - 1)

-- so many calls or bytes can be asked for
abbrev pub CanBeSpare : ℕ → Type 0
CanBeSpare count = count ≤ MOST_SPARE

-- the piece has more bytes than are spare
abbrev pub IsBeyond : ℕ → List ℕ → Type 0
IsBeyond spare piece = spare < length piece

-- a source after a read that moved so many bytes, and after one that failed
abbrev pub moved : SourceState → ℕ → SourceState
moved s count = record s { left = drop count s.left; taken = s.taken + count; calls = one_more s.calls }

abbrev pub unmoved : SourceState → SourceState
unmoved s = record s { calls = one_more s.calls; faults = one_more s.faults }

-- a source that never fails, after a read that moved so many bytes
abbrev pub advanced : SteadySourceState → ℕ → SteadySourceState
advanced s count = record s { left = drop count s.left; taken = s.taken + count }

-- a sink after a put that took these bytes, after one that failed, after one that found no memory, and with so many spare
-- bytes at least
abbrev pub sink_taken : SinkState → List ℕ → SinkState
sink_taken s piece = record s { held = s.held ++ piece; spare = s.spare - length piece; calls = one_more s.calls }

abbrev pub untaken : SinkState → SinkState
untaken s = record s { calls = one_more s.calls; faults = one_more s.faults }

abbrev pub crowded : SinkState → SinkState
crowded s = record s { calls = one_more s.calls; faults = one_more s.faults; short = one_more s.short }

abbrev pub roomy : SinkState → ℕ → SinkState
roomy s bytes = record s { spare = max s.spare bytes }

-- the same of a sink that fails only where memory runs out
abbrev pub steady_taken : SteadySinkState → List ℕ → SteadySinkState
steady_taken s piece = record s { held = s.held ++ piece; spare = s.spare - length piece }

abbrev pub steady_crowded : SteadySinkState → SteadySinkState
steady_crowded s = record s { short = one_more s.short }

abbrev pub steady_roomy : SteadySinkState → ℕ → SteadySinkState
steady_roomy s bytes = record s { spare = max s.spare bytes }
