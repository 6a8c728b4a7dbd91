-- Where a walk over the windows of a stream begins.
use Rattle.std.specs.Prelude.{◌≡◌, ℕ, ◌<◌, List, ◌++◌, All, Option, drop}
use Rattle.ss_line.specs.Line.{place_at}
use Rattle.ss_line.specs.declared.entry.At.{At}
use Rattle.ss_line.specs.declared.entry.Entry.{Entry}

-- A walk over entries may begin at a place: each entry before it ends before a time.
pub record BeginsAt (entries : List (At × Entry)) (from : ℕ) (start : Option At) : Type 0 where
  pub before : List (At × Entry)
  pub rest : List (At × Entry)
  pub is : entries ≡ before ++ rest
  pub early : All (λ (e : At × Entry). e.1.t_last < from) before
  pub place : start ≡ place_at rest 0

-- Such a place is near the time: of the windows from there on, only the first one may begin by it.
pub record BeginsNear (entries : List (At × Entry)) (from : ℕ) (start : Option At) : Type 0 where
  pub before : List (At × Entry)
  pub rest : List (At × Entry)
  pub is : entries ≡ before ++ rest
  pub place : start ≡ place_at rest 0
  pub behind : All (λ (e : At × Entry). from < e.1.t_first) (drop 1 rest)
