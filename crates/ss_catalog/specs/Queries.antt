-- What queries say.
use Rattle.std.specs.Prelude.{ℕ, ◌≤◌, Bool, true, false, FitsSigned, if◌then◌else◌, List, codes}
use Rattle.std.specs.Int.{w64}
use Rattle.ss_base.specs.declared.limits.TheConstants.{LAST_TIME}
use Rattle.ss_catalog.specs.declared.query.End.{End}
use Rattle.ss_catalog.specs.declared.query.End.TheVariants.{Lo, Hi}
use Rattle.ss_catalog.specs.declared.query.Kind.{Kind}
use Rattle.ss_catalog.specs.declared.query.Kind.TheVariants.{Count, Sum, Min, Max, Mean, Has, CountGuess, SumGuess, MeanGuess}
use Rattle.ss_catalog.specs.declared.query.Query.{Query}

-- the name of what is asked for, in a command and in a reply
abbrev pub kind_name : Kind → List ℕ
kind_name Count = codes "count"
kind_name Sum = codes "sum"
kind_name Min = codes "min"
kind_name Max = codes "max"
kind_name Mean = codes "mean"
kind_name (Has value) = codes "has"
kind_name CountGuess = codes "count"
kind_name SumGuess = codes "sum"
kind_name MeanGuess = codes "mean"

-- the likeliest value is asked for
abbrev pub is_guess : Kind → Bool
is_guess Count = false
is_guess Sum = false
is_guess Min = false
is_guess Max = false
is_guess Mean = false
is_guess (Has value) = false
is_guess CountGuess = true
is_guess SumGuess = true
is_guess MeanGuess = true

-- the first word of a command that asks for it, and of one that does so in rows, which the reply to this has too
abbrev pub query_verb : Kind → List ℕ
query_verb kind = if is_guess kind then codes "estimate" else codes "query"

abbrev pub series_verb : Kind → List ℕ
series_verb kind = if is_guess kind then codes "estimates" else codes "series"

-- there are certificates of the answers: of what adds up, and of means, which are made of two that do
abbrev pub is_certified : Kind → Bool
is_certified Count = true
is_certified Sum = true
is_certified Min = false
is_certified Max = false
is_certified Mean = true
is_certified (Has value) = false
is_certified CountGuess = false
is_certified SumGuess = false
is_certified MeanGuess = false

-- the name of an end of an interval, in a command
abbrev pub end_name : End → List ℕ
end_name Lo = codes "lo"
end_name Hi = codes "hi"

-- a value that is asked for has 64 bits
abbrev pub IsKindOfValues : Kind → Type 0
IsKindOfValues Count = Unit
IsKindOfValues Sum = Unit
IsKindOfValues Min = Unit
IsKindOfValues Max = Unit
IsKindOfValues Mean = Unit
IsKindOfValues (Has value) = FitsSigned w64 value
IsKindOfValues CountGuess = Unit
IsKindOfValues SumGuess = Unit
IsKindOfValues MeanGuess = Unit

-- a query has no time above the last one
abbrev pub IsQueryInTime : Query → Type 0
IsQueryInTime query = (query.from ≤ LAST_TIME) × (query.to ≤ LAST_TIME)
