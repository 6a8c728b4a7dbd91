-- The refusals, in the order in which they are tested.
use Rattle.std.specs.Prelude.{ℕ, List, codes}
use Rattle.ss_catalog.specs.declared.refusal.Refusal.{Refusal}
use Rattle.ss_catalog.specs.declared.refusal.Refusal.TheVariants.{Line, Syntax, Number, Name, Param, Exists, Streams, Unknown, Open, NotOpen, Time}
use Rattle.ss_catalog.specs.declared.refusal.Refusal.TheVariants.{Range, StreamFull, StoreFull, Busy, NoCursor, Frame}

-- the name of a refusal in a reply
abbrev pub refusal_name : Refusal → List ℕ
refusal_name Line = codes "LINE"
refusal_name Syntax = codes "SYNTAX"
refusal_name Number = codes "NUMBER"
refusal_name Name = codes "NAME"
refusal_name Param = codes "PARAM"
refusal_name Exists = codes "EXISTS"
refusal_name Streams = codes "STREAMS"
refusal_name Unknown = codes "UNKNOWN"
refusal_name Open = codes "OPEN"
refusal_name NotOpen = codes "NOT_OPEN"
refusal_name Time = codes "TIME"
refusal_name Range = codes "RANGE"
refusal_name StreamFull = codes "STREAM_FULL"
refusal_name StoreFull = codes "STORE_FULL"
refusal_name Busy = codes "BUSY"
refusal_name NoCursor = codes "NO_CURSOR"
refusal_name Frame = codes "FRAME"
