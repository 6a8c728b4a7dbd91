-- Worked rows, each computed.
use Rattle.std.proofs.Common.{◌≡◌, ℕ, List, [], ◌∷◌, ◌++◌, map, true, false, Some, None, refl}
use Rattle.std.specs.Prelude.{ℤ, codes, pos, negsuc, replicate}
use Rattle.std.specs.Fmt.{digits}
use Rattle.ss_bounds.specs.declared.extreme.Extreme.TheVariants.{Nothing, Sure, Maybe}
use Rattle.ss_catalog.specs.declared.query.Kind.TheVariants as kinds
use Rattle.ss_catalog.specs.Params.{exp}
use Rattle.ss_catalog.specs.declared.params.Family.TheVariants.{Exp, Power}
use Rattle.ss_catalog.specs.declared.event.Event.TheVariants as events
use Rattle.ss_catalog.specs.declared.refusal.Refusal.TheVariants as refusals
use Rattle.hex.specs.Hex.{encode_with}
use Rattle.ss_codec.specs.Fields as Fields
use Rattle.ss_fields.specs.Fields as Numbers
use Rattle.ss_frames.specs.Frame.{frame_spelled}
use Rattle.ss_model.specs.declared.newest.Newest.TheVariants as newest
use Rattle.ss_model.specs.declared.outcome.Outcome.TheVariants.{Count, Sum, Min, Max, Has, Estimate}
use Rattle.ss_model.specs.declared.outcome.Presence.TheVariants as presences
use Rattle.ss_report.specs.Text.{reply_line, said_line}
use Rattle.ss_summary.specs.Filters.{full}
use Rattle.ss_model.specs.declared.types.Run.{Run}
use Rattle.ss_report.specs.declared.reply.Reply.TheVariants.{Done, Answered, Refused, SeriesHead, Row, WindowsHead, Window, ListHead, Stream}
use Rattle.ss_report.specs.declared.reply.Reply.TheVariants.{CertifyHead, Side, Last, ValuesHead, Value, Cursor, Rows, Closed, Old, Gap, Framed}

-- a text as a line
abbrev ended : List ℕ → List ℕ
ended text = text ++ 10 ∷ []

replies-events :
    map reply_line (Done (record { n = 7; k = 3 }) ∷ Refused refusals.NotOpen ∷ Refused refusals.StoreFull ∷ [])
    ≡ map ended (codes "ok 7 3" ∷ codes "refused NOT_OPEN" ∷ codes "refused STORE_FULL" ∷ [])
unfolding digits
replies-events = refl

replies-answers :
    map reply_line
    (Answered (Count 1 3) ∷ Answered (Sum (negsuc 4) (pos 16)) ∷ Answered (Min (Sure (negsuc 2) (pos 8)))
    ∷ Answered (Min (Maybe (negsuc 2) (pos 8))) ∷ Answered (Min Nothing) ∷ Answered (Max (Sure (pos 2) (pos 9)))
    ∷ Answered (Max (Maybe (pos 0) (pos 0))) ∷ Answered (Max Nothing) ∷ Answered (Has presences.Absent) ∷ Answered (Has presences.Present)
    ∷ Answered (Has presences.Maybe) ∷ Answered (Estimate (negsuc 4) (pos 6) (pos 16)) ∷ [])
    ≡ map ended
    (codes "count 1 3" ∷ codes "sum -5 16" ∷ codes "min -3 8" ∷ codes "min -3 8 maybe-none" ∷ codes "min none" ∷ codes "max 2 9"
    ∷ codes "max 0 0 maybe-none" ∷ codes "max none" ∷ codes "has absent" ∷ codes "has present" ∷ codes "has maybe"
    ∷ codes "estimate -5 6 16" ∷ [])
unfolding digits
replies-answers = refl

replies-series :
    map reply_line
    (SeriesHead kinds.Max 5 ∷ Row 10 (Count 1 3) ∷ Row 4611686018427387904 (Sum (negsuc 4) (pos 16)) ∷ Row 0 (Min (Maybe (negsuc 2) (pos 8)))
    ∷ Row 7 (Max (Sure (pos 2) (pos 9))) ∷ Row 8 (Max Nothing) ∷ SeriesHead kinds.SumGuess 2 ∷ Row 35 (Estimate (negsuc 2) (pos 9) (pos 25)) ∷ [])
    ≡ map ended
    (codes "series 5" ∷ codes "10 1 3" ∷ codes "4611686018427387904 -5 16" ∷ codes "0 -3 8 maybe-none" ∷ codes "7 2 9" ∷ codes "8 none"
    ∷ codes "estimates 2" ∷ codes "35 -3 9 25" ∷ [])
unfolding digits
replies-series = refl

replies-windows :
    map reply_line
    (WindowsHead 3
    ∷ Window
    (record { first = 1; last = 4; summary = record { count = 4; sum = pos 11; min = negsuc 2; max = pos 8; t_first = 10; t_last = 40; filter = full } })
    ∷ [])
    ≡ map ended (codes "windows 3" ∷ codes "1 4 4 11 -3 8 10 40" ∷ [])
unfolding digits
replies-windows = refl

replies-streams :
    map reply_line
    (ListHead 1
    ∷ Stream (record { id = record { 0 = 0 }; name = codes "a"; params = exp 2 1 1; n = 7; k = 3; landmarks = 0; values = 0 })
    ∷ [])
    ≡ map ended (codes "list 1" ∷ codes "a exp 2 1 1 7 3 0 0" ∷ [])
unfolding digits
replies-streams = refl

-- a step behind the target
replies-within :
    map reply_line
    (Stream
    (record { id = record { 0 = 0 }; name = codes "a"; params = record { family = Exp 2 1 1; within = Some 60 }; n = 7; k = 4; landmarks = 0; values = 0 })
    ∷ Stream
    (record {
      id = record { 0 = 1 };
      name = codes "p";
      params = record { family = Power 1 0 1 4; within = Some 4294967295 };
      n = 7;
      k = 3;
      landmarks = 1;
      values = 1;
    })
    ∷ [])
    ≡ map ended (codes "a exp 2 1 1 within 60 7 4 0 0" ∷ codes "p power 1 0 1 4 within 4294967295 7 3 1 1" ∷ [])
unfolding digits
replies-within = refl

-- each number in its own place
replies-places :
    map reply_line
    (Window (record { first = 5; last = 6; summary = record { count = 2; sum = pos 11; min = pos 3; max = pos 8; t_first = 50; t_last = 60; filter = full } })
    ∷ Stream (record { id = record { 0 = 9 }; name = codes "a"; params = exp 2 1 1; n = 7; k = 3; landmarks = 4; values = 5 })
    ∷ [])
    ≡ map ended (codes "5 6 2 11 3 8 50 60" ∷ codes "a exp 2 1 1 7 3 4 5" ∷ [])
unfolding digits
replies-places = refl

abbrev run : ℤ → ℕ → Run
run value times = record { value = value; times = times }

-- a run without values is left out wherever it stands
replies-certificates :
    map reply_line
    (CertifyHead (negsuc 4) (pos 0) 1
    ∷ Side (record { inner = true; first = 1; last = 4; values = 2; runs = run (negsuc 2) 1 ∷ run (negsuc 1) 1 ∷ run (pos 8) 0 ∷ [] })
    ∷ Side (record { inner = false; first = 1; last = 4; values = 2; runs = run (negsuc 2) 0 ∷ run (pos 0) 0 ∷ run (pos 8) 2 ∷ [] })
    ∷ CertifyHead (pos 25) (pos 7) 2
    ∷ Side (record { inner = false; first = 5; last = 9; values = 5; runs = run (pos 2) 1 ∷ run (pos 0) 0 ∷ run (pos 8) 4 ∷ [] })
    ∷ Side (record { inner = true; first = 5; last = 9; values = 3; runs = run (pos 2) 1 ∷ run (pos 3) 1 ∷ run (pos 8) 1 ∷ [] })
    ∷ Side (record { inner = true; first = 5; last = 9; values = 0; runs = run (pos 0) 0 ∷ run (pos 0) 0 ∷ run (pos 0) 0 ∷ [] })
    ∷ [])
    ≡ map ended
    (codes "certify -5 0 1" ∷ codes "inside 1 4 2 -3*1 -2*1" ∷ codes "outside 1 4 2 8*2" ∷ codes "certify 25 7 2"
    ∷ codes "outside 5 9 5 2*1 8*4" ∷ codes "inside 5 9 3 2*1 3*1 8*1" ∷ codes "inside 5 9 0" ∷ [])
unfolding digits
replies-certificates = refl

replies-newest :
    map reply_line
    (Last newest.Nothing ∷ Last (newest.Time 5) ∷ Last (newest.Value 5 5 (negsuc 0) (negsuc 0)) ∷ Last (newest.Value 20 15 (pos 8) (pos 9)) ∷ [])
    ≡ map ended (codes "last none" ∷ codes "last 5" ∷ codes "last 5 5 -1 -1" ∷ codes "last 20 15 8 9" ∷ [])
unfolding digits
replies-newest = refl

replies-values :
    map reply_line (ValuesHead 3 ∷ Value 10 (pos 7) ∷ Value 12 (negsuc 6) ∷ Value 25 (pos 0) ∷ ValuesHead 0 ∷ [])
    ≡ map ended (codes "values 3" ∷ codes "10 7" ∷ codes "12 -7" ∷ codes "25 0" ∷ codes "values 0" ∷ [])
unfolding digits
replies-values = refl

replies-cursors :
    map reply_line (Cursor 4 ∷ Rows 2 ∷ Rows 0 ∷ Closed ∷ []) ≡ map ended (codes "cursor 4" ∷ codes "rows 2" ∷ codes "rows 0" ∷ codes "closed" ∷ [])
unfolding digits
replies-cursors = refl

-- what `follow` says of a frame that isn't next
replies-passed_over :
    map reply_line (Old ∷ Gap 0 ∷ Gap 18446744073709551615 ∷ []) ≡ map ended (codes "old" ∷ codes "gap 0" ∷ codes "gap 18446744073709551615" ∷ [])
unfolding digits
replies-passed_over = refl

-- the digit 0 so many times
abbrev zeros : ℕ → List ℕ
zeros count = replicate count 48

-- the frame of the stream `a` with `exp 2 1 1`, and those of its first two values, 5 at the time 10 and -3 at 20
replies-frames :
    map reply_line
    (Framed (record { number = 1; event = events.Create (codes "a") (exp 2 1 1) })
    ∷ Framed (record { number = 2; event = events.Value (codes "a") 10 (pos 5) })
    ∷ Framed (record { number = 3; event = events.Value (codes "a") 20 (negsuc 2) })
    ∷ [])
    ≡ map ended
    ((codes "frame 010101" ++ zeros 25 ++ codes "161" ++ zeros 69 ++ codes "2" ++ zeros 7 ++ codes "1" ++ zeros 7 ++ codes "1" ++ zeros 8)
    ∷ (codes "frame 020001" ++ zeros 25 ++ codes "261" ++ zeros 77 ++ codes "a" ++ zeros 15 ++ codes "5")
    ∷ (codes "frame 020001" ++ zeros 25 ++ codes "361" ++ zeros 76 ++ codes "14fffffffffffffffd")
    ∷ [])
unfolding encode_with frame_spelled Fields.with_field Numbers.number_bytes
replies-frames = refl

-- to whom a line is said stands before it
replies-said :
    said_line None (Rows 2) ∷ said_line (Some 0) (Rows 2) ∷ said_line (Some 7) Closed ∷ []
    ≡ map ended (codes "rows 2" ∷ codes "@0 rows 2" ∷ codes "@7 closed" ∷ [])
unfolding digits
replies-said = refl
