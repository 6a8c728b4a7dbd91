-- Worked rows: records in order of which some are of dropped streams, or of streams with a step, as a walk takes them.
use Rattle.ss_recover.proofs.Common.{[], ◌∷◌, ◌≡◌, Agrees, All, AreWhole, arith, Bool, doomed_found, entries_of, Entry, false, Figures, Found, full, GoInTurn}
use Rattle.ss_recover.proofs.Common.{has_place, is_run, is_sound_in_order, List, map, MatchOption, may_go, None, pos, Record, refl, replicate, RiseToLast}
use Rattle.ss_recover.proofs.Common.{slots_found, Some, Stream, StreamParts, streams_created, subst, sym, times_held, times_of, TimesRise, true, true≢false}
use Rattle.ss_recover.proofs.Common.{without_numbered, ℕ}
use Rattle.ss_catalog.specs.Params.{exp as Exp}
use Rattle.ss_recover.specs.Conditions.{is_sound}
use Rattle.ss_codec.specs.declared.record.Record.TheVariants as records
use Rattle.ss_model.specs.Marks as Marks

-- the names `a` and `b`
abbrev a : List ℕ
a = 97 ∷ []

abbrev b : List ℕ
b = 98 ∷ []

-- a stream's own record, and that of a window of two values 5 from a position on
abbrev own : ℕ → List ℕ → Bool → Record
own number name dropped = records.Stream number name (Exp 2 1 1) dropped

abbrev window : ℕ → ℕ → Record
window number first = records.Window number first (record { count = 2; sum = pos 10; min = pos 5; max = pos 5; t_first = 10; t_last = 20; filter = full })

-- the stream's own record within a step, and a window of two values 5 from the first position on, at these times
abbrev own_within : ℕ → List ℕ → ℕ → Bool → Record
own_within number name step dropped = records.Stream number name (record (Exp 2 1 1) { within = Some step }) dropped

abbrev window_at : ℕ → ℕ → ℕ → Record
window_at number t_first t_last =
    records.Window number 1 (record { count = 2; sum = pos 10; min = pos 5; max = pos 5; t_first = t_first; t_last = t_last; filter = full })

-- records after the streams with these names, and whether they are a run
is_run-rows :
    map (λ (row : List (List ℕ) × List Record). is_run row.0 row.1) (
    -- a dropped stream is a run with any records that aren't a stream's own, and one that stands with those alone that may come
    ([], own 0 a true ∷ [])
    ∷ ([], own 0 a true ∷ window 0 7 ∷ window 0 3 ∷ [])
    ∷ ([], own 0 a false ∷ window 0 7 ∷ window 0 3 ∷ [])
    ∷ ([], own 0 a false ∷ window 0 1 ∷ [])
    -- neither has two records of its own, and each has a name that is new
    ∷ ([], own 0 a true ∷ own 0 a true ∷ [])
    ∷ ([], own 0 a true ∷ window 0 1 ∷ own 0 a false ∷ [])
    ∷ (a ∷ [], own 1 a true ∷ [])
    ∷ (a ∷ [], own 1 b true ∷ [])
    -- 0 and 59 lie in one minute, 59 and 60 don't, and of a dropped stream nothing is asked
    ∷ ([], own_within 0 a 60 false ∷ window_at 0 0 59 ∷ [])
    ∷ ([], own_within 0 a 60 false ∷ window_at 0 59 60 ∷ [])
    ∷ ([], own_within 0 a 61 false ∷ window_at 0 59 60 ∷ [])
    ∷ ([], own_within 0 a 60 true ∷ window_at 0 59 60 ∷ [])
    ∷ []
    )
    ≡ true ∷ true ∷ false ∷ true ∷ false ∷ false ∷ false ∷ true ∷ true ∷ false ∷ true ∷ true ∷ []
unfolding Marks.lies_free
is_run-rows = refl

-- of a dropped number no more is asked than that it has one record of its own, with a place and a name that is new
abbrev some : Bool → List ℕ → List Record
some dropped name = own 0 a dropped ∷ window 0 7 ∷ own 1 name false ∷ window 1 1 ∷ []

-- each stream has a step of its own, whatever the order of the records
abbrev beside : List Record
beside = own_within 0 a 60 false ∷ window_at 0 0 59 ∷ own_within 1 b 61 false ∷ window_at 1 59 60 ∷ []

abbrev crossed : Bool → List Record
crossed dropped = window_at 1 59 60 ∷ own_within 0 a 61 false ∷ own_within 1 b 60 dropped ∷ window_at 0 0 59 ∷ []

-- records in order, a number, and whether it is sound
is_sound_in_order-rows :
    map (λ (row : List Record × ℕ). is_sound_in_order row.0 row.1) (
    -- a dropped one, one that stands, and the one beside them
    (some true b, 0) ∷ (some false b, 0) ∷ (some true b, 1)
    -- the name of a dropped one counts for those of greater numbers, and its number has no two records of its own
    ∷ (some true a, 1) ∷ (some true a, 0) ∷ (own 0 a true ∷ own 0 b true ∷ [], 0) ∷ (window 0 1 ∷ [], 0)
    ∷ (beside, 0) ∷ (beside, 1) ∷ (crossed false, 0) ∷ (crossed false, 1)
    ∷ []
    )
    ≡ true ∷ false ∷ true ∷ false ∷ true ∷ false ∷ false ∷ true ∷ true ∷ true ∷ false ∷ []
unfolding Marks.lies_free
is_sound_in_order-rows = refl

is_sound-rows :
    map (λ (row : List Record × ℕ). is_sound row.0 row.1) (
    (beside, 0) ∷ (beside, 1) ∷ (crossed false, 0) ∷ (crossed false, 1) ∷ (crossed true, 0) ∷ (crossed true, 1) ∷ []
    )
    ≡ true ∷ true ∷ true ∷ false ∷ true ∷ true ∷ []
unfolding is_sound Marks.lies_free
is_sound-rows = refl

-- the slots of the records of dropped streams, the streams' own and the others
abbrev found : List Found
found =
    record { slot = 8; holds = own 0 a true }
    ∷ record { slot = 5; holds = window 0 7 }
    ∷ record { slot = 2; holds = window 0 9 }
    ∷ record { slot = 6; holds = own 1 b false }
    ∷ record { slot = 1; holds = window 1 1 }
    ∷ []

doomed-others : slots_found (doomed_found false found) ≡ 5 ∷ 2 ∷ []
doomed-others = refl

doomed-own : slots_found (doomed_found true found) ≡ 8 ∷ []
doomed-own = refl

-- ---- which records of dropped streams may go, beside which others

-- one value 5
abbrev five : Figures
five = record { count = 1; sum = pos 5; min = pos 5; max = pos 5; t_first = 10; t_last = 10; filter = full }

-- what may go beside others: a window of a dropped stream as long as its own record is there, and that once no other is
abbrev own_record : ℕ → Bool → Record
own_record number dropped = records.Stream number a (Exp 2 1 1) dropped

abbrev window_record : ℕ → Record
window_record number = records.Window number 1 five

abbrev value_record : ℕ → Record
value_record number = records.Value number 1 1 20 (pos 7)

abbrev landmark_record : ℕ → Record
landmark_record number = records.Landmark number 1 0 20 None

may_go-rows :
    map (λ (row : Record × List Record). may_go row.0 row.1) (
    (window_record 0, own_record 0 true ∷ [])
    ∷ (value_record 0, window_record 0 ∷ own_record 0 true ∷ [])
    ∷ (landmark_record 0, own_record 0 true ∷ [])
    ∷ (window_record 0, own_record 0 false ∷ [])
    ∷ (window_record 0, own_record 1 true ∷ [])
    ∷ (value_record 0, [])
    ∷ (landmark_record 0, own_record 0 false ∷ own_record 1 true ∷ [])
    ∷ (own_record 0 true, own_record 1 true ∷ window_record 1 ∷ [])
    ∷ (own_record 0 true, [])
    ∷ (own_record 0 true, window_record 0 ∷ [])
    ∷ (own_record 0 true, window_record 1 ∷ value_record 0 ∷ [])
    ∷ (own_record 0 true, landmark_record 0 ∷ [])
    ∷ (own_record 0 false, [])
    ∷ (records.Free, own_record 0 true ∷ [])
    ∷ []
    )
    ≡ true ∷ true ∷ true ∷ false ∷ false ∷ false ∷ false ∷ true ∷ true ∷ false ∷ false ∷ false ∷ false ∷ false ∷ []
may_go-rows = refl

-- in turn the window goes first
in_turn : GoInTurn ((4, Some (window_record 0)) ∷ (2, Some (own_record 0 true)) ∷ []) ((7, Some (own_record 1 false)) ∷ [])
in_turn = (refl, (refl, tt))

not_in_turn : GoInTurn ((2, Some (own_record 0 true)) ∷ (4, Some (window_record 0)) ∷ []) [] → ⊥
not_in_turn goes = true≢false (sym goes.0)

-- and its stream is taken out
abbrev numbered : ℕ → Stream
numbered number = record { number = number; name = a; params = Exp 2 1 1; windows = []; landmarks = [] }

without-one : without_numbered 1 (numbered 0 ∷ numbered 1 ∷ numbered 2 ∷ []) ≡ numbered 0 ∷ numbered 2 ∷ []
without-one = refl

-- of the most streams dropped ones are some: 4,095 lower numbers may have a record, and no more
has_place-dropped : has_place 1 (streams_created (replicate 4095 (own_record 0 true))) ≡ true
has_place-dropped = refl

has_place-none_dropped : has_place 1 (streams_created (replicate 4096 (own_record 0 true))) ≡ false
has_place-none_dropped = refl

-- ---- worked rows: the times of a stream's windows, as they are held

-- a window of the positions 3 and 4, with its values at these times
abbrev entry : ℕ → ℕ → Entry
entry t_first t_last = record { first = 3; last = 4; t_first = t_first; t_last = t_last; slot = 9 }

held : times_held (entry 10 20) ≡ (10, 20)
held = refl

of_window : (f : Figures) → times_of (record { first = 3; summary = f }) ≡ (f.t_first, f.t_last)
of_window f = refl

-- times rise from window to window, within each, and up to the last
rises : TimesRise 10 30 (entry 10 20 ∷ entry 21 30 ∷ [])
rises = (omega arith, omega arith, omega arith, (omega arith, omega arith, omega arith, tt))

begins-early : TimesRise 11 30 (entry 10 20 ∷ []) → ⊥
begins-early rise = absurd (omega (arith, rise.0))

within : TimesRise 0 30 (entry 20 19 ∷ []) → ⊥
within rise = absurd (omega (arith, rise.1))

one-time : TimesRise 0 20 (entry 20 20 ∷ [])
one-time = (omega arith, omega arith, omega arith, tt)

past-last : TimesRise 0 29 (entry 10 30 ∷ []) → ⊥
past-last rise = absurd (omega (arith, rise.2))

same-time : TimesRise 0 30 (entry 10 20 ∷ entry 20 30 ∷ []) → ⊥
same-time rise = absurd (omega (arith, rise.3.0))

-- up to the last time of the stream; where it has none, it has no window
to-last : (part : StreamParts) (last : ℕ) → part.last_time ≡ Some last → RiseToLast part → TimesRise 0 last (entries_of part)
to-last part last is rise = subst (λ o. MatchOption o (entries_of part ≡ []) (λ t. TimesRise 0 t (entries_of part))) is rise

without-last : (part : StreamParts) → part.last_time ≡ None → RiseToLast part → entries_of part ≡ []
without-last part is rise = subst (λ o. MatchOption o (entries_of part ≡ []) (λ t. TimesRise 0 t (entries_of part))) is rise

-- what is held of windows agrees with their times, and over every disk these rise
agrees-times : (part : StreamParts) (s : Stream) → Agrees part s → map times_held (entries_of part) ≡ map times_of s.windows
agrees-times part s agrees = agrees.times

whole-times : (parts : List StreamParts) (live : List Bool) → AreWhole parts live → All RiseToLast parts
whole-times parts live whole = whole.times
