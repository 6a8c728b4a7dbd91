-- Worked rows: the verdicts of reading, which window may come next, and what is answered from what is known.
use Rattle.std.proofs.Common.{◌≡◌, ℕ, ◌<◌, ◌≤◌, lit≤, All, List, [], ◌∷◌, ◌++◌, drop, map, ap, refl, arith, Option, None, Some, Err, Ok, pos}
use Rattle.std.specs.Prelude.{◌+◌, ◌-◌, ◌^◌, IfSome, ℤ, unsigned_abs}
use Rattle.std.specs.Option.{option_map_or}
use Rattle.ss_outside.specs.Disk.{Told}
use Rattle.ss_outside.specs.Verdict.{changed, failed, fine}
use Rattle.ss_bounds.specs.declared.fraction.Fraction.{Fraction}
use Rattle.ss_bounds.specs.declared.mean.Mean.TheVariants as means
use Rattle.ss_bounds.specs.declared.mean.MeanGuess.TheVariants as guesses
use Rattle.ss_bounds.specs.Fractions.{lowest}
use Rattle.ss_bounds.specs.MeanGuess.{mean_guess}
use Rattle.ss_bounds.specs.Means.{mean_interval}
use Rattle.ss_bounds.specs.Split.{IsSplit}
use Rattle.ss_catalog.specs.Params.{exp as Exp}
use Rattle.ss_catalog.specs.declared.query.Kind.{Kind}
use Rattle.ss_catalog.specs.declared.query.Kind.TheVariants as kinds
use Rattle.ss_catalog.specs.declared.query.Query.{Query}
use Rattle.ss_landmarks.specs.Landmark.{LandmarkValue}
use Rattle.ss_landmarks.specs.declared.tally.Tally.{Tally}
use Rattle.ss_line.specs.Line.{place_at}
use Rattle.ss_line.specs.declared.entry.At.{At}
use Rattle.ss_line.specs.declared.entry.Entry.{Entry}
use Rattle.ss_model.specs.State.{Stream}
use Rattle.ss_model.specs.declared.outcome.Outcome.{Outcome}
use Rattle.ss_model.specs.declared.outcome.Outcome.TheVariants.{Count, Has, Mean, MeanEstimate, Sum}
use Rattle.ss_model.specs.declared.outcome.Presence.TheVariants.{Absent, Maybe, Present}
use Rattle.ss_model.specs.declared.types.Window.{Window}
use Rattle.ss_records.specs.Kept.{AreKept, RecordsState}
use Rattle.ss_parts.specs.Held.{entries_of, window_slots_of}
use Rattle.ss_parts.specs.declared.parts.StreamParts.{StreamParts}
use Rattle.ss_summary.specs.Figures.{Figures}
use Rattle.ss_summary.specs.Filters.{bit_of, filter_of, has, union}
use Rattle.ss_query.specs.Answered.{IsSeenAs, SeesStream, begun_in}
use Rattle.ss_query.specs.Asked.{Follows, HasCuts, HasRoom, IsCut, IsFewMarked, cut_of, marks_seen, outcome_seen, seen_after, seen_of, seen_with}
use Rattle.ss_query.specs.declared.asking.Seen.{Seen}
use Rattle.ss_query.specs.declared.cut.Cut.{Cut}
use Rattle.ss_parts.specs.declared.read_error.ReadError.TheVariants as error
use Rattle.ss_parts.specs.Places.{BeginsAt, BeginsNear}
use Rattle.ss_parts.specs.Reading.{IsRead, IsWindowOf, KeepsRecords, ReadsWindow, verdict_of_read}

-- each error has its verdict
verdicts-read : map (λ e. verdict_of_read {T = Unit {0}} (Err e)) (error.Disk ∷ error.Changed 7 ∷ []) ≡ failed ∷ changed 7 ∷ []
verdicts-read = refl

verdict-Ok : verdict_of_read {T = ℕ} (Ok 1) ≡ fine
verdict-Ok = refl

-- on a disk that tells no slot has changed, and what is read is what is there
IsRead-Changed : (summary : Figures) (slot : ℕ) → IsRead summary (Err (error.Changed slot)) → ⊥
IsRead-Changed summary slot fact = fact

IsRead-Ok : (summary read : Figures) → IsRead summary (Ok read) → read ≡ summary
IsRead-Ok summary read fact = fact

-- reading leaves the journal, unless the disk failed
KeepsRecords-changed : {old new : RecordsState} (slot : ℕ) → KeepsRecords (changed slot) old new → new.journal ≡ old.journal
KeepsRecords-changed slot keeps = keeps.journal

-- two values of a landmark, 5 and 7, and a window of 3 values that add up to 9, at the times 10 to 30: 2, 3 and 4 in some order
values : List LandmarkValue
values = record { t = 32; v = pos 5 } ∷ record { t = 33; v = pos 7 } ∷ []

marked : Tally
marked = record { count = 2; sum = pos 12; least = Some (pos 5); greatest = Some (pos 7) }

window : ℕ → ℕ → Window
window first count = record {
  first = first;
  summary = record {
    count = count;
    sum = pos 9;
    min = pos 2;
    max = pos 4;
    t_first = 10;
    t_last = 30;
    filter = union (filter_of (pos 2)) (union (filter_of (pos 3)) (filter_of (pos 4)));
  };
}

-- a window follows what was read where its times do, up to 2^40 values
seen_to : ℕ → ℕ → Seen
seen_to taken next_time = record {
  marked = marked;
  whole = None;
  left = None;
  right = None;
  presence = Absent;
  taken = taken;
  next_time = next_time;
}

follows-first : Follows (seen_to 0 0) (window 1 3)
unfolding seen_to window
follows-first = (omega arith, omega arith)

follows-last : Follows (seen_to (2 ^ 40 - 3) 10) (window (2 ^ 40 - 2) 3)
unfolding seen_to window
follows-last = (omega arith, omega arith)

follows-too_many : Follows (seen_to (2 ^ 40 - 3) 10) (window (2 ^ 40 - 2) 4) → ⊥
unfolding seen_to window
follows-too_many follows = absurd (omega (arith, follows.0))

follows-early : Follows (seen_to 4 11) (window 5 3) → ⊥
unfolding seen_to window
follows-early follows = absurd (omega (arith, follows.1))

-- its times are 10 to 30: it is looked at in a range that has one of them, and passed over in another
window-met : map (λ (r : ℕ × ℕ). (seen_after [] kinds.Count r.0 r.1 (seen_to 0 0) (window 1 3)).taken) ((30, 40) ∷ (0, 10) ∷ (11, 29) ∷ (0, 40) ∷ [])
    ≡ 3 ∷ 3 ∷ 3 ∷ 3 ∷ []
unfolding seen_to window
window-met = refl

window-passed : map (λ (r : ℕ × ℕ). seen_after [] kinds.Count r.0 r.1 (seen_to 0 0) (window 1 3)) ((31, 40) ∷ (0, 9) ∷ []) ≡ seen_to 0 0 ∷ seen_to 0 0 ∷ []
unfolding seen_to window
window-passed = refl

-- what is seen has room for no more than a stream has, and its whole windows lie before the next one
HasRoom-few : (seen : Seen) → HasRoom seen → seen.taken ≤ 2 ^ 40
HasRoom-few seen room = room.few

HasRoom-whole : (seen : Seen) → HasRoom seen → IfSome seen.whole (λ f. (f.t_last < seen.next_time) × (f.count ≤ seen.taken))
HasRoom-whole seen room = room.whole

-- a window that is read has the positions and the times of its entry
IsWindowOf-times : (part : StreamParts) (entry : Entry) (f : Figures) → IsWindowOf part entry f → (entry.t_first ≡ f.t_first) × (entry.t_last ≡ f.t_last)
IsWindowOf-times part entry f is = (ap (λ (p : ℕ × ℕ). p.0) is.times, ap (λ (p : ℕ × ℕ). p.1) is.times)

-- on a disk that tells no slot has changed for a look either, and what is seen is what is there
IsSeenAs-Changed : (seen : Seen) (slot : ℕ) → IsSeenAs seen (Err (error.Changed slot)) → ⊥
IsSeenAs-Changed seen slot fact = fact

IsSeenAs-Ok : (seen now : Seen) → IsSeenAs seen (Ok now) → now ≡ seen
IsSeenAs-Ok seen now fact = fact

-- a walk begins at a place before which each window ends before the range
BeginsAt-early : (entries : List (At × Entry)) (from : ℕ) (start : Option At) (begins : BeginsAt entries from start) →
    (entries ≡ begins.before ++ begins.rest) × All (λ (e : At × Entry). e.1.t_last < from) begins.before × (start ≡ place_at begins.rest 0)
BeginsAt-early entries from start begins = (begins.is, begins.early, begins.place)

-- of the windows from a place near a time on, only the first may begin by that time
BeginsNear-behind : (entries : List (At × Entry)) (from : ℕ) (start : Option At) (near : BeginsNear entries from start) →
    (entries ≡ near.before ++ near.rest) × (start ≡ place_at near.rest 0) × All (λ (e : At × Entry). from < e.1.t_first) (drop 1 near.rest)
BeginsNear-behind entries from start near = (near.is, near.place, near.behind)

-- three windows that begin at 10, 20 and 30, and last so long that each is met by every range below
abbrev begun_at : ℕ → At × Entry
begun_at t = (record { 0 = t }, record { first = t; last = t; t_first = t; t_last = 100; slot = t })

abbrev three : List (At × Entry)
three = begun_at 10 ∷ begun_at 20 ∷ begun_at 30 ∷ []

-- of them those begin in a range that begin after its first time, and by its last
begun-first : begun_in 10 30 three ≡ 2
begun-first = refl

begun-before_first : begun_in 9 30 three ≡ 3
begun-before_first = refl

begun-before_last : begun_in 10 29 three ≡ 1
begun-before_last = refl

begun-behind : begun_in 30 40 three ≡ 0
begun-behind = refl

begun-none : begun_in 0 100 [] ≡ 0
begun-none = refl

-- a window that lies whole in the range counts with the landmarks; one that lies apart of it doesn't
known : Kind → ℕ → Seen
known kind from = seen_with [] kind from 40 (marks_seen kind values) (window 1 3)

whole-count : outcome_seen kinds.Count (known kinds.Count 10) ≡ Count 5 5
unfolding known window values
whole-count = refl

whole-sum : outcome_seen kinds.Sum (known kinds.Sum 10) ≡ Sum (pos 21) (pos 21)
unfolding known window values
whole-sum = refl

apart-count : outcome_seen kinds.Count (known kinds.Count 31) ≡ Count 2 2
unfolding known window values
apart-count = refl

-- of one that the range splits the value at 30 counts, that at 10 doesn't, and the one between them may
split-count : outcome_seen kinds.Count (known kinds.Count 20) ≡ Count 3 4
unfolding known window values
split-count = refl

-- the mean of 21 over 5, of 12 over 2 beside the split window, and the likeliest, 17 over 4
fraction : ℤ → ℕ → Fraction
fraction over under = record { over = over; under = under }

means-seen : outcome_seen kinds.Mean (known kinds.Mean 10) ∷ outcome_seen kinds.Mean (known kinds.Mean 20) ∷
    outcome_seen kinds.MeanGuess (known kinds.MeanGuess 20) ∷ []
    ≡ Mean (means.Sure (fraction (pos 21) 5) (fraction (pos 21) 5)) ∷ Mean (means.Sure (fraction (pos 17) 4) (fraction (pos 16) 3))
    ∷ MeanEstimate (guesses.Sure (fraction (pos 17) 4) (fraction (pos 17) 4) (fraction (pos 16) 3)) ∷ []
unfolding known window values fraction mean_guess mean_interval lowest
means-seen = refl

-- such a window is cut: its positions, how many of its values there are, and the ends and times that lie in the range and outside it
cut : Cut
cut = cut_of [] 20 40 (window 4 3)

cut-figures : cut.first ∷ cut.last ∷ cut.split.count ∷ cut.split.ends ∷ cut.split.inside ∷ cut.split.outside ∷ [] ≡ 4 ∷ 6 ∷ 3 ∷ 1 ∷ 10 ∷ 9 ∷ []
unfolding cut window
cut-figures = refl

cut-values : cut.split.sum ∷ cut.split.min ∷ cut.split.max ∷ [] ≡ pos 9 ∷ pos 2 ∷ pos 4 ∷ []
unfolding cut window
cut-values = refl

-- it has as many values as its positions say, and figures of a window that a range may split
IsCut-span : (one : Cut) → IsCut one → IsSplit one.split × (one.first + one.split.count ≡ one.last + 1)
IsCut-span one is = (is.split, is.span)

HasCuts-both : (seen : Seen) → HasCuts seen → IfSome seen.left IsCut × IfSome seen.right IsCut
HasCuts-both seen cuts = (cuts.left, cuts.right)

-- of two windows, at the times 10 to 30 and 50 to 60, and a landmark's value: the range from 20 cuts the first, and the second is whole;
-- the range to 55 cuts both, and that from 42 to 49 none
later_window : Window
later_window = record {
  first = 4;
  summary = record {
    count = 2;
    sum = pos 8;
    min = pos 3;
    max = pos 5;
    t_first = 50;
    t_last = 60;
    filter = union (filter_of (pos 3)) (filter_of (pos 5));
  };
}

one_stream : Stream
one_stream = record {
  number = 0;
  name = 97 ∷ [];
  params = Exp 2 1 1;
  windows = window 1 3 ∷ later_window ∷ [];
  landmarks = record { start = 40; finish = Some 44; values = record { t = 41; v = pos 7 } ∷ [] } ∷ [];
}

-- the positions of the windows that a range cuts, and how many values the whole ones and the landmarks in it have
ends_of : Option Cut → List ℕ
ends_of None = []
ends_of (Some one) = one.first ∷ one.last ∷ []

found : ℕ → ℕ → List (List ℕ)
found from to =
    let seen = seen_of kinds.Count from to one_stream in
    ends_of seen.left ∷ ends_of seen.right ∷ (option_map_or (λ (f : Figures). f.count) seen.whole 0 ∷ seen.marked.count ∷ []) ∷ []

seen-one : found 20 70 ≡ (1 ∷ 3 ∷ []) ∷ [] ∷ (2 ∷ 1 ∷ []) ∷ []
unfolding found ends_of one_stream window later_window
seen-one = refl

seen-both : found 20 55 ≡ (1 ∷ 3 ∷ []) ∷ (4 ∷ 5 ∷ []) ∷ (0 ∷ 1 ∷ []) ∷ []
unfolding found ends_of one_stream window later_window
seen-both = refl

seen-none : found 42 49 ≡ [] ∷ [] ∷ (0 ∷ 0 ∷ []) ∷ []
unfolding found ends_of one_stream window later_window
seen-none = refl

-- of the same stream, what is answered to whether a value is there
presence : ℤ → ℕ → ℕ → Outcome
presence v from to = outcome_seen (kinds.Has v) (seen_of (kinds.Has v) from to one_stream)

-- it is, where it is the value of a landmark with a time in the range
present-landmark : presence (pos 7) 41 44 ∷ presence (pos 7) 42 44 ∷ [] ≡ Has Present ∷ Has Absent ∷ []
unfolding presence one_stream window later_window bit_of filter_of has union
present-landmark = refl

-- or the least or the greatest of a window that lies whole in the range
present-least : presence (pos 2) 10 30 ≡ Has Present
unfolding presence one_stream window later_window bit_of filter_of has union
present-least = refl

present-greatest : presence (pos 4) 10 30 ≡ Has Present
unfolding presence one_stream window later_window bit_of filter_of has union
present-greatest = refl

-- it may be, where such a window has its bit, or one that the range splits, also as its least
maybe-whole : presence (pos 3) 10 30 ≡ Has Maybe
unfolding presence one_stream window later_window bit_of filter_of has union
maybe-whole = refl

maybe-split : presence (pos 3) 20 40 ∷ presence (pos 2) 20 40 ∷ [] ≡ Has Maybe ∷ Has Maybe ∷ []
unfolding presence one_stream window later_window bit_of filter_of has union
maybe-split = refl

-- and it isn't, where the filter hasn't its bit, where it is greater than all values, where both values of a window that the range
-- splits are outside it, and where no window has a time in the range
absent-filter : presence (pos 4) 50 60 ≡ Has Absent
unfolding presence one_stream window later_window bit_of filter_of has union
absent-filter = refl

absent-greater : presence (pos 6) 50 60 ≡ Has Absent
unfolding presence one_stream window later_window bit_of filter_of has union
absent-greater = refl

absent-no_room : presence (pos 3) 51 59 ≡ Has Absent
unfolding presence one_stream window later_window bit_of filter_of has union
absent-no_room = refl

absent-apart : presence (pos 3) 31 49 ≡ Has Absent
unfolding presence one_stream window later_window bit_of filter_of has union
absent-apart = refl

-- what is there in one window isn't forgotten in the next one
present-first : presence (pos 2) 10 60 ∷ presence (pos 3) 10 60 ∷ [] ≡ Has Present ∷ Has Present ∷ []
unfolding presence one_stream window later_window bit_of filter_of has union
present-first = refl

-- where nothing is asked for, nothing is there
nothing-asked : map (λ (kind : Kind). (seen_of kind 0 70 one_stream).presence) (kinds.Count ∷ kinds.Sum ∷ kinds.Min ∷ kinds.Max ∷ kinds.Mean ∷ [])
    ≡ Absent ∷ Absent ∷ Absent ∷ Absent ∷ Absent ∷ []
unfolding one_stream window later_window
nothing-asked = refl

-- which position and time come next
next-taken : (known kinds.Count 10).taken ≡ 3
unfolding known window values
next-taken = refl

next-time : (known kinds.Count 10).next_time ≡ 31
unfolding known window values
next-time = refl

-- the slots of a stream's windows are those of its entries, and its own isn't one of them
window_slots-entries : (part : StreamParts) → window_slots_of part ≡ map (λ (e : Entry). e.slot) (entries_of part)
window_slots-entries part = refl

-- a window that was read has as many values as its positions say
window-count : (part : StreamParts) (entry : Entry) (summary : Figures) → IsWindowOf part entry summary →
    entry.first + summary.count ≡ entry.last + 1
window-count part entry summary is = is.count

-- the records are kept also where one has changed
module _ (part : StreamParts) (was is : RecordsState) (slot : ℕ) (old new : Told) where
  reads-changed : (entry : Entry) → ReadsWindow part entry was is (Err (error.Changed slot)) old new → AreKept is new.content
  reads-changed entry reads = reads.kept

  sees-changed : (query : Query) → SeesStream part query was is (Err (error.Changed slot)) old new → AreKept is new.content
  sees-changed query sees = sees.kept

-- of values of landmarks there are 2^24 at most, with a sum of so many of 64 bits; and not one more
IsFewMarked-count : (tally : Tally) → IsFewMarked tally → tally.count ≤ 2 ^ 24
IsFewMarked-count tally few = few.count

IsFewMarked-sum : (tally : Tally) → IsFewMarked tally → unsigned_abs tally.sum ≤ 2 ^ 87
IsFewMarked-sum tally few = few.sum

IsFewMarked-most : IsFewMarked (record { count = 2 ^ 24; sum = pos (2 ^ 87); least = None; greatest = None })
IsFewMarked-most = record { count = lit≤ tt; sum = lit≤ tt }
