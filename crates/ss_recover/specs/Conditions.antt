-- What the records of one stream number have to meet, one condition after another.
use Rattle.std.specs.Prelude.{ℕ, ◌+◌, Bool, true, not, ◌==◌, ◌&&◌, ◌||◌, nat_le, nat_lt, List, [], ◌∷◌, count_by}
use Rattle.std.specs.List.{list_all, list_any}
use Rattle.ss_catalog.specs.Names.{same_name}
use Rattle.ss_catalog.specs.Params.{step_number}
use Rattle.ss_catalog.specs.declared.TheConstants.{MOST_STREAMS}
use Rattle.ss_codec.specs.declared.record.Record.{Record}
use Rattle.ss_targets.specs.Rule.{in_step}
use Rattle.ss_base.specs.declared.limits.TheConstants.{MOST_VALUES}
use Rattle.ss_model.specs.Marks.{lies_free}
use Rattle.ss_model.specs.State.{Created}
use Rattle.ss_model.specs.Windows.{taken}
use Rattle.ss_model.specs.declared.types.Window.{Window}
use Rattle.ss_recover.specs.Carried.{is_dropped, marks_carried, streams_created, windows_carried}
use Rattle.ss_recover.specs.Marked.{are_marks, landmarks_made}

-- exactly one stream record has the number
abbrev pub has_one_record : ℕ → List Created → Bool
has_one_record number streams = count_by (λ s. s.number == number) streams == 1

-- fewer stream records than streams can stand have lower numbers
abbrev pub has_place : ℕ → List Created → Bool
has_place number streams = nat_lt (count_by (λ s. nat_lt s.number number) streams) MOST_STREAMS

-- whether a stream record of a lower number has the name of a stream
abbrev pub is_named_before : List Created → Created → Bool
is_named_before streams s = list_any (λ other. nat_lt other.number s.number && same_name other.name s.name) streams

-- no stream record of a lower number has its name
abbrev pub has_new_name : ℕ → List Created → Bool
has_new_name number streams = not (list_any (λ s. s.number == number && is_named_before streams s) streams)

-- each window begins where the one before it ended, and the first at this position
abbrev pub tile_from : ℕ → List Window → Bool
tile_from first [] = true
tile_from first (w ∷ ws) = w.first == first && tile_from (first + w.summary.count) ws

-- they hold each position from 1 on, and no more than a stream can take
abbrev pub tile : List Window → Bool
tile ws = tile_from 1 ws && nat_le (taken ws) MOST_VALUES

-- the last time of each window is before the first time of the next
abbrev pub times_rise : List Window → Bool
times_rise [] = true
times_rise (w ∷ []) = true
times_rise (w ∷ v ∷ ws) = nat_lt w.summary.t_last v.summary.t_first && times_rise (v ∷ ws)

-- the first time of each window and its last lie in one step of the clock
abbrev pub keep_step : ℕ → List Window → Bool
keep_step step ws = list_all (λ w. in_step step w.summary.t_first w.summary.t_last) ws

-- they do where the step is that of the stream record with the number
abbrev pub keep_own_step : ℕ → List Created → List Window → Bool
keep_own_step number streams ws = list_all (λ s. not (s.number == number) || keep_step (step_number s.params.within) ws) streams

-- a stream has one record, a place and a name that is new
abbrev pub stands_alone : ℕ → List Created → Bool
stands_alone number streams = has_one_record number streams && has_place number streams && has_new_name number streams

-- windows and the records of landmarks meet theirs
abbrev pub are_sound : List Window → List Record → Bool
are_sound windows marks =
    tile windows && times_rise windows && are_marks marks && list_all (lies_free (landmarks_made marks)) windows

-- they do, and the windows keep to the step of the stream record with the number
abbrev pub stands_sound : ℕ → List Created → List Window → List Record → Bool
stands_sound number streams windows marks = are_sound windows marks && keep_own_step number streams windows

-- The records of the number meet all conditions, where these are its windows and the records of its landmarks. Of a dropped stream
-- nothing is asked of them.
abbrev pub is_sound_with : List Record → ℕ → List Window → List Record → Bool
is_sound_with records number windows marks =
    stands_alone number (streams_created records)
    && (is_dropped number records || stands_sound number (streams_created records) windows marks)

-- They do, whatever the order of the records.
unfoldable pub is_sound : List Record → ℕ → Bool
is_sound records number = is_sound_with records number (windows_carried number records) (marks_carried number records)
