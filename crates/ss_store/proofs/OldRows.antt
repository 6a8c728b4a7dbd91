-- Worked images of a store without filters, as it left them and with values that one with filters has taken since.
use Rattle.ss_store.proofs.Common.{◌==◌, negsuc, slice_index, ◌∙◌, ap, refl, sym, Event, Query, zeros, Happened, added, Stream, Outcome, Window, Recovers}
use Rattle.ss_store.proofs.Common.{Stands, no_store, damaged_entry, damaged_slot, damaged_stream, recovers}
use Rattle.std.specs.Prelude.{◌≡◌, ℕ, ℤ, ◌^◌, ◌-◌, Bool, true, false, pos, List, [], ◌∷◌, ◌++◌}
use Rattle.std.specs.Prelude.{drop, flat_map, map, take, Option, Some}
use Rattle.ss_fields.specs.Fields as Numbers
use Rattle.ss_summary.specs.Filters.{bit_of, filter_of, full, has, union}
use Rattle.ss_summary.specs.Points.{Old}
use Rattle.ss_summary.specs.Possible as Possible
use Rattle.ss_catalog.specs.Names as Names
use Rattle.ss_catalog.specs.declared.query.Kind.TheVariants as kinds
use Rattle.ss_targets.specs.Windowing.{window_index}
use Rattle.ss_journal.specs.Checks.{entry_form, slot_form}
use Rattle.ss_journal.specs.Format.{is_born, kind_of}
use Rattle.ss_journal.specs.Entries.{entries}
use Rattle.ss_journal.specs.Redo.{redo}
use Rattle.ss_codec.specs.Fields as Fields
use Rattle.ss_codec.specs.Record.{spelling, is_valid}
use Rattle.ss_codec.specs.Decoded.{decoded, params_in, record_in, stream_in, window_in}
use Rattle.ss_model.specs.Answers.{outcome_of}
use Rattle.ss_model.specs.Marks as Marks
use Rattle.ss_model.specs.State.{state}
use Rattle.ss_model.specs.declared.outcome.Outcome.TheVariants.{Has}
use Rattle.ss_model.specs.declared.outcome.Presence.{Presence}
use Rattle.ss_model.specs.declared.outcome.Presence.TheVariants.{Absent, Present, Maybe}
use Rattle.ss_recover.specs.Carried.{spelled}
use Rattle.ss_recover.specs.Conditions.{is_sound}
use Rattle.ss_recover.specs.Parts.{carried}
use Rattle.ss_store.specs.Recover.{Recovered, recover}
use Rattle.ss_store.proofs.Rows.{a, a_slot, image_of, no_entry, value, window_slot}
use Rattle.ss_store.proofs.Rows.{as_they_came, filter_of_four, first_four, next_two, readings, state-readings}

-- events as a store without filters took them
abbrev as_old : List Event → List Happened
as_old events = map (λ event. (event, Old)) events

-- its windows, each with all bits, which byte 1 of its record says by a 0, as every record of such a store does
states-of_filters : map (λ filter. slice_index (window_slot 0 1 (first_four filter)) 1) (full ∷ filter_of_four ∷ []) ≡ 0 ∷ 1 ∷ []
unfolding spelling Fields.with_field Numbers.number_bytes full
states-of_filters = refl

abbrev as_it_left : List ℕ
as_it_left = image_of no_entry no_entry
    (a_slot ∷ window_slot 0 1 (first_four full) ∷ zeros ∷ zeros ∷ window_slot 0 5 (next_two full)
    ∷ window_slot 0 7 (record (value 70 (pos 7)) { filter = full }) ∷ [])

-- it stands for the same events as old
state-old : Recovers (state (as_old readings)) as_it_left
unfolding state recover redo is_born kind_of slot_form entry_form entries carried spelled is_sound decoded record_in stream_in window_in params_in is_valid
    spelling Names.is_name
    Possible.is_possible bit_of filter_of full has union Fields.with_field Numbers.number_at Numbers.number_bytes window_index Marks.lies_free
state-old = refl

-- the words of all filters, and whether the first has all bits
abbrev words_in : Recovered → List ℕ
words_in no_store = []
words_in (damaged_entry n) = []
words_in (damaged_slot n) = []
words_in (damaged_stream number) = []
words_in (recovers streams) = flat_map (λ (s : Stream). flat_map (λ (w : Window). w.summary.filter.words) s.windows) streams

abbrev begins_full : Recovered → Bool
begins_full it = slice_index (words_in it) 0 == 2 ^ 64 - 1

begins-old : begins_full (recovers (state (as_old readings))) ≡ true
unfolding state window_index bit_of filter_of full union
begins-old = refl

begins-new : begins_full (recovers (state (map added readings))) ≡ false
unfolding state window_index bit_of filter_of full union
begins-new = refl

-- and not as new, whose windows have fewer bits; nor does an image with those stand for them as old
Stands-not_new : Stands (map added readings) as_it_left → ⊥
Stands-not_new stands =
    let wrong : true ≡ false = sym begins-old ∙ ap begins_full (sym state-old ∙ stands.state) ∙ begins-new in cc

Stands-not_old : Stands (as_old readings) as_they_came → ⊥
Stands-not_old stands =
    let wrong : true ≡ false = sym begins-old ∙ ap begins_full (sym stands.state ∙ state-readings) ∙ begins-new in cc

-- a store without filters took the first five values, and one with filters two more: the window of the values 9 and 2 has one of
-- either, and so it has all bits
abbrev grown : List Happened
grown = as_old (take 6 readings) ++ map added (drop 6 readings)

state-grown : Recovers (state grown) (image_of no_entry no_entry
    (a_slot ∷ window_slot 0 1 (first_four full) ∷ window_slot 0 5 (next_two full) ∷ window_slot 0 7 (value 70 (pos 7)) ∷ []))
unfolding state recover redo is_born kind_of slot_form entry_form entries carried spelled is_sound decoded record_in stream_in window_in params_in is_valid
    spelling Names.is_name
    Possible.is_possible bit_of filter_of full has union Fields.with_field Numbers.number_at Numbers.number_bytes window_index Marks.lies_free
state-grown = refl

-- so it is where the windows are as the store without filters left them, and those of the new values wait for their merges
state-waiting : Recovers (state grown) (image_of no_entry no_entry
    (a_slot
    ∷ window_slot 0 1 (record { count = 2; sum = pos 2; min = negsuc 2; max = pos 5; t_first = 10; t_last = 20; filter = full })
    ∷ window_slot 0 3 (record { count = 2; sum = pos 9; min = pos 1; max = pos 8; t_first = 30; t_last = 40; filter = full })
    ∷ window_slot 0 5 (record (value 50 (pos 9)) { filter = full })
    ∷ window_slot 0 6 (value 60 (pos 2))
    ∷ window_slot 0 7 (value 70 (pos 7))
    ∷ []))
unfolding state recover redo is_born kind_of slot_form entry_form entries carried spelled is_sound decoded record_in stream_in window_in params_in is_valid
    spelling Names.is_name
    Possible.is_possible bit_of filter_of full has union Fields.with_field Numbers.number_at Numbers.number_bytes window_index Marks.lies_free
state-waiting = refl

-- whether a value is one of those at the times from..=to, by a state
abbrev one : ℤ → ℕ → ℕ → Query
one v from to = record { name = a; kind = kinds.Has v; from = from; to = to }

abbrev known : List Presence → List (Option Outcome)
known = map (λ presence. Some (Has presence))

abbrev asked : List Query
asked = one (pos 8) 10 40 ∷ one (pos 4) 10 40 ∷ one (pos 100) 10 40 ∷ one (pos 4) 50 60 ∷ one (pos 9) 50 60 ∷ one (pos 4) 70 70 ∷ one (pos 7) 70 70 ∷ []

-- the filters of old windows tell nothing, nor do those of windows with one old value; those of new ones do
presence-grown : map (outcome_of (state grown)) asked ≡ known (Present ∷ Maybe ∷ Absent ∷ Maybe ∷ Present ∷ Absent ∷ Present ∷ [])
unfolding outcome_of state window_index bit_of filter_of full has union
presence-grown = refl

presence-new : map (outcome_of (state (map added readings))) asked ≡ known (Present ∷ Absent ∷ Absent ∷ Absent ∷ Present ∷ Absent ∷ Present ∷ [])
unfolding outcome_of state window_index bit_of filter_of full has union
presence-new = refl
