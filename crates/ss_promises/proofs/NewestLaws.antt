-- What lines that mean `last` and `values` bring, and that it is true of a history.
use Rattle.ss_program.proofs.Common.{◌≡◌, ◌∙◌, ℕ, ◌&&◌, ◌++◌, List, [], ◌∷◌, length, map, Option, Some, None, Ok, refl, sym, ap, subst, filter, is_some, nat_le}
use Rattle.ss_program.proofs.Common.{nat_lt, not, option_map, Range, Unknown, meaning, Last, Values, LandmarkValue, all_values, values_between, landmarks_of}
use Rattle.ss_program.proofs.Common.{marked_of, values_of, later, latest_of, newest_in, newest_of, IsHistory, first_that_applies, Stream, standing}
use Rattle.ss_program.proofs.Common.{stream_named, time_of_last, Newest, ValuesHead, Point, History, brings, meaning_brings, only_replies, value_rows}
use Rattle.ss_model.proofs.NewestLemmas.{filter-kept, newest_in-holds}
use Rattle.ss_model.proofs.RisingLemmas.{named-after}
use Rattle.ss_model.specs.Newest.{refuses_values}
use Rattle.ss_model.specs.NewestTruth.{HoldsNewest, kept_point}
use Rattle.ss_model.specs.Refusals.{refuses_reading}
use Rattle.ss_model.specs.State.{state}
use Rattle.ss_report.specs.declared.reply.Reply.TheVariants.{Last as LastLine}
use Rattle.ss_program.proofs.NewestLemmas.{brings-newest}
use Rattle.ss_program.proofs.ValuesLemmas.{brings-values}

-- a stream that isn't unknown has a newest value that is told
known-newest : (o : Option Stream) → first_that_applies ((not (is_some o), Unknown) ∷ []) ≡ None → (told : Newest) × (option_map newest_of o ≡ Some told)
known-newest None none = cc
known-newest (Some s) none = (newest_of s, refl)

newest-known : (streams : List Stream) (name : List ℕ) → refuses_reading streams name ≡ None → (told : Newest) × (newest_in streams name ≡ Some told)
unfolding refuses_reading
newest-known streams name none = known-newest (stream_named name streams) none

-- what a line brings that asks for it
pub last-line : (history : History) (line name : List ℕ) → IsHistory history → meaning line ≡ Ok (Some (Last name)) →
    refuses_reading (state history) name ≡ None →
    (told : Newest) × (brings history line ≡ only_replies (LastLine told ∷ []))
    × HoldsNewest told (later (time_of_last (values_of history name)) (latest_of (landmarks_of history name)))
    (values_of history name ++ marked_of history name)
last-line history line name whole means none =
    let it = newest-known (state history) name none in
    (it.0, ap (λ m. meaning_brings history m) means ∙ brings-newest history name it.0 none it.1, newest_in-holds history name it.0 whole it.1)

-- a stream whose values are asked for stands
known-stream : (o : Option Stream) (from to : ℕ) → first_that_applies ((not (is_some o), Unknown) ∷ (nat_lt to from, Range) ∷ []) ≡ None →
    (s : Stream) × (o ≡ Some s)
known-stream None from to none = cc
known-stream (Some s) from to none = (s, refl)

stream-known : (streams : List Stream) (name : List ℕ) (from to : ℕ) → refuses_values streams name from to ≡ None →
    (s : Stream) × (stream_named name streams ≡ Some s)
unfolding refuses_values
stream-known streams name from to none = known-stream (stream_named name streams) from to none

-- and has the values of the history
values-kept : (history : History) (name : List ℕ) (from to : ℕ) (s : Stream) → stream_named name (state history) ≡ Some s →
    map kept_point (values_between s.landmarks from to) ≡ filter (λ (p : Point). nat_le from p.0 && nat_le p.0 to) (marked_of history name)
unfolding state
values-kept history name from to s is =
    let of = named-after history name (standing history) s is in
    let inside = λ (p : Point). nat_le from p.0 && nat_le p.0 to in
    rw of.named at (subst (λ (u : Stream). map kept_point (values_between u.landmarks from to) ≡ filter inside (marked_of history of.created.name)) (sym of.is)
    (filter-kept from to (all_values (landmarks_of history of.created.name))))

-- what a line brings that asks for them
pub values-line : (history : History) (line name : List ℕ) (from to : ℕ) → meaning line ≡ Ok (Some (Values name from to)) →
    refuses_values (state history) name from to ≡ None →
    (values : List LandmarkValue) × (brings history line ≡ only_replies (ValuesHead (length values) ∷ value_rows values))
    × (map kept_point values ≡ filter (λ (p : Point). nat_le from p.0 && nat_le p.0 to) (marked_of history name))
values-line history line name from to means none =
    let s = stream-known (state history) name from to none in (
      values_between s.0.landmarks from to,
      ap (λ m. meaning_brings history m) means ∙ brings-values history name from to s.0 none s.1,
      values-kept history name from to s.0 s.1,
    )
