-- What `values` brings, by what the store holds, and its rows, one after another.
use Rattle.ss_program.proofs.Common.{◌≡◌, ◌∙◌, ℕ, suc, ◌+◌, ◌≤◌, List, [], ◌∷◌, length, take, drop, true, false, Option, Some, None, IsSome, IfSome, refl, sym}
use Rattle.ss_program.proofs.Common.{ap, inl, inr, cases_Bool, slice_get, is_some, Refusal, Values, Landmark, LandmarkValue, all_values, values_between}
use Rattle.ss_program.proofs.Common.{stands, Stream, state, stream_named, ValuesHead, SomeAgree, StoreIsIn, StoreState, part_named, part_numbered}
use Rattle.ss_program.proofs.Common.{refuses_values_held, Stands, AllAgree-recovered, refuses_values_held-is, Brought, History, command_brings, only_replies}
use Rattle.ss_program.proofs.Common.{refused, unless_refused, value_rows, values_shown}
use Rattle.ss_model.specs.Newest.{refuses_values}
use Rattle.ss_parts.specs.declared.parts.StreamParts.{StreamParts}
use Rattle.ss_report.specs.declared.reply.Reply.TheVariants.{Value as ValueRow}
use Rattle.ss_store.specs.Values.{AreValuesIn}
use Rattle.ss_store.specs.declared.store.values.ValueRange.{ValueRange}
use Rattle.ss_store.proofs.Named.{SomeAgree-named}
use Rattle.ss_program.proofs.RowLemmas.{drop-at}
use Rattle.ss_program.specs.Rows.{values_left}

-- a command that is refused brings its refusal
brings-unvalued : (history : History) (name : List ℕ) (from to : ℕ) (refusal : Refusal) →
    refuses_values (state history) name from to ≡ Some refusal → command_brings history (Values name from to) ≡ refused refusal
brings-unvalued history name from to refusal is =
    ap (λ r. unless_refused r (only_replies (values_shown from to (stream_named name (state history))))) is

-- and one that isn't brings the head and the rows
pub brings-values : (history : History) (name : List ℕ) (from to : ℕ) (s : Stream) → refuses_values (state history) name from to ≡ None →
    stream_named name (state history) ≡ Some s → command_brings history (Values name from to)
    ≡ only_replies (ValuesHead (length (values_between s.landmarks from to)) ∷ value_rows (values_between s.landmarks from to))
brings-values history name from to s none is =
    ap (λ r. unless_refused r (only_replies (values_shown from to (stream_named name (state history))))) none
    ∙ ap (λ o. only_replies (values_shown from to o)) is

-- the replies for the values of landmarks with times in from..=to
abbrev pub values_told : ℕ → ℕ → List Landmark → Brought
values_told from to landmarks = only_replies (ValuesHead (length (values_between landmarks from to)) ∷ value_rows (values_between landmarks from to))

-- what is held has the landmarks of the stream
landmarks_alike : (part : _) (o : Option Stream) → SomeAgree part o →
    IfSome part (λ p. (s : Stream) × (o ≡ Some s) × (p.landmarks.landmarks ≡ s.landmarks))
landmarks_alike None o agree = tt
landmarks_alike (Some p) None agree = absurd agree
landmarks_alike (Some p) (Some s) agree = (s, refl, agree.landmarks)

told_alike : {P : Type 0} (part : Option P) (landmarks_of : P → List Landmark) (history : History) (name : List ℕ) (from to : ℕ) →
    refuses_values (state history) name from to ≡ None →
    IfSome part (λ p. (s : Stream) × (stream_named name (state history) ≡ Some s) × (landmarks_of p ≡ s.landmarks)) →
    IfSome part (λ p. command_brings history (Values name from to) ≡ values_told from to (landmarks_of p))
told_alike None landmarks_of history name from to none alike = tt
told_alike (Some p) landmarks_of history name from to none alike =
    brings-values history name from to alike.0 none alike.1
    ∙ ap (λ ls. values_told from to ls) (sym alike.2)

module _ (store : StoreState) (image : List ℕ) (history : History) (name : List ℕ) (from to : ℕ) (kept : StoreIsIn store image)
    (told : Stands history image) where
  -- what is refused by what the store holds
  refuses_values-kept : refuses_values_held store.streams name from to ≡ refuses_values (state history) name from to
  refuses_values-kept =
      refuses_values_held-is store.streams (state history) name from to (AllAgree-recovered store image (state history) kept told.state).0

  -- what is brought, by what the store holds
  pub told-refused : (refusal : Refusal) → refuses_values_held store.streams name from to ≡ Some refusal →
      command_brings history (Values name from to) ≡ refused refusal
  told-refused refusal is = brings-unvalued history name from to refusal (sym refuses_values-kept ∙ is)

  pub told-values : (number : ℕ) → refuses_values_held store.streams name from to ≡ None →
      part_numbered number store.streams ≡ part_named name store.streams →
      IfSome (part_numbered number store.streams) (λ p. command_brings history (Values name from to) ≡ values_told from to p.landmarks.landmarks)
  told-values number none same =
      rw same (told_alike (part_named name store.streams) (λ p. p.landmarks.landmarks) history name from to (sym refuses_values-kept ∙ none)
      (landmarks_alike (part_named name store.streams) (stream_named name (state history))
      (SomeAgree-named store.streams (state history) name (AllAgree-recovered store image (state history) kept told.state).0)))

-- a command that isn't refused names a stream that stands
some-stream : (o : Option Stream) → is_some o ≡ true → (s : Stream) × (o ≡ Some s)
some-stream None known = (let wrong : false ≡ true = known in cc)
some-stream (Some s) known = (s, refl)

pub known-values : (streams : List Stream) (name : List ℕ) (from to : ℕ) → refuses_values streams name from to ≡ None →
    (s : Stream) × (stream_named name streams ≡ Some s)
unfolding refuses_values
known-values streams name from to none = elim (cases_Bool (stands name streams)) [
  | inl known ↦ some-stream (stream_named name streams) known
  | inr unknown ↦ (let wrong = rw unknown at none in cc)
]

-- the values of a range begin with the one at its first place
take-first : (all : List LandmarkValue) (first count rest : ℕ) (value : LandmarkValue) → slice_get all first ≡ Some value → count ≡ suc rest →
    take count (drop first all) ≡ value ∷ take rest (drop (first + 1) all)
take-first all first count rest value at is =
    ap (λ n. take n (drop first all)) is ∙ ap (λ vs. take (suc rest) vs) (drop-at all first value at)

-- the head, and the rows behind it
pub values-begun : (part : Option StreamParts) (from to : ℕ) (range : ValueRange) (brought : Brought) → IsSome part →
    IfSome part (λ p. AreValuesIn p.landmarks.landmarks from to range) → IfSome part (λ p. brought ≡ values_told from to p.landmarks.landmarks) →
    brought.replies ≡ ValuesHead range.count ∷ values_left part range
values-begun None from to range brought some are is = cc
values-begun (Some p) from to range brought some are is =
    ap (λ (b : Brought). b.replies) is ∙ ap (λ n. ValuesHead n ∷ value_rows (values_between p.landmarks.landmarks from to)) (sym are.count)
    ∙ ap (λ vs. ValuesHead range.count ∷ value_rows vs) are.values

pub values-within : (part : Option StreamParts) (from to : ℕ) (range : ValueRange) → IfSome part (λ p. AreValuesIn p.landmarks.landmarks from to range) →
    IfSome part (λ p. range.first + range.count ≤ length (all_values p.landmarks.landmarks))
values-within None from to range are = tt
values-within (Some p) from to range are = are.within

-- the first of them is taken
pub values-taken : (part : Option StreamParts) (range after : ValueRange) (value : LandmarkValue) → IsSome part →
    IfSome part (λ p. slice_get (all_values p.landmarks.landmarks) range.first ≡ Some value) → after.first ≡ range.first + 1 →
    range.count ≡ suc after.count → values_left part range ≡ ValueRow value.t value.v ∷ values_left part after
values-taken None range after value some at first count = cc
values-taken (Some p) range after value some at first count =
    ap (λ vs. value_rows vs) (take-first (all_values p.landmarks.landmarks) range.first range.count after.count value at count)
    ∙ ap (λ n. ValueRow value.t value.v ∷ value_rows (take after.count (drop n (all_values p.landmarks.landmarks)))) (sym first)

-- or none is left
pub values-ended : (part : Option StreamParts) (range : ValueRange) → range.count ≡ 0 → values_left part range ≡ []
values-ended None range none = refl
values-ended (Some p) range none = rw none refl
