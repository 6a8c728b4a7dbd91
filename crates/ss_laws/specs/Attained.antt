-- What may be true of a stream, as far as what a store keeps of it tells.
use Rattle.std.specs.Prelude.{◌≡◌, ℕ, ℤ, pos, List, Option, None, Some}
use Rattle.ss_catalog.specs.declared.query.Kind.{Kind}
use Rattle.ss_catalog.specs.declared.query.Kind.TheVariants as kinds
use Rattle.ss_catalog.specs.declared.query.Query.{Query}
use Rattle.ss_model.specs.History.{Happened}
use Rattle.ss_model.specs.Refusals.{IsHistory}
use Rattle.ss_model.specs.State.{Stream, state, stream_named}
use Rattle.ss_laws.specs.Contents.{Contents, AreContents, Like, contents_of, count_in, sum_in}

-- contents like the actual ones have so many values with times in from..=to, of this sum
pub record IsAttained (actual : Contents) (from to count : ℕ) (sum : ℤ) : Type 0 where
  pub contents : Contents
  pub sound : AreContents contents
  pub like : Like contents actual
  pub counts : count_in from to contents ≡ count
  pub sums : sum_in from to contents ≡ sum

-- the true answer over some contents to a query of count or of sum
abbrev pub truth_of_kind : Kind → ℕ → ℕ → Contents → Option ℤ
truth_of_kind kinds.Count from to c = Some (pos (count_in from to c))
truth_of_kind kinds.Sum from to c = Some (sum_in from to c)
truth_of_kind kinds.Min from to c = None
truth_of_kind kinds.Max from to c = None
truth_of_kind kinds.Mean from to c = None
truth_of_kind (kinds.Has value) from to c = None
truth_of_kind kinds.CountGuess from to c = None
truth_of_kind kinds.SumGuess from to c = None
truth_of_kind kinds.MeanGuess from to c = None

-- contents like the actual ones have this true answer
pub record IsTruthOfLike (actual : Contents) (query : Query) (answer : ℤ) : Type 0 where
  pub contents : Contents
  pub sound : AreContents contents
  pub like : Like contents actual
  pub truth : truth_of_kind query.kind query.from query.to contents ≡ Some answer

-- An answer may be the true one in a state: whatever history it is the state of, contents like those of the stream that is asked
-- have this true answer.
abbrev pub MayBeTrue : List Stream → Query → ℤ → Type 0
MayBeTrue streams query answer =
    (history : List Happened) (s : Stream) → IsHistory history → state history ≡ streams → stream_named query.name streams ≡ Some s
    → IsTruthOfLike (contents_of history s) query answer
