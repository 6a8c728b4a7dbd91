-- What may be answered of a stream, as far as what a store keeps of it tells: a count, a sum or a mean.
use Rattle.std.specs.Prelude.{◌≡◌, ℕ, List, Some}
use Rattle.ss_bounds.specs.declared.fraction.Fraction.{Fraction}
use Rattle.ss_catalog.specs.declared.query.Query.{Query}
use Rattle.ss_laws.specs.Contents.{Contents, AreContents, Like, contents_of, count_in, sum_in}
use Rattle.ss_model.specs.History.{Happened}
use Rattle.ss_model.specs.Refusals.{IsHistory}
use Rattle.ss_model.specs.State.{Stream, state, stream_named}
use Rattle.ss_certify.specs.Evidence.{answer_from}
use Rattle.ss_certify.specs.declared.evidence.Answer.{Answer}

-- the sum and the count of the values that some contents have with times in from..=to
abbrev pub values_in : ℕ → ℕ → Contents → Fraction
values_in from to c = record { over = sum_in from to c; under = count_in from to c }

-- contents like the actual ones have this true answer
pub record IsAnswerOfLike (actual : Contents) (query : Query) (answer : Answer) : Type 0 where
  pub contents : Contents
  pub sound : AreContents contents
  pub like : Like contents actual
  pub truth : answer_from query.kind (values_in query.from query.to contents) ≡ answer

-- An answer may be the true one in a state: whatever history it is the state of, contents like those of the stream that is asked
-- have this true answer.
abbrev pub MayBeAnswer : List Stream → Query → Answer → Type 0
MayBeAnswer streams query answer =
    (history : List Happened) (s : Stream) → IsHistory history → state history ≡ streams → stream_named query.name streams ≡ Some s
    → IsAnswerOfLike (contents_of history s) query answer
