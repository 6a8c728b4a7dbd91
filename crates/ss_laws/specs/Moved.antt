-- Contents whose values stand at other times: what a store keeps of them, filters included, can be the same.
use Rattle.std.specs.Prelude.{◌≡◌, ℕ, List, [], ◌∷◌, Some}
use Rattle.ss_catalog.specs.declared.query.Query.{Query}
use Rattle.ss_summary.specs.Points.{Point}
use Rattle.ss_model.specs.History.{Happened}
use Rattle.ss_model.specs.Refusals.{IsHistory}
use Rattle.ss_model.specs.State.{Stream, state, stream_named}
use Rattle.ss_laws.specs.Contents.{AreContents, Contents, contents_of, count_in, own_windows}

-- the values of some points, in their order, each at the time of the other point in its place
abbrev pub at_times_of : List Point → List Point → List Point
at_times_of [] others = []
at_times_of (p ∷ ps) [] = []
at_times_of (p ∷ ps) (o ∷ others) = (o.0, p.1, p.2) ∷ at_times_of ps others

-- contents with their values, in their order, at the times of others
abbrev pub moved_to_times : Contents → Contents → Contents
moved_to_times c d = record { params = c.params; plain = at_times_of c.plain d.plain; landmarks = c.landmarks }

-- nothing at all that a store keeps tells two contents apart: their windows have the same filters too
pub record AreIndistinguishable (c d : Contents) : Type 0 where
  pub params : c.params ≡ d.params
  pub landmarks : c.landmarks ≡ d.landmarks
  pub windows : own_windows c ≡ own_windows d

-- contents of which a store keeps all that it keeps of the actual ones have so many values with times in from..=to
pub record HasCount (actual : Contents) (from to count : ℕ) : Type 0 where
  pub contents : Contents
  pub sound : AreContents contents
  pub kept : AreIndistinguishable contents actual
  pub counts : count_in from to contents ≡ count

-- A count may be the true one in a state, whose filters are known: whatever history it is the state of, contents of which a store
-- keeps what it keeps of the stream that is asked have so many values in the range.
abbrev pub MayBeCounted : List Stream → Query → ℕ → Type 0
MayBeCounted streams query count =
    (history : List Happened) (s : Stream) → IsHistory history → state history ≡ streams → stream_named query.name streams ≡ Some s
    → HasCount (contents_of history s) query.from query.to count
