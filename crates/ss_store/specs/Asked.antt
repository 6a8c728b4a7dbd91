-- Which stream a query asks, and why it is refused, by what is held of the streams.
use Rattle.std.specs.Prelude.{◌≡◌, ◌≤◌, ℕ, List, is_some, IsSome, Option}
use Rattle.ss_catalog.specs.declared.query.Query.{Query}
use Rattle.ss_catalog.specs.declared.refusal.Refusal.{Refusal}
use Rattle.ss_model.specs.Refusals.{first_that_applies, range_refusals}
use Rattle.ss_parts.specs.declared.parts.StreamParts.{StreamParts}
use Rattle.ss_store.specs.Kept.{part_named, part_numbered}

-- why a query is refused by what is held of the streams, where it is
unfoldable pub refuses_query_held : List StreamParts → Query → Option Refusal
refuses_query_held parts query = first_that_applies (range_refusals (is_some (part_named query.name parts)) query.from query.to)

-- a query asks the stream of this number, of which it says the name, in a range that doesn't end before it begins
pub record AsksStream (parts : List StreamParts) (query : Query) (number : ℕ) : Type 0 where
  pub order : query.from ≤ query.to
  pub stands : IsSome (part_numbered number parts)
  pub same : part_numbered number parts ≡ part_named query.name parts
