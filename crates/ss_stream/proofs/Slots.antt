-- The calls that leave the map of a disk.
use Rattle.ss_stream.proofs.Common.{List, Result, ℕ, on_ok_weaker, weaker, Told, KeepsMap, StandsFor, Turns}
use Rattle.ss_stream.proofs.ShownCalls.{IsOfMap}

-- a call that keeps the map keeps each property of maps, also in a crash
pub Turns-kept : {T E : Type 0} (P : List ℕ → Type 0) (old new : Told) (result : Result T E) → IsOfMap P → KeepsMap old new result →
    Turns P P P old new result
Turns-kept P old new result maps keeps = record {
  content = λ has. let its = maps old.content has in on_ok_weaker result (its.2 new.content) (keeps.map its.0 its.1);
  any_moment = λ none has.
      let its = maps old.content has in weaker old new (λ image. StandsFor image its.0) P its.2 (keeps.any_moment none its.0 its.1);
  durable = keeps.durable;
}
