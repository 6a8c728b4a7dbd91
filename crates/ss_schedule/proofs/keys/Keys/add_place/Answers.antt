use Rattle.std.proofs.Common.{◌≡◌, ◌∙◌, ◌++◌, ◌∷◌, [], ℕ, List, Option, None, ap, arith, length, is_ok}
use Rattle.std.proofs.lemmas.Bool.{cond-true}
use Rattle.ss_line.specs.declared.entry.At.{At}
use Rattle.ss_schedule.proofs.HeapLemmas.{AreHeldKeys-push}
use Rattle.ss_schedule.proofs.keys.Keys.add_place.Goals as goal

pub invariant_of-self-2 : goal.invariant_of-self-2
invariant_of-self-2 c =
    let place : ℕ = c.len-place.result in
    let keys : c.push.new.self.items ≡ c.self.inside.keys.items ++ None ∷ [] = c.push.ensures.items ∙
    cond-true (is_ok c.push.result) _ _ (ap is_ok c.unwrap.ensures) ∙ ap (λ (ks : List (Option (At × ℕ))). ks ++ None ∷ []) c.reserve.ensures.items in
    let heap : c.push-2.new.self.items ≡ c.self.inside.heap.items ++ place ∷ [] = c.push-2.ensures.items ∙
    cond-true (is_ok c.push-2.result) _ _ (ap is_ok c.unwrap-2.ensures) ∙ ap (λ (ns : List ℕ). ns ++ place ∷ []) c.reserve-2.ensures.items in
    let positions : c.push-3.new.self.items ≡ c.self.inside.positions.items ++ place ∷ [] = c.push-3.ensures.items ∙
    cond-true (is_ok c.push-3.result) _ _ (ap is_ok c.unwrap-3.ensures) ∙ ap (λ (ns : List ℕ). ns ++ place ∷ []) c.reserve-3.ensures.items in
    let same : length c.self.inside.keys.items ≡ place = omega arith in
    let held = AreHeldKeys-push c.self.inside.keys.items c.self.inside.heap.items c.self.inside.positions.items place c.self.invariant.0 same in
    let long = c.push.ensures.len ∙ cond-true (is_ok c.push.result) _ _ (ap is_ok c.unwrap.ensures) in
    (rw (keys, heap, positions) held, omega (arith, long, same, ap length c.self.view_is, c.requires))
