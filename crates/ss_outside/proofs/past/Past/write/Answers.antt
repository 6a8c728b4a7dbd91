use Rattle.std.proofs.Common.{◌≡◌, ◌++◌, ◌∷◌, [], map, ◌∙◌}
use Rattle.ss_outside.specs.MemDisk.{Wrote}
use Rattle.ss_outside.specs.Past.{call_of}
use Rattle.ss_outside.proofs.PastLemmas.{calls-push}
use Rattle.ss_outside.proofs.past.Past.write.Goals as goal

pub returns-clause-added : goal.returns-clause-added
returns-clause-added c =
    let calls : map (call_of c.extend_from_slice.new.self.items) c.push.new.self.items
    ≡ map (call_of c.self.inside.pool.items) c.self.inside.changes.items ++ Wrote c.args.at c.args.bytes.now ∷ [] =
    rw (c.in_ok-push.ensures.items, c.in_ok-reserve.ensures.items, c.in_ok-extend_from_slice.ensures.items)
    (calls-push c.self.inside.pool.items c.args.bytes.now c.self.inside.changes.items c.args.at c.len-from.result
    (c.len-from.ensures ∙ c.self.inside.pool.ok.0) c.self.invariant.0) in
    rw (← c.self.view_is) (λ i. record {
      calls = calls i;
      spare_calls = c.saturating_sub-self-inside.ensures i;
      spare_bytes = c.saturating_sub-self-inside-2.ensures i;
    })
