use Rattle.std.proofs.Common.{◌∙◌, ap, sym, List, map}
use Rattle.std.specs.List.{filter}
use Rattle.ss_landmarks.specs.Landmarks.{LandmarksState}
use Rattle.ss_landmarks.specs.Stored.{bare_value}
use Rattle.ss_landmarks.specs.ValuesIn.{lies_in, values_between}
use Rattle.ss_landmarks.specs.declared.stored.StoredValue.{StoredValue}
use Rattle.ss_landmarks.proofs.HeldLemmas.{all_values-landmarks_from}
use Rattle.ss_landmarks.proofs.OrderLemmas.{RiseFrom-all_values}
use Rattle.ss_landmarks.proofs.landmarks.Landmarks.values_between.Goals as goal

pub values_in-requires : goal.values_in-requires
values_in-requires c =
    let stored = c.self.invariant.0 in
    let values = map bare_value c.self.inside.values.items in
    let all = all_values-landmarks_from c.self.inside.closed.items c.self.inside.current values stored.shared in
    rw c.deref.ensures.value (rw all at (RiseFrom-all_values 0 _ stored.order))

pub returns-clause-values : goal.returns-clause-values
returns-clause-values c =
    let stored = c.self.invariant.0 in
    let values = map bare_value c.self.inside.values.items in
    let all = all_values-landmarks_from c.self.inside.closed.items c.self.inside.current values stored.shared in
    let found = c.values_in.ensures.values ∙ ap (λ (held : List StoredValue). filter (lies_in c.args.a c.args.b) (map bare_value held)) c.deref.ensures.value in
    found ∙ ap (filter (lies_in c.args.a c.args.b)) (sym all) ∙
    ap (λ (state : LandmarksState). values_between state.landmarks c.args.a c.args.b) c.self.view_is
