use Rattle.std.proofs.Common.{◌≡◌, ◌∙◌, ap, sym, Bool, ℕ, ◌+◌, ◌-◌, ◌≤◌, List, [], map, arith}
use Rattle.std.specs.List.{range_with_len, count_by}
use Rattle.ss_landmarks.specs.Free.{is_free, free}
use Rattle.ss_landmarks.specs.Landmarks.{LandmarksState}
use Rattle.ss_landmarks.specs.Stored.{bare_value, landmarks_from, free_before}
use Rattle.ss_landmarks.specs.declared.stored.Closed.{Closed}
use Rattle.ss_landmarks.proofs.Counting.{among, among-add, among-same}
use Rattle.ss_landmarks.proofs.HeldLemmas.{is_free-values}
use Rattle.ss_landmarks.proofs.landmarks.Landmarks.free_between.Goals as goal

pub returns-then-p-q : goal.returns-then-p-q
returns-then-p-q c =
    let none : c.args.q + 1 - c.args.p ≡ 0 = omega arith in
    sym (ap (λ (n : ℕ). count_by (is_free c.args.self.now.landmarks) (range_with_len c.args.p n)) none)

pub free_before-requires : goal.free_before-requires
free_before-requires c = rw c.deref.ensures.value c.self.invariant.0.know

pub free_before-requires-2 : goal.free_before-requires-2
free_before-requires-2 c = rw c.deref-2.ensures.value c.self.invariant.0.know

-- a range and what is before it
split : (test : ℕ → Bool) (p q : ℕ) → p ≤ q → among test 0 (q + 1) ≡ among test 0 p + among test p (q + 1 - p)
split test p q le = among-add test 0 p (q + 1 - p) (q + 1) p (omega arith) (omega arith)

pub overflow_sub-result : goal.overflow_sub-result
overflow_sub-result c =
    let test = is_free (landmarks_from c.self.inside.closed.items c.self.inside.current []) in
    let after : c.free_before.result ≡ among test 0 (c.args.q + 1) = c.free_before.ensures ∙
    ap (λ (cs : List Closed). free_before (landmarks_from cs c.self.inside.current []) (c.args.q + 1)) c.deref.ensures.value in
    let before : c.free_before-2.result ≡ among test 0 c.args.p = c.free_before-2.ensures ∙
    ap (λ (cs : List Closed). free_before (landmarks_from cs c.self.inside.current []) c.args.p) c.deref-2.ensures.value in
    omega (arith, after, before, split test c.args.p c.args.q c.if-p-q.false)

pub returns : goal.returns
returns c =
    let test = is_free (landmarks_from c.self.inside.closed.items c.self.inside.current []) in
    let values = map bare_value c.self.inside.values.items in
    let after : c.free_before.result ≡ among test 0 (c.args.q + 1) = c.free_before.ensures ∙
    ap (λ (cs : List Closed). free_before (landmarks_from cs c.self.inside.current []) (c.args.q + 1)) c.deref.ensures.value in
    let before : c.free_before-2.result ≡ among test 0 c.args.p = c.free_before-2.ensures ∙
    ap (λ (cs : List Closed). free_before (landmarks_from cs c.self.inside.current []) c.args.p) c.deref-2.ensures.value in
    let within : c.free_before.result - c.free_before-2.result ≡ among test c.args.p (c.args.q + 1 - c.args.p) =
    omega (arith, after, before, split test c.args.p c.args.q c.if-p-q.false) in
    within
    ∙ among-same test (is_free (landmarks_from c.self.inside.closed.items c.self.inside.current values)) c.args.p (c.args.q + 1 - c.args.p)
    (λ u low high. is_free-values u c.self.inside.closed.items c.self.inside.current [] values)
    ∙ ap (λ (state : LandmarksState). free state.landmarks c.args.p c.args.q) c.self.view_is
