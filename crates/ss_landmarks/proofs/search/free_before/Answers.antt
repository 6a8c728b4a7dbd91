use Rattle.std.proofs.Common.{arith, ◌≤◌, ◌-◌, ◌∙◌, sym, ap, IfSome, [], Option, ltb, ltb-true, get_or, rules, ◌<◌, length}
use Rattle.std.proofs.lemmas.Bool.{ltb-false}
use Rattle.std.proofs.lemmas.List.Sorted.{IsPartitionPoint-from_clause, IsPartitionedBy-ltb}
use Rattle.ss_landmarks.specs.declared.stored.Closed.{Closed}
use Rattle.ss_landmarks.specs.declared.stored.Opened.{Opened}
use Rattle.ss_landmarks.specs.Stored.{landmarks_from, free_before}
use Rattle.ss_landmarks.proofs.StoredLemmas.{free_before-none, free_before-last, free_before-open, Apart-rises}
use Rattle.ss_landmarks.specs.Free.{is_free}
use Rattle.ss_landmarks.proofs.Counting.{among-le}
use Rattle.ss_landmarks.proofs.search.free_before.Goals as goal
use Rattle.ss_landmarks.proofs.search.free_before.Goals.{in-Some+else-opened-t, in_default}

pub returns-then-opened-t : goal.returns-then-opened-t
returns-then-opened-t c =
    let cs = c.args.closed.now in
    let o = c.in-Some.opened in
    let known = rw c.in-Some.is at c.requires.opened in
    known ∙ sym (free_before-open cs o [] c.args.t c.if-opened-t.true) ∙
    ap (λ (current : Option Opened). free_before (landmarks_from cs current []) c.args.t) (sym c.in-Some.is)

nothing : Closed
nothing = record { start = 0; finish = 0; slot = 0; values = 0; free_before = 0 }

pub returns-then-begun-eq0 : goal.returns-then-begun-eq0
returns-then-begun-eq0 c =
    let cs = c.args.closed.now in
    let apart = c.requires.apart in
    let point = IsPartitionPoint-from_clause (λ (x : Closed). ltb x.start c.args.t) cs c.partition_point-begun.result
    c.partition_point-begun.ensures.partitioned
    (IsPartitionedBy-ltb (λ (x : Closed). x.start) cs c.args.t (Apart-rises 0 cs c.args.current.now apart)) (λ x r q k. search rules) in
    let later : IfSome c.args.current.now (λ o. c.args.t ≤ o.start) = elim c.match-current.branch [
      | in-Some+else-opened-t w ↦ rw w.in-Some.is (omega (arith, w.if-opened-t.false))
      | in_default w ↦ rw w.in_default.is tt
    ] in
    sym (free_before-none cs c.args.current.now [] c.args.t (λ k d lt. ltb-false _ _ (point.1 k d (omega arith) lt)) later)

pub overflow_add-last : goal.overflow_add-last
unfolding nothing
overflow_add-last c =
    let cs = c.args.closed.now in
    let apart = c.requires.apart in
    let i = c.partition_point-begun.result - 1 in
    let below : i < length cs = omega (arith, c.if-begun-eq0.false, c.partition_point-begun.ensures.bound) in
    omega (arith, (apart.ends i nothing below).1)

pub overflow_add-result : goal.overflow_add-result
unfolding nothing
overflow_add-result c =
    let cs = c.args.closed.now in
    let apart = c.requires.apart in
    let point = IsPartitionPoint-from_clause (λ (x : Closed). ltb x.start c.args.t) cs c.partition_point-begun.result
    c.partition_point-begun.ensures.partitioned
    (IsPartitionedBy-ltb (λ (x : Closed). x.start) cs c.args.t (Apart-rises 0 cs c.args.current.now apart)) (λ x r q k. search rules) in
    let i = c.partition_point-begun.result - 1 in
    let below : i < length cs = omega (arith, c.if-begun-eq0.false, c.partition_point-begun.ensures.bound) in
    let begun : (get_or cs i nothing).start < c.args.t = ltb-true _ _ (point.0 i nothing (omega arith) (omega (arith, c.if-begun-eq0.false))) in
    let test = is_free (landmarks_from cs c.args.current.now []) in
    let few : (get_or cs i nothing).free_before ≤ (get_or cs i nothing).start =
    rw (c.requires.closed i nothing below) (among-le test 0 (get_or cs i nothing).start) in
    omega (arith, few, begun, (apart.ends i nothing below).0, c.saturating_sub.ensures, c.ranges.t)

pub returns : goal.returns
unfolding nothing
returns c =
    let cs = c.args.closed.now in
    let apart = c.requires.apart in
    let point = IsPartitionPoint-from_clause (λ (x : Closed). ltb x.start c.args.t) cs c.partition_point-begun.result
    c.partition_point-begun.ensures.partitioned
    (IsPartitionedBy-ltb (λ (x : Closed). x.start) cs c.args.t (Apart-rises 0 cs c.args.current.now apart)) (λ x r q k. search rules) in
    let i = c.partition_point-begun.result - 1 in
    let below : i < length cs = omega (arith, c.if-begun-eq0.false, c.partition_point-begun.ensures.bound) in
    let begun : (get_or cs i nothing).start < c.args.t = ltb-true _ _ (point.0 i nothing (omega arith) (omega (arith, c.if-begun-eq0.false))) in
    let later : IfSome c.args.current.now (λ o. c.args.t ≤ o.start) = elim c.match-current.branch [
      | in-Some+else-opened-t w ↦ rw w.in-Some.is (omega (arith, w.if-opened-t.false))
      | in_default w ↦ rw w.in_default.is tt
    ] in
    let known = c.requires.closed i nothing below in
    let found = free_before-last cs c.args.current.now [] c.args.t 0 apart i nothing below
    (λ k e lt less. ltb-false _ _ (point.1 k e (omega arith) less)) (omega arith) later in
    omega (arith, known, found, c.saturating_sub.ensures)
