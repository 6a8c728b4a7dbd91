use Rattle.std.proofs.Common.{◌≡◌, ◌+◌, ◌-◌, ◌<◌, ◌≤◌, arith, rules, ltb, leb, ltb-true, leb-true}
use Rattle.std.proofs.lemmas.Bool.{ltb-false, leb-false}
use Rattle.std.proofs.lemmas.List.Sorted.{IsPartitionPoint-from_clause, IsPartitionedBy-leb, IsPartitionedBy-ltb}
use Rattle.ss_landmarks.specs.declared.stored.StoredValue.{StoredValue}
use Rattle.ss_landmarks.proofs.ValueLemmas.{filter-stored, stored-rise}
use Rattle.ss_landmarks.proofs.search.places_in.Goals as goal

pub returns-clause-values : goal.returns-clause-values
returns-clause-values c =
    let values = c.args.values.now in
    let a = c.args.a in
    let b = c.args.b in
    let rise = stored-rise values c.requires in
    let from = IsPartitionPoint-from_clause (λ (value : StoredValue). ltb value.t a) values _ c.partition_point-from.ensures.partitioned
    (IsPartitionedBy-ltb (λ (value : StoredValue). value.t) values a rise) (λ x r q k. search rules) in
    let to = IsPartitionPoint-from_clause (λ (value : StoredValue). leb value.t b) values _ c.partition_point-to.ensures.partitioned
    (IsPartitionedBy-leb (λ (value : StoredValue). value.t) values b rise) (λ x r q k. search rules) in
    let i = c.partition_point-from.result in
    let j = c.partition_point-to.result in
    let n = c.max.result - i in
    let last : (i + n ≡ c.max.result) × (j ≤ i + n) × (i ≤ i + n) = (omega (arith, c.max.ensures), omega (arith, c.max.ensures), omega arith) in
    filter-stored values c.requires a b i n (omega (arith, c.max.ensures, c.partition_point-from.ensures.bound, c.partition_point-to.ensures.bound))
    (λ k d lt. ltb-true _ _ (from.0 k d (omega arith) lt))
    (λ k d le lt. let below : k < j = omega (arith, c.max.ensures) in
    (ltb-false _ _ (from.1 k d le (omega (arith, below, c.partition_point-to.ensures.bound))), leb-true _ _ (to.0 k d (omega arith) below)))
    (λ k d le lt. leb-false _ _ (to.1 k d (omega (arith, c.max.ensures)) lt))
