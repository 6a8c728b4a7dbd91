-- What is checked of a certificate by runs, and what it says of their values.
use Rattle.std.specs.Prelude.{◌≡◌, ◌⊎◌, ℕ, zero, suc, ◌<◌, ◌≤◌, ℤ, ◌+ℤ◌, ◌≤ℤ◌, List, [], ◌∷◌, replicate, Contains}
use Rattle.std.proofs.Common.{ap, ap₂, arith, inl, inr, refl, subst, sym, ◌∙◌}
use Rattle.std.proofs.lemmas.List.{get_or-replicate, length-replicate}
use Rattle.std.proofs.lemmas.List.Elements.{All-cons, All-head, All-nil, All-tail, Contains-append_left, Contains-append_right, Contains-append_cases}
use Rattle.ss_bounds.specs.Truth.{AllBetween, total}
use Rattle.ss_model.specs.declared.types.Run.{Run}
use Rattle.ss_certify.specs.Checked.{Certifies, HasValues, IsOf, inside_of, outside_of, certified_values}
use Rattle.ss_certify.specs.Runs.{HaveValues, LieBetween, Occurs, run_total, values_of_runs}
use Rattle.ss_query.specs.declared.cut.Cut.{Cut}
use Rattle.ss_certify.specs.declared.evidence.Cert.{Cert}
use Rattle.ss_certify.proofs.BetweenLemmas.{between-append, between-first, between-last, between-replicate}
use Rattle.ss_certify.proofs.RunLemmas.{length-values_of_runs, total-append, total-values_of_runs}

-- runs and their values lie between m and M together
between-runs : (m M : ℤ) (runs : List Run) → LieBetween m M runs → AllBetween m M (values_of_runs runs)
between-runs m M [] lie = tt
between-runs m M (r ∷ rs) lie =
    let P : Run → Type 0 = λ run. (m ≤ℤ run.value) × (run.value ≤ℤ M) in
    let first = All-head P r rs lie in
    between-append m M (replicate r.times r.value) (values_of_runs rs)
    (between-replicate m M r.times r.value first.0 first.1) (between-runs m M rs (All-tail P r rs lie))

between-some : (m M : ℤ) (n : ℕ) (v : ℤ) → 1 ≤ n → AllBetween m M (replicate n v) → (m ≤ℤ v) × (v ≤ℤ M)
between-some m M zero v some between = absurd (omega arith)
between-some m M (suc n) v some between = (between.0, between.1)

runs-between : (m M : ℤ) (runs : List Run) → HaveValues runs → AllBetween m M (values_of_runs runs) → LieBetween m M runs
runs-between m M [] have between = All-nil (λ (run : Run). (m ≤ℤ run.value) × (run.value ≤ℤ M))
runs-between m M (r ∷ rs) have between =
    let P : Run → Type 0 = λ run. (m ≤ℤ run.value) × (run.value ≤ℤ M) in
    let H : Run → Type 0 = λ run. 1 ≤ run.times in
    let first = between-first m M (replicate r.times r.value) (values_of_runs rs) between in
    let last = between-last m M (replicate r.times r.value) (values_of_runs rs) between in
    All-cons P r rs (between-some m M r.times r.value (All-head H r rs have) first) (runs-between m M rs (All-tail H r rs have) last)

-- a value occurs in a run or later
occurs-cases : (v : ℤ) (r : Run) (rs : List Run) → Occurs v (r ∷ rs) → (r.value ≡ v) ⊎ Occurs v rs
occurs-cases v r rs (zero, x, below, same, is) = inl (ap (λ (run : Run). run.value) same ∙ is)
occurs-cases v r rs (suc k, x, below, same, is) = inr (k, x, omega arith, same, is)

occurs-first : (v : ℤ) (r : Run) (rs : List Run) → r.value ≡ v → Occurs v (r ∷ rs)
occurs-first v r rs is = (0, r, omega arith, refl, is)

occurs-later : (v : ℤ) (r : Run) (rs : List Run) → Occurs v rs → Occurs v (r ∷ rs)
occurs-later v r rs later = (suc later.0, later.1, omega (arith, later.2), later.3, later.4)

contains-replicate : (n : ℕ) (v : ℤ) → 1 ≤ n → Contains (replicate n v) v
contains-replicate zero v some = absurd (omega arith)
contains-replicate (suc n) v some = (0, omega arith, refl)

replicate-contains : (n : ℕ) (v w : ℤ) → Contains (replicate n v) w → v ≡ w
replicate-contains n v w found =
    let below : found.0 < n = omega (arith, found.1, length-replicate n v) in
    sym (get_or-replicate n found.0 v w below) ∙ found.2

-- runs with values and their values have the same ones
contains-occurs : (v : ℤ) (runs : List Run) → HaveValues runs → Occurs v runs → Contains (values_of_runs runs) v
contains-occurs v [] have found = absurd (omega (arith, found.2))
contains-occurs v (r ∷ rs) have found =
    let H : Run → Type 0 = λ run. 1 ≤ run.times in
    elim (occurs-cases v r rs found) [
      | inl here ↦
          Contains-append_left (replicate r.times r.value) (values_of_runs rs) v
          (subst (λ w. Contains (replicate r.times r.value) w) here (contains-replicate r.times r.value (All-head H r rs have)))
      | inr later ↦
          Contains-append_right (replicate r.times r.value) (values_of_runs rs) v (contains-occurs v rs (All-tail H r rs have) later)
    ]

occurs-contains : (v : ℤ) (runs : List Run) → Contains (values_of_runs runs) v → Occurs v runs
occurs-contains v [] found = absurd (omega (arith, found.1))
occurs-contains v (r ∷ rs) found = elim (Contains-append_cases (replicate r.times r.value) (values_of_runs rs) v found) [
  | inl here ↦ occurs-first v r rs (replicate-contains r.times r.value v here)
  | inr later ↦ occurs-later v r rs (occurs-contains v rs later)
]

module _ (v : ℤ) (c : Cert) where
  contains-either : HaveValues c.inside.items → HaveValues c.outside.items
      → Occurs v c.inside.items ⊎ Occurs v c.outside.items → Contains (certified_values c) v
  contains-either inside outside found = elim found [
    | inl here ↦ Contains-append_left (inside_of c) (outside_of c) v (contains-occurs v c.inside.items inside here)
    | inr there ↦ Contains-append_right (inside_of c) (outside_of c) v (contains-occurs v c.outside.items outside there)
  ]

  either-contains : Contains (certified_values c) v → Occurs v c.inside.items ⊎ Occurs v c.outside.items
  either-contains found = elim (Contains-append_cases (inside_of c) (outside_of c) v found) [
    | inl here ↦ inl (occurs-contains v c.inside.items here)
    | inr there ↦ inr (occurs-contains v c.outside.items there)
  ]

total-certified_values : (c : Cert) → total (certified_values c) ≡ (run_total c.inside.items +ℤ run_total c.outside.items)
total-certified_values c =
    total-append (inside_of c) (outside_of c)
    ∙ ap₂ (λ a b. a +ℤ b) (total-values_of_runs c.inside.items) (total-values_of_runs c.outside.items)

-- what is checked by runs is what is to be checked
pub Certifies-from_runs : (cut : Cut) (c : Cert) → IsOf cut c → HasValues cut.split c → Certifies cut c
Certifies-from_runs cut c of values =
    let s = cut.split in
    record {
      first = of.0.0;
      last = of.0.1;
      split = of.0.2;
      fewest = of.1.0;
      most = of.1.1;
      inside_runs = of.2.0;
      outside_runs = of.2.1;
      inside_count = length-values_of_runs c.inside.items ∙ of.2.2;
      outside_count = length-values_of_runs c.outside.items ∙ of.2.3;
      between = between-append s.min s.max (inside_of c) (outside_of c)
          (between-runs s.min s.max c.inside.items values.0.0) (between-runs s.min s.max c.outside.items values.0.1);
      least = contains-either s.min c of.2.0 of.2.1 values.1.0;
      greatest = contains-either s.max c of.2.0 of.2.1 values.1.1;
      sum = total-certified_values c ∙ values.2;
    }

pub IsOf-from_Certifies : (cut : Cut) (c : Cert) → Certifies cut c → IsOf cut c
IsOf-from_Certifies cut c certifies =
    let inside = sym (length-values_of_runs c.inside.items) ∙ certifies.inside_count in
    let outside = sym (length-values_of_runs c.outside.items) ∙ certifies.outside_count in (
      (certifies.first, certifies.last, certifies.split),
      (certifies.fewest, certifies.most),
      (certifies.inside_runs, certifies.outside_runs, inside, outside),
    )

pub HasValues-from_Certifies : (cut : Cut) (c : Cert) → Certifies cut c → HasValues cut.split c
HasValues-from_Certifies cut c certifies =
    let s = cut.split in (
      (
        runs-between s.min s.max c.inside.items certifies.inside_runs (between-first s.min s.max (inside_of c) (outside_of c) certifies.between),
        runs-between s.min s.max c.outside.items certifies.outside_runs (between-last s.min s.max (inside_of c) (outside_of c) certifies.between),
      ),
      (either-contains s.min c certifies.least, either-contains s.max c certifies.greatest),
      sym (total-certified_values c) ∙ certifies.sum,
    )
