use Rattle.ss_summary.specs.Points.{Point}
-- The values at times that pass a test and those at the other times, and what both tell of all of them.
use Rattle.std.specs.Prelude.{◌≡◌, ℕ, ◌+◌, Bool, true, false, not, if◌then◌else◌, ℤ, ◌+ℤ◌, ◌≤ℤ◌, List, [], ◌∷◌, ◌++◌, length, Contains}
use Rattle.std.specs.List.{filter, AllByRecursion}
use Rattle.std.proofs.Common.{ap, arith, refl, ◌∙◌}
use Rattle.std.proofs.lemmas.Int.{ints, clamps}
use Rattle.std.proofs.lemmas.List.{map-append}
use Rattle.std.proofs.lemmas.List.Elements.{filter-append, All-from_recursion, All-contains}
use Rattle.ss_summary.specs.Summaries.{least, greatest}
use Rattle.ss_summary.specs.Summaries as summaries
use Rattle.ss_bounds.specs.Truth.{values_alone, total, AllBetween}
use Rattle.ss_model.proofs.FoundLemmas.{each-append}
use Rattle.ss_laws.specs.Rebuilt.{at_time}

-- the values at times that pass a test, and those at the others
abbrev pub picked : (ℕ → Bool) → List Point → List ℤ
picked test values = values_alone (filter (λ p. test p.0) values)

abbrev pub left : (ℕ → Bool) → List Point → List ℤ
left test values = picked (λ t. not (test t)) values

pub picked-append : (test : ℕ → Bool) (xs ys : List Point) → picked test (xs ++ ys) ≡ picked test xs ++ picked test ys
picked-append test xs ys =
    ap values_alone (filter-append (λ p. test p.0) xs ys) ∙
    map-append (λ p. p.1) (filter (λ p. test p.0) xs) (filter (λ p. test p.0) ys)

pub picked-at_true : (test : ℕ → Bool) (t : ℕ) (vs : List ℤ) → test t ≡ true → picked test (at_time t vs) ≡ vs
picked-at_true test t [] is = refl
picked-at_true test t (v ∷ vs) is = rw is (ap (λ z. v ∷ z) (picked-at_true test t vs is))

pub picked-at_false : (test : ℕ → Bool) (t : ℕ) (vs : List ℤ) → test t ≡ false → picked test (at_time t vs) ≡ []
picked-at_false test t [] is = refl
picked-at_false test t (v ∷ vs) is = rw is (picked-at_false test t vs is)

-- both together are as many as all, and of the same sum
parted-next : (p : Point) (xs ys : List Point) (b : Bool)
    → (length (values_alone (if b then p ∷ xs else xs)) + length (values_alone (if not b then p ∷ ys else ys))
    ≡ 1 + (length (values_alone xs) + length (values_alone ys)))
    × ((total (values_alone (if b then p ∷ xs else xs)) +ℤ total (values_alone (if not b then p ∷ ys else ys)))
    ≡ (p.1 +ℤ (total (values_alone xs) +ℤ total (values_alone ys))))
parted-next p xs ys true = (omega arith, omega (arith, ints))
parted-next p xs ys false = (omega arith, omega (arith, ints))

pub picked-parts : (test : ℕ → Bool) (values : List Point)
    → (length (picked test values) + length (left test values) ≡ length values)
    × ((total (picked test values) +ℤ total (left test values)) ≡ summaries.total values)
picked-parts test [] = (refl, refl)
picked-parts test (p ∷ ps) =
    let rest = picked-parts test ps in
    let next = parted-next p (filter (λ q. test q.0) ps) (filter (λ q. not (test q.0)) ps) (test p.0) in
    (omega (arith, rest.0, next.0), omega (arith, ints, rest.1, next.1))

-- what holds of each of both holds of each of all, and the other way round
each-next : (P : ℤ → Type 0) (p : Point) (xs ys : List Point) (rest : List ℤ)
    → (AllByRecursion P (values_alone xs) → AllByRecursion P (values_alone ys) → AllByRecursion P rest) → (b : Bool)
    → AllByRecursion P (values_alone (if b then p ∷ xs else xs)) → AllByRecursion P (values_alone (if not b then p ∷ ys else ys))
    → P p.1 × AllByRecursion P rest
each-next P p xs ys rest later true in_them out = (in_them.0, later in_them.1 out)
each-next P p xs ys rest later false in_them out = (out.0, later in_them out.1)

pub each-from_parts : (P : ℤ → Type 0) (test : ℕ → Bool) (values : List Point)
    → AllByRecursion P (picked test values) → AllByRecursion P (left test values) → AllByRecursion P (values_alone values)
each-from_parts P test [] in_them out = tt
each-from_parts P test (p ∷ ps) in_them out =
    each-next P p (filter (λ q. test q.0) ps) (filter (λ q. not (test q.0)) ps) (values_alone ps) (each-from_parts P test ps) (test p.0) in_them out

each-kept : (P : ℤ → Type 0) (p : Point) (xs : List Point) (b : Bool) → P p.1 → AllByRecursion P (values_alone xs)
    → AllByRecursion P (values_alone (if b then p ∷ xs else xs))
each-kept P p xs true here rest = (here, rest)
each-kept P p xs false here rest = rest

each-picked : (P : ℤ → Type 0) (test : ℕ → Bool) (values : List Point) → AllByRecursion P (values_alone values) → AllByRecursion P (picked test values)
each-picked P test [] each = tt
each-picked P test (p ∷ ps) each = each-kept P p (filter (λ q. test q.0) ps) (test p.0) each.0 (each-picked P test ps each.1)

-- what holds of each value holds of one that occurs among both
holds-contained : (P : ℤ → Type 0) (test : ℕ → Bool) (values : List Point) (x : ℤ) → AllByRecursion P (values_alone values)
    → Contains (picked test values ++ left test values) x → P x
holds-contained P test values x each contained =
    All-contains P (picked test values ++ left test values) x
    (All-from_recursion P (picked test values ++ left test values)
    (each-append P (picked test values) (left test values) (each-picked P test values each) (each-picked P (λ t. not (test t)) values each)))
    contained

each-between : (m M : ℤ) (vs : List ℤ) → AllBetween m M vs → AllByRecursion (λ v. (m ≤ℤ v) × (v ≤ℤ M)) vs
each-between m M [] between = tt
each-between m M (v ∷ vs) between = ((between.0, between.1), each-between m M vs between.2)

-- the least of some values is at most each of them, and at least what each is
each-weaker : (P Q : ℤ → Type 0) (vs : List ℤ) → ((x : ℤ) → P x → Q x) → AllByRecursion P vs → AllByRecursion Q vs
each-weaker P Q [] weaker each = tt
each-weaker P Q (v ∷ vs) weaker each = (weaker v each.0, each-weaker P Q vs weaker each.1)

least-low : (p : Point) (ps : List Point) → AllByRecursion (λ x. least p.1 ps ≤ℤ x) (values_alone (p ∷ ps))
least-low p [] = (omega (arith, ints), tt)
least-low p (q ∷ qs) = (
  omega (arith, ints, clamps),
  each-weaker (λ x. least q.1 qs ≤ℤ x) (λ x. least p.1 (q ∷ qs) ≤ℤ x) (values_alone (q ∷ qs)) (λ x below. omega (arith, ints, clamps))
      (least-low q qs),
)

greatest-high : (p : Point) (ps : List Point) → AllByRecursion (λ x. x ≤ℤ greatest p.1 ps) (values_alone (p ∷ ps))
greatest-high p [] = (omega (arith, ints), tt)
greatest-high p (q ∷ qs) = (
  omega (arith, ints, clamps),
  each-weaker (λ x. x ≤ℤ greatest q.1 qs) (λ x. x ≤ℤ greatest p.1 (q ∷ qs)) (values_alone (q ∷ qs)) (λ x above. omega (arith, ints, clamps))
      (greatest-high q qs),
)

between-extremes : (m M : ℤ) (p : Point) (ps : List Point) → AllByRecursion (λ x. (m ≤ℤ x) × (x ≤ℤ M)) (values_alone (p ∷ ps))
    → (m ≤ℤ least p.1 ps) × (greatest p.1 ps ≤ℤ M)
between-extremes m M p [] each = each.0
between-extremes m M p (q ∷ qs) each =
    let rest = between-extremes m M q qs each.1 in
    let here = each.0 in
    (omega (arith, ints, clamps, rest.0, here.0), omega (arith, ints, clamps, rest.1, here.1))

-- the least and the greatest of all values are the ends of what each is between, where both occur
pub extremes-from_parts : (test : ℕ → Bool) (p : Point) (ps : List Point) (m M : ℤ)
    → AllBetween m M (picked test (p ∷ ps)) → AllBetween m M (left test (p ∷ ps))
    → Contains (picked test (p ∷ ps) ++ left test (p ∷ ps)) m → Contains (picked test (p ∷ ps) ++ left test (p ∷ ps)) M
    → (least p.1 ps ≡ m) × (greatest p.1 ps ≡ M)
extremes-from_parts test p ps m M in_them out has_least has_greatest =
    let each = each-from_parts (λ x. (m ≤ℤ x) × (x ≤ℤ M)) test (p ∷ ps) (each-between m M _ in_them) (each-between m M _ out) in
    let ends = between-extremes m M p ps each in
    let low : least p.1 ps ≤ℤ m = holds-contained (λ x. least p.1 ps ≤ℤ x) test (p ∷ ps) m (least-low p ps) has_least in
    let high : M ≤ℤ greatest p.1 ps = holds-contained (λ x. x ≤ℤ greatest p.1 ps) test (p ∷ ps) M (greatest-high p ps) has_greatest in
    (omega (arith, ints, low, ends.0), omega (arith, ints, high, ends.1))
