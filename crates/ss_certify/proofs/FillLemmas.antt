-- Values of which the number, the sum, the least and the greatest are given.
use Rattle.std.specs.Prelude.{◌≡◌, ℕ, zero, suc, ◌+◌, ◌-◌, ◌*◌, ◌/◌, ◌%◌, ◌<◌, ◌≤◌, ℤ, pos, ◌+ℤ◌, ◌-ℤ◌, ◌*ℤ◌, ◌≤ℤ◌}
use Rattle.std.specs.Prelude.{unsigned_abs, FitsSigned, List, [], ◌∷◌, ◌++◌, length, replicate, Contains}
use Rattle.std.proofs.Common.{ap, ap₂, arith, inl, inr, refl, subst, sym, ◌∙◌}
use Rattle.std.proofs.Math.Nat.{mul-le-mul, zero-div, zero-mod}
use Rattle.std.proofs.lemmas.Bool.{cases_lt}
use Rattle.std.specs.Int.{w64, w128}
use Rattle.std.proofs.lemmas.Int.{ints, to_z-of_z}
use Rattle.std.proofs.lemmas.List.{length-append}
use Rattle.std.proofs.lemmas.List.Elements.{Contains-append_right}
use Rattle.ss_bounds.specs.Truth.{AllBetween}
use Rattle.ss_certify.specs.Fill.{Fills, RiseBetween, fill, filled, raised, run, run_before}
use Rattle.ss_certify.specs.Runs.{values_of_runs, run_count, run_total}
use Rattle.ss_model.specs.declared.types.Run.{Run}
use Rattle.ss_bounds.proofs.Held.{held, held64}
use Rattle.ss_bounds.proofs.Numbers.{minus-times, times-minus}
use Rattle.ss_certify.proofs.BetweenLemmas.{between-append, between-lower, between-replicate}
use Rattle.ss_certify.proofs.RunLemmas.{length-values_of_runs, total-values_of_runs}

-- a run that is left out where it has no value
count-before : (v : ℤ) (n : ℕ) (rs : List Run) → run_count (run_before v n rs) ≡ n + run_count rs
count-before v zero rs = omega arith
count-before v (suc n) rs = refl

total-before : (v : ℤ) (n : ℕ) (rs : List Run) → run_total (run_before v n rs) ≡ ((pos n *ℤ v) +ℤ run_total rs)
total-before v zero rs = omega (arith, ints)
total-before v (suc n) rs = refl

few-before : (v : ℤ) (n k : ℕ) (rs : List Run) → length rs ≤ k → length (run_before v n rs) ≤ k + 1
few-before v zero k rs few = omega arith
few-before v (suc n) k rs few = omega arith

-- what rises from a value on rises from a lesser one on
rising-lower : (m n M : ℤ) (rs : List Run) → m ≤ℤ n → RiseBetween n M rs → RiseBetween m M rs
rising-lower m n M [] lower rising = tt
rising-lower m n M (r ∷ rs) lower rising = (omega (arith, ints, rising.0), rising.1, rising.2, rising.3)

rising-before : (m M v : ℤ) (n : ℕ) (rs : List Run) → m ≤ℤ v → v ≤ℤ M → RiseBetween (v +ℤ pos 1) M rs
    → RiseBetween m M (run_before v n rs)
rising-before m M v zero rs low high rising = rising-lower m (v +ℤ pos 1) M rs (omega (arith, ints)) rising
rising-before m M v (suc n) rs low high rising = (low, high, omega arith, rising)

-- the values of runs that rise
between-rising : (m M : ℤ) (rs : List Run) → RiseBetween m M rs → AllBetween m M (values_of_runs rs)
between-rising m M [] rising = tt
between-rising m M (r ∷ rs) rising =
    between-append m M (replicate r.times r.value) (values_of_runs rs) (between-replicate m M r.times r.value rising.0 rising.1)
    (between-lower m (r.value +ℤ pos 1) M (values_of_runs rs) (omega (arith, ints, rising.0)) (between-rising (r.value +ℤ pos 1) M rs rising.3))

-- runs in order, with their number and sum, are as asked for
Fills-from_runs : (k : ℕ) (s m M : ℤ) (rs : List Run) → length rs ≤ 3 → RiseBetween m M rs → run_count rs ≡ k → run_total rs ≡ s → Fills k s m M rs
Fills-from_runs k s m M rs few rising count sum = record {
  few = few;
  rising = rising;
  count = length-values_of_runs rs ∙ count;
  sum = total-values_of_runs rs ∙ sum;
  between = between-rising m M rs rising;
}

-- most times M, and one value more where there is a rest, are no more than k values
abbrev HaveRoom : ℕ → ℕ → ℕ → Type 0
HaveRoom k most zero = most ≤ k
HaveRoom k most (suc rest) = most + 1 ≤ k

HaveRoom-from_parts : (k most rest above apart : ℕ) → above ≡ most * apart + rest → rest < apart → above ≤ k * apart → HaveRoom k most rest
HaveRoom-from_parts k most zero above apart parts less within = elim (cases_lt k most) [
  | inl over ↦ absurd (
      let over : k + 1 ≤ most = omega arith in
      let same : apart ≤ apart = omega arith in
      let scaled : (k + 1) * apart ≤ most * apart = mul-le-mul over same in
      omega arith)
  | inr fits ↦ fits
]
HaveRoom-from_parts k most (suc rest) above apart parts less within = elim (cases_lt most k) [
  | inl fits ↦ omega arith
  | inr over ↦ absurd (let scaled : k * apart ≤ most * apart = mul-le-mul over (omega arith) in omega arith)
]

room-parts : (k most rest : ℕ) → HaveRoom k most rest → (most ≤ k) × (0 < rest → most < k)
room-parts k most zero room = (room, λ more. absurd (omega arith))
room-parts k most (suc rest) room = (omega arith, λ more. omega arith)

-- k values, as runs
module _ (k : ℕ) (m M : ℤ) (apart : ℕ) (more : 0 < apart) (apart_is : pos apart ≡ (M -ℤ m)) (most : ℕ) where
  greatest-times : (pos most *ℤ M) ≡ ((pos most *ℤ m) +ℤ pos (most * apart))
  greatest-times =
      let parts = times-minus most M m in
      let same = ap (λ z. pos most *ℤ z) apart_is in
      omega (arith, ints)

  Fills-raised : (rest : ℕ) → rest < apart → HaveRoom k most rest
      → Fills k ((pos k *ℤ m) +ℤ pos (most * apart + rest)) m M (raised k m M most rest)
  Fills-raised zero less room =
      let last = run_before M most [] in
      let rising = rising-before (m +ℤ pos 1) M M most [] (omega (arith, ints)) (omega (arith, ints)) tt in
      let least = minus-times k most m room in
      let greatest = greatest-times in
      let count = count-before M most [] in
      let sum = total-before M most [] in
      Fills-from_runs _ _ m M (raised k m M most zero)
      (few-before m (k - most) 2 last (omega (arith, few-before M most 0 [] (omega arith))))
      (rising-before m M m (k - most) last (omega (arith, ints)) (omega (arith, ints)) rising)
      (count-before m (k - most) last ∙ omega arith)
      (total-before m (k - most) last ∙ omega (arith, ints))
  Fills-raised (suc rest) less room =
      let last = run_before M most [] in
      let middle = run (m +ℤ pos (suc rest)) 1 ∷ last in
      let rising = rising-before (m +ℤ pos (suc rest) +ℤ pos 1) M M most [] (omega (arith, ints)) (omega (arith, ints)) tt in
      let least = minus-times k (most + 1) m room in
      let greatest = greatest-times in
      let count = count-before M most [] in
      let sum = total-before M most [] in
      let fewer : k - most - 1 ≡ k - (most + 1) = omega arith in
      Fills-from_runs _ _ m M (raised k m M most (suc rest))
      (few-before m (k - most - 1) 2 middle (omega (arith, few-before M most 0 [] (omega arith))))
      (rising-before m M m (k - most - 1) middle (omega (arith, ints)) (omega (arith, ints)) (omega (arith, ints), omega (arith, ints), omega arith, rising))
      (count-before m (k - most - 1) middle ∙ omega arith)
      (total-before m (k - most - 1) middle ∙ rw fewer (omega (arith, ints)))

-- what the least k values are short of
Fills-filled : (k above : ℕ) (m M : ℤ) (apart : ℕ) → 1 ≤ k → pos apart ≡ (M -ℤ m) → above ≤ k * apart
    → Fills k ((pos k *ℤ m) +ℤ pos above) m M (filled k above m M apart)
Fills-filled k above m M zero some apart_is within =
    Fills-from_runs _ _ m M (run m k ∷ []) (omega arith) (omega (arith, ints), omega (arith, ints), some, tt) (omega arith) (omega (arith, ints))
Fills-filled k above m M (suc apart) some apart_is within =
    let parts : above ≡ above / suc apart * suc apart + above % suc apart = omega arith in
    let less : above % suc apart < suc apart = omega arith in
    let room = HaveRoom-from_parts k (above / suc apart) (above % suc apart) above (suc apart) parts less within in
    let raised_is = raised k m M (above / suc apart) (above % suc apart) in
    subst (λ z. Fills k ((pos k *ℤ m) +ℤ pos z) m M raised_is) (sym parts)
    (Fills-raised k m M (suc apart) (omega arith) apart_is (above / suc apart) (above % suc apart) less room)

pub Fills-fill : (k : ℕ) (s m M : ℤ) → m ≤ℤ M → (pos k *ℤ m) ≤ℤ s → s ≤ℤ (pos k *ℤ M) → Fills k s m M (fill k s m M)
unfolding fill
Fills-fill zero s m M order low high = Fills-from_runs zero s m M [] (omega arith) tt refl (omega (arith, ints))
Fills-fill (suc k) s m M order low high =
    let above = unsigned_abs (s -ℤ (pos (suc k) *ℤ m)) in
    let apart = unsigned_abs (M -ℤ m) in
    let apart_is : pos apart ≡ (M -ℤ m) = omega (arith, ints) in
    let parts = times-minus (suc k) M m in
    let same = ap (λ z. pos (suc k) *ℤ z) apart_is in
    let within : above ≤ suc k * apart = omega (arith, ints) in
    let sum : ((pos (suc k) *ℤ m) +ℤ pos above) ≡ s = omega (arith, ints) in
    subst (λ z. Fills (suc k) z m M (filled (suc k) above m M apart)) sum (Fills-filled (suc k) above m M apart (omega arith) apart_is within)

-- runs as the code adds them, one after another
pub before-append : (v : ℤ) (n : ℕ) (rs : List Run) → run_before v n [] ++ rs ≡ run_before v n rs
before-append v zero rs = refl
before-append v (suc n) rs = refl

before-some : (v : ℤ) (n : ℕ) → 0 < n → run_before v n [] ≡ run v n ∷ []
before-some v zero some = absurd (omega arith)
before-some v (suc n) some = refl

pub raised-rest : (k : ℕ) (m M : ℤ) (most rest : ℕ) → 0 < rest
    → raised k m M most rest ≡ run_before m (k - most - 1) (run (m +ℤ pos rest) 1 ∷ run_before M most [])
raised-rest k m M most zero more = absurd (omega arith)
raised-rest k m M most (suc rest) more = refl

pub filled-apart : (k above : ℕ) (m M : ℤ) (apart : ℕ) → 0 < apart → filled k above m M apart ≡ raised k m M (above / apart) (above % apart)
filled-apart k above m M zero more = absurd (omega arith)
filled-apart k above m M (suc apart) more = refl

-- no values, and values where the least is the greatest or isn't, as the code makes them
pub fill-one_value : (k : ℕ) (s m M : ℤ) → unsigned_abs (M -ℤ m) ≡ 0 → run_before m k [] ≡ fill k s m M
unfolding fill
fill-one_value zero s m M same = refl
fill-one_value (suc k) s m M same =
    let above = unsigned_abs (s -ℤ (pos (suc k) *ℤ m)) in
    sym (ap (filled (suc k) above m M) same)

pub fill-raised : (k : ℕ) (s m M : ℤ) (above apart : ℕ) → apart ≡ unsigned_abs (M -ℤ m) → above ≡ unsigned_abs (s -ℤ (pos k *ℤ m)) → 0 < apart
    → (pos k *ℤ m) ≤ℤ s → s ≤ℤ (pos k *ℤ M) → raised k m M (above / apart) (above % apart) ≡ fill k s m M
unfolding fill
fill-raised zero s m M above apart apart_is above_is more low high =
    let none : above ≡ 0 = omega (arith, ints) in
    let most : 0 / apart ≡ 0 = zero-div apart in
    let rest : 0 % apart ≡ 0 = zero-mod apart in
    rw (none, most, rest) refl
fill-raised (suc k) s m M above apart apart_is above_is more low high =
    sym (filled-apart (suc k) above m M apart more) ∙ ap₂ (λ a b. filled (suc k) a m M b) above_is apart_is

pub have_room : (k : ℕ) (s m M : ℤ) (above apart : ℕ) → apart ≡ unsigned_abs (M -ℤ m) → above ≡ unsigned_abs (s -ℤ (pos k *ℤ m)) → 0 < apart
    → m ≤ℤ M → (pos k *ℤ m) ≤ℤ s → s ≤ℤ (pos k *ℤ M) → (above / apart ≤ k) × (0 < above % apart → above / apart < k)
have_room k s m M above apart apart_is above_is more order low high =
    let same : pos apart ≡ (M -ℤ m) = omega (arith, ints) in
    let scaled = ap (λ z. pos k *ℤ z) same in
    let parts = times-minus k M m in
    let within : above ≤ k * apart = omega (arith, ints) in
    room-parts k (above / apart) (above % apart)
    (HaveRoom-from_parts k (above / apart) (above % apart) above apart (omega arith) (omega arith) within)

-- what the code computes of how far the greatest value is above the least, and the sum above that of the least alone
pub computed-apart : (m M : ℤ) (made apart : ℕ) → FitsSigned w64 m → FitsSigned w64 M → made ≡ unsigned_abs (held64 M -ℤ held64 m)
    → apart ≡ made → apart ≡ unsigned_abs (M -ℤ m)
computed-apart m M made apart m_fits M_fits made_is apart_is =
    apart_is ∙ made_is ∙ ap₂ (λ a b. unsigned_abs (a -ℤ b)) (to_z-of_z w64 M M_fits) (to_z-of_z w64 m m_fits)

pub computed-above : (k : ℕ) (s m : ℤ) (above : ℕ) → FitsSigned w128 s → FitsSigned w64 m
    → above ≡ unsigned_abs (held s -ℤ (pos k *ℤ held64 m)) → above ≡ unsigned_abs (s -ℤ (pos k *ℤ m))
computed-above k s m above s_fits m_fits above_is =
    above_is ∙ ap₂ (λ a b. unsigned_abs (a -ℤ (pos k *ℤ b))) (to_z-of_z w128 s s_fits) (to_z-of_z w64 m m_fits)

-- a value of the runs
contains-before : (v : ℤ) (n : ℕ) (rs : List Run) → 0 < n → Contains (values_of_runs (run_before v n rs)) v
contains-before v zero rs more = absurd (omega arith)
contains-before v (suc n) rs more = (0, omega (arith, length-append (replicate (suc n) v) (values_of_runs rs)), refl)

contains-later : (v w : ℤ) (n : ℕ) (rs : List Run) → Contains (values_of_runs rs) w → Contains (values_of_runs (run_before v n rs)) w
contains-later v w zero rs later = later
contains-later v w (suc n) rs later = Contains-append_right (replicate (suc n) v) (values_of_runs rs) w later

least-raised : (j : ℕ) (m M : ℤ) (most rest : ℕ) → HaveRoom j most rest → Contains (values_of_runs (raised (suc j) m M most rest)) m
least-raised j m M most zero room = contains-before m (suc j - most) (run_before M most []) (omega arith)
least-raised j m M most (suc rest) room =
    contains-before m (suc j - most - 1) (run (m +ℤ pos (suc rest)) 1 ∷ run_before M most []) (omega arith)

greatest-raised : (k : ℕ) (m M : ℤ) (most rest : ℕ) → 0 < most → Contains (values_of_runs (raised k m M most rest)) M
greatest-raised k m M most zero more = contains-later m M (k - most) (run_before M most []) (contains-before M most [] more)
greatest-raised k m M most (suc rest) more =
    let last = run_before M most [] in
    contains-later m M (k - most - 1) (run (m +ℤ pos (suc rest)) 1 ∷ last)
    (contains-later (m +ℤ pos (suc rest)) M 1 last (contains-before M most [] more))

least-filled : (j above : ℕ) (m M : ℤ) (apart : ℕ) → above ≤ j * apart → Contains (values_of_runs (filled (suc j) above m M apart)) m
least-filled j above m M zero within = contains-before m (suc j) [] (omega arith)
least-filled j above m M (suc apart) within =
    least-raised j m M (above / suc apart) (above % suc apart)
    (HaveRoom-from_parts j (above / suc apart) (above % suc apart) above (suc apart) (omega arith) (omega arith) within)

some-times : (above apart : ℕ) → apart < above + 1 → 0 < apart → 0 < above / apart
some-times above apart within more = elim (cases_lt 0 (above / apart)) [
  | inl some ↦ some
  | inr none ↦ absurd (let zero_is : above / apart ≡ 0 = omega arith in let less : above % apart < apart = omega arith in
      let parts : above ≡ above / apart * apart + above % apart = omega arith in
      let parts = rw zero_is at parts in omega arith)
]

greatest-filled : (k above : ℕ) (m M : ℤ) (apart : ℕ) → 0 < k → pos apart ≡ (M -ℤ m) → apart ≤ above
    → Contains (values_of_runs (filled k above m M apart)) M
greatest-filled k above m M zero some apart_is within =
    let same : m ≡ M = omega (arith, ints) in
    subst (λ v. Contains (values_of_runs (run m k ∷ [])) v) same
    (subst (λ rs. Contains (values_of_runs rs) m) (before-some m k some) (contains-before m k [] some))
greatest-filled k above m M (suc apart) some apart_is within =
    greatest-raised k m M (above / suc apart) (above % suc apart) (some-times above (suc apart) (omega arith) (omega arith))

-- the least and the greatest are among the values, where the others leave room for them
pub least-fill : (j : ℕ) (s m M : ℤ) → m ≤ℤ M → (pos (suc j) *ℤ m) ≤ℤ s → s ≤ℤ (m +ℤ (pos j *ℤ M)) → Contains (values_of_runs (fill (suc j) s m M)) m
unfolding fill
least-fill j s m M order low high =
    let above = unsigned_abs (s -ℤ (pos (suc j) *ℤ m)) in
    let apart = unsigned_abs (M -ℤ m) in
    let apart_is : pos apart ≡ (M -ℤ m) = omega (arith, ints) in
    let parts = times-minus j M m in
    let same = ap (λ z. pos j *ℤ z) apart_is in
    let within : above ≤ j * apart = omega (arith, ints) in
    least-filled j above m M apart within

pub greatest-fill : (j : ℕ) (s m M : ℤ) → m ≤ℤ M → (M +ℤ (pos j *ℤ m)) ≤ℤ s → Contains (values_of_runs (fill (suc j) s m M)) M
unfolding fill
greatest-fill j s m M order low =
    let above = unsigned_abs (s -ℤ (pos (suc j) *ℤ m)) in
    let apart = unsigned_abs (M -ℤ m) in
    let apart_is : pos apart ≡ (M -ℤ m) = omega (arith, ints) in
    let within : apart ≤ above = omega (arith, ints) in
    greatest-filled (suc j) above m M apart (omega arith) apart_is within
