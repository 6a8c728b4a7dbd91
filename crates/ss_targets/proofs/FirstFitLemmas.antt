-- The next window that is long enough, and first fits, over any sequence of window lengths.
use Rattle.std.proofs.Common.{ℕ, zero, suc, ◌≡◌, ◌+◌, ◌-◌, ◌<◌, ◌≤◌, inl, inr, Option, Some, None, IfSome, sym, ◌∙◌, add-one, arith}
use Rattle.std.proofs.lemmas.Bool.{cases_lt}
use Rattle.ss_targets.specs.Windowing.{cut, Holds, window_index, ArePositive, NeverFall, Fits}
use Rattle.ss_targets.specs.FirstFit.{IsWindow, IsFirstOfLength, FindsOfLength, NoneOfLength, IsFirstFit}
use Rattle.ss_targets.specs.declared.decay.Spot.{Spot}
use Rattle.ss_base.specs.declared.limits.TheConstants.{MOST_VALUES}
use Rattle.ss_targets.proofs.WindowingLemmas.{cut-monotone, window_index-holds, holds-window_index}
use Rattle.ss_targets.specs.WindowingLaws.{window_index-monotone}

-- no window is shorter than an earlier one
pub lengths-monotone : (len : ℕ → ℕ) (i j : ℕ) → NeverFall len → i ≤ j → len i ≤ len j
lengths-monotone len i zero never order = let same : i ≡ 0 = omega arith in rw same (omega arith)
lengths-monotone len i (suc j) never order = elim (cases_lt j i) [
  | inl late ↦ (let same : i ≡ suc j = omega arith in rw same (omega arith))
  | inr early ↦
      (let before = lengths-monotone len i j never early in
      let step = rw add-one at (never j) in
      omega arith)
]

-- the window that begins where another ends is the one after it
index-after : (len : ℕ → ℕ) (i k : ℕ) → ArePositive len → Holds len k (cut len i + len i) → k ≡ i + 1
index-after len i k full holds =
    let after : Holds len (suc i) (cut len i + len i) = record { start = omega arith; end = omega (arith, full (suc i)) } in
    rw add-one (sym (window_index-holds len k _ full holds) ∙ window_index-holds len (suc i) _ full after)

module _ {len : ℕ → ℕ} {spot next : Spot} (full : ArePositive len) (at : IsWindow len spot)
    (holds : Holds len next.index (spot.start + spot.len)) (window : IsWindow len next) where
  next-index : next.index ≡ spot.index + 1
  next-index = index-after len spot.index next.index full (rw (at.start, at.len) at holds)

  -- the window after it is the next one where it is long enough
  pub FindsOfLength-next : (wanted : ℕ) → spot.start + spot.len ≤ MOST_VALUES → wanted ≤ next.len → FindsOfLength len (spot.index + 1) wanted next
  FindsOfLength-next wanted early long = record {
    window = window;
    first = record {
      reached = omega (arith, next-index);
      long = omega (arith, window.len);
      least = λ j after enough. omega (arith, next-index);
    };
    early = omega (arith, holds.start, window.start);
  }

  -- and where it isn't, no window up to it is
  FindsOfLength-skip : (wanted : ℕ) (found : Spot) → NeverFall len → next.len < wanted → FindsOfLength len 0 wanted found →
      FindsOfLength len (spot.index + 1) wanted found
  FindsOfLength-skip wanted found never short finds = record {
    window = finds.window;
    first = record {
      reached = elim (cases_lt found.index (spot.index + 1)) [
        | inl before ↦ absurd
            (omega (arith, next-index, window.len, finds.first.long, lengths-monotone len found.index next.index never (omega (arith, next-index))))
        | inr after ↦ after
      ];
      long = finds.first.long;
      least = λ j after enough. finds.first.least j (omega arith) enough;
    };
    early = finds.early;
  }

  pub IfSome-skip : (wanted : ℕ) (found : Option Spot) → NeverFall len → next.len < wanted → IfSome found (FindsOfLength len 0 wanted) →
      IfSome found (FindsOfLength len (spot.index + 1) wanted)
  IfSome-skip wanted None never short finds = tt
  IfSome-skip wanted (Some spot') never short finds = FindsOfLength-skip wanted spot' never short finds

-- where the window after it begins past the greatest age, so does each later one
pub NoneOfLength-last : (len : ℕ → ℕ) (spot : Spot) (wanted : ℕ) → IsWindow len spot → MOST_VALUES < spot.start + spot.len →
    NoneOfLength len (spot.index + 1) wanted
NoneOfLength-last len spot wanted at past j after enough =
    omega (arith, at.start, at.len, cut-monotone len (suc spot.index) j (omega arith))

-- positions that fit now first fit now
pub IsFirstFit-now : (len : ℕ → ℕ) (l r n : ℕ) → Fits len l r n → IsFirstFit len l r n n
IsFirstFit-now len l r n now = record { reached = omega arith; fits = now; least = λ k later fits. later }

-- positions that do not fit now fit later only in a later window, which is long enough
long-later : (len : ℕ → ℕ) (l r n m i : ℕ) → ArePositive len → l ≤ r → r ≤ n → (Fits len l r n → ⊥) → n ≤ m →
    cut len i ≤ m - r → m - l < cut len i + len i → (window_index len (n - r) + 1 ≤ i) × (r - l + 1 ≤ len i)
long-later len l r n m i full order taken unfit later begun ends =
    let newest = holds-window_index len (n - r) full in
    let same_window = window_index-holds len i (m - r) full (record { start = begun; end = omega arith }) in
    let no_younger = window_index-monotone len (n - r) (m - r) (omega arith) in
    elim (cases_lt (window_index len (n - r)) i) [
      | inl after ↦ (omega arith, omega arith)
      | inr same ↦
          (let one : window_index len (n - r) ≡ i = omega arith in
          absurd (unfit (i, (rw one at newest).start, omega arith)))
    ]

-- positions that do not fit now first fit where the least later window that is long enough holds the newest of them first
pub IsFirstFit-later : (len : ℕ → ℕ) (l r n k : ℕ) → ArePositive len → l ≤ r → r ≤ n → (Fits len l r n → ⊥) →
    IsFirstOfLength len (window_index len (n - r) + 1) (r - l + 1) k → IsFirstFit len l r n (r + cut len k)
IsFirstFit-later len l r n k full order taken unfit next =
    let newest = holds-window_index len (n - r) full in
    let after = cut-monotone len (suc (window_index len (n - r))) k (omega (arith, next.reached)) in
    record {
      reached = omega (arith, newest.end);
      fits = (k, omega arith, omega (arith, next.long));
      least = λ m later fits.
          (let long = long-later len l r n m fits.0 full order taken unfit later fits.1 fits.2 in
          omega (arith, cut-monotone len k fits.0 (next.least fits.0 long.0 long.1)));
    }

-- and where no later window is long enough, they never fit
pub Fits-never : (len : ℕ → ℕ) (l r n m : ℕ) → ArePositive len → l ≤ r → r ≤ n → (Fits len l r n → ⊥) →
    ((k : ℕ) → window_index len (n - r) < k → len k < r - l + 1) → n ≤ m → Fits len l r m → ⊥
Fits-never len l r n m full order taken unfit none later fits =
    let long = long-later len l r n m fits.0 full order taken unfit later fits.1 fits.2 in
    omega (arith, none fits.0 (omega (arith, long.0)), long.1)

-- where each later window that is long enough begins past an age, they fit at no count up to that age
pub Fits-past : (len : ℕ → ℕ) (l r n m most : ℕ) → ArePositive len → l ≤ r → r ≤ n → (Fits len l r n → ⊥) →
    ((k : ℕ) → window_index len (n - r) + 1 ≤ k → r - l + 1 ≤ len k → most < r + cut len k) → n ≤ m → Fits len l r m → most < m
Fits-past len l r n m most full order taken unfit none later fits =
    let long = long-later len l r n m fits.0 full order taken unfit later fits.1 fits.2 in
    omega (arith, none fits.0 long.0 long.1)
