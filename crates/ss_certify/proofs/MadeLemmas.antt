-- The evidence that is made shows the end that is asked for.
use Rattle.std.specs.Prelude.{◌≡◌, ℕ, zero, suc, ◌+◌, ◌-◌, ◌<◌, ◌≤◌, Bool, true, false, ℤ, pos, ◌+ℤ◌, ◌-ℤ◌, ◌≤ℤ◌, List, []}
use Rattle.std.specs.Prelude.{◌∷◌, ◌++◌, map, Contains, Option, None, Some, IfSome}
use Rattle.std.specs.Option.{option_map}
use Rattle.std.proofs.Common.{ap, arith, inl, inr, refl, sym, ◌∙◌}
use Rattle.std.proofs.lemmas.Int.{ints}
use Rattle.std.proofs.lemmas.List.Elements.{All-cons, All-nil, Contains-append_left, Contains-append_right}
use Rattle.ss_bounds.specs.declared.fraction.Fraction.{Fraction}
use Rattle.ss_bounds.specs.Extremes.{listed}
use Rattle.ss_bounds.specs.Fractions.{lowest}
use Rattle.ss_bounds.specs.Guess.{AreAllSplit}
use Rattle.ss_bounds.specs.MeanAttained.{lowest_mean}
use Rattle.ss_bounds.specs.Means.{greatest_mean, least_mean, mean_from, mean_interval, so_many, with_values}
use Rattle.ss_bounds.specs.Parted.{CanBeParted, CanHoldGreatest, CanHoldLeast, CanMake}
use Rattle.ss_bounds.specs.Split.{IsSplit, SplitFigures, greatest_count, least_count}
use Rattle.ss_bounds.specs.Truth.{total}
use Rattle.ss_bounds.proofs.AttainedLemmas.{greatest_count-few, greatest_sum_at-first, least_sum_at-first}
use Rattle.ss_bounds.proofs.MeanAttainedLemmas.{AreBoth, both-ends, greatest_mean_at-attains, least_mean_at-attains}
use Rattle.ss_bounds.proofs.PartedLemmas.{CanBeParted-high_sum, CanBeParted-low_sum}
use Rattle.ss_catalog.specs.Queries.{is_certified}
use Rattle.ss_catalog.specs.declared.query.End.{End}
use Rattle.ss_catalog.specs.declared.query.End.TheVariants.{Lo, Hi}
use Rattle.ss_catalog.specs.declared.query.Kind.{Kind}
use Rattle.ss_catalog.specs.declared.query.Kind.TheVariants.{Count, Sum, Min, Max, Mean, Has, CountGuess, SumGuess, MeanGuess}
use Rattle.ss_model.specs.declared.types.Run.{Run}
use Rattle.ss_query.specs.Asked.{HasCuts, IsCut, counts_of, figures_of, outcome_seen, sums_of, values_seen}
use Rattle.ss_query.specs.declared.asking.Seen.{Seen}
use Rattle.ss_query.specs.declared.cut.Cut.{Cut}
use Rattle.ss_certify.specs.Checked.{Certifies, inside_of, outside_of}
use Rattle.ss_certify.specs.Evidence.{AllCertify, IsEvidence, answer_from, certified, cuts_of, end_asked, mean_end, with_certified}
use Rattle.ss_certify.specs.Fill.{Fills, RiseBetween, fill}
use Rattle.ss_certify.specs.Made.{attaining, certificate_of, certificate_with, certificates_of, evidence_of, inside_sum}
use Rattle.ss_certify.specs.Runs.{HaveValues, values_of_runs}
use Rattle.ss_certify.specs.declared.evidence.Answer.TheVariants as answers
use Rattle.ss_certify.proofs.BetweenLemmas.{between-append}
use Rattle.ss_certify.proofs.FillLemmas.{Fills-fill, greatest-fill, least-fill}
use Rattle.ss_certify.proofs.RunLemmas.{total-append}

-- runs that rise have values
HaveValues-rising : (m M : ℤ) (runs : List Run) → RiseBetween m M runs → HaveValues runs
HaveValues-rising m M [] rising = All-nil (λ (run : Run). 1 ≤ run.times)
HaveValues-rising m M (r ∷ rs) rising =
    All-cons (λ (run : Run). 1 ≤ run.times) r rs rising.2 (HaveValues-rising (r.value +ℤ pos 1) M rs rising.3)

-- values that can hold the least or the greatest do
Contains-least : (m M : ℤ) (k : ℕ) (v : ℤ) → m ≤ℤ M → CanMake m M k v → CanHoldLeast m M k v → Contains (values_of_runs (fill k v m M)) m
Contains-least m M zero v order can hold = absurd (omega (arith, hold.some))
Contains-least m M (suc j) v order can hold =
    let one : suc j - 1 ≡ j = omega arith in
    least-fill j v m M order can.low (rw one at hold.high)

Contains-greatest : (m M : ℤ) (k : ℕ) (v : ℤ) → m ≤ℤ M → CanHoldGreatest m M k v → Contains (values_of_runs (fill k v m M)) M
Contains-greatest m M zero v order hold = absurd (omega (arith, hold.some))
Contains-greatest m M (suc j) v order hold =
    let one : suc j - 1 ≡ j = omega arith in
    greatest-fill j v m M order (rw one at hold.low)

-- the number that attains an end may lie in the range, and the values can be parted with it
attaining-between : (kind : Kind) (end : End) (known : Fraction) (s : SplitFigures) (rest : List SplitFigures) → IsSplit s → AreAllSplit rest
    → (least_count s ≤ attaining kind end known s rest) × (attaining kind end known s rest ≤ greatest_count s)
attaining-between Sum Lo known s rest split others = let first = (least_sum_at-first s split).0 in (first.from, first.to)
attaining-between Sum Hi known s rest split others = let first = (greatest_sum_at-first s split).0 in (first.from, first.to)
attaining-between Mean Lo known s rest split others = let at = least_mean_at-attains known s rest (split, others) in (at.from, at.to)
attaining-between Mean Hi known s rest split others = let at = greatest_mean_at-attains known s rest (split, others) in (at.from, at.to)
attaining-between Count Lo known s rest split others = let room = split.room in (omega arith, omega arith)
attaining-between Count Hi known s rest split others = let room = split.room in (omega arith, omega arith)
attaining-between Min Lo known s rest split others = let room = split.room in (omega arith, omega arith)
attaining-between Min Hi known s rest split others = let room = split.room in (omega arith, omega arith)
attaining-between Max Lo known s rest split others = let room = split.room in (omega arith, omega arith)
attaining-between Max Hi known s rest split others = let room = split.room in (omega arith, omega arith)
attaining-between (Has value) Lo known s rest split others = let room = split.room in (omega arith, omega arith)
attaining-between (Has value) Hi known s rest split others = let room = split.room in (omega arith, omega arith)
attaining-between CountGuess Lo known s rest split others = let room = split.room in (omega arith, omega arith)
attaining-between CountGuess Hi known s rest split others = let room = split.room in (omega arith, omega arith)
attaining-between SumGuess Lo known s rest split others = let room = split.room in (omega arith, omega arith)
attaining-between SumGuess Hi known s rest split others = let room = split.room in (omega arith, omega arith)
attaining-between MeanGuess Lo known s rest split others = let room = split.room in (omega arith, omega arith)
attaining-between MeanGuess Hi known s rest split others = let room = split.room in (omega arith, omega arith)

pub CanBeParted-inside_sum : (kind : Kind) (end : End) (s : SplitFigures) (x : ℕ) → IsSplit s → x < s.count → CanBeParted s x (inside_sum kind end s x)
CanBeParted-inside_sum Sum Hi s x split few = CanBeParted-high_sum s split x few
CanBeParted-inside_sum Mean Hi s x split few = CanBeParted-high_sum s split x few
CanBeParted-inside_sum Sum Lo s x split few = CanBeParted-low_sum s split x few
CanBeParted-inside_sum Mean Lo s x split few = CanBeParted-low_sum s split x few
CanBeParted-inside_sum Count Lo s x split few = CanBeParted-low_sum s split x few
CanBeParted-inside_sum Count Hi s x split few = CanBeParted-low_sum s split x few
CanBeParted-inside_sum Min Lo s x split few = CanBeParted-low_sum s split x few
CanBeParted-inside_sum Min Hi s x split few = CanBeParted-low_sum s split x few
CanBeParted-inside_sum Max Lo s x split few = CanBeParted-low_sum s split x few
CanBeParted-inside_sum Max Hi s x split few = CanBeParted-low_sum s split x few
CanBeParted-inside_sum (Has value) Lo s x split few = CanBeParted-low_sum s split x few
CanBeParted-inside_sum (Has value) Hi s x split few = CanBeParted-low_sum s split x few
CanBeParted-inside_sum CountGuess Lo s x split few = CanBeParted-low_sum s split x few
CanBeParted-inside_sum CountGuess Hi s x split few = CanBeParted-low_sum s split x few
CanBeParted-inside_sum SumGuess Lo s x split few = CanBeParted-low_sum s split x few
CanBeParted-inside_sum SumGuess Hi s x split few = CanBeParted-low_sum s split x few
CanBeParted-inside_sum MeanGuess Lo s x split few = CanBeParted-low_sum s split x few
CanBeParted-inside_sum MeanGuess Hi s x split few = CanBeParted-low_sum s split x few

pub attaining-few : (kind : Kind) (end : End) (known : Fraction) (s : SplitFigures) (rest : List SplitFigures) → IsSplit s → AreAllSplit rest
    → attaining kind end known s rest < s.count
attaining-few kind end known s rest split others =
    let few = greatest_count-few s split in
    let most = (attaining-between kind end known s rest split others).1 in
    omega arith

pub AreAllSplit-other : (t : Option SplitFigures) → IfSome t IsSplit → AreAllSplit (listed None t)
AreAllSplit-other None split = tt
AreAllSplit-other (Some t) split = (split, tt)

-- a certificate with values as the window may hold them is one
module _ (cut : Cut) (x : ℕ) (sum : ℤ) (split : IsSplit cut.split) (can : CanBeParted cut.split x sum) where
  pub inside-fills : Fills x sum cut.split.min cut.split.max (fill x sum cut.split.min cut.split.max)
  inside-fills = Fills-fill x sum cut.split.min cut.split.max split.order can.inside.low can.inside.high

  outside-fills : Fills (cut.split.count - x) (cut.split.sum -ℤ sum) cut.split.min cut.split.max
      (fill (cut.split.count - x) (cut.split.sum -ℤ sum) cut.split.min cut.split.max)
  outside-fills = Fills-fill _ _ _ _ split.order can.outside.low can.outside.high

  total-both : total (inside_of (certificate_with cut x sum) ++ outside_of (certificate_with cut x sum)) ≡ cut.split.sum
  total-both =
      let c = certificate_with cut x sum in
      let both = total-append (inside_of c) (outside_of c) in
      let inside = inside-fills.sum in
      let outside = outside-fills.sum in
      omega (arith, ints)

  Certifies-certificate_with : least_count cut.split ≤ x → x ≤ greatest_count cut.split → Certifies cut (certificate_with cut x sum)
  Certifies-certificate_with fewest most =
      let c = certificate_with cut x sum in
      let m = cut.split.min in
      let M = cut.split.max in
      let rest = cut.split.count - x in
      let rest_sum = cut.split.sum -ℤ sum in
      record {
        first = refl;
        last = refl;
        split = refl;
        fewest = fewest;
        most = most;
        inside_runs = HaveValues-rising m M c.inside.items inside-fills.rising;
        outside_runs = HaveValues-rising m M c.outside.items outside-fills.rising;
        inside_count = inside-fills.count;
        outside_count = outside-fills.count;
        between = between-append m M (inside_of c) (outside_of c) inside-fills.between outside-fills.between;
        least = elim can.least [
          | inl hold ↦ Contains-append_left (inside_of c) (outside_of c) m (Contains-least m M x sum split.order can.inside hold)
          | inr hold ↦ Contains-append_right (inside_of c) (outside_of c) m (Contains-least m M rest rest_sum split.order can.outside hold)
        ];
        greatest = elim can.greatest [
          | inl hold ↦ Contains-append_left (inside_of c) (outside_of c) M (Contains-greatest m M x sum split.order hold)
          | inr hold ↦ Contains-append_right (inside_of c) (outside_of c) M (Contains-greatest m M rest rest_sum split.order hold)
        ];
        sum = total-both;
      }

-- of one window beside others
module _ (kind : Kind) (end : End) (known : Fraction) (cut : Cut) (rest : List SplitFigures) (is : IsCut cut) (others : AreAllSplit rest) where
  abbrev number : ℕ
  number = attaining kind end known cut.split rest

  parted : CanBeParted cut.split number (inside_sum kind end cut.split number)
  parted = CanBeParted-inside_sum kind end cut.split number is.split (attaining-few kind end known cut.split rest is.split others)

  pub Certifies-certificate_of : Certifies cut (certificate_of kind end known cut rest)
  Certifies-certificate_of =
      let between = attaining-between kind end known cut.split rest is.split others in
      Certifies-certificate_with cut number (inside_sum kind end cut.split number) is.split parted between.0 between.1

  -- what its values in the range add up to
  total-inside_of : total (inside_of (certificate_of kind end known cut rest)) ≡ inside_sum kind end cut.split number
  total-inside_of = (inside-fills cut number (inside_sum kind end cut.split number) is.split parted).sum

  certified-is : certified (certificate_of kind end known cut rest) ≡ so_many (inside_sum kind end cut.split) number
  certified-is = ap (λ z. so_many (λ n. z) number) total-inside_of

-- ---- of all windows that the range splits

abbrev pub AreCuts : List Cut → Type 0
AreCuts [] = Unit {0}
AreCuts (cut ∷ cuts) = IsCut cut × AreCuts cuts

abbrev pub figures : List Cut → List SplitFigures
figures cuts = map (λ (cut : Cut). cut.split) cuts

AreAllSplit-cuts : (cuts : List Cut) → AreCuts cuts → AreAllSplit (figures cuts)
AreAllSplit-cuts [] are = tt
AreAllSplit-cuts (cut ∷ cuts) are = (are.0.split, AreAllSplit-cuts cuts are.1)

AreCuts-listed : (left right : Option Cut) → IfSome left IsCut → IfSome right IsCut → AreCuts (listed left right)
AreCuts-listed None None first second = tt
AreCuts-listed None (Some b) first second = (second, tt)
AreCuts-listed (Some a) None first second = (first, tt)
AreCuts-listed (Some a) (Some b) first second = (first, (second, tt))

AllCertify-certificates_of : (kind : Kind) (end : End) (known : Fraction) (cuts : List Cut) → AreCuts cuts
    → AllCertify cuts (certificates_of kind end known cuts)
AllCertify-certificates_of kind end known [] are = tt
AllCertify-certificates_of kind end known (cut ∷ cuts) are = (
  Certifies-certificate_of kind end known cut (figures cuts) are.0 (AreAllSplit-cuts cuts are.1),
  AllCertify-certificates_of kind end (with_values known (certified (certificate_of kind end known cut (figures cuts)))) cuts are.1,
)

-- each adds what its window adds to the number of values, and to their sum
module _ (kind : Kind) (end : End) (share : Option Cut → ℕ) (none : share None ≡ 0)
    (some : (known : Fraction) (cut : Cut) (rest : List SplitFigures) → IsCut cut → AreAllSplit rest
    → (certified (certificate_of kind end known cut rest)).under ≡ share (Some cut)) where
  counts-listed : (known : Fraction) (left right : Option Cut) → IfSome left IsCut → IfSome right IsCut
      → (with_certified known (certificates_of kind end known (listed left right))).under ≡ known.under + share left + share right
  counts-listed known None None first second = omega arith
  counts-listed known None (Some b) first second = let one = some known b [] second tt in omega arith
  counts-listed known (Some a) None first second = let one = some known a [] first tt in omega arith
  counts-listed known (Some a) (Some b) first second =
      let one = some known a (b.split ∷ []) first (second.split, tt) in
      let other = some (with_values known (certified (certificate_of kind end known a (b.split ∷ [])))) b [] second tt in
      omega arith

module _ (kind : Kind) (end : End) (share : Option Cut → ℤ) (none : share None ≡ pos 0)
    (some : (known : Fraction) (cut : Cut) (rest : List SplitFigures) → IsCut cut → AreAllSplit rest
    → (certified (certificate_of kind end known cut rest)).over ≡ share (Some cut)) where
  sums-listed : (known : Fraction) (left right : Option Cut) → IfSome left IsCut → IfSome right IsCut
      → (with_certified known (certificates_of kind end known (listed left right))).over ≡ ((known.over +ℤ share left) +ℤ share right)
  sums-listed known None None first second = omega (arith, ints)
  sums-listed known None (Some b) first second = let one = some known b [] second tt in omega (arith, ints)
  sums-listed known (Some a) None first second = let one = some known a [] first tt in omega (arith, ints)
  sums-listed known (Some a) (Some b) first second =
      let one = some known a (b.split ∷ []) first (second.split, tt) in
      let other = some (with_values known (certified (certificate_of kind end known a (b.split ∷ [])))) b [] second tt in
      omega (arith, ints)

-- with the values of all certificates the mean is the end
least-certified : (known : Fraction) (cuts : List Cut) → AreCuts cuts
    → lowest_mean (with_certified known (certificates_of Mean Lo known cuts)) ≡ option_map lowest (least_mean known (figures cuts))
least-certified known [] are = refl
least-certified known (cut ∷ cuts) are =
    let others = AreAllSplit-cuts cuts are.1 in
    let c = certificate_of Mean Lo known cut (figures cuts) in
    let at = least_mean_at-attains known cut.split (figures cuts) (are.0.split, others) in
    let is = certified-is Mean Lo known cut (figures cuts) are.0 others in
    least-certified (with_values known (certified c)) cuts are.1
    ∙ ap (λ v. option_map lowest (least_mean (with_values known v) (figures cuts))) is ∙ at.same

greatest-certified : (known : Fraction) (cuts : List Cut) → AreCuts cuts
    → lowest_mean (with_certified known (certificates_of Mean Hi known cuts)) ≡ option_map lowest (greatest_mean known (figures cuts))
greatest-certified known [] are = refl
greatest-certified known (cut ∷ cuts) are =
    let others = AreAllSplit-cuts cuts are.1 in
    let c = certificate_of Mean Hi known cut (figures cuts) in
    let at = greatest_mean_at-attains known cut.split (figures cuts) (are.0.split, others) in
    let is = certified-is Mean Hi known cut (figures cuts) are.0 others in
    greatest-certified (with_values known (certified c)) cuts are.1
    ∙ ap (λ v. option_map lowest (greatest_mean (with_values known v) (figures cuts))) is ∙ at.same

figures-listed : (left right : Option Cut) → figures (listed left right) ≡ listed (figures_of left) (figures_of right)
figures-listed None None = refl
figures-listed None (Some b) = refl
figures-listed (Some a) None = refl
figures-listed (Some a) (Some b) = refl

-- the ends of a mean, where both are there or none is
least-end : (sure : Bool) (lo hi : Option Fraction) → AreBoth lo hi → mean_end Lo (mean_from sure lo hi) ≡ lo
least-end sure None hi both = refl
least-end sure (Some l) None both = absurd both
least-end true (Some l) (Some h) both = refl
least-end false (Some l) (Some h) both = refl

greatest-end : (sure : Bool) (lo hi : Option Fraction) → AreBoth lo hi → mean_end Hi (mean_from sure lo hi) ≡ hi
greatest-end sure None None both = refl
greatest-end sure None (Some h) both = absurd both
greatest-end sure (Some l) None both = absurd both
greatest-end true (Some l) (Some h) both = refl
greatest-end false (Some l) (Some h) both = refl

mean_end-least : (known : Fraction) (splits : List SplitFigures) → AreAllSplit splits
    → mean_end Lo (mean_interval known splits) ≡ option_map lowest (least_mean known splits)
unfolding mean_interval
mean_end-least known splits all = least-end _ _ _ (both-ends known splits all)

mean_end-greatest : (known : Fraction) (splits : List SplitFigures) → AreAllSplit splits
    → mean_end Hi (mean_interval known splits) ≡ option_map lowest (greatest_mean known splits)
unfolding mean_interval
mean_end-greatest known splits all = greatest-end _ _ _ (both-ends known splits all)

module _ (seen : Seen) (has : HasCuts seen) where
  abbrev known : Fraction
  known = values_seen seen

  abbrev cuts : List Cut
  cuts = cuts_of seen

  are : AreCuts cuts
  are = AreCuts-listed seen.left seen.right has.left has.right

  least-asked : mean_end Lo (mean_interval known (listed (figures_of seen.left) (figures_of seen.right)))
      ≡ lowest_mean (with_certified known (certificates_of Mean Lo known cuts))
  least-asked =
      ap (λ l. mean_end Lo (mean_interval known l)) (sym (figures-listed seen.left seen.right))
      ∙ mean_end-least known (figures cuts) (AreAllSplit-cuts cuts are) ∙ sym (least-certified known cuts are)

  greatest-asked : mean_end Hi (mean_interval known (listed (figures_of seen.left) (figures_of seen.right)))
      ≡ lowest_mean (with_certified known (certificates_of Mean Hi known cuts))
  greatest-asked =
      ap (λ l. mean_end Hi (mean_interval known l)) (sym (figures-listed seen.left seen.right))
      ∙ mean_end-greatest known (figures cuts) (AreAllSplit-cuts cuts are) ∙ sym (greatest-certified known cuts are)

  -- so the evidence that is made has the end that is asked for
  asked-evidence_of : (kind : Kind) (end : End) → is_certified kind ≡ true
      → end_asked end (outcome_seen kind seen) ≡ Some (answer_from kind (with_certified known (certificates_of kind end known cuts)))
  asked-evidence_of Count Lo certified_kind =
      let counts = counts-listed Count Lo (λ cut. (counts_of cut).0) refl (λ k cut rest is others. refl) known seen.left seen.right has.left has.right in
      ap (λ n. Some (answers.Count n)) (sym counts)
  asked-evidence_of Count Hi certified_kind =
      let counts = counts-listed Count Hi (λ cut. (counts_of cut).1) refl (λ k cut rest is others. refl) known seen.left seen.right has.left has.right in
      ap (λ n. Some (answers.Count n)) (sym counts)
  asked-evidence_of Sum Lo certified_kind =
      let sums = sums-listed Sum Lo (λ cut. (sums_of cut).0) refl
      (λ k cut rest is others. total-inside_of Sum Lo k cut rest is others ∙ (least_sum_at-first cut.split is.split).1)
      known seen.left seen.right has.left has.right in
      ap (λ z. Some (answers.Sum z)) (sym sums)
  asked-evidence_of Sum Hi certified_kind =
      let sums = sums-listed Sum Hi (λ cut. (sums_of cut).1) refl
      (λ k cut rest is others. total-inside_of Sum Hi k cut rest is others ∙ (greatest_sum_at-first cut.split is.split).1)
      known seen.left seen.right has.left has.right in
      ap (λ z. Some (answers.Sum z)) (sym sums)
  asked-evidence_of Mean Lo certified_kind = ap (λ m. Some (answers.Mean m)) least-asked
  asked-evidence_of Mean Hi certified_kind = ap (λ m. Some (answers.Mean m)) greatest-asked
  asked-evidence_of Min end certified_kind = cc
  asked-evidence_of Max end certified_kind = cc
  asked-evidence_of (Has value) end certified_kind = cc
  asked-evidence_of CountGuess end certified_kind = cc
  asked-evidence_of SumGuess end certified_kind = cc
  asked-evidence_of MeanGuess end certified_kind = cc

pub IsEvidence-evidence_of : (kind : Kind) (end : End) (seen : Seen) → is_certified kind ≡ true → HasCuts seen
    → IsEvidence kind end seen (evidence_of kind end seen)
IsEvidence-evidence_of kind end seen certified_kind has = record {
  certificates = AllCertify-certificates_of kind end (values_seen seen) (cuts_of seen) (are seen has);
  known = refl;
  answers = refl;
  asked = asked-evidence_of seen has kind end certified_kind;
}
