use Rattle.std.proofs.Common.{ap, ap₂, arith, sym, subst, List, ℕ, ℤ, ◌≡◌, ◌∙◌, ◌-◌, ◌-ℤ◌}
use Rattle.std.proofs.lemmas.Int.{to_z-of_z}
use Rattle.std.specs.Int.{w64, w128}
use Rattle.ss_bounds.specs.Parted.{CanBeParted}
use Rattle.ss_bounds.specs.Split.{IsSplit, SplitFigures}
use Rattle.ss_model.specs.declared.types.Run.{Run}
use Rattle.arrayvec.specs.ArrayVec.{ArrayVec}
use Rattle.ss_query.specs.declared.cut.Cut.{Cut}
use Rattle.ss_certify.specs.Fill.{fill}
use Rattle.ss_certify.specs.Made.{certificate_with}
use Rattle.ss_certify.specs.Runs.{run_count}
use Rattle.ss_certify.specs.declared.evidence.Cert.{Cert}
use Rattle.ss_certify.proofs.MadeLemmas.{inside-fills}
use Rattle.ss_certify.proofs.RunLemmas.{length-values_of_runs}
use Rattle.ss_certify.proofs.SumLemmas.{computed-left, computed-left_fits, computed-left_high, computed-left_low}
use Rattle.ss_certify.proofs.making.certificate_with.Goals as goal

pub overflow_sub-split-inside-2 : goal.overflow_sub-split-inside-2
overflow_sub-split-inside-2 c =
    let can = subst (λ s. CanBeParted s c.args.x c.args.sum) (sym c.split.view_is) c.requires in
    computed-left_fits _ c.split.invariant c.args.x c.args.sum c.ranges.sum can

pub fill-requires-2-clause-low : goal.fill-requires-2-clause-low
fill-requires-2-clause-low c =
    let can = subst (λ s. CanBeParted s c.args.x c.args.sum) (sym c.split.view_is) c.requires in
    computed-left_low _ c.split.invariant c.args.x c.args.sum c.ranges.sum can

pub fill-requires-2-clause-high : goal.fill-requires-2-clause-high
fill-requires-2-clause-high c =
    let can = subst (λ s. CanBeParted s c.args.x c.args.sum) (sym c.split.view_is) c.requires in
    computed-left_high _ c.split.invariant c.args.x c.args.sum c.ranges.sum can

-- values of the window by its fields, as the code makes them
fill-at : (k : ℕ) (v w m n M N : ℤ) → v ≡ w → m ≡ n → M ≡ N → fill k v m M ≡ fill k w n N
fill-at k v w m n M N sum min max = cc

certificate-at : (cut : Cut) (x : ℕ) (sum : ℤ) (s : SplitFigures) (inside outside : ArrayVec Run) → s ≡ cut.split
    → inside.items ≡ fill x sum s.min s.max → outside.items ≡ fill (s.count - x) (s.sum -ℤ sum) s.min s.max
    → ◌≡◌ {A = Cert} (record { first = cut.first; last = cut.last; split = cut.split; x = x; inside = inside; outside = outside })
    (certificate_with cut x sum)
certificate-at cut x sum s inside outside same in_is out_is =
    let made : List Run → List Run → Cert = λ a b. record {
      first = cut.first;
      last = cut.last;
      split = cut.split;
      x = x;
      inside = record { items = a };
      outside = record { items = b };
    } in
    ap₂ made (in_is ∙ ap (λ (z : SplitFigures). fill x sum z.min z.max) same)
    (out_is ∙ ap (λ (z : SplitFigures). fill (z.count - x) (z.sum -ℤ sum) z.min z.max) same)

inside-is : (c : goal.After-fill-2) → c.fill.result.items ≡ fill c.args.x c.args.sum c.split.inside.min c.split.inside.max
inside-is c =
    c.fill.ensures
    ∙ fill-at c.args.x _ _ _ _ _ _ (to_z-of_z w128 c.args.sum c.ranges.sum) (to_z-of_z w64 _ c.split.invariant.min_fits)
    (to_z-of_z w64 _ c.split.invariant.max_fits)

pub returns-clause-value : goal.returns-clause-value
returns-clause-value c =
    let can = subst (λ s. CanBeParted s c.args.x c.args.sum) (sym c.split.view_is) c.requires in
    let left = computed-left _ c.split.invariant c.args.x c.args.sum c.ranges.sum can in
    certificate-at c.args.cut c.args.x c.args.sum _ c.fill.result c.fill-2.result c.split.view_is (inside-is c)
    (c.fill-2.ensures
    ∙ fill-at _ _ _ _ _ _ _ left (to_z-of_z w64 _ c.split.invariant.min_fits) (to_z-of_z w64 _ c.split.invariant.max_fits))

pub returns-clause-few : goal.returns-clause-few
returns-clause-few c =
    let split = subst IsSplit c.split.view_is c.split.invariant in
    let most = split.count_high in
    let same = inside-is c ∙ ap (λ (s : SplitFigures). fill c.args.x c.args.sum s.min s.max) c.split.view_is in
    let inside = (inside-fills c.args.cut c.args.x c.args.sum split c.requires).count in
    let count : run_count c.fill.result.items ≡ c.args.x =
    ap run_count same ∙ sym (length-values_of_runs (fill c.args.x c.args.sum c.args.cut.split.min c.args.cut.split.max)) ∙ inside in
    (omega (arith, c.requires.few), omega (arith, c.requires.few))
