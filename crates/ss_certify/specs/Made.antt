-- The evidence that is made for an end of an answer.
use Rattle.std.specs.Prelude.{ℕ, ◌-◌, ℤ, ◌-ℤ◌, List, [], ◌∷◌, map}
use Rattle.ss_bounds.specs.declared.fraction.Fraction.{Fraction}
use Rattle.ss_bounds.specs.Attained.{greatest_sum_at, least_sum_at}
use Rattle.ss_bounds.specs.MeanAttained.{greatest_mean_at, least_mean_at}
use Rattle.ss_bounds.specs.Means.{with_values}
use Rattle.ss_bounds.specs.Split.{SplitFigures, greatest_count, high_sum, least_count, low_sum}
use Rattle.ss_catalog.specs.declared.query.End.{End}
use Rattle.ss_catalog.specs.declared.query.End.TheVariants.{Lo, Hi}
use Rattle.ss_catalog.specs.declared.query.Kind.{Kind}
use Rattle.ss_catalog.specs.declared.query.Kind.TheVariants.{Mean, Sum}
use Rattle.ss_query.specs.Asked.{values_seen}
use Rattle.ss_query.specs.declared.asking.Seen.{Seen}
use Rattle.ss_query.specs.declared.cut.Cut.{Cut}
use Rattle.ss_certify.specs.Evidence.{answer_from, certified, cuts_of, with_certified}
use Rattle.ss_certify.specs.Fill.{fill}
use Rattle.ss_certify.specs.declared.evidence.Cert.{Cert}
use Rattle.ss_certify.specs.declared.evidence.Evidence.{Evidence}

-- the least number of a split window's values in the range with which this end is attained: of its sum, of the mean with what is known
-- and some values of further windows, or else of the numbers
abbrev pub attaining : Kind → End → Fraction → SplitFigures → List SplitFigures → ℕ
attaining Sum Lo known s rest = least_sum_at s
attaining Sum Hi known s rest = greatest_sum_at s
attaining Mean Lo known s rest = least_mean_at known s rest
attaining Mean Hi known s rest = greatest_mean_at known s rest
attaining kind Lo known s rest = least_count s
attaining kind Hi known s rest = greatest_count s

-- what x of its values in the range then add up to: the least sum, or for the greatest sum or mean the greatest
abbrev pub inside_sum : Kind → End → SplitFigures → ℕ → ℤ
inside_sum Sum Hi s x = high_sum s x
inside_sum Mean Hi s x = high_sum s x
inside_sum kind end s x = low_sum s x

-- the certificate of a window with x values in the range, which add up to `sum`
abbrev pub certificate_with : Cut → ℕ → ℤ → Cert
certificate_with cut x sum = record {
  first = cut.first;
  last = cut.last;
  split = cut.split;
  x = x;
  inside = record { items = fill x sum cut.split.min cut.split.max };
  outside = record { items = fill (cut.split.count - x) (cut.split.sum -ℤ sum) cut.split.min cut.split.max };
}

-- the one that attains this end, beside what is known and further windows
abbrev pub certificate_of : Kind → End → Fraction → Cut → List SplitFigures → Cert
certificate_of kind end known cut rest =
    let x = attaining kind end known cut.split rest in
    certificate_with cut x (inside_sum kind end cut.split x)

-- of each window that the range splits, where the values of the earlier ones are known too
abbrev pub certificates_of : Kind → End → Fraction → List Cut → List Cert
certificates_of kind end known [] = []
certificates_of kind end known (cut ∷ cuts) =
    let c = certificate_of kind end known cut (map (λ (later : Cut). later.split) cuts) in
    c ∷ certificates_of kind end (with_values known (certified c)) cuts

-- what is known exactly, the certificates of the windows that the range splits, and what is answered of all these values
abbrev pub evidence_of : Kind → End → Seen → Evidence
evidence_of kind end seen =
    let known = values_seen seen in
    let certs = certificates_of kind end known (cuts_of seen) in
    record {
      answer = answer_from kind (with_certified known certs);
      known = known;
      certs = record { items = certs };
    }
