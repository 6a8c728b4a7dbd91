-- Evidence for an end of an answer: what is known exactly, and a certificate of each window that the range splits.
use Rattle.std.specs.Prelude.{◌≡◌, List, [], ◌∷◌, Option, None, Some}
use Rattle.ss_bounds.specs.declared.fraction.Fraction.{Fraction}
use Rattle.ss_bounds.specs.declared.mean.Mean.{Mean}
use Rattle.ss_bounds.specs.declared.mean.Mean.TheVariants as means
use Rattle.ss_bounds.specs.Extremes.{listed}
use Rattle.ss_bounds.specs.MeanAttained.{lowest_mean}
use Rattle.ss_bounds.specs.Means.{with_values}
use Rattle.ss_bounds.specs.Truth.{total}
use Rattle.ss_catalog.specs.declared.query.End.{End}
use Rattle.ss_catalog.specs.declared.query.End.TheVariants.{Lo, Hi}
use Rattle.ss_catalog.specs.declared.query.Kind.{Kind}
use Rattle.ss_catalog.specs.declared.query.Kind.TheVariants as kinds
use Rattle.ss_model.specs.declared.outcome.Outcome.{Outcome}
use Rattle.ss_model.specs.declared.outcome.Outcome.TheVariants as outcomes
use Rattle.ss_query.specs.Asked.{outcome_seen, values_seen}
use Rattle.ss_query.specs.declared.asking.Seen.{Seen}
use Rattle.ss_query.specs.declared.cut.Cut.{Cut}
use Rattle.ss_certify.specs.Checked.{Certifies, inside_of}
use Rattle.ss_certify.specs.declared.evidence.Answer.{Answer}
use Rattle.ss_certify.specs.declared.evidence.Answer.TheVariants as answers
use Rattle.ss_certify.specs.declared.evidence.Cert.{Cert}
use Rattle.ss_certify.specs.declared.evidence.Evidence.{Evidence}

-- the windows that the range splits, oldest first
abbrev pub cuts_of : Seen → List Cut
cuts_of seen = listed seen.left seen.right

-- the sum and the count of the values that a certificate has in the range
abbrev pub certified : Cert → Fraction
certified c = record { over = total (inside_of c); under = c.x }

-- of some values together with those that certificates have in the range
abbrev pub with_certified : Fraction → List Cert → Fraction
with_certified known [] = known
with_certified known (c ∷ certs) = with_certified (with_values known (certified c)) certs

-- what is answered of some values, by their sum and count: their sum, their mean or else how many they are
abbrev pub answer_from : Kind → Fraction → Answer
answer_from kinds.Sum values = answers.Sum values.over
answer_from kinds.Mean values = answers.Mean (lowest_mean values)
answer_from kind values = answers.Count values.under

-- an end of what is known of a mean, if there may be one
abbrev pub mean_end : End → Mean → Option Fraction
mean_end end means.Nothing = None
mean_end Lo (means.Sure lo hi) = Some lo
mean_end Hi (means.Sure lo hi) = Some hi
mean_end Lo (means.Maybe lo hi) = Some lo
mean_end Hi (means.Maybe lo hi) = Some hi

-- an end of what is answered; nothing where there are no certificates of it
abbrev pub end_asked : End → Outcome → Option Answer
end_asked Lo (outcomes.Count lo hi) = Some (answers.Count lo)
end_asked Hi (outcomes.Count lo hi) = Some (answers.Count hi)
end_asked Lo (outcomes.Sum lo hi) = Some (answers.Sum lo)
end_asked Hi (outcomes.Sum lo hi) = Some (answers.Sum hi)
end_asked end (outcomes.Mean known) = Some (answers.Mean (mean_end end known))
end_asked end (outcomes.Min extreme) = None
end_asked end (outcomes.Max extreme) = None
end_asked end (outcomes.Has _) = None
end_asked end (outcomes.Estimate lo guess hi) = None
end_asked end (outcomes.MeanEstimate guess) = None

-- there is a certificate of each of these windows, in the same order
abbrev pub AllCertify : List Cut → List Cert → Type 0
AllCertify [] [] = Unit {0}
AllCertify [] (c ∷ certs) = ⊥
AllCertify (cut ∷ cuts) [] = ⊥
AllCertify (cut ∷ cuts) (c ∷ certs) = Certifies cut c × AllCertify cuts certs

-- Evidence shows that an end of an answer can't be narrower, filters aside, from what is known of a stream.
pub record IsEvidence (kind : Kind) (end : End) (seen : Seen) (w : Evidence) : Type 0 where
  pub certificates : AllCertify (cuts_of seen) w.certs.items
  pub known : w.known ≡ values_seen seen
  -- what is known exactly and the values that the certificates have in the range have this answer
  pub answers : w.answer ≡ answer_from kind (with_certified w.known w.certs.items)
  -- which is the end that was asked for
  pub asked : end_asked end (outcome_seen kind seen) ≡ Some w.answer

-- it is evidence by some figures, as those that were read of the windows when it was checked
abbrev pub IsRight : Kind → End → Evidence → Type 0
IsRight kind end w = (seen : Seen) × IsEvidence kind end seen w
