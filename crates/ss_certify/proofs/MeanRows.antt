-- Worked rows of the evidence for an end of a mean, each computed from the windows and landmarks of a stream.
use Rattle.std.specs.Prelude.{◌≡◌, pos, negsuc, [], ◌∷◌, map, None, Some, codes}
use Rattle.std.proofs.Common.{refl}
use Rattle.std.specs.Fmt.{digits}
use Rattle.ss_bounds.specs.Fractions.{lowest}
use Rattle.ss_bounds.specs.MeanAttained.{greatest_mean_at, least_mean_at}
use Rattle.ss_catalog.specs.declared.query.End.TheVariants.{Lo, Hi}
use Rattle.ss_catalog.specs.declared.query.Kind.TheVariants.{Mean}
use Rattle.ss_model.specs.State.{Stream}
use Rattle.ss_report.specs.Text.{reply_line}
use Rattle.ss_certify.specs.Fill.{fill}
use Rattle.ss_certify.specs.Told.{told}
use Rattle.ss_certify.specs.declared.evidence.Answer.TheVariants as answers
use Rattle.ss_certify.proofs.MadeRows.{ended, evidence, made, readings, stream, window}

-- from 25 to 55: the greatest mean of one value each, and the least one of two and one
readings-greatest : map reply_line (told (made readings Mean Hi 25 55)) ≡
    map ended (codes "certify 17/2 0 0 2" ∷ codes "inside 1 4 1 8*1" ∷ codes "outside 1 4 3 -3*1 -2*1 8*1" ∷ codes "inside 5 6 1 9*1"
    ∷ codes "outside 5 6 1 2*1" ∷ [])
unfolding readings greatest_mean_at lowest fill digits
readings-greatest = refl

readings-least : map reply_line (told (made readings Mean Lo 25 55)) ≡
    map ended (codes "certify -1 0 0 2" ∷ codes "inside 1 4 2 -3*1 -2*1" ∷ codes "outside 1 4 2 8*2" ∷ codes "inside 5 6 1 2*1"
    ∷ codes "outside 5 6 1 9*1" ∷ [])
unfolding readings least_mean_at lowest fill digits
readings-least = refl

-- from 15 to 34 no value may lie there, and where one does it is the greatest
readings-maybe : map reply_line (told (made readings Mean Hi 15 34)) ≡
    map ended (codes "certify 8 0 0 1" ∷ codes "inside 1 4 1 8*1" ∷ codes "outside 1 4 3 -3*1 -2*1 8*1" ∷ [])
unfolding readings greatest_mean_at lowest fill digits
readings-maybe = refl

-- what is known alone, and nothing
readings-known : map reply_line (told (made readings Mean Lo 0 100)) ≡ map ended (codes "certify 29/7 29 7 0" ∷ [])
unfolding readings lowest fill digits
readings-known = refl

readings-nothing : made readings Mean Hi 80 90 ≡ evidence (answers.Mean None) (pos 0) 0 []
unfolding readings lowest fill
readings-nothing = refl

-- a window of two values has none between its ends
pair : Stream
pair = stream (window 1 2 (negsuc 4) (negsuc 3) (negsuc 0) 10 14 ∷ []) []

pair-none : map reply_line (told (made pair Mean Lo 11 13)) ≡
    map ended (codes "certify none 0 0 1" ∷ codes "inside 1 2 0" ∷ codes "outside 1 2 2 -4*1 -1*1" ∷ [])
unfolding pair least_mean_at lowest fill digits
pair-none = refl

-- equal values have one mean in any number: the least one counts, but for 0
equal : Stream
equal = stream (window 1 4 (pos 20) (pos 5) (pos 5) 10 40 ∷ []) []

equal-greatest : map reply_line (told (made equal Mean Hi 0 37)) ≡
    map ended (codes "certify 5 0 0 1" ∷ codes "inside 1 4 1 5*1" ∷ codes "outside 1 4 3 5*3" ∷ [])
unfolding equal greatest_mean_at lowest fill digits
equal-greatest = refl

equal-least : map reply_line (told (made equal Mean Lo 11 37)) ≡
    map ended (codes "certify 5 0 0 1" ∷ codes "inside 1 4 1 5*1" ∷ codes "outside 1 4 3 5*3" ∷ [])
unfolding equal least_mean_at lowest fill digits
equal-least = refl

-- beside the value 0 of a landmark
beside : Stream
beside =
    stream (window 1 4 (pos 7) (pos 1) (pos 3) 10 40 ∷ [])
    (record { start = 1; finish = Some 1; values = record { t = 1; v = pos 0 } ∷ [] } ∷ [])

beside-greatest : map reply_line (told (made beside Mean Hi 0 37)) ≡
    map ended (codes "certify 5/3 0 1 1" ∷ codes "inside 1 4 2 2*1 3*1" ∷ codes "outside 1 4 2 1*2" ∷ [])
unfolding beside greatest_mean_at lowest fill digits
beside-greatest = refl

-- of two windows what is taken of one hangs on the other
both : Stream
both = stream (window 1 3 (pos 2) (pos 0) (pos 1) 10 30 ∷ window 4 3 (pos 4) (pos 0) (pos 2) 40 60 ∷ []) []

both-greatest : map reply_line (told (made both Mean Hi 12 58)) ≡
    map ended (codes "certify 5/3 0 0 2" ∷ codes "inside 1 3 1 1*1" ∷ codes "outside 1 3 2 0*1 1*1" ∷ codes "inside 4 6 2 2*2"
    ∷ codes "outside 4 6 1 0*1" ∷ [])
unfolding both greatest_mean_at lowest fill digits
both-greatest = refl
