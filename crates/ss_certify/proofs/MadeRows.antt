-- Worked rows of the evidence for an end of an answer, each computed from the windows and landmarks of a stream.
use Rattle.std.specs.Prelude.{◌≡◌, ℕ, ℤ, pos, negsuc, List, [], ◌∷◌, ◌++◌, map, Some, codes}
use Rattle.std.proofs.Common.{refl}
use Rattle.std.specs.Fmt.{digits}
use Rattle.ss_bounds.specs.Attained.{greatest_sum_at, least_sum_at}
use Rattle.ss_bounds.specs.Split.{sum_interval}
use Rattle.ss_catalog.specs.Params.{exp}
use Rattle.ss_catalog.specs.declared.query.End.{End}
use Rattle.ss_catalog.specs.declared.query.End.TheVariants.{Lo, Hi}
use Rattle.ss_catalog.specs.declared.query.Kind.{Kind}
use Rattle.ss_catalog.specs.declared.query.Kind.TheVariants.{Count, Sum}
use Rattle.ss_model.specs.State.{Stream}
use Rattle.ss_landmarks.specs.Landmark.{Landmark}
use Rattle.ss_model.specs.declared.types.Run.{Run}
use Rattle.ss_model.specs.declared.types.Window.{Window}
use Rattle.ss_query.specs.Asked.{seen_of}
use Rattle.ss_summary.specs.Filters.{full}
use Rattle.ss_report.specs.Text.{reply_line}
use Rattle.ss_certify.specs.Fill.{fill, run}
use Rattle.ss_certify.specs.Made.{evidence_of}
use Rattle.ss_certify.specs.Told.{told}
use Rattle.ss_certify.specs.declared.evidence.Answer.{Answer}
use Rattle.ss_certify.specs.declared.evidence.Answer.TheVariants as answers
use Rattle.ss_certify.specs.declared.evidence.Cert.{Cert}
use Rattle.ss_certify.specs.declared.evidence.Evidence.{Evidence}

-- a window by its figures, and a stream with windows and landmarks
abbrev pub window : ℕ → ℕ → ℤ → ℤ → ℤ → ℕ → ℕ → Window
window first count sum min max t_first t_last = record {
  first = first;
  summary = record { count = count; sum = sum; min = min; max = max; t_first = t_first; t_last = t_last; filter = full };
}

abbrev pub stream : List Window → List Landmark → Stream
stream windows landmarks = record { number = 0; name = codes "a"; params = exp 2 1 1; windows = windows; landmarks = landmarks }

-- what is made for an end of an answer over a range
abbrev pub made : Stream → Kind → End → ℕ → ℕ → Evidence
made s kind end from to = evidence_of kind end (seen_of kind from to s)

abbrev pub evidence : Answer → ℤ → ℕ → List Cert → Evidence
evidence answer sum count certs = record { answer = answer; known = record { over = sum; under = count }; certs = record { items = certs } }

-- the windows of the readings 5, -3, 8, 1, 9, 2 and 7 at the times 10 to 70
unfoldable pub readings : Stream
readings = stream (window 1 4 (pos 11) (negsuc 2) (pos 8) 10 40 ∷ window 5 2 (pos 11) (pos 2) (pos 9) 50 60 ∷ window 7 1 (pos 7) (pos 7) (pos 7) 70 70 ∷ []) []

-- their first window and the next one, each with one of its ends in the range
abbrev first_window : ℕ → List Run → List Run → Cert
first_window x inside outside = record {
  first = 1;
  last = 4;
  split = record { count = 4; sum = pos 11; min = negsuc 2; max = pos 8; ends = 1; inside = 15; outside = 14 };
  x = x;
  inside = record { items = inside };
  outside = record { items = outside };
}

abbrev next_window : List Run → List Run → Cert
next_window inside outside = record {
  first = 5;
  last = 6;
  split = record { count = 2; sum = pos 11; min = pos 2; max = pos 9; ends = 1; inside = 5; outside = 4 };
  x = 1;
  inside = record { items = inside };
  outside = record { items = outside };
}

readings-least_sum : made readings Sum Lo 10 25 ≡
    evidence (answers.Sum (negsuc 4)) (pos 0) 0 (first_window 2 (run (negsuc 2) 1 ∷ run (negsuc 1) 1 ∷ []) (run (pos 8) 2 ∷ []) ∷ [])
unfolding readings sum_interval least_sum_at fill
readings-least_sum = refl

readings-greatest_sum : made readings Sum Hi 25 55 ≡
    evidence (answers.Sum (pos 25)) (pos 0) 0
    (first_window 2 (run (pos 8) 2 ∷ []) (run (negsuc 2) 1 ∷ run (negsuc 1) 1 ∷ []) ∷ next_window (run (pos 9) 1 ∷ []) (run (pos 2) 1 ∷ []) ∷ [])
unfolding readings sum_interval greatest_sum_at fill
readings-greatest_sum = refl

readings-least_count : made readings Count Lo 10 40 ≡ evidence (answers.Count 4) (pos 11) 4 []
unfolding readings fill
readings-least_count = refl

readings-greatest_count : made readings Count Hi 25 55 ≡
    evidence (answers.Count 4) (pos 0) 0
    (first_window 3 (run (negsuc 2) 1 ∷ run (negsuc 1) 1 ∷ run (pos 8) 1 ∷ []) (run (pos 8) 1 ∷ [])
    ∷ next_window (run (pos 2) 1 ∷ []) (run (pos 9) 1 ∷ []) ∷ [])
unfolding readings fill
readings-greatest_count = refl

-- and this is told
abbrev pub ended : List ℕ → List ℕ
ended text = text ++ 10 ∷ []

readings-least_sum_told : map reply_line (told (made readings Sum Lo 10 25)) ≡
    map ended (codes "certify -5 0 1" ∷ codes "inside 1 4 2 -3*1 -2*1" ∷ codes "outside 1 4 2 8*2" ∷ [])
unfolding readings sum_interval least_sum_at fill digits
readings-least_sum_told = refl

readings-greatest_sum_told : map reply_line (told (made readings Sum Hi 25 55)) ≡
    map ended (codes "certify 25 0 2" ∷ codes "inside 1 4 2 8*2" ∷ codes "outside 1 4 2 -3*1 -2*1" ∷ codes "inside 5 6 1 9*1"
    ∷ codes "outside 5 6 1 2*1" ∷ [])
unfolding readings sum_interval greatest_sum_at fill digits
readings-greatest_sum_told = refl

readings-least_count_told : map reply_line (told (made readings Count Lo 10 40)) ≡ map ended (codes "certify 4 4 0" ∷ [])
unfolding readings fill digits
readings-least_count_told = refl

-- seven readings in one window, and one of a landmark among them
around : Stream
around =
    stream (window 1 7 (pos 32) (negsuc 3) (pos 9) 10 50 ∷ [])
    (record { start = 22; finish = Some 25; values = record { t = 23; v = pos 100 } ∷ [] } ∷ [])

abbrev parted : ℕ → ℕ → ℕ → ℕ → List Run → List Run → List Cert
parted ends free_in free_out x inside outside = record {
  first = 1;
  last = 7;
  split = record { count = 7; sum = pos 32; min = negsuc 3; max = pos 9; ends = ends; inside = free_in; outside = free_out };
  x = x;
  inside = record { items = inside };
  outside = record { items = outside };
} ∷ []

-- neither end of the window lies in the range, and few of its times do
around-least_sum : made around Sum Lo 18 24 ≡
    evidence (answers.Sum (pos 92)) (pos 100) 1 (parted 0 4 31 2 (run (negsuc 3) 2 ∷ []) (run (pos 4) 1 ∷ run (pos 9) 4 ∷ []))
unfolding around sum_interval least_sum_at fill
around-least_sum = refl

around-greatest_sum : made around Sum Hi 18 24 ≡
    evidence (answers.Sum (pos 136)) (pos 100) 1 (parted 0 4 31 4 (run (pos 9) 4 ∷ []) (run (negsuc 3) 2 ∷ run (pos 4) 1 ∷ []))
unfolding around sum_interval greatest_sum_at fill
around-greatest_sum = refl

-- nearly all free times lie in the range, so most of the values do
around-least_count : made around Count Lo 11 49 ≡
    evidence (answers.Count 6) (pos 100) 1 (parted 0 35 0 5 (run (negsuc 3) 2 ∷ run (pos 4) 1 ∷ run (pos 9) 2 ∷ []) (run (pos 9) 2 ∷ []))
unfolding around fill
around-least_count = refl

around-least_sum_late : made around Sum Lo 12 60 ≡
    evidence (answers.Sum (pos 114)) (pos 100) 1 (parted 1 34 1 5 (run (negsuc 3) 2 ∷ run (pos 4) 1 ∷ run (pos 9) 2 ∷ []) (run (pos 9) 2 ∷ []))
unfolding around sum_interval least_sum_at fill
around-least_sum_late = refl

-- of a window with more of its values in the range than outside it
around-least_count_told : map reply_line (told (made around Count Lo 11 49)) ≡
    map ended (codes "certify 6 1 1" ∷ codes "inside 1 7 5 -4*2 4*1 9*2" ∷ codes "outside 1 7 2 9*2" ∷ [])
unfolding around fill digits
around-least_count_told = refl
