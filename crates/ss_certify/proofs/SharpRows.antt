-- Worked rows: evidence of a stream of seven values.
use Rattle.std.specs.Prelude.{◌≡◌, ℕ, ◌+◌, ◌^◌, ℤ, pos, negsuc, ◌≤ℤ◌, List, [], ◌∷◌, map, Some, codes}
use Rattle.std.proofs.Common.{◌≤◌, ◌∙◌, ap, arith, length, lit≤, refl, subst, sym}
use Rattle.std.proofs.lemmas.Int.{ints}
use Rattle.std.proofs.lemmas.List.Elements.{All-cons, All-head, All-nil, All-tail}
use Rattle.std.proofs.lemmas.Option.{same_Some}
use Rattle.ss_bounds.specs.declared.fraction.Fraction.{Fraction}
use Rattle.ss_bounds.specs.declared.mean.Mean.TheVariants.{Sure}
use Rattle.ss_bounds.specs.Fractions.{lowest}
use Rattle.ss_bounds.specs.Means.{mean_interval}
use Rattle.ss_bounds.specs.Split.{SplitFigures, sum_interval}
use Rattle.ss_targets.specs.Windowing.{window_index}
use Rattle.ss_catalog.specs.declared.event.Event.TheVariants.{Create, Value}
use Rattle.ss_catalog.specs.Params.{exp}
use Rattle.ss_catalog.specs.declared.query.End.TheVariants.{Lo, Hi}
use Rattle.ss_catalog.specs.declared.query.Kind.{Kind}
use Rattle.ss_catalog.specs.declared.query.Kind.TheVariants as kinds
use Rattle.ss_catalog.specs.declared.query.Query.{Query}
use Rattle.ss_laws.specs.Attained.{MayBeTrue}
use Rattle.ss_laws.specs.Contents.{contents_of, sum_in}
use Rattle.ss_laws.proofs.ContentsLemmas.{sum_in-lies}
use Rattle.ss_model.specs.History.{Happened, added}
use Rattle.ss_model.specs.Answers.{outcome_of}
use Rattle.ss_model.specs.Refusals.{IsHistory}
use Rattle.ss_model.specs.State.{Stream, state}
use Rattle.ss_model.specs.declared.outcome.Outcome.TheVariants.{Count, Sum, Mean}
use Rattle.ss_model.specs.declared.types.Run.{Run}
use Rattle.ss_query.specs.Asked.{seen_of}
use Rattle.ss_query.specs.declared.cut.Cut.{Cut}
use Rattle.ss_summary.specs.Filters.{bit_of, filter_of, union}
use Rattle.ss_summary.specs.declared.filter.Filter.{Filter}
use Rattle.ss_certify.specs.Checked.{Certifies}
use Rattle.ss_certify.specs.Evidence.{AllCertify, IsEvidence, cuts_of}
use Rattle.ss_certify.specs.Fill.{run}
use Rattle.ss_certify.specs.Runs.{HaveValues, values_of_runs}
use Rattle.ss_certify.specs.Shown.{MayBeAnswer}
use Rattle.ss_certify.specs.declared.evidence.Answer.TheVariants as answers
use Rattle.ss_certify.specs.declared.evidence.Cert.{Cert}
use Rattle.ss_certify.specs.declared.evidence.Evidence.{Evidence}
use Rattle.ss_certify.proofs.SharpAnswers.{MayBeAnswer-means, MayBeTrue-counts, MayBeTrue-sums}
use Rattle.ss_certify.proofs.SharpLemmas.{MayBeAnswer-answer}

abbrev a : List ℕ
a = codes "a"

-- seven values, whose windows are those of positions 1 to 4, 5 to 6, and 7
abbrev history : List Happened
history = map added (
    Create a (exp 2 1 1) ∷ Value a 10 (pos 5) ∷ Value a 20 (negsuc 2) ∷ Value a 30 (pos 8) ∷ Value a 40 (pos 1)
    ∷ Value a 50 (pos 9) ∷ Value a 60 (pos 2) ∷ Value a 70 (pos 7) ∷ [])

-- the filter of these words
abbrev words : ℕ → ℕ → ℕ → ℕ → Filter
words a b c d = record { words = a ∷ b ∷ c ∷ d ∷ [] }

abbrev readings : Stream
readings = record {
  number = 0;
  name = a;
  params = exp 2 1 1;
  windows =
      record {
        first = 1;
        summary = record {
          count = 4;
          sum = pos 11;
          min = negsuc 2;
          max = pos 8;
          t_first = 10;
          t_last = 40;
          filter = words (2 ^ 23 + 2 ^ 37) 0 (2 ^ 30) (2 ^ 49);
        };
      }
      ∷ record {
        first = 5;
        summary = record { count = 2; sum = pos 11; min = pos 2; max = pos 9; t_first = 50; t_last = 60; filter = words (2 ^ 60) 0 (2 ^ 15) 0 };
      }
      ∷ record {
        first = 7;
        summary = record { count = 1; sum = pos 7; min = pos 7; max = pos 7; t_first = 70; t_last = 70; filter = words 0 (2 ^ 19) 0 0 };
      } ∷ [];
  landmarks = [];
}

state-history : state history ≡ readings ∷ []
unfolding state window_index bit_of filter_of union
state-history = refl

abbrev query : Kind → ℕ → ℕ → Query
query kind from to = record { name = a; kind = kind; from = from; to = to }

-- the range from 10 to 25 splits the first window
abbrev first_cut : Cut
first_cut = record {
  first = 1;
  last = 4;
  split = record { count = 4; sum = pos 11; min = negsuc 2; max = pos 8; ends = 1; inside = 15; outside = 14 };
}

cuts-readings : cuts_of (seen_of kinds.Sum 10 25 readings) ≡ first_cut ∷ []
cuts-readings = refl

-- it may have -3 and -2 there, and 8 twice outside
abbrev with_runs : List Run → List Run → Cert
with_runs inside outside = record {
  first = 1;
  last = 4;
  split = first_cut.split;
  x = 2;
  inside = record { items = inside };
  outside = record { items = outside };
}

abbrev least : Cert
least = with_runs (run (negsuc 2) 1 ∷ run (negsuc 1) 1 ∷ []) (run (pos 8) 2 ∷ [])

have-values : (one : Run) (rest : List Run) → 1 ≤ one.times → HaveValues rest → HaveValues (one ∷ rest)
have-values one rest some have = All-cons (λ (r : Run). 1 ≤ r.times) one rest some have

have-none : HaveValues []
have-none = All-nil (λ (r : Run). 1 ≤ r.times)

Certifies-least : Certifies first_cut least
Certifies-least = record {
  first = refl;
  last = refl;
  split = refl;
  fewest = lit≤ tt;
  most = lit≤ tt;
  inside_runs = have-values (run (negsuc 2) 1) (run (negsuc 1) 1 ∷ []) (omega arith) (have-values (run (negsuc 1) 1) [] (omega arith) have-none);
  outside_runs = have-values (run (pos 8) 2) [] (omega arith) have-none;
  inside_count = refl;
  outside_count = refl;
  between = (
    omega (arith, ints),
    omega (arith, ints),
    (omega (arith, ints), omega (arith, ints), (omega (arith, ints), omega (arith, ints), (omega (arith, ints), omega (arith, ints), tt))),
  );
  least = (0, lit≤ tt, refl);
  greatest = (2, lit≤ tt, refl);
  sum = refl;
}

-- so -5 is the least sum from 10 to 25, with nothing known exactly
abbrev evidence : ℤ → Fraction → List Cert → Evidence
evidence sum known certs = record { answer = answers.Sum sum; known = known; certs = record { items = certs } }

abbrev nothing : Fraction
nothing = record { over = pos 0; under = 0 }

IsEvidence-least : IsEvidence kinds.Sum Lo (seen_of kinds.Sum 10 25 readings) (evidence (negsuc 4) nothing (least ∷ []))
unfolding sum_interval
IsEvidence-least = record {
  certificates = (Certifies-least, tt);
  known = refl;
  answers = refl;
  asked = refl;
}

-- the same values in another order and in other runs show it too, though no such evidence is made
abbrev other_runs : Cert
other_runs = with_runs (run (negsuc 1) 1 ∷ run (negsuc 2) 1 ∷ []) (run (pos 8) 1 ∷ run (pos 8) 1 ∷ [])

Certifies-other_runs : Certifies first_cut other_runs
Certifies-other_runs = record {
  first = refl;
  last = refl;
  split = refl;
  fewest = lit≤ tt;
  most = lit≤ tt;
  inside_runs = have-values (run (negsuc 1) 1) (run (negsuc 2) 1 ∷ []) (omega arith) (have-values (run (negsuc 2) 1) [] (omega arith) have-none);
  outside_runs = have-values (run (pos 8) 1) (run (pos 8) 1 ∷ []) (omega arith) (have-values (run (pos 8) 1) [] (omega arith) have-none);
  inside_count = refl;
  outside_count = refl;
  between = (
    omega (arith, ints),
    omega (arith, ints),
    (omega (arith, ints), omega (arith, ints), (omega (arith, ints), omega (arith, ints), (omega (arith, ints), omega (arith, ints), tt))),
  );
  least = (1, lit≤ tt, refl);
  greatest = (2, lit≤ tt, refl);
  sum = refl;
}

IsEvidence-other_runs : IsEvidence kinds.Sum Lo (seen_of kinds.Sum 10 25 readings) (evidence (negsuc 4) nothing (other_runs ∷ []))
unfolding sum_interval
IsEvidence-other_runs = record {
  certificates = (Certifies-other_runs, tt);
  known = refl;
  answers = refl;
  asked = refl;
}

-- and it may be the true one
MayBeAnswer-least : MayBeAnswer (state history) (query kinds.Sum 10 25) (answers.Sum (negsuc 4))
unfolding state window_index bit_of filter_of union
MayBeAnswer-least =
    MayBeAnswer-answer (state history) (query kinds.Sum 10 25) readings Lo (evidence (negsuc 4) nothing (least ∷ [])) refl IsEvidence-least

-- from 10 to 40 the first window lies whole in the range: its 4 values are known, and nothing else is to be shown
IsEvidence-whole : IsEvidence kinds.Count Lo (seen_of kinds.Count 10 40 readings)
    (record { answer = answers.Count 4; known = record { over = pos 11; under = 4 }; certs = record { items = [] } })
IsEvidence-whole = record {
  certificates = tt;
  known = refl;
  answers = refl;
  asked = refl;
}

-- one number that is another shows nothing: an answer, what is known, an end, a value, how often it occurs
answer-other : (known : Fraction) (certs : List Cert) → IsEvidence kinds.Sum Lo (seen_of kinds.Sum 10 25 readings) (evidence (negsuc 3) known certs) → ⊥
unfolding sum_interval
answer-other known certs is = let asked = is.asked in cc

known-sum_other : (answer : ℤ) (known : Fraction) (certs : List Cert) → known.over ≡ pos 1
    → IsEvidence kinds.Sum Lo (seen_of kinds.Sum 10 25 readings) (evidence answer known certs) → ⊥
known-sum_other answer known certs one is = let sum = ap (λ (v : Fraction). v.over) is.known in omega (arith, ints)

known-count_other : (answer : ℤ) (known : Fraction) (certs : List Cert) → known.under ≡ 1
    → IsEvidence kinds.Sum Lo (seen_of kinds.Sum 10 25 readings) (evidence answer known certs) → ⊥
known-count_other answer known certs one is = let count = ap (λ (v : Fraction). v.under) is.known in omega arith

-- a count in place of a sum shows nothing
kind-other : (n : ℕ) (w : Evidence) → w.answer ≡ answers.Count n → IsEvidence kinds.Sum Lo (seen_of kinds.Sum 10 25 readings) w → ⊥
kind-other n w count is = let there = sym count ∙ is.answers in cc

end-other : IsEvidence kinds.Sum Hi (seen_of kinds.Sum 10 25 readings) (evidence (negsuc 4) nothing (least ∷ [])) → ⊥
unfolding sum_interval
end-other is = let asked = is.asked in cc

certificate-missing : (w : Evidence) → w.certs.items ≡ [] → IsEvidence kinds.Sum Lo (seen_of kinds.Sum 10 25 readings) w → ⊥
certificate-missing w none is = subst (λ certs. AllCertify (first_cut ∷ []) certs) none is.certificates

value-other : Certifies first_cut (with_runs (run (negsuc 3) 1 ∷ run (negsuc 1) 1 ∷ []) (run (pos 8) 2 ∷ [])) → ⊥
value-other is = let low = is.between.0 in omega (arith, ints)

sum-other : Certifies first_cut (with_runs (run (negsuc 2) 1 ∷ run (pos 1) 1 ∷ []) (run (pos 8) 2 ∷ [])) → ⊥
sum-other is = let sum = is.sum in omega (arith, ints)

number-other : Certifies first_cut (with_runs (run (negsuc 2) 1 ∷ run (negsuc 1) 1 ∷ []) (run (pos 8) 1 ∷ [])) → ⊥
number-other is = let count = is.outside_count in omega arith

run-empty : Certifies first_cut (with_runs (run (negsuc 2) 1 ∷ run (negsuc 1) 1 ∷ []) (run (pos 8) 2 ∷ run (pos 8) 0 ∷ [])) → ⊥
run-empty is =
    let P : Run → Type 0 = λ one. 1 ≤ one.times in
    let some = All-head P (run (pos 8) 0) [] (All-tail P (run (pos 8) 2) (run (pos 8) 0 ∷ []) is.outside_runs) in
    omega arith

-- and of the window: a position, a figure, how many of its values lie in the range
first-other : (c : Cert) → c.first ≡ 2 → Certifies first_cut c → ⊥
first-other c two is = let first = is.first in omega arith

last-other : (c : Cert) → c.last ≡ 5 → Certifies first_cut c → ⊥
last-other c five is = let last = is.last in omega arith

split-other : (c : Cert) (s : SplitFigures) → c.split ≡ s → Certifies first_cut c → s ≡ first_cut.split
split-other c s figures is = sym figures ∙ is.split

free-other : (c : Cert) → c.split.outside ≡ 13 → Certifies first_cut c → ⊥
free-other c thirteen is = let free = ap (λ (s : SplitFigures). s.outside) is.split in omega arith

x-other : (c : Cert) → c.inside.items ≡ least.inside.items → c.x ≡ 3 → Certifies first_cut c → ⊥
x-other c same three is = let count = ap (λ runs. length (values_of_runs runs)) (sym same) ∙ is.inside_count in omega arith

-- the certificates of two windows don't show it the other way round
cuts-25-55 : map (λ (cut : Cut). cut.first) (cuts_of (seen_of kinds.Sum 25 55 readings)) ≡ 1 ∷ 5 ∷ []
cuts-25-55 = refl

exchanged : (answer : ℤ) (known : Fraction) (earlier later : Cert) → earlier.first ≡ 1 → later.first ≡ 5
    → IsEvidence kinds.Sum Hi (seen_of kinds.Sum 25 55 readings) (evidence answer known (later ∷ earlier ∷ [])) → ⊥
exchanged answer known earlier later one five is = let first = is.certificates.0.first in omega arith

-- ---- the ends of answers

-- from 25 to 55 two windows are split: 2 to 4 of their values lie there, of a sum from -3 to 25, and each end may be the true answer
answers-readings : map (λ kind. outcome_of (state history) (query kind 25 55)) (kinds.Count ∷ kinds.Sum ∷ [])
    ≡ Some (Count 2 4) ∷ Some (Sum (negsuc 2) (pos 25)) ∷ []
unfolding outcome_of state window_index sum_interval
answers-readings = refl

counts-25-55 : MayBeTrue (state history) (query kinds.Count 25 55) (pos 2) × MayBeTrue (state history) (query kinds.Count 25 55) (pos 4)
unfolding outcome_of state window_index
counts-25-55 = MayBeTrue-counts (state history) (query kinds.Count 25 55) 2 4 refl

sums-25-55 : MayBeTrue (state history) (query kinds.Sum 25 55) (negsuc 2) × MayBeTrue (state history) (query kinds.Sum 25 55) (pos 25)
unfolding outcome_of state window_index sum_interval
sums-25-55 = MayBeTrue-sums (state history) (query kinds.Sum 25 55) (negsuc 2) (pos 25) refl

-- their mean is from -1 to 17/2
abbrev whole : ℤ → Fraction
whole z = record { over = z; under = 1 }

mean-25-55 : outcome_of (state history) (query kinds.Mean 25 55) ≡ Some (Mean (Sure (whole (negsuc 0)) (record { over = pos 17; under = 2 })))
unfolding outcome_of state window_index mean_interval lowest
mean-25-55 = refl

means-25-55 : MayBeAnswer (state history) (query kinds.Mean 25 55) (answers.Mean (Some (whole (negsuc 0))))
    × MayBeAnswer (state history) (query kinds.Mean 25 55) (answers.Mean (Some (record { over = pos 17; under = 2 })))
means-25-55 =
    let known = Sure (whole (negsuc 0)) (record { over = pos 17; under = 2 }) in (
      MayBeAnswer-means (state history) (query kinds.Mean 25 55) known Lo mean-25-55,
      MayBeAnswer-means (state history) (query kinds.Mean 25 55) known Hi mean-25-55,
    )

-- nothing outside an answer may be true
sum-outside : IsHistory history → MayBeTrue (state history) (query kinds.Sum 25 55) (pos 26) → ⊥
unfolding state window_index sum_interval bit_of filter_of union
sum-outside whole may =
    let like = may history readings whole refl refl in
    let high : sum_in 25 55 like.contents ≤ℤ pos 25 = (sum_in-lies (contents_of history readings) like.contents 25 55 like.sound like.like).1 in
    let truth : sum_in 25 55 like.contents ≡ pos 26 = same_Some _ _ like.truth in
    omega (arith, ints)
