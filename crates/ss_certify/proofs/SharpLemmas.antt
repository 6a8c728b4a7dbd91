-- What certificates have in the range are values that fit the windows that it splits, and so evidence shows an answer that may be
-- the true one.
use Rattle.std.specs.Prelude.{◌≡◌, ℕ, ◌+◌, ◌≤◌, true, IsTrue, List, [], ◌∷◌, length, map, All}
use Rattle.std.specs.Prelude.{Option, None, Some, IfSome, option_map}
use Rattle.std.specs.List.{filter, list_all}
use Rattle.std.proofs.Common.{ap, ap₂, arith, refl, sym, subst, ◌∙◌}
use Rattle.std.proofs.lemmas.Bool.{and_parts}
use Rattle.std.proofs.lemmas.Int.{ints}
use Rattle.std.proofs.lemmas.List.Elements.{All-cons, All-filter, All-head, All-map, All-nil, All-tail, filter_passes}
use Rattle.std.proofs.lemmas.List.Sums.{sum_by-cons}
use Rattle.ss_bounds.specs.declared.fraction.Fraction.{Fraction}
use Rattle.ss_bounds.specs.Extremes.{listed}
use Rattle.ss_bounds.specs.Means.{with_values}
use Rattle.ss_bounds.proofs.BestLemmas.{fraction-is, with_values-none}
use Rattle.ss_bounds.specs.Split.{IsSplit, SplitFigures, greatest_count, least_count}
use Rattle.ss_catalog.specs.declared.query.End.{End}
use Rattle.ss_catalog.specs.declared.query.Kind.{Kind}
use Rattle.ss_catalog.specs.declared.query.Query.{Query}
use Rattle.ss_laws.specs.Contents.{contents_of}
use Rattle.ss_laws.specs.Sides.{AllFit, FitSplit, Sides, count_inside, sum_inside}
use Rattle.ss_laws.proofs.ContentsLemmas.{IsAttained-named}
use Rattle.ss_landmarks.specs.Free.{is_free}
use Rattle.ss_landmarks.specs.Landmark.{Landmark}
use Rattle.ss_model.specs.History.{Happened}
use Rattle.ss_model.specs.Answers.{answer_of, outcome_of}
use Rattle.ss_model.specs.Interval.{is_split, known_values, split_figures, split_windows}
use Rattle.ss_model.specs.Marks.{lies_free, marked_values}
use Rattle.ss_model.specs.Refusals.{IsHistory}
use Rattle.ss_model.specs.Standing.{IsStream}
use Rattle.ss_model.specs.State.{Stream, state, stream_named}
use Rattle.ss_model.specs.Tiling.{StandFrom}
use Rattle.ss_model.specs.declared.outcome.Outcome.{Outcome}
use Rattle.ss_model.specs.declared.types.Window.{Window}
use Rattle.ss_model.proofs.HistoryLemmas.{IsState-state}
use Rattle.ss_query.specs.Asked.{HasCuts, IsCut, cut_of, seen_of, values_seen}
use Rattle.ss_query.specs.declared.asking.Seen.{Seen}
use Rattle.ss_query.specs.declared.cut.Cut.{Cut}
use Rattle.ss_query.proofs.Outcomes.{seen_count-seen, seen_sum-seen, outcome_seen-seen_of}
use Rattle.ss_query.proofs.Seeing.{IsSeen-seen_of}
use Rattle.ss_model.proofs.SplitLemmas.{IsSplit-window}
pub use Rattle.ss_model.proofs.RisingLemmas.{All-named}
use Rattle.ss_summary.specs.Figures.{IsPossible}
use Rattle.ss_certify.specs.Checked.{Certifies, inside_of, outside_of}
use Rattle.ss_certify.specs.Evidence.{AllCertify, IsEvidence, answer_from, certified, cuts_of, end_asked, with_certified}
use Rattle.ss_certify.specs.Shown.{IsAnswerOfLike, MayBeAnswer}
use Rattle.ss_certify.specs.declared.evidence.Cert.{Cert}
use Rattle.ss_certify.specs.declared.evidence.Evidence.{Evidence}
use Rattle.ss_certify.proofs.BetweenLemmas.{between-first, between-last}
use Rattle.ss_certify.proofs.RunLemmas.{total-append}

-- ---- certificates have values that fit

-- the values of a certificate, those in the range and the others
abbrev pub sides_of : Cert → Sides
sides_of c = record { inside = inside_of c; outside = outside_of c }

-- no more values may lie in the range than the window has
few-inside : (s : SplitFigures) (x : ℕ) → IsSplit s → x ≤ greatest_count s → x ≤ s.count
few-inside s x split most = omega (arith, split.one_end, split.count_low, most)

pub FitSplit-certifies : (cut : Cut) (c : Cert) → IsSplit cut.split → Certifies cut c → FitSplit cut.split (sides_of c)
FitSplit-certifies cut c split is =
    let s = cut.split in
    record {
      fewest = subst (λ n. least_count s ≤ n) (sym is.inside_count) is.fewest;
      most = subst (λ n. n ≤ greatest_count s) (sym is.inside_count) is.most;
      number = ap₂ (λ m n. m + n) is.inside_count is.outside_count ∙ omega (arith, few-inside s c.x split is.most);
      inside_between = between-first s.min s.max (inside_of c) (outside_of c) is.between;
      outside_between = between-last s.min s.max (inside_of c) (outside_of c) is.between;
      least = is.least;
      greatest = is.greatest;
      sum = sym (total-append (inside_of c) (outside_of c)) ∙ is.sum;
    }

-- so all of them do, of windows that a range may split
pub AllFit-certifies : (cuts : List Cut) (certs : List Cert) → All (λ (cut : Cut). IsSplit cut.split) cuts → AllCertify cuts certs
    → AllFit (map (λ (cut : Cut). cut.split) cuts) (map sides_of certs)
AllFit-certifies [] [] split certify = tt
AllFit-certifies [] (c ∷ certs) split certify = certify
AllFit-certifies (cut ∷ cuts) [] split certify = certify
AllFit-certifies (cut ∷ cuts) (c ∷ certs) split certify =
    let P : Cut → Type 0 = λ one. IsSplit one.split in
    (FitSplit-certifies cut c (All-head P cut cuts split) certify.0, AllFit-certifies cuts certs (All-tail P cut cuts split) certify.1)

-- how many of these values lie inside in all, and their sum
abbrev pub values_inside : List Sides → Fraction
values_inside sides = record { over = sum_inside sides; under = count_inside sides }

-- what the certificates add to what is known is what these values are
pub certified-values : (known : Fraction) (cuts : List Cut) (certs : List Cert) → AllCertify cuts certs
    → with_certified known certs ≡ with_values known (values_inside (map sides_of certs))
certified-values known [] [] certify = with_values-none known
certified-values known [] (c ∷ certs) certify = absurd certify
certified-values known (cut ∷ cuts) [] certify = absurd certify
certified-values known (cut ∷ cuts) (c ∷ certs) certify =
    let one = sum_by-cons (λ (v : Sides). length v.inside) (sides_of c) (map sides_of certs) in
    certified-values (with_values known (certified c)) cuts certs certify.1
    ∙ fraction-is _ _ (omega (arith, ints)) (omega (arith, certify.0.inside_count, one))

-- ---- what is known of a stream

pub IsCut-cut_of : (landmarks : List Landmark) (from to : ℕ) (w : Window) → IsTrue (lies_free landmarks w) → IsPossible w.summary
    → is_split from to w ≡ true → IsCut (cut_of landmarks from to w)
IsCut-cut_of landmarks from to w free possible split = record {
  split = IsSplit-window landmarks from to w split free possible;
  span = omega (arith, possible.count_low);
}

-- each window that stands free is cut so, where the range splits it
cut-each : (landmarks : List Landmark) (from to first time : ℕ) (ws : List Window) → StandFrom first time ws
    → IsTrue (list_all (lies_free landmarks) ws) → All (λ w. is_split from to w ≡ true → IsCut (cut_of landmarks from to w)) ws
cut-each landmarks from to first time [] stand free = All-nil (λ w. is_split from to w ≡ true → IsCut (cut_of landmarks from to w))
cut-each landmarks from to first time (w ∷ ws) stand free =
    let both = and_parts (lies_free landmarks w) (list_all (lies_free landmarks) ws) free in
    All-cons (λ v. is_split from to v ≡ true → IsCut (cut_of landmarks from to v)) w ws
    (IsCut-cut_of landmarks from to w both.0 stand.1)
    (cut-each landmarks from to (first + w.summary.count) (w.summary.t_last + 1) ws stand.3 both.1)

module _ (kind : Kind) (from to : ℕ) (s : Stream) (is : IsStream s) where
  abbrev split : List Window
  split = filter (is_split from to) s.windows

  -- the windows that are cut are those that the range splits
  pub cuts_of-seen_of : cuts_of (seen_of kind from to s) ≡ map (cut_of s.landmarks from to) split
  cuts_of-seen_of = (IsSeen-seen_of kind from to s is).cuts

  pub IsCut-seen_of : All IsCut (cuts_of (seen_of kind from to s))
  IsCut-seen_of =
      let P : Window → Type 0 = λ w. is_split from to w ≡ true → IsCut (cut_of s.landmarks from to w) in
      let each = All-filter (is_split from to) P s.windows (cut-each s.landmarks from to 1 0 s.windows is.windows.stand is.free) in
      let passes = filter_passes (is_split from to) s.windows in
      subst (All IsCut) (sym cuts_of-seen_of)
      (All-map IsCut (cut_of s.landmarks from to) split (λ k d inside. each k d inside (passes k d inside)))

  -- so both are cut as they are to be
  IsCut-listed : (left right : Option Cut) → All IsCut (listed left right) → IfSome left IsCut × IfSome right IsCut
  IsCut-listed None None all = (tt, tt)
  IsCut-listed None (Some r) all = (tt, All-head IsCut r [] all)
  IsCut-listed (Some l) None all = (All-head IsCut l [] all, tt)
  IsCut-listed (Some l) (Some r) all = (All-head IsCut l (r ∷ []) all, All-head IsCut r [] (All-tail IsCut l (r ∷ []) all))

  pub HasCuts-seen_of : HasCuts (seen_of kind from to s)
  HasCuts-seen_of =
      let both = IsCut-listed (seen_of kind from to s).left (seen_of kind from to s).right IsCut-seen_of in record { left = both.0; right = both.1 }

  -- they have the figures of the windows that the range splits
  figures-cuts : (ws : List Window)
      → map (λ (cut : Cut). cut.split) (map (cut_of s.landmarks from to) ws) ≡ map (split_figures (is_free s.landmarks) from to) ws
  figures-cuts [] = refl
  figures-cuts (w ∷ ws) = ap (λ l. split_figures (is_free s.landmarks) from to w ∷ l) (figures-cuts ws)

  pub figures-seen_of : map (λ (cut : Cut). cut.split) (cuts_of (seen_of kind from to s)) ≡ split_windows (is_free s.landmarks) from to s.windows
  figures-seen_of = ap (map (λ (cut : Cut). cut.split)) cuts_of-seen_of ∙ figures-cuts split

  pub values-seen_of : values_seen (seen_of kind from to s) ≡ known_values from to s.windows (marked_values s.landmarks)
  values-seen_of = fraction-is _ _
      (seen_sum-seen s.landmarks kind from to (seen_of kind from to s) s.windows (IsSeen-seen_of kind from to s is))
      (seen_count-seen s.landmarks kind from to (seen_of kind from to s) s.windows (IsSeen-seen_of kind from to s is))

  -- certificates of the cut windows have values that fit those that the range splits
  pub AllFit-seen_of : (certs : List Cert) → AllCertify (cuts_of (seen_of kind from to s)) certs
      → AllFit (split_windows (is_free s.landmarks) from to s.windows) (map sides_of certs)
  AllFit-seen_of certs certify =
      subst (λ splits. AllFit splits (map sides_of certs)) figures-seen_of
      (AllFit-certifies (cuts_of (seen_of kind from to s)) certs (λ k d inside. (IsCut-seen_of k d inside).split) certify)

-- ---- what evidence shows

pub IsStream-named : (history : List Happened) (name : List ℕ) (s : Stream) → IsHistory history → stream_named name (state history) ≡ Some s → IsStream s
IsStream-named history name s whole = All-named IsStream name (state history) s (IsState-state history whole).each

module _ (streams : List Stream) (query : Query) (s : Stream) (end : End) (w : Evidence) (found : stream_named query.name streams ≡ Some s)
    (evidence : IsEvidence query.kind end (seen_of query.kind query.from query.to s) w) where
  abbrev seen : Seen
  seen = seen_of query.kind query.from query.to s

  module _ (is : IsStream s) where
    abbrev sides : List Sides
    sides = map sides_of w.certs.items

    fit : AllFit (split_windows (is_free s.landmarks) query.from query.to s.windows) sides
    fit = AllFit-seen_of query.kind query.from query.to s is w.certs.items evidence.certificates

    all-values : with_certified w.known w.certs.items
        ≡ with_values (known_values query.from query.to s.windows (marked_values s.landmarks)) (values_inside sides)
    all-values =
        certified-values w.known (cuts_of seen) w.certs.items evidence.certificates
        ∙ ap (λ k. with_values k (values_inside sides)) (evidence.known ∙ values-seen_of query.kind query.from query.to s is)

    is-answer : (history : List Happened) → IsHistory history → state history ≡ streams → IsAnswerOfLike (contents_of history s) query w.answer
    is-answer history whole is_state =
        let at = IsAttained-named history query.name s query.from query.to sides whole (ap (stream_named query.name) is_state ∙ found) fit in
        record {
          contents = at.contents;
          sound = at.sound;
          like = at.like;
          truth = ap (answer_from query.kind) (fraction-is _ _ at.sums at.counts ∙ sym all-values) ∙ sym evidence.answers;
        }

    pub end_asked-answer : (outcome : Outcome) → outcome_of streams query ≡ Some outcome → end_asked end outcome ≡ Some w.answer
    unfolding outcome_of
    end_asked-answer outcome answered =
        let here : Some (answer_of query s) ≡ Some outcome = sym (ap (λ o. option_map (answer_of query) o) found) ∙ answered in
        let same : answer_of query s ≡ outcome = cc in
        ap (end_asked end) (sym (outcome_seen-seen_of query s is ∙ same)) ∙ evidence.asked

  -- each stream of a history is one as it has to be
  pub MayBeAnswer-answer : MayBeAnswer streams query w.answer
  MayBeAnswer-answer history u whole is other =
      let both : Some s ≡ Some u = sym found ∙ other in
      let same : s ≡ u = cc in
      subst (λ x. IsAnswerOfLike (contents_of history x) query w.answer) same
      (is-answer (IsStream-named history query.name s whole (ap (stream_named query.name) is ∙ found)) history whole is)
