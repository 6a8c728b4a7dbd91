-- Values that are moved to other times are as many in a range as there are times in it, and their windows are the same, filters included.
use Rattle.std.specs.Prelude.{◌≡◌, ℕ, zero, suc, ◌+◌, ◌-◌, Bool, ℤ, pos, ◌+ℤ◌, List, [], ◌∷◌, length, get_or, map, take, drop, All, Some}
use Rattle.std.specs.Int.{int_min, int_max}
use Rattle.std.proofs.Common.{ap, arith, inl, inr, refl, sym, ◌∙◌, subst}
use Rattle.std.proofs.lemmas.Bool.{cases_Bool}
use Rattle.std.proofs.lemmas.List.{length-append}
use Rattle.std.proofs.lemmas.List.Elements.{All-cons, All-head, All-nil, All-tail}
use Rattle.ss_bounds.specs.Times.{lies_in}
use Rattle.ss_bounds.specs.Truth.{asked}
use Rattle.ss_catalog.specs.declared.query.Kind.TheVariants as kinds
use Rattle.ss_catalog.specs.declared.query.Query.{Query}
use Rattle.ss_landmarks.specs.Free.{is_free}
use Rattle.ss_summary.specs.Filters.{filter_of_point, filter_with, union}
use Rattle.ss_summary.specs.Points.{Point, Old, New}
use Rattle.ss_summary.specs.Summaries.{greatest, least, summary_of, time_at_end, total}
use Rattle.ss_model.specs.Boundaries.{boundaries}
use Rattle.ss_model.specs.Marks.{marked_values}
use Rattle.ss_targets.specs.Rule.{rule_of, step_of}
use Rattle.ss_model.specs.State.{Stream, stream_named}
use Rattle.ss_model.specs.Truth.{RiseAtFree}
use Rattle.ss_model.specs.Windows.{stretches, time_at}
use Rattle.ss_model.specs.declared.types.Window.{Window}
use Rattle.ss_model.proofs.IntervalLemmas.{AreOf}
use Rattle.ss_model.proofs.PieceLemmas.{AreOf-windows}
use Rattle.ss_model.proofs.Rises.{boundaries-same}
use Rattle.ss_laws.specs.Attained.{MayBeTrue, truth_of_kind}
use Rattle.ss_laws.specs.Contents.{AreContents, Contents, IsSayableValue, Like, contents_of, count_in, own_windows, unfiltered_windows}
use Rattle.ss_laws.specs.Moved.{AreIndistinguishable, MayBeCounted, at_times_of, moved_to_times}
use Rattle.ss_laws.proofs.ContentsLemmas.{AreContents-named}
use Rattle.ss_laws.proofs.PieceLemmas.{AreOf-alike, cons-same}
use Rattle.ss_laws.proofs.StepLemmas.{boundaries-others}

-- ---- lists

pub length-at_times_of : (ps ts : List Point) → length ps ≡ length ts → length (at_times_of ps ts) ≡ length ps
length-at_times_of [] ts same = refl
length-at_times_of (p ∷ ps) [] same = cc
length-at_times_of (p ∷ ps) (t ∷ ts) same = omega (arith, length-at_times_of ps ts (omega (arith, same)))

length-drop_both : (k : ℕ) (ps ts : List Point) → length ps ≡ length ts → length (drop k ps) ≡ length (drop k ts)
length-drop_both zero ps ts same = same
length-drop_both (suc k) [] [] same = refl
length-drop_both (suc k) [] (t ∷ ts) same = cc
length-drop_both (suc k) (p ∷ ps) [] same = cc
length-drop_both (suc k) (p ∷ ps) (t ∷ ts) same = length-drop_both k ps ts (omega (arith, same))

length-take_both : (k : ℕ) (ps ts : List Point) → length ps ≡ length ts → length (take k ps) ≡ length (take k ts)
length-take_both zero ps ts same = refl
length-take_both (suc k) [] [] same = refl
length-take_both (suc k) [] (t ∷ ts) same = cc
length-take_both (suc k) (p ∷ ps) [] same = cc
length-take_both (suc k) (p ∷ ps) (t ∷ ts) same = ap suc (length-take_both k ps ts (omega (arith, same)))

take-at_times_of : (k : ℕ) (ps ts : List Point) → take k (at_times_of ps ts) ≡ at_times_of (take k ps) (take k ts)
take-at_times_of zero ps ts = refl
take-at_times_of (suc k) [] ts = refl
take-at_times_of (suc k) (p ∷ ps) [] = refl
take-at_times_of (suc k) (p ∷ ps) (t ∷ ts) = ap (λ xs. (t.0, p.1, p.2) ∷ xs) (take-at_times_of k ps ts)

drop-at_times_of : (k : ℕ) (ps ts : List Point) → drop k (at_times_of ps ts) ≡ at_times_of (drop k ps) (drop k ts)
drop-at_times_of zero ps ts = refl
drop-at_times_of (suc k) [] ts = refl
drop-at_times_of (suc k) (p ∷ ps) [] = sym (at_times_of-none (drop k ps))
  where
    at_times_of-none : (xs : List Point) → at_times_of xs [] ≡ []
    at_times_of-none [] = refl
    at_times_of-none (x ∷ xs) = refl
drop-at_times_of (suc k) (p ∷ ps) (t ∷ ts) = drop-at_times_of k ps ts

-- ---- what depends on the times alone

pub length-asked : (from to : ℕ) (ps ts : List Point) → length ps ≡ length ts
    → length (asked from to (at_times_of ps ts)) ≡ length (asked from to ts)
length-asked from to [] [] same = refl
length-asked from to [] (t ∷ ts) same = cc
length-asked from to (p ∷ ps) [] same = cc
length-asked from to (p ∷ ps) (t ∷ ts) same =
    let later = length-asked from to ps ts (omega (arith, same)) in
    elim (cases_Bool (lies_in from to t.0)) [
      | inl is ↦ rw is (ap suc later)
      | inr not ↦ rw not later
    ]

pub RiseAtFree-at_times_of : (free : ℕ → Bool) (start : ℕ) (ps ts : List Point) → length ps ≡ length ts → RiseAtFree free start ts
    → RiseAtFree free start (at_times_of ps ts)
RiseAtFree-at_times_of free start [] ts same rising = tt
RiseAtFree-at_times_of free start (p ∷ ps) [] same rising = cc
RiseAtFree-at_times_of free start (p ∷ ps) (t ∷ ts) same rising =
    (rising.0, rising.1, RiseAtFree-at_times_of free (t.0 + 1) ps ts (omega (arith, same)) rising.2)

time_at_end-at_times_of : (time : ℕ) (ps ts : List Point) → length ps ≡ length ts → time_at_end time (at_times_of ps ts) ≡ time_at_end time ts
time_at_end-at_times_of time [] [] same = refl
time_at_end-at_times_of time [] (t ∷ ts) same = cc
time_at_end-at_times_of time (p ∷ ps) [] same = cc
time_at_end-at_times_of time (p ∷ ps) (t ∷ ts) same = time_at_end-at_times_of t.0 ps ts (omega (arith, same))

-- ---- what depends on the values alone

total-at_times_of : (ps ts : List Point) → length ps ≡ length ts → total (at_times_of ps ts) ≡ total ps
total-at_times_of [] ts same = refl
total-at_times_of (p ∷ ps) [] same = cc
total-at_times_of (p ∷ ps) (t ∷ ts) same = ap (λ z. p.1 +ℤ z) (total-at_times_of ps ts (omega (arith, same)))

least-at_times_of : (v : ℤ) (ps ts : List Point) → length ps ≡ length ts → least v (at_times_of ps ts) ≡ least v ps
least-at_times_of v [] ts same = refl
least-at_times_of v (p ∷ ps) [] same = cc
least-at_times_of v (p ∷ ps) (t ∷ ts) same = ap (int_min v) (least-at_times_of p.1 ps ts (omega (arith, same)))

greatest-at_times_of : (v : ℤ) (ps ts : List Point) → length ps ≡ length ts → greatest v (at_times_of ps ts) ≡ greatest v ps
greatest-at_times_of v [] ts same = refl
greatest-at_times_of v (p ∷ ps) [] same = cc
greatest-at_times_of v (p ∷ ps) (t ∷ ts) same = ap (int_max v) (greatest-at_times_of p.1 ps ts (omega (arith, same)))

filter_of_point-at : (time : ℕ) (p : Point) → filter_of_point (time, p.1, p.2) ≡ filter_of_point p
filter_of_point-at time (t, v, New) = refl
filter_of_point-at time (t, v, Old) = refl

filter_with-at_times_of : (q : Point) (time : ℕ) (ps ts : List Point) → length ps ≡ length ts
    → filter_with (filter_of_point (time, q.1, q.2)) (at_times_of ps ts) ≡ filter_with (filter_of_point q) ps
filter_with-at_times_of q time [] ts same = filter_of_point-at time q
filter_with-at_times_of q time (p ∷ ps) [] same = cc
filter_with-at_times_of q time (p ∷ ps) (t ∷ ts) same =
    ap (λ f. union f (filter_with (filter_of_point (t.0, p.1, p.2)) (at_times_of ps ts))) (filter_of_point-at time q)
    ∙ ap (union (filter_of_point q)) (filter_with-at_times_of p t.0 ps ts (omega (arith, same)))

-- so the summary is that of the values, where the first and the last time are theirs
summary_of-at_times_of : (ps ts : List Point) → length ps ≡ length ts → (summary_of ts).t_first ≡ (summary_of ps).t_first
    → (summary_of ts).t_last ≡ (summary_of ps).t_last → summary_of (at_times_of ps ts) ≡ summary_of ps
summary_of-at_times_of [] ts same first last = refl
summary_of-at_times_of (p ∷ ps) [] same first last = cc
summary_of-at_times_of (p ∷ ps) (t ∷ ts) same first last =
    let less : length ps ≡ length ts = omega (arith, same) in
    let count : length (at_times_of ps ts) ≡ length ps = length-at_times_of ps ts less in
    let sum = total-at_times_of ps ts less in
    let min = least-at_times_of p.1 ps ts less in
    let max = greatest-at_times_of p.1 ps ts less in
    let end : time_at_end t.0 (at_times_of ps ts) ≡ time_at_end p.0 ps = time_at_end-at_times_of t.0 ps ts less ∙ last in
    let filter = filter_with-at_times_of p t.0 ps ts less in
    rw (count, sum, min, max, end, filter, first) refl

-- ---- windows

stretches-at_times_of : (first : ℕ) (bs : List ℕ) (ps ts : List Point) → length ps ≡ length ts
    → unfiltered_windows (stretches first bs ts) ≡ unfiltered_windows (stretches first bs ps)
    → stretches first bs (at_times_of ps ts) ≡ stretches first bs ps
stretches-at_times_of first bs [] ts same like = refl
stretches-at_times_of first bs (p ∷ ps) [] same like = cc
stretches-at_times_of first [] (p ∷ ps) (t ∷ ts) same like =
    let here = (cons-same like).0 in
    ap (λ f. record { first = first; summary = f } ∷ [])
    (summary_of-at_times_of (p ∷ ps) (t ∷ ts) same (ap (λ (w : Window). w.summary.t_first) here) (ap (λ (w : Window). w.summary.t_last) here))
stretches-at_times_of first (b ∷ bs) (p ∷ ps) (t ∷ ts) same like =
    let k = b + 1 - first in
    let parts = cons-same like in
    let here = parts.0 in
    let front = ap summary_of (take-at_times_of k (p ∷ ps) (t ∷ ts))
    ∙ summary_of-at_times_of (take k (p ∷ ps)) (take k (t ∷ ts)) (length-take_both k (p ∷ ps) (t ∷ ts) same)
    (ap (λ (w : Window). w.summary.t_first) here) (ap (λ (w : Window). w.summary.t_last) here) in
    let behind = ap (stretches (b + 1) bs) (drop-at_times_of k (p ∷ ps) (t ∷ ts))
    ∙ stretches-at_times_of (b + 1) bs (drop k (p ∷ ps)) (drop k (t ∷ ts)) (length-drop_both k (p ∷ ps) (t ∷ ts) same) parts.1 in
    ap (λ f. record { first = first; summary = f } ∷ stretches (b + 1) bs (drop k (at_times_of (p ∷ ps) (t ∷ ts)))) front
    ∙ ap (λ ws. record { first = first; summary = summary_of (take k (p ∷ ps)) } ∷ ws) behind

-- ---- contents

All-at_times_of : (ps ts : List Point) → All IsSayableValue ps → All IsSayableValue ts → All IsSayableValue (at_times_of ps ts)
All-at_times_of [] ts values times = All-nil IsSayableValue
All-at_times_of (p ∷ ps) [] values times = All-nil IsSayableValue
All-at_times_of (p ∷ ps) (t ∷ ts) values times =
    All-cons IsSayableValue (t.0, p.1, p.2) (at_times_of ps ts)
    ((All-head IsSayableValue t ts times).0, (All-head IsSayableValue p ps values).1)
    (All-at_times_of ps ts (All-tail IsSayableValue p ps values) (All-tail IsSayableValue t ts times))

module _ (c d : Contents) (sound : AreContents c) (other : AreContents d) (like : Like d c) where
  as_many : length c.plain ≡ length d.plain
  as_many = sym like.number

  pub AreContents-moved : AreContents (moved_to_times c d)
  AreContents-moved = record {
    target = sound.target;
    few = omega (arith, length-at_times_of c.plain d.plain as_many, sound.few);
    sayable = All-at_times_of c.plain d.plain sound.sayable other.sayable;
    rising = RiseAtFree-at_times_of (is_free c.landmarks) 0 c.plain d.plain as_many
        (subst (λ ls. RiseAtFree (is_free ls) 0 d.plain) like.landmarks other.rising);
    landmarks = sound.landmarks;
  }

  -- the other values are of the same windows, at rising times that no landmark of the first covers
  others-of : AreOf (own_windows c) d.plain
  others-of = AreOf-alike (own_windows d) (own_windows c) d.plain like.windows (AreOf-windows (rule_of d.params) d.plain)

  others-rise : RiseAtFree (is_free c.landmarks) 0 d.plain
  others-rise = subst (λ ls. RiseAtFree (is_free ls) 0 d.plain) like.landmarks other.rising

  -- and so they are cut after the same boundaries, as the values at their times are
  times-moved : (ps ts : List Point) (k : ℕ) → length ps ≡ length ts →
      get_or (map (λ (p : Point). p.0) (at_times_of ps ts)) k 0 ≡ get_or (map (λ (p : Point). p.0) ts) k 0
  times-moved [] [] k same = refl
  times-moved [] (t ∷ ts) k same = cc
  times-moved (p ∷ ps) [] k same = cc
  times-moved (p ∷ ps) (t ∷ ts) zero same = refl
  times-moved (p ∷ ps) (t ∷ ts) (suc k) same = times-moved ps ts k (omega (arith, same))

  boundaries-cut : (n : ℕ) → boundaries (rule_of c.params) (time_at d.plain) n ≡ boundaries (rule_of c.params) (time_at c.plain) n
  boundaries-cut n = boundaries-others (is_free c.landmarks) 0 (rule_of c.params) c.plain d.plain others-of sound.rising others-rise n

  windows-moved : own_windows (moved_to_times c d) ≡ own_windows c
  windows-moved =
      let rule = rule_of c.params in
      let n = length c.plain in
      let bs = boundaries rule (time_at c.plain) n in
      let own = at_times_of c.plain d.plain in
      let number : stretches 1 (boundaries rule (time_at own) (length own)) own ≡ stretches 1 bs own =
      ap (λ m. stretches 1 (boundaries rule (time_at own) m) own) (length-at_times_of c.plain d.plain as_many)
      ∙ ap (λ cs. stretches 1 cs own)
      (boundaries-same rule (time_at own) (time_at d.plain) n
      (λ place some low. ap (step_of rule.step) (times-moved c.plain d.plain (place - 1) as_many))
      ∙ boundaries-cut n) in
      let others : unfiltered_windows (stretches 1 bs d.plain) ≡ unfiltered_windows (stretches 1 bs c.plain) =
      ap (λ cs. unfiltered_windows (stretches 1 cs d.plain)) (sym (boundaries-cut n))
      ∙ ap (λ m. unfiltered_windows (stretches 1 (boundaries rule (time_at d.plain) m) d.plain)) as_many
      ∙ ap (λ params. unfiltered_windows (stretches 1 (boundaries (rule_of params) (time_at d.plain) (length d.plain)) d.plain)) (sym like.params)
      ∙ like.windows in
      number ∙ stretches-at_times_of 1 bs c.plain d.plain as_many others

  pub AreIndistinguishable-moved : AreIndistinguishable (moved_to_times c d) c
  AreIndistinguishable-moved = record { params = refl; landmarks = refl; windows = windows-moved }

  pub count_in-moved : (from to : ℕ) → count_in from to (moved_to_times c d) ≡ count_in from to d
  count_in-moved from to =
      let marked = asked from to (marked_values c.landmarks) in
      let those = asked from to (marked_values d.landmarks) in
      omega (
        arith,
        length-append (asked from to (at_times_of c.plain d.plain)) marked,
        length-append (asked from to d.plain) those,
        length-asked from to c.plain d.plain as_many,
        ap (λ ls. length (asked from to (marked_values ls))) like.landmarks,
      )

-- so a count that may be true in a state may be true there with all filters as they are
some-pos : (m n : ℕ) → Some (pos m) ≡ Some (pos n) → m ≡ n
some-pos m n same = cc

pub MayBeCounted-true : (streams : List Stream) (query : Query) (n : ℕ) → query.kind ≡ kinds.Count → MayBeTrue streams query (pos n)
    → MayBeCounted streams query n
MayBeCounted-true streams query n kind may history s whole is found =
    let c = contents_of history s in
    let at = may history s whole is found in
    let sound = AreContents-named history query.name s whole (ap (stream_named query.name) is ∙ found) in
    record {
      contents = moved_to_times c at.contents;
      sound = AreContents-moved c at.contents sound at.sound at.like;
      kept = AreIndistinguishable-moved c at.contents sound at.sound at.like;
      counts = count_in-moved c at.contents sound at.sound at.like query.from query.to
          ∙ some-pos (count_in query.from query.to at.contents) n
          (sym (ap (λ k. truth_of_kind k query.from query.to at.contents) kind) ∙ at.truth);
    }
