-- Rebuilt contents are contents like the actual ones, and the contents of the streams of a history are contents.
use Rattle.std.specs.Prelude.{◌≡◌, ℕ, ◌+◌, ◌≤◌, ℤ, pos, ◌+ℤ◌, ◌≤ℤ◌, List, All, Some}
use Rattle.std.proofs.Common.{ap, arith, refl, sym, ◌∙◌, subst}
use Rattle.std.proofs.lemmas.Int.{ints}
use Rattle.std.proofs.lemmas.List.{length-append}
use Rattle.std.proofs.lemmas.List.Elements.{All-get_or}
use Rattle.ss_bounds.specs.Truth.{asked}
use Rattle.ss_catalog.specs.declared.query.Kind.TheVariants as kinds
use Rattle.ss_catalog.specs.declared.query.Query.{Query}
use Rattle.ss_landmarks.specs.Free.{is_free}
use Rattle.ss_model.specs.History.{landmarks_of, values_of, Happened}
use Rattle.ss_model.specs.Interval.{interval_of_count, interval_of_sum, known_count, known_sum, split_windows}
use Rattle.ss_model.specs.Marks.{marked_values}
use Rattle.ss_model.specs.Refusals.{IsHistory}
use Rattle.ss_model.specs.Standing.{IsStream}
use Rattle.ss_targets.specs.Rule.{rule_of}
use Rattle.ss_model.specs.State.{Stream, state, stream_after, stream_named}
use Rattle.ss_model.specs.Windows.{windows}
use Rattle.ss_model.proofs.IntervalLemmas.{AreOf, count-lies, sum-lies, total-append}
use Rattle.ss_model.proofs.HistoryLemmas.{IsState-state}
use Rattle.ss_model.proofs.PieceLemmas.{AreOf-windows}
use Rattle.ss_model.proofs.ReadLemmas.{All-state}
use Rattle.ss_model.proofs.RisingLemmas.{All-named, values-rise}
use Rattle.ss_model.proofs.Stretches.{taken-windows}
use Rattle.ss_laws.specs.Attained.{IsAttained, MayBeTrue, truth_of_kind}
use Rattle.ss_laws.specs.Contents.{Contents, contents_of, own_windows, AreContents, Like, count_in, sum_in}
use Rattle.ss_laws.specs.Rebuilt.{rebuilt}
use Rattle.ss_laws.specs.Sides.{Sides, AllFit, count_inside, sum_inside}
use Rattle.ss_laws.proofs.PieceLemmas.{AreOf-alike, length-others}
use Rattle.ss_laws.proofs.ReplacedLemmas.{AreReplaced, replaced-all}
use Rattle.ss_laws.proofs.SayableLemmas.{sayable-others, sayable-standing}
use Rattle.ss_laws.proofs.StepLemmas.{windows-others}

module _ (c : Contents) (from to : ℕ) (sides : List Sides) (sound : AreContents c)
    (fit : AllFit (split_windows (is_free c.landmarks) from to (own_windows c)) sides) where
  parts : AreReplaced (is_free c.landmarks) from to 0 (own_windows c) sides (rebuilt from to sides c).plain
  parts =
      replaced-all (is_free c.landmarks) from to 0 (own_windows c) sides c.plain (AreOf-windows (rule_of c.params) c.plain) sound.rising fit

  pub Like-rebuilt : Like (rebuilt from to sides c) c
  Like-rebuilt = record {
    params = refl;
    landmarks = refl;
    number = length-others (rule_of c.params) c.plain (rebuilt from to sides c).plain parts.of;
    windows = windows-others (is_free c.landmarks) 0 (rule_of c.params) c.plain (rebuilt from to sides c).plain parts.of sound.rising parts.rising;
  }

  pub AreContents-rebuilt : AreContents (rebuilt from to sides c)
  AreContents-rebuilt = record {
    target = sound.target;
    few = omega (arith, Like-rebuilt.number, sound.few);
    rising = parts.rising;
    sayable = sayable-others (is_free c.landmarks) 0 (own_windows c) c.plain (rebuilt from to sides c).plain
        (AreOf-windows (rule_of c.params) c.plain) parts.of parts.rising sound.sayable;
    landmarks = sound.landmarks;
  }

  pub count_in-rebuilt : count_in from to (rebuilt from to sides c)
      ≡ known_count from to (own_windows c) (marked_values c.landmarks) + count_inside sides
  count_in-rebuilt =
      let marked = asked from to (marked_values c.landmarks) in
      omega (arith, length-append (asked from to (rebuilt from to sides c).plain) marked, parts.count)

  pub sum_in-rebuilt : sum_in from to (rebuilt from to sides c)
      ≡ (known_sum from to (own_windows c) (marked_values c.landmarks) +ℤ sum_inside sides)
  sum_in-rebuilt =
      let marked = asked from to (marked_values c.landmarks) in
      omega (arith, ints, total-append (asked from to (rebuilt from to sides c).plain) marked, parts.sum)

  pub IsAttained-rebuilt : IsAttained c from to (known_count from to (own_windows c) (marked_values c.landmarks) + count_inside sides)
      (known_sum from to (own_windows c) (marked_values c.landmarks) +ℤ sum_inside sides)
  IsAttained-rebuilt = record {
    contents = rebuilt from to sides c;
    sound = AreContents-rebuilt;
    like = Like-rebuilt;
    counts = count_in-rebuilt;
    sums = sum_in-rebuilt;
  }

-- the intervals that the windows of some contents give hold the truth over all contents like them
module _ (c d : Contents) (from to : ℕ) (sound : AreContents d) (like : Like d c) where
  own : AreOf (own_windows c) d.plain
  own = AreOf-alike (own_windows d) (own_windows c) d.plain like.windows (AreOf-windows (rule_of d.params) d.plain)

  pub count_in-lies : let answer = interval_of_count (is_free c.landmarks) from to (own_windows c) (marked_values c.landmarks) in
      (answer.0 ≤ count_in from to d) × (count_in from to d ≤ answer.1)
  count_in-lies =
      subst (λ ls. let answer = interval_of_count (is_free ls) from to (own_windows c) (marked_values ls) in
      (answer.0 ≤ count_in from to d) × (count_in from to d ≤ answer.1)) like.landmarks
      (count-lies (is_free d.landmarks) from to (own_windows c) d.plain (marked_values d.landmarks) 0 own sound.rising)

  pub sum_in-lies : let answer = interval_of_sum (is_free c.landmarks) from to (own_windows c) (marked_values c.landmarks) in
      (answer.0 ≤ℤ sum_in from to d) × (sum_in from to d ≤ℤ answer.1)
  sum_in-lies =
      subst (λ ls. let answer = interval_of_sum (is_free ls) from to (own_windows c) (marked_values ls) in
      (answer.0 ≤ℤ sum_in from to d) × (sum_in from to d ≤ℤ answer.1)) like.landmarks
      (sum-lies (is_free d.landmarks) from to (own_windows c) d.plain (marked_values d.landmarks) 0 own sound.rising)

-- ---- the streams of a history

pub AreContents-contents_of : (history : List Happened) → IsHistory history → All (λ s. AreContents (contents_of history s)) (state history)
AreContents-contents_of history whole =
    λ k d inside.
    let each = All-get_or IsStream (state history) k d inside (IsState-state history whole).each in
    All-get_or (λ s. IsStream s → AreContents (contents_of history s)) (state history) k d inside
    (All-state (λ s. IsStream s → AreContents (contents_of history s)) history
    (λ c sound.
    let values = values_of history c.name in
    let free = is_free (landmarks_of history c.name) in
    let rising = values-rise history c.name whole in
    record {
      target = sound.target;
      few = omega (arith, sound.windows.few, taken-windows (rule_of c.params) values);
      rising = rising;
      sayable = sayable-standing free 1 0 0 (windows (rule_of c.params) values) values sound.windows.stand
          (AreOf-windows (rule_of c.params) values) rising;
      landmarks = sound.landmarks;
    })) each

-- what contents like those of a stream may have in a range, with values that fit the windows that it splits
abbrev IsAttainedBySides : List Happened → Stream → Type 0
IsAttainedBySides history s =
    (from to : ℕ) (sides : List Sides) → AllFit (split_windows (is_free s.landmarks) from to s.windows) sides
    → IsAttained (contents_of history s) from to (known_count from to s.windows (marked_values s.landmarks) + count_inside sides)
    (known_sum from to s.windows (marked_values s.landmarks) +ℤ sum_inside sides)

pub IsAttained-state : (history : List Happened) → IsHistory history
    → All (λ s. (from to : ℕ) (sides : List Sides) → AllFit (split_windows (is_free s.landmarks) from to s.windows) sides
    → IsAttained (contents_of history s) from to (known_count from to s.windows (marked_values s.landmarks) + count_inside sides)
    (known_sum from to s.windows (marked_values s.landmarks) +ℤ sum_inside sides)) (state history)
IsAttained-state history whole =
    λ k d inside.
    All-get_or (λ s. AreContents (contents_of history s) → IsAttainedBySides history s) (state history) k d inside
    (All-state (λ s. AreContents (contents_of history s) → IsAttainedBySides history s) history
    (λ c sound from to sides fit. IsAttained-rebuilt (contents_of history (stream_after history c)) from to sides sound fit))
    (All-get_or (λ s. AreContents (contents_of history s)) (state history) k d inside (AreContents-contents_of history whole))

pub AreContents-named : (history : List Happened) (name : List ℕ) (s : Stream) → IsHistory history → stream_named name (state history) ≡ Some s
    → AreContents (contents_of history s)
AreContents-named history name s whole found =
    All-named (λ u. AreContents (contents_of history u)) name (state history) s (AreContents-contents_of history whole) found

pub IsAttained-named : (history : List Happened) (name : List ℕ) (s : Stream) (from to : ℕ) (sides : List Sides) → IsHistory history
    → stream_named name (state history) ≡ Some s → AllFit (split_windows (is_free s.landmarks) from to s.windows) sides
    → IsAttained (contents_of history s) from to (known_count from to s.windows (marked_values s.landmarks) + count_inside sides)
    (known_sum from to s.windows (marked_values s.landmarks) +ℤ sum_inside sides)
IsAttained-named history name s from to sides whole found =
    All-named (IsAttainedBySides history) name (state history) s (IsAttained-state history whole) found from to sides

-- ---- answers that may be true in a state

module _ (streams : List Stream) (query : Query) (s : Stream) (sides : List Sides) (found : stream_named query.name streams ≡ Some s)
    (fit : AllFit (split_windows (is_free s.landmarks) query.from query.to s.windows) sides) where
  abbrev count : ℕ
  count = known_count query.from query.to s.windows (marked_values s.landmarks) + count_inside sides

  abbrev sum : ℤ
  sum = known_sum query.from query.to s.windows (marked_values s.landmarks) +ℤ sum_inside sides

  attained : (history : List Happened) (u : Stream) → IsHistory history → state history ≡ streams → stream_named query.name streams ≡ Some u
      → IsAttained (contents_of history u) query.from query.to count sum
  attained history u whole is other =
      let both : Some s ≡ Some u = sym found ∙ other in
      let same : s ≡ u = cc in
      subst (λ x. IsAttained (contents_of history x) query.from query.to count sum) same
      (IsAttained-named history query.name s query.from query.to sides whole (ap (stream_named query.name) is ∙ found) fit)

  pub MayBeTrue-count : query.kind ≡ kinds.Count → MayBeTrue streams query (pos count)
  MayBeTrue-count kind history u whole is other =
      let at = attained history u whole is other in
      record {
        contents = at.contents;
        sound = at.sound;
        like = at.like;
        truth = ap (λ k. truth_of_kind k query.from query.to at.contents) kind ∙ ap (λ n. Some (pos n)) at.counts;
      }

  pub MayBeTrue-sum : query.kind ≡ kinds.Sum → MayBeTrue streams query sum
  MayBeTrue-sum kind history u whole is other =
      let at = attained history u whole is other in
      record {
        contents = at.contents;
        sound = at.sound;
        like = at.like;
        truth = ap (λ k. truth_of_kind k query.from query.to at.contents) kind ∙ ap Some at.sums;
      }
