-- What the answers of states hold.
use Rattle.ss_model.proofs.Common.{◌≡◌, ℕ, Bool, true, false, List, [], map, refl, ap, sym, ◌∙◌, subst, Some, None, inl, inr, IsSome, arith, Option, option_map}
use Rattle.ss_model.proofs.Common.{is_some, filter, cases_Bool, ints, is_guess, Kind, Query, AreAllSplit, is_free, Point, HasEnds, HoldsTruth, IsExactOutcome}
use Rattle.ss_model.proofs.Common.{IsOfKind, answer_of, split_by, landmarks_of, marked_of, values_of, Happened, is_split, split_figures, split_windows}
use Rattle.ss_model.proofs.Common.{marked_values, AllKeptAlike, IsHistory, stands, IsStream, Created, Stream, standing, stream_after, stream_named, RiseAtFree}
use Rattle.ss_model.proofs.Common.{rule_of, windows, Outcome, Window}
use Rattle.ss_catalog.specs.declared.query.Kind.TheVariants as kinds
use Rattle.ss_bounds.proofs.GuessLemmas.{count_guess-within, sum_guess-within}
use Rattle.ss_bounds.proofs.MeanGuessLemmas.{mean_guess-ends, mean_guess-HoldsMeanGuess}
use Rattle.ss_model.specs.Answers.{answer_of_kind, interval_query, outcome_of, refuses_query, unguessed}
use Rattle.ss_model.specs.Interval.{known_count, known_sum, known_values}
use Rattle.ss_model.specs.Truth.{true_values}
use Rattle.ss_model.specs.State.{state}
use Rattle.ss_model.proofs.HistoryLemmas.{IsState-state}
use Rattle.ss_model.proofs.IntervalLemmas.{AreExactlyOf, AreOf-exactly, count-lies, sum-lies, least-HoldsExtreme, greatest-HoldsExtreme, count-exact, sum-exact}
use Rattle.ss_model.proofs.IntervalLemmas.{least-exact, greatest-exact}
use Rattle.ss_model.proofs.MeanLemmas.{guess-exact, mean-HoldsMean, mean-exact}
use Rattle.ss_model.proofs.OutlineLemmas.{read-outlines}
use Rattle.ss_model.proofs.PieceLemmas.{AreExactlyOf-windows}
use Rattle.ss_model.proofs.PresenceLemmas.{presence-holds}
use Rattle.ss_model.proofs.RisingLemmas.{All-named, named-after, values-rise}
use Rattle.ss_model.proofs.SplitLemmas.{AreAllSplit-stream}

-- what a choice gave it gave of something
pub mapped : {A B : Type 0} (f : A → B) (o : Option A) (b : B) → option_map f o ≡ Some b → (a : A) × (o ≡ Some a) × (f a ≡ b)
mapped f None b same = cc
mapped f (Some a) b same = (a, refl, cc)

-- each kind of answer holds the truth
kind-holds : (kind : Kind) (free : ℕ → Bool) (query : Query) (ws : List Window) (plain marked : List Point) → AreExactlyOf ws plain
    → RiseAtFree free 0 plain → AreAllSplit (split_windows free query.from query.to ws) → kind ≡ query.kind
    → HoldsTruth query plain marked (answer_of_kind kind free query.from query.to ws marked)
kind-holds kinds.Count free query ws plain marked of rising each is =
    count-lies free query.from query.to ws plain marked 0 (AreOf-exactly ws plain of) rising
kind-holds kinds.Sum free query ws plain marked of rising each is =
    sum-lies free query.from query.to ws plain marked 0 (AreOf-exactly ws plain of) rising
kind-holds kinds.Min free query ws plain marked of rising each is =
    least-HoldsExtreme free query.from query.to ws plain marked 0 (AreOf-exactly ws plain of) rising
kind-holds kinds.Max free query ws plain marked of rising each is =
    greatest-HoldsExtreme free query.from query.to ws plain marked 0 (AreOf-exactly ws plain of) rising
kind-holds kinds.Mean free query ws plain marked of rising each is =
    mean-HoldsMean free query.from query.to ws plain marked 0 (AreOf-exactly ws plain of) rising
kind-holds (kinds.Has v) free query ws plain marked of rising each is =
    (v, sym is, presence-holds v free query.from query.to ws plain marked 0 of rising)
kind-holds kinds.CountGuess free query ws plain marked of rising each is =
    let truth = count-lies free query.from query.to ws plain marked 0 (AreOf-exactly ws plain of) rising in
    let guess = count_guess-within (known_count query.from query.to ws marked) (split_windows free query.from query.to ws) each in
    rw (sym is) (omega (arith, ints, truth.0), omega (arith, ints, truth.1), guess.0, guess.1)
kind-holds kinds.SumGuess free query ws plain marked of rising each is =
    let truth = sum-lies free query.from query.to ws plain marked 0 (AreOf-exactly ws plain of) rising in
    let guess = sum_guess-within (known_sum query.from query.to ws marked) (split_windows free query.from query.to ws) each in
    rw (sym is) (truth.0, truth.1, guess.0, guess.1)
kind-holds kinds.MeanGuess free query ws plain marked of rising each is =
    mean_guess-HoldsMeanGuess (known_values query.from query.to ws marked) (true_values query.from query.to plain marked)
    (split_windows free query.from query.to ws) each (mean-HoldsMean free query.from query.to ws plain marked 0 (AreOf-exactly ws plain of) rising)

-- the answer of a stream that stands as a history leaves it
stream-holds : (history : List Happened) (query : Query) (c : Created) → IsHistory history → IsStream (stream_after history c)
    → HoldsTruth query (values_of history c.name) (marked_of history c.name) (answer_of query (stream_after history c))
stream-holds history query c whole sound =
    let values = values_of history c.name in
    kind-holds query.kind (is_free (landmarks_of history c.name)) query (windows (rule_of c.params) values) values (marked_of history c.name)
    (AreExactlyOf-windows (rule_of c.params) values) (values-rise history c.name whole)
    (AreAllSplit-stream (stream_after history c) query.from query.to sound) refl

pub answer-holds : (history : List Happened) (query : Query) (outcome : Outcome) → IsHistory history → outcome_of (state history) query ≡ Some outcome
    → HoldsTruth query (values_of history query.name) (marked_of history query.name) outcome
unfolding outcome_of state
answer-holds history query outcome whole answered =
    let s = mapped (answer_of query) (stream_named query.name (map (stream_after history) (standing history))) outcome answered in
    let of = named-after history query.name (standing history) s.0 s.1 in
    let is : answer_of query (stream_after history of.created) ≡ outcome = ap (answer_of query) (sym of.is) ∙ s.2 in
    let holds = subst (HoldsTruth query (values_of history of.created.name) (marked_of history of.created.name)) is
    (stream-holds history query of.created whole
    (subst IsStream of.is (All-named IsStream query.name (state history) s.0 (IsState-state history whole).each s.1))) in
    subst (λ n. HoldsTruth query (values_of history n) (marked_of history n) outcome) of.named holds

kind-is : (kind : Kind) (free : ℕ → Bool) (query : Query) (ws : List Window) (marked : List Point)
    → IsOfKind kind (answer_of_kind kind free query.from query.to ws marked)
kind-is kinds.Count free query ws marked = refl
kind-is kinds.Sum free query ws marked = refl
kind-is kinds.Min free query ws marked = refl
kind-is kinds.Max free query ws marked = refl
kind-is kinds.Mean free query ws marked = refl
kind-is (kinds.Has v) free query ws marked = (v, refl)
kind-is kinds.CountGuess free query ws marked = inl refl
kind-is kinds.SumGuess free query ws marked = inr refl
kind-is kinds.MeanGuess free query ws marked = refl

pub answer-kind : (streams : List Stream) (query : Query) (outcome : Outcome) → outcome_of streams query ≡ Some outcome → IsOfKind query.kind outcome
unfolding outcome_of
answer-kind streams query outcome answered =
    let s = mapped (answer_of query) (stream_named query.name streams) outcome answered in
    subst (IsOfKind query.kind) s.2 (kind-is query.kind (is_free s.0.landmarks) query s.0.windows (marked_values s.0.landmarks))

-- where nothing is split, nothing is left open
kind-exact : (kind : Kind) (free : ℕ → Bool) (query : Query) (ws : List Window) (marked : List Point) → split_windows free query.from query.to ws ≡ []
    → IsExactOutcome (answer_of_kind kind free query.from query.to ws marked)
kind-exact kinds.Count free query ws marked unsplit = count-exact free query.from query.to ws marked unsplit
kind-exact kinds.Sum free query ws marked unsplit = sum-exact free query.from query.to ws marked unsplit
kind-exact kinds.Min free query ws marked unsplit = least-exact free query.from query.to ws marked unsplit
kind-exact kinds.Max free query ws marked unsplit = greatest-exact free query.from query.to ws marked unsplit
kind-exact kinds.Mean free query ws marked unsplit = mean-exact free query.from query.to ws marked unsplit
kind-exact (kinds.Has v) free query ws marked unsplit = tt
kind-exact kinds.CountGuess free query ws marked unsplit =
    let within = count_guess-within (known_count query.from query.to ws marked) [] tt in
    rw unsplit (omega (arith, ints, within.0, within.1), omega (arith, ints, within.0, within.1))
kind-exact kinds.SumGuess free query ws marked unsplit =
    let within = sum_guess-within (known_sum query.from query.to ws marked) [] tt in
    rw unsplit (omega (arith, ints, within.0, within.1), omega (arith, ints, within.0, within.1))
kind-exact kinds.MeanGuess free query ws marked unsplit = guess-exact free query.from query.to ws marked unsplit

pub answer-exact : (streams : List Stream) (query : Query) (outcome : Outcome) → outcome_of streams query ≡ Some outcome
    → split_by streams query ≡ [] → IsExactOutcome outcome
unfolding outcome_of
answer-exact streams query outcome answered unsplit =
    let s = mapped (answer_of query) (stream_named query.name streams) outcome answered in
    let unsplit : filter (is_split query.from query.to) s.0.windows ≡ [] = rw s.1 at unsplit in
    subst IsExactOutcome s.2 (kind-exact query.kind (is_free s.0.landmarks) query s.0.windows (marked_values s.0.landmarks)
    (ap (map (split_figures (is_free s.0.landmarks) query.from query.to)) unsplit))

-- a guess has the ends of the interval
kind-ends : (kind : Kind) (free : ℕ → Bool) (query : Query) (ws : List Window) (marked : List Point) → is_guess kind ≡ true
    → HasEnds (answer_of_kind kind free query.from query.to ws marked) (answer_of_kind (unguessed kind) free query.from query.to ws marked)
kind-ends kinds.Count free query ws marked guessed = cc
kind-ends kinds.Sum free query ws marked guessed = cc
kind-ends kinds.Min free query ws marked guessed = cc
kind-ends kinds.Max free query ws marked guessed = cc
kind-ends kinds.Mean free query ws marked guessed = cc
kind-ends (kinds.Has v) free query ws marked guessed = cc
kind-ends kinds.CountGuess free query ws marked guessed = (refl, refl)
kind-ends kinds.SumGuess free query ws marked guessed = (refl, refl)
kind-ends kinds.MeanGuess free query ws marked guessed =
    mean_guess-ends (known_values query.from query.to ws marked) (split_windows free query.from query.to ws)

pub answer-ends : (streams : List Stream) (query : Query) (outcome : Outcome) → is_guess query.kind ≡ true
    → outcome_of streams query ≡ Some outcome
    → (answer : Outcome) × (outcome_of streams (interval_query query) ≡ Some answer) × HasEnds outcome answer
unfolding outcome_of
answer-ends streams query outcome guessed answered =
    let s = mapped (answer_of query) (stream_named query.name streams) outcome answered in (
      answer_of (interval_query query) s.0,
      ap (option_map (answer_of (interval_query query))) s.1,
      subst (λ o. HasEnds o (answer_of (interval_query query) s.0)) s.2
          (kind-ends query.kind (is_free s.0.landmarks) query s.0.windows (marked_values s.0.landmarks) guessed),
    )

-- a query that isn't refused has an answer
some-answered : (o : Option Stream) (query : Query) → is_some o ≡ true → IsSome (option_map (answer_of query) o)
some-answered None query known = (let wrong : false ≡ true = known in cc)
some-answered (Some s) query known = search

pub answer-known : (streams : List Stream) (query : Query) → refuses_query streams query ≡ None → IsSome (outcome_of streams query)
unfolding refuses_query outcome_of
answer-known streams query accepted = elim (cases_Bool (stands query.name streams)) [
  | inl known ↦ some-answered (stream_named query.name streams) query known
  | inr unknown ↦ (let wrong = rw unknown at accepted in cc)
]

pub refused-alike : (streams others : List Stream) (query : Query) → AllKeptAlike streams others → refuses_query streams query ≡ refuses_query others query
unfolding refuses_query
refused-alike streams others query same =
    let known = read-outlines is_some (λ s u alike. refl) query.name streams others same in
    rw known refl
