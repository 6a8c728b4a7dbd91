-- What is read off a state doesn't depend on the filters of its windows, but for whether a value is there.
use Rattle.ss_program.proofs.Common.{◌≡◌, ◌∙◌, ◌⊎◌, ℕ, ◌+◌, Bool, true, false, ◌&&◌, ◌||◌, ℤ, pos, List, [], ◌∷◌, ◌++◌, length, Option, Some, refl, sym, ap}
use Rattle.ss_program.proofs.Common.{arith, common_steps, ap₂, inl, inr, ◌+ℤ◌, filter, fold, if◌then◌else◌, int_le, map, option_map, sum_by, list_any}
use Rattle.ss_program.proofs.Common.{cases_Bool, max_interval, min_interval, SplitFigures, greatest_count, least_count, sum_interval, same_name, Kind}
use Rattle.ss_program.proofs.Common.{state-old, answer_of_kind, Happened, is_extreme, is_split, is_whole, may_have, may_reach, presence_of, split_figures}
use Rattle.ss_program.proofs.Common.{split_windows, is_one_of, as_old, unfiltered_stream, unfiltered_window, Stream, state, stream_named, Count, Sum, Min, Max}
use Rattle.ss_program.proofs.Common.{Mean, Has, Estimate, MeanEstimate, Presence, Absent, Present, Maybe, Point}
use Rattle.ss_bounds.specs.Guess.{count_guess, sum_guess}
use Rattle.ss_bounds.specs.Either.{greatest_in, least_in}
use Rattle.ss_bounds.specs.MeanGuess.{mean_guess}
use Rattle.ss_bounds.specs.Means.{mean_interval}
use Rattle.ss_bounds.specs.declared.fraction.Fraction.{Fraction}
use Rattle.ss_model.specs.Interval.{known_values}
use Rattle.ss_bounds.specs.Truth.{asked, total}
use Rattle.ss_model.specs.declared.types.Window.{Window}
use Rattle.ss_summary.proofs.FilterLemmas.{has-full}
use Rattle.ss_catalog.specs.declared.query.Kind.TheVariants as kinds

-- ---- what is read of the stream of a name

pub read-old : {Y : Type 0} (read : Option Stream → Y) → ((s : Stream) → read (Some (unfiltered_stream s)) ≡ read (Some s)) → (name : List ℕ)
    (streams : List Stream) → read (stream_named name (map unfiltered_stream streams)) ≡ read (stream_named name streams)
read-old read one name [] = refl
read-old read one name (s ∷ ss) = elim (cases_Bool (same_name name s.name)) [
  | inl is ↦ rw is (one s)
  | inr other ↦ rw other (read-old read one name ss)
]

pub named-old : (name : List ℕ) (streams : List Stream) →
    stream_named name (map unfiltered_stream streams) ≡ option_map unfiltered_stream (stream_named name streams)
named-old name [] = refl
named-old name (s ∷ ss) = elim (cases_Bool (same_name name s.name)) [
  | inl is ↦ rw is refl
  | inr other ↦ rw other (named-old name ss)
]

-- what is read of a state stays where the values before it are from elsewhere
pub origins-alike : {Y : Type 0} (read : List Stream → Y) → ((streams : List Stream) → read (map unfiltered_stream streams) ≡ read streams) →
    (one other : List Happened) → map as_old one ≡ map as_old other → read (state one) ≡ read (state other)
origins-alike read alike one other same =
    sym (alike (state one)) ∙ ap read (sym (state-old one)) ∙ ap (λ h. read (state h)) same ∙ ap read (state-old other) ∙ alike (state other)

-- ---- what is read of windows

-- what is read of those that pass a test, where neither looks at filters
map-kept : {Y : Type 0} (f : Window → Y) (p : Window → Bool) (ws : List Window) → ((w : Window) → f (unfiltered_window w) ≡ f w) →
    ((w : Window) → p (unfiltered_window w) ≡ p w) → map f (filter p (map unfiltered_window ws)) ≡ map f (filter p ws)
map-kept f p [] read tests = refl
map-kept f p (w ∷ ws) read tests = elim (cases_Bool (p w)) [
  | inl kept ↦ rw (tests w, kept) (ap₂ ◌∷◌ (read w) (map-kept f p ws read tests))
  | inr gone ↦ rw (tests w, gone) (map-kept f p ws read tests)
]

any-old : (p : Window → Bool) (ws : List Window) → ((w : Window) → p (unfiltered_window w) ≡ p w) → list_any p (map unfiltered_window ws) ≡ list_any p ws
any-old p [] tests = refl
any-old p (w ∷ ws) tests = ap₂ ◌||◌ (tests w) (any-old p ws tests)

splits-old : (free : ℕ → Bool) (from to : ℕ) (ws : List Window) → split_windows free from to (map unfiltered_window ws) ≡ split_windows free from to ws
splits-old free from to ws = map-kept (split_figures free from to) (is_split from to) ws (λ w. refl) (λ w. refl)

counts-from : (k from to : ℕ) (ws : List Window) →
    fold (λ (n : ℕ) (w : Window). n + w.summary.count) k (filter (is_whole from to) (map unfiltered_window ws))
    ≡ fold (λ (n : ℕ) (w : Window). n + w.summary.count) k (filter (is_whole from to) ws)
counts-from k from to [] = refl
counts-from k from to (w ∷ ws) = elim (cases_Bool (is_whole from to w)) [
  | inl kept ↦ rw kept (counts-from (k + w.summary.count) from to ws)
  | inr gone ↦ rw gone (counts-from k from to ws)
]

-- what is made of the sum and the count of what is known and of the split windows, as a mean is
known-old : {Y : Type 0} (make : Fraction → List SplitFigures → Y) (free : ℕ → Bool) (from to : ℕ) (ws : List Window) (marked : List Point) →
    make (known_values from to (map unfiltered_window ws) marked) (split_windows free from to (map unfiltered_window ws))
    ≡ make (known_values from to ws marked) (split_windows free from to ws)
known-old make free from to ws marked =
    let known = λ (sums : List ℤ) (n : ℕ).
    (let values : Fraction = record { over = total sums +ℤ total (asked from to marked); under = n + length (asked from to marked) } in values) in
    ap₂ make (ap₂ known (map-kept (λ (w : Window). w.summary.sum) (is_whole from to) ws (λ w. refl) (λ w. refl)) (counts-from 0 from to ws))
    (splits-old free from to ws)

-- an answer that isn't whether a value is there
pub answer_of_kind-old : (kind : Kind) (free : ℕ → Bool) (from to : ℕ) (ws : List Window) (marked : List Point) →
    ((v : ℤ) → kind ≡ kinds.Has v → ⊥) → answer_of_kind kind free from to (map unfiltered_window ws) marked ≡ answer_of_kind kind free from to ws marked
answer_of_kind-old kinds.Count free from to ws marked other =
    ap₂ (λ (n : ℕ) (splits : List SplitFigures). Count ((n + length (asked from to marked)) + sum_by least_count splits)
    ((n + length (asked from to marked)) + sum_by greatest_count splits)) (counts-from 0 from to ws) (splits-old free from to ws)
answer_of_kind-old kinds.Sum free from to ws marked other =
    ap₂ (λ (sums : List ℤ) (splits : List SplitFigures).
    Sum ((total sums +ℤ total (asked from to marked)) +ℤ total (map (λ (s : ℤ × ℤ). s.0) (map sum_interval splits)))
    ((total sums +ℤ total (asked from to marked)) +ℤ total (map (λ (s : ℤ × ℤ). s.1) (map sum_interval splits))))
    (map-kept (λ (w : Window). w.summary.sum) (is_whole from to) ws (λ w. refl) (λ w. refl)) (splits-old free from to ws)
answer_of_kind-old kinds.Min free from to ws marked other =
    ap₂ (λ (mins : List ℤ) (splits : List SplitFigures). Min (min_interval (least_in (mins ++ asked from to marked)) splits))
    (map-kept (λ (w : Window). w.summary.min) (is_whole from to) ws (λ w. refl) (λ w. refl)) (splits-old free from to ws)
answer_of_kind-old kinds.Max free from to ws marked other =
    ap₂ (λ (maxs : List ℤ) (splits : List SplitFigures). Max (max_interval (greatest_in (maxs ++ asked from to marked)) splits))
    (map-kept (λ (w : Window). w.summary.max) (is_whole from to) ws (λ w. refl) (λ w. refl)) (splits-old free from to ws)
answer_of_kind-old kinds.Mean free from to ws marked other =
    known-old (λ (known : Fraction) (splits : List SplitFigures). Mean (mean_interval known splits)) free from to ws marked
answer_of_kind-old (kinds.Has v) free from to ws marked other = absurd (other v refl)
answer_of_kind-old kinds.CountGuess free from to ws marked other =
    ap₂ (λ (n : ℕ) (splits : List SplitFigures). Estimate (pos ((n + length (asked from to marked)) + sum_by least_count splits))
    (count_guess (pos (n + length (asked from to marked))) splits)
    (pos ((n + length (asked from to marked)) + sum_by greatest_count splits))) (counts-from 0 from to ws) (splits-old free from to ws)
answer_of_kind-old kinds.SumGuess free from to ws marked other =
    ap₂ (λ (sums : List ℤ) (splits : List SplitFigures).
    Estimate ((total sums +ℤ total (asked from to marked)) +ℤ total (map (λ (s : ℤ × ℤ). s.0) (map sum_interval splits)))
    (sum_guess (total sums +ℤ total (asked from to marked)) splits)
    ((total sums +ℤ total (asked from to marked)) +ℤ total (map (λ (s : ℤ × ℤ). s.1) (map sum_interval splits))))
    (map-kept (λ (w : Window). w.summary.sum) (is_whole from to) ws (λ w. refl) (λ w. refl)) (splits-old free from to ws)
answer_of_kind-old kinds.MeanGuess free from to ws marked other =
    known-old (λ (known : Fraction) (splits : List SplitFigures). MeanEstimate (mean_guess known splits)) free from to ws marked

-- ---- whether a value is there

-- where no window with all bits may have it, none may
bits-weaker : (r a b h : Bool) → (r && (a && b && true)) ≡ false → (r && (a && b && h)) ≡ false
bits-weaker r a b h none = grind (arith, common_steps)

may-old : (v : ℤ) (free : ℕ → Bool) (from to : ℕ) (w : Window) →
    (may_reach free from to (unfiltered_window w) && may_have v (unfiltered_window w).summary) ≡ false →
    (may_reach free from to w && may_have v w.summary) ≡ false
may-old v free from to w none =
    bits-weaker (may_reach free from to w) (int_le w.summary.min v) (int_le v w.summary.max) _ (rw (has-full v) at none)

or-parts : (a b : Bool) → (a || b) ≡ false → (a ≡ false) × (b ≡ false)
or-parts false b none = (refl, none)
or-parts true b none = cc

none-may : (v : ℤ) (free : ℕ → Bool) (from to : ℕ) (ws : List Window) →
    list_any (λ (w : Window). may_reach free from to w && may_have v w.summary) (map unfiltered_window ws) ≡ false →
    list_any (λ (w : Window). may_reach free from to w && may_have v w.summary) ws ≡ false
none-may v free from to [] none = refl
none-may v free from to (w ∷ ws) none =
    let parts = or-parts (may_reach free from to (unfiltered_window w) && may_have v (unfiltered_window w).summary) _ none in
    rw (may-old v free from to w parts.0, none-may v free from to ws parts.1) refl

-- what is known of it with all bits is what is known otherwise, or that it may be there
weaker-known : (sure old new : Bool) → (old ≡ false → new ≡ false) →
    ((if sure then Present else (if old then Maybe else Absent)) ≡ Maybe)
    ⊎ ((if sure then Present else (if old then Maybe else Absent)) ≡ (if sure then Present else (if new then Maybe else Absent)))
weaker-known true old new none = inr refl
weaker-known false true new none = inl refl
weaker-known false false new none = inr (ap (λ b. if b then Maybe else Absent) (sym (none refl)))

pub presence-old : (v : ℤ) (free : ℕ → Bool) (from to : ℕ) (ws : List Window) (marked : List Point) →
    (presence_of v free from to (map unfiltered_window ws) marked ≡ Maybe)
    ⊎ (presence_of v free from to (map unfiltered_window ws) marked ≡ presence_of v free from to ws marked)
presence-old v free from to ws marked =
    let extreme = any-old (is_extreme from to v) ws (λ w. refl) in
    rw extreme (weaker-known (is_one_of v (asked from to marked) || list_any (is_extreme from to v) ws)
    (list_any (λ (w : Window). may_reach free from to w && may_have v w.summary) (map unfiltered_window ws))
    (list_any (λ (w : Window). may_reach free from to w && may_have v w.summary) ws) (none-may v free from to ws))

-- so of an answer
pub kind-has : (kind : Kind) (v : ℤ) (known : Presence) (free : ℕ → Bool) (from to : ℕ) (ws : List Window) (marked : List Point) → kind ≡ kinds.Has v →
    answer_of_kind kind free from to (map unfiltered_window ws) marked ≡ Has known →
    (known ≡ Maybe) ⊎ (answer_of_kind kind free from to ws marked ≡ Has known)
kind-has kinds.Count v known free from to ws marked asked is = cc
kind-has kinds.Sum v known free from to ws marked asked is = cc
kind-has kinds.Min v known free from to ws marked asked is = cc
kind-has kinds.Max v known free from to ws marked asked is = cc
kind-has kinds.Mean v known free from to ws marked asked is = cc
kind-has kinds.CountGuess v known free from to ws marked asked is = cc
kind-has kinds.SumGuess v known free from to ws marked asked is = cc
kind-has kinds.MeanGuess v known free from to ws marked asked is = cc
kind-has (kinds.Has other) v known free from to ws marked asked is =
    let told : presence_of other free from to (map unfiltered_window ws) marked ≡ known = cc in
    elim (presence-old other free from to ws marked) [
      | inl maybe ↦ inl (sym told ∙ maybe)
      | inr same ↦ inr (ap Has (sym same ∙ told))
    ]
