-- What is known of whether a value is there, by the windows one after the other, is what all of them tell.
use Rattle.std.proofs.Common.{◌≡◌, ◌∙◌, ℕ, ℤ, Bool, true, false, List, [], ◌∷◌, ◌++◌, refl, sym, ap, ap₂}
use Rattle.std.specs.Prelude.{◌&&◌, ◌||◌, if◌then◌else◌}
use Rattle.std.specs.List.{list_any}
use Rattle.std.specs.Ordering.{int_eq}
use Rattle.std.proofs.Math.Bool.{or-false, or_assoc}
use Rattle.std.proofs.lemmas.List.Recursion.{or_push}
use Rattle.ss_bounds.specs.Truth.{asked}
use Rattle.ss_catalog.specs.declared.query.Kind.{Kind}
use Rattle.ss_catalog.specs.declared.query.Kind.TheVariants as kinds
use Rattle.ss_landmarks.specs.Free.{is_free}
use Rattle.ss_landmarks.specs.Landmark.{Landmark, LandmarkValue}
use Rattle.ss_landmarks.specs.ValuesIn.{is_among, values_between}
use Rattle.ss_model.specs.Interval.{is_apart, is_extreme, is_whole, may_have, may_reach, presence_of}
use Rattle.ss_model.specs.Marks.{marked_values}
use Rattle.ss_model.specs.Truth.{is_one_of}
use Rattle.ss_model.specs.declared.outcome.Presence.{Presence}
use Rattle.ss_model.specs.declared.outcome.Presence.TheVariants.{Absent, Present, Maybe}
use Rattle.ss_model.specs.declared.types.Window.{Window}
use Rattle.ss_query.specs.Asked.{presence_in, presence_of_marks, presence_with, stronger}
use Rattle.ss_query.proofs.MarkedTallies.{alone, asked-marked}

-- what windows and the values of landmarks tell of the value that is asked for; where none is asked for, it is absent
abbrev pub presence_of_kind : List Landmark → Kind → ℕ → ℕ → List Window → Presence
presence_of_kind landmarks kinds.Count from to ws = Absent
presence_of_kind landmarks kinds.Sum from to ws = Absent
presence_of_kind landmarks kinds.Min from to ws = Absent
presence_of_kind landmarks kinds.Max from to ws = Absent
presence_of_kind landmarks kinds.Mean from to ws = Absent
presence_of_kind landmarks (kinds.Has v) from to ws = presence_of v (is_free landmarks) from to ws (marked_values landmarks)
presence_of_kind landmarks kinds.CountGuess from to ws = Absent
presence_of_kind landmarks kinds.SumGuess from to ws = Absent
presence_of_kind landmarks kinds.MeanGuess from to ws = Absent

-- what two tests tell of a value: that it is there, and that it may be
abbrev told : Bool → Bool → Presence
told sure possible = if sure then Present else if possible then Maybe else Absent

-- the stronger of two such things is what either test of each tells
stronger-told : (a b c d : Bool) → stronger (told a b) (told c d) ≡ told (a || c) (b || d)
stronger-told true b c d = refl
stronger-told false true true d = refl
stronger-told false true false true = refl
stronger-told false true false false = refl
stronger-told false false c d = refl

-- a value is among those of landmarks where it is one of those that are asked for
is_among-alone : (v : ℤ) (values : List LandmarkValue) → is_among v values ≡ is_one_of v (alone values)
is_among-alone v [] = refl
is_among-alone v (value ∷ values) = ap (λ b. int_eq value.v v || b) (is_among-alone v values)

is_among-asked : (landmarks : List Landmark) (from to : ℕ) (v : ℤ) →
    is_among v (values_between landmarks from to) ≡ is_one_of v (asked from to (marked_values landmarks))
is_among-asked landmarks from to v =
    is_among-alone v (values_between landmarks from to) ∙ ap (λ values. is_one_of v values) (sym (asked-marked landmarks from to))

-- of no window
pub presence-none : (landmarks : List Landmark) (kind : Kind) (from to : ℕ) →
    presence_of_marks kind (values_between landmarks from to) ≡ presence_of_kind landmarks kind from to []
presence-none landmarks kinds.Count from to = refl
presence-none landmarks kinds.Sum from to = refl
presence-none landmarks kinds.Min from to = refl
presence-none landmarks kinds.Max from to = refl
presence-none landmarks kinds.Mean from to = refl
presence-none landmarks (kinds.Has v) from to =
    let marked = is_one_of v (asked from to (marked_values landmarks)) in
    ap (λ (b : Bool). if b then Present else Absent) (is_among-asked landmarks from to v ∙ sym (or-false marked))
presence-none landmarks kinds.CountGuess from to = refl
presence-none landmarks kinds.SumGuess from to = refl
presence-none landmarks kinds.MeanGuess from to = refl

module _ (landmarks : List Landmark) (from to : ℕ) (v : ℤ) (ws : List Window) (w : Window) where
  abbrev sure : Window → Bool
  sure u = is_extreme from to v u

  abbrev possible : Window → Bool
  possible u = may_reach (is_free landmarks) from to u && may_have v u.summary

  abbrev marked : Bool
  marked = is_one_of v (asked from to (marked_values landmarks))

  any-more : (test : Window → Bool) → list_any test (ws ++ w ∷ []) ≡ (list_any test ws || test w)
  any-more test = or_push (list_any test) test refl (λ u us. refl) ws w

  told-more : presence_of v (is_free landmarks) from to (ws ++ w ∷ []) (marked_values landmarks)
      ≡ told ((marked || list_any sure ws) || sure w) (list_any possible ws || possible w)
  told-more = ap₂ told (ap (λ b. marked || b) (any-more sure) ∙ sym (or_assoc marked (list_any sure ws) (sure w))) (any-more possible)

  -- of one more window
  value-more : stronger (presence_of v (is_free landmarks) from to ws (marked_values landmarks)) (presence_in landmarks from to v w)
      ≡ presence_of v (is_free landmarks) from to (ws ++ w ∷ []) (marked_values landmarks)
  value-more = stronger-told (marked || list_any sure ws) (list_any possible ws) (sure w) (possible w) ∙ sym told-more

  -- of one more window that has no time in the range
  value-skip : is_whole from to w ≡ false → is_apart from to w ≡ true →
      presence_of v (is_free landmarks) from to (ws ++ w ∷ []) (marked_values landmarks)
      ≡ presence_of v (is_free landmarks) from to ws (marked_values landmarks)
  value-skip not_whole apart =
      let not_sure : sure w ≡ false = rw not_whole refl in
      let not_possible : possible w ≡ false = rw (not_whole, apart) refl in
      told-more ∙ ap₂ told (ap (λ b. (marked || list_any sure ws) || b) not_sure ∙ or-false (marked || list_any sure ws))
      (ap (λ b. list_any possible ws || b) not_possible ∙ or-false (list_any possible ws))

pub presence-more : (landmarks : List Landmark) (kind : Kind) (from to : ℕ) (ws : List Window) (w : Window) →
    presence_with landmarks kind from to (presence_of_kind landmarks kind from to ws) w ≡ presence_of_kind landmarks kind from to (ws ++ w ∷ [])
presence-more landmarks kinds.Count from to ws w = refl
presence-more landmarks kinds.Sum from to ws w = refl
presence-more landmarks kinds.Min from to ws w = refl
presence-more landmarks kinds.Max from to ws w = refl
presence-more landmarks kinds.Mean from to ws w = refl
presence-more landmarks (kinds.Has v) from to ws w = value-more landmarks from to v ws w
presence-more landmarks kinds.CountGuess from to ws w = refl
presence-more landmarks kinds.SumGuess from to ws w = refl
presence-more landmarks kinds.MeanGuess from to ws w = refl

pub presence-skip : (landmarks : List Landmark) (kind : Kind) (from to : ℕ) (ws : List Window) (w : Window) → is_whole from to w ≡ false →
    is_apart from to w ≡ true → presence_of_kind landmarks kind from to (ws ++ w ∷ []) ≡ presence_of_kind landmarks kind from to ws
presence-skip landmarks kinds.Count from to ws w not_whole apart = refl
presence-skip landmarks kinds.Sum from to ws w not_whole apart = refl
presence-skip landmarks kinds.Min from to ws w not_whole apart = refl
presence-skip landmarks kinds.Max from to ws w not_whole apart = refl
presence-skip landmarks kinds.Mean from to ws w not_whole apart = refl
presence-skip landmarks (kinds.Has v) from to ws w not_whole apart = value-skip landmarks from to v ws w not_whole apart
presence-skip landmarks kinds.CountGuess from to ws w not_whole apart = refl
presence-skip landmarks kinds.SumGuess from to ws w not_whole apart = refl
presence-skip landmarks kinds.MeanGuess from to ws w not_whole apart = refl
