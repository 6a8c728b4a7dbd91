-- A stream with one more event is a stream again.
use Rattle.ss_model.proofs.Common.{◌≡◌, ℕ, ◌+◌, ◌<◌, ◌≤◌, true, false, not, ◌&&◌, List, [], ◌∷◌, ◌++◌, length, refl, ap, sym, subst, ◌∙◌, arith, None, Some}
use Rattle.ss_model.proofs.Common.{MatchOption, inl, inr, FitsSigned, ◌==◌, is_some, w64, list_all, option_map_or, and_from, and_parts, cases_Bool, eq-eqb}
use Rattle.ss_model.proofs.Common.{eqb-true, not-false, nat_tests, length_push, All-nil, All-push, list_all-append, LAST_TIME, is_free, Landmark, LandmarkValue}
use Rattle.ss_model.proofs.Common.{all_values, closed_at, open_landmark, opened_at, IsPossible, summary_of, MOST_VALUES, Point, closed, IsInStep, JoinsDue}
use Rattle.ss_model.proofs.Common.{has_open, lies_free, with_closed, with_marked, with_opened, is_before, is_early, is_opening, is_past, IsStream, outline_of}
use Rattle.ss_model.proofs.Common.{rule_of, Stream, last_time, records_of, values_in, single_window, with_plain_value, newest_time, Window}
use Rattle.std.proofs.Common.{ℤ, Option}
use Rattle.std.specs.Prelude.{IsNone}
use Rattle.ss_landmarks.specs.Landmark as landmark
use Rattle.ss_landmarks.specs.Landmark.{change_last}
use Rattle.ss_landmarks.specs.Order.{CanClose, CanOpen, CanTake, IsClosedBefore}
use Rattle.ss_landmarks.proofs.OrderLemmas.{AreLandmarks-close, AreLandmarks-take, FollowFrom-open}
use Rattle.ss_landmarks.proofs.TimeLemmas.{CanClose-after, CanOpen-after, CanTake-after, CanTake-first, all_values-close, all_values-open, all_values-take}
use Rattle.ss_model.proofs.JoinLemmas.{AreWindows-JoinsDue, IsInStep-JoinsDue, JoinsDue-closed, lie_free-JoinsDue}
use Rattle.ss_model.proofs.MarkLemmas.{cases_end, free-later, is_free-closed, is_free-marked, is_free-opened, lie_free-same, lie_free-same_all}
use Rattle.ss_model.proofs.MarkLemmas.{lies_free-single}
use Rattle.ss_model.proofs.Tiles.{AreWindows_push}

-- ---- what the refusals leave

lt-is_past : (o : Option ℕ) (last t : ℕ) → o ≡ Some last → is_past o t ≡ false → last < t
lt-is_past o last t is past = let here : is_past (Some last) t ≡ false = ap (λ p. is_past p t) (sym is) ∙ past in grind (arith, nat_tests)

le-is_before : (o : Option ℕ) (last t : ℕ) → o ≡ Some last → is_before o t ≡ false → last ≤ t
le-is_before o last t is before = let here : is_before (Some last) t ≡ false = ap (λ p. is_before p t) (sym is) ∙ before in grind (arith, nat_tests)

pub none-is_some : (o : Option Landmark) → is_some o ≡ false → o ≡ None
none-is_some None is = refl
none-is_some (Some l) is = cc

pub none-open : (ls : List Landmark) → has_open ls ≡ true → ls ≡ [] → ⊥
none-open ls begun is = let wrong : false ≡ true = ap has_open (sym is) ∙ begun in cc

pub some-open : (ls : List Landmark) → has_open ls ≡ true → 0 < length ls
some-open [] begun = absurd (none-open [] begun refl)
some-open (l ∷ ls) begun = omega arith

no_windows : (ws : List Window) → newest_time ws ≡ None → ws ≡ []
no_windows [] is = refl
no_windows (w ∷ []) is = cc
no_windows (w ∷ v ∷ ws) is = let rest : v ∷ ws ≡ [] = no_windows (v ∷ ws) is in cc

module _ (s : Stream) (t : ℕ) where
  -- a time that isn't past is later than that of each value outside landmarks
  pub newest-past : is_past (last_time s) t ≡ false → (old : ℕ) → newest_time s.windows ≡ Some old → old < t
  newest-past past old is = elim (cases_end (newest_time s.windows) s.landmarks) [
    | inl nothing ↦ absurd (let wrong : None ≡ Some old = sym nothing.other ∙ is in cc)
    | inr end ↦
        (let le = end.1.other old is in
        let lt = lt-is_past (last_time s) end.0 t end.1.is past in
        omega (arith, le, lt))
  ]

  -- it is free, where no landmark is open
  pub is_free-past : has_open s.landmarks ≡ false → is_past (last_time s) t ≡ false → is_free s.landmarks t ≡ true
  is_free-past none past = elim (cases_end (newest_time s.windows) s.landmarks) [
    | inl nothing ↦ subst (λ ls. is_free ls t ≡ true) (sym nothing.marks) refl
    | inr end ↦
        free-later s.landmarks end.0 t end.1.marks (none-is_some (open_landmark s.landmarks) none) (lt-is_past (last_time s) end.0 t end.1.is past)
  ]

  CanOpen-past : has_open s.landmarks ≡ false → is_past (last_time s) t ≡ false → CanOpen s.landmarks t
  CanOpen-past none past = elim (cases_end (newest_time s.windows) s.landmarks) [
    | inl nothing ↦ subst (λ ls. CanOpen ls t) (sym nothing.marks) (All-nil (IsClosedBefore t))
    | inr end ↦
        CanOpen-after s.landmarks end.0 t end.1.marks (subst IsNone (sym (none-is_some (open_landmark s.landmarks) none)) refl)
        (lt-is_past (last_time s) end.0 t end.1.is past)
  ]

  CanTake-past : has_open s.landmarks ≡ true → is_past (last_time s) t ≡ false → CanTake s.landmarks t
  CanTake-past begun past = elim (cases_end (newest_time s.windows) s.landmarks) [
    | inl nothing ↦ absurd (none-open s.landmarks begun nothing.marks)
    | inr end ↦ CanTake-after s.landmarks end.0 t end.1.marks begun (lt-is_past (last_time s) end.0 t end.1.is past)
  ]

  CanClose-before : has_open s.landmarks ≡ true → is_before (last_time s) t ≡ false → CanClose s.landmarks t
  CanClose-before begun before = elim (cases_end (newest_time s.windows) s.landmarks) [
    | inl nothing ↦ absurd (none-open s.landmarks begun nothing.marks)
    | inr end ↦ CanClose-after s.landmarks end.0 t end.1.marks begun (le-is_before (last_time s) end.0 t end.1.is before)
  ]

pub first-is_opening : (o : Option Landmark) (t : ℕ) → option_map_or (λ (l : Landmark). l.start == t && length l.values == 0) o false ≡ true →
    MatchOption o ⊥ (λ l. (l.start ≤ t) × (length l.values ≡ 0))
first-is_opening None t is = (let wrong : false ≡ true = is in cc)
first-is_opening (Some l) t is =
    let both = and_parts (l.start == t) (length l.values == 0) is in
    let start = eqb-true l.start t both.0 in
    (omega (arith, start), eqb-true (length l.values) 0 both.1)

CanTake-early : (s : Stream) (t : ℕ) → has_open s.landmarks ≡ true → is_early (outline_of s) t ≡ false → CanTake s.landmarks t
CanTake-early s t begun early = elim (cases_Bool (is_past (last_time s) t)) [
  | inl past ↦
      (let opening : not (is_opening s.landmarks t) ≡ false = rw past at early in
      CanTake-first t (open_landmark s.landmarks) (first-is_opening (open_landmark s.landmarks) t (not-false (is_opening s.landmarks t) opening)))
  | inr later ↦ CanTake-past s t begun later
]

-- without an open landmark a time that isn't too early isn't past
pub past-early : (s : Stream) (t : ℕ) → has_open s.landmarks ≡ false → is_early (outline_of s) t ≡ false → is_past (last_time s) t ≡ false
past-early s t none early = elim (cases_Bool (is_past (last_time s) t)) [
  | inl past ↦
      (let nothing : is_opening s.landmarks t ≡ false =
      ap (λ o. option_map_or (λ (l : Landmark). l.start == t && length l.values == 0) o false) (none-is_some (open_landmark s.landmarks) none) in
      let wrong : true ≡ false = rw (past, nothing) at early in
      cc)
  | inr later ↦ later
]

-- ---- a stream with one more event

pub IsStream-opened : (s : Stream) (t : ℕ) → IsStream s → has_open s.landmarks ≡ false → is_past (last_time s) t ≡ false → t ≤ LAST_TIME →
    IsStream (record s { landmarks = with_opened s.landmarks t })
IsStream-opened s t sound none past early = record {
  target = sound.target;
  number = sound.number;
  windows = sound.windows;
  steps = sound.steps;
  landmarks = FollowFrom-open 0 t s.landmarks sound.landmarks (CanOpen-past s t none past) (omega arith) early;
  free = elim (cases_end (newest_time s.windows) s.landmarks) [
    | inl nothing ↦
        subst (λ ws. list_all (lies_free (with_opened s.landmarks t)) ws ≡ true) (sym (no_windows s.windows nothing.other)) refl
    | inr end ↦
        (let lt = lt-is_past (last_time s) end.0 t end.1.is past in
        lie_free-same (with_opened s.landmarks t) s.landmarks s.windows end.0 sound.windows end.1.other
        (λ u le. is_free-opened s.landmarks t u (omega (arith, lt))) ∙ sound.free)
  ];
}

pub IsStream-marked : (s : Stream) (t : ℕ) (v : ℤ) → IsStream s → has_open s.landmarks ≡ true → is_early (outline_of s) t ≡ false → t ≤ LAST_TIME →
    FitsSigned w64 v → IsStream (record s { landmarks = with_marked s.landmarks t v })
IsStream-marked s t v sound begun later early fits = record {
  target = sound.target;
  number = sound.number;
  windows = sound.windows;
  steps = sound.steps;
  landmarks = AreLandmarks-take s.landmarks (record { t = t; v = v }) sound.landmarks (CanTake-early s t begun later) early fits;
  free = lie_free-same_all (with_marked s.landmarks t v) s.landmarks s.windows (λ u. is_free-marked s.landmarks t v u) ∙ sound.free;
}

pub IsStream-closed : (s : Stream) (t : ℕ) → IsStream s → has_open s.landmarks ≡ true → is_before (last_time s) t ≡ false → t ≤ LAST_TIME →
    IsStream (record s { landmarks = with_closed s.landmarks t })
IsStream-closed s t sound begun before early = record {
  target = sound.target;
  number = sound.number;
  windows = sound.windows;
  steps = sound.steps;
  landmarks = AreLandmarks-close s.landmarks t sound.landmarks (CanClose-before s t begun before) early;
  free = elim (cases_end (newest_time s.windows) s.landmarks) [
    | inl nothing ↦ absurd (none-open s.landmarks begun nothing.marks)
    | inr end ↦
        (let last = le-is_before (last_time s) end.0 t end.1.is before in
        lie_free-same (with_closed s.landmarks t) s.landmarks s.windows end.0 sound.windows end.1.other
        (λ u le. is_free-closed s.landmarks t u sound.landmarks begun (omega (arith, last))) ∙ sound.free)
  ];
}

-- a stream with one more value outside landmarks, as a window of its own
pub IsStream-single : (s : Stream) (p : Point) → IsStream s → has_open s.landmarks ≡ false → is_past (last_time s) p.0 ≡ false →
    values_in s < MOST_VALUES → IsPossible (summary_of (p ∷ [])) →
    IsStream (record s { windows = s.windows ++ single_window (values_in s + 1) p ∷ [] })
IsStream-single s p sound none past few possible =
    let w = single_window (values_in s + 1) p in
    let one = lies_free-single s.landmarks (values_in s + 1) p (is_free-past s p.0 none past) in
    record {
      target = sound.target;
      number = sound.number;
      windows = AreWindows_push s.windows p sound.windows few (newest-past s p.0 past) possible;
      steps = All-push (IsInStep (rule_of s.params).step) s.windows w sound.steps (eq-eqb _ _ refl);
      landmarks = sound.landmarks;
      free = list_all-append (lies_free s.landmarks) s.windows (w ∷ [])
          ∙ and_from (list_all (lies_free s.landmarks) s.windows) (list_all (lies_free s.landmarks) (w ∷ [])) sound.free
          (and_from (lies_free s.landmarks w) true one refl);
    }

-- with some windows that are due joined, however many
pub IsStream-joined : (n : ℕ) (s : Stream) (ws : List Window) → IsStream s → JoinsDue (rule_of s.params) n s.windows ws →
    IsStream (record s { windows = ws })
IsStream-joined n s ws sound joins = let rule = rule_of s.params in record {
  target = sound.target;
  number = sound.number;
  windows = AreWindows-JoinsDue rule n s.windows ws sound.windows joins;
  steps = IsInStep-JoinsDue rule n s.windows ws sound.steps joins;
  landmarks = sound.landmarks;
  free = lie_free-JoinsDue rule n s.windows ws s.landmarks sound.windows joins sound.free;
}

-- and after those that are due are joined
pub IsStream-value : (s : Stream) (p : Point) → IsStream s → has_open s.landmarks ≡ false → is_past (last_time s) p.0 ≡ false →
    values_in s < MOST_VALUES → IsPossible (summary_of (p ∷ [])) → IsStream (with_plain_value s p)
IsStream-value s p sound none past few possible =
    let rule = rule_of s.params in
    let n = values_in s + 1 in
    let ws = s.windows ++ single_window n p ∷ [] in
    IsStream-joined n (record s { windows = ws }) (closed rule n ws) (IsStream-single s p sound none past few possible) (JoinsDue-closed rule n ws)

-- ---- how many records it needs then

pub length-change_last : (change : Landmark → Landmark) (ls : List Landmark) → length (change_last change ls) ≡ length ls
length-change_last change [] = refl
length-change_last change (l ∷ []) = refl
length-change_last change (l ∷ next ∷ ls) = let rest = length-change_last change (next ∷ ls) in omega (arith, rest)

pub records_of-opened : (s : Stream) (t : ℕ) → records_of (record s { landmarks = with_opened s.landmarks t }) ≡ records_of s + 1
records_of-opened s t =
    let values = ap length (all_values-open s.landmarks t) in
    omega (arith, values, length_push s.landmarks (opened_at t))

pub records_of-marked : (s : Stream) (t : ℕ) (v : ℤ) → has_open s.landmarks ≡ true →
    records_of (record s { landmarks = with_marked s.landmarks t v }) ≡ records_of s + 1
records_of-marked s t v begun =
    let value : LandmarkValue = record { t = t; v = v } in
    let values = ap length (all_values-take s.landmarks value (some-open s.landmarks begun)) in
    omega (arith, values, length_push (all_values s.landmarks) value, length-change_last (landmark.with_value value) s.landmarks)

pub records_of-closed : (s : Stream) (t : ℕ) → records_of (record s { landmarks = with_closed s.landmarks t }) ≡ records_of s
records_of-closed s t =
    let values = ap length (all_values-close s.landmarks t) in
    omega (arith, values, length-change_last (closed_at t) s.landmarks)
