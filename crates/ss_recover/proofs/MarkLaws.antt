-- The records of landmarks and of their values, one after another: which may come, and what is held of the landmarks so far.
use Rattle.ss_recover.proofs.Common.{[], ⊤, ◌++◌, ◌+◌, ◌<◌, ◌∙◌, ◌∷◌, ◌≡◌, ◌≤◌, All, All-head, All-nil, All-tail, all_closed, and_parts, ap, append-nil}
use Rattle.ss_recover.proofs.Common.{append_assoc, are_marks, AreLandmarks, AreMade, arith, CanOpen, cases-finish, change_last, closed_at, cond-false, fold}
use Rattle.ss_recover.proofs.Common.{FollowFrom, Found, found_by, HasMarkRoom, IfSome, inl, inr, is_landmark, is_mark_of, is_none, is_value, IsLandmark}
use Rattle.ss_recover.proofs.Common.{IsUsable, Landmark, landmarks_made, LandmarkValue, later, latest_in, latest_of, LAST_TIME, length, length-append, List}
use Rattle.ss_recover.proofs.Common.{marks_in, MarksShown, MatchOption, max, MayClose, MayCome, MOST_RECORDS, None, open_landmark, opened_at, Option}
use Rattle.ss_recover.proofs.Common.{option_and_then, option_to_list, Record, recursion_from_All, refl, RiseFrom, slots_found, Some, stream_of, subst, sym}
use Rattle.ss_recover.proofs.Common.{true, values_first, with_closing, with_found, with_value, without_slots, ℕ}
use Rattle.std.specs.Prelude.{IfNone, option_map}
use Rattle.ss_landmarks.specs.Order.{CanClose, IsClosedBefore}
use Rattle.ss_recover.proofs.MarkConditions.{are_marks-own, AreOf-are_marks, latest_of-push, later-assoc, made-own, none-first}
use Rattle.std.proofs.lemmas.List.Elements.{All-cons}
use Rattle.ss_recover.proofs.WindowLaws.{few-found}
use Rattle.ss_codec.specs.declared.record.Record.TheVariants as records
use Rattle.ss_parts.proofs.LatestTimes.{latest_in-more}
use Rattle.ss_parts.proofs.Lists.{all-kept, all-passing, map-all}

-- ---- what is held

-- the landmarks without the closing of the last one
abbrev still_open : Landmark → Landmark
still_open l = record { start = l.start; finish = None; values = l.values }

abbrev held : List Landmark → Option Landmark → List ℕ → List ℕ → MarksShown
held before last slots value_slots = record {
  landmarks = before ++ option_to_list (option_map still_open last);
  slots = slots;
  value_slots = value_slots;
  finish = option_and_then (λ (l : Landmark). l.finish) last;
  latest = latest_of (before ++ option_to_list last);
}

-- the last one is a landmark, and those before it close before it opens
abbrev IsFine : List Landmark → Option Landmark → Type 0
IsFine before None = ⊤
IsFine before (Some l) = IsLandmark l × CanOpen before l.start

change_last-front : (change : Landmark → Landmark) (front : List Landmark) (x : Landmark) → change_last change (front ++ x ∷ []) ≡ front ++ change x ∷ []
change_last-front change [] x = refl
change_last-front change (y ∷ []) x = refl
change_last-front change (y ∷ z ∷ zs) x = ap (λ ls. y ∷ ls) (change_last-front change (z ∷ zs) x)

open-held : (front : List Landmark) (l : Landmark) (t : ℕ) → CanOpen front t → open_landmark (front ++ still_open l ∷ []) ≡ Some (still_open l)
open-held [] l t closed = refl
open-held (y ∷ ys) l t closed =
    elim (cases-finish y.finish) [
      | inl begun ↦ absurd (subst (λ (o : Option ℕ). MatchOption o ⊥ (λ f. f < t)) begun (All-head (IsClosedBefore t) y ys closed))
      | inr some ↦ cond-false _ _ _ (ap is_none some.1) ∙ open-held ys l t (All-tail (IsClosedBefore t) y ys closed)
    ]

module _ (slots value_slots : List ℕ) where
  may-close : (before : List Landmark) (last : Option Landmark) → IsFine before last → MayClose (held before last slots value_slots)
  may-close before None fine = tt
  may-close before (Some l) fine =
      elim l.finish as (λ o. IfSome o (λ t. (l.start ≤ t) × (t ≤ LAST_TIME) × All (λ value. value.t ≤ t) l.values) →
      IfSome o (λ t. (t ≤ LAST_TIME) × CanClose (before ++ still_open l ∷ []) t)) [
        | None ↦ λ ends. tt
        | Some t ↦ λ ends. (
          ends.1,
          subst (λ (o : Option Landmark). MatchOption o ⊥ (λ x. (x.start ≤ t) × All (λ value. value.t ≤ t) x.values))
              (sym (open-held before l l.start fine.1)) (ends.0, ends.2),
        )
      ] fine.0.finish

  closed-held : (before : List Landmark) (last : Option Landmark) → (all_closed (held before last slots value_slots)).landmarks ≡ before ++ option_to_list last
  closed-held before None = refl
  closed-held before (Some l) =
      elim l.finish as (λ o. with_closing o (before ++ still_open l ∷ []) ≡ before ++ record { start = l.start; finish = o; values = l.values } ∷ []) [
        | None ↦ refl
        | Some t ↦ change_last-front (closed_at t) before (still_open l)
      ]

-- one among landmarks in order: those before it are closed before it opens
landmark-at : (from : ℕ) (front : List Landmark) (l : Landmark) (back : List Landmark) → FollowFrom from (front ++ l ∷ back) →
    (from ≤ l.start) × IsLandmark l × CanOpen front l.start
landmark-at from [] l back follow = (follow.0, follow.1, All-nil (IsClosedBefore l.start))
landmark-at from (x ∷ xs) l back follow =
    elim (cases-finish x.finish) [
      | inl begun ↦ (let last : xs ++ l ∷ back ≡ [] = rw begun at follow.2 in absurd (none xs last))
      | inr closed ↦ (
          let after = rw closed.1 at follow.2 in
          let ends = rw closed.1 at follow.1.finish in
          let rest = landmark-at (closed.0 + 1) xs l back after in (
            omega (arith, follow.0, ends.0, rest.0),
            rest.1,
            All-cons (IsClosedBefore l.start) x xs (rw closed.1 (omega (arith, rest.0))) rest.2,
          ))
    ]
  where
    none : (ys : List Landmark) → ys ++ l ∷ back ≡ [] → ⊥
    none [] is = cc
    none (y ∷ ys) is = cc

-- one among values at rising times
value-at : (from : ℕ) (front : List LandmarkValue) (v : LandmarkValue) (back : List LandmarkValue) → RiseFrom from (front ++ v ∷ back) →
    (from ≤ v.t) × All (λ x. x.t < v.t) front
value-at from [] v back rise = (rise.0, All-nil (λ (x : LandmarkValue). x.t < v.t))
value-at from (x ∷ xs) v back rise =
    let rest = value-at (x.t + 1) xs v back rise.3 in
    (omega (arith, rise.0, rest.0), All-cons (λ (y : LandmarkValue). y.t < v.t) x xs (omega (arith, rest.0)) rest.1)

-- the last landmark with values that are still to come
abbrev grown : Option Landmark → List LandmarkValue → List Landmark
grown None values = []
grown (Some l) values = record { start = l.start; finish = l.finish; values = l.values ++ values } ∷ []

grown-none : (before : List Landmark) (last : Option Landmark) (back : List Landmark) →
    before ++ (grown last [] ++ back) ≡ (before ++ option_to_list last) ++ back
grown-none before None back = ap (λ ls. ls ++ back) (sym (append-nil before))
grown-none before (Some l) back =
    (λ i. before ++ record { start = l.start; finish = l.finish; values = append-nil l.values i } ∷ back) ∙ sym (append_assoc before (l ∷ []) back)

-- ---- the records come one by one

-- Each of these records may come, after those before it, and what is held then is as it is to be.
abbrev pub MayAllCome : (MarksShown → Type 0) → MarksShown → List Found → Type 0
MayAllCome Ends s [] = MayClose s × Ends (all_closed s)
MayAllCome Ends s (f ∷ fs) = MayCome s f.holds × HasMarkRoom s × MayAllCome Ends (with_found s f.slot f.holds) fs

module _ (number : ℕ) (all : List Found) (few : length all < MOST_RECORDS) (follow : AreLandmarks (landmarks_made (marks_in number (without_slots all)))) where
  abbrev whole : List Landmark
  whole = landmarks_made (marks_in number (without_slots all))

  abbrev Comes : MarksShown → List Found → Type 0
  Comes s fs = MayAllCome (AreMade number all) s fs

  -- landmarks are held, and these records are left
  record Held (before : List Landmark) (last : Option Landmark) (slots value_slots : List ℕ) (left : List Found) : Type 0 where
    made : whole ≡ before ++ (grown last (values_first (without_slots left)) ++ landmarks_made (without_slots left))
    none : IfNone last (values_first (without_slots left) ≡ [])
    of_landmarks : slots ++ slots_found (found_by is_landmark left) ≡ slots_found (found_by is_landmark all)
    of_values : value_slots ++ slots_found (found_by is_value left) ≡ slots_found (found_by is_value all)

  has-room : (before : List Landmark) (last : Option Landmark) (slots value_slots : List ℕ) (left : List Found) →
      Held before last slots value_slots left → HasMarkRoom (held before last slots value_slots)
  has-room before last slots value_slots left to =
      let of_landmarks = to.of_landmarks in
      let of_values = to.of_values in
      record {
        slots = omega (
          arith,
          few,
          few-found is_landmark all,
          ap (λ (l : List ℕ). length l) of_landmarks,
          length-append slots (slots_found (found_by is_landmark left)),
        );
        value_slots = omega (
          arith,
          few,
          few-found is_value all,
          ap (λ (l : List ℕ). length l) of_values,
          length-append value_slots (slots_found (found_by is_value left)),
        );
      }

  -- the last one has all its values
  is-fine : (before : List Landmark) (last : Option Landmark) (back : List Landmark) → whole ≡ before ++ (grown last [] ++ back) → IsFine before last
  is-fine before None back made = tt
  is-fine before (Some l) back made =
      let at = landmark-at 0 before l back (subst (FollowFrom 0) (made ∙ (λ i. before ++ record {
        start = l.start;
        finish = l.finish;
        values = append-nil l.values i;
      } ∷ back)) follow) in
      (at.1, at.2)

  one-comes : (slot : ℕ) (r : Record) (rest : List Found) →
      ((before : List Landmark) (last : Option Landmark) (slots value_slots : List ℕ) → Held before last slots value_slots rest →
      Comes (held before last slots value_slots) rest) →
      (before : List Landmark) (last : Option Landmark) (slots value_slots : List ℕ) →
      Held before last slots value_slots (record { slot = slot; holds = r } ∷ rest) →
      MayCome (held before last slots value_slots) r × HasMarkRoom (held before last slots value_slots)
      × Comes (with_found (held before last slots value_slots) slot r) rest
  one-comes slot (records.Landmark id n said start finish) rest others before last slots value_slots to =
      let rs = without_slots rest in
      let so_far = before ++ option_to_list last in
      let bare : Landmark = record { start = start; finish = finish; values = [] } in
      let l : Landmark = record { start = start; finish = finish; values = values_first rs } in
      let made = to.made ∙ grown-none before last (l ∷ landmarks_made rs) in
      let at = landmark-at 0 so_far l (landmarks_made rs) (subst (FollowFrom 0) made follow) in
      let are_held = closed-held slots value_slots before last in
      let times : later (latest_of so_far) (later (Some start) finish) ≡ latest_of (so_far ++ bare ∷ []) =
      ap (later (latest_of so_far)) (latest-bare finish) ∙ sym (latest_of-push so_far bare) in (
        (
          may-close slots value_slots before last (is-fine before last (l ∷ landmarks_made rs) to.made),
          subst (λ ls. CanOpen ls start) (sym are_held) at.2,
        ),
        has-room before last slots value_slots (record { slot = slot; holds = records.Landmark id n said start finish } ∷ rest) to,
        subst (λ s. Comes s rest) (λ i. record {
          landmarks = sym are_held i ++ opened_at start ∷ [];
          slots = slots ++ slot ∷ [];
          value_slots = value_slots;
          finish = finish;
          latest = sym times i;
        }) (others so_far (Some bare) (slots ++ slot ∷ []) value_slots (record {
          made = made;
          none = tt;
          of_landmarks = append_assoc slots (slot ∷ []) (slots_found (found_by is_landmark rest)) ∙ to.of_landmarks;
          of_values = to.of_values;
        })),
      )
    where
      latest-bare : (o : Option ℕ) → later (Some start) o ≡ Some (fold max start (option_to_list o))
      latest-bare None = refl
      latest-bare (Some f) = refl
  one-comes slot (records.Value id n index t v) rest others before None slots value_slots to = absurd (let never = to.none in cc)
  one-comes slot (records.Value id n index t v) rest others before (Some l) slots value_slots to =
      let rs = without_slots rest in
      let value : LandmarkValue = record { t = t; v = v } in
      let more = with_value value l in
      let vs = values_first rs in
      let at = landmark-at 0 before (record { start = l.start; finish = l.finish; values = l.values ++ value ∷ vs }) (landmarks_made rs)
      (subst (FollowFrom 0) to.made follow) in
      let comes = value-at l.start l.values value vs at.1.values in
      let are_held = change_last-front (with_value value) before (still_open l) in
      let times : later (latest_of (before ++ l ∷ [])) (Some t) ≡ latest_of (before ++ more ∷ []) =
      ap (λ o. later o (Some t)) (latest_of-push before l)
      ∙ sym (latest_of-push before more ∙ ap (λ k. later (latest_of before) (Some k)) (latest_in-more l value)
      ∙ later-assoc (latest_of before) (Some (latest_in l)) (Some t)) in (
        subst (λ (o : Option Landmark). MatchOption o ⊥ (λ x. (x.start ≤ t) × All (λ u. u.t < t) x.values)) (sym (open-held before l l.start at.2)) comes,
        has-room before (Some l) slots value_slots (record { slot = slot; holds = records.Value id n index t v } ∷ rest) to,
        subst (λ s. Comes s rest) (λ i. record {
          landmarks = sym are_held i;
          slots = slots;
          value_slots = value_slots ++ slot ∷ [];
          finish = l.finish;
          latest = sym times i;
        }) (others before (Some more) slots (value_slots ++ slot ∷ []) (record {
          made = to.made ∙ (λ i. before ++ record {
            start = l.start;
            finish = l.finish;
            values = sym (append_assoc l.values (value ∷ []) vs) i;
          } ∷ landmarks_made rs);
          none = tt;
          of_landmarks = to.of_landmarks;
          of_values = append_assoc value_slots (slot ∷ []) (slots_found (found_by is_value rest)) ∙ to.of_values;
        })),
      )
  one-comes slot _ rest others before last slots value_slots to = (
    tt,
    has-room before last slots value_slots _ to,
    others before last slots value_slots (record { made = to.made; none = to.none; of_landmarks = to.of_landmarks; of_values = to.of_values }),
  )

  all-come : (fs : List Found) (before : List Landmark) (last : Option Landmark) (slots value_slots : List ℕ) →
      Held before last slots value_slots fs → Comes (held before last slots value_slots) fs
  all-come [] before last slots value_slots to =
      let are_held = closed-held slots value_slots before last in (
        may-close slots value_slots before last (is-fine before last [] to.made),
        record {
          landmarks = are_held ∙ sym (to.made ∙ grown-none before last [] ∙ append-nil (before ++ option_to_list last));
          latest = sym (ap latest_of are_held);
          slots = sym (append-nil slots) ∙ to.of_landmarks;
          value_slots = sym (append-nil value_slots) ∙ to.of_values;
        },
      )
  all-come (f ∷ fs) before last slots value_slots to = one-comes f.slot f.holds fs (all-come fs) before last slots value_slots to

pub all-may-come : (number : ℕ) (all : List Found) → length all < MOST_RECORDS → are_marks (marks_in number (without_slots all)) ≡ true →
    All (λ f. stream_of f.holds ≡ number) all → All (λ f. IsUsable f.holds) all →
    MayAllCome (AreMade number all) (record { landmarks = []; slots = []; value_slots = []; finish = None; latest = None }) all
all-may-come number all few are own usable =
    let rs = without_slots all in
    let owns = map-all (λ r. stream_of r ≡ number) (λ (f : Found). f.holds) all (recursion_from_All (λ (f : Found). stream_of f.holds ≡ number) all own) in
    let usables = map-all IsUsable (λ (f : Found). f.holds) all (recursion_from_All (λ (f : Found). IsUsable f.holds) all usable) in
    let follow = (AreOf-are_marks number (marks_in number rs) (all-passing (is_mark_of number) rs)
    (all-kept IsUsable (is_mark_of number) rs usables) are).landmarks in
    let numbers = (and_parts _ _ (and_parts _ _ (sym (are_marks-own number rs owns) ∙ are)).0).0 in
    all-come number all few follow all [] None [] [] (record {
      made = made-own number rs owns;
      none = none-first rs usables numbers;
      of_landmarks = refl;
      of_values = refl;
    })
