-- Landmarks as they are held: that they stay so where one is opened, takes a value and is closed, and what is read of them.
use Rattle.std.proofs.Common.{◌≡◌, ◌∙◌, sym, ap, refl, ℕ, ◌+◌, ◌-◌, ◌≤◌, List, [], ◌∷◌, ◌++◌, length, Option, Some, None, arith, get_or, map}
use Rattle.std.specs.Prelude.{FitsSigned, slice_index}
use Rattle.std.specs.Int.{w64}
use Rattle.std.specs.Option.{option_map}
use Rattle.std.proofs.lemmas.List.{append-nil, length-drop, length-map, map_push, get_or_push, length_push}
use Rattle.std.proofs.lemmas.List.Elements.{All-push}
use Rattle.std.proofs.lemmas.List.Sums.{sum_by_push}
use Rattle.ss_landmarks.specs.Landmark.{Landmark, LandmarkValue, with_value, change_last, open_landmark}
use Rattle.ss_landmarks.specs.Landmarks.{AreKnown}
use Rattle.ss_landmarks.specs.Free.{is_free}
use Rattle.ss_landmarks.specs.Order.{CanOpen, CanTake, CanClose, AreLandmarks}
use Rattle.ss_landmarks.specs.Stored.{landmarks_from, closed_values, one_open, slots_of, free_before, Apart, KnowFree, AreStored}
use Rattle.ss_landmarks.specs.declared.landmarks.TheConstants.{MOST_LANDMARK_SLOTS}
use Rattle.ss_base.specs.declared.limits.TheConstants.{LAST_TIME}
use Rattle.ss_landmarks.specs.declared.stored.Closed.{Closed}
use Rattle.ss_landmarks.specs.declared.stored.Opened.{Opened}
use Rattle.ss_landmarks.proofs.Counting.{among-same}
use Rattle.ss_landmarks.proofs.OrderLemmas.{FollowFrom-open, AreLandmarks-take, AreLandmarks-close}
use Rattle.ss_landmarks.proofs.StoredLemmas.{Apart-follow}
use Rattle.ss_landmarks.proofs.HeldLemmas.{length-landmarks_from, length-slots_of, all_values-landmarks_from, open_landmark-none, open_landmark-some}
use Rattle.ss_landmarks.proofs.HeldLemmas.{CanOpen-some, landmarks_from-open, landmarks_from-close, landmarks_from-take, is_free-open_later, is_free-close}

-- ---- an opening

pub CanOpen-none : (t : ℕ) (cs : List Closed) (current : Option Opened) (values : List LandmarkValue)
    → CanOpen (landmarks_from cs current values) t → current ≡ None
CanOpen-none t cs None values can = refl
CanOpen-none t cs (Some o) values can = absurd (CanOpen-some t cs o values can)

KnowFree-open : (cs : List Closed) (o : Opened) → KnowFree cs None → Apart 0 cs (Some o)
    → o.free_before ≡ free_before (landmarks_from cs None []) o.start → KnowFree cs (Some o)
KnowFree-open cs o know apart free =
    let same = λ (t : ℕ) (early : t ≤ o.start). among-same (is_free (landmarks_from cs None [])) (is_free (landmarks_from cs (Some o) [])) 0 t
    (λ u low high. sym (is_free-open_later u cs o [] (omega arith))) in
    record {
      apart = apart;
      closed = λ k d below. know.closed k d below ∙ same (get_or cs k d).start (omega (arith, apart.open_last k d below, (apart.ends k d below).0));
      opened = free ∙ same o.start (omega arith);
    }

pub AreStored-open : (cs : List Closed) (o : Opened) (values : List LandmarkValue) → AreStored cs None values
    → CanOpen (landmarks_from cs None values) o.start → o.start ≤ LAST_TIME → o.values_before ≡ length values
    → o.free_before ≡ free_before (landmarks_from cs None []) o.start → AreStored cs (Some o) values
AreStored-open cs o values stored can early count free =
    let order : AreLandmarks (landmarks_from cs (Some o) values) =
    rw (landmarks_from-open cs o values stored.shared) (FollowFrom-open 0 o.start _ stored.order can (omega arith) early) in
    record {
      order = order;
      shared = (count ∙ sym stored.shared, omega (arith, stored.shared));
      know = KnowFree-open cs o stored.know (Apart-follow 0 cs (Some o) values order) free;
    }

pub slots_of-open : (cs : List Closed) (o : Opened) → slots_of cs (Some o) ≡ slots_of cs None ++ o.slot ∷ []
slots_of-open cs o = ap (λ (slots : List ℕ). slots ++ o.slot ∷ []) (sym (append-nil (map (λ (c : Closed). c.slot) cs)))

-- ---- a value

pub CanTake-none : (t : ℕ) (cs : List Closed) (values : List LandmarkValue) → CanTake (landmarks_from cs None values) t → ⊥
CanTake-none t cs values can = rw open_landmark-none at can

pub AreStored-take : (cs : List Closed) (current : Option Opened) (values : List LandmarkValue) (value : LandmarkValue) → AreStored cs current values
    → CanTake (landmarks_from cs current values) value.t → value.t ≤ LAST_TIME → FitsSigned w64 value.v → AreStored cs current (values ++ value ∷ [])
AreStored-take cs None values value stored can early fits = absurd (CanTake-none value.t cs values can)
AreStored-take cs (Some o) values value stored can early fits = record {
  order = rw (landmarks_from-take cs o values value stored.shared.1) (AreLandmarks-take _ value stored.order can early fits);
  shared = (stored.shared.0, omega (arith, stored.shared.1, length_push values value));
  know = stored.know;
}

pub landmarks_of_push : (cs : List Closed) (current : Option Opened) (values : List LandmarkValue) (value : LandmarkValue) → AreStored cs current values
    → CanTake (landmarks_from cs current values) value.t
    → landmarks_from cs current (values ++ value ∷ []) ≡ change_last (with_value value) (landmarks_from cs current values)
landmarks_of_push cs None values value stored can = absurd (CanTake-none value.t cs values can)
landmarks_of_push cs (Some o) values value stored can = landmarks_from-take cs o values value stored.shared.1

-- ---- a closing

pub CanClose-none : (t : ℕ) (cs : List Closed) (values : List LandmarkValue) → CanClose (landmarks_from cs None values) t → ⊥
CanClose-none t cs values can = rw open_landmark-none at can

module _ (cs : List Closed) (o : Opened) (new : Closed) (starts : new.start ≡ o.start) where
  KnowFree-close : KnowFree cs (Some o) → Apart 0 (cs ++ new ∷ []) None → new.free_before ≡ o.free_before → KnowFree (cs ++ new ∷ []) None
  KnowFree-close know apart free =
      let later = landmarks_from (cs ++ new ∷ []) None [] in
      let same = λ (t : ℕ) (early : t ≤ o.start). among-same (is_free (landmarks_from cs (Some o) [])) (is_free later) 0 t
      (λ u low high. sym (is_free-close o new starts u cs [] (omega arith))) in
      record {
        apart = apart;
        closed = All-push (λ (c : Closed). c.free_before ≡ free_before later c.start) cs new
            (λ k d below. know.closed k d below ∙ same (get_or cs k d).start (omega (arith, know.apart.open_last k d below, (know.apart.ends k d below).0)))
            (free ∙ know.opened ∙ same o.start (omega arith) ∙ ap (free_before later) (sym starts));
        opened = tt;
      }

  pub AreStored-close : (values : List LandmarkValue) → AreStored cs (Some o) values → closed_values cs + new.values ≡ length values
      → CanClose (landmarks_from cs (Some o) values) new.finish → new.finish ≤ LAST_TIME → new.free_before ≡ o.free_before
      → AreStored (cs ++ new ∷ []) None values
  AreStored-close values stored all can early free =
      let order : AreLandmarks (landmarks_from (cs ++ new ∷ []) None values) =
      rw (landmarks_from-close o new starts cs values all) (AreLandmarks-close _ new.finish stored.order can early) in
      record {
        order = order;
        shared = omega (arith, all, sum_by_push (λ (c : Closed). c.values) cs new);
        know = KnowFree-close stored.know (Apart-follow 0 (cs ++ new ∷ []) None values order) free;
      }

pub slots_of-close : (cs : List Closed) (o : Opened) (new : Closed) → new.slot ≡ o.slot → slots_of (cs ++ new ∷ []) None ≡ slots_of cs (Some o)
slots_of-close cs o new same =
    append-nil (map (λ (c : Closed). c.slot) (cs ++ new ∷ []))
    ∙ map_push (λ (c : Closed). c.slot) cs new
    ∙ ap (λ (slot : ℕ). map (λ (c : Closed). c.slot) cs ++ slot ∷ []) same

-- ---- what is read

module _ (slots : List ℕ) where
  abbrev told : Landmark → ℕ × ℕ × ℕ
  told l = (l.start, slice_index slots (length slots - 1), length l.values)

pub opened-none : (cs : List Closed) (values : List LandmarkValue) (slots : List ℕ)
    → option_map (told slots) (open_landmark (landmarks_from cs None values)) ≡ None
opened-none cs values slots = ap (option_map (told slots)) (open_landmark-none cs values)

last-slot : (cs : List Closed) (o : Opened) → slice_index (slots_of cs (Some o)) (length (slots_of cs (Some o)) - 1) ≡ o.slot
last-slot cs o =
    get_or_push (map (λ (c : Closed). c.slot) cs) o.slot 0 _ (omega (arith, length-map cs (λ (c : Closed). c.slot), length-slots_of cs (Some o)))

pub opened-some : (cs : List Closed) (o : Opened) (values : List LandmarkValue)
    → option_map (told (slots_of cs (Some o))) (open_landmark (landmarks_from cs (Some o) values)) ≡ Some (o.start, o.slot, length values - closed_values cs)
opened-some cs o values =
    ap (option_map (told (slots_of cs (Some o)))) (open_landmark-some cs o values)
    ∙ rw (last-slot cs o, length-drop (closed_values cs) values) refl

-- what is true of all that is seen
pub AreKnown-stored : (cs : List Closed) (current : Option Opened) (values : List LandmarkValue) (value_slots : List ℕ) (room value_room : ℕ)
    → AreStored cs current values → length value_slots ≡ length values → length cs + one_open current + room ≤ MOST_LANDMARK_SLOTS
    → length values + value_room ≤ MOST_LANDMARK_SLOTS
    → AreKnown (record {
      landmarks = landmarks_from cs current values;
      slots = slots_of cs current;
      value_slots = value_slots;
      room = room;
      value_room =
          value_room;
    })
AreKnown-stored cs current values value_slots room value_room stored same most most_values = record {
  order = stored.order;
  slots = omega (arith, length-slots_of cs current, length-landmarks_from cs current values);
  value_slots = same ∙ sym (ap length (all_values-landmarks_from cs current values stored.shared));
  most = omega (arith, length-landmarks_from cs current values, most);
  most_values = omega (arith, same, most_values);
}
