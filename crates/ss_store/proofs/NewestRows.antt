-- Worked rows of where the newest value is held and of refused looks, each computed, and what looks tell.
use Rattle.ss_store.proofs.Common.{◌≡◌, ℕ, ◌+◌, ◌≤◌, true, false, List, [], ◌∷◌, ◌++◌, length, map, take, drop, refl, None, Some, Ok, pos, OnlyReads, Told}
use Rattle.ss_store.proofs.Common.{Landmark, LandmarkValue, all_values, At, Entry, Happened, landmarks_of, values_of, later, latest_of, newest_in, Stream}
use Rattle.ss_store.proofs.Common.{Newest, RecordsState, shown_by, TellsNewest, is_newer, place_if_newer, Recovers, Stands}
use Rattle.ss_catalog.specs.declared.refusal.Refusal.TheVariants as refusal
use Rattle.ss_landmarks.specs.ValuesIn.{values_between}
use Rattle.ss_model.specs.History.{marked_of}
use Rattle.ss_model.specs.NewestTruth.{HoldsNewest}
use Rattle.ss_model.specs.Windows.{time_of_last}
use Rattle.ss_store.specs.Newest.{refuses_reading_held, refuses_values_held}
use Rattle.ss_store.specs.Values.{AreValuesIn}
use Rattle.ss_store.specs.declared.store.values.ValueRange.{ValueRange}

abbrev at_20 : LandmarkValue
at_20 = record { t = 20; v = pos 5 }

-- a window's last time beside that of a value: later, and not
newer-than : map (is_newer (Some at_20)) (19 ∷ 20 ∷ 21 ∷ []) ≡ false ∷ false ∷ true ∷ []
newer-than = refl

newer-none : is_newer None 0 ≡ true
newer-none = refl

abbrev ends_at : ℕ → At × Entry
ends_at t = (record { 0 = 7 }, record { first = 1; last = 2; t_first = 1; t_last = t; slot = 9 })

places : place_if_newer None None ∷ place_if_newer (Some at_20) None ∷ place_if_newer None (Some (ends_at 5)) ∷ place_if_newer (Some at_20) (Some (ends_at 19))
    ∷ place_if_newer (Some at_20) (Some (ends_at 21)) ∷ []
    ≡ None ∷ None ∷ Some (record { 0 = 7 }) ∷ None ∷ Some (record { 0 = 7 }) ∷ []
places = refl

-- where no stream is held, that comes first
refused-none : refuses_reading_held [] (97 ∷ []) ∷ refuses_values_held [] (97 ∷ []) 5 4 ∷ refuses_values_held [] (97 ∷ []) 4 5 ∷ []
    ≡ Some refusal.Unknown ∷ Some refusal.Unknown ∷ Some refusal.Unknown ∷ []
unfolding refuses_reading_held refuses_values_held
refused-none = refl

-- what each part of a relation says
module _ {was : RecordsState} {name : List ℕ} {old new : Told} (told : Newest) (tells : TellsNewest was name (Ok told) old new) where
  tells-newest : (streams : List Stream) → Recovers streams (shown_by was old.content) → newest_in streams name ≡ Some told
  tells-newest = tells.newest

  tells-truth : (history : List Happened) → Stands history (shown_by was old.content) →
      HoldsNewest told (later (time_of_last (values_of history name)) (latest_of (landmarks_of history name)))
      (values_of history name ++ marked_of history name)
  tells-truth = tells.truth

  tells-reads : OnlyReads old new
  tells-reads = tells.reads

module _ {landmarks : List Landmark} {from to : ℕ} {range : ValueRange} (are : AreValuesIn landmarks from to range) where
  values-are : values_between landmarks from to ≡ take range.count (drop range.first (all_values landmarks))
  values-are = are.values

  values-count : range.count ≡ length (values_between landmarks from to)
  values-count = are.count

  values-within : range.first + range.count ≤ length (all_values landmarks)
  values-within = are.within
