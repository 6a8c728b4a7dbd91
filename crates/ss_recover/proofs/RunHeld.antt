-- What is held of a stream agrees with the one that its records make, and has these records.
use Rattle.ss_recover.proofs.Common.{[], ◌&&◌, ◌++◌, ◌+◌, ◌∙◌, ◌∷◌, ◌≡◌, Agrees, all_value_records, AllAgree, AllByRecursion, ap, append-nil, append_assoc}
use Rattle.ss_recover.proofs.Common.{ap₂, Bool, cond, Created, Entry, false, filter, filter-append, filter-map, flat_map, Found, found_by, in_slots}
use Rattle.ss_recover.proofs.Common.{is_landmark, is_own, is_value, is_window, IsHeldOf, IsPermutation, IsPermutation-append_comm, IsPermutation-cons}
use Rattle.ss_recover.proofs.Common.{IsPermutation-map, IsPermutation-trans, IsUsable, Landmark, landmark_record, landmark_records, landmarks_made}
use Rattle.ss_recover.proofs.Common.{LandmarkValue, later, latest_of, List, map, map-append, map-map, marks_in, newest_time, not, Record}
use Rattle.ss_recover.proofs.Common.{records_held, refl, slots_found, Some, Stream, stream_made, stream_record, StreamParts, subst, sym, true}
use Rattle.ss_recover.proofs.Common.{value_records, Window, window_record, windows_held, windows_in, with_slot, without_slots, zip, ℕ}
use Rattle.ss_line.specs.declared.entry.At.{At}
use Rattle.ss_recover.proofs.Marks.{each-mark_of, marks_of}
use Rattle.ss_recover.proofs.RunStanding.{filter-const, in-three, own_found}
use Rattle.ss_codec.specs.declared.record.Record.TheVariants as records
use Rattle.ss_parts.proofs.Lists.{all-each, all_both, all_weaker, filter-none, filter-same, map-all}

-- of the records of landmarks, those of the landmarks and the others
landmarks-values : (number n index : ℕ) (values : List LandmarkValue) → filter is_landmark (value_records number n index values) ≡ []
landmarks-values number n index [] = refl
landmarks-values number n index (v ∷ vs) = landmarks-values number n (index + 1) vs

values-values : (number n index : ℕ) (values : List LandmarkValue) → filter is_value (value_records number n index values)
    ≡ value_records number n index values
values-values number n index [] = refl
values-values number n index (v ∷ vs) = ap (λ rs. records.Value number n index v.t v.v ∷ rs) (values-values number n (index + 1) vs)

landmarks-marks : (number n : ℕ) (ls : List Landmark) → filter is_landmark (marks_of number n ls) ≡ landmark_records number n ls
landmarks-marks number n [] = refl
landmarks-marks number n (l ∷ ls) =
    ap (λ rs. landmark_record number n l ∷ rs) (filter-append is_landmark (value_records number n 1 l.values) (marks_of number (n + 1) ls)
    ∙ ap₂ ◌++◌ (landmarks-values number n 1 l.values) (landmarks-marks number (n + 1) ls))

values-marks : (number n : ℕ) (ls : List Landmark) → filter is_value (marks_of number n ls) ≡ all_value_records number n ls
values-marks number n [] = refl
values-marks number n (l ∷ ls) =
    filter-append is_value (value_records number n 1 l.values) (marks_of number (n + 1) ls)
    ∙ ap₂ ◌++◌ (values-values number n 1 l.values) (values-marks number (n + 1) ls)

-- the records that were found, each in its slot
slots-records : (all : List Found) → in_slots (slots_found all) (without_slots all) ≡ map with_slot all
slots-records [] = refl
slots-records (f ∷ fs) = ap (λ l. with_slot f ∷ l) (slots-records fs)

-- lists that agree, one behind the other
pub AllAgree-append : (parts : List StreamParts) (streams : List Stream) (ps : List StreamParts) (ss : List Stream) → AllAgree parts streams → AllAgree ps ss →
    AllAgree (parts ++ ps) (streams ++ ss)
AllAgree-append [] [] ps ss each more = more
AllAgree-append [] (s' ∷ streams) ps ss each more = absurd each
AllAgree-append (p ∷ parts) [] ps ss each more = absurd each
AllAgree-append (p ∷ parts) (s' ∷ streams) ps ss each more = (each.0, AllAgree-append parts streams ps ss each.1 more)

pub AllAgree-push : (parts : List StreamParts) (streams : List Stream) (part : StreamParts) (s : Stream) → AllAgree parts streams → Agrees part s →
    AllAgree (parts ++ part ∷ []) (streams ++ s ∷ [])
AllAgree-push parts streams part s each one = AllAgree-append parts streams (part ∷ []) (s ∷ []) each (one, tt)

-- and their records
pub held-append : (parts : List StreamParts) (streams : List Stream) (ps : List StreamParts) (ss : List Stream) → AllAgree parts streams →
    flat_map records_held (zip (parts ++ ps) (streams ++ ss)) ≡ flat_map records_held (zip parts streams) ++ flat_map records_held (zip ps ss)
held-append [] [] ps ss each = refl
held-append [] (s' ∷ streams) ps ss each = absurd each
held-append (p ∷ parts) [] ps ss each = absurd each
held-append (p ∷ parts) (s' ∷ streams) ps ss each =
    ap (λ l. records_held (p, s') ++ l) (held-append parts streams ps ss each.1)
    ∙ sym (append_assoc (records_held (p, s')) (flat_map records_held (zip parts streams)) (flat_map records_held (zip ps ss)))

-- records after a stream's own are those of windows, of landmarks and of values
parts-found : (fs : List Found) → AllByRecursion (λ (f : Found). IsUsable f.holds) fs → AllByRecursion (λ (f : Found). is_own f.holds ≡ false) fs →
    IsPermutation (found_by is_window fs ++ (found_by is_landmark fs ++ found_by is_value fs)) fs
parts-found fs usable none =
    let at = all_both _ _ _ (λ (f : Found) possible other. kinds f.holds possible other) fs usable none in
    let ws = found_by is_window fs in
    let firsts = filter-same (λ (f : Found). not (is_value f.holds) && not (is_window f.holds)) (λ f. is_landmark f.holds) fs (all_weaker _ _
    (λ f kind. kind.0) fs at) in
    let others = filter-same (λ (f : Found). is_value f.holds && not (is_window f.holds)) (λ f. is_value f.holds) fs (all_weaker _ _
    (λ f kind. kind.1) fs at) in
    let last = filter-same (λ (f : Found). not (not (is_window f.holds))) (λ f. is_window f.holds) fs (all_weaker _ _ (λ f kind. kind.2) fs at) in
    IsPermutation-trans _ _ _ (IsPermutation-append_comm ws (found_by is_landmark fs ++ found_by is_value fs)) (subst (λ l. IsPermutation l fs)
    (λ i. (firsts i ++ others i) ++ last i) (in-three (λ (f : Found). not (is_window f.holds)) (λ f. is_value f.holds) fs))
  where
    kinds : (r : Record) → IsUsable r → is_own r ≡ false → ((not (is_value r) && not (is_window r)) ≡ is_landmark r)
        × ((is_value r && not (is_window r)) ≡ is_value r) × (not (not (is_window r)) ≡ is_window r)
    kinds records.Free possible other = absurd possible
    kinds (records.Stream id name params dropped) possible other = cc
    kinds _ possible other = (refl, refl, refl)

-- What is held of a stream whose own record is the first, where the others are those of its landmarks and then of its windows.
module _ (part : StreamParts) (slot : ℕ) (head : Created) (rest : List Found) (held : IsHeldOf part slot head rest) where
  abbrev ws : List Window
  ws = windows_in head.number (without_slots rest)

  abbrev ls : List Landmark
  ls = landmarks_made (marks_in head.number (without_slots rest))

  abbrev s : Stream
  s = stream_made (without_slots rest) head

  pub held-agrees : Agrees part s
  held-agrees = record {
    number = held.id;
    name = held.name;
    params = held.params;
    positions = held.kept.positions;
    times = held.kept.times;
    landmarks = held.landmarks;
    known = held.known;
    last_time = held.last_time ∙ ap (λ ls. later (newest_time ws) (latest_of ls)) held.landmarks;
  }

  module _ (order : without_slots rest ≡ marks_of head.number 1 ls ++ map (window_record head.number) ws) where
    -- those of one kind
    of-kind : (p : Record → Bool) (b : Bool) (rs : List Record) → filter p (marks_of head.number 1 ls) ≡ rs →
        ((w : Window) → p (window_record head.number w) ≡ b) → rs ++ cond b (map (window_record head.number) ws) [] ≡ without_slots (found_by p rest)
    of-kind p b rs marks is =
        ap₂ ◌++◌ (sym marks) (sym (filter-const p b (map (window_record head.number) ws)
        (map-all (λ r. p r ≡ b) (window_record head.number) ws (all-each (λ w. p (window_record head.number w) ≡ b) is ws))))
        ∙ sym (filter-append p (marks_of head.number 1 ls) (map (window_record head.number) ws)) ∙ ap (filter p) (sym order)
        ∙ filter-map p (λ (f : Found). f.holds) rest

    -- in their slots
    in-found : (p : Record → Bool) (slots : List ℕ) (rs : List Record) → slots ≡ slots_found (found_by p rest) → rs ≡ without_slots (found_by p rest) →
        in_slots slots rs ≡ map with_slot (found_by p rest)
    in-found p slots rs at are = ap₂ in_slots at are ∙ slots-records (found_by p rest)

    windows-held : windows_held (part, s) ≡ map with_slot (own_found slot head false ∷ found_by is_window rest)
    windows-held =
        let none = filter-none is_window (marks_of head.number 1 ls)
        (each-mark_of (λ r. is_window r ≡ false) head.number (λ n values start finish. refl) (λ n index t v. refl) 1 ls) in
        ap₂ (λ (at : ℕ) l. (at, Some (stream_record s)) ∷ l) held.in_slot
        (ap (zip (map (λ (e : Entry). e.slot) (map (λ (e : At × Entry). e.1) part.line.entries))) (sym (map-map Some (window_record head.number) ws))
        ∙ in-found is_window _ _ held.kept.entries (of-kind is_window true [] none (λ w. refl)))

    landmarks-held : in_slots part.landmarks.slots (landmark_records head.number 1 ls) ≡ map with_slot (found_by is_landmark rest)
    landmarks-held =
        in-found is_landmark _ _ held.kept.slots
        (sym (append-nil _) ∙ of-kind is_landmark false (landmark_records head.number 1 ls) (landmarks-marks head.number 1 ls) (λ w. refl))

    values-held : in_slots part.landmarks.value_slots (all_value_records head.number 1 ls) ≡ map with_slot (found_by is_value rest)
    values-held =
        in-found is_value _ _ held.kept.value_slots
        (sym (append-nil _) ∙ of-kind is_value false (all_value_records head.number 1 ls) (values-marks head.number 1 ls) (λ w. refl))

    -- its records are those that were found, in another order
    pub held-found : AllByRecursion (λ (f : Found). IsUsable f.holds) rest → AllByRecursion (λ (f : Found). is_own f.holds ≡ false) rest →
        IsPermutation (records_held (part, s)) (map with_slot (own_found slot head false ∷ rest))
    held-found usable none =
        let h = own_found slot head false in
        let fs = found_by is_window rest in
        let us = found_by is_landmark rest ++ found_by is_value rest in
        let parts : records_held (part, s) ≡ map with_slot (h ∷ (fs ++ us)) =
        ap₂ ◌++◌ windows-held (ap₂ ◌++◌ landmarks-held values-held ∙ sym (map-append with_slot (found_by is_landmark rest) (found_by is_value rest)))
        ∙ sym (map-append with_slot (h ∷ fs) us) in
        subst (λ l. IsPermutation l (map with_slot (h ∷ rest))) (sym parts)
        (IsPermutation-map with_slot (h ∷ (fs ++ us)) (h ∷ rest) (IsPermutation-cons h (fs ++ us) rest (parts-found rest usable none)))
