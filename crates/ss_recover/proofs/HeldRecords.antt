-- The records of streams, as a walk takes them and as they are held, and those that the slots of a map spell.
use Rattle.ss_recover.proofs.Common.{[], ◌++◌, ◌<◌, ◌∙◌, ◌∷◌, ◌≡◌, Agrees, all_value_records, all_values, AllAgree, AllByRecursion, ap, append-nil}
use Rattle.ss_recover.proofs.Common.{append_assoc, ap₂, AreHeld, arith, cons_option, Created, created_by, entries_of, Entry, eq-eqb, false, filter}
use Rattle.ss_recover.proofs.Common.{filter-append, filter_map, filter_map-append, flat_map, flat_map-append, Free, HasWholeSlots, is_mark_of, is_none}
use Rattle.ss_recover.proofs.Common.{IsPermutation, IsPermutation-map, IsPermutation-refl, IsPermutation-trans, landmark_records, length}
use Rattle.ss_recover.proofs.Common.{length-append, length-map, List, list_any, list_any-IsPermutation, map, map-append, map-map, mark_slots, marks_held, None}
use Rattle.ss_recover.proofs.Common.{occupied, Option, range_with_len, Record, records_held, records_in, refl, seconds-zip, SlotMap, slots_held, Some}
use Rattle.ss_recover.proofs.Common.{span_held, span_of, stands_by, Stream, stream_number, stream_of, stream_record, StreamParts, subst, sym, Window}
use Rattle.ss_recover.proofs.Common.{window_of, window_record, window_slots, zip, ℕ, ℤ}
use Rattle.ss_recover.specs.Carried.{spelled}
use Rattle.ss_recover.proofs.InOrder.{Rise, Rise-split}
use Rattle.ss_model.proofs.FoundLemmas.{each-append}
use Rattle.ss_recover.proofs.Marks.{each-mark_of, IsPermutation-walked, marks_of, own-marks}
use Rattle.ss_recover.proofs.RunSound.{marks-own, windows-own}
use Rattle.ss_recover.proofs.WholeSlots.{filter_map-filled, list_any-filled, zeros_are_free}
use Rattle.ss_codec.specs.declared.record.Record.TheVariants as records
use Rattle.std.proofs.lemmas.List.Sorted.{IsPermutation-append}
use Rattle.ss_parts.proofs.Lists.{all-each, map-all}
use Rattle.ss_parts.proofs.MarkRecords.{length-all_value_records, length-landmark_records}
use Rattle.ss_parts.proofs.Permutations.{IsPermutation-filter_map}

-- a stream as it was created
abbrev pub created : Stream → Created
created s = record { number = s.number; name = s.name; params = s.params }

abbrev pub walked : Stream → List Record
walked s = stream_record s ∷ (marks_of s.number 1 s.landmarks ++ map (window_record s.number) s.windows)

abbrev pub all_walked : List Stream → List Record
all_walked streams = flat_map walked streams

-- records of which nothing is made
pub made-none : {Y : Type 0} (f : Record → Option Y) (rs : List Record) → AllByRecursion (λ r. f r ≡ None) rs → filter_map f rs ≡ []
made-none f [] none = refl
made-none f (r ∷ rs) none = rw none.0 (made-none f rs none.1)

pub created-marks : (number n : ℕ) (s : Stream) → filter_map created_by (marks_of number n s.landmarks) ≡ []
created-marks number n s =
    made-none created_by (marks_of number n s.landmarks)
    (each-mark_of (λ r. created_by r ≡ None) number (λ n values start finish. refl) (λ n index t v. refl) n s.landmarks)

created-windows : (number : ℕ) (ws : List Window) → filter_map created_by (map (window_record number) ws) ≡ []
created-windows number [] = refl
created-windows number (w ∷ ws) = created-windows number ws

created-walked : (s : Stream) → filter_map created_by (walked s) ≡ created s ∷ []
created-walked s =
    ap (λ l. created s ∷ l) (filter_map-append created_by (marks_of s.number 1 s.landmarks) (map (window_record s.number) s.windows)
    ∙ ap₂ ◌++◌ (created-marks s.number 1 s) (created-windows s.number s.windows))

-- the streams that they create
pub created-all_walked : (ss : List Stream) → filter_map created_by (all_walked ss) ≡ map created ss
created-all_walked [] = refl
created-all_walked (s ∷ ss) = filter_map-append created_by (walked s) (all_walked ss) ∙ ap₂ ◌++◌ (created-walked s) (created-all_walked ss)

-- all of them stand
made-same : {Y : Type 0} (f g : Record → Option Y) (rs : List Record) → AllByRecursion (λ r. f r ≡ g r) rs → filter_map f rs ≡ filter_map g rs
made-same f g [] same = refl
made-same f g (r ∷ rs) same = (λ i. cons_option (same.0 i) (filter_map f rs)) ∙ ap (cons_option (g r)) (made-same f g rs same.1)

each-walked : (P : Record → Type 0) (s : Stream) → P (stream_record s) →
    ((n values start : ℕ) (finish : Option ℕ) → P (records.Landmark s.number n values start finish)) →
    ((n index t : ℕ) (v : ℤ) → P (records.Value s.number n index t v)) → ((w : Window) → P (window_record s.number w)) → AllByRecursion P (walked s)
each-walked P s own landmark value window = (
  own,
  each-append P (marks_of s.number 1 s.landmarks) (map (window_record s.number) s.windows) (each-mark_of P s.number landmark value 1 s.landmarks)
      (map-all P (window_record s.number) s.windows (all-each (λ w. P (window_record s.number w)) window s.windows)),
)

stands-walked : (s : Stream) → AllByRecursion (λ r. stands_by r ≡ created_by r) (walked s)
stands-walked s = each-walked (λ r. stands_by r ≡ created_by r) s refl (λ n values start finish. refl) (λ n index t v. refl) (λ w. refl)

pub standing-all_walked : (ss : List Stream) → filter_map stands_by (all_walked ss) ≡ map created ss
standing-all_walked ss = made-same stands_by created_by (all_walked ss) (go ss) ∙ created-all_walked ss
  where
    go : (ss : List Stream) → AllByRecursion (λ r. stands_by r ≡ created_by r) (all_walked ss)
    go [] = tt
    go (s ∷ ss) = each-append _ (walked s) (all_walked ss) (stands-walked s) (go ss)

pub own-windows : (number : ℕ) (ws : List Window) → filter_map (window_of number) (map (window_record number) ws) ≡ ws
own-windows number [] = refl
own-windows number (w ∷ ws) = rw (eq-eqb number number refl) (ap (λ l. w ∷ l) (own-windows number ws))

windows-walked : (number : ℕ) (s : Stream) → filter_map (window_of number) (walked s) ≡ filter_map (window_of number) (map (window_record s.number) s.windows)
windows-walked number s =
    filter_map-append (window_of number) (marks_of s.number 1 s.landmarks) (map (window_record s.number) s.windows)
    ∙ ap (λ l. l ++ filter_map (window_of number) (map (window_record s.number) s.windows)) (made-none (window_of number) (marks_of s.number 1 s.landmarks)
    (each-mark_of (λ r. window_of number r ≡ None) s.number (λ n values start finish. refl) (λ n index t v. refl) 1 s.landmarks))

no-marks : (number other : ℕ) (ws : List Window) → filter (is_mark_of number) (map (window_record other) ws) ≡ []
no-marks number other [] = refl
no-marks number other (w ∷ ws) = no-marks number other ws

marks-walked : (number : ℕ) (s : Stream) → filter (is_mark_of number) (walked s) ≡ filter (is_mark_of number) (marks_of s.number 1 s.landmarks)
marks-walked number s =
    filter-append (is_mark_of number) (marks_of s.number 1 s.landmarks) (map (window_record s.number) s.windows)
    ∙ ap (λ l. filter (is_mark_of number) (marks_of s.number 1 s.landmarks) ++ l) (no-marks number s.number s.windows)
    ∙ append-nil (filter (is_mark_of number) (marks_of s.number 1 s.landmarks))

-- among them each stream has its own windows and marks
pub record HasOwn (ss : List Stream) (s : Stream) : Type 0 where
  pub windows : filter_map (window_of s.number) (all_walked ss) ≡ s.windows
  pub marks : filter (is_mark_of s.number) (all_walked ss) ≡ marks_of s.number 1 s.landmarks

-- each is of the number of its stream
pub all-own : (P : ℕ → Type 0) (s : Stream) → P s.number → AllByRecursion (λ r. P (stream_of r)) (walked s)
all-own P s own = each-walked (λ r. P (stream_of r)) s own (λ n values start finish. own) (λ n index t v. own) (λ w. own)

pub all-all_walked : (P : ℕ → Type 0) (ss : List Stream) → AllByRecursion (λ s. P s.number) ss → AllByRecursion (λ r. P (stream_of r)) (all_walked ss)
all-all_walked P [] all = tt
all-all_walked P (s ∷ ss) all = each-append _ (walked s) (all_walked ss) (all-own P s all.0) (all-all_walked P ss all.1)

-- those of lower and of greater numbers are of other streams
own-each : (xs ys : List Stream) → Rise (λ s. s.number) (xs ++ ys) → AllByRecursion (HasOwn (xs ++ ys)) ys
own-each xs [] rise = tt
own-each xs (y ∷ ys) rise =
    let parts = Rise-split (λ (s : Stream). s.number) xs y ys rise in
    let before = all-all_walked (λ n. n < y.number) xs parts.0 in
    let own = all-own (λ n. n ≡ y.number) y refl in
    let behind = all-all_walked (λ n. y.number < n) ys parts.1 in
    let whole : all_walked (xs ++ y ∷ ys) ≡ all_walked xs ++ (walked y ++ all_walked ys) = flat_map-append walked xs (y ∷ ys) in
    let same : xs ++ y ∷ ys ≡ (xs ++ y ∷ []) ++ ys = sym (append_assoc xs (y ∷ []) ys) in (
      record {
        windows =
            ap (filter_map (window_of y.number)) whole ∙ windows-own (all_walked xs) (walked y) (all_walked ys) y.number before own behind
            ∙ windows-walked y.number y ∙ own-windows y.number y.windows;
        marks =
            ap (filter (is_mark_of y.number)) whole ∙ marks-own (all_walked xs) (walked y) (all_walked ys) y.number before own behind
            ∙ marks-walked y.number y ∙ own-marks y.number 1 y.landmarks;
      },
      subst (λ ss. AllByRecursion (HasOwn ss) ys) (sym same) (own-each (xs ++ y ∷ []) ys (subst (Rise (λ s. s.number)) same rise)),
    )

pub HasOwn-each : (ss : List Stream) → Rise (λ s. s.number) ss → AllByRecursion (HasOwn ss) ss
HasOwn-each ss rise = own-each [] ss rise

pub each-number : (P : ℕ → Type 0) (rs : List Record) → AllByRecursion (λ r. P (stream_of r)) rs → AllByRecursion P (filter_map stream_number rs)
each-number P [] each = tt
each-number P (records.Free ∷ rs) each = each-number P rs each.1
each-number P (_ ∷ rs) each = (each.0, each-number P rs each.1)

pub all-number_of : (P : ℕ → Type 0) (ss : List Stream) → AllByRecursion (λ s. P s.number) ss → AllByRecursion P (filter_map stream_number (all_walked ss))
all-number_of P ss all = each-number P (all_walked ss) (all-all_walked P ss all)

-- ---- as they are held

-- the records of a stream, and of streams
abbrev pub records_of_stream : Stream → List Record
records_of_stream s =
    stream_record s
    ∷ map (window_record s.number) s.windows
    ++ (landmark_records s.number 1 s.landmarks ++ all_value_records s.number 1 s.landmarks)

abbrev pub records_of_streams : List Stream → List Record
records_of_streams streams = flat_map records_of_stream streams

-- as a walk takes them they are the same, in another order
pub IsPermutation-all_walked : (ss : List Stream) → IsPermutation (all_walked ss) (records_of_streams ss)
IsPermutation-all_walked [] = IsPermutation-refl []
IsPermutation-all_walked (s ∷ ss) =
    IsPermutation-append (walked s) (records_of_stream s) (all_walked ss) (records_of_streams ss) (IsPermutation-walked s) (IsPermutation-all_walked ss)

-- lists of one length side by side
zip-append : {X Y : Type 0} (xs vs : List X) (ys ws : List Y) → length xs ≡ length ys → zip (xs ++ vs) (ys ++ ws) ≡ zip xs ys ++ zip vs ws
zip-append [] vs [] ws long = refl
zip-append [] vs (y ∷ ys) ws long = absurd (omega arith)
zip-append (x ∷ xs) vs [] ws long = absurd (omega arith)
zip-append (x ∷ xs) vs (y ∷ ys) ws long = ap (λ l. (x, y) ∷ l) (zip-append xs vs ys ws (omega arith))

-- what is held of a stream: its slots, each with a record of the stream
module _ (part : StreamParts) (s : Stream) (agrees : Agrees part s) where
  abbrev window_records : List Record
  window_records = map (window_record s.number) s.windows

  abbrev firsts : List Record
  firsts = landmark_records s.number 1 s.landmarks

  abbrev others : List Record
  others = all_value_records s.number 1 s.landmarks

  long-windows : length (window_slots part) ≡ length (map Some (stream_record s ∷ window_records))
  long-windows =
      omega (
        arith,
        length-map (entries_of part) (λ (e : Entry). e.slot),
        length-map (stream_record s ∷ window_records) Some,
        length-map s.windows (window_record s.number),
        length-map (entries_of part) span_held,
        length-map s.windows span_of,
        ap length agrees.positions,
      )

  long-firsts : length part.landmarks.slots ≡ length (map Some firsts)
  long-firsts = omega (arith, agrees.known.slots, ap length agrees.landmarks, length-landmark_records s.number 1 s.landmarks, length-map firsts Some)

  long-others : length part.landmarks.value_slots ≡ length (map Some others)
  long-others =
      omega (
        arith,
        agrees.known.value_slots,
        ap (λ ls. length (all_values ls)) agrees.landmarks,
        length-all_value_records s.number 1 s.landmarks,
        length-map others Some,
      )

  marks-zip : marks_held (part, s) ≡ zip (mark_slots part) (map Some (firsts ++ others))
  marks-zip =
      sym (zip-append part.landmarks.slots part.landmarks.value_slots (map Some firsts) (map Some others) long-firsts)
      ∙ ap (zip (mark_slots part)) (sym (map-append Some firsts others))

  pub held-zip : records_held (part, s) ≡ zip (slots_held part) (map Some (records_of_stream s))
  held-zip =
      ap₂ ◌++◌ (ap (λ l. (part.slot, Some (stream_record s)) ∷ zip (map (λ (e : Entry). e.slot) (entries_of part)) l)
      (sym (map-map Some (window_record s.number) s.windows))) marks-zip
      ∙ sym (zip-append (window_slots part) (mark_slots part) (map Some (stream_record s ∷ window_records)) (map Some (firsts ++ others)) long-windows)
      ∙ ap (zip (slots_held part)) (sym (map-append Some (stream_record s ∷ window_records) (firsts ++ others)))

  pub held-long : length (slots_held part) ≡ length (map Some (records_of_stream s))
  held-long =
      omega (
        arith,
        long-windows,
        long-firsts,
        long-others,
        length-append (window_slots part) (mark_slots part),
        length-append part.landmarks.slots part.landmarks.value_slots,
        length-map (records_of_stream s) Some,
        length-append (stream_record s ∷ window_records) (firsts ++ others),
        length-append firsts others,
        length-map (stream_record s ∷ window_records) Some,
        length-map firsts Some,
        length-map others Some,
      )

pub second-held : (parts : List StreamParts) (streams : List Stream) → AllAgree parts streams →
    map (λ (e : ℕ × Option Record). e.1) (flat_map records_held (zip parts streams)) ≡ map Some (records_of_streams streams)
second-held [] [] each = refl
second-held [] (s ∷ ss) each = absurd each
second-held (part ∷ parts) [] each = absurd each
second-held (part ∷ parts) (s ∷ ss) each =
    map-append (λ (e : ℕ × Option Record). e.1) (records_held (part, s)) (flat_map records_held (zip parts ss)) ∙ ap₂ ◌++◌
    (ap (map (λ (e : ℕ × Option Record). e.1)) (held-zip part s each.0)
    ∙ seconds-zip (slots_held part) (map Some (records_of_stream s)) (sym (held-long part s each.0))) (second-held parts ss each.1)
    ∙ sym (map-append Some (records_of_stream s) (records_of_streams ss))

pub records_in-Some : (rs : List Record) → records_in (map Some rs) ≡ rs
records_in-Some [] = refl
records_in-Some (r ∷ rs) = ap (λ l. r ∷ l) (records_in-Some rs)

-- every record is one
list_any-Some : (rs : List Record) → list_any is_none (map Some rs) ≡ false
list_any-Some [] = refl
list_any-Some (r ∷ rs) = list_any-Some rs

-- what is held over a map of whole slots
module _ (parts : List StreamParts) (streams : List Stream) (found : SlotMap) (whole : HasWholeSlots found) (held : AreHeld parts streams found) where
  moved : IsPermutation (map Some (all_walked streams)) (map (λ e. e.1) (occupied found))
  moved =
      IsPermutation-trans _ _ _ (IsPermutation-map Some (all_walked streams) (records_of_streams streams) (IsPermutation-all_walked streams))
      (subst (λ l. IsPermutation l (map (λ (e : ℕ × Option Record). e.1) (occupied found))) (second-held parts streams held.each)
      (IsPermutation-map (λ (e : ℕ × Option Record). e.1) (flat_map records_held (zip parts streams)) (occupied found) held.records))

  -- each slot spells a record
  pub every_slot_spells : list_any is_none (spelled found) ≡ false
  unfolding spelled
  every_slot_spells =
      list_any-filled found.bytes (range_with_len 0 found.extent) (zeros_are_free found whole)
      ∙ sym (list_any-IsPermutation is_none (map Some (all_walked streams)) (map (λ e. e.1) (occupied found)) moved) ∙ list_any-Some (all_walked streams)

  -- what is made of the records of the streams is what is made of those of the slots
  pub made_of_records : {Y : Type 0} (f : Record → Option Y) → f Free ≡ None →
      IsPermutation (filter_map f (all_walked streams)) (filter_map f (records_in (spelled found)))
  unfolding spelled
  made_of_records f free =
      subst (λ l. IsPermutation (filter_map f (all_walked streams)) l)
      (sym (filter_map-filled f free found.bytes (range_with_len 0 found.extent) (zeros_are_free found whole)))
      (subst (λ l. IsPermutation (filter_map f l) (filter_map f (records_in (map (λ e. e.1) (occupied found))))) (records_in-Some (all_walked streams))
      (IsPermutation-filter_map f (records_in (map Some (all_walked streams))) (records_in (map (λ e. e.1) (occupied found)))
      (IsPermutation-filter_map (λ o. o) (map Some (all_walked streams)) (map (λ e. e.1) (occupied found)) moved)))
