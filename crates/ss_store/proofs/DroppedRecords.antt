-- The records of one stream beside others: they go in turn once it was dropped, its own last, and none of the others has its number.
use Rattle.ss_store.proofs.Common.{◌≡◌, ◌∙◌, ℕ, ◌+◌, Bool, true, false, List, [], ◌∷◌, ◌++◌, length, map, flat_map, zip, refl, ap, ap₂, sym, Option, Some}
use Rattle.ss_store.proofs.Common.{◌==◌, ◌||◌, AllByRecursion, list_any, option_map_or, eq-eqb, length-map, map-append, list_any-append, Record, Landmark}
use Rattle.ss_store.proofs.Common.{LandmarkValue, all_values, Entry, Stream, Window, GoInTurn, is_of, records_beside, Agrees, all_value_records, entries_of}
use Rattle.ss_store.proofs.Common.{in_slots, landmark_records, marks_held, records_held, span_held, span_of, value_records, window_record, StreamParts}
use Rattle.ss_store.proofs.Common.{length-all_value_records, length-landmark_records, slots_in_turn}
use Rattle.std.proofs.lemmas.List.{append_assoc}
use Rattle.std.proofs.lemmas.List.Concat.{flat_map-cons}
use Rattle.std.proofs.lemmas.List.Elements.{filter_map-append}
use Rattle.std.proofs.lemmas.Slice.Zip.{firsts-zip}
use Rattle.ss_codec.specs.declared.record.Record.TheVariants as records
use Rattle.ss_recover.specs.Carried.{is_drop_of, is_dropped}
use Rattle.ss_recover.specs.Doomed.{may_go}
use Rattle.ss_model.proofs.FoundLemmas.{each-append}

-- a record of the stream of a number, other than its own
pub record IsBesideOwn (number : ℕ) (r : Record) : Type 0 where
  pub goes : (others : List Record) → may_go r others ≡ is_dropped number others
  pub of : (n : ℕ) → is_of n r ≡ (number == n)

-- the same in a slot
pub record IsBesideOwnIn (number : ℕ) (e : ℕ × Option Record) : Type 0 where
  pub held : Record
  pub is : e.1 ≡ Some held
  pub other : IsBesideOwn number held

IsBesideOwn-values : (number n index : ℕ) (values : List LandmarkValue) → AllByRecursion (IsBesideOwn number) (value_records number n index values)
IsBesideOwn-values number n index [] = tt
IsBesideOwn-values number n index (v ∷ vs) = (record { goes = λ others. refl; of = λ k. refl }, IsBesideOwn-values number n (index + 1) vs)

IsBesideOwn-landmarks : (number n : ℕ) (ls : List Landmark) → AllByRecursion (IsBesideOwn number) (landmark_records number n ls)
IsBesideOwn-landmarks number n [] = tt
IsBesideOwn-landmarks number n (l ∷ ls) = (record { goes = λ others. refl; of = λ k. refl }, IsBesideOwn-landmarks number (n + 1) ls)

IsBesideOwn-all_values : (number n : ℕ) (ls : List Landmark) → AllByRecursion (IsBesideOwn number) (all_value_records number n ls)
IsBesideOwn-all_values number n [] = tt
IsBesideOwn-all_values number n (l ∷ ls) =
    each-append (IsBesideOwn number) (value_records number n 1 l.values) (all_value_records number (n + 1) ls) (IsBesideOwn-values number n 1 l.values)
    (IsBesideOwn-all_values number (n + 1) ls)

IsBesideOwnIn-slots : (number : ℕ) (slots : List ℕ) (rs : List Record) → AllByRecursion (IsBesideOwn number) rs →
    AllByRecursion (IsBesideOwnIn number) (in_slots slots rs)
IsBesideOwnIn-slots number [] rs all = tt
IsBesideOwnIn-slots number (slot ∷ slots) [] all = tt
IsBesideOwnIn-slots number (slot ∷ slots) (r ∷ rs) all = (record { held = r; is = refl; other = all.0 }, IsBesideOwnIn-slots number slots rs all.1)

IsBesideOwnIn-windows : (number : ℕ) (slots : List ℕ) (ws : List Window) →
    AllByRecursion (IsBesideOwnIn number) (zip slots (map (λ w. Some (window_record number w)) ws))
IsBesideOwnIn-windows number [] ws = tt
IsBesideOwnIn-windows number (slot ∷ slots) [] = tt
IsBesideOwnIn-windows number (slot ∷ slots) (w ∷ ws) = (
  record { held = window_record number w; is = refl; other = record { goes = λ others. refl; of = λ k. refl } },
  IsBesideOwnIn-windows number slots ws,
)

-- the records of a stream without its own
abbrev pub beside_own : StreamParts × Stream → List (ℕ × Option Record)
beside_own p =
    zip (map (λ (e : Entry). e.slot) (entries_of p.0)) (map (λ w. Some (window_record p.1.number w)) p.1.windows) ++ marks_held p

all_beside : (p : StreamParts × Stream) → AllByRecursion (IsBesideOwnIn p.1.number) (beside_own p)
all_beside p =
    let m = p.1.number in
    let ls = p.1.landmarks in
    each-append (IsBesideOwnIn m) (zip (map (λ (e : Entry). e.slot) (entries_of p.0)) (map (λ w. Some (window_record m w)) p.1.windows)) (marks_held p)
    (IsBesideOwnIn-windows m (map (λ (e : Entry). e.slot) (entries_of p.0)) p.1.windows)
    (each-append (IsBesideOwnIn m) (in_slots p.0.landmarks.slots (landmark_records m 1 ls)) (in_slots p.0.landmarks.value_slots (all_value_records m 1 ls))
    (IsBesideOwnIn-slots m p.0.landmarks.slots (landmark_records m 1 ls) (IsBesideOwn-landmarks m 1 ls))
    (IsBesideOwnIn-slots m p.0.landmarks.value_slots (all_value_records m 1 ls) (IsBesideOwn-all_values m 1 ls)))

-- ---- none of them is of another number

beside-append : (xs ys : List (ℕ × Option Record)) → records_beside (xs ++ ys) ≡ records_beside xs ++ records_beside ys
beside-append xs ys = filter_map-append (λ (e : ℕ × Option Record). e.1) xs ys

any-beside_append : (p : Record → Bool) (xs ys : List (ℕ × Option Record)) →
    list_any p (records_beside (xs ++ ys)) ≡ (list_any p (records_beside xs) || list_any p (records_beside ys))
any-beside_append p xs ys = ap (list_any p) (beside-append xs ys) ∙ list_any-append p (records_beside xs) (records_beside ys)

none-other : (number n : ℕ) (es : List (ℕ × Option Record)) → AllByRecursion (IsBesideOwnIn number) es → (number == n) ≡ false →
    list_any (is_of n) (records_beside es) ≡ false
none-other number n [] all apart = refl
none-other number n (e ∷ es) all apart =
    rw (all.0.is, all.0.other.of n ∙ apart, none-other number n es all.1 apart) refl

none-held : (n : ℕ) (p : StreamParts × Stream) → (p.1.number == n) ≡ false → list_any (is_of n) (records_beside (records_held p)) ≡ false
none-held n p apart = rw (apart, none-other p.1.number n (beside_own p) (all_beside p) apart) refl

pub none-of-all : (n : ℕ) (pairs : List (StreamParts × Stream)) → AllByRecursion (λ (p : StreamParts × Stream). (p.1.number == n) ≡ false) pairs →
    list_any (is_of n) (records_beside (flat_map records_held pairs)) ≡ false
none-of-all n [] apart = refl
none-of-all n (p ∷ pairs) apart =
    ap (λ l. list_any (is_of n) (records_beside l)) (flat_map-cons records_held p pairs)
    ∙ any-beside_append (is_of n) (records_held p) (flat_map records_held pairs)
    ∙ ap₂ (λ (a : Bool) (b : Bool). a || b) (none-held n p apart.0) (none-of-all n pairs apart.1)

-- ---- they go in turn

or-true : (b : Bool) → (b || true) ≡ true
or-true true = refl
or-true false = refl

dropped-behind : (number : ℕ) (xs ys : List (ℕ × Option Record)) → is_dropped number (records_beside ys) ≡ true →
    is_dropped number (records_beside (xs ++ ys)) ≡ true
dropped-behind number xs ys is =
    any-beside_append (is_drop_of number) xs ys ∙ ap (λ (b : Bool). list_any (is_drop_of number) (records_beside xs) || b) is
    ∙ or-true (list_any (is_drop_of number) (records_beside xs))

go-others : (number : ℕ) (xs rest others : List (ℕ × Option Record)) → AllByRecursion (IsBesideOwnIn number) xs →
    is_dropped number (records_beside (rest ++ others)) ≡ true → GoInTurn rest others → GoInTurn (xs ++ rest) others
go-others number [] rest others all is goes = goes
go-others number (x ∷ xs) rest others all is goes =
    let behind : is_dropped number (records_beside ((xs ++ rest) ++ others)) ≡ true =
    ap (λ l. is_dropped number (records_beside l)) (append_assoc xs rest others) ∙ dropped-behind number xs (rest ++ others) is in
    let here : option_map_or (λ r. may_go r (records_beside ((xs ++ rest) ++ others))) x.1 false ≡ true =
    ap (λ (o : Option Record). option_map_or (λ r. may_go r (records_beside ((xs ++ rest) ++ others))) o false) all.0.is
    ∙ all.0.other.goes (records_beside ((xs ++ rest) ++ others)) ∙ behind in
    (here, go-others number xs rest others all.1 is goes)

-- the records of a dropped stream, its own last
abbrev pub doomed_of : StreamParts → Stream → List (ℕ × Option Record)
doomed_of part s = beside_own (part, s) ++ (part.slot, Some (records.Stream s.number s.name s.params true)) ∷ []

pub GoInTurn-dropped : (part : StreamParts) (s : Stream) (others : List (ℕ × Option Record)) → list_any (is_of s.number) (records_beside others) ≡ false →
    GoInTurn (doomed_of part s) others
GoInTurn-dropped part s others none =
    let own : ℕ × Option Record = (part.slot, Some (records.Stream s.number s.name s.params true)) in
    let same : (s.number == s.number) ≡ true = eq-eqb s.number s.number refl in
    go-others s.number (beside_own (part, s)) (own ∷ []) others (all_beside (part, s)) (rw same refl) (rw none refl, tt)

-- they lie in the slots of the stream
firsts : {Y : Type 0} (xs : List ℕ) (ys : List Y) → length ys ≡ length xs → map (λ (e : ℕ × Y). e.0) (zip xs ys) ≡ xs
firsts xs ys same = firsts-zip xs ys same

pub slots-dropped : (part : StreamParts) (s : Stream) → Agrees part s → map (λ (e : ℕ × Option Record). e.0) (doomed_of part s) ≡ slots_in_turn part
slots-dropped part s agrees =
    let slot : ℕ × Option Record → ℕ = λ e. e.0 in
    let ws = map (λ (e : Entry). e.slot) (entries_of part) in
    let windows : List (Option Record) = map (λ w. Some (window_record s.number w)) s.windows in
    let ls : List (Option Record) = map Some (landmark_records s.number 1 s.landmarks) in
    let vs : List (Option Record) = map Some (all_value_records s.number 1 s.landmarks) in
    let own : ℕ × Option Record = (part.slot, Some (records.Stream s.number s.name s.params true)) in
    let spans : length (entries_of part) ≡ length s.windows =
    sym (length-map (entries_of part) span_held) ∙ ap (λ l. length l) agrees.positions ∙ length-map s.windows span_of in
    let first : map slot (zip ws windows) ≡ ws =
    firsts ws windows (length-map s.windows (λ w. Some (window_record s.number w)) ∙ sym spans ∙ sym (length-map (entries_of part) (λ (e : Entry). e.slot))) in
    let marks : map slot (zip part.landmarks.slots ls) ≡ part.landmarks.slots =
    firsts part.landmarks.slots ls
    (length-map (landmark_records s.number 1 s.landmarks) Some ∙ length-landmark_records s.number 1 s.landmarks ∙ ap (λ l. length l) (sym agrees.landmarks)
    ∙ sym agrees.known.slots) in
    let values : map slot (zip part.landmarks.value_slots vs) ≡ part.landmarks.value_slots =
    firsts part.landmarks.value_slots vs
    (length-map (all_value_records s.number 1 s.landmarks) Some ∙ length-all_value_records s.number 1 s.landmarks
    ∙ ap (λ l. length (all_values l)) (sym agrees.landmarks) ∙ sym agrees.known.value_slots) in
    map-append slot (zip ws windows ++ (zip part.landmarks.slots ls ++ zip part.landmarks.value_slots vs)) (own ∷ [])
    ∙ ap (λ l. l ++ part.slot ∷ []) (map-append slot (zip ws windows) (zip part.landmarks.slots ls ++ zip part.landmarks.value_slots vs)
    ∙ ap₂ (λ (a : List ℕ) (b : List ℕ). a ++ b) first
    (map-append slot (zip part.landmarks.slots ls) (zip part.landmarks.value_slots vs) ∙ ap₂ (λ (a : List ℕ) (b : List ℕ). a ++ b) marks values))
