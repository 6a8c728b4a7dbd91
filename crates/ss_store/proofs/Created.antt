-- A stream that is created: what is held then, and the records.
use Rattle.ss_store.proofs.Common.{◌≡◌, ℕ, ◌<◌, Bool, true, false, List, [], ◌∷◌, ◌++◌, length, map, flat_map, zip, refl, ap, sym, ◌∙◌, arith, None}
use Rattle.ss_store.proofs.Common.{Some, Option, inl, inr, Result, IsPermutation, nat_le, ◌==◌, list_any, IsStrictlyIncreasing, cases_Bool, nat_tests}
use Rattle.ss_store.proofs.Common.{append-nil, length_push, length-map, map-append, All-push, IsPermutation-append_comm, IsPermutation-trans, Told, same_name}
use Rattle.ss_store.proofs.Common.{MOST_STREAMS, LAST_STREAM, Create, Params, StreamId, Record, New, AreKnown, LandmarksState, params_of, closed_state}
use Rattle.ss_store.proofs.Common.{closed_stream, refuses, IsState, Stream, next_number, numbers_of, stepped, Ack, same_name-Decides, same_name-same}
use Rattle.ss_store.proofs.Common.{same_name-swap, IsState-stepped, AllAgree, AreWhole, Agrees, EndByLast, RiseToLast, TileFrom, entries_of, records_held}
use Rattle.ss_store.proofs.Common.{slots_held, StreamParts, IsSettled, AreKept, RecordsState, shown_by, IsNew, StepsState, said_of_held, IsSound, StoreIsIn}
use Rattle.ss_store.proofs.Common.{StoreIsKept, StoreState, entry_of, has_all_streams, numbers_held, part_named, Recovers, LiveSlotsGo, StagesRecord}
use Rattle.ss_store.proofs.Common.{live_slots, HasRecords, HasRecords-permutation}
use Rattle.std.proofs.lemmas.Bool.{or_parts}
use Rattle.std.proofs.lemmas.Grind.{flat_map-append}
use Rattle.std.specs.Cmp.{IsEquivalence}
use Rattle.std.proofs.lemmas.List.Folds.{find-append}
use Rattle.std.proofs.lemmas.Map.Keys.{IsDistinct-push}
use Rattle.ss_codec.specs.declared.record.Record.TheVariants as records
use Rattle.ss_model.specs.Steps.{stepped_from}
use Rattle.ss_model.proofs.FoundLemmas.{below_next, IsStrictlyIncreasing_push}
use Rattle.ss_store.proofs.Among.{Recovers-held, length-AllAgree}
use Rattle.ss_store.proofs.KeptStates.{Recovers-StoreIsIn}
use Rattle.ss_store.proofs.Named.{numbers-AllAgree}
use Rattle.ss_store.proofs.Stepping.{StepsState-turns}
use Rattle.ss_recover.proofs.RunHeld.{AllAgree-push}

-- no landmarks, and no room for any
abbrev pub no_landmarks : LandmarksState
no_landmarks = record { landmarks = []; slots = []; value_slots = []; room = 0; value_room = 0 }

AreKnown-none : AreKnown no_landmarks
AreKnown-none = record { order = tt; slots = refl; value_slots = refl; most = omega arith; most_values = omega arith }

-- what is held of a stream that was just created
pub record IsFreshPart (part : StreamParts) (name : List ℕ) (params : Params) : Type 0 where
  pub name_is : part.name ≡ name
  pub params_are : params_of part.target ≡ params
  pub last_time : part.last_time ≡ None
  pub entries : part.line.entries ≡ []
  pub landmarks : part.landmarks ≡ no_landmarks

pub IsFreshPart-made : (part : StreamParts) (params : Params) → params_of part.target ≡ params → part.last_time ≡ None → part.line.entries ≡ [] →
    part.landmarks ≡ no_landmarks → IsFreshPart part part.name params
IsFreshPart-made part params target last entries landmarks = record {
  name_is = refl;
  params_are = target;
  last_time = last;
  entries = entries;
  landmarks = landmarks;
}

abbrev pub created_in : List Stream → List ℕ → Params → Stream
created_in streams name params = record { number = next_number (numbers_of streams); name = name; params = params; windows = []; landmarks = [] }

stepped-create : (streams : List Stream) (name : List ℕ) (params : Params) →
    stepped streams (Create name params) ≡ streams ++ created_in streams name params ∷ []
unfolding stepped_from
stepped-create streams name params = refl

Agrees-created : (part : StreamParts) (streams : List Stream) (name : List ℕ) (params : Params) → IsFreshPart part name params →
    part.id.0 ≡ next_number (numbers_of streams) → Agrees part (created_in streams name params)
Agrees-created part streams name params fresh number = record {
  number = number;
  name = fresh.name_is;
  params = fresh.params_are;
  positions = rw fresh.entries refl;
  times = rw fresh.entries refl;
  landmarks = ap (λ (l : LandmarksState). l.landmarks) fresh.landmarks;
  known = rw fresh.landmarks AreKnown-none;
  last_time = fresh.last_time;
}

zip-push : {X Y : Type 0} (xs : List X) (ys : List Y) (x : X) (y : Y) → length xs ≡ length ys → zip (xs ++ x ∷ []) (ys ++ y ∷ []) ≡ zip xs ys ++ (x, y) ∷ []
zip-push [] [] x y same = refl
zip-push [] (v ∷ vs) x y same = absurd (omega arith)
zip-push (u ∷ us) [] x y same = absurd (omega arith)
zip-push (u ∷ us) (v ∷ vs) x y same = ap (λ l. (u, v) ∷ l) (zip-push us vs x y (omega arith))

-- the records with that of the new stream
all-pushed : (parts : List StreamParts) (streams : List Stream) (part : StreamParts) (name : List ℕ) (params : Params) → AllAgree parts streams →
    IsFreshPart part name params → part.id.0 ≡ next_number (numbers_of streams) →
    IsPermutation ((part.slot, Some (records.Stream part.id.0 name params false)) ∷ flat_map records_held (zip parts streams))
    (flat_map records_held (zip (parts ++ part ∷ []) (stepped streams (Create name params))))
all-pushed parts streams part name params each fresh number =
    let s = created_in streams name params in
    let first : ℕ × Option Record = (part.slot, Some (records.Stream part.id.0 name params false)) in
    let all = flat_map records_held (zip parts streams) in
    let one : records_held (part, s) ≡ first ∷ [] = rw (fresh.entries, fresh.landmarks, number) refl in
    let is : flat_map records_held (zip (parts ++ part ∷ []) (stepped streams (Create name params))) ≡ all ++ first ∷ [] =
    ap (λ ss. flat_map records_held (zip (parts ++ part ∷ []) ss)) (stepped-create streams name params)
    ∙ ap (flat_map records_held) (zip-push parts streams part s (length-AllAgree parts streams each))
    ∙ flat_map-append records_held (zip parts streams) ((part, s) ∷ [])
    ∙ ap (λ l. all ++ l) (append-nil (records_held (part, s)) ∙ one) in
    rw is (IsPermutation-append_comm (first ∷ []) all)

-- no merge is due in a state with a new stream, where none was before
closed-created : (streams : List Stream) (name : List ℕ) (params : Params) → closed_state streams ≡ streams →
    closed_state (stepped streams (Create name params)) ≡ stepped streams (Create name params)
closed-created streams name params closed =
    let s = created_in streams name params in
    ap closed_state (stepped-create streams name params) ∙ map-append closed_stream streams (s ∷ []) ∙ ap (λ l. l ++ s ∷ []) closed
    ∙ sym (stepped-create streams name params)

module _ (parts : List StreamParts) (streams : List Stream) (part : StreamParts) (name : List ℕ) (params : Params) (each : AllAgree parts streams)
    (fresh : IsFreshPart part name params) (number : part.id.0 ≡ next_number (numbers_held parts)) where
  number-of : part.id.0 ≡ next_number (numbers_of streams)
  number-of = number ∙ ap next_number (numbers-AllAgree parts streams each)

  pub AllAgree-created : AllAgree (parts ++ part ∷ []) (stepped streams (Create name params))
  AllAgree-created =
      rw stepped-create (AllAgree-push parts streams part (created_in streams name params) each (Agrees-created part streams name params fresh number-of))

  pub HasRecords-created : (image : List ℕ) →
      HasRecords ((part.slot, Some (records.Stream part.id.0 name params false)) ∷ flat_map records_held (zip parts streams)) image →
      HasRecords (flat_map records_held (zip (parts ++ part ∷ []) (stepped streams (Create name params)))) image
  HasRecords-created image has =
      HasRecords-permutation ((part.slot, Some (records.Stream part.id.0 name params false)) ∷ flat_map records_held (zip parts streams))
      (flat_map records_held (zip (parts ++ part ∷ []) (stepped streams (Create name params)))) image
      (all-pushed parts streams part name params each fresh number-of) has

  pub Recovers-created : (image : List ℕ) → IsState streams → refuses streams (Create name params) ≡ None → closed_state streams ≡ streams →
      HasRecords ((part.slot, Some (records.Stream part.id.0 name params false)) ∷ flat_map records_held (zip parts streams)) image →
      Recovers (stepped streams (Create name params)) image
  Recovers-created image state none closed has =
      let now = IsState-stepped New streams (Create name params) state tt none in
      rw closed-created at (Recovers-held (parts ++ part ∷ []) (stepped streams (Create name params)) image AllAgree-created now (HasRecords-created image has))

-- what is kept after a create, and the step that it makes
module _ (store : StoreState) (content : List ℕ) (kept : StoreIsIn store content) (part : StreamParts) (name : List ℕ) (params : Params)
    (fresh : IsFreshPart part name params) (number : part.id.0 ≡ next_number (numbers_held store.streams))
    (none : refuses kept.streams (Create name params) ≡ None) where
  pub StoreIsKept-created : (records_now : RecordsState) (stopped : Bool) (now : List ℕ) → AreKept records_now now →
      HasRecords ((part.slot, Some (records.Stream part.id.0 name params false)) ∷ flat_map records_held (zip store.streams kept.streams))
      (shown_by records_now now) →
      StoreIsKept (record { streams = store.streams ++ part ∷ []; records = records_now; stopped = stopped }) now
  StoreIsKept-created records_now stopped now are has = record {
    records = are;
    shown = record {
      streams = stepped kept.streams (Create name params);
      state = IsState-stepped New kept.streams (Create name params) kept.state tt none;
      agree = AllAgree-created store.streams kept.streams part name params kept.agree fresh number;
      held = HasRecords-created store.streams kept.streams part name params kept.agree fresh number (shown_by records_now now) has;
      closed = closed-created kept.streams name params kept.closed;
    };
  }

  pub StepsState-created : {T E : Type 0} (was_records is_records : RecordsState) (old new : Told) (call : Result T E) →
      shown_by was_records old.content ≡ content →
      StagesRecord part.slot (records.Stream part.id.0 name params false) was_records is_records call old new →
      StepsState (Create name params) was_records is_records call old new
  StepsState-created was_records is_records old new call same stages =
      let others = flat_map records_held (zip store.streams kept.streams) in
      let pushed = (part.slot, Some (records.Stream part.id.0 name params false)) ∷ others in
      let after : (image : List ℕ) → HasRecords pushed image → Recovers (stepped kept.streams (Create name params)) image =
      λ image has. Recovers-created store.streams kept.streams part name params kept.agree fresh number image kept.state none kept.closed has in
      let before : (image : List ℕ) → HasRecords others image → Recovers kept.streams image =
      λ image has. rw kept.closed at (Recovers-held store.streams kept.streams image kept.agree kept.state has) in
      StepsState-turns (Create name params) was_records is_records old new call kept.streams (HasRecords others) (HasRecords others) (HasRecords pushed)
      (rw same (Recovers-StoreIsIn store content kept)) (rw same kept.held) (λ image left. inl (before image left)) after (stages others)

-- over every disk
none-named : (name : List ℕ) (parts : List StreamParts) → part_named name parts ≡ None →
    list_any (same_name name) (map (λ (p : StreamParts). p.name) parts) ≡ false
none-named name [] none = refl
none-named name (p ∷ ps) none = elim (cases_Bool (same_name name p.name)) [
  | inl same ↦ (let wrong : Some p ≡ None = rw same at none in cc)
  | inr other ↦ rw (other, none-named name ps (rw other at none)) refl
]

same_name-laws : IsEquivalence same_name
same_name-laws = record {
  refl = same_name-same;
  symm = same_name-swap;
  congr = λ x y z same. ap (λ n. same_name n z) ((same_name-Decides x y).0 same);
}

pub AreWhole-created : (parts : List StreamParts) (live live_now : List Bool) (part : StreamParts) (name : List ℕ) (params : Params) → AreWhole parts live →
    IsFreshPart part name params → part.id.0 ≡ next_number (numbers_held parts) → has_all_streams (numbers_held parts) ≡ false →
    part_named name parts ≡ None → LiveSlotsGo [] (part.slot ∷ []) live live_now → AreWhole (parts ++ part ∷ []) live_now
AreWhole-created parts live live_now part name params whole fresh number room none go =
    let numbers = numbers_held parts in
    let limits = or_parts (nat_le MOST_STREAMS (length numbers)) (list_any (λ n. n == LAST_STREAM) numbers) room in
    let short = limits.0 in
    let less : length numbers < MOST_STREAMS = grind (arith, nat_tests) in
    let rising : IsStrictlyIncreasing (numbers ++ next_number numbers ∷ []) = IsStrictlyIncreasing_push numbers (next_number numbers) whole.numbers
    (below_next numbers) in
    let apart : list_any (same_name part.name) (map (λ (p : StreamParts). p.name) parts) ≡ false = rw fresh.name_is (none-named name parts none) in
    let slots : slots_held part ≡ part.slot ∷ [] = rw (fresh.entries, fresh.landmarks) refl in
    let known : AreKnown part.landmarks = rw fresh.landmarks AreKnown-none in
    let ends : EndByLast part = rw fresh.last_time (ap (λ (l : LandmarksState). l.landmarks) fresh.landmarks) in
    let all = flat_map slots_held parts in
    let is : flat_map slots_held (parts ++ part ∷ []) ≡ all ++ part.slot ∷ [] =
    flat_map-append slots_held parts (part ∷ []) ∙ ap (λ l. all ++ l) (append-nil (slots_held part) ∙ slots) in
    record {
      few = omega (arith, less, length_push parts part, length-map parts (λ (p : StreamParts). p.id.0));
      numbers = rw (map-append (λ (p : StreamParts). p.id.0) parts (part ∷ []), number) rising;
      names = rw (map-append (λ (p : StreamParts). p.name) parts (part ∷ []))
          (IsDistinct-push same_name-laws (map (λ (p : StreamParts). p.name) parts) part.name whole.names apart);
      tiles = All-push (λ (p : StreamParts). TileFrom 1 (entries_of p)) parts part whole.tiles (rw fresh.entries tt);
      times = All-push RiseToLast parts part whole.times (rw (fresh.last_time, fresh.entries) refl);
      landmarks = All-push (λ (p : StreamParts). AreKnown p.landmarks × EndByLast p) parts part whole.landmarks (known, ends);
      slots = rw is (IsPermutation-trans (all ++ part.slot ∷ []) (part.slot ∷ all) (live_slots live_now) (IsPermutation-append_comm all (part.slot ∷ []))
          (go all whole.slots));
    }

-- a store with a new stream is sound, while its record is written and if it isn't
pub IsSound-created : (store : StoreState) (catalog : List (List ℕ × StreamId)) (records_now : RecordsState) (part : StreamParts) (name : List ℕ)
    (params : Params)
    (slot : ℕ) (stopped : Bool) → IsSound store catalog → store.stopped ≡ false → IsFreshPart part name params → IsNew store name params part.id.0 slot →
    (stopped ≡ false → IsSettled records_now.journal × LiveSlotsGo [] (part.slot ∷ []) store.records.live records_now.live) →
    IsSound (record { streams = store.streams ++ part ∷ []; records = records_now; stopped = stopped }) (catalog ++ (name, part.id) ∷ [])
IsSound-created store catalog records_now part name params slot stopped sound runs fresh new goes =
    let parts = store.streams in
    let rising : IsStrictlyIncreasing (numbers_held parts ++ next_number (numbers_held parts) ∷ []) =
    IsStrictlyIncreasing_push (numbers_held parts) (next_number (numbers_held parts)) sound.numbers (below_next (numbers_held parts)) in
    record {
      listed = rw (map-append entry_of parts (part ∷ []), sound.listed, fresh.name_is) refl;
      numbers = rw (map-append (λ (p : StreamParts). p.id.0) parts (part ∷ []), new.next) rising;
      settled = λ run. (goes run).0;
      whole = λ run. AreWhole-created parts store.records.live records_now.live part name params (sound.whole runs) fresh new.next new.room new.named
          (goes run).1;
    }

-- what is replied
pub said_of_created : (parts : List StreamParts) (part : StreamParts) (name : List ℕ) (params : Params) → IsFreshPart part name params →
    part_named name parts ≡ None → (let zeros : Ack = record { n = 0; k = 0 } in zeros) ≡ said_of_held (part_named name (parts ++ part ∷ []))
said_of_created parts part name params fresh none =
    let same : same_name name part.name ≡ true = rw fresh.name_is (same_name-same name) in
    let is : part_named name (parts ++ part ∷ []) ≡ Some part =
    rw (find-append (λ (p : StreamParts). same_name name p.name) parts (part ∷ []), none, same) refl in
    rw (is, fresh.entries) refl
