-- What a walk has of the records so far, and what the next run makes of it.
use Rattle.ss_recover.proofs.Common.{[], ◌++◌, ◌<◌, ◌==◌, ◌∙◌, ◌∷◌, ◌≡◌, ◌≤◌, All, All-from_recursion, AllAgree, AllByRecursion, ap, append-nil, append_assoc}
use Rattle.ss_recover.proofs.Common.{ap₂, AreBuilt, AreSlotsOf, arith, BadSlot, BadStream, Bool, cond, Created, Disk, doomed_found, drop, EndsWalk, eq-eqb}
use Rattle.ss_recover.proofs.Common.{Err, false, filter, filter-append, flat_map, Found, found_key, found_number, HasMore, HasNothing, IfErr, IfOk, is_dropped}
use Rattle.ss_recover.proofs.Common.{is_own, is_run, is_sound_in_order, IsLowestUnsound, IsPermutation, IsPermutation-append_right, IsPermutation-map}
use Rattle.ss_recover.proofs.Common.{IsPermutation-refl, IsPermutation-trans, IsUsable, length, List, list_any, list_any-append, map, map-append, MOST_RECORDS}
use Rattle.ss_recover.proofs.Common.{names_in, not, Ok, or_left, or_right, OutOfMemory, run_len, Parts, Record, records_held, RecoverError, recursion_from_All}
use Rattle.ss_recover.proofs.Common.{refl, Result, Rises, slots_found, stream_made, stream_of, StreamParts, streams_made, subst, sym, take, taken}
use Rattle.ss_recover.proofs.Common.{TakesAs, TakesStream, true, Walk, WalksAs, with_slot, without_slots, zip, ℕ}
use Rattle.ss_recover.proofs.RunHeld.{AllAgree-append, held-agrees, held-append, held-found}
use Rattle.ss_model.proofs.FoundLemmas.{each-append}
use Rattle.ss_recover.proofs.RunSound.{AreBefore, before-back, IsRun, names_created, next-run, sound-run, whole-run}
use Rattle.ss_recover.proofs.RunStanding.{doomed-gone, gone_found, in-three, names_created-append, own_found, standing_found, stands_in, streams_made-append}
use Rattle.ss_recover.proofs.RunStream.{heads-gone, IsState-sound, made-run, names-run, others-each, others-gone, rest-order, stands-run}
use Rattle.ss_codec.specs.declared.record.Record.TheVariants as records
use Rattle.std.proofs.lemmas.List.Sorted.{IsPermutation-append}
use Rattle.ss_parts.proofs.Lists.{all-each, all-from_map, all_weaker, map-all}

-- Of some of all records these are what a walk has: the names that they create, parts that agree with the streams that stand and have
-- their records, and the slots of dropped ones. The number of each is sound.
pub record AreDone (us : List Record) (names : List (List ℕ)) (parts : List StreamParts) (others heads : List ℕ) (fs : List Found) : Type 0 where
  pub names_are : names ≡ names_created (without_slots fs)
  pub each : AllAgree parts (streams_made us (without_slots fs))
  pub records : IsPermutation (flat_map records_held (zip parts (streams_made us (without_slots fs)))) (map with_slot (standing_found us fs))
  pub others_are : others ≡ slots_found (gone_found us false fs)
  pub heads_are : heads ≡ slots_found (gone_found us true fs)
  pub sound : AllByRecursion (λ r. is_sound_in_order us (stream_of r) ≡ true) (without_slots fs)

-- what it has of some and then of more of them
module _ (us : List Record) (names : List (List ℕ)) (parts : List StreamParts) (others heads : List ℕ) (fs : List Found)
    (done : AreDone us names parts others heads fs) (names' : List (List ℕ)) (parts' : List StreamParts) (others' heads' : List ℕ) (gs : List Found)
    (more : AreDone us names' parts' others' heads' gs) where
  whole : without_slots (fs ++ gs) ≡ without_slots fs ++ without_slots gs
  whole = map-append (λ (f : Found). f.holds) fs gs

  made : streams_made us (without_slots (fs ++ gs)) ≡ streams_made us (without_slots fs) ++ streams_made us (without_slots gs)
  made = ap (streams_made us) whole ∙ streams_made-append us (without_slots fs) (without_slots gs)

  slots-both : (p : Found → Bool) (xs ys : List ℕ) → xs ≡ slots_found (filter p fs) → ys ≡ slots_found (filter p gs) →
      xs ++ ys ≡ slots_found (filter p (fs ++ gs))
  slots-both p xs ys first last =
      ap₂ ◌++◌ first last ∙ sym (ap slots_found (filter-append p fs gs) ∙ map-append (λ (f : Found). f.slot) (filter p fs) (filter p gs))

  AreDone-append : AreDone us (names ++ names') (parts ++ parts') (others ++ others') (heads ++ heads') (fs ++ gs)
  AreDone-append = record {
    names_are = ap₂ ◌++◌ done.names_are more.names_are ∙ sym (ap names_created whole ∙ names_created-append (without_slots fs) (without_slots gs));
    each = subst (AllAgree (parts ++ parts')) (sym made) (AllAgree-append _ _ _ _ done.each more.each);
    records =
        rw (
          made,
          held-append parts (streams_made us (without_slots fs)) parts' (streams_made us (without_slots gs)) done.each,
          filter-append (λ (f : Found). stands_in us f.holds) fs gs,
          map-append with_slot (standing_found us fs) (standing_found us gs),
        )
        (IsPermutation-append _ _ _ _ done.records more.records);
    others_are = slots-both _ others others' done.others_are more.others_are;
    heads_are = slots-both _ heads heads' done.heads_are more.heads_are;
    sound = subst (AllByRecursion (λ r. is_sound_in_order us (stream_of r) ≡ true)) (sym whole)
        (each-append _ (without_slots fs) (without_slots gs) done.sound more.sound);
  }

-- the same of a walk
abbrev pub HasDone : List Record → Walk → List Found → Type 0
HasDone us walk fs = AreDone us (names_in walk.names) walk.done.items walk.others.items walk.heads.items fs

HasDone-none : (us : List Record) (walk : Walk) → HasNothing walk → HasDone us walk []
HasDone-none us walk none =
    rw (none.names, none.done, none.others, none.heads)
    record { names_are = refl; each = tt; records = IsPermutation-refl []; others_are = refl; heads_are = refl; sound = tt }

HasDone-more : (us : List Record) (old new : Walk) (fs gs : List Found) (names : List (List ℕ)) (parts : List StreamParts) (others heads : List ℕ) →
    HasDone us old fs → HasMore old new names parts others heads → AreDone us names parts others heads gs → HasDone us new (fs ++ gs)
HasDone-more us old new fs gs names parts others heads done has more =
    rw (has.names, has.done, has.others, has.heads) (AreDone-append us _ _ _ _ fs done names parts others heads gs more)

-- a run whose first record is a stream's own
run-done : (all front : List Found) (slot : ℕ) (head : Created) (dropped : Bool) (rest back : List Found)
    (is : IsRun all front (own_found slot head dropped) rest back)
    (run : is_run (names_created (without_slots front)) (without_slots (own_found slot head dropped ∷ rest)) ≡ true) (parts : List StreamParts) →
    AllAgree parts (cond dropped [] (stream_made (without_slots rest) head ∷ [])) →
    IsPermutation (flat_map records_held (zip parts (cond dropped [] (stream_made (without_slots rest) head ∷ []))))
    (map with_slot (cond (not dropped) (own_found slot head dropped ∷ rest) [])) →
    AreDone (without_slots all) (head.name ∷ []) parts (slots_found (cond dropped rest []))
    (slots_found (cond dropped (own_found slot head dropped ∷ []) [])) (own_found slot head dropped ∷ rest)
run-done all front slot head dropped rest back is run parts each records =
    let x = own_found slot head dropped in
    let made = made-run all front slot head dropped rest back is run in
    let sound = sound-run all front x rest back is ∙ run in
    record {
      names_are = sym (names-run all front slot head dropped rest back is run);
      each = subst (AllAgree parts) (sym made) each;
      records = rw (made, stands-run all front slot head dropped rest back is run) records;
      others_are = ap slots_found (sym (others-gone all front slot head dropped rest back is run));
      heads_are = ap slots_found (sym (heads-gone all front slot head dropped rest back is run));
      sound = map-all _ (λ (f : Found). f.holds) (x ∷ rest)
          (sound, all_weaker _ _ (λ f same. ap (is_sound_in_order (without_slots all)) same ∙ sound) rest is.own);
    }

-- what a walk has once a run is taken
taken-done : (all : List Found) (old new : Walk) (front : List Found) (slot : ℕ) (r : Record) (rest back : List Found) →
    IsRun all front (record { slot = slot; holds = r }) rest back → is_run (names_created (without_slots front)) (r ∷ without_slots rest) ≡ true →
    HasDone (without_slots all) old front → TakesStream old new slot r rest →
    HasDone (without_slots all) new (front ++ record { slot = slot; holds = r } ∷ rest)
taken-done all old new front slot (records.Stream id name params true) rest back is run done more =
    HasDone-more _ old new front _ (name ∷ []) [] (slots_found rest) (slot ∷ []) done more (run-done all front slot
    (record { number = id; name = name; params = params }) true rest back is run [] tt (IsPermutation-refl []))
taken-done all old new front slot (records.Stream id name params false) rest back is run done taken =
    let head : Created = record { number = id; name = name; params = params } in
    let part = taken.0 in
    let held = held-found part slot head rest taken.1 (rest-order all front slot head rest back is run) is.usable.1
    (others-each all front slot head false rest back is run) in
    HasDone-more _ old new front _ (name ∷ []) (part ∷ []) [] [] done taken.2 (run-done all front slot head false rest back is run (part ∷ [])
    (held-agrees part slot head rest taken.1, tt) (subst (λ l. IsPermutation l (map with_slot (own_found slot head false ∷ rest)))
    (sym (append-nil (records_held (part, stream_made (without_slots rest) head)))) held))
taken-done all old new front slot _ rest back is run done taken = absurd taken

-- ---- a walk as far as some records are left

-- What is done so far, before records of greater numbers.
pub record IsDoneTo (all left : List Found) (walk : Walk) : Type 0 where
  pub front : List Found
  pub whole : all ≡ front ++ left
  pub done : HasDone (without_slots all) walk front
  pub before : AreBefore front left

pub IsDoneTo-none : (all : List Found) (walk : Walk) → HasNothing walk → IsDoneTo all all walk
IsDoneTo-none all walk none =
    record { front = []; whole = refl; done = HasDone-none (without_slots all) walk none; before = all-each _ (λ g. tt) all }

-- the next records, as many as are of the number of the first
module _ (all left : List Found) (walk : Walk) (to : IsDoneTo all left walk) (order : Rises found_key all) (usable : All (λ (f : Found). IsUsable f.holds) all)
    (f : Found) (tail : List Found) (is : left ≡ f ∷ tail) (n len : ℕ) (number : n ≡ found_number f) (long : len ≡ run_len n tail) (rest back : List Found)
    (rest_is : rest ≡ take len tail) (back_is : back ≡ drop len tail) where
  next : IsRun all to.front f rest back
  next =
      let same = long ∙ ap (λ m. run_len m tail) number in
      next-run all to.front f tail rest back (to.whole ∙ ap (λ l. to.front ++ l) is) (subst (AreBefore to.front) is to.before)
      (recursion_from_All (λ (g : Found). IsUsable g.holds) all usable) order (rest_is ∙ ap (λ (k : ℕ). take k tail) same)
      (back_is ∙ ap (λ (k : ℕ). drop k tail) same)

  pub first-usable : IsUsable f.holds
  first-usable = next.usable.0

  pub rest-usable : All (λ (g : Found). IsUsable g.holds) rest
  rest-usable = All-from_recursion _ rest next.usable.1

  pub rest-own : All (λ (g : Found). stream_of g.holds ≡ n) rest
  rest-own = All-from_recursion _ rest (all_weaker _ _ (λ g same. same ∙ sym number) rest next.own)

  pub IsDoneTo-more : (new : Walk) → TakesAs walk new n f rest (Ok tt) → IsDoneTo all back new
  IsDoneTo-more new took = record {
    front = to.front ++ f ∷ rest;
    whole = next.whole ∙ sym (append_assoc to.front (f ∷ rest) back);
    done = taken-done all walk new to.front f.slot f.holds rest back next
        (ap (λ ns. is_run ns (without_slots (f ∷ rest))) (sym to.done.names_are) ∙ took.0) to.done took.1;
    before = before-back all to.front f rest back next;
  }

  -- what is answered where the run isn't sound: its number is the lowest
  pub walk-refused : (new : Walk) (e : RecoverError) → TakesAs walk new n f rest (Err e) → WalksAs all (Err e)
  walk-refused new (BadStream m) runs =
      let us = without_slots all in
      let own : Record → Bool = λ r. stream_of r == found_number f in
      let Sound : Found → Type 0 = λ g. found_number g < found_number f → is_sound_in_order us (found_number g) ≡ true in
      let front_sound = all-from_map (λ r. is_sound_in_order us (stream_of r) ≡ true) (λ (g : Found). g.holds) to.front to.done.sound in
      subst (λ (i : ℕ). IsLowestUnsound i us) (sym (runs.0 ∙ number)) (record {
        has = ap (list_any own) (whole-run all to.front f rest back next)
            ∙ list_any-append own (without_slots to.front) (without_slots (f ∷ rest) ++ without_slots back)
            ∙ or_right (list_any own (without_slots to.front)) _ (or_left (own f.holds) (list_any own (without_slots rest ++ without_slots back))
            (eq-eqb (found_number f) (found_number f) refl));
        unsound = sound-run all to.front f rest back next ∙ ap (λ ns. is_run ns (without_slots (f ∷ rest))) (sym to.done.names_are) ∙ runs.1;
        lower = map-all _ (λ (g : Found). g.holds) all (subst (AllByRecursion Sound) (sym next.whole) (each-append Sound to.front ((f ∷ rest) ++ back)
            (all_weaker _ Sound (λ g sound lt. sound) to.front front_sound) (each-append Sound (f ∷ rest) back
            (all_weaker _ Sound (λ g same lt. absurd (omega (arith, same, lt))) (f ∷ rest) (refl, next.own))
            (all_weaker _ Sound (λ g above lt. absurd (omega (arith, above, lt))) back next.above))));
      })
  walk-refused new OutOfMemory runs = tt
  walk-refused new (BadSlot m) runs = absurd runs
  walk-refused new Disk runs = absurd runs

-- at the end all records are those of streams that are held, and those that are doomed
AreBuilt-done : (walk : Walk) (parts : Parts) (all : List Found) → HasDone (without_slots all) walk all → EndsWalk walk parts → Rises found_key all →
    All (λ (f : Found). IsUsable f.holds) all → length all ≤ MOST_RECORDS → AreBuilt parts (streams_made (without_slots all) (without_slots all)) all
AreBuilt-done walk parts all done ends order usable few =
    let us = without_slots all in
    let each_usable = recursion_from_All (λ (f : Found). IsUsable f.holds) all usable in
    let gone : (own : Bool) → doomed_found own all ≡ gone_found us own all = λ own. doomed-gone us own all each_usable in
    let doomed = gone_found us false all ++ gone_found us true all in
    let kept = standing_found us all in
    let slots-of : (own : Bool) (slots : List ℕ) → Rises (λ slot. slot) slots → IsPermutation slots (slots_found (gone_found us own all)) →
    AreSlotsOf slots (doomed_found own all) =
    λ own slots rising are. record { rising = rising; are = subst (λ l. IsPermutation slots (slots_found l)) (sym (gone own)) are } in
    let split : IsPermutation (doomed ++ kept) all = in-three (λ (f : Found). is_dropped (stream_of f.holds) us) (λ (f : Found). is_own f.holds) all in
    record {
      each = subst (λ ps. AllAgree ps (streams_made us us)) (sym ends.streams) done.each;
      records =
          rw (ends.streams, gone false, gone true)
          (IsPermutation-trans _ _ _ (IsPermutation-append_right (map with_slot doomed) _ (map with_slot kept) done.records)
          (subst (λ l. IsPermutation l (map with_slot all)) (map-append with_slot doomed kept) (IsPermutation-map with_slot (doomed ++ kept) all split)));
      state = IsState-sound all each_usable order done.sound few;
      sound = done.sound;
      others = ends.others;
      heads = ends.heads;
      doomed = ends.doomed;
      of_others = slots-of false ends.others ends.others_rise (subst (IsPermutation ends.others) done.others_are ends.of_others);
      of_heads = slots-of true ends.heads ends.heads_rise (subst (IsPermutation ends.heads) done.heads_are ends.of_heads);
    }

pub walks-end : (walk : Walk) (all left : List Found) → IsDoneTo all left walk → left ≡ [] → Rises found_key all → All (λ (f : Found). IsUsable f.holds) all →
    length all ≤ MOST_RECORDS → (result : Result Parts RecoverError) → IfOk result (EndsWalk walk) → IfErr result (λ error. error ≡ OutOfMemory) →
    WalksAs all result
walks-end walk all left to none order usable few (Ok parts) ends memory =
    let done = subst (HasDone (without_slots all) walk) (sym (to.whole ∙ ap (λ l. to.front ++ l) none ∙ append-nil to.front)) to.done in
    AreBuilt-done walk parts all done ends order usable few
walks-end walk all left to none order usable few (Err error) ends memory = subst (λ e. WalksAs all (Err e)) (sym memory) tt
