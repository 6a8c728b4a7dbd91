-- What rebuilding answers, from what was read and what the walk over it answers.
use Rattle.ss_recover.proofs.Common.{[], ◌++◌, ◌+◌, ◌-◌, ◌<◌, ◌∙◌, ◌∷◌, ◌≡◌, ◌≢◌, ◌≤◌, Agrees, All, All-from_recursion, All-nil, AllAgree, AllByRecursion}
use Rattle.ss_recover.proofs.Common.{AllEndBy, AllEndBy-later, ap, ap₂, AreBuilt, AreFound, AreKnown, AreWholeBeside, arith, bad_slot, BadSlot, BadStream}
use Rattle.ss_recover.proofs.Common.{Bool, Disk, doomed_found, EndByLast, ends-latest, EndsBy, entries_of, Entry, Err, false, filter, filter_map, fine}
use Rattle.ss_recover.proofs.Common.{firsts-zip, flat_map, Found, found_key, Free, GathersAs, HasWholeSlots, IfOk, in_order, is_live, is_none, IsDistinct}
use Rattle.ss_recover.proofs.Common.{IsLowestUnsound, IsPermutation, IsPermutation-append_left, IsPermutation-map, IsPermutation-sym, IsPermutation-trans}
use Rattle.ss_recover.proofs.Common.{IsStream, IsStrictlyIncreasing, IsUsable, judged, key_of, Landmark, last_time, later, latest_of, length, length-map, List}
use Rattle.ss_recover.proofs.Common.{list_any, live, lowest_bad_slot, lowest_bad_stream, map, map-append, MatchOption, max, MOST_VALUES, newest_time}
use Rattle.ss_recover.proofs.Common.{no_memory, None, none-latest, Ok, Option, or_from, OutOfMemory, Parts, range_with_len, RebuildsAs, Record, records_held}
use Rattle.ss_recover.proofs.Common.{records_in, RecoverError, recursion_from_All, refl, refused, Result, RiseToLast, same_name, SlotMap, slots_found}
use Rattle.ss_recover.proofs.Common.{slots_held, Some, span_held, span_of, StandFrom, Stream, StreamParts, streams_carried, streams_made, subst, suc}
use Rattle.ss_recover.proofs.Common.{sum_by-cons, sym, taken, TileFrom, times_held, times_of, TimesRise, true, Verdict, verdict_of_rebuild, WalksAs, Window}
use Rattle.ss_recover.proofs.Common.{with_slot, without_slots, zero, zip, ℕ}
use Rattle.ss_codec.specs.Decoded.{decoded}
use Rattle.ss_recover.specs.Carried.{spelled}
use Rattle.ss_recover.specs.Parts.{carried}
use Rattle.ss_recover.proofs.DoomedLemmas.{beside-found, first-in_slot, doomed_slots-found, Rise-found, slots-in_order}
use Rattle.ss_recover.proofs.WholeSlots.{beside-seconds, filter_map-filled, zeros_are_free}
use Rattle.ss_recover.proofs.GatherLemmas.{is_some-not}
use Rattle.ss_recover.proofs.HeldRecords.{held-long, held-zip, records_of_stream}
use Rattle.ss_recover.proofs.InOrder.{map-in_order}
use Rattle.ss_recover.proofs.RebuiltRecords.{all-held, in_turn-built, sound_numbers}
use Rattle.ss_recover.proofs.SoundNumbers.{lowest-made, none_bad-AreSound, streams_carried-made}
use Rattle.ss_recover.proofs.Unordered.{lowest-bad, streams_carried-in_order}
use Rattle.std.proofs.lemmas.List.Sorted.{IsPermutation-append}
use Rattle.ss_parts.proofs.Lists.{map-all, position-none}

-- up to the newest time
rise-agree : (first time newest last : ℕ) (es : List Entry) (ws : List Window) → StandFrom first time ws → newest_time ws ≡ Some newest → newest ≤ last →
    map times_held es ≡ map times_of ws → TimesRise time last es
rise-agree first time newest last [] ws stand is by times = tt
rise-agree first time newest last (e ∷ es) [] stand is by times = cc
rise-agree first time newest last (e ∷ []) (w ∷ []) stand is by times =
    let both : times_held e ≡ times_of w = cc in
    let begins : e.t_first ≡ w.summary.t_first = ap (λ (p : ℕ × ℕ). p.0) both in
    let ends : e.t_last ≡ w.summary.t_last = ap (λ (p : ℕ × ℕ). p.1) both in
    let some = stand.1.count_low in
    let long = stand.1.times in
    let low = stand.2 in
    let same : w.summary.t_last ≡ newest = cc in
    (omega (arith, begins, low), omega (arith, begins, ends, some, long), omega (arith, ends, same, by), tt)
rise-agree first time newest last (e ∷ []) (w ∷ v ∷ vs) stand is by times = cc
rise-agree first time newest last (e ∷ d ∷ ds) (w ∷ []) stand is by times = cc
rise-agree first time newest last (e ∷ d ∷ ds) (w ∷ v ∷ vs) stand is by times =
    let both : times_held e ≡ times_of w = cc in
    let begins : e.t_first ≡ w.summary.t_first = ap (λ (p : ℕ × ℕ). p.0) both in
    let ends : e.t_last ≡ w.summary.t_last = ap (λ (p : ℕ × ℕ). p.1) both in
    let rest : map times_held (d ∷ ds) ≡ map times_of (v ∷ vs) = cc in
    let some = stand.1.count_low in
    let long = stand.1.times in
    let low = stand.2 in
    let behind = rise-agree (first + w.summary.count) (w.summary.t_last + 1) newest last (d ∷ ds) (v ∷ vs) stand.3 is by rest in
    let here = behind.0 in
    let there = behind.1 in
    let end = behind.2 in (
      omega (arith, begins, low),
      omega (arith, begins, ends, some, long),
      omega (arith, ends, here, there, end),
      subst (λ (n : ℕ). TimesRise (n + 1) last (d ∷ ds)) (sym ends) behind,
    )

some-newest : (w : Window) (ws : List Window) → newest_time (w ∷ ws) ≡ None → ⊥
some-newest w [] is = cc
some-newest w (v ∷ ws) is = some-newest v ws is

-- up to the later of that one and another
rise-later : (newest latest : Option ℕ) (es : List Entry) (ws : List Window) → StandFrom 1 0 ws → newest_time ws ≡ newest →
    map times_held es ≡ map times_of ws → MatchOption (later newest latest) (es ≡ []) (λ last. TimesRise 0 last es)
rise-later None None [] ws stand is times = refl
rise-later None (Some u) [] ws stand is times = tt
rise-later (Some t) None [] ws stand is times = tt
rise-later (Some t) (Some u) [] ws stand is times = tt
rise-later None latest (e ∷ es) [] stand is times = cc
rise-later None latest (e ∷ es) (w ∷ ws) stand is times = absurd (some-newest w ws is)
rise-later (Some t) None (e ∷ es) ws stand is times = rise-agree 1 0 t t (e ∷ es) ws stand is (omega arith) times
rise-later (Some t) (Some u) (e ∷ es) ws stand is times = rise-agree 1 0 t (max t u) (e ∷ es) ws stand is (omega arith) times

pub RiseToLast-Agrees : (part : StreamParts) (s : Stream) → Agrees part s → IsStream s → RiseToLast part
RiseToLast-Agrees part s agrees is =
    subst (λ (last : Option ℕ). MatchOption last (entries_of part ≡ []) (λ last. TimesRise 0 last (entries_of part))) (sym agrees.last_time)
    (rise-later (newest_time s.windows) (latest_of s.landmarks) (entries_of part) s.windows is.windows.stand refl agrees.times)

-- ---- what rebuilding answers, from what was read and what the walk over it answers

-- what is made of the records of a map is made of those that were found
made-found : (found : SlotMap) (all : List Found) → HasWholeSlots found → AreFound all found → (Y : Type 0) (f : Record → Option Y) → f Free ≡ None →
    filter_map f (records_in (spelled found)) ≡ filter_map f (without_slots all)
unfolding spelled
made-found found all whole are Y f free =
    filter_map-filled f free found.bytes (range_with_len 0 found.extent) (zeros_are_free found whole)
    ∙ ap (λ (es : List (ℕ × Option Record)). filter_map f (records_in (map (λ e. e.1) es))) (sym are.occupied_by)
    ∙ ap (filter_map f) (sym (beside-seconds (map with_slot all)) ∙ beside-found all)

-- every slot spells a record
no-none : (os : ℕ → Option Record) (a n : ℕ) → ((k : ℕ) → a ≤ k → k < a + n → os k ≢ None) → list_any is_none (map os (range_with_len a n)) ≡ false
no-none os a zero some = refl
no-none os a (suc n) some =
    or_from _ _ (is_some-not (os a) (some a (omega arith) (omega arith))) (no-none os (a + 1) n (λ k ge lt. some k (omega arith) (omega arith)))

no-bad-slot : (found : SlotMap) → ((slot : ℕ) → slot < found.extent → decoded (found.bytes slot) ≢ None) → lowest_bad_slot (spelled found) ≡ None
unfolding spelled
no-bad-slot found some =
    position-none is_none (map (λ slot. decoded (found.bytes slot)) (range_with_len 0 found.extent))
    (no-none (λ slot. decoded (found.bytes slot)) 0 found.extent (λ k ge lt. some k (omega (arith, lt))))

carried-is : (found : SlotMap) → carried found
    ≡ judged (lowest_bad_slot (spelled found)) (lowest_bad_stream (records_in (spelled found))) (streams_carried (records_in (spelled found)))
unfolding carried
carried-is found = refl

pub carried-bad_slot : (found : SlotMap) (n : ℕ) → lowest_bad_slot (spelled found) ≡ Some n → carried found ≡ bad_slot n
carried-bad_slot found n slot =
    carried-is found ∙ ap (λ o. judged o (lowest_bad_stream (records_in (spelled found))) (streams_carried (records_in (spelled found)))) slot

-- what is rebuilt is what the map carries
pub rebuilds : (found : SlotMap) (all sorted : List Found) (result : Result Parts RecoverError) → HasWholeSlots found → AreFound all found →
    All (λ (f : Found). IsUsable f.holds) all → sorted ≡ in_order found_key all → IsPermutation all sorted → WalksAs sorted result → RebuildsAs found result
rebuilds found all sorted (Ok parts) whole are usable order moved walks =
    let streams = streams_made (without_slots sorted) (without_slots sorted) in
    let built : AreBuilt parts streams sorted = walks in
    let rs = records_in (spelled found) in
    let items = doomed_found false all ++ doomed_found true all in
    let rise = Rise-found all found are.occupied_by in
    let none = lowest-made rs (without_slots all) (made-found found all whole are)
    ∙ none_bad-AreSound (without_slots all) (sound_numbers parts streams all sorted built order moved) in
    let same_streams = streams_carried-made rs (without_slots all) (made-found found all whole are) ∙ streams_carried-in_order (without_slots all)
    ∙ ap (λ l. streams_made l l) (sym (ap without_slots order ∙ map-in_order key_of (λ (f : Found). f.holds) all)) in
    let same : parts.doomed.items ≡ slots_found (doomed_found false all) ++ slots_found (doomed_found true all) =
    built.doomed ∙ ap₂ (λ (a b : List ℕ). a ++ b) (slots-in_order false built.others all sorted built.of_others moved rise)
    (slots-in_order true built.heads all sorted built.of_heads moved rise) in
    record {
      streams = streams;
      doomed = map with_slot items;
      carried = carried-is found ∙ (λ i. judged (no-bad-slot found are.spelled_all i) (none i) (same_streams i));
      held = record {
        each = built.each;
        records = subst (IsPermutation (map with_slot items ++ flat_map records_held (zip parts.streams.items streams))) are.occupied_by
            (all-held parts streams all sorted built order moved);
        state = built.state;
      };
      slots = first-in_slot items ∙ map-append (λ (f : Found). f.slot) (doomed_found false all) (doomed_found true all) ∙ sym same;
      ordered = same ∙ doomed_slots-found all found are.occupied_by;
      in_turn = in_turn-built parts streams all sorted built order moved;
    }
rebuilds found all sorted (Err (BadStream n)) whole are usable order moved walks =
    let rs = without_slots all in
    let in_records : without_slots sorted ≡ in_order key_of rs = ap without_slots order ∙ map-in_order key_of (λ (f : Found). f.holds) all in
    let bad = lowest-made (records_in (spelled found)) rs (made-found found all whole are)
    ∙ lowest-bad rs n (map-all IsUsable (λ (f : Found). f.holds) all (recursion_from_All (λ (f : Found). IsUsable f.holds) all usable))
    (subst (IsLowestUnsound n) in_records walks) in
    carried-is found ∙ (λ i. judged (no-bad-slot found are.spelled_all i) (bad i) (streams_carried (records_in (spelled found))))
rebuilds found all sorted (Err (BadSlot n)) whole are usable order moved walks = absurd walks
rebuilds found all sorted (Err Disk) whole are usable order moved walks = tt
rebuilds found all sorted (Err OutOfMemory) whole are usable order moved walks = tt

-- what is true over every disk
map-agree : {X : Type 0} (f : StreamParts → X) (g : Stream → X) → ((part : StreamParts) (s : Stream) → Agrees part s → f part ≡ g s) →
    (parts : List StreamParts) (ss : List Stream) → AllAgree parts ss → map f parts ≡ map g ss
map-agree f g same [] [] each = refl
map-agree f g same [] (s ∷ ss) each = absurd each
map-agree f g same (p ∷ ps) [] each = absurd each
map-agree {X} f g same (p ∷ ps) (s ∷ ss) each = ap₂ (λ (x : X) (xs : List X). x ∷ xs) (same p s each.0) (map-agree f g same ps ss each.1)

each-agree : (P : StreamParts → Type 0) → ((part : StreamParts) (s : Stream) → Agrees part s → IsStream s → P part) →
    (parts : List StreamParts) (ss : List Stream) → AllAgree parts ss → AllByRecursion IsStream ss → AllByRecursion P parts
each-agree P gives [] ss each sound = tt
each-agree P gives (p ∷ ps) [] each sound = absurd each
each-agree P gives (p ∷ ps) (s ∷ ss) each sound = (gives p s each.0 sound.0, each-agree P gives ps ss each.1 sound.1)

tile-agree : (first time : ℕ) (es : List Entry) (ws : List Window) → StandFrom first time ws → 1 ≤ first → first + taken ws ≤ MOST_VALUES + 1 →
    map span_held es ≡ map span_of ws → TileFrom first es
tile-agree first time [] ws stand low few spans = tt
tile-agree first time (e ∷ es) [] stand low few spans = cc
tile-agree first time (e ∷ es) (w ∷ ws) stand low few spans =
    let both : span_held e ≡ span_of w = cc in
    let begins : e.first ≡ w.first = ap (λ (p : ℕ × ℕ). p.0) both in
    let ends : e.last ≡ w.first + w.summary.count - 1 = ap (λ (p : ℕ × ℕ). p.1) both in
    let rest : map span_held es ≡ map span_of ws = cc in
    let sum = sum_by-cons (λ (v : Window). v.summary.count) w ws in
    let possible = stand.1 in
    let some = possible.count_low in
    let next : e.last + 1 ≡ first + w.summary.count = omega (arith, ends, stand.0, some, low) in (
      begins ∙ stand.0,
      omega (arith, begins, ends, some),
      omega (arith, next, sum, few),
      subst (λ (n : ℕ). TileFrom n es) (sym next) (tile-agree (first + w.summary.count) (w.summary.t_last + 1) es ws stand.3 (omega arith)
          (omega (arith, sum, few)) rest),
    )

TileFrom-Agrees : (part : StreamParts) (s : Stream) → Agrees part s → IsStream s → TileFrom 1 (entries_of part)
TileFrom-Agrees part s agrees is =
    let few = is.windows.few in
    tile-agree 1 0 (entries_of part) s.windows is.windows.stand (omega arith) (omega (arith, few)) agrees.positions

slots-agree : (parts : List StreamParts) (ss : List Stream) → AllAgree parts ss →
    map (λ (e : ℕ × Option Record). e.0) (flat_map records_held (zip parts ss)) ≡ flat_map slots_held parts
slots-agree [] [] each = refl
slots-agree [] (s ∷ ss) each = absurd each
slots-agree (p ∷ ps) [] each = absurd each
slots-agree (p ∷ ps) (s ∷ ss) each =
    map-append (λ (e : ℕ × Option Record). e.0) (records_held (p, s)) (flat_map records_held (zip ps ss)) ∙ ap₂ ◌++◌
    (ap (map (λ (e : ℕ × Option Record). e.0)) (held-zip p s each.0)
    ∙ firsts-zip (slots_held p) (map Some (records_of_stream s)) (sym (held-long p s each.0))) (slots-agree ps ss each.1)

-- landmarks end by the later of two times, where the second is their latest
ends-later : (ls : List Landmark) (newest latest : Option ℕ) → latest_of ls ≡ latest → MatchOption (later newest latest) (ls ≡ []) (λ last. AllEndBy last ls)
ends-later ls None None is = none-latest None ls is
ends-later ls (Some t) None is = let none = none-latest None ls is in subst (AllEndBy t) (sym none) (All-nil (EndsBy t))
ends-later ls None (Some u) is = ends-latest None ls u is
ends-later ls (Some t) (Some u) is = AllEndBy-later ls u (max t u) (omega arith) (ends-latest None ls u is)

EndByLast-Agrees : (part : StreamParts) (s : Stream) → Agrees part s → EndByLast part
EndByLast-Agrees part s agrees =
    let ends : MatchOption (last_time s) (s.landmarks ≡ []) (λ last. AllEndBy last s.landmarks) =
    ends-later s.landmarks (newest_time s.windows) (latest_of s.landmarks) refl in
    rw (agrees.last_time, agrees.landmarks) ends

pub whole-from_walk : (live : List Bool) (all sorted : List Found) (result : Result Parts RecoverError) →
    map (λ (f : Found). f.slot) all ≡ filter (is_live live) (range_with_len 0 (length live)) → IsPermutation all sorted → WalksAs sorted result →
    IfOk result (λ parts. AreWholeBeside parts.doomed.items parts.streams.items live)
whole-from_walk live all sorted (Err error) slots moved walks = tt
whole-from_walk live all sorted (Ok parts) slots moved walks =
    let ps = parts.streams.items in
    let ss = streams_made (without_slots sorted) (without_slots sorted) in
    let built : AreBuilt parts ss sorted = walks in
    let numbers = map-agree (λ (part : StreamParts). part.id.0) (λ (s : Stream). s.number) (λ part s is. is.number) ps ss built.each in
    let names = map-agree (λ (part : StreamParts). part.name) (λ (s : Stream). s.name) (λ part s is. is.name) ps ss built.each in
    let streams = recursion_from_All IsStream ss built.state.each in
    let first : ℕ × Option Record → ℕ = λ e. e.0 in
    let items = doomed_found false sorted ++ doomed_found true sorted in
    let own = flat_map slots_held ps in
    let slots_doomed : IsPermutation parts.doomed.items (slots_found items) = subst (λ l. IsPermutation l (slots_found items)) (sym built.doomed)
    (subst (IsPermutation (built.others ++ built.heads)) (sym (map-append (λ (f : Found). f.slot) (doomed_found false sorted) (doomed_found true sorted)))
    (IsPermutation-append built.others (slots_found (doomed_found false sorted)) built.heads (slots_found (doomed_found true sorted))
    built.of_others.are built.of_heads.are)) in
    let both : map first (map with_slot items ++ flat_map records_held (zip ps ss)) ≡ slots_found items ++ own =
    map-append first (map with_slot items) (flat_map records_held (zip ps ss)) ∙ ap₂ ◌++◌ (first-in_slot items) (slots-agree ps ss built.each) in
    let held : IsPermutation (parts.doomed.items ++ own) (slots_found sorted) = IsPermutation-trans _ _ _
    (IsPermutation-append_left own parts.doomed.items (slots_found items) slots_doomed) (subst (λ l. IsPermutation l (slots_found sorted)) both
    (subst (IsPermutation (map first (map with_slot items ++ flat_map records_held (zip ps ss)))) (first-in_slot sorted)
    (IsPermutation-map first (map with_slot items ++ flat_map records_held (zip ps ss)) (map with_slot sorted) built.records))) in
    let few = built.state.few in
    record {
      few = omega (
        arith,
        few,
        length-map ps (λ (part : StreamParts). part.id.0),
        length-map ss (λ (s : Stream). s.number),
        ap (λ (ns : List ℕ). length ns) numbers,
      );
      numbers = subst IsStrictlyIncreasing (sym numbers) built.state.numbers;
      names = subst (IsDistinct same_name) (sym names) built.state.names;
      tiles = All-from_recursion (λ (part : StreamParts). TileFrom 1 (entries_of part)) ps
          (each-agree (λ part. TileFrom 1 (entries_of part)) TileFrom-Agrees ps ss built.each streams);
      times = All-from_recursion RiseToLast ps (each-agree RiseToLast RiseToLast-Agrees ps ss built.each streams);
      landmarks =
          All-from_recursion (λ (part : StreamParts). AreKnown part.landmarks × EndByLast part) ps
          (each-agree (λ part. AreKnown part.landmarks × EndByLast part) (λ part s is stream. (is.known, EndByLast-Agrees part s is)) ps ss built.each
          streams);
      slots =
          IsPermutation-trans _ _ _ held (subst (IsPermutation (map (λ (f : Found). f.slot) sorted)) slots
          (IsPermutation-map (λ (f : Found). f.slot) sorted all (IsPermutation-sym all sorted moved)));
    }

-- a walk doesn't blame the disk
pub walk-verdict : (F : Verdict → Type 0) (all : List Found) (result : Result Parts RecoverError) → WalksAs all result →
    F fine → F refused → F no_memory → F (verdict_of_rebuild result)
walk-verdict F all (Ok parts) walks is other none = is
walk-verdict F all (Err (BadSlot n)) walks is other none = other
walk-verdict F all (Err (BadStream n)) walks is other none = other
walk-verdict F all (Err Disk) walks is other none = absurd walks
walk-verdict F all (Err OutOfMemory) walks is other none = none

-- what reading refuses is what the map carries
pub refuses-found : (found : SlotMap) (e : RecoverError) → GathersAs found (Err e) → RebuildsAs found (Err e)
refuses-found found (BadSlot n) none = carried-bad_slot found n none
refuses-found found (BadStream n) none = absurd none
refuses-found found Disk none = tt
refuses-found found OutOfMemory none = tt
