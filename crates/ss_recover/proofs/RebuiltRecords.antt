-- The records that were found, as a walk answers them: those of dropped streams, and those of the streams that are held. What a
-- map carries is a state.
use Rattle.ss_recover.proofs.Common.{[], ◌++◌, ◌==◌, ◌∙◌, ◌∷◌, ◌≡◌, ◌≤◌, All-from_recursion, All-permutation, AllByRecursion, ap, ap₂, AreBuilt, arith, Bool}
use Rattle.ss_recover.proofs.Common.{carries, cons_option, count_by-le-length, doomed_found, each-behind, false, filter, filter_map, filter_map-append}
use Rattle.ss_recover.proofs.Common.{flat_map, Found, found_key, found_number, Free, GoInTurn, in_order, is_dropped, is_of, is_sound_in_order, IsPermutation}
use Rattle.ss_recover.proofs.Common.{IsPermutation-append_left, IsPermutation-append_right, IsPermutation-map, IsPermutation-sym, IsPermutation-trans, IsState}
use Rattle.ss_recover.proofs.Common.{IsUsable, key_of, length, length-filter, length-map, length_permutation, List, list_any, list_any-IsPermutation}
use Rattle.ss_recover.proofs.Common.{lowest_bad_slot, lowest_bad_stream, map, map-id, map-map, MOST_RECORDS, MOST_SLOTS, ne_eqb, None, Option, Parts, Record}
use Rattle.ss_recover.proofs.Common.{records_beside, records_held, records_in, recursion_from_All, refl, SlotMap, Stream, stream_number, stream_of}
use Rattle.ss_recover.proofs.Common.{streams_carried, streams_made, subst, sym, true, true≢false, with_slot, without_slots, zip, ℕ}
use Rattle.ss_recover.specs.Conditions.{is_sound}
use Rattle.ss_recover.proofs.DoomedLemmas.{beside-found, doomed_found-moved, each-IsGone, IsGone, standing-kept}
use Rattle.ss_recover.proofs.DoomedLemmas.{doomed-go}
use Rattle.ss_recover.proofs.HeldRecords.{all-all_walked, all_walked, each-number, IsPermutation-all_walked, records_in-Some, records_of_streams, second-held}
use Rattle.ss_recover.proofs.InOrder.{all-in_order, IsPermutation-in_order, map-in_order, Rises-in_order}
use Rattle.ss_recover.proofs.SoundNumbers.{AreSound, AreSound-none_bad, carries-judged, is_sound-made, streams_carried-made}
use Rattle.ss_recover.proofs.SoundStreams.{none-passes}
use Rattle.ss_recover.proofs.Unordered.{is_sound-in_order, streams_carried-in_order}
use Rattle.std.proofs.lemmas.List.Sorted.{IsPermutation-append}
use Rattle.ss_parts.proofs.Lists.{all_weaker, map-all}
use Rattle.ss_parts.proofs.Permutations.{IsPermutation-filter_map}
use Rattle.ss_recover.proofs.WholeSlots.{beside-seconds, few-records, IsFine, valid-records}
use Rattle.ss_recover.specs.Carried.{spelled}
use Rattle.ss_recover.specs.Parts.{carried}
use Rattle.ss_recover.proofs.RunStream.{IsState-sound}

is_of-apart : (n : ℕ) (r : Record) → (stream_of r == n) ≡ false → is_of n r ≡ false
is_of-apart n Free apart = refl
is_of-apart n _ apart = apart

-- the records that are found, as those of dropped streams and those that are held
module _ (parts : Parts) (streams : List Stream) (all sorted : List Found) (built : AreBuilt parts streams sorted) (order : sorted ≡ in_order found_key all)
    (moved : IsPermutation all sorted) where
  abbrev us : List Record
  us = without_slots all

  abbrev doomed : List Found
  doomed = doomed_found false all ++ doomed_found true all

  abbrev held : List (ℕ × Option Record)
  held = flat_map records_held (zip parts.streams.items streams)

  -- each number is sound
  sound_each : AllByRecursion (λ r. is_sound us (stream_of r) ≡ true) us
  sound_each =
      let qs : List Record = in_order key_of us in
      let in_records : without_slots sorted ≡ qs = ap without_slots order ∙ map-in_order key_of (λ (f : Found). f.holds) all in
      let P : Record → Type 0 = λ r. is_sound us (stream_of r) ≡ true in
      let Q : Record → Type 0 = λ r. is_sound_in_order qs (stream_of r) ≡ true in
      recursion_from_All P us (All-permutation P qs us (IsPermutation-sym us qs (IsPermutation-in_order key_of us))
      (All-from_recursion P qs (all_weaker Q P (λ r fine. is_sound-in_order us (stream_of r) ∙ fine) qs
      (subst (λ l. AllByRecursion (λ r. is_sound_in_order l (stream_of r) ≡ true) l) in_records built.sound))))

  pub sound_numbers : AreSound us (filter_map stream_number us)
  sound_numbers = each-number (λ n. is_sound us n ≡ true) us sound_each

  -- those of dropped streams and those that are held are all
  doomed-moved : IsPermutation doomed (doomed_found false sorted ++ doomed_found true sorted)
  doomed-moved =
      IsPermutation-append (doomed_found false all) (doomed_found false sorted) (doomed_found true all) (doomed_found true sorted)
      (doomed_found-moved false all sorted moved) (doomed_found-moved true all sorted moved)

  pub all-held : IsPermutation (map with_slot doomed ++ held) (map with_slot all)
  all-held =
      let there = doomed_found false sorted ++ doomed_found true sorted in
      IsPermutation-trans _ _ _
      (IsPermutation-append_left held (map with_slot doomed) (map with_slot there) (IsPermutation-map with_slot doomed there doomed-moved))
      (IsPermutation-trans _ _ _ built.records (IsPermutation-map with_slot sorted all (IsPermutation-sym all sorted moved)))

  records-held : records_beside held ≡ records_of_streams streams
  records-held = beside-seconds held ∙ ap records_in (second-held parts.streams.items streams built.each) ∙ records_in-Some (records_of_streams streams)

  all-walked_too : IsPermutation (without_slots doomed ++ all_walked streams) us
  all-walked_too =
      IsPermutation-trans _ _ _
      (IsPermutation-append_right (without_slots doomed) (all_walked streams) (records_of_streams streams) (IsPermutation-all_walked streams))
      (subst (IsPermutation (without_slots doomed ++ records_of_streams streams)) (beside-found all)
      (subst (λ l. IsPermutation l (records_beside (map with_slot all)))
      (filter_map-append (λ (e : ℕ × Option Record). e.1) (map with_slot doomed) held ∙ ap₂ ◌++◌ (beside-found doomed) records-held)
      (IsPermutation-filter_map (λ (e : ℕ × Option Record). e.1) (map with_slot doomed ++ held) (map with_slot all) all-held)))

  -- these weren't dropped
  kept_each : AllByRecursion (λ s. is_dropped s.number us ≡ false) streams
  kept_each =
      let both = without_slots doomed ++ all_walked streams in
      standing-kept us streams (each-behind _ (without_slots doomed) (all_walked streams) (recursion_from_All (IsGone us) both
      (All-permutation (IsGone us) us both (IsPermutation-sym both us all-walked_too) (All-from_recursion (IsGone us) us (each-IsGone us sound_each)))))

  -- none of the records that are held is of a dropped stream
  none_held : (n : ℕ) → is_dropped n us ≡ true → list_any (is_of n) (records_beside held) ≡ false
  none_held n is =
      ap (list_any (is_of n)) records-held
      ∙ sym (list_any-IsPermutation (is_of n) (all_walked streams) (records_of_streams streams) (IsPermutation-all_walked streams))
      ∙ none-passes (is_of n) (all_walked streams) (all_weaker _ _
      (λ r stands. is_of-apart n r (ne_eqb (stream_of r) n (λ same. absurd (true≢false (sym is ∙ sym (ap (λ k. is_dropped k us) same) ∙ stands)))))
      (all_walked streams) (all-all_walked (λ k. is_dropped k us ≡ false) streams kept_each))

  pub in_turn-built : GoInTurn (map with_slot doomed) held
  in_turn-built = doomed-go all held sound_each (each-IsGone us sound_each) none_held

-- ---- what a map carries is a state

-- the records that aren't free
abbrev is_used : Record → Bool
is_used Free = false
is_used _ = true

made-used : {Y : Type 0} (f : Record → Option Y) → f Free ≡ None → (rs : List Record) → filter_map f (filter is_used rs) ≡ filter_map f rs
made-used f free [] = refl
made-used f free (Free ∷ rs) = made-used f free rs ∙ ap (λ o. cons_option o (filter_map f rs)) (sym free)
made-used f free (r ∷ rs) = ap (cons_option (f r)) (made-used f free rs)

usable-used : (rs : List Record) → AllByRecursion IsFine rs → AllByRecursion IsUsable (filter is_used rs)
usable-used [] fine = tt
usable-used (Free ∷ rs) fine = usable-used rs fine.1
usable-used (_ ∷ rs) fine = (fine.0 (λ e. cc), usable-used rs fine.1)

numbers-used : (P : ℕ → Type 0) (rs : List Record) → AllByRecursion P (filter_map stream_number rs) → AllByRecursion (λ r. P (stream_of r)) (filter is_used rs)
numbers-used P [] all = tt
numbers-used P (Free ∷ rs) all = numbers-used P rs all
numbers-used P (_ ∷ rs) all = (all.0, numbers-used P rs all.1)

-- where each number is sound, the records in order make the streams that they carry. Which slots they are in doesn't matter.
IsState-carried : (rs : List Record) → AreSound rs (filter_map stream_number rs) → AllByRecursion IsFine rs →
    length rs ≤ MOST_RECORDS → IsState (streams_carried rs)
IsState-carried rs sound fine most =
    let us = filter is_used rs in
    let used : (Y : Type 0) (f : Record → Option Y) → f Free ≡ None → filter_map f rs ≡ filter_map f us = λ Y f free. sym (made-used f free rs) in
    let at : Record → Found = λ r. record { slot = 0; holds = r } in
    let all = in_order found_key (map at us) in
    let records : without_slots all ≡ in_order key_of us =
    map-in_order key_of (λ (f : Found). f.holds) (map at us) ∙ ap (in_order key_of) (map-map (λ (f : Found). f.holds) at us ∙ map-id us) in
    let same : (n : ℕ) → is_sound rs n ≡ is_sound_in_order (without_slots all) n =
    λ n. is_sound-made rs us used n ∙ is_sound-in_order us n ∙ ap (λ l. is_sound_in_order l n) (sym records) in
    let each = all-in_order found_key (λ f. is_sound_in_order (without_slots all) (found_number f) ≡ true) (map at us) (map-all _ at us (all_weaker _ _
    (λ r is. sym (same (stream_of r)) ∙ is) us (numbers-used (λ n. is_sound rs n ≡ true) rs sound))) in
    let few : length all ≤ MOST_RECORDS =
    omega (
      arith,
      most,
      length_permutation (map at us) all (IsPermutation-in_order found_key (map at us)),
      length-map us at,
      length-filter is_used rs,
      count_by-le-length is_used rs,
    ) in
    subst IsState (sym (streams_carried-made rs us used ∙ streams_carried-in_order us ∙ ap (λ l. streams_made l l) (sym records)))
    (IsState-sound all (all-in_order found_key (λ f. IsUsable f.holds) (map at us) (map-all _ at us (usable-used rs fine)))
    (Rises-in_order found_key (map at us))
    (map-all _ (λ (f : Found). f.holds) all each) few)

pub IsState-carries : (found : SlotMap) (streams : List Stream) → found.extent ≤ MOST_SLOTS → carried found ≡ carries streams → IsState streams
unfolding carried
IsState-carries found streams inside is =
    let rs = records_in (spelled found) in
    let parts = carries-judged (lowest_bad_slot (spelled found)) (lowest_bad_stream rs) (streams_carried rs) streams is in
    subst IsState parts.2 (IsState-carried rs (AreSound-none_bad rs parts.1) (valid-records found) (omega (arith, few-records found, inside)))
