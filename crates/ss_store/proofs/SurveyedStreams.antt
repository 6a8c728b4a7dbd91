-- What a survey says of the first of some streams that are held.
use Rattle.ss_store.proofs.Common.{◌≡◌, ◌∙◌, ℕ, zero, suc, ◌+◌, ◌<◌, ◌≤◌, List, [], ◌∷◌, length, flat_map, take, get_or, refl, sym, ap, arith, All}
use Rattle.ss_store.proofs.Common.{sum_by, add-one, length-map, length-flat_map, All-head, All-tail, length-flat_map-take, sum_by-cons, all_values, AreKnown}
use Rattle.ss_store.proofs.Common.{closed_state, closed_stream, IsState, IsStream, Stream, Agrees, AllAgree, slots_held, StreamParts, survey_of, Survey}
use Rattle.std.proofs.Math.Seq.{take-length}
use Rattle.std.proofs.lemmas.List.Sums.{sum_by_more}
use Rattle.ss_store.proofs.LiveCounts.{length-slots_held}

-- how many windows streams have, once the merges that are due are made
abbrev pub closed_counts : List Stream → ℕ
closed_counts all = sum_by (λ (s : Stream). length (closed_stream s).windows) all

-- The first streams are surveyed: each thing that is counted has a slot.
pub record AreSurveyed (parts : List StreamParts) (n : ℕ) (survey : Survey) : Type 0 where
  pub few : survey.streams + survey.windows + survey.landmarks + survey.values ≤ length (flat_map slots_held (take n parts))
  pub streams : survey.streams ≡ n
  pub windows : (all : List Stream) → All IsStream all → AllAgree parts all → survey.windows ≡ closed_counts (take n all)
  pub landmarks : survey.landmarks ≡ sum_by (λ (part : StreamParts). length part.landmarks.landmarks) (take n parts)
  pub values : survey.values ≡ sum_by (λ (part : StreamParts). length (all_values part.landmarks.landmarks)) (take n parts)

-- the stream at the place of a part, counted after those before it
counted-at : (parts : List StreamParts) (all : List Stream) (n : ℕ) (part : StreamParts) → AllAgree parts all → All IsStream all → n < length parts →
    part ≡ get_or parts n part →
    (s : Stream) × IsStream s × Agrees part s × (closed_counts (take (suc n) all) ≡ closed_counts (take n all) + length (closed_stream s).windows)
counted-at [] all n part each are inside at = absurd (omega arith)
counted-at (p ∷ ps) [] n part each are inside at = absurd each
counted-at (p ∷ ps) (s ∷ ss) zero part each are inside at = (
  s,
  All-head IsStream s ss are,
  rw (sym at) at each.0,
  omega (arith, sum_by-cons (λ (u : Stream). length (closed_stream u).windows) s []),
)
counted-at (p ∷ ps) (s ∷ ss) (suc n) part each are inside at =
    let found = counted-at ps ss n part each.1 (All-tail IsStream s ss are) (omega arith) at in
    let counts = found.3 in
    let more = sum_by-cons (λ (u : Stream). length (closed_stream u).windows) s (take (suc n) ss) in
    let fewer = sum_by-cons (λ (u : Stream). length (closed_stream u).windows) s (take n ss) in
    (found.0, found.1, found.2, omega (arith, counts, more, fewer))

-- how many slots a stream holds, and the streams before it
slots-more : (parts : List StreamParts) (n : ℕ) (part : StreamParts) → n < length parts → part ≡ get_or parts n part →
    length (flat_map slots_held (take (n + 1) parts)) ≡ length (flat_map slots_held (take n parts)) + length (slots_held part)
slots-more parts n part inside at =
    let more = sum_by_more (λ (p : StreamParts). length (slots_held p)) parts n part inside in
    let here : length (slots_held (get_or parts n part)) ≡ length (slots_held part) = ap (λ (p : StreamParts). length (slots_held p)) (sym at) in
    omega (arith, length-flat_map slots_held (take (n + 1) parts), length-flat_map slots_held (take n parts), more, here)

pub AreSurveyed-more : (parts : List StreamParts) (n : ℕ) (part : StreamParts) (survey : Survey) (windows : ℕ) → AreSurveyed parts n survey →
    n < length parts → part ≡ get_or parts n part → AreKnown part.landmarks → windows ≤ length part.line.entries →
    ((s : Stream) → IsStream s → Agrees part s → windows ≡ length (closed_stream s).windows) →
    AreSurveyed parts (n + 1) (record {
      streams = survey.streams + 1;
      windows = survey.windows + windows;
      landmarks = survey.landmarks + length part.landmarks.landmarks;
      values = survey.values + length (all_values part.landmarks.landmarks);
    })
AreSurveyed-more parts n part survey windows before inside at known few said =
    let slots = slots-more parts n part inside at in
    let own = length-slots_held part in
    let known_landmarks = known.slots in
    let known_values = known.value_slots in
    let room = before.few in
    let streams = before.streams in
    let landmarks = before.landmarks in
    let values = before.values in
    let more_landmarks = sum_by_more (λ (p : StreamParts). length p.landmarks.landmarks) parts n part inside in
    let these_landmarks = ap (λ (p : StreamParts). length p.landmarks.landmarks) at in
    let more_values = sum_by_more (λ (p : StreamParts). length (all_values p.landmarks.landmarks)) parts n part inside in
    let these_values = ap (λ (p : StreamParts). length (all_values p.landmarks.landmarks)) at in
    record {
      few = omega (arith, slots, own, known_landmarks, known_values, room, few);
      streams = omega (arith, streams);
      windows = λ all are each.
          (let found = counted-at parts all n part each are inside at in
          let sofar = before.windows all are each in
          let counts = found.3 in
          let here = said found.0 found.1 found.2 in
          rw add-one (omega (arith, sofar, counts, here)));
      landmarks = omega (arith, landmarks, more_landmarks, these_landmarks);
      values = omega (arith, values, more_values, these_values);
    }

sums-agree : (parts : List StreamParts) (all : List Stream) → AllAgree parts all →
    (sum_by (λ (part : StreamParts). length part.landmarks.landmarks) parts ≡ sum_by (λ (s : Stream). length s.landmarks) (closed_state all))
    × (sum_by (λ (part : StreamParts). length (all_values part.landmarks.landmarks)) parts
    ≡ sum_by (λ (s : Stream). length (all_values s.landmarks)) (closed_state all))
    × (closed_counts all ≡ sum_by (λ (s : Stream). length s.windows) (closed_state all))
    × (length parts ≡ length (closed_state all))
sums-agree [] [] each = (refl, refl, refl, refl)
sums-agree [] (s ∷ ss) each = absurd each
sums-agree (part ∷ parts) [] each = absurd each
sums-agree (part ∷ parts) (s ∷ ss) each =
    let rest = sums-agree parts ss each.1 in
    let landmarks = rest.0 in
    let values = rest.1 in
    let windows = rest.2 in
    let long = rest.3 in
    let same = each.0.landmarks in
    let c = closed_stream s in
    let cs = closed_state ss in (
      omega (
        arith,
        landmarks,
        ap length same,
        sum_by-cons (λ (p : StreamParts). length p.landmarks.landmarks) part parts,
        sum_by-cons
            (λ (u : Stream). length u.landmarks) c cs,
      ),
      omega (
        arith,
        values,
        ap (λ ls. length (all_values ls)) same,
        sum_by-cons (λ (p : StreamParts). length (all_values p.landmarks.landmarks)) part parts,
        sum_by-cons (λ (u : Stream). length (all_values u.landmarks)) c cs,
      ),
      omega (arith, windows, sum_by-cons (λ (u : Stream). length (closed_stream u).windows) s ss, sum_by-cons (λ (u : Stream). length u.windows) c cs),
      omega (arith, long),
    )

-- all are surveyed
pub survey_of-AreSurveyed : (parts : List StreamParts) (n : ℕ) (survey : Survey) (all : List Stream) → AreSurveyed parts n survey → n ≡ length parts →
    IsState all → AllAgree parts all → survey ≡ survey_of (closed_state all)
survey_of-AreSurveyed parts n survey all are end state each =
    let sums = sums-agree parts all each in
    let whole : take n parts ≡ parts = ap (λ k. take k parts) end ∙ take-length parts in
    let long : length all ≡ length (closed_state all) = sym (length-map all closed_stream) in
    let all_long : n ≡ length all = end ∙ sums.3 ∙ sym long in
    let whole_all : take n all ≡ all = ap (λ k. take k all) all_long ∙ take-length all in
    let streams = are.streams ∙ end ∙ sums.3 in
    let windows = are.windows all state.each each ∙ ap (λ l. closed_counts l) whole_all ∙ sums.2 in
    let landmarks = are.landmarks ∙ ap (λ ps. sum_by (λ (part : StreamParts). length part.landmarks.landmarks) ps) whole ∙ sums.0 in
    let values = are.values ∙ ap (λ ps. sum_by (λ (part : StreamParts). length (all_values part.landmarks.landmarks)) ps) whole ∙ sums.1 in
    λ i. record { streams = streams i; windows = windows i; landmarks = landmarks i; values = values i }

-- What there is room to count of a stream.
pub record HasCounts (parts : List StreamParts) (part : StreamParts) (survey : Survey) : Type 0 where
  pub slots :
      survey.streams + survey.windows + survey.landmarks + survey.values
      + (1 + length part.line.entries + length part.landmarks.slots + length part.landmarks.value_slots) ≤ length (flat_map slots_held parts)

pub HasCounts-next : (parts : List StreamParts) (n : ℕ) (part : StreamParts) (survey : Survey) → AreSurveyed parts n survey → n < length parts →
    part ≡ get_or parts n part → HasCounts parts part survey
HasCounts-next parts n part survey before inside at =
    let own = length-slots_held part in
    let room = before.few in
    let here : length (slots_held (get_or parts n part)) ≡ length (slots_held part) = ap (λ (p : StreamParts). length (slots_held p)) (sym at) in
    record { slots = omega (arith, length-flat_map-take slots_held parts n part inside, here, own, room) }
