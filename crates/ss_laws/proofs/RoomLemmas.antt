-- How many records whole stores need, and that no event is refused for want of one while there are fewer than a store has.
use Rattle.std.proofs.Common.{◌≡◌, ◌≢◌, ℕ, ◌+◌, ◌-◌, ◌*◌, ◌^◌, ◌<◌, ◌≤◌, Bool, true, false, List, [], ◌∷◌, None, Some, arith, length}
use Rattle.std.proofs.Common.{not, subst, sym}
use Rattle.std.proofs.Math.Nat.{le_trans, mul-le-mul_left, suc-mul}
use Rattle.std.proofs.lemmas.Bool.Decides.{nat_tests}
use Rattle.std.proofs.lemmas.List.Elements.{All-head, All-tail, All-weaker}
use Rattle.std.proofs.lemmas.List.Sums.{sum_by-cons}
use Rattle.std.specs.Prelude.{All, max}
use Rattle.ss_catalog.specs.declared.event.Event.{Event}
use Rattle.ss_catalog.specs.declared.event.Event.TheVariants.{Close, Create, Drop, Open, Value}
use Rattle.ss_catalog.specs.declared.params.Family.{Family}
use Rattle.ss_catalog.specs.declared.params.Family.TheVariants.{Exp, Power}
use Rattle.ss_catalog.specs.declared.refusal.Refusal.{Refusal}
use Rattle.ss_catalog.specs.declared.refusal.Refusal.TheVariants as refusal
use Rattle.ss_landmarks.specs.Landmark.{all_values}
use Rattle.ss_laws.proofs.ExpMeasures.{cover-exp}
use Rattle.ss_laws.proofs.PowerMeasures.{cover-power}
use Rattle.ss_laws.proofs.SizeLemmas.{records-few}
use Rattle.ss_laws.specs.Sizes.{HoldsAtMost, TakesAtMost, steps_of}
use Rattle.ss_model.specs.Decay.{cover}
use Rattle.ss_model.specs.History.{Happened}
use Rattle.ss_model.specs.Marks.{has_open}
use Rattle.ss_model.specs.Refusals.{first_that_applies, has_all_records, has_all_streams, has_most_values, is_before, is_early, is_past, of_outline, refuses}
use Rattle.ss_model.specs.Outline.{outline_named}
use Rattle.ss_model.specs.State.{numbers_of}
use Rattle.std.specs.Prelude.{is_some}
use Rattle.ss_model.specs.State.{Stream, live, records_of, state, values_in}
use Rattle.ss_model.specs.declared.types.TheConstants.{MOST_RECORDS}
use Rattle.ss_targets.specs.Power.{IsPower}
use Rattle.ss_targets.specs.Lengths.{family_lengths, has_target, lengths_of}
use Rattle.ss_targets.specs.Exp.{IsExp}

-- streams of which each needs at most so many
live-few : (streams : List Stream) (few : Stream → ℕ) (most : ℕ) → All (λ s. records_of s ≤ few s) streams → All (λ s. few s ≤ most) streams
    → live streams ≤ length streams * most
live-few [] few most each all = omega arith
live-few (s ∷ ss) few most each all =
    let one : records_of s ≤ few s = All-head (λ s. records_of s ≤ few s) s ss each in
    let within : few s ≤ most = All-head (λ s. few s ≤ most) s ss all in
    let others = live-few ss few most (All-tail (λ s. records_of s ≤ few s) s ss each) (All-tail (λ s. few s ≤ most) s ss all) in
    omega (arith, one, within, others, sum_by-cons records_of s ss, suc-mul (length ss) most)

-- how many a stream needs, by its windows, its steps and its landmarks
abbrev needed : List Happened → Stream → ℕ
needed history s =
    max 1 (2 * cover (lengths_of s.params) (values_in s) + steps_of history s - 1) + length s.landmarks + length (all_values s.landmarks)

pub live-takes : (history : List Happened) (k m : ℕ) → All (TakesAtMost history k m) (state history) →
    live (state history) ≤ length (state history) * (max 1 k + m)
live-takes history k m all =
    live-few (state history) (needed history) (max 1 k + m) (records-few history)
    (All-weaker (TakesAtMost history k m) (λ s. needed history s ≤ max 1 k + m) (λ s takes. omega (arith, takes.windows, takes.landmarks))
    (state history) all)

-- streams of one family, of whose values so many target windows cover the most
TakesAtMost-holds : (history : List Happened) (those : Family) (n steps m k : ℕ) → ((x : ℕ) → x ≤ n → cover (family_lengths those) x ≤ k) →
    (s : Stream) → HoldsAtMost history those n steps m s → TakesAtMost history (2 * k + steps - 1) m s
TakesAtMost-holds history those n steps m k covers s holds =
    let covered : cover (lengths_of s.params) (values_in s) ≤ k =
    subst (λ (f : Family). cover (family_lengths f) (values_in s) ≤ k) (sym holds.family) (covers (values_in s) holds.values) in
    record { windows = omega (arith, covered, holds.steps); landmarks = holds.landmarks }

live-alike : (history : List Happened) (those : Family) (n steps m k : ℕ) → ((x : ℕ) → x ≤ n → cover (family_lengths those) x ≤ k) →
    All (HoldsAtMost history those n steps m) (state history) → live (state history) ≤ length (state history) * (max 1 (2 * k + steps - 1) + m)
live-alike history those n steps m k covers all =
    live-takes history (2 * k + steps - 1) m
    (All-weaker (HoldsAtMost history those n steps m) (TakesAtMost history (2 * k + steps - 1) m) (TakesAtMost-holds history those n steps m k covers)
    (state history) all)

pub live-exp : (history : List Happened) (b r s n g steps m : ℕ) → IsExp b r s → (b - 1) * n ≤ r * s * (b ^ g - 1) →
    All (HoldsAtMost history (Exp b r s) n steps m) (state history) →
    live (state history) ≤ length (state history) * (max 1 (2 * (r * g) + steps - 1) + m)
live-exp history b r s n g steps m is enough all =
    live-alike history (Exp b r s) n steps m (r * g) (λ x less. cover-exp b r s x g is (le_trans (mul-le-mul_left (b - 1) less) enough)) all

pub live-power : (history : List Happened) (p q r s n g steps m : ℕ) → IsPower p q r s → (p + q) * n ≤ r * s * g ^ (p + q) →
    All (HoldsAtMost history (Power p q r s) n steps m) (state history) →
    live (state history) ≤ length (state history) * (max 1 (2 * (r * g ^ p) + steps - 1) + m)
live-power history p q r s n g steps m is enough all =
    live-alike history (Power p q r s) n steps m (r * g ^ p)
    (λ x less. cover-power p q r s x g is (le_trans (mul-le-mul_left (p + q) less) enough)) all

-- the last of four refusals doesn't apply, nor is it one of the others
last-unapplied : (a b c d : Bool) (p q r s : Refusal) → p ≢ s → q ≢ s → r ≢ s → d ≡ false →
    first_that_applies ((a, p) ∷ (b, q) ∷ (c, r) ∷ (d, s) ∷ []) ≢ Some s
last-unapplied true b c d p q r s first second third none is = let same : Some p ≡ Some s = is in first (cc)
last-unapplied false true c d p q r s first second third none is = let same : Some q ≡ Some s = is in second (cc)
last-unapplied false false true d p q r s first second third none is = let same : Some r ≡ Some s = is in third (cc)
last-unapplied false false false true p q r s first second third none is = cc
last-unapplied false false false false p q r s first second third none is = let wrong : None ≡ Some s = is in cc

-- a close and a drop need no record
close-unapplied : (a b c : Bool) → first_that_applies ((a, refusal.Unknown) ∷ (b, refusal.NotOpen) ∷ (c, refusal.Time) ∷ []) ≢ Some refusal.StoreFull
close-unapplied true b c is = let wrong : Some refusal.Unknown ≡ Some refusal.StoreFull = is in cc
close-unapplied false true c is = let wrong : Some refusal.NotOpen ≡ Some refusal.StoreFull = is in cc
close-unapplied false false true is = let wrong : Some refusal.Time ≡ Some refusal.StoreFull = is in cc
close-unapplied false false false is = let wrong : None ≡ Some refusal.StoreFull = is in cc

drop-unapplied : (a : Bool) → first_that_applies ((a, refusal.Unknown) ∷ []) ≢ Some refusal.StoreFull
drop-unapplied true is = let wrong : Some refusal.Unknown ≡ Some refusal.StoreFull = is in cc
drop-unapplied false is = let wrong : None ≡ Some refusal.StoreFull = is in cc

has_room : (records : ℕ) → records < MOST_RECORDS → has_all_records records ≡ false
has_room records few = grind (arith, nat_tests)

pub refuses-room : (streams : List Stream) (event : Event) → live streams < MOST_RECORDS → refuses streams event ≢ Some refusal.StoreFull
unfolding refuses
refuses-room streams (Create name params) few =
    last-unapplied (not (has_target params)) (is_some (outline_named name streams)) (has_all_streams (numbers_of streams)) (has_all_records (live streams))
    refusal.Param refusal.Exists refusal.Streams refusal.StoreFull (λ is. cc) (λ is. cc) (λ is. cc) (has_room (live streams) few)
refuses-room streams (Value name t v) few =
    let stream = outline_named name streams in
    last-unapplied (not (is_some stream)) (of_outline stream (λ s. is_early s t)) (of_outline stream has_most_values) (has_all_records (live streams))
    refusal.Unknown refusal.Time refusal.StreamFull refusal.StoreFull (λ is. cc) (λ is. cc) (λ is. cc) (has_room (live streams) few)
refuses-room streams (Open name t) few =
    let stream = outline_named name streams in
    last-unapplied (not (is_some stream)) (of_outline stream (λ s. has_open s.landmarks)) (of_outline stream (λ s. is_past s.last_time t))
    (has_all_records (live streams)) refusal.Unknown refusal.Open refusal.Time refusal.StoreFull
    (λ is. cc) (λ is. cc) (λ is. cc) (has_room (live streams) few)
refuses-room streams (Close name t) few =
    let stream = outline_named name streams in
    close-unapplied (not (is_some stream)) (of_outline stream (λ s. not (has_open s.landmarks))) (of_outline stream (λ s. is_before s.last_time t))
refuses-room streams (Drop name) few = drop-unapplied (not (is_some (outline_named name streams)))
