-- What a index says of the windows of a stream, as a store holds them.
use Rattle.ss_stream.proofs.Common.{◌≡◌, ◌∙◌, ℕ, zero, suc, ◌+◌, ◌<◌, ◌≤◌, List, [], ◌∷◌, ◌++◌, map, length, take, refl, sym, ap, subst, arith, get_or, None}
use Rattle.ss_stream.proofs.Common.{eqb-true, All-get_or, passes_at_first, MOST_VALUES, StandsIn, index_of, is_at, place_at, At, Entry, Rule, rule_of}
use Rattle.ss_stream.proofs.Common.{params_of, IsKeyed, NoPairFits, TileFrom, entries_of, StreamParts, entries_in, NoneAreDue, values_held, AreDue}
use Rattle.ss_stream.proofs.Common.{NoEntriesAreDue, HeldStream, Index, IsReservedFor, IsScheduled, IsTimed, begun_at}
use Rattle.std.proofs.Common.{All}
use Rattle.ss_schedule.specs.Keyed.{TileUpTo, FollowUpTo, ScheduleState}
use Rattle.ss_schedule.specs.declared.pair.Pair.{Pair}
use Rattle.ss_schedule.specs.Keyed.{HasPlaces}
use Rattle.ss_stream.specs.Indexed.{IsDuePair}
use Rattle.ss_stream.proofs.Spans.{last-held}

-- no pair of a line may be one, by its places and without them
pub NoEntriesAreDue-pairs : (rule : Rule) (n : ℕ) (entries : List (At × Entry)) → NoPairFits rule n entries → NoEntriesAreDue rule n (entries_in entries)
NoEntriesAreDue-pairs rule n [] none = tt
NoEntriesAreDue-pairs rule n (e ∷ []) none = tt
NoEntriesAreDue-pairs rule n (e ∷ f ∷ es) none = (none.0, NoEntriesAreDue-pairs rule n (f ∷ es) none.1)

pub NoPairFits-entries : (rule : Rule) (n : ℕ) (entries : List (At × Entry)) → NoEntriesAreDue rule n (entries_in entries) → NoPairFits rule n entries
NoPairFits-entries rule n [] none = tt
NoPairFits-entries rule n (e ∷ []) none = tt
NoPairFits-entries rule n (e ∷ f ∷ es) none = (none.0, NoPairFits-entries rule n (f ∷ es) none.1)

-- windows that tile follow one another up to the values that they hold
TileUpTo-tiles : (n first : ℕ) (entries : List (At × Entry)) → TileFrom first (entries_in entries) → values_held (entries_in entries) ≤ n →
    TileUpTo n first entries
TileUpTo-tiles n first [] tiles held = tt
TileUpTo-tiles n first (e ∷ []) tiles held = (tiles.0, omega (arith, tiles.0, tiles.1), held, tt)
TileUpTo-tiles n first (e ∷ f ∷ es) tiles held =
    let next = tiles.3 in
    let rest = last-held (e.1.last + 1) f.1 (entries_in es) next in
    (tiles.0, omega (arith, tiles.0, tiles.1), omega (arith, rest.0, held, next.0, next.1), TileUpTo-tiles n (e.1.last + 1) (f ∷ es) next held)

pub FollowUpTo-tiles : (n : ℕ) (entries : List (At × Entry)) → TileFrom 1 (entries_in entries) → values_held (entries_in entries) ≤ n → FollowUpTo n entries
FollowUpTo-tiles n [] tiles held = tt
FollowUpTo-tiles n (e ∷ es) tiles held =
    (omega (arith, tiles.0), subst (λ first. TileUpTo n first (e ∷ es)) (sym tiles.0) (TileUpTo-tiles n 1 (e ∷ es) tiles held))

-- and so do the first of them
TileUpTo-take : (n first k : ℕ) (entries : List (At × Entry)) → TileUpTo n first entries → TileUpTo n first (take k entries)
TileUpTo-take n first zero [] follow = tt
TileUpTo-take n first zero (e ∷ es) follow = tt
TileUpTo-take n first (suc k) [] follow = tt
TileUpTo-take n first (suc k) (e ∷ es) follow = (follow.0, follow.1, follow.2, TileUpTo-take n (e.1.last + 1) k es follow.3)

pub FollowUpTo-take : (n k : ℕ) (entries : List (At × Entry)) → FollowUpTo n entries → FollowUpTo n (take k entries)
FollowUpTo-take n zero [] follow = tt
FollowUpTo-take n zero (e ∷ es) follow = tt
FollowUpTo-take n (suc k) [] follow = tt
FollowUpTo-take n (suc k) (e ∷ es) follow = (follow.0, TileUpTo-take n e.1.first (suc k) (e ∷ es) follow.1)

-- a pair that is due, by its places
pub AreDue-pair : (held : HeldStream) (pair : Pair) (is : IsDuePair held pair) →
    AreDue (rule_of (params_of held.part.target)) (values_held (entries_of held.part)) held.part.line.entries pair.left pair.right
AreDue-pair held pair is = record {
  pair = is.stands.neighbours;
  due = rw (← is.stands.first, ← is.stands.last, ← is.stands.t_first, ← is.stands.t_last) is.due;
}

-- all entries of a line, and none
pub take-all : {X : Type 0} (xs : List X) (k : ℕ) → length xs ≤ k → take k xs ≡ xs
take-all [] zero long = refl
take-all [] (suc k) long = refl
take-all (x ∷ xs) zero long = absurd (omega arith)
take-all (x ∷ xs) (suc k) long = ap (λ l. x ∷ l) (take-all xs k (omega arith))

pub take-none : {X : Type 0} (xs : List X) → take 0 xs ≡ []
take-none [] = refl
take-none (x ∷ xs) = refl

-- the windows up to a place are taken up
pub record IsKeyedUpTo (n : ℕ) (part : StreamParts) (index : Index) (at : At) : Type 0 where
  pub target : index.schedule.target ≡ part.target
  pub stands : StandsIn part.line.entries at
  pub keyed : IsKeyed n (take (index_of part.line.entries at + 1) part.line.entries) index.schedule
  pub timed : IsTimed (take (index_of part.line.entries at + 1) part.line.entries) index.times
  pub room : HasPlaces part.line index.schedule

-- a place that stands lies below a bound of all places
pub StandsIn-below : (entries : List (At × Entry)) (n : ℕ) (at : At) → All (λ entry. entry.0.0 < n) entries → StandsIn entries at → at.0 < n
StandsIn-below entries n at below stands =
    let d : At × Entry = (at, record { first = 0; last = 0; t_first = 0; t_last = 0; slot = 0 }) in
    let e : At × Entry = get_or entries (index_of entries at) d in
    let there : e.0.0 < n = All-get_or (λ (x : At × Entry). x.0.0 < n) entries (index_of entries at) d stands below in
    let same : e.0.0 ≡ at.0 = eqb-true e.0.0 at.0 (passes_at_first (is_at at) entries d stands) in
    omega (arith, there, same)

-- where no place stands the line has ended
pub none_past : (entries : List (At × Entry)) (k : ℕ) → None ≡ place_at entries k → length entries ≤ k
none_past [] k none = omega arith
none_past (e ∷ es) zero none = absurd (cc)
none_past (e ∷ es) (suc k) none = omega (arith, none_past es k none)

-- windows that tile hold no more values than a stream can have
pub held-few : (entries : List Entry) → TileFrom 1 entries → values_held entries ≤ MOST_VALUES
held-few [] tiles = omega arith
held-few (e ∷ es) tiles = (last-held 1 e es tiles).1

-- windows that were joined as far as they are due have no pair that may be one
none_due-same : (was now : StreamParts) → now.target ≡ was.target → now.line.entries ≡ was.line.entries → NoneAreDue was → NoneAreDue now
none_due-same was now target entries none = rw (target, entries) none

keyed-same : (was now : StreamParts) (old new : ScheduleState) → now.line.entries ≡ was.line.entries →
    ((n : ℕ) (entries : List (At × Entry)) → IsKeyed n entries old → IsKeyed n entries new) → IsKeyed (values_held (entries_of was)) was.line.entries old →
    IsKeyed (values_held (entries_of now)) now.line.entries new
keyed-same was now old new entries keep keyed = keep (values_held (entries_of now)) now.line.entries (rw entries keyed)

-- a stream with other room, and an index that says the same
pub IsScheduled-same : (was now : HeldStream) → now.part.target ≡ was.part.target → now.part.line.entries ≡ was.part.line.entries →
    now.index.schedule.target ≡ was.index.schedule.target →
    ((n : ℕ) (entries : List (At × Entry)) → IsKeyed n entries was.index.schedule → IsKeyed n entries now.index.schedule) →
    now.index.times ≡ was.index.times → IsScheduled was → IsScheduled now
IsScheduled-same was now target entries kept keep times is = (
  record {
    target = kept ∙ is.0.target ∙ sym target;
    keyed = keyed-same was.part now.part was.index.schedule now.index.schedule entries keep is.0.keyed;
    timed = times ∙ is.0.timed ∙ ap (λ es. map begun_at es) (sym entries);
  },
  none_due-same was.part now.part target entries is.1,
)

-- and one that was made ready for one more window
pub IsReservedFor-scheduled : (was now : HeldStream) (t : ℕ) → now.part.target ≡ was.part.target → now.part.line.entries ≡ was.part.line.entries →
    now.index.schedule.target ≡ was.index.schedule.target →
    ((n : ℕ) (entries : List (At × Entry)) → IsKeyed n entries was.index.schedule → IsKeyed n entries now.index.schedule) →
    now.index.times ≡ was.index.times ++ (t, record { 0 = 0 }) ∷ [] → HasPlaces now.part.line now.index.schedule → IsScheduled was →
    IsReservedFor t now
IsReservedFor-scheduled was now t target entries kept keep noted places is = record {
  target = kept ∙ is.0.target ∙ sym target;
  keyed = keyed-same was.part now.part was.index.schedule now.index.schedule entries keep is.0.keyed;
  none_due = none_due-same was.part now.part target entries is.1;
  places = places;
  noted = noted ∙ ap (λ (ts : List (ℕ × At)). ts ++ (t, record { 0 = 0 }) ∷ []) (is.0.timed ∙ ap (λ es. map begun_at es) (sym entries));
}

-- a stream without windows
pub IsScheduled-none : (held : HeldStream) → held.index.schedule.target ≡ held.part.target → held.part.line.entries ≡ [] →
    IsKeyed 0 [] held.index.schedule → held.index.times ≡ [] → IsScheduled held
IsScheduled-none held target none keyed timed = (
  record {
    target = target;
    keyed = rw none keyed;
    timed = timed ∙ ap (λ es. map begun_at es) (sym none);
  },
  rw none tt,
)
