-- What keys a schedule has for a line that changes.
use Rattle.std.proofs.Common.{◌≡◌, ◌≢◌, ◌∙◌, ℕ, ◌+◌, ◌≤◌, ◌<◌, true, false, List, [], ◌∷◌, ◌++◌, length, refl, take, set, sym, ap, arith, append_assoc}
use Rattle.std.proofs.Common.{length-append, Option, Some, None, inl, inr, IfSome}
use Rattle.std.proofs.lemmas.Bool.{cases_Bool, cases_eq, both_ways, eq-eqb}
use Rattle.std.proofs.lemmas.List.{get_or-set_other, get_or-set_same, length-set}
use Rattle.std.proofs.lemmas.Option.{same_Some}
use Rattle.ss_line.specs.Line.{StandsIn, entry_at, index_of, is_at}
use Rattle.ss_line.specs.declared.entry.At.{At}
use Rattle.ss_line.specs.declared.entry.Entry.{Entry}
use Rattle.ss_line.proofs.Places.{index-once, list_any-cons_false, same_place}
use Rattle.ss_targets.specs.Rule.{Rule, in_step}
use Rattle.ss_targets.specs.Windowing.{ArePositive, Fits, fits}
use Rattle.ss_base.specs.declared.limits.TheConstants.{MOST_VALUES}
use Rattle.ss_targets.proofs.WindowingLemmas.{fits-one_window}
use Rattle.ss_schedule.specs.Held.{fit_of}
use Rattle.ss_schedule.specs.Keyed.{AreBelow, AreInStep, TileUpTo, FollowUpTo, IsFirstKey, IsKeyOf, IsKeyed, PutsKey, ScheduleState, key_at, merge_rule}
use Rattle.ss_schedule.specs.Pairs.{AreSideBySide, IsPairIn, IsSpan, NoPairFits, joined_entry, pair_may_join, pair_at, pair_among, pair_of}
use Rattle.ss_schedule.specs.declared.pair.Pair.{Pair}
use Rattle.ss_schedule.proofs.PairLemmas.{pair_at-within, pair_among-absent, pair_among-here}
use Rattle.ss_schedule.proofs.JoinLemmas.{entry-left, entry-right, stands-left, stands-right}
use Rattle.ss_schedule.proofs.Places.{AreApart, AreApart-seam, AreApart-tail, IsAt, IsAt-stands, apart-before, apart-behind, take-seam}

-- the positions of a pair in a line whose positions follow one another
IsSpan-behind : (n first : ℕ) (e : At × Entry) (entries : List (At × Entry)) (at : At) (pair : Pair) → TileUpTo n first (e ∷ entries) →
    1 ≤ first →
    pair_among e entries at ≡ Some pair → IsSpan n pair
IsSpan-behind n first e [] at pair follow some is = absurd (cc)
IsSpan-behind n first e (x ∷ xs) at pair follow some is =
    let start = follow.0 in
    let order = follow.1 in
    let next = follow.3.0 in
    let next_order = follow.3.1 in
    elim (cases_Bool (is_at at x)) [
      | inl here ↦ (
          let same : Some (pair_of e x) ≡ Some pair = rw here at is in
          let one : pair_of e x ≡ pair = cc in
          rw (← one) (record { begins = omega arith; order = omega arith; taken = follow.3.2 }))
      | inr later ↦ (
          let rest : pair_among x xs at ≡ Some pair = rw later at is in
          IsSpan-behind n (e.1.last + 1) x xs at pair follow.3 (omega arith) rest)
    ]

pub IsSpan-pair : (n : ℕ) (entries : List (At × Entry)) (at : At) (pair : Pair) → FollowUpTo n entries → pair_at entries at ≡ Some pair →
    IsSpan n pair
IsSpan-pair n [] at pair follow is = absurd (cc)
IsSpan-pair n (e ∷ es) at pair follow is = IsSpan-behind n e.1.first e es at pair follow.1 follow.0 is

pub spans : (n : ℕ) (entries : List (At × Entry)) (at : At) (found : Option Pair) → FollowUpTo n entries → found ≡ pair_at entries at →
    IfSome found (IsSpan n)
spans n entries at None follow is = tt
spans n entries at (Some pair) follow is = IsSpan-pair n entries at pair follow (sym is)

-- a greater count
TileUpTo-more : (n m first : ℕ) (entries : List (At × Entry)) → n ≤ m → TileUpTo n first entries → TileUpTo m first entries
TileUpTo-more n m first [] le follow = tt
TileUpTo-more n m first (e ∷ es) le follow =
    let taken = follow.2 in (follow.0, follow.1, omega arith, TileUpTo-more n m (e.1.last + 1) es le follow.3)

FollowUpTo-more : (n m : ℕ) (entries : List (At × Entry)) → n ≤ m → FollowUpTo n entries → FollowUpTo m entries
FollowUpTo-more n m [] le follow = tt
FollowUpTo-more n m (e ∷ es) le follow = (follow.0, TileUpTo-more n m e.1.first (e ∷ es) le follow.1)

-- two neighbours as one
TileUpTo-joined : (n first : ℕ) (before : List (At × Entry)) (left right : At) (w v : Entry) (rest : List (At × Entry)) →
    TileUpTo n first (before ++ (left, w) ∷ (right, v) ∷ rest) → TileUpTo n first (before ++ (left, joined_entry w v) ∷ rest)
TileUpTo-joined n first [] left right w v rest follow =
    let order = follow.1 in
    let next = follow.3.0 in
    let next_order = follow.3.1 in
    (follow.0, omega arith, follow.3.2, follow.3.3)
TileUpTo-joined n first (e ∷ es) left right w v rest follow =
    (follow.0, follow.1, follow.2, TileUpTo-joined n (e.1.last + 1) es left right w v rest follow.3)

pub FollowUpTo-joined : (n : ℕ) (before : List (At × Entry)) (left right : At) (w v : Entry) (rest : List (At × Entry)) →
    FollowUpTo n (before ++ (left, w) ∷ (right, v) ∷ rest) → FollowUpTo n (before ++ (left, joined_entry w v) ∷ rest)
FollowUpTo-joined n [] left right w v rest follow = (follow.0, TileUpTo-joined n w.first [] left right w v rest follow.1)
FollowUpTo-joined n (e ∷ es) left right w v rest follow = (follow.0, TileUpTo-joined n e.1.first (e ∷ es) left right w v rest follow.1)

-- no pair is due before its key
unfit-before : (rule : Rule) (n : ℕ) (pair : Pair) (key : Option (At × ℕ)) → n ≤ MOST_VALUES → IsKeyOf rule n (Some pair) key →
    n < fit_of key → AreInStep rule pair → ¬ Fits rule.lengths pair.first pair.last n
unfit-before rule n pair None few is less together fit = is together n (omega arith) few fit
unfit-before rule n pair (Some key) few is less together fit =
    let least = is.first.least n (omega arith) fit in absurd (omega (arith, least, less))

unfit-false : (len : ℕ → ℕ) (l r n : ℕ) → ArePositive len → l ≤ r → ¬ Fits len l r n → fits len l r n ≡ false
unfit-false len l r n full order unfit =
    elim (cases_Bool (fits len l r n)) [ inl is ↦ absurd (unfit ((fits-one_window len l r n full order).0 is)) | inr is ↦ is ]

may_join-before : (rule : Rule) (n : ℕ) (pair : Pair) (key : Option (At × ℕ)) → ArePositive rule.lengths → IsSpan n pair → n ≤ MOST_VALUES →
    IsKeyOf rule n (Some pair) key → n < fit_of key → pair_may_join rule n pair ≡ false
may_join-before rule n pair key full span few is less =
    elim (cases_Bool (in_step rule.step pair.t_first pair.t_last)) [
      | inl together ↦ (
          let unfit = unfit-false rule.lengths pair.first pair.last n full span.order (unfit-before rule n pair key few is less together) in
          rw (together, unfit) refl)
      | inr apart ↦ rw apart refl
    ]

NoPairFits-behind : (rule : Rule) (n : ℕ) (e : At × Entry) (entries : List (At × Entry)) → AreApart (e ∷ entries) →
    ((at : At) (pair : Pair) → pair_among e entries at ≡ Some pair → pair_may_join rule n pair ≡ false) → NoPairFits rule n (e ∷ entries)
NoPairFits-behind rule n e [] apart none = tt
NoPairFits-behind rule n e (x ∷ xs) apart none = (
  none x.0 (pair_of e x) (pair_among-here e x.0 x.1 xs),
  NoPairFits-behind rule n x xs (AreApart-tail e (x ∷ xs) apart) (λ at pair is. elim (cases_Bool (is_at at x)) [
    | inl here ↦ (
        let same = same_place at x here in
        let tail = AreApart-tail e (x ∷ xs) apart in
        let gone : pair_among x xs at ≡ None = ap (pair_among x xs) (sym same) ∙ pair_among-absent x xs x.0 (apart-behind [] x.0 x.1 xs tail) in
        absurd (cc))
    | inr later ↦ none at pair (rw later is)
  ]),
)

pub NoPairFits-all : (rule : Rule) (n : ℕ) (entries : List (At × Entry)) → AreApart entries →
    ((at : At) (pair : Pair) → pair_at entries at ≡ Some pair → pair_may_join rule n pair ≡ false) → NoPairFits rule n entries
NoPairFits-all rule n [] apart none = tt
NoPairFits-all rule n (e ∷ es) apart none = NoPairFits-behind rule n e es apart none

-- all keys are past n
pub NoPairFits-keyed : (n : ℕ) (entries : List (At × Entry)) (schedule : ScheduleState) → ArePositive (merge_rule schedule).lengths → AreApart entries →
    IsKeyed n entries schedule → ((at : At) → n < fit_of (key_at schedule.keys at)) → NoPairFits (merge_rule schedule) n entries
NoPairFits-keyed n entries schedule full apart keyed past =
    NoPairFits-all (merge_rule schedule) n entries apart
    (λ at pair is.
    let span = IsSpan-pair n entries at pair keyed.follow is in
    let key = rw is at (keyed.keys at) in
    may_join-before (merge_rule schedule) n pair (key_at schedule.keys at) full span keyed.few key (past at))

-- the next count
NoPairFits-at_behind : (rule : Rule) (n : ℕ) (e : At × Entry) (entries : List (At × Entry)) (at : At) (pair : Pair) →
    NoPairFits rule n (e ∷ entries) →
    pair_among e entries at ≡ Some pair → pair_may_join rule n pair ≡ false
NoPairFits-at_behind rule n e [] at pair none is = absurd (cc)
NoPairFits-at_behind rule n e (x ∷ xs) at pair none is =
    elim (cases_Bool (is_at at x)) [
      | inl here ↦ (
          let same : Some (pair_of e x) ≡ Some pair = rw here at is in
          let one : pair_of e x ≡ pair = cc in
          rw (← one) none.0)
      | inr later ↦ (let rest : pair_among x xs at ≡ Some pair = rw later at is in NoPairFits-at_behind rule n x xs at pair none.1 rest)
    ]

NoPairFits-at : (rule : Rule) (n : ℕ) (entries : List (At × Entry)) (at : At) (pair : Pair) → NoPairFits rule n entries →
    pair_at entries at ≡ Some pair →
    pair_may_join rule n pair ≡ false
NoPairFits-at rule n [] at pair none is = absurd (cc)
NoPairFits-at rule n (e ∷ es) at pair none is = NoPairFits-at_behind rule n e es at pair none is

-- a pair that lies in one step and in one target window may be one
IsTrue-may_join : (rule : Rule) (n : ℕ) (pair : Pair) → ArePositive rule.lengths → IsSpan n pair → AreInStep rule pair →
    Fits rule.lengths pair.first pair.last n → pair_may_join rule n pair ≡ true
IsTrue-may_join rule n pair full span together fit =
    let lies = (fits-one_window rule.lengths pair.first pair.last n full span.order).1 fit in rw (together, lies) refl

IsKeyOf-next : (rule : Rule) (n : ℕ) (found : Option Pair) (key : Option (At × ℕ)) →
    ((pair : Pair) → found ≡ Some pair → AreInStep rule pair → ¬ Fits rule.lengths pair.first pair.last n) →
    IsKeyOf rule n found key → IsKeyOf rule (n + 1) found key
IsKeyOf-next rule n None key unfit is = is
IsKeyOf-next rule n (Some pair) None unfit is = λ together m le few fit. is together m (omega arith) few fit
IsKeyOf-next rule n (Some pair) (Some key) unfit is = record {
  left = is.left;
  together = is.together;
  first = record {
    reached = elim (cases_eq key.1 n) [
      | inl same ↦ absurd (unfit pair refl is.together (rw same at is.first.fits))
      | inr other ↦ (let reached = is.first.reached in omega arith)
    ];
    fits = is.first.fits;
    least = λ k le fit. is.first.least k (omega arith) fit;
  };
  few = is.few;
}

pub IsKeyed-next : (n : ℕ) (entries : List (At × Entry)) (schedule : ScheduleState) → ArePositive (merge_rule schedule).lengths → n < MOST_VALUES →
    IsKeyed n entries schedule → NoPairFits (merge_rule schedule) n entries → IsKeyed (n + 1) entries schedule
IsKeyed-next n entries schedule full few keyed none = record {
  few = omega arith;
  follow = FollowUpTo-more n (n + 1) entries (omega arith) keyed.follow;
  room = keyed.room;
  keys = λ at. IsKeyOf-next (merge_rule schedule) n (pair_at entries at) (key_at schedule.keys at)
      (λ pair is together fit.
      let span = IsSpan-pair n entries at pair keyed.follow is in
      both_ways _ (NoPairFits-at (merge_rule schedule) n entries at pair none is)
      (IsTrue-may_join (merge_rule schedule) n pair full span together fit))
      (keyed.keys at);
}

-- the pair of a key
pub key-pair : (rule : Rule) (n : ℕ) (found : Option Pair) (key : At × ℕ) → IsKeyOf rule n found (Some key) →
    (pair : Pair) × (found ≡ Some pair) × IsFirstKey rule n pair key
key-pair rule n None key is = absurd (cc)
key-pair rule n (Some pair) key is = (pair, refl, is)

-- a key that was put
module _ (old new : ScheduleState) (n : ℕ) (at : At) (found : Option Pair) (put : PutsKey old new n at found) where
  pub len-kept : merge_rule new ≡ merge_rule old
  len-kept = ap (λ target. merge_rule (let s : ScheduleState = record { target = target; keys = [] } in s)) put.target

  pub put-here : (other : At) (entry : Entry) (pair : Option Pair) → is_at other (at, entry) ≡ true → pair ≡ found →
      IsKeyOf (merge_rule new) n pair (key_at new.keys other)
  put-here other entry pair here same =
      let place = same_place other (at, entry) here in
      rw same (rw place at put.here)

  pub put-other : (other : At) (entry : Entry) (pair : Option Pair) → is_at other (at, entry) ≡ false →
      IsKeyOf (merge_rule old) n pair (key_at old.keys other) → IsKeyOf (merge_rule new) n pair (key_at new.keys other)
  put-other other entry pair later was =
      let apart : other.0 ≢ at.0 = λ same. both_ways (is_at other (at, entry)) later (eq-eqb at.0 other.0 (sym same)) in
      rw (len-kept, put.others other apart) was

-- the places of entries
pub AreBelow-append : (room : ℕ) (xs ys : List (At × Entry)) → AreBelow room xs → AreBelow room ys → AreBelow room (xs ++ ys)
AreBelow-append room [] ys first second = second
AreBelow-append room (x ∷ xs) ys first second = (first.0, AreBelow-append room xs ys first.1 second)

pub AreBelow-parts : (room : ℕ) (xs ys : List (At × Entry)) → AreBelow room (xs ++ ys) → AreBelow room xs × AreBelow room ys
AreBelow-parts room [] ys below = (tt, below)
AreBelow-parts room (x ∷ xs) ys below = let rest = AreBelow-parts room xs ys below.1 in ((below.0, rest.0), rest.1)

AreBelow-more : (room more : ℕ) (entries : List (At × Entry)) → room ≤ more → AreBelow room entries → AreBelow more entries
AreBelow-more room more [] le below = tt
AreBelow-more room more (e ∷ es) le below = let first = below.0 in (omega arith, AreBelow-more room more es le below.1)

-- more room, and the same keys
pub IsKeyed-room : (n : ℕ) (entries : List (At × Entry)) (old new : ScheduleState) → new.target ≡ old.target → length old.keys ≤ length new.keys →
    ((at : At) → key_at new.keys at ≡ key_at old.keys at) → IsKeyed n entries old → IsKeyed n entries new
IsKeyed-room n entries old new target more same keyed = record {
  few = keyed.few;
  follow = keyed.follow;
  room = AreBelow-more (length old.keys) (length new.keys) entries more keyed.room;
  keys = λ at.
      let rule = ap (λ t. merge_rule (let s : ScheduleState = record { target = t; keys = [] } in s)) (sym target) in
      rw (← (same at), rule) at (keyed.keys at);
}

-- one entry more at the end
pub IsKeyed-more : (n : ℕ) (before : List (At × Entry)) (at : At) (entry : Entry) (old new : ScheduleState) → IsKeyed n before old →
    at.0 < length old.keys → PutsKey old new n at (pair_at (before ++ (at, entry) ∷ []) at) → FollowUpTo n (before ++ (at, entry) ∷ []) →
    IsKeyed n (before ++ (at, entry) ∷ []) new
IsKeyed-more n before at entry old new keyed inside put follow = record {
  few = keyed.few;
  follow = follow;
  room = rw put.room (AreBelow-append (length old.keys) before ((at, entry) ∷ []) keyed.room (inside, tt));
  keys = λ other. elim (cases_Bool (is_at other (at, entry))) [
    | inl here ↦ (
        let place = same_place other (at, entry) here in
        put-here old new n at _ put other entry _ here (ap (pair_at (before ++ (at, entry) ∷ [])) (sym place)))
    | inr later ↦ put-other old new n at _ put other entry _ later
        (rw (pair_at-within before ((at, entry) ∷ []) other (list_any-cons_false (is_at other) (at, entry) [] later refl)) (keyed.keys other))
  ];
}

-- a pair in a line, by the place of the right one
pub record IsSplit (entries : List (At × Entry)) (at : At) (pair : Pair) : Type 0 where
  pub before : List (At × Entry)
  pub left : At × Entry
  pub entry : Entry
  pub rest : List (At × Entry)
  pub is : entries ≡ before ++ left ∷ (at, entry) ∷ rest
  pub pair_is : pair ≡ pair_of left (at, entry)

IsSplit-behind : (e : At × Entry) (entries : List (At × Entry)) (at : At) (pair : Pair) → pair_among e entries at ≡ Some pair →
    IsSplit (e ∷ entries) at pair
IsSplit-behind e [] at pair is = absurd (cc)
IsSplit-behind e (x ∷ xs) at pair is =
    elim (cases_Bool (is_at at x)) [
      | inl here ↦ (
          let place = same_place at x here in
          let same : Some (pair_of e x) ≡ Some pair = rw here at is in
          let one : pair_of e x ≡ pair = cc in
          record {
            before = [];
            left = e;
            entry = x.1;
            rest = xs;
            is = ap (λ (a : At). e ∷ (a, x.1) ∷ xs) place;
            pair_is = sym one ∙ ap (λ (a : At). pair_of e (a, x.1)) place;
          })
      | inr later ↦ (
          let rest = IsSplit-behind x xs at pair (rw later at is) in
          record {
            before = e ∷ rest.before;
            left = rest.left;
            entry = rest.entry;
            rest = rest.rest;
            is = ap (λ es. e ∷ es) rest.is;
            pair_is = rest.pair_is;
          })
    ]

pub IsSplit-pair : (entries : List (At × Entry)) (at : At) (pair : Pair) → pair_at entries at ≡ Some pair → IsSplit entries at pair
IsSplit-pair [] at pair is = absurd (cc)
IsSplit-pair (e ∷ es) at pair is = IsSplit-behind e es at pair is

-- two neighbours as a line has them, by what was read of them
module _ (entries : List (At × Entry)) (apart : AreApart entries) (at : At) (pair : Pair) (it : IsSplit entries at pair) where
  side_by_side : AreSideBySide entries it.left.0 at
  side_by_side =
      let moved = it.is ∙ sym (append_assoc it.before (it.left ∷ []) ((at, it.entry) ∷ it.rest)) in
      record {
        before = it.before;
        window = it.left.1;
        next = it.entry;
        rest = it.rest;
        is = it.is;
        left_once = apart-before it.before it.left.0 it.left.1 ((at, it.entry) ∷ it.rest) (AreApart-seam entries _ it.is apart);
        right_once = apart-before (it.before ++ it.left ∷ []) at it.entry it.rest (AreApart-seam entries _ moved apart);
      }

  pub split-stands : (left : At) → left ≡ pair.left → (StandsIn entries left) × (StandsIn entries at)
  split-stands left same =
      let place : it.left.0 ≡ left = sym (same ∙ ap (λ (p : Pair). p.left) it.pair_is) in (
        rw place at (stands-left entries it.left.0 at side_by_side),
        stands-right entries it.left.0 at side_by_side,
      )

  abbrev pub read_of : At → Entry → Entry → Pair
  read_of left window entry = pair_of (left, window) (at, entry)

  -- the pair that was read is that of the line
  pub read-is : (left : At) (window entry : Entry) → left ≡ pair.left → entry_at entries left ≡ Some window →
      entry_at entries at ≡ Some entry → read_of left window entry ≡ pair
  unfolding side_by_side
  read-is left window entry same read_left read_at =
      let place : it.left.0 ≡ left = sym (same ∙ ap (λ (p : Pair). p.left) it.pair_is) in
      let first = same_Some it.left.1 window (sym (entry-left entries it.left.0 at side_by_side) ∙ ap (entry_at entries) place ∙ read_left) in
      let last = same_Some it.entry entry (sym (entry-right entries it.left.0 at side_by_side) ∙ read_at) in
      sym (it.pair_is ∙ ap (λ (a : At). read_of a it.left.1 it.entry) place ∙ ap (λ (w : Entry). read_of left w it.entry) first ∙ ap (read_of left window) last)

  pub IsPairIn-read : (read : Pair) → read ≡ pair → IsPairIn entries read
  unfolding side_by_side
  IsPairIn-read read same =
      rw (same ∙ it.pair_is) (record { neighbours = side_by_side; first = refl; last = refl; t_first = refl; t_last = refl })

-- a key that is at most n is of a pair that fits at n
pub fits-by : (rule : Rule) (n fit : ℕ) (pair : Pair) (key : At × ℕ) → ArePositive rule.lengths → IsSpan n pair → fit ≤ n → key.1 ≡ fit →
    IsFirstKey rule n pair key →
    pair_may_join rule n pair ≡ true
fits-by rule n fit pair key full span le same is =
    let reached = is.first.reached in
    let now : key.1 ≡ n = omega arith in
    IsTrue-may_join rule n pair full span is.together (rw now at is.first.fits)

-- the entries up to one of a line, and with it
pub taken-before : (entries : List (At × Entry)) (at : At) (it : IsAt entries at) → take (index_of entries at) entries ≡ it.before
taken-before entries at it =
    let index = ap (λ es. index_of es at) it.is ∙ index-once it.before at it.entry it.rest it.once in
    ap (λ k. take k entries) index ∙ ap (take (length it.before)) it.is ∙ take-seam it.before ((at, it.entry) ∷ it.rest)

pub taken-with : (entries : List (At × Entry)) (at : At) (it : IsAt entries at) →
    take (index_of entries at + 1) entries ≡ it.before ++ (at, it.entry) ∷ []
taken-with entries at it =
    let index = ap (λ es. index_of es at) it.is ∙ index-once it.before at it.entry it.rest it.once in
    let long : index_of entries at + 1 ≡ length (it.before ++ (at, it.entry) ∷ []) =
    omega (arith, index, length-append it.before ((at, it.entry) ∷ [])) in
    ap (λ k. take k entries) long ∙ ap (take (length (it.before ++ (at, it.entry) ∷ [])))
    (it.is ∙ sym (append_assoc it.before ((at, it.entry) ∷ []) it.rest))
    ∙ take-seam (it.before ++ (at, it.entry) ∷ []) it.rest

-- what is behind doesn't matter to the pair of an entry and the one before it
pub pair-with : (entries : List (At × Entry)) (at : At) (it : IsAt entries at) → AreApart entries →
    pair_at entries at ≡ pair_at (it.before ++ (at, it.entry) ∷ []) at
pair-with entries at it apart =
    let moved = it.is ∙ sym (append_assoc it.before ((at, it.entry) ∷ []) it.rest) in
    ap (λ es. pair_at es at) moved
    ∙ pair_at-within (it.before ++ (at, it.entry) ∷ []) it.rest at (apart-behind it.before at it.entry it.rest (AreApart-seam entries _ it.is apart))

-- the keys when the next entry of a line is taken up
pub IsKeyed-added : (n : ℕ) (entries : List (At × Entry)) (at : At) (old new : ScheduleState) (found : Option Pair) → AreApart entries →
    StandsIn entries at →
    at.0 < length old.keys → found ≡ pair_at entries at → IsKeyed n (take (index_of entries at) entries) old →
    FollowUpTo n (take (index_of entries at + 1) entries) →
    PutsKey old new n at found → IsKeyed n (take (index_of entries at + 1) entries) new
IsKeyed-added n entries at old new found apart stands inside is keyed follow put =
    let it = IsAt-stands entries at stands in
    rw (taken-with entries at it) (IsKeyed-more n it.before at it.entry old new (rw (taken-before entries at it) at keyed)
    inside (rw (is ∙ pair-with entries at it apart) at put) (rw (taken-with entries at it) at follow))

pub spans-added : (n : ℕ) (entries : List (At × Entry)) (at : At) (found : Option Pair) → AreApart entries → StandsIn entries at →
    found ≡ pair_at entries at → FollowUpTo n (take (index_of entries at + 1) entries) → IfSome found (IsSpan n)
spans-added n entries at found apart stands is follow =
    let it = IsAt-stands entries at stands in
    spans n (it.before ++ (at, it.entry) ∷ []) at found (rw (taken-with entries at it) at follow) (is ∙ pair-with entries at it apart)

-- a key that has room
pub PutsKey-set : (old : ScheduleState) (keys : List (Option (At × ℕ))) (n : ℕ) (at : At) (pair : Option Pair) (key : Option (At × ℕ)) →
    IsKeyOf (merge_rule old) n pair key →
    at.0 < length old.keys → keys ≡ set old.keys at.0 key →
    PutsKey old (let s : ScheduleState = record { target = old.target; keys = keys } in s) n at pair
PutsKey-set old keys n at pair key is inside set_is = record {
  here = rw (ap (λ ks. key_at ks at) set_is ∙ get_or-set_same old.keys at.0 key None inside) is;
  others = λ other apart. ap (λ ks. key_at ks other) set_is ∙ get_or-set_other old.keys at.0 other.0 key None apart;
  room = ap length set_is ∙ length-set old.keys at.0 key;
  target = refl;
}

-- the pair of a key of a keyed schedule
pub record IsPairOfKey (n : ℕ) (entries : List (At × Entry)) (schedule : ScheduleState) (right left : At) (fit : ℕ) : Type 0 where
  pub pair : Pair
  pub split : IsSplit entries right pair
  pub key : IsFirstKey (merge_rule schedule) n pair (left, fit)
  pub span : IsSpan n pair

pub IsPairOfKey-keyed : (n : ℕ) (entries : List (At × Entry)) (schedule : ScheduleState) (right left : At) (fit : ℕ) → IsKeyed n entries schedule →
    key_at schedule.keys right ≡ Some (left, fit) → IsPairOfKey n entries schedule right left fit
IsPairOfKey-keyed n entries schedule right left fit keyed key =
    let found = key-pair (merge_rule schedule) n (pair_at entries right) (left, fit)
    (rw key at (keyed.keys right)) in
    record {
      pair = found.0;
      split = IsSplit-pair entries right found.0 found.1;
      key = found.2;
      span = IsSpan-pair n entries right found.0 keyed.follow found.1;
    }
