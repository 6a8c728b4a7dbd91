-- The one stream of a name among those of different names.
use Rattle.ss_model.proofs.Common.{◌≡◌, ℕ, zero, suc, ◌-◌, ◌+◌, ◌<◌, true, false, List, [], ◌∷◌, ◌++◌, length, map, get_or, refl, ap, sym, subst, ◌∙◌, arith}
use Rattle.ss_model.proofs.Common.{None, Some, inl, inr, All, IsDistinct, AllByRecursion, IsStrictlyIncreasing, cases_Bool, cases_lt, get_or_append_left}
use Rattle.ss_model.proofs.Common.{length_push, map-append, All-nil, All-head, All-tail, All-cons, find-append, IsDistinct-head, IsDistinct-tail}
use Rattle.ss_model.proofs.Common.{IsDistinct-cons, same_name, Stream, next_number, names_of, stream_named, stands, change_named}
use Rattle.std.proofs.lemmas.List.{get_or-append_right}
use Rattle.ss_model.proofs.NameLemmas.{same_name-Decides, same_name-swap}
use Rattle.ss_model.proofs.StepLemmas.{changed}

-- a stream of a name, and no other before it or after it
pub record IsFound (name : List ℕ) (streams : List Stream) : Type 0 where
  pub before : List Stream
  pub stream : Stream
  pub after : List Stream
  pub is : streams ≡ before ++ stream ∷ after
  pub named : same_name name stream.name ≡ true
  pub none_before : stands name before ≡ false
  pub none_after : stands name after ≡ false

-- no stream of a name stands where each is named otherwise
pub stands-others : (name : List ℕ) (streams : List Stream) → AllByRecursion (λ y. same_name name y ≡ false) (names_of streams) → stands name streams ≡ false
stands-others name [] others = refl
stands-others name (s ∷ ss) others = rw others.0 (stands-others name ss others.1)

pub found : (name : List ℕ) (streams : List Stream) → IsDistinct same_name (names_of streams) → stands name streams ≡ true → IsFound name streams
found name [] distinct known = (let wrong : false ≡ true = known in cc)
found name (s ∷ ss) distinct known = elim (cases_Bool (same_name name s.name)) [
  | inl same ↦
      (let others = IsDistinct-head same_name s.name (names_of ss) distinct in
      record {
        before = [];
        stream = s;
        after = ss;
        is = refl;
        named = same;
        none_before = refl;
        none_after = stands-others name ss
            (subst (λ n. AllByRecursion (λ y. same_name n y ≡ false) (names_of ss)) (sym ((same_name-Decides name s.name).0 same)) others);
      })
  | inr other ↦
      (let later : stands name ss ≡ true = rw other at known in
      let rest = found name ss (IsDistinct-tail same_name s.name (names_of ss) distinct) later in
      record {
        before = s ∷ rest.before;
        stream = rest.stream;
        after = rest.after;
        is = ap (λ ys. s ∷ ys) rest.is;
        named = rest.named;
        none_before = rw other rest.none_before;
        none_after = rest.none_after;
      })
]

-- what no stream is named for changes none
pub map-changed_others : (name : List ℕ) (change : Stream → Stream) (streams : List Stream) → stands name streams ≡ false →
    map (changed name change) streams ≡ streams
map-changed_others name change [] none = refl
map-changed_others name change (s ∷ ss) none = elim (cases_Bool (same_name name s.name)) [
  | inl same ↦ (let wrong : true ≡ false = rw same at none in cc)
  | inr other ↦
      (let later : stands name ss ≡ false = rw other at none in
      rw (other, map-changed_others name change ss later) refl)
]

module _ {name : List ℕ} {streams : List Stream} (at : IsFound name streams) where
  pub changed-found : (change : Stream → Stream) → change_named name change streams ≡ at.before ++ change at.stream ∷ at.after
  changed-found change =
      rw (
        at.is,
        map-append (changed name change) at.before (at.stream ∷ at.after),
        map-changed_others name change at.before at.none_before,
        at.named,
        map-changed_others name change at.after at.none_after,
      ) refl

none-stands : (name : List ℕ) (streams : List Stream) → stands name streams ≡ false → stream_named name streams ≡ None
none-stands name [] none = refl
none-stands name (s ∷ ss) none = elim (cases_Bool (same_name name s.name)) [
  | inl same ↦ (let wrong : true ≡ false = rw same at none in cc)
  | inr other ↦ (let later : stands name ss ≡ false = rw other at none in rw other (none-stands name ss later))
]

-- the stream that is found among some
pub stream_named-at : (name : List ℕ) (before : List Stream) (s : Stream) (after : List Stream) → stands name before ≡ false →
    same_name name s.name ≡ true → stream_named name (before ++ s ∷ after) ≡ Some s
stream_named-at name before s after none same =
    rw (find-append (λ (u : Stream). same_name name u.name) before (s ∷ after), none-stands name before none, same) refl

-- numbers below the next one
pub below_next : (numbers : List ℕ) (k : ℕ) → k < length numbers → get_or numbers k 0 < next_number numbers
below_next [] k inside = absurd (omega arith)
below_next (n ∷ ns) zero inside = omega arith
below_next (n ∷ ns) (suc k) inside = omega (arith, below_next ns k (omega arith))

pub IsStrictlyIncreasing_push : (numbers : List ℕ) (n : ℕ) → IsStrictlyIncreasing numbers →
    ((k : ℕ) → k < length numbers → get_or numbers k 0 < n) → IsStrictlyIncreasing (numbers ++ n ∷ [])
IsStrictlyIncreasing_push numbers n rising below k inside =
    let room = length_push numbers n in
    let left : get_or (numbers ++ n ∷ []) k 0 ≡ get_or numbers k 0 = get_or_append_left numbers (n ∷ []) 0 k (omega arith) in
    elim (cases_lt (k + 1) (length numbers)) [
      | inl before ↦
          (let right : get_or (numbers ++ n ∷ []) (k + 1) 0 ≡ get_or numbers (k + 1) 0 = get_or_append_left numbers (n ∷ []) 0 (k + 1) before in
          rw (left, right) (rising k before))
      | inr last ↦
          (let end : k + 1 ≡ length numbers = omega arith in
          let right : get_or (numbers ++ n ∷ []) (k + 1) 0 ≡ n =
          rw (get_or-append_right numbers (n ∷ []) (length numbers) (k + 1) 0 refl (omega arith)) (let same : k + 1 - length numbers ≡ 0 =
          omega arith in rw same refl) in
          rw (left, right) (below k (omega arith)))
    ]

-- what holds of each element of two lists
pub each-append : {X : Type 0} (P : X → Type 0) (xs ys : List X) → AllByRecursion P xs → AllByRecursion P ys → AllByRecursion P (xs ++ ys)
each-append P [] ys first second = second
each-append P (x ∷ xs) ys first second = (first.0, each-append P xs ys first.1 second)

pub each-front : {X : Type 0} (P : X → Type 0) (xs ys : List X) → AllByRecursion P (xs ++ ys) → AllByRecursion P xs
each-front P [] ys each = tt
each-front P (x ∷ xs) ys each = (each.0, each-front P xs ys each.1)

pub each-behind : {X : Type 0} (P : X → Type 0) (xs ys : List X) → AllByRecursion P (xs ++ ys) → AllByRecursion P ys
each-behind P [] ys each = each
each-behind P (x ∷ xs) ys each = each-behind P xs ys each.1

pub AllByRecursion_push : {X : Type 0} (P : X → Type 0) (xs : List X) (x : X) → AllByRecursion P xs → P x → AllByRecursion P (xs ++ x ∷ [])
AllByRecursion_push P xs x all one = each-append P xs (x ∷ []) all (one, tt)

pub IsDistinct_push : (streams : List Stream) (name : List ℕ) → IsDistinct same_name (names_of streams) → stands name streams ≡ false →
    IsDistinct same_name (names_of streams ++ name ∷ [])
IsDistinct_push [] name distinct none = IsDistinct-cons same_name name [] tt distinct
IsDistinct_push (s ∷ ss) name distinct none = elim (cases_Bool (same_name name s.name)) [
  | inl same ↦ (let wrong : true ≡ false = rw same at none in cc)
  | inr other ↦
      (let later : stands name ss ≡ false = rw other at none in
      let apart : same_name s.name name ≡ false = same_name-swap s.name name ∙ other in
      IsDistinct-cons same_name s.name (names_of ss ++ name ∷ [])
      (AllByRecursion_push (λ y. same_name s.name y ≡ false) (names_of ss) name (IsDistinct-head same_name s.name (names_of ss) distinct) apart)
      (IsDistinct_push ss name (IsDistinct-tail same_name s.name (names_of ss) distinct) later))
]

-- what holds of all streams holds of the found one and of those around it
pub record AllAround (P : Stream → Type 0) (before : List Stream) (s : Stream) (after : List Stream) : Type 0 where
  pub all_before : All P before
  pub one : P s
  pub all_after : All P after

pub All-around : (P : Stream → Type 0) (before : List Stream) (s : Stream) (after : List Stream) → All P (before ++ s ∷ after) → AllAround P before s after
All-around P [] s after all = record { all_before = All-nil P; one = All-head P s after all; all_after = All-tail P s after all }
All-around P (u ∷ us) s after all =
    let rest = All-around P us s after (All-tail P u (us ++ s ∷ after) all) in
    record { all_before = All-cons P u us (All-head P u (us ++ s ∷ after) all) rest.all_before; one = rest.one; all_after = rest.all_after }
