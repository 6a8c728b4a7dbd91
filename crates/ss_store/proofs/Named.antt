-- What the catalog finds by a name, and what is held of it.
use Rattle.ss_store.proofs.Common.{◌≡◌, ℕ, Bool, List, [], ◌∷◌, map, refl, ap, sym, ◌∙◌, subst, None, Some, inl, inr, slice_get, option_map, IfSome, IsSome}
use Rattle.ss_store.proofs.Common.{◌==◌, position_or_len, find, IsStrictlyIncreasing, cases_Bool, find_at, same_name}
use Rattle.ss_store.proofs.Common.{StreamId, IsState, IsStream, Stream, numbers_of, stream_named, stream_numbered, AllAgree, Agrees, StreamParts, SomeAgree}
use Rattle.ss_store.proofs.Common.{entry_of, numbers_held, part_named, part_numbered}
use Rattle.std.proofs.Common.{is_some}
use Rattle.std.specs.Prelude.{Option}
use Rattle.ss_catalog.specs.Catalog.{id_of}
use Rattle.ss_model.specs.Refusals.{stands}
use Rattle.ss_store.proofs.Among.{Agrees-at, IsStream-at}
use Rattle.ss_store.proofs.PlaceLemmas.{part_numbered-at}

pub SomeAgree-named : (parts : List StreamParts) (streams : List Stream) (name : List ℕ) → AllAgree parts streams →
    SomeAgree (part_named name parts) (stream_named name streams)
SomeAgree-named [] [] name each = tt
SomeAgree-named [] (s ∷ ss) name each = absurd each
SomeAgree-named (part ∷ parts) [] name each = absurd each
SomeAgree-named (part ∷ parts) (s ∷ ss) name each =
    let same : same_name name s.name ≡ same_name name part.name = ap (same_name name) (sym each.0.name) in
    elim (cases_Bool (same_name name part.name)) [
      | inl found ↦ rw (same, found) each.0
      | inr other ↦ rw (same, other) (SomeAgree-named parts ss name each.1)
    ]

pub SomeAgree-numbered : (parts : List StreamParts) (streams : List Stream) (number : ℕ) → AllAgree parts streams →
    SomeAgree (part_numbered number parts) (stream_numbered number streams)
SomeAgree-numbered [] [] number each = tt
SomeAgree-numbered [] (s ∷ ss) number each = absurd each
SomeAgree-numbered (part ∷ parts) [] number each = absurd each
SomeAgree-numbered (part ∷ parts) (s ∷ ss) number each =
    let same : (number == s.number) ≡ (number == part.id.0) = ap (λ n. number == n) (sym each.0.number) in
    elim (cases_Bool (number == part.id.0)) [
      | inl found ↦ rw (same, found) each.0
      | inr other ↦ rw (same, other) (SomeAgree-numbered parts ss number each.1)
    ]

-- what the catalog finds
pub id_of-named : (name : List ℕ) (parts : List StreamParts) →
    id_of name (map entry_of parts) ≡ option_map (λ part. part.id) (part_named name parts)
id_of-named name [] = refl
id_of-named name (part ∷ parts) = elim (cases_Bool (same_name name part.name)) [
  | inl same ↦ rw same refl
  | inr other ↦ rw (other, id_of-named name parts) refl
]

abbrev id_or : StreamId → Option StreamId → StreamId
id_or d None = d
id_or d (Some id) = id

-- what the catalog finds by a name, the number finds too
pub record IsFoundBy (name : List ℕ) (parts : List StreamParts) (id : StreamId) : Type 0 where
  pub same : part_numbered id.0 parts ≡ part_named name parts
  pub stands : IsSome (part_numbered id.0 parts)

IsFoundBy-named : (name : List ℕ) (id : StreamId) (parts : List StreamParts) (o : Option StreamParts) → IsStrictlyIncreasing (numbers_held parts) →
    part_named name parts ≡ o → option_map (λ (part : StreamParts). part.id) o ≡ Some id → IsFoundBy name parts id
IsFoundBy-named name id parts None rising named found = cc
IsFoundBy-named name id parts (Some part) rising named found =
    let number : part.id.0 ≡ id.0 = ap (λ o. (id_or id o).0) found in
    let at : slice_get parts (position_or_len (λ (p : StreamParts). same_name name p.name) parts) ≡ Some part =
    sym (find_at (λ (p : StreamParts). same_name name p.name) parts) ∙ named in
    let numbered = subst (λ n. part_numbered n parts ≡ Some part) number (part_numbered-at parts _ part rising at) in
    record { same = numbered ∙ sym named; stands = rw numbered refl }

pub IsFoundBy-find : (name : List ℕ) (parts : List StreamParts) (catalog : List (List ℕ × StreamId)) (o : Option StreamId) →
    IsStrictlyIncreasing (numbers_held parts) → catalog ≡ map entry_of parts → o ≡ id_of name catalog → IfSome o (IsFoundBy name parts)
IsFoundBy-find name parts catalog None rising listed found = tt
IsFoundBy-find name parts catalog (Some id) rising listed found =
    IsFoundBy-named name id parts (part_named name parts) rising refl
    (sym (id_of-named name parts) ∙ ap (λ names. id_of name names) (sym listed) ∙ sym found)

pub IfSome-weaker : {X : Type 0} (P Q : X → Type 0) (o : Option X) → ((x : X) → P x → Q x) → IfSome o P → IfSome o Q
IfSome-weaker P Q None weaker given = tt
IfSome-weaker P Q (Some x) weaker given = weaker x given

-- a stream that is held stands, and one that stands is held
is_some-SomeAgree : (o : Option StreamParts) (p : Option Stream) → SomeAgree o p → is_some o ≡ is_some p
is_some-SomeAgree None None agree = refl
is_some-SomeAgree None (Some s) agree = absurd agree
is_some-SomeAgree (Some part) None agree = absurd agree
is_some-SomeAgree (Some part) (Some s) agree = refl

pub is_some-option_map : {X Y : Type 0} (f : X → Y) (o : Option X) → is_some (option_map f o) ≡ is_some o
is_some-option_map f None = refl
is_some-option_map f (Some x) = refl

-- the catalog has a name where a stream of it is held
pub is_some-listed : (name : List ℕ) (parts : List StreamParts) (catalog : List (List ℕ × StreamId)) → catalog ≡ map entry_of parts →
    is_some (id_of name catalog) ≡ is_some (part_named name parts)
is_some-listed name parts catalog listed =
    ap (λ names. is_some (id_of name names)) listed ∙ ap is_some (id_of-named name parts)
    ∙ is_some-option_map (λ (part : StreamParts). part.id) (part_named name parts)

pub stands-held : (name : List ℕ) (parts : List StreamParts) (streams : List Stream) → AllAgree parts streams →
    is_some (part_named name parts) ≡ stands name streams
stands-held name parts streams each =
    is_some-SomeAgree (part_named name parts) (stream_named name streams) (SomeAgree-named parts streams name each)

pub numbers-AllAgree : (parts : List StreamParts) (streams : List Stream) → AllAgree parts streams → numbers_held parts ≡ numbers_of streams
numbers-AllAgree [] [] each = refl
numbers-AllAgree [] (s ∷ ss) each = absurd each
numbers-AllAgree (part ∷ parts) [] each = absurd each
numbers-AllAgree (part ∷ parts) (s ∷ ss) each = rw (each.0.number, numbers-AllAgree parts ss each.1) refl

-- the place of the stream of a name
pub record IsAtPlace (name : List ℕ) (place : ℕ) (parts : List StreamParts) (part : StreamParts) : Type 0 where
  pub named : part_named name parts ≡ Some part
  pub at : slice_get parts place ≡ Some part

-- a part, and the stream that stands at its place
pub record IsPair (parts : List StreamParts) (streams : List Stream) (place : ℕ) (part : StreamParts) : Type 0 where
  pub stream : Stream
  pub here : slice_get streams place ≡ Some stream
  pub agrees : Agrees part stream
  pub is : IsStream stream

pub IsPair-at : (parts : List StreamParts) (streams : List Stream) (place : ℕ) (part : StreamParts) → AllAgree parts streams → IsState streams →
    slice_get parts place ≡ Some part → IsPair parts streams place part
IsPair-at parts streams place part each state at =
    let found = Agrees-at parts streams place part each at in
    record { stream = found.0; here = found.1; agrees = found.2; is = IsStream-at streams place found.0 state found.1 }

-- what is found alike stands at one place
position-alike : (p : StreamParts → Bool) (q : Stream → Bool) → ((part : StreamParts) (s : Stream) → Agrees part s → p part ≡ q s) →
    (parts : List StreamParts) (streams : List Stream) → AllAgree parts streams → position_or_len p parts ≡ position_or_len q streams
position-alike p q alike [] [] each = refl
position-alike p q alike [] (s ∷ ss) each = absurd each
position-alike p q alike (part ∷ parts) [] each = absurd each
position-alike p q alike (part ∷ parts) (s ∷ ss) each =
    let same : p part ≡ q s = alike part s each.0 in
    rw (same, position-alike p q alike parts ss each.1) refl

-- a part and its stream, which both are found
pub record AreFound (parts : List StreamParts) (streams : List Stream) (part : StreamParts) (found : Option Stream) : Type 0 where
  pub place : ℕ
  pub at : slice_get parts place ≡ Some part
  pub stream : Stream
  pub here : slice_get streams place ≡ Some stream
  pub found_is : found ≡ Some stream
  pub agrees : Agrees part stream
  pub is : IsStream stream

AreFound-alike : (p : StreamParts → Bool) (q : Stream → Bool) → ((part : StreamParts) (s : Stream) → Agrees part s → p part ≡ q s) →
    (parts : List StreamParts) (streams : List Stream) (part : StreamParts) → AllAgree parts streams → IsState streams →
    find p parts ≡ Some part → AreFound parts streams part (find q streams)
AreFound-alike p q alike parts streams part each state found =
    let place = position_or_len p parts in
    let at : slice_get parts place ≡ Some part = sym (find_at p parts) ∙ found in
    let pair = IsPair-at parts streams place part each state at in
    record {
      place = place;
      at = at;
      stream = pair.stream;
      here = pair.here;
      found_is = find_at q streams ∙ ap (λ k. slice_get streams k) (sym (position-alike p q alike parts streams each)) ∙ pair.here;
      agrees = pair.agrees;
      is = pair.is;
    }

pub AreFound-named : (parts : List StreamParts) (streams : List Stream) (name : List ℕ) (part : StreamParts) → AllAgree parts streams → IsState streams →
    part_named name parts ≡ Some part → AreFound parts streams part (stream_named name streams)
AreFound-named parts streams name part each state found =
    AreFound-alike (λ (p : StreamParts). same_name name p.name) (λ (s : Stream). same_name name s.name)
    (λ p s agrees. ap (λ n. same_name name n) agrees.name) parts streams part each state found

pub AreFound-numbered : (parts : List StreamParts) (streams : List Stream) (number : ℕ) (part : StreamParts) → AllAgree parts streams → IsState streams →
    part_numbered number parts ≡ Some part → AreFound parts streams part (stream_numbered number streams)
AreFound-numbered parts streams number part each state found =
    AreFound-alike (λ (p : StreamParts). number == p.id.0) (λ (s : Stream). number == s.number)
    (λ p s agrees. ap (λ n. number == n) agrees.number) parts streams part each state found
