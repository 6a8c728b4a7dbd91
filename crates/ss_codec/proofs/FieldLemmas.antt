-- Fields that stand one after the other are each where they were written.
use Rattle.std.specs.Prelude.{◌≡◌, ℕ, ◌+◌, ◌-◌, ◌≤◌, List, [], ◌∷◌, ◌++◌, length, take, drop, slice_index}
use Rattle.std.proofs.Common.{arith, refl, sym, ap, ◌∙◌}
use Rattle.std.proofs.lemmas.List.{append_assoc, length-append, length-drop, length-take-le, take_at, take-append-le, take-take, drop_at}
use Rattle.std.proofs.lemmas.List.{drop-append-le, drop-take, get_or-take, get_or-drop}
use Rattle.ss_codec.specs.Fields.{Field, with_field, with_fields}

-- the n bytes from a place
abbrev pub part : ℕ → ℕ → List ℕ → List ℕ
part n at bytes = take n (drop at bytes)

-- a field of its size that lies below the end
pub record IsWithin (end : ℕ) (f : Field) : Type 0 where
  pub whole : length f.bytes ≡ f.size
  pub inside : f.place + f.size ≤ end

-- fields one after the other, the first at `from` or later
abbrev pub AreInOrder : ℕ → ℕ → List Field → Type 0
AreInOrder end from [] = Unit
AreInOrder end from (f ∷ fs) = (from ≤ f.place) × IsWithin end f × AreInOrder end (f.place + f.size) fs

-- the bytes have each of the fields at its place
abbrev pub HasFields : List ℕ → List Field → Type 0
HasFields bytes [] = Unit
HasFields bytes (f ∷ fs) = (part f.size f.place bytes ≡ f.bytes) × HasFields bytes fs

length-with_field : (f : Field) (bytes : List ℕ) → length f.bytes ≡ f.size → f.place + f.size ≤ length bytes
    → length (with_field bytes f) ≡ length bytes
unfolding with_field
length-with_field f bytes whole inside =
    let front = length-take-le f.place bytes (omega arith) in
    let rest = length-drop (f.place + f.size) bytes in
    simp length-append (omega arith)

-- a field is where it was written
part-with_field : (f : Field) (bytes : List ℕ) → length f.bytes ≡ f.size → f.place + f.size ≤ length bytes
    → part f.size f.place (with_field bytes f) ≡ f.bytes
unfolding with_field
part-with_field f bytes whole inside =
    let front = length-take-le f.place bytes (omega arith) in
    rw (append_assoc, drop_at (take f.place bytes) (f.bytes ++ drop (f.place + f.size) bytes) f.place front)
    (take_at f.bytes (drop (f.place + f.size) bytes) f.size whole)

-- the n bytes before a part that was written over
part-before : (n at m : ℕ) (bytes others : List ℕ) → at + n ≤ m → m ≤ length bytes → part n at (take m bytes ++ others) ≡ part n at bytes
part-before n at m bytes others before inside =
    let front = length-take-le m bytes inside in
    let first = drop-append-le at (take m bytes) others (omega arith) in
    let rest = length-drop at (take m bytes) in
    let second = take-append-le n (drop at (take m bytes)) others (omega arith) in
    let split : m ≡ at + (m - at) = omega arith in
    let third = ap (λ (k : ℕ). drop at (take k bytes)) split ∙ drop-take at (m - at) bytes in
    ap (take n) first ∙ second ∙ ap (take n) third ∙ take-take n (m - at) (drop at bytes) (omega arith)

-- fields leave what stands before them
part-before_fields : (n at end from : ℕ) (fs : List Field) (bytes : List ℕ) → length bytes ≡ end → at + n ≤ from → AreInOrder end from fs
    → part n at (with_fields bytes fs) ≡ part n at bytes
unfolding with_field
part-before_fields n at end from [] bytes long before order = refl
part-before_fields n at end from (f ∷ fs) bytes long before order =
    let low = order.0 in
    let whole = order.1.whole in
    let inside = order.1.inside in
    let kept = length-with_field f bytes whole (omega arith) in
    part-before_fields n at end (f.place + f.size) fs (with_field bytes f) (kept ∙ long) (omega arith) order.2
    ∙ ap (part n at) (append_assoc (take f.place bytes) f.bytes (drop (f.place + f.size) bytes))
    ∙ part-before n at f.place bytes (f.bytes ++ drop (f.place + f.size) bytes) (omega arith) (omega arith)

-- bytes over which fields were written one after the other have all of them
pub HasFields-with_fields : (end from : ℕ) (fs : List Field) (bytes : List ℕ) → length bytes ≡ end → AreInOrder end from fs
    → HasFields (with_fields bytes fs) fs
HasFields-with_fields end from [] bytes long order = tt
HasFields-with_fields end from (f ∷ fs) bytes long order =
    let whole = order.1.whole in
    let inside = order.1.inside in
    let kept = length-with_field f bytes whole (omega arith) in (
      part-before_fields f.size f.place end (f.place + f.size) fs (with_field bytes f) (kept ∙ long) (omega arith) order.2
          ∙ part-with_field f bytes whole (omega arith),
      HasFields-with_fields end (f.place + f.size) fs (with_field bytes f) (kept ∙ long) order.2,
    )

-- they leave how many bytes there are
pub length-with_fields : (end from : ℕ) (fs : List Field) (bytes : List ℕ) → length bytes ≡ end → AreInOrder end from fs
    → length (with_fields bytes fs) ≡ end
length-with_fields end from [] bytes long order = long
length-with_fields end from (f ∷ fs) bytes long order =
    let inside = order.1.inside in
    let kept = length-with_field f bytes order.1.whole (omega arith) in
    length-with_fields end (f.place + f.size) fs (with_field bytes f) (kept ∙ long) order.2

-- a byte is read from where it stands
pub slice_index-part : (at value : ℕ) (bytes : List ℕ) → part 1 at bytes ≡ value ∷ [] → slice_index bytes at ≡ value
slice_index-part at value bytes there =
    let here : at ≡ at + 0 = omega arith in
    ap (slice_index bytes) here
    ∙ sym (get_or-take 1 (drop at bytes) 0 0 (omega arith) ∙ get_or-drop at bytes 0 0)
    ∙ ap (λ (xs : List ℕ). slice_index xs 0) there
