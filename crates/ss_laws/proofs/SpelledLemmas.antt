-- What the spelling of a live record has: bytes, of which four are left for the check, and some that aren't 0 at three places.
use Rattle.std.proofs.Common.{◌≡◌, ◌≢◌, ◌∙◌, refl, sym, ap, ℕ, ◌+◌, ◌-◌, ◌^◌, ◌<◌, ◌≤◌, true, false, Bool, List, [], ◌∷◌, ◌++◌, length, take, drop, get_or}
use Rattle.std.proofs.Common.{arith, lit<, lit≤, inl, inr, None, Some, Option}
use Rattle.std.specs.Prelude.{IsTrue, if◌then◌else◌, replicate, slice_index}
use Rattle.std.specs.Int.{cast_unsigned, w64, w128}
use Rattle.std.specs.List.{list_all}
use Rattle.std.proofs.lemmas.Bool.{cases_eq}
use Rattle.std.proofs.lemmas.Bool.Decides.{nat_tests}
use Rattle.std.proofs.lemmas.List.{drop-drop, drop-take, drop_at, length-append, length-drop, length-replicate, length-take-le, take-take}
use Rattle.std.proofs.lemmas.List.Elements.{All-append, All-cons, All-drop, All-from_get_or, All-nil, All-replicate, All-take}
use Rattle.std.proofs.lemmas.List.Sums.{AllPass-from_list_all}
use Rattle.ss_catalog.specs.Names.{is_name, is_name_byte}
use Rattle.ss_catalog.specs.Params.{in_range, is_family, step_number}
use Rattle.ss_catalog.specs.declared.params.Family.{Family}
use Rattle.ss_catalog.specs.declared.params.Family.TheVariants.{Exp, Power}
use Rattle.ss_catalog.specs.declared.params.Params.{Params}
use Rattle.ss_checksum.specs.Changes.{number_of_bytes}
use Rattle.ss_checksum.proofs.ChangeLemmas.{AreBytes}
use Rattle.ss_codec.specs.declared.record.Record.{Record}
use Rattle.ss_codec.specs.declared.record.Record.TheVariants.{Free, Stream, Window, Landmark, Value}
use Rattle.ss_codec.specs.Fields.{Field, with_field, with_fields}
use Rattle.ss_codec.specs.Record.{closing_time, drop_number, family, fields, filter_number, is_full, is_valid, parameters, spelling, state_number, word_spelled}
use Rattle.ss_codec.proofs.FieldLemmas.{AreInOrder, length-with_fields, part, slice_index-part}
use Rattle.ss_codec.proofs.FieldOrder.{byte-within, landmark-in_order, number-within, stream-in_order, value-in_order, window-in_order}
use Rattle.ss_codec.proofs.ParameterLemmas.{AreSmall-in_range}
use Rattle.ss_codec.proofs.RecordLemmas.{IsLandmark-is_valid, IsStream-is_valid, IsValue-is_valid, IsWindow-is_valid, spelled}
use Rattle.ss_fields.specs.Fields.{number_bytes}
use Rattle.ss_fields.proofs.FieldLemmas.{length-number_bytes, number_at-take}
use Rattle.ss_summary.specs.declared.filter.Filter.{Filter}
use Rattle.ss_laws.proofs.FormLemmas.{AreBytes-number_bytes}
use Rattle.ss_laws.proofs.NumberLemmas.{zeros-none}

-- some bytes aren't 0 at three places that lie one behind the other: at the first, and the last far from it
pub record IsSpread (xs : List ℕ) : Type 0 where
  pub kind : slice_index xs 0 ≡ 0 → ⊥
  pub place : ℕ
  pub size : ℕ
  pub last : ℕ
  pub width : ℕ
  pub far : ℕ
  pub order : 0 < place
  pub behind : place + size ≤ last
  pub inside : last + width ≤ 124
  pub few : far ≤ 8
  pub middle : 0 < number_of_bytes (part size place xs)
  pub end : 0 < number_of_bytes (part width last xs)
  pub ninth : 0 < number_of_bytes (part far 8 xs)

part-is : (n at : ℕ) (xs : List ℕ) → at + n ≤ 124 → part n at xs ≡ drop at (take (at + n) (take 124 xs))
part-is n at xs inside = sym (drop-take at n xs) ∙ ap (drop at) (sym (take-take (at + n) 124 xs inside))

-- the parts before the check are the same where all before it is
part-same : (n at : ℕ) (xs ys : List ℕ) → at + n ≤ 124 → take 124 ys ≡ take 124 xs → part n at xs ≡ part n at ys
part-same n at xs ys inside same =
    part-is n at xs inside ∙ ap (λ (front : List ℕ). drop at (take (at + n) front)) (sym same) ∙ sym (part-is n at ys inside)

first-same : (xs ys : List ℕ) → take 124 ys ≡ take 124 xs → slice_index ys 0 ≡ slice_index xs 0
first-same [] [] same = refl
first-same [] (y ∷ ys) same = absurd cc
first-same (x ∷ xs) [] same = absurd cc
first-same (x ∷ xs) (y ∷ ys) same = ap (λ (front : List ℕ). slice_index front 0) same

pub IsSpread-same : (xs ys : List ℕ) → take 124 ys ≡ take 124 xs → IsSpread xs → IsSpread ys
IsSpread-same xs ys same spread =
    let order = spread.behind in
    let inside = spread.inside in
    let few = spread.few in
    record {
      kind = λ none. spread.kind (sym (first-same xs ys same) ∙ none);
      place = spread.place;
      size = spread.size;
      last = spread.last;
      width = spread.width;
      far = spread.far;
      order = spread.order;
      behind = order;
      inside = inside;
      few = few;
      middle = rw (← part-same spread.size spread.place xs ys (omega (arith, order, inside)) same) spread.middle;
      end = rw (← part-same spread.width spread.last xs ys inside same) spread.end;
      ninth = rw (← part-same spread.far 8 xs ys (omega (arith, few)) same) spread.ninth;
    }

-- a field of a number that isn't 0 has a byte that isn't
some-number : (n at x : ℕ) (xs : List ℕ) → 0 < x → x < 256 ^ n → number_bytes n 0 ≡ replicate n 0 → 0 < 256 ^ n → part n at xs ≡ number_bytes n x
    → 0 < number_of_bytes (part n at xs)
some-number n at x xs some fits zeros room is = elim (cases_eq (number_of_bytes (part n at xs)) 0) [
  | inl none ↦
      let size : length (part n at xs) ≡ n = ap length is ∙ length-number_bytes n x in
      let free : part n at xs ≡ number_bytes n 0 = zeros-none (part n at xs) none ∙ ap (λ (k : ℕ). replicate k 0) size ∙ sym zeros in
      absurd (omega (arith, some, number_at-take n at x xs fits is, number_at-take n at 0 xs room free))
  | inr other ↦ omega (arith, other)
]

zeros-four : number_bytes 4 0 ≡ replicate 4 0
unfolding number_bytes
zeros-four = refl

zeros-eight : number_bytes 8 0 ≡ replicate 8 0
unfolding number_bytes
zeros-eight = refl

some-four : (at x : ℕ) (xs : List ℕ) → 0 < x → x < 2 ^ 32 → part 4 at xs ≡ number_bytes 4 x → 0 < number_of_bytes (part 4 at xs)
some-four at x xs some fits is = some-number 4 at x xs some (omega (arith, fits)) zeros-four (lit< tt) is

some-eight : (at x : ℕ) (xs : List ℕ) → 0 < x → x < 2 ^ 64 → part 8 at xs ≡ number_bytes 8 x → 0 < number_of_bytes (part 8 at xs)
some-eight at x xs some fits is = some-number 8 at x xs some (omega (arith, fits)) zeros-eight (lit< tt) is

-- so has a field of one byte
some-one : (at x : ℕ) (xs : List ℕ) → 0 < x → part 1 at xs ≡ x ∷ [] → 0 < number_of_bytes (part 1 at xs)
some-one at x xs some is = omega (arith, some, ap number_of_bytes is)

kind-some : (x : ℕ) (xs : List ℕ) → 0 < x → part 1 0 xs ≡ x ∷ [] → slice_index xs 0 ≡ 0 → ⊥
kind-some x xs some is none = omega (arith, some, none, slice_index-part 0 x xs is)

family-some : (f : Family) → 0 < family f
family-some (Exp b r s) = lit< tt
family-some (Power p q r s) = lit< tt

state-some : (finish : Option ℕ) → 0 < state_number finish
state-some None = lit< tt
state-some (Some finish) = lit< tt

parameter-some : (params : Params) → in_range params ≡ true → 0 < (parameters params.family).0
parameter-some params ranged = of_family params.family (grind (arith, nat_tests))
  where
    of_family : (f : Family) → is_family f ≡ true → 0 < (parameters f).0
    of_family (Exp b r s) is = grind (arith, nat_tests)
    of_family (Power p q r s) is = grind (arith, nat_tests)

pub IsSpread-spelling : (r : Record) → IsTrue (is_valid r) → r ≢ Free → IsSpread (spelling r)
IsSpread-spelling Free valid live = absurd (live refl)
IsSpread-spelling (Stream id name params dropped) valid live =
    let xs = spelling (Stream id name params dropped) in
    let is = IsStream-is_valid id name params dropped valid in
    let has = spelled (Stream id name params dropped) (stream-in_order id name params dropped is.short) in
    let first : 0 < number_of_bytes (part 4 8 xs) =
    some-four 8 (parameters params.family).0 xs (parameter-some params is.ranged) (AreSmall-in_range params is.ranged).first has.1.1.1.1.1.0 in
    record {
      kind = kind-some 1 xs (lit< tt) has.0;
      place = 1;
      size = 1;
      last = 8;
      width = 4;
      far = 4;
      order = lit< tt;
      behind = lit≤ tt;
      inside = lit≤ tt;
      few = lit≤ tt;
      middle = some-one 1 (family params.family) xs (family-some params.family) has.1.0;
      end = first;
      ninth = first;
    }
IsSpread-spelling (Window id first f) valid live =
    let xs = spelling (Window id first f) in
    let is = IsWindow-is_valid id first f valid in
    let possible = is.possible in
    let has = spelled (Window id first f) (window-in_order id first f) in
    let from : 0 < number_of_bytes (part 8 8 xs) =
    some-eight 8 first xs (omega (arith, is.low)) (omega (arith, is.high, possible.count_low)) has.1.1.1.0 in
    record {
      kind = kind-some 2 xs (lit< tt) has.0;
      place = 8;
      size = 8;
      last = 16;
      width = 8;
      far = 8;
      order = lit< tt;
      behind = lit≤ tt;
      inside = lit≤ tt;
      few = lit≤ tt;
      middle = from;
      end = some-eight 16 f.count xs (omega (arith, possible.count_low)) (omega (arith, possible.count_high)) has.1.1.1.1.0;
      ninth = from;
    }
IsSpread-spelling (Landmark id number values start finish) valid live =
    let xs = spelling (Landmark id number values start finish) in
    let is = IsLandmark-is_valid id number values start finish valid in
    let has = spelled (Landmark id number values start finish) (landmark-in_order id number values start finish) in
    let numbered : 0 < number_of_bytes (part 4 8 xs) = some-four 8 number xs (omega (arith, is.low)) is.high has.1.1.1.0 in
    record {
      kind = kind-some 3 xs (lit< tt) has.0;
      place = 1;
      size = 1;
      last = 8;
      width = 4;
      far = 4;
      order = lit< tt;
      behind = lit≤ tt;
      inside = lit≤ tt;
      few = lit≤ tt;
      middle = some-one 1 (state_number finish) xs (state-some finish) has.1.0;
      end = numbered;
      ninth = numbered;
    }
IsSpread-spelling (Value id number index t v) valid live =
    let xs = spelling (Value id number index t v) in
    let is = IsValue-is_valid id number index t v valid in
    let has = spelled (Value id number index t v) (value-in_order id number index t v) in
    let numbered : 0 < number_of_bytes (part 4 8 xs) = some-four 8 number xs (omega (arith, is.low)) is.high has.1.1.0 in
    record {
      kind = kind-some 4 xs (lit< tt) has.0;
      place = 8;
      size = 4;
      last = 12;
      width = 4;
      far = 4;
      order = lit< tt;
      behind = lit≤ tt;
      inside = lit≤ tt;
      few = lit≤ tt;
      middle = numbered;
      end = some-four 12 index xs (omega (arith, is.index_low)) is.index_high has.1.1.1.0;
      ninth = numbered;
    }

-- a field leaves what stands behind it
drop-with_field : (end : ℕ) (f : Field) (bytes : List ℕ) → length f.bytes ≡ f.size → f.place + f.size ≤ end → end ≤ length bytes
    → (drop end (with_field bytes f) ≡ drop end bytes) × (length (with_field bytes f) ≡ length bytes)
unfolding with_field
drop-with_field end f bytes whole inside long =
    let front : List ℕ = take f.place bytes ++ f.bytes in
    let place = f.place + f.size in
    let size : length front ≡ place =
    length-append (take f.place bytes) f.bytes ∙ omega (arith, length-take-le f.place bytes (omega (arith, inside, long)), whole) in
    let parts : end ≡ place + (end - place) = omega (arith, inside) in
    let all : List ℕ = front ++ drop place bytes in (
      ap (λ (n : ℕ). drop n all) parts
          ∙ sym (drop-drop (end - place) place all)
          ∙ ap (drop (end - place)) (drop_at front (drop place bytes) place size)
          ∙ drop-drop (end - place) place bytes
          ∙ ap (λ (n : ℕ). drop n bytes) (sym parts),
      length-append front (drop place bytes) ∙ omega (arith, size, length-drop place bytes, inside, long),
    )

drop-with_fields : (end from : ℕ) (fs : List Field) (bytes : List ℕ) → AreInOrder end from fs → end ≤ length bytes
    → drop end (with_fields bytes fs) ≡ drop end bytes
drop-with_fields end from [] bytes order long = refl
drop-with_fields end from (f ∷ fs) bytes order long =
    let here = drop-with_field end f bytes order.1.whole order.1.inside long in
    drop-with_fields end (f.place + f.size) fs (with_field bytes f) order.2 (omega (arith, here.1, long)) ∙ here.0

-- the fields of a stream end before the check
stream-before_check : (id : ℕ) (name : List ℕ) (params : Params) (dropped : Bool) → length name ≤ 32
    → AreInOrder 124 0 (fields (Stream id name params dropped))
stream-before_check id name params dropped short =
    let numbers = parameters params.family in (
      lit≤ tt,
      byte-within 124 0 1 (lit≤ tt),
      (
        lit≤ tt,
        byte-within 124 1 (family params.family) (lit≤ tt),
        (
          lit≤ tt,
          byte-within 124 2 (length name) (lit≤ tt),
          (
            lit≤ tt,
            byte-within 124 3 (drop_number dropped) (lit≤ tt),
            (
              lit≤ tt,
              number-within 124 4 4 id (lit≤ tt),
              (
                lit≤ tt,
                number-within 124 4 8 numbers.0 (lit≤ tt),
                (
                  lit≤ tt,
                  number-within 124 4 12 numbers.1 (lit≤ tt),
                  (
                    lit≤ tt,
                    number-within 124 4 16 numbers.2 (lit≤ tt),
                    (
                      lit≤ tt,
                      number-within 124 4 20 numbers.3 (lit≤ tt),
                      (
                        lit≤ tt,
                        record { whole = refl; inside = omega (arith, short) },
                        (
                          omega (arith, short),
                          number-within 124 4 56 (step_number params.within) (lit≤ tt),
                          tt,
                        ),
                      ),
                    ),
                  ),
                ),
              ),
            ),
          ),
        ),
      ),
    )

pub end-spelling : (r : Record) → IsTrue (is_valid r) → drop 124 (spelling r) ≡ replicate 4 0
unfolding spelling with_field number_bytes
end-spelling Free valid = refl
end-spelling (Stream id name params dropped) valid =
    let is = IsStream-is_valid id name params dropped valid in
    drop-with_fields 124 0 (fields (Stream id name params dropped)) (replicate 128 0) (stream-before_check id name params dropped is.short) (lit≤ tt)
end-spelling (Window id first f) valid = refl
end-spelling (Landmark id number values start finish) valid = refl
end-spelling (Value id number index t v) valid = refl

-- fields of bytes, written over bytes
abbrev FieldsAreBytes : List Field → Type 0
FieldsAreBytes [] = Unit
FieldsAreBytes (f ∷ fs) = AreBytes f.bytes × FieldsAreBytes fs

AreBytes-with_fields : (fs : List Field) (bytes : List ℕ) → AreBytes bytes → FieldsAreBytes fs → AreBytes (with_fields bytes fs)
unfolding with_field
AreBytes-with_fields [] bytes are each = are
AreBytes-with_fields (f ∷ fs) bytes are each =
    let P : ℕ → Type 0 = λ b. b < 2 ^ 8 in
    let front = All-append P (take f.place bytes) f.bytes (All-take P f.place bytes are) each.0 in
    let here = All-append P (take f.place bytes ++ f.bytes) (drop (f.place + f.size) bytes) front (All-drop P (f.place + f.size) bytes are) in
    AreBytes-with_fields fs (with_field bytes f) here each.1

one : (x : ℕ) → x < 2 ^ 8 → AreBytes (x ∷ [])
one x few = All-cons (λ b. b < 2 ^ 8) x [] few (All-nil (λ b. b < 2 ^ 8))

family-few : (f : Family) → family f < 2 ^ 8
family-few (Exp b r s) = lit< tt
family-few (Power p q r s) = lit< tt

state-few : (finish : Option ℕ) → state_number finish < 2 ^ 8
state-few None = lit< tt
state-few (Some finish) = lit< tt

drop-few : (dropped : Bool) → drop_number dropped < 2 ^ 8
drop-few true = lit< tt
drop-few false = lit< tt

filter-few : (f : Filter) → filter_number f < 2 ^ 8
filter-few f = few (is_full f)
  where
    few : (b : Bool) → (if b then 0 else 1) < 2 ^ 8
    few true = lit< tt
    few false = lit< tt

name_byte-few : (b : ℕ) → is_name_byte b ≡ true → b < 2 ^ 8
name_byte-few b may = grind (arith, nat_tests)

AreBytes-name : (name : List ℕ) → is_name name ≡ true → AreBytes name
unfolding is_name
AreBytes-name name is =
    let all : list_all is_name_byte name ≡ true = grind (arith, nat_tests) in
    All-from_get_or (λ b. b < 2 ^ 8) name 0 (λ i lt. name_byte-few (get_or name i 0) (AllPass-from_list_all is_name_byte name all i 0 lt))

each_field : (r : Record) → IsTrue (is_valid r) → FieldsAreBytes (fields r)
each_field Free valid = tt
each_field (Stream id name params dropped) valid =
    let is = IsStream-is_valid id name params dropped valid in
    let numbers = parameters params.family in (
      one 1 (lit< tt),
      (
        one (family params.family) (family-few params.family),
        (
          one (length name) (omega (arith, is.short)),
          (
            one (drop_number dropped) (drop-few dropped),
            (
              AreBytes-number_bytes 4 id,
              (
                AreBytes-number_bytes 4 numbers.0,
                (
                  AreBytes-number_bytes 4 numbers.1,
                  (
                    AreBytes-number_bytes 4 numbers.2,
                    (AreBytes-number_bytes 4 numbers.3, (AreBytes-name name is.named, (AreBytes-number_bytes 4 (step_number params.within), tt))),
                  ),
                ),
              ),
            ),
          ),
        ),
      ),
    )
each_field (Window id first f) valid = (
  one 2 (lit< tt),
  (
    one (filter_number f.filter) (filter-few f.filter),
    (
      AreBytes-number_bytes 4 id,
      (
        AreBytes-number_bytes 8 first,
        (
          AreBytes-number_bytes 8 f.count,
          (
            AreBytes-number_bytes 16 (cast_unsigned w128 f.sum),
            (
              AreBytes-number_bytes 8 (cast_unsigned w64 f.min),
              (
                AreBytes-number_bytes 8 (cast_unsigned w64 f.max),
                (
                  AreBytes-number_bytes 8 f.t_first,
                  (
                    AreBytes-number_bytes 8 f.t_last,
                    (
                      AreBytes-number_bytes 8 (word_spelled f.filter 0),
                      (
                        AreBytes-number_bytes 8 (word_spelled f.filter 1),
                        (
                          AreBytes-number_bytes 8 (word_spelled f.filter 2),
                          (AreBytes-number_bytes 8 (word_spelled f.filter 3), tt),
                        ),
                      ),
                    ),
                  ),
                ),
              ),
            ),
          ),
        ),
      ),
    ),
  ),
)
each_field (Landmark id n values start finish) valid = (
  one 3 (lit< tt),
  (
    one (state_number finish) (state-few finish),
    (
      AreBytes-number_bytes 4 id,
      (
        AreBytes-number_bytes 4 n,
        (
          AreBytes-number_bytes 4 values,
          (
            AreBytes-number_bytes 8 start,
            (AreBytes-number_bytes 8 (closing_time finish), tt),
          ),
        ),
      ),
    ),
  ),
)
each_field (Value id n index t v) valid = (
  one 4 (lit< tt),
  (
    AreBytes-number_bytes 4 id,
    (
      AreBytes-number_bytes 4 n,
      (
        AreBytes-number_bytes 4 index,
        (AreBytes-number_bytes 8 t, (AreBytes-number_bytes 8 (cast_unsigned w64 v), tt)),
      ),
    ),
  ),
)

pub AreBytes-spelling : (r : Record) → IsTrue (is_valid r) → AreBytes (spelling r)
unfolding spelling
AreBytes-spelling r valid =
    AreBytes-with_fields (fields r) (replicate 128 0) (All-replicate (λ b. b < 2 ^ 8) 128 0 (lit< tt)) (each_field r valid)

order-valid : (r : Record) → IsTrue (is_valid r) → AreInOrder 128 0 (fields r)
order-valid Free valid = tt
order-valid (Stream id name params dropped) valid = stream-in_order id name params dropped (IsStream-is_valid id name params dropped valid).short
order-valid (Window id first f) valid = window-in_order id first f
order-valid (Landmark id n values start finish) valid = landmark-in_order id n values start finish
order-valid (Value id n index t v) valid = value-in_order id n index t v

pub length-spelling : (r : Record) → IsTrue (is_valid r) → length (spelling r) ≡ 128
unfolding spelling
length-spelling r valid = length-with_fields 128 0 (fields r) (replicate 128 0) (length-replicate {A = ℕ} 128 0) (order-valid r valid)
