-- Each valid record is what its spelling is read as.
use Rattle.std.specs.Prelude.{◌≡◌, ◌↔◌, ℕ, ◌+◌, ◌-◌, ◌^◌, ◌<◌, ◌≤◌, ◌==◌, ℤ, Bool, true, false, ◌&&◌, nat_lt, cond, IsTrue, FitsSigned, List}
use Rattle.std.specs.Prelude.{length, replicate, slice_index, take, drop, Option, Some, None, IsSome, IfSome, IfNone, MatchOption}
use Rattle.std.specs.Int.{w64, w128}
use Rattle.std.specs.Str.{bytes_eq}
use Rattle.std.proofs.Common.{arith, refl, sym, ap, ◌∙◌, lit<}
use Rattle.std.proofs.lemmas.List.{length-drop, length-replicate, length-take}
use Rattle.std.proofs.lemmas.Int.{ints}
use Rattle.std.proofs.lemmas.Bool.Decides.{nat_tests}
use Rattle.std.proofs.lemmas.Slice.Eq.{bytes_eq-Decides}
use Rattle.std.proofs.lemmas.Bool.{false_from_ne_true}
use Rattle.ss_fields.specs.Fields.{number_at}
use Rattle.ss_fields.proofs.FieldLemmas.{number_at-take, i64_at-take, i128_at-take}
use Rattle.ss_summary.specs.Figures.{Figures, IsPossible}
use Rattle.ss_summary.specs.Possible.{is_possible, fits_i64}
use Rattle.ss_base.specs.declared.limits.TheConstants.{MOST_VALUES}
use Rattle.ss_summary.proofs.SummaryLemmas.{IsPossible-sum}
use Rattle.ss_summary.proofs.PossibleLemmas.{fits-true, is_possible-tells, true-fits}
use Rattle.ss_catalog.specs.Names.{is_name}
use Rattle.ss_catalog.proofs.NameLemmas.{length-is_name}
use Rattle.ss_catalog.specs.Params.{in_range, step_number}
use Rattle.ss_base.specs.declared.limits.TheConstants.{LAST_TIME}
use Rattle.ss_catalog.specs.declared.params.Params.{Params}
use Rattle.ss_codec.specs.declared.record.Record.{Record}
use Rattle.ss_codec.specs.declared.record.Record.TheVariants.{Free, Stream, Window, Landmark, Value}
use Rattle.ss_codec.specs.Record.{has_small_step, is_interval, is_valid, drop_number, family, filter_number, parameters, state_number, closing_time, fields}
use Rattle.ss_codec.specs.Record.{spelling, word_spelled, Spells}
use Rattle.ss_codec.specs.Decoded.{checked, decoded, finish_in, landmark_in, params_in, record_in, stream_in, value_in, window_in}
use Rattle.ss_codec.proofs.FieldLemmas.{AreInOrder, HasFields, HasFields-with_fields, slice_index-part}
use Rattle.ss_codec.proofs.ParameterLemmas.{AreSmall-in_range, params_in-numbers}
use Rattle.ss_codec.proofs.FilterSpelling.{filter_in-numbers, word_spelled-fits}
use Rattle.ss_codec.proofs.FieldOrder.{landmark-in_order, stream-in_order, value-in_order, window-in_order}

pub four_tests : (a b c d : Bool) → (a && b && c && d) ≡ true → (a ≡ true) × (b ≡ true) × (c ≡ true) × (d ≡ true)
four_tests true true true true all = (refl, refl, refl, refl)
four_tests true true true false all = absurd cc
four_tests true true false d all = absurd cc
four_tests true false c d all = absurd cc
four_tests false b c d all = absurd cc

pub small-test : (n : ℕ) → nat_lt n (2 ^ 32) ≡ true → n < 2 ^ 32
small-test n test = grind (arith, nat_tests)

pub test-small : (n : ℕ) → n < 2 ^ 32 → nat_lt n (2 ^ 32) ≡ true
test-small n small = grind (arith, nat_tests)

-- what a valid stream says
pub record IsStream (id : ℕ) (name : List ℕ) (params : Params) : Type 0 where
  pub number : id < 2 ^ 32
  pub named : is_name name ≡ true
  pub short : length name ≤ 32
  pub ranged : in_range params ≡ true
  pub step_fits : step_number params.within < 2 ^ 32

pub IsStream-is_valid : (id : ℕ) (name : List ℕ) (params : Params) (dropped : Bool) → is_valid (Stream id name params dropped) ≡ true
    → IsStream id name params
unfolding is_valid
IsStream-is_valid id name params dropped valid =
    let tests = four_tests (nat_lt id (2 ^ 32)) (is_name name) (in_range params) (has_small_step params) valid in
    record {
      number = small-test id tests.0;
      named = tests.1;
      short = length-is_name name tests.1;
      ranged = tests.2;
      step_fits = small-test (step_number params.within) tests.3;
    }

pub is_valid-IsStream : (id : ℕ) (name : List ℕ) (params : Params) (dropped : Bool) → id < 2 ^ 32 → is_name name ≡ true
    → in_range params ≡ true → step_number params.within < 2 ^ 32 → is_valid (Stream id name params dropped) ≡ true
unfolding is_valid
is_valid-IsStream id name params dropped number named ranged step_fits =
    rw (test-small id number, named, ranged, test-small (step_number params.within) step_fits) refl

-- what a valid window says
pub record IsWindow (id first : ℕ) (f : Figures) : Type 0 where
  pub number : id < 2 ^ 32
  pub low : 1 ≤ first
  pub high : first + f.count - 1 ≤ MOST_VALUES
  pub possible : IsPossible f

pub IsWindow-is_valid : (id first : ℕ) (f : Figures) → is_valid (Window id first f) ≡ true → IsWindow id first f
unfolding is_valid
IsWindow-is_valid id first f valid =
    let test : is_possible f ≡ true = grind (arith, nat_tests) in
    record {
      number = grind (arith, nat_tests);
      low = grind (arith, nat_tests);
      high = grind (arith, nat_tests);
      possible = (is_possible-tells f).0 test;
    }

pub is_valid-IsWindow : (id first : ℕ) (f : Figures) → id < 2 ^ 32 → 1 ≤ first → first + f.count - 1 ≤ MOST_VALUES → IsPossible f
    → is_valid (Window id first f) ≡ true
unfolding is_valid
is_valid-IsWindow id first f number low high possible =
    let test = (is_possible-tells f).1 possible in
    grind (arith, nat_tests)

-- how many values a landmark has at its times
abbrev pub IsInterval : ℕ → ℕ → Option ℕ → Type 0
IsInterval values start finish =
    MatchOption finish ((values ≡ 0) × (start ≤ LAST_TIME)) (λ finish. (values < 2 ^ 32) × (start ≤ finish) × (finish ≤ LAST_TIME))

IsInterval-is_interval : (values start : ℕ) (finish : Option ℕ) → is_interval values start finish ≡ true → IsInterval values start finish
IsInterval-is_interval values start None test = (grind (arith, nat_tests), grind (arith, nat_tests))
IsInterval-is_interval values start (Some finish) test = (grind (arith, nat_tests), grind (arith, nat_tests), grind (arith, nat_tests))

is_interval-IsInterval : (values start : ℕ) (finish : Option ℕ) → IsInterval values start finish → is_interval values start finish ≡ true
is_interval-IsInterval values start None is = let none = is.0 in let early = is.1 in grind (arith, nat_tests)
is_interval-IsInterval values start (Some finish) is =
    let few = is.0 in
    let order = is.1 in
    let early = is.2 in
    grind (arith, nat_tests)

-- what a valid landmark says
pub record IsLandmark (id number values start : ℕ) (finish : Option ℕ) : Type 0 where
  pub stream : id < 2 ^ 32
  pub low : 1 ≤ number
  pub high : number < 2 ^ 32
  pub interval : IsInterval values start finish

pub IsLandmark-is_valid : (id number values start : ℕ) (finish : Option ℕ) → is_valid (Landmark id number values start finish) ≡ true
    → IsLandmark id number values start finish
unfolding is_valid
IsLandmark-is_valid id number values start finish valid =
    let test : is_interval values start finish ≡ true = grind (arith, nat_tests) in
    record {
      stream = grind (arith, nat_tests);
      low = grind (arith, nat_tests);
      high = grind (arith, nat_tests);
      interval = IsInterval-is_interval values start finish test;
    }

pub is_valid-IsLandmark : (id number values start : ℕ) (finish : Option ℕ) → id < 2 ^ 32 → 1 ≤ number → number < 2 ^ 32
    → IsInterval values start finish → is_valid (Landmark id number values start finish) ≡ true
unfolding is_valid
is_valid-IsLandmark id number values start finish stream low high interval =
    let test = is_interval-IsInterval values start finish interval in
    grind (arith, nat_tests)

-- what a valid value of a landmark says
pub record IsValue (id number index t : ℕ) (v : ℤ) : Type 0 where
  pub stream : id < 2 ^ 32
  pub low : 1 ≤ number
  pub high : number < 2 ^ 32
  pub index_low : 1 ≤ index
  pub index_high : index < 2 ^ 32
  pub early : t ≤ LAST_TIME
  pub fits : FitsSigned w64 v

pub IsValue-is_valid : (id number index t : ℕ) (v : ℤ) → is_valid (Value id number index t v) ≡ true → IsValue id number index t v
unfolding is_valid
IsValue-is_valid id number index t v valid =
    let test : fits_i64 v ≡ true = grind (arith, nat_tests) in
    record {
      stream = grind (arith, nat_tests);
      low = grind (arith, nat_tests);
      high = grind (arith, nat_tests);
      index_low = grind (arith, nat_tests);
      index_high = grind (arith, nat_tests);
      early = grind (arith, nat_tests);
      fits = fits-true v test;
    }

pub is_valid-IsValue : (id number index t : ℕ) (v : ℤ) → id < 2 ^ 32 → 1 ≤ number → number < 2 ^ 32 → 1 ≤ index → index < 2 ^ 32
    → t ≤ LAST_TIME → FitsSigned w64 v → is_valid (Value id number index t v) ≡ true
unfolding is_valid
is_valid-IsValue id number index t v stream low high index_low index_high early fits =
    let test = true-fits v fits in
    grind (arith, nat_tests)

-- the state whose number stands in a byte is read from there
drop_number-read : (dropped : Bool) → (drop_number dropped == 1) ≡ dropped
drop_number-read true = refl
drop_number-read false = refl

-- a stream whose fields stand in the bytes is read from there
stream_in-fields : (id : ℕ) (name : List ℕ) (params : Params) (dropped : Bool) (bytes : List ℕ) → IsStream id name params
    → HasFields bytes (fields (Stream id name params dropped)) → stream_in bytes ≡ Stream id name params dropped
unfolding stream_in
stream_in-fields id name params dropped bytes is has =
    let small = AreSmall-in_range params is.ranged in
    let kind = slice_index-part 1 (family params.family) bytes has.1.0 in
    let size = slice_index-part 2 (length name) bytes has.1.1.0 in
    let state = slice_index-part 3 (drop_number dropped) bytes has.1.1.1.0 in
    let number = number_at-take 4 4 id bytes (omega (arith, is.number)) has.1.1.1.1.0 in
    let first = number_at-take 4 8 (parameters params.family).0 bytes (omega (arith, small.first)) has.1.1.1.1.1.0 in
    let second = number_at-take 4 12 (parameters params.family).1 bytes (omega (arith, small.second)) has.1.1.1.1.1.1.0 in
    let third = number_at-take 4 16 (parameters params.family).2 bytes (omega (arith, small.third)) has.1.1.1.1.1.1.1.0 in
    let fourth = number_at-take 4 20 (parameters params.family).3 bytes (omega (arith, small.fourth)) has.1.1.1.1.1.1.1.1.0 in
    let step = number_at-take 4 56 (step_number params.within) bytes (omega (arith, is.step_fits)) has.1.1.1.1.1.1.1.1.1.1.0 in
    let target = params_in-numbers params 8 56 bytes is.ranged kind first second third fourth step in
    let named : take (slice_index bytes 2) (drop 24 bytes) ≡ name = rw size has.1.1.1.1.1.1.1.1.1.0 in
    let dropped_is : (slice_index bytes 3 == 1) ≡ dropped = rw state (drop_number-read dropped) in
    cc

-- so is a window
window_in-fields : (id first : ℕ) (f : Figures) (bytes : List ℕ) → IsWindow id first f
    → HasFields bytes (fields (Window id first f)) → window_in bytes ≡ Window id first f
unfolding window_in
window_in-fields id first f bytes is has =
    let possible = is.possible in
    let few = possible.count_high in
    let last = possible.last in
    let times = possible.times in
    let some = possible.count_low in
    let high = is.high in
    let sum_small = IsPossible-sum f possible in
    let sum_fits : FitsSigned w128 f.sum = omega (arith, ints) in
    let fits = word_spelled-fits f.filter in
    let kind = slice_index-part 1 (filter_number f.filter) bytes has.1.0 in
    let number = number_at-take 4 4 id bytes (omega (arith, is.number)) has.1.1.0 in
    let first_is = number_at-take 8 8 first bytes (omega arith) has.1.1.1.0 in
    let count = number_at-take 8 16 f.count bytes (omega arith) has.1.1.1.1.0 in
    let sum = i128_at-take 24 f.sum bytes sum_fits has.1.1.1.1.1.0 in
    let min = i64_at-take 40 f.min bytes possible.min_fits has.1.1.1.1.1.1.0 in
    let max = i64_at-take 48 f.max bytes possible.max_fits has.1.1.1.1.1.1.1.0 in
    let t_first = number_at-take 8 56 f.t_first bytes (omega arith) has.1.1.1.1.1.1.1.1.0 in
    let t_last = number_at-take 8 64 f.t_last bytes (omega arith) has.1.1.1.1.1.1.1.1.1.0 in
    let first_word = number_at-take 8 72 (word_spelled f.filter 0) bytes (fits 0 (lit< tt) possible.words) has.1.1.1.1.1.1.1.1.1.1.0 in
    let second_word = number_at-take 8 80 (word_spelled f.filter 1) bytes (fits 1 (lit< tt) possible.words) has.1.1.1.1.1.1.1.1.1.1.1.0 in
    let third_word = number_at-take 8 88 (word_spelled f.filter 2) bytes (fits 2 (lit< tt) possible.words) has.1.1.1.1.1.1.1.1.1.1.1.1.0 in
    let fourth_word = number_at-take 8 96 (word_spelled f.filter 3) bytes (fits 3 (lit< tt) possible.words) has.1.1.1.1.1.1.1.1.1.1.1.1.1.0 in
    let filter = filter_in-numbers f.filter bytes possible.words kind first_word second_word third_word fourth_word in
    λ i. Window (number i) (first_is i) (record {
      count = count i;
      sum = sum i;
      min = min i;
      max = max i;
      t_first = t_first i;
      t_last = t_last i;
      filter = filter i;
    })

-- the numbers of a landmark fit their fields
record AreInFields (values start : ℕ) (finish : Option ℕ) : Type 0 where
  values_fit : values < 2 ^ 32
  start_fits : start < 2 ^ 64
  finish_fits : closing_time finish < 2 ^ 64

AreInFields-IsInterval : (values start : ℕ) (finish : Option ℕ) → IsInterval values start finish → AreInFields values start finish
AreInFields-IsInterval values start None is = record {
  values_fit = omega (arith, is.0);
  start_fits = omega (arith, is.1);
  finish_fits = lit< tt;
}
AreInFields-IsInterval values start (Some finish) is = record {
  values_fit = is.0;
  start_fits = omega (arith, is.1, is.2);
  finish_fits = omega (arith, is.2);
}

-- the closing time whose state and number stand in the bytes is read from there
finish_in-numbers : (finish : Option ℕ) (bytes : List ℕ) → slice_index bytes 1 ≡ state_number finish → number_at 8 bytes 24 ≡ closing_time finish
    → finish_in bytes ≡ finish
unfolding finish_in
finish_in-numbers None bytes kind time = rw kind refl
finish_in-numbers (Some finish) bytes kind time = rw (kind, time) refl

-- so is a landmark
landmark_in-fields : (id number values start : ℕ) (finish : Option ℕ) (bytes : List ℕ) → IsLandmark id number values start finish
    → HasFields bytes (fields (Landmark id number values start finish)) → landmark_in bytes ≡ Landmark id number values start finish
unfolding landmark_in
landmark_in-fields id number values start finish bytes is has =
    let small = AreInFields-IsInterval values start finish is.interval in
    let kind = slice_index-part 1 (state_number finish) bytes has.1.0 in
    let stream = number_at-take 4 4 id bytes (omega (arith, is.stream)) has.1.1.0 in
    let number_is = number_at-take 4 8 number bytes (omega (arith, is.high)) has.1.1.1.0 in
    let values_is = number_at-take 4 12 values bytes (omega (arith, small.values_fit)) has.1.1.1.1.0 in
    let start_is = number_at-take 8 16 start bytes (omega (arith, small.start_fits)) has.1.1.1.1.1.0 in
    let time = number_at-take 8 24 (closing_time finish) bytes (omega (arith, small.finish_fits)) has.1.1.1.1.1.1.0 in
    let finish_is = finish_in-numbers finish bytes kind time in
    λ i. Landmark (stream i) (number_is i) (values_is i) (start_is i) (finish_is i)

-- and a value of one
value_in-fields : (id number index t : ℕ) (v : ℤ) (bytes : List ℕ) → IsValue id number index t v
    → HasFields bytes (fields (Value id number index t v)) → value_in bytes ≡ Value id number index t v
unfolding value_in
value_in-fields id number index t v bytes is has =
    let early = is.early in
    let stream = number_at-take 4 4 id bytes (omega (arith, is.stream)) has.1.0 in
    let number_is = number_at-take 4 8 number bytes (omega (arith, is.high)) has.1.1.0 in
    let index_is = number_at-take 4 12 index bytes (omega (arith, is.index_high)) has.1.1.1.0 in
    let time = number_at-take 8 16 t bytes (omega arith) has.1.1.1.1.0 in
    let v_is = i64_at-take 24 v bytes is.fits has.1.1.1.1.1.0 in
    λ i. Value (stream i) (number_is i) (index_is i) (time i) (v_is i)

-- what a spelling has
pub spelled : (r : Record) → AreInOrder 128 0 (fields r) → HasFields (spelling r) (fields r)
unfolding spelling
spelled r order = HasFields-with_fields 128 0 (fields r) (replicate 128 0) (length-replicate {A = ℕ} 128 0) order

record_in-free : record_in (spelling Free) ≡ Free
unfolding record_in spelling
record_in-free = refl

-- the record that is read from the spelling of a valid record is that record
pub record_in-spelling : (r : Record) → IsTrue (is_valid r) → record_in (spelling r) ≡ r
unfolding record_in
record_in-spelling Free valid = record_in-free
record_in-spelling (Stream id name params dropped) valid =
    let is = IsStream-is_valid id name params dropped valid in
    let has = spelled (Stream id name params dropped) (stream-in_order id name params dropped is.short) in
    let kind = slice_index-part 0 1 (spelling (Stream id name params dropped)) has.0 in
    rw kind (stream_in-fields id name params dropped (spelling (Stream id name params dropped)) is has)
record_in-spelling (Window id first f) valid =
    let is = IsWindow-is_valid id first f valid in
    let has = spelled (Window id first f) (window-in_order id first f) in
    let kind = slice_index-part 0 2 (spelling (Window id first f)) has.0 in
    rw kind (window_in-fields id first f (spelling (Window id first f)) is has)
record_in-spelling (Landmark id number values start finish) valid =
    let is = IsLandmark-is_valid id number values start finish valid in
    let has = spelled (Landmark id number values start finish) (landmark-in_order id number values start finish) in
    let kind = slice_index-part 0 3 (spelling (Landmark id number values start finish)) has.0 in
    rw kind (landmark_in-fields id number values start finish (spelling (Landmark id number values start finish)) is has)
record_in-spelling (Value id number index t v) valid =
    let is = IsValue-is_valid id number index t v valid in
    let has = spelled (Value id number index t v) (value-in_order id number index t v) in
    let kind = slice_index-part 0 4 (spelling (Value id number index t v)) has.0 in
    rw kind (value_in-fields id number index t v (spelling (Value id number index t v)) is has)

-- what an answer that was tested twice says
tested : (b v : Bool) (x r : Record) → cond b (cond v (Some x) None) None ≡ Some r → (b ≡ true) × (v ≡ true) × (x ≡ r)
tested true true x r found = (refl, refl, cc)
tested true false x r found = absurd cc
tested false v x r found = absurd cc

pub Spells-decoded : (bytes : List ℕ) (r : Record) → decoded bytes ≡ Some r → Spells bytes r
unfolding decoded
Spells-decoded bytes r found =
    let tests = tested (bytes_eq (spelling (record_in bytes)) bytes) (is_valid (record_in bytes)) (record_in bytes) r found in
    let same = (bytes_eq-Decides (spelling (record_in bytes)) bytes).0 tests.0 in
    record { valid = rw (← tests.2) tests.1; spelled = sym same ∙ ap spelling tests.2 }

pub decoded-spelling : (r : Record) → IsTrue (is_valid r) → decoded (spelling r) ≡ Some r
unfolding decoded
decoded-spelling r valid =
    let same = (bytes_eq-Decides (spelling r) (spelling r)).1 refl in
    rw (record_in-spelling r valid, same, valid) refl

pub decoded-Spells : (bytes : List ℕ) (r : Record) → Spells bytes r → decoded bytes ≡ Some r
decoded-Spells bytes r spells = ap decoded spells.spelled ∙ decoded-spelling r spells.valid

-- an answer that is what is decoded says what the bytes spell
pub some-decoded : (found : Option Record) (bytes : List ℕ) → found ≡ decoded bytes → IfSome found (λ r. Spells bytes r)
some-decoded (Some r) bytes is = Spells-decoded bytes r (sym is)
some-decoded None bytes is = tt

pub none-decoded : (found : Option Record) (bytes : List ℕ) → found ≡ decoded bytes → IfNone found ((r : Record) → ¬ Spells bytes r)
none-decoded (Some r) bytes is = tt
none-decoded None bytes is = λ r spells. cc (is, decoded-Spells bytes r spells)

pub same-spelling : (r s : Record) → IsTrue (is_valid r) → IsTrue (is_valid s) → spelling r ≡ spelling s → r ≡ s
same-spelling r s valid_r valid_s same =
    sym (record_in-spelling r valid_r) ∙ ap record_in same ∙ record_in-spelling s valid_s

-- an answer that is there exactly where the figures are possible is what the test of them gives
pub tested_figures : (found : Option Figures) (f : Figures) → (IsSome found ↔ IsPossible f) → IfSome found (λ g. g ≡ f)
    → found ≡ cond (is_possible f) (Some f) None
tested_figures (Some g) f possible is =
    let test = (is_possible-tells f).1 (possible.0 refl) in
    rw (test, is) refl
tested_figures None f possible is =
    let no : is_possible f ≡ false = false_from_ne_true (is_possible f) (λ test. absurd (cc (possible.1 ((is_possible-tells f).0 test)))) in
    rw no refl

-- a stream whose name would be too long is none
pub checked-long : (bytes : List ℕ) → length bytes ≡ 128 → 32 < slice_index bytes 2 → checked (stream_in bytes) ≡ None
unfolding stream_in
checked-long bytes long more =
    let word = take (slice_index bytes 2) (drop 24 bytes) in
    let size = length-take (slice_index bytes 2) (drop 24 bytes) in
    let rest = length-drop 24 bytes in
    let dropped = slice_index bytes 3 == 1 in
    let no : is_valid (Stream (number_at 4 bytes 4) word (params_in 8 56 bytes) dropped) ≡ false = false_from_ne_true _ (λ valid.
    let short = (IsStream-is_valid (number_at 4 bytes 4) word (params_in 8 56 bytes) dropped valid).short in
    omega arith) in
    rw no refl

pub spelling-free : spelling Free ≡ replicate 128 0
unfolding spelling
spelling-free = refl

pub is_valid-free : is_valid Free ≡ true
unfolding is_valid
is_valid-free = refl
