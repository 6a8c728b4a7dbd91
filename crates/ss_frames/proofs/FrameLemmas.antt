-- Each valid frame is what its spelling is read as.
use Rattle.std.specs.Prelude.{◌≡◌, ◌≢◌, ℕ, ◌+◌, ◌^◌, ◌<◌, ◌≤◌, ◌&&◌, ◌==◌, nat_le, ℤ, FitsSigned, Bool, true, false, cond, List, length, replicate}
use Rattle.std.specs.Prelude.{slice_index, drop}
use Rattle.std.specs.Prelude.{Option, Some, None, IfSome, IfNone}
use Rattle.std.specs.Int.{w64}
use Rattle.std.specs.Str.{bytes_eq}
use Rattle.std.proofs.Common.{arith, refl, sym, ap, ◌∙◌, lit≤, subst, true≢false}
use Rattle.std.proofs.lemmas.List.{length-drop, length-replicate, length-take}
use Rattle.std.proofs.lemmas.Bool.{eq-eqb, eqb-true, false_from_ne_true}
use Rattle.std.proofs.lemmas.Bool.Decides.{nat_tests}
use Rattle.std.proofs.lemmas.Slice.Eq.{bytes_eq-Decides}
use Rattle.ss_fields.specs.Fields.{number_bytes}
use Rattle.ss_fields.proofs.FieldLemmas.{number_at-take, i64_at-take}
use Rattle.ss_summary.specs.Possible.{fits_i64}
use Rattle.ss_summary.proofs.PossibleLemmas.{fits-true, true-fits}
use Rattle.ss_catalog.specs.Names.{is_name}
use Rattle.ss_catalog.specs.Params.{in_range, step_number}
use Rattle.ss_catalog.specs.Events.{event_name, IsInTime}
use Rattle.ss_base.specs.declared.limits.TheConstants.{LAST_TIME}
use Rattle.ss_catalog.specs.declared.event.Event.{Event}
use Rattle.ss_catalog.specs.declared.event.Event.TheVariants.{Create, Value, Open, Close, Drop}
use Rattle.ss_catalog.proofs.NameLemmas.{length-is_name}
use Rattle.ss_codec.specs.Record.{has_small_step, parameters}
use Rattle.ss_codec.proofs.FieldLemmas.{AreInOrder, HasFields, HasFields-with_fields, length-with_fields, part, slice_index-part}
use Rattle.ss_codec.proofs.FieldOrder.{byte-within, number-within}
use Rattle.ss_codec.proofs.ParameterLemmas.{AreSmall-in_range, params_in-numbers}
use Rattle.ss_codec.proofs.RecordLemmas.{four_tests, small-test}
use Rattle.ss_frames.specs.Frame.{
  FrameState,
  IsValidFrame,
  SpellsFrame,
  checked_frame,
  content,
  event_in,
  frame_fields,
  frame_in,
  frame_read,
  frame_spelled,
  is_later,
  is_valid_frame,
  kind,
  name_in,
  target_family,
  target_step,
}

-- the tests say which frames are valid
pub IsValidFrame-test : (number : ℕ) (event : Event) → is_valid_frame number event ≡ true → IsValidFrame number event
unfolding is_valid_frame
IsValidFrame-test number (Create name params) test =
    let tests = four_tests (number == 1) (is_name name) (in_range params) (has_small_step params) test in
    (eqb-true number 1 tests.0, tests.1, tests.2, tests.3)
IsValidFrame-test number (Value name t v) test =
    let fits : fits_i64 v ≡ true = grind (arith, nat_tests) in
    ((grind (arith, nat_tests), grind (arith, nat_tests)), grind (arith, nat_tests), grind (arith, nat_tests), fits-true v fits)
IsValidFrame-test number (Open name t) test =
    ((grind (arith, nat_tests), grind (arith, nat_tests)), grind (arith, nat_tests), grind (arith, nat_tests))
IsValidFrame-test number (Close name t) test =
    ((grind (arith, nat_tests), grind (arith, nat_tests)), grind (arith, nat_tests), grind (arith, nat_tests))
IsValidFrame-test number (Drop name) test = absurd cc

pub test-IsValidFrame : (number : ℕ) (event : Event) → IsValidFrame number event → is_valid_frame number event ≡ true
unfolding is_valid_frame
test-IsValidFrame number (Create name params) is = let first = eq-eqb number 1 is.0 in rw (first, is.1, is.2, is.3) refl
test-IsValidFrame number (Value name t v) is =
    let low = is.0.0 in
    let high = is.0.1 in
    let named = is.1 in
    let early = is.2 in
    let fits = true-fits v is.3 in
    grind (arith, nat_tests)
test-IsValidFrame number (Open name t) is =
    let low = is.0.0 in
    let high = is.0.1 in
    let named = is.1 in
    let early = is.2 in
    grind (arith, nat_tests)
test-IsValidFrame number (Close name t) is =
    let low = is.0.0 in
    let high = is.0.1 in
    let named = is.1 in
    let early = is.2 in
    grind (arith, nat_tests)
test-IsValidFrame number (Drop name) is = absurd is

-- a value of 64 bits is tested by its number, its name and its time
pub is_valid_frame-Value : (number : ℕ) (name : List ℕ) (t : ℕ) (v : ℤ) → FitsSigned w64 v
    → (is_later number && is_name name && nat_le t LAST_TIME) ≡ is_valid_frame number (Value name t v)
unfolding is_valid_frame
is_valid_frame-Value number name t v fits = let test = true-fits v fits in grind (arith, nat_tests)

-- what every valid frame has: a number of 64 bits from 1 on, a name, and no time above the last one
pub record HasFrame (number : ℕ) (event : Event) : Type 0 where
  pub low : 1 ≤ number
  pub high : number < 2 ^ 64
  pub named : is_name (event_name event) ≡ true
  pub early : IsInTime event

pub HasFrame-IsValidFrame : (number : ℕ) (event : Event) → IsValidFrame number event → HasFrame number event
HasFrame-IsValidFrame number (Create name params) is = record { low = omega (arith, is.0); high = omega (arith, is.0); named = is.1; early = tt }
HasFrame-IsValidFrame number (Value name t v) is = record { low = omega (arith, is.0.0); high = is.0.1; named = is.1; early = is.2 }
HasFrame-IsValidFrame number (Open name t) is = record { low = omega (arith, is.0.0); high = is.0.1; named = is.1; early = is.2 }
HasFrame-IsValidFrame number (Close name t) is = record { low = omega (arith, is.0.0); high = is.0.1; named = is.1; early = is.2 }
HasFrame-IsValidFrame number (Drop name) is = absurd is

-- the fields of a frame lie in its bytes, one after the other
content-in_order : (event : Event) → length (event_name event) ≤ 32 → AreInOrder 64 (16 + length (event_name event)) (content event)
content-in_order (Create name params) short =
    let numbers = parameters params.family in (
      omega arith,
      number-within 64 4 48 numbers.0 (lit≤ tt),
      (
        lit≤ tt,
        number-within 64 4 52 numbers.1 (lit≤ tt),
        (lit≤ tt, number-within 64 4 56 numbers.2 (lit≤ tt), (lit≤ tt, number-within 64 4 60 numbers.3 (lit≤ tt), tt)),
      ),
    )
content-in_order (Value name t v) short = (omega arith, number-within 64 8 48 t (lit≤ tt), (lit≤ tt, number-within 64 8 56 _ (lit≤ tt), tt))
content-in_order (Open name t) short = (omega arith, number-within 64 8 48 t (lit≤ tt), tt)
content-in_order (Close name t) short = (omega arith, number-within 64 8 48 t (lit≤ tt), tt)
content-in_order (Drop name) short = tt

frame-in_order : (f : FrameState) → length (event_name f.event) ≤ 32 → AreInOrder 64 0 (frame_fields f)
frame-in_order f short = (
  lit≤ tt,
  byte-within 64 0 (kind f.event) (lit≤ tt),
  (
    lit≤ tt,
    byte-within 64 1 (target_family f.event) (lit≤ tt),
    (
      lit≤ tt,
      byte-within 64 2 (length (event_name f.event)) (lit≤ tt),
      (
        lit≤ tt,
        number-within 64 4 4 (target_step f.event) (lit≤ tt),
        (
          lit≤ tt,
          number-within 64 8 8 f.number (lit≤ tt),
          (
            lit≤ tt,
            record { whole = refl; inside = omega arith },
            content-in_order f.event short,
          ),
        ),
      ),
    ),
  ),
)

short-name : (f : FrameState) → IsValidFrame f.number f.event → length (event_name f.event) ≤ 32
short-name f valid = length-is_name (event_name f.event) (HasFrame-IsValidFrame f.number f.event valid).named

-- a frame whose name is no longer than a name can be has 64 bytes, and so has a valid one
pub length-named : (f : FrameState) → length (event_name f.event) ≤ 32 → length (frame_spelled f) ≡ 64
unfolding frame_spelled
length-named f short =
    length-with_fields 64 0 (frame_fields f) (replicate 64 0) (length-replicate {A = ℕ} 64 0) (frame-in_order f short)

pub length-frame_spelled : (f : FrameState) → IsValidFrame f.number f.event → length (frame_spelled f) ≡ 64
length-frame_spelled f valid = length-named f (short-name f valid)

HasFields-frame_spelled : (f : FrameState) → IsValidFrame f.number f.event → HasFields (frame_spelled f) (frame_fields f)
unfolding frame_spelled
HasFields-frame_spelled f valid =
    HasFields-with_fields 64 0 (frame_fields f) (replicate 64 0) (length-replicate {A = ℕ} 64 0) (frame-in_order f (short-name f valid))

-- what stands in bytes beside the number
record HasEvent (bytes : List ℕ) (event : Event) : Type 0 where
  kind_is : slice_index bytes 0 ≡ kind event
  family_is : slice_index bytes 1 ≡ target_family event
  step_is : part 4 4 bytes ≡ number_bytes 4 (target_step event)
  name_is : name_in bytes ≡ event_name event
  says : HasFields bytes (content event)

-- the event that stands there is read
event_in-HasEvent : (number : ℕ) (event : Event) (bytes : List ℕ) → IsValidFrame number event → HasEvent bytes event → event_in bytes ≡ event
unfolding event_in
event_in-HasEvent number (Create name params) bytes valid has =
    let small = AreSmall-in_range params valid.2 in
    let first = number_at-take 4 48 (parameters params.family).0 bytes (omega (arith, small.first)) has.says.0 in
    let second = number_at-take 4 52 (parameters params.family).1 bytes (omega (arith, small.second)) has.says.1.0 in
    let third = number_at-take 4 56 (parameters params.family).2 bytes (omega (arith, small.third)) has.says.1.1.0 in
    let fourth = number_at-take 4 60 (parameters params.family).3 bytes (omega (arith, small.fourth)) has.says.1.1.1.0 in
    let step = number_at-take 4 4 (step_number params.within) bytes (omega (arith, small-test (step_number params.within) valid.3)) has.step_is in
    let target = params_in-numbers params 48 4 bytes valid.2 has.family_is first second third fourth step in
    rw has.kind_is (λ i. Create (has.name_is i) (target i))
event_in-HasEvent number (Value name t v) bytes valid has =
    let early = valid.2 in
    let time = number_at-take 8 48 t bytes (omega arith) has.says.0 in
    let value = i64_at-take 56 v bytes valid.3 has.says.1.0 in
    rw has.kind_is (λ i. Value (has.name_is i) (time i) (value i))
event_in-HasEvent number (Open name t) bytes valid has =
    let early = valid.2 in
    let time = number_at-take 8 48 t bytes (omega arith) has.says.0 in
    rw has.kind_is (λ i. Open (has.name_is i) (time i))
event_in-HasEvent number (Close name t) bytes valid has =
    let early = valid.2 in
    let time = number_at-take 8 48 t bytes (omega arith) has.says.0 in
    rw has.kind_is (λ i. Close (has.name_is i) (time i))
event_in-HasEvent number (Drop name) bytes valid has = absurd valid

-- the frame that is read from the spelling of a valid one is that frame
pub frame_read-spelling : (f : FrameState) → IsValidFrame f.number f.event → frame_read (frame_spelled f) ≡ f
frame_read-spelling f valid =
    let has = HasFields-frame_spelled f valid in
    let bytes = frame_spelled f in
    let high = (HasFrame-IsValidFrame f.number f.event valid).high in
    let size = slice_index-part 2 (length (event_name f.event)) bytes has.1.1.0 in
    let named : name_in bytes ≡ event_name f.event = rw size has.1.1.1.1.1.0 in
    let number = number_at-take 8 8 f.number bytes (omega arith) has.1.1.1.1.0 in
    let event = event_in-HasEvent f.number f.event bytes valid (record {
      kind_is = slice_index-part 0 (kind f.event) bytes has.0;
      family_is = slice_index-part 1 (target_family f.event) bytes has.1.0;
      step_is = has.1.1.1.0;
      name_is = named;
      says = has.1.1.1.1.1.1;
    }) in
    λ i. record { number = number i; event = event i }

-- what an answer that was tested twice says
tested : (b v : Bool) (x f : FrameState) → cond b (cond v (Some x) None) None ≡ Some f → (b ≡ true) × (v ≡ true) × (x ≡ f)
tested true true x f found = (refl, refl, cc)
tested true false x f found = absurd cc
tested false v x f found = absurd cc

pub SpellsFrame-frame_in : (bytes : List ℕ) (f : FrameState) → frame_in bytes ≡ Some f → SpellsFrame bytes f
unfolding frame_in
SpellsFrame-frame_in bytes f found =
    let x = frame_read bytes in
    let tests = tested (bytes_eq (frame_spelled x) bytes) (is_valid_frame x.number x.event) x f found in
    let same = (bytes_eq-Decides (frame_spelled x) bytes).0 tests.0 in
    let valid = IsValidFrame-test x.number x.event tests.1 in
    record { valid = rw (← tests.2) valid; spelled = sym same ∙ ap frame_spelled tests.2 }

-- what passes both tests is answered
found : (x f : FrameState) (bytes : List ℕ) → x ≡ f → bytes ≡ frame_spelled f → is_valid_frame f.number f.event ≡ true
    → cond (bytes_eq (frame_spelled x) bytes) (checked_frame x) None ≡ Some f
found x f bytes is spelled valid =
    let same = (bytes_eq-Decides (frame_spelled x) bytes).1 (ap frame_spelled is ∙ sym spelled) in
    let test : is_valid_frame x.number x.event ≡ true = subst (λ (g : FrameState). is_valid_frame g.number g.event ≡ true) (sym is) valid in
    rw (same, test) (ap (λ g. Some g) is)

pub frame_in-spelling : (f : FrameState) → IsValidFrame f.number f.event → frame_in (frame_spelled f) ≡ Some f
unfolding frame_in
frame_in-spelling f valid =
    found (frame_read (frame_spelled f)) f (frame_spelled f) (frame_read-spelling f valid) refl (test-IsValidFrame f.number f.event valid)

pub frame_in-SpellsFrame : (bytes : List ℕ) (f : FrameState) → SpellsFrame bytes f → frame_in bytes ≡ Some f
frame_in-SpellsFrame bytes f spells = ap frame_in spells.spelled ∙ frame_in-spelling f spells.valid

pub same-frame_spelled : (f g : FrameState) → IsValidFrame f.number f.event → IsValidFrame g.number g.event → frame_spelled f ≡ frame_spelled g → f ≡ g
same-frame_spelled f g valid_f valid_g same =
    sym (frame_read-spelling f valid_f) ∙ ap frame_read same ∙ frame_read-spelling g valid_g

-- an answer that is what is read says what the bytes spell
pub some-frame_in : (found : Option FrameState) (bytes : List ℕ) → found ≡ frame_in bytes → IfSome found (λ f. SpellsFrame bytes f)
some-frame_in (Some f) bytes is = SpellsFrame-frame_in bytes f (sym is)
some-frame_in None bytes is = tt

pub none-frame_in : (found : Option FrameState) (bytes : List ℕ) → found ≡ frame_in bytes → IfNone found ((f : FrameState) → ¬ SpellsFrame bytes f)
none-frame_in (Some f) bytes is = tt
none-frame_in None bytes is = λ f spells. cc (is, frame_in-SpellsFrame bytes f spells)

-- bytes of another length are no frame's
none-read : (found : Option FrameState) (bytes : List ℕ) → frame_in bytes ≡ found → length bytes ≢ 64 → found ≡ None
none-read (Some f) bytes is other =
    let spells = SpellsFrame-frame_in bytes f is in
    absurd (other (ap (λ (bs : List ℕ). length bs) spells.spelled ∙ length-frame_spelled f spells.valid))
none-read None bytes is other = refl

pub frame_in-length : (bytes : List ℕ) → length bytes ≢ 64 → frame_in bytes ≡ None
frame_in-length bytes other = none-read (frame_in bytes) bytes refl other

-- what is read has the name that stands in the bytes
cond-name : (b : Bool) (e f : Event) (name : List ℕ) → event_name e ≡ name → event_name f ≡ name → event_name (cond b e f) ≡ name
cond-name true e f name first second = first
cond-name false e f name first second = second

event_name-event_in : (bytes : List ℕ) → event_name (event_in bytes) ≡ name_in bytes
unfolding event_in
event_name-event_in bytes =
    cond-name (slice_index bytes 0 == 1) _ _ (name_in bytes) refl
    (cond-name (slice_index bytes 0 == 2) _ _ (name_in bytes) refl
    (cond-name (slice_index bytes 0 == 3) _ _ (name_in bytes) refl
    (cond-name (slice_index bytes 0 == 4) _ _ (name_in bytes) refl refl)))

-- and none is valid whose name is none
pub checked-unnamed : (bytes : List ℕ) → is_name (name_in bytes) ≡ false → checked_frame (frame_read bytes) ≡ None
checked-unnamed bytes unnamed =
    let x = frame_read bytes in
    let no : is_valid_frame x.number x.event ≡ false = false_from_ne_true _ (λ test.
    let valid = HasFrame-IsValidFrame x.number x.event (IsValidFrame-test x.number x.event test) in
    true≢false (sym valid.named ∙ ap is_name (event_name-event_in bytes) ∙ unnamed)) in
    rw no refl

-- a word that gave no name is none
unnamed-by : (b : Bool) (word : List ℕ) → cond b (Some word) None ≡ None → b ≡ false
unnamed-by true word none = absurd cc
unnamed-by false word none = refl

pub unnamed-none : (word : List ℕ) (found : Option (List ℕ)) → found ≡ cond (is_name word) (Some word) None → found ≡ None → is_name word ≡ false
unnamed-none word found is none = unnamed-by (is_name word) word (sym is ∙ none)

pub is_name-long : (word : List ℕ) → 32 < length word → is_name word ≡ false
is_name-long word long = false_from_ne_true (is_name word) (λ named. let short = length-is_name word named in omega arith)

pub checked-long : (bytes : List ℕ) → length bytes ≡ 64 → 32 < slice_index bytes 2 → checked_frame (frame_read bytes) ≡ None
checked-long bytes long more =
    let size = length-take (slice_index bytes 2) (drop 16 bytes) in
    let rest = length-drop 16 bytes in
    checked-unnamed bytes (is_name-long (name_in bytes) (omega arith))

-- what isn't valid isn't answered
cond-none : (b : Bool) (o : Option FrameState) → o ≡ None → cond b o None ≡ None
cond-none true o none = none
cond-none false o none = refl

pub frame_in-unread : (bytes : List ℕ) → checked_frame (frame_read bytes) ≡ None → frame_in bytes ≡ None
unfolding frame_in
frame_in-unread bytes none = cond-none (bytes_eq (frame_spelled (frame_read bytes)) bytes) (checked_frame (frame_read bytes)) none

-- nor is what is spelled in another way
checked-some : (b : Bool) (x f : FrameState) → cond b (Some x) None ≡ Some f → x ≡ f
checked-some true x f is = cc
checked-some false x f is = absurd cc

pub none-spelled : (bytes : List ℕ) (frame : FrameState) → checked_frame (frame_read bytes) ≡ Some frame → bytes_eq (frame_spelled frame) bytes ≡ false
    → (f : FrameState) → ¬ SpellsFrame bytes f
unfolding frame_in
none-spelled bytes frame read other f spells =
    let x = frame_read bytes in
    let same = (tested (bytes_eq (frame_spelled x) bytes) (is_valid_frame x.number x.event) x f (frame_in-SpellsFrame bytes f spells)).0 in
    let is = checked-some (is_valid_frame x.number x.event) x frame read in
    true≢false (sym same ∙ ap (λ (g : FrameState). bytes_eq (frame_spelled g) bytes) is ∙ other)
