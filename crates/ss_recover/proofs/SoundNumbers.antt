-- Which numbers are sound in some records, where they are in others that have the same of them.
use Rattle.ss_recover.proofs.Common.{[], ◌&&◌, ◌+◌, ◌==◌, ◌||◌, ◌∙◌, ◌∷◌, ◌≡◌, ◌≤◌, ◌⊎◌, AllByRecursion, and_from, and_parts, ap, ap₂, arith, Bool, carries}
use Rattle.ss_recover.proofs.Common.{cases_Bool, cond, cond-true, cons_option, count_by, Created, created_by, eqb-true, false, false_from_ne_true, filter}
use Rattle.ss_recover.proofs.Common.{filter_map, in_order, inl, inr, is_drop_of, is_dropped, is_mark_of, judged, keep_own_step, landmarks_made, List, list_any}
use Rattle.ss_recover.proofs.Common.{lowest_bad_stream, lowest_in, map, marks_carried, None, not, Option, option_map_or, or_cases, or_left, or_parts, or_right}
use Rattle.ss_recover.proofs.Common.{place_of, Record, refl, Some, stands_alone, stands_by, stands_sound, Stream, stream_carried, stream_number}
use Rattle.ss_recover.proofs.Common.{streams_carried, streams_created, streams_standing, sum_by-cons, sym, true, true≢false, Window, window_of, windows_carried}
use Rattle.ss_recover.proofs.Common.{ℕ}
use Rattle.ss_recover.specs.Conditions.{is_sound}
use Rattle.ss_recover.proofs.SoundStreams.{digit}
use Rattle.ss_codec.specs.declared.record.Record.TheVariants as records
use Rattle.ss_parts.proofs.Lists.{all_weaker, any-made, filter_map-kept, kept}

-- where streams are carried, no slot and no stream is damaged
pub carries-judged : (slot number : Option ℕ) (ss streams : List Stream) → judged slot number ss ≡ carries streams →
    (slot ≡ None) × (number ≡ None) × (ss ≡ streams)
carries-judged (Some slot) number ss streams is = absurd (cc)
carries-judged None (Some number) ss streams is = absurd (cc)
carries-judged None None ss streams is = (refl, refl, cc)

nil-least : (ns : List ℕ) → lowest_in ns ≡ None → ns ≡ []
nil-least [] none = refl
nil-least (n ∷ ns) none = absurd (cc)

-- all are sound where none is the least that isn't, and the other way
all-filter : (test : ℕ → Bool) (ns : List ℕ) → filter (λ n. not (test n)) ns ≡ [] → AllByRecursion (λ n. test n ≡ true) ns
all-filter test [] none = tt
all-filter test (n ∷ ns) none = elim (cases_Bool (test n)) [
  | inl passes ↦ (let rest : filter (λ m. not (test m)) ns ≡ [] = rw passes at none in (passes, all-filter test ns rest))
  | inr fails ↦ (let wrong : n ∷ filter (λ m. not (test m)) ns ≡ [] = rw fails at none in absurd (cc))
]

filter-all_sound : (test : ℕ → Bool) (ns : List ℕ) → AllByRecursion (λ n. test n ≡ true) ns → filter (λ n. not (test n)) ns ≡ []
filter-all_sound test [] all = refl
filter-all_sound test (n ∷ ns) all = rw all.0 (filter-all_sound test ns all.1)

abbrev pub AreSound : List Record → List ℕ → Type 0
AreSound records numbers = AllByRecursion (λ number. is_sound records number ≡ true) numbers

pub AreSound-none_bad : (rs : List Record) → lowest_bad_stream rs ≡ None → AreSound rs (filter_map stream_number rs)
AreSound-none_bad rs none =
    let numbers = filter_map stream_number rs in
    all-filter (is_sound rs) numbers (nil-least (filter (λ number. not (is_sound rs number)) numbers) none)

pub none_bad-AreSound : (rs : List Record) → AreSound rs (filter_map stream_number rs) → lowest_bad_stream rs ≡ None
none_bad-AreSound rs all = ap lowest_in (filter-all_sound (is_sound rs) (filter_map stream_number rs) all)

-- Records have the same windows and landmarks of a number.
pub record HaveSameValues (n : ℕ) (rs us : List Record) : Type 0 where
  pub windows : filter_map (window_of n) rs ≡ filter_map (window_of n) us
  pub marks : filter (is_mark_of n) rs ≡ filter (is_mark_of n) us

windows-same : (n : ℕ) (rs us : List Record) → HaveSameValues n rs us → windows_carried n rs ≡ windows_carried n us
windows-same n rs us same = ap (in_order (λ (w : Window). w.first)) same.windows

marks-same : (n : ℕ) (rs us : List Record) → HaveSameValues n rs us → marks_carried n rs ≡ marks_carried n us
marks-same n rs us same = ap (in_order place_of) same.marks

pub stream_carried-same : (rs us : List Record) (c : Created) → HaveSameValues c.number rs us → stream_carried rs c ≡ stream_carried us c
stream_carried-same rs us c same =
    let ordered = windows-same c.number rs us same in
    let marked = marks-same c.number rs us same in
    λ i. record { number = c.number; name = c.name; params = c.params; windows = ordered i; landmarks = landmarks_made (marked i) }

-- what meets all conditions
abbrev stands : ℕ → List Record → Bool
stands n rs = stands_sound n (streams_created rs) (windows_carried n rs) (marks_carried n rs)

pub is_sound-from : (rs : List Record) (n : ℕ) → stands_alone n (streams_created rs) ≡ true →
    (is_dropped n rs || stands n rs) ≡ true → is_sound rs n ≡ true
unfolding is_sound
is_sound-from rs n alone values = and_from _ _ alone values

pub is_sound-parts : (rs : List Record) (n : ℕ) → is_sound rs n ≡ true →
    (stands_alone n (streams_created rs) ≡ true) × ((is_dropped n rs || stands n rs) ≡ true)
unfolding is_sound
is_sound-parts rs n sound = and_parts _ _ sound

-- records of which the same is made have the same numbers that are sound
module _ (rs us : List Record) (same : (Y : Type 0) (f : Record → Option Y) → f records.Free ≡ None → filter_map f rs ≡ filter_map f us) where
  values-made : (n : ℕ) → HaveSameValues n rs us
  values-made n = record {
    windows = same Window (window_of n) refl;
    marks = sym (filter_map-kept (is_mark_of n) rs) ∙ same Record (kept (is_mark_of n)) refl ∙ filter_map-kept (is_mark_of n) us;
  }

  pub streams_carried-made : streams_carried rs ≡ streams_carried us
  streams_carried-made =
      let standing = same Created stands_by refl in
      λ i. map (λ c. stream_carried-same rs us c (values-made c.number) i) (in_order (λ c. c.number) (standing i))

  pub is_sound-made : (n : ℕ) → is_sound rs n ≡ is_sound us n
  unfolding is_sound
  is_sound-made n =
      let is = values-made n in
      let created = same Created created_by refl in
      let gone = any-made (is_drop_of n) rs us (same Record (kept (is_drop_of n)) refl) in
      let ordered = windows-same n rs us is in
      let marked = marks-same n rs us is in
      λ i. stands_alone n (created i) && (gone i || stands_sound n (created i) (ordered i) (marked i))

  pub lowest-made : lowest_bad_stream rs ≡ lowest_bad_stream us
  lowest-made = let numbers = same ℕ stream_number refl in λ i. lowest_in (filter (λ m. not (is_sound-made m i)) (numbers i))

-- a number stays sound where it stands alone, stays dropped, and has the same values or is dropped
pub is_sound-kept : (rs us : List Record) (n : ℕ) → (stands_alone n (streams_created rs) ≡ true → stands_alone n (streams_created us) ≡ true) →
    ((ws : List Window) → keep_own_step n (streams_created rs) ws ≡ true → keep_own_step n (streams_created us) ws ≡ true) →
    (is_dropped n rs ≡ true → is_dropped n us ≡ true) → (is_dropped n us ≡ true) ⊎ HaveSameValues n rs us →
    is_sound rs n ≡ true → is_sound us n ≡ true
is_sound-kept rs us n alone keeps gone same sound =
    let parts = is_sound-parts rs n sound in
    is_sound-from us n (alone parts.0) (go same (or_cases _ _ parts.1))
  where
    go : (is_dropped n us ≡ true) ⊎ HaveSameValues n rs us → (is_dropped n rs ≡ true) ⊎ (stands n rs ≡ true) → (is_dropped n us || stands n us) ≡ true
    go (inl is) values = or_left _ _ is
    go (inr same) (inl is) = or_left _ _ (gone is)
    go (inr same) (inr fine) =
        let ordered = windows-same n rs us same in
        let both = and_parts _ _ (sym (ap₂ (stands_sound n (streams_created rs)) ordered (marks-same n rs us same)) ∙ fine) in
        or_right _ _ (and_from _ _ both.0 (keeps (windows_carried n us) both.1))

-- ---- one record of a number, which says whether its stream was dropped

abbrev pub is_numbered : ℕ → Created → Bool
is_numbered n c = c.number == n

abbrev numbered : ℕ → Created → ℕ
numbered n c = cond (is_numbered n c) 1 0

-- whether a record is that of the stream of this number, and says that it stands
abbrev pub stands_at : ℕ → Record → Bool
stands_at n r = option_map_or (is_numbered n) (stands_by r) false

-- how many of some streams are of a number, with one more or none
pub numbered-cons : (n : ℕ) (o : Option Created) (cs : List Created) → count_by (is_numbered n) (cons_option o cs)
    ≡ digit (option_map_or (is_numbered n) o false) + count_by (is_numbered n) cs
numbered-cons n None cs = omega arith
numbered-cons n (Some c) cs = sum_by-cons (λ (d : Created). digit (is_numbered n d)) c cs

-- each stream's own record says that it was dropped, or that it stands
counted : (n : ℕ) (rs : List Record) → count_by (is_numbered n) (streams_created rs) ≡ count_by (is_drop_of n) rs + count_by (stands_at n) rs
counted n [] = refl
counted n (r ∷ rs) =
    omega (
      arith,
      numbered-cons n (created_by r) (streams_created rs),
      sum_by-cons (λ (q : Record). digit (is_drop_of n q)) r rs,
      sum_by-cons (λ (q : Record). digit (stands_at n q)) r rs,
      one r,
      counted n rs,
    )
  where
    one : (q : Record) → digit (option_map_or (is_numbered n) (created_by q) false) ≡ digit (is_drop_of n q) + digit (stands_at n q)
    one (records.Stream id name params true) = omega arith
    one (records.Stream id name params false) = omega arith
    one _ = refl

some-counted : {X : Type 0} (p : X → Bool) (xs : List X) → list_any p xs ≡ true → 1 ≤ count_by p xs
some-counted p [] any = absurd (true≢false (sym any))
some-counted {X} p (x ∷ xs) any =
    let sum = sum_by-cons (λ (y : X). digit (p y)) x xs in
    elim (or_cases _ _ any) [
      | inl here ↦ (let one : digit (p x) ≡ 1 = cond-true (p x) 1 0 here in omega (arith, sum, one))
      | inr there ↦ omega (arith, sum, some-counted p xs there)
    ]

-- where none is, none says that it stands
pub none-stands : (n : ℕ) (rs : List Record) → count_by (is_numbered n) (streams_created rs) ≡ 0 → list_any (stands_at n) rs ≡ false
none-stands n rs none =
    false_from_ne_true (list_any (stands_at n) rs) (λ stands. absurd (omega (arith, none, counted n rs, some-counted (stands_at n) rs stands)))

pub standing-any : (n : ℕ) (rs : List Record) → list_any (is_numbered n) (streams_standing rs) ≡ list_any (stands_at n) rs
standing-any n [] = refl
standing-any n (r ∷ rs) =
    elim (stands_by r) as (λ o. list_any (is_numbered n) (cons_option o (streams_standing rs))
    ≡ (option_map_or (is_numbered n) o false || list_any (stands_at n) rs)) [
      | None ↦ standing-any n rs
      | Some c ↦ ap (λ b. is_numbered n c || b) (standing-any n rs)
    ]

-- where one is, and the stream was dropped, none says that it stands
pub one-dropped : (n : ℕ) (rs : List Record) → count_by (is_numbered n) (streams_created rs) ≡ 1 → is_dropped n rs ≡ true →
    list_any (stands_at n) rs ≡ false
one-dropped n rs one gone =
    false_from_ne_true (list_any (stands_at n) rs)
    (λ stands. absurd (omega (arith, one, counted n rs, some-counted (is_drop_of n) rs gone, some-counted (stands_at n) rs stands)))

-- what a sound number has
pub one-sound : (rs : List Record) (n : ℕ) → is_sound rs n ≡ true → count_by (is_numbered n) (streams_created rs) ≡ 1
one-sound rs n sound =
    let alone = (is_sound-parts rs n sound).0 in
    let first = and_parts _ _ (and_parts _ _ alone).0 in
    eqb-true (count_by (is_numbered n) (streams_created rs)) 1 first.0

-- no element passes a test that none does
pub each-false : {X : Type 0} (xs : List X) → AllByRecursion (λ x. (p : X → Bool) → list_any p xs ≡ false → p x ≡ false) xs
each-false [] = tt
each-false {X} (x ∷ xs) = (
  (λ p none. (or_parts _ _ none).0),
  all_weaker _ _
      (λ y rest p none. rest p (or_parts _ _ none).1) xs (each-false xs),
)

pub all-false : {X : Type 0} (p : X → Bool) (xs : List X) → list_any p xs ≡ false → AllByRecursion (λ x. p x ≡ false) xs
all-false p [] none = tt
all-false p (x ∷ xs) none = let parts = or_parts _ _ none in (parts.0, all-false p xs parts.1)
