-- Records without one of a dropped stream.
use Rattle.ss_recover.proofs.Common.{[], ◌&&◌, ◌++◌, ◌+◌, ◌==◌, ◌||◌, ◌∙◌, ◌∷◌, ◌≡◌, ◌⊎◌, AllByRecursion, and_cases, and_from, and_left, and_parts, and_right}
use Rattle.ss_recover.proofs.Common.{ap, ap₂, arith, Bool, cases_Bool, cond-false, cons_option, count_by, Created, created_by, each-behind, each-front, eq-eqb}
use Rattle.ss_recover.proofs.Common.{eqb-true, false, filter, filter-append, filter_map, filter_map-append, has_new_name, has_one_record, has_place, in_order}
use Rattle.ss_recover.proofs.Common.{inl, inr, is_drop_of, is_dropped, is_mark_of, is_named_before, is_of, keep_own_step, leb, List, list_any, list_any-append}
use Rattle.ss_recover.proofs.Common.{lowest_bad_stream, lt-ltb, ltb-true, map, may_go, MOST_STREAMS, nat_lt, None, not, not-true, Option, option_map_or}
use Rattle.ss_recover.proofs.Common.{or_cases, or_from, or_left, or_parts, or_right, Params, Record, refl, Some, stands_alone, stands_by, Stream}
use Rattle.ss_recover.proofs.Common.{stream_carried, stream_number, stream_of, streams_carried, streams_created, streams_standing, subst, sum_by-append}
use Rattle.ss_recover.proofs.Common.{sum_by-cons, sym, true, true≢false, window_of, without_numbered, ℕ}
use Rattle.ss_recover.specs.Conditions.{is_sound}
use Rattle.ss_recover.proofs.InOrder.{all-in_order}
use Rattle.ss_model.proofs.FoundLemmas.{each-append}
use Rattle.ss_recover.proofs.SoundStreams.{digit, none-passes, own_step-fewer}
use Rattle.ss_recover.proofs.SoundNumbers.{all-false, AreSound, HaveSameValues, is_numbered, is_sound-kept, none-stands, none_bad-AreSound, one-dropped}
use Rattle.ss_recover.proofs.SoundNumbers.{one-sound, standing-any, stream_carried-same}
use Rattle.ss_codec.specs.declared.record.Record.TheVariants as records
use Rattle.ss_parts.proofs.Lists.{all-each, all_both, all_weaker, filter-all, filter_map-kept, kept}
use Rattle.ss_recover.proofs.Unordered.{filter_map-in_order, kept-is}

-- one element in the place of another, of which the same is made
pub made-changed : {X Y : Type 0} (f : X → Option Y) (xs ys : List X) (r q : X) → f r ≡ f q → filter_map f (xs ++ r ∷ ys) ≡ filter_map f (xs ++ q ∷ ys)
made-changed f xs ys r q same =
    filter_map-append f xs (r ∷ ys) ∙ ap (λ o. filter_map f xs ++ cons_option o (filter_map f ys)) same ∙ sym (filter_map-append f xs (q ∷ ys))

list_any-changed : {X : Type 0} (p : X → Bool) (xs ys : List X) (r q : X) → p r ≡ p q → list_any p (xs ++ r ∷ ys) ≡ list_any p (xs ++ q ∷ ys)
list_any-changed p xs ys r q same = list_any-append p xs (r ∷ ys) ∙ ap (λ b. list_any p xs || (b || list_any p ys)) same ∙ sym (list_any-append p xs (q ∷ ys))

-- one element less
pub list_any-without : {X : Type 0} (p : X → Bool) (xs ys : List X) (q : X) → p q ≡ false → list_any p (xs ++ q ∷ ys) ≡ list_any p (xs ++ ys)
list_any-without p xs ys q fails = list_any-append p xs (q ∷ ys) ∙ ap (λ b. list_any p xs || (b || list_any p ys)) fails ∙ sym (list_any-append p xs ys)

list_any-fewer : {X : Type 0} (p : X → Bool) (xs ys : List X) (q : X) → list_any p (xs ++ q ∷ ys) ≡ false → list_any p (xs ++ ys) ≡ false
list_any-fewer p xs ys q none =
    let both = or_parts _ _ (sym (list_any-append p xs (q ∷ ys)) ∙ none) in
    let rest = or_parts _ _ both.1 in
    list_any-append p xs ys ∙ or_from (list_any p xs) (list_any p ys) both.0 rest.1

-- A record is no window and no landmark of a number, and no value of one.
pub record IsNoneOf (n : ℕ) (r : Record) : Type 0 where
  pub window : window_of n r ≡ None
  pub mark : is_mark_of n r ≡ false

pub IsNoneOf-apart : (n : ℕ) (r : Record) → (stream_of r == n) ≡ false → IsNoneOf n r
IsNoneOf-apart n records.Free apart = record { window = refl; mark = refl }
IsNoneOf-apart n (records.Stream id name params dropped) apart = record { window = refl; mark = refl }
IsNoneOf-apart n (records.Window id first summary) apart = record { window = rw apart refl; mark = refl }
IsNoneOf-apart n _ apart = record { window = refl; mark = apart }

pub HaveSameValues-changed : (n : ℕ) (xs ys : List Record) (r q : Record) → IsNoneOf n r → IsNoneOf n q → HaveSameValues n (xs ++ r ∷ ys) (xs ++ q ∷ ys)
HaveSameValues-changed n xs ys r q first second = record {
  windows = made-changed (window_of n) xs ys r q (first.window ∙ sym second.window);
  marks =
      sym (filter_map-kept (is_mark_of n) (xs ++ r ∷ ys))
      ∙ made-changed (kept (is_mark_of n)) xs ys r q (cond-false _ _ _ first.mark ∙ sym (cond-false _ _ _ second.mark))
      ∙ filter_map-kept (is_mark_of n) (xs ++ q ∷ ys);
}

-- the same streams, where each has the same values
streams-same : (rs us : List Record) (cs : List Created) → AllByRecursion (λ c. HaveSameValues c.number rs us) cs →
    map (stream_carried us) cs ≡ map (stream_carried rs) cs
streams-same rs us [] same = refl
streams-same rs us (c ∷ cs) same = ap₂ (λ (s : Stream) (ss : List Stream). s ∷ ss) (sym (stream_carried-same rs us c same.0)) (streams-same rs us cs same.1)

eq-swap : (m n : ℕ) → (n == m) ≡ false → (m == n) ≡ false
eq-swap m n other = elim (cases_Bool (m == n)) [
  | inl same ↦ absurd (true≢false (sym (eq-eqb n m (sym (eqb-true m n same))) ∙ other))
  | inr apart ↦ apart
]

-- the numbers of records, of which one goes
pub numbers-without : (P : ℕ → Type 0) (xs ys : List Record) (r : Record) (id : ℕ) → stream_number r ≡ Some id →
    AllByRecursion P (filter_map stream_number (xs ++ r ∷ ys)) → P id × AllByRecursion P (filter_map stream_number (xs ++ records.Free ∷ ys))
numbers-without P xs ys r id is all =
    let parts = subst (AllByRecursion P) (filter_map-append stream_number xs (r ∷ ys) ∙ ap (λ o. filter_map stream_number xs
    ++ cons_option o (filter_map stream_number ys)) is) all in
    let back = each-behind P (filter_map stream_number xs) (id ∷ filter_map stream_number ys) parts in (
      back.0,
      subst (AllByRecursion P) (sym (filter_map-append stream_number xs (records.Free ∷ ys)))
          (each-append P (filter_map stream_number xs) (filter_map stream_number ys)
          (each-front P (filter_map stream_number xs) (id ∷ filter_map stream_number ys) parts) back.1),
    )

-- Records carry the streams that others do, and no number of theirs is unsound.
pub record CarryThem (us : List Record) (streams : List Stream) : Type 0 where
  pub sound : lowest_bad_stream us ≡ None
  pub same : streams_carried us ≡ streams

-- ---- one that is no stream's own goes

-- A record of a number that is no stream's own.
record IsOther (id : ℕ) (r : Record) : Type 0 where
  created : created_by r ≡ None
  stands : stands_by r ≡ None
  drops : (n : ℕ) → is_drop_of n r ≡ false
  number : stream_number r ≡ Some id
  apart : (n : ℕ) → (id == n) ≡ false → IsNoneOf n r

module _ (xs ys : List Record) (r : Record) (id : ℕ) (is : IsOther id r) (gone : is_dropped id (xs ++ ys) ≡ true) where
  abbrev rs : List Record
  rs = xs ++ r ∷ ys

  abbrev us : List Record
  us = xs ++ records.Free ∷ ys

  same-other : (n : ℕ) → (id == n) ≡ false → HaveSameValues n rs us
  same-other n apart = HaveSameValues-changed n xs ys r records.Free (is.apart n apart) (record { window = refl; mark = refl })

  other-goes : AreSound rs (filter_map stream_number rs) → CarryThem us (streams_carried rs)
  other-goes sound =
      let parts = numbers-without (λ n. is_sound rs n ≡ true) xs ys r id is.number sound in
      let created : streams_created rs ≡ streams_created us = made-changed created_by xs ys r records.Free is.created in
      let standing : streams_standing rs ≡ streams_standing us = made-changed stands_by xs ys r records.Free is.stands in
      let dropped : (n : ℕ) → is_dropped n rs ≡ is_dropped n us = λ n. list_any-changed (is_drop_of n) xs ys r records.Free (is.drops n) in
      let gone_us : is_dropped id us ≡ true = list_any-without (is_drop_of id) xs ys records.Free refl ∙ gone in
      let each : (n : ℕ) → is_sound rs n ≡ true → is_sound us n ≡ true =
      λ n. is_sound-kept rs us n (λ a. ap (stands_alone n) (sym created) ∙ a) (λ ws k. ap (λ cs. keep_own_step n cs ws) (sym created) ∙ k)
      (λ g. sym (dropped n) ∙ g) (choice gone_us n (cases_Bool (id == n))) in
      let none = one-dropped id rs (one-sound rs id parts.0) (dropped id ∙ gone_us) in
      let apart : AllByRecursion (λ (c : Created). (c.number == id) ≡ false) (streams_standing rs) =
      all-false (is_numbered id) (streams_standing rs) (standing-any id rs ∙ none) in
      let ordered = in_order (λ (c : Created). c.number) (streams_standing rs) in
      let same : AllByRecursion (λ (c : Created). HaveSameValues c.number rs us) ordered =
      all_weaker _ _ (λ c other. same-other c.number (eq-swap id c.number other)) ordered
      (all-in_order (λ (c : Created). c.number) (λ c. (c.number == id) ≡ false) (streams_standing rs) apart) in
      record {
        sound = none_bad-AreSound us
            (all_weaker _ _ each (filter_map stream_number us) parts.1);
        same = ap (λ cs. map (stream_carried us) (in_order (λ (c : Created). c.number) cs)) (sym standing) ∙ streams-same rs us ordered same;
      }
    where
      choice : is_dropped id us ≡ true → (n : ℕ) → ((id == n) ≡ true) ⊎ ((id == n) ≡ false) → (is_dropped n us ≡ true) ⊎ HaveSameValues n rs us
      choice gone n (inl here) = inl (subst (λ m. is_dropped m us ≡ true) (eqb-true id n here) gone)
      choice gone n (inr other) = inr (same-other n other)

-- ---- a stream's own goes, and no other is of its number

-- a stream less leaves the others alone
alone-fewer : (n : ℕ) (cs ds : List Created) (c : Created) → (c.number == n) ≡ false → stands_alone n (cs ++ c ∷ ds) ≡ true →
    stands_alone n (cs ++ ds) ≡ true
alone-fewer n cs ds c other alone =
    let parts = and_parts _ _ alone in
    let first = and_parts _ _ parts.0 in
    and_from _ _ (and_from _ _ (one first.0) (place first.1)) (new parts.1)
  where
    one : has_one_record n (cs ++ c ∷ ds) ≡ true → has_one_record n (cs ++ ds) ≡ true
    one is =
        let at : Created → ℕ = λ d. digit (d.number == n) in
        let here : at c ≡ 0 = cond-false (c.number == n) 1 0 other in
        let all : count_by (λ d. d.number == n) (cs ++ c ∷ ds) ≡ 1 = eqb-true (count_by (λ d. d.number == n) (cs ++ c ∷ ds)) 1 is in
        eq-eqb (count_by (λ d. d.number == n) (cs ++ ds)) 1
        (omega (arith, sum_by-append at cs (c ∷ ds), sum_by-append at cs ds, sum_by-cons at c ds, here, all))

    place : has_place n (cs ++ c ∷ ds) ≡ true → has_place n (cs ++ ds) ≡ true
    place is =
        let low : Created → ℕ = λ d. digit (nat_lt d.number n) in
        let all = ltb-true (count_by (λ d. nat_lt d.number n) (cs ++ c ∷ ds)) MOST_STREAMS is in
        lt-ltb (count_by (λ d. nat_lt d.number n) (cs ++ ds)) MOST_STREAMS
        (omega (arith, sum_by-append low cs (c ∷ ds), sum_by-append low cs ds, sum_by-cons low c ds, all))

    new : has_new_name n (cs ++ c ∷ ds) ≡ true → has_new_name n (cs ++ ds) ≡ true
    new is =
        let all = cs ++ c ∷ ds in
        let taken : Created → Bool = λ d. d.number == n && is_named_before all d in
        let taken_now : Created → Bool = λ d. d.number == n && is_named_before (cs ++ ds) d in
        let none = list_any-fewer taken cs ds c (not-true (list_any taken all) is) in
        ap not (none-passes taken_now (cs ++ ds) (all_weaker _ _ (λ d fails. still d fails) (cs ++ ds) (all-false taken (cs ++ ds) none)))
      where
        still : (d : Created) → (d.number == n && is_named_before (cs ++ c ∷ ds) d) ≡ false → (d.number == n && is_named_before (cs ++ ds) d) ≡ false
        still d fails = elim (and_cases _ _ fails) [
          | inl apart ↦ and_left (d.number == n) (is_named_before (cs ++ ds) d) apart
          | inr free ↦ and_right (d.number == n) (is_named_before (cs ++ ds) d) (list_any-fewer _ cs ds c free)
        ]

module _ (xs ys : List Record) (id : ℕ) (name : List ℕ) (params : Params) (none : list_any (is_of id) (xs ++ ys) ≡ false) where
  abbrev own : Record
  own = records.Stream id name params true

  abbrev head : Created
  head = record { number = id; name = name; params = params }

  abbrev held : List Record
  held = xs ++ own ∷ ys

  abbrev freed : List Record
  freed = xs ++ records.Free ∷ ys

  same-own : (n : ℕ) → HaveSameValues n held freed
  same-own n = HaveSameValues-changed n xs ys own records.Free (record { window = refl; mark = refl }) (record { window = refl; mark = refl })

  -- no number of theirs is that of the stream
  others : AllByRecursion (λ n. (n == id) ≡ false) (filter_map stream_number freed)
  others = go freed (list_any-without (is_of id) xs ys records.Free refl ∙ none)
    where
      go : (qs : List Record) → list_any (is_of id) qs ≡ false → AllByRecursion (λ n. (n == id) ≡ false) (filter_map stream_number qs)
      go [] fails = tt
      go (q ∷ qs) fails = let parts = or_parts _ _ fails in each (stream_number q) parts.0 (go qs parts.1)
        where
          each : (o : Option ℕ) → option_map_or (λ n. n == id) o false ≡ false → AllByRecursion (λ n. (n == id) ≡ false) (filter_map stream_number qs) →
              AllByRecursion (λ n. (n == id) ≡ false) (cons_option o (filter_map stream_number qs))
          each None other rest = rest
          each (Some n) other rest = (other, rest)

  own-goes : AreSound held (filter_map stream_number held) → CarryThem freed (streams_carried held)
  own-goes sound =
      let parts = numbers-without (λ n. is_sound held n ≡ true) xs ys own id refl sound in
      let standing : streams_standing held ≡ streams_standing freed = made-changed stands_by xs ys own records.Free refl in
      let created : streams_created held ≡ streams_created xs ++ head ∷ streams_created ys = filter_map-append created_by xs (own ∷ ys) in
      let fewer : streams_created freed ≡ streams_created xs ++ streams_created ys = filter_map-append created_by xs (records.Free ∷ ys) in
      let dropped : (n : ℕ) → (id == n) ≡ false → is_dropped n held ≡ is_dropped n freed =
      λ n other. list_any-changed (is_drop_of n) xs ys own records.Free other in
      let each : (n : ℕ) → (n == id) ≡ false → is_sound held n ≡ true → is_sound freed n ≡ true = λ n apart.
      let other = eq-swap id n apart in
      is_sound-kept held freed n
      (λ a. ap (stands_alone n) fewer ∙ alone-fewer n (streams_created xs) (streams_created ys) head other (sym (ap (stands_alone n) created) ∙ a)) (λ ws k.
      ap (λ cs. keep_own_step n cs ws) fewer
      ∙ own_step-fewer n ws head (streams_created xs) (streams_created ys) (ap (λ cs. keep_own_step n cs ws) (sym created) ∙ k))
      (λ g. sym (dropped n other) ∙ g) (inr (same-own n)) in
      let ordered = in_order (λ (c : Created). c.number) (streams_standing held) in
      record {
        sound = none_bad-AreSound freed
            (all_both _ _ _ each (filter_map stream_number freed)
            others parts.1);
        same =
            ap (λ cs. map (stream_carried freed) (in_order (λ (c : Created). c.number) cs)) (sym standing)
            ∙ streams-same held freed ordered (all-each (λ (c : Created). HaveSameValues c.number held freed) (λ c. same-own c.number) ordered);
      }

-- a record that may go
pub may-goes : (xs ys : List Record) (r : Record) → may_go r (xs ++ ys) ≡ true → AreSound (xs ++ r ∷ ys) (filter_map stream_number (xs ++ r ∷ ys)) →
    CarryThem (xs ++ records.Free ∷ ys) (streams_carried (xs ++ r ∷ ys))
may-goes xs ys records.Free may sound = absurd (true≢false (sym may))
may-goes xs ys (records.Stream id name params true) may sound = own-goes xs ys id name params (not-true (list_any (is_of id) (xs ++ ys)) may) sound
may-goes xs ys (records.Stream id name params false) may sound = absurd (true≢false (sym may))
may-goes xs ys r may sound =
    other-goes xs ys r (stream_of r)
    (record { created = refl; stands = refl; drops = λ n. refl; number = refl; apart = λ n apart. IsNoneOf-apart n r apart }) may sound

-- whether a record may go hangs on what tests some of the others pass
pub may_go-same : (r : Record) (first second : List Record) →
    ((test : Record → Bool) → test records.Free ≡ false → list_any test first ≡ list_any test second) →
    may_go r first ≡ may_go r second
may_go-same records.Free first second same = refl
may_go-same (records.Stream id name params dropped) first second same = ap (λ b. dropped && not b) (same (is_of id) refl)
may_go-same r first second same = same (is_drop_of (stream_of r)) refl

-- ---- records of a stream that is dropped: the others are carried as they were

-- a test that one element passes, and its first form doesn't
list_any-also : {X : Type 0} (p : X → Bool) (xs ys : List X) (r q : X) → p r ≡ false → list_any p (xs ++ r ∷ ys) ≡ true → list_any p (xs ++ q ∷ ys) ≡ true
list_any-also p xs ys r q fails any =
    let either = sym (list_any-append p xs ys) ∙ (sym (list_any-without p xs ys r fails) ∙ any) in
    list_any-append p xs (q ∷ ys) ∙ (elim (or_cases _ _ either) [
      | inl front ↦ or_left (list_any p xs) (p q || list_any p ys) front
      | inr back ↦ or_right (list_any p xs) (p q || list_any p ys) (or_right (p q) (list_any p ys) back)
    ])

-- whether a stream isn't of a number
abbrev is_unlike : ℕ → Created → Bool
is_unlike n c = not (c.number == n)

-- where no stream is of a number, all that stand are of others
standing-unlike : (n : ℕ) (rs : List Record) → count_by (is_numbered n) (streams_created rs) ≡ 0 →
    filter (is_unlike n) (streams_standing rs) ≡ streams_standing rs
standing-unlike n rs none =
    filter-all (is_unlike n) (streams_standing rs) (all_weaker _ _ (λ c other. ap not other) (streams_standing rs)
    (all-false (is_numbered n) (streams_standing rs) (standing-any n rs ∙ none-stands n rs none)))

module _ (ys : List Record) (s : Created) where
  abbrev stood : Record
  stood = records.Stream s.number s.name s.params false

  abbrev fell : Record
  fell = records.Stream s.number s.name s.params true

  abbrev count : List Record → ℕ
  count qs = count_by (is_numbered s.number) (streams_created qs)

  -- the streams that stand without the one that is dropped
  standing-dropped : (xs : List Record) → count (xs ++ stood ∷ ys) ≡ 1 →
      streams_standing (xs ++ fell ∷ ys) ≡ filter (is_unlike s.number) (streams_standing (xs ++ stood ∷ ys))
  standing-dropped xs one =
      let n = s.number in
      let t : Created = record { number = s.number; name = s.name; params = s.params } in
      let own : (n == n) ≡ true = eq-eqb n n refl in
      let at : Created → ℕ = λ d. digit (is_numbered n d) in
      let more : count (xs ++ stood ∷ ys) ≡ count xs + (1 + count ys) =
      ap (count_by (is_numbered n)) (filter_map-append created_by xs (stood ∷ ys)) ∙ sum_by-append at (streams_created xs) (t ∷ streams_created ys)
      ∙ ap (λ (k : ℕ). count xs + k) (sum_by-cons at t (streams_created ys) ∙ ap (λ b. digit b + count ys) own) in
      let front = standing-unlike n xs (omega (arith, one, more)) in
      let back : filter (is_unlike n) (t ∷ streams_standing ys) ≡ streams_standing ys = rw own (standing-unlike n ys (omega (arith, one, more))) in
      filter_map-append stands_by xs (fell ∷ ys) ∙ sym (ap (filter (is_unlike n)) (filter_map-append stands_by xs (stood ∷ ys))
      ∙ filter-append (is_unlike n) (streams_standing xs) (t ∷ streams_standing ys) ∙ (λ i. front i ++ back i))

-- what passes a test in order is in order
kept-in_order : (p : Created → Bool) (cs : List Created) → in_order (λ c. c.number) (filter p cs) ≡ filter p (in_order (λ c. c.number) cs)
kept-in_order p cs =
    let key : Created → ℕ = λ c. c.number in
    ap (in_order key) (sym (filter_map-kept p cs)) ∙ sym (filter_map-in_order key key (kept p) (λ x y z w is also.
    ap₂ (λ (a b : Created). leb a.number b.number) (kept-is p x z is).1 (kept-is p y w also).1) cs) ∙ filter_map-kept p (in_order key cs)

map-without : (rs us : List Record) (n : ℕ) (cs : List Created) → AllByRecursion (λ c. HaveSameValues c.number rs us) cs →
    map (stream_carried us) (filter (is_unlike n) cs) ≡ without_numbered n (map (stream_carried rs) cs)
map-without rs us n [] same = refl
map-without rs us n (c ∷ cs) same =
    let rest = map-without rs us n cs same.1 in
    elim (cases_Bool (c.number == n)) [
      | inl is ↦ rw is rest
      | inr other ↦ rw other (ap₂ (λ (s : Stream) (ss : List Stream). s ∷ ss) (sym (stream_carried-same rs us c same.0)) rest)
    ]

module _ (xs ys : List Record) (s : Created) where
  abbrev before : List Record
  before = xs ++ stood ys s ∷ ys

  abbrev after : List Record
  after = xs ++ fell ys s ∷ ys

  same-drop : (n : ℕ) → HaveSameValues n before after
  same-drop n = HaveSameValues-changed n xs ys (stood ys s) (fell ys s) (record { window = refl; mark = refl }) (record { window = refl; mark = refl })

  pub is-dropped : AreSound before (filter_map stream_number before) → CarryThem after (without_numbered s.number (streams_carried before))
  is-dropped sound =
      let parts = numbers-without (λ n. is_sound before n ≡ true) xs ys (stood ys s) s.number refl sound in
      let created : streams_created before ≡ streams_created after = made-changed created_by xs ys (stood ys s) (fell ys s) refl in
      let numbers : filter_map stream_number before ≡ filter_map stream_number after = made-changed stream_number xs ys (stood ys s) (fell ys s) refl in
      let each : (n : ℕ) → is_sound before n ≡ true → is_sound after n ≡ true =
      λ n. is_sound-kept before after n (λ a. ap (stands_alone n) (sym created) ∙ a) (λ ws k. ap (λ cs. keep_own_step n cs ws) (sym created) ∙ k)
      (λ g. list_any-also (is_drop_of n) xs ys (stood ys s) (fell ys s) refl g) (inr (same-drop n)) in
      let ordered = in_order (λ (c : Created). c.number) (streams_standing before) in
      record {
        sound = none_bad-AreSound after
            (subst (AllByRecursion (λ n. is_sound after n ≡ true)) numbers (all_weaker _ _ each (filter_map stream_number before) sound));
        same =
            ap (λ cs. map (stream_carried after) (in_order (λ (c : Created). c.number) cs)) (standing-dropped ys s xs (one-sound before s.number parts.0))
            ∙ ap (map (stream_carried after)) (kept-in_order (is_unlike s.number) (streams_standing before))
            ∙ map-without before after s.number ordered (all-each (λ (c : Created). HaveSameValues c.number before after) (λ c. same-drop c.number) ordered);
      }
