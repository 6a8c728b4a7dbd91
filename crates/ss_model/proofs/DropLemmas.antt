-- The streams of a state without one of them.
use Rattle.ss_model.proofs.Common.{◌≡◌, ◌≢◌, ℕ, ◌+◌, ◌<◌, ◌≤◌, Bool, true, false, not, List, [], ◌∷◌, ◌++◌, length, get_or, refl, ap, sym, ◌∙◌, arith, None}
use Rattle.ss_model.proofs.Common.{Some, suc, drop, subst, take, inl, inr, All, ◌==◌, if◌then◌else◌, AllByRecursion, IsDistinct, IsStrictlyIncreasing}
use Rattle.ss_model.proofs.Common.{cases_Bool, eq-eqb, ne_eqb, get_or-append_seam, get_or_append_left, length-append, length-map, take-append-drop, All-head}
use Rattle.ss_model.proofs.Common.{All-tail, filter-append, sum_by-append, sum_by-cons, IsDistinct-head, IsDistinct-tail, IsDistinct-cons, same_name, Drop}
use Rattle.ss_model.proofs.Common.{Unknown, stands, IsState, IsStream, Stream, live, names_of, numbers_of, records_of, stream_named, ack_of, stepped}
use Rattle.ss_model.proofs.Common.{without_named, first_that_applies, is_some, option_map, outline_of, Option}
use Rattle.std.specs.Prelude.{filter}
use Rattle.std.specs.List.{AllPairs, remove}
use Rattle.std.proofs.Math.Seq.{drop-cons}
use Rattle.std.proofs.lemmas.List.{get_or-append-add, get_or-map}
use Rattle.std.proofs.lemmas.List.Elements.{All-filter}
use Rattle.std.proofs.lemmas.List.Filters.{length-filter_both, sum_by-filter_both}
use Rattle.std.proofs.lemmas.List.Kept.{AllPairs-filter, AllPairs-from_increasing}
use Rattle.ss_model.specs.ClosedState.{closed_state, closed_stream}
use Rattle.ss_model.specs.Refusals.{refuses}
use Rattle.ss_model.specs.Steps.{said_of, stepped_from}
use Rattle.ss_model.proofs.NameLemmas.{same_name-Decides, same_name-differ, same_name-same, same_name-swap}
use Rattle.ss_model.proofs.FoundLemmas.{IsFound, stands-others}
use Rattle.ss_model.proofs.StepLemmas.{filter-map}

-- ---- a state of some of the streams of one

-- the numbers of streams rise as the streams of each two do
abbrev IsBelow : Stream → Stream → Type 0
IsBelow s u = s.number < u.number

each_below : (streams : List Stream) → IsStrictlyIncreasing (numbers_of streams) → AllPairs IsBelow streams
each_below streams rising i j d before inside =
    let number = λ (s : Stream). s.number in
    let there = AllPairs-from_increasing (numbers_of streams) rising i j 0 before (omega (arith, length-map streams number)) in
    rw (get_or-map number streams i d 0 (omega arith), get_or-map number streams j d 0 inside) at there

rise_each : (streams : List Stream) → AllPairs IsBelow streams → IsStrictlyIncreasing (numbers_of streams)
rise_each [] below k inside = absurd (omega arith)
rise_each (s ∷ ss) below k inside =
    let number = λ (u : Stream). u.number in
    let few = length-map (s ∷ ss) number in
    rw (get_or-map number (s ∷ ss) k s 0 (omega (arith, few)), get_or-map number (s ∷ ss) (k + 1) s 0 (omega (arith, few)))
    (below k (k + 1) s (omega arith) (omega (arith, few)))

module _ (p : Stream → Bool) where
  rising-filter : (streams : List Stream) → IsStrictlyIncreasing (numbers_of streams) → IsStrictlyIncreasing (numbers_of (filter p streams))
  rising-filter streams rising = rise_each (filter p streams) (AllPairs-filter IsBelow p streams (each_below streams rising))

  apart-filter : (name : List ℕ) (streams : List Stream) → AllByRecursion (λ y. same_name name y ≡ false) (names_of streams) →
      AllByRecursion (λ y. same_name name y ≡ false) (names_of (filter p streams))
  apart-filter name [] apart = apart
  apart-filter name (s ∷ ss) apart = elim (cases_Bool (p s)) [
    | inl kept ↦ rw kept (apart.0, apart-filter name ss apart.1)
    | inr gone ↦ rw gone (apart-filter name ss apart.1)
  ]

  names-filter : (streams : List Stream) → IsDistinct same_name (names_of streams) → IsDistinct same_name (names_of (filter p streams))
  names-filter [] distinct = distinct
  names-filter (s ∷ ss) distinct =
      let rest = names-filter ss (IsDistinct-tail same_name s.name (names_of ss) distinct) in
      elim (cases_Bool (p s)) [
        | inl kept ↦
            rw kept (IsDistinct-cons same_name s.name (names_of (filter p ss))
            (apart-filter s.name ss (IsDistinct-head same_name s.name (names_of ss) distinct)) rest)
        | inr gone ↦ rw gone rest
      ]

  pub live-filter : (streams : List Stream) → live (filter p streams) ≤ live streams
  live-filter streams = omega (arith, sum_by-filter_both p (λ s. not (p s)) (λ s. refl) records_of streams)

  pub IsState-filter : (streams : List Stream) → IsState streams → IsState (filter p streams)
  IsState-filter streams was = record {
    each = All-filter p IsStream streams was.each;
    numbers = rising-filter streams was.numbers;
    names = names-filter streams was.names;
    few = omega (arith, was.few, length-filter_both p (λ s. not (p s)) (λ s. refl) streams);
    room = omega (arith, was.room, live-filter streams);
  }

-- ---- the streams without that of a name

pub IsState-without : (name : List ℕ) (streams : List Stream) → IsState streams → IsState (without_named name streams)
IsState-without name streams was = IsState-filter (λ s. not (same_name name s.name)) streams was

pub live-without : (name : List ℕ) (streams : List Stream) → live (without_named name streams) ≤ live streams
live-without name streams = live-filter (λ s. not (same_name name s.name)) streams

-- what is closed before a stream goes is what is closed after it
pub closed_state-without : (name : List ℕ) (streams : List Stream) → closed_state (without_named name streams) ≡ without_named name (closed_state streams)
closed_state-without name streams = sym (filter-map (λ s. not (same_name name s.name)) closed_stream streams)

-- a state with nothing left to join has nothing left to join without the stream
pub closed_state-dropped : (name : List ℕ) (streams : List Stream) → closed_state streams ≡ streams →
    closed_state (stepped streams (Drop name)) ≡ stepped streams (Drop name)
unfolding stepped_from
closed_state-dropped name streams closed = closed_state-without name streams ∙ ap (without_named name) closed

pub stream_named-dropped : (name : List ℕ) (streams : List Stream) → stream_named name (without_named name streams) ≡ None
stream_named-dropped name [] = refl
stream_named-dropped name (s ∷ ss) = elim (cases_Bool (same_name name s.name)) [
  | inl same ↦ rw same (stream_named-dropped name ss)
  | inr other ↦ rw other (rw other (stream_named-dropped name ss))
]

pub stream_named-without : (name other : List ℕ) (streams : List Stream) → name ≢ other →
    stream_named name (without_named other streams) ≡ stream_named name streams
stream_named-without name other [] apart = refl
stream_named-without name other (s ∷ ss) apart =
    let rest = stream_named-without name other ss apart in
    elim (cases_Bool (same_name other s.name)) [
      | inl same ↦
          (let is : other ≡ s.name = (same_name-Decides other s.name).0 same in
          let differ : same_name name s.name ≡ false = same_name-differ name s.name (λ e. apart (e ∙ sym is)) in
          rw (same, differ) rest)
      | inr differ ↦ rw (differ, rest) refl
    ]

-- a drop is answered by zeros
pub ack_of-dropped : (name : List ℕ) (streams : List Stream) → ack_of name (without_named name streams) ≡ record { n = 0; k = 0 }
ack_of-dropped name streams = ap said_of (stream_named-dropped name streams)

unstood-refused : (o : Option Stream) →
    first_that_applies ((not (is_some (option_map outline_of o)), Unknown) ∷ []) ≡ (if is_some o then None else Some Unknown)
unstood-refused None = refl
unstood-refused (Some s) = refl

-- a drop is refused where no stream of the name stands, and for nothing else
pub refuses-drop : (streams : List Stream) (name : List ℕ) → refuses streams (Drop name) ≡ (if stands name streams then None else Some Unknown)
unfolding refuses
refuses-drop streams name = unstood-refused (stream_named name streams)

-- ---- one stream taken out from among the others

-- what passes at each element is kept whole
pub filter_whole : {X : Type 0} (p : X → Bool) (xs : List X) → All (λ x. p x ≡ true) xs → filter p xs ≡ xs
filter_whole p [] all = refl
filter_whole p (x ∷ xs) all =
    rw (All-head (λ y. p y ≡ true) x xs all, filter_whole p xs (All-tail (λ y. p y ≡ true) x xs all)) refl

-- the one that doesn't pass is taken out
filter_out : {X : Type 0} (p : X → Bool) (before after : List X) (x : X) → filter p before ≡ before → p x ≡ false → filter p after ≡ after →
    filter p (before ++ x ∷ after) ≡ before ++ after
filter_out p before after x first fails last = rw (filter-append p before (x ∷ after), first, fails, last) refl

without_named-none : (name : List ℕ) (streams : List Stream) → stands name streams ≡ false → without_named name streams ≡ streams
without_named-none name [] none = refl
without_named-none name (s ∷ ss) none = elim (cases_Bool (same_name name s.name)) [
  | inl same ↦ (let wrong : true ≡ false = rw same at none in cc)
  | inr other ↦
      (let later : stands name ss ≡ false = rw other at none in
      rw (other, without_named-none name ss later) refl)
]

pub without_named-found : {name : List ℕ} {streams : List Stream} (at : IsFound name streams) → without_named name streams ≡ at.before ++ at.after
without_named-found {name} at =
    ap (without_named name) at.is
    ∙ filter_out (λ s. not (same_name name s.name)) at.before at.after at.stream (without_named-none name at.before at.none_before)
    (ap not at.named) (without_named-none name at.after at.none_after)

-- in streams whose numbers rise no other one has the number of one
module _ (before after : List Stream) (s : Stream) (rising : IsStrictlyIncreasing (numbers_of (before ++ s ∷ after))) where
  others_before : All (λ (u : Stream). not (u.number == s.number) ≡ true) before
  others_before k d inside =
      let pair = each_below (before ++ s ∷ after) rising k (length before) d inside (omega (arith, length-append before (s ∷ after))) in
      let below : (get_or before k d).number < s.number =
      rw (get_or_append_left before (s ∷ after) d k inside, get_or-append_seam before s after d) at pair in
      ap not (ne_eqb (get_or before k d).number s.number (λ same. omega arith))

  others_after : All (λ (u : Stream). not (u.number == s.number) ≡ true) after
  others_after k d inside =
      let place : length before < length before + suc k = omega arith in
      let pair = each_below (before ++ s ∷ after) rising (length before) (length before + suc k) d place
      (omega (arith, length-append before (s ∷ after))) in
      let above : s.number < (get_or after k d).number =
      rw (get_or-append_seam before s after d, get_or-append-add before (s ∷ after) (suc k) d) at pair in
      ap not (ne_eqb (get_or after k d).number s.number (λ same. omega arith))

  pub without_number-around : filter (λ u. not (u.number == s.number)) (before ++ s ∷ after) ≡ before ++ after
  without_number-around =
      let other = λ (u : Stream). not (u.number == s.number) in
      filter_out other before after s (filter_whole other before others_before) (ap not (eq-eqb s.number s.number refl))
      (filter_whole other after others_after)

-- in streams of different names no other one has the name of one
apart_in : (us after : List Stream) (s : Stream) (name : List ℕ) → AllByRecursion (λ y. same_name name y ≡ false) (names_of (us ++ s ∷ after)) →
    same_name name s.name ≡ false
apart_in [] after s name apart = apart.0
apart_in (u ∷ us) after s name apart = apart_in us after s name apart.1

apart_around : (before after : List Stream) (s : Stream) → IsDistinct same_name (names_of (before ++ s ∷ after)) →
    (stands s.name before ≡ false) × (stands s.name after ≡ false)
apart_around [] after s distinct = (refl, stands-others s.name after (IsDistinct-head same_name s.name (names_of after) distinct))
apart_around (u ∷ us) after s distinct =
    let rest = apart_around us after s (IsDistinct-tail same_name u.name (names_of (us ++ s ∷ after)) distinct) in
    let here : same_name u.name s.name ≡ false = apart_in us after s u.name (IsDistinct-head same_name u.name (names_of (us ++ s ∷ after)) distinct) in
    let there : same_name s.name u.name ≡ false = same_name-swap s.name u.name ∙ here in
    (rw there rest.0, rest.1)

pub without_named-around : (before after : List Stream) (s : Stream) → IsDistinct same_name (names_of (before ++ s ∷ after)) →
    without_named s.name (before ++ s ∷ after) ≡ before ++ after
without_named-around before after s distinct =
    let apart = apart_around before after s distinct in
    filter_out (λ u. not (same_name s.name u.name)) before after s (without_named-none s.name before apart.0)
    (ap not (same_name-same s.name)) (without_named-none s.name after apart.1)

-- the stream of a number is that of its name
pub without_number-named : (before after : List Stream) (s : Stream) → IsState (before ++ s ∷ after) →
    filter (λ u. not (u.number == s.number)) (before ++ s ∷ after) ≡ without_named s.name (before ++ s ∷ after)
without_number-named before after s was =
    without_number-around before after s was.numbers ∙ sym (without_named-around before after s was.names)

-- the same by its place
module _ (streams : List Stream) (i : ℕ) (d : Stream) (was : IsState streams) (inside : i < length streams) where
  placed : streams ≡ take i streams ++ get_or streams i d ∷ drop (suc i) streams
  placed = sym (take-append-drop i streams) ∙ ap (λ us. take i streams ++ us) (drop-cons streams i d inside)

  pub without_named-place : without_named (get_or streams i d).name streams ≡ remove streams i
  without_named-place = ap (without_named (get_or streams i d).name) placed
      ∙ without_named-around (take i streams) (drop (suc i) streams) (get_or streams i d) (subst (λ us. IsDistinct same_name (names_of us)) placed was.names)

  pub without_number-place : filter (λ u. not (u.number == (get_or streams i d).number)) streams ≡ remove streams i
  without_number-place = ap (filter (λ u. not (u.number == (get_or streams i d).number))) placed
      ∙ without_number-around (take i streams) (drop (suc i) streams) (get_or streams i d)
      (subst (λ us. IsStrictlyIncreasing (numbers_of us)) placed was.numbers)

  -- what the others need, and what the one did
  pub live-place : live (remove streams i) + records_of (get_or streams i d) ≡ live streams
  live-place =
      let whole : live streams ≡ live (take i streams ++ get_or streams i d ∷ drop (suc i) streams) = ap live placed in
      let around = sum_by-append records_of (take i streams) (get_or streams i d ∷ drop (suc i) streams) in
      let one = sum_by-cons records_of (get_or streams i d) (drop (suc i) streams) in
      let others = sum_by-append records_of (take i streams) (drop (suc i) streams) in
      omega (arith, whole, around, one, others)
