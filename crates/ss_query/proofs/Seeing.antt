-- What is known of a range of times once the windows are read is what their answer is made of.
use Rattle.std.proofs.Common.{◌≡◌, ◌∙◌, ℕ, ◌+◌, ◌<◌, ◌≤◌, Bool, true, false, List, [], ◌∷◌, ◌++◌, map, refl, sym, ap, ap₂}
use Rattle.std.proofs.Common.{arith, Option, Some, None, inl, inr, append-nil, append_assoc}
use Rattle.std.specs.Prelude.{◌&&◌, ◌||◌, nat_le, nat_lt, if◌then◌else◌, ℤ, pos, ◌+ℤ◌, fold, sum_by, option_map, IfSome}
use Rattle.std.specs.List.{filter}
use Rattle.std.specs.Option.{option_map_or}
use Rattle.std.specs.Int.{int_max, int_min}
use Rattle.std.proofs.lemmas.Bool.{cases_Bool, cases_lt, cond-false, cond-true}
use Rattle.std.proofs.lemmas.Bool.Decides.{nat_tests}
use Rattle.std.proofs.lemmas.Int.{ints}
use Rattle.std.proofs.lemmas.List.{map-append}
use Rattle.std.proofs.lemmas.List.Elements.{filter-append}
use Rattle.std.proofs.lemmas.List.Sums.{sum_by_push}
use Rattle.ss_bounds.specs.Either.{either, greatest_in, least_in}
use Rattle.ss_bounds.specs.Extremes.{listed}
use Rattle.ss_bounds.specs.Truth.{total}
use Rattle.ss_bounds.proofs.ChoiceLemmas.{IsChoice-max, IsChoice-min, choice_in-append}
use Rattle.ss_landmarks.specs.Landmark.{Landmark}
use Rattle.ss_landmarks.specs.ValuesIn.{tally_of, values_between}
use Rattle.ss_catalog.specs.declared.query.Kind.{Kind}
use Rattle.ss_model.specs.Interval.{is_apart, is_split, is_whole, whole_windows}
use Rattle.ss_model.specs.Standing.{IsStream}
use Rattle.ss_model.specs.State.{Stream}
use Rattle.ss_model.specs.Tiling.{StandFrom}
use Rattle.ss_model.specs.declared.types.Window.{Window}
use Rattle.ss_model.proofs.SplitLemmas.{lies}
use Rattle.ss_summary.specs.Figures.{Figures}
use Rattle.ss_query.specs.Asked.{cut_of, joined_with, left_with, marks_seen, presence_with, right_with, seen_after, seen_of, seen_with, whole_with}
use Rattle.ss_query.specs.declared.asking.Seen.{Seen}
use Rattle.ss_query.specs.declared.cut.Cut.{Cut}
use Rattle.ss_query.proofs.Presences.{presence-more, presence-none, presence-skip, presence_of_kind}

-- how many values the whole windows have, and their sum
abbrev pub whole_count : Option Figures → ℕ
whole_count whole = option_map_or (λ (f : Figures). f.count) whole 0

abbrev pub whole_sum : Option Figures → ℤ
whole_sum whole = option_map_or (λ (f : Figures). f.sum) whole (pos 0)

-- the figures of whole windows that are known together
pub record AreKnown (whole : Option Figures) (ws : List Window) : Type 0 where
  pub count : whole_count whole ≡ sum_by (λ (w : Window). w.summary.count) ws
  pub sum : whole_sum whole ≡ total (map (λ (w : Window). w.summary.sum) ws)
  pub least : option_map (λ (f : Figures). f.min) whole ≡ least_in (map (λ (w : Window). w.summary.min) ws)
  pub greatest : option_map (λ (f : Figures). f.max) whole ≡ greatest_in (map (λ (w : Window). w.summary.max) ws)

-- what is known of a range once these windows are read
pub record IsSeen (landmarks : List Landmark) (kind : Kind) (from to : ℕ) (seen : Seen) (ws : List Window) : Type 0 where
  pub marked : seen.marked ≡ tally_of (values_between landmarks from to)
  pub known : AreKnown seen.whole (whole_windows from to ws)
  pub cuts : listed seen.left seen.right ≡ map (cut_of landmarks from to) (filter (is_split from to) ws)
  left_behind : IfSome seen.left (λ s. from < seen.next_time)
  right_behind : IfSome seen.right (λ s. to + 1 < seen.next_time)
  pub whole_behind : IfSome seen.whole (λ f. f.t_last < seen.next_time)
  pub presence : seen.presence ≡ presence_of_kind landmarks kind from to ws

pub IsSeen-none : (landmarks : List Landmark) (kind : Kind) (from to : ℕ) →
    IsSeen landmarks kind from to (marks_seen kind (values_between landmarks from to)) []
IsSeen-none landmarks kind from to = record {
  marked = refl;
  known = record { count = refl; sum = refl; least = refl; greatest = refl };
  cuts = refl;
  left_behind = tt;
  right_behind = tt;
  whole_behind = tt;
  presence = presence-none landmarks kind from to;
}

-- one more element passes a test, or doesn't
filter-push : {X : Type 0} (p : X → Bool) (xs : List X) (x : X) → p x ≡ true → filter p (xs ++ x ∷ []) ≡ filter p xs ++ x ∷ []
filter-push p xs x passes = filter-append p xs (x ∷ []) ∙ rw passes refl

filter-same : {X : Type 0} (p : X → Bool) (xs : List X) (x : X) → p x ≡ false → filter p (xs ++ x ∷ []) ≡ filter p xs
filter-same p xs x fails = filter-append p xs (x ∷ []) ∙ rw fails (append-nil (filter p xs))

-- a window that has no time in the range changes nothing
apart-whole : (from to first last : ℕ) → (nat_lt last from || nat_lt to first) ≡ true → first ≤ last → (nat_le from first && nat_le last to) ≡ false
apart-whole from to first last apart order = grind (arith, nat_tests)

pub IsSeen-skip : (landmarks : List Landmark) (kind : Kind) (from to : ℕ) (seen : Seen) (ws : List Window) (w : Window) → is_apart from to w ≡ true →
    w.summary.t_first ≤ w.summary.t_last → IsSeen landmarks kind from to seen ws → IsSeen landmarks kind from to seen (ws ++ w ∷ [])
IsSeen-skip landmarks kind from to seen ws w apart order is =
    let not_whole : is_whole from to w ≡ false = apart-whole from to w.summary.t_first w.summary.t_last apart order in
    let not_split : is_split from to w ≡ false = rw (not_whole, apart) refl in
    record {
      marked = is.marked;
      known = rw filter-same is.known;
      cuts = is.cuts ∙ sym (ap (map (cut_of landmarks from to)) (filter-same (is_split from to) ws w not_split));
      left_behind = is.left_behind;
      right_behind = is.right_behind;
      whole_behind = is.whole_behind;
      presence = is.presence ∙ sym (presence-skip landmarks kind from to ws w not_whole apart);
    }

-- where a window has no time in the range
pub apart-early : (from to first last : ℕ) → last < from → (nat_lt last from || nat_lt to first) ≡ true
apart-early from to first last early = grind (arith, nat_tests)

pub apart-late : (from to first last : ℕ) → to < first → (nat_lt last from || nat_lt to first) ≡ true
apart-late from to first last late = grind (arith, nat_tests)

-- windows that begin after the range change nothing
pub fold-late : (landmarks : List Landmark) (kind : Kind) (from to : ℕ) (seen : Seen) (first time : ℕ) (ws : List Window) →
    StandFrom first time ws → to < time →
    fold (seen_after landmarks kind from to) seen ws ≡ seen
fold-late landmarks kind from to seen first time [] stand late = refl
fold-late landmarks kind from to seen first time (w ∷ ws) stand late =
    let possible = stand.1 in
    let some = possible.count_low in
    let long = possible.times in
    let begins = stand.2 in
    let apart : is_apart from to w ≡ true = apart-late from to w.summary.t_first w.summary.t_last (omega (arith, begins, late)) in
    ap (λ (s : Seen). fold (seen_after landmarks kind from to) s ws) (cond-true (is_apart from to w) seen (seen_with landmarks kind from to seen w) apart)
    ∙ fold-late landmarks kind from to seen (first + w.summary.count) (w.summary.t_last + 1) ws stand.3 (omega (arith, begins, late, some, long))

total-push : (vs : List ℤ) (v : ℤ) → total (vs ++ v ∷ []) ≡ (total vs +ℤ v)
total-push [] v = omega (arith, ints)
total-push (x ∷ xs) v = let rest = total-push xs v in omega (arith, ints)

joined-count : (whole : Option Figures) (f : Figures) → whole_count (joined_with whole f) ≡ whole_count whole + f.count
joined-count None f = omega arith
joined-count (Some g) f = refl

joined-sum : (whole : Option Figures) (f : Figures) → whole_sum (joined_with whole f) ≡ (whole_sum whole +ℤ f.sum)
joined-sum None f = omega (arith, ints)
joined-sum (Some g) f = refl

joined-least : (whole : Option Figures) (f : Figures) →
    option_map (λ (g : Figures). g.min) (joined_with whole f) ≡ either int_min (option_map (λ (g : Figures). g.min) whole) (Some f.min)
joined-least None f = refl
joined-least (Some g) f = refl

joined-greatest : (whole : Option Figures) (f : Figures) →
    option_map (λ (g : Figures). g.max) (joined_with whole f) ≡ either int_max (option_map (λ (g : Figures). g.max) whole) (Some f.max)
joined-greatest None f = refl
joined-greatest (Some g) f = refl

AreKnown-more : (whole : Option Figures) (ws : List Window) (w : Window) → AreKnown whole ws → AreKnown (joined_with whole w.summary) (ws ++ w ∷ [])
AreKnown-more whole ws w known = record {
  count = joined-count whole w.summary ∙ ap (λ n. n + w.summary.count) known.count ∙ sym (sum_by_push (λ (v : Window). v.summary.count) ws w);
  sum = joined-sum whole w.summary ∙ ap (λ z. z +ℤ w.summary.sum) known.sum
      ∙ sym (ap (λ vs. total vs) (map-append (λ (v : Window). v.summary.sum) ws (w ∷ [])) ∙ total-push (map (λ (v : Window). v.summary.sum) ws) w.summary.sum);
  least = joined-least whole w.summary ∙ ap (λ o. either int_min o (Some w.summary.min)) known.least
      ∙ sym (ap (λ vs. least_in vs) (map-append (λ (v : Window). v.summary.min) ws (w ∷ []))
      ∙ choice_in-append IsChoice-min (map (λ (v : Window). v.summary.min) ws) (w.summary.min ∷ []));
  greatest = joined-greatest whole w.summary ∙ ap (λ o. either int_max o (Some w.summary.max)) known.greatest
      ∙ sym (ap (λ vs. greatest_in vs) (map-append (λ (v : Window). v.summary.max) ws (w ∷ []))
      ∙ choice_in-append IsChoice-max (map (λ (v : Window). v.summary.max) ws) (w.summary.max ∷ []));
}

known-with : (from to : ℕ) (whole : Option Figures) (ws : List Window) (w : Window) → AreKnown whole (whole_windows from to ws) →
    AreKnown (whole_with from to whole w) (whole_windows from to (ws ++ w ∷ []))
known-with from to whole ws w known = elim (cases_Bool (is_whole from to w)) [
  | inl is ↦ rw (is, filter-push (is_whole from to) ws w is) (AreKnown-more whole (whole_windows from to ws) w known)
  | inr not_is ↦ rw (not_is, filter-same (is_whole from to) ws w not_is) known
]

listed-first : (left right : Option Cut) (s : Cut) → left ≡ None → right ≡ None → listed (Some s) right ≡ listed left right ++ s ∷ []
listed-first None None s none_left none_right = refl
listed-first None (Some r) s none_left none_right = absurd (cc)
listed-first (Some l) right s none_left none_right = absurd (cc)

listed-second : (left right : Option Cut) (s : Cut) → right ≡ None → listed left (Some s) ≡ listed left right ++ s ∷ []
listed-second None None s none = refl
listed-second (Some l) None s none = refl
listed-second left (Some r) s none = absurd (cc)

-- a fact that can't be rules out what brings it
ruled_out : {X : Type 0} (o : Option X) (P : Type 0) → IfSome o (λ x. P) → ¬ P → o ≡ None
ruled_out None P is not_P = refl
ruled_out (Some x) P is not_P = absurd (not_P is)

if_weaker : {X : Type 0} (o : Option X) (P Q : Type 0) → (P → Q) → IfSome o (λ x. P) → IfSome o (λ x. Q)
if_weaker None P Q weaker is = tt
if_weaker (Some x) P Q weaker is = weaker is

choosing : {X : Type 0} (b v : Bool) (x y : X) → b ≡ v → (if b then x else y) ≡ (if v then x else y)
choosing b v x y same = ap (λ (c : Bool). if c then x else y) same

both-true : (a b : Bool) → a ≡ true → b ≡ true → (a && b) ≡ true
both-true a b first second = rw (first, second) refl

second-false : (a b : Bool) → b ≡ false → (a && b) ≡ false
second-false true b second = second
second-false false b second = refl

first-false : (a b : Bool) → a ≡ false → (a && b) ≡ false
first-false a b first = rw first refl

module _ (landmarks : List Landmark) (from to : ℕ) (left right : Option Cut) (w : Window) where
  left-here : is_split from to w ≡ true → nat_lt w.summary.t_first from ≡ true →
      left_with landmarks from to left w ≡ Some (cut_of landmarks from to w)
  left-here split early =
      choosing (is_split from to w && nat_lt w.summary.t_first from) true (Some (cut_of landmarks from to w)) left
      (both-true (is_split from to w) (nat_lt w.summary.t_first from) split early)

  left-late : nat_lt w.summary.t_first from ≡ false → left_with landmarks from to left w ≡ left
  left-late late =
      choosing (is_split from to w && nat_lt w.summary.t_first from) false (Some (cut_of landmarks from to w)) left
      (second-false (is_split from to w) (nat_lt w.summary.t_first from) late)

  left-unsplit : is_split from to w ≡ false → left_with landmarks from to left w ≡ left
  left-unsplit unsplit =
      choosing (is_split from to w && nat_lt w.summary.t_first from) false (Some (cut_of landmarks from to w)) left
      (first-false (is_split from to w) (nat_lt w.summary.t_first from) unsplit)

  right-here : is_split from to w ≡ true → nat_le from w.summary.t_first ≡ true →
      right_with landmarks from to right w ≡ Some (cut_of landmarks from to w)
  right-here split late =
      choosing (is_split from to w && nat_le from w.summary.t_first) true (Some (cut_of landmarks from to w)) right
      (both-true (is_split from to w) (nat_le from w.summary.t_first) split late)

  right-early : nat_le from w.summary.t_first ≡ false → right_with landmarks from to right w ≡ right
  right-early early =
      choosing (is_split from to w && nat_le from w.summary.t_first) false (Some (cut_of landmarks from to w)) right
      (second-false (is_split from to w) (nat_le from w.summary.t_first) early)

  right-unsplit : is_split from to w ≡ false → right_with landmarks from to right w ≡ right
  right-unsplit unsplit =
      choosing (is_split from to w && nat_le from w.summary.t_first) false (Some (cut_of landmarks from to w)) right
      (first-false (is_split from to w) (nat_le from w.summary.t_first) unsplit)

is_early : (from first : ℕ) → first < from → (nat_lt first from ≡ true) × (nat_le from first ≡ false)
is_early from first early = (grind (arith, nat_tests), grind (arith, nat_tests))

is_late : (from first : ℕ) → from ≤ first → (nat_lt first from ≡ false) × (nat_le from first ≡ true)
is_late from first late = (grind (arith, nat_tests), grind (arith, nat_tests))

past : (from to first last : ℕ) → from ≤ first → ¬ ((from ≤ first) × (last ≤ to)) → to < last
past from to first last late out = elim (cases_lt to last) [ inl after ↦ after | inr within ↦ absurd (out (late, within)) ]

whole-stays : (whole : Option Figures) (time end : ℕ) → time ≤ end → IfSome whole (λ f. f.t_last < time) → IfSome whole (λ f. f.t_last < end)
whole-stays None time end order behind = tt
whole-stays (Some f) time end order behind = omega (arith, behind)

whole-joined : (whole : Option Figures) (f : Figures) → IfSome (joined_with whole f) (λ g. g.t_last < f.t_last + 1)
whole-joined None f = omega arith
whole-joined (Some g) f = omega arith

whole-behind : (whole : Option Figures) (w : Window) (b : Bool) → IfSome whole (λ f. f.t_last < w.summary.t_last + 1) →
    IfSome (if b then joined_with whole w.summary else whole) (λ f. f.t_last < w.summary.t_last + 1)
whole-behind whole w true behind = whole-joined whole w.summary
whole-behind whole w false behind = behind

-- what is left of two split windows with one more
module _ (landmarks : List Landmark) (kind : Kind) (from to : ℕ) (seen : Seen) (ws : List Window) (w : Window) (is : IsSeen landmarks kind from to seen ws)
    (later : seen.next_time ≤ w.summary.t_first)
    (rises : w.summary.t_first ≤ w.summary.t_last) where
  cut : Cut
  cut = cut_of landmarks from to w

  left_early : w.summary.t_first < from → seen.left ≡ None
  left_early early = ruled_out seen.left (from < seen.next_time) is.left_behind (λ behind. omega arith)

  right_early : w.summary.t_first ≤ to → seen.right ≡ None
  right_early early = ruled_out seen.right (to + 1 < seen.next_time) is.right_behind (λ behind. omega arith)

  cuts-push : is_split from to w ≡ true → listed seen.left seen.right ++ cut ∷ [] ≡ map (cut_of landmarks from to) (filter (is_split from to) (ws ++ w ∷ []))
  unfolding cut
  cuts-push split =
      ap (λ l. l ++ cut ∷ []) is.cuts ∙ sym (map-append (cut_of landmarks from to) (filter (is_split from to) ws) (w ∷ []))
      ∙ sym (ap (map (cut_of landmarks from to)) (filter-push (is_split from to) ws w split))

  cuts-same : is_split from to w ≡ false → listed seen.left seen.right ≡ map (cut_of landmarks from to) (filter (is_split from to) (ws ++ w ∷ []))
  cuts-same unsplit = is.cuts ∙ sym (ap (map (cut_of landmarks from to)) (filter-same (is_split from to) ws w unsplit))

  record Cuts : Type 0 where
    all : listed (left_with landmarks from to seen.left w) (right_with landmarks from to seen.right w)
        ≡ map (cut_of landmarks from to) (filter (is_split from to) (ws ++ w ∷ []))
    left_behind : IfSome (left_with landmarks from to seen.left w) (λ s. from < w.summary.t_last + 1)
    right_behind : IfSome (right_with landmarks from to seen.right w) (λ s. to + 1 < w.summary.t_last + 1)

  left_stays : IfSome seen.left (λ s. from < w.summary.t_last + 1)
  left_stays = if_weaker seen.left (from < seen.next_time) (from < w.summary.t_last + 1) (λ behind. omega arith) is.left_behind

  right_stays : IfSome seen.right (λ s. to + 1 < w.summary.t_last + 1)
  right_stays = if_weaker seen.right (to + 1 < seen.next_time) (to + 1 < w.summary.t_last + 1) (λ behind. omega arith) is.right_behind

  cuts-early : is_split from to w ≡ true → w.summary.t_first < from → Cuts
  unfolding cut
  cuts-early split early =
      let place = lies from to w.summary.t_first w.summary.t_last split in
      let tests = is_early from w.summary.t_first early in
      let now = left-here landmarks from to seen.left seen.right w split tests.0 in
      let same = right-early landmarks from to seen.left seen.right w tests.1 in
      record {
        all = ap₂ listed now same ∙ listed-first seen.left seen.right cut (left_early early) (right_early place.begins) ∙ cuts-push split;
        left_behind = rw now (omega (arith, place.ends));
        right_behind = rw same right_stays;
      }

  cuts-late : is_split from to w ≡ true → from ≤ w.summary.t_first → Cuts
  unfolding cut
  cuts-late split late =
      let place = lies from to w.summary.t_first w.summary.t_last split in
      let tests = is_late from w.summary.t_first late in
      let same = left-late landmarks from to seen.left seen.right w tests.0 in
      let now = right-here landmarks from to seen.left seen.right w split tests.1 in
      let out : to < w.summary.t_last = past from to w.summary.t_first w.summary.t_last late place.out in
      record {
        all = ap₂ listed same now ∙ listed-second seen.left seen.right cut (right_early place.begins) ∙ cuts-push split;
        left_behind = rw same left_stays;
        right_behind = rw now (omega (arith, out));
      }

  cuts-none : is_split from to w ≡ false → Cuts
  cuts-none unsplit =
      let left = left-unsplit landmarks from to seen.left seen.right w unsplit in
      let right = right-unsplit landmarks from to seen.left seen.right w unsplit in
      record {
        all = ap₂ listed left right ∙ cuts-same unsplit;
        left_behind = rw left left_stays;
        right_behind = rw right right_stays;
      }

  cuts-more : Cuts
  cuts-more = elim (cases_Bool (is_split from to w)) [
    | inl split ↦ elim (cases_lt w.summary.t_first from) [ inl early ↦ cuts-early split early | inr late ↦ cuts-late split late ]
    | inr unsplit ↦ cuts-none unsplit
  ]

  whole_behind-more : IfSome (whole_with from to seen.whole w) (λ f. f.t_last < w.summary.t_last + 1)
  whole_behind-more =
      whole-behind seen.whole w (is_whole from to w)
      (whole-stays seen.whole seen.next_time (w.summary.t_last + 1) (omega arith) is.whole_behind)

  pub IsSeen-more : IsSeen landmarks kind from to (seen_with landmarks kind from to seen w) (ws ++ w ∷ [])
  IsSeen-more = record {
    marked = is.marked;
    known = known-with from to seen.whole ws w is.known;
    cuts = cuts-more.all;
    left_behind = cuts-more.left_behind;
    right_behind = cuts-more.right_behind;
    whole_behind = whole_behind-more;
    presence = ap (λ known. presence_with landmarks kind from to known w) is.presence ∙ presence-more landmarks kind from to ws w;
  }

-- what is known of a stream, of its landmarks and of the windows one after the other
pub IsSeen-after : (landmarks : List Landmark) (kind : Kind) (from to : ℕ) (seen : Seen) (ws : List Window) (w : Window) →
    IsSeen landmarks kind from to seen ws → seen.next_time ≤ w.summary.t_first → w.summary.t_first ≤ w.summary.t_last →
    IsSeen landmarks kind from to (seen_after landmarks kind from to seen w) (ws ++ w ∷ [])
    × ((seen_after landmarks kind from to seen w).next_time ≤ w.summary.t_last + 1)
IsSeen-after landmarks kind from to seen ws w is later rises =
    let P : Seen → Type 0 = λ now. IsSeen landmarks kind from to now (ws ++ w ∷ []) × (now.next_time ≤ w.summary.t_last + 1) in
    elim (cases_Bool (is_apart from to w)) [
      | inl apart ↦
          rw cond-true (IsSeen-skip landmarks kind from to seen ws w apart rises is, omega (arith, later, rises))
      | inr meets ↦
          rw cond-false (IsSeen-more landmarks kind from to seen ws w is later rises, omega arith)
    ]

IsSeen-fold : (landmarks : List Landmark) (kind : Kind) (from to : ℕ) (seen : Seen) (gone : List Window) (first time : ℕ) (ws : List Window) →
    StandFrom first time ws → seen.next_time ≤ time → IsSeen landmarks kind from to seen gone →
    IsSeen landmarks kind from to (fold (seen_after landmarks kind from to) seen ws) (gone ++ ws)
IsSeen-fold landmarks kind from to seen gone first time [] stand soon is = rw append-nil is
IsSeen-fold landmarks kind from to seen gone first time (w ∷ ws) stand soon is =
    let possible = stand.1 in
    let some = possible.count_low in
    let long = possible.times in
    let begins = stand.2 in
    let next = seen_after landmarks kind from to seen w in
    let one = IsSeen-after landmarks kind from to seen gone w is (omega (arith, soon, begins)) (omega (arith, some, long)) in
    rw append_assoc at (IsSeen-fold landmarks kind from to next (gone ++ w ∷ []) (first + w.summary.count) (w.summary.t_last + 1) ws stand.3 one.1 one.0)

pub IsSeen-seen_of : (kind : Kind) (from to : ℕ) (s : Stream) → IsStream s → IsSeen s.landmarks kind from to (seen_of kind from to s) s.windows
IsSeen-seen_of kind from to s is =
    IsSeen-fold s.landmarks kind from to (marks_seen kind (values_between s.landmarks from to)) [] 1 0 s.windows is.windows.stand (omega arith)
    (IsSeen-none s.landmarks kind from to)
