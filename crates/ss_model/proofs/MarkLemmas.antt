-- The landmarks of a stream: their latest time, and which times stay free when they change and when windows are joined.
use Rattle.ss_model.proofs.Common.{◌≡◌, ℕ, ◌+◌, ◌-◌, ◌<◌, ◌≤◌, true, false, ◌&&◌, List, [], ◌∷◌, map, max, refl, ap, sym, subst, ◌∙◌, arith, None, Some}
use Rattle.ss_model.proofs.Common.{IfSome, MatchOption, inl, inr, All, ◌⊎◌, nat_le, is_some, list_all, cases_Bool, cond-true, cond-false, le-leb, and_parts}
use Rattle.ss_model.proofs.Common.{All-nil, All-head, All-tail, All-cons, free, is_free, Landmark, LandmarkValue, closed_at, open_landmark, AreLandmarks}
use Rattle.ss_model.proofs.Common.{free-add, IsPossible, Point, joined_window, has_open, later, latest_of, with_closed, with_marked, with_opened}
use Rattle.ss_model.proofs.Common.{single_window, AreNeighbours, AreWindows, StandFrom, newest_time, Window}
use Rattle.std.proofs.Common.{ℤ}
use Rattle.std.proofs.Common.{Option, is_none}
use Rattle.std.specs.Prelude.{option_to_list}
use Rattle.std.specs.List.{fold}
use Rattle.std.proofs.lemmas.Bool.{and_right, lt-leb, leb-true}
use Rattle.ss_landmarks.specs.Free.{covers}
use Rattle.ss_landmarks.specs.Order.{AllEndBy, EndsBy, FollowFrom}
use Rattle.ss_landmarks.proofs.Counting.{among-all, among-same}
use Rattle.ss_landmarks.proofs.OrderLemmas.{cases-finish}
use Rattle.ss_model.specs.Marks.{latest_in, lies_free}

-- ---- the latest time

-- the greatest of some times and of one more is none before any of them
fold-max : (t : ℕ) (ts : List ℕ) → (t ≤ fold max t ts) × All (λ u. u ≤ fold max t ts) ts
fold-max t [] = (omega arith, All-nil (λ u. u ≤ t))
fold-max t (u ∷ us) =
    let rest = fold-max (max t u) us in
    (omega (arith, rest.0), All-cons (λ x. x ≤ fold max (max t u) us) u us (omega (arith, rest.0)) rest.1)

times-by : (values : List LandmarkValue) (m last : ℕ) → m ≤ last → All (λ t. t ≤ m) (map (λ (value : LandmarkValue). value.t) values) →
    All (λ (value : LandmarkValue). value.t ≤ last) values
times-by [] m last le all = All-nil (λ (value : LandmarkValue). value.t ≤ last)
times-by (x ∷ xs) m last le all =
    let times = map (λ (value : LandmarkValue). value.t) xs in
    let here = All-head (λ t. t ≤ m) x.t times all in
    All-cons (λ (value : LandmarkValue). value.t ≤ last) x xs (omega (arith, here)) (times-by xs m last le (All-tail (λ t. t ≤ m) x.t times all))

pub finish-by : (start last : ℕ) (finish : Option ℕ) → fold max start (option_to_list finish) ≤ last → IfSome finish (λ t. t ≤ last)
finish-by start last None le = tt
finish-by start last (Some t) le = omega (arith, le)

pub EndsBy-latest_in : (l : Landmark) (last : ℕ) → latest_in l ≤ last → EndsBy last l
EndsBy-latest_in l last le =
    let times = map (λ (value : LandmarkValue). value.t) l.values in
    let begun = fold max l.start (option_to_list l.finish) in
    let first = fold-max l.start (option_to_list l.finish) in
    let all = fold-max begun times in
    let end : begun ≤ last = omega (arith, all.0, le) in
    (omega (arith, first.0, end), finish-by l.start last l.finish end, times-by l.values (latest_in l) last le all.1)

pub later-le : (o p : Option ℕ) (last : ℕ) → IfSome (later o p) (λ t. t ≤ last) → IfSome o (λ t. t ≤ last) × IfSome p (λ t. t ≤ last)
later-le None p last by = (tt, by)
later-le (Some t) None last by = (by, tt)
later-le (Some t) (Some u) last by = (omega (arith, by), omega (arith, by))

pub AllEndBy-latest : (ls : List Landmark) (last : ℕ) → IfSome (latest_of ls) (λ t. t ≤ last) → AllEndBy last ls
AllEndBy-latest [] last by = All-nil (EndsBy last)
AllEndBy-latest (l ∷ ls) last by =
    let both = later-le (Some (latest_in l)) (latest_of ls) last by in
    All-cons (EndsBy last) l ls (EndsBy-latest_in l last both.0) (AllEndBy-latest ls last both.1)

-- none of the times is after the later of the latest and another
pub ends-latest : (o : Option ℕ) (ls : List Landmark) (last : ℕ) → later o (latest_of ls) ≡ Some last → AllEndBy last ls
ends-latest o ls last is =
    AllEndBy-latest ls last (later-le o (latest_of ls) last (subst (λ (p : Option ℕ). IfSome p (λ t. t ≤ last)) (sym is) (omega arith))).1

pub some-later : (t : ℕ) (p : Option ℕ) → later (Some t) p ≡ None → ⊥
some-later t None is = cc
some-later t (Some u) is = cc

none-both : (o p : Option ℕ) → later o p ≡ None → p ≡ None
none-both None p is = is
none-both (Some t) p is = absurd (some-later t p is)

pub none-marked : (ls : List Landmark) → latest_of ls ≡ None → ls ≡ []
none-marked [] is = refl
none-marked (l ∷ ls) is = absurd (some-later (latest_in l) (latest_of ls) is)

-- where there is no time, there is no landmark
pub none-latest : (o : Option ℕ) (ls : List Landmark) → later o (latest_of ls) ≡ None → ls ≡ []
none-latest o ls is = none-marked ls (none-both o (latest_of ls) is)

-- a time by which landmarks and another time end
pub record EndBy (o : Option ℕ) (ls : List Landmark) (last : ℕ) : Type 0 where
  pub is : later o (latest_of ls) ≡ Some last
  pub marks : AllEndBy last ls
  pub other : (t : ℕ) → o ≡ Some t → t ≤ last

-- nothing has a time
pub record NoTime (o : Option ℕ) (ls : List Landmark) : Type 0 where
  pub is : later o (latest_of ls) ≡ None
  pub marks : ls ≡ []
  pub other : o ≡ None

none-first : (o p : Option ℕ) → later o p ≡ None → o ≡ None
none-first None p is = refl
none-first (Some t) p is = absurd (some-later t p is)

le-IfSome : (o : Option ℕ) (last : ℕ) → IfSome o (λ t. t ≤ last) → (t : ℕ) → o ≡ Some t → t ≤ last
le-IfSome o last by t is = subst (λ (p : Option ℕ). IfSome p (λ u. u ≤ last)) is by

end-at : (o : Option ℕ) (ls : List Landmark) (found : Option ℕ) → later o (latest_of ls) ≡ found → NoTime o ls ⊎ ((last : ℕ) × EndBy o ls last)
end-at o ls None is = inl (record { is = is; marks = none-latest o ls is; other = none-first o (latest_of ls) is })
end-at o ls (Some last) is =
    let by : IfSome (later o (latest_of ls)) (λ t. t ≤ last) = subst (λ (p : Option ℕ). IfSome p (λ t. t ≤ last)) (sym is) (omega arith) in
    inr (last, record { is = is; marks = ends-latest o ls last is; other = le-IfSome o last (later-le o (latest_of ls) last by).0 })

-- nothing has a time, or all ends by the last one
pub cases_end : (o : Option ℕ) (ls : List Landmark) → NoTime o ls ⊎ ((last : ℕ) × EndBy o ls last)
cases_end o ls = end-at o ls (later o (latest_of ls)) refl

-- ---- which times are free

-- none covers a time where the first doesn't and no other does
is_free-cons : (l : Landmark) (ls : List Landmark) (t : ℕ) → covers l t ≡ false → is_free ls t ≡ true → is_free (l ∷ ls) t ≡ true
is_free-cons l ls t apart free = rw apart free

-- where the rest leaves a time free or not alike, and so does the first
is_free-same_first : (l m : Landmark) (ls ms : List Landmark) (t : ℕ) → covers l t ≡ covers m t → is_free ls t ≡ is_free ms t →
    is_free (l ∷ ls) t ≡ is_free (m ∷ ms) t
is_free-same_first l m ls ms t first rest = elim (cases_Bool (covers m t)) [
  | inl covered ↦ let also : covers l t ≡ true = first ∙ covered in rw (covered, also) refl
  | inr left ↦ let also : covers l t ≡ false = first ∙ left in rw (left, also) rest
]

not-covered : (l : Landmark) (t finish : ℕ) → l.finish ≡ Some finish → finish < t → covers l t ≡ false
not-covered l t finish is lt = rw is (and_right (nat_le l.start t) (nat_le t finish) (lt-leb t finish lt))

-- the times after the end of landmarks of which none is open
pub free-later : (ls : List Landmark) (last t : ℕ) → AllEndBy last ls → open_landmark ls ≡ None → last < t → is_free ls t ≡ true
free-later [] last t ends none lt = refl
free-later (l ∷ ls) last t ends none lt = elim (cases-finish l.finish) [
  | inl begun ↦
      absurd (let is : open_landmark (l ∷ ls) ≡ Some l = cond-true (is_none l.finish) (Some l) (open_landmark ls) (ap is_none begun) in
      let wrong : Some l ≡ None = sym is ∙ none in cc)
  | inr some ↦
      (let is : open_landmark (l ∷ ls) ≡ open_landmark ls = cond-false (is_none l.finish) (Some l) (open_landmark ls) (ap is_none some.1) in
      let by : some.0 ≤ last = subst (λ (f : Option ℕ). IfSome f (λ finish. finish ≤ last)) some.1 (All-head (EndsBy last) l ls ends).1 in
      is_free-cons l ls t (not-covered l t some.0 some.1 (omega (arith, by)))
      (free-later ls last t (All-tail (EndsBy last) l ls ends) (sym is ∙ none) lt))
]

-- the times before an opening stay as they were, all times when a value is taken, and those up to a closing
pub is_free-opened : (ls : List Landmark) (t u : ℕ) → u < t → is_free (with_opened ls t) u ≡ is_free ls u
is_free-opened [] t u lt = rw (lt-leb t u lt) refl
is_free-opened (l ∷ ls) t u lt = is_free-same_first l l (with_opened ls t) ls u refl (is_free-opened ls t u lt)

pub is_free-marked : (ls : List Landmark) (t : ℕ) (v : ℤ) (u : ℕ) → is_free (with_marked ls t v) u ≡ is_free ls u
is_free-marked [] t v u = refl
is_free-marked (l ∷ []) t v u = refl
is_free-marked (l ∷ next ∷ ls) t v u =
    is_free-same_first l l (with_marked (next ∷ ls) t v) (next ∷ ls) u refl (is_free-marked (next ∷ ls) t v u)

-- an open landmark that is closed later covers the same of the times up to then
covers-closed : (l : Landmark) (t u : ℕ) → l.finish ≡ None → u ≤ t → covers (closed_at t l) u ≡ covers l u
covers-closed l t u is le = rw (is, le-leb u t le) refl

closed-alike : (from : ℕ) (ls : List Landmark) (t u : ℕ) → FollowFrom from ls → has_open ls ≡ true → u ≤ t → is_free (with_closed ls t) u ≡ is_free ls u
closed-alike from [] t u order begun le = (let wrong : false ≡ true = begun in cc)
closed-alike from (l ∷ []) t u order begun le = elim (cases-finish l.finish) [
  | inl is ↦ is_free-same_first (closed_at t l) l [] [] u (covers-closed l t u is le) refl
  | inr some ↦ (let wrong : false ≡ true = rw some.1 at begun in cc)
]
closed-alike from (l ∷ next ∷ ls) t u order begun le = elim (cases-finish l.finish) [
  | inl is ↦
      absurd (let last : next ∷ ls ≡ [] = subst (λ (f : Option ℕ). MatchOption f (next ∷ ls ≡ []) (λ finish. FollowFrom (finish + 1) (next ∷ ls))) is
      order.2 in cc)
  | inr some ↦
      (let later : FollowFrom (some.0 + 1) (next ∷ ls) =
      subst (λ (f : Option ℕ). MatchOption f (next ∷ ls ≡ []) (λ finish. FollowFrom (finish + 1) (next ∷ ls))) some.1 order.2 in
      let passed : open_landmark (l ∷ next ∷ ls) ≡ open_landmark (next ∷ ls) =
      cond-false (is_none l.finish) (Some l) (open_landmark (next ∷ ls)) (ap is_none some.1) in
      is_free-same_first l l (with_closed (next ∷ ls) t) (next ∷ ls) u refl
      (closed-alike (some.0 + 1) (next ∷ ls) t u later (ap is_some (sym passed) ∙ begun) le))
]

pub is_free-closed : (ls : List Landmark) (t u : ℕ) → AreLandmarks ls → has_open ls ≡ true → u ≤ t → is_free (with_closed ls t) u ≡ is_free ls u
is_free-closed ls t u order begun le = closed-alike 0 ls t u order begun le

-- as many are free among landmarks that leave the same times free
pub free-same : (ls ms : List Landmark) (p q : ℕ) → ((u : ℕ) → p ≤ u → u ≤ q → is_free ls u ≡ is_free ms u) → free ls p q ≡ free ms p q
free-same ls ms p q same = among-same (is_free ls) (is_free ms) p (q + 1 - p) (λ u low high. same u low (omega arith))

pub free-opened : (ls : List Landmark) (t p q : ℕ) → q < t → free (with_opened ls t) p q ≡ free ls p q
free-opened ls t p q lt = free-same (with_opened ls t) ls p q (λ u low high. is_free-opened ls t u (omega arith))

pub free-marked : (ls : List Landmark) (t : ℕ) (v : ℤ) (p q : ℕ) → free (with_marked ls t v) p q ≡ free ls p q
free-marked ls t v p q = free-same (with_marked ls t v) ls p q (λ u low high. is_free-marked ls t v u)

pub free-closed : (ls : List Landmark) (t p q : ℕ) → AreLandmarks ls → has_open ls ≡ true → q ≤ t → free (with_closed ls t) p q ≡ free ls p q
free-closed ls t p q order begun le = free-same (with_closed ls t) ls p q (λ u low high. is_free-closed ls t u order begun (omega arith))

-- ---- windows that lie free

-- a window lies free or not alike among landmarks that leave the same times up to its end free
pub lies_free-same : (ls ms : List Landmark) (w : Window) → w.summary.t_first ≤ w.summary.t_last →
    ((u : ℕ) → u ≤ w.summary.t_last → is_free ls u ≡ is_free ms u) → lies_free ls w ≡ lies_free ms w
unfolding lies_free
lies_free-same ls ms w rising same =
    rw (
      same w.summary.t_first rising,
      same w.summary.t_last (omega arith),
      free-same ls ms w.summary.t_first w.summary.t_last (λ u low high. same u high),
    ) refl

-- the first of some windows ends by the newest time
ends-newest : (first time : ℕ) (w : Window) (ws : List Window) (last : ℕ) → StandFrom first time (w ∷ ws) →
    ((newest : ℕ) → newest_time (w ∷ ws) ≡ Some newest → newest ≤ last) → w.summary.t_last ≤ last
ends-newest first time w [] last stands newest = newest w.summary.t_last refl
ends-newest first time w (v ∷ vs) last stands newest =
    let next = stands.3 in
    let later = ends-newest (first + w.summary.count) (w.summary.t_last + 1) v vs last next newest in
    omega (arith, later, next.1, next.2)

newest-rest : (w : Window) (ws : List Window) (last : ℕ) → ((newest : ℕ) → newest_time (w ∷ ws) ≡ Some newest → newest ≤ last) →
    (newest : ℕ) → newest_time ws ≡ Some newest → newest ≤ last
newest-rest w [] last by newest is = cc
newest-rest w (v ∷ vs) last by newest is = by newest is

stand_free-same : (ls ms : List Landmark) (first time : ℕ) (ws : List Window) (last : ℕ) → StandFrom first time ws →
    ((newest : ℕ) → newest_time ws ≡ Some newest → newest ≤ last) → ((u : ℕ) → u ≤ last → is_free ls u ≡ is_free ms u) →
    list_all (lies_free ls) ws ≡ list_all (lies_free ms) ws
stand_free-same ls ms first time [] last stands newest same = refl
stand_free-same ls ms first time (w ∷ ws) last stands newest same =
    let rising : w.summary.t_first ≤ w.summary.t_last = omega (arith, stands.1) in
    let end : w.summary.t_last ≤ last = ends-newest first time w ws last stands newest in
    let here = lies_free-same ls ms w rising (λ u le. same u (omega arith)) in
    let rest = stand_free-same ls ms (first + w.summary.count) (w.summary.t_last + 1) ws last stands.3 (newest-rest w ws last newest) same in
    λ i. here i && rest i

-- and so do windows where all times are free alike
pub lie_free-same_all : (ls ms : List Landmark) (ws : List Window) → ((u : ℕ) → is_free ls u ≡ is_free ms u) →
    list_all (lies_free ls) ws ≡ list_all (lies_free ms) ws
unfolding lies_free
lie_free-same_all ls ms [] same = refl
lie_free-same_all ls ms (w ∷ ws) same =
    let first = same w.summary.t_first in
    let last = same w.summary.t_last in
    let few = free-same ls ms w.summary.t_first w.summary.t_last (λ u low high. same u) in
    let rest = lie_free-same_all ls ms ws same in
    λ i. (first i && last i && nat_le w.summary.count (few i)) && rest i

-- and so do windows that end by a time, where the times up to that one are free alike
pub lie_free-same : (ls ms : List Landmark) (ws : List Window) (last : ℕ) → AreWindows ws → ((newest : ℕ) → newest_time ws ≡ Some newest → newest ≤ last) →
    ((u : ℕ) → u ≤ last → is_free ls u ≡ is_free ms u) → list_all (lies_free ls) ws ≡ list_all (lies_free ms) ws
lie_free-same ls ms ws last tiles newest same = stand_free-same ls ms 1 0 ws last tiles.stand newest same

-- what it is to lie free
pub record LiesFree (ls : List Landmark) (w : Window) : Type 0 where
  pub first : is_free ls w.summary.t_first ≡ true
  pub last : is_free ls w.summary.t_last ≡ true
  pub few : w.summary.count ≤ free ls w.summary.t_first w.summary.t_last

pub LiesFree-lies_free : (ls : List Landmark) (w : Window) → lies_free ls w ≡ true → LiesFree ls w
unfolding lies_free
LiesFree-lies_free ls w is =
    let few = nat_le w.summary.count (free ls w.summary.t_first w.summary.t_last) in
    let parts = and_parts (is_free ls w.summary.t_first && is_free ls w.summary.t_last) few is in
    let ends = and_parts (is_free ls w.summary.t_first) (is_free ls w.summary.t_last) parts.0 in
    record { first = ends.0; last = ends.1; few = leb-true w.summary.count (free ls w.summary.t_first w.summary.t_last) parts.1 }

pub lies_free-LiesFree : (ls : List Landmark) (w : Window) → LiesFree ls w → lies_free ls w ≡ true
unfolding lies_free
lies_free-LiesFree ls w lies = rw (lies.first, lies.last) (le-leb w.summary.count (free ls w.summary.t_first w.summary.t_last) lies.few)

-- a value at a free time lies free
pub lies_free-single : (ls : List Landmark) (position : ℕ) (p : Point) → is_free ls p.0 ≡ true → lies_free ls (single_window position p) ≡ true
lies_free-single ls position p is =
    let t = p.0 in
    let one : free ls t t ≡ t + 1 - t = among-all (is_free ls) t (t + 1 - t) (λ u low high. let here : u ≡ t = omega arith in ap (is_free ls) here ∙ is) in
    lies_free-LiesFree ls (single_window position p) (record { first = is; last = is; few = omega (arith, one) })

-- two that lie free lie so as one
pub lies_free-joined : (ls : List Landmark) (w v : Window) → AreNeighbours w v → IsPossible w.summary → IsPossible v.summary →
    lies_free ls w ≡ true → lies_free ls v ≡ true → lies_free ls (joined_window w v) ≡ true
lies_free-joined ls w v pair front back first second =
    let one = LiesFree-lies_free ls w first in
    let two = LiesFree-lies_free ls v second in
    let gap = free ls (w.summary.t_last + 1) (v.summary.t_first - 1) in
    let next : v.summary.t_first - 1 + 1 ≡ v.summary.t_first = omega (arith, pair.times) in
    let rest : gap + free ls v.summary.t_first v.summary.t_last ≡ free ls (w.summary.t_last + 1) v.summary.t_last =
    ap (λ t. gap + free ls t v.summary.t_last) (sym next)
    ∙ free-add ls (w.summary.t_last + 1) (v.summary.t_first - 1) v.summary.t_last (omega (arith, pair.times)) (omega (arith, back)) in
    let whole = free-add ls w.summary.t_first w.summary.t_last v.summary.t_last (omega (arith, front)) (omega (arith, pair.times, back)) in
    lies_free-LiesFree ls (joined_window w v)
    (record { first = one.first; last = two.last; few = omega (arith, one.few, two.few, rest, whole) })
