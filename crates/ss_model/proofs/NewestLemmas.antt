-- What is told of the newest value of a stream is true.
use Rattle.ss_model.proofs.Common.{◌≡◌, ◌∙◌, ℕ, suc, ◌+◌, ◌-◌, ◌<◌, ◌≤◌, Bool, List, [], ◌∷◌, ◌++◌, length, map, take, drop, refl, sym, ap, subst, arith}
use Rattle.ss_model.proofs.Common.{Some, None, inl, inr, ◌≤ℤ◌, All, Contains, nat_le, nat_lt, option_map, filter, cases_Bool, nat_tests, ints, clamps}
use Rattle.ss_model.proofs.Common.{append-nil, take-append-drop, All-append, All-cons, All-head, All-nil, Landmark, LandmarkValue, all_values, AreLandmarks}
use Rattle.ss_model.proofs.Common.{Point, greatest, least, summary_of, time_at_end, boundaries, later, latest_of, marked_values, newer, HoldsNewest, IsNewest}
use Rattle.ss_model.proofs.Common.{NewestLiesWithin, kept_point, RiseAtFree, same_name, Happened, landmarks_of, marked_of, values_of, newest_in, newest_of}
use Rattle.ss_model.proofs.Common.{IsHistory, IsStream, Created, Stream, standing, stream_after, stream_named, Newest, is_free, Rule, rule_of, stretches}
use Rattle.ss_model.proofs.Common.{time_at, time_of_last, windows, Known, Window}
use Rattle.std.proofs.Common.{ℤ}
use Rattle.std.proofs.Common.{Option}
use Rattle.std.specs.Prelude.{◌&&◌}
use Rattle.std.specs.List.{last_or}
use Rattle.std.proofs.lemmas.List.Elements.{Contains-append_left, Contains-append_right}
use Rattle.std.proofs.lemmas.Option.{none-some, same_Some}
use Rattle.ss_landmarks.specs.Newest.{newest_value}
use Rattle.ss_landmarks.specs.Order.{RiseFrom}
use Rattle.ss_landmarks.specs.ValuesIn.{lies_in}
use Rattle.ss_landmarks.proofs.OrderLemmas.{RiseFrom-all_values}
use Rattle.ss_model.specs.Newest.{known_exactly, known_in, newest_known, newest_told, newest_window}
use Rattle.ss_model.specs.State.{state}
use Rattle.ss_model.proofs.HistoryLemmas.{IsState-state}
use Rattle.ss_model.proofs.RisingLemmas.{named-after, values-rise}
use Rattle.ss_model.proofs.Stretches.{newest_time-windows}
use Rattle.std.specs.List.{find, position_or_len}
use Rattle.std.proofs.lemmas.List.Folds.{find_at}
use Rattle.std.proofs.lemmas.Option.{get_or_from_slice_get, slice_get_within}
use Rattle.ss_model.proofs.MarkLemmas.{none-latest, some-later}
use Rattle.ss_model.proofs.Rises.{Rises, Rises-boundaries, Rises-low}
use Rattle.ss_model.proofs.Stretches.{length-back}
use Rattle.ss_model.proofs.AnswerLemmas.{mapped}

-- ---- the last of a list

last_or-append : {A : Type 0} (o : Option A) (xs ys : List A) → last_or o (xs ++ ys) ≡ last_or (last_or o xs) ys
last_or-append o [] ys = refl
last_or-append o (x ∷ xs) ys = last_or-append (Some x) xs ys

last_or-some : {A : Type 0} (o : Option A) (xs : List A) (x : A) → last_or None xs ≡ Some x → last_or o xs ≡ Some x
last_or-some o [] x some = absurd (none-some x some)
last_or-some o (y ∷ ys) x some = some

some-last : {A : Type 0} (x : A) (xs : List A) → last_or (Some x) xs ≡ None → ⊥
some-last x [] none = none-some x (sym none)
some-last x (y ∷ ys) none = some-last y ys none

-- ---- the newest window of some values

-- the last of some values, by its time and by those from which to which it lies
record IsLast (values : List Point) (t : ℕ) (lo hi : ℤ) : Type 0 where
  value : Point
  last : last_or None values ≡ Some value
  time : t ≡ value.0
  low : lo ≤ℤ value.1
  high : value.1 ≤ℤ hi

IsLast-summary : (p : Point) (ps : List Point) → IsLast (p ∷ ps) (time_at_end p.0 ps) (least p.1 ps) (greatest p.1 ps)
IsLast-summary p [] = record { value = p; last = refl; time = refl; low = omega (arith, ints); high = omega (arith, ints) }
IsLast-summary p (r ∷ rs) =
    let rest = IsLast-summary r rs in
    record {
      value = rest.value;
      last = rest.last;
      time = rest.time;
      low = omega (arith, ints, clamps, rest.low);
      high = omega (arith, ints, clamps, rest.high);
    }

record EndsWith (values : List Point) (ws : List Window) : Type 0 where
  window : Window
  is : newest_window ws ≡ Some window
  value : IsLast values window.summary.t_last window.summary.min window.summary.max

-- a window more in front changes nothing
EndsWith-cut : (front rest : List Point) (w : Window) (ws : List Window) → 0 < length rest →
    ((r : Point) (rs : List Point) → rest ≡ r ∷ rs → EndsWith (r ∷ rs) ws) →
    EndsWith (front ++ rest) (w ∷ ws)
EndsWith-cut front [] w ws some behind = absurd (omega arith)
EndsWith-cut front (r ∷ rs) w ws some behind =
    let later = behind r rs refl in
    let value = later.value in
    record {
      window = later.window;
      is = last_or-some (Some w) ws later.window later.is;
      value = record {
        value = value.value;
        last = last_or-append None front (r ∷ rs) ∙ last_or-some (last_or None front) (r ∷ rs) value.value value.last;
        time = value.time;
        low = value.low;
        high = value.high;
      };
    }

EndsWith-stretches : (before end : ℕ) (bs : List ℕ) (p : Point) (ps : List Point) → before + length (p ∷ ps) ≡ end → Rises before bs end →
    EndsWith (p ∷ ps) (stretches (before + 1) bs (p ∷ ps))
EndsWith-stretches before end [] p ps count rising =
    record { window = record { first = before + 1; summary = summary_of (p ∷ ps) }; is = refl; value = IsLast-summary p ps }
EndsWith-stretches before end (b ∷ bs) p ps count rising =
    let k = b + 1 - (before + 1) in
    let below = Rises-low b bs end rising.1 in
    let rest = drop k (p ∷ ps) in
    let back : b + length rest ≡ end = length-back before b end (p ∷ ps) count rising.0 below in
    let w : Window = record { first = before + 1; summary = summary_of (take k (p ∷ ps)) } in
    let behind : (r : Point) (rs : List Point) → rest ≡ r ∷ rs → EndsWith (r ∷ rs) (stretches (b + 1) bs rest) =
    λ r rs is. subst (λ (values : List Point). EndsWith (r ∷ rs) (stretches (b + 1) bs values)) (sym is)
    (EndsWith-stretches b end bs r rs (ap (λ (values : List Point). b + length values) (sym is) ∙ back) rising.1) in
    subst (λ (values : List Point). EndsWith values (w ∷ stretches (b + 1) bs rest)) (take-append-drop k (p ∷ ps))
    (EndsWith-cut (take k (p ∷ ps)) rest w (stretches (b + 1) bs rest) (omega arith) behind)

-- ---- the newest of values at rising times

Contains-behind : (x q : Point) (xs : List Point) → Contains xs q → Contains (x ∷ xs) q
Contains-behind x q xs held = (suc held.0, omega (arith, held.1), held.2)

IsNewest-rising : (free : ℕ → Bool) (start : ℕ) (p : Point) (ps : List Point) (q : Point) → RiseAtFree free start (p ∷ ps) → last_or (Some p) ps ≡ Some q →
    IsNewest q (p ∷ ps)
IsNewest-rising free start p [] q rising last =
    let same : p ≡ q = same_Some p q last in
    record {
      among = (0, omega arith, same);
      latest = All-cons (λ (x : Point). x.0 ≤ q.0) p [] (omega (arith, ap (λ (x : Point). x.0) same)) (All-nil (λ (x : Point). x.0 ≤ q.0));
    }
IsNewest-rising free start p (r ∷ rs) q rising last =
    let rest = IsNewest-rising free (p.0 + 1) r rs q rising.2 last in
    let after = All-head (λ (x : Point). x.0 ≤ q.0) r rs rest.latest in
    record {
      among = Contains-behind p q (r ∷ rs) rest.among;
      latest = All-cons (λ (x : Point). x.0 ≤ q.0) p (r ∷ rs) (omega (arith, rising.2.0, after)) rest.latest;
    }

IsNewest-marked : (from : ℕ) (x : LandmarkValue) (xs : List LandmarkValue) (y : LandmarkValue) → RiseFrom from (x ∷ xs) → last_or (Some x) xs ≡ Some y →
    IsNewest (kept_point y) (map kept_point (x ∷ xs))
IsNewest-marked from x [] y rising last =
    let same : x ≡ y = same_Some x y last in
    record {
      among = (0, omega arith, ap kept_point same);
      latest = All-cons (λ (p : Point). p.0 ≤ y.t) (kept_point x) [] (omega (arith, ap (λ (v : LandmarkValue). v.t) same)) (All-nil (λ (p : Point). p.0 ≤ y.t));
    }
IsNewest-marked from x (z ∷ zs) y rising last =
    let rest = IsNewest-marked (x.t + 1) z zs y rising.3 last in
    let after = All-head (λ (p : Point). p.0 ≤ y.t) (kept_point z) (map kept_point zs) rest.latest in
    record {
      among = Contains-behind (kept_point x) (kept_point y) (map kept_point (z ∷ zs)) rest.among;
      latest = All-cons (λ (p : Point). p.0 ≤ y.t) (kept_point x) (map kept_point (z ∷ zs)) (omega (arith, rising.3.0, after)) rest.latest;
    }

All-earlier : (xs : List Point) (first last : ℕ) → first ≤ last → All (λ (q : Point). q.0 ≤ first) xs → All (λ (q : Point). q.0 ≤ last) xs
All-earlier xs first last order all k d below = let early = all k d below in omega arith

-- ---- what is known of the newest of some values

abbrev HoldsKnown : Option Known → List Point → Type 0
HoldsKnown None values = values ≡ []
HoldsKnown (Some known) values = NewestLiesWithin known.at known.lo known.hi values

known-windows : (free : ℕ → Bool) (rule : Rule) (plain : List Point) → RiseAtFree free 0 plain →
    HoldsKnown (option_map known_in (newest_window (windows rule plain))) plain
known-windows free rule [] rising = refl
known-windows free rule (p ∷ ps) rising =
    let n = length (p ∷ ps) in
    let end = EndsWith-stretches 0 n (boundaries rule (time_at (p ∷ ps)) n) p ps (omega arith) (Rises-boundaries rule (time_at (p ∷ ps)) n (omega arith)) in
    let value = end.value in
    rw end.is (record {
      value = value.value;
      newest = IsNewest-rising free 0 p ps value.value rising value.last;
      time = sym value.time;
      low = value.low;
      high = value.high;
    })

known-values : (values : List LandmarkValue) (newest : Option LandmarkValue) → RiseFrom 0 values → last_or None values ≡ newest →
    HoldsKnown (option_map known_exactly newest) (map kept_point values)
known-values [] None rising last = refl
known-values [] (Some y) rising last = absurd (none-some y last)
known-values (x ∷ xs) None rising last = absurd (some-last x xs last)
known-values (x ∷ xs) (Some y) rising last =
    record { value = kept_point y; newest = IsNewest-marked 0 x xs y rising last; time = refl; low = omega (arith, ints); high = omega (arith, ints) }

known-newer : (a b : Option Known) (xs ys : List Point) → HoldsKnown a xs → HoldsKnown b ys → HoldsKnown (newer a b) (xs ++ ys)
known-newer None b xs ys first second = subst (λ (front : List Point). HoldsKnown b (front ++ ys)) (sym first) second
known-newer (Some k) None xs ys first second =
    subst (λ (back : List Point). NewestLiesWithin k.at k.lo k.hi (xs ++ back)) (sym second)
    (subst (NewestLiesWithin k.at k.lo k.hi) (sym (append-nil xs)) first)
known-newer (Some k) (Some other) xs ys first second = elim (cases_Bool (nat_lt other.at k.at)) [
  | inl early ↦
      (let before : other.at < k.at = grind (arith, nat_tests) in
      rw early (record {
        value = first.value;
        newest = record {
          among = Contains-append_left xs ys first.value first.newest.among;
          latest = All-append (λ (q : Point). q.0 ≤ first.value.0) xs ys first.newest.latest
              (All-earlier ys second.value.0 first.value.0 (omega (arith, first.time, second.time)) second.newest.latest);
        };
        time = first.time;
        low = first.low;
        high = first.high;
      }))
  | inr late ↦
      (let after : k.at ≤ other.at = grind (arith, nat_tests) in
      rw late (record {
        value = second.value;
        newest = record {
          among = Contains-append_right xs ys second.value second.newest.among;
          latest = All-append (λ (q : Point). q.0 ≤ second.value.0) xs ys
              (All-earlier xs first.value.0 second.value.0 (omega (arith, first.time, second.time)) first.newest.latest) second.newest.latest;
        };
        time = second.time;
        low = second.low;
        high = second.high;
      }))
]

-- ---- what is told

no-values : (plain : List Point) (ls : List Landmark) → later (time_of_last plain) (latest_of ls) ≡ None → plain ++ marked_values ls ≡ []
no-values [] ls none = ap marked_values (none-latest None ls none)
no-values (p ∷ ps) ls none = absurd (some-later (time_at_end p.0 ps) (latest_of ls) none)

told-holds : (last : Option ℕ) (known : Option Known) (values : List Point) → (last ≡ None → values ≡ []) → HoldsKnown known values →
    HoldsNewest (newest_told last known) last values
told-holds None known values none holds = (refl, none refl)
told-holds (Some t) None values none holds = (refl, holds)
told-holds (Some t) (Some known) values none holds = (refl, holds)

-- what is told of the windows of some values and of landmarks holds of all of them
pub newest-holds : (free : ℕ → Bool) (rule : Rule) (plain : List Point) (ls : List Landmark) → RiseAtFree free 0 plain → AreLandmarks ls →
    HoldsNewest (newest_told (later (time_of_last plain) (latest_of ls)) (newest_known (windows rule plain) ls)) (later (time_of_last plain) (latest_of ls))
    (plain ++ marked_values ls)
newest-holds free rule plain ls rising order =
    told-holds (later (time_of_last plain) (latest_of ls)) (newest_known (windows rule plain) ls) (plain ++ marked_values ls) (no-values plain ls)
    (known-newer (option_map known_in (newest_window (windows rule plain))) (option_map known_exactly (newest_value ls)) plain (marked_values ls)
    (known-windows free rule plain rising) (known-values (all_values ls) (newest_value ls) (RiseFrom-all_values 0 ls order) refl))

-- ---- the streams of a state

-- what is told of a stream as a history leaves it
abbrev pub HoldsOf : List Happened → List ℕ → Newest → Type 0
HoldsOf history name told =
    HoldsNewest told (later (time_of_last (values_of history name)) (latest_of (landmarks_of history name))) (values_of history name ++ marked_of history name)

pub newest_of-holds : (history : List Happened) (c : Created) → IsHistory history → AreLandmarks (landmarks_of history c.name) →
    HoldsOf history c.name (newest_of (stream_after history c))
newest_of-holds history c whole order =
    let plain = values_of history c.name in
    let landmarks = landmarks_of history c.name in
    let last = later (time_of_last plain) (latest_of landmarks) in
    subst
    (λ (t : Option ℕ). HoldsNewest (newest_told (later t (latest_of landmarks)) (newest_known (windows (rule_of c.params) plain) landmarks)) last
    (plain ++ marked_of history c.name)) (sym (newest_time-windows (rule_of c.params) plain))
    (newest-holds (is_free landmarks) (rule_of c.params) plain landmarks (values-rise history c.name whole) order)

pub All-found : {X : Type 0} (P : X → Type 0) (p : X → Bool) (xs : List X) (x : X) → All P xs → find p xs ≡ Some x → P x
All-found P p xs x all found =
    let at = sym (find_at p xs) ∙ found in
    subst P (get_or_from_slice_get xs (position_or_len p xs) x x at) (all (position_or_len p xs) x (slice_get_within xs (position_or_len p xs) x at))

-- the same of the stream of a name
pub newest_in-holds : (history : List Happened) (name : List ℕ) (told : Newest) → IsHistory history → newest_in (state history) name ≡ Some told →
    HoldsOf history name told
unfolding state
newest_in-holds history name told whole is =
    let s = mapped newest_of (stream_named name (state history)) told is in
    let of = named-after history name (standing history) s.0 s.1 in
    let order = (All-found IsStream (λ (u : Stream). same_name name u.name) (state history) s.0 (IsState-state history whole).each s.1).landmarks in
    let here = newest_of-holds history of.created whole (subst (λ (u : Stream). AreLandmarks u.landmarks) of.is order) in
    subst (λ (n : List ℕ). HoldsOf history n told) of.named
    (subst (HoldsOf history of.created.name) s.2 (subst (λ (u : Stream). HoldsOf history of.created.name (newest_of u)) (sym of.is) here))

-- ---- the values of a range

pub filter-kept : (from to : ℕ) (values : List LandmarkValue) → map kept_point (filter (lies_in from to) values)
    ≡ filter (λ (p : Point). nat_le from p.0 && nat_le p.0 to) (map kept_point values)
filter-kept from to [] = refl
filter-kept from to (x ∷ xs) = elim (cases_Bool (lies_in from to x)) [
  | inl inside ↦ rw inside (ap (λ (ps : List Point). kept_point x ∷ ps) (filter-kept from to xs))
  | inr outside ↦ rw outside (filter-kept from to xs)
]
