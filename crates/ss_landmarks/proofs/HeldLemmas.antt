-- Landmarks as they are held: what they are seen as, and what an opening, a value and a closing change of it.
use Rattle.std.proofs.Common.{◌≡◌, ◌∙◌, sym, ap, refl, ℕ, ◌+◌, ◌<◌, ◌≤◌, not, List, [], ◌∷◌, ◌++◌, length, Option, Some, None, arith, take, drop}
use Rattle.std.specs.List.{list_any}
use Rattle.std.proofs.lemmas.Bool.{lt-leb, and_left, or_from}
use Rattle.std.proofs.lemmas.List.{append-nil, take-append-drop, take_all, take-append-le, drop-append-le, drop-drop, length-drop, nil_from_length}
use Rattle.std.proofs.lemmas.List.Elements.{All-tail}
use Rattle.std.proofs.lemmas.List.Sums.{sum_by-cons}
use Rattle.ss_landmarks.specs.Landmark.{Landmark, LandmarkValue, opened_at, with_value, closed_at, change_last, open_landmark, all_values}
use Rattle.ss_landmarks.specs.Free.{covers, is_free}
use Rattle.ss_landmarks.specs.Order.{IsClosedBefore, CanOpen}
use Rattle.ss_landmarks.specs.Stored.{landmarks_from, closed_values, open_with, one_open, slots_of, AreShared}
use Rattle.ss_landmarks.specs.declared.stored.Closed.{Closed}
use Rattle.ss_landmarks.specs.declared.stored.Opened.{Opened}

closed_values-cons : (c : Closed) (cs : List Closed) → closed_values (c ∷ cs) ≡ c.values + closed_values cs
closed_values-cons c cs = sum_by-cons (λ (x : Closed). x.values) c cs

-- ---- how many, and which values

pub length-landmarks_from : (cs : List Closed) (current : Option Opened) (values : List LandmarkValue)
    → length (landmarks_from cs current values) ≡ length cs + one_open current
length-landmarks_from [] None values = refl
length-landmarks_from [] (Some o) values = refl
length-landmarks_from (c ∷ cs) current values = omega (arith, length-landmarks_from cs current (drop c.values values))

pub length-slots_of : (cs : List Closed) (current : Option Opened) → length (slots_of cs current) ≡ length cs + one_open current
length-slots_of [] None = refl
length-slots_of [] (Some o) = refl
length-slots_of (c ∷ cs) current = omega (arith, length-slots_of cs current)

-- the values of the landmarks that are seen are those that are held
all_values-none : (cs : List Closed) (values : List LandmarkValue) → closed_values cs ≡ length values
    → all_values (landmarks_from cs None values) ≡ values
all_values-none [] values all = sym (nil_from_length values (omega (arith, all)))
all_values-none (c ∷ cs) values all =
    ap (λ (rest : List LandmarkValue). take c.values values ++ rest)
    (all_values-none cs (drop c.values values) (omega (arith, all, closed_values-cons c cs, length-drop c.values values)))
    ∙ take-append-drop c.values values

all_values-some : (cs : List Closed) (o : Opened) (values : List LandmarkValue) → closed_values cs ≤ length values
    → all_values (landmarks_from cs (Some o) values) ≡ values
all_values-some [] o values within = append-nil values
all_values-some (c ∷ cs) o values within =
    ap (λ (rest : List LandmarkValue). take c.values values ++ rest)
    (all_values-some cs o (drop c.values values) (omega (arith, within, closed_values-cons c cs, length-drop c.values values)))
    ∙ take-append-drop c.values values

pub all_values-landmarks_from : (cs : List Closed) (current : Option Opened) (values : List LandmarkValue)
    → AreShared cs current values → all_values (landmarks_from cs current values) ≡ values
all_values-landmarks_from cs None values shared = all_values-none cs values shared
all_values-landmarks_from cs (Some o) values shared = all_values-some cs o values shared.1

-- ---- which times they cover, whatever their values

is_covered-values : (u : ℕ) (cs : List Closed) (current : Option Opened) (values others : List LandmarkValue)
    → list_any (λ l. covers l u) (landmarks_from cs current values) ≡ list_any (λ l. covers l u) (landmarks_from cs current others)
is_covered-values u [] None values others = refl
is_covered-values u [] (Some o) values others = refl
is_covered-values u (c ∷ cs) current values others =
    let rest = is_covered-values u cs current (drop c.values values) (drop c.values others) in cc

pub is_free-values : (u : ℕ) (cs : List Closed) (current : Option Opened) (values others : List LandmarkValue)
    → is_free (landmarks_from cs current values) u ≡ is_free (landmarks_from cs current others) u
is_free-values u cs current values others = ap not (is_covered-values u cs current values others)

-- ---- the open one

pub open_landmark-none : (cs : List Closed) (values : List LandmarkValue) → open_landmark (landmarks_from cs None values) ≡ None
open_landmark-none [] values = refl
open_landmark-none (c ∷ cs) values = open_landmark-none cs (drop c.values values)

pub open_landmark-some : (cs : List Closed) (o : Opened) (values : List LandmarkValue)
    → open_landmark (landmarks_from cs (Some o) values) ≡ Some (open_with (drop (closed_values cs) values) o)
open_landmark-some [] o values = refl
open_landmark-some (c ∷ cs) o values =
    open_landmark-some cs o (drop c.values values)
    ∙ ap (λ (rest : List LandmarkValue). Some (open_with rest o)) (drop-drop (closed_values cs) c.values values ∙
    ap (λ (n : ℕ). drop n values) (sym (closed_values-cons c cs)))

-- ---- an opening

-- where one may be opened, none is open
pub CanOpen-some : (t : ℕ) (cs : List Closed) (o : Opened) (values : List LandmarkValue) → CanOpen (landmarks_from cs (Some o) values) t → ⊥
CanOpen-some t [] o values can = can 0 (open_with values o) (omega arith)
CanOpen-some t (c ∷ cs) o values can =
    CanOpen-some t cs o (drop c.values values)
    (All-tail (IsClosedBefore t) (record { start = c.start; finish = Some c.finish; values = take c.values values })
    (landmarks_from cs (Some o) (drop c.values values)) can)

pub landmarks_from-open : (cs : List Closed) (o : Opened) (values : List LandmarkValue) → closed_values cs ≡ length values
    → landmarks_from cs (Some o) values ≡ landmarks_from cs None values ++ opened_at o.start ∷ []
landmarks_from-open [] o values all =
    ap (λ (own : List LandmarkValue). open_with own o ∷ []) (nil_from_length values (omega (arith, all)))
landmarks_from-open (c ∷ cs) o values all =
    ap (λ (rest : List Landmark). record { start = c.start; finish = Some c.finish; values = take c.values values } ∷ rest)
    (landmarks_from-open cs o (drop c.values values) (omega (arith, all, closed_values-cons c cs, length-drop c.values values)))

-- before it opens the same times are free as without it
is_covered-open_later : (u : ℕ) (cs : List Closed) (o : Opened) (values : List LandmarkValue) → u < o.start
    → list_any (λ l. covers l u) (landmarks_from cs (Some o) values) ≡ list_any (λ l. covers l u) (landmarks_from cs None values)
is_covered-open_later u [] o values before = or_from _ _ (and_left _ _ (lt-leb o.start u before)) refl
is_covered-open_later u (c ∷ cs) o values before =
    let rest = is_covered-open_later u cs o (drop c.values values) before in cc

pub is_free-open_later : (u : ℕ) (cs : List Closed) (o : Opened) (values : List LandmarkValue) → u < o.start
    → is_free (landmarks_from cs (Some o) values) u ≡ is_free (landmarks_from cs None values) u
is_free-open_later u cs o values before = ap not (is_covered-open_later u cs o values before)

-- ---- a closing

change_last-cons : (change : Landmark → Landmark) (l : Landmark) (ls : List Landmark) → 0 < length ls
    → change_last change (l ∷ ls) ≡ l ∷ change_last change ls
change_last-cons change l [] some = absurd (omega arith)
change_last-cons change l (next ∷ ls) some = refl

module _ (o : Opened) (new : Closed) (starts : new.start ≡ o.start) where
  pub landmarks_from-close : (cs : List Closed) (values : List LandmarkValue) → closed_values cs + new.values ≡ length values
      → landmarks_from (cs ++ new ∷ []) None values ≡ change_last (closed_at new.finish) (landmarks_from cs (Some o) values)
  landmarks_from-close [] values all =
      let own : take new.values values ≡ values = take_all new.values values (omega (arith, all)) in
      rw (own, starts) refl
  landmarks_from-close (c ∷ cs) values all =
      let first : Landmark = record { start = c.start; finish = Some c.finish; values = take c.values values } in
      let rest = landmarks_from-close cs (drop c.values values) (omega (arith, all, closed_values-cons c cs, length-drop c.values values)) in
      ap (λ (ls : List Landmark). first ∷ ls) rest
      ∙ sym (change_last-cons (closed_at new.finish) first (landmarks_from cs (Some o) (drop c.values values))
      (omega (arith, length-landmarks_from cs (Some o) (drop c.values values))))

  is_covered-close : (u : ℕ) (cs : List Closed) (values : List LandmarkValue) → u < o.start
      → list_any (λ l. covers l u) (landmarks_from (cs ++ new ∷ []) None values) ≡ list_any (λ l. covers l u) (landmarks_from cs (Some o) values)
  is_covered-close u [] values before =
      or_from _ _ (and_left _ _ (lt-leb new.start u (omega arith))) refl ∙ sym (or_from _ _ (and_left _ _ (lt-leb o.start u before)) refl)
  is_covered-close u (c ∷ cs) values before =
      let rest = is_covered-close u cs (drop c.values values) before in cc

  pub is_free-close : (u : ℕ) (cs : List Closed) (values : List LandmarkValue) → u < o.start
      → is_free (landmarks_from (cs ++ new ∷ []) None values) u ≡ is_free (landmarks_from cs (Some o) values) u
  is_free-close u cs values before = ap not (is_covered-close u cs values before)

-- ---- a value

pub landmarks_from-take : (cs : List Closed) (o : Opened) (values : List LandmarkValue) (value : LandmarkValue) → closed_values cs ≤ length values
    → landmarks_from cs (Some o) (values ++ value ∷ []) ≡ change_last (with_value value) (landmarks_from cs (Some o) values)
landmarks_from-take [] o values value within = refl
landmarks_from-take (c ∷ cs) o values value within =
    let own : take c.values (values ++ value ∷ []) ≡ take c.values values =
    take-append-le c.values values (value ∷ []) (omega (arith, within, closed_values-cons c cs)) in
    let left : drop c.values (values ++ value ∷ []) ≡ drop c.values values ++ value ∷ [] =
    drop-append-le c.values values (value ∷ []) (omega (arith, within, closed_values-cons c cs)) in
    let first : Landmark = record { start = c.start; finish = Some c.finish; values = take c.values values } in
    rw (own, left)
    (ap (λ (ls : List Landmark). first ∷ ls)
    (landmarks_from-take cs o (drop c.values values) value (omega (arith, within, closed_values-cons c cs, length-drop c.values values)))
    ∙ sym (change_last-cons (with_value value) first (landmarks_from cs (Some o) (drop c.values values))
    (omega (arith, length-landmarks_from cs (Some o) (drop c.values values)))))
