-- The latest time of landmarks, as values come to the last of them.
use Rattle.std.proofs.Common.{[], ◌∷◌, ◌≤◌, arith, fold, List, max, ℕ, IfSome, None, Option, Some, map, ◌≡◌, ◌∙◌, ap, ◌++◌, refl}
use Rattle.std.specs.List.{AllByRecursion}
use Rattle.std.specs.Prelude.{option_to_list}
use Rattle.std.proofs.lemmas.List.Elements.{recursion_from_All, All-head, All-tail}
use Rattle.std.proofs.lemmas.List.Sums.{fold-append}
use Rattle.std.proofs.lemmas.List.{map-append}
use Rattle.ss_landmarks.specs.Landmark.{Landmark, LandmarkValue, closed_at, with_value}
use Rattle.ss_landmarks.specs.Order.{EndsBy, AllEndBy}
use Rattle.ss_model.specs.Marks.{latest_in, later, latest_of}
use Rattle.ss_parts.proofs.Lists.{map-all}

-- the greatest of some times
fold-most : (t u : ℕ) (ts : List ℕ) → t ≤ u → AllByRecursion (λ x. x ≤ u) ts → fold max t ts ≤ u
fold-most t u [] le all = le
fold-most t u (x ∷ xs) le all = let first = all.0 in fold-most (max t x) u xs (omega arith) all.1

fold-least : (t : ℕ) (ts : List ℕ) → t ≤ fold max t ts
fold-least t [] = omega arith
fold-least t (x ∷ xs) = omega (arith, fold-least (max t x) xs)

begun-by : (start t : ℕ) (finish : Option ℕ) → start ≤ t → IfSome finish (λ f. f ≤ t) → fold max start (option_to_list finish) ≤ t
begun-by start t None first last = first
begun-by start t (Some f) first last = omega (arith, first, last)

abbrev times_of : Landmark → List ℕ
times_of l = map (λ (value : LandmarkValue). value.t) l.values

times-by : (t : ℕ) (l : Landmark) → EndsBy t l → AllByRecursion (λ u. u ≤ t) (times_of l)
times-by t l ends = map-all _ (λ (value : LandmarkValue). value.t) l.values (recursion_from_All (λ (value : LandmarkValue). value.t ≤ t) l.values ends.2)

latest_in-EndsBy : (l : Landmark) (t : ℕ) → EndsBy t l → latest_in l ≤ t
latest_in-EndsBy l t ends =
    fold-most (fold max l.start (option_to_list l.finish)) t (times_of l) (begun-by l.start t l.finish ends.0 ends.1) (times-by t l ends)

-- a landmark that takes a value, or that closes, at a time that none of its times is after
pub latest_in-closed : (l : Landmark) (t : ℕ) → EndsBy t l → latest_in (closed_at t l) ≡ t
latest_in-closed l t ends =
    let most = fold-most (max l.start t) t (times_of l) (omega (arith, ends.0)) (times-by t l ends) in
    let least = fold-least (max l.start t) (times_of l) in
    omega (arith, most, least)

pub latest_in-more : (l : Landmark) (value : LandmarkValue) → latest_in (with_value value l) ≡ max (latest_in l) value.t
latest_in-more l value =
    let begun = fold max l.start (option_to_list l.finish) in
    ap (fold max begun) (map-append (λ (v : LandmarkValue). v.t) l.values (value ∷ [])) ∙ fold-append max begun (times_of l) (value.t ∷ [])

pub latest_in-value : (l : Landmark) (value : LandmarkValue) → EndsBy value.t l → latest_in (with_value value l) ≡ value.t
latest_in-value l value ends = latest_in-more l value ∙ omega (arith, latest_in-EndsBy l value.t ends)

-- the latest time is that of the last one, where those before it end by then
pub latest_of-last : (ls : List Landmark) (l : Landmark) → AllEndBy (latest_in l) ls → latest_of (ls ++ l ∷ []) ≡ Some (latest_in l)
latest_of-last [] l ends = refl
latest_of-last (x ∷ xs) l ends =
    let here = latest_in-EndsBy x (latest_in l) (All-head (EndsBy (latest_in l)) x xs ends) in
    ap (later (Some (latest_in x))) (latest_of-last xs l (All-tail (EndsBy (latest_in l)) x xs ends)) ∙ ap Some (omega (arith, here))
