-- What the three conditions on records of landmarks say: they are the records of the landmarks that they make.
use Rattle.ss_recover.proofs.Common.{[], ◌&&◌, ◌++◌, ◌+◌, ◌==◌, ◌||◌, ◌∙◌, ◌∷◌, ◌≡◌, ◌≤◌, All, All-nil, AllByRecursion, and_parts, ap, are_counted}
use Rattle.ss_recover.proofs.Common.{are_in_time, are_marks, are_numbered, AreLandmarks, arith, eq-eqb, eqb-true, free_from, FollowFrom, HasValidTimes}
use Rattle.ss_recover.proofs.Common.{is_mark_of, is_none, IsLandmark, IsUsable, Landmark, landmarks_made, LandmarkValue, later, latest_in, latest_of, leb-true}
use Rattle.ss_recover.proofs.Common.{length, List, marks_in, MatchOption, None, opens_from, Option, Record, refl, rise_within, RiseFrom, Some, stream_of, sym}
use Rattle.ss_recover.proofs.Common.{true, value_records, values_first, values_said, ℕ}
use Rattle.ss_recover.proofs.Marks.{marks_of}
use Rattle.ss_codec.specs.declared.record.Record.TheVariants as records
use Rattle.std.proofs.lemmas.List.Elements.{All-cons}

-- the latest time of landmarks is the later of theirs and of the last one's
pub later-assoc : (o p q : Option ℕ) → later o (later p q) ≡ later (later o p) q
later-assoc None p q = refl
later-assoc (Some t) None q = refl
later-assoc (Some t) (Some u) None = refl
later-assoc (Some t) (Some u) (Some v) = ap Some (omega arith)

pub latest_of-push : (ls : List Landmark) (l : Landmark) → latest_of (ls ++ l ∷ []) ≡ later (latest_of ls) (Some (latest_in l))
latest_of-push [] l = refl
latest_of-push (x ∷ xs) l = ap (later (Some (latest_in x))) (latest_of-push xs l) ∙ later-assoc (Some (latest_in x)) (latest_of xs) (Some (latest_in l))

-- ---- where all records are of one stream, those of no landmark and no value change nothing

module _ (id : ℕ) where
  abbrev pub AreOwn : List Record → Type 0
  AreOwn rs = AllByRecursion (λ r. stream_of r ≡ id) rs

  values-own : (rs : List Record) → AreOwn rs → values_first (marks_in id rs) ≡ values_first rs
  values-own [] own = refl
  values-own (records.Landmark k n said start finish ∷ rs) own = rw (eq-eqb k id own.0) refl
  values-own (records.Value k n index t v ∷ rs) own = rw (eq-eqb k id own.0) (ap (λ vs. record { t = t; v = v } ∷ vs) (values-own rs own.1))
  values-own (_ ∷ rs) own = values-own rs own.1

  pub made-own : (rs : List Record) → AreOwn rs → landmarks_made (marks_in id rs) ≡ landmarks_made rs
  made-own [] own = refl
  made-own (records.Landmark k n said start finish ∷ rs) own =
      let values = values-own rs own.1 in
      let rest = made-own rs own.1 in
      rw (eq-eqb k id own.0) (λ i. record { start = start; finish = finish; values = values i } ∷ rest i)
  made-own (records.Value k n index t v ∷ rs) own = rw (eq-eqb k id own.0) (made-own rs own.1)
  made-own (_ ∷ rs) own = made-own rs own.1

  numbered-own : (a b : ℕ) (rs : List Record) → AreOwn rs → are_numbered a b (marks_in id rs) ≡ are_numbered a b rs
  numbered-own a b [] own = refl
  numbered-own a b (records.Landmark k n said start finish ∷ rs) own = rw (eq-eqb k id own.0) (ap (λ x. n == a + 1 && x) (numbered-own n 0 rs own.1))
  numbered-own a b (records.Value k n index t v ∷ rs) own =
      rw (eq-eqb k id own.0) (ap (λ x. n == a && index == b + 1 && x) (numbered-own a index rs own.1))
  numbered-own a b (_ ∷ rs) own = numbered-own a b rs own.1

  counted-own : (rs : List Record) → AreOwn rs → are_counted (marks_in id rs) ≡ are_counted rs
  counted-own [] own = refl
  counted-own (records.Landmark k n said start finish ∷ rs) own =
      let values = values-own rs own.1 in
      let rest = counted-own rs own.1 in
      rw (eq-eqb k id own.0) (λ i. (is_none finish || length (values i) == said) && rest i)
  counted-own (records.Value k n index t v ∷ rs) own = rw (eq-eqb k id own.0) (counted-own rs own.1)
  counted-own (_ ∷ rs) own = counted-own rs own.1

  timed-own : (from : Option ℕ) (rs : List Record) → AreOwn rs → are_in_time from (marks_in id rs) ≡ are_in_time from rs
  timed-own from [] own = refl
  timed-own from (records.Landmark k n said start finish ∷ rs) own =
      let values = values-own rs own.1 in
      let rest = timed-own (free_from finish) rs own.1 in
      rw (eq-eqb k id own.0) (λ i. opens_from from start && rise_within start finish (values i) && rest i)
  timed-own from (records.Value k n index t v ∷ rs) own = rw (eq-eqb k id own.0) (timed-own from rs own.1)
  timed-own from (_ ∷ rs) own = timed-own from rs own.1

  pub are_marks-own : (rs : List Record) → AreOwn rs → are_marks (marks_in id rs) ≡ are_marks rs
  are_marks-own rs own =
      let numbers = numbered-own 0 0 rs own in
      let counts = counted-own rs own in
      let times = timed-own (Some 0) rs own in
      λ i. numbers i && counts i && times i

-- ---- the records, by their numbers and counts

said-is : (said start : ℕ) (finish : Option ℕ) (rs : List Record) → HasValidTimes said start finish →
    (is_none finish || length (values_first rs) == said) ≡ true → said ≡ values_said (record { start = start; finish = finish; values = values_first rs })
said-is said start None rs valid counted = valid.0
said-is said start (Some f) rs valid counted = sym (eqb-true (length (values_first rs)) said counted)

-- those of values of a landmark, and then those of further landmarks
records-of : (number a b : ℕ) (rs : List Record) → AllByRecursion (λ r. is_mark_of number r ≡ true) rs → AllByRecursion IsUsable rs →
    are_numbered a b rs ≡ true → are_counted rs ≡ true →
    rs ≡ value_records number a (b + 1) (values_first rs) ++ marks_of number (a + 1) (landmarks_made rs)
records-of number a b [] own usable numbers counts = refl
records-of number a b (records.Landmark id k said start finish ∷ rs) own usable numbers counts =
    let next = and_parts _ _ numbers in
    let says = and_parts _ _ counts in
    let place : k ≡ a + 1 = eqb-true k (a + 1) next.0 in
    let rest = records-of number k 0 rs own.1 usable.1 next.1 says.1
    ∙ ap (λ (m : ℕ). value_records number m 1 (values_first rs) ++ marks_of number (m + 1) (landmarks_made rs)) place in
    let whole = said-is said start finish rs usable.0.2 says.0 in
    λ i. records.Landmark (eqb-true id number own.0 i) (place i) (whole i) start finish ∷ rest i
records-of number a b (records.Value id k index t v ∷ rs) own usable numbers counts =
    let next = and_parts _ _ numbers in
    let both = and_parts _ _ next.0 in
    let place : index ≡ b + 1 = eqb-true index (b + 1) both.1 in
    let rest = records-of number a index rs own.1 usable.1 next.1 counts
    ∙ ap (λ (j : ℕ). value_records number a (j + 1) (values_first rs) ++ marks_of number (a + 1) (landmarks_made rs)) place in
    λ i. records.Value (eqb-true id number own.0 i) (eqb-true k a both.0 i) (place i) t v ∷ rest i
records-of number a b (_ ∷ rs) own usable numbers counts = absurd (let never = own.0 in cc)

-- no value comes before the first landmark
pub none-first : (rs : List Record) → AllByRecursion IsUsable rs → are_numbered 0 0 rs ≡ true → values_first rs ≡ []
none-first [] usable numbers = refl
none-first (records.Landmark id k said start finish ∷ rs) usable numbers = refl
none-first (records.Value id k index t v ∷ rs) usable numbers =
    let none : k ≡ 0 = eqb-true k 0 (and_parts _ _ (and_parts _ _ numbers).0).0 in
    let low = usable.0.0 in
    absurd (omega (arith, none, low))
none-first (_ ∷ rs) usable numbers = none-first rs usable.1 numbers

-- ---- the landmarks, by their times

rise-first : (from : ℕ) (finish : Option ℕ) (rs : List Record) → AllByRecursion IsUsable rs → rise_within from finish (values_first rs) ≡ true →
    RiseFrom from (values_first rs)
rise-first from finish [] usable rise = tt
rise-first from finish (records.Landmark id k said start end ∷ rs) usable rise = tt
rise-first from finish (records.Value id k index t v ∷ rs) usable rise =
    let next = and_parts _ _ rise in
    (leb-true from t (and_parts _ _ next.0).0, usable.0.3, usable.0.4, rise-first (t + 1) finish rs usable.1 next.1)
rise-first from finish (_ ∷ rs) usable rise = rise-first from finish rs usable.1 rise

end-by : (f from : ℕ) (values : List LandmarkValue) → rise_within from (Some f) values ≡ true → All (λ v. v.t ≤ f) values
end-by f from [] rise = All-nil (λ (v : LandmarkValue). v.t ≤ f)
end-by f from (v ∷ vs) rise =
    let next = and_parts _ _ rise in
    All-cons (λ (x : LandmarkValue). x.t ≤ f) v vs (leb-true v.t f (and_parts _ _ next.0).1) (end-by f (v.t + 1) vs next.1)

landmark-is : (said start : ℕ) (finish : Option ℕ) (rs : List Record) → HasValidTimes said start finish → AllByRecursion IsUsable rs →
    rise_within start finish (values_first rs) ≡ true → IsLandmark (record { start = start; finish = finish; values = values_first rs })
landmark-is said start None rs valid usable rise = record { start = valid.1; values = rise-first start None rs usable rise; finish = tt }
landmark-is said start (Some f) rs valid usable rise = record {
  start = omega (arith, valid.0, valid.1);
  values = rise-first start (Some f) rs usable rise;
  finish = (valid.0, valid.1, end-by f start (values_first rs) rise);
}

in-time : (from : Option ℕ) (rs : List Record) → AllByRecursion IsUsable rs → are_in_time from rs ≡ true →
    MatchOption from (landmarks_made rs ≡ []) (λ t. FollowFrom t (landmarks_made rs))
in-time None [] usable time = refl
in-time (Some from) [] usable time = tt
in-time None (records.Landmark id k said start finish ∷ rs) usable time = absurd (cc)
in-time (Some from) (records.Landmark id k said start finish ∷ rs) usable time =
    let next = and_parts _ _ time in
    let opens = and_parts _ _ next.0 in
    (leb-true from start opens.0, landmark-is said start finish rs usable.0.2 usable.1 opens.1, go finish (in-time (free_from finish) rs usable.1 next.1))
  where
    go : (o : Option ℕ) → MatchOption (free_from o) (landmarks_made rs ≡ []) (λ t. FollowFrom t (landmarks_made rs)) →
        MatchOption o (landmarks_made rs ≡ []) (λ t. FollowFrom (t + 1) (landmarks_made rs))
    go None follow = follow
    go (Some f) follow = follow
in-time from (_ ∷ rs) usable time = in-time from rs usable.1 time

-- records of landmarks with all their values are those of the landmarks that they make
pub record AreOf (number : ℕ) (rs : List Record) (ls : List Landmark) : Type 0 where
  pub records : rs ≡ marks_of number 1 ls
  pub landmarks : AreLandmarks ls

pub AreOf-are_marks : (number : ℕ) (rs : List Record) → AllByRecursion (λ r. is_mark_of number r ≡ true) rs →
    AllByRecursion IsUsable rs → are_marks rs ≡ true → AreOf number rs (landmarks_made rs)
AreOf-are_marks number rs own usable are =
    let both = and_parts _ _ are in
    let first = and_parts _ _ both.0 in
    record {
      records = records-of number 0 0 rs own usable first.0 first.1
          ∙ ap (λ vs. value_records number 0 1 vs ++ marks_of number 1 (landmarks_made rs)) (none-first rs usable first.0);
      landmarks = in-time (Some 0) rs usable both.1;
    }
