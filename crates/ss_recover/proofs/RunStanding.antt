-- Records of dropped streams and those of streams that stand, and the streams and the names that records make.
use Rattle.ss_recover.proofs.Common.{[], ◌&&◌, ◌++◌, ◌∙◌, ◌∷◌, ◌≡◌, AllByRecursion, and-false, and-true, ap, Bool, cases_Bool, cond, Created, created_by}
use Rattle.ss_recover.proofs.Common.{false, filter, filter_map-append, Found, if◌then◌else◌, inl, inr, is_doomed, is_dropped, is_own, IsPermutation}
use Rattle.ss_recover.proofs.Common.{IsPermutation-append_left, IsPermutation-sym, IsPermutation-trans, IsUsable, List, map, map-append, not, Record, refl}
use Rattle.ss_recover.proofs.Common.{stands_by, stream_made, stream_of, streams_created, streams_made, streams_standing, subst, true, ℕ}
use Rattle.ss_recover.proofs.RunSound.{names_created}
use Rattle.ss_codec.specs.declared.record.Record.TheVariants as records
use Rattle.std.proofs.lemmas.List.Sorted.{IsPermutation-filter_both}
use Rattle.ss_parts.proofs.Lists.{filter-all, filter-none}

pub names_created-append : (rs qs : List Record) → names_created (rs ++ qs) ≡ names_created rs ++ names_created qs
names_created-append rs qs =
    ap (map (λ (c : Created). c.name)) (filter_map-append created_by rs qs) ∙ map-append (λ (c : Created). c.name) (streams_created rs) (streams_created qs)

pub streams_made-append : (us rs qs : List Record) → streams_made us (rs ++ qs) ≡ streams_made us rs ++ streams_made us qs
streams_made-append us rs qs =
    ap (map (stream_made us)) (filter_map-append stands_by rs qs) ∙ map-append (stream_made us) (streams_standing rs) (streams_standing qs)

-- a stream's own record in its slot
abbrev pub own_found : ℕ → Created → Bool → Found
own_found slot head dropped = record { slot = slot; holds = records.Stream head.number head.name head.params dropped }

-- ---- records of dropped streams and those of streams that stand

-- whether a record's stream stands among others
abbrev pub stands_in : List Record → Record → Bool
stands_in rs r = not (is_dropped (stream_of r) rs)

-- whether a record is a stream's own, or another
abbrev is_kind : Bool → Record → Bool
is_kind own r = if own then is_own r else not (is_own r)

-- those of some records that are of streams that stand, and those of dropped ones, their own or the others
abbrev pub standing_found : List Record → List Found → List Found
standing_found us all = filter (λ (f : Found). stands_in us f.holds) all

abbrev pub gone_found : List Record → Bool → List Found → List Found
gone_found us own all = filter (λ (f : Found). is_kind own f.holds && is_dropped (stream_of f.holds) us) all

pub doomed-same : (own : Bool) (us vs : List Record) (r : Record) → is_dropped (stream_of r) us ≡ is_dropped (stream_of r) vs →
    is_doomed own us r ≡ is_doomed own vs r
doomed-same own us vs records.Free same = refl
doomed-same own us vs r same = ap (λ b. is_kind own r && b) same

-- of records that are usable, these are the doomed ones
pub doomed-gone : (us : List Record) (own : Bool) (all : List Found) → AllByRecursion (λ (f : Found). IsUsable f.holds) all →
    filter (λ (f : Found). is_doomed own us f.holds) all ≡ gone_found us own all
doomed-gone us own [] usable = refl
doomed-gone us own (f ∷ fs) usable =
    let rest = doomed-gone us own fs usable.1 in
    λ i. cond (one f.holds usable.0 i) (f ∷ rest i) (rest i)
  where
    one : (r : Record) → IsUsable r → is_doomed own us r ≡ (is_kind own r && is_dropped (stream_of r) us)
    one records.Free usable = absurd usable
    one _ usable = refl

-- those that pass a test that all pass, or none does
pub filter-const : {X : Type 0} (p : X → Bool) (b : Bool) (xs : List X) → AllByRecursion (λ x. p x ≡ b) xs → filter p xs ≡ cond b xs []
filter-const p true xs all = filter-all p xs all
filter-const p false xs none = filter-none p xs none

filter-filter : {X : Type 0} (p q : X → Bool) (xs : List X) → filter p (filter q xs) ≡ filter (λ x. p x && q x) xs
filter-filter p q [] = refl
filter-filter p q (x ∷ xs) = elim (cases_Bool (q x)) [
  | inl passes ↦ rw (passes, and-true (p x)) (ap (λ l. cond (p x) (x ∷ l) l) (filter-filter p q xs))
  | inr fails ↦ rw (fails, and-false (p x)) (filter-filter p q xs)
]

not-twice : (b : Bool) → b ≡ not (not b)
not-twice true = refl
not-twice false = refl

-- those that pass one test, of these those that pass another and the rest, and those that fail the first
pub in-three : {X : Type 0} (first second : X → Bool) (xs : List X) →
    IsPermutation ((filter (λ x. not (second x) && first x) xs ++ filter (λ x. second x && first x) xs) ++ filter (λ x. not (first x)) xs) xs
in-three first second xs =
    let ys = filter first xs in
    let rest = filter (λ x. not (first x)) xs in
    let some : IsPermutation (filter (λ x. not (second x)) ys ++ filter second ys) ys =
    IsPermutation-sym _ _ (IsPermutation-filter_both (λ x. not (second x)) second (λ x. not-twice (second x)) ys) in
    IsPermutation-trans _ _ _ (IsPermutation-append_left rest _ ys (subst (λ l. IsPermutation l ys)
    (λ i. filter-filter (λ x. not (second x)) first xs i ++ filter-filter second first xs i) some))
    (IsPermutation-sym _ _ (IsPermutation-filter_both first (λ x. not (first x)) (λ x. refl) xs))
