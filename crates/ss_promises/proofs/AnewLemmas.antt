-- A name that is dropped has no stream until it is created, and what it has then is what it was given since.
use Rattle.ss_program.proofs.Common.{◌≡◌, ◌∙◌, ℕ, List, [], ◌∷◌, ◌++◌, Bool, true, false, not, refl, sym, ap, inl, inr, append_assoc, All, filter, find}
use Rattle.ss_program.proofs.Common.{is_some, map, cases_Bool, append-nil, All-head, All-tail, same_name, Event, Create, Value, Open, Close, Drop, Params}
use Rattle.ss_program.proofs.Common.{Origin, after_last-push_yes, given_to-created, given_to-event, given_to-other, by_pushes, same_name-same, Happened}
use Rattle.ss_program.proofs.Common.{creates, given_after, given_to, is_for, nothing_given, stands, Created, standing, standing_after, stream_after}
use Rattle.std.proofs.lemmas.List.Sums.{fold-append}
use Rattle.ss_model.specs.State.{state}

-- ---- what it was given

anew-created : (history : List Happened) (name : List ℕ) (event : Event) (origin : Origin) → creates name event ≡ true →
    given_to (history ++ (event, origin) ∷ []) name ≡ nothing_given
anew-created history name event origin creates_it =
    rw (after_last-push_yes (λ e. creates name e.0) history (event, origin) creates_it) refl

anew-push : (one other : List Happened) (name : List ℕ) (event : Event) (origin : Origin) → given_to one name ≡ given_to other name →
    given_to (one ++ (event, origin) ∷ []) name ≡ given_to (other ++ (event, origin) ∷ []) name
anew-push one other name event origin same = elim (cases_Bool (is_for name event)) [
  | inr apart ↦ given_to-other one name event origin apart ∙ same ∙ sym (given_to-other other name event origin apart)
  | inl own ↦ elim (cases_Bool (creates name event)) [
    | inl new ↦ anew-created one name event origin new ∙ sym (anew-created other name event origin new)
    | inr old ↦ given_to-event one name event origin own old ∙ ap (λ g. given_after origin g event) same
        ∙ sym (given_to-event other name event origin own old)
  ]
]

-- a stream has what was given to its name since it was created, whatever was before
pub given_to-anew : (before rest : List Happened) (name : List ℕ) (params : Params) (origin : Origin) →
    given_to (before ++ (Create name params, origin) ∷ rest) name ≡ given_to rest name
given_to-anew before rest name params origin =
    let made : Happened = (Create name params, origin) in
    by_pushes (λ us. given_to (before ++ made ∷ us) name ≡ given_to us name)
    (λ us e same. ap (λ h. given_to h name) (sym (append_assoc before (made ∷ us) (e ∷ []))) ∙ anew-push (before ++ made ∷ us) us name e.0 e.1 same)
    [] rest (given_to-created before name params origin (same_name-same name))

-- ---- whether it has a stream

-- whether some of these have the name
abbrev are_some : List ℕ → List Created → Bool
are_some name ss = is_some (find (λ (s : Created). same_name name s.name) ss)

stands-some : (name : List ℕ) (history : List Happened) (ss : List Created) → stands name (map (stream_after history) ss) ≡ are_some name ss
stands-some name history [] = refl
stands-some name history (s ∷ ss) = elim (cases_Bool (same_name name s.name)) [
  | inl same ↦ rw same refl
  | inr other ↦ rw other (stands-some name history ss)
]

some-push : (name : List ℕ) (ss : List Created) (s : Created) → are_some name ss ≡ false → same_name name s.name ≡ false → are_some name (ss ++ s ∷ []) ≡ false
some-push name [] s none other = rw other refl
some-push name (u ∷ ss) s none other = elim (cases_Bool (same_name name u.name)) [
  | inl same ↦ (let wrong : true ≡ false = rw same at none in cc)
  | inr apart ↦ rw apart (some-push name ss s (rw apart at none) other)
]

some-filter : (name : List ℕ) (p : Created → Bool) (ss : List Created) → are_some name ss ≡ false → are_some name (filter p ss) ≡ false
some-filter name p [] none = refl
some-filter name p (s ∷ ss) none = elim (cases_Bool (same_name name s.name)) [
  | inl same ↦ (let wrong : true ≡ false = rw same at none in cc)
  | inr apart ↦ elim (cases_Bool (p s)) [
    | inl kept ↦ rw (kept, apart) (some-filter name p ss (rw apart at none))
    | inr gone ↦ rw gone (some-filter name p ss (rw apart at none))
  ]
]

some-dropped : (name : List ℕ) (ss : List Created) → are_some name (filter (λ (s : Created). not (same_name name s.name)) ss) ≡ false
some-dropped name [] = refl
some-dropped name (s ∷ ss) = elim (cases_Bool (same_name name s.name)) [
  | inl same ↦ rw same (some-dropped name ss)
  | inr apart ↦ rw (apart, apart) (some-dropped name ss)
]

some-after : (name : List ℕ) (ss : List Created) (event : Event) → creates name event ≡ false → are_some name ss ≡ false →
    are_some name (standing_after ss event) ≡ false
some-after name ss (Create other params) spared none = some-push name ss _ none spared
some-after name ss (Value other t v) spared none = none
some-after name ss (Open other t) spared none = none
some-after name ss (Close other t) spared none = none
some-after name ss (Drop other) spared none = some-filter name (λ (s : Created). not (same_name other s.name)) ss none

standing-push : (history : List Happened) (e : Happened) → standing (history ++ e ∷ []) ≡ standing_after (standing history) e.0
standing-push history e = fold-append (λ stand (e : Happened). standing_after stand e.0) [] history (e ∷ [])

unknown-push : (name : List ℕ) (history : List Happened) (e : Happened) → creates name e.0 ≡ false → stands name (state history) ≡ false →
    stands name (state (history ++ e ∷ [])) ≡ false
unfolding state
unknown-push name history e spared unknown =
    stands-some name (history ++ e ∷ []) (standing (history ++ e ∷ []))
    ∙ ap (are_some name) (standing-push history e)
    ∙ some-after name (standing history) e.0 spared (sym (stands-some name history (standing history)) ∙ unknown)

-- no event but its create makes a stream of a name stand
pub unknown-more : (name : List ℕ) (history more : List Happened) → All (λ e. creates name e.0 ≡ false) more → stands name (state history) ≡ false →
    stands name (state (history ++ more)) ≡ false
unknown-more name history [] spared unknown = rw append-nil unknown
unknown-more name history (e ∷ more) spared unknown =
    let P = λ (e : Happened). creates name e.0 ≡ false in
    ap (λ h. stands name (state h)) (sym (append_assoc history (e ∷ []) more))
    ∙ unknown-more name (history ++ e ∷ []) more (All-tail P e more spared) (unknown-push name history e (All-head P e more spared) unknown)

-- and one that is dropped doesn't
pub unknown-dropped : (name : List ℕ) (history : List Happened) (origin : Origin) → stands name (state (history ++ (Drop name, origin) ∷ [])) ≡ false
unfolding state
unknown-dropped name history origin =
    stands-some name (history ++ (Drop name, origin) ∷ []) (standing (history ++ (Drop name, origin) ∷ []))
    ∙ ap (are_some name) (standing-push history (Drop name, origin))
    ∙ some-dropped name (standing history)
