-- What a stream was given, with one more event.
use Rattle.ss_model.proofs.Common.{◌≡◌, ℕ, ◌+◌, ◌-◌, Bool, true, false, not, List, [], ◌∷◌, ◌++◌, length, refl, ap, arith, append-nil, length_push}
use Rattle.ss_model.proofs.Common.{drop-append-le, filter-append, fold-append, common_steps, same_name, Event, Create, Value, Open, Close, Drop, Params}
use Rattle.ss_model.proofs.Common.{Origin, is_for, creates, given_after, given_to, nothing_given, Happened}
use Rattle.std.specs.List.{after_last, suffix_len}
use Rattle.std.proofs.lemmas.List.{reverse-append}
use Rattle.std.proofs.lemmas.List.Sums.{suffix_len-le-length}
use Rattle.ss_model.specs.History.{events_of}

suffix_len-push_yes : {X : Type 0} (p : X → Bool) (xs : List X) (x : X) → p x ≡ true → suffix_len p (xs ++ x ∷ []) ≡ 1 + suffix_len p xs
suffix_len-push_yes p xs x passes = rw (reverse-append xs (x ∷ []), passes) refl

suffix_len-push_no : {X : Type 0} (p : X → Bool) (xs : List X) (x : X) → p x ≡ false → suffix_len p (xs ++ x ∷ []) ≡ 0
suffix_len-push_no p xs x fails = rw (reverse-append xs (x ∷ []), fails) refl

-- nothing stands after an element that passes
pub after_last-push_yes : {X : Type 0} (p : X → Bool) (xs : List X) (x : X) → p x ≡ true → after_last p (xs ++ x ∷ []) ≡ []
after_last-push_yes p xs x passes =
    let none : suffix_len (λ y. not (p y)) (xs ++ x ∷ []) ≡ 0 = suffix_len-push_no (λ y. not (p y)) xs x (ap not passes) in
    rw none (grind (arith, common_steps))

-- an element that doesn't pass stands after the last that does
pub after_last-push_no : {X : Type 0} (p : X → Bool) (xs : List X) (x : X) → p x ≡ false → after_last p (xs ++ x ∷ []) ≡ after_last p xs ++ x ∷ []
after_last-push_no p xs x fails =
    let q = λ (y : _). not (p y) in
    let more : suffix_len (λ y. not (p y)) (xs ++ x ∷ []) ≡ 1 + suffix_len (λ y. not (p y)) xs = suffix_len-push_yes (λ y. not (p y)) xs x (ap not fails) in
    let few = suffix_len-le-length (λ y. not (p y)) xs in
    let k : length (xs ++ x ∷ []) - suffix_len (λ y. not (p y)) (xs ++ x ∷ []) ≡ length xs - suffix_len (λ y. not (p y)) xs = omega (arith, length_push xs x) in
    rw k (drop-append-le (length xs - suffix_len (λ y. not (p y)) xs) xs (x ∷ []) (omega arith))

-- a stream that is created has been given nothing
pub given_to-created : (history : List Happened) (name : List ℕ) (params : Params) (origin : Origin) → same_name name name ≡ true →
    given_to (history ++ (Create name params, origin) ∷ []) name ≡ nothing_given
given_to-created history name params origin same =
    rw (after_last-push_yes (λ e. creates name e.0) history (Create name params, origin) same) refl

-- an event of the stream that doesn't create it comes last
pub given_to-event : (history : List Happened) (name : List ℕ) (event : Event) (origin : Origin) → is_for name event ≡ true → creates name event ≡ false →
    given_to (history ++ (event, origin) ∷ []) name ≡ given_after origin (given_to history name) event
given_to-event history name event origin own spared =
    rw (
      after_last-push_no (λ e. creates name e.0) history (event, origin) spared,
      filter-append (λ e. is_for name e.0) (after_last (λ e. creates name e.0) history) ((event, origin) ∷ []),
      own,
      fold-append (λ given (e : Happened). given_after e.1 given e.0) nothing_given (events_of history name) ((event, origin) ∷ []),
    ) refl

-- an event for another stream creates none
pub creates-no : (name : List ℕ) (event : Event) → is_for name event ≡ false → creates name event ≡ false
creates-no name (Create other params) fails = fails
creates-no name (Value other t v) fails = refl
creates-no name (Open other t) fails = refl
creates-no name (Close other t) fails = refl
creates-no name (Drop other) fails = refl

-- an event for another stream gives none
pub given_to-other : (history : List Happened) (name : List ℕ) (event : Event) (origin : Origin) → is_for name event ≡ false →
    given_to (history ++ (event, origin) ∷ []) name ≡ given_to history name
given_to-other history name event origin fails =
    let spared : creates name event ≡ false = creates-no name event fails in
    rw (
      after_last-push_no (λ e. creates name e.0) history (event, origin) spared,
      filter-append (λ e. is_for name e.0) (after_last (λ e. creates name e.0) history) ((event, origin) ∷ []),
      fails,
      append-nil (events_of history name),
    ) refl
