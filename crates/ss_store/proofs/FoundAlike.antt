-- What a store holds, at a history for which its image stands: what is said of a stream, and the stream that is found.
use Rattle.ss_store.proofs.Common.{◌≡◌, ℕ, true, List, [], ◌∷◌, length, Option, Some, None, refl, ap, sym, inl, inr, ◌==◌, option_map, cases_Bool, same_name}
use Rattle.ss_store.proofs.Common.{Event, StreamId, Happened, refuses, IsStream, Stream, state, stream_named, stream_numbered, AllAgree, StreamParts}
use Rattle.ss_store.proofs.Common.{said_of_held, SomeAgree, StoreIsIn, StoreState, part_named, part_numbered, refuses_held, Stands}
use Rattle.std.proofs.Common.{IfSome}
use Rattle.ss_model.specs.Steps.{ack_of, said_of}
use Rattle.ss_model.proofs.WithinLemmas.{IfSome-find}
use Rattle.ss_stream.proofs.HeldCounts.{length-Agrees, values_held-Agrees}
use Rattle.ss_store.proofs.Among.{length-AllAgree}
use Rattle.ss_store.proofs.Named.{SomeAgree-named, SomeAgree-numbered}
use Rattle.ss_store.proofs.KeptStates.{AllAgree-recovered}
use Rattle.ss_store.proofs.Refusals.{refuses_held-is}
use Rattle.ss_store.proofs.Removed.{find-passes}

-- what is said of a stream
said_alike : (part : Option StreamParts) (s : Option Stream) → IfSome s IsStream → SomeAgree part s → said_of_held part ≡ said_of s
said_alike None None is agree = refl
said_alike None (Some s) is agree = absurd agree
said_alike (Some part) None is agree = absurd agree
said_alike (Some part) (Some s) is agree = let n = values_held-Agrees part s is agree in let k = length-Agrees part s agree in cc

pub said-kept : (store : StoreState) (image : List ℕ) (history : List Happened) (name : List ℕ) → StoreIsIn store image → Stands history image →
    said_of_held (part_named name store.streams) ≡ ack_of name (state history)
said-kept store image history name kept stands =
    let both = AllAgree-recovered store image (state history) kept stands.state in
    said_alike (part_named name store.streams) (stream_named name (state history))
    (IfSome-find IsStream (λ s. same_name name s.name) (state history) both.1.each)
    (SomeAgree-named store.streams (state history) name both.0)

-- what is refused
pub refuses-kept : (store : StoreState) (image : List ℕ) (history : List Happened) (event : Event) → StoreIsIn store image → Stands history image →
    refuses (state history) event ≡ refuses_held store.streams event
refuses-kept store image history event kept stands =
    let both = AllAgree-recovered store image (state history) kept stands.state in
    sym (refuses_held-is store.streams (state history) event both.0 both.1)

-- how many streams and windows are held
pub streams-kept : (store : StoreState) (image : List ℕ) (history : List Happened) → StoreIsIn store image → Stands history image →
    length store.streams ≡ length (state history)
streams-kept store image history kept stands =
    length-AllAgree store.streams (state history)
    (AllAgree-recovered store image (state history) kept stands.state).0

pub windows_alike : (part : Option StreamParts) (o : Option Stream) (s : Stream) → o ≡ Some s → SomeAgree part o →
    IfSome part (λ p. length p.line.entries ≡ length s.windows)
windows_alike None o s is agree = tt
windows_alike (Some part) None s is agree = absurd agree
windows_alike (Some part) (Some t) s is agree =
    let same : t ≡ s = cc in rw same at (length-Agrees part t agree)

pub windows-kept : (store : StoreState) (image : List ℕ) (history : List Happened) (number : ℕ) (s : Stream) →
    StoreIsIn store image → Stands history image →
    stream_numbered number (state history) ≡ Some s → IfSome (part_numbered number store.streams) (λ part. length part.line.entries ≡ length s.windows)
windows-kept store image history number s kept stands is =
    windows_alike (part_numbered number store.streams) (stream_numbered number (state history)) s is
    (SomeAgree-numbered store.streams (state history) number (AllAgree-recovered store image (state history) kept stands.state).0)

-- a stream that isn't held doesn't stand
pub none_alike : (part : Option StreamParts) (o : Option Stream) → None ≡ option_map (λ (p : StreamParts). p.id) part → SomeAgree part o → o ≡ None
none_alike None None is agree = refl
none_alike None (Some s) is agree = absurd agree
none_alike (Some part) o is agree = cc

pub unknown-kept : (store : StoreState) (image : List ℕ) (history : List Happened) (name : List ℕ) → StoreIsIn store image → Stands history image →
    None ≡ option_map (λ part. part.id) (part_named name store.streams) → stream_named name (state history) ≡ None
unknown-kept store image history name kept stands none =
    none_alike (part_named name store.streams) (stream_named name (state history)) none
    (SomeAgree-named store.streams (state history) name (AllAgree-recovered store image (state history) kept stands.state).0)

-- and one that is held is found by its name and by its number
pub both_found : (parts : List StreamParts) (streams : List Stream) (name : List ℕ) (part : StreamParts) → AllAgree parts streams →
    part_named name parts ≡ Some part → part_numbered part.id.0 parts ≡ Some part →
    (s : Stream) × (stream_named name streams ≡ Some s) × (stream_numbered part.id.0 streams ≡ Some s)
both_found [] [] name part each named numbered = cc
both_found [] (s ∷ ss) name part each named numbered = absurd each
both_found (p ∷ ps) [] name part each named numbered = absurd each
both_found (p ∷ ps) (s ∷ ss) name part each named numbered =
    let name_same : same_name name s.name ≡ same_name name p.name = ap (same_name name) (sym each.0.name) in
    let number_same : (part.id.0 == s.number) ≡ (part.id.0 == p.id.0) = ap (λ n. part.id.0 == n) (sym each.0.number) in
    elim (cases_Bool (same_name name p.name)) [
      | inl found ↦ (let here : Some p ≡ Some part = rw found at named in let same : part ≡ p = cc in
          let number : (part.id.0 == p.id.0) ≡ true =
          rw (← same) (find-passes (λ (q : StreamParts). part.id.0 == q.id.0) (p ∷ ps) part numbered) in
          (s, rw (name_same, found) refl, rw (number_same, number) refl))
      | inr other ↦ elim (cases_Bool (part.id.0 == p.id.0)) [
        | inl hit ↦ (let here : Some p ≡ Some part = rw hit at numbered in let same : part ≡ p = cc in
            let passes : same_name name p.name ≡ true =
            rw same at (find-passes (λ (q : StreamParts). same_name name q.name) (p ∷ ps) part named) in
            cc)
        | inr miss ↦ (let rest = both_found ps ss name part each.1 (rw other at named) (rw miss at numbered) in
            (rest.0, rw (name_same, other) rest.1, rw (number_same, miss) rest.2))
      ]
    ]

pub found_alike : (parts : List StreamParts) (streams : List Stream) (name : List ℕ) (id : StreamId) (o : Option StreamParts) → AllAgree parts streams →
    o ≡ part_named name parts → Some id ≡ option_map (λ (p : StreamParts). p.id) o → part_numbered id.0 parts ≡ o →
    (s : Stream) × (stream_named name streams ≡ Some s) × (stream_numbered id.0 streams ≡ Some s)
found_alike parts streams name id None each named number numbered = cc
found_alike parts streams name id (Some part) each named number numbered =
    let same : id ≡ part.id = cc in
    rw same (both_found parts streams name part each (sym named) (rw same at numbered))

pub found-kept : (store : StoreState) (image : List ℕ) (history : List Happened) (name : List ℕ) (id : StreamId) →
    StoreIsIn store image → Stands history image →
    Some id ≡ option_map (λ part. part.id) (part_named name store.streams) → part_numbered id.0 store.streams ≡ part_named name store.streams →
    (s : Stream) × (stream_named name (state history) ≡ Some s) × (stream_numbered id.0 (state history) ≡ Some s)
found-kept store image history name id kept stands number numbered =
    found_alike store.streams (state history) name id (part_named name store.streams) (AllAgree-recovered store image (state history) kept stands.state).0
    refl number numbered
