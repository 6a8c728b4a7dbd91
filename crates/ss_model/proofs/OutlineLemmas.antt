-- What is read of streams for a refusal is the same where their outlines are.
use Rattle.ss_model.proofs.Common.{◌≡◌, ℕ, List, [], ◌∷◌, length, refl, sym, ap, ◌∙◌, arith, inl, inr, Some, cases_Bool, sum_by-cons, same_name, Event}
use Rattle.ss_model.proofs.Common.{all_values, AreKeptAlike, AllKeptAlike, Stream, live, records_of, stream_named, Outline, event_name, first_that_applies}
use Rattle.ss_model.proofs.Common.{numbers_of, outline_of, option_map}
use Rattle.std.proofs.Common.{Option}
use Rattle.ss_model.specs.Refusals.{refusals, refuses}

live-outlines : (streams others : List Stream) → AllKeptAlike streams others → live streams ≡ live others
live-outlines [] [] same = refl
live-outlines [] (u ∷ us) same = absurd same
live-outlines (s ∷ ss) [] same = absurd same
live-outlines (s ∷ ss) (u ∷ us) same =
    let windows = same.0.windows in
    let landmarks = ap length same.0.landmarks in
    let values = ap (λ ls. length (all_values ls)) same.0.landmarks in
    omega (arith, sum_by-cons records_of s ss, sum_by-cons records_of u us, windows, landmarks, values, live-outlines ss us same.1)

numbers-outlines : (streams others : List Stream) → AllKeptAlike streams others → numbers_of streams ≡ numbers_of others
numbers-outlines [] [] same = refl
numbers-outlines [] (u ∷ us) same = absurd same
numbers-outlines (s ∷ ss) [] same = absurd same
numbers-outlines (s ∷ ss) (u ∷ us) same = let number = same.0.number in let rest = numbers-outlines ss us same.1 in λ i. number i ∷ rest i

-- what is read of the stream of a name
pub read-outlines : {Y : Type 0} (read : Option Stream → Y) → ((s u : Stream) → AreKeptAlike s u → read (Some s) ≡ read (Some u)) →
    (name : List ℕ) (streams others : List Stream) → AllKeptAlike streams others → read (stream_named name streams) ≡ read (stream_named name others)
read-outlines read one name [] [] same = refl
read-outlines read one name [] (u ∷ us) same = absurd same
read-outlines read one name (s ∷ ss) [] same = absurd same
read-outlines read one name (s ∷ ss) (u ∷ us) same =
    let rest = read-outlines read one name ss us same.1 in
    let alike : same_name name s.name ≡ same_name name u.name = ap (same_name name) same.0.name in
    elim (cases_Bool (same_name name s.name)) [
      | inl is ↦ let also : same_name name u.name ≡ _ = sym alike ∙ is in rw (is, also) (one s u same.0)
      | inr other ↦ let also : same_name name u.name ≡ _ = sym alike ∙ other in rw (other, also) rest
    ]

outline-same : (s u : Stream) → AreKeptAlike s u → outline_of s ≡ outline_of u
outline-same s u alike =
    let last = alike.last_time in
    let landmarks = alike.landmarks in
    let values = alike.values in
    λ i. record { last_time = last i; landmarks = landmarks i; values = values i }

pub refuses-outlines : (streams others : List Stream) (event : Event) → AllKeptAlike streams others → refuses streams event ≡ refuses others event
unfolding refuses
refuses-outlines streams others event same =
    let stream = read-outlines (option_map outline_of) (λ s u alike. ap (λ (o : Outline). Some o) (outline-same s u alike))
    (event_name event) streams others same in
    let numbers = numbers-outlines streams others same in
    let records = live-outlines streams others same in
    λ i. first_that_applies (refusals (stream i) (numbers i) (records i) event)
