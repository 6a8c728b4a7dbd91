use Rattle.ss_store.proofs.Common.{◌≡◌, ◌∙◌, ℕ, List, Some, true, false, get_or, refl, ap, sym, arith, nat_le, nat_tests, entries_of, HeldStream, StreamParts}
use Rattle.ss_store.proofs.Common.{held_parts}
use Rattle.ss_store.proofs.Common.{MOST_VALUES, has_open, is_past, values_held, StoreState, has_all_records, live_held, of_part, IsPlaceOf}
use Rattle.std.specs.Prelude.{Option}
use Rattle.ss_store.proofs.Found.{IsAtPlace-found, inside-found, none-found}
use Rattle.ss_store.proofs.LiveCounts.{few-entries}
use Rattle.ss_store.proofs.Named.{IsAtPlace}
use Rattle.ss_store.proofs.Refusals.{not-true, of_part-named, refuses_held-unknown, refuses_held-value}
use Rattle.ss_store.proofs.store.Store.taker.Goals as goal

-- the stream that was found, of which no landmark is open
record IsPlain (name : List ℕ) (place : ℕ) (parts : List StreamParts) (part : StreamParts) : Type 0 where
  is : IsAtPlace name place parts part
  plain : has_open part.landmarks.landmarks ≡ false

IsPlain-found : (held : List HeldStream) {parts : List StreamParts} {found : Option ℕ} {place : ℕ} {stream : HeldStream} (name : List ℕ) →
    held_parts held ≡ parts → found ≡ Some place → IsPlaceOf name parts found → stream ≡ get_or held place stream →
    of_part name parts (λ p. has_open p.landmarks.landmarks) ≡ false → IsPlain name place parts stream.part
IsPlain-found held {parts} {found} {place} {stream} name same is place_is read plain =
    let at = IsAtPlace-found held name same is place_is read in
    record { is = at; plain = sym (of_part-named parts name stream.part (λ p. has_open p.landmarks.landmarks) at.named) ∙ plain }

pub returns-in_default-clause-refused : goal.returns-in_default-clause-refused
returns-in_default-clause-refused g c v =
    refuses_held-unknown c.args.self.now.streams c.args.name.now c.args.t v
    (none-found c.args.self.now.streams c.args.name.now c.in_default.is c.requires.found)

pub index-requires : goal.index-requires
index-requires g c =
    let inside = inside-found c.self.inside.streams.items c.args.name.now (ap (λ (s : StoreState). s.streams) c.self.view_is) c.in-Some.is c.requires.found in
    omega (arith, inside)

pub returns-then-is_past-clause-refused : goal.returns-then-is_past-clause-refused
returns-then-is_past-clause-refused g c v =
    let part = c.index.result.now.part in
    let its = IsPlain-found c.self.inside.streams.items c.args.name.now
    (ap (λ (s : StoreState). s.streams) c.self.view_is) c.in-Some.is c.requires.found c.index.ensures
    c.requires.plain in
    let past : is_past part.last_time c.args.t ≡ true = cc in
    refuses_held-value c.args.self.now.streams c.args.name.now c.args.t v part true _ _ its.is.named its.plain past refl refl

pub returns-then-values_held-ge-MOST_VALUES-clause-refused : goal.returns-then-values_held-ge-MOST_VALUES-clause-refused
returns-then-values_held-ge-MOST_VALUES-clause-refused g c v =
    let part = c.index.result.now.part in
    let its = IsPlain-found c.self.inside.streams.items c.args.name.now
    (ap (λ (s : StoreState). s.streams) c.self.view_is) c.in-Some.is c.requires.found c.index.ensures
    c.requires.plain in
    let later : is_past part.last_time c.args.t ≡ false = cc in
    let full : nat_le MOST_VALUES (values_held (entries_of part)) ≡ true = rw (← c.values_held.ensures.value) (grind (arith, nat_tests)) in
    refuses_held-value c.args.self.now.streams c.args.name.now c.args.t v part false true _ its.is.named its.plain later full refl

pub returns-in-Some-free_slot-clause-accepted : goal.returns-in-Some-free_slot-clause-accepted
returns-in-Some-free_slot-clause-accepted g c v =
    let part = c.index.result.now.part in
    let its = IsPlain-found c.self.inside.streams.items c.args.name.now
    (ap (λ (s : StoreState). s.streams) c.self.view_is) c.in-Some.is c.requires.found c.index.ensures
    c.requires.plain in
    let later : is_past part.last_time c.args.t ≡ false = cc in
    let few : nat_le MOST_VALUES (values_held (entries_of part)) ≡ false = rw (← c.values_held.ensures.value) (grind (arith, nat_tests)) in
    let stored : has_all_records (live_held c.args.self.now.streams) ≡ false =
    not-true _ (λ full. let wrong : true ≡ false = c.in-Some-free_slot.ensures.full.1 full in cc) in
    refuses_held-value c.args.self.now.streams c.args.name.now c.args.t v part false false false its.is.named its.plain later few stored

pub returns-in-None-clause-refused : goal.returns-in-None-clause-refused
returns-in-None-clause-refused g c v =
    let part = c.index.result.now.part in
    let its = IsPlain-found c.self.inside.streams.items c.args.name.now
    (ap (λ (s : StoreState). s.streams) c.self.view_is) c.in-Some.is c.requires.found c.index.ensures
    c.requires.plain in
    let later : is_past part.last_time c.args.t ≡ false = cc in
    let few : nat_le MOST_VALUES (values_held (entries_of part)) ≡ false = rw (← c.values_held.ensures.value) (grind (arith, nat_tests)) in
    refuses_held-value c.args.self.now.streams c.args.name.now c.args.t v part false false true its.is.named its.plain later few
    (c.in-None.ensures.full.0 refl)

pub returns-in-Some-free_slot-clause-taker : goal.returns-in-Some-free_slot-clause-taker
returns-in-Some-free_slot-clause-taker g c =
    let parts = c.args.self.now.streams in
    let part = c.index.result.now.part in
    let its = IsPlain-found c.self.inside.streams.items c.args.name.now
    (ap (λ (s : StoreState). s.streams) c.self.view_is) c.in-Some.is c.requires.found c.index.ensures
    c.requires.plain in
    let later : is_past part.last_time c.args.t ≡ false = cc in
    let stored : has_all_records (live_held parts) ≡ false = not-true _ (λ full. let wrong : true ≡ false = c.in-Some-free_slot.ensures.full.1 full in cc) in
    record {
      part = part;
      named = its.is.named;
      at = its.is.at;
      plain = its.plain;
      later = later;
      room = omega (arith, c.values_held.ensures.value);
      free = sym c.in-Some-free_slot.ensures.least;
      low = c.in-Some-free_slot.ensures.low;
      few = few-entries parts c.in-Some.place part its.is.at stored;
    }
